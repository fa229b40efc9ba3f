-- A script that keeps only the last value of each channel is as good as the one that the notes tell.
use Rattle.std.proofs.Common.{◌≡◌, ℕ, suc, ◌+◌, ◌<◌, ◌≤◌, Bool, List, [], ◌∷◌, ◌++◌, length, replicate, refl, sym, ap, ◌∙◌, inl, inr, arith}
use Rattle.std.specs.Prelude.{◌⊎◌, ◌&&◌, ◌||◌, if◌then◌else◌, slice_get, Option, Some}
use Rattle.std.proofs.lemmas.Bool.{cases_lt}
use Rattle.std.proofs.lemmas.List.{length-append, length-replicate, get_or-replicate, get_or_past}
use Rattle.std.proofs.lemmas.List.FromFn.{get_or-map-range_with_len, length-map-range_with_len}
use Rattle.std.proofs.lemmas.Option.{slice_get-get_or, slice_get_past}
use Rattle.prs_core.specs.declared.wires.Wires.{Wires}
use Rattle.prs_core.specs.Nets.{NetValue}
use Rattle.prs_core.specs.Moves.{high, rule_enabled}
use Rattle.env_script.specs.declared.script.Count.{Count}
use Rattle.env_script.specs.Scripts.{OfferValue, gives, takes, nothing, offer_at, is_over}
use Rattle.env_script.specs.Environment.{sender_moves, receiver_moves, offer_moves, channels_move, in_reset, is_reset, rules_rest, raises_go}
use Rattle.env_script.specs.Runs.{RunState, completed, move_enabled}
use Rattle.event_sim.specs.Standings.{offered_count, is_low_ack, is_done, is_idle}
use Rattle.peer_bench.specs.declared.note.Note.{Note}
use Rattle.peer_bench.specs.Growing.{offer_on, script_by}

-- values that are alike from a place on
pub record IsLikeGiven (k : ℕ) (xs ys : List ℕ) : Type 0 where
  pub count : length ys ≡ length xs
  pub rest : (j : ℕ) → k ≤ j → slice_get ys j ≡ slice_get xs j

abbrev pub IsLike : ℕ → OfferValue → OfferValue → Type 0
IsLike k (gives xs) (gives ys) = IsLikeGiven k xs ys
IsLike k (takes a) (takes b) = b ≡ a
IsLike k nothing nothing = Unit {0}
IsLike k _ _ = ⊥

pub like_itself : (k : ℕ) (o : OfferValue) → IsLike k o o
like_itself k (gives xs) = record { count = refl; rest = λ j past. refl }
like_itself k (takes a) = refl
like_itself k nothing = tt

pub like_later : (k l : ℕ) (o p : OfferValue) → k ≤ l → IsLike k o p → IsLike l o p
like_later k l (gives xs) (gives ys) past is = record { count = is.count; rest = λ j more. is.rest j (omega arith) }
like_later k l (gives xs) (takes b) past is = absurd is
like_later k l (gives xs) nothing past is = absurd is
like_later k l (takes a) (gives ys) past is = absurd is
like_later k l (takes a) (takes b) past is = is
like_later k l (takes a) nothing past is = absurd is
like_later k l nothing (gives ys) past is = absurd is
like_later k l nothing (takes b) past is = absurd is
like_later k l nothing nothing past is = is

pub like_moves : (v : ℕ → Bool) (w : Wires) (o p : OfferValue) (k n : ℕ) → IsLike k o p → offer_moves v w p k n ≡ offer_moves v w o k n
like_moves v w (gives xs) (gives ys) k n is = ap (λ next. sender_moves v w next n) (is.rest k (omega arith))
like_moves v w (gives xs) (takes b) k n is = absurd is
like_moves v w (gives xs) nothing k n is = absurd is
like_moves v w (takes a) (gives ys) k n is = absurd is
like_moves v w (takes a) (takes b) k n is = ap (λ (count : Count). receiver_moves v w (is_over count k) n) is
like_moves v w (takes a) nothing k n is = absurd is
like_moves v w nothing (gives ys) k n is = absurd is
like_moves v w nothing (takes b) k n is = absurd is
like_moves v w nothing nothing k n is = refl

pub like_number : (o p : OfferValue) (k : ℕ) → IsLike k o p → offered_count p ≡ offered_count o
like_number (gives xs) (gives ys) k is = ap Some is.count
like_number (gives xs) (takes b) k is = absurd is
like_number (gives xs) nothing k is = absurd is
like_number (takes a) (gives ys) k is = absurd is
like_number (takes a) (takes b) k is = ap (λ (count : Count). offered_count (takes count)) is
like_number (takes a) nothing k is = absurd is
like_number nothing (gives ys) k is = absurd is
like_number nothing (takes b) k is = absurd is
like_number nothing nothing k is = refl

at_end : (xs : List ℕ) (value : ℕ) → slice_get (xs ++ value ∷ []) (length xs) ≡ Some value
at_end [] value = refl
at_end (x ∷ xs) value = at_end xs value

-- one more value, where all before it have completed
pub like_given : (k value : ℕ) (xs ys : List ℕ) → length xs ≤ k → IsLikeGiven k xs ys →
    IsLikeGiven k (xs ++ value ∷ []) (replicate (length ys + 1) value)
like_given k value xs ys done is = record {
  count = omega (arith, length-replicate (length ys + 1) value, length-append xs (value ∷ []), is.count);
  rest = λ j past. by_place j past (cases_lt j (length xs + 1));
}
  where
    by_place : (j : ℕ) → k ≤ j → (j < length xs + 1) ⊎ (length xs + 1 ≤ j) → slice_get (replicate (length ys + 1) value) j ≡ slice_get (xs ++ value ∷ []) j
    by_place j past (inl less) =
        let same : length xs ≡ j = omega arith in
        slice_get-get_or (replicate (length ys + 1) value) j value (omega (arith, length-replicate (length ys + 1) value, is.count))
        ∙ ap Some (get_or-replicate (length ys + 1) j value value (omega (arith, is.count))) ∙ sym (at_end xs value)
        ∙ ap (slice_get (xs ++ value ∷ [])) same
    by_place j past (inr beyond) =
        slice_get_past (replicate (length ys + 1) value) j (omega (arith, length-replicate (length ys + 1) value, is.count))
        ∙ sym (slice_get_past (xs ++ value ∷ []) j (omega (arith, length-append xs (value ∷ []))))

-- the script of the notes, channel by channel

pub script_at : (net : NetValue) (notes : List Note) (c : ℕ) → offer_at (script_by net notes) c ≡ offer_on (slice_get net.channels c) c notes
script_at net notes c = by_place (cases_lt c (length net.channels))
  where
    on : ℕ → OfferValue
    on k = offer_on (slice_get net.channels k) k notes

    by_place : (c < length net.channels) ⊎ (length net.channels ≤ c) → offer_at (script_by net notes) c ≡ offer_on (slice_get net.channels c) c notes
    by_place (inl less) = get_or-map-range_with_len on 0 (length net.channels) c c nothing less (omega arith)
    by_place (inr past) =
        get_or_past (script_by net notes) c nothing (omega (arith, length-map-range_with_len on 0 (length net.channels)))
        ∙ sym (ap (λ w. offer_on w c notes) (slice_get_past net.channels c past))

-- the script that is kept stands for that of the notes, where so much has passed
pub record StandsFor (net : NetValue) (st : RunState) (notes : List Note) (script : List OfferValue) : Type 0 where
  pub count : length script ≡ length net.channels
  pub each : (c : ℕ) → IsLike (completed st.histories c) (offer_at (script_by net notes) c) (offer_at script c)

-- so it is idle where that one is

pub idle_like : (net : NetValue) (st : RunState) (notes : List Note) (script : List OfferValue) (c : ℕ) → StandsFor net st notes script →
    is_idle net script st c ≡ is_idle net (script_by net notes) st c
idle_like net st notes script c stands =
    ap (λ (o : Option ℕ). is_low_ack (high st.values) (slice_get net.channels c) && is_done o (completed st.histories c))
    (like_number (offer_at (script_by net notes) c) (offer_at script c) (completed st.histories c) (stands.each c))

-- and the same moves are enabled

channels_like : (v : ℕ → Bool) (script later : ℕ → OfferValue) (done : ℕ → ℕ) (c : ℕ) (ws : List Wires) (n : ℕ) →
    ((k : ℕ) → IsLike (done k) (script k) (later k)) → channels_move v later done c ws n ≡ channels_move v script done c ws n
channels_like v script later done c [] n each = refl
channels_like v script later done c (w ∷ ws) n each =
    ap (λ (b : Bool). b || channels_move v later done (suc c) ws n) (like_moves v w (script c) (later c) (done c) n (each c))
    ∙ ap (λ (b : Bool). offer_moves v w (script c) (done c) n || b) (channels_like v script later done (suc c) ws n each)

pub enabled_like : (net : NetValue) (st : RunState) (notes : List Note) (script : List OfferValue) (n : ℕ) → StandsFor net st notes script →
    move_enabled net script st n ≡ move_enabled net (script_by net notes) st n
enabled_like net st notes script n stands =
    ap (λ (b : Bool). rule_enabled net (high st.values) n || (if in_reset net.reset (high st.values) then is_reset net.reset n
    && rules_rest net (high st.values) else raises_go (high st.values) n || b))
    (channels_like (high st.values) (offer_at (script_by net notes)) (offer_at script) (completed st.histories) 0 net.channels n stands.each)
