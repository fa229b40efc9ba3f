-- One more pick: what it adds to the moves, to what has passed, and to the hazard of the last move.
use Rattle.std.proofs.Common.{◌≡◌, ℕ, zero, suc, ◌+◌, ◌<◌, ◌≤◌, Bool, true, false, cond, List, [], ◌∷◌, ◌++◌, length, get_or, filter, refl, sym, ap, ◌∙◌, arith}
use Rattle.std.specs.Prelude.{All, AllPairs, option_to_list}
use Rattle.std.specs.List.{range_with_len}
use Rattle.std.proofs.lemmas.List.{append_assoc}
use Rattle.std.proofs.lemmas.List.Elements.{filter_passes, All-filter}
use Rattle.std.proofs.lemmas.List.FromFn.{get_or-range_with_len, length-range_with_len}
use Rattle.prs_core.specs.Nets.{NetValue}
use Rattle.prs_core.specs.Moves.{high}
use Rattle.env_script.specs.Scripts.{OfferValue}
use Rattle.env_script.specs.Runs.{RunState, IsRun, move_enabled, moved, after}
use Rattle.env_script.specs.Hazards.{hazard_of}
use Rattle.event_sim.specs.Following.{enabled_moves, move_at, follow, ArePicks}
use Rattle.event_sim.specs.Passing.{completion, passed_in}
use Rattle.event_sim.specs.Ends.{last_hazard}

pub after_more : (net : NetValue) (st : RunState) (ns : List ℕ) (n : ℕ) → after net st (ns ++ n ∷ []) ≡ moved net (after net st ns) n
after_more net st [] n = refl
after_more net st (m ∷ ns) n = after_more net (moved net st m) ns n

pub follow_more : (net : NetValue) (script : List OfferValue) (st : RunState) (picks : List ℕ) (p : ℕ) →
    follow net script st (picks ++ p ∷ []) ≡ follow net script st picks ++ move_at net script (after net st (follow net script st picks)) p ∷ []
follow_more net script st [] p = refl
follow_more net script st (q ∷ picks) p =
    ap (λ (ns : List ℕ). move_at net script st q ∷ ns) (follow_more net script (moved net st (move_at net script st q)) picks p)

pub follow_length : (net : NetValue) (script : List OfferValue) (st : RunState) (picks : List ℕ) → length (follow net script st picks) ≡ length picks
follow_length net script st [] = refl
follow_length net script st (q ∷ picks) = ap suc (follow_length net script (moved net st (move_at net script st q)) picks)

pub picks_more : (net : NetValue) (script : List OfferValue) (st : RunState) (picks : List ℕ) (p : ℕ) → ArePicks net script st picks →
    p < length (enabled_moves net script (after net st (follow net script st picks))) → ArePicks net script st (picks ++ p ∷ [])
picks_more net script st [] p are within = (within, tt)
picks_more net script st (q ∷ picks) p are within = (are.0, picks_more net script (moved net st (move_at net script st q)) picks p are.1 within)

pub last_more : (net : NetValue) (script : List OfferValue) (st : RunState) (ns : List ℕ) (n : ℕ) →
    last_hazard net script st (ns ++ n ∷ []) ≡ hazard_of net script (after net st ns) n
last_more net script st [] n = refl
last_more net script st (m ∷ []) n = refl
last_more net script st (m ∷ k ∷ ns) n = last_more net script (moved net st m) (k ∷ ns) n

pub passed_more : (net : NetValue) (st : RunState) (ns : List ℕ) (n : ℕ) → passed_in net st (ns ++ n ∷ []) ≡ passed_in net st ns
    ++ option_to_list (completion net (high (after net st ns).values) n)
passed_more net st [] n = append_nil (option_to_list (completion net (high st.values) n))
  where
    append_nil : (xs : List (ℕ × ℕ)) → xs ++ [] ≡ xs
    append_nil [] = refl
    append_nil (x ∷ xs) = ap (λ (ys : List (ℕ × ℕ)). x ∷ ys) (append_nil xs)
passed_more net st (m ∷ ns) n =
    ap (λ (ys : List (ℕ × ℕ)). option_to_list (completion net (high st.values) m) ++ ys) (passed_more net (moved net st m) ns n)
    ∙ sym (append_assoc (option_to_list (completion net (high st.values) m)) (passed_in net (moved net st m) ns) _)

-- what stands in the list is enabled
pub enabled_at : (net : NetValue) (script : List OfferValue) (st : RunState) (p : ℕ) → p < length (enabled_moves net script st) →
    move_enabled net script st (move_at net script st p) ≡ true
enabled_at net script st p within = filter_passes (move_enabled net script st) (range_with_len 0 (length net.first)) p 0 within

pub range_below : (n : ℕ) → All (λ k. k < n) (range_with_len 0 n)
range_below n = λ i d within. let e = get_or-range_with_len 0 n i d (omega (arith, length-range_with_len 0 n)) in omega (arith, length-range_with_len 0 n)

pub enabled_below : (net : NetValue) (script : List OfferValue) (st : RunState) → All (λ k. k < length net.first) (enabled_moves net script st)
enabled_below net script st = All-filter (move_enabled net script st) (λ k. k < length net.first) (range_with_len 0 (length net.first))
    (range_below (length net.first))

-- each of the picked moves is enabled when its turn comes
pub picked_run : (net : NetValue) (script : List OfferValue) (st : RunState) (picks : List ℕ) → ArePicks net script st picks →
    IsRun net script st (follow net script st picks)
picked_run net script st [] are = tt
picked_run net script st (p ∷ picks) are =
    (enabled_at net script st p are.0, picked_run net script (moved net st (move_at net script st p)) picks are.1)

-- a list of some numbers in a row is ascending

from_on : (p : ℕ → Bool) (a n : ℕ) → All (λ k. a ≤ k) (filter p (range_with_len a n))
from_on p a n = All-filter p (λ k. a ≤ k) (range_with_len a n) (λ i d within. let e =
    get_or-range_with_len a n i d (omega (arith, length-range_with_len a n)) in omega arith)

pub ascending : (p : ℕ → Bool) (a n : ℕ) → AllPairs (λ (x y : ℕ). x < y) (filter p (range_with_len a n))
ascending p a zero = λ i j d less within. absurd (omega arith)
ascending p a (suc n) = by_test (p a) (ascending p (a + 1) n)
  where
    by_test : (b : Bool) → AllPairs (λ (x y : ℕ). x < y) (filter p (range_with_len (a + 1) n)) →
        AllPairs (λ (x y : ℕ). x < y) (cond b (a ∷ filter p (range_with_len (a + 1) n)) (filter p (range_with_len (a + 1) n)))
    by_test false rest = rest
    by_test true rest = λ i j d less within. by_place i j d less within
      where
        by_place : (i j d : ℕ) → i < j → j < suc (length (filter p (range_with_len (a + 1) n))) →
            get_or (a ∷ filter p (range_with_len (a + 1) n)) i d < get_or (a ∷ filter p (range_with_len (a + 1) n)) j d
        by_place i zero d less within = absurd (omega arith)
        by_place zero (suc j) d less within = let from = from_on p (a + 1) n j d (omega arith) in omega arith
        by_place (suc i) (suc j) d less within = rest i j d (omega arith) (omega arith)
