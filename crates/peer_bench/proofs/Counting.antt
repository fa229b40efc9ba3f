-- How a move changes the counts of completed values, and that the script that is kept still stands for the notes.
use Rattle.std.proofs.Common.{◌≡◌, ◌≢◌, ℕ, ◌+◌, ◌<◌, ◌≤◌, Bool, List, [], ◌∷◌, ◌++◌, length, filter, map, refl, sym, ap, ◌∙◌, inl, inr, arith}
use Rattle.std.specs.Prelude.{◌⊎◌, not, ◌&&◌, ◌==◌, Option, Some, None, option_map, option_to_list}
use Rattle.std.proofs.lemmas.Bool.{cases_eq, cases_lt, eq-eqb, ne_eqb}
use Rattle.std.proofs.lemmas.List.{append-nil, length-append, map-append, get_or_past}
use Rattle.std.proofs.lemmas.List.Elements.{filter-append}
use Rattle.std.proofs.lemmas.List.FromFn.{get_or-map-range_with_len, length-map-range_with_len}
use Rattle.prs_core.specs.Nets.{NetValue, IsNet}
use Rattle.prs_core.specs.Moves.{high}
use Rattle.env_script.specs.declared.hazard.Hazard.TheVariants.{Unstable, Protocol}
use Rattle.env_script.specs.Phases.{phase_fault}
use Rattle.env_script.specs.Hazards.{or_else, takes_away, first_hazard, hazard_of}
use Rattle.env_script.specs.Scripts.{OfferValue, offer_at}
use Rattle.env_script.specs.Runs.{RunState, completed, move_enabled, moved}
use Rattle.event_sim.specs.Following.{enabled_moves}
use Rattle.event_sim.specs.Passing.{completion, values_through, channel_histories}
use Rattle.event_sim.specs.Stages.{StageValue, now_of}
use Rattle.event_sim.proofs.Histories.{histories_more}
use Rattle.event_sim.proofs.Lists.{least_agrees}
use Rattle.event_sim.proofs.Members.{agree_below}
use Rattle.event_sim.proofs.Passed.{completion_within}
use Rattle.peer_bench.specs.declared.note.Note.{Note}
use Rattle.peer_bench.specs.Growing.{script_by}
use Rattle.peer_bench.proofs.Liking.{StandsFor, like_later, enabled_like}

values_both : (c : ℕ) (xs ys : List (ℕ × ℕ)) → values_through c (xs ++ ys) ≡ values_through c xs ++ values_through c ys
values_both c xs ys =
    ap (map (λ (p : ℕ × ℕ). p.1)) (filter-append (λ (p : ℕ × ℕ). p.0 == c) xs ys)
    ∙ map-append (λ (p : ℕ × ℕ). p.1) (filter (λ (p : ℕ × ℕ). p.0 == c) xs) (filter (λ (p : ℕ × ℕ). p.0 == c) ys)

count_at : (count : ℕ) (passed : List (ℕ × ℕ)) (c : ℕ) → c < count → completed (channel_histories count passed) c ≡ length (values_through c passed)
count_at count passed c within =
    ap (λ (xs : List ℕ). length xs) (get_or-map-range_with_len (λ k. values_through k passed) 0 count c c [] within (omega arith))

count_past : (count : ℕ) (passed : List (ℕ × ℕ)) (c : ℕ) → count ≤ c → completed (channel_histories count passed) c ≡ 0
count_past count passed c past =
    ap (λ (xs : List ℕ). length xs)
    (get_or_past (channel_histories count passed) c [] (omega (arith, length-map-range_with_len (λ k. values_through k passed) 0 count)))

one_here : (c value : ℕ) → values_through c ((c, value) ∷ []) ≡ value ∷ []
one_here c value = rw (eq-eqb c c refl) refl

none_elsewhere : (c d value : ℕ) → c ≢ d → values_through d ((c, value) ∷ []) ≡ []
none_elsewhere c d value apart = rw (ne_eqb c d apart) refl

-- one more value

more_here : (count : ℕ) (passed : List (ℕ × ℕ)) (c value : ℕ) → c < count →
    completed (channel_histories count (passed ++ (c, value) ∷ [])) c ≡ completed (channel_histories count passed) c + 1
more_here count passed c value within =
    count_at count (passed ++ (c, value) ∷ []) c within ∙ ap (λ (xs : List ℕ). length xs) (values_both c passed ((c, value) ∷ []))
    ∙ length-append (values_through c passed) (values_through c ((c, value) ∷ []))
    ∙ ap (λ (xs : List ℕ). length (values_through c passed) + length xs) (one_here c value)
    ∙ ap (λ (k : ℕ). k + 1) (sym (count_at count passed c within))

more_elsewhere : (count : ℕ) (passed : List (ℕ × ℕ)) (c d value : ℕ) → c ≢ d →
    completed (channel_histories count (passed ++ (c, value) ∷ [])) d ≡ completed (channel_histories count passed) d
more_elsewhere count passed c d value apart = by_place (cases_lt d count)
  where
    by_place : (d < count) ⊎ (count ≤ d) →
        completed (channel_histories count (passed ++ (c, value) ∷ [])) d ≡ completed (channel_histories count passed) d
    by_place (inl within) =
        count_at count (passed ++ (c, value) ∷ []) d within ∙ ap (λ (xs : List ℕ). length xs) (values_both d passed ((c, value) ∷ []))
        ∙ length-append (values_through d passed) (values_through d ((c, value) ∷ []))
        ∙ ap (λ (xs : List ℕ). length (values_through d passed) + length xs) (none_elsewhere c d value apart) ∙ omega arith
        ∙ sym (count_at count passed d within)
    by_place (inr past) = count_past count (passed ++ (c, value) ∷ []) d past ∙ sym (count_past count passed d past)

-- what a move completes, and on which channel

pub counts_none : (s : StageValue) (n : ℕ) → IsNet s.net → completion s.net (high s.values) n ≡ None → (c : ℕ) →
    completed (moved s.net (now_of s) n).histories c ≡ completed (now_of s).histories c
counts_none s n net none c =
    ap (λ (hs : List (List ℕ)). completed hs c) (sym (histories_more s.net net s.values s.passed n))
    ∙ ap (λ (o : Option (ℕ × ℕ)). completed (channel_histories (length s.net.channels) (s.passed ++ option_to_list o)) c) none
    ∙ ap (λ (ps : List (ℕ × ℕ)). completed (channel_histories (length s.net.channels) ps) c) (append-nil s.passed)

some_moved : (s : StageValue) (n : ℕ) (p : ℕ × ℕ) → IsNet s.net → completion s.net (high s.values) n ≡ Some p → (c : ℕ) →
    completed (moved s.net (now_of s) n).histories c ≡ completed (channel_histories (length s.net.channels) (s.passed ++ p ∷ [])) c
some_moved s n p net some c =
    ap (λ (hs : List (List ℕ)). completed hs c) (sym (histories_more s.net net s.values s.passed n))
    ∙ ap (λ (o : Option (ℕ × ℕ)). completed (channel_histories (length s.net.channels) (s.passed ++ option_to_list o)) c) some

pub channel_of : (s : StageValue) (n : ℕ) (p : ℕ × ℕ) → completion s.net (high s.values) n ≡ Some p → p.0 < length s.net.channels
channel_of s n p some = completion_within s.net (high s.values) n (Some p) (length s.net.channels) (sym some) refl

pub counts_here : (s : StageValue) (n : ℕ) (p : ℕ × ℕ) → IsNet s.net → completion s.net (high s.values) n ≡ Some p →
    completed (moved s.net (now_of s) n).histories p.0 ≡ completed (now_of s).histories p.0 + 1
counts_here s n p net some = some_moved s n p net some p.0 ∙ more_here (length s.net.channels) s.passed p.0 p.1 (channel_of s n p some)

pub counts_elsewhere : (s : StageValue) (n : ℕ) (p : ℕ × ℕ) → IsNet s.net → completion s.net (high s.values) n ≡ Some p → (c : ℕ) → p.0 ≢ c →
    completed (moved s.net (now_of s) n).histories c ≡ completed (now_of s).histories c
counts_elsewhere s n p net some c apart = some_moved s n p net some c ∙ more_elsewhere (length s.net.channels) s.passed p.0 c p.1 apart

counts_grow : (s : StageValue) (n : ℕ) → IsNet s.net → (c : ℕ) → completed (now_of s).histories c ≤ completed (moved s.net (now_of s) n).histories c
counts_grow s n net c = by_completion (completion s.net (high s.values) n) refl
  where
    by_place : (p : ℕ × ℕ) → completion s.net (high s.values) n ≡ Some p → (p.0 ≡ c) ⊎ (p.0 ≡ c → ⊥) →
        completed (now_of s).histories c ≤ completed (moved s.net (now_of s) n).histories c
    by_place p some (inl same) =
        let here = counts_here s n p net some in
        let was : completed (now_of s).histories p.0 ≡ completed (now_of s).histories c = ap (completed (now_of s).histories) same in
        let is : completed (moved s.net (now_of s) n).histories p.0 ≡ completed (moved s.net (now_of s) n).histories c =
        ap (completed (moved s.net (now_of s) n).histories) same in
        omega arith
    by_place p some (inr apart) = let there = counts_elsewhere s n p net some c apart in omega arith

    by_completion : (o : Option (ℕ × ℕ)) → completion s.net (high s.values) n ≡ o →
        completed (now_of s).histories c ≤ completed (moved s.net (now_of s) n).histories c
    by_completion None none = let same = counts_none s n net none c in omega arith
    by_completion (Some p) some = by_place p some (cases_eq p.0 c)

-- the script that is kept

pub stands_moved : (s : StageValue) (n : ℕ) (notes : List Note) (script : List OfferValue) → IsNet s.net → StandsFor s.net (now_of s) notes script →
    StandsFor s.net (moved s.net (now_of s) n) notes script
stands_moved s n notes script net stands = record {
  count = stands.count;
  each = λ c. like_later (completed (now_of s).histories c) (completed (moved s.net (now_of s) n).histories c) (offer_at (script_by s.net notes) c)
      (offer_at script c) (counts_grow s n net c) (stands.each c);
}

pub listed_like : (net : NetValue) (st : RunState) (notes : List Note) (script : List OfferValue) → StandsFor net st notes script →
    enabled_moves net script st ≡ enabled_moves net (script_by net notes) st
listed_like net st notes script stands =
    agree_below (move_enabled net script st) (move_enabled net (script_by net notes) st) (length net.first)
    (λ k less. enabled_like net st notes script k stands)

pub hazard_like : (net : NetValue) (st : RunState) (notes : List Note) (script : List OfferValue) (n : ℕ) → StandsFor net st notes script →
    StandsFor net (moved net st n) notes script → hazard_of net script st n ≡ hazard_of net (script_by net notes) st n
hazard_like net st notes script n stands later =
    ap (λ (o : Option ℕ). or_else (first_hazard net (moved net st n))
    (or_else (option_map Unstable o) (option_map Protocol (phase_fault net (high st.values) n))))
    (least_agrees (length net.first) (takes_away net script st n) (takes_away net (script_by net notes) st n) (λ m less. same m))
  where
    same : (m : ℕ) → takes_away net script st n m ≡ takes_away net (script_by net notes) st n m
    same m =
        ap (λ (b : Bool). not (m == n) && (b && not (move_enabled net script (moved net st n) m))) (enabled_like net st notes script m stands)
        ∙ ap (λ (b : Bool). not (m == n) && (move_enabled net (script_by net notes) st m && not b)) (enabled_like net (moved net st n) notes script m later)
