-- The guards of a net with a reset node, while reset is high and when it is low.
use Rattle.std.proofs.Common.{◌≡◌, ℕ, zero, suc, ◌≤◌, Bool, true, false, List, [], ◌∷◌, ◌++◌, length, get_or, map, refl, sym, ap, ◌∙◌, inl, inr, arith}
use Rattle.std.specs.Prelude.{◌⊎◌, ◌<◌, not, ◌&&◌, ◌||◌, if◌then◌else◌}
use Rattle.std.specs.List.{range_with_len}
use Rattle.std.proofs.lemmas.Bool.{and_right, or_from, or_right, cases_lt}
use Rattle.std.proofs.lemmas.List.{get_or_past}
use Rattle.std.proofs.lemmas.List.Folds.{list_all-append, list_any-append}
use Rattle.std.proofs.lemmas.List.FromFn.{length-map-range_with_len, get_or-map-range_with_len}
use Rattle.prs_core.specs.Nets.{GuardValue, NetValue, IsNet, IsUndriven, first_at, up_of, down_of}
use Rattle.prs_core.specs.Moves.{literal_holds, term_holds, guard_holds, rule_enabled, both_ways}
use Rattle.env_script.specs.Runs.{RunState}
use Rattle.reset_net.specs.Resets.{reset_literal, held, forced, has_rules, reset_guard, reset_up, reset_down, reset_of}

-- a list with its default at the end reads as it did
pub with_default : {X : Type 0} (xs : List X) (d : X) (k : ℕ) → get_or (xs ++ d ∷ []) k d ≡ get_or xs k d
with_default [] d zero = refl
with_default [] d (suc k) = refl
with_default (x ∷ xs) d zero = refl
with_default (x ∷ xs) d (suc k) = with_default xs d k

pub same_state : (vs ws : List Bool) (hs gs : List (List ℕ)) → vs ≡ ws → hs ≡ gs →
    ◌≡◌ {A = RunState} (record { values = vs; histories = hs }) (record { values = ws; histories = gs })
same_state vs ws hs gs p q = λ i. record { values = p i; histories = q i }

-- the node has rules
abbrev pub driven : NetValue → ℕ → Bool
driven n k = has_rules (up_of n k) (down_of n k)

pub undriven_past : (n : NetValue) → IsNet n → (k : ℕ) → length n.first ≤ k → driven n k ≡ false
undriven_past n is k past =
    let ups : up_of n k ≡ [] = get_or_past n.up k [] (omega (arith, is.ups)) in
    let downs : down_of n k ≡ [] = get_or_past n.down k [] (omega (arith, is.downs)) in
    rw (ups, downs) refl

chosen_none : (b : Bool) (g : GuardValue) → b ≡ false → (if b then g else []) ≡ []
chosen_none true g e = absurd (cc e)
chosen_none false g e = refl

laid : (f : ℕ → GuardValue) (count k : ℕ) → (count ≤ k → f k ≡ []) → get_or (map f (range_with_len 0 count) ++ [] ∷ []) k [] ≡ f k
laid f count k none = with_default (map f (range_with_len 0 count)) [] k ∙ by_place (cases_lt k count)
  where
    by_place : (k < count) ⊎ (count ≤ k) → get_or (map f (range_with_len 0 count)) k [] ≡ f k
    by_place (inl within) = get_or-map-range_with_len f 0 count k k [] within (omega arith)
    by_place (inr past) = get_or_past (map f (range_with_len 0 count)) k [] (omega (arith, length-map-range_with_len f 0 count)) ∙ sym (none past)

up_is : (n : NetValue) → IsNet n → (k : ℕ) → up_of (reset_of n) k ≡ reset_up n k
up_is n is k = laid (reset_up n) (length n.first) k (λ past. chosen_none (driven n k) _ (undriven_past n is k past))

down_is : (n : NetValue) → IsNet n → (k : ℕ) → down_of (reset_of n) k ≡ reset_down n k
down_is n is k = laid (reset_down n) (length n.first) k (λ past. chosen_none (driven n k) _ (undriven_past n is k past))

pub undriven_still : (n : NetValue) → IsNet n → (k : ℕ) → driven n k ≡ false → IsUndriven (reset_of n) k
undriven_still n is k none = record { up = up_is n is k ∙ chosen_none (driven n k) _ none; down = down_is n is k ∙ chosen_none (driven n k) _ none }

-- While reset is high: no held guard holds, each forced one does.

held_off : (v : ℕ → Bool) (r : ℕ) → v r ≡ true → (g : GuardValue) → guard_holds v (held r g) ≡ false
held_off v r up [] = refl
held_off v r up (t ∷ ts) =
    or_from (term_holds v (t ++ reset_literal r false ∷ [])) _
    (list_all-append (literal_holds v) t (reset_literal r false ∷ []) ∙ and_right (term_holds v t) _ (ap (λ b. not b && true) up))
    (held_off v r up ts)

forced_on : (v : ℕ → Bool) (r : ℕ) → v r ≡ true → (g : GuardValue) → guard_holds v (forced r g) ≡ true
forced_on v r up g =
    list_any-append (term_holds v) g ((reset_literal r true ∷ []) ∷ []) ∙ or_right (guard_holds v g) _ (ap (λ b. (b && true) || false) up)

guard_high : (v : ℕ → Bool) (r : ℕ) → v r ≡ true → (back : Bool) (g : GuardValue) → guard_holds v (reset_guard r back g) ≡ back
guard_high v r up true g = forced_on v r up g
guard_high v r up false g = held_off v r up g

chosen_high : (v : ℕ → Bool) (r : ℕ) → v r ≡ true → (back : Bool) (g : GuardValue) (b : Bool) →
    guard_holds v (if b then reset_guard r back g else []) ≡ (b && back)
chosen_high v r up back g true = guard_high v r up back g
chosen_high v r up back g false = refl

up_high : (n : NetValue) → IsNet n → (v : ℕ → Bool) → v (length n.first) ≡ true → (k : ℕ) → guard_holds v (up_of (reset_of n) k) ≡ (driven n k && first_at n k)
up_high n is v up k = ap (guard_holds v) (up_is n is k) ∙ chosen_high v (length n.first) up (first_at n k) (up_of n k) (driven n k)

down_high : (n : NetValue) → IsNet n → (v : ℕ → Bool) → v (length n.first) ≡ true → (k : ℕ) →
    guard_holds v (down_of (reset_of n) k) ≡ (driven n k && not (first_at n k))
down_high n is v up k = ap (guard_holds v) (down_is n is k) ∙ chosen_high v (length n.first) up (not (first_at n k)) (down_of n k) (driven n k)

abbrev pub differs : Bool → Bool → Bool
differs true b = not b
differs false b = b

-- the node has rules, and isn't at its first value
abbrev pub strays : NetValue → (ℕ → Bool) → ℕ → Bool
strays n v k = driven n k && differs (v k) (first_at n k)

pub rule_high : (n : NetValue) → IsNet n → (v : ℕ → Bool) → v (length n.first) ≡ true → (k : ℕ) → rule_enabled (reset_of n) v k ≡ strays n v k
rule_high n is v up k = by_value (v k)
  where
    by_value : (b : Bool) → (if b then guard_holds v (down_of (reset_of n) k) else guard_holds v (up_of (reset_of n) k)) ≡
        (driven n k && differs b (first_at n k))
    by_value true = down_high n is v up k
    by_value false = up_high n is v up k

pub both_high : (n : NetValue) → IsNet n → (v : ℕ → Bool) → v (length n.first) ≡ true → (k : ℕ) → both_ways (reset_of n) v k ≡ false
both_high n is v up k = ap (λ b. b && guard_holds v (down_of (reset_of n) k)) (up_high n is v up k)
    ∙ ap (λ b. (driven n k && first_at n k) && b) (down_high n is v up k) ∙ never (driven n k) (first_at n k)
  where
    never : (a b : Bool) → ((a && b) && (a && not b)) ≡ false
    never true true = refl
    never true false = refl
    never false b = refl

-- When reset is low each guard says what it said without reset.

held_same : (v : ℕ → Bool) (r : ℕ) → v r ≡ false → (g : GuardValue) → guard_holds v (held r g) ≡ guard_holds v g
held_same v r low [] = refl
held_same v r low (t ∷ ts) =
    ap (λ b. b || guard_holds v (held r ts)) (list_all-append (literal_holds v) t (reset_literal r false ∷ []) ∙ ap (λ b. term_holds v t && (not b && true)) low
    ∙ with_true (term_holds v t))
    ∙ ap (λ b. term_holds v t || b) (held_same v r low ts)
  where
    with_true : (a : Bool) → (a && true) ≡ a
    with_true true = refl
    with_true false = refl

forced_same : (v : ℕ → Bool) (r : ℕ) → v r ≡ false → (g : GuardValue) → guard_holds v (forced r g) ≡ guard_holds v g
forced_same v r low g =
    list_any-append (term_holds v) g ((reset_literal r true ∷ []) ∷ []) ∙ ap (λ b. guard_holds v g || ((b && true) || false)) low ∙ with_false (guard_holds v g)
  where
    with_false : (a : Bool) → (a || false) ≡ a
    with_false true = refl
    with_false false = refl

guard_same : (v : ℕ → Bool) (r : ℕ) → v r ≡ false → (back : Bool) (g : GuardValue) → guard_holds v (reset_guard r back g) ≡ guard_holds v g
guard_same v r low true g = forced_same v r low g
guard_same v r low false g = held_same v r low g

chosen_up : (v : ℕ → Bool) (r : ℕ) → v r ≡ false → (back : Bool) (up down : GuardValue) →
    guard_holds v (if has_rules up down then reset_guard r back up else []) ≡ guard_holds v up
chosen_up v r low back [] [] = refl
chosen_up v r low back [] (t ∷ ts) = guard_same v r low back []
chosen_up v r low back (t ∷ ts) down = guard_same v r low back (t ∷ ts)

chosen_down : (v : ℕ → Bool) (r : ℕ) → v r ≡ false → (back : Bool) (up down : GuardValue) →
    guard_holds v (if has_rules up down then reset_guard r back down else []) ≡ guard_holds v down
chosen_down v r low back [] [] = refl
chosen_down v r low back [] (t ∷ ts) = guard_same v r low back (t ∷ ts)
chosen_down v r low back (t ∷ ts) down = guard_same v r low back down

up_low : (n : NetValue) → IsNet n → (v : ℕ → Bool) → v (length n.first) ≡ false → (k : ℕ) → guard_holds v (up_of (reset_of n) k) ≡ guard_holds v (up_of n k)
up_low n is v low k = ap (guard_holds v) (up_is n is k) ∙ chosen_up v (length n.first) low (first_at n k) (up_of n k) (down_of n k)

down_low : (n : NetValue) → IsNet n → (v : ℕ → Bool) → v (length n.first) ≡ false → (k : ℕ) →
    guard_holds v (down_of (reset_of n) k) ≡ guard_holds v (down_of n k)
down_low n is v low k = ap (guard_holds v) (down_is n is k) ∙ chosen_down v (length n.first) low (not (first_at n k)) (up_of n k) (down_of n k)

pub rule_low : (n : NetValue) → IsNet n → (v : ℕ → Bool) → v (length n.first) ≡ false → (k : ℕ) → rule_enabled (reset_of n) v k ≡ rule_enabled n v k
rule_low n is v low k = by_value (v k)
  where
    by_value : (b : Bool) → (if b then guard_holds v (down_of (reset_of n) k) else guard_holds v (up_of (reset_of n) k)) ≡
        (if b then guard_holds v (down_of n k) else guard_holds v (up_of n k))
    by_value true = down_low n is v low k
    by_value false = up_low n is v low k

pub both_low : (n : NetValue) → IsNet n → (v : ℕ → Bool) → v (length n.first) ≡ false → (k : ℕ) → both_ways (reset_of n) v k ≡ both_ways n v k
both_low n is v low k = ap (λ b. b && guard_holds v (down_of (reset_of n) k)) (up_low n is v low k)
    ∙ ap (λ b. guard_holds v (up_of n k) && b) (down_low n is v low k)
