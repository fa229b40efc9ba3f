-- The greatest length of the ways of a program is how long its longest way is.
use Rattle.std.proofs.Common.{◌≡◌, ℕ, ◌+◌, Bool, true, false, List, [], ◌∷◌, ◌++◌, map, refl, sym, ◌∙◌, arith}
use Rattle.std.specs.Prelude.{max, nat_lt, if◌then◌else◌}
use Rattle.std.proofs.lemmas.Bool.Decides.{nat_tests}
use Rattle.width_check.specs.Processes.{Process, skipping, assigning, sending, receiving, in_turn, side_by_side, choosing, repeating, Processes, no_members, and_member, Choices, no_choices, and_choice, TypedProgram}
use Rattle.round_time.specs.Longest.{greatest, guards_depth, within, turn_within, each_within, choice_within, longest}
use Rattle.round_time.specs.Ways.{Way, first_greatest, to_next, to_branch, to_turn, to_body, to_loop, to_begin, to_end, ways, ways_within, turn_ways, each_ways, choice_ways, greatest_length, longest_way}

number_if : {A : Type 0} (number : A → ℕ) (b : Bool) (x y : A) → number (if b then x else y) ≡ (if b then number x else number y)
number_if number true x y = refl
number_if number false x y = refl

greater_of : (a b : ℕ) → (if nat_lt a b then b else a) ≡ max a b
greater_of a b = grind (arith, nat_tests)

pub number_of : {A : Type 0} (number : A → ℕ) (best : A) (xs : List A)
    → number (first_greatest number best xs) ≡ max (number best) (greatest (map number xs))
number_of number best [] = omega arith
number_of number best (x ∷ more) =
    let rest = number_of number (if nat_lt (number best) (number x) then x else best) more in
    let here = number_if number (nat_lt (number best) (number x)) x best ∙ greater_of (number best) (number x) in
    omega arith

pub greatest_append : {A : Type 0} (number : A → ℕ) (best : A) (xs ys : List A)
    → first_greatest number best (xs ++ ys) ≡ first_greatest number (first_greatest number best xs) ys
greatest_append number best [] ys = refl
greatest_append number best (x ∷ xs) ys = greatest_append number (if nat_lt (number best) (number x) then x else best) xs ys

pub lengths_append : (xs ys : List Way) → greatest_length (xs ++ ys) ≡ max (greatest_length xs) (greatest_length ys)
lengths_append [] ys = omega arith
lengths_append (x ∷ xs) ys = let rest = lengths_append xs ys in omega arith

module _ (P : TypedProgram) where
  mutual
    pub within_most : (p : Process) → greatest_length (ways_within P p) ≡ within P p
    within_most skipping = refl
    within_most (assigning x at e) = refl
    within_most (sending c at e) = refl
    within_most (receiving c at x to) = refl
    within_most (in_turn ms) = turn_most ms
    within_most (side_by_side ms) = each_most ms
    within_most (choosing false cs) = choice_most (choosing false cs) (3 + guards_depth cs) cs
    within_most (choosing true cs) =
        let before = choice_most (choosing true cs) (3 + guards_depth cs) cs in
        let all = lengths_append (choice_ways P (choosing true cs) (3 + guards_depth cs) cs) (to_turn P cs ∷ []) in
        omega arith
    within_most (repeating p) =
        let inner = within_most p in
        let all = lengths_append (to_body P p ∷ ways_within P p) (to_loop P p ∷ []) in
        omega arith

    turn_most : (ms : Processes) → greatest_length (turn_ways P ms) ≡ turn_within P ms
    turn_most no_members = refl
    turn_most (and_member p no_members) = within_most p
    turn_most (and_member p (and_member q more)) =
        let here = within_most p in
        let rest = turn_most (and_member q more) in
        let all = lengths_append (ways_within P p) (to_next P p q more ∷ turn_ways P (and_member q more)) in
        omega arith

    each_most : (ms : Processes) → greatest_length (each_ways P ms) ≡ each_within P ms
    each_most no_members = refl
    each_most (and_member p more) =
        let here = within_most p in
        let rest = each_most more in
        let all = lengths_append (ways_within P p) (each_ways P more) in
        omega arith

    choice_most : (itself : Process) (begun : ℕ) (cs : Choices) → greatest_length (choice_ways P itself begun cs) ≡ choice_within P begun cs
    choice_most itself begun no_choices = refl
    choice_most itself begun (and_choice g p more) =
        let here = within_most p in
        let rest = choice_most itself begun more in
        let all = lengths_append (to_branch P itself begun p ∷ ways_within P p) (choice_ways P itself begun more) in
        omega arith

pub ways_longest : (P : TypedProgram) → longest P ≡ greatest_length (ways P)
ways_longest P =
    let inner = within_most P P.body in
    let all = lengths_append (to_begin P ∷ ways_within P P.body) (to_end P ∷ []) in
    omega arith

pub longest_is : (P : TypedProgram) → longest P ≡ (longest_way P).length
longest_is P = ways_longest P ∙ sym (number_of (λ (w : Way). w.length) (to_begin P) (ways_within P P.body ++ to_end P ∷ []))
