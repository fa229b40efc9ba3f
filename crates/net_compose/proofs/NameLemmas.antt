-- The names of nodes are names of nodes.
use Rattle.std.proofs.Common.{◌≡◌, ℕ, ◌<◌, ◌≤◌, ◌^◌, Bool, true, false, List, [], ◌∷◌, ◌++◌, length, refl, arith, length-append, lit≤}
use Rattle.std.specs.Prelude.{◌&&◌, ◌||◌, ◌==◌, decimal, codes}
use Rattle.std.specs.List.{list_all}
use Rattle.std.proofs.lemmas.Bool as bool
use Rattle.std.proofs.lemmas.Bool.{and_from, and_parts}
use Rattle.std.specs.Str.Parse.{AllDigits}
use Rattle.std.specs.Int.{IsInRange}
use Rattle.std.proofs.lemmas.Bool.Decides.{nat_tests}
use Rattle.std.proofs.lemmas.Str.Parse.{tells_digits}
use Rattle.std.proofs.lemmas.Fmt.{decimal_is_IsNumeral, length-decimal-le}
use Rattle.chp_base.specs.Names.{IsName, IsNodeName, letter, digit, word_part, node_part, begins_with_letter}
use Rattle.handshake_expand.specs.Named.{numbered}

in_order : (c : ℕ) → 48 ≤ c → c ≤ 57 → digit c ≡ true
in_order c low high = grind (arith, nat_tests)

or_left : (a b : Bool) → a ≡ true → (a || b) ≡ true
or_left true b e = refl
or_left false b e = absurd (cc e)

or_right : (a b : Bool) → b ≡ true → (a || b) ≡ true
or_right true b e = refl
or_right false b e = e

and_both : (a b : Bool) → a ≡ true → b ≡ true → (a && b) ≡ true
and_both true b e f = f
and_both false b e f = absurd (cc e)

digit_is_part : (c : ℕ) → IsInRange 48 57 c → node_part c ≡ true
digit_is_part c r = or_left _ _ (or_left _ _ (or_right (letter c) _ (in_order c r.0 r.1)))

digits_are_parts : (ds : List ℕ) → AllDigits 10 ds → list_all node_part ds ≡ true
digits_are_parts [] h = refl
digits_are_parts (c ∷ cs) h = let t = tells_digits.parts c cs h in and_both _ _ (digit_is_part c t.0) (digits_are_parts cs t.1)

pub numbered_is_name : (node : ℕ) → node < 2 ^ 32 → IsNodeName (numbered node)
numbered_is_name node small = record {
  short = omega (arith, length-decimal-le 10 node (omega arith) (omega arith) (omega arith));
  first = refl;
  parts = digits_are_parts (decimal node) (decimal_is_IsNumeral node (omega arith)).0.1;
}

-- names of wires, and of go and done

pub parts_are : (xs : List ℕ) → list_all word_part xs ≡ true → list_all node_part xs ≡ true
parts_are [] h = refl
parts_are (b ∷ bs) h =
    let t = and_parts (word_part b) (list_all word_part bs) h in
    and_from (node_part b) (list_all node_part bs) (bool.or_left (word_part b) (b == 46) t.0) (parts_are bs t.1)

pub all_append : (p : ℕ → Bool) (xs ys : List ℕ) → list_all p xs ≡ true → list_all p ys ≡ true → list_all p (xs ++ ys) ≡ true
all_append p [] ys h k = k
all_append p (x ∷ xs) ys h k =
    let t = and_parts (p x) (list_all p xs) h in
    and_from (p x) (list_all p (xs ++ ys)) t.0 (all_append p xs ys t.1 k)

first_append : (xs ys : List ℕ) → begins_with_letter xs ≡ true → begins_with_letter (xs ++ ys) ≡ true
first_append [] ys h = absurd (cc h)
first_append (x ∷ xs) ys h = h

pub wire_is_name : (name tail : List ℕ) → IsName name → list_all node_part tail ≡ true → length tail ≤ 8 → IsNodeName (name ++ tail)
wire_is_name name tail is parts short = record {
  short = omega (arith, length-append name tail, is.short, short);
  first = first_append name tail is.first;
  parts = all_append node_part name tail (parts_are name is.parts) parts;
}

pub go_is_name : IsNodeName (codes "go")
go_is_name = record { short = lit≤ tt; first = refl; parts = refl }

pub done_is_name : IsNodeName (codes "done")
done_is_name = record { short = lit≤ tt; first = refl; parts = refl }
