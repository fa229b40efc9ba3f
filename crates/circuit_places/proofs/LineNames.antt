-- Lines are told apart by their kinds and numbers.
use Rattle.std.proofs.Common.{◌≡◌, ℕ, ◌==◌, true, ap, arith}
use Rattle.std.proofs.lemmas.Bool.Decides.{nat_tests}
use Rattle.circuit_places.specs.Lines.{Line, of_channel, of_var, same_line}

pub self_number : (c : ℕ) → (c == c) ≡ true
self_number c = grind (arith, nat_tests)

pub same_number : (c k : ℕ) → (c == k) ≡ true → c ≡ k
same_number c k h = grind (arith, nat_tests)

pub self_line : (k : Line) → same_line k k ≡ true
self_line (of_channel c) = self_number c
self_line (of_var x) = self_number x

pub same_line_is : (c k : Line) → same_line c k ≡ true → c ≡ k
same_line_is (of_channel c) (of_channel k) h = ap (λ i. of_channel i) (same_number c k h)
same_line_is (of_var x) (of_var y) h = ap (λ i. of_var i) (same_number x y h)
same_line_is (of_channel c) (of_var y) h = absurd (cc h)
same_line_is (of_var x) (of_channel k) h = absurd (cc h)
