-- What a test of each element shows of all of them.
use Rattle.std.proofs.Common.{◌≡◌, ◌≢◌, ℕ, ◌<◌, Bool, true, false, not, List, [], ◌∷◌, arith}
use Rattle.std.specs.Prelude.{◌&&◌, ◌==◌, nat_lt, All}
use Rattle.std.specs.List.{list_all}
use Rattle.std.proofs.lemmas.Bool.{and_parts}
use Rattle.std.proofs.lemmas.Bool.Decides.{nat_tests}
use Rattle.std.proofs.lemmas.List.Elements.{All-cons, All-nil}

all_by : (p : ℕ → Bool) (P : ℕ → Type 0) → ((n : ℕ) → p n ≡ true → P n) → (ns : List ℕ) → list_all p ns ≡ true → All P ns
all_by p P each [] h = All-nil P
all_by p P each (n ∷ ns) h =
    let parts = and_parts (p n) (list_all p ns) h in
    All-cons P n ns (each n parts.0) (all_by p P each ns parts.1)

lt_is : (a b : ℕ) → nat_lt a b ≡ true → a < b
lt_is a b h = grind (arith, nat_tests)

differs : (a b : ℕ) → not (a == b) ≡ true → a ≢ b
differs a b h = grind (arith, nat_tests)

pub below : (count : ℕ) (ns : List ℕ) → list_all (λ n. nat_lt n count) ns ≡ true → All (λ n. n < count) ns
below count ns h = all_by (λ n. nat_lt n count) (λ n. n < count) (λ n. lt_is n count) ns h

pub apart : (m : ℕ) (ns : List ℕ) → list_all (λ n. not (n == m)) ns ≡ true → All (λ n. n ≢ m) ns
apart m ns h = all_by (λ n. not (n == m)) (λ n. n ≢ m) (λ n. differs n m) ns h
