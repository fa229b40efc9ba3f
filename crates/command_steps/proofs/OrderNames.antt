-- An order is found by its name.
use Rattle.std.proofs.Common.{◌≡◌, ℕ, ◌+◌, ◌<◌, Bool, not, cond, List, [], ◌∷◌, length, map, Option, Some, None, refl, sym, ap}
use Rattle.std.specs.Prelude.{IfSome, bytes_eq}
use Rattle.std.specs.List.{position, position_or_len, prefix_len}
use Rattle.std.proofs.lemmas.List.{length-map}
use Rattle.std.proofs.lemmas.List.Quantifiers.{position-Some}
use Rattle.command_steps.specs.Orders.{OrderState, place_named}

prefix_mapped : {X Y : Type 0} (p : Y → Bool) (f : X → Y) (xs : List X) → prefix_len p (map f xs) ≡ prefix_len (λ x. p (f x)) xs
prefix_mapped p f [] = refl
prefix_mapped p f (x ∷ xs) = ap (λ n. cond (p (f x)) (1 + n) 0) (prefix_mapped p f xs)

pub position_mapped : {X Y : Type 0} (p : Y → Bool) (f : X → Y) (xs : List X) → position p (map f xs) ≡ position (λ x. p (f x)) xs
position_mapped p f xs =
    let at : position_or_len p (map f xs) ≡ position_or_len (λ x. p (f x)) xs = prefix_mapped (λ y. not (p y)) f xs in
    rw (at, length-map xs f) refl

-- in a list of what is known of each
pub named_mapped : {X : Type 0} (f : X → OrderState) (xs : List X) (name : List ℕ) → place_named (map f xs) name ≡ position (λ x. bytes_eq (f x).name name) xs
named_mapped f xs name = position_mapped (λ (o : OrderState). bytes_eq o.name name) f xs

pub position_within : {X : Type 0} (p : X → Bool) (xs : List X) (k : ℕ) (d : X) → position p xs ≡ Some k → k < length xs
position_within p xs k d found = (position-Some p xs k d found).0

pub found_within : {X : Type 0} (p : X → Bool) (xs : List X) (r : Option ℕ) → r ≡ position p xs → IfSome r (λ k. k < length xs)
found_within p [] None e = tt
found_within p (x ∷ xs) None e = tt
found_within p [] (Some k) e = absurd (cc e)
found_within p (x ∷ xs) (Some k) e = position_within p (x ∷ xs) k x (sym e)
