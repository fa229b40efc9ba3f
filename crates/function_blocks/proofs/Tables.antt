-- More facts of a few Booleans.
use Rattle.std.proofs.Common.{◌≡◌, Bool, true, false, refl, ◌⊎◌, inl, inr}
use Rattle.std.specs.Prelude.{not, ◌||◌}
use Rattle.prs_core.specs.Deciding.{implies, all_1, all_6, at_1, at_6}
use Rattle.function_blocks.specs.Rails.{same_bit}

pub implies_from : (a b : Bool) → (a ≡ true → b ≡ true) → implies a b ≡ true
implies_from true b h = h refl
implies_from false b h = refl

pub not_true : (b : Bool) → not b ≡ true → b ≡ false
not_true true h = absurd (cc h)
not_true false h = refl

pub not_false : (b : Bool) → b ≡ false → not b ≡ true
not_false true h = absurd (cc h)
not_false false h = refl

pub same_is : (a b : Bool) → same_bit a b ≡ true → a ≡ b
same_is true true h = refl
same_is true false h = absurd (cc h)
same_is false true h = absurd (cc h)
same_is false false h = refl

pub or_left : (a b : Bool) → a ≡ true → (a || b) ≡ true
or_left true b h = refl
or_left false b h = absurd (cc h)

pub or_right : (a b : Bool) → b ≡ true → (a || b) ≡ true
or_right true b h = refl
or_right false b h = h

pub or_true : (a b : Bool) → (a || b) ≡ true → (a ≡ true) ⊎ (b ≡ true)
or_true true b h = inl refl
or_true false b h = inr h

pub or_false : (b : Bool) → (b || false) ≡ b
or_false true = refl
or_false false = refl

abbrev pub all_7 : (Bool → Bool → Bool → Bool → Bool → Bool → Bool → Bool) → Bool
all_7 p = all_1 (λ a. all_6 (p a))

abbrev pub all_8 : (Bool → Bool → Bool → Bool → Bool → Bool → Bool → Bool → Bool) → Bool
all_8 p = all_1 (λ a. all_7 (p a))

pub at_7 : (p : Bool → Bool → Bool → Bool → Bool → Bool → Bool → Bool) → all_7 p ≡ true → (a b c d e f g : Bool) → p a b c d e f g ≡ true
at_7 p h a = at_6 (p a) (at_1 (λ a. all_6 (p a)) h a)

pub at_8 : (p : Bool → Bool → Bool → Bool → Bool → Bool → Bool → Bool → Bool) → all_8 p ≡ true → (a b c d e f g h : Bool) → p a b c d e f g h ≡ true
at_8 p k a = at_7 (p a) (at_1 (λ a. all_7 (p a)) k a)
