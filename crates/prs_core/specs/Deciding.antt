-- Facts of a few Booleans, decided by trying all their values.
use Rattle.std.specs.Prelude.{◌≡◌, Bool, true, false, ◌&&◌}
use Rattle.std.proofs.Common.{refl, sym}
use Rattle.std.proofs.lemmas.Bool.{true≢false}

abbrev pub implies : Bool → Bool → Bool
implies true b = b
implies false b = true

pub implies_at : (a b : Bool) → implies a b ≡ true → a ≡ true → b ≡ true
implies_at true b h e = h
implies_at false b h e = absurd (true≢false (sym e))

pub implies_both : (a b c : Bool) → implies a (implies b c) ≡ true → a ≡ true → b ≡ true → c ≡ true
implies_both a b c h e f = implies_at b c (implies_at a (implies b c) h e) f

pub left_of : (a b : Bool) → (a && b) ≡ true → a ≡ true
left_of true b h = refl
left_of false b h = h

pub right_of : (a b : Bool) → (a && b) ≡ true → b ≡ true
right_of true b h = h
right_of false b h = absurd (true≢false (sym h))

pub both_of : (a b : Bool) → a ≡ true → b ≡ true → (a && b) ≡ true
both_of true b p q = q
both_of false b p q = p

-- over all values of one Boolean, of two, and so on
abbrev pub all_1 : (Bool → Bool) → Bool
all_1 p = p true && p false

abbrev pub all_2 : (Bool → Bool → Bool) → Bool
all_2 p = all_1 (λ a. all_1 (p a))

abbrev pub all_3 : (Bool → Bool → Bool → Bool) → Bool
all_3 p = all_1 (λ a. all_2 (p a))

abbrev pub all_4 : (Bool → Bool → Bool → Bool → Bool) → Bool
all_4 p = all_1 (λ a. all_3 (p a))

abbrev pub all_5 : (Bool → Bool → Bool → Bool → Bool → Bool) → Bool
all_5 p = all_1 (λ a. all_4 (p a))

abbrev pub all_6 : (Bool → Bool → Bool → Bool → Bool → Bool → Bool) → Bool
all_6 p = all_1 (λ a. all_5 (p a))

pub at_1 : (p : Bool → Bool) → all_1 p ≡ true → (a : Bool) → p a ≡ true
at_1 p h true = left_of (p true) (p false) h
at_1 p h false = right_of (p true) (p false) h

pub at_2 : (p : Bool → Bool → Bool) → all_2 p ≡ true → (a b : Bool) → p a b ≡ true
at_2 p h a = at_1 (p a) (at_1 (λ a. all_1 (p a)) h a)

pub at_3 : (p : Bool → Bool → Bool → Bool) → all_3 p ≡ true → (a b c : Bool) → p a b c ≡ true
at_3 p h a = at_2 (p a) (at_1 (λ a. all_2 (p a)) h a)

pub at_4 : (p : Bool → Bool → Bool → Bool → Bool) → all_4 p ≡ true → (a b c d : Bool) → p a b c d ≡ true
at_4 p h a = at_3 (p a) (at_1 (λ a. all_3 (p a)) h a)

pub at_5 : (p : Bool → Bool → Bool → Bool → Bool → Bool) → all_5 p ≡ true → (a b c d e : Bool) → p a b c d e ≡ true
at_5 p h a = at_4 (p a) (at_1 (λ a. all_4 (p a)) h a)

pub at_6 : (p : Bool → Bool → Bool → Bool → Bool → Bool → Bool) → all_6 p ≡ true → (a b c d e f : Bool) →
    p a b c d e f ≡ true
at_6 p h a = at_5 (p a) (at_1 (λ a. all_5 (p a)) h a)
