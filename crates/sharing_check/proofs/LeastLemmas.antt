-- The least of no values, of the same ones, of more ones, and of two kinds of them.
use Rattle.std.proofs.Common.{◌≡◌, ◌⊎◌, inl, inr, Option, Some, None}
use Rattle.sharing_check.specs.Leasts.{IsLeast, IsEither}

abbrev pub IsTransitive : {A : Type 0} → (A → A → Type 0) → Type 0
IsTransitive {A} R = (a b c : A) → R a b → R b c → R a c

pub least_none : {A : Type 0} (R : A → A → Type 0) (P : A → Type 0) → ((a : A) → ¬ P a) → IsLeast R P None
least_none R P none = record { there = λ a is. absurd (cc is); least = λ b p. absurd (none b p) }

pub least_same : {A : Type 0} {R : A → A → Type 0} {P Q : A → Type 0} {o : Option A} → IsLeast R P o → ((a : A) → P a → Q a) → ((a : A) → Q a → P a)
    → IsLeast R Q o
least_same l into from = record { there = λ a is. into a (l.there a is); least = λ b q. l.least b (from b q) }

-- of more values, none of which is less than all the former
pub least_refine : {A : Type 0} {R : A → A → Type 0} {P Q : A → Type 0} {o : Option A} → IsTransitive R → IsLeast R P o → ((a : A) → P a → Q a)
    → ((b : A) → Q b → (a : A) × P a × R a b)
    → IsLeast R Q o
least_refine trans l into below = record {
  there = λ a is. into a (l.there a is);
  least = λ b q.
      let w = below b q in
      let m = l.least w.0 w.1 in
      (m.0, m.1, trans m.0 w.0 b m.2 w.2);
}

-- of one kind's least value and those of another kind
pub least_more : {A : Type 0} {R : A → A → Type 0} {P Q : A → Type 0} {o r : Option A} → IsTransitive R → IsLeast R P o
    → IsLeast R (λ a. (o ≡ Some a) ⊎ Q a) r → IsLeast R (λ a. P a ⊎ Q a) r
least_more {A} {R} {P} {Q} {o} {r} trans l k = record { there = λ a is. into a (k.there a is); least = below }
  where
    into : (a : A) → (o ≡ Some a) ⊎ Q a → P a ⊎ Q a
    into a (inl is) = inl (l.there a is)
    into a (inr q) = inr q

    below : (b : A) → P b ⊎ Q b → (a : A) × (r ≡ Some a) × R a b
    below b (inl p) =
        let m = l.least b p in
        let n = k.least m.0 (inl m.1) in
        (n.0, n.1, trans n.0 m.0 b n.2 m.2)
    below b (inr q) = k.least b (inr q)

-- of two kinds' least values
pub least_both : {A : Type 0} {R : A → A → Type 0} {P Q : A → Type 0} {o q r : Option A} → IsTransitive R → IsLeast R P o → IsLeast R Q q
    → IsLeast R (IsEither o q) r → IsLeast R (λ a. P a ⊎ Q a) r
least_both {A} {R} {P} {Q} {o} {q} {r} trans l k m = record { there = λ a is. into a (m.there a is); least = below }
  where
    into : (a : A) → IsEither o q a → P a ⊎ Q a
    into a (inl is) = inl (l.there a is)
    into a (inr is) = inr (k.there a is)

    below : (b : A) → P b ⊎ Q b → (a : A) × (r ≡ Some a) × R a b
    below b (inl p) =
        let w = l.least b p in
        let n = m.least w.0 (inl w.1) in
        (n.0, n.1, trans n.0 w.0 b n.2 w.2)
    below b (inr p) =
        let w = k.least b p in
        let n = m.least w.0 (inr w.1) in
        (n.0, n.1, trans n.0 w.0 b n.2 w.2)
