-- A program has at most one first fault.
use Rattle.std.proofs.Common.{◌≡◌, ℕ, List, [], ◌∷◌, inl, inr, sym, ap, ◌∙◌, arith}
use Rattle.chp_base.specs.declared.span.Span.{Span}
use Rattle.chp_base.specs.declared.fault.FaultCode.{FaultCode}
use Rattle.chp_syntax.specs.Trees.{ProgramTree}
use Rattle.width_check.specs.Order.{IsNoLater}
use Rattle.width_check.specs.Faults.{HasNone, IsFirstFault}

one_span : (s t : Span) → s.from ≡ t.from → s.to ≡ t.to → s ≡ t
one_span s t front back = ap (λ (n : ℕ). let x : Span = record { from = n; to = s.to } in x) front
    ∙ ap (λ (n : ℕ). let x : Span = record { from = t.from; to = n } in x) back

pub one_place : (s t : Span) → IsNoLater s t → IsNoLater t s → s ≡ t
one_place s t (inl a) (inl b) = absurd (omega (arith, a, b))
one_place s t (inl a) (inr b) = absurd (omega (arith, a, b.0))
one_place s t (inr a) (inl b) = absurd (omega (arith, a.0, b))
one_place s t (inr a) (inr b) = one_span s t a.0 (omega (arith, a.1, b.1))

pub one_cause : (p : ProgramTree) (ds : List FaultCode) (c d : FaultCode) (s t : Span) → IsFirstFault p ds c s → IsFirstFault p ds d t → (c ≡ d) × (s ≡ t)
one_cause p [] c d s t f g = absurd f
one_cause p (e ∷ ds) c d s t (inl f) (inl g) = (f.0 ∙ sym g.0, one_place s t (f.1.first t g.1.there) (g.1.first s f.1.there))
one_cause p (e ∷ ds) c d s t (inl f) (inr g) = absurd (g.0 s f.1.there)
one_cause p (e ∷ ds) c d s t (inr f) (inl g) = absurd (f.0 t g.1.there)
one_cause p (e ∷ ds) c d s t (inr f) (inr g) = one_cause p ds c d s t f.1 g.1

pub no_cause : (p : ProgramTree) (ds : List FaultCode) (c : FaultCode) (s : Span) → HasNone p ds → ¬ IsFirstFault p ds c s
no_cause p [] c s none f = f
no_cause p (e ∷ ds) c s none (inl f) = none.0 s f.1.there
no_cause p (e ∷ ds) c s none (inr f) = no_cause p ds c s none.1 f.1
