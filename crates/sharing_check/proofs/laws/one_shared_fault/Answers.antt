use Rattle.std.proofs.Common.{◌≡◌, inl, inr, List, [], ◌∷◌, sym, ◌∙◌, subst}
use Rattle.chp_base.specs.declared.span.Span.{Span}
use Rattle.chp_base.specs.declared.fault.FaultCode.{FaultCode}
use Rattle.width_check.specs.Processes.{Process}
use Rattle.width_check.specs.Sharing.{IsUnshared, SharedAt, IsFirstShared, IsFirstSharedFault, sharing_faults}
use Rattle.sharing_check.proofs.Orders.{no_later_one}
use Rattle.sharing_check.proofs.laws.one_shared_fault.Goals as goal

not_unshared : (body : Process) (c : FaultCode) (s t : Span) → SharedAt body c s t → ¬ IsUnshared body c
not_unshared body c s t h none = none h.a h.b h.parallel h.clash

-- two pairs that are both the first one
one_pair : (body : Process) (c : FaultCode) (s t u v : Span) → IsFirstShared body c s t → IsFirstShared body c u v → (s ≡ u) × (t ≡ v)
one_pair body c s t u v h k =
    let second : t ≡ v = no_later_one t v (h.least_second u v k.shared) (k.least_second s t h.shared) in
    let first : s ≡ u = no_later_one s u (h.least_first u (subst (λ (w : Span). SharedAt body c u w) (sym second) k.shared))
    (k.least_first s (subst (λ (w : Span). SharedAt body c s w) second h.shared)) in
    (first, second)

once : (body : Process) (causes : List FaultCode) (c d : FaultCode) (s t u v : Span) → IsFirstSharedFault body causes c s t
    → IsFirstSharedFault body causes d u v → (c ≡ d) × (s ≡ u) × (t ≡ v)
once body [] c d s t u v h k = absurd h
once body (e ∷ es) c d s t u v (inl h) (inl k) = let pair = one_pair body e s t u v h.1 k.1 in (h.0 ∙ sym k.0, pair.0, pair.1)
once body (e ∷ es) c d s t u v (inl h) (inr k) = absurd (not_unshared body e s t h.1.shared k.0)
once body (e ∷ es) c d s t u v (inr h) (inl k) = absurd (not_unshared body e u v k.1.shared h.0)
once body (e ∷ es) c d s t u v (inr h) (inr k) = once body es c d s t u v h.1 k.1

pub returns-clause-cause : goal.returns-clause-cause
returns-clause-cause c = λ body k j s t u v h g. (once body sharing_faults k j s t u v h g).0

pub returns-clause-first : goal.returns-clause-first
returns-clause-first c = λ body k j s t u v h g. (once body sharing_faults k j s t u v h g).1

pub returns-clause-second : goal.returns-clause-second
returns-clause-second c = λ body k j s t u v h g. (once body sharing_faults k j s t u v h g).2
