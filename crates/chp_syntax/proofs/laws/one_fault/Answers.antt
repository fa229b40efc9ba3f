use Rattle.std.proofs.Common.{◌≡◌, ℕ, List, length, refl, subst}
use Rattle.chp_base.specs.declared.span.Span.{Span}
use Rattle.chp_base.specs.declared.fault.FaultCode.{FaultCode}
use Rattle.chp_syntax.specs.declared.token.Token.{Token}
use Rattle.chp_syntax.specs.Trees.{ProgramTree}
use Rattle.chp_syntax.specs.Reading.{Reads}
use Rattle.chp_syntax.specs.Refusals.{RefusedTokens, RefusedText, bad_token, bad_tokens}
use Rattle.chp_syntax.proofs.Cutting.{one_cut, one_bad, bad_no_cut}
use Rattle.chp_syntax.proofs.RefusedLemmas.{refused_none, refused_once}
use Rattle.chp_syntax.proofs.laws.one_fault.Goals as goal

once : (text : List ℕ) (k j : FaultCode) (s t : Span) → RefusedText text k s → RefusedText text j t → (k ≡ j) × (s ≡ t)
once text k j s t (bad_token a) (bad_token b) = (refl, one_bad text s t a b)
once text k j s t (bad_token a) (bad_tokens ts cut r) = absurd (bad_no_cut text s a ts cut)
once text k j s t (bad_tokens ts cut r) (bad_token b) = absurd (bad_no_cut text t b ts cut)
once text k j s t (bad_tokens ts cut r) (bad_tokens us other q) =
    refused_once (subst (λ (l : List Token). RefusedTokens l (length text) k s) (one_cut text ts us cut other) r) q

none : (text : List ℕ) (k : FaultCode) (s : Span) (p : ProgramTree) → RefusedText text k s → Reads text p → ⊥
none text k s p (bad_token b) r = bad_no_cut text s b r.tokens r.cut
none text k s p (bad_tokens ts cut q) r = refused_none (λ us other. one_cut text us ts other cut) q p r

pub returns-clause-cause : goal.returns-clause-cause
returns-clause-cause c = λ text k j s t r q. (once text k j s t r q).0

pub returns-clause-place : goal.returns-clause-place
returns-clause-place c = λ text k j s t r q. (once text k j s t r q).1

pub returns-clause-unread : goal.returns-clause-unread
returns-clause-unread c = none
