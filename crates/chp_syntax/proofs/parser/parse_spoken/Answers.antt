use Rattle.std.proofs.Common.{ℕ, drop, sym, ap, ◌∙◌, subst}
use Rattle.chp_base.specs.declared.span.Span.{Span}
use Rattle.chp_base.specs.declared.fault.FaultCode.TheVariants as code
use Rattle.chp_syntax.specs.Refusals.{spot, RefusedTokens, no_program}
use Rattle.chp_syntax.proofs.parser.parse_spoken.Goals as goal

pub returns-in-Err-Syntax-clause-place : goal.returns-in-Err-Syntax-clause-place
returns-in-Err-Syntax-clause-place c =
    let fault = rw c.in-Err-Syntax.field-0-is at c.in-Err-Syntax.ensures.fault in
    let ts = c.args.tokens.now in
    let end = c.args.end in
    let here = c.spot_at.ensures ∙ ap (λ (n : ℕ). spot (drop n ts) end) c.in-Err-Syntax.first-is in
    rw c.refusal.ensures (subst (λ (s : Span). RefusedTokens ts end code.Syntax s) (sym here) (no_program c.requires.spoken c.requires.shallow fault))
