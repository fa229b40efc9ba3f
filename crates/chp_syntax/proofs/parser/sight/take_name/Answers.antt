use Rattle.std.proofs.Common.{drop, sym, ap, ◌∙◌}
use Rattle.chp_syntax.specs.Parts.{sees, kind_read, name_of}
use Rattle.chp_syntax.proofs.Steps.{name_good, name_bad, exit}
use Rattle.chp_syntax.proofs.parser.sight.take_name.Goals as goal

pub returns-in_err-name-clause-bad : goal.returns-in_err-name-clause-bad
returns-in_err-name-clause-bad c =
    exit c.from_residual.result c.in_err-name.field-0.0 c.from_residual.ensures.1
    (λ h. name_bad (drop c.args.at.now c.args.tokens.now) (ap (λ l. kind_read name_of (sees l)) (sym c.behind.ensures) ∙ h)) c.in_err-name.ensures.missing

pub returns-clause-good : goal.returns-clause-good
returns-clause-good c =
    name_good c.args.tokens.now c.args.at.now c.in_ok-name.name (ap sees (sym c.behind.ensures) ∙ c.in_ok-name.ensures.there)
