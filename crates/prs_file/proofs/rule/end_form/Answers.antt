use Rattle.std.proofs.Common.{length, take, drop, ◌-◌, refl, sym, ◌∙◌}
use Rattle.prs_file.proofs.RuleEnds.{no_end}
use Rattle.prs_file.proofs.rule.end_form.Goals as goal

pub returns-then-not-is_spelled-clause-none : goal.returns-then-not-is_spelled-clause-none
returns-then-not-is_spelled-clause-none c =
    let text = c.args.text.now in
    λ name up is e. no_end text (take (length text - 2 - 4) (drop 4 text)) refl (sym c.is_spelled-up.ensures ∙ c.if-not-up.true) (sym c.is_spelled.ensures
    ∙ c.if-not-is_spelled.true) name up e
