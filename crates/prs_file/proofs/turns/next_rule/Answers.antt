use Rattle.std.proofs.Common.{sym, ◌∙◌}
use Rattle.prs_file.specs.Lines.{first_line}
use Rattle.prs_file.proofs.TermLines.{line_is, form_is, no_rule}
use Rattle.prs_file.proofs.turns.next_rule.Goals as goal

pub returns-in_default-clause-none : goal.returns-in_default-clause-none
returns-in_default-clause-none c =
    let none = rw c.in_default.is at c.in_ok-form.ensures.none in
    no_rule (first_line c.args.text.now) (λ leds name up form says. none leds name up form (c.cut_line.ensures.line ∙ says))

pub returns-clause-line : goal.returns-clause-line
returns-clause-line c =
    let form = rw c.in-Some.is at c.in_ok-form.ensures.form in
    let some = rw c.in-Some.is at c.in_ok-form.ensures.some in
    sym c.cut_line.ensures.line ∙ some ∙ line_is c.in-Some.form.leds.items c.in-Some.form.node c.in-Some.form.up form.leads

pub returns-clause-form : goal.returns-clause-form
returns-clause-form c =
    form_is c.in-Some.form.leds.items c.in-Some.form.node c.in-Some.form.up (rw c.in-Some.is at c.in_ok-form.ensures.form)
