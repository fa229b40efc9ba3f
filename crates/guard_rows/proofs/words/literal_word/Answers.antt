use Rattle.guard_rows.proofs.Masks.{high_literal, low_literal}
use Rattle.guard_rows.proofs.words.literal_word.Goals as goal

pub returns-then-literal : goal.returns-then-literal
returns-then-literal c = λ v. high_literal v c.args.inputs.now c.in_ok-place.place c.args.literal.now c.requires c.in_ok-place.ensures.within
    c.in_ok-place.ensures.place c.if-literal.true

pub returns-else-literal : goal.returns-else-literal
returns-else-literal c = λ v. low_literal v c.args.inputs.now c.in_ok-place.place c.args.literal.now c.requires c.in_ok-place.ensures.within
    c.in_ok-place.ensures.place c.if-literal.false
