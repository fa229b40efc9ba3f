use Rattle.delay_script.proofs.SaidWords.{second_is, third_is}
use Rattle.delay_script.proofs.line.delay_line_in.Goals as goal

pub returns-in_default-number_of-clause-none : goal.returns-in_default-number_of-clause-none
returns-in_default-number_of-clause-none c =
    λ l says. c.in_default-number_of.ensures.none l.up (second_is c.args.words.now _ l c.in-len3.len_at_least says)

pub returns-in_default-number_of-2-clause-none : goal.returns-in_default-number_of-2-clause-none
returns-in_default-number_of-2-clause-none c =
    λ l says. c.in_default-number_of-2.ensures.none l.down (third_is c.args.words.now _ l c.in-len3.len_at_least says)
