use Rattle.guard_rows.proofs.counts.counted_row.Goals as goal

pub returns-then-not-branch-clause-pass : goal.returns-then-not-branch-clause-pass
returns-then-not-branch-clause-pass c = λ passes all. c.in_ok-list_low.ensures.pass passes (c.in-Some.ensures.first passes all)

pub returns-in-None-clause-pass : goal.returns-in-None-clause-pass
returns-in-None-clause-pass c = λ passes all. c.in_ok-list_low.ensures.pass passes (c.in-Some.ensures.first passes all)

pub returns-in-Some-least_of-clause-pass : goal.returns-in-Some-least_of-clause-pass
returns-in-Some-least_of-clause-pass c = λ passes all. c.in_ok-list_low.ensures.pass passes (c.in-Some.ensures.first passes all)
