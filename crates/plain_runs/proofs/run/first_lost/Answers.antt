use Rattle.std.proofs.Common.{false, length, get_or, sym, ◌∙◌, arith}
use Rattle.plain_runs.specs.Running.{lost}
use Rattle.plain_runs.proofs.Least.{least_some, least_none}
use Rattle.plain_runs.proofs.run.first_lost.Goals as goal

pub returns-then-is_lost : goal.returns-then-is_lost
returns-then-is_lost c =
    let here = sym c.is_lost.ensures ∙ c.if-is_lost.true in
    sym (least_some (length c.args.was.now) c.loop-other.other (λ m. lost (get_or c.args.was.now m false) (get_or c.args.now.now m false) m c.args.node)
    (omega arith) here c.loop-other.invariant)

pub returns : goal.returns
returns c =
    sym (least_none (length c.args.was.now) (λ m. lost (get_or c.args.was.now m false) (get_or c.args.now.now m false) m c.args.node)
    (λ k h. c.loop-other.invariant k (omega arith)))
