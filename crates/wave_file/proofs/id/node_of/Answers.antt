use Rattle.std.proofs.Common.{◌+◌, ◌-◌, length, arith}
use Rattle.wave_file.proofs.IdLemmas.{value_front, value_more}
use Rattle.wave_file.proofs.id.node_of.Goals as goal

pub returns-then-number-nodes-clause-none : goal.returns-then-number-nodes-clause-none
returns-then-number-nodes-clause-none c =
    let id = c.args.id.now in
    omega (arith, c.loop-at.invariant.value, value_more id c.loop-at.at c.loop-at-test.true, value_front (length id - (c.loop-at.at + 1)) id)
