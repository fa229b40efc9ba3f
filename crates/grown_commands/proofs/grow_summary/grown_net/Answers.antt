use Rattle.std.proofs.Common.{arith}
use Rattle.width_check.specs.Typed.{program_of as typed_of}
use Rattle.command_steps.proofs.NodeCounts.{counted_many}
use Rattle.grown_commands.proofs.grow_summary.grown_net.Goals as goal

pub returns-in-Err-TooManyNodes-clause-stopped : goal.returns-in-Err-TooManyNodes-clause-stopped
returns-in-Err-TooManyNodes-clause-stopped c =
    let many = rw c.in-Err-TooManyNodes.field-0-is at c.in-Err-TooManyNodes.ensures.too_many in
    absurd (omega (arith, counted_many (typed_of c.args.program.now) many, c.requires))
