use Rattle.std.proofs.Common.{ap, length, arith}
use Rattle.env_script.proofs.Wires.{wired_at}
use Rattle.plain_runs.proofs.run.Run.pass.Goals as goal

pub note_all-requires-clause-wired : goal.note_all-requires-clause-wired
note_all-requires-clause-wired c = λ k d within.
    let all = c.channels.ensures.channels in
    rw (all, c.self.invariant.values) (wired_at c.self.inside.net c.channels.ensures.net k d (omega (arith, ap length all)))
