use Rattle.width_check.specs.View.{process_of}
use Rattle.net_rows.proofs.ProgramChannels.{typed_distinct, typed_wide}
use Rattle.net_rows.proofs.rounds.make_by.Goals as goal

pub read_script-requires-clause-distinct : goal.read_script-requires-clause-distinct
read_script-requires-clause-distinct c =
    let p = c.args.program.now in
    rw c.channels.ensures (typed_distinct p.channels p.vars (process_of p.body) c.body-kept.ensures.typed)

pub read_script-requires-clause-widths : goal.read_script-requires-clause-widths
read_script-requires-clause-widths c =
    let p = c.args.program.now in
    rw c.channels.ensures (typed_wide p.channels p.vars (process_of p.body) c.body-kept.ensures.typed)
