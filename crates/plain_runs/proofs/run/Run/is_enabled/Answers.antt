use Rattle.plain_runs.proofs.Least.{enabled_is}
use Rattle.plain_runs.proofs.run.Run.is_enabled.Goals as goal

pub returns-else-enabled : goal.returns-else-enabled
returns-else-enabled c =
    let r = c.self.inside in
    let counted = rw (← c.self.view_is) at c.requires.done in
    rw (← c.self.view_is) (enabled_is r.net r.script r.state r.histories.items c.args.done.now c.args.node _ _ counted c.enabled.ensures c.if-enabled.false
    c.env_enabled.ensures)
