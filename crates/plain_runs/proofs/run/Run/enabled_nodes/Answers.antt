use Rattle.std.proofs.Common.{sym, arith}
use Rattle.std.proofs.lemmas.List.FromFn.{map-range_with_len_more}
use Rattle.env_script.specs.Runs.{move_enabled}
use Rattle.plain_runs.proofs.run.Run.enabled_nodes.Goals as goal

pub loop-node-preserved : goal.loop-node-preserved
loop-node-preserved c =
    let r = c.args.self.now in
    let p = move_enabled r.net r.script r.now in
    rw (
      c.in_ok-push.ensures.items,
      c.is_enabled.ensures,
      c.loop-node.invariant,
    ) (sym (map-range_with_len_more p 0 c.loop-node.node c.loop-node.node (omega arith)))
