use Rattle.std.proofs.Common.{refl}
use Rattle.net_compose.proofs.SelectionReady.{range_more}
use Rattle.net_compose.proofs.choice.numbered_nodes.Goals as goal

pub loop-place-init : goal.loop-place-init
loop-place-init c = record { nodes = c.new-nodes.ensures.items }

pub loop-place-preserved : goal.loop-place-preserved
loop-place-preserved c = record { nodes = range_more c.args.from c.loop-place.place _ _ _ c.loop-place.invariant.nodes refl c.in_ok-push.ensures.items }
