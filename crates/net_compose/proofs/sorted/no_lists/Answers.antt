use Rattle.std.proofs.Common.{[], ◌∷◌, length, ap, arith, length-append}
use Rattle.net_compose.proofs.ContactsSorted.{empty_added}
use Rattle.net_compose.proofs.sorted.no_lists.Goals as goal

pub loop-number-preserved : goal.loop-number-preserved
loop-number-preserved g c = record {
  none = empty_added c.loop-number.lists.items _ _ c.new.ensures.items c.in_ok-push.ensures.items c.loop-number.invariant.none;
  count = omega (arith, ap length c.in_ok-push.ensures.items, length-append c.loop-number.lists.items (c.new.result ∷ []), c.loop-number.invariant.count);
}
