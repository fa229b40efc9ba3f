use Rattle.net_compose.proofs.NamesPushed.{numbers_more}
use Rattle.net_compose.proofs.names.Names.push_numbers.Goals as goal

pub loop-place-preserved : goal.loop-place-preserved
loop-place-preserved c = numbers_more c.args.from c.loop-place.place _ _ _ c.loop-place.invariant c.in_ok-push_number.ensures
