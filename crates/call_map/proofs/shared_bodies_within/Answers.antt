use Rattle.call_map.proofs.CallWithin.{call_rules_hold}
use Rattle.call_map.proofs.shared_bodies_within.Goals as goal

pub returns : goal.returns
returns c = call_rules_hold
