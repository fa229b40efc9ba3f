use Rattle.net_compose.proofs.ContactsSorted.{item_added}
use Rattle.net_compose.proofs.sorted.add_item.Goals as goal

pub returns-clause-added : goal.returns-clause-added
returns-clause-added g c = item_added c.args.lists.now c.args.number _ c.push.new.self c.args.item c.requires c.in_ok-push.ensures.items
