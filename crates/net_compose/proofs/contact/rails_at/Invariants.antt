use Rattle.std.proofs.Common.{◌≡◌, List, map, take}
use Rattle.prs_core.specs.Pairs.{Pair, pair_of}
use Rattle.net_compose.specs.Contacts.{rail_in}
use Rattle.net_compose.proofs.contact.rails_at.Given as goal

abbrev pub invariant-loop-site : goal.invariant-loop-site
invariant-loop-site l = l.rails.items ≡ map (λ (site : List Pair). rail_in l.one (pair_of site l.bit)) (take l.site-index l.sites)
