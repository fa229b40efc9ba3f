use Rattle.std.proofs.Common.{ap, ◌∙◌, subst}
use Rattle.prs_core.specs.Nets.{NetValue, IsNet}
use Rattle.prs_core.proofs.net.Net.channels.Goals as goal

pub returns-clause-channels : goal.returns-clause-channels
returns-clause-channels c = c.deref.ensures.value ∙ ap (λ (net : NetValue). net.channels) c.self.view_is

pub returns-clause-net : goal.returns-clause-net
returns-clause-net c = subst IsNet c.self.view_is c.self.invariant
