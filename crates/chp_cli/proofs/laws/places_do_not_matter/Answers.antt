use Rattle.chp_cli.proofs.SameFiles.{means_alike}
use Rattle.chp_cli.proofs.SameForms.{formed_alike}
use Rattle.chp_cli.proofs.SameMeant.{accepted_alike}
use Rattle.chp_cli.proofs.SameNets.{one_net, one_count}
use Rattle.chp_cli.proofs.SameRounds.{mean_the_same}
use Rattle.chp_cli.proofs.laws.places_do_not_matter.Goals as goal

pub returns-clause-accepted : goal.returns-clause-accepted
returns-clause-accepted c = accepted_alike

pub returns-clause-meant : goal.returns-clause-meant
returns-clause-meant c = means_alike

pub returns-clause-formed : goal.returns-clause-formed
returns-clause-formed c = formed_alike

pub returns-clause-meaning : goal.returns-clause-meaning
returns-clause-meaning c = mean_the_same

pub returns-clause-net : goal.returns-clause-net
returns-clause-net c = λ p q alike. (one_net p q alike, one_count p q alike)
