use Rattle.handshake_expand.proofs.NameLists.{names_counted}
use Rattle.handshake_expand.proofs.laws.names_counted.Goals as goal

pub returns : goal.returns
returns c p typed = names_counted p typed.each_var
