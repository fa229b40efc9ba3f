use Rattle.env_script.proofs.Fronts.{ends_all}
use Rattle.env_script.proofs.laws.one_length.Goals as goal

pub returns : goal.returns
returns c = ends_all
