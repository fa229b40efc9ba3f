use Rattle.wave_file.proofs.Chains.{one_text}
use Rattle.wave_file.proofs.laws.one_causes_text.Goals as goal

pub returns : goal.returns
returns c = one_text
