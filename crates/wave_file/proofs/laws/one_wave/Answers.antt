use Rattle.wave_file.proofs.OneReading.{wave_once}
use Rattle.wave_file.proofs.laws.one_wave.Goals as goal

pub returns : goal.returns
returns c = wave_once
