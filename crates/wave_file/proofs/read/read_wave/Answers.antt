use Rattle.wave_file.proofs.OneReading.{only_one, no_other}
use Rattle.wave_file.proofs.read.read_wave.Goals as goal

pub returns-clause-only : goal.returns-clause-only
returns-clause-only c = only_one c.args.text.now c.read_in_parts.result c.read_in_parts.ensures.read

pub returns-clause-never : goal.returns-clause-never
returns-clause-never c = no_other c.args.text.now c.read_in_parts.result c.read_in_parts.ensures.refused
