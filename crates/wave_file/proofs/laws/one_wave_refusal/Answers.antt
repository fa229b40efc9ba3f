use Rattle.wave_file.proofs.OneReading.{refusal_once, never_refused}
use Rattle.wave_file.proofs.laws.one_wave_refusal.Goals as goal

pub returns-clause-once : goal.returns-clause-once
returns-clause-once c = refusal_once

pub returns-clause-never : goal.returns-clause-never
returns-clause-never c = never_refused
