use Rattle.wave_file.specs.WaveReading.{IsWaveText}
use Rattle.wave_file.specs.WaveTold.{kept_wave}
use Rattle.wave_file.proofs.Readings.{refused_whole, read_whole}
use Rattle.wave_file.proofs.read.read_in_parts.Goals as goal

pub returns-clause-read : goal.returns-clause-read
returns-clause-read c =
    read_whole c.read_changes.result _ _ c.in_ok-told.rest.now c.args.text.now (λ t w. IsWaveText t (kept_wave w)) c.in_ok-told.ensures.told
    c.read_changes.ensures.read

pub returns-clause-refused : goal.returns-clause-refused
returns-clause-refused c =
    refused_whole c.read_changes.result _ _ c.in_ok-told.rest.now c.args.text.now c.in_ok-told.ensures.told c.read_changes.ensures.refused
