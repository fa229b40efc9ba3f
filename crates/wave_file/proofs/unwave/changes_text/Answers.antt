use Rattle.std.proofs.Common.{◌≡◌}
use Rattle.wave_file.specs.Unwaved.{unwaved}
use Rattle.wave_file.specs.WaveReading.{IsWaveText}
use Rattle.wave_file.specs.Waves.{WaveValue}
use Rattle.wave_file.proofs.Readings.{refused_whole, read_whole}
use Rattle.wave_file.proofs.unwave.changes_text.Goals as goal

pub returns-clause-read : goal.returns-clause-read
returns-clause-read c =
    read_whole c.print_changes.result _ _ c.in_ok-told.rest.now c.args.text.now (λ t v. (w : WaveValue) × IsWaveText t w × (v.items ≡ unwaved w))
    c.in_ok-told.ensures.told c.print_changes.ensures.read

pub returns-clause-refused : goal.returns-clause-refused
returns-clause-refused c =
    refused_whole c.print_changes.result _ _ c.in_ok-told.rest.now c.args.text.now c.in_ok-told.ensures.told c.print_changes.ensures.refused
