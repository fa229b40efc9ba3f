use Rattle.std.proofs.Common.{subst}
use Rattle.std.specs.Prelude.{IfOk}
use Rattle.wave_file.specs.WaveReading.{IsWaveText}
use Rattle.wave_file.specs.Waves.{WaveValue}
use Rattle.simulation_commands.proofs.waves.wave_text.Goals as goal

pub returns : goal.returns
returns c =
    subst (λ (w : WaveValue). IfOk c.write_wave.result (λ text. IsWaveText text.items w)) c.in_ok-wave.ensures.wave c.write_wave.ensures
