-- What `unwave` answers.
use Rattle.std.specs.Prelude.{◌≡◌, ℕ, List}
use Rattle.wave_file.specs.declared.fault.WaveFault.{WaveFault}
use Rattle.wave_file.specs.Unwaved.{unwaved}
use Rattle.wave_file.specs.WaveReading.{IsWaveRefused, IsWaveText}
use Rattle.wave_file.specs.Waves.{WaveValue}
use Rattle.command_answers.specs.declared.answer.Ending.TheVariants.{Done}
use Rattle.command_answers.specs.declared.status.Status.TheVariants.{BadFile}
use Rattle.command_answers.specs.Answers.{Given, Answer, writes, refuses}
use Rattle.command_answers.specs.Lines.{bad_wave_line}
use Rattle.command_steps.specs.Steps.{FromFile}

-- the most bytes of a wave file
abbrev pub most_of_wave : ℕ
most_of_wave = 268435456

-- the text is that of this wave, and of no other one
pub record IsWaveIn (text : List ℕ) (wave : WaveValue) : Type 0 where
  pub told : IsWaveText text wave
  pub only : (other : WaveValue) → IsWaveText text other → other ≡ wave

-- the text is that of no wave, for this cause at this line, and for no other
pub record IsNoWave (text : List ℕ) (fault : WaveFault) (line : ℕ) : Type 0 where
  pub never : (wave : WaveValue) → ¬ IsWaveText text wave
  pub cause : IsWaveRefused text fault line
  pub only : (other : WaveFault) (at : ℕ) → IsWaveRefused text other at → (other ≡ fault) × (at ≡ line)

-- it reads the text as a wave
pub data FromWave (text : List ℕ) (Next : WaveValue → Answer → Type 0) : Answer → Type 0 where
  no_wave : {fault : WaveFault} {line : ℕ} → IsNoWave text fault line →
      FromWave text Next (refuses BadFile (bad_wave_line fault line))
  a_wave : {wave : WaveValue} {answer : Answer} → IsWaveIn text wave → Next wave answer → FromWave text Next answer

-- the changes of the wave are written
abbrev pub PrintsChanges : WaveValue → Answer → Type 0
PrintsChanges wave answer = answer ≡ writes Done (unwaved wave)

abbrev pub Unwaves : Given → (file : List ℕ) → Answer → Type 0
Unwaves given file = FromFile given file most_of_wave (λ text. FromWave text PrintsChanges)
