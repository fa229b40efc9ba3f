-- The number of each cause for which a wave file is refused, and what a refusal says.
use Rattle.std.specs.Prelude.{ℕ}
use Rattle.wave_file.specs.declared.fault.WaveFault.{WaveFault}
use Rattle.wave_file.specs.declared.fault.WaveFault.TheVariants.{BadLine, UnknownId, TimeBack, NoChange, TooMany}
use Rattle.wave_file.specs.declared.fault.WaveError.{WaveError}
use Rattle.wave_file.specs.declared.fault.WaveError.TheVariants.{Refused, NoMemory}

abbrev pub wave_fault_number : WaveFault → ℕ
wave_fault_number BadLine = 70
wave_fault_number UnknownId = 71
wave_fault_number TimeBack = 72
wave_fault_number NoChange = 73
wave_fault_number TooMany = 74

-- a fact of the cause and the line for which a wave file is refused; out of memory is no refusal
abbrev pub OfWaveRefusal : (WaveFault → ℕ → Type 0) → WaveError → Type 0
OfWaveRefusal P (Refused fault line) = P fault line
OfWaveRefusal P (NoMemory e) = Unit {0}
