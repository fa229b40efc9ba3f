-- The number of each cause for which a script is refused.
use Rattle.std.specs.Prelude.{ℕ}
use Rattle.env_script.specs.declared.fault.ScriptFault.{ScriptFault}
use Rattle.env_script.specs.declared.fault.ScriptFault.TheVariants.{BadLine, NoSuchChannel, TooWide, DoubleChannel, TooManyValues}

abbrev pub script_fault_number : ScriptFault → ℕ
script_fault_number BadLine = 50
script_fault_number NoSuchChannel = 51
script_fault_number TooWide = 52
script_fault_number DoubleChannel = 53
script_fault_number TooManyValues = 54
