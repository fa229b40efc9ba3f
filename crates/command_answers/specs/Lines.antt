-- The lines that are said.
use Rattle.std.specs.Prelude.{ℕ, Bool, true, false, List, [], ◌∷◌, ◌++◌, codes, decimal, if◌then◌else◌}
use Rattle.std.specs.List.{concat}
use Rattle.chp_base.specs.declared.span.Span.{Span}
use Rattle.chp_base.specs.declared.fault.Fault.{Fault}
use Rattle.chp_base.specs.declared.fault.FaultCode.{FaultCode}
use Rattle.chp_base.specs.declared.fault.FaultCode.TheVariants as code
use Rattle.chp_base.specs.Faults.{number_of}
use Rattle.delay_script.specs.declared.fault.DelayFault.{DelayFault}
use Rattle.delay_script.specs.declared.fault.DelayFault.TheVariants as delay
use Rattle.delay_script.specs.DelayFaults.{delay_fault_number}
use Rattle.env_script.specs.declared.fault.ScriptFault.{ScriptFault}
use Rattle.env_script.specs.declared.fault.ScriptFault.TheVariants as script
use Rattle.env_script.specs.Faults.{script_fault_number}
use Rattle.prs_file.specs.declared.fault.NetFault.{NetFault}
use Rattle.prs_file.specs.declared.fault.NetFault.TheVariants as net
use Rattle.prs_file.specs.Faults.{net_fault_number as net_number}
use Rattle.wave_file.specs.declared.fault.WaveFault.{WaveFault}
use Rattle.wave_file.specs.declared.fault.WaveFault.TheVariants as wave
use Rattle.wave_file.specs.WaveFaults.{wave_fault_number}

-- ---- of the call

abbrev pub usage_line : List ℕ
usage_line = codes "chp: 2 usage\n"

-- a file couldn't be read
abbrev pub read_line : (name : List ℕ) → List ℕ
read_line name = concat (codes "chp: 3 read " ∷ name ∷ codes "\n" ∷ [])

abbrev pub write_line : List ℕ
write_line = codes "chp: 4 write\n"

abbrev pub no_memory_line : List ℕ
no_memory_line = codes "chp: 6 no memory\n"

-- a hazard was found, and all was written
abbrev pub hazard_found_line : List ℕ
hazard_found_line = codes "chp: 5 hazard\n"

-- the run differs from the rounds that it is compared with, and all was written
abbrev pub differs_line : List ℕ
differs_line = codes "chp: 10 differs\n"

-- there is no order of this name
abbrev pub no_order_line : (name : List ℕ) → List ℕ
no_order_line name = concat (codes "chp: 9 order " ∷ name ∷ codes "\n" ∷ [])

-- the program has no channel inside of it of this name
abbrev pub no_channel_line : (name : List ℕ) → List ℕ
no_channel_line name = concat (codes "chp: 16 channel " ∷ name ∷ codes "\n" ∷ [])

-- there is no device of this name
abbrev pub no_peer_line : (name : List ℕ) → List ℕ
no_peer_line name = concat (codes "chp: 17 peer " ∷ name ∷ codes "\n" ∷ [])

-- ---- of a refused program

abbrev pub fault_name : FaultCode → List ℕ
fault_name code.BadToken = codes "BadToken"
fault_name code.Syntax = codes "Syntax"
fault_name code.TooDeep = codes "TooDeep"
fault_name code.Probe = codes "Probe"
fault_name code.Arbiter = codes "Arbiter"
fault_name code.TooManyGuards = codes "TooManyGuards"
fault_name code.DoubleName = codes "DoubleName"
fault_name code.Undeclared = codes "Undeclared"
fault_name code.WrongKind = codes "WrongKind"
fault_name code.Direction = codes "Direction"
fault_name code.Width = codes "Width"
fault_name code.ConstantTooWide = codes "ConstantTooWide"
fault_name code.UnknownWidth = codes "UnknownWidth"
fault_name code.BadSlice = codes "BadSlice"
fault_name code.WidthRange = codes "WidthRange"
fault_name code.SharedVariable = codes "SharedVariable"
fault_name code.SharedSend = codes "SharedSend"
fault_name code.SharedReceive = codes "SharedReceive"
fault_name code.SharedProcedure = codes "SharedProcedure"
fault_name code.DoubleProcedure = codes "DoubleProcedure"
fault_name code.UnknownProcedure = codes "UnknownProcedure"
fault_name code.UnusedProcedure = codes "UnusedProcedure"
fault_name code.NestedCall = codes "NestedCall"

-- the causes with two places
abbrev pub has_two_places : FaultCode → Bool
has_two_places code.SharedVariable = true
has_two_places code.SharedSend = true
has_two_places code.SharedReceive = true
has_two_places code.SharedProcedure = true
has_two_places _ = false

abbrev pub span_text : Span → List ℕ
span_text s = concat (decimal s.from ∷ codes ".." ∷ decimal s.to ∷ [])

abbrev pub refused_line : Fault → List ℕ
refused_line f = concat (
    codes "chp: " ∷ decimal (number_of f.code) ∷ codes " " ∷ fault_name f.code ∷ codes " at " ∷ span_text f.at
    ∷ (if has_two_places f.code then codes " and " ++ span_text f.other else []) ∷ codes "\n" ∷ [])

-- ---- of a circuit, a program and a file that are too large, and of a refused rule file

-- the circuit of the program has so many nodes
abbrev pub nodes_line : (count : ℕ) → List ℕ
nodes_line count = concat (codes "chp: 7 nodes " ∷ decimal count ∷ codes "\n" ∷ [])

-- the program has so many statements and expressions with its calls replaced
abbrev pub forms_line : (count : ℕ) → List ℕ
forms_line count = concat (codes "chp: 7 forms " ∷ decimal count ∷ codes "\n" ∷ [])

-- more values pass in the rounds of a program than may be held
abbrev pub values_line : List ℕ
values_line = codes "chp: 7 values over 1048576\n"

abbrev pub too_long_line : (name : List ℕ) → (most : ℕ) → List ℕ
too_long_line name most = concat (codes "chp: 7 bytes " ∷ name ∷ codes " over " ∷ decimal most ∷ codes "\n" ∷ [])

-- a file is refused: the number and the name of the cause, and the line
abbrev pub bad_file_line : (number : ℕ) → (name : List ℕ) → (line : ℕ) → List ℕ
bad_file_line number name line = concat (
    codes "chp: 8 " ∷ decimal number ∷ codes " " ∷ name ∷ codes " at line " ∷ decimal line ∷ codes "\n" ∷ [])

abbrev pub net_fault_name : NetFault → List ℕ
net_fault_name net.BadLine = codes "BadLine"
net_fault_name net.UnknownNode = codes "UnknownNode"
net_fault_name net.DoubleRule = codes "DoubleRule"
net_fault_name net.DrivenWire = codes "DrivenWire"
net_fault_name net.TooMany = codes "TooMany"
net_fault_name net.BadVersion = codes "BadVersion"
net_fault_name net.OutOfOrder = codes "OutOfOrder"
net_fault_name net.DoubleName = codes "DoubleName"
net_fault_name net.BadFirst = codes "BadFirst"

abbrev pub bad_net_line : NetFault → (line : ℕ) → List ℕ
bad_net_line fault line = bad_file_line (net_number fault) (net_fault_name fault) line

-- a power is given for a net without a reset node
abbrev pub no_reset_line : List ℕ
no_reset_line = codes "chp: 8 49 NoReset at line 1\n"

-- ---- of a refused script

abbrev pub script_fault_name : ScriptFault → List ℕ
script_fault_name script.BadLine = codes "BadLine"
script_fault_name script.NoSuchChannel = codes "NoSuchChannel"
script_fault_name script.TooWide = codes "TooWide"
script_fault_name script.DoubleChannel = codes "DoubleChannel"
script_fault_name script.TooManyValues = codes "TooManyValues"

abbrev pub bad_script_line : ScriptFault → (line : ℕ) → List ℕ
bad_script_line fault line = bad_file_line (script_fault_number fault) (script_fault_name fault) line

-- ---- of a refused delay file

abbrev pub delay_fault_name : DelayFault → List ℕ
delay_fault_name delay.BadLine = codes "BadLine"
delay_fault_name delay.UnknownNode = codes "UnknownNode"
delay_fault_name delay.TooLarge = codes "TooLarge"
delay_fault_name delay.DoubleNode = codes "DoubleNode"

abbrev pub bad_delays_line : DelayFault → (line : ℕ) → List ℕ
bad_delays_line fault line = bad_file_line (delay_fault_number fault) (delay_fault_name fault) line

-- ---- of a refused wave file

abbrev pub wave_fault_name : WaveFault → List ℕ
wave_fault_name wave.BadLine = codes "BadLine"
wave_fault_name wave.UnknownId = codes "UnknownId"
wave_fault_name wave.TimeBack = codes "TimeBack"
wave_fault_name wave.NoChange = codes "NoChange"
wave_fault_name wave.TooMany = codes "TooMany"

abbrev pub bad_wave_line : WaveFault → (line : ℕ) → List ℕ
bad_wave_line fault line = bad_file_line (wave_fault_number fault) (wave_fault_name fault) line
