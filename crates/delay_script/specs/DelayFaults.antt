-- The number of each cause for which a delay file is refused.
use Rattle.std.specs.Prelude.{ℕ}
use Rattle.delay_script.specs.declared.fault.DelayFault.{DelayFault}
use Rattle.delay_script.specs.declared.fault.DelayFault.TheVariants.{BadLine, UnknownNode, TooLarge, DoubleNode}

abbrev pub delay_fault_number : DelayFault → ℕ
delay_fault_number BadLine = 60
delay_fault_number UnknownNode = 61
delay_fault_number TooLarge = 62
delay_fault_number DoubleNode = 63
