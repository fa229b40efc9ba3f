-- The number of each cause for which a rule file is refused.
use Rattle.std.specs.Prelude.{ℕ}
use Rattle.prs_file.specs.declared.fault.NetFault.{NetFault}
use Rattle.prs_file.specs.declared.fault.NetFault.TheVariants.{BadLine, UnknownNode, DoubleRule, DrivenWire, TooMany, BadVersion, OutOfOrder, DoubleName, BadFirst}

abbrev pub net_fault_number : NetFault → ℕ
net_fault_number BadLine = 40
net_fault_number UnknownNode = 41
net_fault_number DoubleRule = 42
net_fault_number DrivenWire = 43
net_fault_number TooMany = 44
net_fault_number BadVersion = 45
net_fault_number OutOfOrder = 46
net_fault_number DoubleName = 47
net_fault_number BadFirst = 48
