-- The number of each cause for which a program text is refused.
use Rattle.std.specs.Prelude.{ℕ}
use Rattle.chp_base.specs.declared.fault.FaultCode.{FaultCode}
use Rattle.chp_base.specs.declared.fault.FaultCode.TheVariants.{BadToken, Syntax, TooDeep, Probe, Arbiter, TooManyGuards, DoubleName, Undeclared, WrongKind, Direction, Width, ConstantTooWide, UnknownWidth, BadSlice, WidthRange, SharedVariable, SharedSend, SharedReceive, SharedProcedure, DoubleProcedure, UnknownProcedure, UnusedProcedure, NestedCall}

abbrev pub number_of : FaultCode → ℕ
number_of BadToken = 10
number_of Syntax = 11
number_of TooDeep = 12
number_of Probe = 13
number_of Arbiter = 14
number_of TooManyGuards = 15
number_of DoubleName = 20
number_of Undeclared = 21
number_of WrongKind = 22
number_of Direction = 23
number_of Width = 24
number_of ConstantTooWide = 25
number_of UnknownWidth = 26
number_of BadSlice = 27
number_of WidthRange = 28
number_of SharedVariable = 30
number_of SharedSend = 31
number_of SharedReceive = 32
number_of SharedProcedure = 33
number_of DoubleProcedure = 34
number_of UnknownProcedure = 35
number_of UnusedProcedure = 36
number_of NestedCall = 37
