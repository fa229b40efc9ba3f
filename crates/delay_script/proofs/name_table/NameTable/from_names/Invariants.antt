use Rattle.std.proofs.Common.{take}
use Rattle.delay_script.specs.NameTables.{IsNameTable}
use Rattle.delay_script.proofs.name_table.NameTable.from_names.Given as goal

abbrev pub invariant-loop-place : goal.invariant-loop-place
invariant-loop-place l = IsNameTable (take l.place l.names) l.places
