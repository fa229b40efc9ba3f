use Rattle.std.proofs.Common.{[], drop}
use Rattle.std.specs.List.{IsDistinct}
use Rattle.std.specs.Str.{bytes_eq}
use Rattle.width_check.specs.Typing.{names_of}
use Rattle.width_check.proofs.Alike.{Alike}
use Rattle.width_check.proofs.declared.are_distinct.Given as goal

abbrev pub invariant-loop-place : goal.invariant-loop-place
invariant-loop-place l = Alike (IsDistinct bytes_eq (names_of l.channels l.vars)) (IsDistinct bytes_eq (names_of (drop l.place l.channels) l.vars))

abbrev pub invariant-loop-place-2 : goal.invariant-loop-place-2
invariant-loop-place-2 l = Alike (IsDistinct bytes_eq (names_of l.channels l.vars)) (IsDistinct bytes_eq (names_of [] (drop l.place l.vars)))
