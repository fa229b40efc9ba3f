use Rattle.std.proofs.Common.{take}
use Rattle.std.specs.HashMap.{get}
use Rattle.std.specs.Str.{bytes_eq}
use Rattle.call_merge.specs.FirstPlaces.{AreFirstPlaces}
use Rattle.call_merge.proofs.firsts.FirstDecls.new.Given as goal

abbrev pub invariant-loop-place : goal.invariant-loop-place
invariant-loop-place l = AreFirstPlaces (take l.place l.decls) (get bytes_eq l.places)
