use Rattle.std.proofs.Common.{◌≡◌, map, take}
use Rattle.chp_syntax.specs.View.{statement_of, guarded_of}
use Rattle.call_merge.proofs.copies.+copied.Given as goal

abbrev pub invariant-loop-part : goal.invariant-loop-part
invariant-loop-part l = map statement_of l.made.items ≡ map statement_of (take l.part-index l.part-items)

abbrev pub invariant-loop-arm : goal.invariant-loop-arm
invariant-loop-arm l = map guarded_of l.made.items ≡ map guarded_of (take l.arm-index l.arm-items)
