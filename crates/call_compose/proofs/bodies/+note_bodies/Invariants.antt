use Rattle.std.proofs.Common.{map}
use Rattle.std.specs.Slice.Iter.{iter_rest}
use Rattle.std.specs.Iterator.Adapters.{zip_first, zip_second}
use Rattle.call_compose.proofs.Noting.{PartsNoted, ArmsNoted}
use Rattle.call_compose.proofs.bodies.+note_bodies.Given as goal

abbrev pub invariant-loop-part : goal.invariant-loop-part
invariant-loop-part l = PartsNoted l.names
    (iter_rest (zip_first l.initial.part-iterator)) (iter_rest (zip_second l.initial.part-iterator))
    (iter_rest (zip_first l.part-iterator)) (iter_rest (zip_second l.part-iterator))
    (map (λ b. b.now) l.fn.bodies) (map (λ b. b.now) l.bodies)

abbrev pub invariant-loop-part-2 : goal.invariant-loop-part-2
invariant-loop-part-2 l = PartsNoted l.names
    (iter_rest (zip_first l.initial.part-iterator)) (iter_rest (zip_second l.initial.part-iterator))
    (iter_rest (zip_first l.part-iterator)) (iter_rest (zip_second l.part-iterator))
    (map (λ b. b.now) l.fn.bodies) (map (λ b. b.now) l.bodies)

abbrev pub invariant-loop-arm : goal.invariant-loop-arm
invariant-loop-arm l = ArmsNoted l.names
    (iter_rest (zip_first l.initial.arm-iterator)) (iter_rest (zip_second l.initial.arm-iterator))
    (iter_rest (zip_first l.arm-iterator)) (iter_rest (zip_second l.arm-iterator))
    (map (λ b. b.now) l.fn.bodies) (map (λ b. b.now) l.bodies)
