use Rattle.std.proofs.Common.{[], ◌∷◌, ◌+◌, ◌++◌, drop, sym, ap, ◌∙◌}
use Rattle.prs_core.specs.Pairs.{rails_of}
use Rattle.function_blocks.proofs.Emitted.{behind, two_more}
use Rattle.function_blocks.proofs.node.rails_of.Goals as goal

pub loop-bit-preserved : goal.loop-bit-preserved
loop-bit-preserved c =
    let here = behind c.args.bits.now c.loop-bit.bit-index c.bit-item.result c.loop-bit-test.true c.bit-item.is in
    two_more c.loop-bit.rails.items c.push.new.self.items c.push-in-loop-bit.new.self.items (rails_of (drop (c.loop-bit.bit-index + 1) c.args.bits.now))
    (rails_of c.args.bits.now) c.bit-item.result.t c.bit-item.result.f
    (ap (λ ps. c.loop-bit.rails.items ++ rails_of ps) (sym here) ∙ c.loop-bit.invariant)
    (c.in_ok-push.ensures.items ∙ ap (λ n. c.loop-bit.rails.items ++ n ∷ []) c.rail.ensures)
    (c.in_ok-push-2.ensures.items ∙ ap (λ n. c.push.new.self.items ++ n ∷ []) c.rail-in-loop-bit.ensures)
