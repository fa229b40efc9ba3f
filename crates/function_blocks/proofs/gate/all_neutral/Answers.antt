use Rattle.std.proofs.Common.{[], ◌∷◌, ◌+◌, ◌++◌, drop, sym, ap, ◌∙◌}
use Rattle.prs_core.specs.Nets.{is_low}
use Rattle.prs_core.specs.Pairs.{lows, rails_of}
use Rattle.function_blocks.proofs.Emitted.{behind, two_more}
use Rattle.function_blocks.proofs.gate.all_neutral.Goals as goal

pub loop-input-preserved : goal.loop-input-preserved
loop-input-preserved c =
    let here = behind c.args.inputs.now c.loop-input.input-index c.input-item.result c.loop-input-test.true c.input-item.is in
    two_more c.loop-input.literals.items c.push.new.self.items c.push-in-loop-input.new.self.items
    (lows (rails_of (drop (c.loop-input.input-index + 1) c.args.inputs.now))) (lows (rails_of c.args.inputs.now)) (is_low c.input-item.result.t)
    (is_low c.input-item.result.f)
    (ap (λ ps. c.loop-input.literals.items ++ lows (rails_of ps)) (sym here) ∙ c.loop-input.invariant)
    (c.in_ok-push.ensures.items ∙ ap (λ l. c.loop-input.literals.items ++ l ∷ []) (c.low.ensures ∙ ap is_low c.rail.ensures))
    (c.in_ok-push-2.ensures.items ∙ ap (λ l. c.push.new.self.items ++ l ∷ []) (c.low-in-loop-input.ensures ∙ ap is_low c.rail-in-loop-input.ensures))
