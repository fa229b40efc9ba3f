use Rattle.std.proofs.Common.{◌≡◌, ◌+◌, ◌*◌, [], ◌∷◌, ◌++◌, sym, ap, ◌∙◌}
use Rattle.function_blocks.specs.Expressions.{read_bits, read_rail}
use Rattle.function_blocks.proofs.Emission.{between_apart}
use Rattle.function_blocks.proofs.Emitted.{reading_step}
use Rattle.function_blocks.proofs.expression.read_drivers.Goals as goal

pub loop-bit-init : goal.loop-bit-init
loop-bit-init c =
    ap (λ bits. c.args.drivers.now.items ++ read_bits c.args.request bits)
    (sym (between_apart c.args.high c.args.low c.args.first c.requires.some c.requires.most))

pub loop-bit-preserved : goal.loop-bit-preserved
loop-bit-preserved c =
    let rail : c.args.first + 5 * c.from.result ≡ c.args.first + 5 * c.loop-bit.bit = ap (λ n. c.args.first + 5 * n) c.from.ensures in
    reading_step c.args.request c.args.first c.args.high c.loop-bit.bit _ _ _ _ c.loop-bit-test.true c.loop-bit.invariant
    (c.in_ok-push.ensures.items ∙ ap (λ g. c.loop-bit.drivers.items ++ g ∷ []) (c.read.ensures ∙ ap (read_rail c.args.request) rail))
    (c.in_ok-push-2.ensures.items ∙ ap (λ g. c.push.new.self.items ++ g ∷ []) (c.read-in-loop-bit.ensures ∙ ap (λ n. read_rail c.args.request (n + 1)) rail))
