use Rattle.std.proofs.Common.{◌≡◌, ◌+◌, ◌*◌, ap, ◌∙◌, arith}
use Rattle.prs_core.specs.Pairs.{pair_at}
use Rattle.function_blocks.proofs.Emitted.{apart_step, step_fits}
use Rattle.function_blocks.proofs.node.bits_apart.Goals as goal

pub loop-place-preserved : goal.loop-place-preserved
loop-place-preserved c =
    let at : c.args.from + c.args.step * c.from.result ≡ c.args.from + c.args.step * c.loop-place.place =
    ap (λ n. c.args.from + c.args.step * n) c.from.ensures in
    apart_step c.args.step c.args.count c.args.from c.loop-place.place _ _ _ _ c.loop-place-test.true c.loop-place.invariant (c.at.ensures ∙ ap pair_at at)
    c.in_ok-push.ensures.items

pub overflow_mul-step : goal.overflow_mul-step
overflow_mul-step c =
    let at : c.args.step * c.from.result ≡ c.args.step * c.loop-place.place = ap (λ n. c.args.step * n) c.from.ensures in
    omega (arith, at, step_fits c.args.step c.loop-place.place c.args.count c.loop-place-test.true, c.requires)

pub overflow_add-from : goal.overflow_add-from
overflow_add-from c =
    let at : c.args.step * c.from.result ≡ c.args.step * c.loop-place.place = ap (λ n. c.args.step * n) c.from.ensures in
    omega (arith, at, step_fits c.args.step c.loop-place.place c.args.count c.loop-place-test.true, c.requires)

pub at-requires : goal.at-requires
at-requires c =
    let at : c.args.step * c.from.result ≡ c.args.step * c.loop-place.place = ap (λ n. c.args.step * n) c.from.ensures in
    omega (arith, at, step_fits c.args.step c.loop-place.place c.args.count c.loop-place-test.true, c.requires)
