use Rattle.std.proofs.Common.{◌≡◌, ◌+◌, length, ap, ◌∙◌, arith}
use Rattle.std.proofs.lemmas.Result.{IfOk-weaker}
use Rattle.function_blocks.specs.Blocks.{bits_apart}
use Rattle.function_blocks.proofs.Emission.{pairs_apart}
use Rattle.function_blocks.proofs.expression.number.Goals as goal

pub returns-clause-bits : goal.returns-clause-bits
returns-clause-bits c =
    let place : c.args.from + c.len.result ≡ c.args.from + length c.args.drivers.now.items = omega (arith, c.len.ensures, c.args.drivers.now.ok) in
    IfOk-weaker c.bits_apart.result _ _ (λ bits h. h ∙ (ap (λ n. bits_apart 2 n (c.args.from + c.len.result)) c.width.ensures
    ∙ (ap (bits_apart 2 c.args.bits.now.width) place ∙ pairs_apart c.args.bits.now.width _))) c.bits_apart.ensures
