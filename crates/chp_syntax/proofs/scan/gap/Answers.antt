use Rattle.std.proofs.Common.{ℕ, ◌-◌, length, take, drop, arith, length-take}
use Rattle.std.specs.Prelude.{◌==◌, not}
use Rattle.std.proofs.lemmas.List.Sums.{prefix_len-le-length}
use Rattle.chp_syntax.proofs.scan.gap.Goals as goal

pub overflow_add-result : goal.overflow_add-result
overflow_add-result c =
    let text = c.args.text.now in
    let behind = take (length text - 2) (drop 2 text) in
    omega (arith, c.line_length.ensures, prefix_len-le-length (λ (b : ℕ). not (b == 10)) behind, length-take (length text - 2) (drop 2 text))
