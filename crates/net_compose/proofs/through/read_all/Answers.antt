use Rattle.std.proofs.Common.{◌≡◌, ◌∙◌, ◌+◌, ◌-◌, ◌*◌, ℕ, zero, suc, ◌∷◌, ◌++◌, refl, ap, arith}
use Rattle.prs_core.specs.Pairs.{pair_at}
use Rattle.function_blocks.specs.Blocks.{bits_apart}
use Rattle.function_blocks.specs.Expressions.{read_bits, bits_between}
use Rattle.function_blocks.proofs.Emission.{between_apart}
use Rattle.net_compose.specs.Translation.{block_bits}
use Rattle.net_compose.proofs.through.read_all.Goals as goal

blocks_apart : (n from : ℕ) → bits_apart 5 n from ≡ block_bits n from
blocks_apart zero from = refl
blocks_apart (suc n) from = ap (λ ps. pair_at from ∷ ps) (blocks_apart n (from + 5))

pub returns : goal.returns
returns c =
    let width = c.args.width in
    let first = c.args.first in
    let all : width - 1 + 1 - 0 ≡ width = omega (arith, c.requires.some) in
    let none : first + 5 * 0 ≡ first = omega arith in
    let own : c.read_drivers.new.drivers.items ≡ read_bits c.args.request (block_bits width first) =
    c.in_ok-read_drivers.ensures
    ∙ (ap (λ xs. xs ++ read_bits c.args.request (bits_between (width - 1) 0 (bits_apart 5 64 first))) c.new-rails.ensures.items
    ∙ ap (read_bits c.args.request) (between_apart (width - 1) 0 first (omega arith) (omega (arith, c.requires.most))
    ∙ (ap (λ n. bits_apart 5 n (first + 5 * 0)) all ∙ (ap (bits_apart 5 width) none ∙ blocks_apart width first)))) in
    c.in_ok-add_rails.ensures ∙ ap (λ xs. c.args.drivers.now.items ++ xs) own
