-- The circuit of an expression reads the bits of a program's variables.
use Rattle.std.proofs.Common.{◌≡◌, ◌∙◌, ℕ, ◌+◌, ◌*◌, List, sym, ap}
use Rattle.prs_core.specs.Pairs.{pair_at}
use Rattle.width_check.specs.Processes.{Formula, TypedProgram}
use Rattle.width_check.specs.Typing.{var_width, ReadsFrom}
use Rattle.width_check.specs.Values.{IsWellFormed}
use Rattle.function_blocks.specs.Blocks.{bits_in_blocks}
use Rattle.function_blocks.specs.Expressions.{formula_rules}
use Rattle.function_blocks.proofs.Callers.{rules_in_blocks}
use Rattle.net_compose.specs.Begins.{var_firsts}
use Rattle.net_compose.specs.Translation.{bits_at}
use Rattle.net_compose.proofs.FormulaReady.{bit_pair, first_at}
use Rattle.net_compose.proofs.Sizes.{has_bits}

pub blocks_are_bits : (p : TypedProgram) (vars : List ℕ) (are : vars ≡ var_firsts p) (e : Formula) (formed : IsWellFormed e) (read : ReadsFrom p.vars e)
    (request from : ℕ) → formula_rules (bits_in_blocks vars) e request from ≡ formula_rules (bits_at p) e request from
blocks_are_bits p vars are e formed read request from =
    rules_in_blocks p.vars (bits_at p) vars (has_bits p)
    (λ x i l m. bit_pair (var_width p.vars x) _ i m ∙ ap (λ n. pair_at (n + 5 * i)) (sym (first_at p vars are x l)))
    e formed read request from
