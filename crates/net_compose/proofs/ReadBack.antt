-- A hidden variable is read back, and its rules stand together.
use Rattle.std.proofs.Common.{◌≡◌, ℕ, zero, suc, ◌+◌, ◌-◌, ◌<◌, ◌≤◌, List, [], ◌∷◌, length, All, refl, ap, arith}
use Rattle.std.proofs.lemmas.List.Elements.{All-head, All-tail}
use Rattle.chp_base.specs.declared.span.Span.{Span}
use Rattle.prs_core.specs.Pairs.{Pair, rails_of}
use Rattle.width_check.specs.declared.typed.Var.{Var}
use Rattle.width_check.specs.Processes.{Formula, reading, TypedProgram}
use Rattle.width_check.specs.Typing.{var_width, IsDeclaredVar}
use Rattle.handshake_expand.specs.Layout.{block_size, formula_size}
use Rattle.cell_select.specs.PortNodes.{pairs_of}
use Rattle.function_blocks.specs.Expressions.{formula_rules}
use Rattle.net_compose.specs.Translation.{bits_at}

pub pairs_again : (ps : List Pair) → pairs_of (rails_of ps) ≡ ps
pairs_again [] = refl
pairs_again (p ∷ ps) = ap (λ (qs : List Pair). p ∷ qs) (pairs_again ps)

module _ (width block : ℕ) (at : Span) (some : 1 ≤ width) (most : width ≤ 64) (e : Formula) (is : e ≡ reading 0 (width - 1) 0 at) where
  abbrev back : Formula
  back = reading 0 (width - 1) 0 at

-- The rules of an assignment through a hidden variable, in the order in which they are written: those of its
-- expression, of the first answer, of the Q-element, of the block, of the second answer, and of what is read back.
module _ (p : TypedProgram) (x : ℕ) (e : Formula) (request from element first second : ℕ)
    (at_element : element ≡ from + block_size (var_width p.vars x)) (at_first : first ≡ element + 3) (at_second : second ≡ first + 1 + formula_size e)
    (some : 1 ≤ var_width p.vars x) (counted : length (formula_rules (bits_at p) e element (first + 1)) ≡ formula_size e) where
  abbrev width : ℕ
  width = var_width p.vars x

-- the rails of an expression's value, as a list

pub var_most : (vs : List Var) (x : ℕ) → All IsDeclaredVar vs → x < length vs → var_width vs x ≤ 64
var_most [] x h within = absurd (omega arith)
var_most (v ∷ vs) zero h within = (All-head IsDeclaredVar v vs h).most
var_most (v ∷ vs) (suc x) h within = var_most vs x (All-tail IsDeclaredVar v vs h) (omega arith)
