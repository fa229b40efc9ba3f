-- The rails of a variable are raised, bit by bit.
use Rattle.std.proofs.Common.{◌≡◌, ℕ, suc, ◌+◌, ◌/◌, ◌%◌, ◌==◌, Bool, true, List, sym, ap, ◌∙◌}
use Rattle.std.specs.Prelude.{if◌then◌else◌, fold, slice_set}
use Rattle.cell_variable.specs.Variables.{high_first}

abbrev pub with_raised : List Bool → List ℕ → List Bool
with_raised values nodes = fold (λ vs node. slice_set vs node true) values nodes

pub raise_step : (left n value node rail : ℕ) (now all : List Bool) → left ≡ suc n → rail ≡ (if value % 2 == 1 then node else node + 1)
    → with_raised now (high_first left value node) ≡ all → with_raised (slice_set now rail true) (high_first n (value / 2) (node + 5)) ≡ all
raise_step left n value node rail now all more is so_far =
    ap (λ k. with_raised (slice_set now k true) (high_first n (value / 2) (node + 5))) is
    ∙ (ap (λ k. with_raised now (high_first k value node)) (sym more) ∙ so_far)

pub raise_end : (left value node : ℕ) (now all : List Bool) → left ≡ 0 → with_raised now (high_first left value node) ≡ all → now ≡ all
raise_end left value node now all none so_far = ap (λ k. with_raised now (high_first k value node)) (sym none) ∙ so_far
