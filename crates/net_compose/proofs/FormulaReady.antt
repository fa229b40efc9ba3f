-- The conditions of `emit_expr` at an expression of a program, and what it writes.
use Rattle.std.proofs.Common.{◌≡◌, ℕ, zero, suc, ◌+◌, ◌*◌, ◌<◌, ◌≤◌, List, length, ap, ◌∙◌, arith}
use Rattle.std.specs.Prelude.{slice_index_or}
use Rattle.std.proofs.lemmas.List.FromFn.{get_or-map-range_with_len, length-map-range_with_len}
use Rattle.prs_core.specs.Pairs.{pair_of, pair_at}
use Rattle.width_check.specs.Processes.{Formula, TypedProgram}
use Rattle.width_check.specs.Values.{IsWellFormed}
use Rattle.width_check.specs.Typing.{var_width, ReadsFrom}
use Rattle.handshake_expand.specs.Layout.{var_from, root_request}
use Rattle.function_blocks.specs.Blocks.{HasBit}
use Rattle.function_blocks.specs.BitsRead.{EachRead}
use Rattle.function_blocks.proofs.Callers.{each_of}
use Rattle.net_compose.specs.Begins.{var_firsts}
use Rattle.net_compose.specs.Translation.{block_bits}
use Rattle.net_compose.proofs.FlatBlocks.{blocks_below}

-- a bit of a block
pub bit_pair : (n from i : ℕ) → i < n → pair_of (block_bits n from) i ≡ pair_at (from + 5 * i)
bit_pair zero from i l = absurd (omega (arith, l))
bit_pair (suc n) from zero l = let e : from ≡ from + 5 * 0 = omega arith in ap pair_at e
bit_pair (suc n) from (suc i) l =
    let e : from + 5 + 5 * i ≡ from + 5 * suc i = omega arith in
    bit_pair n (from + 5) i (omega (arith, l)) ∙ ap pair_at e

module _ (p : TypedProgram) (vars : List ℕ) (are : vars ≡ var_firsts p) where
  pub first_at : (x : ℕ) → x < length p.vars → slice_index_or vars x 0 ≡ var_from p x
  first_at x l = ap (λ vs. slice_index_or vs x 0) are ∙ get_or-map-range_with_len (var_from p) 0 (length p.vars) x x 0 l (omega arith)

  pub firsts_count : length vars ≡ length p.vars
  firsts_count = ap length are ∙ length-map-range_with_len (var_from p) 0 (length p.vars)

  -- each bit stands before the root
  bit_before : (x i : ℕ) → x < length p.vars → i < var_width p.vars x → slice_index_or vars x 0 + 5 * i + 1 < root_request p
  bit_before x i l m = let below = blocks_below p.vars x l in let at = first_at x l in omega (arith, below, at, m)

  module _ (e : Formula) (formed : IsWellFormed e) (read : ReadsFrom p.vars e) where
    pub bits_there : (count request : ℕ) → root_request p ≤ request → request < count → EachRead (HasBit count vars) e
    bits_there count request asked few =
        each_of (HasBit count vars) p.vars e formed read
        (λ x i l m small. record {
          entry = (let n = firsts_count in omega (arith, n, l));
          within =
              (let b = bit_before x i l m in omega (arith, b, asked, few));
        })
