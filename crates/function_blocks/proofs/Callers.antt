-- For callers of `emit_expr`: its conditions, and what it writes, by the variables that the expression reads from.
use Rattle.std.proofs.Common.{◌≡◌, ℕ, ◌+◌, ◌*◌, ◌<◌, ◌≤◌, List, [], ◌∷◌, ◌++◌, length, refl, sym, ap, ◌∙◌, arith}
use Rattle.std.specs.Prelude.{slice_index_or}
use Rattle.prs_core.specs.Pairs.{Pair, pair_of, pair_at}
use Rattle.width_check.specs.declared.typed.Var.{Var}
use Rattle.width_check.specs.Processes.{Formula}
use Rattle.width_check.specs.Values.{IsWellFormed}
use Rattle.width_check.specs.Typing.{var_width, ReadsFrom}
use Rattle.function_blocks.specs.Expressions.{HasBits, read_rail, formula_rules}
use Rattle.function_blocks.specs.Blocks.{bits_in_blocks}
use Rattle.function_blocks.specs.BitsRead.{EachRead}
use Rattle.function_blocks.specs.Parts.{BlockPart, fixed, read_bit, made, block_parts}
use Rattle.function_blocks.specs.Listed.{part_rules, rules_listed}
use Rattle.function_blocks.proofs.GateRest.{Only}
use Rattle.function_blocks.proofs.Readings.{parts_read}
use Rattle.function_blocks.proofs.ReadBits.{each_declared}
use Rattle.function_blocks.proofs.GatesTold.{listed}
use Rattle.function_blocks.proofs.Emission.{block_vars, block_bits, block_reads}
use Rattle.function_blocks.proofs.Within.{apart_at}

-- what holds of each bit of the variables holds of each bit that is read
pub each_of : (P : ℕ → ℕ → Type 0) (vars : List Var) (e : Formula) → IsWellFormed e → ReadsFrom vars e
    → ((x i : ℕ) → x < length vars → i < var_width vars x → i ≤ 63 → P x i) → EachRead P e
each_of P vars e h r f = each_declared vars P f e h r

-- the rules are the same where the bits that are read are
listed_same : (bits now : ℕ → List Pair) (request from : ℕ) (gs : List BlockPart) → Only (λ x i. pair_of (bits x) i ≡ pair_of (now x) i) gs
    → rules_listed bits request from gs ≡ rules_listed now request from gs
listed_same bits now request from [] h = refl
listed_same bits now request from (fixed v ∷ gs) h = ap (λ rs. part_rules bits request from (fixed v) ++ rs) (listed_same bits now request from gs h)
listed_same bits now request from (read_bit x i ∷ gs) h =
    ap (λ (p : Pair). read_rail request p.t ∷ read_rail request p.f ∷ rules_listed bits request from gs) h.0
    ∙ ap (λ rs. read_rail request (pair_of (now x) i).t ∷ read_rail request (pair_of (now x) i).f ∷ rs) (listed_same bits now request from gs h.1)
listed_same bits now request from (made f i more ∷ gs) h =
    ap (λ rs. part_rules bits request from (made f i more) ++ rs) (listed_same bits now request from gs h)

-- so it writes the rules of the variables' own bits, where these lie in blocks that begin at these nodes
pub rules_in_blocks : (vars : List Var) (bits : ℕ → List Pair) (firsts : List ℕ) → HasBits vars bits
    → ((x i : ℕ) → x < length vars → i < var_width vars x → pair_of (bits x) i ≡ pair_at (slice_index_or firsts x 0 + 5 * i))
    → (e : Formula) → IsWellFormed e → ReadsFrom vars e → (request from : ℕ)
    → formula_rules (bits_in_blocks firsts) e request from ≡ formula_rules bits e request from
rules_in_blocks vars bits firsts has lie e h r request from =
    let blocks = bits_in_blocks firsts in
    let same = each_of (λ x i. pair_of (blocks x) i ≡ pair_of (bits x) i) vars e h r
    (λ x i l m few. apart_at 5 64 (slice_index_or firsts x 0) i (omega (arith, few)) ∙ sym (lie x i l m)) in
    (listed (block_vars firsts e) e h (block_reads firsts e h)).rules blocks (block_bits firsts e) request from
    ∙ (listed_same blocks bits request from (block_parts e 0) (parts_read _ e 0 same)
    ∙ sym ((listed vars e h r).rules bits has request from))
