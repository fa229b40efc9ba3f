-- What the calls write keeps the contracts.
use Rattle.std.proofs.Common.{◌≡◌, ℕ, ◌<◌, List, [], ◌∷◌, length, arith, ap, sym, ◌∙◌, refl}
use Rattle.prs_core.specs.Parts.{Keeps}
use Rattle.cell_select.specs.Contract.{Branch, latches_of, select_part, again_part}
use Rattle.cell_select.specs.PortNodes.{AreBranches, IsSelect, IsAgain, select_of, again_of, branches_from, pairs_of}
use Rattle.cell_select.specs.declared.emit.SelectPorts.{SelectPorts}
use Rattle.cell_select.specs.declared.emit.AgainPorts.{AgainPorts}
use Rattle.cell_select.proofs.PairLists.{pairs_length}
use Rattle.cell_select.proofs.Emitted.{branch_lists}
use Rattle.cell_select.proofs.SelectOnce.{select_keeps}
use Rattle.cell_select.proofs.AgainOnce.{again_keeps}

latches_count : (bs : List Branch) → length (latches_of bs) ≡ length bs
latches_count [] = refl
latches_count (b ∷ bs) = let rest = latches_count bs in omega (arith, rest)

some_branch : (ls ss ans rails : List ℕ) → AreBranches ls ss ans rails → 0 < length (branches_from ls ss ans (pairs_of rails))
some_branch ls ss ans rails are =
    let lists = branch_lists ls ss ans (pairs_of rails) are.started are.answered (pairs_length (length ls) rails are.railed) in
    let count : length (branches_from ls ss ans (pairs_of rails)) ≡ length ls = sym (latches_count (branches_from ls ss ans (pairs_of rails)))
    ∙ ap (λ (xs : List ℕ). length xs) lists.latches in
    let some = are.some in
    omega (arith, count, some)

pub select_written : (count : ℕ) (p : SelectPorts) → IsSelect count p → Keeps (select_part (select_of p))
select_written count p is = select_keeps (select_of p) (some_branch p.latches.items p.starts.items p.answers.items p.guard_rails.items is.branches) is.apart

pub again_written : (count : ℕ) (p : AgainPorts) → IsAgain count p → Keeps (again_part (again_of p))
again_written count p is = again_keeps (again_of p) (some_branch p.latches.items p.starts.items p.answers.items p.guard_rails.items is.branches) is.apart
