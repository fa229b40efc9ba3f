use Rattle.std.proofs.Common.{rules, ◌≡◌, ◌<◌, ◌≤◌, length, get_or, List, refl, sym, subst, ap, ◌∙◌, arith}
use Rattle.std.specs.declared.alloc.Global.{Global}
use Rattle.std.specs.declared.vec.Vec.{Vec}
use Rattle.chp_meaning.specs.declared.change.BranchChange.{BranchChange}
use Rattle.std.proofs.lemmas.List.{get_or_read}
use Rattle.chp_meaning.specs.declared.change.Change.{the_lemmas}
use Rattle.chp_meaning.specs.Remaining.{remains_of}
use Rattle.chp_meaning.specs.Changes.{changed}
use Rattle.chp_meaning.proofs.Changing.{item_is, rest_set, set_changed, altered_past, branch_made, all_made}
use Rattle.chp_meaning.proofs.change.+apply.Goals.{then-branch-len, else-branch-len}
use Rattle.chp_meaning.proofs.change.+apply.Goals as goal

pub loop-branch-init : goal.loop-branch-init
loop-branch-init t c = record { rest = refl; changes = refl }

pub apply-requires-then-branch-len : goal.apply-requires-then-branch-len
apply-requires-then-branch-len t c =
    let xs = c.loop-branch.branch-items in
    let i = c.loop-branch.branch-index in
    let d = c.branch-item.result in
    let all = c.in-Branches.changes.items in
    let lt : i < length xs = omega (arith, c.loop-branch-test.true, c.loop-branch.auto.branch-items) in
    let there : c.deref_mut-branch-items.result.now ≡ all = c.deref_mut-branch-items.ensures.value
    ∙ ap (λ (v : Vec BranchChange Global). v.items) c.in-Branches.changes-is in
    let same : get_or xs i d ≡ get_or all i d =
    item_is xs c.deref_mut-branch-items.result.now i d lt c.loop-branch.auto.branch-items c.loop-branch.invariant.rest
    ∙ ap (λ ys. get_or ys i d) there in
    let within : i < length all = subst (λ (ys : List BranchChange). i < length ys) there c.loop-branch-test.true in
    (search (rules, the_lemmas, get_or_read, same, within), tt)

pub loop-branch-preserved : goal.loop-branch-preserved
loop-branch-preserved t c =
    let xs = c.loop-branch.branch-items in
    let ys = c.deref_mut-branch-items.result.now in
    let i = c.loop-branch.branch-index in
    let d = c.branch-item.result in
    let len = c.loop-branch.auto.branch-items in
    let lt : i < length xs = omega (arith, c.loop-branch-test.true, len) in
    let x = get_or xs i d in
    let at : x ≡ get_or ys i d = item_is xs ys i d lt len c.loop-branch.invariant.rest in
    let ls = c.loop-branch.lefts.items in
    elim c.if-branch-len.branch [
      | then-branch-len w ↦
          let within : x.number < length ls = omega (arith, w.if-branch-len.true, c.len.ensures, c.loop-branch.lefts.ok.0) in
          let made = w.apply-then-branch-len.ensures ∙ ap (λ l. changed x.change (remains_of l)) w.index_mut.ensures.value in
          rw (w.lefts-is, w.branch-items-is) (record {
            rest = rest_set xs ys i d _ lt len c.loop-branch.invariant.rest;
            changes = branch_made ys i d x ls _ _ c.loop-branch-test.true at
                (set_changed ls x.number w.apply-then-branch-len.new.left _ (changed x.change) within made) c.loop-branch.invariant.changes;
          })
      | else-branch-len w ↦
          let past : length ls ≤ x.number = omega (arith, w.if-branch-len.false, c.len.ensures, c.loop-branch.lefts.ok.0) in
          rw (w.lefts-is, w.branch-items-is) (record {
            rest = rest_set xs ys i d _ lt len c.loop-branch.invariant.rest;
            changes = branch_made ys i d x ls ls _ c.loop-branch-test.true at (altered_past ls x.number (changed x.change) past)
                c.loop-branch.invariant.changes;
          })
    ]

pub returns-after-loop-branch : goal.returns-after-loop-branch
returns-after-loop-branch t c =
    all_made c.args.left.now c.args.change.now c.in-Branches-replace.lefts c.loop-branch.lefts c.in-Branches.changes c.deref_mut-branch-items.result.now
    c.loop-branch.branch-index (sym c.in-Branches-replace.ensures.value) c.in-Branches.is
    (c.deref_mut-branch-items.ensures.value ∙ ap (λ (v : Vec BranchChange Global). v.items) c.in-Branches.changes-is) c.loop-branch-test.false
    c.loop-branch.invariant.changes
