use Rattle.std.proofs.Common.{◌≡◌, ap, sym, ◌∙◌, subst, drop, arith}
use Rattle.width_check.specs.Processes.{Formula, Formulas}
use Rattle.width_check.specs.View.{formula_of}
use Rattle.width_check.specs.Values.{width_of, widths_of, IsWellFormed, AreWellFormed}
use Rattle.width_check.proofs.Rows.{parts_of, part_at, no_more_parts, joined_parts}
use Rattle.width_check.proofs.width.+width_of.Goals as goal

pub loop-part-init : goal.loop-part-init
loop-part-init t c =
    let facts = subst (λ (f : Formula). IsWellFormed f) (joined_parts _ _ c.in-Join.is) c.requires in
    rw c.deref-part-items.ensures.value (record {
      sum = omega arith;
      formed = facts.2;
      most = facts.1;
    })

pub loop-part-preserved : goal.loop-part-preserved
loop-part-preserved t c =
    let e = part_at c.deref-part-items.result.now c.loop-part.part-index _ c.loop-part-test.true c.part-item.is in
    let rest = subst (λ (ps : Formulas). AreWellFormed ps) e c.loop-part.invariant.formed in
    record {
      sum = omega (arith, ap widths_of e, c.loop-part.invariant.sum, c.width_of-width.ensures);
      formed = rest.1;
      most = c.loop-part.invariant.most;
    }

pub returns-after-loop-part : goal.returns-after-loop-part
returns-after-loop-part t c =
    let none = no_more_parts c.deref-part-items.result.now c.loop-part.part-index c.loop-part-test.false in
    let whole : width_of (formula_of c.args.e.now) ≡ widths_of (parts_of c.deref-part-items.result.now) = ap width_of (joined_parts _ _ c.in-Join.is)
    ∙ ap (λ es. widths_of (parts_of es)) (sym c.deref-part-items.ensures.value) in
    let left : widths_of (parts_of (drop c.loop-part.part-index c.deref-part-items.result.now)) ≡ 0 = ap widths_of none in
    omega (arith, c.loop-part.invariant.sum, whole, left)
