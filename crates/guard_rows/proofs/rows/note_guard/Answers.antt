use Rattle.std.proofs.Common.{List, sym, subst}
use Rattle.prs_core.specs.declared.rule.Literal.{Literal}
use Rattle.prs_core.specs.Nets.{GuardValue}
use Rattle.guard_rows.specs.Places.{AllPass, GuardPasses}
use Rattle.guard_rows.proofs.rows.note_guard.Goals as goal

pub loop-term-preserved : goal.loop-term-preserved
loop-term-preserved c =
    let terms = c.terms-term-items.result.now in
    let term = c.term-item.result in
    let one = c.in_ok-note_term.ensures in
    record {
      few = one.few;
      pass = λ passes all before.
          let here = subst (λ (g : GuardValue). GuardPasses passes g) (sym c.terms-term-items.ensures) all in
          one.pass passes (subst (λ (t : List Literal). AllPass passes t) (sym c.term-item.is) (here c.loop-term.term-index term c.loop-term-test.true))
          (c.loop-term.invariant.pass passes all before);
    }
