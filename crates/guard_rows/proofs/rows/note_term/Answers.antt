use Rattle.std.proofs.Common.{◌≡◌, true, List, sym, subst}
use Rattle.std.proofs.lemmas.List.Elements.{All-get_or}
use Rattle.prs_core.specs.declared.rule.Literal.{Literal}
use Rattle.guard_rows.specs.Places.{AllPass}
use Rattle.guard_rows.proofs.rows.note_term.Goals as goal

pub loop-literal-preserved : goal.loop-literal-preserved
loop-literal-preserved c =
    let literals = c.literals-literal-items.result.now in
    let one = c.in_ok-note_input.ensures in
    record {
      few = one.few;
      pass = λ passes all before. one.pass passes
          (All-get_or (λ (l : Literal). passes l.node ≡ true) literals c.loop-literal.literal-index _ c.loop-literal-test.true
          (subst (λ (ls : List Literal). AllPass passes ls) (sym c.literals-literal-items.ensures.value) all))
          (c.loop-literal.invariant.pass passes all before);
    }
