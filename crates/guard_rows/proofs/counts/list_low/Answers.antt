use Rattle.std.proofs.Common.{◌≡◌, ◌∙◌, ℕ, List, true, sym, ap, subst}
use Rattle.std.specs.Prelude.{◌==◌, All}
use Rattle.std.proofs.lemmas.List.Elements.{All-push, All-get_or}
use Rattle.prs_core.specs.declared.rule.Literal.{Literal}
use Rattle.guard_rows.specs.Places.{count_of, AllPass}
use Rattle.guard_rows.proofs.Counting.{none_more}
use Rattle.guard_rows.proofs.counts.list_low.Goals as goal

pub loop-literal-preserved : goal.loop-literal-preserved
loop-literal-preserved c =
    let literals = c.literals-literal-items.result.now in
    let nodes = c.loop-literal.nodes.items in
    let i = c.loop-literal.literal-index in
    let is = c.loop-literal.invariant in record {
      holds = λ v. none_more v literals nodes i _ c.loop-literal-test.true c.if-literal.false (is.holds v)
          ∙ sym (ap (λ (ns : List ℕ). count_of v ns == 0) c.in_ok-push.ensures.items);
      pass = λ passes all. subst (λ (ns : List ℕ). All (λ n. passes n ≡ true) ns) (sym c.in_ok-push.ensures.items)
          (All-push (λ n. passes n ≡ true) nodes _ (is.pass passes all)
          (All-get_or (λ (l : Literal). passes l.node ≡ true) literals i _ c.loop-literal-test.true
          (subst (λ (ls : List Literal). AllPass passes ls) (sym c.literals-literal-items.ensures.value) all)));
    }
