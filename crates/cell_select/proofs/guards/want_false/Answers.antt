use Rattle.std.proofs.Common.{[], ◌∷◌, ◌++◌, arith, ap, ◌∙◌}
use Rattle.prs_core.specs.declared.rule.Literal.{Literal}
use Rattle.cell_select.proofs.PairLists.{falses_step}
use Rattle.cell_select.proofs.guards.want_false.Goals as goal

pub loop-guard-preserved : goal.loop-guard-preserved
loop-guard-preserved c =
    c.in_ok-push.ensures.items ∙ ap (λ (l : Literal). c.loop-guard.literals.items ++ l ∷ []) c.high.ensures
    ∙ falses_step c.args.rails.now c.args.from c.loop-guard.guard c.args.literals.now.items c.loop-guard.literals.items (omega arith) (omega arith)
    c.loop-guard.invariant
