use Rattle.std.proofs.Common.{◌∙◌, ap, sym, arith}
use Rattle.width_check.specs.View.{process_of}
use Rattle.chp_meaning.specs.Changes.{changed}
use Rattle.chp_meaning.proofs.NextRound.{passing, planned_of, plan_within, within_after, settled_changed, settled_held, unchanged_after}
use Rattle.chp_meaning.proofs.RoundAnswers.{goes_on, ends_before}
use Rattle.chp_meaning.proofs.Settling.{on_err}
use Rattle.chp_meaning.proofs.run.next_round.Goals as goal

pub settled-requires : goal.settled-requires
settled-requires c =
    let plan = planned_of (process_of c.args.body.now) c.args.config.now _ _ _ c.deref-3.ensures.value c.in_ok-change.ensures.plan in
    within_after c.args.config.now _ _ c.in_ok-change.ensures.unchanged
    (plan_within (process_of c.args.body.now) c.args.config.now _ c.requires.standing plan.moves_are)

pub returns-in-Some-clause-next : goal.returns-in-Some-clause-next
returns-in-Some-clause-next c = (
  _,
  c.in_ok-change.moves.items,
  c.in_ok-change.ensures.plan,
  c.in_ok-change.ensures.unchanged,
  ends_before _ _ _ _ c.args.most _ c.deref.ensures.value c.requires.count c.end_before.ensures c.in-Some.is,
)

pub returns-clause-next : goal.returns-clause-next
returns-clause-next c =
    let plan = planned_of (process_of c.args.body.now) c.args.config.now _ _ _ c.deref-3.ensures.value c.in_ok-change.ensures.plan in (
      _,
      c.deref-3.result.now,
      plan,
      settled_changed c.args.config.now _ _ (changed c.in_ok-change.change) _ c.in_ok-change.ensures.unchanged c.in_ok-settled.ensures.ok,
      omega (
        arith,
        goes_on c.deref.result.now c.args.count.now c.args.most (sym c.end_before.ensures ∙ c.in_default.is),
        c.requires.count,
        ap passing c.deref.ensures.value,
        ap passing c.deref-3.ensures.value,
      ),
    )

pub returns-clause-count : goal.returns-clause-count
returns-clause-count c =
    let plan = planned_of (process_of c.args.body.now) c.args.config.now _ _ _ c.deref-3.ensures.value c.in_ok-change.ensures.plan in
    let settled = settled_changed c.args.config.now _ _ (changed c.in_ok-change.change) _ c.in_ok-change.ensures.unchanged c.in_ok-settled.ensures.ok in
    omega (
      arith,
      settled_held (process_of c.args.body.now) c.args.config.now _ _ _ c.requires.standing plan settled,
      c.requires.count,
      c.passing.ensures,
      ap passing c.deref-2.ensures.value,
      ap passing c.deref-3.ensures.value,
    )

pub returns-in_err-settled-clause-err : goal.returns-in_err-settled-clause-err
returns-in_err-settled-clause-err c =
    on_err c.from_residual-in_err-settled.result _ (unchanged_after _ _ _ c.in_ok-change.ensures.unchanged c.in_err-settled.ensures.err)
