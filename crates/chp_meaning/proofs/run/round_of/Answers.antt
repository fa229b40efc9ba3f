use Rattle.width_check.specs.View.{process_of}
use Rattle.chp_meaning.specs.Changes.{changed}
use Rattle.chp_meaning.proofs.NextRound.{plan_within, within_after, settled_changed, settled_stands, settled_round, planned_of}
use Rattle.chp_meaning.proofs.run.round_of.Goals as goal

pub settled-requires : goal.settled-requires
settled-requires c =
    let plan = planned_of (process_of c.args.body.now) c.args.config.now _ _ _ c.deref.ensures.value c.in_ok-change.ensures.plan in
    within_after c.args.config.now _ _ c.in_ok-change.ensures.unchanged (plan_within (process_of c.args.body.now) c.args.config.now _ c.requires plan.moves_are)

pub returns-clause-standing : goal.returns-clause-standing
returns-clause-standing c =
    let plan = planned_of (process_of c.args.body.now) c.args.config.now _ _ _ c.deref.ensures.value c.in_ok-change.ensures.plan in
    settled_stands (process_of c.args.body.now) c.args.config.now _ _ _ c.requires plan
    (settled_changed c.args.config.now _ _ (changed c.in_ok-change.change) _ c.in_ok-change.ensures.unchanged c.in_ok-settled.ensures.ok)

pub returns-clause-round : goal.returns-clause-round
returns-clause-round c = λ fits.
    let plan = planned_of (process_of c.args.body.now) c.args.config.now _ _ _ c.deref.ensures.value c.in_ok-change.ensures.plan in
    settled_round (process_of c.args.body.now) c.args.config.now _ _ _ c.requires fits plan
    (settled_changed c.args.config.now _ _ (changed c.in_ok-change.change) _ c.in_ok-change.ensures.unchanged c.in_ok-settled.ensures.ok)
