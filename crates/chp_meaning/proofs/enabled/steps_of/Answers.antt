use Rattle.std.proofs.Common.{refl, ap, ◌∙◌}
use Rattle.std.proofs.lemmas.Result.{IfOk-weaker}
use Rattle.width_check.specs.View.{process_of}
use Rattle.chp_meaning.specs.Remaining.{remains_of}
use Rattle.chp_meaning.specs.AtOnce.{statements, stepping}
use Rattle.chp_meaning.proofs.Clearing.{sends_found, receives_found, sends_cleared, receives_cleared, outset_noted}
use Rattle.chp_meaning.proofs.enabled.steps_of.Goals as goal

pub clear-requires-clause-sends : goal.clear-requires-clause-sends
clear-requires-clause-sends c =
    sends_found c.args.config.now.sends _ _ _ _ (statements (process_of c.args.body.now) (remains_of c.args.config.now.left)) c.requires.sends
    c.deref_mut.ensures.value c.note-passed.ensures.sends c.deref_mut-3.ensures.value

pub clear-requires-clause-receives : goal.clear-requires-clause-receives
clear-requires-clause-receives c =
    receives_found c.args.config.now.receives _ _ _ _ (statements (process_of c.args.body.now) (remains_of c.args.config.now.left)) c.requires.receives
    c.deref_mut-2.ensures.value c.note-passed.ensures.receives c.deref_mut-4.ensures.value

pub returns-clause-unchanged : goal.returns-clause-unchanged
returns-clause-unchanged c = record {
  left_is = refl;
  store = refl;
  rests = refl;
  histories = refl;
  sends = sends_cleared c.args.config.now.sends _ _ _ _ _ (statements (process_of c.args.body.now) (remains_of c.args.config.now.left)) c.requires.sends
      c.deref_mut.ensures.value c.note-passed.ensures.sends c.deref_mut-3.ensures.value c.clear.ensures.sends;
  receives = receives_cleared c.args.config.now.receives _ _ _ _ _ (statements (process_of c.args.body.now) (remains_of c.args.config.now.left))
      c.requires.receives c.deref_mut-2.ensures.value c.note-passed.ensures.receives c.deref_mut-4.ensures.value c.clear.ensures.receives;
}

pub returns-clause-steps : goal.returns-clause-steps
returns-clause-steps c =
    let p = process_of c.args.body.now in
    let noted = outset_noted p c.args.config.now _ _ _ _ c.requires c.deref_mut.ensures.value c.note-passed.ensures.sends
    c.deref_mut-2.ensures.value c.note-passed.ensures.receives in
    IfOk-weaker c.listed_steps-steps.result _ _ (λ steps is. is ∙ ap (λ o. stepping o (statements p (remains_of c.args.config.now.left))) noted)
    c.listed_steps-steps.ensures
