use Rattle.std.proofs.Common.{Bor}
use Rattle.std.proofs.lemmas.Result.{IfOk-weaker}
use Rattle.width_check.specs.declared.typed.TStmt.{TStmt}
use Rattle.width_check.specs.View.{process_of}
use Rattle.chp_meaning.specs.Ends.{seen}
use Rattle.chp_meaning.proofs.RoundAnswers.{reached_fits}
use Rattle.chp_meaning.proofs.Stepping.{steps_listed, steps_typed}
use Rattle.chp_meaning.proofs.enabled.next_steps.Goals as goal

pub returns-clause-steps : goal.returns-clause-steps
returns-clause-steps c =
    let t = c.args.program.now in
    let fits = reached_fits t (seen t c.args.config.now) c.requires.sharing c.requires.of.reached in
    IfOk-weaker c.steps_of.result _ _
    (λ steps is. steps_listed (λ (s : Bor TStmt). process_of s.now) (process_of t.body) c.args.config.now steps.items c.requires.of.standing fits is)
    (rw c.body.ensures.body at c.steps_of.ensures.steps)

pub returns-clause-typed : goal.returns-clause-typed
returns-clause-typed c =
    let t = c.args.program.now in
    IfOk-weaker c.steps_of.result _ _
    (λ steps is. steps_typed t.channels t.vars (λ (s : Bor TStmt). process_of s.now) (process_of t.body) c.args.config.now steps.items c.requires.of.standing
    c.body.ensures.typed.body_is is) (rw c.body.ensures.body at c.steps_of.ensures.steps)
