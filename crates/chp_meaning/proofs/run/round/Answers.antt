use Rattle.std.proofs.lemmas.Result.{IfOk-weaker}
use Rattle.width_check.specs.Typed.{program_of}
use Rattle.width_check.specs.View.{process_of}
use Rattle.chp_meaning.specs.Ends.{seen}
use Rattle.chp_meaning.proofs.RoundRuns.{one_history, rounds_hold}
use Rattle.chp_meaning.proofs.RoundAnswers.{reached_fits, reached_channels, round_reached, took_is}
use Rattle.chp_meaning.proofs.run.round.Goals as goal

pub returns-clause-of : goal.returns-clause-of
returns-clause-of c =
    let t = c.args.program.now in
    let fits = reached_fits t (seen t c.args.config.now) c.requires.sharing c.requires.of.reached in
    let made = rw c.body.ensures.body at c.round_of.ensures in
    let there = round_reached t (seen t c.args.config.now) (seen t c.round_of.new.config) c.round_of.result fits c.requires.of.reached (made.round fits)
    made.err in
    record { standing = made.standing; reached = there; channels = reached_channels t (seen t c.round_of.new.config) there }

pub returns-clause-round : goal.returns-clause-round
returns-clause-round c =
    let t = c.args.program.now in
    (rw c.body.ensures.body at c.round_of.ensures.round) (reached_fits t (seen t c.args.config.now) c.requires.sharing c.requires.of.reached)

pub returns-clause-took : goal.returns-clause-took
returns-clause-took c =
    let t = c.args.program.now in
    let fits = reached_fits t (seen t c.args.config.now) c.requires.sharing c.requires.of.reached in
    IfOk-weaker c.round_of.result _ _ (λ took e. took_is (process_of t.body) c.args.config.now took c.requires.of.standing fits e)
    (rw c.body.ensures.body at c.round_of.ensures.took)

pub returns-clause-one_history : goal.returns-clause-one_history
returns-clause-one_history c = λ script. one_history (program_of c.args.program.now) script c.requires.sharing

pub returns-clause-rounds_hold : goal.returns-clause-rounds_hold
returns-clause-rounds_hold c = λ script. rounds_hold (program_of c.args.program.now) script c.requires.sharing
