use Rattle.width_check.specs.Typed.{program_of}
use Rattle.chp_meaning.specs.Ends.{seen}
use Rattle.chp_meaning.proofs.RoundRuns.{one_history, rounds_hold}
use Rattle.chp_meaning.proofs.RoundAnswers.{reached_fits, reached_channels, run_reached}
use Rattle.chp_meaning.proofs.run.run_rounds.Goals as goal

pub returns-clause-of : goal.returns-clause-of
returns-clause-of c =
    let t = c.args.program.now in
    let fits = reached_fits t (seen t c.args.config.now) c.requires.sharing c.requires.of.reached in
    let made = rw c.body.ensures.body at c.run_of.ensures in
    let there = run_reached t c.args.n c.args.most (seen t c.args.config.now) (seen t c.run_of.new.config) c.run_of.result fits c.requires.of.reached
    (made.end fits) (made.err fits) in
    record { standing = made.standing; reached = there; channels = reached_channels t (seen t c.run_of.new.config) there }

pub returns-clause-end : goal.returns-clause-end
returns-clause-end c =
    let t = c.args.program.now in
    (rw c.body.ensures.body at c.run_of.ensures.end) (reached_fits t (seen t c.args.config.now) c.requires.sharing c.requires.of.reached)

pub returns-clause-err : goal.returns-clause-err
returns-clause-err c =
    let t = c.args.program.now in
    (rw c.body.ensures.body at c.run_of.ensures.err) (reached_fits t (seen t c.args.config.now) c.requires.sharing c.requires.of.reached)

pub returns-clause-one_history : goal.returns-clause-one_history
returns-clause-one_history c = λ script. one_history (program_of c.args.program.now) script c.requires.sharing

pub returns-clause-rounds_hold : goal.returns-clause-rounds_hold
returns-clause-rounds_hold c = λ script. rounds_hold (program_of c.args.program.now) script c.requires.sharing
