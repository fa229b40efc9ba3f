use Rattle.std.proofs.Common.{◌≢◌, rules}
use Rattle.width_check.specs.Typed.{program_of as typed_of}
use Rattle.chp_meaning.specs.declared.run.RunEnd.TheVariants.{TooMany}
use Rattle.chp_meaning.specs.Ends.{seen}
use Rattle.round_commands.proofs.RoundsReported.{ended_rounds}
use Rattle.round_commands.proofs.rounds.rounds_report.Goals as goal

pub returns-clause-some : goal.returns-clause-some
returns-clause-some c =
    let t = c.args.program.now in
    let other : c.in_ok-end.end ≢ TooMany = search rules in
    ended_rounds (typed_of t) c.args.script.now c.args.n c.in_ok-end.end (seen t c.in_ok-config.config) (seen t c.run_rounds.new.config) c.in_ok-text.text.items
    other c.in_ok-config.ensures.start c.in_ok-end.ensures.end c.in_ok-text.ensures
