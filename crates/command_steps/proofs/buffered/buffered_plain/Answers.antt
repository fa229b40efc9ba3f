use Rattle.chp_syntax.specs.View.{program_tree}
use Rattle.command_steps.specs.Inlined.{as_it_is}
use Rattle.command_steps.specs.Steps.{FromChecks, Never, accepted}
use Rattle.command_steps.proofs.BufferStopping.{OnlyBuffer}
use Rattle.command_steps.proofs.Stopping.{checks_go, err_in, halts_in, passed_on}
use Rattle.command_words.proofs.Results.{ok_in}
use Rattle.command_steps.proofs.buffered.buffered_plain.Goals as goal

pub returns-in_err-disjoint-clause-stopped : goal.returns-in_err-disjoint-clause-stopped
returns-in_err-disjoint-clause-stopped c =
    let tree = program_tree c.args.program.now in
    passed_on c.from_residual.result _ _ c.from_residual.ensures.1
    (halts_in (FromChecks tree Never) (OnlyBuffer _ tree) (λ answer is. checks_go is) c.in_err-disjoint.field-0.0 c.in_err-disjoint.ensures.stopped)

pub returns-clause-made : goal.returns-clause-made
returns-clause-made c =
    ok_in c.buffered.result _ _ (λ made is. record {
      plain = program_tree c.args.program.now;
      means = as_it_is c.requires.call_free;
      accepted = c.in_ok-disjoint.ensures.accepted;
      is = is;
    }) c.buffered.ensures.goes_on

pub returns-clause-stopped : goal.returns-clause-stopped
returns-clause-stopped c =
    err_in c.buffered.result _ _
    (λ stop halts. halts_in _ (OnlyBuffer _ (program_tree c.args.program.now))
    (λ answer is. accepted (as_it_is c.requires.call_free) c.in_ok-disjoint.ensures.accepted is) stop halts)
    c.buffered.ensures.stopped
