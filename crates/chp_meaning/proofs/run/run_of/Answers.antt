use Rattle.std.proofs.Common.{◌≡◌, ◌∙◌, ap, arith}
use Rattle.std.proofs.lemmas.Result.{IfOk-weaker}
use Rattle.width_check.specs.View.{process_of}
use Rattle.chp_meaning.specs.Rounds.{rounds_from}
use Rattle.chp_meaning.specs.Standing.{configuration_of}
use Rattle.chp_meaning.proofs.NextRound.{settled_stands, settled_held, unchanged_self}
use Rattle.chp_meaning.proofs.RoundAnswers.{stopped, still_few, ended_before, ended_by, after_round}
use Rattle.chp_meaning.proofs.run.run_of.Goals as goal

pub returns-in_err-end-clause-err : goal.returns-in_err-end-clause-err
returns-in_err-end-clause-err c = λ fits.
    let p = process_of c.args.body.now in
    stopped _ p (configuration_of p c.args.config.now) c.loop-made._made c.args.n c.loop-made.config _
    (record { standing = c.loop-made.invariant.standing; so_far = c.loop-made.invariant.so_far fits; unchanged = c.in_err-end.ensures.err })
    (omega (arith, c.loop-made-test.true))

pub returns-in_err-end-clause-few : goal.returns-in_err-end-clause-few
returns-in_err-end-clause-few c = still_few _ c.loop-made.count c.args.most c.loop-made.config _ c.in_err-end.ensures.err
    c.loop-made.invariant.count c.loop-made.invariant.most

pub returns-in-Some-clause-end : goal.returns-in-Some-clause-end
returns-in-Some-clause-end c = λ fits.
    let p = process_of c.args.body.now in
    let next = rw c.in-Some.is at c.in_ok-end.ensures.next in
    ended_before p (configuration_of p c.args.config.now) c.loop-made._made c.args.n c.args.most c.loop-made.config _ next.0 next.1 c.in-Some.end fits
    (record { standing = c.loop-made.invariant.standing; so_far = c.loop-made.invariant.so_far fits; unchanged = next.3 }) next.2 next.4
    c.loop-made-test.true (omega (arith, c.loop-made.invariant.count, c.loop-made.invariant.most))

pub loop-made-preserved : goal.loop-made-preserved
loop-made-preserved c =
    let p = process_of c.args.body.now in
    let next = rw c.in_default.is at c.in_ok-end.ensures.next in
    let more = settled_held p c.loop-made.config _ next.0 next.1 c.loop-made.invariant.standing next.2 next.3 in
    record {
      standing = settled_stands p c.loop-made.config _ next.0 next.1 c.loop-made.invariant.standing next.2 next.3;
      so_far = λ fits. after_round p (configuration_of p c.args.config.now) c.loop-made._made c.loop-made.config c.loop-made.config _ next.0 next.1 fits
          (record {
            standing = c.loop-made.invariant.standing;
            so_far = c.loop-made.invariant.so_far fits;
            unchanged = unchanged_self c.loop-made.config;
          }) next.2 next.3;
      count = c.in_ok-end.ensures.count;
      most = omega (arith, more, next.4, c.in_ok-end.ensures.count);
    }

pub returns-clause-end : goal.returns-clause-end
returns-clause-end c = λ fits.
    let p = process_of c.args.body.now in
    let old = configuration_of p c.args.config.now in
    let all : c.loop-made._made ≡ c.args.n = omega (arith, c.loop-made-test.false, c.loop-made.auto) in
    IfOk-weaker c.end_after.result _ _ (λ end is. ended_by p old c.args.n c.args.most c.loop-made.config _ end fits (record {
      standing = c.loop-made.invariant.standing;
      so_far = c.loop-made.invariant.so_far fits ∙ ap (rounds_from old) all;
      unchanged = c.end_after.ensures.unchanged;
    }) (omega (arith, c.loop-made.invariant.count, c.loop-made.invariant.most)) is) c.end_after.ensures.end

pub returns-clause-err : goal.returns-clause-err
returns-clause-err c = λ fits.
    let p = process_of c.args.body.now in
    stopped c.end_after.result p (configuration_of p c.args.config.now) c.loop-made._made c.args.n c.loop-made.config _
    (record { standing = c.loop-made.invariant.standing; so_far = c.loop-made.invariant.so_far fits; unchanged = c.end_after.ensures.unchanged })
    (omega (arith, c.loop-made.auto))

pub returns-clause-few : goal.returns-clause-few
returns-clause-few c = still_few c.end_after.result c.loop-made.count c.args.most c.loop-made.config _ c.end_after.ensures.unchanged
    c.loop-made.invariant.count c.loop-made.invariant.most
