use Rattle.std.proofs.Common.{◌≡◌, suc, ◌+◌, refl, sym, ap, subst, ◌∙◌, arith}
use Rattle.width_check.specs.Typed.{program_of}
use Rattle.handshake_expand.specs.Layout.{capped}
use Rattle.chp_meaning.specs.Rounds.{round, rounds_from}
use Rattle.chp_meaning.specs.Ends.{seen, CanStep}
use Rattle.round_time.specs.Longest.{first}
use Rattle.round_time.specs.Sums.{round_phase, sum_from}
use Rattle.pace_bound.proofs.Whole.{first_whole}
use Rattle.pace_bound.proofs.Summed.{begins_after, begins_last, sum_last, rounds_last, goes_further}
use Rattle.pace_bound.proofs.rounds.sum_by.Goals as goal

pub loop-rounds-init : goal.loop-rounds-init
loop-rounds-init c =
    let P = program_of c.args.program.now in
    let whole = rw c.body.ensures.body at c.first.ensures ∙ ap capped (first_whole P P.body) in record {
      of = c.requires.of;
      so_far = refl;
      sum = refl;
      moves = omega (arith, whole, c.saturating_add-moves.ensures);
      goes_on = λ k h. absurd (omega (arith, h));
    }

pub loop-rounds-preserved : goal.loop-rounds-preserved
loop-rounds-preserved c =
    let t = c.args.program.now in
    let P = program_of t in
    let from = seen t c.args.config.now in
    let b = suc (first P P.body) in
    let i = c.loop-rounds.rounds in
    let kept = c.loop-rounds.invariant in
    let next : suc i ≡ i + 1 = omega arith in
    let same : seen t c.round_moves.new.config ≡ rounds_from from i = c.round_moves.ensures.unchanged ∙ kept.so_far in
    let more = sum_last P b from i in
    let there = ap (sum_from P b from) next in record {
      of = c.round.ensures.of;
      so_far = c.in_ok-round.ensures.round ∙ (ap round same ∙ (sym (rounds_last from i) ∙ ap (rounds_from from) next));
      sum = omega (arith, more, there, kept.sum, kept.moves, c.saturating_add-sum.ensures);
      moves = c.in_ok-next.ensures.moves
          ∙ (ap (λ x. capped (suc (round_phase P x))) kept.so_far
          ∙ (ap (λ n. capped (suc n)) (sym (begins_last P b from i)) ∙ ap (λ n. capped (suc (begins_after P b from n))) next));
      goes_on = goes_further from i kept.goes_on (subst CanStep same (c.in_ok-round.ensures.took.0 c.if-not-branch.false));
    }
