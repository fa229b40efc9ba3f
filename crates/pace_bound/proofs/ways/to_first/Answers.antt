use Rattle.std.proofs.Common.{◌≡◌, ◌+◌, refl, ap, ◌∙◌, arith}
use Rattle.width_check.specs.Typed.{program_of}
use Rattle.width_check.specs.View.{process_of}
use Rattle.handshake_expand.specs.Layout.{capped}
use Rattle.round_time.specs.Longest.{first}
use Rattle.round_time.specs.Ways.{step_of, first_step}
use Rattle.pace_bound.specs.Whereabouts.{point_of}
use Rattle.pace_bound.proofs.Whole.{first_whole}
use Rattle.pace_bound.proofs.WaysJoined.{way_same}
use Rattle.pace_bound.proofs.ways.to_first.Goals as goal

pub returns : goal.returns
returns c n before =
    let P = program_of c.args.program.now in
    let p = process_of c.args.to.now in
    let moves : c.first_step-first.result.moves ≡ capped (first P p) = c.first_step-first.ensures.moves ∙ ap capped (first_whole P p) in
    let long : c.saturating_add.result ≡ capped (n + first P p) = omega (arith, before, moves, c.saturating_add.ensures) in
    record {
      long = long;
      exact = λ small. way_same (point_of c.args.from) (step_of (process_of c.first_step-first.result.statement.now)) (step_of (first_step P p))
          c.saturating_add.result (n + first P p) (ap step_of (c.first_step-first.ensures.step refl (omega (arith, small, long)))) (omega (arith, small, long));
    }
