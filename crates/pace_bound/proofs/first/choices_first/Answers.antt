use Rattle.std.proofs.Common.{ap, ◌∙◌}
use Rattle.std.specs.Prelude.{max}
use Rattle.width_check.specs.Typed.{program_of}
use Rattle.width_check.specs.View.{process_of}
use Rattle.handshake_expand.specs.Layout.{capped}
use Rattle.handshake_expand.proofs.Rows.{arm_at}
use Rattle.round_time.specs.Longest.{first}
use Rattle.round_time.specs.Phases.{choices_first}
use Rattle.pace_bound.proofs.Ending.{stepped, two_capped}
use Rattle.pace_bound.proofs.Whole.{first_whole}
use Rattle.pace_bound.proofs.first.choices_first.Goals as goal

pub loop-arm-preserved : goal.loop-arm-preserved
loop-arm-preserved c =
    let P = program_of c.args.program.now in
    let arms = c.args.arms.now in
    let arm = c.arm-item.result in
    let here = arm_at arms c.loop-arm.arm-index arm c.loop-arm-test.true c.arm-item.is in record {
      latest = stepped _ _ _ (capped (first P (process_of arm.body))) _ _ c.loop-arm.invariant.latest
          (c.max-most.ensures ∙ ap (max c.loop-arm.most) (c.first.ensures ∙ ap capped (first_whole P (process_of arm.body))))
          (ap (λ cs. capped (choices_first P cs)) here ∙ two_capped _ _);
      formed = (rw here at c.loop-arm.invariant.formed).2;
    }
