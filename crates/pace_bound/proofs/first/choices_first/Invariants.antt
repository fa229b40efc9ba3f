use Rattle.std.proofs.Common.{◌≡◌, drop}
use Rattle.std.specs.Prelude.{max}
use Rattle.width_check.specs.Typed.{program_of}
use Rattle.width_check.specs.Typing.{AreChoices}
use Rattle.width_check.specs.View.{choices_in}
use Rattle.handshake_expand.specs.Layout.{capped}
use Rattle.round_time.specs.Phases.{choices_first}
use Rattle.pace_bound.proofs.first.choices_first.Given as goal

abbrev pub invariant-loop-arm : goal.invariant-loop-arm
invariant-loop-arm l = record {
  latest : max l.most (capped (choices_first (program_of l.program) (choices_in (drop l.arm-index l.arms)))) ≡
      capped (choices_first (program_of l.program) (choices_in l.arms));
  formed : AreChoices l.program.channels l.program.vars (choices_in (drop l.arm-index l.arms));
}
