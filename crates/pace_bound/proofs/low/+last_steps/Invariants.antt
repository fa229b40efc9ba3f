use Rattle.std.proofs.Common.{◌≡◌, ◌<◌, ◌≤◌, ◌-◌, ◌^◌, drop, ℕ}
use Rattle.std.specs.Prelude.{max}
use Rattle.width_check.specs.Typed.{program_of}
use Rattle.width_check.specs.Typing.{AreProcesses, AreChoices}
use Rattle.width_check.specs.View.{members_in, choices_in}
use Rattle.handshake_expand.specs.Layout.{capped}
use Rattle.round_time.specs.Longest.{each_low, choice_low}
use Rattle.round_time.specs.Ways.{each_last_step, choice_last_step}
use Rattle.pace_bound.proofs.Picking.{IsPicked}
use Rattle.pace_bound.proofs.low.+last_steps.Given as goal

abbrev pub invariant-last_step-loop-place : goal.invariant-last_step-loop-place
invariant-last_step-loop-place l = record {
  latest : max l.latest.moves (capped (each_low (program_of l.program) (members_in (drop l.place l.parts.items)))) ≡
      capped (each_low (program_of l.program) (members_in l.parts.items));
  picked : each_low (program_of l.program) (members_in l.parts.items) < 2 ^ 64 - 1 → IsPicked l.latest
      (each_last_step (program_of l.program) (members_in (drop l.place l.parts.items))) (each_last_step (program_of l.program) (members_in l.parts.items));
  below : each_low (program_of l.program) (members_in (drop l.place l.parts.items)) ≤ each_low (program_of l.program) (members_in l.parts.items);
  formed : AreProcesses l.program.channels l.program.vars (members_in (drop l.place l.parts.items));
}

abbrev pub invariant-last_of_arms-loop-place : goal.invariant-last_of_arms-loop-place
invariant-last_of_arms-loop-place l = record {
  latest : max l.latest.moves (capped (choice_low (program_of l.program) l.held (choices_in (drop l.place l.arms)))) ≡
      capped (choice_low (program_of l.program) l.held (choices_in l.arms));
  picked : (n : ℕ) → l.held ≡ capped n → choice_low (program_of l.program) n (choices_in l.arms) < 2 ^ 64 - 1 → IsPicked l.latest
      (choice_last_step (program_of l.program) n (choices_in (drop l.place l.arms))) (choice_last_step (program_of l.program) n (choices_in l.arms));
  below : (n : ℕ) → choice_low (program_of l.program) n (choices_in (drop l.place l.arms)) ≤ choice_low (program_of l.program) n (choices_in l.arms);
  formed : AreChoices l.program.channels l.program.vars (choices_in (drop l.place l.arms));
}
