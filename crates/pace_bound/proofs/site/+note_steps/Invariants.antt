use Rattle.std.proofs.Common.{◌≡◌, ℕ, ◌+◌, ◌*◌, ◌<◌, length, drop}
use Rattle.std.specs.Prelude.{max, slice_index}
use Rattle.width_check.specs.Typed.{program_of}
use Rattle.width_check.specs.Typing.{AreProcesses, AreChoices}
use Rattle.width_check.specs.View.{members_in, choices_in}
use Rattle.handshake_expand.specs.Layout.{capped}
use Rattle.round_time.specs.Phases.{turn_statements, each_statements, choice_statements}
use Rattle.pace_bound.specs.Noting.{of_step}
use Rattle.pace_bound.proofs.site.+note_steps.Given as goal

abbrev pub invariant-loop-place : goal.invariant-loop-place
invariant-loop-place l =
    let P = program_of l.program in record {
      sized : length l.table ≡ length l.fn.table;
      raised : (k : ℕ) → k < length l.fn.table → max (slice_index l.table k)
          (capped (turn_statements P (of_step P l.noted k) (l.at.held + 2 * l.place) l.at.down (members_in (drop l.place l.parts.items)))) ≡
          max (slice_index l.fn.table k) (capped (turn_statements P (of_step P l.noted k) l.at.held l.at.down (members_in l.parts.items)));
      formed : AreProcesses P.channels P.vars (members_in (drop l.place l.parts.items));
    }

abbrev pub invariant-loop-part : goal.invariant-loop-part
invariant-loop-part l =
    let P = program_of l.program in record {
      sized : length l.table ≡ length l.fn.table;
      raised : (k : ℕ) → k < length l.fn.table → max (slice_index l.table k)
          (capped (each_statements P (of_step P l.noted k) l.its.down (members_in (drop l.part-index l.part-items)))) ≡
          max (slice_index l.fn.table k) (capped (each_statements P (of_step P l.noted k) l.its.down (members_in l.part-items)));
      formed : AreProcesses P.channels P.vars (members_in (drop l.part-index l.part-items));
    }

abbrev pub invariant-loop-arm : goal.invariant-loop-arm
invariant-loop-arm l =
    let P = program_of l.program in record {
      sized : length l.table ≡ length l.fn.table;
      raised : (k : ℕ) → k < length l.fn.table → max (slice_index l.table k)
          (capped (choice_statements P (of_step P l.noted k) l.its.held l.its.down (choices_in (drop l.arm-index l.arm-items)))) ≡
          max (slice_index l.initial.table k) (capped (choice_statements P (of_step P l.noted k) l.its.held l.its.down (choices_in l.arm-items)));
      formed : AreChoices P.channels P.vars (choices_in (drop l.arm-index l.arm-items));
    }
