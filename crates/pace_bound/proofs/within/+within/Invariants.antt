use Rattle.std.proofs.Common.{◌≡◌, ◌++◌, map, drop}
use Rattle.std.specs.Prelude.{max}
use Rattle.width_check.specs.Typed.{program_of}
use Rattle.width_check.specs.Typing.{AreProcesses, AreChoices}
use Rattle.width_check.specs.View.{process_of, members_in, choices_in}
use Rattle.handshake_expand.specs.Layout.{capped}
use Rattle.round_time.specs.Ways.{loops_within, each_loops, choice_loops}
use Rattle.pace_bound.specs.Whereabouts.{loop_of, measured}
use Rattle.pace_bound.specs.Halving.{turn_within_by, each_within_by, choice_within_by}
use Rattle.pace_bound.proofs.within.+within.Given as goal

abbrev pub invariant-loop-place : goal.invariant-loop-place
invariant-loop-place l = record {
  longest : max l.most (capped (turn_within_by l.halved (program_of l.program) (members_in (drop l.place l.parts.items)))) ≡
      capped (turn_within_by l.halved (program_of l.program) (members_in l.parts.items));
  noted : map loop_of l.loops.items ++ map (measured l.halved (program_of l.program))
      (each_loops (program_of l.program) (members_in (drop l.place l.parts.items))) ≡
      map loop_of l.fn.loops.items ++ map (measured l.halved (program_of l.program)) (loops_within (program_of l.program) (process_of l.fn.s));
  formed : AreProcesses l.program.channels l.program.vars (members_in (drop l.place l.parts.items));
}

abbrev pub invariant-loop-part : goal.invariant-loop-part
invariant-loop-part l = record {
  longest : max l.most (capped (each_within_by l.halved (program_of l.program) (members_in (drop l.part-index l.part-items)))) ≡
      capped (each_within_by l.halved (program_of l.program) (members_in l.part-items));
  noted : map loop_of l.loops.items ++ map (measured l.halved (program_of l.program))
      (each_loops (program_of l.program) (members_in (drop l.part-index l.part-items))) ≡
      map loop_of l.fn.loops.items ++ map (measured l.halved (program_of l.program)) (loops_within (program_of l.program) (process_of l.fn.s));
  formed : AreProcesses l.program.channels l.program.vars (members_in (drop l.part-index l.part-items));
}

abbrev pub invariant-loop-arm : goal.invariant-loop-arm
invariant-loop-arm l = record {
  longest : max l.most (capped (choice_within_by l.halved (program_of l.program) l.started (choices_in (drop l.arm-index l.arm-items)))) ≡
      max l.initial.most (capped (choice_within_by l.halved (program_of l.program) l.started (choices_in l.arm-items)));
  noted : map loop_of l.loops.items ++ map (measured l.halved (program_of l.program))
      (choice_loops (program_of l.program) (choices_in (drop l.arm-index l.arm-items))) ≡
      map loop_of l.fn.loops.items ++ map (measured l.halved (program_of l.program)) (loops_within (program_of l.program) (process_of l.fn.s));
  formed : AreChoices l.program.channels l.program.vars (choices_in (drop l.arm-index l.arm-items));
}
