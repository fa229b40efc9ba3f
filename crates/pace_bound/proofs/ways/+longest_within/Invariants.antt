use Rattle.std.proofs.Common.{◌+◌, drop}
use Rattle.width_check.specs.Typed.{program_of}
use Rattle.width_check.specs.Typing.{AreProcesses, AreChoices}
use Rattle.width_check.specs.View.{process_of, members_in, choices_in}
use Rattle.round_time.specs.Longest.{guards_depth}
use Rattle.round_time.specs.Ways.{turn_ways, each_ways, choice_ways}
use Rattle.pace_bound.specs.declared.ways.Way.{Way}
use Rattle.pace_bound.specs.Whereabouts.{IsLongestOf}
use Rattle.pace_bound.proofs.ways.+longest_within.Given as goal

-- what is the longest of the best so far and of those that are left is that of the first one and of all
abbrev pub invariant-loop-place : goal.invariant-loop-place
invariant-loop-place l = record {
  longest : (found : Way) → IsLongestOf l.way found (turn_ways (program_of l.program) (members_in (drop l.place l.parts.items)))
      → IsLongestOf l.initial.way found (turn_ways (program_of l.program) (members_in l.parts.items));
  formed : AreProcesses l.program.channels l.program.vars (members_in (drop l.place l.parts.items));
}

abbrev pub invariant-loop-part : goal.invariant-loop-part
invariant-loop-part l = record {
  longest : (found : Way) → IsLongestOf l.way found (each_ways (program_of l.program) (members_in (drop l.part-index l.part-items)))
      → IsLongestOf l.initial.way found (each_ways (program_of l.program) (members_in l.part-items));
  formed : AreProcesses l.program.channels l.program.vars (members_in (drop l.part-index l.part-items));
}

abbrev pub invariant-loop-arm : goal.invariant-loop-arm
invariant-loop-arm l = record {
  longest : (found : Way)
      → IsLongestOf l.way found
      (choice_ways (program_of l.program) (process_of l.s) (3 + guards_depth (choices_in l.arms.items)) (choices_in (drop l.arm-index l.arm-items)))
      → IsLongestOf l.initial.way found
      (choice_ways (program_of l.program) (process_of l.s) (3 + guards_depth (choices_in l.arms.items)) (choices_in l.arm-items));
  formed : AreChoices l.program.channels l.program.vars (choices_in (drop l.arm-index l.arm-items));
}
