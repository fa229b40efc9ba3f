use Rattle.std.proofs.Common.{◌≡◌, ◌++◌, map, drop}
use Rattle.pace_bound.specs.Whereabouts.{loop_of}
use Rattle.pace_command.specs.WayTexts.{loops_text}
use Rattle.pace_command.proofs.lines.add_loops.Given as goal

abbrev pub invariant-loop-it : goal.invariant-loop-it
invariant-loop-it l = l.text.items ++ loops_text (map loop_of (drop l.it-index l.loops)) ≡ l.fn.text.items ++ loops_text (map loop_of l.fn.loops)
