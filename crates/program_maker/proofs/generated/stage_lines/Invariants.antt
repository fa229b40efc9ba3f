use Rattle.std.proofs.Common.{◌≡◌, ◌-◌, ◌++◌}
use Rattle.std.specs.List.{flat_map, range_with_len}
use Rattle.program_maker.specs.Drawn.{drawn_after, word_at}
use Rattle.program_maker.specs.Generated.{stage_line}
use Rattle.program_maker.proofs.generated.stage_lines.Given as goal

abbrev pub invariant-loop-stage : goal.invariant-loop-stage
invariant-loop-stage l = record {
  words : l.words ≡ drawn_after l.seed (l.stage - 1);
  lines : l.to.items ≡ l.initial.to.items ++ flat_map (λ stage. stage_line (word_at l.seed (stage - 1)) stage) (range_with_len 1 (l.stage - 1));
}
