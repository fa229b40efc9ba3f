use Rattle.std.proofs.Common.{◌≡◌, ◌++◌, drop, reverse}
use Rattle.std.specs.List.{flat_map}
use Rattle.wave_file.specs.CauseChains.{cause_line_at}
use Rattle.wave_file.proofs.causes.lines_back.Given as goal

abbrev pub invariant-loop-back : goal.invariant-loop-back
invariant-loop-back l = l.to.items
    ≡ l.initial.to.items ++ flat_map (cause_line_at l.names l.delays l.given l.moves) (reverse (drop l.back l.places))
