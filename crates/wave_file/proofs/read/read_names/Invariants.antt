use Rattle.std.proofs.Common.{ℕ, List, [], ◌≤◌, ◌+◌, length}
use Rattle.wave_file.specs.WaveReading.{IsToldTo, at_names}
use Rattle.wave_file.proofs.read.read_names.Given as goal

abbrev pub invariant-loop-names : goal.invariant-loop-names
invariant-loop-names l = record {
  few : length l.names.items ≤ 65537;
  told : (whole : List ℕ) → IsToldTo whole 2 (at_names []) l.text → IsToldTo whole (length l.names.items + 2) (at_names l.names.items) l.rest;
  short : length l.rest ≤ length l.text;
}

abbrev pub decreases-loop-names : goal.decreases-loop-names
decreases-loop-names l = length l.rest
