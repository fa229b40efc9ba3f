use Rattle.std.proofs.Common.{◌≡◌, ℕ, List, [], ◌≤◌, ◌+◌, length}
use Rattle.wave_file.specs.WaveReading.{IsToldTo, at_values}
use Rattle.wave_file.proofs.Readings.{place_of_values}
use Rattle.wave_file.proofs.read.read_values.Given as goal

abbrev pub invariant-loop-node : goal.invariant-loop-node
invariant-loop-node l = record {
  count : l.node ≡ length l.first.items;
  told : (whole : List ℕ) → IsToldTo whole (length l.names + 5) (at_values l.names []) l.text →
      IsToldTo whole (length l.names + l.node + 5) (place_of_values l.names l.first.items) l.rest;
  short : length l.rest ≤ length l.text;
}
