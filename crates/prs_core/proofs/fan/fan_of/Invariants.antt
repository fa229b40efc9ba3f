use Rattle.std.proofs.Common.{◌≡◌, ℕ, ◌<◌, [], length, get_or}
use Rattle.prs_core.specs.Fans.{readers_below}
use Rattle.prs_core.proofs.fan.fan_of.Given as goal

abbrev pub invariant-loop-reader : goal.invariant-loop-reader
invariant-loop-reader l = record {
  count : length l.readers.items ≡ length l.net.first;
  each : (node : ℕ) → node < length l.net.first → get_or l.readers.items node [] ≡ readers_below l.net l.reader node;
}
