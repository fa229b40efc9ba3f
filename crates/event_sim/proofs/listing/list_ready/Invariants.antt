use Rattle.std.proofs.Common.{◌≡◌, ◌+◌, ◌<◌, ◌≤◌, ℕ, length}
use Rattle.event_sim.specs.Locality.{is_ready, is_member}
use Rattle.event_sim.proofs.listing.list_ready.Given as goal

abbrev pub invariant-loop-back : goal.invariant-loop-back
invariant-loop-back l = record {
  count : length l.moves ≡ length l.indexed.net.first;
  each : (n : ℕ) → n < length l.indexed.net.first → length l.indexed.net.first ≤ n + l.back → is_member l.moves n ≡ is_ready l.indexed l.done l.state n;
}
