use Rattle.std.proofs.Common.{◌≡◌, ◌<◌, ◌≤◌, ◌-◌, ◌*◌, ℕ, false, length}
use Rattle.event_sim.specs.Locality.{is_member}
use Rattle.peer_bench.proofs.channel_set.is_any_marked.Given as goal

abbrev pub invariant-loop-place : goal.invariant-loop-place
invariant-loop-place l = record {
  from : 128 * l.block ≤ l.place;
  few : l.place ≤ length l.marks;
  none : (chan : ℕ) → 128 * l.block ≤ chan → chan < l.place → is_member l.marks chan ≡ false;
}

abbrev pub decreases-loop-place : goal.decreases-loop-place
decreases-loop-place l = length l.marks - l.place
