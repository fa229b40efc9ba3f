use Rattle.std.proofs.Common.{◌≡◌, ◌<◌, ◌≤◌, ◌-◌, ℕ, false, length}
use Rattle.event_sim.specs.Locality.{is_member}
use Rattle.peer_bench.proofs.channel_set.ChannelSet.next.Given as goal

abbrev pub invariant-loop-place : goal.invariant-loop-place
invariant-loop-place l = record {
  from : l.from ≤ l.place;
  none : (k : ℕ) → l.from ≤ k → k < l.place → is_member l.self k ≡ false;
}

abbrev pub decreases-loop-place : goal.decreases-loop-place
decreases-loop-place l = length l.self - l.place
