use Rattle.std.proofs.Common.{ℕ, ◌*◌, ◌^◌, ◌<◌, ◌≤◌, length, get_or}
use Rattle.event_sim.specs.Ages.{age_rank}
use Rattle.event_sim.proofs.ages.place_of_newest.Given as goal

abbrev pub invariant-loop-place : goal.invariant-loop-place
invariant-loop-place l = record {
  within : l.place ≤ l.end;
  others : (k : ℕ) → l.place ≤ k → k < length l.order.items → 2 ^ 32 * l.pick ≤ age_rank l.since (get_or l.order.items k 0);
}

abbrev pub decreases-loop-place : goal.decreases-loop-place
decreases-loop-place l = l.place
