use Rattle.std.proofs.Common.{ℕ, ◌+◌, ◌-◌, ◌*◌, ◌^◌, ◌<◌, ◌≤◌, length, get_or}
use Rattle.event_sim.specs.Ages.{age_rank}
use Rattle.event_sim.proofs.ages.count_older.Given as goal

abbrev pub invariant-loop-low : goal.invariant-loop-low
invariant-loop-low l = record {
  ordered : l.low ≤ l.high;
  within : l.high ≤ length l.order.items;
  older : (k : ℕ) → k < l.low → age_rank l.since (get_or l.order.items k 0) < 2 ^ 32 * l.pick + l.node;
  others : (k : ℕ) → l.high ≤ k → k < length l.order.items → 2 ^ 32 * l.pick + l.node ≤ age_rank l.since (get_or l.order.items k 0);
}

abbrev pub decreases-loop-low : goal.decreases-loop-low
decreases-loop-low l = l.high - l.low
