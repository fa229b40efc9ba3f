use Rattle.std.proofs.Common.{◌+◌, ◌-◌, ◌*◌, ◌^◌, ◌<◌, ◌≤◌, ◌/◌, ℕ, length, subst, arith}
use Rattle.std.proofs.lemmas.List.{get_or_read}
use Rattle.event_sim.specs.Ages.{age_rank}
use Rattle.event_sim.proofs.Present.{all_older, none_older_from, not_less}
use Rattle.event_sim.proofs.ages.count_older.Goals as goal

pub loop-low-preserved-then-is_older : goal.loop-low-preserved-then-is_older
loop-low-preserved-then-is_older c =
    let order = c.args.order.now.items in
    let mark : ℕ = 2 ^ 32 * c.args.pick + c.args.node in
    let middle : ℕ = c.loop-low.low + (c.loop-low.high - c.loop-low.low) / 2 in
    let before : middle < c.loop-low.high = omega (arith, c.loop-low-test.true) in
    let within : middle < length order = omega (arith, before, c.loop-low.invariant.within) in
    let here = get_or_read order middle c.index-other.result.now within c.index-other.ensures 0 in
    record {
      ordered = omega (arith, before);
      within = c.loop-low.invariant.within;
      older = all_older c.args.since.now order middle mark c.requires.ranked within
          (subst (λ (n : ℕ). age_rank c.args.since.now n < mark) here (c.is_older.ensures.0 c.if-is_older.true));
      others = c.loop-low.invariant.others;
    }

pub loop-low-preserved : goal.loop-low-preserved
loop-low-preserved c =
    let order = c.args.order.now.items in
    let mark : ℕ = 2 ^ 32 * c.args.pick + c.args.node in
    let middle : ℕ = c.loop-low.low + (c.loop-low.high - c.loop-low.low) / 2 in
    let before : middle < c.loop-low.high = omega (arith, c.loop-low-test.true) in
    let within : middle < length order = omega (arith, before, c.loop-low.invariant.within) in
    let here = get_or_read order middle c.index-other.result.now within c.index-other.ensures 0 in
    record {
      ordered = omega arith;
      within = omega (arith, before, c.loop-low.invariant.within);
      older = c.loop-low.invariant.older;
      others = none_older_from c.args.since.now order middle mark c.requires.ranked
          (subst (λ (n : ℕ). mark ≤ age_rank c.args.since.now n) here
          (not_less c.is_older.result (age_rank c.args.since.now c.index-other.result.now) mark c.is_older.ensures.1 c.if-is_older.false));
    }
