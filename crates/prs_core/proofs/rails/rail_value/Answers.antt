use Rattle.std.proofs.Common.{◌≡◌, ◌+◌, ◌*◌, ◌-◌, ◌≤◌, drop, sym, arith, rules, Some}
use Rattle.prs_core.specs.Moves.{high, rail_value_of}
use Rattle.prs_core.proofs.RailValues.{nothing_left, pair_refused, pair_taken, one_more_bit, byte_small}
use Rattle.prs_core.proofs.rails.rail_value.Goals as goal

pub loop-bit-init : goal.loop-bit-init
loop-bit-init c = record {
  value = let p = c.requires.pairs in nothing_left _ p.0 _ _ p.1 (omega arith);
  small = search rules;
}

pub returns-then-is_one-is_high-clause-value : goal.returns-then-is_one-is_high-clause-value
returns-then-is_one-is_high-clause-value c =
    sym (pair_refused (high c.args.state.now) (c.loop-bit.bit - 1) c.args.rails.now _ _ (omega arith) c.is_high-is_one.ensures c.is_high.ensures
    c.if-is_one-is_high.true)

pub loop-bit-preserved : goal.loop-bit-preserved
loop-bit-preserved c =
    let most : c.loop-bit.bit ≤ 64 = omega arith in
    let bit_is : (c.loop-bit.bit - 1) + 1 ≡ c.loop-bit.bit = omega arith in
    let rest : rail_value_of (high c.args.state.now) (drop (2 * ((c.loop-bit.bit - 1) + 1)) c.args.rails.now) ≡ Some c.loop-bit.value =
    rw bit_is c.loop-bit.invariant.value in
    rw c.from.ensures (record {
      value = pair_taken (high c.args.state.now) (c.loop-bit.bit - 1) c.args.rails.now _ _ c.loop-bit.value (omega arith) c.is_high-is_one.ensures
          c.is_high.ensures c.if-is_one-is_high.false rest;
      small = one_more_bit _ _ _ c.loop-bit-test.true most (byte_small _) c.loop-bit.invariant.small;
    })

pub returns-clause-value : goal.returns-clause-value
returns-clause-value c =
    let bit_is : c.loop-bit.bit ≡ 0 = omega arith in
    sym (rw bit_is at c.loop-bit.invariant.value)
