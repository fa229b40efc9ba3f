use Rattle.std.proofs.Common.{◌<◌, vec_len, sym, rules, arith}
use Rattle.chp_meaning.proofs.Rows.{then_count, then_next, then_last}
use Rattle.chp_meaning.proofs.left.next.Goals as goal

pub overflow_add-index : goal.overflow_add-index
overflow_add-index c =
    let within : c.args.index < vec_len c.in-Then.parts = omega (
      arith,
      c.requires.within,
      then_count c.args.stmt.now c.in-Then.parts c.in-Then.is,
      c.in-Then.parts.ok.0,
    ) in
    search (rules, within)

pub entered-requires-clause-within : goal.entered-requires-clause-within
entered-requires-clause-within c = omega (
  arith,
  then_count c.args.stmt.now c.in-Then.parts c.in-Then.is,
  c.if-index-len.true,
  c.len.ensures,
  c.in-Then.parts.ok.0,
)

pub returns-then-index-len : goal.returns-then-index-len
returns-then-index-len c = rw (then_next c.args.stmt.now c.in-Then.parts c.args.index c.in-Then.is (omega (
  arith,
  c.if-index-len.true,
  c.len.ensures,
  c.in-Then.parts.ok.0,
))) c.entered.ensures

pub returns-else-index-len : goal.returns-else-index-len
returns-else-index-len c = sym (then_last c.args.stmt.now c.in-Then.parts c.args.index c.in-Then.is (omega (
  arith,
  c.if-index-len.false,
  c.len.ensures,
  c.in-Then.parts.ok.0,
)))
