use Rattle.std.proofs.Common.{arith}
use Rattle.chp_meaning.proofs.Rows.{then_count, beside_count, select_count, then_part, beside_part, select_part}
use Rattle.chp_meaning.proofs.left.part.Goals as goal

pub index-requires : goal.index-requires
index-requires c = omega (arith, c.requires, then_count c.args.stmt.now c.in-Then.parts c.in-Then.is, c.in-Then.parts.ok.0)

pub index-requires-in-Beside : goal.index-requires-in-Beside
index-requires-in-Beside c = omega (arith, c.requires, beside_count c.args.stmt.now c.in-Beside.parts c.in-Beside.is, c.in-Beside.parts.ok.0)

pub index-requires-in-Select : goal.index-requires-in-Select
index-requires-in-Select c = omega (arith, c.requires, select_count c.args.stmt.now c.in-Select.again c.in-Select.arms c.in-Select.is, c.in-Select.arms.ok.0)

pub returns-in-Then : goal.returns-in-Then
returns-in-Then c = then_part c.args.stmt.now c.in-Then.parts c.args.index _ c.in-Then.is
    (omega (arith, c.requires, then_count c.args.stmt.now c.in-Then.parts c.in-Then.is)) c.index.ensures

pub returns-in-Beside : goal.returns-in-Beside
returns-in-Beside c = beside_part c.args.stmt.now c.in-Beside.parts c.args.index _ c.in-Beside.is
    (omega (arith, c.requires, beside_count c.args.stmt.now c.in-Beside.parts c.in-Beside.is)) c.index-in-Beside.ensures

pub returns-in-Select : goal.returns-in-Select
returns-in-Select c = select_part c.args.stmt.now c.in-Select.again c.in-Select.arms c.args.index _ c.in-Select.is
    (omega (arith, c.requires, select_count c.args.stmt.now c.in-Select.again c.in-Select.arms c.in-Select.is)) c.index-in-Select.ensures
