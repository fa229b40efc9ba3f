use Rattle.std.proofs.Common.{arith}
use Rattle.width_check.specs.Typed.{program_of}
use Rattle.call_compose.proofs.CalledCounts.{then_counted, beside_counted, select_counted}
use Rattle.call_compose.proofs.nodes.+statements.Goals as goal

pub called_nodes-returns-in-Then : goal.called_nodes-returns-in-Then
called_nodes-returns-in-Then t c =
    then_counted (program_of c.args.program.now) c.args.plain.now c.in-Then.parts c.args.s.now c.deref.result.now c.members.result.now
    c.saturating_mul-elements.result c.members_nodes.result c.saturating_add.result c.in-Then.is c.deref.ensures.value c.members.ensures.turned
    c.members_nodes.ensures
    (omega (arith, c.len.ensures, c.deref.ensures.len, c.saturating_sub.ensures, c.saturating_mul-elements.ensures))
    (omega (arith, c.saturating_add.ensures))

pub called_nodes-returns-in-Beside : goal.called_nodes-returns-in-Beside
called_nodes-returns-in-Beside t c =
    beside_counted (program_of c.args.program.now) c.args.plain.now c.in-Beside.parts c.args.s.now c.deref-in-Beside.result.now
    c.members-in-Beside.result.now c.saturating_add-own.result c.members_nodes-in-Beside.result c.saturating_add-in-Beside.result c.in-Beside.is
    c.deref-in-Beside.ensures.value c.members-in-Beside.ensures.abreast c.members_nodes-in-Beside.ensures
    (omega (
      arith,
      c.len-branches.ensures,
      c.deref-in-Beside.ensures.len,
      c.saturating_sub-tree.ensures,
      c.saturating_mul.ensures,
      c.saturating_add-own.ensures,
    ))
    (omega (arith, c.saturating_add-in-Beside.ensures))

pub called_nodes-returns-in-Select : goal.called_nodes-returns-in-Select
called_nodes-returns-in-Select t c =
    select_counted (program_of c.args.program.now) c.args.plain.now c.in-Select.again c.in-Select.arms c.args.s.now c.deref-in-Select.result.now
    c.choices.result.now c.own_nodes.result c.arms_nodes.result c.saturating_add-in-Select.result c.in-Select.is c.deref-in-Select.ensures.value
    c.choices.ensures.chosen c.arms_nodes.ensures c.own_nodes.ensures (omega (arith, c.saturating_add-in-Select.ensures))
