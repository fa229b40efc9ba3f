use Rattle.std.proofs.Common.{sym, ◌∙◌}
use Rattle.width_check.proofs.Declaring.{name_decided, name_long, name_dotted, not_short, true_false, turned_true, turned_false}
use Rattle.width_check.proofs.declared.is_name.Goals as goal
use Rattle.width_check.proofs.declared.is_name.Goals.{then-bytes-le24, else-bytes-le24}

pub returns-then-not-contains : goal.returns-then-not-contains
returns-then-not-contains c =
    elim c.if-bytes-le24.branch [
      | then-bytes-le24 w ↦ name_decided _ _ c.bytes-bytes.ensures.name (rw (← c.bytes-bytes.ensures.bytes) w.if-bytes-le24.true)
          (rw (← c.bytes-bytes.ensures.bytes) (sym w.contains.ensures.value ∙ turned_true _ _ w.value-is c.if-not-contains.true))
          (rw (← c.bytes-bytes.ensures.bytes) c.is_reserved.ensures)
      | else-bytes-le24 w ↦ absurd (true_false c.if-bytes-le24.value c.if-not-contains.true (not_short _ _ w.value-is w.if-bytes-le24.false))
    ]

pub returns-else-not-contains : goal.returns-else-not-contains
returns-else-not-contains c =
    elim c.if-bytes-le24.branch [
      | then-bytes-le24 w ↦ name_dotted _ _ (rw (← c.bytes-bytes.ensures.bytes) (sym w.contains.ensures.value
          ∙ turned_false _ _ w.value-is c.if-not-contains.false)) c.if-not-contains.false
      | else-bytes-le24 w ↦ name_long _ _ (rw (← c.bytes-bytes.ensures.bytes) w.if-bytes-le24.false) c.if-not-contains.false
    ]
