use Rattle.std.proofs.Common.{◌∙◌}
use Rattle.width_check.proofs.Doubles.{Named, named_again, named_first}
use Rattle.width_check.proofs.naming.name_all.Goals as goal
use Rattle.width_check.proofs.naming.name_all.Goals.{in-Fresh, in-Known}

pub loop-decl-preserved : goal.loop-decl-preserved
loop-decl-preserved c =
    let so_far : Named c.args.decls.now c.loop-decl.decl-index c.loop-decl.names c.loop-decl.double =
    record { places = c.loop-decl.invariant.places; few = c.loop-decl.invariant.few; all = c.loop-decl.invariant.all } in
    elim c.match-branch-3.branch [
      | in-Fresh w ↦
          let absent = rw c.in_ok-name.ensures at (rw w.in-Fresh.is at c.in_ok-add.ensures.absent) in
          let added = rw c.in_ok-name.ensures at (rw w.in-Fresh.is at c.in_ok-add.ensures.added) in
          let next = named_first _ c.loop-decl.decl-index _ _ _ _ _ c.loop-decl-test.true c.decl-item.is so_far absent added w.double-is in
          record { places = next.places; few = next.few; all = next.all }
      | in-Known w ↦
          let place = rw c.in_ok-name.ensures at (rw w.in-Known.is at c.in_ok-add.ensures.place) in
          let kept = rw w.in-Known.is at c.in_ok-add.ensures.kept in
          let next = named_again _ c.loop-decl.decl-index _ _ _ _ _ w.in-Known.field-0 c.loop-decl-test.true c.decl-item.is so_far place kept (w.double-is
          ∙ w.earlier-double.ensures) in
          record { places = next.places; few = next.few; all = next.all }
    ]
