use Rattle.std.proofs.Common.{◌∙◌, arith}
use Rattle.std.proofs.lemmas.List.{length-set}
use Rattle.guard_rows.proofs.Totals.{raise_fits, raise_more}
use Rattle.guard_rows.proofs.rows.raise.Goals as goal

pub overflow_add-places : goal.overflow_add-places
overflow_add-places c = omega (
  arith,
  raise_fits c.args.places.now c.loop-row.places c.args.edges.now c.loop-row.row-index c.requires.within
      c.loop-row-test.true c.requires.room c.loop-row.invariant.places,
)

pub loop-row-preserved : goal.loop-row-preserved
loop-row-preserved c = record {
  count = length-set c.loop-row.places _ _ ∙ c.loop-row.invariant.count;
  places = λ r row. raise_more c.args.places.now c.loop-row.places c.args.edges.now c.loop-row.row-index r c.requires.within c.loop-row-test.true
      c.loop-row.invariant.count row (c.loop-row.invariant.places r row);
}
