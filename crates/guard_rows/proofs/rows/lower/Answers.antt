use Rattle.std.proofs.Common.{◌∙◌}
use Rattle.std.proofs.lemmas.List.{length-set}
use Rattle.guard_rows.proofs.Totals.{lower_fits, lower_more}
use Rattle.guard_rows.proofs.rows.lower.Goals as goal

pub overflow_sub-places : goal.overflow_sub-places
overflow_sub-places c = lower_fits c.args.places.now c.loop-row.places c.args.edges.now c.loop-row.row-index c.requires.within c.loop-row-test.true
    c.requires.room c.loop-row.invariant.places

pub loop-row-preserved : goal.loop-row-preserved
loop-row-preserved c =
    let fits = lower_fits c.args.places.now c.loop-row.places c.args.edges.now c.loop-row.row-index c.requires.within c.loop-row-test.true c.requires.room
    c.loop-row.invariant.places in
    record {
      count = length-set c.loop-row.places _ _ ∙ c.loop-row.invariant.count;
      places = λ r row. lower_more c.args.places.now c.loop-row.places c.args.edges.now c.loop-row.row-index r c.requires.within c.loop-row-test.true
          c.loop-row.invariant.count row fits (c.loop-row.invariant.places r row);
    }
