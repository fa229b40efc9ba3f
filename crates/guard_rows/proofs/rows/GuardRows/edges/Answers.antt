use Rattle.std.proofs.Common.{◌∙◌, length, sym, ap, subst, arith}
use Rattle.guard_rows.specs.Places.{readers_in, RowsValue, AreRows}
use Rattle.guard_rows.proofs.rows.GuardRows.edges.Goals as goal

pub returns : goal.returns
returns c = λ net values rows.
    let are = subst (λ (r : RowsValue). AreRows net values r) (sym c.self.view_is) rows in
    ap readers_in c.node.ensures
    ∙ are.readers c.args.node (omega (arith, c.requires, ap (λ (r : RowsValue). length r.edges) c.self.view_is, are.edges))
