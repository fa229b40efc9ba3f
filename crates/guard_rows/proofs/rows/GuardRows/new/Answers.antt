use Rattle.std.proofs.Common.{ℕ, ◌∙◌, List, sym, subst}
use Rattle.guard_rows.specs.Places.{RowsValue, AreRows, guard_rows_of}
use Rattle.guard_rows.proofs.rows.GuardRows.new.Goals as goal

pub returns : goal.returns
returns c =
    let s = c.made.inside in
    let net = c.args.net.now in
    let values = c.args.state.now in
    subst (λ (es : List (List (ℕ × ℕ))). AreRows net values (guard_rows_of s.rows.items s.places.items es))
    (sym (c.in_ok-edges.ensures ∙ c.deref.ensures.value))
    (subst (λ (r : RowsValue). AreRows net values r) (sym c.made.view_is) c.in_ok-made.ensures.rows)
