use Rattle.std.proofs.Common.{◌∙◌, sym, subst}
use Rattle.guard_rows.specs.Places.{RowsValue, AreRows}
use Rattle.guard_rows.proofs.Turns.{read}
use Rattle.guard_rows.proofs.rows.GuardRows.says.Goals as goal

pub says-requires : goal.says-requires
says-requires c =
    let s = c.self.inside in
    let net = c.args.net.now in
    let values = c.args.state.now in
    let are = subst (λ (r : RowsValue). AreRows net values r) (sym c.self.view_is) c.requires.rows in
    (read net values s.rows.items s.places.items s.edges c.args.node are c.requires.node c.index.result.now c.index-place.result.now c.index.ensures
    c.index-place.ensures c.if-place-eq-WIDE.false).small

pub returns-clause-up : goal.returns-clause-up
returns-clause-up c =
    let s = c.self.inside in
    let net = c.args.net.now in
    let values = c.args.state.now in
    let are = subst (λ (r : RowsValue). AreRows net values r) (sym c.self.view_is) c.requires.rows in
    let said = read net values s.rows.items s.places.items s.edges c.args.node are c.requires.node c.index.result.now c.index-place.result.now
    c.index.ensures c.index-place.ensures c.if-place-eq-WIDE.false in
    c.says.ensures.up ∙ said.says.0

pub returns-clause-down : goal.returns-clause-down
returns-clause-down c =
    let s = c.self.inside in
    let net = c.args.net.now in
    let values = c.args.state.now in
    let are = subst (λ (r : RowsValue). AreRows net values r) (sym c.self.view_is) c.requires.rows in
    let said = read net values s.rows.items s.places.items s.edges c.args.node are c.requires.node c.index.result.now c.index-place.result.now
    c.index.ensures c.index-place.ensures c.if-place-eq-WIDE.false in
    c.says.ensures.down ∙ said.says.1
