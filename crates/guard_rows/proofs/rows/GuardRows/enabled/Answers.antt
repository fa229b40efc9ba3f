use Rattle.std.proofs.Common.{◌∙◌, cond, sym, ap, subst}
use Rattle.prs_core.specs.Nets.{up_of, down_of}
use Rattle.prs_core.specs.Moves.{high, guard_holds}
use Rattle.guard_rows.specs.Places.{RowsValue, AreRows}
use Rattle.guard_rows.proofs.Turns.{read}
use Rattle.guard_rows.proofs.rows.GuardRows.enabled.Goals as goal

pub says-up-requires : goal.says-up-requires
says-up-requires c =
    let s = c.self.inside in
    let net = c.args.net.now in
    let values = c.args.state.now in
    let are = subst (λ (r : RowsValue). AreRows net values r) (sym c.self.view_is) c.requires.rows in
    (read net values s.rows.items s.places.items s.edges c.args.node are c.requires.node c.index.result.now c.index-place.result.now c.index.ensures
    c.index-place.ensures c.if-place-eq-WIDE.false).small

pub returns-then-is_high : goal.returns-then-is_high
returns-then-is_high c =
    let s = c.self.inside in
    let net = c.args.net.now in
    let values = c.args.state.now in
    let n = c.args.node in
    let are = subst (λ (r : RowsValue). AreRows net values r) (sym c.self.view_is) c.requires.rows in
    let said = read net values s.rows.items s.places.items s.edges n are c.requires.node c.index.result.now c.index-place.result.now c.index.ensures
    c.index-place.ensures c.if-place-eq-WIDE.false in
    c.says-up.ensures.down ∙ said.says.1
    ∙ sym (ap (λ b. cond b (guard_holds (high values) (down_of net n)) (guard_holds (high values) (up_of net n)))
    (sym c.is_high.ensures ∙ c.if-is_high.true))

pub returns-else-is_high : goal.returns-else-is_high
returns-else-is_high c =
    let s = c.self.inside in
    let net = c.args.net.now in
    let values = c.args.state.now in
    let n = c.args.node in
    let are = subst (λ (r : RowsValue). AreRows net values r) (sym c.self.view_is) c.requires.rows in
    let said = read net values s.rows.items s.places.items s.edges n are c.requires.node c.index.result.now c.index-place.result.now c.index.ensures
    c.index-place.ensures c.if-place-eq-WIDE.false in
    c.says-up.ensures.up ∙ said.says.0
    ∙ sym (ap (λ b. cond b (guard_holds (high values) (down_of net n)) (guard_holds (high values) (up_of net n)))
    (sym c.is_high.ensures ∙ c.if-is_high.false))
