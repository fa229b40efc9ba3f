use Rattle.std.proofs.Common.{◌≡◌, ℕ, ◌+◌, ◌^◌, ◌<◌, ◌≤◌, ◌∙◌, [], List, length, get_or, sym, ap, subst, true, false, arith}
use Rattle.std.proofs.lemmas.List.{with_items_is}
use Rattle.prs_core.specs.Moves.{high, fired}
use Rattle.guard_rows.specs.Places.{RowsValue, AreRows, guard_rows_of, total_to}
use Rattle.guard_rows.proofs.Turns.{raise_room, lower_room, raised, lowered, edges_within}
use Rattle.guard_rows.proofs.rows.GuardRows.turn.Goals as goal

pub node-edges-requires : goal.node-edges-requires
node-edges-requires c =
    let are = subst (λ (r : RowsValue). AreRows c.args.net.now c.args.state.now r) (sym c.self.view_is) c.requires.rows in
    omega (arith, c.requires.node, are.edges)

pub lower-requires-clause-within : goal.lower-requires-clause-within
lower-requires-clause-within c =
    let s = c.self.inside in
    let net = c.args.net.now in
    let values = c.args.state.now in
    let n = c.args.node in
    let edges = s.edges in
    let are = subst (λ (r : RowsValue). AreRows net values r) (sym c.self.view_is) c.requires.rows in
    let same : c.node-edges.result.now ≡ get_or edges n [] = c.node-edges.ensures in
    edges_within net values s.rows.items s.places.items edges n are c.requires.node c.node-edges.result.now c.deref_mut.result.now same
    c.deref_mut.ensures.value

pub lower-requires-clause-room : goal.lower-requires-clause-room
lower-requires-clause-room c = λ r row.
    let s = c.self.inside in
    let net = c.args.net.now in
    let values = c.args.state.now in
    let n = c.args.node in
    let edges = s.edges in
    let are = subst (λ (r : RowsValue). AreRows net values r) (sym c.self.view_is) c.requires.rows in
    let same : c.node-edges.result.now ≡ get_or edges n [] = c.node-edges.ensures in
    let now : high values n ≡ true = sym c.is_high.ensures ∙ c.if-is_high.true in
    let here = c.deref_mut.result.now in
    let listed : r < length net.first = omega (arith, row, ap (λ (ps : List ℕ). length ps) c.deref_mut.ensures.value, are.places) in
    subst (λ (es : List (ℕ × ℕ)). total_to r es ≤ get_or here r 0) (sym same)
    (subst (λ (ps : List ℕ). total_to r (get_or edges n []) ≤ get_or ps r 0) (sym c.deref_mut.ensures.value)
    (lower_room net values s.rows.items s.places.items edges n r are (omega (arith, c.requires.state, c.requires.node)) c.requires.node listed now))

pub returns-then-is_high : goal.returns-then-is_high
returns-then-is_high c =
    let s = c.self.inside in
    let net = c.args.net.now in
    let values = c.args.state.now in
    let n = c.args.node in
    let edges = s.edges in
    let are = subst (λ (r : RowsValue). AreRows net values r) (sym c.self.view_is) c.requires.rows in
    let same : c.node-edges.result.now ≡ get_or edges n [] = c.node-edges.ensures in
    let now : high values n ≡ true = sym c.is_high.ensures ∙ c.if-is_high.true in
    let here = c.deref_mut.result.now in
    let places = s.places.items in
    let new = c.lower.new.places in
    let long : length here ≡ length places = ap (λ (ps : List ℕ). length ps) c.deref_mut.ensures.value in
    let count : length new ≡ length places = c.lower.ensures.count ∙ long in
    subst (λ (ps : List ℕ). AreRows net (fired values n) (guard_rows_of s.rows.items ps edges)) (sym (with_items_is s.places new (count ∙ sym s.places.ok.0)))
    (lowered net values s.rows.items places new edges n are (omega (arith, c.requires.state, c.requires.node)) c.requires.node now count
    (λ r row. subst (λ (es : List (ℕ × ℕ)). get_or new r 0 + total_to r es ≡ get_or places r 0) same
    (subst (λ (ps : List ℕ). get_or new r 0 + total_to r c.node-edges.result.now ≡ get_or ps r 0) c.deref_mut.ensures.value
    (c.lower.ensures.places r (omega (arith, row, long))))))

pub raise-requires-clause-within : goal.raise-requires-clause-within
raise-requires-clause-within c =
    let s = c.self.inside in
    let net = c.args.net.now in
    let values = c.args.state.now in
    let n = c.args.node in
    let edges = s.edges in
    let are = subst (λ (r : RowsValue). AreRows net values r) (sym c.self.view_is) c.requires.rows in
    let same : c.node-edges.result.now ≡ get_or edges n [] = c.node-edges.ensures in
    edges_within net values s.rows.items s.places.items edges n are c.requires.node c.node-edges.result.now c.deref_mut-else-is_high.result.now same
    c.deref_mut-else-is_high.ensures.value

pub raise-requires-clause-room : goal.raise-requires-clause-room
raise-requires-clause-room c = λ r row.
    let s = c.self.inside in
    let net = c.args.net.now in
    let values = c.args.state.now in
    let n = c.args.node in
    let edges = s.edges in
    let are = subst (λ (r : RowsValue). AreRows net values r) (sym c.self.view_is) c.requires.rows in
    let same : c.node-edges.result.now ≡ get_or edges n [] = c.node-edges.ensures in
    let now : high values n ≡ false = sym c.is_high.ensures ∙ c.if-is_high.false in
    let here = c.deref_mut-else-is_high.result.now in
    let listed : r < length net.first = omega (arith, row, ap (λ (ps : List ℕ). length ps) c.deref_mut-else-is_high.ensures.value, are.places) in
    subst (λ (es : List (ℕ × ℕ)). get_or here r 0 + total_to r es < 2 ^ 32) (sym same)
    (subst (λ (ps : List ℕ). get_or ps r 0 + total_to r (get_or edges n []) < 2 ^ 32) (sym c.deref_mut-else-is_high.ensures.value)
    (raise_room net values s.rows.items s.places.items edges n r are (omega (arith, c.requires.state, c.requires.node)) c.requires.node listed now))

pub returns-else-is_high : goal.returns-else-is_high
returns-else-is_high c =
    let s = c.self.inside in
    let net = c.args.net.now in
    let values = c.args.state.now in
    let n = c.args.node in
    let edges = s.edges in
    let are = subst (λ (r : RowsValue). AreRows net values r) (sym c.self.view_is) c.requires.rows in
    let same : c.node-edges.result.now ≡ get_or edges n [] = c.node-edges.ensures in
    let now : high values n ≡ false = sym c.is_high.ensures ∙ c.if-is_high.false in
    let here = c.deref_mut-else-is_high.result.now in
    let places = s.places.items in
    let new = c.raise.new.places in
    let long : length here ≡ length places = ap (λ (ps : List ℕ). length ps) c.deref_mut-else-is_high.ensures.value in
    let count : length new ≡ length places = c.raise.ensures.count ∙ long in
    subst (λ (ps : List ℕ). AreRows net (fired values n) (guard_rows_of s.rows.items ps edges)) (sym (with_items_is s.places new (count ∙ sym s.places.ok.0)))
    (raised net values s.rows.items places new edges n are (omega (arith, c.requires.state, c.requires.node)) c.requires.node now count
    (λ r row. subst (λ (es : List (ℕ × ℕ)). get_or new r 0 ≡ get_or places r 0 + total_to r es) same
    (subst (λ (ps : List ℕ). get_or new r 0 ≡ get_or ps r 0 + total_to r c.node-edges.result.now) c.deref_mut-else-is_high.ensures.value
    (c.raise.ensures.places r (omega (arith, row, long))))))
