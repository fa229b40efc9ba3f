use Rattle.std.proofs.Common.{◌≡◌, ℕ, ◌+◌, ◌++◌, ◌∷◌, ◌<◌, ◌∙◌, [], List, length, vec_len, sym, ap, subst, arith}
use Rattle.std.specs.Prelude.{All}
use Rattle.prs_core.specs.Nets.{GuardValue, up_of, down_of}
use Rattle.prs_core.specs.Moves.{high}
use Rattle.prs_core.specs.Fans.{is_reader}
use Rattle.guard_rows.specs.Places.{looked_up, index_of, weight_of, is_one_of, RowsValue, AreRowsBelow, AreWords, AreAdded, guard_rows_of}
use Rattle.guard_rows.proofs.Added.{own_added, then_ok, inputs_below, one_of_named}
use Rattle.guard_rows.proofs.Made.{read_added, row_added}
use Rattle.guard_rows.proofs.rows.Making.add.Goals as goal

pub add_reader-requires-clause-all : goal.add_reader-requires-clause-all
add_reader-requires-clause-all c =
    let below = subst (λ (r : RowsValue). AreRowsBelow c.args.net.now c.args.state.now c.args.node c.args.node r) (sym c.self.view_is) c.requires.below in
    omega (arith, below.edges, c.self.inside.edges.ok.0)

pub add_reader-requires-clause-room : goal.add_reader-requires-clause-room
add_reader-requires-clause-room c = λ m within.
    let below = subst (λ (r : RowsValue). AreRowsBelow c.args.net.now c.args.state.now c.args.node c.args.node r) (sym c.self.view_is) c.requires.below in
    omega (arith, below.later m c.args.node (omega (arith, within, below.edges, c.self.inside.edges.ok.0)) (omega arith))

pub add_counted-requires-clause-below : goal.add_counted-requires-clause-below
add_counted-requires-clause-below c =
    let s = c.self.inside in
    let below = subst (λ (r : RowsValue). AreRowsBelow c.args.net.now c.args.state.now c.args.node c.args.node r) (sym c.self.view_is) c.requires.below in
    read_added c.args.net.now c.args.state.now c.args.node s.rows.items s.places.items s.edges.items c.add_reader.new.edges.items below
    c.in_ok-add_reader.ensures.added

pub index_now-requires-clause-within : goal.index_now-requires-clause-within
index_now-requires-clause-within c =
    let net = c.args.net.now in
    subst (λ (ks : List ℕ). All (λ k. k < length c.args.state.now) ks) (sym c.deref-in-Some.ensures.value)
    (subst (λ most. All (λ k. k < most) c.args.inputs.now.items) (sym c.requires.state)
    (inputs_below net c.args.node c.args.inputs.now.items c.first-net.ensures.net c.requires.node c.requires.inputs))

pub add_bits-requires-clause-within : goal.add_bits-requires-clause-within
add_bits-requires-clause-within c =
    let net = c.args.net.now in
    let n = c.args.node in
    let below = subst (λ (r : RowsValue). AreRowsBelow net c.args.state.now n n r) (sym c.self.view_is) c.requires.below in
    let long : length net.first ≡ vec_len c.add_reader.new.edges = omega (arith, below.edges, c.self.inside.edges.ok.0, c.add_reader.ensures.count) in
    subst (λ (ks : List ℕ). All (λ k. k < vec_len c.add_reader.new.edges) ks) (sym c.deref-in-Some-2.ensures.value)
    (subst (λ most. All (λ k. k < most) c.args.inputs.now.items) long
    (inputs_below net n c.args.inputs.now.items c.first-net.ensures.net c.requires.node c.requires.inputs))

pub add_bits-requires-clause-fresh : goal.add_bits-requires-clause-fresh
add_bits-requires-clause-fresh c = λ m within.
    let s = c.self.inside in
    let n = c.args.node in
    let below = subst (λ (r : RowsValue). AreRowsBelow c.args.net.now c.args.state.now n n r) (sym c.self.view_is) c.requires.below in
    let inside : m < length s.edges.items = omega (arith, within, c.add_reader.ensures.count, s.edges.ok.0) in
    own_added n (λ k. is_reader c.args.net.now k n) (λ k. 0) s.edges.items c.add_reader.new.edges.items m c.in_ok-add_reader.ensures.added inside
    ∙ omega (arith, below.later m n (omega (arith, inside, below.edges)) (omega arith))

pub returns-in_ok-push-in-Some-2 : goal.returns-in_ok-push-in-Some-2
returns-in_ok-push-in-Some-2 c =
    let s = c.self.inside in
    let net = c.args.net.now in
    let values = c.args.state.now in
    let n = c.args.node in
    let ns = c.args.inputs.now.items in
    let row = c.in-Some.row in
    let place = c.index_now.result in
    let mid = c.add_reader.new.edges in
    let new = c.add_bits.new.edges in
    let below = subst (λ (r : RowsValue). AreRowsBelow net values n n r) (sym c.self.view_is) c.requires.below in
    let read = read_added net values n s.rows.items s.places.items s.edges.items mid.items below c.in_ok-add_reader.ensures.added in
    let table : AreWords (up_of net n) (down_of net n) ns row =
    subst (λ (ks : List ℕ). AreWords (up_of net n) (down_of net n) ks row) c.deref.ensures.value
    (subst (λ (g : GuardValue). AreWords g (down_of net n) c.deref.result.now row) c.up.ensures
    (subst (λ (g : GuardValue). AreWords c.up.result.now g c.deref.result.now row) c.down.ensures c.in-Some.ensures)) in
    let at : place ≡ index_of (high values) ns =
    c.index_now.ensures ∙ ap (λ (ks : List ℕ). index_of (high values) ks) c.deref-in-Some.ensures.value in
    then_ok c.add_bits.result _ _
    (λ added. subst (λ (rs : List (ℕ × ℕ)). AreRowsBelow net values (n + 1) (n + 1) (guard_rows_of rs c.push-in-Some.new.self.items new.items))
    (sym c.in_ok-push-in-Some.ensures.items)
    (subst (λ (ps : List ℕ). AreRowsBelow net values (n + 1) (n + 1) (guard_rows_of (s.rows.items ++ row ∷ []) ps new.items))
    (sym c.in_ok-push-in-Some-2.ensures.items)
    (row_added net values n s.rows.items s.places.items mid.items new.items (looked_up ns) row place (is_one_of ns) read table at
    (λ m. one_of_named net n ns m c.requires.inputs)
    (subst (λ (ks : List ℕ). AreAdded n (is_one_of ks) (λ m. weight_of m ks) mid.items new.items) c.deref-in-Some-2.ensures.value added))))
    c.add_bits.ensures.added
