use Rattle.std.proofs.Common.{◌≡◌, ℕ, ◌+◌, ◌*◌, ◌^◌, ◌<◌, ◌∙◌, ◌++◌, ◌∷◌, [], Bool, true, List, length, vec_len, sym, ap, subst, arith}
use Rattle.std.specs.Prelude.{IfSome, All, Option, Some, None, ◌||◌}
use Rattle.prs_core.specs.Nets.{GuardValue, NetValue, up_of, down_of}
use Rattle.prs_core.specs.Moves.{high}
use Rattle.prs_core.specs.Fans.{is_reader}
use Rattle.guard_rows.specs.Places.{by_count, times_in, is_one_of, is_over, override_step, row_place, RowsValue, AreRowsBelow, AreAdded, AreCounted, GuardPasses, guard_rows_of}
use Rattle.guard_rows.specs.declared.counts.Counts.{Counts}
use Rattle.guard_rows.proofs.Counting.{times_few}
use Rattle.guard_rows.proofs.Added.{own_added, added_both, then_ok, down_passes, reader_below, inputs_below, both_named}
use Rattle.guard_rows.proofs.Made.{wide_added, row_added}
use Rattle.guard_rows.proofs.rows.Making.add_counted.Goals as goal

passing : (net : NetValue) (n : ℕ) (down : GuardValue) → down ≡ down_of net n → GuardPasses (λ m. is_reader net m n) down
passing net n down is = subst (GuardPasses (λ m. is_reader net m n)) (sym is) (down_passes net n)

-- what the node that overrides the others is, too
over_passes : (passes : ℕ → Bool) (down : GuardValue) (r : Option Counts) (counts : Counts) → r ≡ Some counts →
    IfSome r (λ w. (p : ℕ → Bool) → GuardPasses p down → IfSome w.over (λ k. p k ≡ true)) → GuardPasses passes down →
    IfSome counts.over (λ k. passes k ≡ true)
over_passes passes down r counts is said all =
    subst (λ (o : Option Counts). IfSome o (λ w. (p : ℕ → Bool) → GuardPasses p down → IfSome w.over (λ k. p k ≡ true))) is said passes all

over_below : (over : Option ℕ) (passes : ℕ → Bool) (count : ℕ) → ((k : ℕ) → passes k ≡ true → k < count) → IfSome over (λ k. passes k ≡ true) →
    IfSome over (λ k. k < count)
over_below None passes count below all = tt
over_below (Some k) passes count below all = below k all

pub place_now-requires-clause-within : goal.place_now-requires-clause-within
place_now-requires-clause-within c =
    let net = c.args.net.now in
    let n = c.args.node in
    let named = c.in_ok-counted_row.ensures.pass (λ m. is_reader net m n) (passing net n c.down.result.now c.down.ensures) in
    subst (λ (ks : List ℕ). All (λ k. k < length c.args.state.now) ks) (sym c.deref.ensures.value)
    (subst (λ most. All (λ k. k < most) c.counted_row.new.nodes.items) (sym c.requires.state)
    (inputs_below net n c.counted_row.new.nodes.items c.first-net.ensures.net c.requires.node named))

pub place_now-requires-clause-over : goal.place_now-requires-clause-over
place_now-requires-clause-over c =
    let net = c.args.net.now in
    let n = c.args.node in
    let named = over_passes (λ m. is_reader net m n) c.down.result.now _ c.in-Some.counts c.in-Some.is c.in_ok-counted_row.ensures.over
    (passing net n c.down.result.now c.down.ensures) in
    subst (λ most. IfSome c.in-Some.counts.over (λ k. k < most)) (sym c.requires.state)
    (over_below c.in-Some.counts.over (λ m. is_reader net m n) (length net.first)
    (λ k passes. reader_below net k n c.first-net.ensures.net c.requires.node passes) named)

pub add_counts-requires-clause-few : goal.add_counts-requires-clause-few
add_counts-requires-clause-few c =
    let said : AreCounted c.up.result.now c.down.result.now c.counted_row.new.nodes.items c.in-Some.counts.over c.in-Some.counts.least =
    subst (λ (r : Option Counts). IfSome r (λ k. AreCounted c.up.result.now c.down.result.now c.counted_row.new.nodes.items k.over k.least)) c.in-Some.is
    c.in_ok-counted_row.ensures.row in
    omega (arith, said.few, ap length c.deref-in-Some.ensures.value)

pub add_counts-requires-clause-within : goal.add_counts-requires-clause-within
add_counts-requires-clause-within c =
    let net = c.args.net.now in
    let n = c.args.node in
    let below = subst (λ (r : RowsValue). AreRowsBelow net c.args.state.now n (n + 1) r) (sym c.self.view_is) c.requires.below in
    let long : length net.first ≡ vec_len c.self.inside.edges = omega (arith, below.edges, c.self.inside.edges.ok.0) in
    let named = c.in_ok-counted_row.ensures.pass (λ m. is_reader net m n) (passing net n c.down.result.now c.down.ensures) in
    subst (λ (ks : List ℕ). All (λ k. k < vec_len c.self.inside.edges) ks) (sym c.deref-in-Some.ensures.value)
    (subst (λ most. All (λ k. k < most) c.counted_row.new.nodes.items) long
    (inputs_below net n c.counted_row.new.nodes.items c.first-net.ensures.net c.requires.node named))

pub add_counts-requires-clause-fresh : goal.add_counts-requires-clause-fresh
add_counts-requires-clause-fresh c = λ m within.
    let n = c.args.node in
    let below = subst (λ (r : RowsValue). AreRowsBelow c.args.net.now c.args.state.now n (n + 1) r) (sym c.self.view_is) c.requires.below in
    below.later m n (omega (arith, within, below.edges, c.self.inside.edges.ok.0)) (omega arith)

pub add_over-requires-clause-within : goal.add_over-requires-clause-within
add_over-requires-clause-within c =
    let net = c.args.net.now in
    let n = c.args.node in
    let below = subst (λ (r : RowsValue). AreRowsBelow net c.args.state.now n (n + 1) r) (sym c.self.view_is) c.requires.below in
    let long : length net.first ≡ vec_len c.add_counts.new.edges = omega (arith, below.edges, c.self.inside.edges.ok.0, c.add_counts.ensures.count) in
    let named = over_passes (λ m. is_reader net m n) c.down.result.now _ c.in-Some.counts c.in-Some.is c.in_ok-counted_row.ensures.over
    (passing net n c.down.result.now c.down.ensures) in
    subst (λ most. IfSome c.in-Some.counts.over (λ k. k < most)) long
    (over_below c.in-Some.counts.over (λ m. is_reader net m n) (length net.first)
    (λ k passes. reader_below net k n c.first-net.ensures.net c.requires.node passes) named)

pub add_over-requires-clause-room : goal.add_over-requires-clause-room
add_over-requires-clause-room c = λ m within.
    let n = c.args.node in
    let ks = c.deref-in-Some.result.now in
    let old = c.self.inside.edges in
    let below = subst (λ (r : RowsValue). AreRowsBelow c.args.net.now c.args.state.now n (n + 1) r) (sym c.self.view_is) c.requires.below in
    let said : AreCounted c.up.result.now c.down.result.now c.counted_row.new.nodes.items c.in-Some.counts.over c.in-Some.counts.least =
    subst (λ (r : Option Counts). IfSome r (λ k. AreCounted c.up.result.now c.down.result.now c.counted_row.new.nodes.items k.over k.least)) c.in-Some.is
    c.in_ok-counted_row.ensures.row in
    let inside : m < length old.items = omega (arith, within, c.add_counts.ensures.count, old.ok.0) in
    omega (
      arith,
      own_added n (is_one_of ks) (λ k. times_in k ks) old.items c.add_counts.new.edges.items m c.in_ok-add_counts-in-Some.ensures.added inside,
      below.later m n (omega (arith, inside, below.edges)) (omega arith),
      times_few m ks,
      said.few,
      ap length c.deref-in-Some.ensures.value,
    )

pub returns-in_ok-push-in-None-2 : goal.returns-in_ok-push-in-None-2
returns-in_ok-push-in-None-2 c =
    let s = c.self.inside in
    let net = c.args.net.now in
    let values = c.args.state.now in
    let n = c.args.node in
    let below = subst (λ (r : RowsValue). AreRowsBelow net values n (n + 1) r) (sym c.self.view_is) c.requires.below in
    subst (λ (rs : List (ℕ × ℕ)). AreRowsBelow net values (n + 1) (n + 1) (guard_rows_of rs c.push-in-None.new.self.items s.edges.items))
    (sym c.in_ok-push-in-None.ensures.items)
    (subst (λ (ps : List ℕ). AreRowsBelow net values (n + 1) (n + 1) (guard_rows_of (s.rows.items ++ (0, 0) ∷ []) ps s.edges.items))
    (sym c.in_ok-push-in-None-2.ensures.items) (wide_added net values n s.rows.items s.places.items s.edges.items below))

pub returns-in_ok-add_counts-in-Some : goal.returns-in_ok-add_counts-in-Some
returns-in_ok-add_counts-in-Some c =
    let s = c.self.inside in
    let net = c.args.net.now in
    let values = c.args.state.now in
    let n = c.args.node in
    let v = high values in
    let ns = c.counted_row.new.nodes.items in
    let least = c.in-Some.counts.least in
    let over = c.in-Some.counts.over in
    let place = c.place_now.result in
    let old = s.edges in
    let mid = c.add_counts.new.edges in
    let new = c.add_over.new.edges in
    let below = subst (λ (r : RowsValue). AreRowsBelow net values n (n + 1) r) (sym c.self.view_is) c.requires.below in
    let said : AreCounted c.up.result.now c.down.result.now ns over least =
    subst (λ (r : Option Counts). IfSome r (λ k. AreCounted c.up.result.now c.down.result.now ns k.over k.least)) c.in-Some.is
    c.in_ok-counted_row.ensures.row in
    let table : AreCounted (up_of net n) (down_of net n) ns over least =
    subst (λ (g : GuardValue). AreCounted g (down_of net n) ns over least) c.up.ensures
    (subst (λ (g : GuardValue). AreCounted c.up.result.now g ns over least) c.down.ensures said) in
    let at : place ≡ row_place v (by_count ns over) =
    c.place_now.ensures ∙ ap (λ (ks : List ℕ). row_place v (by_count ks over)) c.deref.ensures.value in
    let passes = passing net n c.down.result.now c.down.ensures in
    let named = c.in_ok-counted_row.ensures.pass (λ m. is_reader net m n) passes in
    let named_over = over_passes (λ m. is_reader net m n) c.down.result.now _ c.in-Some.counts c.in-Some.is c.in_ok-counted_row.ensures.over passes in
    let first : AreAdded n (is_one_of ns) (λ m. times_in m ns) old.items mid.items =
    subst (λ (ks : List ℕ). AreAdded n (is_one_of ks) (λ m. times_in m ks) old.items mid.items) c.deref-in-Some.ensures.value
    c.in_ok-add_counts-in-Some.ensures.added in
    then_ok c.add_over.result _ _
    (λ added. subst (λ (rs : List (ℕ × ℕ)). AreRowsBelow net values (n + 1) (n + 1) (guard_rows_of rs c.push-in-Some-2.new.self.items new.items))
    (sym c.in_ok-push-in-Some.ensures.items)
    (subst (λ (ps : List ℕ). AreRowsBelow net values (n + 1) (n + 1) (guard_rows_of (s.rows.items ++ (least, 0) ∷ []) ps new.items))
    (sym c.in_ok-push-in-Some-2.ensures.items)
    (row_added net values n s.rows.items s.places.items old.items new.items (by_count ns over) (least, 0) place (λ m. is_one_of ns m || is_over m over) below
    table at (λ m. both_named net n ns over m named named_over)
    (added_both n (is_one_of ns) (λ m. is_over m over) (λ m. times_in m ns) (λ m. 2 ^ 29 * override_step m over) old.items mid.items new.items first added))))
    c.add_over.ensures.added
