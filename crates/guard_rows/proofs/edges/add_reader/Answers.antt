use Rattle.std.proofs.Common.{◌+◌, ◌<◌, ◌∙◌, length, refl, sym, ap, subst, arith}
use Rattle.std.specs.Prelude.{◌||◌}
use Rattle.prs_core.specs.Nets.{GuardValue, IsBelow, up_of}
use Rattle.prs_core.specs.Fans.{guard_names, is_reader}
use Rattle.guard_rows.specs.Places.{AreAdded}
use Rattle.guard_rows.proofs.Added.{added_both, added_as, own_added, then_ok, up_below, down_below}
use Rattle.guard_rows.proofs.edges.add_reader.Goals as goal

pub add_guard-requires-clause-within : goal.add_guard-requires-clause-within
add_guard-requires-clause-within c =
    subst (λ k. IsBelow k c.up.result.now) (sym c.requires.all)
    (subst (λ (g : GuardValue). IsBelow (length c.args.net.now.first) g) (sym c.up.ensures)
    (up_below c.args.net.now c.args.reader c.first-net.ensures.net c.requires.reader))

pub add_guard-requires-2-clause-within : goal.add_guard-requires-2-clause-within
add_guard-requires-2-clause-within c =
    subst (λ k. IsBelow k c.down.result.now) (sym (c.add_guard.ensures.count ∙ c.requires.all))
    (subst (λ (g : GuardValue). IsBelow (length c.args.net.now.first) g) (sym c.down.ensures)
    (down_below c.args.net.now c.args.reader c.first-net.ensures.net c.requires.reader))

pub add_guard-requires-2-clause-room : goal.add_guard-requires-2-clause-room
add_guard-requires-2-clause-room c = λ m within.
    let old = c.args.edges.now in
    let inside : m < length old.items = omega (arith, within, c.add_guard.ensures.count, old.ok.0) in
    let same = own_added c.args.reader (λ k. guard_names k c.up.result.now) (λ k. 0) old.items c.add_guard.new.edges.items m
    c.in_ok-add_guard.ensures.added inside in
    omega (arith, same, c.requires.room m (omega (arith, within, c.add_guard.ensures.count)))

pub returns-clause-added : goal.returns-clause-added
returns-clause-added c =
    let net = c.args.net.now in
    let r = c.args.reader in
    let up = c.up.result.now in
    let down = c.down.result.now in
    let old = c.args.edges.now.items in
    let new = c.add_guard-2.new.edges.items in
    then_ok c.add_guard-2.result (AreAdded r (λ m. guard_names m down) (λ m. 0) c.add_guard.new.edges.items new)
    (AreAdded r (λ m. is_reader net m r) (λ m. 0) old new)
    (λ second. added_as r (λ m. guard_names m up || guard_names m down) (λ m. is_reader net m r) (λ m. 0 + 0) (λ m. 0) old new
    (λ m. ap (λ (g : GuardValue). guard_names m g || guard_names m down) c.up.ensures
    ∙ ap (λ (g : GuardValue). guard_names m (up_of net r) || guard_names m g) c.down.ensures)
    (λ m. refl) (added_both r (λ m. guard_names m up) (λ m. guard_names m down) (λ m. 0) (λ m. 0) old c.add_guard.new.edges.items new
    c.in_ok-add_guard.ensures.added second))
    c.add_guard-2.ensures.added
