use Rattle.std.proofs.Common.{◌≡◌, ◌+◌, ◌∙◌, ℕ, List, ◌++◌, length, take, drop, sym, ap, subst, arith}
use Rattle.event_sim.specs.Ages.{ages_at, aged, IsByAge}
use Rattle.event_sim.proofs.Present.{ascending_few, whole_back}
use Rattle.event_sim.proofs.ages.Presence.note.Goals as goal

pub copy_into-requires : goal.copy_into-requires
copy_into-requires c = record {
  room = omega (
    arith,
    ascending_few c.args.list.now (length c.args.self.now.since.items) c.requires.list.ascending c.requires.list.below,
    c.requires.presence.list_room,
  );
}

pub returns-clause-presence : goal.returns-clause-presence
returns-clause-presence c =
    let s = c.args.self.now in
    let after = c.follow-first.new.since in
    let long : s.since.len ≡ length after = omega (arith, c.follow-first.auto.since, ap length c.deref_mut.ensures.value, s.since.ok.0) in
    let same : take s.since.len (after ++ drop (length after) s.since.items) ≡ after = whole_back after s.since.items s.since.len long in
    record {
      by_age = subst (λ (xs : List ℕ). IsByAge (c.args.now + 1) xs c.copy_into.new.to.items c.follow-first.new.order.items) (sym same)
          (subst (λ (xs : List ℕ). IsByAge (c.args.now + 1) after xs c.follow-first.new.order.items) (sym c.copy_into.ensures.items)
          c.follow-first.ensures.by_age);
      list_room = omega (arith, ap length same, long, s.since.ok.0, c.copy_into.ensures.room, c.requires.presence.list_room);
      order_room = omega (arith, ap length same, long, s.since.ok.0, c.follow-first.ensures.room, c.requires.presence.order_room);
    }

pub returns-clause-ages : goal.returns-clause-ages
returns-clause-ages c =
    let s = c.args.self.now in
    let after = c.follow-first.new.since in
    let now = c.args.now in
    let long : s.since.len ≡ length after = omega (arith, c.follow-first.auto.since, ap length c.deref_mut.ensures.value, s.since.ok.0) in
    let same : take s.since.len (after ++ drop (length after) s.since.items) ≡ after = whole_back after s.since.items s.since.len long in
    ap (λ (xs : List ℕ). ages_at (now + 1) xs c.copy_into.new.to.items) same
    ∙ ap (λ (xs : List ℕ). ages_at (now + 1) after xs) c.copy_into.ensures.items
    ∙ c.follow-first.ensures.ages
    ∙ ap (λ (xs : List ℕ). aged c.args.list.now (ages_at now xs c.deref.result.now)) c.deref_mut.ensures.value
    ∙ ap (λ (xs : List ℕ). aged c.args.list.now (ages_at now s.since.items xs)) c.deref.ensures.value
