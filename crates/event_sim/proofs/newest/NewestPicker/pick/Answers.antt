use Rattle.std.proofs.Common.{◌≡◌, ◌+◌, ◌∙◌, ℕ, length, sym, ap, subst, arith}
use Rattle.event_sim.specs.Ages.{AgedValue, ages_at, aged, first_least}
use Rattle.event_sim.specs.Picking.{IsChoiceList}
use Rattle.event_sim.proofs.Aging.{ages_long, choice_is}
use Rattle.event_sim.proofs.newest.NewestPicker.pick.Goals as goal

pub note-guess-requires-clause-list : goal.note-guess-requires-clause-list
note-guess-requires-clause-list c =
    let s = c.self.inside in
    subst (λ (n : ℕ). IsChoiceList n c.args.enabled.now)
    (sym (ap (λ (v : AgedValue). length v.ages) c.self.view_is) ∙ ages_long (length s.log.items) s.presence.since.items s.presence.list.items)
    c.requires.list

pub returns-clause-choice : goal.returns-clause-choice
returns-clause-choice c =
    let s = c.self.inside in
    let p = c.note-guess.new.self in
    let now = c.len.result in
    let enabled = c.args.enabled.now in
    let made : now ≡ length s.log.items = omega (arith, c.len.ensures, s.log.ok.0) in
    let aging : ages_at (now + 1) p.since.items p.list.items ≡ aged enabled c.args.self.now.ages =
    c.note-guess.ensures.ages ∙ ap (λ (n : ℕ). aged enabled (ages_at n s.presence.since.items s.presence.list.items)) made
    ∙ ap (λ (v : AgedValue). aged enabled v.ages) c.self.view_is in
    choice_is first_least c.newest-found.result.index (ages_at (now + 1) p.since.items p.list.items) c.args.self.now.ages p.list.items enabled
    (c.newest-found.ensures.best (now + 1) c.note-guess.ensures.presence.by_age) c.note-guess.ensures.list aging
