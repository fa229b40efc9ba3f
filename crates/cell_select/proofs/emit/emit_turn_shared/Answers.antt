use Rattle.std.proofs.Common.{◌≡◌, ◌<◌, ◌∷◌, length, arith, refl, rules}
use Rattle.std.specs.Prelude.{OnOk}
use Rattle.std.proofs.lemmas.List.Elements.{All-cons}
use Rattle.prs_core.specs.Parts.{with_owned}
use Rattle.prs_core.specs.Partly.{IsPartly, partly_none}
use Rattle.cell_select.specs.Contract.{shared_owned}
use Rattle.cell_select.proofs.Lent.{lent_within, lent_some, all_lent, of_two}
use Rattle.cell_select.proofs.emit.emit_turn_shared.Goals as goal

pub emit_shared-requires-clause-answers : goal.emit_shared-requires-clause-answers
emit_shared-requires-clause-answers c = lent_within _ _ c.args.p.now.answers.items _ refl c.deref-2.ensures.value c.requires.answers

pub emit_shared-requires-clause-some : goal.emit_shared-requires-clause-some
emit_shared-requires-clause-some c =
    let p = c.args.p.now in
    lent_some (p.leave ∷ p.latches.items) _
    (all_lent p.leave p.latches.items _ _ _ c.deref.ensures.value c.in_ok-all.ensures c.deref-3.ensures.value) (omega arith)

pub emit_shared-requires-clause-latched : goal.emit_shared-requires-clause-latched
emit_shared-requires-clause-latched c =
    let p = c.args.p.now in
    lent_within _ _ (p.leave ∷ p.latches.items) _ refl
    (all_lent p.leave p.latches.items _ _ _ c.deref.ensures.value c.in_ok-all.ensures c.deref-3.ensures.value)
    (All-cons (λ n. n < length c.args.rules.now.up) p.leave p.latches.items c.requires.leave c.requires.latches)

pub returns-in_err-all : goal.returns-in_err-all
returns-in_err-all c = record { made = search rules; partly = partly_none _ _ _ refl; nodes = refl }

pub returns : goal.returns
returns c =
    let p = c.args.p.now in
    let all = all_lent p.leave p.latches.items _ _ _ c.deref.ensures.value c.in_ok-all.ensures c.deref-3.ensures.value in
    let old = c.args.rules.now in
    let new = c.emit_shared.new.rules in
    record {
      made = of_two (λ ns ls. OnOk c.emit_shared.result (new ≡ with_owned (shared_owned p.joined p.eval p.any p.loop_request ns ls) old))
          c.deref-2.ensures.value all c.emit_shared.ensures.made;
      partly = of_two (λ ns ls. IsPartly (shared_owned p.joined p.eval p.any p.loop_request ns ls) old new) c.deref-2.ensures.value all
          c.emit_shared.ensures.partly;
      nodes = c.emit_shared.ensures.nodes;
    }
