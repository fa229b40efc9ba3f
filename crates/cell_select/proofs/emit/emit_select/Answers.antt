use Rattle.std.proofs.Common.{◌≡◌, refl, rules, length, ◌∙◌}
use Rattle.std.specs.Prelude.{OnOk}
use Rattle.std.proofs.lemmas.Result.{on_ok_weaker}
use Rattle.prs_core.specs.Parts.{with_owned}
use Rattle.prs_core.specs.Partly.{IsPartly, partly_of, partly_on, partly_others}
use Rattle.cell_select.specs.PortNodes.{pairs_of, select_of}
use Rattle.cell_select.specs.Contract.{shared_owned, branches_owned, select_owned}
use Rattle.cell_select.proofs.Lent.{below_still, lent_within, lent_twice, lent_same, lent_some, some_latch, of_two, of_three}
use Rattle.cell_select.proofs.Emitted.{select_branches, select_made, select_owns}
use Rattle.cell_select.proofs.emit.emit_select.Goals as goal
use Rattle.cell_select.proofs.emit.emit_select.Goals.{After-emit_shared}

pub emit_shared-requires-clause-answers : goal.emit_shared-requires-clause-answers
emit_shared-requires-clause-answers c = lent_within _ _ c.args.p.now.answers.items _ refl c.deref.ensures.value c.requires.answers

pub emit_shared-requires-clause-some : goal.emit_shared-requires-clause-some
emit_shared-requires-clause-some c = lent_some c.args.p.now.latches.items _ c.deref-2.ensures.value (some_latch _ _ _ _ c.requires.branches)

pub emit_shared-requires-clause-latched : goal.emit_shared-requires-clause-latched
emit_shared-requires-clause-latched c = lent_within _ _ c.args.p.now.latches.items _ refl c.deref-2.ensures.value c.requires.latches

pub emit_branches-requires-clause-request : goal.emit_branches-requires-clause-request
emit_branches-requires-clause-request c = below_still c.args.p.now.request _ _ c.emit_shared.ensures.nodes c.requires.request

pub emit_branches-requires-clause-latched : goal.emit_branches-requires-clause-latched
emit_branches-requires-clause-latched c =
    lent_within _ _ c.args.p.now.latches.items _ c.emit_shared.ensures.nodes c.deref-3.ensures.value c.requires.latches

pub emit_branches-requires-clause-begun : goal.emit_branches-requires-clause-begun
emit_branches-requires-clause-begun c =
    lent_within _ _ c.args.p.now.starts.items _ c.emit_shared.ensures.nodes c.deref-4.ensures.value c.requires.starts

pub emit_branches-requires-clause-rails : goal.emit_branches-requires-clause-rails
emit_branches-requires-clause-rails c =
    lent_within _ _ c.args.p.now.guard_rails.items _ c.emit_shared.ensures.nodes c.deref-5.ensures.value c.requires.rails

pub emit_branches-requires-clause-agree : goal.emit_branches-requires-clause-agree
emit_branches-requires-clause-agree c = lent_same _ _ _ _ c.deref-4.ensures.value c.deref-3.ensures.value c.requires.branches.started

pub emit_branches-requires-clause-pairs : goal.emit_branches-requires-clause-pairs
emit_branches-requires-clause-pairs c = lent_twice _ _ _ _ c.deref-5.ensures.value c.deref-3.ensures.value c.requires.branches.railed

-- what is written once the nodes that are shared are
shared_written : (c : After-emit_shared) → IsPartly (select_owned (select_of c.args.p.now)) c.args.rules.now c.emit_shared.new.rules
shared_written c =
    let p = c.args.p.now in
    partly_of _ _ _ _ (select_owns p c.requires.branches).shared
    (of_two (λ ns ls. IsPartly (shared_owned p.answer p.eval p.any p.request ns ls) c.args.rules.now c.emit_shared.new.rules) c.deref.ensures.value
    c.deref-2.ensures.value c.emit_shared.ensures.partly)

pub returns-in_err-emit_shared : goal.returns-in_err-emit_shared
returns-in_err-emit_shared c =
    let partly = shared_written (goal.at.returns-in_err-emit_shared c).After-emit_shared in
    record {
      made = search rules;
      partly = partly;
      nodes = c.emit_shared.ensures.nodes;
      others = partly_others _ _ _ partly;
      keeps = c.select_keeps.ensures.written (length c.args.rules.now.up) c.args.p.now c.requires;
    }

pub returns : goal.returns
returns c =
    let p = c.args.p.now in
    let between = c.emit_shared.new.rules in
    let new = c.emit_branches.new.rules in
    let shared = of_two (λ ns ls. between ≡ with_owned (shared_owned p.answer p.eval p.any p.request ns ls) c.args.rules.now) c.deref.ensures.value
    c.deref-2.ensures.value c.in_ok-emit_shared.ensures.made in
    let made = of_three (λ ls ss rs. OnOk c.emit_branches.result (new ≡ with_owned (branches_owned p.request ls ss (pairs_of rs)) between))
    c.deref-3.ensures.value c.deref-4.ensures.value c.deref-5.ensures.value c.emit_branches.ensures.made in
    let branches = of_three (λ ls ss rs. IsPartly (branches_owned p.request ls ss (pairs_of rs)) between new) c.deref-3.ensures.value c.deref-4.ensures.value
    c.deref-5.ensures.value c.emit_branches.ensures.partly in
    let partly = partly_on _ _ _ _ (shared_written (goal.at.returns c).After-emit_shared)
    (partly_of (select_branches p) (select_owned (select_of p)) _ _ (select_owns p c.requires.branches).branches branches) in
    record {
      made = on_ok_weaker c.emit_branches.result (select_made p c.args.rules.now between new c.requires.branches shared) made;
      partly = partly;
      nodes = c.emit_branches.ensures.nodes ∙ c.emit_shared.ensures.nodes;
      others = partly_others _ _ _ partly;
      keeps = c.select_keeps.ensures.written (length c.args.rules.now.up) p c.requires;
    }
