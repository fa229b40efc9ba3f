use Rattle.std.proofs.Common.{◌≡◌, List, ℕ, ap, sym, subst, ◌∙◌, refl, rules, length}
use Rattle.std.specs.Prelude.{OnOk}
use Rattle.std.proofs.lemmas.Result.{on_ok_weaker}
use Rattle.prs_core.specs.Nets.{RulesValue, with_rules}
use Rattle.prs_core.specs.Parts.{owned, with_owned}
use Rattle.prs_core.specs.Partly.{IsPartly, partly_none, partly_of, partly_on, then_one, then_none, partly_others}
use Rattle.cell_select.specs.Selections.{leave_answer, leave_latch, turn_request}
use Rattle.cell_select.specs.PortNodes.{pairs_of, again_of, turn_shared, IsAgain}
use Rattle.cell_select.specs.Contract.{branches_owned, again_owned}
use Rattle.cell_select.specs.declared.emit.AgainPorts.{AgainPorts}
use Rattle.cell_select.proofs.Lent.{below_still, lent_within, lent_twice, lent_same, some_latch, of_three}
use Rattle.cell_select.proofs.Emitted.{again_branches, again_first, again_made, again_owns}
use Rattle.cell_select.proofs.emit.emit_again.Goals as goal
use Rattle.cell_select.proofs.emit.emit_again.Goals.{In_ok-emit_end, In_ok-emit_turn, After-emit_turn_shared, In_ok-emit_leave}

-- what is written once so many calls are done
abbrev Upto : AgainPorts → RulesValue → RulesValue → Type 0
Upto p before after = IsPartly (again_owned (again_of p)) before after

end_written : (c : In_ok-emit_end) → Upto c.args.p.now c.args.rules.now c.emit_end.new.rules
end_written c =
    let p = c.args.p.now in
    then_one _ _ _ _ (owned p.answer (leave_answer p.leave p.any (pairs_of p.guard_rails.items))) (partly_none _ _ _ refl)
    (again_owns p c.requires.branches).answer
    (c.in_ok-emit_end.ensures.made ∙ ap (λ ns. with_rules p.answer (leave_answer p.leave p.any (pairs_of ns)) c.args.rules.now) c.deref.ensures.value)

turn_written : (c : In_ok-emit_turn) → Upto c.args.p.now c.args.rules.now c.emit_end.new.rules → Upto c.args.p.now c.args.rules.now c.emit_turn.new.rules
turn_written c before =
    let p = c.args.p.now in
    then_one _ _ _ _ (owned p.loop_request (turn_request p.request p.joined)) before (again_owns p c.requires.branches).turn
    c.in_ok-emit_turn.ensures.made

shared_written : (c : After-emit_turn_shared) → Upto c.args.p.now c.args.rules.now c.emit_turn.new.rules
    → Upto c.args.p.now c.args.rules.now c.emit_turn_shared.new.rules
shared_written c before =
    partly_on _ _ _ _ before (partly_of _ _ _ _ (again_owns c.args.p.now c.requires.branches).shared c.emit_turn_shared.ensures.partly)

leave_written : (c : In_ok-emit_leave) → Upto c.args.p.now c.args.rules.now c.emit_turn_shared.new.rules
    → Upto c.args.p.now c.args.rules.now c.emit_leave.new.rules
leave_written c before =
    let p = c.args.p.now in
    then_one _ _ _ _ (owned p.leave (leave_latch p.loop_request (pairs_of p.guard_rails.items))) before
    (again_owns p c.requires.branches).leave
    (c.in_ok-emit_leave.ensures.made ∙ ap (λ ns. with_rules p.leave (leave_latch p.loop_request (pairs_of ns)) c.emit_turn_shared.new.rules)
    c.deref-2.ensures.value)

pub returns-in_err-emit_end : goal.returns-in_err-emit_end
returns-in_err-emit_end c =
    let partly = then_none (again_owned (again_of c.args.p.now)) _ _ _ (partly_none _ _ _ refl) c.in_err-emit_end.ensures.kept in
    record {
      made = search rules;
      partly = partly;
      nodes = c.emit_end.ensures.nodes;
      others = partly_others _ _ _ partly;
      keeps = c.again_keeps.ensures.written (length c.args.rules.now.up) c.args.p.now c.requires;
    }

pub returns-in_err-emit_turn : goal.returns-in_err-emit_turn
returns-in_err-emit_turn c =
    let at = goal.at.returns-in_err-emit_turn c in
    let partly = then_none (again_owned (again_of c.args.p.now)) _ _ _ (end_written at.In_ok-emit_end) c.in_err-emit_turn.ensures.kept in
    record {
      made = search rules;
      partly = partly;
      nodes = c.emit_turn.ensures.nodes ∙ c.emit_end.ensures.nodes;
      others = partly_others _ _ _ partly;
      keeps = c.again_keeps.ensures.written (length c.args.rules.now.up) c.args.p.now c.requires;
    }

pub returns-in_err-emit_turn_shared : goal.returns-in_err-emit_turn_shared
returns-in_err-emit_turn_shared c =
    let at = goal.at.returns-in_err-emit_turn_shared c in
    let partly = shared_written at.After-emit_turn_shared (turn_written at.In_ok-emit_turn (end_written at.In_ok-emit_end)) in
    record {
      made = search rules;
      partly = partly;
      nodes = c.emit_turn_shared.ensures.nodes ∙ c.emit_turn.ensures.nodes ∙ c.emit_end.ensures.nodes;
      others = partly_others _ _ _ partly;
      keeps = c.again_keeps.ensures.written (length c.args.rules.now.up) c.args.p.now c.requires;
    }

pub returns-in_err-emit_leave : goal.returns-in_err-emit_leave
returns-in_err-emit_leave c =
    let at = goal.at.returns-in_err-emit_leave c in
    let partly = then_none (again_owned (again_of c.args.p.now)) _ _ _ (shared_written at.After-emit_turn_shared (turn_written at.In_ok-emit_turn
    (end_written at.In_ok-emit_end))) c.in_err-emit_leave.ensures.kept in
    record {
      made = search rules;
      partly = partly;
      nodes = c.emit_leave.ensures.nodes ∙ c.emit_turn_shared.ensures.nodes ∙ c.emit_turn.ensures.nodes ∙ c.emit_end.ensures.nodes;
      others = partly_others _ _ _ partly;
      keeps = c.again_keeps.ensures.written (length c.args.rules.now.up) c.args.p.now c.requires;
    }

pub returns : goal.returns
returns c =
    let at = goal.at.returns c in
    let p = c.args.p.now in
    let hs = pairs_of p.guard_rails.items in
    let before = c.emit_leave.new.rules in
    let new = c.emit_branches.new.rules in
    let b = with_rules p.answer (leave_answer p.leave p.any hs) c.args.rules.now in
    let first : c.emit_end.new.rules ≡ b =
    c.in_ok-emit_end.ensures.made ∙ ap (λ ns. with_rules p.answer (leave_answer p.leave p.any (pairs_of ns)) c.args.rules.now) c.deref.ensures.value in
    let d = with_rules p.loop_request (turn_request p.request p.joined) b in
    let second : c.emit_turn.new.rules ≡ d = c.in_ok-emit_turn.ensures.made ∙ ap (with_rules p.loop_request (turn_request p.request p.joined)) first in
    let third : c.emit_turn_shared.new.rules ≡ with_owned (turn_shared p) d =
    c.in_ok-emit_turn_shared.ensures.made ∙ ap (with_owned (turn_shared p)) second in
    let fourth : before ≡ again_first p c.args.rules.now =
    c.in_ok-emit_leave.ensures.made ∙ ap (λ ns. with_rules p.leave (leave_latch p.loop_request (pairs_of ns)) c.emit_turn_shared.new.rules)
    c.deref-2.ensures.value
    ∙ ap (with_rules p.leave (leave_latch p.loop_request hs)) third in
    let made = of_three (λ ls ss rs. OnOk c.emit_branches.result (new ≡ with_owned (branches_owned p.loop_request ls ss (pairs_of rs)) before))
    c.deref-3.ensures.value c.deref-4.ensures.value c.deref-5.ensures.value c.emit_branches.ensures.made in
    let branches = of_three (λ ls ss rs. IsPartly (branches_owned p.loop_request ls ss (pairs_of rs)) before new) c.deref-3.ensures.value
    c.deref-4.ensures.value c.deref-5.ensures.value c.emit_branches.ensures.partly in
    let partly = partly_on _ _ _ _ (leave_written at.In_ok-emit_leave (shared_written at.After-emit_turn_shared (turn_written at.In_ok-emit_turn
    (end_written at.In_ok-emit_end))))
    (partly_of (again_branches p) (again_owned (again_of p)) _ _ (again_owns p c.requires.branches).branches branches) in
    record {
      made = on_ok_weaker c.emit_branches.result (again_made p c.args.rules.now before new c.requires.branches fourth) made;
      partly = partly;
      nodes = c.emit_branches.ensures.nodes ∙ c.emit_leave.ensures.nodes ∙ c.emit_turn_shared.ensures.nodes ∙ c.emit_turn.ensures.nodes ∙ c.emit_end.ensures.nodes;
      others = partly_others _ _ _ partly;
      keeps = c.again_keeps.ensures.written (length c.args.rules.now.up) p c.requires;
    }

pub emit_end-requires-clause-rails : goal.emit_end-requires-clause-rails
emit_end-requires-clause-rails c = lent_within _ _ c.args.p.now.guard_rails.items _ refl c.deref.ensures.value c.requires.rails

pub emit_end-requires-clause-pairs : goal.emit_end-requires-clause-pairs
emit_end-requires-clause-pairs c = (length c.args.p.now.latches.items, ap (λ (ns : List ℕ). length ns) c.deref.ensures.value ∙ c.requires.branches.railed)

pub emit_turn-requires-clause-node : goal.emit_turn-requires-clause-node
emit_turn-requires-clause-node c = below_still c.args.p.now.loop_request _ _ c.emit_end.ensures.nodes c.requires.loop_request

pub emit_turn-requires-clause-request : goal.emit_turn-requires-clause-request
emit_turn-requires-clause-request c = below_still c.args.p.now.request _ _ c.emit_end.ensures.nodes c.requires.request

pub emit_turn-requires-clause-joined : goal.emit_turn-requires-clause-joined
emit_turn-requires-clause-joined c = below_still c.args.p.now.joined _ _ c.emit_end.ensures.nodes c.requires.joined

pub emit_turn_shared-requires : goal.emit_turn_shared-requires
emit_turn_shared-requires c = subst (λ n. IsAgain n c.args.p.now) (sym (c.emit_turn.ensures.nodes ∙ c.emit_end.ensures.nodes)) c.requires

pub emit_leave-requires-clause-node : goal.emit_leave-requires-clause-node
emit_leave-requires-clause-node c = below_still c.args.p.now.leave _ _ (c.emit_turn_shared.ensures.nodes ∙ c.emit_turn.ensures.nodes ∙ c.emit_end.ensures.nodes)
    c.requires.leave

pub emit_leave-requires-clause-turn : goal.emit_leave-requires-clause-turn
emit_leave-requires-clause-turn c = below_still c.args.p.now.loop_request _ _ (c.emit_turn_shared.ensures.nodes ∙ c.emit_turn.ensures.nodes ∙ c.emit_end.ensures.nodes)
    c.requires.loop_request

pub emit_leave-requires-clause-rails : goal.emit_leave-requires-clause-rails
emit_leave-requires-clause-rails c = lent_within _ _ c.args.p.now.guard_rails.items _ (c.emit_turn_shared.ensures.nodes ∙ c.emit_turn.ensures.nodes ∙ c.emit_end.ensures.nodes)
    c.deref-2.ensures.value c.requires.rails

pub emit_leave-requires-clause-pairs : goal.emit_leave-requires-clause-pairs
emit_leave-requires-clause-pairs c = (
  length c.args.p.now.latches.items,
  ap (λ (ns : List ℕ). length ns) c.deref-2.ensures.value ∙ c.requires.branches.railed,
  some_latch _ _ _ _ c.requires.branches,
)

pub emit_branches-requires-clause-request : goal.emit_branches-requires-clause-request
emit_branches-requires-clause-request c = below_still c.args.p.now.loop_request _ _ (c.emit_leave.ensures.nodes ∙ c.emit_turn_shared.ensures.nodes ∙ c.emit_turn.ensures.nodes ∙ c.emit_end.ensures.nodes)
    c.requires.loop_request

pub emit_branches-requires-clause-latched : goal.emit_branches-requires-clause-latched
emit_branches-requires-clause-latched c = lent_within _ _ c.args.p.now.latches.items _ (c.emit_leave.ensures.nodes ∙ c.emit_turn_shared.ensures.nodes ∙ c.emit_turn.ensures.nodes ∙ c.emit_end.ensures.nodes)
    c.deref-3.ensures.value c.requires.latches

pub emit_branches-requires-clause-begun : goal.emit_branches-requires-clause-begun
emit_branches-requires-clause-begun c = lent_within _ _ c.args.p.now.starts.items _ (c.emit_leave.ensures.nodes ∙ c.emit_turn_shared.ensures.nodes ∙ c.emit_turn.ensures.nodes ∙ c.emit_end.ensures.nodes)
    c.deref-4.ensures.value c.requires.starts

pub emit_branches-requires-clause-rails : goal.emit_branches-requires-clause-rails
emit_branches-requires-clause-rails c = lent_within _ _ c.args.p.now.guard_rails.items _ (c.emit_leave.ensures.nodes ∙ c.emit_turn_shared.ensures.nodes ∙ c.emit_turn.ensures.nodes ∙ c.emit_end.ensures.nodes)
    c.deref-5.ensures.value c.requires.rails

pub emit_branches-requires-clause-agree : goal.emit_branches-requires-clause-agree
emit_branches-requires-clause-agree c = lent_same _ _ _ _ c.deref-4.ensures.value c.deref-3.ensures.value c.requires.branches.started

pub emit_branches-requires-clause-pairs : goal.emit_branches-requires-clause-pairs
emit_branches-requires-clause-pairs c = lent_twice _ _ _ _ c.deref-5.ensures.value c.deref-3.ensures.value c.requires.branches.railed
