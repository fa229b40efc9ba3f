use Rattle.std.proofs.Common.{length, sym, subst, ◌∙◌, rules}
use Rattle.prs_core.specs.Nets.{RulesValue, IsAlone}
use Rattle.prs_core.specs.Partly.{then_none}
use Rattle.cell_select.specs.PortNodes.{pairs_of}
use Rattle.cell_select.proofs.GuardLemmas.{only_within, one_within, within_still}
use Rattle.cell_select.proofs.Lent.{below_still}
use Rattle.cell_select.proofs.Emitted.{latch_at, latches_begin, latches_step}
use Rattle.cell_select.proofs.emit.emit_latches.Goals as goal

pub set_both-requires-clause-up : goal.set_both-requires-clause-up
set_both-requires-clause-up c =
    only_within (length c.loop-guard.rules.up) (length c.args.nodes.now) c.loop-guard.guard c.args.rails.now _ c.only_true-up.ensures c.requires.agree
    c.loop-guard-test.true (within_still (length c.args.rules.now.up) (length c.loop-guard.rules.up) c.args.rails.now c.loop-guard.invariant.count
    c.requires.rails)

pub set_both-requires-clause-down : goal.set_both-requires-clause-down
set_both-requires-clause-down c = one_within (length c.loop-guard.rules.up) _ _ _ c.all_of-down.ensures c.low.ensures
    (below_still c.args.request _ _ c.loop-guard.invariant.count c.requires.request)

pub loop-guard-preserved : goal.loop-guard-preserved
loop-guard-preserved c =
    latches_step c.args.request c.args.nodes.now c.args.rails.now c.loop-guard.guard c.args.rules.now c.loop-guard.rules c.set_both.new.rules
    c.requires.agree c.loop-guard-test.true c.loop-guard.invariant
    (c.in_ok-set_both.ensures.made (latch_at c.args.request c.args.rails.now c.loop-guard.guard) c.only_true-up.ensures
    (rw c.low.ensures at c.all_of-down.ensures)) c.set_both.ensures.nodes c.set_both.ensures.others

pub loop-guard-init : goal.loop-guard-init
loop-guard-init c = latches_begin c.args.request c.args.nodes.now (pairs_of c.args.rails.now) c.args.rules.now

pub returns-in_err-set_both : goal.returns-in_err-set_both
returns-in_err-set_both c = record {
  made = search rules;
  partly = then_none _ _ _ _ c.loop-guard.invariant.partly c.in_err-set_both.ensures.kept;
  nodes = c.set_both.ensures.nodes ∙ c.loop-guard.invariant.count;
  others = λ other h. subst (λ (r : RulesValue). IsAlone c.args.rules.now r other) (sym c.in_err-set_both.ensures.kept)
      (c.loop-guard.invariant.others other h);
}
