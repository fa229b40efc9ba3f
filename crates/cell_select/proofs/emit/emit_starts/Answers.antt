use Rattle.std.proofs.Common.{length, slice_index_or, arith, sym, subst, ◌∙◌, rules}
use Rattle.prs_core.specs.Nets.{RulesValue, IsAlone}
use Rattle.prs_core.specs.Partly.{then_none}
use Rattle.cell_select.specs.PortNodes.{pairs_of}
use Rattle.cell_select.proofs.GuardLemmas.{with_lows_within, one_within, within_still}
use Rattle.cell_select.proofs.Emitted.{start_at, starts_begin, starts_step}
use Rattle.cell_select.proofs.emit.emit_starts.Goals as goal

pub set_both-requires-clause-up : goal.set_both-requires-clause-up
set_both-requires-clause-up c =
    with_lows_within (length c.loop-branch.rules.up) _ _ c.args.rails.now _ c.with_lows-up.ensures c.high.ensures
    (within_still (length c.args.rules.now.up) (length c.loop-branch.rules.up) c.args.latched.now c.loop-branch.invariant.count c.requires.latched
    c.loop-branch.branch 0 (omega (arith, c.loop-branch-test.true, c.requires.agree)))
    (within_still (length c.args.rules.now.up) (length c.loop-branch.rules.up) c.args.rails.now c.loop-branch.invariant.count c.requires.rails)

pub set_both-requires-clause-down : goal.set_both-requires-clause-down
set_both-requires-clause-down c =
    one_within (length c.loop-branch.rules.up) _ _ _ c.all_of-down.ensures c.low.ensures
    (within_still (length c.args.rules.now.up) (length c.loop-branch.rules.up) c.args.latched.now c.loop-branch.invariant.count c.requires.latched
    c.loop-branch.branch 0 (omega (arith, c.loop-branch-test.true, c.requires.agree)))

pub loop-branch-preserved : goal.loop-branch-preserved
loop-branch-preserved c =
    starts_step c.args.nodes.now c.args.latched.now c.args.rails.now c.loop-branch.branch c.args.rules.now c.loop-branch.rules c.set_both.new.rules
    c.requires.pairs c.requires.agree c.loop-branch-test.true c.loop-branch.invariant
    (c.in_ok-set_both.ensures.made (start_at (slice_index_or c.args.latched.now c.loop-branch.branch 0) c.args.rails.now)
    (rw c.high.ensures at c.with_lows-up.ensures) (rw c.low.ensures at c.all_of-down.ensures)) c.set_both.ensures.nodes c.set_both.ensures.others

pub loop-branch-init : goal.loop-branch-init
loop-branch-init c = starts_begin c.args.nodes.now c.args.latched.now (pairs_of c.args.rails.now) c.args.rules.now

pub returns-in_err-set_both : goal.returns-in_err-set_both
returns-in_err-set_both c = record {
  made = search rules;
  partly = then_none _ _ _ _ c.loop-branch.invariant.partly c.in_err-set_both.ensures.kept;
  nodes = c.set_both.ensures.nodes ∙ c.loop-branch.invariant.count;
  others = λ other h. subst (λ (r : RulesValue). IsAlone c.args.rules.now r other) (sym c.in_err-set_both.ensures.kept)
      (c.loop-branch.invariant.others other h);
}
