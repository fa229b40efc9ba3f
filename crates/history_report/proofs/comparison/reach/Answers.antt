use Rattle.std.proofs.Common.{ℕ, ◌<◌, ◌≤◌, ◌∙◌, List, length, inl, inr, sym, subst, arith}
use Rattle.std.proofs.lemmas.Bool.{false≢true}
use Rattle.chp_meaning.specs.Ends.{seen}
use Rattle.history_report.proofs.Onward.{one_fewer_left, none_left}
use Rattle.history_report.proofs.comparison.reach.Goals as goal

pub loop-left-preserved-then-branch : goal.loop-left-preserved-then-branch
loop-left-preserved-then-branch c =
    let at = c.loop-left.invariant in
    let t = c.args.program.now in
    record {
      of = c.round.ensures.of;
      fewer = omega arith;
      made = one_fewer_left (seen t c.args.config.now) (seen t c.loop-left.config) (seen t c.round.new.config) c.args.left.now c.loop-left.left
          c.loop-left-test.true at.fewer at.made c.in_ok-round.ensures.round;
    }

pub loop-left-preserved : goal.loop-left-preserved
loop-left-preserved c =
    let at = c.loop-left.invariant in
    let t = c.args.program.now in
    record {
      of = c.round.ensures.of;
      fewer = omega arith;
      made = none_left (seen t c.args.config.now) (seen t c.loop-left.config) (seen t c.round.new.config) c.args.left.now c.loop-left.left
          at.fewer at.made c.in_ok-round.ensures.round (λ can. false≢true (sym c.if-branch.false ∙ c.in_ok-round.ensures.took.1 can));
    }

pub history-requires : goal.history-requires
history-requires c = subst (λ (n : ℕ). c.args.chan < n) (sym c.loop-left.invariant.of.channels) c.requires.within

pub returns-after-loop-left : goal.returns-after-loop-left
returns-after-loop-left c =
    let at = c.loop-left.invariant in
    record { of = at.of; fewer = at.fewer; made = at.made; enough = inl (omega arith) }

pub returns-else-history-wanted-clause-enough : goal.returns-else-history-wanted-clause-enough
returns-else-history-wanted-clause-enough c =
    inr (subst (λ (ys : List ℕ). c.args.wanted ≤ length ys) c.history.ensures c.if-history-wanted.false)
