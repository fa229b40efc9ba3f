use Rattle.std.proofs.Common.{drop}
use Rattle.chp_syntax.proofs.Steps.{exit}
use Rattle.chp_syntax.proofs.Programs.{declaring_start, declaring_bad, declaring_more, declaring_end}
use Rattle.chp_syntax.proofs.parser.program.declarations.Goals as goal

pub loop-alloc-init : goal.loop-alloc-init
loop-alloc-init c = record {
  within = c.requires;
  read = rw (c.new.ensures.items, c.new-2.ensures.items) (declaring_start (drop c.args.at.now c.args.tokens.now));
}

pub returns-in_err-item-clause-bad : goal.returns-in_err-item-clause-bad
returns-in_err-item-clause-bad c =
    exit c.from_residual.result c.in_err-item.field-0.0 c.from_residual.ensures.1 (declaring_bad c.loop-alloc.invariant.read c.loop-alloc-test.ensures.some)
    c.in_err-item.ensures.bad

pub loop-alloc-preserved : goal.loop-alloc-preserved
loop-alloc-preserved c = record {
  within = c.in_ok-item.ensures.within;
  read = rw c.in_ok-add.ensures.done (declaring_more c.loop-alloc.invariant.read c.loop-alloc-test.ensures.some c.in_ok-item.ensures.good);
}

pub returns-clause-good : goal.returns-clause-good
returns-clause-good c = declaring_end c.loop-alloc.invariant.read c.loop-alloc-test.ensures.none
