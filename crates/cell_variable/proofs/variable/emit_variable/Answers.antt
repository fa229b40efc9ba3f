use Rattle.std.proofs.lemmas.Result.{on_ok_weaker}
use Rattle.cell_variable.proofs.Filled.{filled_begin, filled_more, filled_alone, filled_partly, filled_fits, filled_end}
use Rattle.cell_variable.proofs.variable.emit_variable.Goals as goal

pub loop-place-init : goal.loop-place-init
loop-place-init c = filled_begin c.args.width c.args.from c.args.rules.now c.new-leaves.result.items c.new-leaves.ensures.items

pub emit_bit-requires : goal.emit_bit-requires
emit_bit-requires c = filled_fits c.args.width c.args.from c.args.rules.now _ _ _ _ c.loop-place.invariant c.requires.own c.loop-place-test.true

pub returns-in_err-emit_bit-clause-others : goal.returns-in_err-emit_bit-clause-others
returns-in_err-emit_bit-clause-others c =
    filled_alone c.args.width c.args.from c.args.rules.now _ _ _ _ _ c.loop-place.invariant c.loop-place-test.true c.emit_bit.ensures.others

pub returns-in_err-push-clause-others : goal.returns-in_err-push-clause-others
returns-in_err-push-clause-others c = filled_alone c.args.width c.args.from c.args.rules.now _ _ _ _ _ c.loop-place.invariant c.loop-place-test.true
    c.emit_bit.ensures.others

pub loop-place-preserved : goal.loop-place-preserved
loop-place-preserved c = filled_more c.args.width c.args.from c.args.rules.now _ _ _ _ _ _ c.loop-place.invariant c.loop-place-test.true
    c.in_ok-push.ensures.items c.in_ok-emit_bit.ensures.made c.emit_bit.ensures.nodes c.emit_bit.ensures.others

pub emit_tree-requires-clause-leaves : goal.emit_tree-requires-clause-leaves
emit_tree-requires-clause-leaves c = (filled_end c.args.width c.args.from c.args.rules.now _ _ _ c.deref.result.now _ c.loop-place.invariant
    c.loop-place-test.false c.requires.own c.requires.some c.deref.ensures.value).within

pub emit_tree-requires-clause-own : goal.emit_tree-requires-clause-own
emit_tree-requires-clause-own c = (filled_end c.args.width c.args.from c.args.rules.now _ _ _ c.deref.result.now _ c.loop-place.invariant
    c.loop-place-test.false c.requires.own c.requires.some c.deref.ensures.value).room

pub returns-clause-made : goal.returns-clause-made
returns-clause-made c = on_ok_weaker c.emit_tree.result
    ((filled_end c.args.width c.args.from c.args.rules.now _ _ _ c.deref.result.now _ c.loop-place.invariant c.loop-place-test.false c.requires.own
    c.requires.some c.deref.ensures.value).made c.emit_tree.new.rules) c.emit_tree.ensures.made

pub returns-clause-others : goal.returns-clause-others
returns-clause-others c = (filled_end c.args.width c.args.from c.args.rules.now _ _ _ c.deref.result.now _ c.loop-place.invariant c.loop-place-test.false
    c.requires.own c.requires.some c.deref.ensures.value).others c.emit_tree.new.rules c.emit_tree.ensures.others

pub returns-in_err-emit_bit-clause-partly : goal.returns-in_err-emit_bit-clause-partly
returns-in_err-emit_bit-clause-partly c =
    filled_partly c.args.width c.args.from c.args.rules.now _ _ _ _ _ c.loop-place.invariant c.loop-place-test.true c.emit_bit.ensures.partly

pub returns-in_err-push-clause-partly : goal.returns-in_err-push-clause-partly
returns-in_err-push-clause-partly c = filled_partly c.args.width c.args.from c.args.rules.now _ _ _ _ _ c.loop-place.invariant c.loop-place-test.true
    c.emit_bit.ensures.partly

pub returns-clause-partly : goal.returns-clause-partly
returns-clause-partly c = (filled_end c.args.width c.args.from c.args.rules.now _ _ _ c.deref.result.now _ c.loop-place.invariant c.loop-place-test.false
    c.requires.own c.requires.some c.deref.ensures.value).partly c.emit_tree.new.rules c.emit_tree.ensures.partly

pub returns-in_err-emit_bit-clause-keeps : goal.returns-in_err-emit_bit-clause-keeps
returns-in_err-emit_bit-clause-keeps c = c.variable_keeps.ensures.variable c.args.width c.args.from c.requires.some

pub returns-in_err-push-clause-keeps : goal.returns-in_err-push-clause-keeps
returns-in_err-push-clause-keeps c = c.variable_keeps.ensures.variable c.args.width c.args.from c.requires.some

pub returns-clause-keeps : goal.returns-clause-keeps
returns-clause-keeps c = c.variable_keeps.ensures.variable c.args.width c.args.from c.requires.some
