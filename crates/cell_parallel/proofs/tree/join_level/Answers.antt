use Rattle.std.proofs.Common.{arith, refl}
use Rattle.cell_parallel.proofs.Levels.{joined_step, joined_alone, joined_before, joined_after}
use Rattle.cell_parallel.proofs.tree.join_level.Goals as goal

pub loop-left-preserved : goal.loop-left-preserved
loop-left-preserved c =
    joined_step c.args.nodes.now c.args.from c.args.rules.now _ _ _ _ _ _ _ c.loop-left.invariant c.in-len2-up.len_at_least refl
    (omega (arith, c.len.ensures, c.loop-left.above.ok)) c.in_ok-push.ensures.items c.in_ok-emit_c_element.ensures.made c.emit_c_element.ensures.nodes
    c.emit_c_element.ensures.others

pub returns-in_err-emit_c_element-clause-others : goal.returns-in_err-emit_c_element-clause-others
returns-in_err-emit_c_element-clause-others c =
    joined_alone c.args.nodes.now c.args.from c.args.rules.now _ _ _ _ _ c.loop-left.invariant c.in-len2-up.len_at_least
    (omega (arith, c.len.ensures, c.loop-left.above.ok)) c.emit_c_element.ensures.others

pub returns-in_err-push-clause-others : goal.returns-in_err-push-clause-others
returns-in_err-push-clause-others c =
    joined_alone c.args.nodes.now c.args.from c.args.rules.now _ _ _ _ _ c.loop-left.invariant c.in-len2-up.len_at_least
    (omega (arith, c.len.ensures, c.loop-left.above.ok)) c.emit_c_element.ensures.others

pub returns-in_err-emit_c_element-clause-partly : goal.returns-in_err-emit_c_element-clause-partly
returns-in_err-emit_c_element-clause-partly c =
    joined_before c.args.nodes.now c.args.from c.args.rules.now _ _ _ _ c.loop-left.invariant c.in_err-emit_c_element.ensures.kept

pub returns-in_err-push-clause-partly : goal.returns-in_err-push-clause-partly
returns-in_err-push-clause-partly c =
    joined_after c.args.nodes.now c.args.from c.args.rules.now _ _ _ _ _ c.loop-left.invariant c.in-len2-up.len_at_least
    (omega (arith, c.len.ensures, c.loop-left.above.ok)) c.in_ok-emit_c_element.ensures.made
