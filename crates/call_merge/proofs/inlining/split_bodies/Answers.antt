use Rattle.std.proofs.Common.{List, length, ap, ◌∙◌, arith}
use Rattle.chp_syntax.specs.declared.tree.Decl.{Decl}
use Rattle.chp_syntax.specs.View.{program_tree}
use Rattle.call_merge.specs.CallSplits.{all_own_readers, all_names, own_names, split_procedures}
use Rattle.call_merge.proofs.Whole.{names_apart, in_order, own_counted}
use Rattle.call_merge.proofs.inlining.split_bodies.Goals as goal

pub names_of-requires-clause-distinct : goal.names_of-requires-clause-distinct
names_of-requires-clause-distinct c = names_apart c.args.program.now c.deref-3.result.now c.deref-3.ensures.value c.requires.meets.named.0

pub split_procedures-requires-clause-room : goal.split_procedures-requires-clause-room
split_procedures-requires-clause-room c =
    let p = program_tree c.args.program.now in
    let same = own_counted p.decls (all_names p) (all_own_readers p) c.in_ok-vars.vars.items c.in_ok-vars.ensures.own in
    let lent = ap length c.deref-2.ensures.value in
    omega (arith, same, lent)

pub invariant_of-result : goal.invariant_of-result
invariant_of-result c = record {
  in_order = in_order c.args.program.now.decls.items (own_names c.deref-2.result.now) c.deref-3.result.now c.args.program.now.procs.items
      c.in_ok-bodies.bodies.items c.in_ok-names.names c.deref-3.ensures.value c.in_ok-names.ensures c.in_ok-bodies.ensures;
}

pub returns-clause-bodies : goal.returns-clause-bodies
returns-clause-bodies c = c.in_ok-bodies.ensures
    ∙ ap (λ (vs : List Decl). split_procedures c.args.program.now.decls.items (own_names vs) 0 (program_tree c.args.program.now).procs) c.deref-2.ensures.value
