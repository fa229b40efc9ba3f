use Rattle.std.specs.HashSet.{contains}
use Rattle.std.specs.Str.{bytes_eq}
use Rattle.std.proofs.lemmas.List.Elements.{All-nil, All-push}
use Rattle.chp_base.specs.Names.{IsName}
use Rattle.chp_syntax.specs.declared.tree.Decl.{Decl}
use Rattle.call_merge.proofs.OwnVars.{vars_begin, var_more, own_done}
use Rattle.call_merge.proofs.own_vars.vars_for.Goals as goal

pub loop-target-init : goal.loop-target-init
loop-target-init c = record {
  so_far = rw c.new-vars.ensures.items (vars_begin c.args.decls.now c.args.names.items (λ n. contains bytes_eq c.in_ok-taken.taken n) c.in_ok-taken.ensures);
  named = rw c.new-vars.ensures.items (All-nil (λ (d : Decl). IsName d.name.name));
}

pub loop-target-preserved : goal.loop-target-preserved
loop-target-preserved c = record {
  so_far = var_more c.args.decls.now c.args.names.items c.args.targets.now c.loop-target.target-index c.target-item.result
      (λ n. contains bytes_eq c.loop-target.taken n) (λ n. contains bytes_eq c.insert.new.self n) c.loop-target.from c.loop-target.vars.items _
      c.own_var.result c.in_ok-free.free.name c.in_ok-free.free.number c.loop-target-test.true c.target-item.is c.loop-target.invariant.so_far
      c.in_ok-free.free.numbered c.in_ok-free.ensures.free c.in_ok-free.ensures.least (rw c.in_ok-copy.ensures at c.in_ok-insert.ensures.updates.0)
      c.own_var.ensures c.in_ok-push.ensures.items;
  named = rw c.in_ok-push.ensures.items (All-push (λ (d : Decl). IsName d.name.name) c.loop-target.vars.items c.own_var.result c.loop-target.invariant.named
      (rw c.own_var.ensures c.in_ok-free.free.is_name));
}

pub returns-clause-own : goal.returns-clause-own
returns-clause-own c = own_done c.args.decls.now c.args.names.items c.args.targets.now c.loop-target.target-index
    (λ n. contains bytes_eq c.loop-target.taken n) c.loop-target.from c.loop-target.vars.items c.loop-target-test.false c.loop-target.invariant.so_far
