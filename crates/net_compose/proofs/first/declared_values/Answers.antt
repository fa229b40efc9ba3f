use Rattle.std.proofs.Common.{◌<◌, ◌∙◌, false, length, ap, subst, arith}
use Rattle.std.specs.Prelude.{replicate}
use Rattle.std.proofs.lemmas.List.{length-replicate}
use Rattle.width_check.specs.Typed.{program_of}
use Rattle.net_compose.specs.Translation.{vars_high}
use Rattle.net_compose.proofs.Raised.{with_raised}
use Rattle.net_compose.proofs.DeclaredRules.{var_start, var_starts}
use Rattle.net_compose.proofs.Composed.{high_step, high_end, high_room, high_wrote, written_over}
use Rattle.net_compose.proofs.first.declared_values.Goals as goal

pub loop-var-init : goal.loop-var-init
loop-var-init c =
    let p = program_of c.args.program.now in
    record {
      values = ap (λ xs. with_raised xs (vars_high p 0 c.vars-vars.result.now)) c.in_ok-first.ensures
          ∙ ap (λ vs. with_raised (replicate c.args.count false) (vars_high p 0 vs)) c.vars-vars.ensures;
      count = ap length c.in_ok-first.ensures ∙ length-replicate c.args.count false;
    }

pub bounds-firsts-var : goal.bounds-firsts-var
bounds-firsts-var c =
    let n = var_starts (program_of c.args.program.now) c.args.firsts.now c.requires.firsts in
    omega (arith, n, c.loop-var-test.true, ap length c.vars-vars.ensures)

pub raise-requires-clause-room : goal.raise-requires-clause-room
raise-requires-clause-room c =
    let p = program_of c.args.program.now in
    let room = high_room p c.vars-vars.result.now c.loop-var.var _ c.index-vars-var.result c.vars-vars.ensures c.loop-var-test.true c.index-vars-var.is
    (var_start p c.args.firsts.now c.loop-var.var 0 c.requires.firsts (subst (λ vs. c.loop-var.var < length vs) c.vars-vars.ensures c.loop-var-test.true)) in
    omega (arith, room, ap length c.deref_mut.ensures.value, c.loop-var.invariant.count, c.requires.room)

pub loop-var-preserved : goal.loop-var-preserved
loop-var-preserved c =
    let p = program_of c.args.program.now in
    let start = var_start p c.args.firsts.now c.loop-var.var 0 c.requires.firsts (subst (λ vs. c.loop-var.var < length vs) c.vars-vars.ensures
    c.loop-var-test.true) in
    let over = written_over c.raise.new.first c.loop-var.first.items c.loop-var.first.len (omega
    (arith, c.raise.ensures.count, ap length c.deref_mut.ensures.value, c.loop-var.first.ok.0)) in
    record {
      values = high_step p c.vars-vars.result.now c.loop-var.var c.index-vars-var.result c.loop-var.first.items _ _ c.loop-var-test.true c.index-vars-var.is
          (over ∙ high_wrote p c.index-vars-var.result _ c.loop-var.var c.loop-var.first.items c.deref_mut.result.now c.raise.new.first start
          c.deref_mut.ensures.value c.raise.ensures.raised)
          c.loop-var.invariant.values;
      count = ap length over ∙ (c.raise.ensures.count ∙ (ap length c.deref_mut.ensures.value ∙ c.loop-var.invariant.count));
    }

pub returns-clause-values : goal.returns-clause-values
returns-clause-values c = high_end (program_of c.args.program.now) c.vars-vars.result.now c.loop-var.var c.loop-var.first.items _ (omega
    (arith, c.loop-var-test.false)) c.loop-var.invariant.values
