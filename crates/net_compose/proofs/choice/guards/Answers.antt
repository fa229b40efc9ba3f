use Rattle.std.proofs.Common.{◌≡◌, ◌+◌, ◌-◌, ℕ, List, ◌++◌, length, drop, refl, sym, ap, ◌∙◌, arith}
use Rattle.std.proofs.lemmas.List.{length-append}
use Rattle.prs_core.specs.Nets.{NodeRules}
use Rattle.width_check.specs.Processes.{Formula, TypedProgram}
use Rattle.width_check.specs.Typed.{program_of}
use Rattle.width_check.specs.View.{formula_of, choices_in}
use Rattle.handshake_expand.specs.Layout.{formula_size}
use Rattle.handshake_expand.proofs.Branches.{sites_more, sites_done}
use Rattle.function_blocks.specs.Expressions.{formula_rules, formula_result}
use Rattle.net_compose.specs.Translation.{bits_at, guard_pairs, guards_rules}
use Rattle.net_compose.proofs.Sizes.{has_bits}
use Rattle.net_compose.proofs.GuardsWritten.{guard_size_here, guard_typed}
use Rattle.net_compose.proofs.RulesInTurn.{guard_rules_here, guard_pairs_here, guard_rules_end, guard_pairs_end}
use Rattle.net_compose.proofs.choice.guards.Goals as goal

pub loop-arm-init : goal.loop-arm-init
loop-arm-init c = record {
  made = refl;
  bits = ap (λ ns. ns ++ guard_pairs (choices_in c.args.arms.now) c.args.from) c.new-bits.ensures.items;
  size = refl;
  formed = c.requires.choices;
}

-- the drivers of a guard are as many as the layout counts
guard_counted : (p : TypedProgram) (e : Formula) (request from : ℕ) (now new : List NodeRules) → length (formula_rules (bits_at p) e request from)
    ≡ formula_size e → new ≡ now ++ formula_rules (bits_at p) e request from → length new ≡ length now + formula_size e
guard_counted p e request from now new counted made = omega (arith, ap length made, length-append now (formula_rules (bits_at p) e request from), counted)

pub formula-requires-clause-formed : goal.formula-requires-clause-formed
formula-requires-clause-formed c =
    (guard_typed (program_of c.args.program.now) c.args.arms.now c.loop-arm.arm-index _ c.loop-arm-test.true c.arm-item.is _ _
    c.loop-arm.invariant.formed).0.formed

pub formula-requires-clause-reads : goal.formula-requires-clause-reads
formula-requires-clause-reads c =
    (guard_typed (program_of c.args.program.now) c.args.arms.now c.loop-arm.arm-index _ c.loop-arm-test.true c.arm-item.is _ _
    c.loop-arm.invariant.formed).0.reads

pub formula-requires-clause-room : goal.formula-requires-clause-room
formula-requires-clause-room c =
    let size = guard_size_here (program_of c.args.program.now) c.args.arms.now c.loop-arm.arm-index _ c.loop-arm-test.true c.arm-item.is in
    omega (arith, size, c.loop-arm.invariant.size, c.requires.room)

pub overflow_cast-next : goal.overflow_cast-next
overflow_cast-next c =
    let p = program_of c.args.program.now in
    let e = formula_of c.arm-item.result.guard in
    let whole = guard_size_here p c.args.arms.now c.loop-arm.arm-index _ c.loop-arm-test.true c.arm-item.is in
    let typed = (guard_typed p c.args.arms.now c.loop-arm.arm-index _ c.loop-arm-test.true c.arm-item.is _ _ c.loop-arm.invariant.formed).0 in
    let counted = guard_counted p e c.args.request c.loop-arm.next c.loop-arm.drivers.items c.formula.new.drivers.items
    (c.rules_counted.ensures p.vars (bits_at p) (has_bits p) e c.args.request c.loop-arm.next typed.formed typed.reads) c.in_ok-bit.ensures.made in
    omega (arith, whole, counted, c.len.ensures, c.len-begun.ensures, c.loop-arm.invariant.size, c.requires.room)

pub overflow_add-next : goal.overflow_add-next
overflow_add-next c =
    let p = program_of c.args.program.now in
    let e = formula_of c.arm-item.result.guard in
    let whole = guard_size_here p c.args.arms.now c.loop-arm.arm-index _ c.loop-arm-test.true c.arm-item.is in
    let typed = (guard_typed p c.args.arms.now c.loop-arm.arm-index _ c.loop-arm-test.true c.arm-item.is _ _ c.loop-arm.invariant.formed).0 in
    let counted = guard_counted p e c.args.request c.loop-arm.next c.loop-arm.drivers.items c.formula.new.drivers.items
    (c.rules_counted.ensures p.vars (bits_at p) (has_bits p) e c.args.request c.loop-arm.next typed.formed typed.reads) c.in_ok-bit.ensures.made in
    omega (arith, whole, counted, c.len.ensures, c.len-begun.ensures, c.loop-arm.invariant.size, c.requires.room)

pub loop-arm-preserved : goal.loop-arm-preserved
loop-arm-preserved c =
    let p = program_of c.args.program.now in
    let arms = c.args.arms.now in
    let i = c.loop-arm.arm-index in
    let a = c.arm-item.result in
    let e = formula_of a.guard in
    let next = c.loop-arm.next in
    let behind = choices_in (drop (i + 1) arms) in
    let whole = guard_size_here p arms i a c.loop-arm-test.true c.arm-item.is in
    let typed = guard_typed p arms i a c.loop-arm-test.true c.arm-item.is _ _ c.loop-arm.invariant.formed in
    let counted = guard_counted p e c.args.request next c.loop-arm.drivers.items c.formula.new.drivers.items
    (c.rules_counted.ensures p.vars (bits_at p) (has_bits p) e c.args.request next typed.0.formed typed.0.reads) c.in_ok-bit.ensures.made in
    let at : next + (c.len.result - c.len-begun.result) ≡ next + formula_size e = omega (arith, counted, c.len.ensures, c.len-begun.ensures) in
    record {
      made = sites_more c.loop-arm.drivers.items _ (formula_rules (bits_at p) e c.args.request next) _ _ _ c.in_ok-bit.ensures.made
          (guard_rules_here p arms i a c.loop-arm-test.true c.arm-item.is c.args.request next
          ∙ ap (λ n. formula_rules (bits_at p) e c.args.request next ++ guards_rules p behind c.args.request n) (sym at))
          c.loop-arm.invariant.made;
      bits = sites_more c.loop-arm.bits.items _ (formula_result e next) _ _ _
          (c.in_ok-extend_from_slice.ensures.items ∙ ap (λ xs. c.loop-arm.bits.items ++ xs) (c.deref.ensures.value ∙ c.in_ok-bit.ensures.bits))
          (guard_pairs_here p arms i a c.loop-arm-test.true c.arm-item.is next
          ∙ ap (λ n. formula_result e next ++ guard_pairs behind n) (sym at))
          c.loop-arm.invariant.bits;
      size = omega (arith, whole, at, c.loop-arm.invariant.size);
      formed = typed.1;
    }

pub returns-clause-made : goal.returns-clause-made
returns-clause-made c = sites_done c.loop-arm.drivers.items _ _
    (guard_rules_end (program_of c.args.program.now) c.args.arms.now c.loop-arm.arm-index c.loop-arm-test.false c.args.request c.loop-arm.next)
    c.loop-arm.invariant.made

pub returns-clause-bits : goal.returns-clause-bits
returns-clause-bits c = sites_done c.loop-arm.bits.items _ _
    (guard_pairs_end (program_of c.args.program.now) c.args.arms.now c.loop-arm.arm-index c.loop-arm-test.false c.loop-arm.next)
    c.loop-arm.invariant.bits
