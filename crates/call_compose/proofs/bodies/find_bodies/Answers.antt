use Rattle.std.proofs.Common.{◌≡◌, length, map, sym, ap, ◌∙◌, arith, Bor}
use Rattle.std.proofs.lemmas.List.{length-map}
use Rattle.chp_syntax.specs.View.{program_tree}
use Rattle.width_check.specs.declared.typed.TStmt.{TStmt}
use Rattle.width_check.specs.Typed.{program_of}
use Rattle.width_check.specs.View.{process_of}
use Rattle.call_compose.proofs.Noting.{names_counted, seen_through, lent_back, bodies_found}
use Rattle.call_compose.proofs.bodies.find_bodies.Goals as goal

pub note_bodies-requires : goal.note_bodies-requires
note_bodies-requires c =
    omega (
      arith,
      names_counted c.args.names.now c.args.program.now.procs.items c.requires,
      ap length c.deref_mut.ensures.value,
      ap length c.deref-procedure-items.ensures.value,
      c.loop-procedure.invariant,
      c.loop-procedure-test.false,
      c.loop-procedure.auto._procedure-index-end,
    )

pub returns : goal.returns
returns c = λ h.
    let new = c.note_bodies.new.bodies in
    let kept : length new ≡ length c.deref_mut.result.now = c.note_bodies.auto.bodies in
    let value = ap length c.deref_mut.ensures.value in
    let back = lent_back c.loop-procedure.bodies.len new c.loop-procedure.bodies.items (kept ∙ value) (sym c.deref_mut.ensures.len ∙ value) in
    let long : length (map (λ (b : Bor TStmt). b.now) new) ≡ length c.args.names.now =
    length-map new (λ (b : Bor TStmt). b.now) ∙ omega (
      arith,
      kept,
      value,
      names_counted c.args.names.now c.args.program.now.procs.items c.requires,
      ap length c.deref-procedure-items.ensures.value,
      c.loop-procedure.invariant,
      c.loop-procedure-test.false,
      c.loop-procedure.auto._procedure-index-end,
    ) in
    ap (map (λ (b : Bor TStmt). process_of b.now)) back
    ∙ (seen_through new ∙ bodies_found (program_tree c.args.program.now) (program_of c.args.inlined.now) h c.args.names.now
    (process_of c.body-body.result.now) _ (map (λ (b : Bor TStmt). b.now) new) c.calls_typed.ensures c.calls_meant.ensures c.requires
    (ap process_of c.body-body.ensures.body) long c.note_bodies.ensures)
