use Rattle.std.proofs.Common.{◌≡◌, suc, ◌-◌, sym, ap, subst, ◌∙◌, arith}
use Rattle.width_check.specs.Processes.{Process}
use Rattle.width_check.specs.Typed.{program_of}
use Rattle.width_check.specs.Typing.{IsProcess, AreChoices}
use Rattle.width_check.specs.View.{process_of, choices_in}
use Rattle.handshake_expand.specs.Layout.{capped}
use Rattle.handshake_expand.proofs.Rows.{select_is}
use Rattle.round_time.specs.Longest.{first}
use Rattle.round_time.specs.Phases.{phase}
use Rattle.pace_bound.proofs.Members.{first_some}
use Rattle.pace_bound.proofs.Whole.{first_whole}
use Rattle.pace_bound.proofs.phase.step_moves.Goals as goal

pub selection_moves-requires-clause-arms : goal.selection_moves-requires-clause-arms
selection_moves-requires-clause-arms c =
    let facts = subst (λ (s : Process). IsProcess c.args.program.now.channels c.args.program.now.vars s) (select_is _ _ _ c.in-Select.is) c.requires.process in
    subst (λ l. AreChoices c.args.program.now.channels c.args.program.now.vars (choices_in l)) (sym c.deref.ensures.value) facts.2

pub returns-in-Select : goal.returns-in-Select
returns-in-Select c =
    let P = program_of c.args.program.now in
    rw c.deref.ensures.value at c.selection_moves.ensures ∙ ap (λ p. capped (suc (phase P p))) (sym (select_is _ _ _ c.in-Select.is))

pub returns-in-Repeat : goal.returns-in-Repeat
returns-in-Repeat c =
    let P = program_of c.args.program.now in
    let p = process_of c.in-Repeat.body.value in
    let some = first_some P p in
    let own : c.first.result ≡ capped (first P p) = rw c.deref-in-Repeat.ensures at c.first.ensures ∙ ap capped (first_whole P p) in
    let phase_is : suc (first P p - 1) ≡ suc (phase P (process_of c.args.s.now)) = ap (λ s. suc (phase P (process_of s))) (sym c.in-Repeat.is) in
    omega (arith, some, own, phase_is)
