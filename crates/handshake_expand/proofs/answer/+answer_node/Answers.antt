use Rattle.std.proofs.Common.{◌≡◌, ◌+◌, ◌-◌, ◌<◌, length, get_or, drop, ap, sym, ◌∙◌, rules, arith}
use Rattle.std.proofs.lemmas.List.{get_or_read}
use Rattle.width_check.specs.declared.typed.TStmt.{the_lemmas}
use Rattle.width_check.specs.Typed.{program_of}
use Rattle.width_check.specs.View.{process_of, members_in}
use Rattle.handshake_expand.specs.Answers.{answer_of, turn_answer}
use Rattle.handshake_expand.specs.Layout.{size_of}
use Rattle.handshake_expand.proofs.Rows.{then_is}
use Rattle.handshake_expand.proofs.Turns.{turn_typed, this_typed, size_here, size_last, answer_here, answer_last}
use Rattle.handshake_expand.proofs.answer.+answer_node.Goals as goal

pub overflow_sub-last : goal.overflow_sub-last
overflow_sub-last t c =
    let typed = turn_typed _ _ _ c.in-Then.parts c.in-Then.is c.requires.process in
    omega (arith, typed.0, c.len-last.ensures, c.in-Then.parts.ok.0)

pub loop-place-init : goal.loop-place-init
loop-place-init t c =
    let p = program_of c.args.program.now in
    let is = then_is _ _ c.in-Then.is in
    record {
      answer = sym (ap (λ s. answer_of p s c.args.from) is);
      room = omega (arith, c.requires.room, ap (size_of p) is);
      formed = (turn_typed _ _ _ c.in-Then.parts c.in-Then.is c.requires.process).1;
    }

pub overflow_add-next : goal.overflow_add-next
overflow_add-next t c =
    let size = size_here (program_of c.args.program.now) c.in-Then.parts.items c.loop-place.place c.index.result.now c.index.ensures
    (omega (arith, c.in-Then.parts.ok.0)) in
    omega (arith, size, c.loop-place.invariant.room, c.statement_nodes.ensures)

pub overflow_add-next-in-loop-place : goal.overflow_add-next-in-loop-place
overflow_add-next-in-loop-place t c =
    let size = size_here (program_of c.args.program.now) c.in-Then.parts.items c.loop-place.place c.index.result.now c.index.ensures
    (omega (arith, c.in-Then.parts.ok.0)) in
    omega (arith, size, c.loop-place.invariant.room, c.statement_nodes.ensures)

pub loop-place-preserved : goal.loop-place-preserved
loop-place-preserved t c =
    let p = program_of c.args.program.now in
    let items = c.in-Then.parts.items in
    let i = c.loop-place.place in
    let within : i + 1 < length items = omega (arith, c.in-Then.parts.ok.0) in
    let size = size_here p items i c.index.result.now c.index.ensures within in
    let next : c.loop-place.next + (3 + c.statement_nodes.result) ≡ c.loop-place.next + 3 + size_of p (process_of c.index.result.now) =
    omega (arith, size, c.loop-place.invariant.room, c.statement_nodes.ensures) in
    record {
      answer = ap (turn_answer p (members_in (drop (i + 1) items))) next
          ∙ (sym (answer_here p items i c.index.result.now c.index.ensures c.loop-place.next within) ∙ c.loop-place.invariant.answer);
      room = omega (arith, size, next, c.loop-place.invariant.room);
      formed = (this_typed _ _ items i c.index.result.now c.index.ensures (omega (arith, within)) c.loop-place.invariant.formed).1;
    }

pub index-requires-in-Then : goal.index-requires-in-Then
index-requires-in-Then t c =
    let typed = turn_typed _ _ _ c.in-Then.parts c.in-Then.is c.requires.process in
    omega (arith, typed.0, c.len-last.ensures, c.in-Then.parts.ok.0)

pub answer_node-requires : goal.answer_node-requires
answer_node-requires t c =
    let p = program_of c.args.program.now in
    let items = c.in-Then.parts.items in
    let i = c.loop-place.place in
    let typed = turn_typed _ _ _ c.in-Then.parts c.in-Then.is c.requires.process in
    let end : c.len-last.result - 1 ≡ i = omega arith in
    let whole : i + 1 ≡ length items = omega (arith, typed.0, end, c.len-last.ensures, c.in-Then.parts.ok.0) in
    let last = c.index-in-Then.result.now in
    let at : last ≡ get_or items i last = c.index-in-Then.ensures ∙ ap (λ n. get_or items n last) end in (
      search (rules, the_lemmas, get_or_read),
      (
        (this_typed _ _ items i last at (omega (arith, whole)) c.loop-place.invariant.formed).0,
        omega (arith, size_last p items i last at whole, c.loop-place.invariant.room),
      ),
    )

pub returns-in-Assign : goal.returns-in-Assign
returns-in-Assign t c = c.assign_answer.ensures c.in-Assign.at ∙ ap (λ s. answer_of (program_of c.args.program.now) (process_of s) c.args.from)
    (sym c.in-Assign.is)

pub returns-after-loop-place : goal.returns-after-loop-place
returns-after-loop-place t c =
    let p = program_of c.args.program.now in
    let items = c.in-Then.parts.items in
    let i = c.loop-place.place in
    let typed = turn_typed _ _ _ c.in-Then.parts c.in-Then.is c.requires.process in
    let end : c.len-last.result - 1 ≡ i = omega arith in
    let whole : i + 1 ≡ length items = omega (arith, typed.0, end, c.len-last.ensures, c.in-Then.parts.ok.0) in
    let last = c.index-in-Then.result.now in
    let at : last ≡ get_or items i last = c.index-in-Then.ensures ∙ ap (λ n. get_or items n last) end in
    c.answer_node.ensures ∙ (sym (answer_last p items i last at c.loop-place.next whole) ∙ c.loop-place.invariant.answer)
