use Rattle.std.proofs.Common.{◌≡◌, ◌∙◌, ◌+◌, ◌*◌, ℕ, suc, true, [], ◌∷◌, ◌++◌, length, refl, ap, sym, arith}
use Rattle.std.specs.List.{range_with_len}
use Rattle.prs_core.specs.Pairs.{no_rules, or_of, rails_of}
use Rattle.width_check.specs.Processes.{choice_count}
use Rattle.width_check.specs.Typed.{program_of}
use Rattle.width_check.specs.View.{choices_in}
use Rattle.handshake_expand.specs.Answers.{guards_from, bodies_from, again_own}
use Rattle.handshake_expand.proofs.Branches.{choosing_size}
use Rattle.handshake_expand.proofs.Rows.{arms_counted}
use Rattle.cell_sequence.specs.Sequence.{q_child}
use Rattle.cell_select.specs.Selections.{turn_request, latches, starts}
use Rattle.net_compose.specs.Translation.{branch_answers, guard_pairs, guards_rules}
use Rattle.net_compose.specs.Drivers.{wanted_latch, let_go}
use Rattle.net_compose.specs.Wanted.{all_unwanted}
use Rattle.net_compose.proofs.ChoiceDriven.{again_driven}
use Rattle.net_compose.proofs.choice.repetition_nodes.Goals as goal

leaves_are : (from count n : ℕ) → count ≡ n → range_with_len (from + 5) (count + 1) ≡ (from + 5) ∷ range_with_len (from + 6) n
leaves_are from count n e =
    let one : count + 1 ≡ suc n = omega (arith, e) in
    let next : from + 5 + 1 ≡ from + 6 = omega arith in
    ap (range_with_len (from + 5)) one ∙ ap (λ k. (from + 5) ∷ range_with_len k n) next

pub returns : goal.returns
returns c =
    let p = program_of c.args.program.now in
    let cs = choices_in c.args.arms.now in
    let from = c.args.from in
    let turn = from + 1 in
    let size = choosing_size p true cs in
    let arms = arms_counted c.args.arms.now in
    let many = length c.args.arms.now in
    let count : many ≡ choice_count cs = sym arms in
    let at : from + 6 + 2 * many ≡ guards_from cs again_own from = omega (arith, count) in
    let bits = c.in_ok-bits.bits.items in
    again_driven p cs c.args.request from (branch_answers p cs (bodies_from cs again_own from)) bits c.guards.new.drivers.items c.args.drivers.now.items
    no_rules (range_with_len (from + 5) (many + 1)) (range_with_len (from + 6) (choice_count cs)) c.turn_nodes.new.drivers.items
    c.add_latches.new.drivers.items c.add_starts.new.drivers.items c.append.new.self.items
    refl (leaves_are from many (choice_count cs) count) refl
    (c.in_ok-bits.ensures.bits ∙ ap (guard_pairs cs) at)
    (c.in_ok-bits.ensures.made ∙ (ap (λ l. l ++ guards_rules p cs (from + 3) (from + 6 + 2 * many)) c.new-inner.ensures.items
    ∙ ap (guards_rules p cs (from + 3)) at))
    (c.in_ok-turn_nodes.ensures ∙ ap (λ l. c.args.drivers.now.items ++ let_go (from + 5) (from + 4) (rails_of l) ∷ turn_request c.args.request (from + 2)
    ∷ no_rules ∷ q_child (from + 1) (from + 4) ∷ or_of (range_with_len (from + 5) (many + 1)) ∷ wanted_latch (from + 1) (all_unwanted l) ∷ [])
    c.deref.ensures.value)
    (c.in_ok-add_latches.ensures ∙ ap (λ l. c.turn_nodes.new.drivers.items ++ latches turn l) c.deref-2.ensures.value)
    (c.in_ok-add_starts.ensures ∙ (ap (λ l. c.add_latches.new.drivers.items ++ starts (range_with_len (from + 6) many) l) c.deref-3.ensures.value
    ∙ ap (λ n. c.add_latches.new.drivers.items ++ starts (range_with_len (from + 6) n) bits) count))
    c.in_ok-append.ensures.items
