use Rattle.std.proofs.Common.{◌≡◌, ◌∙◌, ◌+◌, ◌*◌, false, ◌++◌, length, refl, ap, sym, arith}
use Rattle.std.specs.List.{range_with_len}
use Rattle.prs_core.specs.Pairs.{no_rules}
use Rattle.width_check.specs.Processes.{choice_count}
use Rattle.width_check.specs.Typed.{program_of}
use Rattle.width_check.specs.View.{choices_in}
use Rattle.handshake_expand.specs.Answers.{guards_from, bodies_from, select_own}
use Rattle.handshake_expand.proofs.Branches.{choosing_size}
use Rattle.handshake_expand.proofs.Rows.{arms_counted}
use Rattle.cell_select.specs.Selections.{latches, starts}
use Rattle.net_compose.specs.Translation.{branch_answers, guard_pairs, guards_rules}
use Rattle.net_compose.proofs.ChoiceDriven.{select_driven}
use Rattle.net_compose.proofs.choice.selection_nodes.Goals as goal

pub returns : goal.returns
returns c =
    let p = program_of c.args.program.now in
    let cs = choices_in c.args.arms.now in
    let from = c.args.from in
    let size = choosing_size p false cs in
    let arms = arms_counted c.args.arms.now in
    let many = length c.args.arms.now in
    let count : many ≡ choice_count cs = sym arms in
    let at : from + 3 + 2 * many ≡ guards_from cs select_own from = omega (arith, count) in
    select_driven p cs c.args.request from (branch_answers p cs (bodies_from cs select_own from)) c.in_ok-bits.bits.items c.guards.new.drivers.items
    c.args.drivers.now.items no_rules (range_with_len (from + 3) many) c.joining_nodes.new.drivers.items c.add_latches.new.drivers.items
    c.add_starts.new.drivers.items c.append.new.self.items refl (ap (range_with_len (from + 3)) count) (c.in_ok-bits.ensures.bits ∙ ap (guard_pairs cs) at)
    (c.in_ok-bits.ensures.made ∙ (ap (λ l. l ++ guards_rules p cs (from + 1) (from + 3 + 2 * many)) c.new-inner.ensures.items
    ∙ ap (guards_rules p cs (from + 1)) at))
    c.in_ok-joining_nodes.ensures
    (c.in_ok-add_latches.ensures ∙ ap (λ l. c.joining_nodes.new.drivers.items ++ latches c.args.request l) c.deref.ensures.value)
    (c.in_ok-add_starts.ensures ∙ ap (λ l. c.add_latches.new.drivers.items ++ starts (range_with_len (from + 3) many) l) c.deref-2.ensures.value)
    c.in_ok-append.ensures.items
