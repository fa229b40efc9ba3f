use Rattle.std.proofs.Common.{◌≡◌, ◌+◌, Bool, false, List, length, sym, ◌∙◌, ap, arith}
use Rattle.std.proofs.lemmas.List.{get_or-replicate, length-replicate, drop_all}
use Rattle.event_sim.specs.Locality.{is_member}
use Rattle.event_sim.proofs.Members.{none_below}
use Rattle.event_sim.proofs.node_set.NodeSet.new.Goals as goal

pub invariant_of-result : goal.invariant_of-result
invariant_of-result c =
    let marks = c.in_ok-marks.marks.items in
    let slots = c.in_ok-slots.slots.items in
    let count = ap length c.in_ok-marks.ensures ∙ length-replicate c.args.count false in
    let room : length slots ≡ c.args.count + 1 = ap length c.in_ok-slots.ensures ∙ length-replicate (c.args.count + 1) 0 in
    record {
      list_is = drop_all (c.args.count + 1) slots (omega (arith, room)) ∙ sym (none_below (is_member marks) (length marks)
          (λ k less. ap (λ (xs : List Bool). is_member xs k) c.in_ok-marks.ensures ∙ get_or-replicate c.args.count k false false (omega (arith, count))));
      from_in = omega (arith, room);
      slots_are = omega (arith, room, count);
    }
