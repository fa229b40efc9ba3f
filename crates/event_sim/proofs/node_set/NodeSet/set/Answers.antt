use Rattle.std.proofs.Common.{◌≡◌, ◌<◌, ◌∙◌, length, set, ap, sym, true, false, Bool, arith}
use Rattle.std.proofs.lemmas.List.{length-drop, length-set, get_or_read}
use Rattle.event_sim.specs.Locality.{is_member, members}
use Rattle.event_sim.proofs.Lists.{passes_few}
use Rattle.event_sim.proofs.Members.{not_none, was_member}
use Rattle.event_sim.proofs.node_set.NodeSet.set.Goals as goal

pub put_in-requires-clause-room : goal.put_in-requires-clause-room
put_in-requires-clause-room c =
    let s = c.self.inside in
    omega (
      arith,
      passes_few (is_member s.marks.items) (length s.marks.items),
      ap length c.self.invariant.list_is,
      length-drop s.from s.slots.items,
      c.self.invariant.slots_are,
    )

pub overflow_sub-self : goal.overflow_sub-self
overflow_sub-self c =
    let s = c.self.inside in
    omega (
      arith,
      passes_few (is_member s.marks.items) (length s.marks.items),
      ap length c.self.invariant.list_is,
      length-drop s.from s.slots.items,
      c.self.invariant.slots_are,
    )

pub invariant_of-self-else-member : goal.invariant_of-self-else-member
invariant_of-self-else-member c =
    let s = c.self.inside in
    let n = c.args.node in
    let within : n < length s.marks.items = omega (arith, c.requires, ap length c.self.view_is) in
    let member : is_member s.marks.items n ≡ true =
    sym (get_or_read s.marks.items n c.index.result.now within c.index.ensures false)
    ∙ was_member c.index.result.now c.args.member c.if-index-member.false c.if-member.false in
    let count : length c.take_out.new.slots.items ≡ length s.slots.items = omega (arith, c.take_out.ensures.count, s.slots.ok.0, c.take_out.new.slots.ok.0) in
    record {
      list_is = c.take_out.ensures.list s.marks.items c.self.invariant.list_is within member
          ∙ ap (λ (b : Bool). members (set s.marks.items n b)) (sym c.if-member.false);
      from_in = omega (arith, not_none s.marks.items n within member, ap length c.self.invariant.list_is, length-drop s.from s.slots.items, count);
      slots_are = omega (arith, count, c.self.invariant.slots_are, length-set s.marks.items n c.args.member);
    }
