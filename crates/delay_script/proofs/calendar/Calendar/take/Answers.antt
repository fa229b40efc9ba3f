use Rattle.std.proofs.Common.{◌≡◌, ◌≤◌, ◌∙◌, ◌++◌, [], ℕ, List, heap_items, refl, sym, ap, subst, arith}
use Rattle.std.specs.Prelude.{Option, IfNone, option_to_list}
use Rattle.std.specs.BinaryHeap.{IsHeap}
use Rattle.std.specs.List.{sum_by}
use Rattle.std.specs.declared.cmp.Reverse.{Reverse}
use Rattle.std.proofs.lemmas.List.{nil_from_length}
use Rattle.delay_script.specs.Calendars.{CalendarValue, FollowsFirst, LeadsBuckets, entries_of, entries_in, others_of, sooner}
use Rattle.delay_script.proofs.Bucketed.{left_kept, turned_sums, lead_taken, top_taken, none_left, AreAs}
use Rattle.delay_script.proofs.calendar.Calendar.take.Goals as goal

pub invariant_of-self : goal.invariant_of-self
invariant_of-self c = record {
  buckets = left_kept c.turn.new.reached c.pop.new.self c.turn.new.later.items c.self.inside.room (option_to_list c.pop.result)
      (c.turn.ensures.kept c.self.inside.room c.self.invariant.buckets) c.pop.ensures.nodes c.pop.ensures.time c.pop.ensures.room;
  ordered = c.self.invariant.ordered;
  slots_are = c.self.invariant.slots_are;
}

pub returns-then-is_first-clause-some : goal.returns-then-is_first-clause-some
returns-then-is_first-clause-some c =
    let s = c.self.inside in
    let heap = heap_items s.others in
    let alike : AreAs c.args.self.now.entries c.turn.new.reached c.turn.new.later.items heap =
    λ f. ap (λ (v : CalendarValue). sum_by f v.entries) (sym c.self.view_is)
    ∙ turned_sums f s.reached c.turn.new.reached s.later.items c.turn.new.later.items heap (c.turn.ensures.sums f) in
    lead_taken c.args.self.now.entries c.turn.new.reached c.pop.new.self c.turn.new.later.items heap s.room c.pop.result alike
    (c.turn.ensures.kept s.room c.self.invariant.buckets) (c.is_first.ensures.here c.if-is_first.true) c.pop.ensures.nodes c.pop.ensures.time

pub invariant_of-self-in_err-node : goal.invariant_of-self-in_err-node
invariant_of-self-in_err-node c = record {
  buckets = c.turn.ensures.kept c.self.inside.room c.self.invariant.buckets;
  ordered = subst (IsHeap sooner) (sym c.in_err-node.ensures.unchanged.0) c.self.invariant.ordered;
  slots_are = subst (λ (k : ℕ). c.self.inside.room ≤ k) (sym c.in_err-node.ensures.capacity) c.self.invariant.slots_are;
}

pub returns-in_err-node-clause-none : goal.returns-in_err-node-clause-none
returns-in_err-node-clause-none c =
    let s = c.self.inside in
    let heap = heap_items s.others in
    let alike : AreAs c.args.self.now.entries c.turn.new.reached c.turn.new.later.items heap =
    λ f. ap (λ (v : CalendarValue). sum_by f v.entries) (sym c.self.view_is)
    ∙ turned_sums f s.reached c.turn.new.reached s.later.items c.turn.new.later.items heap (c.turn.ensures.sums f) in
    subst (λ (o : Option ℕ). IfNone o (c.args.self.now.entries ≡ [])) (sym c.from_residual.ensures)
    (none_left c.args.self.now.entries c.turn.new.reached c.turn.new.later.items heap alike (c.is_first.ensures.there c.if-is_first.false)
    c.turn.ensures.all
    (nil_from_length heap (omega (arith, c.in_err-node.ensures.none, s.others.data.ok.0))))

pub returns-in_err-node-clause-left : goal.returns-in_err-node-clause-left
returns-in_err-node-clause-left c =
    let s = c.self.inside in
    let reached = c.turn.new.reached in
    let later = c.turn.new.later.items in
    let heap = heap_items c.pop-2.new.self in
    let same = sym c.in_err-node.ensures.unchanged.0 in
    let empty : heap_items s.others ≡ [] = nil_from_length (heap_items s.others) (omega (arith, c.in_err-node.ensures.none, s.others.data.ok.0)) in
    subst (λ (o : Option ℕ). IfNone o (entries_of reached ++ (entries_in later ++ others_of heap) ≡ [])) (sym c.from_residual.ensures)
    (none_left (entries_of reached ++ (entries_in later ++ others_of heap)) reached later heap (λ f. refl)
    (subst (λ (es : List (Reverse (ℕ × ℕ))). FollowsFirst reached es) same (c.is_first.ensures.there c.if-is_first.false))
    (subst (λ (es : List (Reverse (ℕ × ℕ))). reached.nodes ≡ [] → LeadsBuckets es later) same c.turn.ensures.all) (sym same ∙ empty))

pub invariant_of-self-2 : goal.invariant_of-self-2
invariant_of-self-2 c = record {
  buckets = c.turn.ensures.kept c.self.inside.room c.self.invariant.buckets;
  ordered = (c.in_ok-node.ensures.heap_order c.self.invariant.ordered).0;
  slots_are = subst (λ (k : ℕ). c.self.inside.room ≤ k) (sym c.in_ok-node.ensures.capacity) c.self.invariant.slots_are;
}

pub returns-clause-some : goal.returns-clause-some
returns-clause-some c =
    let s = c.self.inside in
    let heap = heap_items s.others in
    let x = c.in_ok-node.field-0 in
    let alike : AreAs c.args.self.now.entries c.turn.new.reached c.turn.new.later.items heap =
    λ f. ap (λ (v : CalendarValue). sum_by f v.entries) (sym c.self.view_is)
    ∙ turned_sums f s.reached c.turn.new.reached s.later.items c.turn.new.later.items heap (c.turn.ensures.sums f) in (
      x.0.0,
      top_taken c.args.self.now.entries c.turn.new.reached c.turn.new.later.items heap (heap_items c.pop-2.new.self) s.room x alike
          (c.turn.ensures.kept s.room c.self.invariant.buckets) (c.is_first.ensures.there c.if-is_first.false)
          c.turn.ensures.all
          c.in_ok-node.ensures.top (c.in_ok-node.ensures.heap_order c.self.invariant.ordered).1 c.in_ok-node.ensures.permutation,
    )
