use Rattle.std.proofs.Common.{◌≡◌, ◌+◌, ◌<◌, ◌∙◌, ◌∷◌, ◌++◌, [], set, ℕ, length, heap_items, true, sym, ap, subst, arith}
use Rattle.std.specs.Prelude.{◌%◌, ◌==◌, ◌||◌, not}
use Rattle.std.specs.BinaryHeap.{heap_capacity}
use Rattle.std.specs.List.{sum_by}
use Rattle.std.specs.List.Sorted.{IsPermutation}
use Rattle.std.specs.Result.{is_ok}
use Rattle.std.specs.declared.cmp.Reverse.{Reverse}
use Rattle.std.proofs.lemmas.List.{get_or_read}
use Rattle.delay_script.specs.Calendars.{BucketValue, CalendarValue, bucket_at, entries_of, entries_in, others_of}
use Rattle.delay_script.proofs.Bucketed.{room_near, near_sums, far_sums, from_ok}
use Rattle.delay_script.proofs.calendar.Calendar.put.Goals as goal

pub add-requires : goal.add-requires
add-requires c =
    let s = c.self.inside in
    let later = s.later.items in
    let place = c.args.time % 16 in
    let none : BucketValue = record { time = 0; nodes = []; room = 0 } in
    let fewer = subst (λ (v : CalendarValue). length v.entries < v.room) (sym c.self.view_is) c.requires in
    let small : place < 16 = omega arith in
    let within : place < length later = omega (arith, small, c.self.invariant.buckets.count) in
    let here = get_or_read later place c.index_mut.result.now within c.index_mut.ensures.value none in
    let read = get_or_read later place c.index.result.now within c.index.ensures none in
    record {
      room = subst (λ (b : BucketValue). length b.nodes < b.room) (sym here)
          (room_near s.reached later (heap_items s.others) (heap_capacity s.others) s.room place c.self.invariant small fewer);
      time = ap (λ (b : BucketValue). (length b.nodes == 0) || (b.time == c.args.time)) (here ∙ sym read) ∙ sym c.takes.ensures ∙ c.if-takes.true;
    }

pub returns-then-takes-clause-sums : goal.returns-then-takes-clause-sums
returns-then-takes-clause-sums c = λ f.
    let s = c.self.inside in
    let later = s.later.items in
    let place = c.args.time % 16 in
    let none : BucketValue = record { time = 0; nodes = []; room = 0 } in
    let within : place < length later = omega (arith, c.self.invariant.buckets.count) in
    let here = get_or_read later place c.index_mut.result.now within c.index_mut.ensures.value none in
    let read = get_or_read later place c.index.result.now within c.index.ensures none in
    let old = c.index_mut.result.now in
    let new : BucketValue = record { time = c.args.time; nodes = old.nodes ++ c.args.node ∷ []; room = old.room } in
    let takes : ((length (bucket_at later place).nodes == 0) || ((bucket_at later place).time == c.args.time)) ≡ true =
    ap (λ (b : BucketValue). (length b.nodes == 0) || (b.time == c.args.time)) (sym read) ∙ sym c.takes.ensures ∙ c.if-takes.true in
    ap (λ (b : BucketValue). sum_by f (entries_of s.reached ++ (entries_in (set later place b) ++ others_of (heap_items s.others)))) c.add.ensures
    ∙ near_sums f s.reached new later (heap_items s.others) place c.args.node within
    (ap (λ (b : BucketValue). b.nodes ++ c.args.node ∷ []) here) takes
    ∙ ap (λ (v : CalendarValue). f (c.args.time, c.args.node) + sum_by f v.entries) c.self.view_is

pub returns-else-is_err-clause-sums : goal.returns-else-is_err-clause-sums
returns-else-is_err-clause-sums c = λ f.
    let s = c.self.inside in
    let x : Reverse (ℕ × ℕ) = record { 0 = (c.args.time, c.args.node) } in
    let more = heap_items c.push.new.self in
    let done : is_ok c.push.result ≡ true = c.is_err.ensures.negation ∙ ap not c.if-is_err.false in
    far_sums f s.reached s.later.items (heap_items s.others) more x
    (from_ok c.push.result (IsPermutation (x ∷ heap_items s.others) more) done c.push.ensures.permutation)
    ∙ ap (λ (v : CalendarValue). f (c.args.time, c.args.node) + sum_by f v.entries) c.self.view_is
