use Rattle.std.proofs.Common.{◌≡◌, ◌+◌, ◌∙◌, [], List, length, set, sym, ap, subst, arith}
use Rattle.std.specs.List.{sum_by}
use Rattle.std.specs.List.Sorted.{IsPermutation}
use Rattle.std.proofs.lemmas.Bool.{eqb-true}
use Rattle.std.proofs.lemmas.List.{get_or_read, nil_from_length}
use Rattle.std.proofs.lemmas.List.Sorted.{length_permutation}
use Rattle.delay_script.specs.Calendars.{BucketValue, IsFirstBucket, bucket_at, entries_of, entries_in}
use Rattle.delay_script.proofs.Bucketed.{sums_turned}
use Rattle.delay_script.proofs.calendar.turn.Goals as goal

pub returns-clause-sums : goal.returns-clause-sums
returns-clause-sums c = λ f.
    let reached = c.args.reached.now in
    let later = c.args.later.now.items in
    let place = c.in-Some.place in
    let next = c.sort.new.self in
    let first : IsFirstBucket later (length later) place =
    subst (λ (bs : List BucketValue). IsFirstBucket bs (length bs) place) c.deref.ensures.value c.in-Some.ensures.some in
    let at : c.swap.new.x ≡ bucket_at later place =
    c.swap.ensures.x_after
    ∙ get_or_read later place c.index_mut.result.now first.within c.index_mut.ensures.value (record { time = 0; nodes = []; room = 0 }) in
    let none : reached.nodes ≡ [] = nil_from_length reached.nodes (eqb-true (length reached.nodes) 0 (sym c.is_empty.ensures ∙ c.if-not-is_empty.false)) in
    ap (λ (b : BucketValue). sum_by f (entries_of next) + sum_by f (entries_in (set later place b))) c.swap.ensures.y_after
    ∙ sums_turned f reached next later place first.within none (subst (λ (b : BucketValue). IsPermutation b.nodes next.nodes) at c.sort.ensures.same)
    (c.sort.ensures.time ∙ ap (λ (b : BucketValue). b.time) at)

pub returns-clause-all : goal.returns-clause-all
returns-clause-all c = λ empty.
    let later = c.args.later.now.items in
    let place = c.in-Some.place in
    let next = c.sort.new.self in
    let first : IsFirstBucket later (length later) place =
    subst (λ (bs : List BucketValue). IsFirstBucket bs (length bs) place) c.deref.ensures.value c.in-Some.ensures.some in
    let at : c.swap.new.x ≡ bucket_at later place =
    c.swap.ensures.x_after
    ∙ get_or_read later place c.index_mut.result.now first.within c.index_mut.ensures.value (record { time = 0; nodes = []; room = 0 }) in
    absurd (omega (
      arith,
      first.some,
      ap (λ (b : BucketValue). length b.nodes) at,
      length_permutation c.swap.new.x.nodes next.nodes c.sort.ensures.same,
      ap length empty,
    ))
