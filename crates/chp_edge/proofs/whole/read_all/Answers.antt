-- Each way out has one error or none, so the clause of another one claims nothing. Lemmas say so, since `cc` reads all that is known where it
-- stands.
use Rattle.std.proofs.Common.{◌≡◌, inl, ◌∙◌, ◌++◌, arith, take, drop, length, length-take}
use Rattle.std.specs.Prelude.{Result, Ok, Err}
use Rattle.chp_edge.specs.declared.whole.ReadEnd.{ReadEnd}
use Rattle.chp_edge.specs.declared.whole.ReadEnd.TheVariants.{Failed, TooLong, NoMemory}
use Rattle.chp_edge.proofs.Progress.{read_whole, read_more, moved_on, none_left, room_left, rose_since}
use Rattle.chp_edge.proofs.whole.read_all.Goals as goal

-- read whole, so no error
no_error : {T P : Type 0} {all : T} {end : ReadEnd} → ◌≡◌ {A = Result T ReadEnd} (Ok all) (Err end) → P
no_error is = absurd (cc is)

-- one error, so no other one
failed_not_too_long : {T P : Type 0} → ◌≡◌ {A = Result T ReadEnd} (Err Failed) (Err TooLong) → P
failed_not_too_long is = absurd (cc is)

failed_not_no_memory : {T P : Type 0} → ◌≡◌ {A = Result T ReadEnd} (Err Failed) (Err NoMemory) → P
failed_not_no_memory is = absurd (cc is)

no_memory_not_failed : {T P : Type 0} → ◌≡◌ {A = Result T ReadEnd} (Err NoMemory) (Err Failed) → P
no_memory_not_failed is = absurd (cc is)

no_memory_not_too_long : {T P : Type 0} → ◌≡◌ {A = Result T ReadEnd} (Err NoMemory) (Err TooLong) → P
no_memory_not_too_long is = absurd (cc is)

too_long_not_failed : {T P : Type 0} → ◌≡◌ {A = Result T ReadEnd} (Err TooLong) (Err Failed) → P
too_long_not_failed is = absurd (cc is)

too_long_not_no_memory : {T P : Type 0} → ◌≡◌ {A = Result T ReadEnd} (Err TooLong) (Err NoMemory) → P
too_long_not_no_memory is = absurd (cc is)

pub returns-in-Err : goal.returns-in-Err
returns-in-Err g c = record {
  faults = c.in-Err.ensures.faults;
  same = c.in-Err.ensures.same;
  kept = c.in-Err.ensures.kept;
  read = tt;
  short = tt;
  emptied = tt;
  failed = λ _. c.in-Err.ensures.failed;
  too_long = failed_not_too_long;
  no_memory = failed_not_no_memory;
}

pub returns-in-Err-next : goal.returns-in-Err-next
returns-in-Err-next g c = record {
  faults = omega (arith, c.loop-piece.invariant.faults, c.in-Err-next.ensures.faults);
  same = c.in-Err-next.ensures.same ∙ c.loop-piece.invariant.same;
  kept = c.in-Err-next.ensures.kept ∙ c.loop-piece.invariant.kept;
  read = tt;
  short = tt;
  emptied = tt;
  failed = λ _. inl (rose_since c.loop-piece.invariant.faults c.in-Err-next.ensures.failed);
  too_long = failed_not_too_long;
  no_memory = failed_not_no_memory;
}

pub returns-in-Ok-eq0 : goal.returns-in-Ok-eq0
returns-in-Ok-eq0 g c =
    let i = c.loop-piece.invariant in
    let e = c.in-Ok-eq0.ensures in
    record {
      faults = omega (arith, i.faults, e.faults);
      same = e.same ∙ i.same;
      kept = e.kept ∙ i.kept;
      read = read_whole i (λ t. (e.end t).0 c.in-Ok-eq0.field-0-test);
      short = omega (arith, c.loop-piece-test.true, c.len.ensures);
      emptied = none_left c.in-Ok-eq0.field-0 c.next.new.piece i.same c.in-Ok-eq0.field-0-test (λ t. (e.end t).0 c.in-Ok-eq0.field-0-test) e.bytes;
      failed = no_error;
      too_long = no_error;
      no_memory = no_error;
    }

pub returns-in-Err-extend_from_slice : goal.returns-in-Err-extend_from_slice
returns-in-Err-extend_from_slice g c =
    let i = c.loop-piece.invariant in
    let e = c.in-Ok.ensures in record {
      faults = omega (arith, i.faults, e.faults);
      same = e.same ∙ i.same;
      kept = e.kept ∙ i.kept;
      read = tt;
      short = tt;
      emptied = tt;
      failed = no_memory_not_failed;
      too_long = no_memory_not_too_long;
      no_memory = λ _ t.
          let more = take c.in-Ok.n c.next.new.piece in (
            c.loop-piece.all.items ++ more,
            moved_on c.loop-piece.all.items more (g.S.Shelf.rest c.next.new.self) (i.told t) (e.bytes (i.same ∙ t)),
          );
    }

pub loop-piece-preserved : goal.loop-piece-preserved
loop-piece-preserved g c =
    let e = c.in-Ok.ensures in
    let room = room_left c.args.limit 4096 (length c.loop-piece.piece) c.loop-piece.all.ok.0 c.len.ensures c.loop-piece-test.true
    c.len-in-loop-piece.ensures c.min-want.ensures (c.next.auto.piece ∙ length-take c.min-want.result c.loop-piece.piece) in
    read_more c.in-Ok.n c.next.new.piece (drop c.min-want.result c.loop-piece.piece) c.loop-piece.invariant e.faults e.same e.kept e.within room e.bytes
    c.in_default-extend_from_slice.ensures.items

pub returns : goal.returns
returns g c =
    let i = c.loop-piece.invariant in
    record {
      faults = i.faults;
      same = i.same;
      kept = i.kept;
      read = tt;
      short = tt;
      emptied = tt;
      failed = too_long_not_failed;
      too_long = λ is t. (c.loop-piece.all.items, i.told t, omega (arith, i.within, c.loop-piece-test.false, c.len.ensures));
      no_memory = too_long_not_no_memory;
    }
