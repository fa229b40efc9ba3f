use Rattle.std.proofs.Common.{◌∙◌, ◌++◌, ℕ, List, [], ap, refl, length, arith}
use Rattle.wave_file.specs.Unwaved.{count_line, told_changes}
use Rattle.wave_file.specs.WaveReading.{at_changes}
use Rattle.wave_file.specs.WaveTold.{with_turn}
use Rattle.wave_file.specs.Waves.{wave_of}
use Rattle.wave_file.proofs.Readings.{refuse, some_left, none_left, begin_changes, changes_more, changes_shorter, changes_over, nothing_yet}
use Rattle.wave_file.proofs.unwave.print_changes.Goals as goal

pub loop-rest-init : goal.loop-rest-init
loop-rest-init c =
    let t = c.args.told in
    let values = t.values.items in
    let count = c.len.ensures ∙ t.names.ok.0 in
    record {
      few = c.requires.few;
      count = c.requires.count;
      so_far = (
        wave_of t.names.items values [],
        nothing_yet t values [] refl refl,
        record { told = c.new.ensures.items; count = refl },
        begin_changes t.names.items values values [] t.time c.len.result c.args.text.now refl refl count,
      );
      short = omega (arith, c.requires.short, c.requires.few, count);
      counted = omega (arith, c.requires.short);
    }

pub change_line-requires-clause-some : goal.change_line-requires-clause-some
change_line-requires-clause-some c = some_left c.loop-rest.rest.now c.is_empty.result c.is_empty.ensures c.loop-rest-test.true

pub returns-in-Err-clause-refused : goal.returns-in-Err-clause-refused
returns-in-Err-clause-refused c = λ whole so_far.
    let l = c.loop-rest in
    let s = l.invariant.so_far in
    refuse whole l.lines (at_changes s.0 l.told.time) l.rest.now c.in-Err.fault _ (s.3 whole so_far) (c.in-Err.ensures.refused s.0 s.1) refl

pub loop-rest-smaller : goal.loop-rest-smaller
loop-rest-smaller c =
    let l = c.loop-rest in
    let s = l.invariant.so_far in
    let u = c.change_line.new.told in
    changes_shorter l.rest.now c.in-Ok.after.now (at_changes s.0 l.told.time) (at_changes (with_turn s.0 u.time c.in-Ok.node) u.time)
    (c.in-Ok.ensures.told s.0 s.1)

pub loop-rest-preserved : goal.loop-rest-preserved
loop-rest-preserved c =
    let l = c.loop-rest in
    let s = l.invariant.so_far in
    let u = c.change_line.new.told in
    let after = c.in-Ok.after.now in
    let p = at_changes s.0 l.told.time in
    let q = at_changes (with_turn s.0 u.time c.in-Ok.node) u.time in
    let line = c.in-Ok.ensures.told s.0 s.1 in
    let kept = c.in-Ok.ensures.so_far s.0 s.1 in
    let same = ap length c.in-Ok.ensures.names in
    let less = changes_shorter l.rest.now after p q line in
    record {
      few = omega (arith, same, l.invariant.few);
      count = omega (arith, c.in-Ok.ensures.nodes, l.invariant.count, same);
      so_far = (
        with_turn s.0 u.time c.in-Ok.node,
        kept,
        c.in_ok-print_turn-in-Ok.ensures.printed s.0 kept s.2,
        λ whole so_far. changes_more l.rest.now after l.lines p q line whole (s.3 whole so_far),
      );
      short = omega (arith, l.invariant.short, less);
      counted = omega (arith, l.invariant.counted, c.in_ok-print_turn-in-Ok.ensures.count, less);
    }

pub returns-clause-read : goal.returns-clause-read
returns-clause-read c = λ whole so_far.
    let l = c.loop-rest in
    let s = l.invariant.so_far in
    let w = s.0 in (
      w,
      changes_over w l.told.time whole l.rest.now l.lines (s.3 whole so_far)
          (none_left l.rest.now c.is_empty.result c.is_empty.ensures c.loop-rest-test.false),
      c.in_ok-count_line.ensures ∙ ap (λ (t : List ℕ). t ++ count_line l.printed.count) s.2.told
          ∙ ap (λ (n : ℕ). told_changes w.names w.first w.changes ++ count_line n) s.2.count,
    )
