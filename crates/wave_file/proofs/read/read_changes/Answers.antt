use Rattle.std.proofs.Common.{◌∙◌, ◌+◌, ℕ, List, sym, ap, refl, subst, length, arith}
use Rattle.wave_file.specs.WaveReading.{IsToldTo, IsWaveText, at_changes}
use Rattle.wave_file.specs.WaveTold.{IsSoFar, with_turn}
use Rattle.wave_file.specs.Waves.{wave_of}
use Rattle.wave_file.proofs.Readings.{refuse, some_left, none_left, begin_changes, changes_more, changes_shorter, changes_over, nothing_yet}
use Rattle.wave_file.proofs.read.read_changes.Goals as goal

pub loop-rest-init : goal.loop-rest-init
loop-rest-init c =
    let t = c.args.told in
    let first = c.in_ok-first.first.items in
    let changes = c.new-changes.result.items in
    let count = c.len.ensures ∙ t.names.ok.0 in
    let first_is = c.in_ok-first.ensures.items ∙ c.deref.ensures.value in
    record {
      few = c.requires.few;
      count = c.requires.count;
      kept = nothing_yet t first changes first_is c.new-changes.ensures.items;
      told = begin_changes t.names.items t.values.items first changes t.time c.len.result c.args.text.now first_is
          c.new-changes.ensures.items count;
      short = omega (arith, c.requires.short, c.requires.few, count);
    }

pub change_line-requires-clause-some : goal.change_line-requires-clause-some
change_line-requires-clause-some c = some_left c.loop-rest.rest.now c.is_empty.result c.is_empty.ensures c.loop-rest-test.true

pub returns-in-Err-clause-refused : goal.returns-in-Err-clause-refused
returns-in-Err-clause-refused c = λ whole so_far.
    let l = c.loop-rest in
    let w = wave_of c.args.told.names.items c.in_ok-first.first.items l.changes.items in
    refuse whole l.lines (at_changes w l.told.time) l.rest.now c.in-Err.fault _ (l.invariant.told whole so_far)
    (c.in-Err.ensures.refused w l.invariant.kept) refl

pub loop-rest-smaller : goal.loop-rest-smaller
loop-rest-smaller c =
    let l = c.loop-rest in
    let w = wave_of c.args.told.names.items c.in_ok-first.first.items l.changes.items in
    let u = c.change_line.new.told in
    changes_shorter l.rest.now c.in-Ok.after.now (at_changes w l.told.time) (at_changes (with_turn w u.time c.in-Ok.node) u.time)
    (c.in-Ok.ensures.told w l.invariant.kept)

pub loop-rest-preserved : goal.loop-rest-preserved
loop-rest-preserved c =
    let l = c.loop-rest in
    let names = c.args.told.names.items in
    let first = c.in_ok-first.first.items in
    let w = wave_of names first l.changes.items in
    let u = c.change_line.new.told in
    let after = c.in-Ok.after.now in
    let p = at_changes w l.told.time in
    let q = at_changes (with_turn w u.time c.in-Ok.node) u.time in
    let line = c.in-Ok.ensures.told w l.invariant.kept in
    let same = ap length c.in-Ok.ensures.names in
    let kept = sym c.in_ok-keep_turn-in-Ok.ensures in
    record {
      few = omega (arith, same, l.invariant.few);
      count = omega (arith, c.in-Ok.ensures.nodes, l.invariant.count, same);
      kept = subst (λ (cs : List (ℕ × ℕ)). IsSoFar u (wave_of names first cs)) kept (c.in-Ok.ensures.so_far w l.invariant.kept);
      told = λ whole so_far. subst (λ (cs : List (ℕ × ℕ)). IsToldTo whole (l.lines + 1) (at_changes (wave_of names first cs) u.time) after) kept
          (changes_more l.rest.now after l.lines p q line whole (l.invariant.told whole so_far));
      short = omega (arith, l.invariant.short, changes_shorter l.rest.now after p q line);
    }

pub returns-clause-read : goal.returns-clause-read
returns-clause-read c = λ whole so_far.
    let l = c.loop-rest in
    let w = wave_of c.args.told.names.items c.in_ok-first.first.items l.changes.items in
    subst (λ (ns : List (List ℕ)). IsWaveText whole (wave_of ns c.in_ok-first.first.items l.changes.items)) (sym l.invariant.kept.names)
    (changes_over w l.told.time whole l.rest.now l.lines (l.invariant.told whole so_far)
    (none_left l.rest.now c.is_empty.result c.is_empty.ensures c.loop-rest-test.false))
