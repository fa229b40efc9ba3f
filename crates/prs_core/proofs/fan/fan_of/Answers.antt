use Rattle.std.proofs.Common.{◌≡◌, length, arith, [], ◌∙◌, ap}
use Rattle.std.proofs.lemmas.List.FromFn.{fill_by_all}
use Rattle.prs_core.specs.Fans.{guard_names, readers_below, IsNoted}
use Rattle.prs_core.specs.Nets.{up_of, down_of}
use Rattle.prs_core.proofs.FanLemmas.{noted_more, noted_reader}
use Rattle.prs_core.proofs.fan.fan_of.Goals as goal

pub loop-reader-preserved : goal.loop-reader-preserved
loop-reader-preserved c =
    let net = c.args.net.now in
    let m = c.loop-reader.reader in
    let old = c.loop-reader.readers.items in
    let mid = c.note_guard.new.readers.items in
    let new = c.note_guard-in-loop-reader.new.readers.items in
    let up : IsNoted (λ n. guard_names n (up_of net m)) m old mid = rw (← c.up.ensures) c.in_ok-note_guard.ensures in
    let down : IsNoted (λ n. guard_names n (down_of net m)) m mid new = rw (← c.down.ensures) c.in_ok-note_guard-2.ensures in
    let noted = noted_more (λ n. guard_names n (up_of net m)) (λ n. guard_names n (down_of net m)) m old mid new up down in
    record {
      count = noted.count ∙ c.loop-reader.invariant.count;
      each = λ n within. noted_reader net m old new (λ k h. c.loop-reader.invariant.each k (omega (arith, c.loop-reader.invariant.count))) noted n
          (omega (arith, c.loop-reader.invariant.count));
    }

pub returns-clause-fan : goal.returns-clause-fan
returns-clause-fan c =
    let net = c.args.net.now in
    let whole : c.loop-reader.reader ≡ length net.first = omega (arith, ap length c.first-nodes.ensures.first) in
    fill_by_all (readers_below net (length net.first)) c.loop-reader.readers.items (length net.first) [] c.loop-reader.invariant.count
    (λ k h. rw (← whole) (c.loop-reader.invariant.each k h))
