use Rattle.std.proofs.Common.{◌≡◌, ◌-◌, ◌≤◌, ◌++◌, length, take}
use Rattle.net_stream.specs.Cursors.{IsCursor, text_left}
use Rattle.net_stream.proofs.streamer.Streamer.next.Given as goal

abbrev pub invariant-loop-done : goal.invariant-loop-done
invariant-loop-done l = record {
  text : l.fn.self ≡ take l.done l.piece ++ text_left l.self-inside.net l.self-inside.cursor;
  within : l.done ≤ length l.piece;
  cursor : IsCursor l.self-inside.net l.self-inside.cursor;
}

abbrev pub decreases-loop-done : goal.decreases-loop-done
decreases-loop-done l = length l.piece - l.done
