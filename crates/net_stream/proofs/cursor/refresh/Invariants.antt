use Rattle.std.proofs.Common.{◌≡◌, vec_capacity}
use Rattle.net_stream.specs.Places.{IsPlaceOf, places_left}
use Rattle.net_stream.specs.Rooms.{HasRoomForLines}
use Rattle.net_stream.specs.Cursors.{text_left}
use Rattle.net_stream.proofs.cursor.refresh.Given as goal

abbrev pub invariant-loop-cursor : goal.invariant-loop-cursor
invariant-loop-cursor l = record {
  left : text_left l.net l.cursor ≡ text_left l.net l.fn.cursor;
  start : l.cursor.given ≡ 0;
  place : IsPlaceOf l.net l.cursor.place;
  room : HasRoomForLines l.net (vec_capacity l.cursor.line);
}

abbrev pub decreases-loop-cursor : goal.decreases-loop-cursor
decreases-loop-cursor l = places_left l.net l.cursor.place
