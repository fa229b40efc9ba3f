-- How far a rule file has been given out.
use Rattle.std.specs.Prelude.{ℕ, ◌≤◌, List, ◌++◌, drop, vec_len, vec_capacity}
use Rattle.prs_core.specs.Nets.{NetValue, IsNet}
use Rattle.net_stream.specs.declared.cursor.Cursor.{Cursor}
use Rattle.net_stream.specs.Places.{text_from, IsPlaceOf}
use Rattle.net_stream.specs.Rooms.{HasRoomForLines}

-- what is left of the text: the rest of the line in the buffer, and the lines after it
abbrev pub text_left : NetValue → Cursor → List ℕ
text_left n c = drop c.given c.line.items ++ text_from n c.place

pub record IsCursor (n : NetValue) (c : Cursor) : Type 0 where
  pub net : IsNet n
  pub place : IsPlaceOf n c.place
  pub within : c.given ≤ vec_len c.line
  pub room : HasRoomForLines n (vec_capacity c.line)
