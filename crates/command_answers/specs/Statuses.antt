-- The number of each status, and what it means.
use Rattle.std.specs.Prelude.{ℕ, Bool, true, false}
use Rattle.command_answers.specs.declared.status.Status.{Status}
use Rattle.command_answers.specs.declared.status.Status.TheVariants.{Done, RefusedText, Usage, Read, Write, Hazard, NoMemory, TooLarge, BadFile, NoOrder, NoChannel, NoPeer, Differs}

abbrev pub status_number : Status → ℕ
status_number Done = 0
status_number RefusedText = 1
status_number Usage = 2
status_number Read = 3
status_number Write = 4
status_number Hazard = 5
status_number NoMemory = 6
status_number TooLarge = 7
status_number BadFile = 8
status_number NoOrder = 9
status_number Differs = 10
status_number NoChannel = 16
status_number NoPeer = 17

-- the statuses with which the whole output was written
abbrev pub is_whole : Status → Bool
is_whole Done = true
is_whole Hazard = true
is_whole Differs = true
is_whole _ = false

-- the statuses with which an answer was written, also a part of one
abbrev pub has_output : Status → Bool
has_output Write = true
has_output status = is_whole status

-- the statuses with which a command refuses
abbrev pub is_refusing : Status → Bool
is_refusing RefusedText = true
is_refusing TooLarge = true
is_refusing BadFile = true
is_refusing NoOrder = true
is_refusing NoChannel = true
is_refusing NoPeer = true
is_refusing _ = false
