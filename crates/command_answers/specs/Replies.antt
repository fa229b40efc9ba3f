-- What the code of a command results in before anything is written, as an answer or a fault.
use Rattle.std.specs.Prelude.{ℕ, List, Contains, ◌⊎◌}
use Rattle.chp_edge.specs.Faults.{Rose, IsReadFault}
use Rattle.command_answers.specs.declared.answer.Output.{Output}
use Rattle.command_answers.specs.declared.answer.Refusal.{Refusal}
use Rattle.command_answers.specs.declared.answer.Refusal.TheVariants.{Text, TooLong, TooManyNodes, TooManyForms, TooManyValues, BadFile, NoReset, NoOrder, NoChannel, NoPeer}
use Rattle.command_answers.specs.declared.answer.Stop.{Stop}
use Rattle.command_answers.specs.declared.answer.Stop.TheVariants.{Refused, Unread, NoMemory}
use Rattle.command_answers.specs.declared.answer.End.{End}
use Rattle.command_answers.specs.declared.answer.End.TheVariants.{Whole, CutOff, Usage, Stopped}
use Rattle.command_answers.specs.declared.status.Status.{Status}
use Rattle.command_answers.specs.declared.status.Status.TheVariants as status
use Rattle.command_answers.specs.Answers.{Given, Answer, writes, refuses, misses, status_with, line_with}
use Rattle.command_answers.specs.Lines.{usage_line, read_line, write_line, no_memory_line, refused_line, too_long_line, nodes_line, forms_line, values_line, bad_file_line, no_reset_line, no_order_line, no_channel_line, no_peer_line}

abbrev pub told_answer : Output → Answer
told_answer output = writes output.end output.text.items

abbrev pub refusal_status : Refusal → Status
refusal_status (Text fault) = status.RefusedText
refusal_status (TooLong name limit) = status.TooLarge
refusal_status (TooManyNodes count) = status.TooLarge
refusal_status (TooManyForms count) = status.TooLarge
refusal_status TooManyValues = status.TooLarge
refusal_status (BadFile number cause line) = status.BadFile
refusal_status NoReset = status.BadFile
refusal_status (NoOrder name) = status.NoOrder
refusal_status (NoChannel name) = status.NoChannel
refusal_status (NoPeer name) = status.NoPeer

abbrev pub refusal_line : Refusal → List ℕ
refusal_line (Text fault) = refused_line fault
refusal_line (TooLong name limit) = too_long_line name.now limit
refusal_line (TooManyNodes count) = nodes_line count
refusal_line (TooManyForms count) = forms_line count
refusal_line TooManyValues = values_line
refusal_line (BadFile number cause line) = bad_file_line number cause.now line
refusal_line NoReset = no_reset_line
refusal_line (NoOrder name) = no_order_line name.now
refusal_line (NoChannel name) = no_channel_line name.now
refusal_line (NoPeer name) = no_peer_line name.now

abbrev pub refusing : Refusal → Answer
refusing refusal = refuses (refusal_status refusal) (refusal_line refusal)

abbrev pub stop_status : Stop → Status
stop_status (Refused refusal) = refusal_status refusal
stop_status (Unread name) = status.Read
stop_status NoMemory = status.NoMemory

abbrev pub stop_line : Stop → List ℕ
stop_line (Refused refusal) = refusal_line refusal
stop_line (Unread name) = read_line name.now
stop_line NoMemory = no_memory_line

abbrev pub end_status : End → Status
end_status (Whole end) = status_with end
end_status CutOff = status.Write
end_status Usage = status.Usage
end_status (Stopped stop) = stop_status stop

abbrev pub end_line : End → List ℕ
end_line (Whole end) = line_with end
end_line CutOff = write_line
end_line Usage = usage_line
end_line (Stopped stop) = stop_line stop

-- a step that reads no file ends so: with one of these answers, or out of memory
abbrev pub Halts : (Answer → Type 0) → Stop → Type 0
Halts IsAnswer (Refused refusal) = IsAnswer (refusing refusal)
Halts IsAnswer (Unread name) = ⊥
Halts IsAnswer NoMemory = Unit {0}

-- a file of the command can't be read: the shelf's count of faults rose, or it holds no file of that name, and then
-- this is an answer of the command
pub record IsUnread (IsAnswer : Answer → Type 0) (files : List (List ℕ)) (given : Given) (before after : ℕ)
    (name : List ℕ) : Type 0 where
  pub own : Contains files name
  pub fault : IsReadFault before after given.tells (given.files name)
  pub missed : Rose before after ⊎ IsAnswer (misses name)

-- one that reads these files ends so, where the shelf had so many faults before and has so many after it
abbrev pub Stops : (Answer → Type 0) → (files : List (List ℕ)) → Given → (before after : ℕ) → Stop → Type 0
Stops IsAnswer files given before after (Refused refusal) = IsAnswer (refusing refusal)
Stops IsAnswer files given before after (Unread name) = IsUnread IsAnswer files given before after name.now
Stops IsAnswer files given before after NoMemory = Unit {0}
