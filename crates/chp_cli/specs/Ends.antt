-- How a call ends: its status, what it appended to the output, and what it says. No command is named here.
use Rattle.std.specs.Prelude.{◌≡◌, ℕ, ◌<◌, true, List, [], length, take, Contains, ◌⊎◌, Option, Some, None}
use Rattle.chp_edge.specs.Faults.{Rose, IsReadFault}
use Rattle.command_answers.specs.declared.answer.Ending.{Ending}
use Rattle.command_answers.specs.declared.status.Status.{Status}
use Rattle.command_answers.specs.declared.status.Status.TheVariants.{Usage, Read, Write, NoMemory}
use Rattle.command_answers.specs.Answers.{Given, Answer, writes, refuses, misses, status_with, line_with}
use Rattle.bench_commands.specs.HandedIn.{HandedIn}
use Rattle.command_words.specs.CommandWords.{Asked}
use Rattle.peer_bench.specs.Asking.{PeerValue}
use Rattle.chp_cli.specs.Commands.{IsAnswer, files_of, order_of, peer_of}
use Rattle.chp_cli.specs.Settings.{Setting}
use Rattle.command_answers.specs.Lines.{usage_line, read_line, write_line, no_memory_line}
use Rattle.command_steps.specs.Orders.{OrderState}
use Rattle.command_answers.specs.Statuses.{is_refusing}

-- it is an answer of the command that is asked for
abbrev pub AnswersAsked : Option Asked → Given → HandedIn → Answer → Type 0
AnswersAsked None given handed answer = ⊥
AnswersAsked (Some command) given handed answer = IsAnswer command given handed answer

abbrev pub AnswersTo : Setting → Answer → Type 0
AnswersTo s answer = AnswersAsked s.asked s.given s.handed answer

-- the name is that of a file of the command that is asked for
abbrev pub IsFile : Option Asked → (name : List ℕ) → Type 0
IsFile None name = ⊥
IsFile (Some command) name = Contains (files_of command) name

-- the place of the order that the command asks for, if it asks for one
abbrev pub asked_order : Option Asked → List OrderState → Option ℕ
asked_order None orders = None
asked_order (Some command) orders = order_of command orders

-- and that of the device
abbrev pub asked_peer : Option Asked → List PeerValue → Option ℕ
asked_peer None peers = None
asked_peer (Some command) peers = peer_of command peers

-- A call in this setting ends in one of these ways: with this status, when it has appended this to the output, and then
-- says this line.
pub data Ends (s : Setting) : Status → (appended line : List ℕ) → Type 0 where
  -- the words are no form of a command
  formless : s.asked ≡ None → Ends s Usage [] usage_line
  -- the command writes, and all was written
  whole : (end : Ending) (text : List ℕ) → AnswersTo s (writes end text)
      → Ends s (status_with end) text (line_with end)
  -- it writes, and the output failed: less than the whole was written, a prefix of it
  cut_off : (end : Ending) (text : List ℕ) (n : ℕ) → AnswersTo s (writes end text) → n < length text
      → Rose s.put.before s.put.after → Ends s Write (take n text) write_line
  -- it refuses
  refused : (status : Status) (line : List ℕ) → is_refusing status ≡ true → AnswersTo s (refuses status line)
      → Ends s status [] line
  -- a read fault of a file of the command: the shelf failed, or that the file isn't there is the command's answer
  unread : (name : List ℕ) → IsFile s.asked name
      → IsReadFault s.read.before s.read.after s.given.tells (s.given.files name)
      → Rose s.read.before s.read.after ⊎ AnswersTo s (misses name) → Ends s Read [] (read_line name)
  no_memory : Ends s NoMemory [] no_memory_line
