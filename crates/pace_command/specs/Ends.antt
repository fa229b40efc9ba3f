-- How a call ends: its status, what it appended to the output, and what it says.
use Rattle.std.specs.Prelude.{◌≡◌, ℕ, ◌<◌, true, List, [], ◌∷◌, length, take, Contains, ◌⊎◌, Option, Some, None}
use Rattle.std.specs.String.{string_bytes}
use Rattle.std.specs.declared.alloc.Global.{Global}
use Rattle.std.specs.declared.string.String.{String}
use Rattle.chp_edge.specs.Faults.{Rose, IsReadFault}
use Rattle.command_answers.specs.declared.answer.Ending.TheVariants as ending
use Rattle.command_answers.specs.declared.status.Status.{Status}
use Rattle.command_answers.specs.declared.status.Status.TheVariants.{Done, Usage, Read, Write, NoMemory}
use Rattle.command_answers.specs.Answers.{Given, writes, refuses, misses}
use Rattle.command_answers.specs.Lines.{usage_line, read_line, write_line, no_memory_line}
use Rattle.command_answers.specs.Statuses.{is_refusing}
use Rattle.pace_command.specs.Pacing.{AskedPace, Paces, files_of}

-- the names that the words are: that of a program, or those of a program and a script
abbrev pub words_ask : List (String Global) → Option AskedPace
words_ask (file ∷ []) = Some (record { file = string_bytes file; script = None })
words_ask (file ∷ script ∷ []) = Some (record { file = string_bytes file; script = Some (string_bytes script) })
words_ask _ = None

-- how many faults were counted before a call, and after it
pub record Counts : Type 0 where
  pub before : ℕ
  pub after : ℕ

abbrev pub counts : (before after : ℕ) → Counts
counts before after = record { before = before; after = after }

-- A call of these words, where the shelf gives this, with the faults of the shelf and of the output, ends in one of
-- these ways: with this status, when it has appended this to the output, and then says this line.
pub data Ends (words : Option AskedPace) (given : Given) (read put : Counts) : Status → (appended line : List ℕ) →
    Type 0 where
  -- the words are neither one name nor two
  formless : words ≡ None → Ends words given read put Usage [] usage_line
  -- all was written
  whole : (asked : AskedPace) (text : List ℕ) → words ≡ Some asked → Paces given asked (writes ending.Done text)
      → Ends words given read put Done text []
  -- the output failed: less than the whole was written, a prefix of it
  cut_off : (asked : AskedPace) (text : List ℕ) (n : ℕ) → words ≡ Some asked
      → Paces given asked (writes ending.Done text) → n < length text → Rose put.before put.after
      → Ends words given read put Write (take n text) write_line
  -- it refuses
  refused : (asked : AskedPace) (status : Status) (line : List ℕ) → words ≡ Some asked → is_refusing status ≡ true
      → Paces given asked (refuses status line) → Ends words given read put status [] line
  -- a file wasn't read: the shelf failed, or it isn't there
  unread : (asked : AskedPace) (name : List ℕ) → words ≡ Some asked → Contains (files_of asked) name
      → IsReadFault read.before read.after given.tells (given.files name)
      → Rose read.before read.after ⊎ Paces given asked (misses name)
      → Ends words given read put Read [] (read_line name)
  no_memory : Ends words given read put NoMemory [] no_memory_line
