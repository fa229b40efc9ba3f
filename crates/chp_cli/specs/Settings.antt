-- The setting of a call.
use Rattle.std.specs.Prelude.{ℕ, Option}
use Rattle.command_answers.specs.Answers.{Given}
use Rattle.command_words.specs.CommandWords.{Asked}
use Rattle.bench_commands.specs.HandedIn.{HandedIn}

-- how many faults were counted before a call, and after it
pub record Counts : Type 0 where
  pub before : ℕ
  pub after : ℕ

-- The command that the words ask for, if they are one's form; what the shelf gives; what is handed in; and the faults
-- of the shelf and of the output.
pub record Setting : Type 0 where
  pub asked : Option Asked
  pub given : Given
  pub handed : HandedIn
  pub read : Counts
  pub put : Counts
