-- What `migrate` answers.
use Rattle.std.specs.Prelude.{◌≡◌, ℕ, ◌+◌, ◌≤◌, List, length, Option, Some, None, bytes_eq, codes, position}
use Rattle.prs_core.specs.Nets.{NetValue, IsNet}
use Rattle.prs_file.specs.declared.fault.NetFault.TheVariants.{DoubleName}
use Rattle.prs_file.specs.Spelling.{NetText}
use Rattle.reset_net.specs.Resets.{reset_of}
use Rattle.command_answers.specs.declared.answer.Ending.TheVariants.{Done}
use Rattle.command_answers.specs.declared.status.Status.TheVariants.{BadFile}
use Rattle.command_answers.specs.Answers.{Given, Answer, writes, refuses}
use Rattle.command_answers.specs.Lines.{bad_net_line}
use Rattle.command_steps.specs.Steps.{FromFile, FromNet, most_of_net}

-- the net with a reset node: itself where it has one
abbrev pub resettable : Option ℕ → NetValue → NetValue
resettable None n = reset_of n
resettable (Some node) n = n

-- the number of the node named reset
abbrev pub named_reset : List (List ℕ) → Option ℕ
named_reset names = position (λ name. bytes_eq name (codes "reset")) names

-- A net without a reset node can't be migrated where one of its nodes has that name; the refusal gives the line of that
-- name: the node's number and two. Else the one text of the net with a reset node is written.
pub data MigratesNet (net : NetValue) : Answer → Type 0 where
  taken : {node : ℕ} → net.reset ≡ None → named_reset net.names ≡ Some node →
      MigratesNet net (refuses BadFile (bad_net_line DoubleName (node + 2)))
  migrated : {file : List ℕ} → (net.reset ≡ None → named_reset net.names ≡ None) →
      NetText file (resettable net.reset net) → MigratesNet net (writes Done file)

abbrev pub Migrates : Given → (file : List ℕ) → Answer → Type 0
Migrates given file = FromFile given file most_of_net (λ text. FromNet text MigratesNet)

-- the file holds what is to be migrated: a rule file within the limit whose net has a reset node, or no node of its
-- name
pub record IsToMigrate (given : Given) (file : List ℕ) : Type 0 where
  pub text : List ℕ
  pub net : NetValue
  pub held : given.files file ≡ Some text
  pub short : length text ≤ most_of_net
  pub kept : IsNet net
  pub spelled : NetText text net
  pub free : net.reset ≡ None → named_reset net.names ≡ None
