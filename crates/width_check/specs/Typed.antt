-- The view of a typed program in contracts.
use Rattle.std.specs.Prelude.{List}
use Rattle.chp_base.specs.declared.channel.Channel.{Channel}
use Rattle.width_check.specs.declared.typed.Var.{Var}
use Rattle.width_check.specs.declared.typed.TStmt.{TStmt}
use Rattle.width_check.specs.Processes.{TypedProgram}
use Rattle.width_check.specs.View.{process_of}

pub record TypedValue : Type 0 where
  pub channels : List Channel
  pub vars : List Var
  pub body : TStmt

abbrev pub typed_value : List Channel → List Var → TStmt → TypedValue
typed_value channels vars body = record { channels = channels; vars = vars; body = body }

-- the program as a plain tree
abbrev pub program_of : TypedValue → TypedProgram
program_of t = record { channels = t.channels; vars = t.vars; body = process_of t.body }
