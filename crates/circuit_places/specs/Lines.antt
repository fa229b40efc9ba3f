-- What many sites share; and what a statement sees of the nodes outside all statements.
use Rattle.std.specs.Prelude.{ℕ, ◌==◌, Bool, false}
use Rattle.chp_base.specs.declared.span.Span.{Span}
use Rattle.width_check.specs.Processes.{Formula, Process, sending, assigning, TypedProgram}
use Rattle.width_check.specs.Typing.{channel_width, var_width}
pub use Rattle.function_blocks.specs.Rails.{Rails}

-- the sending end of a channel, and a variable as it is written
pub data Line : Type 0 where
  of_channel of_var : ℕ → Line

abbrev pub same_line : Line → Line → Bool
same_line (of_channel c) (of_channel k) = c == k
same_line (of_channel c) (of_var y) = false
same_line (of_var x) (of_channel k) = false
same_line (of_var x) (of_var y) = x == y

-- the statement at a site of the line
abbrev pub site_statement : Line → Span → Formula → Process
site_statement (of_channel c) at e = sending c at e
site_statement (of_var x) at e = assigning x at e

abbrev pub line_width : TypedProgram → Line → ℕ
line_width P (of_channel c) = channel_width P.channels c
line_width P (of_var x) = var_width P.vars x

-- The width of each line, its acknowledge and its rails; and the rails of the variables' values.
pub record Seen : Type 0 where
  pub width : Line → ℕ
  pub ack : Line → Bool
  pub rail : Line → Rails
  pub bit : (var : ℕ) → Rails
