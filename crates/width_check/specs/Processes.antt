-- Typed programs as plain trees: what a program says, without its position in memory.
use Rattle.std.specs.Prelude.{ℕ, suc, Bool, List}
use Rattle.chp_base.specs.declared.span.Span.{Span}
use Rattle.chp_base.specs.declared.channel.Channel.{Channel}
use Rattle.chp_syntax.specs.declared.tree.Op.{Op}
use Rattle.width_check.specs.declared.typed.Var.{Var}

mutual
  pub data Formula : Type 0 where
    constant : (width value : ℕ) → Formula
    reading : (var high low : ℕ) → Span → Formula
    joined : Formulas → Formula
    inverted : Formula → Formula
    chained : Formula → Operations → Formula
    compared : Op → Formula → Formula → Formula

  pub data Formulas : Type 0 where
    no_parts : Formulas
    and_part : Formula → Formulas → Formulas

  -- operators with their right sides
  pub data Operations : Type 0 where
    no_operations : Operations
    and_operation : Op → Formula → Operations → Operations

mutual
  pub data Process : Type 0 where
    skipping : Process
    assigning : (var : ℕ) → Span → Formula → Process
    sending : (chan : ℕ) → Span → Formula → Process
    receiving : (chan : ℕ) → Span → (var : ℕ) → Span → Process
    in_turn : Processes → Process
    side_by_side : Processes → Process
    choosing : (again : Bool) → Choices → Process
    repeating : Process → Process

  pub data Processes : Type 0 where
    no_members : Processes
    and_member : Process → Processes → Processes

  -- guards with their branches
  pub data Choices : Type 0 where
    no_choices : Choices
    and_choice : Formula → Process → Choices → Choices

pub record TypedProgram : Type 0 where
  pub channels : List Channel
  pub vars : List Var
  pub body : Process

abbrev pub formula_count : Formulas → ℕ
formula_count no_parts = 0
formula_count (and_part e more) = suc (formula_count more)

abbrev pub operation_count : Operations → ℕ
operation_count no_operations = 0
operation_count (and_operation op e more) = suc (operation_count more)

abbrev pub member_count : Processes → ℕ
member_count no_members = 0
member_count (and_member p more) = suc (member_count more)

abbrev pub choice_count : Choices → ℕ
choice_count no_choices = 0
choice_count (and_choice g p more) = suc (choice_count more)
