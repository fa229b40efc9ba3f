-- Programs as plain trees: what a program says, without its position in memory.
use Rattle.std.specs.Prelude.{ℕ, Bool, List}
use Rattle.chp_base.specs.declared.span.Span.{Span}
use Rattle.chp_syntax.specs.declared.tree.Ident.{Ident}
use Rattle.chp_syntax.specs.declared.tree.Decl.{Decl}
use Rattle.chp_syntax.specs.declared.tree.Op.{Op}

mutual
  pub data Expression : Type 0 where
    number : ℕ → Span → Expression
    whole : Ident → Expression
    slice : (of : Ident) (high low : ℕ) → Span → Expression
    bit : (of : Ident) (place : ℕ) → Span → Expression
    join : Expressions → Span → Expression
    negation : Expression → Span → Expression
    chain : Expression → Links → Span → Expression

  pub data Expressions : Type 0 where
    no_parts : Expressions
    and_part : Expression → Expressions → Expressions

  pub data Links : Type 0 where
    no_links : Links
    and_link : Op → Expression → Links → Links

mutual
  pub data Statement : Type 0 where
    skips : Span → Statement
    assigns : (target : Ident) → Expression → Statement
    sends : (chan : Ident) → Expression → Statement
    receives : (chan target : Ident) → Statement
    follows : Statements → Statement
    besides : Statements → Statement
    selects : (again : Bool) → Arms → Statement
    repeats : Statement → Statement
    calls : Ident → Statement

  pub data Statements : Type 0 where
    no_members : Statements
    and_member : Statement → Statements → Statements

  pub data Arms : Type 0 where
    no_arms : Arms
    and_arm : Expression → Statement → Arms → Arms

pub record Procedure : Type 0 where
  pub name : Ident
  pub body : Statement

pub record ProgramTree : Type 0 where
  pub decls : List Decl
  pub procs : List Procedure
  pub body : Statement
