-- What the declarations and the stages of a generated program are, wherever they stand in its text.
use Rattle.std.proofs.Common.{◌≡◌, ◌∙◌, ℕ, zero, suc, ◌+◌, ◌-◌, ◌*◌, ◌<◌, ◌≤◌, ◌⊎◌, inl, inr, List, [], ◌∷◌, ◌++◌, refl, sym, ap, arith}
use Rattle.chp_base.specs.declared.span.Span.{Span}
use Rattle.chp_syntax.specs.declared.tree.Decl.{Decl}
use Rattle.chp_syntax.specs.declared.tree.DeclKind.{DeclKind}
use Rattle.chp_syntax.specs.declared.tree.DeclKind.TheVariants.{In, Out, Chan, Var}
use Rattle.chp_syntax.specs.declared.tree.Op.{Op}
use Rattle.chp_syntax.specs.declared.tree.Op.TheVariants.{Add, Sub, Xor}
use Rattle.chp_syntax.specs.Grammar.{named, parallel_of}
use Rattle.chp_syntax.specs.Trees.{Expression, number, whole, negation, chain, no_links, and_link, Statement, sends, receives, follows, repeats, Statements, no_members, and_member}
use Rattle.grown_programs.proofs.Decimals.{numbered}

-- ---- declarations

-- a declaration of eight bits that is wanted: its kind, and the letter and the number of its name
pub record Wanted : Type 0 where
  pub kind : DeclKind
  pub letter : ℕ
  pub number : ℕ

abbrev pub wanted : DeclKind → (letter number : ℕ) → Wanted
wanted kind letter n = record { kind = kind; letter = letter; number = n }

abbrev pub name_wanted : Wanted → List ℕ
name_wanted w = numbered w.letter w.number

-- so many channels between two stages, and so many variables, from a number on
abbrev pub inner_channels : (from count : ℕ) → List Wanted → List Wanted
inner_channels from zero more = more
inner_channels from (suc count) more = wanted Chan 99 from ∷ inner_channels (from + 1) count more

abbrev pub stage_variables : (from count : ℕ) → List Wanted
stage_variables from zero = []
stage_variables from (suc count) = wanted Var 118 from ∷ stage_variables (from + 1) count

-- all that a program of so many stages declares
abbrev pub all_wanted : (stages : ℕ) → List Wanted
all_wanted stages =
    wanted In 99 0 ∷ inner_channels 1 (stages - 1) (wanted Out 99 stages ∷ stage_variables 1 stages)

pub record IsWanted (w : Wanted) (d : Decl) : Type 0 where
  pub kind : d.kind ≡ w.kind
  pub name : d.name.name ≡ name_wanted w
  pub width : d.width ≡ 8
  pub first : d.first ≡ 0

-- the declarations are those that are wanted, in order
abbrev pub AreWanted : List Wanted → List Decl → Type 0
AreWanted [] [] = Unit {0}
AreWanted (w ∷ ws) (d ∷ ds) = IsWanted w d × AreWanted ws ds
AreWanted _ _ = ⊥

-- ---- stages

abbrev pub channel_at : ℕ → List ℕ
channel_at i = numbered 99 i

abbrev pub variable_at : ℕ → List ℕ
variable_at i = numbered 118 i

-- what a stage sends
pub data IsSent (i : ℕ) : Expression → Type 0 where
  a_sum : {k : ℕ} {s t r : Span} → k < 256 → IsSent i (chain (whole (named (variable_at i) s)) (and_link Add (number k t) no_links) r)
  a_difference : {k : ℕ} {s t r : Span} → k < 256 → IsSent i (chain (whole (named (variable_at i) s)) (and_link Sub (number k t) no_links) r)
  an_exclusive_or : {k : ℕ} {s t r : Span} → k < 256 → IsSent i (chain (whole (named (variable_at i) s)) (and_link Xor (number k t) no_links) r)
  a_complement : {s r : Span} → IsSent i (negation (whole (named (variable_at i) s)) r)

-- the loop of a stage
pub data IsStage (i : ℕ) : Statement → Type 0 where
  a_stage : {e : Expression} {s t u : Span} → IsSent i e → IsStage i (repeats (follows (
      and_member (receives (named (channel_at (i - 1)) s) (named (variable_at i) t))
      (and_member (sends (named (channel_at i) u) e) no_members))))

-- so many stages, from a number on
pub data AreStages : (from count : ℕ) → Statements → Type 0 where
  no_stage : {from : ℕ} → AreStages from 0 no_members
  one_more_stage : {from count : ℕ} {t : Statement} {us : Statements} → IsStage from t → AreStages (from + 1) count us →
      AreStages from (suc count) (and_member t us)

-- the body of a program of so many stages
pub record IsBody (stages : ℕ) (body : Statement) : Type 0 where
  pub first : Statement
  pub others : Statements
  pub is_first : IsStage 1 first
  pub are_others : AreStages 2 (stages - 1) others
  pub is : body ≡ parallel_of first others
