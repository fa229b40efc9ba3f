-- The invariant of a typed program.
use Rattle.std.specs.Prelude.{◌≡◌, ◌≢◌, ℕ, zero, suc, ◌<◌, ◌≤◌, ◌^◌, List, [], ◌∷◌, ◌++◌, length, map, All, AllPairs}
use Rattle.chp_base.specs.Names.{IsName}
use Rattle.chp_base.specs.declared.channel.Channel.{Channel}
use Rattle.chp_base.specs.declared.channel.Kind.{Kind}
use Rattle.chp_base.specs.declared.channel.Kind.TheVariants.{In, Out, Chan}
use Rattle.width_check.specs.declared.typed.Var.{Var}
use Rattle.width_check.specs.Processes.{Formula, constant, reading, joined, inverted, chained, compared, Formulas, no_parts, and_part, Operations, no_operations, and_operation, Process, skipping, assigning, sending, receiving, in_turn, side_by_side, choosing, repeating, Processes, no_members, and_member, Choices, no_choices, and_choice, member_count, choice_count}
use Rattle.width_check.specs.Values.{width_of, IsWellFormed}

-- of the channel and of the variable of a number
abbrev pub kind_at : List Channel → ℕ → Kind
kind_at [] c = Chan
kind_at (x ∷ xs) zero = x.kind
kind_at (x ∷ xs) (suc c) = kind_at xs c

abbrev pub channel_width : List Channel → ℕ → ℕ
channel_width [] c = 0
channel_width (x ∷ xs) zero = x.width
channel_width (x ∷ xs) (suc c) = channel_width xs c

abbrev pub var_width : List Var → ℕ → ℕ
var_width [] v = 0
var_width (x ∷ xs) zero = x.width
var_width (x ∷ xs) (suc v) = var_width xs v

-- the bits that are read are bits of these variables
abbrev mutual
  pub ReadsFrom : List Var → Formula → Type 0
  ReadsFrom vars (constant width v) = Unit {0}
  ReadsFrom vars (reading var high low at) = (var < length vars) × (high < var_width vars var)
  ReadsFrom vars (joined parts) = EachReadsFrom vars parts
  ReadsFrom vars (inverted e) = ReadsFrom vars e
  ReadsFrom vars (chained e more) = ReadsFrom vars e × AllReadFrom vars more
  ReadsFrom vars (compared op e f) = ReadsFrom vars e × ReadsFrom vars f

  pub EachReadsFrom : List Var → Formulas → Type 0
  EachReadsFrom vars no_parts = Unit {0}
  EachReadsFrom vars (and_part e more) = ReadsFrom vars e × EachReadsFrom vars more

  pub AllReadFrom : List Var → Operations → Type 0
  AllReadFrom vars no_operations = Unit {0}
  AllReadFrom vars (and_operation op e more) = ReadsFrom vars e × AllReadFrom vars more

-- an expression of this width over these variables
pub record IsOfWidth (vars : List Var) (width : ℕ) (e : Formula) : Type 0 where
  pub formed : IsWellFormed e
  pub reads : ReadsFrom vars e
  pub agrees : width_of e ≡ width

pub record IsSend (channels : List Channel) (vars : List Var) (c : ℕ) (e : Formula) : Type 0 where
  pub within : c < length channels
  pub direction : kind_at channels c ≢ In
  pub sent : IsOfWidth vars (channel_width channels c) e

pub record IsReceive (channels : List Channel) (vars : List Var) (c v : ℕ) : Type 0 where
  pub within : c < length channels
  pub direction : kind_at channels c ≢ Out
  pub target : v < length vars
  pub widths : var_width vars v ≡ channel_width channels c

-- a statement over these channels and variables
abbrev mutual
  pub IsProcess : List Channel → List Var → Process → Type 0
  IsProcess channels vars skipping = Unit {0}
  IsProcess channels vars (assigning var at e) = (var < length vars) × IsOfWidth vars (var_width vars var) e
  IsProcess channels vars (sending chan at e) = IsSend channels vars chan e
  IsProcess channels vars (receiving chan chan_at var var_at) = IsReceive channels vars chan var
  IsProcess channels vars (in_turn members) = (2 ≤ member_count members) × AreProcesses channels vars members
  IsProcess channels vars (side_by_side members) = (2 ≤ member_count members) × AreProcesses channels vars members
  IsProcess channels vars (choosing again choices) = (1 ≤ choice_count choices) × (choice_count choices ≤ 16)
      × AreChoices channels vars choices
  IsProcess channels vars (repeating p) = IsProcess channels vars p

  pub AreProcesses : List Channel → List Var → Processes → Type 0
  AreProcesses channels vars no_members = Unit {0}
  AreProcesses channels vars (and_member p more) = IsProcess channels vars p × AreProcesses channels vars more

  pub AreChoices : List Channel → List Var → Choices → Type 0
  AreChoices channels vars no_choices = Unit {0}
  AreChoices channels vars (and_choice g p more) = IsOfWidth vars 1 g × IsProcess channels vars p
      × AreChoices channels vars more

pub record IsDeclaredChannel (c : Channel) : Type 0 where
  pub name : IsName c.name
  pub some : 1 ≤ c.width
  pub most : c.width ≤ 64

pub record IsDeclaredVar (v : Var) : Type 0 where
  pub name : IsName v.name
  pub some : 1 ≤ v.width
  pub most : v.width ≤ 64
  pub first : v.first < 2 ^ v.width

abbrev pub names_of : List Channel → List Var → List (List ℕ)
names_of channels vars = map (λ (c : Channel). c.name) channels ++ map (λ (v : Var). v.name) vars

pub record IsTyped (channels : List Channel) (vars : List Var) (body : Process) : Type 0 where
  pub each_channel : All IsDeclaredChannel channels
  pub each_var : All IsDeclaredVar vars
  pub distinct : AllPairs (λ (a b : List ℕ). a ≢ b) (names_of channels vars)
  pub body_is : IsProcess channels vars body
