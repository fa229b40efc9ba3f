-- Assignments that read their own target, in two halves: `x := e` with x in e is `h := e; x := h` with a variable h
-- that nothing else has.
use Rattle.std.specs.Prelude.{◌≡◌, ℕ, ◌+◌, ◌-◌, ◌^◌, ◌*◌, ◌<◌, ◌≤◌, Bool, true, false, List, [], ◌∷◌, ◌++◌, length, All, ◌↔◌}
use Rattle.chp_base.specs.declared.span.Span.{Span}
use Rattle.chp_base.specs.declared.channel.Channel.{Channel}
use Rattle.env_script.specs.Scripts.{OfferValue}
use Rattle.width_check.specs.declared.typed.Var.{Var}
use Rattle.width_check.specs.Processes.{Formula, reading, Process, skipping, assigning, sending, receiving, in_turn, side_by_side, choosing, repeating, Processes, no_members, and_member, Choices, no_choices, and_choice, TypedProgram}
use Rattle.width_check.specs.Values.{width_of}
use Rattle.width_check.specs.Reads.{reads}
use Rattle.width_check.specs.Typing.{IsDeclaredChannel, IsProcess, IsTyped}
use Rattle.width_check.specs.Sharing.{MeetsSharing}
use Rattle.chp_meaning.specs.Terms.{finished}
use Rattle.chp_meaning.specs.Steps.{Configuration, Leads, start_of}
use Rattle.chp_meaning.specs.Ends.{CanStep}

-- the variable between the halves, without a name
abbrev pub hidden_var : Formula → Var
hidden_var e = record { name = []; width = width_of e; first = 0 }

abbrev pub hidden_of : Bool → Formula → List Var
hidden_of false e = []
hidden_of true e = hidden_var e ∷ []

-- one for each assignment that reads its own target, in the order of the text
abbrev mutual
  pub hidden_vars : Process → List Var
  hidden_vars skipping = []
  hidden_vars (assigning x at e) = hidden_of (reads x e) e
  hidden_vars (sending chan at e) = []
  hidden_vars (receiving chan chan_at x var_at) = []
  hidden_vars (in_turn members) = hidden_in_each members
  hidden_vars (side_by_side members) = hidden_in_each members
  hidden_vars (choosing again choices) = hidden_in_choices choices
  hidden_vars (repeating p) = hidden_vars p

  pub hidden_in_each : Processes → List Var
  hidden_in_each no_members = []
  hidden_in_each (and_member p more) = hidden_vars p ++ hidden_in_each more

  pub hidden_in_choices : Choices → List Var
  hidden_in_choices no_choices = []
  hidden_in_choices (and_choice g p more) = hidden_vars p ++ hidden_in_choices more

-- all of a variable that is as wide as the expression
abbrev pub read_through : ℕ → Formula → Span → Formula
read_through h e at = reading h (width_of e - 1) 0 at

abbrev pub in_halves : ℕ → ℕ → Span → Formula → Process
in_halves h x at e = in_turn (and_member (assigning h at e)
    (and_member (assigning x at (read_through h e at)) no_members))

abbrev pub halved_assign : Bool → ℕ → ℕ → Span → Formula → Process
halved_assign false h x at e = assigning x at e
halved_assign true h x at e = in_halves h x at e

-- the hidden variables are numbered from here on
abbrev mutual
  pub halved : ℕ → Process → Process
  halved n skipping = skipping
  halved n (assigning x at e) = halved_assign (reads x e) n x at e
  halved n (sending chan at e) = sending chan at e
  halved n (receiving chan chan_at x var_at) = receiving chan chan_at x var_at
  halved n (in_turn members) = in_turn (halved_each n members)
  halved n (side_by_side members) = side_by_side (halved_each n members)
  halved n (choosing again choices) = choosing again (halved_choices n choices)
  halved n (repeating p) = repeating (halved n p)

  pub halved_each : ℕ → Processes → Processes
  halved_each n no_members = no_members
  halved_each n (and_member p more) = and_member (halved n p) (halved_each (n + length (hidden_vars p)) more)

  pub halved_choices : ℕ → Choices → Choices
  halved_choices n no_choices = no_choices
  halved_choices n (and_choice g p more) = and_choice g (halved n p) (halved_choices (n + length (hidden_vars p)) more)

-- the hidden variables are declared after all others
abbrev pub halved_program : TypedProgram → TypedProgram
halved_program p = record {
  channels = p.channels;
  vars = p.vars ++ hidden_vars p.body;
  body =
      halved (length p.vars) p.body;
}

-- no assignment reads its own target
abbrev mutual
  pub ReadsNoTarget : Process → Type 0
  ReadsNoTarget skipping = Unit {0}
  ReadsNoTarget (assigning x at e) = reads x e ≡ false
  ReadsNoTarget (sending chan at e) = Unit {0}
  ReadsNoTarget (receiving chan chan_at x var_at) = Unit {0}
  ReadsNoTarget (in_turn members) = EachReadsNoTarget members
  ReadsNoTarget (side_by_side members) = EachReadsNoTarget members
  ReadsNoTarget (choosing again choices) = ChoicesReadNoTarget choices
  ReadsNoTarget (repeating p) = ReadsNoTarget p

  pub EachReadsNoTarget : Processes → Type 0
  EachReadsNoTarget no_members = Unit {0}
  EachReadsNoTarget (and_member p more) = ReadsNoTarget p × EachReadsNoTarget more

  pub ChoicesReadNoTarget : Choices → Type 0
  ChoicesReadNoTarget no_choices = Unit {0}
  ChoicesReadNoTarget (and_choice g p more) = ReadsNoTarget p × ChoicesReadNoTarget more

-- declared except for its name
pub record IsSizedVar (v : Var) : Type 0 where
  pub some : 1 ≤ v.width
  pub most : v.width ≤ 64
  pub first : v.first < 2 ^ v.width

-- a program is typed except for the names of its variables
pub record IsSized (channels : List Channel) (vars : List Var) (body : Process) : Type 0 where
  pub each_channel : All IsDeclaredChannel channels
  pub each_var : All IsSizedVar vars
  pub body_is : IsProcess channels vars body

-- what a circuit asks of a program: besides, it meets the sharing rule, and no assignment of it reads its own target
pub record IsPlain (p : TypedProgram) : Type 0 where
  pub sized : IsSized p.channels p.vars p.body
  pub unshared : MeetsSharing p.body
  pub plain : ReadsNoTarget p.body

-- the first has come as far as the second: the same has passed, the first goes on if the second does, and both have
-- ended, or neither
pub record IsAbreast (c d : Configuration) : Type 0 where
  pub histories : c.histories ≡ d.histories
  pub goes_on : CanStep c → CanStep d
  pub ends : (c.term ≡ finished) ↔ (d.term ≡ finished)

-- to each run of the second program there is one of the first, of no more steps, that has come as far
abbrev pub Follows : TypedProgram → TypedProgram → List OfferValue → Type 0
Follows p q script = (m : ℕ) (d : Configuration) → Leads (start_of q script) m d
    → (c : Configuration) × (n : ℕ) × (n ≤ m) × Leads (start_of p script) n c × IsAbreast c d

-- so the program follows the program in halves
abbrev pub HalvesFollow : Type 0
HalvesFollow = (p : TypedProgram) (script : List OfferValue) → IsTyped p.channels p.vars p.body → MeetsSharing p.body →
    Follows p (halved_program p) script

-- which a circuit can be made of
abbrev pub HalvesArePlain : Type 0
HalvesArePlain = (p : TypedProgram) → IsTyped p.channels p.vars p.body → MeetsSharing p.body →
    IsPlain (halved_program p)

-- and it has twice as many steps at most as some run of the program that has passed the same
abbrev pub HalvesKeepPace : Type 0
HalvesKeepPace =
    (p : TypedProgram) (script : List OfferValue) → IsTyped p.channels p.vars p.body → MeetsSharing p.body
    → (n : ℕ) (d : Configuration) → Leads (start_of (halved_program p) script) n d
    → (m : ℕ) × (c : Configuration) × Leads (start_of p script) m c × (c.histories ≡ d.histories) × (n ≤ 2 * m)
