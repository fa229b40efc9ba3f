-- The sharing rule: what two parallel branches may not both do.
use Rattle.std.specs.Prelude.{◌≡◌, ℕ, ◌⊎◌, List, [], ◌∷◌, ◌++◌, Contains}
use Rattle.chp_base.specs.declared.span.Span.{Span}
use Rattle.chp_base.specs.declared.fault.FaultCode.{FaultCode}
use Rattle.chp_base.specs.declared.fault.FaultCode.TheVariants as code
use Rattle.width_check.specs.Order.{IsNoLater}
use Rattle.width_check.specs.Processes.{Formula, constant, reading, joined, inverted, chained, compared, Formulas, no_parts, and_part, Operations, no_operations, and_operation, Process, skipping, assigning, sending, receiving, in_turn, side_by_side, choosing, repeating, Processes, no_members, and_member, Choices, no_choices, and_choice}

-- what a place does: it reads or writes a variable, or sends or receives on a channel
pub data Deed : Type 0 where
  reads_var writes_var : ℕ → Deed
  sends_on receives_on : ℕ → Deed

pub record Occurrence : Type 0 where
  pub deed : Deed
  pub at : Span

abbrev pub done_at : Deed → Span → Occurrence
done_at deed at = record { deed = deed; at = at }

abbrev mutual
  pub reads_of : Formula → List Occurrence
  reads_of (constant width v) = []
  reads_of (reading var high low at) = done_at (reads_var var) at ∷ []
  reads_of (joined parts) = reads_of_parts parts
  reads_of (inverted e) = reads_of e
  reads_of (chained e more) = reads_of e ++ reads_of_operations more
  reads_of (compared op e f) = reads_of e ++ reads_of f

  pub reads_of_parts : Formulas → List Occurrence
  reads_of_parts no_parts = []
  reads_of_parts (and_part e more) = reads_of e ++ reads_of_parts more

  pub reads_of_operations : Operations → List Occurrence
  reads_of_operations no_operations = []
  reads_of_operations (and_operation op e more) = reads_of e ++ reads_of_operations more

-- the target of an assignment or a receive is written
abbrev mutual
  pub occurrences : Process → List Occurrence
  occurrences skipping = []
  occurrences (assigning var at e) = done_at (writes_var var) at ∷ reads_of e
  occurrences (sending chan at e) = done_at (sends_on chan) at ∷ reads_of e
  occurrences (receiving chan chan_at var var_at) = done_at (receives_on chan) chan_at ∷ done_at (writes_var var) var_at
      ∷ []
  occurrences (in_turn members) = occurrences_of_each members
  occurrences (side_by_side members) = occurrences_of_each members
  occurrences (choosing again choices) = occurrences_of_choices choices
  occurrences (repeating p) = occurrences p

  pub occurrences_of_each : Processes → List Occurrence
  occurrences_of_each no_members = []
  occurrences_of_each (and_member p more) = occurrences p ++ occurrences_of_each more

  pub occurrences_of_choices : Choices → List Occurrence
  occurrences_of_choices no_choices = []
  occurrences_of_choices (and_choice g p more) = reads_of g ++ (occurrences p ++ occurrences_of_choices more)

-- one occurrence of the process and one of the others, in either order
abbrev pub IsAcross : List Occurrence → List Occurrence → Occurrence → Occurrence → Type 0
IsAcross xs ys a b = (Contains xs a × Contains ys b) ⊎ (Contains ys a × Contains xs b)

-- the smallest statement that holds both occurrences is a parallel composition
abbrev mutual
  pub Parallel : Process → Occurrence → Occurrence → Type 0
  Parallel (in_turn members) a b = ParallelInside members a b
  Parallel (side_by_side members) a b = ParallelInside members a b ⊎ ParallelAcross members a b
  Parallel (choosing again choices) a b = ParallelInChoices choices a b
  Parallel (repeating p) a b = Parallel p a b
  Parallel _ a b = ⊥

  -- both in one member
  pub ParallelInside : Processes → Occurrence → Occurrence → Type 0
  ParallelInside no_members a b = ⊥
  ParallelInside (and_member p more) a b = Parallel p a b ⊎ ParallelInside more a b

  pub ParallelInChoices : Choices → Occurrence → Occurrence → Type 0
  ParallelInChoices no_choices a b = ⊥
  ParallelInChoices (and_choice g p more) a b = Parallel p a b ⊎ ParallelInChoices more a b

  -- in two members
  pub ParallelAcross : Processes → Occurrence → Occurrence → Type 0
  ParallelAcross no_members a b = ⊥
  ParallelAcross (and_member p more) a b =
      IsAcross (occurrences p) (occurrences_of_each more) a b ⊎ ParallelAcross more a b

-- two deeds on one variable, at least one of them writing; two sends; two receives
abbrev pub Clashes : FaultCode → Deed → Deed → Type 0
Clashes code.SharedVariable (writes_var x) (writes_var y) = x ≡ y
Clashes code.SharedVariable (writes_var x) (reads_var y) = x ≡ y
Clashes code.SharedVariable (reads_var x) (writes_var y) = x ≡ y
Clashes code.SharedSend (sends_on x) (sends_on y) = x ≡ y
Clashes code.SharedReceive (receives_on x) (receives_on y) = x ≡ y
Clashes _ _ _ = ⊥

-- two parallel occurrences that clash, the first span no later than the second
pub record SharedAt (body : Process) (c : FaultCode) (first second : Span) : Type 0 where
  pub a : Occurrence
  pub b : Occurrence
  pub parallel : Parallel body a b
  pub clash : Clashes c a.deed b.deed
  pub at_first : first ≡ a.at
  pub at_second : second ≡ b.at
  pub order : IsNoLater first second

-- nothing of the kind is shared
abbrev pub IsUnshared : Process → FaultCode → Type 0
IsUnshared body c = (a b : Occurrence) → Parallel body a b → ¬ Clashes c a.deed b.deed

-- the pair that is reported: the one with the least second span, and among those the least first span
pub record IsFirstShared (body : Process) (c : FaultCode) (first second : Span) : Type 0 where
  pub shared : SharedAt body c first second
  pub least_second : (s t : Span) → SharedAt body c s t → IsNoLater second t
  pub least_first : (s : Span) → SharedAt body c s second → IsNoLater first s

-- the causes in the order in which they are tested
abbrev pub sharing_faults : List FaultCode
sharing_faults = code.SharedVariable ∷ code.SharedSend ∷ code.SharedReceive ∷ []

-- the first of the causes for which something is shared, at the pair of it that is reported
abbrev pub IsFirstSharedFault : Process → List FaultCode → FaultCode → Span → Span → Type 0
IsFirstSharedFault body [] c first second = ⊥
IsFirstSharedFault body (d ∷ ds) c first second =
    ((c ≡ d) × IsFirstShared body d first second) ⊎ (IsUnshared body d × IsFirstSharedFault body ds c first second)

-- the sharing rule
pub record MeetsSharing (body : Process) : Type 0 where
  pub variables : IsUnshared body code.SharedVariable
  pub sends : IsUnshared body code.SharedSend
  pub receives : IsUnshared body code.SharedReceive
