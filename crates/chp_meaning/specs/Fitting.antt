-- Terms whose parallel branches may go on side by side.
use Rattle.std.specs.Prelude.{◌≡◌, ◌⊎◌, List, [], ◌∷◌, ◌++◌}
use Rattle.width_check.specs.Processes.{Process, in_turn, side_by_side, choosing, repeating, Processes, no_members, and_member, Choices, no_choices, and_choice}
use Rattle.width_check.specs.Sharing.{Deed, reads_var, writes_var, sends_on, receives_on, Occurrence, occurrences, occurrences_of_each}
use Rattle.chp_meaning.specs.Terms.{Term, Terms, finished, active, in_sequence, in_parallel, no_branches, and_branch}

-- an element of a list
abbrev pub In : {X : Type 0} → List X → X → Type 0
In [] x = ⊥
In (y ∷ ys) x = (y ≡ x) ⊎ In ys x

-- what two parallel branches may not both do
abbrev pub Conflict : Deed → Deed → Type 0
Conflict (writes_var x) (writes_var y) = x ≡ y
Conflict (writes_var x) (reads_var y) = x ≡ y
Conflict (reads_var x) (writes_var y) = x ≡ y
Conflict (sends_on x) (sends_on y) = x ≡ y
Conflict (receives_on x) (receives_on y) = x ≡ y
Conflict _ _ = ⊥

abbrev pub Apart : List Occurrence → List Occurrence → Type 0
Apart xs ys = (u v : Occurrence) → In xs u → In ys v → ¬ Conflict u.deed v.deed

-- of a statement: no two of its parallel branches are in conflict
abbrev mutual
  pub Sound : Process → Type 0
  Sound (in_turn members) = EachSound members
  Sound (side_by_side members) = EachSound members × EachApart members
  Sound (choosing again choices) = ChoicesSound choices
  Sound (repeating p) = Sound p
  Sound _ = Unit {0}

  pub EachSound : Processes → Type 0
  EachSound no_members = Unit {0}
  EachSound (and_member p more) = Sound p × EachSound more

  pub EachApart : Processes → Type 0
  EachApart no_members = Unit {0}
  EachApart (and_member p more) = Apart (occurrences p) (occurrences_of_each more) × EachApart more

  pub ChoicesSound : Choices → Type 0
  ChoicesSound no_choices = Unit {0}
  ChoicesSound (and_choice g p more) = Sound p × ChoicesSound more

-- of what is left of a statement
abbrev mutual
  pub uses : Term → List Occurrence
  uses finished = []
  uses (active p) = occurrences p
  uses (in_sequence t more) = uses t ++ occurrences_of_each more
  uses (in_parallel ts) = uses_of_each ts

  pub uses_of_each : Terms → List Occurrence
  uses_of_each no_branches = []
  uses_of_each (and_branch t more) = uses t ++ uses_of_each more

abbrev mutual
  pub Fits : Term → Type 0
  Fits finished = Unit {0}
  Fits (active p) = Sound p
  Fits (in_sequence t more) = Fits t × EachSound more
  Fits (in_parallel ts) = FitEach ts

  pub FitEach : Terms → Type 0
  FitEach no_branches = Unit {0}
  FitEach (and_branch t more) = Fits t × Apart (uses t) (uses_of_each more) × FitEach more
