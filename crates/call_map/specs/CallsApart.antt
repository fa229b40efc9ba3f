-- Which procedures a statement calls, and what is required of its calls: no procedure is called in two branches that
-- run at the same time.
use Rattle.std.specs.Prelude.{◌≡◌, ◌⊎◌, ℕ}
use Rattle.call_map.specs.Calling.{Called, calling, atom, turned, abreast, chosen, looped, Calleds, no_calleds, and_called, CalledChoices, no_called, or_called}

-- it calls this procedure
abbrev mutual
  pub Calls : Called → (q : ℕ) → Type 0
  Calls (calling p) q = p ≡ q
  Calls (atom s) q = ⊥
  Calls (turned members) q = OneCalls members q
  Calls (abreast members) q = OneCalls members q
  Calls (chosen again choices) q = ChoiceCalls choices q
  Calls (looped s) q = Calls s q

  pub OneCalls : Calleds → (q : ℕ) → Type 0
  OneCalls no_calleds q = ⊥
  OneCalls (and_called s more) q = Calls s q ⊎ OneCalls more q

  pub ChoiceCalls : CalledChoices → (q : ℕ) → Type 0
  ChoiceCalls no_called q = ⊥
  ChoiceCalls (or_called g s more) q = Calls s q ⊎ ChoiceCalls more q

-- no two parallel branches in it call the same procedure
abbrev mutual
  pub CallsApart : Called → Type 0
  CallsApart (calling q) = Unit {0}
  CallsApart (atom s) = Unit {0}
  CallsApart (turned members) = MembersApart members
  CallsApart (abreast members) = BranchesApart members
  CallsApart (chosen again choices) = ChoicesApart choices
  CallsApart (looped s) = CallsApart s

  pub MembersApart : Calleds → Type 0
  MembersApart no_calleds = Unit {0}
  MembersApart (and_called s more) = CallsApart s × MembersApart more

  pub BranchesApart : Calleds → Type 0
  BranchesApart no_calleds = Unit {0}
  BranchesApart (and_called s more) = CallsApart s × ((q : ℕ) → Calls s q → ¬ OneCalls more q) × BranchesApart more

  pub ChoicesApart : CalledChoices → Type 0
  ChoicesApart no_called = Unit {0}
  ChoicesApart (or_called g s more) = CallsApart s × ChoicesApart more
