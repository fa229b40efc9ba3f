-- What is left of a statement once it has changed.
use Rattle.std.specs.Prelude.{ℕ, zero, suc, List, [], ◌∷◌}
use Rattle.chp_meaning.specs.declared.change.Change.{Change, Stays, Becomes, Inside', Branches', Row_of-BranchChange, end_of-BranchChange, more_of-BranchChange}
use Rattle.chp_meaning.specs.declared.change.BranchChange.{BranchChange}
use Rattle.chp_meaning.specs.Remaining.{Remains, within, alongside, Several, no_more, and_left, remains_of}

-- where what is left of the branch of this number becomes what it is mapped to
abbrev pub altered : Several → ℕ → (Remains → Remains) → Several
altered no_more k f = no_more
altered (and_left r rest) zero f = and_left (f r) rest
altered (and_left r rest) (suc k) f = and_left r (altered rest k f)

-- a change that doesn't fit what is left changes nothing
abbrev pub in_part : (Remains → Remains) → Remains → Remains
in_part f (within k r) = within k (f r)
in_part f r = r

abbrev pub in_branches : (Several → Several) → Remains → Remains
in_branches f (alongside rs) = alongside (f rs)
in_branches f r = r

abbrev mutual
  pub changed : Change → Remains → Remains
  changed Stays r = r
  changed (Becomes left) r = remains_of left
  changed (Inside' p change) r = in_part (changed change) r
  changed (Branches' shape changes) r = in_branches (row_changed changes) r

  pub row_changed : {m : _} → Row_of-BranchChange m → Several → Several
  row_changed end_of-BranchChange rs = rs
  row_changed (more_of-BranchChange k change rest) rs = row_changed rest (altered rs k (changed change))

-- of lists
abbrev pub each_changed : List BranchChange → Several → Several
each_changed [] rs = rs
each_changed (c ∷ cs) rs = each_changed cs (altered rs c.number (changed c.change))
