-- What the tables of a statement say about it.
use Rattle.std.specs.Prelude.{◌≡◌, ◌⊎◌, ℕ, nat_eq, List, Contains, Option, Some}
use Rattle.std.specs.HashMap.{get}
use Rattle.chp_base.specs.declared.span.Span.{Span}
use Rattle.chp_base.specs.declared.fault.FaultCode.{FaultCode}
use Rattle.chp_base.specs.declared.fault.FaultCode.TheVariants as code
use Rattle.width_check.specs.Order.{IsNoLater}
use Rattle.width_check.specs.Processes.{Process}
use Rattle.width_check.specs.Sharing.{Deed, reads_var, writes_var, sends_on, receives_on}
use Rattle.width_check.specs.Sharing.{Occurrence, occurrences, SharedAt}
use Rattle.sharing_check.specs.declared.clash.Clash.{Clash}
use Rattle.sharing_check.specs.declared.deeds.Deeds.{Deeds}
use Rattle.sharing_check.specs.Leasts.{IsLeast, IsEither, IsNoLaterPair}
use Rattle.sharing_check.specs.Places.{Joins, Meeting}

-- a deed that clashes with all other such deeds on the same variable or channel
abbrev pub IsExclusive : FaultCode → Deed → ℕ → Type 0
IsExclusive code.SharedVariable (writes_var y) x = x ≡ y
IsExclusive code.SharedSend (sends_on y) x = x ≡ y
IsExclusive code.SharedReceive (receives_on y) x = x ≡ y
IsExclusive _ _ x = ⊥

-- a deed that clashes only with the former
abbrev pub IsCommon : FaultCode → Deed → ℕ → Type 0
IsCommon code.SharedVariable (reads_var y) x = x ≡ y
IsCommon _ _ x = ⊥

-- one of the occurrences is such a deed at this span
pub record IsDoneAt (Is : Deed → ℕ → Type 0) (os : List Occurrence) (x : ℕ) (s : Span) : Type 0 where
  pub occurrence : Occurrence
  pub among : Contains os occurrence
  pub kind : Is occurrence.deed x
  pub at : s ≡ occurrence.at

-- the tables have the first spans of a statement's deeds, and its clash is the pair that is reported
pub record Tells (cause : FaultCode) (p : Process) (d : Deeds) : Type 0 where
  pub exclusive : (x : ℕ) → IsLeast IsNoLater (IsDoneAt (IsExclusive cause) (occurrences p) x)
      (get nat_eq d.exclusive x)
  pub common : (x : ℕ) → IsLeast IsNoLater (IsDoneAt (IsCommon cause) (occurrences p) x) (get nat_eq d.common x)
  pub clash : IsLeast IsNoLaterPair (λ c. SharedAt p cause c.first c.second) d.clash

-- some occurrences are added
pub record Adds (cause : FaultCode) (os : List Occurrence) (old new : Deeds) : Type 0 where
  pub exclusive : (x : ℕ)
      → IsLeast IsNoLater (λ s. (get nat_eq old.exclusive x ≡ Some s) ⊎ IsDoneAt (IsExclusive cause) os x s)
      (get nat_eq new.exclusive x)
  pub common : (x : ℕ)
      → IsLeast IsNoLater (λ s. (get nat_eq old.common x ≡ Some s) ⊎ IsDoneAt (IsCommon cause) os x s)
      (get nat_eq new.common x)
  pub clash : new.clash ≡ old.clash

-- a name that both have, at least one of them exclusively
abbrev pub Crosses : Deeds → Deeds → Clash → Type 0
Crosses a b c =
    Meeting (get nat_eq a.exclusive) (get nat_eq b.exclusive) c
    ⊎ (Meeting (get nat_eq a.exclusive) (get nat_eq b.common) c ⊎ Meeting (get nat_eq a.common) (get nat_eq b.exclusive)
    c)

-- both together, with a pair across the two
pub record Merges (a b : Deeds) (across : Option Clash) (new : Deeds) : Type 0 where
  pub exclusive : Joins (get nat_eq a.exclusive) (get nat_eq b.exclusive) (get nat_eq new.exclusive)
  pub common : Joins (get nat_eq a.common) (get nat_eq b.common) (get nat_eq new.common)
  pub clash : IsLeast IsNoLaterPair (λ c. IsEither a.clash b.clash c ⊎ (across ≡ Some c)) new.clash
