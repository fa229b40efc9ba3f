-- Where a member of a sequence is, and what stands behind it: four ways of 64.
use Rattle.std.proofs.Common.{◌≡◌, true, false, refl}
use Rattle.circuit_places.specs.Lines.{Seen}
use Rattle.circuit_places.specs.Circuit.{GuardedSpot, latch, next}
use Rattle.circuit_places.proofs.Places.{Mode, idle, running, answered, returning, link, GuardedAt, g_back, guarded_moves}
use Rattle.width_check.specs.Processes.{Process}

pub data LinkWay : (whole member later : Mode) → Type 0 where
  member_over : LinkWay running answered running
  whole_over : LinkWay answered answered answered
  member_falls : LinkWay returning returning answered
  member_rests : LinkWay returning idle returning

pub link_way : (m k n : Mode) → link m k n ≡ true → LinkWay m k n
link_way running answered running h = member_over
link_way answered answered answered h = whole_over
link_way returning returning answered h = member_falls
link_way returning idle returning h = member_rests
link_way _ _ _ h = absurd (cc h)

-- what holds of a sequence that hasn't answered, where no node of this member moves: it holds of what stands behind the member
pub later_by : {A : Type 0} {p : Process} {k n m : Mode} (env : Seen) → LinkWay m k n → (g : GuardedAt p k) → (m ≡ answered → ⊥)
    → ((s : GuardedSpot p) → guarded_moves env g s ≡ true → ⊥) → ((n ≡ answered → ⊥) → A) → A
later_by env member_over g ne still behind = behind (λ e. cc e)
later_by env whole_over g ne still behind = absurd (ne refl)
later_by env member_falls (g_back true) ne still behind = absurd (still latch refl)
later_by env member_falls (g_back false) ne still behind = absurd (still next refl)
later_by env member_rests g ne still behind = behind (λ e. cc e)

-- one value isn't both, said without what else is known where it is asked
pub never_true : false ≡ true → ⊥
never_true e = cc e
