-- Bodies of procedures that are found where these are called.
use Rattle.std.specs.Prelude.{◌≡◌, ℕ, List, slice_get, slice_index_or, IfSome}
use Rattle.width_check.specs.declared.typed.TStmt.{TStmt}
use Rattle.width_check.specs.Processes.{Process, skipping}
use Rattle.width_check.specs.View.{process_of}
use Rattle.call_map.specs.Calling.{Called}
use Rattle.call_map.specs.CallsApart.{Calls}

-- the entry of this number, if there is one, is the body of the procedure of this number
abbrev pub IsBody : List Process → List TStmt → ℕ → Type 0
IsBody bs found q = IfSome (slice_get found q) (λ s. process_of s ≡ slice_index_or bs q skipping)

-- the entries of all procedures that a statement calls are their bodies, and what was a body before is one still
pub record AreNoted (bs : List Process) (C : Called) (old new : List TStmt) : Type 0 where
  pub kept : (q : ℕ) → IsBody bs old q → IsBody bs new q
  pub called : (q : ℕ) → Calls C q → IsBody bs new q
