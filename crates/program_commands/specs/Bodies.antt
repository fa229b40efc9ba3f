-- The nets that are written for a program: with the bodies of its procedures copied, or shared.
use Rattle.std.specs.Prelude.{ℕ, ◌≤◌, Bool, true, false, List, Option, Some, None, max}
use Rattle.chp_syntax.specs.Trees.{ProgramTree}
use Rattle.env_script.specs.Runs.{IsPowered}
use Rattle.handshake_expand.specs.Layout.{capped, node_count, nodes_of}
use Rattle.net_compose.specs.Carries.{Carries, CarriesReset}
use Rattle.net_compose.specs.Progress.{ProgressesFrom}
use Rattle.net_compose.specs.Translation.{translation}
use Rattle.call_map.specs.CallNet.{call_count, call_names, call_net}
use Rattle.call_map.specs.CallPace.{IsMost, call_most_moves}
use Rattle.call_compose.specs.Inlined.{AreInlined}
use Rattle.call_compose.specs.Placing.{shared_of}
use Rattle.prs_core.specs.Nets.{NetValue, IsNet}
use Rattle.reset_net.specs.Resets.{reset_of}
use Rattle.width_check.specs.Calls.{IsCallFree}
use Rattle.width_check.specs.Processes.{TypedProgram}

-- How the net of a program is made, which is the typed form of one in which each call is its procedure's body: as it
-- stands, so that each call has nodes of its own; or from the text with the calls, so that all calls of a procedure
-- share one body.
pub data Bodies (p : TypedProgram) : Type 0 where
  copied : Bodies p
  shared : {program : ProgramTree} → AreInlined program p → Bodies p

abbrev pub copies_of : (p : TypedProgram) → Bodies p
copies_of p = copied

-- that net, without a reset node
abbrev pub net_with : {p : TypedProgram} → Bodies p → NetValue
net_with {p} copied = translation p
net_with (shared h) = call_net (shared_of h) (call_names (shared_of h))

-- and with one where that is asked for
abbrev pub net_for : (reset : Bool) → {p : TypedProgram} → Bodies p → NetValue
net_for false bodies = net_with bodies
net_for true bodies = reset_of (net_with bodies)

-- how many nodes it has, the reset node aside
abbrev pub nodes_with : {p : TypedProgram} → Bodies p → ℕ
nodes_with {p} copied = nodes_of p
nodes_with (shared h) = call_count (shared_of h)

-- the number that is to be within the limit: where bodies are shared, that of the net with copies too
abbrev pub counted_with : {p : TypedProgram} → Bodies p → ℕ
counted_with {p} copied = node_count p
counted_with {p} (shared h) = max (capped (call_count (shared_of h))) (node_count p)

-- the most moves of its runs by so many steps of the program, where those of the net with copies are given
abbrev pub most_with : {p : TypedProgram} → Bodies p → (most : ℕ → ℕ) → ℕ → ℕ
most_with copied most = most
most_with (shared h) most = call_most_moves most

-- ---- which of them is written

-- each call gets a copy: there is none, or the program gets a buffer
abbrev pub IsCopied : ProgramTree → (buffer : Option (List ℕ)) → Type 0
IsCopied program None = IsCallFree program
IsCopied program (Some chan) = Unit {0}

pub data HasBodies (program : ProgramTree) (buffer : Option (List ℕ)) {p : TypedProgram} : Bodies p → Type 0 where
  as_copies : IsCopied program buffer → HasBodies program buffer copied
  as_shared : ¬ IsCopied program buffer → (h : AreInlined program p) → HasBodies program buffer (shared h)

-- ---- what holds of it

-- it carries the program: from its first values, or with a reset node from every power-up state
abbrev pub NetCarries : (reset : Bool) → {p : TypedProgram} → Bodies p → Type 0
NetCarries false {p} bodies = Carries (net_for false bodies) p
NetCarries true {p} bodies = CarriesReset (net_for true bodies) p

-- and keeps pace with it, within each bound: where the program comes to rest, so do its runs
abbrev pub NetProgresses : (reset : Bool) → {p : TypedProgram} → Bodies p → Type 0
NetProgresses false {p} bodies = (most : ℕ → ℕ) → IsMost p most →
    ProgressesFrom (net_for false bodies) p (most_with bodies most) (net_for false bodies).first
NetProgresses true {p} bodies = (most : ℕ → ℕ) → IsMost p most →
    (values : List Bool) → IsPowered (net_for true bodies) values →
    ProgressesFrom (net_for true bodies) p (most_with bodies most) values

-- The net is one that a rule file can hold, as it also is without a reset node; and it carries the program, and keeps
-- pace with it.
pub record IsFaithful (reset : Bool) {p : TypedProgram} (bodies : Bodies p) : Type 0 where
  pub plain : IsNet (net_with bodies)
  pub kept : IsNet (net_for reset bodies)
  pub carries : NetCarries reset bodies
  pub progresses : NetProgresses reset bodies

-- so is each net with shared bodies of at most 65,536 nodes
abbrev pub SharedNetsAreFaithful : Type 0
SharedNetsAreFaithful = (reset : Bool) (program : ProgramTree) (p : TypedProgram) (h : AreInlined program p) →
    call_count (shared_of h) ≤ 65536 → IsFaithful reset (shared h)
