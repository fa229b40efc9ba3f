-- A net whose calls share bodies carries what the net with copies carries.
use Rattle.std.specs.Prelude.{ℕ, ◌*◌, ◌<◌, Bool, List, None, ◌≡◌, length, ◌≤◌}
use Rattle.prs_core.specs.declared.wires.Wires.{Wires}
use Rattle.prs_core.specs.Nets.{RulesValue, NetValue, net_of}
use Rattle.prs_core.specs.Moves.{high}
use Rattle.env_script.specs.Scripts.{OfferValue, IsScript}
use Rattle.env_script.specs.Runs.{begin_at, after, IsRun, IsSafeRun, IsAtRest}
use Rattle.width_check.specs.Processes.{TypedProgram}
use Rattle.width_check.specs.Sharing.{MeetsSharing}
use Rattle.handshake_expand.specs.Layout.{done_node}
use Rattle.net_compose.specs.Carries.{Carries}
use Rattle.call_map.specs.Shared.{Sharing, SharesBodies, CopiesKeep}

-- in each state that a run of the net leads to, its copies keep their handshakes
abbrev pub CopiesKeepAlong : NetValue → Sharing → List OfferValue → Type 0
CopiesKeepAlong B S script =
    (ns : List ℕ) → IsRun B script (begin_at B B.first) ns → CopiesKeep B S script (after B (begin_at B B.first) ns)

abbrev pub SafeAlong : NetValue → List OfferValue → Type 0
SafeAlong B script = (ns : List ℕ) → IsRun B script (begin_at B B.first) ns → IsSafeRun B script (begin_at B B.first) ns

-- A run of the net with shared bodies, seen beside one of the net with copies, of no more moves, and of half as many at
-- least: the same has passed, the nodes with low numbers, wires among them, have the same values, and where the one net
-- is at rest the other is. And the run is safe.
pub record IsMirrored (A B : NetValue) (S : Sharing) (script : List OfferValue) (ns : List ℕ) : Type 0 where
  pub moves : List ℕ
  pub few : length moves ≤ length ns
  pub many : length ns ≤ 2 * length moves
  pub run : IsRun B script (begin_at B B.first) moves
  pub passed : (after A (begin_at A A.first) ns).histories ≡ (after B (begin_at B B.first) moves).histories
  pub plain : (k : ℕ) → k < S.low
      → high (after A (begin_at A A.first) ns).values k ≡ high (after B (begin_at B B.first) moves).values k
  pub rest : IsAtRest A script (after A (begin_at A A.first) ns)
      → IsAtRest B script (after B (begin_at B B.first) moves)
  pub safe : IsSafeRun A script (begin_at A A.first) ns

-- Net A is net B with one body for all calls of a procedure, over the same wires and with no reset node. If B's moves
-- are all safe, and its copies keep their handshakes, then each run of A is a run of B.
abbrev pub SharedRuns : Type 0
SharedRuns = (names more_names : List (List ℕ)) (first more_first : List Bool) (rules more_rules : RulesValue)
    → (ws : List Wires) (S : Sharing) →
    let A = net_of names first rules ws None in
    let B = net_of more_names more_first more_rules ws None in
    SharesBodies A B S → (script : List OfferValue) → SafeAlong B script → CopiesKeepAlong B S script
    → (ns : List ℕ) → IsRun A script (begin_at A first) ns → IsMirrored A B S script ns

-- If B carries a program, and its copies keep their handshakes under each script, A carries that program too.
abbrev pub SharedCarries : Type 0
SharedCarries = (names more_names : List (List ℕ)) (first more_first : List Bool) (rules more_rules : RulesValue)
    → (ws : List Wires) (S : Sharing) →
    let A = net_of names first rules ws None in
    let B = net_of more_names more_first more_rules ws None in
    SharesBodies A B S → done_node < S.low → (p : TypedProgram) → MeetsSharing p.body
    → ((script : List OfferValue) → IsScript p.channels script → CopiesKeepAlong B S script)
    → Carries B p → Carries A p
