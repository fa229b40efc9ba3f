-- The wave of a timed run is one that a text can hold: its names are those of nodes, and its times are below 2 ^ 64.
use Rattle.std.proofs.Common.{◌≡◌, ℕ, zero, suc, ◌+◌, ◌*◌, ◌^◌, ◌<◌, ◌≤◌, Bool, true, false, List, [], ◌∷◌, length, get_or, take, refl, ap, subst, ◌⊎◌, inl, inr, arith}
use Rattle.std.specs.Prelude.{All, Option, None, Some, ◌==◌, slice_index_or}
use Rattle.std.proofs.lemmas.Bool.{cases_lt, eq-eqb}
use Rattle.std.proofs.lemmas.List.{length-map, length-take-le}
use Rattle.prs_core.specs.Nets.{IsNet}
use Rattle.env_script.specs.declared.hazard.Hazard.{Hazard}
use Rattle.event_sim.specs.Ends.{end_after, end_with, last_hazard}
use Rattle.event_sim.specs.Following.{enabled_moves, power_of}
use Rattle.event_sim.specs.Simulating.{RanValue}
use Rattle.env_script.specs.Runs.{after}
use Rattle.delay_script.specs.declared.noted.NotedMove.{NotedMove}
use Rattle.delay_script.specs.DelayTables.{DelayTable, IsDelayTable}
use Rattle.delay_script.specs.TimedRuns.{moved_nodes, time_behind, TimedValue, timed_start, IsTimedRan}
use Rattle.wave_file.specs.Waves.{IsKeptWave}
use Rattle.wave_file.specs.RunWaves.{timed_changes, wave_of_run}
use Rattle.wave_file.specs.CauseChains.{values_given, moved_at, cause_at, delay_of_turn, own_delay, AreCaused}
use Rattle.wave_file.proofs.TimedWaves.{are_nodes, are_caused}

-- ---- no more moves are made than were allowed

over : (h : Option Hazard) (enabled : List ℕ) → end_with h enabled true ≡ None → ⊥
over (Some h) enabled e = cc e
over None [] e = cc e
over None (n ∷ ns) e = cc e

moves_few : (t : TimedValue) (ms : List NotedMove) (r : RanValue) (u : ℕ) → IsTimedRan t ms r u → length ms ≤ t.steps
moves_few t ms r u ran = by_count (cases_lt t.steps (length ms))
  where
    ns : List ℕ
    ns = moved_nodes ms

    many : length ns ≡ length ms
    many = length-map ms (λ (m : NotedMove). m.node)

    by_count : (t.steps < length ms) ⊎ (length ms ≤ t.steps) → length ms ≤ t.steps
    by_count (inr few) = few
    by_count (inl more) =
        let front : List ℕ = take t.steps ns in
        let count : length front ≡ t.steps = length-take-le t.steps ns (omega (arith, many)) in
        let none : end_after t.net t.script t.steps (timed_start t) front ≡ None = ran.ends.not_before t.steps (omega (arith, many)) in
        let spent : (length front == t.steps) ≡ true = eq-eqb (length front) t.steps count in
        absurd (over (last_hazard t.net t.script (timed_start t) front) (enabled_moves t.net t.script (after t.net (timed_start t) front))
        (subst (λ (b : Bool). end_with (last_hazard t.net t.script (timed_start t) front)
        (enabled_moves t.net t.script (after t.net (timed_start t) front)) b ≡ None) spent none))

-- ---- a move comes a million after its cause at most

turn_few : (nodes : ℕ) (d : DelayTable) (value : Bool) (n : ℕ) → IsDelayTable nodes d → n < nodes → delay_of_turn d value n ≤ 1000000
turn_few nodes d true n is within = is.rises_few n 0 (omega (arith, is.rises))
turn_few nodes d false n is within = is.falls_few n 0 (omega (arith, is.falls))

node_within : (ms : List NotedMove) (nodes k : ℕ) → All (λ (m : NotedMove). m.node < nodes) ms → k < length ms → moved_at ms k < nodes
node_within [] nodes k all below = absurd (omega arith)
node_within (m ∷ ms) nodes zero all below = all 0 m (omega arith)
node_within (m ∷ ms) nodes (suc k) all below = node_within ms nodes k (λ i d less. all (suc i) d (omega arith)) (omega arith)

one_more : (k : ℕ) → suc k ≡ k + 1
one_more k = omega arith

module _ (nodes : ℕ) (d : DelayTable) (given : List Bool) (ms : List NotedMove) (table : IsDelayTable nodes d)
    (all : All (λ (m : NotedMove). m.node < nodes) ms) (are : AreCaused d given ms) where
  time_few : (most n : ℕ) → n ≤ most → n ≤ length ms → time_behind ms n ≤ most * 1000000
  time_few most zero few within = omega arith
  time_few zero (suc k) few within = absurd (omega arith)
  time_few (suc most) (suc k) few within =
      let below : k < length ms = omega arith in
      let early : cause_at ms k ≤ k = are.earlier k below in
      let cause : time_behind ms (cause_at ms k) ≤ most * 1000000 = time_few most (cause_at ms k) (omega arith) (omega arith) in
      let own : own_delay d given ms k ≤ 1000000 = turn_few nodes d (slice_index_or given k false) (moved_at ms k) table (node_within ms nodes k all below) in
      let next : time_behind ms (suc k) ≡ time_behind ms (k + 1) = ap (time_behind ms) (one_more k) in
      omega (arith, next, are.later k below, cause, own)

change_time : (ms : List NotedMove) (i : ℕ) (d : ℕ × ℕ) → i < length ms → (get_or (timed_changes ms) i d).0 ≡ time_behind ms (suc i)
change_time [] i d below = absurd (omega arith)
change_time (m ∷ ms) zero d below = refl
change_time (m ∷ ms) (suc i) d below = change_time ms i d (omega arith)

pub is_kept : (t : TimedValue) (ms : List NotedMove) (r : RanValue) (u : ℕ) → IsNet t.net → IsDelayTable (length t.net.first) t.delays → t.steps ≤ 1000000 →
    IsTimedRan t ms r u → IsKeptWave (wave_of_run t.net t.high ms)
is_kept t ms r u net table steps ran = record {
  named = net.names;
  small = λ i d below. soon i d (omega (arith, many));
}
  where
    many : length (timed_changes ms) ≡ length ms
    many = length-map {B = ℕ × ℕ} ms (λ (m : NotedMove). (m.time, m.node))

    given : List Bool
    given = values_given (power_of t.net t.high) ms

    soon : (i : ℕ) (d : ℕ × ℕ) → i < length ms → (get_or (timed_changes ms) i d).0 < 2 ^ 64
    soon i d below =
        let few : time_behind ms (suc i) ≤ length ms * 1000000 =
        time_few (length t.net.first) t.delays given ms table (are_nodes t ms r u net ran) (are_caused t ms r u ran) (length ms) (suc i)
        (omega arith) (omega arith)
        in
        let is = change_time ms i d below in
        let bound : length ms ≤ 1000000 = omega (arith, moves_few t ms r u ran) in
        omega arith
