-- Moves of the gates of guards.
--
-- P: the program; deep: a depth that no gate of the guards exceeds; left: how many moves follow the fall of the deepest; cs: guards with their
-- branches; x: their gates' rails; r: their request; s, q: gates; f, z: that the rule of one fires, and then of the other.
use Rattle.std.proofs.Common.{◌≡◌, ℕ, suc, ◌+◌, ◌-◌, ◌<◌, ◌≤◌, Bool, true, false, ap, inl, inr, arith}
use Rattle.std.specs.Prelude.{◌⊎◌, if◌then◌else◌}
use Rattle.std.proofs.Math.Nat.{le-max_left, le-max_right}
use Rattle.width_check.specs.Processes.{Formula, Process, Choices, no_choices, and_choice, TypedProgram}
use Rattle.function_blocks.specs.Rails.{RailLevels, side_of, pair_in, low_pairs, turned_pairs, one_rule_fires, Rails, Single}
use Rattle.function_blocks.specs.Parts.{gate_count}
use Rattle.function_blocks.specs.Waves.{gate_rule}
use Rattle.function_blocks.proofs.GateLists.{low_in}
use Rattle.circuit_places.specs.Circuit.{GuardCells, low_guards, GuardSpot, this_gate, other_gate, guards_rule, guards_good, turned_guards}
use Rattle.circuit_places.proofs.RailLemmas.{fst_true, snd_true}
use Rattle.circuit_places.proofs.Meets.{GuardsMeet}
use Rattle.round_time.specs.Longest.{depth, guards_depth}
use Rattle.circuit_time.proofs.Trails.{gate_depth, guards_trail}
use Rattle.circuit_time.proofs.Depths.{depth_most, depth_some}
use Rattle.circuit_time.proofs.LeafTrails.{gate_pair}
use Rattle.circuit_time.proofs.OwnTrails.{GuardsOrdered, Shorter}

low_side : (e : Formula) (k : ℕ) (one : Bool) → side_of (pair_in (gate_count e) (low_pairs (gate_count e)) k) one ≡ false
low_side e k true = ap (λ (p : RailLevels). p.t) (low_in (gate_count e) k)
low_side e k false = ap (λ (p : RailLevels). p.f) (low_in (gate_count e) k)

-- where the request of guards rises
pub guards_asked : (deep left : ℕ) (cs : Choices) → guards_depth cs ≤ deep → (bits : ℕ → Rails) (q : GuardSpot cs)
    → one_rule_fires (guards_rule cs bits true (low_guards cs) q) ≡ true → suc (guards_trail deep left cs (low_guards cs) q) ≤ deep
guards_asked deep left no_choices room bits q z = absurd (cc z)
guards_asked deep left (and_choice g p more) room bits (this_gate k one) z =
    let a = depth_some g bits true (low_pairs (gate_count g)) k one z in
    let b = depth_most g k in
    let m = le-max_left (depth g) (guards_depth more) in
    let c : (if side_of (pair_in (gate_count g) (low_pairs (gate_count g)) k) one then left else 0) ≡ 0 =
    ap (λ (y : Bool). if y then left else 0) (low_side g k one) in
    omega (arith, a, b, m, room, c)
guards_asked deep left (and_choice g p more) room bits (other_gate q) z =
    let m = le-max_right (depth g) (guards_depth more) in guards_asked deep left more (omega (arith, m, room)) bits q z

-- and where it falls
pub guards_released : (deep left : ℕ) (cs : Choices) → guards_depth cs ≤ deep → (bits : ℕ → Rails) (x : GuardCells cs) (q : GuardSpot cs)
    → one_rule_fires (guards_rule cs bits false x q) ≡ true → suc (guards_trail deep left cs x q) ≤ deep + left
guards_released deep left no_choices room bits x q z = absurd (cc z)
guards_released deep left (and_choice g p more) room bits x (this_gate k one) z = by (side_of (pair_in (gate_count g) x.0 k) one)
  where
    by : (c : Bool) → suc ((deep - gate_depth g k) + (if c then left else 0)) ≤ deep + left
    by true =
        let a = depth_some g bits false x.0 k one z in
        let b = depth_most g k in
        let m = le-max_left (depth g) (guards_depth more) in omega (arith, a, b, m, room)
    by false =
        let a = depth_some g bits false x.0 k one z in
        let b = depth_most g k in
        let m = le-max_left (depth g) (guards_depth more) in omega (arith, a, b, m, room)
guards_released deep left (and_choice g p more) room bits x (other_gate q) z =
    let m = le-max_right (depth g) (guards_depth more) in guards_released deep left more (omega (arith, m, room)) bits x.1 q z

abbrev gate_of : {g : Formula} {p : Process} {more : Choices} → GuardSpot more → GuardSpot (and_choice g p more) → GuardSpot more
gate_of d (this_gate k one) = d
gate_of d (other_gate s) = s

-- two gates of all guards
pub guards_pair : (P : TypedProgram) (deep left : ℕ) (cs : Choices) → guards_depth cs ≤ deep → GuardsMeet P cs → GuardsOrdered cs → (r : Bool) (bits : ℕ
    → Rails)
    → Single bits → (x : GuardCells cs) → guards_good cs bits r x ≡ true → (s : GuardSpot cs) → one_rule_fires (guards_rule cs bits r x s) ≡ true
    → (q : GuardSpot cs) → one_rule_fires (guards_rule cs bits r (turned_guards cs x s) q) ≡ true
    → Shorter s q (one_rule_fires (guards_rule cs bits r x q)) (guards_trail deep left cs (turned_guards cs x s) q) (guards_trail deep left cs x q)
    (guards_trail deep left cs x s)
guards_pair P deep left no_choices room meets ordered r bits single x fit s f q z = absurd (cc f)
guards_pair P deep left (and_choice g p more) room meets ordered r bits single x fit (this_gate j side) f (this_gate i one) z =
    let m = le-max_left (depth g) (guards_depth more) in
    by (gate_pair g ordered.0 meets.0.known deep left 0 (omega (arith, m, room)) r bits x.0 single (fst_true _ _ fit) j side f i one z)
  where
    by : ((deep - gate_depth g i) + (if side_of (pair_in (gate_count g) (turned_pairs (gate_count g) x.0 j side) i) one then left else 0)
        < (deep - gate_depth g j) + (if side_of (pair_in (gate_count g) x.0 j) side then left else 0))
        ⊎ ((j ≡ i → side ≡ one → ⊥) × (one_rule_fires (gate_rule g bits r x.0 i one) ≡ true)
        × (side_of (pair_in (gate_count g) (turned_pairs (gate_count g) x.0 j side) i) one ≡ side_of (pair_in (gate_count g) x.0 i) one))
        → Shorter (this_gate {g = g} {p = p} {more = more} j side) (this_gate i one) (one_rule_fires (gate_rule g bits r x.0 i one))
        ((deep - gate_depth g i) + (if side_of (pair_in (gate_count g) (turned_pairs (gate_count g) x.0 j side) i) one then left else 0))
        ((deep - gate_depth g i) + (if side_of (pair_in (gate_count g) x.0 i) one then left else 0))
        ((deep - gate_depth g j) + (if side_of (pair_in (gate_count g) x.0 j) side then left else 0))
    by (inl less) = inl less
    by (inr (ne, on, same)) =
        let z : (if side_of (pair_in (gate_count g) (turned_pairs (gate_count g) x.0 j side) i) one then left else 0)
        ≡ (if side_of (pair_in (gate_count g) x.0 i) one then left else 0) = ap (λ (b : Bool). if b then left else 0) same in
        inr ((λ w. ne (cc w) (cc w)), on, omega (arith, z))
guards_pair P deep left (and_choice g p more) room meets ordered r bits single x fit (this_gate j side) f (other_gate q) z = inr ((λ w. cc w), z, omega arith)
guards_pair P deep left (and_choice g p more) room meets ordered r bits single x fit (other_gate s) f (this_gate i one) z = inr ((λ w. cc w), z, omega arith)
guards_pair P deep left (and_choice g p more) room meets ordered r bits single x fit (other_gate s) f (other_gate q) z =
    let m = le-max_right (depth g) (guards_depth more) in
    by (guards_pair P deep left more (omega (arith, m, room)) meets.1 ordered.1 r bits single x.1 (snd_true _ _ fit) s f q z)
  where
    by : Shorter s q (one_rule_fires (guards_rule more bits r x.1 q)) (guards_trail deep left more (turned_guards more x.1 s) q)
        (guards_trail deep left more x.1 q)
        (guards_trail deep left more x.1 s)
        → Shorter (other_gate {g = g} {p = p} s) (other_gate q) (one_rule_fires (guards_rule more bits r x.1 q))
        (guards_trail deep left more (turned_guards more x.1 s) q) (guards_trail deep left more x.1 q) (guards_trail deep left more x.1 s)
    by (inl less) = inl less
    by (inr (ne, on, upto)) = inr ((λ e. ne (ap (gate_of s) e)), on, upto)
