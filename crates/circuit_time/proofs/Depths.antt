-- Depths of gates: a gate moves only after gates of lower depth.
--
-- e: an expression; u: its gates' rails; k, j: gates; look, now: the rails that gates see; gs: gates behind those of these depths.
use Rattle.std.proofs.Common.{◌≡◌, ◌≢◌, ℕ, zero, suc, ◌+◌, ◌<◌, ◌≤◌, Bool, true, false, List, [], ◌∷◌, ◌++◌, length, refl, ap, ◌∙◌, subst, inl, inr, arith, length-append}
use Rattle.std.specs.Prelude.{◌⊎◌, nat_lt, slice_index}
use Rattle.std.specs.List.{list_all}
use Rattle.std.proofs.Math.Nat.{le-max_left, le-max_right}
use Rattle.std.proofs.lemmas.Bool.{cases_eq}
use Rattle.width_check.specs.Processes.{Formula}
use Rattle.function_blocks.specs.Rails.{RailLevels, side_of, cross, levels_neutral, Pairs, pair_in, turned_pairs, one_rule_fires, Rails}
use Rattle.function_blocks.specs.Parts.{Input, BlockPart, fixed, read_bit, made, gate_count, block_parts}
use Rattle.function_blocks.specs.Waves.{inputs_taken, holds, rows_of, part_rule, rule_among, gate_rule}
use Rattle.prs_core.specs.Deciding.{left_of, right_of}
use Rattle.function_blocks.proofs.GateLists.{ordered_one, ordered, is_lt}
use Rattle.round_time.specs.Longest.{inputs_depth, part_depth, depths, greatest, depth}
use Rattle.circuit_time.proofs.Trails.{gate_depth}

-- ---- the list of depths

at_zero : (b : ℕ) (bs : List ℕ) → slice_index (b ∷ bs) zero ≡ b
at_zero b bs = refl

at_suc : (b : ℕ) (bs : List ℕ) (k : ℕ) → slice_index (b ∷ bs) (suc k) ≡ slice_index bs k
at_suc b bs k = refl

at_end : (bs : List ℕ) (d : ℕ) → slice_index (bs ++ d ∷ []) (length bs) ≡ d
at_end [] d = refl
at_end (b ∷ bs) d = at_end bs d

at_before : (bs ds : List ℕ) (k : ℕ) → k < length bs → slice_index (bs ++ ds) k ≡ slice_index bs k
at_before [] ds k less = absurd (omega (arith, less))
at_before (b ∷ bs) ds zero less = refl
at_before (b ∷ bs) ds (suc k) less = at_before bs ds k (omega (arith, less))

one_more : (bs : List ℕ) (d : ℕ) → length (bs ++ d ∷ []) ≡ suc (length bs)
one_more bs d = let z = length-append bs (d ∷ []) in omega (arith, z)

depths_keep : (gs : List BlockPart) (before : List ℕ) (k : ℕ) → k < length before → slice_index (depths before gs) k ≡ slice_index before k
depths_keep [] before k less = refl
depths_keep (g ∷ gs) before k less =
    let z = one_more before (part_depth before g) in
    depths_keep gs (before ++ part_depth before g ∷ []) k (omega (arith, z, less)) ∙ at_before before (part_depth before g ∷ []) k less

depths_here : (g : BlockPart) (gs : List BlockPart) (before : List ℕ) → slice_index (depths before (g ∷ gs)) (length before) ≡ part_depth before g
depths_here g gs before =
    let z = one_more before (part_depth before g) in
    depths_keep gs (before ++ part_depth before g ∷ []) (length before) (omega (arith, z)) ∙ at_end before (part_depth before g)

part_some : (before : List ℕ) (g : BlockPart) → 1 ≤ part_depth before g
part_some before (fixed v) = omega arith
part_some before (read_bit x i) = omega arith
part_some before (made f i more) = omega arith

all_some : (gs : List BlockPart) (before : List ℕ) (k : ℕ) → k < length gs → 1 ≤ slice_index (depths before gs) (length before + k)
all_some [] before k less = absurd (omega (arith, less))
all_some (g ∷ gs) before zero less =
    let a = depths_here g gs before in
    let z : slice_index (depths before (g ∷ gs)) (length before + 0) ≡ part_depth before g = ap (slice_index (depths before (g ∷ gs))) (omega arith) ∙ a in
    let b = part_some before g in omega (arith, z, b)
all_some (g ∷ gs) before (suc k) less =
    let z = one_more before (part_depth before g) in
    let a = all_some gs (before ++ part_depth before g ∷ []) k (omega (arith, less)) in
    let b : slice_index (depths before (g ∷ gs)) (length before + suc k)
    ≡ slice_index (depths before (g ∷ gs)) (length (before ++ part_depth before g ∷ []) + k) =
    ap (slice_index (depths before (g ∷ gs))) (omega (arith, z)) in
    omega (arith, a, b)

greatest_at : (ds : List ℕ) (k : ℕ) → slice_index ds k ≤ greatest ds
greatest_at [] k = omega arith
greatest_at (d ∷ ds) zero = le-max_left d (greatest ds)
greatest_at (d ∷ ds) (suc k) = let a = greatest_at ds k in let b = le-max_right d (greatest ds) in omega (arith, a, b)

pub depth_most : (e : Formula) (k : ℕ) → gate_depth e k ≤ depth e
depth_most e k = greatest_at (depths [] (block_parts e 0)) k

-- ---- what a gate sees

abbrev pub Ordered : Formula → Type 0
Ordered e = ordered 0 (block_parts e 0) ≡ true

-- another gate's rails don't matter to it, or are among its inputs
same_or_input : (before : List ℕ) (n : ℕ) (look now : ℕ → RailLevels) (j : ℕ) → ((i : ℕ) → i ≢ j → now i ≡ look i) → (ins : List Input)
    → list_all (λ (i : Input). nat_lt i.at n) ins ≡ true
    → (inputs_taken now ins ≡ inputs_taken look ins) ⊎ ((j < n) × (slice_index before j ≤ inputs_depth before ins))
same_or_input before n look now j same [] o = inl refl
same_or_input before n look now j same (i ∷ more) o =
    by (cases_eq i.at j) (same_or_input before n look now j same more (right_of (nat_lt i.at n) _ o))
  where
    by : (i.at ≡ j) ⊎ (i.at ≡ j → ⊥) → (inputs_taken now more ≡ inputs_taken look more) ⊎ ((j < n) × (slice_index before j ≤ inputs_depth before more))
        → (inputs_taken now (i ∷ more) ≡ inputs_taken look (i ∷ more)) ⊎ ((j < n) × (slice_index before j ≤ inputs_depth before (i ∷ more)))
    by (inl e) rest =
        let a : slice_index before i.at ≡ slice_index before j = ap (slice_index before) e in
        let c = is_lt i.at n (left_of (nat_lt i.at n) _ o) in
        let b = le-max_left (slice_index before i.at) (inputs_depth before more) in inr (omega (arith, c, e), omega (arith, a, b))
    by (inr ne) (inl e) = inl (ap (λ (p : RailLevels). cross i.crossed p ∷ inputs_taken now more) (same i.at ne)
        ∙ ap (λ (ps : List RailLevels). cross i.crossed (look i.at) ∷ ps) e)
    by (inr ne) (inr (c, a)) = let b = le-max_right (slice_index before i.at) (inputs_depth before more) in inr (c, omega (arith, a, b))

part_sees : (before : List ℕ) (n : ℕ) (r : Bool) (look now : ℕ → RailLevels) (bits : ℕ → Rails) (j : ℕ) → ((i : ℕ) → i ≢ j → now i ≡ look i)
    → (g : BlockPart) (p : RailLevels) (one : Bool) → ordered_one n g ≡ true
    → (part_rule r now bits g p one ≡ part_rule r look bits g p one) ⊎ ((j < n) × (slice_index before j < part_depth before g))
part_sees before n r look now bits j same (fixed v) p one o = inl refl
part_sees before n r look now bits j same (read_bit x i) p one o = inl refl
part_sees before n r look now bits j same (made f i more) p one o = by (same_or_input before n look now j same (i ∷ more) o)
  where
    by : (inputs_taken now (i ∷ more) ≡ inputs_taken look (i ∷ more)) ⊎ ((j < n) × (slice_index before j ≤ inputs_depth before (i ∷ more)))
        → (part_rule r now bits (made f i more) p one ≡ part_rule r look bits (made f i more) p one)
        ⊎ ((j < n) × (slice_index before j < part_depth before (made f i more)))
    by (inl e) = inl (ap (λ (ps : List RailLevels). record { now = side_of p one; up = holds (rows_of one f) ps; down = list_all levels_neutral ps }) e)
    by (inr (c, a)) = inr (c, omega (arith, a))

-- a gate of the list
abbrev Deeper : (before : List ℕ) (gs : List BlockPart) (j k : ℕ) → Type 0
Deeper before gs j k = slice_index (depths before gs) j < slice_index (depths before gs) (length before + k)

among_sees : (r : Bool) (look now : ℕ → RailLevels) (bits : ℕ → Rails) (j : ℕ) → ((i : ℕ) → i ≢ j → now i ≡ look i) → (gs : List BlockPart) (before : List ℕ)
    (from : ℕ) → length before ≡ from → ordered from gs ≡ true → (n : ℕ) (u : Pairs n) (k : ℕ) (one : Bool)
    → (rule_among r now bits gs n u k one ≡ rule_among r look bits gs n u k one) ⊎ Deeper before gs j k
among_sees r look now bits j same [] before from l o n u k one = inl refl
among_sees r look now bits j same (g ∷ gs) before from l o zero u k one = inl refl
among_sees r look now bits j same (g ∷ gs) before from l o (suc n) u zero one =
    by (part_sees before from r look now bits j same g u.0 one (left_of (ordered_one from g) _ o))
  where
    by : (part_rule r now bits g u.0 one ≡ part_rule r look bits g u.0 one) ⊎ ((j < from) × (slice_index before j < part_depth before g))
        → (part_rule r now bits g u.0 one ≡ part_rule r look bits g u.0 one) ⊎ Deeper before (g ∷ gs) j 0
    by (inl e) = inl e
    by (inr (c, a)) =
        let b = depths_keep (g ∷ gs) before j (omega (arith, c, l)) in
        let d : slice_index (depths before (g ∷ gs)) (length before + 0) ≡ part_depth before g =
        ap (slice_index (depths before (g ∷ gs))) (omega arith) ∙ depths_here g gs before in
        inr (omega (arith, a, b, d))
among_sees r look now bits j same (g ∷ gs) before from l o (suc n) u (suc k) one =
    by (among_sees r look now bits j same gs (before ++ part_depth before g ∷ []) (suc from) (let z = one_more before (part_depth before g) in omega
    (arith, z, l))
    (right_of (ordered_one from g) _ o) n u.1 k one)
  where
    longer : length (before ++ part_depth before g ∷ []) + k ≡ length before + suc k
    longer = let z = one_more before (part_depth before g) in omega (arith, z)

    by : (rule_among r now bits gs n u.1 k one ≡ rule_among r look bits gs n u.1 k one) ⊎ Deeper (before ++ part_depth before g ∷ []) gs j k
        → (rule_among r now bits gs n u.1 k one ≡ rule_among r look bits gs n u.1 k one) ⊎ Deeper before (g ∷ gs) j (suc k)
    by (inl e) = inl e
    by (inr less) =
        let a : slice_index (depths before (g ∷ gs)) (length (before ++ part_depth before g ∷ []) + k)
        ≡ slice_index (depths before (g ∷ gs)) (length before + suc k) =
        ap (slice_index (depths before (g ∷ gs))) longer in
        inr (omega (arith, less, a))

-- of the rails of a gate itself
among_own : (r : Bool) (look : ℕ → RailLevels) (bits : ℕ → Rails) (gs : List BlockPart) (n : ℕ) (u : Pairs n) (j : ℕ) (side : Bool) (k : ℕ) (one : Bool)
    → ((j ≡ k) → side ≡ one → ⊥) → rule_among r look bits gs n (turned_pairs n u j side) k one ≡ rule_among r look bits gs n u k one
among_own r look bits [] n u j side k one ne = refl
among_own r look bits (g ∷ gs) zero u j side k one ne = refl
among_own r look bits (g ∷ gs) (suc n) u zero true zero true ne = absurd (ne refl refl)
among_own r look bits (g ∷ gs) (suc n) u zero false zero false ne = absurd (ne refl refl)
among_own r look bits (g ∷ gs) (suc n) u zero true zero false ne = refl
among_own r look bits (g ∷ gs) (suc n) u zero false zero true ne = refl
among_own r look bits (g ∷ gs) (suc n) u zero side (suc k) one ne = refl
among_own r look bits (g ∷ gs) (suc n) u (suc j) side zero one ne = refl
among_own r look bits (g ∷ gs) (suc n) u (suc j) side (suc k) one ne =
    among_own r look bits gs n u.1 j side k one (λ e h. ne (ap (λ i. suc i) e) h)

pairs_apart : (n : ℕ) (u : Pairs n) (j : ℕ) (side : Bool) (i : ℕ) → i ≢ j → pair_in n (turned_pairs n u j side) i ≡ pair_in n u i
pairs_apart zero u j side i ne = refl
pairs_apart (suc n) u zero side zero ne = absurd (ne refl)
pairs_apart (suc n) u zero side (suc i) ne = refl
pairs_apart (suc n) u (suc j) side zero ne = refl
pairs_apart (suc n) u (suc j) side (suc i) ne = pairs_apart n u.1 j side i (λ e. ne (ap (λ z. suc z) e))

-- A gate's move leaves the rule of another rail as it is, or that is of a deeper gate.
pub gate_sees : (e : Formula) → Ordered e → (bits : ℕ → Rails) (r : Bool) (u : Pairs (gate_count e)) (j : ℕ) (side : Bool) (k : ℕ) (one : Bool)
    → ((j ≡ k) → side ≡ one → ⊥)
    → (gate_rule e bits r (turned_pairs (gate_count e) u j side) k one ≡ gate_rule e bits r u k one) ⊎ (gate_depth e j < gate_depth e k)
gate_sees e o bits r u j side k one ne =
    by (among_sees r (pair_in (gate_count e) u) (pair_in (gate_count e) (turned_pairs (gate_count e) u j side)) bits j
    (pairs_apart (gate_count e) u j side) (block_parts e 0) [] 0 refl o (gate_count e) (turned_pairs (gate_count e) u j side) k one)
  where
    by : (gate_rule e bits r (turned_pairs (gate_count e) u j side) k one
        ≡ rule_among r (pair_in (gate_count e) u) bits (block_parts e 0) (gate_count e) (turned_pairs (gate_count e) u j side) k one)
        ⊎ Deeper [] (block_parts e 0) j k
        → (gate_rule e bits r (turned_pairs (gate_count e) u j side) k one ≡ gate_rule e bits r u k one) ⊎ (gate_depth e j < gate_depth e k)
    by (inl a) = inl (a ∙ among_own r (pair_in (gate_count e) u) bits (block_parts e 0) (gate_count e) u j side k one ne)
    by (inr less) = let z : 0 + k ≡ k = omega arith in inr (subst (λ (i : ℕ). gate_depth e j < slice_index (depths [] (block_parts e 0)) i) z less)

-- a gate whose rule fires has a depth
among_there : (r : Bool) (look : ℕ → RailLevels) (bits : ℕ → Rails) (gs : List BlockPart) (n : ℕ) (u : Pairs n) (k : ℕ) (one : Bool)
    → one_rule_fires (rule_among r look bits gs n u k one) ≡ true → k < length gs
among_there r look bits [] n u k one f = absurd (cc f)
among_there r look bits (g ∷ gs) zero u k one f = absurd (cc f)
among_there r look bits (g ∷ gs) (suc n) u zero one f = omega arith
among_there r look bits (g ∷ gs) (suc n) u (suc k) one f = let a = among_there r look bits gs n u.1 k one f in omega (arith, a)

pub depth_some : (e : Formula) (bits : ℕ → Rails) (r : Bool) (u : Pairs (gate_count e)) (k : ℕ) (one : Bool)
    → one_rule_fires (gate_rule e bits r u k one) ≡ true → 1 ≤ gate_depth e k
depth_some e bits r u k one f =
    let z : 0 + k ≡ k = omega arith in
    subst (λ (i : ℕ). 1 ≤ slice_index (depths [] (block_parts e 0)) i) z
    (all_some (block_parts e 0) [] k (among_there r (pair_in (gate_count e) u) bits (block_parts e 0) (gate_count e) u k one f))
