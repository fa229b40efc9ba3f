-- How many moves the wires of a channel and the block of a variable make at most before the program's next step.
--
-- n: the width, or the nodes of a bit now: its rails w.t, w.f that are written, its value x.t, x.f, and its acknowledge; o: that nothing is under
-- way; r: a rail that moves; b, v: a node's value.
use Rattle.std.proofs.Common.{◌≡◌, ◌≢◌, ℕ, zero, suc, ◌+◌, ◌*◌, ◌<◌, ◌≤◌, ◌==◌, Bool, true, false, refl, sym, ap, ◌∙◌, subst, arith}
use Rattle.std.specs.Prelude.{not, nat_lt, ◌&&◌, ◌||◌}
use Rattle.std.proofs.lemmas.Bool.Decides.{nat_tests}
use Rattle.prs_core.specs.Deciding.{implies, implies_both}
use Rattle.prs_core.specs.Parts.{turned}
use Rattle.prs_core.specs.Turning.{turned_here, turned_apart}
use Rattle.circuit_places.specs.Bounds.{sum_to}
use Rattle.circuit_places.specs.Lines.{Rails}
use Rattle.circuit_places.specs.Circuit.{joint_count, tree_answer}
use Rattle.circuit_places.proofs.Flow.{cases, not_both}
use Rattle.circuit_places.proofs.LineNames.{same_number, self_number}
use Rattle.circuit_places.proofs.Trees.{TreeOver, Settling, node_moves, joint_below, moves_from_top, flat_stands}
use Rattle.circuit_places.proofs.BitTable.{Now, Role, rail_t, rail_f, write_t, write_f, written, turn, may, legal, at_now}
use Rattle.circuit_places.proofs.Blocks.{Block, now_at, Touch}
use Rattle.circuit_places.proofs.Dues.{mark, lack, bits_sum, bits_turned, bits_below, bits_twice}

-- sums over numbers
pub sum_same : (n : ℕ) (f g : ℕ → ℕ) → ((j : ℕ) → j < n → g j ≡ f j) → sum_to n g ≡ sum_to n f
sum_same zero f g h = refl
sum_same (suc n) f g h =
    let d : g n ≡ f n = h n (omega arith) in
    let e : sum_to n g ≡ sum_to n f = sum_same n f g (λ j less. h j (omega (arith, less))) in
    omega (arith, d, e)

pub sum_below : (n : ℕ) (f g : ℕ → ℕ) → ((j : ℕ) → j < n → g j ≤ f j) → sum_to n g ≤ sum_to n f
sum_below zero f g h = omega arith
sum_below (suc n) f g h =
    let d : g n ≤ f n = h n (omega arith) in
    let e : sum_to n g ≤ sum_to n f = sum_below n f g (λ j less. h j (omega (arith, less))) in
    omega (arith, d, e)

pub sum_falls : (n : ℕ) (f g : ℕ → ℕ) (i : ℕ) → i < n → suc (g i) ≤ f i → ((j : ℕ) → j ≢ i → g j ≡ f j) → suc (sum_to n g) ≤ sum_to n f
sum_falls zero f g i less h same = absurd (omega (arith, less))
sum_falls (suc n) f g i less h same = cases (n == i)
    (λ (e : (n == i) ≡ true).
    let is : n ≡ i = same_number n i e in
    let d : suc (g n) ≤ f n = subst (λ (k : ℕ). suc (g k) ≤ f k) (sym is) h in
    let y : sum_to n g ≡ sum_to n f = sum_same n f g (λ j below. same j (λ (z : j ≡ i). omega (arith, z, is, below))) in
    let r : suc (g n + sum_to n g) ≤ f n + sum_to n f = omega (arith, d, y) in
    r)
    (λ (e : (n == i) ≡ false).
    let ne : n ≢ i = λ (z : n ≡ i). absurd (not_both (ap (λ k. k == i) (sym z) ∙ e) (self_number i)) in
    let d : g n ≡ f n = same n ne in
    let y : suc (sum_to n g) ≤ sum_to n f = sum_falls n f g i (omega (arith, less, ne)) h same in
    let r : suc (g n + sum_to n g) ≤ f n + sum_to n f = omega (arith, d, y) in
    r)

-- Of a node that rises while a line's phases begin, and falls once they are over: then it falls, and may rise once more.
abbrev pub phase : (over high : Bool) → ℕ
phase true true = 2
phase true false = 1
phase false true = 0
phase false false = 1

pub phase_falls : (a v : Bool) → v ≡ a → suc (phase a (not v)) ≡ phase a v
phase_falls true true e = refl
phase_falls false false e = refl
phase_falls true false e = absurd (cc e)
phase_falls false true e = absurd (cc e)

pub phase_eases : (v : Bool) → phase false v ≤ phase true v
phase_eases true = omega arith
phase_eases false = omega arith

pub phase_most : (a v : Bool) → phase a v ≤ 2
phase_most true true = omega arith
phase_most true false = omega arith
phase_most false true = omega arith
phase_most false false = omega arith

-- the rails of a bit's value
abbrev pub value_due : (over wt wf xt xf : Bool) → ℕ
value_due true wt wf xt xf = 2
value_due false true wf xt xf = lack xt + mark xf
value_due false false true xt xf = mark xt + lack xf
value_due false false false xt xf = 2

abbrev pub bit_due : Bool → Now → ℕ
bit_due over n = value_due over n.wt n.wf n.xt n.xf + (phase over n.wt + (phase over n.wf + phase over n.wa))

mark_most : (b : Bool) → mark b ≤ 1
mark_most true = omega arith
mark_most false = omega arith

lack_most : (b : Bool) → lack b ≤ 1
lack_most true = omega arith
lack_most false = omega arith

value_most : (a wt wf xt xf : Bool) → value_due a wt wf xt xf ≤ 2
value_most true wt wf xt xf = omega arith
value_most false true wf xt xf = omega (arith, lack_most xt, mark_most xf)
value_most false false true xt xf = omega (arith, mark_most xt, lack_most xf)
value_most false false false xt xf = omega arith

pub bit_most : (a : Bool) (n : Now) → bit_due a n ≤ 10
bit_most a n = omega (arith, value_most a n.wt n.wf n.xt n.xf, phase_most a n.wt, phase_most a n.wf, phase_most a n.wa)

pub bit_eases : (n : Now) → bit_due false n ≤ bit_due true n
bit_eases n = omega (arith, value_most false n.wt n.wf n.xt n.xf, phase_eases n.wt, phase_eases n.wf, phase_eases n.wa)

-- each move at a bit, decided over all values of its nodes
abbrev fall_test : Role → Now → Bool
fall_test r n = implies (legal n) (implies (may r n) (nat_lt (bit_due n.va (turn r n)) (bit_due n.va n)))

less_by : (a b : ℕ) → nat_lt a b ≡ true → suc a ≤ b
less_by a b h = grind (arith, nat_tests)

pub bit_falls : (r : Role) (n : Now) → legal n ≡ true → may r n ≡ true → suc (bit_due n.va (turn r n)) ≤ bit_due n.va n
bit_falls rail_t n l m = less_by _ _ (implies_both (legal n) (may rail_t n) _ (at_now (fall_test rail_t) refl n) l m)
bit_falls rail_f n l m = less_by _ _ (implies_both (legal n) (may rail_f n) _ (at_now (fall_test rail_f) refl n) l m)
bit_falls write_t n l m = less_by _ _ (implies_both (legal n) (may write_t n) _ (at_now (fall_test write_t) refl n) l m)
bit_falls write_f n l m = less_by _ _ (implies_both (legal n) (may write_f n) _ (at_now (fall_test write_f) refl n) l m)
bit_falls written n l m = less_by _ _ (implies_both (legal n) (may written n) _ (at_now (fall_test written) refl n) l m)

-- a bit that has been written whose rails are still up doesn't move, nor does the node that says so
pub full_still : (n : Now) → legal n ≡ true → n.va ≡ true → (n.wt || n.wf) ≡ true → (may written n ≡ false) × (n.wa ≡ true)
full_still n l a h = (
  by_not (may written n) (implies_both (legal n) (n.va && (n.wt || n.wf)) _
      (at_now (λ n. implies (legal n) (implies (n.va && (n.wt || n.wf)) (not (may written n)))) refl n) l (both n.va (n.wt || n.wf) a h)),
  implies_both (legal n) (n.va && (n.wt || n.wf)) _ (at_now (λ n. implies (legal n) (implies (n.va && (n.wt || n.wf)) n.wa)) refl n) l
      (both n.va (n.wt || n.wf) a h),
)
  where
    by_not : (b : Bool) → not b ≡ true → b ≡ false
    by_not true h = absurd (cc h)
    by_not false h = refl

    both : (a b : Bool) → a ≡ true → b ≡ true → (a && b) ≡ true
    both true b h k = k
    both false b h k = absurd (cc h)

-- the whole block
abbrev pub var_due : (n : ℕ) → (over : Bool) → (x w : Rails) → (wrote node : ℕ → Bool) → ℕ
var_due n over x w wrote node = sum_to n (λ i. bit_due over (now_at x w wrote over i)) + bits_sum (phase over) (joint_count n) node

pub var_most : (n : ℕ) (over : Bool) (x w : Rails) (wrote node : ℕ → Bool) → var_due n over x w wrote node ≤ 10 * n + 2 * joint_count n
var_most n over x w wrote node = omega (arith, here n, bits_twice (phase over) (phase_most over) (joint_count n) node)
  where
    here : (k : ℕ) → sum_to k (λ i. bit_due over (now_at x w wrote over i)) ≤ 10 * k
    here zero = omega arith
    here (suc k) = let e = here k in let d = bit_most over (now_at x w wrote over k) in omega (arith, d, e)

pub var_eases : (n : ℕ) (x w : Rails) (wrote node : ℕ → Bool) → var_due n false x w wrote node ≤ var_due n true x w wrote node
var_eases n x w wrote node =
    let d = sum_below n (λ i. bit_due true (now_at x w wrote true i)) (λ i. bit_due false (now_at x w wrote false i))
    (λ j less. bit_eases (now_at x w wrote true j)) in
    let e = bits_below (phase false) (phase true) phase_eases (joint_count n) node in
    omega (arith, d, e)

-- a move at a bit
pub touch_falls : (n : ℕ) (va : Bool) (r : Role) (i : ℕ) (f g : ℕ → Now) → Touch r i f g → i < n → (f i).va ≡ va → legal (f i) ≡ true → may r (f i) ≡ true
    → suc (sum_to n (λ j. bit_due va (g j))) ≤ sum_to n (λ j. bit_due va (f j))
touch_falls n va r i f g t less same l m =
    sum_falls n (λ j. bit_due va (f j)) (λ j. bit_due va (g j)) i less
    (subst (λ (z : Now). suc (bit_due va z) ≤ bit_due va (f i)) (sym t.here)
    (subst (λ (a : Bool). suc (bit_due a (turn r (f i))) ≤ bit_due a (f i)) same (bit_falls r (f i) l m)))
    (λ j ne. ap (bit_due va) (t.far j (cases (j == i) (λ (z : (j == i) ≡ true). absurd (ne (same_number j i z))) (λ (z : (j == i) ≡ false). z))))

-- a move of the tree
pub tree_falls : (n : ℕ) → TreeOver n → (wrote node : ℕ → Bool) (k : ℕ) → Settling n wrote node → node_moves n wrote node k ≡ true → (va : Bool)
    → tree_answer n wrote node ≡ va → suc (bits_sum (phase va) (joint_count n) (turned node k)) ≡ bits_sum (phase va) (joint_count n) node
tree_falls n known wrote node k s e va top =
    let less = joint_below n wrote node k e in
    let v : node k ≡ va = moves_from_top n known wrote node k s e ∙ top in
    bits_turned (phase va) (joint_count n) node (turned node k) k less
    (ap (λ b. suc (phase va b)) (turned_here node k) ∙ phase_falls va (node k) v)
    (λ j ne. turned_apart node k j ne)

pub some_leaves : (n k : ℕ) → k < joint_count n → 2 ≤ n
some_leaves zero k h = absurd (omega (arith, h))
some_leaves (suc zero) k h = absurd (omega (arith, h))
some_leaves (suc (suc n)) k h = omega arith

-- where each bit has been written, and has a rail up, nothing of the block moves
pub held_still : (n : ℕ) (x w : Rails) (wrote node : ℕ → Bool) → Block n x w wrote node → tree_answer n wrote node ≡ true
    → ((i : ℕ) → i < n → (w i true || w i false) ≡ true)
    → ((i : ℕ) → i < n → may written (now_at x w wrote (tree_answer n wrote node) i) ≡ false) × ((k : ℕ) → node_moves n wrote node k ≡ false)
held_still n x w wrote node b top up = (
  λ i less. (full_still (now_at x w wrote (tree_answer n wrote node) i) (b.bits i less) top (up i less)).0,
  λ k. cases (node_moves n wrote node k)
      (λ (e : node_moves n wrote node k ≡ true).
      flat_stands n b.known (some_leaves n k (joint_below n wrote node k e)) wrote node true b.tree top
      (λ i less. (full_still (now_at x w wrote (tree_answer n wrote node) i) (b.bits i less) top (up i less)).1) k)
      (λ (e : node_moves n wrote node k ≡ false). e),
)
