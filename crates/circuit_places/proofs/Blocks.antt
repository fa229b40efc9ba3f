-- The block of one variable: its bits, the nodes that say that a bit is written, and the tree over these. What its own moves
-- and those of the rails by which it is written keep, and what it waits for.
use Rattle.std.proofs.Common.{◌≡◌, ◌≢◌, ℕ, zero, suc, ◌<◌, ◌≤◌, ◌==◌, Bool, true, false, refl, sym, ap, ◌∙◌, subst, inl, inr, ◌⊎◌, Contains, arith}
use Rattle.std.specs.Prelude.{not, ◌&&◌, ◌||◌, if◌then◌else◌, Option, Some, None, is_some}
use Rattle.prs_core.specs.Moves.{bit_value, with_bit}
use Rattle.std.specs.List.{range_with_len}
use Rattle.prs_core.specs.Parts.{Owned, turned}
use Rattle.prs_core.specs.Turning.{turned_apart, none_among}
use Rattle.cell_parallel.specs.Trees.{tree_owned}
use Rattle.circuit_places.specs.Lines.{Rails}
use Rattle.circuit_places.specs.Circuit.{tree_value, tree_answer, one_rule_fires, is_apart, same_bit, rails_turned}
use Rattle.circuit_places.specs.Whole.{bit_rule, wrote_rule, value_on, neutral_on}
use Rattle.circuit_places.proofs.RailLemmas.{both_true}
use Rattle.circuit_places.proofs.LineNames.{self_number, same_number}
use Rattle.circuit_places.proofs.Flow.{cases}
use Rattle.circuit_places.proofs.Trees.{TreeOver, Settling, node_moves, joint_below, leaf_turns, node_turns, NodeTurned, TopTurned, stays_top, turns_top, waits_on}
use Rattle.circuit_places.proofs.BitTable.{Now, Role, rail_t, rail_f, write_t, write_f, written, turn, may, legal, now_of, stays, stays_alone, stays_after, written_as_acknowledged, is_other, is_own, firm, valid, has_value, same, ready, ready_after, ready_alone, apart, waits, role_cases, written_t, written_f}

abbrev pub now_at : (x w : Rails) (wrote : ℕ → Bool) (va : Bool) → ℕ → Now
now_at x w wrote va i = now_of (x i true) (x i false) (w i true) (w i false) (wrote i) va

-- each bit is legal, and the tree settled
pub record Block (n : ℕ) (x w : Rails) (wrote node : ℕ → Bool) : Type 0 where
  pub known : TreeOver n
  pub bits : (i : ℕ) → i < n → legal (now_at x w wrote (tree_answer n wrote node) i) ≡ true
  pub tree : Settling n wrote node

abbrev pub rail_role : Bool → Role
rail_role true = rail_t
rail_role false = rail_f

abbrev pub write_role : Bool → Role
write_role true = write_t
write_role false = write_f

-- the rules are those of the table
pub bit_can : (x w : Rails) (wrote : ℕ → Bool) (va : Bool) (i : ℕ) (one : Bool) →
    one_rule_fires (bit_rule w x i one) ≡ may (rail_role one) (now_at x w wrote va i)
bit_can x w wrote va i true = refl
bit_can x w wrote va i false = refl

pub wrote_can : (x w : Rails) (wrote : ℕ → Bool) (va : Bool) (i : ℕ) → one_rule_fires (wrote_rule w x wrote i) ≡ may written (now_at x w wrote va i)
wrote_can x w wrote va i = refl

-- a move at one bit
pub record Touch (r : Role) (i : ℕ) (f g : ℕ → Now) : Type 0 where
  pub here : g i ≡ turn r (f i)
  pub far : (j : ℕ) → (j == i) ≡ false → g j ≡ f j

pub rail_touch : (x w : Rails) (wrote : ℕ → Bool) (va : Bool) (i : ℕ) (one : Bool)
    → Touch (rail_role one) i (now_at x w wrote va) (now_at (rails_turned x i one) w wrote va)
rail_touch x w wrote va i one = record {
  here = near one;
  far = λ j e. ap
      (λ b. now_of (if b && same_bit true one then not (x i one) else x j true) (if b && same_bit false one then not (x i one) else x j false) (w j true)
      (w j false) (wrote j) va) e;
}
  where
    near : (one : Bool) → now_at (rails_turned x i one) w wrote va i ≡ turn (rail_role one) (now_at x w wrote va i)
    near true = ap (λ b. now_of (if b && same_bit true true then not (x i true) else x i true) (if b && same_bit false true then not (x i true) else x i false)
        (w i true) (w i false) (wrote i) va) (self_number i)
    near false = ap (λ b. now_of (if b && same_bit true false then not (x i false) else x i true)
        (if b && same_bit false false then not (x i false) else x i false) (w i true) (w i false) (wrote i) va) (self_number i)

pub write_touch : (x w : Rails) (wrote : ℕ → Bool) (va : Bool) (i : ℕ) (one : Bool)
    → Touch (write_role one) i (now_at x w wrote va) (now_at x (rails_turned w i one) wrote va)
write_touch x w wrote va i one = record {
  here = near one;
  far = λ j e. ap
      (λ b. now_of (x j true) (x j false) (if b && same_bit true one then not (w i one) else w j true)
      (if b && same_bit false one then not (w i one) else w j false) (wrote j) va) e;
}
  where
    near : (one : Bool) → now_at x (rails_turned w i one) wrote va i ≡ turn (write_role one) (now_at x w wrote va i)
    near true = ap (λ b. now_of (x i true) (x i false) (if b && same_bit true true then not (w i true) else w i true)
        (if b && same_bit false true then not (w i true) else w i false) (wrote i) va) (self_number i)
    near false = ap (λ b. now_of (x i true) (x i false) (if b && same_bit true false then not (w i false) else w i true)
        (if b && same_bit false false then not (w i false) else w i false) (wrote i) va) (self_number i)

pub wrote_touch : (x w : Rails) (wrote : ℕ → Bool) (va : Bool) (i : ℕ) → Touch written i (now_at x w wrote va) (now_at x w (turned wrote i) va)
wrote_touch x w wrote va i = record {
  here = ap (λ b. now_of (x i true) (x i false) (w i true) (w i false) (if b then not (wrote i) else wrote i) va) (self_number i);
  far = λ j e. ap (λ b. now_of (x j true) (x j false) (w j true) (w j false) (if b then not (wrote j) else wrote j) va) e;
}

touch_legal : (r : Role) (i n : ℕ) (f g : ℕ → Now) → Touch r i f g → may r (f i) ≡ true → ((j : ℕ) → j < n → legal (f j) ≡ true) → (j : ℕ) → j < n
    → legal (g j) ≡ true
touch_legal r i n f g t m l j less = cases (j == i)
    (λ (e : (j == i) ≡ true).
    let z : j ≡ i = same_number j i e in
    subst (λ (k : ℕ). legal (g k) ≡ true) (sym z) (ap legal t.here ∙ stays r (f i) (subst (λ (k : ℕ). legal (f k) ≡ true) z (l j less)) m))
    (λ (e : (j == i) ≡ false). ap legal (t.far j e) ∙ l j less)

touch_firm : (r : Role) (i : ℕ) (f g : ℕ → Now) → Touch r i f g → legal (f i) ≡ true → may r (f i) ≡ true → (k : Role) → is_own k ≡ true → (j : ℕ)
    → (j ≡ i → k ≡ r → ⊥) → may k (f j) ≡ true → may k (g j) ≡ true
touch_firm r i f g t l m k own j ne z = cases (j == i)
    (λ (e : (j == i) ≡ true). at (same_number j i e) (role_cases k r))
    (λ (e : (j == i) ≡ false). ap (may k) (t.far j e) ∙ z)
  where
    at : j ≡ i → (k ≡ r) ⊎ (is_other k r ≡ true) → may k (g j) ≡ true
    at e (inl s) = absurd (ne e s)
    at e (inr o) = ap (λ x. may k (g x)) e ∙ (ap (may k) t.here ∙ firm k r (f i) own o l (sym (ap (λ x. may k (f x)) e) ∙ z) m)

own_rail : (one : Bool) → is_own (rail_role one) ≡ true
own_rail true = refl
own_rail false = refl

same_role : (a b : Bool) → rail_role a ≡ rail_role b → a ≡ b
same_role true true e = refl
same_role false false e = refl
same_role true false e = absurd (cc e)
same_role false true e = absurd (cc e)

rail_not_write : (a b : Bool) → rail_role a ≡ write_role b → ⊥
rail_not_write true true e = cc e
rail_not_write true false e = cc e
rail_not_write false true e = cc e
rail_not_write false false e = cc e

rail_not_written : (a : Bool) → rail_role a ≡ written → ⊥
rail_not_written true e = cc e
rail_not_written false e = cc e

written_not_write : (b : Bool) → written ≡ write_role b → ⊥
written_not_write true e = cc e
written_not_write false e = cc e

-- a move of a bit's rail
pub record BitMoved (n : ℕ) (x w : Rails) (wrote node : ℕ → Bool) (i : ℕ) (one : Bool) : Type 0 where
  pub block : Block n (rails_turned x i one) w wrote node
  pub bits : (j : ℕ) (side : Bool) → (j ≡ i → side ≡ one → ⊥) → one_rule_fires (bit_rule w x j side) ≡ true →
      one_rule_fires (bit_rule w (rails_turned x i one) j side) ≡ true
  pub wrotes : (j : ℕ) → one_rule_fires (wrote_rule w x wrote j) ≡ true → one_rule_fires (wrote_rule w (rails_turned x i one) wrote j) ≡ true

pub bit_moved : (n : ℕ) (x w : Rails) (wrote node : ℕ → Bool) → Block n x w wrote node → (i : ℕ) (one : Bool) → i < n →
    one_rule_fires (bit_rule w x i one) ≡ true
    → BitMoved n x w wrote node i one
bit_moved n x w wrote node b i one less e =
    let va = tree_answer n wrote node in
    let t = rail_touch x w wrote va i one in
    let m : may (rail_role one) (now_at x w wrote va i) ≡ true = sym (bit_can x w wrote va i one) ∙ e in
    record {
      block = record {
        known = b.known;
        bits = touch_legal (rail_role one) i n (now_at x w wrote va)
            (now_at (rails_turned x i one) w wrote va) t m b.bits;
        tree = b.tree;
      };
      bits = λ j side ne z.
          bit_can (rails_turned x i one) w wrote va j side
          ∙ touch_firm (rail_role one) i (now_at x w wrote va) (now_at (rails_turned x i one) w wrote va) t (b.bits i less) m (rail_role side) (own_rail side) j
          (λ k r. ne k (same_role side one r)) (sym (bit_can x w wrote va j side) ∙ z);
      wrotes = λ j z. touch_firm (rail_role one) i (now_at x w wrote va) (now_at (rails_turned x i one) w wrote va) t (b.bits i less) m written refl j
          (λ k r. rail_not_written one (sym r)) z;
    }

-- a move of a rail by which it is written
pub record WriteMoved (n : ℕ) (x w : Rails) (wrote node : ℕ → Bool) (i : ℕ) (one : Bool) : Type 0 where
  pub block : Block n x (rails_turned w i one) wrote node
  pub bits : (j : ℕ) (side : Bool) → one_rule_fires (bit_rule w x j side) ≡ true → one_rule_fires (bit_rule (rails_turned w i one) x j side) ≡ true
  pub wrotes : (j : ℕ) → one_rule_fires (wrote_rule w x wrote j) ≡ true → one_rule_fires (wrote_rule (rails_turned w i one) x wrote j) ≡ true

pub write_moved : (n : ℕ) (x w : Rails) (wrote node : ℕ → Bool) → Block n x w wrote node → (i : ℕ) (one : Bool) → i < n
    → may (write_role one) (now_at x w wrote (tree_answer n wrote node) i) ≡ true → WriteMoved n x w wrote node i one
write_moved n x w wrote node b i one less m =
    let va = tree_answer n wrote node in
    let t = write_touch x w wrote va i one in
    record {
      block = record {
        known = b.known;
        bits = touch_legal (write_role one) i n (now_at x w wrote va)
            (now_at x (rails_turned w i one) wrote va) t m b.bits;
        tree = b.tree;
      };
      bits = λ j side z.
          bit_can x (rails_turned w i one) wrote va j side
          ∙ touch_firm (write_role one) i (now_at x w wrote va) (now_at x (rails_turned w i one) wrote va) t (b.bits i less) m (rail_role side)
          (own_rail side) j (λ k r. rail_not_write side one r) (sym (bit_can x w wrote va j side) ∙ z);
      wrotes = λ j z. touch_firm (write_role one) i (now_at x w wrote va) (now_at x (rails_turned w i one) wrote va) t (b.bits i less) m written refl j
          (λ k r. written_not_write one r) z;
    }

-- the acknowledge stays, or it turns over, where each bit is ready
pub data Acked (n : ℕ) (x w : Rails) (wrote : ℕ → Bool) (va now : Bool) : Type 0 where
  ack_stays : now ≡ va → Acked n x w wrote va now
  ack_turns : now ≡ not va → ((i : ℕ) → i < n → ready (now_at x w wrote va i) ≡ true) → Acked n x w wrote va now

-- a move of a node of the tree
pub record JointTurned (n : ℕ) (x w : Rails) (wrote node : ℕ → Bool) (k : ℕ) : Type 0 where
  pub block : Block n x w wrote (turned node k)
  pub acked : Acked n x w wrote (tree_answer n wrote node) (tree_answer n wrote (turned node k))
  pub joints : (j : ℕ) → j ≢ k → node_moves n wrote node j ≡ true → node_moves n wrote (turned node k) j ≡ true

pub joint_turns : (n : ℕ) (x w : Rails) (wrote node : ℕ → Bool) → Block n x w wrote node → (k : ℕ) → node_moves n wrote node k ≡ true
    → JointTurned n x w wrote node k
joint_turns n x w wrote node b k e = by (node_turns n b.known wrote node k b.tree e)
  where
    by : NodeTurned n b.known wrote node k → JointTurned n x w wrote node k
    by r = top r.top
      where
        top : TopTurned n b.known wrote node k → JointTurned n x w wrote node k
        top (stays_top s) = record {
          block = record { known = b.known; bits = λ i less. ap (λ va. legal (now_at x w wrote va i)) s ∙ b.bits i less; tree = r.settled };
          acked = ack_stays s;
          joints = r.keeps;
        }
        top (turns_top s all) = record {
          block = record {
            known = b.known;
            bits = λ i less. ap (λ va. legal (now_at x w wrote va i)) s ∙ stays_after (now_at x w wrote (tree_answer n wrote node) i) (b.bits i less)
                (all i less);
            tree = r.settled;
          };
          acked = ack_turns s (λ i less. ready_after (now_at x w wrote (tree_answer n wrote node) i) (b.bits i less) (all i less));
          joints = r.keeps;
        }

-- a variable whose tree has a node has a bit
pub joint_some : (n : ℕ) (wrote node : ℕ → Bool) (k : ℕ) → node_moves n wrote node k ≡ true → 1 ≤ n
joint_some zero wrote node k e = absurd (let g : k < 0 = joint_below 0 wrote node k e in let h : ⊥ = omega (arith, g) in h)
joint_some (suc n) wrote node k e = omega arith

-- a move of a node that says that a bit is written
pub record WroteTurned (n : ℕ) (x w : Rails) (wrote node : ℕ → Bool) (i : ℕ) : Type 0 where
  pub block : Block n x w (turned wrote i) node
  pub acked : Acked n x w wrote (tree_answer n wrote node) (tree_answer n (turned wrote i) node)
  pub wrotes : (j : ℕ) → j ≢ i → one_rule_fires (wrote_rule w x wrote j) ≡ true → one_rule_fires (wrote_rule w x (turned wrote i) j) ≡ true
  pub joints : (k : ℕ) → node_moves n wrote node k ≡ true → node_moves n (turned wrote i) node k ≡ true

wrote_far : (x w : Rails) (wrote : ℕ → Bool) (i j : ℕ) → j ≢ i → one_rule_fires (wrote_rule w x wrote j) ≡ true →
    one_rule_fires (wrote_rule w x (turned wrote i) j) ≡ true
wrote_far x w wrote i j ne z = ap (λ b. if b then not (w j true) && not (w j false) else (w j true && x j true) || (w j false && x j false))
    (turned_apart wrote i j ne) ∙ z

pub wrote_turns : (n : ℕ) (x w : Rails) (wrote node : ℕ → Bool) → Block n x w wrote node → (i : ℕ) → i < n → one_rule_fires (wrote_rule w x wrote i) ≡ true
    → WroteTurned n x w wrote node i
wrote_turns zero x w wrote node b i less e = absurd (let g : ⊥ = omega (arith, less) in g)
wrote_turns (suc zero) x w wrote node b zero less e = record {
  block = record {
    known = b.known;
    bits = here;
    tree = record { is = b.known.first (tree_value 1 (turned wrote zero) node) (λ o among. absurd (none o among)) };
  };
  acked = ack_turns refl first_ready;
  wrotes = λ j ne z. wrote_far x w wrote zero j ne z;
  joints = λ k z. absurd (let g : k < 0 = joint_below 1 wrote node k z in let h : ⊥ = omega (arith, g) in h);
}
  where
    here : (i : ℕ) → i < 1 → legal (now_at x w (turned wrote zero) (tree_answer 1 (turned wrote zero) node) i) ≡ true
    here zero l = stays_alone (now_at x w wrote (tree_answer 1 wrote node) zero) (b.bits zero l) e
    here (suc i) l = absurd (let g : ⊥ = omega (arith, l) in g)

    first_ready : (i : ℕ) → i < 1 → ready (now_at x w wrote (tree_answer 1 wrote node) i) ≡ true
    first_ready zero l = ready_alone (now_at x w wrote (tree_answer 1 wrote node) zero) (b.bits zero l) e
    first_ready (suc i) l = absurd (let g : ⊥ = omega (arith, l) in g)

    none : (o : Owned) → Contains (tree_owned (range_with_len 0 1) 1) o → ⊥
    none o among = none_among o among
wrote_turns (suc zero) x w wrote node b (suc i) less e = absurd (let g : ⊥ = omega (arith, less) in g)
wrote_turns (suc (suc n)) x w wrote node b i less e =
    let va = tree_answer (suc (suc n)) wrote node in
    let same = written_as_acknowledged (now_at x w wrote va i) (b.bits i less) e in
    let r = leaf_turns (suc (suc n)) b.known (omega arith) wrote node i less b.tree same in
    record {
      block = record {
        known = b.known;
        bits = λ j l. ap (λ a. legal (now_at x w (turned wrote i) a j)) r.top
            ∙ touch_legal written i (suc (suc n)) (now_at x w wrote va) (now_at x w (turned wrote i) va) (wrote_touch x w wrote va i) e b.bits j l;
        tree = r.settled;
      };
      acked = ack_stays r.top;
      wrotes = λ j ne z. wrote_far x w wrote i j ne z;
      joints = r.keeps;
    }

-- What a block in which nothing moves waits for: that a rail moves by which it is written.
pub block_waits : (n : ℕ) (x w : Rails) (wrote node : ℕ → Bool) → Block n x w wrote node → ((i : ℕ) (one : Bool) → one_rule_fires (bit_rule w x i one) ≡ false)
    → ((i : ℕ) → one_rule_fires (wrote_rule w x wrote i) ≡ false) → ((k : ℕ) → node_moves n wrote node k ≡ false)
    → (i : ℕ) × (i < n) × ((may write_t (now_at x w wrote (tree_answer n wrote node) i) || may write_f (now_at x w wrote (tree_answer n wrote node) i)) ≡ true)
block_waits n x w wrote node b no_bit no_wrote no_joint =
    let (i, less, same) = waits_on n b.known wrote node b.tree no_joint in
    (i, less, waits (now_at x w wrote (tree_answer n wrote node) i) (b.bits i less) same (no_bit i true) (no_bit i false) (no_wrote i))

-- no node of it is pulled both ways
pub bit_apart : (n : ℕ) (x w : Rails) (wrote node : ℕ → Bool) → Block n x w wrote node → (i : ℕ) (one : Bool) → i < n → is_apart (bit_rule w x i one) ≡ true
bit_apart n x w wrote node b i true less = ap not (apart rail_t (now_at x w wrote (tree_answer n wrote node) i) (b.bits i less))
bit_apart n x w wrote node b i false less = ap not (apart rail_f (now_at x w wrote (tree_answer n wrote node) i) (b.bits i less))

pub wrote_apart : (n : ℕ) (x w : Rails) (wrote node : ℕ → Bool) → Block n x w wrote node → (i : ℕ) → i < n → is_apart (wrote_rule w x wrote i) ≡ true
wrote_apart n x w wrote node b i less = ap not (apart written (now_at x w wrote (tree_answer n wrote node) i) (b.bits i less))

-- a rail of a bit moves only while it is written
pub moves_written : (one : Bool) (n : Now) → legal n ≡ true → may (rail_role one) n ≡ true → (not n.va && (n.wt || n.wf)) ≡ true
moves_written true n l m = written_t n l m
moves_written false n l m = written_f n l m

-- what ready bits say of the rails
abbrev Told : (x w : Rails) → ℕ → Type 0
Told x w i = ((valid (w i true) (w i false) && valid (x i true) (x i false)) && ((w i true && x i true) || (w i false && x i false))) ≡ true

same_pair : (wt wf xt xf : Bool) → ((valid wt wf && valid xt xf) && ((wt && xt) || (wf && xf))) ≡ true
    → (is_some (bit_value wt wf) ≡ true) × (bit_value xt xf ≡ bit_value wt wf)
same_pair true false true false h = (refl, refl)
same_pair false true false true h = (refl, refl)
same_pair true true xt xf h = absurd (cc h)
same_pair false false xt xf h = absurd (cc h)
same_pair true false false true h = absurd (cc h)
same_pair true false true true h = absurd (cc h)
same_pair true false false false h = absurd (cc h)
same_pair false true true false h = absurd (cc h)
same_pair false true true true h = absurd (cc h)
same_pair false true false false h = absurd (cc h)

both_some : (b r : Option ℕ) → is_some b ≡ true → is_some r ≡ true → is_some (with_bit b r) ≡ true
both_some (Some a) (Some c) h k = refl
both_some None r h k = absurd (cc h)
both_some (Some a) None h k = absurd (cc k)

told : (n : ℕ) (x w : Rails) → ((i : ℕ) → i < n → Told x w i) → (is_some (value_on n w) ≡ true) × (value_on n x ≡ value_on n w)
told zero x w h = (refl, refl)
told (suc n) x w h =
    let p = same_pair (w zero true) (w zero false) (x zero true) (x zero false) (h zero (omega arith)) in
    let r = told n (λ i. x (suc i)) (λ i. w (suc i)) (λ i l. h (suc i) (omega (arith, l))) in (
      both_some (bit_value (w zero true) (w zero false)) (value_on n (λ i. w (suc i))) p.0 r.0,
      ap (λ b. with_bit b (value_on n (λ i. x (suc i)))) p.1 ∙ ap (with_bit (bit_value (w zero true) (w zero false))) r.1,
    )

pub ready_valid : (n : ℕ) (x w : Rails) (wrote : ℕ → Bool) (va : Bool) → va ≡ false → ((i : ℕ) → i < n → ready (now_at x w wrote va i) ≡ true)
    → (is_some (value_on n w) ≡ true) × (value_on n x ≡ value_on n w)
ready_valid n x w wrote va low h = told n x w (λ i l. sym (ap (λ a. if a then not (w i true) && not (w i false) else has_value (now_at x w wrote va i)) low)
    ∙ h i l)

neutral : (n : ℕ) (w : Rails) → ((i : ℕ) → i < n → (not (w i true) && not (w i false)) ≡ true) → neutral_on n w ≡ true
neutral zero w h = refl
neutral (suc n) w h = both_true _ _ (h zero (omega arith)) (neutral n (λ i. w (suc i)) (λ i l. h (suc i) (omega (arith, l))))

pub ready_neutral : (n : ℕ) (x w : Rails) (wrote : ℕ → Bool) (va : Bool) → va ≡ true → ((i : ℕ) → i < n → ready (now_at x w wrote va i) ≡ true)
    → neutral_on n w ≡ true
ready_neutral n x w wrote va high h = neutral n w (λ i l. sym (ap (λ a. if a then not (w i true) && not (w i false) else has_value
    (now_at x w wrote va i)) high) ∙ h i l)
