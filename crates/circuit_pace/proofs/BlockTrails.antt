-- Moves of a variable's block among themselves: each lets none begin but of a shorter trail, or the step of an assignment.
--
-- n: the variable's width; h: the height of its tree; after: how many moves follow the fall of its acknowledge; late: how many, beside the
-- tree's, follow the rise of a bit's node that says it is written (none under an assignment, whose step is the rise of the top; two under a
-- receive); w, x: the rails by which it is written, and its own; i, j: bits; k: a node of the tree; z: that a rule fires.
use Rattle.std.proofs.Common.{◌≡◌, ◌≢◌, ℕ, ◌+◌, ◌-◌, ◌<◌, ◌≤◌, ◌==◌, Bool, true, false, refl, sym, ap, ◌∙◌, subst, inl, inr, arith}
use Rattle.std.specs.Prelude.{◌⊎◌, not, ◌&&◌, ◌||◌, if◌then◌else◌}
use Rattle.std.proofs.lemmas.Bool.{cases_lt, cases_eq}
use Rattle.prs_core.specs.Moves.{guard_holds}
use Rattle.prs_core.specs.Parts.{turned}
use Rattle.prs_core.specs.Turning.{turned_here, turned_apart}
use Rattle.function_blocks.specs.Rails.{Rails, one_rule_fires, same_bit}
use Rattle.circuit_places.specs.Circuit.{rails_turned, tree_value, tree_node, tree_rule}
use Rattle.circuit_places.specs.Whole.{bit_rule, wrote_rule}
use Rattle.circuit_places.proofs.Flow.{cases, not_both}
use Rattle.circuit_places.proofs.LineNames.{same_number, self_number}
use Rattle.circuit_places.proofs.Trees.{value_node}
use Rattle.round_time.specs.Longest.{tree_height}
use Rattle.circuit_time.proofs.Trails.{joint_level}
use Rattle.circuit_time.proofs.Joints.{leaf_level, own_level, Above, joint_sees}
use Rattle.circuit_pace.proofs.SideTrails.{node_other, leaf_other, leaf_at, fires_low, fires_high, same_fires}

-- of nodes that are so high: of a rail by which the variable is written, one of its own, a bit's node, and a node of the tree
abbrev pub rail_trail : (h after late : ℕ) → Bool → ℕ
rail_trail h v e true = 1 + h + v
rail_trail h v e false = h + 2 + e

abbrev pub bit_trail : (h late : ℕ) → Bool → ℕ
bit_trail h e true = h + 1 + e
bit_trail h e false = h + e

abbrev pub wrote_trail : (h after late : ℕ) → Bool → ℕ
wrote_trail h v e true = h + v
wrote_trail h v e false = (h + e) - 1

abbrev pub joint_trail : (h level after late : ℕ) → Bool → ℕ
joint_trail h l v e true = (h - l) + v
joint_trail h l v e false = ((h - l) + e) - 1

-- ---- one rail turned over

-- a rail that falls leaves no other high, and one that rises leaves none low
less_high : (w : Rails) (j : ℕ) (side : Bool) → w j side ≡ true → (i : ℕ) (one : Bool) → rails_turned w j side i one ≡ true → w i one ≡ true
less_high w j side e i one z = by ((i == j) && same_bit one side) z
  where
    by : (b : Bool) → (if b then not (w j side) else w i one) ≡ true → w i one ≡ true
    by true z = absurd (not_both (ap not e) z)
    by false z = z

less_low : (w : Rails) (j : ℕ) (side : Bool) → w j side ≡ false → (i : ℕ) (one : Bool) → rails_turned w j side i one ≡ false → w i one ≡ false
less_low w j side e i one z = by ((i == j) && same_bit one side) z
  where
    by : (b : Bool) → (if b then not (w j side) else w i one) ≡ false → w i one ≡ false
    by true z = absurd (not_both z (ap not e))
    by false z = z

-- a rail that has changed is that one
turned_is : (w : Rails) (j : ℕ) (side : Bool) (i : ℕ) (one : Bool) → (rails_turned w j side i one ≡ w i one) ⊎ ((i ≡ j) × (one ≡ side))
turned_is w j side i one = by ((i == j) && same_bit one side) refl
  where
    both : (a b : Bool) → (a && b) ≡ true → (a ≡ true) × (b ≡ true)
    both true true e = (refl, refl)
    both true false e = absurd (cc e)
    both false b e = absurd (cc e)

    same : (a b : Bool) → same_bit a b ≡ true → a ≡ b
    same true true e = refl
    same true false e = absurd (cc e)
    same false true e = absurd (cc e)
    same false false e = refl

    by : (b : Bool) → ((i == j) && same_bit one side) ≡ b → (rails_turned w j side i one ≡ w i one) ⊎ ((i ≡ j) × (one ≡ side))
    by true e = let k = both (i == j) (same_bit one side) e in inr (same_number i j k.0, same one side k.1)
    by false e = inl (ap (λ (c : Bool). if c then not (w j side) else w i one) e)

-- ---- rails by which it is written

pub rail_bit : (h v e : ℕ) (w x : Rails) (j : ℕ) (side : Bool) (i : ℕ) (one : Bool) → one_rule_fires (bit_rule (rails_turned w j side) x i one) ≡ true
    → (one_rule_fires (bit_rule w x i one) ≡ true) ⊎ (bit_trail h e (x i one) < rail_trail h v e (w j side))
rail_bit h v e w x j side i one z = cases (w j side)
    (λ (a : w j side ≡ true). inl (by (x i one) (x i (not one)) (rails_turned w j side i one) (rails_turned w j side i (not one)) (w i one) (w i (not one))
    (less_high w j side a i one) (less_high w j side a i (not one)) z))
    (λ (a : w j side ≡ false). inr (subst (λ (b : Bool). bit_trail h e (x i one) < rail_trail h v e b) (sym a) (less (x i one))))
  where
    by : (now other a b c d : Bool) → (a ≡ true → c ≡ true) → (b ≡ true → d ≡ true) → (if now then b else (a && not other)) ≡ true
        → (if now then d else (c && not other)) ≡ true
    by true other a b c d f g z = g z
    by false other true b c d f g z = ap (λ y. y && not other) (f refl) ∙ z
    by false other false b c d f g z = absurd (cc z)

    less : (b : Bool) → bit_trail h e b < h + 2 + e
    less true = omega arith
    less false = omega arith

pub rail_wrote : (h v e : ℕ) (w x : Rails) (wrote : ℕ → Bool) (j : ℕ) (side : Bool) (i : ℕ)
    → one_rule_fires (wrote_rule (rails_turned w j side) x wrote i) ≡ true
    → (one_rule_fires (wrote_rule w x wrote i) ≡ true) ⊎ (wrote_trail h v e (wrote i) < rail_trail h v e (w j side))
rail_wrote h v e w x wrote j side i z = by (wrote i) (w j side) refl z
  where
    rises : (a b c d s t : Bool) → (a ≡ true → c ≡ true) → (b ≡ true → d ≡ true) → ((a && s) || (b && t)) ≡ true → ((c && s) || (d && t)) ≡ true
    rises true b c d true t f g z = ap (λ y. (y && true) || (d && t)) (f refl)
    rises true true c d false true f g z = ap (λ y. (c && false) || (y && true)) (g refl) ∙ last c
      where
        last : (c : Bool) → ((c && false) || true) ≡ true
        last true = refl
        last false = refl
    rises true true c d false false f g z = absurd (cc z)
    rises true false c d false t f g z = absurd (cc z)
    rises false true c d s true f g z = ap (λ y. (c && s) || (y && true)) (g refl) ∙ last (c && s)
      where
        last : (c : Bool) → (c || true) ≡ true
        last true = refl
        last false = refl
    rises false true c d s false f g z = absurd (cc z)
    rises false false c d s t f g z = absurd (cc z)

    falls : (a b c d : Bool) → (a ≡ false → c ≡ false) → (b ≡ false → d ≡ false) → (not a && not b) ≡ true → (not c && not d) ≡ true
    falls false false c d f g z = ap (λ y. not y && not d) (f refl) ∙ ap (λ y. not y) (g refl)
    falls true b c d f g z = absurd (cc z)
    falls false true c d f g z = absurd (cc z)

    by : (now was : Bool) → w j side ≡ was
        → (if now then not (rails_turned w j side i true) && not (rails_turned w j side i false)
        else ((rails_turned w j side i true && x i true) || (rails_turned w j side i false && x i false))) ≡ true
        → ((if now then not (w i true) && not (w i false) else ((w i true && x i true) || (w i false && x i false))) ≡ true)
        ⊎ (wrote_trail h v e now < rail_trail h v e was)
    by true true a z = inr (omega arith)
    by false true a z = inl (rises _ _ (w i true) (w i false) (x i true) (x i false) (less_high w j side a i true) (less_high w j side a i false) z)
    by true false a z = inl (falls _ _ (w i true) (w i false) (less_low w j side a i true) (less_low w j side a i false) z)
    by false false a z = inr (omega arith)

-- ---- its own rails

pub bit_bit : (h e : ℕ) (w x : Rails) (j : ℕ) (side : Bool) (i : ℕ) (one : Bool) → (i ≡ j → one ≡ side → ⊥)
    → one_rule_fires (bit_rule w (rails_turned x j side) i one) ≡ true
    → (one_rule_fires (bit_rule w x i one) ≡ true) ⊎ (bit_trail h e (rails_turned x j side i one) < bit_trail h e (x j side))
bit_bit h e w x j side i one ne z = by (turned_is x j side i one) (turned_is x j side i (not one))
  where
    by : (rails_turned x j side i one ≡ x i one) ⊎ ((i ≡ j) × (one ≡ side))
        → (rails_turned x j side i (not one) ≡ x i (not one)) ⊎ ((i ≡ j) × (not one ≡ side))
        → (one_rule_fires (bit_rule w x i one) ≡ true) ⊎ (bit_trail h e (rails_turned x j side i one) < bit_trail h e (x j side))
    by (inr a) b = absurd (ne a.0 a.1)
    by (inl a) (inl b) = inl (subst (λ (y : Bool). (if y then w i (not one) else (w i one && not (x i (not one)))) ≡ true) a
        (subst (λ (y : Bool). (if rails_turned x j side i one then w i (not one) else (w i one && not y)) ≡ true) b z))
    by (inl a) (inr (same, too)) = here (x i one) refl
      where
        lasts : (b c : Bool) → (b && not c) ≡ true → c ≡ false
        lasts true true q = absurd (cc q)
        lasts true false q = refl
        lasts false c q = absurd (cc q)

        not_here : (q : Bool) → rails_turned x j side i (not one) ≡ q → q ≡ false → x j side ≡ true
        not_here q k low = cases (x j side) (λ (y : x j side ≡ true). y)
            (λ (y : x j side ≡ false). absurd (not_both (k ∙ low) (turned_self ∙ ap not y)))
          where
            turned_self : rails_turned x j side i (not one) ≡ not (x j side)
            turned_self = subst (λ (m : ℕ). rails_turned x j side m (not one) ≡ not (x j side)) (sym same)
                (subst (λ (b : Bool). rails_turned x j side j b ≡ not (x j side)) (sym too) at_itself)
              where
                at_itself : rails_turned x j side j side ≡ not (x j side)
                at_itself = self side
                  where
                    self : (s : Bool) → (if (j == j) && same_bit s s then not (x j side) else x j s) ≡ not (x j side)
                    self true = ap (λ (b : Bool). if b && true then not (x j side) else x j true) (self_number j)
                    self false = ap (λ (b : Bool). if b && true then not (x j side) else x j false) (self_number j)

        here : (b : Bool) → x i one ≡ b
            → (one_rule_fires (bit_rule w x i one) ≡ true) ⊎ (bit_trail h e (rails_turned x j side i one) < bit_trail h e (x j side))
        here true k = inl (subst (λ (y : Bool). (if y then w i (not one) else (w i one && not (x i (not one)))) ≡ true) (sym k)
            (subst (λ (y : Bool). (if y then w i (not one) else (w i one && not (rails_turned x j side i (not one)))) ≡ true) (a ∙ k) z))
        here false k =
            let low = lasts (w i one) (rails_turned x j side i (not one))
            (subst (λ (y : Bool). (if y then w i (not one) else (w i one && not (rails_turned x j side i (not one)))) ≡ true) (a ∙ k) z) in
            let high = not_here (rails_turned x j side i (not one)) refl low in
            inr (subst (λ (y : Bool). bit_trail h e y < bit_trail h e (x j side)) (sym (a ∙ k))
            (subst (λ (y : Bool). h + e < bit_trail h e y) (sym high) (omega arith)))

-- what moves is the step of an assignment, or has a shorter trail
pub bit_wrote : (h v e : ℕ) (w x : Rails) (wrote : ℕ → Bool) (j : ℕ) (side : Bool) (i : ℕ)
    → one_rule_fires (wrote_rule w (rails_turned x j side) wrote i) ≡ true
    → (one_rule_fires (wrote_rule w x wrote i) ≡ true) ⊎ ((wrote_trail h v e (wrote i) < bit_trail h e (x j side)) ⊎ (h + e ≡ 0))
bit_wrote h v e w x wrote j side i z = by (wrote i) (x j side) refl z (cases_eq (h + e) 0)
  where
    some : (a b s t c d : Bool) → (s ≡ true → c ≡ true) → (t ≡ true → d ≡ true) → ((a && s) || (b && t)) ≡ true → ((a && c) || (b && d)) ≡ true
    some true b true t c d f g z = ap (λ y. (true && y) || (b && d)) (f refl)
    some true true false true c d f g z = ap (λ y. (true && c) || (true && y)) (g refl) ∙ last c
      where
        last : (c : Bool) → (c || true) ≡ true
        last true = refl
        last false = refl
    some true true false false c d f g z = absurd (cc z)
    some true false false t c d f g z = absurd (cc z)
    some false true s true c d f g z = ap (λ y. (false && c) || (true && y)) (g refl)
    some false true s false c d f g z = absurd (cc z)
    some false false s t c d f g z = absurd (cc z)

    by : (now was : Bool) → x j side ≡ was
        → (if now then not (w i true) && not (w i false) else ((w i true && rails_turned x j side i true) ||
        (w i false && rails_turned x j side i false))) ≡ true
        → (h + e ≡ 0) ⊎ (h + e ≡ 0 → ⊥)
        → ((if now then not (w i true) && not (w i false) else ((w i true && x i true) || (w i false && x i false))) ≡ true)
        ⊎ ((wrote_trail h v e now < bit_trail h e was) ⊎ (h + e ≡ 0))
    by true was a z n = inl z
    by false true a z n = inl (some (w i true) (w i false) _ _ (x i true) (x i false) (less_high x j side a i true) (less_high x j side a i false) z)
    by false false a z (inl none) = inr (inr none)
    by false false a z (inr ne) = inr (inl (omega (arith, ne)))

-- ---- the tree

-- either a node's guards are as before, or it is of a shorter trail, or the top under an assignment
pub wrote_joint : (n v e : ℕ) (wrote joint : ℕ → Bool) (j : ℕ) → j < n → (k : ℕ) → one_rule_fires (tree_rule n (turned wrote j) joint k) ≡ true
    → (one_rule_fires (tree_rule n wrote joint k) ≡ true)
    ⊎ ((joint_trail (tree_height n) (joint_level n k) v e (joint k) < wrote_trail (tree_height n) v e (wrote j))
    ⊎ ((tree_height n ≤ joint_level n k) × (e ≡ 0)))
wrote_joint n v e wrote joint j less k z =
    by (joint_sees n j (tree_value n wrote joint) (tree_value n (turned wrote j) joint)
    (leaf_other n j wrote (turned wrote j) joint (λ i ne. turned_apart wrote j i ne)) k) (cases_eq e 0)
  where
    leaf_is : tree_value n (turned wrote j) joint j ≡ not (wrote j)
    leaf_is = leaf_at n j (turned wrote j) joint less ∙ turned_here wrote j

    goes : (a : Above n j (tree_value n (turned wrote j) joint) k) → (e ≡ 0) ⊎ (e ≡ 0 → ⊥) → (b : Bool) → wrote j ≡ b
        → (joint_trail (tree_height n) (joint_level n k) v e (joint k) < wrote_trail (tree_height n) v e (wrote j))
        ⊎ ((tree_height n ≤ joint_level n k) × (e ≡ 0))
    goes a none true is =
        let high = fires_high (joint k) _ _ z (a.no_rise (leaf_is ∙ ap not is)) in
        let l = leaf_level n j less in
        let lower = a.lower in
        let within = a.within in
        inl (subst (λ (y : Bool). joint_trail (tree_height n) (joint_level n k) v e y < wrote_trail (tree_height n) v e (wrote j)) (sym high)
        (subst (λ (y : Bool). (tree_height n - joint_level n k) + v < wrote_trail (tree_height n) v e y) (sym is) (omega (arith, l, lower, within))))
    goes a none false is = top none (cases_lt (joint_level n k) (tree_height n))
      where
        low : joint k ≡ false
        low = fires_low (joint k) _ _ z (a.no_fall (leaf_is ∙ ap not is))

        made : ((tree_height n - joint_level n k) + e) - 1 < (tree_height n + e) - 1
            → joint_trail (tree_height n) (joint_level n k) v e (joint k) < wrote_trail (tree_height n) v e (wrote j)
        made y = subst (λ (b : Bool). joint_trail (tree_height n) (joint_level n k) v e b < wrote_trail (tree_height n) v e (wrote j)) (sym low)
            (subst (λ (b : Bool). ((tree_height n - joint_level n k) + e) - 1 < wrote_trail (tree_height n) v e b) (sym is) y)

        top : (e ≡ 0) ⊎ (e ≡ 0 → ⊥) → (joint_level n k < tree_height n) ⊎ (tree_height n ≤ joint_level n k)
            → (joint_trail (tree_height n) (joint_level n k) v e (joint k) < wrote_trail (tree_height n) v e (wrote j))
            ⊎ ((tree_height n ≤ joint_level n k) × (e ≡ 0))
        top (inl none) (inr far) = inr (far, none)
        top (inr some) c = let l = leaf_level n j less in let lower = a.lower in let within = a.within in inl (made (omega (arith, l, lower, within, some)))
        top (inl none) (inl near) = let l = leaf_level n j less in let lower = a.lower in inl (made (omega (arith, l, lower, near, none)))

    by : ((guard_holds (tree_value n (turned wrote j) joint) (tree_node n k).up ≡ guard_holds (tree_value n wrote joint) (tree_node n k).up)
        × (guard_holds (tree_value n (turned wrote j) joint) (tree_node n k).down ≡ guard_holds (tree_value n wrote joint) (tree_node n k).down))
        ⊎ Above n j (tree_value n (turned wrote j) joint) k → (e ≡ 0) ⊎ (e ≡ 0 → ⊥)
        → (one_rule_fires (tree_rule n wrote joint k) ≡ true)
        ⊎ ((joint_trail (tree_height n) (joint_level n k) v e (joint k) < wrote_trail (tree_height n) v e (wrote j))
        ⊎ ((tree_height n ≤ joint_level n k) × (e ≡ 0)))
    by (inl (u, d)) none = inl (same_fires (joint k) _ _ _ _ u d z)
    by (inr a) none = inr (goes a none (wrote j) refl)

pub joint_joint : (n v e : ℕ) (wrote joint : ℕ → Bool) (j k : ℕ) → k ≢ j → one_rule_fires (tree_rule n wrote (turned joint j) k) ≡ true
    → (one_rule_fires (tree_rule n wrote joint k) ≡ true)
    ⊎ ((joint_trail (tree_height n) (joint_level n k) v e (joint k) < joint_trail (tree_height n) (joint_level n j) v e (joint j))
    ⊎ ((tree_height n ≤ joint_level n k) × (e ≡ 0)))
joint_joint n v e wrote joint j k ne z =
    by (joint_sees n (n + j) (tree_value n wrote joint) (tree_value n wrote (turned joint j))
    (node_other n j wrote joint (turned joint j) (λ i apart. turned_apart joint j i apart)) k) (cases_eq e 0)
  where
    node_is : tree_value n wrote (turned joint j) (n + j) ≡ not (joint j)
    node_is = value_node n wrote (turned joint j) j ∙ turned_here joint j

    same : turned joint j k ≡ joint k
    same = turned_apart joint j k ne

    fires : (if joint k then guard_holds (tree_value n wrote (turned joint j)) (tree_node n k).down
        else guard_holds (tree_value n wrote (turned joint j)) (tree_node n k).up) ≡ true
    fires = subst (λ (b : Bool). (if b then guard_holds (tree_value n wrote (turned joint j)) (tree_node n k).down
        else guard_holds (tree_value n wrote (turned joint j)) (tree_node n k).up) ≡ true) same z

    goes : (a : Above n (n + j) (tree_value n wrote (turned joint j)) k) → (e ≡ 0) ⊎ (e ≡ 0 → ⊥) → (b : Bool) → joint j ≡ b
        → (joint_trail (tree_height n) (joint_level n k) v e (joint k) < joint_trail (tree_height n) (joint_level n j) v e (joint j))
        ⊎ ((tree_height n ≤ joint_level n k) × (e ≡ 0))
    goes a none true is =
        let high = fires_high (joint k) _ _ fires (a.no_rise (node_is ∙ ap not is)) in
        let l = own_level n j in
        let lower = a.lower in
        let within = a.within in
        inl (subst (λ (y : Bool). joint_trail (tree_height n) (joint_level n k) v e y < joint_trail (tree_height n) (joint_level n j) v e (joint j)) (sym high)
        (subst (λ (y : Bool). (tree_height n - joint_level n k) + v < joint_trail (tree_height n) (joint_level n j) v e y) (sym is)
        (omega (arith, l, lower, within))))
    goes a none false is = top none (cases_lt (joint_level n k) (tree_height n))
      where
        low : joint k ≡ false
        low = fires_low (joint k) _ _ fires (a.no_fall (node_is ∙ ap not is))

        made : ((tree_height n - joint_level n k) + e) - 1 < ((tree_height n - joint_level n j) + e) - 1
            → joint_trail (tree_height n) (joint_level n k) v e (joint k) < joint_trail (tree_height n) (joint_level n j) v e (joint j)
        made y = subst (λ (b : Bool). joint_trail (tree_height n) (joint_level n k) v e b
            < joint_trail (tree_height n) (joint_level n j) v e (joint j)) (sym low)
            (subst (λ (b : Bool). ((tree_height n - joint_level n k) + e) - 1 < joint_trail (tree_height n) (joint_level n j) v e b) (sym is) y)

        top : (e ≡ 0) ⊎ (e ≡ 0 → ⊥) → (joint_level n k < tree_height n) ⊎ (tree_height n ≤ joint_level n k)
            → (joint_trail (tree_height n) (joint_level n k) v e (joint k) < joint_trail (tree_height n) (joint_level n j) v e (joint j))
            ⊎ ((tree_height n ≤ joint_level n k) × (e ≡ 0))
        top (inl none) (inr far) = inr (far, none)
        top (inr some) c = let l = own_level n j in let lower = a.lower in let within = a.within in inl (made (omega (arith, l, lower, within, some)))
        top (inl none) (inl near) = let l = own_level n j in let lower = a.lower in inl (made (omega (arith, l, lower, near, none)))

    by : ((guard_holds (tree_value n wrote (turned joint j)) (tree_node n k).up ≡ guard_holds (tree_value n wrote joint) (tree_node n k).up)
        × (guard_holds (tree_value n wrote (turned joint j)) (tree_node n k).down ≡ guard_holds (tree_value n wrote joint) (tree_node n k).down))
        ⊎ Above n (n + j) (tree_value n wrote (turned joint j)) k → (e ≡ 0) ⊎ (e ≡ 0 → ⊥)
        → (one_rule_fires (tree_rule n wrote joint k) ≡ true)
        ⊎ ((joint_trail (tree_height n) (joint_level n k) v e (joint k) < joint_trail (tree_height n) (joint_level n j) v e (joint j))
        ⊎ ((tree_height n ≤ joint_level n k) × (e ≡ 0)))
    by (inl (u, d)) none = inl (same_fires (joint k) _ _ _ _ u d fires)
    by (inr a) none = inr (goes a none (joint j) refl)
