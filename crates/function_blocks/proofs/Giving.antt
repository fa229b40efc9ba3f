-- Guards that are given to nodes, one after the other.
use Rattle.std.proofs.Common.{◌≡◌, ℕ, ◌+◌, List, ◌∷◌, length, All, refl, sym, ap, subst, ◌∙◌, arith, length-set}
use Rattle.std.proofs.lemmas.List.Elements.{All-head, All-tail}
use Rattle.prs_core.specs.Nets.{NodeRules, RulesValue, IsBelow, with_rules}
use Rattle.prs_core.specs.Parts.{owned_from, with_owned}
use Rattle.function_blocks.specs.Blocks.{AreBelow}

-- these are left, from this node on
pub record Giving (from : ℕ) (all : List NodeRules) (old : RulesValue) (node : ℕ) (left : List NodeRules) (now : RulesValue) : Type 0 where
  pub made : with_owned (owned_from node left) now ≡ with_owned (owned_from from all) old
  pub place : node + length left ≡ from + length all
  pub count : length now.up ≡ length old.up
  pub within : All (AreBelow (length old.up)) left

pub give_begin : (from : ℕ) (all : List NodeRules) (old : RulesValue)
    → All (AreBelow (length old.up)) all → Giving from all old from all old
give_begin from all old h = record { made = refl; place = refl; count = refl; within = h }

pub give_more : (from : ℕ) (all : List NodeRules) (old : RulesValue) (node : ℕ) (n : NodeRules) (left : List NodeRules) (now later : RulesValue)
    → Giving from all old node (n ∷ left) now → later ≡ with_rules node n now → Giving from all old (node + 1) left later
give_more from all old node n left now later g is = record {
  made = ap (with_owned (owned_from (node + 1) left)) is ∙ g.made;
  place = let p = g.place in omega (arith, p);
  count = ap (λ (r : RulesValue). length r.up) is ∙ (length-set now.up node n.up ∙ g.count);
  within = All-tail (AreBelow (length old.up)) n left g.within;
}

pub give_within : (from : ℕ) (all : List NodeRules) (old : RulesValue) (node : ℕ) (n : NodeRules) (left : List NodeRules) (now : RulesValue)
    → Giving from all old node (n ∷ left) now → IsBelow (length now.up) n.up × IsBelow (length now.up) n.down
give_within from all old node n left now g =
    let h = All-head (AreBelow (length old.up)) n left g.within in
    (subst (λ k. IsBelow k n.up) (sym g.count) h.0, subst (λ k. IsBelow k n.down) (sym g.count) h.1)
