-- The contract of the completion tree alone, and how its C-elements stand to its top.
use Rattle.std.specs.Prelude.{◌≡◌, ◌≢◌, ℕ, ◌<◌, Bool, true, false, not, ◌||◌, ◌&&◌, if◌then◌else◌, List, [], ◌∷◌, length, map, All, Contains}
use Rattle.std.specs.List.{list_all}
use Rattle.prs_core.specs.Moves.{guard_holds}
use Rattle.prs_core.specs.Parts.{Owned, Part, wire, fires, turned, all_low, never_blocked, no_notes}
use Rattle.cell_parallel.specs.Trees.{tree_owned, tree_top}

-- The top is to rise once all leaves are high, and to fall once all are low. A leaf may rise where the top is low, and
-- fall where it is high.
abbrev pub tree_part : (leaves : List ℕ) → (from : ℕ) → Part
tree_part leaves from =
    let top = tree_top leaves from in record {
      own = tree_owned leaves from;
      promises = wire top (λ m. list_all m.value leaves) (λ m. all_low m.value leaves) ∷ [];
      allows = map (λ leaf. wire leaf (λ m. not (m.value top)) (λ m. m.value top)) leaves;
      lows = map (λ (o : Owned). o.node) (tree_owned leaves from);
      bits = [];
      ports = top ∷ leaves;
      blocked = never_blocked;
      notes = no_notes;
    }

-- the node is none of the tree's own
abbrev pub IsOutsideTree : (leaves : List ℕ) → (from node : ℕ) → Type 0
IsOutsideTree leaves from node = All (λ (o : Owned). o.node ≢ node) (tree_owned leaves from)

-- no leaf is a node of the tree's own
abbrev pub AreOutside : (leaves : List ℕ) → (from : ℕ) → Type 0
AreOutside leaves from = All (IsOutsideTree leaves from) leaves

-- The wave turns at the top: a C-element that hasn't the top's value has the guard by which it left it.
abbrev pub is_settled : (ℕ → Bool) → (top : ℕ) → Owned → Bool
is_settled v top o = if v o.node then v top || guard_holds v o.rules.up else not (v top) || guard_holds v o.rules.down

abbrev pub IsTreeSettled : (leaves : List ℕ) → (from : ℕ) → (ℕ → Bool) → Type 0
IsTreeSettled leaves from v = (o : Owned) → Contains (tree_owned leaves from) o →
    is_settled v (tree_top leaves from) o ≡ true

-- What may move beside a tree: one of its own nodes by a rule, a leaf that has the top's value, or a node that isn't in
-- it.
pub data TreeMove (leaves : List ℕ) (from : ℕ) (v : ℕ → Bool) (node : ℕ) : Type 0 where
  by_rule : (o : Owned) → Contains (tree_owned leaves from) o → fires v o ≡ true → node ≡ o.node →
      TreeMove leaves from v node
  of_leaf : IsOutsideTree leaves from node → v node ≡ v (tree_top leaves from) → TreeMove leaves from v node
  elsewhere : IsOutsideTree leaves from node → All (λ leaf. leaf ≢ node) leaves → TreeMove leaves from v node

-- What a settled tree keeps, for all that stands on it.
pub record Settles (leaves : List ℕ) (from : ℕ) : Type 0 where
  -- it is settled where all its nodes have one value, and stays so
  pub first : (v : ℕ → Bool) → ((o : Owned) → Contains (tree_owned leaves from) o → v o.node ≡ v (tree_top leaves from))
      → IsTreeSettled leaves from v
  pub stays : (v : ℕ → Bool) (node : ℕ) → IsTreeSettled leaves from v → TreeMove leaves from v node →
      IsTreeSettled leaves from (turned v node)
  -- a node of its own moves only away from the top's value; where its rule is enabled no other move disables it, and
  -- none is pulled both ways
  pub leaves_it : (v : ℕ → Bool) (o : Owned) → IsTreeSettled leaves from v → Contains (tree_owned leaves from) o →
      fires v o ≡ true → v o.node ≡ v (tree_top leaves from)
  pub firm : (v : ℕ → Bool) (o : Owned) (node : ℕ) → IsTreeSettled leaves from v → Contains (tree_owned leaves from) o →
      fires v o ≡ true → TreeMove leaves from v node → node ≢ o.node → fires (turned v node) o ≡ true
  pub apart : (v : ℕ → Bool) (o : Owned) → Contains (tree_owned leaves from) o →
      (guard_holds v o.rules.up && guard_holds v o.rules.down) ≡ false
  -- the top turns once all leaves have; where it is low with all leaves, all nodes are; where nothing moves, some leaf
  -- has its value
  pub turns : (v : ℕ → Bool) (o : Owned) → IsTreeSettled leaves from v → Contains (tree_owned leaves from) o →
      fires v o ≡ true → o.node ≡ tree_top leaves from → All (λ leaf. v leaf ≡ not (v (tree_top leaves from))) leaves
  pub rests : (v : ℕ → Bool) → IsTreeSettled leaves from v → v (tree_top leaves from) ≡ false →
      All (λ leaf. v leaf ≡ false) leaves → (o : Owned) → Contains (tree_owned leaves from) o → v o.node ≡ false
  -- where all leaves have the top's value, all nodes have it
  pub flat : (v : ℕ → Bool) → IsTreeSettled leaves from v → All (λ leaf. v leaf ≡ v (tree_top leaves from)) leaves →
      (o : Owned) → Contains (tree_owned leaves from) o → v o.node ≡ v (tree_top leaves from)
  pub waits : (v : ℕ → Bool) → IsTreeSettled leaves from v →
      ((o : Owned) → Contains (tree_owned leaves from) o → fires v o ≡ false) →
      (leaf : ℕ) × Contains leaves leaf × (v leaf ≡ v (tree_top leaves from))
  -- the top is one of its nodes, but for a leaf alone
  pub top : 1 < length leaves → (o : Owned) × Contains (tree_owned leaves from) o × (o.node ≡ tree_top leaves from)
