-- Bits on two rails each (dual-rail code): rail t is high for 1, rail f for 0, both are low between two values.
use Rattle.std.specs.Prelude.{ℕ, zero, suc, ◌+◌, List, [], ◌∷◌, map, slice_index_or}
use Rattle.prs_core.specs.declared.rule.Literal.{Literal}
use Rattle.prs_core.specs.Nets.{NodeRules, is_high, is_low, one_term}

pub record Pair : Type 0 where
  pub t : ℕ
  pub f : ℕ

abbrev pub pair_at : ℕ → Pair
pair_at node = record { t = node; f = node + 1 }

-- so many bits, whose rails are numbered t, f, t, f, .. from a node on; the lowest bit comes first
abbrev pub pairs_from : (bits from : ℕ) → List Pair
pairs_from zero from = []
pairs_from (suc n) from = pair_at from ∷ pairs_from n (from + 2)

-- the bit turned over
abbrev pub exchanged : Pair → Pair
exchanged p = record { t = p.f; f = p.t }

-- rail t and rail f of each bit
abbrev pub rails_of : List Pair → List ℕ
rails_of [] = []
rails_of (p ∷ ps) = p.t ∷ p.f ∷ rails_of ps

-- all of the nodes are low
abbrev pub lows : List ℕ → List Literal
lows ns = map is_low ns

-- a node that no rule turns over
abbrev pub no_rules : NodeRules
no_rules = record { up = []; down = [] }

-- The OR of some nodes: high once one of them is, low once all of them are. Of no nodes it is a node without rules.
abbrev pub or_of : List ℕ → NodeRules
or_of [] = no_rules
or_of (n ∷ ns) = record { up = map (λ k. is_high k ∷ []) (n ∷ ns); down = one_term (lows (n ∷ ns)) }

-- the bit of this place
abbrev pub pair_of : List Pair → ℕ → Pair
pair_of ps bit = slice_index_or ps bit (pair_at 0)

-- The merges of a bit: its rail t is the OR of the rails t of that bit at all sites, and its rail f of the rails f.
abbrev pub merged_true : (sites : List (List Pair)) → (bit : ℕ) → NodeRules
merged_true sites bit = or_of (map (λ site. (pair_of site bit).t) sites)

abbrev pub merged_false : (sites : List (List Pair)) → (bit : ℕ) → NodeRules
merged_false sites bit = or_of (map (λ site. (pair_of site bit).f) sites)
