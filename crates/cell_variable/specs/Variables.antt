-- The circuit of a variable: its bits, the merges of what is written to it, and the completion of a write.
use Rattle.std.specs.Prelude.{ℕ, zero, suc, ◌+◌, ◌*◌, ◌/◌, ◌%◌, ◌==◌, if◌then◌else◌, List, [], ◌∷◌, ◌++◌, map}
use Rattle.std.specs.List.{flat_map}
use Rattle.prs_core.specs.Nets.{NodeRules, is_high, is_low, one_term}
use Rattle.prs_core.specs.Parts.{Owned, owned}
use Rattle.prs_core.specs.Pairs.{Pair, merged_true, merged_false}
use Rattle.prs_core.specs.Sites.{site_answer}
use Rattle.cell_parallel.specs.Trees.{tree_rules, tree_owned, tree_top}

-- a bit's nodes: its two rails, the two by which it is written, and the one that says that it is
pub record Bit : Type 0 where
  pub x : Pair
  pub w : Pair
  pub written : ℕ

-- five nodes for each bit
abbrev pub bit_at : ℕ → Bit
bit_at node = record {
  x = record { t = node; f = node + 1 };
  w = record { t = node + 2; f = node + 3 };
  written =
      node + 4;
}

-- the lowest bit comes first
abbrev pub bits_from : (width from : ℕ) → List Bit
bits_from zero from = []
bits_from (suc n) from = bit_at from ∷ bits_from n (from + 5)

-- a rail of the bit rises once the other one has fallen: w.t & ~x.f -> x.t+, w.f -> x.t-, and the same exchanged
abbrev pub kept_rail : (set other reset : ℕ) → NodeRules
kept_rail set other reset = record {
  up = one_term (is_high set ∷ is_low other ∷ []);
  down =
      one_term (is_high reset ∷ []);
}

-- the bit is written once it has the value: w.t & x.t | w.f & x.f -> wa+, ~w.t & ~w.f -> wa-
abbrev pub bit_written : Bit → NodeRules
bit_written b = record {
  up = (is_high b.w.t ∷ is_high b.x.t ∷ []) ∷ (is_high b.w.f ∷ is_high b.x.f ∷ []) ∷ [];
  down = one_term (is_low b.w.t ∷ is_low b.w.f ∷ []);
}

-- the bit of this index, where the variable's write sites have these rails
abbrev pub bit_rules : (sites : List (List Pair)) → (place : ℕ) → Bit → List NodeRules
bit_rules sites place b =
    kept_rail b.w.t b.x.f b.w.f ∷ kept_rail b.w.f b.x.t b.w.t ∷ merged_true sites place ∷ merged_false sites place
    ∷ bit_written b ∷ []

-- the bits from this index on
abbrev pub bits_rules : (sites : List (List Pair)) → (place : ℕ) → List Bit → List NodeRules
bits_rules sites place [] = []
bits_rules sites place (b ∷ bs) = bit_rules sites place b ++ bits_rules sites (suc place) bs

abbrev pub written_leaves : (width from : ℕ) → List ℕ
written_leaves width from = map (λ (b : Bit). b.written) (bits_from width from)

-- the node that says that all bits are written: the top of the completion tree
abbrev pub all_written : (width from : ℕ) → ℕ
all_written width from = tree_top (written_leaves width from) (from + 5 * width)

-- a variable's block whose write sites have these rails
abbrev pub variable_rules : (width from : ℕ) → (sites : List (List Pair)) → List NodeRules
variable_rules width from sites =
    bits_rules sites 0 (bits_from width from) ++ tree_rules (written_leaves width from) (from + 5 * width)

-- the bit's own nodes: not those by which it is written, which are merges, and parts of their own
abbrev pub bit_owned : Bit → List Owned
bit_owned b =
    owned b.x.t (kept_rail b.w.t b.x.f b.w.f)
    ∷ owned b.x.f (kept_rail b.w.f b.x.t b.w.t)
    ∷ owned b.written (bit_written b)
    ∷ []

-- the variable's own nodes
abbrev pub variable_owned : (width from : ℕ) → List Owned
variable_owned width from = flat_map bit_owned (bits_from width from)
    ++ tree_owned (written_leaves width from) (from + 5 * width)

-- the merges beside them, where the bits are those from this index on
abbrev pub merges_owned : (sites : List (List Pair)) → (place : ℕ) → List Bit → List Owned
merges_owned sites place [] = []
merges_owned sites place (b ∷ bs) = owned b.w.t (merged_true sites place) ∷ owned b.w.f (merged_false sites place)
    ∷ merges_owned sites (suc place) bs

-- the rails that are high at first: one of each bit
abbrev pub high_first : (width value from : ℕ) → List ℕ
high_first zero value from = []
high_first (suc n) value from = (if value % 2 == 1 then from else from + 1) ∷ high_first n (value / 2) (from + 5)

-- a write site answers once all bits are written: r & va -> k+, ~va -> k-
abbrev pub write_answer : (request all_written : ℕ) → NodeRules
write_answer request va = site_answer request va

abbrev pub write_owned : (request all_written answer : ℕ) → List Owned
write_owned request va answer = owned answer (write_answer request va) ∷ []
