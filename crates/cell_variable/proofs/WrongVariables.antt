-- Bits and merges that are wrong don't keep their contracts: for each a run after which it moves what it may not.
use Rattle.std.proofs.Common.{false, [], ◌∷◌, refl}
use Rattle.std.specs.Prelude.{◌==◌}
use Rattle.prs_core.specs.Nets.{NodeRules, is_high, is_low, one_term}
use Rattle.prs_core.specs.Parts.{Part, Moment, Keeps, at_first, owned}
use Rattle.prs_core.specs.Breaking.{broken}
use Rattle.cell_variable.specs.Variables.{bit_at, kept_rail, bit_written}
use Rattle.cell_variable.specs.VariableParts.{merge_part, variable_part}

-- a variable of one bit with the nodes 0 to 4, where its rail t or the node that says that it is written has other rules
abbrev with_rules : (rail written : NodeRules) → Part
with_rules rail written = record (variable_part 1 0) { own = owned 0 rail ∷ owned 1 (kept_rail 3 0 2) ∷ owned 4 written ∷ [] }

-- w.t -> x.t+, w.f -> x.t-
abbrev hasty : Part
hasty = with_rules (record { up = one_term (is_high 2 ∷ []); down = one_term (is_high 3 ∷ []) }) (bit_written (bit_at 0))

-- w.t | w.f -> wa+, ~w.t & ~w.f -> wa-
abbrev early : Part
early = with_rules (kept_rail 2 1 3) (record { up = (is_high 2 ∷ []) ∷ (is_high 3 ∷ []) ∷ []; down = one_term (is_low 2 ∷ is_low 3 ∷ []) })

-- the value is 0: rail f is high
abbrev zero_at_first : Moment
zero_at_first = record { value = λ n. n == 1; noted = λ n. false }

-- rail t doesn't wait for rail f to fall, and the write is acknowledged while both are high
pub hasty_breaks : ¬ (Keeps hasty)
hasty_breaks = broken hasty zero_at_first (2 ∷ 0 ∷ []) (at_first (λ n. n == 1) (record { outside = refl; own = refl; bits = refl })) refl

-- the write is acknowledged before the bit has its value
pub early_breaks : ¬ (Keeps early)
early_breaks = broken early zero_at_first (2 ∷ []) (at_first (λ n. n == 1) (record { outside = refl; own = refl; bits = refl })) refl

-- a merge of 1 and 2 that falls where its first input is low: 1 | 2 -> 3+, ~1 -> 3-
abbrev forgetful : Part
forgetful = record (merge_part (1 ∷ 2 ∷ []) 3) {
  own = owned 3 (record { up = (is_high 1 ∷ []) ∷ (is_high 2 ∷ []) ∷ []; down = one_term (is_low 1 ∷ []) })
      ∷ [];
}

abbrev all_low_at_first : Moment
all_low_at_first = record { value = λ n. false; noted = λ n. false }

-- it falls while its second input is high
pub forgetful_breaks : ¬ (Keeps forgetful)
forgetful_breaks = broken forgetful all_low_at_first (2 ∷ 3 ∷ []) (at_first (λ n. false) (record { outside = refl; own = refl; bits = refl })) refl
