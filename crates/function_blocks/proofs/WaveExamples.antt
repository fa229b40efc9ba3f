-- The two waves of some expressions, run to their ends by computing.
use Rattle.std.proofs.Common.{◌≡◌, ℕ, zero, suc, ◌/◌, ◌%◌, ◌^◌, Bool, true, false, [], ◌∷◌, Option, Some, None, refl}
use Rattle.std.specs.Prelude.{not, ◌&&◌, ◌==◌, if◌then◌else◌, slice_index}
use Rattle.std.specs.List.{list_all}
use Rattle.chp_base.specs.declared.span.Span.{Span}
use Rattle.chp_syntax.specs.declared.tree.Op.TheVariants.{And, Xor, Add, Sub, Eq, Lt, Ge}
use Rattle.width_check.specs.Processes.{Formula, constant, reading, joined, inverted, chained, compared, no_parts, and_part, no_operations, and_operation}
use Rattle.width_check.specs.Values.{width_of, value}
use Rattle.function_blocks.specs.Rails.{Pairs, low_pairs, turned_pairs, one_rule_fires, Rails, value_on}
use Rattle.function_blocks.specs.Parts.{gate_count}
use Rattle.function_blocks.specs.Waves.{gate_rule, good, out_rail, full, empty}

-- the rails of a number
abbrev rails_of : ℕ → Rails
rails_of number i one = if number / 2 ^ i % 2 == 1 then one else not one

abbrev step : (e : Formula) → (ℕ → Rails) → Bool → ℕ → Bool → Pairs (gate_count e) → Pairs (gate_count e)
step e bits r k one u = if one_rule_fires (gate_rule e bits r u k one) then turned_pairs (gate_count e) u k one else u

-- each gate in turn, from one on
abbrev pass : (e : Formula) → (ℕ → Rails) → Bool → (count k : ℕ) → Pairs (gate_count e) → Pairs (gate_count e)
pass e bits r zero k u = u
pass e bits r (suc m) k u = pass e bits r m (suc k) (step e bits r k false (step e bits r k true u))

abbrev is_number : ℕ → Option ℕ → Bool
is_number n None = false
is_number n (Some m) = m == n

-- under the request the rails come to the value, and without it they are low again, whatever the variables say by then
abbrev runs : Formula → (x y : ℕ) → Bool
runs e x y =
    let n = gate_count e in
    let store = slice_index (x ∷ y ∷ []) in
    let high = pass e (λ v. rails_of (store v)) true n 0 (low_pairs n) in
    let low = pass e (λ v i one. true) false n 0 high in
    is_number (value store e) (value_on (width_of e) (out_rail e high))
    && (good true (λ v. rails_of (store v)) e high && (full e high && (good false (λ v i one. true) e low && (empty e low && not (full e low)))))

abbrev at : Span
at = record { from = 0; to = 1 }

abbrev x : Formula
x = reading 0 1 0 at

abbrev y : Formula
y = reading 1 1 0 at

abbrev on_some : (ℕ → ℕ → Bool) → Bool
on_some p = p 0 3 && (p 1 2 && (p 2 1 && p 3 3))

-- x[1], {x[0], ~y, 2}, x + y - 1, ~x ^ y & 3, x < y, (x >= 1) = y[0]
expressions : list_all (λ e. on_some (runs e)) (
    reading 0 1 1 at
    ∷ joined (and_part (reading 0 0 0 at) (and_part (inverted y) (and_part (constant 2 2) no_parts)))
    ∷ chained x (and_operation Add y (and_operation Sub (constant 2 1) no_operations))
    ∷ chained (inverted x) (and_operation Xor y (and_operation And (constant 2 3) no_operations))
    ∷ compared Lt x y
    ∷ compared Eq (compared Ge x (constant 2 1)) (reading 1 0 0 at)
    ∷ []) ≡ true
expressions = refl
