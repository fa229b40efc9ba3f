-- Facts of truth values, of rails alone, and of an expression's gates at rest.
use Rattle.std.proofs.Common.{◌≡◌, ℕ, zero, suc, ◌<◌, ◌≤◌, Bool, true, false, List, [], ◌∷◌, refl, ap, ◌∙◌, arith}
use Rattle.std.specs.Prelude.{not, ◌&&◌, Option, Some, None, is_some}
use Rattle.std.specs.List.{list_all}
use Rattle.prs_core.specs.Moves.{bit_value, with_bit}
use Rattle.width_check.specs.Processes.{Formula}
use Rattle.width_check.specs.Values.{width_of}
use Rattle.function_blocks.specs.Rails.{RailLevels, levels_of, side_of, cross, levels_neutral, Pairs, low_pairs, pair_in, one_rule_fires, is_apart, same_bit, Rails, value_on, neutral_on}
use Rattle.function_blocks.specs.Parts.{Input, BlockPart, fixed, read_bit, made, gate_count, outs_of, block_parts}
use Rattle.function_blocks.specs.Waves.{inputs_taken, holds, rows_of, part_rule, rule_among, gate_rule, input_rails, out_rail, empty, Waves}
use Rattle.function_blocks.specs.RailFacts.{lows_in, told_high}
use Rattle.function_blocks.proofs.Guards.{holds_none}
use Rattle.function_blocks.proofs.GateLists.{low_in, quiet_in, there_in}

pub fst_true : (x y : Bool) → (x && y) ≡ true → x ≡ true
fst_true true y h = refl
fst_true false y h = absurd (cc h)

pub snd_true : (x y : Bool) → (x && y) ≡ true → y ≡ true
snd_true true y h = h
snd_true false y h = absurd (cc h)

pub not_true : (b : Bool) → not b ≡ true → b ≡ false
not_true true h = absurd (cc h)
not_true false h = refl

pub both_true : (x y : Bool) → x ≡ true → y ≡ true → (x && y) ≡ true
both_true true y h k = k
both_true false y h k = absurd (cc h)

pub never_and : (s : Bool) → (s && false) ≡ false
never_and true = refl
never_and false = refl

pub same_value : (b w : Bool) → same_bit b w ≡ true → b ≡ w
same_value true true h = refl
same_value true false h = absurd (cc h)
same_value false true h = absurd (cc h)
same_value false false h = refl

-- rails that are all low
pub lows_neutral : (n : ℕ) (rail : Rails) → ((i : ℕ) (one : Bool) → rail i one ≡ false) → neutral_on n rail ≡ true
lows_neutral zero rail low = refl
lows_neutral (suc n) rail low = both_true _ _ (both_true _ _ (ap not (low zero true)) (ap not (low zero false)))
    (lows_neutral n (λ i. rail (suc i)) (λ i. low (suc i)))

pub neutral_low : (n : ℕ) (rail : Rails) → neutral_on n rail ≡ true → (i : ℕ) (one : Bool) → i < n → rail i one ≡ false
neutral_low n rail low i one below = lows_in n rail low i one below

-- rails that agree say the same
pub value_same : (n : ℕ) (f g : Rails) → ((i : ℕ) (one : Bool) → f i one ≡ g i one) → value_on n f ≡ value_on n g
value_same zero f g e = refl
value_same (suc n) f g e =
    ap (λ b. with_bit (bit_value b (f zero false)) (value_on n (λ i. f (suc i)))) (e zero true)
    ∙ (ap (λ b. with_bit (bit_value (g zero true) b) (value_on n (λ i. f (suc i)))) (e zero false)
    ∙ ap (with_bit (bit_value (g zero true) (g zero false))) (value_same n (λ i. f (suc i)) (λ i. g (suc i)) (λ i one. e (suc i) one)))

-- each bit of a number has a rail high
some_both : (b rest : Option ℕ) → is_some (with_bit b rest) ≡ true → (is_some b ≡ true) × (is_some rest ≡ true)
some_both (Some x) (Some y) h = (refl, refl)
some_both (Some x) None h = absurd (cc h)
some_both None rest h = absurd (cc h)

pub each_bit : (n : ℕ) (rail : Rails) → is_some (value_on n rail) ≡ true → (i : ℕ) → i < n → (side : Bool) × (rail i side ≡ true)
each_bit zero rail valid i below = absurd (let g : ⊥ = omega (arith, below) in g)
each_bit (suc n) rail valid zero below = here (rail zero true) (rail zero false) refl refl
    (some_both (bit_value (rail zero true) (rail zero false)) (value_on n (λ i. rail (suc i))) valid).0
  where
    here : (t f : Bool) → rail zero true ≡ t → rail zero false ≡ f → is_some (bit_value (rail zero true) (rail zero false)) ≡ true
        → (side : Bool) × (rail zero side ≡ true)
    here true f ht hf s = (true, ht)
    here false true ht hf s = (false, hf)
    here false false ht hf s = absurd (cc (s, ht, hf))
each_bit (suc n) rail valid (suc i) below =
    each_bit n (λ i. rail (suc i)) (some_both (bit_value (rail zero true) (rail zero false)) (value_on n (λ i. rail (suc i))) valid).1 i
    (let g : i < n = omega (arith, below) in g)

-- a number of at least one bit isn't told by low rails
pub told_not_low : (n : ℕ) (rail : Rails) → 1 ≤ n → is_some (value_on n rail) ≡ true → neutral_on n rail ≡ false
told_not_low n rail some valid = told_high n rail (let g : 0 < n = omega (arith, some) in g) valid

-- of an expression whose value's rails are low none is high
pub empty_low : (e : Formula) → Waves e → (u : Pairs (gate_count e)) → empty e u ≡ true → (i : ℕ) (one : Bool) → out_rail e u i one ≡ false
empty_low e known u low i one = here (out_rail e u i one) refl
  where
    here : (b : Bool) → out_rail e u i one ≡ b → b ≡ false
    here true h = absurd (cc (lows_in (width_of e) (out_rail e u) low i one (known.wide u i one h), h))
    here false h = refl

-- low gates don't move without a request, and have a value whose rails are low
pub low_gate_quiet : (e : Formula) (bits : ℕ → Rails) (k : ℕ) (one : Bool) → one_rule_fires (gate_rule e bits false (low_pairs (gate_count e)) k one) ≡ false
low_gate_quiet e bits k one = quiet_in (pair_in (gate_count e) (low_pairs (gate_count e))) bits (low_in (gate_count e)) (block_parts e 0) (gate_count e) k one

low_side : (crossed one : Bool) → side_of (cross crossed (levels_of false false)) one ≡ false
low_side true true = refl
low_side true false = refl
low_side false true = refl
low_side false false = refl

low_rails : (n : ℕ) (us : List Input) (i : ℕ) (one : Bool) → input_rails us (pair_in n (low_pairs n)) i one ≡ false
low_rails n [] i one = refl
low_rails n (k ∷ ks) zero one = ap (λ (p : RailLevels). side_of (cross k.crossed p) one) (low_in n k.at) ∙ low_side k.crossed one
low_rails n (k ∷ ks) (suc i) one = low_rails n ks i one

pub low_out : (e : Formula) (i : ℕ) (one : Bool) → out_rail e (low_pairs (gate_count e)) i one ≡ false
low_out e i one = low_rails (gate_count e) (outs_of e 0) i one

-- no gate beyond the last one moves
pub gate_there : (e : Formula) (bits : ℕ → Rails) (r : Bool) (u : Pairs (gate_count e)) (k : ℕ) (one : Bool) →
    one_rule_fires (gate_rule e bits r u k one) ≡ true
    → k < gate_count e
gate_there e bits r u k one h = there_in r (pair_in (gate_count e) u) bits (block_parts e 0) (gate_count e) u k one h

-- and none is pulled both ways
fixed_apart : (s r : Bool) → not ((s && r) && (s && not r)) ≡ true
fixed_apart true true = refl
fixed_apart true false = refl
fixed_apart false r = refl

read_apart : (r b : Bool) → not ((r && b) && not r) ≡ true
read_apart true true = refl
read_apart true false = refl
read_apart false b = refl

made_apart : (u n : Bool) → (n ≡ true → u ≡ false) → not (u && n) ≡ true
made_apart true true f = absurd (cc (f refl))
made_apart true false f = refl
made_apart false n f = refl

part_apart : (r : Bool) (look : ℕ → RailLevels) (bits : ℕ → Rails) (g : BlockPart) (p : RailLevels) (one : Bool) →
    is_apart (part_rule r look bits g p one) ≡ true
part_apart r look bits (fixed v) p one = fixed_apart (same_bit v one) r
part_apart r look bits (read_bit x i) p one = read_apart r (bits x i one)
part_apart r look bits (made f i more) p one =
    made_apart (holds (rows_of one f) (inputs_taken look (i ∷ more))) (list_all levels_neutral (inputs_taken look (i ∷ more)))
    (λ h. holds_none (rows_of one f) (cross i.crossed (look i.at)) (inputs_taken look more) h)

among_apart : (r : Bool) (look : ℕ → RailLevels) (bits : ℕ → Rails) (gs : List BlockPart) (n : ℕ) (u : Pairs n) (k : ℕ) (one : Bool)
    → is_apart (rule_among r look bits gs n u k one) ≡ true
among_apart r look bits [] n u k one = refl
among_apart r look bits (g ∷ gs) zero u k one = refl
among_apart r look bits (g ∷ gs) (suc n) u zero one = part_apart r look bits g u.0 one
among_apart r look bits (g ∷ gs) (suc n) u (suc k) one = among_apart r look bits gs n u.1 k one

pub gate_apart : (e : Formula) (bits : ℕ → Rails) (r : Bool) (u : Pairs (gate_count e)) (k : ℕ) (one : Bool) → is_apart (gate_rule e bits r u k one) ≡ true
gate_apart e bits r u k one = among_apart r (pair_in (gate_count e) u) bits (block_parts e 0) (gate_count e) u k one
