-- Own moves of the core of a selection whose latch is up: the gates of its guards, and the start of its branch.
--
-- P: the program; K: how many moves follow the falls of lines; l: how far the latch is known; i: its branch; g: the guards' gates; s, q: spots;
-- e: that a rule fires; z: that another does behind it.
use Rattle.std.proofs.Common.{◌≡◌, ℕ, ◌-◌, ◌<◌, ◌≤◌, Bool, true, false, refl, ap, ◌∙◌, arith}
use Rattle.std.specs.Prelude.{not, ◌&&◌, if◌then◌else◌}
use Rattle.std.proofs.Math.Nat.{le-max_left, le-max_right}
use Rattle.width_check.specs.Processes.{Choices, no_choices, and_choice, choice_count, TypedProgram}
use Rattle.function_blocks.specs.Rails.{side_of, pair_in, one_rule_fires, Rails, Single}
use Rattle.function_blocks.specs.Parts.{gate_count}
use Rattle.function_blocks.specs.Waves.{out_rail}
use Rattle.circuit_places.specs.Lines.{Seen}
use Rattle.circuit_places.specs.Heads.{Index, top, under, Bits, low_bits, bit_of, turned_bit, all_neutral}
use Rattle.circuit_places.specs.Circuit.{GuardCells, ChoiceCells, low_choices, GuardSpot, this_gate, other_gate, ChoiceSpot, this_choice, other_choice, heads, guards_rule, guards_good, turned_guards, choice_rule}
use Rattle.circuit_places.proofs.RailLemmas.{fst_true, snd_true}
use Rattle.circuit_places.proofs.Flow.{not_both, or_left, or_right}
use Rattle.circuit_places.proofs.Meets.{ChoiceMeets, GuardsMeet, sends, choice_sends, receives, choice_receives}
use Rattle.circuit_places.proofs.Begin.{ChoiceQuiet}
use Rattle.circuit_places.proofs.Places.{low_choice_quiet, low_quiet}
use Rattle.circuit_places.proofs.StillSteps.{choice_rises, choice_value}
use Rattle.round_time.specs.Longest.{first}
use Rattle.round_time.specs.Phases.{choices_first}
use Rattle.circuit_time.proofs.Trails.{Clearing, guards_trail, start_trail, choice_trail}
use Rattle.circuit_time.proofs.Requests.{first_some, asked}
use Rattle.circuit_time.proofs.LeafTrails.{goes_with}

-- a gate of guards that falls has as many moves behind it as the way from a start to its branch's first step
pub falls_before : (P : TypedProgram) (deep left : ℕ) (cs : Choices) → GuardsMeet P cs → (bits : ℕ → Rails) → Single bits → (x : GuardCells cs)
    → guards_good cs bits false x ≡ true → (s : GuardSpot cs) → one_rule_fires (guards_rule cs bits false x s) ≡ true → left ≤ guards_trail deep left cs x s
falls_before P deep left no_choices meets bits single x fit s e = absurd (cc e)
falls_before P deep left (and_choice g p more) meets bits single x fit (this_gate k one) e =
    let law = goes_with false (side_of (pair_in (gate_count g) x.0 k) one) (side_of (pair_in (gate_count g) x.0 k) (not one))
    (meets.0.known.law false bits x.0 k one single (fst_true _ _ fit) e) in
    let z : (if side_of (pair_in (gate_count g) x.0 k) one then left else 0) ≡ left = ap (λ (b : Bool). if b then left else 0) law in
    omega (arith, z)
falls_before P deep left (and_choice g p more) meets bits single x fit (other_gate s) e =
    falls_before P deep left more meets.1 bits single x.1 (snd_true _ _ fit) s e

-- one that rises leaves heads high that are
pub rises_high : (P : TypedProgram) (cs : Choices) → GuardsMeet P cs → (bits : ℕ → Rails) → Single bits → (x : GuardCells cs)
    → guards_good cs bits true x ≡ true → (s : GuardSpot cs) → one_rule_fires (guards_rule cs bits true x s) ≡ true
    → all_neutral (choice_count cs) (heads cs (turned_guards cs x s)) ≡ true → all_neutral (choice_count cs) (heads cs x) ≡ true
rises_high P no_choices meets bits single x fit s e n = refl
rises_high P (and_choice g p more) meets bits single x fit (this_gate k one) e n =
    by (out_rail g x.0 0 true) refl (out_rail g x.0 0 false) refl (snd_true _ _ (snd_true _ _ n))
  where
    clash : (c : Bool) → c ≡ true → not c ≡ true → ⊥
    clash true a b = cc b
    clash false a b = cc a

    by : (t : Bool) → out_rail g x.0 0 true ≡ t → (f : Bool) → out_rail g x.0 0 false ≡ f
        → all_neutral (choice_count more) (heads more x.1) ≡ true
        → (not (out_rail g x.0 0 true) && (not (out_rail g x.0 0 false) && all_neutral (choice_count more) (heads more x.1))) ≡ true
    by true a f b r = absurd (clash _ (meets.0.known.rises bits x.0 k one single (fst_true _ _ fit) e 0 true a) (fst_true _ _ n))
    by false a true b r = absurd (clash _ (meets.0.known.rises bits x.0 k one single (fst_true _ _ fit) e 0 false b) (fst_true _ _ (snd_true _ _ n)))
    by false a false b r = ap (λ c. not c && (not (out_rail g x.0 0 false) && all_neutral (choice_count more) (heads more x.1))) a
        ∙ (ap (λ c. true && (not c && all_neutral (choice_count more) (heads more x.1))) b ∙ r)
rises_high P (and_choice g p more) meets bits single x fit (other_gate s) e n =
    by (rises_high P more meets.1 bits single x.1 (snd_true _ _ fit) s e (snd_true _ _ (snd_true _ _ n)))
  where
    both : (a b c d : Bool) → (a && (b && c)) ≡ true → d ≡ true → (a && (b && d)) ≡ true
    both true true c d u v = v
    both true false c d u v = u
    both false b c d u v = u

    by : all_neutral (choice_count more) (heads more x.1) ≡ true
        → (not (out_rail g x.0 0 true) && (not (out_rail g x.0 0 false) && all_neutral (choice_count more) (heads more x.1))) ≡ true
    by r = both (not (out_rail g x.0 0 true)) (not (out_rail g x.0 0 false)) _ _ n r

-- the start of a branch lets its statement begin
pub start_asks : (P : TypedProgram) (K : Clearing) (held down : ℕ) (cs : Choices) (k : Index (choice_count cs)) (env : Seen) → ChoiceMeets P cs
    → ChoiceQuiet cs env → (q : ChoiceSpot cs)
    → one_rule_fires (choice_rule cs env (turned_bit k (low_bits (choice_count cs))) (low_choices cs) q) ≡ true
    → (choice_rises q ≡ true → choice_value cs (low_choices cs) q ≡ true)
    → choice_trail P K held down cs (low_choices cs) q < start_trail P K down cs (low_bits (choice_count cs)) (low_choices cs) k
start_asks P K held down no_choices k env meets quiet q z plain = elim k [ ]
start_asks P K held down (and_choice g p more) top env meets quiet (this_choice q) z plain =
    let a = asked P K held down p env meets.0 record {
      send = λ j e. quiet.send j (or_left (sends p j) (choice_sends more j) e);
      receive = λ c e. quiet.receive c (or_left (receives p c) (choice_receives more c) e);
    } q z plain in
    omega (arith, a)
start_asks P K held down (and_choice g p more) top env meets quiet (other_choice q) z plain = absurd (not_both (low_choice_quiet more env q) z)
start_asks P K held down (and_choice g p more) (under k) env meets quiet (this_choice q) z plain = absurd (not_both (low_quiet p env q) z)
start_asks P K held down (and_choice g p more) (under k) env meets quiet (other_choice q) z plain =
    start_asks P K held down more k env meets.1 record {
      send = λ j e. quiet.send j (or_right (sends p j) (choice_sends more j) e);
      receive = λ c e. quiet.receive c (or_right (receives p c) (choice_receives more c) e);
    } q z plain

-- and is less than the way to some first step
pub start_within : (P : TypedProgram) (K : Clearing) (down : ℕ) (cs : Choices) (x : ChoiceCells cs) (k : Index (choice_count cs)) (b : Bits (choice_count cs))
    → bit_of k b ≡ false → start_trail P K down cs b x k < choices_first P cs
start_within P K down no_choices x k b e = elim k [ ]
start_within P K down (and_choice g p more) x top b e =
    let f = first_some P p in
    let m = le-max_left (first P p) (choices_first P more) in
    let z : start_trail P K down (and_choice g p more) b x top ≡ first P p - 1 = by b.0 e in
    omega (arith, f, m, z)
  where
    by : (c : Bool) → c ≡ false → start_trail P K down (and_choice g p more) (c, b.1) x top ≡ first P p - 1
    by false h = refl
    by true h = absurd (cc h)
start_within P K down (and_choice g p more) x (under k) b e =
    let a = start_within P K down more x.1 k b.1 e in let m = le-max_right (first P p) (choices_first P more) in omega (arith, a, m)
