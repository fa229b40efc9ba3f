-- The listed guards of the gates of an expression say what their rules say.
use Rattle.std.proofs.Common.{◌≡◌, ℕ, zero, suc, ◌+◌, ◌*◌, ◌<◌, ◌≤◌, Bool, true, false, List, [], ◌∷◌, ◌++◌, length, map, get_or, refl, sym, ap, ◌∙◌, arith}
use Rattle.std.specs.Prelude.{not, ◌&&◌, ◌||◌, nat_lt}
use Rattle.std.specs.List.{list_all}
use Rattle.prs_core.specs.Nets.{NodeRules, is_high, is_low, one_term}
use Rattle.prs_core.specs.Pairs as nodes
use Rattle.prs_core.specs.Moves.{guard_holds}
use Rattle.prs_core.specs.Deciding.{left_of, right_of}
use Rattle.width_check.specs.declared.typed.Var.{Var}
use Rattle.width_check.specs.Processes.{Formula}
use Rattle.width_check.specs.Values.{IsWellFormed}
use Rattle.width_check.specs.Typing.{var_width, ReadsFrom}
use Rattle.function_blocks.specs.Rails.{RailLevels, levels_of, side_of, cross, levels_neutral, Pairs, pair_in, Rule, Rails}
use Rattle.function_blocks.specs.Parts.{Input, BlockPart, fixed, read_bit, made, gate_count, outs_of, block_parts}
use Rattle.function_blocks.specs.Waves.{inputs_taken, holds, part_rule, rule_among, input_rails}
use Rattle.function_blocks.specs.Listed.{placed, part_rules, rules_listed, rail_place, node_of, Listed}
use Rattle.function_blocks.proofs.Minterms.{value_at, up_told, down_told}
use Rattle.function_blocks.proofs.GateLists.{ordered_one, ordered, is_lt}
use Rattle.function_blocks.proofs.GateRest.{Only, only_more}
use Rattle.function_blocks.proofs.PartSizes.{count_doubled, outs_length, parts_length}
use Rattle.function_blocks.proofs.Ordered.{below, outs_below, parts_ordered}
use Rattle.function_blocks.proofs.Readings.{parts_only, parts_within}
use Rattle.function_blocks.proofs.WavesHold.{only_both}
use Rattle.function_blocks.proofs.ListedHolds.{result_put, formula_list}

place_true : (k : ℕ) → rail_place k true ≡ 2 * k
place_true zero = refl
place_true (suc k) = omega (arith, place_true k)

place_false : (k : ℕ) → rail_place k false ≡ 2 * k + 1
place_false zero = refl
place_false (suc k) = omega (arith, place_false k)

-- guards of one term
one_high : (v : ℕ → Bool) (n : ℕ) → guard_holds v (one_term (is_high n ∷ [])) ≡ v n
one_high v n = elim (v n) as (λ b. ((b && true) || false) ≡ b) [ true ↦ refl | false ↦ refl ]

one_low : (v : ℕ → Bool) (n : ℕ) → guard_holds v (one_term (is_low n ∷ [])) ≡ not (v n)
one_low v n = elim (v n) as (λ b. ((not b && true) || false) ≡ not b) [ true ↦ refl | false ↦ refl ]

both_high : (v : ℕ → Bool) (n m : ℕ) → guard_holds v (one_term (is_high n ∷ is_high m ∷ [])) ≡ (v n && v m)
both_high v n m = elim (v n) as (λ b. ((b && (v m && true)) || false) ≡ (b && v m)) [
  | true ↦ elim (v m) as (λ c. ((c && true) || false) ≡ c) [ true ↦ refl | false ↦ refl ]
  | false ↦ refl
]

module _ (bits : ℕ → List nodes.Pair) (request base : ℕ) (v : ℕ → Bool) (r : Bool) (now : ℕ → Rails) (n : ℕ) (look : ℕ → RailLevels) (asked : v request ≡ r)
    (gates : (k : ℕ) (one : Bool) → k < n → v (base + rail_place k one) ≡ side_of (look k) one) where
  -- the two guards
  abbrev Guards : NodeRules → Rule → Type 0
  Guards rules c = (guard_holds v rules.up ≡ c.up) × (guard_holds v rules.down ≡ c.down)

  abbrev Shows : ℕ → ℕ → Type 0
  Shows x i = (one : Bool) → v (node_of (nodes.pair_of (bits x) i) one) ≡ now x i one

  pair_is : (p q : RailLevels) → p.t ≡ q.t → p.f ≡ q.f → p ≡ q
  pair_is p q h k = ap (λ z. levels_of z p.f) h ∙ ap (λ z. levels_of q.t z) k

  true_at : (k : ℕ) → k < n → v (base + 2 * k) ≡ (look k).t
  true_at k l = ap (λ z. v (base + z)) (sym (place_true k)) ∙ gates k true l

  false_at : (k : ℕ) → k < n → v (base + 2 * k + 1) ≡ (look k).f
  false_at k l = let e : base + 2 * k + 1 ≡ base + (2 * k + 1) = omega arith in ap v e ∙ (ap (λ z. v (base + z)) (sym (place_false k)) ∙ gates k false l)

  input_told : (i : Input) → i.at < n → value_at v (placed base i) ≡ cross i.crossed (look i.at)
  input_told i l = here i.crossed
    where
      here : (c : Bool) → value_at v (placed base (record { at = i.at; crossed = c })) ≡ cross c (look i.at)
      here true = pair_is _ _ (false_at i.at l) (true_at i.at l)
      here false = pair_is _ _ (true_at i.at l) (false_at i.at l)

  taken_told : (m : ℕ) → m ≤ n → (ins : List Input) → below m ins ≡ true → map (value_at v) (map (placed base) ins) ≡ inputs_taken look ins
  taken_told m l [] h = refl
  taken_told m l (i ∷ ins) h =
      ap (λ (p : RailLevels). p ∷ map (value_at v) (map (placed base) ins)) (input_told i (let k : i.at < m = is_lt _ _ (left_of _ _ h) in omega (arith, k, l)))
      ∙ ap (λ (ps : List RailLevels). cross i.crossed (look i.at) ∷ ps) (taken_told m l ins (right_of (nat_lt i.at m) _ h))

  side_told : (i : Input) (one : Bool) → i.at < n → v (node_of (placed base i) one) ≡ side_of (cross i.crossed (look i.at)) one
  side_told i true l = ap (λ (p : RailLevels). p.t) (input_told i l)
  side_told i false l = ap (λ (p : RailLevels). p.f) (input_told i l)

  pub outs_told : (us : List Input) → below n us ≡ true → (i : ℕ) (one : Bool) → i < length us
      → v (node_of (nodes.pair_of (map (placed base) us) i) one) ≡ input_rails us look i one
  outs_told [] h i one l = absurd (omega (arith, l))
  outs_told (j ∷ us) h zero one l = side_told j one (is_lt _ _ (left_of _ _ h))
  outs_told (j ∷ us) h (suc i) one l = outs_told us (right_of (nat_lt j.at n) _ h) i one (omega (arith, l))

  part_told : (g : BlockPart) (p : RailLevels) (one : Bool) (m : ℕ) → m ≤ n → ordered_one m g ≡ true → Only Shows (g ∷ [])
      → Guards (get_or (part_rules bits request base g) (rail_place zero one) nodes.no_rules) (part_rule r look now g p one)
  part_told (fixed true) p true m l o s = (one_high v request ∙ asked, one_low v request ∙ ap not asked)
  part_told (fixed true) p false m l o s = (refl, refl)
  part_told (fixed false) p true m l o s = (refl, refl)
  part_told (fixed false) p false m l o s = (one_high v request ∙ asked, one_low v request ∙ ap not asked)
  part_told (read_bit x i) p true m l o s = (
    both_high v request (nodes.pair_of (bits x) i).t ∙ (ap (λ z. z && v (nodes.pair_of (bits x) i).t) asked ∙ ap (λ z. r && z) (s.0 true)),
    one_low v request ∙ ap not asked,
  )
  part_told (read_bit x i) p false m l o s = (
    both_high v request (nodes.pair_of (bits x) i).f ∙ (ap (λ z. z && v (nodes.pair_of (bits x) i).f) asked ∙ ap (λ z. r && z) (s.0 false)),
    one_low v request ∙ ap not asked,
  )
  part_told (made f i more) p true m l o s = (
    up_told v (map (placed base) (i ∷ more)) f ∙ ap (holds f) (taken_told m l (i ∷ more) o),
    down_told v (map (placed base) (i ∷ more)) f ∙ ap (λ (ps : List RailLevels). list_all levels_neutral ps) (taken_told m l (i ∷ more) o),
  )
  part_told (made f i more) p false m l o s = (
    up_told v (map (placed base) (i ∷ more)) (λ row. not (f row)) ∙ ap (holds (λ row. not (f row))) (taken_told m l (i ∷ more) o),
    down_told v (map (placed base) (i ∷ more)) (λ row. not (f row)) ∙ ap (λ (ps : List RailLevels). list_all levels_neutral ps) (taken_told m l (i ∷ more) o),
  )

  first_place : (g : BlockPart) (rs : List NodeRules) (one : Bool) → get_or (part_rules bits request base g ++ rs) (rail_place zero one) nodes.no_rules ≡ get_or
      (part_rules bits request base g) (rail_place zero one) nodes.no_rules
  first_place (fixed true) rs true = refl
  first_place (fixed true) rs false = refl
  first_place (fixed false) rs true = refl
  first_place (fixed false) rs false = refl
  first_place (read_bit x i) rs true = refl
  first_place (read_bit x i) rs false = refl
  first_place (made f i more) rs true = refl
  first_place (made f i more) rs false = refl

  later_place : (g : BlockPart) (rs : List NodeRules) (j : ℕ) → get_or (part_rules bits request base g ++ rs) (suc (suc j)) nodes.no_rules ≡ get_or rs j
      nodes.no_rules
  later_place (fixed true) rs j = refl
  later_place (fixed false) rs j = refl
  later_place (read_bit x i) rs j = refl
  later_place (made f i more) rs j = refl

  told_by : (a b : NodeRules) (c : Rule) → a ≡ b → Guards b c → Guards a c
  told_by a b c e t = (ap (λ (x : NodeRules). guard_holds v x.up) e ∙ t.0, ap (λ (x : NodeRules). guard_holds v x.down) e ∙ t.1)

  only_first : (g : BlockPart) (gs : List BlockPart) → Only Shows (g ∷ gs) → Only Shows (g ∷ [])
  only_first (fixed b) gs s = tt
  only_first (read_bit x i) gs s = (s.0, tt)
  only_first (made f i more) gs s = tt

  only_rest : (g : BlockPart) (gs : List BlockPart) → Only Shows (g ∷ gs) → Only Shows gs
  only_rest (fixed b) gs s = s
  only_rest (read_bit x i) gs s = s.1
  only_rest (made f i more) gs s = s

  gates_told : (gs : List BlockPart) (m : ℕ) (u : Pairs m) (from : ℕ) → length gs ≡ m → from + m ≤ n → ordered from gs ≡ true → Only Shows gs →
      (k : ℕ) (one : Bool)
      → Guards (get_or (rules_listed bits request base gs) (rail_place k one) nodes.no_rules) (rule_among r look now gs m u k one)
  gates_told [] m u from e l o s k one = (refl, refl)
  gates_told (g ∷ gs) zero u from e l o s k one = absurd (omega (arith, e))
  gates_told (g ∷ gs) (suc m) u from e l o s zero one = told_by _ _ (part_rule r look now g u.0 one) (first_place g (rules_listed bits request base gs) one)
      (part_told g u.0 one from (omega (arith, l)) (left_of _ _ o) (only_first g gs s))
  gates_told (g ∷ gs) (suc m) u from e l o s (suc k) one =
      told_by _ _ (rule_among r look now gs m u.1 k one) (later_place g (rules_listed bits request base gs) (rail_place k one))
      (gates_told gs m u.1 (suc from) (omega (arith, e)) (omega (arith, l)) (right_of (ordered_one from g) _ o) (only_rest g gs s) k one)

value_now : (r : Bool) (look : ℕ → RailLevels) (now : ℕ → Rails) (gs : List BlockPart) (n : ℕ) (u : Pairs n) → length gs ≡ n → (k : ℕ) (one : Bool) → k < n
    → (rule_among r look now gs n u k one).now ≡ side_of (pair_in n u k) one
value_now r look now [] zero u e k one l = absurd (omega (arith, l))
value_now r look now [] (suc n) u e k one l = absurd (omega (arith, e))
value_now r look now (g ∷ gs) zero u e k one l = absurd (omega (arith, e))
value_now r look now (g ∷ gs) (suc n) u e zero one l = refl
value_now r look now (g ∷ gs) (suc n) u e (suc k) one l = value_now r look now gs n u.1 (omega (arith, e)) k one (let z : k < n = omega (arith, l) in z)

pub listed : (vars : List Var) (e : Formula) → IsWellFormed e → ReadsFrom vars e → Listed vars e
listed vars e w reads_from = record {
  size = count_doubled e;
  count = parts_length e 0 w;
  wide = outs_length e 0 w;
  result = λ from. result_put from e 0 from (omega arith) w;
  rules = λ bits has request from. formula_list vars bits has request from e 0 from (omega arith) w reads_from;
  outputs = λ bits request from v r now u s i one l.
      let n = gate_count e in
      let z : 0 + n ≡ n = omega arith in
      ap (λ (ps : List nodes.Pair). v (node_of (nodes.pair_of ps i) one)) (result_put from e 0 from (omega arith) w)
      ∙ outs_told bits request from v r now n (pair_in n u) s.asked s.gates (outs_of e 0) (ap (λ k. below k (outs_of e 0)) (sym z) ∙ outs_below e 0 w) i one
      (let k = outs_length e 0 w in omega (arith, k, l));
  told = λ bits has request from v r now u s k one l.
      let n = gate_count e in
      let seen = only_more _ _ (λ x i both. both.0 both.1) (block_parts e 0)
      (only_both _ _ (block_parts e 0) (parts_only (λ x i. i < var_width vars x → (one : Bool) → v (node_of (nodes.pair_of (bits x) i) one) ≡ now x i one) e 0
      (λ x i h l one. s.read x i one h l)) (parts_within vars e 0 w reads_from)) in
      let t = gates_told bits request from v r now n (pair_in n u) s.asked s.gates (block_parts e 0) n u 0
      (parts_length e 0 w) (omega arith) (parts_ordered e 0 w)
      seen k one in
      let is = formula_list vars bits has request from e 0 from (omega arith) w reads_from in
      record {
        now = s.gates k one l ∙ sym (value_now r (pair_in n u) now (block_parts e 0) n u (parts_length e 0 w) k one l);
        up = ap (λ (rs : List NodeRules). guard_holds v (get_or rs (rail_place k one) nodes.no_rules).up) is ∙ t.0;
        down = ap (λ (rs : List NodeRules). guard_holds v (get_or rs (rail_place k one) nodes.no_rules).down) is ∙ t.1;
      };
}
