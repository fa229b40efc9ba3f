-- The guards of an expression are over nodes of the rules alone.
use Rattle.std.proofs.Common.{◌≡◌, ℕ, zero, suc, ◌+◌, ◌*◌, ◌<◌, ◌≤◌, Bool, true, false, List, [], ◌∷◌, length, map, All, sym, ap, subst, ◌∙◌, arith}
use Rattle.std.specs.Prelude.{not, filter, nat_lt}
use Rattle.std.proofs.lemmas.List.Elements.{All-nil, All-cons}
use Rattle.prs_core.specs.declared.rule.Literal.{Literal}
use Rattle.prs_core.specs.Nets.{NodeRules, IsBelow, is_high, is_low}
use Rattle.prs_core.specs.Pairs.{Pair, pair_at, pair_of, lows, rails_of, no_rules}
use Rattle.prs_core.specs.Deciding.{left_of, right_of}
use Rattle.width_check.specs.Processes.{Formula, constant, reading, joined, inverted, chained, compared, Formulas, no_parts, and_part, Operations, no_operations, and_operation}
use Rattle.width_check.specs.Values.{width_of, IsWellFormed, AreWellFormed, AreOperations}
use Rattle.handshake_expand.specs.Layout.{formula_size}
use Rattle.function_blocks.specs.Gates.{table, minterm, gate_rail}
use Rattle.function_blocks.specs.Expressions.{following, read_rail, formula_rules}
use Rattle.function_blocks.specs.Parts.{Input, BlockPart, fixed, read_bit, made, gate_count, block_parts}
use Rattle.function_blocks.specs.Listed.{placed, rules_listed}
use Rattle.function_blocks.specs.Blocks.{bits_apart, bits_in_blocks, AreBelow, HasBit}
use Rattle.function_blocks.specs.BitsRead.{EachRead, EachPart, EachOperation}
use Rattle.function_blocks.proofs.GateLists.{ordered_one, ordered, is_lt}
use Rattle.function_blocks.proofs.GateRest.{Only}
use Rattle.function_blocks.proofs.Readings.{parts_read}
use Rattle.function_blocks.proofs.Ordered.{below, parts_ordered}
use Rattle.function_blocks.proofs.PartSizes.{parts_length}
use Rattle.function_blocks.proofs.GatesTold.{listed}
use Rattle.function_blocks.proofs.Emission.{block_vars, block_bits, block_reads}

-- each is one of 64 bits
mutual
  pub each_within : (P Q : ℕ → ℕ → Type 0) → ((x i : ℕ) → i ≤ 63 → P x i → Q x i) → (e : Formula) → IsWellFormed e → EachRead P e → EachRead Q e
  each_within P Q f (constant w v) h r = tt
  each_within P Q f (reading x high low at) h r = λ i l m. f x i (omega (arith, m, h.1)) (r i l m)
  each_within P Q f (joined parts) h r = parts_within P Q f parts h.2 r
  each_within P Q f (inverted e) h r = each_within P Q f e h r
  each_within P Q f (chained e more) h r = (each_within P Q f e h.0 r.0, operations_within P Q f (width_of e) more h.2 r.1)
  each_within P Q f (compared op e g) h r = (each_within P Q f e h.2 r.0, each_within P Q f g h.3 r.1)

  parts_within : (P Q : ℕ → ℕ → Type 0) → ((x i : ℕ) → i ≤ 63 → P x i → Q x i) → (parts : Formulas) → AreWellFormed parts → EachPart P parts → EachPart Q parts
  parts_within P Q f no_parts h r = tt
  parts_within P Q f (and_part e more) h r = (each_within P Q f e h.0 r.0, parts_within P Q f more h.1 r.1)

  operations_within : (P Q : ℕ → ℕ → Type 0) → ((x i : ℕ) → i ≤ 63 → P x i → Q x i) → (width : ℕ) (more : Operations) → AreOperations width more
      → EachOperation P more → EachOperation Q more
  operations_within P Q f width no_operations h r = tt
  operations_within P Q f width (and_operation op e more) h r = (each_within P Q f e h.2 r.0, operations_within P Q f width more h.3 r.1)

pub apart_at : (step n from i : ℕ) → i < n → pair_of (bits_apart step n from) i ≡ pair_at (from + step * i)
apart_at step zero from i l = absurd (omega (arith, l))
apart_at step (suc n) from zero l = let e : from ≡ from + step * 0 = omega arith in ap pair_at e
apart_at step (suc n) from (suc i) l = let e : from + step + step * i ≡ from + step * suc i = grind arith in
    apart_at step n (from + step) i (omega (arith, l)) ∙ ap pair_at e

module _ (count : ℕ) where
  abbrev Near : Literal → Type 0
  Near l = l.node < count

  abbrev Within : NodeRules → Type 0
  Within n = AreBelow count n

  abbrev IsNear : Pair → Type 0
  IsNear p = (p.t < count) × (p.f < count)

  abbrev AreNear : List Pair → Type 0
  AreNear [] = Unit {0}
  AreNear (p ∷ ps) = IsNear p × AreNear ps

  minterm_near : (ps : List Pair) (row : List Bool) → AreNear ps → All Near (minterm ps row)
  minterm_near [] row h = All-nil Near
  minterm_near (p ∷ ps) [] h = All-nil Near
  minterm_near (p ∷ ps) (true ∷ bs) h = All-cons Near (is_high p.t) (minterm ps bs) h.0.0 (minterm_near ps bs h.1)
  minterm_near (p ∷ ps) (false ∷ bs) h = All-cons Near (is_high p.f) (minterm ps bs) h.0.1 (minterm_near ps bs h.1)

  terms_near : (ps : List Pair) (rows : List (List Bool)) → AreNear ps → IsBelow count (map (minterm ps) rows)
  terms_near ps [] h = All-nil (λ t. All Near t)
  terms_near ps (row ∷ rows) h = All-cons (λ t. All Near t) (minterm ps row) (map (minterm ps) rows) (minterm_near ps row h) (terms_near ps rows h)

  lows_near : (ps : List Pair) → AreNear ps → All Near (lows (rails_of ps))
  lows_near [] h = All-nil Near
  lows_near (p ∷ ps) h = All-cons Near (is_low p.t) (lows (p.f ∷ rails_of ps)) h.0.0 (All-cons Near (is_low p.f) (lows (rails_of ps)) h.0.1 (lows_near ps h.1))

  one_near : (t : List Literal) → All Near t → IsBelow count (t ∷ [])
  one_near t h = All-cons (λ t. All Near t) t [] h (All-nil (λ t. All Near t))

  none_near : Within no_rules
  none_near = (All-nil (λ t. All Near t), All-nil (λ t. All Near t))

  single : (l : Literal) → Near l → All Near (l ∷ [])
  single l h = All-cons Near l [] h (All-nil Near)

  two : (a b : NodeRules) (rest : List NodeRules) → Within a → Within b → All Within rest → All Within (a ∷ b ∷ rest)
  two a b rest h k r = All-cons Within a (b ∷ rest) h (All-cons Within b rest k r)

  rail_near : (ps : List Pair) (f : List Bool → Bool) → AreNear ps → Within (gate_rail ps f)
  rail_near ps f h = (terms_near ps (filter f (table (length ps))) h, one_near (lows (rails_of ps)) (lows_near ps h))

  module _ (bits : ℕ → List Pair) (request base n : ℕ) (asked : request < count) (room : base + 2 * n ≤ count) where
    placed_near : (i : Input) → i.at < n → IsNear (placed base i)
    placed_near i l = here i.crossed
      where
        here : (c : Bool) → IsNear (placed base (record { at = i.at; crossed = c }))
        here true = (let g : base + 2 * i.at + 1 < count = omega (arith, l, room) in g, let g : base + 2 * i.at < count = omega (arith, l, room) in g)
        here false = (let g : base + 2 * i.at < count = omega (arith, l, room) in g, let g : base + 2 * i.at + 1 < count = omega (arith, l, room) in g)

    inputs_near : (m : ℕ) → m ≤ n → (ins : List Input) → below m ins ≡ true → AreNear (map (placed base) ins)
    inputs_near m l [] h = tt
    inputs_near m l (i ∷ ins) h =
        (placed_near i (let k : i.at < m = is_lt _ _ (left_of _ _ h) in omega (arith, k, l)), inputs_near m l ins (right_of (nat_lt i.at m) _ h))

    follows_near : Within (following request)
    follows_near = (one_near (is_high request ∷ []) (single (is_high request) asked), one_near (is_low request ∷ []) (single (is_low request) asked))

    read_near : (rail : ℕ) → rail < count → Within (read_rail request rail)
    read_near rail l = (
      one_near (is_high request ∷ is_high rail ∷ []) (All-cons Near (is_high request) (is_high rail ∷ []) asked (single (is_high rail) l)),
      one_near (is_low request ∷ []) (single (is_low request) asked),
    )

    pub listed_near : (gs : List BlockPart) (from : ℕ) → from + length gs ≤ n → ordered from gs ≡ true → Only (λ x i. IsNear (pair_of (bits x) i)) gs
        → All Within (rules_listed bits request base gs)
    listed_near [] from l o r = All-nil Within
    listed_near (fixed true ∷ gs) from l o r = two (following request) no_rules (rules_listed bits request base gs) follows_near none_near
        (listed_near gs (suc from) (omega (arith, l)) (right_of (ordered_one from (fixed true)) _ o) r)
    listed_near (fixed false ∷ gs) from l o r = two no_rules (following request) (rules_listed bits request base gs) none_near follows_near
        (listed_near gs (suc from) (omega (arith, l)) (right_of (ordered_one from (fixed false)) _ o) r)
    listed_near (read_bit x i ∷ gs) from l o r =
        two (read_rail request (pair_of (bits x) i).t) (read_rail request (pair_of (bits x) i).f) (rules_listed bits request base gs) (read_near _ r.0.0)
        (read_near _ r.0.1)
        (listed_near gs (suc from) (omega (arith, l)) (right_of (ordered_one from (read_bit x i)) _ o) r.1)
    listed_near (made f i more ∷ gs) from l o r =
        let ins = map (placed base) (i ∷ more) in
        let near = inputs_near from (omega (arith, l)) (i ∷ more) (left_of _ _ o) in
        two (gate_rail ins f) (gate_rail ins (λ row. not (f row))) (rules_listed bits request base gs) (rail_near ins f near)
        (rail_near ins (λ row. not (f row)) near)
        (listed_near gs (suc from) (omega (arith, l)) (right_of (ordered_one from (made f i more)) _ o) r)

pub rules_within : (count : ℕ) (firsts : List ℕ) (e : Formula) (request from : ℕ) → IsWellFormed e → EachRead (HasBit count firsts) e → request < count
    → from + formula_size e ≤ count → All (AreBelow count) (formula_rules (bits_in_blocks firsts) e request from)
rules_within count firsts e request from h r asked room =
    let bits = bits_in_blocks firsts in
    let list = listed (block_vars firsts e) e h (block_reads firsts e h) in
    let size = list.size in
    let long = parts_length e 0 h in
    let near : (x i : ℕ) → i ≤ 63 → HasBit count firsts x i → IsNear count (pair_of (bits x) i) =
    λ x i l k. subst (IsNear count) (sym (apart_at 5 64 _ i (omega (arith, l)))) (let w = k.within in (omega (arith, w), w)) in
    subst (All (AreBelow count)) (sym (list.rules bits (block_bits firsts e) request from))
    (listed_near count bits request from (gate_count e) asked (omega (arith, size, room)) (block_parts e 0) 0 (omega (arith, long)) (parts_ordered e 0 h)
    (parts_read _ e 0 (each_within _ _ near e h r)))
