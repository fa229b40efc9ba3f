-- No guard of a typed program's net has an empty term.
use Rattle.std.proofs.Common.{◌≡◌, ℕ, zero, suc, ◌+◌, ◌*◌, ◌/◌, ◌%◌, ◌≤◌, ◌<◌, Bool, true, false, List, [], ◌∷◌, ◌++◌, map, length, refl, arith}
use Rattle.std.specs.Prelude.{not, ◌==◌, ◌&&◌, if◌then◌else◌, filter, replicate, All}
use Rattle.std.specs.List.{list_all}
use Rattle.std.proofs.lemmas.Bool.{and_from, and_parts}
use Rattle.std.proofs.lemmas.List.Elements.{All-nil, All-cons}
use Rattle.chp_base.specs.declared.channel.Channel.{Channel}
use Rattle.chp_base.specs.declared.channel.Kind.{Kind}
use Rattle.chp_base.specs.declared.channel.Kind.TheVariants.{In, Out, Chan}
use Rattle.chp_syntax.specs.declared.tree.Op.{Op}
use Rattle.chp_syntax.specs.declared.tree.Op.TheVariants.{And, Or, Xor, Add, Sub, Eq, Ne, Lt, Le, Gt, Ge}
use Rattle.prs_core.specs.declared.rule.Literal.{Literal}
use Rattle.prs_core.specs.Nets.{GuardValue, NodeRules, IsFilled, is_high, is_low, one_term}
use Rattle.prs_core.specs.Pairs.{Pair, pair_at, pair_of, no_rules, or_of, merged_true, merged_false}
use Rattle.width_check.specs.declared.typed.Var.{Var}
use Rattle.width_check.specs.Processes.{Formula, constant, reading, joined, inverted, chained, compared, Formulas, no_parts, and_part, Operations, no_operations, and_operation, Process, skipping, assigning, sending, receiving, in_turn, side_by_side, choosing, repeating, Processes, no_members, and_member, Choices, no_choices, and_choice, choice_count, TypedProgram}
use Rattle.width_check.specs.Values.{width_of}
use Rattle.width_check.specs.Typing.{var_width, IsProcess, AreProcesses, AreChoices}
use Rattle.width_check.specs.Reads.{reads}
use Rattle.handshake_expand.specs.Layout.{operator_size, formula_size, size_of, var_from, root_request, body_from}
use Rattle.handshake_expand.specs.Answers.{guards_from, bodies_from, select_own, again_own}
use Rattle.cell_parallel.specs.Trees.{level_rules, next_level, levels_rules, tree_rules}
use Rattle.cell_variable.specs.Variables.{Bit, bits_from, bit_written, bits_rules, written_leaves, variable_rules, all_written, write_answer}
use Rattle.cell_channel.specs.Ends.{port_rules}
use Rattle.cell_select.specs.Selections.{Choosing, Repeating, all_false, only_one_true, latches, starts, joined_answer, evaluation, leave_latch, select_rules, again_rules}
use Rattle.function_blocks.specs.Gates.{table, minterm, gate_rail, gate, all_one, some_one, odd_ones, carries, borrows, alike, bitwise, ripple, borrow_gates, conjunctions, all_of_bits, equality, result_pairs, operator_rules, operator_result}
use Rattle.function_blocks.specs.Expressions.{constant_bit, constant_bits, read_bits, bits_between, formula_result, formula_rules, joined_rules, chained_rules}
use Rattle.handshake_expand.specs.Sites.{in_body}
use Rattle.net_compose.specs.Translation.{through_at, block_bits, bits_at, written_at, rails_at, q_rules, through_rules, guard_pairs, guards_rules, choosing_at, repeating_at, branch_ends, branches_end, rules_of, turn_rules, branches_rules, bodies_rules, send_site, receive_site, write_site, rail_rules, channel_rules, channels_rules, vars_rules, all_rules}
use Rattle.net_compose.proofs.Sizes.{root_and_body}

abbrev pub is_filled : List Literal → Bool
is_filled [] = false
is_filled (l ∷ ls) = true

-- each term of both guards of each node
abbrev pub full : List NodeRules → Bool
full [] = true
full (r ∷ rs) = list_all is_filled r.up && (list_all is_filled r.down && full rs)

pub full-append : (rs ss : List NodeRules) → full rs ≡ true → full ss ≡ true → full (rs ++ ss) ≡ true
full-append [] ss h k = k
full-append (r ∷ rs) ss h k =
    let a = and_parts (list_all is_filled r.up) (list_all is_filled r.down && full rs) h in
    let b = and_parts (list_all is_filled r.down) (full rs) a.1 in
    and_from (list_all is_filled r.up) (list_all is_filled r.down && full (rs ++ ss)) a.0
    (and_from (list_all is_filled r.down) (full (rs ++ ss)) b.0 (full-append rs ss b.1 k))

full-cons : (r : NodeRules) (rs : List NodeRules) → list_all is_filled r.up ≡ true → list_all is_filled r.down ≡ true → full rs ≡ true → full (r ∷ rs) ≡ true
full-cons r rs up down rest = and_from (list_all is_filled r.up) (list_all is_filled r.down && full rs) up
    (and_from (list_all is_filled r.down) (full rs) down rest)

-- gates

abbrev has_input : List Bool → Bool
has_input [] = false
has_input (b ∷ bs) = true

row_filled : (p : Pair) (ps : List Pair) (row : List Bool) → has_input row ≡ true → is_filled (minterm (p ∷ ps) row) ≡ true
row_filled p ps [] h = absurd (cc h)
row_filled p ps (b ∷ bs) h = refl

rows_filled : (p : Pair) (ps : List Pair) (f : List Bool → Bool) (rows : List (List Bool)) → list_all has_input rows ≡ true →
    list_all is_filled (map (minterm (p ∷ ps)) (filter f rows)) ≡ true
rows_filled p ps f [] h = refl
rows_filled p ps f (row ∷ rows) h =
    let t = and_parts (has_input row) (list_all has_input rows) h in
    let rest = rows_filled p ps f rows t.1 in
    elim (f row) as (λ b. list_all is_filled (map (minterm (p ∷ ps)) (if b then row ∷ filter f rows else filter f rows)) ≡ true) [
      | true ↦ and_from (is_filled (minterm (p ∷ ps) row)) (list_all is_filled (map (minterm (p ∷ ps)) (filter f rows))) (row_filled p ps row t.0) rest
      | false ↦
          rest
    ]

two_full : (a b : Pair) (f : List Bool → Bool) → full (gate (a ∷ b ∷ []) f) ≡ true
two_full a b f =
    let ps = a ∷ b ∷ [] in
    full-cons (gate_rail ps f) (gate_rail ps (λ row. not (f row)) ∷ []) (rows_filled a (b ∷ []) f (table 2) refl) refl
    (full-cons (gate_rail ps (λ row. not (f row))) [] (rows_filled a (b ∷ []) (λ row. not (f row)) (table 2) refl) refl refl)

three_full : (a b c : Pair) (f : List Bool → Bool) → full (gate (a ∷ b ∷ c ∷ []) f) ≡ true
three_full a b c f =
    let ps = a ∷ b ∷ c ∷ [] in
    full-cons (gate_rail ps f) (gate_rail ps (λ row. not (f row)) ∷ []) (rows_filled a (b ∷ c ∷ []) f (table 3) refl) refl
    (full-cons (gate_rail ps (λ row. not (f row))) [] (rows_filled a (b ∷ c ∷ []) (λ row. not (f row)) (table 3) refl) refl refl)

carrying_full : (a b : Pair) (carried : List Pair) (f : List Bool → Bool) → length carried ≤ 1 → full (gate (a ∷ b ∷ carried) f) ≡ true
carrying_full a b [] f few = two_full a b f
carrying_full a b (c ∷ []) f few = three_full a b c f
carrying_full a b (c ∷ d ∷ more) f few = absurd (omega (arith, few))

bitwise_full : (f : List Bool → Bool) (xs ys : List Pair) → full (bitwise f xs ys) ≡ true
bitwise_full f [] ys = refl
bitwise_full f (x ∷ xs) [] = refl
bitwise_full f (x ∷ xs) (y ∷ ys) = full-append (gate (x ∷ y ∷ []) f) (bitwise f xs ys) (two_full x y f) (bitwise_full f xs ys)

ripple_full : (carry : List Bool → Bool) (xs ys carried : List Pair) (from : ℕ) → length carried ≤ 1 → full (ripple carry xs ys carried from) ≡ true
ripple_full carry [] ys carried from few = refl
ripple_full carry (x ∷ []) [] carried from few = refl
ripple_full carry (x ∷ w ∷ xs) [] carried from few = refl
ripple_full carry (x ∷ []) (y ∷ []) carried from few = carrying_full x y carried odd_ones few
ripple_full carry (x ∷ []) (y ∷ z ∷ ys) carried from few =
    full-append (gate (x ∷ y ∷ carried) odd_ones) (gate (x ∷ y ∷ carried) carry ++ ripple carry [] (z ∷ ys) (pair_at (from + 2) ∷ []) (from + 4))
    (carrying_full x y carried odd_ones few)
    (full-append (gate (x ∷ y ∷ carried) carry) (ripple carry [] (z ∷ ys) (pair_at (from + 2) ∷ []) (from + 4)) (carrying_full x y carried carry few)
    (ripple_full carry [] (z ∷ ys) (pair_at (from + 2) ∷ []) (from + 4) (omega arith)))
ripple_full carry (x ∷ w ∷ xs) (y ∷ ys) carried from few =
    full-append (gate (x ∷ y ∷ carried) odd_ones) (gate (x ∷ y ∷ carried) carry ++ ripple carry (w ∷ xs) ys (pair_at (from + 2) ∷ []) (from + 4))
    (carrying_full x y carried odd_ones few)
    (full-append (gate (x ∷ y ∷ carried) carry) (ripple carry (w ∷ xs) ys (pair_at (from + 2) ∷ []) (from + 4)) (carrying_full x y carried carry few)
    (ripple_full carry (w ∷ xs) ys (pair_at (from + 2) ∷ []) (from + 4) (omega arith)))

borrows_full : (xs ys borrowed : List Pair) (from : ℕ) → length borrowed ≤ 1 → full (borrow_gates xs ys borrowed from) ≡ true
borrows_full [] ys borrowed from few = refl
borrows_full (x ∷ xs) [] borrowed from few = refl
borrows_full (x ∷ xs) (y ∷ ys) borrowed from few =
    full-append (gate (x ∷ y ∷ borrowed) borrows) (borrow_gates xs ys (pair_at from ∷ []) (from + 2)) (carrying_full x y borrowed borrows few)
    (borrows_full xs ys (pair_at from ∷ []) (from + 2) (omega arith))

conjunctions_full : (p : Pair) (qs : List Pair) (from : ℕ) → full (conjunctions p qs from) ≡ true
conjunctions_full p [] from = refl
conjunctions_full p (q ∷ qs) from = full-append (gate (p ∷ q ∷ []) all_one) (conjunctions (pair_at from) qs (from + 2)) (two_full p q all_one)
    (conjunctions_full (pair_at from) qs (from + 2))

all_full : (ps : List Pair) (from : ℕ) → full (all_of_bits ps from) ≡ true
all_full [] from = refl
all_full (p ∷ ps) from = conjunctions_full p ps from

equality_full : (xs ys : List Pair) (from : ℕ) → full (equality xs ys from) ≡ true
equality_full xs ys from = full-append (bitwise alike xs ys) (all_of_bits (result_pairs xs from) (from + 2 * length xs)) (bitwise_full alike xs ys)
    (all_full (result_pairs xs from) (from + 2 * length xs))

operator_full : (op : Op) (xs ys : List Pair) (from : ℕ) → full (operator_rules op xs ys from) ≡ true
operator_full And xs ys from = bitwise_full all_one xs ys
operator_full Or xs ys from = bitwise_full some_one xs ys
operator_full Xor xs ys from = bitwise_full odd_ones xs ys
operator_full Add xs ys from = ripple_full carries xs ys [] from (omega arith)
operator_full Sub xs ys from = ripple_full borrows xs ys [] from (omega arith)
operator_full Eq xs ys from = equality_full xs ys from
operator_full Ne xs ys from = equality_full xs ys from
operator_full Lt xs ys from = borrows_full xs ys [] from (omega arith)
operator_full Le xs ys from = borrows_full ys xs [] from (omega arith)
operator_full Gt xs ys from = borrows_full ys xs [] from (omega arith)
operator_full Ge xs ys from = borrows_full xs ys [] from (omega arith)

-- expressions

bit_full : (request : ℕ) (b : Bool) (rest : List NodeRules) → full rest ≡ true → full (constant_bit request b ++ rest) ≡ true
bit_full request true rest h = h
bit_full request false rest h = h

constant_full : (request width value : ℕ) → full (constant_bits request width value) ≡ true
constant_full request zero value = refl
constant_full request (suc n) value = bit_full request (value % 2 == 1) (constant_bits request n (value / 2)) (constant_full request n (value / 2))

reads_full : (request : ℕ) (xs : List Pair) → full (read_bits request xs) ≡ true
reads_full request [] = refl
reads_full request (x ∷ xs) = reads_full request xs

mutual
  formula_full : (bits : ℕ → List Pair) (e : Formula) (request from : ℕ) → full (formula_rules bits e request from) ≡ true
  formula_full bits (constant width v) request from = constant_full request width v
  formula_full bits (reading var high low at) request from = reads_full request (bits_between high low (bits var))
  formula_full bits (joined parts) request from = joined_full bits parts request from
  formula_full bits (inverted e) request from = formula_full bits e request from
  formula_full bits (chained e more) request from =
      full-append (formula_rules bits e request from) (chained_rules bits (width_of e) (formula_result e from) more request (from + formula_size e))
      (formula_full bits e request from)
      (chained_full bits (width_of e) (formula_result e from) more request (from + formula_size e))
  formula_full bits (compared op e f) request from =
      full-append (formula_rules bits e request from) (formula_rules bits f request (from + formula_size e)
      ++ operator_rules op (formula_result e from) (formula_result f (from + formula_size e)) (from + formula_size e + formula_size f))
      (formula_full bits e request from)
      (full-append (formula_rules bits f request (from + formula_size e)) (operator_rules op (formula_result e from) (formula_result f (from + formula_size e))
      (from + formula_size e + formula_size f)) (formula_full bits f request (from + formula_size e))
      (operator_full op (formula_result e from) (formula_result f (from + formula_size e)) (from + formula_size e + formula_size f)))

  joined_full : (bits : ℕ → List Pair) (parts : Formulas) (request from : ℕ) → full (joined_rules bits parts request from) ≡ true
  joined_full bits no_parts request from = refl
  joined_full bits (and_part e more) request from =
      full-append (formula_rules bits e request from) (joined_rules bits more request (from + formula_size e)) (formula_full bits e request from)
      (joined_full bits more request (from + formula_size e))

  chained_full : (bits : ℕ → List Pair) (width : ℕ) (left : List Pair) (more : Operations) (request from : ℕ) →
      full (chained_rules bits width left more request from) ≡ true
  chained_full bits width left no_operations request from = refl
  chained_full bits width left (and_operation op e more) request from =
      full-append (formula_rules bits e request from)
      (operator_rules op left (formula_result e from) (from + formula_size e) ++ chained_rules bits width (operator_result op left (from + formula_size e)) more
      request (from + formula_size e + operator_size op width))
      (formula_full bits e request from)
      (full-append (operator_rules op left (formula_result e from) (from + formula_size e))
      (chained_rules bits width (operator_result op left (from + formula_size e)) more request (from + formula_size e + operator_size op width))
      (operator_full op left (formula_result e from) (from + formula_size e))
      (chained_full bits width (operator_result op left (from + formula_size e)) more request (from + formula_size e + operator_size op width)))

-- cells

level_full : (ls : List ℕ) → full (level_rules ls) ≡ true
level_full [] = refl
level_full (p ∷ []) = refl
level_full (p ∷ q ∷ rest) = level_full rest

levels_full : (n : ℕ) (ls : List ℕ) (from : ℕ) → full (levels_rules n ls from) ≡ true
levels_full zero ls from = refl
levels_full (suc n) ls from = full-append (level_rules ls) (levels_rules n (next_level ls from) (from + length ls / 2)) (level_full ls)
    (levels_full n (next_level ls from) (from + length ls / 2))

pub tree_full : (leaves : List ℕ) (from : ℕ) → full (tree_rules leaves from) ≡ true
tree_full leaves from = levels_full (length leaves) leaves from

ports_full : (request : ℕ) (xs : List Pair) → full (port_rules request xs) ≡ true
ports_full request [] = refl
ports_full request (x ∷ xs) = ports_full request xs

singles_filled : (ns : List ℕ) → list_all is_filled (map (λ k. is_high k ∷ []) ns) ≡ true
singles_filled [] = refl
singles_filled (n ∷ ns) = singles_filled ns

pub or_full : (ns : List ℕ) (rest : List NodeRules) → full rest ≡ true → full (or_of ns ∷ rest) ≡ true
or_full [] rest h = h
or_full (n ∷ ns) rest h = full-cons (or_of (n ∷ ns)) rest (singles_filled ns) refl h

merges_full : (sites : List (List Pair)) (place : ℕ) (rest : List NodeRules) → full rest ≡ true →
    full (merged_true sites place ∷ merged_false sites place ∷ rest) ≡ true
merges_full sites place rest h =
    or_full (map (λ (site : List Pair). (pair_of site place).t) sites) (merged_false sites place ∷ rest)
    (or_full (map (λ (site : List Pair). (pair_of site place).f) sites) rest h)

bits_full : (sites : List (List Pair)) (place : ℕ) (bs : List Bit) → full (bits_rules sites place bs) ≡ true
bits_full sites place [] = refl
bits_full sites place (b ∷ bs) = merges_full sites place (bit_written b ∷ bits_rules sites (suc place) bs) (bits_full sites (suc place) bs)

pub block_full : (width from : ℕ) (sites : List (List Pair)) → full (variable_rules width from sites) ≡ true
block_full width from sites = full-append (bits_rules sites 0 (bits_from width from)) (tree_rules (written_leaves width from) (from + 5 * width))
    (bits_full sites 0 (bits_from width from)) (tree_full (written_leaves width from) (from + 5 * width))

wanted_filled : (before : List Pair) (h : Pair) (behind : List Pair) → is_filled (all_false before ++ is_high h.t ∷ all_false behind) ≡ true
wanted_filled [] h behind = refl
wanted_filled (b ∷ before) h behind = refl

abbrev latched_by : ℕ → List Literal → NodeRules
latched_by request wanted = record { up = one_term wanted; down = one_term (is_low request ∷ []) }

latches_full : (request : ℕ) (before behind : List Pair) → full (map (latched_by request) (only_one_true before behind)) ≡ true
latches_full request before [] = refl
latches_full request before (h ∷ behind) =
    let wanted = all_false before ++ is_high h.t ∷ all_false behind in
    full-cons (latched_by request wanted) (map (latched_by request) (only_one_true (before ++ h ∷ []) behind))
    (and_from (is_filled wanted) true (wanted_filled before h behind) refl) refl
    (latches_full request (before ++ h ∷ []) behind)

starts_full : (ls : List ℕ) (hs : List Pair) → full (starts ls hs) ≡ true
starts_full [] hs = refl
starts_full (l ∷ ls) hs = starts_full ls hs

pub select_full : (c : Choosing) → full (select_rules c) ≡ true
select_full c =
    let behind = latches c.request c.guards ++ starts c.latched c.guards in
    full-cons (joined_answer c.any c.answers) (evaluation c.request c.any ∷ or_of c.latched ∷ behind) (singles_filled c.answers) refl
    (or_full c.latched behind (full-append (latches c.request c.guards) (starts c.latched c.guards) (latches_full c.request [] c.guards)
    (starts_full c.latched c.guards)))

-- it ends where all of at least one guard are false
pub again_full : (r : Repeating) → 1 ≤ length r.turn.guards → full (again_rules r) ≡ true
again_full r some =
    let behind = latches r.turn.request r.turn.guards ++ starts r.turn.latched r.turn.guards in
    full-cons (joined_answer r.turn.any r.turn.answers) (evaluation r.turn.request r.turn.any ∷ or_of (r.leave ∷ r.turn.latched)
    ∷ leave_latch r.turn.request r.turn.guards ∷ behind) (singles_filled r.turn.answers) refl
    (or_full (r.leave ∷ r.turn.latched) (leave_latch r.turn.request r.turn.guards ∷ behind)
    (full-cons (leave_latch r.turn.request r.turn.guards) behind (and_from (is_filled (all_false r.turn.guards)) true (leave_filled r.turn.guards some) refl)
    refl
    (full-append (latches r.turn.request r.turn.guards) (starts r.turn.latched r.turn.guards) (latches_full r.turn.request [] r.turn.guards)
    (starts_full r.turn.latched r.turn.guards))))
  where
    leave_filled : (hs : List Pair) → 1 ≤ length hs → is_filled (all_false hs) ≡ true
    leave_filled [] h = absurd (omega (arith, h))
    leave_filled (x ∷ hs) h = refl

module _ (p : TypedProgram) (pairs : (choices : Choices) (from : ℕ) → AreChoices p.channels p.vars choices →
    length (guard_pairs choices from) ≡ choice_count choices) where
  pub guards_full : (choices : Choices) (request from : ℕ) → full (guards_rules p choices request from) ≡ true
  guards_full no_choices request from = refl
  guards_full (and_choice g s more) request from =
      full-append (formula_rules (bits_at p) g request from) (guards_rules p more request (from + formula_size g)) (formula_full (bits_at p) g request from)
      (guards_full more request (from + formula_size g))

  either_full : (b : Bool) (xs ys : List NodeRules) → full xs ≡ true → full ys ≡ true → full (if b then xs else ys) ≡ true
  either_full true xs ys h k = h
  either_full false xs ys h k = k

  through_full : (x : ℕ) (e : Formula) (request from : ℕ) → full (through_rules p x e request from) ≡ true
  through_full x e request from =
      let h = through_at (var_width p.vars x) (formula_size e) from in
      let own = formula_rules (bits_at p) e h.element (h.first + 1) in
      let back = read_bits (h.element + 2) (block_bits h.width h.block) in
      full-append (variable_rules h.width h.block (formula_result e (h.first + 1) ∷ []))
      (q_rules request h.first h.element ++ (write_answer h.element (all_written h.width h.block)
      ∷ (own ++ (write_answer (h.element + 2) (written_at p x) ∷ back))))
      (block_full h.width h.block (formula_result e (h.first + 1) ∷ []))
      (full-append own (write_answer (h.element + 2) (written_at p x) ∷ back) (formula_full (bits_at p) e h.element (h.first + 1))
      (reads_full (h.element + 2) (block_bits h.width h.block)))

  mutual
    pub statement_full : (s : Process) (request from : ℕ) → IsProcess p.channels p.vars s → full (rules_of p s request from) ≡ true
    statement_full skipping request from h = refl
    statement_full (assigning x at e) request from h =
        either_full (reads x e) (through_rules p x e request from) (write_answer request (written_at p x) ∷ formula_rules (bits_at p) e request (from + 1))
        (through_full x e request from) (formula_full (bits_at p) e request (from + 1))
    statement_full (sending chan at e) request from h = formula_full (bits_at p) e request (from + 1)
    statement_full (receiving chan at x to) request from h = ports_full request (rails_at p chan)
    statement_full (in_turn members) request from h = turn_full members request from h.1
    statement_full (side_by_side members) request from h =
        full-append (branches_rules p members request from) (tree_rules (branch_ends p members from) (branches_end p members from))
        (branches_full members request from h.1) (tree_full (branch_ends p members from) (branches_end p members from))
    statement_full (choosing false choices) request from h =
        full-append (select_rules (choosing_at p choices request (from + 2) select_own from))
        (guards_rules p choices (from + 1) (guards_from choices select_own from)
        ++ bodies_rules p choices (from + select_own + choice_count choices) (bodies_from choices select_own from))
        (select_full (choosing_at p choices request (from + 2) select_own from))
        (full-append (guards_rules p choices (from + 1) (guards_from choices select_own from))
        (bodies_rules p choices (from + select_own + choice_count choices) (bodies_from choices select_own from))
        (guards_full choices (from + 1) (guards_from choices select_own from))
        (bodies_full choices (from + select_own + choice_count choices) (bodies_from choices select_own from) h.2))
    statement_full (choosing true choices) request from h =
        let count = pairs choices (guards_from choices again_own from) h.2 in
        let some = h.0 in
        full-append (again_rules (repeating_at p choices request from)) (guards_rules p choices (from + 3) (guards_from choices again_own from)
        ++ bodies_rules p choices (from + again_own + choice_count choices) (bodies_from choices again_own from))
        (again_full (repeating_at p choices request from) (omega (arith, count, some)))
        (full-append (guards_rules p choices (from + 3) (guards_from choices again_own from))
        (bodies_rules p choices (from + again_own + choice_count choices) (bodies_from choices again_own from))
        (guards_full choices (from + 3) (guards_from choices again_own from))
        (bodies_full choices (from + again_own + choice_count choices) (bodies_from choices again_own from) h.2))
    statement_full (repeating s) request from h = statement_full s (from + 1) (from + 2) h

    turn_full : (members : Processes) (request from : ℕ) → AreProcesses p.channels p.vars members → full (turn_rules p members request from) ≡ true
    turn_full no_members request from h = refl
    turn_full (and_member s no_members) request from h = statement_full s request from h.0
    turn_full (and_member s (and_member t more)) request from h =
        full-append (rules_of p s from (from + 3)) (turn_rules p (and_member t more) (from + 2) (from + 3 + size_of p s)) (statement_full s from (from + 3) h.0)
        (turn_full (and_member t more) (from + 2) (from + 3 + size_of p s) h.1)

    branches_full : (members : Processes) (request from : ℕ) → AreProcesses p.channels p.vars members → full (branches_rules p members request from) ≡ true
    branches_full no_members request from h = refl
    branches_full (and_member s more) request from h =
        full-append (rules_of p s from (from + 3)) (branches_rules p more request (from + 3 + size_of p s)) (statement_full s from (from + 3) h.0)
        (branches_full more request (from + 3 + size_of p s) h.1)

    bodies_full : (choices : Choices) (start from : ℕ) → AreChoices p.channels p.vars choices → full (bodies_rules p choices start from) ≡ true
    bodies_full no_choices start from h = refl
    bodies_full (and_choice g s more) start from h =
        full-append (rules_of p s start from) (bodies_rules p more (start + 1) (from + size_of p s)) (statement_full s start from h.1)
        (bodies_full more (start + 1) (from + size_of p s) h.2)

  pub rails_full : (sites : List (List Pair)) (place width : ℕ) → full (rail_rules sites place width) ≡ true
  rails_full sites place zero = refl
  rails_full sites place (suc n) = merges_full sites place (rail_rules sites (suc place) n) (rails_full sites (suc place) n)

  pub silent_full : (n : ℕ) → full (replicate n no_rules) ≡ true
  silent_full zero = refl
  silent_full (suc n) = silent_full n

  wires_full : (k width : ℕ) (kind : Kind) → full (channel_rules p k width kind) ≡ true
  wires_full k width In = full-append (replicate (2 * width) no_rules) (or_of (in_body p (receive_site k)) ∷ []) (silent_full (2 * width))
      (or_full (in_body p (receive_site k)) [] refl)
  wires_full k width Out = full-append (rail_rules (in_body p (send_site k)) 0 width) (no_rules ∷ []) (rails_full (in_body p (send_site k)) 0 width) refl
  wires_full k width Chan = full-append (rail_rules (in_body p (send_site k)) 0 width) (or_of (in_body p (receive_site k)) ∷ [])
      (rails_full (in_body p (send_site k)) 0 width) (or_full (in_body p (receive_site k)) [] refl)

  channels_full : (k : ℕ) (cs : List Channel) → full (channels_rules p k cs) ≡ true
  channels_full k [] = refl
  channels_full k (c ∷ cs) = full-append (channel_rules p k c.width c.kind) (channels_rules p (suc k) cs) (wires_full k c.width c.kind)
      (channels_full (suc k) cs)

  vars_full : (x : ℕ) (vs : List Var) → full (vars_rules p x vs) ≡ true
  vars_full x [] = refl
  vars_full x (v ∷ vs) = full-append (variable_rules v.width (var_from p x) (in_body p (write_site p x))) (vars_rules p (suc x) vs)
      (block_full v.width (var_from p x) (in_body p (write_site p x))) (vars_full (suc x) vs)

  pub all_filled : IsProcess p.channels p.vars p.body → full (all_rules p) ≡ true
  all_filled h =
      full-append (channels_rules p 0 p.channels) (vars_rules p 0 p.vars ++ root_and_body p) (channels_full 0 p.channels)
      (full-append (vars_rules p 0 p.vars) (root_and_body p) (vars_full 0 p.vars) (statement_full p.body (root_request p) (body_from p) h))

-- as lists of guards
filled_term : (t : List Literal) → is_filled t ≡ true → 0 < length t
filled_term [] h = absurd (cc h)
filled_term (l ∷ ls) h = omega arith

filled_guard : (g : GuardValue) → list_all is_filled g ≡ true → IsFilled g
filled_guard [] h = All-nil (λ (t : List Literal). 0 < length t)
filled_guard (t ∷ g) h = let a = and_parts (is_filled t) (list_all is_filled g) h in
    All-cons (λ (t : List Literal). 0 < length t) t g (filled_term t a.0) (filled_guard g a.1)

pub ups_filled : (rs : List NodeRules) → full rs ≡ true → All IsFilled (map (λ (r : NodeRules). r.up) rs)
ups_filled [] h = All-nil IsFilled
ups_filled (r ∷ rs) h =
    let a = and_parts (list_all is_filled r.up) (list_all is_filled r.down && full rs) h in
    let b = and_parts (list_all is_filled r.down) (full rs) a.1 in
    All-cons IsFilled r.up (map (λ (r : NodeRules). r.up) rs) (filled_guard r.up a.0) (ups_filled rs b.1)

pub downs_filled : (rs : List NodeRules) → full rs ≡ true → All IsFilled (map (λ (r : NodeRules). r.down) rs)
downs_filled [] h = All-nil IsFilled
downs_filled (r ∷ rs) h =
    let a = and_parts (list_all is_filled r.up) (list_all is_filled r.down && full rs) h in
    let b = and_parts (list_all is_filled r.down) (full rs) a.1 in
    All-cons IsFilled r.down (map (λ (r : NodeRules). r.down) rs) (filled_guard r.down b.0) (downs_filled rs b.1)
