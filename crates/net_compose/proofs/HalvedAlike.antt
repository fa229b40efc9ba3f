-- Where the nodes of a program's net have the values that those of the net of the program in halves have, the rules of its
-- statements say the same.
use Rattle.std.proofs.Common.{◌≡◌, ℕ, zero, suc, ◌+◌, ◌*◌, ◌-◌, ◌<◌, ◌≤◌, Bool, true, false, List, [], ◌∷◌, ◌++◌, length, take, refl, sym, ap, ◌∙◌, subst, arith, length-append, append_assoc}
use Rattle.std.specs.Prelude.{if◌then◌else◌}
use Rattle.std.proofs.Math.Seq.{take-length}
use Rattle.std.proofs.lemmas.List.Sorted.{length_permutation}
use Rattle.prs_core.specs.Nets.{NodeRules}
use Rattle.prs_core.specs.Pairs.{pair_of, pairs_from, no_rules}
use Rattle.prs_core.specs.Sites.{site_answer}
use Rattle.cell_channel.specs.Ends.{port_rules}
use Rattle.chp_base.specs.declared.span.Span.{Span}
use Rattle.width_check.specs.declared.typed.Var.{Var}
use Rattle.width_check.specs.Processes.{Formula, Process, skipping, assigning, sending, receiving, in_turn, side_by_side, choosing, repeating, Processes, no_members, and_member, member_count, TypedProgram, Choices, no_choices, and_choice, choice_count}
use Rattle.width_check.specs.Reads.{reads}
use Rattle.width_check.specs.Values.{width_of}
use Rattle.width_check.proofs.Bounds.{width_some}
use Rattle.width_check.specs.Typing.{channel_width, var_width, IsOfWidth, IsProcess, AreProcesses, AreChoices}
use Rattle.handshake_expand.specs.Layout.{formula_size, block_size, blocks_before, size_of, branches_size, channel_from, vars_from, var_from, root_request, through_size, guards_size}
use Rattle.handshake_expand.specs.Answers.{answer_of, turn_answer, second_answer, guards_from, bodies_from, select_own, again_own}
use Rattle.cell_sequence.specs.Sequence.{loop_request}
use Rattle.cell_parallel.specs.Trees.{tree_rules}
use Rattle.cell_parallel.specs.Sizes.{tree_length}
use Rattle.cell_variable.specs.Variables.{all_written, write_answer}
use Rattle.function_blocks.specs.Expressions.{HasBits, read_bits, bits_between, formula_rules, formula_result}
use Rattle.function_blocks.specs.Listed.{node_of, rail_place}
use Rattle.function_blocks.proofs.Sizes.{rules_length, result_length}
use Rattle.chp_meaning.specs.Halves.{hidden_of, hidden_vars, hidden_in_each, read_through, in_halves, halved_assign, halved, halved_each, halved_program, ReadsNoTarget, EachReadsNoTarget, hidden_in_choices, halved_choices, ChoicesReadNoTarget}
use Rattle.cell_select.specs.Selections.{select_rules, again_rules}
use Rattle.net_compose.proofs.SameSelections.{PairsAlike, pairs_append, pairs_by_places, range_alike, SameChoosing, selects_alike, agains_alike}
use Rattle.net_compose.specs.Translation.{bits_at, block_bits, written_at, ack_at, q_rules, rules_of, turn_rules, branches_rules, branch_ends, branches_end, guard_pairs, branch_answers, guards_rules, choosing_at, repeating_at, bodies_rules}
use Rattle.net_compose.proofs.Sizes.{Counted, block_length, has_bits, statement_length}
use Rattle.net_compose.proofs.FlatTrees.{Alike, RulesAlike, rules_append, tree_rules_alike}
use Rattle.net_compose.proofs.FlatRules.{branches_end_is, plain_rules, length-branch_ends}
use Rattle.net_compose.proofs.FlatWires.{ack_bounds, rail_bounds}
use Rattle.net_compose.proofs.FlatBlocks.{blocks_below, length-variable_rules}
use Rattle.net_compose.proofs.HalvedNumbers.{blocks, blocks_append, halved_size, branches_halved, each_count, choices_count, guards_same}
use Rattle.net_compose.proofs.HalvedNodes.{Numbered, numbered, length-numbered, own, own_turn, own_branches, own_assign, hidden, hidden_turn, hidden_branches, hidden_assign, behind_block, hidden_rules, own_all, branches_all, branches_long, own_bodies, hidden_bodies, select_front, again_front, select_long, again_long}
use Rattle.net_compose.proofs.SameValues.{same_high, same_low, same_mixed, answers_alike, elements_alike, formulas_alike, same_written, same_bit_rails, reads_alike, ports_alike, results_alike}

-- nodes in order, and those that are numbered from a number on elsewhere, have the same values
abbrev pub Values : {A : Type 0} → (v u : ℕ → A) → (to : ℕ) → List Numbered → Type 0
Values v u to [] = Unit {0}
Values v u to (x ∷ xs) = (v x.node ≡ u to) × Values v u (suc to) xs

abbrev pub rules_in : List Numbered → List NodeRules
rules_in [] = []
rules_in (x ∷ xs) = x.rules ∷ rules_in xs

pub rules_in_append : (xs ys : List Numbered) → rules_in (xs ++ ys) ≡ rules_in xs ++ rules_in ys
rules_in_append [] ys = refl
rules_in_append (x ∷ xs) ys = ap (λ l. x.rules ∷ l) (rules_in_append xs ys)

pub rules_numbered : (from : ℕ) (rs : List NodeRules) → rules_in (numbered from rs) ≡ rs
rules_numbered from [] = refl
rules_numbered from (r ∷ rs) = ap (λ l. r ∷ l) (rules_numbered (suc from) rs)

pub values_left : {A : Type 0} (v u : ℕ → A) (to : ℕ) (xs ys : List Numbered) → Values v u to (xs ++ ys) → Values v u to xs
values_left v u to [] ys h = tt
values_left v u to (x ∷ xs) ys h = (h.0, values_left v u (suc to) xs ys h.1)

pub values_right : {A : Type 0} (v u : ℕ → A) (to n : ℕ) (xs ys : List Numbered) → length xs ≡ n → Values v u to (xs ++ ys) → Values v u (to + n) ys
values_right v u to n [] ys e h = let z : to ≡ to + n = omega (arith, e) in subst (λ k. Values v u k ys) z h
values_right v u to n (x ∷ xs) ys e h =
    let z : suc to + length xs ≡ to + n = omega (arith, e) in
    subst (λ k. Values v u k ys) z (values_right v u (suc to) (length xs) xs ys refl h.1)

pub values_at : {A : Type 0} (v u : ℕ → A) (from to : ℕ) (rs : List NodeRules) → Values v u to (numbered from rs) → (i : ℕ) → i < length rs →
    v (from + i) ≡ u (to + i)
values_at v u from to [] h i l = absurd (omega (arith, l))
values_at v u from to (r ∷ rs) h zero l = ap v (let e : from + 0 ≡ from = omega arith in e) ∙ (h.0 ∙ ap u (let e : to ≡ to + 0 = omega arith in e))
values_at v u from to (r ∷ rs) h (suc i) l =
    ap v (let e : from + suc i ≡ suc from + i = omega arith in e)
    ∙ (values_at v u (suc from) (suc to) rs h.1 i (omega (arith, l)) ∙ ap u (let e : suc to + i ≡ to + suc i = omega arith in e))

-- variables behind others
pub width_front : (vs hs : List Var) (x : ℕ) → x < length vs → var_width (vs ++ hs) x ≡ var_width vs x
width_front [] hs x l = absurd (omega (arith, l))
width_front (v ∷ vs) hs zero l = refl
width_front (v ∷ vs) hs (suc x) l = width_front vs hs x (omega (arith, l))

pub blocks_front : (vs hs : List Var) (x : ℕ) → x ≤ length vs → blocks_before (vs ++ hs) x ≡ blocks_before vs x
blocks_front [] [] x l = refl
blocks_front [] (h ∷ hs) zero l = refl
blocks_front [] (h ∷ hs) (suc x) l = absurd (omega (arith, l))
blocks_front (v ∷ vs) hs zero l = refl
blocks_front (v ∷ vs) hs (suc x) l = ap (λ k. block_size v.width + k) (blocks_front vs hs x (omega (arith, l)))

module _ (counted : Counted) (P : TypedProgram) where
  -- the program in halves
  abbrev Q : TypedProgram
  Q = halved_program P

  -- as many nodes
  hidden_assign_long : (x : ℕ) (e : Formula) (b : Bool) → width_of e ≡ var_width P.vars x → (from : ℕ)
      → length (hidden_assign P b x e from) ≡ blocks (hidden_of b e)
  hidden_assign_long x e false wide from = refl
  hidden_assign_long x e true wide from =
      let a = length-numbered from (hidden_rules P x e from) in
      let b : length (hidden_rules P x e from) ≡ block_size (var_width P.vars x) =
      length-variable_rules (var_width P.vars x) from (formula_result e (from + block_size (var_width P.vars x) + 3 + 1) ∷ []) in
      let c : block_size (width_of e) ≡ block_size (var_width P.vars x) = ap block_size wide in
      omega (arith, a, b, c)

  mutual
    pub hidden_long : (p : Process) → IsProcess P.channels P.vars p → (from : ℕ) → length (hidden P p from) ≡ blocks (hidden_vars p)
    hidden_long skipping t from = refl
    hidden_long (assigning x at e) t from = hidden_assign_long x e (reads x e) t.1.agrees from
    hidden_long (sending chan at e) t from = refl
    hidden_long (receiving chan at x to) t from = refl
    hidden_long (in_turn members) t from = hidden_turn_long members t.1 from
    hidden_long (side_by_side members) t from = hidden_branches_long members t.1 from
    hidden_long (repeating p) t from = hidden_long p t (from + 2)
    hidden_long (choosing false choices) t from = hidden_bodies_long choices t.2 (bodies_from choices select_own from)
    hidden_long (choosing true choices) t from = hidden_bodies_long choices t.2 (bodies_from choices again_own from)

    pub hidden_turn_long : (members : Processes) → AreProcesses P.channels P.vars members → (from : ℕ)
        → length (hidden_turn P members from) ≡ blocks (hidden_in_each members)
    hidden_turn_long no_members t from = refl
    hidden_turn_long (and_member p no_members) t from = let a = hidden_long p t.0 from in let b = blocks_append (hidden_vars p) [] in omega (arith, a, b)
    hidden_turn_long (and_member p (and_member q more)) t from =
        let a = hidden_long p t.0 (from + 3) in
        let b = hidden_turn_long (and_member q more) t.1 (from + 3 + size_of P p) in
        let c = blocks_append (hidden_vars p) (hidden_in_each (and_member q more)) in
        let d = length-append (hidden P p (from + 3)) (hidden_turn P (and_member q more) (from + 3 + size_of P p)) in
        omega (arith, a, b, c, d)

    pub hidden_branches_long : (members : Processes) → AreProcesses P.channels P.vars members → (from : ℕ)
        → length (hidden_branches P members from) ≡ blocks (hidden_in_each members)
    hidden_branches_long no_members t from = refl
    hidden_branches_long (and_member p more) t from =
        let a = hidden_long p t.0 (from + 3) in
        let b = hidden_branches_long more t.1 (from + 3 + size_of P p) in
        let c = blocks_append (hidden_vars p) (hidden_in_each more) in
        let d = length-append (hidden P p (from + 3)) (hidden_branches P more (from + 3 + size_of P p)) in
        omega (arith, a, b, c, d)

    pub hidden_bodies_long : (choices : Choices) → AreChoices P.channels P.vars choices → (from : ℕ)
        → length (hidden_bodies P choices from) ≡ blocks (hidden_in_choices choices)
    hidden_bodies_long no_choices t from = refl
    hidden_bodies_long (and_choice g p more) t from =
        let a = hidden_long p t.1 from in
        let b = hidden_bodies_long more t.2 (from + size_of P p) in
        let c = blocks_append (hidden_vars p) (hidden_in_choices more) in
        let d = length-append (hidden P p from) (hidden_bodies P more (from + size_of P p)) in
        omega (arith, a, b, c, d)

  pub own_long : (n : ℕ) (p : Process) → IsProcess P.channels P.vars p → ReadsNoTarget (halved n p) → (r from : ℕ)
      → length (own P p r from) ≡ size_of Q (halved n p)
  own_long n p t plain r from =
      let a = length_permutation (own P p r from ++ hidden P p from) (numbered from (rules_of P p r from)) (own_all counted P p t r from) in
      let b = length-append (own P p r from) (hidden P p from) in
      let c = length-numbered from (rules_of P p r from) in
      let d = statement_length counted P p r from t in
      let e = halved_size P Q refl n p t plain in
      let f = hidden_long p t from in
      omega (arith, a, b, c, d, e, f)

  pub own_branches_long : (n : ℕ) (members : Processes) → AreProcesses P.channels P.vars members
      → EachReadsNoTarget (halved_each n members) → (r from : ℕ) → length (own_branches P members r from) ≡ branches_size Q (halved_each n members)
  own_branches_long n members t plain r from =
      let a = length_permutation (own_branches P members r from ++ hidden_branches P members from) (numbered from (branches_rules P members r from))
      (branches_all counted P members t r from) in
      let b = length-append (own_branches P members r from) (hidden_branches P members from) in
      let c = length-numbered from (branches_rules P members r from) in
      let d = branches_long counted P members t r from in
      let e = branches_halved P Q refl n members t plain in
      let f = hidden_branches_long members t from in
      omega (arith, a, b, c, d, e, f)

  -- where some hidden variables and their blocks are in the program in halves
  abbrev pub HiddenAt : ℕ → List Var → (block : ℕ) → Type 0
  HiddenAt k [] b = Unit {0}
  HiddenAt k (h ∷ hs) b = (var_from Q k ≡ b) × (var_width Q.vars k ≡ h.width) × HiddenAt (suc k) hs (b + block_size h.width)

  pub hidden_at_left : (k : ℕ) (xs ys : List Var) (b : ℕ) → HiddenAt k (xs ++ ys) b → HiddenAt k xs b
  hidden_at_left k [] ys b h = tt
  hidden_at_left k (x ∷ xs) ys b h = (h.0, h.1, hidden_at_left (suc k) xs ys (b + block_size x.width) h.2)

  pub hidden_at_right : (k : ℕ) (xs ys : List Var) (b : ℕ) → HiddenAt k (xs ++ ys) b → HiddenAt (k + length xs) ys (b + blocks xs)
  hidden_at_right k [] ys b h =
      let e : k ≡ k + 0 = omega arith in
      let f : b ≡ b + 0 = omega arith in
      subst (λ j. HiddenAt j ys (b + 0)) e (subst (λ c. HiddenAt k ys c) f h)
  hidden_at_right k (x ∷ xs) ys b h =
      let e : suc k + length xs ≡ k + suc (length xs) = omega arith in
      let f : b + block_size x.width + blocks xs ≡ b + (block_size x.width + blocks xs) = omega arith in
      subst (λ j. HiddenAt j ys (b + (block_size x.width + blocks xs))) e (subst (λ c. HiddenAt (suc k + length xs) ys c) f
      (hidden_at_right (suc k) xs ys (b + block_size x.width) h.2))

  -- a declared variable is where it was
  pub declared_from : (y : ℕ) → y ≤ length P.vars → var_from Q y ≡ var_from P y
  declared_from y l = ap (λ k. vars_from P + k) (blocks_front P.vars (hidden_vars P.body) y l)

  pub declared_width : (y : ℕ) → y < length P.vars → var_width Q.vars y ≡ var_width P.vars y
  declared_width y l = width_front P.vars (hidden_vars P.body) y l

  pub declared_bits : (y : ℕ) → y < length P.vars → bits_at Q y ≡ bits_at P y
  declared_bits y l = ap (λ w. block_bits w (var_from Q y)) (declared_width y l)
      ∙ ap (λ k. block_bits (var_width P.vars y) k) (declared_from y (omega (arith, l)))

  declared_written : (y : ℕ) → y < length P.vars → written_at Q y ≡ written_at P y
  declared_written y l = ap (λ w. all_written w (var_from Q y)) (declared_width y l)
      ∙ ap (λ k. all_written (var_width P.vars y) k) (declared_from y (omega (arith, l)))

  also_bits : HasBits P.vars (bits_at Q)
  also_bits y l = ap length (declared_bits y l) ∙ has_bits P y l

  module _ (v u : ℕ → Bool) (low : (m : ℕ) → m < root_request P → v m ≡ u m) (some : (y : ℕ) → y < length P.vars → 1 ≤ var_width P.vars y) where
    pub same_block : (y : ℕ) → y < length P.vars → (i : ℕ) → i < block_size (var_width P.vars y) → v (var_from P y + i) ≡ u (var_from P y + i)
    same_block y l i h = low (var_from P y + i) (let b = blocks_below P.vars y l in omega (arith, h, b))

    same_puts : (y : ℕ) → y < length P.vars → v (written_at P y) ≡ u (written_at Q y)
    same_puts y l = same_written v u (var_width P.vars y) (var_from P y) (var_from P y) (same_block y l) (some y l) ∙ ap u (sym (declared_written y l))

    same_bits : (y i : ℕ) (one : Bool) → y < length P.vars → i < var_width P.vars y
        → v (node_of (pair_of (bits_at P y) i) one) ≡ u (node_of (pair_of (bits_at Q y) i) one)
    same_bits y i one l h = same_bit_rails v u (var_width P.vars y) (var_from P y) (var_from P y) (same_block y l) i one h
        ∙ ap (λ ps. u (node_of (pair_of ps i) one)) (sym (declared_bits y l))

    pub same_ack : (k : ℕ) → k < length P.channels → v (ack_at P k) ≡ u (ack_at Q k)
    same_ack k l = let b = ack_bounds P k l in low (ack_at P k) (omega (arith, b.1))

    pub same_rail : (k i : ℕ) (one : Bool) → k < length P.channels → i < channel_width P.channels k
        → v (channel_from P k + rail_place i one) ≡ u (channel_from P k + rail_place i one)
    same_rail k i one l h = let b = rail_bounds P k i one l h in low (channel_from P k + rail_place i one) (omega (arith, b.1))

    -- an expression of the program
    expression_alike : (w : ℕ) (e : Formula) → IsOfWidth P.vars w e → (r from s to : ℕ) → v r ≡ u s → ((i : ℕ) → i < formula_size e → v (from + i) ≡ u (to + i))
        → RulesAlike v u (formula_rules (bits_at P) e r from) (formula_rules (bits_at Q) e s to)
    expression_alike w e t r from s to asked same =
        formulas_alike v u P e t.formed t.reads from to same (bits_at P) (bits_at Q) (has_bits P) also_bits same_bits r s asked

    joined : (xs ys : List Numbered) (rs ss : List NodeRules) → RulesAlike v u (rules_in xs) rs → RulesAlike v u (rules_in ys) ss
        → RulesAlike v u (rules_in (xs ++ ys)) (rs ++ ss)
    joined xs ys rs ss f g = subst (λ l. RulesAlike v u l (rs ++ ss)) (sym (rules_in_append xs ys)) (rules_append v u (rules_in xs) rs (rules_in ys) ss f g)

    as_numbered : (from : ℕ) (rs ss : List NodeRules) → RulesAlike v u rs ss → RulesAlike v u (rules_in (numbered from rs)) ss
    as_numbered from rs ss f = subst (λ l. RulesAlike v u l ss) (sym (rules_numbered from rs)) f

    -- an assignment through a hidden variable
    module _ (n x : ℕ) (at : Span) (e : Formula) (declared : x < length P.vars) (typed : IsOfWidth P.vars (var_width P.vars x) e)
        (plain : ReadsNoTarget (in_halves n x at e)) (r from s to : ℕ) where
      abbrev width : ℕ
      width = var_width P.vars x

      -- its Q-element
      abbrev element : ℕ
      element = from + block_size (var_width P.vars x)

      abbrev halves : List NodeRules
      halves = q_rules s (to + 3) to ++ (write_answer to (written_at Q n) ∷ (formula_rules (bits_at Q) e to (to + 3 + 1)
          ++ (write_answer (to + 2) (written_at Q x) ∷ formula_rules (bits_at Q) (read_through n e at) (to + 2) (to + 3 + (1 + formula_size e) + 1))))

      halves_are : rules_of Q (in_halves n x at e) s to ≡ halves
      halves_are =
          let first = assigning n at e in
          let later = assigning x at (read_through n e at) in
          let there = write_answer (to + 2) (written_at Q x) ∷ formula_rules (bits_at Q) (read_through n e at) (to + 2) (to + 3 + (1 + formula_size e) + 1) in
          let size : size_of Q first ≡ 1 + formula_size e = ap (λ (b : Bool). if b then through_size (var_width Q.vars n) e else 1 + formula_size e) plain.0 in
          let answer : answer_of Q first (to + 3) ≡ to + 3 = ap (λ (b : Bool). if b then second_answer Q n (to + 3) (formula_size e) else to + 3) plain.0 in
          ap (λ a. q_rules s a to ++ (rules_of Q first to (to + 3) ++ rules_of Q later (to + 2) (to + 3 + size_of Q first))) answer
          ∙ (ap (λ k. q_rules s (to + 3) to ++ (rules_of Q first to (to + 3) ++ rules_of Q later (to + 2) (to + 3 + k))) size
          ∙ (ap (λ l. q_rules s (to + 3) to ++ (rules_of Q first to (to + 3) ++ l)) (plain_rules Q x at (read_through n e at) plain.1.0 (to + 2)
          (to + 3 + (1 + formula_size e)))
          ∙ ap (λ l. q_rules s (to + 3) to ++ (l ++ there)) (plain_rules Q n at e plain.0 to (to + 3))))

      -- the place of its second answer among its nodes
      place_below : (i : ℕ) → i < 3 + (1 + formula_size e) + 1 → i < length (behind_block P x e r from)
      place_below i h =
          let a = rules_length P.vars (bits_at P) (has_bits P) e element (element + 3 + 1) typed.formed typed.reads in
          let b = length-append (formula_rules (bits_at P) e element (element + 3 + 1)) (write_answer (element + 2) (written_at P x) ∷ read_bits (element + 2)
          (block_bits width from)) in
          omega (arith, h, a, b)

      module _ (block : ℕ) (number : var_from Q n ≡ block) (wide : var_width Q.vars n ≡ width_of e) (asked : v r ≡ u s)
          (nodes : Values v u to (numbered element (behind_block P x e r from))) (stored : Values v u block (numbered from (hidden_rules P x e from))) where
        node : (i : ℕ) → i < 3 + (1 + formula_size e) + 1 → v (element + i) ≡ u (to + i)
        node i h = values_at v u element to (behind_block P x e r from) nodes i (place_below i h)

        start : v element ≡ u to
        start = ap v (let z : element ≡ element + 0 = omega arith in z) ∙ (node 0 (omega arith) ∙ ap u (let z : to + 0 ≡ to = omega arith in z))

        in_block : (i : ℕ) → i < block_size width → v (from + i) ≡ u (block + i)
        in_block i h = values_at v u from block (hidden_rules P x e from) stored i (let m =
            length-variable_rules width from (formula_result e (element + 3 + 1) ∷ []) in omega (arith, h, m))

        as_wide : var_width Q.vars n ≡ width
        as_wide = wide ∙ typed.agrees

        bits_there : bits_at Q n ≡ block_bits width block
        bits_there = ap (λ w. block_bits w (var_from Q n)) as_wide ∙ ap (λ k. block_bits width k) number

        written_there : written_at Q n ≡ all_written width block
        written_there = ap (λ w. all_written w (var_from Q n)) as_wide ∙ ap (λ k. all_written width k) number

        read_there : bits_between (width_of e - 1) 0 (bits_at Q n) ≡ block_bits width block
        read_there =
            let least = width_some e typed.formed in
            let agrees = typed.agrees in
            let count : width_of e - 1 + 1 - 0 ≡ width = omega arith in
            ap (λ ps. bits_between (width_of e - 1) 0 ps) bits_there
            ∙ (ap (λ k. take k (block_bits width block)) (count ∙ sym (block_length width block)) ∙ take-length (block_bits width block))

        reads_back : RulesAlike v u (read_bits (element + 2) (block_bits width from)) (read_bits (to + 2) (block_bits width block))
        reads_back = reads_alike v u width from block (element + 2) (to + 2) (node 2 (omega arith))
            (λ i one l. same_bit_rails v u width from block in_block i one l)

        pub through_alike : RulesAlike v u (rules_in (numbered element (behind_block P x e r from))) (rules_of Q (in_halves n x at e) s to)
        through_alike =
            let stored_now = same_written v u width from block in_block (some x declared) ∙ ap u (sym written_there) in
            let back = subst (λ l. RulesAlike v u (read_bits (element + 2) (block_bits width from)) (read_bits (to + 2) l)) (sym read_there) reads_back in
            let last = answers_alike v u (element + 2) (written_at P x) (to + 2) (written_at Q x) (read_bits (element + 2) (block_bits width from))
            (formula_rules (bits_at Q) (read_through n e at) (to + 2) (to + 3 + (1 + formula_size e) + 1)) (node 2 (omega arith)) (same_puts x declared) back in
            let value = expression_alike width e typed element (element + 3 + 1) to (to + 3 + 1) start
            (λ i l. ap v (let z : element + 3 + 1 + i ≡ element + (4 + i) = omega arith in z)
            ∙ (node (4 + i) (omega (arith, l)) ∙ ap u (let z : to + (4 + i) ≡ to + 3 + 1 + i = omega arith in z))) in
            let second = write_answer (element + 2) (written_at P x) ∷ read_bits (element + 2) (block_bits width from) in
            let other = write_answer (to + 2) (written_at Q x) ∷ formula_rules (bits_at Q) (read_through n e at) (to + 2) (to + 3 + (1 + formula_size e) + 1) in
            let here = formula_rules (bits_at P) e element (element + 3 + 1) in
            let there = formula_rules (bits_at Q) e to (to + 3 + 1) in
            let whole = rules_append v u (q_rules r (element + 3) element) (q_rules s (to + 3) to)
            (write_answer element (all_written width from) ∷ (here ++ second)) (write_answer to (written_at Q n) ∷ (there ++ other))
            (elements_alike v u r (element + 3) element s (to + 3) to asked (node 3 (omega arith)) (node 1 (omega arith)))
            (answers_alike v u element (all_written width from) to (written_at Q n) (here ++ second) (there ++ other) start stored_now
            (rules_append v u here there second other value last)) in
            as_numbered element (behind_block P x e r from) (rules_of Q (in_halves n x at e) s to)
            (subst (λ l. RulesAlike v u (behind_block P x e r from) l) (sym halves_are) whole)

        pub through_answer : v (second_answer P x from (formula_size e)) ≡ u (answer_of Q (in_halves n x at e) to)
        through_answer =
            let size : size_of Q (assigning n at e) ≡ 1 + formula_size e = ap
            (λ (b : Bool). if b then through_size (var_width Q.vars n) e else 1 + formula_size e) plain.0 in
            let there : answer_of Q (in_halves n x at e) to ≡ to + 3 + size_of Q (assigning n at e) = ap
            (λ (b : Bool). if b then second_answer Q x (to + 3 + size_of Q (assigning n at e)) (formula_size (read_through n e at)) else to + 3
            + size_of Q (assigning n at e)) plain.1.0 in
            ap v (let z : second_answer P x from (formula_size e) ≡ element + (3 + (1 + formula_size e)) = omega arith in z)
            ∙ (node (3 + (1 + formula_size e)) (omega arith)
            ∙ ap u (let z : to + (3 + (1 + formula_size e)) ≡ to + 3 + size_of Q (assigning n at e) = omega (arith, size) in z ∙ sym there))

    -- the answers of statements
    assign_answer : (n x : ℕ) (at : Span) (e : Formula) (b : Bool) → reads x e ≡ b → x < length P.vars → IsOfWidth P.vars (var_width P.vars x) e
        → ReadsNoTarget (halved_assign b n x at e) → (r from s to block : ℕ) → HiddenAt n (hidden_of b e) block → v r ≡ u s
        → Values v u block (hidden_assign P b x e from) → Values v u to (own_assign P b x e r from)
        → v (if b then second_answer P x from (formula_size e) else from) ≡ u (answer_of Q (halved_assign b n x at e) to)
    assign_answer n x at e false is declared typed plain r from s to block where_hidden asked stored nodes =
        nodes.0 ∙ ap u (sym (ap (λ (b : Bool). if b then second_answer Q x to (formula_size e) else to) is))
    assign_answer n x at e true is declared typed plain r from s to block where_hidden asked stored nodes =
        through_answer n x at e declared typed plain r from s to block where_hidden.0 where_hidden.1 asked nodes stored

    mutual
      pub answers_same : (n : ℕ) (p : Process) → IsProcess P.channels P.vars p → ReadsNoTarget (halved n p) → (r from s to block : ℕ)
          → HiddenAt n (hidden_vars p) block → v r ≡ u s → Values v u block (hidden P p from) → Values v u to (own P p r from)
          → v (answer_of P p from) ≡ u (answer_of Q (halved n p) to)
      answers_same n skipping t plain r from s to block where_hidden asked stored nodes = nodes.0
      answers_same n (assigning x at e) t plain r from s to block where_hidden asked stored nodes =
          assign_answer n x at e (reads x e) refl t.0 t.1 plain r from s to block where_hidden asked stored nodes
      answers_same n (sending chan at e) t plain r from s to block where_hidden asked stored nodes = nodes.0
      answers_same n (receiving chan at x into) t plain r from s to block where_hidden asked stored nodes = nodes.0
      answers_same n (in_turn members) t plain r from s to block where_hidden asked stored nodes =
          turn_answers_same n members t.1 plain (omega (arith, t.0)) r from s to block where_hidden asked stored nodes
      answers_same n (side_by_side members) t plain r from s to block where_hidden asked stored nodes =
          let rest = values_right v u to (branches_size Q (halved_each n members)) (own_branches P members r from)
          (numbered (from + branches_size P members) (tree_rules (branch_ends P members from) (branches_end P members from)))
          (own_branches_long n members t.1 plain r from) nodes in
          let same = each_count n members in
          let some : 2 ≤ member_count members = t.0 in
          ap v (let z : from + (branches_size P members + (member_count members - 1)) - 1 ≡ from + branches_size P members + (member_count members - 2) = omega
          (arith, some) in z)
          ∙ (values_at v u (from + branches_size P members) (to + branches_size Q (halved_each n members))
          (tree_rules (branch_ends P members from) (branches_end P members from)) rest (member_count members - 2)
          (omega (arith, some, tree_length (branch_ends P members from) (branches_end P members from), length-branch_ends P members from))
          ∙ ap u (let z : to + branches_size Q (halved_each n members) + (member_count members - 2) ≡ to
          + (branches_size Q (halved_each n members) + (member_count (halved_each n members) - 1)) - 1 = omega (arith, some, same) in z))
      answers_same n (repeating p) t plain r from s to block where_hidden asked stored nodes = nodes.0
      answers_same n (choosing false choices) t plain r from s to block where_hidden asked stored nodes = nodes.0
      answers_same n (choosing true choices) t plain r from s to block where_hidden asked stored nodes = nodes.0

      turn_answers_same : (n : ℕ) (members : Processes) → AreProcesses P.channels P.vars members → EachReadsNoTarget (halved_each n members)
          → 1 ≤ member_count members → (r from s to block : ℕ) → HiddenAt n (hidden_in_each members) block → v r ≡ u s
          → Values v u block (hidden_turn P members from) → Values v u to (own_turn P members r from)
          → v (turn_answer P members from) ≡ u (turn_answer Q (halved_each n members) to)
      turn_answers_same n no_members t plain one r from s to block where_hidden asked stored nodes = absurd (omega (arith, one))
      turn_answers_same n (and_member p no_members) t plain one r from s to block where_hidden asked stored nodes =
          answers_same n p t.0 plain.0 r from s to block (hidden_at_left n (hidden_vars p) [] block where_hidden) asked stored nodes
      turn_answers_same n (and_member p (and_member q more)) t plain one r from s to block where_hidden asked stored nodes =
          let element = numbered from (q_rules r (answer_of P p (from + 3)) from) in
          let first = own P p from (from + 3) in
          let later = own_turn P (and_member q more) (from + 2) (from + 3 + size_of P p) in
          let start = values_left v u to element (first ++ later) nodes in
          let parts = values_right v u to 3 element (first ++ later) refl nodes in
          turn_answers_same (n + length (hidden_vars p)) (and_member q more) t.1 plain.1 (omega arith) (from + 2) (from + 3 + size_of P p) (to + 2)
          (to + 3 + size_of Q (halved n p)) (block + blocks (hidden_vars p)) (hidden_at_right n (hidden_vars p) (hidden_in_each (and_member q more)) block
          where_hidden)
          (values_at v u from to (q_rules r (answer_of P p (from + 3)) from) start 2 (omega arith))
          (values_right v u block (blocks (hidden_vars p)) (hidden P p (from + 3)) (hidden_turn P (and_member q more) (from + 3 + size_of P p))
          (hidden_long p t.0 (from + 3)) stored)
          (values_right v u (to + 3) (size_of Q (halved n p)) first later (own_long n p t.0 plain.0 from (from + 3)) parts)

    -- the answer of a site, and its expression
    site_alike : (w : ℕ) (e : Formula) → IsOfWidth P.vars w e → (a b : ℕ) → v a ≡ u b → (r from s to : ℕ) → v r ≡ u s
        → Values v u to (numbered from (site_answer r a ∷ formula_rules (bits_at P) e r (from + 1)))
        → RulesAlike v u (rules_in (numbered from (site_answer r a ∷ formula_rules (bits_at P) e r (from + 1))))
        (site_answer s b ∷ formula_rules (bits_at Q) e s (to + 1))
    site_alike w e typed a b far r from s to asked nodes =
        let m = rules_length P.vars (bits_at P) (has_bits P) e r (from + 1) typed.formed typed.reads in
        as_numbered from (site_answer r a ∷ formula_rules (bits_at P) e r (from + 1)) (site_answer s b ∷ formula_rules (bits_at Q) e s (to + 1))
        (answers_alike v u r a s b (formula_rules (bits_at P) e r (from + 1)) (formula_rules (bits_at Q) e s (to + 1)) asked far
        (expression_alike w e typed r (from + 1) s (to + 1) asked
        (λ i l. ap v (let z : from + 1 + i ≡ from + suc i = omega arith in z)
        ∙ (values_at v u from to (site_answer r a ∷ formula_rules (bits_at P) e r (from + 1)) nodes (suc i) (omega (arith, l, m))
        ∙ ap u (let z : to + suc i ≡ to + 1 + i = omega arith in z)))))

    assign_alike : (n x : ℕ) (at : Span) (e : Formula) (b : Bool) → reads x e ≡ b → x < length P.vars → IsOfWidth P.vars (var_width P.vars x) e
        → ReadsNoTarget (halved_assign b n x at e) → (r from s to block : ℕ) → HiddenAt n (hidden_of b e) block → v r ≡ u s
        → Values v u block (hidden_assign P b x e from) → Values v u to (own_assign P b x e r from)
        → RulesAlike v u (rules_in (own_assign P b x e r from)) (rules_of Q (halved_assign b n x at e) s to)
    assign_alike n x at e false is declared typed plain r from s to block where_hidden asked stored nodes =
        subst (λ l. RulesAlike v u (rules_in (own_assign P false x e r from)) l) (sym (plain_rules Q x at e is s to))
        (site_alike (var_width P.vars x) e typed (written_at P x) (written_at Q x) (same_puts x declared) r from s to asked nodes)
    assign_alike n x at e true is declared typed plain r from s to block where_hidden asked stored nodes =
        through_alike n x at e declared typed plain r from s to block where_hidden.0 where_hidden.1 asked nodes stored

    -- the ends of branches
    ends_alike : (n : ℕ) (members : Processes) → AreProcesses P.channels P.vars members → EachReadsNoTarget (halved_each n members)
        → (r from to : ℕ) → Values v u to (own_branches P members r from) → Alike v u (branch_ends P members from) (branch_ends Q (halved_each n members) to)
    ends_alike n no_members t plain r from to nodes = tt
    ends_alike n (and_member p more) t plain r from to nodes =
        let element = numbered from (q_rules r (answer_of P p (from + 3)) from) in
        let first = own P p from (from + 3) in
        let later = own_branches P more r (from + 3 + size_of P p) in
        let start = values_left v u to element (first ++ later) nodes in
        let parts = values_right v u to 3 element (first ++ later) refl nodes in (
          values_at v u from to (q_rules r (answer_of P p (from + 3)) from) start 2 (omega arith),
          ends_alike (n + length (hidden_vars p)) more t.1 plain.1 r (from + 3 + size_of P p) (to + 3 + size_of Q (halved n p))
              (values_right v u (to + 3) (size_of Q (halved n p)) first later (own_long n p t.0 plain.0 from (from + 3)) parts),
        )

    -- the guards of a selection, and the answers of its branches
    guards_alike : (n : ℕ) (choices : Choices) → AreChoices P.channels P.vars choices → (r s from to : ℕ) → v r ≡ u s
        → ((i : ℕ) → i < guards_size choices → v (from + i) ≡ u (to + i))
        → RulesAlike v u (guards_rules P choices r from) (guards_rules Q (halved_choices n choices) s to)
    guards_alike n no_choices t r s from to asked same = tt
    guards_alike n (and_choice g p more) t r s from to asked same =
        let k = n + length (hidden_vars p) in
        rules_append v u (formula_rules (bits_at P) g r from) (formula_rules (bits_at Q) g s to) (guards_rules P more r (from + formula_size g))
        (guards_rules Q (halved_choices k more) s (to + formula_size g))
        (expression_alike 1 g t.0 r from s to asked (λ i l. same i (omega (arith, l))))
        (guards_alike k more t.2 r s (from + formula_size g) (to + formula_size g) asked
        (λ i l. ap v (let z : from + formula_size g + i ≡ from + (formula_size g + i) = omega arith in z)
        ∙ (same (formula_size g + i) (omega (arith, l)) ∙ ap u (let z : to + (formula_size g + i) ≡ to + formula_size g + i = omega arith in z))))

    guard_pairs_alike : (n : ℕ) (choices : Choices) → AreChoices P.channels P.vars choices → (from to : ℕ)
        → ((i : ℕ) → i < guards_size choices → v (from + i) ≡ u (to + i))
        → PairsAlike v u (guard_pairs choices from) (guard_pairs (halved_choices n choices) to)
    guard_pairs_alike n no_choices t from to same = tt
    guard_pairs_alike n (and_choice g p more) t from to same =
        let k = n + length (hidden_vars p) in
        let formed = t.0.formed in
        let a = result_length g from formed in
        let b = result_length g to formed in
        pairs_append v u (formula_result g from) (formula_result g to) (guard_pairs more (from + formula_size g))
        (guard_pairs (halved_choices k more) (to + formula_size g))
        (pairs_by_places v u (formula_result g from) (formula_result g to) (a ∙ sym b)
        (λ i one l. results_alike v u P g formed t.0.reads from to (λ j h. same j (omega (arith, h))) i one (omega (arith, l, a))))
        (guard_pairs_alike k more t.2 (from + formula_size g) (to + formula_size g)
        (λ i l. ap v (let z : from + formula_size g + i ≡ from + (formula_size g + i) = omega arith in z)
        ∙ (same (formula_size g + i) (omega (arith, l)) ∙ ap u (let z : to + (formula_size g + i) ≡ to + formula_size g + i = omega arith in z))))

    next_start : (start s count : ℕ) → ((i : ℕ) → i < suc count → v (start + i) ≡ u (s + i)) → (i : ℕ) → i < count → v (start + 1 + i) ≡ u (s + 1 + i)
    next_start start s count starts i l = ap v (let z : start + 1 + i ≡ start + suc i = omega arith in z)
        ∙ (starts (suc i) (omega (arith, l)) ∙ ap u (let z : s + suc i ≡ s + 1 + i = omega arith in z))

    this_start : (start s count : ℕ) → ((i : ℕ) → i < suc count → v (start + i) ≡ u (s + i)) → v start ≡ u s
    this_start start s count starts = ap v (let z : start ≡ start + 0 = omega arith in z) ∙ (starts 0 (omega arith)
        ∙ ap u (let z : s + 0 ≡ s = omega arith in z))

    body_answers_alike : (n : ℕ) (choices : Choices) → AreChoices P.channels P.vars choices → ChoicesReadNoTarget (halved_choices n choices)
        → (start from s to block : ℕ) → HiddenAt n (hidden_in_choices choices) block → ((i : ℕ) → i < choice_count choices → v (start + i) ≡ u (s + i))
        → Values v u block (hidden_bodies P choices from) → Values v u to (own_bodies P choices start from)
        → Alike v u (branch_answers P choices from) (branch_answers Q (halved_choices n choices) to)
    body_answers_alike n no_choices t plain start from s to block where_hidden starts stored nodes = tt
    body_answers_alike n (and_choice g p more) t plain start from s to block where_hidden starts stored nodes =
        let first = own P p start from in
        let later = own_bodies P more (start + 1) (from + size_of P p) in
        let mine = hidden P p from in
        let others = hidden_bodies P more (from + size_of P p) in (
          answers_same n p t.1 plain.0 start from s to block (hidden_at_left n (hidden_vars p) (hidden_in_choices more) block where_hidden)
              (this_start start s (choice_count more) starts) (values_left v u block mine others stored) (values_left v u to first later nodes),
          body_answers_alike (n + length (hidden_vars p)) more t.2 plain.1 (start + 1) (from + size_of P p) (s + 1) (to + size_of Q (halved n p))
              (block + blocks (hidden_vars p)) (hidden_at_right n (hidden_vars p) (hidden_in_choices more) block where_hidden)
              (next_start start s (choice_count more) starts) (values_right v u block (blocks (hidden_vars p)) mine others (hidden_long p t.1 from) stored)
              (values_right v u to (size_of Q (halved n p)) first later (own_long n p t.1 plain.0 start from) nodes),
        )

    -- the nodes of a selection, of which so many stand before its latches
    module _ (n : ℕ) (choices : Choices) (t : AreChoices P.channels P.vars choices) (plain : ChoicesReadNoTarget (halved_choices n choices))
        (o from to block : ℕ) (front : List NodeRules) (long : length front ≡ o + 2 * choice_count choices + guards_size choices)
        (where_hidden : HiddenAt n (hidden_in_choices choices) block) (stored : Values v u block (hidden_bodies P choices (bodies_from choices o from)))
        (nodes : Values v u to (numbered from front ++ own_bodies P choices (from + o + choice_count choices) (bodies_from choices o from))) where
      abbrev bodies : List Numbered
      bodies = own_bodies P choices (from + o + choice_count choices) (bodies_from choices o from)

      abbrev there : Choices
      there = halved_choices n choices

      in_front : (i : ℕ) → i < o + 2 * choice_count choices + guards_size choices → v (from + i) ≡ u (to + i)
      in_front i l = values_at v u from to front (values_left v u to (numbered from front) bodies nodes) i (omega (arith, l, long))

      in_bodies : Values v u (bodies_from there o to) bodies
      in_bodies =
          let c = choices_count n choices in
          let g = guards_same n choices in
          let z : to + (o + 2 * choice_count choices + guards_size choices) ≡ bodies_from there o to = omega (arith, c, g) in
          subst (λ k. Values v u k bodies) z
          (values_right v u to (o + 2 * choice_count choices + guards_size choices) (numbered from front) bodies (length-numbered from front ∙ long) nodes)

      in_guards : (i : ℕ) → i < guards_size choices → v (guards_from choices o from + i) ≡ u (guards_from there o to + i)
      in_guards i l =
          let c = choices_count n choices in
          ap v (let z : guards_from choices o from + i ≡ from + (o + 2 * choice_count choices + i) = omega arith in z)
          ∙ (in_front (o + 2 * choice_count choices + i) (omega (arith, l))
          ∙ ap u (let z : to + (o + 2 * choice_count choices + i) ≡ guards_from there o to + i = omega (arith, c) in z))

      starts_same : (i : ℕ) → i < choice_count choices → v (from + o + choice_count choices + i) ≡ u (to + o + choice_count there + i)
      starts_same i l =
          let c = choices_count n choices in
          ap v (let z : from + o + choice_count choices + i ≡ from + (o + choice_count choices + i) = omega arith in z)
          ∙ (in_front (o + choice_count choices + i) (omega (arith, l))
          ∙ ap u (let z : to + (o + choice_count choices + i) ≡ to + o + choice_count there + i = omega (arith, c) in z))

      choosing_same : (r s any other : ℕ) → v r ≡ u s → v any ≡ u other
          → SameChoosing v u (choosing_at P choices r any o from) (choosing_at Q there s other o to)
      choosing_same r s any other asked high = record {
        request = asked;
        any = high;
        latched = range_alike v u (from + o) (to + o) (choice_count choices) (choice_count there) (sym (choices_count n choices))
            (λ i l. ap v (let z : from + o + i ≡ from + (o + i) = omega arith in z)
            ∙ (in_front (o + i) (omega (arith, l)) ∙ ap u (let z : to + (o + i) ≡ to + o + i = omega arith in z)));
        guards = guard_pairs_alike n choices t (guards_from choices o from) (guards_from there o to) in_guards;
        answers = body_answers_alike n choices t plain (from + o + choice_count choices) (bodies_from choices o from) (to + o + choice_count there)
            (bodies_from there o to) block where_hidden starts_same stored in_bodies;
      }

    -- the rules of statements
    mutual
      pub own_alike : (n : ℕ) (p : Process) → IsProcess P.channels P.vars p → ReadsNoTarget (halved n p) → (r from s to block : ℕ)
          → HiddenAt n (hidden_vars p) block → v r ≡ u s → Values v u block (hidden P p from) → Values v u to (own P p r from)
          → RulesAlike v u (rules_in (own P p r from)) (rules_of Q (halved n p) s to)
      own_alike n skipping t plain r from s to block where_hidden asked stored nodes = (same_high v u r s asked, same_low v u r s asked, tt)
      own_alike n (assigning x at e) t plain r from s to block where_hidden asked stored nodes =
          assign_alike n x at e (reads x e) refl t.0 t.1 plain r from s to block where_hidden asked stored nodes
      own_alike n (sending chan at e) t plain r from s to block where_hidden asked stored nodes =
          site_alike (channel_width P.channels chan) e t.sent (ack_at P chan) (ack_at Q chan) (same_ack chan t.within) r from s to asked nodes
      own_alike n (receiving chan at x into) t plain r from s to block where_hidden asked stored nodes =
          let rails = pairs_from (channel_width P.channels chan) (channel_from P chan) in
          as_numbered from (rules_of P (receiving chan at x into) r from) (rules_of Q (receiving chan at x into) s to)
          (answers_alike v u r (ack_at P chan) s (ack_at Q chan) (write_answer r (written_at P x) ∷ port_rules r rails)
          (write_answer s (written_at Q x) ∷ port_rules s rails) asked (same_ack chan t.within)
          (answers_alike v u r (written_at P x) s (written_at Q x) (port_rules r rails) (port_rules s rails) asked (same_puts x t.target)
          (ports_alike v u (channel_width P.channels chan) (channel_from P chan) r s asked (λ i one l. same_rail chan i one t.within l))))
      own_alike n (in_turn members) t plain r from s to block where_hidden asked stored nodes =
          turn_alike n members t.1 plain r from s to block where_hidden asked stored nodes
      own_alike n (side_by_side members) t plain r from s to block where_hidden asked stored nodes =
          let here = own_branches P members r from in
          let tree = tree_rules (branch_ends P members from) (branches_end P members from) in
          let there = tree_rules (branch_ends Q (halved_each n members) to) (branches_end Q (halved_each n members) to) in
          let first = values_left v u to here (numbered (from + branches_size P members) tree) nodes in
          let rest = values_right v u to (branches_size Q (halved_each n members)) here (numbered (from + branches_size P members) tree)
          (own_branches_long n members t.1 plain r from) nodes in
          let a = tree_length (branch_ends P members from) (branches_end P members from) in
          let b = tree_length (branch_ends Q (halved_each n members) to) (branches_end Q (halved_each n members) to) in
          let c = length-branch_ends P members from in
          let d = length-branch_ends Q (halved_each n members) to in
          let same = each_count n members in
          joined here (numbered (from + branches_size P members) tree) (branches_rules Q (halved_each n members) s to) there
          (branches_alike n members t.1 plain r from s to block where_hidden asked stored first)
          (as_numbered (from + branches_size P members) tree there
          (tree_rules_alike v u (branch_ends P members from) (branch_ends Q (halved_each n members) to) (branches_end P members from)
          (branches_end Q (halved_each n members) to) (ends_alike n members t.1 plain r from to first)
          (λ j l. ap v (let z : branches_end P members from + j ≡ from + branches_size P members + j = omega (arith, branches_end_is P members from) in z)
          ∙ (values_at v u (from + branches_size P members) (to + branches_size Q (halved_each n members)) tree rest j (omega (arith, l, a, b, c, d, same))
          ∙ ap u (let z : to + branches_size Q (halved_each n members) + j ≡ branches_end Q (halved_each n members) to + j = omega
          (arith, branches_end_is Q (halved_each n members) to) in z)))))
      own_alike n (repeating p) t plain r from s to block where_hidden asked stored nodes =
          let first = no_rules ∷ loop_request r (answer_of P p (from + 2)) ∷ [] in
          let inner = own P p (from + 1) (from + 2) in
          let start = values_left v u to (numbered from first) inner nodes in
          let body = values_right v u to 2 (numbered from first) inner refl nodes in
          let one = values_at v u from to first start 1 (omega arith) in
          let d = answers_same n p t plain (from + 1) (from + 2) (to + 1) (to + 2) block where_hidden one stored body in
          joined (numbered from first) inner (no_rules ∷ loop_request s (answer_of Q (halved n p) (to + 2)) ∷ []) (rules_of Q (halved n p) (to + 1) (to + 2)) (
            refl,
            refl,
            (
              same_mixed v u r (answer_of P p (from + 2)) s (answer_of Q (halved n p) (to + 2)) asked d,
              same_high v u (answer_of P p (from + 2)) (answer_of Q (halved n p) (to + 2)) d,
              tt,
            ),
          )
          (own_alike n p t plain (from + 1) (from + 2) (to + 1) (to + 2) block where_hidden one stored body)
      own_alike n (choosing false choices) t plain r from s to block where_hidden asked stored nodes =
          let more = halved_choices n choices in
          let front = select_front P choices r from in
          let long = select_long counted P choices t r from in
          let any = in_front n choices t.2 plain select_own from to block front long where_hidden stored nodes 2 (omega arith) in
          let eval = in_front n choices t.2 plain select_own from to block front long where_hidden stored nodes 1 (omega arith) in
          let guards = guards_rules Q more (to + 1) (guards_from more select_own to) in
          let select = select_rules (choosing_at Q more s (to + 2) select_own to) in
          let rest = bodies_rules Q more (to + select_own + choice_count more) (bodies_from more select_own to) in
          subst (λ l. RulesAlike v u (rules_in (numbered from front ++ own_bodies P choices (from + select_own + choice_count choices)
          (bodies_from choices select_own from))) l)
          (append_assoc select guards rest)
          (joined (numbered from front) (own_bodies P choices (from + select_own + choice_count choices) (bodies_from choices select_own from)) (select
          ++ guards) rest
          (as_numbered from front (select ++ guards)
          (rules_append v u (select_rules (choosing_at P choices r (from + 2) select_own from)) select
          (guards_rules P choices (from + 1) (guards_from choices select_own from)) guards
          (selects_alike v u (choosing_at P choices r (from + 2) select_own from) (choosing_at Q more s (to + 2) select_own to)
          (choosing_same n choices t.2 plain select_own from to block front long where_hidden stored nodes r s (from + 2) (to + 2) asked any))
          (guards_alike n choices t.2 (from + 1) (to + 1) (guards_from choices select_own from) (guards_from more select_own to) eval
          (in_guards n choices t.2 plain select_own from to block front long where_hidden stored nodes))))
          (bodies_alike n choices t.2 plain (from + select_own + choice_count choices) (bodies_from choices select_own from)
          (to + select_own + choice_count more)
          (bodies_from more select_own to) block where_hidden
          (starts_same n choices t.2 plain select_own from to block front long where_hidden stored nodes) stored
          (in_bodies n choices t.2 plain select_own from to block front long where_hidden stored nodes)))
      own_alike n (choosing true choices) t plain r from s to block where_hidden asked stored nodes =
          let more = halved_choices n choices in
          let front = again_front P choices r from in
          let long = again_long counted P choices t r from in
          let one = in_front n choices t.2 plain again_own from to block front long where_hidden stored nodes in
          let guards = guards_rules Q more (to + 3) (guards_from more again_own to) in
          let again = again_rules (repeating_at Q more s to) in
          let rest = bodies_rules Q more (to + again_own + choice_count more) (bodies_from more again_own to) in
          subst (λ l. RulesAlike v u (rules_in (numbered from front ++ own_bodies P choices (from + again_own + choice_count choices)
          (bodies_from choices again_own from))) l)
          (append_assoc again guards rest)
          (joined (numbered from front) (own_bodies P choices (from + again_own + choice_count choices) (bodies_from choices again_own from)) (again ++ guards)
          rest
          (as_numbered from front (again ++ guards)
          (rules_append v u (again_rules (repeating_at P choices r from)) again
          (guards_rules P choices (from + 3) (guards_from choices again_own from)) guards
          (agains_alike v u (repeating_at P choices r from) (repeating_at Q more s to) asked (one 2 (omega arith)) (one 5 (omega arith))
          (choosing_same n choices t.2 plain again_own from to block front long where_hidden stored nodes (from + 1) (to + 1) (from + 4) (to + 4)
          (one 1 (omega arith)) (one 4 (omega arith))))
          (guards_alike n choices t.2 (from + 3) (to + 3) (guards_from choices again_own from) (guards_from more again_own to) (one 3 (omega arith))
          (in_guards n choices t.2 plain again_own from to block front long where_hidden stored nodes))))
          (bodies_alike n choices t.2 plain (from + again_own + choice_count choices) (bodies_from choices again_own from) (to + again_own + choice_count more)
          (bodies_from more again_own to) block where_hidden
          (starts_same n choices t.2 plain again_own from to block front long where_hidden stored nodes) stored
          (in_bodies n choices t.2 plain again_own from to block front long where_hidden stored nodes)))

      turn_alike : (n : ℕ) (members : Processes) → AreProcesses P.channels P.vars members → EachReadsNoTarget (halved_each n members)
          → (r from s to block : ℕ) → HiddenAt n (hidden_in_each members) block → v r ≡ u s → Values v u block (hidden_turn P members from)
          → Values v u to (own_turn P members r from) → RulesAlike v u (rules_in (own_turn P members r from)) (turn_rules Q (halved_each n members) s to)
      turn_alike n no_members t plain r from s to block where_hidden asked stored nodes = tt
      turn_alike n (and_member p no_members) t plain r from s to block where_hidden asked stored nodes =
          own_alike n p t.0 plain.0 r from s to block (hidden_at_left n (hidden_vars p) [] block where_hidden) asked stored nodes
      turn_alike n (and_member p (and_member q more)) t plain r from s to block where_hidden asked stored nodes =
          let k = n + length (hidden_vars p) in
          let rules = q_rules r (answer_of P p (from + 3)) from in
          let element = numbered from rules in
          let first = own P p from (from + 3) in
          let later = own_turn P (and_member q more) (from + 2) (from + 3 + size_of P p) in
          let start = values_left v u to element (first ++ later) nodes in
          let parts = values_right v u to 3 element (first ++ later) refl nodes in
          let mine = values_left v u (to + 3) first later parts in
          let others = values_right v u (to + 3) (size_of Q (halved n p)) first later (own_long n p t.0 plain.0 from (from + 3)) parts in
          let at_mine = hidden_at_left n (hidden_vars p) (hidden_in_each (and_member q more)) block where_hidden in
          let at_others = hidden_at_right n (hidden_vars p) (hidden_in_each (and_member q more)) block where_hidden in
          let my_blocks = values_left v u block (hidden P p (from + 3)) (hidden_turn P (and_member q more) (from + 3 + size_of P p)) stored in
          let other_blocks = values_right v u block (blocks (hidden_vars p)) (hidden P p (from + 3))
          (hidden_turn P (and_member q more) (from + 3 + size_of P p))
          (hidden_long p t.0 (from + 3)) stored in
          let child : v from ≡ u to = start.0 in
          let d = answers_same n p t.0 plain.0 from (from + 3) to (to + 3) block at_mine child my_blocks mine in
          joined element (first ++ later) (q_rules s (answer_of Q (halved n p) (to + 3)) to)
          (rules_of Q (halved n p) to (to + 3) ++ turn_rules Q (halved_each k (and_member q more)) (to + 2) (to + 3 + size_of Q (halved n p)))
          (as_numbered from rules (q_rules s (answer_of Q (halved n p) (to + 3)) to)
          (elements_alike v u r (answer_of P p (from + 3)) from s (answer_of Q (halved n p) (to + 3)) to asked d
          (values_at v u from to rules start 1 (omega arith))))
          (joined first later (rules_of Q (halved n p) to (to + 3))
          (turn_rules Q (halved_each k (and_member q more)) (to + 2) (to + 3 + size_of Q (halved n p)))
          (own_alike n p t.0 plain.0 from (from + 3) to (to + 3) block at_mine child my_blocks mine)
          (turn_alike k (and_member q more) t.1 plain.1 (from + 2) (from + 3 + size_of P p) (to + 2) (to + 3 + size_of Q (halved n p))
          (block + blocks (hidden_vars p)) at_others (values_at v u from to rules start 2 (omega arith)) other_blocks others))

      branches_alike : (n : ℕ) (members : Processes) → AreProcesses P.channels P.vars members → EachReadsNoTarget (halved_each n members)
          → (r from s to block : ℕ) → HiddenAt n (hidden_in_each members) block → v r ≡ u s → Values v u block (hidden_branches P members from)
          → Values v u to (own_branches P members r from)
          → RulesAlike v u (rules_in (own_branches P members r from)) (branches_rules Q (halved_each n members) s to)
      branches_alike n no_members t plain r from s to block where_hidden asked stored nodes = tt
      branches_alike n (and_member p more) t plain r from s to block where_hidden asked stored nodes =
          let k = n + length (hidden_vars p) in
          let rules = q_rules r (answer_of P p (from + 3)) from in
          let element = numbered from rules in
          let first = own P p from (from + 3) in
          let later = own_branches P more r (from + 3 + size_of P p) in
          let start = values_left v u to element (first ++ later) nodes in
          let parts = values_right v u to 3 element (first ++ later) refl nodes in
          let mine = values_left v u (to + 3) first later parts in
          let others = values_right v u (to + 3) (size_of Q (halved n p)) first later (own_long n p t.0 plain.0 from (from + 3)) parts in
          let at_mine = hidden_at_left n (hidden_vars p) (hidden_in_each more) block where_hidden in
          let at_others = hidden_at_right n (hidden_vars p) (hidden_in_each more) block where_hidden in
          let my_blocks = values_left v u block (hidden P p (from + 3)) (hidden_branches P more (from + 3 + size_of P p)) stored in
          let other_blocks = values_right v u block (blocks (hidden_vars p)) (hidden P p (from + 3)) (hidden_branches P more (from + 3 + size_of P p))
          (hidden_long p t.0 (from + 3)) stored in
          let child : v from ≡ u to = start.0 in
          let d = answers_same n p t.0 plain.0 from (from + 3) to (to + 3) block at_mine child my_blocks mine in
          joined element (first ++ later) (q_rules s (answer_of Q (halved n p) (to + 3)) to)
          (rules_of Q (halved n p) to (to + 3) ++ branches_rules Q (halved_each k more) s (to + 3 + size_of Q (halved n p)))
          (as_numbered from rules (q_rules s (answer_of Q (halved n p) (to + 3)) to)
          (elements_alike v u r (answer_of P p (from + 3)) from s (answer_of Q (halved n p) (to + 3)) to asked d
          (values_at v u from to rules start 1 (omega arith))))
          (joined first later (rules_of Q (halved n p) to (to + 3)) (branches_rules Q (halved_each k more) s (to + 3 + size_of Q (halved n p)))
          (own_alike n p t.0 plain.0 from (from + 3) to (to + 3) block at_mine child my_blocks mine)
          (branches_alike k more t.1 plain.1 r (from + 3 + size_of P p) s (to + 3 + size_of Q (halved n p))
          (block + blocks (hidden_vars p)) at_others asked other_blocks others))

      bodies_alike : (n : ℕ) (choices : Choices) → AreChoices P.channels P.vars choices → ChoicesReadNoTarget (halved_choices n choices)
          → (start from s to block : ℕ) → HiddenAt n (hidden_in_choices choices) block → ((i : ℕ) → i < choice_count choices → v (start + i) ≡ u (s + i))
          → Values v u block (hidden_bodies P choices from) → Values v u to (own_bodies P choices start from)
          → RulesAlike v u (rules_in (own_bodies P choices start from)) (bodies_rules Q (halved_choices n choices) s to)
      bodies_alike n no_choices t plain start from s to block where_hidden starts stored nodes = tt
      bodies_alike n (and_choice g p more) t plain start from s to block where_hidden starts stored nodes =
          let k = n + length (hidden_vars p) in
          let first = own P p start from in
          let later = own_bodies P more (start + 1) (from + size_of P p) in
          let mine = hidden P p from in
          let others = hidden_bodies P more (from + size_of P p) in
          joined first later (rules_of Q (halved n p) s to) (bodies_rules Q (halved_choices k more) (s + 1) (to + size_of Q (halved n p)))
          (own_alike n p t.1 plain.0 start from s to block (hidden_at_left n (hidden_vars p) (hidden_in_choices more) block where_hidden)
          (this_start start s (choice_count more) starts) (values_left v u block mine others stored) (values_left v u to first later nodes))
          (bodies_alike k more t.2 plain.1 (start + 1) (from + size_of P p) (s + 1) (to + size_of Q (halved n p)) (block + blocks (hidden_vars p))
          (hidden_at_right n (hidden_vars p) (hidden_in_choices more) block where_hidden) (next_start start s (choice_count more) starts)
          (values_right v u block (blocks (hidden_vars p)) mine others (hidden_long p t.1 from) stored)
          (values_right v u to (size_of Q (halved n p)) first later (own_long n p t.1 plain.0 start from) nodes))
