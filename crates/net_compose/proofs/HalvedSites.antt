-- Where the nodes of two nets have the same values as in HalvedAlike, so have the sites of each channel and of each declared
-- variable; and a hidden variable has one site, the expression of its assignment.
use Rattle.std.proofs.Common.{◌≡◌, ℕ, zero, suc, ◌+◌, ◌-◌, ◌*◌, ◌<◌, ◌≤◌, ◌==◌, Bool, true, false, List, [], ◌∷◌, ◌++◌, map, length, refl, subst, sym, ap, ◌∙◌, arith, length-append}
use Rattle.std.specs.Prelude.{if◌then◌else◌}
use Rattle.std.proofs.lemmas.Bool.{eqb-true, ne_eqb}
use Rattle.prs_core.specs.Nets.{NodeRules}
use Rattle.prs_core.specs.Pairs.{Pair, pairs_from, no_rules}
use Rattle.cell_sequence.specs.Sequence.{loop_request}
use Rattle.cell_channel.specs.Ends.{port_rules}
use Rattle.cell_parallel.specs.Trees.{tree_rules}
use Rattle.prs_core.specs.Sites.{site_answer}
use Rattle.chp_base.specs.declared.span.Span.{Span}
use Rattle.width_check.specs.Processes.{Formula, Process, skipping, assigning, sending, receiving, in_turn, side_by_side, choosing, repeating, Processes, no_members, and_member, TypedProgram, Choices, no_choices, and_choice, choice_count}
use Rattle.width_check.specs.Reads.{reads}
use Rattle.width_check.specs.Values.{width_of}
use Rattle.width_check.proofs.Bounds.{width_some}
use Rattle.width_check.specs.Typing.{channel_width, var_width, IsOfWidth, IsProcess, AreProcesses, AreChoices}
use Rattle.handshake_expand.specs.Layout.{formula_size, block_size, size_of, branches_size, channel_from, through_size, guards_size}
use Rattle.handshake_expand.specs.Answers.{answer_of, bodies_from, select_own, again_own}
use Rattle.function_blocks.specs.Expressions.{read_bits, formula_rules, formula_result}
use Rattle.function_blocks.specs.Listed.{rail_place}
use Rattle.function_blocks.proofs.Sizes.{rules_length}
use Rattle.circuit_places.specs.Lines.{Line, of_channel, of_var, line_width}
use Rattle.chp_meaning.specs.Halves.{hidden_vars, read_through, in_halves, halved_assign, halved, halved_each, halved_program, ReadsNoTarget, EachReadsNoTarget, halved_choices, ChoicesReadNoTarget}
use Rattle.net_compose.proofs.HalvedNumbers.{choices_count, guards_same}
use Rattle.handshake_expand.specs.Sites.{sites_in, sites_in_turn, sites_in_branches, Sites, sites_in_bodies}
use Rattle.net_compose.specs.Translation.{bits_at, q_rules, branch_ends, branches_end, block_bits, ack_at, rules_of, receive_site, assigned_rails, through_at}
use Rattle.net_compose.specs.Translation as net
use Rattle.net_compose.proofs.Sizes.{Counted, block_length, has_bits}
use Rattle.net_compose.proofs.FlatSites.{at_sites, at_append, mapped_append, line_site, pair_place}
use Rattle.net_compose.proofs.FlatCells.{rail_place_lt}
use Rattle.net_compose.proofs.HalvedNodes.{numbered, own, own_turn, own_branches, own_assign, behind_block, length-numbered, own_bodies, select_front, again_front, select_long, again_long}
use Rattle.net_compose.proofs.SameValues.{results_alike}
use Rattle.net_compose.proofs.HalvedAlike.{Values, values_left, values_right, values_at, own_long}

-- a line of the program: a channel, or a declared variable
abbrev pub IsLine : TypedProgram → Line → Type 0
IsLine P (of_channel k) = Unit {0}
IsLine P (of_var z) = z < length P.vars

module _ (counted : Counted) (P : TypedProgram) where
  abbrev Q : TypedProgram
  Q = halved_program P

  -- how many nodes the halves have behind the Q-element before the second answer
  pub behind_long : (x : ℕ) (e : Formula) → IsOfWidth P.vars (var_width P.vars x) e → (r from : ℕ)
      → length (behind_block P x e r from) ≡ 3 + (1 + formula_size e) + (1 + 2 * var_width P.vars x)
  behind_long x e typed r from =
      let element = from + block_size (var_width P.vars x) in
      let a = rules_length P.vars (bits_at P) (has_bits P) e element (element + 3 + 1) typed.formed typed.reads in
      let b = length-append (formula_rules (bits_at P) e element (element + 3 + 1)) (site_answer (element + 2) (net.written_at P x) ∷ read_bits (element + 2)
      (block_bits (var_width P.vars x) from)) in
      let c = reads_long (element + 2) (block_bits (var_width P.vars x) from) in
      let d = block_length (var_width P.vars x) from in
      omega (arith, a, b, c, d)
    where
      reads_long : (r : ℕ) (ps : List Pair) → length (read_bits r ps) ≡ 2 * length ps
      reads_long r [] = refl
      reads_long r (p ∷ ps) = let e = reads_long r ps in omega (arith, e)

  module _ (v u : ℕ → Bool) (i : ℕ) (one : Bool) where
    -- the rails of an expression
    pub result_here : (w : ℕ) (e : Formula) → IsOfWidth P.vars w e → i < w → (from to : ℕ) → ((j : ℕ) → j < formula_size e → v (from + j) ≡ u (to + j))
        → at_sites v i one (formula_result e from ∷ []) ≡ at_sites u i one (formula_result e to ∷ [])
    result_here w e t h from to same =
        let z = t.agrees in
        ap (λ b. b ∷ []) (results_alike v u P e t.formed t.reads from to same i one (omega (arith, h, z)))

    send_alike : (line : Line) → i < line_width P line → (chan : ℕ) (at : Span) (e : Formula) → IsOfWidth P.vars (channel_width P.channels chan) e →
        (from to : ℕ)
        → ((j : ℕ) → j < formula_size e → v (from + 1 + j) ≡ u (to + 1 + j))
        → at_sites v i one (line_site P line (sending chan at e) from) ≡ at_sites u i one (line_site Q line (sending chan at e) to)
    send_alike (of_var z) h chan at e t from to same = refl
    send_alike (of_channel c) h chan at e t from to same = by (chan == c) refl
      where
        by : (b : Bool) → (chan == c) ≡ b → at_sites v i one (if b then formula_result e (from + 1) ∷ [] else []) ≡ at_sites u i one
            (if b then formula_result e (to + 1) ∷ [] else [])
        by false q = refl
        by true q =
            let wide : channel_width P.channels chan ≡ channel_width P.channels c = ap (channel_width P.channels) (eqb-true chan c q) in
            result_here (channel_width P.channels chan) e t (omega (arith, wide, h)) (from + 1) (to + 1) same

    port_alike : (line : Line) → i < line_width P line → (chan x : ℕ) (at into : Span) → var_width P.vars x ≡ channel_width P.channels chan → (from to : ℕ)
        → ((j : ℕ) → j < 2 * channel_width P.channels chan → v (from + 2 + j) ≡ u (to + 2 + j))
        → at_sites v i one (line_site P line (receiving chan at x into) from) ≡ at_sites u i one (line_site Q line (receiving chan at x into) to)
    port_alike (of_channel c) h chan x at into widths from to same = refl
    port_alike (of_var z) h chan x at into widths from to same = by (x == z) refl
      where
        by : (b : Bool) → (x == z) ≡ b → at_sites v i one (if b then pairs_from (channel_width P.channels chan) (from + 2) ∷ [] else []) ≡ at_sites u i one
            (if b then pairs_from (channel_width P.channels chan) (to + 2) ∷ [] else [])
        by false q = refl
        by true q =
            let wide : var_width P.vars x ≡ var_width P.vars z = ap (var_width P.vars) (eqb-true x z q) in
            let less : i < channel_width P.channels chan = omega (arith, wide, widths, h) in
            ap (λ b. b ∷ [])
            (ap v (pair_place (channel_width P.channels chan) (from + 2) i one less)
            ∙ (same (rail_place i one) (rail_place_lt i (channel_width P.channels chan) one less)
            ∙ ap u (sym (pair_place (channel_width P.channels chan) (to + 2) i one less))))

    -- an assignment that doesn't read its target
    plain_alike : (line : Line) → i < line_width P line → (x : ℕ) (at : Span) (e : Formula) → reads x e ≡ false → IsOfWidth P.vars (var_width P.vars x) e
        → (from to : ℕ) → ((j : ℕ) → j < formula_size e → v (from + 1 + j) ≡ u (to + 1 + j))
        → at_sites v i one (line_site P line (assigning x at e) from) ≡ at_sites u i one (line_site Q line (assigning x at e) to)
    plain_alike (of_channel c) h x at e none t from to same = refl
    plain_alike (of_var z) h x at e none t from to same = by (x == z) refl
      where
        by : (b : Bool) → (x == z) ≡ b → at_sites v i one (if b then assigned_rails P z e from ∷ [] else []) ≡ at_sites u i one
            (if b then assigned_rails Q z e to ∷ [] else [])
        by false q = refl
        by true q =
            let wide : var_width P.vars x ≡ var_width P.vars z = ap (var_width P.vars) (eqb-true x z q) in
            let other : reads z e ≡ false = ap (λ n. reads n e) (sym (eqb-true x z q)) ∙ none in
            ap (λ b. at_sites v i one ((if b then net.read_back (through_at (var_width P.vars z) (formula_size e) from) else formula_result e (from + 1)) ∷ []))
            other
            ∙ (result_here (var_width P.vars x) e t (omega (arith, wide, h)) (from + 1) (to + 1) same
            ∙ ap (λ b. at_sites u i one ((if b then net.read_back (through_at (var_width Q.vars z) (formula_size e) to) else formula_result e (to + 1)) ∷ []))
            (sym other))

    -- and one that does
    halves_alike : (line : Line) → IsLine P line → i < line_width P line → (n x : ℕ) (at : Span) (e : Formula) → length P.vars ≤ n → reads x e ≡ true
        → IsOfWidth P.vars (var_width P.vars x) e → ReadsNoTarget (in_halves n x at e) → (r from to : ℕ)
        → Values v u to (numbered (from + block_size (var_width P.vars x)) (behind_block P x e r from))
        → at_sites v i one (line_site P line (assigning x at e) from) ≡ at_sites u i one (sites_in Q (line_site Q line) (in_halves n x at e) to)
    halves_alike (of_channel c) d h n x at e above is t plain r from to nodes = refl
    halves_alike (of_var z) d h n x at e above is t plain r from to nodes =
        by (x == z) refl
        ∙ ap (λ (b : Bool). at_sites u i one ((if b then assigned_rails Q z e (to + 3) ∷ [] else [])
        ++ (if x == z then assigned_rails Q z (read_through n e at) (to + 3 + size_of Q (assigning n at e)) ∷ [] else [])))
        (sym (ne_eqb n z (λ q. absurd (let g : ⊥ = omega (arith, q, above, d) in g))))
      where
        by : (b : Bool) → (x == z) ≡ b → at_sites v i one (if b then assigned_rails P z e from ∷ [] else []) ≡ at_sites u i one
            (if b then assigned_rails Q z (read_through n e at) (to + 3 + size_of Q (assigning n at e)) ∷ [] else [])
        by false q = refl
        by true q =
            let same = eqb-true x z q in
            let wide : var_width P.vars x ≡ var_width P.vars z = ap (var_width P.vars) same in
            let agrees = t.agrees in
            let least = width_some e t.formed in
            let long = behind_long x e t r from in
            let size : size_of Q (assigning n at e) ≡ 1 + formula_size e = ap
            (λ (b : Bool). if b then through_size (var_width Q.vars n) e else 1 + formula_size e) plain.0 in
            let count : width_of e - 1 + 1 - 0 ≡ var_width P.vars z = omega (arith, agrees, least, wide) in
            let there = to + 3 + size_of Q (assigning n at e) in
            let mine = rail_place_lt i (var_width P.vars z) one h in
            let element = from + block_size (var_width P.vars x) in
            let value = values_at v u element to (behind_block P x e r from) nodes (5 + formula_size e + rail_place i one) (omega (arith, mine, long, wide)) in
            ap (λ (b : Bool). at_sites v i one ((if b then net.read_back (through_at (var_width P.vars z) (formula_size e) from) else formula_result e
            (from + 1)) ∷ [])) (ap (λ n. reads n e) (sym same) ∙ is)
            ∙ (ap (λ b. b ∷ [])
            (ap v (pair_place (var_width P.vars z) (from + block_size (var_width P.vars z) + 4 + formula_size e + 1) i one h
            ∙ (let g : from + block_size (var_width P.vars z) + 4 + formula_size e + 1 + rail_place i one ≡ element
            + (5 + formula_size e + rail_place i one) = omega (arith, wide) in g))
            ∙ (value
            ∙ ap u ((let g : to + (5 + formula_size e + rail_place i one) ≡ there + 1 + rail_place i one = omega (arith, size) in g)
            ∙ sym (pair_place (width_of e - 1 + 1 - 0) (there + 1) i one (omega (arith, count, h))))))
            ∙ ap (λ (b : Bool). at_sites u i one ((if b then net.read_back (through_at (var_width Q.vars z) (formula_size (read_through n e at)) there) else
            formula_result (read_through n e at) (there + 1)) ∷ [])) (sym (ap (λ m. reads m (read_through n e at)) (sym same) ∙ plain.1.0)))

  -- the branches of a selection stand behind its own nodes and its guards
  pub in_branches : {A : Type 0} (v u : ℕ → A) (n : ℕ) (choices : Choices) (o from to : ℕ) (front : List NodeRules)
      → length front ≡ o + 2 * choice_count choices + guards_size choices
      → Values v u to (numbered from front ++ own_bodies P choices (from + o + choice_count choices) (bodies_from choices o from))
      → Values v u (bodies_from (halved_choices n choices) o to) (own_bodies P choices (from + o + choice_count choices) (bodies_from choices o from))
  in_branches v u n choices o from to front long nodes =
      let bodies = own_bodies P choices (from + o + choice_count choices) (bodies_from choices o from) in
      let c = choices_count n choices in
      let g = guards_same n choices in
      let z : to + (o + 2 * choice_count choices + guards_size choices) ≡ bodies_from (halved_choices n choices) o to = omega (arith, c, g) in
      subst (λ k. Values v u k bodies) z
      (values_right v u to (o + 2 * choice_count choices + guards_size choices) (numbered from front) bodies (length-numbered from front ∙ long) nodes)

  -- a statement that isn't made of others
  abbrev IsLeaf : Process → Type 0
  IsLeaf (in_turn members) = ⊥
  IsLeaf (side_by_side members) = ⊥
  IsLeaf (repeating p) = ⊥
  IsLeaf (choosing again choices) = ⊥
  IsLeaf _ = Unit {0}

  -- what holds of the sites of these holds of those of all
  module _ (v u : ℕ → Bool) {A : Type 0} (a b : List A → List Bool) (a_append : (xs ys : List A) → a (xs ++ ys) ≡ a xs ++ a ys)
      (b_append : (xs ys : List A) → b (xs ++ ys) ≡ b xs ++ b ys) (none : a [] ≡ b []) (here there : Sites A)
      (leaf : (n : ℕ) (p : Process) → IsLeaf p → IsProcess P.channels P.vars p → ReadsNoTarget (halved n p) → length P.vars ≤ n → (r from to : ℕ)
      → Values v u to (own P p r from) → a (sites_in P here p from) ≡ b (sites_in Q there (halved n p) to)) where
    two : (xs ys zs ws : List A) → a xs ≡ b zs → a ys ≡ b ws → a (xs ++ ys) ≡ b (zs ++ ws)
    two xs ys zs ws e f = a_append xs ys ∙ (ap (λ l. l ++ a ys) e ∙ (ap (λ l. b zs ++ l) f ∙ sym (b_append zs ws)))

    mutual
      pub sites_same : (n : ℕ) (p : Process) → IsProcess P.channels P.vars p → ReadsNoTarget (halved n p) → length P.vars ≤ n
          → (r from to : ℕ) → Values v u to (own P p r from) → a (sites_in P here p from) ≡ b (sites_in Q there (halved n p) to)
      sites_same n skipping t plain above r from to nodes = leaf n skipping tt t plain above r from to nodes
      sites_same n (assigning x at e) t plain above r from to nodes = leaf n (assigning x at e) tt t plain above r from to nodes
      sites_same n (sending chan at e) t plain above r from to nodes = leaf n (sending chan at e) tt t plain above r from to nodes
      sites_same n (receiving chan at x into) t plain above r from to nodes = leaf n (receiving chan at x into) tt t plain above r from to nodes
      sites_same n (in_turn members) t plain above r from to nodes = turn_sites_same n members t.1 plain above r from to nodes
      sites_same n (side_by_side members) t plain above r from to nodes =
          branch_sites_same n members t.1 plain above r from to
          (values_left v u to (own_branches P members r from) (numbered (from + branches_size P members)
          (tree_rules (branch_ends P members from) (branches_end P members from))) nodes)
      sites_same n (repeating p) t plain above r from to nodes =
          sites_same n p t plain above (from + 1) (from + 2) (to + 2)
          (values_right v u to 2 (numbered from (no_rules ∷ loop_request r (answer_of P p (from + 2)) ∷ [])) (own P p (from + 1) (from + 2)) refl nodes)
      sites_same n (choosing false choices) t plain above r from to nodes =
          body_sites_same n choices t.2 plain above (from + select_own + choice_count choices) (bodies_from choices select_own from)
          (bodies_from (halved_choices n choices) select_own to)
          (in_branches v u n choices select_own from to (select_front P choices r from) (select_long counted P choices t r from) nodes)
      sites_same n (choosing true choices) t plain above r from to nodes =
          body_sites_same n choices t.2 plain above (from + again_own + choice_count choices) (bodies_from choices again_own from)
          (bodies_from (halved_choices n choices) again_own to)
          (in_branches v u n choices again_own from to (again_front P choices r from) (again_long counted P choices t r from) nodes)

      turn_sites_same : (n : ℕ) (members : Processes) → AreProcesses P.channels P.vars members
          → EachReadsNoTarget (halved_each n members) → length P.vars ≤ n → (r from to : ℕ) → Values v u to (own_turn P members r from)
          → a (sites_in_turn P here members from) ≡ b (sites_in_turn Q there (halved_each n members) to)
      turn_sites_same n no_members t plain above r from to nodes = none
      turn_sites_same n (and_member p no_members) t plain above r from to nodes = sites_same n p t.0 plain.0 above r from to nodes
      turn_sites_same n (and_member p (and_member q more)) t plain above r from to nodes =
          let k = n + length (hidden_vars p) in
          let element = numbered from (q_rules r (answer_of P p (from + 3)) from) in
          let first = own P p from (from + 3) in
          let later = own_turn P (and_member q more) (from + 2) (from + 3 + size_of P p) in
          let parts = values_right v u to 3 element (first ++ later) refl nodes in
          two (sites_in P here p (from + 3)) (sites_in_turn P here (and_member q more) (from + 3 + size_of P p)) (sites_in Q there (halved n p) (to + 3))
          (sites_in_turn Q there (halved_each k (and_member q more)) (to + 3 + size_of Q (halved n p)))
          (sites_same n p t.0 plain.0 above from (from + 3) (to + 3) (values_left v u (to + 3) first later parts))
          (turn_sites_same k (and_member q more) t.1 plain.1 (omega (arith, above)) (from + 2) (from + 3 + size_of P p) (to + 3 + size_of Q (halved n p))
          (values_right v u (to + 3) (size_of Q (halved n p)) first later (own_long counted P n p t.0 plain.0 from (from + 3)) parts))

      branch_sites_same : (n : ℕ) (members : Processes) → AreProcesses P.channels P.vars members
          → EachReadsNoTarget (halved_each n members) → length P.vars ≤ n → (r from to : ℕ) → Values v u to (own_branches P members r from)
          → a (sites_in_branches P here members from) ≡ b (sites_in_branches Q there (halved_each n members) to)
      branch_sites_same n no_members t plain above r from to nodes = none
      branch_sites_same n (and_member p more) t plain above r from to nodes =
          let k = n + length (hidden_vars p) in
          let element = numbered from (q_rules r (answer_of P p (from + 3)) from) in
          let first = own P p from (from + 3) in
          let later = own_branches P more r (from + 3 + size_of P p) in
          let parts = values_right v u to 3 element (first ++ later) refl nodes in
          two (sites_in P here p (from + 3)) (sites_in_branches P here more (from + 3 + size_of P p)) (sites_in Q there (halved n p) (to + 3))
          (sites_in_branches Q there (halved_each k more) (to + 3 + size_of Q (halved n p)))
          (sites_same n p t.0 plain.0 above from (from + 3) (to + 3) (values_left v u (to + 3) first later parts))
          (branch_sites_same k more t.1 plain.1 (omega (arith, above)) r (from + 3 + size_of P p) (to + 3 + size_of Q (halved n p))
          (values_right v u (to + 3) (size_of Q (halved n p)) first later (own_long counted P n p t.0 plain.0 from (from + 3)) parts))

      body_sites_same : (n : ℕ) (choices : Choices) → AreChoices P.channels P.vars choices → ChoicesReadNoTarget (halved_choices n choices)
          → length P.vars ≤ n → (start from to : ℕ) → Values v u to (own_bodies P choices start from)
          → a (sites_in_bodies P here choices from) ≡ b (sites_in_bodies Q there (halved_choices n choices) to)
      body_sites_same n no_choices t plain above start from to nodes = none
      body_sites_same n (and_choice g p more) t plain above start from to nodes =
          let k = n + length (hidden_vars p) in
          let first = own P p start from in
          let later = own_bodies P more (start + 1) (from + size_of P p) in
          two (sites_in P here p from) (sites_in_bodies P here more (from + size_of P p)) (sites_in Q there (halved n p) to)
          (sites_in_bodies Q there (halved_choices k more) (to + size_of Q (halved n p)))
          (sites_same n p t.1 plain.0 above start from to (values_left v u to first later nodes))
          (body_sites_same k more t.2 plain.1 (omega (arith, above)) (start + 1) (from + size_of P p) (to + size_of Q (halved n p))
          (values_right v u to (size_of Q (halved n p)) first later (own_long counted P n p t.1 plain.0 start from) nodes))

  -- the sites of a line, and the receives on a channel
  module _ (v u : ℕ → Bool) where
    -- an expression behind an answer
    behind_answer : (w : ℕ) (e : Formula) → IsOfWidth P.vars w e → (a r from to : ℕ)
        → Values v u to (numbered from (site_answer r a ∷ formula_rules (bits_at P) e r (from + 1))) → (j : ℕ) → j < formula_size e
        → v (from + 1 + j) ≡ u (to + 1 + j)
    behind_answer w e t a r from to nodes j l =
        let m = rules_length P.vars (bits_at P) (has_bits P) e r (from + 1) t.formed t.reads in
        ap v (let z : from + 1 + j ≡ from + suc j = omega arith in z)
        ∙ (values_at v u from to (site_answer r a ∷ formula_rules (bits_at P) e r (from + 1)) nodes (suc j) (omega (arith, l, m))
        ∙ ap u (let z : to + suc j ≡ to + 1 + j = omega arith in z))

    length-ports : (r n from : ℕ) → length (port_rules r (pairs_from n from)) ≡ 2 * n
    length-ports r zero from = refl
    length-ports r (suc n) from = omega (arith, length-ports r n (from + 2))

    assign_site : (line : Line) → IsLine P line → (i : ℕ) (one : Bool) → i < line_width P line → (n x : ℕ) (at : Span) (e : Formula) → length P.vars ≤ n
        → (b : Bool) → reads x e ≡ b → IsOfWidth P.vars (var_width P.vars x) e → ReadsNoTarget (halved_assign b n x at e) → (r from to : ℕ)
        → Values v u to (own_assign P b x e r from)
        → at_sites v i one (line_site P line (assigning x at e) from) ≡ at_sites u i one (sites_in Q (line_site Q line) (halved_assign b n x at e) to)
    assign_site line d i one h n x at e above false is t plain r from to nodes =
        plain_alike v u i one line h x at e is t from to (behind_answer (var_width P.vars x) e t (net.written_at P x) r from to nodes)
    assign_site line d i one h n x at e above true is t plain r from to nodes =
        halves_alike v u i one line d h n x at e above is t plain r from to nodes

    pub lines_same : (line : Line) → IsLine P line → (i : ℕ) (one : Bool) → i < line_width P line → (n : ℕ) (p : Process) → IsProcess P.channels P.vars p →
        ReadsNoTarget (halved n p) → length P.vars ≤ n → (r from to : ℕ) → Values v u to (own P p r from)
        → at_sites v i one (sites_in P (line_site P line) p from) ≡ at_sites u i one (sites_in Q (line_site Q line) (halved n p) to)
    lines_same line d i one h = sites_same v u (at_sites v i one) (at_sites u i one) (at_append v i one) (at_append u i one) refl (line_site P line)
        (line_site Q line) leaf
      where
        skips : (l : Line) (from to : ℕ) → at_sites v i one (line_site P l skipping from) ≡ at_sites u i one (line_site Q l skipping to)
        skips (of_channel k) from to = refl
        skips (of_var z) from to = refl

        leaf : (n : ℕ) (p : Process) → IsLeaf p → IsProcess P.channels P.vars p → ReadsNoTarget (halved n p) → length P.vars ≤ n → (r from to : ℕ)
            → Values v u to (own P p r from)
            → at_sites v i one (sites_in P (line_site P line) p from) ≡ at_sites u i one (sites_in Q (line_site Q line) (halved n p) to)
        leaf n skipping is t plain above r from to nodes = skips line from to
        leaf n (assigning x at e) is t plain above r from to nodes = assign_site line d i one h n x at e above (reads x e) refl t.1 plain r from to nodes
        leaf n (sending chan at e) is t plain above r from to nodes = send_alike v u i one line h chan at e t.sent from to
            (behind_answer (channel_width P.channels chan) e t.sent (ack_at P chan) r from to nodes)
        leaf n (receiving chan at x into) is t plain above r from to nodes = port_alike v u i one line h chan x at into t.widths from to
            (λ j l. let m = length-ports r (channel_width P.channels chan) (channel_from P chan) in
            ap v (let z : from + 2 + j ≡ from + (2 + j) = omega arith in z)
            ∙ (values_at v u from to (rules_of P (receiving chan at x into) r from) nodes (2 + j) (omega (arith, l, m))
            ∙ ap u (let z : to + (2 + j) ≡ to + 2 + j = omega arith in z)))
        leaf n (in_turn members) is t plain above r from to nodes = absurd is
        leaf n (side_by_side members) is t plain above r from to nodes = absurd is
        leaf n (repeating p) is t plain above r from to nodes = absurd is
        leaf n (choosing again choices) is t plain above r from to nodes = absurd is

    pub takers_same : (k : ℕ) (n : ℕ) (p : Process) → IsProcess P.channels P.vars p → ReadsNoTarget (halved n p) → length P.vars ≤ n
        → (r from to : ℕ) → Values v u to (own P p r from)
        → map v (sites_in P (receive_site k) p from) ≡ map u (sites_in Q (receive_site k) (halved n p) to)
    takers_same k = sites_same v u (map v) (map u) (mapped_append v) (mapped_append u) refl (receive_site k) (receive_site k) leaf
      where
        halves : (n x : ℕ) (at : Span) (e : Formula) (b : Bool) (to : ℕ) → map v [] ≡ map u (sites_in Q (receive_site k) (halved_assign b n x at e) to)
        halves n x at e false to = refl
        halves n x at e true to = refl

        taker : (chan from to : ℕ) → v (from + 1) ≡ u (to + 1) → (b : Bool)
            → map v (if b then (from + 1) ∷ [] else []) ≡ map u (if b then (to + 1) ∷ [] else [])
        taker chan from to e true = ap (λ z. z ∷ []) e
        taker chan from to e false = refl

        leaf : (n : ℕ) (p : Process) → IsLeaf p → IsProcess P.channels P.vars p → ReadsNoTarget (halved n p) → length P.vars ≤ n → (r from to : ℕ)
            → Values v u to (own P p r from) → map v (sites_in P (receive_site k) p from) ≡ map u (sites_in Q (receive_site k) (halved n p) to)
        leaf n skipping is t plain above r from to nodes = refl
        leaf n (assigning x at e) is t plain above r from to nodes = halves n x at e (reads x e) to
        leaf n (sending chan at e) is t plain above r from to nodes = refl
        leaf n (receiving chan at x into) is t plain above r from to nodes = taker chan from to
            (values_at v u from to (rules_of P (receiving chan at x into) r from) nodes 1 (omega arith)) (chan == k)
        leaf n (in_turn members) is t plain above r from to nodes = absurd is
        leaf n (side_by_side members) is t plain above r from to nodes = absurd is
        leaf n (repeating p) is t plain above r from to nodes = absurd is
        leaf n (choosing again choices) is t plain above r from to nodes = absurd is
