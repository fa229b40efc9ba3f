-- The blocks of hidden variables: the rules within a program's statements are those that the program in halves has for its
-- last variables.
use Rattle.std.proofs.Common.{◌≡◌, ℕ, suc, ◌+◌, ◌<◌, ◌≤◌, ◌==◌, Bool, true, false, List, [], ◌∷◌, ◌++◌, map, length, refl, sym, ap, ◌∙◌, subst, arith, length-append, append-nil, append_assoc}
use Rattle.std.specs.Prelude.{if◌then◌else◌}
use Rattle.std.proofs.lemmas.Bool.{eq-eqb, ne_eqb}
use Rattle.prs_core.specs.Nets.{NodeRules}
use Rattle.prs_core.specs.Pairs.{Pair, pairs_from, no_rules}
use Rattle.chp_base.specs.declared.span.Span.{Span}
use Rattle.width_check.specs.declared.typed.Var.{Var}
use Rattle.width_check.specs.Processes.{Formula, Process, skipping, assigning, sending, receiving, in_turn, side_by_side, choosing, repeating, Processes, no_members, and_member, TypedProgram, Choices, no_choices, and_choice, choice_count}
use Rattle.width_check.specs.Reads.{reads}
use Rattle.width_check.specs.Values.{width_of}
use Rattle.width_check.specs.Typing.{channel_width, var_width, IsOfWidth, IsProcess, AreProcesses, AreChoices}
use Rattle.handshake_expand.specs.Layout.{formula_size, block_size, size_of, branches_size, var_from}
use Rattle.handshake_expand.specs.Answers.{answer_of, bodies_from, select_own, again_own}
use Rattle.cell_sequence.specs.Sequence.{loop_request}
use Rattle.cell_parallel.specs.Trees.{tree_rules}
use Rattle.cell_variable.specs.Variables.{variable_rules}
use Rattle.function_blocks.specs.Expressions.{formula_result}
use Rattle.chp_meaning.specs.Halves.{hidden_of, hidden_vars, hidden_in_each, read_through, in_halves, halved_assign, halved, halved_each, halved_program, ReadsNoTarget, EachReadsNoTarget, hidden_in_choices, halved_choices, ChoicesReadNoTarget}
use Rattle.handshake_expand.specs.Sites.{sites_in, sites_in_turn, sites_in_branches, in_body, sites_in_bodies}
use Rattle.net_compose.specs.Translation.{q_rules, branch_ends, branches_end, write_site, assigned_rails, through_at, vars_rules, read_back as read_rails}
use Rattle.net_compose.proofs.Sizes.{Counted}
use Rattle.net_compose.proofs.FlatTrees.{RulesAlike, rules_append}
use Rattle.net_compose.proofs.FlatSites.{at_site}
use Rattle.net_compose.proofs.FlatBlocks.{length-variable_rules}
use Rattle.net_compose.proofs.HalvedNumbers.{blocks}
use Rattle.net_compose.proofs.HalvedNodes.{Numbered, numbered, own, own_turn, own_branches, own_assign, hidden, hidden_turn, hidden_branches, hidden_assign, behind_block, hidden_rules, own_bodies, hidden_bodies, select_front, again_front, select_long, again_long}
use Rattle.net_compose.proofs.SameValues.{blocks_alike}
use Rattle.net_compose.proofs.HalvedAlike.{Values, rules_in, rules_in_append, rules_numbered, values_left, values_right, values_at, own_long, hidden_long, HiddenAt, hidden_at_left, hidden_at_right}
use Rattle.net_compose.proofs.HalvedSites.{behind_long, result_here, in_branches}

pub vars_rules_append : (P : TypedProgram) (n : ℕ) (xs ys : List Var) → vars_rules P n (xs ++ ys) ≡ vars_rules P n xs ++ vars_rules P (n + length xs) ys
vars_rules_append P n [] ys = let e : n ≡ n + 0 = omega arith in ap (λ k. vars_rules P k ys) e
vars_rules_append P n (x ∷ xs) ys =
    let e : suc n + length xs ≡ n + suc (length xs) = omega arith in
    let first = variable_rules x.width (var_from P n) (in_body P (write_site P n)) in
    ap (λ l. first ++ l) (vars_rules_append P (suc n) xs ys ∙ ap (λ k. vars_rules P (suc n) xs ++ vars_rules P k ys) e)
    ∙ sym (append_assoc first (vars_rules P (suc n) xs) (vars_rules P (n + suc (length xs)) ys))

module _ (counted : Counted) (P : TypedProgram) where
  abbrev Q : TypedProgram
  Q = halved_program P

  -- a hidden variable isn't written by statements that aren't its own
  other_target : (y x from : ℕ) (site : List Pair) → y < length P.vars → length P.vars ≤ x → (if y == x then site ∷ [] else []) ≡ []
  other_target y x from site declared above = ap (λ (b : Bool). if b then site ∷ [] else [])
      (ne_eqb y x (λ e. absurd (let g : ⊥ = omega (arith, e, declared, above) in g)))

  assign_apart : (x n y : ℕ) (at : Span) (e : Formula) (b : Bool) → y < length P.vars → length P.vars ≤ x
      → (n ≤ x → x < n + length (hidden_of b e) → ⊥) → (to : ℕ) → sites_in Q (write_site Q x) (halved_assign b n y at e) to ≡ []
  assign_apart x n y at e false declared above out to = other_target y x to (assigned_rails Q x e to) declared above
  assign_apart x n y at e true declared above out to =
      ap (λ (b : Bool). (if b then assigned_rails Q x e (to + 3) ∷ [] else [])
      ++ (if y == x then assigned_rails Q x (read_through n e at) (to + 3 + size_of Q (assigning n at e)) ∷ [] else []))
      (ne_eqb n x (λ q. out (omega (arith, q)) (omega (arith, q))))
      ∙ other_target y x to (assigned_rails Q x (read_through n e at) (to + 3 + size_of Q (assigning n at e))) declared above

  mutual
    pub not_written : (x n : ℕ) (p : Process) → IsProcess P.channels P.vars p → length P.vars ≤ x
        → (n ≤ x → x < n + length (hidden_vars p) → ⊥) → (to : ℕ) → sites_in Q (write_site Q x) (halved n p) to ≡ []
    not_written x n skipping t above out to = refl
    not_written x n (assigning y at e) t above out to = assign_apart x n y at e (reads y e) t.0 above out to
    not_written x n (sending chan at e) t above out to = refl
    not_written x n (receiving chan at y into) t above out to =
        other_target y x to (pairs_from (channel_width P.channels chan) (to + 2)) t.target above
    not_written x n (in_turn members) t above out to = none_in_turn x n members t.1 above out to
    not_written x n (side_by_side members) t above out to = none_in_branches x n members t.1 above out to
    not_written x n (repeating p) t above out to = not_written x n p t above out (to + 2)
    not_written x n (choosing false choices) t above out to = none_in_bodies x n choices t.2 above out (bodies_from (halved_choices n choices) select_own to)
    not_written x n (choosing true choices) t above out to = none_in_bodies x n choices t.2 above out (bodies_from (halved_choices n choices) again_own to)

    pub none_in_turn : (x n : ℕ) (members : Processes) → AreProcesses P.channels P.vars members → length P.vars ≤ x
        → (n ≤ x → x < n + length (hidden_in_each members) → ⊥) → (to : ℕ) → sites_in_turn Q (write_site Q x) (halved_each n members) to ≡ []
    none_in_turn x n no_members t above out to = refl
    none_in_turn x n (and_member p no_members) t above out to =
        not_written x n p t.0 above (λ l g. out l (let z = length-append (hidden_vars p) [] in omega (arith, g, z))) to
    none_in_turn x n (and_member p (and_member q more)) t above out to =
        let z = length-append (hidden_vars p) (hidden_in_each (and_member q more)) in
        ap (λ l. l ++ sites_in_turn Q (write_site Q x) (halved_each (n + length (hidden_vars p)) (and_member q more)) (to + 3 + size_of Q (halved n p)))
        (not_written x n p t.0 above (λ l g. out l (omega (arith, g, z))) (to + 3))
        ∙ none_in_turn x (n + length (hidden_vars p)) (and_member q more) t.1 above (λ l g. out (omega (arith, l)) (omega (arith, g, z)))
        (to + 3 + size_of Q (halved n p))

    pub none_in_branches : (x n : ℕ) (members : Processes) → AreProcesses P.channels P.vars members → length P.vars ≤ x
        → (n ≤ x → x < n + length (hidden_in_each members) → ⊥) → (to : ℕ) → sites_in_branches Q (write_site Q x) (halved_each n members) to ≡ []
    none_in_branches x n no_members t above out to = refl
    none_in_branches x n (and_member p more) t above out to =
        let z = length-append (hidden_vars p) (hidden_in_each more) in
        ap (λ l. l ++ sites_in_branches Q (write_site Q x) (halved_each (n + length (hidden_vars p)) more) (to + 3 + size_of Q (halved n p)))
        (not_written x n p t.0 above (λ l g. out l (omega (arith, g, z))) (to + 3))
        ∙ none_in_branches x (n + length (hidden_vars p)) more t.1 above (λ l g. out (omega (arith, l)) (omega (arith, g, z)))
        (to + 3 + size_of Q (halved n p))

    pub none_in_bodies : (x n : ℕ) (choices : Choices) → AreChoices P.channels P.vars choices → length P.vars ≤ x
        → (n ≤ x → x < n + length (hidden_in_choices choices) → ⊥) → (to : ℕ) → sites_in_bodies Q (write_site Q x) (halved_choices n choices) to ≡ []
    none_in_bodies x n no_choices t above out to = refl
    none_in_bodies x n (and_choice g p more) t above out to =
        let z = length-append (hidden_vars p) (hidden_in_choices more) in
        ap (λ l. l ++ sites_in_bodies Q (write_site Q x) (halved_choices (n + length (hidden_vars p)) more) (to + size_of Q (halved n p)))
        (not_written x n p t.1 above (λ l g. out l (omega (arith, g, z))) to)
        ∙ none_in_bodies x (n + length (hidden_vars p)) more t.2 above (λ l g. out (omega (arith, l)) (omega (arith, g, z)))
        (to + size_of Q (halved n p))

  -- its own site
  own_site : (n x : ℕ) (at : Span) (e : Formula) → x < length P.vars → length P.vars ≤ n → ReadsNoTarget (in_halves n x at e) → (to : ℕ)
      → sites_in Q (write_site Q n) (in_halves n x at e) to ≡ formula_result e (to + 3 + 1) ∷ []
  own_site n x at e declared above plain to =
      let later = if x == n then assigned_rails Q n (read_through n e at) (to + 3 + size_of Q (assigning n at e)) ∷ [] else [] in
      ap (λ (b : Bool). (if b then assigned_rails Q n e (to + 3) ∷ [] else []) ++ later) (eq-eqb n n refl)
      ∙ (ap (λ (b : Bool). ((if b then read_rails (through_at (var_width Q.vars n) (formula_size e) (to + 3)) else formula_result e (to + 3 + 1)) ∷ [])
      ++ later)
      plain.0
      ∙ ap (λ l. (formula_result e (to + 3 + 1) ∷ []) ++ l)
      (other_target x n to (assigned_rails Q n (read_through n e at) (to + 3 + size_of Q (assigning n at e))) declared above))

  module _ (v u : ℕ → Bool) where
    -- in the whole program some hidden variables are written where they are within a statement
    abbrev WrittenIn : (n : ℕ) → List Var → (ℕ → List (List Pair)) → Type 0
    WrittenIn n hs sites = (x : ℕ) → n ≤ x → x < n + length hs → in_body Q (write_site Q x) ≡ sites x

    joined : (xs ys : List Numbered) (rs ss : List NodeRules) → RulesAlike v u (rules_in xs) rs → RulesAlike v u (rules_in ys) ss
        → RulesAlike v u (rules_in (xs ++ ys)) (rs ++ ss)
    joined xs ys rs ss f g = subst (λ l. RulesAlike v u l (rs ++ ss)) (sym (rules_in_append xs ys)) (rules_append v u (rules_in xs) rs (rules_in ys) ss f g)

    block_alike : (n x : ℕ) (at : Span) (e : Formula) (b : Bool) → x < length P.vars → IsOfWidth P.vars (var_width P.vars x) e
        → ReadsNoTarget (halved_assign b n x at e) → length P.vars ≤ n → (r from to block : ℕ) → HiddenAt counted P n (hidden_of b e) block
        → Values v u block (hidden_assign P b x e from) → Values v u to (own_assign P b x e r from)
        → WrittenIn n (hidden_of b e) (λ y. sites_in Q (write_site Q y) (halved_assign b n x at e) to)
        → RulesAlike v u (rules_in (hidden_assign P b x e from)) (vars_rules Q n (hidden_of b e))
    block_alike n x at e false declared t plain above r from to block where_hidden stored nodes written = tt
    block_alike n x at e true declared t plain above r from to block where_hidden stored nodes written =
        subst (λ l. RulesAlike v u l (vars_rules Q n (hidden_of true e))) (sym (rules_numbered from (hidden_rules P x e from)))
        (subst (λ l. RulesAlike v u (hidden_rules P x e from) l)
        (ap (λ k. variable_rules k block (in_body Q (write_site Q n))) (sym agrees)
        ∙ (ap (λ k. variable_rules (width_of e) k (in_body Q (write_site Q n))) (sym where_hidden.0)
        ∙ sym (append-nil (variable_rules (width_of e) (var_from Q n) (in_body Q (write_site Q n))))))
        (blocks_alike v u (var_width P.vars x) from block
        (λ i h. values_at v u from block (hidden_rules P x e from) stored i (let m =
        length-variable_rules (var_width P.vars x) from (formula_result e (from + block_size (var_width P.vars x) + 3 + 1) ∷ []) in omega (arith, h, m)))
        (formula_result e (from + block_size (var_width P.vars x) + 3 + 1) ∷ []) (in_body Q (write_site Q n)) (λ i one h. same i one h
        ∙ ap (λ l. map u (map (at_site i one) l)) (sym sites_are))))
      where
        agrees : width_of e ≡ var_width P.vars x
        agrees = t.agrees

        sites_are : in_body Q (write_site Q n) ≡ formula_result e (to + 3 + 1) ∷ []
        sites_are = written n (omega arith) (omega arith) ∙ own_site n x at e declared above plain to

        same : (i : ℕ) (one : Bool) → i < var_width P.vars x →
            map v (map (at_site i one) (formula_result e (from + block_size (var_width P.vars x) + 3 + 1) ∷ [])) ≡
            map u (map (at_site i one) (formula_result e (to + 3 + 1) ∷ []))
        same i one h = result_here counted P v u i one (var_width P.vars x) e t h (from + block_size (var_width P.vars x) + 3 + 1) (to + 3 + 1)
            (λ j l. let m = behind_long counted P x e t r from in
            let element = from + block_size (var_width P.vars x) in
            ap v (let z : element + 3 + 1 + j ≡ element + (4 + j) = omega arith in z)
            ∙ (values_at v u element to (behind_block P x e r from) nodes (4 + j) (omega (arith, l, m))
            ∙ ap u (let z : to + (4 + j) ≡ to + 3 + 1 + j = omega arith in z)))

    mutual
      pub hidden_alike : (n : ℕ) (p : Process) → IsProcess P.channels P.vars p → ReadsNoTarget (halved n p) → length P.vars ≤ n
          → (r from to block : ℕ) → HiddenAt counted P n (hidden_vars p) block → Values v u block (hidden P p from) → Values v u to (own P p r from)
          → WrittenIn n (hidden_vars p) (λ y. sites_in Q (write_site Q y) (halved n p) to)
          → RulesAlike v u (rules_in (hidden P p from)) (vars_rules Q n (hidden_vars p))
      hidden_alike n skipping t plain above r from to block where_hidden stored nodes written = tt
      hidden_alike n (assigning x at e) t plain above r from to block where_hidden stored nodes written =
          block_alike n x at e (reads x e) t.0 t.1 plain above r from to block where_hidden stored nodes written
      hidden_alike n (sending chan at e) t plain above r from to block where_hidden stored nodes written = tt
      hidden_alike n (receiving chan at x into) t plain above r from to block where_hidden stored nodes written = tt
      hidden_alike n (in_turn members) t plain above r from to block where_hidden stored nodes written =
          hidden_turn_alike n members t.1 plain above r from to block where_hidden stored nodes written
      hidden_alike n (side_by_side members) t plain above r from to block where_hidden stored nodes written =
          hidden_branches_alike n members t.1 plain above r from to block where_hidden stored
          (values_left v u to (own_branches P members r from) (numbered (from + branches_size P members)
          (tree_rules (branch_ends P members from) (branches_end P members from))) nodes) written
      hidden_alike n (repeating p) t plain above r from to block where_hidden stored nodes written =
          hidden_alike n p t plain above (from + 1) (from + 2) (to + 2) block where_hidden stored
          (values_right v u to 2 (numbered from (no_rules ∷ loop_request r (answer_of P p (from + 2)) ∷ [])) (own P p (from + 1) (from + 2)) refl nodes) written
      hidden_alike n (choosing false choices) t plain above r from to block where_hidden stored nodes written =
          hidden_bodies_alike n choices t.2 plain above (from + select_own + choice_count choices) (bodies_from choices select_own from)
          (bodies_from (halved_choices n choices) select_own to) block where_hidden stored
          (in_branches counted P v u n choices select_own from to (select_front P choices r from) (select_long counted P choices t r from) nodes) written
      hidden_alike n (choosing true choices) t plain above r from to block where_hidden stored nodes written =
          hidden_bodies_alike n choices t.2 plain above (from + again_own + choice_count choices) (bodies_from choices again_own from)
          (bodies_from (halved_choices n choices) again_own to) block where_hidden stored
          (in_branches counted P v u n choices again_own from to (again_front P choices r from) (again_long counted P choices t r from) nodes) written

      hidden_turn_alike : (n : ℕ) (members : Processes) → AreProcesses P.channels P.vars members
          → EachReadsNoTarget (halved_each n members) → length P.vars ≤ n → (r from to block : ℕ) → HiddenAt counted P n (hidden_in_each members) block
          → Values v u block (hidden_turn P members from) → Values v u to (own_turn P members r from)
          → WrittenIn n (hidden_in_each members) (λ y. sites_in_turn Q (write_site Q y) (halved_each n members) to)
          → RulesAlike v u (rules_in (hidden_turn P members from)) (vars_rules Q n (hidden_in_each members))
      hidden_turn_alike n no_members t plain above r from to block where_hidden stored nodes written = tt
      hidden_turn_alike n (and_member p no_members) t plain above r from to block where_hidden stored nodes written =
          let z = length-append (hidden_vars p) [] in
          subst (λ l. RulesAlike v u (rules_in (hidden P p from)) l) (ap (λ l. vars_rules Q n l) (sym (append-nil (hidden_vars p))))
          (hidden_alike n p t.0 plain.0 above r from to block (hidden_at_left counted P n (hidden_vars p) [] block where_hidden) stored nodes
          (λ y l g. written y l (omega (arith, g, z))))
      hidden_turn_alike n (and_member p (and_member q more)) t plain above r from to block where_hidden stored nodes written =
          let k = n + length (hidden_vars p) in
          let element = numbered from (q_rules r (answer_of P p (from + 3)) from) in
          let first = own P p from (from + 3) in
          let later = own_turn P (and_member q more) (from + 2) (from + 3 + size_of P p) in
          let parts = values_right v u to 3 element (first ++ later) refl nodes in
          let mine = hidden P p (from + 3) in
          let others = hidden_turn P (and_member q more) (from + 3 + size_of P p) in
          let z = length-append (hidden_vars p) (hidden_in_each (and_member q more)) in
          subst (λ l. RulesAlike v u (rules_in (mine ++ others)) l) (sym (vars_rules_append Q n (hidden_vars p) (hidden_in_each (and_member q more))))
          (joined mine others (vars_rules Q n (hidden_vars p)) (vars_rules Q k (hidden_in_each (and_member q more)))
          (hidden_alike n p t.0 plain.0 above from (from + 3) (to + 3) block (hidden_at_left counted P n (hidden_vars p) (hidden_in_each (and_member q more))
          block
          where_hidden)
          (values_left v u block mine others stored) (values_left v u (to + 3) first later parts)
          (λ y l g. written y l (omega (arith, g, z))
          ∙ (ap (λ s. sites_in Q (write_site Q y) (halved n p) (to + 3) ++ s) (none_in_turn y k (and_member q more) t.1 (omega (arith, above, l))
          (λ d f. absurd (let c : ⊥ = omega (arith, d, g) in c)) (to + 3 + size_of Q (halved n p)))
          ∙ append-nil (sites_in Q (write_site Q y) (halved n p) (to + 3)))))
          (hidden_turn_alike k (and_member q more) t.1 plain.1 (omega (arith, above)) (from + 2) (from + 3 + size_of P p) (to + 3 + size_of Q (halved n p))
          (block + blocks (hidden_vars p)) (hidden_at_right counted P n (hidden_vars p) (hidden_in_each (and_member q more)) block where_hidden)
          (values_right v u block (blocks (hidden_vars p)) mine others (hidden_long counted P p t.0 (from + 3)) stored)
          (values_right v u (to + 3) (size_of Q (halved n p)) first later (own_long counted P n p t.0 plain.0 from (from + 3)) parts)
          (λ y l g. written y (omega (arith, l)) (omega (arith, g, z))
          ∙ ap (λ s. s ++ sites_in_turn Q (write_site Q y) (halved_each k (and_member q more)) (to + 3 + size_of Q (halved n p)))
          (not_written y n p t.0 (omega (arith, above, l)) (λ d f. absurd (let c : ⊥ = omega (arith, f, l) in c)) (to + 3)))))

      hidden_branches_alike : (n : ℕ) (members : Processes) → AreProcesses P.channels P.vars members
          → EachReadsNoTarget (halved_each n members) → length P.vars ≤ n → (r from to block : ℕ) → HiddenAt counted P n (hidden_in_each members) block
          → Values v u block (hidden_branches P members from) → Values v u to (own_branches P members r from)
          → WrittenIn n (hidden_in_each members) (λ y. sites_in_branches Q (write_site Q y) (halved_each n members) to)
          → RulesAlike v u (rules_in (hidden_branches P members from)) (vars_rules Q n (hidden_in_each members))
      hidden_branches_alike n no_members t plain above r from to block where_hidden stored nodes written = tt
      hidden_branches_alike n (and_member p more) t plain above r from to block where_hidden stored nodes written =
          let k = n + length (hidden_vars p) in
          let element = numbered from (q_rules r (answer_of P p (from + 3)) from) in
          let first = own P p from (from + 3) in
          let later = own_branches P more r (from + 3 + size_of P p) in
          let parts = values_right v u to 3 element (first ++ later) refl nodes in
          let mine = hidden P p (from + 3) in
          let others = hidden_branches P more (from + 3 + size_of P p) in
          let z = length-append (hidden_vars p) (hidden_in_each more) in
          subst (λ l. RulesAlike v u (rules_in (mine ++ others)) l) (sym (vars_rules_append Q n (hidden_vars p) (hidden_in_each more)))
          (joined mine others (vars_rules Q n (hidden_vars p)) (vars_rules Q k (hidden_in_each more))
          (hidden_alike n p t.0 plain.0 above from (from + 3) (to + 3) block
          (hidden_at_left counted P n (hidden_vars p) (hidden_in_each more) block where_hidden)
          (values_left v u block mine others stored) (values_left v u (to + 3) first later parts)
          (λ y l g. written y l (omega (arith, g, z))
          ∙ (ap (λ s. sites_in Q (write_site Q y) (halved n p) (to + 3) ++ s) (none_in_branches y k more t.1 (omega (arith, above, l))
          (λ d f. absurd (let c : ⊥ = omega (arith, d, g) in c)) (to + 3 + size_of Q (halved n p)))
          ∙ append-nil (sites_in Q (write_site Q y) (halved n p) (to + 3)))))
          (hidden_branches_alike k more t.1 plain.1 (omega (arith, above)) r (from + 3 + size_of P p) (to + 3 + size_of Q (halved n p))
          (block + blocks (hidden_vars p)) (hidden_at_right counted P n (hidden_vars p) (hidden_in_each more) block where_hidden)
          (values_right v u block (blocks (hidden_vars p)) mine others (hidden_long counted P p t.0 (from + 3)) stored)
          (values_right v u (to + 3) (size_of Q (halved n p)) first later (own_long counted P n p t.0 plain.0 from (from + 3)) parts)
          (λ y l g. written y (omega (arith, l)) (omega (arith, g, z))
          ∙ ap (λ s. s ++ sites_in_branches Q (write_site Q y) (halved_each k more) (to + 3 + size_of Q (halved n p)))
          (not_written y n p t.0 (omega (arith, above, l)) (λ d f. absurd (let c : ⊥ = omega (arith, f, l) in c)) (to + 3)))))

      hidden_bodies_alike : (n : ℕ) (choices : Choices) → AreChoices P.channels P.vars choices
          → ChoicesReadNoTarget (halved_choices n choices) → length P.vars ≤ n → (start from to block : ℕ) →
          HiddenAt counted P n (hidden_in_choices choices) block
          → Values v u block (hidden_bodies P choices from) → Values v u to (own_bodies P choices start from)
          → WrittenIn n (hidden_in_choices choices) (λ y. sites_in_bodies Q (write_site Q y) (halved_choices n choices) to)
          → RulesAlike v u (rules_in (hidden_bodies P choices from)) (vars_rules Q n (hidden_in_choices choices))
      hidden_bodies_alike n no_choices t plain above start from to block where_hidden stored nodes written = tt
      hidden_bodies_alike n (and_choice g p more) t plain above start from to block where_hidden stored nodes written =
          let k = n + length (hidden_vars p) in
          let first = own P p start from in
          let later = own_bodies P more (start + 1) (from + size_of P p) in
          let mine = hidden P p from in
          let others = hidden_bodies P more (from + size_of P p) in
          let z = length-append (hidden_vars p) (hidden_in_choices more) in
          subst (λ l. RulesAlike v u (rules_in (mine ++ others)) l) (sym (vars_rules_append Q n (hidden_vars p) (hidden_in_choices more)))
          (joined mine others (vars_rules Q n (hidden_vars p)) (vars_rules Q k (hidden_in_choices more))
          (hidden_alike n p t.1 plain.0 above start from to block (hidden_at_left counted P n (hidden_vars p) (hidden_in_choices more) block where_hidden)
          (values_left v u block mine others stored) (values_left v u to first later nodes)
          (λ y l g. written y l (omega (arith, g, z))
          ∙ (ap (λ s. sites_in Q (write_site Q y) (halved n p) to ++ s) (none_in_bodies y k more t.2 (omega (arith, above, l))
          (λ d f. absurd (let c : ⊥ = omega (arith, d, g) in c)) (to + size_of Q (halved n p)))
          ∙ append-nil (sites_in Q (write_site Q y) (halved n p) to))))
          (hidden_bodies_alike k more t.2 plain.1 (omega (arith, above)) (start + 1) (from + size_of P p) (to + size_of Q (halved n p))
          (block + blocks (hidden_vars p)) (hidden_at_right counted P n (hidden_vars p) (hidden_in_choices more) block where_hidden)
          (values_right v u block (blocks (hidden_vars p)) mine others (hidden_long counted P p t.1 from) stored)
          (values_right v u to (size_of Q (halved n p)) first later (own_long counted P n p t.1 plain.0 start from) nodes)
          (λ y l g. written y (omega (arith, l)) (omega (arith, g, z))
          ∙ ap (λ s. s ++ sites_in_bodies Q (write_site Q y) (halved_choices k more) (to + size_of Q (halved n p)))
          (not_written y n p t.1 (omega (arith, above, l)) (λ d f. absurd (let c : ⊥ = omega (arith, f, l) in c)) to))))
