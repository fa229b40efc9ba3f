-- The rails that a line merges, read at their numbers, are those of its sites, and what a channel's acknowledge merges are the
-- nodes by which receives have stored.
use Rattle.std.proofs.Common.{◌≡◌, ℕ, zero, suc, ◌+◌, ◌<◌, ◌==◌, Bool, true, false, List, [], ◌∷◌, ◌++◌, map, refl, sym, ap, ◌∙◌, arith}
use Rattle.std.specs.Prelude.{if◌then◌else◌}
use Rattle.std.proofs.lemmas.Bool.{eqb-true}
use Rattle.prs_core.specs.Pairs.{Pair, pair_of, pairs_from}
use Rattle.function_blocks.specs.Listed.{node_of}
use Rattle.function_blocks.proofs.GatesTold.{listed}
use Rattle.width_check.specs.Processes.{Formula, Process, skipping, assigning, sending, receiving, in_turn, side_by_side, choosing, repeating, Processes, no_members, and_member, TypedProgram, Choices, no_choices, and_choice}
use Rattle.width_check.specs.Values.{width_of, IsWellFormed}
use Rattle.width_check.specs.Reads.{reads}
use Rattle.width_check.specs.Typing.{ReadsFrom, IsProcess, AreProcesses, channel_width, var_width, AreChoices}
use Rattle.handshake_expand.specs.Layout.{formula_size, size_of}
use Rattle.function_blocks.specs.Expressions.{formula_result}
use Rattle.chp_meaning.specs.Halves.{ReadsNoTarget, EachReadsNoTarget, ChoicesReadNoTarget}
use Rattle.circuit_places.specs.Lines.{Line, of_channel, of_var, same_line, line_width}
use Rattle.chp_base.specs.declared.span.Span.{Span}
use Rattle.circuit_places.specs.Circuit.{gate_count, Site, rails_of_site, Port, rails_of_port, Cells, TurnCells, BranchCells, site_rails, turn_rails, branch_rails, takers_of_port, takers, turn_takers, branch_takers, ChoiceCells, choice_rails, choice_takers}
use Rattle.handshake_expand.specs.Sites.{Sites, sites_in, sites_in_turn, sites_in_branches, sites_in_bodies}
use Rattle.net_compose.specs.Translation.{write_site, assigned_rails, read_back, through_at, bits_at, send_site, receive_site}
use Rattle.net_compose.proofs.FlatCells.{pair_bits, rail_bits, bits, turn_bits, branch_bits, choice_bits, rail_place}
use Rattle.net_compose.proofs.FlatRules.{Stands, stands_after, gate_value, rail_value, stands_member, stands_later, stands_body, stands_branches, stands_this, stands_others, stands_choices, again_choices, stands_this_choice, stands_other_choice}
use Rattle.handshake_expand.specs.Answers.{bodies_from, select_own, again_own}

-- that of this bit at a site
abbrev pub at_site : ℕ → Bool → List Pair → ℕ
at_site i one site = node_of (pair_of site i) one

-- the rails of the sites of a line
abbrev pub line_site : TypedProgram → Line → Sites (List Pair)
line_site P (of_channel k) = send_site k
line_site P (of_var x) = write_site P x

-- the number of a rail
pub pair_place : (n from i : ℕ) (one : Bool) → i < n → node_of (pair_of (pairs_from n from) i) one ≡ from + rail_place i one
pair_place zero from i one h = absurd (omega arith)
pair_place (suc n) from zero true h = omega arith
pair_place (suc n) from zero false h = refl
pair_place (suc n) from (suc i) one h = let e = pair_place n (from + 2) i one (omega arith) in omega (arith, e)

module _ (v : ℕ → Bool) where
  -- its values at some sites
  abbrev pub at_sites : ℕ → Bool → List (List Pair) → List Bool
  at_sites i one sites = map v (map (at_site i one) sites)

  pub at_append : (i : ℕ) (one : Bool) (xs ys : List (List Pair)) → at_sites i one (xs ++ ys) ≡ at_sites i one xs ++ at_sites i one ys
  at_append i one [] ys = refl
  at_append i one (x ∷ xs) ys = ap (λ l. v (at_site i one x) ∷ l) (at_append i one xs ys)

  module _ (P : TypedProgram) (i : ℕ) (one : Bool) where
    -- the value of a site, whatever the request and the variables are
    value_here : (e : Formula) → IsWellFormed e → ReadsFrom P.vars e → i < width_of e → (from : ℕ) (x : Site (gate_count e))
        → Stands v from (pair_bits (gate_count e) x.gates) → at_sites i one (formula_result e from ∷ []) ≡ rails_of_site true e x i one
    value_here e formed read h from x s =
        ap (λ b. b ∷ []) ((listed P.vars e formed read).outputs (bits_at P) 0 from v (v 0) (λ y k side. v (node_of (pair_of (bits_at P y) k) side)) x.gates
        (record {
          asked = refl;
          gates = λ k side less. gate_value v (gate_count e) x.gates from k side less s;
          read = λ y k side z less. refl;
        }) i one h)

    send_here : (k : Line) (chan : ℕ) (at : Span) (e : Formula) → IsWellFormed e → ReadsFrom P.vars e → width_of e ≡ channel_width P.channels chan
        → i < line_width P k → (from : ℕ) (x : Site (gate_count e)) → Stands v (from + 1) (pair_bits (gate_count e) x.gates)
        → at_sites i one (line_site P k (sending chan at e) from) ≡ rails_of_site (same_line (of_channel chan) k) e x i one
    send_here (of_var y) chan at e formed read agrees h from x s = refl
    send_here (of_channel k) chan at e formed read agrees h from x s = by (chan == k) refl
      where
        by : (b : Bool) → (chan == k) ≡ b → at_sites i one (if b then formula_result e (from + 1) ∷ [] else []) ≡ rails_of_site b e x i one
        by true z = let wide : width_of e ≡ channel_width P.channels k = agrees
            ∙ ap (channel_width P.channels) (eqb-true chan k z) in value_here e formed read (omega (arith, wide, h)) (from + 1) x s
        by false z = refl

    assign_here : (k : Line) (y : ℕ) (at : Span) (e : Formula) → reads y e ≡ false → IsWellFormed e → ReadsFrom P.vars e → width_of e ≡ var_width P.vars y
        → i < line_width P k → (from : ℕ) (x : Site (gate_count e)) → Stands v (from + 1) (pair_bits (gate_count e) x.gates)
        → at_sites i one (line_site P k (assigning y at e) from) ≡ rails_of_site (same_line (of_var y) k) e x i one
    assign_here (of_channel k) y at e plain formed read agrees h from x s = refl
    assign_here (of_var z) y at e plain formed read agrees h from x s = by (y == z) refl
      where
        by : (b : Bool) → (y == z) ≡ b → at_sites i one (if b then assigned_rails P z e from ∷ [] else []) ≡ rails_of_site b e x i one
        by true q =
            let same = eqb-true y z q in
            let wide : width_of e ≡ var_width P.vars z = agrees ∙ ap (var_width P.vars) same in
            ap (λ b. at_sites i one ((if b then read_back (through_at (var_width P.vars z) (formula_size e) from) else formula_result e (from + 1)) ∷ []))
            (ap (λ n. reads n e) (sym same) ∙ plain)
            ∙ value_here e formed read (omega (arith, wide, h)) (from + 1) x s
        by false q = refl

    port_here : (k : Line) (chan y : ℕ) (at to : Span) → var_width P.vars y ≡ channel_width P.channels chan → i < line_width P k → (from : ℕ) (x : Port)
        → Stands v (from + 2) (rail_bits (channel_width P.channels chan) x.taken)
        → at_sites i one (line_site P k (receiving chan at y to) from) ≡ rails_of_port (same_line (of_var y) k) x i one
    port_here (of_channel k) chan y at to widths h from x s = refl
    port_here (of_var z) chan y at to widths h from x s = by (y == z) refl
      where
        by : (b : Bool) → (y == z) ≡ b → at_sites i one (if b then pairs_from (channel_width P.channels chan) (from + 2) ∷ [] else []) ≡ rails_of_port b x i one
        by false q = refl
        by true q =
            let wide : var_width P.vars z ≡ channel_width P.channels chan = ap (var_width P.vars) (sym (eqb-true y z q)) ∙ widths in
            let less : i < channel_width P.channels chan = omega (arith, wide, h) in
            ap (λ b. b ∷ []) (ap v (pair_place (channel_width P.channels chan) (from + 2) i one less)
            ∙ rail_value v (channel_width P.channels chan) x.taken (from + 2) i one less s)

    skip_here : (k : Line) (from : ℕ) → at_sites i one (line_site P k skipping from) ≡ []
    skip_here (of_channel k) from = refl
    skip_here (of_var z) from = refl

  module _ (P : TypedProgram) (k : Line) (i : ℕ) (one : Bool) (within : i < line_width P k) where
    mutual
      pub sites_are : (p : Process) → ReadsNoTarget p → IsProcess P.channels P.vars p → (from : ℕ) (x : Cells p) → Stands v from (bits P p x)
          → at_sites i one (sites_in P (line_site P k) p from) ≡ site_rails p x k i one
      sites_are skipping c t from x s = skip_here P i one k from
      sites_are (sending chan at e) c t from x s =
          send_here P i one k chan at e t.sent.formed t.sent.reads t.sent.agrees within from x
          (stands_after v from (from + 1) (x.answer ∷ []) (pair_bits (gate_count e) x.gates) s (omega arith))
      sites_are (assigning y at e) c t from x s =
          assign_here P i one k y at e c t.1.formed t.1.reads t.1.agrees within from x
          (stands_after v from (from + 1) (x.answer ∷ []) (pair_bits (gate_count e) x.gates) s (omega arith))
      sites_are (in_turn members) c t from x s = turn_sites_are members c t.1 from x s
      sites_are (repeating p) c t from x s = sites_are p c t (from + 2) x.inner (stands_body P v p from x s)
      sites_are (receiving chan at y to) c t from x s = port_here P i one k chan y at to t.widths within from x
          (stands_after v from (from + 2) (x.answer ∷ x.kept ∷ []) (rail_bits (channel_width P.channels chan) x.taken) s (omega arith))
      sites_are (side_by_side members) c t from x s = branch_sites_are members c t.1 from x.branches (stands_branches P v members from x s)
      sites_are (choosing false choices) c t from x s =
          choice_sites_are choices c t.2 (bodies_from choices select_own from) x.branches (stands_choices P v choices from x s)
      sites_are (choosing true choices) c t from x s =
          choice_sites_are choices c t.2 (bodies_from choices again_own from) x.core.branches (again_choices P v choices from x s)

      choice_sites_are : (choices : Choices) → ChoicesReadNoTarget choices → AreChoices P.channels P.vars choices → (from : ℕ) (x : ChoiceCells choices)
          → Stands v from (choice_bits P choices x) → at_sites i one (sites_in_bodies P (line_site P k) choices from) ≡ choice_rails choices x k i one
      choice_sites_are no_choices c t from x s = refl
      choice_sites_are (and_choice g p more) c t from x s =
          let first = sites_in P (line_site P k) p from in
          let rest = sites_in_bodies P (line_site P k) more (from + size_of P p) in
          at_append i one first rest
          ∙ (ap (λ l. l ++ at_sites i one rest) (sites_are p c.0 t.1 from x.0 (stands_this_choice P v p from g more x s))
          ∙ ap (λ l. site_rails p x.0 k i one ++ l) (choice_sites_are more c.1 t.2 (from + size_of P p) x.1
          (stands_other_choice P v p from g more c.0 x s)))

      branch_sites_are : (members : Processes) → EachReadsNoTarget members → AreProcesses P.channels P.vars members → (from : ℕ) (x : BranchCells members)
          → Stands v from (branch_bits P members x) → at_sites i one (sites_in_branches P (line_site P k) members from) ≡ branch_rails members x k i one
      branch_sites_are no_members c t from x s = refl
      branch_sites_are (and_member p more) c t from x s =
          let first = sites_in P (line_site P k) p (from + 3) in
          let rest = sites_in_branches P (line_site P k) more (from + 3 + size_of P p) in
          at_append i one first rest
          ∙ (ap (λ l. l ++ at_sites i one rest) (sites_are p c.0 t.0 (from + 3) x.0.inner (stands_this P v p more from x s))
          ∙ ap (λ l. site_rails p x.0.inner k i one ++ l) (branch_sites_are more c.1 t.1 (from + 3 + size_of P p) x.1 (stands_others P v p more c.0 from x s)))

      turn_sites_are : (members : Processes) → EachReadsNoTarget members → AreProcesses P.channels P.vars members → (from : ℕ) (x : TurnCells members)
          → Stands v from (turn_bits P members x) → at_sites i one (sites_in_turn P (line_site P k) members from) ≡ turn_rails members x k i one
      turn_sites_are no_members c t from x s = refl
      turn_sites_are (and_member p no_members) c t from x s = sites_are p c.0 t.0 from x s
      turn_sites_are (and_member p (and_member q more)) c t from x s =
          let first = sites_in P (line_site P k) p (from + 3) in
          let rest = sites_in_turn P (line_site P k) (and_member q more) (from + 3 + size_of P p) in
          at_append i one first rest
          ∙ (ap (λ l. l ++ at_sites i one rest) (sites_are p c.0 t.0 (from + 3) x.member.inner (stands_member P v p q more from x s))
          ∙ ap (λ l. site_rails p x.member.inner k i one ++ l) (turn_sites_are (and_member q more) c.1 t.1 (from + 3 + size_of P p) x.later
          (stands_later P v p q more c.0 from x s)))

  -- the nodes by which receives on a channel have stored
  pub mapped_append : (xs ys : List ℕ) → map v (xs ++ ys) ≡ map v xs ++ map v ys
  mapped_append [] ys = refl
  mapped_append (x ∷ xs) ys = ap (λ l. v x ∷ l) (mapped_append xs ys)

  module _ (P : TypedProgram) (k : ℕ) where
    taker_here : (chan : ℕ) (from : ℕ) (x : Port) → v (from + 1) ≡ x.kept → (b : Bool) → map v (if b then (from + 1) ∷ [] else []) ≡ takers_of_port b x
    taker_here chan from x e true = ap (λ b. b ∷ []) e
    taker_here chan from x e false = refl

    mutual
      pub takers_are : (p : Process) → ReadsNoTarget p → IsProcess P.channels P.vars p → (from : ℕ) (x : Cells p) → Stands v from (bits P p x)
          → map v (sites_in P (receive_site k) p from) ≡ takers p x k
      takers_are skipping c t from x s = refl
      takers_are (sending chan at e) c t from x s = refl
      takers_are (assigning y at e) c t from x s = refl
      takers_are (receiving chan at y to) c t from x s = taker_here chan from x (s.at 1 (omega arith)) (chan == k)
      takers_are (in_turn members) c t from x s = turn_takers_are members c t.1 from x s
      takers_are (repeating p) c t from x s = takers_are p c t (from + 2) x.inner (stands_body P v p from x s)
      takers_are (side_by_side members) c t from x s = branch_takers_are members c t.1 from x.branches (stands_branches P v members from x s)
      takers_are (choosing false choices) c t from x s =
          choice_takers_are choices c t.2 (bodies_from choices select_own from) x.branches (stands_choices P v choices from x s)
      takers_are (choosing true choices) c t from x s =
          choice_takers_are choices c t.2 (bodies_from choices again_own from) x.core.branches (again_choices P v choices from x s)

      choice_takers_are : (choices : Choices) → ChoicesReadNoTarget choices → AreChoices P.channels P.vars choices → (from : ℕ) (x : ChoiceCells choices)
          → Stands v from (choice_bits P choices x) → map v (sites_in_bodies P (receive_site k) choices from) ≡ choice_takers choices x k
      choice_takers_are no_choices c t from x s = refl
      choice_takers_are (and_choice g p more) c t from x s =
          let first = sites_in P (receive_site k) p from in
          let rest = sites_in_bodies P (receive_site k) more (from + size_of P p) in
          mapped_append first rest
          ∙ (ap (λ l. l ++ map v rest) (takers_are p c.0 t.1 from x.0 (stands_this_choice P v p from g more x s))
          ∙ ap (λ l. takers p x.0 k ++ l) (choice_takers_are more c.1 t.2 (from + size_of P p) x.1 (stands_other_choice P v p from g more c.0 x s)))

      branch_takers_are : (members : Processes) → EachReadsNoTarget members → AreProcesses P.channels P.vars members → (from : ℕ) (x : BranchCells members)
          → Stands v from (branch_bits P members x) → map v (sites_in_branches P (receive_site k) members from) ≡ branch_takers members x k
      branch_takers_are no_members c t from x s = refl
      branch_takers_are (and_member p more) c t from x s =
          let first = sites_in P (receive_site k) p (from + 3) in
          let rest = sites_in_branches P (receive_site k) more (from + 3 + size_of P p) in
          mapped_append first rest
          ∙ (ap (λ l. l ++ map v rest) (takers_are p c.0 t.0 (from + 3) x.0.inner (stands_this P v p more from x s))
          ∙ ap (λ l. takers p x.0.inner k ++ l) (branch_takers_are more c.1 t.1 (from + 3 + size_of P p) x.1 (stands_others P v p more c.0 from x s)))

      turn_takers_are : (members : Processes) → EachReadsNoTarget members → AreProcesses P.channels P.vars members → (from : ℕ) (x : TurnCells members)
          → Stands v from (turn_bits P members x) → map v (sites_in_turn P (receive_site k) members from) ≡ turn_takers members x k
      turn_takers_are no_members c t from x s = refl
      turn_takers_are (and_member p no_members) c t from x s = takers_are p c.0 t.0 from x s
      turn_takers_are (and_member p (and_member q more)) c t from x s =
          let first = sites_in P (receive_site k) p (from + 3) in
          let rest = sites_in_turn P (receive_site k) (and_member q more) (from + 3 + size_of P p) in
          mapped_append first rest
          ∙ (ap (λ l. l ++ map v rest) (takers_are p c.0 t.0 (from + 3) x.member.inner (stands_member P v p q more from x s))
          ∙ ap (λ l. takers p x.member.inner k ++ l) (turn_takers_are (and_member q more) c.1 t.1 (from + 3 + size_of P p) x.later
          (stands_later P v p q more c.0 from x s)))
