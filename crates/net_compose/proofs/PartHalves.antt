-- A part of a program as one of the program in halves, and where its nodes are numbered there.
use Rattle.std.proofs.Common.{◌≡◌, ℕ, suc, ◌+◌, ◌*◌, ◌<◌, Bool, true, false, List, [], ◌∷◌, ◌++◌, length, refl, sym, ap, ◌∙◌, subst, arith, append_assoc}
use Rattle.std.specs.Prelude.{if◌then◌else◌}
use Rattle.prs_core.specs.Nets.{NodeRules}
use Rattle.prs_core.specs.Pairs.{no_rules}
use Rattle.width_check.specs.Processes.{Process, skipping, assigning, sending, receiving, in_turn, side_by_side, choosing, repeating, Processes, no_members, and_member, TypedProgram, Choices, no_choices, and_choice, choice_count}
use Rattle.width_check.specs.Typing.{IsProcess, AreProcesses, AreChoices}
use Rattle.handshake_expand.specs.Layout.{size_of, branches_size, guards_size}
use Rattle.handshake_expand.specs.Answers.{answer_of, guards_from, bodies_from, select_own, again_own}
use Rattle.cell_sequence.specs.Sequence.{loop_request}
use Rattle.cell_select.specs.Selections.{select_rules, again_rules}
use Rattle.cell_parallel.specs.Trees.{tree_rules}
use Rattle.cell_variable.specs.Variables.{write_answer}
use Rattle.function_blocks.specs.Expressions.{formula_rules}
use Rattle.chp_meaning.specs.Halves.{hidden_of, hidden_vars, hidden_in_each, hidden_in_choices, halved, halved_each, halved_choices, halved_program, ReadsNoTarget, EachReadsNoTarget, ChoicesReadNoTarget}
use Rattle.circuit_places.specs.Within.{PartOf, whole, of_member, of_side, of_body, of_arm, ArmPart, this_arm, other_arm, SidePart, this_side, other_side, TurnPart, last_part, first_part, later_part, InTurns, ArmsInTurns, SidesInTurns, MembersInTurns}
use Rattle.net_compose.specs.Translation.{bits_at, written_at, q_rules, through_rules, rules_of, turn_rules, branches_rules, bodies_rules, guards_rules, choosing_at, repeating_at, branch_ends, branches_end}
use Rattle.net_compose.specs.PartNumbers.{part_from, arm_part_from, side_part_from, turn_part_from, part_ask, arm_part_ask, side_part_ask, turn_part_ask}
use Rattle.net_compose.proofs.Sizes.{Counted, statement_length}
use Rattle.net_compose.proofs.HalvedNumbers.{blocks, choices_count, guards_same, halved_size}
use Rattle.net_compose.proofs.HalvedNodes.{Numbered, numbered, length-numbered, numbered_append, own, own_turn, own_branches, own_bodies, own_assign, hidden, hidden_turn, hidden_branches, hidden_bodies, hidden_assign, select_front, again_front, branches_long, select_long, again_long, behind}
use Rattle.net_compose.proofs.HalvedAlike.{Values, values_left, values_right, values_at, own_long}

-- what is free of assignments that read their own target has no hidden variables
mutual
  pub plain_hidden : (q : Process) → ReadsNoTarget q → hidden_vars q ≡ []
  plain_hidden skipping c = refl
  plain_hidden (assigning x at e) c = ap (λ b. hidden_of b e) c
  plain_hidden (sending k at e) c = refl
  plain_hidden (receiving k at x to) c = refl
  plain_hidden (in_turn members) c = each_hidden members c
  plain_hidden (side_by_side members) c = each_hidden members c
  plain_hidden (choosing again choices) c = choices_hidden choices c
  plain_hidden (repeating p) c = plain_hidden p c

  each_hidden : (members : Processes) → EachReadsNoTarget members → hidden_in_each members ≡ []
  each_hidden no_members c = refl
  each_hidden (and_member p more) c = ap (λ l. l ++ hidden_in_each more) (plain_hidden p c.0) ∙ each_hidden more c.1

  choices_hidden : (choices : Choices) → ChoicesReadNoTarget choices → hidden_in_choices choices ≡ []
  choices_hidden no_choices c = refl
  choices_hidden (and_choice g p more) c = ap (λ l. l ++ hidden_in_choices more) (plain_hidden p c.0) ∙ choices_hidden more c.1

module _ (P : TypedProgram) where
  mutual
    pub none_stored : (q : Process) → ReadsNoTarget q → (from : ℕ) → hidden P q from ≡ []
    none_stored skipping c from = refl
    none_stored (assigning x at e) c from = ap (λ b. hidden_assign P b x e from) c
    none_stored (sending k at e) c from = refl
    none_stored (receiving k at x to) c from = refl
    none_stored (in_turn members) c from = turn_none members c from
    none_stored (side_by_side members) c from = branches_none members c from
    none_stored (choosing false choices) c from = bodies_none choices c (bodies_from choices select_own from)
    none_stored (choosing true choices) c from = bodies_none choices c (bodies_from choices again_own from)
    none_stored (repeating p) c from = none_stored p c (from + 2)

    turn_none : (members : Processes) → EachReadsNoTarget members → (from : ℕ) → hidden_turn P members from ≡ []
    turn_none no_members c from = refl
    turn_none (and_member p no_members) c from = none_stored p c.0 from
    turn_none (and_member p (and_member q more)) c from =
        ap (λ l. l ++ hidden_turn P (and_member q more) (from + 3 + size_of P p)) (none_stored p c.0 (from + 3))
        ∙ turn_none (and_member q more) c.1 (from + 3 + size_of P p)

    branches_none : (members : Processes) → EachReadsNoTarget members → (from : ℕ) → hidden_branches P members from ≡ []
    branches_none no_members c from = refl
    branches_none (and_member p more) c from =
        ap (λ l. l ++ hidden_branches P more (from + 3 + size_of P p)) (none_stored p c.0 (from + 3)) ∙ branches_none more c.1 (from + 3 + size_of P p)

    bodies_none : (choices : Choices) → ChoicesReadNoTarget choices → (from : ℕ) → hidden_bodies P choices from ≡ []
    bodies_none no_choices c from = refl
    bodies_none (and_choice g p more) c from =
        ap (λ l. l ++ hidden_bodies P more (from + size_of P p)) (none_stored p c.0 from) ∙ bodies_none more c.1 (from + size_of P p)

-- the part in halves, whose hidden variables are numbered from here on
abbrev mutual
  pub part_n : {q p : Process} → ℕ → PartOf q p → ℕ
  part_n n whole = n
  part_n n (of_member t) = turn_part_n n t
  part_n n (of_side t) = side_part_n n t
  part_n n (of_body h) = part_n n h
  part_n n (of_arm d) = arm_part_n n d

  pub arm_part_n : {q : Process} {choices : Choices} → ℕ → ArmPart q choices → ℕ
  arm_part_n n (this_arm h) = part_n n h
  arm_part_n n (other_arm {p = p} d) = arm_part_n (n + length (hidden_vars p)) d

  pub side_part_n : {q : Process} {members : Processes} → ℕ → SidePart q members → ℕ
  side_part_n n (this_side h) = part_n n h
  side_part_n n (other_side {p = p} t) = side_part_n (n + length (hidden_vars p)) t

  pub turn_part_n : {q : Process} {members : Processes} → ℕ → TurnPart q members → ℕ
  turn_part_n n (last_part h) = part_n n h
  turn_part_n n (first_part h) = part_n n h
  turn_part_n n (later_part {p = p} t) = turn_part_n (n + length (hidden_vars p)) t

abbrev mutual
  pub there : {q p : Process} (n : ℕ) (h : PartOf q p) → PartOf (halved (part_n n h) q) (halved n p)
  there n whole = whole
  there n (of_member t) = of_member (turn_there n t)
  there n (of_side t) = of_side (side_there n t)
  there n (of_body h) = of_body (there n h)
  there n (of_arm d) = of_arm (arm_there n d)

  pub arm_there : {q : Process} {choices : Choices} (n : ℕ) (d : ArmPart q choices) → ArmPart (halved (arm_part_n n d) q) (halved_choices n choices)
  arm_there n (this_arm h) = this_arm (there n h)
  arm_there n (other_arm {p = p} d) = other_arm (arm_there (n + length (hidden_vars p)) d)

  pub side_there : {q : Process} {members : Processes} (n : ℕ) (t : SidePart q members) → SidePart (halved (side_part_n n t) q) (halved_each n members)
  side_there n (this_side h) = this_side (there n h)
  side_there n (other_side {p = p} t) = other_side (side_there (n + length (hidden_vars p)) t)

  pub turn_there : {q : Process} {members : Processes} (n : ℕ) (t : TurnPart q members) → TurnPart (halved (turn_part_n n t) q) (halved_each n members)
  turn_there n (last_part h) = last_part (there n h)
  turn_there n (first_part h) = first_part (there n h)
  turn_there n (later_part {p = p} t) = later_part (turn_there (n + length (hidden_vars p)) t)

-- parts that take turns do so in halves
mutual
  pub in_turns_there : {q s p : Process} (n : ℕ) (h : PartOf q p) (k : PartOf s p) → InTurns h k → InTurns (there n h) (there n k)
  in_turns_there n whole k i = absurd i
  in_turns_there n (of_member t) whole i = absurd i
  in_turns_there n (of_member t) (of_member u) i = members_there n t u i
  in_turns_there n (of_side t) whole i = absurd i
  in_turns_there n (of_side t) (of_side u) i = sides_there n t u i
  in_turns_there n (of_body h) whole i = absurd i
  in_turns_there n (of_body h) (of_body k) i = in_turns_there n h k i
  in_turns_there n (of_arm d) whole i = absurd i
  in_turns_there n (of_arm d) (of_arm e) i = arms_there n d e i

  arms_there : {q s : Process} {choices : Choices} (n : ℕ) (d : ArmPart q choices) (e : ArmPart s choices) → ArmsInTurns d e
      → ArmsInTurns (arm_there n d) (arm_there n e)
  arms_there n (this_arm h) (this_arm k) i = in_turns_there n h k i
  arms_there n (other_arm {p = p} d) (other_arm e) i = arms_there (n + length (hidden_vars p)) d e i
  arms_there n (this_arm h) (other_arm e) i = tt
  arms_there n (other_arm d) (this_arm k) i = tt

  sides_there : {q s : Process} {members : Processes} (n : ℕ) (t : SidePart q members) (u : SidePart s members) → SidesInTurns t u
      → SidesInTurns (side_there n t) (side_there n u)
  sides_there n (this_side h) (this_side k) i = in_turns_there n h k i
  sides_there n (other_side {p = p} t) (other_side u) i = sides_there (n + length (hidden_vars p)) t u i
  sides_there n (this_side h) (other_side u) i = absurd i
  sides_there n (other_side t) (this_side k) i = absurd i

  members_there : {q s : Process} {members : Processes} (n : ℕ) (t : TurnPart q members) (u : TurnPart s members) → MembersInTurns t u
      → MembersInTurns (turn_there n t) (turn_there n u)
  members_there n (last_part h) (last_part k) i = in_turns_there n h k i
  members_there n (first_part h) (first_part k) i = in_turns_there n h k i
  members_there n (later_part {p = p} t) (later_part u) i = members_there (n + length (hidden_vars p)) t u i
  members_there n (first_part h) (later_part u) i = tt
  members_there n (later_part t) (first_part k) i = tt

module _ (counted : Counted) (P : TypedProgram) where
  abbrev Q : TypedProgram
  Q = halved_program P

  -- the nodes of what is free of such assignments are numbered in their order
  mutual
    pub own_plain : (p : Process) → IsProcess P.channels P.vars p → ReadsNoTarget p → (r from : ℕ) → own P p r from ≡ numbered from (rules_of P p r from)
    own_plain skipping t c r from = refl
    own_plain (assigning x at e) t c r from =
        ap (λ b. own_assign P b x e r from) c
        ∙ ap (λ l. numbered from l)
        (sym (ap (λ (b : Bool). if b then through_rules P x e r from else (write_answer r (written_at P x) ∷ formula_rules (bits_at P) e r (from + 1))) c))
    own_plain (sending k at e) t c r from = refl
    own_plain (receiving k at x to) t c r from = refl
    own_plain (in_turn members) t c r from = turn_plain members t.1 c r from
    own_plain (side_by_side members) t c r from =
        let tree = tree_rules (branch_ends P members from) (branches_end P members from) in
        let rs = branches_rules P members r from in
        ap (λ l. l ++ numbered (from + branches_size P members) tree) (branches_plain members t.1 c r from)
        ∙ (ap (λ k. numbered from rs ++ numbered (from + k) tree) (sym (branches_long counted P members t.1 r from)) ∙ sym (numbered_append from rs tree))
    own_plain (repeating p) t c r from =
        let q = numbered from (no_rules ∷ loop_request r (answer_of P p (from + 2)) ∷ []) in
        let e : from + 2 ≡ suc (suc from) = omega arith in
        ap (λ l. q ++ l) (own_plain p t c (from + 1) (from + 2)) ∙ ap (λ n. q ++ numbered n (rules_of P p (from + 1) (from + 2))) e
    own_plain (choosing false choices) t c r from =
        let start = from + select_own + choice_count choices in
        let to = bodies_from choices select_own from in
        let own_rules = select_rules (choosing_at P choices r (from + 2) select_own from) in
        let guards = guards_rules P choices (from + 1) (guards_from choices select_own from) in
        let number : from + length (select_front P choices r from) ≡ to = let e = select_long counted P choices t r from in omega (arith, e) in
        ap (λ l. numbered from (select_front P choices r from) ++ l) (bodies_plain choices t.2 c start to)
        ∙ (ap (λ n. numbered from (select_front P choices r from) ++ numbered n (bodies_rules P choices start to)) (sym number)
        ∙ (sym (numbered_append from (select_front P choices r from) (bodies_rules P choices start to))
        ∙ ap (λ l. numbered from l) (append_assoc own_rules guards (bodies_rules P choices start to))))
    own_plain (choosing true choices) t c r from =
        let start = from + again_own + choice_count choices in
        let to = bodies_from choices again_own from in
        let own_rules = again_rules (repeating_at P choices r from) in
        let guards = guards_rules P choices (from + 3) (guards_from choices again_own from) in
        let number : from + length (again_front P choices r from) ≡ to = let e = again_long counted P choices t r from in omega (arith, e) in
        ap (λ l. numbered from (again_front P choices r from) ++ l) (bodies_plain choices t.2 c start to)
        ∙ (ap (λ n. numbered from (again_front P choices r from) ++ numbered n (bodies_rules P choices start to)) (sym number)
        ∙ (sym (numbered_append from (again_front P choices r from) (bodies_rules P choices start to))
        ∙ ap (λ l. numbered from l) (append_assoc own_rules guards (bodies_rules P choices start to))))

    turn_plain : (members : Processes) → AreProcesses P.channels P.vars members → EachReadsNoTarget members → (r from : ℕ)
        → own_turn P members r from ≡ numbered from (turn_rules P members r from)
    turn_plain no_members t c r from = refl
    turn_plain (and_member p no_members) t c r from = own_plain p t.0 c.0 r from
    turn_plain (and_member p (and_member q more)) t c r from =
        let rules = q_rules r (answer_of P p (from + 3)) from in
        let rs = rules_of P p from (from + 3) in
        let rest = turn_rules P (and_member q more) (from + 2) (from + 3 + size_of P p) in
        ap (λ l. numbered from rules ++ (l ++ own_turn P (and_member q more) (from + 2) (from + 3 + size_of P p))) (own_plain p t.0 c.0 from (from + 3))
        ∙ (ap (λ l. numbered from rules ++ (numbered (from + 3) rs ++ l)) (turn_plain (and_member q more) t.1 c.1 (from + 2) (from + 3 + size_of P p))
        ∙ behind counted P rules rs rest from (size_of P p) refl (statement_length counted P p from (from + 3) t.0))

    branches_plain : (members : Processes) → AreProcesses P.channels P.vars members → EachReadsNoTarget members → (r from : ℕ)
        → own_branches P members r from ≡ numbered from (branches_rules P members r from)
    branches_plain no_members t c r from = refl
    branches_plain (and_member p more) t c r from =
        let rules = q_rules r (answer_of P p (from + 3)) from in
        let rs = rules_of P p from (from + 3) in
        let rest = branches_rules P more r (from + 3 + size_of P p) in
        ap (λ l. numbered from rules ++ (l ++ own_branches P more r (from + 3 + size_of P p))) (own_plain p t.0 c.0 from (from + 3))
        ∙ (ap (λ l. numbered from rules ++ (numbered (from + 3) rs ++ l)) (branches_plain more t.1 c.1 r (from + 3 + size_of P p))
        ∙ behind counted P rules rs rest from (size_of P p) refl (statement_length counted P p from (from + 3) t.0))

    bodies_plain : (choices : Choices) → AreChoices P.channels P.vars choices → ChoicesReadNoTarget choices → (start from : ℕ)
        → own_bodies P choices start from ≡ numbered from (bodies_rules P choices start from)
    bodies_plain no_choices t c start from = refl
    bodies_plain (and_choice g p more) t c start from =
        let rs = rules_of P p start from in
        let rest = bodies_rules P more (start + 1) (from + size_of P p) in
        ap (λ l. l ++ own_bodies P more (start + 1) (from + size_of P p)) (own_plain p t.1 c.0 start from)
        ∙ (ap (λ l. numbered from rs ++ l) (bodies_plain more t.2 c.1 (start + 1) (from + size_of P p))
        ∙ (ap (λ k. numbered from rs ++ numbered (from + k) rest) (sym (statement_length counted P p start from t.1)) ∙ sym (numbered_append from rs rest)))

  module _ {A : Type 0} (v u : ℕ → A) where
    -- A part's nodes in both nets: its request, and where its own nodes are.
    pub record PartThere (q : Process) (ask from ask_there from_there : ℕ) : Type 0 where
      pub asked : v ask ≡ u ask_there
      pub nodes : Values v u from_there (own P q ask from)

    next_of : (start s count : ℕ) → ((i : ℕ) → i < suc count → v (start + i) ≡ u (s + i)) → (i : ℕ) → i < count → v (start + 1 + i) ≡ u (s + 1 + i)
    next_of start s count starts i l = ap v (let z : start + 1 + i ≡ start + suc i = omega arith in z)
        ∙ (starts (suc i) (omega (arith, l)) ∙ ap u (let z : s + suc i ≡ s + 1 + i = omega arith in z))

    first_of : (start s count : ℕ) → ((i : ℕ) → i < suc count → v (start + i) ≡ u (s + i)) → v start ≡ u s
    first_of start s count starts = ap v (let z : start ≡ start + 0 = omega arith in z) ∙ (starts 0 (omega arith)
        ∙ ap u (let z : s + 0 ≡ s = omega arith in z))

    -- the starts of a selection's branches, and the branches
    arm_starts : (n : ℕ) (choices : Choices) (o from to : ℕ) (front : List NodeRules) (bodies : List Numbered)
        → length front ≡ o + 2 * choice_count choices + guards_size choices → Values v u to (numbered from front ++ bodies)
        → (i : ℕ) → i < choice_count choices → v (from + o + choice_count choices + i) ≡ u (to + o + choice_count (halved_choices n choices) + i)
    arm_starts n choices o from to front bodies long nodes i l =
        let c = choices_count n choices in
        ap v (let y : from + o + choice_count choices + i ≡ from + (o + choice_count choices + i) = omega arith in y)
        ∙ (values_at v u from to front (values_left v u to (numbered from front) bodies nodes) (o + choice_count choices + i) (omega (arith, l, long))
        ∙ ap u (let y : to + (o + choice_count choices + i) ≡ to + o + choice_count (halved_choices n choices) + i = omega (arith, c) in y))

    arm_nodes : (n : ℕ) (choices : Choices) (o from to : ℕ) (front : List NodeRules) (bodies : List Numbered)
        → length front ≡ o + 2 * choice_count choices + guards_size choices → Values v u to (numbered from front ++ bodies)
        → Values v u (bodies_from (halved_choices n choices) o to) bodies
    arm_nodes n choices o from to front bodies long nodes =
        let c = choices_count n choices in
        let g = guards_same n choices in
        let z : to + (o + 2 * choice_count choices + guards_size choices) ≡ bodies_from (halved_choices n choices) o to = omega (arith, c, g) in
        subst (λ k. Values v u k bodies) z
        (values_right v u to (o + 2 * choice_count choices + guards_size choices) (numbered from front) bodies (length-numbered from front ∙ long) nodes)

    mutual
      pub walk : {q p : Process} (n : ℕ) (h : PartOf q p) → IsProcess P.channels P.vars p → ReadsNoTarget (halved n p) → (r from s to : ℕ) → v r ≡ u s
          → Values v u to (own P p r from) → PartThere q (part_ask P h r from) (part_from P h from) (part_ask Q (there n h) s to) (part_from Q (there n h) to)
      walk n whole t plain r from s to asked nodes = record { asked = asked; nodes = nodes }
      walk n (of_member k) t plain r from s to asked nodes = turn_walk n k t.1 plain r from s to asked nodes
      walk n (of_side {members = members} k) t plain r from s to asked nodes =
          side_walk n k t.1 plain r from to (values_left v u to (own_branches P members r from)
          (numbered (from + branches_size P members) (tree_rules (branch_ends P members from) (branches_end P members from))) nodes)
      walk n (of_body {p = p} h) t plain r from s to asked nodes =
          let first = no_rules ∷ loop_request r (answer_of P p (from + 2)) ∷ [] in
          let inner = own P p (from + 1) (from + 2) in
          walk n h t plain (from + 1) (from + 2) (to + 1) (to + 2)
          (values_at v u from to first (values_left v u to (numbered from first) inner nodes) 1 (omega arith))
          (values_right v u to 2 (numbered from first) inner refl nodes)
      walk n (of_arm {again = false} {choices = choices} d) t plain r from s to asked nodes =
          let bodies = own_bodies P choices (from + select_own + choice_count choices) (bodies_from choices select_own from) in
          let long = select_long counted P choices t r from in
          arm_walk n d t.2 plain (from + select_own + choice_count choices) (bodies_from choices select_own from)
          (to + select_own + choice_count (halved_choices n choices))
          (bodies_from (halved_choices n choices) select_own to)
          (arm_starts n choices select_own from to (select_front P choices r from) bodies long nodes)
          (arm_nodes n choices select_own from to (select_front P choices r from) bodies long nodes)
      walk n (of_arm {again = true} {choices = choices} d) t plain r from s to asked nodes =
          let bodies = own_bodies P choices (from + again_own + choice_count choices) (bodies_from choices again_own from) in
          let long = again_long counted P choices t r from in
          arm_walk n d t.2 plain (from + again_own + choice_count choices) (bodies_from choices again_own from)
          (to + again_own + choice_count (halved_choices n choices))
          (bodies_from (halved_choices n choices) again_own to)
          (arm_starts n choices again_own from to (again_front P choices r from) bodies long nodes)
          (arm_nodes n choices again_own from to (again_front P choices r from) bodies long nodes)

      arm_walk : {q : Process} {choices : Choices} (n : ℕ) (d : ArmPart q choices) → AreChoices P.channels P.vars choices
          → ChoicesReadNoTarget (halved_choices n choices) → (start from s to : ℕ) → ((i : ℕ) → i < choice_count choices → v (start + i) ≡ u (s + i))
          → Values v u to (own_bodies P choices start from)
          → PartThere q (arm_part_ask P d start from) (arm_part_from P d from) (arm_part_ask Q (arm_there n d) s to) (arm_part_from Q (arm_there n d) to)
      arm_walk n (this_arm {p = p} {more = more} h) t plain start from s to starts nodes =
          walk n h t.1 plain.0 start from s to (first_of start s (choice_count more) starts)
          (values_left v u to (own P p start from) (own_bodies P more (start + 1) (from + size_of P p)) nodes)
      arm_walk n (other_arm {p = p} {more = more} d) t plain start from s to starts nodes =
          arm_walk (n + length (hidden_vars p)) d t.2 plain.1 (start + 1) (from + size_of P p) (s + 1) (to + size_of Q (halved n p))
          (next_of start s (choice_count more) starts)
          (values_right v u to (size_of Q (halved n p)) (own P p start from) (own_bodies P more (start + 1) (from + size_of P p))
          (own_long counted P n p t.1 plain.0 start from) nodes)

      side_walk : {q : Process} {members : Processes} (n : ℕ) (k : SidePart q members) → AreProcesses P.channels P.vars members
          → EachReadsNoTarget (halved_each n members) → (r from to : ℕ) → Values v u to (own_branches P members r from)
          → PartThere q (side_part_ask P k from) (side_part_from P k from) (side_part_ask Q (side_there n k) to) (side_part_from Q (side_there n k) to)
      side_walk n (this_side {p = p} {more = more} h) t plain r from to nodes =
          let element = numbered from (q_rules r (answer_of P p (from + 3)) from) in
          let first = own P p from (from + 3) in
          let later = own_branches P more r (from + 3 + size_of P p) in
          walk n h t.0 plain.0 from (from + 3) to (to + 3) nodes.0
          (values_left v u (to + 3) first later (values_right v u to 3 element (first ++ later) refl nodes))
      side_walk n (other_side {p = p} {more = more} k) t plain r from to nodes =
          let element = numbered from (q_rules r (answer_of P p (from + 3)) from) in
          let first = own P p from (from + 3) in
          let later = own_branches P more r (from + 3 + size_of P p) in
          side_walk (n + length (hidden_vars p)) k t.1 plain.1 r (from + 3 + size_of P p) (to + 3 + size_of Q (halved n p))
          (values_right v u (to + 3) (size_of Q (halved n p)) first later (own_long counted P n p t.0 plain.0 from (from + 3))
          (values_right v u to 3 element (first ++ later) refl nodes))

      turn_walk : {q : Process} {members : Processes} (n : ℕ) (k : TurnPart q members) → AreProcesses P.channels P.vars members
          → EachReadsNoTarget (halved_each n members) → (r from s to : ℕ) → v r ≡ u s → Values v u to (own_turn P members r from)
          → PartThere q (turn_part_ask P k r from) (turn_part_from P k from) (turn_part_ask Q (turn_there n k) s to) (turn_part_from Q (turn_there n k) to)
      turn_walk n (last_part h) t plain r from s to asked nodes = walk n h t.0 plain.0 r from s to asked nodes
      turn_walk n (first_part {p = p} {s = b} {more = more} h) t plain r from s to asked nodes =
          let element = numbered from (q_rules r (answer_of P p (from + 3)) from) in
          let first = own P p from (from + 3) in
          let later = own_turn P (and_member b more) (from + 2) (from + 3 + size_of P p) in
          walk n h t.0 plain.0 from (from + 3) to (to + 3) nodes.0
          (values_left v u (to + 3) first later (values_right v u to 3 element (first ++ later) refl nodes))
      turn_walk n (later_part {p = p} {s = b} {more = more} k) t plain r from s to asked nodes =
          let rules = q_rules r (answer_of P p (from + 3)) from in
          let element = numbered from rules in
          let first = own P p from (from + 3) in
          let later = own_turn P (and_member b more) (from + 2) (from + 3 + size_of P p) in
          turn_walk (n + length (hidden_vars p)) k t.1 plain.1 (from + 2) (from + 3 + size_of P p) (to + 2) (to + 3 + size_of Q (halved n p))
          (values_at v u from to rules (values_left v u to element (first ++ later) nodes) 2 (omega arith))
          (values_right v u (to + 3) (size_of Q (halved n p)) first later (own_long counted P n p t.0 plain.0 from (from + 3))
          (values_right v u to 3 element (first ++ later) refl nodes))

  -- as many nodes
  pub same_size : (n : ℕ) (q : Process) → IsProcess P.channels P.vars q → ReadsNoTarget q → ReadsNoTarget (halved n q) → size_of Q (halved n q) ≡ size_of P q
  same_size n q t c plain =
      let e = halved_size P Q refl n q t plain in
      let z : blocks (hidden_vars q) ≡ 0 = ap blocks (plain_hidden q c) in
      omega (arith, e, z)
