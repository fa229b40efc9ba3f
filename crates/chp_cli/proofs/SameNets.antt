-- Typed programs that are the same but for places have one net.
--
-- p: a typed program; w: a width; from: where own nodes are numbered from on.
use Rattle.std.proofs.Common.{◌≡◌, ℕ, suc, ◌+◌, ◌-◌, Bool, true, false, List, [], ◌∷◌, ◌++◌, map, refl, sym, ap, ◌∙◌, arith}
use Rattle.std.specs.Prelude.{None}
use Rattle.chp_base.specs.declared.channel.Channel.{Channel}
use Rattle.chp_base.specs.declared.channel.Kind.{Kind}
use Rattle.prs_core.specs.declared.wires.Wires.{Wires}
use Rattle.prs_core.specs.Nets.{NodeRules, RulesValue, net_of}
use Rattle.prs_core.specs.Pairs.{Pair}
use Rattle.width_check.specs.declared.typed.Var.{Var}
use Rattle.width_check.specs.Processes.{Formula, constant, reading, joined, inverted, chained, compared, Formulas, no_parts, and_part, Operations, no_operations, and_operation, Process, skipping, assigning, sending, receiving, in_turn, side_by_side, choosing, repeating, Processes, no_members, and_member, member_count, Choices, no_choices, and_choice, choice_count, TypedProgram}
use Rattle.width_check.specs.Values.{width_of, widths_of}
use Rattle.width_check.specs.Typing.{var_width}
use Rattle.width_check.specs.Reads.{reads, reads_in_parts, reads_in_operations}
use Rattle.handshake_expand.specs.Layout.{operator_size, formula_size, parts_size, operations_size, size_of, turn_size, branches_size, guards_size, bodies_size, root_request, body_from, nodes_of}
use Rattle.handshake_expand.specs.Answers.{answer_of, turn_answer, guards_from, bodies_from, select_own, again_own}
use Rattle.handshake_expand.specs.Sites.{Sites, sites_in, sites_in_turn, sites_in_branches, sites_in_bodies, in_body}
use Rattle.handshake_expand.specs.Named.{node_names}
use Rattle.cell_select.specs.Selections.{Choosing, select_rules, again_rules}
use Rattle.function_blocks.specs.Gates.{operator_result}
use Rattle.function_blocks.specs.Expressions.{formula_result, joined_result, chained_result, formula_rules, joined_rules, chained_rules}
use Rattle.net_compose.specs.Translation.{bits_at, through_at, through_rules, guard_pairs, branch_answers, guards_rules, choosing_at, repeating_at, branch_ends, branches_end, rules_of, turn_rules, branches_rules, bodies_rules, send_site, receive_site, assigned_rails, write_site, hidden_high, wire_rules, channel_rules, channels_rules, vars_rules, all_rules, composed, vars_high, first_values, wires_from, translation}
use Rattle.chp_cli.specs.UnplacedForms.{unplaced_formula, unplaced_formulas, unplaced_operations, unplaced_process, unplaced_processes, unplaced_choices, unplaced_form, AreFormedAlike}

-- expressions: widths, sizes, what is read

mutual
  pub width_same : (e : Formula) → width_of (unplaced_formula e) ≡ width_of e
  width_same (constant width v) = refl
  width_same (reading var high low at) = refl
  width_same (joined parts) = widths_same parts
  width_same (inverted e) = width_same e
  width_same (chained e more) = width_same e
  width_same (compared op e f) = refl

  pub widths_same : (parts : Formulas) → widths_of (unplaced_formulas parts) ≡ widths_of parts
  widths_same no_parts = refl
  widths_same (and_part e more) =
      let first = width_same e in
      let rest = widths_same more in
      rw (first, rest) refl

mutual
  pub formula_size_same : (e : Formula) → formula_size (unplaced_formula e) ≡ formula_size e
  formula_size_same (constant width v) = refl
  formula_size_same (reading var high low at) = refl
  formula_size_same (joined parts) = parts_size_same parts
  formula_size_same (inverted e) = formula_size_same e
  formula_size_same (chained e more) =
      let w = width_same e in
      let first = formula_size_same e in
      let rest = operations_size_same (width_of e) more in
      rw (w, first, rest) refl
  formula_size_same (compared op e f) =
      let w = width_same e in
      let first = formula_size_same e in
      let second = formula_size_same f in
      rw (w, first, second) refl

  parts_size_same : (parts : Formulas) → parts_size (unplaced_formulas parts) ≡ parts_size parts
  parts_size_same no_parts = refl
  parts_size_same (and_part e more) =
      let first = formula_size_same e in
      let rest = parts_size_same more in
      rw (first, rest) refl

  operations_size_same : (w : ℕ) (more : Operations) → operations_size w (unplaced_operations more) ≡ operations_size w more
  operations_size_same w no_operations = refl
  operations_size_same w (and_operation op e more) =
      let first = formula_size_same e in
      let rest = operations_size_same w more in
      rw (first, rest) refl

mutual
  pub reads_same : (x : ℕ) (e : Formula) → reads x (unplaced_formula e) ≡ reads x e
  reads_same x (constant width v) = refl
  reads_same x (reading var high low at) = refl
  reads_same x (joined parts) = reads_same_parts x parts
  reads_same x (inverted e) = reads_same x e
  reads_same x (chained e more) =
      let first = reads_same x e in
      let rest = reads_same_operations x more in
      rw (first, rest) refl
  reads_same x (compared op e f) =
      let first = reads_same x e in
      let second = reads_same x f in
      rw (first, second) refl

  reads_same_parts : (x : ℕ) (parts : Formulas) → reads_in_parts x (unplaced_formulas parts) ≡ reads_in_parts x parts
  reads_same_parts x no_parts = refl
  reads_same_parts x (and_part e more) =
      let first = reads_same x e in
      let rest = reads_same_parts x more in
      rw (first, rest) refl

  reads_same_operations : (x : ℕ) (more : Operations) → reads_in_operations x (unplaced_operations more) ≡ reads_in_operations x more
  reads_same_operations x no_operations = refl
  reads_same_operations x (and_operation op e more) =
      let first = reads_same x e in
      let rest = reads_same_operations x more in
      rw (first, rest) refl

-- their bits and rules

mutual
  pub result_same : (e : Formula) (from : ℕ) → formula_result (unplaced_formula e) from ≡ formula_result e from
  result_same (constant width v) from = refl
  result_same (reading var high low at) from = refl
  result_same (joined parts) from = joined_same parts from
  result_same (inverted e) from = let inner = result_same e from in rw inner refl
  result_same (chained e more) from =
      let w = width_same e in
      let size = formula_size_same e in
      let first = result_same e from in
      let rest = chained_same (width_of e) (formula_result e from) more (from + formula_size e) in
      rw (w, size, first, rest) refl
  result_same (compared op e f) from =
      let first = result_same e from in
      let size = formula_size_same e in
      let other = formula_size_same f in
      rw (first, size, other) refl

  joined_same : (parts : Formulas) (from : ℕ) → joined_result (unplaced_formulas parts) from ≡ joined_result parts from
  joined_same no_parts from = refl
  joined_same (and_part e more) from =
      let size = formula_size_same e in
      let first = result_same e from in
      let rest = joined_same more (from + formula_size e) in
      rw (size, first, rest) refl

  chained_same : (w : ℕ) (left : List Pair) (more : Operations) (from : ℕ)
      → chained_result w left (unplaced_operations more) from ≡ chained_result w left more from
  chained_same w left no_operations from = refl
  chained_same w left (and_operation op e more) from =
      let size = formula_size_same e in
      rw size (chained_same w _ more _)

abbrev SameBits : (bits those : ℕ → List Pair) → Type 0
SameBits bits those = (x : ℕ) → bits x ≡ those x

mutual
  pub formula_rules_same : (bits those : ℕ → List Pair) → SameBits bits those → (e : Formula) (request from : ℕ)
      → formula_rules bits (unplaced_formula e) request from ≡ formula_rules those e request from
  formula_rules_same bits those h (constant width v) request from = refl
  formula_rules_same bits those h (reading var high low at) request from = let b = h var in rw b refl
  formula_rules_same bits those h (joined parts) request from = joined_rules_same bits those h parts request from
  formula_rules_same bits those h (inverted e) request from = formula_rules_same bits those h e request from
  formula_rules_same bits those h (chained e more) request from =
      let w = width_same e in
      let size = formula_size_same e in
      let result = result_same e from in
      let first = formula_rules_same bits those h e request from in
      let rest = chained_rules_same bits those h (width_of e) (formula_result e from) more request (from + formula_size e) in
      rw (w, size, result, first, rest) refl
  formula_rules_same bits those h (compared op e f) request from =
      let size = formula_size_same e in
      let other_size = formula_size_same f in
      let result = result_same e from in
      let other_result = result_same f (from + formula_size e) in
      let first = formula_rules_same bits those h e request from in
      let second = formula_rules_same bits those h f request (from + formula_size e) in
      rw (size, other_size, result, other_result, first, second) refl

  joined_rules_same : (bits those : ℕ → List Pair) → SameBits bits those → (parts : Formulas) (request from : ℕ)
      → joined_rules bits (unplaced_formulas parts) request from ≡ joined_rules those parts request from
  joined_rules_same bits those h no_parts request from = refl
  joined_rules_same bits those h (and_part e more) request from =
      let size = formula_size_same e in
      let first = formula_rules_same bits those h e request from in
      let rest = joined_rules_same bits those h more request (from + formula_size e) in
      rw (size, first, rest) refl

  chained_rules_same : (bits those : ℕ → List Pair) → SameBits bits those → (w : ℕ) (left : List Pair) (more : Operations) (request from : ℕ)
      → chained_rules bits w left (unplaced_operations more) request from ≡ chained_rules those w left more request from
  chained_rules_same bits those h w left no_operations request from = refl
  chained_rules_same bits those h w left (and_operation op e more) request from =
      let size = formula_size_same e in
      let result = result_same e from in
      let first = formula_rules_same bits those h e request from in
      let rest =
      chained_rules_same bits those h w (operator_result op left (from + formula_size e)) more request (from + formula_size e + operator_size op w) in
      rw (size, result, first, rest) refl

-- counts of members

pub members_same : (members : Processes) → member_count (unplaced_processes members) ≡ member_count members
members_same no_members = refl
members_same (and_member s more) = ap suc (members_same more)

pub choices_same : (choices : Choices) → choice_count (unplaced_choices choices) ≡ choice_count choices
choices_same no_choices = refl
choices_same (and_choice g s more) = ap suc (choices_same more)

pub guards_size_same : (choices : Choices) → guards_size (unplaced_choices choices) ≡ guards_size choices
guards_size_same no_choices = refl
guards_size_same (and_choice g s more) =
    let first = formula_size_same g in
    let rest = guards_size_same more in
    rw (first, rest) refl

pub guard_pairs_same : (choices : Choices) (from : ℕ) → guard_pairs (unplaced_choices choices) from ≡ guard_pairs choices from
guard_pairs_same no_choices from = refl
guard_pairs_same (and_choice g s more) from =
    let size = formula_size_same g in
    let first = result_same g from in
    let rest = guard_pairs_same more (from + formula_size g) in
    rw (size, first, rest) refl

-- q: a program with the channels and variables of p
module _ (p : TypedProgram) (b : Process) where
  abbrev q : TypedProgram
  q = record { channels = p.channels; vars = p.vars; body = b }

  -- sizes

  mutual
    pub size_same : (s : Process) → size_of q (unplaced_process s) ≡ size_of p s
    size_same skipping = refl
    size_same (assigning x at e) =
        let r = reads_same x e in
        let n = formula_size_same e in
        rw (r, n) refl
    size_same (sending chan at e) = let n = formula_size_same e in rw n refl
    size_same (receiving chan chan_at x var_at) = refl
    size_same (in_turn members) = turn_size_same members
    size_same (side_by_side members) =
        let parts = branches_size_same members in
        let count = members_same members in
        rw (parts, count) refl
    size_same (choosing false choices) =
        let count = choices_same choices in
        let guards = guards_size_same choices in
        let parts = bodies_size_same choices in
        rw (count, guards, parts) refl
    size_same (choosing true choices) =
        let count = choices_same choices in
        let guards = guards_size_same choices in
        let parts = bodies_size_same choices in
        rw (count, guards, parts) refl
    size_same (repeating s) = ap (λ k. 2 + k) (size_same s)

    turn_size_same : (members : Processes) → turn_size q (unplaced_processes members) ≡ turn_size p members
    turn_size_same no_members = refl
    turn_size_same (and_member s no_members) = size_same s
    turn_size_same (and_member s (and_member t more)) =
        let here = size_same s in
        let rest = turn_size_same (and_member t more) in
        omega (arith, here, rest)

    branches_size_same : (members : Processes) → branches_size q (unplaced_processes members) ≡ branches_size p members
    branches_size_same no_members = refl
    branches_size_same (and_member s more) =
        let here = size_same s in
        let rest = branches_size_same more in
        omega (arith, here, rest)

    pub bodies_size_same : (choices : Choices) → bodies_size q (unplaced_choices choices) ≡ bodies_size p choices
    bodies_size_same no_choices = refl
    bodies_size_same (and_choice g s more) =
        let here = size_same s in
        let rest = bodies_size_same more in
        omega (arith, here, rest)

  -- answers

  mutual
    pub answer_same : (s : Process) (from : ℕ) → answer_of q (unplaced_process s) from ≡ answer_of p s from
    answer_same skipping from = refl
    answer_same (assigning x at e) from =
        let r = reads_same x e in
        let n = formula_size_same e in
        rw (r, n) refl
    answer_same (sending chan at e) from = refl
    answer_same (receiving chan chan_at x var_at) from = refl
    answer_same (in_turn members) from = turn_answer_same members from
    answer_same (side_by_side members) from = ap (λ n. from + n - 1) (size_same (side_by_side members))
    answer_same (choosing again _) from = refl
    answer_same (repeating s) from = refl

    turn_answer_same : (members : Processes) (from : ℕ) → turn_answer q (unplaced_processes members) from ≡ turn_answer p members from
    turn_answer_same no_members from = refl
    turn_answer_same (and_member s no_members) from = answer_same s from
    turn_answer_same (and_member s (and_member t more)) from =
        let size = size_same s in
        rw size (turn_answer_same (and_member t more) _)

  branch_answers_same : (choices : Choices) (from : ℕ) → branch_answers q (unplaced_choices choices) from ≡ branch_answers p choices from
  branch_answers_same no_choices from = refl
  branch_answers_same (and_choice g s more) from =
      let size = size_same s in
      let first = answer_same s from in
      let rest = branch_answers_same more (from + size_of p s) in
      rw (size, first, rest) refl

  pub guards_rules_same : (choices : Choices) (request from : ℕ) → guards_rules q (unplaced_choices choices) request from ≡ guards_rules p choices request from
  guards_rules_same no_choices request from = refl
  guards_rules_same (and_choice g s more) request from =
      let size = formula_size_same g in
      let first = formula_rules_same (bits_at q) (bits_at p) (λ x. refl) g request from in
      let rest = guards_rules_same more request (from + formula_size g) in
      rw (size, first, rest) refl

  choosing_same : (choices : Choices) (request any own from : ℕ)
      → choosing_at q (unplaced_choices choices) request any own from ≡ choosing_at p choices request any own from
  choosing_same choices request any own from =
      let count = choices_same choices in
      let guards = guards_size_same choices in
      let pairs = guard_pairs_same choices (guards_from choices own from) in
      let answers = branch_answers_same choices (bodies_from choices own from) in
      rw (count, guards, pairs, answers) refl

  ends_same : (members : Processes) (from : ℕ) → branch_ends q (unplaced_processes members) from ≡ branch_ends p members from
  ends_same no_members from = refl
  ends_same (and_member s more) from =
      let size = size_same s in
      rw size (ap (λ l. (from + 2) ∷ l) (ends_same more _))

  end_same : (members : Processes) (from : ℕ) → branches_end q (unplaced_processes members) from ≡ branches_end p members from
  end_same no_members from = refl
  end_same (and_member s more) from =
      ap (λ n. branches_end q (unplaced_processes more) (from + 3 + n)) (size_same s) ∙ end_same more (from + 3 + size_of p s)

  through_same : (x : ℕ) (e : Formula) (request from : ℕ) → through_rules q x (unplaced_formula e) request from ≡ through_rules p x e request from
  through_same x e request from =
      let h = through_at (var_width p.vars x) (formula_size e) from in
      let result = result_same e (h.first + 1) in
      let rules = formula_rules_same (bits_at q) (bits_at p) (λ x. refl) e h.element (h.first + 1) in
      rw (result, rules) refl

  -- rules

  -- those of a selection's guards and branches
  abbrev inner_rules : TypedProgram → Choices → (asked own from : ℕ) → List NodeRules
  inner_rules t choices asked own from =
      guards_rules t choices asked (guards_from choices own from) ++ bodies_rules t choices (from + own + choice_count choices) (bodies_from choices own from)

  inner_same : (choices : Choices) (asked own from : ℕ)
      → bodies_rules q (unplaced_choices choices) (from + own + choice_count choices) (bodies_from choices own from)
      ≡ bodies_rules p choices (from + own + choice_count choices) (bodies_from choices own from)
      → inner_rules q (unplaced_choices choices) asked own from ≡ inner_rules p choices asked own from
  inner_same choices asked own from bodies =
      let count = choices_same choices in
      let size = guards_size_same choices in
      let guards = guards_rules_same choices asked (guards_from choices own from) in
      rw (count, size, guards, bodies) refl

  mutual
    pub rules_same : (s : Process) (request from : ℕ) → rules_of q (unplaced_process s) request from ≡ rules_of p s request from
    rules_same skipping request from = refl
    rules_same (assigning x at e) request from =
        let r = reads_same x e in
        let through = through_same x e request from in
        let rules = formula_rules_same (bits_at q) (bits_at p) (λ x. refl) e request (from + 1) in
        rw (r, through, rules) refl
    rules_same (sending chan at e) request from =
        let rules = formula_rules_same (bits_at q) (bits_at p) (λ x. refl) e request (from + 1) in
        rw rules refl
    rules_same (receiving chan chan_at x var_at) request from = refl
    rules_same (in_turn members) request from = turn_rules_same members request from
    rules_same (side_by_side members) request from =
        let rules = branches_rules_same members request from in
        let ends = ends_same members from in
        let end = end_same members from in
        rw (rules, ends, end) refl
    rules_same (choosing false choices) request from =
        ap (λ (c : Choosing). select_rules c ++ inner_rules q (unplaced_choices choices) (from + 1) select_own from)
        (choosing_same choices request (from + 2) select_own from)
        ∙ ap (λ l. select_rules (choosing_at p choices request (from + 2) select_own from) ++ l)
        (inner_same choices (from + 1) select_own from
        (bodies_rules_same choices (from + select_own + choice_count choices) (bodies_from choices select_own from)))
    rules_same (choosing true choices) request from =
        ap (λ (c : Choosing). again_rules (record { request = request; joined = from + 2; leave = from + 5; turn = c })
        ++ inner_rules q (unplaced_choices choices) (from + 3) again_own from)
        (choosing_same choices (from + 1) (from + 4) again_own from)
        ∙ ap (λ l. again_rules (repeating_at p choices request from) ++ l)
        (inner_same choices (from + 3) again_own from
        (bodies_rules_same choices (from + again_own + choice_count choices) (bodies_from choices again_own from)))
    rules_same (repeating s) request from =
        let answer = answer_same s (from + 2) in
        let rules = rules_same s (from + 1) (from + 2) in
        rw (answer, rules) refl

    turn_rules_same : (members : Processes) (request from : ℕ) → turn_rules q (unplaced_processes members) request from ≡ turn_rules p members request from
    turn_rules_same no_members request from = refl
    turn_rules_same (and_member s no_members) request from = rules_same s request from
    turn_rules_same (and_member s (and_member t more)) request from =
        let size = size_same s in
        let answer = answer_same s (from + 3) in
        let first = rules_same s from (from + 3) in
        let rest = turn_rules_same (and_member t more) (from + 2) (from + 3 + size_of p s) in
        rw (size, answer, first, rest) refl

    branches_rules_same : (members : Processes) (request from : ℕ)
        → branches_rules q (unplaced_processes members) request from ≡ branches_rules p members request from
    branches_rules_same no_members request from = refl
    branches_rules_same (and_member s more) request from =
        let size = size_same s in
        let answer = answer_same s (from + 3) in
        let first = rules_same s from (from + 3) in
        let rest = branches_rules_same more request (from + 3 + size_of p s) in
        rw (size, answer, first, rest) refl

    bodies_rules_same : (choices : Choices) (start from : ℕ) → bodies_rules q (unplaced_choices choices) start from ≡ bodies_rules p choices start from
    bodies_rules_same no_choices start from = refl
    bodies_rules_same (and_choice g s more) start from =
        let size = size_same s in
        let first = rules_same s start from in
        let rest = bodies_rules_same more (start + 1) (from + size_of p s) in
        rw (size, first, rest) refl

  -- sites

  abbrev pub SameSites : {A : Type 0} → (there here : Sites A) → Type 0
  SameSites there here = (s : Process) (from : ℕ) → there (unplaced_process s) from ≡ here s from

  mutual
    pub sites_same : {A : Type 0} (there here : Sites A) → SameSites there here → (s : Process) (from : ℕ)
        → sites_in q there (unplaced_process s) from ≡ sites_in p here s from
    sites_same there here h skipping from = h skipping from
    sites_same there here h (assigning x at e) from = h (assigning x at e) from
    sites_same there here h (sending chan at e) from = h (sending chan at e) from
    sites_same there here h (receiving chan chan_at x var_at) from = h (receiving chan chan_at x var_at) from
    sites_same there here h (in_turn members) from = turn_sites_same there here h members from
    sites_same there here h (side_by_side members) from = branches_sites_same there here h members from
    sites_same there here h (choosing false choices) from =
        let count = choices_same choices in
        let size = guards_size_same choices in
        rw (count, size) (bodies_sites_same there here h choices (bodies_from choices select_own from))
    sites_same there here h (choosing true choices) from =
        let count = choices_same choices in
        let size = guards_size_same choices in
        rw (count, size) (bodies_sites_same there here h choices (bodies_from choices again_own from))
    sites_same there here h (repeating s) from = sites_same there here h s (from + 2)

    turn_sites_same : {A : Type 0} (there here : Sites A) → SameSites there here → (members : Processes) (from : ℕ)
        → sites_in_turn q there (unplaced_processes members) from ≡ sites_in_turn p here members from
    turn_sites_same there here h no_members from = refl
    turn_sites_same there here h (and_member s no_members) from = sites_same there here h s from
    turn_sites_same there here h (and_member s (and_member t more)) from =
        let size = size_same s in
        let first = sites_same there here h s (from + 3) in
        let rest = turn_sites_same there here h (and_member t more) (from + 3 + size_of p s) in
        rw (size, first, rest) refl

    branches_sites_same : {A : Type 0} (there here : Sites A) → SameSites there here → (members : Processes) (from : ℕ)
        → sites_in_branches q there (unplaced_processes members) from ≡ sites_in_branches p here members from
    branches_sites_same there here h no_members from = refl
    branches_sites_same there here h (and_member s more) from =
        let size = size_same s in
        let first = sites_same there here h s (from + 3) in
        let rest = branches_sites_same there here h more (from + 3 + size_of p s) in
        rw (size, first, rest) refl

    bodies_sites_same : {A : Type 0} (there here : Sites A) → SameSites there here → (choices : Choices) (from : ℕ)
        → sites_in_bodies q there (unplaced_choices choices) from ≡ sites_in_bodies p here choices from
    bodies_sites_same there here h no_choices from = refl
    bodies_sites_same there here h (and_choice g s more) from =
        let size = size_same s in
        let first = sites_same there here h s from in
        let rest = bodies_sites_same there here h more (from + size_of p s) in
        rw (size, first, rest) refl

  pub send_sites : (k : ℕ) → SameSites (send_site k) (send_site k)
  send_sites k skipping from = refl
  send_sites k (assigning x at e) from = refl
  send_sites k (sending chan at e) from = let result = result_same e (from + 1) in rw result refl
  send_sites k (receiving chan chan_at x var_at) from = refl
  send_sites k (in_turn _) from = refl
  send_sites k (side_by_side _) from = refl
  send_sites k (choosing again _) from = refl
  send_sites k (repeating s) from = refl

  pub receive_sites : (k : ℕ) → SameSites (receive_site k) (receive_site k)
  receive_sites k skipping from = refl
  receive_sites k (assigning x at e) from = refl
  receive_sites k (sending chan at e) from = refl
  receive_sites k (receiving chan chan_at x var_at) from = refl
  receive_sites k (in_turn _) from = refl
  receive_sites k (side_by_side _) from = refl
  receive_sites k (choosing again _) from = refl
  receive_sites k (repeating s) from = refl

  assigned_same : (x : ℕ) (e : Formula) (from : ℕ) → assigned_rails q x (unplaced_formula e) from ≡ assigned_rails p x e from
  assigned_same x e from =
      let r = reads_same x e in
      let size = formula_size_same e in
      let result = result_same e (from + 1) in
      rw (r, size, result) refl

  pub write_sites : (x : ℕ) → SameSites (write_site q x) (write_site p x)
  write_sites x skipping from = refl
  write_sites x (assigning y at e) from = let rails = assigned_same x e from in rw rails refl
  write_sites x (sending chan at e) from = refl
  write_sites x (receiving chan chan_at y var_at) from = refl
  write_sites x (in_turn _) from = refl
  write_sites x (side_by_side _) from = refl
  write_sites x (choosing again _) from = refl
  write_sites x (repeating s) from = refl

  pub high_sites : SameSites (hidden_high q) (hidden_high p)
  high_sites skipping from = refl
  high_sites (assigning x at e) from = let r = reads_same x e in rw r refl
  high_sites (sending chan at e) from = refl
  high_sites (receiving chan chan_at x var_at) from = refl
  high_sites (in_turn _) from = refl
  high_sites (side_by_side _) from = refl
  high_sites (choosing again _) from = refl
  high_sites (repeating s) from = refl

  -- channels and variables

  pub wires_same : (k : ℕ) (cs : List Channel) → wires_from q k cs ≡ wires_from p k cs
  wires_same k [] = refl
  wires_same k (c ∷ cs) = let rest = wires_same (suc k) cs in rw rest refl

  pub vars_high_same : (x : ℕ) (vs : List Var) → vars_high q x vs ≡ vars_high p x vs
  vars_high_same x [] = refl
  vars_high_same x (v ∷ vs) = let rest = vars_high_same (suc x) vs in rw rest refl

-- nets of the same parts
pub nets_same : (ns ms : List (List ℕ)) (fs gs : List Bool) (rs ss : RulesValue) (ws vs : List Wires) → ns ≡ ms → fs ≡ gs → rs ≡ ss → ws ≡ vs
    → net_of ns fs rs ws None ≡ net_of ms gs ss vs None
nets_same ns ms fs gs rs ss ws vs names firsts rules wires =
    ap (λ n. net_of n fs rs ws None) names
    ∙ (ap (λ f. net_of ms f rs ws None) firsts ∙ (ap (λ x. net_of ms gs x ws None) rules ∙ ap (λ w. net_of ms gs ss w None) wires))

module _ (p : TypedProgram) where
  abbrev r : TypedProgram
  r = unplaced_form p

  in_body_same : {A : Type 0} (there here : Sites A) → SameSites p (unplaced_process p.body) there here → in_body r there ≡ in_body p here
  in_body_same there here h = sites_same p (unplaced_process p.body) there here h p.body (body_from p)

  channel_rules_same : (k width : ℕ) (kind : Kind) → channel_rules r k width kind ≡ channel_rules p k width kind
  channel_rules_same k width kind =
      ap (λ l. wire_rules l (in_body r (receive_site k)) width kind) (in_body_same (send_site k) (send_site k) (send_sites p (unplaced_process p.body) k))
      ∙ ap (λ l. wire_rules (in_body p (send_site k)) l width kind)
      (in_body_same (receive_site k) (receive_site k) (receive_sites p (unplaced_process p.body) k))

  channels_rules_same : (k : ℕ) (cs : List Channel) → channels_rules r k cs ≡ channels_rules p k cs
  channels_rules_same k [] = refl
  channels_rules_same k (c ∷ cs) =
      ap (λ l. l ++ channels_rules r (suc k) cs) (channel_rules_same k c.width c.kind)
      ∙ ap (λ l. channel_rules p k c.width c.kind ++ l) (channels_rules_same (suc k) cs)

  vars_rules_same : (x : ℕ) (vs : List Var) → vars_rules r x vs ≡ vars_rules p x vs
  vars_rules_same x [] = refl
  vars_rules_same x (v ∷ vs) =
      let sites = in_body_same (write_site r x) (write_site p x) (write_sites p (unplaced_process p.body) x) in
      let rest = vars_rules_same (suc x) vs in
      rw (sites, rest) refl

  rules_all_same : all_rules r ≡ all_rules p
  rules_all_same =
      let answer = answer_same p (unplaced_process p.body) p.body (body_from p) in
      let channels = channels_rules_same 0 p.channels in
      let vars = vars_rules_same 0 p.vars in
      let body = rules_same p (unplaced_process p.body) p.body (root_request p) (body_from p) in
      rw (answer, channels, vars, body) refl

  composed_same : composed r ≡ composed p
  composed_same =
      ap (λ (rules : List NodeRules). record { up = map (λ (n : NodeRules). n.up) rules; down = map (λ (n : NodeRules). n.down) rules }) rules_all_same

  pub nodes_same : nodes_of r ≡ nodes_of p
  nodes_same = ap (λ n. body_from p + n) (size_same p (unplaced_process p.body) p.body)

  first_same : first_values r ≡ first_values p
  first_same =
      let vars = vars_high_same p (unplaced_process p.body) 0 p.vars in
      let hidden = in_body_same (hidden_high r) (hidden_high p) (high_sites p (unplaced_process p.body)) in
      let count = nodes_same in
      rw (vars, hidden, count) refl

  names_same : node_names r ≡ node_names p
  names_same = let size = size_same p (unplaced_process p.body) p.body in rw size refl

  pub net_same : translation r ≡ translation p
  net_same =
      nets_same (node_names r) (node_names p) (first_values r) (first_values p) (composed r) (composed p) (wires_from r 0 p.channels)
      (wires_from p 0 p.channels) names_same first_same composed_same (wires_same p (unplaced_process p.body) 0 p.channels)

pub one_net : (p q : TypedProgram) → AreFormedAlike p q → translation p ≡ translation q
one_net p q alike = sym (net_same p) ∙ (ap translation alike ∙ net_same q)

pub one_count : (p q : TypedProgram) → AreFormedAlike p q → nodes_of p ≡ nodes_of q
one_count p q alike = sym (nodes_same p) ∙ (ap nodes_of alike ∙ nodes_same q)
