-- The guards of the net with shared bodies are over its own nodes alone.
--
-- C: the program with calls; P: that with copies; ps, bs: the bodies of the procedures; d: the answer of each body; count: how many
-- nodes there are; q: a procedure; x, y: statements with calls; r, from: a statement's request and first node.
use Rattle.std.proofs.Common.{◌≡◌, ℕ, zero, suc, ◌+◌, ◌<◌, ◌≤◌, ◌==◌, true, false, List, [], ◌∷◌, ◌++◌, length, inl, inr, All, refl, subst, arith}
use Rattle.std.specs.Prelude.{slice_index_or}
use Rattle.std.proofs.lemmas.List.Elements.{All-nil, All-cons, All-append}
use Rattle.chp_base.specs.declared.channel.Channel.{Channel}
use Rattle.chp_base.specs.declared.channel.Kind.{Kind}
use Rattle.chp_base.specs.declared.channel.Kind.TheVariants.{In, Out, Chan}
use Rattle.prs_core.specs.Nets.{IsRules, is_high, is_low}
use Rattle.prs_core.specs.Pairs.{Pair, no_rules, or_of, rails_of}
use Rattle.prs_core.specs.Sites.{site_answer}
use Rattle.width_check.specs.declared.typed.Var.{Var}
use Rattle.width_check.specs.Processes.{Process, skipping, member_count, choice_count, TypedProgram}
use Rattle.width_check.specs.Typing.{var_width, IsProcess, AreProcesses, AreChoices, IsTyped}
use Rattle.handshake_expand.specs.Layout.{size_of, block_size, var_from, root_request, go_node}
use Rattle.handshake_expand.specs.Answers.{guards_from, bodies_from, select_own, again_own}
use Rattle.handshake_expand.specs.Sites.{Sites, sites_in}
use Rattle.handshake_expand.proofs.Ranges.{answer_within}
use Rattle.cell_sequence.specs.Sequence.{q_child, q_latch, q_next, loop_request}
use Rattle.cell_parallel.specs.Trees.{tree_rules}
use Rattle.cell_variable.specs.Variables.{variable_rules}
use Rattle.cell_select.specs.Selections.{select_rules, again_rules}
use Rattle.net_compose.specs.Translation.{q_rules, guards_rules, rules_of, send_site, receive_site, write_site}
use Rattle.net_compose.specs.Points.{IsTranslated}
use Rattle.net_compose.proofs.EndsReady.{var_some}
use Rattle.net_compose.proofs.FlatBlocks.{blocks_below}
use Rattle.net_compose.proofs.NodesWithin.{IsNear, AreNear, AreWithin, AreSites, none_in, none, more as one_more, joined, one_one, two_one, q_in, site_in, or_in, tree_in, wire_in, block_in, range_near, select_in, again_in, guards_in, guards_near, statement_in, one_if, send_near, receive_near, write_near, sites_near, are_rules}
use Rattle.call_map.specs.Calling.{Called, calling, atom, turned, abreast, chosen, looped, Calleds, no_calleds, and_called, CalledChoices, no_called, or_called, inlined, inlined_each, inlined_choices, called_size, called_turn_size, called_branches_size, called_bodies_size, called_answer, called_turn_answer, called_branch_answers, called_ends, called_choosing, called_repeating, called_rules, called_turn_rules, called_branches_rules, called_bodies_rules, called_sites, called_turn_sites, called_branch_sites, called_body_sites, called_requests, called_turn_requests, called_branch_requests, called_body_requests}
use Rattle.call_map.specs.CallsApart.{Calls, OneCalls, ChoiceCalls}
use Rattle.call_map.specs.CallNet.{CallProgram, inlined_program, procs_size, body_start, body_sites, procs_from, call_root, body_at, body_begins, proc_answer, call_answer, asks_of, proc_rules, all_sites, call_channel_rules, call_channels_rules, call_vars_rules, call_rules, call_count, call_composed, IsCallProgram}
use Rattle.call_map.proofs.ItemsAlike.{ends_long}
use Rattle.call_map.proofs.CallOrder.{CallFacts}
use Rattle.call_map.proofs.CallListed.{call_facts}
use Rattle.call_map.proofs.CallFirsts.{rules_long}

module _ (P : TypedProgram) (ps : List Process) where
  -- a statement's answer is a node of its own
  mutual
    own_answer : (x : Called) (from : ℕ) → IsProcess P.channels P.vars (inlined ps x)
        → (from ≤ called_answer ps P x from) × (called_answer ps P x from < from + called_size ps P x)
    own_answer (calling q) from t = (omega arith, omega arith)
    own_answer (atom s) from t = answer_within P s from t
    own_answer (turned members) from t = last_answer members from (omega (arith, t.0)) t.1
    own_answer (abreast no_calleds) from t = let some = t.0 in absurd (let g : ⊥ = omega (arith, some) in g)
    own_answer (abreast (and_called x more)) from t = (omega arith, omega arith)
    own_answer (chosen false choices) from t = (omega arith, omega arith)
    own_answer (chosen true choices) from t = (omega arith, omega arith)
    own_answer (looped x) from t = (omega arith, omega arith)

    last_answer : (members : Calleds) (from : ℕ) → 0 < member_count (inlined_each ps members) → AreProcesses P.channels P.vars (inlined_each ps members)
        → (from ≤ called_turn_answer ps P members from) × (called_turn_answer ps P members from < from + called_turn_size ps P members)
    last_answer no_calleds from some t = absurd (let g : ⊥ = omega (arith, some) in g)
    last_answer (and_called x no_calleds) from some t = own_answer x from t.0
    last_answer (and_called x (and_called y more)) from some t =
        let rest : (from + 3 + called_size ps P x ≤ called_turn_answer ps P (and_called y more) (from + 3 + called_size ps P x))
        × (called_turn_answer ps P (and_called y more) (from + 3 + called_size ps P x)
        < from + 3 + called_size ps P x + called_turn_size ps P (and_called y more)) =
        last_answer (and_called y more) (from + 3 + called_size ps P x) (omega arith) t.1 in
        (omega (arith, rest.0), omega (arith, rest.1))

  -- a body's nodes are among those of the procedures
  body_within : (bs : List Process) (from q : ℕ) → q < length bs
      → (from ≤ body_start P bs from q) × (body_start P bs from q + size_of P (slice_index_or bs q skipping) ≤ from + procs_size P bs)
  body_within [] from q l = absurd (let g : ⊥ = omega (arith, l) in g)
  body_within (b ∷ bs) from zero l = (omega arith, omega arith)
  body_within (b ∷ bs) from (suc q) l =
      let rest = body_within bs (from + 1 + size_of P b) q (omega (arith, l)) in
      (omega (arith, rest.0), omega (arith, rest.1))

module _ (P : TypedProgram) (typed : IsTyped P.channels P.vars P.body) (count : ℕ) (room : root_request P + 2 ≤ count) (ps : List Process) where
  -- the requests of a procedure's calls
  module _ (q : ℕ) where
    mutual
      asks_near : (x : Called) (r from : ℕ) → r < count → from + called_size ps P x ≤ count → AreNear count (called_requests ps P q x r from)
      asks_near (calling t) r from asked end = one_if (IsNear count) (t == q) r (λ same. asked)
      asks_near (atom s) r from asked end = All-nil (IsNear count)
      asks_near (turned members) r from asked end = turn_asks members r from asked end
      asks_near (abreast members) r from asked end = branch_asks members from (omega (arith, end))
      asks_near (chosen false choices) r from asked end =
          arm_asks choices (from + select_own + choice_count (inlined_choices ps choices)) (bodies_from (inlined_choices ps choices) select_own from)
          (omega (arith, end)) (omega (arith, end))
      asks_near (chosen true choices) r from asked end =
          arm_asks choices (from + again_own + choice_count (inlined_choices ps choices)) (bodies_from (inlined_choices ps choices) again_own from)
          (omega (arith, end)) (omega (arith, end))
      asks_near (looped x) r from asked end = asks_near x (from + 1) (from + 2) (omega (arith, end)) (omega (arith, end))

      turn_asks : (members : Calleds) (r from : ℕ) → r < count → from + called_turn_size ps P members ≤ count
          → AreNear count (called_turn_requests ps P q members r from)
      turn_asks no_calleds r from asked end = All-nil (IsNear count)
      turn_asks (and_called x no_calleds) r from asked end = asks_near x r from asked end
      turn_asks (and_called x (and_called y more)) r from asked end =
          let next = from + 3 + called_size ps P x in
          All-append (IsNear count) (called_requests ps P q x from (from + 3)) (called_turn_requests ps P q (and_called y more) (from + 2) next)
          (asks_near x from (from + 3) (omega (arith, end)) (omega (arith, end)))
          (turn_asks (and_called y more) (from + 2) (from + 3 + called_size ps P x) (omega (arith, end)) (omega (arith, end)))

      branch_asks : (members : Calleds) (from : ℕ) → from + called_branches_size ps P members ≤ count
          → AreNear count (called_branch_requests ps P q members from)
      branch_asks no_calleds from end = All-nil (IsNear count)
      branch_asks (and_called x more) from end =
          let next = from + 3 + called_size ps P x in
          All-append (IsNear count) (called_requests ps P q x from (from + 3)) (called_branch_requests ps P q more next)
          (asks_near x from (from + 3) (omega (arith, end)) (omega (arith, end)))
          (branch_asks more (from + 3 + called_size ps P x) (omega (arith, end)))

      arm_asks : (choices : CalledChoices) (start from : ℕ) → start + choice_count (inlined_choices ps choices) ≤ count
          → from + called_bodies_size ps P choices ≤ count → AreNear count (called_body_requests ps P q choices start from)
      arm_asks no_called start from starts end = All-nil (IsNear count)
      arm_asks (or_called g x more) start from starts end =
          let next = from + called_size ps P x in
          All-append (IsNear count) (called_requests ps P q x start from) (called_body_requests ps P q more (start + 1) next)
          (asks_near x start from (omega (arith, starts)) (omega (arith, end)))
          (arm_asks more (start + 1) (from + called_size ps P x) (omega (arith, starts)) (omega (arith, end)))

  -- what statements contribute to wires and variables
  module _ {A : Type 0} (Good : A → Type 0) (site : Sites A)
      (own : (s : Process) (from : ℕ) → IsProcess P.channels P.vars s → from + size_of P s ≤ count → All Good (site s from)) where
    abbrev in_statement : (s : Process) (from : ℕ) → IsProcess P.channels P.vars s → from + size_of P s ≤ count → All Good (sites_in P site s from)
    in_statement = sites_near P typed count room Good site own

    mutual
      called_near : (x : Called) (from : ℕ) → IsProcess P.channels P.vars (inlined ps x) → from + called_size ps P x ≤ count
          → All Good (called_sites ps P site x from)
      called_near (calling q) from t end = All-nil Good
      called_near (atom s) from t end = in_statement s from t end
      called_near (turned members) from t end = called_turn_near members from t.1 end
      called_near (abreast members) from t end = called_branches_near members from t.1 (omega (arith, end))
      called_near (chosen false choices) from t end =
          called_arms_near choices (bodies_from (inlined_choices ps choices) select_own from) t.2 (omega (arith, end))
      called_near (chosen true choices) from t end =
          called_arms_near choices (bodies_from (inlined_choices ps choices) again_own from) t.2 (omega (arith, end))
      called_near (looped x) from t end = called_near x (from + 2) t (omega (arith, end))

      called_turn_near : (members : Calleds) (from : ℕ) → AreProcesses P.channels P.vars (inlined_each ps members)
          → from + called_turn_size ps P members ≤ count → All Good (called_turn_sites ps P site members from)
      called_turn_near no_calleds from t end = All-nil Good
      called_turn_near (and_called x no_calleds) from t end = called_near x from t.0 end
      called_turn_near (and_called x (and_called y more)) from t end =
          let next = from + 3 + called_size ps P x in
          All-append Good (called_sites ps P site x (from + 3)) (called_turn_sites ps P site (and_called y more) next)
          (called_near x (from + 3) t.0 (omega (arith, end)))
          (called_turn_near (and_called y more) (from + 3 + called_size ps P x) t.1 (omega (arith, end)))

      called_branches_near : (members : Calleds) (from : ℕ) → AreProcesses P.channels P.vars (inlined_each ps members)
          → from + called_branches_size ps P members ≤ count → All Good (called_branch_sites ps P site members from)
      called_branches_near no_calleds from t end = All-nil Good
      called_branches_near (and_called x more) from t end =
          let next = from + 3 + called_size ps P x in
          All-append Good (called_sites ps P site x (from + 3)) (called_branch_sites ps P site more next)
          (called_near x (from + 3) t.0 (omega (arith, end)))
          (called_branches_near more (from + 3 + called_size ps P x) t.1 (omega (arith, end)))

      called_arms_near : (choices : CalledChoices) (from : ℕ) → AreChoices P.channels P.vars (inlined_choices ps choices)
          → from + called_bodies_size ps P choices ≤ count → All Good (called_body_sites ps P site choices from)
      called_arms_near no_called from t end = All-nil Good
      called_arms_near (or_called g x more) from t end =
          let next = from + called_size ps P x in
          All-append Good (called_sites ps P site x from) (called_body_sites ps P site more next)
          (called_near x from t.1 (omega (arith, end)))
          (called_arms_near more (from + called_size ps P x) t.2 (omega (arith, end)))

    procs_near : (bs : List Process) (from : ℕ) → ((j : ℕ) → j < length bs → IsProcess P.channels P.vars (slice_index_or bs j skipping))
        → from + procs_size P bs ≤ count → All Good (body_sites P site bs from)
    procs_near [] from t end = All-nil Good
    procs_near (b ∷ bs) from t end =
        let next = from + 1 + size_of P b in
        All-append Good (sites_in P site b (from + 1)) (body_sites P site bs next)
        (in_statement b (from + 1) (t 0 (omega arith)) (omega (arith, end)))
        (procs_near bs (from + 1 + size_of P b) (λ j l. t (suc j) (omega (arith, l))) (omega (arith, end)))

  -- the rules of a statement
  module _ (d : ℕ → ℕ) where
    called_answers_near : (choices : CalledChoices) (from : ℕ) → AreChoices P.channels P.vars (inlined_choices ps choices)
        → from + called_bodies_size ps P choices ≤ count → AreNear count (called_branch_answers ps P choices from)
    called_answers_near no_called from t end = All-nil (IsNear count)
    called_answers_near (or_called g x more) from t end =
        let inside = own_answer P ps x from t.1 in
        All-cons (IsNear count) (called_answer ps P x from) (called_branch_answers ps P more (from + called_size ps P x)) (omega (arith, inside.1, end))
        (called_answers_near more (from + called_size ps P x) t.2 (omega (arith, end)))

    called_ends_near : (members : Calleds) (from : ℕ) → from + called_branches_size ps P members ≤ count → AreNear count (called_ends ps P members from)
    called_ends_near no_calleds from end = All-nil (IsNear count)
    called_ends_near (and_called x more) from end =
        All-cons (IsNear count) (from + 2) (called_ends ps P more (from + 3 + called_size ps P x)) (omega (arith, end))
        (called_ends_near more (from + 3 + called_size ps P x) (omega (arith, end)))

    mutual
      called_in : (x : Called) (r from : ℕ) → IsProcess P.channels P.vars (inlined ps x) → ((q : ℕ) → Calls x q → d q < count)
          → root_request P ≤ r → r < count → root_request P ≤ from → from + called_size ps P x ≤ count → AreWithin count (called_rules ps P d x r from)
      called_in (calling q) r from t answers low asked base end =
          one_more count (site_answer r (d q)) [] (site_in count r (d q) asked (answers q refl)) (none count)
      called_in (atom s) r from t answers low asked base end = statement_in P typed count room s r from t low asked base end
      called_in (turned members) r from t answers low asked base end = called_turn_in members r from t.1 answers low asked base end
      called_in (abreast members) r from t answers low asked base end =
          let ends = ends_long P ps d members from in
          let some = t.0 in
          joined count (called_branches_rules ps P d members r from)
          (tree_rules (called_ends ps P members from) (from + called_branches_size ps P members))
          (called_branches_in members r from t.1 answers low asked base (omega (arith, end)))
          (tree_in count (called_ends ps P members from) (from + called_branches_size ps P members) (called_ends_near members from (omega (arith, end)))
          (omega (arith, ends, end, some)))
      called_in (chosen false choices) r from t answers low asked base end =
          let cs = inlined_choices ps choices in
          let guards = guards_rules P cs (from + 1) (guards_from cs select_own from) in
          let bodies = called_bodies_rules ps P d choices (from + select_own + choice_count cs) (bodies_from cs select_own from) in
          joined count (select_rules (called_choosing ps P choices r (from + 2) select_own from)) (guards ++ bodies)
          (select_in count (called_choosing ps P choices r (from + 2) select_own from) asked (omega (arith, end))
          (range_near count (from + select_own) (choice_count cs) (omega (arith, end)))
          (guards_near P typed count room cs (guards_from cs select_own from) t.2 (omega (arith, end)))
          (called_answers_near choices (bodies_from cs select_own from) t.2 (omega (arith, end))))
          (joined count guards bodies
          (guards_in P typed count room cs (from + 1) (guards_from cs select_own from) t.2 (omega (arith, base)) (omega (arith, end)) (omega (arith, end)))
          (called_bodies_in choices (from + select_own + choice_count cs) (bodies_from cs select_own from) t.2 answers (omega (arith, base))
          (omega (arith, end)) (omega (arith, base)) (omega (arith, end))))
      called_in (chosen true choices) r from t answers low asked base end =
          let cs = inlined_choices ps choices in
          let guards = guards_rules P cs (from + 3) (guards_from cs again_own from) in
          let bodies = called_bodies_rules ps P d choices (from + again_own + choice_count cs) (bodies_from cs again_own from) in
          joined count (again_rules (called_repeating ps P choices r from)) (guards ++ bodies)
          (again_in count (called_repeating ps P choices r from) asked (omega (arith, end)) (omega (arith, end)) (omega (arith, end)) (omega (arith, end))
          (range_near count (from + again_own) (choice_count cs) (omega (arith, end)))
          (guards_near P typed count room cs (guards_from cs again_own from) t.2 (omega (arith, end)))
          (called_answers_near choices (bodies_from cs again_own from) t.2 (omega (arith, end))))
          (joined count guards bodies
          (guards_in P typed count room cs (from + 3) (guards_from cs again_own from) t.2 (omega (arith, base)) (omega (arith, end)) (omega (arith, end)))
          (called_bodies_in choices (from + again_own + choice_count cs) (bodies_from cs again_own from) t.2 answers (omega (arith, base))
          (omega (arith, end)) (omega (arith, base)) (omega (arith, end))))
      called_in (looped x) r from t answers low asked base end =
          let inside = own_answer P ps x (from + 2) t in
          let answer = called_answer ps P x (from + 2) in
          let answered : called_answer ps P x (from + 2) < count = omega (arith, inside.1, end) in
          one_more count no_rules (loop_request r answer ∷ called_rules ps P d x (from + 1) (from + 2)) (none_in count)
          (one_more count (loop_request r answer) (called_rules ps P d x (from + 1) (from + 2))
          (two_one count (is_high r) (is_low answer) (is_high answer) asked answered answered)
          (called_in x (from + 1) (from + 2) t answers (omega (arith, base)) (omega (arith, end)) (omega (arith, base)) (omega (arith, end))))

      called_turn_in : (members : Calleds) (r from : ℕ) → AreProcesses P.channels P.vars (inlined_each ps members)
          → ((q : ℕ) → OneCalls members q → d q < count) → root_request P ≤ r → r < count → root_request P ≤ from
          → from + called_turn_size ps P members ≤ count → AreWithin count (called_turn_rules ps P d members r from)
      called_turn_in no_calleds r from t answers low asked base end = none count
      called_turn_in (and_called x no_calleds) r from t answers low asked base end =
          called_in x r from t.0 (λ q c. answers q (inl c)) low asked base end
      called_turn_in (and_called x (and_called y more)) r from t answers low asked base end =
          let inside = own_answer P ps x (from + 3) t.0 in
          let next = from + 3 + called_size ps P x in
          joined count (q_rules r (called_answer ps P x (from + 3)) from)
          (called_rules ps P d x from (from + 3) ++ called_turn_rules ps P d (and_called y more) (from + 2) next)
          (q_in count r (called_answer ps P x (from + 3)) from asked (omega (arith, inside.1, end)) (omega (arith, end)))
          (joined count (called_rules ps P d x from (from + 3)) (called_turn_rules ps P d (and_called y more) (from + 2) next)
          (called_in x from (from + 3) t.0 (λ q c. answers q (inl c)) base (omega (arith, end)) (omega (arith, base)) (omega (arith, end)))
          (called_turn_in (and_called y more) (from + 2) (from + 3 + called_size ps P x) t.1 (λ q c. answers q (inr c)) (omega (arith, base))
          (omega (arith, end)) (omega (arith, base)) (omega (arith, end))))

      called_branches_in : (members : Calleds) (r from : ℕ) → AreProcesses P.channels P.vars (inlined_each ps members)
          → ((q : ℕ) → OneCalls members q → d q < count) → root_request P ≤ r → r < count → root_request P ≤ from
          → from + called_branches_size ps P members ≤ count → AreWithin count (called_branches_rules ps P d members r from)
      called_branches_in no_calleds r from t answers low asked base end = none count
      called_branches_in (and_called x more) r from t answers low asked base end =
          let inside = own_answer P ps x (from + 3) t.0 in
          let next = from + 3 + called_size ps P x in
          joined count (q_rules r (called_answer ps P x (from + 3)) from)
          (called_rules ps P d x from (from + 3) ++ called_branches_rules ps P d more r next)
          (q_in count r (called_answer ps P x (from + 3)) from asked (omega (arith, inside.1, end)) (omega (arith, end)))
          (joined count (called_rules ps P d x from (from + 3)) (called_branches_rules ps P d more r next)
          (called_in x from (from + 3) t.0 (λ q c. answers q (inl c)) base (omega (arith, end)) (omega (arith, base)) (omega (arith, end)))
          (called_branches_in more r (from + 3 + called_size ps P x) t.1 (λ q c. answers q (inr c)) low asked (omega (arith, base)) (omega (arith, end))))

      called_bodies_in : (choices : CalledChoices) (start from : ℕ) → AreChoices P.channels P.vars (inlined_choices ps choices)
          → ((q : ℕ) → ChoiceCalls choices q → d q < count) → root_request P ≤ start → start + choice_count (inlined_choices ps choices) ≤ count
          → root_request P ≤ from → from + called_bodies_size ps P choices ≤ count → AreWithin count (called_bodies_rules ps P d choices start from)
      called_bodies_in no_called start from t answers low asked base end = none count
      called_bodies_in (or_called g x more) start from t answers low asked base end =
          joined count (called_rules ps P d x start from) (called_bodies_rules ps P d more (start + 1) (from + called_size ps P x))
          (called_in x start from t.1 (λ q c. answers q (inl c)) low (omega (arith, asked)) base (omega (arith, end)))
          (called_bodies_in more (start + 1) (from + called_size ps P x) t.2 (λ q c. answers q (inr c)) (omega (arith, low)) (omega (arith, asked))
          (omega (arith, base)) (omega (arith, end)))

module _ (C : CallProgram) (is : IsCallProgram C) (t : IsTranslated (inlined_program C)) where
  abbrev P : TypedProgram
  P = inlined_program C

  abbrev count : ℕ
  count = call_count C

  facts : CallFacts C
  facts = call_facts C is t

  some_nodes : 1 < count
  some_nodes = omega arith

  room : root_request P + 2 ≤ count
  room = omega arith

  sites_all : {A : Type 0} (Good : A → Type 0) (site : Sites A)
      → ((s : Process) (from : ℕ) → IsProcess P.channels P.vars s → from + size_of P s ≤ count → All Good (site s from)) → All Good (all_sites C site)
  sites_all Good site own =
      All-append Good (body_sites P site C.procs (procs_from C)) (called_sites C.procs P site C.body (call_root C + 2))
      (procs_near P t.typed count room C.procs Good site own C.procs (procs_from C) facts.bodies (omega arith))
      (called_near P t.typed count room C.procs Good site own C.body (call_root C + 2) facts.typed (omega arith))

  sends_near : (k : ℕ) → AreSites count (all_sites C (send_site k))
  sends_near k = sites_all (λ (s : List Pair). AreNear count (rails_of s)) (send_site k) (send_near P t.typed count room k)

  takes_near : (k : ℕ) → AreNear count (all_sites C (receive_site k))
  takes_near k = sites_all (IsNear count) (receive_site k) (receive_near P t.typed count room k)

  writes_near : (x : ℕ) → AreSites count (all_sites C (write_site P x))
  writes_near x = sites_all (λ (s : List Pair). AreNear count (rails_of s)) (write_site P x) (write_near P t.typed count room x)

  wires_in : (k width : ℕ) (kind : Kind) → AreWithin count (call_channel_rules C k width kind)
  wires_in k width In = wire_in count some_nodes (all_sites C (send_site k)) (sends_near k) (all_sites C (receive_site k)) (takes_near k) width In
  wires_in k width Out = wire_in count some_nodes (all_sites C (send_site k)) (sends_near k) (all_sites C (receive_site k)) (takes_near k) width Out
  wires_in k width Chan = wire_in count some_nodes (all_sites C (send_site k)) (sends_near k) (all_sites C (receive_site k)) (takes_near k) width Chan

  channels_in : (k : ℕ) (cs : List Channel) → AreWithin count (call_channels_rules C k cs)
  channels_in k [] = none count
  channels_in k (c ∷ cs) =
      joined count (call_channel_rules C k c.width c.kind) (call_channels_rules C (suc k) cs) (wires_in k c.width c.kind) (channels_in (suc k) cs)

  -- a variable of some width, whose block ends where its nodes do
  abbrev Fits : (x width : ℕ) → Type 0
  Fits x width = (1 ≤ width) × (var_from P x + block_size width ≤ count)

  vars_in : (x : ℕ) (vs : List Var) → ((j : ℕ) → j < length vs → Fits (x + j) (var_width vs j)) → AreWithin count (call_vars_rules C x vs)
  vars_in x [] fit = none count
  vars_in x (v ∷ vs) fit =
      let own = subst (λ y. Fits y v.width) (let e : x + 0 ≡ x = omega arith in e) (fit 0 (omega arith)) in
      joined count (variable_rules v.width (var_from P x) (all_sites C (write_site P x))) (call_vars_rules C (suc x) vs)
      (block_in count some_nodes (all_sites C (write_site P x)) (writes_near x) v.width (var_from P x) own.0 own.1)
      (vars_in (suc x) vs (λ j l. subst (λ y. Fits y (var_width vs j)) (let e : x + suc j ≡ suc x + j = omega arith in e) (fit (suc j) (omega (arith, l)))))

  each_fits : (j : ℕ) → j < length C.vars → Fits (0 + j) (var_width C.vars j)
  each_fits j l =
      let e : j ≡ 0 + j = omega arith in
      let below = blocks_below C.vars j l in
      subst (λ y. Fits y (var_width C.vars j)) e (var_some C.vars j t.typed.each_var l, omega (arith, below))

  procs_in : (q : ℕ) (bs : List Process) (from : ℕ) → ((j : ℕ) → j < length bs → IsProcess P.channels P.vars (slice_index_or bs j skipping))
      → root_request P ≤ from → from + procs_size P bs ≤ count → AreWithin count (proc_rules C q bs from)
  procs_in q [] from h base end = none count
  procs_in q (b ∷ bs) from h base end =
      let next = from + 1 + size_of P b in
      one_more count (or_of (asks_of C q)) (rules_of P b from (from + 1) ++ proc_rules C (suc q) bs next)
      (or_in count (asks_of C q) (asks_near P t.typed count room C.procs q C.body (call_root C) (call_root C + 2) (omega arith) (omega arith)))
      (joined count (rules_of P b from (from + 1)) (proc_rules C (suc q) bs next)
      (statement_in P t.typed count room b from (from + 1) (h 0 (omega arith)) base (omega (arith, end)) (omega (arith, base)) (omega (arith, end)))
      (procs_in (suc q) bs (from + 1 + size_of P b) (λ j l. h (suc j) (omega (arith, l))) (omega (arith, base)) (omega (arith, end))))

  answers_near : (q : ℕ) → Calls C.body q → proc_answer C q < count
  answers_near q c =
      let l = is.declared q c in
      let own = answer_within P (body_at C q) (body_begins C q) (facts.bodies q l) in
      let inside = body_within P C.procs C.procs (procs_from C) q l in
      omega (arith, own.1, inside.1)

  pub all_within : AreWithin count (call_rules C)
  all_within =
      let inside = own_answer P C.procs C.body (call_root C + 2) facts.typed in
      let answered : call_answer C < count = omega (arith, inside.1) in
      let latch : call_root C + 1 < count = omega arith in
      let body = called_rules C.procs P (proc_answer C) C.body (call_root C) (call_root C + 2) in
      let root = q_child go_node (call_root C + 1) ∷ q_latch go_node (call_answer C) ∷ body in
      let behind = call_vars_rules C 0 C.vars ++ (proc_rules C 0 C.procs (procs_from C) ++ root) in
      one_more count no_rules (q_next (call_root C + 1) (call_answer C) ∷ (call_channels_rules C 0 C.channels ++ behind)) (none_in count)
      (one_more count (q_next (call_root C + 1) (call_answer C)) (call_channels_rules C 0 C.channels ++ behind)
      (two_one count (is_high (call_root C + 1)) (is_low (call_answer C)) (is_low (call_root C + 1)) latch answered latch)
      (joined count (call_channels_rules C 0 C.channels) behind (channels_in 0 C.channels)
      (joined count (call_vars_rules C 0 C.vars) (proc_rules C 0 C.procs (procs_from C) ++ root) (vars_in 0 C.vars each_fits)
      (joined count (proc_rules C 0 C.procs (procs_from C)) root
      (procs_in 0 C.procs (procs_from C) facts.bodies (omega arith) (omega arith))
      (one_more count (q_child go_node (call_root C + 1)) (q_latch go_node (call_answer C) ∷ body)
      (two_one count (is_high go_node) (is_low (call_root C + 1)) (is_high (call_root C + 1)) (omega arith) latch latch)
      (one_more count (q_latch go_node (call_answer C)) body (one_one count (is_high (call_answer C)) (is_low go_node) answered (omega arith))
      (called_in P t.typed count room C.procs (proc_answer C) C.body (call_root C) (call_root C + 2) facts.typed answers_near (omega arith) (omega arith)
      (omega arith) (omega arith))))))))

  pub call_rules_hold : call_count C ≤ 65536 → IsRules (call_composed C)
  call_rules_hold small = are_rules (call_count C) (call_rules C) (rules_long C facts is.unread) (omega (arith, small)) all_within
