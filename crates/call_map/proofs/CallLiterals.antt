-- The guards of the net with shared bodies have at most 64 literals for each node: a procedure's request has two for each call,
-- and each call has a node of its own.
--
-- C: the program with calls; P: that with copies; ps, bs: the bodies of the procedures; d: the answer of each body; q: a
-- procedure; x: a statement with calls; r, from: its request and first node.
use Rattle.std.proofs.Common.{◌≡◌, ◌≢◌, ℕ, suc, ◌+◌, ◌*◌, ◌≤◌, ◌<◌, ◌==◌, Bool, true, false, List, [], ◌∷◌, ◌++◌, length, refl, ap, arith, ⊎_elim, length-append}
use Rattle.std.specs.Prelude.{if◌then◌else◌, replicate, slice_index_or}
use Rattle.std.proofs.lemmas.Bool.{cases_eq, ne_eqb}
use Rattle.std.proofs.lemmas.List.FromFn.{length-range_with_len}
use Rattle.chp_base.specs.declared.channel.Channel.{Channel}
use Rattle.chp_base.specs.declared.channel.Kind.{Kind}
use Rattle.chp_base.specs.declared.channel.Kind.TheVariants.{In, Out, Chan}
use Rattle.prs_core.specs.Pairs.{no_rules, or_of}
use Rattle.width_check.specs.declared.typed.Var.{Var}
use Rattle.width_check.specs.Processes.{Process, skipping, choice_count, TypedProgram}
use Rattle.width_check.specs.Typing.{IsProcess, AreProcesses, AreChoices}
use Rattle.handshake_expand.specs.Layout.{size_of, var_from, blocks_before}
use Rattle.handshake_expand.specs.Answers.{guards_from, select_own, again_own}
use Rattle.cell_sequence.specs.Sequence.{q_child, q_latch}
use Rattle.cell_parallel.specs.Trees.{tree_rules}
use Rattle.cell_variable.specs.Variables.{variable_rules}
use Rattle.cell_select.specs.Selections.{select_rules, again_rules}
use Rattle.net_compose.specs.Translation.{guards_rules, rules_of, send_site, receive_site, write_site, rail_rules}
use Rattle.net_compose.proofs.Sizes.{pairs_of_guards}
use Rattle.net_compose.proofs.FlatRules.{counted}
use Rattle.net_compose.proofs.GuardCosts.{cost, cost-append, tree_cheap, or_cost, silent_cost}
use Rattle.net_compose.proofs.NetLiterals.{times, at_channels, at_vars, rails_cost, select_cost, again_cost, OfCount, share, share_both, share_none, share_of, block_cost, guards_cost, fits}
use Rattle.call_map.specs.Calling.{Called, calling, atom, turned, abreast, chosen, looped, Calleds, no_calleds, and_called, CalledChoices, no_called, or_called, inlined, inlined_each, inlined_choices, called_size, called_turn_size, called_branches_size, called_bodies_size, called_bodies_from, called_rules, called_turn_rules, called_branches_rules, called_bodies_rules, called_choosing, called_repeating, called_ends, called_branch_answers, called_sites, called_turn_sites, called_branch_sites, called_body_sites, called_requests, called_turn_requests, called_branch_requests, called_body_requests}
use Rattle.call_map.specs.CallNet.{CallProgram, inlined_program, procs_from, procs_size, body_sites, call_root, call_count, proc_answer, asks_of, proc_rules, all_sites, call_channel_rules, call_channels_rules, call_vars_rules, call_answer, call_rules}
use Rattle.call_map.proofs.ItemsAlike.{ends_long}

-- something counted for each procedure from a number on
abbrev each_proc : (ℕ → ℕ) → (q : ℕ) → List Process → ℕ
each_proc f q [] = 0
each_proc f q (b ∷ bs) = f q + each_proc f (suc q) bs

each_both : {A : Type 0} (f g : ℕ → List A) (q : ℕ) (bs : List Process)
    → each_proc (λ i. length (f i ++ g i)) q bs ≡ each_proc (λ i. length (f i)) q bs + each_proc (λ i. length (g i)) q bs
each_both f g q [] = refl
each_both f g q (b ∷ bs) = let e = length-append (f q) (g q) in let h = each_both f g (suc q) bs in omega (arith, e, h)

each_none : (q : ℕ) (bs : List Process) → each_proc (λ i. 0) q bs ≡ 0
each_none q [] = refl
each_none q (b ∷ bs) = let e = each_none (suc q) bs in omega (arith, e)

-- a call is one of one procedure
module _ (t r : ℕ) where
  abbrev asked_by : ℕ → ℕ
  asked_by i = length (if t == i then r ∷ [] else [])

  no_call : (i : ℕ) → t ≢ i → asked_by i ≡ 0
  no_call i ne = ap (λ b. length (if b then r ∷ [] else [])) (ne_eqb t i ne)

  at_most : (i : ℕ) → asked_by i ≤ 1
  at_most i = by (t == i)
    where
      by : (b : Bool) → length (if b then r ∷ [] else []) ≤ 1
      by true = omega arith
      by false = omega arith

  past_call : (q : ℕ) (bs : List Process) → t < q → each_proc asked_by q bs ≡ 0
  past_call q [] l = refl
  past_call q (b ∷ bs) l =
      let e = no_call q (λ z. absurd (omega (arith, z, l))) in
      let h = past_call (suc q) bs (omega (arith, l)) in
      omega (arith, e, h)

  one_call : (q : ℕ) (bs : List Process) → each_proc asked_by q bs ≤ 1
  one_call q [] = omega arith
  one_call q (b ∷ bs) = ⊎_elim
      (λ (same : t ≡ q). let e = at_most q in let h = past_call (suc q) bs (omega (arith, same)) in omega (arith, e, h))
      (λ (ne : t ≢ q). let e = no_call q ne in let h = one_call (suc q) bs in omega (arith, e, h))
      (cases_eq t q)

-- how many calls there are
abbrev mutual
  calls_of : Called → ℕ
  calls_of (calling q) = 1
  calls_of (atom s) = 0
  calls_of (turned members) = calls_of_each members
  calls_of (abreast members) = calls_of_each members
  calls_of (chosen again choices) = calls_of_choices choices
  calls_of (looped x) = calls_of x

  calls_of_each : Calleds → ℕ
  calls_of_each no_calleds = 0
  calls_of_each (and_called x more) = calls_of x + calls_of_each more

  calls_of_choices : CalledChoices → ℕ
  calls_of_choices no_called = 0
  calls_of_choices (or_called g x more) = calls_of x + calls_of_choices more

module _ (P : TypedProgram) (ps : List Process) (d : ℕ → ℕ) where
  module _ (q : ℕ) (bs : List Process) where
    mutual
      few_asks : (x : Called) (r from : ℕ) → each_proc (λ i. length (called_requests ps P i x r from)) q bs ≤ calls_of x
      few_asks (calling t) r from = one_call t r q bs
      few_asks (atom s) r from = let e = each_none q bs in omega (arith, e)
      few_asks (turned members) r from = few_turn members r from
      few_asks (abreast members) r from = few_branch members from
      few_asks (chosen false choices) r from =
          few_body choices (from + select_own + choice_count (inlined_choices ps choices)) (called_bodies_from ps P choices select_own from)
      few_asks (chosen true choices) r from =
          few_body choices (from + again_own + choice_count (inlined_choices ps choices)) (called_bodies_from ps P choices again_own from)
      few_asks (looped x) r from = few_asks x (from + 1) (from + 2)

      few_turn : (members : Calleds) (r from : ℕ) → each_proc (λ i. length (called_turn_requests ps P i members r from)) q bs ≤ calls_of_each members
      few_turn no_calleds r from = let e = each_none q bs in omega (arith, e)
      few_turn (and_called x no_calleds) r from = let e = few_asks x r from in omega (arith, e)
      few_turn (and_called x (and_called y more)) r from =
          let next = from + 3 + called_size ps P x in
          let e = each_both (λ i. called_requests ps P i x from (from + 3)) (λ i. called_turn_requests ps P i (and_called y more) (from + 2) next) q bs in
          let f = few_asks x from (from + 3) in
          let g = few_turn (and_called y more) (from + 2) (from + 3 + called_size ps P x) in
          omega (arith, e, f, g)

      few_branch : (members : Calleds) (from : ℕ) → each_proc (λ i. length (called_branch_requests ps P i members from)) q bs ≤ calls_of_each members
      few_branch no_calleds from = let e = each_none q bs in omega (arith, e)
      few_branch (and_called x more) from =
          let next = from + 3 + called_size ps P x in
          let e = each_both (λ i. called_requests ps P i x from (from + 3)) (λ i. called_branch_requests ps P i more next) q bs in
          let f = few_asks x from (from + 3) in
          let g = few_branch more (from + 3 + called_size ps P x) in
          omega (arith, e, f, g)

      few_body : (choices : CalledChoices) (start from : ℕ)
          → each_proc (λ i. length (called_body_requests ps P i choices start from)) q bs ≤ calls_of_choices choices
      few_body no_called start from = let e = each_none q bs in omega (arith, e)
      few_body (or_called g x more) start from =
          let next = from + called_size ps P x in
          let e = each_both (λ i. called_requests ps P i x start from) (λ i. called_body_requests ps P i more (start + 1) next) q bs in
          let f = few_asks x start from in
          let h = few_body more (start + 1) (from + called_size ps P x) in
          omega (arith, e, f, h)

  -- what merges cost for a statement's sites
  abbrev called_share : Called → (from : ℕ) → ℕ
  called_share x from =
      share P (λ k. called_sites ps P (send_site k) x from) (λ k. called_sites ps P (receive_site k) x from) (λ y. called_sites ps P (write_site P y) x from)

  abbrev turn_share : Calleds → (from : ℕ) → ℕ
  turn_share ms from =
      share P (λ k. called_turn_sites ps P (send_site k) ms from) (λ k. called_turn_sites ps P (receive_site k) ms from)
      (λ y. called_turn_sites ps P (write_site P y) ms from)

  abbrev branch_share : Calleds → (from : ℕ) → ℕ
  branch_share ms from =
      share P (λ k. called_branch_sites ps P (send_site k) ms from) (λ k. called_branch_sites ps P (receive_site k) ms from)
      (λ y. called_branch_sites ps P (write_site P y) ms from)

  abbrev choice_share : CalledChoices → (from : ℕ) → ℕ
  choice_share cs from =
      share P (λ k. called_body_sites ps P (send_site k) cs from) (λ k. called_body_sites ps P (receive_site k) cs from)
      (λ y. called_body_sites ps P (write_site P y) cs from)

  answers_count : (choices : CalledChoices) (from : ℕ) → length (called_branch_answers ps P choices from) ≡ choice_count (inlined_choices ps choices)
  answers_count no_called from = refl
  answers_count (or_called g x more) from = let e = answers_count more (from + called_size ps P x) in omega (arith, e)

  of_count : (choices : CalledChoices) (request any own from : ℕ) → AreChoices P.channels P.vars (inlined_choices ps choices)
      → OfCount (called_choosing ps P choices request any own from) (choice_count (inlined_choices ps choices))
  of_count choices request any own from t = record {
    latched = length-range_with_len (from + own) (choice_count (inlined_choices ps choices));
    guards = pairs_of_guards counted P (inlined_choices ps choices) (guards_from (inlined_choices ps choices) own from) t;
    answers = answers_count choices (called_bodies_from ps P choices own from);
  }

  mutual
    called_fits : (x : Called) (r from : ℕ) → IsProcess P.channels P.vars (inlined ps x)
        → cost (called_rules ps P d x r from) + called_share x from + 2 * calls_of x ≤ 64 * called_size ps P x
    called_fits (calling q) r from t = let e = share_none P in omega (arith, e)
    called_fits (atom s) r from t = let e = fits P counted s r from t in omega (arith, e)
    called_fits (turned members) r from t = turn_fits members r from t.1
    called_fits (abreast members) r from t =
        let ends = called_ends ps P members from in
        let end = from + called_branches_size ps P members in
        let branches = branches_fit members r from t.1 in
        let tree = tree_cheap (called_ends ps P members from) (from + called_branches_size ps P members) in
        let count = counted.tree (called_ends ps P members from) (from + called_branches_size ps P members) in
        let long = ends_long P ps d members from in
        let parts =
        cost-append (called_branches_rules ps P d members r from) (tree_rules (called_ends ps P members from) (from + called_branches_size ps P members)) in
        omega (arith, branches, tree, count, long, parts)
    called_fits (chosen false choices) r from t =
        let n = choice_count (inlined_choices ps choices) in
        let own = select_cost (called_choosing ps P choices r (from + 2) select_own from) (choice_count (inlined_choices ps choices))
        (of_count choices r (from + 2) select_own from t.2) t.1 in
        let guards = guards_cost P counted (inlined_choices ps choices) (from + 1) (guards_from (inlined_choices ps choices) select_own from) t.2 in
        let bodies = bodies_fit choices (from + select_own + choice_count (inlined_choices ps choices)) (called_bodies_from ps P choices select_own from) t.2 in
        let back = cost-append (guards_rules P (inlined_choices ps choices) (from + 1) (guards_from (inlined_choices ps choices) select_own from))
        (called_bodies_rules ps P d choices (from + select_own + choice_count (inlined_choices ps choices))
        (called_bodies_from ps P choices select_own from)) in
        let whole = cost-append (select_rules (called_choosing ps P choices r (from + 2) select_own from))
        (guards_rules P (inlined_choices ps choices) (from + 1) (guards_from (inlined_choices ps choices) select_own from)
        ++ called_bodies_rules ps P d choices (from + select_own + choice_count (inlined_choices ps choices))
        (called_bodies_from ps P choices select_own from)) in
        omega (arith, own, guards, bodies, back, whole)
    called_fits (chosen true choices) r from t =
        let own = again_cost (called_repeating ps P choices r from) (choice_count (inlined_choices ps choices))
        (of_count choices (from + 1) (from + 4) again_own from t.2) t.1 in
        let guards = guards_cost P counted (inlined_choices ps choices) (from + 3) (guards_from (inlined_choices ps choices) again_own from) t.2 in
        let bodies = bodies_fit choices (from + again_own + choice_count (inlined_choices ps choices)) (called_bodies_from ps P choices again_own from) t.2 in
        let back = cost-append (guards_rules P (inlined_choices ps choices) (from + 3) (guards_from (inlined_choices ps choices) again_own from))
        (called_bodies_rules ps P d choices (from + again_own + choice_count (inlined_choices ps choices)) (called_bodies_from ps P choices again_own from)) in
        let whole = cost-append (again_rules (called_repeating ps P choices r from))
        (guards_rules P (inlined_choices ps choices) (from + 3) (guards_from (inlined_choices ps choices) again_own from)
        ++ called_bodies_rules ps P d choices (from + again_own + choice_count (inlined_choices ps choices))
        (called_bodies_from ps P choices again_own from)) in
        omega (arith, own, guards, bodies, back, whole)
    called_fits (looped x) r from t = let e = called_fits x (from + 1) (from + 2) t in omega (arith, e)

    turn_fits : (members : Calleds) (r from : ℕ) → AreProcesses P.channels P.vars (inlined_each ps members)
        → cost (called_turn_rules ps P d members r from) + turn_share members from + 2 * calls_of_each members ≤ 64 * called_turn_size ps P members
    turn_fits no_calleds r from t = let e = share_none P in omega (arith, e)
    turn_fits (and_called x no_calleds) r from t = let e = called_fits x r from t.0 in omega (arith, e)
    turn_fits (and_called x (and_called y more)) r from t =
        let one = called_fits x from (from + 3) t.0 in
        let rest = turn_fits (and_called y more) (from + 2) (from + 3 + called_size ps P x) t.1 in
        let parts =
        cost-append (called_rules ps P d x from (from + 3)) (called_turn_rules ps P d (and_called y more) (from + 2) (from + 3 + called_size ps P x)) in
        let shares : turn_share (and_called x (and_called y more)) from
        ≡ called_share x (from + 3) + turn_share (and_called y more) (from + 3 + called_size ps P x) =
        share_both P _ _ _ _ _ _ in
        omega (arith, one, rest, parts, shares)

    branches_fit : (members : Calleds) (r from : ℕ) → AreProcesses P.channels P.vars (inlined_each ps members)
        → cost (called_branches_rules ps P d members r from) + branch_share members from + 2 * calls_of_each members ≤ 64 * called_branches_size ps P members
    branches_fit no_calleds r from t = let e = share_none P in omega (arith, e)
    branches_fit (and_called x more) r from t =
        let one = called_fits x from (from + 3) t.0 in
        let rest = branches_fit more r (from + 3 + called_size ps P x) t.1 in
        let parts = cost-append (called_rules ps P d x from (from + 3)) (called_branches_rules ps P d more r (from + 3 + called_size ps P x)) in
        let shares : branch_share (and_called x more) from ≡ called_share x (from + 3) + branch_share more (from + 3 + called_size ps P x) =
        share_both P _ _ _ _ _ _ in
        omega (arith, one, rest, parts, shares)

    bodies_fit : (choices : CalledChoices) (start from : ℕ) → AreChoices P.channels P.vars (inlined_choices ps choices)
        → cost (called_bodies_rules ps P d choices start from) + choice_share choices from + 2 * calls_of_choices choices ≤ 64 * called_bodies_size ps P choices
    bodies_fit no_called start from t = let e = share_none P in omega (arith, e)
    bodies_fit (or_called g x more) start from t =
        let one = called_fits x start from t.1 in
        let rest = bodies_fit more (start + 1) (from + called_size ps P x) t.2 in
        let parts = cost-append (called_rules ps P d x start from) (called_bodies_rules ps P d more (start + 1) (from + called_size ps P x)) in
        let shares : choice_share (or_called g x more) from ≡ called_share x from + choice_share more (from + called_size ps P x) = share_both P _ _ _ _ _ _ in
        omega (arith, one, rest, parts, shares)

module _ (C : CallProgram) (typed : IsProcess C.channels C.vars (inlined C.procs C.body))
    (bodies : (q : ℕ) → q < length C.procs → IsProcess C.channels C.vars (slice_index_or C.procs q skipping)) where
  abbrev P : TypedProgram
  P = inlined_program C

  abbrev sent : ℕ → ℕ
  sent k = length (all_sites C (send_site k))

  abbrev taken : ℕ → ℕ
  taken k = length (all_sites C (receive_site k))

  abbrev written : ℕ → ℕ
  written y = length (all_sites C (write_site P y))

  wires_cost : (i width : ℕ) (kind : Kind) → cost (call_channel_rules C i width kind) ≤ 4 * times width (sent i) + 2 * taken i
  wires_cost i width In =
      let none = silent_cost (2 * width) in
      let ack = or_cost (all_sites C (receive_site i)) in
      let parts = cost-append (replicate (2 * width) no_rules) (or_of (all_sites C (receive_site i)) ∷ []) in
      omega (arith, none, ack, parts)
  wires_cost i width Out =
      let rails = rails_cost (all_sites C (send_site i)) 0 width in
      let parts = cost-append (rail_rules (all_sites C (send_site i)) 0 width) (no_rules ∷ []) in
      omega (arith, rails, parts)
  wires_cost i width Chan =
      let rails = rails_cost (all_sites C (send_site i)) 0 width in
      let ack = or_cost (all_sites C (receive_site i)) in
      let parts = cost-append (rail_rules (all_sites C (send_site i)) 0 width) (or_of (all_sites C (receive_site i)) ∷ []) in
      omega (arith, rails, ack, parts)

  channels_cost : (i : ℕ) (cs : List Channel) → cost (call_channels_rules C i cs) ≤ at_channels sent taken i cs
  channels_cost i [] = omega arith
  channels_cost i (c ∷ cs) =
      let one = wires_cost i c.width c.kind in
      let rest = channels_cost (suc i) cs in
      let parts = cost-append (call_channel_rules C i c.width c.kind) (call_channels_rules C (suc i) cs) in
      omega (arith, one, rest, parts)

  vars_cost : (x : ℕ) (vs : List Var) → cost (call_vars_rules C x vs) ≤ 64 * blocks_before vs (length vs) + at_vars written x vs
  vars_cost x [] = omega arith
  vars_cost x (v ∷ vs) =
      let one = block_cost P counted v.width (var_from P x) (all_sites C (write_site P x)) in
      let rest = vars_cost (suc x) vs in
      let parts = cost-append (variable_rules v.width (var_from P x) (all_sites C (write_site P x))) (call_vars_rules C (suc x) vs) in
      omega (arith, one, rest, parts)

  abbrev bodies_share : List Process → (from : ℕ) → ℕ
  bodies_share bs from =
      share P (λ k. body_sites P (send_site k) bs from) (λ k. body_sites P (receive_site k) bs from) (λ y. body_sites P (write_site P y) bs from)

  procs_fit : (q : ℕ) (bs : List Process) (from : ℕ) → ((j : ℕ) → j < length bs → IsProcess C.channels C.vars (slice_index_or bs j skipping))
      → cost (proc_rules C q bs from) + bodies_share bs from ≤ 64 * procs_size P bs + 2 * each_proc (λ i. length (asks_of C i)) q bs
  procs_fit q [] from t = let e = share_none P in omega (arith, e)
  procs_fit q (b ∷ bs) from t =
      let asked = or_cost (asks_of C q) in
      let one = fits P counted b from (from + 1) (t 0 (omega arith)) in
      let rest = procs_fit (suc q) bs (from + 1 + size_of P b) (λ j l. t (suc j) (omega (arith, l))) in
      let parts = cost-append (rules_of P b from (from + 1)) (proc_rules C (suc q) bs (from + 1 + size_of P b)) in
      let shares : bodies_share (b ∷ bs) from ≡ share_of P b (from + 1) + bodies_share bs (from + 1 + size_of P b) = share_both P _ _ _ _ _ _ in
      omega (arith, asked, one, rest, parts, shares)

  pub few_literals : cost (call_rules C) ≤ 64 * call_count C
  few_literals =
      let own = q_child 0 (call_root C + 1) ∷ q_latch 0 (call_answer C) ∷ called_rules C.procs P (proc_answer C) C.body (call_root C) (call_root C + 2) in
      let channels = channels_cost 0 C.channels in
      let vars = vars_cost 0 C.vars in
      let procs = procs_fit 0 C.procs (procs_from C) bodies in
      let body = called_fits P C.procs (proc_answer C) C.body (call_root C) (call_root C + 2) typed in
      let asks = few_asks P C.procs (proc_answer C) 0 C.procs C.body (call_root C) (call_root C + 2) in
      let shares : share P (λ k. all_sites C (send_site k)) (λ k. all_sites C (receive_site k)) (λ y. all_sites C (write_site P y))
      ≡ bodies_share C.procs (procs_from C) + called_share P C.procs (proc_answer C) C.body (call_root C + 2) = share_both P _ _ _ _ _ _ in
      let last = cost-append (proc_rules C 0 C.procs (procs_from C)) (q_child 0 (call_root C + 1) ∷ q_latch 0 (call_answer C)
      ∷ called_rules C.procs P (proc_answer C) C.body (call_root C) (call_root C + 2)) in
      let back = cost-append (call_vars_rules C 0 C.vars) (proc_rules C 0 C.procs (procs_from C) ++ (q_child 0 (call_root C + 1) ∷ q_latch 0 (call_answer C)
      ∷ called_rules C.procs P (proc_answer C) C.body (call_root C) (call_root C + 2))) in
      let parts = cost-append (call_channels_rules C 0 C.channels) (call_vars_rules C 0 C.vars ++ (proc_rules C 0 C.procs (procs_from C)
      ++ (q_child 0 (call_root C + 1) ∷ q_latch 0 (call_answer C) ∷ called_rules C.procs P (proc_answer C) C.body (call_root C) (call_root C + 2)))) in
      omega (arith, channels, vars, procs, body, asks, shares, last, back, parts)
