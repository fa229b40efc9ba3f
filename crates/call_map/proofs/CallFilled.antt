-- No guard of the net with shared bodies has an empty term.
--
-- P: the program with copies; ps: the bodies of the procedures; d: the answer of each body in the net with shared bodies;
-- x, y: statements with calls; r, from: a statement's request and first node.
use Rattle.std.proofs.Common.{◌≡◌, ℕ, suc, ◌+◌, ◌*◌, ◌<◌, true, false, List, [], ◌∷◌, ◌++◌, length, refl, arith}
use Rattle.std.specs.Prelude.{replicate, slice_index_or}
use Rattle.chp_base.specs.declared.channel.Channel.{Channel}
use Rattle.chp_base.specs.declared.channel.Kind.{Kind}
use Rattle.chp_base.specs.declared.channel.Kind.TheVariants.{In, Out, Chan}
use Rattle.prs_core.specs.Pairs.{no_rules, or_of}
use Rattle.width_check.specs.declared.typed.Var.{Var}
use Rattle.width_check.specs.Processes.{Process, skipping, choice_count, TypedProgram}
use Rattle.width_check.specs.Typing.{IsProcess, AreProcesses, AreChoices}
use Rattle.handshake_expand.specs.Layout.{size_of, var_from}
use Rattle.handshake_expand.specs.Answers.{guards_from, bodies_from, select_own, again_own}
use Rattle.cell_sequence.specs.Sequence.{q_child, q_latch}
use Rattle.cell_parallel.specs.Trees.{tree_rules}
use Rattle.cell_variable.specs.Variables.{variable_rules}
use Rattle.cell_select.specs.Selections.{select_rules, again_rules}
use Rattle.net_compose.specs.Translation.{guards_rules, rules_of, send_site, receive_site, write_site, rail_rules}
use Rattle.net_compose.proofs.Sizes.{pairs_of_guards}
use Rattle.net_compose.proofs.FlatRules.{counted}
use Rattle.net_compose.proofs.NetFilled.{full, full-append, tree_full, or_full, block_full, select_full, again_full, guards_full, statement_full, rails_full, silent_full}
use Rattle.call_map.specs.Calling.{Called, calling, atom, turned, abreast, chosen, looped, Calleds, no_calleds, and_called, CalledChoices, no_called, or_called, inlined, inlined_each, inlined_choices, called_size, called_branches_size, called_rules, called_turn_rules, called_branches_rules, called_bodies_rules, called_choosing, called_repeating, called_ends}
use Rattle.call_map.specs.CallNet.{CallProgram, inlined_program, procs_from, call_root, proc_answer, asks_of, proc_rules, all_sites, call_channel_rules, call_channels_rules, call_vars_rules, call_answer, call_rules}

module _ (P : TypedProgram) (ps : List Process) (d : ℕ → ℕ) where
  mutual
    called_full : (x : Called) (r from : ℕ) → IsProcess P.channels P.vars (inlined ps x) → full (called_rules ps P d x r from) ≡ true
    called_full (calling q) r from t = refl
    called_full (atom s) r from t = statement_full P (pairs_of_guards counted P) s r from t
    called_full (turned members) r from t = called_turn_full members r from t.1
    called_full (abreast members) r from t =
        full-append (called_branches_rules ps P d members r from) (tree_rules (called_ends ps P members from) (from + called_branches_size ps P members))
        (called_branches_full members r from t.1) (tree_full (called_ends ps P members from) (from + called_branches_size ps P members))
    called_full (chosen false choices) r from t =
        let cs = inlined_choices ps choices in
        let guards = guards_rules P cs (from + 1) (guards_from cs select_own from) in
        let bodies = called_bodies_rules ps P d choices (from + select_own + choice_count cs) (bodies_from cs select_own from) in
        full-append (select_rules (called_choosing ps P choices r (from + 2) select_own from)) (guards ++ bodies)
        (select_full (called_choosing ps P choices r (from + 2) select_own from))
        (full-append guards bodies (guards_full P (pairs_of_guards counted P) cs (from + 1) (guards_from cs select_own from))
        (called_bodies_full choices (from + select_own + choice_count cs) (bodies_from cs select_own from) t.2))
    called_full (chosen true choices) r from t =
        let cs = inlined_choices ps choices in
        let guards = guards_rules P cs (from + 3) (guards_from cs again_own from) in
        let bodies = called_bodies_rules ps P d choices (from + again_own + choice_count cs) (bodies_from cs again_own from) in
        let count = pairs_of_guards counted P cs (guards_from cs again_own from) t.2 in
        let some = t.0 in
        full-append (again_rules (called_repeating ps P choices r from)) (guards ++ bodies)
        (again_full (called_repeating ps P choices r from) (omega (arith, count, some)))
        (full-append guards bodies (guards_full P (pairs_of_guards counted P) cs (from + 3) (guards_from cs again_own from))
        (called_bodies_full choices (from + again_own + choice_count cs) (bodies_from cs again_own from) t.2))
    called_full (looped x) r from t = called_full x (from + 1) (from + 2) t

    called_turn_full : (members : Calleds) (r from : ℕ) → AreProcesses P.channels P.vars (inlined_each ps members)
        → full (called_turn_rules ps P d members r from) ≡ true
    called_turn_full no_calleds r from t = refl
    called_turn_full (and_called x no_calleds) r from t = called_full x r from t.0
    called_turn_full (and_called x (and_called y more)) r from t =
        let next = from + 3 + called_size ps P x in
        full-append (called_rules ps P d x from (from + 3)) (called_turn_rules ps P d (and_called y more) (from + 2) next)
        (called_full x from (from + 3) t.0) (called_turn_full (and_called y more) (from + 2) next t.1)

    called_branches_full : (members : Calleds) (r from : ℕ) → AreProcesses P.channels P.vars (inlined_each ps members)
        → full (called_branches_rules ps P d members r from) ≡ true
    called_branches_full no_calleds r from t = refl
    called_branches_full (and_called x more) r from t =
        let next = from + 3 + called_size ps P x in
        full-append (called_rules ps P d x from (from + 3)) (called_branches_rules ps P d more r next)
        (called_full x from (from + 3) t.0) (called_branches_full more r next t.1)

    called_bodies_full : (choices : CalledChoices) (start from : ℕ) → AreChoices P.channels P.vars (inlined_choices ps choices)
        → full (called_bodies_rules ps P d choices start from) ≡ true
    called_bodies_full no_called start from t = refl
    called_bodies_full (or_called g x more) start from t =
        let next = from + called_size ps P x in
        full-append (called_rules ps P d x start from) (called_bodies_rules ps P d more (start + 1) next)
        (called_full x start from t.1) (called_bodies_full more (start + 1) next t.2)

module _ (C : CallProgram) (typed : IsProcess C.channels C.vars (inlined C.procs C.body))
    (bodies : (q : ℕ) → q < length C.procs → IsProcess C.channels C.vars (slice_index_or C.procs q skipping)) where
  abbrev P : TypedProgram
  P = inlined_program C

  procs_full : (q : ℕ) (bs : List Process) (from : ℕ) → ((j : ℕ) → j < length bs → IsProcess C.channels C.vars (slice_index_or bs j skipping))
      → full (proc_rules C q bs from) ≡ true
  procs_full q [] from t = refl
  procs_full q (b ∷ bs) from t =
      let next = from + 1 + size_of P b in
      or_full (asks_of C q) (rules_of P b from (from + 1) ++ proc_rules C (suc q) bs next)
      (full-append (rules_of P b from (from + 1)) (proc_rules C (suc q) bs next)
      (statement_full P (pairs_of_guards counted P) b from (from + 1) (t 0 (omega arith)))
      (procs_full (suc q) bs next (λ j l. t (suc j) (omega (arith, l)))))

  wires_full : (k width : ℕ) (kind : Kind) → full (call_channel_rules C k width kind) ≡ true
  wires_full k width In =
      full-append (replicate (2 * width) no_rules) (or_of (all_sites C (receive_site k)) ∷ []) (silent_full P (pairs_of_guards counted P) (2 * width))
      (or_full (all_sites C (receive_site k)) [] refl)
  wires_full k width Out = full-append (rail_rules (all_sites C (send_site k)) 0 width) (no_rules ∷ [])
      (rails_full P (pairs_of_guards counted P) (all_sites C (send_site k)) 0 width) refl
  wires_full k width Chan = full-append (rail_rules (all_sites C (send_site k)) 0 width) (or_of (all_sites C (receive_site k)) ∷ [])
      (rails_full P (pairs_of_guards counted P) (all_sites C (send_site k)) 0 width) (or_full (all_sites C (receive_site k)) [] refl)

  channels_full : (k : ℕ) (cs : List Channel) → full (call_channels_rules C k cs) ≡ true
  channels_full k [] = refl
  channels_full k (c ∷ cs) =
      full-append (call_channel_rules C k c.width c.kind) (call_channels_rules C (suc k) cs) (wires_full k c.width c.kind) (channels_full (suc k) cs)

  vars_full : (x : ℕ) (vs : List Var) → full (call_vars_rules C x vs) ≡ true
  vars_full x [] = refl
  vars_full x (v ∷ vs) = full-append (variable_rules v.width (var_from P x) (all_sites C (write_site P x))) (call_vars_rules C (suc x) vs)
      (block_full v.width (var_from P x) (all_sites C (write_site P x))) (vars_full (suc x) vs)

  pub all_full : full (call_rules C) ≡ true
  all_full =
      let own = q_child 0 (call_root C + 1) ∷ q_latch 0 (call_answer C) ∷ called_rules C.procs P (proc_answer C) C.body (call_root C) (call_root C + 2) in
      full-append (call_channels_rules C 0 C.channels) (call_vars_rules C 0 C.vars ++ (proc_rules C 0 C.procs (procs_from C) ++ own))
      (channels_full 0 C.channels)
      (full-append (call_vars_rules C 0 C.vars) (proc_rules C 0 C.procs (procs_from C) ++ own) (vars_full 0 C.vars)
      (full-append (proc_rules C 0 C.procs (procs_from C)) own (procs_full 0 C.procs (procs_from C) bodies)
      (called_full P C.procs (proc_answer C) C.body (call_root C) (call_root C + 2) typed)))
