-- The nets with shared bodies of two programs that are the same but for places.
--
-- C: a program with calls; p: a typed program with its channels and variables; q: such a one without places; b: the body of q.
use Rattle.std.proofs.Common.{◌≡◌, ℕ, zero, suc, ◌+◌, ◌*◌, ◌-◌, true, false, List, [], ◌∷◌, ◌++◌, map, replicate, refl, sym, ap, ◌∙◌, arith}
use Rattle.std.specs.Prelude.{fold, slice_set, slice_index_or}
use Rattle.std.proofs.lemmas.List.{map-append}
use Rattle.chp_base.specs.declared.channel.Channel.{Channel}
use Rattle.chp_base.specs.declared.channel.Kind.{Kind}
use Rattle.chp_base.specs.declared.channel.Kind.TheVariants.{In, Out, Chan}
use Rattle.chp_syntax.specs.declared.tree.Decl.{Decl}
use Rattle.chp_syntax.specs.Trees as plain
use Rattle.chp_syntax.specs.Trees.{Statement, skips, assigns, sends, receives, follows, besides, selects, repeats, calls, Statements, Arms, no_arms, and_arm, Procedure, ProgramTree}
use Rattle.prs_core.specs.Nets.{NodeRules}
use Rattle.width_check.specs.declared.typed.Var.{Var}
use Rattle.width_check.specs.Processes.{Process, skipping, in_turn, side_by_side, choosing, repeating, member_count, choice_count, TypedProgram}
use Rattle.handshake_expand.specs.Layout.{guards_size, size_of, root_request}
use Rattle.handshake_expand.specs.Sites.{Sites}
use Rattle.handshake_expand.specs.Answers.{answer_of, guards_from, select_own, again_own}
use Rattle.cell_select.specs.Selections.{Choosing, select_rules, again_rules}
use Rattle.net_compose.specs.Translation.{guard_pairs, guards_rules, send_site, receive_site, write_site, hidden_high, vars_high, wires_from}
use Rattle.call_merge.specs.CallSplits.{split_procedures, own_names}
use Rattle.call_map.specs.Calling.{Called, calling, atom, turned, abreast, chosen, looped, Calleds, no_calleds, and_called, CalledChoices, no_called, or_called, inlined, inlined_each, inlined_choices, called_size, called_turn_size, called_branches_size, called_bodies_size, called_answer, called_turn_answer, called_bodies_from, called_starts_from, called_branch_answers, called_ends, called_choosing, called_repeating, called_rules, called_turn_rules, called_branches_rules, called_bodies_rules, called_sites, called_turn_sites, called_branch_sites, called_body_sites, called_requests, called_turn_requests, called_branch_requests, called_body_requests}
use Rattle.call_map.specs.CallNet.{CallProgram, procs_size, body_start, body_sites, inlined_program, procs_from, call_root, body_at, body_begins, proc_answer, call_answer, asks_of, proc_rules, all_sites, call_channel_rules, call_channels_rules, call_vars_rules, call_rules, call_count, call_firsts, call_composed, call_names, call_net}
use Rattle.call_compose.specs.CalledForm.{procedure_names, called_form, called_forms, called_arms, body_forms, call_program}
use Rattle.chp_cli.specs.Unplaced.{unplaced_statement, unplaced_members, unplaced_arms, unplaced_decl, unplaced_procedure, unplaced, AreLaidOutAlike}
use Rattle.chp_cli.specs.UnplacedForms.{unplaced_formula, unplaced_process, unplaced_processes, unplaced_choices}
use Rattle.chp_cli.proofs.SameForms.{channels_same, vars_same, formula_same, process_same}
use Rattle.chp_cli.proofs.SameNets.{members_same, choices_same, guards_size_same, guard_pairs_same, size_same, answer_same, guards_rules_same, rules_same, SameSites, sites_same, send_sites, receive_sites, write_sites, high_sites, wires_same, vars_high_same, nets_same}
use Rattle.chp_cli.proofs.SameInlined.{decl_names_same, proc_names_same, split_procedures_same}

-- without places

abbrev mutual
  pub unplaced_called : Called → Called
  unplaced_called (calling q) = calling q
  unplaced_called (atom s) = atom (unplaced_process s)
  unplaced_called (turned members) = turned (unplaced_calleds members)
  unplaced_called (abreast members) = abreast (unplaced_calleds members)
  unplaced_called (chosen again choices) = chosen again (unplaced_branches choices)
  unplaced_called (looped s) = looped (unplaced_called s)

  pub unplaced_calleds : Calleds → Calleds
  unplaced_calleds no_calleds = no_calleds
  unplaced_calleds (and_called s more) = and_called (unplaced_called s) (unplaced_calleds more)

  pub unplaced_branches : CalledChoices → CalledChoices
  unplaced_branches no_called = no_called
  unplaced_branches (or_called g s more) = or_called (unplaced_formula g) (unplaced_called s) (unplaced_branches more)

abbrev pub unplaced_calls : CallProgram → CallProgram
unplaced_calls C = record { channels = C.channels; vars = C.vars; procs = map unplaced_process C.procs; body = unplaced_called C.body }

-- the program with calls of a tree

module _ (ds : List Decl) (names : List (List ℕ)) where
  mutual
    called_same : (s : Statement) → called_form (map unplaced_decl ds) names (unplaced_statement s) ≡ unplaced_called (called_form ds names s)
    called_same (skips at) = refl
    called_same (assigns target e) = ap atom (process_same ds (assigns target e))
    called_same (sends chan e) = ap atom (process_same ds (sends chan e))
    called_same (receives chan target) = ap atom (process_same ds (receives chan target))
    called_same (follows members) = ap turned (calleds_same members)
    called_same (besides members) = ap abreast (calleds_same members)
    called_same (selects again arms) = ap (chosen again) (branches_same arms)
    called_same (repeats s) = ap looped (called_same s)
    called_same (calls of) = refl

    calleds_same : (members : Statements) → called_forms (map unplaced_decl ds) names (unplaced_members members)
        ≡ unplaced_calleds (called_forms ds names members)
    calleds_same plain.no_members = refl
    calleds_same (plain.and_member s more) =
        let first = called_same s in
        let rest = calleds_same more in
        rw (first, rest) refl

    branches_same : (arms : Arms) → called_arms (map unplaced_decl ds) names (unplaced_arms arms) ≡ unplaced_branches (called_arms ds names arms)
    branches_same no_arms = refl
    branches_same (and_arm g s more) =
        let guard = formula_same ds 1 g in
        let first = called_same s in
        let rest = branches_same more in
        rw (guard, first, rest) refl

bodies_same : (ds : List Decl) (qs : List Procedure) → body_forms (map unplaced_decl ds) (map unplaced_procedure qs) ≡ map unplaced_process (body_forms ds qs)
bodies_same ds [] = refl
bodies_same ds (q ∷ qs) =
    let first = process_same ds q.body in
    let rest = bodies_same ds qs in
    rw (first, rest) refl

call_program_same : (p : ProgramTree) (vars : List Decl) → call_program (unplaced p) (map unplaced_decl vars) ≡ unplaced_calls (call_program p vars)
call_program_same p vars =
    let decls = map-append unplaced_decl p.decls vars in
    let channels = channels_same (p.decls ++ vars) in
    let declared = vars_same (p.decls ++ vars) in
    let own = decl_names_same vars in
    let split = split_procedures_same p.decls (own_names vars) 0 p.procs in
    let procs = bodies_same (p.decls ++ vars) (split_procedures p.decls (own_names vars) 0 p.procs) in
    let names = proc_names_same p.procs in
    let body = called_same (p.decls ++ vars) (procedure_names p.procs) p.body in
    rw (← decls, channels, declared, own, split, procs, names, body) refl

pub programs_alike : (p q : ProgramTree) → AreLaidOutAlike p q → (vars those : List Decl) → map unplaced_decl vars ≡ map unplaced_decl those
    → unplaced_calls (call_program p vars) ≡ unplaced_calls (call_program q those)
programs_alike p q alike vars those same =
    sym (call_program_same p vars)
    ∙ (ap (λ (t : ProgramTree). call_program t (map unplaced_decl vars)) alike
    ∙ (ap (call_program (unplaced q)) same ∙ call_program_same q those))

-- bodies in place of calls

body_of_same : (ps : List Process) (k : ℕ) → slice_index_or (map unplaced_process ps) k skipping ≡ unplaced_process (slice_index_or ps k skipping)
body_of_same [] k = refl
body_of_same (p ∷ ps) zero = refl
body_of_same (p ∷ ps) (suc k) = body_of_same ps k

-- the rules of a selection's guards and branches
abbrev inner_rules : List Process → TypedProgram → (ℕ → ℕ) → CalledChoices → (asked own from : ℕ) → List NodeRules
inner_rules ps t d choices asked own from =
    guards_rules t (inlined_choices ps choices) asked (guards_from (inlined_choices ps choices) own from)
    ++ called_bodies_rules ps t d choices (called_starts_from ps t choices own from) (called_bodies_from ps t choices own from)

module _ (ps : List Process) where
  abbrev us : List Process
  us = map unplaced_process ps

  mutual
    pub inlined_same : (s : Called) → inlined us (unplaced_called s) ≡ unplaced_process (inlined ps s)
    inlined_same (calling k) = body_of_same ps k
    inlined_same (atom s) = refl
    inlined_same (turned members) = ap in_turn (each_same members)
    inlined_same (abreast members) = ap side_by_side (each_same members)
    inlined_same (chosen again choices) = ap (choosing again) (choices_inlined_same choices)
    inlined_same (looped s) = ap repeating (inlined_same s)

    each_same : (members : Calleds) → inlined_each us (unplaced_calleds members) ≡ unplaced_processes (inlined_each ps members)
    each_same no_calleds = refl
    each_same (and_called s more) =
        let first = inlined_same s in
        let rest = each_same more in
        rw (first, rest) refl

    choices_inlined_same : (choices : CalledChoices) → inlined_choices us (unplaced_branches choices) ≡ unplaced_choices (inlined_choices ps choices)
    choices_inlined_same no_called = refl
    choices_inlined_same (or_called g s more) =
        let first = inlined_same s in
        let rest = choices_inlined_same more in
        rw (first, rest) refl

  count_same : (choices : CalledChoices) → choice_count (inlined_choices us (unplaced_branches choices)) ≡ choice_count (inlined_choices ps choices)
  count_same choices = ap choice_count (choices_inlined_same choices) ∙ choices_same (inlined_choices ps choices)

  guards_same : (choices : CalledChoices) → guards_size (inlined_choices us (unplaced_branches choices)) ≡ guards_size (inlined_choices ps choices)
  guards_same choices = ap guards_size (choices_inlined_same choices) ∙ guards_size_same (inlined_choices ps choices)

  pairs_same : (choices : CalledChoices) (from : ℕ) → guard_pairs (inlined_choices us (unplaced_branches choices)) from
      ≡ guard_pairs (inlined_choices ps choices) from
  pairs_same choices from = ap (λ cs. guard_pairs cs from) (choices_inlined_same choices) ∙ guard_pairs_same (inlined_choices ps choices) from

  member_count_same : (members : Calleds) → member_count (inlined_each us (unplaced_calleds members)) ≡ member_count (inlined_each ps members)
  member_count_same members = ap member_count (each_same members) ∙ members_same (inlined_each ps members)

  module _ (p : TypedProgram) (b : Process) where
    abbrev q : TypedProgram
    q = record { channels = p.channels; vars = p.vars; body = b }

    -- sizes

    mutual
      pub called_size_same : (s : Called) → called_size us q (unplaced_called s) ≡ called_size ps p s
      called_size_same (calling k) = refl
      called_size_same (atom s) = size_same p b s
      called_size_same (turned members) = turn_size_same members
      called_size_same (abreast members) =
          let parts = branches_size_same members in
          let count = member_count_same members in
          rw (parts, count) refl
      called_size_same (chosen false choices) =
          let count = count_same choices in
          let guards = guards_same choices in
          let parts = bodies_size_same choices in
          rw (count, guards, parts) refl
      called_size_same (chosen true choices) =
          let count = count_same choices in
          let guards = guards_same choices in
          let parts = bodies_size_same choices in
          rw (count, guards, parts) refl
      called_size_same (looped s) = ap (λ k. 2 + k) (called_size_same s)

      turn_size_same : (members : Calleds) → called_turn_size us q (unplaced_calleds members) ≡ called_turn_size ps p members
      turn_size_same no_calleds = refl
      turn_size_same (and_called s no_calleds) = called_size_same s
      turn_size_same (and_called s (and_called t more)) =
          let here = called_size_same s in
          let rest = turn_size_same (and_called t more) in
          omega (arith, here, rest)

      branches_size_same : (members : Calleds) → called_branches_size us q (unplaced_calleds members) ≡ called_branches_size ps p members
      branches_size_same no_calleds = refl
      branches_size_same (and_called s more) =
          let here = called_size_same s in
          let rest = branches_size_same more in
          omega (arith, here, rest)

      bodies_size_same : (choices : CalledChoices) → called_bodies_size us q (unplaced_branches choices) ≡ called_bodies_size ps p choices
      bodies_size_same no_called = refl
      bodies_size_same (or_called g s more) =
          let here = called_size_same s in
          let rest = bodies_size_same more in
          omega (arith, here, rest)

    -- answers

    mutual
      pub called_answer_same : (s : Called) (from : ℕ) → called_answer us q (unplaced_called s) from ≡ called_answer ps p s from
      called_answer_same (calling k) from = refl
      called_answer_same (atom s) from = answer_same p b s from
      called_answer_same (turned members) from = turn_answer_same members from
      called_answer_same (abreast members) from = ap (λ n. from + n - 1) (called_size_same (abreast members))
      called_answer_same (chosen again _) from = refl
      called_answer_same (looped s) from = refl

      turn_answer_same : (members : Calleds) (from : ℕ) → called_turn_answer us q (unplaced_calleds members) from ≡ called_turn_answer ps p members from
      turn_answer_same no_calleds from = refl
      turn_answer_same (and_called s no_calleds) from = called_answer_same s from
      turn_answer_same (and_called s (and_called t more)) from =
          ap (λ n. called_turn_answer us q (unplaced_calleds (and_called t more)) (from + 3 + n)) (called_size_same s)
          ∙ turn_answer_same (and_called t more) (from + 3 + called_size ps p s)

    branch_answers_same : (choices : CalledChoices) (from : ℕ)
        → called_branch_answers us q (unplaced_branches choices) from ≡ called_branch_answers ps p choices from
    branch_answers_same no_called from = refl
    branch_answers_same (or_called g s more) from =
        let size = called_size_same s in
        let first = called_answer_same s from in
        let rest = branch_answers_same more (from + called_size ps p s) in
        rw (size, first, rest) refl

    ends_same : (members : Calleds) (from : ℕ) → called_ends us q (unplaced_calleds members) from ≡ called_ends ps p members from
    ends_same no_calleds from = refl
    ends_same (and_called s more) from =
        let size = called_size_same s in
        let rest = ends_same more (from + 3 + called_size ps p s) in
        rw (size, rest) refl

    choosing_same : (choices : CalledChoices) (request any own from : ℕ)
        → called_choosing us q (unplaced_branches choices) request any own from ≡ called_choosing ps p choices request any own from
    choosing_same choices request any own from =
        let count = count_same choices in
        let guards = guards_same choices in
        let pairs = pairs_same choices (guards_from (inlined_choices ps choices) own from) in
        let answers = branch_answers_same choices (called_bodies_from ps p choices own from) in
        rw (count, guards, pairs, answers) refl

    guards_called_same : (choices : CalledChoices) (request from : ℕ)
        → guards_rules q (inlined_choices us (unplaced_branches choices)) request from ≡ guards_rules p (inlined_choices ps choices) request from
    guards_called_same choices request from =
        ap (λ cs. guards_rules q cs request from) (choices_inlined_same choices) ∙ guards_rules_same p b (inlined_choices ps choices) request from

    -- where branches and their requests begin

    starts_same : (choices : CalledChoices) (own from : ℕ)
        → called_starts_from us q (unplaced_branches choices) own from ≡ called_starts_from ps p choices own from
    starts_same choices own from = ap (λ n. from + own + n) (count_same choices)

    begins_same : (choices : CalledChoices) (own from : ℕ)
        → called_bodies_from us q (unplaced_branches choices) own from ≡ called_bodies_from ps p choices own from
    begins_same choices own from =
        ap (λ n. from + own + 2 * n + guards_size (inlined_choices us (unplaced_branches choices))) (count_same choices)
        ∙ ap (λ n. from + own + 2 * choice_count (inlined_choices ps choices) + n) (guards_same choices)

    -- rules

    module _ (d e : ℕ → ℕ) (same : (k : ℕ) → d k ≡ e k) where
      inner_same : (choices : CalledChoices) (asked own from : ℕ)
          → called_bodies_rules us q d (unplaced_branches choices) (called_starts_from ps p choices own from) (called_bodies_from ps p choices own from)
          ≡ called_bodies_rules ps p e choices (called_starts_from ps p choices own from) (called_bodies_from ps p choices own from)
          → inner_rules us q d (unplaced_branches choices) asked own from ≡ inner_rules ps p e choices asked own from
      inner_same choices asked own from bodies =
          let late : (from + own + 2 * choice_count (inlined_choices us (unplaced_branches choices)))
          ≡ (from + own + 2 * choice_count (inlined_choices ps choices)) = ap (λ n. from + own + 2 * n) (count_same choices) in
          ap (λ l. l ++ called_bodies_rules us q d (unplaced_branches choices) (called_starts_from us q (unplaced_branches choices) own from)
          (called_bodies_from us q (unplaced_branches choices) own from))
          (ap (guards_rules q (inlined_choices us (unplaced_branches choices)) asked) late
          ∙ guards_called_same choices asked (guards_from (inlined_choices ps choices) own from))
          ∙ ap (λ l. guards_rules p (inlined_choices ps choices) asked (guards_from (inlined_choices ps choices) own from) ++ l)
          (ap (λ n. called_bodies_rules us q d (unplaced_branches choices) n (called_bodies_from us q (unplaced_branches choices) own from))
          (starts_same choices own from)
          ∙ (ap (called_bodies_rules us q d (unplaced_branches choices) (called_starts_from ps p choices own from)) (begins_same choices own from) ∙ bodies))

      mutual
        pub called_rules_same : (s : Called) (request from : ℕ) → called_rules us q d (unplaced_called s) request from ≡ called_rules ps p e s request from
        called_rules_same (calling k) request from = let answer = same k in rw answer refl
        called_rules_same (atom s) request from = rules_same p b s request from
        called_rules_same (turned members) request from = turn_rules_same members request from
        called_rules_same (abreast members) request from =
            let rules = branches_rules_same members request from in
            let ends = ends_same members from in
            let size = branches_size_same members in
            rw (rules, ends, size) refl
        called_rules_same (chosen false choices) request from =
            ap (λ (c : Choosing). select_rules c ++ inner_rules us q d (unplaced_branches choices) (from + 1) select_own from)
            (choosing_same choices request (from + 2) select_own from)
            ∙ ap (λ l. select_rules (called_choosing ps p choices request (from + 2) select_own from) ++ l)
            (inner_same choices (from + 1) select_own from
            (bodies_rules_same choices (called_starts_from ps p choices select_own from) (called_bodies_from ps p choices select_own from)))
        called_rules_same (chosen true choices) request from =
            ap (λ (c : Choosing). again_rules (record { request = request; joined = from + 2; leave = from + 5; turn = c })
            ++ inner_rules us q d (unplaced_branches choices) (from + 3) again_own from)
            (choosing_same choices (from + 1) (from + 4) again_own from)
            ∙ ap (λ l. again_rules (called_repeating ps p choices request from) ++ l)
            (inner_same choices (from + 3) again_own from
            (bodies_rules_same choices (called_starts_from ps p choices again_own from) (called_bodies_from ps p choices again_own from)))
        called_rules_same (looped s) request from =
            let answer = called_answer_same s (from + 2) in
            let rules = called_rules_same s (from + 1) (from + 2) in
            rw (answer, rules) refl

        turn_rules_same : (members : Calleds) (request from : ℕ)
            → called_turn_rules us q d (unplaced_calleds members) request from ≡ called_turn_rules ps p e members request from
        turn_rules_same no_calleds request from = refl
        turn_rules_same (and_called s no_calleds) request from = called_rules_same s request from
        turn_rules_same (and_called s (and_called t more)) request from =
            let size = called_size_same s in
            let answer = called_answer_same s (from + 3) in
            let first = called_rules_same s from (from + 3) in
            let rest = turn_rules_same (and_called t more) (from + 2) (from + 3 + called_size ps p s) in
            rw (size, answer, first, rest) refl

        branches_rules_same : (members : Calleds) (request from : ℕ)
            → called_branches_rules us q d (unplaced_calleds members) request from ≡ called_branches_rules ps p e members request from
        branches_rules_same no_calleds request from = refl
        branches_rules_same (and_called s more) request from =
            let size = called_size_same s in
            let answer = called_answer_same s (from + 3) in
            let first = called_rules_same s from (from + 3) in
            let rest = branches_rules_same more request (from + 3 + called_size ps p s) in
            rw (size, answer, first, rest) refl

        bodies_rules_same : (choices : CalledChoices) (start from : ℕ)
            → called_bodies_rules us q d (unplaced_branches choices) start from ≡ called_bodies_rules ps p e choices start from
        bodies_rules_same no_called start from = refl
        bodies_rules_same (or_called g s more) start from =
            let size = called_size_same s in
            let first = called_rules_same s start from in
            let rest = bodies_rules_same more (start + 1) (from + called_size ps p s) in
            rw (size, first, rest) refl

    -- sites

    module _ {A : Type 0} (there here : Sites A) (h : SameSites p b there here) where
      mutual
        pub called_sites_same : (s : Called) (from : ℕ) → called_sites us q there (unplaced_called s) from ≡ called_sites ps p here s from
        called_sites_same (calling k) from = refl
        called_sites_same (atom s) from = sites_same p b there here h s from
        called_sites_same (turned members) from = turn_sites_same members from
        called_sites_same (abreast members) from = branch_sites_same members from
        called_sites_same (chosen false choices) from =
            ap (called_body_sites us q there (unplaced_branches choices)) (begins_same choices select_own from)
            ∙ arm_sites_same choices (called_bodies_from ps p choices select_own from)
        called_sites_same (chosen true choices) from =
            ap (called_body_sites us q there (unplaced_branches choices)) (begins_same choices again_own from)
            ∙ arm_sites_same choices (called_bodies_from ps p choices again_own from)
        called_sites_same (looped s) from = called_sites_same s (from + 2)

        turn_sites_same : (members : Calleds) (from : ℕ) → called_turn_sites us q there (unplaced_calleds members) from
            ≡ called_turn_sites ps p here members from
        turn_sites_same no_calleds from = refl
        turn_sites_same (and_called s no_calleds) from = called_sites_same s from
        turn_sites_same (and_called s (and_called t more)) from =
            let size = called_size_same s in
            let first = called_sites_same s (from + 3) in
            let rest = turn_sites_same (and_called t more) (from + 3 + called_size ps p s) in
            rw (size, first, rest) refl

        branch_sites_same : (members : Calleds) (from : ℕ) → called_branch_sites us q there (unplaced_calleds members) from
            ≡ called_branch_sites ps p here members from
        branch_sites_same no_calleds from = refl
        branch_sites_same (and_called s more) from =
            let size = called_size_same s in
            let first = called_sites_same s (from + 3) in
            let rest = branch_sites_same more (from + 3 + called_size ps p s) in
            rw (size, first, rest) refl

        arm_sites_same : (choices : CalledChoices) (from : ℕ)
            → called_body_sites us q there (unplaced_branches choices) from ≡ called_body_sites ps p here choices from
        arm_sites_same no_called from = refl
        arm_sites_same (or_called g s more) from =
            let size = called_size_same s in
            let first = called_sites_same s from in
            let rest = arm_sites_same more (from + called_size ps p s) in
            rw (size, first, rest) refl

    -- the requests of a procedure's calls

    module _ (proc : ℕ) where
      mutual
        pub called_requests_same : (s : Called) (request from : ℕ)
            → called_requests us q proc (unplaced_called s) request from ≡ called_requests ps p proc s request from
        called_requests_same (calling k) request from = refl
        called_requests_same (atom s) request from = refl
        called_requests_same (turned members) request from = turn_requests_same members request from
        called_requests_same (abreast members) request from = branch_requests_same members from
        called_requests_same (chosen false choices) request from =
            ap (λ n. called_body_requests us q proc (unplaced_branches choices) n (called_bodies_from us q (unplaced_branches choices) select_own from))
            (starts_same choices select_own from)
            ∙ (ap (called_body_requests us q proc (unplaced_branches choices) (called_starts_from ps p choices select_own from))
            (begins_same choices select_own from)
            ∙ body_requests_same choices (called_starts_from ps p choices select_own from) (called_bodies_from ps p choices select_own from))
        called_requests_same (chosen true choices) request from =
            ap (λ n. called_body_requests us q proc (unplaced_branches choices) n (called_bodies_from us q (unplaced_branches choices) again_own from))
            (starts_same choices again_own from)
            ∙ (ap (called_body_requests us q proc (unplaced_branches choices) (called_starts_from ps p choices again_own from))
            (begins_same choices again_own from)
            ∙ body_requests_same choices (called_starts_from ps p choices again_own from) (called_bodies_from ps p choices again_own from))
        called_requests_same (looped s) request from = called_requests_same s (from + 1) (from + 2)

        turn_requests_same : (members : Calleds) (request from : ℕ)
            → called_turn_requests us q proc (unplaced_calleds members) request from ≡ called_turn_requests ps p proc members request from
        turn_requests_same no_calleds request from = refl
        turn_requests_same (and_called s no_calleds) request from = called_requests_same s request from
        turn_requests_same (and_called s (and_called t more)) request from =
            let size = called_size_same s in
            let first = called_requests_same s from (from + 3) in
            let rest = turn_requests_same (and_called t more) (from + 2) (from + 3 + called_size ps p s) in
            rw (size, first, rest) refl

        branch_requests_same : (members : Calleds) (from : ℕ)
            → called_branch_requests us q proc (unplaced_calleds members) from ≡ called_branch_requests ps p proc members from
        branch_requests_same no_calleds from = refl
        branch_requests_same (and_called s more) from =
            let size = called_size_same s in
            let first = called_requests_same s from (from + 3) in
            let rest = branch_requests_same more (from + 3 + called_size ps p s) in
            rw (size, first, rest) refl

        body_requests_same : (choices : CalledChoices) (start from : ℕ)
            → called_body_requests us q proc (unplaced_branches choices) start from ≡ called_body_requests ps p proc choices start from
        body_requests_same no_called start from = refl
        body_requests_same (or_called g s more) start from =
            let size = called_size_same s in
            let first = called_requests_same s start from in
            let rest = body_requests_same more (start + 1) (from + called_size ps p s) in
            rw (size, first, rest) refl

-- the procedures

module _ (p : TypedProgram) (b : Process) where
  abbrev r : TypedProgram
  r = record { channels = p.channels; vars = p.vars; body = b }

  procs_size_same : (ps : List Process) → procs_size r (map unplaced_process ps) ≡ procs_size p ps
  procs_size_same [] = refl
  procs_size_same (s ∷ ps) =
      let size = size_same p b s in
      let rest = procs_size_same ps in
      rw (size, rest) refl

  body_start_same : (ps : List Process) (from k : ℕ) → body_start r (map unplaced_process ps) from k ≡ body_start p ps from k
  body_start_same [] from k = refl
  body_start_same (s ∷ ps) from zero = refl
  body_start_same (s ∷ ps) from (suc k) =
      ap (λ n. body_start r (map unplaced_process ps) (from + 1 + n) k) (size_same p b s) ∙ body_start_same ps (from + 1 + size_of p s) k

  body_sites_same : {A : Type 0} (there here : Sites A) → SameSites p b there here → (ps : List Process) (from : ℕ)
      → body_sites r there (map unplaced_process ps) from ≡ body_sites p here ps from
  body_sites_same there here h [] from = refl
  body_sites_same there here h (s ∷ ps) from =
      let size = size_same p b s in
      let first = sites_same p b there here h s (from + 1) in
      let rest = body_sites_same there here h ps (from + 1 + size_of p s) in
      rw (size, first, rest) refl

-- the net

module _ (C : CallProgram) where
  abbrev U : CallProgram
  U = unplaced_calls C

  abbrev P : TypedProgram
  P = inlined_program C

  abbrev B : Process
  B = inlined U.procs U.body

  root_same : call_root U ≡ call_root C
  root_same = ap (λ n. root_request P + n) (procs_size_same P B C.procs)

  count_whole_same : call_count U ≡ call_count C
  count_whole_same =
      let root = root_same in
      let size = called_size_same C.procs P B C.body in
      rw (root, size) refl

  answer_whole_same : call_answer U ≡ call_answer C
  answer_whole_same = ap (λ n. called_answer U.procs (inlined_program U) U.body (n + 2)) root_same ∙ called_answer_same C.procs P B C.body (call_root C + 2)

  proc_answer_same : (k : ℕ) → proc_answer U k ≡ proc_answer C k
  proc_answer_same k =
      ap (λ n. answer_of (inlined_program U) (body_at U k) n) (body_start_same P B C.procs (procs_from C) k)
      ∙ (ap (λ s. answer_of (inlined_program U) s (body_begins C k)) (body_of_same C.procs k) ∙ answer_same P B (body_at C k) (body_begins C k))

  asks_same : (k : ℕ) → asks_of U k ≡ asks_of C k
  asks_same k =
      ap (λ n. called_requests U.procs (inlined_program U) k U.body n (n + 2)) root_same
      ∙ called_requests_same C.procs P B k C.body (call_root C) (call_root C + 2)

  proc_rules_same : (k : ℕ) (ps : List Process) (from : ℕ) → proc_rules U k (map unplaced_process ps) from ≡ proc_rules C k ps from
  proc_rules_same k [] from = refl
  proc_rules_same k (s ∷ ps) from =
      let asks = asks_same k in
      let size = size_same P B s in
      let first = rules_same P B s from (from + 1) in
      let rest = proc_rules_same (suc k) ps (from + 1 + size_of P s) in
      rw (asks, size, first, rest) refl

  all_sites_same : {A : Type 0} (there here : Sites A) → SameSites P B there here → all_sites U there ≡ all_sites C here
  all_sites_same there here h =
      ap (λ l. l ++ called_sites U.procs (inlined_program U) there U.body (call_root U + 2)) (body_sites_same P B there here h C.procs (procs_from C))
      ∙ ap (λ l. body_sites P here C.procs (procs_from C) ++ l)
      (ap (λ n. called_sites U.procs (inlined_program U) there U.body (n + 2)) root_same
      ∙ called_sites_same C.procs P B there here h C.body (call_root C + 2))

  channel_same : (k width : ℕ) (kind : Kind) → call_channel_rules U k width kind ≡ call_channel_rules C k width kind
  channel_same k width In = let taken = all_sites_same (receive_site k) (receive_site k) (receive_sites P B k) in rw taken refl
  channel_same k width Out = let sent = all_sites_same (send_site k) (send_site k) (send_sites P B k) in rw sent refl
  channel_same k width Chan =
      let sent = all_sites_same (send_site k) (send_site k) (send_sites P B k) in
      let taken = all_sites_same (receive_site k) (receive_site k) (receive_sites P B k) in
      rw (sent, taken) refl

  channels_whole_same : (k : ℕ) (cs : List Channel) → call_channels_rules U k cs ≡ call_channels_rules C k cs
  channels_whole_same k [] = refl
  channels_whole_same k (c ∷ cs) =
      ap (λ l. l ++ call_channels_rules U (suc k) cs) (channel_same k c.width c.kind)
      ∙ ap (λ l. call_channel_rules C k c.width c.kind ++ l) (channels_whole_same (suc k) cs)

  vars_whole_same : (x : ℕ) (vs : List Var) → call_vars_rules U x vs ≡ call_vars_rules C x vs
  vars_whole_same x [] = refl
  vars_whole_same x (v ∷ vs) =
      let sites = all_sites_same (write_site (inlined_program U) x) (write_site P x) (write_sites P B x) in
      let rest = vars_whole_same (suc x) vs in
      rw (sites, rest) refl

  rules_whole_same : call_rules U ≡ call_rules C
  rules_whole_same =
      let root = root_same in
      let answer = answer_whole_same in
      let channels = channels_whole_same 0 C.channels in
      let vars = vars_whole_same 0 C.vars in
      let procs = proc_rules_same 0 C.procs (procs_from C) in
      let body = called_rules_same C.procs P B (proc_answer U) (proc_answer C) proc_answer_same C.body (call_root C) (call_root C + 2) in
      rw (answer, channels, vars, procs, root, body) refl

  composed_whole_same : call_composed U ≡ call_composed C
  composed_whole_same =
      ap (λ (rules : List NodeRules). record { up = map (λ (n : NodeRules). n.up) rules; down = map (λ (n : NodeRules). n.down) rules }) rules_whole_same

  firsts_same : call_firsts U ≡ call_firsts C
  firsts_same =
      let vars = vars_high_same P B 0 C.vars in
      let hidden = all_sites_same (hidden_high (inlined_program U)) (hidden_high P) (high_sites P B) in
      let count = count_whole_same in
      ap (λ n. fold (λ values node. slice_set values node true) (replicate n false)
      (vars_high (inlined_program U) 0 C.vars ++ all_sites U (hidden_high (inlined_program U)))) count
      ∙ (ap (λ l. fold (λ values node. slice_set values node true) (replicate (call_count C) false)
      (l ++ all_sites U (hidden_high (inlined_program U)))) vars
      ∙ ap (λ l. fold (λ values node. slice_set values node true) (replicate (call_count C) false) (vars_high P 0 C.vars ++ l)) hidden)

  names_whole_same : call_names U ≡ call_names C
  names_whole_same =
      let procs = procs_size_same P B C.procs in
      let size = called_size_same C.procs P B C.body in
      rw (procs, size) refl

  pub call_net_same : call_net U (call_names U) ≡ call_net C (call_names C)
  call_net_same =
      nets_same (call_names U) (call_names C) (call_firsts U) (call_firsts C) (call_composed U) (call_composed C) (wires_from (inlined_program U) 0 C.channels)
      (wires_from P 0 C.channels) names_whole_same firsts_same composed_whole_same (wires_same P B 0 C.channels)

pub one_call_net : (C D : CallProgram) → unplaced_calls C ≡ unplaced_calls D → call_net C (call_names C) ≡ call_net D (call_names D)
one_call_net C D same = sym (call_net_same C) ∙ (ap (λ (E : CallProgram). call_net E (call_names E)) same ∙ call_net_same D)

pub one_call_count : (C D : CallProgram) → unplaced_calls C ≡ unplaced_calls D → call_count C ≡ call_count D
one_call_count C D same = sym (count_whole_same C) ∙ (ap call_count same ∙ count_whole_same D)
