-- Where the nodes that stand in both nets have the same values, but for the requests of calls, their rules say the same.
--
-- P: the program with copies; ps: the bodies of the procedures; d: the answer of each body in the net with shared bodies;
-- x, y: statements with calls; r, s: a statement's request in the net with shared bodies and in that with copies; from, to:
-- its first node in either net; v, u: values of the nodes of the one and of the other; o: how many nodes a
-- selection has of its own; a, t: what is called an atom is one, and the program is typed.
use Rattle.std.proofs.Common.{◌≡◌, ℕ, zero, suc, ◌+◌, ◌*◌, ◌-◌, ◌<◌, ◌≤◌, Bool, true, false, List, ◌++◌, length, refl, sym, ap, ◌∙◌, arith, length-append}
use Rattle.std.specs.Prelude.{if◌then◌else◌, nat_lt}
use Rattle.std.proofs.lemmas.Bool.Decides.{nat_tests}
use Rattle.prs_core.specs.Nets.{NodeRules}
use Rattle.width_check.specs.Processes.{Formula, Process, Choices, no_choices, and_choice, choice_count, member_count, TypedProgram}
use Rattle.width_check.specs.Typing.{var_width, IsProcess, AreProcesses, AreChoices}
use Rattle.handshake_expand.specs.Layout.{formula_size, size_of, branches_size, guards_size, root_request}
use Rattle.handshake_expand.specs.Answers.{answer_of, turn_answer, guards_from, bodies_from, select_own, again_own}
use Rattle.cell_parallel.specs.Trees.{tree_rules}
use Rattle.cell_parallel.specs.Sizes.{tree_length}
use Rattle.cell_select.specs.Selections.{starts, select_rules, again_rules}
use Rattle.function_blocks.specs.Expressions.{formula_rules, formula_result}
use Rattle.function_blocks.proofs.Sizes.{result_length}
use Rattle.net_compose.specs.Translation.{bits_at, rules_of, guard_pairs, guards_rules, choosing_at, repeating_at, branch_answers, branch_ends, branches_end}
use Rattle.net_compose.proofs.Sizes.{latches_and_starts, guards_length, ends_length, statement_length}
use Rattle.net_compose.proofs.FlatTrees.{Alike, RulesAlike, rules_append, tree_rules_alike}
use Rattle.net_compose.proofs.FlatRules.{counted, branches_end_is}
use Rattle.net_compose.proofs.SameValues.{same_high, same_mixed, elements_alike, results_alike}
use Rattle.net_compose.proofs.SameSelections.{PairsAlike, pairs_append, pairs_by_places, range_alike, SameChoosing, selects_alike, agains_alike}
use Rattle.call_map.specs.Calling.{Called, calling, atom, turned, abreast, chosen, looped, Calleds, no_calleds, and_called, CalledChoices, no_called, or_called, inlined, inlined_each, inlined_choices, called_size, called_branches_size, called_answer, called_turn_answer, called_choosing, called_repeating, called_branch_answers, called_ends, OfAtoms, EachOfAtoms, BranchesOfAtoms}
use Rattle.call_map.proofs.AtomsAlike.{expression_alike, atom_alike, atom_answer}
use Rattle.call_map.proofs.Items.{Each, each_left, each_right, each_append, Item, paired, Same, SaysSame, paired_same, paired_says, untagged, CallPoint, is_calling, one_calling, branch_calling, front_tag, element_items, select_here, select_there, again_here, again_there, items, turn_items, branch_items, body_items, calls, turn_calls, branch_calls, body_calls, CallSame}

module _ (P : TypedProgram) (ps : List Process) (d : ℕ → ℕ) where
  -- how many nodes a selection has before its branches
  pub select_long : (choices : CalledChoices) → AreChoices P.channels P.vars (inlined_choices ps choices) → (r from : ℕ)
      → length (select_here P ps d choices r from) ≡ select_own + 2 * choice_count (inlined_choices ps choices) + guards_size (inlined_choices ps choices)
  select_long choices t r from =
      let c = inlined_choices ps choices in
      let a = latches_and_starts counted P c r (from + 2) select_own from t in
      let b = guards_length counted P c (from + 1) (guards_from c select_own from) t in
      let e = length-append (select_rules (called_choosing ps P choices r (from + 2) select_own from))
      (guards_rules P c (from + 1) (guards_from c select_own from)) in
      omega (arith, a, b, e)

  pub select_long_there : (choices : CalledChoices) → AreChoices P.channels P.vars (inlined_choices ps choices) → (s to : ℕ)
      → length (select_there P ps d choices s to) ≡ select_own + 2 * choice_count (inlined_choices ps choices) + guards_size (inlined_choices ps choices)
  select_long_there choices t s to =
      let c = inlined_choices ps choices in
      let a = latches_and_starts counted P c s (to + 2) select_own to t in
      let b = guards_length counted P c (to + 1) (guards_from c select_own to) t in
      let e = length-append (select_rules (choosing_at P c s (to + 2) select_own to)) (guards_rules P c (to + 1) (guards_from c select_own to)) in
      omega (arith, a, b, e)

  pub again_long : (choices : CalledChoices) → AreChoices P.channels P.vars (inlined_choices ps choices) → (r from : ℕ)
      → length (again_here P ps d choices r from) ≡ again_own + 2 * choice_count (inlined_choices ps choices) + guards_size (inlined_choices ps choices)
  again_long choices t r from =
      let c = inlined_choices ps choices in
      let a = latches_and_starts counted P c (from + 1) (from + 4) again_own from t in
      let b = guards_length counted P c (from + 3) (guards_from c again_own from) t in
      let e = length-append (again_rules (called_repeating ps P choices r from)) (guards_rules P c (from + 3) (guards_from c again_own from)) in
      omega (arith, a, b, e)

  pub again_long_there : (choices : CalledChoices) → AreChoices P.channels P.vars (inlined_choices ps choices) → (s to : ℕ)
      → length (again_there P ps d choices s to) ≡ again_own + 2 * choice_count (inlined_choices ps choices) + guards_size (inlined_choices ps choices)
  again_long_there choices t s to =
      let c = inlined_choices ps choices in
      let a = latches_and_starts counted P c (to + 1) (to + 4) again_own to t in
      let b = guards_length counted P c (to + 3) (guards_from c again_own to) t in
      let e = length-append (again_rules (repeating_at P c s to)) (guards_rules P c (to + 3) (guards_from c again_own to)) in
      omega (arith, a, b, e)

  pub ends_long : (members : Calleds) (from : ℕ) → length (called_ends ps P members from) ≡ member_count (inlined_each ps members)
  ends_long no_calleds from = refl
  ends_long (and_called x more) from = ap suc (ends_long more (from + 3 + called_size ps P x))

module _ (P : TypedProgram) (ps : List Process) (d : ℕ → ℕ) (some : (y : ℕ) → y < length P.vars → 1 ≤ var_width P.vars y) (v u : ℕ → Bool)
    (low : (m : ℕ) → m < root_request P → v m ≡ u m) where
  abbrev Sames : List Item → Type 0
  Sames xs = Each (Same v u) xs

  abbrev Says : List Item → Type 0
  Says xs = Each (SaysSame v u) xs

  abbrev Calls : List CallPoint → Type 0
  Calls cs = Each (CallSame P ps d v u) cs

  -- guards
  pub guards_alike : (c : Choices) → AreChoices P.channels P.vars c → (r s from to : ℕ) → v r ≡ u s
      → ((i : ℕ) → i < guards_size c → v (from + i) ≡ u (to + i)) → RulesAlike v u (guards_rules P c r from) (guards_rules P c s to)
  guards_alike no_choices t r s from to asked same = tt
  guards_alike (and_choice g p more) t r s from to asked same =
      rules_append v u (formula_rules (bits_at P) g r from) (formula_rules (bits_at P) g s to) (guards_rules P more r (from + formula_size g))
      (guards_rules P more s (to + formula_size g))
      (expression_alike P some v u low 1 g t.0 r from s to asked (λ i l. same i (omega (arith, l))))
      (guards_alike more t.2 r s (from + formula_size g) (to + formula_size g) asked
      (λ i l. ap v (let z : from + formula_size g + i ≡ from + (formula_size g + i) = omega arith in z)
      ∙ (same (formula_size g + i) (omega (arith, l)) ∙ ap u (let z : to + (formula_size g + i) ≡ to + formula_size g + i = omega arith in z))))

  pub guard_pairs_alike : (c : Choices) → AreChoices P.channels P.vars c → (from to : ℕ)
      → ((i : ℕ) → i < guards_size c → v (from + i) ≡ u (to + i)) → PairsAlike v u (guard_pairs c from) (guard_pairs c to)
  guard_pairs_alike no_choices t from to same = tt
  guard_pairs_alike (and_choice g p more) t from to same =
      let formed = t.0.formed in
      let a = result_length g from formed in
      let b = result_length g to formed in
      pairs_append v u (formula_result g from) (formula_result g to) (guard_pairs more (from + formula_size g)) (guard_pairs more (to + formula_size g))
      (pairs_by_places v u (formula_result g from) (formula_result g to) (a ∙ sym b)
      (λ i one l. results_alike v u P g formed t.0.reads from to (λ j h. same j (omega (arith, h))) i one (omega (arith, l, a))))
      (guard_pairs_alike more t.2 (from + formula_size g) (to + formula_size g)
      (λ i l. ap v (let z : from + formula_size g + i ≡ from + (formula_size g + i) = omega arith in z)
      ∙ (same (formula_size g + i) (omega (arith, l)) ∙ ap u (let z : to + (formula_size g + i) ≡ to + formula_size g + i = omega arith in z))))

  -- places among the nodes of a selection before its branches
  branch_past : (choices : CalledChoices) (i : ℕ) → choice_count (inlined_choices ps choices) ≤ i → branch_calling choices i ≡ false
  branch_past no_called i l = refl
  branch_past (or_called g x more) zero l = absurd (omega (arith, l))
  branch_past (or_called g x more) (suc i) l = branch_past more i (omega (arith, l))

  tag_before : (choices : CalledChoices) (before i : ℕ) → i < before → front_tag choices before i ≡ false
  tag_before choices before i l =
      ap (λ b. if b then false else branch_calling choices (i - before)) (let e : nat_lt i before ≡ true = grind (arith, nat_tests) in e)

  tag_behind : (choices : CalledChoices) (before j : ℕ) → front_tag choices before (before + j) ≡ branch_calling choices j
  tag_behind choices before j =
      ap (λ b. if b then false else branch_calling choices (before + j - before)) (let e : nat_lt (before + j) before ≡ false = grind (arith, nat_tests) in e)
      ∙ ap (branch_calling choices) (let e : before + j - before ≡ j = omega arith in e)

  module _ (choices : CalledChoices) (t : AreChoices P.channels P.vars (inlined_choices ps choices)) (o from to : ℕ) (fh ft : List NodeRules)
      (long : length fh ≡ o + 2 * choice_count (inlined_choices ps choices) + guards_size (inlined_choices ps choices))
      (long_there : length ft ≡ o + 2 * choice_count (inlined_choices ps choices) + guards_size (inlined_choices ps choices))
      (front : Each (Same v u) (paired (front_tag choices (o + choice_count (inlined_choices ps choices))) 0 from to fh ft)) where
    abbrev c : Choices
    c = inlined_choices ps choices

    abbrev n : ℕ
    n = choice_count (inlined_choices ps choices)

    at_place : (k : ℕ) → k < o + 2 * n + guards_size c → front_tag choices (o + n) k ≡ false → v (from + k) ≡ u (to + k)
    at_place k l off =
        paired_same v u (front_tag choices (o + n)) 0 from to fh ft (long ∙ sym long_there) front k (omega (arith, l, long))
        (ap (front_tag choices (o + n)) (let z : 0 + k ≡ k = omega arith in z) ∙ off)

    own_place : (k : ℕ) → k < o + n → v (from + k) ≡ u (to + k)
    own_place k l = at_place k (omega (arith, l)) (tag_before choices (o + n) k l)

    start_place : (j : ℕ) → j < n → branch_calling choices j ≡ false → v (from + o + n + j) ≡ u (to + o + n + j)
    start_place j l off =
        ap v (let z : from + o + n + j ≡ from + (o + n + j) = omega arith in z)
        ∙ (at_place (o + n + j) (omega (arith, l)) (tag_behind choices (o + n) j ∙ off) ∙ ap u (let z : to + (o + n + j) ≡ to + o + n + j = omega arith in z))

    guard_place : (i : ℕ) → i < guards_size c → v (guards_from c o from + i) ≡ u (guards_from c o to + i)
    guard_place i l =
        let e : o + 2 * n + i ≡ o + n + (n + i) = omega arith in
        ap v (let z : guards_from c o from + i ≡ from + (o + 2 * n + i) = omega arith in z)
        ∙ (at_place (o + 2 * n + i) (omega (arith, l))
        (ap (front_tag choices (o + n)) e ∙ (tag_behind choices (o + n) (n + i) ∙ branch_past choices (n + i) (omega arith)))
        ∙ ap u (let z : to + (o + 2 * n + i) ≡ guards_from c o to + i = omega arith in z))

    choosing_same : (r s any other : ℕ) → v r ≡ u s → v any ≡ u other
        → Alike v u (called_branch_answers ps P choices (bodies_from c o from)) (branch_answers P c (bodies_from c o to))
        → SameChoosing v u (called_choosing ps P choices r any o from) (choosing_at P c s other o to)
    choosing_same r s any other asked high answers = record {
      request = asked;
      any = high;
      latched = range_alike v u (from + o) (to + o) n n refl
          (λ i l. ap v (let z : from + o + i ≡ from + (o + i) = omega arith in z)
          ∙ (own_place (o + i) (omega (arith, l)) ∙ ap u (let z : to + (o + i) ≡ to + o + i = omega arith in z)));
      guards = guard_pairs_alike c t (guards_from c o from) (guards_from c o to) guard_place;
      answers = answers;
    }

  next_start : (choices : CalledChoices) (g : Formula) (x : Called) (start s count : ℕ)
      → ((j : ℕ) → j < suc count → branch_calling (or_called g x choices) j ≡ false → v (start + j) ≡ u (s + j))
      → (j : ℕ) → j < count → branch_calling choices j ≡ false → v (start + 1 + j) ≡ u (s + 1 + j)
  next_start choices g x start s count starts j l off = ap v (let z : start + 1 + j ≡ start + suc j = omega arith in z)
      ∙ (starts (suc j) (omega (arith, l)) off ∙ ap u (let z : s + suc j ≡ s + 1 + j = omega arith in z))

  this_start : (choices : CalledChoices) (g : Formula) (x : Called) (start s count : ℕ)
      → ((j : ℕ) → j < suc count → branch_calling (or_called g x choices) j ≡ false → v (start + j) ≡ u (s + j)) → is_calling x ≡ false → v start ≡ u s
  this_start choices g x start s count starts off = ap v (let z : start ≡ start + 0 = omega arith in z)
      ∙ (starts 0 (omega arith) off ∙ ap u (let z : s + 0 ≡ s = omega arith in z))

  -- the tree over branches
  tree_place : (members : Calleds) (from to : ℕ)
      → Sames (paired untagged 0 (from + called_branches_size ps P members) (branches_end P (inlined_each ps members) to)
      (tree_rules (called_ends ps P members from) (from + called_branches_size ps P members))
      (tree_rules (branch_ends P (inlined_each ps members) to) (branches_end P (inlined_each ps members) to)))
      → (k : ℕ) → k < member_count (inlined_each ps members) - 1
      → v (from + called_branches_size ps P members + k) ≡ u (branches_end P (inlined_each ps members) to + k)
  tree_place members from to its k l =
      let a = tree_length (called_ends ps P members from) (from + called_branches_size ps P members) in
      let b = tree_length (branch_ends P (inlined_each ps members) to) (branches_end P (inlined_each ps members) to) in
      let e = ends_long P ps d members from in
      let f = ends_length P (inlined_each ps members) to in
      paired_same v u untagged 0 (from + called_branches_size ps P members) (branches_end P (inlined_each ps members) to)
      (tree_rules (called_ends ps P members from) (from + called_branches_size ps P members))
      (tree_rules (branch_ends P (inlined_each ps members) to) (branches_end P (inlined_each ps members) to)) (omega (arith, a, b, e, f)) its k
      (omega (arith, a, e, l)) refl

  -- the answers
  mutual
    pub answer_same : (x : Called) → OfAtoms x → IsProcess P.channels P.vars (inlined ps x) → (r from s to : ℕ) → (is_calling x ≡ false → v r ≡ u s)
        → Sames (items P ps d x r from s to) → Calls (calls P ps d x r from s to) → v (called_answer ps P x from) ≡ u (answer_of P (inlined ps x) to)
    answer_same (calling q) a t r from s to asked its cs = cs.0
    answer_same (atom p) a t r from s to asked its cs =
        let m = statement_length counted P p r from t in
        let n = statement_length counted P p s to t in
        atom_answer P some v u low p a t r from s to (asked refl)
        (λ i l. paired_same v u untagged 0 from to (rules_of P p r from) (rules_of P p s to) (m ∙ sym n) its i (omega (arith, l, m)) refl)
    answer_same (turned members) a t r from s to asked its cs = turn_answer_same members a t.1 (omega (arith, t.0)) r from s to (λ e. asked refl) its cs
    answer_same (abreast members) a t r from s to asked its cs =
        let more : 2 ≤ member_count (inlined_each ps members) = t.0 in
        let rest = each_right (Same v u) (branch_items P ps d members r from s to) (paired untagged 0 (from + called_branches_size ps P members)
        (branches_end P (inlined_each ps members) to) (tree_rules (called_ends ps P members from) (from + called_branches_size ps P members))
        (tree_rules (branch_ends P (inlined_each ps members) to) (branches_end P (inlined_each ps members) to))) its in
        let e = branches_end_is P (inlined_each ps members) to in
        ap v (let z : from + (called_branches_size ps P members + (member_count (inlined_each ps members) - 1)) - 1
        ≡ from + called_branches_size ps P members + (member_count (inlined_each ps members) - 2) = omega (arith, more) in z)
        ∙ (tree_place members from to rest (member_count (inlined_each ps members) - 2) (omega (arith, more))
        ∙ ap u (let z : branches_end P (inlined_each ps members) to + (member_count (inlined_each ps members) - 2)
        ≡ to + (branches_size P (inlined_each ps members) + (member_count (inlined_each ps members) - 1)) - 1 = omega (arith, more, e) in z))
    answer_same (chosen false choices) a t r from s to asked its cs =
        let front =
        each_left (Same v u) (paired (front_tag choices (select_own + choice_count (inlined_choices ps choices))) 0 from to
        (select_here P ps d choices r from)
        (select_there P ps d choices s to)) (body_items P ps d choices (from + select_own + choice_count (inlined_choices ps choices))
        (bodies_from (inlined_choices ps choices) select_own from) (to + select_own + choice_count (inlined_choices ps choices))
        (bodies_from (inlined_choices ps choices) select_own to)) its in
        ap v (let z : from ≡ from + 0 = omega arith in z)
        ∙ (own_place choices t.2 select_own from to (select_here P ps d choices r from) (select_there P ps d choices s to)
        (select_long P ps d choices t.2 r from)
        (select_long_there P ps d choices t.2 s to) front 0 (omega arith) ∙ ap u (let z : to + 0 ≡ to = omega arith in z))
    answer_same (chosen true choices) a t r from s to asked its cs =
        let front =
        each_left (Same v u) (paired (front_tag choices (again_own + choice_count (inlined_choices ps choices))) 0 from to
        (again_here P ps d choices r from)
        (again_there P ps d choices s to)) (body_items P ps d choices (from + again_own + choice_count (inlined_choices ps choices))
        (bodies_from (inlined_choices ps choices) again_own from) (to + again_own + choice_count (inlined_choices ps choices))
        (bodies_from (inlined_choices ps choices) again_own to)) its in
        ap v (let z : from ≡ from + 0 = omega arith in z)
        ∙ (own_place choices t.2 again_own from to (again_here P ps d choices r from) (again_there P ps d choices s to) (again_long P ps d choices t.2 r from)
        (again_long_there P ps d choices t.2 s to) front 0 (omega arith) ∙ ap u (let z : to + 0 ≡ to = omega arith in z))
    answer_same (looped x) a t r from s to asked its cs = its.0 refl

    turn_answer_same : (members : Calleds) → EachOfAtoms members → AreProcesses P.channels P.vars (inlined_each ps members)
        → 1 ≤ member_count (inlined_each ps members)
        → (r from s to : ℕ) → (one_calling members ≡ false → v r ≡ u s) → Sames (turn_items P ps d members r from s to)
        → Calls (turn_calls P ps d members r from s to)
        → v (called_turn_answer ps P members from) ≡ u (turn_answer P (inlined_each ps members) to)
    turn_answer_same no_calleds a t one r from s to asked its cs = absurd (omega (arith, one))
    turn_answer_same (and_called x no_calleds) a t one r from s to asked its cs = answer_same x a.0 t.0 r from s to asked its cs
    turn_answer_same (and_called x (and_called y more)) a t one r from s to asked its cs =
        let q = element_items P ps d (is_calling x) (one_calling (and_called y more)) r (called_answer ps P x (from + 3)) from s
        (answer_of P (inlined ps x) (to + 3)) to in
        let first = items P ps d x from (from + 3) to (to + 3) in
        let later = turn_items P ps d (and_called y more) (from + 2) (from + 3 + called_size ps P x) (to + 2) (to + 3 + size_of P (inlined ps x)) in
        let parts = each_right (Same v u) q (first ++ later) its in
        turn_answer_same (and_called y more) a.1 t.1 (omega arith) (from + 2) (from + 3 + called_size ps P x) (to + 2) (to + 3 + size_of P (inlined ps x))
        ((each_left (Same v u) q (first ++ later) its).1.1.0) (each_right (Same v u) first later parts)
        (each_right (CallSame P ps d v u) (calls P ps d x from (from + 3) to (to + 3))
        (turn_calls P ps d (and_called y more) (from + 2) (from + 3 + called_size ps P x) (to + 2) (to + 3 + size_of P (inlined ps x))) cs)

  body_answers_same : (choices : CalledChoices) → BranchesOfAtoms choices → AreChoices P.channels P.vars (inlined_choices ps choices) → (start from s to : ℕ)
      → ((j : ℕ) → j < choice_count (inlined_choices ps choices) → branch_calling choices j ≡ false → v (start + j) ≡ u (s + j))
      → Sames (body_items P ps d choices start from s to) → Calls (body_calls P ps d choices start from s to)
      → Alike v u (called_branch_answers ps P choices from) (branch_answers P (inlined_choices ps choices) to)
  body_answers_same no_called a t start from s to starts its cs = tt
  body_answers_same (or_called g x more) a t start from s to starts its cs =
      let first = items P ps d x start from s to in
      let later = body_items P ps d more (start + 1) (from + called_size ps P x) (s + 1) (to + size_of P (inlined ps x)) in
      let mine = calls P ps d x start from s to in
      let others = body_calls P ps d more (start + 1) (from + called_size ps P x) (s + 1) (to + size_of P (inlined ps x)) in (
        answer_same x a.0 t.1 start from s to (this_start more g x start s (choice_count (inlined_choices ps more)) starts)
            (each_left (Same v u) first later its)
            (each_left (CallSame P ps d v u) mine others cs),
        body_answers_same more a.1 t.2 (start + 1) (from + called_size ps P x) (s + 1) (to + size_of P (inlined ps x))
            (next_start more g x start s (choice_count (inlined_choices ps more)) starts) (each_right (Same v u) first later its)
            (each_right (CallSame P ps d v u) mine others cs),
      )

  -- the next requests of the branches
  ends_same : (members : Calleds) (r from s to : ℕ) → Sames (branch_items P ps d members r from s to)
      → Alike v u (called_ends ps P members from) (branch_ends P (inlined_each ps members) to)
  ends_same no_calleds r from s to its = tt
  ends_same (and_called x more) r from s to its =
      let q = element_items P ps d (is_calling x) false r (called_answer ps P x (from + 3)) from s (answer_of P (inlined ps x) (to + 3)) to in
      let first = items P ps d x from (from + 3) to (to + 3) in
      let later = branch_items P ps d more r (from + 3 + called_size ps P x) s (to + 3 + size_of P (inlined ps x)) in (
        (each_left (Same v u) q (first ++ later) its).1.1.0 refl,
        ends_same more r (from + 3 + called_size ps P x) s (to + 3 + size_of P (inlined ps x)) (each_right (Same v u) first later
            (each_right (Same v u) q (first ++ later) its)),
      )

  element_says : (a b : Bool) (r answer from s other to : ℕ) → v r ≡ u s → v answer ≡ u other → v (from + 1) ≡ u (to + 1)
      → Says (element_items P ps d a b r answer from s other to)
  element_says a b r answer from s other to asked answered latched =
      let z = elements_alike v u r answer from s other to asked answered latched in
      ((z.0, z.1), ((z.2.0, z.2.1), ((z.2.2.0, z.2.2.1), tt)))

  mutual
    pub says_same : (x : Called) → OfAtoms x → IsProcess P.channels P.vars (inlined ps x) → (r from s to : ℕ) → (is_calling x ≡ false → v r ≡ u s)
        → Sames (items P ps d x r from s to) → Calls (calls P ps d x r from s to) → Says (items P ps d x r from s to)
    says_same (calling q) a t r from s to asked its cs = tt
    says_same (atom p) a t r from s to asked its cs =
        let m = statement_length counted P p r from t in
        let n = statement_length counted P p s to t in
        paired_says v u untagged 0 from to (rules_of P p r from) (rules_of P p s to) (atom_alike P some v u low p a t r from s to (asked refl)
        (λ i l. paired_same v u untagged 0 from to (rules_of P p r from) (rules_of P p s to) (m ∙ sym n) its i (omega (arith, l, m)) refl))
    says_same (turned members) a t r from s to asked its cs = turn_says members a t.1 r from s to (λ e. asked refl) its cs
    says_same (abreast members) a t r from s to asked its cs =
        let tree = paired untagged 0 (from + called_branches_size ps P members) (branches_end P (inlined_each ps members) to)
        (tree_rules (called_ends ps P members from) (from + called_branches_size ps P members))
        (tree_rules (branch_ends P (inlined_each ps members) to) (branches_end P (inlined_each ps members) to)) in
        let first = each_left (Same v u) (branch_items P ps d members r from s to) tree its in
        let rest = each_right (Same v u) (branch_items P ps d members r from s to) tree its in
        let b = tree_length (branch_ends P (inlined_each ps members) to) (branches_end P (inlined_each ps members) to) in
        let f = ends_length P (inlined_each ps members) to in
        each_append (SaysSame v u) (branch_items P ps d members r from s to) tree (branches_say members a t.1 r from s to (asked refl) first cs)
        (paired_says v u untagged 0 (from + called_branches_size ps P members) (branches_end P (inlined_each ps members) to)
        (tree_rules (called_ends ps P members from) (from + called_branches_size ps P members))
        (tree_rules (branch_ends P (inlined_each ps members) to) (branches_end P (inlined_each ps members) to))
        (tree_rules_alike v u (called_ends ps P members from) (branch_ends P (inlined_each ps members) to) (from + called_branches_size ps P members)
        (branches_end P (inlined_each ps members) to) (ends_same members r from s to first)
        (λ k l. tree_place members from to rest k (omega (arith, l, b, f)))))
    says_same (chosen false choices) a t r from s to asked its cs =
        let c = inlined_choices ps choices in
        let fh = select_here P ps d choices r from in
        let ft = select_there P ps d choices s to in
        let front = paired (front_tag choices (select_own + choice_count c)) 0 from to fh ft in
        let bodies = body_items P ps d choices (from + select_own + choice_count c) (bodies_from c select_own from) (to + select_own + choice_count c)
        (bodies_from c select_own to) in
        let mine = each_left (Same v u) front bodies its in
        let others = each_right (Same v u) front bodies its in
        let long = select_long P ps d choices t.2 r from in
        let long_there = select_long_there P ps d choices t.2 s to in
        let own = own_place choices t.2 select_own from to fh ft long long_there mine in
        let starts_at = start_place choices t.2 select_own from to fh ft long long_there mine in
        let guards_at = guard_place choices t.2 select_own from to fh ft long long_there mine in
        let answers = body_answers_same choices a t.2 (from + select_own + choice_count c) (bodies_from c select_own from) (to + select_own + choice_count c)
        (bodies_from c select_own to) starts_at others cs in
        each_append (SaysSame v u) front bodies
        (paired_says v u (front_tag choices (select_own + choice_count c)) 0 from to fh ft
        (rules_append v u (select_rules (called_choosing ps P choices r (from + 2) select_own from)) (select_rules (choosing_at P c s (to + 2) select_own to))
        (guards_rules P c (from + 1) (guards_from c select_own from)) (guards_rules P c (to + 1) (guards_from c select_own to))
        (selects_alike v u (called_choosing ps P choices r (from + 2) select_own from) (choosing_at P c s (to + 2) select_own to)
        (choosing_same choices t.2 select_own from to fh ft long long_there mine r s (from + 2) (to + 2) (asked refl) (own 2 (omega arith)) answers))
        (guards_alike c t.2 (from + 1) (to + 1) (guards_from c select_own from) (guards_from c select_own to) (own 1 (omega arith)) guards_at)))
        (bodies_say choices a t.2 (from + select_own + choice_count c) (bodies_from c select_own from) (to + select_own + choice_count c)
        (bodies_from c select_own to)
        starts_at others cs)
    says_same (chosen true choices) a t r from s to asked its cs =
        let c = inlined_choices ps choices in
        let fh = again_here P ps d choices r from in
        let ft = again_there P ps d choices s to in
        let front = paired (front_tag choices (again_own + choice_count c)) 0 from to fh ft in
        let bodies = body_items P ps d choices (from + again_own + choice_count c) (bodies_from c again_own from) (to + again_own + choice_count c)
        (bodies_from c again_own to) in
        let mine = each_left (Same v u) front bodies its in
        let others = each_right (Same v u) front bodies its in
        let long = again_long P ps d choices t.2 r from in
        let long_there = again_long_there P ps d choices t.2 s to in
        let own = own_place choices t.2 again_own from to fh ft long long_there mine in
        let starts_at = start_place choices t.2 again_own from to fh ft long long_there mine in
        let guards_at = guard_place choices t.2 again_own from to fh ft long long_there mine in
        let answers = body_answers_same choices a t.2 (from + again_own + choice_count c) (bodies_from c again_own from) (to + again_own + choice_count c)
        (bodies_from c again_own to) starts_at others cs in
        each_append (SaysSame v u) front bodies
        (paired_says v u (front_tag choices (again_own + choice_count c)) 0 from to fh ft
        (rules_append v u (again_rules (called_repeating ps P choices r from)) (again_rules (repeating_at P c s to))
        (guards_rules P c (from + 3) (guards_from c again_own from)) (guards_rules P c (to + 3) (guards_from c again_own to))
        (agains_alike v u (called_repeating ps P choices r from) (repeating_at P c s to) (asked refl) (own 2 (omega arith)) (own 5 (omega arith))
        (choosing_same choices t.2 again_own from to fh ft long long_there mine (from + 1) (to + 1) (from + 4) (to + 4) (own 1 (omega arith))
        (own 4 (omega arith)) answers))
        (guards_alike c t.2 (from + 3) (to + 3) (guards_from c again_own from) (guards_from c again_own to) (own 3 (omega arith)) guards_at)))
        (bodies_say choices a t.2 (from + again_own + choice_count c) (bodies_from c again_own from) (to + again_own + choice_count c)
        (bodies_from c again_own to)
        starts_at others cs)
    says_same (looped x) a t r from s to asked its cs =
        let answered = answer_same x a t (from + 1) (from + 2) (to + 1) (to + 2) its.1.0 its.1.1 cs in (
          (refl, refl),
          (
            (
              same_mixed v u r (called_answer ps P x (from + 2)) s (answer_of P (inlined ps x) (to + 2)) (asked refl) answered,
              same_high v u (called_answer ps P x (from + 2)) (answer_of P (inlined ps x) (to + 2)) answered,
            ),
            says_same x a t (from + 1) (from + 2) (to + 1) (to + 2) its.1.0 its.1.1 cs,
          ),
        )

    turn_says : (members : Calleds) → EachOfAtoms members → AreProcesses P.channels P.vars (inlined_each ps members)
        → (r from s to : ℕ) → (one_calling members ≡ false → v r ≡ u s) → Sames (turn_items P ps d members r from s to)
        → Calls (turn_calls P ps d members r from s to)
        → Says (turn_items P ps d members r from s to)
    turn_says no_calleds a t r from s to asked its cs = tt
    turn_says (and_called x no_calleds) a t r from s to asked its cs = says_same x a.0 t.0 r from s to asked its cs
    turn_says (and_called x (and_called y more)) a t r from s to asked its cs =
        let q = element_items P ps d (is_calling x) (one_calling (and_called y more)) r (called_answer ps P x (from + 3)) from s
        (answer_of P (inlined ps x) (to + 3)) to in
        let first = items P ps d x from (from + 3) to (to + 3) in
        let later = turn_items P ps d (and_called y more) (from + 2) (from + 3 + called_size ps P x) (to + 2) (to + 3 + size_of P (inlined ps x)) in
        let mine = calls P ps d x from (from + 3) to (to + 3) in
        let others = turn_calls P ps d (and_called y more) (from + 2) (from + 3 + called_size ps P x) (to + 2) (to + 3 + size_of P (inlined ps x)) in
        let element = each_left (Same v u) q (first ++ later) its in
        let parts = each_right (Same v u) q (first ++ later) its in
        let inside = each_left (Same v u) first later parts in
        let my_calls = each_left (CallSame P ps d v u) mine others cs in
        each_append (SaysSame v u) q (first ++ later)
        (element_says (is_calling x) (one_calling (and_called y more)) r (called_answer ps P x (from + 3)) from s (answer_of P (inlined ps x) (to + 3)) to
        (asked refl)
        (answer_same x a.0 t.0 from (from + 3) to (to + 3) element.0 inside my_calls) (element.1.0 refl))
        (each_append (SaysSame v u) first later (says_same x a.0 t.0 from (from + 3) to (to + 3) element.0 inside my_calls)
        (turn_says (and_called y more) a.1 t.1 (from + 2) (from + 3 + called_size ps P x) (to + 2) (to + 3 + size_of P (inlined ps x)) element.1.1.0
        (each_right (Same v u) first later parts) (each_right (CallSame P ps d v u) mine others cs)))

    branches_say : (members : Calleds) → EachOfAtoms members → AreProcesses P.channels P.vars (inlined_each ps members)
        → (r from s to : ℕ) → v r ≡ u s → Sames (branch_items P ps d members r from s to) → Calls (branch_calls P ps d members r from s to)
        → Says (branch_items P ps d members r from s to)
    branches_say no_calleds a t r from s to asked its cs = tt
    branches_say (and_called x more) a t r from s to asked its cs =
        let q = element_items P ps d (is_calling x) false r (called_answer ps P x (from + 3)) from s (answer_of P (inlined ps x) (to + 3)) to in
        let first = items P ps d x from (from + 3) to (to + 3) in
        let later = branch_items P ps d more r (from + 3 + called_size ps P x) s (to + 3 + size_of P (inlined ps x)) in
        let mine = calls P ps d x from (from + 3) to (to + 3) in
        let others = branch_calls P ps d more r (from + 3 + called_size ps P x) s (to + 3 + size_of P (inlined ps x)) in
        let element = each_left (Same v u) q (first ++ later) its in
        let parts = each_right (Same v u) q (first ++ later) its in
        let inside = each_left (Same v u) first later parts in
        let my_calls = each_left (CallSame P ps d v u) mine others cs in
        each_append (SaysSame v u) q (first ++ later)
        (element_says (is_calling x) false r (called_answer ps P x (from + 3)) from s (answer_of P (inlined ps x) (to + 3)) to asked
        (answer_same x a.0 t.0 from (from + 3) to (to + 3) element.0 inside my_calls) (element.1.0 refl))
        (each_append (SaysSame v u) first later (says_same x a.0 t.0 from (from + 3) to (to + 3) element.0 inside my_calls)
        (branches_say more a.1 t.1 r (from + 3 + called_size ps P x) s (to + 3 + size_of P (inlined ps x)) asked
        (each_right (Same v u) first later parts) (each_right (CallSame P ps d v u) mine others cs)))

    bodies_say : (choices : CalledChoices) → BranchesOfAtoms choices → AreChoices P.channels P.vars (inlined_choices ps choices) → (start from s to : ℕ)
        → ((j : ℕ) → j < choice_count (inlined_choices ps choices) → branch_calling choices j ≡ false → v (start + j) ≡ u (s + j))
        → Sames (body_items P ps d choices start from s to) → Calls (body_calls P ps d choices start from s to)
        → Says (body_items P ps d choices start from s to)
    bodies_say no_called a t start from s to starts its cs = tt
    bodies_say (or_called g x more) a t start from s to starts its cs =
        let first = items P ps d x start from s to in
        let later = body_items P ps d more (start + 1) (from + called_size ps P x) (s + 1) (to + size_of P (inlined ps x)) in
        let mine = calls P ps d x start from s to in
        let others = body_calls P ps d more (start + 1) (from + called_size ps P x) (s + 1) (to + size_of P (inlined ps x)) in
        each_append (SaysSame v u) first later
        (says_same x a.0 t.1 start from s to (this_start more g x start s (choice_count (inlined_choices ps more)) starts)
        (each_left (Same v u) first later its)
        (each_left (CallSame P ps d v u) mine others cs))
        (bodies_say more a.1 t.2 (start + 1) (from + called_size ps P x) (s + 1) (to + size_of P (inlined ps x))
        (next_start more g x start s (choice_count (inlined_choices ps more)) starts) (each_right (Same v u) first later its)
        (each_right (CallSame P ps d v u) mine others cs))
