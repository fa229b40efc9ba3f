-- A statement whose nodes stand in one net from one number on and in another from another, as the body of a procedure and a
-- copy of it: where its nodes have the same values in both, its rules say the same.
--
-- P: the program with copies; v, u: values of the nodes of the one net and of the other; r, s: the request of a statement in
-- either; from, to: its first node; c: the choices of a selection; o: how many nodes it has of its own.
use Rattle.std.proofs.Common.{◌≡◌, ℕ, suc, ◌+◌, ◌*◌, ◌-◌, ◌<◌, ◌≤◌, Bool, true, false, [], ◌++◌, length, refl, sym, ap, ◌∙◌, subst, arith}
use Rattle.width_check.specs.Processes.{Process, skipping, assigning, sending, receiving, in_turn, side_by_side, choosing, repeating, Processes, no_members, and_member, member_count, Choices, no_choices, and_choice, choice_count, TypedProgram}
use Rattle.width_check.specs.Typing.{var_width, IsProcess, AreProcesses, AreChoices}
use Rattle.handshake_expand.specs.Layout.{size_of, turn_size, branches_size, guards_size, bodies_size, root_request}
use Rattle.handshake_expand.specs.Answers.{answer_of, turn_answer, guards_from, bodies_from, select_own, again_own}
use Rattle.cell_parallel.specs.Trees.{tree_rules}
use Rattle.cell_parallel.specs.Sizes.{tree_length}
use Rattle.cell_select.specs.Selections.{select_rules, again_rules}
use Rattle.net_compose.specs.Translation.{q_rules, rules_of, turn_rules, branches_rules, bodies_rules, guards_rules, choosing_at, repeating_at, branch_answers, branch_ends, branches_end}
use Rattle.net_compose.proofs.Sizes.{ends_length}
use Rattle.net_compose.proofs.FlatTrees.{Alike, RulesAlike, rules_append, tree_rules_alike}
use Rattle.net_compose.proofs.FlatRules.{branches_end_is}
use Rattle.net_compose.proofs.SameValues.{same_high, same_mixed, elements_alike}
use Rattle.net_compose.proofs.SameSelections.{range_alike, SameChoosing, selects_alike, agains_alike}
use Rattle.call_map.proofs.AtomsAlike.{shifted, at_start, atom_alike, atom_answer}
use Rattle.call_map.proofs.ItemsAlike.{guards_alike, guard_pairs_alike}

module _ (P : TypedProgram) (some : (y : ℕ) → y < length P.vars → 1 ≤ var_width P.vars y) (v u : ℕ → Bool)
    (low : (m : ℕ) → m < root_request P → v m ≡ u m) where
  -- so many nodes, from a number on here and from another on there, have the same values
  abbrev pub Stand : (from to n : ℕ) → Type 0
  Stand from to n = (i : ℕ) → i < n → v (from + i) ≡ u (to + i)

  behind : (from to k n m : ℕ) → k + n ≤ m → Stand from to m → Stand (from + k) (to + k) n
  behind from to k n m le same = shifted P some v u low from to k n (λ i l. same i (omega (arith, l, le)))

  first : (from to m : ℕ) → 0 < m → Stand from to m → v from ≡ u to
  first from to m l same = at_start P some v u low from to m l same

  fewer : (from to n m : ℕ) → n ≤ m → Stand from to m → Stand from to n
  fewer from to n m le same i l = same i (omega (arith, l, le))

  module _ (c : Choices) (t : AreChoices P.channels P.vars c) (o from to more : ℕ) (same : Stand from to (o + 2 * choice_count c + guards_size c + more)) where
    in_guards : (i : ℕ) → i < guards_size c → v (guards_from c o from + i) ≡ u (guards_from c o to + i)
    in_guards i l =
        ap v (let z : guards_from c o from + i ≡ from + (o + 2 * choice_count c + i) = omega arith in z)
        ∙ (same (o + 2 * choice_count c + i) (omega (arith, l)) ∙ ap u (let z : to + (o + 2 * choice_count c + i) ≡ guards_from c o to + i = omega arith in z))

    in_starts : (i : ℕ) → i < choice_count c → v (from + o + choice_count c + i) ≡ u (to + o + choice_count c + i)
    in_starts i l =
        ap v (let z : from + o + choice_count c + i ≡ from + (o + choice_count c + i) = omega arith in z)
        ∙ (same (o + choice_count c + i) (omega (arith, l)) ∙ ap u (let z : to + (o + choice_count c + i) ≡ to + o + choice_count c + i = omega arith in z))

    in_bodies : Stand (bodies_from c o from) (bodies_from c o to) more
    in_bodies i l =
        ap v (let z : bodies_from c o from + i ≡ from + (o + 2 * choice_count c + guards_size c + i) = omega arith in z)
        ∙ (same (o + 2 * choice_count c + guards_size c + i) (omega (arith, l))
        ∙ ap u (let z : to + (o + 2 * choice_count c + guards_size c + i) ≡ bodies_from c o to + i = omega arith in z))

    placed_choosing : (r s any other : ℕ) → v r ≡ u s → v any ≡ u other
        → Alike v u (branch_answers P c (bodies_from c o from)) (branch_answers P c (bodies_from c o to))
        → SameChoosing v u (choosing_at P c r any o from) (choosing_at P c s other o to)
    placed_choosing r s any other asked high answers = record {
      request = asked;
      any = high;
      latched = range_alike v u (from + o) (to + o) (choice_count c) (choice_count c) refl
          (λ i l. ap v (let z : from + o + i ≡ from + (o + i) = omega arith in z)
          ∙ (same (o + i) (omega (arith, l)) ∙ ap u (let z : to + (o + i) ≡ to + o + i = omega arith in z)));
      guards = guard_pairs_alike P [] (λ q. q) some v u low c t (guards_from c o from) (guards_from c o to) in_guards;
      answers = answers;
    }

  next_starts : (start s n : ℕ) → ((i : ℕ) → i < suc n → v (start + i) ≡ u (s + i)) → (i : ℕ) → i < n → v (start + 1 + i) ≡ u (s + 1 + i)
  next_starts start s n starts i l = ap v (let z : start + 1 + i ≡ start + suc i = omega arith in z)
      ∙ (starts (suc i) (omega (arith, l)) ∙ ap u (let z : s + suc i ≡ s + 1 + i = omega arith in z))

  mutual
    pub placed_answer : (p : Process) → IsProcess P.channels P.vars p → (r from s to : ℕ) → v r ≡ u s → Stand from to (size_of P p)
        → v (answer_of P p from) ≡ u (answer_of P p to)
    placed_answer skipping t r from s to asked same = atom_answer P some v u low skipping tt t r from s to asked same
    placed_answer (assigning x at e) t r from s to asked same = atom_answer P some v u low (assigning x at e) tt t r from s to asked same
    placed_answer (sending chan at e) t r from s to asked same = atom_answer P some v u low (sending chan at e) tt t r from s to asked same
    placed_answer (receiving chan at x into) t r from s to asked same = atom_answer P some v u low (receiving chan at x into) tt t r from s to asked same
    placed_answer (in_turn ms) t r from s to asked same = placed_turn_answer ms t.1 (omega (arith, t.0)) r from s to asked same
    placed_answer (side_by_side ms) t r from s to asked same =
        let more : 2 ≤ member_count ms = t.0 in
        ap v (let z : from + (branches_size P ms + (member_count ms - 1)) - 1 ≡ from + (branches_size P ms + (member_count ms - 2)) = omega (arith, more) in z)
        ∙ (same (branches_size P ms + (member_count ms - 2)) (omega (arith, more))
        ∙ ap u (let z : to + (branches_size P ms + (member_count ms - 2)) ≡ to + (branches_size P ms + (member_count ms - 1)) - 1 = omega (arith, more) in z))
    placed_answer (choosing false c) t r from s to asked same = first from to (size_of P (choosing false c)) (omega arith) same
    placed_answer (choosing true c) t r from s to asked same = first from to (size_of P (choosing true c)) (omega arith) same
    placed_answer (repeating p) t r from s to asked same = first from to (size_of P (repeating p)) (omega arith) same

    placed_turn_answer : (ms : Processes) → AreProcesses P.channels P.vars ms → 1 ≤ member_count ms → (r from s to : ℕ) → v r ≡ u s
        → Stand from to (turn_size P ms) → v (turn_answer P ms from) ≡ u (turn_answer P ms to)
    placed_turn_answer no_members t one r from s to asked same = absurd (omega (arith, one))
    placed_turn_answer (and_member p no_members) t one r from s to asked same = placed_answer p t.0 r from s to asked same
    placed_turn_answer (and_member p (and_member q more)) t one r from s to asked same =
        let k = size_of P p in
        let z = placed_turn_answer (and_member q more) t.1 (omega arith) (from + 2) (from + (3 + k)) (to + 2) (to + (3 + k)) (same 2 (omega arith))
        (behind from to (3 + k) (turn_size P (and_member q more)) (3 + k + turn_size P (and_member q more)) (omega arith) same) in
        let e : from + 3 + k ≡ from + (3 + k) = omega arith in
        let f : to + 3 + k ≡ to + (3 + k) = omega arith in
        ap (λ n. v (turn_answer P (and_member q more) n)) e ∙ (z ∙ ap (λ n. u (turn_answer P (and_member q more) n)) (sym f))

  placed_body_answers : (c : Choices) → AreChoices P.channels P.vars c → (start from s to : ℕ) → ((i : ℕ) → i < choice_count c → v (start + i) ≡ u (s + i))
      → Stand from to (bodies_size P c) → Alike v u (branch_answers P c from) (branch_answers P c to)
  placed_body_answers no_choices t start from s to starts same = tt
  placed_body_answers (and_choice g p more) t start from s to starts same =
      let k = size_of P p in (
        placed_answer p t.1 start from s to (first start s (suc (choice_count more)) (omega arith) starts)
            (fewer from to k (k + bodies_size P more) (omega arith) same),
        placed_body_answers more t.2 (start + 1) (from + k) (s + 1) (to + k) (next_starts start s (choice_count more) starts)
            (behind from to k (bodies_size P more) (k + bodies_size P more) (omega arith) same),
      )

  placed_ends : (ms : Processes) (from to : ℕ) → Stand from to (branches_size P ms) → Alike v u (branch_ends P ms from) (branch_ends P ms to)
  placed_ends no_members from to same = tt
  placed_ends (and_member p more) from to same =
      let k = size_of P p in
      let z = placed_ends more (from + (3 + k)) (to + (3 + k))
      (behind from to (3 + k) (branches_size P more) (3 + k + branches_size P more) (omega arith) same) in
      let e : from + 3 + k ≡ from + (3 + k) = omega arith in
      let f : to + 3 + k ≡ to + (3 + k) = omega arith in (
        same 2 (omega arith),
        subst (λ n. Alike v u (branch_ends P more n) (branch_ends P more (to + 3 + k))) (sym e)
            (subst (λ n. Alike v u (branch_ends P more (from + (3 + k))) (branch_ends P more n)) (sym f) z),
      )

  mutual
    pub placed_alike : (p : Process) → IsProcess P.channels P.vars p → (r from s to : ℕ) → v r ≡ u s → Stand from to (size_of P p)
        → RulesAlike v u (rules_of P p r from) (rules_of P p s to)
    placed_alike skipping t r from s to asked same = atom_alike P some v u low skipping tt t r from s to asked same
    placed_alike (assigning x at e) t r from s to asked same = atom_alike P some v u low (assigning x at e) tt t r from s to asked same
    placed_alike (sending chan at e) t r from s to asked same = atom_alike P some v u low (sending chan at e) tt t r from s to asked same
    placed_alike (receiving chan at x into) t r from s to asked same = atom_alike P some v u low (receiving chan at x into) tt t r from s to asked same
    placed_alike (in_turn ms) t r from s to asked same = placed_turn ms t.1 r from s to asked same
    placed_alike (side_by_side ms) t r from s to asked same =
        let n = branches_size P ms in
        let b = tree_length (branch_ends P ms to) (branches_end P ms to) in
        let f = ends_length P ms to in
        let e = branches_end_is P ms from in
        let g = branches_end_is P ms to in
        let inner = fewer from to n (n + (member_count ms - 1)) (omega arith) same in
        rules_append v u (branches_rules P ms r from) (branches_rules P ms s to) (tree_rules (branch_ends P ms from) (branches_end P ms from))
        (tree_rules (branch_ends P ms to) (branches_end P ms to)) (placed_branches ms t.1 r from s to asked inner)
        (tree_rules_alike v u (branch_ends P ms from) (branch_ends P ms to) (branches_end P ms from) (branches_end P ms to) (placed_ends ms from to inner)
        (λ k l. ap v (let z : branches_end P ms from + k ≡ from + (n + k) = omega (arith, e) in z)
        ∙ (same (n + k) (omega (arith, l, b, f)) ∙ ap u (let z : to + (n + k) ≡ branches_end P ms to + k = omega (arith, g) in z))))
    placed_alike (choosing false c) t r from s to asked same =
        let more = bodies_size P c in
        let starts_at = in_starts c t.2 select_own from to more same in
        let inner = in_bodies c t.2 select_own from to more same in
        rules_append v u (select_rules (choosing_at P c r (from + 2) select_own from)) (select_rules (choosing_at P c s (to + 2) select_own to))
        (guards_rules P c (from + 1) (guards_from c select_own from) ++ bodies_rules P c (from + select_own + choice_count c) (bodies_from c select_own from))
        (guards_rules P c (to + 1) (guards_from c select_own to) ++ bodies_rules P c (to + select_own + choice_count c) (bodies_from c select_own to))
        (selects_alike v u (choosing_at P c r (from + 2) select_own from) (choosing_at P c s (to + 2) select_own to)
        (placed_choosing c t.2 select_own from to more same r s (from + 2) (to + 2) asked (same 2 (omega arith))
        (placed_body_answers c t.2 (from + select_own + choice_count c) (bodies_from c select_own from) (to + select_own + choice_count c)
        (bodies_from c select_own to)
        starts_at inner)))
        (rules_append v u (guards_rules P c (from + 1) (guards_from c select_own from)) (guards_rules P c (to + 1) (guards_from c select_own to))
        (bodies_rules P c (from + select_own + choice_count c) (bodies_from c select_own from))
        (bodies_rules P c (to + select_own + choice_count c) (bodies_from c select_own to))
        (guards_alike P [] (λ q. q) some v u low c t.2 (from + 1) (to + 1) (guards_from c select_own from) (guards_from c select_own to) (same 1 (omega arith))
        (in_guards c t.2 select_own from to more same))
        (placed_bodies c t.2 (from + select_own + choice_count c) (bodies_from c select_own from) (to + select_own + choice_count c)
        (bodies_from c select_own to)
        starts_at inner))
    placed_alike (choosing true c) t r from s to asked same =
        let more = bodies_size P c in
        let starts_at = in_starts c t.2 again_own from to more same in
        let inner = in_bodies c t.2 again_own from to more same in
        rules_append v u (again_rules (repeating_at P c r from)) (again_rules (repeating_at P c s to))
        (guards_rules P c (from + 3) (guards_from c again_own from) ++ bodies_rules P c (from + again_own + choice_count c) (bodies_from c again_own from))
        (guards_rules P c (to + 3) (guards_from c again_own to) ++ bodies_rules P c (to + again_own + choice_count c) (bodies_from c again_own to))
        (agains_alike v u (repeating_at P c r from) (repeating_at P c s to) asked (same 2 (omega arith)) (same 5 (omega arith))
        (placed_choosing c t.2 again_own from to more same (from + 1) (to + 1) (from + 4) (to + 4) (same 1 (omega arith)) (same 4 (omega arith))
        (placed_body_answers c t.2 (from + again_own + choice_count c) (bodies_from c again_own from) (to + again_own + choice_count c)
        (bodies_from c again_own to)
        starts_at inner)))
        (rules_append v u (guards_rules P c (from + 3) (guards_from c again_own from)) (guards_rules P c (to + 3) (guards_from c again_own to))
        (bodies_rules P c (from + again_own + choice_count c) (bodies_from c again_own from))
        (bodies_rules P c (to + again_own + choice_count c) (bodies_from c again_own to))
        (guards_alike P [] (λ q. q) some v u low c t.2 (from + 3) (to + 3) (guards_from c again_own from) (guards_from c again_own to) (same 3 (omega arith))
        (in_guards c t.2 again_own from to more same))
        (placed_bodies c t.2 (from + again_own + choice_count c) (bodies_from c again_own from) (to + again_own + choice_count c) (bodies_from c again_own to)
        starts_at inner))
    placed_alike (repeating p) t r from s to asked same =
        let one = same 1 (omega arith) in
        let inner = behind from to 2 (size_of P p) (2 + size_of P p) (omega arith) same in
        let answered = placed_answer p t (from + 1) (from + 2) (to + 1) (to + 2) one inner in (
          refl,
          refl,
          (
            same_mixed v u r (answer_of P p (from + 2)) s (answer_of P p (to + 2)) asked answered,
            same_high v u (answer_of P p (from + 2)) (answer_of P p (to + 2)) answered,
            placed_alike p t (from + 1) (from + 2) (to + 1) (to + 2) one inner,
          ),
        )

    placed_turn : (ms : Processes) → AreProcesses P.channels P.vars ms → (r from s to : ℕ) → v r ≡ u s → Stand from to (turn_size P ms)
        → RulesAlike v u (turn_rules P ms r from) (turn_rules P ms s to)
    placed_turn no_members t r from s to asked same = tt
    placed_turn (and_member p no_members) t r from s to asked same = placed_alike p t.0 r from s to asked same
    placed_turn (and_member p (and_member q more)) t r from s to asked same =
        let k = size_of P p in
        let n = turn_size P (and_member q more) in
        let e : from + 3 + k ≡ from + (3 + k) = omega arith in
        let f : to + 3 + k ≡ to + (3 + k) = omega arith in
        let child = first from to (3 + k + n) (omega arith) same in
        let inner = behind from to 3 k (3 + k + n) (omega arith) same in
        rules_append v u (q_rules r (answer_of P p (from + 3)) from) (q_rules s (answer_of P p (to + 3)) to)
        (rules_of P p from (from + 3) ++ turn_rules P (and_member q more) (from + 2) (from + 3 + k))
        (rules_of P p to (to + 3) ++ turn_rules P (and_member q more) (to + 2) (to + 3 + k))
        (elements_alike v u r (answer_of P p (from + 3)) from s (answer_of P p (to + 3)) to asked (placed_answer p t.0 from (from + 3) to (to + 3) child inner)
        (same 1 (omega arith)))
        (rules_append v u (rules_of P p from (from + 3)) (rules_of P p to (to + 3)) (turn_rules P (and_member q more) (from + 2) (from + 3 + k))
        (turn_rules P (and_member q more) (to + 2) (to + 3 + k)) (placed_alike p t.0 from (from + 3) to (to + 3) child inner)
        (subst (λ j. RulesAlike v u (turn_rules P (and_member q more) (from + 2) j) (turn_rules P (and_member q more) (to + 2) (to + 3 + k))) (sym e)
        (subst (λ j. RulesAlike v u (turn_rules P (and_member q more) (from + 2) (from + (3 + k))) (turn_rules P (and_member q more) (to + 2) j)) (sym f)
        (placed_turn (and_member q more) t.1 (from + 2) (from + (3 + k)) (to + 2) (to + (3 + k)) (same 2 (omega arith))
        (behind from to (3 + k) n (3 + k + n) (omega arith) same)))))

    placed_branches : (ms : Processes) → AreProcesses P.channels P.vars ms → (r from s to : ℕ) → v r ≡ u s → Stand from to (branches_size P ms)
        → RulesAlike v u (branches_rules P ms r from) (branches_rules P ms s to)
    placed_branches no_members t r from s to asked same = tt
    placed_branches (and_member p more) t r from s to asked same =
        let k = size_of P p in
        let n = branches_size P more in
        let e : from + 3 + k ≡ from + (3 + k) = omega arith in
        let f : to + 3 + k ≡ to + (3 + k) = omega arith in
        let child = first from to (3 + k + n) (omega arith) same in
        let inner = behind from to 3 k (3 + k + n) (omega arith) same in
        rules_append v u (q_rules r (answer_of P p (from + 3)) from) (q_rules s (answer_of P p (to + 3)) to)
        (rules_of P p from (from + 3) ++ branches_rules P more r (from + 3 + k)) (rules_of P p to (to + 3) ++ branches_rules P more s (to + 3 + k))
        (elements_alike v u r (answer_of P p (from + 3)) from s (answer_of P p (to + 3)) to asked (placed_answer p t.0 from (from + 3) to (to + 3) child inner)
        (same 1 (omega arith)))
        (rules_append v u (rules_of P p from (from + 3)) (rules_of P p to (to + 3)) (branches_rules P more r (from + 3 + k))
        (branches_rules P more s (to + 3 + k))
        (placed_alike p t.0 from (from + 3) to (to + 3) child inner)
        (subst (λ j. RulesAlike v u (branches_rules P more r j) (branches_rules P more s (to + 3 + k))) (sym e)
        (subst (λ j. RulesAlike v u (branches_rules P more r (from + (3 + k))) (branches_rules P more s j)) (sym f)
        (placed_branches more t.1 r (from + (3 + k)) s (to + (3 + k)) asked (behind from to (3 + k) n (3 + k + n) (omega arith) same)))))

    placed_bodies : (c : Choices) → AreChoices P.channels P.vars c → (start from s to : ℕ) → ((i : ℕ) → i < choice_count c → v (start + i) ≡ u (s + i))
        → Stand from to (bodies_size P c) → RulesAlike v u (bodies_rules P c start from) (bodies_rules P c s to)
    placed_bodies no_choices t start from s to starts same = tt
    placed_bodies (and_choice g p more) t start from s to starts same =
        let k = size_of P p in
        let n = bodies_size P more in
        rules_append v u (rules_of P p start from) (rules_of P p s to) (bodies_rules P more (start + 1) (from + k)) (bodies_rules P more (s + 1) (to + k))
        (placed_alike p t.1 start from s to (first start s (suc (choice_count more)) (omega arith) starts) (fewer from to k (k + n) (omega arith) same))
        (placed_bodies more t.2 (start + 1) (from + k) (s + 1) (to + k) (next_starts start s (choice_count more) starts)
        (behind from to k n (k + n) (omega arith) same))
