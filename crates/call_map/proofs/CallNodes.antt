-- All nodes of a statement with calls: in the net with shared bodies those that stand in both nets, and the answers of calls; in
-- the net with copies those and the copies.
--
-- P: the program with copies; ps: the bodies of the procedures; d: the answer of each body in the net with shared bodies;
-- x, y: statements with calls; r, s: a statement's request in the net with shared bodies and in that with copies; from, to:
-- its first node in either net; a, t: what is called an atom is one, and the program is typed.
use Rattle.std.proofs.Common.{◌≡◌, ℕ, suc, ◌+◌, ◌*◌, ◌-◌, Bool, true, false, List, [], ◌∷◌, ◌++◌, map, length, refl, sym, ap, ◌∙◌, subst, arith, length-append, append-nil, append_assoc}
use Rattle.std.specs.Prelude.{slice_index_or}
use Rattle.std.specs.List.Sorted.{IsPermutation}
use Rattle.std.proofs.lemmas.List.{map-append}
use Rattle.std.proofs.lemmas.List.Sorted.{IsPermutation-refl, IsPermutation-trans, IsPermutation-append_comm, IsPermutation-append_left, IsPermutation-append_right}
use Rattle.prs_core.specs.Nets.{NodeRules}
use Rattle.prs_core.specs.Pairs.{no_rules}
use Rattle.prs_core.specs.Sites.{site_answer}
use Rattle.width_check.specs.Processes.{Process, skipping, choice_count, member_count, TypedProgram}
use Rattle.width_check.specs.Typing.{IsProcess, AreProcesses, AreChoices}
use Rattle.handshake_expand.specs.Layout.{size_of, branches_size, guards_size}
use Rattle.handshake_expand.specs.Answers.{answer_of, guards_from, bodies_from, select_own, again_own}
use Rattle.cell_parallel.specs.Trees.{tree_rules}
use Rattle.cell_parallel.specs.Sizes.{tree_length}
use Rattle.cell_sequence.specs.Sequence.{loop_request}
use Rattle.cell_select.specs.Selections.{select_rules, again_rules}
use Rattle.net_compose.specs.Translation.{q_rules, rules_of, turn_rules, branches_rules, bodies_rules, guards_rules, choosing_at, repeating_at, branch_ends, branches_end}
use Rattle.net_compose.proofs.Sizes.{statement_length, ends_length, branches_length}
use Rattle.net_compose.proofs.FlatRules.{counted, branches_end_is}
use Rattle.net_compose.proofs.HalvedNodes.{Numbered, numbered, numbered_append, mixed}
use Rattle.call_map.specs.Calling.{Called, calling, atom, turned, abreast, chosen, looped, Calleds, no_calleds, and_called, CalledChoices, no_called, or_called, inlined, inlined_each, inlined_choices, called_size, called_turn_size, called_branches_size, called_bodies_size, called_bodies_from, called_answer, called_choosing, called_repeating, called_ends, called_rules, called_turn_rules, called_branches_rules, called_bodies_rules, OfAtoms, EachOfAtoms, BranchesOfAtoms}
use Rattle.call_map.proofs.Items.{Item, item, paired, untagged, CallPoint, is_calling, one_calling, front_tag, element_items, select_here, select_there, again_here, again_there, items, turn_items, branch_items, body_items, calls, turn_calls, branch_calls, body_calls}
use Rattle.call_map.proofs.ItemsAlike.{select_long, select_long_there, again_long, again_long_there, ends_long}

abbrev pub heres : List Item → List Numbered
heres is = map (λ (i : Item). i.here) is

abbrev pub theres : List Item → List Numbered
theres is = map (λ (i : Item). i.there) is

paired_heres : (tag : ℕ → Bool) (i from to : ℕ) (rs ss : List NodeRules) → length rs ≡ length ss → heres (paired tag i from to rs ss) ≡ numbered from rs
paired_heres tag i from to [] ss e = refl
paired_heres tag i from to (r ∷ rs) [] e = absurd (omega (arith, e))
paired_heres tag i from to (r ∷ rs) (s ∷ ss) e =
    ap (λ l. record { node = from; rules = r } ∷ l) (paired_heres tag (suc i) (suc from) (suc to) rs ss (omega (arith, e)))

paired_theres : (tag : ℕ → Bool) (i from to : ℕ) (rs ss : List NodeRules) → length rs ≡ length ss → theres (paired tag i from to rs ss) ≡ numbered to ss
paired_theres tag i from to [] [] e = refl
paired_theres tag i from to [] (s ∷ ss) e = absurd (omega (arith, e))
paired_theres tag i from to (r ∷ rs) [] e = absurd (omega (arith, e))
paired_theres tag i from to (r ∷ rs) (s ∷ ss) e =
    ap (λ l. record { node = to; rules = s } ∷ l) (paired_theres tag (suc i) (suc from) (suc to) rs ss (omega (arith, e)))

module _ (P : TypedProgram) (ps : List Process) (d : ℕ → ℕ) where
  -- the answer of a call, and the nodes of its copy
  abbrev pub answer_node : CallPoint → Numbered
  answer_node c = record { node = c.answer; rules = site_answer c.request (d c.proc) }

  abbrev pub answer_nodes : List CallPoint → List Numbered
  answer_nodes cs = map answer_node cs

  abbrev pub copies : List CallPoint → List Numbered
  copies [] = []
  copies (c ∷ cs) = numbered c.copy (rules_of P (slice_index_or ps c.proc skipping) c.request_there c.copy) ++ copies cs

  copies_append : (xs ys : List CallPoint) → copies (xs ++ ys) ≡ copies xs ++ copies ys
  copies_append [] ys = refl
  copies_append (c ∷ cs) ys =
      let ns = numbered c.copy (rules_of P (slice_index_or ps c.proc skipping) c.request_there c.copy) in
      ap (λ l. ns ++ l) (copies_append cs ys) ∙ sym (append_assoc ns (copies cs) (copies ys))

  -- so many rules
  both : (xs ys : List NodeRules) (m n : ℕ) → length xs ≡ m → length ys ≡ n → length (xs ++ ys) ≡ m + n
  both xs ys m n h k = let e = length-append xs ys in omega (arith, e, h, k)

  mutual
    pub called_long : (x : Called) → IsProcess P.channels P.vars (inlined ps x) → (r from : ℕ) → length (called_rules ps P d x r from) ≡ called_size ps P x
    called_long (calling q) t r from = refl
    called_long (atom p) t r from = statement_length counted P p r from t
    called_long (turned ms) t r from = called_turn_long ms t.1 r from
    called_long (abreast ms) t r from =
        let a = tree_length (called_ends ps P ms from) (from + called_branches_size ps P ms) in
        let b = ends_long P ps d ms from in
        both (called_branches_rules ps P d ms r from) (tree_rules (called_ends ps P ms from) (from + called_branches_size ps P ms))
        (called_branches_size ps P ms)
        (member_count (inlined_each ps ms) - 1) (called_branches_long ms t.1 r from) (omega (arith, a, b))
    called_long (chosen false c) t r from =
        let n = choice_count (inlined_choices ps c) in
        let guards = guards_rules P (inlined_choices ps c) (from + 1) (guards_from (inlined_choices ps c) select_own from) in
        let own = select_rules (called_choosing ps P c r (from + 2) select_own from) in
        let rest = called_bodies_rules ps P d c (from + select_own + n) (called_bodies_from ps P c select_own from) in
        let a = select_long P ps d c t.2 r from in
        let b = called_bodies_long c t.2 (from + select_own + n) (called_bodies_from ps P c select_own from) in
        ap length (sym (append_assoc own guards rest))
        ∙ both (own ++ guards) rest (3 + 2 * n + guards_size (inlined_choices ps c)) (called_bodies_size ps P c) a b
    called_long (chosen true c) t r from =
        let n = choice_count (inlined_choices ps c) in
        let guards = guards_rules P (inlined_choices ps c) (from + 3) (guards_from (inlined_choices ps c) again_own from) in
        let own = again_rules (called_repeating ps P c r from) in
        let rest = called_bodies_rules ps P d c (from + again_own + n) (called_bodies_from ps P c again_own from) in
        let a = again_long P ps d c t.2 r from in
        let b = called_bodies_long c t.2 (from + again_own + n) (called_bodies_from ps P c again_own from) in
        ap length (sym (append_assoc own guards rest))
        ∙ both (own ++ guards) rest (6 + 2 * n + guards_size (inlined_choices ps c)) (called_bodies_size ps P c) a b
    called_long (looped x) t r from = let a = called_long x t (from + 1) (from + 2) in omega (arith, a)

    called_turn_long : (ms : Calleds) → AreProcesses P.channels P.vars (inlined_each ps ms) → (r from : ℕ)
        → length (called_turn_rules ps P d ms r from) ≡ called_turn_size ps P ms
    called_turn_long no_calleds t r from = refl
    called_turn_long (and_called x no_calleds) t r from = called_long x t.0 r from
    called_turn_long (and_called x (and_called y more)) t r from =
        let a = called_long x t.0 from (from + 3) in
        let b = called_turn_long (and_called y more) t.1 (from + 2) (from + 3 + called_size ps P x) in
        let e = length-append (called_rules ps P d x from (from + 3))
        (called_turn_rules ps P d (and_called y more) (from + 2) (from + 3 + called_size ps P x)) in
        omega (arith, a, b, e)

    called_branches_long : (ms : Calleds) → AreProcesses P.channels P.vars (inlined_each ps ms) → (r from : ℕ)
        → length (called_branches_rules ps P d ms r from) ≡ called_branches_size ps P ms
    called_branches_long no_calleds t r from = refl
    called_branches_long (and_called x more) t r from =
        let a = called_long x t.0 from (from + 3) in
        let b = called_branches_long more t.1 r (from + 3 + called_size ps P x) in
        let e = length-append (called_rules ps P d x from (from + 3)) (called_branches_rules ps P d more r (from + 3 + called_size ps P x)) in
        omega (arith, a, b, e)

    called_bodies_long : (c : CalledChoices) → AreChoices P.channels P.vars (inlined_choices ps c) → (start from : ℕ)
        → length (called_bodies_rules ps P d c start from) ≡ called_bodies_size ps P c
    called_bodies_long no_called t start from = refl
    called_bodies_long (or_called g x more) t start from =
        both (called_rules ps P d x start from) (called_bodies_rules ps P d more (start + 1) (from + called_size ps P x)) (called_size ps P x)
        (called_bodies_size ps P more)
        (called_long x t.1 start from) (called_bodies_long more t.2 (start + 1) (from + called_size ps P x))

  -- a Q-element
  abbrev three_at : (k j from : ℕ) → (x y z : NodeRules) → List Numbered
  three_at k j from x y z = record { node = from; rules = x } ∷ record { node = k; rules = y } ∷ record { node = j; rules = z } ∷ []

  three_are : (from : ℕ) (x y z : NodeRules) → three_at (from + 1) (from + 2) from x y z ≡ numbered from (x ∷ y ∷ z ∷ [])
  three_are from x y z =
      ap (λ k. three_at k (from + 2) from x y z) (let e : from + 1 ≡ suc from = omega arith in e)
      ∙ ap (λ k. three_at (suc from) k from x y z) (let e : from + 2 ≡ suc (suc from) = omega arith in e)

  element_heres : (a b : Bool) (r answer from s other to : ℕ)
      → heres (element_items P ps d a b r answer from s other to) ≡ numbered from (q_rules r answer from)
  element_heres a b r answer from s other to = three_are from _ _ _

  element_theres : (a b : Bool) (r answer from s other to : ℕ) → theres (element_items P ps d a b r answer from s other to) ≡ numbered to (q_rules s other to)
  element_theres a b r answer from s other to = three_are to _ _ _

  -- three rules, then so many, then others
  behind : (q rs rest : List NodeRules) (from size : ℕ) → length q ≡ 3 → length rs ≡ size
      → numbered from q ++ (numbered (from + 3) rs ++ numbered (from + 3 + size) rest) ≡ numbered from (q ++ (rs ++ rest))
  behind q rs rest from size three long =
      sym (numbered_append from q (rs ++ rest)
      ∙ (ap (λ k. numbered from q ++ numbered (from + k) (rs ++ rest)) three
      ∙ (ap (λ l. numbered from q ++ l) (numbered_append (from + 3) rs rest)
      ∙ ap (λ k. numbered from q ++ (numbered (from + 3) rs ++ numbered (from + 3 + k) rest)) long)))

  abbrev All : (own : List Numbered) → (far : List Numbered) → (all : List Numbered) → Type 0
  All own far all = IsPermutation (own ++ far) all

  no_more : (xs : List Numbered) → All xs [] xs
  no_more xs = subst (λ l. IsPermutation (xs ++ []) l) (append-nil xs) (IsPermutation-refl (xs ++ []))

  -- a part, then what it has and what others have
  three_parts : (f : Item → Numbered) (g : List CallPoint → List Numbered) → ((xs ys : List CallPoint) → g (xs ++ ys) ≡ g xs ++ g ys)
      → (q xs ys : List Item) (cs es : List CallPoint) (nq nx ny all : List Numbered) → map f q ≡ nq → All (map f xs) (g cs) nx → All (map f ys) (g es) ny
      → nq ++ (nx ++ ny) ≡ all → All (map f (q ++ (xs ++ ys))) (g (cs ++ es)) all
  three_parts f g splits q xs ys cs es nq nx ny all eq hx hy e =
      let own : map f (q ++ (xs ++ ys)) ≡ nq ++ (map f xs ++ map f ys) =
      map-append f q (xs ++ ys) ∙ (ap (λ l. l ++ map f (xs ++ ys)) eq ∙ ap (λ l. nq ++ l) (map-append f xs ys)) in
      subst (λ l. IsPermutation (l ++ g (cs ++ es)) all) (sym own)
      (subst (λ l. IsPermutation ((nq ++ (map f xs ++ map f ys)) ++ l) all) (sym (splits cs es))
      (subst (λ l. IsPermutation ((nq ++ (map f xs ++ map f ys)) ++ (g cs ++ g es)) l) e (mixed nq (map f xs) (map f ys) (g cs) (g es) nx ny hx hy)))

  -- a part with nothing far
  front_part : (f : Item → Numbered) (xs ys : List Item) (far nx ny all : List Numbered) → map f xs ≡ nx → All (map f ys) far ny → nx ++ ny ≡ all
      → All (map f (xs ++ ys)) far all
  front_part f xs ys far nx ny all eq hy e =
      let own : map f (xs ++ ys) ≡ nx ++ map f ys = map-append f xs ys ∙ ap (λ l. l ++ map f ys) eq in
      subst (λ l. IsPermutation (l ++ far) all) (sym own)
      (subst (λ l. IsPermutation l all) (sym (append_assoc nx (map f ys) far))
      (subst (λ l. IsPermutation (nx ++ (map f ys ++ far)) l) e (IsPermutation-append_right nx (map f ys ++ far) ny hy)))

  -- a part after all of it
  back_part : (f : Item → Numbered) (xs ys : List Item) (far nx ny all : List Numbered) → map f ys ≡ ny → All (map f xs) far nx → nx ++ ny ≡ all
      → All (map f (xs ++ ys)) far all
  back_part f xs ys far nx ny all eq hx e =
      let own : map f (xs ++ ys) ≡ map f xs ++ ny = map-append f xs ys ∙ ap (λ l. map f xs ++ l) eq in
      let swapped : IsPermutation (map f xs ++ (ny ++ far)) (map f xs ++ (far ++ ny)) =
      IsPermutation-append_right (map f xs) (ny ++ far) (far ++ ny) (IsPermutation-append_comm ny far) in
      let last : IsPermutation ((map f xs ++ far) ++ ny) (nx ++ ny) = IsPermutation-append_left ny (map f xs ++ far) nx hx in
      subst (λ l. IsPermutation (l ++ far) all) (sym own)
      (subst (λ l. IsPermutation l all) (sym (append_assoc (map f xs) ny far))
      (IsPermutation-trans (map f xs ++ (ny ++ far)) (map f xs ++ (far ++ ny)) all swapped
      (subst (λ l. IsPermutation l all) (append_assoc (map f xs) far ny) (subst (λ l. IsPermutation ((map f xs ++ far) ++ ny) l) e last))))

  answers_append : (xs ys : List CallPoint) → answer_nodes (xs ++ ys) ≡ answer_nodes xs ++ answer_nodes ys
  answers_append xs ys = map-append answer_node xs ys

  abbrev here_of : Item → Numbered
  here_of i = i.here

  abbrev there_of : Item → Numbered
  there_of i = i.there

  select_both : (c : CalledChoices) → AreChoices P.channels P.vars (inlined_choices ps c) → (r from s to : ℕ)
      → length (select_here P ps d c r from) ≡ length (select_there P ps d c s to)
  select_both c t r from s to = select_long P ps d c t r from ∙ sym (select_long_there P ps d c t s to)

  again_both : (c : CalledChoices) → AreChoices P.channels P.vars (inlined_choices ps c) → (r from s to : ℕ)
      → length (again_here P ps d c r from) ≡ length (again_there P ps d c s to)
  again_both c t r from s to = again_long P ps d c t r from ∙ sym (again_long_there P ps d c t s to)

  trees_both : (ms : Calleds) (from to : ℕ) → length (tree_rules (called_ends ps P ms from) (from + called_branches_size ps P ms))
      ≡ length (tree_rules (branch_ends P (inlined_each ps ms) to) (branches_end P (inlined_each ps ms) to))
  trees_both ms from to =
      let a = tree_length (called_ends ps P ms from) (from + called_branches_size ps P ms) in
      let b = tree_length (branch_ends P (inlined_each ps ms) to) (branches_end P (inlined_each ps ms) to) in
      let e = ends_long P ps d ms from in
      let f = ends_length P (inlined_each ps ms) to in
      omega (arith, a, b, e, f)

  -- in the net with shared bodies
  mutual
    pub all_here : (x : Called) → OfAtoms x → IsProcess P.channels P.vars (inlined ps x) → (r from s to : ℕ)
        → All (heres (items P ps d x r from s to)) (answer_nodes (calls P ps d x r from s to)) (numbered from (called_rules ps P d x r from))
    all_here (calling q) a t r from s to = IsPermutation-refl (answer_nodes (calls P ps d (calling q) r from s to))
    all_here (atom p) a t r from s to =
        let e = statement_length counted P p r from t ∙ sym (statement_length counted P p s to t) in
        subst (λ l. All l [] (numbered from (rules_of P p r from))) (sym (paired_heres untagged 0 from to (rules_of P p r from) (rules_of P p s to) e))
        (no_more (numbered from (rules_of P p r from)))
    all_here (turned ms) a t r from s to = all_here_turn ms a t.1 r from s to
    all_here (abreast ms) a t r from s to =
        let n = called_branches_size ps P ms in
        let tree = tree_rules (called_ends ps P ms from) (from + n) in
        let other = tree_rules (branch_ends P (inlined_each ps ms) to) (branches_end P (inlined_each ps ms) to) in
        back_part here_of (branch_items P ps d ms r from s to) (paired untagged 0 (from + n) (branches_end P (inlined_each ps ms) to) tree other)
        (answer_nodes (branch_calls P ps d ms r from s to)) (numbered from (called_branches_rules ps P d ms r from)) (numbered (from + n) tree)
        (numbered from (called_branches_rules ps P d ms r from ++ tree))
        (paired_heres untagged 0 (from + n) (branches_end P (inlined_each ps ms) to) tree other (trees_both ms from to))
        (all_here_branches ms a t.1 r from s to)
        (sym (numbered_append from (called_branches_rules ps P d ms r from) tree
        ∙ ap (λ k. numbered from (called_branches_rules ps P d ms r from) ++ numbered (from + k) tree) (called_branches_long ms t.1 r from)))
    all_here (chosen false c) a t r from s to =
        let n = choice_count (inlined_choices ps c) in
        let front = select_here P ps d c r from in
        let rest = called_bodies_rules ps P d c (from + select_own + n) (bodies_from (inlined_choices ps c) select_own from) in
        let own = select_rules (called_choosing ps P c r (from + 2) select_own from) in
        let guards = guards_rules P (inlined_choices ps c) (from + 1) (guards_from (inlined_choices ps c) select_own from) in
        let long = select_long P ps d c t.2 r from in
        let z : from + length front ≡ bodies_from (inlined_choices ps c) select_own from = omega (arith, long) in
        front_part here_of (paired (front_tag c (select_own + n)) 0 from to front (select_there P ps d c s to))
        (body_items P ps d c (from + select_own + n) (bodies_from (inlined_choices ps c) select_own from) (to + select_own + n)
        (bodies_from (inlined_choices ps c) select_own to))
        (answer_nodes (calls P ps d (chosen false c) r from s to)) (numbered from front) (numbered (bodies_from (inlined_choices ps c) select_own from) rest)
        (numbered from (called_rules ps P d (chosen false c) r from))
        (paired_heres (front_tag c (select_own + n)) 0 from to front (select_there P ps d c s to) (select_both c t.2 r from s to))
        (all_here_bodies c a t.2 (from + select_own + n) (bodies_from (inlined_choices ps c) select_own from) (to + select_own + n)
        (bodies_from (inlined_choices ps c) select_own to))
        (ap (λ k. numbered from front ++ numbered k rest) (sym z) ∙ (sym (numbered_append from front rest) ∙ ap (numbered from) (append_assoc own guards rest)))
    all_here (chosen true c) a t r from s to =
        let n = choice_count (inlined_choices ps c) in
        let front = again_here P ps d c r from in
        let rest = called_bodies_rules ps P d c (from + again_own + n) (bodies_from (inlined_choices ps c) again_own from) in
        let own = again_rules (called_repeating ps P c r from) in
        let guards = guards_rules P (inlined_choices ps c) (from + 3) (guards_from (inlined_choices ps c) again_own from) in
        let long = again_long P ps d c t.2 r from in
        let z : from + length front ≡ bodies_from (inlined_choices ps c) again_own from = omega (arith, long) in
        front_part here_of (paired (front_tag c (again_own + n)) 0 from to front (again_there P ps d c s to))
        (body_items P ps d c (from + again_own + n) (bodies_from (inlined_choices ps c) again_own from) (to + again_own + n)
        (bodies_from (inlined_choices ps c) again_own to))
        (answer_nodes (calls P ps d (chosen true c) r from s to)) (numbered from front) (numbered (bodies_from (inlined_choices ps c) again_own from) rest)
        (numbered from (called_rules ps P d (chosen true c) r from))
        (paired_heres (front_tag c (again_own + n)) 0 from to front (again_there P ps d c s to) (again_both c t.2 r from s to))
        (all_here_bodies c a t.2 (from + again_own + n) (bodies_from (inlined_choices ps c) again_own from) (to + again_own + n)
        (bodies_from (inlined_choices ps c) again_own to))
        (ap (λ k. numbered from front ++ numbered k rest) (sym z) ∙ (sym (numbered_append from front rest) ∙ ap (numbered from) (append_assoc own guards rest)))
    all_here (looped x) a t r from s to =
        let first = no_rules ∷ loop_request r (called_answer ps P x (from + 2)) ∷ [] in
        front_part here_of (item false from to no_rules no_rules ∷ item (is_calling x) (from + 1) (to + 1) (loop_request r (called_answer ps P x (from + 2)))
        (loop_request s (answer_of P (inlined ps x) (to + 2))) ∷ []) (items P ps d x (from + 1) (from + 2) (to + 1) (to + 2))
        (answer_nodes (calls P ps d x (from + 1) (from + 2) (to + 1) (to + 2))) (numbered from first)
        (numbered (from + 2) (called_rules ps P d x (from + 1) (from + 2)))
        (numbered from (called_rules ps P d (looped x) r from))
        (ap (λ k. record { node = from; rules = no_rules } ∷ record { node = k; rules = loop_request r (called_answer ps P x (from + 2)) } ∷ [])
        (let e : from + 1 ≡ suc from = omega arith in e))
        (all_here x a t (from + 1) (from + 2) (to + 1) (to + 2))
        (sym (numbered_append from first (called_rules ps P d x (from + 1) (from + 2))))

    all_here_turn : (ms : Calleds) → EachOfAtoms ms → AreProcesses P.channels P.vars (inlined_each ps ms) → (r from s to : ℕ)
        → All (heres (turn_items P ps d ms r from s to)) (answer_nodes (turn_calls P ps d ms r from s to)) (numbered from (called_turn_rules ps P d ms r from))
    all_here_turn no_calleds a t r from s to = IsPermutation-refl []
    all_here_turn (and_called x no_calleds) a t r from s to = all_here x a.0 t.0 r from s to
    all_here_turn (and_called x (and_called y more)) a t r from s to =
        let k = called_size ps P x in
        let j = size_of P (inlined ps x) in
        let answer = called_answer ps P x (from + 3) in
        let other = answer_of P (inlined ps x) (to + 3) in
        let q = element_items P ps d (is_calling x) (one_calling (and_called y more)) r answer from s other to in
        three_parts here_of answer_nodes answers_append q (items P ps d x from (from + 3) to (to + 3))
        (turn_items P ps d (and_called y more) (from + 2) (from + 3 + k) (to + 2) (to + 3 + j)) (calls P ps d x from (from + 3) to (to + 3))
        (turn_calls P ps d (and_called y more) (from + 2) (from + 3 + k) (to + 2) (to + 3 + j)) (numbered from (q_rules r answer from))
        (numbered (from + 3) (called_rules ps P d x from (from + 3)))
        (numbered (from + 3 + k) (called_turn_rules ps P d (and_called y more) (from + 2) (from + 3 + k)))
        (numbered from (called_turn_rules ps P d (and_called x (and_called y more)) r from))
        (element_heres (is_calling x) (one_calling (and_called y more)) r answer from s other to) (all_here x a.0 t.0 from (from + 3) to (to + 3))
        (all_here_turn (and_called y more) a.1 t.1 (from + 2) (from + 3 + k) (to + 2) (to + 3 + j))
        (behind (q_rules r answer from) (called_rules ps P d x from (from + 3))
        (called_turn_rules ps P d (and_called y more) (from + 2) (from + 3 + k)) from k refl
        (called_long x t.0 from (from + 3)))

    all_here_branches : (ms : Calleds) → EachOfAtoms ms → AreProcesses P.channels P.vars (inlined_each ps ms) → (r from s to : ℕ)
        → All (heres (branch_items P ps d ms r from s to)) (answer_nodes (branch_calls P ps d ms r from s to))
        (numbered from (called_branches_rules ps P d ms r from))
    all_here_branches no_calleds a t r from s to = IsPermutation-refl []
    all_here_branches (and_called x more) a t r from s to =
        let k = called_size ps P x in
        let j = size_of P (inlined ps x) in
        let answer = called_answer ps P x (from + 3) in
        let other = answer_of P (inlined ps x) (to + 3) in
        let q = element_items P ps d (is_calling x) false r answer from s other to in
        three_parts here_of answer_nodes answers_append q (items P ps d x from (from + 3) to (to + 3))
        (branch_items P ps d more r (from + 3 + k) s (to + 3 + j)) (calls P ps d x from (from + 3) to (to + 3))
        (branch_calls P ps d more r (from + 3 + k) s (to + 3 + j)) (numbered from (q_rules r answer from))
        (numbered (from + 3) (called_rules ps P d x from (from + 3))) (numbered (from + 3 + k) (called_branches_rules ps P d more r (from + 3 + k)))
        (numbered from (called_branches_rules ps P d (and_called x more) r from))
        (element_heres (is_calling x) false r answer from s other to) (all_here x a.0 t.0 from (from + 3) to (to + 3))
        (all_here_branches more a.1 t.1 r (from + 3 + k) s (to + 3 + j))
        (behind (q_rules r answer from) (called_rules ps P d x from (from + 3)) (called_branches_rules ps P d more r (from + 3 + k)) from k refl
        (called_long x t.0 from (from + 3)))

    all_here_bodies : (c : CalledChoices) → BranchesOfAtoms c → AreChoices P.channels P.vars (inlined_choices ps c) → (start from s to : ℕ)
        → All (heres (body_items P ps d c start from s to)) (answer_nodes (body_calls P ps d c start from s to))
        (numbered from (called_bodies_rules ps P d c start from))
    all_here_bodies no_called a t start from s to = IsPermutation-refl []
    all_here_bodies (or_called g x more) a t start from s to =
        let k = called_size ps P x in
        let j = size_of P (inlined ps x) in
        three_parts here_of answer_nodes answers_append [] (items P ps d x start from s to)
        (body_items P ps d more (start + 1) (from + k) (s + 1) (to + j)) (calls P ps d x start from s to)
        (body_calls P ps d more (start + 1) (from + k) (s + 1) (to + j)) []
        (numbered from (called_rules ps P d x start from)) (numbered (from + k) (called_bodies_rules ps P d more (start + 1) (from + k)))
        (numbered from (called_bodies_rules ps P d (or_called g x more) start from))
        refl (all_here x a.0 t.1 start from s to) (all_here_bodies more a.1 t.2 (start + 1) (from + k) (s + 1) (to + j))
        (sym (numbered_append from (called_rules ps P d x start from) (called_bodies_rules ps P d more (start + 1) (from + k))
        ∙ ap (λ m. numbered from (called_rules ps P d x start from) ++ numbered (from + m) (called_bodies_rules ps P d more (start + 1) (from + k)))
        (called_long x t.1 start from)))

  -- in the net with copies
  mutual
    pub all_there : (x : Called) → OfAtoms x → IsProcess P.channels P.vars (inlined ps x) → (r from s to : ℕ)
        → All (theres (items P ps d x r from s to)) (copies (calls P ps d x r from s to)) (numbered to (rules_of P (inlined ps x) s to))
    all_there (calling q) a t r from s to = no_more (numbered to (rules_of P (slice_index_or ps q skipping) s to))
    all_there (atom p) a t r from s to =
        let e = statement_length counted P p r from t ∙ sym (statement_length counted P p s to t) in
        subst (λ l. All l [] (numbered to (rules_of P p s to))) (sym (paired_theres untagged 0 from to (rules_of P p r from) (rules_of P p s to) e))
        (no_more (numbered to (rules_of P p s to)))
    all_there (turned ms) a t r from s to = all_there_turn ms a t.1 r from s to
    all_there (abreast ms) a t r from s to =
        let n = called_branches_size ps P ms in
        let m = branches_size P (inlined_each ps ms) in
        let tree = tree_rules (called_ends ps P ms from) (from + n) in
        let other = tree_rules (branch_ends P (inlined_each ps ms) to) (branches_end P (inlined_each ps ms) to) in
        let rules = branches_rules P (inlined_each ps ms) s to in
        let long = branches_length counted P (inlined_each ps ms) s to t.1 in
        let e = branches_end_is P (inlined_each ps ms) to in
        let z : to + length rules ≡ branches_end P (inlined_each ps ms) to = omega (arith, long, e) in
        back_part there_of (branch_items P ps d ms r from s to) (paired untagged 0 (from + n) (branches_end P (inlined_each ps ms) to) tree other)
        (copies (branch_calls P ps d ms r from s to)) (numbered to rules) (numbered (branches_end P (inlined_each ps ms) to) other)
        (numbered to (rules ++ other))
        (paired_theres untagged 0 (from + n) (branches_end P (inlined_each ps ms) to) tree other (trees_both ms from to))
        (all_there_branches ms a t.1 r from s to)
        (sym (numbered_append to rules other ∙ ap (λ k. numbered to rules ++ numbered k other) z))
    all_there (chosen false c) a t r from s to =
        let n = choice_count (inlined_choices ps c) in
        let front = select_there P ps d c s to in
        let rest = bodies_rules P (inlined_choices ps c) (to + select_own + n) (bodies_from (inlined_choices ps c) select_own to) in
        let own = select_rules (choosing_at P (inlined_choices ps c) s (to + 2) select_own to) in
        let guards = guards_rules P (inlined_choices ps c) (to + 1) (guards_from (inlined_choices ps c) select_own to) in
        let long = select_long_there P ps d c t.2 s to in
        let z : to + length front ≡ bodies_from (inlined_choices ps c) select_own to = omega (arith, long) in
        front_part there_of (paired (front_tag c (select_own + n)) 0 from to (select_here P ps d c r from) front)
        (body_items P ps d c (from + select_own + n) (bodies_from (inlined_choices ps c) select_own from) (to + select_own + n)
        (bodies_from (inlined_choices ps c) select_own to))
        (copies (calls P ps d (chosen false c) r from s to)) (numbered to front) (numbered (bodies_from (inlined_choices ps c) select_own to) rest)
        (numbered to (rules_of P (inlined ps (chosen false c)) s to))
        (paired_theres (front_tag c (select_own + n)) 0 from to (select_here P ps d c r from) front (select_both c t.2 r from s to))
        (all_there_bodies c a t.2 (from + select_own + n) (bodies_from (inlined_choices ps c) select_own from) (to + select_own + n)
        (bodies_from (inlined_choices ps c) select_own to))
        (ap (λ k. numbered to front ++ numbered k rest) (sym z) ∙ (sym (numbered_append to front rest) ∙ ap (numbered to) (append_assoc own guards rest)))
    all_there (chosen true c) a t r from s to =
        let n = choice_count (inlined_choices ps c) in
        let front = again_there P ps d c s to in
        let rest = bodies_rules P (inlined_choices ps c) (to + again_own + n) (bodies_from (inlined_choices ps c) again_own to) in
        let own = again_rules (repeating_at P (inlined_choices ps c) s to) in
        let guards = guards_rules P (inlined_choices ps c) (to + 3) (guards_from (inlined_choices ps c) again_own to) in
        let long = again_long_there P ps d c t.2 s to in
        let z : to + length front ≡ bodies_from (inlined_choices ps c) again_own to = omega (arith, long) in
        front_part there_of (paired (front_tag c (again_own + n)) 0 from to (again_here P ps d c r from) front)
        (body_items P ps d c (from + again_own + n) (bodies_from (inlined_choices ps c) again_own from) (to + again_own + n)
        (bodies_from (inlined_choices ps c) again_own to))
        (copies (calls P ps d (chosen true c) r from s to)) (numbered to front) (numbered (bodies_from (inlined_choices ps c) again_own to) rest)
        (numbered to (rules_of P (inlined ps (chosen true c)) s to))
        (paired_theres (front_tag c (again_own + n)) 0 from to (again_here P ps d c r from) front (again_both c t.2 r from s to))
        (all_there_bodies c a t.2 (from + again_own + n) (bodies_from (inlined_choices ps c) again_own from) (to + again_own + n)
        (bodies_from (inlined_choices ps c) again_own to))
        (ap (λ k. numbered to front ++ numbered k rest) (sym z) ∙ (sym (numbered_append to front rest) ∙ ap (numbered to) (append_assoc own guards rest)))
    all_there (looped x) a t r from s to =
        let first = no_rules ∷ loop_request s (answer_of P (inlined ps x) (to + 2)) ∷ [] in
        front_part there_of (item false from to no_rules no_rules ∷ item (is_calling x) (from + 1) (to + 1) (loop_request r (called_answer ps P x (from + 2)))
        (loop_request s (answer_of P (inlined ps x) (to + 2))) ∷ []) (items P ps d x (from + 1) (from + 2) (to + 1) (to + 2))
        (copies (calls P ps d x (from + 1) (from + 2) (to + 1) (to + 2))) (numbered to first) (numbered (to + 2) (rules_of P (inlined ps x) (to + 1) (to + 2)))
        (numbered to (rules_of P (inlined ps (looped x)) s to))
        (ap (λ k. record { node = to; rules = no_rules } ∷ record { node = k; rules = loop_request s (answer_of P (inlined ps x) (to + 2)) } ∷ [])
        (let e : to + 1 ≡ suc to = omega arith in e))
        (all_there x a t (from + 1) (from + 2) (to + 1) (to + 2))
        (sym (numbered_append to first (rules_of P (inlined ps x) (to + 1) (to + 2))))

    all_there_turn : (ms : Calleds) → EachOfAtoms ms → AreProcesses P.channels P.vars (inlined_each ps ms) → (r from s to : ℕ)
        → All (theres (turn_items P ps d ms r from s to)) (copies (turn_calls P ps d ms r from s to)) (numbered to (turn_rules P (inlined_each ps ms) s to))
    all_there_turn no_calleds a t r from s to = IsPermutation-refl []
    all_there_turn (and_called x no_calleds) a t r from s to = all_there x a.0 t.0 r from s to
    all_there_turn (and_called x (and_called y more)) a t r from s to =
        let k = called_size ps P x in
        let j = size_of P (inlined ps x) in
        let answer = called_answer ps P x (from + 3) in
        let other = answer_of P (inlined ps x) (to + 3) in
        let q = element_items P ps d (is_calling x) (one_calling (and_called y more)) r answer from s other to in
        three_parts there_of copies copies_append q (items P ps d x from (from + 3) to (to + 3))
        (turn_items P ps d (and_called y more) (from + 2) (from + 3 + k) (to + 2) (to + 3 + j)) (calls P ps d x from (from + 3) to (to + 3))
        (turn_calls P ps d (and_called y more) (from + 2) (from + 3 + k) (to + 2) (to + 3 + j)) (numbered to (q_rules s other to))
        (numbered (to + 3) (rules_of P (inlined ps x) to (to + 3)))
        (numbered (to + 3 + j) (turn_rules P (inlined_each ps (and_called y more)) (to + 2) (to + 3 + j)))
        (numbered to (turn_rules P (inlined_each ps (and_called x (and_called y more))) s to))
        (element_theres (is_calling x) (one_calling (and_called y more)) r answer from s other to) (all_there x a.0 t.0 from (from + 3) to (to + 3))
        (all_there_turn (and_called y more) a.1 t.1 (from + 2) (from + 3 + k) (to + 2) (to + 3 + j))
        (behind (q_rules s other to) (rules_of P (inlined ps x) to (to + 3))
        (turn_rules P (inlined_each ps (and_called y more)) (to + 2) (to + 3 + j)) to j refl
        (statement_length counted P (inlined ps x) to (to + 3) t.0))

    all_there_branches : (ms : Calleds) → EachOfAtoms ms → AreProcesses P.channels P.vars (inlined_each ps ms) → (r from s to : ℕ)
        → All (theres (branch_items P ps d ms r from s to)) (copies (branch_calls P ps d ms r from s to))
        (numbered to (branches_rules P (inlined_each ps ms) s to))
    all_there_branches no_calleds a t r from s to = IsPermutation-refl []
    all_there_branches (and_called x more) a t r from s to =
        let k = called_size ps P x in
        let j = size_of P (inlined ps x) in
        let answer = called_answer ps P x (from + 3) in
        let other = answer_of P (inlined ps x) (to + 3) in
        let q = element_items P ps d (is_calling x) false r answer from s other to in
        three_parts there_of copies copies_append q (items P ps d x from (from + 3) to (to + 3))
        (branch_items P ps d more r (from + 3 + k) s (to + 3 + j)) (calls P ps d x from (from + 3) to (to + 3))
        (branch_calls P ps d more r (from + 3 + k) s (to + 3 + j)) (numbered to (q_rules s other to))
        (numbered (to + 3) (rules_of P (inlined ps x) to (to + 3))) (numbered (to + 3 + j) (branches_rules P (inlined_each ps more) s (to + 3 + j)))
        (numbered to (branches_rules P (inlined_each ps (and_called x more)) s to))
        (element_theres (is_calling x) false r answer from s other to) (all_there x a.0 t.0 from (from + 3) to (to + 3))
        (all_there_branches more a.1 t.1 r (from + 3 + k) s (to + 3 + j))
        (behind (q_rules s other to) (rules_of P (inlined ps x) to (to + 3)) (branches_rules P (inlined_each ps more) s (to + 3 + j)) to j refl
        (statement_length counted P (inlined ps x) to (to + 3) t.0))

    all_there_bodies : (c : CalledChoices) → BranchesOfAtoms c → AreChoices P.channels P.vars (inlined_choices ps c) → (start from s to : ℕ)
        → All (theres (body_items P ps d c start from s to)) (copies (body_calls P ps d c start from s to))
        (numbered to (bodies_rules P (inlined_choices ps c) s to))
    all_there_bodies no_called a t start from s to = IsPermutation-refl []
    all_there_bodies (or_called g x more) a t start from s to =
        let k = called_size ps P x in
        let j = size_of P (inlined ps x) in
        three_parts there_of copies copies_append [] (items P ps d x start from s to)
        (body_items P ps d more (start + 1) (from + k) (s + 1) (to + j)) (calls P ps d x start from s to)
        (body_calls P ps d more (start + 1) (from + k) (s + 1) (to + j)) []
        (numbered to (rules_of P (inlined ps x) s to)) (numbered (to + j) (bodies_rules P (inlined_choices ps more) (s + 1) (to + j)))
        (numbered to (bodies_rules P (inlined_choices ps (or_called g x more)) s to))
        refl (all_there x a.0 t.1 start from s to) (all_there_bodies more a.1 t.2 (start + 1) (from + k) (s + 1) (to + j))
        (sym (numbered_append to (rules_of P (inlined ps x) s to) (bodies_rules P (inlined_choices ps more) (s + 1) (to + j))
        ∙ ap (λ m. numbered to (rules_of P (inlined ps x) s to) ++ numbered (to + m) (bodies_rules P (inlined_choices ps more) (s + 1) (to + j)))
        (statement_length counted P (inlined ps x) s to t.1)))
