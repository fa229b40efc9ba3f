-- The requests of calls are those of the nodes in both nets that are marked so, each once.
--
-- P: the program with copies; ps: the bodies of the procedures; d: the answer of each body in the net with shared bodies;
-- x, y: statements with calls; r, s: a statement's request in the net with shared bodies and in that with copies; from, to:
-- its first node in either net.
use Rattle.std.proofs.Common.{◌≡◌, ℕ, zero, suc, ◌+◌, ◌*◌, ◌-◌, ◌<◌, ◌≤◌, Bool, true, false, List, [], ◌∷◌, ◌++◌, map, length, refl, sym, ap, ◌∙◌, subst, arith, append-nil}
use Rattle.std.specs.Prelude.{if◌then◌else◌, nat_lt}
use Rattle.std.specs.List.Sorted.{IsPermutation}
use Rattle.std.proofs.lemmas.Bool.Decides.{nat_tests}
use Rattle.std.proofs.lemmas.List.{map-append}
use Rattle.std.proofs.lemmas.List.Sorted.{IsPermutation-refl}
use Rattle.prs_core.specs.Nets.{NodeRules}
use Rattle.width_check.specs.Processes.{Process, choice_count, member_count, TypedProgram}
use Rattle.width_check.specs.Typing.{IsProcess, AreProcesses, AreChoices}
use Rattle.handshake_expand.specs.Layout.{size_of, guards_size}
use Rattle.handshake_expand.specs.Answers.{answer_of, bodies_from, select_own, again_own}
use Rattle.cell_parallel.specs.Trees.{tree_rules}
use Rattle.net_compose.specs.Translation.{rules_of, branch_ends, branches_end}
use Rattle.net_compose.proofs.HalvedNodes.{mixed}
use Rattle.call_map.specs.Calling.{Called, calling, atom, turned, abreast, chosen, looped, Calleds, no_calleds, and_called, CalledChoices, no_called, or_called, inlined, inlined_each, inlined_choices, called_size, called_answer, called_branches_size, called_ends}
use Rattle.call_map.proofs.Items.{Item, paired, untagged, CallPoint, is_calling, one_calling, branch_calling, front_tag, element_items, select_here, select_there, again_here, again_there, items, turn_items, branch_items, body_items, calls, turn_calls, branch_calls, body_calls}
use Rattle.call_map.proofs.ItemsAlike.{select_long, select_long_there, again_long, again_long_there}

-- two numbers of one node
pub record Twin : Type 0 where
  pub here : ℕ
  pub there : ℕ

abbrev pub twin : (n m : ℕ) → Twin
twin n m = record { here = n; there = m }

abbrev pub request_of : CallPoint → Twin
request_of c = twin c.request c.request_there

abbrev pub requests_of : List CallPoint → List Twin
requests_of cs = map request_of cs

-- the marked ones
abbrev pub asked_in : List Item → List Twin
asked_in [] = []
asked_in (i ∷ is) = if i.asked then twin i.here.node i.there.node ∷ asked_in is else asked_in is

abbrev pub mine : Bool → (r s : ℕ) → List Twin
mine b r s = if b then twin r s ∷ [] else []

asked_append : (xs ys : List Item) → asked_in (xs ++ ys) ≡ asked_in xs ++ asked_in ys
asked_append [] ys = refl
asked_append (x ∷ xs) ys = by x.asked (asked_append xs ys)
  where
    by : (b : Bool) → asked_in (xs ++ ys) ≡ asked_in xs ++ asked_in ys
        → (if b then twin x.here.node x.there.node ∷ asked_in (xs ++ ys) else asked_in (xs ++ ys))
        ≡ (if b then twin x.here.node x.there.node ∷ asked_in xs else asked_in xs) ++ asked_in ys
    by true e = ap (λ l. twin x.here.node x.there.node ∷ l) e
    by false e = e

-- so many of them, by their marks
abbrev marked : (ℕ → Bool) → (i n m count : ℕ) → List Twin
marked tag i n m zero = []
marked tag i n m (suc count) = if tag i then twin n m ∷ marked tag (suc i) (suc n) (suc m) count else marked tag (suc i) (suc n) (suc m) count

asked_paired : (tag : ℕ → Bool) (i from to : ℕ) (rs ss : List NodeRules) → length rs ≡ length ss
    → asked_in (paired tag i from to rs ss) ≡ marked tag i from to (length rs)
asked_paired tag i from to [] ss e = refl
asked_paired tag i from to (r ∷ rs) [] e = absurd (omega (arith, e))
asked_paired tag i from to (r ∷ rs) (s ∷ ss) e =
    ap (λ l. if tag i then twin from to ∷ l else l) (asked_paired tag (suc i) (suc from) (suc to) rs ss (omega (arith, e)))

none_marked : (tag : ℕ → Bool) (i n m count : ℕ) → ((k : ℕ) → k < count → tag (i + k) ≡ false) → marked tag i n m count ≡ []
none_marked tag i n m zero h = refl
none_marked tag i n m (suc count) h =
    ap (λ b. if b then twin n m ∷ marked tag (suc i) (suc n) (suc m) count else marked tag (suc i) (suc n) (suc m) count)
    (ap tag (let e : i ≡ i + 0 = omega arith in e) ∙ h 0 (omega arith))
    ∙ none_marked tag (suc i) (suc n) (suc m) count (λ k l. ap tag (let e : suc i + k ≡ i + suc k = omega arith in e) ∙ h (suc k) (omega (arith, l)))

marked_skip : (tag : ℕ → Bool) (skip i n m count : ℕ) → ((k : ℕ) → k < skip → tag (i + k) ≡ false)
    → marked tag i n m (skip + count) ≡ marked tag (i + skip) (n + skip) (m + skip) count
marked_skip tag zero i n m count h =
    let a : i ≡ i + 0 = omega arith in
    let b : n ≡ n + 0 = omega arith in
    let c : m ≡ m + 0 = omega arith in
    let e : 0 + count ≡ count = omega arith in
    ap (λ k. marked tag i n m k) e
    ∙ (ap (λ k. marked tag k n m count) a ∙ (ap (λ k. marked tag (i + 0) k m count) b ∙ ap (λ k. marked tag (i + 0) (n + 0) k count) c))
marked_skip tag (suc skip) i n m count h =
    let a : suc i + skip ≡ i + suc skip = omega arith in
    let b : suc n + skip ≡ n + suc skip = omega arith in
    let c : suc m + skip ≡ m + suc skip = omega arith in
    let e : suc skip + count ≡ suc (skip + count) = omega arith in
    ap (λ k. marked tag i n m k) e
    ∙ (ap (λ b. if b then twin n m ∷ marked tag (suc i) (suc n) (suc m) (skip + count) else marked tag (suc i) (suc n) (suc m) (skip + count))
    (ap tag (let e : i ≡ i + 0 = omega arith in e) ∙ h 0 (omega arith))
    ∙ (marked_skip tag skip (suc i) (suc n) (suc m) count (λ k l. ap tag (let e : suc i + k ≡ i + suc k = omega arith in e) ∙ h (suc k) (omega (arith, l)))
    ∙ (ap (λ k. marked tag k (suc n + skip) (suc m + skip) count) a ∙ (ap (λ k. marked tag (i + suc skip) k (suc m + skip) count) b
    ∙ ap (λ k. marked tag (i + suc skip) (n + suc skip) k count) c))))

-- the starts of the branches that are calls
abbrev start_twins : CalledChoices → (n m : ℕ) → List Twin
start_twins no_called n m = []
start_twins (or_called g x more) n m = mine (is_calling x) n m ++ start_twins more (n + 1) (m + 1)

starts_marked : (c : CalledChoices) (tag : ℕ → Bool) (i n m count : ℕ) → ((k : ℕ) → tag (i + k) ≡ branch_calling c k) → (ps : List Process)
    → choice_count (inlined_choices ps c) ≤ count → marked tag i n m count ≡ start_twins c n m
starts_marked no_called tag i n m count h ps l = none_marked tag i n m count (λ k less. h k)
starts_marked (or_called g x more) tag i n m zero h ps l = absurd (omega (arith, l))
starts_marked (or_called g x more) tag i n m (suc count) h ps l =
    let a : suc n ≡ n + 1 = omega arith in
    let b : suc m ≡ m + 1 = omega arith in
    let rest =
    starts_marked more tag (suc i) (suc n) (suc m) count (λ k. ap tag (let e : suc i + k ≡ i + suc k = omega arith in e) ∙ h (suc k)) ps (omega (arith, l)) in
    let moved = ap (λ k. start_twins more k (suc m)) a ∙ ap (λ k. start_twins more (n + 1) k) b in
    ap (λ l. if tag i then twin n m ∷ l else l) (rest ∙ moved)
    ∙ (ap (λ b. if b then twin n m ∷ start_twins more (n + 1) (m + 1) else start_twins more (n + 1) (m + 1))
    (ap tag (let e : i ≡ i + 0 = omega arith in e) ∙ h 0)
    ∙ by (is_calling x) (start_twins more (n + 1) (m + 1)))
  where
    by : (b : Bool) (l : List Twin) → (if b then twin n m ∷ l else l) ≡ mine b n m ++ l
    by true l = refl
    by false l = refl

module _ (P : TypedProgram) (ps : List Process) (d : ℕ → ℕ) where
  front_asked : (c : CalledChoices) (o from to : ℕ) (fh ft : List NodeRules)
      → length fh ≡ o + 2 * choice_count (inlined_choices ps c) + guards_size (inlined_choices ps c)
      → length fh ≡ length ft → asked_in (paired (front_tag c (o + choice_count (inlined_choices ps c))) 0 from to fh ft)
      ≡ start_twins c (from + (o + choice_count (inlined_choices ps c))) (to + (o + choice_count (inlined_choices ps c)))
  front_asked c o from to fh ft long e =
      let n = choice_count (inlined_choices ps c) in
      let before = o + n in
      let more = n + guards_size (inlined_choices ps c) in
      let split : length fh ≡ before + more = omega (arith, long) in
      asked_paired (front_tag c before) 0 from to fh ft e
      ∙ (ap (marked (front_tag c before) 0 from to) split
      ∙ (marked_skip (front_tag c before) before 0 from to more (λ k l. ap (front_tag c before) (let z : 0 + k ≡ k = omega arith in z)
      ∙ ap (λ b. if b then false else branch_calling c (k - before)) (let z : nat_lt k before ≡ true = grind (arith, nat_tests) in z))
      ∙ starts_marked c (front_tag c before) (0 + before) (from + before) (to + before) more
      (λ k. ap (front_tag c before) (let z : 0 + before + k ≡ before + k = omega arith in z)
      ∙ (ap (λ b. if b then false else branch_calling c (before + k - before)) (let z : nat_lt (before + k) before ≡ false = grind (arith, nat_tests) in z)
      ∙ ap (branch_calling c) (let z : before + k - before ≡ k = omega arith in z))) ps (omega arith)))

  abbrev Gives : List Twin → List Item → List CallPoint → Type 0
  Gives own xs cs = IsPermutation (own ++ asked_in xs) (requests_of cs)

  -- two parts after a prefix that marks their requests
  two_parts : (q xs ys : List Item) (a b : List Twin) (cs es : List CallPoint) → asked_in q ≡ a ++ b → Gives a xs cs → Gives b ys es
      → IsPermutation (asked_in (q ++ (xs ++ ys))) (requests_of (cs ++ es))
  two_parts q xs ys a b cs es eq f g =
      let whole : asked_in (q ++ (xs ++ ys)) ≡ (a ++ b) ++ (asked_in xs ++ asked_in ys) =
      asked_append q (xs ++ ys) ∙ (ap (λ l. l ++ asked_in (xs ++ ys)) eq ∙ ap (λ l. (a ++ b) ++ l) (asked_append xs ys)) in
      subst (λ l. IsPermutation l (requests_of (cs ++ es))) (sym whole)
      (subst (λ l. IsPermutation ((a ++ b) ++ (asked_in xs ++ asked_in ys)) l) (sym (map-append request_of cs es))
      (mixed [] a b (asked_in xs) (asked_in ys) (requests_of cs) (requests_of es) f g))

  element_asked : (a b : Bool) (r answer from s other to : ℕ)
      → asked_in (element_items P ps d a b r answer from s other to) ≡ mine a from to ++ mine b (from + 2) (to + 2)
  element_asked true true r answer from s other to = refl
  element_asked true false r answer from s other to = refl
  element_asked false true r answer from s other to = refl
  element_asked false false r answer from s other to = refl

  mutual
    pub requests_all : (x : Called) → IsProcess P.channels P.vars (inlined ps x) → (r from s to : ℕ)
        → Gives (mine (is_calling x) r s) (items P ps d x r from s to) (calls P ps d x r from s to)
    requests_all (calling q) t r from s to = IsPermutation-refl (twin r s ∷ [])
    requests_all (atom p) t r from s to =
        let none : asked_in (items P ps d (atom p) r from s to) ≡ [] = untagged_none 0 from to (rules_of P p r from) (rules_of P p s to) in
        subst (λ l. IsPermutation l []) (sym none) (IsPermutation-refl [])
      where
        untagged_none : (i from to : ℕ) (rs ss : List NodeRules) → asked_in (paired untagged i from to rs ss) ≡ []
        untagged_none i from to [] ss = refl
        untagged_none i from to (r ∷ rs) [] = refl
        untagged_none i from to (r ∷ rs) (s ∷ ss) = untagged_none (suc i) (suc from) (suc to) rs ss
    requests_all (turned ms) t r from s to = subst (λ b. Gives (mine b r s) (turn_items P ps d ms r from s to) (turn_calls P ps d ms r from s to)) (many ms t.0)
        (requests_turn ms t.1 r from s to)
      where
        many : (ms : Calleds) → 2 ≤ member_count (inlined_each ps ms) → one_calling ms ≡ false
        many no_calleds l = refl
        many (and_called x no_calleds) l = absurd (omega (arith, l))
        many (and_called x (and_called y more)) l = refl
    requests_all (abreast ms) t r from s to =
        let tree = paired untagged 0 (from + called_branches_size ps P ms) (branches_end P (inlined_each ps ms) to)
        (tree_rules (called_ends ps P ms from) (from + called_branches_size ps P ms))
        (tree_rules (branch_ends P (inlined_each ps ms) to) (branches_end P (inlined_each ps ms) to)) in
        let e : asked_in (branch_items P ps d ms r from s to ++ tree) ≡ asked_in (branch_items P ps d ms r from s to) =
        asked_append (branch_items P ps d ms r from s to) tree ∙ (ap (λ l. asked_in (branch_items P ps d ms r from s to) ++ l)
        (untagged_none 0 (from + called_branches_size ps P ms) (branches_end P (inlined_each ps ms) to)
        (tree_rules (called_ends ps P ms from) (from + called_branches_size ps P ms))
        (tree_rules (branch_ends P (inlined_each ps ms) to) (branches_end P (inlined_each ps ms) to)))
        ∙ append-nil (asked_in (branch_items P ps d ms r from s to))) in
        subst (λ l. IsPermutation l (requests_of (branch_calls P ps d ms r from s to))) (sym e) (requests_branches ms t.1 r from s to)
      where
        untagged_none : (i from to : ℕ) (rs ss : List NodeRules) → asked_in (paired untagged i from to rs ss) ≡ []
        untagged_none i from to [] ss = refl
        untagged_none i from to (r ∷ rs) [] = refl
        untagged_none i from to (r ∷ rs) (s ∷ ss) = untagged_none (suc i) (suc from) (suc to) rs ss
    requests_all (chosen false c) t r from s to =
        let n = choice_count (inlined_choices ps c) in
        let a : from + (select_own + n) ≡ from + select_own + n = omega arith in
        let b : to + (select_own + n) ≡ to + select_own + n = omega arith in
        let front = paired (front_tag c (select_own + n)) 0 from to (select_here P ps d c r from) (select_there P ps d c s to) in
        let bodies =
        body_items P ps d c (from + select_own + n) (bodies_from (inlined_choices ps c) select_own from) (to + select_own + n)
        (bodies_from (inlined_choices ps c) select_own to) in
        let marks = front_asked c select_own from to (select_here P ps d c r from) (select_there P ps d c s to) (select_long P ps d c t.2 r from)
        (select_long P ps d c t.2 r from ∙ sym (select_long_there P ps d c t.2 s to))
        ∙ (ap (λ k. start_twins c k (to + (select_own + n))) a ∙ ap (λ k. start_twins c (from + select_own + n) k) b) in
        subst (λ l. IsPermutation l (requests_of (calls P ps d (chosen false c) r from s to)))
        (sym (asked_append front bodies ∙ ap (λ l. l ++ asked_in bodies) marks))
        (requests_bodies c t.2 (from + select_own + n) (bodies_from (inlined_choices ps c) select_own from) (to + select_own + n)
        (bodies_from (inlined_choices ps c) select_own to))
    requests_all (chosen true c) t r from s to =
        let n = choice_count (inlined_choices ps c) in
        let a : from + (again_own + n) ≡ from + again_own + n = omega arith in
        let b : to + (again_own + n) ≡ to + again_own + n = omega arith in
        let front = paired (front_tag c (again_own + n)) 0 from to (again_here P ps d c r from) (again_there P ps d c s to) in
        let bodies =
        body_items P ps d c (from + again_own + n) (bodies_from (inlined_choices ps c) again_own from) (to + again_own + n)
        (bodies_from (inlined_choices ps c) again_own to) in
        let marks = front_asked c again_own from to (again_here P ps d c r from) (again_there P ps d c s to) (again_long P ps d c t.2 r from)
        (again_long P ps d c t.2 r from ∙ sym (again_long_there P ps d c t.2 s to))
        ∙ (ap (λ k. start_twins c k (to + (again_own + n))) a ∙ ap (λ k. start_twins c (from + again_own + n) k) b) in
        subst (λ l. IsPermutation l (requests_of (calls P ps d (chosen true c) r from s to)))
        (sym (asked_append front bodies ∙ ap (λ l. l ++ asked_in bodies) marks))
        (requests_bodies c t.2 (from + again_own + n) (bodies_from (inlined_choices ps c) again_own from) (to + again_own + n)
        (bodies_from (inlined_choices ps c) again_own to))
    requests_all (looped x) t r from s to = subst (λ l. IsPermutation l (requests_of (calls P ps d x (from + 1) (from + 2) (to + 1) (to + 2))))
        (by (is_calling x) (asked_in (items P ps d x (from + 1) (from + 2) (to + 1) (to + 2)))) (requests_all x t (from + 1) (from + 2) (to + 1) (to + 2))
      where
        by : (b : Bool) (l : List Twin) → mine b (from + 1) (to + 1) ++ l ≡ (if b then twin (from + 1) (to + 1) ∷ l else l)
        by true l = refl
        by false l = refl

    requests_turn : (ms : Calleds) → AreProcesses P.channels P.vars (inlined_each ps ms) → (r from s to : ℕ)
        → Gives (mine (one_calling ms) r s) (turn_items P ps d ms r from s to) (turn_calls P ps d ms r from s to)
    requests_turn no_calleds t r from s to = IsPermutation-refl []
    requests_turn (and_called x no_calleds) t r from s to = requests_all x t.0 r from s to
    requests_turn (and_called x (and_called y more)) t r from s to =
        let k = called_size ps P x in
        let j = size_of P (inlined ps x) in
        two_parts (element_items P ps d (is_calling x) (one_calling (and_called y more)) r (called_answer ps P x (from + 3)) from s
        (answer_of P (inlined ps x) (to + 3)) to)
        (items P ps d x from (from + 3) to (to + 3)) (turn_items P ps d (and_called y more) (from + 2) (from + 3 + k) (to + 2) (to + 3 + j))
        (mine (is_calling x) from to) (mine (one_calling (and_called y more)) (from + 2) (to + 2)) (calls P ps d x from (from + 3) to (to + 3))
        (turn_calls P ps d (and_called y more) (from + 2) (from + 3 + k) (to + 2) (to + 3 + j))
        (element_asked (is_calling x) (one_calling (and_called y more)) r (called_answer ps P x (from + 3)) from s (answer_of P (inlined ps x) (to + 3)) to)
        (requests_all x t.0 from (from + 3) to (to + 3)) (requests_turn (and_called y more) t.1 (from + 2) (from + 3 + k) (to + 2) (to + 3 + j))

    requests_branches : (ms : Calleds) → AreProcesses P.channels P.vars (inlined_each ps ms) → (r from s to : ℕ)
        → IsPermutation (asked_in (branch_items P ps d ms r from s to)) (requests_of (branch_calls P ps d ms r from s to))
    requests_branches no_calleds t r from s to = IsPermutation-refl []
    requests_branches (and_called x more) t r from s to =
        let k = called_size ps P x in
        let j = size_of P (inlined ps x) in
        two_parts (element_items P ps d (is_calling x) false r (called_answer ps P x (from + 3)) from s (answer_of P (inlined ps x) (to + 3)) to)
        (items P ps d x from (from + 3) to (to + 3)) (branch_items P ps d more r (from + 3 + k) s (to + 3 + j))
        (mine (is_calling x) from to) [] (calls P ps d x from (from + 3) to (to + 3)) (branch_calls P ps d more r (from + 3 + k) s (to + 3 + j))
        (element_asked (is_calling x) false r (called_answer ps P x (from + 3)) from s (answer_of P (inlined ps x) (to + 3)) to)
        (requests_all x t.0 from (from + 3) to (to + 3)) (requests_branches more t.1 r (from + 3 + k) s (to + 3 + j))

    requests_bodies : (c : CalledChoices) → AreChoices P.channels P.vars (inlined_choices ps c) → (start from s to : ℕ)
        → Gives (start_twins c start s) (body_items P ps d c start from s to) (body_calls P ps d c start from s to)
    requests_bodies no_called t start from s to = IsPermutation-refl []
    requests_bodies (or_called g x more) t start from s to =
        let k = called_size ps P x in
        let j = size_of P (inlined ps x) in
        let xs = items P ps d x start from s to in
        let ys = body_items P ps d more (start + 1) (from + k) (s + 1) (to + j) in
        let a = mine (is_calling x) start s in
        let b = start_twins more (start + 1) (s + 1) in
        let cs = calls P ps d x start from s to in
        let es = body_calls P ps d more (start + 1) (from + k) (s + 1) (to + j) in
        subst (λ l. IsPermutation l (requests_of (cs ++ es))) (ap (λ l. (a ++ b) ++ l) (sym (asked_append xs ys)))
        (subst (λ l. IsPermutation ((a ++ b) ++ (asked_in xs ++ asked_in ys)) l) (sym (map-append request_of cs es))
        (mixed [] a b (asked_in xs) (asked_in ys) (requests_of cs) (requests_of es) (requests_all x t.1 start from s to)
        (requests_bodies more t.2 (start + 1) (from + k) (s + 1) (to + j))))
