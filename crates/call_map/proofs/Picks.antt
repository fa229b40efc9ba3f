-- The nodes that a merge joins: those of a body count once in the net with shared bodies, and once for each copy in the other.
--
-- P: the program with copies; pick: which nodes of a statement a merge joins; v, u: values of the nodes of the net with shared
-- bodies and of that with copies; ps: the bodies of the procedures; d: the answer of each body; x: a statement with calls;
-- r, s: its request in either net; from, to: its first node.
use Rattle.std.proofs.Common.{◌≡◌, ◌≢◌, ℕ, ◌+◌, ◌*◌, ◌<◌, ◌≤◌, Bool, true, false, List, [], ◌∷◌, ◌++◌, map, refl, sym, ap, ◌∙◌, arith}
use Rattle.std.specs.Prelude.{◌||◌, if◌then◌else◌, slice_index_or}
use Rattle.std.specs.List.{list_any}
use Rattle.width_check.specs.Processes.{Process, skipping, assigning, sending, receiving, in_turn, side_by_side, choosing, repeating, Processes, no_members, and_member, member_count, Choices, no_choices, and_choice, choice_count, TypedProgram}
use Rattle.width_check.specs.Reads.{reads}
use Rattle.width_check.specs.Typing.{var_width, IsProcess, AreProcesses, AreChoices}
use Rattle.handshake_expand.specs.Layout.{formula_size, through_size, size_of, turn_size, branches_size, guards_size, bodies_size}
use Rattle.handshake_expand.specs.Answers.{answer_of, turn_answer, second_answer, bodies_from, select_own, again_own}
use Rattle.handshake_expand.specs.Sites.{Sites, sites_in, sites_in_turn, sites_in_branches, sites_in_bodies}
use Rattle.net_compose.specs.Translation.{rules_of}
use Rattle.net_compose.proofs.Sizes.{statement_length}
use Rattle.net_compose.proofs.FlatRules.{counted}
use Rattle.call_map.specs.Calling.{Called, calling, atom, turned, abreast, chosen, looped, Calleds, no_calleds, and_called, CalledChoices, no_called, or_called, inlined, inlined_each, inlined_choices, called_size, called_answer, called_sites, called_turn_sites, called_branch_sites, called_body_sites, IsAtom, OfAtoms, EachOfAtoms, BranchesOfAtoms}
use Rattle.call_map.proofs.Items.{Each, each_left, each_right, paired, Same, paired_same, untagged, CallPoint, is_calling, one_calling, front_tag, element_items, select_here, select_there, again_here, again_there, items, turn_items, branch_items, body_items, calls, turn_calls, branch_calls, body_calls}
use Rattle.cell_parallel.specs.Trees.{tree_rules}
use Rattle.call_map.specs.Calling.{called_branches_size, called_ends, IsAtom, OfAtoms, EachOfAtoms, BranchesOfAtoms}
use Rattle.call_map.proofs.Truths.{or_false}
use Rattle.net_compose.specs.Translation.{branch_ends, branches_end}

abbrev pub any : List Bool → Bool
any bs = list_any (λ b. b) bs

pub any_map_append : {A : Type 0} (f : A → Bool) (xs ys : List A) → any (map f (xs ++ ys)) ≡ (any (map f xs) || any (map f ys))
any_map_append f [] ys = refl
any_map_append f (x ∷ xs) ys = ap (λ z. f x || z) (any_map_append f xs ys) ∙ apart (f x) (any (map f xs)) (any (map f ys))
  where
    apart : (a b c : Bool) → (a || (b || c)) ≡ ((a || b) || c)
    apart true b c = refl
    apart false b c = refl

map_both : {A B : Type 0} (f : A → B) (xs ys : List A) → map f (xs ++ ys) ≡ map f xs ++ map f ys
map_both f [] ys = refl
map_both f (x ∷ xs) ys = ap (λ l. f x ∷ l) (map_both f xs ys)

regroup : (a b c e : Bool) → ((a || b) || (c || e)) ≡ ((a || c) || (b || e))
regroup true b c e = refl
regroup false true true e = refl
regroup false true false e = refl
regroup false false c e = refl

pub never_any : {A : Type 0} (xs : List A) → any (map (λ x. false) xs) ≡ false
never_any [] = refl
never_any (x ∷ xs) = never_any xs

-- nodes that an atom contributes: its own, and not its answer
pub record IsPick (P : TypedProgram) (pick : Sites ℕ) : Type 0 where
  pub atoms : (v u : ℕ → Bool) (p : Process) → IsAtom p → IsProcess P.channels P.vars p → (from to : ℕ)
      → ((i : ℕ) → i < size_of P p → from + i ≢ answer_of P p from → v (from + i) ≡ u (to + i)) → map v (pick p from) ≡ map u (pick p to)

module _ (P : TypedProgram) where
  mutual
    pub answer_range : (p : Process) → IsProcess P.channels P.vars p → (from : ℕ) → (from ≤ answer_of P p from) × (answer_of P p from < from + size_of P p)
    answer_range skipping t from = (omega arith, omega arith)
    answer_range (assigning x at e) t from = by (reads x e)
      where
        by : (b : Bool) → (from ≤ (if b then second_answer P x from (formula_size e) else from))
            × ((if b then second_answer P x from (formula_size e) else from) < from + (if b then through_size (var_width P.vars x) e else 1 + formula_size e))
        by true = (omega arith, omega arith)
        by false = (omega arith, omega arith)
    answer_range (sending chan at e) t from = (omega arith, omega arith)
    answer_range (receiving chan at x into) t from = (omega arith, omega arith)
    answer_range (in_turn ms) t from = turn_range ms t.1 (omega (arith, t.0)) from
    answer_range (side_by_side ms) t from = let m : 2 ≤ member_count ms = t.0 in (omega (arith, m), omega (arith, m))
    answer_range (choosing false c) t from = (omega arith, omega arith)
    answer_range (choosing true c) t from = (omega arith, omega arith)
    answer_range (repeating p) t from = (omega arith, omega arith)

    turn_range : (ms : Processes) → AreProcesses P.channels P.vars ms → 1 ≤ member_count ms → (from : ℕ)
        → (from ≤ turn_answer P ms from) × (turn_answer P ms from < from + turn_size P ms)
    turn_range no_members t one from = absurd (omega (arith, one))
    turn_range (and_member p no_members) t one from = answer_range p t.0 from
    turn_range (and_member p (and_member q more)) t one from =
        let z = turn_range (and_member q more) t.1 (omega arith) (from + 3 + size_of P p) in
        let a = z.0 in
        let b = z.1 in
        (omega (arith, a), omega (arith, b))

  module _ (pick : Sites ℕ) (is : IsPick P pick) (v u : ℕ → Bool) where
    abbrev Except : (answer from to n : ℕ) → Type 0
    Except answer from to n = (i : ℕ) → i < n → from + i ≢ answer → v (from + i) ≡ u (to + i)

    inner : (answer other from to k n m : ℕ) → k + n ≤ m → Except answer from to m → ((i : ℕ) → i < n → from + k + i ≢ other → from + (k + i) ≢ answer)
        → Except other (from + k) (to + k) n
    inner answer other from to k n m le same apart i l ne =
        ap v (let z : from + k + i ≡ from + (k + i) = omega arith in z)
        ∙ (same (k + i) (omega (arith, l, le)) (apart i l ne) ∙ ap u (let z : to + (k + i) ≡ to + k + i = omega arith in z))

    mutual
      pub picks_placed : (p : Process) → IsProcess P.channels P.vars p → (from to : ℕ) → Except (answer_of P p from) from to (size_of P p)
          → map v (sites_in P pick p from) ≡ map u (sites_in P pick p to)
      picks_placed skipping t from to same = is.atoms v u skipping tt t from to same
      picks_placed (assigning x at e) t from to same = is.atoms v u (assigning x at e) tt t from to same
      picks_placed (sending chan at e) t from to same = is.atoms v u (sending chan at e) tt t from to same
      picks_placed (receiving chan at x into) t from to same = is.atoms v u (receiving chan at x into) tt t from to same
      picks_placed (in_turn ms) t from to same = picks_turn ms t.1 (omega (arith, t.0)) from to same
      picks_placed (side_by_side ms) t from to same =
          let m : 2 ≤ member_count ms = t.0 in
          picks_branches ms t.1 from to (λ i l. same i (omega (arith, l))
          (λ e. absurd (let g : ⊥ = omega (arith, e, l, m) in g)))
      picks_placed (choosing false c) t from to same =
          picks_bodies c t.2 (bodies_from c select_own from) (bodies_from c select_own to)
          (λ i l. ap v (let z : bodies_from c select_own from + i ≡ from + (select_own + 2 * choice_count c + guards_size c + i) = omega arith in z)
          ∙ (same (select_own + 2 * choice_count c + guards_size c + i) (omega (arith, l)) (λ e. absurd (let g : ⊥ = omega (arith, e) in g))
          ∙ ap u (let z : to + (select_own + 2 * choice_count c + guards_size c + i) ≡ bodies_from c select_own to + i = omega arith in z)))
      picks_placed (choosing true c) t from to same =
          picks_bodies c t.2 (bodies_from c again_own from) (bodies_from c again_own to)
          (λ i l. ap v (let z : bodies_from c again_own from + i ≡ from + (again_own + 2 * choice_count c + guards_size c + i) = omega arith in z)
          ∙ (same (again_own + 2 * choice_count c + guards_size c + i) (omega (arith, l)) (λ e. absurd (let g : ⊥ = omega (arith, e) in g))
          ∙ ap u (let z : to + (again_own + 2 * choice_count c + guards_size c + i) ≡ bodies_from c again_own to + i = omega arith in z)))
      picks_placed (repeating p) t from to same =
          picks_placed p t (from + 2) (to + 2) (inner from (answer_of P p (from + 2)) from to 2 (size_of P p) (2 + size_of P p) (omega arith) same
          (λ i l ne e. absurd (let g : ⊥ = omega (arith, e) in g)))

      picks_turn : (ms : Processes) → AreProcesses P.channels P.vars ms → 1 ≤ member_count ms → (from to : ℕ)
          → Except (turn_answer P ms from) from to (turn_size P ms)
          → map v (sites_in_turn P pick ms from) ≡ map u (sites_in_turn P pick ms to)
      picks_turn no_members t one from to same = refl
      picks_turn (and_member p no_members) t one from to same = picks_placed p t.0 from to same
      picks_turn (and_member p (and_member q more)) t one from to same =
          let k = size_of P p in
          let rest = and_member q more in
          let n = turn_size P rest in
          let e : from + 3 + k ≡ from + (3 + k) = omega arith in
          let f : to + 3 + k ≡ to + (3 + k) = omega arith in
          let range = turn_range rest t.1 (omega arith) (from + 3 + k) in
          let least = range.0 in
          let mine =
          picks_placed p t.0 (from + 3) (to + 3)
          (inner (turn_answer P rest (from + 3 + k)) (answer_of P p (from + 3)) from to 3 k (3 + k + n) (omega arith) same
          (λ i l ne z. absurd (let g : ⊥ = omega (arith, z, l, least) in g))) in
          let later = picks_turn (and_member q more) t.1 (omega arith) (from + (3 + k)) (to + (3 + k))
          (inner (turn_answer P rest (from + 3 + k)) (turn_answer P rest (from + (3 + k))) from to (3 + k) n (3 + k + n) (omega arith) same
          (λ i l ne z. ne (let g : from + (3 + k) + i ≡ from + (3 + k + i) = omega arith in g ∙ (z ∙ ap (turn_answer P rest) e)))) in
          map_both v (sites_in P pick p (from + 3)) (sites_in_turn P pick rest (from + 3 + k))
          ∙ (ap (λ l. l ++ map v (sites_in_turn P pick rest (from + 3 + k))) mine
          ∙ (ap (λ l. map u (sites_in P pick p (to + 3)) ++ l)
          (ap (λ j. map v (sites_in_turn P pick rest j)) e ∙ (later ∙ ap (λ j. map u (sites_in_turn P pick rest j)) (sym f)))
          ∙ sym (map_both u (sites_in P pick p (to + 3)) (sites_in_turn P pick rest (to + 3 + k)))))

      picks_branches : (ms : Processes) → AreProcesses P.channels P.vars ms → (from to : ℕ) → ((i : ℕ) → i < branches_size P ms → v (from + i) ≡ u (to + i))
          → map v (sites_in_branches P pick ms from) ≡ map u (sites_in_branches P pick ms to)
      picks_branches no_members t from to same = refl
      picks_branches (and_member p more) t from to same =
          let k = size_of P p in
          let n = branches_size P more in
          let mine = picks_placed p t.0 (from + 3) (to + 3) (λ i l ne. ap v (let z : from + 3 + i ≡ from + (3 + i) = omega arith in z)
          ∙ (same (3 + i) (omega (arith, l)) ∙ ap u (let z : to + (3 + i) ≡ to + 3 + i = omega arith in z))) in
          let later = picks_branches more t.1 (from + 3 + k) (to + 3 + k) (λ i l. ap v (let z : from + 3 + k + i ≡ from + (3 + k + i) = omega arith in z)
          ∙ (same (3 + k + i) (omega (arith, l)) ∙ ap u (let z : to + (3 + k + i) ≡ to + 3 + k + i = omega arith in z))) in
          map_both v (sites_in P pick p (from + 3)) (sites_in_branches P pick more (from + 3 + k))
          ∙ (ap (λ l. l ++ map v (sites_in_branches P pick more (from + 3 + k))) mine
          ∙ (ap (λ l. map u (sites_in P pick p (to + 3)) ++ l) later
          ∙ sym (map_both u (sites_in P pick p (to + 3)) (sites_in_branches P pick more (to + 3 + k)))))

      picks_bodies : (c : Choices) → AreChoices P.channels P.vars c → (from to : ℕ) → ((i : ℕ) → i < bodies_size P c → v (from + i) ≡ u (to + i))
          → map v (sites_in_bodies P pick c from) ≡ map u (sites_in_bodies P pick c to)
      picks_bodies no_choices t from to same = refl
      picks_bodies (and_choice g p more) t from to same =
          let k = size_of P p in
          let mine = picks_placed p t.1 from to (λ i l ne. same i (omega (arith, l))) in
          let later = picks_bodies more t.2 (from + k) (to + k) (λ i l. ap v (let z : from + k + i ≡ from + (k + i) = omega arith in z)
          ∙ (same (k + i) (omega (arith, l)) ∙ ap u (let z : to + (k + i) ≡ to + k + i = omega arith in z))) in
          map_both v (sites_in P pick p from) (sites_in_bodies P pick more (from + k))
          ∙ (ap (λ l. l ++ map v (sites_in_bodies P pick more (from + k))) mine
          ∙ (ap (λ l. map u (sites_in P pick p to) ++ l) later ∙ sym (map_both u (sites_in P pick p to) (sites_in_bodies P pick more (to + k)))))

    -- of a statement with calls: its atoms once, and the copies
    module _ (ps : List Process) (d : ℕ → ℕ) where
      abbrev pub copy_any : CallPoint → Bool
      copy_any c = any (map u (sites_in P pick (slice_index_or ps c.proc skipping) c.copy))

      abbrev Split : (theres heres : List ℕ) → List CallPoint → Type 0
      Split theres heres cs = any (map u theres) ≡ (any (map v heres) || any (map copy_any cs))

      joined : (xs ys ns bs : List ℕ) (cs es : List CallPoint) → Split xs ns cs → Split ys bs es → Split (xs ++ ys) (ns ++ bs) (cs ++ es)
      joined xs ys ns bs cs es f g =
          any_map_append u xs ys
          ∙ (ap (λ z. z || any (map u ys)) f ∙ (ap (λ z. (any (map v ns) || any (map copy_any cs)) || z) g
          ∙ (regroup (any (map v ns)) (any (map copy_any cs)) (any (map v bs)) (any (map copy_any es))
          ∙ (ap (λ z. z || (any (map copy_any cs) || any (map copy_any es))) (sym (any_map_append v ns bs))
          ∙ ap (λ z. any (map v (ns ++ bs)) || z) (sym (any_map_append copy_any cs es))))))

      mutual
        pub picks_split : (x : Called) → OfAtoms x → IsProcess P.channels P.vars (inlined ps x) → (r from s to : ℕ)
            → Each (Same v u) (items P ps d x r from s to)
            → Split (sites_in P pick (inlined ps x) to) (called_sites ps P pick x from) (calls P ps d x r from s to)
        picks_split (calling q) a t r from s to its = sym (or_false (any (map u (sites_in P pick (slice_index_or ps q skipping) to))))
        picks_split (atom p) a t r from s to its =
            let m = statement_length counted P p r from t in
            let n = statement_length counted P p s to t in
            ap any (sym (picks_placed p t from to (λ i l ne. paired_same v u untagged 0 from to (rules_of P p r from) (rules_of P p s to) (m ∙ sym n) its i
            (omega (arith, l, m)) refl))) ∙ sym (or_false (any (map v (sites_in P pick p from))))
        picks_split (turned members) a t r from s to its = split_turn members a t.1 r from s to its
        picks_split (abreast members) a t r from s to its = split_branches members a t.1 r from s to
            (each_left (Same v u) (branch_items P ps d members r from s to) (paired untagged 0 (from + called_branches_size ps P members)
            (branches_end P (inlined_each ps members) to) (tree_rules (called_ends ps P members from) (from + called_branches_size ps P members))
            (tree_rules (branch_ends P (inlined_each ps members) to) (branches_end P (inlined_each ps members) to))) its)
        picks_split (chosen false choices) a t r from s to its =
            let c = inlined_choices ps choices in
            split_bodies choices a t.2 (from + select_own + choice_count c) (bodies_from c select_own from) (to + select_own + choice_count c)
            (bodies_from c select_own to)
            (each_right (Same v u) (paired (front_tag choices (select_own + choice_count c)) 0 from to (select_here P ps d choices r from)
            (select_there P ps d choices s to))
            (body_items P ps d choices (from + select_own + choice_count c) (bodies_from c select_own from) (to + select_own + choice_count c)
            (bodies_from c select_own to)) its)
        picks_split (chosen true choices) a t r from s to its =
            let c = inlined_choices ps choices in
            split_bodies choices a t.2 (from + again_own + choice_count c) (bodies_from c again_own from) (to + again_own + choice_count c)
            (bodies_from c again_own to)
            (each_right (Same v u) (paired (front_tag choices (again_own + choice_count c)) 0 from to (again_here P ps d choices r from)
            (again_there P ps d choices s to))
            (body_items P ps d choices (from + again_own + choice_count c) (bodies_from c again_own from) (to + again_own + choice_count c)
            (bodies_from c again_own to)) its)
        picks_split (looped x) a t r from s to its = picks_split x a t (from + 1) (from + 2) (to + 1) (to + 2) its.1.1

        split_turn : (members : Calleds) → EachOfAtoms members → AreProcesses P.channels P.vars (inlined_each ps members) → (r from s to : ℕ)
            → Each (Same v u) (turn_items P ps d members r from s to)
            → Split (sites_in_turn P pick (inlined_each ps members) to) (called_turn_sites ps P pick members from) (turn_calls P ps d members r from s to)
        split_turn no_calleds a t r from s to its = refl
        split_turn (and_called x no_calleds) a t r from s to its = picks_split x a.0 t.0 r from s to its
        split_turn (and_called x (and_called y more)) a t r from s to its =
            let q = element_items P ps d (is_calling x) (one_calling (and_called y more)) r (called_answer ps P x (from + 3)) from s
            (answer_of P (inlined ps x) (to + 3)) to in
            let first = items P ps d x from (from + 3) to (to + 3) in
            let later = turn_items P ps d (and_called y more) (from + 2) (from + 3 + called_size ps P x) (to + 2) (to + 3 + size_of P (inlined ps x)) in
            let parts = each_right (Same v u) q (first ++ later) its in
            joined (sites_in P pick (inlined ps x) (to + 3)) (sites_in_turn P pick (inlined_each ps (and_called y more)) (to + 3 + size_of P (inlined ps x)))
            (called_sites ps P pick x (from + 3)) (called_turn_sites ps P pick (and_called y more) (from + 3 + called_size ps P x))
            (calls P ps d x from (from + 3) to (to + 3))
            (turn_calls P ps d (and_called y more) (from + 2) (from + 3 + called_size ps P x) (to + 2) (to + 3 + size_of P (inlined ps x)))
            (picks_split x a.0 t.0 from (from + 3) to (to + 3) (each_left (Same v u) first later parts))
            (split_turn (and_called y more) a.1 t.1 (from + 2) (from + 3 + called_size ps P x) (to + 2) (to + 3 + size_of P (inlined ps x))
            (each_right (Same v u) first later parts))

        split_branches : (members : Calleds) → EachOfAtoms members → AreProcesses P.channels P.vars (inlined_each ps members) → (r from s to : ℕ)
            → Each (Same v u) (branch_items P ps d members r from s to)
            → Split (sites_in_branches P pick (inlined_each ps members) to) (called_branch_sites ps P pick members from)
            (branch_calls P ps d members r from s to)
        split_branches no_calleds a t r from s to its = refl
        split_branches (and_called x more) a t r from s to its =
            let q = element_items P ps d (is_calling x) false r (called_answer ps P x (from + 3)) from s (answer_of P (inlined ps x) (to + 3)) to in
            let first = items P ps d x from (from + 3) to (to + 3) in
            let later = branch_items P ps d more r (from + 3 + called_size ps P x) s (to + 3 + size_of P (inlined ps x)) in
            let parts = each_right (Same v u) q (first ++ later) its in
            joined (sites_in P pick (inlined ps x) (to + 3)) (sites_in_branches P pick (inlined_each ps more) (to + 3 + size_of P (inlined ps x)))
            (called_sites ps P pick x (from + 3)) (called_branch_sites ps P pick more (from + 3 + called_size ps P x))
            (calls P ps d x from (from + 3) to (to + 3)) (branch_calls P ps d more r (from + 3 + called_size ps P x) s (to + 3 + size_of P (inlined ps x)))
            (picks_split x a.0 t.0 from (from + 3) to (to + 3) (each_left (Same v u) first later parts))
            (split_branches more a.1 t.1 r (from + 3 + called_size ps P x) s (to + 3 + size_of P (inlined ps x)) (each_right (Same v u) first later parts))

        split_bodies : (choices : CalledChoices) → BranchesOfAtoms choices → AreChoices P.channels P.vars (inlined_choices ps choices) → (start from s to : ℕ)
            → Each (Same v u) (body_items P ps d choices start from s to)
            → Split (sites_in_bodies P pick (inlined_choices ps choices) to) (called_body_sites ps P pick choices from)
            (body_calls P ps d choices start from s to)
        split_bodies no_called a t start from s to its = refl
        split_bodies (or_called g x more) a t start from s to its =
            let first = items P ps d x start from s to in
            let later = body_items P ps d more (start + 1) (from + called_size ps P x) (s + 1) (to + size_of P (inlined ps x)) in
            joined (sites_in P pick (inlined ps x) to) (sites_in_bodies P pick (inlined_choices ps more) (to + size_of P (inlined ps x)))
            (called_sites ps P pick x from) (called_body_sites ps P pick more (from + called_size ps P x))
            (calls P ps d x start from s to) (body_calls P ps d more (start + 1) (from + called_size ps P x) (s + 1) (to + size_of P (inlined ps x)))
            (picks_split x a.0 t.1 start from s to (each_left (Same v u) first later its))
            (split_bodies more a.1 t.2 (start + 1) (from + called_size ps P x) (s + 1) (to + size_of P (inlined ps x)) (each_right (Same v u) first later its))
