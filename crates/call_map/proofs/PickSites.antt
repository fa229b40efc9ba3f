-- What merges join: the rails of sends on a channel, the nodes that say that a receive has stored, the rails that write a
-- variable. None of these is the answer of its statement.
--
-- P: the program with copies; f: the node of a site that a merge joins; from: the first node of a statement.
use Rattle.std.proofs.Common.{◌≡◌, ◌≢◌, ℕ, ◌+◌, ◌*◌, ◌<◌, ◌==◌, Bool, true, false, List, [], ◌∷◌, ◌++◌, map, refl, sym, ap, ◌∙◌, subst, arith}
use Rattle.std.specs.Prelude.{if◌then◌else◌}
use Rattle.std.proofs.lemmas.Bool.{eqb-true}
use Rattle.std.proofs.lemmas.List.{map-append}
use Rattle.prs_core.specs.Pairs.{pairs_from}
use Rattle.width_check.specs.Processes.{Formula, Process, skipping, assigning, sending, receiving, in_turn, side_by_side, choosing, repeating, Processes, no_members, and_member, Choices, no_choices, and_choice, TypedProgram}
use Rattle.width_check.specs.Reads.{reads}
use Rattle.width_check.specs.Typing.{channel_width, var_width, IsOfWidth, IsProcess}
use Rattle.handshake_expand.specs.Layout.{formula_size, block_size, through_size, size_of}
use Rattle.handshake_expand.specs.Answers.{answer_of, second_answer, bodies_from, select_own, again_own}
use Rattle.handshake_expand.specs.Sites.{Sites, sites_in, sites_in_turn, sites_in_branches, sites_in_bodies}
use Rattle.function_blocks.specs.Expressions.{formula_result}
use Rattle.function_blocks.specs.Listed.{rail_place}
use Rattle.net_compose.specs.Translation.{send_site, receive_site, write_site, assigned_rails, read_back, through_at}
use Rattle.net_compose.proofs.FlatCells.{rail_place_lt}
use Rattle.net_compose.proofs.FlatSites.{at_site, pair_place}
use Rattle.net_compose.proofs.SameValues.{results_alike}
use Rattle.call_map.specs.Calling.{Called, calling, atom, turned, abreast, chosen, looped, Calleds, no_calleds, and_called, CalledChoices, no_called, or_called, called_size, called_sites, called_turn_sites, called_branch_sites, called_body_sites, called_bodies_from, IsAtom}
use Rattle.call_map.proofs.Picks.{IsPick}

abbrev pub send_pick : ℕ → (bit : ℕ) → Bool → Sites ℕ
send_pick k i one s n = map (at_site i one) (send_site k s n)

abbrev pub write_pick : TypedProgram → ℕ → (bit : ℕ) → Bool → Sites ℕ
write_pick P x i one s n = map (at_site i one) (write_site P x s n)

if_same : (b : Bool) (xs ys : List Bool) → (b ≡ true → xs ≡ ys) → (if b then xs else []) ≡ (if b then ys else [])
if_same true xs ys f = f refl
if_same false xs ys f = refl

map_if : {A B : Type 0} (f : A → B) (b : Bool) (x : A) → map f (if b then x ∷ [] else []) ≡ (if b then f x ∷ [] else [])
map_if f true x = refl
map_if f false x = refl

map_twice_if : {A : Type 0} (f : ℕ → Bool) (g : A → ℕ) (b : Bool) (x : A) → map f (map g (if b then x ∷ [] else [])) ≡ (if b then f (g x) ∷ [] else [])
map_twice_if f g true x = refl
map_twice_if f g false x = refl

module _ (P : TypedProgram) where
  value_same : (v u : ℕ → Bool) (w i : ℕ) (one : Bool) (e : Formula) → IsOfWidth P.vars w e → i < w → (from to : ℕ)
      → ((j : ℕ) → j < formula_size e → v (from + 1 + j) ≡ u (to + 1 + j))
      → v (at_site i one (formula_result e (from + 1))) ≡ u (at_site i one (formula_result e (to + 1)))
  value_same v u w i one e t l from to same =
      results_alike v u P e t.formed t.reads (from + 1) (to + 1) same i one (let a = t.agrees in omega (arith, a, l))

  pub sends : (k i : ℕ) (one : Bool) → i < channel_width P.channels k → IsPick P (send_pick k i one)
  sends k i one l = record { atoms = atoms }
    where
      atoms : (v u : ℕ → Bool) (p : Process) → IsAtom p → IsProcess P.channels P.vars p → (from to : ℕ)
          → ((i : ℕ) → i < size_of P p → from + i ≢ answer_of P p from → v (from + i) ≡ u (to + i))
          → map v (send_pick k i one p from) ≡ map u (send_pick k i one p to)
      atoms v u skipping a t from to same = refl
      atoms v u (assigning x at e) a t from to same = refl
      atoms v u (receiving chan at x into) a t from to same = refl
      atoms v u (sending chan at e) a t from to same =
          map_twice_if v (at_site i one) (chan == k) (formula_result e (from + 1))
          ∙ (if_same (chan == k) (v (at_site i one (formula_result e (from + 1))) ∷ []) (u (at_site i one (formula_result e (to + 1))) ∷ [])
          (λ is. ap (λ b. b ∷ []) (value_same v u (channel_width P.channels chan) i one e t.sent
          (subst (λ c. i < channel_width P.channels c) (sym (eqb-true chan k is)) l) from to
          (λ j h. ap v (let z : from + 1 + j ≡ from + (1 + j) = omega arith in z)
          ∙ (same (1 + j) (omega (arith, h)) (λ z. absurd (let g : ⊥ = omega (arith, z) in g)) ∙ ap u (let z : to + (1 + j) ≡ to + 1 + j = omega arith in z)))))
          ∙ sym (map_twice_if u (at_site i one) (chan == k) (formula_result e (to + 1))))
      atoms v u (in_turn _) a t from to same = absurd a
      atoms v u (side_by_side _) a t from to same = absurd a
      atoms v u (choosing _ _) a t from to same = absurd a
      atoms v u (repeating _) a t from to same = absurd a

  pub receives : (k : ℕ) → IsPick P (receive_site k)
  receives k = record { atoms = atoms }
    where
      atoms : (v u : ℕ → Bool) (p : Process) → IsAtom p → IsProcess P.channels P.vars p → (from to : ℕ)
          → ((i : ℕ) → i < size_of P p → from + i ≢ answer_of P p from → v (from + i) ≡ u (to + i))
          → map v (receive_site k p from) ≡ map u (receive_site k p to)
      atoms v u skipping a t from to same = refl
      atoms v u (assigning x at e) a t from to same = refl
      atoms v u (sending chan at e) a t from to same = refl
      atoms v u (receiving chan at x into) a t from to same =
          map_if v (chan == k) (from + 1)
          ∙ (if_same (chan == k) (v (from + 1) ∷ []) (u (to + 1) ∷ [])
          (λ is. ap (λ b. b ∷ []) (same 1 (omega arith) (λ z. absurd (let g : ⊥ = omega (arith, z) in g)))) ∙ sym (map_if u (chan == k) (to + 1)))
      atoms v u (in_turn _) a t from to same = absurd a
      atoms v u (side_by_side _) a t from to same = absurd a
      atoms v u (choosing _ _) a t from to same = absurd a
      atoms v u (repeating _) a t from to same = absurd a

  pub writes : (x i : ℕ) (one : Bool) → i < var_width P.vars x → IsPick P (write_pick P x i one)
  writes x i one l = record { atoms = atoms }
    where
      ports : (v u : ℕ → Bool) (w from to : ℕ) → i < w → ((j : ℕ) → j < 2 * w → v (from + j) ≡ u (to + j))
          → v (at_site i one (pairs_from w from)) ≡ u (at_site i one (pairs_from w to))
      ports v u w from to h same =
          ap v (pair_place w from i one h) ∙ (same (rail_place i one) (rail_place_lt i w one h) ∙ ap u (sym (pair_place w to i one h)))

      assigned : (v u : ℕ → Bool) (e : Formula) (b : Bool) → IsOfWidth P.vars (var_width P.vars x) e → (from to : ℕ)
          → ((j : ℕ) → j < (if b then through_size (var_width P.vars x) e else 1 + formula_size e)
          → from + j ≢ (if b then second_answer P x from (formula_size e) else from)
          → v (from + j) ≡ u (to + j))
          → v (at_site i one (if b then read_back (through_at (var_width P.vars x) (formula_size e) from) else formula_result e (from + 1)))
          ≡ u (at_site i one (if b then read_back (through_at (var_width P.vars x) (formula_size e) to) else formula_result e (to + 1)))
      assigned v u e false t from to same = value_same v u (var_width P.vars x) i one e t l from to
          (λ j h. ap v (let z : from + 1 + j ≡ from + (1 + j) = omega arith in z)
          ∙ (same (1 + j) (omega (arith, h)) (λ z. absurd (let g : ⊥ = omega (arith, z) in g)) ∙ ap u (let z : to + (1 + j) ≡ to + 1 + j = omega arith in z)))
      assigned v u e true t from to same =
          let w = var_width P.vars x in
          let s = block_size w + 4 + formula_size e + 1 in
          ports v u w (from + block_size w + 4 + formula_size e + 1) (to + block_size w + 4 + formula_size e + 1) l
          (λ j h. ap v (let z : from + block_size w + 4 + formula_size e + 1 + j ≡ from + (s + j) = omega arith in z)
          ∙ (same (s + j) (omega (arith, h)) (λ z. absurd (let g : ⊥ = omega (arith, z) in g))
          ∙ ap u (let z : to + (s + j) ≡ to + block_size w + 4 + formula_size e + 1 + j = omega arith in z)))

      atoms : (v u : ℕ → Bool) (p : Process) → IsAtom p → IsProcess P.channels P.vars p → (from to : ℕ)
          → ((i : ℕ) → i < size_of P p → from + i ≢ answer_of P p from → v (from + i) ≡ u (to + i))
          → map v (write_pick P x i one p from) ≡ map u (write_pick P x i one p to)
      atoms v u skipping a t from to same = refl
      atoms v u (sending chan at e) a t from to same = refl
      atoms v u (assigning y at e) a t from to same =
          map_twice_if v (at_site i one) (y == x) (assigned_rails P x e from)
          ∙ (if_same (y == x) (v (at_site i one (assigned_rails P x e from)) ∷ []) (u (at_site i one (assigned_rails P x e to)) ∷ [])
          (λ is. ap (λ b. b ∷ []) (assigned v u e (reads x e) (subst (λ z. IsOfWidth P.vars (var_width P.vars z) e) (eqb-true y x is) t.1) from to
          (subst (λ z. (i : ℕ) → i < size_of P (assigning z at e) → from + i ≢ answer_of P (assigning z at e) from → v (from + i) ≡ u (to + i))
          (eqb-true y x is) same)))
          ∙ sym (map_twice_if u (at_site i one) (y == x) (assigned_rails P x e to)))
      atoms v u (receiving chan at y into) a t from to same =
          map_twice_if v (at_site i one) (y == x) (pairs_from (channel_width P.channels chan) (from + 2))
          ∙ (if_same (y == x) (v (at_site i one (pairs_from (channel_width P.channels chan) (from + 2))) ∷ [])
          (u (at_site i one (pairs_from (channel_width P.channels chan) (to + 2))) ∷ [])
          (λ is. ap (λ b. b ∷ []) (ports v u (channel_width P.channels chan) (from + 2) (to + 2)
          (subst (λ n. i < n) (t.widths) (subst (λ z. i < var_width P.vars z) (sym (eqb-true y x is)) l))
          (λ j h. ap v (let z : from + 2 + j ≡ from + (2 + j) = omega arith in z)
          ∙ (same (2 + j) (omega (arith, h)) (λ z. absurd (let g : ⊥ = omega (arith, z) in g)) ∙ ap u (let z : to + (2 + j) ≡ to + 2 + j = omega arith in z)))))
          ∙ sym (map_twice_if u (at_site i one) (y == x) (pairs_from (channel_width P.channels chan) (to + 2))))
      atoms v u (in_turn _) a t from to same = absurd a
      atoms v u (side_by_side _) a t from to same = absurd a
      atoms v u (choosing _ _) a t from to same = absurd a
      atoms v u (repeating _) a t from to same = absurd a

  -- a choice at each site is a choice of sites
  module _ {A B : Type 0} (f : A → B) (site : Sites A) where
    abbrev pub mapped : Sites B
    mapped s n = map f (site s n)

    mutual
      pub map_sites : (p : Process) (from : ℕ) → map f (sites_in P site p from) ≡ sites_in P mapped p from
      map_sites skipping from = refl
      map_sites (assigning x at e) from = refl
      map_sites (sending chan at e) from = refl
      map_sites (receiving chan at x into) from = refl
      map_sites (in_turn ms) from = map_turn ms from
      map_sites (side_by_side ms) from = map_branches ms from
      map_sites (choosing false c) from = map_bodies c (bodies_from c select_own from)
      map_sites (choosing true c) from = map_bodies c (bodies_from c again_own from)
      map_sites (repeating p) from = map_sites p (from + 2)

      map_turn : (ms : Processes) (from : ℕ) → map f (sites_in_turn P site ms from) ≡ sites_in_turn P mapped ms from
      map_turn no_members from = refl
      map_turn (and_member p no_members) from = map_sites p from
      map_turn (and_member p (and_member q more)) from =
          map-append f (sites_in P site p (from + 3)) (sites_in_turn P site (and_member q more) (from + 3 + size_of P p))
          ∙ (ap (λ l. l ++ map f (sites_in_turn P site (and_member q more) (from + 3 + size_of P p))) (map_sites p (from + 3))
          ∙ ap (λ l. sites_in P mapped p (from + 3) ++ l) (map_turn (and_member q more) (from + 3 + size_of P p)))

      map_branches : (ms : Processes) (from : ℕ) → map f (sites_in_branches P site ms from) ≡ sites_in_branches P mapped ms from
      map_branches no_members from = refl
      map_branches (and_member p more) from =
          map-append f (sites_in P site p (from + 3)) (sites_in_branches P site more (from + 3 + size_of P p))
          ∙ (ap (λ l. l ++ map f (sites_in_branches P site more (from + 3 + size_of P p))) (map_sites p (from + 3))
          ∙ ap (λ l. sites_in P mapped p (from + 3) ++ l) (map_branches more (from + 3 + size_of P p)))

      map_bodies : (c : Choices) (from : ℕ) → map f (sites_in_bodies P site c from) ≡ sites_in_bodies P mapped c from
      map_bodies no_choices from = refl
      map_bodies (and_choice g p more) from =
          map-append f (sites_in P site p from) (sites_in_bodies P site more (from + size_of P p))
          ∙ (ap (λ l. l ++ map f (sites_in_bodies P site more (from + size_of P p))) (map_sites p from)
          ∙ ap (λ l. sites_in P mapped p from ++ l) (map_bodies more (from + size_of P p)))

    module _ (ps : List Process) where
      mutual
        pub map_called : (x : Called) (from : ℕ) → map f (called_sites ps P site x from) ≡ called_sites ps P mapped x from
        map_called (calling q) from = refl
        map_called (atom p) from = map_sites p from
        map_called (turned ms) from = map_called_turn ms from
        map_called (abreast ms) from = map_called_branches ms from
        map_called (chosen false c) from = map_called_bodies c (called_bodies_from ps P c select_own from)
        map_called (chosen true c) from = map_called_bodies c (called_bodies_from ps P c again_own from)
        map_called (looped x) from = map_called x (from + 2)

        map_called_turn : (ms : Calleds) (from : ℕ) → map f (called_turn_sites ps P site ms from) ≡ called_turn_sites ps P mapped ms from
        map_called_turn no_calleds from = refl
        map_called_turn (and_called x no_calleds) from = map_called x from
        map_called_turn (and_called x (and_called y more)) from =
            map-append f (called_sites ps P site x (from + 3)) (called_turn_sites ps P site (and_called y more) (from + 3 + called_size ps P x))
            ∙ (ap (λ l. l ++ map f (called_turn_sites ps P site (and_called y more) (from + 3 + called_size ps P x))) (map_called x (from + 3))
            ∙ ap (λ l. called_sites ps P mapped x (from + 3) ++ l) (map_called_turn (and_called y more) (from + 3 + called_size ps P x)))

        map_called_branches : (ms : Calleds) (from : ℕ) → map f (called_branch_sites ps P site ms from) ≡ called_branch_sites ps P mapped ms from
        map_called_branches no_calleds from = refl
        map_called_branches (and_called x more) from =
            map-append f (called_sites ps P site x (from + 3)) (called_branch_sites ps P site more (from + 3 + called_size ps P x))
            ∙ (ap (λ l. l ++ map f (called_branch_sites ps P site more (from + 3 + called_size ps P x))) (map_called x (from + 3))
            ∙ ap (λ l. called_sites ps P mapped x (from + 3) ++ l) (map_called_branches more (from + 3 + called_size ps P x)))

        map_called_bodies : (c : CalledChoices) (from : ℕ) → map f (called_body_sites ps P site c from) ≡ called_body_sites ps P mapped c from
        map_called_bodies no_called from = refl
        map_called_bodies (or_called g x more) from =
            map-append f (called_sites ps P site x from) (called_body_sites ps P site more (from + called_size ps P x))
            ∙ (ap (λ l. l ++ map f (called_body_sites ps P site more (from + called_size ps P x))) (map_called x from)
            ∙ ap (λ l. called_sites ps P mapped x from ++ l) (map_called_bodies more (from + called_size ps P x)))
