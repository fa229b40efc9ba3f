-- The sites of a program: their channels and variables are declared, and their rails and nodes are among the body's.
use Rattle.std.proofs.Common.{◌≡◌, ℕ, ◌+◌, ◌*◌, ◌<◌, ◌≤◌, Bool, true, false, List, [], ◌∷◌, ◌++◌, length, get_or, All, refl, sym, ap, subst, ◌∙◌, arith}
use Rattle.std.specs.Prelude.{if◌then◌else◌}
use Rattle.std.proofs.lemmas.List.Elements.{All-nil, All-cons, All-append}
use Rattle.prs_core.specs.Pairs.{Pair, pairs_from, rails_of}
use Rattle.width_check.specs.Processes.{Formula, Process, skipping, assigning, sending, receiving, in_turn, side_by_side, choosing, repeating, Processes, no_members, and_member, Choices, no_choices, and_choice, TypedProgram}
use Rattle.width_check.specs.Reads.{reads}
use Rattle.width_check.specs.Typing.{channel_width, var_width, IsOfWidth, IsProcess, AreProcesses, AreChoices}
use Rattle.handshake_expand.specs.Layout.{formula_size, block_size, through_size, size_of, turn_size, branches_size, bodies_size}
use Rattle.handshake_expand.specs.Answers.{bodies_from, select_own, again_own}
use Rattle.function_blocks.specs.Expressions.{formula_result}
use Rattle.function_blocks.proofs.Sizes.{result_length}
use Rattle.net_compose.specs.Contacts.{ContactValue, sends, takes, writes, every_contact}
use Rattle.net_compose.specs.SortedContacts.{IsDeclaredContact}
use Rattle.handshake_expand.specs.Sites.{sites_in, sites_in_turn, sites_in_branches, sites_in_bodies}
use Rattle.net_compose.specs.Translation.{read_back, through_at, assigned_rails}
use Rattle.net_compose.proofs.ResultsOwn.{LieIn, lie_from, result_own, rails_lie}
use Rattle.net_compose.proofs.Sizes.{pairs_length}

-- two rails for each of so many bits, from a node on and before another one
pub record AreRails (width low high : ℕ) (rails : List ℕ) : Type 0 where
  pub wide : length rails ≡ 2 * width
  pub behind : All (λ rail. low ≤ rail) rails
  pub within : All (λ rail. rail < high) rails

rails_wider : (width low high from to : ℕ) (rails : List ℕ) → from ≤ low → high ≤ to → AreRails width low high rails → AreRails width from to rails
rails_wider width low high from to rails down up h = record {
  wide = h.wide;
  behind = λ i d inside. let b = h.behind i d inside in omega (arith, b, down);
  within = λ i d inside. let b = h.within i d inside in omega (arith, b, up);
}

rails_twice : (ps : List Pair) → length (rails_of ps) ≡ 2 * length ps
rails_twice [] = refl
rails_twice (p ∷ ps) = let e = rails_twice ps in omega (arith, e)

rails_of_pairs : (ps : List Pair) (width low high : ℕ) → length ps ≡ width → LieIn low high ps → AreRails width low high (rails_of ps)
rails_of_pairs ps width low high count lies = record {
  wide = rails_twice ps ∙ ap (λ n. 2 * n) count;
  behind = λ i d inside. (rails_lie low high ps lies i d inside).0;
  within = λ i d inside. (rails_lie low high ps lies i d inside).1;
}

module _ (p : TypedProgram) where
  abbrev pub IsSite : (low high : ℕ) → ContactValue → Type 0
  IsSite low high (sends k bits) = (k < length p.channels) × AreRails (channel_width p.channels k) low high (rails_of bits)
  IsSite low high (takes k node) = (k < length p.channels) × (low ≤ node) × (node < high)
  IsSite low high (writes x bits) = (x < length p.vars) × AreRails (var_width p.vars x) low high (rails_of bits)

  site_wider : (low high from to : ℕ) (v : ContactValue) → from ≤ low → high ≤ to → IsSite low high v → IsSite from to v
  site_wider low high from to (sends k bits) down up h = (h.0, rails_wider (channel_width p.channels k) low high from to (rails_of bits) down up h.1)
  site_wider low high from to (takes k node) down up h = let b = h.1 in let c = h.2 in (h.0, omega (arith, b, down), omega (arith, c, up))
  site_wider low high from to (writes x bits) down up h = (h.0, rails_wider (var_width p.vars x) low high from to (rails_of bits) down up h.1)

  abbrev AreSites : (low high : ℕ) → List ContactValue → Type 0
  AreSites low high vs = All (IsSite low high) vs

  sites_wider : (low high from to : ℕ) (vs : List ContactValue) → from ≤ low → high ≤ to → AreSites low high vs → AreSites from to vs
  sites_wider low high from to vs down up h = λ i d inside. site_wider low high from to (get_or vs i d) down up (h i d inside)

  one_site : (low high : ℕ) (v : ContactValue) → IsSite low high v → AreSites low high (v ∷ [])
  one_site low high v h = All-cons (IsSite low high) v [] h (All-nil (IsSite low high))

  two_parts : (low high : ℕ) (vs ws : List ContactValue) → AreSites low high vs → AreSites low high ws → AreSites low high (vs ++ ws)
  two_parts low high vs ws h k = All-append (IsSite low high) vs ws h k

  value_rails : (width from : ℕ) (e : Formula) → IsOfWidth p.vars width e → AreRails width from (from + formula_size e) (rails_of (formula_result e from))
  value_rails width from e h = rails_of_pairs (formula_result e from) width from (from + formula_size e) (result_length e from h.formed ∙ h.agrees)
      (result_own e from h.formed)

  plain_rails : (width from : ℕ) → AreRails width from (from + 2 * width) (rails_of (pairs_from width from))
  plain_rails width from = rails_of_pairs (pairs_from width from) width from (from + 2 * width) (pairs_length width from) (lie_from width from)

  assigned_own : (b : Bool) (x : ℕ) (e : Formula) (from : ℕ) → IsOfWidth p.vars (var_width p.vars x) e
      → AreRails (var_width p.vars x) from (from + (if b then through_size (var_width p.vars x) e else 1 + formula_size e))
      (rails_of (if b then read_back (through_at (var_width p.vars x) (formula_size e) from) else formula_result e (from + 1)))
  assigned_own true x e from h =
      let w = var_width p.vars x in
      let at = from + block_size w + 4 + formula_size e + 1 in
      rails_wider w at (at + 2 * w) from (from + through_size w e) (rails_of (pairs_from w at)) (omega arith) (omega arith) (plain_rails w at)
  assigned_own false x e from h =
      rails_wider (var_width p.vars x) (from + 1) (from + 1 + formula_size e) from (from + (1 + formula_size e)) (rails_of (formula_result e (from + 1)))
      (omega arith) (omega arith)
      (value_rails (var_width p.vars x) (from + 1) e h)

  mutual
    pub sites_own : (s : Process) (from : ℕ) → IsProcess p.channels p.vars s → AreSites from (from + size_of p s) (sites_in p (every_contact p) s from)
    sites_own skipping from h = All-nil (IsSite from (from + 1))
    sites_own (assigning x at e) from h =
        one_site from (from + size_of p (assigning x at e)) (writes x (assigned_rails p x e from)) (h.0, assigned_own (reads x e) x e from h.1)
    sites_own (sending chan at e) from h =
        let w = channel_width p.channels chan in
        one_site from (from + (1 + formula_size e)) (sends chan (formula_result e (from + 1))) (
          h.within,
          rails_wider w (from + 1) (from + 1 + formula_size e) from (from + (1 + formula_size e)) (rails_of (formula_result e (from + 1))) (omega arith)
              (omega arith)
              (value_rails w (from + 1) e h.sent),
        )
    sites_own (receiving chan chan_at x var_at) from h =
        let w = channel_width p.channels chan in
        let rails = rails_of (pairs_from w (from + 2)) in
        let own = rails_wider w (from + 2) (from + 2 + 2 * w) from (from + (2 + 2 * w)) rails (omega arith) (omega arith) (plain_rails w (from + 2)) in
        All-cons (IsSite from (from + (2 + 2 * w))) (takes chan (from + 1)) (writes x (pairs_from w (from + 2)) ∷ []) (h.within, omega arith, omega arith)
        (one_site from (from + (2 + 2 * w)) (writes x (pairs_from w (from + 2))) (
          h.target,
          subst (λ n. AreRails n from (from + (2 + 2 * w)) rails) (sym h.widths) own,
        ))
    sites_own (in_turn members) from h = turn_own members from h.1
    sites_own (side_by_side members) from h =
        sites_wider from (from + branches_size p members) from (from + size_of p (side_by_side members)) (sites_in_branches p (every_contact p) members from)
        (omega arith) (omega arith) (branches_own members from h.1)
    sites_own (choosing false choices) from h =
        let to = bodies_from choices select_own from in
        sites_wider to (to + bodies_size p choices) from (from + size_of p (choosing false choices)) (sites_in_bodies p (every_contact p) choices to)
        (omega arith) (omega arith) (bodies_own choices to h.2)
    sites_own (choosing true choices) from h =
        let to = bodies_from choices again_own from in
        sites_wider to (to + bodies_size p choices) from (from + size_of p (choosing true choices)) (sites_in_bodies p (every_contact p) choices to)
        (omega arith) (omega arith) (bodies_own choices to h.2)
    sites_own (repeating s) from h =
        sites_wider (from + 2) (from + 2 + size_of p s) from (from + (2 + size_of p s)) (sites_in p (every_contact p) s (from + 2)) (omega arith) (omega arith)
        (sites_own s (from + 2) h)

    turn_own : (members : Processes) (from : ℕ) → AreProcesses p.channels p.vars members → AreSites from (from + turn_size p members) (sites_in_turn p
        (every_contact p) members from)
    turn_own no_members from h = All-nil (IsSite from (from + 0))
    turn_own (and_member s no_members) from h = sites_own s from h.0
    turn_own (and_member s (and_member t more)) from h =
        let to = from + 3 + size_of p s in
        let end = from + turn_size p (and_member s (and_member t more)) in
        two_parts from end (sites_in p (every_contact p) s (from + 3)) (sites_in_turn p (every_contact p) (and_member t more) to)
        (sites_wider (from + 3) (from + 3 + size_of p s) from end (sites_in p (every_contact p) s (from + 3)) (omega arith) (omega arith) (sites_own s
        (from + 3) h.0))
        (sites_wider to (to + turn_size p (and_member t more)) from end (sites_in_turn p (every_contact p) (and_member t more) to) (omega arith) (omega arith)
        (turn_own (and_member t more) (from + 3 + size_of p s) h.1))

    branches_own : (members : Processes) (from : ℕ) → AreProcesses p.channels p.vars members → AreSites from (from + branches_size p members)
        (sites_in_branches p (every_contact p) members from)
    branches_own no_members from h = All-nil (IsSite from (from + 0))
    branches_own (and_member s more) from h =
        let to = from + 3 + size_of p s in
        let end = from + branches_size p (and_member s more) in
        two_parts from end (sites_in p (every_contact p) s (from + 3)) (sites_in_branches p (every_contact p) more to)
        (sites_wider (from + 3) (from + 3 + size_of p s) from end (sites_in p (every_contact p) s (from + 3)) (omega arith) (omega arith) (sites_own s
        (from + 3) h.0))
        (sites_wider to (to + branches_size p more) from end (sites_in_branches p (every_contact p) more to) (omega arith) (omega arith) (branches_own more
        (from + 3 + size_of p s) h.1))

    bodies_own : (choices : Choices) (from : ℕ) → AreChoices p.channels p.vars choices → AreSites from (from + bodies_size p choices) (sites_in_bodies p
        (every_contact p) choices from)
    bodies_own no_choices from h = All-nil (IsSite from (from + 0))
    bodies_own (and_choice g s more) from h =
        let to = from + size_of p s in
        let end = from + bodies_size p (and_choice g s more) in
        two_parts from end (sites_in p (every_contact p) s from) (sites_in_bodies p (every_contact p) more to)
        (sites_wider from (from + size_of p s) from end (sites_in p (every_contact p) s from) (omega arith) (omega arith) (sites_own s from h.1))
        (sites_wider to (to + bodies_size p more) from end (sites_in_bodies p (every_contact p) more to) (omega arith) (omega arith) (bodies_own more
        (from + size_of p s) h.2))

  pub site_of : (low high : ℕ) (v : ContactValue) → IsSite low high v → IsDeclaredContact (length p.channels) (length p.vars) v
  site_of low high (sends k bits) h = h.0
  site_of low high (takes k node) h = h.0
  site_of low high (writes x bits) h = h.0
