-- How many moves follow the falls of lines, counted over all sites of a program; and that these numbers are great enough, and leave enough of
-- `longest`.
--
-- P: the program; c: a channel; x: a variable; held, down: as in trails; q: a site.
use Rattle.std.proofs.Common.{◌≡◌, ℕ, suc, ◌+◌, ◌-◌, ◌≤◌, ◌==◌, Bool, true, false, ap, arith}
use Rattle.std.specs.Prelude.{if◌then◌else◌, max}
use Rattle.std.proofs.Math.Nat.{le-max_left, le-max_right, max-le}
use Rattle.width_check.specs.Processes.{Process, skipping, assigning, sending, receiving, in_turn, side_by_side, choosing, repeating, Processes, no_members, and_member, member_count, Choices, no_choices, and_choice, TypedProgram}
use Rattle.width_check.specs.Typing.{kind_at}
use Rattle.circuit_places.proofs.Flow.{cases}
use Rattle.circuit_places.proofs.LineNames.{self_number, same_number}
use Rattle.circuit_places.proofs.Meets.{Meets}
use Rattle.round_time.specs.Longest.{guards_depth, tree_height, var_height, over_sites, rails_fall, writes_fall, receive_clears, channel_low, first, turn_first, low, within, longest}
use Rattle.circuit_time.proofs.Trails.{Clearing}
use Rattle.circuit_time.proofs.Depths.{Ordered}
use Rattle.circuit_time.proofs.OwnTrails.{GuardsOrdered, Covers, TurnCovers, EachCovers, ChoiceCovers}
use Rattle.circuit_pace.proofs.TrailsWithin.{Leaves, Within}
use Rattle.circuit_pace.proofs.EverySite.{OfSite, EverySite, EveryTurn, EveryBranch, EveryChoice, downs, downs_each, downs_most, holds_each, within_each, site_map, site_both, site_all}

-- what is counted at a site
abbrev pub acked_at : ℕ → Process → ℕ → ℕ
acked_at c (sending k at e) down = if k == c then suc down else 0
acked_at c (receiving k at x to) down = if k == c then suc down else 0
acked_at c q down = 0

abbrev pub acked_of : TypedProgram → ℕ → ℕ
acked_of P c = downs P (acked_at c) 2 1 P.body

abbrev pub written_at : TypedProgram → ℕ → Process → ℕ → ℕ
written_at P x (assigning y at e) down = if y == x then suc down else 0
written_at P x (receiving c at y to) down = if y == x then 2 + acked_of P c else 0
written_at P x q down = 0

abbrev pub written_of : TypedProgram → ℕ → ℕ
written_of P x = downs P (written_at P x) 2 1 P.body

abbrev pub taken_at : TypedProgram → ℕ → Process → ℕ → ℕ
taken_at P c (receiving k at x to) down = if k == c then 3 + var_height P x + written_of P x else 0
taken_at P c q down = 0

abbrev pub taken_of : TypedProgram → ℕ → ℕ
taken_of P c = max (acked_of P c) (downs P (taken_at P c) 2 1 P.body)

abbrev pub counts : TypedProgram → Clearing
counts P = record { acked = acked_of P; written = written_of P; taken = taken_of P }

-- each gate of an expression stands behind its inputs, and of a statement's expressions
abbrev mutual
  pub AllOrdered : Process → Type 0
  AllOrdered (assigning x at e) = Ordered e
  AllOrdered (sending c at e) = Ordered e
  AllOrdered (in_turn ms) = EachOrdered ms
  AllOrdered (side_by_side ms) = EachOrdered ms
  AllOrdered (repeating p) = AllOrdered p
  AllOrdered (choosing again cs) = GuardsOrdered cs × ChoicesOrdered cs
  AllOrdered _ = Unit {0}

  pub EachOrdered : Processes → Type 0
  EachOrdered no_members = Unit {0}
  EachOrdered (and_member p more) = AllOrdered p × EachOrdered more

  pub ChoicesOrdered : Choices → Type 0
  ChoicesOrdered no_choices = Unit {0}
  ChoicesOrdered (and_choice g p more) = AllOrdered p × ChoicesOrdered more

-- the numbers at a site
abbrev pub Counted : TypedProgram → OfSite
Counted P held down q = ((c : ℕ) → acked_at c q down ≤ acked_of P c)
    × (((x : ℕ) → written_at P x q down ≤ written_of P x) × ((c : ℕ) → taken_at P c q down ≤ taken_of P c))

pub here_is : (n a b : ℕ) → (if n == n then a else 0) ≤ b → a ≤ b
here_is n a b e = let z : (if n == n then a else 0) ≡ a = ap (λ (c : Bool). if c then a else 0) (self_number n) in omega (arith, e, z)

module _ (P : TypedProgram) where
  pub counted : EverySite P (Counted P) 2 1 P.body
  counted =
      let a = site_all P (λ c held down q. acked_at c q down
      ≤ acked_of P c) 2 1 P.body (λ c. downs_each P (acked_at c) (acked_of P c) 2 1 P.body (omega arith)) in
      let b = site_all P (λ x held down q. written_at P x q down ≤ written_of P x) 2 1 P.body
      (λ x. downs_each P (written_at P x) (written_of P x) 2 1 P.body (omega arith)) in
      let t = site_all P (λ c held down q. taken_at P c q down ≤ taken_of P c) 2 1 P.body
      (λ c. downs_each P (taken_at P c) (taken_of P c) 2 1 P.body (le-max_right (acked_of P c) (downs P (taken_at P c) 2 1 P.body))) in
      let bt = site_both P (λ held down q. (x : ℕ) → written_at P x q down ≤ written_of P x) (λ held down q. (c : ℕ) → taken_at P c q down ≤ taken_of P c)
      2 1 P.body b t in
      site_both P (λ held down q. (c : ℕ) → acked_at c q down ≤ acked_of P c)
      (λ held down q. ((x : ℕ) → written_at P x q down ≤ written_of P x) × ((c : ℕ) → taken_at P c q down ≤ taken_of P c)) 2 1 P.body a bt

  -- so they are great enough
  mutual
    covers_of : (held down : ℕ) (p : Process) → AllOrdered p → EverySite P (Counted P) held down p → Covers P (counts P) held down p
    covers_of held down skipping o e = tt
    covers_of held down (assigning x at d) o e = (o, here_is x (suc down) (written_of P x) (e.1.0 x))
    covers_of held down (sending c at d) o e = (o, here_is c (suc down) (acked_of P c) (e.0 c))
    covers_of held down (receiving c at x to) o e = (
      here_is c (suc down) (acked_of P c) (e.0 c),
      here_is x (2 + acked_of P c) (written_of P x) (e.1.0 x),
      here_is c (3 + var_height P x + written_of P x) (taken_of P c) (e.1.1 c),
    )
    covers_of held down (in_turn ms) o e = turn_covers held down ms o e
    covers_of held down (side_by_side ms) o e =
        each_covers (suc (tree_height (member_count ms) + (held + (2 + tree_height (member_count ms) + down)))) ms o e
    covers_of held down (repeating p) o e = covers_of 1 0 p o e
    covers_of held down (choosing false cs) o e = (o.0, choice_covers (held + 3) (1 + down) cs o.1 e)
    covers_of held down (choosing true cs) o e = (o.0, choice_covers 4 (3 + guards_depth cs) cs o.1 e)

    turn_covers : (held down : ℕ) (ms : Processes) → EachOrdered ms → EveryTurn P (Counted P) held down ms → TurnCovers P (counts P) held down ms
    turn_covers held down no_members o e = tt
    turn_covers held down (and_member p no_members) o e = covers_of held down p o.0 e
    turn_covers held down (and_member p (and_member q more)) o e =
        (covers_of 2 (suc (turn_first P (and_member q more) - 1)) p o.0 e.0, turn_covers (held + 2) down (and_member q more) o.1 e.1)

    each_covers : (down : ℕ) (ms : Processes) → EachOrdered ms → EveryBranch P (Counted P) down ms → EachCovers P (counts P) down ms
    each_covers down no_members o e = tt
    each_covers down (and_member p more) o e = (covers_of 2 down p o.0 e.0, each_covers down more o.1 e.1)

    choice_covers : (held down : ℕ) (cs : Choices) → ChoicesOrdered cs → EveryChoice P (Counted P) held down cs → ChoiceCovers P (counts P) held down cs
    choice_covers held down no_choices o e = tt
    choice_covers held down (and_choice g p more) o e = (covers_of held down p o.0 e.0, choice_covers held down more o.1 e.1)

  pub covered : AllOrdered P.body → Covers P (counts P) 2 1 P.body
  covered o = covers_of 2 1 P.body o counted

  -- the whole program in its context
  pub root_within : Within P (longest P) 2 1 P.body
  root_within =
      let a = le-max_left (within P P.body) (max (2 + first P P.body) (low P 2 P.body + 2)) in
      let b = le-max_right (within P P.body) (max (2 + first P P.body) (low P 2 P.body + 2)) in
      let c = le-max_left (2 + first P P.body) (low P 2 P.body + 2) in
      let d = le-max_right (2 + first P P.body) (low P 2 P.body + 2) in
      record { lows = omega (arith, b, d); firsts = omega (arith, b, c); inside = a; sends = λ k. omega arith; writes = λ x. omega arith }

  -- ---- what they leave
  module _ (meets : Meets P P.body) where
    sites : EverySite P (λ held down q. Within P (longest P) held down q × Meets P q) 2 1 P.body
    sites = within_each P (longest P) 2 1 P.body root_within meets

    acked_leaves : (c : ℕ) → acked_of P c ≤ longest P - channel_low P (kind_at P.channels c) c
    acked_leaves c = downs_most P (acked_at c) (longest P - channel_low P (kind_at P.channels c) c) 2 1 P.body
        (site_map P (λ held down q. Within P (longest P) held down q
        × Meets P q) (λ held down q. acked_at c q down ≤ longest P - channel_low P (kind_at P.channels c) c)
        at_site 2 1 P.body sites)
      where
        room : (k down : ℕ) → suc (channel_low P (kind_at P.channels k) k + down) ≤ longest P
            → (if k == c then suc down else 0) ≤ longest P - channel_low P (kind_at P.channels c) c
        room k down w = cases (k == c)
            (λ (h : (k == c) ≡ true).
            let z : (if k == c then suc down else 0) ≡ suc down = ap (λ (b : Bool). if b then suc down else 0) h in
            let s : channel_low P (kind_at P.channels k) k ≡ channel_low P (kind_at P.channels c) c =
            ap (λ (i : ℕ). channel_low P (kind_at P.channels i) i) (same_number k c h) in
            let g : (if k == c then suc down else 0) ≤ longest P - channel_low P (kind_at P.channels c) c = omega (arith, z, s, w) in g)
            (λ (h : (k == c) ≡ false).
            let z : (if k == c then suc down else 0) ≡ 0 = ap (λ (b : Bool). if b then suc down else 0) h in
            let g : (if k == c then suc down else 0) ≤ longest P - channel_low P (kind_at P.channels c) c = omega (arith, z) in g)

        at_site : (held down : ℕ) (q : Process) → Within P (longest P) held down q × Meets P q
            → acked_at c q down ≤ longest P - channel_low P (kind_at P.channels c) c
        at_site held down (sending k at e) (w, m) = room k down w.lows
        at_site held down (receiving k at x to) (w, m) = room k down w.lows
        at_site held down skipping w = omega arith
        at_site held down (assigning x at e) w = omega arith
        at_site held down (in_turn ms) w = omega arith
        at_site held down (side_by_side ms) w = omega arith
        at_site held down (repeating p) w = omega arith
        at_site held down (choosing again cs) w = omega arith

    -- with how long lines take to clear
    abbrev Cleared : OfSite
    Cleared held down q = (Within P (longest P) held down q × Meets P q) × (Counted P held down q
        × ((c : ℕ) → receive_clears P c q held ≤ over_sites (receive_clears P c) 2 P.body))

    cleared : EverySite P Cleared 2 1 P.body
    cleared =
        let a = site_all P (λ c held down q. receive_clears P c q held ≤ over_sites (receive_clears P c) 2 P.body) 2 1 P.body
        (λ c. holds_each P (receive_clears P c) (over_sites (receive_clears P c) 2 P.body) 2 1 P.body (omega arith)) in
        let b = site_both P (Counted P) (λ held down q. (c : ℕ) → receive_clears P c q held ≤ over_sites (receive_clears P c) 2 P.body) 2 1 P.body counted a in
        site_both P (λ held down q. Within P (longest P) held down q × Meets P q)
        (λ held down q. Counted P held down q × ((c : ℕ) → receive_clears P c q held ≤ over_sites (receive_clears P c) 2 P.body)) 2 1 P.body sites b

    written_leaves : (x : ℕ) → written_of P x ≤ longest P - (writes_fall P x + 2 + var_height P x)
    written_leaves x = downs_most P (written_at P x) (longest P - (writes_fall P x + 2 + var_height P x)) 2 1 P.body
        (site_map P Cleared (λ held down q. written_at P x q down ≤ longest P - (writes_fall P x + 2 + var_height P x)) at_site 2 1 P.body cleared)
      where
        pick : (y a : ℕ) → (y ≡ x → a ≤ longest P - (writes_fall P x + 2 + var_height P x))
            → (if y == x then a else 0) ≤ longest P - (writes_fall P x + 2 + var_height P x)
        pick y a f = cases (y == x)
            (λ (h : (y == x) ≡ true).
            let z : (if y == x then a else 0) ≡ a = ap (λ (b : Bool). if b then a else 0) h in
            let w = f (same_number y x h) in
            let g : (if y == x then a else 0) ≤ longest P - (writes_fall P x + 2 + var_height P x) = omega (arith, z, w) in g)
            (λ (h : (y == x) ≡ false).
            let z : (if y == x then a else 0) ≡ 0 = ap (λ (b : Bool). if b then a else 0) h in
            let g : (if y == x then a else 0) ≤ longest P - (writes_fall P x + 2 + var_height P x) = omega (arith, z) in g)

        at_site : (held down : ℕ) (q : Process) → Cleared held down q → written_at P x q down ≤ longest P - (writes_fall P x + 2 + var_height P x)
        at_site held down (assigning y at e) (w, n) = pick y (suc down) (λ same.
            let l = w.0.lows in
            let z : writes_fall P y + 2 + var_height P y ≡ writes_fall P x + 2 + var_height P x = ap (λ (i : ℕ). writes_fall P i + 2 + var_height P i) same in
            omega (arith, l, z))
        at_site held down (receiving c at y to) (w, n) = pick y (2 + acked_of P c) (λ same.
            let a = acked_leaves c in
            let b = here_is c (suc down) (acked_of P c) (n.0.0 c) in
            let d = here_is c (writes_fall P y + 4 + var_height P y) (over_sites (receive_clears P c) 2 P.body) (n.1 c) in
            let m = le-max_right (rails_fall P (kind_at P.channels c) c + 2) (over_sites (receive_clears P c) 2 P.body) in
            let z : writes_fall P y + 2 + var_height P y ≡ writes_fall P x + 2 + var_height P x = ap (λ (i : ℕ). writes_fall P i + 2 + var_height P i) same in
            omega (arith, a, b, d, m, z))
        at_site held down (sending k at e) w = omega arith
        at_site held down skipping w = omega arith
        at_site held down (in_turn ms) w = omega arith
        at_site held down (side_by_side ms) w = omega arith
        at_site held down (repeating p) w = omega arith
        at_site held down (choosing again cs) w = omega arith

    taken_leaves : (c : ℕ) → taken_of P c ≤ longest P - (rails_fall P (kind_at P.channels c) c + 1)
    taken_leaves c = max-le first_part (downs_most P (taken_at P c) (longest P - (rails_fall P (kind_at P.channels c) c + 1)) 2 1 P.body
        (site_map P Cleared (λ held down q. taken_at P c q down ≤ longest P - (rails_fall P (kind_at P.channels c) c + 1)) at_site 2 1 P.body cleared))
      where
        first_part : acked_of P c ≤ longest P - (rails_fall P (kind_at P.channels c) c + 1)
        first_part =
            let a = acked_leaves c in
            let m = le-max_left (rails_fall P (kind_at P.channels c) c + 2) (over_sites (receive_clears P c) 2 P.body) in
            omega (arith, a, m)

        pick : (y a : ℕ) → (y ≡ c → a ≤ longest P - (rails_fall P (kind_at P.channels c) c + 1))
            → (if y == c then a else 0) ≤ longest P - (rails_fall P (kind_at P.channels c) c + 1)
        pick y a f = cases (y == c)
            (λ (h : (y == c) ≡ true).
            let z : (if y == c then a else 0) ≡ a = ap (λ (b : Bool). if b then a else 0) h in
            let w = f (same_number y c h) in
            let g : (if y == c then a else 0) ≤ longest P - (rails_fall P (kind_at P.channels c) c + 1) = omega (arith, z, w) in g)
            (λ (h : (y == c) ≡ false).
            let z : (if y == c then a else 0) ≡ 0 = ap (λ (b : Bool). if b then a else 0) h in
            let g : (if y == c then a else 0) ≤ longest P - (rails_fall P (kind_at P.channels c) c + 1) = omega (arith, z) in g)

        at_site : (held down : ℕ) (q : Process) → Cleared held down q → taken_at P c q down ≤ longest P - (rails_fall P (kind_at P.channels c) c + 1)
        at_site held down (receiving k at x to) (w, n) = pick k (3 + var_height P x + written_of P x) (λ same.
            let a = written_leaves x in
            let b = here_is x (2 + acked_of P k) (written_of P x) (n.0.1.0 x) in
            let d = here_is x (max (rails_fall P (kind_at P.channels k) k) (held + 1) + 2) (writes_fall P x) (w.0.writes x) in
            let m = le-max_left (rails_fall P (kind_at P.channels k) k) (held + 1) in
            let z : rails_fall P (kind_at P.channels k) k
            ≡ rails_fall P (kind_at P.channels c) c = ap (λ (i : ℕ). rails_fall P (kind_at P.channels i) i) same in
            omega (arith, a, b, d, m, z))
        at_site held down (assigning y at e) w = omega arith
        at_site held down (sending k at e) w = omega arith
        at_site held down skipping w = omega arith
        at_site held down (in_turn ms) w = omega arith
        at_site held down (side_by_side ms) w = omega arith
        at_site held down (repeating p) w = omega arith
        at_site held down (choosing again cs) w = omega arith

    pub counts_leave : Leaves P (counts P) (longest P)
    counts_leave = record {
      acked = acked_leaves;
      written = written_leaves;
      taken = taken_leaves;
      both = λ c. le-max_left (acked_of P c) (downs P (taken_at P c) 2 1 P.body);
    }
