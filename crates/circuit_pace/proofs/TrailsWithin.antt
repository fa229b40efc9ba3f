-- Each trail of an own node is within `longest`: two less, at most, since a trail counts neither its own move nor the step.
--
-- P: the program; L: a bound; K: how many moves follow the falls of lines; p, q, more: statements; held, down: as in trails; x: values of
-- nodes; s: a spot; z: that its rule fires.
use Rattle.std.proofs.Common.{ℕ, suc, ◌+◌, ◌-◌, ◌≤◌, true, false, arith}
use Rattle.std.specs.Prelude.{max}
use Rattle.std.proofs.Math.Nat.{le-max_left, le-max_right, max-le}
use Rattle.width_check.specs.Processes.{Formula, Process, in_turn, side_by_side, choosing, repeating, Processes, no_members, and_member, member_count, Choices, no_choices, and_choice, TypedProgram}
use Rattle.width_check.specs.Typing.{kind_at}
use Rattle.round_time.specs.Longest.{guards_depth, tree_height, var_height, over_sites, over_turn, over_each, over_choices, send_holds, rails_fall, write_holds, writes_fall, channel_low, first, turn_first, each_first, low, turn_low, each_low, choice_low, within, turn_within, each_within, choice_within}
use Rattle.round_time.specs.Phases.{choices_first}
use Rattle.circuit_time.proofs.Trails.{Clearing}
use Rattle.circuit_time.proofs.Requests.{turn_some}

-- how long sends on a channel hold its rails
abbrev pub sends_hold : TypedProgram → ℕ → ℕ
sends_hold P c = over_sites (send_holds c) 2 P.body

-- what the numbers leave of the bound
pub record Leaves (P : TypedProgram) (K : Clearing) (L : ℕ) : Type 0 where
  pub acked : (c : ℕ) → K.acked c ≤ L - channel_low P (kind_at P.channels c) c
  pub written : (x : ℕ) → K.written x ≤ L - (writes_fall P x + 2 + var_height P x)
  pub taken : (c : ℕ) → K.taken c ≤ L - (rails_fall P (kind_at P.channels c) c + 1)
  pub both : (c : ℕ) → K.acked c ≤ K.taken c

-- a statement in its context: from its last step to the fall of its answer, and so on to the next step; from its request to its first step;
-- inside of it; and its sites are among all sites
pub record Within (P : TypedProgram) (L held down : ℕ) (p : Process) : Type 0 where
  pub lows : suc (low P held p + down) ≤ L
  pub firsts : first P p ≤ L
  pub inside : within P p ≤ L
  pub sends : (c : ℕ) → over_sites (send_holds c) held p ≤ sends_hold P c
  pub writes : (x : ℕ) → over_sites (write_holds P x) held p ≤ writes_fall P x

pub record TurnWithin (P : TypedProgram) (L held down : ℕ) (ms : Processes) : Type 0 where
  pub lows : suc (turn_low P held ms + down) ≤ L
  pub firsts : turn_first P ms ≤ L
  pub inside : turn_within P ms ≤ L
  pub sends : (c : ℕ) → over_turn (send_holds c) held ms ≤ sends_hold P c
  pub writes : (x : ℕ) → over_turn (write_holds P x) held ms ≤ writes_fall P x

-- branches whose answers' falls so many moves follow
pub record EachWithin (P : TypedProgram) (L down : ℕ) (ms : Processes) : Type 0 where
  pub lows : suc (each_low P ms + down) ≤ L
  pub firsts : suc (each_first P ms) ≤ L
  pub inside : each_within P ms ≤ L
  pub sends : (c : ℕ) → over_each (send_holds c) ms ≤ sends_hold P c
  pub writes : (x : ℕ) → over_each (write_holds P x) ms ≤ writes_fall P x

pub record ChoiceWithin (P : TypedProgram) (L held down started : ℕ) (cs : Choices) : Type 0 where
  pub lows : suc (choice_low P held cs + down) ≤ L
  pub inside : choice_within P started cs ≤ L
  pub sends : (c : ℕ) → over_choices (send_holds c) held cs ≤ sends_hold P c
  pub writes : (x : ℕ) → over_choices (write_holds P x) held cs ≤ writes_fall P x

pub left_of_max : (a b c : ℕ) → max a b ≤ c → a ≤ c
left_of_max a b c e = let l = le-max_left a b in omega (arith, e, l)

pub right_of_max : (a b c : ℕ) → max a b ≤ c → b ≤ c
right_of_max a b c e = let l = le-max_right a b in omega (arith, e, l)

module _ (P : TypedProgram) (L : ℕ) where
  -- ---- contexts of parts
  pub turn_of : {held down : ℕ} {ms : Processes} → Within P L held down (in_turn ms) → TurnWithin P L held down ms
  turn_of w = record { lows = w.lows; firsts = w.firsts; inside = w.inside; sends = w.sends; writes = w.writes }

  pub last_of : {held down : ℕ} {p : Process} → TurnWithin P L held down (and_member p no_members) → Within P L held down p
  last_of w = record { lows = w.lows; firsts = w.firsts; inside = w.inside; sends = w.sends; writes = w.writes }

  pub member_of : {held down : ℕ} {p q : Process} {more : Processes} → TurnWithin P L held down (and_member p (and_member q more))
      → Within P L 2 (suc (turn_first P (and_member q more) - 1)) p
  member_of {held = held} {p = p} {q = q} {more = more} w =
      let i = w.inside in
      let f = w.firsts in
      let a = right_of_max (within P p) (max (low P 2 p + 1 + turn_first P (and_member q more)) (turn_within P (and_member q more))) L i in
      let b = left_of_max (low P 2 p + 1 + turn_first P (and_member q more)) (turn_within P (and_member q more)) L a in
      let c = turn_some P (and_member q more) in
      record {
        lows = omega (arith, b, c);
        firsts = omega (arith, f);
        inside = left_of_max (within P p) _ L i;
        sends = λ k. left_of_max (over_sites (send_holds k) 2 p) _ _ (w.sends k);
        writes = λ x. left_of_max (over_sites (write_holds P x) 2 p) _ _ (w.writes x);
      }

  pub later_of : {held down : ℕ} {p q : Process} {more : Processes} → TurnWithin P L held down (and_member p (and_member q more))
      → TurnWithin P L (held + 2) down (and_member q more)
  later_of {held = held} {p = p} {q = q} {more = more} w =
      let i = w.inside in
      let a = right_of_max (within P p) (max (low P 2 p + 1 + turn_first P (and_member q more)) (turn_within P (and_member q more))) L i in
      let b = left_of_max (low P 2 p + 1 + turn_first P (and_member q more)) (turn_within P (and_member q more)) L a in
      record {
        lows = w.lows;
        firsts = omega (arith, b);
        inside = right_of_max (low P 2 p + 1 + turn_first P (and_member q more)) (turn_within P (and_member q more)) L a;
        sends = λ k. right_of_max (over_sites (send_holds k) 2 p) _ _ (w.sends k);
        writes = λ x. right_of_max (over_sites (write_holds P x) 2 p) _ _ (w.writes x);
      }

  pub each_of : {held down : ℕ} {ms : Processes} → Within P L held down (side_by_side ms)
      → EachWithin P L (suc (tree_height (member_count ms) + (held + (2 + tree_height (member_count ms) + down)))) ms
  each_of {ms = ms} w =
      let l = w.lows in
      let f = w.firsts in
      record { lows = omega (arith, l); firsts = f; inside = w.inside; sends = w.sends; writes = w.writes }

  pub branch_of : {down : ℕ} {p : Process} {more : Processes} → EachWithin P L down (and_member p more) → Within P L 2 down p
  branch_of {p = p} {more = more} w =
      let l = w.lows in
      let f = w.firsts in
      let a = le-max_left (low P 2 p) (each_low P more) in
      let b = le-max_left (first P p) (each_first P more) in
      record {
        lows = omega (arith, l, a);
        firsts = omega (arith, f, b);
        inside = left_of_max (within P p) (each_within P more) L w.inside;
        sends = λ k. left_of_max (over_sites (send_holds k) 2 p) _ _ (w.sends k);
        writes = λ x. left_of_max (over_sites (write_holds P x) 2 p) _ _ (w.writes x);
      }

  pub branches_of : {down : ℕ} {p : Process} {more : Processes} → EachWithin P L down (and_member p more) → EachWithin P L down more
  branches_of {p = p} {more = more} w =
      let l = w.lows in
      let f = w.firsts in
      let a = le-max_right (low P 2 p) (each_low P more) in
      let b = le-max_right (first P p) (each_first P more) in
      record {
        lows = omega (arith, l, a);
        firsts = omega (arith, f, b);
        inside = right_of_max (within P p) (each_within P more) L w.inside;
        sends = λ k. right_of_max (over_sites (send_holds k) 2 p) _ _ (w.sends k);
        writes = λ x. right_of_max (over_sites (write_holds P x) 2 p) _ _ (w.writes x);
      }

  pub body_of : {held down : ℕ} {p : Process} → Within P L held down (repeating p) → Within P L 1 0 p
  body_of {p = p} w =
      let i = w.inside in
      let a = right_of_max (within P p) (max (first P p) (low P 1 p + 1)) L i in
      let b = right_of_max (first P p) (low P 1 p + 1) L a in
      record {
        lows = omega (arith, b);
        firsts = left_of_max (first P p) (low P 1 p + 1) L a;
        inside = left_of_max (within P p) _ L i;
        sends = w.sends;
        writes = w.writes;
      }

  pub select_of : {held down : ℕ} {cs : Choices} → Within P L held down (choosing false cs) → ChoiceWithin P L (held + 3) (1 + down) (3 + guards_depth cs) cs
  select_of w = let l = w.lows in record { lows = omega (arith, l); inside = w.inside; sends = w.sends; writes = w.writes }

  pub repeat_of : {held down : ℕ} {cs : Choices} → Within P L held down (choosing true cs) → ChoiceWithin P L 4 (3 + guards_depth cs) (3 + guards_depth cs) cs
  repeat_of {cs = cs} w =
      let a = right_of_max (choice_within P (3 + guards_depth cs) cs) (choice_low P 4 cs + 4 + guards_depth cs) L w.inside in
      record {
        lows = omega (arith, a);
        inside = left_of_max (choice_within P (3 + guards_depth cs) cs) _ L w.inside;
        sends = w.sends;
        writes = w.writes;
      }

  pub arm_of : {held down started : ℕ} {g : Formula} {p : Process} {more : Choices} → ChoiceWithin P L held down started (and_choice g p more)
      → Within P L held down p
  arm_of {held = held} {started = started} {p = p} {more = more} w =
      let l = w.lows in
      let a = le-max_left (low P held p) (choice_low P held more) in
      let b = right_of_max (within P p) (max (started + first P p) (choice_within P started more)) L w.inside in
      let c = left_of_max (started + first P p) (choice_within P started more) L b in
      record {
        lows = omega (arith, l, a);
        firsts = omega (arith, c);
        inside = left_of_max (within P p) _ L w.inside;
        sends = λ k. left_of_max (over_sites (send_holds k) held p) _ _ (w.sends k);
        writes = λ x. left_of_max (over_sites (write_holds P x) held p) _ _ (w.writes x);
      }

  pub arms_of : {held down started : ℕ} {g : Formula} {p : Process} {more : Choices} → ChoiceWithin P L held down started (and_choice g p more)
      → ChoiceWithin P L held down started more
  arms_of {held = held} {started = started} {p = p} {more = more} w =
      let l = w.lows in
      let a = le-max_right (low P held p) (choice_low P held more) in
      let b = right_of_max (within P p) (max (started + first P p) (choice_within P started more)) L w.inside in
      record {
        lows = omega (arith, l, a);
        inside = right_of_max (started + first P p) (choice_within P started more) L b;
        sends = λ k. right_of_max (over_sites (send_holds k) held p) _ _ (w.sends k);
        writes = λ x. right_of_max (over_sites (write_holds P x) held p) _ _ (w.writes x);
      }

  -- the first steps of all branches
  pub arms_first : {held down started : ℕ} (cs : Choices) → ChoiceWithin P L held down started cs → started ≤ L → started + choices_first P cs ≤ L
  arms_first no_choices w s = omega (arith, s)
  arms_first {started = started} (and_choice g p more) w s =
      let b = right_of_max (within P p) (max (started + first P p) (choice_within P started more)) L w.inside in
      let c = left_of_max (started + first P p) (choice_within P started more) L b in
      let d = arms_first more (arms_of w) s in
      let m : max (first P p) (choices_first P more) ≤ L - started = max-le (omega (arith, c)) (omega (arith, d)) in
      omega (arith, m, s)

  pub arms_low : (held : ℕ) (cs : Choices) → held ≤ choice_low P held cs
  arms_low held no_choices = omega arith
  arms_low held (and_choice g p more) = let a = arms_low held more in let b = le-max_right (low P held p) (choice_low P held more) in omega (arith, a, b)
