-- A site's request: how many moves follow where that of an assignment falls, and where that of a receive rises.
--
-- P: the program; K: how many moves follow the falls of lines; f: what is asked of a site; v: a variable; c: a channel; p, q, more: statements;
-- x: values of its nodes; s: a spot; e, g: what is asked under a low request and under a high one.
use Rattle.std.proofs.Common.{◌≡◌, ℕ, ◌+◌, ◌-◌, ◌≤◌, ◌==◌, Bool, true, false, refl, sym, ap, ◌∙◌, arith}
use Rattle.std.specs.Prelude.{not}
use Rattle.width_check.specs.Processes.{Process, skipping, assigning, sending, receiving, in_turn, side_by_side, choosing, repeating, Processes, no_members, and_member, Choices, no_choices, and_choice, TypedProgram}
use Rattle.width_check.specs.Typing.{kind_at, channel_width}
use Rattle.circuit_places.specs.Circuit.{QElementCells, Cells, TurnCells, GuardedSpot, Spot, turned_guarded, flipped}
use Rattle.circuit_places.proofs.RailLemmas.{fst_true, never_and}
use Rattle.circuit_places.proofs.LineNames.{same_number}
use Rattle.circuit_places.proofs.Flow.{not_both}
use Rattle.circuit_places.proofs.Talks.{either, or_false_right}
use Rattle.circuit_places.proofs.Meets.{Meets, TurnMeets}
use Rattle.circuit_places.proofs.StillSteps.{guarded_rises, guarded_value}
use Rattle.round_time.specs.Longest.{tree_height, var_height, receive_first, first, turn_first}
use Rattle.circuit_time.proofs.Trails.{Clearing, back, turn_back, guarded_trail, trail}
use Rattle.circuit_time.proofs.OwnTrails.{Covers, TurnCovers, EachCovers, ChoiceCovers}
use Rattle.circuit_ranks.proofs.Ranks.{Asked, assigns_to, listens_on, is_asked, turn_asked, branch_asked, choice_asked, is_received, some_received, choice_received}
use Rattle.circuit_ranks.proofs.SiteReads.{Reading, Spread, never, is_site, guarded_turns}

-- nothing is asked of a site whose request is low
abbrev pub AskedByRequest : Asked → Type 0
AskedByRequest f = (p : Process) → f p false ≡ false

pub assigns_low : (v : ℕ) → AskedByRequest (assigns_to v)
assigns_low v (assigning y at e) = never_and (y == v)
assigns_low v _ = refl

pub listens_low : (c : ℕ) → AskedByRequest (listens_on c)
listens_low c (receiving k at y to) = never_and (k == c)
listens_low c _ = refl

-- what is asked is asked of sites
abbrev pub asking : Asked → Reading
asking f p r x = is_asked f p r x

pub asked_spread : (f : Asked) → Spread (asking f)
asked_spread f = record {
  turn = turn_asked f;
  branch = branch_asked f;
  choice = choice_asked f;
  skips = λ r x y. refl;
  turns = λ ms r x. refl;
  sides = λ ms r x. refl;
  loops = λ p r x. refl;
  selects = λ cs r x. refl;
  repeats = λ cs r x. refl;
  last_turn = λ p r x. refl;
  more_turns = λ p q more r x. refl;
  no_branch = λ x. refl;
  more_branches = λ p more x. refl;
  no_choice = λ b x. refl;
  more_choices = λ g p more b x. refl;
}

-- no own move of a site changes that
asked_leaf : (f : Asked) (b : Bool) (bound : ℕ) (P : TypedProgram) (K : Clearing) (held down : ℕ) (p : Process) → is_site p ≡ true → (r : Bool)
    (x : Cells p) (s : Spot p) → is_asked f p r x ≡ b → is_asked f p r (flipped p x s) ≡ not b → bound ≤ trail P K held down p x s
asked_leaf f b bound P K held down (assigning v at d) h r x s e g = never b (f (assigning v at d) r) e g
asked_leaf f b bound P K held down (sending c at d) h r x s e g = never b (f (sending c at d) r) e g
asked_leaf f b bound P K held down (receiving c at v to) h r x s e g = never b (f (receiving c at v to) r) e g
asked_leaf f b bound P K held down skipping h r x s e g = absurd (cc h)
asked_leaf f b bound P K held down (in_turn ms) h r x s e g = absurd (cc h)
asked_leaf f b bound P K held down (side_by_side ms) h r x s e g = absurd (cc h)
asked_leaf f b bound P K held down (repeating p) h r x s e g = absurd (cc h)
asked_leaf f b bound P K held down (choosing again cs) h r x s e g = absurd (cc h)

-- what is asked under a low request is so under a high one
module _ (f : Asked) (low : AskedByRequest f) where
  mutual
    pub still_asked : (p : Process) (x : Cells p) → is_asked f p false x ≡ true → is_asked f p true x ≡ false → ⊥
    still_asked skipping x e g = not_both (low skipping) e
    still_asked (assigning v at d) x e g = not_both (low (assigning v at d)) e
    still_asked (sending c at d) x e g = not_both (low (sending c at d)) e
    still_asked (receiving c at v to) x e g = not_both (low (receiving c at v to)) e
    still_asked (in_turn ms) x e g = still_turn ms x e g
    still_asked (side_by_side ms) x e g = not_both g e
    still_asked (repeating p) x e g = not_both g e
    still_asked (choosing false cs) x e g = not_both g e
    still_asked (choosing true cs) x e g = not_both g e

    still_turn : (ms : Processes) (x : TurnCells ms) → turn_asked f ms false x ≡ true → turn_asked f ms true x ≡ false → ⊥
    still_turn no_members x e g = cc e
    still_turn (and_member p no_members) x e g = still_asked p x e g
    still_turn (and_member p (and_member q more)) x e g = not_both g e

module _ (P : TypedProgram) (K : Clearing) where
  -- ---- an assignment's request falls
  module _ (v : ℕ) where
    abbrev pub cleared : ℕ
    cleared = 2 + var_height P v + K.written v

    mutual
      assign_fall : (down : ℕ) (p : Process) (x : Cells p) → is_asked (assigns_to v) p true x ≡ true → is_asked (assigns_to v) p false x ≡ false
          → cleared ≤ back P K down p x
      assign_fall down skipping x e g = absurd (cc e)
      assign_fall down (assigning y at d) x e g =
          let z : 2 + var_height P y + K.written y ≡ 2 + var_height P v + K.written v =
          ap (λ (i : ℕ). 2 + var_height P i + K.written i) (same_number y v (fst_true (y == v) true e)) in
          omega (arith, z)
      assign_fall down (sending c at d) x e g = absurd (cc e)
      assign_fall down (receiving c at y to) x e g = absurd (cc e)
      assign_fall down (in_turn ms) x e g = assign_turn down ms x e g
      assign_fall down (side_by_side ms) x e g = absurd (not_both g e)
      assign_fall down (repeating p) x e g = absurd (not_both g e)
      assign_fall down (choosing false cs) x e g = absurd (not_both g e)
      assign_fall down (choosing true cs) x e g = absurd (not_both g e)

      assign_turn : (down : ℕ) (ms : Processes) (x : TurnCells ms) → turn_asked (assigns_to v) ms true x ≡ true → turn_asked (assigns_to v) ms false x ≡ false
          → cleared ≤ turn_back P K down ms x
      assign_turn down no_members x e g = absurd (cc e)
      assign_turn down (and_member p no_members) x e g = assign_fall down p x e g
      assign_turn down (and_member p (and_member q more)) x e g = absurd (not_both g e)

    -- so many moves follow the own move by which the last one falls
    pub assign_falls : (plus minus : ℕ) (p : Process) → Meets P p → (x : QElementCells (Cells p)) (s : GuardedSpot p)
        → is_asked (assigns_to v) p x.child x.inner ≡ true
        → is_asked (assigns_to v) p (turned_guarded p x s).child (turned_guarded p x s).inner ≡ false
        → (guarded_rises s ≡ true → guarded_value p x s ≡ true) → cleared ≤ guarded_trail P K plus minus p x s
    assign_falls plus minus p meets x s e g plain =
        guarded_turns P K (asking (assigns_to v)) (asked_spread (assigns_to v)) true cleared (asked_leaf (assigns_to v) true cleared P K)
        (λ p meets x e g. absurd (still_asked (assigns_to v) (assigns_low v) p x e g)) assign_fall plus minus p meets x s e g plain

  -- ---- a receive's request rises
  module _ (c : ℕ) where
    abbrev pub awaited : ℕ
    awaited = receive_first (kind_at P.channels c) (tree_height (channel_width P.channels c)) - 1

    mutual
      listen_rise : (p : Process) → Meets P p → (x : Cells p) → is_asked (listens_on c) p false x ≡ false → is_asked (listens_on c) p true x ≡ true
          → awaited ≤ first P p - 1
      listen_rise skipping meets x e g = absurd (cc g)
      listen_rise (assigning y at d) meets x e g = absurd (cc g)
      listen_rise (sending k at d) meets x e g = absurd (cc g)
      listen_rise (receiving k at y to) meets x e g =
          let same = same_number k c (fst_true (k == c) true g) in
          let a : receive_first (kind_at P.channels k) (var_height P y) ≡ receive_first (kind_at P.channels k) (tree_height (channel_width P.channels k)) =
          ap (λ (w : ℕ). receive_first (kind_at P.channels k) (tree_height w)) meets.widths in
          let z : receive_first (kind_at P.channels k) (tree_height (channel_width P.channels k))
          ≡ receive_first (kind_at P.channels c) (tree_height (channel_width P.channels c)) =
          ap (λ (i : ℕ). receive_first (kind_at P.channels i) (tree_height (channel_width P.channels i))) same in
          omega (arith, a, z)
      listen_rise (in_turn ms) meets x e g = listen_turn ms meets x e g
      listen_rise (side_by_side ms) meets x e g = absurd (not_both e g)
      listen_rise (repeating p) meets x e g = absurd (not_both e g)
      listen_rise (choosing false cs) meets x e g = absurd (not_both e g)
      listen_rise (choosing true cs) meets x e g = absurd (not_both e g)

      listen_turn : (ms : Processes) → TurnMeets P ms → (x : TurnCells ms) → turn_asked (listens_on c) ms false x ≡ false
          → turn_asked (listens_on c) ms true x ≡ true → awaited ≤ turn_first P ms - 1
      listen_turn no_members meets x e g = absurd meets
      listen_turn (and_member p no_members) meets x e g = listen_rise p meets x e g
      listen_turn (and_member p (and_member q more)) meets x e g = absurd (not_both e g)

    -- so many moves follow the own move by which the first one rises
    pub listen_rises : (plus minus : ℕ) (p : Process) → Meets P p → (x : QElementCells (Cells p)) (s : GuardedSpot p)
        → is_asked (listens_on c) p x.child x.inner ≡ false
        → is_asked (listens_on c) p (turned_guarded p x s).child (turned_guarded p x s).inner ≡ true
        → (guarded_rises s ≡ true → guarded_value p x s ≡ true) → awaited ≤ guarded_trail P K plus minus p x s
    listen_rises plus minus p meets x s e g plain =
        guarded_turns P K (asking (listens_on c)) (asked_spread (listens_on c)) false awaited (asked_leaf (listens_on c) false awaited P K)
        listen_rise (λ down p x e g. absurd (still_asked (listens_on c) (listens_low c) p x g e)) plus minus p meets x s e g plain

  -- ---- what is received has been counted
  module _ (v : ℕ) where
    mutual
      pub received_written : (held down : ℕ) (p : Process) → Covers P K held down p → is_received v p ≡ true → 3 ≤ K.written v
      received_written held down (receiving c at y to) covers e =
          let z : K.written y ≡ K.written v = ap K.written (same_number y v e) in
          let a = covers.0 in
          let b = covers.1 in
          omega (arith, z, a, b)
      received_written held down (in_turn ms) covers e = turn_received held down ms covers e
      received_written held down (side_by_side ms) covers e = each_received _ ms covers e
      received_written held down (repeating p) covers e = received_written 1 0 p covers e
      received_written held down (choosing false cs) covers e = choices_received _ _ cs covers.1 e
      received_written held down (choosing true cs) covers e = choices_received _ _ cs covers.1 e
      received_written held down skipping covers e = absurd (cc e)
      received_written held down (assigning y at d) covers e = absurd (cc e)
      received_written held down (sending c at d) covers e = absurd (cc e)

      turn_received : (held down : ℕ) (ms : Processes) → TurnCovers P K held down ms → some_received v ms ≡ true → 3 ≤ K.written v
      turn_received held down no_members covers e = absurd (cc e)
      turn_received held down (and_member p no_members) covers e = received_written held down p covers (sym (or_false_right (is_received v p) false refl) ∙ e)
      turn_received held down (and_member p (and_member q more)) covers e = either (is_received v p) (some_received v (and_member q more)) e
          (λ z. received_written _ _ p covers.0 z) (λ z. turn_received _ _ (and_member q more) covers.1 z)

      each_received : (down : ℕ) (ms : Processes) → EachCovers P K down ms → some_received v ms ≡ true → 3 ≤ K.written v
      each_received down no_members covers e = absurd (cc e)
      each_received down (and_member p more) covers e = either (is_received v p) (some_received v more) e
          (λ z. received_written _ _ p covers.0 z) (λ z. each_received down more covers.1 z)

      choices_received : (held down : ℕ) (cs : Choices) → ChoiceCovers P K held down cs → choice_received v cs ≡ true → 3 ≤ K.written v
      choices_received held down no_choices covers e = absurd (cc e)
      choices_received held down (and_choice g p more) covers e = either (is_received v p) (choice_received v more) e
          (λ z. received_written held down p covers.0 z) (λ z. choices_received held down more covers.1 z)
