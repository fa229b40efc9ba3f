-- What is asked of a program's sites, read off its nodes, is under way where it is; and so is what a place says of assignments.
--
-- f: what is asked of a site; p, q, more: statements; a, g, b, t: where a statement, a guarded one, branches and a sequence are; env: what they
-- see; v: a variable; c: a channel.
use Rattle.std.proofs.Common.{◌≡◌, ℕ, ◌==◌, Bool, true, false, refl, sym, ap, ◌∙◌}
use Rattle.std.specs.Prelude.{◌&&◌, ◌||◌, is_some}
use Rattle.chp_base.specs.declared.span.Span.{Span}
use Rattle.width_check.specs.Processes.{Formula, Process, skipping, assigning, sending, receiving, in_turn, side_by_side, choosing, repeating, Processes, no_members, and_member, Choices, no_choices, and_choice, choice_count}
use Rattle.function_blocks.specs.Rails.{Pairs}
use Rattle.function_blocks.specs.Parts.{gate_count}
use Rattle.circuit_places.specs.Heads.{Bits, low_bits}
use Rattle.circuit_places.specs.Lines.{of_channel, of_var, Rails, Seen}
use Rattle.circuit_places.specs.Whole.{value_on, neutral_on}
use Rattle.circuit_places.specs.Circuit.{QElementCells, Cells, BranchCells, ChoiceCells, TurnCells, low, low_choices, low_branches, low_turn}
use Rattle.circuit_places.proofs.RailLemmas.{fst_true, snd_true, both_true, never_and}
use Rattle.circuit_places.proofs.LineNames.{same_number}
use Rattle.circuit_places.proofs.Flow.{not_both, neither_left, neither_right, or_left, or_right}
use Rattle.circuit_places.proofs.Talks.{either, or_false_right}
use Rattle.circuit_places.proofs.Everywhere.{View, GoesUp, guarded_everywhere}
use Rattle.circuit_places.proofs.Begin.{answered_kept}
use Rattle.circuit_places.proofs.PortLeaf.{runs_kept}
use Rattle.circuit_places.proofs.Places.{Mode, idle, running, answered, returning, asks, acks, wave_may, GuardedAt, guarded_cells, branch_cells, Shown, none_shown, both_shown, site_shown, port_shown, guarded_shown, branches_shown, port_ends, PortFits, GuardedFits}
use Rattle.circuit_ranks.proofs.Ranks.{Asked, assigns_to, listens_on, is_asked, turn_asked, branch_asked, choice_asked, is_received, some_received, choice_received}

neither : (a b : Bool) → a ≡ false → b ≡ false → (a || b) ≡ false
neither a b e f = ap (λ z. z || b) e ∙ f

-- ---- what is asked is under way

module _ (f : Asked) (still : (p : Process) → f p false ≡ false) where
  -- nothing is at rest
  mutual
    pub low_asked : (p : Process) → is_asked f p false (low p) ≡ false
    low_asked skipping = still skipping
    low_asked (assigning y at e) = still (assigning y at e)
    low_asked (sending c at e) = still (sending c at e)
    low_asked (receiving c at y to) = still (receiving c at y to)
    low_asked (in_turn members) = low_turn_asked members
    low_asked (side_by_side members) = low_branch_asked members
    low_asked (repeating p) = low_asked p
    low_asked (choosing false choices) = low_choice_asked choices
    low_asked (choosing true choices) = low_choice_asked choices

    pub low_turn_asked : (members : Processes) → turn_asked f members false (low_turn members) ≡ false
    low_turn_asked no_members = refl
    low_turn_asked (and_member p no_members) = low_asked p
    low_turn_asked (and_member p (and_member q more)) =
        neither (is_asked f p false (low p)) (turn_asked f (and_member q more) false (low_turn (and_member q more))) (low_asked p)
        (low_turn_asked (and_member q more))

    pub low_branch_asked : (members : Processes) → branch_asked f members (low_branches members) ≡ false
    low_branch_asked no_members = refl
    low_branch_asked (and_member p more) =
        neither (is_asked f p false (low p)) (branch_asked f more (low_branches more)) (low_asked p) (low_branch_asked more)

    pub low_choice_asked : (choices : Choices) → choice_asked f choices (low_bits (choice_count choices)) (low_choices choices) ≡ false
    low_choice_asked no_choices = refl
    low_choice_asked (and_choice g p more) =
        neither (is_asked f p false (low p)) (choice_asked f more (low_bits (choice_count more)) (low_choices more)) (low_asked p) (low_choice_asked more)

  -- what each site shows of which that is asked, the place shows
  module _ (env : Seen) (test : Shown → Bool) (nothing : test none_shown ≡ false) (two : (x y : Shown) → test (both_shown x y) ≡ (test x || test y))
      (skip : (r : Bool) → f skipping r ≡ false)
      (assigns : (x : ℕ) (at : Span) (e : Formula) (m : Mode) (u : Pairs (gate_count e)) → f (assigning x at e) (asks m) ≡ true
      → test (site_shown (of_var x) e u) ≡ true)
      (sends : (c : ℕ) (at : Span) (e : Formula) (m : Mode) (u : Pairs (gate_count e)) → f (sending c at e) (asks m) ≡ true
      → test (site_shown (of_channel c) e u) ≡ true)
      (receives : (c x : ℕ) (at to : Span) (m : Mode) (k : Bool) (q : Rails) → PortFits c x m k q env → f (receiving c at x to) (asks m) ≡ true
      → test (port_shown c x k q) ≡ true) where
    abbrev Shows : Bool → View → Type 0
    Shows asked v = v.fits env → asked ≡ true → test v.shown ≡ true

    shows : GoesUp (λ p r x. Shows (is_asked f p r x)) (λ ms r x. Shows (turn_asked f ms r x)) (λ ms x. Shows (branch_asked f ms x))
        (λ cs s y. Shows (choice_asked f cs s y)) (λ cs s y. Shows (choice_asked f cs s y))
    shows = record {
      silent = λ p none fits z. absurd (not_both (low_asked p) z);
      skip = λ r a none fits z. absurd (not_both (skip r) z);
      assign = λ x at e m u h fits z. assigns x at e m u z;
      send = λ c at e m u h fits z. sends c at e m u z;
      receive = λ c x at to m k q h fits z. receives c x at to m k q fits z;
      turn = λ ms r x v h. h;
      turn_silent = λ ms none fits z. absurd (not_both (low_turn_asked ms) z);
      last = λ p r x v h. h;
      first = λ p q more r x v n h fits z.
          either (is_asked f p x.child x.inner) (turn_asked f (and_member q more) x.next (low_turn (and_member q more))) z (λ e. h fits e)
          (λ e. absurd (not_both (ap (λ b. turn_asked f (and_member q more) b (low_turn (and_member q more))) n ∙ low_turn_asked (and_member q more)) e));
      later = λ p q more r x y v rest h fits z. either (is_asked f p x.child x.inner) (turn_asked f (and_member q more) x.next y) z
          (λ e. absurd (not_both nothing (rest (λ env. Unit {0}) tt e))) (λ e. h fits e);
      side = λ ms r x t v h. h;
      none = λ none fits z. absurd (cc z);
      beside = λ {p} {more} {k} {ks} g b h j fits z. two (guarded_shown g) (branches_shown b)
          ∙ either (is_asked f p (guarded_cells g).child (guarded_cells g).inner) (branch_asked f more (branch_cells b)) z
          (λ e. or_left (test (guarded_shown g)) (test (branches_shown b)) (h fits.0 e))
          (λ e. or_right (test (guarded_shown g)) (test (branches_shown b)) (j fits.1 e));
      body = λ p r b x v h. h;
      choice = λ cs r x v h. h;
      turning = λ cs r x v h. h;
      guards = λ cs asked none fits z. absurd (not_both (low_choice_asked cs) z);
      inside = λ cs s y v h. h;
      this = λ g p more r x v h fits z. either (is_asked f p r x) (choice_asked f more (low_bits (choice_count more)) (low_choices more)) z (λ e. h fits e)
          (λ e. absurd (not_both (low_choice_asked more) e));
      others = λ g p more s y v h fits z. either (is_asked f p false (low p)) (choice_asked f more s y) z (λ e. absurd (not_both (low_asked p) e))
          (λ e. h fits e);
    }

    pub guarded_asked_shown : {p : Process} {m : Mode} (g : GuardedAt p m) → GuardedFits g env
        → is_asked f p (guarded_cells g).child (guarded_cells g).inner ≡ true → test (guarded_shown g) ≡ true
    guarded_asked_shown g = guarded_everywhere (λ p r x. Shows (is_asked f p r x)) (λ ms r x. Shows (turn_asked f ms r x))
        (λ ms x. Shows (branch_asked f ms x)) (λ cs s y. Shows (choice_asked f cs s y)) (λ cs s y. Shows (choice_asked f cs s y)) shows g

pub assigns_still : (v : ℕ) (p : Process) → assigns_to v p false ≡ false
assigns_still v (assigning y at e) = never_and (y == v)
assigns_still v skipping = refl
assigns_still v (sending c at e) = refl
assigns_still v (receiving c at y to) = refl
assigns_still v (in_turn _) = refl
assigns_still v (side_by_side _) = refl
assigns_still v (repeating p) = refl
assigns_still v (choosing again _) = refl

pub listens_still : (c : ℕ) (p : Process) → listens_on c p false ≡ false
listens_still c (receiving k at y to) = never_and (k == c)
listens_still c skipping = refl
listens_still c (assigning y at e) = refl
listens_still c (sending k at e) = refl
listens_still c (in_turn _) = refl
listens_still c (side_by_side _) = refl
listens_still c (repeating p) = refl
listens_still c (choosing again _) = refl

-- an assignment that is asked has its step before it
pub assigned_says : (v : ℕ) {p : Process} {m : Mode} (env : Seen) (g : GuardedAt p m) → GuardedFits g env
    → is_asked (assigns_to v) p (guarded_cells g).child (guarded_cells g).inner ≡ true → (guarded_shown g).says (of_var v) ≡ true
assigned_says v env g fits z = guarded_asked_shown (assigns_to v) (assigns_still v) env (λ s. s.says (of_var v)) refl (λ x y. refl) (λ r. refl)
    (λ x at e m u y. fst_true (x == v) (asks m) y) (λ c at e m u y. absurd (cc y)) (λ c x at to m k q f y. absurd (cc y)) g fits z

-- a receive that is asked under the channel's acknowledge has stored
pub listened_takes : (c : ℕ) {p : Process} {m : Mode} (env : Seen) (g : GuardedAt p m) → GuardedFits g env → env.ack (of_channel c) ≡ true
    → is_asked (listens_on c) p (guarded_cells g).child (guarded_cells g).inner ≡ true → (guarded_shown g).take c ≡ true
listened_takes c env g fits high z = guarded_asked_shown (listens_on c) (listens_still c) env (λ s. s.take c) refl (λ x y. refl) (λ r. refl)
    (λ x at e m u y. absurd (cc y)) (λ k at e m u y. absurd (cc y)) (λ d x at to m k q f y. at_port d x m k q f y) g fits z
  where
    kept : (m : Mode) (k a v f n : Bool) → port_ends m k a v f n ≡ true → asks m ≡ true → a ≡ true → k ≡ true
    kept idle k a v f n e r h = absurd (cc r)
    kept running k a v f n e r h = runs_kept k a v f n e h
    kept answered k a v f n e r h = answered_kept k a v f n e
    kept returning k a v f n e r h = absurd (cc r)

    at_port : (d x : ℕ) (m : Mode) (k : Bool) (q : Rails) → PortFits d x m k q env → ((d == c) && asks m) ≡ true → ((d == c) && k) ≡ true
    at_port d x m k q f y =
        let same = fst_true (d == c) (asks m) y in
        let there : env.ack (of_channel d) ≡ true = ap (λ (i : ℕ). env.ack (of_channel i)) (same_number d c same) ∙ high in
        both_true (d == c) k same (kept m k (env.ack (of_channel d)) (env.ack (of_var x)) (is_some (value_on (env.width (of_var x)) q))
        (neutral_on (env.width (of_var x)) q) f.ends (snd_true (d == c) (asks m) y) there)

-- ---- of a variable that no receive writes an assignment is under way where something is

module _ (v : ℕ) where
  abbrev IsTold : Bool → View → Type 0
  IsTold written x = written ≡ false → x.shown.talk (of_var v) ≡ true → x.shown.says (of_var v) ≡ true

  told : GoesUp (λ p r x. IsTold (is_received v p)) (λ ms r x. IsTold (some_received v ms)) (λ ms x. IsTold (some_received v ms))
      (λ cs s y. IsTold (choice_received v cs)) (λ cs s y. IsTold (choice_received v cs))
  told = record {
    silent = λ p f none e. absurd (cc e);
    skip = λ r a f none e. absurd (cc e);
    assign = λ y at d m u h none e. e;
    send = λ c at d m u h none e. e;
    receive = λ c y at to m k q h none e. absurd (not_both none e);
    turn = λ ms r z x h. h;
    turn_silent = λ ms f none e. absurd (cc e);
    last = λ p r z x h none. h (neither_left (is_received v p) false none);
    first = λ p q more r z x n h none. h (neither_left (is_received v p) (some_received v (and_member q more)) none);
    later = λ p q more r z y x rest h none. h (neither_right (is_received v p) (some_received v (and_member q more)) none);
    side = λ ms r z t x h. h;
    none = λ f none e. absurd (cc e);
    beside = λ {p} {more} {k} {ks} g b one others none e. either ((guarded_shown g).talk (of_var v)) ((branches_shown b).talk (of_var v)) e
        (λ z. or_left ((guarded_shown g).says (of_var v)) ((branches_shown b).says (of_var v))
        (one (neither_left (is_received v p) (some_received v more) none) z))
        (λ z. or_right ((guarded_shown g).says (of_var v)) ((branches_shown b).says (of_var v))
        (others (neither_right (is_received v p) (some_received v more) none) z));
    body = λ p r b z x h. h;
    choice = λ cs r z x h. h;
    turning = λ cs r z x h. h;
    guards = λ cs asked f none e. absurd (cc e);
    inside = λ cs s y x h. h;
    this = λ g p more r z x h none. h (neither_left (is_received v p) (choice_received v more) none);
    others = λ g p more s y x h none. h (neither_right (is_received v p) (choice_received v more) none);
  }

  pub guarded_told : {p : Process} {m : Mode} (g : GuardedAt p m) → is_received v p ≡ false → (guarded_shown g).talk (of_var v) ≡ true
      → (guarded_shown g).says (of_var v) ≡ true
  guarded_told g = guarded_everywhere (λ p r x. IsTold (is_received v p)) (λ ms r x. IsTold (some_received v ms)) (λ ms x. IsTold (some_received v ms))
      (λ cs s y. IsTold (choice_received v cs)) (λ cs s y. IsTold (choice_received v cs)) told g

-- ---- which assignments are under way is told by the values of nodes

abbrev mutual
  pub is_under : (var : ℕ) → (p : Process) → (r : Bool) → Cells p → Bool
  is_under v (assigning y at e) r x = (y == v) && (r || x.answer)
  is_under v (in_turn members) r x = turn_under v members r x
  is_under v (side_by_side members) r x = branch_under v members x.branches
  is_under v (repeating p) r x = is_under v p x.ask x.inner
  is_under v (choosing false choices) r x = choice_under v choices x.started x.branches
  is_under v (choosing true choices) r x = choice_under v choices x.core.started x.core.branches
  is_under v skipping r x = false
  is_under v (sending c at e) r x = false
  is_under v (receiving c at y to) r x = false

  pub turn_under : (var : ℕ) → (members : Processes) → (r : Bool) → TurnCells members → Bool
  turn_under v no_members r x = false
  turn_under v (and_member p no_members) r x = is_under v p r x
  turn_under v (and_member p (and_member q more)) r x =
      is_under v p x.member.child x.member.inner || turn_under v (and_member q more) x.member.next x.later

  pub branch_under : (var : ℕ) → (members : Processes) → BranchCells members → Bool
  branch_under v no_members x = false
  branch_under v (and_member p more) x = is_under v p x.0.child x.0.inner || branch_under v more x.1

  pub choice_under : (var : ℕ) → (choices : Choices) → Bits (choice_count choices) → ChoiceCells choices → Bool
  choice_under v no_choices b x = false
  choice_under v (and_choice g p more) b x = is_under v p b.0 x.0 || choice_under v more b.1 x.1

module _ (v : ℕ) where
  mutual
    low_under : (p : Process) → is_under v p false (low p) ≡ false
    low_under skipping = refl
    low_under (assigning y at e) = never_and (y == v)
    low_under (sending c at e) = refl
    low_under (receiving c at y to) = refl
    low_under (in_turn members) = low_turn_under members
    low_under (side_by_side members) = low_branch_under members
    low_under (repeating p) = low_under p
    low_under (choosing false choices) = low_choice_under choices
    low_under (choosing true choices) = low_choice_under choices

    low_turn_under : (members : Processes) → turn_under v members false (low_turn members) ≡ false
    low_turn_under no_members = refl
    low_turn_under (and_member p no_members) = low_under p
    low_turn_under (and_member p (and_member q more)) =
        neither (is_under v p false (low p)) (turn_under v (and_member q more) false (low_turn (and_member q more))) (low_under p)
        (low_turn_under (and_member q more))

    low_branch_under : (members : Processes) → branch_under v members (low_branches members) ≡ false
    low_branch_under no_members = refl
    low_branch_under (and_member p more) =
        neither (is_under v p false (low p)) (branch_under v more (low_branches more)) (low_under p) (low_branch_under more)

    low_choice_under : (choices : Choices) → choice_under v choices (low_bits (choice_count choices)) (low_choices choices) ≡ false
    low_choice_under no_choices = refl
    low_choice_under (and_choice g p more) =
        neither (is_under v p false (low p)) (choice_under v more (low_bits (choice_count more)) (low_choices more)) (low_under p) (low_choice_under more)

  and_true : (b : Bool) → b ≡ (b && true)
  and_true true = refl
  and_true false = refl

  -- a site that is under way is asked, or it answers
  awake : (y : ℕ) (m : Mode) (all : Bool) → wave_may m all ≡ true → (y == v) ≡ ((y == v) && (asks m || acks m))
  awake y idle all h = absurd (cc h)
  awake y running all h = and_true (y == v)
  awake y answered all h = and_true (y == v)
  awake y returning all h = and_true (y == v)

  says_under : GoesUp (λ p r x w. w.shown.says (of_var v) ≡ is_under v p r x) (λ ms r x w. w.shown.says (of_var v) ≡ turn_under v ms r x)
      (λ ms x w. w.shown.says (of_var v) ≡ branch_under v ms x) (λ cs s y w. w.shown.says (of_var v) ≡ choice_under v cs s y)
      (λ cs s y w. w.shown.says (of_var v) ≡ choice_under v cs s y)
  says_under = record {
    silent = λ p f. sym (low_under p);
    skip = λ r a f. refl;
    assign = λ x at e m u h. awake x m _ h.may;
    send = λ c at e m u h. refl;
    receive = λ c x at to m k q h. refl;
    turn = λ ms r x w h. h;
    turn_silent = λ ms f. sym (low_turn_under ms);
    last = λ p r x w h. h;
    first = λ p q more r x w n h. h
        ∙ sym (or_false_right (is_under v p x.child x.inner) (turn_under v (and_member q more) x.next (low_turn (and_member q more)))
        (ap (λ b. turn_under v (and_member q more) b (low_turn (and_member q more))) n ∙ low_turn_under (and_member q more)));
    later = λ p q more r x y w rest h. h ∙ ap (λ z. z || turn_under v (and_member q more) x.next y) (rest (λ env. Unit {0}));
    side = λ ms r x t w h. h;
    none = λ f. refl;
    beside = λ {p} {more} {k} {ks} g b h j. ap (λ z. z || (branches_shown b).says (of_var v)) h
        ∙ ap (λ z. is_under v p (guarded_cells g).child (guarded_cells g).inner || z) j;
    body = λ p r b x w h. h;
    choice = λ cs r x w h. h;
    turning = λ cs r x w h. h;
    guards = λ cs asked f. sym (low_choice_under cs);
    inside = λ cs s y w h. h;
    this = λ g p more r x w h. h
        ∙ sym (or_false_right (is_under v p r x) (choice_under v more (low_bits (choice_count more)) (low_choices more)) (low_choice_under more));
    others = λ g p more s y w h. h ∙ sym (ap (λ z. z || choice_under v more s y) (low_under p));
  }

  guarded_says_under : {p : Process} {m : Mode} (g : GuardedAt p m)
      → (guarded_shown g).says (of_var v) ≡ is_under v p (guarded_cells g).child (guarded_cells g).inner
  guarded_says_under g = guarded_everywhere (λ p r x w. w.shown.says (of_var v) ≡ is_under v p r x)
      (λ ms r x w. w.shown.says (of_var v) ≡ turn_under v ms r x) (λ ms x w. w.shown.says (of_var v) ≡ branch_under v ms x)
      (λ cs s y w. w.shown.says (of_var v) ≡ choice_under v cs s y) (λ cs s y w. w.shown.says (of_var v) ≡ choice_under v cs s y) says_under g

  -- so places where all nodes have the same values say the same
  pub same_says : {p : Process} {m n : Mode} (g : GuardedAt p m) (h : GuardedAt p n) → guarded_cells g ≡ guarded_cells h
      → (guarded_shown g).says (of_var v) ≡ (guarded_shown h).says (of_var v)
  same_says {p = p} g h same =
      guarded_says_under g ∙ (ap (λ (x : QElementCells (Cells p)). is_under v p x.child x.inner) same ∙ sym (guarded_says_under h))
