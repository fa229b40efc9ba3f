-- Where the control of a process is, what its nodes' values are there, and which of them may move.
use Rattle.std.proofs.Common.{◌≡◌, ℕ, zero, suc, ◌==◌, Bool, true, false, List, [], ◌∷◌, ◌≤◌, ◌<◌, refl, sym, ap, ◌∙◌}
use Rattle.std.specs.Prelude.{not, ◌&&◌, ◌||◌, if◌then◌else◌, is_some}
use Rattle.std.specs.List.{range_with_len}
use Rattle.std.proofs.Math.Path.{fun_ext}
use Rattle.chp_base.specs.declared.span.Span.{Span}
use Rattle.width_check.specs.Processes.{Formula, Process, skipping, assigning, sending, receiving, in_turn, side_by_side, choosing, repeating, Processes, no_members, and_member, member_count, Choices, no_choices, and_choice, choice_count}
use Rattle.cell_parallel.specs.Trees.{tree_top}
pub use Rattle.circuit_places.proofs.Modes.{Mode, idle, running, answered, returning, asks, acks}
use Rattle.circuit_places.specs.Lines.{Line, of_channel, of_var, same_line, Rails, Seen}
use Rattle.prs_core.specs.Deciding.{implies}
use Rattle.circuit_places.specs.Whole.{value_on, neutral_on}
use Rattle.circuit_places.specs.Circuit.{Port, PortSpot, low_port, port_rule, heard, stored, taking, of_receive, QElementCells, Site, Pairs, SiteSpot, site_rule, low_site, Cells, TurnCells, Bits, BranchCells, low_bits, cell_bit, joint_count, low_guarded, low, low_turn, low_branches, branches_answered, tree_answer, tree_rule, gate_count, answer, last_answer, GuardedSpot, Spot, TurnSpot, BranchSpot, child, latch, next, inner, of_skip, done, gate, of_assign, of_send, in_members, of_branch, joint, in_this, in_others, of_loop, ask, in_body, in_last, in_member, in_later, one_rule_fires, same_bit, gate_rule, guarded_rule, rule, turn_rule, branch_rule, Core, OwnSpot, RoundSpot, GuardCells, ChoiceCells, low_guards, low_core, low_choices, choice_answers, GuardSpot, this_gate, other_gate, ChoiceSpot, this_choice, other_choice, of_core, of_guard, of_choice, of_round, RailLevels, levels_of, guard_head, heads, guards_read, guards_rule, guards_good, choice_rule, low_pairs}
use Rattle.width_check.specs.Reads.{reads}
use Rattle.function_blocks.specs.Waves.{good, out_rail, full, empty, Waves}
use Rattle.circuit_places.proofs.RailLemmas.{fst_true, snd_true, same_value, low_gate_quiet, low_out}
use Rattle.circuit_places.proofs.Trees.{all_low_value, joint_quiet, low_bit, TreeOver, Settled, top_of, joint_moves}
use Rattle.circuit_places.specs.Heads.{Index, top, under, hot, all_neutral}
use Rattle.circuit_places.specs.Cores.{of_answer, of_turn, of_leave, core_rule, turning_rule, core_of, turning_of}
use Rattle.circuit_places.proofs.HeadFacts.{neutral_over}
use Rattle.circuit_places.proofs.CoreControl.{Control, uncalled, called, evaluating, latched, leaving, Way, Closing, control_leave, control_ask, control_guards, control_cells, control_moves, turning_moves, way_cells, closing_cells, way_moves, way_turning, closing_turn, closing_leave, closing_any, closing_own, closing_moves, control_can_is, turning_can_is, way_can_is, way_turning_is, closing_own_is, closing_can_is}

abbrev pub is_idle : Mode → Bool
is_idle idle = true
is_idle _ = false

-- under a latch of this value, the child of a Q-element that runs may be so far
abbrev pub inner_may : (latch : Bool) → Mode → Bool
inner_may false returning = false
inner_may true running = false
inner_may _ _ = true

-- the whole of a sequence, where a member's Q-element and what stands behind it are so far
abbrev pub link : (whole member later : Mode) → Bool
link running answered running = true
link answered answered answered = true
link returning returning answered = true
link returning idle returning = true
link _ _ _ = false

-- a site that answers has all its rails up
abbrev pub wave_may : Mode → (all : Bool) → Bool
wave_may running all = true
wave_may answered true = true
wave_may returning all = true
wave_may _ _ = false

-- A site is so far, where its gates have these values; the law of its expression stands beside.
pub record SiteMay (e : Formula) (m : Mode) (u : Pairs (gate_count e)) : Type 0 where
  pub known : Waves e
  pub may : wave_may m (full e u) ≡ true

-- a receive that answers has stored
abbrev pub port_may : Mode → (kept : Bool) → Bool
port_may idle k = false
port_may running k = true
port_may answered k = k
port_may returning k = true

-- branches that are so far are all under this request, and have all ended; their ends
abbrev pub all_ask : Bool → List Mode → Bool
all_ask r [] = true
all_ask r (k ∷ ks) = same_bit (asks k) r && all_ask r ks

abbrev pub all_ack : List Mode → Bool
all_ack [] = true
all_ack (k ∷ ks) = acks k && all_ack ks

abbrev pub all_idle : List Mode → Bool
all_idle [] = true
all_idle (k ∷ ks) = is_idle k && all_idle ks

abbrev pub ends : List Mode → ℕ → Bool
ends [] i = false
ends (k ∷ ks) zero = acks k
ends (k ∷ ks) (suc i) = ends ks i

-- A parallel composition of n branches is so far, where its branches are and its tree has these values: the tree over
-- their ends is settled, its top is the answer, and where that is given under the request all branches have ended.
pub record SideMay (n : ℕ) (m : Mode) (ks : List Mode) (t : Bits (joint_count n)) : Type 0 where
  pub some : 2 ≤ n
  pub known : TreeOver n
  pub awake : is_idle m ≡ false
  pub asked : all_ask (asks m) ks ≡ true
  pub settles : Settled n (ends ks) t
  pub top : top_of n (ends ks) t ≡ acks m
  pub all : m ≡ answered → all_ack ks ≡ true

mutual
  -- where a Q-element and its child are
  pub data GuardedAt : Process → Mode → Type 0 where
    g_rests : {p : Process} → GuardedAt p idle
    g_in : {p : Process} {m : Mode} (latch_up : Bool) → At p m → inner_may latch_up m ≡ true → GuardedAt p running
    g_past : {p : Process} → GuardedAt p answered
    g_back : {p : Process} (latch_up : Bool) → GuardedAt p returning

  -- where a statement is
  pub data At : Process → Mode → Type 0 where
    rests : {p : Process} → At p idle
    at_skip : (m : Mode) → is_idle m ≡ false → At skipping m
    at_assign : {x : ℕ} {at : Span} {e : Formula} (m : Mode) (u : Pairs (gate_count e)) → SiteMay e m u → At (assigning x at e) m
    at_send : {c : ℕ} {at : Span} {e : Formula} (m : Mode) (u : Pairs (gate_count e)) → SiteMay e m u → At (sending c at e) m
    at_receive : {c x : ℕ} {at to : Span} (m : Mode) (k : Bool) (q : Rails) → port_may m k ≡ true → At (receiving c at x to) m
    at_turn : {members : Processes} {m : Mode} → TurnAt members m → At (in_turn members) m
    at_side : {members : Processes} {ks : List Mode} (m : Mode) (t : Bits (joint_count (member_count members))) → BranchesAt members ks
        → SideMay (member_count members) m ks t → At (side_by_side members) m
    at_body : {p : Process} {m : Mode} → At p m → At (repeating p) running
    at_choice : {choices : Choices} {m : Mode} → ChoiceAt false choices m → At (choosing false choices) m
    at_turning : {choices : Choices} {m : Mode} → ChoiceAt true choices m → At (choosing true choices) running
    at_closing : {choices : Choices} {m : Mode} → Closing m → At (choosing true choices) m

  -- where the core of a selection or of a guarded repetition is
  pub data ChoiceAt : Bool → Choices → Mode → Type 0 where
    control_at : {again : Bool} {choices : Choices} {m : Mode} → Control again (choice_count choices) (GuardCells choices) (heads choices) m
        → ChoiceAt again choices m
    inside_at : {again : Bool} {choices : Choices} {m k : Mode} → ChosenAt choices k → Way m k → ChoiceAt again choices m

  -- where its branch is that is under way
  pub data ChosenAt : Choices → Mode → Type 0 where
    this_one : {g : Formula} {p : Process} {more : Choices} {k : Mode} → At p k → ChosenAt (and_choice g p more) k
    another : {g : Formula} {p : Process} {more : Choices} {k : Mode} → ChosenAt more k → ChosenAt (and_choice g p more) k

  -- where branches are, each so far
  pub data BranchesAt : Processes → List Mode → Type 0 where
    no_more : BranchesAt no_members []
    and_at : {p : Process} {more : Processes} {k : Mode} {ks : List Mode} → GuardedAt p k → BranchesAt more ks → BranchesAt (and_member p more) (k ∷ ks)

  -- where a sequence is, from one of its members on
  pub data TurnAt : Processes → Mode → Type 0 where
    turn_rests : {members : Processes} → TurnAt members idle
    at_last : {p : Process} {m : Mode} → At p m → TurnAt (and_member p no_members) m
    at_member : {p q : Process} {more : Processes} → GuardedAt p running → TurnAt (and_member p (and_member q more)) running
    at_later : {p q : Process} {more : Processes} {k n m : Mode} → GuardedAt p k → TurnAt (and_member q more) n → link m k n ≡ true
        → TurnAt (and_member p (and_member q more)) m

abbrev pub guarded_of : {A : Type 0} → (child latch next : Bool) → A → QElementCells A
guarded_of c u b x = record { child = c; latch = u; next = b; inner = x }

abbrev pub site_of : (e : Formula) → Bool → Pairs (gate_count e) → Site (gate_count e)
site_of e a u = record { answer = a; gates = u }

abbrev pub port_of : (answer kept : Bool) → Rails → Port
port_of a k q = record { answer = a; kept = k; taken = q }

abbrev pub ring_of : (p : Process) → Bool → Cells p → Cells (repeating p)
ring_of p b x = record { answer = false; ask = b; inner = x }

abbrev pub turn_of : (p q : Process) (more : Processes) → QElementCells (Cells p) → TurnCells (and_member q more) → TurnCells (and_member p (and_member q more))
turn_of p q more x y = record { member = x; later = y }

abbrev pub sides_of : (members : Processes) → BranchCells members → Bits (joint_count (member_count members)) → Cells (side_by_side members)
sides_of members x t = record { branches = x; tree = t }

-- which branch it is
abbrev pub chosen_index : {choices : Choices} {k : Mode} → ChosenAt choices k → Index (choice_count choices)
chosen_index (this_one a) = top
chosen_index (another a) = under (chosen_index a)

abbrev pub choice_leave : {again : Bool} {choices : Choices} {m : Mode} → ChoiceAt again choices m → Bool
choice_leave (control_at c) = control_leave c
choice_leave (inside_at a w) = false

-- the values of the nodes there
abbrev mutual
  pub guarded_cells : {p : Process} {m : Mode} → GuardedAt p m → QElementCells (Cells p)
  guarded_cells {p = p} g_rests = low_guarded (low p)
  guarded_cells (g_in {m = m} u a h) = guarded_of (asks m) u false (cells a)
  guarded_cells {p = p} g_past = guarded_of false true true (low p)
  guarded_cells {p = p} (g_back u) = guarded_of false u true (low p)

  pub cells : {p : Process} {m : Mode} → At p m → Cells p
  cells {p = p} rests = low p
  cells (at_skip m h) = acks m
  cells (at_assign {e = e} m u h) = site_of e (acks m) u
  cells (at_send {e = e} m u h) = site_of e (acks m) u
  cells (at_receive m k q h) = port_of (acks m) k q
  cells (at_turn t) = turn_cells t
  cells (at_side {members = members} m t b h) = sides_of members (branch_cells b) t
  cells (at_body {p = p} {m = m} a) = ring_of p (asks m) (cells a)
  cells (at_choice x) = choice_cells x
  cells (at_turning {m = m} x) = turning_of false (asks m) (choice_leave x) (choice_cells x)
  cells (at_closing {choices = choices} c) = closing_cells {n = choice_count choices} (low_guards choices) (low_choices choices) c

  pub choice_cells : {again : Bool} {choices : Choices} {m : Mode} → ChoiceAt again choices m
      → Core (choice_count choices) (GuardCells choices) (ChoiceCells choices)
  choice_cells (control_at {choices = choices} c) = control_cells (low_guards choices) (low_choices choices) c
  choice_cells (inside_at {choices = choices} a w) = way_cells (low_guards choices) (chosen_index a) (chosen_cells a) w

  pub chosen_cells : {choices : Choices} {k : Mode} → ChosenAt choices k → ChoiceCells choices
  chosen_cells (this_one {more = more} a) = (cells a, low_choices more)
  chosen_cells (another {p = p} a) = (low p, chosen_cells a)

  pub branch_cells : {members : Processes} {ks : List Mode} → BranchesAt members ks → BranchCells members
  branch_cells no_more = tt
  branch_cells (and_at g b) = (guarded_cells g, branch_cells b)

  pub turn_cells : {members : Processes} {m : Mode} → TurnAt members m → TurnCells members
  turn_cells {members = members} turn_rests = low_turn members
  turn_cells (at_last a) = cells a
  turn_cells (at_member {p = p} {q = q} {more = more} g) = turn_of p q more (guarded_cells g) (low_turn (and_member q more))
  turn_cells (at_later {p = p} {q = q} {more = more} g t h) = turn_of p q more (guarded_cells g) (turn_cells t)

-- What a place shows to what stands apart: whether a site of the line is under way, and whether its acknowledge's rise is
-- then its step (of a receive, which is a site of its variable, it isn't); whether a site's rail is high; whether a receive
-- on the channel is under way, and has stored a value; which variables are read.
pub record Shown : Type 0 where
  pub talk : Line → Bool
  pub says : Line → Bool
  pub offer : Line → Rails
  pub listen : (chan : ℕ) → Bool
  pub take : (chan : ℕ) → Bool
  pub read : (var : ℕ) → Bool

abbrev pub none_shown : Shown
none_shown = record { talk = λ k. false; says = λ k. false; offer = λ k i one. false; listen = λ k. false; take = λ k. false; read = λ x. false }

abbrev pub both_shown : Shown → Shown → Shown
both_shown x y = record {
  talk = λ k. x.talk k || y.talk k;
  says = λ k. x.says k || y.says k;
  offer = λ k i one. x.offer k i one || y.offer k i one;
  listen = λ k. x.listen k || y.listen k;
  take = λ k. x.take k || y.take k;
  read = λ v. x.read v || y.read v;
}

abbrev pub site_shown : Line → (e : Formula) → Pairs (gate_count e) → Shown
site_shown k e u = record {
  talk = λ j. same_line k j;
  says = λ j. same_line k j;
  offer = λ j i one. same_line k j && out_rail e u i one;
  listen = λ j. false;
  take = λ j. false;
  read = λ x. reads x e;
}

abbrev pub port_shown : (c x : ℕ) → (kept : Bool) → Rails → Shown
port_shown c x k q = record {
  talk = λ j. same_line (of_var x) j;
  says = λ j. false;
  offer = λ j i one. same_line (of_var x) j && q i one;
  listen = λ d. c == d;
  take = λ d. (c == d) && k;
  read = λ v. false;
}

-- guards that are asked for read their variables
abbrev pub guards_shown : (asked : Bool) → Choices → Shown
guards_shown e choices = record {
  talk = λ j. false;
  says = λ j. false;
  offer = λ j i one. false;
  listen = λ d. false;
  take = λ d. false;
  read = λ x. e && guards_read choices x;
}

abbrev mutual
  pub guarded_shown : {p : Process} {m : Mode} → GuardedAt p m → Shown
  guarded_shown (g_in u a h) = shown a
  guarded_shown _ = none_shown

  pub shown : {p : Process} {m : Mode} → At p m → Shown
  shown (at_assign {x = x} {e = e} m u h) = site_shown (of_var x) e u
  shown (at_send {c = c} {e = e} m u h) = site_shown (of_channel c) e u
  shown (at_receive {c = c} {x = x} m k q h) = port_shown c x k q
  shown (at_turn t) = turn_shown t
  shown (at_side m t b h) = branches_shown b
  shown (at_body a) = shown a
  shown (at_choice x) = choice_shown x
  shown (at_turning x) = choice_shown x
  shown _ = none_shown

  pub choice_shown : {again : Bool} {choices : Choices} {m : Mode} → ChoiceAt again choices m → Shown
  choice_shown (inside_at a w) = chosen_shown a
  choice_shown (control_at {choices = choices} c) = guards_shown (control_ask c) choices

  pub chosen_shown : {choices : Choices} {k : Mode} → ChosenAt choices k → Shown
  chosen_shown (this_one a) = shown a
  chosen_shown (another a) = chosen_shown a

  pub branches_shown : {members : Processes} {ks : List Mode} → BranchesAt members ks → Shown
  branches_shown no_more = none_shown
  branches_shown (and_at g b) = both_shown (guarded_shown g) (branches_shown b)

  pub turn_shown : {members : Processes} {m : Mode} → TurnAt members m → Shown
  turn_shown (at_last a) = shown a
  turn_shown (at_member g) = guarded_shown g
  turn_shown (at_later g t h) = turn_shown t
  turn_shown turn_rests = none_shown

-- the variable is being written: an assignment to it runs under its low acknowledge, or a receive into it under the
-- channel's
abbrev pub under_way : Mode → (over : Bool) → Bool
under_way running over = not over
under_way _ over = false

abbrev mutual
  pub guarded_writing : {p : Process} {m : Mode} → (Line → Bool) → GuardedAt p m → ℕ → Bool
  guarded_writing ack (g_in u a h) x = writing ack a x
  guarded_writing ack _ x = false

  pub writing : {p : Process} {m : Mode} → (Line → Bool) → At p m → ℕ → Bool
  writing ack (at_assign {x = y} m u h) x = (y == x) && under_way m (ack (of_var y))
  writing ack (at_receive {c = c} {x = y} m k q h) x = (y == x) && under_way m (ack (of_channel c))
  writing ack (at_turn t) x = turn_writing ack t x
  writing ack (at_side m t b h) x = branches_writing ack b x
  writing ack (at_body a) x = writing ack a x
  writing ack (at_choice c) x = choice_writing ack c x
  writing ack (at_turning c) x = choice_writing ack c x
  writing ack _ x = false

  pub choice_writing : {again : Bool} {choices : Choices} {m : Mode} → (Line → Bool) → ChoiceAt again choices m → ℕ → Bool
  choice_writing ack (control_at c) x = false
  choice_writing ack (inside_at a w) x = chosen_writing ack a x

  pub chosen_writing : {choices : Choices} {k : Mode} → (Line → Bool) → ChosenAt choices k → ℕ → Bool
  chosen_writing ack (this_one a) x = writing ack a x
  chosen_writing ack (another a) x = chosen_writing ack a x

  pub branches_writing : {members : Processes} {ks : List Mode} → (Line → Bool) → BranchesAt members ks → ℕ → Bool
  branches_writing ack no_more x = false
  branches_writing ack (and_at g b) x = guarded_writing ack g x || branches_writing ack b x

  pub turn_writing : {members : Processes} {m : Mode} → (Line → Bool) → TurnAt members m → ℕ → Bool
  turn_writing ack (at_last a) x = writing ack a x
  turn_writing ack (at_member g) x = guarded_writing ack g x
  turn_writing ack (at_later g t h) x = turn_writing ack t x
  turn_writing ack turn_rests x = false

-- the acknowledge fits the site that is under way, where all of its rails are up and where none is
abbrev pub send_fits : Mode → (all none ack : Bool) → Bool
send_fits running false n a = not a
send_fits answered f n a = a
send_fits returning f false a = a
send_fits _ _ _ _ = true

-- and the gates are as they may be over the variables' rails
abbrev pub SiteFits : Line → (e : Formula) → Mode → Pairs (gate_count e) → Seen → Type 0
SiteFits k e m u env = (send_fits m (full e u) (empty e u) (env.ack k) ≡ true) × (good (asks m) env.bit e u ≡ true)

-- So far has a receive come, by its node k, the acknowledges of the channel and of the variable, and whether all rails are
-- taken, or none.
abbrev pub port_ends : Mode → (kept ack va full none : Bool) → Bool
port_ends idle k a v f n = false
port_ends running k a v f n = implies a k && (implies k v && implies v f)
port_ends answered k a v f n = k && (a && (v && f))
port_ends returning k a v f n = implies k a && (implies v k && (implies (not v) n && implies (not k) n))

-- Until it has stored it takes no other rail than is there, and from then on it has all that are there.
pub record PortFits (c x : ℕ) (m : Mode) (k : Bool) (q : Rails) (env : Seen) : Type 0 where
  pub ends : port_ends m k (env.ack (of_channel c)) (env.ack (of_var x)) (is_some (value_on (env.width (of_var x)) q))
      (neutral_on (env.width (of_var x)) q) ≡ true
  pub before : k ≡ false → (i : ℕ) (one : Bool) → q i one ≡ true → env.rail (of_channel c) i one ≡ true
  pub behind : k ≡ true → (i : ℕ) (one : Bool) → env.rail (of_channel c) i one ≡ true → q i one ≡ true
  pub within : (i : ℕ) (one : Bool) → q i one ≡ true → i < env.width (of_var x)
  pub single : (i : ℕ) → q i true ≡ true → q i false ≡ true → ⊥

abbrev mutual
  pub GuardedFits : {p : Process} {m : Mode} → GuardedAt p m → Seen → Type 0
  GuardedFits (g_in u a h) env = Fits a env
  GuardedFits _ env = Unit {0}

  pub Fits : {p : Process} {m : Mode} → At p m → Seen → Type 0
  Fits (at_assign {x = x} {e = e} m u h) env = SiteFits (of_var x) e m u env
  Fits (at_send {c = c} {e = e} m u h) env = SiteFits (of_channel c) e m u env
  Fits (at_receive {c = c} {x = x} m k q h) env = PortFits c x m k q env
  Fits (at_turn t) env = TurnFits t env
  Fits (at_side m t b h) env = BranchesFit b env
  Fits (at_body a) env = Fits a env
  Fits (at_choice x) env = ChoiceFits x env
  Fits (at_turning x) env = ChoiceFits x env
  Fits _ env = Unit {0}

  pub ChoiceFits : {again : Bool} {choices : Choices} {m : Mode} → ChoiceAt again choices m → Seen → Type 0
  ChoiceFits (control_at {choices = choices} c) env = guards_good choices env.bit (control_ask c) (control_guards (low_guards choices) c) ≡ true
  ChoiceFits (inside_at a w) env = ChosenFits a env

  pub ChosenFits : {choices : Choices} {k : Mode} → ChosenAt choices k → Seen → Type 0
  ChosenFits (this_one a) env = Fits a env
  ChosenFits (another a) env = ChosenFits a env

  pub BranchesFit : {members : Processes} {ks : List Mode} → BranchesAt members ks → Seen → Type 0
  BranchesFit no_more env = Unit {0}
  BranchesFit (and_at g b) env = GuardedFits g env × BranchesFit b env

  pub TurnFits : {members : Processes} {m : Mode} → TurnAt members m → Seen → Type 0
  TurnFits (at_last a) env = Fits a env
  TurnFits (at_member g) env = GuardedFits g env
  TurnFits (at_later g t h) env = TurnFits t env
  TurnFits turn_rests env = Unit {0}

-- which nodes may move
abbrev pub site_moves : Seen → Line → (e : Formula) → (m : Mode) → Pairs (gate_count e) → SiteSpot e → Bool
site_moves env k e m u done = if acks m then not (env.ack k) else asks m && env.ack k
site_moves env k e m u (gate i one) = one_rule_fires (gate_rule e env.bit (asks m) u i one)

abbrev pub port_moves : Seen → (c x : ℕ) → (m : Mode) → (kept : Bool) → Rails → PortSpot → Bool
port_moves env c x m k q s = one_rule_fires (port_rule (env.rail (of_channel c)) (env.ack (of_channel c)) (env.ack (of_var x)) (asks m) (port_of (acks m) k q)
    s)

abbrev pub choice_own : {again : Bool} {choices : Choices} {m : Mode} → ChoiceAt again choices m → OwnSpot (choice_count choices) → Bool
choice_own (control_at c) s = control_moves c s
choice_own (inside_at a w) s = way_moves w (chosen_index a) s

abbrev pub choice_round : {again : Bool} {choices : Choices} {m : Mode} → ChoiceAt again choices m → RoundSpot → Bool
choice_round (control_at c) s = turning_moves c s
choice_round (inside_at a w) s = way_turning w s

abbrev pub choice_guard : {again : Bool} {choices : Choices} {m : Mode} → Seen → ChoiceAt again choices m → GuardSpot choices → Bool
choice_guard env (control_at {choices = choices} c) s = one_rule_fires (guards_rule choices env.bit (control_ask c) (control_guards (low_guards choices) c) s)
choice_guard env (inside_at a w) s = false

abbrev mutual
  pub guarded_moves : {p : Process} {m : Mode} → Seen → GuardedAt p m → GuardedSpot p → Bool
  guarded_moves env (g_in {m = m} u a h) child = if asks m then u else not u
  guarded_moves env (g_in {m = m} u a h) latch = if u then false else acks m
  guarded_moves env (g_in {m = m} u a h) next = u && not (acks m)
  guarded_moves env (g_in u a h) (inner s) = moves env a s
  guarded_moves env (g_back u) latch = u
  guarded_moves env (g_back u) next = not u
  guarded_moves _ _ _ = false

  pub moves : {p : Process} {m : Mode} → Seen → At p m → Spot p → Bool
  moves env (at_skip m h) of_skip = if acks m then not (asks m) else asks m
  moves env (at_assign {x = x} {e = e} m u h) (of_assign s) = site_moves env (of_var x) e m u s
  moves env (at_send {c = c} {e = e} m u h) (of_send s) = site_moves env (of_channel c) e m u s
  moves env (at_receive {c = c} {x = x} m k q h) (of_receive s) = port_moves env c x m k q s
  moves env (at_turn t) (in_members s) = turn_moves env t s
  moves env (at_side m t b h) (of_branch s) = branch_moves env b s
  moves env (at_side {members = members} {ks = ks} m t b h) (joint k) = joint_moves (member_count members) (ends ks) t k
  moves env (at_body {m = m} a) ask = if asks m then acks m else not (acks m)
  moves env (at_body a) (in_body s) = moves env a s
  moves env (at_choice x) (of_core s) = choice_own x s
  moves env (at_choice x) (of_guard s) = choice_guard env x s
  moves env (at_choice x) (of_choice s) = choice_inner env x s
  moves env (at_turning x) (of_core s) = choice_own x s
  moves env (at_turning x) (of_guard s) = choice_guard env x s
  moves env (at_turning x) (of_choice s) = choice_inner env x s
  moves env (at_turning x) (of_round s) = choice_round x s
  moves env (at_closing c) (of_core s) = closing_own c s
  moves env (at_closing c) (of_round s) = closing_moves c s
  moves _ _ _ = false

  pub choice_inner : {again : Bool} {choices : Choices} {m : Mode} → Seen → ChoiceAt again choices m → ChoiceSpot choices → Bool
  choice_inner env (inside_at a w) s = chosen_moves env a s
  choice_inner _ _ _ = false

  pub chosen_moves : {choices : Choices} {k : Mode} → Seen → ChosenAt choices k → ChoiceSpot choices → Bool
  chosen_moves env (this_one a) (this_choice s) = moves env a s
  chosen_moves env (another a) (other_choice s) = chosen_moves env a s
  chosen_moves _ _ _ = false

  pub branch_moves : {members : Processes} {ks : List Mode} → Seen → BranchesAt members ks → BranchSpot members → Bool
  branch_moves env (and_at g b) (in_this s) = guarded_moves env g s
  branch_moves env (and_at g b) (in_others s) = branch_moves env b s
  branch_moves env no_more s = false

  pub turn_moves : {members : Processes} {m : Mode} → Seen → TurnAt members m → TurnSpot members → Bool
  turn_moves env (at_last a) (in_last s) = moves env a s
  turn_moves env (at_member g) (in_member s) = guarded_moves env g s
  turn_moves env (at_later g t h) (in_member s) = guarded_moves env g s
  turn_moves env (at_later g t h) (in_later s) = turn_moves env t s
  turn_moves _ _ _ = false

-- nothing answers at rest
pub low_end : (members : Processes) (i : ℕ) → branches_answered members (low_branches members) i ≡ false
low_end no_members i = refl
low_end (and_member p more) zero = refl
low_end (and_member p more) (suc i) = low_end more i

low_sides_answer : (members : Processes) → answer (side_by_side members) (low (side_by_side members)) ≡ false
low_sides_answer members =
    let n = member_count members in
    all_low_value n (branches_answered members (low_branches members)) (cell_bit (joint_count n) (low_bits (joint_count n))) (low_end members)
    (low_bit (joint_count n))
    (tree_top (range_with_len 0 n) n)

mutual
  pub low_answer : (p : Process) → answer p (low p) ≡ false
  low_answer skipping = refl
  low_answer (sending c at e) = refl
  low_answer (in_turn members) = low_turn_answer members
  low_answer (repeating p) = refl
  low_answer (assigning x at e) = refl
  low_answer (receiving c at x to) = refl
  low_answer (side_by_side members) = low_sides_answer members
  low_answer (choosing false _) = refl
  low_answer (choosing true _) = refl

  pub low_turn_answer : (members : Processes) → last_answer members (low_turn members) ≡ false
  low_turn_answer no_members = refl
  low_turn_answer (and_member p no_members) = low_answer p
  low_turn_answer (and_member p (and_member q more)) = low_turn_answer (and_member q more)

pub low_choice_answers : (choices : Choices) → choice_answers choices (low_choices choices) ≡ low_bits (choice_count choices)
low_choice_answers no_choices = refl
low_choice_answers (and_choice g p more) = ap (λ (b : Bool). (b, choice_answers more (low_choices more))) (low_answer p)
    ∙ ap (λ (y : Bits (choice_count more)). (false, y)) (low_choice_answers more)

pub next_is : {p : Process} {m : Mode} (g : GuardedAt p m) → (guarded_cells g).next ≡ acks m
next_is g_rests = refl
next_is (g_in u a h) = refl
next_is g_past = refl
next_is (g_back u) = refl

-- what a link says of the modes
pub link_acks : (m k n : Mode) → link m k n ≡ true → acks n ≡ acks m
link_acks running answered running h = refl
link_acks answered answered answered h = refl
link_acks returning returning answered h = refl
link_acks returning idle returning h = refl
link_acks _ _ _ h = absurd (cc h)

pub link_asks : (m k n : Mode) → link m k n ≡ true → asks k ≡ asks m
link_asks running answered running h = refl
link_asks answered answered answered h = refl
link_asks returning returning answered h = refl
link_asks returning idle returning h = refl
link_asks _ _ _ h = absurd (cc h)

pub link_next : (m k n : Mode) → link m k n ≡ true → acks k ≡ asks n
link_next running answered running h = refl
link_next answered answered answered h = refl
link_next returning returning answered h = refl
link_next returning idle returning h = refl
link_next _ _ _ h = absurd (cc h)

pub not_running : (m k n : Mode) → link m k n ≡ true → k ≡ running → ⊥
not_running idle k n h e = cc h
not_running running answered running h e = cc e
not_running answered answered answered h e = cc e
not_running returning returning answered h e = cc e
not_running returning idle returning h e = cc e
not_running _ _ _ h e = absurd (cc h)

-- the ends of branches are those of their modes
pub ends_at : {members : Processes} {ks : List Mode} (b : BranchesAt members ks) (i : ℕ) → branches_answered members (branch_cells b) i ≡ ends ks i
ends_at no_more i = refl
ends_at (and_at g b) zero = next_is g
ends_at (and_at g b) (suc i) = ends_at b i

pub ends_are : {members : Processes} {ks : List Mode} (b : BranchesAt members ks) → branches_answered members (branch_cells b) ≡ ends ks
ends_are b = fun_ext (λ i. ends_at b i)

control_acks : {again : Bool} {n : ℕ} {G : Type 0} {hs : G → Pairs n} {m : Mode} → Control again n G hs m → false ≡ acks m
control_acks uncalled = refl
control_acks called = refl
control_acks (evaluating g) = refl
control_acks (latched l i g h) = refl
control_acks (leaving y l g h) = refl

-- the answer of a place is that of its mode
mutual
  pub answer_is : {p : Process} {m : Mode} (a : At p m) → answer p (cells a) ≡ acks m
  answer_is {p = p} rests = low_answer p
  answer_is (at_skip m h) = refl
  answer_is (at_assign m u h) = refl
  answer_is (at_send m u h) = refl
  answer_is (at_receive m k q h) = refl
  answer_is (at_turn t) = turn_answer_is t
  answer_is (at_side {members = members} m t b h) =
      ap (λ (f : ℕ → Bool). tree_answer (member_count members) f (cell_bit (joint_count (member_count members)) t))
      (ends_are b) ∙ h.top
  answer_is (at_body a) = refl
  answer_is (at_choice (control_at c)) = control_acks c
  answer_is (at_choice (inside_at a w)) = refl
  answer_is (at_turning x) = refl
  answer_is (at_closing c) = refl

  pub turn_answer_is : {members : Processes} {m : Mode} (t : TurnAt members m) → last_answer members (turn_cells t) ≡ acks m
  turn_answer_is {members = members} turn_rests = low_turn_answer members
  turn_answer_is (at_last a) = answer_is a
  turn_answer_is (at_member {q = q} {more = more} g) = low_turn_answer (and_member q more)
  turn_answer_is (at_later {k = k} {n = n} {m = m} g t h) = turn_answer_is t ∙ link_acks m k n h

pub chosen_answers : {choices : Choices} {k : Mode} (a : ChosenAt choices k) → choice_answers choices (chosen_cells a) ≡ hot (chosen_index a) (acks k)
chosen_answers (this_one {more = more} {k = k} a) = ap (λ (b : Bool). (b, choice_answers more (low_choices more))) (answer_is a)
    ∙ ap (λ (y : Bits (choice_count more)). (acks k, y)) (low_choice_answers more)
chosen_answers (another {p = p} {more = more} a) = ap (λ (b : Bool). (b, choice_answers more (chosen_cells a))) (low_answer p)
    ∙ ap (λ (y : Bits (choice_count more)). (false, y)) (chosen_answers a)

-- nothing can move where the handshake rests
low_site_quiet : (e : Formula) (bits : ℕ → Rails) (ack : Bool) (s : SiteSpot e) → one_rule_fires (site_rule e bits ack false (low_site e) s) ≡ false
low_site_quiet e bits ack done = refl
low_site_quiet e bits ack (gate i one) = low_gate_quiet e bits i one

low_port_quiet : (rail : Rails) (ack va : Bool) (s : PortSpot) → one_rule_fires (port_rule rail ack va false low_port s) ≡ false
low_port_quiet rail ack va heard = refl
low_port_quiet rail ack va stored = refl
low_port_quiet rail ack va (taking i one) = refl

-- nor do gates of guards, whose heads are low
pub low_guards_quiet : (choices : Choices) (bits : ℕ → Rails) (s : GuardSpot choices) →
    one_rule_fires (guards_rule choices bits false (low_guards choices) s) ≡ false
low_guards_quiet (and_choice g p more) bits (this_gate i one) = low_gate_quiet g bits i one
low_guards_quiet (and_choice g p more) bits (other_gate s) = low_guards_quiet more bits s
low_guards_quiet no_choices bits s = elim s [ ]

low_head : (e : Formula) → guard_head e (low_pairs (gate_count e)) ≡ levels_of false false
low_head e = ap (λ b. levels_of b (out_rail e (low_pairs (gate_count e)) 0 false)) (low_out e 0 true) ∙ ap (λ b. levels_of false b) (low_out e 0 false)

pub low_neutral : (choices : Choices) → all_neutral (choice_count choices) (heads choices (low_guards choices)) ≡ true
low_neutral no_choices = refl
low_neutral (and_choice g p more) = ap (λ (h : RailLevels). not h.t && (not h.f && all_neutral (choice_count more) (heads more (low_guards more)))) (low_head g)
    ∙ low_neutral more

-- of a core at rest, as of one that isn't asked
low_core_quiet : (choices : Choices) (s : OwnSpot (choice_count choices))
    → one_rule_fires (core_rule false false (heads choices (low_guards choices)) (choice_answers choices (low_choices choices))
    (low_core choices (low_choices choices))
    s)
    ≡ false
low_core_quiet choices s =
    ap (λ (y : Bits (choice_count choices)). one_rule_fires
    (core_rule false false (heads choices (low_guards choices)) y (low_core choices (low_choices choices)) s))
    (low_choice_answers choices)
    ∙ control_can_is {again = false} {heads = heads choices} (low_guards choices) (low_choices choices) (low_neutral choices) uncalled s

low_round_quiet : (choices : Choices) (s : RoundSpot)
    → one_rule_fires (turning_rule false (heads choices (low_guards choices)) (turning_of false false false (low_core choices (low_choices choices))) s) ≡ false
low_round_quiet choices of_answer = refl
low_round_quiet choices of_turn = refl
low_round_quiet choices of_leave = neutral_over (choice_count choices) (heads choices (low_guards choices)) (low_neutral choices)

mutual
  pub low_guarded_quiet : (p : Process) (env : Seen) (s : GuardedSpot p) → one_rule_fires (guarded_rule p env false (low_guarded (low p)) s) ≡ false
  low_guarded_quiet p env child = refl
  low_guarded_quiet p env latch = low_answer p
  low_guarded_quiet p env next = refl
  low_guarded_quiet p env (inner s) = low_quiet p env s

  pub low_quiet : (p : Process) (env : Seen) (s : Spot p) → one_rule_fires (rule p env false (low p) s) ≡ false
  low_quiet skipping env of_skip = refl
  low_quiet (assigning x at e) env (of_assign s) = low_site_quiet e env.bit (env.ack (of_var x)) s
  low_quiet (sending c at e) env (of_send s) = low_site_quiet e env.bit (env.ack (of_channel c)) s
  low_quiet (in_turn members) env (in_members s) = low_turn_quiet members env s
  low_quiet (repeating p) env of_loop = refl
  low_quiet (repeating p) env ask = refl
  low_quiet (repeating p) env (in_body s) = low_quiet p env s
  low_quiet (receiving c at x to) env (of_receive s) = low_port_quiet (env.rail (of_channel c)) (env.ack (of_channel c)) (env.ack (of_var x)) s
  low_quiet (side_by_side members) env (of_branch s) = low_branch_quiet members env s
  low_quiet (side_by_side members) env (joint k) =
      let n = member_count members in
      joint_quiet n (branches_answered members (low_branches members)) (cell_bit (joint_count n) (low_bits (joint_count n))) (low_end members)
      (low_bit (joint_count n)) k
  low_quiet (choosing false choices) env (of_core s) = low_core_quiet choices s
  low_quiet (choosing false choices) env (of_guard s) = low_guards_quiet choices env.bit s
  low_quiet (choosing false choices) env (of_choice s) = low_choice_quiet choices env s
  low_quiet (choosing true choices) env (of_core s) = low_core_quiet choices s
  low_quiet (choosing true choices) env (of_guard s) = low_guards_quiet choices env.bit s
  low_quiet (choosing true choices) env (of_choice s) = low_choice_quiet choices env s
  low_quiet (choosing true choices) env (of_round s) = low_round_quiet choices s

  pub low_choice_quiet : (choices : Choices) (env : Seen) (s : ChoiceSpot choices)
      → one_rule_fires (choice_rule choices env (low_bits (choice_count choices)) (low_choices choices) s) ≡ false
  low_choice_quiet no_choices env s = refl
  low_choice_quiet (and_choice g p more) env (this_choice s) = low_quiet p env s
  low_choice_quiet (and_choice g p more) env (other_choice s) = low_choice_quiet more env s

  pub low_branch_quiet : (members : Processes) (env : Seen) (s : BranchSpot members) →
      one_rule_fires (branch_rule members env false (low_branches members) s) ≡ false
  low_branch_quiet no_members env s = refl
  low_branch_quiet (and_member p more) env (in_this s) = low_guarded_quiet p env s
  low_branch_quiet (and_member p more) env (in_others s) = low_branch_quiet more env s

  pub low_turn_quiet : (members : Processes) (env : Seen) (s : TurnSpot members) → one_rule_fires (turn_rule members env false (low_turn members) s) ≡ false
  low_turn_quiet no_members env s = refl
  low_turn_quiet (and_member p no_members) env (in_last s) = low_quiet p env s
  low_turn_quiet (and_member p (and_member q more)) env (in_member s) = low_guarded_quiet p env s
  low_turn_quiet (and_member p (and_member q more)) env (in_later s) = low_turn_quiet (and_member q more) env s

-- the rules allow what a place says
site_can_is : (env : Seen) (k : Line) (e : Formula) (m : Mode) (u : Pairs (gate_count e)) (s : SiteSpot e)
    → one_rule_fires (site_rule e env.bit (env.ack k) (asks m) (site_of e (acks m) u) s) ≡ site_moves env k e m u s
site_can_is env k e m u done = refl
site_can_is env k e m u (gate i one) = refl

pub no_leave : {choices : Choices} {m : Mode} (x : ChoiceAt false choices m) → choice_leave x ≡ false
no_leave (control_at uncalled) = refl
no_leave (control_at called) = refl
no_leave (control_at (evaluating g)) = refl
no_leave (control_at (latched l i g h)) = refl
no_leave (control_at (leaving y l g h)) = absurd (cc y)
no_leave (inside_at a w) = refl

-- of the own nodes of a core, and of those round it
choice_own_is : {again : Bool} {choices : Choices} {m : Mode} (x : ChoiceAt again choices m) (s : OwnSpot (choice_count choices))
    → one_rule_fires (core_rule (asks m) (choice_leave x) (heads choices (choice_cells x).guards) (choice_answers choices (choice_cells x).branches)
    (choice_cells x) s)
    ≡ choice_own x s
choice_own_is {choices = choices} {m = m} (control_at c) s =
    ap (λ (y : Bits (choice_count choices)). one_rule_fires (core_rule (asks m) (control_leave c) (heads choices (control_guards (low_guards choices) c)) y
    (control_cells (low_guards choices) (low_choices choices) c) s)) (low_choice_answers choices)
    ∙ control_can_is (low_guards choices) (low_choices choices) (low_neutral choices) c s
choice_own_is {choices = choices} {m = m} (inside_at a w) s =
    ap (λ (y : Bits (choice_count choices)). one_rule_fires (core_rule (asks m) false (heads choices (low_guards choices)) y
    (way_cells (low_guards choices) (chosen_index a) (chosen_cells a) w) s)) (chosen_answers a)
    ∙ way_can_is (low_guards choices) (heads choices (low_guards choices)) (chosen_cells a) (low_neutral choices) w (chosen_index a) s

choice_round_is : {again : Bool} {choices : Choices} {m : Mode} (x : ChoiceAt again choices m) (s : RoundSpot)
    → one_rule_fires (turning_rule true (heads choices (choice_cells x).guards) (turning_of false (asks m) (choice_leave x) (choice_cells x)) s) ≡
    choice_round x s
choice_round_is {choices = choices} (control_at c) s = turning_can_is (low_guards choices) (low_choices choices) (low_neutral choices) c s
choice_round_is {choices = choices} (inside_at a w) s =
    way_turning_is (low_guards choices) (heads choices (low_guards choices)) (chosen_cells a) (low_neutral choices) w (chosen_index a) s

choice_guard_is : {again : Bool} {choices : Choices} {m : Mode} (env : Seen) (x : ChoiceAt again choices m) (s : GuardSpot choices)
    → one_rule_fires (guards_rule choices env.bit (choice_cells x).ask (choice_cells x).guards s) ≡ choice_guard env x s
choice_guard_is env (control_at c) s = refl
choice_guard_is {choices = choices} env (inside_at a w) s = low_guards_quiet choices env.bit s

closing_is : (choices : Choices) {m : Mode} (c : Closing m) (s : OwnSpot (choice_count choices))
    → one_rule_fires (core_rule (closing_turn c) (closing_leave c) (heads choices (low_guards choices)) (choice_answers choices (low_choices choices))
    (core_of false false (closing_any c) (low_bits (choice_count choices)) (low_bits (choice_count choices)) (low_guards choices) (low_choices choices)) s)
    ≡ closing_own c s
closing_is choices c s =
    ap (λ (y : Bits (choice_count choices)). one_rule_fires (core_rule (closing_turn c) (closing_leave c) (heads choices (low_guards choices)) y
    (core_of {B = ChoiceCells choices} false false (closing_any c) (low_bits (choice_count choices)) (low_bits (choice_count choices)) (low_guards choices)
    (low_choices choices)) s)) (low_choice_answers choices)
    ∙ closing_own_is (low_guards choices) (heads choices (low_guards choices)) (low_choices choices) (low_neutral choices) c s

mutual
  pub guarded_can_is : {p : Process} {m : Mode} (env : Seen) (g : GuardedAt p m) (s : GuardedSpot p)
      → one_rule_fires (guarded_rule p env (asks m) (guarded_cells g) s) ≡ guarded_moves env g s
  guarded_can_is {p = p} env g_rests s = low_guarded_quiet p env s
  guarded_can_is env (g_in {m = m} u a h) child = refl
  guarded_can_is env (g_in {m = m} u a h) latch = ap (λ d. if u then false else d) (answer_is a)
  guarded_can_is env (g_in {m = m} u a h) next = ap (λ d. u && not d) (answer_is a)
  guarded_can_is env (g_in u a h) (inner s) = can_is env a s
  guarded_can_is {p = p} env g_past child = refl
  guarded_can_is {p = p} env g_past latch = refl
  guarded_can_is {p = p} env g_past next = refl
  guarded_can_is {p = p} env g_past (inner s) = low_quiet p env s
  guarded_can_is {p = p} env (g_back u) child = refl
  guarded_can_is {p = p} env (g_back u) latch = ap (λ d. if u then true else d) (low_answer p) ∙ here u
    where
      here : (u : Bool) → (if u then true else false) ≡ u
      here true = refl
      here false = refl
  guarded_can_is {p = p} env (g_back u) next = refl
  guarded_can_is {p = p} env (g_back u) (inner s) = low_quiet p env s

  pub can_is : {p : Process} {m : Mode} (env : Seen) (a : At p m) (s : Spot p) → one_rule_fires (rule p env (asks m) (cells a) s) ≡ moves env a s
  can_is {p = p} env rests s = low_quiet p env s
  can_is env (at_skip m h) of_skip = refl
  can_is env (at_assign {x = x} {e = e} m u h) (of_assign s) = site_can_is env (of_var x) e m u s
  can_is env (at_send {c = c} {e = e} m u h) (of_send s) = site_can_is env (of_channel c) e m u s
  can_is env (at_receive m k q h) (of_receive s) = refl
  can_is env (at_turn t) (in_members s) = turn_can_is env t s
  can_is env (at_side m t b h) (of_branch s) = branch_can_is env (asks m) b h.asked s
  can_is env (at_side {members = members} m t b h) (joint k) = ap (λ (f : ℕ → Bool). one_rule_fires
      (tree_rule (member_count members) f (cell_bit (joint_count (member_count members)) t) k)) (ends_are b)
  can_is env (at_body a) of_loop = refl
  can_is env (at_body {m = m} a) ask = ap (λ d. if asks m then d else not d) (answer_is a)
  can_is env (at_body a) (in_body s) = can_is env a s
  can_is {m = m} env (at_choice {choices = choices} x) (of_core s) =
      ap (λ v. one_rule_fires (core_rule (asks m) v (heads choices (choice_cells x).guards) (choice_answers choices (choice_cells x).branches) (choice_cells x)
      s))
      (sym (no_leave x)) ∙ choice_own_is x s
  can_is env (at_choice x) (of_guard s) = choice_guard_is env x s
  can_is env (at_choice x) (of_choice s) = choice_inner_is env x s
  can_is env (at_turning {m = m} x) (of_core s) = choice_own_is x s
  can_is env (at_turning x) (of_guard s) = choice_guard_is env x s
  can_is env (at_turning x) (of_choice s) = choice_inner_is env x s
  can_is env (at_turning x) (of_round s) = choice_round_is x s
  can_is env (at_closing {choices = choices} c) (of_core s) = closing_is choices c s
  can_is env (at_closing {choices = choices} c) (of_guard s) = low_guards_quiet choices env.bit s
  can_is env (at_closing {choices = choices} c) (of_choice s) = low_choice_quiet choices env s
  can_is env (at_closing {choices = choices} c) (of_round s) =
      closing_can_is (choice_count choices) (low_guards choices) (heads choices (low_guards choices)) (low_choices choices) (low_neutral choices) c s

  pub choice_inner_is : {again : Bool} {choices : Choices} {m : Mode} (env : Seen) (x : ChoiceAt again choices m) (s : ChoiceSpot choices)
      → one_rule_fires (choice_rule choices env (choice_cells x).started (choice_cells x).branches s) ≡ choice_inner env x s
  choice_inner_is {choices = choices} env (control_at c) s = low_choice_quiet choices env s
  choice_inner_is env (inside_at a w) s = chosen_can_is env a s

  pub chosen_can_is : {choices : Choices} {k : Mode} (env : Seen) (a : ChosenAt choices k) (s : ChoiceSpot choices)
      → one_rule_fires (choice_rule choices env (hot (chosen_index a) (asks k)) (chosen_cells a) s) ≡ chosen_moves env a s
  chosen_can_is env (this_one a) (this_choice s) = can_is env a s
  chosen_can_is env (this_one {more = more} a) (other_choice s) = low_choice_quiet more env s
  chosen_can_is env (another {p = p} a) (this_choice s) = low_quiet p env s
  chosen_can_is env (another a) (other_choice s) = chosen_can_is env a s

  pub branch_can_is : {members : Processes} {ks : List Mode} (env : Seen) (r : Bool) (b : BranchesAt members ks) → all_ask r ks ≡ true
      → (s : BranchSpot members) → one_rule_fires (branch_rule members env r (branch_cells b) s) ≡ branch_moves env b s
  branch_can_is env r no_more h s = refl
  branch_can_is env r (and_at {p = p} {k = k} g b) h (in_this s) = ap (λ x. one_rule_fires (guarded_rule p env x (guarded_cells g) s))
      (sym (same_value (asks k) r (fst_true _ _ h))) ∙ guarded_can_is env g s
  branch_can_is env r (and_at g b) h (in_others s) = branch_can_is env r b (snd_true _ _ h) s

  pub turn_can_is : {members : Processes} {m : Mode} (env : Seen) (t : TurnAt members m) (s : TurnSpot members)
      → one_rule_fires (turn_rule members env (asks m) (turn_cells t) s) ≡ turn_moves env t s
  turn_can_is {members = members} env turn_rests s = low_turn_quiet members env s
  turn_can_is env (at_last a) (in_last s) = can_is env a s
  turn_can_is env (at_member g) (in_member s) = guarded_can_is env g s
  turn_can_is env (at_member {q = q} {more = more} g) (in_later s) =
      ap (λ b. one_rule_fires (turn_rule (and_member q more) env b (low_turn (and_member q more)) s))
      (next_is g) ∙ low_turn_quiet (and_member q more) env s
  turn_can_is env (at_later {p = p} {k = k} {n = n} {m = m} g t h) (in_member s) = ap (λ b. one_rule_fires (guarded_rule p env b (guarded_cells g) s))
      (sym (link_asks m k n h)) ∙ guarded_can_is env g s
  turn_can_is env (at_later {q = q} {more = more} {k = k} {n = n} {m = m} g t h) (in_later s) = ap
      (λ b. one_rule_fires (turn_rule (and_member q more) env b (turn_cells t) s)) (next_is g ∙ link_next m k n h) ∙ turn_can_is env t s
