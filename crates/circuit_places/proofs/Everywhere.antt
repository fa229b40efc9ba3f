-- What is seen of a place from elsewhere, and one induction over all places: what is said of that, and of the values of the nodes there, goes up from
-- the parts of a statement to the statement, construct by construct.
use Rattle.std.proofs.Common.{◌≡◌, ℕ, ◌==◌, Bool, true, false, List, refl, sym, ◌∙◌, subst}
use Rattle.std.specs.Prelude.{◌&&◌, ◌||◌}
use Rattle.chp_base.specs.declared.span.Span.{Span}
use Rattle.width_check.specs.Processes.{Formula, Process, skipping, assigning, sending, receiving, in_turn, side_by_side, choosing, repeating, Processes, no_members, and_member, member_count, Choices, and_choice, choice_count}
use Rattle.circuit_places.specs.Lines.{Line, of_channel, of_var, Rails, Seen}
use Rattle.circuit_places.specs.Heads.{hot}
use Rattle.circuit_places.specs.Cores.{Turning, turning_of}
use Rattle.circuit_places.specs.Circuit.{Pairs, gate_count, Bits, joint_count, QElementCells, Core, GuardCells, Cells, TurnCells, BranchCells, ChoiceCells, low, low_bits, low_turn, low_guards, low_choices, guards_good}
use Rattle.circuit_places.proofs.CoreControl.{control_ask, control_guards, closing_cells}
use Rattle.circuit_places.proofs.Places.{Mode, running, asks, acks, SiteMay, SiteFits, port_may, PortFits, under_way, GuardedAt, At, TurnAt, BranchesAt, ChoiceAt, ChosenAt, g_rests, g_in, g_past, g_back, rests, at_skip, at_assign, at_send, at_receive, at_turn, at_side, at_body, at_choice, at_turning, at_closing, control_at, inside_at, this_one, another, no_more, and_at, turn_rests, at_last, at_member, at_later, site_of, port_of, ring_of, turn_of, sides_of, chosen_index, choice_leave, guarded_cells, cells, choice_cells, chosen_cells, branch_cells, turn_cells, next_is, not_running, link_next, Shown, none_shown, both_shown, site_shown, port_shown, guards_shown, guarded_shown, shown, choice_shown, chosen_shown, branches_shown, turn_shown, guarded_writing, writing, choice_writing, chosen_writing, branches_writing, turn_writing, GuardedFits, Fits, ChoiceFits, ChosenFits, BranchesFit, TurnFits}

-- what it shows, which variables are being written there, and whether acknowledges and rails fit it
pub record View : Type 1 where
  pub shown : Shown
  pub writing : (Line → Bool) → ℕ → Bool
  pub fits : Seen → Type 0

abbrev pub view_of : Shown → ((Line → Bool) → ℕ → Bool) → (Seen → Type 0) → View
view_of s w f = record { shown = s; writing = w; fits = f }

-- nothing is under way; the guards are evaluated; so are sites and ports; two branches
abbrev pub silence : (Seen → Type 0) → View
silence f = view_of none_shown (λ ack x. false) f

abbrev pub asking : Bool → Choices → (Seen → Type 0) → View
asking asked choices f = view_of (guards_shown asked choices) (λ ack x. false) f

abbrev pub assigned : ℕ → (e : Formula) → Mode → Pairs (gate_count e) → View
assigned x e m u = view_of (site_shown (of_var x) e u) (λ ack y. (x == y) && under_way m (ack (of_var x))) (λ env. SiteFits (of_var x) e m u env)

abbrev pub sent : ℕ → (e : Formula) → Mode → Pairs (gate_count e) → View
sent c e m u = view_of (site_shown (of_channel c) e u) (λ ack y. false) (λ env. SiteFits (of_channel c) e m u env)

abbrev pub received : (c x : ℕ) → Mode → Bool → Rails → View
received c x m k q = view_of (port_shown c x k q) (λ ack y. (x == y) && under_way m (ack (of_channel c))) (λ env. PortFits c x m k q env)

abbrev pub both_seen : View → View → View
both_seen v w = view_of (both_shown v.shown w.shown) (λ ack x. v.writing ack x || w.writing ack x) (λ env. v.fits env × w.fits env)

abbrev pub guarded_view : {p : Process} {m : Mode} → GuardedAt p m → View
guarded_view g = view_of (guarded_shown g) (λ ack x. guarded_writing ack g x) (λ env. GuardedFits g env)

abbrev pub view : {p : Process} {m : Mode} → At p m → View
view a = view_of (shown a) (λ ack x. writing ack a x) (λ env. Fits a env)

abbrev pub choice_view : {again : Bool} {choices : Choices} {m : Mode} → ChoiceAt again choices m → View
choice_view z = view_of (choice_shown z) (λ ack x. choice_writing ack z x) (λ env. ChoiceFits z env)

abbrev pub chosen_view : {choices : Choices} {k : Mode} → ChosenAt choices k → View
chosen_view a = view_of (chosen_shown a) (λ ack x. chosen_writing ack a x) (λ env. ChosenFits a env)

abbrev pub branches_view : {members : Processes} {ks : List Mode} → BranchesAt members ks → View
branches_view b = view_of (branches_shown b) (λ ack x. branches_writing ack b x) (λ env. BranchesFit b env)

abbrev pub turn_view : {members : Processes} {m : Mode} → TurnAt members m → View
turn_view t = view_of (turn_shown t) (λ ack x. turn_writing ack t x) (λ env. TurnFits t env)

-- What is said of a statement, its request, the values of its nodes and the view of a place in it; of a sequence from one of its members on; of
-- branches; of the arms of a selection, by which of them are started; and of its core.
pub record GoesUp (R : (p : Process) → Bool → Cells p → View → Type 0) (T : (members : Processes) → Bool → TurnCells members → View → Type 0)
    (B : (members : Processes) → BranchCells members → View → Type 0)
    (C D : (choices : Choices) → Bits (choice_count choices) → ChoiceCells choices → View → Type 0) : Type 1 where
  pub silent : (p : Process) (f : Seen → Type 0) → R p false (low p) (silence f)
  pub skip : (r a : Bool) (f : Seen → Type 0) → R skipping r a (silence f)
  pub assign : (x : ℕ) (at : Span) (e : Formula) (m : Mode) (u : Pairs (gate_count e)) → SiteMay e m u
      → R (assigning x at e) (asks m) (site_of e (acks m) u) (assigned x e m u)
  pub send : (c : ℕ) (at : Span) (e : Formula) (m : Mode) (u : Pairs (gate_count e)) → SiteMay e m u
      → R (sending c at e) (asks m) (site_of e (acks m) u) (sent c e m u)
  pub receive : (c x : ℕ) (at to : Span) (m : Mode) (k : Bool) (q : Rails) → port_may m k ≡ true
      → R (receiving c at x to) (asks m) (port_of (acks m) k q) (received c x m k q)
  pub turn : (members : Processes) (r : Bool) (x : TurnCells members) (v : View) → T members r x v → R (in_turn members) r x v
  pub turn_silent : (members : Processes) (f : Seen → Type 0) → T members false (low_turn members) (silence f)
  pub last : (p : Process) (r : Bool) (x : Cells p) (v : View) → R p r x v → T (and_member p no_members) r x v
  pub first : (p q : Process) (more : Processes) (r : Bool) (x : QElementCells (Cells p)) (v : View) → x.next ≡ false → R p x.child x.inner v
      → T (and_member p (and_member q more)) r (turn_of p q more x (low_turn (and_member q more))) v
  pub later : (p q : Process) (more : Processes) (r : Bool) (x : QElementCells (Cells p)) (y : TurnCells (and_member q more)) (v : View)
      → ((f : Seen → Type 0) → R p x.child x.inner (silence f)) → T (and_member q more) x.next y v
      → T (and_member p (and_member q more)) r (turn_of p q more x y) v
  pub side : (members : Processes) (r : Bool) (x : BranchCells members) (t : Bits (joint_count (member_count members))) (v : View) → B members x v
      → R (side_by_side members) r (sides_of members x t) v
  pub none : (f : Seen → Type 0) → B no_members tt (silence f)
  pub beside : {p : Process} {more : Processes} {k : Mode} {ks : List Mode} (g : GuardedAt p k) (b : BranchesAt more ks)
      → R p (guarded_cells g).child (guarded_cells g).inner (guarded_view g) → B more (branch_cells b) (branches_view b)
      → B (and_member p more) (guarded_cells g, branch_cells b) (both_seen (guarded_view g) (branches_view b))
  pub body : (p : Process) (r b : Bool) (x : Cells p) (v : View) → R p b x v → R (repeating p) r (ring_of p b x) v
  pub choice : (choices : Choices) (r : Bool) (x : Core (choice_count choices) (GuardCells choices) (ChoiceCells choices)) (v : View)
      → D choices x.started x.branches v → R (choosing false choices) r x v
  pub turning : (choices : Choices) (r : Bool) (x : Turning (Core (choice_count choices) (GuardCells choices) (ChoiceCells choices))) (v : View)
      → D choices x.core.started x.core.branches v → R (choosing true choices) r x v
  pub guards : (choices : Choices) (asked : Bool) (f : Seen → Type 0)
      → D choices (low_bits (choice_count choices)) (low_choices choices) (asking asked choices f)
  pub inside : (choices : Choices) (s : Bits (choice_count choices)) (y : ChoiceCells choices) (v : View) → C choices s y v → D choices s y v
  pub this : (g : Formula) (p : Process) (more : Choices) (r : Bool) (x : Cells p) (v : View) → R p r x v
      → C (and_choice g p more) (r, low_bits (choice_count more)) (x, low_choices more) v
  pub others : (g : Formula) (p : Process) (more : Choices) (s : Bits (choice_count more)) (y : ChoiceCells more) (v : View) → C more s y v
      → C (and_choice g p more) (false, s) (low p, y) v

module _ (R : (p : Process) → Bool → Cells p → View → Type 0) (T : (members : Processes) → Bool → TurnCells members → View → Type 0)
    (B : (members : Processes) → BranchCells members → View → Type 0)
    (C D : (choices : Choices) → Bits (choice_count choices) → ChoiceCells choices → View → Type 0) (up : GoesUp R T B C D) where
  -- behind a member that isn't under way nothing is
  past : {p : Process} {m : Mode} (g : GuardedAt p m) → (m ≡ running → ⊥) → (f : Seen → Type 0)
      → R p (guarded_cells g).child (guarded_cells g).inner (silence f)
  past {p = p} g_rests ne f = up.silent p f
  past (g_in u a h) ne f = absurd (ne refl)
  past {p = p} g_past ne f = up.silent p f
  past {p = p} (g_back u) ne f = up.silent p f

  mutual
    pub guarded_everywhere : {p : Process} {m : Mode} (g : GuardedAt p m) → R p (guarded_cells g).child (guarded_cells g).inner (guarded_view g)
    guarded_everywhere (g_in u a h) = everywhere a
    guarded_everywhere {p = p} g_rests = up.silent p (λ env. Unit {0})
    guarded_everywhere {p = p} g_past = up.silent p (λ env. Unit {0})
    guarded_everywhere {p = p} (g_back u) = up.silent p (λ env. Unit {0})

    pub everywhere : {p : Process} {m : Mode} (a : At p m) → R p (asks m) (cells a) (view a)
    everywhere (at_assign {x = x} {at = at} {e = e} m u h) = up.assign x at e m u h
    everywhere (at_send {c = c} {at = at} {e = e} m u h) = up.send c at e m u h
    everywhere (at_receive {c = c} {x = x} {at = at} {to = to} m k q h) = up.receive c x at to m k q h
    everywhere (at_turn {members = members} {m = m} t) = up.turn members (asks m) (turn_cells t) (turn_view t) (turn_everywhere t)
    everywhere (at_side {members = members} m t b h) = up.side members (asks m) (branch_cells b) t (branches_view b) (branches_everywhere b)
    everywhere (at_body {p = p} {m = m} a) = up.body p true (asks m) (cells a) (view a) (everywhere a)
    everywhere (at_choice {choices = choices} {m = m} z) = up.choice choices (asks m) (choice_cells z) (choice_view z) (choice_everywhere z)
    everywhere (at_turning {choices = choices} {m = m} z) =
        up.turning choices true (turning_of false (asks m) (choice_leave z) (choice_cells z)) (choice_view z) (choice_everywhere z)
    everywhere (at_closing {choices = choices} {m = m} z) =
        up.turning choices (asks m) (closing_cells {n = choice_count choices} (low_guards choices) (low_choices choices) z) (silence (λ env. Unit {0}))
        (up.guards choices false (λ env. Unit {0}))
    everywhere {p = p} rests = up.silent p (λ env. Unit {0})
    everywhere (at_skip m h) = up.skip (asks m) (acks m) (λ env. Unit {0})

    choice_everywhere : {again : Bool} {choices : Choices} {m : Mode} (z : ChoiceAt again choices m)
        → D choices (choice_cells z).started (choice_cells z).branches (choice_view z)
    choice_everywhere (control_at {choices = choices} z) =
        up.guards choices (control_ask z) (λ env. guards_good choices env.bit (control_ask z) (control_guards (low_guards choices) z) ≡ true)
    choice_everywhere (inside_at {choices = choices} {k = k} a w) =
        up.inside choices (hot (chosen_index a) (asks k)) (chosen_cells a) (chosen_view a) (chosen_everywhere a)

    chosen_everywhere : {choices : Choices} {k : Mode} (a : ChosenAt choices k) → C choices (hot (chosen_index a) (asks k)) (chosen_cells a) (chosen_view a)
    chosen_everywhere (this_one {g = g} {p = p} {more = more} {k = k} a) = up.this g p more (asks k) (cells a) (view a) (everywhere a)
    chosen_everywhere (another {g = g} {p = p} {more = more} {k = k} a) =
        up.others g p more (hot (chosen_index a) (asks k)) (chosen_cells a) (chosen_view a) (chosen_everywhere a)

    pub branches_everywhere : {members : Processes} {ks : List Mode} (b : BranchesAt members ks) → B members (branch_cells b) (branches_view b)
    branches_everywhere no_more = up.none (λ env. Unit {0})
    branches_everywhere (and_at g b) = up.beside g b (guarded_everywhere g) (branches_everywhere b)

    turn_everywhere : {members : Processes} {m : Mode} (t : TurnAt members m) → T members (asks m) (turn_cells t) (turn_view t)
    turn_everywhere (at_last {p = p} {m = m} a) = up.last p (asks m) (cells a) (view a) (everywhere a)
    turn_everywhere (at_member {p = p} {q = q} {more = more} g) =
        up.first p q more true (guarded_cells g) (guarded_view g) (next_is g) (guarded_everywhere g)
    turn_everywhere (at_later {p = p} {q = q} {more = more} {k = k} {n = n} {m = m} g t h) =
        up.later p q more (asks m) (guarded_cells g) (turn_cells t) (turn_view t) (past g (not_running m k n h))
        (subst (λ (r : Bool). T (and_member q more) r (turn_cells t) (turn_view t)) (sym (next_is g ∙ link_next m k n h)) (turn_everywhere t))
    turn_everywhere {members = members} turn_rests = up.turn_silent members (λ env. Unit {0})

-- what is said of the view alone
pub record IsSeen (Q : View → Type 0) : Type 1 where
  pub silent : (f : Seen → Type 0) → Q (silence f)
  pub guards : (asked : Bool) (choices : Choices) (f : Seen → Type 0) → Q (asking asked choices f)
  pub assign : (x : ℕ) (e : Formula) (m : Mode) (u : Pairs (gate_count e)) → SiteMay e m u → Q (assigned x e m u)
  pub send : (c : ℕ) (e : Formula) (m : Mode) (u : Pairs (gate_count e)) → SiteMay e m u → Q (sent c e m u)
  pub receive : (c x : ℕ) (m : Mode) (k : Bool) (q : Rails) → port_may m k ≡ true → Q (received c x m k q)
  pub both : (v w : View) → Q v → Q w → Q (both_seen v w)

module _ (Q : View → Type 0) (is : IsSeen Q) where
  goes_up : GoesUp (λ p r x. Q) (λ members r x. Q) (λ members x. Q) (λ choices s y. Q) (λ choices s y. Q)
  goes_up = record {
    silent = λ p f. is.silent f;
    skip = λ r a f. is.silent f;
    assign = λ x at e m u h. is.assign x e m u h;
    send = λ c at e m u h. is.send c e m u h;
    receive = λ c x at to m k q h. is.receive c x m k q h;
    turn = λ members r x v h. h;
    turn_silent = λ members f. is.silent f;
    last = λ p r x v h. h;
    first = λ p q more r x v n h. h;
    later = λ p q more r x y v low h. h;
    side = λ members r x t v h. h;
    none = λ f. is.silent f;
    beside = λ {p} {more} {k} {ks} g b one others. is.both (guarded_view g) (branches_view b) one others;
    body = λ p r b x v h. h;
    choice = λ choices r x v h. h;
    turning = λ choices r x v h. h;
    guards = λ choices asked f. is.guards asked choices f;
    inside = λ choices s y v h. h;
    this = λ g p more r x v h. h;
    others = λ g p more s y v h. h;
  }

  pub guarded_seen : {p : Process} {m : Mode} (g : GuardedAt p m) → Q (guarded_view g)
  guarded_seen g = guarded_everywhere (λ p r x. Q) (λ members r x. Q) (λ members x. Q) (λ choices s y. Q) (λ choices s y. Q) goes_up g

  pub branches_seen : {members : Processes} {ks : List Mode} (b : BranchesAt members ks) → Q (branches_view b)
  branches_seen b = branches_everywhere (λ p r x. Q) (λ members r x. Q) (λ members x. Q) (λ choices s y. Q) (λ choices s y. Q) goes_up b
