-- What a core needs of its guards and of its branches; where it is, and what its own moves come to.
use Rattle.std.proofs.Common.{◌≡◌, ◌≢◌, ℕ, Bool, true, false, refl, sym, ap, ◌∙◌, subst}
use Rattle.std.specs.Prelude.{not}
use Rattle.function_blocks.specs.Rails.{Pairs, Rule, one_rule_fires, is_apart}
use Rattle.circuit_places.specs.Heads.{Index, Bits, low_bits, bit_of, hot, nothing_true, all_neutral, all_valid, all_single, alone, told, over, below}
use Rattle.circuit_places.specs.Cores.{Core, OwnSpot, of_joined, of_ask, of_any, of_latch, of_start, RoundSpot, of_answer, of_turn, of_leave, turned_own, core_of}
use Rattle.circuit_places.proofs.HeadFacts.{fst_true, snd_true, both_true, hot_low, hot_is, hot_turned, hot_up, alone_told, over_false, false_valid, alone_valid, told_alone, told_falls, none_falls, neutral_alone, over_alone}
use Rattle.circuit_places.proofs.CoreControl.{control_steps, turning_steps, Mode, idle, running, answered, returning, asks, acks, goes, noted, spread, freed, lock_may, Control, uncalled, called, evaluating, latched, leaving, isnt_running, Way, works, worked, reported, letting, backs, control_leave, control_ask, control_guards, control_cells, control_moves, turning_moves, way_cells, way_moves, way_turning}

-- The guards as waves: under the request they become good and full, without it they empty. `good r` are the states under the
-- request r.
pub record Guards (n : ℕ) (G Q : Type 0) : Type 0 where
  pub heads : G → Pairs n
  pub low : G
  pub turned : G → Q → G
  pub rule : Bool → G → Q → Rule
  pub good : Bool → G → Bool
  pub low_neutral : all_neutral n (heads low) ≡ true
  pub low_quiet : (q : Q) → one_rule_fires (rule false low q) ≡ false
  pub begins : (r : Bool) → good r low ≡ true
  pub own : (r : Bool) (g : G) (q : Q) → good r g ≡ true → one_rule_fires (rule r g q) ≡ true → good r (turned g q) ≡ true
  pub firm : (r : Bool) (g : G) (q p : Q) → good r g ≡ true → one_rule_fires (rule r g q) ≡ true → p ≢ q → one_rule_fires (rule r g p) ≡ true
      → one_rule_fires (rule r (turned g q) p) ≡ true
  pub apart : (r : Bool) (g : G) (q : Q) → good r g ≡ true → is_apart (rule r g q) ≡ true
  pub single : (g : G) → good true g ≡ true → all_single n (heads g) ≡ true
  pub ease : (g : G) → good true g ≡ true → all_valid n (heads g) ≡ true → good false g ≡ true
  pub full : (g : G) (q : Q) → good true g ≡ true → all_valid n (heads g) ≡ true → one_rule_fires (rule true g q) ≡ false
  pub empty : (g : G) → good false g ≡ true → all_neutral n (heads g) ≡ true → g ≡ low
  pub falls : (g : G) (q : Q) → good false g ≡ true → one_rule_fires (rule false g q) ≡ true → below n (heads (turned g q)) (heads g) ≡ true

-- where no gate of theirs moves, and what they read is valid
pub record Arrives {n : ℕ} {G Q : Type 0} (W : Guards n G Q) : Type 0 where
  pub up : (g : G) → W.good true g ≡ true → ((q : Q) → one_rule_fires (W.rule true g q) ≡ false) → all_valid n (W.heads g) ≡ true
  pub down : (g : G) → W.good false g ≡ true → ((q : Q) → one_rule_fires (W.rule false g q) ≡ false) → all_neutral n (W.heads g) ≡ true

-- The branches, of which one is under way: its place, which one it is, the values of the nodes of all; what it needs of the
-- wires, what it shows to them, and what is left of it.
pub record Branches (n : ℕ) (B C S T : Type 0) : Type 1 where
  pub At : Mode → Type 0
  pub low : B
  pub turned : B → C → B
  pub rule : Bits n → B → C → Rule
  pub answers : B → Bits n
  pub index : {k : Mode} → At k → Index n
  pub cells : {k : Mode} → At k → B
  pub moves : {k : Mode} → At k → C → Bool
  pub steps : {k : Mode} → At k → C → Bool
  pub Fits : {k : Mode} → At k → Type 0
  pub shown : {k : Mode} → At k → S
  pub none : S
  pub reading : Bool → S
  pub Flow : S → S → Type 0
  pub left : {k : Mode} → At k → T
  pub over : T
  pub opened : Index n → T
  pub Follows : Bool → S → T → T → Type 0
  pub low_answers : answers low ≡ low_bits n
  pub low_quiet : (c : C) → one_rule_fires (rule (low_bits n) low c) ≡ false
  pub low_apart : (c : C) → is_apart (rule (low_bits n) low c) ≡ true
  pub answers_are : {k : Mode} (a : At k) → answers (cells a) ≡ hot (index a) (acks k)
  pub can_is : {k : Mode} (a : At k) (c : C) → one_rule_fires (rule (hot (index a) (asks k)) (cells a) c) ≡ moves a c
  pub apart : {k : Mode} (a : At k) (c : C) → is_apart (rule (hot (index a) (asks k)) (cells a) c) ≡ true
  pub idle_is : (a : At idle) → cells a ≡ low
  pub idle_shows : (a : At idle) → shown a ≡ none
  pub idle_moves : (a : At idle) (c : C) → moves a c ≡ false
  pub answered_moves : (a : At answered) → Fits a → (c : C) → moves a c ≡ false
  pub left_done : {k : Mode} (a : At k) → isnt_running k ≡ true → left a ≡ over
  pub flow_same : (x : S) → Flow x x
  pub reading_low : reading false ≡ none
  pub flow_reading : (d e : Bool) → Flow (reading d) (reading e)

-- what a request's rise and fall make of a branch, and what a move of its own
pub record Begun {n : ℕ} {B C S T : Type 0} (K : Branches n B C S T) (i : Index n) : Type 0 where
  pub place : K.At running
  pub which : K.index place ≡ i
  pub same : K.cells place ≡ K.low
  pub fits : K.Fits place
  pub flow : K.Flow K.none (K.shown place)
  pub term : K.left place ≡ K.opened i

pub record Lowered {n : ℕ} {B C S T : Type 0} (K : Branches n B C S T) (a : K.At answered) : Type 0 where
  pub place : K.At returning
  pub which : K.index place ≡ K.index a
  pub same : K.cells place ≡ K.cells a
  pub fits : K.Fits place
  pub shows : K.shown place ≡ K.shown a

pub record Stepped {n : ℕ} {B C S T : Type 0} (K : Branches n B C S T) {k : Mode} (a : K.At k) (c : C) : Type 0 where
  pub mode : Mode
  pub to : K.At mode
  pub which : K.index to ≡ K.index a
  pub same : K.cells to ≡ K.turned (K.cells a) c
  pub way : goes k mode ≡ true
  pub fits : K.Fits to
  pub flow : K.Flow (K.shown a) (K.shown to)
  pub term : K.Follows (K.steps a c) (K.shown a) (K.left a) (K.left to)
  pub keeps : (d : C) → d ≢ c → K.moves a d ≡ true → K.moves to d ≡ true

-- what is left of the statement before it has chosen, where it has ended, and where this is left of its branch
pub record Story (T : Type 0) : Type 0 where
  pub whole : T
  pub gone : T
  pub wrap : T → T

-- where a core is
pub data CoreAt (again : Bool) (n : ℕ) (G : Type 0) (heads : G → Pairs n) (At : Mode → Type 0) : Mode → Type 0 where
  in_control : {m : Mode} → Control again n G heads m → CoreAt again n G heads At m
  in_branch : {m k : Mode} → At k → Way m k → CoreAt again n G heads At m

pub data CoreSpot (n : ℕ) (Q C : Type 0) : Type 0 where
  own : OwnSpot n → CoreSpot n Q C
  guard : Q → CoreSpot n Q C
  branch : C → CoreSpot n Q C

module _ {n : ℕ} {G Q B C S T : Type 0} (W : Guards n G Q) (K : Branches n B C S T) where
  abbrev pub core_turned : Core n G B → CoreSpot n Q C → Core n G B
  core_turned x (own s) = turned_own x s
  core_turned x (guard q) = record x { guards = W.turned x.guards q }
  core_turned x (branch c) = record x { branches = K.turned x.branches c }

module _ {again : Bool} {n : ℕ} {G Q B C S T : Type 0} (W : Guards n G Q) (K : Branches n B C S T) where
  abbrev pub core_cells : {m : Mode} → CoreAt again n G W.heads K.At m → Core n G B
  core_cells (in_control c) = control_cells W.low K.low c
  core_cells (in_branch a w) = way_cells W.low (K.index a) (K.cells a) w

  abbrev pub core_leave : {m : Mode} → CoreAt again n G W.heads K.At m → Bool
  core_leave (in_control c) = control_leave c
  core_leave (in_branch a w) = false

  abbrev pub core_moves : {m : Mode} → CoreAt again n G W.heads K.At m → CoreSpot n Q C → Bool
  core_moves (in_control c) (own s) = control_moves c s
  core_moves (in_control c) (guard q) = one_rule_fires (W.rule (control_ask c) (control_guards W.low c) q)
  core_moves (in_branch a w) (own s) = way_moves w (K.index a) s
  core_moves (in_branch a w) (branch c) = K.moves a c
  core_moves _ _ = false

  -- which moves are steps
  abbrev pub core_steps : {m : Mode} → CoreAt again n G W.heads K.At m → CoreSpot n Q C → Bool
  core_steps (in_control c) (own s) = control_steps c s
  core_steps (in_branch a w) (branch c) = K.steps a c
  core_steps _ _ = false

  abbrev pub core_round_steps : {m : Mode} → CoreAt again n G W.heads K.At m → RoundSpot → Bool
  core_round_steps (in_control c) t = turning_steps c t
  core_round_steps (in_branch a w) t = false

  abbrev pub core_turning : {m : Mode} → CoreAt again n G W.heads K.At m → RoundSpot → Bool
  core_turning (in_control c) s = turning_moves c s
  core_turning (in_branch a w) s = way_turning w s

  -- what a place needs of the guards
  abbrev pub CoreFits : {m : Mode} → CoreAt again n G W.heads K.At m → Type 0
  CoreFits (in_control c) = W.good (control_ask c) (control_guards W.low c) ≡ true
  CoreFits (in_branch a w) = K.Fits a

  abbrev pub core_shown : {m : Mode} → CoreAt again n G W.heads K.At m → S
  core_shown (in_control c) = K.reading (control_ask c)
  core_shown (in_branch a w) = K.shown a

  abbrev pub core_left : {m : Mode} → Story T → CoreAt again n G W.heads K.At m → T
  core_left y (in_control uncalled) = y.wrap K.over
  core_left y (in_control called) = y.whole
  core_left y (in_control (evaluating g)) = y.whole
  core_left y (in_control (latched l i g h)) = y.wrap (K.opened i)
  core_left y (in_control (leaving t l g h)) = y.gone
  core_left y (in_branch a w) = y.wrap (K.left a)

-- How the statement goes on, where z is shown: not at all; it chooses the branch whose guard is true alone, or ends since all are false, both as
-- the guards are found full under their request; or its branch goes on.
pub data CoreStep (again : Bool) {n : ℕ} {G Q B C S T : Type 0} (W : Guards n G Q) (K : Branches n B C S T) (y : Story T) (z : S) (step : Bool) : T → T
    → Type 0 where
  stays : {s : T} → step ≡ false → CoreStep again W K y z step s s
  chooses : z ≡ K.reading true → step ≡ true → (i : Index n) (g : G) → W.good true g ≡ true → alone i (W.heads g) ≡ true
      → CoreStep again W K y z step y.whole (y.wrap (K.opened i))
  ends : z ≡ K.reading true → step ≡ true → again ≡ true → (g : G) → W.good true g ≡ true → over n (W.heads g) ≡ true
      → CoreStep again W K y z step y.whole y.gone
  goes_on : (s t : T) → K.Follows step z s t → CoreStep again W K y z step (y.wrap s) (y.wrap t)

goes_back : (d : Mode) → goes returning d ≡ true → (asks d ≡ false) × (isnt_running d ≡ true)
goes_back returning e = (refl, refl)
goes_back idle e = (refl, refl)
goes_back running e = absurd (cc e)
goes_back answered e = absurd (cc e)

pub full_still : {n : ℕ} {G Q : Type 0} (W : Guards n G Q) (g : G) (q : Q) → W.good true g ≡ true → all_valid n (W.heads g) ≡ true
    → one_rule_fires (W.rule true g q) ≡ true → ⊥
full_still W g q f v e = cc (W.full g q f v, e)

pub low_still : {n : ℕ} {G Q : Type 0} (W : Guards n G Q) (g : G) (q : Q) → W.good false g ≡ true → all_neutral n (W.heads g) ≡ true
    → one_rule_fires (W.rule false g q) ≡ true → ⊥
low_still {G = G} W g q f z e = cc (W.low_quiet q, ap (λ (x : G). one_rule_fires (W.rule false x q)) (W.empty g f z), e)

module _ {again : Bool} {n : ℕ} {G Q B C S T : Type 0} (W : Guards n G Q) (K : Branches n B C S T) (y : Story T) where
  -- what a move of a core comes to: a place with that node turned over, and no other node's move is lost, in the core or round it
  pub record CoreAfter {m : Mode} (x : CoreAt again n G W.heads K.At m) (s : CoreSpot n Q C) : Type 0 where
    pub mode : Mode
    pub to : CoreAt again n G W.heads K.At mode
    pub same : core_cells W K to ≡ core_turned W K (core_cells W K x) s
    pub way : goes m mode ≡ true
    pub leave : core_leave W K to ≡ core_leave W K x
    pub fits : CoreFits W K to
    pub flow : K.Flow (core_shown W K x) (core_shown W K to)
    pub term : CoreStep again W K y (core_shown W K x) (core_steps W K x s) (core_left W K y x) (core_left W K y to)
    pub keeps : (p : CoreSpot n Q C) → p ≢ s → core_moves W K x p ≡ true → core_moves W K to p ≡ true
    pub turns : (t : RoundSpot) → core_turning W K x t ≡ true → core_turning W K to t ≡ true

  abbrev Keeps : {m d : Mode} → CoreAt again n G W.heads K.At m → CoreAt again n G W.heads K.At d → CoreSpot n Q C → Type 0
  Keeps x to s = (p : CoreSpot n Q C) → p ≢ s → core_moves W K x p ≡ true → core_moves W K to p ≡ true

  abbrev Turns : {m d : Mode} → CoreAt again n G W.heads K.At m → CoreAt again n G W.heads K.At d → Type 0
  Turns x to = (t : RoundSpot) → core_turning W K x t ≡ true → core_turning W K to t ≡ true

  -- the guards are called
  ask_up : CoreAfter (in_control called) (own of_ask)
  ask_up = record {
    mode = running;
    to = in_control (evaluating W.low);
    same = refl;
    way = refl;
    leave = refl;
    fits = W.begins true;
    flow = K.flow_reading _ _;
    term = stays refl;
    keeps = keeps;
    turns = turns;
  }
    where
      turns : Turns (in_control called) (in_control (evaluating W.low))
      turns t e = absurd (cc e)

      keeps : Keeps (in_control called) (in_control (evaluating W.low)) (own of_ask)
      keeps (own of_ask) ne e = absurd (ne refl)
      keeps (own of_joined) ne e = absurd (cc e)
      keeps (own of_any) ne e = absurd (cc e)
      keeps (own (of_latch k)) ne e = absurd (cc e)
      keeps (own (of_start k)) ne e = absurd (cc e)
      keeps (guard q) ne e = absurd (cc (W.low_quiet q, e))
      keeps (branch c) ne e = absurd (cc e)

  -- the one true guard is latched
  latch_up : (g : G) (k : Index n) → W.good true g ≡ true → alone k (W.heads g) ≡ true → CoreAfter (in_control (evaluating g)) (own (of_latch k))
  latch_up g k f a = record {
    mode = running;
    to = in_control (latched noted k g may);
    same = ap (λ (l : Bits n). core_of false true false l (low_bits n) g K.low) (hot_up k);
    way = refl;
    leave = refl;
    fits = f;
    flow = K.flow_reading _ _;
    term = chooses refl refl k g f a;
    keeps = keeps;
    turns = turns;
  }
    where
      told_so : told k (W.heads g) ≡ true
      told_so = alone_told k (W.heads g) (W.single g f) a

      may : lock_may noted (alone k (W.heads g)) (told k (W.heads g)) ≡ true
      may = both_true (told k (W.heads g)) (alone k (W.heads g)) told_so a

      turns : Turns (in_control (evaluating g)) (in_control (latched noted k g may))
      turns of_leave e = absurd (cc (over_alone n k (W.heads g) (W.single g f) e, a))
      turns of_answer e = absurd (cc e)
      turns of_turn e = absurd (cc e)

      keeps : Keeps (in_control (evaluating g)) (in_control (latched noted k g may)) (own (of_latch k))
      keeps (own (of_latch j)) ne e = absurd (ne (ap (λ i. own (of_latch i)) (told_alone k j (W.heads g) told_so e)))
      keeps (own of_ask) ne e = absurd (cc e)
      keeps (own of_joined) ne e = absurd (cc e)
      keeps (own of_any) ne e = absurd (cc e)
      keeps (own (of_start j)) ne e = absurd (cc e)
      keeps (guard q) ne e = absurd (full_still W g q f (alone_valid k (W.heads g) a) e)
      keeps (branch c) ne e = absurd (cc e)

  -- that a latch is up is known
  any_latched : (i : Index n) (g : G) (h : lock_may noted (alone i (W.heads g)) (told i (W.heads g)) ≡ true) → W.good true g ≡ true
      → CoreAfter (in_control (latched noted i g h)) (own of_any)
  any_latched i g h f = record {
    mode = running;
    to = in_control (latched spread i g h);
    same = refl;
    way = refl;
    leave = refl;
    fits = f;
    flow = K.flow_reading _ _;
    term = stays refl;
    keeps = keeps;
    turns = λ t e. absurd (cc e);
  }
    where
      keeps : Keeps (in_control (latched noted i g h)) (in_control (latched spread i g h)) (own of_any)
      keeps (own of_any) ne e = absurd (ne refl)
      keeps (own of_ask) ne e = absurd (cc e)
      keeps (own of_joined) ne e = absurd (cc e)
      keeps (own (of_latch j)) ne e = absurd (cc e)
      keeps (own (of_start j)) ne e = e
      keeps (guard q) ne e = e
      keeps (branch c) ne e = absurd (cc e)

  any_leaving : (y : again ≡ true) (g : G) (h : lock_may noted (over n (W.heads g)) (nothing_true n (W.heads g)) ≡ true) → W.good true g ≡ true
      → CoreAfter (in_control (leaving y noted g h)) (own of_any)
  any_leaving y g h f = record {
    mode = running;
    to = in_control (leaving y spread g h);
    same = refl;
    way = refl;
    leave = refl;
    fits = f;
    flow = K.flow_reading _ _;
    term = stays refl;
    keeps = keeps;
    turns = turns;
  }
    where
      turns : Turns (in_control (leaving y noted g h)) (in_control (leaving y spread g h))
      turns of_answer e = e
      turns of_turn e = absurd (cc e)
      turns of_leave e = absurd (cc e)

      keeps : Keeps (in_control (leaving y noted g h)) (in_control (leaving y spread g h)) (own of_any)
      keeps (own of_any) ne e = absurd (ne refl)
      keeps (own of_ask) ne e = absurd (cc e)
      keeps (own of_joined) ne e = absurd (cc e)
      keeps (own (of_latch j)) ne e = absurd (cc e)
      keeps (own (of_start j)) ne e = absurd (cc e)
      keeps (guard q) ne e = e
      keeps (branch c) ne e = absurd (cc e)

  -- the guards are let go
  ask_latched : (i : Index n) (g : G) (h : lock_may spread (alone i (W.heads g)) (told i (W.heads g)) ≡ true) → W.good true g ≡ true
      → CoreAfter (in_control (latched spread i g h)) (own of_ask)
  ask_latched i g h f = record {
    mode = running;
    to = in_control (latched freed i g may);
    same = refl;
    way = refl;
    leave = refl;
    fits = W.ease g f valid;
    flow = K.flow_reading _ _;
    term = stays refl;
    keeps = keeps;
    turns = λ t e. absurd (cc e);
  }
    where
      valid : all_valid n (W.heads g) ≡ true
      valid = alone_valid i (W.heads g) (snd_true (told i (W.heads g)) _ h)

      may : lock_may freed (alone i (W.heads g)) (told i (W.heads g)) ≡ true
      may = both_true (told i (W.heads g)) true (fst_true (told i (W.heads g)) _ h) refl

      keeps : Keeps (in_control (latched spread i g h)) (in_control (latched freed i g may)) (own of_ask)
      keeps (own of_ask) ne e = absurd (ne refl)
      keeps (own of_any) ne e = absurd (cc e)
      keeps (own of_joined) ne e = absurd (cc e)
      keeps (own (of_latch j)) ne e = absurd (cc e)
      keeps (own (of_start j)) ne e = e
      keeps (guard q) ne e = absurd (full_still W g q f valid e)
      keeps (branch c) ne e = absurd (cc e)

  ask_leaving : (y : again ≡ true) (g : G) (h : lock_may spread (over n (W.heads g)) (nothing_true n (W.heads g)) ≡ true) → W.good true g ≡ true
      → CoreAfter (in_control (leaving y spread g h)) (own of_ask)
  ask_leaving y g h f = record {
    mode = running;
    to = in_control (leaving y freed g may);
    same = refl;
    way = refl;
    leave = refl;
    fits = W.ease g f valid;
    flow = K.flow_reading _ _;
    term = stays refl;
    keeps = keeps;
    turns = turns;
  }
    where
      valid : all_valid n (W.heads g) ≡ true
      valid = false_valid n (W.heads g) (over_false n (W.heads g) (snd_true (nothing_true n (W.heads g)) _ h))

      may : lock_may freed (over n (W.heads g)) (nothing_true n (W.heads g)) ≡ true
      may = both_true (nothing_true n (W.heads g)) true (fst_true (nothing_true n (W.heads g)) _ h) refl

      turns : Turns (in_control (leaving y spread g h)) (in_control (leaving y freed g may))
      turns of_answer e = e
      turns of_turn e = absurd (cc e)
      turns of_leave e = absurd (cc e)

      keeps : Keeps (in_control (leaving y spread g h)) (in_control (leaving y freed g may)) (own of_ask)
      keeps (own of_ask) ne e = absurd (ne refl)
      keeps (own of_any) ne e = absurd (cc e)
      keeps (own of_joined) ne e = absurd (cc e)
      keeps (own (of_latch j)) ne e = absurd (cc e)
      keeps (own (of_start j)) ne e = absurd (cc e)
      keeps (guard q) ne e = absurd (full_still W g q f valid e)
      keeps (branch c) ne e = absurd (cc e)

  -- a rail of a guard moves, as the guards are evaluated
  guard_rises : (g : G) (q : Q) → W.good true g ≡ true → one_rule_fires (W.rule true g q) ≡ true → CoreAfter (in_control (evaluating g)) (guard q)
  guard_rises g q f m = record {
    mode = running;
    to = in_control (evaluating (W.turned g q));
    same = refl;
    way = refl;
    leave = refl;
    fits = W.own true g q f m;
    flow = K.flow_reading _ _;
    term = stays refl;
    keeps = keeps;
    turns = turns;
  }
    where
      turns : Turns (in_control (evaluating g)) (in_control (evaluating (W.turned g q)))
      turns of_leave e = absurd (full_still W g q f (false_valid n (W.heads g) (over_false n (W.heads g) e)) m)
      turns of_turn e = absurd (cc e)
      turns of_answer e = absurd (cc e)

      keeps : Keeps (in_control (evaluating g)) (in_control (evaluating (W.turned g q))) (guard q)
      keeps (own (of_latch j)) ne e = absurd (full_still W g q f (alone_valid j (W.heads g) e) m)
      keeps (own of_ask) ne e = absurd (cc e)
      keeps (own of_any) ne e = absurd (cc e)
      keeps (own of_joined) ne e = absurd (cc e)
      keeps (own (of_start j)) ne e = absurd (cc e)
      keeps (guard p) ne e = W.firm true g q p f m (λ (z : p ≡ q). ne (ap (λ x. guard x) z)) e
      keeps (branch c) ne e = absurd (cc e)

  -- and as they are let go
  guard_falls : (i : Index n) (g : G) (q : Q) (h : lock_may freed (alone i (W.heads g)) (told i (W.heads g)) ≡ true) → W.good false g ≡ true
      → one_rule_fires (W.rule false g q) ≡ true → CoreAfter (in_control (latched freed i g h)) (guard q)
  guard_falls i g q h f m = record {
    mode = running;
    to = in_control (latched freed i (W.turned g q) may);
    same = refl;
    way = refl;
    leave = refl;
    fits = W.own false g q f m;
    flow = K.flow_reading _ _;
    term = stays refl;
    keeps = keeps;
    turns = λ t e. absurd (cc e);
  }
    where
      may : lock_may freed (alone i (W.heads (W.turned g q))) (told i (W.heads (W.turned g q))) ≡ true
      may = both_true (told i (W.heads (W.turned g q))) true (told_falls i (W.heads (W.turned g q)) (W.heads g) (W.falls g q f m)
          (fst_true (told i (W.heads g)) _ h)) refl

      keeps : Keeps (in_control (latched freed i g h)) (in_control (latched freed i (W.turned g q) may)) (guard q)
      keeps (own of_ask) ne e = absurd (cc e)
      keeps (own of_any) ne e = absurd (cc e)
      keeps (own of_joined) ne e = absurd (cc e)
      keeps (own (of_latch j)) ne e = absurd (cc e)
      keeps (own (of_start j)) ne e = absurd (low_still W g q f (snd_true (bit_of j (hot i true)) _ e) m)
      keeps (guard p) ne e = W.firm false g q p f m (λ (z : p ≡ q). ne (ap (λ x. guard x) z)) e
      keeps (branch c) ne e = absurd (cc e)

  guard_leaves : (y : again ≡ true) (g : G) (q : Q) (h : lock_may freed (over n (W.heads g)) (nothing_true n (W.heads g)) ≡ true) → W.good false g ≡ true
      → one_rule_fires (W.rule false g q) ≡ true → CoreAfter (in_control (leaving y freed g h)) (guard q)
  guard_leaves y g q h f m = record {
    mode = running;
    to = in_control (leaving y freed (W.turned g q) may);
    same = refl;
    way = refl;
    leave = refl;
    fits = W.own false g q f m;
    flow = K.flow_reading _ _;
    term = stays refl;
    keeps = keeps;
    turns = turns;
  }
    where
      may : lock_may freed (over n (W.heads (W.turned g q))) (nothing_true n (W.heads (W.turned g q))) ≡ true
      may = both_true (nothing_true n (W.heads (W.turned g q))) true (none_falls n (W.heads (W.turned g q)) (W.heads g) (W.falls g q f m)
          (fst_true (nothing_true n (W.heads g)) _ h)) refl

      turns : Turns (in_control (leaving y freed g h)) (in_control (leaving y freed (W.turned g q) may))
      turns of_answer e = absurd (low_still W g q f e m)
      turns of_turn e = absurd (cc e)
      turns of_leave e = absurd (cc e)

      keeps : Keeps (in_control (leaving y freed g h)) (in_control (leaving y freed (W.turned g q) may)) (guard q)
      keeps (own of_ask) ne e = absurd (cc e)
      keeps (own of_any) ne e = absurd (cc e)
      keeps (own of_joined) ne e = absurd (cc e)
      keeps (own (of_latch j)) ne e = absurd (cc e)
      keeps (own (of_start j)) ne e = absurd (cc e)
      keeps (guard p) ne e = W.firm false g q p f m (λ (z : p ≡ q). ne (ap (λ x. guard x) z)) e
      keeps (branch c) ne e = absurd (cc e)

  -- the branch starts
  start_up : (i : Index n) (g : G) (h : lock_may freed (alone i (W.heads g)) (told i (W.heads g)) ≡ true) → W.good false g ≡ true
      → all_neutral n (W.heads g) ≡ true → Begun K i → CoreAfter (in_control (latched freed i g h)) (own (of_start i))
  start_up i g h f z b = record {
    mode = running;
    to = in_branch b.place works;
    same = ap (λ (j : Index n). core_of false false true (hot j true) (hot j true) W.low (K.cells b.place)) b.which
        ∙ (ap (λ (x : B). core_of false false true (hot i true) (hot i true) W.low x) b.same
        ∙ (ap (λ (x : G). core_of false false true (hot i true) (hot i true) x K.low) (sym (W.empty g f z))
        ∙ ap (λ (x : Bits n). core_of false false true (hot i true) x g K.low) (hot_up i)));
    way = refl;
    leave = refl;
    fits = b.fits;
    flow = subst (λ (z : S). K.Flow z (K.shown b.place)) (sym K.reading_low) b.flow;
    term = subst (λ (t : T). CoreStep again W K y (K.reading false) false (y.wrap (K.opened i)) (y.wrap t)) (sym b.term) (stays refl);
    keeps = keeps;
    turns = λ t e. absurd (cc e);
  }
    where
      keeps : Keeps (in_control (latched freed i g h)) (in_branch b.place works) (own (of_start i))
      keeps (own of_ask) ne e = absurd (cc e)
      keeps (own of_any) ne e = absurd (cc e)
      keeps (own of_joined) ne e = absurd (cc e)
      keeps (own (of_latch j)) ne e = absurd (cc e)
      keeps (own (of_start j)) ne e = absurd (ne (ap (λ k. own (of_start k)) (hot_is i j true (fst_true (bit_of j (hot i true)) _ e)).0))
      keeps (guard q) ne e = absurd (low_still W g q f z e)
      keeps (branch c) ne e = absurd (cc e)

  -- a move of a branch that runs, and of one that returns
  runs : (a : K.At running) (c : C) → Stepped K a c → CoreAfter (in_branch a works) (branch c)
  runs a c r = by_mode r.mode r.to r.which r.same r.way r.fits r.flow r.term r.keeps
    where
      by_mode : (d : Mode) (to : K.At d) → K.index to ≡ K.index a → K.cells to ≡ K.turned (K.cells a) c → goes running d ≡ true → K.Fits to
          → K.Flow (K.shown a) (K.shown to) → K.Follows (K.steps a c) (K.shown a) (K.left a) (K.left to)
          → ((b : C) → b ≢ c → K.moves a b ≡ true → K.moves to b ≡ true)
          → CoreAfter (in_branch a works) (branch c)
      by_mode running to which same way fits flow term kept = record {
        mode = running;
        to = in_branch to works;
        same = ap (λ (j : Index n). core_of false false true (hot j true) (hot j true) W.low (K.cells to)) which
            ∙ ap (λ (x : B). core_of false false true (hot (K.index a) true) (hot (K.index a) true) W.low x) same;
        way = refl;
        leave = refl;
        fits = fits;
        flow = flow;
        term = goes_on (K.left a) (K.left to) term;
        keeps = keeps;
        turns = λ t e. absurd (cc e);
      }
        where
          keeps : Keeps (in_branch a works) (in_branch to works) (branch c)
          keeps (own s) ne e = absurd (cc e)
          keeps (guard q) ne e = absurd (cc e)
          keeps (branch b) ne e = kept b (λ (z : b ≡ c). ne (ap (λ x. branch x) z)) e
      by_mode answered to which same way fits flow term kept = record {
        mode = running;
        to = in_branch to worked;
        same = ap (λ (j : Index n). core_of false false true (hot j true) (hot j true) W.low (K.cells to)) which
            ∙ ap (λ (x : B). core_of false false true (hot (K.index a) true) (hot (K.index a) true) W.low x) same;
        way = refl;
        leave = refl;
        fits = fits;
        flow = flow;
        term = goes_on (K.left a) (K.left to) term;
        keeps = keeps;
        turns = λ t e. absurd (cc e);
      }
        where
          keeps : Keeps (in_branch a works) (in_branch to worked) (branch c)
          keeps (own s) ne e = absurd (cc e)
          keeps (guard q) ne e = absurd (cc e)
          keeps (branch b) ne e = kept b (λ (z : b ≡ c). ne (ap (λ x. branch x) z)) e
      by_mode idle to which same way fits flow term kept = absurd (cc way)
      by_mode returning to which same way fits flow term kept = absurd (cc way)

  returns : (any : Bool) (h : isnt_running returning ≡ true) (a : K.At returning) (c : C) → Stepped K a c → CoreAfter (in_branch a (backs any h)) (branch c)
  returns any h a c r = record {
    mode = returning;
    to = in_branch r.to (backs any (goes_back r.mode r.way).1);
    same = ap (λ (b : Bool). core_of true false any (hot (K.index r.to) false) (hot (K.index r.to) b) W.low (K.cells r.to)) (goes_back r.mode r.way).0
        ∙ (ap (λ (j : Index n). core_of true false any (hot j false) (hot j false) W.low (K.cells r.to)) r.which
        ∙ ap (λ (x : B). core_of true false any (hot (K.index a) false) (hot (K.index a) false) W.low x) r.same);
    way = refl;
    leave = refl;
    fits = r.fits;
    flow = r.flow;
    term = goes_on (K.left a) (K.left r.to) r.term;
    keeps = keeps;
    turns = λ t e. absurd (cc e);
  }
    where
      keeps : Keeps (in_branch a (backs any h)) (in_branch r.to (backs any (goes_back r.mode r.way).1)) (branch c)
      keeps (own of_joined) ne e = absurd (cc (snd_true (not any) false e))
      keeps (own of_any) ne e = e
      keeps (own of_ask) ne e = absurd (cc e)
      keeps (own (of_latch j)) ne e = absurd (cc e)
      keeps (own (of_start j)) ne e = absurd (cc ((hot_is (K.index a) j false e).1))
      keeps (guard q) ne e = absurd (cc e)
      keeps (branch b) ne e = r.keeps b (λ (z : b ≡ c). ne (ap (λ x. branch x) z)) e

  -- the core answers
  joined_up : (a : K.At answered) → K.Fits a → CoreAfter (in_branch a worked) (own of_joined)
  joined_up a f = record {
    mode = answered;
    to = in_branch a reported;
    same = refl;
    way = refl;
    leave = refl;
    fits = f;
    flow = K.flow_same (K.shown a);
    term = stays refl;
    keeps = keeps;
    turns = λ t e. absurd (cc e);
  }
    where
      keeps : Keeps (in_branch a worked) (in_branch a reported) (own of_joined)
      keeps (own of_joined) ne e = absurd (ne refl)
      keeps (own of_any) ne e = absurd (cc e)
      keeps (own of_ask) ne e = absurd (cc e)
      keeps (own (of_latch j)) ne e = absurd (cc e)
      keeps (own (of_start j)) ne e = absurd (cc e)
      keeps (guard q) ne e = absurd (cc e)
      keeps (branch b) ne e = e

  -- the latch falls, and then its start, that of all latches, and the answer
  latch_down : (a : K.At answered) → K.Fits a → CoreAfter (in_branch a letting) (own (of_latch (K.index a)))
  latch_down a f = record {
    mode = returning;
    to = in_branch a (backs true refl);
    same = ap (λ (l : Bits n). core_of true false true l (hot (K.index a) true) W.low (K.cells a)) (hot_turned (K.index a) true);
    way = refl;
    leave = refl;
    fits = f;
    flow = K.flow_same (K.shown a);
    term = stays refl;
    keeps = keeps;
    turns = λ t e. absurd (cc e);
  }
    where
      keeps : Keeps (in_branch a letting) (in_branch a (backs true refl)) (own (of_latch (K.index a)))
      keeps (own of_joined) ne e = absurd (cc e)
      keeps (own of_any) ne e = absurd (cc e)
      keeps (own of_ask) ne e = absurd (cc e)
      keeps (own (of_latch j)) ne e = absurd (ne (ap (λ k. own (of_latch k)) (hot_is (K.index a) j true e).0))
      keeps (own (of_start j)) ne e = absurd (cc e)
      keeps (guard q) ne e = absurd (cc e)
      keeps (branch b) ne e = e

  any_down : {k : Mode} (h : isnt_running k ≡ true) (a : K.At k) → K.Fits a → CoreAfter (in_branch a (backs true h)) (own of_any)
  any_down h a f = record {
    mode = returning;
    to = in_branch a (backs false h);
    same = refl;
    way = refl;
    leave = refl;
    fits = f;
    flow = K.flow_same (K.shown a);
    term = stays refl;
    keeps = keeps;
    turns = λ t e. absurd (cc e);
  }
    where
      keeps : Keeps (in_branch a (backs true h)) (in_branch a (backs false h)) (own of_any)
      keeps (own of_joined) ne e = absurd (cc e)
      keeps (own of_any) ne e = absurd (ne refl)
      keeps (own of_ask) ne e = absurd (cc e)
      keeps (own (of_latch j)) ne e = absurd (cc e)
      keeps (own (of_start j)) ne e = e
      keeps (guard q) ne e = absurd (cc e)
      keeps (branch b) ne e = e

  start_down : (any : Bool) (h : isnt_running answered ≡ true) (a : K.At answered) → K.Fits a → Lowered K a
      → CoreAfter (in_branch a (backs any h)) (own (of_start (K.index a)))
  start_down any h a f b = record {
    mode = returning;
    to = in_branch b.place (backs any refl);
    same = ap (λ (j : Index n). core_of true false any (hot j false) (hot j false) W.low (K.cells b.place)) b.which
        ∙ (ap (λ (x : B). core_of true false any (hot (K.index a) false) (hot (K.index a) false) W.low x) b.same
        ∙ ap (λ (x : Bits n). core_of true false any (hot (K.index a) false) x W.low (K.cells a)) (hot_turned (K.index a) true));
    way = refl;
    leave = refl;
    fits = b.fits;
    flow = subst (λ (x : S). K.Flow (K.shown a) x) (sym b.shows) (K.flow_same (K.shown a));
    term = subst (λ (t : T). CoreStep again W K y (K.shown a) false (y.wrap (K.left a)) (y.wrap t)) (K.left_done a refl ∙ sym (K.left_done b.place refl))
        (stays refl);
    keeps = keeps;
    turns = λ t e. absurd (cc e);
  }
    where
      keeps : Keeps (in_branch a (backs any h)) (in_branch b.place (backs any refl)) (own (of_start (K.index a)))
      keeps (own of_joined) ne e = absurd (cc (snd_true (not any) false e))
      keeps (own of_any) ne e = e
      keeps (own of_ask) ne e = absurd (cc e)
      keeps (own (of_latch j)) ne e = absurd (cc e)
      keeps (own (of_start j)) ne e = absurd (ne (ap (λ k. own (of_start k)) (hot_is (K.index a) j true e).0))
      keeps (guard q) ne e = absurd (cc e)
      keeps (branch c) ne e = absurd (cc (K.answered_moves a f c, e))

  joined_down : (h : isnt_running idle ≡ true) (a : K.At idle) → CoreAfter (in_branch a (backs false h)) (own of_joined)
  joined_down h a = record {
    mode = idle;
    to = in_control uncalled;
    same = ap (λ (x : Bits n). core_of false false false x x W.low K.low) (sym (hot_low (K.index a)))
        ∙ ap (λ (x : B). core_of false false false (hot (K.index a) false) (hot (K.index a) false) W.low x) (sym (K.idle_is a));
    way = refl;
    leave = refl;
    fits = W.begins false;
    flow = subst (λ (x : S). K.Flow (K.shown a) x) (K.idle_shows a ∙ sym K.reading_low) (K.flow_same (K.shown a));
    term = subst (λ (t : T). CoreStep again W K y (K.shown a) false (y.wrap (K.left a)) (y.wrap t)) (K.left_done a refl) (stays refl);
    keeps = keeps;
    turns = λ t e. absurd (cc e);
  }
    where
      keeps : Keeps (in_branch a (backs false h)) (in_control uncalled) (own of_joined)
      keeps (own of_joined) ne e = absurd (ne refl)
      keeps (own of_any) ne e = absurd (cc e)
      keeps (own of_ask) ne e = absurd (cc e)
      keeps (own (of_latch j)) ne e = absurd (cc e)
      keeps (own (of_start j)) ne e = absurd (cc ((hot_is (K.index a) j false e).1))
      keeps (guard q) ne e = absurd (cc e)
      keeps (branch c) ne e = absurd (cc (K.idle_moves a c, e))

  -- Each own move of a core leads to a place again: of a branch, of a guard, and of the core's own nodes.
  pub branch_after : {m k : Mode} (a : K.At k) (w : Way m k) (c : C) → K.Fits a → K.moves a c ≡ true → Stepped K a c → CoreAfter (in_branch a w) (branch c)
  branch_after a works c f e r = runs a c r
  branch_after a worked c f e r = absurd (cc (K.answered_moves a f c, e))
  branch_after a reported c f e r = absurd (cc (K.answered_moves a f c, e))
  branch_after a letting c f e r = absurd (cc (K.answered_moves a f c, e))
  branch_after {k = idle} a (backs any h) c f e r = absurd (cc (K.idle_moves a c, e))
  branch_after {k = running} a (backs any h) c f e r = absurd (cc h)
  branch_after {k = answered} a (backs any h) c f e r = absurd (cc (K.answered_moves a f c, e))
  branch_after {k = returning} a (backs any h) c f e r = returns any h a c r

  pub guard_after : {m : Mode} (x : CoreAt again n G W.heads K.At m) (q : Q) → CoreFits W K x → core_moves W K x (guard q) ≡ true → CoreAfter x (guard q)
  guard_after (in_control uncalled) q f e = absurd (cc (W.low_quiet q, e))
  guard_after (in_control called) q f e = absurd (cc (W.low_quiet q, e))
  guard_after (in_control (evaluating g)) q f e = guard_rises g q f e
  guard_after (in_control (latched noted i g h)) q f e = absurd (full_still W g q f (alone_valid i (W.heads g) (snd_true (told i (W.heads g)) _ h)) e)
  guard_after (in_control (latched spread i g h)) q f e = absurd (full_still W g q f (alone_valid i (W.heads g) (snd_true (told i (W.heads g)) _ h)) e)
  guard_after (in_control (latched freed i g h)) q f e = guard_falls i g q h f e
  guard_after (in_control (leaving y noted g h)) q f e =
      absurd (full_still W g q f (false_valid n (W.heads g) (over_false n (W.heads g) (snd_true (nothing_true n (W.heads g)) _ h))) e)
  guard_after (in_control (leaving y spread g h)) q f e =
      absurd (full_still W g q f (false_valid n (W.heads g) (over_false n (W.heads g) (snd_true (nothing_true n (W.heads g)) _ h))) e)
  guard_after (in_control (leaving y freed g h)) q f e = guard_leaves y g q h f e
  guard_after (in_branch a w) q f e = absurd (cc e)

  -- the index of a latch or a start that moves is that of the branch under way
  at_index : {m : Mode} (x : CoreAt again n G W.heads K.At m) (node : Index n → OwnSpot n) (i j : Index n) → j ≡ i → CoreAfter x (own (node i))
      → CoreAfter x (own (node j))
  at_index x node i j e r = subst (λ (k : Index n). CoreAfter x (own (node k))) (sym e) r

  pub own_after : {m : Mode} (x : CoreAt again n G W.heads K.At m) (s : OwnSpot n) → CoreFits W K x → (core_shown W K x ≡ K.none → (i : Index n) → Begun K i)
      → ((a : K.At answered) → K.Fits a → Lowered K a) → core_moves W K x (own s) ≡ true → CoreAfter x (own s)
  own_after (in_control uncalled) s f b l e = absurd (cc e)
  own_after (in_control called) of_ask f b l e = ask_up
  own_after (in_control called) of_joined f b l e = absurd (cc e)
  own_after (in_control called) of_any f b l e = absurd (cc e)
  own_after (in_control called) (of_latch j) f b l e = absurd (cc e)
  own_after (in_control called) (of_start j) f b l e = absurd (cc e)
  own_after (in_control (evaluating g)) (of_latch j) f b l e = latch_up g j f e
  own_after (in_control (evaluating g)) of_ask f b l e = absurd (cc e)
  own_after (in_control (evaluating g)) of_joined f b l e = absurd (cc e)
  own_after (in_control (evaluating g)) of_any f b l e = absurd (cc e)
  own_after (in_control (evaluating g)) (of_start j) f b l e = absurd (cc e)
  own_after (in_control (latched noted i g h)) of_any f b l e = any_latched i g h f
  own_after (in_control (latched spread i g h)) of_ask f b l e = ask_latched i g h f
  own_after (in_control (latched freed i g h)) (of_start j) f b l e =
      at_index (in_control (latched freed i g h)) (λ k. of_start k) i j (hot_is i j true (fst_true (bit_of j (hot i true)) _ e)).0
      (start_up i g h f (snd_true (bit_of j (hot i true)) _ e) (b K.reading_low i))
  own_after (in_control (latched noted i g h)) (of_start j) f b l e =
      absurd (cc (neutral_alone i (W.heads g) (snd_true (bit_of j (hot i true)) _ e), snd_true (told i (W.heads g)) (alone i (W.heads g)) h))
  own_after (in_control (latched spread i g h)) (of_start j) f b l e =
      absurd (cc (neutral_alone i (W.heads g) (snd_true (bit_of j (hot i true)) _ e), snd_true (told i (W.heads g)) (alone i (W.heads g)) h))
  own_after (in_control (latched spread i g h)) of_any f b l e = absurd (cc e)
  own_after (in_control (latched freed i g h)) of_any f b l e = absurd (cc e)
  own_after (in_control (latched noted i g h)) of_ask f b l e = absurd (cc e)
  own_after (in_control (latched freed i g h)) of_ask f b l e = absurd (cc e)
  own_after (in_control (latched k i g h)) of_joined f b l e = absurd (cc e)
  own_after (in_control (latched k i g h)) (of_latch j) f b l e = absurd (cc e)
  own_after (in_control (leaving t noted g h)) of_any f b l e = any_leaving t g h f
  own_after (in_control (leaving t spread g h)) of_ask f b l e = ask_leaving t g h f
  own_after (in_control (leaving t spread g h)) of_any f b l e = absurd (cc e)
  own_after (in_control (leaving t freed g h)) of_any f b l e = absurd (cc e)
  own_after (in_control (leaving t noted g h)) of_ask f b l e = absurd (cc e)
  own_after (in_control (leaving t freed g h)) of_ask f b l e = absurd (cc e)
  own_after (in_control (leaving t k g h)) of_joined f b l e = absurd (cc e)
  own_after (in_control (leaving t k g h)) (of_latch j) f b l e = absurd (cc e)
  own_after (in_control (leaving t k g h)) (of_start j) f b l e = absurd (cc e)
  own_after (in_branch a works) s f b l e = absurd (cc e)
  own_after (in_branch a worked) of_joined f b l e = joined_up a f
  own_after (in_branch a worked) of_any f b l e = absurd (cc e)
  own_after (in_branch a worked) of_ask f b l e = absurd (cc e)
  own_after (in_branch a worked) (of_latch j) f b l e = absurd (cc e)
  own_after (in_branch a worked) (of_start j) f b l e = absurd (cc e)
  own_after (in_branch a reported) s f b l e = absurd (cc e)
  own_after (in_branch a letting) (of_latch j) f b l e =
      at_index (in_branch a letting) (λ k. of_latch k) (K.index a) j (hot_is (K.index a) j true e).0 (latch_down a f)
  own_after (in_branch a letting) of_joined f b l e = absurd (cc e)
  own_after (in_branch a letting) of_any f b l e = absurd (cc e)
  own_after (in_branch a letting) of_ask f b l e = absurd (cc e)
  own_after (in_branch a letting) (of_start j) f b l e = absurd (cc e)
  own_after (in_branch a (backs true h)) of_any f b l e = any_down h a f
  own_after (in_branch a (backs false h)) of_any f b l e = absurd (cc e)
  own_after (in_branch {k = answered} a (backs any h)) (of_start j) f b l e =
      at_index (in_branch a (backs any h)) (λ k. of_start k) (K.index a) j (hot_is (K.index a) j true e).0 (start_down any h a f (l a f))
  own_after (in_branch {k = idle} a (backs any h)) (of_start j) f b l e = absurd (cc (hot_is (K.index a) j false e).1)
  own_after (in_branch {k = running} a (backs any h)) (of_start j) f b l e = absurd (cc h)
  own_after (in_branch {k = returning} a (backs any h)) (of_start j) f b l e = absurd (cc (hot_is (K.index a) j false e).1)
  own_after (in_branch {k = idle} a (backs false h)) of_joined f b l e = joined_down h a
  own_after (in_branch {k = running} a (backs false h)) of_joined f b l e = absurd (cc h)
  own_after (in_branch {k = answered} a (backs false h)) of_joined f b l e = absurd (cc e)
  own_after (in_branch {k = returning} a (backs false h)) of_joined f b l e = absurd (cc e)
  own_after (in_branch a (backs true h)) of_joined f b l e = absurd (cc e)
  own_after (in_branch a (backs any h)) of_ask f b l e = absurd (cc e)
  own_after (in_branch a (backs any h)) (of_latch j) f b l e = absurd (cc e)
