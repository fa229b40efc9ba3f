-- The core as a port, and the guarded repetition round it.
use Rattle.std.proofs.Common.{◌≡◌, ◌≢◌, ℕ, Bool, true, false, refl, sym, ap, ◌∙◌, subst}
use Rattle.function_blocks.specs.Rails.{Pairs}
use Rattle.circuit_places.specs.Heads.{low_bits, nothing_true, all_neutral, over}
use Rattle.circuit_places.specs.Cores.{Core, Turning, of_joined, of_ask, of_any, of_latch, of_start, RoundSpot, of_answer, of_turn, of_leave, turned_turning, core_of, turning_of}
use Rattle.circuit_places.proofs.Modes.{goes_asks}
use Rattle.circuit_places.proofs.HeadFacts.{snd_true, both_true, false_none, over_false, neutral_over, over_alone}
use Rattle.circuit_places.proofs.CoreControl.{Mode, idle, running, answered, returning, asks, goes, noted, spread, freed, lock_may, uncalled, called, evaluating, latched, leaving, works, worked, reported, letting, backs, Closing, told_all, lets_turn, lets_leave, lets_any, lets_answer, closing_cells, closing_own, closing_moves}
use Rattle.circuit_places.proofs.CoreMoves.{core_steps, core_round_steps, Guards, Branches, Story, CoreAt, in_control, in_branch, CoreSpot, own, guard, branch, core_turned, core_cells, core_leave, core_moves, core_turning, CoreFits, core_shown, core_left, CoreStep, stays, ends, low_still, CoreAfter}

abbrev pub low_core : {n : ℕ} {G Q B C S T : Type 0} → Guards n G Q → Branches n B C S T → Core n G B
low_core {n = n} W K = core_of false false false (low_bits n) (low_bits n) W.low K.low

-- what begins where its request rises
pub record CoreBegun {n : ℕ} {G Q B C S T : Type 0} (again : Bool) (W : Guards n G Q) (K : Branches n B C S T) (y : Story T) : Type 0 where
  pub place : CoreAt again n G W.heads K.At running
  pub same : core_cells W K place ≡ low_core W K
  pub fits : CoreFits W K place
  pub shows : core_shown W K place ≡ K.none
  pub term : core_left W K y place ≡ y.whole

-- The core as a port.
module _ {again : Bool} {n : ℕ} {G Q B C S T : Type 0} (W : Guards n G Q) (K : Branches n B C S T) (y : Story T) where
  -- what goes on where it falls
  pub record CoreLowered (x : CoreAt again n G W.heads K.At answered) : Type 0 where
    pub place : CoreAt again n G W.heads K.At returning
    pub same : core_cells W K place ≡ core_cells W K x
    pub fits : CoreFits W K place
    pub shows : core_shown W K place ≡ core_shown W K x
    pub term : core_left W K y place ≡ core_left W K y x

-- Where a guarded repetition is.
pub data AgainAt (n : ℕ) (G : Type 0) (heads : G → Pairs n) (At : Mode → Type 0) : Mode → Type 0 where
  again_rests : AgainAt n G heads At idle
  turning : {m : Mode} → CoreAt true n G heads At m → AgainAt n G heads At running
  closing : {m : Mode} → Closing m → AgainAt n G heads At m

pub data AgainSpot (n : ℕ) (Q C : Type 0) : Type 0 where
  round : RoundSpot → AgainSpot n Q C
  in_core : CoreSpot n Q C → AgainSpot n Q C

module _ {n : ℕ} {G Q B C S T : Type 0} (W : Guards n G Q) (K : Branches n B C S T) where
  abbrev pub again_cells : {m : Mode} → AgainAt n G W.heads K.At m → Turning (Core n G B)
  again_cells again_rests = turning_of false false false (low_core W K)
  again_cells (turning {m = m} x) = turning_of false (asks m) (core_leave W K x) (core_cells W K x)
  again_cells (closing c) = closing_cells W.low K.low c

  abbrev pub again_turned : Turning (Core n G B) → AgainSpot n Q C → Turning (Core n G B)
  again_turned x (round t) = turned_turning x t
  again_turned x (in_core s) = record x { core = core_turned W K x.core s }

  abbrev pub again_moves : {m : Mode} → AgainAt n G W.heads K.At m → AgainSpot n Q C → Bool
  again_moves (turning x) (round t) = core_turning W K x t
  again_moves (turning x) (in_core s) = core_moves W K x s
  again_moves (closing c) (round t) = closing_moves c t
  again_moves (closing c) (in_core (own s)) = closing_own c s
  again_moves _ _ = false

  abbrev pub again_steps : {m : Mode} → AgainAt n G W.heads K.At m → AgainSpot n Q C → Bool
  again_steps (turning x) (round t) = core_round_steps W K x t
  again_steps (turning x) (in_core s) = core_steps W K x s
  again_steps _ _ = false

  abbrev pub AgainFits : {m : Mode} → AgainAt n G W.heads K.At m → Type 0
  AgainFits (turning x) = CoreFits W K x
  AgainFits _ = Unit {0}

  abbrev pub again_shown : {m : Mode} → AgainAt n G W.heads K.At m → S
  again_shown (turning x) = core_shown W K x
  again_shown _ = K.none

  abbrev pub again_left : {m : Mode} → Story T → AgainAt n G W.heads K.At m → T
  again_left y (turning x) = core_left W K y x
  again_left y _ = y.gone

module _ {n : ℕ} {G Q B C S T : Type 0} (W : Guards n G Q) (K : Branches n B C S T) (y : Story T) where
  pub record AgainAfter {m : Mode} (x : AgainAt n G W.heads K.At m) (s : AgainSpot n Q C) : Type 0 where
    pub mode : Mode
    pub to : AgainAt n G W.heads K.At mode
    pub same : again_cells W K to ≡ again_turned W K (again_cells W K x) s
    pub way : goes m mode ≡ true
    pub fits : AgainFits W K to
    pub flow : K.Flow (again_shown W K x) (again_shown W K to)
    pub term : CoreStep true W K y (again_shown W K x) (again_steps W K x s) (again_left W K y x) (again_left W K y to)
    pub keeps : (p : AgainSpot n Q C) → p ≢ s → again_moves W K x p ≡ true → again_moves W K to p ≡ true

  abbrev Kept : {m d : Mode} → AgainAt n G W.heads K.At m → AgainAt n G W.heads K.At d → AgainSpot n Q C → Type 0
  Kept x to s = (p : AgainSpot n Q C) → p ≢ s → again_moves W K x p ≡ true → again_moves W K to p ≡ true

  -- a move of the core
  pub again_core : {m : Mode} (x : CoreAt true n G W.heads K.At m) (s : CoreSpot n Q C) → CoreAfter W K y x s → AgainAfter (turning x) (in_core s)
  again_core {m = m} x s r = record {
    mode = running;
    to = turning r.to;
    same = ap (λ b. turning_of false b (core_leave W K r.to) (core_cells W K r.to)) (goes_asks m r.mode r.way)
        ∙ (ap (λ b. turning_of false (asks m) b (core_cells W K r.to)) r.leave
        ∙ ap (λ (z : Core n G B). turning_of false (asks m) (core_leave W K x) z) r.same);
    way = refl;
    fits = r.fits;
    flow = r.flow;
    term = r.term;
    keeps = keeps;
  }
    where
      keeps : Kept (turning x) (turning r.to) (in_core s)
      keeps (round t) ne e = r.turns t e
      keeps (in_core p) ne e = r.keeps p (λ (z : p ≡ s). ne (ap (λ q. in_core q) z)) e

  -- the next turn is called for; what is left of the whole is then the whole
  turn_up : y.wrap K.over ≡ y.whole → AgainAfter (turning (in_control uncalled)) (round of_turn)
  turn_up z = record {
    mode = running;
    to = turning (in_control called);
    same = refl;
    way = refl;
    fits = W.begins false;
    flow = K.flow_reading _ _;
    term = subst (λ (t : T). CoreStep true W K y (K.reading false) false (y.wrap K.over) t) z (stays refl);
    keeps = keeps;
  }
    where
      keeps : Kept (turning (in_control uncalled)) (turning (in_control called)) (round of_turn)
      keeps (round of_turn) ne e = absurd (ne refl)
      keeps (round of_leave) ne e = absurd (cc e)
      keeps (round of_answer) ne e = absurd (cc e)
      keeps (in_core (own s)) ne e = absurd (cc e)
      keeps (in_core (guard q)) ne e = e
      keeps (in_core (branch c)) ne e = absurd (cc e)

  -- and taken back, once its branch has answered
  turn_down : (a : K.At answered) → K.Fits a → AgainAfter (turning (in_branch a reported)) (round of_turn)
  turn_down a f = record {
    mode = running;
    to = turning (in_branch a letting);
    same = refl;
    way = refl;
    fits = f;
    flow = K.flow_same (K.shown a);
    term = stays refl;
    keeps = keeps;
  }
    where
      keeps : Kept (turning (in_branch a reported)) (turning (in_branch a letting)) (round of_turn)
      keeps (round of_turn) ne e = absurd (ne refl)
      keeps (round of_leave) ne e = absurd (cc e)
      keeps (round of_answer) ne e = absurd (cc e)
      keeps (in_core (own s)) ne e = absurd (cc e)
      keeps (in_core (guard q)) ne e = absurd (cc e)
      keeps (in_core (branch c)) ne e = e

  -- all guards are false
  leave_up : (g : G) → W.good true g ≡ true → over n (W.heads g) ≡ true → AgainAfter (turning (in_control (evaluating g))) (round of_leave)
  leave_up g f o = record {
    mode = running;
    to = turning (in_control (leaving refl noted g may));
    same = refl;
    way = refl;
    fits = f;
    flow = K.flow_reading _ _;
    term = ends refl refl refl g f o;
    keeps = keeps;
  }
    where
      may : lock_may noted (over n (W.heads g)) (nothing_true n (W.heads g)) ≡ true
      may = both_true (nothing_true n (W.heads g)) (over n (W.heads g)) (false_none n (W.heads g) (W.single g f) (over_false n (W.heads g) o)) o

      keeps : Kept (turning (in_control (evaluating g))) (turning (in_control (leaving refl noted g may))) (round of_leave)
      keeps (round of_turn) ne e = absurd (cc e)
      keeps (round of_leave) ne e = absurd (ne refl)
      keeps (round of_answer) ne e = absurd (cc e)
      keeps (in_core (own (of_latch j))) ne e = absurd (cc (over_alone n j (W.heads g) (W.single g f) o, e))
      keeps (in_core (own of_joined)) ne e = absurd (cc e)
      keeps (in_core (own of_ask)) ne e = absurd (cc e)
      keeps (in_core (own of_any)) ne e = absurd (cc e)
      keeps (in_core (own (of_start j))) ne e = absurd (cc e)
      keeps (in_core (guard q)) ne e = e
      keeps (in_core (branch c)) ne e = absurd (cc e)

  -- and let go: it answers
  answer_up : (t : true ≡ true) (g : G) (h : lock_may freed (over n (W.heads g)) (nothing_true n (W.heads g)) ≡ true) → W.good false g ≡ true
      → all_neutral n (W.heads g) ≡ true → AgainAfter (turning (in_control (leaving t freed g h))) (round of_answer)
  answer_up t g h f z = record {
    mode = answered;
    to = closing told_all;
    same = ap (λ (x : G). turning_of true true true (core_of false false true (low_bits n) (low_bits n) x K.low)) (sym (W.empty g f z));
    way = refl;
    fits = tt;
    flow = subst (λ (z : S). K.Flow (K.reading false) z) K.reading_low (K.flow_reading false false);
    term = stays refl;
    keeps = keeps;
  }
    where
      keeps : Kept (turning (in_control (leaving t freed g h))) (closing told_all) (round of_answer)
      keeps (round of_turn) ne e = absurd (cc e)
      keeps (round of_leave) ne e = absurd (cc e)
      keeps (round of_answer) ne e = absurd (ne refl)
      keeps (in_core (own (of_latch j))) ne e = absurd (cc e)
      keeps (in_core (own of_joined)) ne e = absurd (cc e)
      keeps (in_core (own of_ask)) ne e = absurd (cc e)
      keeps (in_core (own of_any)) ne e = absurd (cc e)
      keeps (in_core (own (of_start j))) ne e = absurd (cc e)
      keeps (in_core (guard q)) ne e = absurd (low_still W g q f z e)
      keeps (in_core (branch c)) ne e = absurd (cc e)

  -- it falls back: the turn's request, the latch, that a latch is up, the answer
  close_turn : AgainAfter (closing lets_turn) (round of_turn)
  close_turn = record {
    mode = returning;
    to = closing lets_leave;
    same = refl;
    way = refl;
    fits = tt;
    flow = K.flow_same K.none;
    term = stays refl;
    keeps =
        keeps;
  }
    where
      keeps : Kept (closing lets_turn) (closing lets_leave) (round of_turn)
      keeps (round of_turn) ne e = absurd (ne refl)
      keeps (round of_leave) ne e = absurd (cc e)
      keeps (round of_answer) ne e = absurd (cc e)
      keeps (in_core (own of_any)) ne e = absurd (cc e)
      keeps (in_core (own of_joined)) ne e = absurd (cc e)
      keeps (in_core (own of_ask)) ne e = absurd (cc e)
      keeps (in_core (own (of_latch j))) ne e = absurd (cc e)
      keeps (in_core (own (of_start j))) ne e = absurd (cc e)
      keeps (in_core (guard q)) ne e = absurd (cc e)
      keeps (in_core (branch c)) ne e = absurd (cc e)

  close_leave : AgainAfter (closing lets_leave) (round of_leave)
  close_leave = record {
    mode = returning;
    to = closing lets_any;
    same = refl;
    way = refl;
    fits = tt;
    flow = K.flow_same K.none;
    term = stays refl;
    keeps =
        keeps;
  }
    where
      keeps : Kept (closing lets_leave) (closing lets_any) (round of_leave)
      keeps (round of_turn) ne e = absurd (cc e)
      keeps (round of_leave) ne e = absurd (ne refl)
      keeps (round of_answer) ne e = absurd (cc e)
      keeps (in_core (own of_any)) ne e = absurd (cc e)
      keeps (in_core (own of_joined)) ne e = absurd (cc e)
      keeps (in_core (own of_ask)) ne e = absurd (cc e)
      keeps (in_core (own (of_latch j))) ne e = absurd (cc e)
      keeps (in_core (own (of_start j))) ne e = absurd (cc e)
      keeps (in_core (guard q)) ne e = absurd (cc e)
      keeps (in_core (branch c)) ne e = absurd (cc e)

  close_any : AgainAfter (closing lets_any) (in_core (own of_any))
  close_any = record {
    mode = returning;
    to = closing lets_answer;
    same = refl;
    way = refl;
    fits = tt;
    flow = K.flow_same K.none;
    term = stays refl;
    keeps =
        keeps;
  }
    where
      keeps : Kept (closing lets_any) (closing lets_answer) (in_core (own of_any))
      keeps (round of_turn) ne e = absurd (cc e)
      keeps (round of_leave) ne e = absurd (cc e)
      keeps (round of_answer) ne e = absurd (cc e)
      keeps (in_core (own of_any)) ne e = absurd (ne refl)
      keeps (in_core (own of_joined)) ne e = absurd (cc e)
      keeps (in_core (own of_ask)) ne e = absurd (cc e)
      keeps (in_core (own (of_latch j))) ne e = absurd (cc e)
      keeps (in_core (own (of_start j))) ne e = absurd (cc e)
      keeps (in_core (guard q)) ne e = absurd (cc e)
      keeps (in_core (branch c)) ne e = absurd (cc e)

  close_answer : AgainAfter (closing lets_answer) (round of_answer)
  close_answer = record { mode = idle; to = again_rests; same = refl; way = refl; fits = tt; flow = K.flow_same K.none; term = stays refl; keeps = keeps }
    where
      keeps : Kept (closing lets_answer) again_rests (round of_answer)
      keeps (round of_turn) ne e = absurd (cc e)
      keeps (round of_leave) ne e = absurd (cc e)
      keeps (round of_answer) ne e = absurd (ne refl)
      keeps (in_core (own of_any)) ne e = absurd (cc e)
      keeps (in_core (own of_joined)) ne e = absurd (cc e)
      keeps (in_core (own of_ask)) ne e = absurd (cc e)
      keeps (in_core (own (of_latch j))) ne e = absurd (cc e)
      keeps (in_core (own (of_start j))) ne e = absurd (cc e)
      keeps (in_core (guard q)) ne e = absurd (cc e)
      keeps (in_core (branch c)) ne e = absurd (cc e)

  -- each move round the core, and of the core where no turn is under way
  pub round_after : {m : Mode} (x : AgainAt n G W.heads K.At m) (t : RoundSpot) → y.wrap K.over ≡ y.whole → AgainFits W K x
      → again_moves W K x (round t) ≡ true → AgainAfter x (round t)
  round_after again_rests t z f e = absurd (cc e)
  round_after (turning (in_control uncalled)) of_turn z f e = turn_up z
  round_after (turning (in_control uncalled)) of_leave z f e = absurd (cc e)
  round_after (turning (in_control uncalled)) of_answer z f e = absurd (cc e)
  round_after (turning (in_control called)) t z f e = absurd (cc e)
  round_after (turning (in_control (evaluating g))) of_leave z f e = leave_up g f e
  round_after (turning (in_control (evaluating g))) of_turn z f e = absurd (cc e)
  round_after (turning (in_control (evaluating g))) of_answer z f e = absurd (cc e)
  round_after (turning (in_control (latched l i g h))) t z f e = absurd (cc e)
  round_after (turning (in_control (leaving s noted g h))) of_answer z f e =
      absurd (cc (neutral_over n (W.heads g) e, snd_true (nothing_true n (W.heads g)) (over n (W.heads g)) h))
  round_after (turning (in_control (leaving s spread g h))) of_answer z f e =
      absurd (cc (neutral_over n (W.heads g) e, snd_true (nothing_true n (W.heads g)) (over n (W.heads g)) h))
  round_after (turning (in_control (leaving s freed g h))) of_answer z f e = answer_up s g h f e
  round_after (turning (in_control (leaving s l g h))) of_turn z f e = absurd (cc e)
  round_after (turning (in_control (leaving s l g h))) of_leave z f e = absurd (cc e)
  round_after (turning (in_branch a works)) t z f e = absurd (cc e)
  round_after (turning (in_branch a worked)) t z f e = absurd (cc e)
  round_after (turning (in_branch a reported)) of_turn z f e = turn_down a f
  round_after (turning (in_branch a reported)) of_leave z f e = absurd (cc e)
  round_after (turning (in_branch a reported)) of_answer z f e = absurd (cc e)
  round_after (turning (in_branch a letting)) t z f e = absurd (cc e)
  round_after (turning (in_branch a (backs any h))) t z f e = absurd (cc e)
  round_after (closing lets_turn) of_turn z f e = close_turn
  round_after (closing lets_leave) of_leave z f e = close_leave
  round_after (closing lets_answer) of_answer z f e = close_answer
  round_after (closing told_all) of_turn z f e = absurd (cc e)
  round_after (closing told_all) of_leave z f e = absurd (cc e)
  round_after (closing told_all) of_answer z f e = absurd (cc e)
  round_after (closing lets_turn) of_leave z f e = absurd (cc e)
  round_after (closing lets_turn) of_answer z f e = absurd (cc e)
  round_after (closing lets_leave) of_turn z f e = absurd (cc e)
  round_after (closing lets_leave) of_answer z f e = absurd (cc e)
  round_after (closing lets_any) of_turn z f e = absurd (cc e)
  round_after (closing lets_any) of_leave z f e = absurd (cc e)
  round_after (closing lets_any) of_answer z f e = absurd (cc e)
  round_after (closing lets_answer) of_turn z f e = absurd (cc e)
  round_after (closing lets_answer) of_leave z f e = absurd (cc e)

  pub closing_after : {m : Mode} (c : Closing m) (s : CoreSpot n Q C) → again_moves W K (closing c) (in_core s) ≡ true → AgainAfter (closing c) (in_core s)
  closing_after lets_any (own of_any) e = close_any
  closing_after told_all (own of_any) e = absurd (cc e)
  closing_after lets_turn (own of_any) e = absurd (cc e)
  closing_after lets_leave (own of_any) e = absurd (cc e)
  closing_after lets_answer (own of_any) e = absurd (cc e)
  closing_after c (own of_joined) e = absurd (cc e)
  closing_after c (own of_ask) e = absurd (cc e)
  closing_after c (own (of_latch j)) e = absurd (cc e)
  closing_after c (own (of_start j)) e = absurd (cc e)
  closing_after c (guard q) e = absurd (cc e)
  closing_after c (branch b) e = absurd (cc e)

  -- where its request falls
  pub record AgainLowered (x : AgainAt n G W.heads K.At answered) : Type 0 where
    pub place : AgainAt n G W.heads K.At returning
    pub same : again_cells W K place ≡ again_cells W K x
    pub shows : again_shown W K place ≡ again_shown W K x
    pub fits : AgainFits W K place

-- and where it rises
pub record AgainBegun {n : ℕ} {G Q B C S T : Type 0} (W : Guards n G Q) (K : Branches n B C S T) (y : Story T) : Type 0 where
  pub place : AgainAt n G W.heads K.At running
  pub same : again_cells W K place ≡ turning_of false false false (low_core W K)
  pub fits : AgainFits W K place
  pub shows : again_shown W K place ≡ K.none
  pub term : again_left W K y place ≡ y.whole
