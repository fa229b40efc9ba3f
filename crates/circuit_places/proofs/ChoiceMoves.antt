-- The core's moves, as those of a selection and of a guarded repetition among other statements.
use Rattle.std.proofs.Common.{◌≡◌, ◌≢◌, ℕ, Bool, true, false, refl, sym, ap, ◌∙◌, subst, inl}
use Rattle.std.proofs.Math.Path.{fun_ext}
use Rattle.function_blocks.specs.Rails.{number_on}
use Rattle.width_check.specs.Processes.{Formula, Process, choosing, no_members, and_member, Choices, and_choice, choice_count, TypedProgram}
use Rattle.width_check.specs.Typing.{var_width}
use Rattle.chp_meaning.specs.Terms.{Term, finished, active, opened}
use Rattle.circuit_places.specs.Lines.{Line, of_channel, of_var, Seen}
use Rattle.circuit_places.specs.Heads.{Index, under}
use Rattle.circuit_places.specs.Cores.{OwnSpot, RoundSpot}
use Rattle.circuit_places.specs.Circuit.{Cells, GuardCells, ChoiceCells, low, low_choices, choice_answers, GuardSpot, Spot, ChoiceSpot, this_choice, other_choice, of_core, of_guard, of_choice, of_round, guards_read, heads, choice_rule, flipped, turned_choice}
use Rattle.circuit_places.proofs.CoreControl.{Mode, idle, running, answered, isnt_running, uncalled, called, evaluating, latched, leaving, Way, Closing}
use Rattle.circuit_places.proofs.CoreMoves.{core_steps, Guards, Branches, Begun, Lowered, Stepped, Story, CoreAt, in_control, in_branch, CoreSpot, own, guard, branch, core_cells, core_moves, core_turned, CoreFits, core_shown, core_left, CoreStep, stays, chooses, ends, goes_on, CoreAfter, own_after, guard_after, branch_after}
use Rattle.circuit_places.proofs.AgainMoves.{again_steps, AgainAt, again_rests, turning, closing, AgainSpot, round, in_core, again_cells, again_turned, again_moves, AgainFits, again_shown, again_left, AgainAfter, again_core, round_after, closing_after}
use Rattle.circuit_places.proofs.GuardWaves.{guards_of}
use Rattle.circuit_places.proofs.Stepping.{steps, chosen_steps}
use Rattle.circuit_places.proofs.Opens.{open_alone, open_none}
use Rattle.circuit_places.proofs.Places.{At, rests, at_choice, at_turning, at_closing, ChoiceAt, control_at, inside_at, ChosenAt, this_one, another, chosen_index, cells, choice_cells, chosen_cells, Shown, none_shown, guards_shown, shown, choice_shown, chosen_shown, writing, choice_writing, chosen_writing, Fits, ChoiceFits, ChosenFits, moves, chosen_moves, low_choice_answers, low_choice_quiet, chosen_answers, chosen_can_is}
use Rattle.circuit_places.proofs.Apart.{low_choice_apart, chosen_apart}
use Rattle.circuit_places.proofs.Meets.{GuardsMeet, ChoiceMeets, choice_sends, choice_receives}
use Rattle.circuit_places.proofs.Left.{body_at, branch_term, choice_left, chosen_left, chosen_left_done, chosen_writing_done, left, ToldBy, Follows, chooses as it_chooses, ends as it_ends, followed_follows, here_follows}
use Rattle.circuit_places.proofs.Flow.{Flow, flow_same, flow_sends, Clean, After, low_of}
use Rattle.circuit_places.proofs.Begin.{ChoiceQuiet, chosen_idle_is, chosen_idle_moves, chosen_answered_moves, chosen_begun, chosen_lowered, flow_begun}

pub flow_reading : (env : Seen) (choices : Choices) (d e : Bool) → Flow env (guards_shown d choices) (guards_shown e choices)
flow_reading env choices d e = flow_sends env (guards_shown d choices) (guards_shown e choices)
    record { talk = λ k g h. h; rises = λ k i one g h. h; falls = λ k i one g h. h; listen = refl; take = refl }

-- what a place shows, with the variables that are being written
abbrev pub Told : Type 0
Told = Shown × (ℕ → Bool)

abbrev pub nothing_told : Told
nothing_told = (none_shown, λ x. false)

abbrev pub reading_told : Choices → Bool → Told
reading_told choices e = (guards_shown e choices, λ x. false)

abbrev pub chosen_told : {choices : Choices} {k : Mode} → (Line → Bool) → ChosenAt choices k → Told
chosen_told ack a = (chosen_shown a, chosen_writing ack a)

abbrev pub Flows : Seen → Told → Told → Type 0
Flows env a b = Flow env a.0 b.0 × ((x : ℕ) → b.1 x ≡ false → a.1 x ≡ false)

nothing_written : {choices : Choices} {k : Mode} (ack : Line → Bool) (a : ChosenAt choices k) → (k ≡ running → ⊥) → chosen_writing ack a ≡ (λ x. false)
nothing_written ack a o = fun_ext (λ x. chosen_writing_done ack a o x)

pub idle_told : {choices : Choices} (env : Seen) (a : ChosenAt choices idle) → chosen_told env.ack a ≡ nothing_told
idle_told env a = ap (λ (x : Shown). let y : Told = (x, chosen_writing env.ack a) in y) (chosen_idle_is a).1
    ∙ ap (λ (f : ℕ → Bool). let y : Told = (none_shown, f) in y) (nothing_written env.ack a (λ e. cc e))

-- the branches of a choice
abbrev pub choice_branches : (P : TypedProgram) (env : Seen) → Clean P env → (choices : Choices)
    → Branches (choice_count choices) (ChoiceCells choices) (ChoiceSpot choices) Told Term
choice_branches P env clean choices = record {
  At = ChosenAt choices;
  low = low_choices choices;
  turned = turned_choice choices;
  rule = choice_rule choices env;
  answers = choice_answers choices;
  index = λ {k} a. chosen_index a;
  cells = λ {k} a. chosen_cells a;
  moves = λ {k} a. chosen_moves env a;
  steps = λ {k} a. chosen_steps a;
  Fits = λ {k} a. ChosenFits a env;
  shown = λ {k} a. chosen_told env.ack a;
  none = nothing_told;
  reading = reading_told choices;
  Flow = Flows env;
  left = λ {k} a. chosen_left env.ack a;
  over = finished;
  opened = λ i. opened (body_at choices i);
  Follows = λ b z x y. Follows (ToldBy env z.0.read) b x y;
  low_answers = low_choice_answers choices;
  low_quiet = low_choice_quiet choices env;
  low_apart = low_choice_apart choices env;
  answers_are = λ {k} a. chosen_answers a;
  can_is = λ {k} a. chosen_can_is env a;
  apart = λ {k} a. chosen_apart env a;
  idle_is = λ a. (chosen_idle_is a).0;
  idle_shows = λ a. idle_told env a;
  idle_moves = λ a. chosen_idle_moves env a;
  answered_moves = λ a. chosen_answered_moves P env clean a;
  left_done = λ {k} a h. chosen_left_done env.ack a (λ e. cc (h, ap isnt_running e));
  flow_same = λ x. (flow_same env x.0, λ v h. h);
  reading_low = refl;
  flow_reading = λ d e. (flow_reading env choices d e, λ v h. h);
}

abbrev pub story : (again : Bool) (choices : Choices) → Story Term
story again choices = record { whole = active (choosing again choices); gone = finished; wrap = branch_term again choices }

-- a place of a core as one of the statement, and so its spots
abbrev pub choice_at : {again : Bool} {choices : Choices} {m : Mode}
    → CoreAt again (choice_count choices) (GuardCells choices) (heads choices) (ChosenAt choices) m → ChoiceAt again choices m
choice_at (in_control c) = control_at c
choice_at (in_branch a w) = inside_at a w

abbrev pub spot_at : {choices : Choices} → (again : Bool) → CoreSpot (choice_count choices) (GuardSpot choices) (ChoiceSpot choices)
    → Spot (choosing again choices)
spot_at again (own s) = of_core s
spot_at again (guard q) = of_guard q
spot_at again (branch s) = of_choice s

abbrev pub again_at : {choices : Choices} {m : Mode} → AgainAt (choice_count choices) (GuardCells choices) (heads choices) (ChosenAt choices) m
    → At (choosing true choices) m
again_at again_rests = rests
again_at (turning x) = at_turning (choice_at x)
again_at (closing c) = at_closing c

abbrev pub again_spot : {choices : Choices} → AgainSpot (choice_count choices) (GuardSpot choices) (ChoiceSpot choices) → Spot (choosing true choices)
again_spot (round t) = of_round t
again_spot (in_core s) = spot_at true s

module _ (P : TypedProgram) (env : Seen) (clean : Clean P env) (choices : Choices) (laws : GuardsMeet P choices) where
  abbrev Waves : Guards (choice_count choices) (GuardCells choices) (GuardSpot choices)
  Waves = guards_of P env.bit clean.single choices laws

  abbrev Kids : Branches (choice_count choices) (ChoiceCells choices) (ChoiceSpot choices) Told Term
  Kids = choice_branches P env clean choices

  abbrev Core : Bool → Mode → Type 0
  Core again m = CoreAt again (choice_count choices) (GuardCells choices) (heads choices) (ChosenAt choices) m

  -- guards that are read and full tell which branches are open
  module _ (read : ℕ → Bool) (within : (x : ℕ) → guards_read choices x ≡ true → read x ≡ true) where
    pub agreed : (store : ℕ → ℕ) → ((x : ℕ) → read x ≡ true → number_on (env.width (of_var x)) (env.bit x) ≡ store x) → (x : ℕ) → guards_read choices x ≡ true
        → number_on (var_width P.vars x) (env.bit x) ≡ store x
    agreed store agree x h = ap (λ n. number_on n (env.bit x)) (sym (clean.wide (of_var x))) ∙ agree x (within x h)

  step_follows : (again : Bool) (z : Told) (b : Bool) (x y : Term) → CoreStep again Waves Kids (story again choices) z b x y
      → Follows (ToldBy env z.0.read) b x y
  step_follows again z b x _ (stays e) = inl (e, refl)
  step_follows again z b _ _ (chooses e does i g f a) = here_follows b does (choosing again choices) (branch_term again choices (opened (body_at choices i)))
      (it_chooses i (λ store agree. open_alone P env.bit clean.single store choices laws
      (agreed z.0.read (λ v h. ap (λ (w : Told). w.0.read v) e ∙ h) store agree) g f i a))
  step_follows true z b _ _ (ends e does t g f o) = here_follows b does (choosing true choices) finished
      (it_ends (λ store agree. open_none P env.bit clean.single store choices laws
      (agreed z.0.read (λ v h. ap (λ (w : Told). w.0.read v) e ∙ h) store agree) g f o))
  step_follows false z b _ _ (ends e does t g f o) = absurd (cc t)
  step_follows false z b _ _ (goes_on s t r) = r
  step_follows true z b _ _ (goes_on s t r) = followed_follows (ToldBy env z.0.read) (and_member (choosing true choices) no_members) b s t r

  cells_back : {again : Bool} {m : Mode} (x : Core again m) → choice_cells (choice_at x) ≡ core_cells Waves Kids x
  cells_back (in_control c) = refl
  cells_back (in_branch a w) = refl

  abbrev told : {again : Bool} {m : Mode} → Core again m → Told
  told x = (choice_shown (choice_at x), choice_writing env.ack (choice_at x))

  told_back : {again : Bool} {m : Mode} (x : Core again m) → told x ≡ core_shown Waves Kids x
  told_back (in_control c) = refl
  told_back (in_branch a w) = refl

  fits_back : {again : Bool} {m : Mode} (x : Core again m) → CoreFits Waves Kids x → ChoiceFits (choice_at x) env
  fits_back (in_control c) f = f
  fits_back (in_branch a w) f = f

  left_back : {again : Bool} {m : Mode} (x : Core again m) → choice_left env.ack (choice_at x) ≡ core_left Waves Kids (story again choices) x
  left_back (in_control uncalled) = refl
  left_back (in_control called) = refl
  left_back (in_control (evaluating g)) = refl
  left_back (in_control (latched l i g h)) = refl
  left_back (in_control (leaving y l g h)) = refl
  left_back (in_branch a w) = refl

  abbrev CSpot : Type 0
  CSpot = CoreSpot (choice_count choices) (GuardSpot choices) (ChoiceSpot choices)

  moves_back : {m : Mode} (x : Core false m) (p : CSpot) → moves env (at_choice (choice_at x)) (spot_at false p) ≡ core_moves Waves Kids x p
  moves_back (in_control c) (own s) = refl
  moves_back (in_control c) (guard q) = refl
  moves_back (in_control c) (branch s) = refl
  moves_back (in_branch a w) (own s) = refl
  moves_back (in_branch a w) (guard q) = refl
  moves_back (in_branch a w) (branch s) = refl

  again_moves_back : {m : Mode} (x : Core true m) (p : CSpot) → moves env (at_turning (choice_at x)) (spot_at true p) ≡ core_moves Waves Kids x p
  again_moves_back (in_control c) (own s) = refl
  again_moves_back (in_control c) (guard q) = refl
  again_moves_back (in_control c) (branch s) = refl
  again_moves_back (in_branch a w) (own s) = refl
  again_moves_back (in_branch a w) (guard q) = refl
  again_moves_back (in_branch a w) (branch s) = refl

  steps_back : {m : Mode} (x : Core false m) (p : CSpot) → steps (at_choice (choice_at x)) (spot_at false p) ≡ core_steps Waves Kids x p
  steps_back (in_control c) (own s) = refl
  steps_back (in_control c) (guard q) = refl
  steps_back (in_control c) (branch s) = refl
  steps_back (in_branch a w) (own s) = refl
  steps_back (in_branch a w) (guard q) = refl
  steps_back (in_branch a w) (branch s) = refl

  -- each spot of a selection is one of its core
  data Spotted : Spot (choosing false choices) → Type 0 where
    spotted : (p : CSpot) → Spotted (spot_at false p)

  spot_of : (s : Spot (choosing false choices)) → Spotted s
  spot_of (of_core s) = spotted (own s)
  spot_of (of_guard q) = spotted (guard q)
  spot_of (of_choice s) = spotted (branch s)

  turned_back : (x : Cells (choosing false choices)) (p : CSpot) → core_turned Waves Kids x p ≡ flipped (choosing false choices) x (spot_at false p)
  turned_back x (own s) = refl
  turned_back x (guard q) = refl
  turned_back x (branch s) = refl

  -- what the abstract move says of what is told
  module _ {a b x y : Told} (p : a ≡ x) (q : b ≡ y) where
    flows_back : Flows env x y → Flows env a b
    flows_back f = subst (λ (z : Told). Flows env z b) (sym p) (subst (λ (z : Told). Flows env x z) (sym q) f)

    follows_back : (c d : Bool) → c ≡ d → (s t l r : Term) → s ≡ l → t ≡ r → Follows (ToldBy env x.0.read) d l r → Follows (ToldBy env a.0.read) c s t
    follows_back c d u s t l r e h f = subst (λ (z : Told). Follows (ToldBy env z.0.read) c s t) (sym p)
        (subst (λ (z : Term). Follows (ToldBy env x.0.read) c z t) (sym e) (subst (λ (z : Term). Follows (ToldBy env x.0.read) c l z) (sym h)
        (subst (λ (z : Bool). Follows (ToldBy env x.0.read) z l r) (sym u) f)))

  pub choice_after : {m : Mode} (x : Core false m) (s : CSpot) → CoreAfter Waves Kids (story false choices) x s
      → After (choosing false choices) m env (at_choice (choice_at x)) (spot_at false s)
  choice_after x s r =
      let flows = flows_back (told_back x) (told_back r.to) r.flow in
      record {
        mode = r.mode;
        to = at_choice (choice_at r.to);
        same = cells_back r.to ∙ (r.same ∙ (turned_back (core_cells Waves Kids x) s
            ∙ ap (λ (y : Cells (choosing false choices)). flipped (choosing false choices) y (spot_at false s)) (sym (cells_back x))));
        way = r.way;
        fits = fits_back r.to r.fits;
        flow = flows.0;
        term = follows_back (told_back x) (told_back r.to) _ _ (steps_back x s) _ _ _ _ (left_back x) (left_back r.to)
            (step_follows false _ _ _ _ r.term);
        frees = flows.1;
        keeps = λ q ne e. keeps q (spot_of q) ne e;
      }
    where
      keeps : (q : Spot (choosing false choices)) → Spotted q → q ≢ spot_at false s → moves env (at_choice (choice_at x)) q ≡ true
          → moves env (at_choice (choice_at r.to)) q ≡ true
      keeps _ (spotted p) ne e = moves_back r.to p ∙ r.keeps p (λ (z : p ≡ s). ne (ap (λ i. spot_at false i) z)) (sym (moves_back x p) ∙ e)

  -- of a repetition
  abbrev ASpot : Type 0
  ASpot = AgainSpot (choice_count choices) (GuardSpot choices) (ChoiceSpot choices)

  data SpottedAgain : Spot (choosing true choices) → Type 0 where
    spotted_again : (p : ASpot) → SpottedAgain (again_spot p)

  again_spot_of : (s : Spot (choosing true choices)) → SpottedAgain s
  again_spot_of (of_core s) = spotted_again (in_core (own s))
  again_spot_of (of_guard q) = spotted_again (in_core (guard q))
  again_spot_of (of_choice s) = spotted_again (in_core (branch s))
  again_spot_of (of_round t) = spotted_again (round t)

  again_turned_back : (x : Cells (choosing true choices)) (p : ASpot) → again_turned Waves Kids x p ≡ flipped (choosing true choices) x (again_spot p)
  again_turned_back x (round t) = refl
  again_turned_back x (in_core (own s)) = refl
  again_turned_back x (in_core (guard q)) = refl
  again_turned_back x (in_core (branch s)) = refl

  abbrev Again : Mode → Type 0
  Again m = AgainAt (choice_count choices) (GuardCells choices) (heads choices) (ChosenAt choices) m

  again_cells_back : {m : Mode} (x : Again m) → cells (again_at x) ≡ again_cells Waves Kids x
  again_cells_back again_rests = refl
  again_cells_back (turning (in_control c)) = refl
  again_cells_back (turning (in_branch a w)) = refl
  again_cells_back (closing c) = refl

  abbrev again_told : {m : Mode} → Again m → Told
  again_told x = (shown (again_at x), writing env.ack (again_at x))

  again_told_back : {m : Mode} (x : Again m) → again_told x ≡ again_shown Waves Kids x
  again_told_back again_rests = refl
  again_told_back (turning (in_control c)) = refl
  again_told_back (turning (in_branch a w)) = refl
  again_told_back (closing c) = refl

  again_fits_back : {m : Mode} (x : Again m) → AgainFits Waves Kids x → Fits (again_at x) env
  again_fits_back again_rests f = tt
  again_fits_back (turning x) f = fits_back x f
  again_fits_back (closing c) f = tt

  again_left_back : {m : Mode} (x : Again m) → left env.ack (again_at x) ≡ again_left Waves Kids (story true choices) x
  again_left_back again_rests = refl
  again_left_back (turning x) = left_back x
  again_left_back (closing c) = refl

  again_all_back : {m : Mode} (x : Again m) (p : ASpot) → moves env (again_at x) (again_spot p) ≡ again_moves Waves Kids x p
  again_all_back again_rests (round t) = refl
  again_all_back again_rests (in_core (own s)) = refl
  again_all_back again_rests (in_core (guard q)) = refl
  again_all_back again_rests (in_core (branch s)) = refl
  again_all_back (turning (in_control c)) (round t) = refl
  again_all_back (turning (in_branch a w)) (round t) = refl
  again_all_back (turning x) (in_core s) = again_moves_back x s
  again_all_back (closing c) (round t) = refl
  again_all_back (closing c) (in_core (own s)) = refl
  again_all_back (closing c) (in_core (guard q)) = refl
  again_all_back (closing c) (in_core (branch s)) = refl

  again_steps_back : {m : Mode} (x : Again m) (p : ASpot) → steps (again_at x) (again_spot p) ≡ again_steps Waves Kids x p
  again_steps_back again_rests (round t) = refl
  again_steps_back again_rests (in_core (own s)) = refl
  again_steps_back again_rests (in_core (guard q)) = refl
  again_steps_back again_rests (in_core (branch s)) = refl
  again_steps_back (turning (in_control c)) (round t) = refl
  again_steps_back (turning (in_branch a w)) (round t) = refl
  again_steps_back (turning (in_control c)) (in_core (own s)) = refl
  again_steps_back (turning (in_control c)) (in_core (guard q)) = refl
  again_steps_back (turning (in_control c)) (in_core (branch s)) = refl
  again_steps_back (turning (in_branch a w)) (in_core (own s)) = refl
  again_steps_back (turning (in_branch a w)) (in_core (guard q)) = refl
  again_steps_back (turning (in_branch a w)) (in_core (branch s)) = refl
  again_steps_back (closing c) (round t) = refl
  again_steps_back (closing c) (in_core (own s)) = refl
  again_steps_back (closing c) (in_core (guard q)) = refl
  again_steps_back (closing c) (in_core (branch s)) = refl

  pub again_after : {m : Mode} (x : Again m) (s : ASpot) → AgainAfter Waves Kids (story true choices) x s
      → After (choosing true choices) m env (again_at x) (again_spot s)
  again_after x s r =
      let flows = flows_back (again_told_back x) (again_told_back r.to) r.flow in
      record {
        mode = r.mode;
        to = again_at r.to;
        same = again_cells_back r.to ∙ (r.same ∙ (again_turned_back (again_cells Waves Kids x) s
            ∙ ap (λ (y : Cells (choosing true choices)). flipped (choosing true choices) y (again_spot s)) (sym (again_cells_back x))));
        way = r.way;
        fits = again_fits_back r.to r.fits;
        flow = flows.0;
        term = follows_back (again_told_back x) (again_told_back r.to) _ _ (again_steps_back x s) _ _ _ _ (again_left_back x) (again_left_back r.to)
            (step_follows true _ _ _ _ r.term);
        frees = flows.1;
        keeps = λ q ne e. keeps q (again_spot_of q) ne e;
      }
    where
      keeps : (q : Spot (choosing true choices)) → SpottedAgain q → q ≢ again_spot s → moves env (again_at x) q ≡ true → moves env (again_at r.to) q ≡ true
      keeps _ (spotted_again p) ne e = again_all_back r.to p ∙ r.keeps p (λ (z : p ≡ s). ne (ap (λ i. again_spot i) z)) (sym (again_all_back x p) ∙ e)

-- a branch begins, and is let go
pub kid_begun : (P : TypedProgram) (env : Seen) (clean : Clean P env) (choices : Choices) → ChoiceMeets P choices → ChoiceQuiet choices env
    → (i : Index (choice_count choices)) → Begun (choice_branches P env clean choices) i
kid_begun P env clean choices meets quiet i =
    let b = chosen_begun P choices i env meets quiet in
    record {
      place = b.place;
      which = b.which;
      same = b.same;
      fits = b.fits;
      flow = (flow_begun env none_shown (chosen_shown b.place) refl b.offer b.take, λ x h. refl);
      term = b.term;
    }

pub kid_lowered : (P : TypedProgram) (env : Seen) (clean : Clean P env) (choices : Choices) (a : ChosenAt choices answered) → ChosenFits a env
    → Lowered (choice_branches P env clean choices) a
kid_lowered P env clean choices a f =
    let b = chosen_lowered P env clean a f in
    record {
      place = b.place;
      which = b.which;
      same = b.same;
      fits = b.fits;
      shows = ap (λ (x : Shown). let y : Told = (x, chosen_writing env.ack b.place) in y) b.shows
          ∙ ap (λ (w : ℕ → Bool). let y : Told = (chosen_shown a, w) in y)
          (nothing_written env.ack b.place (λ e. cc e) ∙ sym (nothing_written env.ack a (λ e. cc e)));
    }

-- a move of the branch that is under way
pub this_after : (P : TypedProgram) {g : Formula} {p : Process} {more : Choices} {k : Mode} (env : Seen) (clean : Clean P env) (a : At p k) (s : Spot p)
    → After p k env a s → Stepped (choice_branches P env clean (and_choice g p more)) (this_one a) (this_choice s)
this_after P {g = g} {p = p} {more = more} env clean a s r = record {
  mode = r.mode;
  to = this_one r.to;
  which = refl;
  same = ap (λ (x : Cells p). (x, low_choices more)) r.same;
  way = r.way;
  fits = r.fits;
  flow = (r.flow, r.frees);
  term = r.term;
  keeps = keeps;
}
  where
    keeps : (q : ChoiceSpot (and_choice g p more)) → q ≢ this_choice s → chosen_moves env (this_one {g = g} {more = more} a) q ≡ true
        → chosen_moves env (this_one {g = g} {more = more} r.to) q ≡ true
    keeps (this_choice q) ne e = r.keeps q (λ (z : q ≡ s). ne (ap (λ x. this_choice x) z)) e
    keeps (other_choice q) ne e = absurd (cc e)

pub other_after : (P : TypedProgram) {g : Formula} {p : Process} {more : Choices} {k : Mode} (env : Seen) (clean : Clean P env) (a : ChosenAt more k)
    (s : ChoiceSpot more) → Stepped (choice_branches P env clean more) a s
    → Stepped (choice_branches P env clean (and_choice g p more)) (another a) (other_choice s)
other_after P {g = g} {p = p} {more = more} env clean a s r = record {
  mode = r.mode;
  to = another r.to;
  which = ap (λ i. under i) r.which;
  same = ap (λ (x : ChoiceCells more). (low p, x)) r.same;
  way = r.way;
  fits = r.fits;
  flow = r.flow;
  term = r.term;
  keeps = keeps;
}
  where
    keeps : (q : ChoiceSpot (and_choice g p more)) → q ≢ other_choice s → chosen_moves env (another {g = g} {p = p} a) q ≡ true
        → chosen_moves env (another {g = g} {p = p} r.to) q ≡ true
    keeps (this_choice q) ne e = absurd (cc e)
    keeps (other_choice q) ne e = r.keeps q (λ (z : q ≡ s). ne (ap (λ x. other_choice x) z)) e

-- the own nodes of a core
module _ (P : TypedProgram) (env : Seen) (clean : Clean P env) (choices : Choices) (laws : GuardsMeet P choices) (meets : ChoiceMeets P choices) where
  pub core_own : {again : Bool} {m : Mode} (x : CoreAt again (choice_count choices) (GuardCells choices) (heads choices) (ChosenAt choices) m)
      (s : OwnSpot (choice_count choices)) → CoreFits (guards_of P env.bit clean.single choices laws) (choice_branches P env clean choices) x
      → ((k : Line) → choice_sends choices k ≡ true → env.ack k ≡ true
      → (core_shown (guards_of P env.bit clean.single choices laws) (choice_branches P env clean choices) x).0.talk k ≡ true)
      → ((c : ℕ) → choice_receives choices c ≡ true → env.ack (of_channel c) ≡ true
      → (core_shown (guards_of P env.bit clean.single choices laws) (choice_branches P env clean choices) x).0.listen c ≡ true)
      → core_moves (guards_of P env.bit clean.single choices laws) (choice_branches P env clean choices) x (own s) ≡ true
      → CoreAfter (guards_of P env.bit clean.single choices laws) (choice_branches P env clean choices) (story again choices) x (own s)
  core_own {again = again} x s f back hears e =
      own_after (guards_of P env.bit clean.single choices laws) (choice_branches P env clean choices) (story again choices) x s f
      (λ z. kid_begun P env clean choices meets record {
        send = λ k h. low_of (env.ack k) (back k h) (ap (λ (y : Told). y.0.talk k) z);
        receive = λ c h. low_of (env.ack (of_channel c)) (hears c h) (ap (λ (y : Told). y.0.listen c) z);
      })
      (kid_lowered P env clean choices) e

  -- as moves of the statements: of a core's own nodes, of its guards and of its branch
  abbrev W : Guards (choice_count choices) (GuardCells choices) (GuardSpot choices)
  W = guards_of P env.bit clean.single choices laws

  abbrev K : Branches (choice_count choices) (ChoiceCells choices) (ChoiceSpot choices) Told Term
  K = choice_branches P env clean choices

  pub select_own : {m : Mode} (x : CoreAt false (choice_count choices) (GuardCells choices) (heads choices) (ChosenAt choices) m)
      (s : OwnSpot (choice_count choices)) → CoreFits W K x
      → ((k : Line) → choice_sends choices k ≡ true → env.ack k ≡ true → (core_shown W K x).0.talk k ≡ true)
      → ((c : ℕ) → choice_receives choices c ≡ true → env.ack (of_channel c) ≡ true → (core_shown W K x).0.listen c ≡ true)
      → core_moves W K x (own s) ≡ true → After (choosing false choices) m env (at_choice (choice_at x)) (of_core s)
  select_own x s f back hears e = choice_after P env clean choices laws x (own s) (core_own x s f back hears e)

  pub select_guard : {m : Mode} (x : CoreAt false (choice_count choices) (GuardCells choices) (heads choices) (ChosenAt choices) m) (q : GuardSpot choices)
      → CoreFits W K x → core_moves W K x (guard q) ≡ true → After (choosing false choices) m env (at_choice (choice_at x)) (of_guard q)
  select_guard x q f e = choice_after P env clean choices laws x (guard q) (guard_after W K (story false choices) x q f e)

  pub select_branch : {m k : Mode} (a : ChosenAt choices k) (w : Way m k) (s : ChoiceSpot choices) → ChosenFits a env → chosen_moves env a s ≡ true
      → Stepped K a s → After (choosing false choices) m env (at_choice (inside_at a w)) (of_choice s)
  select_branch a w s f e r = choice_after P env clean choices laws (in_branch a w) (branch s) (branch_after W K (story false choices) a w s f e r)

  pub repeat_own : {m : Mode} (x : CoreAt true (choice_count choices) (GuardCells choices) (heads choices) (ChosenAt choices) m)
      (s : OwnSpot (choice_count choices)) → CoreFits W K x
      → ((k : Line) → choice_sends choices k ≡ true → env.ack k ≡ true → (core_shown W K x).0.talk k ≡ true)
      → ((c : ℕ) → choice_receives choices c ≡ true → env.ack (of_channel c) ≡ true → (core_shown W K x).0.listen c ≡ true)
      → core_moves W K x (own s) ≡ true → After (choosing true choices) running env (at_turning (choice_at x)) (of_core s)
  repeat_own x s f back hears e = again_after P env clean choices laws (turning x) (in_core (own s))
      (again_core W K (story true choices) x (own s) (core_own x s f back hears e))

  pub repeat_guard : {m : Mode} (x : CoreAt true (choice_count choices) (GuardCells choices) (heads choices) (ChosenAt choices) m) (q : GuardSpot choices)
      → CoreFits W K x → core_moves W K x (guard q) ≡ true → After (choosing true choices) running env (at_turning (choice_at x)) (of_guard q)
  repeat_guard x q f e = again_after P env clean choices laws (turning x) (in_core (guard q))
      (again_core W K (story true choices) x (guard q) (guard_after W K (story true choices) x q f e))

  pub repeat_branch : {m k : Mode} (a : ChosenAt choices k) (w : Way m k) (s : ChoiceSpot choices) → ChosenFits a env → chosen_moves env a s ≡ true
      → Stepped K a s → After (choosing true choices) running env (at_turning (inside_at a w)) (of_choice s)
  repeat_branch a w s f e r = again_after P env clean choices laws (turning (in_branch a w)) (in_core (branch s))
      (again_core W K (story true choices) (in_branch a w) (branch s) (branch_after W K (story true choices) a w s f e r))

  pub repeat_round : {m : Mode} (x : AgainAt (choice_count choices) (GuardCells choices) (heads choices) (ChosenAt choices) m) (t : RoundSpot)
      → AgainFits W K x → again_moves W K x (round t) ≡ true → After (choosing true choices) m env (again_at x) (of_round t)
  repeat_round x t f e = again_after P env clean choices laws x (round t) (round_after W K (story true choices) x t refl f e)

  pub closing_own : {m : Mode} (c : Closing m) (s : OwnSpot (choice_count choices)) → again_moves W K (closing c) (in_core (own s)) ≡ true
      → After (choosing true choices) m env (at_closing c) (of_core s)
  closing_own c s e = again_after P env clean choices laws (closing c) (in_core (own s)) (closing_after W K (story true choices) c (own s) e)
