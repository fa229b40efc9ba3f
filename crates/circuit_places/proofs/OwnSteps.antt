-- An own node's silent step is at its own place: the term that the nodes' values tell becomes that in which the statement there
-- has made its step.
use Rattle.std.proofs.Common.{◌≡◌, ℕ, zero, suc, Bool, true, false, List, refl, sym, ap, ◌∙◌}
use Rattle.std.specs.Prelude.{if◌then◌else◌, Some}
use Rattle.std.proofs.Math.Path.{fun_ext}
use Rattle.width_check.specs.Processes.{Process, skipping, in_turn, side_by_side, choosing, repeating, Processes, no_members, and_member, member_count, TypedProgram, Choices, choice_count}
use Rattle.chp_meaning.specs.Terms.{Term, Terms, and_branch, finished, active, in_sequence, in_parallel, together, opened, followed, Place, here, in_first, in_branch, statement_at, branch_at, with_left, with_branch}
use Rattle.circuit_places.specs.Lines.{Line, of_channel, Seen}
use Rattle.circuit_places.specs.Heads.{low_bits, Index, hot, turned_bit, alone, over}
use Rattle.circuit_places.specs.Cores.{of_joined, of_ask, of_any, of_latch, of_start, of_answer, of_turn, of_leave}
use Rattle.circuit_places.specs.Circuit.{Bits, cell_bit, joint_count, same_bit, QElementCells, Cells, ChoiceCells, TurnCells, answer, last_answer, tree_answer, branches_answered, low_turn, GuardCells, heads, guards_good, GuardedSpot, Spot, TurnSpot, BranchSpot, ChoiceSpot, child, latch, next, inner, of_skip, of_assign, of_send, of_receive, in_members, of_branch, joint, in_this, in_others, of_loop, ask, in_body, in_last, in_member, in_later, this_choice, other_choice, of_core, of_guard, of_choice, of_round, flipped, turned_guarded, turned_branches, turned_turn, turned_choice}
use Rattle.circuit_places.proofs.HeadFacts.{hot_up}
use Rattle.circuit_places.proofs.RailLemmas.{snd_true}
use Rattle.circuit_places.proofs.Places.{Mode, idle, running, answered, returning, asks, all_ask, link, GuardedAt, At, TurnAt, BranchesAt, g_rests, g_in, g_past, g_back, rests, at_skip, at_assign, at_send, at_receive, at_turn, at_side, at_body, no_more, and_at, turn_rests, at_last, at_member, at_later, at_choice, at_turning, at_closing, control_at, inside_at, ChosenAt, this_one, another, chosen_index, guarded_cells, cells, chosen_cells, branch_cells, turn_cells, turn_of, guarded_shown, shown, chosen_shown, branches_shown, turn_shown, guards_shown, GuardedFits, Fits, ChosenFits, BranchesFit, TurnFits, guarded_moves, moves, chosen_moves, branch_moves, turn_moves, answer_is, next_is, low_turn_answer}
use Rattle.circuit_places.proofs.Links.{never_true}
use Rattle.circuit_places.proofs.CoreControl.{uncalled, called, evaluating, latched, leaving, works, worked, reported, letting, backs, isnt_running}
use Rattle.circuit_places.proofs.Meets.{Meets, TurnMeets, EachMeets, ChoiceMeets, GuardsMeet, sends, turn_sends, receives, each_receives, choice_sends, choice_receives}
use Rattle.circuit_places.proofs.Stepping.{steps, guarded_steps, chosen_steps, branch_steps, turn_steps}
use Rattle.circuit_places.proofs.StepPlaces.{place_of, guarded_place, choice_place, branch_index, branch_place, turn_place}
use Rattle.circuit_places.proofs.TermOf.{part_left, choice_still, guarded_still, branches_still, turn_still, choice_none, choice_latched, part_is}
use Rattle.circuit_places.proofs.Left.{again, body_at, branch_term, Goes, skips, goes_on, chooses, ends, ToldBy, wider, told_wider, inside_stands, NoneRuns, side_done}
use Rattle.circuit_places.proofs.Flow.{Clean, Backed, quiet_of, or_left, or_right}
use Rattle.circuit_places.proofs.Begin.{idle_is, begun}
use Rattle.circuit_places.proofs.Talks.{beside, or_false_left, or_false_right}
use Rattle.circuit_places.proofs.Opens.{open_alone, open_none}
use Rattle.circuit_places.proofs.ChoiceMoves.{agreed}

-- at this place of the term x stands a statement, which makes a silent step and so leaves y
pub record SilentAt (Told : Choices → List Process → Type 0) (x y : Term) (at : Place) : Type 0 where
  pub statement : Process
  pub rest : Term
  pub goes : Goes Told statement rest
  pub stands : statement_at x at ≡ Some statement
  pub then_is : y ≡ with_left x at rest

record SilentInsideAt (Told : Choices → List Process → Type 0) (ts us : Terms) (k : ℕ) (at : Place) : Type 0 where
  statement : Process
  rest : Term
  goes : Goes Told statement rest
  stands : branch_at ts k at ≡ Some statement
  then_is : us ≡ with_branch ts k at rest

module _ (Told : Choices → List Process → Type 0) where
  pub same_step : (x u y v : Term) (at : Place) → u ≡ x → v ≡ y → SilentAt Told x y at → SilentAt Told u v at
  same_step x u y v at e f a = record {
    statement = a.statement;
    rest = a.rest;
    goes = a.goes;
    stands = ap (λ t. statement_at t at) e ∙ a.stands;
    then_is = f ∙ (a.then_is ∙ sym (ap (λ t. with_left t at a.rest) e));
  }

  same_inside : (ts xs us ys : Terms) (k : ℕ) (at : Place) → xs ≡ ts → ys ≡ us → SilentInsideAt Told ts us k at → SilentInsideAt Told xs ys k at
  same_inside ts xs us ys k at e f a = record {
    statement = a.statement;
    rest = a.rest;
    goes = a.goes;
    stands = ap (λ t. branch_at t k at) e ∙ a.stands;
    then_is = f ∙ (a.then_is ∙ sym (ap (λ t. with_branch t k at a.rest) e));
  }

  then_step : (more : Processes) (x y : Term) (at : Place) → SilentAt Told x y at → SilentAt Told (followed x more) (followed y more) (in_first at)
  then_step more finished y at a = absurd (cc a.stands)
  then_step more (active p) y at a =
      record { statement = a.statement; rest = a.rest; goes = a.goes; stands = a.stands; then_is = ap (λ z. followed z more) a.then_is }
  then_step more (in_sequence x others) y at a =
      record { statement = a.statement; rest = a.rest; goes = a.goes; stands = a.stands; then_is = ap (λ z. followed z more) a.then_is }
  then_step more (in_parallel xs) y at a =
      record { statement = a.statement; rest = a.rest; goes = a.goes; stands = a.stands; then_is = ap (λ z. followed z more) a.then_is }

  this_step : (ts : Terms) (x y : Term) (at : Place) → SilentAt Told x y at → SilentInsideAt Told (and_branch x ts) (and_branch y ts) zero at
  this_step ts x y at a =
      record { statement = a.statement; rest = a.rest; goes = a.goes; stands = a.stands; then_is = ap (λ z. and_branch z ts) a.then_is }

  other_step : (x : Term) (ts us : Terms) (k : ℕ) (at : Place) → SilentInsideAt Told ts us k at
      → SilentInsideAt Told (and_branch x ts) (and_branch x us) (suc k) at
  other_step x ts us k at a =
      record { statement = a.statement; rest = a.rest; goes = a.goes; stands = a.stands; then_is = ap (λ z. and_branch x z) a.then_is }

  together_step : (ts us : Terms) (k : ℕ) (at : Place) → SilentInsideAt Told ts us k at → SilentAt Told (together ts) (together us) (in_branch k at)
  together_step ts us k at a =
      let on : together ts ≡ in_parallel ts = ap (λ b. if b then finished else in_parallel ts) (inside_stands ts k at a.statement a.stands) in
      same_step (in_parallel ts) (together ts) (together us) (together us) (in_branch k at) on refl
      (record { statement = a.statement; rest = a.rest; goes = a.goes; stands = a.stands; then_is = ap together a.then_is })

pub step_wider : (T U : Choices → List Process → Type 0) → ((choices : Choices) (ps : List Process) → T choices ps → U choices ps) → (x y : Term) (at : Place)
    → SilentAt T x y at → SilentAt U x y at
step_wider T U f x y at a =
    record { statement = a.statement; rest = a.rest; goes = wider T U f a.statement a.rest a.goes; stands = a.stands; then_is = a.then_is }

inside_wider : (T U : Choices → List Process → Type 0) → ((choices : Choices) (ps : List Process) → T choices ps → U choices ps) → (ts us : Terms) (k : ℕ)
    (at : Place) → SilentInsideAt T ts us k at → SilentInsideAt U ts us k at
inside_wider T U f ts us k at a =
    record { statement = a.statement; rest = a.rest; goes = wider T U f a.statement a.rest a.goes; stands = a.stands; then_is = a.then_is }

-- What doesn't run makes no step.
pub guarded_none : {p : Process} {m : Mode} (g : GuardedAt p m) → (m ≡ running → ⊥) → (s : GuardedSpot p) → guarded_steps g s ≡ false
guarded_none g_rests ne s = refl
guarded_none (g_in u a h) ne s = absurd (ne refl)
guarded_none g_past ne s = refl
guarded_none (g_back u) ne s = refl

branches_none : {members : Processes} {ks : List Mode} (b : BranchesAt members ks) → NoneRuns ks → (s : BranchSpot members) → branch_steps b s ≡ false
branches_none no_more ne s = refl
branches_none (and_at g b) ne (in_this s) = guarded_none g ne.0 s
branches_none (and_at g b) ne (in_others s) = branches_none b ne.1 s

link_none : (m k n : Mode) → (m ≡ running → ⊥) → link m k n ≡ true → n ≡ running → ⊥
link_none running k n ne h e = ne refl
link_none answered answered answered ne h e = cc e
link_none returning returning answered ne h e = cc e
link_none returning idle returning ne h e = cc e
link_none _ _ _ ne h e = absurd (cc h)

mutual
  none : {p : Process} {m : Mode} (a : At p m) → (m ≡ running → ⊥) → (s : Spot p) → steps a s ≡ false
  none rests ne s = refl
  none (at_skip idle h) ne of_skip = absurd (cc h)
  none (at_skip running h) ne of_skip = absurd (ne refl)
  none (at_skip answered h) ne of_skip = refl
  none (at_skip returning h) ne of_skip = refl
  none (at_assign m u h) ne (of_assign s) = refl
  none (at_send m u h) ne (of_send s) = refl
  none (at_receive m k q h) ne (of_receive s) = refl
  none (at_turn t) ne (in_members s) = turn_none t ne s
  none (at_side {members = members} {ks = ks} m t b h) ne (of_branch s) = branches_none b (side_done (member_count members) m ks t h ne) s
  none (at_side m t b h) ne (joint k) = refl
  none (at_body a) ne s = absurd (ne refl)
  none (at_choice (control_at uncalled)) ne (of_core s) = refl
  none (at_choice (control_at called)) ne (of_core s) = absurd (ne refl)
  none (at_choice (control_at (evaluating g))) ne (of_core s) = absurd (ne refl)
  none (at_choice (control_at (latched l i g h))) ne (of_core s) = absurd (ne refl)
  none (at_choice (control_at (leaving y l g h))) ne (of_core s) = absurd (ne refl)
  none (at_choice (inside_at a w)) ne (of_core s) = refl
  none (at_choice x) ne (of_guard s) = refl
  none (at_choice (control_at c)) ne (of_choice s) = refl
  none (at_choice (inside_at a works)) ne (of_choice s) = absurd (ne refl)
  none (at_choice (inside_at a worked)) ne (of_choice s) = absurd (ne refl)
  none (at_choice (inside_at a reported)) ne (of_choice s) = chosen_none a (λ e. cc e) s
  none (at_choice (inside_at a letting)) ne (of_choice s) = chosen_none a (λ e. cc e) s
  none (at_choice (inside_at a (backs any h))) ne (of_choice s) = chosen_none a (λ e. cc (h, ap isnt_running e)) s
  none (at_turning x) ne s = absurd (ne refl)
  none (at_closing c) ne (of_core s) = refl
  none (at_closing c) ne (of_guard s) = refl
  none (at_closing c) ne (of_choice s) = refl
  none (at_closing c) ne (of_round s) = refl

  chosen_none : {choices : Choices} {k : Mode} (a : ChosenAt choices k) → (k ≡ running → ⊥) → (s : ChoiceSpot choices) → chosen_steps a s ≡ false
  chosen_none (this_one a) ne (this_choice s) = none a ne s
  chosen_none (this_one a) ne (other_choice s) = refl
  chosen_none (another a) ne (this_choice s) = refl
  chosen_none (another a) ne (other_choice s) = chosen_none a ne s

  turn_none : {members : Processes} {m : Mode} (t : TurnAt members m) → (m ≡ running → ⊥) → (s : TurnSpot members) → turn_steps t s ≡ false
  turn_none turn_rests ne s = refl
  turn_none (at_last a) ne (in_last s) = none a ne s
  turn_none (at_member g) ne s = absurd (ne refl)
  turn_none (at_later g t h) ne (in_member s) = refl
  turn_none (at_later {k = k} {n = n} {m = m} g t h) ne (in_later s) = turn_none t (link_none m k n ne h) s

-- what doesn't run
idle_apart : idle ≡ running → ⊥
idle_apart e = cc e

answered_apart : answered ≡ running → ⊥
answered_apart e = cc e

returning_apart : returning ≡ running → ⊥
returning_apart e = cc e

never : {A : Type 0} (b : Bool) → b ≡ false → b ≡ true → A
never b e h = absurd (cc (e, h))

-- the parts of a sequence
module _ (p q : Process) (more : Processes) (ack : Line → Bool) (x : QElementCells (Cells p)) where
  member_part : x.next ≡ false → part_left (in_turn (and_member p (and_member q more))) ack (turn_of p q more x (low_turn (and_member q more)))
      ≡ followed (guarded_still p ack x) (and_member q more)
  member_part e =
      ap (λ b. if b then finished else turn_still (and_member p (and_member q more)) ack (turn_of p q more x (low_turn (and_member q more))))
      (low_turn_answer (and_member q more))
      ∙ ap (λ b. if b then turn_still (and_member q more) ack (low_turn (and_member q more)) else followed (guarded_still p ack x) (and_member q more)) e

  later_part : (y : TurnCells (and_member q more)) → x.next ≡ true
      → part_left (in_turn (and_member p (and_member q more))) ack (turn_of p q more x y) ≡ part_left (in_turn (and_member q more)) ack y
  later_part y e = ap (λ b. if last_answer (and_member q more) y then finished else (if b then turn_still (and_member q more) ack y
      else followed (guarded_still p ack x) (and_member q more))) e

-- a silent step turns no end of a branch
pub guarded_next : {p : Process} (g : GuardedAt p running) (s : GuardedSpot p) → guarded_steps g s ≡ true
    → (turned_guarded p (guarded_cells g) s).next ≡ (guarded_cells g).next
guarded_next (g_in u a h) (inner s) z = refl
guarded_next (g_in u a h) child z = absurd (cc z)
guarded_next (g_in u a h) latch z = absurd (cc z)
guarded_next (g_in u a h) next z = absurd (cc z)

branches_next : {members : Processes} {ks : List Mode} (b : BranchesAt members ks) (s : BranchSpot members) → branch_steps b s ≡ true → (i : ℕ)
    → branches_answered members (turned_branches members (branch_cells b) s) i ≡ branches_answered members (branch_cells b) i
branches_next no_more s z i = refl
branches_next (and_at {k = running} g b) (in_this s) z zero = guarded_next g s z
branches_next (and_at {k = idle} g b) (in_this s) z zero = never _ (guarded_none g (λ e. cc e) s) z
branches_next (and_at {k = answered} g b) (in_this s) z zero = never _ (guarded_none g (λ e. cc e) s) z
branches_next (and_at {k = returning} g b) (in_this s) z zero = never _ (guarded_none g (λ e. cc e) s) z
branches_next (and_at g b) (in_this s) z (suc i) = refl
branches_next (and_at g b) (in_others s) z zero = refl
branches_next (and_at g b) (in_others s) z (suc i) = branches_next b s z i

-- what is left of a branch that is under way, before and after the move
record ChosenStep (Told : Choices → List Process → Type 0) (before after : Term) (wrap : Term → Term) (at : Place) : Type 0 where
  x : Term
  y : Term
  was : before ≡ wrap x
  becomes : after ≡ wrap y
  act : SilentAt Told x y at

module _ (P : TypedProgram) (env : Seen) (clean : Clean P env) where
  -- the choice of a branch, and the end of a repetition
  latch_step : (again : Bool) (choices : Choices) → GuardsMeet P choices → (g : GuardCells choices) → guards_good choices env.bit true g ≡ true
      → (j : Index (choice_count choices)) → alone j (heads choices g) ≡ true
      → SilentAt (ToldBy env (guards_shown true choices).read) (active (choosing again choices)) (branch_term again choices (opened (body_at choices j))) here
  latch_step again choices laws g good j e = record {
    statement = choosing again choices;
    rest = branch_term again choices (opened (body_at choices j));
    goes = chooses j (λ store agree. open_alone P env.bit clean.single store choices laws
        (agreed P env clean choices laws (guards_shown true choices).read (λ x h. h) store agree) g good j e);
    stands = refl;
    then_is = refl;
  }

  end_step : (choices : Choices) → GuardsMeet P choices → (g : GuardCells choices) → guards_good choices env.bit true g ≡ true
      → over (choice_count choices) (heads choices g) ≡ true
      → SilentAt (ToldBy env (guards_shown true choices).read) (active (choosing true choices)) finished here
  end_step choices laws g good e = record {
    statement = choosing true choices;
    rest = finished;
    goes = ends (λ store agree. open_none P env.bit clean.single store choices laws
        (agreed P env clean choices laws (guards_shown true choices).read (λ x h. h) store agree) g good e);
    stands = refl;
    then_is = refl;
  }

  latch_up : (choices : Choices) (j : Index (choice_count choices)) (x : ChoiceCells choices) (none : Term) (wrap : Term → Term)
      → choice_still choices env.ack (turned_bit j (low_bits (choice_count choices))) (low_bits (choice_count choices)) x none wrap
      ≡ wrap (opened (body_at choices j))
  latch_up choices j x none wrap =
      ap (λ (l : Bits (choice_count choices)). choice_still choices env.ack l (low_bits (choice_count choices)) x none wrap) (sym (hot_up j))
      ∙ choice_latched choices env.ack j x none wrap

  mutual
    pub guarded_step : {p : Process} (g : GuardedAt p running) → Meets P p → GuardedFits g env → Backed p (guarded_shown g) env → (s : GuardedSpot p)
        → guarded_moves env g s ≡ true → guarded_steps g s ≡ true
        → SilentAt (ToldBy env (guarded_shown g).read) (guarded_still p env.ack (guarded_cells g))
        (guarded_still p env.ack (turned_guarded p (guarded_cells g) s)) (guarded_place s)
    guarded_step (g_in {m = running} false a h) meets f back (inner s) e z = step a meets f record { send = back.send; receive = back.receive } s e z
    guarded_step (g_in {m = idle} u a h) meets f back (inner s) e z = never _ (none a idle_apart s) z
    guarded_step (g_in {m = answered} u a h) meets f back (inner s) e z = never _ (none a answered_apart s) z
    guarded_step (g_in {m = returning} u a h) meets f back (inner s) e z = never _ (none a returning_apart s) z
    guarded_step (g_in {m = running} true a h) meets f back (inner s) e z = absurd (never_true h)
    guarded_step (g_in u a h) meets f back child e z = absurd (never_true z)
    guarded_step (g_in u a h) meets f back latch e z = absurd (never_true z)
    guarded_step (g_in u a h) meets f back next e z = absurd (never_true z)

    step : {p : Process} (a : At p running) → Meets P p → Fits a env → Backed p (shown a) env → (s : Spot p) → moves env a s ≡ true → steps a s ≡ true
        → SilentAt (ToldBy env (shown a).read) (part_left p env.ack (cells a)) (part_left p env.ack (flipped p (cells a) s)) (place_of s)
    step (at_skip _ h) meets f back of_skip e z = record { statement = skipping; rest = finished; goes = skips; stands = refl; then_is = refl }
    step (at_assign m u h) meets f back (of_assign s) e z = absurd (never_true z)
    step (at_send m u h) meets f back (of_send s) e z = absurd (never_true z)
    step (at_receive m k q h) meets f back (of_receive s) e z = absurd (never_true z)
    step (at_turn t) meets f back (in_members s) e z = turn_step t meets f record { send = back.send; receive = back.receive } s e z
    step (at_side _ t b h) meets f back (joint k) e z = absurd (never_true z)
    step (at_side {members = members} {ks = ks} _ t b h) meets f back (of_branch s) e z =
        let n = member_count members in
        let before : answer (side_by_side members) (cells (at_side running t b h)) ≡ false = answer_is (at_side running t b h) in
        let ends_stay : branches_answered members (turned_branches members (branch_cells b) s) ≡ branches_answered members (branch_cells b) =
        fun_ext (branches_next b s z) in
        let after : tree_answer n (branches_answered members (turned_branches members (branch_cells b) s)) (cell_bit (joint_count n) t) ≡ false =
        ap (λ (l : ℕ → Bool). tree_answer n l (cell_bit (joint_count n) t)) ends_stay ∙ before in
        same_step (ToldBy env (branches_shown b).read) (together (branches_still members env.ack (branch_cells b)))
        (part_left (side_by_side members) env.ack (cells (at_side running t b h)))
        (together (branches_still members env.ack (turned_branches members (branch_cells b) s)))
        (part_left (side_by_side members) env.ack (flipped (side_by_side members) (cells (at_side running t b h)) (of_branch s)))
        (in_branch (branch_index s) (branch_place s))
        (ap (λ c. if c then finished else together (branches_still members env.ack (branch_cells b))) before)
        (ap (λ c. if c then finished else together (branches_still members env.ack (turned_branches members (branch_cells b) s))) after)
        (together_step (ToldBy env (branches_shown b).read) (branches_still members env.ack (branch_cells b))
        (branches_still members env.ack (turned_branches members (branch_cells b) s)) (branch_index s) (branch_place s)
        (branches_step b h.asked meets.2 f record { send = back.send; receive = back.receive } s e z))
    step (at_body {p = p} {m = idle} a) meets f back ask e z =
        let quiet = quiet_of env (shown a) (idle_is a).1 record { send = back.send; receive = back.receive } in
        let b = begun P p env meets quiet in
        let opens : part_left p env.ack (cells a) ≡ opened p =
        ap (part_left p env.ack) ((idle_is a).0 ∙ sym b.same) ∙ (part_is env.ack b.place refl ∙ b.term) in
        record {
          statement = repeating p;
          rest = followed (opened p) (again p);
          goes = goes_on;
          stands = refl;
          then_is = ap (λ t. followed t (again p)) opens;
        }
    step (at_body {m = running} a) meets f back ask e z = absurd (cc e)
    step (at_body {m = answered} a) meets f back ask e z = absurd (never_true z)
    step (at_body {m = returning} a) meets f back ask e z = absurd (cc e)
    step (at_body {p = p} {m = running} a) meets f back (in_body s) e z =
        then_step (ToldBy env (shown a).read) (again p) (part_left p env.ack (cells a)) (part_left p env.ack (flipped p (cells a) s)) (place_of s)
        (step a meets f record { send = back.send; receive = back.receive } s e z)
    step (at_body {m = idle} a) meets f back (in_body s) e z = never _ (none a idle_apart s) z
    step (at_body {m = answered} a) meets f back (in_body s) e z = never _ (none a answered_apart s) z
    step (at_body {m = returning} a) meets f back (in_body s) e z = never _ (none a returning_apart s) z
    step (at_body a) meets f back of_loop e z = absurd (never_true z)
    step (at_choice (control_at called)) meets f back (of_core s) e z = absurd (never_true z)
    step (at_choice {choices = choices} (control_at (evaluating g))) meets f back (of_core (of_latch j)) e z =
        same_step (ToldBy env (guards_shown true choices).read) (active (choosing false choices)) _ (opened (body_at choices j)) _ here
        (choice_none choices env.ack _ (active (choosing false choices)) (λ t. t)) (latch_up choices j _ (active (choosing false choices)) (λ t. t))
        (latch_step false choices meets.1 g f j e)
    step (at_choice (control_at (evaluating g))) meets f back (of_core of_joined) e z = absurd (never_true z)
    step (at_choice (control_at (evaluating g))) meets f back (of_core of_ask) e z = absurd (never_true z)
    step (at_choice (control_at (evaluating g))) meets f back (of_core of_any) e z = absurd (never_true z)
    step (at_choice (control_at (evaluating g))) meets f back (of_core (of_start j)) e z = absurd (never_true z)
    step (at_choice (control_at (latched l i g h))) meets f back (of_core s) e z = absurd (never_true z)
    step (at_choice (control_at (leaving y l g h))) meets f back (of_core s) e z = absurd (cc y)
    step (at_choice (inside_at a w)) meets f back (of_core s) e z = absurd (never_true z)
    step (at_choice x) meets f back (of_guard s) e z = absurd (never_true z)
    step (at_choice (control_at c)) meets f back (of_choice s) e z = absurd (never_true z)
    step (at_choice {choices = choices} (inside_at a works)) meets f back (of_choice s) e z =
        let r = chosen_step a meets.2 f back.send back.receive true (active (choosing false choices)) (λ t. t) s e z in
        same_step (ToldBy env (chosen_shown a).read) r.x _ r.y _ (choice_place s) r.was r.becomes r.act
    step (at_choice (inside_at a worked)) meets f back (of_choice s) e z = never _ (chosen_none a answered_apart s) z
    step (at_turning (control_at uncalled)) meets f back (of_core s) e z = absurd (never_true z)
    step (at_turning (control_at called)) meets f back (of_core s) e z = absurd (never_true z)
    step (at_turning {choices = choices} (control_at (evaluating g))) meets f back (of_core (of_latch j)) e z =
        same_step (ToldBy env (guards_shown true choices).read) (active (choosing true choices)) _
        (branch_term true choices (opened (body_at choices j))) _ here
        (choice_none choices env.ack _ (active (choosing true choices)) (branch_term true choices))
        (latch_up choices j _ (active (choosing true choices)) (branch_term true choices))
        (latch_step true choices meets.1 g f j e)
    step (at_turning (control_at (evaluating g))) meets f back (of_core of_joined) e z = absurd (never_true z)
    step (at_turning (control_at (evaluating g))) meets f back (of_core of_ask) e z = absurd (never_true z)
    step (at_turning (control_at (evaluating g))) meets f back (of_core of_any) e z = absurd (never_true z)
    step (at_turning (control_at (evaluating g))) meets f back (of_core (of_start j)) e z = absurd (never_true z)
    step (at_turning (control_at (latched l i g h))) meets f back (of_core s) e z = absurd (never_true z)
    step (at_turning (control_at (leaving y l g h))) meets f back (of_core s) e z = absurd (never_true z)
    step (at_turning (inside_at a w)) meets f back (of_core s) e z = absurd (never_true z)
    step (at_turning x) meets f back (of_guard s) e z = absurd (never_true z)
    step (at_turning (control_at c)) meets f back (of_choice s) e z = absurd (never_true z)
    step (at_turning {choices = choices} (inside_at a works)) meets f back (of_choice s) e z =
        let r = chosen_step a meets.2 f back.send back.receive true (active (choosing true choices)) (branch_term true choices) s e z in
        same_step (ToldBy env (chosen_shown a).read) (branch_term true choices r.x) _ (branch_term true choices r.y) _ (in_first (choice_place s))
        r.was r.becomes
        (then_step (ToldBy env (chosen_shown a).read) (and_member (choosing true choices) no_members) r.x r.y (choice_place s) r.act)
    step (at_turning (inside_at a worked)) meets f back (of_choice s) e z = never _ (chosen_none a answered_apart s) z
    step (at_turning (inside_at a reported)) meets f back (of_choice s) e z = never _ (chosen_none a answered_apart s) z
    step (at_turning (inside_at a letting)) meets f back (of_choice s) e z = never _ (chosen_none a answered_apart s) z
    step (at_turning (inside_at a (backs any h))) meets f back (of_choice s) e z = never _ (chosen_none a (λ i. cc (h, ap isnt_running i)) s) z
    step (at_turning {choices = choices} (control_at (evaluating g))) meets f back (of_round of_leave) e z =
        same_step (ToldBy env (guards_shown true choices).read) (active (choosing true choices)) _ finished _ here
        (choice_none choices env.ack _ (active (choosing true choices)) (branch_term true choices)) refl
        (end_step choices meets.1 g f e)
    step (at_turning (control_at (evaluating g))) meets f back (of_round of_answer) e z = absurd (never_true z)
    step (at_turning (control_at (evaluating g))) meets f back (of_round of_turn) e z = absurd (never_true z)
    step (at_turning (control_at uncalled)) meets f back (of_round t) e z = absurd (never_true z)
    step (at_turning (control_at called)) meets f back (of_round t) e z = absurd (never_true z)
    step (at_turning (control_at (latched l i g h))) meets f back (of_round t) e z = absurd (never_true z)
    step (at_turning (control_at (leaving y l g h))) meets f back (of_round t) e z = absurd (never_true z)
    step (at_turning (inside_at a w)) meets f back (of_round t) e z = absurd (never_true z)
    step (at_closing c) meets f back s e z = elim c [ ]

    chosen_step : {choices : Choices} (a : ChosenAt choices running) → ChoiceMeets P choices → ChosenFits a env
        → ((j : Line) → choice_sends choices j ≡ true → env.ack j ≡ true → (chosen_shown a).talk j ≡ true)
        → ((c : ℕ) → choice_receives choices c ≡ true → env.ack (of_channel c) ≡ true → (chosen_shown a).listen c ≡ true)
        → (b : Bool) (none : Term) (wrap : Term → Term) (s : ChoiceSpot choices) → chosen_moves env a s ≡ true → chosen_steps a s ≡ true
        → ChosenStep (ToldBy env (chosen_shown a).read)
        (choice_still choices env.ack (hot (chosen_index a) b) (hot (chosen_index a) true) (chosen_cells a) none wrap)
        (choice_still choices env.ack (hot (chosen_index a) b) (hot (chosen_index a) true) (turned_choice choices (chosen_cells a) s) none wrap)
        wrap (choice_place s)
    chosen_step (this_one {p = p} {more = more} a) meets f back hears b none wrap (this_choice s) e z = record {
      x = part_left p env.ack (cells a);
      y = part_left p env.ack (flipped p (cells a) s);
      was = refl;
      becomes = refl;
      act = step a meets.0 f record {
        send = λ j h. back j (or_left (sends p j) (choice_sends more j) h);
        receive = λ c h. hears c (or_left (receives p c) (choice_receives more c) h);
      } s e z;
    }
    chosen_step (this_one a) meets f back hears b none wrap (other_choice s) e z = absurd (never_true z)
    chosen_step (another {p = p} {more = more} a) meets f back hears b none wrap (other_choice s) e z =
        let r = chosen_step a meets.1 f (λ j h. back j (or_right (sends p j) (choice_sends more j) h))
        (λ c h. hears c (or_right (receives p c) (choice_receives more c) h)) b none wrap s e z in
        record { x = r.x; y = r.y; was = r.was; becomes = r.becomes; act = r.act }
    chosen_step (another a) meets f back hears b none wrap (this_choice s) e z = absurd (never_true z)

    branches_step : {members : Processes} {ks : List Mode} (b : BranchesAt members ks) → all_ask true ks ≡ true → EachMeets P members → BranchesFit b env
        → Backed (side_by_side members) (branches_shown b) env → (s : BranchSpot members) → branch_moves env b s ≡ true → branch_steps b s ≡ true
        → SilentInsideAt (ToldBy env (branches_shown b).read) (branches_still members env.ack (branch_cells b))
        (branches_still members env.ack (turned_branches members (branch_cells b) s)) (branch_index s) (branch_place s)
    branches_step no_more h meets f back s e z = absurd (never_true z)
    branches_step (and_at {p = p} {more = more} {k = running} g b) h meets f back (in_this s) e z =
        let low : (guarded_cells g).next ≡ false = next_is g in
        let stays : (turned_guarded p (guarded_cells g) s).next ≡ false = guarded_next g s z ∙ low in
        let told : (choices : Choices) (ps : List Process) → ToldBy env (guarded_shown g).read choices ps
        → ToldBy env (branches_shown (and_at g b)).read choices ps =
        told_wider env (guarded_shown g).read (branches_shown (and_at g b)).read
        (λ v i. or_left ((guarded_shown g).read v) ((branches_shown b).read v) i) in
        same_inside (ToldBy env (branches_shown (and_at g b)).read)
        (and_branch (guarded_still p env.ack (guarded_cells g)) (branches_still more env.ack (branch_cells b))) _
        (and_branch (guarded_still p env.ack (turned_guarded p (guarded_cells g) s)) (branches_still more env.ack (branch_cells b))) _ zero (guarded_place s)
        (ap (λ c. and_branch (if c then finished else guarded_still p env.ack (guarded_cells g)) (branches_still more env.ack (branch_cells b))) low)
        (ap (λ c. and_branch (if c then finished else guarded_still p env.ack (turned_guarded p (guarded_cells g) s))
        (branches_still more env.ack (branch_cells b))) stays)
        (this_step (ToldBy env (branches_shown (and_at g b)).read) (branches_still more env.ack (branch_cells b))
        (guarded_still p env.ack (guarded_cells g)) (guarded_still p env.ack (turned_guarded p (guarded_cells g) s)) (guarded_place s)
        (step_wider (ToldBy env (guarded_shown g).read) (ToldBy env (branches_shown (and_at g b)).read) told
        (guarded_still p env.ack (guarded_cells g)) (guarded_still p env.ack (turned_guarded p (guarded_cells g) s)) (guarded_place s)
        (guarded_step g meets.0 f.0 record {
          send = λ k i y. sym (or_false_right ((guarded_shown g).talk k) ((branches_shown b).talk k) ((beside meets.1 g b).not_theirs k i))
              ∙ back.send k (or_left (sends p k) (turn_sends more k) i) y;
          receive = λ c i y. sym (or_false_right ((guarded_shown g).listen c) ((branches_shown b).listen c) ((beside meets.1 g b).deaf_theirs c i))
              ∙ back.receive c (or_left (receives p c) (each_receives more c) i) y;
        } s e z)))
    branches_step (and_at {k = idle} g b) h meets f back (in_this s) e z = never _ (guarded_none g idle_apart s) z
    branches_step (and_at {k = answered} g b) h meets f back (in_this s) e z = never _ (guarded_none g answered_apart s) z
    branches_step (and_at {k = returning} g b) h meets f back (in_this s) e z = never _ (guarded_none g returning_apart s) z
    branches_step (and_at {p = p} {more = more} {k = k} {ks = ks} g b) h meets f back (in_others s) e z =
        let told : (choices : Choices) (ps : List Process) → ToldBy env (branches_shown b).read choices ps
        → ToldBy env (branches_shown (and_at g b)).read choices ps =
        told_wider env (branches_shown b).read (branches_shown (and_at g b)).read
        (λ v i. or_right ((guarded_shown g).read v) ((branches_shown b).read v) i) in
        other_step (ToldBy env (branches_shown (and_at g b)).read) (if (guarded_cells g).next then finished else guarded_still p env.ack (guarded_cells g))
        (branches_still more env.ack (branch_cells b)) (branches_still more env.ack (turned_branches more (branch_cells b) s)) (branch_index s)
        (branch_place s)
        (inside_wider (ToldBy env (branches_shown b).read) (ToldBy env (branches_shown (and_at g b)).read) told
        (branches_still more env.ack (branch_cells b)) (branches_still more env.ack (turned_branches more (branch_cells b) s)) (branch_index s)
        (branch_place s)
        (branches_step b (snd_true (same_bit (asks k) true) (all_ask true ks) h) meets.2 f.1 record {
          send = λ j i y. sym (or_false_left ((guarded_shown g).talk j) ((branches_shown b).talk j) ((beside meets.1 g b).not_mine j i))
              ∙ back.send j (or_right (sends p j) (turn_sends more j) i) y;
          receive = λ c i y. sym (or_false_left ((guarded_shown g).listen c) ((branches_shown b).listen c) ((beside meets.1 g b).deaf_mine c i))
              ∙ back.receive c (or_right (receives p c) (each_receives more c) i) y;
        } s e z))

    turn_step : {members : Processes} (t : TurnAt members running) → TurnMeets P members → TurnFits t env → Backed (in_turn members) (turn_shown t) env
        → (s : TurnSpot members) → turn_moves env t s ≡ true → turn_steps t s ≡ true
        → SilentAt (ToldBy env (turn_shown t).read) (part_left (in_turn members) env.ack (turn_cells t))
        (part_left (in_turn members) env.ack (turned_turn members (turn_cells t) s)) (turn_place s)
    turn_step (at_last {p = p} a) meets f back (in_last s) e z = step a meets f record {
      send = λ k h. back.send k (or_left (sends p k) false h);
      receive = λ c h. back.receive c (or_left (receives p c) false h);
    } s e z
    turn_step (at_member {p = p} {q = q} {more = more} g) meets f back (in_member s) e z =
        let low : (guarded_cells g).next ≡ false = next_is g in
        let stays : (turned_guarded p (guarded_cells g) s).next ≡ false = guarded_next g s z ∙ low in
        same_step (ToldBy env (guarded_shown g).read) (followed (guarded_still p env.ack (guarded_cells g)) (and_member q more)) _
        (followed (guarded_still p env.ack (turned_guarded p (guarded_cells g) s)) (and_member q more)) _ (in_first (guarded_place s))
        (member_part p q more env.ack (guarded_cells g) low) (member_part p q more env.ack (turned_guarded p (guarded_cells g) s) stays)
        (then_step (ToldBy env (guarded_shown g).read) (and_member q more) (guarded_still p env.ack (guarded_cells g))
        (guarded_still p env.ack (turned_guarded p (guarded_cells g) s)) (guarded_place s)
        (guarded_step g meets.0 f record {
          send = λ k h. back.send k (or_left (sends p k) (turn_sends (and_member q more) k) h);
          receive = λ c h. back.receive c (or_left (receives p c) (each_receives (and_member q more) c) h);
        } s e z))
    turn_step (at_member g) meets f back (in_later s) e z = absurd (never_true z)
    turn_step (at_later g t h) meets f back (in_member s) e z = absurd (never_true z)
    turn_step (at_later {p = p} {q = q} {more = more} {k = answered} {n = running} g t h) meets f back (in_later s) e z =
        same_step (ToldBy env (turn_shown t).read) (part_left (in_turn (and_member q more)) env.ack (turn_cells t)) _
        (part_left (in_turn (and_member q more)) env.ack (turned_turn (and_member q more) (turn_cells t) s)) _ (turn_place s)
        (later_part p q more env.ack (guarded_cells g) (turn_cells t) (next_is g))
        (later_part p q more env.ack (guarded_cells g) (turned_turn (and_member q more) (turn_cells t) s) (next_is g))
        (turn_step t meets.1 f record {
          send = λ k i. back.send k (or_right (sends p k) (turn_sends (and_member q more) k) i);
          receive = λ c i. back.receive c (or_right (receives p c) (each_receives (and_member q more) c) i);
        } s e z)
    turn_step (at_later g t h) meets f back (in_later s) e z = absurd (never_true h)
