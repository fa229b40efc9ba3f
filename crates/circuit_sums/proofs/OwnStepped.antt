-- Each silent step of a statement's own nodes lets no own silent move begin but of a shorter trail than the step's phase.
--
-- P: the program; K: how many moves follow the falls of lines; env: what the statement sees; a, g, b, t: where it is; s: a spot; behind: that a high
-- acknowledge has its site under way; e: that the spot's move is enabled; z: that it is a step.
use Rattle.std.proofs.Common.{◌≡◌, ℕ, ◌+◌, ◌-◌, Bool, true, false, List, refl, sym, ap, ◌∙◌}
use Rattle.width_check.specs.Processes.{Process, side_by_side, in_turn, Processes, and_member, member_count, Choices, TypedProgram}
use Rattle.circuit_places.specs.Lines.{Line, of_channel, Seen}
use Rattle.circuit_places.specs.Cores.{of_joined, of_ask, of_any, of_latch, of_start, of_answer, of_turn, of_leave}
use Rattle.function_blocks.specs.Rails.{same_bit}
use Rattle.circuit_places.specs.Circuit.{low_turn, GuardedSpot, child, latch, next, inner, Spot, of_skip, of_assign, of_send, of_receive, in_members, of_branch, joint, of_loop, ask, in_body, of_core, of_guard, of_choice, of_round, ChoiceSpot, this_choice, other_choice, BranchSpot, in_this, in_others, TurnSpot, in_last, in_member, in_later}
use Rattle.circuit_places.proofs.RailLemmas.{fst_true, snd_true, same_value}
use Rattle.circuit_places.proofs.Flow.{Backed, or_left, or_right}
use Rattle.circuit_places.proofs.Meets.{Meets, TurnMeets, EachMeets, ChoiceMeets, choice_sends, choice_receives, sends, turn_sends, receives, each_receives}
use Rattle.circuit_places.proofs.Talks.{beside, or_false_left, or_false_right}
use Rattle.circuit_places.proofs.Left.{NoneRuns, side_done}
use Rattle.circuit_places.proofs.OwnSteps.{guarded_none}
use Rattle.circuit_places.proofs.CoreControl.{uncalled, called, evaluating, latched, leaving, works, worked, reported, letting, backs, isnt_running}
use Rattle.circuit_places.proofs.Places.{Mode, idle, running, answered, returning, asks, all_ask, link, GuardedAt, g_in, At, rests, at_skip, at_assign, at_send, at_receive, at_turn, at_side, at_body, at_choice, at_turning, at_closing, control_at, inside_at, ChosenAt, this_one, another, BranchesAt, no_more, and_at, TurnAt, turn_rests, at_last, at_member, at_later, guarded_shown, shown, chosen_shown, branches_shown, turn_shown, guarded_moves, moves, chosen_moves, branch_moves, turn_moves}
use Rattle.circuit_places.proofs.Stepping.{steps, guarded_steps, chosen_steps, branch_steps as branch_does, turn_steps}
use Rattle.round_time.specs.Longest.{guards_depth, tree_height, turn_first}
use Rattle.circuit_time.proofs.Trails.{Clearing, turn_back}
use Rattle.circuit_pace.proofs.Never.{never}
use Rattle.circuit_pace.proofs.CoreTrails.{selecting, turning, room_selecting, room_turning}
use Rattle.circuit_sums.proofs.Phases.{guarded_phase, spot_phase, choice_phase, branch_phase, turn_phase}
use Rattle.circuit_sums.proofs.StepTrails.{Stepped, GuardedStepped, TurnStepped, BranchStepped, skip_stepped, ask_stepped, body_stepped, inner_stepped, last_stepped, member_stepped, later_stepped, turn_stepped, this_stepped, others_stepped, side_stepped}
use Rattle.circuit_sums.proofs.StepCores.{latch_rises, ChosenStepped, this_chosen, other_chosen, branch_steps, select_latched, select_stepped, turn_latched, turn_stepped as turning_stepped, leave_rises}

-- ---- what isn't running makes no step

pub no_step : {A : Type 0} (b : Bool) → b ≡ false → b ≡ true → A
no_step b e h = absurd (cc (e, h))

branches_none : {members : Processes} {ks : List Mode} (b : BranchesAt members ks) → NoneRuns ks → (s : BranchSpot members) → branch_does b s ≡ false
branches_none no_more ne s = refl
branches_none (and_at g b) ne (in_this s) = guarded_none g ne.0 s
branches_none (and_at g b) ne (in_others s) = branches_none b ne.1 s

link_none : (m k n : Mode) → (m ≡ running → ⊥) → link m k n ≡ true → n ≡ running → ⊥
link_none running k n ne h e = ne refl
link_none answered answered answered ne h e = cc e
link_none returning returning answered ne h e = cc e
link_none returning idle returning ne h e = cc e
link_none _ _ _ ne h e = absurd (cc h)

mutual
  pub none : {p : Process} {m : Mode} (a : At p m) → (m ≡ running → ⊥) → (s : Spot p) → steps a s ≡ false
  none rests ne s = refl
  none (at_skip idle h) ne of_skip = absurd (cc h)
  none (at_skip running h) ne of_skip = absurd (ne refl)
  none (at_skip answered h) ne of_skip = refl
  none (at_skip returning h) ne of_skip = refl
  none (at_assign m u h) ne (of_assign s) = refl
  none (at_send m u h) ne (of_send s) = refl
  none (at_receive m k q h) ne (of_receive s) = refl
  none (at_turn t) ne (in_members s) = turn_none t ne s
  none (at_side {members = members} {ks = ks} m t b h) ne (of_branch s) = branches_none b (side_done (member_count members) m ks t h ne) s
  none (at_side m t b h) ne (joint k) = refl
  none (at_body a) ne s = absurd (ne refl)
  none (at_choice (control_at uncalled)) ne (of_core s) = refl
  none (at_choice (control_at called)) ne (of_core s) = absurd (ne refl)
  none (at_choice (control_at (evaluating g))) ne (of_core s) = absurd (ne refl)
  none (at_choice (control_at (latched l i g h))) ne (of_core s) = absurd (ne refl)
  none (at_choice (control_at (leaving y l g h))) ne (of_core s) = absurd (ne refl)
  none (at_choice (inside_at a w)) ne (of_core s) = refl
  none (at_choice x) ne (of_guard s) = refl
  none (at_choice (control_at c)) ne (of_choice s) = refl
  none (at_choice (inside_at a works)) ne (of_choice s) = absurd (ne refl)
  none (at_choice (inside_at a worked)) ne (of_choice s) = absurd (ne refl)
  none (at_choice (inside_at a reported)) ne (of_choice s) = chosen_none a (λ e. cc e) s
  none (at_choice (inside_at a letting)) ne (of_choice s) = chosen_none a (λ e. cc e) s
  none (at_choice (inside_at a (backs any h))) ne (of_choice s) = chosen_none a (λ e. cc (h, ap isnt_running e)) s
  none (at_turning x) ne s = absurd (ne refl)
  none (at_closing c) ne (of_core s) = refl
  none (at_closing c) ne (of_guard s) = refl
  none (at_closing c) ne (of_choice s) = refl
  none (at_closing c) ne (of_round s) = refl

  pub chosen_none : {choices : Choices} {k : Mode} (a : ChosenAt choices k) → (k ≡ running → ⊥) → (s : ChoiceSpot choices) → chosen_steps a s ≡ false
  chosen_none (this_one a) ne (this_choice s) = none a ne s
  chosen_none (this_one a) ne (other_choice s) = refl
  chosen_none (another a) ne (this_choice s) = refl
  chosen_none (another a) ne (other_choice s) = chosen_none a ne s

  pub turn_none : {members : Processes} {m : Mode} (t : TurnAt members m) → (m ≡ running → ⊥) → (s : TurnSpot members) → turn_steps t s ≡ false
  turn_none turn_rests ne s = refl
  turn_none (at_last a) ne (in_last s) = none a ne s
  turn_none (at_member g) ne s = absurd (ne refl)
  turn_none (at_later g t h) ne (in_member s) = refl
  turn_none (at_later {k = k} {n = n} {m = m} g t h) ne (in_later s) = turn_none t (link_none m k n ne h) s

idle_apart : idle ≡ running → ⊥
idle_apart e = cc e

answered_apart : answered ≡ running → ⊥
answered_apart e = cc e

returning_apart : returning ≡ running → ⊥
returning_apart e = cc e

module _ (P : TypedProgram) (K : Clearing) (env : Seen) where
  mutual
    pub guarded_stepped : (plus minus : ℕ) {p : Process} (g : GuardedAt p running) → Meets P p → Backed p (guarded_shown g) env → (s : GuardedSpot p)
        → guarded_moves env g s ≡ true → guarded_steps g s ≡ true → GuardedStepped P K plus minus p env g s (guarded_phase P plus p s)
    guarded_stepped plus minus (g_in {m = running} false a h) meets behind (inner s) e z = inner_stepped P K env plus minus a h s _
        (stepped 2 (1 + plus) a meets record { send = behind.send; receive = behind.receive } s e z)
    guarded_stepped plus minus (g_in {m = running} true a h) meets behind (inner s) e z = never h
    guarded_stepped plus minus (g_in {m = idle} u a h) meets behind (inner s) e z = no_step _ (none a idle_apart s) z
    guarded_stepped plus minus (g_in {m = answered} u a h) meets behind (inner s) e z = no_step _ (none a answered_apart s) z
    guarded_stepped plus minus (g_in {m = returning} u a h) meets behind (inner s) e z = no_step _ (none a returning_apart s) z
    guarded_stepped plus minus (g_in u a h) meets behind child e z = never z
    guarded_stepped plus minus (g_in u a h) meets behind latch e z = never z
    guarded_stepped plus minus (g_in u a h) meets behind next e z = never z

    pub stepped : (held down : ℕ) {p : Process} (a : At p running) → Meets P p → Backed p (shown a) env → (s : Spot p) → moves env a s ≡ true
        → steps a s ≡ true → Stepped P K held down p env a s (spot_phase P held down p s)
    stepped held down (at_skip _ h) meets behind of_skip e z = skip_stepped P K env held down h
    stepped held down (at_assign m u h) meets behind (of_assign s) e z = never z
    stepped held down (at_send m u h) meets behind (of_send s) e z = never z
    stepped held down (at_receive m k q h) meets behind (of_receive s) e z = never z
    stepped held down (at_turn t) meets behind (in_members s) e z = turn_stepped P K env held down t s _
        (all_turn_stepped held down t meets record { send = behind.send; receive = behind.receive } s e z)
    stepped held down (at_side _ t b h) meets behind (joint k) e z = never z
    stepped held down (at_side {members = members} _ t b h) meets behind (of_branch s) e z = side_stepped P K env held down t b h s _
        (each_stepped (tree_height (member_count members) + (held + (2 + tree_height (member_count members) + down)))
        (tree_height (member_count members) + down) b h.asked meets.2 record { send = behind.send; receive = behind.receive } s e z)
    stepped held down (at_body {m = idle} a) meets behind ask e z =
        ask_stepped P K env held down a meets record { send = behind.send; receive = behind.receive }
    stepped held down (at_body {m = running} a) meets behind ask e z = never e
    stepped held down (at_body {m = answered} a) meets behind ask e z = never z
    stepped held down (at_body {m = returning} a) meets behind ask e z = never e
    stepped held down (at_body {m = running} a) meets behind (in_body s) e z = body_stepped P K env held down a s _
        (stepped 1 0 a meets record { send = behind.send; receive = behind.receive } s e z)
    stepped held down (at_body {m = idle} a) meets behind (in_body s) e z = no_step _ (none a idle_apart s) z
    stepped held down (at_body {m = answered} a) meets behind (in_body s) e z = no_step _ (none a answered_apart s) z
    stepped held down (at_body {m = returning} a) meets behind (in_body s) e z = no_step _ (none a returning_apart s) z
    stepped held down (at_body a) meets behind of_loop e z = never z
    stepped held down (at_choice (control_at called)) meets behind (of_core s) e z = never z
    stepped held down (at_choice {choices = choices} (control_at (evaluating g))) meets behind (of_core (of_latch j)) e z =
        select_latched P K env held down g j _ (latch_rises P K env (selecting P held down choices) false g j e)
    stepped held down (at_choice (control_at (evaluating g))) meets behind (of_core of_joined) e z = never z
    stepped held down (at_choice (control_at (evaluating g))) meets behind (of_core of_ask) e z = never z
    stepped held down (at_choice (control_at (evaluating g))) meets behind (of_core of_any) e z = never z
    stepped held down (at_choice (control_at (evaluating g))) meets behind (of_core (of_start j)) e z = never z
    stepped held down (at_choice (control_at (latched l i g h))) meets behind (of_core s) e z = never z
    stepped held down (at_choice (control_at (leaving y l g h))) meets behind (of_core s) e z = never y
    stepped held down (at_choice (inside_at a w)) meets behind (of_core s) e z = never z
    stepped held down (at_choice x) meets behind (of_guard s) e z = never z
    stepped held down (at_choice (control_at c)) meets behind (of_choice s) e z = never z
    stepped held down (at_choice {choices = choices} (inside_at a works)) meets behind (of_choice s) e z = select_stepped P K env held down a s _
        (branch_steps P K env (selecting P held down choices) false (room_selecting P held down choices) a s _
        (chosen_stepped (held + 3) (1 + down) a meets.2 behind.send behind.receive s e z))
    stepped held down (at_choice (inside_at a worked)) meets behind (of_choice s) e z = no_step _ (chosen_none a answered_apart s) z
    stepped held down (at_turning (control_at uncalled)) meets behind (of_core s) e z = never z
    stepped held down (at_turning (control_at called)) meets behind (of_core s) e z = never z
    stepped held down (at_turning {choices = choices} (control_at (evaluating g))) meets behind (of_core (of_latch j)) e z =
        turn_latched P K env held down g j _ (latch_rises P K env (turning P held down choices) true g j e)
    stepped held down (at_turning (control_at (evaluating g))) meets behind (of_core of_joined) e z = never z
    stepped held down (at_turning (control_at (evaluating g))) meets behind (of_core of_ask) e z = never z
    stepped held down (at_turning (control_at (evaluating g))) meets behind (of_core of_any) e z = never z
    stepped held down (at_turning (control_at (evaluating g))) meets behind (of_core (of_start j)) e z = never z
    stepped held down (at_turning (control_at (latched l i g h))) meets behind (of_core s) e z = never z
    stepped held down (at_turning (control_at (leaving y l g h))) meets behind (of_core s) e z = never z
    stepped held down (at_turning (inside_at a w)) meets behind (of_core s) e z = never z
    stepped held down (at_turning x) meets behind (of_guard s) e z = never z
    stepped held down (at_turning (control_at c)) meets behind (of_choice s) e z = never z
    stepped held down (at_turning {choices = choices} (inside_at a works)) meets behind (of_choice s) e z = turning_stepped P K env held down a s _
        (branch_steps P K env (turning P held down choices) true (room_turning P held down choices) a s _
        (chosen_stepped 4 (3 + guards_depth choices) a meets.2 behind.send behind.receive s e z))
    stepped held down (at_turning (inside_at a worked)) meets behind (of_choice s) e z = no_step _ (chosen_none a answered_apart s) z
    stepped held down (at_turning (inside_at a reported)) meets behind (of_choice s) e z = no_step _ (chosen_none a answered_apart s) z
    stepped held down (at_turning (inside_at a letting)) meets behind (of_choice s) e z = no_step _ (chosen_none a answered_apart s) z
    stepped held down (at_turning (inside_at a (backs any h))) meets behind (of_choice s) e z =
        no_step _ (chosen_none a (λ i. cc (h, ap isnt_running i)) s) z
    stepped held down (at_turning (control_at (evaluating g))) meets behind (of_round of_leave) e z = leave_rises P K env held down g e
    stepped held down (at_turning (control_at (evaluating g))) meets behind (of_round of_answer) e z = never z
    stepped held down (at_turning (control_at (evaluating g))) meets behind (of_round of_turn) e z = never z
    stepped held down (at_turning (control_at uncalled)) meets behind (of_round t) e z = never z
    stepped held down (at_turning (control_at called)) meets behind (of_round t) e z = never z
    stepped held down (at_turning (control_at (latched l i g h))) meets behind (of_round t) e z = never z
    stepped held down (at_turning (control_at (leaving y l g h))) meets behind (of_round t) e z = never z
    stepped held down (at_turning (inside_at a w)) meets behind (of_round t) e z = never z
    stepped held down (at_closing c) meets behind s e z = elim c [ ]

    chosen_stepped : (held down : ℕ) {choices : Choices} (a : ChosenAt choices running) → ChoiceMeets P choices
        → ((j : Line) → choice_sends choices j ≡ true → env.ack j ≡ true → (chosen_shown a).talk j ≡ true)
        → ((c : ℕ) → choice_receives choices c ≡ true → env.ack (of_channel c) ≡ true → (chosen_shown a).listen c ≡ true)
        → (s : ChoiceSpot choices) → chosen_moves env a s ≡ true → chosen_steps a s ≡ true
        → ChosenStepped P K env held down choices a s (choice_phase P held down choices s)
    chosen_stepped held down (this_one {p = p} {more = more} a) meets back hears (this_choice s) e z = this_chosen P K env held down a s _
        (stepped held down a meets.0 record {
          send = λ j h. back j (or_left (sends p j) (choice_sends more j) h);
          receive = λ c h. hears c (or_left (receives p c) (choice_receives more c) h);
        } s e z)
    chosen_stepped held down (this_one a) meets back hears (other_choice s) e z = never z
    chosen_stepped held down (another {p = p} {more = more} a) meets back hears (other_choice s) e z = other_chosen P K env held down a s _
        (chosen_stepped held down a meets.1 (λ j h. back j (or_right (sends p j) (choice_sends more j) h))
        (λ c h. hears c (or_right (receives p c) (choice_receives more c) h)) s e z)
    chosen_stepped held down (another a) meets back hears (this_choice s) e z = never z

    each_stepped : (plus minus : ℕ) {ms : Processes} {ks : List Mode} (b : BranchesAt ms ks) → all_ask true ks ≡ true → EachMeets P ms
        → Backed (side_by_side ms) (branches_shown b) env → (s : BranchSpot ms) → branch_moves env b s ≡ true → branch_does b s ≡ true
        → BranchStepped P K plus minus ms ks env b s (branch_phase P plus ms s)
    each_stepped plus minus no_more asked meets behind s e z = never z
    each_stepped plus minus (and_at {p = p} {more = more} {k = running} {ks = ks} g b) asked meets behind (in_this s) e z =
        this_stepped P K env plus minus g b (snd_true (same_bit (asks running) true) (all_ask true ks) asked) s _
        (guarded_stepped plus minus g meets.0 record {
          send = λ k h w. sym (or_false_right ((guarded_shown g).talk k) ((branches_shown b).talk k) ((beside meets.1 g b).not_theirs k h))
              ∙ behind.send k (or_left (sends p k) (turn_sends more k) h) w;
          receive = λ c h w. sym (or_false_right ((guarded_shown g).listen c) ((branches_shown b).listen c) ((beside meets.1 g b).deaf_theirs c h))
              ∙ behind.receive c (or_left (receives p c) (each_receives more c) h) w;
        } s e z)
    each_stepped plus minus (and_at {k = idle} g b) asked meets behind (in_this s) e z = no_step _ (guarded_none g idle_apart s) z
    each_stepped plus minus (and_at {k = answered} g b) asked meets behind (in_this s) e z = no_step _ (guarded_none g answered_apart s) z
    each_stepped plus minus (and_at {k = returning} g b) asked meets behind (in_this s) e z = no_step _ (guarded_none g returning_apart s) z
    each_stepped plus minus (and_at {p = p} {more = more} {k = k} {ks = ks} g b) asked meets behind (in_others s) e z =
        others_stepped P K env plus minus g b (same_value (asks k) true (fst_true (same_bit (asks k) true) (all_ask true ks) asked)) s _
        (each_stepped plus minus b (snd_true (same_bit (asks k) true) (all_ask true ks) asked) meets.2 record {
          send = λ k h w. sym (or_false_left ((guarded_shown g).talk k) ((branches_shown b).talk k) ((beside meets.1 g b).not_mine k h))
              ∙ behind.send k (or_right (sends p k) (turn_sends more k) h) w;
          receive = λ c h w. sym (or_false_left ((guarded_shown g).listen c) ((branches_shown b).listen c) ((beside meets.1 g b).deaf_mine c h))
              ∙ behind.receive c (or_right (receives p c) (each_receives more c) h) w;
        } s e z)

    all_turn_stepped : (held down : ℕ) {ms : Processes} (t : TurnAt ms running) → TurnMeets P ms → Backed (in_turn ms) (turn_shown t) env
        → (s : TurnSpot ms) → turn_moves env t s ≡ true → turn_steps t s ≡ true → TurnStepped P K held down ms env t s (turn_phase P held down ms s)
    all_turn_stepped held down (at_last {p = p} a) meets behind (in_last s) e z = last_stepped P K env held down a s _
        (stepped held down a meets record {
          send = λ k h. behind.send k (or_left (sends p k) false h);
          receive = λ c h. behind.receive c (or_left (receives p c) false h);
        } s e z)
    all_turn_stepped held down (at_member {p = p} {q = q} {more = more} g) meets behind (in_member s) e z = member_stepped P K env held down g s _
        (guarded_stepped (turn_first P (and_member q more) - 1) (turn_back P K down (and_member q more) (low_turn (and_member q more))) g meets.0 record {
          send = λ k h. behind.send k (or_left (sends p k) (turn_sends (and_member q more) k) h);
          receive = λ c h. behind.receive c (or_left (receives p c) (each_receives (and_member q more) c) h);
        } s e z)
    all_turn_stepped held down (at_member g) meets behind (in_later s) e z = never z
    all_turn_stepped held down (at_later g t h) meets behind (in_member s) e z = never z
    all_turn_stepped held down (at_later {p = p} {q = q} {more = more} {k = answered} {n = running} g t h) meets behind (in_later s) e z =
        later_stepped P K env held down g t h s _ (all_turn_stepped (held + 2) down t meets.1 record {
          send = λ k h. behind.send k (or_right (sends p k) (turn_sends (and_member q more) k) h);
          receive = λ c h. behind.receive c (or_right (receives p c) (each_receives (and_member q more) c) h);
        } s e z)
    all_turn_stepped held down (at_later {n = idle} g t h) meets behind (in_later s) e z = no_step _ (turn_none t idle_apart s) z
    all_turn_stepped held down (at_later {n = answered} g t h) meets behind (in_later s) e z = no_step _ (turn_none t answered_apart s) z
    all_turn_stepped held down (at_later {n = returning} g t h) meets behind (in_later s) e z = no_step _ (turn_none t returning_apart s) z
    all_turn_stepped held down (at_later {k = idle} {n = running} g t h) meets behind (in_later s) e z = never h
    all_turn_stepped held down (at_later {k = running} {n = running} g t h) meets behind (in_later s) e z = never h
    all_turn_stepped held down (at_later {k = returning} {n = running} g t h) meets behind (in_later s) e z = never h
