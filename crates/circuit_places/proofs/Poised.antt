-- Where each own node that may move makes a step, a statement is done, or what is left of it is poised: at each of its
-- places a statement waits for the far end of a line, or the node of its own step may move.
--
-- The argument, case by case. A statement that is asked and hasn't answered is never stuck for a reason of its own:
--   skip                 its answer rises by the request; that is its step.
--   assignment, send     the gates have come up under the request, for a gate that could move would be a move and no step;
--                        the line's acknowledge is low, for else the answer would rise. So the rails are full.
--   receive              the acknowledge is low, for else it would answer; it has all rails that are there, and has stored
--                        where its variable is written.
--   sequence             its Q-elements hand on by moves that are no steps, so a member is under way, and the sequence is
--                        poised as that member is. What follows a member doesn't count before it is asked.
--   parallel             each branch is poised or done, as its Q-element is; were all done, its tree would go on, and no
--                        move of a tree is a step.
--   loop                 its body is under way, or at rest, and then the body's request rises: that is the loop's step.
--   selection            its guards are told under its request for them. Where a latch may rise that is its step; else it
--                        waits, since no branch alone is open. Once a latch is up, moves that are no steps lead to the branch.
--   repetition           the same; its step may be the rise of the latch of the end, too.
-- And a statement that lets go (returning) waits for far ends alone, which let go of it (`Lagging`).
use Rattle.std.proofs.Common.{◌≡◌, ◌≢◌, ℕ, zero, suc, ◌<◌, ◌≤◌, Bool, true, false, List, ◌∷◌, refl, sym, ap, ◌∙◌, subst, inl, inr}
use Rattle.std.specs.Prelude.{◌⊎◌, not, ◌&&◌, ◌||◌, if◌then◌else◌, Some}
use Rattle.chp_base.specs.declared.span.Span.{Span}
use Rattle.width_check.specs.Processes.{Formula, Process, skipping, assigning, sending, receiving, Processes, and_member, member_count, TypedProgram, choosing, Choices, choice_count, no_members, repeating}
use Rattle.chp_meaning.specs.Terms.{Term, Terms, and_branch, is_finished, all_finished, together, finished, active, in_sequence, in_parallel, followed, Place, here as at_here, in_first, in_branch, statement_at, branch_at}
use Rattle.circuit_places.specs.Lines.{Line, of_channel, of_var, same_line, Rails, Seen}
use Rattle.circuit_places.specs.Circuit.{Pairs, gate_count, SiteSpot, PortSpot, gate, Bits, cell_bit, joint_count, same_bit, GuardedSpot, Spot, TurnSpot, BranchSpot, child, latch, next, inner, of_skip, done, of_assign, of_send, of_receive, in_members, of_branch, joint, in_this, in_others, ask, in_body, in_last, in_member, in_later, one_rule_fires, GuardCells, low_guards, GuardSpot, ChoiceSpot, this_choice, other_choice, of_core, of_guard, of_choice, of_round, heads, guards_rule, guards_good}
use Rattle.circuit_places.specs.Heads.{Index, top, under, bit_of, hot, all_neutral, alone, over}
use Rattle.circuit_places.specs.Cores.{OwnSpot, RoundSpot, of_joined, of_ask, of_any, of_latch, of_start, of_answer, of_turn, of_leave}
use Rattle.circuit_places.proofs.RailLemmas.{fst_true, snd_true, same_value, both_true, never_and, empty_low}
use Rattle.circuit_places.proofs.Places.{Mode, idle, running, answered, returning, asks, acks, SiteMay, all_ask, all_ack, ends, SideMay, GuardedAt, At, TurnAt, BranchesAt, g_rests, g_in, g_past, g_back, rests, at_skip, at_assign, at_send, at_receive, at_turn, at_side, at_body, no_more, and_at, turn_rests, at_last, at_member, at_later, Shown, both_shown, guarded_shown, shown, turn_shown, branches_shown, site_shown, site_moves, SiteFits, port_may, port_shown, port_moves, GuardedFits, Fits, TurnFits, BranchesFit, guarded_moves, moves, turn_moves, branch_moves, at_choice, at_turning, at_closing, control_at, inside_at, ChosenAt, this_one, another, chosen_index, chosen_shown, ChosenFits, chosen_moves, guards_shown}
use Rattle.circuit_places.proofs.Links.{LinkWay, member_over, whole_over, member_falls, member_rests, link_way, never_true}
use Rattle.circuit_places.proofs.Meets.{SiteMeets, PortMeets, Meets, TurnMeets, EachMeets, GuardsMeet, ChoiceMeets}
use Rattle.circuit_places.proofs.Left.{waits, again, guarded_left, left, turn_left, branches_left, left_done, inside_stands, some_stands, branch_term, control_left, chosen_left}
use Rattle.circuit_places.proofs.Flow.{or_left, or_right, low_of, Clean}
use Rattle.circuit_places.proofs.Begin.{ends_high}
use Rattle.circuit_places.proofs.Talks.{Beside, beside, or_false_left, guarded_says_talks, branches_say_talk}
use Rattle.circuit_places.proofs.Trees.{waits_on, joint_moves}
use Rattle.circuit_places.proofs.LineNames.{self_line}
use Rattle.circuit_places.proofs.HeadFacts.{bit_hot}
use Rattle.circuit_places.proofs.CoreControl.{Control, noted, spread, freed, uncalled, called, evaluating, latched, leaving, Way, works, worked, reported, letting, backs, told_all, lets_turn, lets_leave, lets_any, lets_answer, control_ask, control_guards, control_moves, control_steps, turning_moves, turning_steps, way_moves, way_turning}
use Rattle.circuit_places.proofs.GuardWaves.{guards_arrive}
use Rattle.circuit_places.proofs.Opens.{open_stuck, open_some}
use Rattle.circuit_places.proofs.ChoiceMoves.{agreed}
use Rattle.circuit_places.proofs.Rest.{Full, Listening, Releasing, Valid, flip, then_going, site_full, port_waits, port_holds, this_full, others_full, Undecided, undecided_wider, this_releasing, others_releasing, guarded_over, not_finished}
use Rattle.circuit_places.proofs.Stepping.{steps, guarded_steps, chosen_steps, branch_steps, turn_steps}
use Rattle.circuit_places.proofs.StepPlaces.{place_of, guarded_place, choice_place, branch_index, branch_place, turn_place}

-- a statement whose rails are full, a receive that waits, or a selection of which no branch alone is open
pub data Awaits (P : TypedProgram) (s : Process) (env : Seen) (x : Shown) : Type 0 where
  sends : (c : ℕ) (at : Span) (e : Formula) → Full P (of_channel c) env x → s ≡ sending c at e → Awaits P s env x
  stores : (v : ℕ) (at : Span) (e : Formula) → Full P (of_var v) env x → s ≡ assigning v at e → Awaits P s env x
  hears : (c v : ℕ) (at to : Span) → Listening P c v env x → x.says (of_var v) ≡ false → s ≡ receiving c at v to → Awaits P s env x
  asks_on : (again : Bool) (choices : Choices) → Undecided again choices env x.read → s ≡ choosing again choices → Awaits P s env x

-- a statement whose step is the move of an own node
abbrev pub is_own : Process → Bool
is_own skipping = true
is_own (choosing again choices) = true
is_own (repeating p) = true
is_own _ = false

-- what lets go and has others to wait for
pub data Lagging (P : TypedProgram) (env : Seen) (x : Shown) : Type 0 where
  still_up : (k : Line) → env.ack k ≡ true → x.talk k ≡ true → ((i : ℕ) (one : Bool) → x.offer k i one ≡ false) → Lagging P env x
  still_held : (c v : ℕ) → Releasing P c v env x → Lagging P env x

-- the own node of a step at the place may move
abbrev pub Ready : {p : Process} {m : Mode} → Seen → At p m → Place → Type 0
Ready {p = p} env a at = (s : Spot p) × (moves env a s ≡ true) × (steps a s ≡ true) × (place_of s ≡ at)

abbrev pub GuardedReady : {p : Process} {m : Mode} → Seen → GuardedAt p m → Place → Type 0
GuardedReady {p = p} env g at = (s : GuardedSpot p) × (guarded_moves env g s ≡ true) × (guarded_steps g s ≡ true) × (guarded_place s ≡ at)

abbrev pub TurnReady : {members : Processes} {m : Mode} → Seen → TurnAt members m → Place → Type 0
TurnReady {members = members} env t at = (s : TurnSpot members) × (turn_moves env t s ≡ true) × (turn_steps t s ≡ true) × (turn_place s ≡ at)

abbrev pub ChosenReady : {choices : Choices} {k : Mode} → Seen → ChosenAt choices k → Place → Type 0
ChosenReady {choices = choices} env a at = (s : ChoiceSpot choices) × (chosen_moves env a s ≡ true) × (chosen_steps a s ≡ true) × (choice_place s ≡ at)

abbrev pub BranchReady : {members : Processes} {ks : List Mode} → Seen → BranchesAt members ks → ℕ → Place → Type 0
BranchReady {members = members} env b k at =
    (s : BranchSpot members) × (branch_moves env b s ≡ true) × (branch_steps b s ≡ true) × (branch_index s ≡ k) × (branch_place s ≡ at)

-- each statement that the term might go on with awaits something, or is ready
abbrev pub Stands : (P : TypedProgram) → Process → Seen → Shown → Type 0 → Type 0
Stands P s env x ready = Awaits P s env x ⊎ ((is_own s ≡ true) × ready)

pub record Poised (P : TypedProgram) (t : Term) (env : Seen) (x : Shown) (ready : Place → Type 0) : Type 0 where
  pub going : t ≢ finished
  pub each : (at : Place) (s : Process) → statement_at t at ≡ Some s → Stands P s env x (ready at)

pub data Poise (P : TypedProgram) (m : Mode) (t : Term) (env : Seen) (x : Shown) (ready : Place → Type 0) : Type 0 where
  settled : acks m ≡ asks m → Poise P m t env x ready
  poised : m ≡ running → Poised P t env x ready → Poise P m t env x ready
  lagging : Lagging P env x → Poise P m t env x ready

-- what makes no step doesn't move
pub off : (b : Bool) → (b ≡ true → false ≡ true) → b ≡ false
off false h = refl
off true h = absurd (cc (h refl))

stands_wider : (P : TypedProgram) (s : Process) (env : Seen) (x : Shown) (R S : Type 0) → (R → S) → Stands P s env x R → Stands P s env x S
stands_wider P s env x R S f (inl a) = inl a
stands_wider P s env x R S f (inr r) = inr (r.0, f r.1)

wider : (P : TypedProgram) (t : Term) (env : Seen) (x : Shown) (R S : Place → Type 0) → ((at : Place) → R at → S at) → Poised P t env x R → Poised P t env x S
wider P t env x R S f w = record { going = w.going; each = λ at s e. stands_wider P s env x (R at) (S at) (f at) (w.each at s e) }

poise_wider : (P : TypedProgram) (m : Mode) (t : Term) (env : Seen) (x : Shown) (R S : Place → Type 0) → ((at : Place) → R at → S at) → Poise P m t env x R
    → Poise P m t env x S
poise_wider P m t env x R S f (settled e) = settled e
poise_wider P m t env x R S f (poised e w) = poised e (wider P t env x R S f w)
poise_wider P m t env x R S f (lagging l) = lagging l

-- in a sequence
then_each : (P : TypedProgram) (more : Processes) (t : Term) (env : Seen) (x : Shown) (R S : Place → Type 0) → ((at : Place) → R at → S (in_first at))
    → t ≢ finished → ((at : Place) (s : Process) → statement_at t at ≡ Some s → Stands P s env x (R at)) → (at : Place) (s : Process)
    → statement_at (followed t more) at ≡ Some s → Stands P s env x (S at)
then_each P more t env x R S f ne b at s e = by t ne b at e
  where
    on : (at : Place) → Stands P s env x (R at) → Stands P s env x (S (in_first at))
    on at z = stands_wider P s env x (R at) (S (in_first at)) (f at) z

    by : (t : Term) → t ≢ finished → ((at : Place) (s : Process) → statement_at t at ≡ Some s → Stands P s env x (R at)) → (at : Place)
        → statement_at (followed t more) at ≡ Some s → Stands P s env x (S at)
    by finished ne b at e = absurd (ne refl)
    by (active p) ne b (in_first at) e = on at (b at s e)
    by (in_sequence t rest) ne b (in_first at) e = on at (b at s e)
    by (in_parallel ts) ne b (in_first at) e = on at (b at s e)
    by (active p) ne b at_here e = absurd (cc e)
    by (in_sequence t rest) ne b at_here e = absurd (cc e)
    by (in_parallel ts) ne b at_here e = absurd (cc e)
    by (active p) ne b (in_branch k at) e = absurd (cc e)
    by (in_sequence t rest) ne b (in_branch k at) e = absurd (cc e)
    by (in_parallel ts) ne b (in_branch k at) e = absurd (cc e)

poised_then : (P : TypedProgram) (more : Processes) (t : Term) (env : Seen) (x : Shown) (R S : Place → Type 0) → ((at : Place) → R at → S (in_first at))
    → Poised P t env x R → Poised P (followed t more) env x S
poised_then P more t env x R S f r = record { going = then_going more t r.going; each = then_each P more t env x R S f r.going r.each }

-- of a part that runs, and of one that returns
running_poise : (P : TypedProgram) (t y : Term) (env : Seen) (x : Shown) (R S : Place → Type 0) → (Poised P t env x R → Poised P y env x S)
    → Poise P running t env x R → Poise P running y env x S
running_poise P t y env x R S f (settled e) = absurd (cc e)
running_poise P t y env x R S f (poised e r) = poised refl (f r)
running_poise P t y env x R S f (lagging r) = lagging r

returning_poise : (P : TypedProgram) (m : Mode) (t y : Term) (env : Seen) (x : Shown) (R S : Place → Type 0) → Poise P returning t env x R
    → Poise P m y env x S
returning_poise P m t y env x R S (settled e) = absurd (cc e)
returning_poise P m t y env x R S (poised e r) = absurd (cc e)
returning_poise P m t y env x R S (lagging r) = lagging r

-- one statement alone
only : (P : TypedProgram) (q : Process) (env : Seen) (x : Shown) (R : Place → Type 0) → Stands P q env x (R at_here) → Poised P (active q) env x R
only P q env x R w = record { going = λ z. cc z; each = each }
  where
    each : (at : Place) (s : Process) → statement_at (active q) at ≡ Some s → Stands P s env x (R at)
    each at_here s z = subst (λ (r : Process). Stands P r env x (R at_here)) (same z) w
      where
        same : Some q ≡ Some s → q ≡ s
        same z = cc z
    each (in_first at) s z = absurd (cc z)
    each (in_branch k at) s z = absurd (cc z)

-- one that runs over a low acknowledge
leaf_poised : (P : TypedProgram) (s : Process) (env : Seen) (x : Shown) (R : Place → Type 0) (over : Bool) → over ≡ false → Awaits P s env x
    → Poise P running (waits running over (active s)) env x R
leaf_poised P s env x R over low w =
    poised refl (subst (λ (t : Term). Poised P t env x R) (sym (ap (λ b. waits running b (active s)) low)) (only P s env x R (inl w)))

-- a site that returns hangs by its line
site_lags : (P : TypedProgram) (env : Seen) (k : Line) (e : Formula) (u : Pairs (gate_count e)) → SiteMay e returning u → SiteFits k e returning u env
    → ((s : SiteSpot e) → site_moves env k e returning u s ≡ false) → Lagging P env (site_shown k e u)
site_lags P env k e u h f n =
    let gone = h.known.rest_down env.bit u f.1 (λ i one. n (gate i one)) in
    still_up k (flip (env.ack k) (n done)) (self_line k) (λ i one. ap (λ b. same_line k k && b) (empty_low e h.known u gone i one) ∙ never_and (same_line k k))

assign_poise : (P : TypedProgram) (env : Seen) → Valid P env → (x : ℕ) (at : Span) (e : Formula) (m : Mode) (u : Pairs (gate_count e)) → SiteMay e m u
    → SiteMeets P (of_var x) e → SiteFits (of_var x) e m u env → ((s : SiteSpot e) → site_moves env (of_var x) e m u s ≡ true → false ≡ true)
    → (R : Place → Type 0) → Poise P m (waits m (env.ack (of_var x)) (active (assigning x at e))) env (site_shown (of_var x) e u) R
assign_poise P env valid x at e idle u h meets f n R = absurd (cc h.may)
assign_poise P env valid x at e answered u h meets f n R = settled refl
assign_poise P env valid x at e running u h meets f n R =
    let full = site_full P env valid (of_var x) e u h meets f (λ s. off _ (n s)) in
    leaf_poised P (assigning x at e) env (site_shown (of_var x) e u) R (env.ack (of_var x)) full.low (stores x at e full refl)
assign_poise P env valid x at e returning u h meets f n R = lagging (site_lags P env (of_var x) e u h f (λ s. off _ (n s)))

send_poise : (P : TypedProgram) (env : Seen) → Valid P env → (c : ℕ) (at : Span) (e : Formula) (m : Mode) (u : Pairs (gate_count e)) → SiteMay e m u
    → SiteMeets P (of_channel c) e → SiteFits (of_channel c) e m u env → ((s : SiteSpot e) → site_moves env (of_channel c) e m u s ≡ true → false ≡ true)
    → (R : Place → Type 0) → Poise P m (waits m (env.ack (of_channel c)) (active (sending c at e))) env (site_shown (of_channel c) e u) R
send_poise P env valid c at e idle u h meets f n R = absurd (cc h.may)
send_poise P env valid c at e answered u h meets f n R = settled refl
send_poise P env valid c at e running u h meets f n R =
    let full = site_full P env valid (of_channel c) e u h meets f (λ s. off _ (n s)) in
    leaf_poised P (sending c at e) env (site_shown (of_channel c) e u) R (env.ack (of_channel c)) full.low (sends c at e full refl)
send_poise P env valid c at e returning u h meets f n R = lagging (site_lags P env (of_channel c) e u h f (λ s. off _ (n s)))

receive_poise : (P : TypedProgram) (env : Seen) (c x : ℕ) (at to : Span) (m : Mode) (l : Bool) (q : Rails) → port_may m l ≡ true → PortMeets P c x
    → ((s : PortSpot) → port_moves env c x m l q s ≡ true → false ≡ true)
    → (R : Place → Type 0) → Poise P m (waits m (env.ack (of_channel c)) (active (receiving c at x to))) env (port_shown c x l q) R
receive_poise P env c x at to idle l q h meets n R = absurd (cc h)
receive_poise P env c x at to answered l q h meets n R = settled refl
receive_poise P env c x at to returning l q h meets n R = lagging (still_held c x (port_holds P env c x l q meets (λ s. off _ (n s))))
receive_poise P env c x at to running l q h meets n R =
    let there = port_waits P env c x l q meets (λ s. off _ (n s)) in
    leaf_poised P (receiving c at x to) env (port_shown c x l q) R (env.ack (of_channel c)) there.low (hears c x at to there refl refl)

-- What one of several branches shows, all show.
module _ {p : Process} {more : Processes} (P : TypedProgram) (env : Seen) (x y : Shown) (s : Beside p more x y)
    (this_says : (k : Line) → x.says k ≡ true → x.talk k ≡ true) (others_say : (k : Line) → y.says k ≡ true → y.talk k ≡ true) where
  this_listens : (c v : ℕ) → Listening P c v env x → Listening P c v env (both_shown x y)
  this_listens c v l = record {
    meets = l.meets;
    low = l.low;
    talks = or_left (x.talk (of_var v)) (y.talk (of_var v)) l.talks;
    hears = or_left (x.listen c) (y.listen c) l.hears;
    all = λ i one h. or_left (x.offer (of_var v) i one) (y.offer (of_var v) i one) (l.all i one h);
    has = λ h. or_left (x.take c) (y.take c) (l.has h);
  }

  others_listen : (c v : ℕ) → Listening P c v env y → Listening P c v env (both_shown x y)
  others_listen c v l = record {
    meets = l.meets;
    low = l.low;
    talks = or_right (x.talk (of_var v)) (y.talk (of_var v)) l.talks;
    hears = or_right (x.listen c) (y.listen c) l.hears;
    all = λ i one h. or_right (x.offer (of_var v) i one) (y.offer (of_var v) i one) (l.all i one h);
    has = λ h. or_right (x.take c) (y.take c) (l.has h);
  }

  this_awaits : (q : Process) → Awaits P q env x → Awaits P q env (both_shown x y)
  this_awaits q (sends c at e f is) = sends c at e (this_full P env x y s (of_channel c) f) is
  this_awaits q (stores v at e f is) = stores v at e (this_full P env x y s (of_var v) f) is
  this_awaits q (hears c v at to l quiet is) = hears c v at to (this_listens c v l) (or_false_left (x.says (of_var v)) (y.says (of_var v)) quiet
      ∙ low_of (y.says (of_var v)) (others_say (of_var v)) (s.not_theirs (of_var v) (s.mine (of_var v) l.talks))) is
  this_awaits q (asks_on again choices b is) = asks_on again choices (undecided_wider again choices env x.read (λ v. x.read v || y.read v)
      (λ v h. or_left (x.read v) (y.read v) h) b) is

  others_await : (q : Process) → Awaits P q env y → Awaits P q env (both_shown x y)
  others_await q (sends c at e f is) = sends c at e (others_full P env x y s (of_channel c) f) is
  others_await q (stores v at e f is) = stores v at e (others_full P env x y s (of_var v) f) is
  others_await q (hears c v at to l quiet is) = hears c v at to (others_listen c v l) (or_false_left (x.says (of_var v)) (y.says (of_var v))
      (low_of (x.says (of_var v)) (this_says (of_var v)) (s.not_mine (of_var v) (s.theirs (of_var v) l.talks))) ∙ quiet) is
  others_await q (asks_on again choices b is) = asks_on again choices (undecided_wider again choices env y.read (λ v. x.read v || y.read v)
      (λ v h. or_right (x.read v) (y.read v) h) b) is

  this_lags : Lagging P env x → Lagging P env (both_shown x y)
  this_lags (still_up k high talks none) = still_up k high
      (or_left (x.talk k) (y.talk k) talks)
      (λ i one. or_false_left (x.offer k i one) (y.offer k i one) (none i one) ∙ s.none_theirs k i one (s.mine k talks))
  this_lags (still_held c v r) = still_held c v (this_releasing P env x y s c v r)

  others_lag : Lagging P env y → Lagging P env (both_shown x y)
  others_lag (still_up k high talks none) = still_up k high
      (or_right (x.talk k) (y.talk k) talks)
      (λ i one. or_false_left (x.offer k i one) (y.offer k i one) (s.none_mine k i one (s.theirs k talks)) ∙ none i one)
  others_lag (still_held c v r) = still_held c v (others_releasing P env x y s c v r)

-- Branches under the request: all have ended, or some are poised and the others have ended, or one lags.
record PoisedInside (P : TypedProgram) (ts : Terms) (env : Seen) (x : Shown) (ready : ℕ → Place → Type 0) : Type 0 where
  pub going : all_finished ts ≡ false
  pub each : (k : ℕ) (at : Place) (s : Process) → branch_at ts k at ≡ Some s → Stands P s env x (ready k at)

data BranchesPoise (P : TypedProgram) (ks : List Mode) (ts : Terms) (env : Seen) (x : Shown) (ready : ℕ → Place → Type 0) : Type 0 where
  all_ended : all_ack ks ≡ true → all_finished ts ≡ true → BranchesPoise P ks ts env x ready
  some_poised : PoisedInside P ts env x ready → BranchesPoise P ks ts env x ready
  one_lags : Lagging P env x → BranchesPoise P ks ts env x ready

module _ {p : Process} {more : Processes} (P : TypedProgram) (env : Seen) (x y : Shown) (s : Beside p more x y)
    (this_says : (k : Line) → x.says k ≡ true → x.talk k ≡ true) (others_say : (k : Line) → y.says k ≡ true → y.talk k ≡ true) (R : Place → Type 0)
    (S U : ℕ → Place → Type 0) (mine : (at : Place) → R at → U zero at) (theirs : (k : ℕ) (at : Place) → S k at → U (suc k) at) where
  this_one_is : (at : Place) (q : Process) → Stands P q env x (R at) → Stands P q env (both_shown x y) (U zero at)
  this_one_is at q (inl a) = inl (this_awaits P env x y s this_says others_say q a)
  this_one_is at q (inr r) = inr (r.0, mine at r.1)

  other_is : (k : ℕ) (at : Place) (q : Process) → Stands P q env y (S k at) → Stands P q env (both_shown x y) (U (suc k) at)
  other_is k at q (inl a) = inl (others_await P env x y s this_says others_say q a)
  other_is k at q (inr r) = inr (r.0, theirs k at r.1)

  both_poise : (k : Mode) (ks : List Mode) (t : Term) (ts : Terms) → asks k ≡ true → (acks k ≡ asks k → t ≡ finished) → Poise P k t env x R
      → BranchesPoise P ks ts env y S → BranchesPoise P (k ∷ ks) (and_branch t ts) env (both_shown x y) U
  both_poise k ks t ts a over (lagging h) r = one_lags (this_lags P env x y s this_says others_say h)
  both_poise k ks t ts a over (settled e) (one_lags h) = one_lags (others_lag P env x y s this_says others_say h)
  both_poise k ks t ts a over (poised e w) (one_lags h) = one_lags (others_lag P env x y s this_says others_say h)
  both_poise k ks t ts a over (settled e) (all_ended h f) = all_ended (both_true (acks k) (all_ack ks) (e ∙ a) h)
      (ap (λ z. is_finished z && all_finished ts) (over e) ∙ f)
  both_poise k ks t ts a over (settled e) (some_poised w) = some_poised (record {
    going = ap (λ b. is_finished t && b) w.going ∙ never_and (is_finished t);
    each = here (over e);
  })
    where
      here : t ≡ finished → (j : ℕ) (at : Place) (q : Process) → branch_at (and_branch t ts) j at ≡ Some q → Stands P q env (both_shown x y) (U j at)
      here over zero at q h = absurd (cc (ap is_finished over, some_stands t at q h))
      here over (suc j) at q h = other_is j at q (w.each j at q h)
  both_poise k ks t ts a over (poised e w) (all_ended h f) = some_poised (record {
    going = ap (λ b. b && all_finished ts) (not_finished t w.going);
    each = here;
  })
    where
      here : (j : ℕ) (at : Place) (q : Process) → branch_at (and_branch t ts) j at ≡ Some q → Stands P q env (both_shown x y) (U j at)
      here zero at q h = this_one_is at q (w.each at q h)
      here (suc j) at q h = absurd (cc (f, inside_stands ts j at q h))
  both_poise k ks t ts a over (poised e w) (some_poised v) = some_poised (record {
    going = ap (λ b. b && all_finished ts) (not_finished t w.going);
    each = here;
  })
    where
      here : (j : ℕ) (at : Place) (q : Process) → branch_at (and_branch t ts) j at ≡ Some q → Stands P q env (both_shown x y) (U j at)
      here zero at q h = this_one_is at q (w.each at q h)
      here (suc j) at q h = other_is j at q (v.each j at q h)

poised_inside : (P : TypedProgram) (ts : Terms) (env : Seen) (x : Shown) (S : ℕ → Place → Type 0) (R : Place → Type 0)
    → ((k : ℕ) (at : Place) → S k at → R (in_branch k at)) → PoisedInside P ts env x S → Poised P (together ts) env x R
poised_inside P ts env x S R f w =
    subst (λ (t : Term). Poised P t env x R) (sym (ap (λ b. if b then finished else in_parallel ts) w.going)) (record { going = λ e. cc e; each = here })
  where
    here : (at : Place) (s : Process) → statement_at (in_parallel ts) at ≡ Some s → Stands P s env x (R at)
    here (in_branch k at) s h = stands_wider P s env x (S k at) (R (in_branch k at)) (f k at) (w.each k at s h)
    here at_here s h = absurd (cc h)
    here (in_first at) s h = absurd (cc h)

-- where no joint moves the tree waits for a branch
no_end : (members : Processes) {ks : List Mode} (t : Bits (joint_count (member_count members))) (m : Mode) (h : SideMay (member_count members) m ks t)
    → ((k : ℕ) → joint_moves (member_count members) (ends ks) t k ≡ false) → (c : Bool)
    → ((i : ℕ) → i < member_count members → ends ks i ≡ c) → acks m ≡ not c → ⊥
no_end members {ks = ks} t m h n c all e =
    let (i, less, is) = waits_on (member_count members) h.known (ends ks) (cell_bit (joint_count (member_count members)) t) h.settles n in
    differ c (sym (all i less) ∙ (is ∙ (h.top ∙ e)))
  where
    differ : (c : Bool) → c ≡ not c → ⊥
    differ true e = cc e
    differ false e = cc e

-- branches without a request have none under way
ends_down : {members : Processes} {ks : List Mode} (env : Seen) (b : BranchesAt members ks) → all_ask false ks ≡ true
    → ((s : BranchSpot members) → branch_moves env b s ≡ true → branch_steps b s ≡ true) → (i : ℕ) → ends ks i ≡ false
ends_down env no_more h n i = refl
ends_down env (and_at {k = idle} g b) h n zero = refl
ends_down env (and_at {k = idle} g b) h n (suc i) = ends_down env b h (λ s. n (in_others s)) i
ends_down env (and_at {k = returning} (g_back true) b) h n i = absurd (cc (n (in_this latch) refl))
ends_down env (and_at {k = returning} (g_back false) b) h n i = absurd (cc (n (in_this next) refl))
ends_down env (and_at {k = running} g b) h n i = absurd (cc h)
ends_down env (and_at {k = answered} g b) h n i = absurd (cc h)

-- some branch is true alone, or none is
one_alone : (n m : ℕ) (hs : Pairs m) (f : Index n → Index m) → ((j : Index n) × (alone (f j) hs ≡ true)) ⊎ ((j : Index n) → alone (f j) hs ≡ false)
one_alone zero m hs f = inr (λ j. elim j [ ])
one_alone (suc n) m hs f = by (alone (f top) hs) refl (one_alone n m hs (λ j. f (under j)))
  where
    by : (b : Bool) → alone (f top) hs ≡ b
        → ((j : Index n) × (alone (f (under j)) hs ≡ true)) ⊎ ((j : Index n) → alone (f (under j)) hs ≡ false)
        → ((j : Index (suc n)) × (alone (f j) hs ≡ true)) ⊎ ((j : Index (suc n)) → alone (f j) hs ≡ false)
    by true e r = inl (top, e)
    by false e (inl r) = inl (under r.0, r.1)
    by false e (inr none) = inr each
      where
        each : (j : Index (suc n)) → alone (f j) hs ≡ false
        each top = e
        each (under j) = none j

-- a selection without a branch under way
control_poise : (P : TypedProgram) {m : Mode} (env : Seen) (clean : Clean P env) → Valid P env → (again : Bool) (choices : Choices) → 1 ≤ choice_count choices
    → GuardsMeet P choices → (c : Control again (choice_count choices) (GuardCells choices) (heads choices) m)
    → guards_good choices env.bit (control_ask c) (control_guards (low_guards choices) c) ≡ true
    → ((s : OwnSpot (choice_count choices)) → control_moves c s ≡ true → control_steps c s ≡ true)
    → ((s : GuardSpot choices) → one_rule_fires (guards_rule choices env.bit (control_ask c) (control_guards (low_guards choices) c) s) ≡ true → false ≡ true)
    → (again ≡ true → (t : RoundSpot) → turning_moves c t ≡ true → turning_steps c t ≡ true) → (R : Place → Type 0)
    → ((j : Index (choice_count choices)) → control_moves c (of_latch j) ≡ true → control_steps c (of_latch j) ≡ true → R at_here)
    → (again ≡ true → turning_moves c of_leave ≡ true → turning_steps c of_leave ≡ true → R at_here)
    → Poise P m (control_left again choices c) env (guards_shown (control_ask c) choices) R
control_poise P env clean valid again choices some laws uncalled f s q t R of_one of_end = settled refl
control_poise P env clean valid again choices some laws called f s q t R of_one of_end = absurd (cc (s of_ask refl))
control_poise P env clean valid again choices some laws (latched noted i g h) f s q t R of_one of_end = absurd (cc (s of_any refl))
control_poise P env clean valid again choices some laws (latched spread i g h) f s q t R of_one of_end = absurd (cc (s of_ask refl))
control_poise P env clean valid again choices some laws (latched freed i g h) f s q t R of_one of_end =
    absurd (cc (s (of_start i) (both_true (bit_of i (hot i true)) (all_neutral (choice_count choices) (heads choices g)) (bit_hot i true)
    ((guards_arrive P env.bit clean.single valid choices laws).down g f (λ z. off _ (q z))))))
control_poise P env clean valid again choices some laws (leaving y noted g h) f s q t R of_one of_end = absurd (cc (s of_any refl))
control_poise P env clean valid again choices some laws (leaving y spread g h) f s q t R of_one of_end = absurd (cc (s of_ask refl))
control_poise P env clean valid again choices some laws (leaving y freed g h) f s q t R of_one of_end =
    absurd (cc (t y of_answer ((guards_arrive P env.bit clean.single valid choices laws).down g f (λ z. off _ (q z)))))
control_poise P env clean valid again choices some laws (evaluating g) f s q t R of_one of_end =
    by_latch (one_alone (choice_count choices) (choice_count choices) (heads choices g) (λ j. j))
  where
    goes : R at_here → Poise P running (control_left again choices (evaluating g)) env (guards_shown true choices) R
    goes r = poised refl (only P (choosing again choices) env (guards_shown true choices) R (inr (refl, r)))

    quiet : ((j : Index (choice_count choices)) → alone j (heads choices g) ≡ false) → (again ≡ true → over (choice_count choices) (heads choices g) ≡ false)
        → Poise P running (control_left again choices (evaluating g)) env (guards_shown true choices) R
    quiet none on =
        let full = (guards_arrive P env.bit clean.single valid choices laws).up g f (λ z. off _ (q z)) in
        poised refl (only P (choosing again choices) env (guards_shown true choices) R (inl (asks_on again choices (record {
          one = λ store agree. open_stuck P env.bit clean.single store choices laws
              (agreed P env clean choices laws (guards_shown true choices).read (λ x h. h) store agree) g f full none;
          some = λ e store agree. open_some P env.bit clean.single store choices laws
              (agreed P env clean choices laws (guards_shown true choices).read (λ x h. h) store agree) some g f full (on e);
        }) refl)))

    by_end : ((j : Index (choice_count choices)) → alone j (heads choices g) ≡ false) → (b : Bool) → again ≡ b → (o : Bool)
        → over (choice_count choices) (heads choices g) ≡ o
        → Poise P running (control_left again choices (evaluating g)) env (guards_shown true choices) R
    by_end none false y o e = quiet none (λ z. absurd (cc (y, z)))
    by_end none true y true e = goes (of_end y e refl)
    by_end none true y false e = quiet none (λ z. e)

    by_latch : ((j : Index (choice_count choices)) × (alone j (heads choices g) ≡ true)) ⊎
        ((j : Index (choice_count choices)) → alone j (heads choices g) ≡ false)
        → Poise P running (control_left again choices (evaluating g)) env (guards_shown true choices) R
    by_latch (inl r) = goes (of_one r.0 r.1 refl)
    by_latch (inr none) = by_end none again refl (over (choice_count choices) (heads choices g)) refl

-- and one with a branch under way, of which nothing but the branch moves
branch_poise : (P : TypedProgram) {m k : Mode} (env : Seen) (again : Bool) (choices : Choices) (a : ChosenAt choices k) (w : Way m k)
    → ((s : OwnSpot (choice_count choices)) → way_moves w (chosen_index a) s ≡ false) → (R S : Place → Type 0)
    → (again ≡ false → (at : Place) → R at → S at) → (again ≡ true → (at : Place) → R at → S (in_first at))
    → Poise P k (chosen_left env.ack a) env (chosen_shown a) R
    → Poise P m (branch_term again choices (chosen_left env.ack a)) env (chosen_shown a) S
branch_poise P env false choices a works n R S one other r = poise_wider P running (chosen_left env.ack a) env (chosen_shown a) R S (one refl) r
branch_poise P env true choices a works n R S one other r =
    running_poise P (chosen_left env.ack a) (followed (chosen_left env.ack a) (and_member (choosing true choices) no_members)) env (chosen_shown a) R S
    (λ z. poised_then P (and_member (choosing true choices) no_members) (chosen_left env.ack a) env (chosen_shown a) R S (other refl) z) r
branch_poise P env again choices a worked n R S one other r = absurd (cc (n of_joined))
branch_poise P env again choices a reported n R S one other r = settled refl
branch_poise P env again choices a letting n R S one other r = absurd (cc (bit_hot (chosen_index a) true, n (of_latch (chosen_index a))))
branch_poise P env again choices a (backs true h) n R S one other r = absurd (cc (n of_any))
branch_poise P {k = idle} env again choices a (backs false h) n R S one other r = absurd (cc (n of_joined))
branch_poise P {k = running} env again choices a (backs false h) n R S one other r = absurd (cc h)
branch_poise P {k = answered} env again choices a (backs false h) n R S one other r =
    absurd (cc (bit_hot (chosen_index a) true, n (of_start (chosen_index a))))
branch_poise P {k = returning} env again choices a (backs false h) n R S one other r =
    returning_poise P returning (chosen_left env.ack a) (branch_term again choices (chosen_left env.ack a)) env (chosen_shown a) R S r

-- the same of a repetition, whose turn it is
turning_poise : (P : TypedProgram) (m : Mode) (env : Seen) (choices : Choices) (d : Control true (choice_count choices) (GuardCells choices) (heads choices) m)
    → ((t : RoundSpot) → turning_moves d t ≡ true → turning_steps d t ≡ true) → (R : Place → Type 0)
    → Poise P m (control_left true choices d) env (guards_shown (control_ask d) choices) R
    → Poise P running (control_left true choices d) env (guards_shown (control_ask d) choices) R
turning_poise P running env choices d t R r = r
turning_poise P idle env choices uncalled t R r = absurd (cc (t of_turn refl))
turning_poise P answered env choices d t R r = elim d [ ]
turning_poise P returning env choices d t R r = elim d [ ]

turned_poise : (P : TypedProgram) {m k : Mode} (env : Seen) (choices : Choices) (a : ChosenAt choices k) (w : Way m k)
    → ((t : RoundSpot) → way_turning w t ≡ false) → (R : Place → Type 0)
    → Poise P m (branch_term true choices (chosen_left env.ack a)) env (chosen_shown a) R
    → Poise P running (branch_term true choices (chosen_left env.ack a)) env (chosen_shown a) R
turned_poise P {m = running} env choices a w t R r = r
turned_poise P env choices a reported t R r = absurd (cc (t of_turn))
turned_poise P {m = returning} env choices a w t R r =
    returning_poise P running (branch_term true choices (chosen_left env.ack a)) (branch_term true choices (chosen_left env.ack a)) env (chosen_shown a) R R r

-- a loop whose body is at rest asks it anew, which is its step
loop_poised : (P : TypedProgram) (p : Process) (t : Term) (env : Seen) (x : Shown) (R : Place → Type 0) → t ≡ finished → R at_here
    → Poise P running (followed t (again p)) env x R
loop_poised P p t env x R e r =
    poised refl (subst (λ (z : Term). Poised P (followed z (again p)) env x R) (sym e) (only P (repeating p) env x R (inr (refl, r))))

-- in a sequence behind a member
later_poise : (P : TypedProgram) {p : Process} {k n m : Mode} (env : Seen) → LinkWay m k n → (g : GuardedAt p k) (t : Term) (x : Shown)
    (R S : Place → Type 0) → ((at : Place) → R at → S at) → ((s : GuardedSpot p) → guarded_moves env g s ≡ true → ⊥) → Poise P n t env x R
    → Poise P m t env x S
later_poise P env member_over g t x R S f still r = poise_wider P running t env x R S f r
later_poise P env whole_over g t x R S f still r = settled refl
later_poise P env member_falls (g_back true) t x R S f still r = absurd (still latch refl)
later_poise P env member_falls (g_back false) t x R S f still r = absurd (still next refl)
later_poise P env member_rests g t x R S f still r = poise_wider P returning t env x R S f r

mutual
  pub guarded_poise : (P : TypedProgram) {p : Process} {m : Mode} (env : Seen) → Clean P env → Valid P env → (g : GuardedAt p m) → Meets P p
      → GuardedFits g env → ((s : GuardedSpot p) → guarded_moves env g s ≡ true → guarded_steps g s ≡ true)
      → Poise P m (guarded_left env.ack g) env (guarded_shown g) (GuardedReady env g)
  guarded_poise P env clean valid g_rests meets f n = settled refl
  guarded_poise P env clean valid g_past meets f n = settled refl
  guarded_poise P env clean valid (g_back true) meets f n = absurd (cc (n latch refl))
  guarded_poise P env clean valid (g_back false) meets f n = absurd (cc (n next refl))
  guarded_poise P env clean valid (g_in {m = idle} false a h) meets f n = absurd (cc (n child refl))
  guarded_poise P env clean valid (g_in {m = running} false a h) meets f n =
      poise_wider P running (left env.ack a) env (shown a) (Ready env a) (GuardedReady env (g_in false a h))
      (λ at r. (inner r.0, r.1, r.2, r.3)) (poise P env clean valid a meets f (λ s. n (inner s)))
  guarded_poise P env clean valid (g_in {m = answered} false a h) meets f n = absurd (cc (n latch refl))
  guarded_poise P env clean valid (g_in {m = idle} true a h) meets f n = absurd (cc (n next refl))
  guarded_poise P env clean valid (g_in {m = answered} true a h) meets f n = absurd (cc (n child refl))
  guarded_poise P env clean valid (g_in {m = returning} true a h) meets f n =
      returning_poise P running (left env.ack a) finished env (shown a) (Ready env a) (GuardedReady env (g_in true a h))
      (poise P env clean valid a meets f (λ s. n (inner s)))
  guarded_poise P env clean valid (g_in {m = running} true a h) meets f n = absurd (cc h)
  guarded_poise P env clean valid (g_in {m = returning} false a h) meets f n = absurd (cc h)

  pub poise : (P : TypedProgram) {p : Process} {m : Mode} (env : Seen) → Clean P env → Valid P env → (a : At p m) → Meets P p → Fits a env
      → ((s : Spot p) → moves env a s ≡ true → steps a s ≡ true) → Poise P m (left env.ack a) env (shown a) (Ready env a)
  poise P env clean valid rests meets f n = settled refl
  poise P env clean valid (at_skip idle h) meets f n = absurd (cc h)
  poise P env clean valid (at_skip running h) meets f n =
      poised refl (only P skipping env (shown (at_skip running h)) (Ready env (at_skip running h)) (inr (refl, (of_skip, refl, refl, refl))))
  poise P env clean valid (at_skip answered h) meets f n = settled refl
  poise P env clean valid (at_skip returning h) meets f n = absurd (cc (n of_skip refl))
  poise P env clean valid (at_assign {x = x} {at = at} {e = e} m u h) meets f n =
      assign_poise P env valid x at e m u h meets f (λ s. n (of_assign s)) (Ready env (at_assign {x = x} {at = at} {e = e} m u h))
  poise P env clean valid (at_send {c = c} {at = at} {e = e} m u h) meets f n =
      send_poise P env valid c at e m u h meets f (λ s. n (of_send s)) (Ready env (at_send {c = c} {at = at} {e = e} m u h))
  poise P env clean valid (at_receive {c = c} {x = x} {at = at} {to = to} m l q h) meets f n =
      receive_poise P env c x at to m l q h meets (λ s. n (of_receive s)) (Ready env (at_receive {c = c} {x = x} {at = at} {to = to} m l q h))
  poise P env clean valid (at_turn {m = m} t) meets f n =
      poise_wider P m (turn_left env.ack t) env (turn_shown t) (TurnReady env t) (Ready env (at_turn t)) (λ at r. (in_members r.0, r.1, r.2, r.3))
      (turn_poise P env clean valid t meets f (λ s. n (in_members s)))
  poise P env clean valid (at_side idle t b h) meets f n = absurd (cc h.awake)
  poise P env clean valid (at_side answered t b h) meets f n = settled refl
  poise P env clean valid (at_side returning t b h) meets f n = absurd (no_end _ t returning h (λ k. off _ (n (joint k))) false
      (λ i less. ends_down env b h.asked (λ s. n (of_branch s)) i) refl)
  poise P env clean valid (at_side {ks = ks} running t b h) meets f n =
      sides (branches_poise P env clean valid b meets.2 f h.asked (λ s. n (of_branch s)))
    where
      sides : BranchesPoise P ks (branches_left env.ack b) env (branches_shown b) (BranchReady env b)
          → Poise P running (together (branches_left env.ack b)) env (branches_shown b) (Ready env (at_side running t b h))
      sides (all_ended e g) = absurd (no_end _ t running h (λ k. off _ (n (joint k))) true (ends_high b e) refl)
      sides (some_poised w) = poised refl (poised_inside P (branches_left env.ack b) env (branches_shown b) (BranchReady env b)
          (Ready env (at_side running t b h)) (λ k at r. (
            of_branch r.0,
            r.1,
            r.2,
            ap (λ z. in_branch z (branch_place r.0)) r.3
                ∙ ap (λ z. in_branch k z) r.4,
          )) w)
      sides (one_lags l) = lagging l
  poise P env clean valid (at_body {m = idle} a) meets f n =
      loop_poised P _ (left env.ack a) env (shown a) (Ready env (at_body a)) (left_done env.ack a (λ e. cc e)) (ask, refl, refl, refl)
  poise P env clean valid (at_body {p = p} {m = running} a) meets f n =
      running_poise P (left env.ack a) (followed (left env.ack a) (again p)) env (shown a) (Ready env a) (Ready env (at_body a))
      (λ r. poised_then P (again p) (left env.ack a) env (shown a) (Ready env a) (Ready env (at_body a))
      (λ at z. (in_body z.0, z.1, z.2, ap (λ y. in_first y) z.3)) r)
      (poise P env clean valid a meets f (λ s. n (in_body s)))
  poise P env clean valid (at_body {m = answered} a) meets f n = absurd (cc (n ask refl))
  poise P env clean valid (at_body {p = p} {m = returning} a) meets f n =
      returning_poise P running (left env.ack a) (followed (left env.ack a) (again p)) env (shown a) (Ready env a) (Ready env (at_body a))
      (poise P env clean valid a meets f (λ s. n (in_body s)))
  poise P env clean valid (at_choice {choices = choices} (control_at c)) meets f n =
      control_poise P env clean valid false choices meets.0 meets.1 c f (λ s. n (of_core s)) (λ s. n (of_guard s)) (λ y t. absurd (cc y))
      (Ready env (at_choice (control_at c))) (λ j m s. (of_core (of_latch j), m, s, refl)) (λ y. absurd (cc y))
  poise P env clean valid (at_choice {choices = choices} (inside_at a w)) meets f n =
      branch_poise P env false choices a w (λ s. off _ (n (of_core s))) (ChosenReady env a) (Ready env (at_choice (inside_at a w)))
      (λ y at r. (of_choice r.0, r.1, r.2, r.3)) (λ y. absurd (cc y))
      (chosen_poise P env clean valid a meets.2 f (λ s. n (of_choice s)))
  poise P env clean valid (at_turning {choices = choices} {m = m} (control_at c)) meets f n =
      turning_poise P m env choices c (λ t. n (of_round t)) (Ready env (at_turning (control_at c)))
      (control_poise P env clean valid true choices meets.0 meets.1 c f (λ s. n (of_core s)) (λ s. n (of_guard s)) (λ y t. n (of_round t))
      (Ready env (at_turning (control_at c))) (λ j m s. (of_core (of_latch j), m, s, refl)) (λ y m s. (of_round of_leave, m, s, refl)))
  poise P env clean valid (at_turning {choices = choices} (inside_at a w)) meets f n =
      turned_poise P env choices a w (λ t. off _ (n (of_round t))) (Ready env (at_turning (inside_at a w)))
      (branch_poise P env true choices a w (λ s. off _ (n (of_core s))) (ChosenReady env a) (Ready env (at_turning (inside_at a w)))
      (λ y. absurd (cc y)) (λ y at r. (of_choice r.0, r.1, r.2, ap (λ z. in_first z) r.3))
      (chosen_poise P env clean valid a meets.2 f (λ s. n (of_choice s))))
  poise P env clean valid (at_closing told_all) meets f n = settled refl
  poise P env clean valid (at_closing lets_turn) meets f n = absurd (cc (n (of_round of_turn) refl))
  poise P env clean valid (at_closing lets_leave) meets f n = absurd (cc (n (of_round of_leave) refl))
  poise P env clean valid (at_closing lets_any) meets f n = absurd (cc (n (of_core of_any) refl))
  poise P env clean valid (at_closing lets_answer) meets f n = absurd (cc (n (of_round of_answer) refl))

  chosen_poise : (P : TypedProgram) {choices : Choices} {k : Mode} (env : Seen) → Clean P env → Valid P env → (a : ChosenAt choices k)
      → ChoiceMeets P choices → ChosenFits a env → ((s : ChoiceSpot choices) → chosen_moves env a s ≡ true → chosen_steps a s ≡ true)
      → Poise P k (chosen_left env.ack a) env (chosen_shown a) (ChosenReady env a)
  chosen_poise P {k = k} env clean valid (this_one a) meets f n =
      poise_wider P k (left env.ack a) env (shown a) (Ready env a) (ChosenReady env (this_one a)) (λ at r. (this_choice r.0, r.1, r.2, r.3))
      (poise P env clean valid a meets.0 f (λ s. n (this_choice s)))
  chosen_poise P {k = k} env clean valid (another a) meets f n =
      poise_wider P k (chosen_left env.ack a) env (chosen_shown a) (ChosenReady env a) (ChosenReady env (another a))
      (λ at r. (other_choice r.0, r.1, r.2, r.3))
      (chosen_poise P env clean valid a meets.1 f (λ s. n (other_choice s)))

  branches_poise : (P : TypedProgram) {members : Processes} {ks : List Mode} (env : Seen) → Clean P env → Valid P env → (b : BranchesAt members ks)
      → EachMeets P members → BranchesFit b env → all_ask true ks ≡ true
      → ((s : BranchSpot members) → branch_moves env b s ≡ true → branch_steps b s ≡ true)
      → BranchesPoise P ks (branches_left env.ack b) env (branches_shown b) (BranchReady env b)
  branches_poise P env clean valid no_more meets f h n = all_ended refl refl
  branches_poise P env clean valid (and_at {k = k} {ks = ks} g b) meets f h n =
      let a : asks k ≡ true = same_value (asks k) true (fst_true (same_bit (asks k) true) (all_ask true ks) h) in
      both_poise P env (guarded_shown g) (branches_shown b) (beside meets.1 g b) (guarded_says_talks g) (branches_say_talk b) (GuardedReady env g)
      (BranchReady env b) (BranchReady env (and_at g b))
      (λ at r. (in_this r.0, r.1, r.2, refl, r.3)) (λ j at r. (in_others r.0, r.1, r.2, ap (λ z. suc z) r.3, r.4))
      k ks (guarded_left env.ack g) (branches_left env.ack b) a (guarded_over env.ack g a)
      (guarded_poise P env clean valid g meets.0 f.0 (λ s. n (in_this s)))
      (branches_poise P env clean valid b meets.2 f.1 (snd_true (same_bit (asks k) true) (all_ask true ks) h) (λ s. n (in_others s)))

  pub turn_poise : (P : TypedProgram) {members : Processes} {m : Mode} (env : Seen) → Clean P env → Valid P env → (t : TurnAt members m) → TurnMeets P members
      → TurnFits t env → ((s : TurnSpot members) → turn_moves env t s ≡ true → turn_steps t s ≡ true)
      → Poise P m (turn_left env.ack t) env (turn_shown t) (TurnReady env t)
  turn_poise P env clean valid turn_rests meets f n = settled refl
  turn_poise P env clean valid (at_last {m = m} a) meets f n =
      poise_wider P m (left env.ack a) env (shown a) (Ready env a) (TurnReady env (at_last a)) (λ at r. (in_last r.0, r.1, r.2, r.3))
      (poise P env clean valid a meets f (λ s. n (in_last s)))
  turn_poise P env clean valid (at_member {q = q} {more = more} g) meets f n =
      running_poise P (guarded_left env.ack g) (followed (guarded_left env.ack g) (and_member q more)) env (guarded_shown g) (GuardedReady env g)
      (TurnReady env (at_member {q = q} {more = more} g))
      (λ r. poised_then P (and_member q more) (guarded_left env.ack g) env (guarded_shown g) (GuardedReady env g)
      (TurnReady env (at_member {q = q} {more = more} g)) (λ at z. (in_member z.0, z.1, z.2, ap (λ y. in_first y) z.3)) r)
      (guarded_poise P env clean valid g meets.0 f (λ s. n (in_member s)))
  turn_poise P env clean valid (at_later {k = k} {n = l} {m = m} g t h) meets f n =
      later_poise P env (link_way m k l h) g (turn_left env.ack t) (turn_shown t) (TurnReady env t) (TurnReady env (at_later g t h))
      (λ at r. (in_later r.0, r.1, r.2, r.3)) (λ s e. never_true (n (in_member s) e)) (turn_poise P env clean valid t meets.1 f (λ s. n (in_later s)))
