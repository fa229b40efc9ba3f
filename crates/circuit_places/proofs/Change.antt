-- What a move of a channel's wire does to the places that read it.
use Rattle.std.proofs.Common.{◌≡◌, ℕ, ◌≤◌, ◌<◌, ◌==◌, Bool, true, false, List, refl, sym, ap, ◌∙◌, subst}
use Rattle.std.specs.Prelude.{not, ◌&&◌, if◌then◌else◌, is_some}
use Rattle.chp_base.specs.declared.span.Span.{Span}
use Rattle.width_check.specs.Processes.{Formula, Process, skipping, assigning, sending, receiving, in_turn, side_by_side, repeating, Processes, no_members, and_member, member_count, TypedProgram, choosing, Choices, and_choice}
use Rattle.circuit_places.specs.Lines.{Line, of_channel, of_var, same_line, site_statement, line_width, Rails, Seen}
use Rattle.circuit_places.specs.Circuit.{PortSpot, heard, stored, taking, of_receive, rails_turned, Pairs, gate_count, gate_rule, one_rule_fires, SiteSpot, Bits, joint_count, GuardedSpot, Spot, TurnSpot, BranchSpot, child, latch, next, inner, of_skip, done, gate, of_assign, of_send, in_members, of_branch, joint, in_this, in_others, of_loop, ask, in_body, in_last, in_member, in_later, GuardCells, low_guards, GuardSpot, ChoiceSpot, this_choice, other_choice, of_core, of_guard, of_choice, of_round, guards_read, guards_rule, guards_good}
use Rattle.circuit_places.specs.Whole.{is_heard, value_on, neutral_on}
use Rattle.width_check.specs.Typing.{kind_at}
use Rattle.width_check.specs.Values.{width_of}
use Rattle.width_check.specs.Reads.{reads}
use Rattle.function_blocks.specs.Waves.{good, out_rail, full, empty}
use Rattle.function_blocks.specs.RailFacts.{covered, emptied}
use Rattle.circuit_places.proofs.RailLemmas.{snd_true, both_true, not_true, told_not_low}
use Rattle.circuit_places.proofs.Places.{Mode, idle, running, answered, returning, asks, acks, is_idle, inner_may, link, wave_may, SiteMay, SideMay, GuardedAt, At, TurnAt, BranchesAt, g_rests, g_in, g_past, g_back, rests, at_skip, at_assign, at_send, at_receive, at_turn, at_side, at_body, no_more, and_at, turn_rests, at_last, at_member, at_later, Shown, both_shown, guarded_shown, shown, turn_shown, branches_shown, site_shown, site_moves, port_may, port_shown, port_ends, PortFits, port_moves, send_fits, SiteFits, GuardedFits, Fits, TurnFits, BranchesFit, guarded_moves, moves, turn_moves, branch_moves, not_running, guards_shown, at_choice, at_turning, at_closing, ChoiceAt, control_at, inside_at, ChosenAt, this_one, another, choice_shown, chosen_shown, ChoiceFits, ChosenFits, choice_guard, choice_inner, chosen_moves}
use Rattle.circuit_places.proofs.Meets.{PortMeets, SiteMeets, site_sends, Meets, TurnMeets, EachMeets, sends, turn_sends, receives, each_receives, GuardsMeet, ChoiceMeets, choice_sends, choice_receives}
use Rattle.circuit_places.proofs.Flow.{neither_left, neither_right, low_of, or_left, or_right, cases}
use Rattle.circuit_places.proofs.LineNames.{self_number, same_number, same_line_is}
use Rattle.circuit_places.proofs.Begin.{answered_all, answered_full, answered_kept, answered_ack, answered_va, port_answered_moves}
use Rattle.circuit_places.proofs.PortLeaf.{runs_kept, runs_va, runs_full, back_ack, back_kept, back_none, back_gone, low_by, run_ends, back_ends, still_high, fallen, port_none}
use Rattle.circuit_places.proofs.Talks.{Beside, beside, or_false_right, or_false_left}
use Rattle.circuit_places.proofs.CoreControl.{Closing, control_ask, control_guards}
use Rattle.circuit_places.proofs.GuardWaves.{guards_unread, guards_asleep}

pub record Changed (p : Process) (m : Mode) (env now : Seen) (a : At p m) : Type 0 where
  pub fits : Fits a now
  pub keeps : (s : Spot p) → moves env a s ≡ true → moves now a s ≡ true

pub record GuardedChanged (p : Process) (m : Mode) (env now : Seen) (g : GuardedAt p m) : Type 0 where
  pub fits : GuardedFits g now
  pub keeps : (s : GuardedSpot p) → guarded_moves env g s ≡ true → guarded_moves now g s ≡ true

pub record TurnChanged (members : Processes) (m : Mode) (env now : Seen) (t : TurnAt members m) : Type 0 where
  pub fits : TurnFits t now
  pub keeps : (s : TurnSpot members) → turn_moves env t s ≡ true → turn_moves now t s ≡ true

pub record BranchesChanged (members : Processes) (ks : List Mode) (env now : Seen) (b : BranchesAt members ks) : Type 0 where
  pub fits : BranchesFit b now
  pub keeps : (s : BranchSpot members) → branch_moves env b s ≡ true → branch_moves now b s ≡ true

pub record ChosenChanged (choices : Choices) (k : Mode) (env now : Seen) (a : ChosenAt choices k) : Type 0 where
  pub fits : ChosenFits a now
  pub keeps : (s : ChoiceSpot choices) → chosen_moves env a s ≡ true → chosen_moves now a s ≡ true

pub record ChoiceChanged (again : Bool) (choices : Choices) (m : Mode) (env now : Seen) (x : ChoiceAt again choices m) : Type 0 where
  pub fits : ChoiceFits x now
  pub guard : (s : GuardSpot choices) → choice_guard env x s ≡ true → choice_guard now x s ≡ true
  pub inside : (s : ChoiceSpot choices) → choice_inner env x s ≡ true → choice_inner now x s ≡ true

-- a condition on what a place shows that goes down to the parts
pub record Handed (Cond : Process → Shown → Type 0) : Type 0 where
  pub to_first : {p : Process} {more : Processes} {x : Shown} → Cond (in_turn (and_member p more)) x → Cond p x
  pub to_later : {p : Process} {more : Processes} {x : Shown} → Cond (in_turn (and_member p more)) x → Cond (in_turn more) x
  pub to_this : {p : Process} {more : Processes} {x y : Shown} → Beside p more x y → Cond (side_by_side (and_member p more)) (both_shown x y) → Cond p x
  pub to_others : {p : Process} {more : Processes} {x y : Shown} → Beside p more x y → Cond (side_by_side (and_member p more)) (both_shown x y)
      → Cond (side_by_side more) y
  pub to_body : {p : Process} {x : Shown} → Cond (repeating p) x → Cond p x
  pub to_choice : {again : Bool} {g : Formula} {p : Process} {more : Choices} {x : Shown} → Cond (choosing again (and_choice g p more)) x → Cond p x
  pub to_choices : {again : Bool} {g : Formula} {p : Process} {more : Choices} {x : Shown} → Cond (choosing again (and_choice g p more)) x
      → Cond (choosing again more) x

-- and what the wire's move does to each leaf
pub record SiteChanged (k : Line) (e : Formula) (m : Mode) (u : Pairs (gate_count e)) (env now : Seen) : Type 0 where
  pub fits : SiteFits k e m u now
  pub keeps : (s : SiteSpot e) → site_moves env k e m u s ≡ true → site_moves now k e m u s ≡ true

pub record PortChanged (c x : ℕ) (m : Mode) (l : Bool) (q : Rails) (env now : Seen) : Type 0 where
  pub fits : PortFits c x m l q now
  pub keeps : (s : PortSpot) → port_moves env c x m l q s ≡ true → port_moves now c x m l q s ≡ true

pub record GuardsChanged (choices : Choices) (r : Bool) (x : GuardCells choices) (env now : Seen) : Type 0 where
  pub fits : guards_good choices now.bit r x ≡ true
  pub keeps : (s : GuardSpot choices) → one_rule_fires (guards_rule choices env.bit r x s) ≡ true → one_rule_fires (guards_rule choices now.bit r x s) ≡ true

pub record AtLeaves (P : TypedProgram) (env now : Seen) (Cond : Process → Shown → Type 0) : Type 0 where
  pub at_ports : (c x : ℕ) (at to : Span) (m : Mode) (l : Bool) (q : Rails) → port_may m l ≡ true → PortMeets P c x
      → Cond (receiving c at x to) (port_shown c x l q) → PortFits c x m l q env → PortChanged c x m l q env now
  pub at_sites : (k : Line) (at : Span) (e : Formula) (m : Mode) (u : Pairs (gate_count e)) → SiteMay e m u → SiteMeets P k e
      → Cond (site_statement k at e) (site_shown k e u) → SiteFits k e m u env → SiteChanged k e m u env now
  pub at_guards : (again : Bool) (choices : Choices) (r : Bool) (x : GuardCells choices) → GuardsMeet P choices
      → Cond (choosing again choices) (guards_shown r choices) → guards_good choices env.bit r x ≡ true → GuardsChanged choices r x env now

module _ (P : TypedProgram) (env now : Seen) (Cond : Process → Shown → Type 0) (handed : Handed Cond) (leaves : AtLeaves P env now Cond) where
  in_keeps : {p : Process} {m : Mode} (u : Bool) (a : At p m) (h : inner_may u m ≡ true) → Changed p m env now a → (s : GuardedSpot p)
      → guarded_moves env (g_in u a h) s ≡ true → guarded_moves now (g_in u a h) s ≡ true
  in_keeps u a h r child z = z
  in_keeps u a h r latch z = z
  in_keeps u a h r next z = z
  in_keeps u a h r (inner s) z = r.keeps s z

  still_back : {p : Process} (u : Bool) (s : GuardedSpot p) → guarded_moves env (g_back {p = p} u) s ≡ true → guarded_moves now (g_back {p = p} u) s ≡ true
  still_back u child z = z
  still_back u latch z = z
  still_back u next z = z
  still_back u (inner s) z = z

  -- the Q-element of a member that is done
  past_keeps : {p : Process} {m : Mode} (g : GuardedAt p m) → (m ≡ running → ⊥) → (s : GuardedSpot p) → guarded_moves env g s ≡ true
      → guarded_moves now g s ≡ true
  past_keeps g_rests out s z = z
  past_keeps (g_in u a h) out s z = absurd (out refl)
  past_keeps g_past out s z = z
  past_keeps (g_back u) out s z = still_back u s z

  skip_keeps : (m : Mode) (h : is_idle m ≡ false) (s : Spot skipping) → moves env (at_skip m h) s ≡ true → moves now (at_skip m h) s ≡ true
  skip_keeps m h of_skip z = z

  assign_changed : (x : ℕ) (at : Span) (e : Formula) (m : Mode) (u : Pairs (gate_count e)) (h : SiteMay e m u) → SiteChanged (of_var x) e m u env now
      → Changed (assigning x at e) m env now (at_assign m u h)
  assign_changed x at e m u h r = record { fits = r.fits; keeps = here }
    where
      here : (s : Spot (assigning x at e)) → moves env (at_assign {x = x} {at = at} {e = e} m u h) s ≡ true
          → moves now (at_assign {x = x} {at = at} {e = e} m u h) s ≡ true
      here (of_assign s) z = r.keeps s z

  send_changed : (c : ℕ) (at : Span) (e : Formula) (m : Mode) (u : Pairs (gate_count e)) (h : SiteMay e m u) → SiteChanged (of_channel c) e m u env now
      → Changed (sending c at e) m env now (at_send m u h)
  send_changed c at e m u h r = record { fits = r.fits; keeps = here }
    where
      here : (s : Spot (sending c at e)) → moves env (at_send {c = c} {at = at} {e = e} m u h) s ≡ true
          → moves now (at_send {c = c} {at = at} {e = e} m u h) s ≡ true
      here (of_send s) z = r.keeps s z

  receive_changed : (c x : ℕ) (at to : Span) (m : Mode) (l : Bool) (q : Rails) (h : port_may m l ≡ true) → PortChanged c x m l q env now
      → Changed (receiving c at x to) m env now (at_receive m l q h)
  receive_changed c x at to m l q h r = record { fits = r.fits; keeps = here }
    where
      here : (s : Spot (receiving c at x to)) → moves env (at_receive {c = c} {x = x} {at = at} {to = to} m l q h) s ≡ true
          → moves now (at_receive {c = c} {x = x} {at = at} {to = to} m l q h) s ≡ true
      here (of_receive s) z = r.keeps s z

  members_keep : {members : Processes} {m : Mode} (t : TurnAt members m) → TurnChanged members m env now t → (s : Spot (in_turn members))
      → moves env (at_turn t) s ≡ true → moves now (at_turn t) s ≡ true
  members_keep t r (in_members s) z = r.keeps s z

  sides_keep : {members : Processes} {ks : List Mode} (m : Mode) (t : Bits (joint_count (member_count members))) (b : BranchesAt members ks)
      (h : SideMay (member_count members) m ks t) → BranchesChanged members ks env now b → (s : Spot (side_by_side members))
      → moves env (at_side m t b h) s ≡ true → moves now (at_side m t b h) s ≡ true
  sides_keep m t b h r (of_branch s) z = r.keeps s z
  sides_keep m t b h r (joint k) z = z

  both_keep : {p : Process} {more : Processes} {k : Mode} {ks : List Mode} (g : GuardedAt p k) (b : BranchesAt more ks) → GuardedChanged p k env now g
      → BranchesChanged more ks env now b → (s : BranchSpot (and_member p more)) → branch_moves env (and_at g b) s ≡ true
      → branch_moves now (and_at g b) s ≡ true
  both_keep g b r q (in_this s) z = r.keeps s z
  both_keep g b r q (in_others s) z = q.keeps s z

  body_keeps : {p : Process} {m : Mode} (a : At p m) → Changed p m env now a → (s : Spot (repeating p)) → moves env (at_body a) s ≡ true
      → moves now (at_body a) s ≡ true
  body_keeps a r of_loop z = z
  body_keeps a r ask z = z
  body_keeps a r (in_body s) z = r.keeps s z

  last_keeps : {p : Process} {m : Mode} (a : At p m) → Changed p m env now a → (s : TurnSpot (and_member p no_members)) → turn_moves env (at_last a) s ≡ true
      → turn_moves now (at_last a) s ≡ true
  last_keeps a r (in_last s) z = r.keeps s z

  member_keeps : {p q : Process} {more : Processes} (g : GuardedAt p running) → GuardedChanged p running env now g
      → (s : TurnSpot (and_member p (and_member q more))) → turn_moves env (at_member {q = q} {more = more} g) s ≡ true
      → turn_moves now (at_member {q = q} {more = more} g) s ≡ true
  member_keeps g r (in_member s) z = r.keeps s z
  member_keeps g r (in_later s) z = z

  later_keeps : {p q : Process} {more : Processes} {k n : Mode} (m : Mode) (g : GuardedAt p k) (t : TurnAt (and_member q more) n) (h : link m k n ≡ true)
      → TurnChanged (and_member q more) n env now t → (s : TurnSpot (and_member p (and_member q more))) → turn_moves env (at_later g t h) s ≡ true
      → turn_moves now (at_later g t h) s ≡ true
  later_keeps {k = k} {n = n} m g t h r (in_member s) z = past_keeps g (not_running m k n h) s z
  later_keeps m g t h r (in_later s) z = r.keeps s z

  choice_keeps : {choices : Choices} {m : Mode} (x : ChoiceAt false choices m) → ChoiceChanged false choices m env now x
      → (s : Spot (choosing false choices)) → moves env (at_choice x) s ≡ true → moves now (at_choice x) s ≡ true
  choice_keeps x r (of_core s) z = z
  choice_keeps x r (of_guard s) z = r.guard s z
  choice_keeps x r (of_choice s) z = r.inside s z

  turning_keeps : {choices : Choices} {m : Mode} (x : ChoiceAt true choices m) → ChoiceChanged true choices m env now x
      → (s : Spot (choosing true choices)) → moves env (at_turning x) s ≡ true → moves now (at_turning x) s ≡ true
  turning_keeps x r (of_core s) z = z
  turning_keeps x r (of_guard s) z = r.guard s z
  turning_keeps x r (of_choice s) z = r.inside s z
  turning_keeps x r (of_round s) z = z

  closing_keeps : {choices : Choices} {m : Mode} (c : Closing m) (s : Spot (choosing true choices)) → moves env (at_closing c) s ≡ true
      → moves now (at_closing c) s ≡ true
  closing_keeps c (of_core s) z = z
  closing_keeps c (of_guard s) z = z
  closing_keeps c (of_choice s) z = z
  closing_keeps c (of_round s) z = z

  this_keeps : {g : Formula} {p : Process} {more : Choices} {k : Mode} (a : At p k) → Changed p k env now a → (s : ChoiceSpot (and_choice g p more))
      → chosen_moves env (this_one {g = g} {more = more} a) s ≡ true → chosen_moves now (this_one {g = g} {more = more} a) s ≡ true
  this_keeps a r (this_choice s) z = r.keeps s z
  this_keeps a r (other_choice s) z = absurd (cc z)

  other_keeps : {g : Formula} {p : Process} {more : Choices} {k : Mode} (a : ChosenAt more k) → ChosenChanged more k env now a
      → (s : ChoiceSpot (and_choice g p more)) → chosen_moves env (another {g = g} {p = p} a) s ≡ true
      → chosen_moves now (another {g = g} {p = p} a) s ≡ true
  other_keeps a r (this_choice s) z = absurd (cc z)
  other_keeps a r (other_choice s) z = r.keeps s z

  mutual
    pub guarded_changed : {p : Process} {m : Mode} (g : GuardedAt p m) → Meets P p → Cond p (guarded_shown g) → GuardedFits g env → GuardedChanged p m env now g
    guarded_changed g_rests meets i f = record { fits = tt; keeps = λ s z. z }
    guarded_changed (g_in u a h) meets i f = let r = changed a meets i f in record { fits = r.fits; keeps = in_keeps u a h r }
    guarded_changed g_past meets i f = record { fits = tt; keeps = λ s z. z }
    guarded_changed (g_back u) meets i f = record { fits = tt; keeps = still_back u }

    pub changed : {p : Process} {m : Mode} (a : At p m) → Meets P p → Cond p (shown a) → Fits a env → Changed p m env now a
    changed rests meets i f = record { fits = tt; keeps = λ s z. z }
    changed (at_skip m h) meets i f = record { fits = tt; keeps = skip_keeps m h }
    changed (at_assign {x = x} {at = at} {e = e} m u h) meets i f = assign_changed x at e m u h (leaves.at_sites (of_var x) at e m u h meets i f)
    changed (at_send {c = c} {at = at} {e = e} m u h) meets i f = send_changed c at e m u h (leaves.at_sites (of_channel c) at e m u h meets i f)
    changed (at_receive {c = c} {x = x} {at = at} {to = to} m l q h) meets i f = receive_changed c x at to m l q h (leaves.at_ports c x at to m l q h meets i f)
    changed (at_turn t) meets i f = let r = turn_changed t meets i f in record { fits = r.fits; keeps = members_keep t r }
    changed (at_side m t b h) meets i f = let r = branches_changed b meets.2 i f in record { fits = r.fits; keeps = sides_keep m t b h r }
    changed (at_body a) meets i f = let r = changed a meets (handed.to_body i) f in record { fits = r.fits; keeps = body_keeps a r }
    changed (at_choice x) meets i f = let r = choice_changed false x meets.1 meets.2 i f in record { fits = r.fits; keeps = choice_keeps x r }
    changed (at_turning x) meets i f = let r = choice_changed true x meets.1 meets.2 i f in record { fits = r.fits; keeps = turning_keeps x r }
    changed (at_closing c) meets i f = record { fits = tt; keeps = closing_keeps c }

    pub choice_changed : (again : Bool) {choices : Choices} {m : Mode} (x : ChoiceAt again choices m) → GuardsMeet P choices → ChoiceMeets P choices
        → Cond (choosing again choices) (choice_shown x) → ChoiceFits x env → ChoiceChanged again choices m env now x
    choice_changed again (control_at {choices = choices} c) laws meets i f =
        let r = leaves.at_guards again choices (control_ask c) (control_guards (low_guards choices) c) laws i f in
        record { fits = r.fits; guard = r.keeps; inside = λ s z. z }
    choice_changed again (inside_at a w) laws meets i f =
        let r = chosen_changed again a meets i f in record { fits = r.fits; guard = λ s z. z; inside = r.keeps }

    pub chosen_changed : (again : Bool) {choices : Choices} {k : Mode} (a : ChosenAt choices k) → ChoiceMeets P choices
        → Cond (choosing again choices) (chosen_shown a) → ChosenFits a env → ChosenChanged choices k env now a
    chosen_changed again (this_one a) meets i f = let r = changed a meets.0 (handed.to_choice i) f in record { fits = r.fits; keeps = this_keeps a r }
    chosen_changed again (another a) meets i f =
        let r = chosen_changed again a meets.1 (handed.to_choices i) f in record { fits = r.fits; keeps = other_keeps a r }

    pub branches_changed : {members : Processes} {ks : List Mode} (b : BranchesAt members ks) → EachMeets P members
        → Cond (side_by_side members) (branches_shown b) → BranchesFit b env → BranchesChanged members ks env now b
    branches_changed no_more meets i f = record { fits = tt; keeps = λ s z. z }
    branches_changed (and_at g b) meets i f =
        let r = guarded_changed g meets.0 (handed.to_this (beside meets.1 g b) i) f.0 in
        let q = branches_changed b meets.2 (handed.to_others (beside meets.1 g b) i) f.1 in
        record { fits = (r.fits, q.fits); keeps = both_keep g b r q }

    pub turn_changed : {members : Processes} {m : Mode} (t : TurnAt members m) → TurnMeets P members → Cond (in_turn members) (turn_shown t) → TurnFits t env
        → TurnChanged members m env now t
    turn_changed turn_rests meets i f = record { fits = tt; keeps = λ s z. z }
    turn_changed (at_last a) meets i f = let r = changed a meets (handed.to_first i) f in record { fits = r.fits; keeps = last_keeps a r }
    turn_changed (at_member g) meets i f = let r = guarded_changed g meets.0 (handed.to_first i) f in record { fits = r.fits; keeps = member_keeps g r }
    turn_changed (at_later {m = m} g t h) meets i f = let r = turn_changed t meets.1 (handed.to_later i) f in
        record { fits = r.fits; keeps = later_keeps m g t h r }

-- Where a statement has sites of the line, each rail of it that is high is one of the statement's; where it receives on the
-- line's channel it has stored; and no variable that is read is being written.
pub record Ready (c : Line) (rail : Rails) (busy : ℕ → Bool) (p : Process) (x : Shown) : Type 0 where
  pub send : sends p c ≡ true → (i : ℕ) (one : Bool) → rail i one ≡ true → x.offer c i one ≡ true
  pub receive : (d : ℕ) → same_line (of_channel d) c ≡ true → receives p d ≡ true → x.take d ≡ true
  pub calm : (v : ℕ) → x.read v ≡ true → busy v ≡ false

pub ready_down : (c : Line) (rail : Rails) (busy : ℕ → Bool) → Handed (Ready c rail busy)
ready_down c rail busy = record {
  to_first = λ {p} {more} {x} r. record {
    send = λ e. r.send (or_left (sends p c) (turn_sends more c) e);
    receive = λ d z e. r.receive d z (or_left (receives p d) (each_receives more d) e);
    calm = r.calm;
  };
  to_later = λ {p} {more} {x} r. record {
    send = λ e. r.send (or_right (sends p c) (turn_sends more c) e);
    receive = λ d z e. r.receive d z (or_right (receives p d) (each_receives more d) e);
    calm = r.calm;
  };
  to_this = λ {p} {more} {x} {y} b r. record {
    send = λ e i one h. sym (or_false_right (x.offer c i one) (y.offer c i one) (b.none_theirs c i one e))
        ∙ r.send (or_left (sends p c) (turn_sends more c) e) i one h;
    receive = λ d z e. sym (or_false_right (x.take d) (y.take d) (low_of (y.take d) (b.taken_theirs d) (b.deaf_theirs d e)))
        ∙ r.receive d z (or_left (receives p d) (each_receives more d) e);
    calm = λ v h. r.calm v (or_left (x.read v) (y.read v) h);
  };
  to_others = λ {p} {more} {x} {y} b r. record {
    send = λ e i one h. sym (or_false_left (x.offer c i one) (y.offer c i one) (b.none_mine c i one e))
        ∙ r.send (or_right (sends p c) (turn_sends more c) e) i one h;
    receive = λ d z e. sym (or_false_left (x.take d) (y.take d) (low_of (x.take d) (b.taken_mine d) (b.deaf_mine d e)))
        ∙ r.receive d z (or_right (receives p d) (each_receives more d) e);
    calm = λ v h. r.calm v (or_right (x.read v) (y.read v) h);
  };
  to_body = λ {p} {x} r. record { send = r.send; receive = r.receive; calm = r.calm };
  to_choice = λ {again} {g} {p} {more} {x} r. record {
    send = λ e. r.send (or_left (sends p c) (choice_sends more c) e);
    receive = λ d z e. r.receive d z (or_left (receives p d) (choice_receives more d) e);
    calm = r.calm;
  };
  to_choices = λ {again} {g} {p} {more} {x} r. record {
    send = λ e. r.send (or_right (sends p c) (choice_sends more c) e);
    receive = λ d z e. r.receive d z (or_right (receives p d) (choice_receives more d) e);
    calm = r.calm;
  };
}

-- Each rail of the line that a statement holds is high, and no receive on its channel has a value.
pub record Kept (c : Line) (rail : Rails) (p : Process) (x : Shown) : Type 0 where
  pub offer : (i : ℕ) (one : Bool) → x.offer c i one ≡ true → rail i one ≡ true
  pub take : (d : ℕ) → same_line (of_channel d) c ≡ true → x.take d ≡ false

pub kept_down : (c : Line) (rail : Rails) → Handed (Kept c rail)
kept_down c rail = record {
  to_first = λ {p} {more} {x} r. record { offer = r.offer; take = r.take };
  to_later = λ {p} {more} {x} r. record { offer = r.offer; take = r.take };
  to_this = λ {p} {more} {x} {y} b r. record {
    offer = λ i one h. r.offer i one (or_left (x.offer c i one) (y.offer c i one) h);
    take = λ d z. neither_left
        (x.take d) (y.take d) (r.take d z);
  };
  to_others = λ {p} {more} {x} {y} b r. record {
    offer = λ i one h. r.offer i one (or_right (x.offer c i one) (y.offer c i one) h);
    take = λ d z. neither_right
        (x.take d) (y.take d) (r.take d z);
  };
  to_body = λ {p} {x} r. record { offer = r.offer; take = r.take };
  to_choice = λ {again} {g} {p} {more} {x} r. record { offer = r.offer; take = r.take };
  to_choices = λ {again} {g} {p} {more} {x} r. record { offer = r.offer; take = r.take };
}

-- No receive on the channel has stored.
pub record Free (c : ℕ) (p : Process) (x : Shown) : Type 0 where
  pub take : x.take c ≡ false

pub free_down : (c : ℕ) → Handed (Free c)
free_down c = record {
  to_first = λ {p} {more} {x} r. record { take = r.take };
  to_later = λ {p} {more} {x} r. record { take = r.take };
  to_this = λ {p} {more} {x} {y} b r. record { take = neither_left (x.take c) (y.take c) r.take };
  to_others = λ {p} {more} {x} {y} b r. record { take = neither_right (x.take c) (y.take c) r.take };
  to_body = λ {p} {x} r. record { take = r.take };
  to_choice = λ {again} {g} {p} {more} {x} r. record { take = r.take };
  to_choices = λ {again} {g} {p} {more} {x} r. record { take = r.take };
}

abbrev pub Any : Process → Shown → Type 0
Any p x = Unit {0}

pub any_down : Handed Any
any_down = record {
  to_first = λ {p} {more} {x} r. tt;
  to_later = λ {p} {more} {x} r. tt;
  to_this = λ {p} {more} {x} {y} b r. tt;
  to_others = λ {p} {more} {x} {y} b r. tt;
  to_body = λ {p} {x} r. tt;
  to_choice = λ {again} {g} {p} {more} {x} r. tt;
  to_choices = λ {again} {g} {p} {more} {x} r. tt;
}

-- the rails of a channel on which the program receives stay
abbrev pub Received : TypedProgram → Seen → Seen → Type 0
Received P env now = (c : ℕ) → is_heard (kind_at P.channels c) ≡ true → now.rail (of_channel c) ≡ env.rail (of_channel c)

-- one acknowledge turns over, and no rail that is read
pub record AckTurned (P : TypedProgram) (env now : Seen) (c : Line) : Type 0 where
  pub here : now.ack c ≡ not (env.ack c)
  pub far : (k : Line) → same_line k c ≡ false → now.ack k ≡ env.ack k
  pub bits : now.bit ≡ env.bit
  pub rails : Received P env now
  pub widths : now.width ≡ env.width

pub near : (P : TypedProgram) (env now : Seen) (c d : Line) → AckTurned P env now c → same_line d c ≡ true → now.ack d ≡ not (env.ack c)
near P env now c d t e = ap now.ack (same_line_is d c e) ∙ t.here

-- a site whose acknowledge stays, and what it reads
pub still_site : (env now : Seen) (k : Line) (e : Formula) (m : Mode) (u : Pairs (gate_count e)) → now.ack k ≡ env.ack k → now.bit ≡ env.bit
    → SiteFits k e m u env → SiteChanged k e m u env now
still_site env now k e m u same bits f = record {
  fits = (ap (send_fits m (full e u) (empty e u)) same ∙ f.0, ap (λ (b : ℕ → Rails). good (asks m) b e u) bits ∙ f.1);
  keeps = keeps;
}
  where
    keeps : (s : SiteSpot e) → site_moves env k e m u s ≡ true → site_moves now k e m u s ≡ true
    keeps done z = ap (λ b. if acks m then not b else asks m && b) same ∙ z
    keeps (gate i one) z = ap (λ (b : ℕ → Rails). one_rule_fires (gate_rule e b (asks m) u i one)) bits ∙ z

-- guards over bits that stay
pub still_guards : (env now : Seen) (choices : Choices) (r : Bool) (x : GuardCells choices) → now.bit ≡ env.bit → guards_good choices env.bit r x ≡ true
    → GuardsChanged choices r x env now
still_guards env now choices r x bits f = record {
  fits = ap (λ (b : ℕ → Rails). guards_good choices b r x) bits ∙ f;
  keeps = λ s z. ap (λ (b : ℕ → Rails). one_rule_fires (guards_rule choices b r x s)) bits ∙ z;
}

-- a receive whose acknowledges and whose channel's rails stay
pub still_port : (env now : Seen) (c x : ℕ) (m : Mode) (l : Bool) (q : Rails) → now.width ≡ env.width → now.ack (of_channel c) ≡ env.ack (of_channel c)
    → now.ack (of_var x) ≡ env.ack (of_var x) → now.rail (of_channel c) ≡ env.rail (of_channel c)
    → PortFits c x m l q env → PortChanged c x m l q env now
still_port env now c x m l q widths ack va rail f = record {
  fits = record {
    ends = ap (λ (w : Line → ℕ). port_ends m l (now.ack (of_channel c)) (now.ack (of_var x)) (is_some (value_on (w (of_var x)) q))
        (neutral_on (w (of_var x)) q)) widths
        ∙ (ap (λ a. port_ends m l a (now.ack (of_var x)) (is_some (value_on (env.width (of_var x)) q)) (neutral_on (env.width (of_var x)) q)) ack
        ∙ (ap (λ v. port_ends m l (env.ack (of_channel c)) v (is_some (value_on (env.width (of_var x)) q)) (neutral_on (env.width (of_var x)) q)) va ∙ f.ends));
    before = λ z i one h. ap (λ (r : Rails). r i one) rail ∙ f.before z i one h;
    behind = λ z i one h. f.behind z i one (sym (ap (λ (r : Rails). r i one) rail) ∙ h);
    within = λ i one h. subst (λ (w : Line → ℕ). i < w (of_var x)) (sym widths) (f.within i one h);
    single = f.single;
  };
  keeps = keeps;
}
  where
    keeps : (s : PortSpot) → port_moves env c x m l q s ≡ true → port_moves now c x m l q s ≡ true
    keeps heard z = ap (λ b. if acks m then not b else asks m && b) ack ∙ z
    keeps stored z = ap (λ b. if l then not b else asks m && b) va ∙ z
    keeps (taking i one) z = ap (λ (r : Rails). if q i one then not (asks m) && not (r i one) else asks m && r i one) rail ∙ z

-- what no statement sees
pub still_leaves : (P : TypedProgram) (env now : Seen) → now.width ≡ env.width → ((k : Line) → now.ack k ≡ env.ack k) → now.bit ≡ env.bit → Received P env now
    → AtLeaves P env now Any
still_leaves P env now widths same bits rails = record {
  at_sites = λ k at e m u h meets r f. still_site env now k e m u (same k) bits f;
  at_guards = λ again choices r x laws i f. still_guards env now choices r x bits f;
  at_ports = λ c x at to m l q h meets r f. still_port env now c x m l q widths (same (of_channel c)) (same (of_var x)) (rails c meets.heard) f;
}

-- a variable's rails move that isn't read
pub record Unread (v : ℕ) (p : Process) (x : Shown) : Type 0 where
  pub read : x.read v ≡ false

pub unread_down : (v : ℕ) → Handed (Unread v)
unread_down v = record {
  to_first = λ {p} {more} {x} r. record { read = r.read };
  to_later = λ {p} {more} {x} r. record { read = r.read };
  to_this = λ {p} {more} {x} {y} b r. record { read = neither_left (x.read v) (y.read v) r.read };
  to_others = λ {p} {more} {x} {y} b r. record { read = neither_right (x.read v) (y.read v) r.read };
  to_body = λ {p} {x} r. record { read = r.read };
  to_choice = λ {again} {g} {p} {more} {x} r. record { read = r.read };
  to_choices = λ {again} {g} {p} {more} {x} r. record { read = r.read };
}

pub bit_leaves : (P : TypedProgram) (env now : Seen) (v : ℕ) → now.width ≡ env.width → ((k : Line) → now.ack k ≡ env.ack k) → Received P env now
    → ((x : ℕ) → (x == v) ≡ false → now.bit x ≡ env.bit x) → AtLeaves P env now (Unread v)
bit_leaves P env now v widths same rails far = record {
  at_sites = the_site;
  at_guards = the_guards;
  at_ports = λ c x at to m l q h meets r f. still_port env now c x m l q widths (same (of_channel c)) (same (of_var x)) (rails c meets.heard) f;
}
  where
    the_guards : (again : Bool) (choices : Choices) (r : Bool) (x : GuardCells choices) → GuardsMeet P choices
        → Unread v (choosing again choices) (guards_shown r choices) → guards_good choices env.bit r x ≡ true → GuardsChanged choices r x env now
    the_guards again choices true x laws i f =
        let r = guards_unread P env.bit now.bit true choices laws x others in
        record { fits = sym r.0 ∙ f; keeps = λ s z. sym (ap one_rule_fires (r.1 s)) ∙ z }
      where
        others : (y j : ℕ) (one : Bool) → guards_read choices y ≡ true → env.bit y j one ≡ now.bit y j one
        others y j one read = cases (y == v)
            (λ (z : (y == v) ≡ true). absurd (cc (read, ap (guards_read choices) (same_number y v z), i.read)))
            (λ (z : (y == v) ≡ false). ap (λ (b : Rails). b j one) (sym (far y z)))
    the_guards again choices false x laws i f =
        let r = guards_asleep P env.bit now.bit choices laws x in
        record { fits = sym r.0 ∙ f; keeps = λ s z. sym (ap one_rule_fires (r.1 s)) ∙ z }

    the_site : (k : Line) (at : Span) (e : Formula) (m : Mode) (u : Pairs (gate_count e)) → SiteMay e m u → SiteMeets P k e
        → Unread v (site_statement k at e) (site_shown k e u) → SiteFits k e m u env → SiteChanged k e m u env now
    the_site k at e m u h meets r f = record {
      fits = (ap (send_fits m (full e u) (empty e u)) (same k) ∙ f.0, sym both.0 ∙ f.1);
      keeps = keeps;
    }
      where
        others : (x i : ℕ) (one : Bool) → reads x e ≡ true → env.bit x i one ≡ now.bit x i one
        others x i one read = cases (x == v)
            (λ (z : (x == v) ≡ true). absurd (cc (read, ap (λ n. reads n e) (same_number x v z), r.read)))
            (λ (z : (x == v) ≡ false). ap (λ (b : Rails). b i one) (sym (far x z)))

        both : (good (asks m) env.bit e u ≡ good (asks m) now.bit e u) × ((i : ℕ) (one : Bool)
            → gate_rule e env.bit (asks m) u i one ≡ gate_rule e now.bit (asks m) u i one)
        both = h.known.unread (asks m) env.bit now.bit u others

        keeps : (s : SiteSpot e) → site_moves env k e m u s ≡ true → site_moves now k e m u s ≡ true
        keeps done z = ap (λ b. if acks m then not b else asks m && b) (same k) ∙ z
        keeps (gate i one) z = sym (ap one_rule_fires (both.1 i one)) ∙ z

-- What a site's rails say where the line's do.
pub ready_full : (P : TypedProgram) (env : Seen) (c : Line) → is_some (value_on (line_width P c) (env.rail c)) ≡ true
    → (busy : ℕ → Bool) (d : Line) (at : Span) (e : Formula) (m : Mode) (u : Pairs (gate_count e)) → SiteMay e m u → SiteMeets P d e → same_line d c ≡ true
    → Ready c (env.rail c) busy (site_statement d at e) (site_shown d e u) → SiteFits d e m u env
    → (full e u ≡ true) × (value_on (width_of e) (out_rail e u) ≡ value_on (line_width P c) (env.rail c))
ready_full P env c some busy d at e m u h meets same r f =
    let width : width_of e ≡ line_width P c = meets.agrees ∙ ap (line_width P) (same_line_is d c same) in
    let valid : is_some (value_on (width_of e) (env.rail c)) ≡ true = ap (λ n. is_some (value_on n (env.rail c))) width ∙ some in
    let told = covered (width_of e) (env.rail c) (out_rail e u)
    (λ i one z. snd_true (same_line d c) (out_rail e u i one) (r.send (site_sends d at e c ∙ same) i one z))
    (λ i p q. h.known.one_rail (asks m) env.bit u i f.1 p q) valid in
    (ap is_some told ∙ valid, told ∙ ap (λ n. value_on n (env.rail c)) width)

pub kept_none : (P : TypedProgram) (env : Seen) (c : Line) → neutral_on (line_width P c) (env.rail c) ≡ true
    → (d : Line) (at : Span) (e : Formula) (u : Pairs (gate_count e)) → SiteMeets P d e → same_line d c ≡ true
    → Kept c (env.rail c) (site_statement d at e) (site_shown d e u) → empty e u ≡ true
kept_none P env c low d at e u meets same r =
    let width : width_of e ≡ line_width P c = meets.agrees ∙ ap (line_width P) (same_line_is d c same) in
    emptied (width_of e) (env.rail c) (out_rail e u)
    (λ i one z. r.offer i one (both_true (same_line d c) (out_rail e u i one) same z))
    (ap (λ n. neutral_on n (env.rail c)) width ∙ low)

-- so the site runs, or it returns
pub full_runs : (m : Mode) (f n a : Bool) → wave_may m f ≡ true → send_fits m f n a ≡ true → n ≡ false → a ≡ false → m ≡ running
full_runs idle f n a h k e g = absurd (cc h)
full_runs running f n a h k e g = refl
full_runs answered f n a h k e g = absurd (cc (k, g))
full_runs returning f true a h k e g = absurd (cc e)
full_runs returning f false a h k e g = absurd (cc (k, g))

pub none_returns : (m : Mode) (f n a : Bool) → wave_may m f ≡ true → send_fits m f n a ≡ true → f ≡ false → a ≡ true → m ≡ returning
none_returns idle f n a h k e g = absurd (cc h)
none_returns running true n a h k e g = absurd (cc e)
none_returns running false true a h k e g = absurd (cc (not_true a k, g))
none_returns running false false a h k e g = absurd (cc (not_true a k, g))
none_returns answered f n a h k e g = absurd (cc (answered_all f h, e))
none_returns returning f n a h k e g = refl

full_mode : (e : Formula) (u : Pairs (gate_count e)) (m : Mode) (a : Bool) → 1 ≤ width_of e → SiteMay e m u → send_fits m (full e u) (empty e u) a ≡ true
    → full e u ≡ true → a ≡ false → m ≡ running
full_mode e u m a some h f whole low = full_runs m (full e u) (empty e u) a h.may f (told_not_low (width_of e) (out_rail e u) some whole) low

pub site_runs : (P : TypedProgram) (env : Seen) (d : Line) (e : Formula) (m : Mode) (u : Pairs (gate_count e)) → SiteMay e m u → SiteMeets P d e
    → SiteFits d e m u env → full e u ≡ true → env.ack d ≡ false → m ≡ running
site_runs P env d e m u h meets f whole low = full_mode e u m (env.ack d) meets.some h f.0 whole low

-- an acknowledge rises
pub raise_leaves : (P : TypedProgram) (env now : Seen) (c : Line) (busy : ℕ → Bool) → AckTurned P env now c → env.ack c ≡ false
    → is_some (value_on (line_width P c) (env.rail c)) ≡ true → ((k : Line) → env.width k ≡ line_width P k) → AtLeaves P env now (Ready c (env.rail c) busy)
raise_leaves P env now c busy t low some wide = record {
  at_sites = the_site;
  at_ports = the_port;
  at_guards = λ again choices r x laws i f. still_guards env now choices r x t.bits f;
}
  where
    at_it : (d : Line) (e : Formula) (m : Mode) (u : Pairs (gate_count e)) → m ≡ running → full e u ≡ true → env.ack d ≡ false → SiteFits d e m u env
        → SiteChanged d e m u env now
    at_it d e running u is whole l f = record {
      fits = (ap (λ b. send_fits running b (empty e u) (now.ack d)) whole, ap (λ (b : ℕ → Rails). good true b e u) t.bits ∙ f.1);
      keeps = keeps;
    }
      where
        keeps : (s : SiteSpot e) → site_moves env d e running u s ≡ true → site_moves now d e running u s ≡ true
        keeps done z = absurd (cc (l, z))
        keeps (gate i one) z = ap (λ (b : ℕ → Rails). one_rule_fires (gate_rule e b true u i one)) t.bits ∙ z
    at_it d e idle u is whole l f = absurd (cc is)
    at_it d e answered u is whole l f = absurd (cc is)
    at_it d e returning u is whole l f = absurd (cc is)

    the_site : (d : Line) (at : Span) (e : Formula) (m : Mode) (u : Pairs (gate_count e)) → SiteMay e m u → SiteMeets P d e
        → Ready c (env.rail c) busy (site_statement d at e) (site_shown d e u) → SiteFits d e m u env → SiteChanged d e m u env now
    the_site d at e m u h meets r f = cases (same_line d c)
        (λ (same : same_line d c ≡ true).
        let whole = (ready_full P env c some busy d at e m u h meets same r f).0 in
        let l : env.ack d ≡ false = ap env.ack (same_line_is d c same) ∙ low in
        at_it d e m u (site_runs P env d e m u h meets f whole l) whole l f)
        (λ (other : same_line d c ≡ false). still_site env now d e m u (t.far d other) t.bits f)

    -- the variable's acknowledge rises over all rails that are taken
    var_port : (d x : ℕ) (m : Mode) (l : Bool) (q : Rails) → port_may m l ≡ true → PortMeets P d x → same_line (of_var x) c ≡ true
        → ((i : ℕ) (one : Bool) → env.rail c i one ≡ true → q i one ≡ true) → now.ack (of_channel d) ≡ env.ack (of_channel d)
        → PortFits d x m l q env → PortChanged d x m l q env now
    var_port d x m l q h meets z within same f =
        let line = same_line_is (of_var x) c z in
        let valid : is_some (value_on (env.width (of_var x)) (env.rail c)) ≡ true = ap (λ n. is_some (value_on n (env.rail c)))
        (wide (of_var x) ∙ ap (line_width P) line) ∙ some in
        let all : is_some (value_on (env.width (of_var x)) q) ≡ true = ap is_some (covered (env.width (of_var x)) (env.rail c) q within f.single valid)
        ∙ valid in
        let idle_va : env.ack (of_var x) ≡ false = ap env.ack line ∙ low in
        let done : now.ack (of_var x) ≡ true = near P env now c (of_var x) t z ∙ ap not low in
        let many : 1 ≤ env.width (of_var x) = subst (λ (n : ℕ). 1 ≤ n) (sym (wide (of_var x))) meets.some in
        raised d x m l q h same (t.rails d meets.heard) t.widths idle_va done all (told_not_low (env.width (of_var x)) q many all) f
      where
        raised : (d x : ℕ) (m : Mode) (l : Bool) (q : Rails) → port_may m l ≡ true → now.ack (of_channel d) ≡ env.ack (of_channel d)
            → now.rail (of_channel d) ≡ env.rail (of_channel d) → now.width ≡ env.width → env.ack (of_var x) ≡ false → now.ack (of_var x) ≡ true
            → is_some (value_on (env.width (of_var x)) q) ≡ true → neutral_on (env.width (of_var x)) q ≡ false → PortFits d x m l q env
            → PortChanged d x m l q env now
        raised d x idle l q h same rail widths v w all part f = absurd (cc h)
        raised d x answered l q h same rail widths v w all part f = absurd
            (cc (
              answered_va l (env.ack (of_channel d)) (env.ack (of_var x)) (is_some (value_on (env.width (of_var x)) q))
                  (neutral_on (env.width (of_var x)) q) f.ends,
              v,
            ))
        raised d x returning l q h same rail widths v w all part f = absurd
            (cc (
              back_none l (env.ack (of_channel d)) (env.ack (of_var x)) (is_some (value_on (env.width (of_var x)) q))
                  (neutral_on (env.width (of_var x)) q) f.ends v,
              part,
            ))
        raised d x running l q h same rail widths v w all part f =
            let gone = low_by l (env.ack (of_var x)) (runs_va l (env.ack (of_channel d)) (env.ack (of_var x)) (is_some (value_on (env.width (of_var x)) q))
            (neutral_on (env.width (of_var x)) q) f.ends) v in
            let quiet = low_by (env.ack (of_channel d)) l (runs_kept l (env.ack (of_channel d)) (env.ack (of_var x))
            (is_some (value_on (env.width (of_var x)) q)) (neutral_on (env.width (of_var x)) q) f.ends) gone in
            record {
              fits = record {
                ends = ap (λ (u : Line → ℕ). port_ends running l (now.ack (of_channel d)) (now.ack (of_var x)) (is_some (value_on (u (of_var x)) q))
                    (neutral_on (u (of_var x)) q)) widths
                    ∙ run_ends l (now.ack (of_channel d)) (now.ack (of_var x)) (is_some (value_on (env.width (of_var x)) q))
                    (neutral_on (env.width (of_var x)) q) (λ e. absurd (cc (sym same ∙ e, quiet))) (λ e. absurd (cc (e, gone))) (λ e. all);
                before = λ y i one r. ap (λ (g : Rails). g i one) rail ∙ f.before y i one r;
                behind = λ y i one r. f.behind y i one (sym (ap (λ (g : Rails). g i one) rail) ∙ r);
                within = λ i one r. subst (λ (u : Line → ℕ). i < u (of_var x)) (sym widths) (f.within i one r);
                single = f.single;
              };
              keeps = keeps gone;
            }
          where
            keeps : l ≡ false → (s : PortSpot) → port_moves env d x running l q s ≡ true → port_moves now d x running l q s ≡ true
            keeps gone heard z = ap (λ b. if false then not b else true && b) same ∙ z
            keeps gone stored z = absurd (cc (ap (λ b. if b then not (env.ack (of_var x)) else true && env.ack (of_var x)) gone, v, z))
            keeps gone (taking i one) z = ap (λ (r : Rails). if q i one then not true && not (r i one) else true && r i one) rail ∙ z

    -- and a channel's over a receive that has stored
    channel_port : (d x : ℕ) (m : Mode) (l : Bool) (q : Rails) → port_may m l ≡ true → PortMeets P d x → same_line (of_channel d) c ≡ true → l ≡ true
        → now.ack (of_var x) ≡ env.ack (of_var x) → PortFits d x m l q env → PortChanged d x m l q env now
    channel_port d x m l q h meets z kept same f =
        raised m h f (ap env.ack (same_line_is (of_channel d) c z) ∙ low) (near P env now c (of_channel d) t z ∙ ap not low)
      where
        raised : (m : Mode) → port_may m l ≡ true → PortFits d x m l q env → env.ack (of_channel d) ≡ false → now.ack (of_channel d) ≡ true
            → PortChanged d x m l q env now
        raised idle h f a b = absurd (cc h)
        raised answered h f a b = absurd (cc (
          answered_ack l (env.ack (of_channel d)) (env.ack (of_var x)) (is_some (value_on (env.width (of_var x)) q))
              (neutral_on (env.width (of_var x)) q) f.ends,
          a,
        ))
        raised returning h f a b = absurd (cc (
          back_ack l (env.ack (of_channel d)) (env.ack (of_var x)) (is_some (value_on (env.width (of_var x)) q))
              (neutral_on (env.width (of_var x)) q) f.ends kept,
          a,
        ))
        raised running h f a b =
            let done = runs_va l (env.ack (of_channel d)) (env.ack (of_var x)) (is_some (value_on (env.width (of_var x)) q))
            (neutral_on (env.width (of_var x)) q) f.ends kept in
            let all = runs_full l (env.ack (of_channel d)) (env.ack (of_var x)) (is_some (value_on (env.width (of_var x)) q))
            (neutral_on (env.width (of_var x)) q) f.ends done in
            record {
              fits = record {
                ends = ap (λ (u : Line → ℕ). port_ends running l (now.ack (of_channel d)) (now.ack (of_var x)) (is_some (value_on (u (of_var x)) q))
                    (neutral_on (u (of_var x)) q)) t.widths
                    ∙ run_ends l (now.ack (of_channel d)) (now.ack (of_var x)) (is_some (value_on (env.width (of_var x)) q))
                    (neutral_on (env.width (of_var x)) q) (λ e. kept) (λ e. same ∙ done) (λ e. all);
                before = λ y i one r. absurd (cc (y, kept));
                behind = λ y i one r. f.behind y i one (sym (ap (λ (g : Rails). g i one) (t.rails d meets.heard)) ∙ r);
                within = λ i one r. subst (λ (u : Line → ℕ). i < u (of_var x)) (sym t.widths) (f.within i one r);
                single = f.single;
              };
              keeps = keeps;
            }
          where
            keeps : (s : PortSpot) → port_moves env d x running l q s ≡ true → port_moves now d x running l q s ≡ true
            keeps heard z = absurd (cc (a, z))
            keeps stored z = ap (λ b. if l then not b else true && b) same ∙ z
            keeps (taking i one) z = ap (λ (r : Rails). if q i one then not true && not (r i one) else true && r i one) (t.rails d meets.heard) ∙ z

    the_port : (d x : ℕ) (at to : Span) (m : Mode) (l : Bool) (q : Rails) → port_may m l ≡ true → PortMeets P d x
        → Ready c (env.rail c) busy (receiving d at x to) (port_shown d x l q) → PortFits d x m l q env → PortChanged d x m l q env now
    the_port d x at to m l q h meets r f = cases (same_line (of_var x) c)
        (λ (z : same_line (of_var x) c ≡ true).
        var_port d x m l q h meets z (λ i one y. snd_true (same_line (of_var x) c) (q i one) (r.send z i one y)) (t.far (of_channel d) (other d x c z)) f)
        (λ (z : same_line (of_var x) c ≡ false). cases (same_line (of_channel d) c)
        (λ (y : same_line (of_channel d) c ≡ true). channel_port d x m l q h meets y (snd_true (d == d) l (r.receive d y (self_number d)))
        (t.far (of_var x) z) f)
        (λ (y : same_line (of_channel d) c ≡ false). still_port env now d x m l q t.widths (t.far (of_channel d) y) (t.far (of_var x) z)
        (t.rails d meets.heard) f))
      where
        other : (d x : ℕ) (c : Line) → same_line (of_var x) c ≡ true → same_line (of_channel d) c ≡ false
        other d x (of_var y) z = refl
        other d x (of_channel y) z = absurd (cc z)

not_whole : (e : Formula) (u : Pairs (gate_count e)) → 1 ≤ width_of e → empty e u ≡ true → full e u ≡ false
not_whole e u some none = cases (full e u)
    (λ (whole : full e u ≡ true). absurd (cc (told_not_low (width_of e) (out_rail e u) some whole, none)))
    (λ (part : full e u ≡ false). part)

pub site_returns : (P : TypedProgram) (env : Seen) (d : Line) (e : Formula) (m : Mode) (u : Pairs (gate_count e)) → SiteMay e m u → SiteMeets P d e
    → SiteFits d e m u env → empty e u ≡ true → env.ack d ≡ true → m ≡ returning
site_returns P env d e m u h meets f none high = none_returns m (full e u) (empty e u) (env.ack d) h.may f.0 (not_whole e u meets.some none) high

-- an acknowledge falls
pub lower_leaves : (P : TypedProgram) (env now : Seen) (c : Line) → AckTurned P env now c → env.ack c ≡ true → neutral_on (line_width P c) (env.rail c) ≡ true
    → ((k : Line) → env.width k ≡ line_width P k) → AtLeaves P env now (Kept c (env.rail c))
lower_leaves P env now c t high lows wide = record {
  at_sites = the_site;
  at_ports = the_port;
  at_guards = λ again choices r x laws i f. still_guards env now choices r x t.bits f;
}
  where
    at_it : (d : Line) (e : Formula) (m : Mode) (u : Pairs (gate_count e)) → m ≡ returning → empty e u ≡ true → env.ack d ≡ true → SiteFits d e m u env
        → SiteChanged d e m u env now
    at_it d e returning u is none l f = record {
      fits = (ap (λ b. send_fits returning (full e u) b (now.ack d)) none, ap (λ (b : ℕ → Rails). good false b e u) t.bits ∙ f.1);
      keeps = keeps;
    }
      where
        keeps : (s : SiteSpot e) → site_moves env d e returning u s ≡ true → site_moves now d e returning u s ≡ true
        keeps done z = absurd (cc (l, z))
        keeps (gate i one) z = ap (λ (b : ℕ → Rails). one_rule_fires (gate_rule e b false u i one)) t.bits ∙ z
    at_it d e idle u is none l f = absurd (cc is)
    at_it d e answered u is none l f = absurd (cc is)
    at_it d e running u is none l f = absurd (cc is)

    the_site : (d : Line) (at : Span) (e : Formula) (m : Mode) (u : Pairs (gate_count e)) → SiteMay e m u → SiteMeets P d e
        → Kept c (env.rail c) (site_statement d at e) (site_shown d e u) → SiteFits d e m u env → SiteChanged d e m u env now
    the_site d at e m u h meets r f = cases (same_line d c)
        (λ (same : same_line d c ≡ true).
        let none = kept_none P env c lows d at e u meets same r in
        let l : env.ack d ≡ true = ap env.ack (same_line_is d c same) ∙ high in
        at_it d e m u (site_returns P env d e m u h meets f none l) none l f)
        (λ (other : same_line d c ≡ false). still_site env now d e m u (t.far d other) t.bits f)

    -- the variable's acknowledge falls where no rail is taken any longer
    var_port : (d x : ℕ) (m : Mode) (l : Bool) (q : Rails) → port_may m l ≡ true → PortMeets P d x → same_line (of_var x) c ≡ true
        → ((i : ℕ) (one : Bool) → q i one ≡ true → env.rail c i one ≡ true) → now.ack (of_channel d) ≡ env.ack (of_channel d) → PortFits d x m l q env
        → PortChanged d x m l q env now
    var_port d x m l q h meets z within same f =
        let line = same_line_is (of_var x) c z in
        let gone : neutral_on (env.width (of_var x)) q ≡ true = emptied (env.width (of_var x)) (env.rail c) q within
        (ap (λ n. neutral_on n (env.rail c)) (wide (of_var x) ∙ ap (line_width P) line) ∙ lows) in
        let done : env.ack (of_var x) ≡ true = ap env.ack line ∙ high in
        let many : 1 ≤ env.width (of_var x) = subst (λ (n : ℕ). 1 ≤ n) (sym (wide (of_var x))) meets.some in
        lowered d x m l q h same (t.rails d meets.heard) t.widths done (near P env now c (of_var x) t z ∙ ap not high) gone
        (part (env.width (of_var x)) q many gone) f
      where
        part : (n : ℕ) (q : Rails) → 1 ≤ n → neutral_on n q ≡ true → is_some (value_on n q) ≡ false
        part n q many gone = cases (is_some (value_on n q)) (λ (e : is_some (value_on n q) ≡ true). absurd (cc (told_not_low n q many e, gone)))
            (λ (e : is_some (value_on n q) ≡ false). e)

        lowered : (d x : ℕ) (m : Mode) (l : Bool) (q : Rails) → port_may m l ≡ true → now.ack (of_channel d) ≡ env.ack (of_channel d)
            → now.rail (of_channel d) ≡ env.rail (of_channel d) → now.width ≡ env.width → env.ack (of_var x) ≡ true → now.ack (of_var x) ≡ false
            → neutral_on (env.width (of_var x)) q ≡ true → is_some (value_on (env.width (of_var x)) q) ≡ false → PortFits d x m l q env
            → PortChanged d x m l q env now
        lowered d x idle l q h same rail widths v w gone none f = absurd (cc h)
        lowered d x running l q h same rail widths v w gone none f = absurd
            (cc (
              runs_full l (env.ack (of_channel d)) (env.ack (of_var x)) (is_some (value_on (env.width (of_var x)) q))
                  (neutral_on (env.width (of_var x)) q) f.ends v,
              none,
            ))
        lowered d x answered l q h same rail widths v w gone none f = absurd
            (cc (
              answered_full l (env.ack (of_channel d)) (env.ack (of_var x)) (is_some (value_on (env.width (of_var x)) q))
                  (neutral_on (env.width (of_var x)) q) f.ends,
              none,
            ))
        lowered d x returning l q h same rail widths v w gone none f =
            let kept = back_kept l (env.ack (of_channel d)) (env.ack (of_var x)) (is_some (value_on (env.width (of_var x)) q))
            (neutral_on (env.width (of_var x)) q) f.ends v in
            record {
              fits = record {
                ends = ap (λ (u : Line → ℕ). port_ends returning l (now.ack (of_channel d)) (now.ack (of_var x)) (is_some (value_on (u (of_var x)) q))
                    (neutral_on (u (of_var x)) q)) widths
                    ∙ back_ends l (now.ack (of_channel d)) (now.ack (of_var x)) (is_some (value_on (env.width (of_var x)) q))
                    (neutral_on (env.width (of_var x)) q) (λ e. same ∙ back_ack l (env.ack (of_channel d)) (env.ack (of_var x))
                    (is_some (value_on (env.width (of_var x)) q)) (neutral_on (env.width (of_var x)) q) f.ends e) (λ e. kept) (λ e. gone) (λ e. gone);
                before = λ y i one r. absurd (cc (y, kept));
                behind = λ y i one r. f.behind y i one (sym (ap (λ (g : Rails). g i one) rail) ∙ r);
                within = λ i one r. subst (λ (u : Line → ℕ). i < u (of_var x)) (sym widths) (f.within i one r);
                single = f.single;
              };
              keeps = keeps kept;
            }
          where
            keeps : l ≡ true → (s : PortSpot) → port_moves env d x returning l q s ≡ true → port_moves now d x returning l q s ≡ true
            keeps kept heard z = ap (λ b. if true then not b else false && b) same ∙ z
            keeps kept stored z = absurd (cc (ap (λ b. if b then not (env.ack (of_var x)) else false && env.ack (of_var x)) kept, v, z))
            keeps kept (taking i one) z = ap (λ (r : Rails). if q i one then not false && not (r i one) else false && r i one) rail ∙ z

    -- and a channel's behind a receive that has let go
    channel_port : (d x : ℕ) (m : Mode) (l : Bool) (q : Rails) → port_may m l ≡ true → PortMeets P d x → same_line (of_channel d) c ≡ true → l ≡ false
        → now.ack (of_var x) ≡ env.ack (of_var x) → PortFits d x m l q env → PortChanged d x m l q env now
    channel_port d x m l q h meets z gone same f = fallen m h f (ap env.ack (same_line_is (of_channel d) c z) ∙ high)
        (near P env now c (of_channel d) t z ∙ ap not high)
      where
        fallen : (m : Mode) → port_may m l ≡ true → PortFits d x m l q env → env.ack (of_channel d) ≡ true → now.ack (of_channel d) ≡ false
            → PortChanged d x m l q env now
        fallen idle h f a b = absurd (cc h)
        fallen running h f a b = absurd (cc (
          runs_kept l (env.ack (of_channel d)) (env.ack (of_var x)) (is_some (value_on (env.width (of_var x)) q))
              (neutral_on (env.width (of_var x)) q) f.ends a,
          gone,
        ))
        fallen answered h f a b = absurd (cc (
          answered_kept l (env.ack (of_channel d)) (env.ack (of_var x)) (is_some (value_on (env.width (of_var x)) q))
              (neutral_on (env.width (of_var x)) q) f.ends,
          gone,
        ))
        fallen returning h f a b =
            let none = back_gone l (env.ack (of_channel d)) (env.ack (of_var x)) (is_some (value_on (env.width (of_var x)) q))
            (neutral_on (env.width (of_var x)) q) f.ends gone in
            record {
              fits = record {
                ends = ap (λ (u : Line → ℕ). port_ends returning l (now.ack (of_channel d)) (now.ack (of_var x)) (is_some (value_on (u (of_var x)) q))
                    (neutral_on (u (of_var x)) q)) t.widths
                    ∙ back_ends l (now.ack (of_channel d)) (now.ack (of_var x)) (is_some (value_on (env.width (of_var x)) q))
                    (neutral_on (env.width (of_var x)) q) (λ e. absurd (cc (e, gone)))
                    (λ e. back_kept l (env.ack (of_channel d)) (env.ack (of_var x)) (is_some (value_on (env.width (of_var x)) q))
                    (neutral_on (env.width (of_var x)) q) f.ends (sym same ∙ e)) (λ e. none) (λ e. none);
                before = λ y i one r. ap (λ (g : Rails). g i one) (t.rails d meets.heard) ∙ f.before y i one r;
                behind = λ y i one r. absurd (cc (y, gone));
                within = λ i one r. subst (λ (u : Line → ℕ). i < u (of_var x)) (sym t.widths) (f.within i one r);
                single = f.single;
              };
              keeps = keeps;
            }
          where
            keeps : (s : PortSpot) → port_moves env d x returning l q s ≡ true → port_moves now d x returning l q s ≡ true
            keeps heard z = absurd (cc (a, z))
            keeps stored z = ap (λ b. if l then not b else false && b) same ∙ z
            keeps (taking i one) z = ap (λ (r : Rails). if q i one then not false && not (r i one) else false && r i one) (t.rails d meets.heard) ∙ z

    the_port : (d x : ℕ) (at to : Span) (m : Mode) (l : Bool) (q : Rails) → port_may m l ≡ true → PortMeets P d x
        → Kept c (env.rail c) (receiving d at x to) (port_shown d x l q) → PortFits d x m l q env → PortChanged d x m l q env now
    the_port d x at to m l q h meets r f = cases (same_line (of_var x) c)
        (λ (z : same_line (of_var x) c ≡ true).
        var_port d x m l q h meets z (λ i one y. r.offer i one (both_true (same_line (of_var x) c) (q i one) z y)) (t.far (of_channel d) (other d x c z)) f)
        (λ (z : same_line (of_var x) c ≡ false). cases (same_line (of_channel d) c)
        (λ (y : same_line (of_channel d) c ≡ true). channel_port d x m l q h meets y (sym (ap (λ b. b && l) (self_number d)) ∙ r.take d y)
        (t.far (of_var x) z) f)
        (λ (y : same_line (of_channel d) c ≡ false). still_port env now d x m l q t.widths (t.far (of_channel d) y) (t.far (of_var x) z)
        (t.rails d meets.heard) f))
      where
        other : (d x : ℕ) (c : Line) → same_line (of_var x) c ≡ true → same_line (of_channel d) c ≡ false
        other d x (of_var y) z = refl
        other d x (of_channel y) z = absurd (cc z)

-- a rail of a channel moves, on which the program receives
pub record RailMoved (P : TypedProgram) (env now : Seen) (c i : ℕ) (one : Bool) : Type 0 where
  pub acks : (k : Line) → now.ack k ≡ env.ack k
  pub bits : now.bit ≡ env.bit
  pub widths : now.width ≡ env.width
  pub here : now.rail (of_channel c) ≡ rails_turned (env.rail (of_channel c)) i one
  pub far : (d : ℕ) → (d == c) ≡ false → now.rail (of_channel d) ≡ env.rail (of_channel d)

-- it rises, and no receive has stored
pub rail_up_leaves : (P : TypedProgram) (env now : Seen) (c i : ℕ) (one : Bool) → RailMoved P env now c i one → env.rail (of_channel c) i one ≡ false
    → AtLeaves P env now (Free c)
rail_up_leaves P env now c i one t low = record {
  at_sites = λ k at e m u h meets r f. still_site env now k e m u (t.acks k) t.bits f;
  at_guards = λ again choices r x laws i f. still_guards env now choices r x t.bits f;
  at_ports = the_port;
}
  where
    here : (x : ℕ) (m : Mode) (l : Bool) (q : Rails) → port_may m l ≡ true → l ≡ false → PortFits c x m l q env → PortChanged c x m l q env now
    here x m l q h gone f = record {
      fits = record {
        ends = ap (λ (w : Line → ℕ). port_ends m l (now.ack (of_channel c)) (now.ack (of_var x)) (is_some (value_on (w (of_var x)) q))
            (neutral_on (w (of_var x)) q)) t.widths
            ∙ (ap (λ a. port_ends m l a (now.ack (of_var x)) (is_some (value_on (env.width (of_var x)) q)) (neutral_on (env.width (of_var x)) q))
            (t.acks (of_channel c))
            ∙ (ap (λ v. port_ends m l (env.ack (of_channel c)) v (is_some (value_on (env.width (of_var x)) q)) (neutral_on (env.width (of_var x)) q))
            (t.acks (of_var x)) ∙ f.ends));
        before = λ z j b r. ap (λ (g : Rails). g j b) t.here ∙ still_high (env.rail (of_channel c)) i one low j b (f.before z j b r);
        behind = λ z j b r. absurd (cc (z, gone));
        within = λ j b r. subst (λ (w : Line → ℕ). j < w (of_var x)) (sym t.widths) (f.within j b r);
        single = f.single;
      };
      keeps = keeps m h f;
    }
      where
        keeps : (m : Mode) → port_may m l ≡ true → PortFits c x m l q env → (s : PortSpot) → port_moves env c x m l q s ≡ true
            → port_moves now c x m l q s ≡ true
        keeps m h f heard z = ap (λ b. if acks m then not b else asks m && b) (t.acks (of_channel c)) ∙ z
        keeps m h f stored z = ap (λ b. if l then not b else asks m && b) (t.acks (of_var x)) ∙ z
        keeps idle h f (taking j b) z = absurd (cc h)
        keeps answered h f (taking j b) z = absurd (cc (h, gone))
        keeps running h f (taking j b) z = by (q j b) z
          where
            by : (y : Bool) → (if y then not true && not (env.rail (of_channel c) j b) else true && env.rail (of_channel c) j b) ≡ true
                → (if y then not true && not (now.rail (of_channel c) j b) else true && now.rail (of_channel c) j b) ≡ true
            by true z = absurd (cc z)
            by false z = ap (λ (g : Rails). g j b) t.here ∙ still_high (env.rail (of_channel c)) i one low j b z
        keeps returning h f (taking j b) z =
            let none = back_gone l (env.ack (of_channel c)) (env.ack (of_var x)) (is_some (value_on (env.width (of_var x)) q))
            (neutral_on (env.width (of_var x)) q) f.ends gone in
            absurd (cc (
              ap (λ y. if y then not false && not (env.rail (of_channel c) j b) else false && env.rail (of_channel c) j b)
                  (port_none c x returning l q env f none j b),
              z,
            ))

    the_port : (d x : ℕ) (at to : Span) (m : Mode) (l : Bool) (q : Rails) → port_may m l ≡ true → PortMeets P d x
        → Free c (receiving d at x to) (port_shown d x l q) → PortFits d x m l q env → PortChanged d x m l q env now
    the_port d x at to m l q h meets r f = cases (d == c)
        (λ (z : (d == c) ≡ true). let e = same_number d c z in
        subst (λ (n : ℕ). PortChanged n x m l q env now) (sym e) (here x m l q h (sym (ap (λ b. b && l) z) ∙ r.take)
        (subst (λ (n : ℕ). PortFits n x m l q env) e f)))
        (λ (z : (d == c) ≡ false). still_port env now d x m l q t.widths (t.acks (of_channel d)) (t.acks (of_var x)) (t.far d z) f)

-- it falls, over a high acknowledge
pub rail_down_leaves : (P : TypedProgram) (env now : Seen) (c i : ℕ) (one : Bool) → RailMoved P env now c i one → env.rail (of_channel c) i one ≡ true
    → env.ack (of_channel c) ≡ true → AtLeaves P env now Any
rail_down_leaves P env now c i one t top high = record {
  at_sites = λ k at e m u h meets r f. still_site env now k e m u (t.acks k) t.bits f;
  at_guards = λ again choices r x laws i f. still_guards env now choices r x t.bits f;
  at_ports = the_port;
}
  where
    here : (x : ℕ) (m : Mode) (l : Bool) (q : Rails) → port_may m l ≡ true → PortFits c x m l q env → PortChanged c x m l q env now
    here x m l q h f = record {
      fits = record {
        ends = ap (λ (w : Line → ℕ). port_ends m l (now.ack (of_channel c)) (now.ack (of_var x)) (is_some (value_on (w (of_var x)) q))
            (neutral_on (w (of_var x)) q)) t.widths
            ∙ (ap (λ a. port_ends m l a (now.ack (of_var x)) (is_some (value_on (env.width (of_var x)) q)) (neutral_on (env.width (of_var x)) q))
            (t.acks (of_channel c))
            ∙ (ap (λ v. port_ends m l (env.ack (of_channel c)) v (is_some (value_on (env.width (of_var x)) q)) (neutral_on (env.width (of_var x)) q))
            (t.acks (of_var x)) ∙ f.ends));
        before = λ z j b r. absurd (cc (taken_none m h z f j b, r));
        behind = λ z j b r. f.behind z j b (fallen (env.rail (of_channel c)) i one top j b (sym (ap (λ (g : Rails). g j b) t.here) ∙ r));
        within = λ j b r. subst (λ (w : Line → ℕ). j < w (of_var x)) (sym t.widths) (f.within j b r);
        single = f.single;
      };
      keeps = keeps m h f;
    }
      where
        -- what hasn't stored has let go
        taken_none : (m : Mode) → port_may m l ≡ true → l ≡ false → PortFits c x m l q env → (j : ℕ) (b : Bool) → q j b ≡ false
        taken_none idle h z f j b = absurd (cc h)
        taken_none running h z f j b = absurd (cc (
          runs_kept l (env.ack (of_channel c)) (env.ack (of_var x)) (is_some (value_on (env.width (of_var x)) q))
              (neutral_on (env.width (of_var x)) q) f.ends high,
          z,
        ))
        taken_none answered h z f j b = absurd (cc (h, z))
        taken_none returning h z f j b = port_none c x returning l q env f
            (back_gone l (env.ack (of_channel c)) (env.ack (of_var x)) (is_some (value_on (env.width (of_var x)) q))
            (neutral_on (env.width (of_var x)) q) f.ends z) j b

        keeps : (m : Mode) → port_may m l ≡ true → PortFits c x m l q env → (s : PortSpot) → port_moves env c x m l q s ≡ true
            → port_moves now c x m l q s ≡ true
        keeps m h f heard z = ap (λ b. if acks m then not b else asks m && b) (t.acks (of_channel c)) ∙ z
        keeps m h f stored z = ap (λ b. if l then not b else asks m && b) (t.acks (of_var x)) ∙ z
        keeps idle h f (taking j b) z = absurd (cc h)
        keeps answered h f (taking j b) z = absurd (cc (port_answered_moves env c x l q f (taking j b), z))
        keeps running h f (taking j b) z = absurd (by (q j b) refl z)
          where
            by : (y : Bool) → q j b ≡ y → (if y then not true && not (env.rail (of_channel c) j b) else true && env.rail (of_channel c) j b) ≡ true → ⊥
            by true e z = cc z
            by false e z = cc (
              f.behind (runs_kept l (env.ack (of_channel c)) (env.ack (of_var x)) (is_some (value_on (env.width (of_var x)) q))
                  (neutral_on (env.width (of_var x)) q) f.ends high) j b z,
              e,
            )
        keeps returning h f (taking j b) z = by (q j b) z
          where
            by : (y : Bool) → (if y then not false && not (env.rail (of_channel c) j b) else false && env.rail (of_channel c) j b) ≡ true
                → (if y then not false && not (now.rail (of_channel c) j b) else false && now.rail (of_channel c) j b) ≡ true
            by false z = absurd (cc z)
            by true z = ap not (cases (now.rail (of_channel c) j b)
                (λ (e : now.rail (of_channel c) j b ≡ true). absurd (cc (
                  fallen (env.rail (of_channel c)) i one top j b
                      (sym (ap (λ (g : Rails). g j b) t.here) ∙ e),
                  z,
                )))
                (λ (e : now.rail (of_channel c) j b ≡ false). e))

    the_port : (d x : ℕ) (at to : Span) (m : Mode) (l : Bool) (q : Rails) → port_may m l ≡ true → PortMeets P d x
        → Any (receiving d at x to) (port_shown d x l q) → PortFits d x m l q env → PortChanged d x m l q env now
    the_port d x at to m l q h meets r f = cases (d == c)
        (λ (z : (d == c) ≡ true). let e = same_number d c z in
        subst (λ (n : ℕ). PortChanged n x m l q env now) (sym e) (here x m l q h (subst (λ (n : ℕ). PortFits n x m l q env) e f)))
        (λ (z : (d == c) ≡ false). still_port env now d x m l q t.widths (t.acks (of_channel d)) (t.acks (of_var x)) (t.far d z) f)
