-- No own node is pulled both ways.
use Rattle.std.proofs.Common.{◌≡◌, ℕ, Bool, true, false, List, refl, sym, ◌∙◌, subst}
use Rattle.std.specs.Prelude.{not, ◌&&◌}
use Rattle.width_check.specs.Processes.{Formula, Process, skipping, assigning, sending, receiving, in_turn, side_by_side, choosing, repeating, Processes, no_members, and_member, member_count, Choices, no_choices, and_choice, choice_count}
use Rattle.circuit_places.specs.Lines.{of_channel, of_var, Rails, Seen}
use Rattle.circuit_places.specs.Circuit.{Port, PortSpot, low_port, port_rule, heard, stored, taking, of_receive, Site, SiteSpot, site_rule, low_site, gate_count, low_guarded, low, low_turn, low_bits, cell_bit, joint_count, low_branches, branches_answered, same_bit, answer, GuardedSpot, Spot, TurnSpot, BranchSpot, child, latch, next, inner, of_skip, done, gate, of_assign, of_send, in_members, of_branch, joint, in_this, in_others, of_loop, ask, in_body, in_last, in_member, in_later, is_apart, guarded_rule, rule, turn_rule, branch_rule, GuardCells, low_guards, low_core, low_choices, choice_answers, GuardSpot, this_gate, other_gate, ChoiceSpot, this_choice, other_choice, of_core, of_guard, of_choice, of_round, heads, guards_rule, choice_rule}
use Rattle.circuit_places.proofs.RailLemmas.{gate_apart, fst_true, snd_true, same_value}
use Rattle.circuit_places.proofs.Trees.{joint_apart}
use Rattle.circuit_places.proofs.Places.{Mode, asks, acks, site_of, all_ask, GuardedAt, At, TurnAt, BranchesAt, g_rests, g_in, g_past, g_back, port_of, rests, at_skip, at_assign, at_send, at_receive, at_turn, at_side, at_body, no_more, and_at, turn_rests, at_last, at_member, at_later, guarded_cells, cells, turn_cells, branch_cells, low_answer, next_is, link_asks, link_next, at_choice, at_turning, at_closing, ChoiceAt, control_at, inside_at, ChosenAt, this_one, another, chosen_index, chosen_cells, choice_cells, choice_leave, low_neutral}
use Rattle.circuit_places.specs.Heads.{hot, all_neutral, over, nothing_true}
use Rattle.circuit_places.specs.Cores.{OwnSpot, core_rule, core_of, turning_of}
use Rattle.circuit_places.proofs.HeadFacts.{neutral_over}
use Rattle.circuit_places.proofs.CoreControl.{Control, uncalled, called, evaluating, latched, leaving, noted, spread, freed, lock_alone, Closing, told_all, lets_turn, lets_leave, lets_any, lets_answer, closing_turn, closing_leave, closing_any, closing_cells, control_leave, control_any, control_guards, core_apart, turning_apart}

and_not : (u d : Bool) → not ((u && not d) && not u) ≡ true
and_not true true = refl
and_not true false = refl
and_not false d = refl

not_then : (b : Bool) → not (not b && b) ≡ true
not_then true = refl
not_then false = refl

either_way : (b : Bool) → not (b && not b) ≡ true
either_way true = refl
either_way false = refl

ack_apart : (r k : Bool) → not ((r && k) && not k) ≡ true
ack_apart true k = either_way k
ack_apart false k = refl

-- a child's answer is low where its Q-element's request is
latch_apart : (d r : Bool) → (r ≡ false → d ≡ false) → not (d && not r) ≡ true
latch_apart true true f = refl
latch_apart true false f = absurd (cc (f refl))
latch_apart false r f = refl

site_apart : (e : Formula) (bits : ℕ → Rails) (ack r : Bool) (x : Site (gate_count e)) (s : SiteSpot e) → is_apart (site_rule e bits ack r x s) ≡ true
site_apart e bits ack r x done = ack_apart r ack
site_apart e bits ack r x (gate i one) = gate_apart e bits r x.gates i one

take_apart : (r b : Bool) → not ((r && b) && (not r && not b)) ≡ true
take_apart true true = refl
take_apart true false = refl
take_apart false b = refl

port_apart : (rail : Rails) (ack va r : Bool) (x : Port) (s : PortSpot) → is_apart (port_rule rail ack va r x s) ≡ true
port_apart rail ack va r x heard = ack_apart r ack
port_apart rail ack va r x stored = ack_apart r va
port_apart rail ack va r x (taking i one) = take_apart r (rail i one)

guards_apart : (choices : Choices) (bits : ℕ → Rails) (r : Bool) (x : GuardCells choices) (s : GuardSpot choices)
    → is_apart (guards_rule choices bits r x s) ≡ true
guards_apart (and_choice g p more) bits r x (this_gate i one) = gate_apart g bits r x.0 i one
guards_apart (and_choice g p more) bits r x (other_gate s) = guards_apart more bits r x.1 s
guards_apart no_choices bits r x s = elim s [ ]

low_core_apart : (choices : Choices) (s : OwnSpot (choice_count choices))
    → is_apart (core_rule false false (heads choices (low_guards choices)) (choice_answers choices (low_choices choices))
    (low_core choices (low_choices choices)) s) ≡ true
low_core_apart choices s = core_apart false false (heads choices (low_guards choices)) (choice_answers choices (low_choices choices))
    (low_core choices (low_choices choices)) (λ e. low_neutral choices) s

-- where a core isn't called its guards are low
idle_neutral : {again : Bool} (choices : Choices) {m : Mode} (c : Control again (choice_count choices) (GuardCells choices) (heads choices) m)
    → asks m ≡ false → all_neutral (choice_count choices) (heads choices (control_guards (low_guards choices) c)) ≡ true
idle_neutral choices uncalled e = low_neutral choices
idle_neutral choices called e = absurd (cc e)
idle_neutral choices (evaluating g) e = absurd (cc e)
idle_neutral choices (latched l i g h) e = absurd (cc e)
idle_neutral choices (leaving y l g h) e = absurd (cc e)

left_known : {again : Bool} (choices : Choices) {m : Mode} (c : Control again (choice_count choices) (GuardCells choices) (heads choices) m)
    → control_leave c ≡ true → all_neutral (choice_count choices) (heads choices (control_guards (low_guards choices) c)) ≡ true → control_any c ≡ true
left_known choices uncalled e z = absurd (cc e)
left_known choices called e z = absurd (cc e)
left_known choices (evaluating g) e z = absurd (cc e)
left_known choices (latched l i g h) e z = absurd (cc e)
left_known choices (leaving y noted g h) e z = absurd (cc (
  lock_alone noted (over (choice_count choices) (heads choices g))
      (nothing_true (choice_count choices) (heads choices g)) h refl,
  neutral_over (choice_count choices) (heads choices g) z,
))
left_known choices (leaving y spread g h) e z = refl
left_known choices (leaving y freed g h) e z = refl

choice_neutral : {again : Bool} {choices : Choices} {m : Mode} (x : ChoiceAt again choices m) → asks m ≡ false
    → all_neutral (choice_count choices) (heads choices (choice_cells x).guards) ≡ true
choice_neutral {choices = choices} (control_at c) e = idle_neutral choices c e
choice_neutral {choices = choices} (inside_at a w) e = low_neutral choices

choice_known : {again : Bool} {choices : Choices} {m : Mode} (x : ChoiceAt again choices m) → choice_leave x ≡ true
    → all_neutral (choice_count choices) (heads choices (choice_cells x).guards) ≡ true → (choice_cells x).any ≡ true
choice_known {choices = choices} (control_at c) e z = left_known choices c e z
choice_known (inside_at a w) e z = absurd (cc e)

closing_known : {m : Mode} (c : Closing m) → closing_leave c ≡ true → closing_any c ≡ true
closing_known told_all e = refl
closing_known lets_turn e = refl
closing_known lets_leave e = refl
closing_known lets_any e = refl
closing_known lets_answer e = absurd (cc e)

mutual
  low_guarded_apart : (p : Process) (env : Seen) (s : GuardedSpot p) → is_apart (guarded_rule p env false (low_guarded (low p)) s) ≡ true
  low_guarded_apart p env child = refl
  low_guarded_apart p env latch = latch_apart (answer p (low p)) false (λ e. low_answer p)
  low_guarded_apart p env next = refl
  low_guarded_apart p env (inner s) = low_apart p env s

  low_apart : (p : Process) (env : Seen) (s : Spot p) → is_apart (rule p env false (low p) s) ≡ true
  low_apart skipping env of_skip = refl
  low_apart (assigning x at e) env (of_assign s) = site_apart e env.bit (env.ack (of_var x)) false (low_site e) s
  low_apart (sending c at e) env (of_send s) = site_apart e env.bit (env.ack (of_channel c)) false (low_site e) s
  low_apart (in_turn members) env (in_members s) = low_turn_apart members env s
  low_apart (repeating p) env of_loop = refl
  low_apart (repeating p) env ask = refl
  low_apart (repeating p) env (in_body s) = low_apart p env s
  low_apart (receiving c at x to) env (of_receive s) = port_apart (env.rail (of_channel c)) (env.ack (of_channel c)) (env.ack (of_var x)) false low_port s
  low_apart (side_by_side members) env (of_branch s) = low_branch_apart members env s
  low_apart (side_by_side members) env (joint k) = joint_apart (member_count members) (branches_answered members (low_branches members))
      (cell_bit (joint_count (member_count members)) (low_bits (joint_count (member_count members)))) k
  low_apart (choosing false choices) env (of_core s) = low_core_apart choices s
  low_apart (choosing false choices) env (of_guard s) = guards_apart choices env.bit false (low_guards choices) s
  low_apart (choosing false choices) env (of_choice s) = low_choice_apart choices env s
  low_apart (choosing true choices) env (of_core s) = low_core_apart choices s
  low_apart (choosing true choices) env (of_guard s) = guards_apart choices env.bit false (low_guards choices) s
  low_apart (choosing true choices) env (of_choice s) = low_choice_apart choices env s
  low_apart (choosing true choices) env (of_round s) = turning_apart false (heads choices (low_guards choices))
      (turning_of false false false (low_core choices (low_choices choices))) (λ e. low_neutral choices) (λ e z. absurd (cc e)) s

  pub low_choice_apart : (choices : Choices) (env : Seen) (s : ChoiceSpot choices)
      → is_apart (choice_rule choices env (low_bits (choice_count choices)) (low_choices choices) s) ≡ true
  low_choice_apart no_choices env s = refl
  low_choice_apart (and_choice g p more) env (this_choice s) = low_apart p env s
  low_choice_apart (and_choice g p more) env (other_choice s) = low_choice_apart more env s

  low_branch_apart : (members : Processes) (env : Seen) (s : BranchSpot members) → is_apart (branch_rule members env false (low_branches members) s) ≡ true
  low_branch_apart no_members env s = refl
  low_branch_apart (and_member p more) env (in_this s) = low_guarded_apart p env s
  low_branch_apart (and_member p more) env (in_others s) = low_branch_apart more env s

  low_turn_apart : (members : Processes) (env : Seen) (s : TurnSpot members) → is_apart (turn_rule members env false (low_turn members) s) ≡ true
  low_turn_apart no_members env s = refl
  low_turn_apart (and_member p no_members) env (in_last s) = low_apart p env s
  low_turn_apart (and_member p (and_member q more)) env (in_member s) = low_guarded_apart p env s
  low_turn_apart (and_member p (and_member q more)) env (in_later s) = low_turn_apart (and_member q more) env s

mutual
  pub guarded_apart : {p : Process} {m : Mode} (env : Seen) (g : GuardedAt p m) (s : GuardedSpot p)
      → is_apart (guarded_rule p env (asks m) (guarded_cells g) s) ≡ true
  guarded_apart {p = p} env g_rests s = low_guarded_apart p env s
  guarded_apart {p = p} env (g_in u a h) child = not_then u
  guarded_apart {p = p} env (g_in u a h) latch = latch_apart (answer p (cells a)) true (λ e. absurd (cc e))
  guarded_apart {p = p} env (g_in u a h) next = and_not u (answer p (cells a))
  guarded_apart env (g_in u a h) (inner s) = own_apart env a s
  guarded_apart {p = p} env g_past child = refl
  guarded_apart {p = p} env g_past latch = latch_apart (answer p (low p)) true (λ e. low_answer p)
  guarded_apart {p = p} env g_past next = and_not true (answer p (low p))
  guarded_apart {p = p} env g_past (inner s) = low_apart p env s
  guarded_apart {p = p} env (g_back u) child = refl
  guarded_apart {p = p} env (g_back u) latch = latch_apart (answer p (low p)) false (λ e. low_answer p)
  guarded_apart {p = p} env (g_back u) next = and_not u (answer p (low p))
  guarded_apart {p = p} env (g_back u) (inner s) = low_apart p env s

  pub own_apart : {p : Process} {m : Mode} (env : Seen) (a : At p m) (s : Spot p) → is_apart (rule p env (asks m) (cells a) s) ≡ true
  own_apart {p = p} env rests s = low_apart p env s
  own_apart env (at_skip m h) of_skip = either_way (asks m)
  own_apart env (at_assign {x = x} {e = e} m u h) (of_assign s) = site_apart e env.bit (env.ack (of_var x)) (asks m) (site_of e (acks m) u) s
  own_apart env (at_send {c = c} {e = e} m u h) (of_send s) = site_apart e env.bit (env.ack (of_channel c)) (asks m) (site_of e (acks m) u) s
  own_apart env (at_receive {c = c} {x = x} m k q h) (of_receive s) = port_apart (env.rail (of_channel c)) (env.ack (of_channel c)) (env.ack (of_var x))
      (asks m) (port_of (acks m) k q) s
  own_apart env (at_turn t) (in_members s) = turn_apart env t s
  own_apart env (at_side m t b h) (of_branch s) = branch_apart env (asks m) b h.asked s
  own_apart env (at_side {members = members} m t b h) (joint k) = joint_apart (member_count members) (branches_answered members (branch_cells b))
      (cell_bit (joint_count (member_count members)) t) k
  own_apart env (at_body a) of_loop = refl
  own_apart env (at_body {p = p} a) ask = not_then (answer p (cells a))
  own_apart env (at_body a) (in_body s) = own_apart env a s
  own_apart env (at_choice {choices = choices} {m = m} x) (of_core s) =
      core_apart (asks m) false (heads choices (choice_cells x).guards) (choice_answers choices (choice_cells x).branches) (choice_cells x) (choice_neutral x) s
  own_apart env (at_choice {choices = choices} x) (of_guard s) = guards_apart choices env.bit (choice_cells x).ask (choice_cells x).guards s
  own_apart env (at_choice x) (of_choice s) = choice_apart env x s
  own_apart env (at_turning {choices = choices} {m = m} x) (of_core s) = core_apart (asks m) (choice_leave x) (heads choices (choice_cells x).guards)
      (choice_answers choices (choice_cells x).branches) (choice_cells x) (choice_neutral x) s
  own_apart env (at_turning {choices = choices} x) (of_guard s) = guards_apart choices env.bit (choice_cells x).ask (choice_cells x).guards s
  own_apart env (at_turning x) (of_choice s) = choice_apart env x s
  own_apart env (at_turning {choices = choices} {m = m} x) (of_round s) = turning_apart true (heads choices (choice_cells x).guards)
      (turning_of false (asks m) (choice_leave x) (choice_cells x)) (choice_neutral x) (choice_known x) s
  own_apart env (at_closing {choices = choices} c) (of_core s) = core_apart (closing_turn c) (closing_leave c) (heads choices (low_guards choices))
      (choice_answers choices (low_choices choices)) (core_of false false (closing_any c) (low_bits (choice_count choices)) (low_bits (choice_count choices))
      (low_guards choices) (low_choices choices)) (λ e. low_neutral choices) s
  own_apart env (at_closing {choices = choices} c) (of_guard s) = guards_apart choices env.bit false (low_guards choices) s
  own_apart env (at_closing {choices = choices} c) (of_choice s) = low_choice_apart choices env s
  own_apart env (at_closing {choices = choices} {m = m} c) (of_round s) = turning_apart (asks m) (heads choices (low_guards choices))
      (closing_cells (low_guards choices) (low_choices choices) c) (λ e. low_neutral choices) (λ e z. closing_known c e) s

  pub choice_apart : {again : Bool} {choices : Choices} {m : Mode} (env : Seen) (x : ChoiceAt again choices m) (s : ChoiceSpot choices)
      → is_apart (choice_rule choices env (choice_cells x).started (choice_cells x).branches s) ≡ true
  choice_apart {choices = choices} env (control_at c) s = low_choice_apart choices env s
  choice_apart env (inside_at a w) s = chosen_apart env a s

  pub chosen_apart : {choices : Choices} {k : Mode} (env : Seen) (a : ChosenAt choices k) (s : ChoiceSpot choices)
      → is_apart (choice_rule choices env (hot (chosen_index a) (asks k)) (chosen_cells a) s) ≡ true
  chosen_apart env (this_one a) (this_choice s) = own_apart env a s
  chosen_apart env (this_one {more = more} a) (other_choice s) = low_choice_apart more env s
  chosen_apart env (another {p = p} a) (this_choice s) = low_apart p env s
  chosen_apart env (another a) (other_choice s) = chosen_apart env a s

  branch_apart : {members : Processes} {ks : List Mode} (env : Seen) (r : Bool) (b : BranchesAt members ks) → all_ask r ks ≡ true → (s : BranchSpot members)
      → is_apart (branch_rule members env r (branch_cells b) s) ≡ true
  branch_apart env r no_more h s = refl
  branch_apart env r (and_at {p = p} {k = k} {ks = ks} g b) h (in_this s) = subst (λ (x : Bool). is_apart (guarded_rule p env x (guarded_cells g) s) ≡ true)
      (same_value (asks k) r (fst_true (same_bit (asks k) r) (all_ask r ks) h)) (guarded_apart env g s)
  branch_apart env r (and_at {k = k} {ks = ks} g b) h (in_others s) = branch_apart env r b (snd_true (same_bit (asks k) r) (all_ask r ks) h) s

  pub turn_apart : {members : Processes} {m : Mode} (env : Seen) (t : TurnAt members m) (s : TurnSpot members)
      → is_apart (turn_rule members env (asks m) (turn_cells t) s) ≡ true
  turn_apart {members = members} env turn_rests s = low_turn_apart members env s
  turn_apart env (at_last a) (in_last s) = own_apart env a s
  turn_apart env (at_member g) (in_member s) = guarded_apart env g s
  turn_apart env (at_member {q = q} {more = more} g) (in_later s) = subst
      (λ (b : Bool). is_apart (turn_rule (and_member q more) env b (low_turn (and_member q more)) s) ≡ true) (sym (next_is g))
      (low_turn_apart (and_member q more) env s)
  turn_apart env (at_later {p = p} {k = k} {n = n} {m = m} g t h) (in_member s) = subst
      (λ (b : Bool). is_apart (guarded_rule p env b (guarded_cells g) s) ≡ true) (link_asks m k n h) (guarded_apart env g s)
  turn_apart env (at_later {q = q} {more = more} {k = k} {n = n} {m = m} g t h) (in_later s) = subst
      (λ (b : Bool). is_apart (turn_rule (and_member q more) env b (turn_cells t) s) ≡ true) (sym (next_is g ∙ link_next m k n h)) (turn_apart env t s)
