-- What is left of a statement, read off the values of its own nodes: the place that it has plays no part in it.
use Rattle.std.proofs.Common.{◌≡◌, Bool, true, false, List, refl, sym, ap, ◌∙◌}
use Rattle.std.specs.Prelude.{if◌then◌else◌}
use Rattle.width_check.specs.Processes.{Process, skipping, assigning, sending, receiving, in_turn, side_by_side, choosing, repeating, Processes, no_members, and_member, Choices, no_choices, and_choice, choice_count}
use Rattle.chp_meaning.specs.Terms.{Term, Terms, no_branches, and_branch, finished, active, together, opened, followed}
use Rattle.circuit_places.specs.Lines.{Line, of_channel, of_var}
use Rattle.circuit_places.specs.Heads.{Bits, low_bits, Index, top, under, hot}
use Rattle.circuit_places.specs.Circuit.{QElementCells, Cells, ChoiceCells, BranchCells, TurnCells, answer}
use Rattle.circuit_places.proofs.RailLemmas.{snd_true}
use Rattle.circuit_places.proofs.Places.{Mode, idle, running, answered, returning, asks, all_ask, GuardedAt, At, TurnAt, BranchesAt, g_in, g_past, at_skip, at_assign, at_send, at_receive, at_turn, at_side, at_body, no_more, and_at, turn_rests, at_last, at_member, at_later, at_choice, at_turning, at_closing, ChoiceAt, control_at, inside_at, ChosenAt, this_one, another, chosen_index, guarded_cells, cells, chosen_cells, branch_cells, turn_cells, answer_is, next_is}
use Rattle.circuit_places.proofs.CoreControl.{uncalled, called, evaluating, latched, leaving, works, worked, reported, letting, backs}
use Rattle.circuit_places.proofs.Left.{waits, again, body_at, guarded_left, left, turn_left, branches_left, chosen_left, left_done, chosen_left_done}

-- Of a selection or of a repetition: where no branch is under way this is left; where one is, what is left of it, so wrapped.
-- A branch is under way where it is started, or its latch is up.
abbrev mutual
  -- of a statement whose request is high and that hasn't answered
  pub still_left : (p : Process) → (Line → Bool) → Cells p → Term
  still_left skipping ack x = active skipping
  still_left (assigning y at e) ack x = if ack (of_var y) then finished else active (assigning y at e)
  still_left (sending c at e) ack x = if ack (of_channel c) then finished else active (sending c at e)
  still_left (receiving c at y to) ack x = if ack (of_channel c) then finished else active (receiving c at y to)
  still_left (in_turn members) ack x = turn_still members ack x
  still_left (side_by_side members) ack x = together (branches_still members ack x.branches)
  still_left (repeating p) ack x = followed (if x.ask then (if answer p x.inner then finished else still_left p ack x.inner) else finished) (again p)
  still_left (choosing false choices) ack x = choice_still choices ack x.latched x.started x.branches (active (choosing false choices)) (λ t. t)
  still_left (choosing true choices) ack x = if x.leave then finished else
      choice_still choices ack x.core.latched x.core.started x.core.branches (active (choosing true choices))
      (λ t. followed t (and_member (choosing true choices) no_members))

  pub choice_still : (choices : Choices) → (Line → Bool) → (latched started : Bits (choice_count choices)) → ChoiceCells choices → (none : Term)
      → (Term → Term) → Term
  choice_still no_choices ack l s x none wrap = none
  choice_still (and_choice g p more) ack l s x none wrap =
      if s.0 then wrap (if answer p x.0 then finished else still_left p ack x.0) else
      (if l.0 then wrap (opened p) else choice_still more ack l.1 s.1 x.1 none wrap)

  pub branches_still : (members : Processes) → (Line → Bool) → BranchCells members → Terms
  branches_still no_members ack x = no_branches
  branches_still (and_member p more) ack x =
      and_branch (if x.0.next then finished else (if x.0.latch then finished else (if x.0.child then
      (if answer p x.0.inner then finished else still_left p ack x.0.inner) else opened p)))
      (branches_still more ack x.1)

  pub turn_still : (members : Processes) → (Line → Bool) → TurnCells members → Term
  turn_still no_members ack x = finished
  turn_still (and_member p no_members) ack x = still_left p ack x
  turn_still (and_member p (and_member q more)) ack x =
      if x.member.next then turn_still (and_member q more) ack x.later else followed
      (if x.member.latch then finished else (if x.member.child then
      (if answer p x.member.inner then finished else still_left p ack x.member.inner) else opened p)) (and_member q more)

-- of a Q-element that runs
abbrev pub guarded_still : (p : Process) → (Line → Bool) → QElementCells (Cells p) → Term
guarded_still p ack x = if x.latch then finished else (if x.child then (if answer p x.inner then finished else still_left p ack x.inner) else opened p)

-- of a statement whose request is high
abbrev pub part_left : (p : Process) → (Line → Bool) → Cells p → Term
part_left p ack x = if answer p x then finished else still_left p ack x

-- where no branch is under way, and where one is
pub choice_none : (choices : Choices) (ack : Line → Bool) (x : ChoiceCells choices) (none : Term) (wrap : Term → Term)
    → choice_still choices ack (low_bits (choice_count choices)) (low_bits (choice_count choices)) x none wrap ≡ none
choice_none no_choices ack x none wrap = refl
choice_none (and_choice g p more) ack x none wrap = choice_none more ack x.1 none wrap

pub choice_latched : (choices : Choices) (ack : Line → Bool) (i : Index (choice_count choices)) (x : ChoiceCells choices) (none : Term) (wrap : Term → Term)
    → choice_still choices ack (hot i true) (low_bits (choice_count choices)) x none wrap ≡ wrap (opened (body_at choices i))
choice_latched (and_choice g p more) ack top x none wrap = refl
choice_latched (and_choice g p more) ack (under i) x none wrap = choice_latched more ack i x.1 none wrap
choice_latched no_choices ack i x none wrap = elim i [ ]

-- a statement that waits for an acknowledge
over : (b : Bool) (t : Term) → waits running b t ≡ (if b then finished else t)
over true t = refl
over false t = refl

abbrev turned : Choices → Term → Term
turned choices t = followed t (and_member (choosing true choices) no_members)

-- a part whose request is high
part_runs : {p : Process} (ack : Line → Bool) (a : At p running) → left ack a ≡ still_left p ack (cells a) → part_left p ack (cells a) ≡ left ack a
part_runs {p = p} ack a e = ap (λ b. if b then finished else still_left p ack (cells a)) (answer_is a) ∙ sym e

part_over : {p : Process} (ack : Line → Bool) (a : At p answered) → part_left p ack (cells a) ≡ left ack a
part_over {p = p} ack a = ap (λ b. if b then finished else still_left p ack (cells a)) (answer_is a) ∙ sym (left_done ack a (λ e. cc e))

mutual
  pub still_is : {p : Process} (ack : Line → Bool) (a : At p running) → left ack a ≡ still_left p ack (cells a)
  still_is ack (at_skip _ h) = refl
  still_is ack (at_assign {x = x} _ u h) = over (ack (of_var x)) _
  still_is ack (at_send {c = c} _ u h) = over (ack (of_channel c)) _
  still_is ack (at_receive {c = c} _ k q h) = over (ack (of_channel c)) _
  still_is ack (at_turn t) = turn_is ack t
  still_is ack (at_side _ t b h) = ap together (branches_are ack b h.asked)
  still_is ack (at_body {p = p} {m = idle} a) = ap (λ t. followed t (again p)) (left_done ack a (λ e. cc e))
  still_is ack (at_body {p = p} {m = running} a) = ap (λ t. followed t (again p)) (sym (part_runs ack a (still_is ack a)))
  still_is ack (at_body {p = p} {m = answered} a) = ap (λ t. followed t (again p)) (sym (part_over ack a))
  still_is ack (at_body {p = p} {m = returning} a) = ap (λ t. followed t (again p)) (left_done ack a (λ e. cc e))
  still_is ack (at_choice x) = choice_is ack x
  still_is ack (at_turning x) = turning_is ack x
  still_is ack (at_closing c) = elim c [ ]

  pub guarded_is : {p : Process} (ack : Line → Bool) (g : GuardedAt p running) → guarded_left ack g ≡ guarded_still p ack (guarded_cells g)
  guarded_is ack (g_in {m = idle} false a h) = refl
  guarded_is ack (g_in {m = running} false a h) = sym (part_runs ack a (still_is ack a))
  guarded_is ack (g_in {m = answered} false a h) = sym (left_done ack a (λ e. cc e)) ∙ sym (part_over ack a)
  guarded_is ack (g_in {m = returning} false a h) = absurd (cc h)
  guarded_is ack (g_in {m = idle} true a h) = refl
  guarded_is ack (g_in {m = running} true a h) = refl
  guarded_is ack (g_in {m = answered} true a h) = refl
  guarded_is ack (g_in {m = returning} true a h) = refl

  branches_are : {members : Processes} {ks : List Mode} (ack : Line → Bool) (b : BranchesAt members ks) → all_ask true ks ≡ true
      → branches_left ack b ≡ branches_still members ack (branch_cells b)
  branches_are ack no_more h = refl
  branches_are ack (and_at {p = p} {more = more} {k = running} {ks = ks} g b) h =
      ap (λ t. and_branch t (branches_left ack b)) (guarded_is ack g
      ∙ sym (ap (λ z. if z then finished else guarded_still p ack (guarded_cells g)) (next_is g)))
      ∙ ap (λ ts. and_branch (if (guarded_cells g).next then finished else guarded_still p ack (guarded_cells g)) ts)
      (branches_are ack b (snd_true true (all_ask true ks) h))
  branches_are ack (and_at {k = answered} {ks = ks} g_past b) h =
      ap (λ ts. and_branch finished ts) (branches_are ack b (snd_true true (all_ask true ks) h))
  branches_are ack (and_at {k = idle} g b) h = absurd (cc h)
  branches_are ack (and_at {k = returning} g b) h = absurd (cc h)

  pub turn_is : {members : Processes} (ack : Line → Bool) (t : TurnAt members running) → turn_left ack t ≡ turn_still members ack (turn_cells t)
  turn_is ack (at_last a) = still_is ack a
  turn_is ack (at_member {p = p} {q = q} {more = more} g) =
      ap (λ z. followed z (and_member q more)) (guarded_is ack g)
      ∙ sym (ap (λ b. if b then turn_still (and_member q more) ack (turn_cells (turn_rests {members = and_member q more}))
      else followed (guarded_still p ack (guarded_cells g)) (and_member q more)) (next_is g))
  turn_is ack (at_later {p = p} {q = q} {more = more} {k = answered} {n = running} g t h) =
      turn_is ack t
      ∙ sym (ap (λ b. if b then turn_still (and_member q more) ack (turn_cells t)
      else followed (guarded_still p ack (guarded_cells g)) (and_member q more)) (next_is g))
  turn_is ack (at_later g t h) = absurd (cc h)

  choice_is : {choices : Choices} (ack : Line → Bool) (x : ChoiceAt false choices running)
      → left ack (at_choice x) ≡ still_left (choosing false choices) ack (cells (at_choice x))
  choice_is {choices = choices} ack (control_at called) = sym (choice_none choices ack _ (active (choosing false choices)) (λ t. t))
  choice_is {choices = choices} ack (control_at (evaluating g)) = sym (choice_none choices ack _ (active (choosing false choices)) (λ t. t))
  choice_is {choices = choices} ack (control_at (latched l i g h)) = sym (choice_latched choices ack i _ (active (choosing false choices)) (λ t. t))
  choice_is ack (control_at (leaving y l g h)) = absurd (cc y)
  choice_is {choices = choices} ack (inside_at a works) = sym (chosen_is ack a refl true (active (choosing false choices)) (λ t. t))
  choice_is {choices = choices} ack (inside_at a worked) = sym (chosen_is ack a refl true (active (choosing false choices)) (λ t. t))

  turning_is : {choices : Choices} {m : Mode} (ack : Line → Bool) (x : ChoiceAt true choices m)
      → left ack (at_turning x) ≡ still_left (choosing true choices) ack (cells (at_turning x))
  turning_is {choices = choices} ack (control_at uncalled) = sym (choice_none choices ack _ (active (choosing true choices)) (turned choices))
  turning_is {choices = choices} ack (control_at called) = sym (choice_none choices ack _ (active (choosing true choices)) (turned choices))
  turning_is {choices = choices} ack (control_at (evaluating g)) = sym (choice_none choices ack _ (active (choosing true choices)) (turned choices))
  turning_is {choices = choices} ack (control_at (latched l i g h)) = sym (choice_latched choices ack i _ (active (choosing true choices)) (turned choices))
  turning_is ack (control_at (leaving y l g h)) = refl
  turning_is {choices = choices} ack (inside_at a works) = sym (chosen_is ack a refl true (active (choosing true choices)) (turned choices))
  turning_is {choices = choices} ack (inside_at a worked) = sym (chosen_is ack a refl true (active (choosing true choices)) (turned choices))
  turning_is {choices = choices} ack (inside_at a reported) = sym (chosen_is ack a refl true (active (choosing true choices)) (turned choices))
  turning_is {choices = choices} ack (inside_at a letting) = sym (chosen_is ack a refl true (active (choosing true choices)) (turned choices))
  turning_is {choices = choices} ack (inside_at {k = answered} a (backs any h)) =
      sym (chosen_is ack a refl false (active (choosing true choices)) (turned choices))
  turning_is {choices = choices} ack (inside_at {k = idle} a (backs any h)) = ap (turned choices) (chosen_left_done ack a (λ e. cc e))
      ∙ sym (chosen_gone ack a refl (active (choosing true choices)) (turned choices))
  turning_is {choices = choices} ack (inside_at {k = returning} a (backs any h)) = ap (turned choices) (chosen_left_done ack a (λ e. cc e))
      ∙ sym (chosen_gone ack a refl (active (choosing true choices)) (turned choices))
  turning_is ack (inside_at {k = running} a (backs any h)) = absurd (cc h)

  -- the branch that is under way
  chosen_is : {choices : Choices} {k : Mode} (ack : Line → Bool) (a : ChosenAt choices k) → asks k ≡ true → (b : Bool) (none : Term) (wrap : Term → Term)
      → choice_still choices ack (hot (chosen_index a) b) (hot (chosen_index a) (asks k)) (chosen_cells a) none wrap ≡ wrap (chosen_left ack a)
  chosen_is {k = running} ack (this_one a) h b none wrap = ap wrap (part_runs ack a (still_is ack a))
  chosen_is {k = answered} ack (this_one a) h b none wrap = ap wrap (part_over ack a)
  chosen_is {k = idle} ack (this_one a) h b none wrap = absurd (cc h)
  chosen_is {k = returning} ack (this_one a) h b none wrap = absurd (cc h)
  chosen_is ack (another a) h b none wrap = chosen_is ack a h b none wrap

  -- one whose start is low, and its latch
  chosen_gone : {choices : Choices} {k : Mode} (ack : Line → Bool) (a : ChosenAt choices k) → asks k ≡ false → (none : Term) (wrap : Term → Term)
      → choice_still choices ack (hot (chosen_index a) false) (hot (chosen_index a) (asks k)) (chosen_cells a) none wrap ≡ none
  chosen_gone {k = idle} ack (this_one {more = more} a) h none wrap = choice_none more ack _ none wrap
  chosen_gone {k = returning} ack (this_one {more = more} a) h none wrap = choice_none more ack _ none wrap
  chosen_gone {k = running} ack (this_one a) h none wrap = absurd (cc h)
  chosen_gone {k = answered} ack (this_one a) h none wrap = absurd (cc h)
  chosen_gone ack (another a) h none wrap = chosen_gone ack a h none wrap

pub part_is : {p : Process} {m : Mode} (ack : Line → Bool) (a : At p m) → asks m ≡ true → part_left p ack (cells a) ≡ left ack a
part_is {m = running} ack a h = part_runs ack a (still_is ack a)
part_is {m = answered} ack a h = part_over ack a
part_is {m = idle} ack a h = absurd (cc h)
part_is {m = returning} ack a h = absurd (cc h)
