-- What is due of a statement falls with each own move that is no silent step of the program.
--
-- P: the program; p, q, more: statements; m, k, n: modes of their handshakes; a, g, t, b: where a statement, a guarded member, a sequence
-- and branches are; s: a spot; f: that the cells fit the environment; e: that the spot's rule fires; still: that its move is no step.
use Rattle.std.proofs.Common.{◌≡◌, ℕ, suc, ◌≤◌, Bool, true, false, List, refl, sym, ap, ◌∙◌, subst, arith}
use Rattle.std.specs.Prelude.{not}
use Rattle.prs_core.specs.Turning.{turned_here, turned_apart}
use Rattle.width_check.specs.Processes.{Process, repeating, Processes, and_member, member_count, Choices, TypedProgram}
use Rattle.circuit_places.specs.Lines.{of_channel, of_var, Seen}
use Rattle.circuit_places.specs.Heads.{Bits, hot}
use Rattle.circuit_places.specs.Circuit.{TurnCells, low_turn, joint_count, cell_bit, turned_bits, GuardedSpot, child, latch, next, inner, Spot, of_skip, of_assign, of_send, of_receive, in_members, of_branch, joint, of_loop, ask, in_body, of_core, of_guard, of_choice, of_round, TurnSpot, in_last, in_member, in_later, BranchSpot, in_this, in_others, ChoiceSpot, this_choice, other_choice, flipped, turned_guarded, turned_turn, turned_branches, turned_choice}
use Rattle.circuit_places.proofs.RailLemmas.{fst_true, snd_true, same_value}
use Rattle.circuit_places.proofs.CoreControl.{Mode, idle, running, answered, returning, asks, acks}
use Rattle.circuit_places.proofs.Trees.{joint_moves, joint_below, turned_at, moves_from_top}
use Rattle.circuit_places.proofs.Places.{next_is, link_next, not_running, no_leave, At, rests, at_skip, at_assign, at_send, at_receive, at_turn, at_side, at_body, at_choice, at_turning, at_closing, GuardedAt, g_rests, g_in, g_past, g_back, TurnAt, turn_rests, at_last, at_member, at_later, BranchesAt, no_more, and_at, control_at, inside_at, ChosenAt, this_one, another, chosen_index, SideMay, ends, all_ask, link, cells, guarded_cells, turn_cells, branch_cells, chosen_cells, Fits, GuardedFits, TurnFits, BranchesFit, ChosenFits, moves, guarded_moves, turn_moves, branch_moves, chosen_moves}
use Rattle.circuit_places.proofs.Meets.{Meets, TurnMeets, EachMeets, ChoiceMeets}
use Rattle.circuit_places.proofs.Flow.{Clean, not_both}
use Rattle.circuit_places.proofs.Begin.{idle_moves, answered_moves}
use Rattle.circuit_places.proofs.Stepping.{guarded_steps, steps, chosen_steps, branch_steps, turn_steps}
use Rattle.circuit_places.specs.Bounds.{turn_most}
use Rattle.circuit_places.proofs.Dues.{guarded_of_due, weigh, bits_sum, bits_turned, weigh_falls, later_due, due, turn_due, each_due, choice_due}
use Rattle.circuit_places.proofs.DuesBound.{due_within, turn_within, due_eases, turn_eases}
use Rattle.circuit_places.proofs.LeafDues.{site_falls, port_falls}
use Rattle.circuit_places.proofs.ChoiceDues.{round_falls, turning_own, turning_guard, closing_falls, closing_round, own_falls, core_guard_falls, core_inner_falls}

-- the completion tree of branches
joint_falls : {ks : List Mode} (n : ℕ) (m : Mode) (t : Bits (joint_count n)) (k : ℕ) (h : SideMay n m ks t) (r : Bool) → acks m ≡ not r
    → joint_moves n (ends ks) t k ≡ true
    → suc (bits_sum (weigh r) (joint_count n) (cell_bit (joint_count n) (turned_bits (joint_count n) t k))) ≡ bits_sum (weigh r) (joint_count n)
    (cell_bit (joint_count n) t)
joint_falls {ks = ks} n m t k h r a e =
    let less = joint_below n (ends ks) (cell_bit (joint_count n) t) k e in
    let v : cell_bit (joint_count n) t k ≡ not r = moves_from_top n h.known (ends ks) (cell_bit (joint_count n) t) k h.settles e ∙ (h.top ∙ a) in
    bits_turned (weigh r) (joint_count n) (cell_bit (joint_count n) t) (cell_bit (joint_count n) (turned_bits (joint_count n) t k)) k less
    (ap (λ b. suc (weigh r b)) (turned_at (joint_count n) t k k less ∙ turned_here (cell_bit (joint_count n) t) k)
    ∙ weigh_falls r (cell_bit (joint_count n) t k) v)
    (λ j ne. turned_at (joint_count n) t k j less ∙ turned_apart (cell_bit (joint_count n) t) k j ne)

-- a member of a sequence, and what stands behind it
behind_falls : (P : TypedProgram) {p q : Process} {more : Processes} (m : Mode) {k n : Mode} (g : GuardedAt p k) (t : TurnAt (and_member q more) n)
    → link m k n ≡ true
    → (now : TurnCells (and_member q more)) → suc (turn_due P (and_member q more) (asks n) now) ≤ turn_due P (and_member q more) (asks n) (turn_cells t)
    → suc (later_due (asks m) (guarded_cells g).next (turn_most P (and_member q more)) (turn_due P (and_member q more) (guarded_cells g).next now))
    ≤ later_due (asks m) (guarded_cells g).next (turn_most P (and_member q more)) (turn_due P (and_member q more) (guarded_cells g).next (turn_cells t))
behind_falls P {q = q} {more = more} m {k = k} {n = n} g t h now less =
    subst (λ (b : Bool). suc (later_due (asks m) b (turn_most P (and_member q more)) (turn_due P (and_member q more) b now))
    ≤ later_due (asks m) b (turn_most P (and_member q more)) (turn_due P (and_member q more) b (turn_cells t))) (sym (next_is g ∙ link_next m k n h))
    (by m k n h (turn_due P (and_member q more)) less)
  where
    by : (m k n : Mode) → link m k n ≡ true → (d : Bool → TurnCells (and_member q more) → ℕ) → suc (d (asks n) now) ≤ d (asks n) (turn_cells t)
        → suc (later_due (asks m) (asks n) (turn_most P (and_member q more)) (d (asks n) now))
        ≤ later_due (asks m) (asks n) (turn_most P (and_member q more)) (d (asks n) (turn_cells t))
    by running answered running h d less = less
    by answered answered answered h d less = less
    by returning returning answered h d less = less
    by returning idle returning h d less = less
    by _ _ _ h d less = absurd (cc h)

member_falls : (P : TypedProgram) {p : Process} (q : Process) (more : Processes) (g : GuardedAt p running) (s : GuardedSpot p)
    → suc (guarded_of_due P p true (turned_guarded p (guarded_cells g) s)) ≤ guarded_of_due P p true (guarded_cells g)
    → suc (turn_due P (and_member p (and_member q more)) true (turned_turn (and_member p (and_member q more)) (turn_cells (at_member {q = q} {more = more} g))
    (in_member s))) ≤ turn_due P (and_member p (and_member q more)) true (turn_cells (at_member {q = q} {more = more} g))
member_falls P q more (g_in u a h) child less = omega (arith, less)
member_falls P q more (g_in u a h) latch less = omega (arith, less)
member_falls P q more (g_in u a h) next less = let z = turn_within P (and_member q more) true (low_turn (and_member q more)) in omega (arith, less, z)
member_falls P q more (g_in u a h) (inner s) less = omega (arith, less)

past_falls : (P : TypedProgram) (env : Seen) {p q : Process} {more : Processes} (m : Mode) {k n : Mode} (g : GuardedAt p k) (t : TurnAt (and_member q more) n)
    (h : link m k n ≡ true) (s : GuardedSpot p) → guarded_moves env g s ≡ true
    → suc (turn_due P (and_member p (and_member q more)) (asks m) (turned_turn (and_member p (and_member q more)) (turn_cells (at_later g t h)) (in_member s)))
    ≤ turn_due P (and_member p (and_member q more)) (asks m) (turn_cells (at_later g t h))
past_falls P env m g_rests t h s e = absurd (cc e)
past_falls P env m {k = running} {n = n} (g_in u a y) t h s e = absurd (not_running m running n h refl)
past_falls P env m g_past t h s e = absurd (cc e)
past_falls P env m (g_back false) t h latch e = absurd (cc e)
past_falls P env m (g_back true) t h next e = absurd (cc e)
past_falls P env m (g_back u) t h child e = absurd (cc e)
past_falls P env m (g_back u) t h (inner s) e = absurd (cc e)
past_falls P env returning (g_back true) t h latch e = omega arith
past_falls P env {q = q} {more = more} returning (g_back false) t h next e = let z = turn_eases P (and_member q more) (turn_cells t) in omega (arith, z)
past_falls P env idle (g_back u) t h s e = absurd (cc h)
past_falls P env running (g_back u) t h s e = absurd (cc h)
past_falls P env answered (g_back u) t h s e = absurd (cc h)

mutual
  pub guarded_falls : (P : TypedProgram) {p : Process} {m : Mode} (env : Seen) → Clean P env → Meets P p → (g : GuardedAt p m) (s : GuardedSpot p)
      → GuardedFits g env → guarded_moves env g s ≡ true → guarded_steps g s ≡ false
      → suc (guarded_of_due P p (asks m) (turned_guarded p (guarded_cells g) s)) ≤ guarded_of_due P p (asks m) (guarded_cells g)
  guarded_falls P env clean meets g_rests s f e still = absurd (cc e)
  guarded_falls P {p = p} env clean meets (g_in {m = idle} false a h) child f e still = let z = due_within P p true (cells a) in omega (arith, z)
  guarded_falls P env clean meets (g_in {m = idle} true a h) child f e still = absurd (cc e)
  guarded_falls P env clean meets (g_in {m = running} true a h) child f e still = absurd (cc h)
  guarded_falls P env clean meets (g_in {m = running} false a h) child f e still = absurd (cc e)
  guarded_falls P {p = p} env clean meets (g_in {m = answered} true a h) child f e still = let z = due_eases P p (cells a) in omega (arith, z)
  guarded_falls P env clean meets (g_in {m = answered} false a h) child f e still = absurd (cc e)
  guarded_falls P env clean meets (g_in {m = returning} true a h) child f e still = absurd (cc e)
  guarded_falls P env clean meets (g_in {m = returning} false a h) child f e still = absurd (cc h)
  guarded_falls P env clean meets (g_in {m = idle} false a h) latch f e still = absurd (cc e)
  guarded_falls P env clean meets (g_in {m = running} false a h) latch f e still = absurd (cc e)
  guarded_falls P env clean meets (g_in {m = answered} false a h) latch f e still = omega arith
  guarded_falls P env clean meets (g_in {m = returning} false a h) latch f e still = absurd (cc h)
  guarded_falls P env clean meets (g_in true a h) latch f e still = absurd (cc e)
  guarded_falls P env clean meets (g_in {m = idle} true a h) next f e still = omega arith
  guarded_falls P env clean meets (g_in {m = running} true a h) next f e still = absurd (cc h)
  guarded_falls P env clean meets (g_in {m = answered} true a h) next f e still = absurd (cc e)
  guarded_falls P env clean meets (g_in {m = returning} true a h) next f e still = absurd (cc e)
  guarded_falls P env clean meets (g_in false a h) next f e still = absurd (cc e)
  guarded_falls P env clean meets (g_in {m = idle} u a h) (inner s) f e still = absurd (not_both (idle_moves env a s) e)
  guarded_falls P env clean meets (g_in {m = running} u a h) (inner s) f e still = let z = falls P env clean meets a s f e still in omega (arith, z)
  guarded_falls P env clean meets (g_in {m = answered} u a h) (inner s) f e still = absurd (not_both (answered_moves P env clean a f s) e)
  guarded_falls P env clean meets (g_in {m = returning} true a h) (inner s) f e still = let z = falls P env clean meets a s f e still in omega (arith, z)
  guarded_falls P env clean meets (g_in {m = returning} false a h) (inner s) f e still = absurd (cc h)
  guarded_falls P env clean meets g_past s f e still = absurd (cc e)
  guarded_falls P env clean meets (g_back true) latch f e still = omega arith
  guarded_falls P env clean meets (g_back false) latch f e still = absurd (cc e)
  guarded_falls P env clean meets (g_back true) next f e still = absurd (cc e)
  guarded_falls P env clean meets (g_back false) next f e still = omega arith
  guarded_falls P env clean meets (g_back u) child f e still = absurd (cc e)
  guarded_falls P env clean meets (g_back u) (inner s) f e still = absurd (cc e)

  pub falls : (P : TypedProgram) {p : Process} {m : Mode} (env : Seen) → Clean P env → Meets P p → (a : At p m) (s : Spot p) → Fits a env
      → moves env a s ≡ true → steps a s ≡ false → suc (due P p (asks m) (flipped p (cells a) s)) ≤ due P p (asks m) (cells a)
  falls P env clean meets rests s f e still = absurd (cc e)
  falls P env clean meets (at_skip idle h) of_skip f e still = absurd (cc h)
  falls P env clean meets (at_skip running h) of_skip f e still = absurd (cc still)
  falls P env clean meets (at_skip answered h) of_skip f e still = absurd (cc e)
  falls P env clean meets (at_skip returning h) of_skip f e still = omega arith
  falls P env clean meets (at_assign {x = x} {e = d} m u h) (of_assign s) f e still = site_falls P (of_var x) d env clean m u h s f e
  falls P env clean meets (at_send {c = c} {e = d} m u h) (of_send s) f e still = site_falls P (of_channel c) d env clean m u h s f e
  falls P env clean meets (at_receive {c = c} {x = x} m k q h) (of_receive s) f e still = port_falls P c x env clean meets m k q h s f e
  falls P env clean meets (at_turn t) (in_members s) f e still = turn_falls P env clean meets t s f e still
  falls P env clean meets (at_side {members = members} m t b h) (of_branch s) f e still =
      let z = branch_falls P env clean meets.2 (asks m) b h.asked s f e still in omega (arith, z)
  falls P env clean meets (at_side {members = members} {ks = ks} idle t b h) (joint k) f e still = absurd (cc h.awake)
  falls P env clean meets (at_side {members = members} {ks = ks} answered t b h) (joint k) f e still =
      absurd (not_both (answered_moves P env clean (at_side answered t b h) f (joint k)) e)
  falls P env clean meets (at_side {members = members} {ks = ks} running t b h) (joint k) f e still =
      let z = joint_falls {ks = ks} (member_count members) running t k h true refl e in omega (arith, z)
  falls P env clean meets (at_side {members = members} {ks = ks} returning t b h) (joint k) f e still =
      let z = joint_falls {ks = ks} (member_count members) returning t k h false refl e in omega (arith, z)
  falls P env clean meets (at_body a) (in_body s) f e still = let z = falls P env clean meets a s f e still in omega (arith, z)
  falls P {p = repeating p} env clean meets (at_body {m = answered} a) ask f e still = let z = due_eases P p (cells a) in omega (arith, z)
  falls P env clean meets (at_body {m = idle} a) ask f e still = absurd (cc still)
  falls P env clean meets (at_body {m = running} a) ask f e still = absurd (cc e)
  falls P env clean meets (at_body {m = returning} a) ask f e still = absurd (cc still)
  falls P env clean meets (at_body a) of_loop f e still = absurd (cc e)
  falls P env clean meets (at_choice {choices = choices} x) (of_core s) f e still = own_falls P env clean false choices meets.1 x s (no_leave x) e still
  falls P env clean meets (at_choice {choices = choices} (control_at c)) (of_guard q) f e still =
      core_guard_falls P env clean false choices meets.1 c q (no_leave (control_at c)) f e
  falls P env clean meets (at_choice (control_at c)) (of_choice s) f e still = absurd (cc e)
  falls P env clean meets (at_choice (inside_at a w)) (of_guard q) f e still = absurd (cc e)
  falls P env clean meets (at_choice {choices = choices} (inside_at a w)) (of_choice s) f e still =
      core_inner_falls P env clean false choices meets.1 a w s (chosen_falls P env clean meets.2 a s f e still)
  falls P env clean meets (at_turning {choices = choices} x) (of_core s) f e still = turning_own P env clean choices meets.1 x s e still
  falls P env clean meets (at_turning {choices = choices} (control_at c)) (of_guard q) f e still = turning_guard P env clean choices meets.1 c q f e
  falls P env clean meets (at_turning (control_at c)) (of_choice s) f e still = absurd (cc e)
  falls P env clean meets (at_turning (inside_at a w)) (of_guard q) f e still = absurd (cc e)
  falls P env clean meets (at_turning {choices = choices} (inside_at a w)) (of_choice s) f e still =
      core_inner_falls P env clean true choices meets.1 a w s (chosen_falls P env clean meets.2 a s f e still)
  falls P env clean meets (at_turning x) (of_round t) f e still = round_falls P x t e still
  falls P env clean meets (at_closing {choices = choices} c) (of_core s) f e still = closing_falls P choices c s e
  falls P env clean meets (at_closing {choices = choices} c) (of_round t) f e still = closing_round P choices c t e
  falls P env clean meets (at_closing c) (of_guard q) f e still = absurd (cc e)
  falls P env clean meets (at_closing c) (of_choice s) f e still = absurd (cc e)

  pub chosen_falls : (P : TypedProgram) {choices : Choices} {k : Mode} (env : Seen) → Clean P env → ChoiceMeets P choices → (a : ChosenAt choices k)
      (s : ChoiceSpot choices) → ChosenFits a env → chosen_moves env a s ≡ true → chosen_steps a s ≡ false
      → suc (choice_due P choices (hot (chosen_index a) (asks k)) (turned_choice choices (chosen_cells a) s)) ≤ choice_due P choices
      (hot (chosen_index a) (asks k)) (chosen_cells a)
  chosen_falls P env clean meets (this_one a) (this_choice s) f e still = let z = falls P env clean meets.0 a s f e still in omega (arith, z)
  chosen_falls P env clean meets (another a) (other_choice s) f e still = let z = chosen_falls P env clean meets.1 a s f e still in omega (arith, z)
  chosen_falls P env clean meets (this_one a) (other_choice s) f e still = absurd (cc e)
  chosen_falls P env clean meets (another a) (this_choice s) f e still = absurd (cc e)

  pub branch_falls : (P : TypedProgram) {members : Processes} {ks : List Mode} (env : Seen) → Clean P env → EachMeets P members → (r : Bool)
      → (b : BranchesAt members ks) → all_ask r ks ≡ true → (s : BranchSpot members) → BranchesFit b env → branch_moves env b s ≡ true
      → branch_steps b s ≡ false
      → suc (each_due P members r (turned_branches members (branch_cells b) s)) ≤ each_due P members r (branch_cells b)
  branch_falls P env clean meets r no_more h s f e still = absurd (cc e)
  branch_falls P env clean meets r (and_at {p = p} {k = k} g b) h (in_this s) f e still =
      let z : suc (guarded_of_due P p r (turned_guarded p (guarded_cells g) s)) ≤ guarded_of_due P p r (guarded_cells g) =
      subst (λ (c : Bool). suc (guarded_of_due P p c (turned_guarded p (guarded_cells g) s)) ≤ guarded_of_due P p c (guarded_cells g))
      (same_value (asks k) r (fst_true _ _ h)) (guarded_falls P env clean meets.0 g s f.0 e still) in
      omega (arith, z)
  branch_falls P env clean meets r (and_at g b) h (in_others s) f e still =
      let z = branch_falls P env clean meets.2 r b (snd_true _ _ h) s f.1 e still in omega (arith, z)

  pub turn_falls : (P : TypedProgram) {members : Processes} {m : Mode} (env : Seen) → Clean P env → TurnMeets P members → (t : TurnAt members m)
      (s : TurnSpot members) → TurnFits t env → turn_moves env t s ≡ true → turn_steps t s ≡ false
      → suc (turn_due P members (asks m) (turned_turn members (turn_cells t) s)) ≤ turn_due P members (asks m) (turn_cells t)
  turn_falls P env clean meets turn_rests s f e still = absurd (cc e)
  turn_falls P env clean meets (at_last a) (in_last s) f e still = falls P env clean meets a s f e still
  turn_falls P env clean meets (at_member {p = p} {q = q} {more = more} g) (in_member s) f e still =
      member_falls P q more g s (guarded_falls P env clean meets.0 g s f e still)
  turn_falls P env clean meets (at_member g) (in_later s) f e still = absurd (cc e)
  turn_falls P env clean meets (at_later {p = p} {q = q} {more = more} {k = k} {n = n} {m = m} g t h) (in_later s) f e still =
      let z = behind_falls P m g t h (turned_turn (and_member q more) (turn_cells t) s) (turn_falls P env clean meets.1 t s f e still) in omega (arith, z)
  turn_falls P env clean meets (at_later g t h) (in_member s) f e still = past_falls P env _ g t h s e
