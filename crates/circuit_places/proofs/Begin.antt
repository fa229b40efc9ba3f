-- A statement at rest and answered; what begins where its request rises, and goes on where it falls.
use Rattle.std.proofs.Common.{◌≡◌, ℕ, zero, suc, ◌==◌, ◌<◌, Bool, true, false, List, [], ◌∷◌, length, refl, sym, ap, ◌∙◌, subst, arith}
use Rattle.std.specs.Prelude.{not, ◌&&◌, if◌then◌else◌, is_some}
use Rattle.std.proofs.Math.Path.{fun_ext}
use Rattle.chp_base.specs.declared.span.Span.{Span}
use Rattle.width_check.specs.Processes.{Formula, Process, skipping, assigning, sending, receiving, in_turn, side_by_side, choosing, repeating, Processes, no_members, and_member, member_count, TypedProgram, Choices, no_choices, and_choice, choice_count}
use Rattle.chp_meaning.specs.Terms.{Terms, active, opened, opened_turn, opened_each, and_branch, together}
use Rattle.circuit_places.specs.Lines.{Line, of_channel, of_var, same_line, Rails, Seen}
use Rattle.circuit_places.specs.Whole.{value_on, neutral_on}
use Rattle.circuit_places.specs.Circuit.{Pairs, low_pairs, gate_count, Bits, low_guarded, low, SiteSpot, low_turn, low_branches, low_bits, cell_bit, joint_count, GuardedSpot, Spot, TurnSpot, BranchSpot, of_skip, done, gate, of_assign, of_send, of_receive, PortSpot, heard, stored, taking, in_members, of_branch, joint, in_this, in_others, in_last, in_member, in_later, Cells, ChoiceCells, low_choices, ChoiceSpot, this_choice, other_choice, of_core, of_guard, of_choice, of_round}
use Rattle.function_blocks.specs.Waves.{full, empty, Waves}
use Rattle.circuit_places.proofs.RailLemmas.{fst_true, snd_true, never_and, low_out}
use Rattle.circuit_places.proofs.Trees.{Settled, settled_low, top_low, top_of, flat_stands}
use Rattle.circuit_places.proofs.Places.{Mode, idle, running, answered, returning, wave_may, SiteMay, all_ask, all_ack, all_idle, ends, SideMay, GuardedAt, At, TurnAt, BranchesAt, g_rests, g_in, g_past, g_back, rests, at_skip, at_assign, at_send, at_receive, at_turn, at_side, at_body, no_more, and_at, turn_rests, at_last, at_member, at_later, guarded_of, sides_of, guarded_cells, cells, turn_cells, branch_cells, Shown, none_shown, both_shown, guarded_shown, shown, turn_shown, branches_shown, site_shown, site_moves, send_fits, SiteFits, port_ends, PortFits, port_moves, Fits, TurnFits, BranchesFit, guarded_moves, moves, turn_moves, branch_moves, at_choice, at_turning, at_closing, control_at, inside_at, ChosenAt, this_one, another, chosen_index, chosen_cells, chosen_shown, ChosenFits, chosen_moves, low_guards_quiet}
use Rattle.circuit_places.proofs.Meets.{PortMeets, Meets, TurnMeets, opened_then, sends, receives, ChoiceMeets, choice_sends, choice_receives}
use Rattle.circuit_places.proofs.Left.{waits, left, turn_left, branches_left, body_at, chosen_left}
use Rattle.circuit_places.proofs.Flow.{Flow, Clean, Quiet, or_left, cases, or_right}
use Rattle.circuit_places.proofs.LineNames.{self_number, self_line}
use Rattle.circuit_places.specs.Heads.{Index, top, under}
use Rattle.circuit_places.specs.Cores.{of_joined, of_ask, of_any, of_latch, of_start, of_answer, of_turn, of_leave}
use Rattle.circuit_places.proofs.CoreControl.{uncalled, called, reported, letting, told_all, lets_turn}
use Rattle.circuit_places.proofs.GuardWaves.{guards_idle}

-- a statement that rests
mutual
  pub idle_is : {p : Process} (a : At p idle) → (cells a ≡ low p) × (shown a ≡ none_shown)
  idle_is rests = (refl, refl)
  idle_is (at_skip _ h) = absurd (cc h)
  idle_is (at_assign _ u h) = absurd (cc h.may)
  idle_is (at_send _ u h) = absurd (cc h.may)
  idle_is (at_receive _ k q h) = absurd (cc h)
  idle_is (at_turn t) = turn_idle_is t
  idle_is (at_side _ t b h) = absurd (cc h.awake)
  idle_is (at_choice (control_at uncalled)) = (refl, refl)
  idle_is (at_choice (inside_at a w)) = elim w [ ]
  idle_is (at_closing c) = elim c [ ]

  pub turn_idle_is : {members : Processes} (t : TurnAt members idle) → (turn_cells t ≡ low_turn members) × (turn_shown t ≡ none_shown)
  turn_idle_is turn_rests = (refl, refl)
  turn_idle_is (at_last a) = idle_is a
  turn_idle_is (at_later g t h) = absurd (cc h)

pub guarded_idle_is : {p : Process} (g : GuardedAt p idle) → guarded_cells g ≡ low_guarded (low p)
guarded_idle_is g_rests = refl

mutual
  pub idle_moves : {p : Process} (env : Seen) (a : At p idle) (s : Spot p) → moves env a s ≡ false
  idle_moves env rests s = refl
  idle_moves env (at_skip _ h) s = absurd (cc h)
  idle_moves env (at_assign _ u h) s = absurd (cc h.may)
  idle_moves env (at_send _ u h) s = absurd (cc h.may)
  idle_moves env (at_receive _ k q h) s = absurd (cc h)
  idle_moves env (at_turn t) (in_members s) = turn_idle_moves env t s
  idle_moves env (at_side _ t b h) s = absurd (cc h.awake)
  idle_moves env (at_choice (control_at uncalled)) (of_core s) = refl
  idle_moves env (at_choice {choices = choices} (control_at uncalled)) (of_guard s) = low_guards_quiet choices env.bit s
  idle_moves env (at_choice (control_at uncalled)) (of_choice s) = refl
  idle_moves env (at_choice (inside_at a w)) s = elim w [ ]
  idle_moves env (at_closing c) s = elim c [ ]

  pub turn_idle_moves : {members : Processes} (env : Seen) (t : TurnAt members idle) (s : TurnSpot members) → turn_moves env t s ≡ false
  turn_idle_moves env turn_rests s = refl
  turn_idle_moves env (at_last a) (in_last s) = idle_moves env a s
  turn_idle_moves env (at_later g t h) s = absurd (cc h)

pub guarded_idle_moves : {p : Process} (env : Seen) (g : GuardedAt p idle) (s : GuardedSpot p) → guarded_moves env g s ≡ false
guarded_idle_moves env g_rests s = refl

-- no own node moves where the handshake is answered
pub guarded_past_moves : {p : Process} (env : Seen) (g : GuardedAt p answered) (s : GuardedSpot p) → guarded_moves env g s ≡ false
guarded_past_moves env g_past s = refl

pub guarded_past_is : {p : Process} (g : GuardedAt p answered) → (guarded_cells g ≡ guarded_of false true true (low p)) × (guarded_shown g ≡ none_shown)
guarded_past_is g_past = (refl, refl)

pub answered_all : (b : Bool) → wave_may answered b ≡ true → b ≡ true
answered_all true h = refl
answered_all false h = absurd (cc h)

-- what a receive that answers says of the acknowledges
pub answered_kept : (k a v f n : Bool) → port_ends answered k a v f n ≡ true → k ≡ true
answered_kept k a v f n h = fst_true k _ h

pub answered_ack : (k a v f n : Bool) → port_ends answered k a v f n ≡ true → a ≡ true
answered_ack k a v f n h = fst_true a _ (snd_true k _ h)

pub answered_full : (k a v f n : Bool) → port_ends answered k a v f n ≡ true → f ≡ true
answered_full k a v f n h = snd_true v f (snd_true a (v && f) (snd_true k (a && (v && f)) h))

pub answered_va : (k a v f n : Bool) → port_ends answered k a v f n ≡ true → v ≡ true
answered_va k a v f n h = fst_true v _ (snd_true a _ (snd_true k _ h))

-- branches that all rest
pub branches_idle : {members : Processes} {ks : List Mode} (b : BranchesAt members ks) → all_idle ks ≡ true
    → (branch_cells b ≡ low_branches members) × (branches_shown b ≡ none_shown)
branches_idle no_more h = (refl, refl)
branches_idle (and_at {p = p} {k = idle} g_rests b) h = let r = branches_idle b h in (ap (λ x. (low_guarded (low p), x)) r.0, ap (both_shown none_shown) r.1)
branches_idle (and_at {k = running} g b) h = absurd (cc h)
branches_idle (and_at {k = answered} g b) h = absurd (cc h)
branches_idle (and_at {k = returning} g b) h = absurd (cc h)

pub branches_idle_moves : {members : Processes} {ks : List Mode} (env : Seen) (b : BranchesAt members ks) → all_idle ks ≡ true → (s : BranchSpot members)
    → branch_moves env b s ≡ false
branches_idle_moves env no_more h s = refl
branches_idle_moves env (and_at {k = idle} g b) h (in_this s) = guarded_idle_moves env g s
branches_idle_moves env (and_at {k = idle} g b) h (in_others s) = branches_idle_moves env b h s
branches_idle_moves env (and_at {k = running} g b) h s = absurd (cc h)
branches_idle_moves env (and_at {k = answered} g b) h s = absurd (cc h)
branches_idle_moves env (and_at {k = returning} g b) h s = absurd (cc h)

-- branches that have all ended
pub as_many : {members : Processes} {ks : List Mode} → BranchesAt members ks → length ks ≡ member_count members
as_many no_more = refl
as_many (and_at g b) = ap (λ k. suc k) (as_many b)

pub end_high : (ks : List Mode) → all_ack ks ≡ true → (i : ℕ) → i < length ks → ends ks i ≡ true
end_high [] h i less = absurd (omega arith)
end_high (k ∷ ks) h zero less = fst_true _ _ h
end_high (k ∷ ks) h (suc i) less = end_high ks (snd_true _ _ h) i (omega arith)

pub ends_high : {members : Processes} {ks : List Mode} → BranchesAt members ks → all_ack ks ≡ true → (i : ℕ) → i < member_count members → ends ks i ≡ true
ends_high {members = members} {ks = ks} b h i less = end_high ks h i (subst (λ (n : ℕ). i < n) (sym (as_many b)) less)

branches_past_moves : {members : Processes} {ks : List Mode} (env : Seen) (b : BranchesAt members ks) → all_ask true ks ≡ true → all_ack ks ≡ true
    → (s : BranchSpot members) → branch_moves env b s ≡ false
branches_past_moves env no_more h k s = refl
branches_past_moves env (and_at {k = answered} g b) h k (in_this s) = guarded_past_moves env g s
branches_past_moves env (and_at {k = idle} g b) h k s = absurd (cc h)
branches_past_moves env (and_at {k = running} g b) h k s = absurd (cc k)
branches_past_moves env (and_at {k = returning} g b) h k s = absurd (cc h)
branches_past_moves env (and_at {k = answered} g b) h k (in_others s) = branches_past_moves env b h k s

pub site_answered_moves : (P : TypedProgram) (env : Seen) → Clean P env → (k : Line) (e : Formula) (u : Pairs (gate_count e)) → SiteMay e answered u
    → SiteFits k e answered u env → (s : SiteSpot e) → site_moves env k e answered u s ≡ false
site_answered_moves P env clean k e u h f done = ap not f.0
site_answered_moves P env clean k e u h f (gate i one) = h.known.quiet_full env.bit u clean.single f.1 (answered_all (full e u) h.may) i one

-- a receive that answers has all the rails that are there
pub port_answered_moves : (env : Seen) (c x : ℕ) (k : Bool) (q : Rails) → PortFits c x answered k q env → (s : PortSpot)
    → port_moves env c x answered k q s ≡ false
port_answered_moves env c x k q f heard = ap not (answered_ack k (env.ack (of_channel c)) (env.ack (of_var x)) (is_some (value_on (env.width (of_var x)) q))
    (neutral_on (env.width (of_var x)) q) f.ends)
port_answered_moves env c x k q f stored = by k (answered_kept k (env.ack (of_channel c)) (env.ack (of_var x)) (is_some (value_on (env.width (of_var x)) q))
    (neutral_on (env.width (of_var x)) q) f.ends) (answered_va k (env.ack (of_channel c)) (env.ack (of_var x)) (is_some (value_on (env.width (of_var x)) q))
    (neutral_on (env.width (of_var x)) q) f.ends)
  where
    by : (k : Bool) → k ≡ true → env.ack (of_var x) ≡ true → (if k then not (env.ack (of_var x)) else true && env.ack (of_var x)) ≡ false
    by true e v = ap not v
    by false e v = absurd (cc e)
port_answered_moves env c x k q f (taking i one) = by (q i one) refl
  where
    by : (b : Bool) → q i one ≡ b → (if b then not true && not (env.rail (of_channel c) i one) else true && env.rail (of_channel c) i one) ≡ false
    by true e = refl
    by false e = cases (env.rail (of_channel c) i one)
        (λ (z : env.rail (of_channel c) i one ≡ true). absurd (cc (
          f.behind
              (answered_kept k (env.ack (of_channel c)) (env.ack (of_var x)) (is_some (value_on (env.width (of_var x)) q))
              (neutral_on (env.width (of_var x)) q) f.ends) i one z,
          e,
        )))
        (λ (z : env.rail (of_channel c) i one ≡ false). z)

mutual
  pub answered_moves : (P : TypedProgram) {p : Process} (env : Seen) → Clean P env → (a : At p answered) → Fits a env → (s : Spot p) → moves env a s ≡ false
  answered_moves P env clean (at_skip _ h) f of_skip = refl
  answered_moves P env clean (at_assign {x = x} {e = e} _ u h) f (of_assign s) = site_answered_moves P env clean (of_var x) e u h f s
  answered_moves P env clean (at_send {c = c} {e = e} _ u h) f (of_send s) = site_answered_moves P env clean (of_channel c) e u h f s
  answered_moves P env clean (at_receive {c = c} {x = x} _ k q h) f (of_receive s) = port_answered_moves env c x k q f s
  answered_moves P env clean (at_turn t) f (in_members s) = turn_answered_moves P env clean t f s
  answered_moves P env clean (at_side _ t b h) f (of_branch s) = branches_past_moves env b h.asked (h.all refl) s
  answered_moves P env clean (at_side {members = members} {ks = ks} _ t b h) f (joint k) =
      flat_stands (member_count members) h.known h.some (ends ks) (cell_bit (joint_count (member_count members)) t) true h.settles h.top
      (ends_high b (h.all refl)) k
  answered_moves P env clean (at_choice (inside_at a reported)) f (of_core s) = refl
  answered_moves P env clean (at_choice (inside_at a reported)) f (of_guard s) = refl
  answered_moves P env clean (at_choice (inside_at a reported)) f (of_choice s) = chosen_answered_moves P env clean a f s
  answered_moves P env clean (at_choice (control_at c)) f s = elim c [ ]
  answered_moves P env clean (at_closing told_all) f (of_core of_joined) = refl
  answered_moves P env clean (at_closing told_all) f (of_core of_ask) = refl
  answered_moves P env clean (at_closing told_all) f (of_core of_any) = refl
  answered_moves P env clean (at_closing told_all) f (of_core (of_latch i)) = refl
  answered_moves P env clean (at_closing told_all) f (of_core (of_start i)) = refl
  answered_moves P env clean (at_closing told_all) f (of_guard s) = refl
  answered_moves P env clean (at_closing told_all) f (of_choice s) = refl
  answered_moves P env clean (at_closing told_all) f (of_round of_answer) = refl
  answered_moves P env clean (at_closing told_all) f (of_round of_turn) = refl
  answered_moves P env clean (at_closing told_all) f (of_round of_leave) = refl

  pub chosen_answered_moves : (P : TypedProgram) {choices : Choices} (env : Seen) → Clean P env → (a : ChosenAt choices answered) → ChosenFits a env
      → (s : ChoiceSpot choices) → chosen_moves env a s ≡ false
  chosen_answered_moves P env clean (this_one a) f (this_choice s) = answered_moves P env clean a f s
  chosen_answered_moves P env clean (this_one a) f (other_choice s) = refl
  chosen_answered_moves P env clean (another a) f (this_choice s) = refl
  chosen_answered_moves P env clean (another a) f (other_choice s) = chosen_answered_moves P env clean a f s

  pub turn_answered_moves : (P : TypedProgram) {members : Processes} (env : Seen) → Clean P env → (t : TurnAt members answered) → TurnFits t env
      → (s : TurnSpot members) → turn_moves env t s ≡ false
  turn_answered_moves P env clean (at_last a) f (in_last s) = answered_moves P env clean a f s
  turn_answered_moves P env clean (at_later {k = answered} {n = answered} g t h) f (in_member s) = guarded_past_moves env g s
  turn_answered_moves P env clean (at_later {k = answered} {n = answered} g t h) f (in_later s) = turn_answered_moves P env clean t f s
  turn_answered_moves P env clean (at_later {k = k} {n = n} g t h) f s = absurd (cc h)

-- what begins where a request rises
pub record Begun (p : Process) (env : Seen) : Type 0 where
  pub place : At p running
  pub same : cells place ≡ low p
  pub fits : Fits place env
  pub offer : (k : Line) (i : ℕ) (one : Bool) → (shown place).offer k i one ≡ false
  pub take : (k : ℕ) → (shown place).take k ≡ false
  pub term : left env.ack place ≡ opened p

pub record TurnBegun (members : Processes) (env : Seen) : Type 0 where
  pub place : TurnAt members running
  pub same : turn_cells place ≡ low_turn members
  pub fits : TurnFits place env
  pub offer : (k : Line) (i : ℕ) (one : Bool) → (turn_shown place).offer k i one ≡ false
  pub take : (k : ℕ) → (turn_shown place).take k ≡ false
  pub term : turn_left env.ack place ≡ opened_turn members

pub fits_low : (f n : Bool) → send_fits running f n false ≡ true
fits_low true n = refl
fits_low false n = refl

pub fits_high : (f n : Bool) → send_fits returning f n true ≡ true
fits_high f true = refl
fits_high f false = refl

-- the gates of a site at first
site_begun : (env : Seen) (k : Line) (e : Formula) → Waves e → env.ack k ≡ false → SiteFits k e running (low_pairs (gate_count e)) env
site_begun env k e known low =
    let u = low_pairs (gate_count e) in
    (ap (send_fits running (full e u) (empty e u)) low ∙ fits_low (full e u) (empty e u), known.begins env.bit)

site_offers_none : (d : Line) (e : Formula) (k : Line) (i : ℕ) (one : Bool) → (site_shown d e (low_pairs (gate_count e))).offer k i one ≡ false
site_offers_none d e k i one = ap (λ b. same_line d k && b) (low_out e i one) ∙ never_and (same_line d k)

assign_begun : (x : ℕ) (at : Span) (e : Formula) (env : Seen) → Waves e → env.ack (of_var x) ≡ false → Begun (assigning x at e) env
assign_begun x at e env known low = record {
  place = at_assign running (low_pairs (gate_count e)) (record { known = known; may = refl });
  same = refl;
  fits = site_begun env (of_var x) e known low;
  offer = site_offers_none (of_var x) e;
  take = λ k. refl;
  term = ap (λ b. waits running b (active (assigning x at e))) low;
}

send_begun : (c : ℕ) (at : Span) (e : Formula) (env : Seen) → Waves e → env.ack (of_channel c) ≡ false → Begun (sending c at e) env
send_begun c at e env known low = record {
  place = at_send running (low_pairs (gate_count e)) (record { known = known; may = refl });
  same = refl;
  fits = site_begun env (of_channel c) e known low;
  offer = site_offers_none (of_channel c) e;
  take = λ k. refl;
  term = ap (λ b. waits running b (active (sending c at e))) low;
}

-- a receive has taken nothing at first
receive_begun : (P : TypedProgram) (c x : ℕ) (at to : Span) (env : Seen) → PortMeets P c x → env.ack (of_channel c) ≡ false → env.ack (of_var x) ≡ false
    → Begun (receiving c at x to) env
receive_begun P c x at to env meets low idle_va = record {
  place = at_receive running false (λ i one. false) refl;
  same = refl;
  fits = record {
    ends = ap (λ a. port_ends running false a (env.ack (of_var x)) (is_some (value_on (env.width (of_var x)) (λ i one. false)))
        (neutral_on (env.width (of_var x)) (λ i one. false))) low
        ∙ ap (λ v. port_ends running false false v (is_some (value_on (env.width (of_var x)) (λ i one. false)))
        (neutral_on (env.width (of_var x)) (λ i one. false))) idle_va;
    before = λ e i one h. absurd (cc h);
    behind = λ e i one h. absurd (cc e);
    within = λ i one h. absurd (cc h);
    single = λ i h z. absurd (cc h);
  };
  offer = λ k i one. never_and (same_line (of_var x) k);
  take = λ d. never_and (c == d);
  term = ap (λ b. waits running b (active (receiving c at x to))) low;
}

-- branches under a request that rose
abbrev pub modes_of : Mode → Processes → List Mode
modes_of k no_members = []
modes_of k (and_member p more) = k ∷ modes_of k more

abbrev asked_all : (members : Processes) → BranchesAt members (modes_of running members)
asked_all no_members = no_more
asked_all (and_member p more) = and_at (g_in false rests refl) (asked_all more)

asked_same : (members : Processes) → branch_cells (asked_all members) ≡ low_branches members
asked_same no_members = refl
asked_same (and_member p more) = ap (λ x. (low_guarded (low p), x)) (asked_same more)

asked_fits : (members : Processes) (env : Seen) → BranchesFit (asked_all members) env
asked_fits no_members env = tt
asked_fits (and_member p more) env = (tt, asked_fits more env)

asked_shows : (members : Processes) → branches_shown (asked_all members) ≡ none_shown
asked_shows no_members = refl
asked_shows (and_member p more) = ap (both_shown none_shown) (asked_shows more)

asked_left : (members : Processes) (ack : Line → Bool) → branches_left ack (asked_all members) ≡ opened_each members
asked_left no_members ack = refl
asked_left (and_member p more) ack = ap (λ (z : Terms). and_branch (opened p) z) (asked_left more ack)

asked_ask : (members : Processes) → all_ask true (modes_of running members) ≡ true
asked_ask no_members = refl
asked_ask (and_member p more) = asked_ask more

asked_end : (members : Processes) (i : ℕ) → ends (modes_of running members) i ≡ false
asked_end no_members i = refl
asked_end (and_member p more) zero = refl
asked_end (and_member p more) (suc i) = asked_end more i

sides_begun : (P : TypedProgram) (members : Processes) (env : Seen) → Meets P (side_by_side members) → Begun (side_by_side members) env
sides_begun P members env h =
    let n = member_count members in
    record {
      place = at_side running (low_bits (joint_count n)) (asked_all members) (record {
        some = h.0;
        known = h.1;
        awake = refl;
        asked = asked_ask members;
        settles = settled_low n h.1 (ends (modes_of running members)) (asked_end members);
        top = top_low n h.1 (ends (modes_of running members)) (asked_end members);
        all = λ e. absurd (cc e);
      });
      same = ap (λ x. sides_of members x (low_bits (joint_count n))) (asked_same members);
      fits = asked_fits members env;
      offer = λ k i one. ap (λ (x : Shown). x.offer k i one) (asked_shows members);
      take = λ k. ap (λ (x : Shown). x.take k) (asked_shows members);
      term = ap together (asked_left members env.ack);
    }

mutual
  pub begun : (P : TypedProgram) (p : Process) (env : Seen) → Meets P p → Quiet p env → Begun p env
  begun P skipping env h n = record { place = at_skip running refl; same = refl; fits = tt; offer = λ k i one. refl; take = λ k. refl; term = refl }
  begun P (assigning x at e) env h n = assign_begun x at e env h.known (n.send (of_var x) (self_line (of_var x)))
  begun P (sending c at e) env h n = send_begun c at e env h.known (n.send (of_channel c) (self_line (of_channel c)))
  begun P (in_turn members) env h n =
      let b = turn_begun P members env h record { send = n.send; receive = n.receive } in
      record { place = at_turn b.place; same = b.same; fits = b.fits; offer = b.offer; take = b.take; term = b.term }
  begun P (repeating p) env h n = record { place = at_body rests; same = refl; fits = tt; offer = λ k i one. refl; take = λ k. refl; term = refl }
  begun P (receiving c at x to) env h n = receive_begun P c x at to env h (n.receive c (self_number c)) (n.send (of_var x) (self_line (of_var x)))
  begun P (side_by_side members) env h n = sides_begun P members env h
  begun P (choosing false choices) env h n = record {
    place = at_choice (control_at called);
    same = refl;
    fits = guards_idle P env.bit choices h.1;
    offer = λ k i one. refl;
    take = λ k. refl;
    term = refl;
  }
  begun P (choosing true choices) env h n = record {
    place = at_turning (control_at uncalled);
    same = refl;
    fits = guards_idle P env.bit choices h.1;
    offer = λ k i one. refl;
    take = λ k. refl;
    term = refl;
  }

  pub turn_begun : (P : TypedProgram) (members : Processes) (env : Seen) → TurnMeets P members → Quiet (in_turn members) env → TurnBegun members env
  turn_begun P no_members env h n = absurd h
  turn_begun P (and_member p no_members) env h n =
      let b = begun P p env h record { send = λ k e. n.send k (or_left (sends p k) false e); receive = λ c e. n.receive c (or_left (receives p c) false e) } in
      record { place = at_last b.place; same = b.same; fits = b.fits; offer = b.offer; take = b.take; term = b.term }
  turn_begun P (and_member p (and_member q more)) env h n = record {
    place = at_member (g_in false rests refl);
    same = refl;
    fits = tt;
    offer = λ k i one. refl;
    take = λ k. refl;
    term = opened_then P p h.0 (and_member q more);
  }

-- what goes on where a request falls
pub record Lowered (p : Process) (a : At p answered) (env : Seen) : Type 0 where
  pub place : At p returning
  pub same : cells place ≡ cells a
  pub fits : Fits place env
  pub shows : shown place ≡ shown a

pub record TurnLowered (members : Processes) (t : TurnAt members answered) (env : Seen) : Type 0 where
  pub place : TurnAt members returning
  pub same : turn_cells place ≡ turn_cells t
  pub fits : TurnFits place env
  pub shows : turn_shown place ≡ turn_shown t

still_fits : (f n a : Bool) → send_fits answered f n a ≡ true → send_fits returning f n a ≡ true
still_fits f true a h = refl
still_fits f false a h = h

-- branches under a request that fell
record BranchesLowered (members : Processes) (ks : List Mode) (env : Seen) (b : BranchesAt members ks) : Type 0 where
  pub modes : List Mode
  pub place : BranchesAt members modes
  pub same : branch_cells place ≡ branch_cells b
  pub fits : BranchesFit place env
  pub shows : branches_shown place ≡ branches_shown b
  pub asked : all_ask false modes ≡ true
  pub ends_stay : (i : ℕ) → ends modes i ≡ ends ks i

branches_lowered : {members : Processes} {ks : List Mode} (env : Seen) (b : BranchesAt members ks) → all_ask true ks ≡ true → all_ack ks ≡ true
    → BranchesLowered members ks env b
branches_lowered env no_more h k = record { modes = []; place = no_more; same = refl; fits = tt; shows = refl; asked = refl; ends_stay = λ i. refl }
branches_lowered env (and_at {k = idle} g b) h k = absurd (cc h)
branches_lowered env (and_at {k = running} g b) h k = absurd (cc k)
branches_lowered env (and_at {k = returning} g b) h k = absurd (cc h)
branches_lowered env (and_at {p = p} {k = answered} {ks = ks} g_past b) h k =
    let r = branches_lowered env b h k in
    record {
      modes = returning ∷ r.modes;
      place = and_at (g_back true) r.place;
      same = ap (λ x. (guarded_of false true true (low p), x)) r.same;
      fits = (tt, r.fits);
      shows = ap (both_shown none_shown) r.shows;
      asked = r.asked;
      ends_stay = shifted r.modes ks r.ends_stay;
    }
  where
    shifted : (ls ks : List Mode) → ((i : ℕ) → ends ls i ≡ ends ks i) → (i : ℕ) → ends (returning ∷ ls) i ≡ ends (answered ∷ ks) i
    shifted ls ks f zero = refl
    shifted ls ks f (suc i) = f i

sides_lowered : {members : Processes} {ks : List Mode} (env : Seen) (t : Bits (joint_count (member_count members))) (b : BranchesAt members ks)
    (h : SideMay (member_count members) answered ks t) → BranchesFit b env → Lowered (side_by_side members) (at_side answered t b h) env
sides_lowered {members = members} {ks = ks} env t b h f =
    let n = member_count members in
    let r = branches_lowered env b h.asked (h.all refl) in
    let same : ends r.modes ≡ ends ks = fun_ext r.ends_stay in
    record {
      place = at_side returning t r.place (record {
        some = h.some;
        known = h.known;
        awake = refl;
        asked = r.asked;
        settles = subst (λ (x : ℕ → Bool). Settled n x t) (sym same) h.settles;
        top = ap (λ (x : ℕ → Bool). top_of n x t) same ∙ h.top;
        all = λ e. absurd (cc e);
      });
      same = ap (λ x. sides_of members x t) r.same;
      fits = r.fits;
      shows = r.shows;
    }

site_lowered : (P : TypedProgram) (env : Seen) → Clean P env → (k : Line) (e : Formula) (u : Pairs (gate_count e)) → SiteMay e answered u
    → SiteFits k e answered u env → SiteFits k e returning u env
site_lowered P env clean k e u h f = (
  still_fits (full e u) (empty e u) (env.ack k) f.0,
  h.known.ease env.bit u clean.single f.1 (answered_all (full e u) h.may),
)

-- a receive that answers has stored, and lets go
port_eased : (k a v f n : Bool) → port_ends answered k a v f n ≡ true → port_ends returning k a v f n ≡ true
port_eased true true true true n h = refl
port_eased true true true false n h = absurd (cc h)
port_eased true true false f n h = absurd (cc h)
port_eased true false v f n h = absurd (cc h)
port_eased false a v f n h = absurd (cc h)

port_lowered : (env : Seen) (c x : ℕ) (k : Bool) (q : Rails) → PortFits c x answered k q env → PortFits c x returning k q env
port_lowered env c x k q f = record {
  ends = port_eased k (env.ack (of_channel c)) (env.ack (of_var x)) (is_some (value_on (env.width (of_var x)) q)) (neutral_on (env.width (of_var x)) q) f.ends;
  before = f.before;
  behind = f.behind;
  within = f.within;
  single = f.single;
}

mutual
  pub lowered : (P : TypedProgram) {p : Process} (env : Seen) → Clean P env → (a : At p answered) → Fits a env → Lowered p a env
  lowered P env clean (at_skip _ h) f = record { place = at_skip returning refl; same = refl; fits = tt; shows = refl }
  lowered P env clean (at_assign {x = x} {e = e} _ u h) f = record {
    place = at_assign returning u
        (record { known = h.known; may = refl });
    same = refl;
    fits = site_lowered P env clean (of_var x) e u h f;
    shows = refl;
  }
  lowered P env clean (at_send {c = c} {e = e} _ u h) f = record {
    place = at_send returning u
        (record { known = h.known; may = refl });
    same = refl;
    fits = site_lowered P env clean (of_channel c) e u h f;
    shows = refl;
  }
  lowered P env clean (at_receive {c = c} {x = x} _ k q h) f =
      record { place = at_receive returning k q refl; same = refl; fits = port_lowered env c x k q f; shows = refl }
  lowered P env clean (at_side _ t b h) f = sides_lowered env t b h f
  lowered P env clean (at_turn t) f = let b = turn_lowered P env clean t f in record { place = at_turn b.place; same = b.same; fits = b.fits; shows = b.shows }
  lowered P env clean (at_choice (inside_at a reported)) f = record { place = at_choice (inside_at a letting); same = refl; fits = f; shows = refl }
  lowered P env clean (at_choice (control_at c)) f = elim c [ ]
  lowered P env clean (at_closing told_all) f = record { place = at_closing lets_turn; same = refl; fits = tt; shows = refl }

  pub turn_lowered : (P : TypedProgram) {members : Processes} (env : Seen) → Clean P env → (t : TurnAt members answered) → TurnFits t env
      → TurnLowered members t env
  turn_lowered P env clean (at_last a) f = let b = lowered P env clean a f in record { place = at_last b.place; same = b.same; fits = b.fits; shows = b.shows }
  turn_lowered P env clean (at_later {k = answered} {n = answered} g_past t h) f =
      record { place = at_later (g_back true) t refl; same = refl; fits = f; shows = refl }
  turn_lowered P env clean (at_later {k = k} {n = n} g t h) f = absurd (cc h)

-- from what is shown at rest to what is shown where a handshake begins
pub flow_begun : (env : Seen) (x y : Shown) → x ≡ none_shown → ((k : Line) (i : ℕ) (one : Bool) → y.offer k i one ≡ false) → ((c : ℕ) → y.take c ≡ false)
    → Flow env x y
flow_begun env x y z offer take = record {
  talk = λ k e h. absurd (cc (ap (λ (x : Shown). x.talk k) z, h));
  rises = λ k i one e h. absurd (cc (ap (λ (x : Shown). x.offer k i one) z, h));
  falls = λ k i one e h. absurd (cc (offer k i one, h));
  listen = λ c e h. absurd (cc (ap (λ (x : Shown). x.listen c) z, h));
  holds = λ c e h. absurd (cc (ap (λ (x : Shown). x.take c) z, h));
  drops = λ c e h. absurd (cc (take c, h));
  taken = λ c e h. absurd (cc (take c, h));
  left = λ c e h. absurd (cc (ap (λ (x : Shown). x.take c) z, e));
}

-- what is shown at last is nothing, and then a handshake begins
pub flow_then : (env : Seen) (a x y : Shown) → x ≡ none_shown → ((k : Line) (i : ℕ) (one : Bool) → y.offer k i one ≡ false) → ((c : ℕ) → y.take c ≡ false)
    → Flow env a x → Flow env a y
flow_then env a x y e offer take f = record {
  talk = λ k g h. absurd (cc (f.talk k g h, ap (λ (z : Shown). z.talk k) e));
  rises = λ k i one g h. absurd (cc (f.rises k i one g h, ap (λ (z : Shown). z.offer k i one) e));
  falls = λ k i one g h. absurd (cc (offer k i one, h));
  listen = λ c g h. absurd (cc (f.listen c g h, ap (λ (z : Shown). z.listen c) e));
  holds = λ c g h. absurd (cc (f.holds c g h, ap (λ (z : Shown). z.take c) e));
  drops = λ c g h. absurd (cc (take c, h));
  taken = λ c g h. absurd (cc (take c, h));
  left = λ c g h. f.left c g (ap (λ (z : Shown). z.take c) e);
}

-- the branch that is under way
pub chosen_idle_is : {choices : Choices} (a : ChosenAt choices idle) → (chosen_cells a ≡ low_choices choices) × (chosen_shown a ≡ none_shown)
chosen_idle_is (this_one {p = p} {more = more} a) = (ap (λ (x : Cells p). (x, low_choices more)) (idle_is a).0, (idle_is a).1)
chosen_idle_is (another {p = p} {more = more} a) = (ap (λ (x : ChoiceCells more). (low p, x)) (chosen_idle_is a).0, (chosen_idle_is a).1)

pub chosen_idle_moves : {choices : Choices} (env : Seen) (a : ChosenAt choices idle) (s : ChoiceSpot choices) → chosen_moves env a s ≡ false
chosen_idle_moves env (this_one a) (this_choice s) = idle_moves env a s
chosen_idle_moves env (this_one a) (other_choice s) = refl
chosen_idle_moves env (another a) (this_choice s) = refl
chosen_idle_moves env (another a) (other_choice s) = chosen_idle_moves env a s

-- the acknowledges of all branches are low
pub record ChoiceQuiet (choices : Choices) (env : Seen) : Type 0 where
  pub send : (k : Line) → choice_sends choices k ≡ true → env.ack k ≡ false
  pub receive : (c : ℕ) → choice_receives choices c ≡ true → env.ack (of_channel c) ≡ false

pub record ChosenBegun (choices : Choices) (i : Index (choice_count choices)) (env : Seen) : Type 0 where
  pub place : ChosenAt choices running
  pub which : chosen_index place ≡ i
  pub same : chosen_cells place ≡ low_choices choices
  pub fits : ChosenFits place env
  pub offer : (k : Line) (i : ℕ) (one : Bool) → (chosen_shown place).offer k i one ≡ false
  pub take : (k : ℕ) → (chosen_shown place).take k ≡ false
  pub term : chosen_left env.ack place ≡ opened (body_at choices i)

pub chosen_begun : (P : TypedProgram) (choices : Choices) (i : Index (choice_count choices)) (env : Seen) → ChoiceMeets P choices → ChoiceQuiet choices env
    → ChosenBegun choices i env
chosen_begun P (and_choice g p more) top env h n =
    let b = begun P p env h.0 record {
      send = λ k e. n.send k (or_left (sends p k) (choice_sends more k) e);
      receive = λ c e. n.receive c (or_left (receives p c) (choice_receives more c) e);
    } in
    record {
      place = this_one b.place;
      which = refl;
      same = ap (λ (x : Cells p). (x, low_choices more)) b.same;
      fits = b.fits;
      offer = b.offer;
      take = b.take;
      term = b.term;
    }
chosen_begun P (and_choice g p more) (under i) env h n =
    let b = chosen_begun P more i env h.1 record {
      send = λ k e. n.send k (or_right (sends p k) (choice_sends more k) e);
      receive = λ c e. n.receive c (or_right (receives p c) (choice_receives more c) e);
    } in
    record {
      place = another b.place;
      which = ap (λ j. under j) b.which;
      same = ap (λ (x : ChoiceCells more). (low p, x)) b.same;
      fits = b.fits;
      offer = b.offer;
      take = b.take;
      term = b.term;
    }
chosen_begun P no_choices i env h n = elim i [ ]

pub record ChosenLowered (choices : Choices) (a : ChosenAt choices answered) (env : Seen) : Type 0 where
  pub place : ChosenAt choices returning
  pub which : chosen_index place ≡ chosen_index a
  pub same : chosen_cells place ≡ chosen_cells a
  pub fits : ChosenFits place env
  pub shows : chosen_shown place ≡ chosen_shown a

pub chosen_lowered : (P : TypedProgram) {choices : Choices} (env : Seen) → Clean P env → (a : ChosenAt choices answered) → ChosenFits a env
    → ChosenLowered choices a env
chosen_lowered P env clean (this_one {p = p} {more = more} a) f =
    let b = lowered P env clean a f in
    record { place = this_one b.place; which = refl; same = ap (λ (x : Cells p). (x, low_choices more)) b.same; fits = b.fits; shows = b.shows }
chosen_lowered P env clean (another {p = p} {more = more} a) f =
    let b = chosen_lowered P env clean a f in
    record {
      place = another b.place;
      which = ap (λ j. under j) b.which;
      same = ap (λ (x : ChoiceCells more). (low p, x)) b.same;
      fits = b.fits;
      shows = b.shows;
    }
