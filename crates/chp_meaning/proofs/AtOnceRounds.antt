-- A round is one change, in which each active statement does what how things stand at the round's start makes it do.
use Rattle.std.proofs.Common.{◌≡◌, ◌≢◌, ◌⊎◌, ℕ, suc, ◌+◌, Bool, true, false, List, [], ◌∷◌, ◌++◌, length, get_or, map, replicate, refl, sym, ap, ◌∙◌, subst, inl, inr, arith}
use Rattle.std.specs.Prelude.{◌==◌, if◌then◌else◌, cond, filter, fold, is_some, option_to_list, slice_index, slice_index_or, slice_set, Option, Some, None}
use Rattle.std.proofs.lemmas.List.{length-replicate}
use Rattle.chp_base.specs.declared.span.Span.{Span}
use Rattle.env_script.specs.Scripts.{OfferValue, gives, takes, nothing, offer_at, is_over}
use Rattle.width_check.specs.Processes.{Formula, Process, skipping, assigning, sending, receiving, in_turn, side_by_side, choosing, repeating, no_members, and_member, Choices, no_choices, and_choice}
use Rattle.width_check.specs.Values.{value}
use Rattle.width_check.specs.Sharing.{reads_var, writes_var, receives_on, done_at}
use Rattle.chp_meaning.specs.declared.effect.Move.{Move}
use Rattle.chp_meaning.specs.declared.effect.TrueGuards.{TrueGuards}
use Rattle.chp_meaning.specs.declared.effect.TrueGuards.TheVariants.{Zero, One, Several as Many}
use Rattle.chp_meaning.specs.Terms.{Term, Terms, finished, active, in_sequence, in_parallel, no_branches, and_branch, opened, followed, is_finished, Place, in_first, in_branch, statement_at, branch_at, with_left, places, branch_places}
use Rattle.chp_meaning.specs.Steps.{Configuration, value_in, open_branches, Step, a_skip, an_assignment, a_selection, a_turn, an_end, a_repetition, a_communication, a_delivery, an_arrival}
use Rattle.chp_meaning.specs.Rounds.{is_enabled, enabled_places, taken, round}
use Rattle.chp_meaning.specs.Remaining.{term_of, branch_of, IsRunnable}
use Rattle.chp_meaning.specs.AtOnce.{Outset, plain_move, sent_move, meeting_move, next_of, received_move, ending_move, offers_inside, is_met, true_guards, guards_counted, choosing_move, move_of, chosen_remains, ended, moves_of, noted_send, noted_receive, written_in, written, less, used_on, used, passed_on, passed}
use Rattle.chp_meaning.proofs.Places.{In, in_left, in_right, in_either, Distinct, same_place}
use Rattle.chp_meaning.proofs.Fitting.{Fits, places_apart}
use Rattle.chp_meaning.proofs.Moves.{Entry, entry, Deal, leave, written as deal_written, put, appended, dealt, deal, Port, sends, receives, Part as Takes, part_stands, parts_apart, stands, own_apart, Kept, again, left_stays, unwritten, unoffered, writer, ports_apart, offer_port}
use Rattle.chp_meaning.proofs.Meeting.{found, step_fits}
use Rattle.chp_meaning.proofs.RoundRuns.{Can, taken_is, can_each, each_listed, listed_once}
use Rattle.chp_meaning.proofs.Leaving.{Part, part, leave_all, Stand, Other, Single, at_or, or_else, Lively, all_left, left_at_once, Says}
use Rattle.chp_meaning.proofs.Remainders.{actives, branch_actives, Runs, left_of, Begins, begins, begun_goes}
use Rattle.chp_meaning.proofs.Rows.{part_runnable}
use Rattle.chp_meaning.proofs.Planning.{one_below}
use Rattle.chp_meaning.proofs.Tables.{active_in, active_at, receive_noted, noted_receives, send_noted, noted_sends, none_there}

abbrev pub outset_for : Configuration → Outset
outset_for c = record {
  store = c.store;
  rests = c.rests;
  sends = fold (noted_send true) (replicate (length c.rests) false) (actives c.term);
  receives =
      fold (noted_receive true) (replicate (length c.rests) None) (actives c.term);
}

-- each active statement has what its run asks for
abbrev pub AllRun : Configuration → ℕ → Type 0
AllRun c m = (q : Process) → In (actives c.term) q → Runs (length c.rests) m q

runs_at : (c : Configuration) (m : ℕ) → AllRun c m → (a : Place) (q : Process) → statement_at c.term a ≡ Some q → Runs (length c.rests) m q
runs_at c m run a q h = run q (active_in c.term a q h)

-- the tables

one_receiving : (c : Configuration) (w v : Place) (k x y : ℕ) (s u s' u' : Span) → Fits c.term → statement_at c.term w ≡ Some (receiving k s x u) →
    statement_at c.term v ≡ Some (receiving k s' y u') → (w ≡ v) × (y ≡ x)
one_receiving c w v k x y s u s' u' f g h = by_place (same_place w v)
  where
    by_place : (w ≡ v) ⊎ (w ≢ v) → (w ≡ v) × (y ≡ x)
    by_place (inr ne) = absurd (places_apart c.term w v (receiving k s x u) (receiving k s' y u') f ne g h (done_at (receives_on k) s)
        (done_at (receives_on k) s') (inl refl) (inl refl) refl)
    by_place (inl e) =
        let same : Some (receiving k s x u) ≡ Some (receiving k s' y u') = sym g ∙ (ap (λ p. statement_at c.term p) e ∙ h) in
        (e, cc same)

receive_waits : (c : Configuration) (m : ℕ) → Fits c.term → AllRun c m → (w : Place) (k x : ℕ) (s u : Span) → statement_at c.term w ≡ Some (receiving k s x u) →
    slice_index_or (outset_for c).receives k None ≡ Some x
receive_waits c m f run w k x s u h =
    let r = runs_at c m run w (receiving k s x u) h in
    let none : Option ℕ = None in
    receive_noted (actives c.term) (replicate (length c.rests) None) k x (omega (arith, r.0.0, length-replicate (length c.rests) none))
    (λ s' u' y i. let v = active_at c.term (receiving k s' y u') i in (one_receiving c w v.0 k x y s u s' u' f h v.1).1)
    (inr (s, u, active_in c.term w (receiving k s x u) h))

waits_receive : (c : Configuration) (k x : ℕ) → slice_index_or (outset_for c).receives k None ≡ Some x →
    (w : Place) × (s : Span) × (u : Span) × (statement_at c.term w ≡ Some (receiving k s x u))
waits_receive c k x e = by_case (noted_receives (actives c.term) (replicate (length c.rests) None) k x e)
  where
    by_case : (get_or (replicate (length c.rests) None) k None ≡ Some x) ⊎ ((s : Span) × (u : Span) × In (actives c.term) (receiving k s x u)) →
        (w : Place) × (s : Span) × (u : Span) × (statement_at c.term w ≡ Some (receiving k s x u))
    by_case (inl g) = absurd (cc (sym (none_there (length c.rests) k None) ∙ g))
    by_case (inr (s, u, i)) = let v = active_at c.term (receiving k s x u) i in (v.0, s, u, v.1)

send_waits : (c : Configuration) (m : ℕ) → AllRun c m → (w : Place) (k : ℕ) (s : Span) (e : Formula) → statement_at c.term w ≡ Some (sending k s e) →
    slice_index_or (outset_for c).sends k false ≡ true
send_waits c m run w k s e h =
    let r = runs_at c m run w (sending k s e) h in
    send_noted true (actives c.term) (replicate (length c.rests) false) k (omega (arith, r.0.0, length-replicate (length c.rests) false))
    (inr (s, e, active_in c.term w (sending k s e) h))

waits_send : (c : Configuration) (k : ℕ) → slice_index_or (outset_for c).sends k false ≡ true → (w : Place) × (s : Span) × (e : Formula)
    × (statement_at c.term w ≡ Some (sending k s e))
waits_send c k e = by_case (noted_sends (actives c.term) (replicate (length c.rests) false) k e)
  where
    by_case : (get_or (replicate (length c.rests) false) k false ≡ true) ⊎ ((s : Span) × (d : Formula) × In (actives c.term) (sending k s d)) →
        (w : Place) × (s : Span) × (d : Formula) × (statement_at c.term w ≡ Some (sending k s d))
    by_case (inl g) = absurd (cc (sym (none_there (length c.rests) k false) ∙ g))
    by_case (inr (s, d, i)) = let v = active_at c.term (sending k s d) i in (v.0, s, d, v.1)

-- guards by number, and branches

shifted : (j : ℕ) (ks : List ℕ) → map (λ k. j + k) (map suc ks) ≡ map (λ k. (j + 1) + k) ks
shifted j [] = refl
shifted j (k ∷ ks) = let e : j + suc k ≡ (j + 1) + k = omega arith in ap (λ x. x ∷ map (λ i. j + i) (map suc ks)) e
    ∙ ap (λ xs. ((j + 1) + k) ∷ xs) (shifted j ks)

later_branches : (g : Formula) (p : Process) (more : Choices) (ks : List ℕ) → map (branch_of (and_choice g p more)) (map suc ks) ≡ map (branch_of more) ks
later_branches g p more [] = refl
later_branches g p more (k ∷ ks) = ap (λ xs. branch_of more k ∷ xs) (later_branches g p more ks)

abbrev Numbered : Configuration → ℕ → Choices → Type 0
Numbered c j cs = (ks : List ℕ) × (true_guards c.store j cs ≡ map (λ k. j + k) ks) × (open_branches c cs ≡ map (branch_of cs) ks)

guards_numbered : (c : Configuration) (j : ℕ) (cs : Choices) → Numbered c j cs
guards_numbered c j no_choices = ([], refl, refl)
guards_numbered c j (and_choice g p more) = by_test (value (slice_index c.store) g == 1) (guards_numbered c (j + 1) more)
  where
    by_test : (b : Bool) → Numbered c (j + 1) more
        → (ks : List ℕ) × ((if b then j ∷ true_guards c.store (j + 1) more else true_guards c.store (j + 1) more) ≡ map (λ k. j + k) ks)
        × ((if b then p ∷ open_branches c more else open_branches c more) ≡ map (branch_of (and_choice g p more)) ks)
    by_test true (ks, e, f) =
        let z : j ≡ j + 0 = omega arith in (
          0 ∷ map suc ks,
          ap (λ x. x ∷ true_guards c.store (j + 1) more) z ∙ ap (λ xs. (j + 0) ∷ xs) (e ∙ sym (shifted j ks)),
          ap (λ ps. p ∷ ps) (f ∙ sym (later_branches g p more ks)),
        )
    by_test false (ks, e, f) = (map suc ks, e ∙ sym (shifted j ks), f ∙ sym (later_branches g p more ks))

plain_numbers : (ks : List ℕ) → map (λ k. 0 + k) ks ≡ ks
plain_numbers [] = refl
plain_numbers (k ∷ ks) = let e : 0 + k ≡ k = omega arith in ap (λ x. x ∷ map (λ i. 0 + i) ks) e ∙ ap (λ xs. k ∷ xs) (plain_numbers ks)

from_start : (c : Configuration) (cs : Choices) → (ks : List ℕ) × (true_guards c.store 0 cs ≡ ks) × (open_branches c cs ≡ map (branch_of cs) ks)
from_start c cs = let r = guards_numbered c 0 cs in (r.0, r.1 ∙ plain_numbers r.0, r.2)

one_open : (c : Configuration) (cs : Choices) (p : Process) → open_branches c cs ≡ p ∷ [] → (k : ℕ) × (guards_counted (true_guards c.store 0 cs) ≡ One k)
    × (branch_of cs k ≡ p)
one_open c cs p e = let r = from_start c cs in by_list r.0 r.1 (sym r.2 ∙ e)
  where
    by_list : (ks : List ℕ) → true_guards c.store 0 cs ≡ ks → map (branch_of cs) ks ≡ p ∷ [] → (k : ℕ) × (guards_counted (true_guards c.store 0 cs) ≡ One k)
        × (branch_of cs k ≡ p)
    by_list [] g h = absurd (cc h)
    by_list (k ∷ []) g h = (k, ap guards_counted g, cc h)
    by_list (k ∷ j ∷ ks) g h = absurd (cc h)

none_open : (c : Configuration) (cs : Choices) → open_branches c cs ≡ [] → guards_counted (true_guards c.store 0 cs) ≡ Zero
none_open c cs e = let r = from_start c cs in by_list r.0 r.1 (sym r.2 ∙ e)
  where
    by_list : (ks : List ℕ) → true_guards c.store 0 cs ≡ ks → map (branch_of cs) ks ≡ [] → guards_counted (true_guards c.store 0 cs) ≡ Zero
    by_list [] g h = ap guards_counted g
    by_list (k ∷ ks) g h = absurd (cc h)

open_one : (c : Configuration) (cs : Choices) (k : ℕ) → guards_counted (true_guards c.store 0 cs) ≡ One k → (p : Process) × (open_branches c cs ≡ p ∷ [])
open_one c cs k e = let r = from_start c cs in by_list r.0 r.2 (sym (ap guards_counted r.1) ∙ e)
  where
    by_list : (ks : List ℕ) → open_branches c cs ≡ map (branch_of cs) ks → guards_counted ks ≡ One k → (p : Process) × (open_branches c cs ≡ p ∷ [])
    by_list [] g h = absurd (cc h)
    by_list (j ∷ []) g h = (branch_of cs j, g)
    by_list (j ∷ i ∷ ks) g h = absurd (cc h)

open_none : (c : Configuration) (cs : Choices) → guards_counted (true_guards c.store 0 cs) ≡ Zero → open_branches c cs ≡ []
open_none c cs e = let r = from_start c cs in by_list r.0 r.2 (sym (ap guards_counted r.1) ∙ e)
  where
    by_list : (ks : List ℕ) → open_branches c cs ≡ map (branch_of cs) ks → guards_counted ks ≡ Zero → open_branches c cs ≡ []
    by_list [] g h = g
    by_list (j ∷ []) g h = absurd (cc h)
    by_list (j ∷ i ∷ ks) g h = absurd (cc h)

-- what a step changes is its statement's move

abbrev pair_of : Option (Entry ℕ) → Option (ℕ × ℕ)
pair_of None = None
pair_of (Some (entry k v)) = Some (k, v)

abbrev number_of : Option (Entry OfferValue) → Option ℕ
number_of None = None
number_of (Some (entry k o)) = Some k

abbrev pub move_from : Deal → Move
move_from x = record { write = pair_of x.write; uses = number_of x.offer; pass = pair_of x.pass }

one_move : (again : Bool) (g : TrueGuards) (k : ℕ) → g ≡ One k → choosing_move again g ≡ Some plain_move
one_move again g k e = ap (choosing_move again) e ∙ by_again again
  where
    by_again : (b : Bool) → choosing_move b (One k) ≡ Some plain_move
    by_again true = refl
    by_again false = refl

pub step_move : {c d : Configuration} {a : Place} (m : ℕ) → Fits c.term → AllRun c m → (s : Step c a d) (q : Process) → statement_at c.term a ≡ Some q →
    move_of (outset_for c) q ≡ Some (move_from (deal s))
step_move {c = c} m f run (a_skip on) q h = let e : skipping ≡ q = cc (on, h) in subst (λ p. move_of (outset_for c) p ≡ Some plain_move) e refl
step_move {c = c} m f run (an_assignment {x = x} {s = s} {e = i} on) q h =
    let e : assigning x s i ≡ q = cc (on, h) in
    subst (λ p. move_of (outset_for c) p ≡ Some (record { write = Some (x, value_in c i); uses = None; pass = None })) e refl
step_move {c = c} m f run (a_selection {choices = cs} {p = p} on true_ones) q h =
    let e : choosing false cs ≡ q = cc (on, h) in
    let o = one_open c cs p true_ones in
    subst (λ r. move_of (outset_for c) r ≡ Some plain_move) e (one_move false (guards_counted (true_guards c.store 0 cs)) o.0 o.1)
step_move {c = c} m f run (a_turn {choices = cs} {p = p} on true_ones) q h =
    let e : choosing true cs ≡ q = cc (on, h) in
    let o = one_open c cs p true_ones in
    subst (λ r. move_of (outset_for c) r ≡ Some plain_move) e (one_move true (guards_counted (true_guards c.store 0 cs)) o.0 o.1)
step_move {c = c} m f run (an_end {choices = cs} on true_ones) q h =
    let e : choosing true cs ≡ q = cc (on, h) in
    subst (λ r. move_of (outset_for c) r ≡ Some plain_move) e (ap (choosing_move true) (none_open c cs true_ones))
step_move {c = c} m f run (a_repetition {p = p} on) q h = let e : repeating p ≡ q = cc (on, h) in subst (λ r. move_of (outset_for c) r ≡ Some plain_move) e refl
step_move {c = c} m f run (a_communication other {k = k} {x = x} {s = s} {t = t} {u = u} {e = i} on there inside) q h =
    let e : sending k s i ≡ q = cc (on, h) in
    let v = value_in c i in
    subst (λ r. move_of (outset_for c) r ≡ Some (record { write = Some (x, v); uses = None; pass = Some (k, v) })) e
    (ap (sent_move (outset_for c) k v) inside ∙ ap (meeting_move k v) (receive_waits c m f run other k x t u there))
step_move {c = c} m f run (a_delivery {k = k} {s = s} {e = i} {count = count} on offered more) q h =
    let e : sending k s i ≡ q = cc (on, h) in
    let v = value_in c i in
    subst (λ r. move_of (outset_for c) r ≡ Some (record { write = None; uses = Some k; pass = Some (k, v) })) e
    (ap (sent_move (outset_for c) k v) offered ∙ ap (λ b. if b then Some (record { write = None; uses = Some k; pass = Some (k, v) }) else None) more)
step_move {c = c} m f run (an_arrival {k = k} {x = x} {v = v} {s = s} {t = t} on offered) q h =
    let e : receiving k s x t ≡ q = cc (on, h) in
    subst (λ r. move_of (outset_for c) r ≡ Some (record { write = Some (x, v); uses = Some k; pass = Some (k, v) })) e
    (ap (λ o. received_move k x (next_of o)) offered)

-- what a step leaves is what is left of its statement

in_order : (t : Term) (p : Process) → is_finished t ≡ false → followed t (and_member p no_members) ≡ in_sequence t (and_member p no_members)
in_order finished p h = absurd (cc h)
in_order (active r) p h = refl
in_order (in_sequence t ms) p h = refl
in_order (in_parallel ts) p h = refl

ends_finished : (q : Process) (x : Option Move) (m : Move) (met : Bool) → x ≡ Some m → term_of q (ended x met) ≡ finished
ends_finished q x m met e = ap (λ y. term_of q (ended y met)) e

-- a branch, begun
branch_begins : (n m : ℕ) (again : Bool) (cs : Choices) (store : List ℕ) (k : ℕ) → IsRunnable n m (choosing again cs) →
    guards_counted (true_guards store 0 cs) ≡ One k
    → Begins (branch_of cs k)
branch_begins n m again cs store k r e = begins n m (branch_of cs k) (part_runnable n m (choosing again cs) k (one_below store cs k (sym e)) r)

step_left : {c d : Configuration} {a : Place} (m : ℕ) → Fits c.term → AllRun c m → (s : Step c a d) (q : Process) → statement_at c.term a ≡ Some q →
    left_of (outset_for c) q ≡ (deal s).left
step_left {c = c} m f run (a_skip on) q h = let e : skipping ≡ q = cc (on, h) in subst (λ p. left_of (outset_for c) p ≡ finished) e refl
step_left {c = c} m f run (an_assignment {x = x} {s = s} {e = i} on) q h = let e : assigning x s i ≡ q = cc (on, h) in
    subst (λ p. left_of (outset_for c) p ≡ finished) e refl
step_left {c = c} {a = a} m f run (a_selection {choices = cs} {p = p} on true_ones) q h =
    let e : choosing false cs ≡ q = cc (on, h) in
    let o = one_open c cs p true_ones in
    let b = branch_begins (length c.rests) m false cs c.store o.0 (runs_at c m run a (choosing false cs) on).0 o.1 in
    subst (λ r. left_of (outset_for c) r ≡ opened p) e
    (ap (λ g. term_of (choosing false cs) (chosen_remains (choosing false cs) false g)) o.1 ∙ (b.term ∙ ap opened o.2))
step_left {c = c} {a = a} m f run (a_turn {choices = cs} {p = p} on true_ones) q h =
    let e : choosing true cs ≡ q = cc (on, h) in
    let o = one_open c cs p true_ones in
    let b = branch_begins (length c.rests) m true cs c.store o.0 (runs_at c m run a (choosing true cs) on).0 o.1 in
    subst (λ r. left_of (outset_for c) r ≡ followed (opened p) (and_member (choosing true cs) no_members)) e
    (ap (λ g. term_of (choosing true cs) (chosen_remains (choosing true cs) true g)) o.1
    ∙ (ap (λ t. in_sequence t (and_member (choosing true cs) no_members)) b.term
    ∙ (sym (in_order (opened (branch_of cs o.0)) (choosing true cs) (begun_goes (branch_of cs o.0) b))
    ∙ ap (λ r. followed (opened r) (and_member (choosing true cs) no_members)) o.2)))
step_left {c = c} m f run (an_end {choices = cs} on true_ones) q h =
    let e : choosing true cs ≡ q = cc (on, h) in
    subst (λ r. left_of (outset_for c) r ≡ finished) e (ap (λ g. term_of (choosing true cs) (chosen_remains (choosing true cs) true g))
    (none_open c cs true_ones))
step_left {c = c} {a = a} m f run (a_repetition {p = p} on) q h =
    let e : repeating p ≡ q = cc (on, h) in
    let b = begins (length c.rests) m p (runs_at c m run a (repeating p) on).0 in
    subst (λ r. left_of (outset_for c) r ≡ followed (opened p) (and_member (repeating p) no_members)) e
    (ap (λ t. in_sequence t (and_member (repeating p) no_members)) b.term ∙ sym (in_order (opened p) (repeating p) (begun_goes p b)))
step_left {c = c} m f run (a_communication {at = a} other {k = k} {s = s} {e = i} on there inside) q h =
    let e : sending k s i ≡ q = cc (on, h) in
    subst (λ r. left_of (outset_for c) r ≡ finished) e (ends_finished (sending k s i) (ending_move (outset_for c) (sending k s i)) _ false
    (step_move m f run (a_communication {c = c} other on there inside) (sending k s i) on))
step_left {c = c} m f run (a_delivery {k = k} {s = s} {e = i} on offered more) q h =
    let e : sending k s i ≡ q = cc (on, h) in
    subst (λ r. left_of (outset_for c) r ≡ finished) e (ends_finished (sending k s i) (ending_move (outset_for c) (sending k s i)) _ false
    (step_move m f run (a_delivery {c = c} on offered more) (sending k s i) on))
step_left {c = c} m f run (an_arrival {k = k} {x = x} {s = s} {t = t} on offered) q h =
    let e : receiving k s x t ≡ q = cc (on, h) in
    subst (λ r. left_of (outset_for c) r ≡ finished) e (ends_finished (receiving k s x t) (ending_move (outset_for c) (receiving k s x t)) _
    (is_met (outset_for c) (receiving k s x t)) (step_move m f run (an_arrival {c = c} on offered) (receiving k s x t) on))

-- where a statement has a move there is a step

sent_can : (c : Configuration) (a : Place) (k : ℕ) (s : Span) (e : Formula) (m : Move) → statement_at c.term a ≡ Some (sending k s e) → (o : OfferValue) →
    offer_at c.rests k ≡ o → sent_move (outset_for c) k (value_in c e) o ≡ Some m → Can c a
sent_can c a k s e m h (gives vs) offered is = absurd (cc is)
sent_can c a k s e m h (takes count) offered is = by_count (is_over count 0) refl is
  where
    by_count : (b : Bool) → is_over count 0 ≡ b → (if b then Some (record { write = None; uses = Some k; pass = Some (k, value_in c e) }) else None) ≡ Some m →
        Can c a
    by_count true more g = (_, a_delivery h offered more)
    by_count false more g = absurd (cc g)
sent_can c a k s e m h nothing offered is = by_receive (slice_index_or (outset_for c).receives k None) refl is
  where
    by_receive : (x : Option ℕ) → slice_index_or (outset_for c).receives k None ≡ x → meeting_move k (value_in c e) x ≡ Some m → Can c a
    by_receive None g i = absurd (cc i)
    by_receive (Some x) g i = let w = waits_receive c k x g in (_, a_communication w.0 h w.3 offered)

received_can : (c : Configuration) (a : Place) (k x : ℕ) (s t : Span) (m : Move) → statement_at c.term a ≡ Some (receiving k s x t) → (o : OfferValue) →
    offer_at c.rests k ≡ o → received_move k x (next_of o) ≡ Some m → Can c a
received_can c a k x s t m h (gives []) offered is = absurd (cc is)
received_can c a k x s t m h (gives (v ∷ more)) offered is = (_, an_arrival h offered)
received_can c a k x s t m h (takes count) offered is = absurd (cc is)
received_can c a k x s t m h nothing offered is = absurd (cc is)

chosen_can : (c : Configuration) (a : Place) (again : Bool) (cs : Choices) (m : Move) → statement_at c.term a ≡ Some (choosing again cs) → (g : TrueGuards) →
    guards_counted (true_guards c.store 0 cs) ≡ g → choosing_move again g ≡ Some m → Can c a
chosen_can c a true cs m h Zero e is = (_, an_end h (open_none c cs e))
chosen_can c a false cs m h Zero e is = absurd (cc is)
chosen_can c a true cs m h (One k) e is = let o = open_one c cs k e in (_, a_turn h o.1)
chosen_can c a false cs m h (One k) e is = let o = open_one c cs k e in (_, a_selection h o.1)
chosen_can c a true cs m h Many e is = absurd (cc is)
chosen_can c a false cs m h Many e is = absurd (cc is)

pub move_can : (c : Configuration) (a : Place) (q : Process) (m : Move) → statement_at c.term a ≡ Some q → move_of (outset_for c) q ≡ Some m → Can c a
move_can c a skipping m h is = (_, a_skip h)
move_can c a (assigning x s e) m h is = (_, an_assignment h)
move_can c a (sending k s e) m h is = sent_can c a k s e m h (offer_at c.rests k) refl is
move_can c a (receiving k s x t) m h is = received_can c a k x s t m h (offer_at c.rests k) refl is
move_can c a (in_turn ms) m h is = absurd (cc is)
move_can c a (side_by_side ms) m h is = absurd (cc is)
move_can c a (choosing again cs) m h is = chosen_can c a again cs m h (guards_counted (true_guards c.store 0 cs)) refl is
move_can c a (repeating p) m h is = (_, a_repetition h)

-- the other end of a communication

is_nothing : (o : OfferValue) → offers_inside o ≡ true → o ≡ nothing
is_nothing (gives vs) e = absurd (cc e)
is_nothing (takes count) e = absurd (cc e)
is_nothing nothing e = refl

met_by : (c : Configuration) (k x : ℕ) (s t : Span) → is_met (outset_for c) (receiving k s x t) ≡ true → (offer_at c.rests k ≡ nothing) × (w : Place)
    × (u : Span) × (e : Formula) × (statement_at c.term w ≡ Some (sending k u e))
met_by c k x s t h = by_offer (offers_inside (offer_at c.rests k)) refl h
  where
    by_offer : (b : Bool) → offers_inside (offer_at c.rests k) ≡ b → (if b then slice_index_or (outset_for c).sends k false else false) ≡ true →
        (offer_at c.rests k ≡ nothing) × (w : Place) × (u : Span) × (e : Formula) × (statement_at c.term w ≡ Some (sending k u e))
    by_offer true g i = let v = waits_send c k i in (is_nothing (offer_at c.rests k) g, v.0, v.1, v.2, v.3)
    by_offer false g i = absurd (cc i)

other_left : {c d : Configuration} {b : Place} (m : ℕ) → AllRun c m → (s : Step c b d) (o : Place) (q : Process) → (deal s).other ≡ Some o →
    statement_at c.term o ≡ Some q → left_of (outset_for c) q ≡ finished
other_left {c = c} m run (a_communication {at = b} other {k = k} {x = x} {s = s} {t = t} {u = u} {e = i} on there inside) o q h g =
    let place : other ≡ o = cc h in
    let e : receiving k t x u ≡ q = cc (there, g, place) in
    let none : ending_move (outset_for c) (receiving k t x u) ≡ None = ap (λ v. received_move k x (next_of v)) inside in
    let met : is_met (outset_for c) (receiving k t x u) ≡ true = ap (λ v. if offers_inside v then slice_index_or (outset_for c).sends k false else false) inside
    ∙ send_waits c m run b k s i on in
    subst (λ r. left_of (outset_for c) r ≡ finished) e (ap (λ y. term_of (receiving k t x u) (ended y (is_met (outset_for c) (receiving k t x u)))) none
    ∙ ap (λ y. term_of (receiving k t x u) (ended None y)) met)
other_left m run _ o q h g = absurd (cc h)

other_is : {c d : Configuration} {b : Place} (m : ℕ) → Fits c.term → (s : Step c b d) (a : Place) (k x : ℕ) (t u v : Span) (e : Formula) →
    statement_at c.term b ≡ Some (sending k t e) → offer_at c.rests k ≡ nothing → statement_at c.term a ≡ Some (receiving k u x v) → (deal s).other ≡ Some a
other_is m f (a_skip on) a k x t u v e h inside g = absurd (cc (on, h))
other_is m f (an_assignment on) a k x t u v e h inside g = absurd (cc (on, h))
other_is m f (a_selection on true_ones) a k x t u v e h inside g = absurd (cc (on, h))
other_is m f (a_turn on true_ones) a k x t u v e h inside g = absurd (cc (on, h))
other_is m f (an_end on true_ones) a k x t u v e h inside g = absurd (cc (on, h))
other_is m f (a_repetition on) a k x t u v e h inside g = absurd (cc (on, h))
other_is m f (an_arrival on offered) a k x t u v e h inside g = absurd (cc (on, h))
other_is {c = c} m f (a_delivery {k = l} {count = count} on offered more) a k x t u v e h inside g =
    let same : l ≡ k = cc (on, h) in
    absurd (cc (subst (λ n. offer_at c.rests n ≡ takes count) same offered, inside))
other_is {c = c} m f (a_communication other {k = l} {x = y} {t = t'} {u = u'} on there inside') a k x t u v e h inside g =
    let same : l ≡ k = cc (on, h) in
    ap Some (one_receiving c other a k y x t' u' u v f (subst (λ n. statement_at c.term other ≡ Some (receiving n t' y u')) same there) g).0

-- steps at several places

data StepsAt (c : Configuration) : List Place → Type 0 where
  no_steps : StepsAt c []
  and_step : {a : Place} {d : Configuration} {ps : List Place} → Step c a d → StepsAt c ps → StepsAt c (a ∷ ps)

steps_for : (c : Configuration) (ps : List Place) → ((q : Place) → In ps q → Can c q) → StepsAt c ps
steps_for c [] each = no_steps
steps_for c (p ∷ ps) each = and_step (each p (inl refl)).1 (steps_for c ps (λ q i. each q (inr i)))

abbrev AllKept : {c : Configuration} {ps : List Place} → StepsAt c ps → Configuration → Type 0
AllKept no_steps e = Unit {0}
AllKept (and_step s ss) e = Kept s e × AllKept ss e

abbrev dealt_all : {c : Configuration} {ps : List Place} → StepsAt c ps → Configuration → Configuration
dealt_all no_steps e = e
dealt_all (and_step {a = a} s ss) e = dealt_all ss (dealt e a (deal s))

abbrev moves_in : {c : Configuration} {ps : List Place} → StepsAt c ps → List Move
moves_in no_steps = []
moves_in (and_step s ss) = move_from (deal s) ∷ moves_in ss

abbrev other_parts : Option Place → List Part
other_parts None = []
other_parts (Some o) = part o finished ∷ []

abbrev parts_in : {c : Configuration} {ps : List Place} → StepsAt c ps → List Part
parts_in no_steps = []
parts_in (and_step {a = a} s ss) = part a (deal s).left ∷ (other_parts (deal s).other ++ parts_in ss)

kept_self : {c d : Configuration} {a : Place} (s : Step c a d) → Kept s c
kept_self s = record { stays = λ w p i h. h; agrees = λ p h x t i. refl; offers = λ k port. refl }

all_kept_self : {c : Configuration} {ps : List Place} (ss : StepsAt c ps) → AllKept ss c
all_kept_self no_steps = tt
all_kept_self (and_step s ss) = (kept_self s, all_kept_self ss)

kept_on : {c d e : Configuration} {a b : Place} (s : Step c a d) (u : Step c b e) → Fits c.term → a ≢ b → (g : Configuration) → Kept u g →
    Kept u (dealt g a (deal s))
kept_on {c = c} {a = a} {b = b} s u f ne g kept = record {
  stays = λ w p takes_part h. left_stays g.term a (deal s).left (deal s).other w p (parts_apart s u f ne a w (inl refl) takes_part)
      (λ o e. parts_apart s u f ne o w (inr e) takes_part) (kept.stays w p takes_part h);
  agrees = λ q h x t i. unwritten g.store (deal s).write x (λ v e.
      let r = writer s x v e in
      places_apart c.term r.place b r.process q f (parts_apart s u f ne r.place b r.part (inl refl)) r.is h (done_at (writes_var x) r.var_at)
      (done_at (reads_var x) t) r.writes i refl) ∙ kept.agrees q h x t i;
  offers = λ k port. unoffered g.rests (deal s).offer k (λ v e. ports_apart c a b k f ne (offer_port s k v e) port) ∙ kept.offers k port;
}

all_kept_on : {c d : Configuration} {a : Place} {ps : List Place} (s : Step c a d) (ss : StepsAt c ps) → Fits c.term → ((y : Place) → In ps y → a ≢ y) →
    (g : Configuration) → AllKept ss g → AllKept ss (dealt g a (deal s))
all_kept_on s no_steps f ne g kept = tt
all_kept_on s (and_step {a = b} u us) f ne g kept = (kept_on s u f (ne b (inl refl)) g kept.0, all_kept_on s us f (λ y i. ne y (inr i)) g kept.1)

taken_dealt : {c : Configuration} {ps : List Place} (ss : StepsAt c ps) → Fits c.term → Distinct ps → (e : Configuration) → Fits e.term → AllKept ss e →
    fold taken e ps ≡ dealt_all ss e
taken_dealt no_steps f distinct e fits kept = refl
taken_dealt (and_step {a = a} {ps = ps} s ss) f distinct e fits kept =
    let next = again s e kept.0 in
    ap (λ x. fold taken x ps) (taken_is fits next)
    ∙ taken_dealt ss f distinct.1 (dealt e a (deal s)) (step_fits fits next) (all_kept_on s ss f distinct.0 e kept.1)

-- part by part

one_written : (store : List ℕ) (w : Option (Entry ℕ)) → deal_written store w ≡ written_in store (pair_of w)
one_written store None = refl
one_written store (Some (entry x v)) = refl

one_passed : (histories : List (List ℕ)) (w : Option (Entry ℕ)) → appended histories w ≡ passed_on histories (pair_of w)
one_passed histories None = refl
one_passed histories (Some (entry k v)) = refl

one_used : {c d : Configuration} {a : Place} (s : Step c a d) (rests : List OfferValue) → ((k : ℕ) → Port c a k → offer_at rests k ≡ offer_at c.rests k) →
    put rests (deal s).offer ≡ used_on rests (number_of (deal s).offer)
one_used {c = c} (a_delivery {k = k} {count = count} on offered more) rests same =
    ap (λ o. slice_set rests k o) (sym (ap less (same k (sends on (λ vs g. absurd (cc (offered, g)))) ∙ offered)))
one_used {c = c} (an_arrival {k = k} on offered) rests same =
    ap (λ o. slice_set rests k o) (sym (ap less (same k (receives on offered) ∙ offered)))
one_used _ rests same = refl

store_all : {c : Configuration} {ps : List Place} (ss : StepsAt c ps) (e : Configuration) → (dealt_all ss e).store ≡ fold written e.store (moves_in ss)
store_all no_steps e = refl
store_all (and_step {a = a} s ss) e = store_all ss (dealt e a (deal s)) ∙ ap (λ x. fold written x (moves_in ss)) (one_written e.store (deal s).write)

histories_all : {c : Configuration} {ps : List Place} (ss : StepsAt c ps) (e : Configuration) →
    (dealt_all ss e).histories ≡ fold passed e.histories (moves_in ss)
histories_all no_steps e = refl
histories_all (and_step {a = a} s ss) e = histories_all ss (dealt e a (deal s)) ∙ ap (λ x. fold passed x (moves_in ss)) (one_passed e.histories (deal s).pass)

rests_all : {c : Configuration} {ps : List Place} (ss : StepsAt c ps) → Fits c.term → Distinct ps → (e : Configuration) → AllKept ss e →
    (dealt_all ss e).rests ≡ fold used e.rests (moves_in ss)
rests_all no_steps f distinct e kept = refl
rests_all (and_step {a = a} s ss) f distinct e kept =
    rests_all ss f distinct.1 (dealt e a (deal s)) (all_kept_on s ss f distinct.0 e kept.1)
    ∙ ap (λ x. fold used x (moves_in ss)) (one_used s e.rests kept.0.offers)

leave_append : (t : Term) (xs ys : List Part) → leave_all t (xs ++ ys) ≡ leave_all (leave_all t xs) ys
leave_append t [] ys = refl
leave_append t (part a l ∷ xs) ys = leave_append (with_left t a l) xs ys

one_left : (t : Term) (a : Place) (l : Term) (o : Option Place) → leave t a l o ≡ leave_all (with_left t a l) (other_parts o)
one_left t a l None = refl
one_left t a l (Some o) = refl

term_all : {c : Configuration} {ps : List Place} (ss : StepsAt c ps) (e : Configuration) → (dealt_all ss e).term ≡ leave_all e.term (parts_in ss)
term_all no_steps e = refl
term_all (and_step {a = a} s ss) e =
    term_all ss (dealt e a (deal s))
    ∙ (ap (λ t. leave_all t (parts_in ss)) (one_left e.term a (deal s).left (deal s).other)
    ∙ sym (leave_append (with_left e.term a (deal s).left) (other_parts (deal s).other) (parts_in ss)))

-- the places at which something is left

stand_append : (t : Term) (xs ys : List Part) → Stand t xs → Stand t ys → Stand t (xs ++ ys)
stand_append t [] ys a b = b
stand_append t (part p l ∷ xs) ys a b = (a.0, stand_append t xs ys a.1 b)

other_stands : {c d : Configuration} {a : Place} (s : Step c a d) (o : Option Place) → (deal s).other ≡ o → Stand c.term (other_parts o)
other_stands s None e = tt
other_stands s (Some w) e = (part_stands s w (inr e), tt)

all_stand : {c : Configuration} {ps : List Place} (ss : StepsAt c ps) → Stand c.term (parts_in ss)
all_stand no_steps = tt
all_stand {c = c} (and_step s ss) = (
  stands s,
  stand_append c.term (other_parts (deal s).other) (parts_in ss) (other_stands s (deal s).other refl) (all_stand ss),
)

others_append : (w : Place) (xs ys : List Part) → Other w xs → Other w ys → Other w (xs ++ ys)
others_append w [] ys a b = b
others_append w (part p l ∷ xs) ys a b = (a.0, others_append w xs ys a.1 b)

apart_from : {c d e : Configuration} {a b : Place} (s : Step c a d) (u : Step c b e) → Fits c.term → a ≢ b → (w : Place) → Takes s w → (o : Option Place) →
    (deal u).other ≡ o → Other w (other_parts o)
apart_from s u f ne w takes_part None e = tt
apart_from s u f ne w takes_part (Some o) e = (parts_apart s u f ne w o takes_part (inr e), tt)

apart_from_all : {c d : Configuration} {a : Place} {ps : List Place} (s : Step c a d) (ss : StepsAt c ps) → Fits c.term → ((y : Place) → In ps y → a ≢ y) →
    (w : Place) → Takes s w → Other w (parts_in ss)
apart_from_all s no_steps f ne w takes_part = tt
apart_from_all s (and_step {a = b} u us) f ne w takes_part = (
  parts_apart s u f (ne b (inl refl)) w b takes_part (inl refl),
  others_append w (other_parts (deal u).other) (parts_in us) (apart_from s u f (ne b (inl refl)) w takes_part (deal u).other refl)
      (apart_from_all s us f (λ y i. ne y (inr i)) w takes_part),
)

own_other : {c d : Configuration} {a : Place} (s : Step c a d) (o : Option Place) → (deal s).other ≡ o → Other a (other_parts o)
own_other s None e = tt
own_other s (Some w) e = (own_apart s w e, tt)

other_single : {c d : Configuration} {a : Place} {ps : List Place} (s : Step c a d) (ss : StepsAt c ps) → Fits c.term → ((y : Place) → In ps y → a ≢ y) →
    (o : Option Place) → (deal s).other ≡ o → Single (parts_in ss) → Single (other_parts o ++ parts_in ss)
other_single s ss f ne None e rest = rest
other_single s ss f ne (Some w) e rest = (apart_from_all s ss f ne w (inr e), rest)

all_single : {c : Configuration} {ps : List Place} (ss : StepsAt c ps) → Fits c.term → Distinct ps → Single (parts_in ss)
all_single no_steps f distinct = tt
all_single (and_step {a = a} s ss) f distinct = (
  others_append a (other_parts (deal s).other) (parts_in ss) (own_other s (deal s).other refl) (apart_from_all s ss f distinct.0 a (inl refl)),
  other_single s ss f distinct.0 (deal s).other refl (all_single ss f distinct.1),
)

-- what is left at a place is what its statement says

abbrev Found : List Part → Place → Term → Type 0
Found xs a other = ((l : Term) × In xs (part a l) × (at_or xs a other ≡ l)) ⊎ (((l : Term) → ¬ In xs (part a l)) × (at_or xs a other ≡ other))

look_up : (xs : List Part) (a : Place) (other : Term) → Found xs a other
look_up [] a other = inr (λ l i. i, refl)
look_up (part b m ∷ xs) a other = by_place (same_place b a) (look_up xs a other)
  where
    by_place : (d : (b ≡ a) ⊎ (b ≢ a)) → Found xs a other →
        ((l : Term) × In (part b m ∷ xs) (part a l) × (or_else d m (at_or xs a other) ≡ l)) ⊎ (((l : Term) → ¬ In (part b m ∷ xs) (part a l))
        × (or_else d m (at_or xs a other) ≡ other))
    by_place (inl e) rest = inl (m, inl (ap (λ p. part p m) e), refl)
    by_place (inr n) (inl (l, i, e)) = inl (l, inr i, e)
    by_place (inr n) (inr (no_part, e)) = inr (λ l i. neither l i, e)
      where
        neither : (l : Term) → In (part b m ∷ xs) (part a l) → ⊥
        neither l (inl g) = n (cc g)
        neither l (inr i) = no_part l i

in_other : (o : Option Place) (a : Place) (l : Term) → In (other_parts o) (part a l) → (o ≡ Some a) × (finished ≡ l)
in_other None a l i = absurd i
in_other (Some w) a l (inl e) = (ap Some (place_is e), left_is e)
  where
    place_is : part w finished ≡ part a l → w ≡ a
    place_is g = cc g

    left_is : part w finished ≡ part a l → finished ≡ l
    left_is g = cc g
in_other (Some w) a l (inr i) = absurd i

part_says : {c : Configuration} {ps : List Place} (m : ℕ) → Fits c.term → AllRun c m → (ss : StepsAt c ps) (a : Place) (l : Term) (q : Process) →
    In (parts_in ss) (part a l) → statement_at c.term a ≡ Some q → left_of (outset_for c) q ≡ l
part_says m f run no_steps a l q i h = absurd i
part_says {c = c} m f run (and_step {a = b} s ss) a l q (inl e) h =
    let place : b ≡ a = cc e in
    let same : (deal s).left ≡ l = cc e in
    step_left m f run s q (ap (λ p. statement_at c.term p) place ∙ h) ∙ same
part_says {c = c} m f run (and_step {a = b} s ss) a l q (inr i) h =
    by_side (in_either (other_parts (deal s).other) (parts_in ss) (part a l) i) (λ j. part_says m f run ss a l q j h)
  where
    by_side : In (other_parts (deal s).other) (part a l) ⊎ In (parts_in ss) (part a l) → (In (parts_in ss) (part a l) → left_of (outset_for c) q ≡ l) →
        left_of (outset_for c) q ≡ l
    by_side (inl j) rest = let r = in_other (deal s).other a l j in other_left m run s a q r.0 h ∙ r.1
    by_side (inr j) rest = rest j

step_part : {c : Configuration} {ps : List Place} (ss : StepsAt c ps) (a : Place) → In ps a → (l : Term) × In (parts_in ss) (part a l)
step_part no_steps a i = absurd i
step_part (and_step {a = b} s ss) a (inl e) = ((deal s).left, inl (ap (λ p. part p (deal s).left) e))
step_part (and_step {a = b} s ss) a (inr i) = let r = step_part ss a i in (r.0, inr (in_right (other_parts (deal s).other) (parts_in ss) (part a r.0) r.1))

other_part : {c : Configuration} {ps : List Place} (ss : StepsAt c ps) (b a : Place) → In ps b →
    ((d : Configuration) (s : Step c b d) → (deal s).other ≡ Some a) → In (parts_in ss) (part a finished)
other_part no_steps b a i all = absurd i
other_part {c = c} (and_step {a = w} {d = d} s ss) b a (inl e) all =
    inr (in_left (other_parts (deal s).other) (parts_in ss) (part a finished)
    (subst (λ o. In (other_parts o) (part a finished)) (sym (at_place w s e)) (inl refl)))
  where
    at_place : (v : Place) (u : Step c v d) → v ≡ b → (deal u).other ≡ Some a
    at_place v u g = subst (λ (x : Place). (y : Step c x d) → (deal y).other ≡ Some a) (sym g) (λ y. all d y) u
other_part (and_step s ss) b a (inr i) all = inr (in_right (other_parts (deal s).other) (parts_in ss) (part a finished) (other_part ss b a i all))

-- an active statement at which nothing is left stays as it is

stays_ended : (q : Process) (x : Option Move) (met : Bool) → x ≡ None → (met ≡ true → ⊥) → term_of q (ended x met) ≡ active q
stays_ended q x true e unmet = absurd (unmet refl)
stays_ended q x false e unmet = ap (λ y. term_of q (ended y false)) e

stays_chosen : (again : Bool) (cs : Choices) (g : TrueGuards) → choosing_move again g ≡ None →
    term_of (choosing again cs) (chosen_remains (choosing again cs) again g) ≡ active (choosing again cs)
stays_chosen true cs Zero e = absurd (cc e)
stays_chosen false cs Zero e = refl
stays_chosen true cs (One k) e = absurd (cc e)
stays_chosen false cs (One k) e = absurd (cc e)
stays_chosen true cs Many e = refl
stays_chosen false cs Many e = refl

stays_whole : (o : Outset) (q : Process) → move_of o q ≡ None → (is_met o q ≡ true → ⊥) → left_of o q ≡ active q
stays_whole o skipping e unmet = absurd (cc e)
stays_whole o (assigning x s i) e unmet = absurd (cc e)
stays_whole o (sending k s i) e unmet = stays_ended (sending k s i) (ending_move o (sending k s i)) false e (λ h. absurd (cc h))
stays_whole o (receiving k s x t) e unmet = stays_ended (receiving k s x t) (ending_move o (receiving k s x t)) (is_met o (receiving k s x t)) e unmet
stays_whole o (in_turn ms) e unmet = refl
stays_whole o (side_by_side ms) e unmet = refl
stays_whole o (choosing again cs) e unmet = stays_chosen again cs (guards_counted (true_guards o.store 0 cs)) e
stays_whole o (repeating p) e unmet = absurd (cc e)

pub move_or_none : (x : Option Move) → (x ≡ None) ⊎ ((m : Move) × (x ≡ Some m))
move_or_none None = inl refl
move_or_none (Some m) = inr (m, refl)

-- steps at all enabled places
abbrev all_steps : (c : Configuration) → StepsAt c (enabled_places c)
all_steps c = steps_for c (enabled_places c) (can_each c)

unmet : (c : Configuration) (m : ℕ) → Fits c.term → (a : Place) (q : Process) → statement_at c.term a ≡ Some q →
    ((l : Term) → ¬ In (parts_in (all_steps c)) (part a l)) → is_met (outset_for c) q ≡ true → ⊥
unmet c m f a skipping h nowhere e = absurd (cc e)
unmet c m f a (assigning x s i) h nowhere e = absurd (cc e)
unmet c m f a (sending k s i) h nowhere e = absurd (cc e)
unmet c m f a (in_turn ms) h nowhere e = absurd (cc e)
unmet c m f a (side_by_side ms) h nowhere e = absurd (cc e)
unmet c m f a (choosing again cs) h nowhere e = absurd (cc e)
unmet c m f a (repeating p) h nowhere e = absurd (cc e)
unmet c m f a (receiving k s x t) h nowhere e =
    let r = met_by c k x s t e in
    let step = a_communication {c = c} {at = r.1} a r.4 h r.0 in
    nowhere finished (other_part (all_steps c) r.1 a (each_listed f step) (λ d u. other_is m f u a k x r.2 s t r.3 r.4 r.0 h))

all_say : (c : Configuration) (m : ℕ) → Fits c.term → AllRun c m → Says (left_of (outset_for c)) c.term (parts_in (all_steps c))
all_say c m f run a q h = by_place (look_up (parts_in (all_steps c)) a (active q))
  where
    no_move : ((l : Term) → ¬ In (parts_in (all_steps c)) (part a l)) → (move_of (outset_for c) q ≡ None) ⊎ ((w : Move) × (move_of (outset_for c) q ≡ Some w)) →
        active q ≡ left_of (outset_for c) q
    no_move nowhere (inl e) = sym (stays_whole (outset_for c) q e (unmet c m f a q h nowhere))
    no_move nowhere (inr (w, e)) =
        let can = move_can c a q w h e in
        let r = step_part (all_steps c) a (each_listed f can.1) in
        absurd (nowhere r.0 r.1)

    by_place : Found (parts_in (all_steps c)) a (active q) → at_or (parts_in (all_steps c)) a (active q) ≡ left_of (outset_for c) q
    by_place (inl (l, i, e)) = e ∙ sym (part_says m f run (all_steps c) a l q i h)
    by_place (inr (nowhere, e)) = e ∙ no_move nowhere (move_or_none (move_of (outset_for c) q))

-- the moves are those of the active statements

abbrev pub At : Term → List Place → List Process → Type 0
At t [] [] = Unit {0}
At t (a ∷ spots) (q ∷ qs) = (statement_at t a ≡ Some q) × At t spots qs
At t _ _ = ⊥

at_append : (t : Term) (spots bs : List Place) (ps qs : List Process) → At t spots ps → At t bs qs → At t (spots ++ bs) (ps ++ qs)
at_append t [] bs [] qs h g = g
at_append t [] bs (p ∷ ps) qs h g = absurd h
at_append t (a ∷ spots) bs [] qs h g = absurd h
at_append t (a ∷ spots) bs (p ∷ ps) qs h g = (h.0, at_append t spots bs ps qs h.1 g)

at_map : (t u : Term) (f : Place → Place) → ((a : Place) (q : Process) → statement_at t a ≡ Some q → statement_at u (f a) ≡ Some q) →
    (spots : List Place) (qs : List Process) → At t spots qs → At u (map f spots) qs
at_map t u f lift [] [] h = tt
at_map t u f lift [] (q ∷ qs) h = absurd h
at_map t u f lift (a ∷ spots) [] h = absurd h
at_map t u f lift (a ∷ spots) (q ∷ qs) h = (lift a q h.0, at_map t u f lift spots qs h.1)

mutual
  pub places_at : (t : Term) → At t (places t) (actives t)
  places_at finished = tt
  places_at (active p) = (refl, tt)
  places_at (in_sequence t more) = at_map t (in_sequence t more) in_first (λ a q h. h) (places t) (actives t) (places_at t)
  places_at (in_parallel ts) = branches_at ts ts 0 (λ j a q h. let e : 0 + j ≡ j = omega arith in subst (λ n. branch_at ts n a ≡ Some q) (sym e) h)

  branches_at : (ts us : Terms) (k : ℕ) → ((j : ℕ) (a : Place) (q : Process) → branch_at us j a ≡ Some q → branch_at ts (k + j) a ≡ Some q) →
      At (in_parallel ts) (branch_places k us) (branch_actives us)
  branches_at ts no_branches k lift = tt
  branches_at ts (and_branch t more) k lift =
      at_append (in_parallel ts) (map (in_branch k) (places t)) (branch_places (suc k) more) (actives t) (branch_actives more)
      (at_map t (in_parallel ts) (in_branch k) (λ a q h. let e : k + 0 ≡ k = omega arith in subst (λ n. branch_at ts n a ≡ Some q) e (lift 0 a q h)) (places t)
      (actives t) (places_at t))
      (branches_at ts more (suc k) (λ j a q h. let e : k + suc j ≡ suc k + j = omega arith in subst (λ n. branch_at ts n a ≡ Some q) e (lift (suc j) a q h)))

moves_are : (c : Configuration) (m : ℕ) → Fits c.term → AllRun c m → (spots : List Place) (qs : List Process) → At c.term spots qs →
    (ss : StepsAt c (filter (is_enabled c) spots)) → moves_in ss ≡ moves_of (outset_for c) qs
moves_are c m f run [] [] h no_steps = refl
moves_are c m f run [] (q ∷ qs) h ss = absurd h
moves_are c m f run (a ∷ spots) [] h ss = absurd h
moves_are c m f run (a ∷ spots) (q ∷ qs) h ss = by_test (is_enabled c a) refl ss (moves_are c m f run spots qs h.1)
  where
    disabled : is_enabled c a ≡ false → (move_of (outset_for c) q ≡ None) ⊎ ((w : Move) × (move_of (outset_for c) q ≡ Some w)) →
        moves_of (outset_for c) qs ≡ option_to_list (move_of (outset_for c) q) ++ moves_of (outset_for c) qs
    disabled off (inl e) = sym (ap (λ x. option_to_list x ++ moves_of (outset_for c) qs) e)
    disabled off (inr (w, e)) =
        let can = move_can c a q w h.0 e in
        let on : is_enabled c a ≡ true = ap is_some (found f can.1) in
        absurd (cc (sym off ∙ on))

    by_test : (b : Bool) → is_enabled c a ≡ b → (us : StepsAt c (cond b (a ∷ filter (is_enabled c) spots) (filter (is_enabled c) spots))) →
        ((vs : StepsAt c (filter (is_enabled c) spots)) → moves_in vs ≡ moves_of (outset_for c) qs) → moves_in us ≡ option_to_list (move_of (outset_for c) q)
        ++ moves_of (outset_for c) qs
    by_test true e (and_step s vs) rest =
        ap (λ ms. move_from (deal s) ∷ ms) (rest vs) ∙ sym (ap (λ x. option_to_list x ++ moves_of (outset_for c) qs) (step_move m f run s q h.0))
    by_test false e us rest = rest us ∙ disabled e (move_or_none (move_of (outset_for c) q))

-- the round

pub record AtOnce (c : Configuration) : Type 0 where
  pub term : (round c).term ≡ all_left (left_of (outset_for c)) c.term
  pub store : (round c).store ≡ fold written c.store (moves_of (outset_for c) (actives c.term))
  pub rests : (round c).rests ≡ fold used c.rests (moves_of (outset_for c) (actives c.term))
  pub histories : (round c).histories ≡ fold passed c.histories (moves_of (outset_for c) (actives c.term))

pub at_once : (c : Configuration) (m : ℕ) → Fits c.term → Lively c.term → AllRun c m → AtOnce c
at_once c m f v run =
    let ss = all_steps c in
    let distinct = listed_once c in
    let whole : round c ≡ dealt_all ss c = taken_dealt ss f distinct c f (all_kept_self ss) in
    let moves : moves_in ss ≡ moves_of (outset_for c) (actives c.term) = moves_are c m f run (places c.term) (actives c.term) (places_at c.term) ss in
    record {
      term = ap (λ (x : Configuration). x.term) whole
          ∙ (term_all ss c ∙ left_at_once (left_of (outset_for c)) c.term (parts_in ss) v (all_stand ss) (all_single ss f distinct) (all_say c m f run));
      store = ap (λ (x : Configuration). x.store) whole ∙ (store_all ss c ∙ ap (fold written c.store) moves);
      rests = ap (λ (x : Configuration). x.rests) whole ∙ (rests_all ss f distinct c (all_kept_self ss) ∙ ap (fold used c.rests) moves);
      histories = ap (λ (x : Configuration). x.histories) whole ∙ (histories_all ss c ∙ ap (fold passed c.histories) moves);
    }

-- there is a move exactly where there is a step

no_front : (x : Option Move) (ms : List Move) → option_to_list x ++ ms ≡ [] → ms ≡ []
no_front None ms g = g
no_front (Some u) ms g = absurd (cc g)

has_move : (o : Outset) (qs : List Process) (q : Process) (w : Move) → In qs q → move_of o q ≡ Some w → moves_of o qs ≢ []
has_move o [] q w i e none = i
has_move o (p ∷ qs) q w (inl same) e none = absurd (cc (sym (ap (λ x. option_to_list x ++ moves_of o qs) (ap (move_of o) same ∙ e)) ∙ none))
has_move o (p ∷ qs) q w (inr i) e none = has_move o qs q w i e (no_front (move_of o p) (moves_of o qs) none)

pub still_if_none : (c : Configuration) (m : ℕ) → Fits c.term → AllRun c m → moves_of (outset_for c) (actives c.term) ≡ [] → (a : Place) (d : Configuration) →
    ¬ Step c a d
still_if_none c m f run none a d s =
    let q = stands s in
    has_move (outset_for c) (actives c.term) q.0 (move_from (deal s)) (active_in c.term a q.0 q.1) (step_move m f run s q.0 q.1) none

some_move : (o : Outset) (qs : List Process) (w : Move) (ws : List Move) → moves_of o qs ≡ w ∷ ws →
    (q : Process) × (u : Move) × In qs q × (move_of o q ≡ Some u)
some_move o [] w ws e = absurd (cc e)
some_move o (p ∷ qs) w ws e = by_first (move_or_none (move_of o p)) (some_move o qs w ws)
  where
    by_first : (move_of o p ≡ None) ⊎ ((u : Move) × (move_of o p ≡ Some u)) →
        (moves_of o qs ≡ w ∷ ws → (q : Process) × (u : Move) × In qs q × (move_of o q ≡ Some u)) → (q : Process) × (u : Move) × In (p ∷ qs) q
        × (move_of o q ≡ Some u)
    by_first (inr (u, g)) rest = (p, u, inl refl, g)
    by_first (inl g) rest = let r = rest (sym (ap (λ x. option_to_list x ++ moves_of o qs) g) ∙ e) in (r.0, r.1, inr r.2, r.3)

pub step_if_some : (c : Configuration) (w : Move) (ws : List Move) → moves_of (outset_for c) (actives c.term) ≡ w ∷ ws →
    (a : Place) × (d : Configuration) × Step c a d
step_if_some c w ws e =
    let r = some_move (outset_for c) (actives c.term) w ws e in
    let p = active_at c.term r.0 r.2 in
    let can = move_can c p.0 r.0 r.1 p.1 r.3 in
    (p.0, can.0, can.1)
