-- A guarded repetition keeps its contract: it is such a machine, and its table is tried out.
use Rattle.std.proofs.Common.{◌≡◌, ℕ, ◌<◌, Bool, true, false, not, List, [], ◌∷◌, length, map, arith, ap, sym, ◌∙◌, refl, subst, inl, inr, ◌⊎◌}
use Rattle.std.specs.Prelude.{◌&&◌, ◌||◌, if◌then◌else◌, ◌==◌, Contains}
use Rattle.std.proofs.Math.Logic.{⊎_elim}
use Rattle.prs_core.specs.Moves.{guard_holds}
use Rattle.prs_core.specs.Pairs.{rails_of, or_of}
use Rattle.prs_core.specs.Parts.{Owned, owned, Moment, Wire, IsFirstState, IsKept, all_low, fires, may_move}
use Rattle.cell_select.specs.Selections.{joined_answer, evaluation, turn_request, leave_latch, leave_answer}
use Rattle.cell_select.specs.Contract.{Branch, BranchPlace, AgainNodes, again_nodes, again_owned, again_inner, rises_under, eval_wire, start_wire, start_wires, request_wire, branch_wires, latches_of, starts_of, answers_of, guards_of, guards_neutral, guards_valid, guards_false, none_true, alone_true, one_true, AreApart}
use Rattle.cell_select.proofs.Plain.{plain_again, plain_answer}
use Rattle.cell_select.proofs.Tables.{implies, implies_at, and_left, and_right, both, not_true, true_not, true_false}
use Rattle.cell_select.proofs.Distinct.{distinct_from}
use Rattle.cell_select.proofs.Places.{IsPlace, Apart, at_place, one_or_apart, contains_cons, contains_here, contains_next, latch_owned, start_owned, IsMade, branches_owned, branch_own, latch_there, start_there, place_in, map_in, wire_in}
use Rattle.cell_select.proofs.Rails.{seen_rails, consistent, rails_consistent, quiet_among, some_terms, low_terms, only_latch, only_start, only_answer, falses_hold}
use Rattle.cell_select.proofs.Machines.{Machine, Setting, View, bit_at, can, whole_test, controls, state_of, extra_of}
use Rattle.cell_select.proofs.Views.{AsRule, AsPlaced, InFrame, InBranch, IsPart, fires_is, all_quiet, firm_of, apart_of, promised_of, IsPromise}
use Rattle.cell_select.proofs.Waiting.{or_rest, weaker, or_cases, some_rail, low_guard, one_place, alone_valid, valid_false, false_valid, MayMove, high_may, low_may, answer_may, latch_up, start_up, latch_still, start_still, idle_is, first_wires, low_append, controls_low, neutral_single}

-- the request, the answer, the request of a turn, the joined answers, the request of the guards, whether a latch is up, the latch of the
-- end; the latch, the start and the answer of a branch
abbrev pub again_up : ℕ → List Bool → List Bool → Bool
again_up j (r ∷ a ∷ lr ∷ d ∷ e ∷ m ∷ v ∷ l ∷ s ∷ x ∷ []) (n ∷ w ∷ u ∷ k ∷ z ∷ y ∷ kz ∷ []) =
    bit_at (not a ∷ ((v && n) || false) ∷ ((r && (not d && true)) || false) ∷ not (not x) ∷ ((lr && (not m && true)) || false) ∷ not (not v && not l)
    ∷ (z || false) ∷ (w || false) ∷ ((l && n) || false) ∷ s ∷ []) j
again_up j _ _ = false

abbrev pub again_down : ℕ → List Bool → List Bool → Bool
again_down j (r ∷ a ∷ lr ∷ d ∷ e ∷ m ∷ v ∷ l ∷ s ∷ x ∷ []) q =
    bit_at (a ∷ ((not m && true) || false) ∷ ((d && true) || ((not r && true) || false)) ∷ ((not m && not x) || false) ∷ ((m && true) || false)
    ∷ ((not v && not l) || false) ∷ ((not lr && true) || false) ∷ ((not lr && true) || false) ∷ ((not l && true) || false) ∷ not s ∷ []) j
again_down j _ _ = false

-- the end is latched while no branch is under way; a branch is under way only under the request; without it all falls in order; between two
-- turns nothing but the joined answers is left; once it has answered, the turn has ended; within a turn it is a selection
abbrev pub again_control : List Bool → Bool
again_control (r ∷ a ∷ lr ∷ d ∷ e ∷ m ∷ v ∷ l ∷ s ∷ x ∷ []) =
    implies v (not l && (not s && not x)) && (implies (d || (l || (s || x))) (r && not v) && (implies (not r) (implies lr a && (implies v m && implies m a))
    && (implies (r && not lr) (not a && (not v && implies m d)) && (implies (lr && a) (v && not e)
    && (if lr then implies x s && (implies s l && (implies s (not e) && (implies d x && (implies m (l || v) && implies ((l || v) && not e) m))))
    else not e && (implies l s && (implies l m && (implies s x && implies x d))))))))
again_control _ = false

-- the rails are low but while the guards are evaluated and let go; the branch under way is the one whose guard was true alone, and where the
-- end is latched no guard was true
abbrev pub again_fit : List Bool → List Bool → Bool
again_fit (r ∷ a ∷ lr ∷ d ∷ e ∷ m ∷ v ∷ l ∷ s ∷ x ∷ []) (n ∷ w ∷ u ∷ k ∷ z ∷ y ∷ kz ∷ []) =
    consistent (n ∷ w ∷ u ∷ k ∷ z ∷ y ∷ kz ∷ [])
    && (implies (not lr || (s || ((not e && not m) || a))) n
    && (implies (lr && l) (if e then w else k) && (implies (lr && v) (y && (if e then z else kz)) && implies (l || (s || x)) u)))
again_fit _ _ = false

abbrev pub answer_promise : List Bool → List Bool → Bool
answer_promise (r ∷ a ∷ lr ∷ d ∷ e ∷ m ∷ v ∷ l ∷ s ∷ x ∷ []) (n ∷ w ∷ u ∷ k ∷ z ∷ y ∷ kz ∷ []) =
    if a then not r && (not e && (n && (not s && not x))) else r && (kz && (not e && (n && (not s && not x))))
answer_promise _ _ = false

abbrev pub eval_promise : List Bool → List Bool → Bool
eval_promise (r ∷ a ∷ lr ∷ d ∷ e ∷ m ∷ v ∷ l ∷ s ∷ x ∷ []) (n ∷ w ∷ u ∷ k ∷ z ∷ y ∷ kz ∷ []) = if e then (w || z) && (not s && not x) else r
    && (lr && (not a && (n && (not s && not x))))
eval_promise _ _ = false

abbrev pub start_promise : List Bool → List Bool → Bool
start_promise (r ∷ a ∷ lr ∷ d ∷ e ∷ m ∷ v ∷ l ∷ s ∷ x ∷ []) (n ∷ w ∷ u ∷ k ∷ z ∷ y ∷ kz ∷ []) =
    if s then x else r && (lr && (k && (not e && (not a && (n && (not s && not x))))))
start_promise _ _ = false

abbrev pub at_first : List Bool → Bool
at_first (r ∷ a ∷ lr ∷ d ∷ e ∷ m ∷ v ∷ l ∷ s ∷ x ∷ []) = implies (not r && not a) (not lr && (not d && (not e && (not m && (not v && (not l && not s))))))
at_first _ = false

abbrev pub again_moves : Machine
again_moves = record {
  size = 10;
  eval = 4;
  latch = 7;
  own = λ j. not (j == 0) && not (j == 9);
  up = again_up;
  down = again_down;
  control = again_control;
  fit = again_fit;
  extra = λ c q. true;
}

-- where nothing of its own may move the request or a branch's answer may, or a rail, or a guard is awaited
abbrev pub may_wait : List Bool → List Bool → Bool
may_wait c q = (can again_moves 0 c q || can again_moves 9 c q)
    || ((not (bit_at c 4) && not (bit_at q 0)) || (bit_at c 4 && (not (bit_at c 7) && not (bit_at c 6))))

abbrev pub waits_test : List Bool → List Bool → Bool
waits_test c q =
    can again_moves 1 c q || (can again_moves 2 c q
    || (can again_moves 3 c q || (can again_moves 4 c q
    || (can again_moves 5 c q || (can again_moves 6 c q || (can again_moves 7 c q || (can again_moves 8 c q || may_wait c q)))))))

abbrev pub again_extra : List Bool → List Bool → Bool
again_extra c q =
    implies (can again_moves 1 c q) (answer_promise c q)
    && (implies (can again_moves 4 c q) (eval_promise c q) && (implies (can again_moves 8 c q) (start_promise c q) && (at_first c && waits_test c q)))

abbrev pub again_machine : Machine
again_machine = record again_moves { extra = again_extra }

again_whole : whole_test again_machine ≡ true
again_whole = refl

abbrev pub again_frame : AgainNodes → List ℕ
again_frame c = c.request ∷ c.answer ∷ c.turn ∷ c.joined ∷ c.eval ∷ c.any ∷ c.leave ∷ []

pub again_setting : (c : AgainNodes) → AreApart (again_nodes c) → Setting again_machine (again_frame c) c.branches c.eval
again_setting c apart = record {
  apart = distinct_from (again_nodes c) apart;
  long = refl;
  size = refl;
  inside = omega arith;
  there = refl;
  whole = again_whole;
  second = omega arith;
  request_up = λ v noted p. refl;
  request_down = λ v noted p. refl;
  answer_up = λ v noted p. refl;
  answer_down = λ v noted p. refl;
}

abbrev Rule : AgainNodes → BranchPlace → Owned → ℕ → Type 0
Rule c p o j = AsRule again_machine (again_frame c) c.branches p o j

abbrev answer_owned : AgainNodes → Owned
answer_owned c = owned c.answer (leave_answer c.leave c.any (guards_of c.branches))

abbrev turn_owned : AgainNodes → Owned
turn_owned c = owned c.turn (turn_request c.request c.joined)

abbrev joined_owned : AgainNodes → Owned
joined_owned c = owned c.joined (joined_answer c.any (answers_of c.branches))

abbrev eval_owned : AgainNodes → Owned
eval_owned c = owned c.eval (evaluation c.turn c.any)

abbrev any_owned : AgainNodes → Owned
any_owned c = owned c.any (or_of (c.leave ∷ latches_of c.branches))

abbrev leave_owned : AgainNodes → Owned
leave_owned c = owned c.leave (leave_latch c.turn (guards_of c.branches))

answer_rule : (c : AgainNodes) (p : BranchPlace) → IsPlace c.branches p → Rule c p (answer_owned c) 1
answer_rule c p is = record {
  less = omega arith;
  own = refl;
  at = refl;
  up = λ v noted calm. ap (λ b. (v c.leave && b) || false) (low_terms v (rails_of (guards_of c.branches)));
  down = λ v noted calm. refl;
}

turn_rule : (c : AgainNodes) (p : BranchPlace) → IsPlace c.branches p → Rule c p (turn_owned c) 2
turn_rule c p is = record { less = omega arith; own = refl; at = refl; up = λ v noted calm. refl; down = λ v noted calm. refl }

joined_rule : (c : AgainNodes) (p : BranchPlace) → IsPlace c.branches p → Rule c p (joined_owned c) 3
joined_rule c p is = record {
  less = omega arith;
  own = refl;
  at = refl;
  up = λ v noted calm. some_terms v (answers_of c.branches) ∙ ap (λ (xs : List Branch). not (all_low v (answers_of xs))) is ∙ ap not (only_answer v p calm);
  down = λ v noted calm. ap (λ b. (not (v c.any) && b) || false) (low_terms v (answers_of c.branches) ∙ ap (λ (xs : List Branch). all_low v (answers_of xs)) is
      ∙ only_answer v p calm);
}

eval_rule : (c : AgainNodes) (p : BranchPlace) → IsPlace c.branches p → Rule c p (eval_owned c) 4
eval_rule c p is = record { less = omega arith; own = refl; at = refl; up = λ v noted calm. refl; down = λ v noted calm. refl }

any_rule : (c : AgainNodes) (p : BranchPlace) → IsPlace c.branches p → Rule c p (any_owned c) 5
any_rule c p is = record {
  less = omega arith;
  own = refl;
  at = refl;
  up = λ v noted calm. some_terms v (c.leave ∷ latches_of c.branches) ∙ ap (λ (xs : List Branch). not (not (v c.leave) && all_low v (latches_of xs))) is
      ∙ ap (λ b. not (not (v c.leave) && b)) (only_latch v p calm);
  down = λ v noted calm. ap (λ b. b || false) (low_terms v (c.leave ∷ latches_of c.branches)
      ∙ ap (λ (xs : List Branch). not (v c.leave) && all_low v (latches_of xs)) is ∙ ap (λ b. not (v c.leave) && b) (only_latch v p calm));
}

leave_rule : (c : AgainNodes) (p : BranchPlace) → IsPlace c.branches p → Rule c p (leave_owned c) 6
leave_rule c p is = record {
  less = omega arith;
  own = refl;
  at = refl;
  up = λ v noted calm. ap (λ b. b || false) (falses_hold v c.branches);
  down = λ v noted calm. refl;
}

latch_placed : (c : AgainNodes) (q : BranchPlace) → IsPlace c.branches q → AsPlaced again_machine (again_frame c) c.branches q (latch_owned c.turn q) 7
latch_placed c q is = record {
  is = is;
  rule = record { less = omega arith; own = refl; at = refl; up = λ v noted calm. latch_up v c.turn q; down = λ v noted calm. refl };
  which = inl refl;
  low = λ v quiet. quiet.latch;
  still = λ v still. latch_still v c.turn q still;
}

start_placed : (c : AgainNodes) (q : BranchPlace) → IsPlace c.branches q →
    AsPlaced again_machine (again_frame c) c.branches q (start_owned (guards_of c.branches) q) 8
start_placed c q is = record {
  is = is;
  rule = record { less = omega arith; own = refl; at = refl; up = λ v noted calm. start_up v c.branches q; down = λ v noted calm. refl };
  which = inr refl;
  low = λ v quiet. quiet.start;
  still = λ v still. start_still v c.branches q still;
}

in_frame : (c : AgainNodes) (o x : Owned) (j : ℕ) → j < 7 → o ≡ x → ((p : BranchPlace) → IsPlace c.branches p → Rule c p x j) →
    InFrame again_machine (again_frame c) c.branches o
in_frame c o x j lt e rule = (j, lt, λ p is. subst (λ (o : Owned). Rule c p o j) (sym e) (rule p is))

-- what stands behind each of the own nodes before the branches'
abbrev from_branches : AgainNodes → List Owned
from_branches c = branches_owned c.turn c.branches

abbrev from_leave : AgainNodes → List Owned
from_leave c = leave_owned c ∷ from_branches c

abbrev from_any : AgainNodes → List Owned
from_any c = any_owned c ∷ from_leave c

abbrev from_eval : AgainNodes → List Owned
from_eval c = eval_owned c ∷ from_any c

abbrev from_joined : AgainNodes → List Owned
from_joined c = joined_owned c ∷ from_eval c

abbrev from_turn : AgainNodes → List Owned
from_turn c = turn_owned c ∷ from_joined c

again_owns : (c : AgainNodes) (o : Owned) → Contains (again_owned c) o →
    InFrame again_machine (again_frame c) c.branches o ⊎ InBranch again_machine (again_frame c) c.branches o
again_owns c o h =
    ⊎_elim (λ (same : o ≡ answer_owned c). inl (in_frame c o (answer_owned c) 1 (omega arith) same (answer_rule c)))
    (λ h2. ⊎_elim (λ (same : o ≡ turn_owned c). inl (in_frame c o (turn_owned c) 2 (omega arith) same (turn_rule c)))
    (λ h3. ⊎_elim (λ (same : o ≡ joined_owned c). inl (in_frame c o (joined_owned c) 3 (omega arith) same (joined_rule c)))
    (λ h4. ⊎_elim (λ (same : o ≡ eval_owned c). inl (in_frame c o (eval_owned c) 4 (omega arith) same (eval_rule c)))
    (λ h5. ⊎_elim (λ (same : o ≡ any_owned c). inl (in_frame c o (any_owned c) 5 (omega arith) same (any_rule c)))
    (λ h6. ⊎_elim (λ (same : o ≡ leave_owned c). inl (in_frame c o (leave_owned c) 6 (omega arith) same (leave_rule c)))
    (λ last. ⊎_elim
    (λ (l : IsMade c.branches (latch_owned c.turn) o). inr (
      l.0,
      7,
      subst (λ (o : Owned). AsPlaced again_machine (again_frame c) c.branches l.0 o 7) (sym l.2) (latch_placed c l.0 l.1),
    ))
    (λ (s : IsMade c.branches (start_owned (guards_of c.branches)) o). inr (
      s.0,
      8,
      subst (λ (o : Owned). AsPlaced again_machine (again_frame c) c.branches s.0 o 8) (sym s.2) (start_placed c s.0 s.1),
    ))
    (branch_own c.turn c.branches o last))
    (contains_cons (leave_owned c) (from_branches c) o h6))
    (contains_cons (any_owned c) (from_leave c) o h5))
    (contains_cons (eval_owned c) (from_any c) o h4))
    (contains_cons (joined_owned c) (from_eval c) o h3))
    (contains_cons (turn_owned c) (from_joined c) o h2))
    (contains_cons (answer_owned c) (from_turn c) o h)

behind_any : (c : AgainNodes) (o : Owned) → Contains (from_leave c) o → Contains (again_owned c) o
behind_any c o h =
    contains_next (answer_owned c) (from_turn c) o
    (contains_next (turn_owned c) (from_joined c) o
    (contains_next (joined_owned c) (from_eval c) o (contains_next (eval_owned c) (from_any c) o (contains_next (any_owned c) (from_leave c) o h))))

behind_all : (c : AgainNodes) (o : Owned) → Contains (from_branches c) o → Contains (again_owned c) o
behind_all c o h = behind_any c o (contains_next (leave_owned c) (from_branches c) o h)

pub again_is_part : (c : AgainNodes) → IsPart again_machine (again_frame c) c.branches c.request c.answer c.eval (plain_again c)
again_is_part c = record {
  own = again_owns c;
  wires = λ w h. ⊎_elim (λ e. inl e) (λ more. inr (wire_in c.eval [] c.branches w more))
      (contains_cons (request_wire c.request c.answer) (branch_wires c.eval c.branches) w h);
  first = refl;
  second = refl;
}

-- what the table adds, seen from a branch
abbrev ctl : AgainNodes → Moment → BranchPlace → List Bool
ctl c m p = map m.value (controls (again_frame c) p)

abbrev rls : AgainNodes → Moment → BranchPlace → List Bool
rls c m p = seen_rails m.value m.noted c.branches p

abbrev pub Sees : AgainNodes → Moment → BranchPlace → Type 0
Sees c m p = View again_machine (again_frame c) c.branches m p

record Extras (c q : List Bool) : Type 0 where
  answers : implies (can again_moves 1 c q) (answer_promise c q) ≡ true
  evals : implies (can again_moves 4 c q) (eval_promise c q) ≡ true
  starts : implies (can again_moves 8 c q) (start_promise c q) ≡ true
  first : at_first c ≡ true
  waits : waits_test c q ≡ true

extras : (c : AgainNodes) → AreApart (again_nodes c) → (m : Moment) (p : BranchPlace) → Sees c m p → Extras (ctl c m p) (rls c m p)
extras c apart m p view =
    let cs = ctl c m p in
    let q = rls c m p in
    let all = extra_of again_machine cs q (state_of again_machine (again_frame c) c.branches c.eval m p (again_setting c apart) view) in
    let second = and_right (implies (can again_moves 1 cs q) (answer_promise cs q)) _ all in
    let third = and_right (implies (can again_moves 4 cs q) (eval_promise cs q)) _ second in
    let fourth = and_right (implies (can again_moves 8 cs q) (start_promise cs q)) _ third in
    record {
      answers = and_left (implies (can again_moves 1 cs q) (answer_promise cs q)) _ all;
      evals = and_left (implies (can again_moves 4 cs q) (eval_promise cs q)) _ second;
      starts = and_left (implies (can again_moves 8 cs q) (start_promise cs q)) _ third;
      first = and_left (at_first cs) _ fourth;
      waits = and_right (at_first cs) _ fourth;
    }

answer_holds : (c : AgainNodes) → AreApart (again_nodes c) → (m : Moment) (p : BranchPlace) → Sees c m p → can again_machine 1 (ctl c m p) (rls c m p) ≡ true →
    may_move m (plain_answer c) ≡ true
answer_holds c apart m p view may =
    let v = m.value in
    let promise = implies_at _ (answer_promise (ctl c m p) (rls c m p)) (extras c apart m p view).answers may in
    ap (λ i. if v c.answer then not (v c.request) && (not (v c.eval) && (guards_neutral v c.branches && i)) else v c.request
    && (guards_false m.noted c.branches && (not (v c.eval) && (guards_neutral v c.branches && i)))) (idle_is v c.branches p view.is view.calm) ∙ promise

eval_holds : (c : AgainNodes) → AreApart (again_nodes c) → (m : Moment) (p : BranchPlace) → Sees c m p → can again_machine 4 (ctl c m p) (rls c m p) ≡ true →
    may_move m (rises_under c.request (eval_wire c.turn c.answer c.eval c.branches)) ≡ true
eval_holds c apart m p view may =
    let v = m.value in
    let promise = implies_at _ (eval_promise (ctl c m p) (rls c m p)) (extras c apart m p view).evals may in
    let valid : (alone_true v p || guards_false v c.branches) ≡ true → guards_valid v c.branches ≡ true =
    λ h. ⊎_elim (λ w. alone_valid v c.branches p view.is view.single w) (λ z. false_valid v c.branches view.single z)
    (or_cases (alone_true v p) (guards_false v c.branches) h) in
    let strong = weaker (v c.eval) (alone_true v p || guards_false v c.branches) (guards_valid v c.branches) (not (v p.this.start) && not (v p.this.answer))
    (v c.request && (v c.turn && (not (v c.answer) && (guards_neutral v c.branches && (not (v p.this.start) && not (v p.this.answer)))))) valid promise in
    ap (λ i. if v c.eval then guards_valid v c.branches && i else v c.request && (v c.turn && (not (v c.answer) && (guards_neutral v c.branches && i))))
    (idle_is v c.branches p view.is view.calm) ∙ strong

start_holds : (c : AgainNodes) → AreApart (again_nodes c) → (m : Moment) (p : BranchPlace) → Sees c m p → can again_machine 8 (ctl c m p) (rls c m p) ≡ true →
    may_move m (rises_under c.request (start_wire c.turn c.answer c.eval c.branches p)) ≡ true
start_holds c apart m p view may =
    let v = m.value in
    let promise = implies_at _ (start_promise (ctl c m p) (rls c m p)) (extras c apart m p view).starts may in
    ap (λ i. if v p.this.start then v p.this.answer else v c.request
    && (v c.turn && (alone_true m.noted p && (not (v c.eval) && (not (v c.answer) && (guards_neutral v c.branches && i))))))
    (idle_is v c.branches p view.is view.calm) ∙ promise

promise_of : (c : AgainNodes) → AreApart (again_nodes c) → (m : Moment) (w : Wire) → Contains (plain_again c).promises w →
    IsPromise again_machine (again_frame c) c.branches m w
promise_of c apart m w h =
    let e = eval_wire c.turn c.answer c.eval c.branches in
    let starts = start_wires c.turn c.answer c.eval c.branches in
    let under = rises_under c.request in
    ⊎_elim
    (λ (same : w ≡ plain_answer c). inl (
      1,
      record {
        less = omega arith;
        at = λ p is. ap (λ (w : Wire). w.node) same;
        holds =
            λ p view may. ap (may_move m) same ∙ answer_holds c apart m p view may;
      },
    ))
    (λ more. ⊎_elim
    (λ (same : w ≡ under e). inl (
      4,
      record {
        less = omega arith;
        at = λ p is. ap (λ (w : Wire). w.node) same;
        holds =
            λ p view may. ap (may_move m) same ∙ eval_holds c apart m p view may;
      },
    ))
    (λ last. let u = map_in under starts w last in
    let r = place_in (start_wire c.turn c.answer c.eval c.branches) [] c.branches u.0 u.1 in
    let is = u.2 ∙ ap under r.2 in
    inr (r.0, record { is = r.1; at = ap (λ (w : Wire). w.node) is; holds = λ view may. ap (may_move m) is ∙ start_holds c apart m r.0 view may }))
    (contains_cons (under e) (map under starts) w more))
    (contains_cons (plain_answer c) (map under (e ∷ starts)) w h)

-- as at first where the request and the answer are low
lows_of : (c : AgainNodes) → AreApart (again_nodes c) → (m : Moment) (p : BranchPlace) → Sees c m p → all_low m.value (c.request ∷ c.answer ∷ []) ≡ true →
    all_low m.value (again_inner c) ≡ true
lows_of c apart m p view low =
    let v = m.value in
    let a = and_left (not (v c.answer)) true (and_right (not (v c.request)) (not (v c.answer) && true) low) in
    let first = implies_at (not (v c.request) && not (v c.answer)) _ (extras c apart m p view).first (both _ _ (and_left (not (v c.request)) _ low) a) in
    let second = and_right (not (v c.turn)) _ first in
    let third = and_right (not (v c.joined)) _ second in
    let fourth = and_right (not (v c.eval)) _ third in
    let fifth = and_right (not (v c.any)) _ fourth in
    let sixth = and_right (not (v c.leave)) _ fifth in
    both _ _ a (both _ _ (and_left (not (v c.turn)) _ first)
    (both _ _ (and_left (not (v c.joined)) _ second)
    (both _ _ (and_left (not (v c.eval)) _ third) (both _ _ (and_left (not (v c.any)) _ fourth) (both _ _ (and_left (not (v c.leave)) _ fifth)
    (low_append v (latches_of c.branches) (starts_of c.branches)
    ∙ both _ _ (ap (λ (xs : List Branch). all_low v (latches_of xs)) view.is ∙ only_latch v p view.calm ∙ and_left (not (v p.this.latch)) _ sixth)
    (ap (λ (xs : List Branch). all_low v (starts_of xs)) view.is ∙ only_start v p view.calm ∙ and_right (not (v p.this.latch)) _ sixth)))))))

abbrev Waits : AgainNodes → Moment → Type 0
Waits c m = ((w : Wire) × Contains (plain_again c).allows w × (may_move m w ≡ true)) ⊎ ((plain_again c).blocked m.value ≡ true)

by_branch : (c : AgainNodes) (m : Moment) → MayMove m c.eval c.branches → Waits c m
by_branch c m h = inl (h.0, contains_next (request_wire c.request c.answer) (branch_wires c.eval c.branches) h.0 h.1, h.2)

latch_low : (c : AgainNodes) (m : Moment) (p q : BranchPlace) → Sees c m p → IsPlace c.branches q → m.value p.this.latch ≡ false → m.value q.this.latch ≡ false
latch_low c m p q view at low =
    ⊎_elim (λ (same : p ≡ q). ap (λ (r : BranchPlace). m.value r.this.latch) (sym same) ∙ low)
    (λ (apart : Apart p q). (quiet_among m.value p q.this view.calm apart.second).latch) (one_or_apart c.branches p q view.is at)

-- no latch may rise: neither is a guard true alone, nor are all false
latch_fires : (c : AgainNodes) (m : Moment) (q : BranchPlace) → m.value q.this.latch ≡ false → alone_true m.value q ≡ true →
    fires m.value (latch_owned c.turn q) ≡ true
latch_fires c m q low alone =
    ap (λ b. if b then guard_holds m.value (latch_owned c.turn q).rules.down else guard_holds m.value (latch_owned c.turn q).rules.up) low
    ∙ latch_up m.value c.turn q ∙ ap (λ b. b || false) alone

leave_fires : (c : AgainNodes) (m : Moment) → m.value c.leave ≡ false → guards_false m.value c.branches ≡ true → fires m.value (leave_owned c) ≡ true
leave_fires c m low none =
    ap (λ b. if b then guard_holds m.value (leave_owned c).rules.down else guard_holds m.value (leave_owned c).rules.up) low
    ∙ ap (λ b. b || false) (falses_hold m.value c.branches ∙ none)

awaits : (c : AgainNodes) (m : Moment) (p : BranchPlace) → Sees c m p → ((o : Owned) → Contains (again_owned c) o → fires m.value o ≡ false) →
    m.value c.eval ≡ true →
    m.value p.this.latch ≡ false → m.value c.leave ≡ false → (valid zero_true one : Bool) → guards_valid m.value c.branches ≡ valid →
    none_true m.value c.branches ≡ zero_true → one_true m.value c.branches ≡ one → Waits c m
awaits c m p view none e low out false zero_true one is_valid is_none is_one =
    by_branch c m (low_may m c.eval c.branches e (low_guard m.value c.branches view.single is_valid))
awaits c m p view none e low out true true one is_valid is_none is_one =
    absurd (true_false (leave_fires c m out (valid_false m.value c.branches is_valid is_none))
    (none (leave_owned c) (behind_any c (leave_owned c) (contains_here (leave_owned c) (from_branches c)))))
awaits c m p view none e low out true false false is_valid is_none is_one = inr (both _ _ is_valid (both _ _ (true_not _ is_none) (true_not _ is_one)))
awaits c m p view none e low out true false true is_valid is_none is_one =
    let q = one_place m.value c.branches is_valid is_one in
    let there = subst (λ (xs : List Branch). Contains (branches_owned c.turn xs) (latch_owned c.turn q.0)) (sym q.1) (latch_there c.turn q.0) in
    absurd (true_false (latch_fires c m q.0 (latch_low c m p q.0 view q.1 low) q.2)
    (none (latch_owned c.turn q.0) (behind_all c (latch_owned c.turn q.0) there)))

waits_of : (c : AgainNodes) → AreApart (again_nodes c) → (m : Moment) (p : BranchPlace) → Sees c m p →
    ((o : Owned) → Contains (again_owned c) o → fires m.value o ≡ false) → Waits c m
waits_of c apart m p view none =
    let v = m.value in
    let s = again_setting c apart in
    let cs = ctl c m p in
    let q = rls c m p in
    let l = latch_owned c.turn p in
    let st = start_owned (guards_of c.branches) p in
    let latch_in = subst (λ (xs : List Branch). Contains (branches_owned c.turn xs) (latch_owned c.turn p)) (sym view.is) (latch_there c.turn p) in
    let start_in = subst (λ (xs : List Branch). Contains (branches_owned c.turn xs) (start_owned (guards_of xs) p)) (sym view.is) (start_there c.turn p) in
    let still : (o : Owned) (j : ℕ) → Rule c p o j → Contains (again_owned c) o → can again_machine j cs q ≡ false =
    λ o j rule among. sym (fires_is again_machine (again_frame c) c.branches c.eval v m.noted p o j s view.calm rule) ∙ none o among in
    let one = still (answer_owned c) 1 (answer_rule c p view.is) (contains_here (answer_owned c) (from_turn c)) in
    let two = still (turn_owned c) 2 (turn_rule c p view.is)
    (contains_next (answer_owned c) (from_turn c) (turn_owned c) (contains_here (turn_owned c) (from_joined c))) in
    let three = still (joined_owned c) 3 (joined_rule c p view.is)
    (contains_next (answer_owned c) (from_turn c) (joined_owned c)
    (contains_next (turn_owned c) (from_joined c) (joined_owned c) (contains_here (joined_owned c) (from_eval c)))) in
    let four = still (eval_owned c) 4 (eval_rule c p view.is)
    (contains_next (answer_owned c) (from_turn c) (eval_owned c)
    (contains_next (turn_owned c) (from_joined c) (eval_owned c)
    (contains_next (joined_owned c) (from_eval c) (eval_owned c) (contains_here (eval_owned c) (from_any c))))) in
    let five = still (any_owned c) 5 (any_rule c p view.is)
    (contains_next (answer_owned c) (from_turn c) (any_owned c)
    (contains_next (turn_owned c) (from_joined c) (any_owned c)
    (contains_next (joined_owned c) (from_eval c) (any_owned c)
    (contains_next (eval_owned c) (from_any c) (any_owned c) (contains_here (any_owned c) (from_leave c)))))) in
    let six = still (leave_owned c) 6 (leave_rule c p view.is) (behind_any c (leave_owned c) (contains_here (leave_owned c) (from_branches c))) in
    let seven = still l 7 (latch_placed c p view.is).rule (behind_all c l latch_in) in
    let eight = still st 8 (start_placed c p view.is).rule (behind_all c st start_in) in
    let wait = or_rest (can again_machine 8 cs q) (may_wait cs q) eight
    (or_rest (can again_machine 7 cs q) _ seven
    (or_rest (can again_machine 6 cs q) _ six
    (or_rest (can again_machine 5 cs q) _ five
    (or_rest (can again_machine 4 cs q) _ four
    (or_rest (can again_machine 3 cs q) _ three
    (or_rest (can again_machine 2 cs q) _ two (or_rest (can again_machine 1 cs q) _ one (extras c apart m p view).waits))))))) in
    ⊎_elim
    (λ (h : (can again_machine 0 cs q || can again_machine 9 cs q) ≡ true). ⊎_elim
    (λ (r : can again_machine 0 cs q ≡ true). inl (
      request_wire c.request c.answer,
      contains_here (request_wire c.request c.answer) (branch_wires c.eval c.branches),
      r,
    ))
    (λ (d : can again_machine 9 cs q ≡ true). by_branch c m (answer_may m c.eval c.branches p view.is d))
    (or_cases (can again_machine 0 cs q) (can again_machine 9 cs q) h))
    (λ (h : ((not (v c.eval) && not (guards_neutral v c.branches)) || (v c.eval && (not (v p.this.latch) && not (v c.leave)))) ≡ true). ⊎_elim
    (λ (r : (not (v c.eval) && not (guards_neutral v c.branches)) ≡ true).
    by_branch c m (high_may m c.eval c.branches (not_true _ (and_left (not (v c.eval)) _ r))
    (some_rail v c.branches (not_true _ (and_right (not (v c.eval)) _ r)))))
    (λ (r : (v c.eval && (not (v p.this.latch) && not (v c.leave))) ≡ true).
    let lows = and_right (v c.eval) _ r in
    awaits c m p view none (and_left (v c.eval) _ r) (not_true _ (and_left (not (v p.this.latch)) _ lows))
    (not_true _ (and_right (not (v p.this.latch)) _ lows)) (guards_valid v c.branches) (none_true v c.branches) (one_true v c.branches) refl refl refl)
    (or_cases (not (v c.eval) && not (guards_neutral v c.branches)) (v c.eval && (not (v p.this.latch) && not (v c.leave))) h))
    (or_cases (can again_machine 0 cs q || can again_machine 9 cs q) _ wait)

abbrev pub Reaches : AgainNodes → Moment → Type 0
Reaches c m = (p : BranchPlace) × Sees c m p

-- first values
abbrev all_down : List Bool
all_down = false ∷ false ∷ false ∷ false ∷ false ∷ false ∷ false ∷ false ∷ false ∷ false ∷ []

fit_first : (q : List Bool) (n w u k z y kz : Bool) → q ≡ n ∷ w ∷ u ∷ k ∷ z ∷ y ∷ kz ∷ [] → n ≡ true → consistent q ≡ true → again_fit all_down q ≡ true
fit_first q n w u k z y kz e low con = ap (again_fit all_down) e ∙ both _ _ (ap consistent (sym e) ∙ con) (both _ _ low refl)

first_by : (c : AgainNodes) → AreApart (again_nodes c) → (b : Branch) (rest : List Branch) → c.branches ≡ b ∷ rest → (v : ℕ → Bool) →
    IsFirstState (plain_again c) v → Reaches c (record { value = v; noted = λ n. false })
first_by c apart b rest is v first =
    let p = at_place [] b rest in
    let wires = first_wires v c.eval c.branches (and_right (not (v c.request)) _ first.outside) in
    let own = first.own in
    let second = and_right (not (v c.answer)) _ own in
    let third = and_right (not (v c.turn)) _ second in
    let fourth = and_right (not (v c.joined)) _ third in
    let fifth = and_right (not (v c.eval)) _ fourth in
    let sixth = and_right (not (v c.any)) _ fifth in
    let last = sym (low_append v (latches_of c.branches) (starts_of c.branches)) ∙ and_right (not (v c.leave)) _ sixth in
    let quiet = all_quiet v c.branches p is (controls_low v c.branches (and_left (all_low v (latches_of c.branches)) _ last)
    (and_right (all_low v (latches_of c.branches)) _ last) wires.answers) in
    let single = neutral_single v c.branches wires.neutral in
    let low : map v (controls (again_frame c) p) ≡ all_down =
    rw (
      not_true _ (and_left (not (v c.request)) _ first.outside),
      not_true _ (and_left (not (v c.answer)) _ own),
      not_true _ (and_left (not (v c.turn)) _ second),
      not_true _ (and_left (not (v c.joined)) _ third),
      not_true _ (and_left (not (v c.eval)) _ fourth),
      not_true _ (and_left (not (v c.any)) _ fifth),
      not_true _ (and_left (not (v c.leave)) _ sixth),
      quiet.quiet.latch,
      quiet.quiet.start,
      quiet.quiet.answer,
    ) refl in
    let noted : ℕ → Bool = λ n. false in (
      p,
      record {
        is = is;
        calm = quiet.calm;
        single = single;
        control = ap again_control low;
        fit = ap (λ d. again_fit d (seen_rails v noted c.branches p)) low
            ∙ fit_first (seen_rails v noted c.branches p) (guards_neutral v c.branches) (alone_true v p) _ (alone_true noted p) (guards_false v c.branches)
            (none_true v c.branches) (guards_false noted c.branches) refl wires.neutral (rails_consistent v noted c.branches p is single);
      },
    )

pub first_of : (c : AgainNodes) → AreApart (again_nodes c) → (bs : List Branch) → c.branches ≡ bs → 0 < length bs → (v : ℕ → Bool) →
    IsFirstState (plain_again c) v →
    Reaches c (record { value = v; noted = λ n. false })
first_of c apart [] is some v first = absurd (omega (arith, some))
first_of c apart (b ∷ rest) is some v first = first_by c apart b rest is v first

pub kept_of : (c : AgainNodes) → AreApart (again_nodes c) → (m : Moment) → Reaches c m → IsKept (plain_again c) m
kept_of c apart m h =
    let s = again_setting c apart in
    let part_is = again_is_part c in
    record {
      promised = λ o among f w promise e. promised_of again_machine (again_frame c) c.branches c.request c.answer c.eval (plain_again c) m h.0 s part_is h.1 o
          among f w (promise_of c apart m w promise) e;
      firm = λ o among f node move ne. firm_of again_machine (again_frame c) c.branches c.request c.answer c.eval (plain_again c) m h.0 s part_is h.1 o among f
          node move ne;
      apart = λ o among. apart_of again_machine (again_frame c) c.branches c.request c.answer c.eval (plain_again c) m h.0 s part_is h.1 o among;
      lows = λ low. lows_of c apart m h.0 h.1 low;
      bits = λ low. refl;
      waits = λ none. waits_of c apart m h.0 h.1 none;
    }
