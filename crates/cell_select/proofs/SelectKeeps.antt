-- A selection keeps its contract: it is such a machine, and its table is tried out.
use Rattle.std.proofs.Common.{◌≡◌, ℕ, ◌<◌, Bool, true, false, not, List, [], ◌∷◌, ◌++◌, length, map, arith, ap, sym, ◌∙◌, refl, subst, inl, inr, ◌⊎◌}
use Rattle.std.specs.Prelude.{◌&&◌, ◌||◌, if◌then◌else◌, ◌==◌, Contains}
use Rattle.std.proofs.Math.Logic.{⊎_elim}
use Rattle.prs_core.specs.Moves.{guard_holds}
use Rattle.prs_core.specs.Pairs.{or_of}
use Rattle.prs_core.specs.Parts.{Owned, owned, Moment, Wire, IsFirstState, IsKept, all_low, fires, may_move}
use Rattle.cell_select.specs.Selections.{joined_answer, evaluation}
use Rattle.cell_select.specs.Contract.{Branch, BranchPlace, SelectNodes, select_nodes, select_owned, select_inner, select_answer, eval_wire, start_wire, start_wires, request_wire, branch_wires, latches_of, starts_of, answers_of, guards_of, guards_neutral, guards_valid, guards_false, none_true, alone_true, one_true, AreApart}
use Rattle.cell_select.proofs.Plain.{plain_select}
use Rattle.cell_select.proofs.Tables.{implies, implies_at, and_left, and_right, both, not_true, true_not, true_false}
use Rattle.cell_select.proofs.Distinct.{distinct_from}
use Rattle.cell_select.proofs.Places.{IsPlace, Apart, at_place, one_or_apart, contains_cons, contains_here, contains_next, latch_owned, start_owned, IsMade, branches_owned, branch_own, latch_there, start_there, place_in, wire_in}
use Rattle.cell_select.proofs.Rails.{seen_rails, consistent, rails_consistent, is_calm, quiet_among, some_terms, low_terms, or_up, or_down, only_latch, only_start, only_answer}
use Rattle.cell_select.proofs.Machines.{Machine, Setting, View, bit_at, can, whole_test, controls, state_of, extra_of}
use Rattle.cell_select.proofs.Views.{AsRule, AsPlaced, InFrame, InBranch, IsPart, fires_is, all_quiet, firm_of, apart_of, promised_of, IsPromise}
use Rattle.cell_select.proofs.Waiting.{or_rest, weaker, or_cases, some_rail, low_guard, one_place, alone_valid, MayMove, high_may, low_may, answer_may, latch_up, start_up, latch_still, start_still, idle_is, first_wires, low_append, controls_low, neutral_single}

-- the request, the answer, the request of the guards, whether a latch is up; the latch, the start and the answer of a branch
abbrev pub select_up : ℕ → List Bool → List Bool → Bool
select_up j (r ∷ a ∷ e ∷ m ∷ l ∷ s ∷ d ∷ []) (n ∷ w ∷ u ∷ k ∷ z ∷ y ∷ kz ∷ []) =
    bit_at (not a ∷ not (not d) ∷ ((r && (not m && true)) || false) ∷ not (not l) ∷ (w || false) ∷ ((l && n) || false) ∷ s ∷ []) j
select_up j _ _ = false

abbrev pub select_down : ℕ → List Bool → List Bool → Bool
select_down j (r ∷ a ∷ e ∷ m ∷ l ∷ s ∷ d ∷ []) q =
    bit_at (a ∷ ((not m && not d) || false) ∷ ((m && true) || false) ∷ (not l || false) ∷ ((not r && true) || false) ∷ ((not l && true) || false) ∷ not s ∷ [])
    j
select_down j _ _ = false

-- under the request the answer follows the branch's, which follows its start, which follows its latch; a latch is up once one is; without
-- it all of them fall in the same order
abbrev pub select_control : List Bool → Bool
select_control (r ∷ a ∷ e ∷ m ∷ l ∷ s ∷ d ∷ []) =
    if r then implies d s && (implies s l && (implies s (not e) && (implies a d && (implies m l && implies (l && not e) m))))
    else not e && (implies l s && (implies l m && (implies s d && (implies d a && implies m a))))
select_control _ = false

-- the rails are low but while the guards are evaluated and let go; the branch under way is the one whose guard was true alone
abbrev pub select_fit : List Bool → List Bool → Bool
select_fit (r ∷ a ∷ e ∷ m ∷ l ∷ s ∷ d ∷ []) (n ∷ w ∷ u ∷ k ∷ z ∷ y ∷ kz ∷ []) =
    consistent (n ∷ w ∷ u ∷ k ∷ z ∷ y ∷ kz ∷ [])
    && (implies (not r || (s || (not e && not m))) n && (implies (r && l) (if e then w else k) && implies (l || (s || d)) u))
select_fit _ _ = false

abbrev pub answer_promise : List Bool → List Bool → Bool
answer_promise (r ∷ a ∷ e ∷ m ∷ l ∷ s ∷ d ∷ []) q = if a then not r && (not e && (not s && not d)) else r && not (not d)
answer_promise _ _ = false

abbrev pub eval_promise : List Bool → List Bool → Bool
eval_promise (r ∷ a ∷ e ∷ m ∷ l ∷ s ∷ d ∷ []) (n ∷ w ∷ u ∷ k ∷ z ∷ y ∷ kz ∷ []) = if e then w && (not s && not d) else r && (not a && (n && (not s && not d)))
eval_promise _ _ = false

abbrev pub start_promise : List Bool → List Bool → Bool
start_promise (r ∷ a ∷ e ∷ m ∷ l ∷ s ∷ d ∷ []) (n ∷ w ∷ u ∷ k ∷ z ∷ y ∷ kz ∷ []) = if s then d else r && (k && (not e && (not a && (n && (not s && not d)))))
start_promise _ _ = false

abbrev pub at_first : List Bool → Bool
at_first (r ∷ a ∷ e ∷ m ∷ l ∷ s ∷ d ∷ []) = implies (not r && not a) (not e && (not m && (not l && not s)))
at_first _ = false

-- where nothing of its own may move the request or a branch's answer may, or a rail, or a guard is awaited
abbrev pub may_wait : Machine → List Bool → List Bool → Bool
may_wait M c q = (can M 0 c q || can M 6 c q) || ((not (bit_at c 2) && not (bit_at q 0)) || (bit_at c 2 && not (bit_at c 4)))

abbrev pub select_moves : Machine
select_moves = record {
  size = 7;
  eval = 2;
  latch = 4;
  own = λ j. not (j == 0) && not (j == 6);
  up = select_up;
  down = select_down;
  control = select_control;
  fit = select_fit;
  extra = λ c q. true;
}

abbrev pub waits_test : Machine → List Bool → List Bool → Bool
waits_test M c q = can M 1 c q || (can M 2 c q || (can M 3 c q || (can M 4 c q || (can M 5 c q || may_wait M c q))))

abbrev pub select_extra : List Bool → List Bool → Bool
select_extra c q =
    implies (can select_moves 1 c q) (answer_promise c q)
    && (implies (can select_moves 2 c q) (eval_promise c q)
    && (implies (can select_moves 5 c q) (start_promise c q) && (at_first c && waits_test select_moves c q)))

abbrev pub select_machine : Machine
select_machine = record select_moves { extra = select_extra }

select_whole : whole_test select_machine ≡ true
select_whole = refl

abbrev pub select_frame : SelectNodes → List ℕ
select_frame c = c.request ∷ c.answer ∷ c.eval ∷ c.any ∷ []

pub select_setting : (c : SelectNodes) → AreApart (select_nodes c) → Setting select_machine (select_frame c) c.branches c.eval
select_setting c apart = record {
  apart = distinct_from (select_nodes c) apart;
  long = refl;
  size = refl;
  inside = omega arith;
  there = refl;
  whole = select_whole;
  second = omega arith;
  request_up = λ v noted p. refl;
  request_down = λ v noted p. refl;
  answer_up = λ v noted p. refl;
  answer_down = λ v noted p. refl;
}

abbrev Rule : SelectNodes → BranchPlace → Owned → ℕ → Type 0
Rule c p o j = AsRule select_machine (select_frame c) c.branches p o j

answer_rule : (c : SelectNodes) (p : BranchPlace) → IsPlace c.branches p → Rule c p (owned c.answer (joined_answer c.any (answers_of c.branches))) 1
answer_rule c p is = record {
  less = omega arith;
  own = refl;
  at = refl;
  up = λ v noted calm. some_terms v (answers_of c.branches) ∙ ap (λ (xs : List Branch). not (all_low v (answers_of xs))) is ∙ ap not (only_answer v p calm);
  down = λ v noted calm. ap (λ b. (not (v c.any) && b) || false) (low_terms v (answers_of c.branches) ∙ ap (λ (xs : List Branch). all_low v (answers_of xs)) is
      ∙ only_answer v p calm);
}

eval_rule : (c : SelectNodes) (p : BranchPlace) → IsPlace c.branches p → Rule c p (owned c.eval (evaluation c.request c.any)) 2
eval_rule c p is = record { less = omega arith; own = refl; at = refl; up = λ v noted calm. refl; down = λ v noted calm. refl }

any_rule : (c : SelectNodes) (p : BranchPlace) → IsPlace c.branches p → Rule c p (owned c.any (or_of (latches_of c.branches))) 3
any_rule c p is = record {
  less = omega arith;
  own = refl;
  at = refl;
  up = λ v noted calm. ap (guard_holds v) (or_up (latches_of c.branches)) ∙ some_terms v (latches_of c.branches)
      ∙ ap (λ (xs : List Branch). not (all_low v (latches_of xs))) is ∙ ap not (only_latch v p calm);
  down = λ v noted calm.
      ap (λ (xs : List Branch). guard_holds v (or_of (latches_of xs)).down) is ∙ ap (guard_holds v) (or_down p.before p.this p.behind)
      ∙ ap (λ b. b || false) (low_terms v (latches_of (p.before ++ p.this ∷ p.behind)) ∙ only_latch v p calm);
}

latch_placed : (c : SelectNodes) (q : BranchPlace) → IsPlace c.branches q → AsPlaced select_machine (select_frame c) c.branches q (latch_owned c.request q) 4
latch_placed c q is = record {
  is = is;
  rule = record { less = omega arith; own = refl; at = refl; up = λ v noted calm. latch_up v c.request q; down = λ v noted calm. refl };
  which = inl refl;
  low = λ v quiet. quiet.latch;
  still = λ v still. latch_still v c.request q still;
}

start_placed : (c : SelectNodes) (q : BranchPlace) → IsPlace c.branches q →
    AsPlaced select_machine (select_frame c) c.branches q (start_owned (guards_of c.branches) q) 5
start_placed c q is = record {
  is = is;
  rule = record { less = omega arith; own = refl; at = refl; up = λ v noted calm. start_up v c.branches q; down = λ v noted calm. refl };
  which = inr refl;
  low = λ v quiet. quiet.start;
  still = λ v still. start_still v c.branches q still;
}

in_frame : (c : SelectNodes) (o x : Owned) (j : ℕ) → j < 4 → o ≡ x → ((p : BranchPlace) → IsPlace c.branches p → Rule c p x j) →
    InFrame select_machine (select_frame c) c.branches o
in_frame c o x j lt e rule = (j, lt, λ p is. subst (λ (o : Owned). Rule c p o j) (sym e) (rule p is))

select_owns : (c : SelectNodes) (o : Owned) → Contains (select_owned c) o →
    InFrame select_machine (select_frame c) c.branches o ⊎ InBranch select_machine (select_frame c) c.branches o
select_owns c o h =
    let a = owned c.answer (joined_answer c.any (answers_of c.branches)) in
    let e = owned c.eval (evaluation c.request c.any) in
    let m = owned c.any (or_of (latches_of c.branches)) in
    let rest = branches_owned c.request c.branches in
    ⊎_elim (λ (same : o ≡ a). inl (in_frame c o a 1 (omega arith) same (answer_rule c)))
    (λ more. ⊎_elim (λ (same : o ≡ e). inl (in_frame c o e 2 (omega arith) same (eval_rule c)))
    (λ further. ⊎_elim (λ (same : o ≡ m). inl (in_frame c o m 3 (omega arith) same (any_rule c)))
    (λ last. ⊎_elim
    (λ (l : IsMade c.branches (latch_owned c.request) o). inr (
      l.0,
      4,
      subst (λ (o : Owned). AsPlaced select_machine (select_frame c) c.branches l.0 o 4) (sym l.2) (latch_placed c l.0 l.1),
    ))
    (λ (s : IsMade c.branches (start_owned (guards_of c.branches)) o). inr (
      s.0,
      5,
      subst (λ (o : Owned). AsPlaced select_machine (select_frame c) c.branches s.0 o 5) (sym s.2) (start_placed c s.0 s.1),
    ))
    (branch_own c.request c.branches o last))
    (contains_cons m rest o further))
    (contains_cons e (m ∷ rest) o more))
    (contains_cons a (e ∷ m ∷ rest) o h)

pub select_is_part : (c : SelectNodes) → IsPart select_machine (select_frame c) c.branches c.request c.answer c.eval (plain_select c)
select_is_part c = record {
  own = select_owns c;
  wires = λ w h. ⊎_elim (λ e. inl e) (λ more. inr (wire_in c.eval [] c.branches w more))
      (contains_cons (request_wire c.request c.answer) (branch_wires c.eval c.branches) w h);
  first = refl;
  second = refl;
}

-- what the table adds, seen from a branch
abbrev ctl : SelectNodes → Moment → BranchPlace → List Bool
ctl c m p = map m.value (controls (select_frame c) p)

abbrev rls : SelectNodes → Moment → BranchPlace → List Bool
rls c m p = seen_rails m.value m.noted c.branches p

abbrev pub Sees : SelectNodes → Moment → BranchPlace → Type 0
Sees c m p = View select_machine (select_frame c) c.branches m p

extras : (c : SelectNodes) → AreApart (select_nodes c) → (m : Moment) (p : BranchPlace) → Sees c m p → select_extra (ctl c m p) (rls c m p) ≡ true
extras c apart m p view = extra_of select_machine (ctl c m p) (rls c m p)
    (state_of select_machine (select_frame c) c.branches c.eval m p (select_setting c apart) view)

answers_is : (c : SelectNodes) (v : ℕ → Bool) (p : BranchPlace) → IsPlace c.branches p → is_calm v p ≡ true →
    all_low v (answers_of c.branches) ≡ not (v p.this.answer)
answers_is c v p is calm = ap (λ (xs : List Branch). all_low v (answers_of xs)) is ∙ only_answer v p calm

answer_holds : (c : SelectNodes) → AreApart (select_nodes c) → (m : Moment) (p : BranchPlace) → Sees c m p →
    can select_machine 1 (ctl c m p) (rls c m p) ≡ true →
    may_move m (select_answer c) ≡ true
answer_holds c apart m p view may =
    let v = m.value in
    let promise = implies_at _ (answer_promise (ctl c m p) (rls c m p))
    (and_left (implies (can select_machine 1 (ctl c m p) (rls c m p)) (answer_promise (ctl c m p) (rls c m p))) _ (extras c apart m p view)) may in
    ap (λ i. if v c.answer then not (v c.request) && (not (v c.eval) && i) else v c.request && not (all_low v (answers_of c.branches)))
    (idle_is v c.branches p view.is view.calm)
    ∙ ap (λ i. if v c.answer then not (v c.request) && (not (v c.eval) && (not (v p.this.start) && not (v p.this.answer))) else v c.request && not i)
    (answers_is c v p view.is view.calm) ∙ promise

eval_holds : (c : SelectNodes) → AreApart (select_nodes c) → (m : Moment) (p : BranchPlace) → Sees c m p → can select_machine 2 (ctl c m p) (rls c m p) ≡ true →
    may_move m (eval_wire c.request c.answer c.eval c.branches) ≡ true
eval_holds c apart m p view may =
    let v = m.value in
    let q = rls c m p in
    let tests = and_right (implies (can select_machine 1 (ctl c m p) q) (answer_promise (ctl c m p) q)) _ (extras c apart m p view) in
    let promise = implies_at _ (eval_promise (ctl c m p) q) (and_left (implies (can select_machine 2 (ctl c m p) q) (eval_promise (ctl c m p) q)) _ tests) may
    in
    let strong = weaker (v c.eval) (alone_true v p) (guards_valid v c.branches) (not (v p.this.start) && not (v p.this.answer)) (v c.request
    && (not (v c.answer) && (guards_neutral v c.branches && (not (v p.this.start) && not (v p.this.answer)))))
    (alone_valid v c.branches p view.is view.single) promise in
    ap (λ i. if v c.eval then guards_valid v c.branches && i else v c.request && (not (v c.answer) && (guards_neutral v c.branches && i)))
    (idle_is v c.branches p view.is view.calm) ∙ strong

start_holds : (c : SelectNodes) → AreApart (select_nodes c) → (m : Moment) (p : BranchPlace) → Sees c m p →
    can select_machine 5 (ctl c m p) (rls c m p) ≡ true →
    may_move m (start_wire c.request c.answer c.eval c.branches p) ≡ true
start_holds c apart m p view may =
    let v = m.value in
    let q = rls c m p in
    let tests = and_right (implies (can select_machine 2 (ctl c m p) q) (eval_promise (ctl c m p) q)) _
    (and_right (implies (can select_machine 1 (ctl c m p) q) (answer_promise (ctl c m p) q)) _ (extras c apart m p view)) in
    let promise = implies_at _ (start_promise (ctl c m p) q) (and_left (implies (can select_machine 5 (ctl c m p) q) (start_promise (ctl c m p) q)) _ tests) may
    in
    ap (λ i. if v p.this.start then v p.this.answer else v c.request
    && (alone_true m.noted p && (not (v c.eval) && (not (v c.answer) && (guards_neutral v c.branches && i))))) (idle_is v c.branches p view.is view.calm)
    ∙ promise

promise_of : (c : SelectNodes) → AreApart (select_nodes c) → (m : Moment) (w : Wire) → Contains (plain_select c).promises w →
    IsPromise select_machine (select_frame c) c.branches m w
promise_of c apart m w h =
    let e = eval_wire c.request c.answer c.eval c.branches in
    let starts = start_wires c.request c.answer c.eval c.branches in
    ⊎_elim
    (λ (same : w ≡ select_answer c). inl (
      1,
      record {
        less = omega arith;
        at = λ p is. ap (λ (w : Wire). w.node) same;
        holds =
            λ p view may. ap (may_move m) same ∙ answer_holds c apart m p view may;
      },
    ))
    (λ more. ⊎_elim
    (λ (same : w ≡ e). inl (
      2,
      record {
        less = omega arith;
        at = λ p is. ap (λ (w : Wire). w.node) same;
        holds =
            λ p view may. ap (may_move m) same ∙ eval_holds c apart m p view may;
      },
    ))
    (λ last. let r = place_in (start_wire c.request c.answer c.eval c.branches) [] c.branches w last in
    inr (r.0, record { is = r.1; at = ap (λ (w : Wire). w.node) r.2; holds = λ view may. ap (may_move m) r.2 ∙ start_holds c apart m r.0 view may }))
    (contains_cons e starts w more))
    (contains_cons (select_answer c) (e ∷ starts) w h)

-- as at first where the request and the answer are low
lows_of : (c : SelectNodes) → AreApart (select_nodes c) → (m : Moment) (p : BranchPlace) → Sees c m p → all_low m.value (c.request ∷ c.answer ∷ []) ≡ true →
    all_low m.value (select_inner c) ≡ true
lows_of c apart m p view low =
    let v = m.value in
    let q = rls c m p in
    let tests = and_right (implies (can select_machine 5 (ctl c m p) q) (start_promise (ctl c m p) q)) _
    (and_right (implies (can select_machine 2 (ctl c m p) q) (eval_promise (ctl c m p) q)) _
    (and_right (implies (can select_machine 1 (ctl c m p) q) (answer_promise (ctl c m p) q)) _ (extras c apart m p view))) in
    let a = and_left (not (v c.answer)) true (and_right (not (v c.request)) (not (v c.answer) && true) low) in
    let first = implies_at (not (v c.request) && not (v c.answer)) _ (and_left (at_first (ctl c m p)) (waits_test select_moves (ctl c m p) q) tests)
    (both _ _ (and_left (not (v c.request)) _ low) a) in
    let second = and_right (not (v c.eval)) _ first in
    let third = and_right (not (v c.any)) _ second in
    both _ _ a (both _ _ (and_left (not (v c.eval)) _ first) (both _ _ (and_left (not (v c.any)) _ second)
    (low_append v (latches_of c.branches) (starts_of c.branches)
    ∙ both _ _ (ap (λ (xs : List Branch). all_low v (latches_of xs)) view.is ∙ only_latch v p view.calm ∙ and_left (not (v p.this.latch)) _ third)
    (ap (λ (xs : List Branch). all_low v (starts_of xs)) view.is ∙ only_start v p view.calm ∙ and_right (not (v p.this.latch)) _ third))))

abbrev Waits : SelectNodes → Moment → Type 0
Waits c m = ((w : Wire) × Contains (plain_select c).allows w × (may_move m w ≡ true)) ⊎ ((plain_select c).blocked m.value ≡ true)

by_branch : (c : SelectNodes) (m : Moment) → MayMove m c.eval c.branches → Waits c m
by_branch c m h = inl (h.0, contains_next (request_wire c.request c.answer) (branch_wires c.eval c.branches) h.0 h.1, h.2)

latch_low : (c : SelectNodes) (m : Moment) (p q : BranchPlace) → Sees c m p → IsPlace c.branches q → m.value p.this.latch ≡ false → m.value q.this.latch ≡ false
latch_low c m p q view at low =
    ⊎_elim (λ (same : p ≡ q). ap (λ (r : BranchPlace). m.value r.this.latch) (sym same) ∙ low)
    (λ (apart : Apart p q). (quiet_among m.value p q.this view.calm apart.second).latch) (one_or_apart c.branches p q view.is at)

-- no latch may rise: no guard is true alone
latch_fires : (c : SelectNodes) (m : Moment) (q : BranchPlace) → m.value q.this.latch ≡ false → alone_true m.value q ≡ true →
    fires m.value (latch_owned c.request q) ≡ true
latch_fires c m q low alone =
    ap (λ b. if b then guard_holds m.value (latch_owned c.request q).rules.down else guard_holds m.value (latch_owned c.request q).rules.up) low
    ∙ latch_up m.value c.request q ∙ ap (λ b. b || false) alone

awaits : (c : SelectNodes) (m : Moment) (p : BranchPlace) → Sees c m p → ((o : Owned) → Contains (select_owned c) o → fires m.value o ≡ false) →
    m.value c.eval ≡ true → m.value p.this.latch ≡ false → (valid one : Bool) → guards_valid m.value c.branches ≡ valid → one_true m.value c.branches ≡ one →
    Waits c m
awaits c m p view none e low false one is_valid is_one = by_branch c m (low_may m c.eval c.branches e (low_guard m.value c.branches view.single is_valid))
awaits c m p view none e low true false is_valid is_one = inr (both _ _ is_valid (true_not _ is_one))
awaits c m p view none e low true true is_valid is_one =
    let q = one_place m.value c.branches is_valid is_one in
    let there = subst (λ (xs : List Branch). Contains (branches_owned c.request xs) (latch_owned c.request q.0)) (sym q.1) (latch_there c.request q.0) in
    let a = owned c.answer (joined_answer c.any (answers_of c.branches)) in
    let ev = owned c.eval (evaluation c.request c.any) in
    let an = owned c.any (or_of (latches_of c.branches)) in
    let among = contains_next a (ev ∷ an ∷ branches_owned c.request c.branches) (latch_owned c.request q.0)
    (contains_next ev (an ∷ branches_owned c.request c.branches) (latch_owned c.request q.0)
    (contains_next an (branches_owned c.request c.branches) (latch_owned c.request q.0) there)) in
    absurd (true_false (latch_fires c m q.0 (latch_low c m p q.0 view q.1 low) q.2) (none (latch_owned c.request q.0) among))

waits_of : (c : SelectNodes) → AreApart (select_nodes c) → (m : Moment) (p : BranchPlace) → Sees c m p →
    ((o : Owned) → Contains (select_owned c) o → fires m.value o ≡ false) → Waits c m
waits_of c apart m p view none =
    let v = m.value in
    let s = select_setting c apart in
    let cs = ctl c m p in
    let q = rls c m p in
    let tests = and_right (at_first cs) _ (and_right (implies (can select_machine 5 cs q) (start_promise cs q)) _
    (and_right (implies (can select_machine 2 cs q) (eval_promise cs q)) _
    (and_right (implies (can select_machine 1 cs q) (answer_promise cs q)) _ (extras c apart m p view)))) in
    let a = owned c.answer (joined_answer c.any (answers_of c.branches)) in
    let e = owned c.eval (evaluation c.request c.any) in
    let n = owned c.any (or_of (latches_of c.branches)) in
    let l = latch_owned c.request p in
    let st = start_owned (guards_of c.branches) p in
    let rest = branches_owned c.request c.branches in
    let latch_in = subst (λ (xs : List Branch). Contains (branches_owned c.request xs) (latch_owned c.request p)) (sym view.is) (latch_there c.request p) in
    let start_in = subst (λ (xs : List Branch). Contains (branches_owned c.request xs) (start_owned (guards_of xs) p)) (sym view.is) (start_there c.request p)
    in
    let behind : (o : Owned) → Contains rest o → Contains (select_owned c) o =
    λ o h. contains_next a (e ∷ n ∷ rest) o (contains_next e (n ∷ rest) o (contains_next n rest o h)) in
    let one = sym (fires_is select_machine (select_frame c) c.branches c.eval v m.noted p a 1 s view.calm (answer_rule c p view.is))
    ∙ none a (contains_here a (e ∷ n ∷ rest)) in
    let two = sym (fires_is select_machine (select_frame c) c.branches c.eval v m.noted p e 2 s view.calm (eval_rule c p view.is))
    ∙ none e (contains_next a (e ∷ n ∷ rest) e (contains_here e (n ∷ rest))) in
    let three = sym (fires_is select_machine (select_frame c) c.branches c.eval v m.noted p n 3 s view.calm (any_rule c p view.is))
    ∙ none n (contains_next a (e ∷ n ∷ rest) n (contains_next e (n ∷ rest) n (contains_here n rest))) in
    let four = sym (fires_is select_machine (select_frame c) c.branches c.eval v m.noted p l 4 s view.calm (latch_placed c p view.is).rule)
    ∙ none l (behind l latch_in) in
    let five = sym (fires_is select_machine (select_frame c) c.branches c.eval v m.noted p st 5 s view.calm (start_placed c p view.is).rule)
    ∙ none st (behind st start_in) in
    let wait = or_rest (can select_machine 5 cs q) (may_wait select_moves cs q) five
    (or_rest (can select_machine 4 cs q) _ four
    (or_rest (can select_machine 3 cs q) _ three (or_rest (can select_machine 2 cs q) _ two (or_rest (can select_machine 1 cs q) _ one tests)))) in
    ⊎_elim
    (λ (h : (can select_machine 0 cs q || can select_machine 6 cs q) ≡ true). ⊎_elim
    (λ (r : can select_machine 0 cs q ≡ true). inl (
      request_wire c.request c.answer,
      contains_here (request_wire c.request c.answer) (branch_wires c.eval c.branches),
      r,
    ))
    (λ (d : can select_machine 6 cs q ≡ true). by_branch c m (answer_may m c.eval c.branches p view.is d))
    (or_cases (can select_machine 0 cs q) (can select_machine 6 cs q) h))
    (λ (h : ((not (v c.eval) && not (guards_neutral v c.branches)) || (v c.eval && not (v p.this.latch))) ≡ true). ⊎_elim
    (λ (r : (not (v c.eval) && not (guards_neutral v c.branches)) ≡ true).
    by_branch c m (high_may m c.eval c.branches (not_true _ (and_left (not (v c.eval)) _ r))
    (some_rail v c.branches (not_true _ (and_right (not (v c.eval)) _ r)))))
    (λ (r : (v c.eval && not (v p.this.latch)) ≡ true). awaits c m p view none (and_left (v c.eval) _ r) (not_true _ (and_right (v c.eval) _ r))
    (guards_valid v c.branches) (one_true v c.branches) refl refl)
    (or_cases (not (v c.eval) && not (guards_neutral v c.branches)) (v c.eval && not (v p.this.latch)) h))
    (or_cases (can select_machine 0 cs q || can select_machine 6 cs q) _ wait)

abbrev pub Reaches : SelectNodes → Moment → Type 0
Reaches c m = (p : BranchPlace) × Sees c m p

-- first values
fit_first : (q : List Bool) (n w u k z y kz : Bool) → q ≡ n ∷ w ∷ u ∷ k ∷ z ∷ y ∷ kz ∷ [] → n ≡ true → consistent q ≡ true →
    select_fit (false ∷ false ∷ false ∷ false ∷ false ∷ false ∷ false ∷ []) q ≡ true
fit_first q n w u k z y kz e low con =
    ap (select_fit (false ∷ false ∷ false ∷ false ∷ false ∷ false ∷ false ∷ [])) e ∙ both _ _ (ap consistent (sym e) ∙ con) (both _ _ low refl)

first_by : (c : SelectNodes) → AreApart (select_nodes c) → (b : Branch) (rest : List Branch) → c.branches ≡ b ∷ rest → (v : ℕ → Bool) →
    IsFirstState (plain_select c) v → Reaches c (record { value = v; noted = λ n. false })
first_by c apart b rest is v first =
    let p = at_place [] b rest in
    let wires = first_wires v c.eval c.branches (and_right (not (v c.request)) _ first.outside) in
    let own = first.own in
    let second = and_right (not (v c.answer)) _ own in
    let third = and_right (not (v c.eval)) _ second in
    let fourth = sym (low_append v (latches_of c.branches) (starts_of c.branches)) ∙ and_right (not (v c.any)) _ third in
    let quiet = all_quiet v c.branches p is (controls_low v c.branches (and_left (all_low v (latches_of c.branches)) _ fourth)
    (and_right (all_low v (latches_of c.branches)) _ fourth) wires.answers) in
    let single = neutral_single v c.branches wires.neutral in
    let low : map v (controls (select_frame c) p) ≡ false ∷ false ∷ false ∷ false ∷ false ∷ false ∷ false ∷ [] =
    rw (
      not_true _ (and_left (not (v c.request)) _ first.outside),
      not_true _ (and_left (not (v c.answer)) _ own),
      not_true _ (and_left (not (v c.eval)) _ second),
      not_true _ (and_left (not (v c.any)) _ third),
      quiet.quiet.latch,
      quiet.quiet.start,
      quiet.quiet.answer,
    ) refl in
    let noted : ℕ → Bool = λ n. false in (
      p,
      record {
        is = is;
        calm = quiet.calm;
        single = single;
        control = ap select_control low;
        fit = ap (λ d. select_fit d (seen_rails v noted c.branches p)) low
            ∙ fit_first (seen_rails v noted c.branches p) (guards_neutral v c.branches) (alone_true v p) _ (alone_true noted p) (guards_false v c.branches)
            (none_true v c.branches) (guards_false noted c.branches) refl wires.neutral (rails_consistent v noted c.branches p is single);
      },
    )

pub first_of : (c : SelectNodes) → AreApart (select_nodes c) → (bs : List Branch) → c.branches ≡ bs → 0 < length bs → (v : ℕ → Bool) →
    IsFirstState (plain_select c) v → Reaches c (record { value = v; noted = λ n. false })
first_of c apart [] is some v first = absurd (omega (arith, some))
first_of c apart (b ∷ rest) is some v first = first_by c apart b rest is v first

pub kept_of : (c : SelectNodes) → AreApart (select_nodes c) → (m : Moment) → Reaches c m → IsKept (plain_select c) m
kept_of c apart m h =
    let s = select_setting c apart in
    let part_is = select_is_part c in
    record {
      promised = λ o among f w promise e. promised_of select_machine (select_frame c) c.branches c.request c.answer c.eval (plain_select c) m h.0 s part_is h.1
          o among f w (promise_of c apart m w promise) e;
      firm = λ o among f node move ne. firm_of select_machine (select_frame c) c.branches c.request c.answer c.eval (plain_select c) m h.0 s part_is h.1 o among
          f node move ne;
      apart = λ o among. apart_of select_machine (select_frame c) c.branches c.request c.answer c.eval (plain_select c) m h.0 s part_is h.1 o among;
      lows = λ low. lows_of c apart m h.0 h.1 low;
      bits = λ low. refl;
      waits = λ none. waits_of c apart m h.0 h.1 none;
    }
