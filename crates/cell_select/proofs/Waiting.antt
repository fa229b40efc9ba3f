-- Rails that may move, and guards that are valid.
use Rattle.std.proofs.Common.{◌≡◌, ℕ, Bool, true, false, not, List, [], ◌∷◌, ◌++◌, map, ap, sym, ◌∙◌, refl, subst, inl, inr, ◌⊎◌}
use Rattle.std.specs.Prelude.{◌&&◌, ◌||◌, if◌then◌else◌, Contains}
use Rattle.std.proofs.Math.Logic.{⊎_elim}
use Rattle.std.proofs.lemmas.List.Folds.{list_all-append}
use Rattle.prs_core.specs.Moves.{guard_holds}
use Rattle.prs_core.specs.Pairs.{rails_of}
use Rattle.prs_core.specs.Parts.{Moment, Wire, all_low, is_valid, may_move}
use Rattle.cell_select.specs.Contract.{Branch, BranchPlace, latches_of, starts_of, answers_of, guards_of, controls_of, guards_neutral, guards_valid, guards_false, none_true, alone_true, one_true, branches_idle, branch_wires}
use Rattle.cell_select.proofs.Tables.{and_left, and_right, both, not_true, true_not}
use Rattle.cell_select.proofs.Places.{IsPlace, at_place, t_wire, f_wire, d_wire, t_there, f_there, d_there, latch_owned, start_owned}
use Rattle.cell_select.proofs.Rails.{is_single, guards_single, wanted_is, low_terms, is_calm, only_start, only_answer}
use Rattle.cell_select.proofs.Views.{IsStill}

pub or_rest : (a b : Bool) → a ≡ false → (a || b) ≡ true → b ≡ true
or_rest true b e h = absurd (cc e)
or_rest false b e h = h

-- a weaker test in place of one
pub weaker : (e w x rest other : Bool) → (w ≡ true → x ≡ true) → (if e then w && rest else other) ≡ true → (if e then x && rest else other) ≡ true
weaker true w x rest other h f = both _ _ (h (and_left w rest f)) (and_right w rest f)
weaker false w x rest other h f = f

pub or_cases : (a b : Bool) → (a || b) ≡ true → (a ≡ true) ⊎ (b ≡ true)
or_cases true b h = inl refl
or_cases false b h = inr h

-- a branch somewhere in the list, as a place
abbrev further : Branch → BranchPlace → BranchPlace
further x q = at_place (x ∷ q.before) q.this q.behind

further_is : (x : Branch) (bs : List Branch) (q : BranchPlace) → IsPlace bs q → IsPlace (x ∷ bs) (further x q)
further_is x bs q is = ap (λ (ys : List Branch). x ∷ ys) is

abbrev pub HighRail : (ℕ → Bool) → List Branch → Type 0
HighRail v bs = (q : BranchPlace) × (IsPlace bs q) × ((v q.this.guard.t ≡ true) ⊎ (v q.this.guard.f ≡ true))

some_rail_by : (v : ℕ → Bool) (b : Branch) (bs : List Branch) (t f : Bool) → v b.guard.t ≡ t → v b.guard.f ≡ f → guards_neutral v (b ∷ bs) ≡ false →
    (guards_neutral v bs ≡ false → HighRail v bs) → HighRail v (b ∷ bs)
some_rail_by v b bs true f e g h rest = (at_place [] b bs, refl, inl e)
some_rail_by v b bs false true e g h rest = (at_place [] b bs, refl, inr g)
some_rail_by v b bs false false e g h rest =
    let more = rest (sym (ap (λ t. not t && (not (v b.guard.f) && guards_neutral v bs)) e ∙ ap (λ f. not f && guards_neutral v bs) g) ∙ h) in
    (further b more.0, further_is b bs more.0 more.1, more.2)

pub some_rail : (v : ℕ → Bool) (bs : List Branch) → guards_neutral v bs ≡ false → HighRail v bs
some_rail v [] h = absurd (cc h)
some_rail v (b ∷ bs) h = some_rail_by v b bs (v b.guard.t) (v b.guard.f) refl refl h (some_rail v bs)

abbrev pub LowGuard : (ℕ → Bool) → List Branch → Type 0
LowGuard v bs = (q : BranchPlace) × (IsPlace bs q) × (v q.this.guard.t ≡ false) × (v q.this.guard.f ≡ false)

low_guard_by : (v : ℕ → Bool) (b : Branch) (bs : List Branch) (t f : Bool) → v b.guard.t ≡ t → v b.guard.f ≡ f → is_single v b.guard ≡ true →
    guards_valid v (b ∷ bs) ≡ false → (guards_valid v bs ≡ false → LowGuard v bs) → LowGuard v (b ∷ bs)
low_guard_by v b bs true true e g s h rest = absurd (cc (e, g, s))
low_guard_by v b bs false false e g s h rest = (at_place [] b bs, refl, e, g)
low_guard_by v b bs true false e g s h rest =
    let more = rest (sym (ap (λ x. x && guards_valid v bs) (ap (λ t. t && not (v b.guard.f) || not t && v b.guard.f) e ∙ ap (λ f. not f || false && f) g)) ∙ h)
    in
    (further b more.0, further_is b bs more.0 more.1, more.2, more.3)
low_guard_by v b bs false true e g s h rest =
    let more = rest (sym (ap (λ x. x && guards_valid v bs) (ap (λ t. t && not (v b.guard.f) || not t && v b.guard.f) e ∙ ap (λ f. false && not f || f) g)) ∙ h)
    in
    (further b more.0, further_is b bs more.0 more.1, more.2, more.3)

pub low_guard : (v : ℕ → Bool) (bs : List Branch) → guards_single v bs ≡ true → guards_valid v bs ≡ false → LowGuard v bs
low_guard v [] s h = absurd (cc h)
low_guard v (b ∷ bs) s h =
    low_guard_by v b bs (v b.guard.t) (v b.guard.f) refl refl (and_left (is_single v b.guard) (guards_single v bs) s) h
    (low_guard v bs (and_right (is_single v b.guard) (guards_single v bs) s))

valid_cases : (t f : Bool) → (t && not f || not t && f) ≡ true → t ≡ false → f ≡ true
valid_cases true f h e = absurd (cc e)
valid_cases false f h e = h

-- valid guards of which none is true are false
pub valid_false : (v : ℕ → Bool) (bs : List Branch) → guards_valid v bs ≡ true → none_true v bs ≡ true → guards_false v bs ≡ true
valid_false v [] h n = refl
valid_false v (b ∷ bs) h n =
    both _ _ (valid_cases (v b.guard.t) (v b.guard.f) (and_left (is_valid v b.guard) (guards_valid v bs) h)
    (not_true _ (and_left (not (v b.guard.t)) (none_true v bs) n)))
    (valid_false v bs (and_right (is_valid v b.guard) (guards_valid v bs) h) (and_right (not (v b.guard.t)) (none_true v bs) n))

abbrev pub AlonePlace : (ℕ → Bool) → List Branch → Type 0
AlonePlace v bs = (q : BranchPlace) × (IsPlace bs q) × (alone_true v q ≡ true)

one_place_by : (v : ℕ → Bool) (b : Branch) (bs : List Branch) (t : Bool) → v b.guard.t ≡ t → guards_valid v (b ∷ bs) ≡ true →
    (if t then none_true v bs else one_true v bs) ≡ true → (one_true v bs ≡ true → AlonePlace v bs) → AlonePlace v (b ∷ bs)
one_place_by v b bs true e h one rest =
    (at_place [] b bs, refl, both _ _ e (valid_false v bs (and_right (is_valid v b.guard) (guards_valid v bs) h) one))
one_place_by v b bs false e h one rest =
    let more = rest one in
    let f = valid_cases (v b.guard.t) (v b.guard.f) (and_left (is_valid v b.guard) (guards_valid v bs) h) e in
    let others = and_right (v more.0.this.guard.t) (guards_false v more.0.before && guards_false v more.0.behind) more.2 in (
      further b more.0,
      further_is b bs more.0 more.1,
      both _ _ (and_left (v more.0.this.guard.t) (guards_false v more.0.before && guards_false v more.0.behind) more.2)
          (both _ _ (both _ _ f (and_left (guards_false v more.0.before) (guards_false v more.0.behind) others))
          (and_right (guards_false v more.0.before) (guards_false v more.0.behind) others)),
    )

-- where exactly one of the valid guards is true it is so alone
pub one_place : (v : ℕ → Bool) (bs : List Branch) → guards_valid v bs ≡ true → one_true v bs ≡ true → AlonePlace v bs
one_place v [] h one = absurd (cc one)
one_place v (b ∷ bs) h one = one_place_by v b bs (v b.guard.t) refl h one (one_place v bs (and_right (is_valid v b.guard) (guards_valid v bs) h))

valid_t : (t f : Bool) → not (t && f) ≡ true → t ≡ true → (t && not f || not t && f) ≡ true
valid_t true true s e = absurd (cc s)
valid_t true false s e = refl
valid_t false f s e = absurd (cc e)

valid_f : (t f : Bool) → not (t && f) ≡ true → f ≡ true → (t && not f || not t && f) ≡ true
valid_f true true s e = absurd (cc s)
valid_f false true s e = refl
valid_f t false s e = absurd (cc e)

pub false_valid : (v : ℕ → Bool) (bs : List Branch) → guards_single v bs ≡ true → guards_false v bs ≡ true → guards_valid v bs ≡ true
false_valid v [] s h = refl
false_valid v (b ∷ bs) s h =
    both _ _ (valid_f (v b.guard.t) (v b.guard.f) (and_left (is_single v b.guard) (guards_single v bs) s) (and_left (v b.guard.f) (guards_false v bs) h))
    (false_valid v bs (and_right (is_single v b.guard) (guards_single v bs) s) (and_right (v b.guard.f) (guards_false v bs) h))

alone_parts : (v : ℕ → Bool) (before : List Branch) (b : Branch) (behind : List Branch) → guards_single v (before ++ b ∷ behind) ≡ true → v b.guard.t ≡ true →
    guards_false v before ≡ true → guards_false v behind ≡ true → guards_valid v (before ++ b ∷ behind) ≡ true
alone_parts v [] b behind s t h k = both _ _ (valid_t (v b.guard.t) (v b.guard.f) (and_left (is_single v b.guard) (guards_single v behind) s) t)
    (false_valid v behind (and_right (is_single v b.guard) (guards_single v behind) s) k)
alone_parts v (x ∷ before) b behind s t h k =
    let rest = guards_single v (before ++ b ∷ behind) in
    both _ _ (valid_f (v x.guard.t) (v x.guard.f) (and_left (is_single v x.guard) rest s) (and_left (v x.guard.f) (guards_false v before) h))
    (alone_parts v before b behind (and_right (is_single v x.guard) rest s) t (and_right (v x.guard.f) (guards_false v before) h) k)

pub alone_valid : (v : ℕ → Bool) (bs : List Branch) (p : BranchPlace) → IsPlace bs p → guards_single v bs ≡ true → alone_true v p ≡ true →
    guards_valid v bs ≡ true
alone_valid v bs p is s h =
    let rest = and_right (v p.this.guard.t) (guards_false v p.before && guards_false v p.behind) h in
    subst (λ (xs : List Branch). guards_valid v xs ≡ true) (sym is)
    (alone_parts v p.before p.this p.behind (subst (λ (xs : List Branch). guards_single v xs ≡ true) is s) (and_left (v p.this.guard.t) _ h)
    (and_left (guards_false v p.before) _ rest) (and_right (guards_false v p.before) _ rest))

-- wires that may move
abbrev pub MayMove : Moment → (eval : ℕ) → List Branch → Type 0
MayMove m eval bs = (w : Wire) × Contains (branch_wires eval bs) w × (may_move m w ≡ true)

pub high_may : (m : Moment) (eval : ℕ) (bs : List Branch) → m.value eval ≡ false → HighRail m.value bs → MayMove m eval bs
high_may m eval bs e h =
    let v = m.value in
    let q = h.0 in
    ⊎_elim (λ t. (
      t_wire eval q,
      subst (λ (xs : List Branch). Contains (branch_wires eval xs) (t_wire eval q)) (sym h.1)
          (t_there eval q.before q.this q.behind),
      ap (λ x. if x then not (v eval) else v eval && (not (v q.this.guard.t) && not (v q.this.guard.f))) t
          ∙ ap not e,
    ))
    (λ f. (
      f_wire eval q,
      subst (λ (xs : List Branch). Contains (branch_wires eval xs) (f_wire eval q)) (sym h.1) (f_there eval q.before q.this q.behind),
      ap (λ x. if x then not (v eval) else v eval && (not (v q.this.guard.t) && not (v q.this.guard.f))) f ∙ ap not e,
    ))
    h.2

pub low_may : (m : Moment) (eval : ℕ) (bs : List Branch) → m.value eval ≡ true → LowGuard m.value bs → MayMove m eval bs
low_may m eval bs e h =
    let v = m.value in
    let q = h.0 in (
      t_wire eval q,
      subst (λ (xs : List Branch). Contains (branch_wires eval xs) (t_wire eval q)) (sym h.1) (t_there eval q.before q.this q.behind),
      ap (λ x. if x then not (v eval) else v eval && (not (v q.this.guard.t) && not (v q.this.guard.f))) h.2
          ∙ both _ _ e (both _ _ (true_not _ h.2) (true_not _ h.3)),
    )

pub answer_may : (m : Moment) (eval : ℕ) (bs : List Branch) (q : BranchPlace) → IsPlace bs q → may_move m (d_wire q) ≡ true → MayMove m eval bs
answer_may m eval bs q is h = (
  d_wire q,
  subst (λ (xs : List Branch). Contains (branch_wires eval xs) (d_wire q)) (sym is)
      (d_there eval q.before q.this q.behind),
  h,
)

-- the rules of a latch and of a start, by the values of the nodes
pub latch_up : (v : ℕ → Bool) (request : ℕ) (p : BranchPlace) → guard_holds v (latch_owned request p).rules.up ≡ (alone_true v p || false)
latch_up v request p = ap (λ b. b || false) (wanted_is v p)

pub start_up : (v : ℕ → Bool) (bs : List Branch) (p : BranchPlace) →
    guard_holds v (start_owned (guards_of bs) p).rules.up ≡ ((v p.this.latch && guards_neutral v bs) || false)
start_up v bs p = ap (λ b. (v p.this.latch && b) || false) (low_terms v (rails_of (guards_of bs)))

pub latch_still : (v : ℕ → Bool) (request : ℕ) (p : BranchPlace) → IsStill v p → guard_holds v (latch_owned request p).rules.up ≡ false
latch_still v request p still = latch_up v request p ∙ ap (λ b. b || false) still.alone

pub start_still : (v : ℕ → Bool) (bs : List Branch) (p : BranchPlace) → IsStill v p → guard_holds v (start_owned (guards_of bs) p).rules.up ≡ false
start_still v bs p still = start_up v bs p ∙ ap (λ b. (b && guards_neutral v bs) || false) still.quiet.latch

-- no branch is under way, seen from one
pub idle_is : (v : ℕ → Bool) (bs : List Branch) (p : BranchPlace) → IsPlace bs p → is_calm v p ≡ true →
    branches_idle v bs ≡ (not (v p.this.start) && not (v p.this.answer))
idle_is v bs p is calm =
    ap (branches_idle v) is ∙ ap (λ a. a && all_low v (answers_of (p.before ++ p.this ∷ p.behind))) (only_start v p calm)
    ∙ ap (λ b. not (v p.this.start) && b) (only_answer v p calm)

-- first values
abbrev wire_nodes : List Wire → List ℕ
wire_nodes ws = map (λ (w : Wire). w.node) ws

pub record FirstWires (v : ℕ → Bool) (bs : List Branch) : Type 0 where
  pub neutral : guards_neutral v bs ≡ true
  pub answers : all_low v (answers_of bs) ≡ true

pub first_wires : (v : ℕ → Bool) (eval : ℕ) (bs : List Branch) → all_low v (map (λ (w : Wire). w.node) (branch_wires eval bs)) ≡ true → FirstWires v bs
first_wires v eval [] h = record { neutral = refl; answers = refl }
first_wires v eval (b ∷ bs) h =
    let more = all_low v (wire_nodes (branch_wires eval bs)) in
    let second = and_right (not (v b.guard.t)) (not (v b.guard.f) && (not (v b.answer) && more)) h in
    let third = and_right (not (v b.guard.f)) (not (v b.answer) && more) second in
    let rest = first_wires v eval bs (and_right (not (v b.answer)) more third) in
    record {
      neutral = both _ _ (and_left (not (v b.guard.t)) (not (v b.guard.f) && (not (v b.answer) && more)) h)
          (both _ _ (and_left (not (v b.guard.f)) (not (v b.answer) && more) second) rest.neutral);
      answers = both _ _ (and_left (not (v b.answer)) more third) rest.answers;
    }

pub low_append : (v : ℕ → Bool) (ns ms : List ℕ) → all_low v (ns ++ ms) ≡ (all_low v ns && all_low v ms)
low_append v ns ms = list_all-append (λ n. not (v n)) ns ms

pub controls_low : (v : ℕ → Bool) (bs : List Branch) → all_low v (latches_of bs) ≡ true → all_low v (starts_of bs) ≡ true → all_low v (answers_of bs) ≡ true →
    all_low v (controls_of bs) ≡ true
controls_low v [] h k l = refl
controls_low v (b ∷ bs) h k l =
    both _ _ (and_left (not (v b.latch)) (all_low v (latches_of bs)) h)
    (both _ _ (and_left (not (v b.start)) (all_low v (starts_of bs)) k) (both _ _ (and_left (not (v b.answer)) (all_low v (answers_of bs)) l)
    (controls_low v bs (and_right (not (v b.latch)) _ h) (and_right (not (v b.start)) _ k) (and_right (not (v b.answer)) _ l))))

pub neutral_single : (v : ℕ → Bool) (bs : List Branch) → guards_neutral v bs ≡ true → guards_single v bs ≡ true
neutral_single v [] h = refl
neutral_single v (b ∷ bs) h =
    let rest = and_right (not (v b.guard.t)) (not (v b.guard.f) && guards_neutral v bs) h in
    both _ _ (ap (λ t. not (t && v b.guard.f)) (not_true _ (and_left (not (v b.guard.t)) (not (v b.guard.f) && guards_neutral v bs) h)))
    (neutral_single v bs (and_right (not (v b.guard.f)) (guards_neutral v bs) rest))
