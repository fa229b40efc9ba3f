-- Every move seen from a branch that it concerns, and what holds of all parts that are such machines.
use Rattle.std.proofs.Common.{◌≡◌, ◌≢◌, ℕ, zero, suc, ◌<◌, ◌+◌, Bool, true, false, not, List, [], ◌∷◌, ◌++◌, length, map, slice_index_or, arith, ap, sym, ◌∙◌, refl, subst, inl, inr, ◌⊎◌}
use Rattle.std.specs.Prelude.{◌&&◌, ◌||◌, if◌then◌else◌, Contains}
use Rattle.std.proofs.Math.Logic.{⊎_elim}
use Rattle.prs_core.specs.Moves.{guard_holds}
use Rattle.prs_core.specs.Pairs.{rails_of}
use Rattle.prs_core.specs.Parts.{Owned, Part, Moment, Wire, IsMove, turned, all_low, fires, may_move}
use Rattle.cell_select.specs.Contract.{Branch, BranchPlace, guards_of, controls_of, guards_neutral, guards_false, none_true, alone_true, as_evaluated, request_wire}
use Rattle.cell_select.proofs.Tables.{implies_at, and_left, and_right, both, not_true, true_not, true_false, no_true}
use Rattle.cell_select.proofs.Distinct.{Fresh, flip, value_at, one_place, distinct_left, distinct_cross, cross_at, fresh_left, fresh_right}
use Rattle.cell_select.proofs.Places.{IsPlace, Among, Apart, one_or_apart, IsBranchWire, t_wire, f_wire, d_wire}
use Rattle.cell_select.proofs.Rails.{is_won, seen_rails, rails_consistent, is_calm, IsQuiet, quiet_among, false_among, among_cases}
use Rattle.cell_select.proofs.RailMoves.{IsRail}
use Rattle.cell_select.proofs.Machines.{Machine, Setting, View, bit_at, can, under_way, won_bit, controls, controls_length, around, state_of, step_of, won_of, both_of, aim_of, control_moved, control_kept, RailMay, rail_kept}

get_right : (xs ys : List ℕ) (i : ℕ) → slice_index_or (xs ++ ys) (length xs + i) 0 ≡ slice_index_or ys i 0
get_right [] ys i = let e : 0 + i ≡ i = omega arith in ap (λ k. slice_index_or ys k 0) e
get_right (x ∷ xs) ys i = let e : suc (length xs) + i ≡ suc (length xs + i) = omega arith in ap (λ k. slice_index_or (x ∷ (xs ++ ys)) k 0) e ∙ get_right xs ys i

-- the last three controls
pub last_there : (M : Machine) (frame : List ℕ) (bs : List Branch) (eval : ℕ) (p : BranchPlace) (i : ℕ) → Setting M frame bs eval →
    slice_index_or (controls frame p) (M.latch + i) 0 ≡ slice_index_or (p.this.latch ∷ p.this.start ∷ p.this.answer ∷ []) i 0
last_there M frame bs eval p i s =
    ap (λ k. slice_index_or (controls frame p) (k + i) 0) (sym s.long) ∙ get_right frame (p.this.latch ∷ p.this.start ∷ p.this.answer ∷ []) i

pub last_value : (M : Machine) (frame : List ℕ) (bs : List Branch) (eval : ℕ) (v : ℕ → Bool) (p : BranchPlace) (i : ℕ) → Setting M frame bs eval → i < 3 →
    bit_at (map v (controls frame p)) (M.latch + i) ≡ v (slice_index_or (p.this.latch ∷ p.this.start ∷ p.this.answer ∷ []) i 0)
last_value M frame bs eval v p i s lt =
    let long = controls_length M frame bs eval p s in
    let size = s.size in
    value_at v (controls frame p) (M.latch + i) (omega (arith, lt, long, size)) ∙ ap v (last_there M frame bs eval p i s)

plus_zero : (n : ℕ) → n + 0 ≡ n
plus_zero n = omega arith

pub latch_value : (M : Machine) (frame : List ℕ) (bs : List Branch) (eval : ℕ) (v : ℕ → Bool) (p : BranchPlace) → Setting M frame bs eval →
    bit_at (map v (controls frame p)) M.latch ≡ v p.this.latch
latch_value M frame bs eval v p s = ap (λ k. bit_at (map v (controls frame p)) k) (sym (plus_zero M.latch)) ∙ last_value M frame bs eval v p 0 s (omega arith)

pub start_value : (M : Machine) (frame : List ℕ) (bs : List Branch) (eval : ℕ) (v : ℕ → Bool) (p : BranchPlace) → Setting M frame bs eval →
    bit_at (map v (controls frame p)) (M.latch + 1) ≡ v p.this.start
start_value M frame bs eval v p s = last_value M frame bs eval v p 1 s (omega arith)

pub answer_value : (M : Machine) (frame : List ℕ) (bs : List Branch) (eval : ℕ) (v : ℕ → Bool) (p : BranchPlace) → Setting M frame bs eval →
    bit_at (map v (controls frame p)) (M.latch + 2) ≡ v p.this.answer
answer_value M frame bs eval v p s = last_value M frame bs eval v p 2 s (omega arith)

-- a branch that does nothing and can't begin
pub record IsStill (v : ℕ → Bool) (q : BranchPlace) : Type 0 where
  pub quiet : IsQuiet v q.this
  pub alone : alone_true v q ≡ false

or_false : (a b : Bool) → (a || b) ≡ false → (a ≡ false) × (b ≡ false)
or_false true b h = absurd (cc h)
or_false false b h = (refl, h)

same_bit : (b : Bool) → (if b then b else not b) ≡ true
same_bit true = refl
same_bit false = refl

or_left : (a b : Bool) → a ≡ true → (a || b) ≡ true
or_left true b h = refl
or_left false b h = absurd (cc h)

-- no control of the branches is high where no branch is under way
low_all : (v : ℕ → Bool) (before : List Branch) (b : Branch) (behind : List Branch) → IsQuiet v b → all_low v (controls_of before) ≡ true →
    all_low v (controls_of behind) ≡ true → all_low v (controls_of (before ++ b ∷ behind)) ≡ true
low_all v [] b behind k h g = both _ _ (true_not _ k.latch) (both _ _ (true_not _ k.start) (both _ _ (true_not _ k.answer) g))
low_all v (x ∷ before) b behind k h g =
    let rest = and_right (not (v x.latch)) _ h in
    let last = and_right (not (v x.start)) _ rest in
    both _ _ (and_left (not (v x.latch)) _ h)
    (both _ _ (and_left (not (v x.start)) _ rest)
    (both _ _ (and_left (not (v x.answer)) _ last) (low_all v before b behind k (and_right (not (v x.answer)) _ last) g)))

pub record AllQuiet (v : ℕ → Bool) (q : BranchPlace) : Type 0 where
  pub calm : is_calm v q ≡ true
  pub quiet : IsQuiet v q.this

quiet_parts : (v : ℕ → Bool) (before : List Branch) (b : Branch) (behind : List Branch) → all_low v (controls_of (before ++ b ∷ behind)) ≡ true →
    (all_low v (controls_of before) ≡ true) × (IsQuiet v b × (all_low v (controls_of behind) ≡ true))
quiet_parts v [] b behind h =
    let rest = and_right (not (v b.latch)) _ h in
    let last = and_right (not (v b.start)) _ rest in (
      refl,
      (
        record {
          latch = not_true _ (and_left (not (v b.latch)) _ h);
          start = not_true _ (and_left (not (v b.start)) _ rest);
          answer =
              not_true _ (and_left (not (v b.answer)) _ last);
        },
        and_right (not (v b.answer)) _ last,
      ),
    )
quiet_parts v (x ∷ before) b behind h =
    let rest = and_right (not (v x.latch)) _ h in
    let last = and_right (not (v x.start)) _ rest in
    let r = quiet_parts v before b behind (and_right (not (v x.answer)) _ last) in
    (both _ _ (and_left (not (v x.latch)) _ h) (both _ _ (and_left (not (v x.start)) _ rest) (both _ _ (and_left (not (v x.answer)) _ last) r.0)), r.1)

pub all_quiet : (v : ℕ → Bool) (bs : List Branch) (q : BranchPlace) → IsPlace bs q → all_low v (controls_of bs) ≡ true → AllQuiet v q
all_quiet v bs q is h =
    let r = quiet_parts v q.before q.this q.behind (subst (λ (xs : List Branch). all_low v (controls_of xs) ≡ true) is h) in
    record { calm = both _ _ r.0 r.1.1; quiet = r.1.0 }

map_append : (v : ℕ → Bool) (xs ys : List ℕ) → map v (xs ++ ys) ≡ map v xs ++ map v ys
map_append v [] ys = refl
map_append v (x ∷ xs) ys = ap (λ bs. v x ∷ bs) (map_append v xs ys)

quiet_controls : (v : ℕ → Bool) (frame : List ℕ) (q : BranchPlace) → IsQuiet v q.this → map v (controls frame q) ≡ map v frame ++ (false ∷ false ∷ false ∷ [])
quiet_controls v frame q k =
    map_append v frame (q.this.latch ∷ q.this.start ∷ q.this.answer ∷ []) ∙ ap (λ b. map v frame ++ (b ∷ v q.this.start ∷ v q.this.answer ∷ [])) k.latch
    ∙ ap (λ b. map v frame ++ (false ∷ b ∷ v q.this.answer ∷ [])) k.start ∙ ap (λ b. map v frame ++ (false ∷ false ∷ b ∷ [])) k.answer

aim_by : (M : Machine) (frame : List ℕ) (bs : List Branch) (eval : ℕ) (m : Moment) (p q : BranchPlace) → Setting M frame bs eval → View M frame bs m p →
    IsPlace bs q → (b : Bool) → under_way M (map m.value (controls frame p)) ≡ b → View M frame bs m q ⊎ IsStill m.value q
aim_by M frame bs eval m p q s view at false idle =
    let v = m.value in
    let l = or_false (bit_at (map v (controls frame p)) M.latch) _ idle in
    let r = or_false (bit_at (map v (controls frame p)) (M.latch + 1)) _ l.1 in
    let mine : IsQuiet v p.this = record {
      latch = sym (latch_value M frame bs eval v p s) ∙ l.0;
      start = sym (start_value M frame bs eval v p s) ∙ r.0;
      answer = sym (answer_value M frame bs eval v p s) ∙ r.1;
    } in
    let low = subst (λ (xs : List Branch). all_low v (controls_of xs) ≡ true) (sym view.is)
    (low_all v p.before p.this p.behind mine (and_left _ (all_low v (controls_of p.behind)) view.calm)
    (and_right (all_low v (controls_of p.before)) _ view.calm)) in
    let theirs = all_quiet v bs q at low in
    let same : map v (controls frame q) ≡ map v (controls frame p) = quiet_controls v frame q theirs.quiet ∙ sym (quiet_controls v frame p mine) in
    let fit = aim_of M (map v (controls frame p)) (seen_rails v m.noted bs p) (seen_rails v m.noted bs q) (state_of M frame bs eval m p s view) idle refl
    (rails_consistent v m.noted bs q at view.single)
    (both _ _ (same_bit (guards_neutral v bs))
    (both _ _ (same_bit (guards_false v bs)) (both _ _ (same_bit (none_true v bs)) (same_bit (guards_false m.noted bs))))) in
    inl (record {
      is = at;
      calm = theirs.calm;
      single = view.single;
      control = ap M.control same ∙ view.control;
      fit = ap (λ c. M.fit c (seen_rails v m.noted bs q)) same ∙ fit;
    })
aim_by M frame bs eval m p q s view at true busy =
    let v = m.value in
    let c = map v (controls frame p) in
    let won : is_won v p ≡ true = implies_at _ (won_bit (seen_rails v m.noted bs p))
    (won_of M c (seen_rails v m.noted bs p) (state_of M frame bs eval m p s view)) (or_left (under_way M c) _ busy) in
    ⊎_elim (λ (same : p ≡ q). inl (subst (View M frame bs m) same view))
    (λ (apart : Apart p q). inr (record {
      quiet = quiet_among v p q.this view.calm apart.second;
      alone = no_true _ (λ alone. true_false (false_among v q p.this alone apart.first) (not_true _ (and_left (not (v p.this.guard.f)) _ won)));
    }))
    (one_or_apart bs p q view.is at)

-- another branch may be looked at, or it does nothing
pub aim : (M : Machine) (frame : List ℕ) (bs : List Branch) (eval : ℕ) (m : Moment) (p q : BranchPlace) → Setting M frame bs eval → View M frame bs m p →
    IsPlace bs q → View M frame bs m q ⊎ IsStill m.value q
aim M frame bs eval m p q s view at = aim_by M frame bs eval m p q s view at (under_way M (map m.value (controls frame p))) refl

-- where this branch's guard isn't false every other branch does nothing
pub still_beside : (M : Machine) (frame : List ℕ) (bs : List Branch) (m : Moment) (p q : BranchPlace) → View M frame bs m p → is_won m.value p ≡ true →
    Apart p q →
    IsStill m.value q
still_beside M frame bs m p q view won apart = record {
  quiet = quiet_among m.value p q.this view.calm apart.second;
  alone = no_true _ (λ alone. true_false (false_among m.value q p.this alone apart.first) (not_true _ (and_left (not (m.value p.this.guard.f)) _ won)));
}

-- a node with its rules is one of the controls
pub record AsRule (M : Machine) (frame : List ℕ) (bs : List Branch) (p : BranchPlace) (o : Owned) (j : ℕ) : Type 0 where
  pub less : j < M.size
  pub own : M.own j ≡ true
  pub at : o.node ≡ slice_index_or (controls frame p) j 0
  pub up : (v noted : ℕ → Bool) → is_calm v p ≡ true → guard_holds v o.rules.up ≡ M.up j (map v (controls frame p)) (seen_rails v noted bs p)
  pub down : (v noted : ℕ → Bool) → is_calm v p ≡ true → guard_holds v o.rules.down ≡ M.down j (map v (controls frame p)) (seen_rails v noted bs p)

pub record AsPlaced (M : Machine) (frame : List ℕ) (bs : List Branch) (q : BranchPlace) (o : Owned) (j : ℕ) : Type 0 where
  pub is : IsPlace bs q
  pub rule : AsRule M frame bs q o j
  pub which : (j ≡ M.latch) ⊎ (j ≡ M.latch + 1)
  pub low : (v : ℕ → Bool) → IsQuiet v q.this → v o.node ≡ false
  pub still : (v : ℕ → Bool) → IsStill v q → guard_holds v o.rules.up ≡ false

-- of its own nodes, seen from whichever branch, or a branch's latch or start
abbrev pub InFrame : Machine → List ℕ → List Branch → Owned → Type 0
InFrame M frame bs o = (j : ℕ) × (j < M.latch) × ((p : BranchPlace) → IsPlace bs p → AsRule M frame bs p o j)

abbrev pub InBranch : Machine → List ℕ → List Branch → Owned → Type 0
InBranch M frame bs o = (q : BranchPlace) × (j : ℕ) × AsPlaced M frame bs q o j

pub record IsPart (M : Machine) (frame : List ℕ) (bs : List Branch) (request answer eval : ℕ) (part : Part) : Type 0 where
  pub own : (o : Owned) → Contains part.own o → InFrame M frame bs o ⊎ InBranch M frame bs o
  pub wires : (w : Wire) → Contains part.allows w → (w ≡ request_wire request answer) ⊎ IsBranchWire eval bs w
  pub first : slice_index_or frame 0 0 ≡ request
  pub second : slice_index_or frame 1 0 ≡ answer

rule_value : (M : Machine) (frame : List ℕ) (bs : List Branch) (eval : ℕ) (v : ℕ → Bool) (p : BranchPlace) (o : Owned) (j : ℕ) → Setting M frame bs eval →
    AsRule M frame bs p o j → v o.node ≡ bit_at (map v (controls frame p)) j
rule_value M frame bs eval v p o j s r =
    let long = controls_length M frame bs eval p s in
    let less = r.less in
    ap v r.at ∙ sym (value_at v (controls frame p) j (omega (arith, less, long)))

pub fires_is : (M : Machine) (frame : List ℕ) (bs : List Branch) (eval : ℕ) (v noted : ℕ → Bool) (p : BranchPlace) (o : Owned) (j : ℕ) →
    Setting M frame bs eval →
    is_calm v p ≡ true → AsRule M frame bs p o j → fires v o ≡ can M j (map v (controls frame p)) (seen_rails v noted bs p)
fires_is M frame bs eval v noted p o j s calm r =
    let c = map v (controls frame p) in
    let q = seen_rails v noted bs p in
    ap (λ b. if b then guard_holds v o.rules.down else guard_holds v o.rules.up) (rule_value M frame bs eval v p o j s r)
    ∙ ap (λ d. if bit_at c j then d else guard_holds v o.rules.up) (r.down v noted calm) ∙ ap (λ u. if bit_at c j then M.down j c q else u) (r.up v noted calm)

still_fires : (M : Machine) (frame : List ℕ) (bs : List Branch) (v : ℕ → Bool) (q : BranchPlace) (o : Owned) (j : ℕ) → AsPlaced M frame bs q o j → IsStill v q →
    fires v o ≡ false
still_fires M frame bs v q o j r still = ap (λ b. if b then guard_holds v o.rules.down else guard_holds v o.rules.up) (r.low v still.quiet) ∙ r.still v still

-- a move, seen from a branch
pub record AsControl (M : Machine) (frame : List ℕ) (bs : List Branch) (m : Moment) (p : BranchPlace) (node i : ℕ) : Type 0 where
  pub less : i < M.size
  pub at : node ≡ slice_index_or (controls frame p) i 0
  pub may : can M i (map m.value (controls frame p)) (seen_rails m.value m.noted bs p) ≡ true

pub record AsRail (bs : List Branch) (eval : ℕ) (m : Moment) (node : ℕ) (q : BranchPlace) : Type 0 where
  pub is : IsPlace bs q
  pub which : IsRail q node
  pub may : RailMay eval m.value q node

abbrev pub Turn : Machine → List ℕ → List Branch → ℕ → Moment → BranchPlace → ℕ → Type 0
Turn M frame bs eval m p node = ((i : ℕ) × AsControl M frame bs m p node i) ⊎ ((q : BranchPlace) × AsRail bs eval m node q)

abbrev pub Seen : Machine → List ℕ → List Branch → ℕ → Moment → (BranchPlace → Type 0) → ℕ → Type 0
Seen M frame bs eval m P node = (p : BranchPlace) × (P p) × (View M frame bs m p) × Turn M frame bs eval m p node

own_turn : (M : Machine) (frame : List ℕ) (bs : List Branch) (eval : ℕ) (m : Moment) (p : BranchPlace) (o : Owned) (j node : ℕ) → Setting M frame bs eval →
    View M frame bs m p → AsRule M frame bs p o j → fires m.value o ≡ true → node ≡ o.node → Turn M frame bs eval m p node
own_turn M frame bs eval m p o j node s view r f at =
    inl (j, record { less = r.less; at = at ∙ r.at; may = sym (fires_is M frame bs eval m.value m.noted p o j s view.calm r) ∙ f })

frame_there : (xs ys : List ℕ) (i : ℕ) → i < length xs → slice_index_or (xs ++ ys) i 0 ≡ slice_index_or xs i 0
frame_there [] ys i lt = absurd (omega (arith, lt))
frame_there (x ∷ xs) ys zero lt = refl
frame_there (x ∷ xs) ys (suc i) lt = frame_there xs ys i (omega (arith, lt))

frame_value : (M : Machine) (frame : List ℕ) (bs : List Branch) (eval : ℕ) (v : ℕ → Bool) (p : BranchPlace) (i : ℕ) → Setting M frame bs eval → i < M.latch →
    bit_at (map v (controls frame p)) i ≡ v (slice_index_or frame i 0)
frame_value M frame bs eval v p i s lt =
    let long = controls_length M frame bs eval p s in
    let size = s.size in
    let all = s.long in
    value_at v (controls frame p) i (omega (arith, lt, long, size))
    ∙ ap v (frame_there frame (p.this.latch ∷ p.this.start ∷ p.this.answer ∷ []) i (omega (arith, lt, all)))

pub request_turn : (M : Machine) (frame : List ℕ) (bs : List Branch) (request answer eval : ℕ) (m : Moment) (p : BranchPlace) (node : ℕ) →
    Setting M frame bs eval →
    slice_index_or frame 0 0 ≡ request → slice_index_or frame 1 0 ≡ answer → may_move m (request_wire request answer) ≡ true → node ≡ request →
    Turn M frame bs eval m p node
request_turn M frame bs request answer eval m p node s first second may at =
    let v = m.value in
    let c = map v (controls frame p) in
    let q = seen_rails v m.noted bs p in
    let long = s.long in
    let size = s.size in
    let one = s.second in
    let r : bit_at c 0 ≡ v request = frame_value M frame bs eval v p 0 s (omega (arith, one)) ∙ ap v first in
    let a : bit_at c 1 ≡ v answer = frame_value M frame bs eval v p 1 s one ∙ ap v second in
    inl (
      0,
      record {
        less = omega (arith, size);
        at = at ∙ sym first ∙ sym (frame_there frame (p.this.latch ∷ p.this.start ∷ p.this.answer ∷ []) 0 (omega (arith, long, one)));
        may = ap (λ b. if b then M.down 0 c q else M.up 0 c q) r ∙ ap (λ d. if v request then d else M.up 0 c q) (s.request_down v m.noted p ∙ a)
            ∙ ap (λ u. if v request then v answer else u) (s.request_up v m.noted p ∙ ap not a) ∙ may;
      },
    )

answer_turn : (M : Machine) (frame : List ℕ) (bs : List Branch) (eval : ℕ) (m : Moment) (p : BranchPlace) (node : ℕ) → Setting M frame bs eval →
    may_move m (d_wire p) ≡ true → node ≡ p.this.answer → Turn M frame bs eval m p node
answer_turn M frame bs eval m p node s may at =
    let v = m.value in
    let c = map v (controls frame p) in
    let q = seen_rails v m.noted bs p in
    let size = s.size in
    let d = answer_value M frame bs eval v p s in
    let st = start_value M frame bs eval v p s in
    inl (
      M.latch + 2,
      record {
        less = omega (arith, size);
        at = at ∙ sym (last_there M frame bs eval p 2 s);
        may = ap (λ b. if b then M.down (M.latch + 2) c q else M.up (M.latch + 2) c q) d
            ∙ ap (λ x. if v p.this.answer then x else M.up (M.latch + 2) c q) (s.answer_down v m.noted p ∙ ap not st)
            ∙ ap (λ x. if v p.this.answer then not (v p.this.start) else x) (s.answer_up v m.noted p ∙ st) ∙ may;
      },
    )

still_answer : (m : Moment) (q : BranchPlace) → IsStill m.value q → may_move m (d_wire q) ≡ false
still_answer m q still = ap (λ b. if b then not (m.value q.this.start) else m.value q.this.start) still.quiet.answer ∙ still.quiet.start

-- from a branch that may be looked at
turn_by : (M : Machine) (frame : List ℕ) (bs : List Branch) (request answer eval : ℕ) (part : Part) (m : Moment) (P : BranchPlace →
    Type 0) (p : BranchPlace) (node : ℕ) →
    Setting M frame bs eval → IsPart M frame bs request answer eval part →
    ((y : BranchPlace) → IsPlace bs y → (P y × View M frame bs m y) ⊎ IsStill m.value y) →
    P p → View M frame bs m p → IsMove part m node → Seen M frame bs eval m P node
turn_by M frame bs request answer eval part m P p node s part_is pick ok view (inl own) =
    ⊎_elim (λ (f : InFrame M frame bs own.o). (p, ok, view, own_turn M frame bs eval m p own.o f.0 node s view (f.2 p view.is) own.enabled own.at))
    (λ (b : InBranch M frame bs own.o). ⊎_elim
    (λ (g : P b.0 × View M frame bs m b.0). (b.0, g.0, g.1, own_turn M frame bs eval m b.0 own.o b.1 node s g.1 b.2.rule own.enabled own.at))
    (λ still. absurd (true_false own.enabled (still_fires M frame bs m.value b.0 own.o b.1 b.2 still)))
    (pick b.0 b.2.is))
    (part_is.own own.o own.among)
turn_by M frame bs request answer eval part m P p node s part_is pick ok view (inr theirs) =
    ⊎_elim (λ (e : theirs.w ≡ request_wire request answer). (
      p,
      ok,
      view,
      request_turn M frame bs request answer eval m p node s part_is.first part_is.second (ap (may_move m) (sym e) ∙ theirs.may) (theirs.at
          ∙ ap (λ (w : Wire). w.node) e),
    ))
    (λ (b : IsBranchWire eval bs theirs.w). ⊎_elim
    (λ (e : theirs.w ≡ t_wire eval b.0). (
      p,
      ok,
      view,
      inr (
        b.0,
        record {
          is = b.1;
          which = inl (theirs.at ∙ ap (λ (w : Wire). w.node) e);
          may =
              rail_may b.0 b.0.this.guard.t theirs.w e theirs.at theirs.may;
        },
      ),
    ))
    (λ more. ⊎_elim
    (λ (e : theirs.w ≡ f_wire eval b.0). (
      p,
      ok,
      view,
      inr (b.0, record { is = b.1; which = inr (theirs.at ∙ ap (λ (w : Wire). w.node) e); may = rail_may_f b.0 theirs.w e theirs.at theirs.may }),
    ))
    (λ (e : theirs.w ≡ d_wire b.0). ⊎_elim
    (λ (g : P b.0 × View M frame bs m b.0). (
      b.0,
      g.0,
      g.1,
      answer_turn M frame bs eval m b.0 node s (ap (may_move m) (sym e) ∙ theirs.may) (theirs.at ∙ ap (λ (w : Wire). w.node) e),
    ))
    (λ still. absurd (true_false (ap (may_move m) (sym e) ∙ theirs.may) (still_answer m b.0 still)))
    (pick b.0 b.1)) more)
    b.2)
    (part_is.wires theirs.w theirs.among)
  where
    rail_may : (q : BranchPlace) (rail : ℕ) (w : Wire) → w ≡ t_wire eval q → node ≡ w.node → may_move m w ≡ true → RailMay eval m.value q node
    rail_may q rail w e at may = subst (λ n. RailMay eval m.value q n) (sym (at ∙ ap (λ (w : Wire). w.node) e)) (ap (may_move m) (sym e) ∙ may)

    rail_may_f : (q : BranchPlace) (w : Wire) → w ≡ f_wire eval q → node ≡ w.node → may_move m w ≡ true → RailMay eval m.value q node
    rail_may_f q w e at may = subst (λ n. RailMay eval m.value q n) (sym (at ∙ ap (λ (w : Wire). w.node) e)) (ap (may_move m) (sym e) ∙ may)

abbrev Any : BranchPlace → Type 0
Any p = Unit {0}

pub turn_any : (M : Machine) (frame : List ℕ) (bs : List Branch) (request answer eval : ℕ) (part : Part) (m : Moment) (p : BranchPlace) (node : ℕ) →
    Setting M frame bs eval → IsPart M frame bs request answer eval part → View M frame bs m p → IsMove part m node → Seen M frame bs eval m Any node
turn_any M frame bs request answer eval part m p node s part_is view move =
    turn_by M frame bs request answer eval part m Any p node s part_is
    (λ y at. ⊎_elim (λ g. inl (tt, g)) (λ still. inr still) (aim M frame bs eval m p y s view at)) tt view move

pub turn_won : (M : Machine) (frame : List ℕ) (bs : List Branch) (request answer eval : ℕ) (part : Part) (m : Moment) (p : BranchPlace) (node : ℕ) →
    Setting M frame bs eval → IsPart M frame bs request answer eval part → View M frame bs m p → is_won m.value p ≡ true → IsMove part m node →
    Seen M frame bs eval m (λ y. y ≡ p) node
turn_won M frame bs request answer eval part m p node s part_is view won move =
    turn_by M frame bs request answer eval part m (λ y. y ≡ p) p node s part_is
    (λ y at. ⊎_elim (λ (same : p ≡ y). inl (sym same, subst (View M frame bs m) same view))
    (λ (apart : Apart p y). inr (still_beside M frame bs m p y view won apart)) (one_or_apart bs p y view.is at)) refl view move

-- every move keeps it
pub view_kept : (M : Machine) (frame : List ℕ) (bs : List Branch) (request answer eval : ℕ) (part : Part) (m : Moment) (p : BranchPlace) (node : ℕ) →
    Setting M frame bs eval → IsPart M frame bs request answer eval part → View M frame bs m p → IsMove part m node →
    (p : BranchPlace) × View M frame bs (record { value = turned m.value node; noted = as_evaluated eval m node }) p
view_kept M frame bs request answer eval part m p node s part_is view move =
    let seen = turn_any M frame bs request answer eval part m p node s part_is view move in
    ⊎_elim (λ (t : (i : ℕ) × AsControl M frame bs m seen.0 node i). (seen.0, control_kept M frame bs eval m seen.0 t.0 node s seen.2 t.1.less t.1.at t.1.may))
    (λ (t : (q : BranchPlace) × AsRail bs eval m node q). (seen.0, (rail_kept M frame bs eval m seen.0 t.0 node s seen.2 t.1.is t.1.which t.1.may).view))
    seen.3

-- no move disables an enabled rule
firm_at : (M : Machine) (frame : List ℕ) (bs : List Branch) (eval : ℕ) (m : Moment) (p : BranchPlace) (o : Owned) (j node : ℕ) → Setting M frame bs eval →
    View M frame bs m p → AsRule M frame bs p o j → fires m.value o ≡ true → node ≢ o.node → Turn M frame bs eval m p node →
    fires (turned m.value node) o ≡ true
firm_at M frame bs eval m p o j node s view r f ne (inl t) =
    let v = m.value in
    let c = map v (controls frame p) in
    let q = seen_rails v m.noted bs p in
    let moved = control_moved M frame bs eval v p t.0 node s view.is view.calm t.1.less t.1.at in
    let step = step_of M c q t.0 (state_of M frame bs eval m p s view) t.1.less t.1.may in
    fires_is M frame bs eval (turned v node) m.noted p o j s moved.calm r ∙ ap (λ d. can M j d (seen_rails (turned v node) m.noted bs p)) moved.controls
    ∙ ap (can M j (flip t.0 c)) (moved.rails m.noted)
    ∙ step.firm j r.less r.own (λ e. ne (t.1.at ∙ ap (λ k. slice_index_or (controls frame p) k 0) (sym e) ∙ sym r.at))
    (sym (fires_is M frame bs eval v m.noted p o j s view.calm r) ∙ f)
firm_at M frame bs eval m p o j node s view r f ne (inr t) =
    let v = m.value in
    let after = rail_kept M frame bs eval m p t.0 node s view t.1.is t.1.which t.1.may in
    fires_is M frame bs eval (turned v node) m.noted p o j s after.calm r ∙ ap (λ d. can M j d (seen_rails (turned v node) m.noted bs p)) after.same
    ∙ after.step.firm j r.less r.own (sym (fires_is M frame bs eval v m.noted p o j s view.calm r) ∙ f)

or_right : (a b : Bool) → b ≡ true → (a || b) ≡ true
or_right true b h = refl
or_right false b h = h

fired_won : (M : Machine) (frame : List ℕ) (bs : List Branch) (eval : ℕ) (m : Moment) (p : BranchPlace) (j : ℕ) → Setting M frame bs eval →
    View M frame bs m p →
    (j ≡ M.latch) ⊎ (j ≡ M.latch + 1) → can M j (map m.value (controls frame p)) (seen_rails m.value m.noted bs p) ≡ true → is_won m.value p ≡ true
fired_won M frame bs eval m p j s view which may =
    let c = map m.value (controls frame p) in
    let q = seen_rails m.value m.noted bs p in
    implies_at _ (won_bit q) (won_of M c q (state_of M frame bs eval m p s view))
    (or_right (under_way M c) _ (⊎_elim (λ (e : j ≡ M.latch). or_left _ _ (ap (λ k. can M k c q) (sym e) ∙ may))
    (λ (e : j ≡ M.latch + 1). or_right _ _ (or_left _ _ (ap (λ k. can M k c q) (sym e) ∙ may))) which))

pub firm_of : (M : Machine) (frame : List ℕ) (bs : List Branch) (request answer eval : ℕ) (part : Part) (m : Moment) (p : BranchPlace) →
    Setting M frame bs eval →
    IsPart M frame bs request answer eval part → View M frame bs m p → (o : Owned) → Contains part.own o → fires m.value o ≡ true → (node : ℕ) →
    IsMove part m node → node ≢ o.node → fires (turned m.value node) o ≡ true
firm_of M frame bs request answer eval part m p s part_is view o among f node move ne =
    ⊎_elim
    (λ (k : InFrame M frame bs o). let seen = turn_any M frame bs request answer eval part m p node s part_is view move in
    firm_at M frame bs eval m seen.0 o k.0 node s seen.2 (k.2 seen.0 seen.2.is) f ne seen.3)
    (λ (b : InBranch M frame bs o). ⊎_elim
    (λ (g : View M frame bs m b.0).
    let may = sym (fires_is M frame bs eval m.value m.noted b.0 o b.1 s g.calm b.2.rule) ∙ f in
    let won = fired_won M frame bs eval m b.0 b.1 s g b.2.which may in
    let seen = turn_won M frame bs request answer eval part m b.0 node s part_is g won move in
    firm_at M frame bs eval m b.0 o b.1 node s g b.2.rule f ne (subst (λ (y : BranchPlace). Turn M frame bs eval m y node) seen.1 seen.3))
    (λ still. absurd (true_false f (still_fires M frame bs m.value b.0 o b.1 b.2 still)))
    (aim M frame bs eval m p b.0 s view b.2.is))
    (part_is.own o among)

-- no node is pulled both ways
pub apart_of : (M : Machine) (frame : List ℕ) (bs : List Branch) (request answer eval : ℕ) (part : Part) (m : Moment) (p : BranchPlace) →
    Setting M frame bs eval →
    IsPart M frame bs request answer eval part → View M frame bs m p → (o : Owned) → Contains part.own o →
    (guard_holds m.value o.rules.up && guard_holds m.value o.rules.down) ≡ false
apart_of M frame bs request answer eval part m p s part_is view o among =
    ⊎_elim (λ (k : InFrame M frame bs o). rule_apart p view k.0 (k.2 p view.is))
    (λ (b : InBranch M frame bs o). ⊎_elim (λ (g : View M frame bs m b.0). rule_apart b.0 g b.1 b.2.rule)
    (λ still. ap (λ u. u && guard_holds m.value o.rules.down) (b.2.still m.value still)) (aim M frame bs eval m p b.0 s view b.2.is))
    (part_is.own o among)
  where
    rule_apart : (p : BranchPlace) → View M frame bs m p → (j : ℕ) → AsRule M frame bs p o j →
        (guard_holds m.value o.rules.up && guard_holds m.value o.rules.down) ≡ false
    rule_apart p view j r =
        let c = map m.value (controls frame p) in
        let q = seen_rails m.value m.noted bs p in
        ap (λ u. u && guard_holds m.value o.rules.down) (r.up m.value m.noted view.calm) ∙ ap (λ d. M.up j c q && d) (r.down m.value m.noted view.calm)
        ∙ both_of M c q j (state_of M frame bs eval m p s view) r.less r.own

-- a promise that stands on a control
pub record FramePromise (M : Machine) (frame : List ℕ) (bs : List Branch) (m : Moment) (w : Wire) (j : ℕ) : Type 0 where
  pub less : j < M.latch
  pub at : (p : BranchPlace) → IsPlace bs p → w.node ≡ slice_index_or (controls frame p) j 0
  pub holds : (p : BranchPlace) → View M frame bs m p → can M j (map m.value (controls frame p)) (seen_rails m.value m.noted bs p) ≡ true → may_move m w ≡ true

pub record StartPromise (M : Machine) (frame : List ℕ) (bs : List Branch) (m : Moment) (w : Wire) (y : BranchPlace) : Type 0 where
  pub is : IsPlace bs y
  pub at : w.node ≡ y.this.start
  pub holds : View M frame bs m y → can M (M.latch + 1) (map m.value (controls frame y)) (seen_rails m.value m.noted bs y) ≡ true → may_move m w ≡ true

abbrev pub IsPromise : Machine → List ℕ → List Branch → Moment → Wire → Type 0
IsPromise M frame bs m w = ((j : ℕ) × FramePromise M frame bs m w j) ⊎ ((y : BranchPlace) × StartPromise M frame bs m w y)

fresh_among : (n : ℕ) (b : Branch) (bs : List Branch) → Among b bs → Fresh n (controls_of bs) → (n ≢ b.latch) × (n ≢ b.start)
fresh_among n b [] a h = absurd a
fresh_among n b (x ∷ bs) (inl e) h = (λ same. h.0 (same ∙ ap (λ (y : Branch). y.latch) e), λ same. h.1.0 (same ∙ ap (λ (y : Branch). y.start) e))
fresh_among n b (x ∷ bs) (inr a) h = fresh_among n b bs a h.1.1.1

-- two controls seen from one branch that are one node
pub one_control : (M : Machine) (frame : List ℕ) (bs : List Branch) (eval : ℕ) (p : BranchPlace) (i j : ℕ) → Setting M frame bs eval → IsPlace bs p →
    i < M.size →
    j < M.size → slice_index_or (controls frame p) i 0 ≡ slice_index_or (controls frame p) j 0 → i ≡ j
one_control M frame bs eval p i j s is lt less e =
    let long = controls_length M frame bs eval p s in
    one_place (controls frame p) (distinct_left (controls frame p) (controls_of p.before ++ (controls_of p.behind ++ rails_of (guards_of bs)))
    (around frame bs p is s.apart)) i j (omega (arith, lt, long)) (omega (arith, less, long)) e

-- a start is no latch and no start of another branch
start_apart : (M : Machine) (frame : List ℕ) (bs : List Branch) (eval : ℕ) (y : BranchPlace) (b : Branch) → Setting M frame bs eval → IsPlace bs y →
    Among b (y.before ++ y.behind) → (y.this.start ≢ b.latch) × (y.this.start ≢ b.start)
start_apart M frame bs eval y b s is a =
    let long = controls_length M frame bs eval y s in
    let size = s.size in
    let others = controls_of y.before ++ (controls_of y.behind ++ rails_of (guards_of bs)) in
    let fresh = subst (λ n. Fresh n others) (last_there M frame bs eval y 1 s)
    (cross_at (controls frame y) others (M.latch + 1) (omega (arith, long, size)) (distinct_cross (controls frame y) others (around frame bs y is s.apart)))
    in
    ⊎_elim (λ l. fresh_among y.this.start b y.before l (fresh_left y.this.start (controls_of y.before) (controls_of y.behind ++ rails_of (guards_of bs)) fresh))
    (λ r. fresh_among y.this.start b y.behind r
    (fresh_left y.this.start (controls_of y.behind) (rails_of (guards_of bs))
    (fresh_right y.this.start (controls_of y.before) (controls_of y.behind ++ rails_of (guards_of bs)) fresh)))
    (among_cases b y.before y.behind a)

pub promised_of : (M : Machine) (frame : List ℕ) (bs : List Branch) (request answer eval : ℕ) (part : Part) (m : Moment) (p : BranchPlace) →
    Setting M frame bs eval →
    IsPart M frame bs request answer eval part → View M frame bs m p → (o : Owned) → Contains part.own o → fires m.value o ≡ true → (w : Wire) →
    IsPromise M frame bs m w → w.node ≡ o.node → may_move m w ≡ true
promised_of M frame bs request answer eval part m p s part_is view o among f w promise e =
    ⊎_elim (λ (k : InFrame M frame bs o). ⊎_elim (λ (g : (j : ℕ) × FramePromise M frame bs m w j). frame_frame k g)
    (λ (g : (y : BranchPlace) × StartPromise M frame bs m w y). frame_start k g) promise)
    (λ (b : InBranch M frame bs o). ⊎_elim (λ (g : (j : ℕ) × FramePromise M frame bs m w j). branch_frame b g)
    (λ (g : (y : BranchPlace) × StartPromise M frame bs m w y). branch_start b g) promise)
    (part_is.own o among)
  where
    size : M.size ≡ M.latch + 3
    size = s.size

    frame_frame : InFrame M frame bs o → (j : ℕ) × FramePromise M frame bs m w j → may_move m w ≡ true
    frame_frame k g =
        let rule = k.2 p view.is in
        let lt = k.1 in
        let less = g.1.less in
        let size = s.size in
        let same : k.0 ≡ g.0 = one_control M frame bs eval p k.0 g.0 s view.is (omega (arith, lt, size)) (omega (arith, less, size)) (sym rule.at ∙ sym e
        ∙ g.1.at p view.is) in
        g.1.holds p view (ap (λ j. can M j (map m.value (controls frame p)) (seen_rails m.value m.noted bs p)) (sym same)
        ∙ sym (fires_is M frame bs eval m.value m.noted p o k.0 s view.calm rule) ∙ f)

    frame_start : InFrame M frame bs o → (y : BranchPlace) × StartPromise M frame bs m w y → may_move m w ≡ true
    frame_start k g =
        let rule = k.2 g.0 g.1.is in
        let lt = k.1 in
        let size = s.size in
        let same : k.0 ≡ M.latch + 1 = one_control M frame bs eval g.0 k.0 (M.latch + 1) s g.1.is (omega (arith, lt, size)) (omega (arith, size)) (sym rule.at
        ∙ sym e ∙ g.1.at ∙ sym (last_there M frame bs eval g.0 1 s)) in
        absurd (omega (arith, lt, same))

    branch_frame : InBranch M frame bs o → (j : ℕ) × FramePromise M frame bs m w j → may_move m w ≡ true
    branch_frame b g =
        let less = g.1.less in
        let size = s.size in
        let all = b.2.rule.less in
        let same : b.1 ≡ g.0 = one_control M frame bs eval b.0 b.1 g.0 s b.2.is all (omega (arith, less, size)) (sym b.2.rule.at ∙ sym e ∙ g.1.at b.0 b.2.is) in
        ⊎_elim (λ (h : b.1 ≡ M.latch). absurd (omega (arith, less, same, h))) (λ (h : b.1 ≡ M.latch + 1). absurd (omega (arith, less, same, h))) b.2.which

    at_start : (b : InBranch M frame bs o) → (g : (y : BranchPlace) × StartPromise M frame bs m w y) → b.0 ≡ g.0 → may_move m w ≡ true
    at_start b g place =
        let size = s.size in
        let all = b.2.rule.less in
        let here : o.node ≡ slice_index_or (controls frame b.0) (M.latch + 1) 0 = sym e ∙ g.1.at ∙ ap (λ (y : BranchPlace). y.this.start) (sym place)
        ∙ sym (last_there M frame bs eval b.0 1 s) in
        let same : b.1 ≡ M.latch + 1 = one_control M frame bs eval b.0 b.1 (M.latch + 1) s b.2.is all (omega (arith, size)) (sym b.2.rule.at ∙ here) in
        ⊎_elim (λ (v : View M frame bs m b.0).
        let fired = ap (λ j. can M j (map m.value (controls frame b.0)) (seen_rails m.value m.noted bs b.0)) (sym same)
        ∙ sym (fires_is M frame bs eval m.value m.noted b.0 o b.1 s v.calm b.2.rule) ∙ f in
        g.1.holds (subst (View M frame bs m) place v)
        (subst (λ (y : BranchPlace). can M (M.latch + 1) (map m.value (controls frame y)) (seen_rails m.value m.noted bs y) ≡ true) place fired))
        (λ still. absurd (true_false f (still_fires M frame bs m.value b.0 o b.1 b.2 still)))
        (aim M frame bs eval m p b.0 s view b.2.is)

    branch_start : InBranch M frame bs o → (y : BranchPlace) × StartPromise M frame bs m w y → may_move m w ≡ true
    branch_start b g =
        ⊎_elim (λ (same : b.0 ≡ g.0). at_start b g same)
        (λ (apart : Apart b.0 g.0).
        let off = start_apart M frame bs eval g.0 b.0.this s g.1.is apart.first in
        ⊎_elim
        (λ (h : b.1 ≡ M.latch). absurd (off.0 (sym g.1.at ∙ e ∙ b.2.rule.at ∙ ap (λ k. slice_index_or (controls frame b.0) k 0) (h ∙ sym (plus_zero M.latch))
        ∙ last_there M frame bs eval b.0 0 s)))
        (λ (h : b.1 ≡ M.latch + 1). absurd (off.1 (sym g.1.at ∙ e ∙ b.2.rule.at ∙ ap (λ k. slice_index_or (controls frame b.0) k 0) h
        ∙ last_there M frame bs eval b.0 1 s)))
        b.2.which)
        (one_or_apart bs b.0 g.0 b.2.is g.1.is)
