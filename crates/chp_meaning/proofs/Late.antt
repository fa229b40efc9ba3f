-- A run of a program in halves has twice as many steps at most as some run of the program that has passed the same.
--
-- N: how many variables the program has, M: with the hidden ones; t, u: a term of it and of its halves; c, d: configurations; n, m, k: numbers of
-- steps; b: a place; x, h: a variable and a hidden one; s, e: a span and an expression; l: that a run leads there.
use Rattle.std.proofs.Common.{◌≡◌, ℕ, zero, suc, ◌+◌, ◌*◌, ◌<◌, ◌≤◌, Bool, true, false, List, ◌++◌, length, refl, ap, subst, inl, arith}
use Rattle.std.specs.Prelude.{not, nat_lt, if◌then◌else◌, Some}
use Rattle.std.proofs.lemmas.Bool.Decides.{nat_tests}
use Rattle.chp_base.specs.declared.span.Span.{Span}
use Rattle.width_check.specs.Processes.{Formula, reading, Process, skipping, assigning, sending, receiving, choosing, repeating, Processes, no_members, and_member}
use Rattle.chp_meaning.specs.Terms.{Term, Terms, finished, active, in_sequence, in_parallel, no_branches, and_branch, all_finished, together, opened, followed, Place, here, in_first, in_branch, statement_at, branch_at, with_left, with_branch}
use Rattle.chp_meaning.specs.Steps.{Configuration, Step, a_skip, an_assignment, a_selection, a_turn, an_end, a_repetition, a_communication, a_delivery, an_arrival, Leads, no_step, one_step, start_of, leaving, storing, value_in}
use Rattle.chp_meaning.specs.Halves.{hidden_vars, HalvesKeepPace}
use Rattle.chp_meaning.proofs.Moves.{own_apart}
use Rattle.chp_meaning.proofs.Places.{still}
use Rattle.chp_meaning.proofs.Alike.{ReadsBelow, Same, same_skip, same_assign, same_send, same_receive, same_turn, same_beside, same_choice, same_repeat, Alike, both_finished, both_active, at_first, at_second, both_in_sequence, both_in_parallel, EachAlike, alike_none, alike_more}
use Rattle.chp_meaning.proofs.Halves.{Near, IsFirst, follow}
use Rattle.chp_meaning.proofs.Meeting.{lead_on}
use Rattle.chp_meaning.proofs.HalvedTyping.{start_near}

abbrev pub one_if : Bool → ℕ
one_if true = 1
one_if false = 0

-- a second half reads a hidden variable
abbrev pub late : ℕ → Process → Bool
late N (assigning x at (reading h high low s)) = not (nat_lt h N)
late N _ = false

-- how many of them are active
abbrev mutual
  pub lates : ℕ → Term → ℕ
  lates N finished = 0
  lates N (active p) = one_if (late N p)
  lates N (in_sequence t more) = lates N t
  lates N (in_parallel ts) = each_late N ts

  pub each_late : ℕ → Terms → ℕ
  each_late N no_branches = 0
  each_late N (and_branch t more) = lates N t + each_late N more

one_most : (b : Bool) → one_if b ≤ 1
one_most true = omega arith
one_most false = omega arith

followed_late : (N : ℕ) (t : Term) (more : Processes) → lates N t ≤ lates N (followed t more)
followed_late N finished more = omega arith
followed_late N (active p) more = omega arith
followed_late N (in_sequence t rest) more = omega arith
followed_late N (in_parallel ts) more = omega arith

over_late : (N : ℕ) (ts : Terms) → all_finished ts ≡ true → each_late N ts ≡ 0
over_late N no_branches e = refl
over_late N (and_branch finished ts) e = let z = over_late N ts e in omega (arith, z)
over_late N (and_branch (active p) ts) e = absurd (cc e)
over_late N (and_branch (in_sequence t more) ts) e = absurd (cc e)
over_late N (and_branch (in_parallel us) ts) e = absurd (cc e)

together_late : (N : ℕ) (ts : Terms) → each_late N ts ≤ lates N (together ts)
together_late N ts = by (all_finished ts) refl
  where
    by : (b : Bool) → all_finished ts ≡ b → each_late N ts ≤ lates N (if b then finished else in_parallel ts)
    by true e = let z = over_late N ts e in omega (arith, z)
    by false e = omega arith

-- where something else is left of a statement, it alone may be gone
mutual
  left_late : (N : ℕ) (t : Term) (a : Place) (s : Process) (l : Term) → statement_at t a ≡ Some s → lates N t ≤ lates N (with_left t a l) + one_if (late N s)
  left_late N finished a s l h = absurd (cc h)
  left_late N (active p) here s l h = let e : p ≡ s = cc h in let z : one_if (late N p) ≡ one_if (late N s) = ap (λ q. one_if (late N q)) e in omega (arith, z)
  left_late N (active p) (in_first a) s l h = absurd (cc h)
  left_late N (active p) (in_branch k a) s l h = absurd (cc h)
  left_late N (in_sequence t more) here s l h = absurd (cc h)
  left_late N (in_sequence t more) (in_branch k a) s l h = absurd (cc h)
  left_late N (in_sequence t more) (in_first a) s l h =
      let z = left_late N t a s l h in let y = followed_late N (with_left t a l) more in omega (arith, z, y)
  left_late N (in_parallel ts) here s l h = absurd (cc h)
  left_late N (in_parallel ts) (in_first a) s l h = absurd (cc h)
  left_late N (in_parallel ts) (in_branch k a) s l h =
      let z = branch_late N ts k a s l h in let y = together_late N (with_branch ts k a l) in omega (arith, z, y)

  branch_late : (N : ℕ) (ts : Terms) (k : ℕ) (a : Place) (s : Process) (l : Term) → branch_at ts k a ≡ Some s
      → each_late N ts ≤ each_late N (with_branch ts k a l) + one_if (late N s)
  branch_late N no_branches k a s l h = absurd (cc h)
  branch_late N (and_branch t more) zero a s l h = let z = left_late N t a s l h in omega (arith, z)
  branch_late N (and_branch t more) (suc k) a s l h = let z = branch_late N more k a s l h in omega (arith, z)

-- each step finishes one at most
step_late : (N : ℕ) {c d : Configuration} {at : Place} → Step c at d → lates N c.term ≤ suc (lates N d.term)
step_late N (a_skip {c = c} {at = at} h) = let z = left_late N c.term at skipping finished h in omega (arith, z)
step_late N (an_assignment {c = c} {at = at} {x = x} {s = s} {e = e} h) =
    let z = left_late N c.term at (assigning x s e) finished h in let y = one_most (late N (assigning x s e)) in omega (arith, z, y)
step_late N (a_selection {c = c} {at = at} {choices = options} {p = p} h o) = let z = left_late N c.term at (choosing false options) (opened p) h in
    omega (arith, z)
step_late N (a_turn {c = c} {at = at} {choices = options} {p = p} h o) =
    let z = left_late N c.term at (choosing true options) (followed (opened p) (and_member (choosing true options) no_members)) h in omega (arith, z)
step_late N (an_end {c = c} {at = at} {choices = options} h o) = let z = left_late N c.term at (choosing true options) finished h in omega (arith, z)
step_late N (a_repetition {c = c} {at = at} {p = p} h) = let z =
    left_late N c.term at (repeating p) (followed (opened p) (and_member (repeating p) no_members)) h in omega (arith, z)
step_late N (a_communication {c = c} {at = at} other {k = k} {x = x} {s = s} {t = t} {u = u} {e = e} h there inside) =
    let z = left_late N c.term at (sending k s e) finished h in
    let y = left_late N (with_left c.term at finished) other (receiving k t x u) finished
    (still c.term at other finished (receiving k t x u) (own_apart (a_communication {c = c} other h there inside) other refl) there) in
    omega (arith, z, y)
step_late N (a_delivery {c = c} {at = at} {k = k} {s = s} {e = e} h o m) = let z = left_late N c.term at (sending k s e) finished h in omega (arith, z)
step_late N (an_arrival {c = c} {at = at} {k = k} {x = x} {s = s} {t = t} h o) = let z = left_late N c.term at (receiving k s x t) finished h in
    omega (arith, z)

-- behind a first half comes a second one
below_not : (h N : ℕ) → N ≤ h → not (nat_lt h N) ≡ true
below_not h N less = grind (arith, nat_tests)

late_below : (h N : ℕ) → not (nat_lt h N) ≡ true → h < N → ⊥
late_below h N e less = let z : nat_lt h N ≡ true = grind (arith, nat_tests) in cc (e, z)

not_late : (N x : ℕ) (at : Span) (e : Formula) → ReadsBelow N e → one_if (late N (assigning x at e)) ≡ 0
not_late N x at (reading h high low s) below = by (not (nat_lt h N)) refl
  where
    by : (b : Bool) → not (nat_lt h N) ≡ b → one_if b ≡ 0
    by true e = absurd (late_below h N e (below h s (inl refl)))
    by false e = refl
not_late N x at _ below = refl

mutual
  first_late : {N M : ℕ} {old new : List ℕ} {t u : Term} → Alike N M old new t u → (b : Place) (x : ℕ) (s : Span) (e : Formula)
      → statement_at u b ≡ Some (assigning x s e) → N ≤ x → suc (lates N u) ≤ lates N (with_left u b finished)
  first_late both_finished b x s e h far = absurd (cc h)
  first_late {N = N} {M = M} (both_active {q = q} same) here x s e h far = absurd (by same (let z : q ≡ assigning x s e = cc h in z))
    where
      by : {p q : Process} → Same N M p q → q ≡ assigning x s e → ⊥
      by (same_assign {x = y} less r) z = let i : y ≡ x = cc z in omega (arith, less, i, far)
      by same_skip z = cc z
      by (same_send r) z = cc z
      by (same_receive i) z = cc z
      by (same_turn r) z = cc z
      by (same_beside r) z = cc z
      by (same_choice r) z = cc z
      by (same_repeat r) z = cc z
  first_late (both_active same) (in_first b) x s e h far = absurd (cc h)
  first_late (both_active same) (in_branch k b) x s e h far = absurd (cc h)
  first_late {N = N} (at_first {h = k} {at = w} {e = d} i) (in_first here) x s e h far =
      let z : not (nat_lt k N) ≡ true = below_not k N i.hidden in
      let y : one_if (not (nat_lt k N)) ≡ 1 = ap one_if z in
      omega (arith, y, not_late N k w d i.below)
  first_late (at_first i) here x s e h far = absurd (cc h)
  first_late (at_first i) (in_branch k b) x s e h far = absurd (cc h)
  first_late (at_first i) (in_first (in_first b)) x s e h far = absurd (cc h)
  first_late (at_first i) (in_first (in_branch k b)) x s e h far = absurd (cc h)
  first_late (at_second {x = y} i v) here x s e h far = let z : y ≡ x = cc h in absurd (omega (arith, i.target, z, far))
  first_late (at_second i v) (in_first b) x s e h far = absurd (cc h)
  first_late (at_second i v) (in_branch k b) x s e h far = absurd (cc h)
  first_late (both_in_sequence a ms) here x s e h far = absurd (cc h)
  first_late (both_in_sequence a ms) (in_branch k b) x s e h far = absurd (cc h)
  first_late {N = N} (both_in_sequence {u = u} {qs = qs} a ms) (in_first b) x s e h far =
      let z = first_late a b x s e h far in let y = followed_late N (with_left u b finished) qs in omega (arith, z, y)
  first_late (both_in_parallel a) here x s e h far = absurd (cc h)
  first_late (both_in_parallel a) (in_first b) x s e h far = absurd (cc h)
  first_late {N = N} (both_in_parallel {us = us} a) (in_branch k b) x s e h far =
      let z = each_first_late a k b x s e h far in let y = together_late N (with_branch us k b finished) in omega (arith, z, y)

  each_first_late : {N M : ℕ} {old new : List ℕ} {ts us : Terms} → EachAlike N M old new ts us → (k : ℕ) (b : Place) (x : ℕ) (s : Span) (e : Formula)
      → branch_at us k b ≡ Some (assigning x s e) → N ≤ x → suc (each_late N us) ≤ each_late N (with_branch us k b finished)
  each_first_late alike_none k b x s e h far = absurd (cc h)
  each_first_late (alike_more a each) zero b x s e h far = let z = first_late a b x s e h far in omega (arith, z)
  each_first_late (alike_more a each) (suc k) b x s e h far = let z = each_first_late each k b x s e h far in omega (arith, z)

-- a second half that is active somewhere
record FoundLate (N : ℕ) (t : Term) : Type 0 where
  place : Place
  var : ℕ
  hidden : ℕ
  high : ℕ
  low : ℕ
  at : Span
  from : Span
  stands : statement_at t place ≡ Some (assigning var at (reading hidden high low from))
  behind : not (nat_lt hidden N) ≡ true

record FoundEach (N : ℕ) (ts : Terms) : Type 0 where
  index : ℕ
  place : Place
  var : ℕ
  hidden : ℕ
  high : ℕ
  low : ℕ
  at : Span
  from : Span
  stands : branch_at ts index place ≡ Some (assigning var at (reading hidden high low from))
  behind : not (nat_lt hidden N) ≡ true

mutual
  find_late : (N : ℕ) (t : Term) → 1 ≤ lates N t → FoundLate N t
  find_late N finished h = absurd (omega (arith, h))
  find_late N (active (assigning x at (reading k high low from))) h = by (not (nat_lt k N)) refl h
    where
      by : (b : Bool) → not (nat_lt k N) ≡ b → 1 ≤ one_if b → FoundLate N (active (assigning x at (reading k high low from)))
      by true e less = record { place = here; var = x; hidden = k; high = high; low = low; at = at; from = from; stands = refl; behind = e }
      by false e less = absurd (omega (arith, less))
  find_late N (active p) h = absurd (omega (arith, h))
  find_late N (in_sequence t more) h =
      let r = find_late N t h in
      record {
        place = in_first r.place;
        var = r.var;
        hidden = r.hidden;
        high = r.high;
        low = r.low;
        at = r.at;
        from = r.from;
        stands = r.stands;
        behind = r.behind;
      }
  find_late N (in_parallel ts) h =
      let r = find_each N ts h in
      record {
        place = in_branch r.index r.place;
        var = r.var;
        hidden = r.hidden;
        high = r.high;
        low = r.low;
        at = r.at;
        from = r.from;
        stands = r.stands;
        behind = r.behind;
      }

  find_each : (N : ℕ) (ts : Terms) → 1 ≤ each_late N ts → FoundEach N ts
  find_each N no_branches h = absurd (omega (arith, h))
  find_each N (and_branch t more) h = by (lates N t) refl (λ less. find_late N t less) (λ less. find_each N more less)
    where
      by : (n : ℕ) → lates N t ≡ n → (1 ≤ lates N t → FoundLate N t) → (1 ≤ each_late N more → FoundEach N more) → FoundEach N (and_branch t more)
      by zero e f g =
          let r = g (omega (arith, h, e)) in
          record {
            index = suc r.index;
            place = r.place;
            var = r.var;
            hidden = r.hidden;
            high = r.high;
            low = r.low;
            at = r.at;
            from = r.from;
            stands = r.stands;
            behind = r.behind;
          }
      by (suc n) e f g =
          let r = f (omega (arith, e)) in
          record {
            index = zero;
            place = r.place;
            var = r.var;
            hidden = r.hidden;
            high = r.high;
            low = r.low;
            at = r.at;
            from = r.from;
            stands = r.stands;
            behind = r.behind;
          }

-- a step of an assignment leaves nothing of it
assign_left : {c d : Configuration} {b : Place} {x : ℕ} {s : Span} {e : Formula} → Step c b d → statement_at c.term b ≡ Some (assigning x s e)
    → d.term ≡ with_left c.term b finished
assign_left (an_assignment on) h = refl
assign_left (a_skip on) h = absurd (cc (on, h))
assign_left (a_selection on o) h = absurd (cc (on, h))
assign_left (a_turn on o) h = absurd (cc (on, h))
assign_left (an_end on o) h = absurd (cc (on, h))
assign_left (a_repetition on) h = absurd (cc (on, h))
assign_left (a_communication other on there inside) h = absurd (cc (on, h))
assign_left (a_delivery on o m) h = absurd (cc (on, h))
assign_left (an_arrival on o) h = absurd (cc (on, h))

-- the steps of a run in halves, and of the program beside it
follow_steps : (N M : ℕ) {d e : Configuration} {m : ℕ} (c : Configuration) → Near N M c d → Leads d m e → (to : Configuration) × (n : ℕ)
    × Leads c n to × Near N M to e × (m + lates N d.term ≤ 2 * n + lates N e.term)
follow_steps N M c n no_step = (c, 0, no_step, n, omega arith)
follow_steps N M {d = d} {e = e} c n (one_step {d = f} {at = b} {n = k} s l) =
    let a = follow N M n s in
    let r = follow_steps N M a.to a.near l in
    (r.0, a.steps + r.1, lead_on a.leads r.2, r.3, by a.steps a.few a.none (step_late N s) r.1 r.4)
  where
    by : (i : ℕ) → i ≤ 1 → (i ≡ 0 → IsFirst N d b) → lates N d.term ≤ suc (lates N f.term) → (j : ℕ) → k + lates N f.term ≤ 2 * j + lates N e.term
        → suc k + lates N d.term ≤ 2 * (i + j) + lates N e.term
    by zero few first one j most =
        let o = first refl in
        let z = first_late n.alike b o.var o.at o.from o.stands o.hidden in
        let same : lates N f.term ≡ lates N (with_left d.term b finished) = ap (lates N) (assign_left s o.stands) in
        omega (arith, z, same, most)
    by (suc zero) few first one j most = omega (arith, one, most)
    by (suc (suc i)) few first one j most = absurd (omega (arith, few))

-- the program does what is behind first halves, a step for each, and passes nothing by that
flush : (N M k : ℕ) (c d : Configuration) → Near N M c d → k ≤ lates N d.term → (to : Configuration) × Leads c k to × (to.histories ≡ d.histories)
flush N M zero c d n less = (c, no_step, n.histories)
flush N M (suc k) c d n less =
    let r = find_late N d.term (omega (arith, less)) in
    let s : Step d r.place (storing (leaving d r.place finished) r.var (value_in d (reading r.hidden r.high r.low r.from))) = an_assignment r.stands in
    let a = follow N M n s in
    by r a.steps a.few a.none a.leads (flush N M k a.to _ a.near (let z = step_late N s in omega (arith, z, less)))
  where
    by : (r : FoundLate N d.term) (i : ℕ) {x : Configuration} → i ≤ 1 → (i ≡ 0 → IsFirst N d r.place) → Leads c i x
        → (to : Configuration) × Leads x k to × (to.histories ≡ d.histories) → (to : Configuration) × Leads c (suc k) to × (to.histories ≡ d.histories)
    by r zero few first l t = absurd (no_first r (first refl))
      where
        no_first : (r : FoundLate N d.term) → IsFirst N d r.place → ⊥
        no_first r o =
            let e : o.from ≡ reading r.hidden r.high r.low r.from = cc (o.stands, r.stands) in
            let less = subst (λ (f : Formula). ReadsBelow N f) e o.below r.hidden r.from (inl refl) in
            late_below r.hidden N r.behind less
    by r (suc zero) few first l t = let e : 1 + k ≡ suc k = omega arith in (t.0, subst (λ i. Leads c i t.0) e (lead_on l t.1), t.2)
    by r (suc (suc i)) few first l t = absurd (omega (arith, few))

pub halves_pace : HalvesKeepPace
halves_pace p script typed meets n d run =
    let N = length p.vars in
    let M = length (p.vars ++ hidden_vars p.body) in
    let r = follow_steps N M (start_of p script) (start_near p script typed meets) run in
    let t = flush N M (lates N d.term) r.0 d r.3 (omega arith) in
    let most = r.4 in
    (r.1 + lates N d.term, t.0, lead_on r.2 t.1, t.2, omega (arith, most))
