-- What a contract has noted, beside the invariants of the values: the guards' rails as they were, and what has moved since.
use Rattle.std.proofs.Common.{◌≡◌, ◌≢◌, ℕ, ◌<◌, ◌+◌, Bool, true, false, not, List, [], ◌∷◌, ◌++◌, map, slice_index_or, arith, ap, sym, ◌∙◌, refl, subst, inl, inr, ◌⊎◌, eqb-true}
use Rattle.std.specs.Prelude.{◌&&◌, ◌||◌, if◌then◌else◌, ◌==◌}
use Rattle.std.proofs.Math.Logic.{⊎_elim}
use Rattle.prs_core.specs.Pairs.{rails_of}
use Rattle.prs_core.specs.Parts.{Part, Moment, Wire, IsMove, turned, may_move}
use Rattle.cell_select.specs.Contract.{Branch, BranchPlace, guards_of, controls_of, guards_false, alone_true, as_evaluated, is_rail, noting, once, request_wire}
use Rattle.cell_select.proofs.Tables.{implies, implies_at, and_left, and_right, both, not_true, true_false, all_lists, all_lists_at, same_number, other_number}
use Rattle.cell_select.proofs.Distinct.{Fresh, turned_here, turned_other, cross_at, distinct_cross, fresh_left, fresh_right}
use Rattle.cell_select.proofs.Places.{IsPlace, Among, Apart, among_left, among_right, among_middle, one_or_apart, IsBranchWire, t_wire, f_wire, d_wire}
use Rattle.cell_select.proofs.Rails.{seen_rails, among_cases}
use Rattle.cell_select.proofs.Machines.{Machine, Setting, View, bit_at, can, when, when_at, controls, controls_length, around, values_length, rail_off, fresh_place, eval_there, eval_value}
use Rattle.cell_select.proofs.Views.{AsControl, AsRail, IsPart, turn_any, last_there, one_control, latch_value, start_value}

-- rails

or_first : (a b : Bool) → a ≡ true → (a || b) ≡ true
or_first true b h = refl
or_first false b h = absurd (cc h)

or_second : (a b : Bool) → b ≡ true → (a || b) ≡ true
or_second true b h = refl
or_second false b h = h

rail_t : (b : Branch) (bs : List Branch) → Among b bs → is_rail bs b.guard.t ≡ true
rail_t b [] a = absurd a
rail_t b (y ∷ ys) (inl e) = or_first (b.guard.t == y.guard.t) _ (ap (λ (z : Branch). b.guard.t == z.guard.t) (sym e) ∙ same_number b.guard.t)
rail_t b (y ∷ ys) (inr a) = or_second (b.guard.t == y.guard.t) _ (or_second (b.guard.t == y.guard.f) _ (rail_t b ys a))

rail_f : (b : Branch) (bs : List Branch) → Among b bs → is_rail bs b.guard.f ≡ true
rail_f b [] a = absurd a
rail_f b (y ∷ ys) (inl e) = or_second (b.guard.f == y.guard.t) _ (or_first (b.guard.f == y.guard.f) _ (ap (λ (z : Branch). b.guard.f == z.guard.f) (sym e)
    ∙ same_number b.guard.f))
rail_f b (y ∷ ys) (inr a) = or_second (b.guard.f == y.guard.t) _ (or_second (b.guard.f == y.guard.f) _ (rail_f b ys a))

no_rail : (n : ℕ) (bs : List Branch) → Fresh n (rails_of (guards_of bs)) → is_rail bs n ≡ false
no_rail n [] h = refl
no_rail n (b ∷ bs) h =
    ap (λ x. x || (n == b.guard.f || is_rail bs n)) (other_number n b.guard.t h.0) ∙ ap (λ x. x || is_rail bs n) (other_number n b.guard.f h.1.0)
    ∙ no_rail n bs h.1.1

-- two notes that are the same on the rails
pub record Agree (bs : List Branch) (f g : ℕ → Bool) : Type 0 where
  pub trues : (b : Branch) → Among b bs → f b.guard.t ≡ g b.guard.t
  pub falses : (b : Branch) → Among b bs → f b.guard.f ≡ g b.guard.f

noted_rail : (request eval : ℕ) (bs : List Branch) (v n0 n1 : ℕ → Bool) (node rail : ℕ) → is_rail bs rail ≡ true → n0 rail ≡ n1 rail →
    as_evaluated eval (record { value = v; noted = n0 }) node rail ≡ noting request eval bs (record { value = v; noted = n1 }) node rail
noted_rail request eval bs v n0 n1 node rail is same =
    ap (λ b. if node == eval && v eval then v rail else b) same
    ∙ ap (λ b. if b then as_evaluated eval (record { value = v; noted = n1 }) node rail else if node == (if rail == eval then request else eval) then false else
    node == rail || n1 rail) (sym is)

pub agree_after : (request eval : ℕ) (bs : List Branch) (v n0 n1 : ℕ → Bool) (node : ℕ) → Agree bs n0 n1 →
    Agree bs (as_evaluated eval (record { value = v; noted = n0 }) node) (noting request eval bs (record { value = v; noted = n1 }) node)
agree_after request eval bs v n0 n1 node h = record {
  trues = λ b a. noted_rail request eval bs v n0 n1 node b.guard.t (rail_t b bs a) (h.trues b a);
  falses = λ b a. noted_rail request eval bs v n0 n1 node b.guard.f (rail_f b bs a) (h.falses b a);
}

false_agrees : (f g : ℕ → Bool) (xs : List Branch) → ((b : Branch) → Among b xs → f b.guard.f ≡ g b.guard.f) → guards_false f xs ≡ guards_false g xs
false_agrees f g [] h = refl
false_agrees f g (x ∷ xs) h =
    ap (λ b. b && guards_false f xs) (h x (inl refl)) ∙ ap (λ b. g x.guard.f && b) (false_agrees f g xs (λ b a. h b (inr a)))

pub all_false_agrees : (bs : List Branch) (f g : ℕ → Bool) → Agree bs f g → guards_false f bs ≡ guards_false g bs
all_false_agrees bs f g h = false_agrees f g bs h.falses

pub alone_agrees : (bs : List Branch) (f g : ℕ → Bool) (p : BranchPlace) → IsPlace bs p → Agree bs f g → alone_true f p ≡ alone_true g p
alone_agrees bs f g p is h =
    let there : (b : Branch) → Among b (p.before ++ p.this ∷ p.behind) → Among b bs = λ b a. subst (Among b) (sym is) a in
    ap (λ x. x && (guards_false f p.before && guards_false f p.behind)) (h.trues p.this (there p.this (among_middle p.this p.before p.behind)))
    ∙ ap (λ x. g p.this.guard.t && (x && guards_false f p.behind))
    (false_agrees f g p.before (λ b a. h.falses b (there b (among_left b p.before (p.this ∷ p.behind) a))))
    ∙ ap (λ x. g p.this.guard.t && (guards_false g p.before && x))
    (false_agrees f g p.behind (λ b a. h.falses b (there b (among_right b p.before (p.this ∷ p.behind) (inr a)))))

-- neighbours' wires look at values alone
pub same_may : (request answer eval : ℕ) (bs : List Branch) (v n0 n1 : ℕ → Bool) (w : Wire) → (w ≡ request_wire request answer) ⊎ IsBranchWire eval bs w →
    may_move (record { value = v; noted = n1 }) w ≡ may_move (record { value = v; noted = n0 }) w
same_may request answer eval bs v n0 n1 w is =
    let at : (u : Wire) → w ≡ u → may_move (record { value = v; noted = n1 }) u ≡ may_move (record { value = v; noted = n0 }) u →
    may_move (record { value = v; noted = n1 }) w ≡ may_move (record { value = v; noted = n0 }) w =
    λ u e same. ap (may_move (record { value = v; noted = n1 })) e ∙ same ∙ ap (may_move (record { value = v; noted = n0 })) (sym e) in
    ⊎_elim (λ e. at (request_wire request answer) e refl)
    (λ (b : IsBranchWire eval bs w). ⊎_elim (λ e. at (t_wire eval b.0) e refl) (λ more. ⊎_elim (λ e. at (f_wire eval b.0) e refl) (λ e. at (d_wire b.0) e refl)
    more) b.2)
    is

-- which control a move concerns

fresh_control : (n : ℕ) (b : Branch) (bs : List Branch) (i : ℕ) → i < 3 → Among b bs → Fresh n (controls_of bs) →
    n ≢ slice_index_or (b.latch ∷ b.start ∷ b.answer ∷ []) i 0
fresh_control n b [] i lt a h = absurd a
fresh_control n b (x ∷ bs) i lt (inl e) h =
    subst (λ (y : Branch). n ≢ slice_index_or (y.latch ∷ y.start ∷ y.answer ∷ []) i 0) (sym e)
    (fresh_place (x.latch ∷ x.start ∷ x.answer ∷ []) n i (omega (arith, lt)) (h.0, (h.1.0, (h.1.1.0, tt))))
fresh_control n b (x ∷ bs) i lt (inr a) h = fresh_control n b bs i lt a h.1.1.1

-- the node of a control stands among no other branch's
elsewhere : (M : Machine) (frame : List ℕ) (bs : List Branch) (eval : ℕ) (z : BranchPlace) (k node : ℕ) (b : Branch) (i : ℕ) → Setting M frame bs eval →
    IsPlace bs z → k < M.size → node ≡ slice_index_or (controls frame z) k 0 → Among b (z.before ++ z.behind) → i < 3 →
    node ≢ slice_index_or (b.latch ∷ b.start ∷ b.answer ∷ []) i 0
elsewhere M frame bs eval z k node b i s is less at a lt =
    let long = controls_length M frame bs eval z s in
    let rails = rails_of (guards_of bs) in
    let others = controls_of z.before ++ (controls_of z.behind ++ rails) in
    let fresh = subst (λ n. Fresh n others) (sym at)
    (cross_at (controls frame z) others k (omega (arith, long, less)) (distinct_cross (controls frame z) others (around frame bs z is s.apart))) in
    ⊎_elim (λ l. fresh_control node b z.before i lt l (fresh_left node (controls_of z.before) (controls_of z.behind ++ rails) fresh))
    (λ r. fresh_control node b z.behind i lt r
    (fresh_left node (controls_of z.behind) rails (fresh_right node (controls_of z.before) (controls_of z.behind ++ rails) fresh)))
    (among_cases b z.before z.behind a)

pub rail_no_control : (M : Machine) (frame : List ℕ) (bs : List Branch) (eval : ℕ) (m : Moment) (z q : BranchPlace) (k node : ℕ) → Setting M frame bs eval →
    IsPlace bs z → k < M.size → AsRail bs eval m node q → node ≢ slice_index_or (controls frame z) k 0
rail_no_control M frame bs eval m z q k node s is less rail =
    let long = controls_length M frame bs eval z s in
    let off = fresh_left node (controls frame z) (controls_of z.before ++ controls_of z.behind) (rail_off frame bs z q node is rail.is rail.which s.apart) in
    fresh_place (controls frame z) node k (omega (arith, long, less)) off

-- a move of a branch's latch, start or answer may be seen from that branch
abbrev pub SeenAt : Machine → List ℕ → List Branch → Moment → BranchPlace → ℕ → Type 0
SeenAt M frame bs m y k = View M frame bs m y × (can M k (map m.value (controls frame y)) (seen_rails m.value m.noted bs y) ≡ true)

pub seen_at : (M : Machine) (frame : List ℕ) (bs : List Branch) (request answer eval : ℕ) (part : Part) (m : Moment) (p : BranchPlace) (node : ℕ) →
    Setting M frame bs eval → IsPart M frame bs request answer eval part → View M frame bs m p → IsMove part m node → (y : BranchPlace) → IsPlace bs y →
    (i : ℕ) →
    i < 3 → node ≡ slice_index_or (y.this.latch ∷ y.this.start ∷ y.this.answer ∷ []) i 0 → SeenAt M frame bs m y (M.latch + i)
seen_at M frame bs request answer eval part m p node s part_is view move y is i lt at =
    let size = s.size in
    let less : M.latch + i < M.size = omega (arith, size, lt) in
    let here : node ≡ slice_index_or (controls frame y) (M.latch + i) 0 = at ∙ sym (last_there M frame bs eval y i s) in
    let seen = turn_any M frame bs request answer eval part m p node s part_is view move in
    ⊎_elim
    (λ (t : (k : ℕ) × AsControl M frame bs m seen.0 node k). ⊎_elim
    (λ (same : seen.0 ≡ y).
    let mine = subst (λ (z : BranchPlace). View M frame bs m z × AsControl M frame bs m z node t.0) same (seen.2, t.1) in
    let index : t.0 ≡ M.latch + i = one_control M frame bs eval y t.0 (M.latch + i) s is mine.1.less less (sym mine.1.at ∙ here) in
    (mine.0, ap (λ k. can M k (map m.value (controls frame y)) (seen_rails m.value m.noted bs y)) (sym index) ∙ mine.1.may))
    (λ (apart : Apart seen.0 y). absurd (elsewhere M frame bs eval seen.0 t.0 node y.this i s seen.2.is t.1.less t.1.at apart.second lt at))
    (one_or_apart bs seen.0 y seen.2.is is))
    (λ (t : (q : BranchPlace) × AsRail bs eval m node q). absurd (rail_no_control M frame bs eval m y t.0 (M.latch + i) node s is less t.1 here))
    seen.3

-- a move of one of the other controls may be seen from some branch
pub frame_seen : (M : Machine) (frame : List ℕ) (bs : List Branch) (request answer eval : ℕ) (part : Part) (m : Moment) (p : BranchPlace) (node : ℕ) →
    Setting M frame bs eval → IsPart M frame bs request answer eval part → View M frame bs m p → IsMove part m node → (j : ℕ) → j < M.latch →
    ((z : BranchPlace) → node ≡ slice_index_or (controls frame z) j 0) → (z : BranchPlace) × (SeenAt M frame bs m z j)
frame_seen M frame bs request answer eval part m p node s part_is view move j lt at =
    let size = s.size in
    let less : j < M.size = omega (arith, size, lt) in
    let seen = turn_any M frame bs request answer eval part m p node s part_is view move in
    ⊎_elim
    (λ (t : (k : ℕ) × AsControl M frame bs m seen.0 node k).
    let index : t.0 ≡ j = one_control M frame bs eval seen.0 t.0 j s seen.2.is t.1.less less (sym t.1.at ∙ at seen.0) in
    (seen.0, (seen.2, ap (λ k. can M k (map m.value (controls frame seen.0)) (seen_rails m.value m.noted bs seen.0)) (sym index) ∙ t.1.may)))
    (λ (t : (q : BranchPlace) × AsRail bs eval m node q). absurd (rail_no_control M frame bs eval m seen.0 t.0 j node s seen.2.is less t.1 (at seen.0)))
    seen.3

-- a test of all states that are reached
abbrev pub tried : Machine → (List Bool → List Bool → Bool) → Bool
tried M test = all_lists M.size (λ c. when (M.control c) (λ _. all_lists 7 (λ q. when (M.fit c q) (λ _. test c q))))

pub tried_at : (M : Machine) (frame : List ℕ) (bs : List Branch) (eval : ℕ) (m : Moment) (p : BranchPlace) (test : List Bool → List Bool → Bool) →
    Setting M frame bs eval → View M frame bs m p → tried M test ≡ true → test (map m.value (controls frame p)) (seen_rails m.value m.noted bs p) ≡ true
tried_at M frame bs eval m p test s view h =
    let c = map m.value (controls frame p) in
    let q = seen_rails m.value m.noted bs p in
    when_at (M.fit c q) (λ _. test c q)
    (all_lists_at 7 (λ q. when (M.fit c q) (λ _. test c q)) (when_at (M.control c) (λ _. all_lists 7 (λ q. when (M.fit c q) (λ _. test c q)))
    (all_lists_at M.size (λ c. when (M.control c) (λ _. all_lists 7 (λ q. when (M.fit c q) (λ _. test c q)))) h c
    (values_length M frame bs eval m.value p s)) view.control) q refl)
    view.fit

-- nodes that are no rails

pub noted_start : (request eval : ℕ) (bs : List Branch) (m : Moment) (node s : ℕ) → Fresh s (rails_of (guards_of bs)) → s ≢ eval →
    noting request eval bs m node s ≡ (if node == eval then false else node == s || m.noted s)
noted_start request eval bs m node s fresh ne =
    ap (λ b. if b then as_evaluated eval m node s else if node == (if s == eval then request else eval) then false else node == s || m.noted s)
    (no_rail s bs fresh)
    ∙ ap (λ b. if node == (if b then request else eval) then false else node == s || m.noted s) (other_number s eval ne)

pub noted_eval : (request eval : ℕ) (bs : List Branch) (m : Moment) (node : ℕ) → Fresh eval (rails_of (guards_of bs)) →
    noting request eval bs m node eval ≡ (if node == request then false else node == eval || m.noted eval)
noted_eval request eval bs m node fresh =
    ap (λ b. if b then as_evaluated eval m node eval else if node == (if eval == eval then request else eval) then false else node == eval || m.noted eval)
    (no_rail eval bs fresh)
    ∙ ap (λ b. if node == (if b then request else eval) then false else node == eval || m.noted eval) (same_number eval)

pub control_fresh : (M : Machine) (frame : List ℕ) (bs : List Branch) (eval : ℕ) (y : BranchPlace) (i : ℕ) → Setting M frame bs eval → IsPlace bs y → i < 3 →
    Fresh (slice_index_or (y.this.latch ∷ y.this.start ∷ y.this.answer ∷ []) i 0) (rails_of (guards_of bs))
control_fresh M frame bs eval y i s is lt =
    let long = controls_length M frame bs eval y s in
    let size = s.size in
    let rails = rails_of (guards_of bs) in
    let others = controls_of y.before ++ (controls_of y.behind ++ rails) in
    let fresh = cross_at (controls frame y) others (M.latch + i) (omega (arith, long, size, lt))
    (distinct_cross (controls frame y) others (around frame bs y is s.apart)) in
    subst (λ n. Fresh n rails) (last_there M frame bs eval y i s)
    (fresh_right _ (controls_of y.behind) rails (fresh_right _ (controls_of y.before) (controls_of y.behind ++ rails) fresh))

pub latch_no_start : (M : Machine) (frame : List ℕ) (bs : List Branch) (eval : ℕ) (y : BranchPlace) → Setting M frame bs eval → IsPlace bs y →
    y.this.latch ≢ y.this.start
latch_no_start M frame bs eval y s is e =
    let size = s.size in
    let same : M.latch + 0 ≡ M.latch + 1 = one_control M frame bs eval y (M.latch + 0) (M.latch + 1) s is (omega (arith, size)) (omega (arith, size))
    (last_there M frame bs eval y 0 s ∙ e ∙ sym (last_there M frame bs eval y 1 s)) in
    omega (arith, same)

-- a branch whose latch is up, once the guards are let go: where its start has moved since, it is high
abbrev pub start_ok : (e l s b : Bool) → Bool
start_ok e l s b = implies (l && (not e && b)) s

ok_low : (e l s b : Bool) → l ≡ false → start_ok e l s b ≡ true
ok_low e true s b h = absurd (cc h)
ok_low e false s b h = refl

ok_asked : (e l s b : Bool) → e ≡ true → start_ok e l s b ≡ true
ok_asked true true s b h = refl
ok_asked true false s b h = refl
ok_asked false l s b h = absurd (cc h)

ok_run : (e l s b : Bool) → s ≡ true → start_ok e l s b ≡ true
ok_run true true s b h = refl
ok_run true false s b h = refl
ok_run false true s true h = h
ok_run false true s false h = refl
ok_run false false s b h = refl

pub ok_new : (e l s b : Bool) → b ≡ false → start_ok e l s b ≡ true
ok_new e l s true h = absurd (cc h)
ok_new true true s false h = refl
ok_new true false s false h = refl
ok_new false true s false h = refl
ok_new false false s false h = refl

pub start_new : (e l s b : Bool) → start_ok e l s b ≡ true → l ≡ true → e ≡ false → s ≡ false → not b ≡ true
start_new e l s false h hl he hs = refl
start_new true l s true h hl he hs = absurd (cc he)
start_new false false s true h hl he hs = absurd (cc hl)
start_new false true true true h hl he hs = absurd (cc hs)
start_new false true false true h hl he hs = absurd (cc h)

apart_by : (a b : ℕ) → (a == b) ≡ false → a ≢ b
apart_by a b h e = true_false (ap (λ k. a == k) (sym e) ∙ same_number a) h

moved_to : (v : ℕ → Bool) (node k : ℕ) (b : Bool) → node ≡ k → v k ≡ b → turned v node k ≡ not b
moved_to v node k b same is = ap (turned v node) (sym same) ∙ turned_here v node ∙ ap not (ap v same ∙ is)

module _ (v n1 : ℕ → Bool) (eval l s node : ℕ) (ls : l ≢ s) (latch_fact : node ≡ l → v l ≡ false → v eval ≡ true) (start_fact : node ≡ s → v s ≡ true →
    v l ≡ false) (holds : start_ok (v eval) (v l) (v s) (n1 s) ≡ true) where
  abbrev After : Type 0
  After = start_ok (turned v node eval) (turned v node l) (turned v node s) (if node == eval then false else node == s || n1 s) ≡ true

  at_start : (b : Bool) → v s ≡ b → node ≡ s → After
  at_start false is same = ok_run (turned v node eval) (turned v node l) (turned v node s) (if node == eval then false else node == s || n1 s)
      (moved_to v node s false same is)
  at_start true is same = ok_low (turned v node eval) (turned v node l) (turned v node s) (if node == eval then false else node == s || n1 s)
      (turned_other v node l (λ e. ls (sym e ∙ same)) ∙ start_fact same is)

  at_latch : (b : Bool) → v l ≡ b → node ≡ l → node ≢ eval → After
  at_latch true is same ne = ok_low (turned v node eval) (turned v node l) (turned v node s) (if node == eval then false else node == s || n1 s)
      (moved_to v node l true same is)
  at_latch false is same ne = ok_asked (turned v node eval) (turned v node l) (turned v node s) (if node == eval then false else node == s || n1 s)
      (turned_other v node eval ne ∙ latch_fact same is)

  cases : (x y z : Bool) → (node == eval) ≡ x → (node == s) ≡ y → (node == l) ≡ z → After
  cases true y z ex ey ez = ok_new (turned v node eval) (turned v node l) (turned v node s) (if node == eval then false else node == s || n1 s)
      (ap (λ b. if b then false else node == s || n1 s) ex)
  cases false true z ex ey ez = at_start (v s) refl (eqb-true node s ey)
  cases false false true ex ey ez = at_latch (v l) refl (eqb-true node l ez) (apart_by node eval ex)
  cases false false false ex ey ez =
      ap (λ b. start_ok (turned v node eval) (turned v node l) (turned v node s) b) (ap (λ b. if b then false else node == s || n1 s) ex
      ∙ ap (λ b. b || n1 s) ey)
      ∙ ap (λ b. start_ok b (turned v node l) (turned v node s) (n1 s)) (turned_other v node eval (apart_by node eval ex))
      ∙ ap (λ b. start_ok (v eval) b (turned v node s) (n1 s)) (turned_other v node l (apart_by node l ez))
      ∙ ap (λ b. start_ok (v eval) (v l) b (n1 s)) (turned_other v node s (apart_by node s ey)) ∙ holds

  pub start_step : After
  start_step = cases (node == eval) (node == s) (node == l) refl refl refl

-- the guards' request under a request: where it has moved since and is low, a latch is up
abbrev pub eval_ok : (r e a b : Bool) → Bool
eval_ok r e a b = implies (r && (not e && b)) a

pub eval_new : (r e a b : Bool) → eval_ok r e a b ≡ true → r ≡ true → e ≡ false → a ≡ false → not b ≡ true
eval_new r e a b h hr he ha = start_new e r a b h hr he ha

module _ (v n1 : ℕ → Bool) (request eval any node : ℕ) (er : eval ≢ any) (eval_fact : node ≡ eval → v eval ≡ true → v any ≡ true) (any_fact : node ≡ any →
    v any ≡ true → v request ≡ false) (holds : eval_ok (v request) (v eval) (v any) (n1 eval) ≡ true) where
  abbrev Later : Type 0
  Later = eval_ok (turned v node request) (turned v node eval) (turned v node any) (if node == request then false else node == eval || n1 eval) ≡ true

  at_eval : (b : Bool) → v eval ≡ b → node ≡ eval → Later
  at_eval false is same = ok_asked (turned v node eval) (turned v node request) (turned v node any) (if node == request then false else node == eval || n1 eval)
      (moved_to v node eval false same is)
  at_eval true is same = ok_run (turned v node eval) (turned v node request) (turned v node any) (if node == request then false else node == eval || n1 eval)
      (turned_other v node any (λ e. er (sym same ∙ e)) ∙ eval_fact same is)

  at_any : (b : Bool) → v any ≡ b → node ≡ any → node ≢ request → Later
  at_any false is same ne = ok_run (turned v node eval) (turned v node request) (turned v node any) (if node == request then false else node == eval || n1 eval)
      (moved_to v node any false same is)
  at_any true is same ne = ok_low (turned v node eval) (turned v node request) (turned v node any) (if node == request then false else node == eval || n1 eval)
      (turned_other v node request ne ∙ any_fact same is)

  ways : (x y z : Bool) → (node == request) ≡ x → (node == eval) ≡ y → (node == any) ≡ z → Later
  ways true y z ex ey ez = ok_new (turned v node eval) (turned v node request) (turned v node any) (if node == request then false else node == eval || n1 eval)
      (ap (λ b. if b then false else node == eval || n1 eval) ex)
  ways false true z ex ey ez = at_eval (v eval) refl (eqb-true node eval ey)
  ways false false true ex ey ez = at_any (v any) refl (eqb-true node any ez) (apart_by node request ex)
  ways false false false ex ey ez =
      ap (λ b. eval_ok (turned v node request) (turned v node eval) (turned v node any) b) (ap (λ b. if b then false else node == eval || n1 eval) ex
      ∙ ap (λ b. b || n1 eval) ey)
      ∙ ap (λ b. eval_ok b (turned v node eval) (turned v node any) (n1 eval)) (turned_other v node request (apart_by node request ex))
      ∙ ap (λ b. eval_ok (v request) b (turned v node any) (n1 eval)) (turned_other v node eval (apart_by node eval ey))
      ∙ ap (λ b. eval_ok (v request) (v eval) b (n1 eval)) (turned_other v node any (apart_by node any ez)) ∙ holds

  pub eval_step : Later
  eval_step = ways (node == request) (node == eval) (node == any) refl refl refl

-- the guards' request under a request: where it or the latch of the end is high, it has moved since
abbrev pub ended_ok : (r e l b : Bool) → Bool
ended_ok r e l b = implies (r && (e || l)) b

pub ended_new : (r e l b : Bool) → ended_ok r e l b ≡ true → r ≡ true → l ≡ true → b ≡ true
ended_new r e l b h hr hl = implies_at (r && (e || l)) b h (both r (e || l) hr (or_second e l hl))

pub ended_idle : (r e l b : Bool) → r ≡ false → ended_ok r e l b ≡ true
ended_idle true e l b h = absurd (cc h)
ended_idle false e l b h = refl

ended_low : (r e l b : Bool) → e ≡ false → l ≡ false → ended_ok r e l b ≡ true
ended_low true true l b h k = absurd (cc h)
ended_low true false true b h k = absurd (cc k)
ended_low true false false b h k = refl
ended_low false e l b h k = refl

ended_noted : (r e l b : Bool) → b ≡ true → ended_ok r e l b ≡ true
ended_noted true true l b h = h
ended_noted true false true b h = h
ended_noted true false false b h = refl
ended_noted false e l b h = refl

ended_less : (r e b : Bool) → ended_ok r e true b ≡ true → ended_ok r e false b ≡ true
ended_less true true b h = h
ended_less true false b h = refl
ended_less false e b h = refl

ended_more : (r e b : Bool) → e ≡ true → ended_ok r e false b ≡ true → ended_ok r e true b ≡ true
ended_more r true b he h = h
ended_more r false b he h = absurd (cc he)

module _ (v n1 : ℕ → Bool) (request eval leave node : ℕ) (re : request ≢ eval) (rl : request ≢ leave) (rise_fact : node ≡ request → v request ≡ false →
    (v eval ≡ false) × (v leave ≡ false)) (leave_fact : node ≡ leave → v leave ≡ false →
    v eval ≡ true) (holds : ended_ok (v request) (v eval) (v leave) (n1 eval) ≡ true) where
  abbrev Note : Bool
  Note = if node == request then false else node == eval || n1 eval

  abbrev Since : Type 0
  Since = ended_ok (turned v node request) (turned v node eval) (turned v node leave) Note ≡ true

  at_request : (b : Bool) → v request ≡ b → node ≡ request → Since
  at_request true is same = ended_idle (turned v node request) (turned v node eval) (turned v node leave) Note (moved_to v node request true same is)
  at_request false is same =
      let low = rise_fact same is in
      ended_low (turned v node request) (turned v node eval) (turned v node leave) Note (turned_other v node eval (λ e. re (sym same ∙ e)) ∙ low.0)
      (turned_other v node leave (λ e. rl (sym same ∙ e)) ∙ low.1)

  same_note : (node == request) ≡ false → (node == eval) ≡ false → Note ≡ n1 eval
  same_note ex ey = ap (λ b. if b then false else node == eval || n1 eval) ex ∙ ap (λ b. b || n1 eval) ey

  same_but : (l : Bool) → turned v node leave ≡ l → (node == request) ≡ false → (node == eval) ≡ false → ended_ok (v request) (v eval) l (n1 eval) ≡ true →
      Since
  same_but l is ex ey h =
      ap (ended_ok (turned v node request) (turned v node eval) (turned v node leave)) (same_note ex ey)
      ∙ ap (λ b. ended_ok b (turned v node eval) (turned v node leave) (n1 eval)) (turned_other v node request (apart_by node request ex))
      ∙ ap (λ b. ended_ok (v request) b (turned v node leave) (n1 eval)) (turned_other v node eval (apart_by node eval ey))
      ∙ ap (λ b. ended_ok (v request) (v eval) b (n1 eval)) is ∙ h

  at_leave : (b : Bool) → v leave ≡ b → node ≡ leave → (node == request) ≡ false → (node == eval) ≡ false → Since
  at_leave true is same ex ey = same_but false (moved_to v node leave true same is) ex ey
      (ended_less (v request) (v eval) (n1 eval) (ap (λ b. ended_ok (v request) (v eval) b (n1 eval)) (sym is) ∙ holds))
  at_leave false is same ex ey = same_but true (moved_to v node leave false same is) ex ey
      (ended_more (v request) (v eval) (n1 eval) (leave_fact same is) (ap (λ b. ended_ok (v request) (v eval) b (n1 eval)) (sym is) ∙ holds))

  courses : (x y z : Bool) → (node == request) ≡ x → (node == eval) ≡ y → (node == leave) ≡ z → Since
  courses true y z ex ey ez = at_request (v request) refl (eqb-true node request ex)
  courses false true z ex ey ez = ended_noted (turned v node request) (turned v node eval) (turned v node leave) Note
      (ap (λ b. if b then false else node == eval || n1 eval) ex ∙ ap (λ b. b || n1 eval) ey)
  courses false false true ex ey ez = at_leave (v leave) refl (eqb-true node leave ez) ex ey
  courses false false false ex ey ez = same_but (v leave) (turned_other v node leave (apart_by node leave ez)) ex ey holds

  pub ended_step : Since
  ended_step = courses (node == request) (node == eval) (node == leave) refl refl refl

-- a wire that rises once
pub once_may : (v n0 n1 : ℕ → Bool) (u : Wire) (b : Bool) → v u.node ≡ b → may_move (record { value = v; noted = n0 }) u ≡ true →
    u.falls (record { value = v; noted = n1 }) ≡ u.falls (record { value = v; noted = n0 }) →
    (b ≡ false → u.rises (record { value = v; noted = n0 }) ≡ true → (u.rises (record { value = v; noted = n1 }) && not (n1 u.node)) ≡ true) →
    may_move (record { value = v; noted = n1 }) (once u) ≡ true
once_may v n0 n1 u true is may falls rises =
    ap (λ b. if b then u.falls (record { value = v; noted = n1 }) else (u.rises (record { value = v; noted = n1 }) && not (n1 u.node))) is ∙ falls
    ∙ sym (ap (λ b. if b then u.falls (record { value = v; noted = n0 }) else u.rises (record { value = v; noted = n0 })) is) ∙ may
once_may v n0 n1 u false is may falls rises =
    ap (λ b. if b then u.falls (record { value = v; noted = n1 }) else (u.rises (record { value = v; noted = n1 }) && not (n1 u.node))) is
    ∙ rises refl (sym (ap (λ b. if b then u.falls (record { value = v; noted = n0 }) else u.rises (record { value = v; noted = n0 })) is) ∙ may)

-- of each state: a latch rises only while the guards are asked for, a start rises under its latch and falls without it
abbrev pub start_test : Machine → List Bool → List Bool → Bool
start_test M c q =
    implies (can M M.latch c q && not (bit_at c M.latch)) (bit_at c M.eval)
    && implies (can M (M.latch + 1) c q) (if bit_at c (M.latch + 1) then not (bit_at c M.latch) else bit_at c M.latch)

pub start_no_eval : (M : Machine) (frame : List ℕ) (bs : List Branch) (eval : ℕ) (y : BranchPlace) → Setting M frame bs eval → IsPlace bs y →
    y.this.start ≢ eval
start_no_eval M frame bs eval y s is e =
    let size = s.size in
    let inside = s.inside in
    let same : M.latch + 1 ≡ M.eval = one_control M frame bs eval y (M.latch + 1) M.eval s is (omega (arith, size)) (omega (arith, size, inside))
    (last_there M frame bs eval y 1 s ∙ e ∙ sym (eval_there M frame bs eval y s)) in
    omega (arith, same, inside)

plus_zero : (n : ℕ) → n + 0 ≡ n
plus_zero n = omega arith

pub if_true : (b x : Bool) → b ≡ true → (if b then not x else x) ≡ true → x ≡ false
if_true true x h e = not_true x e
if_true false x h e = absurd (cc h)

pub if_false : (b x : Bool) → b ≡ false → (if b then not x else x) ≡ true → x ≡ true
if_false true x h e = absurd (cc h)
if_false false x h e = e

-- a machine with its part, at a moment, and a move
module _ (M : Machine) (frame : List ℕ) (bs : List Branch) (request answer eval : ℕ) (part : Part) (v old : ℕ →
    Bool) (p : BranchPlace) (node : ℕ) (s : Setting M frame bs eval) (part_is : IsPart M frame bs request answer eval part)
    (view : View M frame bs (record { value = v; noted = old }) p) (move : IsMove part (record { value = v; noted = old }) node)
    (tries : tried M (start_test M) ≡ true) (y : BranchPlace) (is : IsPlace bs y) where
  abbrev c : List Bool
  c = map v (controls frame y)

  abbrev q : List Bool
  q = seen_rails v old bs y

  latch_asked : node ≡ y.this.latch → v y.this.latch ≡ false → v eval ≡ true
  latch_asked same low =
      let here = seen_at M frame bs request answer eval part (record { value = v; noted = old }) p node s part_is view move y is 0 (omega arith) same in
      let t = tried_at M frame bs eval (record { value = v; noted = old }) y (start_test M) s here.0 tries in
      sym (eval_value M frame bs eval v y s)
      ∙ implies_at (can M M.latch c q && not (bit_at c M.latch)) (bit_at c M.eval)
      (and_left _ (implies (can M (M.latch + 1) c q) (if bit_at c (M.latch + 1) then not (bit_at c M.latch) else bit_at c M.latch)) t)
      (both _ _ (ap (λ k. can M k c q) (sym (plus_zero M.latch)) ∙ here.1) (ap not (latch_value M frame bs eval v y s ∙ low)))

  start_moves : node ≡ y.this.start → (if bit_at c (M.latch + 1) then not (bit_at c M.latch) else bit_at c M.latch) ≡ true
  start_moves same =
      let here = seen_at M frame bs request answer eval part (record { value = v; noted = old }) p node s part_is view move y is 1 (omega arith) same in
      let t = tried_at M frame bs eval (record { value = v; noted = old }) y (start_test M) s here.0 tries in
      implies_at (can M (M.latch + 1) c q) _ (and_right (implies (can M M.latch c q && not (bit_at c M.latch)) (bit_at c M.eval)) _ t) here.1

  start_unlatched : node ≡ y.this.start → v y.this.start ≡ true → v y.this.latch ≡ false
  start_unlatched same high = sym (latch_value M frame bs eval v y s) ∙ if_true _ _ (start_value M frame bs eval v y s ∙ high) (start_moves same)

  pub start_latched : node ≡ y.this.start → v y.this.start ≡ false → v y.this.latch ≡ true
  start_latched same low = sym (latch_value M frame bs eval v y s) ∙ if_false _ _ (start_value M frame bs eval v y s ∙ low) (start_moves same)

  pub started_after : (n1 : ℕ → Bool) → start_ok (v eval) (v y.this.latch) (v y.this.start) (n1 y.this.start) ≡ true →
      start_ok (turned v node eval) (turned v node y.this.latch) (turned v node y.this.start)
      (noting request eval bs (record { value = v; noted = n1 }) node y.this.start) ≡ true
  started_after n1 holds =
      ap (start_ok (turned v node eval) (turned v node y.this.latch) (turned v node y.this.start))
      (noted_start request eval bs (record { value = v; noted = n1 }) node y.this.start (control_fresh M frame bs eval y 1 s is (omega arith))
      (start_no_eval M frame bs eval y s is))
      ∙ start_step v n1 eval y.this.latch y.this.start node (latch_no_start M frame bs eval y s is) latch_asked start_unlatched holds
