-- A selection or a guarded repetition as a machine of few truth values, and the theorem that both stand on. Its controls are the values of
-- the nodes at hand, the last three those of the latch, the start and the answer of one branch; beside them stands what its rails say.
use Rattle.std.proofs.Common.{◌≡◌, ◌≢◌, ℕ, zero, suc, ◌<◌, ◌+◌, Bool, true, false, not, List, [], ◌∷◌, ◌++◌, length, map, slice_index_or, arith, ap, sym, ◌∙◌, refl, subst, eqb-true}
use Rattle.std.specs.Prelude.{◌&&◌, ◌||◌, if◌then◌else◌, ◌==◌}
use Rattle.std.proofs.Math.Logic.{⊎_elim}
use Rattle.std.proofs.lemmas.List.{append_assoc}
use Rattle.prs_core.specs.Pairs.{rails_of}
use Rattle.prs_core.specs.Parts.{Moment, turned, all_low}
use Rattle.cell_select.specs.Contract.{Branch, BranchPlace, guards_of, controls_of, as_evaluated}
use Rattle.cell_select.proofs.Tables.{implies, implies_at, and_left, and_right, both, not_true, true_not, true_false, all_lists, all_lists_at, all_below, all_below_at, other, same_number, other_number}
use Rattle.cell_select.proofs.Distinct.{Fresh, Distinct, Cross, flip, flips, still, value_at, one_place, cross_at, distinct_left, distinct_right, distinct_cross, fresh_left, fresh_right, swapped, low_still, cross_turned}
use Rattle.cell_select.proofs.Places.{IsPlace}
use Rattle.cell_select.proofs.Rails.{guards_single, seen_rails, consistent, rails_go, is_calm}
use Rattle.cell_select.proofs.RailMoves.{IsRail, rail_moved, seen_still, singles_still}

pub record Machine : Type 0 where
  -- the number of its controls, the place of the guards' request, and that of the latch, before the start and the answer
  pub size : ℕ
  pub eval : ℕ
  pub latch : ℕ
  -- which controls are its own, and when rules may raise and lower each of them
  pub own : ℕ → Bool
  pub up : ℕ → List Bool → List Bool → Bool
  pub down : ℕ → List Bool → List Bool → Bool
  -- what holds in each state that is reached: of the controls alone, and of them with the rails
  pub control : List Bool → Bool
  pub fit : List Bool → List Bool → Bool
  -- what else each such state has
  pub extra : List Bool → List Bool → Bool

abbrev pub bit_at : List Bool → ℕ → Bool
bit_at c i = slice_index_or c i false

abbrev pub can : Machine → ℕ → List Bool → List Bool → Bool
can M i c q = if bit_at c i then M.down i c q else M.up i c q

abbrev pub renoted : Bool → List Bool → List Bool
renoted true (n ∷ w ∷ u ∷ k ∷ z ∷ y ∷ kz ∷ []) = n ∷ w ∷ u ∷ w ∷ z ∷ y ∷ z ∷ []
renoted _ q = q

-- a test that is only made where the first holds
abbrev pub when : Bool → (Unit {0} → Bool) → Bool
when true test = test tt
when false test = true

pub when_at : (a : Bool) (test : Unit {0} → Bool) → when a test ≡ true → a ≡ true → test tt ≡ true
when_at true test h e = h
when_at false test h e = absurd (cc e)

abbrev pub same_seen : List Bool → List Bool → Bool
same_seen (n ∷ w ∷ u ∷ k ∷ z ∷ y ∷ kz ∷ []) (n' ∷ w' ∷ u' ∷ k' ∷ z' ∷ y' ∷ kz' ∷ []) =
    (if n then n' else not n') && ((if z then z' else not z') && ((if y then y' else not y') && (if kz then kz' else not kz')))
same_seen _ _ = false

abbrev pub won_bit : List Bool → Bool
won_bit q = bit_at q 2

abbrev pub under_way : Machine → List Bool → Bool
under_way M c = bit_at c M.latch || (bit_at c (M.latch + 1) || bit_at c (M.latch + 2))

-- a control moves: the state is one of those again, and no other enabled rule is disabled
abbrev step_test : Machine → List Bool → List Bool → Bool
step_test M c q =
    all_below M.size (λ i. when (can M i c q) (λ _. M.control (flip i c) && (M.fit (flip i c) (renoted ((i == M.eval) && bit_at c i) q)
    && all_below M.size (λ j. when (M.own j && not (j == i)) (λ _. implies (can M j c q) (can M j (flip i c) q))))))

-- a rail moves
abbrev rail_test : Machine → List Bool → List Bool → Bool
rail_test M c q =
    all_lists 7 (λ r. when (rails_go (bit_at c M.eval) q r) (λ _. M.fit c r
    && all_below M.size (λ j. when (M.own j) (λ _. implies (can M j c q) (can M j c r)))))

-- where no branch is under way any branch may be looked at
abbrev aim_test : Machine → List Bool → List Bool → Bool
aim_test M c q = when (not (under_way M c)) (λ _. all_lists 7 (λ r. when (consistent r && same_seen q r) (λ _. M.fit c r)))

-- where one is, or its rules may move, its guard isn't false
abbrev won_test : Machine → List Bool → List Bool → Bool
won_test M c q = implies (under_way M c || (can M M.latch c q || (can M (M.latch + 1) c q || can M (M.latch + 2) c q))) (won_bit q)

-- no node is pulled both ways
abbrev both_test : Machine → List Bool → List Bool → Bool
both_test M c q = all_below M.size (λ j. when (M.own j) (λ _. not (M.up j c q && M.down j c q)))

abbrev state_test : Machine → List Bool → List Bool → Bool
state_test M c q = step_test M c q && (rail_test M c q && (aim_test M c q && (won_test M c q && (both_test M c q && M.extra c q))))

abbrev pub whole_test : Machine → Bool
whole_test M = all_lists M.size (λ c. when (M.control c) (λ _. all_lists 7 (λ q. when (M.fit c q) (λ _. state_test M c q))))

-- the nodes whose values are the controls
abbrev pub controls : List ℕ → BranchPlace → List ℕ
controls frame p = frame ++ (p.this.latch ∷ p.this.start ∷ p.this.answer ∷ [])

-- how a machine stands for nodes
pub record Setting (M : Machine) (frame : List ℕ) (bs : List Branch) (eval : ℕ) : Type 0 where
  pub apart : Distinct (frame ++ (controls_of bs ++ rails_of (guards_of bs)))
  pub long : length frame ≡ M.latch
  pub size : M.size ≡ M.latch + 3
  pub inside : M.eval < M.latch
  pub there : slice_index_or frame M.eval 0 ≡ eval
  pub whole : whole_test M ≡ true
  -- the request is the first control and the answer the second; the last follows the start
  pub second : 1 < M.latch
  pub request_up : (v noted : ℕ → Bool) (p : BranchPlace) →
      M.up 0 (map v (controls frame p)) (seen_rails v noted bs p) ≡ not (bit_at (map v (controls frame p)) 1)
  pub request_down : (v noted : ℕ → Bool) (p : BranchPlace) →
      M.down 0 (map v (controls frame p)) (seen_rails v noted bs p) ≡ bit_at (map v (controls frame p)) 1
  pub answer_up : (v noted : ℕ → Bool) (p : BranchPlace) →
      M.up (M.latch + 2) (map v (controls frame p)) (seen_rails v noted bs p) ≡ bit_at (map v (controls frame p)) (M.latch + 1)
  pub answer_down : (v noted : ℕ → Bool) (p : BranchPlace) →
      M.down (M.latch + 2) (map v (controls frame p)) (seen_rails v noted bs p) ≡ not (bit_at (map v (controls frame p)) (M.latch + 1))

pub record View (M : Machine) (frame : List ℕ) (bs : List Branch) (m : Moment) (p : BranchPlace) : Type 0 where
  pub is : IsPlace bs p
  pub calm : is_calm m.value p ≡ true
  pub single : guards_single m.value bs ≡ true
  pub control : M.control (map m.value (controls frame p)) ≡ true
  pub fit : M.fit (map m.value (controls frame p)) (seen_rails m.value m.noted bs p) ≡ true

map_length : (v : ℕ → Bool) (ns : List ℕ) → length (map v ns) ≡ length ns
map_length v [] = refl
map_length v (n ∷ ns) = let rest = map_length v ns in omega (arith, rest)

append_length : (xs ys : List ℕ) → length (xs ++ ys) ≡ length xs + length ys
append_length [] ys = omega arith
append_length (x ∷ xs) ys = let rest = append_length xs ys in omega (arith, rest)

pub controls_length : (M : Machine) (frame : List ℕ) (bs : List Branch) (eval : ℕ) (p : BranchPlace) → Setting M frame bs eval →
    length (controls frame p) ≡ M.size
controls_length M frame bs eval p s =
    let l = append_length frame (p.this.latch ∷ p.this.start ∷ p.this.answer ∷ []) in
    let long = s.long in
    let size = s.size in
    omega (arith, l, long, size)

pub values_length : (M : Machine) (frame : List ℕ) (bs : List Branch) (eval : ℕ) (v : ℕ → Bool) (p : BranchPlace) → Setting M frame bs eval →
    length (map v (controls frame p)) ≡ M.size
values_length M frame bs eval v p s = map_length v (controls frame p) ∙ controls_length M frame bs eval p s

-- the distinct nodes as they lie round one branch
controls_parts : (before : List Branch) (b : Branch) (behind : List Branch) → controls_of (before ++ b ∷ behind) ≡ controls_of before
    ++ ((b.latch ∷ b.start ∷ b.answer ∷ []) ++ controls_of behind)
controls_parts [] b behind = refl
controls_parts (x ∷ before) b behind = ap (λ (ns : List ℕ). x.latch ∷ x.start ∷ x.answer ∷ ns) (controls_parts before b behind)

pub around : (frame : List ℕ) (bs : List Branch) (p : BranchPlace) → IsPlace bs p → Distinct (frame ++ (controls_of bs ++ rails_of (guards_of bs))) →
    Distinct (controls frame p ++ (controls_of p.before ++ (controls_of p.behind ++ rails_of (guards_of bs))))
around frame bs p is d =
    let mine = p.this.latch ∷ p.this.start ∷ p.this.answer ∷ [] in
    let rails = rails_of (guards_of bs) in
    let parts : controls_of bs ++ rails ≡ controls_of p.before ++ (mine ++ (controls_of p.behind ++ rails)) =
    ap (λ (xs : List Branch). controls_of xs ++ rails) is ∙ ap (λ (ns : List ℕ). ns ++ rails) (controls_parts p.before p.this p.behind)
    ∙ append_assoc (controls_of p.before) (mine ++ controls_of p.behind) rails
    ∙ ap (λ (ns : List ℕ). controls_of p.before ++ ns) (append_assoc mine (controls_of p.behind) rails) in
    let whole = subst (λ (ns : List ℕ). Distinct (frame ++ ns)) parts d in
    subst Distinct (sym (append_assoc frame mine (controls_of p.before ++ (controls_of p.behind ++ rails))))
    (swapped frame (controls_of p.before) mine (controls_of p.behind ++ rails) whole)

-- all that a state has
table_at : (M : Machine) (c q : List Bool) → whole_test M ≡ true → length c ≡ M.size → length q ≡ 7 → M.control c ≡ true → M.fit c q ≡ true →
    state_test M c q ≡ true
table_at M c q h lc lq control fit =
    when_at (M.fit c q) (λ _. state_test M c q)
    (all_lists_at 7 (λ q. when (M.fit c q) (λ _. state_test M c q)) (when_at (M.control c) (λ _. all_lists 7 (λ q. when (M.fit c q) (λ _. state_test M c q)))
    (all_lists_at M.size (λ c. when (M.control c) (λ _. all_lists 7 (λ q. when (M.fit c q) (λ _. state_test M c q)))) h c lc) control) q lq)
    fit

pub state_of : (M : Machine) (frame : List ℕ) (bs : List Branch) (eval : ℕ) (m : Moment) (p : BranchPlace) → Setting M frame bs eval → View M frame bs m p →
    state_test M (map m.value (controls frame p)) (seen_rails m.value m.noted bs p) ≡ true
state_of M frame bs eval m p s view = table_at M (map m.value (controls frame p)) (seen_rails m.value m.noted bs p) s.whole
    (values_length M frame bs eval m.value p s) refl view.control view.fit

pub extra_of : (M : Machine) (c q : List Bool) → state_test M c q ≡ true → M.extra c q ≡ true
extra_of M c q h = and_right (both_test M c q) _
    (and_right (won_test M c q) _ (and_right (aim_test M c q) _ (and_right (rail_test M c q) _ (and_right (step_test M c q) _ h))))

pub both_of : (M : Machine) (c q : List Bool) (j : ℕ) → state_test M c q ≡ true → j < M.size → M.own j ≡ true → (M.up j c q && M.down j c q) ≡ false
both_of M c q j h lt own =
    let tests = and_left (both_test M c q) (M.extra c q)
    (and_right (won_test M c q) _ (and_right (aim_test M c q) _ (and_right (rail_test M c q) _ (and_right (step_test M c q) _ h)))) in
    not_true _ (when_at (M.own j) (λ _. not (M.up j c q && M.down j c q)) (all_below_at M.size (λ j. when (M.own j) (λ _. not (M.up j c q && M.down j c q)))
    tests j lt) own)

pub won_of : (M : Machine) (c q : List Bool) → state_test M c q ≡ true → won_test M c q ≡ true
won_of M c q h = and_left _ (both_test M c q && M.extra c q) (and_right (aim_test M c q) _ (and_right (rail_test M c q) _ (and_right (step_test M c q) _ h)))

-- a control moves, as lists of values
pub record Stepped (M : Machine) (c q : List Bool) (i : ℕ) : Type 0 where
  pub control : M.control (flip i c) ≡ true
  pub fit : M.fit (flip i c) (renoted ((i == M.eval) && bit_at c i) q) ≡ true
  pub firm : (j : ℕ) → j < M.size → M.own j ≡ true → j ≢ i → can M j c q ≡ true → can M j (flip i c) q ≡ true

pub step_of : (M : Machine) (c q : List Bool) (i : ℕ) → state_test M c q ≡ true → i < M.size → can M i c q ≡ true → Stepped M c q i
step_of M c q i h lt can_i =
    let steps = and_left (step_test M c q) _ h in
    let firms : Bool = all_below M.size (λ j. when (M.own j && not (j == i)) (λ _. implies (can M j c q) (can M j (flip i c) q))) in
    let here = when_at (can M i c q) (λ _. M.control (flip i c) && (M.fit (flip i c) (renoted ((i == M.eval) && bit_at c i) q) && firms))
    (all_below_at M.size (λ i. when (can M i c q) (λ _. M.control (flip i c)
    && (M.fit (flip i c) (renoted ((i == M.eval) && bit_at c i) q)
    && all_below M.size (λ j. when (M.own j && not (j == i)) (λ _. implies (can M j c q) (can M j (flip i c) q)))))) steps i lt) can_i in
    let rest = and_right (M.control (flip i c)) _ here in
    record {
      control = and_left (M.control (flip i c)) _ here;
      fit = and_left (M.fit (flip i c) (renoted ((i == M.eval) && bit_at c i) q)) firms rest;
      firm = λ j less own ne can_j.
          implies_at (can M j c q) (can M j (flip i c) q) (when_at (M.own j && not (j == i)) (λ _. implies (can M j c q) (can M j (flip i c) q))
          (all_below_at M.size (λ j. when (M.own j && not (j == i)) (λ _. implies (can M j c q) (can M j (flip i c) q)))
          (and_right (M.fit (flip i c) (renoted ((i == M.eval) && bit_at c i) q)) firms rest) j less) (both (M.own j) (not (j == i)) own (other j i ne)))
          can_j;
    }

pub record RailStepped (M : Machine) (c q r : List Bool) : Type 0 where
  pub fit : M.fit c r ≡ true
  pub firm : (j : ℕ) → j < M.size → M.own j ≡ true → can M j c q ≡ true → can M j c r ≡ true

pub rail_of : (M : Machine) (c q r : List Bool) → state_test M c q ≡ true → length r ≡ 7 → rails_go (bit_at c M.eval) q r ≡ true → RailStepped M c q r
rail_of M c q r h long go =
    let rails = and_left (rail_test M c q) _ (and_right (step_test M c q) _ h) in
    let here = when_at (rails_go (bit_at c M.eval) q r) (λ _. M.fit c r && all_below M.size (λ j. when (M.own j) (λ _. implies (can M j c q) (can M j c r))))
    (all_lists_at 7 (λ r. when (rails_go (bit_at c M.eval) q r) (λ _. M.fit c r
    && all_below M.size (λ j. when (M.own j) (λ _. implies (can M j c q) (can M j c r))))) rails r long) go in
    record {
      fit = and_left (M.fit c r) _ here;
      firm = λ j less own can_j.
          implies_at (can M j c q) (can M j c r) (when_at (M.own j) (λ _. implies (can M j c q) (can M j c r))
          (all_below_at M.size (λ j. when (M.own j) (λ _. implies (can M j c q) (can M j c r))) (and_right (M.fit c r) _ here) j less) own) can_j;
    }

pub aim_of : (M : Machine) (c q r : List Bool) → state_test M c q ≡ true → under_way M c ≡ false → length r ≡ 7 → consistent r ≡ true → same_seen q r ≡ true →
    M.fit c r ≡ true
aim_of M c q r h idle long con same =
    let aims = and_left (aim_test M c q) _ (and_right (rail_test M c q) _ (and_right (step_test M c q) _ h)) in
    when_at (consistent r && same_seen q r) (λ _. M.fit c r)
    (all_lists_at 7 (λ r. when (consistent r && same_seen q r) (λ _. M.fit c r))
    (when_at (not (under_way M c)) (λ _. all_lists 7 (λ r. when (consistent r && same_seen q r) (λ _. M.fit c r))) aims (true_not _ idle)) r long)
    (both (consistent r) (same_seen q r) con same)

-- what a moment says after a control has moved
note_same : (v noted : ℕ → Bool) (bs : List Branch) (p : BranchPlace) (b : Bool) →
    seen_rails v (λ n. if b then v n else noted n) bs p ≡ renoted b (seen_rails v noted bs p)
note_same v noted bs p true = refl
note_same v noted bs p false = refl

pub record Moved (M : Machine) (frame : List ℕ) (bs : List Branch) (v : ℕ → Bool) (p : BranchPlace) (i : ℕ) (node : ℕ) : Type 0 where
  pub calm : is_calm (turned v node) p ≡ true
  pub controls : map (turned v node) (controls frame p) ≡ flip i (map v (controls frame p))
  pub rails : (noted : ℕ → Bool) → seen_rails (turned v node) noted bs p ≡ seen_rails v noted bs p
  pub fresh : Fresh node (rails_of (guards_of bs))

pub control_moved : (M : Machine) (frame : List ℕ) (bs : List Branch) (eval : ℕ) (v : ℕ → Bool) (p : BranchPlace) (i node : ℕ) → Setting M frame bs eval →
    IsPlace bs p → is_calm v p ≡ true → i < M.size → node ≡ slice_index_or (controls frame p) i 0 → Moved M frame bs v p i node
control_moved M frame bs eval v p i node s is calm lt at =
    let d = around frame bs p is s.apart in
    let long = controls_length M frame bs eval p s in
    let less : i < length (controls frame p) = omega (arith, lt, long) in
    let rails = rails_of (guards_of bs) in
    let cross = cross_at (controls frame p) (controls_of p.before ++ (controls_of p.behind ++ rails)) i less
    (distinct_cross (controls frame p) (controls_of p.before ++ (controls_of p.behind ++ rails)) d) in
    let off = subst (λ n. Fresh n (controls_of p.before ++ (controls_of p.behind ++ rails))) (sym at) cross in
    let last = fresh_right node (controls_of p.before) (controls_of p.behind ++ rails) off in
    let fresh = fresh_right node (controls_of p.behind) rails last in
    record {
      calm = both _ _ (low_still v node (controls_of p.before) (fresh_left node (controls_of p.before) (controls_of p.behind ++ rails) off)
          ∙ and_left _ (all_low v (controls_of p.behind)) calm) (low_still v node (controls_of p.behind) (fresh_left node (controls_of p.behind) rails last)
          ∙ and_right (all_low v (controls_of p.before)) _ calm);
      controls = ap (λ n. map (turned v n) (controls frame p)) at
          ∙ flips v (controls frame p) i less (distinct_left (controls frame p) (controls_of p.before ++ (controls_of p.behind ++ rails)) d);
      rails = λ noted. seen_still v noted node bs p is fresh;
      fresh = fresh;
    }

-- the guards' request among the controls
get_left : (xs ys : List ℕ) (i : ℕ) → i < length xs → slice_index_or (xs ++ ys) i 0 ≡ slice_index_or xs i 0
get_left [] ys i lt = absurd (omega (arith, lt))
get_left (x ∷ xs) ys zero lt = refl
get_left (x ∷ xs) ys (suc i) lt = get_left xs ys i (omega (arith, lt))

pub eval_there : (M : Machine) (frame : List ℕ) (bs : List Branch) (eval : ℕ) (p : BranchPlace) → Setting M frame bs eval →
    slice_index_or (controls frame p) M.eval 0 ≡ eval
eval_there M frame bs eval p s =
    let inside = s.inside in
    let long = s.long in
    get_left frame (p.this.latch ∷ p.this.start ∷ p.this.answer ∷ []) M.eval (omega (arith, inside, long)) ∙ s.there

pub eval_value : (M : Machine) (frame : List ℕ) (bs : List Branch) (eval : ℕ) (v : ℕ → Bool) (p : BranchPlace) → Setting M frame bs eval →
    bit_at (map v (controls frame p)) M.eval ≡ v eval
eval_value M frame bs eval v p s =
    let inside = s.inside in
    let size = s.size in
    let long = controls_length M frame bs eval p s in
    value_at v (controls frame p) M.eval (omega (arith, inside, size, long)) ∙ ap v (eval_there M frame bs eval p s)

same_test : (M : Machine) (frame : List ℕ) (bs : List Branch) (eval : ℕ) (p : BranchPlace) (i node : ℕ) → Setting M frame bs eval → IsPlace bs p → i < M.size →
    node ≡ slice_index_or (controls frame p) i 0 → (b : Bool) → (i == M.eval) ≡ b → (node == eval) ≡ b
same_test M frame bs eval p i node s is lt at true e =
    ap (λ n. n == eval) (at ∙ ap (λ k. slice_index_or (controls frame p) k 0) (eqb-true i M.eval e) ∙ eval_there M frame bs eval p s) ∙ same_number eval
same_test M frame bs eval p i node s is lt at false e =
    let d = around frame bs p is s.apart in
    let long = controls_length M frame bs eval p s in
    let inside = s.inside in
    let size = s.size in
    let apart = distinct_left (controls frame p) (controls_of p.before ++ (controls_of p.behind ++ rails_of (guards_of bs))) d in
    other_number node eval (λ same. true_false
    (ap (λ k. k == M.eval) (one_place (controls frame p) apart i M.eval (omega (arith, lt, long)) (omega (arith, inside, size, long)) (sym at ∙ same
    ∙ sym (eval_there M frame bs eval p s))) ∙ same_number M.eval) e)

pub control_kept : (M : Machine) (frame : List ℕ) (bs : List Branch) (eval : ℕ) (m : Moment) (p : BranchPlace) (i node : ℕ) → Setting M frame bs eval →
    View M frame bs m p → i < M.size → node ≡ slice_index_or (controls frame p) i 0 →
    can M i (map m.value (controls frame p)) (seen_rails m.value m.noted bs p) ≡ true →
    View M frame bs (record { value = turned m.value node; noted = as_evaluated eval m node }) p
control_kept M frame bs eval m p i node s view lt at can_i =
    let c = map m.value (controls frame p) in
    let q = seen_rails m.value m.noted bs p in
    let step = step_of M c q i (state_of M frame bs eval m p s view) lt can_i in
    let moved = control_moved M frame bs eval m.value p i node s view.is view.calm lt at in
    let test : ((node == eval) && m.value eval) ≡ ((i == M.eval) && bit_at c M.eval) =
    ap (λ b. b && m.value eval) (same_test M frame bs eval p i node s view.is lt at (i == M.eval) refl)
    ∙ ap (λ b. (i == M.eval) && b) (sym (eval_value M frame bs eval m.value p s)) in
    let exact : ((i == M.eval) && bit_at c M.eval) ≡ ((i == M.eval) && bit_at c i) = same_bit c i M.eval (i == M.eval) refl in
    let noted : seen_rails (turned m.value node) (as_evaluated eval m node) bs p ≡ renoted ((i == M.eval) && bit_at c i) q =
    moved.rails (as_evaluated eval m node) ∙ note_same m.value m.noted bs p ((node == eval) && m.value eval) ∙ ap (λ b. renoted b q) (test ∙ exact) in
    record {
      is = view.is;
      calm = moved.calm;
      single = singles_still m.value node bs moved.fresh view.single;
      control = ap M.control moved.controls ∙ step.control;
      fit = ap (λ d. M.fit d (seen_rails (turned m.value node) (as_evaluated eval m node) bs p)) moved.controls ∙ ap (M.fit (flip i c)) noted ∙ step.fit;
    }
  where
    same_bit : (c : List Bool) (i k : ℕ) (b : Bool) → (i == k) ≡ b → (b && bit_at c k) ≡ (b && bit_at c i)
    same_bit c i k true e = ap (λ n. bit_at c n) (sym (eqb-true i k e))
    same_bit c i k false e = refl

-- a rail moves
abbrev pub RailMay : (eval : ℕ) → (v : ℕ → Bool) → BranchPlace → ℕ → Type 0
RailMay eval v q rail = (if v rail then not (v eval) else (v eval && (not (v q.this.guard.t) && not (v q.this.guard.f)))) ≡ true

rail_at : (before : List Branch) (b : Branch) (behind : List Branch) (ns : List ℕ) → Cross (rails_of (guards_of (before ++ b ∷ behind))) ns →
    Fresh b.guard.t ns × Fresh b.guard.f ns
rail_at [] b behind ns h = (h.0, h.1.0)
rail_at (x ∷ before) b behind ns h = rail_at before b behind ns h.1.1

pub rail_off : (frame : List ℕ) (bs : List Branch) (p q : BranchPlace) (rail : ℕ) → IsPlace bs p → IsPlace bs q → IsRail q rail →
    Distinct (frame ++ (controls_of bs ++ rails_of (guards_of bs))) → Fresh rail (controls frame p ++ (controls_of p.before ++ controls_of p.behind))
rail_off frame bs p q rail is at which d =
    let rails = rails_of (guards_of bs) in
    let all = controls frame p ++ (controls_of p.before ++ controls_of p.behind) in
    let whole = around frame bs p is d in
    let joined = subst Distinct (ap (λ (ns : List ℕ). controls frame p ++ ns) (sym (append_assoc (controls_of p.before) (controls_of p.behind) rails))
    ∙ sym (append_assoc (controls frame p) (controls_of p.before ++ controls_of p.behind) rails)) whole in
    let cross = cross_turned all rails (distinct_cross all rails joined) in
    let here = rail_at q.before q.this q.behind all (subst (λ (xs : List Branch). Cross (rails_of (guards_of xs)) all) at cross) in
    ⊎_elim (λ (e : rail ≡ q.this.guard.t). subst (λ n. Fresh n all) (sym e) here.0) (λ (e : rail ≡ q.this.guard.f). subst (λ n. Fresh n all) (sym e) here.1)
    which

rails_distinct : (frame : List ℕ) (bs : List Branch) → Distinct (frame ++ (controls_of bs ++ rails_of (guards_of bs))) → Distinct (rails_of (guards_of bs))
rails_distinct frame bs d = distinct_right (controls_of bs) (rails_of (guards_of bs)) (distinct_right frame (controls_of bs ++ rails_of (guards_of bs)) d)

pub fresh_place : (ns : List ℕ) (n i : ℕ) → i < length ns → Fresh n ns → n ≢ slice_index_or ns i 0
fresh_place [] n i lt h = absurd (omega (arith, lt))
fresh_place (m ∷ ns) n zero lt h = h.0
fresh_place (m ∷ ns) n (suc i) lt h = fresh_place ns n i (omega (arith, lt)) h.1

pub record RailAfter (M : Machine) (frame : List ℕ) (bs : List Branch) (eval : ℕ) (m : Moment) (p : BranchPlace) (rail : ℕ) : Type 0 where
  pub view : View M frame bs (record { value = turned m.value rail; noted = as_evaluated eval m rail }) p
  pub calm : is_calm (turned m.value rail) p ≡ true
  pub same : map (turned m.value rail) (controls frame p) ≡ map m.value (controls frame p)
  pub step : RailStepped M (map m.value (controls frame p)) (seen_rails m.value m.noted bs p) (seen_rails (turned m.value rail) m.noted bs p)

pub rail_kept : (M : Machine) (frame : List ℕ) (bs : List Branch) (eval : ℕ) (m : Moment) (p q : BranchPlace) (rail : ℕ) → Setting M frame bs eval →
    View M frame bs m p → IsPlace bs q → IsRail q rail → RailMay eval m.value q rail → RailAfter M frame bs eval m p rail
rail_kept M frame bs eval m p q rail s view at which may =
    let v = m.value in
    let c = map v (controls frame p) in
    let off = rail_off frame bs p q rail view.is at which s.apart in
    let others = fresh_right rail (controls frame p) (controls_of p.before ++ controls_of p.behind) off in
    let mine = fresh_left rail (controls frame p) (controls_of p.before ++ controls_of p.behind) off in
    let moved = rail_moved v m.noted eval rail bs p q view.is at which (rails_distinct frame bs s.apart) view.single may in
    let go : rails_go (bit_at c M.eval) (seen_rails v m.noted bs p) (seen_rails (turned v rail) m.noted bs p) ≡ true =
    ap (λ e. rails_go e (seen_rails v m.noted bs p) (seen_rails (turned v rail) m.noted bs p)) (eval_value M frame bs eval v p s) ∙ moved.go in
    let step = rail_of M c (seen_rails v m.noted bs p) (seen_rails (turned v rail) m.noted bs p) (state_of M frame bs eval m p s view) refl go in
    let same = still v rail (controls frame p) mine in
    let calm = both _ _ (low_still v rail (controls_of p.before) (fresh_left rail (controls_of p.before) (controls_of p.behind) others)
    ∙ and_left _ (all_low v (controls_of p.behind)) view.calm)
    (low_still v rail (controls_of p.behind) (fresh_right rail (controls_of p.before) (controls_of p.behind) others)
    ∙ and_right (all_low v (controls_of p.before)) _ view.calm) in
    let inside = s.inside in
    let size = s.size in
    let long = controls_length M frame bs eval p s in
    let no_eval : (rail == eval) ≡ false = other_number rail eval (λ e. fresh_place (controls frame p) rail M.eval (omega (arith, inside, size, long)) mine (e
    ∙ sym (eval_there M frame bs eval p s))) in
    let noted : as_evaluated eval m rail ≡ m.noted = ap (λ b. λ (n : ℕ). if b && v eval then v n else m.noted n) no_eval in
    record {
      view = record {
        is = view.is;
        calm = calm;
        single = moved.single;
        control = ap M.control same ∙ view.control;
        fit = ap (λ d. M.fit d (seen_rails (turned v rail) (as_evaluated eval m rail) bs p)) same
            ∙ ap (λ (old : ℕ → Bool). M.fit c (seen_rails (turned v rail) old bs p)) noted ∙ step.fit;
      };
      calm = calm;
      same = same;
      step = step;
    }
