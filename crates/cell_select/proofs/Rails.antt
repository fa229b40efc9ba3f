-- What the rails of the guards say, seen from one branch and from all.
use Rattle.std.proofs.Common.{◌≡◌, ℕ, Bool, true, false, not, List, [], ◌∷◌, ◌++◌, map, ap, sym, ◌∙◌, refl, subst, inl, inr, ◌⊎◌}
use Rattle.std.specs.Prelude.{◌&&◌, ◌||◌, if◌then◌else◌}
use Rattle.std.specs.List.{list_all, list_any}
use Rattle.std.proofs.Math.Logic.{⊎_elim}
use Rattle.prs_core.specs.declared.rule.Literal.{Literal}
use Rattle.prs_core.specs.Nets.{is_high, one_term}
use Rattle.prs_core.specs.Moves.{literal_holds, term_holds}
use Rattle.prs_core.specs.Pairs.{Pair, lows, or_of}
use Rattle.prs_core.specs.Parts.{all_low}
use Rattle.cell_select.specs.Selections.{all_false}
use Rattle.cell_select.specs.Contract.{Branch, BranchPlace, latches_of, starts_of, answers_of, guards_of, controls_of, guards_neutral, guards_false, none_true, alone_true}
use Rattle.cell_select.proofs.Tables.{implies, implies_at, and_left, and_right, both, not_true, all_lists_at}
use Rattle.cell_select.proofs.Places.{IsPlace, Among, among_middle}

-- one rail of a guard at most is high
abbrev pub is_single : (ℕ → Bool) → Pair → Bool
is_single v p = not (v p.t && v p.f)

abbrev pub guards_single : (ℕ → Bool) → List Branch → Bool
guards_single v bs = list_all (is_single v) (guards_of bs)

-- its guard isn't false, and no other is true
abbrev pub is_won : (ℕ → Bool) → BranchPlace → Bool
is_won v p = not (v p.this.guard.f) && (none_true v p.before && none_true v p.behind)

-- all rails are low; this guard alone is true; it isn't false and no other true; it alone was noted; all guards are false; none is
-- true; all were noted as false
abbrev pub seen_rails : (value noted : ℕ → Bool) → List Branch → BranchPlace → List Bool
seen_rails v noted bs p =
    guards_neutral v bs ∷ alone_true v p ∷ is_won v p ∷ alone_true noted p ∷ guards_false v bs ∷ none_true v bs ∷ guards_false noted bs ∷ []

abbrev pub consistent : List Bool → Bool
consistent (n ∷ w ∷ u ∷ k ∷ z ∷ y ∷ kz ∷ []) =
    implies n u && (implies n y && (implies n (not w)
    && (implies n (not z) && (implies w u && (implies w (not y) && (implies z y && (implies z (not w) && implies u (not z))))))))
consistent _ = false

-- a rail that is allowed to move leads from the one to the other
abbrev pub rails_go : (evaluated : Bool) → (before after : List Bool) → Bool
rails_go e (n ∷ w ∷ u ∷ k ∷ z ∷ y ∷ kz ∷ []) (n' ∷ w' ∷ u' ∷ k' ∷ z' ∷ y' ∷ kz' ∷ []) =
    consistent (n' ∷ w' ∷ u' ∷ k' ∷ z' ∷ y' ∷ kz' ∷ []) && ((if k then k' else not k') && ((if kz then kz' else not kz')
    && (if e then not w && (not z && not n') else not n && (implies u u' && implies y y'))))
rails_go _ _ _ = false

and_assoc : (a b c : Bool) → (a && (b && c)) ≡ ((a && b) && c)
and_assoc true b c = refl
and_assoc false b c = refl

pub neutral_parts : (v : ℕ → Bool) (before : List Branch) (b : Branch) (behind : List Branch) →
    guards_neutral v (before ++ b ∷ behind) ≡ (guards_neutral v before && (not (v b.guard.t) && (not (v b.guard.f) && guards_neutral v behind)))
neutral_parts v [] b behind = refl
neutral_parts v (x ∷ before) b behind =
    let rest = not (v b.guard.t) && (not (v b.guard.f) && guards_neutral v behind) in
    ap (λ r. not (v x.guard.t) && (not (v x.guard.f) && r)) (neutral_parts v before b behind)
    ∙ ap (λ r. not (v x.guard.t) && r) (and_assoc (not (v x.guard.f)) (guards_neutral v before) rest)
    ∙ and_assoc (not (v x.guard.t)) (not (v x.guard.f) && guards_neutral v before) rest

pub all_parts : (test : Branch → Bool) (before : List Branch) (b : Branch) (behind : List Branch) →
    list_all test (before ++ b ∷ behind) ≡ (list_all test before && (test b && list_all test behind))
all_parts test [] b behind = refl
all_parts test (x ∷ before) b behind = ap (λ r. test x && r) (all_parts test before b behind)
    ∙ and_assoc (test x) (list_all test before) (test b && list_all test behind)

single_by : (v : ℕ → Bool) (bs : List Branch) → guards_single v bs ≡ list_all (λ (b : Branch). is_single v b.guard) bs
single_by v [] = refl
single_by v (b ∷ bs) = ap (λ r. is_single v b.guard && r) (single_by v bs)

neutral_none : (v : ℕ → Bool) (bs : List Branch) → guards_neutral v bs ≡ true → none_true v bs ≡ true
neutral_none v [] h = refl
neutral_none v (b ∷ bs) h =
    both _ _ (and_left (not (v b.guard.t)) (not (v b.guard.f) && guards_neutral v bs) h)
    (neutral_none v bs (and_right (not (v b.guard.f)) (guards_neutral v bs) (and_right (not (v b.guard.t)) (not (v b.guard.f) && guards_neutral v bs) h)))

not_both : (t f : Bool) → not (t && f) ≡ true → f ≡ true → not t ≡ true
not_both true true h e = h
not_both true false h e = absurd (cc e)
not_both false f h e = refl

false_none : (v : ℕ → Bool) (bs : List Branch) → guards_single v bs ≡ true → guards_false v bs ≡ true → none_true v bs ≡ true
false_none v [] s h = refl
false_none v (b ∷ bs) s h =
    both _ _ (not_both (v b.guard.t) (v b.guard.f) (and_left (is_single v b.guard) (guards_single v bs) s) (and_left (v b.guard.f) (guards_false v bs) h))
    (false_none v bs (and_right (is_single v b.guard) (guards_single v bs) s) (and_right (v b.guard.f) (guards_false v bs) h))

-- by the rails of the branch and what those before and behind it say
abbrev by_parts : List Bool → Bool
by_parts (t ∷ f ∷ na ∷ fa ∷ ya ∷ nc ∷ fc ∷ yc ∷ []) =
    implies (not (t && f) && (implies na ya && (implies nc yc && (implies fa ya && implies fc yc))))
    (consistent ((na && (not t && (not f && nc))) ∷ (t && (fa && fc)) ∷ (not f && (ya && yc)) ∷ true ∷ (fa && (f && fc)) ∷ (ya && (not t && yc)) ∷ true ∷ []))
by_parts _ = true

implied : (a b : Bool) → (a ≡ true → b ≡ true) → implies a b ≡ true
implied true b h = h refl
implied false b h = refl

parts_consistent : (t f na fa ya nc fc yc : Bool) → not (t && f) ≡ true → (na ≡ true → ya ≡ true) → (nc ≡ true → yc ≡ true) → (fa ≡ true → ya ≡ true) →
    (fc ≡ true → yc ≡ true) → consistent ((na && (not t && (not f && nc))) ∷ (t && (fa && fc)) ∷ (not f && (ya && yc)) ∷ true ∷ (fa && (f && fc))
    ∷ (ya && (not t && yc)) ∷ true ∷ []) ≡ true
parts_consistent t f na fa ya nc fc yc s h i j k =
    implies_at _ _ (all_lists_at 8 by_parts refl (t ∷ f ∷ na ∷ fa ∷ ya ∷ nc ∷ fc ∷ yc ∷ []) refl)
    (both _ _ s (both _ _ (implied na ya h) (both _ _ (implied nc yc i) (both _ _ (implied fa ya j) (implied fc yc k)))))

pub rails_consistent : (v noted : ℕ → Bool) (bs : List Branch) (p : BranchPlace) → IsPlace bs p → guards_single v bs ≡ true →
    consistent (seen_rails v noted bs p) ≡ true
rails_consistent v noted bs p is s =
    let whole = sym (all_parts (λ (b : Branch). is_single v b.guard) p.before p.this p.behind) ∙ ap (list_all (λ (b : Branch). is_single v b.guard)) (sym is)
    ∙ sym (single_by v bs) ∙ s in
    let rest = and_right (list_all (λ (b : Branch). is_single v b.guard) p.before) (is_single v p.this.guard
    && list_all (λ (b : Branch). is_single v b.guard) p.behind) whole in
    let first = single_by v p.before ∙ and_left (list_all (λ (b : Branch). is_single v b.guard) p.before) (is_single v p.this.guard
    && list_all (λ (b : Branch). is_single v b.guard) p.behind) whole in
    let here = and_left (is_single v p.this.guard) (list_all (λ (b : Branch). is_single v b.guard) p.behind) rest in
    let last = single_by v p.behind ∙ and_right (is_single v p.this.guard) (list_all (λ (b : Branch). is_single v b.guard) p.behind) rest in
    let table = parts_consistent (v p.this.guard.t) (v p.this.guard.f) (guards_neutral v p.before) (guards_false v p.before) (none_true v p.before)
    (guards_neutral v p.behind) (guards_false v p.behind) (none_true v p.behind) here
    (neutral_none v p.before) (neutral_none v p.behind) (false_none v p.before first) (false_none v p.behind last) in
    let n = ap (guards_neutral v) is ∙ neutral_parts v p.before p.this p.behind in
    let z = ap (guards_false v) is ∙ all_parts (λ (b : Branch). v b.guard.f) p.before p.this p.behind in
    let y = ap (none_true v) is ∙ all_parts (λ (b : Branch). not (v b.guard.t)) p.before p.this p.behind in
    rw (n, z, y) table

-- guards, as the values of nodes
pub low_terms : (v : ℕ → Bool) (ns : List ℕ) → list_all (literal_holds v) (lows ns) ≡ all_low v ns
low_terms v [] = refl
low_terms v (n ∷ ns) = ap (λ r. not (v n) && r) (low_terms v ns)

some_more : (b rest : Bool) → ((b && true) || not rest) ≡ not (not b && rest)
some_more true rest = refl
some_more false rest = refl

pub some_terms : (v : ℕ → Bool) (ns : List ℕ) → list_any (term_holds v) (map (λ a. is_high a ∷ []) ns) ≡ not (all_low v ns)
some_terms v [] = refl
some_terms v (n ∷ ns) = ap (λ r. (v n && true) || r) (some_terms v ns) ∙ some_more (v n) (all_low v ns)

pub falses_hold : (v : ℕ → Bool) (bs : List Branch) → list_all (literal_holds v) (all_false (guards_of bs)) ≡ guards_false v bs
falses_hold v [] = refl
falses_hold v (b ∷ bs) = ap (λ r. v b.guard.f && r) (falses_hold v bs)

around : (a t b : Bool) → (a && (t && b)) ≡ (t && (a && b))
around true true b = refl
around true false b = refl
around false true b = refl
around false false b = refl

wanted_from : (v : ℕ → Bool) (xs : List Literal) (l : Literal) (ys : List Literal) →
    list_all (literal_holds v) (xs ++ l ∷ ys) ≡ (list_all (literal_holds v) xs && (literal_holds v l && list_all (literal_holds v) ys))
wanted_from v [] l ys = refl
wanted_from v (x ∷ xs) l ys = ap (λ r. literal_holds v x && r) (wanted_from v xs l ys)
    ∙ and_assoc (literal_holds v x) (list_all (literal_holds v) xs) (literal_holds v l && list_all (literal_holds v) ys)

pub wanted_is : (v : ℕ → Bool) (p : BranchPlace) →
    list_all (literal_holds v) (all_false (guards_of p.before) ++ is_high p.this.guard.t ∷ all_false (guards_of p.behind)) ≡ alone_true v p
wanted_is v p =
    wanted_from v (all_false (guards_of p.before)) (is_high p.this.guard.t) (all_false (guards_of p.behind))
    ∙ ap (λ a. a && (v p.this.guard.t && list_all (literal_holds v) (all_false (guards_of p.behind)))) (falses_hold v p.before)
    ∙ ap (λ c. guards_false v p.before && (v p.this.guard.t && c)) (falses_hold v p.behind)
    ∙ around (guards_false v p.before) (v p.this.guard.t) (guards_false v p.behind)

-- the OR of the latches
pub or_up : (ns : List ℕ) → (or_of ns).up ≡ map (λ k. is_high k ∷ []) ns
or_up [] = refl
or_up (n ∷ ns) = refl

pub or_down : (before : List Branch) (b : Branch) (behind : List Branch) →
    (or_of (latches_of (before ++ b ∷ behind))).down ≡ one_term (lows (latches_of (before ++ b ∷ behind)))
or_down [] b behind = refl
or_down (x ∷ before) b behind = refl

-- the others do nothing: their latches, starts and answers are low
abbrev pub is_calm : (ℕ → Bool) → BranchPlace → Bool
is_calm v p = all_low v (controls_of p.before) && all_low v (controls_of p.behind)

calm_map : (f : Branch → ℕ) (v : ℕ → Bool) → ((b : Branch) → (rest : Bool) → (not (v b.latch) && (not (v b.start) && (not (v b.answer) && rest))) ≡ true →
    (not (v (f b)) ≡ true) × (rest ≡ true)) → (bs : List Branch) → all_low v (controls_of bs) ≡ true → all_low v (map f bs) ≡ true
calm_map f v pick [] h = refl
calm_map f v pick (b ∷ bs) h = let r = pick b (all_low v (controls_of bs)) h in both _ _ r.0 (calm_map f v pick bs r.1)

one_in : (f : Branch → ℕ) (v : ℕ → Bool) (before : List Branch) (b : Branch) (behind : List Branch) → all_low v (map f before) ≡ true →
    all_low v (map f behind) ≡ true → all_low v (map f (before ++ b ∷ behind)) ≡ not (v (f b))
one_in f v [] b behind h k = ap (λ r. not (v (f b)) && r) k ∙ and_true (not (v (f b)))
  where
    and_true : (a : Bool) → (a && true) ≡ a
    and_true true = refl
    and_true false = refl
one_in f v (x ∷ before) b behind h k =
    ap (λ r. r && all_low v (map f (before ++ b ∷ behind))) (and_left (not (v (f x))) (all_low v (map f before)) h)
    ∙ one_in f v before b behind (and_right (not (v (f x))) (all_low v (map f before)) h) k

pick_latch : (v : ℕ → Bool) (b : Branch) (rest : Bool) → (not (v b.latch) && (not (v b.start) && (not (v b.answer) && rest))) ≡ true →
    (not (v b.latch) ≡ true) × (rest ≡ true)
pick_latch v b rest h =
    let s = and_right (not (v b.latch)) _ h in
    (and_left (not (v b.latch)) _ h, and_right (not (v b.answer)) rest (and_right (not (v b.start)) _ s))

pick_start : (v : ℕ → Bool) (b : Branch) (rest : Bool) → (not (v b.latch) && (not (v b.start) && (not (v b.answer) && rest))) ≡ true →
    (not (v b.start) ≡ true) × (rest ≡ true)
pick_start v b rest h =
    let s = and_right (not (v b.latch)) _ h in
    (and_left (not (v b.start)) _ s, and_right (not (v b.answer)) rest (and_right (not (v b.start)) _ s))

pick_answer : (v : ℕ → Bool) (b : Branch) (rest : Bool) → (not (v b.latch) && (not (v b.start) && (not (v b.answer) && rest))) ≡ true →
    (not (v b.answer) ≡ true) × (rest ≡ true)
pick_answer v b rest h =
    let s = and_right (not (v b.latch)) _ h in
    let d = and_right (not (v b.start)) _ s in
    (and_left (not (v b.answer)) rest d, and_right (not (v b.answer)) rest d)

pub only_latch : (v : ℕ → Bool) (p : BranchPlace) → is_calm v p ≡ true → all_low v (latches_of (p.before ++ p.this ∷ p.behind)) ≡ not (v p.this.latch)
only_latch v p h =
    one_in (λ (b : Branch). b.latch) v p.before p.this p.behind
    (calm_map (λ (b : Branch). b.latch) v (pick_latch v) p.before (and_left _ (all_low v (controls_of p.behind)) h))
    (calm_map (λ (b : Branch). b.latch) v (pick_latch v) p.behind (and_right (all_low v (controls_of p.before)) _ h))

pub only_start : (v : ℕ → Bool) (p : BranchPlace) → is_calm v p ≡ true → all_low v (starts_of (p.before ++ p.this ∷ p.behind)) ≡ not (v p.this.start)
only_start v p h =
    one_in (λ (b : Branch). b.start) v p.before p.this p.behind
    (calm_map (λ (b : Branch). b.start) v (pick_start v) p.before (and_left _ (all_low v (controls_of p.behind)) h))
    (calm_map (λ (b : Branch). b.start) v (pick_start v) p.behind (and_right (all_low v (controls_of p.before)) _ h))

pub only_answer : (v : ℕ → Bool) (p : BranchPlace) → is_calm v p ≡ true → all_low v (answers_of (p.before ++ p.this ∷ p.behind)) ≡ not (v p.this.answer)
only_answer v p h =
    one_in (λ (b : Branch). b.answer) v p.before p.this p.behind
    (calm_map (λ (b : Branch). b.answer) v (pick_answer v) p.before (and_left _ (all_low v (controls_of p.behind)) h))
    (calm_map (λ (b : Branch). b.answer) v (pick_answer v) p.behind (and_right (all_low v (controls_of p.before)) _ h))

-- a branch among others that do nothing
pub record IsQuiet (v : ℕ → Bool) (b : Branch) : Type 0 where
  pub latch : v b.latch ≡ false
  pub start : v b.start ≡ false
  pub answer : v b.answer ≡ false

quiet_in : (v : ℕ → Bool) (b : Branch) (bs : List Branch) → all_low v (controls_of bs) ≡ true → Among b bs → IsQuiet v b
quiet_in v b [] h a = absurd a
quiet_in v b (x ∷ bs) h (inl e) =
    let rest = all_low v (controls_of bs) in
    subst (IsQuiet v) (sym e) (record {
      latch = not_true _ ((pick_latch v x rest h).0);
      start = not_true _ ((pick_start v x rest h).0);
      answer =
          not_true _ ((pick_answer v x rest h).0);
    })
quiet_in v b (x ∷ bs) h (inr a) = quiet_in v b bs ((pick_latch v x (all_low v (controls_of bs)) h).1) a

pub among_cases : (b : Branch) (xs ys : List Branch) → Among b (xs ++ ys) → Among b xs ⊎ Among b ys
among_cases b [] ys h = inr h
among_cases b (x ∷ xs) ys (inl e) = inl (inl e)
among_cases b (x ∷ xs) ys (inr h) = ⊎_elim (λ l. inl (inr l)) (λ r. inr r) (among_cases b xs ys h)

pub quiet_among : (v : ℕ → Bool) (p : BranchPlace) (b : Branch) → is_calm v p ≡ true → Among b (p.before ++ p.behind) → IsQuiet v b
quiet_among v p b h a =
    ⊎_elim (λ l. quiet_in v b p.before (and_left _ (all_low v (controls_of p.behind)) h) l)
    (λ r. quiet_in v b p.behind (and_right (all_low v (controls_of p.before)) _ h) r) (among_cases b p.before p.behind a)

false_in : (v : ℕ → Bool) (b : Branch) (bs : List Branch) → guards_false v bs ≡ true → Among b bs → v b.guard.f ≡ true
false_in v b [] h a = absurd a
false_in v b (x ∷ bs) h (inl e) = ap (λ (y : Branch). v y.guard.f) e ∙ and_left (v x.guard.f) (guards_false v bs) h
false_in v b (x ∷ bs) h (inr a) = false_in v b bs (and_right (v x.guard.f) (guards_false v bs) h) a

-- where one guard is true alone another is false
pub false_among : (v : ℕ → Bool) (p : BranchPlace) (b : Branch) → alone_true v p ≡ true → Among b (p.before ++ p.behind) → v b.guard.f ≡ true
false_among v p b h a =
    let rest = and_right (v p.this.guard.t) (guards_false v p.before && guards_false v p.behind) h in
    ⊎_elim (λ l. false_in v b p.before (and_left _ (guards_false v p.behind) rest) l)
    (λ r. false_in v b p.behind (and_right (guards_false v p.before) _ rest) r) (among_cases b p.before p.behind a)

pub false_at : (v : ℕ → Bool) (bs : List Branch) (q : BranchPlace) → IsPlace bs q → guards_false v bs ≡ true → v q.this.guard.f ≡ true
false_at v bs q is h = false_in v q.this bs h (subst (Among q.this) (sym is) (among_middle q.this q.before q.behind))

neutral_in : (v : ℕ → Bool) (b : Branch) (bs : List Branch) → guards_neutral v bs ≡ true → Among b bs → (v b.guard.t ≡ false) × (v b.guard.f ≡ false)
neutral_in v b [] h a = absurd a
neutral_in v b (x ∷ bs) h (inl e) =
    let rest = and_right (not (v x.guard.t)) (not (v x.guard.f) && guards_neutral v bs) h in (
      ap (λ (y : Branch). v y.guard.t) e ∙ not_true _ (and_left (not (v x.guard.t)) (not (v x.guard.f) && guards_neutral v bs) h),
      ap (λ (y : Branch). v y.guard.f) e ∙ not_true _ (and_left (not (v x.guard.f)) (guards_neutral v bs) rest),
    )
neutral_in v b (x ∷ bs) h (inr a) = neutral_in v b bs
    (and_right (not (v x.guard.f)) (guards_neutral v bs) (and_right (not (v x.guard.t)) (not (v x.guard.f) && guards_neutral v bs) h)) a

pub neutral_at : (v : ℕ → Bool) (bs : List Branch) (q : BranchPlace) → IsPlace bs q → guards_neutral v bs ≡ true →
    (v q.this.guard.t ≡ false) × (v q.this.guard.f ≡ false)
neutral_at v bs q is h = neutral_in v q.this bs h (subst (Among q.this) (sym is) (among_middle q.this q.before q.behind))
