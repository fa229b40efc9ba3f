-- What the rails say after one of them has moved, or a node that is no rail.
use Rattle.std.proofs.Common.{◌≡◌, ◌≢◌, ℕ, Bool, true, false, not, List, [], ◌∷◌, ◌++◌, ap, sym, ◌∙◌, refl, subst, inl, inr, ◌⊎◌, eqb-true}
use Rattle.std.specs.Prelude.{◌&&◌, if◌then◌else◌, ◌==◌}
use Rattle.std.proofs.Math.Logic.{⊎_elim}
use Rattle.prs_core.specs.Pairs.{Pair, rails_of}
use Rattle.prs_core.specs.Parts.{turned}
use Rattle.cell_select.specs.Contract.{Branch, BranchPlace, guards_of, guards_neutral, guards_false, none_true, alone_true}
use Rattle.cell_select.proofs.Tables.{implies, and_left, and_right, both, not_true, true_not, true_false, no_true}
use Rattle.cell_select.proofs.Distinct.{Fresh, Distinct, turned_here, turned_other, low_still}
use Rattle.cell_select.proofs.Places.{IsPlace, Apart, one_or_apart}
use Rattle.cell_select.proofs.Rails.{is_single, guards_single, is_won, seen_rails, consistent, rails_go, rails_consistent, false_among, false_at, neutral_at}

abbrev pub IsRail : BranchPlace → ℕ → Type 0
IsRail q rail = (rail ≡ q.this.guard.t) ⊎ (rail ≡ q.this.guard.f)

and_false : (x : Bool) → not (x && false) ≡ true
and_false true = refl
and_false false = refl

-- a rail that falls leaves low what is low
below : (v : ℕ → Bool) (rail k : ℕ) (b : Bool) → (k == rail) ≡ b → v rail ≡ true → v k ≡ false → turned v rail k ≡ false
below v rail k true e h low = absurd (true_false h (ap v (sym (eqb-true k rail e)) ∙ low))
below v rail k false e h low = ap (λ b. if b then not (v k) else v k) e ∙ low

pub falls_below : (v : ℕ → Bool) (rail : ℕ) → v rail ≡ true → (k : ℕ) → v k ≡ false → turned v rail k ≡ false
falls_below v rail h k low = below v rail k (k == rail) refl h low

abbrev Below : (w v : ℕ → Bool) → Type 0
Below w v = (k : ℕ) → v k ≡ false → w k ≡ false

none_below : (w v : ℕ → Bool) → Below w v → (bs : List Branch) → none_true v bs ≡ true → none_true w bs ≡ true
none_below w v b [] h = refl
none_below w v b (x ∷ bs) h =
    both _ _ (true_not _ (b x.guard.t (not_true _ (and_left (not (v x.guard.t)) (none_true v bs) h))))
    (none_below w v b bs (and_right (not (v x.guard.t)) (none_true v bs) h))

pair_below : (w v : ℕ → Bool) → Below w v → (p : Pair) → is_single v p ≡ true → is_single w p ≡ true
pair_below w v b p h = cases (v p.t) (v p.f) refl refl h
  where
    cases : (t f : Bool) → v p.t ≡ t → v p.f ≡ f → not (v p.t && v p.f) ≡ true → not (w p.t && w p.f) ≡ true
    cases false f e g h = ap (λ x. not (x && w p.f)) (b p.t e)
    cases true false e g h = ap (λ x. not (w p.t && x)) (b p.f g) ∙ and_false (w p.t)
    cases true true e g h = absurd (cc (e, g, h))

single_below : (w v : ℕ → Bool) → Below w v → (bs : List Branch) → guards_single v bs ≡ true → guards_single w bs ≡ true
single_below w v b [] h = refl
single_below w v b (x ∷ bs) h =
    both _ _ (pair_below w v b x.guard (and_left (is_single v x.guard) (guards_single v bs) h))
    (single_below w v b bs (and_right (is_single v x.guard) (guards_single v bs) h))

won_below : (w v : ℕ → Bool) → Below w v → (p : BranchPlace) → is_won v p ≡ true → is_won w p ≡ true
won_below w v b p h =
    let rest = and_right (not (v p.this.guard.f)) (none_true v p.before && none_true v p.behind) h in
    both _ _ (true_not _ (b p.this.guard.f (not_true _ (and_left (not (v p.this.guard.f)) (none_true v p.before && none_true v p.behind) h))))
    (both _ _ (none_below w v b p.before (and_left (none_true v p.before) (none_true v p.behind) rest))
    (none_below w v b p.behind (and_right (none_true v p.before) (none_true v p.behind) rest)))

-- a node that is no rail
single_still : (v : ℕ → Bool) (n : ℕ) (bs : List Branch) → Fresh n (rails_of (guards_of bs)) → guards_single (turned v n) bs ≡ guards_single v bs
single_still v n [] h = refl
single_still v n (x ∷ bs) h =
    ap (λ t. not (t && turned v n x.guard.f) && guards_single (turned v n) bs) (turned_other v n x.guard.t h.0)
    ∙ ap (λ f. not (v x.guard.t && f) && guards_single (turned v n) bs) (turned_other v n x.guard.f h.1.0)
    ∙ ap (λ r. is_single v x.guard && r) (single_still v n bs h.1.1)

false_still : (v : ℕ → Bool) (n : ℕ) (bs : List Branch) → Fresh n (rails_of (guards_of bs)) → guards_false (turned v n) bs ≡ guards_false v bs
false_still v n [] h = refl
false_still v n (x ∷ bs) h = ap (λ f. f && guards_false (turned v n) bs) (turned_other v n x.guard.f h.1.0)
    ∙ ap (λ r. v x.guard.f && r) (false_still v n bs h.1.1)

none_still : (v : ℕ → Bool) (n : ℕ) (bs : List Branch) → Fresh n (rails_of (guards_of bs)) → none_true (turned v n) bs ≡ none_true v bs
none_still v n [] h = refl
none_still v n (x ∷ bs) h = ap (λ t. not t && none_true (turned v n) bs) (turned_other v n x.guard.t h.0)
    ∙ ap (λ r. not (v x.guard.t) && r) (none_still v n bs h.1.1)

fresh_before : (n : ℕ) (before : List Branch) (b : Branch) (behind : List Branch) → Fresh n (rails_of (guards_of (before ++ b ∷ behind))) →
    Fresh n (rails_of (guards_of before))
fresh_before n [] b behind h = tt
fresh_before n (x ∷ before) b behind h = (h.0, (h.1.0, fresh_before n before b behind h.1.1))

fresh_from : (n : ℕ) (before : List Branch) (b : Branch) (behind : List Branch) → Fresh n (rails_of (guards_of (before ++ b ∷ behind))) →
    Fresh n (rails_of (guards_of (b ∷ behind)))
fresh_from n [] b behind h = h
fresh_from n (x ∷ before) b behind h = fresh_from n before b behind h.1.1

pub seen_still : (v noted : ℕ → Bool) (n : ℕ) (bs : List Branch) (p : BranchPlace) → IsPlace bs p → Fresh n (rails_of (guards_of bs)) →
    seen_rails (turned v n) noted bs p ≡ seen_rails v noted bs p
seen_still v noted n bs p is h =
    let parts = subst (λ (xs : List Branch). Fresh n (rails_of (guards_of xs))) is h in
    let first = fresh_before n p.before p.this p.behind parts in
    let last = fresh_from n p.before p.this p.behind parts in
    let neutral = low_still v n (rails_of (guards_of bs)) h in
    let t = turned_other v n p.this.guard.t last.0 in
    let f = turned_other v n p.this.guard.f last.1.0 in
    rw (
      neutral,
      t,
      f,
      false_still v n p.before first,
      false_still v n p.behind last.1.1,
      none_still v n p.before first,
      none_still v n p.behind last.1.1,
      false_still v n bs h,
      none_still v n bs h,
    ) refl

pub singles_still : (v : ℕ → Bool) (n : ℕ) (bs : List Branch) → Fresh n (rails_of (guards_of bs)) → guards_single v bs ≡ true →
    guards_single (turned v n) bs ≡ true
singles_still v n bs h s = single_still v n bs h ∙ s

-- a rail that rises where neither rail of its guard is high
fresh_rail : (n : ℕ) (before : List Branch) (b : Branch) (behind : List Branch) → Fresh n (rails_of (guards_of (before ++ b ∷ behind))) →
    (n ≢ b.guard.t) × (n ≢ b.guard.f)
fresh_rail n before b behind h = let last = fresh_from n before b behind h in (last.0, last.1.0)

not_rail : (n rail : ℕ) (b : Branch) → (n ≢ b.guard.t) × (n ≢ b.guard.f) → (rail ≡ b.guard.t) ⊎ (rail ≡ b.guard.f) → rail ≢ n
not_rail n rail b h (inl e) = λ same. h.0 (sym same ∙ e)
not_rail n rail b h (inr e) = λ same. h.1 (sym same ∙ e)

pair_rises : (v : ℕ → Bool) (rail t f : ℕ) → t ≢ f → v t ≡ false → v f ≡ false → (rail ≡ t) ⊎ (rail ≡ f) → not (turned v rail t && turned v rail f) ≡ true
pair_rises v rail t f d lt lf (inl e) = ap (λ b. not (turned v rail t && b)) (turned_other v rail f (λ same. d (sym e ∙ same)) ∙ lf)
    ∙ and_false (turned v rail t)
pair_rises v rail t f d lt lf (inr e) = ap (λ b. not (b && turned v rail f)) (turned_other v rail t (λ same. d (sym same ∙ e)) ∙ lt)

rail_fresh : (v : ℕ → Bool) (rail : ℕ) (b : Branch) (ns : List ℕ) → Fresh b.guard.t ns → Fresh b.guard.f ns → (rail ≡ b.guard.t) ⊎ (rail ≡ b.guard.f) →
    Fresh rail ns
rail_fresh v rail b ns h k (inl e) = subst (λ n. Fresh n ns) (sym e) h
rail_fresh v rail b ns h k (inr e) = subst (λ n. Fresh n ns) (sym e) k

single_rises : (v : ℕ → Bool) (rail : ℕ) (before : List Branch) (b : Branch) (behind : List Branch) → Distinct (rails_of (guards_of (before ++ b ∷ behind))) →
    (rail ≡ b.guard.t) ⊎ (rail ≡ b.guard.f) → v b.guard.t ≡ false → v b.guard.f ≡ false → guards_single v (before ++ b ∷ behind) ≡ true →
    guards_single (turned v rail) (before ++ b ∷ behind) ≡ true
single_rises v rail [] b behind d which lt lf h =
    both _ _ (pair_rises v rail b.guard.t b.guard.f d.0.0 lt lf which)
    (singles_still v rail behind (rail_fresh v rail b (rails_of (guards_of behind)) d.0.1 d.1.0 which)
    (and_right (is_single v b.guard) (guards_single v behind) h))
single_rises v rail (x ∷ before) b behind d which lt lf h =
    let rest = before ++ b ∷ behind in
    let t = not_rail x.guard.t rail b (fresh_rail x.guard.t before b behind d.0.1) which in
    let f = not_rail x.guard.f rail b (fresh_rail x.guard.f before b behind d.1.0) which in
    ap (λ z. not (z && turned v rail x.guard.f) && guards_single (turned v rail) rest) (turned_other v rail x.guard.t t)
    ∙ ap (λ z. not (v x.guard.t && z) && guards_single (turned v rail) rest) (turned_other v rail x.guard.f f)
    ∙ both _ _ (and_left (is_single v x.guard) (guards_single v rest) h)
    (single_rises v rail before b behind d.1.1 which lt lf (and_right (is_single v x.guard) (guards_single v rest) h))

rail_value : (v : ℕ → Bool) (q : BranchPlace) (rail : ℕ) (b : Bool) → IsRail q rail → v rail ≡ b → (v q.this.guard.t ≡ b) ⊎ (v q.this.guard.f ≡ b)
rail_value v q rail b (inl e) h = inl (ap v (sym e) ∙ h)
rail_value v q rail b (inr e) h = inr (ap v (sym e) ∙ h)

not_neutral : (v : ℕ → Bool) (bs : List Branch) (q : BranchPlace) (rail : ℕ) → IsPlace bs q → IsRail q rail → v rail ≡ true → guards_neutral v bs ≡ false
not_neutral v bs q rail is which h =
    no_true _ (λ n. let low = neutral_at v bs q is n in ⊎_elim (λ e. true_false e low.0) (λ e. true_false e low.1) (rail_value v q rail true which h))

not_alone : (v : ℕ → Bool) (bs : List Branch) (p q : BranchPlace) → IsPlace bs p → IsPlace bs q → v q.this.guard.t ≡ false → v q.this.guard.f ≡ false →
    alone_true v p ≡ false
not_alone v bs p q is at lt lf =
    no_true _ (λ w. ⊎_elim
    (λ (same : p ≡ q). true_false (ap (λ (r : BranchPlace). v r.this.guard.t) (sym same)
    ∙ and_left (v p.this.guard.t) (guards_false v p.before && guards_false v p.behind) w) lt)
    (λ (apart : Apart p q). true_false (false_among v p q.this w apart.second) lf)
    (one_or_apart bs p q is at))

same_same : (k : Bool) → (if k then k else not k) ≡ true
same_same true = refl
same_same false = refl

implied : (a b : Bool) → (a ≡ true → b ≡ true) → implies a b ≡ true
implied true b h = h refl
implied false b h = refl

-- the allowed move of a rail
pub record RailMoved (v noted : ℕ → Bool) (eval rail : ℕ) (bs : List Branch) (p : BranchPlace) : Type 0 where
  pub single : guards_single (turned v rail) bs ≡ true
  pub go : rails_go (v eval) (seen_rails v noted bs p) (seen_rails (turned v rail) noted bs p) ≡ true

goes : (e n w u k z y kz n' w' u' z' y' : Bool) → consistent (n' ∷ w' ∷ u' ∷ k ∷ z' ∷ y' ∷ kz ∷ []) ≡ true →
    (if e then not w && (not z && not n') else not n && (implies u u' && implies y y')) ≡ true →
    rails_go e (n ∷ w ∷ u ∷ k ∷ z ∷ y ∷ kz ∷ []) (n' ∷ w' ∷ u' ∷ k ∷ z' ∷ y' ∷ kz ∷ []) ≡ true
goes e n w u k z y kz n' w' u' z' y' c h = both _ _ c (both _ _ (same_same k) (both _ _ (same_same kz) h))

rail_falls : (v noted : ℕ → Bool) (eval rail : ℕ) (bs : List Branch) (p q : BranchPlace) → IsPlace bs p → IsPlace bs q → IsRail q rail →
    guards_single v bs ≡ true →
    v rail ≡ true → v eval ≡ false → RailMoved v noted eval rail bs p
rail_falls v noted eval rail bs p q is at which s high low =
    let w = turned v rail in
    let b = falls_below v rail high in
    let single = single_below w v b bs s in
    let n = not_neutral v bs q rail at which high in
    record {
      single = single;
      go = goes (v eval) (guards_neutral v bs) (alone_true v p) (is_won v p) (alone_true noted p) (guards_false v bs) (none_true v bs) (guards_false noted bs)
          (guards_neutral w bs) (alone_true w p) (is_won w p) (guards_false w bs) (none_true w bs) (rails_consistent w noted bs p is single)
          (ap (λ e. if e then not (alone_true v p) && (not (guards_false v bs) && not (guards_neutral w bs)) else not (guards_neutral v bs)
          && (implies (is_won v p) (is_won w p) && implies (none_true v bs) (none_true w bs))) low
          ∙ both _ _ (true_not _ n) (both _ _ (implied _ _ (won_below w v b p)) (implied _ _ (none_below w v b bs))));
    }

rail_rises : (v noted : ℕ → Bool) (eval rail : ℕ) (bs : List Branch) (p q : BranchPlace) → IsPlace bs p → IsPlace bs q → IsRail q rail →
    Distinct (rails_of (guards_of bs)) → guards_single v bs ≡ true → v rail ≡ false → v eval ≡ true → v q.this.guard.t ≡ false → v q.this.guard.f ≡ false →
    RailMoved v noted eval rail bs p
rail_rises v noted eval rail bs p q is at which d s low high lt lf =
    let w = turned v rail in
    let single = subst (λ (xs : List Branch). guards_single w xs ≡ true) (sym at)
    (single_rises v rail q.before q.this q.behind (subst (λ (xs : List Branch). Distinct (rails_of (guards_of xs))) at d) which lt lf
    (subst (λ (xs : List Branch). guards_single v xs ≡ true) at s)) in
    let up : w rail ≡ true = turned_here v rail ∙ true_not _ low in
    record {
      single = single;
      go = goes (v eval) (guards_neutral v bs) (alone_true v p) (is_won v p) (alone_true noted p) (guards_false v bs) (none_true v bs) (guards_false noted bs)
          (guards_neutral w bs) (alone_true w p) (is_won w p) (guards_false w bs) (none_true w bs) (rails_consistent w noted bs p is single)
          (ap (λ e. if e then not (alone_true v p) && (not (guards_false v bs) && not (guards_neutral w bs)) else not (guards_neutral v bs)
          && (implies (is_won v p) (is_won w p) && implies (none_true v bs) (none_true w bs))) high
          ∙ both _ _ (true_not _ (not_alone v bs p q is at lt lf))
          (both _ _ (true_not _ (no_true _ (λ z. true_false (false_at v bs q at z) lf))) (true_not _ (not_neutral w bs q rail at which up))));
    }

by_value : (v noted : ℕ → Bool) (eval rail : ℕ) (bs : List Branch) (p q : BranchPlace) (b : Bool) → v rail ≡ b → IsPlace bs p → IsPlace bs q → IsRail q rail →
    Distinct (rails_of (guards_of bs)) → guards_single v bs ≡ true →
    (if b then not (v eval) else (v eval && (not (v q.this.guard.t) && not (v q.this.guard.f)))) ≡ true → RailMoved v noted eval rail bs p
by_value v noted eval rail bs p q true e is at which d s may = rail_falls v noted eval rail bs p q is at which s e (not_true _ may)
by_value v noted eval rail bs p q false e is at which d s may =
    let low = and_right (v eval) (not (v q.this.guard.t) && not (v q.this.guard.f)) may in
    rail_rises v noted eval rail bs p q is at which d s e (and_left (v eval) _ may)
    (not_true _ (and_left (not (v q.this.guard.t)) (not (v q.this.guard.f)) low)) (not_true _ (and_right (not (v q.this.guard.t)) _ low))

pub rail_moved : (v noted : ℕ → Bool) (eval rail : ℕ) (bs : List Branch) (p q : BranchPlace) → IsPlace bs p → IsPlace bs q → IsRail q rail →
    Distinct (rails_of (guards_of bs)) → guards_single v bs ≡ true →
    (if v rail then not (v eval) else (v eval && (not (v q.this.guard.t) && not (v q.this.guard.f)))) ≡ true → RailMoved v noted eval rail bs p
rail_moved v noted eval rail bs p q is at which d s may = by_value v noted eval rail bs p q (v rail) refl is at which d s may
