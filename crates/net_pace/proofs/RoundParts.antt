-- Some of the steps of a round, one after the other in whatever order: what the others can still do, and that the round is led on to.
--
-- ps, qs: places; f: that the term fits; d: that no place stands twice; each: that a step can be taken at each place.
use Rattle.std.proofs.Common.{◌≡◌, ◌≢◌, ℕ, List, [], ◌∷◌, length, refl, sym, ap, ◌∙◌, subst, inl, inr}
use Rattle.std.specs.Prelude.{fold}
use Rattle.chp_meaning.specs.Terms.{Place}
use Rattle.chp_meaning.specs.Steps.{Configuration, Step, Leads}
use Rattle.chp_meaning.specs.Rounds.{taken}
use Rattle.chp_meaning.proofs.Places.{In, Distinct}
use Rattle.chp_meaning.proofs.Fitting.{Fits}
use Rattle.chp_meaning.proofs.Meeting.{step_fits, joined}
use Rattle.chp_meaning.proofs.RoundRuns.{Can, taken_is, all_taken}

-- a step at each of the places
abbrev pub CanEach : Configuration → List Place → Type 0
CanEach c ps = (p : Place) → In ps p → Can c p

-- none of them is this one
abbrev pub Off : List Place → Place → Type 0
Off ps q = (p : Place) → In ps p → p ≢ q

pub can_still : {c d : Configuration} {p q : Place} → Fits c.term → Step c p d → Can c q → p ≢ q → Can d q
can_still f s can apart = let j = joined s can.1 f apart in (j.0, j.1)

pub can_others : (ps : List Place) (p : Place) {c d : Configuration} → Fits c.term → Distinct (p ∷ ps) → CanEach c (p ∷ ps) → Step c p d → CanEach d ps
can_others ps p f d each s w i = can_still f s (each w (inr i)) (d.0 w i)

-- behind the steps at some places, one at another place can still be taken
pub can_behind : (ps : List Place) (c : Configuration) → Fits c.term → Distinct ps → CanEach c ps → (q : Place) → Can c q → Off ps q → Can (fold taken c ps) q
can_behind [] c f d each q can off = can
can_behind (p ∷ ps) c f d each q can off =
    let r = each p (inl refl) in
    subst (λ x. Can (fold taken x ps) q) (sym (taken_is f r.1))
    (can_behind ps r.0 (step_fits f r.1) d.1 (can_others ps p f d each r.1) q (can_still f r.1 can (off p (inl refl))) (λ w i. off w (inr i)))

-- which may as well be taken first
pub first_or_last : (ps : List Place) (c : Configuration) → Fits c.term → Distinct ps → CanEach c ps → (q : Place) → Can c q → Off ps q
    → fold taken (taken c q) ps ≡ taken (fold taken c ps) q
first_or_last [] c f d each q can off = refl
first_or_last (p ∷ ps) c f d each q can off =
    let r = each p (inl refl) in
    let j = joined r.1 can.1 f (off p (inl refl)) in
    ap (λ x. fold taken (taken x p) ps) (taken_is f can.1)
    ∙ (ap (λ x. fold taken x ps) (taken_is (step_fits f can.1) j.2 ∙ sym (taken_is (step_fits f r.1) j.1))
    ∙ (first_or_last ps r.0 (step_fits f r.1) d.1 (can_others ps p f d each r.1) q (j.0, j.1) (λ w i. off w (inr i))
    ∙ ap (λ x. taken (fold taken x ps) q) (sym (taken_is f r.1))))

-- a list without one of its places, whose step is taken first
record Without (ps : List Place) (p : Place) : Type 0 where
  rest : List Place
  within : (q : Place) → In rest q → In ps q × (p ≢ q)
  back : (q : Place) → In ps q → p ≢ q → In rest q
  once : Distinct rest
  same : (c : Configuration) → Fits c.term → CanEach c ps → fold taken c ps ≡ fold taken (taken c p) rest

-- behind another place
later_one : (r : Place) (ps : List Place) (p : Place) → In ps p → Distinct (r ∷ ps) → Without ps p → Without (r ∷ ps) p
later_one r ps p i d z = record {
  rest = r ∷ z.rest;
  within = within;
  back = back;
  once = ((λ q j. d.0 q (z.within q j).0), z.once);
  same = same;
}
  where
    within : (q : Place) → In (r ∷ z.rest) q → In (r ∷ ps) q × (p ≢ q)
    within q (inl g) = (inl g, λ s. d.0 p i (g ∙ sym s))
    within q (inr j) = (inr (z.within q j).0, (z.within q j).1)

    back : (q : Place) → In (r ∷ ps) q → p ≢ q → In (r ∷ z.rest) q
    back q (inl g) ne = inl g
    back q (inr j) ne = inr (z.back q j ne)

    same : (c : Configuration) → Fits c.term → CanEach c (r ∷ ps) → fold taken c (r ∷ ps) ≡ fold taken (taken c p) (r ∷ z.rest)
    same c f each =
        let s = each r (inl refl) in
        let u = each p (inr i) in
        let j = joined s.1 u.1 f (d.0 p i) in
        ap (λ x. fold taken x ps) (taken_is f s.1)
        ∙ (z.same s.0 (step_fits f s.1) (can_others ps r f d each s.1)
        ∙ ap (λ x. fold taken x z.rest)
        (taken_is (step_fits f s.1) j.1 ∙ (sym (taken_is (step_fits f u.1) j.2) ∙ ap (λ x. taken x r) (sym (taken_is f u.1)))))

without : (ps : List Place) (p : Place) → In ps p → Distinct ps → Without ps p
without [] p i d = absurd i
without (r ∷ ps) p (inl e) d = record {
  rest = ps;
  within = λ q j. (inr j, λ s. d.0 q j (e ∙ s));
  back = back;
  once = d.1;
  same = λ c f each. ap (λ x. fold taken (taken c x) ps) e;
}
  where
    back : (q : Place) → In (r ∷ ps) q → p ≢ q → In ps q
    back q (inl g) ne = absurd (ne (sym e ∙ g))
    back q (inr j) ne = j
without (r ∷ ps) p (inr i) d = later_one r ps p i d (without ps p i d.1)

-- some of the steps lead on to all of them
pub some_lead : (ps qs : List Place) (c : Configuration) → Fits c.term → Distinct ps → Distinct qs → CanEach c qs → ((p : Place) → In ps p → In qs p)
    → (k : ℕ) × Leads (fold taken c ps) k (fold taken c qs)
some_lead [] qs c f d e each within = (length qs, all_taken qs c f e each)
some_lead (p ∷ ps) qs c f d e each within =
    let z = without qs p (within p (inl refl)) e in
    let r = each p (within p (inl refl)) in
    let here : taken c p ≡ r.0 = taken_is f r.1 in
    let more = some_lead ps z.rest r.0 (step_fits f r.1) d.1 z.once (λ w j. can_still f r.1 (each w (z.within w j).0) (z.within w j).1)
    (λ q j. z.back q (within q (inr j)) (d.0 q j)) in (
      more.0,
      subst (λ x. Leads x more.0 (fold taken c qs)) (sym (ap (λ x. fold taken x ps) here))
          (subst (λ x. Leads (fold taken r.0 ps) more.0 x) (sym (z.same c f each ∙ ap (λ x. fold taken x z.rest) here)) more.1),
    )
