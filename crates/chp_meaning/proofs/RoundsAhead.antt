-- Where a run leads on from a configuration, the round after it is led on to by the round before it: what a round has taken the
-- other one has taken too.
use Rattle.std.proofs.Common.{◌≡◌, ℕ, ◌+◌, List, [], ◌∷◌, length, refl, sym, ap, ◌∙◌, subst, inl, inr}
use Rattle.std.specs.Prelude.{◌≢◌, fold}
use Rattle.chp_meaning.specs.Terms.{Place}
use Rattle.chp_meaning.specs.Steps.{Configuration, Step, Leads, no_step, one_step}
use Rattle.chp_meaning.specs.Rounds.{enabled_places, taken, round}
use Rattle.chp_meaning.proofs.Places.{In, Distinct}
use Rattle.chp_meaning.proofs.Fitting.{Fits}
use Rattle.chp_meaning.proofs.Meeting.{step_fits, joined, lead_on}
use Rattle.chp_meaning.proofs.RoundRuns.{Can, taken_is, all_taken, can_each, each_listed, listed_once}

-- the others of a list
abbrev others : (ps : List Place) (p : Place) → In ps p → List Place
others [] p i = []
others (q ∷ ps) p (inl e) = ps
others (q ∷ ps) p (inr i) = q ∷ others ps p i

others_in : (ps : List Place) (p : Place) (i : In ps p) (q : Place) → In (others ps p i) q → In ps q
others_in [] p i q j = absurd i
others_in (r ∷ ps) p (inl e) q j = inr j
others_in (r ∷ ps) p (inr i) q (inl e) = inl e
others_in (r ∷ ps) p (inr i) q (inr j) = inr (others_in ps p i q j)

others_apart : (ps : List Place) (p : Place) (i : In ps p) → Distinct ps → (q : Place) → In (others ps p i) q → q ≢ p
others_apart [] p i d q j = absurd i
others_apart (r ∷ ps) p (inl e) d q j = λ same. d.0 q j (e ∙ sym same)
others_apart (r ∷ ps) p (inr i) d q (inl e) = λ same. d.0 p i (e ∙ same)
others_apart (r ∷ ps) p (inr i) d q (inr j) = others_apart ps p i d.1 q j

others_distinct : (ps : List Place) (p : Place) (i : In ps p) → Distinct ps → Distinct (others ps p i)
others_distinct [] p i d = absurd i
others_distinct (r ∷ ps) p (inl e) d = d.1
others_distinct (r ∷ ps) p (inr i) d = (λ q j. d.0 q (others_in ps p i q j), others_distinct ps p i d.1)

in_others : (ps : List Place) (p : Place) (i : In ps p) (q : Place) → In ps q → q ≢ p → In (others ps p i) q
in_others [] p i q j ne = absurd i
in_others (r ∷ ps) p (inl e) q (inl f) ne = absurd (ne (sym f ∙ e))
in_others (r ∷ ps) p (inl e) q (inr j) ne = j
in_others (r ∷ ps) p (inr i) q (inl f) ne = inl f
in_others (r ∷ ps) p (inr i) q (inr j) ne = inr (in_others ps p i q j ne)

-- what is taken at one place is still to be taken elsewhere
still_can : {c d : Configuration} {p q : Place} → Fits c.term → Step c p d → Can c q → p ≢ q → Can d q
still_can f s r ne = let j = joined s r.1 f ne in (j.0, j.1)

-- and in either order
swapped : {c d e : Configuration} {p q : Place} → Fits c.term → Step c p d → Step c q e → p ≢ q → taken d q ≡ taken e p
swapped {d = d} {e = e} {p = p} {q = q} f s u ne = let j = joined s u f ne in taken_is (step_fits f s) j.1 ∙ sym (taken_is (step_fits f u) j.2)

-- any one of the steps can be taken first
pull : (ps : List Place) (c : Configuration) → Fits c.term → Distinct ps → ((q : Place) → In ps q → Can c q) → (p : Place) (i : In ps p)
    → fold taken c ps ≡ fold taken (taken c p) (others ps p i)
pull [] c f d each p i = absurd i
pull (q ∷ ps) c f d each p (inl e) = ap (λ r. fold taken (taken c r) ps) e
pull (q ∷ ps) c f d each p (inr i) =
    let r = each q (inl refl) in
    let s = each p (inr i) in
    let ne : q ≢ p = d.0 p i in
    let later : (w : Place) → In ps w → Can r.0 w = λ w j. still_can f r.1 (each w (inr j)) (d.0 w j) in
    ap (λ x. fold taken x ps) (taken_is f r.1)
    ∙ (pull ps r.0 (step_fits f r.1) d.1 later p i
    ∙ (ap (λ x. fold taken x (others ps p i)) (swapped f r.1 s.1 ne)
    ∙ ap (λ x. fold taken (taken x q) (others ps p i)) (sym (taken_is f s.1))))

-- some of the steps lead on to all of them
some_first : (ps qs : List Place) (c : Configuration) → Fits c.term → Distinct ps → Distinct qs → ((q : Place) → In qs q → Can c q)
    → ((p : Place) → In ps p → In qs p) → (k : ℕ) × Leads (fold taken c ps) k (fold taken c qs)
some_first [] qs c f d e each within = (length qs, all_taken qs c f e each)
some_first (p ∷ ps) qs c f d e each within =
    let i = within p (inl refl) in
    let r = each p i in
    let ne : (q : Place) → In (others qs p i) q → q ≢ p = others_apart qs p i e in
    let later : (w : Place) → In (others qs p i) w → Can r.0 w = λ w j. still_can f r.1 (each w (others_in qs p i w j)) (λ same. ne w j (sym same)) in
    let z = some_first ps (others qs p i) r.0 (step_fits f r.1) d.1 (others_distinct qs p i e) later
    (λ q j. in_others qs p i q (within q (inr j)) (λ same. d.0 q j (sym same))) in
    let here : taken c p ≡ r.0 = taken_is f r.1 in (
      z.0,
      subst (λ x. Leads x z.0 (fold taken c qs)) (sym (ap (λ x. fold taken x ps) here))
          (subst (λ x. Leads (fold taken r.0 ps) z.0 x) (sym (pull qs c f e each p i ∙ ap (λ x. fold taken x (others qs p i)) here)) z.1),
    )

one_behind : {a b : Configuration} {p : Place} → Fits a.term → Step a p b → (k : ℕ) × Leads (round a) k (round b)
one_behind {a = a} {b = b} {p = p} f s =
    let i = each_listed f s in
    let g : Fits b.term = step_fits f s in
    let rest = others (enabled_places a) p i in
    let same : round a ≡ fold taken b rest =
    pull (enabled_places a) a f (listed_once a) (can_each a) p i ∙ ap (λ x. fold taken x rest) (taken_is f s) in
    let within : (q : Place) → In rest q → In (enabled_places b) q =
    λ q j. let c = still_can f s (can_each a q (others_in (enabled_places a) p i q j)) (λ z. others_apart (enabled_places a) p i (listed_once a) q j (sym z)) in
    each_listed g c.1 in
    let z = some_first rest (enabled_places b) b g (others_distinct (enabled_places a) p i (listed_once a)) (listed_once b) (can_each b) within in
    (z.0, subst (λ x. Leads x z.0 (round b)) (sym same) z.1)

-- a run's round stays behind
pub rounds_behind : {a b : Configuration} {n : ℕ} → Fits a.term → Leads a n b → (k : ℕ) × Leads (round a) k (round b)
rounds_behind f no_step = (0, no_step)
rounds_behind f (one_step s l) =
    let one = one_behind f s in
    let more = rounds_behind (step_fits f s) l in
    (one.0 + more.0, lead_on one.1 more.1)
