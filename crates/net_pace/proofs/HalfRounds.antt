-- Two rounds of a program in halves have passed what one round of the program has.
--
-- c, d: a configuration of the program and of its halves, near to each other; n: that they are; ps, rs: places of the program; bs: places in halves.
use Rattle.std.proofs.Common.{◌≡◌, ◌≢◌, ℕ, zero, suc, ◌+◌, ◌*◌, List, [], ◌∷◌, ◌++◌, length, refl, sym, ap, ◌∙◌, subst, inl, inr, arith}
use Rattle.std.specs.Prelude.{fold}
use Rattle.env_script.specs.Runs.{history_at}
use Rattle.chp_meaning.specs.Terms.{Place}
use Rattle.chp_meaning.specs.Steps.{Configuration, Step, Leads, no_step}
use Rattle.chp_meaning.specs.Rounds.{enabled_places, taken, round, rounds_from}
use Rattle.chp_meaning.specs.Halves.{hidden_vars}
use Rattle.chp_meaning.proofs.Places.{In, Distinct}
use Rattle.chp_meaning.proofs.Moves.{stands}
use Rattle.chp_meaning.proofs.Meeting.{lead_on, leads_fit}
use Rattle.chp_meaning.proofs.RoundRuns.{Can, taken_is, can_each, each_listed, listed_once, round_leads, run_behind}
use Rattle.chp_meaning.proofs.RoundsAhead.{rounds_behind}
use Rattle.chp_meaning.proofs.Halves.{Near}
use Rattle.chp_meaning.proofs.HalvedTyping.{start_near}
use Rattle.net_pace.specs.HalvedRounds.{TwoRoundsForOne}
use Rattle.net_pace.proofs.RoundParts.{CanEach, Off, can_still, can_others, can_behind, first_or_last, some_lead}
use Rattle.net_pace.proofs.HalfPlaces.{inside, Goes, one_level, On, goes_apart, goes_once}
use Rattle.net_pace.proofs.HalfSteps.{Matched, at_once, half_way, matched}

on_place : {c : Configuration} {p : Place} → Can c p → On c.term p
on_place can = stands can.1

-- the program has taken the steps at some of the places, where its halves have taken first halves at the others
record HalfDone (N M : ℕ) (c d : Configuration) (ps : List Place) : Type 0 where
  to : Configuration
  there : Configuration
  near : Near N M to there
  bs : List Place
  bs_once : Distinct bs
  bs_can : CanEach d bs
  bs_of : (b : Place) → In bs b → (p : Place) × In ps p × Goes p b
  is : there ≡ fold taken d bs
  rs : List Place
  rs_once : Distinct rs
  rs_of : (r : Place) → In rs r → In ps r
  rs_can : CanEach to rs
  rs_half : CanEach there rs
  rest : fold taken c ps ≡ fold taken to rs
  still : (q : Place) → Can c q → Off ps q → Can to q

-- a place in halves at which there is a step for one of the program's
record Found (d : Configuration) (p : Place) : Type 0 where
  place : Place
  goes : Goes p place
  can : Can d place

found : {N M : ℕ} {c d : Configuration} {p : Place} → Near N M c d → Can c p → Found d p
found {N = N} {M = M} {c = c} {d = d} {p = p} n can = by (matched N M n can.1)
  where
    by : Matched N M c d p can.0 → Found d p
    by (at_once {to = to} s near) = record { place = p; goes = inl refl; can = (to, s) }
    by (half_way {to = to} s near second) = record { place = inside p; goes = inr refl; can = (to, s) }

-- a step behind another one was there before it, where both are of the program's in the same configuration
found_before : {N M : ℕ} {c d to : Configuration} {p q x b : Place} → Near N M c d → Can c p → Can c q → p ≢ q → Goes p x → Step d x to → Goes q b → Can to b →
    Can d b
found_before {c = c} {d = d} {to = to} {p = p} {q = q} {x = x} {b = b} n can other apart goes s there after =
    let z = found n other in
    let off : x ≢ z.place = goes_apart c.term p q x z.place (on_place can) (on_place other) apart goes z.goes in
    let same : z.place ≡ b = goes_once to.term q z.place b (on_place (can_still n.new_fits s z.can off)) (on_place after) z.goes there in
    subst (λ w. Can d w) same z.can

half_done : (N M : ℕ) (ps : List Place) {c d : Configuration} → Near N M c d → Distinct ps → CanEach c ps → HalfDone N M c d ps
half_done N M [] {c = c} {d = d} n once each = record {
  to = c;
  there = d;
  near = n;
  bs = [];
  bs_once = tt;
  bs_can = λ b i. absurd i;
  bs_of = λ b i. absurd i;
  is = refl;
  rs = [];
  rs_once = tt;
  rs_of = λ r i. absurd i;
  rs_can = λ r i. absurd i;
  rs_half = λ r i. absurd i;
  rest = refl;
  still = λ q can off. can;
}
half_done N M (p ∷ ps) {c = c} {d = d} n once each = by (matched N M n can.1) (λ x y. half_done N M ps {c = x} {d = y})
  where
    can : Can c p
    can = each p (inl refl)

    by : Matched N M c d p can.0 → ((c d : Configuration) → Near N M c d → Distinct ps → CanEach c ps → HalfDone N M c d ps) → HalfDone N M c d (p ∷ ps)
    by (at_once {to = to} s near) others = with_one (others can.0 to near once.1 (can_others ps p n.fits once each can.1))
      where
        with_one : HalfDone N M can.0 to ps → HalfDone N M c d (p ∷ ps)
        with_one z = record {
          to = z.to;
          there = z.there;
          near = z.near;
          bs = p ∷ z.bs;
          bs_once = (
            λ b i.
                let o = z.bs_of b i in
                goes_apart c.term p o.0 p b (on_place can) (on_place (each o.0 (inr o.1))) (once.0 o.0 o.1) (inl refl) o.2,
            z.bs_once,
          );
          bs_can = bs_can;
          bs_of = bs_of;
          is = z.is ∙ ap (λ x. fold taken x z.bs) (sym (taken_is n.new_fits s));
          rs = z.rs;
          rs_once = z.rs_once;
          rs_of = λ r i. inr (z.rs_of r i);
          rs_can = z.rs_can;
          rs_half = z.rs_half;
          rest = ap (λ x. fold taken x ps) (taken_is n.fits can.1) ∙ z.rest;
          still = λ q other off. z.still q (can_still n.fits can.1 other (off p (inl refl))) (λ w i. off w (inr i));
        }
          where
            bs_can : CanEach d (p ∷ z.bs)
            bs_can b (inl e) = subst (λ w. Can d w) e (to, s)
            bs_can b (inr i) =
                let o = z.bs_of b i in
                found_before {q = o.0} n can (each o.0 (inr o.1)) (once.0 o.0 o.1) (inl refl) s o.2 (z.bs_can b i)

            bs_of : (b : Place) → In (p ∷ z.bs) b → (q : Place) × In (p ∷ ps) q × Goes q b
            bs_of b (inl e) = (p, inl refl, inl (sym e))
            bs_of b (inr i) = let o = z.bs_of b i in (o.0, inr o.1, o.2)
    by (half_way {to = to} {end = end} s near second) others = with_half (others c to near once.1 (λ w i. each w (inr i)))
      where
        with_half : HalfDone N M c to ps → HalfDone N M c d (p ∷ ps)
        with_half z = record {
          to = z.to;
          there = z.there;
          near = z.near;
          bs = inside p ∷ z.bs;
          bs_once = (
            λ b i.
                let o = z.bs_of b i in
                goes_apart c.term p o.0 (inside p) b (on_place can) (on_place (each o.0 (inr o.1))) (once.0 o.0 o.1) (inr refl) o.2,
            z.bs_once,
          );
          bs_can = bs_can;
          bs_of = bs_of;
          is = z.is ∙ ap (λ x. fold taken x z.bs) (sym (taken_is n.new_fits s));
          rs = p ∷ z.rs;
          rs_once = (λ r i. once.0 r (z.rs_of r i), z.rs_once);
          rs_of = rs_of;
          rs_can = rs_can;
          rs_half = rs_half;
          rest = first_or_last ps c n.fits once.1 (λ w i. each w (inr i)) p can off
              ∙ (ap (λ x. taken x p) z.rest ∙ sym (first_or_last z.rs z.to z.near.fits z.rs_once z.rs_can p still (λ r i. off r (z.rs_of r i))));
          still = λ q other away. z.still q other (λ w i. away w (inr i));
        }
          where
            off : Off ps p
            off w i e = once.0 w i (sym e)

            still : Can z.to p
            still = z.still p can off

            bs_can : CanEach d (inside p ∷ z.bs)
            bs_can b (inl e) = subst (λ w. Can d w) e (to, s)
            bs_can b (inr i) =
                let o = z.bs_of b i in
                found_before {q = o.0} n can (each o.0 (inr o.1)) (once.0 o.0 o.1) (inr refl) s o.2 (z.bs_can b i)

            bs_of : (b : Place) → In (inside p ∷ z.bs) b → (q : Place) × In (p ∷ ps) q × Goes q b
            bs_of b (inl e) = (p, inl refl, inr (sym e))
            bs_of b (inr i) = let o = z.bs_of b i in (o.0, inr o.1, o.2)

            rs_of : (r : Place) → In (p ∷ z.rs) r → In (p ∷ ps) r
            rs_of r (inl e) = inl e
            rs_of r (inr i) = inr (z.rs_of r i)

            rs_can : CanEach z.to (p ∷ z.rs)
            rs_can r (inl e) = subst (λ w. Can z.to w) e still
            rs_can r (inr i) = z.rs_can r i

            apart : Off z.bs p
            apart b i e =
                let o = z.bs_of b i in
                goes_apart c.term o.0 p b p (on_place (each o.0 (inr o.1))) (on_place can) (off o.0 o.1) o.2 (inl refl) e

            rs_half : CanEach z.there (p ∷ z.rs)
            rs_half r (inl e) = subst (λ w. Can z.there w) e
                (subst (λ x. Can x p) (sym z.is) (can_behind z.bs to near.new_fits z.bs_once z.bs_can p (end, second) apart))
            rs_half r (inr i) = z.rs_half r i

-- the second halves
second_halves : (N M : ℕ) (rs : List Place) {c d : Configuration} → Near N M c d → Distinct rs → CanEach c rs → CanEach d rs
    → Near N M (fold taken c rs) (fold taken d rs)
second_halves N M [] n once each both = n
second_halves N M (r ∷ rs) {c = c} {d = d} n once each both = by (matched N M n can.1) (λ x y. second_halves N M rs {c = x} {d = y})
  where
    can : Can c r
    can = each r (inl refl)

    by : Matched N M c d r can.0
        → ((c d : Configuration) → Near N M c d → Distinct rs → CanEach c rs → CanEach d rs → Near N M (fold taken c rs) (fold taken d rs))
        → Near N M (fold taken c (r ∷ rs)) (fold taken d (r ∷ rs))
    by (at_once {to = to} s near) others =
        subst (λ x. Near N M (fold taken x rs) (fold taken (taken d r) rs)) (sym (taken_is n.fits can.1))
        (subst (λ x. Near N M (fold taken can.0 rs) (fold taken x rs)) (sym (taken_is n.new_fits s))
        (others can.0 to near once.1 (can_others rs r n.fits once each can.1) (can_others rs r n.new_fits once both s)))
    by (half_way s near second) others = absurd (one_level d.term r (on_place (both r (inl refl))).1 (stands s).1)

-- to a round there are steps in halves that two rounds have taken
record RoundDone (N M : ℕ) (c d : Configuration) : Type 0 where
  there : Configuration
  near : Near N M (round c) there
  steps : ℕ
  leads : Leads there steps (round (round d))

round_done : (N M : ℕ) (c d : Configuration) → Near N M c d → RoundDone N M c d
round_done N M c d n =
    let z = half_done N M (enabled_places c) n (listed_once c) (can_each c) in
    let end = fold taken z.there z.rs in
    let first = some_lead z.bs (enabled_places d) d n.new_fits z.bs_once (listed_once d) (can_each d) (λ b i. each_listed n.new_fits (z.bs_can b i).1) in
    let second = some_lead z.rs (enabled_places z.there) z.there z.near.new_fits z.rs_once (listed_once z.there) (can_each z.there)
    (λ r i. each_listed z.near.new_fits (z.rs_half r i).1) in
    let ahead = rounds_behind z.near.new_fits (subst (λ x. Leads x first.0 (round d)) (sym z.is) first.1) in
    record {
      there = end;
      near = subst (λ x. Near N M x end) (sym z.rest) (second_halves N M z.rs z.near z.rs_once z.rs_can z.rs_half);
      steps = second.0 + ahead.0;
      leads = lead_on second.1 ahead.1;
    }

record RoundsDone (N M : ℕ) (c d : Configuration) : Type 0 where
  there : Configuration
  near : Near N M c there
  steps : ℕ
  leads : Leads there steps d

rounds_done : (N M n : ℕ) {c d e : Configuration} {k : ℕ} → Near N M c d → Leads d k e → RoundsDone N M (rounds_from c n) (rounds_from e (n * 2))
rounds_done N M zero {d = d} {k = k} near l = record { there = d; near = near; steps = k; leads = l }
rounds_done N M (suc n) {c = c} {d = d} {e = e} near l =
    let z = round_done N M c d near in
    let one = rounds_behind near.new_fits l in
    let two = rounds_behind (leads_fit near.new_fits (round_leads d near.new_fits)) one.1 in
    let twice : suc (suc (n * 2)) ≡ suc n * 2 = omega arith in
    subst (λ (m : ℕ). RoundsDone N M (rounds_from (round c) n) (rounds_from e m)) twice
    (rounds_done N M n z.near (lead_on z.leads two.1))

pub two_rounds : TwoRoundsForOne
two_rounds p script typed meets fits n k =
    let N = length p.vars in
    let M = length (p.vars ++ hidden_vars p.body) in
    let z = rounds_done N M n (start_near p script typed meets) no_step in
    let r = run_behind z.leads k in
    (r.0, r.1 ∙ ap (λ hs. history_at hs k ++ r.0) (sym z.near.histories))
