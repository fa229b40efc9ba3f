-- Where a program comes to rest, all its runs there have as many steps, and no other run has more.
use Rattle.std.proofs.Common.{◌≡◌, ◌⊎◌, ℕ, suc, ◌≤◌, List, refl, sym, ap, subst, inl, inr, arith}
use Rattle.env_script.specs.Scripts.{OfferValue}
use Rattle.width_check.specs.Processes.{TypedProgram}
use Rattle.width_check.specs.Sharing.{MeetsSharing}
use Rattle.chp_meaning.specs.Terms.{Place}
use Rattle.chp_meaning.specs.Steps.{Configuration, Step, Leads, no_step, one_step}
use Rattle.chp_meaning.specs.Laws.{OneEnd}
use Rattle.chp_meaning.proofs.Fitting.{Fits, opened_fits, meeting_sound}
use Rattle.chp_meaning.proofs.Meeting.{step_fits, diamond}

abbrev Still : Configuration → Type 0
Still c = (at : Place) (e : Configuration) → ¬ Step c at e

-- any first step goes on to where all is still, in one step less
one_less : {x y c : Configuration} {a : Place} {m : ℕ} → Fits x.term → Still c → Leads x m c → Step x a y → (k : ℕ) × (m ≡ suc k) × Leads y k c
one_less {y = y} {a = a} f still no_step s = absurd (still a y s)
one_less {y = y} {c = c} {a = a} f still (one_step {d = w} {at = b} {n = n} t l) s = by (diamond f s t) (λ g q. one_less (step_fits f t) still l q)
  where
    by : (y ≡ w) ⊎ ((g : Configuration) × Step y b g × Step w a g) → ((g : Configuration) → Step w a g → (k : ℕ) × (n ≡ suc k) × Leads g k c)
        → (k : ℕ) × (suc n ≡ suc k) × Leads y k c
    by (inl e) go = (n, refl, subst (λ x. Leads x n c) (sym e) l)
    by (inr (g, p, q)) go = let r = go g q in (suc r.0, ap (λ i. suc i) r.1, one_step p r.2)

no_longer : {x c d : Configuration} {m n : ℕ} → Fits x.term → Still c → Leads x m c → Leads x n d → n ≤ m
no_longer f still l no_step = omega arith
no_longer f still l (one_step s k) =
    let r = one_less f still l s in
    let e = no_longer (step_fits f s) still r.2 k in
    let same = r.1 in
    omega (arith, same, e)

pub one_end : (p : TypedProgram) (script : List OfferValue) → MeetsSharing p.body → OneEnd p script
one_end p script meets m n c d l still k = no_longer (opened_fits p.body (meeting_sound p.body meets)) still l k
