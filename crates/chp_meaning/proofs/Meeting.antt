-- Steps in different orders meet again.
use Rattle.std.proofs.Common.{◌≡◌, ◌≢◌, ◌⊎◌, ℕ, suc, ◌+◌, ◌≤◌, true, false, List, [], ◌∷◌, ◌++◌, refl, sym, ap, ◌∙◌, subst, inl, inr, arith}
use Rattle.std.specs.Prelude.{if◌then◌else◌, Option, Some, None}
use Rattle.std.proofs.lemmas.Bool.{eq-eqb}
use Rattle.chp_base.specs.declared.span.Span.{Span}
use Rattle.env_script.specs.Scripts.{takes}
use Rattle.width_check.specs.Processes.{Process, skipping, assigning, sending, receiving, choosing, repeating, no_members, and_member, Choices}
use Rattle.width_check.specs.Sharing.{receives_on, done_at, occurrences, occurrences_of_choices}
use Rattle.chp_meaning.specs.Terms.{Term, finished, opened, followed, Place, statement_at, with_left, places}
use Rattle.chp_meaning.specs.Steps.{Configuration, value_in, open_branches, one_fewer, leaving, passing, offering, Step, a_skip, an_assignment, a_selection, a_turn, an_end, a_repetition, a_communication, a_delivery, an_arrival, Leads, no_step, one_step}
use Rattle.chp_meaning.specs.Rounds.{Waiting, waits_on, or_later, receiver_among, receiver_on, communicated, sent, received, chosen, stepped, step_at}
use Rattle.chp_meaning.proofs.Taken.{IsReceiver, waiting_is}
use Rattle.chp_meaning.proofs.Places.{In, in_either, same_place, still, listed}
use Rattle.chp_meaning.proofs.Fitting.{Within, Fits, Sound, ChoicesSound, uses, opened_within, opened_fits, followed_within, followed_fits, statement_sound, places_apart, left_fits, open_sound}
use Rattle.chp_meaning.proofs.Moves.{dealt, deal, step_deals, again, undisturbed, either_order, own_apart}

-- the one receive that waits on a channel

abbrev receiver_at : Place → ℕ → Waiting
receiver_at o x = record { at = o; var = x }

one_receiver : (t : Term) (o : Place) (k x : ℕ) (s u : Span) → Fits t → statement_at t o ≡ Some (receiving k s x u) → (w : Waiting) → IsReceiver t k w →
    w ≡ receiver_at o x
one_receiver t o k x s u f h w r = by_place (same_place w.at o)
  where
    by_place : (w.at ≡ o) ⊎ (w.at ≢ o) → w ≡ receiver_at o x
    by_place (inr ne) = absurd (places_apart t w.at o (receiving k r.chan_at w.var r.var_at) (receiving k s x u) f ne r.is h (done_at (receives_on k) r.chan_at)
        (done_at (receives_on k) s) (inl refl) (inl refl) refl)
    by_place (inl e) =
        let same : Some (receiving k r.chan_at w.var r.var_at) ≡ Some (receiving k s x u) = sym r.is ∙ (ap (λ p. statement_at t p) e ∙ h) in
        let var : w.var ≡ x = cc same in
        λ i. record { at = e i; var = var i }

waits_here : (t : Term) (o : Place) (k x : ℕ) (s u : Span) → statement_at t o ≡ Some (receiving k s x u) →
    waits_on k o (statement_at t o) ≡ Some (receiver_at o x)
waits_here t o k x s u h = ap (λ p. waits_on k o p) h ∙ ap (λ b. if b then Some (receiver_at o x) else None) (eq-eqb k k refl)

found_among : (t : Term) (o : Place) (k x : ℕ) (s u : Span) → Fits t → statement_at t o ≡ Some (receiving k s x u) → (ps : List Place) → In ps o →
    receiver_among t k ps ≡ Some (receiver_at o x)
found_among t o k x s u f h [] i = absurd i
found_among t o k x s u f h (p ∷ ps) i = by_wait (waits_on k p (statement_at t p)) refl i (found_among t o k x s u f h ps)
  where
    by_wait : (v : Option Waiting) → waits_on k p (statement_at t p) ≡ v → In (p ∷ ps) o → (In ps o → receiver_among t k ps ≡ Some (receiver_at o x)) →
        or_later v (receiver_among t k ps) ≡ Some (receiver_at o x)
    by_wait None e (inl same) rest =
        let on : waits_on k p (statement_at t p) ≡ Some (receiver_at o x) = ap (λ q. waits_on k q (statement_at t q)) same ∙ waits_here t o k x s u h in
        absurd (cc (sym e ∙ on))
    by_wait None e (inr j) rest = rest j
    by_wait (Some w) e j rest = ap Some (one_receiver t o k x s u f h w (waiting_is t k p (statement_at t p) w refl e))

pub receiver_found : (t : Term) (o : Place) (k x : ℕ) (s u : Span) → Fits t → statement_at t o ≡ Some (receiving k s x u) →
    receiver_on t k ≡ Some (receiver_at o x)
receiver_found t o k x s u f h = found_among t o k x s u f h (places t) (listed t o (receiving k s x u) h)

-- what is done at a step's place is the step
pub found : {c d : Configuration} {at : Place} → Fits c.term → Step c at d → step_at c at ≡ Some d
found f (a_skip {c = c} {at = at} on) = ap (λ p. stepped c at p) on
found f (an_assignment {c = c} {at = at} on) = ap (λ p. stepped c at p) on
found f (a_selection {c = c} {at = at} {choices = options} on true_ones) = ap (λ p. stepped c at p) on ∙ ap (λ ps. chosen c at false options ps) true_ones
found f (a_turn {c = c} {at = at} {choices = options} on true_ones) = ap (λ p. stepped c at p) on ∙ ap (λ ps. chosen c at true options ps) true_ones
found f (an_end {c = c} {at = at} {choices = options} on true_ones) = ap (λ p. stepped c at p) on ∙ ap (λ ps. chosen c at true options ps) true_ones
found f (a_repetition {c = c} {at = at} on) = ap (λ p. stepped c at p) on
found f (a_communication {c = c} {at = at} other {k = k} {x = x} {s = s} {t = t} {u = u} {e = e} on there inside) =
    ap (λ p. stepped c at p) on
    ∙ (ap (λ o. sent c at k (value_in c e) o) inside
    ∙ ap (λ w. communicated c at k (value_in c e) w) (receiver_found c.term other k x t u f there))
found f (a_delivery {c = c} {at = at} {k = k} {s = s} {e = e} {count = count} on offered more) =
    ap (λ p. stepped c at p) on
    ∙ (ap (λ o. sent c at k (value_in c e) o) offered
    ∙ ap (λ b. if b then Some (passing (offering (leaving c at finished) k (takes (one_fewer count))) k (value_in c e)) else None) more)
found f (an_arrival {c = c} {at = at} {k = k} {x = x} on offered) = ap (λ p. stepped c at p) on ∙ ap (λ o. received c at k x o) offered

-- what is left of a term that fits

nothing_within : (p : Process) → Within [] (occurrences p)
nothing_within p u h = absurd h

once_more : (t : Term) (p q : Process) → Within (uses t) (occurrences p) → Within (occurrences q) (occurrences p) →
    Within (uses (followed t (and_member q no_members))) (occurrences p)
once_more t p q f g u h = by_side (in_either (uses t) (occurrences q ++ []) u (followed_within t (and_member q no_members) u h))
  where
    by_end : In (occurrences q) u ⊎ In [] u → In (occurrences p) u
    by_end (inl k) = g u k
    by_end (inr k) = absurd k

    by_side : In (uses t) u ⊎ In (occurrences q ++ []) u → In (occurrences p) u
    by_side (inl k) = f u k
    by_side (inr k) = by_end (in_either (occurrences q) [] u k)

branch_sound : (c : Configuration) (options : Choices) (p : Process) → ChoicesSound options → open_branches c options ≡ p ∷ [] →
    Sound p × Within (occurrences p) (occurrences_of_choices options)
branch_sound c options p s true_ones = open_sound c options p s (subst (λ ps. In ps p) (sym true_ones) (inl refl))

pub step_fits : {c d : Configuration} {at : Place} → Fits c.term → Step c at d → Fits d.term
step_fits f (a_skip {c = c} {at = at} on) = left_fits c.term at finished skipping f on tt (nothing_within skipping)
step_fits f (an_assignment {c = c} {at = at} {x = x} {s = s} {e = e} on) =
    left_fits c.term at finished (assigning x s e) f on tt (nothing_within (assigning x s e))
step_fits f (a_selection {c = c} {at = at} {choices = options} {p = p} on true_ones) =
    let r = branch_sound c options p (statement_sound c.term at (choosing false options) f on) true_ones in
    left_fits c.term at (opened p) (choosing false options) f on (opened_fits p r.0) (λ u k. r.1 u (opened_within p u k))
step_fits f (a_turn {c = c} {at = at} {choices = options} {p = p} on true_ones) =
    let all = statement_sound c.term at (choosing true options) f on in
    let r = branch_sound c options p all true_ones in
    left_fits c.term at (followed (opened p) (and_member (choosing true options) no_members)) (choosing true options) f on
    (followed_fits (opened p) (and_member (choosing true options) no_members) (opened_fits p r.0) (all, tt))
    (once_more (opened p) (choosing true options) (choosing true options) (λ u k. r.1 u (opened_within p u k)) (λ u k. k))
step_fits f (an_end {c = c} {at = at} {choices = options} on true_ones) =
    left_fits c.term at finished (choosing true options) f on tt (nothing_within (choosing true options))
step_fits f (a_repetition {c = c} {at = at} {p = p} on) =
    let all = statement_sound c.term at (repeating p) f on in
    left_fits c.term at (followed (opened p) (and_member (repeating p) no_members)) (repeating p) f on
    (followed_fits (opened p) (and_member (repeating p) no_members) (opened_fits p all) (all, tt))
    (once_more (opened p) (repeating p) (repeating p) (opened_within p) (λ u k. k))
step_fits f (a_communication {c = c} {at = at} other {k = k} {x = x} {s = s} {t = t} {u = u} {e = e} on there inside) =
    left_fits (with_left c.term at finished) other finished (receiving k t x u)
    (left_fits c.term at finished (sending k s e) f on tt (nothing_within (sending k s e)))
    (still c.term at other finished (receiving k t x u) (own_apart (a_communication {c = c} other on there inside) other refl) there)
    tt (nothing_within (receiving k t x u))
step_fits f (a_delivery {c = c} {at = at} {k = k} {s = s} {e = e} on offered more) =
    left_fits c.term at finished (sending k s e) f on tt (nothing_within (sending k s e))
step_fits f (an_arrival {c = c} {at = at} {k = k} {x = x} {s = s} {t = t} on offered) =
    left_fits c.term at finished (receiving k s x t) f on tt (nothing_within (receiving k s x t))

-- two steps from one configuration

pub joined : {c d e : Configuration} {a b : Place} (s : Step c a d) (u : Step c b e) → Fits c.term → a ≢ b → (f : Configuration) × Step d b f × Step e a f
joined {c = c} {d = d} {e = e} {a = a} {b = b} s u f ne =
    let first = again u (dealt c a (deal s)) (undisturbed s u f ne) in
    let second = again s (dealt c b (deal u)) (undisturbed u s f (λ g. ne (sym g))) in
    let end : dealt (dealt c b (deal u)) a (deal s) ≡ dealt d b (deal u) = sym (either_order s u f ne) ∙ ap (λ x. dealt x b (deal u)) (step_deals s) in (
      dealt d b (deal u),
      subst (λ x. Step x b (dealt x b (deal u))) (step_deals s) first,
      subst (λ x. Step x a (dealt d b (deal u))) (step_deals u) (subst (λ y. Step (dealt c b (deal u)) a y) end second),
    )

one_outcome : {c d e : Configuration} {a : Place} → Fits c.term → Step c a d → Step c a e → d ≡ e
one_outcome {d = d} {e = e} f s u = let same : Some d ≡ Some e = sym (found f s) ∙ found f u in cc same

pub diamond : {c d e : Configuration} {a b : Place} → Fits c.term → Step c a d → Step c b e → (d ≡ e) ⊎ ((g : Configuration) × Step d b g × Step e a g)
diamond {c = c} {d = d} {e = e} {a = a} {b = b} f s u = by_place (same_place a b)
  where
    by_place : (a ≡ b) ⊎ (a ≢ b) → (d ≡ e) ⊎ ((g : Configuration) × Step d b g × Step e a g)
    by_place (inl same) = inl (one_outcome f s (subst (λ p. Step c p e) (sym same) u))
    by_place (inr ne) = inr (joined s u f ne)

-- runs meet

pub lead_on : {x y z : Configuration} {m n : ℕ} → Leads x m y → Leads y n z → Leads x (m + n) z
lead_on {x = x} {z = z} {n = n} no_step k = let e : n ≡ 0 + n = omega arith in subst (λ i. Leads x i z) e k
lead_on {z = z} {n = n} (one_step {c = x} {n = m} s l) k = let e : suc (m + n) ≡ suc m + n = omega arith in
    subst (λ i. Leads x i z) e (one_step s (lead_on l k))

pub leads_fit : {x y : Configuration} {n : ℕ} → Fits x.term → Leads x n y → Fits y.term
leads_fit f no_step = f
leads_fit f (one_step s l) = leads_fit (step_fits f s) l

-- the first leads on in at most m steps, the second in at most n, to one configuration
abbrev Met : Configuration → ℕ → Configuration → ℕ → Type 0
Met y m z n = (u : Configuration) × (k : ℕ) × (j : ℕ) × (k ≤ m) × (j ≤ n) × Leads y k u × Leads z j u

by_diamond : (y w z : Configuration) (a b : Place) (n : ℕ) → Leads w n z → (y ≡ w) ⊎ ((g : Configuration) × Step y b g × Step w a g) →
    ((v : Configuration) → Step w a v → Met v n z 1) → Met y (suc n) z 1
by_diamond y w z a b n l (inl e) go = (z, n, 0, omega arith, omega arith, subst (λ x. Leads x n z) (sym e) l, no_step)
by_diamond y w z a b n l (inr (g, p, q)) go = let r = go g q in (r.0, suc r.1, r.2, omega (arith, r.3), r.4, one_step p r.5, r.6)

strip : {x y z : Configuration} {a : Place} {n : ℕ} → Fits x.term → Step x a y → Leads x n z → Met y n z 1
strip {y = y} f s no_step = (y, 0, 1, omega arith, omega arith, no_step, one_step s no_step)
strip {y = y} {z = z} {a = a} f s (one_step {d = w} {at = b} {n = n} t l) = by_diamond y w z a b n l (diamond f s t) (λ v q. strip (step_fits f t) q l)

pub meets : {x y z : Configuration} {m n : ℕ} → Fits x.term → Leads x m y → Leads x n z → Met y n z m
meets {z = z} {n = n} f no_step l = (z, n, 0, omega arith, omega arith, l, no_step)
meets f (one_step s k) l =
    let a = strip f s l in
    let b = meets (step_fits f s) k a.5 in
    (b.0, b.1, a.2 + b.2, omega (arith, b.3, a.3), omega (arith, a.4, b.4), b.5, lead_on a.6 b.6)
