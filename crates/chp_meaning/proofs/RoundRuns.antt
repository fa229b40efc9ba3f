-- Rounds are runs, and each run leads on to as many rounds.
use Rattle.std.proofs.Common.{◌≡◌, ◌⊎◌, ℕ, zero, suc, ◌+◌, ◌<◌, ◌≤◌, true, List, [], ◌∷◌, ◌++◌, length, refl, sym, ap, ◌∙◌, subst, inl, inr, arith}
use Rattle.std.specs.Prelude.{fold, is_some, unwrap_or, slice_set, Option, Some, None}
use Rattle.std.proofs.lemmas.List.{get_or-set_other, get_or-set_same, set_past, append-nil, append_assoc}
use Rattle.std.proofs.lemmas.Bool.{cases_eq, cases_lt}
use Rattle.env_script.specs.Scripts.{OfferValue}
use Rattle.env_script.specs.Runs.{history_at}
use Rattle.width_check.specs.Processes.{TypedProgram}
use Rattle.width_check.specs.Sharing.{MeetsSharing}
use Rattle.chp_meaning.specs.Terms.{Place, places}
use Rattle.chp_meaning.specs.Steps.{Configuration, Step, Leads, no_step, one_step, start_of}
use Rattle.chp_meaning.specs.Rounds.{step_at, is_enabled, enabled_places, taken, round, rounds_from, rounds}
use Rattle.chp_meaning.specs.Laws.{IsBehind, OneHistory, RoundsHold}
use Rattle.chp_meaning.proofs.Taken.{step_is}
use Rattle.chp_meaning.proofs.Places.{In, in_filter, in_filtered, Distinct, distinct_filter, listed, places_distinct}
use Rattle.chp_meaning.proofs.Fitting.{Fits, meeting_sound, opened_fits}
use Rattle.chp_meaning.proofs.Moves.{Entry, entry, appended, deal, step_deals, stands}
use Rattle.chp_meaning.proofs.Meeting.{found, step_fits, joined, lead_on, leads_fit, meets}

abbrev pub Can : Configuration → Place → Type 0
Can c at = (d : Configuration) × Step c at d

pub taken_is : {c d : Configuration} {at : Place} → Fits c.term → Step c at d → taken c at ≡ d
taken_is {c = c} f s = ap (λ o. unwrap_or o c) (found f s)

-- steps at different places, one after the other
pub all_taken : (ps : List Place) (c : Configuration) → Fits c.term → Distinct ps → ((q : Place) → In ps q → Can c q) → Leads c (length ps) (fold taken c ps)
all_taken [] c f d each = no_step
all_taken (p ∷ ps) c f d each =
    let r = each p (inl refl) in
    let later : (q : Place) → In ps q → Can r.0 q = λ q i. let j = joined r.1 (each q (inr i)).1 f (d.0 q i) in (j.0, j.1) in
    one_step r.1 (subst (λ x. Leads r.0 (length ps) (fold taken x ps)) (sym (taken_is f r.1)) (all_taken ps r.0 (step_fits f r.1) d.1 later))

-- from the configuration after any one of them the others lead on to the same
any_first : (ps : List Place) (c : Configuration) → Fits c.term → Distinct ps → ((q : Place) → In ps q → Can c q) → (p : Place) (d : Configuration) → In ps p →
    Step c p d → (n : ℕ) × Leads d n (fold taken c ps)
any_first [] c f distinct each p d i s = absurd i
any_first (q ∷ ps) c f distinct each p d (inl e) s =
    let first : Step c q d = subst (λ x. Step c x d) (sym e) s in
    let later : (w : Place) → In ps w → Can d w = λ w i. let j = joined first (each w (inr i)).1 f (distinct.0 w i) in (j.0, j.1) in
    (length ps, subst (λ x. Leads d (length ps) (fold taken x ps)) (sym (taken_is f first)) (all_taken ps d (step_fits f first) distinct.1 later))
any_first (q ∷ ps) c f distinct each p d (inr i) s =
    let r = each q (inl refl) in
    let later : (w : Place) → In ps w → Can r.0 w = λ w k. let j = joined r.1 (each w (inr k)).1 f (distinct.0 w k) in (j.0, j.1) in
    let j = joined r.1 s f (distinct.0 p i) in
    let rest = any_first ps r.0 (step_fits f r.1) distinct.1 later p j.0 i j.1 in
    (suc rest.0, one_step j.2 (subst (λ x. Leads j.0 rest.0 (fold taken x ps)) (sym (taken_is f r.1)) rest.1))

-- the places of a round

some_of : {X : Type 0} (o : Option X) → is_some o ≡ true → (x : X) × (o ≡ Some x)
some_of None e = absurd (cc e)
some_of (Some x) e = (x, refl)

pub can_each : (c : Configuration) (q : Place) → In (enabled_places c) q → Can c q
can_each c q i = let r = some_of (step_at c q) (in_filtered (is_enabled c) (places c.term) q i).1 in (r.0, step_is c r.0 q r.1)

pub each_listed : {c d : Configuration} {at : Place} → Fits c.term → Step c at d → In (enabled_places c) at
each_listed {c = c} {at = at} f s = let p = stands s in in_filter (is_enabled c) (places c.term) at (listed c.term at p.0 p.1) (ap is_some (found f s))

pub listed_once : (c : Configuration) → Distinct (enabled_places c)
listed_once c = distinct_filter (is_enabled c) (places c.term) (places_distinct c.term)

pub round_leads : (c : Configuration) → Fits c.term → Leads c (length (enabled_places c)) (round c)
round_leads c f = all_taken (enabled_places c) c f (listed_once c) (can_each c)

round_any : {c d : Configuration} {at : Place} → Fits c.term → Step c at d → (n : ℕ) × Leads d n (round c)
round_any {c = c} {d = d} {at = at} f s = any_first (enabled_places c) c f (listed_once c) (can_each c) at d (each_listed f s) s

pub rounds_lead : (n : ℕ) (c : Configuration) → Fits c.term → (m : ℕ) × Leads c m (rounds_from c n)
rounds_lead zero c f = (0, no_step)
rounds_lead (suc n) c f =
    let l = round_leads c f in
    let r = rounds_lead n (round c) (leads_fit f l) in
    (length (enabled_places c) + r.0, lead_on l r.1)

-- a run of at most n steps leads on to n rounds
ahead : (n : ℕ) {c d : Configuration} {m : ℕ} → Fits c.term → m ≤ n → Leads c m d → (k : ℕ) × Leads d k (rounds_from c n)
ahead n {c = c} f le no_step = rounds_lead n c f
ahead zero f le (one_step s l) = absurd (omega (arith, le))
ahead (suc n) {c = c} f le (one_step s l) =
    let r = round_any f s in
    let t = meets (step_fits f s) l r.1 in
    let next = ahead n (leads_fit f (round_leads c f)) (omega (arith, le, t.4)) t.6 in
    (t.1 + next.0, lead_on t.5 next.1)

pub one_history : (p : TypedProgram) (script : List OfferValue) → MeetsSharing p.body → OneHistory p script
one_history p script meeting m c l = ahead m (opened_fits p.body (meeting_sound p.body meeting)) (omega arith) l

-- a step only appends

longer : (histories : List (List ℕ)) (w : Option (Entry ℕ)) (k : ℕ) → (rest : List ℕ) × (history_at (appended histories w) k ≡ history_at histories k ++ rest)
longer histories None k = ([], sym (append-nil (history_at histories k)))
longer histories (Some (entry j v)) k = by_number (cases_eq k j) (cases_lt j (length histories))
  where
    as_before : history_at (slice_set histories j (history_at histories j ++ v ∷ [])) k ≡ history_at histories k →
        (rest : List ℕ) × (history_at (slice_set histories j (history_at histories j ++ v ∷ [])) k ≡ history_at histories k ++ rest)
    as_before e = ([], e ∙ sym (append-nil (history_at histories k)))

    by_number : (k ≡ j) ⊎ (k ≡ j → ⊥) → (j < length histories) ⊎ (length histories ≤ j) →
        (rest : List ℕ) × (history_at (slice_set histories j (history_at histories j ++ v ∷ [])) k ≡ history_at histories k ++ rest)
    by_number (inr ne) within = as_before (get_or-set_other histories j k (history_at histories j ++ v ∷ []) [] ne)
    by_number (inl e) (inr past) = as_before (ap (λ hs. history_at hs k) (set_past histories j (history_at histories j ++ v ∷ []) past))
    by_number (inl e) (inl within) = (
      v ∷ [],
      ap (λ n. history_at (slice_set histories j (history_at histories j ++ v ∷ [])) n) e
          ∙ (get_or-set_same histories j (history_at histories j ++ v ∷ []) [] within ∙ ap (λ n. history_at histories n ++ v ∷ []) (sym e)),
    )

step_behind : {c d : Configuration} {at : Place} → Step c at d → IsBehind c d
step_behind {c = c} {d = d} {at = at} s k =
    let r = longer c.histories (deal s).pass k in
    (r.0, ap (λ x. history_at x.histories k) (sym (step_deals s)) ∙ r.1)

pub run_behind : {c d : Configuration} {n : ℕ} → Leads c n d → IsBehind c d
run_behind {c = c} no_step k = ([], sym (append-nil (history_at c.histories k)))
run_behind (one_step {c = c} {d = d} {e = e} s l) k =
    let a = step_behind s k in
    let b = run_behind l k in
    (a.0 ++ b.0, b.1 ∙ (ap (λ h. h ++ b.0) a.1 ∙ append_assoc (history_at c.histories k) a.0 b.0))

pub one_round_more : (n : ℕ) (c : Configuration) → rounds_from c (suc n) ≡ round (rounds_from c n)
one_round_more zero c = refl
one_round_more (suc n) c = one_round_more n (round c)

pub rounds_hold : (p : TypedProgram) (script : List OfferValue) → MeetsSharing p.body → RoundsHold p script
rounds_hold p script meeting n =
    let r = rounds_lead n (start_of p script) (opened_fits p.body (meeting_sound p.body meeting)) in
    let last = rounds p script n in
    let fits : Fits last.term = leads_fit (opened_fits p.body (meeting_sound p.body meeting)) r.1 in
    (r.0, r.1, subst (λ (x : Configuration). IsBehind last x) (sym (one_round_more n (start_of p script))) (run_behind (round_leads last fits)))
