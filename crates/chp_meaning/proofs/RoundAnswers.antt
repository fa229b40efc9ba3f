-- What rounds answer.
use Rattle.std.proofs.Common.{◌≡◌, ◌↔◌, ◌⊎◌, ℕ, zero, suc, ◌+◌, ◌-◌, ◌<◌, ◌≤◌, Bool, true, false, List, [], ◌∷◌, ◌++◌, length, refl, sym, ap, ◌∙◌, subst, inl, inr, arith}
use Rattle.std.specs.Prelude.{◌==◌, nat_lt, if◌then◌else◌, fold, slice_set, Option, Some, None, Result, Ok, Err, IfOk, OnOk, OnErr}
use Rattle.std.proofs.lemmas.Bool.{cases_lt, eqb-true, ltb-true, ltb-false}
use Rattle.std.proofs.lemmas.List.{set_past, nil_from_length, length-set, length-replicate}
use Rattle.env_script.specs.Runs.{history_at}
use Rattle.width_check.specs.Processes.{Process}
use Rattle.width_check.specs.Sharing.{MeetsSharing}
use Rattle.width_check.specs.Typed.{TypedValue}
use Rattle.width_check.specs.View.{process_of}
use Rattle.chp_meaning.specs.declared.config.Config.{Config}
use Rattle.chp_meaning.specs.declared.effect.Move.{Move}
use Rattle.chp_meaning.specs.Fitting.{Fits}
use Rattle.chp_meaning.specs.Terms.{Place}
use Rattle.chp_meaning.specs.Steps.{Configuration, Step, Leads, no_step, one_step}
use Rattle.chp_meaning.specs.Rounds.{enabled_places, taken, round, rounds_from}
use Rattle.chp_meaning.specs.AtOnce.{held_values}
use Rattle.chp_meaning.specs.declared.run.RunEnd.{RunEnd}
use Rattle.chp_meaning.specs.declared.run.RunEnd.TheVariants.{Rest, Spent, TooMany}
use Rattle.chp_meaning.specs.Remaining.{Remains}
use Rattle.chp_meaning.specs.Standing.{configuration_of, histories_of, IsStanding, IsUnchanged, IsPlan, HaveMoved, next_moves}
use Rattle.chp_meaning.specs.Ends.{IsReached, CanStep, held_in, is_some_step, IsEnd, IsWithin, IsEndBy, end_before, end_by}
use Rattle.chp_meaning.proofs.Places.{In}
use Rattle.chp_meaning.proofs.Fitting.{meeting_sound, opened_fits}
use Rattle.chp_meaning.proofs.Moves.{Entry, entry, appended, deal, step_deals}
use Rattle.chp_meaning.proofs.Meeting.{leads_fit, lead_on}
use Rattle.chp_meaning.proofs.RoundRuns.{can_each, rounds_lead, one_round_more}
use Rattle.chp_meaning.proofs.NextRound.{no_step_planned, step_planned, held_set, unchanged_same, planned_held, passing, settled_round, settled_after}
use Rattle.chp_meaning.proofs.Settling.{on_err}

pub reached_fits : (t : TypedValue) (c : Configuration) → MeetsSharing (process_of t.body) → IsReached t c → Fits c.term
reached_fits t c meeting r = leads_fit (opened_fits (process_of t.body) (meeting_sound (process_of t.body) meeting)) r.3

pub reached_on : (t : TypedValue) (c : Configuration) (n : ℕ) → Fits c.term → IsReached t c → IsReached t (rounds_from c n)
reached_on t c n f r = let l = rounds_lead n c f in (r.0, r.1 + l.0, r.2, lead_on r.3 l.1)

pub round_reached : {X E : Type 0} (t : TypedValue) (c d : Configuration) (r : Result X E) → Fits c.term → IsReached t c → OnOk r (d ≡ round c) →
    OnErr r (d ≡ c) → IsReached t d
round_reached t c d (Ok x) f reached ok err = subst (IsReached t) (sym ok) (reached_on t c 1 f reached)
round_reached t c d (Err e) f reached ok err = subst (IsReached t) (sym err) reached

some_or_not : {X : Type 0} (xs : List X) → (xs ≡ []) ⊎ ((x : X) × (rest : List X) × (xs ≡ x ∷ rest))
some_or_not [] = inl refl
some_or_not (x ∷ xs) = inr (x, xs, refl)

pub took_is : (body : Process) (c : Config) (took : Bool) → IsStanding body c → Fits (configuration_of body c).term → took ≡ is_some_step (next_moves body c) →
    (took ≡ true) ↔ CanStep (configuration_of body c)
took_is body c took s f e = by_moves (some_or_not (next_moves body c))
  where
    by_moves : (next_moves body c ≡ []) ⊎ ((w : Move) × (ws : List Move) × (next_moves body c ≡ w ∷ ws)) → (took ≡ true) ↔ CanStep (configuration_of body c)
    by_moves (inl none) =
        let off : took ≡ false = e ∙ ap is_some_step none in
        (λ on. absurd (cc (sym off ∙ on)), λ can. absurd (no_step_planned body c s f none can.0 can.1 can.2))
    by_moves (inr (w, ws, some)) = (λ on. step_planned body c w ws some, λ can. e ∙ ap is_some_step some)

-- at rest a round changes nothing

nothing_enabled : (c : Configuration) → ¬ CanStep c → enabled_places c ≡ []
nothing_enabled c rest = by_list (enabled_places c) (can_each c)
  where
    by_list : (ps : List Place) → ((q : Place) → In ps q → (d : Configuration) × Step c q d) → ps ≡ []
    by_list [] each = refl
    by_list (p ∷ ps) each = let r = each p (inl refl) in absurd (rest (p, r.0, r.1))

pub round_rests : (c : Configuration) → ¬ CanStep c → round c ≡ c
round_rests c rest = ap (λ ps. fold taken c ps) (nothing_enabled c rest)

pub rounds_rest : (n : ℕ) (c : Configuration) → ¬ CanStep c → rounds_from c n ≡ c
rounds_rest zero c rest = refl
rounds_rest (suc n) c rest = ap (λ d. rounds_from d n) (round_rests c rest) ∙ rounds_rest n c rest

pub rounds_more : (m n : ℕ) (c : Configuration) → rounds_from (rounds_from c m) n ≡ rounds_from c (m + n)
rounds_more zero n c = let e : n ≡ 0 + n = omega arith in ap (rounds_from c) e
rounds_more (suc m) n c = let e : suc (m + n) ≡ suc m + n = omega arith in rounds_more m n (round c) ∙ ap (rounds_from c) e

-- values never go away

held_more : (hs : List (List ℕ)) (w : Option (Entry ℕ)) → held_values hs ≤ held_values (appended hs w)
held_more hs None = omega arith
held_more hs (Some (entry k v)) = by_range (cases_lt k (length hs))
  where
    by_range : (k < length hs) ⊎ (length hs ≤ k) → held_values hs ≤ held_values (slice_set hs k (history_at hs k ++ v ∷ []))
    by_range (inl lt) = omega (arith, held_set hs k (v ∷ []) lt)
    by_range (inr le) = omega (arith, ap held_values (set_past hs k (history_at hs k ++ v ∷ []) le))

step_held : {c d : Configuration} {a : Place} → Step c a d → held_in c ≤ held_in d
step_held {c = c} {d = d} {a = a} s = omega (arith, held_more c.histories (deal s).pass, ap (λ (x : Configuration). held_values x.histories) (step_deals s))

pub run_held : {c d : Configuration} {n : ℕ} → Leads c n d → held_in c ≤ held_in d
run_held no_step = omega arith
run_held (one_step s l) = omega (arith, step_held s, run_held l)

pub rounds_held : (m n : ℕ) (c : Configuration) → Fits c.term → m ≤ n → held_in (rounds_from c m) ≤ held_in (rounds_from c n)
rounds_held m n c f le =
    let l = rounds_lead m c f in
    let k = rounds_lead (n - m) (rounds_from c m) (leads_fit f l.1) in
    let e : m + (n - m) ≡ n = omega (arith, le) in
    omega (arith, run_held k.1, ap (λ (x : Configuration). held_values x.histories) (rounds_more m (n - m) c ∙ ap (rounds_from c) e))

-- in a run of rounds

-- after so many rounds, where nothing has changed since
pub record IsAt (body : Process) (old : Configuration) (i : ℕ) (c d : Config) : Type 0 where
  pub standing : IsStanding body c
  pub so_far : configuration_of body c ≡ rounds_from old i
  pub unchanged : IsUnchanged c d

at_fits : (body : Process) (old : Configuration) (i : ℕ) (c d : Config) → Fits old.term → IsAt body old i c d → Fits (configuration_of body c).term
at_fits body old i c d f a = subst (λ (x : Configuration). Fits x.term) (sym a.so_far) (leads_fit f (rounds_lead i old f).1)

now_is : (body : Process) (old : Configuration) (i : ℕ) (c d : Config) → IsAt body old i c d → configuration_of body d ≡ rounds_from old i
now_is body old i c d a = unchanged_same body c d a.unchanged ∙ a.so_far

pub stopped : {X E : Type 0} (r : Result X E) (body : Process) (old : Configuration) (i n : ℕ) (c d : Config) → IsAt body old i c d → i ≤ n →
    OnErr r (IsWithin n old (configuration_of body d))
stopped r body old i n c d a le = on_err r (IsWithin n old (configuration_of body d)) (i, le, now_is body old i c d a)

-- the histories hold no more than they did
pub still_few : {X E : Type 0} (r : Result X E) (count most : ℕ) (c d : Config) → IsUnchanged c d → count ≡ held_values (histories_of c) → count ≤ most →
    OnErr r (held_values (histories_of d) ≤ most)
still_few r count most c d u is few = on_err r (held_values (histories_of d) ≤ most) (omega (arith, ap held_values u.histories, is, few))

rest_there : (body : Process) (old : Configuration) (i : ℕ) (c d : Config) → Fits old.term → IsAt body old i c d → next_moves body c ≡ [] →
    ¬ CanStep (configuration_of body d)
rest_there body old i c d f a none can =
    let e = unchanged_same body c d a.unchanged in
    let there : CanStep (configuration_of body c) = subst CanStep e can in
    no_step_planned body c a.standing (at_fits body old i c d f a) none there.0 there.1 there.2

held_there : (body : Process) (old : Configuration) (i : ℕ) (c d : Config) → IsAt body old i c d →
    held_in (configuration_of body d) ≡ held_values (histories_of c)
held_there body old i c d a = ap held_values a.unchanged.histories

pub rested : (body : Process) (old : Configuration) (i n most : ℕ) (c d : Config) (left : Remains) (moves : List Move) → Fits old.term → IsAt body old i c d →
    IsPlan body c left moves → moves ≡ [] → i ≤ n → held_values (histories_of c) ≤ most → IsEnd n most old (configuration_of body d) Rest
rested body old i n most c d left moves f a p none le few =
    let rest = rest_there body old i c d f a (sym p.moves_are ∙ none) in
    let there = now_is body old i c d a in
    let e : i + (n - i) ≡ n = omega (arith, le) in
    let last : configuration_of body d ≡ rounds_from old n = sym (rounds_rest (n - i) (configuration_of body d) rest)
    ∙ (ap (λ x. rounds_from x (n - i)) there ∙ (rounds_more i (n - i) old ∙ ap (rounds_from old) e)) in
    (omega (arith, few, held_there body old i c d a, ap held_in last), last, rest)

pub overfull : (body : Process) (old : Configuration) (i n most : ℕ) (c d : Config) (left : Remains) (moves : List Move) → Fits old.term → IsAt body old i c d →
    IsPlan body c left moves → i < n → held_values (histories_of c) ≤ most → most < held_values (histories_of c) + passing moves →
    IsEnd n most old (configuration_of body d) TooMany
overfull body old i n most c d left moves f a p lt few many =
    let there = now_is body old i c d a in
    let next : held_in (rounds_from old (suc i)) ≡ held_values (histories_of c) + passing moves =
    ap held_in (one_round_more i old ∙ ap round (sym a.so_far)) ∙ planned_held body c left moves a.standing (at_fits body old i c d f a) p in
    let more = rounds_held (suc i) n old f (omega (arith, lt)) in
    (omega (arith, next, many, more), (i, lt, there, omega (arith, few, held_there body old i c d a), omega (arith, next, many)))

pub ended : (body : Process) (old : Configuration) (n most : ℕ) (c d : Config) (left : Remains) (moves : List Move) → Fits old.term → IsAt body old n c d →
    IsPlan body c left moves → held_values (histories_of c) ≤ most → (xs : List Move) → xs ≡ moves → IsEnd n most old (configuration_of body d) (end_by xs)
ended body old n most c d left moves f a p few [] e = rested body old n n most c d left moves f a p (sym e) (omega arith) few
ended body old n most c d left moves f a p few (x ∷ xs) e =
    let last = now_is body old n c d a in
    let can = step_planned body c x xs (sym (e ∙ p.moves_are)) in
    (omega (arith, few, held_there body old n c d a, ap held_in last), last, subst CanStep (sym (unchanged_same body c d a.unchanged)) can)

-- before a round that isn't made

pub ends_before : (moves some : List Move) (count held most : ℕ) (o : Option RunEnd) {end : RunEnd} → some ≡ moves → count ≡ held →
    o ≡ end_before some count most → o ≡ Some end → end_before moves held most ≡ Some end
ends_before moves some count held most o same counted is found =
    sym (ap (λ (ms : List Move). end_before ms held most) same) ∙ (sym (ap (λ n. end_before some n most) counted) ∙ (sym is ∙ found))

pub goes_on : (moves : List Move) (count most : ℕ) → end_before moves count most ≡ None → count + passing moves ≤ most
goes_on moves count most e = by_tests (length moves == 0) (nat_lt most (count + passing moves)) refl e
  where
    by_tests : (none many : Bool) → nat_lt most (count + passing moves) ≡ many → (if none then Some Rest else (if many then Some TooMany else None)) ≡ None →
        count + passing moves ≤ most
    by_tests true many is e = absurd (cc e)
    by_tests false true is e = absurd (cc e)
    by_tests false false is e = ltb-false most (count + passing moves) is

pub ended_before : (body : Process) (old : Configuration) (i n most : ℕ) (c d : Config) (left : Remains) (moves : List Move) (end : RunEnd) → Fits old.term →
    IsAt body old i c d → IsPlan body c left moves → end_before moves (held_values (histories_of c)) most ≡ Some end → i < n →
    held_values (histories_of c) ≤ most → IsEnd n most old (configuration_of body d) end
ended_before body old i n most c d left moves end f a p e lt few =
    by_tests (length moves == 0) (nat_lt most (held_values (histories_of c) + passing moves)) refl refl e
  where
    by_tests : (none many : Bool) → (length moves == 0) ≡ none → nat_lt most (held_values (histories_of c) + passing moves) ≡ many →
        (if none then Some Rest else (if many then Some TooMany else None)) ≡ Some end → IsEnd n most old (configuration_of body d) end
    by_tests true many empty is found =
        let last : Rest ≡ end = cc found in
        subst (λ (x : RunEnd). IsEnd n most old (configuration_of body d) x) last
        (rested body old i n most c d left moves f a p (nil_from_length moves (eqb-true (length moves) 0 empty)) (omega (arith, lt)) few)
    by_tests false true empty is found =
        let last : TooMany ≡ end = cc found in
        subst (λ (x : RunEnd). IsEnd n most old (configuration_of body d) x) last
        (overfull body old i n most c d left moves f a p lt few (ltb-true most (held_values (histories_of c) + passing moves) is))
    by_tests false false empty is found = absurd (cc found)

pub ended_by : (body : Process) (old : Configuration) (n most : ℕ) (c d : Config) (end : RunEnd) → Fits old.term → IsAt body old n c d →
    held_values (histories_of c) ≤ most → IsEndBy body c end → IsEnd n most old (configuration_of body d) end
ended_by body old n most c d end f a few e =
    subst (λ (x : RunEnd). IsEnd n most old (configuration_of body d) x) (sym e.3) (ended body old n most c d e.0 e.1 f a e.2 few e.1 refl)

pub after_round : (body : Process) (old : Configuration) (i : ℕ) (c d e : Config) (left : Remains) (moves : List Move) → Fits old.term → IsAt body old i c d →
    IsPlan body c left moves → HaveMoved d e left moves → configuration_of body e ≡ rounds_from old (i + 1)
after_round body old i c d e left moves f a p s =
    let k : suc i ≡ i + 1 = omega arith in
    settled_round body c e left moves a.standing (at_fits body old i c d f a) p (settled_after c d e left moves a.unchanged s)
    ∙ (ap round a.so_far ∙ (sym (one_round_more i old) ∙ ap (rounds_from old) k))

-- a run of rounds ends after some of them
some_rounds : {E : Type 0} (n most : ℕ) (old new : Configuration) (r : Result RunEnd E) → IfOk r (λ end. IsEnd n most old new end) →
    OnErr r (IsWithin n old new) → (k : ℕ) × (new ≡ rounds_from old k)
some_rounds n most old new (Ok Rest) ok err = (n, ok.1)
some_rounds n most old new (Ok Spent) ok err = (n, ok.1)
some_rounds n most old new (Ok TooMany) ok err = (ok.1.0, ok.1.2)
some_rounds n most old new (Err e) ok err = (err.0, err.2)

pub run_reached : {E : Type 0} (t : TypedValue) (n most : ℕ) (old new : Configuration) (r : Result RunEnd E) → Fits old.term → IsReached t old →
    IfOk r (λ end. IsEnd n most old new end) → OnErr r (IsWithin n old new) → IsReached t new
run_reached t n most old new r f reached ok err = let k = some_rounds n most old new r ok err in subst (IsReached t) (sym k.1) (reached_on t old k.0 f reached)

-- there is a history for each channel

step_channels : {c d : Configuration} {a : Place} → Step c a d → length d.histories ≡ length c.histories
step_channels {c = c} s = sym (ap (λ (x : Configuration). length x.histories) (step_deals s)) ∙ by_pass (deal s).pass
  where
    by_pass : (w : Option (Entry ℕ)) → length (appended c.histories w) ≡ length c.histories
    by_pass None = refl
    by_pass (Some (entry k v)) = length-set c.histories k (history_at c.histories k ++ v ∷ [])

run_channels : {c d : Configuration} {n : ℕ} → Leads c n d → length d.histories ≡ length c.histories
run_channels no_step = refl
run_channels (one_step s l) = run_channels l ∙ step_channels s

pub reached_channels : (t : TypedValue) (c : Configuration) → IsReached t c → length c.histories ≡ length t.channels
reached_channels t c r = let none : List ℕ = [] in run_channels r.3 ∙ length-replicate (length t.channels) none
