-- One more move of a timed run.
use Rattle.std.proofs.Common.{◌≡◌, ℕ, zero, suc, ◌+◌, ◌*◌, ◌<◌, ◌≤◌, Bool, true, false, List, [], ◌∷◌, ◌++◌, length, get_or, map, refl, sym, ap, subst, ◌∙◌, inl, inr, arith}
use Rattle.std.specs.Prelude.{◌⊎◌, ◌==◌, if◌then◌else◌, Option, None, Some}
use Rattle.std.proofs.lemmas.Bool.{eqb-true, eqb-false, both_ways}
use Rattle.std.proofs.lemmas.List.{append-nil, append_assoc, length-map, map-append, get_or_append_left, length_push, get_or-set_other}
use Rattle.std.proofs.Math.Seq.{get_or-append_seam}
use Rattle.prs_core.specs.Nets.{NetValue, IsNet}
use Rattle.prs_core.specs.Moves.{high}
use Rattle.env_script.specs.Scripts.{OfferValue}
use Rattle.env_script.specs.Runs.{RunState, IsRun, move_enabled, after}
use Rattle.event_sim.proofs.Following.{after_more}
use Rattle.env_script.proofs.MovesWithin.{move_in}
use Rattle.delay_script.specs.declared.due.Due.{Due}
use Rattle.delay_script.specs.declared.due.Next.{Next}
use Rattle.delay_script.specs.declared.noted.NotedMove.{NotedMove}
use Rattle.delay_script.specs.DelayTables.{DelayTable, IsDelayTable, next_delay}
use Rattle.delay_script.specs.Causes.{IsEnabledSince}
use Rattle.delay_script.specs.TimedRuns.{moved_nodes, time_behind, due_time, ComesNoLater, IsNextMove, ComeNext}
use Rattle.delay_script.specs.Dues.{due_at, IsDue, IsKeptDue, AreKeptDues, IsFirstDue, renewed_due}
use Rattle.delay_script.proofs.Sinces.{is_enabled, from_start, still, anew, one_cause}

pub nodes_more : (ms : List NotedMove) (x : NotedMove) → moved_nodes (ms ++ x ∷ []) ≡ moved_nodes ms ++ x.node ∷ []
nodes_more ms x = map-append (λ (m : NotedMove). m.node) ms (x ∷ [])

pub nodes_count : (ms : List NotedMove) → length (moved_nodes ms) ≡ length ms
nodes_count ms = length-map ms (λ (m : NotedMove). m.node)

pub come_more : (d : DelayTable) (net : NetValue) (script : List OfferValue) (st : RunState) (before ms : List NotedMove) (x : NotedMove) →
    ComeNext d net script st before ms → IsNextMove d net script st (before ++ ms) x → ComeNext d net script st before (ms ++ x ∷ [])
come_more d net script st before [] x all next =
    (subst (λ (v : List NotedMove). IsNextMove d net script st v x) (append-nil before) next, tt)
come_more d net script st before (m ∷ ms) x all next = (
  all.0,
  come_more d net script st (before ++ m ∷ []) ms x all.1
      (subst (λ (v : List NotedMove). IsNextMove d net script st v x) (sym (append_assoc before (m ∷ []) ms)) next),
)

-- the moves of a timed run are a run
pub come_run : (d : DelayTable) (net : NetValue) (script : List OfferValue) (st : RunState) (before ms : List NotedMove) → ComeNext d net script st before ms →
    IsRun net script (after net st (moved_nodes before)) (moved_nodes ms)
come_run d net script st before [] all = tt
come_run d net script st before (m ∷ ms) all = (
  is_enabled net script st (moved_nodes before) m.node m.cause all.0.cause,
  subst (λ (r : RunState). IsRun net script r (moved_nodes ms))
      (ap (after net st) (nodes_more before m) ∙ after_more net st (moved_nodes before) m.node)
      (come_run d net script st (before ++ m ∷ []) ms all.1),
)

-- times

times : List NotedMove → List ℕ
times ms = map (λ (m : NotedMove). m.time) ms

pub time_front : (ms : List NotedMove) (x : NotedMove) (number : ℕ) → number ≤ length ms → time_behind (ms ++ x ∷ []) number ≡ time_behind ms number
time_front ms x zero within = refl
time_front ms x (suc k) within =
    ap (λ (ts : List ℕ). get_or ts k 0) (map-append (λ (m : NotedMove). m.time) ms (x ∷ []))
    ∙ get_or_append_left (map (λ (m : NotedMove). m.time) ms) (x.time ∷ []) 0 k (omega (arith, length-map ms (λ (m : NotedMove). m.time)))

pub time_last : (ms : List NotedMove) (x : NotedMove) → time_behind (ms ++ x ∷ []) (length ms + 1) ≡ x.time
time_last ms x =
    ap (time_behind (ms ++ x ∷ [])) (one_more (length ms))
    ∙ ap (λ (ts : List ℕ). get_or ts (length ms) 0) (map-append (λ (m : NotedMove). m.time) ms (x ∷ []))
    ∙ ap (λ (k : ℕ). get_or (map (λ (m : NotedMove). m.time) ms ++ x.time ∷ []) k 0) (sym (length-map ms (λ (m : NotedMove). m.time)))
    ∙ get_or-append_seam (map (λ (m : NotedMove). m.time) ms) x.time [] 0
  where
    one_more : (k : ℕ) → k + 1 ≡ suc k
    one_more k = omega arith

-- the delay of a node that didn't move is as it was
other_value : (net : NetValue) (st : RunState) (ns : List ℕ) (node n : ℕ) → (n ≡ node → ⊥) →
    high (after net st (ns ++ node ∷ [])).values n ≡ high (after net st ns).values n
other_value net st ns node n apart =
    ap (λ (r : RunState). high r.values n) (after_more net st ns node) ∙ get_or-set_other (after net st ns).values node n _ false apart

pub delay_few : (nodes : ℕ) (d : DelayTable) (v : ℕ → Bool) (n : ℕ) → IsDelayTable nodes d → n < nodes → next_delay d v n ≤ 1000000
delay_few nodes d v n is within = by_value (v n)
  where
    by_value : (b : Bool) → (if b then get_or d.down n 0 else get_or d.up n 0) ≤ 1000000
    by_value true = is.falls_few n 0 (omega (arith, is.falls))
    by_value false = is.rises_few n 0 (omega (arith, is.rises))

-- what is kept of a node behind one more move
pub record IsMade (d : DelayTable) (net : NetValue) (script : List OfferValue) (st : RunState) (ms : List NotedMove) (x : NotedMove) (fresh : Due)
    (n : ℕ) : Type 0
  where
    pub cause : fresh.cause ≡ length ms + 1
    pub time : fresh.time ≡ x.time + next_delay d (high (after net st (moved_nodes (ms ++ x ∷ []))).values) n
    pub few : next_delay d (high (after net st (moved_nodes (ms ++ x ∷ []))).values) n ≤ 1000000
    pub soon : x.time ≤ (length ms + 1) * 1000000

fresh_is : (d : DelayTable) (net : NetValue) (script : List OfferValue) (st : RunState) (ms : List NotedMove) (x : NotedMove) (fresh : Due) (n : ℕ) →
    IsMade d net script st ms x fresh n → (x.node ≡ n) ⊎ (move_enabled net script (after net st (moved_nodes ms)) n ≡ false) →
    move_enabled net script (after net st (moved_nodes (ms ++ x ∷ []))) n ≡ true → IsDue d net script st (ms ++ x ∷ []) n fresh
fresh_is d net script st ms x fresh n is cause enabled = record {
  since = subst (λ (ns : List ℕ). IsEnabledSince net script st ns n fresh.cause) (sym (nodes_more ms x))
      (subst (λ (k : ℕ). IsEnabledSince net script st (moved_nodes ms ++ x.node ∷ []) n k) (ap (λ (k : ℕ). k + 1) (nodes_count ms) ∙ sym is.cause)
      (anew net script st (moved_nodes ms) x.node n cause
      (subst (λ (ns : List ℕ). move_enabled net script (after net st ns) n ≡ true) (nodes_more ms x) enabled)));
  time = is.time ∙ ap (λ (t : ℕ). t + next_delay d (high (after net st (moved_nodes (ms ++ x ∷ []))).values) n)
      (sym (ap (time_behind (ms ++ x ∷ [])) is.cause ∙ time_last ms x));
  soon = omega (arith, is.time, is.few, is.soon, length_push ms x);
}

still_is : (d : DelayTable) (net : NetValue) (script : List OfferValue) (st : RunState) (ms : List NotedMove) (x : NotedMove) (due : Due) (n : ℕ) →
    IsDue d net script st ms n due → (n ≡ x.node → ⊥) → move_enabled net script (after net st (moved_nodes (ms ++ x ∷ []))) n ≡ true →
    IsDue d net script st (ms ++ x ∷ []) n due
still_is d net script st ms x due n is apart enabled = record {
  since = subst (λ (ns : List ℕ). IsEnabledSince net script st ns n due.cause) (sym (nodes_more ms x))
      (still net script st (moved_nodes ms) x.node n due.cause is.since apart
      (subst (λ (ns : List ℕ). move_enabled net script (after net st ns) n ≡ true) (nodes_more ms x) enabled));
  time = is.time ∙ ap (λ (t : ℕ). t + next_delay d (high (after net st (moved_nodes ms)).values) n)
      (sym (time_front ms x due.cause (omega (arith, is.since.within, nodes_count ms))))
      ∙ ap (λ (b : Bool). time_behind (ms ++ x ∷ []) due.cause + (if b then get_or d.down n 0 else get_or d.up n 0)) (sym same_value);
  soon = omega (arith, is.soon, length_push ms x);
}
  where
    same_value : high (after net st (moved_nodes (ms ++ x ∷ []))).values n ≡ high (after net st (moved_nodes ms)).values n
    same_value = ap (λ (ns : List ℕ). high (after net st ns).values n) (nodes_more ms x) ∙ other_value net st (moved_nodes ms) x.node n apart

pub kept_more : (d : DelayTable) (net : NetValue) (script : List OfferValue) (st : RunState) (ms : List NotedMove) (x : NotedMove) (fresh : Due) (n : ℕ)
    (was : Option Due) → IsMade d net script st ms x fresh n → IsKeptDue d net script st ms n was →
    IsKeptDue d net script st (ms ++ x ∷ []) n
    (renewed_due (move_enabled net script (after net st (moved_nodes (ms ++ x ∷ []))) n) (n == x.node) was fresh)
kept_more d net script st ms x fresh n was is kept =
    by_case (move_enabled net script (after net st (moved_nodes (ms ++ x ∷ []))) n) (n == x.node) was refl refl kept
  where
    by_case : (now own : Bool) (o : Option Due) → move_enabled net script (after net st (moved_nodes (ms ++ x ∷ []))) n ≡ now → (n == x.node) ≡ own →
        IsKeptDue d net script st ms n o → IsKeptDue d net script st (ms ++ x ∷ []) n (renewed_due now own o fresh)
    by_case false own o enabled same before = enabled
    by_case true true o enabled same before = fresh_is d net script st ms x fresh n is (inl (sym (eqb-true n x.node same))) enabled
    by_case true false None enabled same before = fresh_is d net script st ms x fresh n is (inr before) enabled
    by_case true false (Some due) enabled same before = still_is d net script st ms x due n before (eqb-false n x.node same) enabled

pub made_is : (d : DelayTable) (net : NetValue) (script : List OfferValue) (st : RunState) (ms : List NotedMove) (x : NotedMove) (fresh : Due) (n : ℕ) →
    fresh.cause ≡ length ms + 1 → fresh.time ≡ x.time + next_delay d (high (after net st (moved_nodes (ms ++ x ∷ []))).values) n →
    next_delay d (high (after net st (moved_nodes (ms ++ x ∷ []))).values) n ≤ 1000000 → x.time ≤ (length ms + 1) * 1000000 →
    IsMade d net script st ms x fresh n
made_is d net script st ms x fresh n cause time few soon = record { cause = cause; time = time; few = few; soon = soon }

-- what is kept at the start
pub kept_first : (d : DelayTable) (net : NetValue) (script : List OfferValue) (st : RunState) (fresh : Due) (n : ℕ) (own : Bool) → fresh.cause ≡ 0 →
    fresh.time ≡ 0 + next_delay d (high st.values) n → next_delay d (high st.values) n ≤ 1000000 →
    IsKeptDue d net script st [] n (renewed_due (move_enabled net script st n) own None fresh)
kept_first d net script st fresh n own cause time few = by_case (move_enabled net script st n) own refl
  where
    first : move_enabled net script st n ≡ true → IsDue d net script st [] n fresh
    first enabled = record {
      since = subst (λ (k : ℕ). IsEnabledSince net script st [] n k) (sym cause) (from_start net script st n enabled);
      time = time ∙ ap (λ (k : ℕ). time_behind [] k + next_delay d (high st.values) n) (sym cause);
      soon = omega (arith, time, few);
    }

    by_case : (now own : Bool) → move_enabled net script st n ≡ now → IsKeptDue d net script st [] n (renewed_due now own None fresh)
    by_case false own enabled = enabled
    by_case true true enabled = first enabled
    by_case true false enabled = first enabled

-- the move that is first due comes next
pub is_next : (d : DelayTable) (net : NetValue) (script : List OfferValue) (st : RunState) (ms : List NotedMove) (dues : List (Option Due)) (m : Next) →
    IsNet net → length dues ≡ length net.first → AreKeptDues d net script st ms dues → IsFirstDue dues (length net.first) m →
    IsNextMove d net script st ms (record { time = m.due.time; node = m.node; cause = m.due.cause })
is_next d net script st ms dues m is count kept first = record {
  cause = own.since;
  time = own.time;
  first = λ n number since. against n number since (due_at dues n) refl (kept n (omega (arith, count, inside n number since)));
}
  where
    own : IsDue d net script st ms m.node m.due
    own = subst (λ (o : Option Due). IsKeptDue d net script st ms m.node o) first.due (kept m.node (omega (arith, count, first.within)))

    inside : (n number : ℕ) → IsEnabledSince net script st (moved_nodes ms) n number → n < length net.first
    inside n number since = move_in net script (after net st (moved_nodes ms)) n is (is_enabled net script st (moved_nodes ms) n number since)

    against : (n number : ℕ) → IsEnabledSince net script st (moved_nodes ms) n number → (o : Option Due) → due_at dues n ≡ o →
        IsKeptDue d net script st ms n o → ComesNoLater m.due.time m.node (due_time d net st ms number n) n
    against n number since None e off = absurd (both_ways _ off (is_enabled net script st (moved_nodes ms) n number since))
    against n number since (Some due) e there =
        subst (λ (t : ℕ). ComesNoLater m.due.time m.node t n)
        (there.time ∙ ap (λ (k : ℕ). due_time d net st ms k n) (one_cause net script st (moved_nodes ms) n due.cause number there.since since))
        (first.first n due (inside n number since) e)
