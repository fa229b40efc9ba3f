-- The moves of a timed run: their times never fall, and each has its cause.
use Rattle.std.proofs.Common.{◌≡◌, ◌≢◌, ℕ, zero, suc, ◌+◌, ◌<◌, ◌≤◌, Bool, true, false, not, List, [], ◌∷◌, ◌++◌, length, get_or, map, take, refl, sym, ap, subst, ◌∙◌, inl, inr, arith}
use Rattle.std.specs.Prelude.{◌⊎◌, if◌then◌else◌, All, Option, None, Some, is_some}
use Rattle.std.specs.List.{range_with_len}
use Rattle.std.proofs.lemmas.List.FromFn.{length-range_with_len}
use Rattle.std.proofs.lemmas.Bool.{cases_lt}
use Rattle.std.proofs.lemmas.List.{append-nil, append_assoc, length-map, length_push, map-append, get_or_append_left, take-append-le, get_or-set_other}
use Rattle.std.proofs.Math.Seq.{get_or-append_seam}
use Rattle.prs_core.specs.Nets.{NetValue, IsNet, most_nodes}
use Rattle.prs_core.specs.Moves.{high, fired}
use Rattle.env_script.specs.Scripts.{OfferValue}
use Rattle.env_script.specs.Runs.{RunState, IsRun, move_enabled, moved, after}
use Rattle.event_sim.specs.Following.{power_value, power_of}
use Rattle.event_sim.specs.Simulating.{RanValue}
use Rattle.env_script.proofs.MovesWithin.{move_in}
use Rattle.delay_script.specs.declared.noted.NotedMove.{NotedMove}
use Rattle.delay_script.specs.DelayTables.{DelayTable, next_delay}
use Rattle.delay_script.specs.Causes.{IsEnabledSince}
use Rattle.delay_script.specs.TimedRuns.{moved_nodes, time_behind, due_time, ComesNoLater, IsNextMove, ComeNext, TimedValue, timed_start, IsTimedRan}
use Rattle.wave_file.specs.Waves.{NeverFall, IsWave}
use Rattle.wave_file.specs.RunWaves.{timed_changes, wave_of_run}
use Rattle.wave_file.specs.CauseChains.{values_given, moved_at, cause_at, delay_of_turn, own_delay, AreCaused}

-- ---- lists with one more move

nodes_push : (ms : List NotedMove) (x : NotedMove) → moved_nodes (ms ++ x ∷ []) ≡ moved_nodes ms ++ x.node ∷ []
nodes_push ms x = map-append (λ (m : NotedMove). m.node) ms (x ∷ [])

nodes_many : (ms : List NotedMove) → length (moved_nodes ms) ≡ length ms
nodes_many ms = length-map ms (λ (m : NotedMove). m.node)

-- what a map has at a place of the moves before, and at that of the last one
module _ (f : NotedMove → ℕ) (ms : List NotedMove) (x : NotedMove) where
  pub map_front : (k : ℕ) → k < length ms → get_or (map f (ms ++ x ∷ [])) k 0 ≡ get_or (map f ms) k 0
  map_front k below =
      ap (λ (ts : List ℕ). get_or ts k 0) (map-append f ms (x ∷ []))
      ∙ get_or_append_left (map f ms) (f x ∷ []) 0 k (omega (arith, length-map ms f))

  pub map_last : get_or (map f (ms ++ x ∷ [])) (length ms) 0 ≡ f x
  map_last =
      ap (λ (ts : List ℕ). get_or ts (length ms) 0) (map-append f ms (x ∷ []))
      ∙ ap (λ (k : ℕ). get_or (map f ms ++ f x ∷ []) k 0) (sym (length-map ms f)) ∙ get_or-append_seam (map f ms) (f x) [] 0

time_at_front : (ms : List NotedMove) (x : NotedMove) (number : ℕ) → number ≤ length ms → time_behind (ms ++ x ∷ []) number ≡ time_behind ms number
time_at_front ms x zero within = refl
time_at_front ms x (suc k) within = map_front (λ (m : NotedMove). m.time) ms x k (omega arith)

time_at_last : (ms : List NotedMove) (x : NotedMove) → time_behind (ms ++ x ∷ []) (length ms + 1) ≡ x.time
time_at_last ms x = ap (time_behind (ms ++ x ∷ [])) (one_more (length ms)) ∙ map_last (λ (m : NotedMove). m.time) ms x
  where
    one_more : (k : ℕ) → k + 1 ≡ suc k
    one_more k = omega arith

-- ---- states

after_push : (net : NetValue) (st : RunState) (ns : List ℕ) (n : ℕ) → after net st (ns ++ n ∷ []) ≡ moved net (after net st ns) n
after_push net st [] n = refl
after_push net st (x ∷ ns) n = after_push net (moved net st x) ns n

value_elsewhere : (net : NetValue) (st : RunState) (ns : List ℕ) (node n : ℕ) → (n ≡ node → ⊥) →
    high (after net st (ns ++ node ∷ [])).values n ≡ high (after net st ns).values n
value_elsewhere net st ns node n apart =
    ap (λ (r : RunState). high r.values n) (after_push net st ns node) ∙ get_or-set_other (after net st ns).values node n _ false apart

given_push : (net : NetValue) (st : RunState) (ms : List NotedMove) (x : NotedMove) →
    values_given st.values (ms ++ x ∷ []) ≡ values_given st.values ms ++ not (high (after net st (moved_nodes ms)).values x.node) ∷ []
given_push net st [] x = refl
given_push net st (m ∷ ms) x = ap (λ (bs : List Bool). not (high st.values m.node) ∷ bs) (given_push net (moved net st m.node) ms x)

pub given_many : (values : List Bool) (ms : List NotedMove) → length (values_given values ms) ≡ length ms
given_many values [] = refl
given_many values (m ∷ ms) = ap suc (given_many (fired values m.node) ms)

-- ---- times never fall

-- a move that is enabled since an earlier move was so before the last one too
earlier_since : (net : NetValue) (script : List OfferValue) (st : RunState) (ns : List ℕ) (node n number : ℕ) → number ≤ length ns →
    IsEnabledSince net script st (ns ++ node ∷ []) n number → IsEnabledSince net script st ns n number
earlier_since net script st ns node n number within is = record {
  within = within;
  stays = λ k from to. ap (λ (xs : List ℕ). move_enabled net script (after net st xs) n) (sym (take-append-le k ns (node ∷ []) to))
      ∙ is.stays k from (omega (arith, length_push ns node));
  others = λ k from less e.
      is.others k from (omega (arith, length_push ns node)) (get_or_append_left ns (node ∷ []) 0 k less ∙ e);
  begins = λ k at. begins_at k at (is.begins k at);
}
  where
    begins_at : (k : ℕ) → k + 1 ≡ number → (get_or (ns ++ node ∷ []) k 0 ≡ n) ⊎ (move_enabled net script (after net st (take k (ns ++ node ∷ []))) n ≡ false) →
        (get_or ns k 0 ≡ n) ⊎ (move_enabled net script (after net st (take k ns)) n ≡ false)
    begins_at k at (inl own) = inl (sym (get_or_append_left ns (node ∷ []) 0 k (omega arith)) ∙ own)
    begins_at k at (inr off) =
        inr (ap (λ (xs : List ℕ). move_enabled net script (after net st xs) n) (sym (take-append-le k ns (node ∷ []) (omega arith))) ∙ off)

no_later : (t n u m : ℕ) → ComesNoLater t n u m → t ≤ u
no_later t n u m (inl below) = omega arith
no_later t n u m (inr same) = omega (arith, same.0)

-- the move behind one move comes no earlier
pub comes_later : (d : DelayTable) (net : NetValue) (script : List OfferValue) (st : RunState) (before : List NotedMove) (x m : NotedMove) →
    IsNextMove d net script st before x → IsNextMove d net script st (before ++ x ∷ []) m → x.time ≤ m.time
comes_later d net script st before x m one two = by_cause_of (cases_lt (length before) m.cause)
  where
    since : IsEnabledSince net script st (moved_nodes before ++ x.node ∷ []) m.node m.cause
    since = subst (λ (ns : List ℕ). IsEnabledSince net script st ns m.node m.cause) (nodes_push before x) two.cause

    by_cause_of : (length before < m.cause) ⊎ (m.cause ≤ length before) → x.time ≤ m.time
    by_cause_of (inl last) =
        let own : m.cause ≡ length before + 1 = omega (arith, since.within, length_push (moved_nodes before) x.node, nodes_many before) in
        omega (arith, two.time, ap (time_behind (before ++ x ∷ [])) own, time_at_last before x)
    by_cause_of (inr early) =
        let inside : m.cause ≤ length (moved_nodes before) = omega (arith, nodes_many before) in
        let last : get_or (moved_nodes before ++ x.node ∷ []) (length (moved_nodes before)) 0 ≡ x.node =
        get_or-append_seam (moved_nodes before) x.node [] 0 in
        let apart : m.node ≢ x.node =
        λ e. since.others (length (moved_nodes before)) inside (omega (arith, length_push (moved_nodes before) x.node)) (last ∙ sym e) in
        let value : high (after net st (moved_nodes (before ++ x ∷ []))).values m.node ≡ high (after net st (moved_nodes before)).values m.node =
        ap (λ (ns : List ℕ). high (after net st ns).values m.node) (nodes_push before x)
        ∙ value_elsewhere net st (moved_nodes before) x.node m.node apart in
        let due : due_time d net st (before ++ x ∷ []) m.cause m.node ≡ due_time d net st before m.cause m.node =
        ap (λ (t : ℕ). t + next_delay d (high (after net st (moved_nodes (before ++ x ∷ []))).values) m.node) (time_at_front before x m.cause early)
        ∙ ap (λ (b : Bool). time_behind before m.cause + (if b then get_or d.down m.node 0 else get_or d.up m.node 0)) value in
        let first : x.time ≤ due_time d net st before m.cause m.node =
        no_later _ _ _ _ (one.first m.node m.cause (earlier_since net script st (moved_nodes before) x.node m.node m.cause inside since)) in
        omega (arith, two.time, due, first)

-- all moves behind one
rise_behind : (d : DelayTable) (net : NetValue) (script : List OfferValue) (st : RunState) (before : List NotedMove) (x : NotedMove)
    (ms : List NotedMove) → IsNextMove d net script st before x → ComeNext d net script st (before ++ x ∷ []) ms → NeverFall x.time (timed_changes ms)
rise_behind d net script st before x [] one all = tt
rise_behind d net script st before x (m ∷ ms) one all =
    (comes_later d net script st before x m one all.0, rise_behind d net script st (before ++ x ∷ []) m ms all.0 all.1)

pub never_fall : (d : DelayTable) (net : NetValue) (script : List OfferValue) (st : RunState) (ms : List NotedMove) → ComeNext d net script st [] ms →
    NeverFall 0 (timed_changes ms)
never_fall d net script st [] all = tt
never_fall d net script st (m ∷ ms) all = (omega arith, rise_behind d net script st [] m ms all.0 all.1)

-- ---- each move has its cause

caused_none : (d : DelayTable) (values : List Bool) → AreCaused d (values_given values []) []
caused_none d values = record { earlier = λ k below. absurd (omega arith); later = λ k below. absurd (omega arith) }

turn_is : (d : DelayTable) (v : ℕ → Bool) (n : ℕ) → delay_of_turn d (not (v n)) n ≡ next_delay d v n
turn_is d v n = by_value (v n)
  where
    by_value : (b : Bool) → (if not b then get_or d.up n 0 else get_or d.down n 0) ≡ (if b then get_or d.down n 0 else get_or d.up n 0)
    by_value true = refl
    by_value false = refl

caused_push : (d : DelayTable) (net : NetValue) (script : List OfferValue) (st : RunState) (before : List NotedMove) (x : NotedMove) →
    AreCaused d (values_given st.values before) before → IsNextMove d net script st before x →
    AreCaused d (values_given st.values (before ++ x ∷ [])) (before ++ x ∷ [])
caused_push d net script st before x are one = record {
  earlier = λ k below. earlier_at k (cases_lt k (length before)) below;
  later = λ k below. later_at k (cases_lt k (length before)) below;
}
  where
    more : List NotedMove
    more = before ++ x ∷ []

    given : List Bool
    given = values_given st.values before

    turned : Bool
    turned = not (high (after net st (moved_nodes before)).values x.node)

    cause_before : (k : ℕ) → k < length before → cause_at more k ≡ cause_at before k
    cause_before k below = map_front (λ (m : NotedMove). m.cause) before x k below

    cause_then : (k : ℕ) → k ≡ length before → cause_at more k ≡ x.cause
    cause_then k at = ap (cause_at more) at ∙ map_last (λ (m : NotedMove). m.cause) before x

    few : x.cause ≤ length before
    few = omega (arith, one.cause.within, nodes_many before)

    earlier_at : (k : ℕ) → (k < length before) ⊎ (length before ≤ k) → k < length more → cause_at more k ≤ k
    earlier_at k (inl below) within = omega (arith, cause_before k below, are.earlier k below)
    earlier_at k (inr past) within =
        let at : k ≡ length before = omega (arith, length_push before x) in
        omega (arith, cause_then k at, few)

    own_before : (k : ℕ) → k < length before → own_delay d (values_given st.values more) more k ≡ own_delay d given before k
    own_before k below =
        ap (λ (bs : List Bool). delay_of_turn d (get_or bs k false) (moved_at more k)) (given_push net st before x)
        ∙ ap (λ (b : Bool). delay_of_turn d b (moved_at more k))
        (get_or_append_left given (turned ∷ []) false k (omega (arith, given_many st.values before)))
        ∙ ap (delay_of_turn d (get_or given k false)) (map_front (λ (m : NotedMove). m.node) before x k below)

    own_then : (k : ℕ) → k ≡ length before →
        own_delay d (values_given st.values more) more k ≡ next_delay d (high (after net st (moved_nodes before)).values) x.node
    own_then k at =
        ap (own_delay d (values_given st.values more) more) at
        ∙ ap (λ (bs : List Bool). delay_of_turn d (get_or bs (length before) false) (moved_at more (length before))) (given_push net st before x)
        ∙ ap (λ (i : ℕ). delay_of_turn d (get_or (given ++ turned ∷ []) i false) (moved_at more (length before))) (sym (given_many st.values before))
        ∙ ap (λ (b : Bool). delay_of_turn d b (moved_at more (length before))) (get_or-append_seam given turned [] false)
        ∙ ap (delay_of_turn d turned) (map_last (λ (m : NotedMove). m.node) before x)
        ∙ turn_is d (high (after net st (moved_nodes before)).values) x.node

    later_at : (k : ℕ) → (k < length before) ⊎ (length before ≤ k) → k < length more →
        time_behind more (k + 1) ≡ time_behind more (cause_at more k) + own_delay d (values_given st.values more) more k
    later_at k (inl below) within =
        let cause : time_behind more (cause_at more k) ≡ time_behind before (cause_at before k) =
        ap (time_behind more) (cause_before k below) ∙ time_at_front before x (cause_at before k) (omega (arith, are.earlier k below)) in
        omega (arith, time_at_front before x (k + 1) (omega arith), are.later k below, cause, own_before k below)
    later_at k (inr past) within =
        let at : k ≡ length before = omega (arith, length_push before x) in
        let cause : time_behind more (cause_at more k) ≡ time_behind before x.cause =
        ap (time_behind more) (cause_then k at) ∙ time_at_front before x x.cause few in
        let here : time_behind more (k + 1) ≡ x.time = ap (λ (n : ℕ). time_behind more (n + 1)) at ∙ time_at_last before x in
        omega (arith, here, one.time, cause, own_then k at)

pub caused_more : (d : DelayTable) (net : NetValue) (script : List OfferValue) (st : RunState) (before ms : List NotedMove) →
    AreCaused d (values_given st.values before) before → ComeNext d net script st before ms →
    AreCaused d (values_given st.values (before ++ ms)) (before ++ ms)
caused_more d net script st before [] are all =
    subst (λ (xs : List NotedMove). AreCaused d (values_given st.values xs) xs) (sym (append-nil before)) are
caused_more d net script st before (m ∷ ms) are all =
    subst (λ (xs : List NotedMove). AreCaused d (values_given st.values xs) xs) (append_assoc before (m ∷ []) ms)
    (caused_more d net script st (before ++ m ∷ []) ms (caused_push d net script st before m are all.0) all.1)

pub caused : (d : DelayTable) (net : NetValue) (script : List OfferValue) (st : RunState) (ms : List NotedMove) → ComeNext d net script st [] ms →
    AreCaused d (values_given st.values ms) ms
caused d net script st ms all = caused_more d net script st [] ms (caused_none d st.values) all

-- ---- the moves of a run are of its nodes

pub nodes_in : (net : NetValue) (script : List OfferValue) (st : RunState) (ms : List NotedMove) → IsNet net → IsRun net script st (moved_nodes ms) →
    (i : ℕ) (d : NotedMove) → i < length ms → (get_or ms i d).node < length net.first
nodes_in net script st [] is run i d below = absurd (omega arith)
nodes_in net script st (m ∷ ms) is run zero d below = move_in net script st m.node is run.0
nodes_in net script st (m ∷ ms) is run (suc i) d below = nodes_in net script (moved net st m.node) ms is run.1 i d (omega arith)

pub changes_in : (net : NetValue) (script : List OfferValue) (st : RunState) (ms : List NotedMove) → IsNet net → IsRun net script st (moved_nodes ms) →
    (i : ℕ) (d : ℕ × ℕ) → i < length (timed_changes ms) → (get_or (timed_changes ms) i d).1 < length net.first
changes_in net script st [] is run i d below = absurd (omega arith)
changes_in net script st (m ∷ ms) is run zero d below = move_in net script st m.node is run.0
changes_in net script st (m ∷ ms) is run (suc i) d below = changes_in net script (moved net st m.node) ms is run.1 i d (omega arith)

-- ---- they are a wave

few_nodes : (o : Option ℕ) → most_nodes o ≤ 65537
few_nodes None = omega arith
few_nodes (Some node) = omega arith

power_many : (net : NetValue) (high : Bool) → length (power_of net high) ≡ length net.first
power_many net high = by_reset net.reset
  where
    by_reset : (o : Option ℕ) →
        length (if is_some o then map (power_value net high) (range_with_len 0 (length net.first)) else net.first) ≡ length net.first
    by_reset None = refl
    by_reset (Some node) =
        length-map (range_with_len 0 (length net.first)) (power_value net high) ∙ length-range_with_len 0 (length net.first)

pub is_wave : (t : TimedValue) (ms : List NotedMove) (r : RanValue) (u : ℕ) → IsNet t.net → IsTimedRan t ms r u →
    IsWave (wave_of_run t.net t.high ms)
is_wave t ms r u net ran = record {
  some = omega (arith, net.named, net.some);
  most = omega (arith, net.named, net.most, few_nodes t.net.reset);
  values = power_many t.net t.high ∙ sym net.named;
  nodes = λ i d below.
      subst (λ (n : ℕ). (get_or (timed_changes ms) i d).1 < n) (sym net.named) (changes_in t.net t.script (timed_start t) ms net ran.run i d below);
  times = never_fall t.delays t.net t.script (timed_start t) ms ran.timed;
}

pub are_nodes : (t : TimedValue) (ms : List NotedMove) (r : RanValue) (u : ℕ) → IsNet t.net → IsTimedRan t ms r u →
    All (λ (m : NotedMove). m.node < length t.net.first) ms
are_nodes t ms r u net ran = λ i d below. nodes_in t.net t.script (timed_start t) ms net ran.run i d below

pub are_caused : (t : TimedValue) (ms : List NotedMove) (r : RanValue) (u : ℕ) → IsTimedRan t ms r u →
    AreCaused t.delays (values_given (power_of t.net t.high) ms) ms
are_caused t ms r u ran = caused t.delays t.net t.script (timed_start t) ms ran.timed
