-- A timed run that is on its way: how it begins, one more move, and how it ends.
use Rattle.std.proofs.Common.{◌≡◌, ℕ, zero, suc, ◌+◌, ◌*◌, ◌<◌, ◌≤◌, Bool, true, false, List, [], ◌∷◌, ◌++◌, length, set, take, replicate, refl, sym, ap, subst, ◌∙◌, inl, inr, arith}
use Rattle.std.specs.Prelude.{◌⊎◌, ◌&&◌, ◌==◌, Option, None, Some, is_some, option_to_list, All}
use Rattle.std.specs.List.{list_any}
use Rattle.std.proofs.lemmas.Bool.{cases_lt, both_ways, ne_eqb, eqb-true, eqb-false}
use Rattle.std.proofs.lemmas.List.{length_push, take-append-le, take_all, length-replicate, get_or-replicate, get_or-set_same, get_or-set_other, length-set}
use Rattle.std.proofs.lemmas.List.FromFn.{length-map-range_with_len}
use Rattle.prs_core.specs.Nets.{NetValue, IsNet}
use Rattle.prs_core.specs.Moves.{high}
use Rattle.env_script.specs.declared.hazard.Hazard.{Hazard}
use Rattle.env_script.specs.Scripts.{OfferValue}
use Rattle.env_script.specs.Runs.{RunState, move_enabled, moved, after, begin_at}
use Rattle.env_script.specs.Hazards.{first_hazard, hazard_of}
use Rattle.event_sim.specs.declared.ran.End.{End}
use Rattle.event_sim.specs.Following.{enabled_moves, move_at, power_of}
use Rattle.event_sim.specs.Passing.{completion, passed_in, channel_histories, values_through}
use Rattle.event_sim.specs.Ends.{last_hazard, end_with, end_after}
use Rattle.event_sim.specs.Simulating.{IsEndIn}
use Rattle.event_sim.specs.Locality.{is_among}
use Rattle.event_sim.specs.Stages.{StageValue, stage_with, now_of, moves_now, AreConcerned}
use Rattle.event_sim.proofs.Lists.{among_is}
use Rattle.event_sim.proofs.Histories.{histories_none}
use Rattle.event_sim.proofs.Following.{after_more, last_more, passed_more, enabled_at, enabled_below}
use Rattle.event_sim.proofs.Ranges.{end_within}
use Rattle.delay_script.specs.declared.due.Due.{Due}
use Rattle.delay_script.specs.declared.due.Next.{Next}
use Rattle.delay_script.specs.declared.noted.NotedMove.{NotedMove}
use Rattle.delay_script.specs.DelayTables.{DelayTable, IsDelayTable, next_delay}
use Rattle.delay_script.specs.TimedRuns.{moved_nodes, time_behind, TimedValue, timed_start, IsTimedRan}
use Rattle.delay_script.specs.Dues.{due_at, IsDue, IsKeptDue, AreKeptDues, IsFirstDue, IsFirstOf, renewed_due, fresh_due, filled_due, AreFilled, list_of_next, IsOnItsWay, IsTimedReady}
use Rattle.event_sim.proofs.Wholes.{safe_is_calm}
use Rattle.delay_script.proofs.Sinces.{is_enabled}
use Rattle.delay_script.proofs.Coming.{nodes_more, nodes_count, come_more, come_run, delay_few, kept_more, made_is, kept_first, is_next}

-- its beginning

twice_on : (on : Bool) (fresh : Due) → filled_due (on && on) None fresh ≡ renewed_due on false None fresh
twice_on true fresh = refl
twice_on false fresh = refl

pub kept_at_start : (c : StageValue) (d : DelayTable) (was now : List (Option Due)) → IsDelayTable (length c.net.first) d →
    length was ≡ length c.net.first → ((n : ℕ) → n < length was → due_at was n ≡ None) →
    AreFilled c d (record { cause = 0; time = 0 }) (moves_now c) was now → AreKeptDues d c.net c.script (now_of c) [] now
kept_at_start c d was now table count none filled n within =
    let v : ℕ → Bool = high c.values in
    let made : Due = record { cause = 0; time = 0 } in
    let before : n < length was = omega (arith, filled.count) in
    let inside : n < length c.net.first = omega arith in
    let fresh : Due = fresh_due d v made n in
    let on : Bool = move_enabled c.net c.script (now_of c) n in
    let one : due_at now n ≡ renewed_due on false None fresh =
    filled.each n before
    ∙ ap (λ (b : Bool). filled_due (b && on) (due_at was n) fresh) (among_is (move_enabled c.net c.script (now_of c)) (length c.net.first) n inside)
    ∙ ap (λ (o : Option Due). filled_due (on && on) o fresh) (none n before) ∙ twice_on on fresh in
    subst (λ (o : Option Due). IsKeptDue d c.net c.script (now_of c) [] n o) (sym one)
    (kept_first d c.net c.script (now_of c) fresh n false refl refl (delay_few (length c.net.first) d v n table inside))

there : (c : StageValue) (start : Bool) → c.values ≡ power_of c.net start → c.passed ≡ [] → now_of c ≡ begin_at c.net (power_of c.net start)
there c start values passed =
    ap (λ (ps : List (ℕ × ℕ)). record { values = c.values; histories = channel_histories (length c.net.channels) ps }) passed
    ∙ ap (λ (hs : List (List ℕ)). record { values = c.values; histories = hs }) (histories_none (length c.net.channels))
    ∙ ap (λ (vs : List Bool). record { values = vs; histories = replicate (length c.net.channels) [] }) values

pub begun : (c : StageValue) (d : DelayTable) (dues : List (Option Due)) (ms : List NotedMove) (slots steps : ℕ) (start : Bool) (last : Option Hazard) →
    IsTimedReady c d dues ms slots steps start → last ≡ first_hazard c.net (now_of c) →
    IsOnItsWay (record { net = c.net; script = c.script; steps = steps; delays = d; high = start }) ms c dues last
begun c d dues ms slots steps start last is hazard =
    subst (λ (xs : List NotedMove). IsOnItsWay t xs c dues last) (sym is.none_made) (record {
      net = refl;
      script = refl;
      now = here;
      passed = is.passed;
      room = omega (arith, is.room);
      timed = tt;
      count = is.count;
      kept = λ none. subst (λ (r : RunState). AreKeptDues d c.net c.script r [] dues) here is.kept;
      hazard = hazard ∙ ap (λ (r : RunState). first_hazard c.net r) here;
      no_end = λ k below. absurd (omega arith);
    })
  where
    t : TimedValue
    t = record { net = c.net; script = c.script; steps = steps; delays = d; high = start }

    here : now_of c ≡ timed_start t
    here = there c start is.values is.passed

-- whether a move is enabled, by what is kept

kept_says : (d : DelayTable) (net : NetValue) (script : List OfferValue) (st : RunState) (ms : List NotedMove) (n : ℕ) (o : Option Due) →
    IsKeptDue d net script st ms n o → is_some o ≡ move_enabled net script (after net st (moved_nodes ms)) n
kept_says d net script st ms n None off = sym off
kept_says d net script st ms n (Some due) is = sym (is_enabled net script st (moved_nodes ms) n due.cause is.since)

none_enabled : (net : NetValue) (script : List OfferValue) (st : RunState) → ((n : ℕ) → n < length net.first → move_enabled net script st n ≡ false) →
    enabled_moves net script st ≡ []
none_enabled net script st off = by_list (enabled_moves net script st) refl
  where
    by_list : (xs : List ℕ) → enabled_moves net script st ≡ xs → xs ≡ []
    by_list [] e = refl
    by_list (x ∷ xs) e =
        let some : 0 < length (enabled_moves net script st) = omega (arith, ap length e) in
        absurd (both_ways _ (off (move_at net script st 0) (enabled_below net script st 0 0 some)) (enabled_at net script st 0 some))

some_enabled : (net : NetValue) (script : List OfferValue) (st : RunState) (n : ℕ) → n < length net.first → move_enabled net script st n ≡ true →
    0 < length (enabled_moves net script st)
some_enabled net script st n within on = by_list (enabled_moves net script st) refl
  where
    by_list : (xs : List ℕ) → enabled_moves net script st ≡ xs → 0 < length xs
    by_list (x ∷ xs) e = omega arith
    by_list [] e =
        absurd (both_ways _ (ap (list_any (λ k. k == n)) e) (among_is (move_enabled net script st) (length net.first) n within ∙ on))

-- the end is told by whether a move is enabled

end_same : (last : Option Hazard) (xs ys : List ℕ) (spent : Bool) → 0 < length xs → 0 < length ys → end_with last xs spent ≡ end_with last ys spent
end_same (Some h) xs ys spent one two = refl
end_same None [] ys spent one two = absurd (omega arith)
end_same None (x ∷ xs) [] spent one two = absurd (omega arith)
end_same None (x ∷ xs) (y ∷ ys) spent one two = refl

-- what is enabled behind the moves so far
abbrev enabled_then : TimedValue → List NotedMove → List ℕ
enabled_then t ms = enabled_moves t.net t.script (after t.net (timed_start t) (moved_nodes ms))

calm_says : (t : TimedValue) (ms : List NotedMove) (dues : List (Option Due)) (next : Option Next) (spent : Bool) → length dues ≡ length t.net.first →
    AreKeptDues t.delays t.net t.script (timed_start t) ms dues → IsFirstOf dues (length t.net.first) next →
    end_with None (list_of_next next) spent ≡ end_with None (enabled_then t ms) spent
calm_says t ms dues None spent count kept first =
    ap (λ (xs : List ℕ). end_with None xs spent) (sym (none_enabled t.net t.script (after t.net (timed_start t) (moved_nodes ms)) off))
  where
    off : (n : ℕ) → n < length t.net.first → move_enabled t.net t.script (after t.net (timed_start t) (moved_nodes ms)) n ≡ false
    off n within =
        sym (kept_says t.delays t.net t.script (timed_start t) ms n (due_at dues n) (kept n (omega arith))) ∙ ap is_some (first n within)
calm_says t ms dues (Some m) spent count kept first =
    end_same None (m.node ∷ []) (enabled_then t ms) spent (omega arith) (some_enabled t.net t.script (after t.net (timed_start t) (moved_nodes ms)) m.node
    first.within on)
  where
    on : move_enabled t.net t.script (after t.net (timed_start t) (moved_nodes ms)) m.node ≡ true
    on = sym (kept_says t.delays t.net t.script (timed_start t) ms m.node (due_at dues m.node) (kept m.node (omega (arith, first.within))))
        ∙ ap is_some first.due

-- the first of all nodes
whole_first : (t : TimedValue) (ms : List NotedMove) (c : StageValue) (dues : List (Option Due)) (last : Option Hazard) (next : Option Next) →
    IsOnItsWay t ms c dues last → IsFirstOf dues (length dues) next → IsFirstOf dues (length t.net.first) next
whole_first t ms c dues last next is first = subst (λ (k : ℕ). IsFirstOf dues k next) is.count first

next_says : (t : TimedValue) (ms : List NotedMove) (c : StageValue) (dues : List (Option Due)) (last : Option Hazard) (next : Option Next) (spent : Bool) →
    IsOnItsWay t ms c dues last → IsFirstOf dues (length dues) next →
    end_with last (list_of_next next) spent ≡ end_with last (enabled_then t ms) spent
next_says t ms c dues (Some h) next spent is first = refl
next_says t ms c dues None next spent is first =
    calm_says t ms dues next spent is.count (is.kept refl) (whole_first t ms c dues None next is first)

-- how the run so far has ended
end_is : (t : TimedValue) (ms : List NotedMove) (c : StageValue) (dues : List (Option Due)) (last : Option Hazard) (next : Option Next) (spent : Bool) →
    IsOnItsWay t ms c dues last → IsFirstOf dues (length dues) next → (length ms == t.steps) ≡ spent →
    end_with last (list_of_next next) spent ≡ end_after t.net t.script t.steps (timed_start t) (moved_nodes ms)
end_is t ms c dues last next spent is from counted =
    next_says t ms c dues last next spent is from
    ∙ ap (λ (h : Option Hazard). end_with h (enabled_then t ms) spent) is.hazard
    ∙ ap (λ (b : Bool). end_with (last_hazard t.net t.script (timed_start t) (moved_nodes ms)) (enabled_then t ms) b)
    (sym counted ∙ ap (λ (k : ℕ). k == t.steps) (sym (nodes_count ms)))

-- what a move does
pub record IsMove (c later : StageValue) (d : DelayTable) (dues nows : List (Option Due)) (made : ℕ) (m : Next) (brought : Option Hazard) : Type 0 where
  pub net : later.net ≡ c.net
  pub script : later.script ≡ c.script
  pub moves : now_of later ≡ moved c.net (now_of c) m.node
  pub passed : later.passed ≡ c.passed ++ option_to_list (completion c.net (high c.values) m.node)
  pub room : c.room ≤ later.room + 1
  pub nodes : List ℕ
  pub concerned : AreConcerned later m.node nodes
  pub filled : AreFilled later d (record { cause = made + 1; time = m.due.time }) nodes (set dues m.node None) nows
  pub hazard : brought ≡ hazard_of c.net c.script (now_of c) m.node

pub step : (t : TimedValue) (ms : List NotedMove) (c later : StageValue) (dues nows : List (Option Due)) (last brought : Option Hazard) (m : Next) →
    IsNet t.net → IsDelayTable (length t.net.first) t.delays → IsOnItsWay t ms c dues last → length ms < t.steps → last ≡ None →
    IsFirstOf dues (length dues) (Some m) → IsMove c later t.delays dues nows (length ms) m brought →
    IsOnItsWay t (ms ++ record { time = m.due.time; node = m.node; cause = m.due.cause } ∷ []) later nows brought
step t ms c later dues nows last brought m net table is few calm from move = record {
  net = same_net;
  script = same_script;
  now = then;
  passed = move.passed ∙ ap (λ (w : NetValue). c.passed ++ option_to_list (completion w (high c.values) m.node)) is.net
      ∙ ap (λ (r : RunState). c.passed ++ option_to_list (completion t.net (high r.values) m.node)) is.now
      ∙ ap (λ (ps : List (ℕ × ℕ)). ps ++ option_to_list (completion t.net (high (after t.net start (moved_nodes ms)).values) m.node)) is.passed
      ∙ sym (passed_more t.net start (moved_nodes ms) m.node) ∙ ap (passed_in t.net start) (sym more);
  room = omega (arith, is.room, move.room, length_push ms x);
  timed = come_more t.delays t.net t.script start [] ms x is.timed (is_next t.delays t.net t.script start ms dues m net is.count kept here);
  count = move.filled.count ∙ length-set dues m.node None ∙ is.count;
  kept = kept_then;
  hazard = hazard_is ∙ sym (last_more t.net t.script start (moved_nodes ms) m.node) ∙ ap (last_hazard t.net t.script start) (sym more);
  no_end = λ k below. no_end_at k below (cases_lt k (length ms));
}
  where
    start : RunState
    start = timed_start t

    x : NotedMove
    x = record { time = m.due.time; node = m.node; cause = m.due.cause }

    made : Due
    made = record { cause = length ms + 1; time = m.due.time }

    more : moved_nodes (ms ++ x ∷ []) ≡ moved_nodes ms ++ m.node ∷ []
    more = nodes_more ms x

    same_net : later.net ≡ t.net
    same_net = move.net ∙ is.net

    same_script : later.script ≡ t.script
    same_script = move.script ∙ is.script

    kept : AreKeptDues t.delays t.net t.script start ms dues
    kept = is.kept calm

    here : IsFirstDue dues (length t.net.first) m
    here = whole_first t ms c dues last (Some m) is from

    then : now_of later ≡ after t.net start (moved_nodes (ms ++ x ∷ []))
    then = move.moves ∙ ap (λ (w : NetValue). moved w (now_of c) m.node) is.net ∙ ap (λ (r : RunState). moved t.net r m.node) is.now
        ∙ sym (after_more t.net start (moved_nodes ms) m.node) ∙ ap (after t.net start) (sym more)

    own : IsDue t.delays t.net t.script start ms m.node m.due
    own = subst (λ (o : Option Due). IsKeptDue t.delays t.net t.script start ms m.node o) here.due (kept m.node (omega (arith, is.count, here.within)))

    hazard_is : brought ≡ hazard_of t.net t.script (after t.net start (moved_nodes ms)) m.node
    hazard_is = move.hazard ∙ ap (λ (w : NetValue). hazard_of w c.script (now_of c) m.node) is.net
        ∙ ap (λ (e : List OfferValue). hazard_of t.net e (now_of c) m.node) is.script
        ∙ ap (λ (r : RunState). hazard_of t.net t.script r m.node) is.now

    -- an enabled move stays enabled
    stays : brought ≡ None → (n : ℕ) → (n ≡ m.node → ⊥) → move_enabled t.net t.script (after t.net start (moved_nodes ms)) n ≡ true →
        move_enabled t.net t.script (after t.net start (moved_nodes (ms ++ x ∷ []))) n ≡ true
    stays none n apart on =
        ap (λ (ns : List ℕ). move_enabled t.net t.script (after t.net start ns) n) more
        ∙ ap (λ (r : RunState). move_enabled t.net t.script r n) (after_more t.net start (moved_nodes ms) m.node)
        ∙ ((safe_is_calm t.net t.script (after t.net start (moved_nodes ms)) m.node net).1 (sym hazard_is ∙ none)).0.stable n apart on

    same_now : (n : ℕ) → move_enabled later.net later.script (now_of later) n ≡
        move_enabled t.net t.script (after t.net start (moved_nodes (ms ++ x ∷ []))) n
    same_now n = ap (λ (w : NetValue). move_enabled w later.script (now_of later) n) same_net
        ∙ ap (λ (e : List OfferValue). move_enabled t.net e (now_of later) n) same_script
        ∙ ap (λ (r : RunState). move_enabled t.net t.script r n) then

    -- what has a move now and is looked at by no one had one before
    before_too : (n : ℕ) → n < length t.net.first → is_among move.nodes n ≡ false →
        move_enabled t.net t.script (after t.net start (moved_nodes (ms ++ x ∷ []))) n ≡ true →
        move_enabled t.net t.script (after t.net start (moved_nodes ms)) n ≡ true
    before_too n within unnamed on =
        sym (ap (λ (w : NetValue). move_enabled w later.script (now_of c) n) same_net
        ∙ ap (λ (e : List OfferValue). move_enabled t.net e (now_of c) n) same_script
        ∙ ap (λ (r : RunState). move_enabled t.net t.script r n) is.now)
        ∙ move.concerned.others (now_of c) n (move.moves ∙ ap (λ (w : NetValue). moved w (now_of c) m.node) (sym move.net))
        (length-map-range_with_len (λ k. values_through k c.passed) 0 (length c.net.channels) ∙ ap (λ (w : NetValue). length w.channels) (sym move.net))
        (subst (λ (w : NetValue). n < length w.first) (sym same_net) within) unnamed (same_now n ∙ on)

    one_due : brought ≡ None → (n : ℕ) (on seen own_move : Bool) (o : Option Due) (fresh : Due) →
        move_enabled t.net t.script (after t.net start (moved_nodes (ms ++ x ∷ []))) n ≡ on → is_among move.nodes n ≡ seen → (n == m.node) ≡ own_move →
        due_at dues n ≡ o → IsKeptDue t.delays t.net t.script start ms n o → n < length dues →
        filled_due (seen && on) (due_at (set dues m.node None) n) fresh ≡ renewed_due on own_move o fresh
    one_due none n on seen true o fresh is_on is_seen same here kept_here within =
        let at : n ≡ m.node = eqb-true n m.node same in
        let cleared : due_at (set dues m.node None) n ≡ None = subst (λ (k : ℕ). due_at (set dues m.node None) k ≡ None) (sym at)
        (get_or-set_same dues m.node None None (omega arith)) in
        let looked : seen ≡ true = sym is_seen ∙ ap (is_among move.nodes) at ∙ move.concerned.own in
        ap (λ (v : Option Due). filled_due (seen && on) v fresh) cleared ∙ ap (λ (b : Bool). filled_due (b && on) None fresh) looked ∙ own_due on
      where
        own_due : (b : Bool) → filled_due b None fresh ≡ renewed_due b true o fresh
        own_due true = refl
        own_due false = refl
    one_due none n on seen false o fresh is_on is_seen same here kept_here within =
        let apart : n ≡ m.node → ⊥ = eqb-false n m.node same in
        ap (λ (v : Option Due). filled_due (seen && on) v fresh) (get_or-set_other dues m.node n None None apart ∙ here)
        ∙ others on seen o is_on is_seen kept_here
      where
        others : (b a : Bool) (v : Option Due) → move_enabled t.net t.script (after t.net start (moved_nodes (ms ++ x ∷ []))) n ≡ b →
            is_among move.nodes n ≡ a → IsKeptDue t.delays t.net t.script start ms n v → filled_due (a && b) v fresh ≡ renewed_due b false v fresh
        others true true None on_now looked kept_so = refl
        others true true (Some due) on_now looked kept_so = refl
        others true false (Some due) on_now looked kept_so = refl
        others true false None on_now looked kept_so =
            absurd (both_ways _ kept_so (before_too n (omega (arith, is.count)) looked on_now))
        others false true None on_now looked kept_so = refl
        others false false None on_now looked kept_so = refl
        others false a (Some due) on_now looked kept_so =
            absurd (both_ways _ on_now (stays none n (eqb-false n m.node same)
            (is_enabled t.net t.script start (moved_nodes ms) n due.cause kept_so.since)))

    kept_then : brought ≡ None → AreKeptDues t.delays t.net t.script start (ms ++ x ∷ []) nows
    kept_then none n within =
        let before : n < length dues = omega (arith, move.filled.count, length-set dues m.node None) in
        let inside : n < length t.net.first = omega (arith, is.count) in
        let v : ℕ → Bool = high (after t.net start (moved_nodes (ms ++ x ∷ []))).values in
        let fresh : Due = fresh_due t.delays (high later.values) made n in
        let on : Bool = move_enabled t.net t.script (after t.net start (moved_nodes (ms ++ x ∷ []))) n in
        let values : next_delay t.delays (high later.values) n ≡ next_delay t.delays v n =
        ap (λ (r : RunState). next_delay t.delays (high r.values) n) then in
        let one : due_at nows n ≡ renewed_due on (n == m.node) (due_at dues n) fresh =
        move.filled.each n (omega (arith, length-set dues m.node None))
        ∙ ap (λ (b : Bool). filled_due (is_among move.nodes n && b) (due_at (set dues m.node None) n) fresh) (same_now n)
        ∙ one_due none n on (is_among move.nodes n) (n == m.node) (due_at dues n) fresh refl refl refl refl (kept n before) before in
        subst (λ (o : Option Due). IsKeptDue t.delays t.net t.script start (ms ++ x ∷ []) n o) (sym one)
        (kept_more t.delays t.net t.script start ms x fresh n (due_at dues n)
        (made_is t.delays t.net t.script start ms x fresh n refl (ap (λ (k : ℕ). m.due.time + k) values)
        (delay_few (length t.net.first) t.delays v n table inside) own.soon)
        (kept n before))

    goes : end_after t.net t.script t.steps start (moved_nodes ms) ≡ None
    goes = sym (end_is t ms c dues last (Some m) false is from (ne_eqb (length ms) t.steps (omega arith)))
        ∙ ap (λ (h : Option Hazard). end_with h (m.node ∷ []) false) calm

    no_end_at : (k : ℕ) → k < length (ms ++ x ∷ []) → (k < length ms) ⊎ (length ms ≤ k) →
        end_after t.net t.script t.steps start (moved_nodes (take k (ms ++ x ∷ []))) ≡ None
    no_end_at k below (inl less) =
        ap (λ (v : List NotedMove). end_after t.net t.script t.steps start (moved_nodes v)) (take-append-le k ms (x ∷ []) (omega arith)) ∙ is.no_end k less
    no_end_at k below (inr past) =
        ap (λ (v : List NotedMove). end_after t.net t.script t.steps start (moved_nodes v))
        (take-append-le k ms (x ∷ []) (omega (arith, length_push ms x)) ∙ take_all k ms past) ∙ goes

-- its end

take_nodes : (k : ℕ) (ms : List NotedMove) → take k (moved_nodes ms) ≡ moved_nodes (take k ms)
take_nodes zero ms = refl
take_nodes (suc k) [] = refl
take_nodes (suc k) (m ∷ ms) = ap (λ (ns : List ℕ). m.node ∷ ns) (take_nodes k ms)

pub within_end : (t : TimedValue) (ms : List NotedMove) (c : StageValue) (dues : List (Option Due)) (last : Option Hazard) (next : Option Next) (spent : Bool)
    (end : End) → IsOnItsWay t ms c dues last → IsFirstOf dues (length dues) next → end_with last (list_of_next next) spent ≡ Some end →
    IsEndIn c.net end
within_end t ms c dues last next spent end is first ended =
    subst (λ (w : NetValue). IsEndIn w end) (sym is.net)
    (end_within t.net t.script (timed_start t) (moved_nodes ms) (enabled_then t ms) spent last end is.hazard
    (sym (next_says t ms c dues last next spent is first) ∙ ended))

pub finish : (t : TimedValue) (ms : List NotedMove) (c : StageValue) (dues : List (Option Due)) (last : Option Hazard) (next : Option Next) (spent : Bool)
    (end : End) (count time : ℕ) → IsOnItsWay t ms c dues last → IsFirstOf dues (length dues) next → (length ms == t.steps) ≡ spent →
    end_with last (list_of_next next) spent ≡ Some end → count ≡ length ms → time ≡ time_behind ms (length ms) →
    IsTimedRan t ms (record { net = c.net; end = end; moves = count; done_high = high c.values 1; passed = c.passed }) time
finish t ms c dues last next spent end count time is first counted ended whole timed = record {
  run = come_run t.delays t.net t.script (timed_start t) [] ms is.timed;
  timed = is.timed;
  ends = record {
    ended = sym (end_is t ms c dues last next spent is first counted) ∙ ended;
    not_before = λ k below. ap (end_after t.net t.script t.steps (timed_start t)) (take_nodes k ms) ∙ is.no_end k (omega (arith, nodes_count ms));
  };
  net = is.net;
  moves = whole;
  done = ap (λ (r : RunState). high r.values 1) is.now;
  passed = is.passed;
  time = timed;
}

-- a run that is made ready
pub ready : (c : StageValue) (net : NetValue) (script : List OfferValue) (state : List Bool) (d : DelayTable) (start : Bool)
    (was dues : List (Option Due)) (ms : List NotedMove) (slots steps nodes : ℕ) → c ≡ stage_with net script state [] steps → state ≡ power_of net start →
    IsDelayTable (length net.first) d → nodes ≡ length net.first → was ≡ replicate nodes None →
    AreFilled c d (record { cause = 0; time = 0 }) (moves_now c) was dues → ms ≡ [] → steps ≤ slots → steps ≤ 1000000 →
    IsTimedReady c d dues ms slots steps start
ready c net script state d start was dues ms slots steps nodes made powered table count none filled empty wide few =
    record {
      values = ap (λ (v : StageValue). v.values) made ∙ powered ∙ ap (λ (w : NetValue). power_of w start) (sym one_net);
      passed = ap (λ (v : StageValue). v.passed) made;
      room = omega (arith, ap (λ (v : StageValue). v.room) made);
      none_made = empty;
      slots_are = wide;
      steps_few = few;
      delays = its_table;
      count = filled.count ∙ whole;
      kept = kept_at_start c d was dues its_table whole each_none filled;
    }
  where
    one_net : c.net ≡ net
    one_net = ap (λ (v : StageValue). v.net) made

    its_table : IsDelayTable (length c.net.first) d
    its_table = subst (λ (w : NetValue). IsDelayTable (length w.first) d) (sym one_net) table

    whole : length was ≡ length c.net.first
    whole = ap length none ∙ length-replicate {A = Option Due} nodes None ∙ count ∙ ap (λ (w : NetValue). length w.first) (sym one_net)

    each_none : (n : ℕ) → n < length was → due_at was n ≡ None
    each_none n within =
        ap (λ (ds : List (Option Due)). due_at ds n) none
        ∙ get_or-replicate nodes n None None (omega (arith, ap length none, length-replicate {A = Option Due} nodes None))

-- and is enabled
pub next_enabled : (t : TimedValue) (ms : List NotedMove) (c : StageValue) (dues : List (Option Due)) (last : Option Hazard) (m : Next) →
    IsOnItsWay t ms c dues last → last ≡ None → IsFirstOf dues (length dues) (Some m) → move_enabled c.net c.script (now_of c) m.node ≡ true
next_enabled t ms c dues last m is calm first =
    let own : IsDue t.delays t.net t.script (timed_start t) ms m.node m.due =
    subst (λ (o : Option Due). IsKeptDue t.delays t.net t.script (timed_start t) ms m.node o) first.due (is.kept calm m.node first.within) in
    ap (λ (w : NetValue). move_enabled w c.script (now_of c) m.node) is.net
    ∙ ap (λ (e : List OfferValue). move_enabled t.net e (now_of c) m.node) is.script
    ∙ ap (λ (r : RunState). move_enabled t.net t.script r m.node) is.now
    ∙ is_enabled t.net t.script (timed_start t) (moved_nodes ms) m.node m.due.cause own.since

pub due_soon : (t : TimedValue) (ms : List NotedMove) (c : StageValue) (dues : List (Option Due)) (last : Option Hazard) (m : Next) →
    IsOnItsWay t ms c dues last → last ≡ None → IsFirstOf dues (length dues) (Some m) → m.due.time ≤ (length ms + 1) * 1000000
due_soon t ms c dues last m is calm first =
    let own : IsDue t.delays t.net t.script (timed_start t) ms m.node m.due =
    subst (λ (o : Option Due). IsKeptDue t.delays t.net t.script (timed_start t) ms m.node o) first.due
    (is.kept calm m.node first.within) in
    own.soon

-- each enabled move's node is one of the net's
pub moves_within : (c : StageValue) (xs : List ℕ) (count : ℕ) → xs ≡ moves_now c → count ≡ length c.net.first → All (λ n. n < count) xs
moves_within c xs count same whole =
    subst (λ (ys : List ℕ). All (λ n. n < count) ys) (sym same)
    (subst (λ (k : ℕ). All (λ n. n < k) (moves_now c)) (sym whole) (enabled_below c.net c.script (now_of c)))
