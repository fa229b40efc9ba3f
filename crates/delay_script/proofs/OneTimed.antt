-- A timed run is one: each of its moves is told by those before it, and where it ends too.
use Rattle.std.proofs.Common.{◌≡◌, ℕ, zero, suc, ◌<◌, ◌≤◌, Bool, List, [], ◌∷◌, ◌++◌, length, take, refl, sym, ap, subst, ◌∙◌, inl, inr, arith}
use Rattle.std.specs.Prelude.{◌⊎◌, None, Some}
use Rattle.std.proofs.lemmas.Bool.{cases_order}
use Rattle.std.proofs.lemmas.List.{take_all}
use Rattle.prs_core.specs.Nets.{NetValue}
use Rattle.env_script.specs.Scripts.{OfferValue}
use Rattle.env_script.specs.Runs.{RunState}
use Rattle.event_sim.specs.declared.ran.End.{End}
use Rattle.event_sim.specs.Ends.{end_after}
use Rattle.event_sim.specs.Simulating.{RanValue}
use Rattle.delay_script.specs.declared.noted.NotedMove.{NotedMove}
use Rattle.delay_script.specs.DelayTables.{DelayTable}
use Rattle.delay_script.specs.Causes.{IsEnabledSince}
use Rattle.delay_script.specs.TimedRuns.{moved_nodes, time_behind, ComesNoLater, IsNextMove, ComeNext, TimedValue, timed_start, IsTimedRan}
use Rattle.delay_script.proofs.Sinces.{one_cause}
use Rattle.delay_script.proofs.Coming.{nodes_count}

record IsAtOnce (t n u m : ℕ) : Type 0 where
  times : t ≡ u
  nodes : n ≡ m

at_once : (t n u m : ℕ) → ComesNoLater t n u m → ComesNoLater u m t n → IsAtOnce t n u m
at_once t n u m (inl one) (inl two) = absurd (omega arith)
at_once t n u m (inl one) (inr two) = absurd (omega (arith, two.0))
at_once t n u m (inr one) (inl two) = absurd (omega (arith, one.0))
at_once t n u m (inr one) (inr two) = record { times = one.0; nodes = omega (arith, one.1, two.1) }

move_same : (t n c u m k : ℕ) → t ≡ u → n ≡ m → c ≡ k →
    ◌≡◌ {A = NotedMove} (record { time = t; node = n; cause = c }) (record { time = u; node = m; cause = k })
move_same t n c u m k one two three = cc

next_once : (d : DelayTable) (net : NetValue) (script : List OfferValue) (st : RunState) (ms : List NotedMove) (x y : NotedMove) →
    IsNextMove d net script st ms x → IsNextMove d net script st ms y → x ≡ y
next_once d net script st ms x y one two =
    let there : ComesNoLater x.time x.node y.time y.node =
    subst (λ (t : ℕ). ComesNoLater x.time x.node t y.node) (sym two.time) (one.first y.node y.cause two.cause) in
    let back : ComesNoLater y.time y.node x.time x.node =
    subst (λ (t : ℕ). ComesNoLater y.time y.node t x.node) (sym one.time) (two.first x.node x.cause one.cause) in
    let both = at_once x.time x.node y.time y.node there back in
    move_same x.time x.node x.cause y.time y.node y.cause both.times both.nodes
    (one_cause net script st (moved_nodes ms) y.node x.cause y.cause
    (subst (λ (n : ℕ). IsEnabledSince net script st (moved_nodes ms) n x.cause) both.nodes one.cause) two.cause)

-- of two timed runs the shorter one is a front of the other
fronts : (d : DelayTable) (net : NetValue) (script : List OfferValue) (st : RunState) (before ms ns : List NotedMove) → ComeNext d net script st before ms →
    ComeNext d net script st before ns → length ms ≤ length ns → ms ≡ take (length ms) ns
fronts d net script st before [] ns one two few = refl
fronts d net script st before (m ∷ ms) [] one two few = absurd (omega arith)
fronts d net script st before (m ∷ ms) (n ∷ ns) one two few =
    let head : m ≡ n = next_once d net script st before m n one.0 two.0 in
    let rest : ComeNext d net script st (before ++ m ∷ []) ns =
    subst (λ (x : NotedMove). ComeNext d net script st (before ++ x ∷ []) ns) (sym head) two.1 in
    let tail : ms ≡ take (length ms) ns = fronts d net script st (before ++ m ∷ []) ms ns one.1 rest (omega arith) in
    ap (λ (xs : List NotedMove). m ∷ xs) tail ∙ ap (λ (x : NotedMove). x ∷ take (length ms) ns) head

take_nodes : (k : ℕ) (ms : List NotedMove) → take k (moved_nodes ms) ≡ moved_nodes (take k ms)
take_nodes zero ms = refl
take_nodes (suc k) [] = refl
take_nodes (suc k) (m ∷ ms) = ap (λ (ns : List ℕ). m.node ∷ ns) (take_nodes k ms)

not_shorter : (t : TimedValue) (ms ns : List NotedMove) (r q : RanValue) (u v : ℕ) → IsTimedRan t ms r u → IsTimedRan t ns q v → length ms < length ns → ⊥
not_shorter t ms ns r q u v one two less =
    let same : ms ≡ take (length ms) ns = fronts t.delays t.net t.script (timed_start t) [] ms ns one.timed two.timed (omega arith) in
    let none : end_after t.net t.script t.steps (timed_start t) (take (length ms) (moved_nodes ns)) ≡ None =
    two.ends.not_before (length ms) (omega (arith, nodes_count ns)) in
    let here : end_after t.net t.script t.steps (timed_start t) (moved_nodes ms) ≡ None =
    ap (λ (xs : List NotedMove). end_after t.net t.script t.steps (timed_start t) (moved_nodes xs)) same
    ∙ ap (end_after t.net t.script t.steps (timed_start t)) (sym (take_nodes (length ms) ns)) ∙ none in
    absurd (cc (here, one.ends.ended))

pub moves_once : (t : TimedValue) (ms ns : List NotedMove) (r q : RanValue) (u v : ℕ) → IsTimedRan t ms r u → IsTimedRan t ns q v → ms ≡ ns
moves_once t ms ns r q u v one two = by_order (cases_order (length ms) (length ns))
  where
    by_order : (length ms ≡ length ns) ⊎ ((length ms < length ns) ⊎ (length ns < length ms)) → ms ≡ ns
    by_order (inl same) = fronts t.delays t.net t.script (timed_start t) [] ms ns one.timed two.timed (omega arith) ∙ take_all (length ms) ns (omega arith)
    by_order (inr (inl less)) = absurd (not_shorter t ms ns r q u v one two less)
    by_order (inr (inr less)) = absurd (not_shorter t ns ms q r v u two one less)

ran_same : (net other : NetValue) (end last : End) (moves more : ℕ) (done high : Bool) (passed through : List (ℕ × ℕ)) → net ≡ other → end ≡ last →
    moves ≡ more → done ≡ high → passed ≡ through →
    ◌≡◌ {A = RanValue} (record { net = net; end = end; moves = moves; done_high = done; passed = passed })
    (record { net = other; end = last; moves = more; done_high = high; passed = through })
ran_same net other end last moves more done high passed through a b c d e = cc

pub ran_once : (t : TimedValue) (ms ns : List NotedMove) (r q : RanValue) (u v : ℕ) → IsTimedRan t ms r u → IsTimedRan t ns q v → r ≡ q
ran_once t ms ns r q u v one two =
    let same : ms ≡ ns = moves_once t ms ns r q u v one two in
    let there : IsTimedRan t ns r u = subst (λ (xs : List NotedMove). IsTimedRan t xs r u) same one in
    let ends : Some r.end ≡ Some q.end = sym there.ends.ended ∙ two.ends.ended in
    let end : r.end ≡ q.end = cc ends in
    ran_same r.net q.net r.end q.end r.moves q.moves r.done_high q.done_high r.passed q.passed (there.net ∙ sym two.net) end (there.moves ∙ sym two.moves)
    (there.done ∙ sym two.done) (there.passed ∙ sym two.passed)

pub time_once : (t : TimedValue) (ms ns : List NotedMove) (r q : RanValue) (u v : ℕ) → IsTimedRan t ms r u → IsTimedRan t ns q v → u ≡ v
time_once t ms ns r q u v one two =
    one.time ∙ ap (λ (xs : List NotedMove). time_behind xs (length xs)) (moves_once t ms ns r q u v one two) ∙ sym two.time
