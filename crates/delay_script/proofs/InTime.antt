-- A timed run ends by its number of moves times the longest delay.
use Rattle.std.proofs.Common.{◌≡◌, ℕ, zero, suc, ◌+◌, ◌*◌, ◌<◌, ◌≤◌, Bool, true, false, List, [], ◌∷◌, ◌++◌, length, sym, ap, subst, ◌∙◌, append_assoc, inl, inr, arith}
use Rattle.std.specs.Prelude.{◌⊎◌, All, if◌then◌else◌, slice_index}
use Rattle.std.proofs.lemmas.Bool.{cases_lt}
use Rattle.std.proofs.lemmas.List.{get_or_past, length-append, length-map, append-nil}
use Rattle.std.proofs.lemmas.List.Elements.{All-get_or}
use Rattle.prs_core.specs.Nets.{NetValue}
use Rattle.prs_core.specs.Moves.{high}
use Rattle.env_script.specs.Scripts.{OfferValue}
use Rattle.env_script.specs.Runs.{RunState, after}
use Rattle.event_sim.specs.Simulating.{RanValue}
use Rattle.delay_script.specs.declared.noted.NotedMove.{NotedMove}
use Rattle.delay_script.specs.DelayTables.{DelayTable, TakesAtMost, rise_delay, fall_delay, next_delay}
use Rattle.delay_script.specs.TimedRuns.{moved_nodes, time_behind, IsNextMove, ComeNext, TimedValue, timed_start, IsTimedRan}
use Rattle.delay_script.proofs.Coming.{time_front, time_last}

delay_within : (most : ℕ) (delays : List ℕ) (n : ℕ) → All (λ delay. delay ≤ most) delays → slice_index delays n ≤ most
delay_within most delays n all = by (cases_lt n (length delays))
  where
    by : (n < length delays) ⊎ (length delays ≤ n) → slice_index delays n ≤ most
    by (inl within) = All-get_or (λ delay. delay ≤ most) delays n 0 within all
    by (inr past) = let none : slice_index delays n ≡ 0 = get_or_past delays n 0 past in omega (arith, none)

pub next_within : (most : ℕ) (d : DelayTable) → TakesAtMost most d → (v : ℕ → Bool) (n : ℕ) → next_delay d v n ≤ most
next_within most d few v n = by (v n)
  where
    by : (b : Bool) → (if b then fall_delay d n else rise_delay d n) ≤ most
    by true = delay_within most d.down n few.falls
    by false = delay_within most d.up n few.rises

scaled : (most j k : ℕ) → j ≤ k → most * j ≤ most * k
scaled most j k less = grind arith

module _ (most : ℕ) (d : DelayTable) (few : TakesAtMost most d) (net : NetValue) (script : List OfferValue) (st : RunState) where
  abbrev InTime : List NotedMove → Type 0
  InTime ms = (number : ℕ) → number ≤ length ms → time_behind ms number ≤ most * number

  one_more : (ms : List NotedMove) (m : NotedMove) → InTime ms → IsNextMove d net script st ms m → InTime (ms ++ m ∷ [])
  one_more ms m before next number within = by (cases_lt number (length ms + 1))
    where
      by : (number < length ms + 1) ⊎ (length ms + 1 ≤ number) → time_behind (ms ++ m ∷ []) number ≤ most * number
      by (inl less) =
          let same = time_front ms m number (omega (arith, less)) in
          let early = before number (omega (arith, less)) in
          omega (arith, same, early)
      by (inr past) =
          let count = length-append ms (m ∷ []) in
          let last : number ≡ length ms + 1 = omega (arith, within, past, count) in
          let same : time_behind (ms ++ m ∷ []) number ≡ m.time = ap (time_behind (ms ++ m ∷ [])) last ∙ time_last ms m in
          let nodes = length-map ms (λ (x : NotedMove). x.node) in
          let cause_within = next.cause.within in
          let early = before m.cause (omega (arith, cause_within, nodes)) in
          let delay = next_within most d few (high (after net st (moved_nodes ms)).values) m.node in
          let time = next.time in
          let grows : most * (m.cause + 1) ≤ most * number = scaled most (m.cause + 1) number (omega (arith, cause_within, nodes, last)) in
          omega (arith, same, time, early, delay, grows)

  in_time : (before ms : List NotedMove) → InTime before → ComeNext d net script st before ms → InTime (before ++ ms)
  in_time before [] early next = subst InTime (sym (append-nil before)) early
  in_time before (m ∷ ms) early next = subst InTime (append_assoc before (m ∷ []) ms) (in_time (before ++ m ∷ []) ms (one_more before m early next.0) next.1)

pub ends_in_time : (most : ℕ) (t : TimedValue) (ms : List NotedMove) (r : RanValue) (end_time : ℕ) → TakesAtMost most t.delays → IsTimedRan t ms r end_time
    → end_time ≤ most * length ms
ends_in_time most t ms r end_time few ran =
    let time = ran.time in
    let last = in_time most t.delays few t.net t.script (timed_start t) [] ms at_start ran.timed (length ms) (omega arith) in
    omega (arith, time, last)
  where
    at_start : (number : ℕ) → number ≤ 0 → time_behind [] number ≤ most * number
    at_start zero within = omega arith
    at_start (suc number) within = absurd (omega (arith, within))
