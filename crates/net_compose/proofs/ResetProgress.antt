-- The runs of a net with a reset node make progress where those of the net without it do.
use Rattle.std.proofs.Common.{◌≡◌, ◌⊎◌, ℕ, suc, ◌+◌, ◌≤◌, Bool, true, false, None, List, [], ◌∷◌, length, refl, sym, ap, ◌∙◌, subst, inl, inr, arith}
use Rattle.std.proofs.lemmas.List.{length-append}
use Rattle.prs_core.specs.Nets.{NetValue, IsNet}
use Rattle.reset_net.specs.Resets.{reset_of}
use Rattle.reset_net.proofs.Whole.{reset_is_net}
use Rattle.env_script.specs.Scripts.{OfferValue, IsScript}
use Rattle.env_script.specs.Runs.{RunState, history_at, begin_at, after, IsRun, IsAtRest, IsPowered, move_enabled, moves_since_reset}
use Rattle.env_script.proofs.MovesWithin.{move_in}
use Rattle.reset_runs.specs.Power.{with_low, IsBefore, AfterReset, EachFromPower}
use Rattle.reset_runs.proofs.Driving.{with_default}
use Rattle.width_check.specs.Processes.{TypedProgram}
use Rattle.handshake_expand.specs.Layout.{done_node}
use Rattle.chp_meaning.specs.Steps.{Configuration, Leads, no_step, start_of}
use Rattle.net_compose.proofs.OnceEach.{run_length}
use Rattle.net_compose.proofs.ResetCarried.{no_history}
use Rattle.net_compose.proofs.RunsOn.{goes_on}
use Rattle.net_compose.specs.Progress.{RestsAfter, KeepsPace, WhereItRests, IsLevel, ProgressesFrom, ResetProgresses, counted_moves}

level_low : (st : RunState) (c : Configuration) → IsLevel st c → IsLevel (with_low st) c
level_low st c is =
    let e = with_default st.values false done_node in
    record { whole = is.whole; answer = (λ h. is.answer.0 (sym e ∙ h), λ over. e ∙ is.answer.1 over) }

module _ (net : NetValue) (p : TypedProgram) (most : ℕ → ℕ) (from_first : ProgressesFrom net p most net.first) (plain : net.reset ≡ None)
    (whole : IsNet (reset_of net)) (each : EachFromPower net) (values : List Bool) (powered : IsPowered (reset_of net) values) where
  without : (since : List ℕ) (n : ℕ) → counted_moves net.reset since ≤ n → length since ≤ n
  without since n few = subst (λ o. counted_moves o since ≤ n) plain few

  pace : KeepsPace (reset_of net) p most values
  pace script fits moves run = by (each script values powered moves run).course
    where
      by : IsBefore net script (begin_at (reset_of net) values) moves ⊎ AfterReset net script (begin_at (reset_of net) values) moves
          → (m : ℕ) × (c : Configuration) × Leads (start_of p script) m c
          × ((k : ℕ) → history_at (after (reset_of net) (begin_at (reset_of net) values) moves).histories k ≡ history_at c.histories k)
          × (moves_since_reset (reset_of net).reset moves ≤ most m)
      by (inl r) =
          let e = r.counted in (
            0,
            start_of p script,
            no_step,
            (λ k. ap (λ hs. history_at hs k) r.nothing ∙ (no_history (length net.channels) k ∙ sym (no_history (length p.channels) k))),
            omega (arith, e),
          )
      by (inr r) =
          let e = r.counted in
          let q = from_first.pace script fits r.since r.run in
          let few = without r.since (most q.0) q.4 in
          (q.0, q.1, q.2, (λ k. ap (λ st. history_at st.histories k) r.ends ∙ q.3 k), omega (arith, e, few))

  bounded : WhereItRests (reset_of net) p values (λ m c script moves. moves_since_reset (reset_of net).reset moves ≤ most m)
  bounded script fits m c over moves run = by (each script values powered moves run).course
    where
      by : IsBefore net script (begin_at (reset_of net) values) moves ⊎ AfterReset net script (begin_at (reset_of net) values) moves
          → moves_since_reset (reset_of net).reset moves ≤ most m
      by (inl r) = let e = r.counted in omega (arith, e)
      by (inr r) =
          let e = r.counted in
          let few = without r.since (most m) (from_first.bounded script fits m c over r.since r.run) in
          omega (arith, e, few)

  long : length (reset_of net).first ≡ suc (length net.first)
  long = length-append net.first (true ∷ []) ∙ omega arith

  -- until reset falls each node moves once at most, so that all moves are bounded
  all_bounded : (script : List OfferValue) → IsScript p.channels script → (m : ℕ) (c : Configuration) → RestsAfter p script m c → (moves : List ℕ)
      → IsRun (reset_of net) script (begin_at (reset_of net) values) moves → length moves ≤ suc (length net.first) + most m
  all_bounded script fits m c over moves run =
      let whole_run = run_length (reset_of net) script (length net.first) long whole (begin_at (reset_of net) values) moves run
      (each script values powered moves run).once in
      let few = bounded script fits m c over moves run in
      omega (arith, whole_run, few)

  past : (script : List OfferValue) (st : RunState) (n : ℕ) → length (reset_of net).first ≤ n → move_enabled (reset_of net) script st n ≡ false
  past script st n far = by (move_enabled (reset_of net) script st n) refl
    where
      by : (b : Bool) → move_enabled (reset_of net) script st n ≡ b → b ≡ false
      by false e = refl
      by true e = let within = move_in (reset_of net) script st n whole e in absurd (omega (arith, within, far))

  level : WhereItRests (reset_of net) p values (λ m c script moves. IsAtRest (reset_of net) script
      (after (reset_of net) (begin_at (reset_of net) values) moves) →
      IsLevel (after (reset_of net) (begin_at (reset_of net) values) moves) c)
  level script fits m c over moves run still = by (each script values powered moves run).course
    where
      by : IsBefore net script (begin_at (reset_of net) values) moves ⊎ AfterReset net script (begin_at (reset_of net) values) moves
          → IsLevel (after (reset_of net) (begin_at (reset_of net) values) moves) c
      by (inl r) = absurd (r.goes still)
      by (inr r) =
          subst (λ st. IsLevel st c) (sym r.ends) (level_low _ _ (from_first.level script fits m c over r.since r.run (r.rests still)))

  from_power : ProgressesFrom (reset_of net) p most values
  from_power = record {
    pace = pace;
    bounded = bounded;
    rests = λ script fits m c over moves run.
        goes_on (reset_of net) script (length (reset_of net).first) (past script) (suc (length net.first) + most m) (suc (length net.first) + most m)
        (begin_at (reset_of net) values) (all_bounded script fits m c over) moves run (omega arith);
    level = level;
  }

pub reset_progresses : ((net : NetValue) → IsNet net → net.reset ≡ None → EachFromPower net) → (net : NetValue) (p : TypedProgram) (most : ℕ → ℕ)
    → ResetProgresses net p most
reset_progresses each net p most from_first is plain free values powered =
    from_power net p most from_first plain (reset_is_net net is plain free) (each net is plain) values powered
