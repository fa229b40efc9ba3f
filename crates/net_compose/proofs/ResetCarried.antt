-- A net that carries a program still does so with a reset node: what its runs are from power-up is told by `reset_runs`.
use Rattle.std.proofs.Common.{◌≡◌, ℕ, ◌<◌, ◌≤◌, Bool, false, None, List, [], ◌++◌, length, refl, sym, ap, ◌∙◌, subst, inl, inr, arith}
use Rattle.std.specs.Prelude.{◌⊎◌, replicate}
use Rattle.std.proofs.lemmas.Bool.{cases_lt}
use Rattle.std.proofs.lemmas.List.{get_or_past, get_or-replicate, length-replicate}
use Rattle.prs_core.specs.Nets.{NetValue, IsNet}
use Rattle.reset_net.specs.Resets.{reset_of}
use Rattle.env_script.specs.Scripts.{OfferValue, IsScript}
use Rattle.env_script.specs.Runs.{RunState, history_at, begin_at, after, moves_since_reset}
use Rattle.reset_runs.specs.Power.{with_low, IsBefore, AfterReset, EachFromPower}
use Rattle.reset_runs.proofs.Driving.{with_default}
use Rattle.width_check.specs.Processes.{TypedProgram}
use Rattle.handshake_expand.specs.Layout.{done_node}
use Rattle.chp_meaning.specs.Steps.{Configuration}
use Rattle.chp_meaning.specs.Rounds.{rounds}
use Rattle.net_compose.specs.Carries.{IsFollowing, IsSettled, IsCarrying, Carries, ResetCarries}

pub no_history : (count k : ℕ) → history_at (replicate count []) k ≡ []
no_history count k = by_place (cases_lt k count)
  where
    by_place : (k < count) ⊎ (count ≤ k) → history_at (replicate count []) k ≡ []
    by_place (inl within) = get_or-replicate count k [] [] within
    by_place (inr past) = get_or_past (replicate count []) k [] (omega (arith, length-replicate {A = List ℕ} count []))

-- where nothing has passed that is a front of everything
nothing_follows : (st : RunState) (c : Configuration) (count : ℕ) → st.histories ≡ replicate count [] → IsFollowing st c
nothing_follows st c count none k =
    let empty : history_at st.histories k ≡ [] = ap (λ (hs : List (List ℕ)). history_at hs k) none ∙ no_history count k in
    (history_at c.histories k, ap (λ (h : List ℕ). h ++ history_at c.histories k) (sym empty))

settled_low : (st : RunState) (c : Configuration) → IsSettled st c → IsSettled (with_low st) c
settled_low st c is =
    let e = with_default st.values false done_node in
    record { whole = is.whole; still = is.still; answer = (λ h. is.answer.0 (sym e ∙ h), λ over. e ∙ is.answer.1 over) }

module _ (net : NetValue) (p : TypedProgram) (carries : Carries net p) (script : List OfferValue) (fits : IsScript p.channels script) (values : List Bool)
    (moves : List ℕ) where
  carrying : IsBefore net script (begin_at (reset_of net) values) moves ⊎ AfterReset net script (begin_at (reset_of net) values) moves
      → IsCarrying (reset_of net) p script values (moves_since_reset (reset_of net).reset moves) moves
  carrying (inl b) = record {
    safe = b.safe;
    prefix = nothing_follows (after (reset_of net) (begin_at (reset_of net) values) moves) (rounds p script (moves_since_reset (reset_of net).reset moves))
        (length net.channels) b.nothing;
    rest = λ rests. absurd (b.goes rests);
  }
  carrying (inr b) =
      let c = carries.runs script fits b.since b.run in
      record {
        safe = b.safe c.safe;
        prefix =
            subst (λ n. IsFollowing (after (reset_of net) (begin_at (reset_of net) values) moves) (rounds p script n)) (sym b.counted)
            (subst (λ st. IsFollowing st (rounds p script (length b.since))) (sym b.ends) c.prefix);
        rest = λ rests.
            subst (λ n. IsSettled (after (reset_of net) (begin_at (reset_of net) values) moves) (rounds p script n)) (sym b.counted)
            (subst (λ st. IsSettled st (rounds p script (length b.since))) (sym b.ends) (settled_low _ _ (c.rest (b.rests rests))));
      }

pub carries_reset : ((net : NetValue) → IsNet net → net.reset ≡ None → EachFromPower net) → (net : NetValue) (p : TypedProgram) → ResetCarries net p
carries_reset each net p carries is plain few free = record {
  channels = carries.channels;
  reset = (length net.first, refl);
  runs = λ script fits values powered moves run.
      let r = each net is plain script values powered moves run in
      (carrying net p carries script fits values moves r.course, r.once);
}
