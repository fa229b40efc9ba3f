-- A net whose runs are runs of a net that carries a program, of no more moves, carries it too: the program's rounds only add to
-- what has passed, and once the program goes no further they add nothing.
--
-- A: the net with shared bodies; B: the net with copies; S: how they are numbered; P: the program that B carries; c, d, e:
-- configurations of it; n, m: numbers of rounds; ns: a run of A.
use Rattle.std.proofs.Common.{◌≡◌, ℕ, ◌+◌, ◌-◌, ◌<◌, ◌≤◌, List, ◌++◌, length, Some, None, sym, ap, ◌∙◌, subst, arith, append_assoc}
use Rattle.prs_core.specs.Nets.{NetValue, net_of}
use Rattle.env_script.specs.Scripts.{OfferValue}
use Rattle.env_script.specs.Runs.{RunState, history_at, after, begin_at, IsAtRest}
use Rattle.width_check.specs.Processes.{TypedProgram}
use Rattle.width_check.specs.Sharing.{MeetsSharing}
use Rattle.handshake_expand.specs.Layout.{done_node}
use Rattle.chp_meaning.specs.Terms.{Place}
use Rattle.chp_meaning.specs.Steps.{Configuration, Step}
use Rattle.chp_meaning.specs.Rounds.{rounds, step_at}
use Rattle.chp_meaning.specs.Laws.{IsBehind, RoundsHold}
use Rattle.net_compose.specs.Carries.{IsFollowing, IsSettled, IsCarrying}
use Rattle.net_compose.proofs.Passing.{rounds_on, rounds_behind, rounds_stay}
use Rattle.call_map.specs.Shared.{Sharing}
use Rattle.call_map.specs.Carrying.{IsMirrored, SharedCarries}
use Rattle.call_map.proofs.Along.{shared_runs}

module _ (steps_taken : (c d : Configuration) (at : Place) → step_at c at ≡ Some d → Step c at d)
    (hold : (P : TypedProgram) (script : List OfferValue) → MeetsSharing P.body → RoundsHold P script) where
  -- more rounds leave what is over as it is
  rounds_over : (P : TypedProgram) (script : List OfferValue) (n m : ℕ) → n ≤ m → ((at : Place) (d : Configuration) → ¬ Step (rounds P script n) at d)
      → rounds P script m ≡ rounds P script n
  rounds_over P script n m le still =
      let e : n + (m - n) ≡ m = omega (arith, le) in
      ap (rounds P script) (sym e) ∙ (rounds_on (rounds P script 0) n (m - n) ∙ rounds_stay steps_taken (rounds P script n) still (m - n))

  rounds_follow : (P : TypedProgram) (script : List OfferValue) → MeetsSharing P.body → (n m : ℕ) → n ≤ m → IsBehind (rounds P script n) (rounds P script m)
  rounds_follow P script meets n m le =
      let e : n + (m - n) ≡ m = omega (arith, le) in
      subst (λ j. IsBehind (rounds P script n) (rounds P script j)) e (rounds_behind P script (hold P script meets) n (m - n))

  module _ (A B : NetValue) (S : Sharing) (P : TypedProgram) (meets : MeetsSharing P.body) (low : done_node < S.low) (script : List OfferValue) (ns : List ℕ)
      (m : IsMirrored A B S script ns) (c : IsCarrying B P script B.first (length m.moves) m.moves) where
    abbrev here : RunState
    here = after A (begin_at A A.first) ns

    following : IsFollowing here (rounds P script (length ns))
    following k =
        let a = c.prefix k in
        let b = rounds_follow P script meets (length m.moves) (length ns) m.few k in (
          a.0 ++ b.0,
          b.1 ∙ (ap (λ h. h ++ b.0) a.1 ∙ (append_assoc (history_at (after B (begin_at B B.first) m.moves).histories k) a.0 b.0
              ∙ ap (λ hs. history_at hs k ++ (a.0 ++ b.0)) (sym m.passed))),
        )

    settled : IsAtRest A script here → IsSettled here (rounds P script (length ns))
    settled rest =
        let z = c.rest (m.rest rest) in
        let e = m.plain done_node low in
        subst (IsSettled here) (sym (rounds_over P script (length m.moves) (length ns) m.few z.still)) (record {
          whole = λ k. ap (λ hs. history_at hs k) m.passed ∙ z.whole k;
          still = z.still;
          answer = (λ h. z.answer.0 (sym e ∙ h), λ over. e ∙ z.answer.1 over);
        })

    carrying : IsCarrying A P script A.first (length ns) ns
    carrying = record { safe = m.safe; prefix = following; rest = settled }

  pub shared_carries : SharedCarries
  shared_carries names more_names first more_first rules more_rules ws S is low P meets keep carries = record {
    channels = carries.channels;
    runs = λ script fits ns run.
        let m = shared_runs names more_names first more_first rules more_rules ws S is script (λ ms more. (carries.runs script fits ms more).safe)
        (keep script fits) ns run in
        carrying (net_of names first rules ws None) (net_of more_names more_first more_rules ws None) S P meets low script ns m
        (carries.runs script fits m.moves m.run);
  }
