-- The net in which calls share bodies carries the program in which each call is a copy.
use Rattle.std.specs.Prelude.{◌≡◌, List, Some}
use Rattle.env_script.specs.Scripts.{OfferValue}
use Rattle.env_script.specs.Runs.{begin_at, after}
use Rattle.width_check.specs.Processes.{TypedProgram}
use Rattle.width_check.specs.Sharing.{MeetsSharing}
use Rattle.chp_meaning.specs.Terms.{Place}
use Rattle.chp_meaning.specs.Steps.{Configuration, Step}
use Rattle.chp_meaning.specs.Rounds.{step_at}
use Rattle.chp_meaning.specs.Laws.{RoundsHold}
use Rattle.net_compose.specs.Translation.{translation}
use Rattle.net_compose.specs.Points.{TranslationCarries}
use Rattle.net_compose.specs.PartNumbers.{TranslationTakesTurns}
use Rattle.call_map.specs.CallNet.{inlined_program, SharedBodiesCarry}
use Rattle.call_map.proofs.CallListed.{call_facts}
use Rattle.call_map.proofs.CallCarries.{call_net_carries}
use Rattle.call_map.proofs.CallTurns.{length_after, points_kept}

module _ (steps_taken : (c d : Configuration) (at : Place) → step_at c at ≡ Some d → Step c at d)
    (hold : (P : TypedProgram) (script : List OfferValue) → MeetsSharing P.body → RoundsHold P script)
    (carries : TranslationCarries) (turning : TranslationTakesTurns) where
  pub all_shared : SharedBodiesCarry
  all_shared C is t names =
      let P = inlined_program C in
      let facts = call_facts C is t in
      let net = translation P in
      call_net_carries steps_taken hold C facts is.unread names t.sharing
      (λ script fits ns run. points_kept C facts is.unread is.apart script (after net (begin_at net net.first) ns)
      (length_after net (begin_at net net.first) ns)
      (turning P t script fits ns run))
      (carries P t)
