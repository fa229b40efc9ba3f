-- Where the net with copies has a run of so many layers that has passed what n rounds pass, that with shared bodies has one of twice as
-- many.
--
-- A: the net with shared bodies; B: the net with copies; S: how they are numbered; P: the program; layers: how many layers of B
-- there are; n: a number of rounds.
use Rattle.std.proofs.Common.{ℕ, ◌*◌, Bool, List, [], None, refl, ap, ◌∙◌, subst}
use Rattle.prs_core.specs.declared.wires.Wires.{Wires}
use Rattle.prs_core.specs.Nets.{RulesValue, NetValue, net_of}
use Rattle.env_script.specs.Scripts.{OfferValue, IsScript}
use Rattle.env_script.specs.Runs.{history_at, begin_at, after}
use Rattle.env_script.specs.Sweeps.{Layers}
use Rattle.width_check.specs.Processes.{TypedProgram}
use Rattle.handshake_expand.specs.Named.{node_names}
use Rattle.net_compose.specs.Translation.{translation, composed, first_values, wires_from}
use Rattle.net_compose.specs.Points.{TranslationCarries}
use Rattle.net_compose.specs.PartNumbers.{TranslationTakesTurns}
use Rattle.net_compose.specs.Time.{PassesInLayers}
use Rattle.call_map.specs.Shared.{Sharing, SharesBodies}
use Rattle.call_map.specs.Carrying.{CopiesKeepAlong, SafeAlong}
use Rattle.call_map.specs.CallNet.{inlined_program, call_firsts, call_composed}
use Rattle.call_map.specs.CallPace.{SharedBodiesLayers}
use Rattle.call_map.proofs.MapStates.{Mapping}
use Rattle.call_map.proofs.MapDoubled.{twice_is, doubled, owes_none_first}
use Rattle.call_map.proofs.Along.{mapping}
use Rattle.call_map.proofs.CallListed.{call_facts}
use Rattle.call_map.proofs.CallStands.{sharing}
use Rattle.call_map.proofs.CallShared.{is_shared}
use Rattle.call_map.proofs.CallFirsts.{firsts_fit}
use Rattle.call_map.proofs.CallCarries.{points_keep}
use Rattle.call_map.proofs.CallTurns.{length_after, points_kept}

module _ (names more_names : List (List ℕ)) (first more_first : List Bool) (rules more_rules : RulesValue) (ws : List Wires) (S : Sharing) where
  abbrev A : NetValue
  A = net_of names first rules ws None

  abbrev B : NetValue
  B = net_of more_names more_first more_rules ws None

  module _ (is : SharesBodies A B S) (P : TypedProgram)
      (safe : (script : List OfferValue) → IsScript P.channels script → SafeAlong B script)
      (keep : (script : List OfferValue) → IsScript P.channels script → CopiesKeepAlong B S script) where
    abbrev mapped : (script : List OfferValue) → IsScript P.channels script → Mapping
    mapped script fits = mapping names more_names first more_first rules more_rules ws S is script (safe script fits) (keep script fits)

    pub shared_layers : (script : List OfferValue) → IsScript P.channels script → (n layers : ℕ) → PassesInLayers B P script n layers
        → PassesInLayers A P script n (2 * layers)
    shared_layers script fits n layers r =
        let M = mapped script fits in
        let d = doubled M layers S.one_call (begin_at A first) (begin_at B more_first) (owes_none_first M ([], tt, refl)) r.0 r.1 in (
          d.moves,
          subst (λ k. Layers A script (begin_at A first) k d.moves) (twice_is layers) d.layers,
          λ k. let z = r.2 k in (z.0, ap (λ hs. history_at hs k) d.last.owes_none.tells.histories ∙ z.1),
        )

-- what is assumed here are laws of translations
module _ (carries : TranslationCarries) (turning : TranslationTakesTurns) where
  pub all_layers : SharedBodiesLayers
  all_layers C is t names =
      let P = inlined_program C in
      let facts = call_facts C is t in
      let net = translation P in
      shared_layers names (node_names P) (call_firsts C) (first_values P) (call_composed C) (composed P) (wires_from P 0 C.channels)
      (sharing C facts) (is_shared C facts names (call_firsts C) (firsts_fit C facts is.unread)) P
      (λ script fits ns run. ((carries P t).runs script fits ns run).safe)
      (λ script fits ns run. points_keep C facts script (after net (begin_at net net.first) ns)
      (points_kept C facts is.unread is.apart script (after net (begin_at net net.first) ns) (length_after net (begin_at net net.first) ns)
      (turning P t script fits ns run)))
