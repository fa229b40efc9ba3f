-- The net with shared bodies makes progress with the program where the net with copies does, with at most twice as many
-- moves.
--
-- A: the net with shared bodies; B: the net with copies; S: how they are numbered; P: the program; most: how many moves of B
-- there are at most for so many steps; k: a number of steps; c: the configuration after them; ns: a run of A.
use Rattle.std.proofs.Common.{ℕ, ◌*◌, ◌<◌, ◌≤◌, Bool, List, length, None, sym, ap, ◌∙◌, arith}
use Rattle.prs_core.specs.declared.wires.Wires.{Wires}
use Rattle.prs_core.specs.Nets.{RulesValue, NetValue, net_of}
use Rattle.env_script.specs.Scripts.{OfferValue, IsScript}
use Rattle.env_script.specs.Runs.{history_at, begin_at, after, IsRun, IsAtRest}
use Rattle.width_check.specs.Processes.{TypedProgram}
use Rattle.handshake_expand.specs.Layout.{done_node}
use Rattle.handshake_expand.specs.Named.{node_names}
use Rattle.net_compose.specs.Translation.{translation, composed, first_values, wires_from}
use Rattle.net_compose.specs.Points.{TranslationCarries}
use Rattle.net_compose.specs.PartNumbers.{TranslationTakesTurns}
use Rattle.net_compose.specs.Progress.{IsLevel, KeepsPace, WhereItRests, ProgressesFrom, TranslationProgresses, PlainTranslationProgresses}
use Rattle.net_compose.proofs.RunsOn.{goes_on}
use Rattle.call_map.specs.Shared.{Sharing, SharesBodies}
use Rattle.call_map.specs.Carrying.{CopiesKeepAlong, SafeAlong, IsMirrored}
use Rattle.call_map.specs.CallNet.{inlined_program, call_firsts, call_composed}
use Rattle.call_map.specs.CallPace.{SharedBodiesProgress}
use Rattle.call_map.proofs.Along.{mirrored, past_last}
use Rattle.call_map.proofs.CallListed.{call_facts}
use Rattle.call_map.proofs.CallStands.{sharing}
use Rattle.call_map.proofs.CallShared.{is_shared}
use Rattle.call_map.proofs.CallFirsts.{firsts_fit}
use Rattle.call_map.proofs.CallCarries.{points_keep}
use Rattle.call_map.proofs.CallTurns.{length_after, points_kept}
use Rattle.call_map.proofs.CopiesProgress.{copies_progress}

module _ (names more_names : List (List ℕ)) (first more_first : List Bool) (rules more_rules : RulesValue) (ws : List Wires) (S : Sharing) where
  abbrev A : NetValue
  A = net_of names first rules ws None

  abbrev B : NetValue
  B = net_of more_names more_first more_rules ws None

  module _ (is : SharesBodies A B S) (low : done_node < S.low) (P : TypedProgram) (most : ℕ → ℕ)
      (safe : (script : List OfferValue) → IsScript P.channels script → SafeAlong B script)
      (keep : (script : List OfferValue) → IsScript P.channels script → CopiesKeepAlong B S script)
      (progresses : ProgressesFrom B P most more_first) where
    abbrev more_most : ℕ → ℕ
    more_most k = 2 * most k

    along : (script : List OfferValue) → IsScript P.channels script → (ns : List ℕ) → IsRun A script (begin_at A first) ns
        → IsMirrored A B S script ns
    along script fits ns run =
        mirrored names more_names first more_first rules more_rules ws S is script (safe script fits) (keep script fits) ns run

    pace : KeepsPace A P more_most first
    pace script fits ns run =
        let m = along script fits ns run in
        let r = progresses.pace script fits m.moves m.run in
        let few = r.4 in
        let many = m.many in
        (r.0, r.1, r.2, (λ k. ap (λ hs. history_at hs k) m.passed ∙ r.3 k), omega (arith, few, many))

    bounded : WhereItRests A P first (λ k c script ns. length ns ≤ more_most k)
    bounded script fits k c over ns run =
        let m = along script fits ns run in
        let few = progresses.bounded script fits k c over m.moves m.run in
        let many = m.many in
        omega (arith, few, many)

    level : WhereItRests A P first (λ k c script ns. IsAtRest A script (after A (begin_at A first) ns) → IsLevel (after A (begin_at A first) ns) c)
    level script fits k c over ns run still =
        let m = along script fits ns run in
        let z = progresses.level script fits k c over m.moves m.run (m.rest still) in
        let e = m.plain done_node low in
        record {
          whole = λ j. ap (λ hs. history_at hs j) m.passed ∙ z.whole j;
          answer = (λ h. z.answer.0 (sym e ∙ h), λ ended. e ∙ z.answer.1 ended);
        }

    pub shared_progresses : ProgressesFrom A P more_most first
    shared_progresses = record {
      pace = pace;
      bounded = bounded;
      rests = λ script fits k c over ns run.
          goes_on A script S.count
          (past_last names more_names first more_first rules more_rules ws S is script (safe script fits) (keep script fits)) (more_most k) (more_most k)
          (begin_at A first) (bounded script fits k c over) ns run (omega arith);
      level = level;
    }

-- what is assumed here are laws of translations
module _ (carries : TranslationCarries) (turning : TranslationTakesTurns) (ends : TranslationProgresses) (plain_ends : PlainTranslationProgresses) where
  pub all_progress : SharedBodiesProgress
  all_progress C is t most bound names =
      let P = inlined_program C in
      let facts = call_facts C is t in
      let net = translation P in
      let each = carries P t in
      shared_progresses names (node_names P) (call_firsts C) (first_values P) (call_composed C) (composed P) (wires_from P 0 C.channels)
      (sharing C facts) (is_shared C facts names (call_firsts C) (firsts_fit C facts is.unread)) (omega arith) P most
      (λ script fits ns run. (each.runs script fits ns run).safe)
      (λ script fits ns run. points_keep C facts script (after net (begin_at net net.first) ns)
      (points_kept C facts is.unread is.apart script (after net (begin_at net net.first) ns) (length_after net (begin_at net net.first) ns)
      (turning P t script fits ns run)))
      (copies_progress ends plain_ends P t most bound)
