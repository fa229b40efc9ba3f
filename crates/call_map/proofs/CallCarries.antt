-- The net with shared bodies carries the program with copies, if the copies keep their handshakes in the net of that.
--
-- C: the program with calls; P: that with copies; is: what is asked of C; st: a state of the net of P; c, j: calls; y: a node
-- of a copy.
use Rattle.std.proofs.Common.{◌≡◌, ℕ, ◌+◌, ◌<◌, List, Bool, true, false, Some, length, get_or, sym, ap, ◌∙◌, arith}
use Rattle.std.specs.Prelude.{◌||◌}
use Rattle.prs_core.specs.Moves.{high}
use Rattle.env_script.specs.Scripts.{OfferValue, IsScript}
use Rattle.env_script.specs.Runs.{RunState, move_enabled, IsRun, after, begin_at}
use Rattle.width_check.specs.Processes.{TypedProgram}
use Rattle.width_check.specs.Sharing.{MeetsSharing}
use Rattle.handshake_expand.specs.Layout.{size_of}
use Rattle.handshake_expand.specs.Answers.{answer_of}
use Rattle.handshake_expand.specs.Named.{node_names}
use Rattle.chp_meaning.specs.Terms.{Place}
use Rattle.chp_meaning.specs.Steps.{Configuration, Step}
use Rattle.chp_meaning.specs.Rounds.{step_at}
use Rattle.chp_meaning.specs.Laws.{RoundsHold}
use Rattle.chp_meaning.specs.Halves.{ReadsNoTarget}
use Rattle.net_compose.specs.Translation.{translation, composed, first_values, wires_from}
use Rattle.net_compose.specs.Carries.{Carries}
use Rattle.call_map.specs.Shared.{asked, copied, CopiesKeep}
use Rattle.call_map.specs.CallNet.{CallProgram, inlined_program, body_at, call_firsts, call_composed, call_net}
use Rattle.call_map.proofs.Carried.{shared_carries}
use Rattle.call_map.proofs.CallNet.{points}
use Rattle.call_map.proofs.Picks.{answer_range}
use Rattle.call_map.proofs.Merged.{nowhere}
use Rattle.call_map.proofs.CallPlaces.{point}
use Rattle.call_map.proofs.CallOrder.{CallFacts}
use Rattle.call_map.proofs.CallStands.{node_asked, node_copied, sharing}
use Rattle.call_map.proofs.CallShared.{answer_shift, is_shared}
use Rattle.call_map.proofs.CallFirsts.{firsts_fit}

-- What copies keep, by their numbers in the net of the program with copies: for each call the request, the nodes from the
-- first of the copy on, and the answer.
pub record PointsKeep (C : CallProgram) (script : List OfferValue) (st : RunState) : Type 0 where
  pub turn : (c : ℕ) → c < length (points C) → move_enabled (translation (inlined_program C)) script st (get_or (points C) c nowhere).request_there ≡ true
      → high st.values (get_or (points C) c nowhere).request_there
      ≡ high st.values (answer_of (inlined_program C) (body_at C (get_or (points C) c nowhere).proc) (get_or (points C) c nowhere).copy)
  pub quiet : (c y : ℕ) → c < length (points C) → y < size_of (inlined_program C) (body_at C (get_or (points C) c nowhere).proc)
      → high st.values (get_or (points C) c nowhere).request_there
      ≡ high st.values (answer_of (inlined_program C) (body_at C (get_or (points C) c nowhere).proc) (get_or (points C) c nowhere).copy)
      → move_enabled (translation (inlined_program C)) script st ((get_or (points C) c nowhere).copy + y) ≡ false
  pub clear : (c y : ℕ) → c < length (points C) → y < size_of (inlined_program C) (body_at C (get_or (points C) c nowhere).proc)
      → high st.values (get_or (points C) c nowhere).request_there ≡ false
      → high st.values (answer_of (inlined_program C) (body_at C (get_or (points C) c nowhere).proc) (get_or (points C) c nowhere).copy) ≡ false
      → high st.values ((get_or (points C) c nowhere).copy + y) ≡ false
  pub alone : (c j : ℕ) → c < length (points C) → j < length (points C) → (get_or (points C) c nowhere).proc ≡ (get_or (points C) j nowhere).proc
      → (high st.values (get_or (points C) c nowhere).request_there
      || high st.values (answer_of (inlined_program C) (body_at C (get_or (points C) c nowhere).proc) (get_or (points C) c nowhere).copy)) ≡ true
      → (high st.values (get_or (points C) j nowhere).request_there
      || high st.values (answer_of (inlined_program C) (body_at C (get_or (points C) j nowhere).proc) (get_or (points C) j nowhere).copy)) ≡ true
      → c ≡ j

module _ (C : CallProgram) (is : CallFacts C) (script : List OfferValue) (st : RunState) where
  abbrev P : TypedProgram
  P = inlined_program C

  abbrev value : ℕ → Bool
  value n = high st.values n

  abbrev asked_node : ℕ → ℕ
  asked_node c = (sharing C is).there (asked c)

  abbrev copied_node : ℕ → ℕ → ℕ
  copied_node c y = (sharing C is).there (copied c y)

  abbrev end_of : ℕ → ℕ
  end_of c = answer_of P (body_at C (point C is c).proc) 0

  answer_node : (c : ℕ) → c < length (points C) → copied_node c (end_of c) ≡ answer_of P (body_at C (point C is c).proc) (point C is c).copy
  answer_node c l =
      let q = (point C is c).proc in
      let lq = is.within c l in
      node_copied C is c (end_of c) l (let z = (answer_range P (body_at C q) (is.bodies q lq) 0).1 in omega (arith, z))
      ∙ sym (answer_shift P (body_at C q) (is.bodies q lq) (point C is c).copy)

  pub points_keep : PointsKeep C script st → CopiesKeep (translation P) (sharing C is) script st
  points_keep k = record {
    turn = λ c l on.
        ap value (node_asked C is c l)
        ∙ (k.turn c l (ap (move_enabled (translation P) script st) (sym (node_asked C is c l)) ∙ on) ∙ ap value (sym (answer_node c l)));
    quiet = λ c y l h e.
        ap (move_enabled (translation P) script st) (node_copied C is c y l h)
        ∙ k.quiet c y l h (ap value (sym (node_asked C is c l)) ∙ (e ∙ ap value (answer_node c l)));
    clear = λ c y l h e f.
        ap value (node_copied C is c y l h) ∙ k.clear c y l h (ap value (sym (node_asked C is c l)) ∙ e) (ap value (sym (answer_node c l)) ∙ f);
    alone = λ c j l m e f g. k.alone c j l m e (busy c l f) (busy j m g);
  }
    where
      busy : (c : ℕ) → c < length (points C) → (value (asked_node c) || value (copied_node c (end_of c))) ≡ true
          → (value (point C is c).request_there || value (answer_of P (body_at C (point C is c).proc) (point C is c).copy)) ≡ true
      busy c l e =
          ap (λ n. value n || value (answer_of P (body_at C (point C is c).proc) (point C is c).copy)) (sym (node_asked C is c l))
          ∙ (ap (λ n. value (asked_node c) || value n) (sym (answer_node c l)) ∙ e)

module _ (steps_taken : (c d : Configuration) (at : Place) → step_at c at ≡ Some d → Step c at d)
    (hold : (P : TypedProgram) (script : List OfferValue) → MeetsSharing P.body → RoundsHold P script)
    (C : CallProgram) (is : CallFacts C) (unread : (q : ℕ) → q < length C.procs → ReadsNoTarget (body_at C q)) where
  abbrev whole : TypedProgram
  whole = inlined_program C

  pub call_net_carries : (names : List (List ℕ)) → MeetsSharing whole.body
      → ((script : List OfferValue) → IsScript C.channels script → (ns : List ℕ)
      → IsRun (translation whole) script (begin_at (translation whole) (translation whole).first) ns
      → PointsKeep C script (after (translation whole) (begin_at (translation whole) (translation whole).first) ns))
      → Carries (translation whole) whole → Carries (call_net C names) whole
  call_net_carries names meets keep carries =
      shared_carries steps_taken hold names (node_names whole) (call_firsts C) (first_values whole) (call_composed C) (composed whole)
      (wires_from whole 0 C.channels)
      (sharing C is) (is_shared C is names (call_firsts C) (firsts_fit C is unread)) (omega arith) whole meets
      (λ script fits ns run. points_keep C is script (after (translation whole) (begin_at (translation whole) (translation whole).first) ns)
      (keep script fits ns run)) carries
