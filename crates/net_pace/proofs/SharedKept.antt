-- The net in which all calls of a procedure share one body keeps time with the program in which each call is a copy, since the net
-- with copies does.
--
-- C: the program with calls; P: that with copies.
use Rattle.std.proofs.Common.{◌≡◌, ℕ, ◌*◌, ◌≤◌, subst, arith}
use Rattle.prs_core.specs.Nets.{IsNet}
use Rattle.width_check.specs.Processes.{TypedProgram}
use Rattle.width_check.specs.Typing.{IsTyped}
use Rattle.handshake_expand.specs.Layout.{nodes_of}
use Rattle.net_compose.specs.Translation.{translation}
use Rattle.net_compose.specs.Points.{IsTranslated, TranslationCarries}
use Rattle.net_compose.specs.Time.{PassesInLayers, KeepsTime}
use Rattle.net_compose.proofs.TimeKept.{keeps_time_by_layers}
use Rattle.call_map.specs.CallNet.{CallProgram, IsCallProgram, inlined_program, call_count, call_names, call_net, SharedBodiesCarry, SharedBodiesHold}
use Rattle.call_map.specs.CallPace.{SharedBodiesLayers}
use Rattle.net_pace.specs.Pace.{IsRoundTime}
use Rattle.net_pace.proofs.SweepLayers.{layers_by_time}

-- what is assumed here are laws
module _ (carries : TranslationCarries) (whole : (p : TypedProgram) → IsTyped p.channels p.vars p.body → nodes_of p ≤ 65536 → IsNet (translation p))
    (keeps : (p : TypedProgram) → IsTranslated p → nodes_of p ≤ 65536 → (sweeps : ℕ) → IsRoundTime p sweeps → KeepsTime (translation p) p sweeps)
    (shared_layers : SharedBodiesLayers) (shared_carry : SharedBodiesCarry) (shared_hold : SharedBodiesHold) where
  pub shared_keep_time : (C : CallProgram) → IsCallProgram C → IsTranslated (inlined_program C) → nodes_of (inlined_program C) ≤ 65536
      → call_count C ≤ 65536 → (sweeps : ℕ) → IsRoundTime (inlined_program C) sweeps
      → KeepsTime (call_net C (call_names C)) (inlined_program C) (2 * sweeps)
  shared_keep_time C is t small few sweeps bound =
      let P = inlined_program C in
      let net = call_net C (call_names C) in
      let layers = layers_by_time (translation P) P sweeps (whole P t.typed small) (carries P t) (keeps P t small sweeps bound) in
      keeps_time_by_layers net P (2 * sweeps) (shared_hold C is t few) (shared_carry C is t (call_names C))
      (λ script fits n. subst (λ (k : ℕ). PassesInLayers net P script n k) (times n sweeps)
      (shared_layers C is t (call_names C) script fits n (n * sweeps) (layers script fits n)))
    where
      times : (n k : ℕ) → 2 * (n * k) ≡ n * (2 * k)
      times n k = omega arith
