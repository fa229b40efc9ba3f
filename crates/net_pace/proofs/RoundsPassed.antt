-- The nets of programs pass what n rounds pass under a script in as many moves, one behind the other, as these rounds come to: by sweeps and by delays,
-- and from power-up.
--
-- p: the program; C: a program with calls; P: that with copies; is: that it is covered; small, few: that its net has not too many nodes; n: how many rounds.
use Rattle.std.proofs.Common.{◌≡◌, ℕ, ◌*◌, ◌≤◌, List, None, refl}
use Rattle.prs_core.specs.Nets.{NetValue, IsNet}
use Rattle.reset_net.specs.Resets.{reset_of}
use Rattle.env_script.specs.Scripts.{OfferValue, IsScript}
use Rattle.width_check.specs.Processes.{TypedProgram}
use Rattle.width_check.specs.Typing.{IsTyped}
use Rattle.handshake_expand.specs.Layout.{nodes_of}
use Rattle.chp_meaning.specs.Halves.{HalvesArePlain}
use Rattle.circuit_sums.proofs.Sums.{RoundsInSums}
use Rattle.net_compose.specs.Translation.{translation}
use Rattle.net_compose.specs.Carries.{Carries}
use Rattle.net_compose.specs.Points.{IsTranslated, TranslationCarries}
use Rattle.net_compose.specs.Time.{KeepsTime, PassesInSweeps, PassesInLayers}
use Rattle.net_compose.proofs.TimeKept.{carried_safe, passes_by_safe}
use Rattle.net_compose.proofs.TranslationTime.{HalvesKeepRounds}
use Rattle.net_rounds.proofs.TranslationPace.{plainly_sums, sums_in_halves}
use Rattle.call_map.specs.CallNet.{CallProgram, IsCallProgram, inlined_program, call_count, call_names, call_net, SharedBodiesCarry, SharedBodiesHold}
use Rattle.call_map.specs.CallPace.{SharedBodiesLayers}
use Rattle.net_pace.specs.Pace.{IsRoundTime}
use Rattle.net_pace.specs.Sums.{IsRoundsTime, as_summed, as_halves_summed, as_counted, PassesRounds}
use Rattle.net_pace.proofs.TimedKept.{passes_in_time, passes_in_time_reset}
use Rattle.net_pace.proofs.ResetKept.{ResetRuns, passes_reset, safe_reset}
use Rattle.net_pace.proofs.SweepLayers.{layers_by_time}

-- what a net passes in so many sweeps it passes in each of these ways
pub passes_rounds : ResetRuns → (net : NetValue) (p : TypedProgram) (script : List OfferValue) → IsNet net → net.reset ≡ None → Carries net p
    → IsScript p.channels script → (n moves : ℕ) → PassesInSweeps net p script n moves → PassesRounds net p script n moves
passes_rounds each net p script is plain carries fits n moves passes =
    let safe = carried_safe net p carries script fits in
    let powered = passes_reset each net p script n moves is plain safe passes in
    record {
      swept = passes;
      timed = passes_in_time net p script n moves safe passes;
      swept_reset = powered;
      timed_reset = passes_in_time_reset (reset_of net) p script n moves (safe_reset each net script is plain safe) powered;
    }

-- and so where one run of as many layers does
layers_pass : ResetRuns → (net : NetValue) (p : TypedProgram) (script : List OfferValue) → IsNet net → net.reset ≡ None → Carries net p
    → IsScript p.channels script → (n moves : ℕ) → PassesInLayers net p script n moves → PassesRounds net p script n moves
layers_pass each net p script is plain carries fits n moves passes =
    passes_rounds each net p script is plain carries fits n moves (passes_by_safe net p script n moves is (carried_safe net p carries script fits) passes)

-- what is assumed here are laws
module _ (halves : HalvesArePlain) (twice : HalvesKeepRounds) (sums : RoundsInSums) (each : ResetRuns) (carry : TranslationCarries)
    (whole : (p : TypedProgram) → IsTyped p.channels p.vars p.body → nodes_of p ≤ 65536 → IsNet (translation p))
    (keeps : (p : TypedProgram) → IsTranslated p → nodes_of p ≤ 65536 → (sweeps : ℕ) → IsRoundTime p sweeps → KeepsTime (translation p) p sweeps) where
  rounds_layers : (p : TypedProgram) → IsTranslated p → nodes_of p ≤ 65536 → (script : List OfferValue) → IsScript p.channels script → (n moves : ℕ)
      → IsRoundsTime p script n moves → PassesInLayers (translation p) p script n moves
  rounds_layers p is small script fits n moves (as_summed plain) = plainly_sums sums p is.typed is.sharing plain script fits n
  rounds_layers p is small script fits n moves as_halves_summed = sums_in_halves halves twice sums p is.typed is.sharing script fits n
  rounds_layers p is small script fits n moves (as_counted {sweeps = k} bound) =
      layers_by_time (translation p) p k (whole p is.typed small) (carry p is) (keeps p is small k bound) script fits n

  pub rounds_passed : (p : TypedProgram) → IsTranslated p → nodes_of p ≤ 65536 → (script : List OfferValue) → IsScript p.channels script → (n moves : ℕ)
      → IsRoundsTime p script n moves → PassesRounds (translation p) p script n moves
  rounds_passed p is small script fits n moves enough =
      layers_pass each (translation p) p script (whole p is.typed small) refl (carry p is) fits n moves (rounds_layers p is small script fits n moves enough)

  pub shared_rounds_passed : SharedBodiesLayers → SharedBodiesCarry → SharedBodiesHold → (C : CallProgram) → IsCallProgram C
      → IsTranslated (inlined_program C) → nodes_of (inlined_program C) ≤ 65536 → call_count C ≤ 65536 → (script : List OfferValue)
      → IsScript (inlined_program C).channels script → (n moves : ℕ) → IsRoundsTime (inlined_program C) script n moves
      → PassesRounds (call_net C (call_names C)) (inlined_program C) script n (2 * moves)
  shared_rounds_passed layers carries hold C is t small few script fits n moves enough =
      let P = inlined_program C in
      layers_pass each (call_net C (call_names C)) P script (hold C is t few) refl (carries C is t (call_names C)) fits n (2 * moves)
      (layers C is t (call_names C) script fits n moves (rounds_layers P t small script fits n moves enough))
