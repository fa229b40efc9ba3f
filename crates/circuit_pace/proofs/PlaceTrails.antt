-- Own moves of a core before a branch is under way, of all of its places but those where all guards were false.
--
-- P: the program; K: how many moves follow the falls of lines; N: the numbers of the core; c: where it is; s: a spot; f: that the guards' gates are as they
-- may be; e: that the spot's rule fires; plain: that its move is no step.
use Rattle.std.proofs.Common.{◌≡◌, ℕ, Bool, true, false, refl}
use Rattle.width_check.specs.Processes.{choosing, Choices, TypedProgram}
use Rattle.circuit_places.specs.Cores.{of_ask, of_any, of_latch, of_start}
use Rattle.circuit_places.specs.Lines.{of_channel, Seen}
use Rattle.circuit_places.proofs.HeadFacts.{bit_none}
use Rattle.circuit_places.proofs.CoreControl.{uncalled, called, evaluating, latched, leaving, noted, spread, control_leave}
use Rattle.circuit_places.proofs.CoreMoves.{own, guard, branch}
use Rattle.circuit_places.proofs.Flow.{Clean, Backed, low_of, not_both}
use Rattle.circuit_places.proofs.Meets.{ChoiceMeets, GuardsMeet}
use Rattle.circuit_places.proofs.Begin.{ChoiceQuiet}
use Rattle.circuit_places.proofs.ChoiceMoves.{spot_at}
use Rattle.circuit_places.proofs.Places.{Mode, at_choice, ChoiceAt, control_at, choice_cells, choice_shown, ChoiceFits, low_guards_quiet, no_leave}
use Rattle.circuit_time.proofs.Trails.{Clearing}
use Rattle.circuit_time.proofs.Requests.{Plain}
use Rattle.circuit_time.proofs.OwnTrails.{GuardsOrdered, Led}
use Rattle.circuit_pace.proofs.Never.{never, not_low}
use Rattle.circuit_pace.proofs.ControlTrails.{ask_rises, guard_rises, any_rises, ask_falls}
use Rattle.circuit_pace.proofs.LatchedTrails.{guard_moves, start_rises}
use Rattle.circuit_pace.proofs.CoreTrails.{CoreSpots, ControlAt, Numbers, selecting, Room, room_selecting, CorePlain, core_can, CoreLed}
use Rattle.circuit_pace.proofs.StatementTrails.{select_plain, selection_led}

module _ (P : TypedProgram) (K : Clearing) (N : Numbers) (env : Seen) (clean : Clean P env) {again : Bool} {choices : Choices} where
  abbrev in_control : {m : Mode} → ControlAt again choices m → ChoiceAt again choices m
  in_control c = control_at c

  -- no branch is under way
  control_quiet : {m : Mode} (c : ControlAt again choices m) → Backed (choosing again choices) (choice_shown (in_control c)) env → ChoiceQuiet choices env
  control_quiet c behind = record {
    send = λ j b. low_of (env.ack j) (λ (o : env.ack j ≡ true). behind.send j b o) refl;
    receive = λ k b. low_of (env.ack (of_channel k)) (λ (o : env.ack (of_channel k) ≡ true). behind.receive k b o) refl;
  }

  pub control_led : Room P N choices → GuardsMeet P choices → ChoiceMeets P choices → GuardsOrdered choices → {m : Mode} (c : ControlAt again choices m)
      → control_leave c ≡ false → (s : CoreSpots choices) → ChoiceFits (in_control c) env → Backed (choosing again choices) (choice_shown (in_control c)) env
      → core_can env (in_control c) s ≡ true → CorePlain choices (choice_cells (in_control c)) s → CoreLed P K N env (in_control c) s
  control_led room guards meets ordered c h (branch s) f behind e plain = never e
  control_led room guards meets ordered uncalled h (own s) f behind e plain = never e
  control_led room guards meets ordered uncalled h (guard s) f behind e plain = absurd (not_both (low_guards_quiet choices env.bit s) e)
  control_led room guards meets ordered called h (own of_ask) f behind e plain = ask_rises P K N env clean
  control_led room guards meets ordered called h (own s) f behind e plain = never e
  control_led room guards meets ordered called h (guard s) f behind e plain = absurd (not_both (low_guards_quiet choices env.bit s) e)
  control_led room guards meets ordered (evaluating g) h (own (of_latch k)) f behind e plain = absurd (not_both (bit_none k) (plain refl))
  control_led room guards meets ordered (evaluating g) h (own s) f behind e plain = never e
  control_led room guards meets ordered (evaluating g) h (guard s) f behind e plain = guard_rises P K N env clean guards ordered g f s e
  control_led room guards meets ordered (latched noted i g t) h (own of_any) f behind e plain = any_rises P K N env clean i g t
  control_led room guards meets ordered (latched spread i g t) h (own of_ask) f behind e plain = ask_falls P K N env clean i g t
  control_led room guards meets ordered (latched l i g t) h (own (of_start k)) f behind e plain =
      start_rises P K N env clean l i g t meets (control_quiet (latched l i g t) behind) k e
  control_led room guards meets ordered (latched l i g t) h (own s) f behind e plain = never e
  control_led room guards meets ordered (latched l i g t) h (guard s) f behind e plain = guard_moves P K N env clean l i g t room guards ordered f s e
  control_led room guards meets ordered (leaving y l g t) h s f behind e plain = not_low h

-- in a selection these are all
module _ (P : TypedProgram) (K : Clearing) (held down : ℕ) (env : Seen) (clean : Clean P env) {choices : Choices} where
  abbrev at_control : {m : Mode} → ControlAt false choices m → ChoiceAt false choices m
  at_control c = control_at c

  pub selected_led : GuardsMeet P choices → ChoiceMeets P choices → GuardsOrdered choices → {m : Mode} (c : ControlAt false choices m)
      (s : CoreSpots choices) → ChoiceFits (at_control c) env → Backed (choosing false choices) (choice_shown (at_control c)) env
      → core_can env (at_control c) s ≡ true → Plain (choosing false choices) (choice_cells (at_control c)) (spot_at false s)
      → Led P K held down (choosing false choices) m env (at_choice (at_control c)) (spot_at false s)
  selected_led guards meets ordered c s f behind e plain =
      selection_led P K held down env (at_control c) s (control_led P K (selecting P held down choices) env clean (room_selecting P held down choices) guards
      meets ordered c (no_leave (at_control c)) s f behind e (select_plain P K held down env (choice_cells (at_control c)) s plain))
