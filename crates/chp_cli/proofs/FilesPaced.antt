-- The nets of files that `compile` wrote pass in time what their programs pass.
use Rattle.std.proofs.Common.{◌≡◌, ◌∙◌, ℕ, ◌*◌, ◌≤◌, false, List, None, refl, sym, ap, subst}
use Rattle.chp_syntax.specs.Trees.{ProgramTree}
use Rattle.handshake_expand.specs.Layout.{nodes_of}
use Rattle.prs_core.specs.Nets.{NetValue, IsNet}
use Rattle.reset_net.specs.Resets.{reset_of}
use Rattle.width_check.specs.Form.{typed_form}
use Rattle.width_check.specs.Processes.{TypedProgram}
use Rattle.net_compose.specs.Carries.{Carries}
use Rattle.net_compose.specs.Points.{IsTranslated}
use Rattle.net_compose.specs.Time.{KeepsTime}
use Rattle.net_compose.specs.Translation.{translation}
use Rattle.net_pace.specs.Pace.{IsRoundTime, TimedPace, TimedPaceReset}
use Rattle.call_map.specs.CallNet.{CallProgram, IsCallProgram, call_count, call_names, call_net, inlined_program}
use Rattle.call_compose.specs.CalledForm.{CallsTyped}
use Rattle.call_compose.specs.CallsCarried.{CallsAsked}
use Rattle.call_compose.specs.Inlined.{AreInlined}
use Rattle.call_compose.specs.Placing.{shared_of}
use Rattle.command_answers.specs.Answers.{Given}
use Rattle.command_steps.specs.Steps.{most_of_nodes}
use Rattle.program_commands.specs.Bodies.{Bodies, copied, copies_of, shared, counted_with, net_with, IsFaithful, SharedNetsAreFaithful}
use Rattle.program_commands.proofs.BodyCounts.{few_nodes, few_shared}
use Rattle.chp_cli.specs.Resting.{sweeps_with}
use Rattle.chp_cli.specs.Simulated.{HoldsCompiled}
use Rattle.chp_cli.proofs.FilesCompiled.{AreTranslated}

-- what such a file holds keeps pace by time
abbrev pub ArePaced : Type 0
ArePaced = (given : Given) (file : List ℕ) (p : TypedProgram) (h : HoldsCompiled given file p) (sweeps : ℕ) → IsRoundTime p sweeps
    → TimedPace (net_with h.bodies) p (sweeps_with h.bodies sweeps)

-- and with a reset node from power-up
abbrev pub ArePacedReset : Type 0
ArePacedReset = (given : Given) (file : List ℕ) (p : TypedProgram) (h : HoldsCompiled given file p) (sweeps : ℕ) → IsRoundTime p sweeps
    → TimedPaceReset (reset_of (net_with h.bodies)) p (sweeps_with h.bodies sweeps)

-- a net with shared bodies keeps time, in twice as many sweeps as that with copies
abbrev pub SharedBodiesKeepTime : Type 0
SharedBodiesKeepTime = (C : CallProgram) → IsCallProgram C → IsTranslated (inlined_program C) → nodes_of (inlined_program C) ≤ 65536 → call_count C ≤ 65536
    → (sweeps : ℕ) → IsRoundTime (inlined_program C) sweeps → KeepsTime (call_net C (call_names C)) (inlined_program C) (2 * sweeps)

module _ (translated : AreTranslated) (faithful : SharedNetsAreFaithful) (keep_time : SharedBodiesKeepTime) (asked : CallsAsked) (typed : CallsTyped) where
  -- with a copy in place of each call it is the program that is carried
  copies_are : {t : ProgramTree} {p : TypedProgram} (h : AreInlined t p) → inlined_program (shared_of h) ≡ p
  copies_are {t} h = typed t h.inlined.vars ∙ (sym (ap typed_form h.inlined.tree) ∙ sym h.typed)

  shared_keep_time : {t : ProgramTree} {p : TypedProgram} (h : AreInlined t p) → IsTranslated p → nodes_of p ≤ 65536 → call_count (shared_of h) ≤ 65536
      → (sweeps : ℕ) → IsRoundTime p sweeps → KeepsTime (call_net (shared_of h) (call_names (shared_of h))) p (2 * sweeps)
  shared_keep_time {t} {p} h is few small sweeps bound =
      let C = shared_of h in
      let same : inlined_program C ≡ p = copies_are h in
      subst (λ (q : TypedProgram). KeepsTime (call_net C (call_names C)) q (2 * sweeps)) same
      (keep_time C (asked t h.tree h.inlined h.meets h.shaped h.accepted) (subst (λ (q : TypedProgram). IsTranslated q) (sym same) is)
      (subst (λ (q : TypedProgram). nodes_of q ≤ 65536) (sym same) few) small sweeps (subst (λ (q : TypedProgram). IsRoundTime q sweeps) (sym same) bound))

  module _ (copies : (p : TypedProgram) → IsTranslated p → nodes_of p ≤ 65536 → (sweeps : ℕ) → IsRoundTime p sweeps → TimedPace (translation p) p sweeps)
      (net : (n : NetValue) (p : TypedProgram) (sweeps : ℕ) → Carries n p → KeepsTime n p sweeps → TimedPace n p sweeps) where
    bodies_paced : {p : TypedProgram} (bodies : Bodies p) → IsTranslated p → counted_with bodies ≤ most_of_nodes
        → (sweeps : ℕ) → IsRoundTime p sweeps → TimedPace (net_with bodies) p (sweeps_with bodies sweeps)
    bodies_paced {p} copied is few sweeps bound = copies p is (few_nodes (copies_of p) few) sweeps bound
    bodies_paced {p} (shared {program = t} h) is few sweeps bound =
        let small = few_shared h few in
        let it : IsFaithful false (shared h) = faithful false t p h small in
        net (net_with (shared h)) p (2 * sweeps) it.carries (shared_keep_time h is (few_nodes (shared h) few) small sweeps bound)

    pub are_paced : ArePaced
    are_paced given file p h = bodies_paced h.bodies (translated given file p h) h.few

  module _ (copies : (p : TypedProgram) → IsTranslated p → nodes_of p ≤ 65536 → (sweeps : ℕ) → IsRoundTime p sweeps
      → TimedPaceReset (reset_of (translation p)) p sweeps)
      (net : (n : NetValue) (p : TypedProgram) (sweeps : ℕ) → IsNet n → n.reset ≡ None → Carries n p → KeepsTime n p sweeps
      → TimedPaceReset (reset_of n) p sweeps) where
    bodies_paced_reset : {p : TypedProgram} (bodies : Bodies p) → IsTranslated p → counted_with bodies ≤ most_of_nodes
        → (sweeps : ℕ) → IsRoundTime p sweeps → TimedPaceReset (reset_of (net_with bodies)) p (sweeps_with bodies sweeps)
    bodies_paced_reset {p} copied is few sweeps bound = copies p is (few_nodes (copies_of p) few) sweeps bound
    bodies_paced_reset {p} (shared {program = t} h) is few sweeps bound =
        let small = few_shared h few in
        let it : IsFaithful false (shared h) = faithful false t p h small in
        net (net_with (shared h)) p (2 * sweeps) it.plain refl it.carries (shared_keep_time h is (few_nodes (shared h) few) small sweeps bound)

    pub are_paced_reset : ArePacedReset
    are_paced_reset given file p h = bodies_paced_reset h.bodies (translated given file p h) h.few
