-- The net that is written for a program keeps to what is printed.
--
-- p: the program without procedures; free, calls: whether there are procedures or calls; whole: what is printed if there are none.
use Rattle.std.proofs.Common.{◌≡◌, ◌∙◌, ℕ, ◌*◌, ◌≤◌, false, List, Option, None, refl, sym, ap, subst, arith}
use Rattle.chp_syntax.specs.Trees.{ProgramTree}
use Rattle.prs_core.specs.Nets.{NetValue, IsNet}
use Rattle.reset_net.specs.Resets.{reset_of}
use Rattle.env_script.specs.Scripts.{OfferValue, IsScript}
use Rattle.width_check.specs.Form.{typed_form}
use Rattle.width_check.specs.Processes.{TypedProgram}
use Rattle.width_check.specs.Typing.{IsTyped}
use Rattle.handshake_expand.specs.Layout.{nodes_of}
use Rattle.net_compose.specs.Carries.{Carries}
use Rattle.net_compose.specs.Points.{IsTranslated, TranslationCarries}
use Rattle.net_compose.specs.Time.{KeepsTime, PassesInSweeps}
use Rattle.net_compose.specs.Translation.{translation}
use Rattle.net_compose.proofs.TimeKept.{carried_safe, keeps_more}
use Rattle.net_pace.specs.Pace.{IsRoundTime, KeepsTimeReset, TimedPace, TimedPaceReset}
use Rattle.net_pace.specs.Sums.{IsRoundsTime, PassesRounds}
use Rattle.call_map.specs.CallNet.{CallProgram, IsCallProgram, call_count, call_names, call_net, inlined_program}
use Rattle.call_compose.specs.CalledForm.{CallsTyped}
use Rattle.call_compose.specs.CallsCarried.{CallsAsked}
use Rattle.call_compose.specs.Inlined.{AreInlined}
use Rattle.call_compose.specs.Placing.{shared_of}
use Rattle.command_answers.specs.Answers.{Given}
use Rattle.program_commands.specs.Bodies.{Bodies, copied, copies_of, shared, counted_with, net_with, HasBodies, as_copies, as_shared, IsFaithful, SharedNetsAreFaithful}
use Rattle.program_commands.proofs.BodyCounts.{few_nodes, few_shared}
use Rattle.pace_command.specs.Kept.{KeepsBound, KeepsSum}
use Rattle.pace_command.specs.Pacing.{IsBound, IsCompiled, SummedIf, unscripted, scripted, as_it_is, shared as by_shared, whole_bound, whole_sum}
use Rattle.pace_command.proofs.Enough.{passes_more, round_of, rounds_of}

-- ---- from the net with copies to the one that is written

-- Passes: what it does in so many sweeps; IsEnough: as many are enough of the net with copies
module _ (Passes : NetValue → TypedProgram → (sweeps : ℕ) → Type 0) (IsEnough : TypedProgram → (sweeps : ℕ) → Type 0)
    (every : (p : TypedProgram) → IsTranslated p → nodes_of p ≤ 65536 → (sweeps : ℕ) → IsEnough p sweeps → Passes (translation p) p sweeps)
    (shares : (C : CallProgram) → IsCallProgram C → IsTranslated (inlined_program C) → nodes_of (inlined_program C) ≤ 65536 → call_count C ≤ 65536
    → (sweeps : ℕ) → IsEnough (inlined_program C) sweeps → Passes (call_net C (call_names C)) (inlined_program C) (2 * sweeps))
    (asked : CallsAsked) (typed : CallsTyped) where
  -- with a copy in place of each call it is the program that is carried
  copies_are : {t : ProgramTree} {p : TypedProgram} (h : AreInlined t p) → inlined_program (shared_of h) ≡ p
  copies_are {t} h = typed t h.inlined.vars ∙ (sym (ap typed_form h.inlined.tree) ∙ sym h.typed)

  shared_passes : {t : ProgramTree} {p : TypedProgram} (h : AreInlined t p) → IsTranslated p → counted_with (shared h) ≤ 65536
      → (sweeps : ℕ) → IsEnough p sweeps → Passes (net_with (shared h)) p (2 * sweeps)
  shared_passes {t} {p} h is few sweeps enough =
      let C = shared_of h in
      let same : inlined_program C ≡ p = copies_are h in
      subst (λ (q : TypedProgram). Passes (call_net C (call_names C)) q (2 * sweeps)) same
      (shares C (asked t h.tree h.inlined h.meets h.shaped h.accepted) (subst (λ (q : TypedProgram). IsTranslated q) (sym same) is)
      (subst (λ (q : TypedProgram). nodes_of q ≤ 65536) (sym same) (few_nodes (shared h) few)) (few_shared h few) sweeps
      (subst (λ (q : TypedProgram). IsEnough q sweeps) (sym same) enough))

  -- in no more sweeps than are printed
  passes : (program : ProgramTree) {p : TypedProgram} → IsTranslated p → (bodies : Bodies p) → HasBodies program None bodies → counted_with bodies ≤ 65536
      → (sweeps whole : ℕ) → IsEnough p sweeps → sweeps ≤ whole → sweeps ≤ 262146000 → (printed : ℕ) → IsCompiled program whole printed
      → (few : ℕ) × (few ≤ printed) × Passes (net_with bodies) p few
  passes program {p} is bodies (as_copies free) nodes sweeps whole enough within few printed (as_it_is also) =
      (sweeps, omega (arith, within, few), every p is (few_nodes bodies nodes) sweeps enough)
  passes program is bodies (as_copies free) nodes sweeps whole enough within few printed (by_shared calls) = absurd (calls free)
  passes program is bodies (as_shared calls h) nodes sweeps whole enough within few printed (as_it_is free) = absurd (calls free)
  passes program {p} is bodies (as_shared calls h) nodes sweeps whole enough within few printed (by_shared also) =
      (2 * sweeps, omega (arith, within, few), shared_passes h is nodes sweeps enough)

-- ---- it is a net without a reset node, and carries the program

record IsWritten {p : TypedProgram} (bodies : Bodies p) : Type 0 where
  net : IsNet (net_with bodies)
  plain : (net_with bodies).reset ≡ None
  carries : Carries (net_with bodies) p

module _ (carry : TranslationCarries) (whole : (p : TypedProgram) → IsTyped p.channels p.vars p.body → nodes_of p ≤ 65536 → IsNet (translation p))
    (faithful : SharedNetsAreFaithful) (asked : CallsAsked) (typed : CallsTyped) where
  written : {p : TypedProgram} → IsTranslated p → (bodies : Bodies p) → counted_with bodies ≤ 65536 → IsWritten bodies
  written {p} is copied nodes = record { net = whole p is.typed (few_nodes (copies_of p) nodes); plain = refl; carries = carry p is }
  written {p} is (shared {program = t} h) nodes =
      let it : IsFaithful false (shared h) = faithful false t p h (few_shared h nodes) in
      record { net = it.plain; plain = refl; carries = it.carries }

  -- ---- so it keeps to the bound, and to the sum

  module _ (timed : (n : NetValue) (p : TypedProgram) (sweeps : ℕ) → Carries n p → KeepsTime n p sweeps → TimedPace n p sweeps)
      (reset : (n : NetValue) (p : TypedProgram) (sweeps : ℕ) → IsNet n → n.reset ≡ None → Carries n p → KeepsTime n p sweeps
      → KeepsTimeReset (reset_of n) p sweeps)
      (timed_reset : (n : NetValue) (p : TypedProgram) (sweeps : ℕ) → IsNet n → n.reset ≡ None → Carries n p → KeepsTime n p sweeps
      → TimedPaceReset (reset_of n) p sweeps)
      (every : (p : TypedProgram) → IsTranslated p → nodes_of p ≤ 65536 → (sweeps : ℕ) → IsRoundTime p sweeps → KeepsTime (translation p) p sweeps)
      (shares : (C : CallProgram) → IsCallProgram C → IsTranslated (inlined_program C) → nodes_of (inlined_program C) ≤ 65536 → call_count C ≤ 65536
      → (sweeps : ℕ) → IsRoundTime (inlined_program C) sweeps → KeepsTime (call_net C (call_names C)) (inlined_program C) (2 * sweeps)) where
    pub bound_kept : (program : ProgramTree) {p : TypedProgram} → IsTranslated p → (bodies : Bodies p) → HasBodies program None bodies
        → counted_with bodies ≤ 65536 → (bound : ℕ) → IsBound program p bound → KeepsBound bodies bound
    bound_kept program {p} is bodies has nodes bound bounds =
        let r = round_of p (few_nodes bodies nodes) in
        let w = written is bodies nodes in
        let (few, less, passed) = passes KeepsTime IsRoundTime every shares asked typed program is bodies has nodes r.sweeps (whole_bound p) r.enough r.within
        (omega (arith, r.few)) bound bounds in
        let keeps : KeepsTime (net_with bodies) p bound = keeps_more (net_with bodies) p few bound less passed in
        record {
          sweeps = keeps;
          timed = timed (net_with bodies) p bound w.carries keeps;
          reset = reset (net_with bodies) p bound w.net w.plain w.carries keeps;
          timed_reset = timed_reset (net_with bodies) p bound w.net w.plain w.carries keeps;
        }

  module _ (each : (net : NetValue) (p : TypedProgram) (script : List OfferValue) → IsNet net → net.reset ≡ None → Carries net p
      → IsScript p.channels script → (n moves : ℕ) → PassesInSweeps net p script n moves → PassesRounds net p script n moves)
      (every : (p : TypedProgram) → IsTranslated p → nodes_of p ≤ 65536 → (script : List OfferValue) → IsScript p.channels script
      → (n moves : ℕ) → IsRoundsTime p script n moves → PassesRounds (translation p) p script n moves)
      (shares : (C : CallProgram) → IsCallProgram C → IsTranslated (inlined_program C) → nodes_of (inlined_program C) ≤ 65536 → call_count C ≤ 65536
      → (script : List OfferValue) → IsScript (inlined_program C).channels script
      → (n moves : ℕ) → IsRoundsTime (inlined_program C) script n moves
      → PassesRounds (call_net C (call_names C)) (inlined_program C) script n (2 * moves)) where
    pub sum_kept : {given : Given} {file : Option (List ℕ)} (program : ProgramTree) {p : TypedProgram} → IsTranslated p
        → (bodies : Bodies p) → HasBodies program None bodies → counted_with bodies ≤ 65536 → (under : SummedIf given program p file)
        → KeepsSum bodies under
    sum_kept program is bodies has nodes unscripted = tt
    sum_kept program {p} is bodies has nodes (scripted {script = script} holds of) =
        let fits = holds.is.kept in
        let n = of.count in
        let r = rounds_of p (few_nodes bodies nodes) script n of.made.few in
        let w = written is bodies nodes in
        let (few, less, passed) = passes (λ net q sweeps. PassesInSweeps net q script n sweeps)
        (λ q sweeps. IsScript q.channels script × IsRoundsTime q script n sweeps)
        (λ q also small sweeps enough. (every q also small script enough.0 n sweeps enough.1).swept)
        (λ C calls also small count sweeps enough. (shares C calls also small count script enough.0 n sweeps enough.1).swept) asked typed program is bodies has
        nodes r.sweeps (whole_sum p script n) (fits, r.enough) r.within r.few of.sum of.sums in
        each (net_with bodies) p script w.net w.plain w.carries fits n of.sum
        (passes_more (net_with bodies) p script n w.net (carried_safe (net_with bodies) p w.carries script fits) few of.sum less passed)
