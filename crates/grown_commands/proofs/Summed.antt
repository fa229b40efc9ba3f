-- The program that is made of a number, the script of its net, and the run that is summed up.
use Rattle.std.proofs.Common.{◌≡◌, ◌∙◌, ◌↔◌, ℕ, zero, suc, ◌+◌, ◌-◌, ◌<◌, ◌≤◌, ◌%◌, Bool, false, List, [], ◌∷◌, ◌++◌, map, None, inl, refl, sym, ap, subst, arith}
use Rattle.std.specs.Prelude.{All, IsSome, replicate}
use Rattle.std.specs.List.{range_with_len}
use Rattle.std.proofs.lemmas.List.Elements.{All-nil, All-cons}
use Rattle.chp_base.specs.declared.channel.Channel.{Channel}
use Rattle.chp_base.specs.declared.channel.Kind.TheVariants.{Out, Chan}
use Rattle.chp_base.specs.declared.fault.Fault.{Fault}
use Rattle.chp_syntax.specs.Trees.{ProgramTree}
use Rattle.env_script.specs.declared.script.Count.{Count}
use Rattle.env_script.specs.Environment.{net_channels}
use Rattle.env_script.specs.Hazards.{hazard_of}
use Rattle.env_script.specs.Runs.{RunState, IsApart, IsPowered, IsSafeMove, moved}
use Rattle.env_script.specs.Scripts.{IsScript, OfferValue, nothing, takes}
use Rattle.event_sim.specs.Following.{power_of}
use Rattle.event_sim.specs.Simulating.{RanValue, start_at}
use Rattle.event_sim.proofs.Following.{picked_run}
use Rattle.grown_programs.specs.Served.{IsServed, byte_channel, pipeline_channels}
use Rattle.handshake_expand.specs.Layout.{node_count}
use Rattle.net_compose.specs.Carries.{Carries}
use Rattle.program_maker.specs.Drawn.{word_at}
use Rattle.prs_core.specs.Nets.{IsNet, NetValue}
use Rattle.width_check.specs.Accepted.{IsAccepted}
use Rattle.width_check.specs.Calls.{IsCallFree}
use Rattle.width_check.specs.Form.{typed_form}
use Rattle.width_check.specs.Processes.{TypedProgram}
use Rattle.command_answers.specs.declared.answer.Ending.TheVariants.{Done}
use Rattle.command_answers.specs.declared.answer.Stop.{Stop}
use Rattle.command_answers.specs.declared.answer.Stop.TheVariants.{Refused, Unread, NoMemory}
use Rattle.command_answers.specs.Answers.{Answer}
use Rattle.command_steps.specs.HeldPrograms.{IsProgramOf}
use Rattle.command_steps.specs.Orders.{Played}
use Rattle.command_answers.specs.Replies.{Halts}
use Rattle.run_reports.specs.RunReporting.{ending_for}
use Rattle.simulation_commands.specs.Simulating.{HasPlayed, simulation_for}
use Rattle.command_steps.specs.Steps.{FromChecks, bad_calls, too_many_forms, faulty, accepted, FromProgram, no_program, a_program, IsFaulty, Never}
use Rattle.command_steps.proofs.OneMeaning.{means_itself}
use Rattle.grown_commands.specs.Summing.{grown_script}
use Rattle.grown_commands.proofs.SafeRuns.{all_safe, run_calm}

-- ---- a text that is served is refused for nothing

abbrev OwnChecks : (text : List ℕ) → Answer → Type 0
OwnChecks text = FromProgram text (λ tree. FromChecks tree Never)

module _ (text : List ℕ) (channels : List Channel) (most : ℕ) (served : IsServed text channels most) where
  -- it is the program that is served
  pub served_form : (p : TypedProgram) → IsProgramOf text p → p ≡ typed_form served.program
  served_form p is =
      let same : served.program ≡ is.tree = is.read.only served.program served.reads in
      let free : IsCallFree is.tree = subst IsCallFree same served.accepted.call_free in
      is.is.form ∙ ap typed_form (sym (same ∙ means_itself free is.is.means))

  pub served_few : (p : TypedProgram) → IsProgramOf text p → node_count p ≤ most
  served_few p is = subst (λ q. node_count q ≤ most) (sym (served_form p is)) served.few

  pub served_wired : (p : TypedProgram) → IsProgramOf text p → p.channels ≡ channels
  served_wired p is = ap (λ (q : TypedProgram). q.channels) (served_form p is) ∙ served.wired

  module _ (no_fault : (p : ProgramTree) (f : Fault) → IsAccepted p → ¬ IsFaulty p f) where
    checks_pass : (p : ProgramTree) (a : Answer) → IsAccepted p → FromChecks p Never a → ⊥
    checks_pass p a is (bad_calls calls fault) = calls is.call_free
    checks_pass p a is (too_many_forms calls meets large) = calls is.call_free
    checks_pass p a is (faulty {plain = r} {fault = f} means fault) =
        no_fault p f is (subst (λ (t : ProgramTree). IsFaulty t f) (sym (means_itself is.call_free means)) fault)
    checks_pass p a is (accepted means are never) = never

    never_refused : (a : Answer) → OwnChecks text a → ⊥
    never_refused a (no_program none) = none.never served.program served.reads
    never_refused a (a_program {program = p} is checks) =
        checks_pass p a (subst IsAccepted (is.only served.program served.reads) served.accepted) checks

    pub only_memory : (stop : Stop) → Halts (OwnChecks text) stop → stop ≡ NoMemory
    only_memory (Refused refusal) halts = absurd (never_refused _ halts)
    only_memory (Unread name) halts = absurd halts
    only_memory NoMemory halts = refl

-- ---- the script is one of the program's channels

small_word : (seed place : ℕ) → word_at seed place % 256 < 256
small_word seed place = omega arith

inner_script : (from count stages : ℕ) →
    IsScript (map (byte_channel Chan) (range_with_len from count) ++ byte_channel Out stages ∷ []) (replicate count nothing ++ takes Count.All ∷ [])
inner_script from zero stages = (tt, tt)
inner_script from (suc count) stages = (tt, inner_script (from + 1) count stages)

small_words : (seed from count : ℕ) → All (λ v. v < 256) (map (λ place. word_at seed place % 256) (range_with_len from count))
small_words seed from zero = All-nil (λ (v : ℕ). v < 256)
small_words seed from (suc count) =
    All-cons (λ (v : ℕ). v < 256) (word_at seed from % 256) (map (λ place. word_at seed place % 256) (range_with_len (from + 1) count))
    (small_word seed from) (small_words seed (from + 1) count)

pub script_suits : (seed stages : ℕ) → IsScript (pipeline_channels stages) (grown_script seed stages)
script_suits seed stages = (small_words seed stages 4, inner_script 1 (stages - 1) stages)

pub script_of_net : (seed stages : ℕ) (p : TypedProgram) (net : NetValue) → Carries net p → p.channels ≡ pipeline_channels stages →
    IsScript (net_channels net) (grown_script seed stages)
script_of_net seed stages p net carries wired =
    subst (λ cs. IsScript cs (grown_script seed stages)) (sym (carries.channels ∙ wired)) (script_suits seed stages)

-- ---- no hazard is found in the run

module _ (powered : (net : NetValue) (high : Bool) → IsNet net → IsSome net.reset → IsPowered net (power_of net high))
    (law : (net : NetValue) (script : List OfferValue) (st : RunState) (n : ℕ) → IsNet net →
    ((IsSafeMove net script st n × IsApart net (moved net st n)) ↔ (hazard_of net script st n ≡ None))) where
  pub carried_calmly : (net : NetValue) (p : TypedProgram) (script : List OfferValue) (played : Played) (place seed steps : ℕ) (ran : RanValue) → IsNet net
      → net.reset ≡ None → Carries net p → IsScript (net_channels net) script
      → HasPlayed played place seed (simulation_for net script steps None) ran → ending_for ran.end ≡ Done
  carried_calmly net p script played place seed steps ran kept plain carries suits run =
      let sim = simulation_for net script steps None in
      run_calm powered law net script (start_at sim) steps _ ran.end kept (all_safe powered net p script false kept suits (inl (plain, carries)))
      (picked_run net script (start_at sim) _ run.run.picks) run.run.ends
