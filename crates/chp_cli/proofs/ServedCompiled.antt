-- A run of a rule file that `compile` wrote is served where the rest is there, and it ends well then.
use Rattle.std.proofs.Common.{◌≡◌, ◌≢◌, ◌⊎◌, inl, inr, ℕ, true, List, Option, Some, None, refl, sym, subst}
use Rattle.env_script.specs.Environment.{net_channels}
use Rattle.env_script.specs.Scripts.{OfferValue}
use Rattle.width_check.specs.Processes.{TypedProgram}
use Rattle.bench_commands.specs.HandedIn.{HandedIn}
use Rattle.command_answers.specs.declared.status.Status.{Status}
use Rattle.command_answers.specs.declared.status.Status.TheVariants.{Done, RefusedText, Usage, Read, Write, Hazard, NoMemory, TooLarge, BadFile, NoOrder, NoChannel, NoPeer, Differs}
use Rattle.command_answers.specs.Answers.{Given}
use Rattle.command_answers.specs.Statuses.{is_whole}
use Rattle.command_steps.specs.Orders.{Played}
use Rattle.command_steps.specs.References.{IsReferredTo, IsToReferTo}
use Rattle.command_words.specs.BenchWords.{AskedBench}
use Rattle.command_words.specs.CommandWords.{Asked, simulates, times, benches, traces}
use Rattle.chp_cli.specs.Commands.{EndsServed, EndsUncompared, IsToServe}
use Rattle.command_words.specs.SimulateWords.{AskedRun, AskedTiming}
use Rattle.command_words.specs.WavesWords.{AskedWaves}
use Rattle.chp_cli.specs.CompiledRuns.{IsComparedWith, net_file}
use Rattle.chp_cli.specs.ServedRuns.{IsCompiledToBench, IsCompiledToSimulate, IsCompiledToTime, IsCompiledToTrace, CompiledServe, net_held}
use Rattle.command_steps.specs.FileContents.{IsRuleFile, IsScriptFile}
use Rattle.chp_cli.specs.Serving.{IsToBench, IsToSimulate, IsToTime, IsToTrace}
use Rattle.chp_cli.specs.Simulated.{HoldsCompiled}
use Rattle.chp_cli.proofs.EachCommand.{each_run}
use Rattle.chp_cli.proofs.FewBytes.{few_bytes}
use Rattle.chp_cli.proofs.FilesCompiled.{AreCompiled, same_channels}

-- ---- the files

module _ (compiled : AreCompiled) where
  rule_file : {given : Given} {file : List ℕ} {p : TypedProgram} (h : HoldsCompiled given file p) → IsRuleFile given file (net_held h)
  rule_file {given} {file} {p} h =
      let is = compiled given file p h in record {
        text = h.text;
        held = record { held = h.held; short = few_bytes h.reset h.bodies h.text h.spells is };
        kept = is.kept;
        spelled = h.spells;
      }

  own_script : {given : Given} {file : List ℕ} {p : TypedProgram} (h : HoldsCompiled given file p) {name : List ℕ} {script : List OfferValue}
      → IsScriptFile given name p.channels script → IsScriptFile given name (net_channels (net_held h)) script
  own_script {given} {file} {p} h {name} {script} is =
      subst (λ channels. IsScriptFile given name channels script) (sym (same_channels h.reset h.bodies (compiled given file p h).carries)) is

  pub to_simulate : (s : AskedRun) (given : Given) (played : Played) (p : TypedProgram) → IsToReferTo given s.against
      → IsCompiledToSimulate s given played p → IsToSimulate s given played
  to_simulate s given played p refers c = record {
    net = net_held c.holds;
    script = c.script;
    place = c.place;
    rules = rule_file c.holds;
    powered = c.powered;
    offers = own_script c.holds c.offers;
    referable = refers;
    named = c.named;
  }

  pub to_time : (t : AskedTiming) (given : Given) (p : TypedProgram) → IsToReferTo given t.against → IsCompiledToTime t given p → IsToTime t given
  to_time t given p refers c = record {
    net = net_held c.holds;
    script = c.script;
    delays = c.delays;
    rules = rule_file c.holds;
    powered = c.powered;
    offers = own_script c.holds c.offers;
    slow = c.slow;
    referable = refers;
  }

  pub to_bench : (b : AskedBench) (given : Given) (handed : HandedIn) (p : TypedProgram) → IsCompiledToBench b given handed p → IsToBench b given handed
  to_bench b given handed p c =
      record { net = net_held c.holds; place = c.place; which = c.which; rules = rule_file c.holds; named = c.named; peer = c.peer }

  pub to_trace : (w : AskedWaves) (given : Given) (p : TypedProgram) → IsCompiledToTrace w given p → IsToTrace w given
  to_trace w given p c = record {
    net = net_held c.holds;
    script = c.script;
    delays = c.delays;
    rules = rule_file c.holds;
    offers = own_script c.holds c.offers;
    slow = c.slow;
  }

-- a file that holds one program to compare with holds one
referable : (given : Given) → given.tells ≡ true → (file : Option (List ℕ)) (p : TypedProgram) → IsReferredTo given file p → IsToReferTo given file
referable given told None p is = tt
referable given told (Some file) p is = record {
  text = is.text;
  program = is.is.tree;
  plain = is.is.is.plain;
  held = is.gives told;
  short = is.short;
  reads = is.is.read.reads;
  means = is.is.is.means;
  accepted = is.is.is.accepted;
}

-- ---- the call

whole_done : (s : Status) → is_whole s ≡ true → s ≢ Hazard → s ≢ Differs → s ≡ Done
whole_done Done w calm same = refl
whole_done Hazard w calm same = absurd (calm refl)
whole_done Differs w calm same = absurd (same refl)
whole_done RefusedText w calm same = absurd (cc w)
whole_done TooLarge w calm same = absurd (cc w)
whole_done BadFile w calm same = absurd (cc w)
whole_done NoOrder w calm same = absurd (cc w)
whole_done NoChannel w calm same = absurd (cc w)
whole_done NoPeer w calm same = absurd (cc w)
whole_done Usage w calm same = absurd (cc w)
whole_done Read w calm same = absurd (cc w)
whole_done Write w calm same = absurd (cc w)
whole_done NoMemory w calm same = absurd (cc w)

uncompared_done : (s : Status) → EndsUncompared s → s ≢ Hazard → s ≡ Done
uncompared_done s (inl is) calm = is
uncompared_done s (inr is) calm = absurd (calm is)

-- a run of the file by one of the commands
module _ (given : Given) (handed : HandedIn) (p : TypedProgram) (told : given.tells ≡ true) (s : Status) (calm : s ≢ Hazard) (same : s ≢ Differs) where
  or_memory : {Ended : Type 0} → (Ended → s ≡ Done) → Ended ⊎ (s ≡ NoMemory) → (s ≡ Done) ⊎ (s ≡ NoMemory)
  or_memory done (inl is) = inl (done is)
  or_memory done (inr is) = inr is

  abbrev EndsWell : Option Asked → Type 0
  EndsWell asked = CompiledServe asked given handed p → IsComparedWith asked given p
      → ((command : Asked) → asked ≡ Some command → IsToServe command given handed → EndsServed command s ⊎ (s ≡ NoMemory)) → (s ≡ Done) ⊎ (s ≡ NoMemory)

  pub compiled_done : ((r : AskedRun) → IsToReferTo given r.against → IsCompiledToSimulate r given handed.orders p → IsToSimulate r given handed.orders)
      → ((t : AskedTiming) → IsToReferTo given t.against → IsCompiledToTime t given p → IsToTime t given)
      → ((b : AskedBench) → IsCompiledToBench b given handed p → IsToBench b given handed)
      → ((w : AskedWaves) → IsCompiledToTrace w given p → IsToTrace w given)
      → (asked : Option Asked) (file : List ℕ) → net_file asked ≡ Some file → HoldsCompiled given file p → EndsWell asked
  compiled_done run timing bench wave = each_run given p (λ asked file h. EndsWell asked)
      (λ r holds h refers ends. or_memory (λ w. whole_done s w calm same) (ends (simulates r) refl (run r (referable given told r.against p refers) h)))
      (λ t holds h refers ends. or_memory (λ w. whole_done s w calm same) (ends (times t) refl (timing t (referable given told t.against p refers) h)))
      (λ b holds h alone ends. or_memory (λ e. uncompared_done s e calm) (ends (benches b) refl (bench b h)))
      (λ w holds h alone ends. or_memory (λ e. uncompared_done s e calm) (ends (traces w) refl (wave w h)))
