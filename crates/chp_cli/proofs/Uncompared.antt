-- A run that is compared with no program, and has no hazard, ends well.
use Rattle.std.proofs.Common.{◌≡◌, ◌≢◌, ℕ, List, Option, None, refl}
use Rattle.command_answers.specs.declared.answer.Ending.{Ending}
use Rattle.command_answers.specs.declared.answer.Ending.TheVariants as ending
use Rattle.command_answers.specs.Answers.{Given, writes}
use Rattle.command_words.specs.BenchWords.{AskedBench}
use Rattle.command_words.specs.WavesWords.{AskedWaves}
use Rattle.env_script.specs.Scripts.{OfferValue}
use Rattle.event_sim.specs.declared.ran.End.{End}
use Rattle.event_sim.specs.declared.ran.End.TheVariants.{AtRest, Spent, Unstable, BothWays, Protocol}
use Rattle.event_sim.specs.Simulating.{RanValue}
use Rattle.bench_commands.specs.HandedIn.{HandedIn}
use Rattle.run_reports.specs.RunReporting.{IsReported, alone, ending_for}
use Rattle.chp_cli.specs.BenchedFiles.{IsFileBenched}
use Rattle.chp_cli.specs.TracedFiles.{IsFileTraced}

ends_well : (e : End) (end : Ending) → end ≡ ending_for e → end ≢ ending.Hazard → end ≡ ending.Done
ends_well AtRest end is calm = is
ends_well Spent end is calm = is
ends_well (Unstable node) end is calm = absurd (calm is)
ends_well (BothWays node) end is calm = absurd (calm is)
ends_well (Protocol chan) end is calm = absurd (calm is)

end_alone : {script : List OfferValue} {time : Option ℕ} {ran : RanValue} {end : Ending} {text : List ℕ} → IsReported script time ran None (writes end text)
    → end ≡ ending_for ran.end
end_alone alone = refl

pub benched_well : {b : AskedBench} {given : Given} {handed : HandedIn} {end : Ending} {text : List ℕ} → IsFileBenched b given handed (writes end text)
    → end ≢ ending.Hazard → end ≡ ending.Done
benched_well f calm = ends_well f.benched.against.ran.end _ (end_alone f.benched.against.written) calm

same_end : {end other_end : Ending} {text other : List ℕ} → writes end text ≡ writes other_end other → end ≡ other_end
same_end e = cc e

pub traced_well : {w : AskedWaves} {given : Given} {end : Ending} {text : List ℕ} → IsFileTraced w given (writes end text) → end ≢ ending.Hazard
    → end ≡ ending.Done
traced_well f calm = ends_well f.traced.ran.end _ (same_end f.traced.written) calm
