-- The program that is summed up isn't large, and its run finds no hazard.
use Rattle.std.proofs.Common.{◌≡◌, ◌↔◌, ℕ, ◌+◌, ◌*◌, ◌≤◌, Bool, List, None, refl, sym, subst, arith}
use Rattle.std.specs.Prelude.{IsSome}
use Rattle.chp_syntax.specs.Shape.{IsShaped}
use Rattle.chp_syntax.specs.Trees.{ProgramTree}
use Rattle.chp_syntax.proofs.Shapes.{read_shaped}
use Rattle.env_script.specs.Hazards.{hazard_of}
use Rattle.env_script.specs.Runs.{RunState, IsApart, IsPowered, IsSafeMove, moved}
use Rattle.env_script.specs.Scripts.{OfferValue}
use Rattle.event_sim.specs.Following.{power_of}
use Rattle.grown_programs.specs.Served.{IsServed, pipeline_channels}
use Rattle.handshake_expand.specs.Layout.{node_count, nodes_of}
use Rattle.net_compose.specs.Carries.{Carries}
use Rattle.net_compose.specs.Points.{IsTranslated, TranslationCarries}
use Rattle.net_compose.specs.Translation.{translation}
use Rattle.program_maker.specs.Generated.{generated_text}
use Rattle.prs_core.specs.Nets.{IsNet, NetValue}
use Rattle.width_check.specs.Faults.{naming_faults, HasNone}
use Rattle.width_check.specs.Form.{channels_of, vars_of, process_form}
use Rattle.width_check.specs.Processes.{TypedProgram}
use Rattle.width_check.specs.Typing.{IsTyped}
use Rattle.command_answers.specs.Answers.{Answer}
use Rattle.command_steps.specs.Orders.{Played}
use Rattle.command_words.specs.GrowWords.{IsGrowable}
use Rattle.command_words.specs.declared.grow_words.Growth.{Growth}
use Rattle.grown_commands.specs.Summing.{IsCalmSummary, SumsUp, grown_script, most_of_summed_moves}
use Rattle.grown_commands.proofs.Summed.{carried_calmly, script_of_net, served_few, served_form, served_wired}

module _ (grown : (seed stages : ℕ) → 1 ≤ stages → stages ≤ 400 → IsServed (generated_text seed stages) (pipeline_channels stages) (20 + 154 * stages))
    (is_typed : (t : ProgramTree) → IsShaped t → HasNone t naming_faults → IsTyped (channels_of t.decls) (vars_of t.decls) (process_form t.decls t.body))
    (whole : (p : TypedProgram) → IsTyped p.channels p.vars p.body → nodes_of p ≤ 65536 → IsNet (translation p)) (carry : TranslationCarries)
    (powered : (net : NetValue) (high : Bool) → IsNet net → IsSome net.reset → IsPowered net (power_of net high))
    (law : (net : NetValue) (script : List OfferValue) (st : RunState) (n : ℕ) → IsNet net →
    ((IsSafeMove net script st n × IsApart net (moved net st n)) ↔ (hazard_of net script st n ≡ None))) where
  module _ (growth : Growth) (played : Played) (place : ℕ) (answer : Answer) (is : IsGrowable growth) (sums : SumsUp growth played place answer) where
    served : IsServed (generated_text growth.seed growth.stages) (pipeline_channels growth.stages) (20 + 154 * growth.stages)
    served = grown growth.seed growth.stages is.some is.most

    few : node_count sums.program ≤ 20 + 154 * growth.stages
    few = served_few _ _ _ served sums.program sums.read

    translated : IsTranslated sums.program
    translated =
        subst IsTranslated (sym (served_form _ _ _ served sums.program sums.read))
        (record { typed = is_typed served.program (read_shaped _ served.program served.reads) served.accepted.named; sharing = served.accepted.sharing })

    carries : Carries (translation sums.program) sums.program
    carries = carry sums.program translated

    kept : IsNet (translation sums.program)
    kept = whole sums.program translated.typed (omega (arith, few, is.most))

    pub calm_summary : IsCalmSummary growth sums.program sums.ran
    calm_summary = record {
      few = few;
      calm = carried_calmly powered law (translation sums.program) sums.program (grown_script growth.seed growth.stages) played place 0
          most_of_summed_moves sums.ran kept refl carries
          (script_of_net growth.seed growth.stages sums.program (translation sums.program) carries
          (served_wired _ _ _ served sums.program sums.read)) sums.run;
    }
