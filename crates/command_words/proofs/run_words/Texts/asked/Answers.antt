use Rattle.std.proofs.Common.{◌≡◌, ◌∙◌, ap, sym, Option, None, Some, option_map, refl}
use Rattle.clap.specs.Walk.{Text}
use Rattle.command_words.specs.CommandWords.{simulate_asked, simulates}
use Rattle.command_words.specs.SimulateWords.{AskedRun, GivenTexts, by_order, run_with, simulation_by, simulation_with, text_given, texts_given}
use Rattle.command_words.proofs.run_words.Texts.asked.Goals as goal

ordered : (o : Option AskedRun) → option_map simulate_asked (option_map by_order o) ≡ option_map simulates o
ordered None = refl
ordered (Some run) = refl

without_delays : (t : GivenTexts) → t.delays ≡ None → option_map simulate_asked (simulation_with t) ≡ option_map simulates (run_with t)
without_delays t none = ap (λ (d : Option Text). option_map simulate_asked (simulation_by t d)) none ∙ ordered (run_with t)

pub returns-in-None-clause-asked : goal.returns-in-None-clause-asked
returns-in-None-clause-asked c = c.simulation.ensures.asked ∙ sym (without_delays (texts_given c.args.self) (ap text_given c.in-None.is))
