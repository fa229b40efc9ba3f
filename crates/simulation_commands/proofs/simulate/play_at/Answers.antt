use Rattle.simulation_commands.proofs.Asking.{asked_at}
use Rattle.simulation_commands.specs.Asked.{simulated_enabled}
use Rattle.simulation_commands.proofs.Keeping.{led_at, objects_at, played_at}
use Rattle.command_steps.proofs.Stopping.{ok_both}
use Rattle.command_words.proofs.Results.{ok_in}
use Rattle.simulation_commands.proofs.simulate.play_at.Goals as goal

pub returns-clause-led : goal.returns-clause-led
returns-clause-led g c =
    ok_both c.play.result _ _ _ (λ ran run led. led_at _ _ _ _ _ c.requires.place c.index_mut.ensures.value _ _ ran run led)
    c.play.ensures.played c.play.ensures.led

pub returns-clause-played : goal.returns-clause-played
returns-clause-played g c = played_at _ _ _ _ _ c.requires.place c.index_mut.ensures.value c.play.ensures.name c.play.ensures.grown

pub returns-clause-objects : goal.returns-clause-objects
returns-clause-objects g c = objects_at _ _ c.index_mut.result.now _ c.requires.place c.index_mut.ensures.value c.play.ensures.kind

pub returns-clause-asked : goal.returns-clause-asked
returns-clause-asked g c =
    ok_in c.play.result _ _ (λ ran through. asked_at _ (simulated_enabled c.args.sim) c.args.seed _ _ _ _ c.requires.place c.index_mut.ensures.value through)
    c.play.ensures.asked
