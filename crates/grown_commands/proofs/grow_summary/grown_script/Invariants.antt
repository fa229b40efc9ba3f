use Rattle.std.proofs.Common.{◌≡◌, ◌∷◌, map}
use Rattle.std.specs.Prelude.{replicate}
use Rattle.env_script.specs.Offers.{offered}
use Rattle.env_script.specs.Scripts.{gives, nothing}
use Rattle.program_maker.specs.Drawn.{drawn_values}
use Rattle.grown_commands.proofs.grow_summary.grown_script.Given as goal

abbrev pub invariant-loop-channel : goal.invariant-loop-channel
invariant-loop-channel l =
    map offered l.offers.items ≡ gives (drawn_values l.growth.seed l.growth.stages) ∷ replicate l._channel nothing
