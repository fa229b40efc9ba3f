use Rattle.env_script.specs.LineSteps.{of_nothing}
use Rattle.env_script.proofs.Places.{is_place, no_place, on_channel}
use Rattle.env_script.proofs.step.step_of_line.Goals as goal

pub returns-in-Some : goal.returns-in-Some
returns-in-Some c = λ words says.
    on_channel c.args.channels.now c.args.told.now c.args.values words c.args.line c.index-channels-place.result c.in-Some.place c.step_on.result says
    (is_place c.args.channels.now c.channels.result.now _ c.args.line.name _ c.in-Some.place c.index-channels-place.result
    c.bytes.ensures.bytes c.find.ensures c.in-Some.is c.channels.ensures c.index-channels-place.is) c.step_on.ensures

pub returns-in-None : goal.returns-in-None
returns-in-None c = λ words says.
    of_nothing c.args.line says (no_place c.args.channels.now _ c.args.line.name _ c.bytes.ensures.bytes c.find.ensures c.in-None.is)
