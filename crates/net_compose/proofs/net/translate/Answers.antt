use Rattle.width_check.specs.Typed.{program_of}
use Rattle.net_compose.proofs.net.translate.Goals as goal

pub returns-in-Ok-clause-carries : goal.returns-in-Ok-clause-carries
returns-in-Ok-clause-carries c = c.carries.ensures (program_of c.args.program.now) c.in_ok-circuit.ensures.translated

pub returns-in-Ok-clause-progresses : goal.returns-in-Ok-clause-progresses
returns-in-Ok-clause-progresses c = c.runs_end.ensures.every (program_of c.args.program.now) c.in_ok-circuit.ensures.translated
