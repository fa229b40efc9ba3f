use Rattle.round_commands.specs.RoundsReporting.{too_full}
use Rattle.round_commands.proofs.rounds.report_rounds.Goals as goal

pub returns-in-Ok-None-clause-stopped : goal.returns-in-Ok-None-clause-stopped
returns-in-Ok-None-clause-stopped c = too_full (rw c.in-Ok-None.field-0-is at c.in-Ok-None.ensures.none)
