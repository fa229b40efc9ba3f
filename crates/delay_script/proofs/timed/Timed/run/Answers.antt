use Rattle.std.proofs.Common.{subst}
use Rattle.delay_script.specs.TimedRuns.{TimedValue, IsTimedRan}
use Rattle.delay_script.proofs.timed.Timed.run.Goals as goal

pub returns : goal.returns
returns c = (
  c.run.result.moves.items,
  subst (λ (t : TimedValue). IsTimedRan t c.run.result.moves.items c.run.result.timed.ran c.run.result.timed.time) c.self.view_is c.run.ensures.ran,
)
