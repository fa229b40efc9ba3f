use Rattle.std.proofs.Common.{◌≡◌, ℕ, ◌<◌, false, get_or}
use Rattle.plain_runs.specs.Running.{lost}
use Rattle.plain_runs.proofs.run.first_lost.Given as goal

abbrev pub invariant-loop-other : goal.invariant-loop-other
invariant-loop-other l = (m : ℕ) → m < l.other → lost (get_or l.was m false) (get_or l.now m false) m l.node ≡ false
