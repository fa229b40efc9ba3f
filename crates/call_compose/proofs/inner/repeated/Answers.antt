use Rattle.std.proofs.Common.{sym, ap, ◌∙◌}
use Rattle.width_check.specs.Processes.{repeating}
use Rattle.width_check.specs.View.{process_of}
use Rattle.call_compose.proofs.inner.repeated.Goals as goal

pub returns : goal.returns
returns c = ap process_of c.in-Repeat.is ∙ ap (λ b. repeating (process_of b)) (sym c.deref.ensures)
