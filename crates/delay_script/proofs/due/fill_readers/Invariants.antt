use Rattle.std.proofs.Common.{ℕ, map, take}
use Rattle.delay_script.specs.Dues.{AreFilled}
use Rattle.delay_script.proofs.due.fill_readers.Given as goal

abbrev pub invariant-loop-reader : goal.invariant-loop-reader
invariant-loop-reader l = AreFilled l.stage l.delays l.made (map (λ (e : ℕ × ℕ). e.0) (take l.reader-index l.edges)) l.fn.queue l.queue
