use Rattle.std.proofs.Common.{◌≡◌, length, drop, false}
use Rattle.std.specs.Prelude.{replicate}
use Rattle.width_check.specs.Typed.{program_of}
use Rattle.net_compose.specs.Translation.{vars_high}
use Rattle.net_compose.proofs.Raised.{with_raised}
use Rattle.net_compose.proofs.first.declared_values.Given as goal

abbrev pub invariant-loop-var : goal.invariant-loop-var
invariant-loop-var l = record {
  values : with_raised l.first.items (vars_high (program_of l.program) l.var (drop l.var l.vars)) ≡ with_raised (replicate l.count false)
      (vars_high (program_of l.program) 0 l.program.vars);
  count : length l.first.items ≡ l.count;
}
