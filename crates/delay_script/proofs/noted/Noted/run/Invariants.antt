use Rattle.std.proofs.Common.{◌≡◌, ◌≤◌, length}
use Rattle.std.specs.Prelude.{vec_capacity}
use Rattle.prs_core.specs.Nets.{IsNet}
use Rattle.delay_script.specs.DelayTables.{IsDelayTable}
use Rattle.delay_script.specs.Dues.{IsOnItsWay}
use Rattle.delay_script.proofs.noted.Noted.run.Given as goal

abbrev pub invariant-loop-made : goal.invariant-loop-made
invariant-loop-made l = record {
  steps : l.steps ≡ l.fn.self.steps;
  net : IsNet l.fn.self.net;
  few : l.fn.self.steps ≤ 1000000;
  table : IsDelayTable (length l.fn.self.net.first) l.fn.self.delays;
  delays : l.course.delays ≡ l.fn.self.delays;
  slots : l.fn.self.steps ≤ vec_capacity l.course.moves;
  count : length l.course.moves.items ≡ l._made;
  way : IsOnItsWay l.fn.self l.course.moves.items l.course.stage l.course.queue l.hazard;
}
