use Rattle.std.proofs.Common.{◌≡◌, length, drop}
use Rattle.prs_core.specs.Pairs.{or_of}
use Rattle.call_compose.specs.Placing.{with_asked}
use Rattle.call_compose.specs.Walking.{requests_of}
use Rattle.call_compose.proofs.procs.ask_bodies.Given as goal

abbrev pub invariant-loop-proc : goal.invariant-loop-proc
invariant-loop-proc l = record {
  asked : with_asked (λ k. or_of (requests_of k l.calls)) l.from l.proc (drop l.proc l.requests) l.drivers
      ≡ with_asked (λ k. or_of (requests_of k l.calls)) l.from 0 l.requests l.fn.drivers;
  count : length l.drivers ≡ length l.fn.drivers;
}
