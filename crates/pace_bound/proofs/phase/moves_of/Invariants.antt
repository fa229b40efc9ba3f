use Rattle.std.proofs.Common.{◌≡◌, ◌≤◌, suc, drop, map}
use Rattle.std.specs.Prelude.{max}
use Rattle.width_check.specs.Typed.{program_of}
use Rattle.width_check.specs.View.{process_of}
use Rattle.handshake_expand.specs.Layout.{capped}
use Rattle.round_time.specs.Longest.{greatest}
use Rattle.round_time.specs.Phases.{phase}
use Rattle.pace_bound.proofs.phase.moves_of.Given as goal

abbrev pub invariant-loop-place : goal.invariant-loop-place
invariant-loop-place l =
    let P = program_of l.program in record {
      greatest : max l.most (capped (suc (greatest (map (λ s. phase P (process_of s.now)) (drop l.place l.steps))))) ≡
          capped (suc (greatest (map (λ s. phase P (process_of s.now)) l.steps)));
      least : 1 ≤ l.most;
    }
