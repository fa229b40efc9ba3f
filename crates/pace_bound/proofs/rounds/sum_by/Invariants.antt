use Rattle.std.proofs.Common.{◌≡◌, ℕ, suc, ◌<◌}
use Rattle.width_check.specs.Typed.{program_of}
use Rattle.handshake_expand.specs.Layout.{capped}
use Rattle.chp_meaning.specs.Rounds.{rounds_from}
use Rattle.chp_meaning.specs.Ends.{seen, IsOf, CanStep}
use Rattle.round_time.specs.Longest.{first}
use Rattle.round_time.specs.Sums.{sum_from}
use Rattle.pace_bound.proofs.Summed.{begins_after}
use Rattle.pace_bound.proofs.rounds.sum_by.Given as goal

abbrev pub invariant-loop-rounds : goal.invariant-loop-rounds
invariant-loop-rounds l =
    let P = program_of l.program in
    let c = seen l.program l.fn.config in record {
      of : IsOf l.program l.config;
      so_far : seen l.program l.config ≡ rounds_from c l.rounds;
      sum : l.sum ≡ capped (sum_from P (suc (first P P.body)) c l.rounds);
      moves : l.moves ≡ capped (suc (begins_after P (suc (first P P.body)) c l.rounds));
      goes_on : (k : ℕ) → k < l.rounds → CanStep (rounds_from c k);
    }
