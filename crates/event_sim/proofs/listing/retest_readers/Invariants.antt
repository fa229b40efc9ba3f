use Rattle.std.proofs.Common.{◌≡◌, take, length, false, ℕ, List}
use Rattle.std.specs.Prelude.{All, None}
use Rattle.std.specs.List.{find}
use Rattle.prs_core.specs.Moves.{high, both_ways}
use Rattle.guard_rows.specs.Places.{readers_in}
use Rattle.event_sim.specs.Locality.{is_asked, is_ready, once_left, IsLeaving, IsRetested}
use Rattle.event_sim.proofs.listing.retest_readers.Given as goal

abbrev pub invariant-loop-reader : goal.invariant-loop-reader
invariant-loop-reader l = record {
  retested : (done : List ℕ) → All (λ n. is_asked l.indexed done l.state n ≡ false) (readers_in l.edges) →
      IsRetested (is_ready l.indexed done l.state) (readers_in (take l.reader-index l.edges)) (once_left l.fn.moves l.fn.leaving)
      (once_left l.moves l.found.leaving) None l.found.trouble.lost;
  pulled : l.found.trouble.pulled ≡ find (both_ways l.indexed.net (high l.state)) (readers_in (take l.reader-index l.edges));
  count : length l.moves ≡ length l.fn.moves;
  leaving : IsLeaving l.moves l.found.leaving;
}
