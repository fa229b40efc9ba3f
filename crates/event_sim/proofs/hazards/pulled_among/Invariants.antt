use Rattle.std.proofs.Common.{◌≡◌, drop}
use Rattle.std.specs.List.{find}
use Rattle.prs_core.specs.Moves.{high, both_ways}
use Rattle.guard_rows.specs.Places.{readers_in}
use Rattle.event_sim.proofs.hazards.pulled_among.Given as goal

abbrev pub invariant-loop-reader : goal.invariant-loop-reader
invariant-loop-reader l = find (both_ways l.net (high l.state)) (readers_in (drop l.reader-index l.edges)) ≡
    find (both_ways l.net (high l.state)) (readers_in l.edges)
