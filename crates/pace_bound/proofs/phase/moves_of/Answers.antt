use Rattle.std.proofs.Common.{suc, map, ap, arith}
use Rattle.std.proofs.lemmas.List.{drop_all}
use Rattle.width_check.specs.Typed.{program_of}
use Rattle.width_check.specs.View.{process_of}
use Rattle.round_time.specs.Longest.{greatest}
use Rattle.round_time.specs.Phases.{phase}
use Rattle.pace_bound.proofs.Ending.{left_least}
use Rattle.pace_bound.proofs.phase.moves_of.Goals as goal

pub returns : goal.returns
returns c =
    let P = program_of c.args.program.now in
    let none = ap (λ xs. suc (greatest (map (λ s. phase P (process_of s.now)) xs))) (drop_all c.loop-place.place c.args.steps.now c.loop-place-test.false) in
    left_least _ _ _ c.loop-place.invariant.greatest (let l = c.loop-place.invariant.least in omega (arith, none))
