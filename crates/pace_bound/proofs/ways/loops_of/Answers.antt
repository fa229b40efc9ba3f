use Rattle.std.proofs.Common.{false, ◌++◌, map, ap, ◌∙◌}
use Rattle.width_check.specs.Typed.{program_of}
use Rattle.width_check.specs.View.{process_of}
use Rattle.round_time.specs.Ways.{loops_within}
use Rattle.pace_bound.specs.Whereabouts.{loop_of, measured}
use Rattle.pace_bound.proofs.LoopsNoted.{loops_exact}
use Rattle.pace_bound.proofs.ways.loops_of.Goals as goal

pub returns : goal.returns
returns c =
    let P = program_of c.args.program.now in
    c.in_ok-within.ensures.loops
    ∙ (ap (λ l. map loop_of l ++ map (measured false P) (loops_within P (process_of c.body.result.now))) c.new-found.ensures.items
    ∙ (ap (λ s. map (measured false P) (loops_within P (process_of s))) c.body.ensures.body ∙ loops_exact P P.body))
