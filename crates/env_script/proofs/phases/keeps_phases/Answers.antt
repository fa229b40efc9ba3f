use Rattle.std.proofs.Common.{ap, length, sym, ◌∙◌, not, arith}
use Rattle.std.specs.Prelude.{position}
use Rattle.prs_core.specs.declared.wires.Wires.{Wires}
use Rattle.prs_core.specs.Moves.{high}
use Rattle.env_script.specs.Phases.{phases_keep}
use Rattle.env_script.proofs.Wires.{wired_at, place_fits}
use Rattle.env_script.proofs.phases.keeps_phases.Goals as goal

pub first_fault-requires : goal.first_fault-requires
first_fault-requires c = λ k d within.
    let all = c.channels.ensures.channels in
    rw (all, c.requires.state) (wired_at c.args.net.now c.channels.ensures.net k d (omega (arith, ap length all)))

pub overflow_cast-result : goal.overflow_cast-result
overflow_cast-result c =
    let p = λ (w : Wires). not (phases_keep (high c.args.state.now) w c.args.node) in
    let small = place_fits c.args.net.now c.channels.ensures.net p c.in-Some.chan (ap (position p) (sym c.channels.ensures.channels) ∙ sym c.in-Some.ensures) in
    omega arith
