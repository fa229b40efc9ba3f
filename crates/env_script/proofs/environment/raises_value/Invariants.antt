use Rattle.std.proofs.Common.{◌≡◌, ◌*◌, drop}
use Rattle.prs_core.specs.Moves.{high}
use Rattle.env_script.specs.Environment.{raises_value}
use Rattle.env_script.proofs.environment.raises_value.Given as goal

abbrev pub invariant-loop-bit : goal.invariant-loop-bit
invariant-loop-bit l = raises_value (high l.state) l.rest (drop (2 * l.bit) l.rails) l.node ≡ raises_value (high l.state) l.value l.rails l.node
