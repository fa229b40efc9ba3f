use Rattle.std.proofs.Common.{◌≡◌, ◌*◌, drop}
use Rattle.prs_core.specs.Moves.{high}
use Rattle.env_script.specs.Phases.{rails_keep}
use Rattle.env_script.proofs.phases.rails_keep.Given as goal

abbrev pub invariant-loop-bit : goal.invariant-loop-bit
invariant-loop-bit l = rails_keep (high l.state) l.ack (drop (2 * l.bit) l.rails) l.node ≡ rails_keep (high l.state) l.ack l.rails l.node
