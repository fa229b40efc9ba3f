use Rattle.std.proofs.Common.{◌≡◌, drop, slice_index}
use Rattle.prs_core.specs.Moves.{high}
use Rattle.env_script.specs.Scripts.{offer_at}
use Rattle.env_script.specs.Environment.{channels_move}
use Rattle.env_script.proofs.environment.channels_move.Given as goal

abbrev pub invariant-loop-chan : goal.invariant-loop-chan
invariant-loop-chan l = channels_move (high l.state) (offer_at l.script) (slice_index l.done) l.chan (drop l.chan l.channels) l.node ≡
    channels_move (high l.state) (offer_at l.script) (slice_index l.done) 0 l.channels l.node
