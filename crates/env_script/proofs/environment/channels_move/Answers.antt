use Rattle.std.proofs.Common.{arith}
use Rattle.env_script.proofs.Wires.{wired_read}
use Rattle.env_script.proofs.environment.channels_move.Goals as goal

pub offer_moves-requires-clause-wired : goal.offer_moves-requires-clause-wired
offer_moves-requires-clause-wired c =
    wired_read c.args.net.now c.channels-channels.ensures.net _ c.requires.state _ c.channels-channels.ensures.channels c.loop-chan.chan _ (omega arith)
    c.index-channels-chan.is
