use Rattle.slack_buffer.proofs.InnerChannels.{decided}
use Rattle.slack_buffer.proofs.buffer.is_inner_channel.Goals as goal

pub returns : goal.returns
returns c = rw c.deref.ensures.value at (decided c.deref.result.now c.args.chan.now c.declares_inner.result c.declares_inner.ensures)
