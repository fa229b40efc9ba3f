use Rattle.slack_buffer.proofs.Whole.{right_buffer, was_shaped}
use Rattle.slack_buffer.proofs.laws.buffers_keep.Goals as goal

pub returns-clause-right : goal.returns-clause-right
returns-clause-right c = right_buffer

pub returns-clause-shaped : goal.returns-clause-shaped
returns-clause-shaped c = was_shaped
