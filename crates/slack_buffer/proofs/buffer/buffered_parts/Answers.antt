use Rattle.slack_buffer.proofs.Making.{both_pushed}
use Rattle.slack_buffer.proofs.buffer.buffered_parts.Goals as goal

pub returns : goal.returns
returns c = both_pushed c.new-parts.result.items c.push.new.self.items c.push-2.new.self.items c.in_ok-rerouted.field-0 c.in_ok-buffer_statement.field-0 _ _
    c.new-parts.ensures.items c.in_ok-push.ensures.items c.in_ok-push-2.ensures.items c.in_ok-rerouted.ensures c.in_ok-buffer_statement.ensures
