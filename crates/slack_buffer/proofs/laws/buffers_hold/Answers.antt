use Rattle.slack_buffer.proofs.Passing.{keeps_passing}
use Rattle.slack_buffer.proofs.LagSteps.{lags_by_one}
use Rattle.slack_buffer.proofs.laws.buffers_hold.Goals as goal

pub returns : goal.returns
returns c p chan k typed meets within inner = record {
  passing = keeps_passing p chan k typed.body_is meets within inner;
  lagging =
      lags_by_one p chan k typed.body_is within inner;
}
