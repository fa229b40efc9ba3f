use Rattle.std.proofs.Common.{◌≡◌, [], replicate}
use Rattle.plain_runs.proofs.run.no_histories.Given as goal

abbrev pub invariant-loop-channel : goal.invariant-loop-channel
invariant-loop-channel l = l.histories.items ≡ replicate l._channel []
