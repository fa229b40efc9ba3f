use Rattle.std.proofs.Common.{◌≡◌, [], replicate}
use Rattle.delay_script.proofs.calendar.empty_buckets.Given as goal

abbrev pub invariant-loop-place : goal.invariant-loop-place
invariant-loop-place l = l.buckets.items ≡ replicate l._place (record { time = 0; nodes = []; room = l.room })
