use Rattle.delay_script.proofs.Bucketed.{IsFirstSoFar}
use Rattle.delay_script.proofs.calendar.first_bucket.Given as goal

abbrev pub invariant-loop-place : goal.invariant-loop-place
invariant-loop-place l = IsFirstSoFar l.buckets l.place l.first
