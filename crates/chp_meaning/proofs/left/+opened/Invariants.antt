use Rattle.std.proofs.Common.{◌≡◌, drop}
use Rattle.width_check.specs.View.{members_in}
use Rattle.chp_meaning.specs.Remaining.{each_begun}
use Rattle.chp_meaning.proofs.Rows.{front}
use Rattle.chp_meaning.proofs.left.+opened.Given as goal

abbrev pub decreases-opened : goal.decreases-opened
decreases-opened l = goal.size-opened l

abbrev pub invariant-loop-part : goal.invariant-loop-part
invariant-loop-part l = front l.lefts.items (each_begun (members_in (drop l.part-index l.part-items))) ≡ each_begun (members_in l.part-items)
