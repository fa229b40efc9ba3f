use Rattle.std.proofs.Common.{take}
use Rattle.std.specs.Prelude.{IsOkAnd, OnOk}
use Rattle.width_check.specs.Sharing.{reads_of_parts, reads_of_operations}
use Rattle.width_check.proofs.Rows.{parts_of, links_of}
use Rattle.sharing_check.specs.Tells.{Adds}
use Rattle.sharing_check.proofs.deeds.+note_reads.Given as goal

abbrev pub invariant-loop-part : goal.invariant-loop-part
invariant-loop-part l = OnOk l.noted (Adds l.cause (reads_of_parts (parts_of (take l.part-index l.part-items))) l.initial.deeds l.deeds)

abbrev pub invariant-loop-link : goal.invariant-loop-link
invariant-loop-link l = OnOk l.noted (IsOkAnd l.initial.noted (λ done. Adds l.cause (reads_of_operations (links_of (take l.link-index l.link-items)))
    l.initial.deeds l.deeds))
