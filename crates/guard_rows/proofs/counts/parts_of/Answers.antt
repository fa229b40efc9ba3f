use Rattle.std.proofs.Common.{◌∙◌, sym}
use Rattle.guard_rows.proofs.Counting.{two_alone, second_passes}
use Rattle.guard_rows.proofs.counts.parts_of.Goals as goal

pub returns-clause-over : goal.returns-clause-over
returns-clause-over c = λ passes all.
    let terms = c.terms-terms.result.now in
    let first = c.index-terms-0-2.result in
    let second = c.index-terms-1.result in
    let two = two_alone terms first second c.if-terms-ne2.false c.index-terms-0-2.is c.index-terms-1.is in
    c.in_ok-node.ensures.passes passes (second_passes passes c.args.guard.now first second (sym c.terms-terms.ensures ∙ two) all)
