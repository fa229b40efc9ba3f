use Rattle.std.proofs.Common.{arith}
use Rattle.pace_bound.proofs.Ending.{raised_by}
use Rattle.pace_bound.proofs.site.note_step.Goals as goal

pub raise-requires : goal.raise-requires
raise-requires c = let mark = rw c.in-Some.is at c.mark_of.ensures in omega (arith, mark.within, c.requires.sized)

pub returns-in-Some : goal.returns-in-Some
returns-in-Some c =
    let mark = rw c.in-Some.is at c.mark_of.ensures in
    raised_by _ _ c.in-Some.mark.place c.in-Some.mark.moves _ (omega (arith, mark.within, c.requires.sized)) c.raise.ensures mark.said mark.alone
