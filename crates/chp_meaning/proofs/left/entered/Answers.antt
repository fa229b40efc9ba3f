use Rattle.std.proofs.Common.{sym, subst}
use Rattle.chp_meaning.specs.Remaining.{HasMembers}
use Rattle.chp_meaning.proofs.Rows.{part_members}
use Rattle.chp_meaning.proofs.left.entered.Goals as goal

pub opened-requires : goal.opened-requires
opened-requires c = subst HasMembers (sym c.part.ensures) (part_members _ c.args.index c.requires.within c.requires.members)
