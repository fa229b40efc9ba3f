use Rattle.std.proofs.Common.{refl, ap, arith}
use Rattle.handshake_expand.specs.declared.parts.PartKind.TheVariants.{Sequence}
use Rattle.handshake_expand.specs.PartTree.{each_tree}
use Rattle.handshake_expand.proofs.Trees.{made_part}
use Rattle.handshake_expand.proofs.tree.finished.Goals as goal

pub overflow_add-count : goal.overflow_add-count
overflow_add-count c =
    let room = rw c.in_ok-last.was at c.requires.room in
    omega (arith, room)

pub returns : goal.returns
returns c =
    rw c.in_ok-last.was
    (made_part Sequence Sequence c.args.request _ _ c.args.from _ _ c.push.new.self _ refl refl refl (ap each_tree c.in_ok-push.ensures.items))
