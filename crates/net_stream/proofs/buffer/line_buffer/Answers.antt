use Rattle.std.proofs.Common.{All, subst, vec_capacity, arith}
use Rattle.std.proofs.lemmas.Result.{IfOk-weaker}
use Rattle.net_stream.specs.Rooms.{HasRoomForLines, IsFew}
use Rattle.net_stream.proofs.FewLiterals.{has_room}
use Rattle.net_stream.proofs.buffer.line_buffer.Goals as goal

pub returns-in-Some-clause-room : goal.returns-in-Some-clause-room
returns-in-Some-clause-room c =
    let n = c.net.inside in
    let most = c.most_of.result in
    let few = subst (All (IsFew most)) c.deref.ensures.value c.most_of.ensures in
    IfOk-weaker c.with_capacity.result _ _ (λ line h. subst (λ net. HasRoomForLines net (vec_capacity line)) c.net.view_is
    (has_room most (vec_capacity line) (omega (arith, h, c.in-Some.ensures)) n.names n.first.items n.drivers.items n.channels.items n.reset few))
    c.with_capacity.ensures.capacity
