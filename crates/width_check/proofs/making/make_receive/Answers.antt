use Rattle.std.proofs.Common.{refl, true, false}
use Rattle.width_check.proofs.Doing.{receive_sound}
use Rattle.width_check.proofs.Soundness.{is_declared}
use Rattle.width_check.proofs.making.make_receive.Goals as goal

pub number-requires : goal.number-requires
number-requires c = is_declared c.args.scope.now.decls.now c.args.chan.now.name false
    (receive_sound c.args.scope.now.decls.now c.args.chan.now c.args.target.now c.requires).0

pub number-requires-2 : goal.number-requires-2
number-requires-2 c = is_declared c.args.scope.now.decls.now c.args.target.now.name true
    (receive_sound c.args.scope.now.decls.now c.args.chan.now c.args.target.now c.requires).1

pub returns : goal.returns
returns c =
    let sound = receive_sound c.args.scope.now.decls.now c.args.chan.now c.args.target.now c.requires in
    rw (c.number.ensures.channel sound.0, c.number-2.ensures.var sound.1) refl
