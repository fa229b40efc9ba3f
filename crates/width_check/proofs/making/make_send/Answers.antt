use Rattle.std.proofs.Common.{refl, false}
use Rattle.chp_syntax.specs.View.{expression_of}
use Rattle.width_check.proofs.Doing.{send_sound}
use Rattle.width_check.proofs.Soundness.{is_declared}
use Rattle.width_check.proofs.making.make_send.Goals as goal

pub bits-requires-clause-declared : goal.bits-requires-clause-declared
bits-requires-clause-declared c =
    is_declared c.args.scope.now.decls.now c.args.chan.now.name false
    (send_sound c.args.scope.now.decls.now c.args.chan.now (expression_of c.args.value.now) c.requires.sound).0

pub make_expression-requires-clause-sound : goal.make_expression-requires-clause-sound
make_expression-requires-clause-sound c =
    rw c.bits.ensures.value (send_sound c.args.scope.now.decls.now c.args.chan.now (expression_of c.args.value.now) c.requires.sound).1

pub number-requires : goal.number-requires
number-requires c =
    is_declared c.args.scope.now.decls.now c.args.chan.now.name false
    (send_sound c.args.scope.now.decls.now c.args.chan.now (expression_of c.args.value.now) c.requires.sound).0

pub returns : goal.returns
returns c =
    let sound = send_sound c.args.scope.now.decls.now c.args.chan.now (expression_of c.args.value.now) c.requires.sound in
    rw (c.number.ensures.channel sound.0, c.in_ok-value.ensures, c.bits.ensures.value) refl
