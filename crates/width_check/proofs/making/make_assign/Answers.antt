use Rattle.std.proofs.Common.{refl, true}
use Rattle.chp_syntax.specs.View.{expression_of}
use Rattle.width_check.proofs.Doing.{assign_sound}
use Rattle.width_check.proofs.Soundness.{is_declared}
use Rattle.width_check.proofs.making.make_assign.Goals as goal

pub bits-requires-clause-declared : goal.bits-requires-clause-declared
bits-requires-clause-declared c =
    is_declared c.args.scope.now.decls.now c.args.target.now.name true
    (assign_sound c.args.scope.now.decls.now c.args.target.now (expression_of c.args.value.now) c.requires.sound).0

pub make_expression-requires-clause-sound : goal.make_expression-requires-clause-sound
make_expression-requires-clause-sound c =
    rw c.bits.ensures.value (assign_sound c.args.scope.now.decls.now c.args.target.now (expression_of c.args.value.now) c.requires.sound).1

pub number-requires : goal.number-requires
number-requires c =
    is_declared c.args.scope.now.decls.now c.args.target.now.name true
    (assign_sound c.args.scope.now.decls.now c.args.target.now (expression_of c.args.value.now) c.requires.sound).0

pub returns : goal.returns
returns c =
    let sound = assign_sound c.args.scope.now.decls.now c.args.target.now (expression_of c.args.value.now) c.requires.sound in
    rw (c.number.ensures.var sound.0, c.in_ok-value.ensures, c.bits.ensures.value) refl
