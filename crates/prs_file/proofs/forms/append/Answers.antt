use Rattle.std.proofs.Common.{arith}
use Rattle.prs_file.proofs.Pieces.{joined_front, no_piece}
use Rattle.prs_file.proofs.forms.append.Goals as goal

pub returns-in_err-extend_from_slice-clause-err : goal.returns-in_err-extend_from_slice-clause-err
returns-in_err-extend_from_slice-clause-err c =
    absurd (omega (
      arith,
      c.in_err-extend_from_slice.ensures.full,
      c.loop-piece.invariant.room,
      joined_front c.args.pieces.now c.loop-piece.piece-index no_piece c.loop-piece-test.true,
    ))

pub returns-in_err-extend_from_slice-clause-room : goal.returns-in_err-extend_from_slice-clause-room
returns-in_err-extend_from_slice-clause-room c =
    absurd (omega (
      arith,
      c.in_err-extend_from_slice.ensures.full,
      c.loop-piece.invariant.room,
      joined_front c.args.pieces.now c.loop-piece.piece-index no_piece c.loop-piece-test.true,
    ))
