use Rattle.std.proofs.Common.{◌∙◌, ◌+◌, length, take}
use Rattle.command_answers.proofs.Pieces.{beginning, bytes_of, on_err}
use Rattle.command_answers.proofs.say.put_pieces.Goals as goal

pub returns-in_err-write_all-clause-prefix : goal.returns-in_err-write_all-clause-prefix
returns-in_err-write_all-clause-prefix g c =
    let W = g.W.Sink in
    let loop = c.loop-piece in
    let part = c.in_err-write_all.ensures.prefix in
    on_err c.from_residual.result (
      length (bytes_of (take loop.piece-index c.args.pieces.now)) + part.0,
      λ told. beginning (W.written c.args.say.now) (W.written loop.say) (W.written c.write_all.new.sink) _ c.args.pieces.now loop.piece-index part.0 _
          c.loop-piece-test.true c.as_bytes.ensures.value part.1 (loop.invariant.told told) (part.2 (loop.invariant.same ∙ told)),
    )
