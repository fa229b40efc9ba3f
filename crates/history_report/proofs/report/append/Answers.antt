use Rattle.std.proofs.Common.{◌∙◌, ◌++◌, ap}
use Rattle.std.specs.List.{flat_map}
use Rattle.std.proofs.lemmas.List.{take_all}
use Rattle.history_report.proofs.Pieces.{written_further}
use Rattle.history_report.proofs.report.append.Goals as goal

pub loop-piece-preserved : goal.loop-piece-preserved
loop-piece-preserved c =
    written_further (λ piece. piece.now) c.args.pieces.now c.loop-piece.piece-index _ c.args.to.now.items c.loop-piece-test.true c.loop-piece.invariant
    c.in_ok-extend_from_slice.ensures.items

pub returns : goal.returns
returns c =
    c.loop-piece.invariant
    ∙ ap (λ ps. c.args.to.now.items ++ flat_map (λ piece. piece.now) ps)
    (take_all c.loop-piece.piece-index c.args.pieces.now c.loop-piece-test.false)
