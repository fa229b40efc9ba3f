use Rattle.command_answers.proofs.Pieces.{said}
use Rattle.command_answers.proofs.say.say_pieces.Goals as goal

pub returns-clause-said : goal.returns-clause-said
returns-clause-said g c =
    let put = c.put_pieces.ensures in
    said g.W.Sink c.args.say.now c.put_pieces.new.say _ c.put_pieces.result put.whole put.failed put.prefix
