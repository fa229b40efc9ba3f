use Rattle.std.proofs.lemmas.Result.{on_ok_weaker}
use Rattle.width_check.specs.Typed.{program_of}
use Rattle.handshake_expand.proofs.print.part_line.Goals as goal

pub returns : goal.returns
returns c =
    on_ok_weaker c.named_line.result (λ lines. lines (program_of c.args.program.now) c.name_from-request_end.ensures.name c.name_from-answer_end.ensures.name)
    c.named_line.ensures
