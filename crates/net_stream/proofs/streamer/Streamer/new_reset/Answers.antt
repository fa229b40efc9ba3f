use Rattle.std.proofs.Common.{refl}
use Rattle.std.specs.Prelude.{Result, Ok, Err, OnOk}
use Rattle.width_check.specs.Typed.{program_of}
use Rattle.net_compose.specs.Progress.{most_moves}
use Rattle.net_compose.specs.Translation.{translation}
use Rattle.net_compose.proofs.NamesFree.{names_free}
use Rattle.net_stream.proofs.streamer.Streamer.new_reset.Goals as goal

on_both : {T E P Q R : Type 0} (r : Result T E) → (P → Q → R) → OnOk r P → OnOk r Q → OnOk r R
on_both (Ok x) f p q = f p q
on_both (Err e) f p q = tt

pub returns-clause-carries : goal.returns-clause-carries
returns-clause-carries c =
    let p = program_of c.args.program.now in
    on_both c.stream_program.result (λ carried whole. c.carries_reset.ensures (translation p) p carried whole refl whole.most (names_free p))
    c.stream_program.ensures.carries c.stream_program.ensures.net

pub returns-clause-progresses : goal.returns-clause-progresses
returns-clause-progresses c =
    let p = program_of c.args.program.now in
    on_both c.stream_program.result (λ progresses whole. c.runs_end_reset.ensures (translation p) p (most_moves p) progresses whole refl (names_free p))
    c.stream_program.ensures.progresses c.stream_program.ensures.net
