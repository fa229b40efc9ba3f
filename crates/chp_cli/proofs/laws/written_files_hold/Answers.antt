use Rattle.chp_cli.proofs.FilesCompiled.{written_holds}
use Rattle.chp_cli.proofs.laws.written_files_hold.Goals as goal

pub returns : goal.returns
returns c = written_holds (λ text program plain made chan reads short means is puts.
    (c.meant_buffers_are_right.ensures text program plain made chan reads short means is puts).accepted)
