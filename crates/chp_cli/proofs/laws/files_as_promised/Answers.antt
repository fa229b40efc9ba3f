use Rattle.chp_cli.proofs.FilesCompiled.{are_compiled}
use Rattle.chp_cli.proofs.laws.files_as_promised.Goals as goal

pub returns : goal.returns
returns c =
    are_compiled c.form_is_typed.ensures c.whole_nets.ensures c.carries.ensures c.runs_end.ensures.every c.runs_end.ensures.plain c.carries_reset.ensures
    c.runs_end_reset.ensures c.shared_nets_are_faithful.ensures
