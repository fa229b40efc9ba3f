use Rattle.wave_file.proofs.Readings.{timescale_refused, refused_on, head_all, head_none}
use Rattle.wave_file.proofs.read.read_head.Goals as goal

pub returns-in_err-rest-clause-refused : goal.returns-in_err-rest-clause-refused
returns-in_err-rest-clause-refused c =
    refused_on c.from_residual.result c.in_err-rest.field-0.0 c.args.text.now c.from_residual.ensures.1
    (timescale_refused c.args.text.now _ c.in_err-rest.ensures.refused)

pub returns-clause-told : goal.returns-clause-told
returns-clause-told c = head_all c.behind_line-2.result c.args.text.now c.in_ok-rest.rest.now c.in_ok-rest.ensures.told c.behind_line-2.ensures.told

pub returns-clause-refused : goal.returns-clause-refused
returns-clause-refused c = head_none c.behind_line-2.result c.args.text.now c.in_ok-rest.rest.now c.in_ok-rest.ensures.told c.behind_line-2.ensures.refused
