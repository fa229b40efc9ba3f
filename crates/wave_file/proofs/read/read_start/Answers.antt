use Rattle.std.proofs.Common.{◌+◌, length, arith}
use Rattle.wave_file.specs.WaveReading.{at_definitions}
use Rattle.wave_file.proofs.Readings.{definitions_refused, refused_from, start_all, start_short, start_none}
use Rattle.wave_file.proofs.read.read_start.Goals as goal

pub returns-in_err-rest-clause-refused : goal.returns-in_err-rest-clause-refused
returns-in_err-rest-clause-refused c =
    let names = c.args.names.now in
    refused_from c.from_residual.result c.in_err-rest.field-0.0 (length names + 3) (at_definitions names) c.args.text.now c.from_residual.ensures.1
    (λ whole so_far. definitions_refused whole c.args.text.now names _ _ so_far (omega arith) c.in_err-rest.ensures.refused)

pub returns-clause-told : goal.returns-clause-told
returns-clause-told c =
    start_all c.behind_line-2.result c.args.text.now c.in_ok-rest.rest.now c.args.names.now c.in_ok-rest.ensures.told c.behind_line-2.ensures.told

pub returns-clause-short : goal.returns-clause-short
returns-clause-short c = start_short c.behind_line-2.result c.args.text.now c.in_ok-rest.rest.now c.in_ok-rest.ensures.told c.behind_line-2.ensures.told

pub returns-clause-refused : goal.returns-clause-refused
returns-clause-refused c =
    start_none c.behind_line-2.result c.args.text.now c.in_ok-rest.rest.now c.args.names.now _ c.in_ok-rest.ensures.told (omega arith)
    c.behind_line-2.ensures.refused
