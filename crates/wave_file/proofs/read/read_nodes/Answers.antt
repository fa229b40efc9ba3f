use Rattle.std.proofs.Common.{[], arith}
use Rattle.wave_file.specs.WaveReading.{at_names}
use Rattle.wave_file.proofs.Readings.{refused_on, told_short}
use Rattle.wave_file.proofs.read.read_nodes.Goals as goal

pub returns-in_err-names-clause-refused : goal.returns-in_err-names-clause-refused
returns-in_err-names-clause-refused c =
    refused_on c.from_residual-in_err-names.result c.in_err-names.field-0.0 c.args.text.now c.from_residual-in_err-names.ensures.1
    (c.in_err-names.ensures.refused c.args.text.now c.in_ok-behind_head.ensures.told)

pub returns-in_err-behind_start-clause-refused : goal.returns-in_err-behind_start-clause-refused
returns-in_err-behind_start-clause-refused c =
    let text = c.args.text.now in
    refused_on c.from_residual-in_err-behind_start.result c.in_err-behind_start.field-0.0 text c.from_residual-in_err-behind_start.ensures.1
    ((rw c.deref.ensures.value at c.in_err-behind_start.ensures.refused) text (c.in_ok-names.ensures.told text c.in_ok-behind_head.ensures.told))

pub returns-in_err-values-clause-refused : goal.returns-in_err-values-clause-refused
returns-in_err-values-clause-refused c =
    let text = c.args.text.now in
    let start = (rw c.deref.ensures.value at c.in_ok-behind_start.ensures.told) text (c.in_ok-names.ensures.told text c.in_ok-behind_head.ensures.told) in
    refused_on c.from_residual-in_err-values.result c.in_err-values.field-0.0 text c.from_residual-in_err-values.ensures.1
    ((rw c.deref-2.ensures.value at c.in_err-values.ensures.refused) text start)

pub returns-clause-told : goal.returns-clause-told
returns-clause-told c =
    let text = c.args.text.now in
    let start = (rw c.deref.ensures.value at c.in_ok-behind_start.ensures.told) text (c.in_ok-names.ensures.told text c.in_ok-behind_head.ensures.told) in
    (rw c.deref-2.ensures.value at c.in_ok-values.ensures.told) text start

pub returns-clause-short : goal.returns-clause-short
returns-clause-short c =
    let head = told_short c.args.text.now 2 (at_names []) c.in_ok-behind_head.behind_head.now c.in_ok-behind_head.ensures.told in
    omega (arith, c.requires, head, c.in_ok-names.ensures.short, c.in_ok-behind_start.ensures.short, c.in_ok-values.ensures.short)
