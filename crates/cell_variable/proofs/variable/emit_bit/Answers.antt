use Rattle.prs_core.specs.Partly.{partly_none}
use Rattle.prs_core.specs.Writing.{alone_on}
use Rattle.cell_variable.specs.Variables.{bit_at, bit_owned}
use Rattle.cell_variable.proofs.Filled.{are_other, half_bit, whole_bit}
use Rattle.cell_variable.proofs.variable.emit_bit.Goals as goal

pub returns-in_err-emit_rail-clause-others : goal.returns-in_err-emit_rail-clause-others
returns-in_err-emit_rail-clause-others c = λ k o. c.emit_rail.ensures.others k (are_other c.args.bit k o).rail_t

pub returns-in_err-emit_rail-2-clause-others : goal.returns-in_err-emit_rail-2-clause-others
returns-in_err-emit_rail-2-clause-others c = λ k o.
    let other = are_other c.args.bit k o in
    alone_on c.args.rules.now c.emit_rail.new.rules c.emit_rail-2.new.rules k (c.emit_rail.ensures.others k other.rail_t)
    (c.emit_rail-2.ensures.others k other.rail_f)

pub returns-clause-others : goal.returns-clause-others
returns-clause-others c = λ k o.
    let other = are_other c.args.bit k o in
    alone_on c.args.rules.now c.emit_rail.new.rules c.emit_written.new.rules k (c.emit_rail.ensures.others k other.rail_t)
    (alone_on c.emit_rail.new.rules c.emit_rail-2.new.rules c.emit_written.new.rules k (c.emit_rail-2.ensures.others k other.rail_f)
    (c.emit_written.ensures.others k other.written))

pub returns-in_err-emit_rail-clause-partly : goal.returns-in_err-emit_rail-clause-partly
returns-in_err-emit_rail-clause-partly c = partly_none (bit_owned (bit_at c.args.bit)) c.args.rules.now c.emit_rail.new.rules c.in_err-emit_rail.ensures.kept

pub returns-in_err-emit_rail-2-clause-partly : goal.returns-in_err-emit_rail-2-clause-partly
returns-in_err-emit_rail-2-clause-partly c =
    half_bit c.args.bit c.args.rules.now c.emit_rail.new.rules c.emit_rail-2.new.rules c.in_ok-emit_rail.ensures.made c.in_err-emit_rail-2.ensures.kept

pub returns-clause-partly : goal.returns-clause-partly
returns-clause-partly c = whole_bit c.args.bit c.args.rules.now c.emit_rail.new.rules c.emit_rail-2.new.rules c.emit_written.new.rules c.emit_written.result
    c.in_ok-emit_rail.ensures.made c.in_ok-emit_rail-2.ensures.made c.emit_written.ensures.made c.emit_written.ensures.kept
