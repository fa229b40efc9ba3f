use Rattle.cell_channel.proofs.Port.{taken_begin, taken_more, taken_alone, taken_partly}
use Rattle.cell_channel.proofs.WrittenPorts.{ports_keep}
use Rattle.cell_channel.proofs.emit.emit_receive_port.Goals as goal

pub returns-in_err-emit_taken_rail-clause-others : goal.returns-in_err-emit_taken_rail-clause-others
returns-in_err-emit_taken_rail-clause-others c =
    taken_alone c.args.request c.args.rails.now c.args.from c.args.rules.now c.loop-rail.rail-index c.loop-rail.node c.loop-rail.rules
    c.emit_taken_rail.new.rules c.loop-rail.invariant c.loop-rail-test.true c.emit_taken_rail.ensures.others

pub loop-rail-preserved : goal.loop-rail-preserved
loop-rail-preserved c =
    taken_more c.args.request c.args.rails.now c.args.from c.args.rules.now c.loop-rail.rail-index c.loop-rail.node c.loop-rail.rules
    c.emit_taken_rail.new.rules c.loop-rail.invariant c.loop-rail-test.true c.in_ok-emit_taken_rail.ensures.made c.emit_taken_rail.ensures.nodes
    c.emit_taken_rail.ensures.others

pub loop-rail-init : goal.loop-rail-init
loop-rail-init c = taken_begin c.args.request c.args.rails.now c.args.from c.args.rules.now

pub returns-in_err-emit_taken_rail-clause-partly : goal.returns-in_err-emit_taken_rail-clause-partly
returns-in_err-emit_taken_rail-clause-partly c =
    taken_partly c.args.request c.args.rails.now c.args.from c.args.rules.now c.loop-rail.rail-index c.loop-rail.node c.loop-rail.rules
    c.emit_taken_rail.new.rules c.loop-rail.invariant c.in_err-emit_taken_rail.ensures.kept

pub returns-clause-keeps : goal.returns-clause-keeps
returns-clause-keeps c = ports_keep c.args.request c.args.rails.now c.args.from

pub returns-in_err-emit_taken_rail-clause-keeps : goal.returns-in_err-emit_taken_rail-clause-keeps
returns-in_err-emit_taken_rail-clause-keeps c = ports_keep c.args.request c.args.rails.now c.args.from
