use Rattle.wave_file.specs.WaveReading.{turned, begins_turn, begins_time, bad_line}
use Rattle.wave_file.proofs.Readings.{change_wrong, handed_on, turn_of, turn_on, turn_kept, mark_on, mark_back}
use Rattle.std.proofs.Common.{◌∙◌}
use Rattle.wave_file.proofs.read.change_line.Goals as goal

pub returns-in_err-node-clause-refused : goal.returns-in_err-node-clause-refused
returns-in_err-node-clause-refused c =
    let t = c.args.told.now in
    let value = c.in-Some.value in
    let id = c.in-Some.id.now in
    handed_on c.from_residual.result c.in_err-node.field-0.0 _ c.from_residual.ensures.1
    (λ w is. bad_line {l = turned value id} {behind = c.in-Some.rest.now} (begins_turn c.in-Some.ensures.id c.in-Some.ensures.some)
    (turn_of t w value id is ∙ c.in_err-node.ensures.refused))

pub returns-in-Some-clause-told : goal.returns-in-Some-clause-told
returns-in-Some-clause-told c = λ w is.
    turn_on c.args.told.now c.turn.new.told w c.args.text.now c.in-Some.rest.now c.in-Some.value c.in-Some.id.now c.in_ok-node.node is
    c.in_ok-node.ensures.time c.in_ok-node.ensures.node (begins_turn c.in-Some.ensures.id c.in-Some.ensures.some) c.in_ok-node.ensures.told

pub returns-in-Some-clause-so_far : goal.returns-in-Some-clause-so_far
returns-in-Some-clause-so_far c = λ w is.
    turn_kept c.args.told.now c.turn.new.told w c.in_ok-node.node is c.in_ok-node.ensures.names c.in_ok-node.ensures.values

pub returns-in_default-mark_in-clause-refused : goal.returns-in_default-mark_in-clause-refused
returns-in_default-mark_in-clause-refused c = λ w is.
    change_wrong w c.args.told.now.time c.args.text.now c.requires.some c.in_default.ensures.none c.in_default-mark_in.ensures.none

pub returns-in_err-go_on-clause-refused : goal.returns-in_err-go_on-clause-refused
returns-in_err-go_on-clause-refused c =
    let t = c.args.told.now in
    handed_on c.from_residual-in_err-go_on.result c.in_err-go_on.field-0.0 _ c.from_residual-in_err-go_on.ensures.1
    (λ w is. mark_back w c.args.text.now c.in-Some-mark_in.rest.now t.time c.in-Some-mark_in.time c.in_err-go_on.field-0.0
    (begins_time c.in-Some-mark_in.ensures.small c.in-Some-mark_in.ensures.change c.in-Some-mark_in.ensures.some) c.in_err-go_on.ensures.refused)

pub returns-clause-told : goal.returns-clause-told
returns-clause-told c = λ w is.
    mark_on c.args.told.now c.go_on.new.told w c.args.text.now c.in-Some-mark_in.rest.now c.in-Some-mark_in.time c.in_ok-go_on.ensures.time
    c.in_ok-go_on.ensures.later (begins_time c.in-Some-mark_in.ensures.small c.in-Some-mark_in.ensures.change c.in-Some-mark_in.ensures.some)
