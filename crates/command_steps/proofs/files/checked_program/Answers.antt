use Rattle.std.proofs.Common.{refl}
use Rattle.chp_syntax.specs.View.{program_tree}
use Rattle.width_check.specs.Typed.{program_of as typed_of}
use Rattle.command_steps.specs.Inlined.{as_it_is}
use Rattle.command_steps.specs.Steps.{Never}
use Rattle.command_steps.proofs.Checked.{checks_for, form_made, shaped_as}
use Rattle.command_steps.proofs.files.checked_program.Goals as goal

pub returns-then-is_call_free-clause-checked : goal.returns-then-is_call_free-clause-checked
returns-then-is_call_free-clause-checked c =
    let tree = program_tree c.args.program.now in
    form_made typed_of tree tree (as_it_is (c.if-is_call_free.ensures.0 refl)) c.checked_plain.result c.checked_plain.ensures.accepted
    c.checked_plain.ensures.form

pub returns-then-is_call_free-clause-shaped : goal.returns-then-is_call_free-clause-shaped
returns-then-is_call_free-clause-shaped c =
    let tree = program_tree c.args.program.now in
    shaped_as tree tree (as_it_is (c.if-is_call_free.ensures.0 refl)) c.requires.shaped c.checked_plain.result

pub returns-clause-shaped : goal.returns-clause-shaped
returns-clause-shaped c =
    shaped_as (program_tree c.args.program.now) (program_tree c.in_ok-plain.plain) c.in_ok-plain.ensures.means c.in_ok-plain.ensures.shaped
    c.checked_plain-checked.result

pub returns-clause-checked : goal.returns-clause-checked
returns-clause-checked c =
    let tree = program_tree c.args.program.now in
    let plain = program_tree c.in_ok-plain.plain in
    form_made typed_of tree plain c.in_ok-plain.ensures.means c.checked_plain-checked.result c.checked_plain-checked.ensures.accepted
    c.checked_plain-checked.ensures.form

pub returns-clause-stopped : goal.returns-clause-stopped
returns-clause-stopped c =
    let tree = program_tree c.args.program.now in
    let plain = program_tree c.in_ok-plain.plain in
    checks_for tree plain c.in_ok-plain.ensures.means c.in_ok-plain.ensures.call_free Never c.checked_plain-checked.result
    c.checked_plain-checked.ensures.stopped
