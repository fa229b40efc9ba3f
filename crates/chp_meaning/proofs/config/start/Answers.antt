use Rattle.std.proofs.Common.{ap, ◌∙◌, length, List, ℕ}
use Rattle.std.proofs.lemmas.List.{length-map}
use Rattle.chp_base.specs.declared.channel.Channel.{Channel}
use Rattle.width_check.specs.declared.typed.Var.{Var}
use Rattle.chp_meaning.proofs.Starting.{program_runs, script_length, all_begun}
use Rattle.chp_meaning.proofs.config.start.Goals as goal

pub begun-requires-clause-numbers : goal.begun-requires-clause-numbers
begun-requires-clause-numbers c =
    let t = c.args.program.now in
    rw c.body.ensures.body (program_runs t _ _ c.body.ensures.typed.body_is (ap (λ (xs : List Channel). length xs) c.channels.ensures)
    (ap (λ (xs : List ℕ). length xs) c.in_ok-first_values.ensures
    ∙ (length-map c.vars.result.now (λ (v : Var). v.first) ∙ ap (λ (xs : List Var). length xs) c.vars.ensures)))

pub begun-requires-clause-script : goal.begun-requires-clause-script
begun-requires-clause-script c = rw c.channels.ensures (script_length c.args.program.now.channels c.args.script.now c.requires)

pub returns-clause-of : goal.returns-clause-of
returns-clause-of c =
    let made = rw c.body.ensures.body at c.begun.ensures in
    all_begun c.args.program.now c.args.script.now c.in_ok-first_values.field-0.items (length c.channels.result.now) c.begun.result c.requires
    (rw c.vars.ensures at c.in_ok-first_values.ensures) (ap (λ (xs : List Channel). length xs) c.channels.ensures) made.standing made.start
