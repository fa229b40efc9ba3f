use Rattle.std.proofs.Common.{◌∙◌, set, Some, sym, ap, arith}
use Rattle.std.proofs.lemmas.Bool.{both_ways}
use Rattle.delay_script.specs.declared.due.Due.{Due}
use Rattle.delay_script.specs.Dues.{due_at}
use Rattle.delay_script.proofs.DueLists.{filled_still, filled_one, is_none}
use Rattle.delay_script.proofs.due.look.Goals as goal

pub returns-then-not-is_enabled : goal.returns-then-not-is_enabled
returns-then-not-is_enabled c =
    filled_still c.args.stage.now c.args.delays.now c.args.made c.args.node c.args.queue.now
    (λ on. absurd (both_ways _ (sym c.is_enabled.ensures ∙ c.if-not-is_enabled.true) on))

pub returns-then-has : goal.returns-then-has
returns-then-has c =
    filled_still c.args.stage.now c.args.delays.now c.args.made c.args.node c.args.queue.now (λ on. sym c.has.ensures ∙ c.if-has.true)

pub put-requires-clause-free : goal.put-requires-clause-free
put-requires-clause-free c = is_none (due_at c.args.queue.now c.args.node) (sym c.has.ensures ∙ c.if-has.false)

pub returns : goal.returns
returns c =
    filled_one c.args.stage.now c.args.delays.now c.args.made c.args.node c.args.queue.now c.put.new.self
    (omega (arith, c.requires.node, c.requires.queue)) (sym c.is_enabled.ensures ∙ c.if-not-is_enabled.false)
    (is_none (due_at c.args.queue.now c.args.node) (sym c.has.ensures ∙ c.if-has.false))
    (c.put.ensures ∙ ap (λ (due : Due). set c.args.queue.now c.args.node (Some due)) c.fresh_due.ensures)
