use Rattle.std.proofs.Common.{◌∙◌, ap, map}
use Rattle.std.proofs.lemmas.List.{take_all}
use Rattle.clap.specs.Words.{app_of, rule_of}
use Rattle.command_words.specs.BuiltForms.{argument_of, form_of}
use Rattle.command_words.proofs.FormsBuilt.{form_more}
use Rattle.command_words.proofs.arguments.form_of.Goals as goal

pub loop-argument-preserved : goal.loop-argument-preserved
loop-argument-preserved c = form_more c.args.name.now c.args.arguments.now c.loop-argument.argument-index _ (app_of c.loop-argument.form) _
    (rule_of c.arg_of.result) c.loop-argument-test.true c.loop-argument.invariant (c.in_ok-form.ensures.shape c.arg_of.ensures.local) c.arg_of.ensures.rule

pub returns : goal.returns
returns c =
    c.loop-argument.invariant ∙ ap (λ xs. form_of c.args.name.now (map argument_of xs))
    (take_all c.loop-argument.argument-index c.args.arguments.now c.loop-argument-test.false)
