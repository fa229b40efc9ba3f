use Rattle.std.proofs.Common.{◌∙◌, ◌++◌, ap, get_or, append_assoc}
use Rattle.std.specs.Prelude.{codes, decimal}
use Rattle.std.proofs.lemmas.List.{take_all}
use Rattle.history_report.specs.Reports.{value_words}
use Rattle.history_report.proofs.Pieces.{written_further}
use Rattle.history_report.proofs.rounds.words_of.Goals as goal

pub loop-value-preserved : goal.loop-value-preserved
loop-value-preserved c =
    let values = c.args.values.now in
    let i = c.loop-value.value-index in
    written_further (λ n. codes " " ++ decimal n) values i 0 c.args.to.now.items c.loop-value-test.true c.loop-value.invariant
    (c.in_ok-value_word.ensures ∙ append_assoc c.loop-value.to.items (codes " ") (decimal (get_or values i 0)))

pub returns : goal.returns
returns c =
    c.loop-value.invariant
    ∙ ap (λ ys. c.args.to.now.items ++ value_words ys) (take_all c.loop-value.value-index c.args.values.now c.loop-value-test.false)
