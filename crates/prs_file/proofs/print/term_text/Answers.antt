use Rattle.prs_file.proofs.Rules.{term_over}
use Rattle.prs_file.proofs.print.term_text.Goals as goal

pub returns : goal.returns
returns c =
    let items = c.literals-literal-items in
    rw (← items.ensures.value) (term_over c.args.net.now c.args.lead c.loop-literal.next items.result.now c.loop-literal.literal-index c.args.to.now.items
    c.loop-literal.to.items (rw items.ensures.value items.ensures.some) c.loop-literal-test.false c.loop-literal.invariant)
