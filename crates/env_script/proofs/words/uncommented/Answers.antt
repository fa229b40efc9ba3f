use Rattle.std.proofs.lemmas.Bool.{and_left, and_right, ne_eqb}
use Rattle.env_script.proofs.Comments.{comment_here, no_comment, no_more}
use Rattle.env_script.proofs.words.uncommented.Goals as goal
use Rattle.env_script.proofs.words.uncommented.Goals.{else-line-at-eq47-via-then-line-at-eq47+else-line-at-eq47-2, else-line-at-eq47-via-else-line-at-eq47}

pub returns-then-line-at-eq47-2 : goal.returns-then-line-at-eq47-2
returns-then-line-at-eq47-2 c =
    comment_here c.args.line.now c.loop-at.at c.loop-at.auto.at c.loop-at-test.true c.if-line-at-eq47.true c.if-line-at-eq47-2.true c.loop-at.invariant

pub loop-at-preserved : goal.loop-at-preserved
loop-at-preserved c =
    no_comment c.args.line.now c.loop-at.at c.loop-at.auto.at c.loop-at-test.true
    (elim c.else-line-at-eq47.branch [
      | else-line-at-eq47-via-then-line-at-eq47+else-line-at-eq47-2 w ↦ and_right _ _ (ne_eqb _ 47 w.if-line-at-eq47-2.false)
      | else-line-at-eq47-via-else-line-at-eq47 w ↦ and_left _ _ (ne_eqb _ 47 w.if-line-at-eq47.false)
    ])
    c.loop-at.invariant

pub returns : goal.returns
returns c = no_more c.args.line.now c.loop-at.at c.loop-at-test.false c.loop-at.invariant
