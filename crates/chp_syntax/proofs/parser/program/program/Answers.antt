use Rattle.std.proofs.Common.{drop}
use Rattle.chp_syntax.specs.View.{statement_of, declared_of, program_tree}
use Rattle.chp_syntax.specs.Grammar.{Programs}
use Rattle.chp_syntax.specs.Parts.{Good, Nothing}
use Rattle.chp_syntax.proofs.Ands.{and_good, and_bad}
use Rattle.chp_syntax.proofs.Steps.{by_part, part_bad, good_done, exit}
use Rattle.chp_syntax.proofs.Programs.{program_start, declared_seam, begin_seam, par_seam, end_seam}
use Rattle.chp_syntax.proofs.parser.program.program.Goals as goal

pub returns-in_err-declared-clause-bad : goal.returns-in_err-declared-clause-bad
returns-in_err-declared-clause-bad c =
    let s0 = program_start (drop c.args.at.now c.args.tokens.now) in
    exit c.from_residual.result c.in_err-declared.field-0.0 c.from_residual.ensures.1 (part_bad declared_seam s0) c.in_err-declared.ensures.bad

pub returns-in_err-take_word-clause-bad : goal.returns-in_err-take_word-clause-bad
returns-in_err-take_word-clause-bad c =
    let s0 = program_start (drop c.args.at.now c.args.tokens.now) in
    let d = declared_of c.in_ok-declared.declared in
    let s1 = by_part declared_seam s0 c.in_ok-declared.ensures.good in
    exit c.from_residual-in_err-take_word.result c.in_err-take_word.field-0.0 c.from_residual-in_err-take_word.ensures.1 (part_bad (begin_seam d) s1)
    c.in_err-take_word.ensures.bad

pub returns-in_err-body-clause-bad : goal.returns-in_err-body-clause-bad
returns-in_err-body-clause-bad c =
    let s0 = program_start (drop c.args.at.now c.args.tokens.now) in
    let d = declared_of c.in_ok-declared.declared in
    let s1 = by_part declared_seam s0 c.in_ok-declared.ensures.good in
    let s2 = by_part (begin_seam d) s1 c.in_ok-take_word.ensures.good in
    exit c.from_residual-in_err-body.result c.in_err-body.field-0.0 c.from_residual-in_err-body.ensures.1 (part_bad (par_seam d) s2) c.in_err-body.ensures.bad

pub returns-clause-bad : goal.returns-clause-bad
returns-clause-bad c =
    let s0 = program_start (drop c.args.at.now c.args.tokens.now) in
    let d = declared_of c.in_ok-declared.declared in
    let s1 = by_part declared_seam s0 c.in_ok-declared.ensures.good in
    let s2 = by_part (begin_seam d) s1 c.in_ok-take_word.ensures.good in
    let t = statement_of c.in_ok-body.body in
    let s3 = by_part (par_seam d) s2 c.in_ok-body.ensures.good in
    and_bad c.take_end.result _ c.and.ensures (part_bad (end_seam d t) s3) c.take_end.ensures.bad

pub returns-clause-good : goal.returns-clause-good
returns-clause-good c =
    let s0 = program_start (drop c.args.at.now c.args.tokens.now) in
    let d = declared_of c.in_ok-declared.declared in
    let s1 = by_part declared_seam s0 c.in_ok-declared.ensures.good in
    let s2 = by_part (begin_seam d) s1 c.in_ok-take_word.ensures.good in
    let t = statement_of c.in_ok-body.body in
    let s3 = by_part (par_seam d) s2 c.in_ok-body.ensures.good in
    and_good (λ p. Good Programs Nothing (drop c.args.at.now c.args.tokens.now) (drop c.take_end.new.at c.args.tokens.now) (program_tree p)) c.take_end.result _
    c.and.ensures (λ e good. good_done (by_part (end_seam d t) s3 good)) c.take_end.ensures.good
