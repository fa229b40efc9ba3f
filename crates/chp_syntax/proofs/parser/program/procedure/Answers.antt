use Rattle.std.proofs.Common.{drop}
use Rattle.chp_syntax.specs.View.{statement_of, procedure_of}
use Rattle.chp_syntax.specs.Grammar.{Declaration, defined}
use Rattle.chp_syntax.specs.Parts.{Good, Anything}
use Rattle.chp_syntax.proofs.Ands.{and_good, and_bad}
use Rattle.chp_syntax.proofs.Steps.{by_part, part_bad, good_done, exit}
use Rattle.chp_syntax.proofs.Programs.{procedure_start, procedure_1, procedure_2, procedure_3, procedure_4, semicolon_seam, proc_of}
use Rattle.chp_syntax.proofs.parser.program.procedure.Goals as goal

pub returns-in_err-take_word-clause-bad : goal.returns-in_err-take_word-clause-bad
returns-in_err-take_word-clause-bad c =
    let s0 = procedure_start (drop c.args.at.now c.args.tokens.now) c.requires.front in
    exit c.from_residual.result c.in_err-take_word.field-0.0 c.from_residual.ensures.1 (part_bad procedure_1 s0) c.in_err-take_word.ensures.bad

pub returns-in_err-name-clause-bad : goal.returns-in_err-name-clause-bad
returns-in_err-name-clause-bad c =
    let s0 = procedure_start (drop c.args.at.now c.args.tokens.now) c.requires.front in
    let s1 = by_part procedure_1 s0 c.in_ok-take_word.ensures.good in
    exit c.from_residual-in_err-name.result c.in_err-name.field-0.0 c.from_residual-in_err-name.ensures.1 (part_bad procedure_2 s1) c.in_err-name.ensures.bad

pub returns-in_err-take_mark-clause-bad : goal.returns-in_err-take_mark-clause-bad
returns-in_err-take_mark-clause-bad c =
    let s0 = procedure_start (drop c.args.at.now c.args.tokens.now) c.requires.front in
    let s1 = by_part procedure_1 s0 c.in_ok-take_word.ensures.good in
    let i = c.in_ok-name.name in
    let s2 = by_part procedure_2 s1 c.in_ok-name.ensures.good in
    exit c.from_residual-in_err-take_mark.result c.in_err-take_mark.field-0.0 c.from_residual-in_err-take_mark.ensures.1 (part_bad (procedure_3 i) s2)
    c.in_err-take_mark.ensures.bad

pub returns-in_err-body-clause-bad : goal.returns-in_err-body-clause-bad
returns-in_err-body-clause-bad c =
    let s0 = procedure_start (drop c.args.at.now c.args.tokens.now) c.requires.front in
    let s1 = by_part procedure_1 s0 c.in_ok-take_word.ensures.good in
    let i = c.in_ok-name.name in
    let s2 = by_part procedure_2 s1 c.in_ok-name.ensures.good in
    let s3 = by_part (procedure_3 i) s2 c.in_ok-take_mark.ensures.good in
    exit c.from_residual-in_err-body.result c.in_err-body.field-0.0 c.from_residual-in_err-body.ensures.1 (part_bad (procedure_4 i) s3)
    c.in_err-body.ensures.bad

pub returns-clause-bad : goal.returns-clause-bad
returns-clause-bad c =
    let s0 = procedure_start (drop c.args.at.now c.args.tokens.now) c.requires.front in
    let s1 = by_part procedure_1 s0 c.in_ok-take_word.ensures.good in
    let i = c.in_ok-name.name in
    let s2 = by_part procedure_2 s1 c.in_ok-name.ensures.good in
    let s3 = by_part (procedure_3 i) s2 c.in_ok-take_mark.ensures.good in
    let d = proc_of i (statement_of c.in_ok-body.body) in
    let s4 = by_part (procedure_4 i) s3 c.in_ok-body.ensures.good in
    and_bad c.take_mark-2.result _ c.and.ensures (part_bad (semicolon_seam d) s4) c.take_mark-2.ensures.bad

pub returns-clause-good : goal.returns-clause-good
returns-clause-good c =
    let s0 = procedure_start (drop c.args.at.now c.args.tokens.now) c.requires.front in
    let s1 = by_part procedure_1 s0 c.in_ok-take_word.ensures.good in
    let i = c.in_ok-name.name in
    let s2 = by_part procedure_2 s1 c.in_ok-name.ensures.good in
    let s3 = by_part (procedure_3 i) s2 c.in_ok-take_mark.ensures.good in
    let d = proc_of i (statement_of c.in_ok-body.body) in
    let s4 = by_part (procedure_4 i) s3 c.in_ok-body.ensures.good in
    and_good (λ p. Good Declaration Anything (drop c.args.at.now c.args.tokens.now) (drop c.take_mark-2.new.at c.args.tokens.now) (defined (procedure_of p)))
    c.take_mark-2.result _ c.and.ensures (λ e good. good_done (by_part (semicolon_seam d) s4 good)) c.take_mark-2.ensures.good
