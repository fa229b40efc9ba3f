use Rattle.std.proofs.Common.{drop, refl}
use Rattle.chp_syntax.specs.declared.token.TokenKind.TheVariants.{Sign}
use Rattle.chp_syntax.specs.declared.token.Mark.TheVariants as mark
use Rattle.chp_syntax.proofs.Steps.{by_part, part_bad, good_done, exactly_good, exit, not_so}
use Rattle.chp_syntax.specs.declared.tree.DeclKind.TheVariants as declares
use Rattle.chp_syntax.proofs.Programs.{variable_start, variable_1, variable_2, variable_3, variable_4, semicolon_seam, equal_seam, first_seam, without_first, with_first, decl_of, set_of}
use Rattle.chp_syntax.proofs.parser.program.variable.Goals as goal

pub returns-in_err-take_word-clause-bad : goal.returns-in_err-take_word-clause-bad
returns-in_err-take_word-clause-bad c =
    let s0 = variable_start (drop c.args.at.now c.args.tokens.now) c.requires.front in
    exit c.from_residual.result c.in_err-take_word.field-0.0 c.from_residual.ensures.1 (part_bad variable_1 s0) c.in_err-take_word.ensures.bad

pub returns-in_err-name-clause-bad : goal.returns-in_err-name-clause-bad
returns-in_err-name-clause-bad c =
    let s0 = variable_start (drop c.args.at.now c.args.tokens.now) c.requires.front in
    let s1 = by_part variable_1 s0 c.in_ok-take_word.ensures.good in
    exit c.from_residual-in_err-name.result c.in_err-name.field-0.0 c.from_residual-in_err-name.ensures.1 (part_bad variable_2 s1) c.in_err-name.ensures.bad

pub returns-in_err-take_mark-clause-bad : goal.returns-in_err-take_mark-clause-bad
returns-in_err-take_mark-clause-bad c =
    let s0 = variable_start (drop c.args.at.now c.args.tokens.now) c.requires.front in
    let s1 = by_part variable_1 s0 c.in_ok-take_word.ensures.good in
    let i = c.in_ok-name.name in
    let s2 = by_part variable_2 s1 c.in_ok-name.ensures.good in
    exit c.from_residual-in_err-take_mark.result c.in_err-take_mark.field-0.0 c.from_residual-in_err-take_mark.ensures.1 (part_bad (variable_3 i) s2)
    c.in_err-take_mark.ensures.bad

pub returns-in_err-width-clause-bad : goal.returns-in_err-width-clause-bad
returns-in_err-width-clause-bad c =
    let s0 = variable_start (drop c.args.at.now c.args.tokens.now) c.requires.front in
    let s1 = by_part variable_1 s0 c.in_ok-take_word.ensures.good in
    let i = c.in_ok-name.name in
    let s2 = by_part variable_2 s1 c.in_ok-name.ensures.good in
    let s3 = by_part (variable_3 i) s2 c.in_ok-take_mark.ensures.good in
    exit c.from_residual-in_err-width.result c.in_err-width.field-0.0 c.from_residual-in_err-width.ensures.1 (part_bad (variable_4 i) s3)
    c.in_err-width.ensures.bad

pub returns-in_err-take_mark-2-clause-bad : goal.returns-in_err-take_mark-2-clause-bad
returns-in_err-take_mark-2-clause-bad c =
    let s0 = variable_start (drop c.args.at.now c.args.tokens.now) c.requires.front in
    let s1 = by_part variable_1 s0 c.in_ok-take_word.ensures.good in
    let i = c.in_ok-name.name in
    let s2 = by_part variable_2 s1 c.in_ok-name.ensures.good in
    let s3 = by_part (variable_3 i) s2 c.in_ok-take_mark.ensures.good in
    let n = c.in_ok-width.width in
    let s4 = by_part (variable_4 i) s3 c.in_ok-width.ensures.good in
    let d = decl_of declares.Var i n in
    let s5 = without_first i n s4 (not_so c.if-not-mark_at.ensures.1) in
    exit c.from_residual-in_err-take_mark-2.result c.in_err-take_mark-2.field-0.0 c.from_residual-in_err-take_mark-2.ensures.1 (part_bad (semicolon_seam d) s5)
    c.in_err-take_mark-2.ensures.bad

pub returns-then-not-mark_at-clause-good : goal.returns-then-not-mark_at-clause-good
returns-then-not-mark_at-clause-good c =
    let s0 = variable_start (drop c.args.at.now c.args.tokens.now) c.requires.front in
    let s1 = by_part variable_1 s0 c.in_ok-take_word.ensures.good in
    let i = c.in_ok-name.name in
    let s2 = by_part variable_2 s1 c.in_ok-name.ensures.good in
    let s3 = by_part (variable_3 i) s2 c.in_ok-take_mark.ensures.good in
    let n = c.in_ok-width.width in
    let s4 = by_part (variable_4 i) s3 c.in_ok-width.ensures.good in
    let d = decl_of declares.Var i n in
    let s5 = without_first i n s4 (not_so c.if-not-mark_at.ensures.1) in
    good_done (by_part (semicolon_seam d) s5 c.in_ok-take_mark-2.ensures.good)

pub returns-in_err-first-clause-bad : goal.returns-in_err-first-clause-bad
returns-in_err-first-clause-bad c =
    let s0 = variable_start (drop c.args.at.now c.args.tokens.now) c.requires.front in
    let s1 = by_part variable_1 s0 c.in_ok-take_word.ensures.good in
    let i = c.in_ok-name.name in
    let s2 = by_part variable_2 s1 c.in_ok-name.ensures.good in
    let s3 = by_part (variable_3 i) s2 c.in_ok-take_mark.ensures.good in
    let n = c.in_ok-width.width in
    let s4 = by_part (variable_4 i) s3 c.in_ok-width.ensures.good in
    let is = c.if-not-mark_at.ensures.0 refl in
    let s5 = by_part (equal_seam i n) (with_first i n s4 is) (exactly_good (Sign mark.Equal) c.args.tokens.now c.take_number.new.at is) in
    exit c.from_residual-in_err-first.result c.in_err-first.field-0.0 c.from_residual-in_err-first.ensures.1 (part_bad (first_seam i n) s5)
    c.in_err-first.ensures.bad

pub returns-in_err-take_mark-3-clause-bad : goal.returns-in_err-take_mark-3-clause-bad
returns-in_err-take_mark-3-clause-bad c =
    let s0 = variable_start (drop c.args.at.now c.args.tokens.now) c.requires.front in
    let s1 = by_part variable_1 s0 c.in_ok-take_word.ensures.good in
    let i = c.in_ok-name.name in
    let s2 = by_part variable_2 s1 c.in_ok-name.ensures.good in
    let s3 = by_part (variable_3 i) s2 c.in_ok-take_mark.ensures.good in
    let n = c.in_ok-width.width in
    let s4 = by_part (variable_4 i) s3 c.in_ok-width.ensures.good in
    let is = c.if-not-mark_at.ensures.0 refl in
    let s5 = by_part (equal_seam i n) (with_first i n s4 is) (exactly_good (Sign mark.Equal) c.args.tokens.now c.take_number.new.at is) in
    let d = set_of i n c.in_ok-first.first in
    let s6 = by_part (first_seam i n) s5 c.in_ok-first.ensures.good in
    exit c.from_residual-in_err-take_mark-3.result c.in_err-take_mark-3.field-0.0 c.from_residual-in_err-take_mark-3.ensures.1 (part_bad (semicolon_seam d) s6)
    c.in_err-take_mark-3.ensures.bad

pub returns-clause-good : goal.returns-clause-good
returns-clause-good c =
    let s0 = variable_start (drop c.args.at.now c.args.tokens.now) c.requires.front in
    let s1 = by_part variable_1 s0 c.in_ok-take_word.ensures.good in
    let i = c.in_ok-name.name in
    let s2 = by_part variable_2 s1 c.in_ok-name.ensures.good in
    let s3 = by_part (variable_3 i) s2 c.in_ok-take_mark.ensures.good in
    let n = c.in_ok-width.width in
    let s4 = by_part (variable_4 i) s3 c.in_ok-width.ensures.good in
    let is = c.if-not-mark_at.ensures.0 refl in
    let s5 = by_part (equal_seam i n) (with_first i n s4 is) (exactly_good (Sign mark.Equal) c.args.tokens.now c.take_number.new.at is) in
    let d = set_of i n c.in_ok-first.first in
    let s6 = by_part (first_seam i n) s5 c.in_ok-first.ensures.good in
    good_done (by_part (semicolon_seam d) s6 c.in_ok-take_mark-3.ensures.good)
