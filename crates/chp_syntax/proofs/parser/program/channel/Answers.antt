use Rattle.std.proofs.Common.{drop}
use Rattle.chp_syntax.specs.Grammar.{kind_of_channel}
use Rattle.chp_syntax.proofs.Steps.{by_part, part_bad, good_done, operator_good, exit}
use Rattle.chp_syntax.proofs.Programs.{channel_start, channel_seen, channel_1, channel_2, channel_3, channel_4, semicolon_seam, decl_of}
use Rattle.chp_syntax.proofs.parser.program.channel.Goals as goal

pub returns-in_err-name-clause-bad : goal.returns-in_err-name-clause-bad
returns-in_err-name-clause-bad c =
    let k = c.args.kind in
    let s1 = by_part channel_1 (channel_start k (drop c.args.at.now c.args.tokens.now) c.requires.front)
    (operator_good kind_of_channel c.args.tokens.now c.args.at.now k (channel_seen k _ c.requires.front)) in
    exit c.from_residual.result c.in_err-name.field-0.0 c.from_residual.ensures.1 (part_bad (channel_2 k) s1) c.in_err-name.ensures.bad

pub returns-in_err-take_mark-clause-bad : goal.returns-in_err-take_mark-clause-bad
returns-in_err-take_mark-clause-bad c =
    let k = c.args.kind in
    let s1 = by_part channel_1 (channel_start k (drop c.args.at.now c.args.tokens.now) c.requires.front)
    (operator_good kind_of_channel c.args.tokens.now c.args.at.now k (channel_seen k _ c.requires.front)) in
    let i = c.in_ok-name.name in
    let s2 = by_part (channel_2 k) s1 c.in_ok-name.ensures.good in
    exit c.from_residual-in_err-take_mark.result c.in_err-take_mark.field-0.0 c.from_residual-in_err-take_mark.ensures.1 (part_bad (channel_3 k i) s2)
    c.in_err-take_mark.ensures.bad

pub returns-in_err-width-clause-bad : goal.returns-in_err-width-clause-bad
returns-in_err-width-clause-bad c =
    let k = c.args.kind in
    let s1 = by_part channel_1 (channel_start k (drop c.args.at.now c.args.tokens.now) c.requires.front)
    (operator_good kind_of_channel c.args.tokens.now c.args.at.now k (channel_seen k _ c.requires.front)) in
    let i = c.in_ok-name.name in
    let s2 = by_part (channel_2 k) s1 c.in_ok-name.ensures.good in
    let s3 = by_part (channel_3 k i) s2 c.in_ok-take_mark.ensures.good in
    exit c.from_residual-in_err-width.result c.in_err-width.field-0.0 c.from_residual-in_err-width.ensures.1 (part_bad (channel_4 k i) s3)
    c.in_err-width.ensures.bad

pub returns-in_err-take_mark-2-clause-bad : goal.returns-in_err-take_mark-2-clause-bad
returns-in_err-take_mark-2-clause-bad c =
    let k = c.args.kind in
    let s1 = by_part channel_1 (channel_start k (drop c.args.at.now c.args.tokens.now) c.requires.front)
    (operator_good kind_of_channel c.args.tokens.now c.args.at.now k (channel_seen k _ c.requires.front)) in
    let i = c.in_ok-name.name in
    let s2 = by_part (channel_2 k) s1 c.in_ok-name.ensures.good in
    let s3 = by_part (channel_3 k i) s2 c.in_ok-take_mark.ensures.good in
    let d = decl_of k i c.in_ok-width.width in
    let s4 = by_part (channel_4 k i) s3 c.in_ok-width.ensures.good in
    exit c.from_residual-in_err-take_mark-2.result c.in_err-take_mark-2.field-0.0 c.from_residual-in_err-take_mark-2.ensures.1 (part_bad (semicolon_seam d) s4)
    c.in_err-take_mark-2.ensures.bad

pub returns-clause-good : goal.returns-clause-good
returns-clause-good c =
    let k = c.args.kind in
    let s1 = by_part channel_1 (channel_start k (drop c.args.at.now c.args.tokens.now) c.requires.front)
    (operator_good kind_of_channel c.args.tokens.now c.args.at.now k (channel_seen k _ c.requires.front)) in
    let i = c.in_ok-name.name in
    let s2 = by_part (channel_2 k) s1 c.in_ok-name.ensures.good in
    let s3 = by_part (channel_3 k i) s2 c.in_ok-take_mark.ensures.good in
    let d = decl_of k i c.in_ok-width.width in
    let s4 = by_part (channel_4 k i) s3 c.in_ok-width.ensures.good in
    good_done (by_part (semicolon_seam d) s4 c.in_ok-take_mark-2.ensures.good)
