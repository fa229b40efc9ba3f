use Rattle.std.proofs.Common.{drop, refl}
use Rattle.chp_syntax.specs.declared.token.TokenKind.TheVariants.{Sign}
use Rattle.chp_syntax.specs.declared.token.Mark.TheVariants as mark
use Rattle.chp_syntax.proofs.Steps.{by_part, part_bad, good_done, exactly_good, exit, not_so}
use Rattle.chp_syntax.proofs.Expressions.{named_start, name_seam, open_seam, place_seam, bit_seam, colon_seam, low_seam, slice_seam, unindexed, indexed, unsliced, sliced}
use Rattle.chp_syntax.proofs.parser.expression.named.Goals as goal

pub returns-in_err-of-clause-bad : goal.returns-in_err-of-clause-bad
returns-in_err-of-clause-bad c =
    let s0 = named_start (drop c.args.at.now c.args.tokens.now) c.requires.front in
    exit c.from_residual.result c.in_err-of.field-0.0 c.from_residual.ensures.1 (part_bad name_seam s0) c.in_err-of.ensures.bad

pub returns-then-not-mark_at-clause-good : goal.returns-then-not-mark_at-clause-good
returns-then-not-mark_at-clause-good c =
    let s0 = named_start (drop c.args.at.now c.args.tokens.now) c.requires.front in
    let s1 = by_part name_seam s0 c.in_ok-of.ensures.good in
    good_done (unindexed s1 (not_so c.if-not-mark_at.ensures.1))

pub returns-in_err-first-clause-bad : goal.returns-in_err-first-clause-bad
returns-in_err-first-clause-bad c =
    let s0 = named_start (drop c.args.at.now c.args.tokens.now) c.requires.front in
    let s1 = by_part name_seam s0 c.in_ok-of.ensures.good in
    let i = c.in_ok-of.of in
    let bracket = c.if-not-mark_at.ensures.0 refl in
    let s3 = by_part (open_seam i) (indexed s1 bracket) (exactly_good (Sign mark.OpenSquare) c.args.tokens.now c.take_name.new.at bracket) in
    exit c.from_residual-in_err-first.result c.in_err-first.field-0.0 c.from_residual-in_err-first.ensures.1 (part_bad (place_seam i) s3)
    c.in_err-first.ensures.bad

pub returns-in_err-close-clause-bad : goal.returns-in_err-close-clause-bad
returns-in_err-close-clause-bad c =
    let s0 = named_start (drop c.args.at.now c.args.tokens.now) c.requires.front in
    let s1 = by_part name_seam s0 c.in_ok-of.ensures.good in
    let i = c.in_ok-of.of in
    let bracket = c.if-not-mark_at.ensures.0 refl in
    let s3 = by_part (open_seam i) (indexed s1 bracket) (exactly_good (Sign mark.OpenSquare) c.args.tokens.now c.take_name.new.at bracket) in
    let n = c.in_ok-first.first in
    let s4 = by_part (place_seam i) s3 c.in_ok-first.ensures.good in
    let s5 = unsliced i n s4 (not_so c.if-not-mark_at-2.ensures.1) in
    exit c.from_residual-in_err-close.result c.in_err-close.field-0.0 c.from_residual-in_err-close.ensures.1 (part_bad (bit_seam i n) s5)
    c.in_err-close.ensures.bad

pub returns-then-not-mark_at-2-clause-good : goal.returns-then-not-mark_at-2-clause-good
returns-then-not-mark_at-2-clause-good c =
    let s0 = named_start (drop c.args.at.now c.args.tokens.now) c.requires.front in
    let s1 = by_part name_seam s0 c.in_ok-of.ensures.good in
    let i = c.in_ok-of.of in
    let bracket = c.if-not-mark_at.ensures.0 refl in
    let s3 = by_part (open_seam i) (indexed s1 bracket) (exactly_good (Sign mark.OpenSquare) c.args.tokens.now c.take_name.new.at bracket) in
    let n = c.in_ok-first.first in
    let s4 = by_part (place_seam i) s3 c.in_ok-first.ensures.good in
    let s5 = unsliced i n s4 (not_so c.if-not-mark_at-2.ensures.1) in
    rw c.from_to-at.ensures (good_done (by_part (bit_seam i n) s5 c.in_ok-close.ensures.good))

pub returns-in_err-second-clause-bad : goal.returns-in_err-second-clause-bad
returns-in_err-second-clause-bad c =
    let s0 = named_start (drop c.args.at.now c.args.tokens.now) c.requires.front in
    let s1 = by_part name_seam s0 c.in_ok-of.ensures.good in
    let i = c.in_ok-of.of in
    let bracket = c.if-not-mark_at.ensures.0 refl in
    let s3 = by_part (open_seam i) (indexed s1 bracket) (exactly_good (Sign mark.OpenSquare) c.args.tokens.now c.take_name.new.at bracket) in
    let n = c.in_ok-first.first in
    let s4 = by_part (place_seam i) s3 c.in_ok-first.ensures.good in
    let colon = c.if-not-mark_at-2.ensures.0 refl in
    let s6 = by_part (colon_seam i n) (sliced i n s4 colon) (exactly_good (Sign mark.Colon) c.args.tokens.now c.take_number.new.at colon) in
    exit c.from_residual-in_err-second.result c.in_err-second.field-0.0 c.from_residual-in_err-second.ensures.1 (part_bad (low_seam i n) s6)
    c.in_err-second.ensures.bad

pub returns-in_err-close-2-clause-bad : goal.returns-in_err-close-2-clause-bad
returns-in_err-close-2-clause-bad c =
    let s0 = named_start (drop c.args.at.now c.args.tokens.now) c.requires.front in
    let s1 = by_part name_seam s0 c.in_ok-of.ensures.good in
    let i = c.in_ok-of.of in
    let bracket = c.if-not-mark_at.ensures.0 refl in
    let s3 = by_part (open_seam i) (indexed s1 bracket) (exactly_good (Sign mark.OpenSquare) c.args.tokens.now c.take_name.new.at bracket) in
    let n = c.in_ok-first.first in
    let s4 = by_part (place_seam i) s3 c.in_ok-first.ensures.good in
    let colon = c.if-not-mark_at-2.ensures.0 refl in
    let s6 = by_part (colon_seam i n) (sliced i n s4 colon) (exactly_good (Sign mark.Colon) c.args.tokens.now c.take_number.new.at colon) in
    let m = c.in_ok-second.second in
    let s7 = by_part (low_seam i n) s6 c.in_ok-second.ensures.good in
    exit c.from_residual-in_err-close-2.result c.in_err-close-2.field-0.0 c.from_residual-in_err-close-2.ensures.1 (part_bad (slice_seam i n m) s7)
    c.in_err-close-2.ensures.bad

pub returns-clause-good : goal.returns-clause-good
returns-clause-good c =
    let s0 = named_start (drop c.args.at.now c.args.tokens.now) c.requires.front in
    let s1 = by_part name_seam s0 c.in_ok-of.ensures.good in
    let i = c.in_ok-of.of in
    let bracket = c.if-not-mark_at.ensures.0 refl in
    let s3 = by_part (open_seam i) (indexed s1 bracket) (exactly_good (Sign mark.OpenSquare) c.args.tokens.now c.take_name.new.at bracket) in
    let n = c.in_ok-first.first in
    let s4 = by_part (place_seam i) s3 c.in_ok-first.ensures.good in
    let colon = c.if-not-mark_at-2.ensures.0 refl in
    let s6 = by_part (colon_seam i n) (sliced i n s4 colon) (exactly_good (Sign mark.Colon) c.args.tokens.now c.take_number.new.at colon) in
    let m = c.in_ok-second.second in
    let s7 = by_part (low_seam i n) s6 c.in_ok-second.ensures.good in
    rw c.from_to-at-2.ensures (good_done (by_part (slice_seam i n m) s7 c.in_ok-close-2.ensures.good))
