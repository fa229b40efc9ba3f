use Rattle.std.proofs.Common.{get_or, arith}
use Rattle.std.proofs.lemmas.List.{get_or_default}
use Rattle.prs_file.proofs.Openings.{digit_more, digit_fits}
use Rattle.prs_file.proofs.opening.value.Goals as goal

pub overflow_mul-number : goal.overflow_mul-number
overflow_mul-number c =
    let fits = digit_fits c.loop-byte.byte-index c.loop-byte.number 0 (omega arith) c.loop-byte.invariant.small (omega arith) in
    omega arith

pub overflow_add-number : goal.overflow_add-number
overflow_add-number c =
    let here = digit_more c.args.digits.now c.loop-byte.byte-index (get_or c.args.digits.now c.loop-byte.byte-index 0) c.requires.digits c.loop-byte-test.true
    (get_or_default _ _ 0 _ c.loop-byte-test.true) in
    let fits = digit_fits c.loop-byte.byte-index c.loop-byte.number c.from.result (omega arith) c.loop-byte.invariant.small (omega arith) in
    omega arith

pub loop-byte-preserved : goal.loop-byte-preserved
loop-byte-preserved c =
    let here = digit_more c.args.digits.now c.loop-byte.byte-index (get_or c.args.digits.now c.loop-byte.byte-index 0) c.requires.digits c.loop-byte-test.true
    (get_or_default _ _ 0 _ c.loop-byte-test.true) in
    let fits = digit_fits c.loop-byte.byte-index c.loop-byte.number c.from.result (omega arith) c.loop-byte.invariant.small (omega arith) in
    record { number = omega arith; small = fits.0 }
