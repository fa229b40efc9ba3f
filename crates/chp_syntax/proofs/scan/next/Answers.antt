use Rattle.std.proofs.Common.{◌≤◌, arith}
use Rattle.std.specs.List.{prefix_len}
use Rattle.chp_base.specs.Names.{word_part}
use Rattle.chp_syntax.proofs.Fronts.{run_is, run_token, run_bad, sign_token, nothing}
use Rattle.chp_syntax.proofs.scan.next.Goals as goal
use Rattle.chp_syntax.proofs.scan.next.Goals.{in-Some-2, in-None, in-Some-sign, in-None-sign}

pub word-requires : goal.word-requires
word-requires c = run_is _ _ c.if-length-gt0.true c.run_length-length.ensures

pub returns-then-length-gt0 : goal.returns-then-length-gt0
returns-then-length-gt0 c =
    elim c.match-branch-2.branch [
      | in-Some-2 w ↦ rw w.result-is (run_token w.in-Some-2.kind c.run_length-length.result c.args.text.now c.if-length-gt0.true c.run_length-length.ensures
          (rw w.in-Some-2.is at c.in_ok-kind.ensures.some))
      | in-None w ↦ rw w.result-is (run_bad c.run_length-length.result c.args.text.now c.if-length-gt0.true c.run_length-length.ensures
          (rw w.in-None.is at c.in_ok-kind.ensures.none))
    ]

pub returns : goal.returns
returns c =
    let no_run : prefix_len word_part c.args.text.now ≤ 0 = omega (arith, c.run_length-length.ensures) in
    elim c.match-sign.branch [
      | in-Some-sign w ↦ rw w.result-is (sign_token w.in-Some-sign.mark w.in-Some-sign.length c.args.text.now no_run w.in-Some-sign.ensures.mark
          w.in-Some-sign.ensures.size)
      | in-None-sign w ↦ rw w.result-is (nothing c.args.text.now c.requires c.in_default.ensures.none no_run w.in-None-sign.ensures.none)
    ]
