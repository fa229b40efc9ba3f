use Rattle.std.proofs.Common.{◌==◌, sym, arith, ◌∙◌, eq-eqb}
use Rattle.std.proofs.lemmas.List.Sums.{position_or_len_is}
use Rattle.prs_file.proofs.channel.word_len.Goals as goal

pub returns-then-byte-eq32-clause-value : goal.returns-then-byte-eq32-clause-value
returns-then-byte-eq32-clause-value c =
    c.loop-byte.invariant.count ∙ sym (position_or_len_is (λ b. b == 32) c.args.text.now c.loop-byte.byte-index 0 (omega arith) c.loop-byte.invariant.before
    (λ h. eq-eqb _ _ c.if-byte-eq32.true))

pub returns-clause-value : goal.returns-clause-value
returns-clause-value c =
    c.loop-byte.invariant.count ∙ sym (position_or_len_is (λ b. b == 32) c.args.text.now c.loop-byte.byte-index 0 (omega arith) c.loop-byte.invariant.before
    (λ h. absurd (omega (arith, c.loop-byte-test.false))))
