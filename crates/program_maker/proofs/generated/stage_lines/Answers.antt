use Rattle.std.proofs.Common.{◌≡◌, ℕ, ◌+◌, ◌-◌, ◌++◌, ap, ◌∙◌, arith}
use Rattle.program_maker.specs.Drawn.{drawn_after, word_at}
use Rattle.program_maker.specs.Generated.{stage_line}
use Rattle.program_maker.proofs.Counted.{lines_more}
use Rattle.program_maker.proofs.Words.{word_is, word_drawn}
use Rattle.program_maker.proofs.generated.stage_lines.Goals as goal

pub loop-stage-preserved : goal.loop-stage-preserved
loop-stage-preserved c =
    let seed = c.args.seed in
    let stage = c.loop-stage.stage in
    let line = λ (k : ℕ). stage_line (word_at seed (k - 1)) k in
    let count : stage - 1 + 1 ≡ stage + 1 - 1 = omega (arith, c.loop-stage.auto.stage) in
    let word : c.next_word.result ≡ word_at seed (stage - 1) =
    word_is seed (stage - 1) c.loop-stage.words c.next_word.result c.loop-stage.invariant.words (ap (λ p. p.0) c.next_word.ensures) in
    record {
      words = word_drawn seed (stage - 1) c.loop-stage.words c.next_word.new.self c.loop-stage.invariant.words (ap (λ p. p.1) c.next_word.ensures)
          ∙ ap (drawn_after seed) count;
      lines = c.in_ok-stage_line.ensures
          ∙ (ap (λ w. c.loop-stage.to.items ++ stage_line w stage) word
          ∙ lines_more line 1 stage c.args.to.now.items c.loop-stage.to.items c.loop-stage.auto.stage c.loop-stage.invariant.lines);
    }
