use Rattle.std.proofs.Common.{◌≡◌, ap, ◌∙◌}
use Rattle.rand_pcg.specs.Lcg.{advance}
use Rattle.rand_pcg.specs.Pcg.{multiplier_64}
use Rattle.program_maker.specs.Drawn.{drawn_after}
use Rattle.program_maker.proofs.Words.{jump_drawn, four_values}
use Rattle.program_maker.proofs.drawn.grow_values.Goals as goal

pub returns : goal.returns
returns c =
    let seed = c.args.seed in
    let stages = c.args.stages in
    let behind : c.advance.new.self ≡ drawn_after seed stages =
    jump_drawn seed stages c.words_of-words.result c.advance.new.self c.words_of-words.ensures
    (c.advance.ensures ∙ ap (λ n. advance 64 multiplier_64 n c.words_of-words.result) c.from.ensures) in
    four_values seed stages c.advance.new.self c.next_value.new.words c.next_value-2.new.words c.next_value-3.new.words _ _ _ _ behind
    c.next_value.ensures.value c.next_value.ensures.next
    c.next_value-2.ensures.value c.next_value-2.ensures.next
    c.next_value-3.ensures.value c.next_value-3.ensures.next
    c.next_value-4.ensures.value
