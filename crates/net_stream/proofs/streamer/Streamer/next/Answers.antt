use Rattle.std.proofs.Common.{◌∙◌, ◌-◌, ◌≤◌, ◌++◌, length, take, sym, ap, append_assoc, arith}
use Rattle.net_stream.specs.Cursors.{text_left}
use Rattle.net_stream.proofs.Pieces.{front_on, front_within}
use Rattle.net_stream.proofs.streamer.Streamer.next.Goals as goal

pub loop-done-preserved : goal.loop-done-preserved
loop-done-preserved c =
    let piece = c.loop-done.piece in
    let done = c.loop-done.done in
    let n = c.give-n.result in
    let part = c.give-n.new.piece in
    let left = text_left c.loop-done.self-inside.net c.give-n.new.cursor in
    let few : n ≤ length part = omega (arith, c.give-n.ensures.within, c.give-n.auto.piece) in
    record {
      text = c.loop-done.invariant.text ∙ (ap (λ t. take done piece ++ t) c.give-n.ensures.given
          ∙ (sym (append_assoc (take done piece) (take n part) left)
          ∙ ap (λ t. t ++ left) (sym (front_on done (length piece - done) n piece part c.loop-done.invariant.within few))));
      within = front_within done (length piece - done) n piece part c.loop-done.invariant.within few;
      cursor = c.give-n.ensures.cursor;
    }
