use Rattle.std.proofs.Common.{◌≡◌, ◌∙◌, ◌++◌, take, drop, sym, ap, append_assoc}
use Rattle.net_stream.specs.Places.{text_from}
use Rattle.net_stream.proofs.Pieces.{drop_on}
use Rattle.net_stream.proofs.cursor.give.Goals as goal

pub returns-clause-given : goal.returns-clause-given
returns-clause-given c =
    let at = c.refresh.new.cursor in
    let n = c.copy_to_front-n.result in
    let piece = c.copy_to_front-n.new.piece in
    let same : take n piece ≡ take n (drop at.given at.line.items) =
    c.copy_to_front-n.ensures.bytes ∙ ap (take n) (c.behind.ensures ∙ ap (drop at.given) c.deref.ensures.value) in
    let rest = text_from c.args.net.now at.place in
    sym c.refresh.ensures.left ∙ (ap (λ t. t ++ rest) (drop_on at.line.items piece at.given n same)
    ∙ append_assoc (take n piece) _ rest)
