use Rattle.std.proofs.Common.{◌≡◌, ◌+◌, sym, ap, ◌∙◌}
use Rattle.handshake_expand.specs.Layout.{capped}
use Rattle.pace_bound.specs.Bits.{ones}
use Rattle.pace_bound.specs.Behind.{through}
use Rattle.pace_bound.proofs.Reaching.{flat_alike, flat_other}
use Rattle.pace_bound.proofs.behind.from_request.Goals as goal
use Rattle.pace_bound.proofs.behind.from_request.Goals.{in-Alike, in-Carried}

pub returns : goal.returns
returns c =
    let flat : through c.args.behind.order c.args.behind.gates (ones c.args.width) ≡ c.args.behind.gates + c.match-behind.lowest =
    elim c.match-behind.branch [
      | in-Alike w ↦ flat_alike c.args.behind c.args.width c.match-behind.lowest c.requires w.in-Alike.is w.lowest-is
      | in-Carried w ↦ flat_other c.args.behind c.args.width c.match-behind.lowest c.requires w.in-Carried.is (w.lowest-is ∙ w.from-lowest.ensures)
    ] in
    c.saturating_add.ensures ∙ ap capped (sym flat)
