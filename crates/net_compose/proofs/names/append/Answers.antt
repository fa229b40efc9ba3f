use Rattle.std.proofs.Common.{◌∙◌}
use Rattle.net_compose.proofs.NamesPushed.{front_kept}
use Rattle.net_compose.proofs.names.append.Goals as goal

pub returns-in_err-extend_from_slice-clause-front : goal.returns-in_err-extend_from_slice-clause-front
returns-in_err-extend_from_slice-clause-front c =
    front_kept c.args.to.now.items _ _ (c.in_err-extend_from_slice.ensures.items ∙ c.loop-piece.invariant)

pub returns-clause-front : goal.returns-clause-front
returns-clause-front c = front_kept c.args.to.now.items _ _ c.loop-piece.invariant
