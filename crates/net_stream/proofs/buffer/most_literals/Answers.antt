use Rattle.std.proofs.Common.{◌+◌, List, ℕ, length, ap, sym, subst}
use Rattle.net_compose.specs.Drivers.{driven}
use Rattle.net_stream.specs.Rooms.{IsFew}
use Rattle.net_stream.proofs.FewLiterals.{few_is}
use Rattle.net_stream.proofs.buffer.most_literals.Goals as goal

pub returns : goal.returns
returns c =
    let d = c.driver.inside.pattern in
    subst (IsFew (length c.listed.result.now + 24)) c.driver.view_is
    (subst (λ n. IsFew (n + 24) (driven d)) (sym (ap (λ (l : List ℕ). length l) c.listed.ensures)) (few_is d))
