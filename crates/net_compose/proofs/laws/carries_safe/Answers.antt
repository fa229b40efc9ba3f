use Rattle.net_compose.specs.Translation.{translation}
use Rattle.net_compose.proofs.laws.carries_safe.Goals as goal

pub returns : goal.returns
returns c = λ p is. ((c.three_points.ensures (translation p) p).0 (c.carries.ensures p is)).safe
