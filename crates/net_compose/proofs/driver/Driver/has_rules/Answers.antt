use Rattle.std.proofs.Common.{◌≡◌, true, List, [], ◌∷◌, refl}
use Rattle.prs_core.specs.Nets.{GuardValue}
use Rattle.prs_core.specs.declared.rule.Literal.{Literal}
use Rattle.reset_net.specs.Resets.{has_rules}
use Rattle.net_compose.proofs.driver.Driver.has_rules.Goals as goal

falls : (g h : GuardValue) (t : List Literal) → true ≡ has_rules g (t ∷ h)
falls [] h t = refl
falls (u ∷ g) h t = refl

pub returns-in-Joined : goal.returns-in-Joined
returns-in-Joined c = rw (← c.self.view_is, c.in-Joined.is) (falls _ [] _)
