use Rattle.std.proofs.Common.{◌≡◌, ◌∙◌, IfOk, ap, sym, subst}
use Rattle.prs_core.specs.Nets.{GuardValue, IsFilled}
use Rattle.net_compose.specs.Circuits.{side}
use Rattle.net_compose.specs.Shapes.{shaped, shape_of}
use Rattle.net_compose.proofs.ShapesDriven.{shape_is}
use Rattle.net_compose.proofs.guard.guard_of.Goals as goal

pub shaped-requires : goal.shaped-requires
shaped-requires c =
    let d = c.driver.inside.pattern in
    let is : shaped c.shape.result c.listed.result.now ≡ side c.args.up c.args.driver.now =
    ap (λ s. shaped s c.listed.result.now) c.shape.ensures ∙ (ap (shaped (shape_of c.args.up d)) c.listed.ensures
    ∙ (shape_is c.args.up d ∙ ap (side c.args.up) c.driver.view_is)) in
    subst IsFilled (sym is) c.requires

pub returns : goal.returns
returns c =
    let d = c.driver.inside.pattern in
    let is : shaped c.shape.result c.listed.result.now ≡ side c.args.up c.args.driver.now =
    ap (λ s. shaped s c.listed.result.now) c.shape.ensures ∙ (ap (shaped (shape_of c.args.up d)) c.listed.ensures
    ∙ (shape_is c.args.up d ∙ ap (side c.args.up) c.driver.view_is)) in
    subst (λ (g : GuardValue). IfOk c.shaped.result (λ guard. guard ≡ g)) is c.shaped.ensures
