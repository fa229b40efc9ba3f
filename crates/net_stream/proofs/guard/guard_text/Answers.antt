use Rattle.std.proofs.Common.{◌≡◌, ◌∙◌, ◌+◌, ◌*◌, ◌<◌, length, ap, sym, subst, vec_len, vec_capacity}
use Rattle.std.proofs.lemmas.Result.{IfOk-weaker, on_err_weaker, err_from_is_err_and}
use Rattle.prs_core.specs.Nets.{IsBelow, NodeRules, guard_literals}
use Rattle.prs_file.specs.declared.forms.Lead.TheVariants.{Rule}
use Rattle.net_compose.specs.Circuits.{with_ends, guard_end, side}
use Rattle.net_stream.specs.Led.{IsPut}
use Rattle.net_compose.specs.Shapes.{shaped, shape_of}
use Rattle.net_stream.proofs.Puts.{put_more, room_first, room_second}
use Rattle.net_compose.proofs.ShapesDriven.{shape_is, shape_near}
use Rattle.net_stream.proofs.guard.guard_text.Goals as goal

pub shape_text-requires-clause-within : goal.shape_text-requires-clause-within
shape_text-requires-clause-within c =
    let n = length c.args.net.now.first in
    let d = c.driver.inside.pattern in
    rw (c.shape-shape.ensures, c.listed.ensures) (shape_near n c.args.up d (subst (λ (r : NodeRules). IsBelow n r.up) (sym c.driver.view_is) c.requires.up)
    (subst (λ (r : NodeRules). IsBelow n r.down) (sym c.driver.view_is) c.requires.down))

pub returns-in_err-lead-clause-room : goal.returns-in_err-lead-clause-room
returns-in_err-lead-clause-room c =
    let p = err_from_is_err_and c.from_residual.result c.from_residual.ensures.1 in
    let d = c.driver.inside.pattern in
    let is : shaped c.shape-shape.result c.listed.result.now ≡ side c.args.up c.args.driver.now =
    ap (λ s. shaped s c.listed.result.now) c.shape-shape.ensures ∙ (ap (shaped (shape_of c.args.up d)) c.listed.ensures
    ∙ (shape_is c.args.up d ∙ ap (side c.args.up) c.driver.view_is)) in
    rw p.1 (room_first (with_ends c.args.ending (side c.args.up c.args.driver.now)) (guard_end c.args.ending) _ _
    (subst (λ g. vec_capacity c.args.to.now < vec_len c.args.to.now + 64 * guard_literals (with_ends c.args.ending g)) is c.in_err-lead.ensures.room))

pub returns-clause-put : goal.returns-clause-put
returns-clause-put c =
    let d = c.driver.inside.pattern in
    let is : shaped c.shape-shape.result c.listed.result.now ≡ side c.args.up c.args.driver.now =
    ap (λ s. shaped s c.listed.result.now) c.shape-shape.ensures ∙ (ap (shaped (shape_of c.args.up d)) c.listed.ensures
    ∙ (shape_is c.args.up d ∙ ap (side c.args.up) c.driver.view_is)) in
    let first = subst (λ g. IsPut c.args.net.now Rule c.in_ok-lead.lead (with_ends c.args.ending g) c.args.to.now.items c.shape_text.new.to.items
    (vec_len c.args.to.now) (vec_len c.shape_text.new.to)) is c.in_ok-lead.ensures.put in
    IfOk-weaker c.guard_end_text.result _ _ (λ next h. put_more c.args.net.now Rule c.in_ok-lead.lead next
    (with_ends c.args.ending (side c.args.up c.args.driver.now)) (guard_end c.args.ending) _ _ _ _ _ _ first h) c.guard_end_text.ensures.put

pub returns-clause-room : goal.returns-clause-room
returns-clause-room c =
    let d = c.driver.inside.pattern in
    let is : shaped c.shape-shape.result c.listed.result.now ≡ side c.args.up c.args.driver.now =
    ap (λ s. shaped s c.listed.result.now) c.shape-shape.ensures ∙ (ap (shaped (shape_of c.args.up d)) c.listed.ensures
    ∙ (shape_is c.args.up d ∙ ap (side c.args.up) c.driver.view_is)) in
    let first = subst (λ g. IsPut c.args.net.now Rule c.in_ok-lead.lead (with_ends c.args.ending g) c.args.to.now.items c.shape_text.new.to.items
    (vec_len c.args.to.now) (vec_len c.shape_text.new.to)) is c.in_ok-lead.ensures.put in
    on_err_weaker c.guard_end_text.result (λ full. room_second c.args.net.now Rule c.in_ok-lead.lead
    (with_ends c.args.ending (side c.args.up c.args.driver.now)) (guard_end c.args.ending) _ _ _ _ _ _ first full c.shape_text.ensures.capacity)
    c.guard_end_text.ensures.room
