use Rattle.prs_core.specs.declared.rule.Literal.{Literal}
use Rattle.net_compose.proofs.ShapesDriven.{all_back}
use Rattle.std.proofs.Common.{◌<◌, length, ◌+◌, ◌∷◌, [], get_or, drop, ap, refl, arith}
use Rattle.std.proofs.lemmas.Result.{err_from_is_err_and}
use Rattle.std.proofs.lemmas.List.{drop_more, drop_all}
use Rattle.net_compose.specs.Shapes.{all_wanted}
use Rattle.net_stream.proofs.Puts.{term_begins, term_left, term_over, term_room}
use Rattle.net_stream.proofs.guard.nodes_text.Goals as goal

pub loop-node-init : goal.loop-node-init
loop-node-init c = record { left = term_begins c.args.net.now c.args.lead (all_wanted c.args.high c.args.nodes.now) _ _ _ refl; capacity = omega arith }

pub put-requires : goal.put-requires
put-requires c =
    all_back (λ (l : Literal). l.node < length c.args.net.now.first) (λ n. record { node = n; high = c.args.high }) c.args.nodes.now c.requires
    c.loop-node.node-index 0 c.loop-node-test.true

pub loop-node-preserved : goal.loop-node-preserved
loop-node-preserved c =
    let node = get_or c.args.nodes.now c.loop-node.node-index 0 in
    let rest = drop (c.loop-node.node-index + 1) c.args.nodes.now in
    let at = ap (all_wanted c.args.high) (drop_more c.args.nodes.now c.loop-node.node-index 0 c.loop-node-test.true) in
    record {
      left = term_left c.args.net.now c.args.lead c.loop-node.next _ (all_wanted c.args.high c.args.nodes.now) _ (all_wanted c.args.high (node ∷ []))
          (all_wanted c.args.high rest) _ _ _ _ _ _ at c.loop-node.invariant.left c.in_ok-put.ensures.put;
      capacity = omega arith;
    }

pub returns-in_err-put-clause-room : goal.returns-in_err-put-clause-room
returns-in_err-put-clause-room c =
    let p = err_from_is_err_and c.from_residual.result c.from_residual.ensures.1 in
    let node = get_or c.args.nodes.now c.loop-node.node-index 0 in
    let rest = drop (c.loop-node.node-index + 1) c.args.nodes.now in
    let at = ap (all_wanted c.args.high) (drop_more c.args.nodes.now c.loop-node.node-index 0 c.loop-node-test.true) in
    rw p.1
    (term_room c.args.net.now c.args.lead c.loop-node.next (all_wanted c.args.high c.args.nodes.now) _ (all_wanted c.args.high (node ∷ []))
    (all_wanted c.args.high rest) _ _ _ _ _ _ at c.loop-node.invariant.left (omega (arith, c.in_err-put.ensures.room)) c.loop-node.invariant.capacity)

pub returns-clause-put : goal.returns-clause-put
returns-clause-put c =
    term_over c.args.net.now c.args.lead c.loop-node.next (all_wanted c.args.high c.args.nodes.now) _ _ _ _ _
    (ap (all_wanted c.args.high) (drop_all c.loop-node.node-index c.args.nodes.now c.loop-node-test.false)) c.loop-node.invariant.left
