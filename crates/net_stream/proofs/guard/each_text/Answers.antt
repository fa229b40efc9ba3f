use Rattle.net_compose.proofs.ShapesDriven.{one_near}
use Rattle.std.proofs.Common.{length, ◌+◌, ◌∷◌, [], ℕ, List, get_or, drop, map, ap, refl, arith}
use Rattle.std.proofs.lemmas.Result.{err_from_is_err_and}
use Rattle.std.proofs.lemmas.List.{drop_more, drop_all}
use Rattle.prs_core.specs.Nets.{GuardValue, is_high}
use Rattle.prs_file.specs.declared.forms.Lead.TheVariants.{Rule}
use Rattle.net_compose.specs.Circuits.{with_ends}
use Rattle.net_stream.proofs.Puts.{begins, left_more, left_over, left_room}
use Rattle.net_stream.proofs.guard.each_text.Goals as goal

abbrev singles : List ℕ → GuardValue
singles ns = map (λ k. is_high k ∷ []) ns

pub loop-node-init : goal.loop-node-init
loop-node-init c = record { left = begins c.args.net.now Rule (with_ends c.args.ending (singles c.args.nodes.now)) _ _ _ refl; capacity = omega arith }

pub loop-node-preserved : goal.loop-node-preserved
loop-node-preserved c =
    let node = get_or c.args.nodes.now c.loop-node.node-index 0 in
    let rest = drop (c.loop-node.node-index + 1) c.args.nodes.now in
    let at = ap (λ ns. with_ends c.args.ending (singles ns)) (drop_more c.args.nodes.now c.loop-node.node-index 0 c.loop-node-test.true) in
    record {
      left = left_more c.args.net.now Rule c.loop-node.lead _ (with_ends c.args.ending (singles c.args.nodes.now)) _
          (with_ends c.args.ending (singles (node ∷ []))) (with_ends c.args.ending (singles rest)) _ _ _ _ _ _ at c.loop-node.invariant.left
          c.in_ok-lead.ensures.put;
      capacity = omega arith;
    }

pub returns-clause-put : goal.returns-clause-put
returns-clause-put c =
    left_over c.args.net.now Rule c.loop-node.lead (with_ends c.args.ending (singles c.args.nodes.now)) _ _ _ _ _
    (ap (λ ns. with_ends c.args.ending (singles ns)) (drop_all c.loop-node.node-index c.args.nodes.now c.loop-node-test.false))
    c.loop-node.invariant.left

pub returns-in_err-lead-clause-room : goal.returns-in_err-lead-clause-room
returns-in_err-lead-clause-room c =
    let p = err_from_is_err_and c.from_residual.result c.from_residual.ensures.1 in
    let node = get_or c.args.nodes.now c.loop-node.node-index 0 in
    let rest = drop (c.loop-node.node-index + 1) c.args.nodes.now in
    let at = ap (λ ns. with_ends c.args.ending (singles ns)) (drop_more c.args.nodes.now c.loop-node.node-index 0 c.loop-node-test.true) in
    rw p.1
    (left_room c.args.net.now Rule c.loop-node.lead (with_ends c.args.ending (singles c.args.nodes.now)) _
    (with_ends c.args.ending (singles (node ∷ []))) (with_ends c.args.ending (singles rest)) _ _ _ _ _ _ at c.loop-node.invariant.left
    c.in_err-lead.ensures.room c.loop-node.invariant.capacity)

pub term_text-requires-clause-within : goal.term_text-requires-clause-within
term_text-requires-clause-within c =
    one_near (length c.args.net.now.first) (get_or c.args.nodes.now c.loop-node.node-index 0)
    (c.requires.within c.loop-node.node-index 0 c.loop-node-test.true)
