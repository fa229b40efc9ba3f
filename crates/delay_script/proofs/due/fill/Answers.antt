use Rattle.std.proofs.Common.{◌∷◌, [], ℕ, List, get_or, take, sym, subst}
use Rattle.std.proofs.lemmas.List.{take_more}
use Rattle.delay_script.specs.Dues.{AreFilled}
use Rattle.delay_script.proofs.DueLists.{filled_none, filled_append}
use Rattle.delay_script.proofs.due.fill.Goals as goal

pub loop-node-init : goal.loop-node-init
loop-node-init c = filled_none c.args.stage.now c.args.delays.now c.args.made c.args.queue.now

pub loop-node-preserved : goal.loop-node-preserved
loop-node-preserved c =
    let ns = c.args.nodes.now in
    subst (λ (xs : List ℕ). AreFilled c.args.stage.now c.args.delays.now c.args.made xs c.args.queue.now c.look.new.queue)
    (sym (take_more ns c.loop-node.node-index 0 c.loop-node-test.true))
    (filled_append c.args.stage.now c.args.delays.now c.args.made (take c.loop-node.node-index ns) (get_or ns c.loop-node.node-index 0 ∷ []) c.args.queue.now
    c.loop-node.queue c.look.new.queue c.loop-node.invariant c.look.ensures)
