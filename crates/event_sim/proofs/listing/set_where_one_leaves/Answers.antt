use Rattle.std.proofs.Common.{◌∙◌, sym, ap, set, false, true, Bool, ℕ, List}
use Rattle.std.proofs.lemmas.List.{set-set}
use Rattle.event_sim.proofs.Leaving.{back_in, beside}
use Rattle.event_sim.proofs.listing.set_where_one_leaves.Goals as goal

pub returns-then-ready-clause-set : goal.returns-then-ready-clause-set
returns-then-ready-clause-set c =
    let old = c.args.moves.now in
    back_in old c.args.leaving c.requires.leaving ∙ ap (λ (n : ℕ). set (set old c.args.leaving false) n true) c.if-leaving-node.true
    ∙ ap (λ (b : Bool). set (set old c.args.leaving false) c.args.node b) (sym c.if-ready.true)

pub returns-then-leaving-node-clause-set : goal.returns-then-leaving-node-clause-set
returns-then-leaving-node-clause-set c =
    let old = c.args.moves.now in
    sym (set-set old c.args.leaving false false) ∙ ap (λ (n : ℕ). set (set old c.args.leaving false) n false) c.if-leaving-node.true
    ∙ ap (λ (b : Bool). set (set old c.args.leaving false) c.args.node b) (sym c.if-ready.false)

pub returns-clause-set : goal.returns-clause-set
returns-clause-set c =
    ap (λ (marks : List Bool). set marks c.args.leaving false) c.set.ensures
    ∙ beside c.args.moves.now c.args.leaving c.args.node c.args.ready c.if-leaving-node.false
