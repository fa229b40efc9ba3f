use Rattle.std.proofs.Common.{◌≡◌, ◌-◌, true, false, length, set, ap, ◌∙◌}
use Rattle.std.specs.Prelude.{replicate}
use Rattle.std.proofs.lemmas.Bool.{eq-eqb, ne_eqb}
use Rattle.prs_file.proofs.DrivenNodes.{own_plain, own_reset}
use Rattle.prs_file.proofs.driven.own_driven.Goals as goal
use Rattle.prs_file.proofs.driven.own_driven.Goals.{then-nodes-eq2, else-nodes-eq2}

pub returns : goal.returns
returns c =
    let n = c.args.nodes.now in
    let none : c.in_ok-driven.driven.items ≡ replicate (length n.index) false = c.in_ok-driven.ensures ∙ ap (λ k. replicate k false) c.len-count.ensures in
    elim c.if-nodes-eq2.branch [
      | then-nodes-eq2 w ↦
          own_reset n.version n.index n.first.items c.if-nodes-eq2.driven.items c.requires.nodes c.requires.reset (eq-eqb n.version 2 w.if-nodes-eq2.true)
          (ap (λ v. v.items) w.driven-is ∙ ap (λ xs. set (set xs 0 true) (c.len-count.result - 1) true) none
          ∙ ap (λ k. set (set (replicate (length n.index) false) 0 true) (k - 1) true) c.len-count.ensures)
      | else-nodes-eq2 w ↦
          own_plain n.version n.index n.first.items c.if-nodes-eq2.driven.items c.requires.nodes (ne_eqb n.version 2 w.if-nodes-eq2.false)
          (ap (λ v. v.items) w.driven-is ∙ ap (λ xs. set xs 0 true) none)
    ]
