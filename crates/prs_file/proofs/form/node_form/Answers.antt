use Rattle.std.proofs.Common.{length, take, drop, ◌-◌, refl, sym, ◌∙◌}
use Rattle.prs_file.proofs.NodeLines.{no_node}
use Rattle.prs_file.proofs.form.node_form.Goals as goal

pub returns-then-not-is_spelled-clause-none : goal.returns-then-not-is_spelled-clause-none
returns-then-not-is_spelled-clause-none c =
    let line = c.args.line.now in
    λ name first is e. no_node line (take (length line - 3 - 5) (drop 5 line)) refl (sym c.is_spelled-is_high.ensures ∙ c.if-not-is_high.true)
    (sym c.is_spelled.ensures ∙ c.if-not-is_spelled.true) name first e
