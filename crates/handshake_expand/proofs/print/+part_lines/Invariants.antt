use Rattle.std.proofs.Common.{◌≡◌, ℕ, suc, ◌++◌, drop}
use Rattle.std.specs.Prelude.{codes}
use Rattle.width_check.specs.Typed.{program_of}
use Rattle.handshake_expand.specs.Layout.{nodes_of}
use Rattle.handshake_expand.specs.PartText.{indent, part_lines, child_lines, HaveNodesBelow}
use Rattle.handshake_expand.specs.PartTree.{each_tree, tree_of}
use Rattle.handshake_expand.proofs.print.+part_lines.Given as goal

abbrev pub invariant-loop-child : goal.invariant-loop-child
invariant-loop-child l = record {
  lines : (level : ℕ) → l.fn.margin.items ≡ indent level →
      l.to.items ++ child_lines (program_of l.program) (suc level) (each_tree (drop l.child-index l.child-items)) ≡ l.fn.to.items
      ++ part_lines (program_of l.program) level (tree_of l.fn.part);
  margin : l.margin.items ≡ l.fn.margin.items ++ codes "  ";
  nodes : HaveNodesBelow (nodes_of (program_of l.program)) (each_tree (drop l.child-index l.child-items));
}
