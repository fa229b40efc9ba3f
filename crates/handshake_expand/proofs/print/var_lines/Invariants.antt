use Rattle.std.proofs.Common.{◌≡◌, ◌++◌, map, drop}
use Rattle.handshake_expand.specs.Expansions.{block_value}
use Rattle.handshake_expand.specs.PartText.{var_lines}
use Rattle.handshake_expand.proofs.print.var_lines.Given as goal

abbrev pub invariant-loop-place : goal.invariant-loop-place
invariant-loop-place l =
    l.to.items ++ var_lines (drop l.place l.var-items) (map block_value (drop l.place l.blocks)) ≡ l.initial.to.items
    ++ var_lines l.var-items (map block_value l.blocks)
