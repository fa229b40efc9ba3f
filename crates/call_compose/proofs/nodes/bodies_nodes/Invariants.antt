use Rattle.std.proofs.Common.{◌≡◌, ◌+◌, ◌≤◌, ◌-◌, ◌^◌, map, drop}
use Rattle.width_check.specs.Typed.{program_of}
use Rattle.width_check.specs.View.{process_of}
use Rattle.handshake_expand.specs.Layout.{capped}
use Rattle.call_map.specs.CallNet.{procs_size}
use Rattle.call_compose.proofs.nodes.bodies_nodes.Given as goal

abbrev pub invariant-loop-body : goal.invariant-loop-body
invariant-loop-body l = record {
  most : l.count ≤ 2 ^ 64 - 1;
  counted : capped (l.count + procs_size (program_of l.program) (map (λ b. process_of b.now) (drop l.body-index l.bodies)))
      ≡ capped (procs_size (program_of l.program) (map (λ b. process_of b.now) l.bodies));
}
