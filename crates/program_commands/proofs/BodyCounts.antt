-- How many nodes are counted of a net with bodies copied or shared, as far as they are.
use Rattle.std.proofs.Common.{◌⊎◌, ◌<◌, ◌≤◌, inl, inr, arith}
use Rattle.chp_syntax.specs.Trees.{ProgramTree}
use Rattle.handshake_expand.specs.Layout.{nodes_of}
use Rattle.width_check.specs.Processes.{TypedProgram}
use Rattle.call_map.specs.CallNet.{call_count}
use Rattle.call_compose.specs.Inlined.{AreInlined}
use Rattle.call_compose.specs.Placing.{shared_of}
use Rattle.program_commands.specs.Bodies.{Bodies, copied, shared, counted_with}

pub few_nodes : {p : TypedProgram} (bodies : Bodies p) → counted_with bodies ≤ 65536 → nodes_of p ≤ 65536
few_nodes copied few = omega (arith, few)
few_nodes (shared h) few = omega (arith, few)

module _ {program : ProgramTree} {p : TypedProgram} (h : AreInlined program p) where
  pub few_shared : counted_with (shared h) ≤ 65536 → call_count (shared_of h) ≤ 65536
  few_shared few = omega (arith, few)

  pub shared_few : call_count (shared_of h) ≤ 65536 → nodes_of p ≤ 65536 → counted_with (shared h) ≤ 65536
  shared_few own copies = omega (arith, own, copies)

  pub shared_many : (65536 < call_count (shared_of h)) ⊎ (65536 < nodes_of p) → 65536 < counted_with (shared h)
  shared_many (inl own) = omega (arith, own)
  shared_many (inr copies) = omega (arith, copies)
