use Rattle.std.proofs.Common.{◌≡◌, ◌<◌, ℕ, take, get_or, vec_len}
use Rattle.std.specs.Prelude.{Some, None, ◌==◌, if◌then◌else◌}
use Rattle.std.specs.List.{list_any}
use Rattle.event_sim.proofs.homes.settle.Given as goal

abbrev pub invariant-loop-node : goal.invariant-loop-node
invariant-loop-node l = record {
  count : vec_len l.homes ≡ vec_len l.fn.homes;
  each : (n : ℕ) → n < vec_len l.fn.homes → get_or l.homes.items n None ≡
      (if list_any (λ m. n == m) (take l.node-index l.nodes) then Some l.chan else get_or l.fn.homes.items n None);
}
