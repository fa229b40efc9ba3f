use Rattle.std.proofs.Common.{◌≡◌, ◌+◌}
use Rattle.prs_core.specs.Nets.{IsNet}
use Rattle.event_sim.specs.Asking.{IsAskedAlong, enabled_after, picker_value}
use Rattle.event_sim.specs.Simulating.{start_at, growth}
use Rattle.event_sim.proofs.Finishing.{HasPicked}
use Rattle.event_sim.proofs.sim.Sim.run.Given as goal

abbrev pub invariant-loop-made : goal.invariant-loop-made
invariant-loop-made g l =
    let now = goal.Picker-dyn g (l.picker.vtable, l.picker.value) in
    let first = goal.Picker-dyn g (l.fn.picker.vtable, l.fn.picker.value) in
    record {
      steps : l.steps ≡ l.fn.self.steps;
      net : IsNet l.fn.self.net;
      picked : HasPicked l.fn.self (first.log l.fn.picker.value) (now.log l.picker.value) l.made l.stage l.hazard;
      asked : IsAskedAlong (λ p. let q = goal.Picker-dyn g (p.vtable, p.value) in
          picker_value p.vtable (q.name p.value) (q.log p.value) (q.spare p.value) (q.nodes p.value) (q.seeded p.value) (q.choice p.value))
          (enabled_after l.fn.self.net l.fn.self.script (start_at l.fn.self))
          (growth (first.log l.fn.picker.value) (now.log l.picker.value)) l.fn.picker l.picker;
      spare : now.spare l.picker.value + l.made ≡ first.spare l.fn.picker.value;
      name : now.name l.picker.value ≡ first.name l.fn.picker.value;
      nodes : now.nodes l.picker.value ≡ first.nodes l.fn.picker.value;
      seeded : now.seeded l.picker.value ≡ first.seeded l.fn.picker.value;
      kind : l.picker.vtable ≡ l.fn.picker.vtable;
    }
