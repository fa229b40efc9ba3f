use Rattle.std.proofs.Common.{◌≡◌, ◌+◌}
use Rattle.prs_core.specs.Nets.{IsNet}
use Rattle.event_sim.specs.Asking.{picker_value}
use Rattle.peer_bench.specs.Asking.{peer_value}
use Rattle.event_sim.specs.Stages.{now_of}
use Rattle.peer_bench.specs.Sets.{HasIdle}
use Rattle.peer_bench.proofs.Ending.{HasDriven}
use Rattle.peer_bench.proofs.course.drive.Given as goal

abbrev pub invariant-loop-made : goal.invariant-loop-made
invariant-loop-made g l =
    let now = goal.Picker-dyn g (l.picker.vtable, l.picker.value) in
    let first = goal.Picker-dyn g (l.fn.picker.vtable, l.fn.picker.value) in
    record {
      steps : l.steps ≡ l.fn.setup.steps;
      net : IsNet l.fn.setup.net;
      driven : HasDriven (λ p. let q = goal.Peer-dyn g (p.vtable, p.value) in
          peer_value (q.name p.value) (q.log p.value) (q.spare p.value) (q.due p.value) (q.willing p.value))
          (λ p. let q = goal.Picker-dyn g (p.vtable, p.value) in
          picker_value p.vtable (q.name p.value) (q.log p.value) (q.spare p.value) (q.nodes p.value) (q.seeded p.value) (q.choice p.value)) l.fn.setup.net
          l.fn.setup.steps (first.log l.fn.picker.value) (now.log l.picker.value) l.made l.fn.peer l.peer l.fn.picker l.picker l.stage l.hazard;
      spare : now.spare l.picker.value + l.made ≡ first.spare l.fn.picker.value;
      name : now.name l.picker.value ≡ first.name l.fn.picker.value;
      nodes : now.nodes l.picker.value ≡ first.nodes l.fn.picker.value;
      seeded : now.seeded l.picker.value ≡ first.seeded l.fn.picker.value;
      kind : l.picker.vtable ≡ l.fn.picker.vtable;
      device_kind : l.peer.vtable ≡ l.fn.peer.vtable;
      idle : HasIdle l.stage.net l.stage.script (now_of l.stage) l.idle;
    }
