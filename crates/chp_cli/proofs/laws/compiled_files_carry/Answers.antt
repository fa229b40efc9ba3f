use Rattle.std.proofs.Common.{◌≡◌, Bool, true, false, inl, inr, refl, ◌⊎◌}
use Rattle.std.specs.Prelude.{None}
use Rattle.net_compose.specs.Carries.{Carries, CarriesReset}
use Rattle.width_check.specs.Processes.{TypedProgram}
use Rattle.program_commands.specs.Bodies.{Bodies, copied, shared, NetCarries, net_for}
use Rattle.chp_cli.proofs.laws.compiled_files_carry.Goals as goal

either_way : (reset : Bool) {p : TypedProgram} (bodies : Bodies p) → NetCarries reset bodies →
    (((net_for reset bodies).reset ≡ None) × Carries (net_for reset bodies) p) ⊎ CarriesReset (net_for reset bodies) p
either_way false copied carries = inl (refl, carries)
either_way false (shared h) carries = inl (refl, carries)
either_way true bodies carries = inr carries

pub returns : goal.returns
returns c = λ given file p h.
    let is = c.files_as_promised.ensures given file p h in record {
      rules = h.text;
      net = net_for h.reset h.bodies;
      held = h.held;
      kept = is.kept;
      spelled = h.spells;
      carries = either_way h.reset h.bodies is.carries;
    }
