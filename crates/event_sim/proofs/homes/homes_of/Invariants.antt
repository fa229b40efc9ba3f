use Rattle.std.proofs.Common.{◌≡◌, ◌<◌, ℕ, true, length, get_or}
use Rattle.std.specs.Prelude.{Some, None, IfSome}
use Rattle.prs_core.specs.declared.wires.Wires.{Wires}
use Rattle.event_sim.specs.Locality.{is_wire}
use Rattle.event_sim.proofs.homes.homes_of.Given as goal

abbrev pub invariant-loop-chan : goal.invariant-loop-chan
invariant-loop-chan l = record {
  count : length l.homes.items ≡ length l.net.first;
  within : (n : ℕ) → n < length l.net.first → IfSome (get_or l.homes.items n None) (λ c. c < l.chan);
  only : (n c : ℕ) (d : Wires) → n < length l.net.first → c < l.chan → is_wire (get_or l.net.channels c d) n ≡ true →
      get_or l.homes.items n None ≡ Some c;
}
