use Rattle.std.proofs.Common.{◌≡◌, ◌+◌, ◌≤◌, ◌++◌, drop, length, map}
use Rattle.width_check.specs.Typed.{program_of}
use Rattle.width_check.specs.View.{process_of}
use Rattle.net_compose.specs.Contacts.{every_contact}
use Rattle.net_compose.specs.Translation.{hidden_high}
use Rattle.net_compose.proofs.Raised.{with_raised}
use Rattle.call_map.specs.CallNet.{procs_size, body_sites}
use Rattle.call_compose.specs.Placing.{requests_from, answers_from, unasked_rules}
use Rattle.call_compose.proofs.procs.place_bodies.Given as goal

abbrev pub invariant-loop-body : goal.invariant-loop-body
invariant-loop-body l =
    let p = program_of l.program in
    let bs = map (λ b. process_of b.now) l.bodies in
    record {
      made : l.drivers.items ++ unasked_rules p (drop l.body-index bs) l.next ≡ l.fn.drivers.items ++ unasked_rules p bs l.from;
      requests : l.requests.items ++ requests_from p (drop l.body-index bs) l.next ≡ requests_from p bs l.from;
      answers : l.answers.items ++ answers_from p (drop l.body-index bs) l.next ≡ answers_from p bs l.from;
      size : l.next + procs_size p (drop l.body-index bs) ≡ l.from + procs_size p bs;
      contacts : l.contacts.items ++ body_sites p (every_contact p) (drop l.body-index bs) l.next
          ≡ l.fn.contacts.items ++ body_sites p (every_contact p) bs l.from;
      first : with_raised l.first (body_sites p (hidden_high p) (drop l.body-index bs) l.next)
          ≡ with_raised l.fn.first (body_sites p (hidden_high p) bs l.from);
      count : length l.first ≡ length l.fn.first;
      low : l.from ≤ l.next;
    }
