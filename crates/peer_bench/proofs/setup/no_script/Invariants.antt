use Rattle.std.proofs.Common.{◌≡◌, map, take, []}
use Rattle.prs_core.specs.declared.wires.Wires.{Wires}
use Rattle.env_script.specs.Offers.{offered}
use Rattle.peer_bench.specs.Growing.{offer_by}
use Rattle.peer_bench.proofs.setup.no_script.Given as goal

abbrev pub invariant-loop-wires : goal.invariant-loop-wires
invariant-loop-wires l = map offered l.offers.items ≡ map (λ (w : Wires). offer_by w.channel.kind 0 []) (take l.wires-index l.channels)
