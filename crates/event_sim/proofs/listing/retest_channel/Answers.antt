use Rattle.std.proofs.Common.{◌≡◌, ◌∙◌, ◌∷◌, [], ap, subst, get_or, ℕ, List}
use Rattle.std.specs.Prelude.{None}
use Rattle.prs_core.specs.declared.wires.Wires.{Wires}
use Rattle.prs_core.specs.Nets.{NetValue}
use Rattle.event_sim.specs.Locality.{is_ready, IsRetested}
use Rattle.event_sim.proofs.Behind.{retested_more}
use Rattle.event_sim.proofs.listing.retest_channel.Goals as goal

pub returns : goal.returns
returns c =
    let x = c.args.indexed.now in
    let k = c.args.chan in
    let w = c.index-channels-chan.result in
    let ready = is_ready x c.args.done.now c.args.state.now in
    let all : c.channels.result.now ≡ x.net.channels = c.channels.ensures.channels ∙ ap (λ (net : NetValue). net.channels) c.net.ensures.net in
    let first : IsRetested ready w.rails c.args.moves.now c.retest-lost.new.moves None c.retest-lost.result =
    subst (λ (xs : List ℕ). IsRetested ready xs c.args.moves.now c.retest-lost.new.moves None c.retest-lost.result) c.nodes.ensures c.retest-lost.ensures in
    record {
      wires = w;
      here = c.index-channels-chan.is ∙ ap (λ (ws : List Wires). get_or ws k w) all;
      lost = c.retest.result;
      retested = retested_more ready w.rails (w.ack ∷ []) c.args.moves.now c.retest-lost.new.moves c.retest.new.moves None c.retest-lost.result
          c.retest.result first c.retest.ensures;
    }
