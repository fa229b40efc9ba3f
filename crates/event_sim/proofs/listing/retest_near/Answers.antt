use Rattle.std.proofs.Common.{◌≡◌, ◌∙◌, ◌++◌, ◌∷◌, [], refl, ap, subst, set, get_or, length, ℕ, List}
use Rattle.std.specs.Prelude.{None}
use Rattle.prs_core.specs.declared.wires.Wires.{Wires}
use Rattle.prs_core.specs.Nets.{NetValue}
use Rattle.prs_core.specs.Fans.{readers_below}
use Rattle.event_sim.specs.Locality.{is_ready, IsRetested}
use Rattle.event_sim.proofs.Behind.{near_alone, near_wires, retested_more}
use Rattle.event_sim.proofs.listing.retest_near.Goals as goal

pub returns-in-None-clause-near : goal.returns-in-None-clause-near
returns-in-None-clause-near c =
    let x = c.args.indexed.now in
    let n = c.args.node in
    let readers = readers_below x.net (length x.net.first) n in
    record {
      nodes = readers;
      near = near_alone x n readers refl c.in-None.ensures;
      retested = c.retest_own-lost.ensures.retested;
    }

pub returns-in-Some-clause-near : goal.returns-in-Some-clause-near
returns-in-Some-clause-near c =
    let x = c.args.indexed.now in
    let n = c.args.node in
    let k = c.in-Some.chan in
    let w = c.index-channels-chan.result in
    let ready = is_ready x c.args.done.now c.args.state.now in
    let readers = readers_below x.net (length x.net.first) n in
    let lost = c.retest_own-lost.result.lost in
    let all : c.channels.result.now ≡ x.net.channels = c.channels.ensures.channels ∙ ap (λ (net : NetValue). net.channels) c.net.ensures.net in
    let here : w ≡ get_or x.net.channels k w = c.index-channels-chan.is ∙ ap (λ (ws : List Wires). get_or ws k w) all in
    let second : IsRetested ready w.rails c.retest_own-lost.new.moves c.retest-lost.new.moves lost c.retest-lost.result =
    subst (λ (xs : List ℕ). IsRetested ready xs c.retest_own-lost.new.moves c.retest-lost.new.moves lost c.retest-lost.result)
    c.nodes.ensures c.retest-lost.ensures in
    record {
      nodes = readers ++ w.rails ++ w.ack ∷ [];
      near = near_wires x n k w readers refl c.in-Some.ensures here;
      retested = retested_more ready (readers ++ w.rails) (w.ack ∷ []) (set c.args.moves.now n (ready n)) c.retest-lost.new.moves
          c.retest-lost-in-Some.new.moves None c.retest-lost.result c.retest-lost-in-Some.result
          (retested_more ready readers w.rails (set c.args.moves.now n (ready n)) c.retest_own-lost.new.moves c.retest-lost.new.moves None
          lost c.retest-lost.result c.retest_own-lost.ensures.retested second) c.retest-lost-in-Some.ensures;
    }
