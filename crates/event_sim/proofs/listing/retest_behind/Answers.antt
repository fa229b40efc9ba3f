use Rattle.std.proofs.Common.{◌≡◌, ◌∙◌, sym, ap, true, false, arith}
use Rattle.std.specs.List.{find}
use Rattle.prs_core.specs.Nets.{NetValue}
use Rattle.prs_core.specs.Moves.{high, both_ways}
use Rattle.env_script.specs.Environment.{is_reset}
use Rattle.guard_rows.specs.Places.{readers_in}
use Rattle.event_sim.proofs.Behind.{behind_near, behind_reset}
use Rattle.event_sim.proofs.Tested.{readers_within}
use Rattle.event_sim.proofs.listing.retest_behind.Goals as goal

pub returns-then-is_reset-clause-listed : goal.returns-then-is_reset-clause-listed
returns-then-is_reset-clause-listed c = λ was before move.
    let x = c.args.indexed.now in
    let reset : is_reset x.net.reset c.args.node ≡ true =
    ap (λ (net : NetValue). is_reset net.reset c.args.node) (sym c.net.ensures.net) ∙ sym c.is_reset.ensures ∙ c.if-is_reset.true in
    behind_reset x c.args.node was c.args.done.now before c.args.state.now c.args.moves.now c.list_ready.new.moves c.net.ensures.is_net reset move
    c.list_ready.ensures

pub returns-clause-listed : goal.returns-clause-listed
returns-clause-listed c = λ was before move.
    let x = c.args.indexed.now in
    let other : is_reset x.net.reset c.args.node ≡ false =
    ap (λ (net : NetValue). is_reset net.reset c.args.node) (sym c.net.ensures.net) ∙ sym c.is_reset.ensures ∙ c.if-is_reset.false in
    behind_near x c.args.node was c.args.done.now before c.args.state.now c.args.moves.now c.retest_near.new.moves c.retest_near.result.lost
    c.net.ensures.is_net c.requires.node other move c.retest_near.ensures.near

pub edges-requires : goal.edges-requires
edges-requires c = omega (arith, c.requires.node, c.requires.rows.edges)

pub pulled_among-pulled-requires-clause-readers : goal.pulled_among-pulled-requires-clause-readers
pulled_among-pulled-requires-clause-readers c =
    let net = c.args.indexed.now.net in
    rw c.net-then-is_reset.ensures.net (readers_within net c.args.node (readers_in c.edges.result.now) (c.edges.ensures net c.args.state.now c.requires.rows))

pub returns-then-is_reset-clause-pulled : goal.returns-then-is_reset-clause-pulled
returns-then-is_reset-clause-pulled c =
    let net = c.args.indexed.now.net in
    let v = high c.args.state.now in
    c.pulled_among-pulled.ensures ∙ ap (λ (w : NetValue). find (both_ways w v) (readers_in c.edges.result.now)) c.net-then-is_reset.ensures.net
    ∙ ap (find (both_ways net v)) (c.edges.ensures net c.args.state.now c.requires.rows)
