use Rattle.std.proofs.Common.{◌≡◌, ◌∙◌, ap, cond, length, not, Bool, arith}
use Rattle.std.specs.Prelude.{◌&&◌, Some, None, if◌then◌else◌}
use Rattle.std.proofs.lemmas.List.{length-set}
use Rattle.prs_core.specs.Nets.{NetValue, up_of, down_of}
use Rattle.prs_core.specs.Moves.{high, guard_holds, rule_enabled}
use Rattle.env_script.specs.Hazards.{or_else}
use Rattle.event_sim.specs.Locality.{is_asked, is_ready, lesser, once_left}
use Rattle.event_sim.proofs.Behind.{retested_one}
use Rattle.event_sim.proofs.Leaving.{same_count}
use Rattle.event_sim.proofs.Tested.{rule_by, rule_alone, both_by}
use Rattle.event_sim.proofs.listing.retest_reader.Goals as goal

pub returns-clause-retested : goal.returns-clause-retested
returns-clause-retested c = λ done none.
    let x = c.args.indexed.now in
    let values = c.args.state.now in
    let n = c.args.node in
    let old = once_left c.args.moves.now c.args.before.leaving in
    let up : c.says-up.result.0 ≡ guard_holds (high values) (up_of x.net n) =
    c.says-up.ensures.up ∙ ap (λ (net : NetValue). guard_holds (high values) (up_of net n)) c.net.ensures.net in
    let down : c.says-up.result.1 ≡ guard_holds (high values) (down_of x.net n) =
    c.says-up.ensures.down ∙ ap (λ (net : NetValue). guard_holds (high values) (down_of net n)) c.net.ensures.net in
    let ready : c.rule_of-ready.result ≡ is_ready x done values n =
    c.rule_of-ready.ensures ∙ rule_by x.net (high values) n c.is_high.result c.says-up.result.0 c.says-up.result.1 c.is_high.ensures up down
    ∙ rule_alone (rule_enabled x.net (high values) n) (is_asked x done values n) none in
    retested_one (is_ready x done values) n old (once_left c.set_beside-leaving.new.moves c.set_beside-leaving.result) c.args.before.trouble.lost c.least_lost.result
    c.rule_of-ready.result (omega (arith, c.requires.node, c.requires.moves, same_count c.args.moves.now c.args.before.leaving)) ready
    c.set_beside-leaving.ensures.set
    (c.least_lost.ensures ∙ ap (λ (b : Bool). cond (b && not c.rule_of-ready.result) (lesser c.args.before.trouble.lost n) c.args.before.trouble.lost)
    c.stays-was.ensures)

pub returns-clause-pulled : goal.returns-clause-pulled
returns-clause-pulled c =
    let x = c.args.indexed.now in
    let v = high c.args.state.now in
    let n = c.args.node in
    let up : c.says-up.result.0 ≡ guard_holds v (up_of x.net n) =
    c.says-up.ensures.up ∙ ap (λ (net : NetValue). guard_holds v (up_of net n)) c.net.ensures.net in
    let down : c.says-up.result.1 ≡ guard_holds v (down_of x.net n) =
    c.says-up.ensures.down ∙ ap (λ (net : NetValue). guard_holds v (down_of net n)) c.net.ensures.net in
    c.first_torn.ensures
    ∙ ap (λ (b : Bool). or_else c.args.before.trouble.pulled (if b then Some n else None)) (both_by x.net v n c.says-up.result.0 c.says-up.result.1 up down)

pub returns-clause-count : goal.returns-clause-count
returns-clause-count c =
    omega (
      arith,
      same_count c.args.moves.now c.args.before.leaving,
      same_count c.set_beside-leaving.new.moves c.set_beside-leaving.result,
      ap length c.set_beside-leaving.ensures.set,
      length-set (once_left c.args.moves.now c.args.before.leaving) c.args.node c.rule_of-ready.result,
    )
