use Rattle.std.proofs.Common.{refl}
use Rattle.prs_core.specs.Nets.{true_rail, false_rail}
use Rattle.prs_file.specs.Indexes.{place_in}
use Rattle.prs_file.proofs.Lookups.{rails_found, rail_unknown, within_unknown}
use Rattle.prs_file.proofs.lookup.find_rails.Goals as goal

pub returns-in_default-clause-none : goal.returns-in_default-clause-none
returns-in_default-clause-none c =
    let names = c.args.index.now in
    let channel = c.args.channel.now in
    let bit = c.loop-bit.bit in
    within_unknown names channel bit c.args.width c.loop-bit-test.true
    (rail_unknown names channel bit (place_in names (true_rail channel bit)) (place_in names (false_rail channel bit)) refl refl
    (rw c.in_default.is at c.in_ok-t.ensures.none))

pub loop-bit-preserved : goal.loop-bit-preserved
loop-bit-preserved c =
    let rails = rw c.in-Some.is at c.in_ok-t.ensures.rails in
    rw (c.in_ok-push-2.ensures.items, c.in_ok-push.ensures.items) (rails_found c.args.index.now c.args.channel.now c.loop-bit.bit c.in-Some.t c.in-Some.f
    c.loop-bit.rails.items c.loop-bit.invariant rails.0 rails.1)
