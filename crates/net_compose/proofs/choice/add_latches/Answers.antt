use Rattle.std.proofs.Common.{◌≡◌, ◌+◌, ◌<◌, ◌∙◌, ◌∷◌, [], ◌++◌, length, take, sym, ap, append_assoc, arith}
use Rattle.std.proofs.lemmas.List.{take_more, take_all}
use Rattle.cell_select.specs.Selections.{latches}
use Rattle.net_compose.specs.Drivers.{wanted_latch}
use Rattle.net_compose.specs.Wanted.{one_wanted}
use Rattle.net_compose.proofs.Latched.{latch_here, latches_length}
use Rattle.net_compose.proofs.choice.add_latches.Goals as goal

pub loop-place-preserved : goal.loop-place-preserved
loop-place-preserved c =
    let hs = c.args.guards.now in
    let k = c.loop-place.place in
    let r = c.args.request in
    let old = c.args.drivers.now.items in
    let all = latches r hs in
    let long = latches_length r hs in
    let within : k < length hs = omega (arith, c.loop-place-test.true) in
    let one = wanted_latch r (one_wanted hs k) in
    let more : take (k + 1) all ≡ take k all ++ one ∷ [] =
    take_more all k one (omega (arith, long, within)) ∙ ap (λ d. take k all ++ d ∷ []) (latch_here r hs k one within) in
    c.in_ok-add.ensures ∙ (ap (λ d. c.loop-place.drivers.items ++ d ∷ []) (c.wanted.ensures ∙ ap (wanted_latch r) c.in_ok-wanted.ensures)
    ∙ (ap (λ l. l ++ one ∷ []) c.loop-place.invariant ∙ (append_assoc old (take k all) (one ∷ []) ∙ ap (λ l. old ++ l) (sym more))))

pub returns : goal.returns
returns c =
    let long = latches_length c.args.request c.args.guards.now in
    c.loop-place.invariant ∙ ap (λ l. c.args.drivers.now.items ++ l) (take_all c.loop-place.place (latches c.args.request c.args.guards.now)
    (omega (arith, long, c.loop-place-test.false)))
