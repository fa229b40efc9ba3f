use Rattle.std.proofs.Common.{◌∙◌, ◌+◌, [], ◌∷◌, ◌++◌, ap, sym, append_assoc, refl}
use Rattle.std.specs.List.{range_with_len}
use Rattle.std.proofs.lemmas.List.FromFn.{map-range_with_len_more}
use Rattle.cell_select.specs.Selections.{started, starts}
use Rattle.net_compose.specs.Drivers.{let_go}
use Rattle.net_compose.proofs.choice.add_starts.Goals as goal

pub loop-place-preserved : goal.loop-place-preserved
loop-place-preserved c =
    let hs = c.args.guards.now in
    let old = c.args.drivers.now.items in
    let k = c.loop-place.place in
    let latch = c.args.latched + k in
    let one = started latch hs in
    let before = starts (range_with_len c.args.latched k) hs in
    c.in_ok-add.ensures ∙ (ap (λ d. c.loop-place.drivers.items ++ d ∷ []) (c.started.ensures ∙ ap (let_go latch latch) c.in_ok-rails.ensures)
    ∙ (ap (λ l. l ++ one ∷ []) c.loop-place.invariant ∙ (append_assoc old before (one ∷ [])
    ∙ ap (λ l. old ++ l) (sym (map-range_with_len_more (λ l. started l hs) c.args.latched k latch refl)))))
