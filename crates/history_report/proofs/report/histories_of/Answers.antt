use Rattle.std.proofs.Common.{◌≡◌, List, ℕ, [], ◌∷◌, ◌++◌, length, get_or, set, sym, ap, ◌∙◌}
use Rattle.chp_meaning.specs.Standing.{items_of}
use Rattle.event_sim.specs.Passing.{channel_histories}
use Rattle.std.proofs.lemmas.List.{take_all, with_items_is}
use Rattle.history_report.proofs.Pieces.{none_passed, noted}
use Rattle.history_report.proofs.report.histories_of.Goals as goal

pub loop-chan-init : goal.loop-chan-init
loop-chan-init c = c.in_ok-histories.ensures ∙ none_passed c.args.channels

pub loop-chan-preserved : goal.loop-chan-preserved
loop-chan-preserved c =
    let l = c.loop-chan in
    let passed = c.args.passed.now in
    let i = l.chan-index in
    let here = get_or passed i (0, 0) in
    let kept : length c.note.new.histories ≡ l.histories.len = c.note.auto.histories ∙ ap length c.deref_mut.ensures.value ∙ sym l.histories.ok.0 in
    ap items_of (with_items_is l.histories c.note.new.histories kept) ∙ c.in_ok-note.ensures
    ∙ ap (λ (hs : List (List ℕ)). set hs here.0 (get_or hs here.0 [] ++ here.1 ∷ [])) (ap items_of c.deref_mut.ensures.value ∙ l.invariant)
    ∙ noted c.args.channels passed i c.loop-chan-test.true

pub returns : goal.returns
returns c = c.loop-chan.invariant ∙ ap (channel_histories c.args.channels) (take_all c.loop-chan.chan-index c.args.passed.now c.loop-chan-test.false)
