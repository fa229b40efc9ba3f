use Rattle.std.proofs.Common.{◌≡◌, ℕ, [], ◌∷◌, ◌++◌, get_or, set, sym, ap, ◌∙◌}
use Rattle.std.specs.declared.alloc.Global.{Global}
use Rattle.std.specs.declared.vec.Vec.{Vec}
use Rattle.std.proofs.lemmas.List.{get_or-map, map-set}
use Rattle.chp_meaning.specs.Standing.{items_of}
use Rattle.history_report.proofs.report.note.Goals as goal

pub returns : goal.returns
returns c =
    let hs = c.args.histories.now in
    let chan = c.args.chan in
    let history = c.index-histories-chan.result in
    let here : (get_or hs chan history).items ≡ get_or (items_of hs) chan [] =
    sym (get_or-map (λ (h : Vec ℕ Global). h.items) hs chan history [] c.if-chan-histories.false) in
    map-set (λ (h : Vec ℕ Global). h.items) hs chan c.push.new.self
    ∙ ap (set (items_of hs) chan) (c.in_ok-push.ensures.items ∙ ap (λ xs. xs ++ c.args.value ∷ []) here)
