use Rattle.std.proofs.Common.{◌≡◌, ℕ, ◌<◌, ◌+◌, List, [], ◌∷◌, ◌++◌, length, take, slice_index_or, ap, sym, ◌∙◌}
use Rattle.std.specs.List.{flat_map}
use Rattle.std.proofs.lemmas.Grind.{flat_map-append}
use Rattle.std.proofs.lemmas.List.{append_assoc, append-nil, take_more, take_all}
use Rattle.prs_core.specs.declared.wires.Wires.{Wires}
use Rattle.prs_file.specs.Spelling.{channel_spelling}
use Rattle.prs_file.proofs.print.channel_lines.Goals as goal

-- the line of one channel more
one_more : (f : Wires → List ℕ) (ws : List Wires) (i : ℕ) (w : Wires) (start now : List ℕ) → i < length ws → w ≡ slice_index_or ws i w →
    now ≡ start ++ flat_map f (take i ws) → now ++ f w ≡ start ++ flat_map f (take (i + 1) ws)
one_more f ws i w start now lt here is =
    let more : take (i + 1) ws ≡ take i ws ++ w ∷ [] = take_more ws i w lt ∙ ap (λ (x : Wires). take i ws ++ x ∷ []) (sym here) in
    let last : flat_map f (w ∷ []) ≡ f w = append-nil (f w) in
    let lines : flat_map f (take (i + 1) ws) ≡ flat_map f (take i ws) ++ f w = ap (λ (xs : List Wires). flat_map f xs) more
    ∙ flat_map-append f (take i ws) (w ∷ []) ∙ ap (λ (xs : List ℕ). flat_map f (take i ws) ++ xs) last in
    ap (λ (xs : List ℕ). xs ++ f w) is ∙ append_assoc start (flat_map f (take i ws)) (f w) ∙ ap (λ (xs : List ℕ). start ++ xs) (sym lines)

pub loop-wires-init : goal.loop-wires-init
loop-wires-init c = sym (append-nil c.args.to.now.items)

pub loop-wires-preserved : goal.loop-wires-preserved
loop-wires-preserved c =
    c.in_ok-channel_line.ensures.ok ∙ one_more (λ (w : Wires). channel_spelling w.channel) c.channels-wires-items.result.now c.loop-wires.wires-index
    c.wires-item.result c.args.to.now.items c.loop-wires.to.items c.loop-wires-test.true c.wires-item.is c.loop-wires.invariant

pub returns : goal.returns
returns c =
    c.loop-wires.invariant ∙ ap (λ (ws : List Wires). c.args.to.now.items ++ flat_map (λ (w : Wires). channel_spelling w.channel) ws)
    (take_all c.loop-wires.wires-index c.channels-wires-items.result.now c.loop-wires-test.false ∙ c.channels-wires-items.ensures.channels)
