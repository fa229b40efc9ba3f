use Rattle.std.proofs.Common.{◌≡◌, ℕ, ◌++◌, ◌∷◌, ◌∙◌, [], List, length, get_or, take, refl, sym, ap, arith}
use Rattle.std.proofs.lemmas.List.{take_all, take_more, length-append, get_or_read}
use Rattle.guard_rows.proofs.Parts.{first_start, start_more, parts_more}
use Rattle.guard_rows.proofs.edges.Edges.of.Goals as goal

pub loop-node-init : goal.loop-node-init
loop-node-init c =
    let starts : c.push.new.self.items ≡ 0 ∷ [] = c.in_ok-push.ensures.items ∙ ap (λ (xs : List ℕ). xs ++ 0 ∷ []) c.in_ok-starts.ensures.items in
    rw (starts, c.new-list.ensures.items) (record { starts = first_start; parts = refl })

pub loop-node-preserved : goal.loop-node-preserved
loop-node-preserved c =
    let starts = c.loop-node.starts.items in
    let all = c.loop-node.list.items in
    let more = c.deref.result.now in
    let is = c.loop-node.invariant in
    let grown : c.extend_from_slice.new.self.items ≡ all ++ more = c.in_ok-extend_from_slice.ensures.items in
    let longer : c.len.result ≡ length (all ++ more) = omega (arith, c.len.ensures, c.extend_from_slice.new.self.ok.0, ap length grown) in
    let next : c.push-in-loop-node.new.self.items ≡ starts ++ length (all ++ more) ∷ [] =
    c.in_ok-push-2.ensures.items ∙ ap (λ k. starts ++ k ∷ []) longer in
    rw (next, grown) (record {
      starts = start_more starts (length all) (length (all ++ more)) is.starts (omega (arith, length-append all more));
      parts = parts_more starts all more is.starts ∙ ap (λ (xs : List (List (ℕ × ℕ))). xs ++ more ∷ []) is.parts
          ∙ ap (λ (es : List (ℕ × ℕ)). take c.loop-node.node-index c.args.nodes.now ++ es ∷ []) (here c)
          ∙ sym (take_more c.args.nodes.now c.loop-node.node-index [] c.loop-node-test.true);
    })
  where
    here : (c : goal.In_ok-push-2) → c.deref.result.now ≡ get_or c.args.nodes.now c.loop-node.node-index []
    here c = c.deref.ensures.value ∙ c.node.view_is
        ∙ get_or_read c.args.nodes.now c.loop-node.node-index c.node-item.result c.loop-node-test.true c.node-item.is []

pub returns : goal.returns
returns c = c.loop-node.invariant.parts ∙ take_all c.loop-node.node-index c.args.nodes.now c.loop-node-test.false
