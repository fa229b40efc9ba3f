use Rattle.std.proofs.Common.{◌≡◌, ◌∙◌, ℕ, List, [], ◌∷◌, ◌++◌, length, ap, sym, subst, arith}
use Rattle.std.specs.List.{flat_map}
use Rattle.std.proofs.lemmas.List.{length-append}
use Rattle.net_compose.specs.Cuts.{cut, AreEnds}
use Rattle.net_compose.proofs.NamesCut.{cut_more, ends_more}
use Rattle.net_compose.proofs.names.append_text.Goals as goal

pub returns-clause-texts : goal.returns-clause-texts
returns-clause-texts c =
    let bytes = c.args.bytes.now.items in
    let name = flat_map (λ piece. piece.now) c.args.pieces.now in
    let ends = c.args.ends.now.items in
    let all = ap (λ (l : List ℕ). length l) c.in_ok-append.ensures.text in
    let n : c.len.result ≡ length (bytes ++ name) = omega (arith, c.len.ensures, c.append.new.to.ok, all) in
    ap (λ b. cut b 0 c.push.new.self.items) c.in_ok-append.ensures.text
    ∙ (ap (cut (bytes ++ name) 0) (c.in_ok-push.ensures.items ∙ ap (λ k. ends ++ k ∷ []) n) ∙ cut_more bytes name 0 ends c.requires)

pub returns-clause-ends : goal.returns-clause-ends
returns-clause-ends c =
    let bytes = c.args.bytes.now.items in
    let name = flat_map (λ piece. piece.now) c.args.pieces.now in
    let ends = c.args.ends.now.items in
    let now = c.append.new.to.items in
    let all = ap (λ (l : List ℕ). length l) c.in_ok-append.ensures.text in
    let count = length-append bytes name in
    let n : c.len.result ≡ length now = omega (arith, c.len.ensures, c.append.new.to.ok) in
    subst (λ es. AreEnds (length now) 0 es) (sym (c.in_ok-push.ensures.items ∙ ap (λ k. ends ++ k ∷ []) n))
    (ends_more (length bytes) (length now) 0 ends c.requires (omega (arith, all, count)))
