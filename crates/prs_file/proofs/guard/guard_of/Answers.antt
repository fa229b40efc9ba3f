use Rattle.std.proofs.Common.{◌≡◌, ◌<◌, ◌+◌, ◌++◌, ◌∷◌, [], false, length, take, refl, sym, ap, ◌∙◌, subst, arith}
use Rattle.std.specs.Prelude.{is_none}
use Rattle.std.specs.List.{list_any}
use Rattle.std.proofs.lemmas.Bool.{or_from}
use Rattle.std.proofs.lemmas.List.{take_more, length-take}
use Rattle.prs_core.specs.Nets.{IsBelow}
use Rattle.prs_file.specs.Named.{guard_named}
use Rattle.prs_file.specs.Terms.{terms_of}
use Rattle.prs_file.proofs.GuardsNamed.{named_first, named_more, below_first, below_more, none_more, is_lost, further_item}
use Rattle.prs_file.proofs.guard.guard_of.Goals as goal

pub loop-led-init : goal.loop-led-init
loop-led-init c =
    let names = c.args.index.now in
    let leds = c.args.leds.now in
    let first = c.first-item.result in
    let literal = c.in-Some.literal in
    let at = rw c.in-Some.is at c.literal_of.ensures.node in
    let high = rw c.in-Some.is at c.literal_of.ensures.high in
    let front : take (0 + 1) leds ≡ first ∷ [] = take_more leds 0 first (omega (arith, c.in-len1-up.len_at_least)) ∙ ap (λ x. x ∷ []) (sym c.first-item.is) in
    let last : c.push.new.self.items ≡ literal ∷ [] = c.in_ok-push.ensures.items ∙ ap (λ xs. xs ++ literal ∷ []) c.new-last.ensures.items in
    let guard : c.in_ok-terms.terms.items ++ c.push.new.self.items ∷ [] ≡ (literal ∷ []) ∷ [] =
    ap (λ xs. xs ++ c.push.new.self.items ∷ []) c.in_ok-terms.ensures.items ∙ ap (λ x. x ∷ []) last in
    record {
      named = ap (guard_named names) guard ∙ named_first names first literal high at ∙ sym (ap terms_of front);
      within = subst (IsBelow (length names)) (sym guard) (below_first names first.name literal at);
      known = ap (list_any (is_lost names)) front ∙ or_from (is_lost names first) false (ap (λ o. is_none o) at) refl;
      some = omega (arith, ap length last);
    }

pub loop-led-preserved : goal.loop-led-preserved
loop-led-preserved c =
    let names = c.args.index.now in
    let leds = c.args.leds.now in
    let i = c.loop-led.led-index in
    let led = c.led-item.result in
    let literal = c.in-Some-literal_of.literal in
    let at = rw c.in-Some-literal_of.is at c.literal_of-in-loop-led.ensures.node in
    let high = rw c.in-Some-literal_of.is at c.literal_of-in-loop-led.ensures.high in
    let here = further_item leds i led c.in-len1-up.len_at_least c.loop-led-test.true c.led-item.is in
    let more : take (i + 1 + 1) leds ≡ take (i + 1) leds ++ led ∷ [] = take_more leds (i + 1) led here.0 ∙ ap (λ x. take (i + 1) leds ++ x ∷ []) (sym here.1) in
    let some : 0 < length (take (i + 1) leds) = omega (arith, length-take (i + 1) leds, here.0) in
    let before = c.loop-led.terms.items ++ c.loop-led.last.items ∷ [] in
    let now = c.add_literal.new.terms.items ++ c.add_literal.new.last.items ∷ [] in
    let l = c.loop-led.invariant in
    record {
      named = named_more names (take (i + 1) leds) led literal before now some high at l.named c.in_ok-add_literal.ensures.guard ∙ sym (ap terms_of more);
      within = below_more names led.name led.lead literal before now at l.within c.in_ok-add_literal.ensures.guard;
      known = ap (list_any (is_lost names)) more ∙ none_more (is_lost names) (take (i + 1) leds) led l.known (ap (λ o. is_none o) at);
      some = c.in_ok-add_literal.ensures.some;
    }
