use Rattle.std.proofs.Common.{◌++◌, ◌∷◌, [], map, take, sym, ap, ◌∙◌}
use Rattle.std.proofs.lemmas.List.{map-append, take_more, take_all}
use Rattle.prs_core.specs.declared.wires.Wires.{Wires}
use Rattle.env_script.specs.Offers.{offered}
use Rattle.env_script.specs.Scripts.{OfferValue}
use Rattle.peer_bench.specs.Growing.{offer_by}
use Rattle.peer_bench.proofs.setup.no_script.Goals as goal

abbrev nothing : Wires → OfferValue
nothing w = offer_by w.channel.kind 0 []

pub loop-wires-preserved : goal.loop-wires-preserved
loop-wires-preserved c =
    let ws = c.args.channels.now in
    let i = c.loop-wires.wires-index in
    let w = c.wires-item.result in
    let more = take_more ws i w c.loop-wires-test.true ∙ ap (λ x. take i ws ++ x ∷ []) (sym c.wires-item.is) in
    ap (map offered) c.in_ok-push.ensures.items ∙ map-append offered c.loop-wires.offers.items (c.no_offer.result ∷ [])
    ∙ ap (λ xs. xs ++ offered c.no_offer.result ∷ []) c.loop-wires.invariant ∙ ap (λ x. map nothing (take i ws) ++ x ∷ []) (c.no_offer.ensures 0)
    ∙ sym (ap (map nothing) more ∙ map-append nothing (take i ws) (w ∷ []))

pub returns : goal.returns
returns c = c.new.ensures ∙ c.loop-wires.invariant ∙ ap (map nothing) (take_all _ c.args.channels.now c.loop-wires-test.false)
