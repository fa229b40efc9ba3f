-- The script by which nothing is offered.
use Rattle.std.proofs.Common.{◌≡◌, ℕ, zero, suc, ◌^◌, ◌<◌, List, [], ◌∷◌, length, get_or, map, refl, arith}
use Rattle.std.specs.Prelude.{slice_get}
use Rattle.std.proofs.lemmas.List.{length-map}
use Rattle.std.proofs.lemmas.List.Elements.{All-nil}
use Rattle.std.proofs.lemmas.List.FromFn.{fill_by_all}
use Rattle.chp_base.specs.declared.channel.Kind.{Kind}
use Rattle.chp_base.specs.declared.channel.Kind.TheVariants.{In, Out, Chan}
use Rattle.prs_core.specs.declared.wires.Wires.{Wires}
use Rattle.prs_core.specs.Nets.{NetValue}
use Rattle.env_script.specs.Scripts.{nothing, Suits, IsScript}
use Rattle.peer_bench.specs.Growing.{offer_by, offer_on, script_by}

none_by : (kind : Kind) (c d : ℕ) → offer_by kind c [] ≡ offer_by kind d []
none_by In c d = refl
none_by Out c d = refl
none_by Chan c d = refl

none_from : (ws : List Wires) (k c : ℕ) → k < length ws →
    get_or (map (λ (w : Wires). offer_by w.channel.kind 0 []) ws) k nothing ≡ offer_on (slice_get ws k) c []
none_from [] k c within = absurd (omega arith)
none_from (w ∷ ws) zero c within = none_by w.channel.kind 0 c
none_from (w ∷ ws) (suc k) c within = none_from ws k c (omega arith)

pub none_is : (net : NetValue) → map (λ (w : Wires). offer_by w.channel.kind 0 []) net.channels ≡ script_by net []
none_is net = fill_by_all (λ c. offer_on (slice_get net.channels c) c []) (map (λ (w : Wires). offer_by w.channel.kind 0 []) net.channels) (length net.channels)
    nothing (length-map net.channels (λ (w : Wires). offer_by w.channel.kind 0 [])) (λ k less. none_from net.channels k k less)

pub none_suits : (ws : List Wires) → IsScript (map (λ (w : Wires). w.channel) ws) (map (λ (w : Wires). offer_by w.channel.kind 0 []) ws)
none_suits [] = tt
none_suits (w ∷ ws) = (by_kind w.channel.kind w.channel.width, none_suits ws)
  where
    by_kind : (kind : Kind) (width : ℕ) → Suits kind width (offer_by kind 0 [])
    by_kind In width = All-nil (λ v. v < 2 ^ width)
    by_kind Out width = tt
    by_kind Chan width = tt
