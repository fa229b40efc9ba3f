-- The channels of a net, as a script asks for them.
use Rattle.std.proofs.Common.{◌≡◌, ◌≢◌, ℕ, ◌<◌, ◌≤◌, Bool, List, [], ◌∷◌, length, map, arith}
use Rattle.std.specs.Prelude.{All, AllPairs}
use Rattle.std.proofs.lemmas.List.{get_or-map, length-map}
use Rattle.std.specs.List.{range_with_len}
use Rattle.std.proofs.lemmas.List.FromFn.{length-map-range_with_len}
use Rattle.std.proofs.lemmas.List.Elements.{All-map}
use Rattle.chp_base.specs.declared.channel.Channel.{Channel}
use Rattle.prs_core.specs.declared.wires.Wires.{Wires}
use Rattle.prs_core.specs.Nets.{NetValue, IsNet}
use Rattle.env_script.specs.Environment.{net_channels}
use Rattle.env_script.specs.Scripts.{OfferValue, IsScript}
use Rattle.env_script.proofs.Wires.{one_each}

pairs_mapped : {X Y : Type 0} (f : X → Y) (R : Y → Y → Type 0) (xs : List X) → AllPairs (λ a b. R (f a) (f b)) xs → AllPairs R (map f xs)
pairs_mapped f R [] each = λ i j d before within. absurd (omega arith)
pairs_mapped f R (x ∷ xs) each = λ i j d before within.
    let count = length-map (x ∷ xs) f in
    let there : j < length (x ∷ xs) = omega (arith, within, count) in
    let first = get_or-map f (x ∷ xs) i x d (omega (arith, before, there)) in
    let second = get_or-map f (x ∷ xs) j x d there in
    rw (first, second) (each i j x before there)

pub script_distinct : (n : NetValue) → IsNet n → AllPairs (λ (a b : Channel). a.name ≢ b.name) (net_channels n)
script_distinct n net = pairs_mapped (λ (w : Wires). w.channel) (λ (a b : Channel). a.name ≢ b.name) n.channels net.channels_distinct

pub script_wide : (n : NetValue) → IsNet n → All (λ (c : Channel). (1 ≤ c.width) × (c.width ≤ 64)) (net_channels n)
script_wide n net = All-map (λ (c : Channel). (1 ≤ c.width) × (c.width ≤ 64)) (λ (w : Wires). w.channel) n.channels (λ k d within. let c =
    net.channels k d within in (c.some, c.most))

-- one answer for each node
pub counted : (test : ℕ → Bool) (n : ℕ) → length (map test (range_with_len 0 n)) ≡ n
counted test n = length-map-range_with_len test 0 n

-- one offer for each channel
pub offered : (net : NetValue) (script : List OfferValue) → IsScript (net_channels net) script → length script ≡ length net.channels
offered net script is = one_each net script is
