-- The channels of a net: their wires are nodes of it, and there are no more of them than nodes.
use Rattle.std.proofs.Common.{◌≡◌, ℕ, suc, ◌<◌, ◌≤◌, ◌≢◌, Bool, true, false, List, [], ◌∷◌, length, get_or, map, refl, sym, ap, ◌∙◌, arith}
use Rattle.std.specs.Prelude.{Option, Some, None, position, codes, ◌^◌}
use Rattle.std.proofs.Common.{eqb, ⊎_elim, subst}
use Rattle.std.specs.List.{IsDistinct, AllByRecursion, list_any}
use Rattle.std.proofs.lemmas.Bool.{ne_eqb, eqb-true, or_cases}
use Rattle.std.proofs.lemmas.List.Quantifiers.{position-Some}
use Rattle.std.proofs.lemmas.Map.Steps.{length-le_from_distinct_below}
use Rattle.std.proofs.lemmas.List.{append_cancel_right, length-map}
use Rattle.prs_core.specs.declared.wires.Wires.{Wires}
use Rattle.prs_core.specs.Nets.{NetValue, IsNet, IsChannel, name_at, ack_name, most_nodes}
use Rattle.env_script.specs.Scripts.{OfferValue, IsScript}
use Rattle.env_script.specs.Environment.{net_channels}
use Rattle.env_script.specs.Wired.{IsWired}

pub wired : (net : NetValue) (w : Wires) → IsChannel net w → IsWired (length net.first) w
wired net w is = record {
  pairs = (w.channel.width, is.count);
  most = omega (arith, is.count, is.most);
  rails = is.rails_within;
  ack = is.ack_within;
}

pub wired_at : (net : NetValue) → IsNet net → (k : ℕ) (d : Wires) → k < length net.channels → IsWired (length net.first) (get_or net.channels k d)
wired_at net is k d within = wired net (get_or net.channels k d) (is.channels k d within)

script_length : (ws : List Wires) (script : List OfferValue) → IsScript (map (λ (w : Wires). w.channel) ws) script → length script ≡ length ws
script_length [] [] is = refl
script_length [] (o ∷ os) is = absurd is
script_length (w ∷ ws) [] is = absurd is
script_length (w ∷ ws) (o ∷ os) is = ap suc (script_length ws os is.1)

-- a script has one offer for each channel
pub one_each : (net : NetValue) (script : List OfferValue) → IsScript (net_channels net) script → length script ≡ length net.channels
one_each net script is = script_length net.channels script is

-- a net has no more channels than nodes

different_acks : (net : NetValue) → IsNet net → (i j : ℕ) (d : Wires) → i < j → j < length net.channels →
    (get_or net.channels i d).ack ≢ (get_or net.channels j d).ack
different_acks net is i j d less within same =
    let v : Wires = get_or net.channels i d in
    let w : Wires = get_or net.channels j d in
    let one : name_at net v.ack ≡ ack_name v.channel.name = (is.channels i d (omega arith)).ack in
    let two : name_at net w.ack ≡ ack_name w.channel.name = (is.channels j d within).ack in
    is.channels_distinct i j d less within (append_cancel_right v.channel.name w.channel.name (codes ".a") (sym one ∙ ap (name_at net) same ∙ two))

acks : List Wires → List ℕ
acks ws = map (λ (w : Wires). w.ack) ws

apart_from : (ack : ℕ) (ws : List Wires) → ((k : ℕ) (d : Wires) → k < length ws → ack ≢ (get_or ws k d).ack) → AllByRecursion (λ y. eqb ack y ≡ false) (acks ws)
unfolding acks
apart_from ack [] apart = tt
apart_from ack (w ∷ ws) apart = (ne_eqb ack w.ack (apart 0 w (omega arith)), apart_from ack ws (λ k d within. apart (suc k) d (omega arith)))

all_apart : (ws : List Wires) → ((i j : ℕ) (d : Wires) → i < j → j < length ws → (get_or ws i d).ack ≢ (get_or ws j d).ack) → IsDistinct eqb (acks ws)
unfolding acks IsDistinct
all_apart [] apart = tt
all_apart (w ∷ ws) apart = (
  apart_from w.ack ws (λ k d within. apart 0 (suc k) d (omega arith) (omega arith)),
  all_apart ws (λ i j d less within. apart (suc i) (suc j) d (omega arith) (omega arith)),
)

all_under : (count : ℕ) (ws : List Wires) → ((k : ℕ) (d : Wires) → k < length ws → (get_or ws k d).ack < count) → (q : ℕ) → list_any (eqb q) (acks ws) ≡ true →
    q < count
unfolding acks
all_under count [] under q among = absurd (cc among)
all_under count (w ∷ ws) under q among =
    ⊎_elim (λ e. let same = eqb-true q w.ack e in let here = under 0 w (omega arith) in
    omega arith) (λ e. all_under count ws (λ k d within. under (suc k) d (omega arith)) q e) (or_cases _ _ among)

count_acks : (ws : List Wires) → length (acks ws) ≡ length ws
unfolding acks
count_acks ws = length-map ws (λ (w : Wires). w.ack)

pub few_channels : (net : NetValue) → IsNet net → length net.channels ≤ length net.first
few_channels net is =
    let most = length-le_from_distinct_below (acks net.channels) (length net.first) (all_apart net.channels (different_acks net is))
    (all_under (length net.first) net.channels (λ k d within. (is.channels k d within).ack_within)) in
    omega (arith, count_acks net.channels)

placed : (p : Wires → Bool) (k : ℕ) (ws : List Wires) → position p ws ≡ Some k → k < length ws
placed p k [] found = absurd (cc found)
placed p k (w ∷ ws) found = (position-Some p (w ∷ ws) k w found).0

-- a place that the search finds fits 32 bits
pub place_fits : (net : NetValue) → IsNet net → (p : Wires → Bool) (k : ℕ) → position p net.channels ≡ Some k → k < 2 ^ 32
place_fits net is p k found =
    let within = placed p k net.channels found in
    let few = few_channels net is in
    let most = few_nodes net.reset in
    omega (arith, is.most)
  where
    few_nodes : (reset : Option ℕ) → most_nodes reset ≤ 65537
    few_nodes None = omega arith
    few_nodes (Some node) = omega arith

-- the channel that is read at a place
pub wired_read : (net : NetValue) → IsNet net → (count : ℕ) → count ≡ length net.first → (ws : List Wires) → ws ≡ net.channels → (k : ℕ) (w : Wires) →
    k < length ws → w ≡ get_or ws k w → IsWired count w
wired_read net is count whole ws all k w within here =
    subst (λ (v : Wires). IsWired count v) (sym here) (rw (all, whole) (wired_at net is k w (omega (arith, ap length all))))
