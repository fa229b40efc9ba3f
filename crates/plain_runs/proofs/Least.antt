-- The least number that passes, the environment under equal counts, and histories channel by channel.
use Rattle.std.proofs.Common.{◌≡◌, ℕ, zero, suc, ◌+◌, ◌<◌, ◌≤◌, Bool, true, false, List, [], ◌∷◌, ◌++◌, length, get_or, map, refl, sym, ap, ◌∙◌, arith}
use Rattle.std.specs.Prelude.{◌&&◌, ◌||◌, ◌==◌, if◌then◌else◌, Option, Some, None, slice_index, option_map, ◌^◌}
use Rattle.std.proofs.lemmas.Bool.{eqb-true, eqb-false}
use Rattle.std.proofs.lemmas.List.{length-map}
use Rattle.prs_core.specs.declared.wires.Wires.{Wires}
use Rattle.prs_core.specs.Nets.{NetValue, IsNet, most_nodes}
use Rattle.prs_core.specs.Moves.{high, rule_enabled, both_ways}
use Rattle.env_script.specs.Scripts.{OfferValue, offer_at}
use Rattle.env_script.specs.Environment.{channels_move, env_enabled, in_reset, is_reset, rules_rest, raises_go}
use Rattle.env_script.specs.Runs.{RunState, moved, move_enabled, completed}
use Rattle.env_script.specs.Hazards.{least_below, or_else, takes_away, hazard_of}
use Rattle.env_script.specs.Phases.{phase_fault}
use Rattle.env_script.specs.declared.hazard.Hazard.TheVariants.{BothWays, Unstable, Protocol}
use Rattle.plain_runs.specs.Running.{lost, worst, RunValue}
use Rattle.std.specs.List.{range_with_len}
use Rattle.std.proofs.lemmas.List.FromFn.{length-range_with_len, get_or-map-range_with_len}

pub least_none : (count : ℕ) (p : ℕ → Bool) → ((k : ℕ) → k < count → p k ≡ false) → least_below count p ≡ None
least_none zero p none = refl
least_none (suc n) p none = rw (least_none n p (λ k h. none k (omega arith)), none n (omega arith)) refl

pub least_some : (count k : ℕ) (p : ℕ → Bool) → k < count → p k ≡ true → ((j : ℕ) → j < k → p j ≡ false) → least_below count p ≡ Some k
least_some zero k p within passes before = absurd (omega arith)
least_some (suc n) k p within passes before = here (k == n) refl (λ apart. least_some n k p (omega arith) passes before)
  where
    here : (b : Bool) → (k == n) ≡ b → ((k ≡ n → ⊥) → least_below n p ≡ Some k) → or_else (least_below n p) (if p n then Some n else None) ≡ Some k
    here true e rest =
        let same = eqb-true k n e in
        rw (least_none n p (λ j h. before j (omega arith)), ← same, passes) refl
    here false e rest = rw (rest (eqb-false k n e)) refl

pub least_agrees : (count : ℕ) (p q : ℕ → Bool) → ((k : ℕ) → k < count → p k ≡ q k) → least_below count p ≡ least_below count q
least_agrees zero p q agree = refl
least_agrees (suc n) p q agree = rw (least_agrees n p q (λ k h. agree k (omega arith)), agree n (omega arith)) refl

channels_agree : (v : ℕ → Bool) (script : ℕ → OfferValue) (d e : ℕ → ℕ) → ((k : ℕ) → d k ≡ e k) → (c : ℕ) (ws : List Wires) (n : ℕ) →
    channels_move v script d c ws n ≡ channels_move v script e c ws n
channels_agree v script d e agree c [] n = refl
channels_agree v script d e agree c (w ∷ ws) n = rw (agree c, channels_agree v script d e agree (suc c) ws n) refl

-- the environment looks at each channel's count alone
pub env_agrees : (net : NetValue) (script : List OfferValue) (d e : ℕ → ℕ) (v : ℕ → Bool) (n : ℕ) → ((k : ℕ) → d k ≡ e k) →
    env_enabled net script d v n ≡ env_enabled net script e v n
env_agrees net script d e v n agree =
    ap (λ b. if in_reset net.reset v then is_reset net.reset n && rules_rest net v else raises_go v n || b)
    (channels_agree v (offer_at script) d e agree 0 net.channels n)

pub counts_are : (hs : List (List ℕ)) (k : ℕ) → slice_index (map (λ (h : List ℕ). length h) hs) k ≡ completed hs k
counts_are [] zero = refl
counts_are [] (suc k) = refl
counts_are (h ∷ hs) zero = refl
counts_are (h ∷ hs) (suc k) = counts_are hs k

-- an enabled move by its two tests
pub enabled_is : (net : NetValue) (script : List OfferValue) (values : List Bool) (hs : List (List ℕ)) (done : List ℕ) (n : ℕ) (rule env : Bool) →
    done ≡ map (λ (h : List ℕ). length h) hs → rule ≡ rule_enabled net (high values) n → rule ≡ false →
    env ≡ env_enabled net script (slice_index done) (high values) n → env ≡ move_enabled net script (record { values = values; histories = hs }) n
enabled_is net script values hs done n rule env counted by_rule none by_env =
    let low : rule_enabled net (high values) n ≡ false = sym by_rule ∙ none in
    rw (low, by_env) (env_agrees net script (slice_index done) (completed hs) (high values) n (λ k. rw counted (counts_are hs k)))

-- which hazard there is

few_nodes : (reset : Option ℕ) → most_nodes reset ≤ 65537
few_nodes None = omega arith
few_nodes (Some node) = omega arith

pub few_of_net : (net : NetValue) → IsNet net → length net.first < 2 ^ 32
few_of_net net is = let few = few_nodes net.reset in omega (arith, is.most)

pub count_of : (f : ℕ → Bool) (count : ℕ) (xs : List Bool) → xs ≡ map f (range_with_len 0 count) → length xs ≡ count
count_of f count xs is = ap length is ∙ (length-map (range_with_len 0 count) f ∙ length-range_with_len 0 count)

at_place : (f : ℕ → Bool) (count k : ℕ) (xs : List Bool) → xs ≡ map f (range_with_len 0 count) → k < count → get_or xs k false ≡ f k
at_place f count k xs is within = rw is (get_or-map-range_with_len f 0 count k k false within (omega arith))

lost_is : (net : NetValue) (script : List OfferValue) (st : RunState) (n : ℕ) (was now : List Bool) →
    was ≡ map (move_enabled net script st) (range_with_len 0 (length net.first)) →
    now ≡ map (move_enabled net script (moved net st n)) (range_with_len 0 (length net.first)) →
    least_below (length was) (λ m. lost (get_or was m false) (get_or now m false) m n) ≡ least_below (length net.first) (takes_away net script st n)
lost_is net script st n was now before after =
    rw (count_of (move_enabled net script st) (length net.first) was before)
    (least_agrees (length net.first) _ _ (λ k h. rw (
      at_place (move_enabled net script st) (length net.first) k was before h,
      at_place (move_enabled net script (moved net st n)) (length net.first) k now after h,
    ) refl))

worst_is : (both taken broken : Option ℕ) →
    worst both taken broken ≡ or_else (option_map BothWays both) (or_else (option_map Unstable taken) (option_map Protocol broken))
worst_is (Some k) taken broken = refl
worst_is None (Some k) broken = refl
worst_is None None (Some c) = refl
worst_is None None None = refl

pub hazard_is : (old : RunValue) (net : NetValue) (state : List Bool) (n : ℕ) (was now : List Bool) (broken : Option ℕ) → net ≡ old.net →
    state ≡ (moved old.net old.now n).values → was ≡ map (move_enabled old.net old.script old.now) (range_with_len 0 (length old.net.first)) →
    now ≡ map (move_enabled old.net old.script (moved old.net old.now n)) (range_with_len 0 (length old.net.first)) →
    broken ≡ phase_fault old.net (high old.now.values) n →
    worst (least_below (length net.first) (both_ways net (high state))) (least_below (length was) (λ m. lost (get_or was m false) (get_or now m false) m n))
    broken ≡ hazard_of old.net old.script old.now n
hazard_is old net state n was now broken same_net same_state before after keeps =
    rw (same_net, same_state, lost_is old.net old.script old.now n was now before after, keeps) (worst_is _ _ _)

-- the nodes before and behind a move are as many
pub counts_fit : (old : RunValue) (net : NetValue) (was now : List Bool) → net ≡ old.net →
    was ≡ map (move_enabled old.net old.script old.now) (range_with_len 0 (length old.net.first)) → length was ≡ length net.first
counts_fit old net was now same before = count_of (move_enabled old.net old.script old.now) (length old.net.first) was before
    ∙ ap (λ (x : NetValue). length x.first) (sym same)
