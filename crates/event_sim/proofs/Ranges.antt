-- A move's node is one of the net's, and so are the nodes and channels of hazards.
use Rattle.std.proofs.Common.{◌≡◌, ℕ, zero, suc, ◌<◌, Bool, true, false, List, [], ◌∷◌, length, refl, sym, ap, subst, ◌∙◌, arith}
use Rattle.std.specs.Prelude.{not, ◌==◌, if◌then◌else◌, position, Option, Some, None, IfSome, option_map}
use Rattle.std.specs.List.{list_any}
use Rattle.std.proofs.lemmas.Bool.{both_ways}
use Rattle.std.proofs.lemmas.List.Quantifiers.{position-Some}
use Rattle.prs_core.specs.declared.wires.Wires.{Wires}
use Rattle.prs_core.specs.Nets.{NetValue, IsNet}
use Rattle.prs_core.specs.Moves.{high, both_ways as torn}
use Rattle.env_script.specs.declared.hazard.Hazard.{Hazard}
use Rattle.env_script.specs.declared.hazard.Hazard.TheVariants.{BothWays, Unstable, Protocol}
use Rattle.env_script.specs.Scripts.{OfferValue}
use Rattle.env_script.specs.Environment.{in_reset}
use Rattle.env_script.specs.Phases.{phases_keep}
use Rattle.env_script.specs.Runs.{RunState, IsAtRest, move_enabled, moved}
use Rattle.env_script.specs.Hazards.{least_below, or_else, takes_away, first_hazard, hazard_of}
use Rattle.env_script.proofs.MovesWithin.{move_in}
use Rattle.event_sim.specs.declared.ran.End.{End}
use Rattle.event_sim.specs.Following.{enabled_moves}
use Rattle.event_sim.specs.Ends.{end_from, end_with, calm_end, last_hazard}
use Rattle.event_sim.specs.Simulating.{IsEndIn}
use Rattle.event_sim.proofs.Lists.{among_is}

-- where the list is empty the net is at rest
pub rests : (net : NetValue) (script : List OfferValue) (st : RunState) → IsNet net → enabled_moves net script st ≡ [] → IsAtRest net script st
rests net script st is none n = by_value (move_enabled net script st n) refl
  where
    by_value : (b : Bool) → move_enabled net script st n ≡ b → b ≡ false
    by_value false e = refl
    by_value true e =
        let within = move_in net script st n is e in
        let among = among_is (move_enabled net script st) (length net.first) n within in
        absurd (both_ways _ (ap (list_any (λ k. k == n)) none) (among ∙ e))

least_within : (count k : ℕ) (p : ℕ → Bool) → least_below count p ≡ Some k → k < count
least_within zero k p found = absurd (cc found)
least_within (suc n) k p found = by_first (least_below n p) (p n) (λ below. least_within n k p below) found
  where
    by_first : (o : Option ℕ) (b : Bool) → (o ≡ Some k → k < n) → or_else o (if b then Some n else None) ≡ Some k → k < suc n
    by_first None true below here = let same : n ≡ k = cc in omega arith
    by_first None false below here = absurd (cc here)
    by_first (Some j) b below here = let less = below here in omega arith

fault_within : (p : Wires → Bool) (c : ℕ) (ws : List Wires) → position p ws ≡ Some c → c < length ws
fault_within p c [] found = absurd (cc found)
fault_within p c (w ∷ ws) found = (position-Some p (w ∷ ws) c w found).0

abbrev Within : NetValue → Option Hazard → Type 0
Within net o = IfSome o (λ h. IsEndIn net (end_from h))

either_within : (net : NetValue) (a b : Option Hazard) → Within net a → Within net b → Within net (or_else a b)
either_within net None b one two = two
either_within net (Some h) b one two = one

torn_within : (net : NetValue) (st : RunState) → Within net (first_hazard net st)
torn_within net st = by_least (least_below (length net.first) (torn net (high st.values))) refl
  where
    by_least : (o : Option ℕ) → least_below (length net.first) (torn net (high st.values)) ≡ o → Within net (option_map BothWays o)
    by_least None e = tt
    by_least (Some k) e = least_within (length net.first) k (torn net (high st.values)) e

hazard_within : (net : NetValue) (script : List OfferValue) (st : RunState) (n : ℕ) → Within net (hazard_of net script st n)
hazard_within net script st n =
    either_within net _ _ (torn_within net (moved net st n))
    (either_within net _ _ (by_least (least_below (length net.first) (takes_away net script st n)) refl) (by_fault (in_reset net.reset (high st.values))))
  where
    by_least : (o : Option ℕ) → least_below (length net.first) (takes_away net script st n) ≡ o → Within net (option_map Unstable o)
    by_least None e = tt
    by_least (Some k) e = least_within (length net.first) k (takes_away net script st n) e

    by_position : (o : Option ℕ) → position (λ w. not (phases_keep (high st.values) w n)) net.channels ≡ o → Within net (option_map Protocol o)
    by_position None e = tt
    by_position (Some c) e = fault_within (λ w. not (phases_keep (high st.values) w n)) c net.channels e

    by_fault : (b : Bool) → Within net (option_map Protocol (if b then None else position (λ w. not (phases_keep (high st.values) w n)) net.channels))
    by_fault true = tt
    by_fault false = by_position (position (λ w. not (phases_keep (high st.values) w n)) net.channels) refl

last_within : (net : NetValue) (script : List OfferValue) (st : RunState) (ns : List ℕ) → Within net (last_hazard net script st ns)
last_within net script st [] = torn_within net st
last_within net script st (n ∷ []) = hazard_within net script st n
last_within net script st (n ∷ m ∷ ns) = last_within net script (moved net st n) (m ∷ ns)

-- the node or the channel of a run's end is the net's
pub end_within : (net : NetValue) (script : List OfferValue) (st : RunState) (ns xs : List ℕ) (spent : Bool) (last : Option Hazard) (end : End) →
    last ≡ last_hazard net script st ns → end_with last xs spent ≡ Some end → IsEndIn net end
end_within net script st ns xs spent last end is ended =
    by_last last (subst (λ (o : Option Hazard). Within net o) (sym is) (last_within net script st ns)) ended
  where
    by_calm : (xs : List ℕ) (b : Bool) → calm_end xs b ≡ Some end → IsEndIn net end
    by_calm [] b e = subst (λ (x : Option End). IfSome x (IsEndIn net)) e tt
    by_calm (x ∷ xs) true e = subst (λ (x : Option End). IfSome x (IsEndIn net)) e tt
    by_calm (x ∷ xs) false e = absurd (cc e)

    by_last : (o : Option Hazard) → Within net o → end_with o xs spent ≡ Some end → IsEndIn net end
    by_last None within e = by_calm xs spent e
    by_last (Some h) within e = subst (λ (x : Option End). IfSome x (IsEndIn net)) e within
