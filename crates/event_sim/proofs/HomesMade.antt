-- The table of homes, channel by channel.
use Rattle.std.proofs.Common.{◌≡◌, ℕ, ◌+◌, ◌<◌, ◌≤◌, Bool, true, false, cond, List, length, get_or, set, refl, sym, ap, subst, ◌∙◌, inl, inr, arith}
use Rattle.std.specs.Prelude.{◌⊎◌, ◌||◌, ◌==◌, ◌^◌, Option, Some, None, IfSome}
use Rattle.std.specs.List.{list_any}
use Rattle.std.proofs.lemmas.Bool.{eq-eqb, ne_eqb, cases_eq, both_ways}
use Rattle.std.proofs.lemmas.List.{length-set, get_or-set_same, get_or-set_other, get_or_default}
use Rattle.prs_core.specs.declared.wires.Wires.{Wires}
use Rattle.prs_core.specs.Nets.{NetValue, IsNet, most_nodes}
use Rattle.env_script.proofs.Wires.{few_channels}
use Rattle.event_sim.specs.Locality.{is_wire}
use Rattle.event_sim.proofs.HomeLemmas.{one_home}

-- a number of a channel fits 32 bits
pub channel_fits : (net : NetValue) → IsNet net → (k : ℕ) → k < length net.channels → k < 2 ^ 32
channel_fits net is k within =
    let few = few_channels net is in
    let most = few_nodes net.reset in
    omega (arith, is.most)
  where
    few_nodes : (reset : Option ℕ) → most_nodes reset ≤ 65537
    few_nodes None = omega arith
    few_nodes (Some node) = omega arith

-- the homes of the wires of the channels below a number
pub record AreHomesBelow (net : NetValue) (k : ℕ) (homes : List (Option ℕ)) : Type 0 where
  pub count : length homes ≡ length net.first
  pub within : (n : ℕ) → n < length net.first → IfSome (get_or homes n None) (λ c. c < k)
  pub only : (n c : ℕ) (d : Wires) → n < length net.first → c < k → is_wire (get_or net.channels c d) n ≡ true → get_or homes n None ≡ Some c

pub one_more : (net : NetValue) → IsNet net → (k : ℕ) (w : Wires) (old mid new : List (Option ℕ)) → AreHomesBelow net k old → k < length net.channels →
    w ≡ get_or net.channels k w → w.ack < length net.first → length mid ≡ length old →
    ((n : ℕ) → n < length old → get_or mid n None ≡ cond (list_any (λ m. n == m) w.rails) (Some k) (get_or old n None)) → new ≡ set mid w.ack (Some k) →
    AreHomesBelow net (k + 1) new
one_more net is k w old mid new below within here ack counted settled made = record {
  count = ap length made ∙ length-set mid w.ack (Some k) ∙ counted ∙ below.count;
  within = λ n less. subst (λ o. IfSome o (λ c. c < k + 1)) (sym (at n less))
      (in_range (is_wire w n) (get_or old n None) (below.within n less));
  only = λ n c d less c_less wire. by_place n c d less c_less wire (is_wire w n) refl (cases_eq c k);
}
  where
    at : (n : ℕ) → n < length net.first → get_or new n None ≡ cond (is_wire w n) (Some k) (get_or old n None)
    at n less = ap (λ (hs : List (Option ℕ)). get_or hs n None) made ∙ by_ack (cases_eq n w.ack)
      where
        by_ack : (n ≡ w.ack) ⊎ (n ≡ w.ack → ⊥) → get_or (set mid w.ack (Some k)) n None ≡ cond ((n == w.ack) || list_any (λ rail. n == rail) w.rails) (Some k)
            (get_or old n None)
        by_ack (inl e) =
            ap (λ j. get_or (set mid w.ack (Some k)) j None) e ∙ get_or-set_same mid w.ack (Some k) None (omega (arith, counted, below.count))
            ∙ sym (ap (λ b. cond (b || list_any (λ rail. n == rail) w.rails) (Some k) (get_or old n None)) (eq-eqb n w.ack e))
        by_ack (inr apart) =
            get_or-set_other mid w.ack n (Some k) None apart ∙ settled n (omega (arith, below.count))
            ∙ sym (ap (λ b. cond (b || list_any (λ rail. n == rail) w.rails) (Some k) (get_or old n None)) (ne_eqb n w.ack apart))

    in_range : (b : Bool) (o : Option ℕ) → IfSome o (λ c. c < k) → IfSome (cond b (Some k) o) (λ c. c < k + 1)
    in_range true o less = omega arith
    in_range false None less = tt
    in_range false (Some c) less = omega arith

    default : (d : Wires) → get_or net.channels k d ≡ w
    default d = get_or_default net.channels k d w within ∙ sym here

    by_place : (n c : ℕ) (d : Wires) → n < length net.first → c < k + 1 → is_wire (get_or net.channels c d) n ≡ true → (b : Bool) → is_wire w n ≡ b →
        (c ≡ k) ⊎ (c ≡ k → ⊥) → get_or new n None ≡ Some c
    by_place n c d less c_less wire true e (inl same) = at n less ∙ ap (λ b. cond b (Some k) (get_or old n None)) e ∙ ap Some (sym same)
    by_place n c d less c_less wire false e (inl same) =
        absurd (both_ways (is_wire w n) e (ap (λ (v : Wires). is_wire v n) (sym (ap (λ j. get_or net.channels j d) same ∙ default d)) ∙ wire))
    by_place n c d less c_less wire true e (inr apart) =
        absurd (apart (one_home net is c k n d (omega arith) within wire (ap (λ (v : Wires). is_wire v n) (default d) ∙ e)))
    by_place n c d less c_less wire false e (inr apart) =
        at n less ∙ ap (λ b. cond b (Some k) (get_or old n None)) e ∙ below.only n c d less (omega arith) wire
