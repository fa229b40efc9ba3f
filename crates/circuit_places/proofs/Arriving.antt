-- What is on the rails of an `in` channel is what the environment brings, until it is acknowledged.
use Rattle.std.proofs.Common.{◌≡◌, ℕ, zero, suc, ◌/◌, ◌^◌, ◌==◌, ◌<◌, ◌≤◌, Bool, true, false, List, refl, sym, ap, ◌∙◌, subst, arith}
use Rattle.std.specs.Prelude.{not, slice_get, Option, Some, None, is_some}
use Rattle.env_script.specs.Environment.{is_odd}
use Rattle.env_script.specs.Scripts.{OfferValue, gives, offer_at}
use Rattle.env_script.specs.Runs.{completed}
use Rattle.width_check.specs.Processes.{TypedProgram}
use Rattle.width_check.specs.Typing.{kind_at, channel_width}
use Rattle.function_blocks.specs.RailFacts.{covered}
use Rattle.circuit_places.specs.Lines.{Line, of_channel, Rails}
use Rattle.circuit_places.specs.Circuit.{turns, same_bit}
use Rattle.circuit_places.specs.Whole.{Wires, value_on, number_rail, brings, offers, is_heard, is_merged, Node, go_node, own_node, rail_node, ack_node, bit_node, wrote_node, joint_node, wires_after, passed_after, answers}
use Rattle.circuit_places.proofs.RailLemmas.{fst_true, snd_true, neutral_low, each_bit}
use Rattle.circuit_places.proofs.LineNames.{self_number, same_number}
use Rattle.circuit_places.proofs.Places.{Mode, GuardedAt, guarded_shown}
use Rattle.circuit_places.proofs.Talks.{either}
use Rattle.circuit_places.proofs.Flow.{cases}
use Rattle.circuit_places.proofs.Writing.{number_told, first_number}
use Rattle.circuit_places.proofs.System.{Good, can, driven, sent_turns, heard_turns, Fitted, takes_of}
use Rattle.circuit_places.proofs.LineMoves.{Turned, this, that, turned_at, takes_gives, drives_up}
use Rattle.circuit_places.proofs.AckMoves.{acked_far, done_far, acked_near}

-- a rail over a low acknowledge brings the next value
abbrev pub Arriving : TypedProgram → List OfferValue → List (List ℕ) → Wires → Type 0
Arriving P script hs w = (k : ℕ) (values : List ℕ) → offer_at script k ≡ gives values → w.ack k ≡ false → (i : ℕ) (one : Bool)
    → w.rail (of_channel k) i one ≡ true → brings (channel_width P.channels k) (slice_get values (completed hs k)) i one ≡ true

pub none_arrives : (P : TypedProgram) (script : List OfferValue) (hs : List (List ℕ)) (w : Wires) → ((k : Line) (i : ℕ) (one : Bool) → w.rail k i one ≡ false)
    → Arriving P script hs w
none_arrives P script hs w low k values is a i one z = absurd (cc (low (of_channel k) i one, z))

-- each move keeps it
pub arriving : (P : TypedProgram) (script : List OfferValue) (fitted : Fitted P script) {m : Mode} {g : GuardedAt P.body m} {w : Wires} (hs : List (List ℕ))
    → Good P m g w → (n : Node P.body) → can P script g w hs n ≡ true → Arriving P script hs w
    → Arriving P script (passed_after P.channels w hs n) (wires_after w n)
arriving P script fitted hs good go_node e h k values is a i one z = h k values is a i one z
arriving P script fitted hs good (own_node s) e h k values is a i one z = h k values is a i one z
arriving P script fitted hs good (bit_node v j s) e h k values is a i one z = h k values is a i one z
arriving P script fitted hs good (wrote_node v j) e h k values is a i one z = h k values is a i one z
arriving P script fitted hs good (joint_node v j) e h k values is a i one z = h k values is a i one z
arriving P script fitted {g = g} {w = w} hs good (rail_node l j s) e h k values is a i one z = here (turned_at w l j s (of_channel k) i one)
  where
    rises : l ≡ of_channel k → i ≡ j → one ≡ s → w.rail l j s ≡ false → brings (channel_width P.channels k) (slice_get values (completed hs k)) i one ≡ true
    rises c f t r = either (sent_turns P w l j s ((guarded_shown g).offer l j s)) (driven P script w hs l j s) e
        (λ y. absurd (cc (
          ap (is_merged P) c,
          fst_true (is_merged P l) (turns (w.rail l j s) ((guarded_shown g).offer l j s)
              (not ((guarded_shown g).offer l j s))) y,
          (fitted.brought k values is).0,
        )))
        (λ y.
        let d : driven P script w hs (of_channel k) j s ≡ true = subst (λ (x : Line). driven P script w hs x j s ≡ true) c y in
        let up = drives_up (channel_width P.channels k) w k (slice_get values (completed hs k)) j s a
        (sym (ap (λ o. offers (channel_width P.channels k) w k (completed hs k) o j s) is) ∙ d) in
        ap (λ b. brings (channel_width P.channels k) (slice_get values (completed hs k)) i b) t
        ∙ (ap (λ n. brings (channel_width P.channels k) (slice_get values (completed hs k)) n s) f ∙ up.0))

    not_false : (b : Bool) → not b ≡ true → b ≡ false
    not_false true q = absurd (cc q)
    not_false false q = refl

    here : Turned w l j s (of_channel k) i one → brings (channel_width P.channels k) (slice_get values (completed hs k)) i one ≡ true
    here (that t) = h k values is a i one (sym t ∙ z)
    here (this c f t q) = rises (sym c) f t (not_false (w.rail l j s) (sym q ∙ z))
arriving P script fitted {g = g} {w = w} hs good (ack_node c) e h k values is a i one z = cases (k == c)
    (λ (same : (k == c) ≡ true). absurd (near (same_number k c same)))
    (λ (apart : (k == c) ≡ false).
    ap (λ n. brings (channel_width P.channels k) (slice_get values n) i one) (done_far P w hs c k apart)
    ∙ h k values is (sym (acked_far w c k apart) ∙ a) i one z)
  where
    high : w.ack k ≡ true → k ≡ c → (guarded_shown g).take k ≡ false → ⊥
    high up same gone = cc (
      neutral_low (channel_width P.channels k) (w.rail (of_channel k)) (good.neutral k (fitted.brought k values is).1 up gone) i one
          (good.wide (of_channel k) i one z),
      z,
    )

    not_taken : (b : Bool) → not b ≡ true → b ≡ false
    not_taken true q = absurd (cc q)
    not_taken false q = refl

    up_of : (b : Bool) → not b ≡ false → b ≡ true
    up_of true q = refl
    up_of false q = absurd (cc q)

    near : k ≡ c → ⊥
    near same =
        let up : w.ack k ≡ true = up_of (w.ack k) (ap (λ n. not (w.ack n)) same ∙ (sym (acked_near w c k (ap (λ n. n == c) same ∙ self_number c)) ∙ a)) in
        either (heard_turns P w c ((guarded_shown g).take c)) (answers (channel_width P.channels c) w c (completed hs c) (offer_at script c)) e
        (λ y. high up same (ap (guarded_shown g).take same ∙ not_taken ((guarded_shown g).take c)
        (sym (ap (λ b. turns b ((guarded_shown g).take c) (not ((guarded_shown g).take c))) (ap w.ack (sym same) ∙ up))
        ∙ snd_true (is_heard (kind_at P.channels c)) (turns (w.ack c) ((guarded_shown g).take c) (not ((guarded_shown g).take c))) y)))
        (λ y. let t = takes_of (channel_width P.channels c) w c (completed hs c) (offer_at script c) y in
        takes_gives t.count values (sym t.is ∙ (ap (offer_at script) (sym same) ∙ is)))

number_lone : (n v i : ℕ) → number_rail n v i true ≡ true → number_rail n v i false ≡ true → ⊥
number_lone zero v i p q = cc p
number_lone (suc n) v zero p q = by (is_odd v) p q
  where
    by : (o : Bool) → same_bit o true ≡ true → same_bit o false ≡ true → ⊥
    by true p q = cc q
    by false p q = cc p
number_lone (suc n) v (suc i) p q = number_lone n (v / 2) i p q

-- each bit of a number has a rail
pub number_some : (n v i : ℕ) → i < n → (side : Bool) × (number_rail n v i side ≡ true)
number_some zero v i less = absurd (let g : ⊥ = omega (arith, less) in g)
number_some (suc n) v zero less = (is_odd v, by (is_odd v))
  where
    by : (o : Bool) → same_bit o o ≡ true
    by true = refl
    by false = refl
number_some (suc n) v (suc i) less = number_some n (v / 2) i (let g : i < n = omega (arith, less) in g)

-- so a number that is on the rails is the next value
pub record Next (values : List ℕ) (done : ℕ) (rails : Option ℕ) : Type 0 where
  pub next : ℕ
  pub is : slice_get values done ≡ Some next
  pub told : rails ≡ Some next

pub next_value : (n done : ℕ) (rail : Rails) (values : List ℕ) → 1 ≤ n → ((m v : ℕ) → slice_get values m ≡ Some v → v < 2 ^ n)
    → ((i : ℕ) (one : Bool) → rail i one ≡ true → brings n (slice_get values done) i one ≡ true) → is_some (value_on n rail) ≡ true
    → Next values done (value_on n rail)
next_value n done rail values some bounded brought whole = here (slice_get values done) (value_on n rail) refl refl
  where
    here : (o u : Option ℕ) → slice_get values done ≡ o → value_on n rail ≡ u → Next values done (value_on n rail)
    here None u e f = absurd (none (each_bit n rail whole 0 (let g : 0 < n = omega (arith, some) in g)))
      where
        none : (side : Bool) × (rail 0 side ≡ true) → ⊥
        none (side, z) = cc (sym (ap (λ o. brings n o 0 side) e) ∙ brought 0 side z)
    here (Some v) None e f = absurd (cc (f, whole))
    here (Some v) (Some u) e f =
        let same : value_on n (number_rail n v) ≡ value_on n rail = covered n rail (number_rail n v)
        (λ i one z. sym (ap (λ o. brings n o i one) e) ∙ brought i one z) (number_lone n v) whole in
        let equal : u ≡ v = sym (number_told n (number_rail n v) u (same ∙ f)) ∙ first_number n v (bounded done v e) in
        record { next = v; is = e; told = f ∙ ap (λ x. Some x) equal }
