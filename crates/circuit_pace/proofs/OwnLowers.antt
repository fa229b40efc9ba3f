-- In each state that is reached an own silent move of a statement lets no own silent move begin but of a shorter trail, and gives no other a longer one.
--
-- P: the program; r: how the state x is reached; s, q: spots; on: that a move is enabled; still: that it is no step.
use Rattle.std.proofs.Common.{◌≡◌, ◌≢◌, ℕ, suc, ◌<◌, ◌≤◌, Bool, true, false, List, sym, ap, ◌∙◌, subst, inl, inr, arith}
use Rattle.std.specs.Prelude.{◌⊎◌}
use Rattle.chp_base.specs.declared.channel.Kind.{Kind}
use Rattle.chp_base.specs.declared.channel.Kind.TheVariants.{In, Out, Chan}
use Rattle.env_script.specs.Scripts.{OfferValue}
use Rattle.width_check.specs.Processes.{TypedProgram}
use Rattle.width_check.specs.Typing.{kind_at, IsProcess}
use Rattle.chp_meaning.specs.Steps.{Configuration}
use Rattle.function_blocks.specs.Rails.{one_rule_fires}
use Rattle.function_blocks.proofs.Tables.{or_false}
use Rattle.circuit_places.specs.Lines.{Seen}
use Rattle.circuit_places.specs.Circuit.{QElementCells, Cells, GuardedSpot, guarded_rule, turned_guarded}
use Rattle.circuit_places.specs.Whole.{Whole, wires_seen, own_node, enabled, cells_moved}
use Rattle.circuit_places.proofs.Flow.{Backed, cases, not_both}
use Rattle.circuit_places.proofs.Meets.{sends_merged, receives_heard}
use Rattle.circuit_places.proofs.Places.{asks, guarded_cells, guarded_shown, guarded_moves}
use Rattle.circuit_places.proofs.Stepping.{guarded_steps}
use Rattle.circuit_places.proofs.StillSteps.{guarded_rises, guarded_value, guarded_is_step, guarded_was_low, guarded_keeps_value}
use Rattle.circuit_places.proofs.System.{Fitted, clean_of}
use Rattle.circuit_places.proofs.Carry.{Reached, may, next_reached, enabled_is}
use Rattle.circuit_time.proofs.Trails.{rail_left, guarded_trail}
use Rattle.circuit_time.proofs.OwnTrails.{Shorter, GuardedLed}
use Rattle.circuit_pace.proofs.AllOwn.{Listened, guarded_led}
use Rattle.circuit_pace.proofs.Counts.{counts, covered, counts_leave}
use Rattle.circuit_pace.proofs.OwnBounded.{all_ordered}

-- the trail of an own node
abbrev pub own_trail : (P : TypedProgram) → QElementCells (Cells P.body) → GuardedSpot P.body → ℕ
own_trail P x s = guarded_trail P (counts P) 0 0 P.body x s

heard_all : (P : TypedProgram) (env : Seen) → ((c : ℕ) → (counts P).acked c ≤ (counts P).taken c) → Listened P (counts P) env
heard_all P env both c h = by (kind_at P.channels c)
  where
    by : (k : Kind) → suc ((counts P).acked c) ≤ rail_left k ((counts P).acked c) ((counts P).taken c)
    by Out = omega arith
    by In = let b = both c in omega (arith, b)
    by Chan = let b = both c in omega (arith, b)

-- a silent move is no rise of a node whose rise is a step
pub silent_plain : (P : TypedProgram) (script : List OfferValue) {from : Configuration} {moves : ℕ} {x : Whole P.body} (r : Reached P script from moves x)
    (s : GuardedSpot P.body) → enabled P script x (own_node s) ≡ true → guarded_steps r.place s ≡ false → guarded_rises s ≡ true
    → guarded_value P.body (guarded_cells r.place) s ≡ true
silent_plain P script {x = x} r s on still k = cases (guarded_value P.body (guarded_cells r.place) s)
    (λ (h : guarded_value P.body (guarded_cells r.place) s ≡ true). h)
    (λ (h : guarded_value P.body (guarded_cells r.place) s ≡ false).
    absurd (not_both still (guarded_is_step (wires_seen P x.wires) r.place s (may P script r (own_node s) on) k h)))

module _ (P : TypedProgram) (script : List OfferValue) (fitted : Fitted P script) {from : Configuration} {moves : ℕ} {x : Whole P.body}
    (r : Reached P script from moves x) where
  -- a high acknowledge has its site under way
  pub backed : Backed P.body (guarded_shown r.place) (wires_seen P x.wires)
  backed = record {
    send = λ k i h. r.good.talk k (sends_merged P P.body r.good.meets k i) h;
    receive = λ c i h. r.good.listen c (receives_heard P P.body r.good.meets c i) h;
  }

  -- what is said of places, of trails below any number, in the terms of the state: q is enabled behind s, and no step then
  pub own_shorter : (R : ℕ) (s q : GuardedSpot P.body) (on : enabled P script x (own_node s) ≡ true)
      → (one_rule_fires (guarded_rule P.body (wires_seen P x.wires) (asks r.mode) (turned_guarded P.body (guarded_cells r.place) s) q) ≡ true
      → (guarded_rises q ≡ true → guarded_value P.body (turned_guarded P.body (guarded_cells r.place) s) q ≡ true)
      → Shorter s q (guarded_moves (wires_seen P x.wires) r.place q) (own_trail P (turned_guarded P.body (guarded_cells r.place) s) q)
      (own_trail P (guarded_cells r.place) q) R)
      → enabled P script (cells_moved P x (own_node s)) (own_node q) ≡ true
      → guarded_steps (next_reached P script fitted r (own_node s) on).place q ≡ false
      → (own_trail P (turned_guarded P.body x.root s) q < R)
      ⊎ ((s ≢ q) × (enabled P script x (own_node q) ≡ true) × (guarded_steps r.place q ≡ false)
      × (own_trail P (turned_guarded P.body x.root s) q ≤ own_trail P x.root q))
  own_shorter R s q on each on_q still_q = subst Goal (sym r.same) (by (each fires plain_q))
    where
      Goal : QElementCells (Cells P.body) → Type 0
      Goal y = (own_trail P (turned_guarded P.body y s) q < R)
          ⊎ ((s ≢ q) × (enabled P script x (own_node q) ≡ true) × (guarded_steps r.place q ≡ false)
          × (own_trail P (turned_guarded P.body y s) q ≤ own_trail P y q))

      fires : one_rule_fires (guarded_rule P.body (wires_seen P x.wires) (asks r.mode) (turned_guarded P.body (guarded_cells r.place) s) q) ≡ true
      fires = subst (λ (y : QElementCells (Cells P.body)).
          one_rule_fires (guarded_rule P.body (wires_seen P x.wires) (asks r.mode) (turned_guarded P.body y s) q) ≡ true) r.same
          (subst (λ (b : Bool). one_rule_fires (guarded_rule P.body (wires_seen P x.wires) b (turned_guarded P.body x.root s) q) ≡ true) r.go
          (sym (or_false (one_rule_fires (guarded_rule P.body (wires_seen P x.wires) x.go (turned_guarded P.body x.root s) q))) ∙ on_q))

      plain_q : guarded_rises q ≡ true → guarded_value P.body (turned_guarded P.body (guarded_cells r.place) s) q ≡ true
      plain_q k =
          let next = next_reached P script fitted r (own_node s) on in
          ap (λ (y : QElementCells (Cells P.body)). guarded_value P.body y q) (sym (ap (λ y. turned_guarded P.body y s) r.same) ∙ next.same)
          ∙ silent_plain P script next q on_q still_q k

      by : Shorter s q (guarded_moves (wires_seen P x.wires) r.place q) (own_trail P (turned_guarded P.body (guarded_cells r.place) s) q)
          (own_trail P (guarded_cells r.place) q) R → Goal (guarded_cells r.place)
      by (inl less) = inl less
      by (inr (ne, could, upto)) = inr (ne, enabled_is P script r (own_node q) ∙ could, no_step, upto)
        where
          no_step : guarded_steps r.place q ≡ false
          no_step = cases (guarded_steps r.place q)
              (λ (h : guarded_steps r.place q ≡ true).
              let low = guarded_was_low r.place q h in
              absurd (not_both (guarded_keeps_value P.body (guarded_cells r.place) q s (λ e. ne (sym e)) low.0 ∙ low.1) (plain_q low.0)))
              (λ (h : guarded_steps r.place q ≡ false). h)

module _ (P : TypedProgram) (script : List OfferValue) (fitted : Fitted P script) (typed : IsProcess P.channels P.vars P.body)
    {from : Configuration} {moves : ℕ} {x : Whole P.body} (r : Reached P script from moves x) (s : GuardedSpot P.body)
    (on : enabled P script x (own_node s) ≡ true) (still : guarded_steps r.place s ≡ false) where
  said : GuardedLed P (counts P) 0 0 P.body r.mode (wires_seen P x.wires) r.place s
  said = guarded_led P (counts P) (wires_seen P x.wires) (clean_of r.good)
      (heard_all P (wires_seen P x.wires) (counts_leave P r.good.meets).both) 0 0 r.good.meets
      (covered P (all_ordered P.channels P.vars P.body typed)) r.place s r.good.fits (backed P script fitted r) (may P script r (own_node s) on)
      (silent_plain P script r s on still)

  pub own_lowers : (q : GuardedSpot P.body) → enabled P script (cells_moved P x (own_node s)) (own_node q) ≡ true
      → guarded_steps (next_reached P script fitted r (own_node s) on).place q ≡ false
      → (own_trail P (turned_guarded P.body x.root s) q < own_trail P x.root s)
      ⊎ ((s ≢ q) × (enabled P script x (own_node q) ≡ true) × (guarded_steps r.place q ≡ false)
      × (own_trail P (turned_guarded P.body x.root s) q ≤ own_trail P x.root q))
  own_lowers q on_q still_q = own_shorter P script fitted r (own_trail P x.root s) s q on
      (λ fires plain_q. subst (λ (y : QElementCells (Cells P.body)). Shorter s q (guarded_moves (wires_seen P x.wires) r.place q)
      (own_trail P (turned_guarded P.body (guarded_cells r.place) s) q) (own_trail P (guarded_cells r.place) q) (own_trail P y s)) (sym r.same)
      (said.each q fires plain_q))
      on_q still_q
