-- What go lets begin, when it rises: the root's request of the body, and nothing else.
--
-- P: the program; r: how the state x is reached; g: where the root is; m: a node; s, t: that a move is silent.
use Rattle.std.proofs.Common.{◌≡◌, ℕ, ◌-◌, Bool, true, false, List, refl, sym, ap, ◌∙◌, inl, arith}
use Rattle.std.specs.Prelude.{not, ◌||◌}
use Rattle.env_script.specs.Scripts.{OfferValue}
use Rattle.width_check.specs.Processes.{TypedProgram}
use Rattle.chp_meaning.specs.Steps.{Configuration}
use Rattle.function_blocks.specs.Rails.{one_rule_fires, no_rule}
use Rattle.function_blocks.proofs.Tables.{or_false}
use Rattle.circuit_places.specs.Lines.{of_channel, of_var}
use Rattle.circuit_places.specs.Circuit.{QElementCells, Cells, GuardedSpot, child, latch, next, inner, low_guarded, low, guarded_rule}
use Rattle.circuit_places.specs.Whole.{Whole, wires_seen, Node, go_node, own_node, rail_node, ack_node, bit_node, wrote_node, joint_node, cells_moved}
use Rattle.circuit_places.proofs.Flow.{not_both}
use Rattle.circuit_places.proofs.Places.{Mode, idle, running, answered, returning, is_idle, GuardedAt, g_rests, g_in, rests, guarded_cells, guarded_moves, guarded_can_is}
use Rattle.circuit_places.proofs.System.{Fitted}
use Rattle.circuit_places.proofs.Carry.{Reached, may, next_reached}
use Rattle.round_time.specs.Longest.{first}
use Rattle.circuit_time.proofs.Levels.{Silent}
use Rattle.circuit_time.proofs.Requests.{first_some}
use Rattle.circuit_time.proofs.Trails.{guarded_trail}
use Rattle.circuit_pace.proofs.Counts.{counts}
use Rattle.circuit_ranks.proofs.Ranks.{rank}
use Rattle.circuit_ranks.proofs.FarStates.{Lower, kept, still_wrote, still_joint}

no_fire : (b : Bool) → one_rule_fires (no_rule b) ≡ false
no_fire true = refl
no_fire false = refl

module _ (P : TypedProgram) (script : List OfferValue) (fitted : Fitted P script) {from : Configuration} {moves : ℕ} {x : Whole P.body}
    (r : Reached P script from moves x) (s : Silent P script fitted (rank P) r go_node) where
  abbrev Then : Node P.body → Type 0
  Then m = Silent P script fitted (rank P) (next_reached P script fitted r go_node s.on) m

  go_low : x.go ≡ false
  go_low = by x.go (sym (ap (λ b. b || not x.go) (no_fire x.go)) ∙ s.on)
    where
      by : (b : Bool) → not b ≡ true → b ≡ false
      by true e = absurd (cc e)
      by false e = refl

  -- all own nodes are low
  root_low : x.root ≡ low_guarded (low P.body)
  root_low = r.same ∙ by r.mode r.place (may P script r go_node s.on)
    where
      by : (m : Mode) (g : GuardedAt P.body m) → is_idle m ≡ true → guarded_cells g ≡ low_guarded (low P.body)
      by idle g_rests e = refl
      by running g e = absurd (cc e)
      by answered g e = absurd (cc e)
      by returning g e = absurd (cc e)

  own_first : (q : GuardedSpot P.body) → guarded_moves (wires_seen P x.wires) (g_in {p = P.body} {m = idle} false rests refl) q ≡ true
      → Lower P script fitted r go_node (own_node q)
  own_first child z =
      let e : rank P (cells_moved P x go_node) (own_node child) ≡ first P P.body - 1 =
      ap (λ (y : QElementCells (Cells P.body)). guarded_trail P (counts P) 0 0 P.body y child) root_low in
      let f = first_some P P.body in
      inl (omega (arith, e, f))
  own_first latch z = absurd (cc z)
  own_first next z = absurd (cc z)
  own_first (inner q) z = absurd (cc z)

  own_moves : (q : GuardedSpot P.body) → Then (own_node q) → guarded_moves (wires_seen P x.wires) (g_in {p = P.body} {m = idle} false rests refl) q ≡ true
  own_moves q t =
      let env = wires_seen P x.wires in
      sym (ap (λ (b : Bool). one_rule_fires (guarded_rule P.body env (not b) x.root q)) go_low
      ∙ (ap (λ (y : QElementCells (Cells P.body)). one_rule_fires (guarded_rule P.body env true y q)) root_low
      ∙ guarded_can_is env (g_in {p = P.body} {m = idle} false rests refl) q))
      ∙ (sym (or_false (one_rule_fires (guarded_rule P.body env (not x.go) x.root q))) ∙ t.on)

  pub go_lower : (m : Node P.body) → Then m → Lower P script fitted r go_node m
  go_lower go_node t = absurd (not_both (ap (λ (b : Bool). one_rule_fires (no_rule (not b)) || not (not b)) go_low) t.on)
  go_lower (own_node q) t = own_first q (own_moves q t)
  go_lower (rail_node (of_channel c) i one) t = kept P script fitted r go_node (rail_node (of_channel c) i one) (λ e. cc e) t.on refl refl
  go_lower (rail_node (of_var v) i one) t = kept P script fitted r go_node (rail_node (of_var v) i one) (λ e. cc e) t.on refl refl
  go_lower (ack_node c) t = kept P script fitted r go_node (ack_node c) (λ e. cc e) t.on t.still refl
  go_lower (bit_node v i one) t = kept P script fitted r go_node (bit_node v i one) (λ e. cc e) t.on refl refl
  go_lower (wrote_node v i) t =
      kept P script fitted r go_node (wrote_node v i) (λ e. cc e) t.on (still_wrote P script fitted r go_node s.on refl v i t.still) refl
  go_lower (joint_node v k) t =
      kept P script fitted r go_node (joint_node v k) (λ e. cc e) t.on (still_joint P script fitted r go_node s.on refl v k t.still) refl
