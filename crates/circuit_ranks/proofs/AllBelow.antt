-- In each state that is reached the rank of each silent move is below one less than `longest`: so where silent moves lower ranks n rounds take n times
-- `longest` layers.
--
-- P: the program; r: how the state x is reached; n: a node, or how many rounds.
use Rattle.std.proofs.Common.{◌≡◌, ℕ, suc, ◌-◌, ◌*◌, ◌≤◌, List, ◌++◌, length, refl, sym, ap, ◌∙◌, arith}
use Rattle.env_script.specs.Scripts.{OfferValue}
use Rattle.env_script.specs.Runs.{history_at}
use Rattle.width_check.specs.Processes.{TypedProgram}
use Rattle.width_check.specs.Typing.{IsProcess}
use Rattle.chp_meaning.specs.Steps.{Configuration}
use Rattle.chp_meaning.specs.Rounds.{rounds_from}
use Rattle.chp_meaning.proofs.Fitting.{Fits}
use Rattle.function_blocks.specs.Rails.{one_rule_fires}
use Rattle.function_blocks.proofs.Tables.{or_false}
use Rattle.circuit_places.specs.Circuit.{guarded_rule}
use Rattle.circuit_places.specs.Whole.{Whole, wires_seen, Node, go_node, own_node, rail_node, ack_node, bit_node, wrote_node, joint_node}
use Rattle.circuit_places.proofs.System.{Fitted}
use Rattle.circuit_places.proofs.Carry.{Reached}
use Rattle.round_time.specs.Longest.{longest}
use Rattle.circuit_time.proofs.Levels.{AreSpread, spread_behind, LowersRanks, Silent, Below}
use Rattle.circuit_time.proofs.Paced.{paced}
use Rattle.circuit_pace.proofs.OwnBounded.{own_bounded}
use Rattle.circuit_ranks.proofs.Ranks.{rank}
use Rattle.circuit_ranks.proofs.SiteRooms.{long_some}
use Rattle.circuit_ranks.proofs.FarBounded.{far_bounded}

pub one_more : (P : TypedProgram) → suc (longest P - 1) ≡ longest P
one_more P = let l = long_some P in omega (arith, l)

module _ (P : TypedProgram) (script : List OfferValue) (fitted : Fitted P script) (typed : IsProcess P.channels P.vars P.body) where
  module _ {from : Configuration} {moves : ℕ} {x : Whole P.body} (r : Reached P script from moves x) where
    pub all_bounded : (n : Node P.body) → Silent P script fitted (rank P) r n → suc (suc (rank P x n)) ≤ longest P
    all_bounded (own_node s) z = own_bounded P typed r.good.meets (wires_seen P x.wires) x.go x.root s
        (sym (or_false (one_rule_fires (guarded_rule P.body (wires_seen P x.wires) x.go x.root s))) ∙ z.on)
    all_bounded go_node z = far_bounded P script fitted r go_node refl z
    all_bounded (rail_node k i one) z = far_bounded P script fitted r (rail_node k i one) refl z
    all_bounded (ack_node c) z = far_bounded P script fitted r (ack_node c) refl z
    all_bounded (bit_node v i one) z = far_bounded P script fitted r (bit_node v i one) refl z
    all_bounded (wrote_node v i) z = far_bounded P script fitted r (wrote_node v i) refl z
    all_bounded (joint_node v k) z = far_bounded P script fitted r (joint_node v k) refl z

    pub below : Below P script fitted (rank P) r (longest P - 1)
    below n z = let a = all_bounded n z in omega (arith, a)

  -- n rounds, n times `longest` layers
  pub rounds_in_layers : LowersRanks P script fitted (rank P) → {c : Configuration} {moves : ℕ} {x : Whole P.body} (r : Reached P script c moves x)
      → Fits c.term → (n : ℕ)
      → (layers : List (List (Node P.body))) × (length layers ≡ n * longest P) × AreSpread P script x layers
      × ((k : ℕ) → (rest : List ℕ) × (history_at (spread_behind P x layers).histories k ≡ history_at (rounds_from c n).histories k ++ rest))
  rounds_in_layers lowers r fit n =
      let a = paced P script fitted (rank P) lowers (longest P - 1) (λ from moves x q. below q) r fit n in
      (a.0, a.1 ∙ ap (λ (k : ℕ). n * k) (one_more P), a.2, a.3)
