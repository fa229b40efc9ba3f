-- What the move of an acknowledge, or of a node of a variable's tree, leaves as it was: behind it each node outside of all statements that isn't of the same
-- line could move before, and has the rank that it had.
--
-- P: the program; r: how the state x is reached; n, m: nodes; v, u: variables; c, d: channels; i, j, k: bits, or nodes of a tree; on: that a node is enabled;
-- far: that another one isn't near it; t: that its move behind is silent.
use Rattle.std.proofs.Common.{◌≡◌, ℕ, ◌==◌, Bool, true, false, List, refl, sym, ap, ◌∙◌}
use Rattle.std.specs.Prelude.{not, ◌&&◌, ◌||◌, if◌then◌else◌}
use Rattle.prs_core.specs.Parts.{turned}
use Rattle.env_script.specs.Scripts.{OfferValue, offer_at}
use Rattle.env_script.specs.Runs.{completed}
use Rattle.width_check.specs.Processes.{Process, TypedProgram}
use Rattle.width_check.specs.Typing.{kind_at, channel_width, var_width}
use Rattle.chp_meaning.specs.Steps.{Configuration}
use Rattle.function_blocks.specs.Rails.{one_rule_fires, no_rule}
use Rattle.circuit_places.specs.Lines.{of_channel, of_var}
use Rattle.circuit_places.specs.Circuit.{tree_answer, tree_rule, takers}
use Rattle.circuit_places.specs.Whole.{Whole, Wires, line_ack, is_heard, merged, wrote_rule, answers, Node, go_node, own_node, rail_node, ack_node, bit_node, wrote_node, joint_node, rule_in, enabled, ack_turned, wrote_turned, joint_turned, cells_moved}
use Rattle.circuit_places.proofs.LineNames.{self_number}
use Rattle.circuit_places.proofs.Flow.{not_both}
use Rattle.circuit_places.proofs.AckMoves.{same_answers, same_offers, acked_far, done_far}
use Rattle.circuit_places.proofs.Places.{guarded_shown}
use Rattle.circuit_places.proofs.System.{Fitted}
use Rattle.circuit_places.proofs.Carry.{Reached, next_reached}
use Rattle.round_time.specs.Longest.{var_height}
use Rattle.circuit_time.proofs.Levels.{Silent}
use Rattle.circuit_time.proofs.Trails.{joint_level}
use Rattle.circuit_pace.proofs.Never.{not_low}
use Rattle.circuit_pace.proofs.BlockTrails.{wrote_trail, joint_trail}
use Rattle.circuit_pace.proofs.Counts.{counts}
use Rattle.circuit_ranks.proofs.Ranks.{late, rank}
use Rattle.circuit_ranks.proofs.Claims.{LowerThan}
use Rattle.circuit_ranks.proofs.FarStates.{kept, says_stays, still_wrote, still_joint, wrote_ack, joint_ack}

pub apart_number : (v u : ℕ) → (v == u) ≡ false → u ≡ v → ⊥
apart_number v u h e = not_both h (ap (λ n. v == n) e ∙ self_number v)

-- near a channel's acknowledge are own nodes, the channel's rails, and it itself
abbrev pub near_channel : {p : Process} → ℕ → Node p → Bool
near_channel c (own_node q) = true
near_channel c (rail_node (of_channel d) i one) = d == c
near_channel c (ack_node d) = d == c
near_channel c _ = false

-- near a variable's tree are own nodes, and its leaves and nodes
abbrev pub near_tree : {p : Process} → ℕ → Node p → Bool
near_tree v (own_node q) = true
near_tree v (wrote_node u i) = u == v
near_tree v (joint_node u k) = u == v
near_tree v _ = false

module _ (P : TypedProgram) (script : List OfferValue) (fitted : Fitted P script) {from : Configuration} {moves : ℕ} {x : Whole P.body}
    (r : Reached P script from moves x) where
  abbrev w : Wires
  w = x.wires

  abbrev Then : (n : Node P.body) → enabled P script x n ≡ true → Node P.body → Type 0
  Then n on m = Silent P script fitted (rank P) (next_reached P script fitted r n on) m

  pub ack_keeps : {R : ℕ} (c : ℕ) (on : enabled P script x (ack_node c) ≡ true) (m : Node P.body) → near_channel c m ≡ false → Then (ack_node c) on m
      → LowerThan P script fitted r R (ack_node c) m
  ack_keeps c on go_node far t = kept P script fitted r (ack_node c) go_node (λ e. cc e) t.on refl refl
  ack_keeps c on (own_node q) far t = not_low far
  ack_keeps c on (rail_node (of_var v) i one) far t = kept P script fitted r (ack_node c) (rail_node (of_var v) i one) (λ e. cc e) t.on refl refl
  ack_keeps c on (rail_node (of_channel d) i one) far t = kept P script fitted r (ack_node c) (rail_node (of_channel d) i one) (λ e. cc e)
      (sym (ap (λ b. one_rule_fires (rule_in P x (rail_node (of_channel d) i one)) || b)
      (same_offers w (ack_turned w c) d (acked_far w c d far) refl (offer_at script d) (channel_width P.channels d) (completed x.histories d)
      (completed (cells_moved P x (ack_node c)).histories d) i one (done_far P w x.histories c d far))) ∙ t.on) refl refl
  ack_keeps c on (ack_node d) far t = kept P script fitted r (ack_node c) (ack_node d) (λ e. apart_number d c far (let a : c ≡ d = cc e in a))
      (sym (ap (λ (b : Bool). one_rule_fires (if is_heard (kind_at P.channels d) then merged b (takers P.body x.root.inner d) else no_rule b)
      || answers (channel_width P.channels d) (ack_turned w c) d (completed (cells_moved P x (ack_node c)).histories d) (offer_at script d))
      (acked_far w c d far)
      ∙ ap (λ b. one_rule_fires (rule_in P x (ack_node d)) || b)
      (ap (λ k. answers (channel_width P.channels d) (ack_turned w c) d k (offer_at script d)) (done_far P w x.histories c d far)
      ∙ same_answers w (ack_turned w c) d (acked_far w c d far) refl (offer_at script d) (channel_width P.channels d) (completed x.histories d))) ∙ t.on)
      (ap not (sym (acked_far w c d far)) ∙ t.still)
      (ap (λ (b : Bool). if b then (counts P).acked d else 0) (acked_far w c d far))
  ack_keeps c on (bit_node v i one) far t = kept P script fitted r (ack_node c) (bit_node v i one) (λ e. cc e) t.on refl refl
  ack_keeps c on (wrote_node v i) far t =
      kept P script fitted r (ack_node c) (wrote_node v i) (λ e. cc e) t.on (still_wrote P script fitted r (ack_node c) on refl v i t.still) refl
  ack_keeps c on (joint_node v k) far t =
      kept P script fitted r (ack_node c) (joint_node v k) (λ e. cc e) t.on (still_joint P script fitted r (ack_node c) on refl v k t.still) refl

  -- what changes in one block alone makes no step of another
  step_far : (n : Node P.body) (on : enabled P script x n ≡ true) → (cells_moved P x n).root ≡ x.root → (u : ℕ) (a b c d : Bool)
      → a ≡ c → b ≡ d → (not a && ((guarded_shown (next_reached P script fitted r n on).place).says (of_var u) && b)) ≡ false
      → (not c && ((guarded_shown r.place).says (of_var u) && d)) ≡ false
  step_far n on root u a b c d e f z =
      ap (λ y. not y && ((guarded_shown r.place).says (of_var u) && d)) (sym e)
      ∙ (ap (λ y. not a && ((guarded_shown r.place).says (of_var u) && y)) (sym f)
      ∙ (ap (λ y. not a && (y && b)) (sym (says_stays P script fitted r n on root u)) ∙ z))

  -- of a node that says that a bit is written
  module _ (v i : ℕ) (on : enabled P script x (wrote_node v i) ≡ true) where
    abbrev told : Wires
    told = wrote_turned w v i

    told_far : (u : ℕ) → (u == v) ≡ false → told.wrote u ≡ w.wrote u
    told_far u h = ap (λ (b : Bool). if b then turned (w.wrote v) i else w.wrote u) h

    pub wrote_keeps : {R : ℕ} (m : Node P.body) → near_tree v m ≡ false → Then (wrote_node v i) on m → LowerThan P script fitted r R (wrote_node v i) m
    wrote_keeps go_node far t = kept P script fitted r (wrote_node v i) go_node (λ e. cc e) t.on refl refl
    wrote_keeps (own_node q) far t = not_low far
    wrote_keeps (rail_node (of_channel c) j b) far t = kept P script fitted r (wrote_node v i) (rail_node (of_channel c) j b) (λ e. cc e)
        (sym (ap (λ y. one_rule_fires (rule_in P x (rail_node (of_channel c) j b)) || y)
        (same_offers w told c refl refl (offer_at script c) (channel_width P.channels c) (completed x.histories c) (completed x.histories c) j b refl))
        ∙ t.on) refl refl
    wrote_keeps (rail_node (of_var u) j b) far t = kept P script fitted r (wrote_node v i) (rail_node (of_var u) j b) (λ e. cc e) t.on refl refl
    wrote_keeps (ack_node d) far t = kept P script fitted r (wrote_node v i) (ack_node d) (λ e. cc e)
        (sym (ap (λ b. one_rule_fires (rule_in P x (ack_node d)) || b)
        (same_answers w told d refl refl (offer_at script d) (channel_width P.channels d) (completed x.histories d))) ∙ t.on) t.still refl
    wrote_keeps (bit_node u j b) far t = kept P script fitted r (wrote_node v i) (bit_node u j b) (λ e. cc e) t.on refl refl
    wrote_keeps (wrote_node u j) far t =
        let same = told_far u far in
        kept P script fitted r (wrote_node v i) (wrote_node u j) (λ e. apart_number u v far (let a : v ≡ u = cc e in a))
        (sym (ap (λ (y : ℕ → Bool). one_rule_fires (wrote_rule (w.rail (of_var u)) (w.bit u) y j) || false) same) ∙ t.on)
        (step_far (wrote_node v i) on refl u (line_ack P told (of_var u)) (line_ack P (wrote_turned told u j) (of_var u)) (line_ack P w (of_var u))
        (line_ack P (wrote_turned w u j) (of_var u)) (ap (λ (y : ℕ → Bool). tree_answer (var_width P.vars u) y (w.joint u)) same)
        (wrote_ack P script fitted r told u j ∙ (ap (λ (y : ℕ → Bool). tree_answer (var_width P.vars u) (turned y j) (w.joint u)) same
        ∙ sym (wrote_ack P script fitted r w u j))) t.still)
        (ap (λ (y : ℕ → Bool). wrote_trail (var_height P u) ((counts P).written u) (late P x u) (y j)) same)
    wrote_keeps (joint_node u k) far t =
        let same = told_far u far in
        kept P script fitted r (wrote_node v i) (joint_node u k) (λ e. cc e)
        (sym (ap (λ (y : ℕ → Bool). one_rule_fires (tree_rule (var_width P.vars u) y (w.joint u) k) || false) same) ∙ t.on)
        (step_far (wrote_node v i) on refl u (line_ack P told (of_var u)) (line_ack P (joint_turned told u k) (of_var u)) (line_ack P w (of_var u))
        (line_ack P (joint_turned w u k) (of_var u)) (ap (λ (y : ℕ → Bool). tree_answer (var_width P.vars u) y (w.joint u)) same)
        (joint_ack P script fitted r told u k ∙ (ap (λ (y : ℕ → Bool). tree_answer (var_width P.vars u) y (turned (w.joint u) k)) same
        ∙ sym (joint_ack P script fitted r w u k))) t.still) refl

  -- of a node of a variable's tree
  module _ (v i : ℕ) (on : enabled P script x (joint_node v i) ≡ true) where
    abbrev jointed : Wires
    jointed = joint_turned w v i

    jointed_far : (u : ℕ) → (u == v) ≡ false → jointed.joint u ≡ w.joint u
    jointed_far u h = ap (λ (b : Bool). if b then turned (w.joint v) i else w.joint u) h

    pub joint_keeps : {R : ℕ} (m : Node P.body) → near_tree v m ≡ false → Then (joint_node v i) on m → LowerThan P script fitted r R (joint_node v i) m
    joint_keeps go_node far t = kept P script fitted r (joint_node v i) go_node (λ e. cc e) t.on refl refl
    joint_keeps (own_node q) far t = not_low far
    joint_keeps (rail_node (of_channel c) j b) far t = kept P script fitted r (joint_node v i) (rail_node (of_channel c) j b) (λ e. cc e)
        (sym (ap (λ y. one_rule_fires (rule_in P x (rail_node (of_channel c) j b)) || y)
        (same_offers w jointed c refl refl (offer_at script c) (channel_width P.channels c) (completed x.histories c) (completed x.histories c) j b refl))
        ∙ t.on) refl refl
    joint_keeps (rail_node (of_var u) j b) far t = kept P script fitted r (joint_node v i) (rail_node (of_var u) j b) (λ e. cc e) t.on refl refl
    joint_keeps (ack_node d) far t = kept P script fitted r (joint_node v i) (ack_node d) (λ e. cc e)
        (sym (ap (λ b. one_rule_fires (rule_in P x (ack_node d)) || b)
        (same_answers w jointed d refl refl (offer_at script d) (channel_width P.channels d) (completed x.histories d))) ∙ t.on) t.still refl
    joint_keeps (bit_node u j b) far t = kept P script fitted r (joint_node v i) (bit_node u j b) (λ e. cc e) t.on refl refl
    joint_keeps (wrote_node u j) far t =
        let same = jointed_far u far in
        kept P script fitted r (joint_node v i) (wrote_node u j) (λ e. cc e) t.on
        (step_far (joint_node v i) on refl u (line_ack P jointed (of_var u)) (line_ack P (wrote_turned jointed u j) (of_var u)) (line_ack P w (of_var u))
        (line_ack P (wrote_turned w u j) (of_var u)) (ap (λ (y : ℕ → Bool). tree_answer (var_width P.vars u) (w.wrote u) y) same)
        (wrote_ack P script fitted r jointed u j ∙ (ap (λ (y : ℕ → Bool). tree_answer (var_width P.vars u) (turned (w.wrote u) j) y) same
        ∙ sym (wrote_ack P script fitted r w u j))) t.still) refl
    joint_keeps (joint_node u k) far t =
        let same = jointed_far u far in
        kept P script fitted r (joint_node v i) (joint_node u k) (λ e. apart_number u v far (let a : v ≡ u = cc e in a))
        (sym (ap (λ (y : ℕ → Bool). one_rule_fires (tree_rule (var_width P.vars u) (w.wrote u) y k) || false) same) ∙ t.on)
        (step_far (joint_node v i) on refl u (line_ack P jointed (of_var u)) (line_ack P (joint_turned jointed u k) (of_var u)) (line_ack P w (of_var u))
        (line_ack P (joint_turned w u k) (of_var u)) (ap (λ (y : ℕ → Bool). tree_answer (var_width P.vars u) (w.wrote u) y) same)
        (joint_ack P script fitted r jointed u k ∙ (ap (λ (y : ℕ → Bool). tree_answer (var_width P.vars u) (w.wrote u) (turned y k)) same
        ∙ sym (joint_ack P script fitted r w u k))) t.still)
        (ap (λ (y : ℕ → Bool). joint_trail (var_height P u) (joint_level (var_width P.vars u) k) ((counts P).written u) (late P x u) (y k)) same)
