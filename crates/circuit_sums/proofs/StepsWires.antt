-- In each state that is reached the rise of a channel's acknowledge, and that of a variable's which is an assignment's step, lets no silent move begin but of a
-- lower rank than the step's phase, and gives no other a higher one.
--
-- P: the program; r: how the state x is reached; n, m: nodes; v, u: variables; c, d: channels; i, j, k: bits, or nodes of a tree; on: that the step is enabled;
-- t: that a move behind it is silent; h: that two numbers are the same, or not.
use Rattle.std.proofs.Common.{◌≡◌, ◌≢◌, ℕ, ◌+◌, ◌<◌, ◌≤◌, ◌==◌, Bool, true, false, List, refl, sym, ap, ◌∙◌, subst, inl, arith}
use Rattle.std.specs.Prelude.{not, ◌&&◌, if◌then◌else◌, slice_get}
use Rattle.chp_base.specs.declared.channel.Kind.{Kind}
use Rattle.chp_base.specs.declared.channel.Kind.TheVariants.{In, Out, Chan}
use Rattle.env_script.specs.Scripts.{OfferValue, gives, takes, nothing, offer_at}
use Rattle.env_script.specs.Runs.{completed}
use Rattle.prs_core.specs.Parts.{turned}
use Rattle.width_check.specs.Processes.{TypedProgram}
use Rattle.width_check.specs.Typing.{kind_at, channel_width, var_width}
use Rattle.chp_meaning.specs.Steps.{Configuration}
use Rattle.function_blocks.specs.Rails.{one_rule_fires}
use Rattle.circuit_places.specs.Lines.{Line, of_channel, of_var, same_line}
use Rattle.circuit_places.specs.Circuit.{GuardedSpot, tree_answer}
use Rattle.circuit_places.specs.Whole.{Whole, Wires, wires_seen, line_ack, brings, offers, Node, go_node, own_node, rail_node, ack_node, bit_node, wrote_node, joint_node, rule_in, enabled, ack_turned, wrote_turned, joint_turned, wires_after, cells_moved}
use Rattle.circuit_places.proofs.LineNames.{self_number, same_number}
use Rattle.circuit_places.proofs.Flow.{cases, not_both, or_left}
use Rattle.circuit_places.proofs.Talks.{either}
use Rattle.circuit_places.proofs.AckMoves.{acked_far, acked_near}
use Rattle.circuit_places.proofs.Places.{guarded_cells, guarded_moves}
use Rattle.circuit_places.proofs.System.{Fitted}
use Rattle.circuit_places.proofs.Carry.{Reached, next_reached}
use Rattle.round_time.specs.Longest.{tree_height, var_height}
use Rattle.circuit_time.proofs.Levels.{Silent}
use Rattle.circuit_time.proofs.Trails.{joint_level, guarded_trail}
use Rattle.circuit_pace.proofs.Counts.{counts}
use Rattle.circuit_ranks.proofs.Ranks.{assigns_to, listens_on, is_asked, is_received, late, rail_falls, rail_rises, rank}
use Rattle.circuit_ranks.proofs.Claims.{LowerThan}
use Rattle.circuit_ranks.proofs.FarTrails.{Could}
use Rattle.circuit_ranks.proofs.FarStates.{kept, own_lower}
use Rattle.circuit_ranks.proofs.FarKept.{ack_keeps, wrote_keeps, joint_keeps}
use Rattle.circuit_ranks.proofs.OwnKept.{late_most, wrote_most, joint_most}
use Rattle.circuit_sums.proofs.Passes.{pass_at, put_at, passes, puts, node_phase, passes_each, puts_each, passes_some, puts_written}
use Rattle.circuit_sums.proofs.FarStepped.{guarded_risen, channel_leaves, var_leaves}

-- how much follows the fall of a rail that is high, and of an acknowledge, at most
rail_room : (P : TypedProgram) (k : Kind) (f q R : ℕ) → 2 + f ≤ R → 1 + q ≤ R → rail_falls P k f q < R
rail_room P Out f q R a b = omega (arith, a)
rail_room P In f q R a b = omega (arith, b)
rail_room P Chan f q R a b = omega (arith, b)

ack_room : (b : Bool) (f R : ℕ) → 2 + f ≤ R → (if b then f else 0) < R
ack_room true f R a = omega (arith, a)
ack_room false f R a = omega (arith, a)

-- under a high acknowledge the environment raises no rail
no_offer : (offer : OfferValue) (n : ℕ) (w : Wires) (c done i : ℕ) (one : Bool) → w.ack c ≡ true → w.rail (of_channel c) i one ≡ false
    → offers n w c done offer i one ≡ false
no_offer (gives values) n w c done i one high low = ap (λ b. if b then w.rail (of_channel c) i one else brings n (slice_get values done) i one &&
    (not (w.rail (of_channel c) i true) && not (w.rail (of_channel c) i false))) high ∙ low
no_offer nothing n w c done i one high low = refl
no_offer (takes count) n w c done i one high low = refl

pub high_by : (b : Bool) → not b ≡ true → b ≡ false
high_by true e = absurd (cc e)
high_by false e = refl

-- a step of an assignment
pub assigned : (a b c : Bool) → (not a && (b && c)) ≡ true → (a ≡ false) × (c ≡ true)
assigned false true true e = (refl, refl)
assigned false true false e = absurd (cc e)
assigned false false c e = absurd (cc e)
assigned true b c e = absurd (cc e)

module _ (P : TypedProgram) (script : List OfferValue) (fitted : Fitted P script) {from : Configuration} {moves : ℕ} {x : Whole P.body}
    (r : Reached P script from moves x) where
  abbrev w : Wires
  w = x.wires

  abbrev pub Behind : (n m : Node P.body) → Type 0
  Behind n m = LowerThan P script fitted r (node_phase P n) n m

  abbrev Then : (n : Node P.body) → enabled P script x n ≡ true → Node P.body → Type 0
  Then n on m = Silent P script fitted (rank P) (next_reached P script fitted r n on) m

  -- ---- a channel's acknowledge rises
  module _ (c : ℕ) (on : enabled P script x (ack_node c) ≡ true) (low : w.ack c ≡ false) where
    high : (ack_turned w c).ack c ≡ true
    high = acked_near w c c (self_number c) ∙ ap not low

    far : (k : Line) → same_line k (of_channel c) ≡ false → line_ack P (ack_turned w c) k ≡ line_ack P w k
    far (of_channel d) e = acked_far w c d e
    far (of_var y) e = refl

    ack_own : (q : GuardedSpot P.body) → Then (ack_node c) on (own_node q) → Behind (ack_node c) (own_node q)
    ack_own = own_lower P script fitted r (ack_node c) on refl refl (λ q e. cc e)
        (λ q z. guarded_risen P (counts P) (wires_seen P w) (wires_seen P (ack_turned w c)) (passes P c) (λ held down q. pass_at P c q held ≤ passes P c) refl
        (channel_leaves P (wires_seen P w) (wires_seen P (ack_turned w c)) c high far refl (let t = (passes_some P c).0 in omega (arith, t)))
        0 0 r.place (passes_each P c) q z)

    ack_rail : (i : ℕ) (one : Bool) → Then (ack_node c) on (rail_node (of_channel c) i one) → Behind (ack_node c) (rail_node (of_channel c) i one)
    ack_rail i one t = cases (w.rail (of_channel c) i one)
        (λ (h : w.rail (of_channel c) i one ≡ true).
        let a : rank P (cells_moved P x (ack_node c)) (rail_node (of_channel c) i one)
        ≡ rail_falls P (kind_at P.channels c) ((counts P).acked c) ((counts P).taken c) =
        ap (λ (b : Bool). if b then rail_falls P (kind_at P.channels c) ((counts P).acked c) ((counts P).taken c)
        else rail_rises P (kind_at P.channels c) (tree_height (channel_width P.channels c)) (is_asked (listens_on c) P.body x.root.child x.root.inner)) h in
        let p = passes_some P c in
        let b = rail_room P (kind_at P.channels c) ((counts P).acked c) ((counts P).taken c) (passes P c) p.0 p.1 in
        inl (omega (arith, a, b)))
        (λ (h : w.rail (of_channel c) i one ≡ false).
        either (one_rule_fires (rule_in P x (rail_node (of_channel c) i one)))
        (offers (channel_width P.channels c) (ack_turned w c) c (completed (cells_moved P x (ack_node c)).histories c) (offer_at script c) i one) t.on
        (λ z. kept P script fitted r (ack_node c) (rail_node (of_channel c) i one) (λ e. cc e) (or_left _ _ z) refl refl)
        (λ z. absurd (not_both (no_offer (offer_at script c) (channel_width P.channels c) (ack_turned w c) c
        (completed (cells_moved P x (ack_node c)).histories c) i one high h) z)))

    ack_self : Then (ack_node c) on (ack_node c) → Behind (ack_node c) (ack_node c)
    ack_self t = inl (ack_room ((ack_turned w c).ack c) ((counts P).acked c) (passes P c) (passes_some P c).0)

    pub ack_behind : (m : Node P.body) → Then (ack_node c) on m → Behind (ack_node c) m
    ack_behind (own_node q) t = ack_own q t
    ack_behind (rail_node (of_channel d) i one) t = cases (d == c)
        (λ (h : (d == c) ≡ true). let same = same_number d c h in
        subst (λ (k : ℕ). Behind (ack_node c) (rail_node (of_channel k) i one)) (sym same)
        (ack_rail i one (subst (λ (k : ℕ). Then (ack_node c) on (rail_node (of_channel k) i one)) same t)))
        (λ (h : (d == c) ≡ false). ack_keeps P script fitted r c on (rail_node (of_channel d) i one) h t)
    ack_behind (ack_node d) t = cases (d == c)
        (λ (h : (d == c) ≡ true). let same = same_number d c h in
        subst (λ (k : ℕ). Behind (ack_node c) (ack_node k)) (sym same)
        (ack_self (subst (λ (k : ℕ). Then (ack_node c) on (ack_node k)) same t)))
        (λ (h : (d == c) ≡ false). ack_keeps P script fitted r c on (ack_node d) h t)
    ack_behind go_node t = ack_keeps P script fitted r c on go_node refl t
    ack_behind (rail_node (of_var v) i one) t = ack_keeps P script fitted r c on (rail_node (of_var v) i one) refl t
    ack_behind (bit_node v i one) t = ack_keeps P script fitted r c on (bit_node v i one) refl t
    ack_behind (wrote_node v i) t = ack_keeps P script fitted r c on (wrote_node v i) refl t
    ack_behind (joint_node v k) t = ack_keeps P script fitted r c on (joint_node v k) refl t

  -- ---- a variable's acknowledge rises, by a node of its block

  late_then : (n : Node P.body) (v : ℕ) → late P (cells_moved P x n) v ≤ 2
  late_then n v = late_most P (is_asked (assigns_to v) P.body (cells_moved P x n).root.child (cells_moved P x n).root.inner) (is_received v P.body)

  in_wrote : (n : Node P.body) (v i : ℕ) → rank P (cells_moved P x n) (wrote_node v i) < puts P v
  in_wrote n v i = wrote_most (var_height P v) ((counts P).written v) (late P (cells_moved P x n) v) (puts P v) ((cells_moved P x n).wires.wrote v i)
      (late_then n v) (puts_written P v)

  in_joint : (n : Node P.body) (v k : ℕ) → rank P (cells_moved P x n) (joint_node v k) < puts P v
  in_joint n v k = joint_most (var_height P v) (joint_level (var_width P.vars v) k) ((counts P).written v) (late P (cells_moved P x n) v) (puts P v)
      ((cells_moved P x n).wires.joint v k) (late_then n v) (puts_written P v)

  var_own : (v : ℕ) (n : Node P.body) → node_phase P n ≡ puts P v → (on : enabled P script x n ≡ true) → (cells_moved P x n).root ≡ x.root
      → (cells_moved P x n).go ≡ x.go → ((q : GuardedSpot P.body) → n ≢ own_node q) → (wires_after w n).rail ≡ w.rail → (wires_after w n).bit ≡ w.bit
      → line_ack P (wires_after w n) (of_var v) ≡ true
      → ((k : Line) → same_line k (of_var v) ≡ false → line_ack P (wires_after w n) k ≡ line_ack P w k)
      → (q : GuardedSpot P.body) → Then n on (own_node q) → Behind n (own_node q)
  var_own v n is on root go ne rails bits high far = own_lower P script fitted r n on root go ne
      (λ q z. subst (λ (k : ℕ). Could (guarded_moves (wires_seen P w) r.place q) (guarded_trail P (counts P) 0 0 P.body (guarded_cells r.place) q) k) (sym is)
      (guarded_risen P (counts P) (wires_seen P w) (wires_seen P (wires_after w n)) (puts P v) (λ held down q. put_at P v q held ≤ puts P v) bits
      (var_leaves P (wires_seen P w) (wires_seen P (wires_after w n)) v high far rails (let t = puts_written P v in omega (arith, t)))
      0 0 r.place (puts_each P v) q z))

  module _ (v i : ℕ) (on : enabled P script x (wrote_node v i) ≡ true) (high : line_ack P (wrote_turned w v i) (of_var v) ≡ true) where
    abbrev told : Wires
    told = wrote_turned w v i

    told_acks : (k : Line) → same_line k (of_var v) ≡ false → line_ack P told k ≡ line_ack P w k
    told_acks (of_channel c) e = refl
    told_acks (of_var u) e = ap (λ (y : ℕ → Bool). tree_answer (var_width P.vars u) y (w.joint u))
        (ap (λ (b : Bool). if b then turned (w.wrote v) i else w.wrote u) e)

    pub wrote_behind : (m : Node P.body) → Then (wrote_node v i) on m → Behind (wrote_node v i) m
    wrote_behind (own_node q) t = var_own v (wrote_node v i) refl on refl refl (λ q e. cc e) refl refl high told_acks q t
    wrote_behind (wrote_node u j) t = cases (u == v)
        (λ (h : (u == v) ≡ true). inl (subst (λ (k : ℕ). rank P (cells_moved P x (wrote_node v i)) (wrote_node k j) < puts P v) (sym (same_number u v h))
        (in_wrote (wrote_node v i) v j)))
        (λ (h : (u == v) ≡ false). wrote_keeps P script fitted r v i on (wrote_node u j) h t)
    wrote_behind (joint_node u k) t = cases (u == v)
        (λ (h : (u == v) ≡ true). inl (subst (λ (n : ℕ). rank P (cells_moved P x (wrote_node v i)) (joint_node n k) < puts P v) (sym (same_number u v h))
        (in_joint (wrote_node v i) v k)))
        (λ (h : (u == v) ≡ false). wrote_keeps P script fitted r v i on (joint_node u k) h t)
    wrote_behind go_node t = wrote_keeps P script fitted r v i on go_node refl t
    wrote_behind (rail_node k j b) t = wrote_keeps P script fitted r v i on (rail_node k j b) refl t
    wrote_behind (ack_node d) t = wrote_keeps P script fitted r v i on (ack_node d) refl t
    wrote_behind (bit_node u j b) t = wrote_keeps P script fitted r v i on (bit_node u j b) refl t

  module _ (v i : ℕ) (on : enabled P script x (joint_node v i) ≡ true) (high : line_ack P (joint_turned w v i) (of_var v) ≡ true) where
    abbrev jointed : Wires
    jointed = joint_turned w v i

    jointed_acks : (k : Line) → same_line k (of_var v) ≡ false → line_ack P jointed k ≡ line_ack P w k
    jointed_acks (of_channel c) e = refl
    jointed_acks (of_var u) e = ap (λ (y : ℕ → Bool). tree_answer (var_width P.vars u) (w.wrote u) y)
        (ap (λ (b : Bool). if b then turned (w.joint v) i else w.joint u) e)

    pub joint_behind : (m : Node P.body) → Then (joint_node v i) on m → Behind (joint_node v i) m
    joint_behind (own_node q) t = var_own v (joint_node v i) refl on refl refl (λ q e. cc e) refl refl high jointed_acks q t
    joint_behind (wrote_node u j) t = cases (u == v)
        (λ (h : (u == v) ≡ true). inl (subst (λ (k : ℕ). rank P (cells_moved P x (joint_node v i)) (wrote_node k j) < puts P v) (sym (same_number u v h))
        (in_wrote (joint_node v i) v j)))
        (λ (h : (u == v) ≡ false). joint_keeps P script fitted r v i on (wrote_node u j) h t)
    joint_behind (joint_node u k) t = cases (u == v)
        (λ (h : (u == v) ≡ true). inl (subst (λ (n : ℕ). rank P (cells_moved P x (joint_node v i)) (joint_node n k) < puts P v) (sym (same_number u v h))
        (in_joint (joint_node v i) v k)))
        (λ (h : (u == v) ≡ false). joint_keeps P script fitted r v i on (joint_node u k) h t)
    joint_behind go_node t = joint_keeps P script fitted r v i on go_node refl t
    joint_behind (rail_node k j b) t = joint_keeps P script fitted r v i on (rail_node k j b) refl t
    joint_behind (ack_node d) t = joint_keeps P script fitted r v i on (ack_node d) refl t
    joint_behind (bit_node u j b) t = joint_keeps P script fitted r v i on (bit_node u j b) refl t
