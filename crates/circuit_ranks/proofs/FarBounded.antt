-- The rank of each node outside the statements that may move silently is two less than `longest` at most: where a line or a variable's block moves the
-- program has a site of it.
--
-- P: the program; r: how the state x is reached; c: a channel; v: a variable; i, one: a bit and which of its rails; on: that a move is enabled.
use Rattle.std.proofs.Common.{◌≡◌, ◌≢◌, ℕ, zero, suc, ◌+◌, ◌<◌, ◌≤◌, Bool, true, false, List, refl, sym, ap, ◌∙◌, arith}
use Rattle.std.specs.Prelude.{not, ◌&&◌, ◌||◌, if◌then◌else◌}
use Rattle.prs_core.specs.Deciding.{implies, implies_both}
use Rattle.chp_base.specs.declared.channel.Kind.{Kind}
use Rattle.chp_base.specs.declared.channel.Kind.TheVariants.{In, Out, Chan}
use Rattle.env_script.specs.Scripts.{OfferValue, gives, takes, nothing, offer_at}
use Rattle.env_script.specs.Runs.{completed}
use Rattle.width_check.specs.Processes.{TypedProgram}
use Rattle.width_check.specs.Typing.{kind_at, channel_width, var_width}
use Rattle.chp_meaning.specs.Steps.{Configuration}
use Rattle.function_blocks.proofs.Tables.{or_false}
use Rattle.circuit_places.specs.Lines.{Line, of_channel, of_var}
use Rattle.circuit_places.specs.Circuit.{turns, joint_count}
use Rattle.circuit_places.specs.Whole.{Whole, line_ack, is_sent, is_merged, Node, go_node, own_node, rail_node, ack_node, bit_node, wrote_node, joint_node, enabled, offers}
use Rattle.circuit_places.proofs.RailLemmas.{fst_true, snd_true, both_true}
use Rattle.circuit_places.proofs.Flow.{cases, not_both}
use Rattle.circuit_places.proofs.Talks.{either, guarded_offers_talks, guarded_talks_sends}
use Rattle.circuit_places.proofs.Meets.{sends}
use Rattle.circuit_places.proofs.Places.{guarded_shown}
use Rattle.circuit_places.proofs.Trees.{node_moves, joint_below, flat_stands}
use Rattle.circuit_places.proofs.BitTable.{Now, at_now, legal}
use Rattle.circuit_places.proofs.Blocks.{Block, now_at, joint_some}
use Rattle.circuit_places.proofs.System.{Fitted, driven, sent_turns}
use Rattle.circuit_places.proofs.Carry.{Reached, may}
use Rattle.round_time.specs.Longest.{tree_height, var_height, longest}
use Rattle.circuit_time.proofs.Trails.{joint_level}
use Rattle.circuit_time.proofs.Levels.{Silent}
use Rattle.circuit_pace.proofs.BlockTrails.{rail_trail, bit_trail, wrote_trail, joint_trail}
use Rattle.circuit_pace.proofs.Counts.{acked_of, written_of, taken_of}
use Rattle.circuit_ranks.proofs.Ranks.{listens_on, assigns_to, is_asked, is_received, late_of, late, rail_falls, rail_rises, rank}
use Rattle.circuit_ranks.proofs.Claims.{is_far}
use Rattle.circuit_ranks.proofs.SiteRooms.{long, long_some, acked_less, taken_less, written_room, received_room, sent_room, heard_room, listened}

-- a node that says that its bit is written, under a low acknowledge, has a rail by which that is
written_up : (n : Now) → legal n ≡ true → n.va ≡ false → n.wa ≡ true → (n.wt || n.wf) ≡ true
written_up n l low high = implies_both (legal n) (not n.va && n.wa) (n.wt || n.wf)
    (at_now (λ n. implies (legal n) (implies (not n.va && n.wa) (n.wt || n.wf))) refl n) l (both_true (not n.va) n.wa (ap not low) high)

-- a tree that has a node has two leaves
two_leaves : (n k : ℕ) → k < joint_count n → 2 ≤ n
two_leaves zero k less = absurd (let g : k < 0 = less in let h : ⊥ = omega (arith, g) in h)
two_leaves (suc zero) k less = absurd (let g : k < 0 = less in let h : ⊥ = omega (arith, g) in h)
two_leaves (suc (suc n)) k less = omega arith

-- ---- how great ranks of a variable's block are
rail_within : (h v e l : ℕ) (b : Bool) → 3 + h + v ≤ l → 4 + h + e ≤ l → suc (suc (rail_trail h v e b)) ≤ l
rail_within h v e l true f g = omega (arith, f)
rail_within h v e l false f g = omega (arith, g)

bit_within : (h e l : ℕ) (b : Bool) → 4 + h + e ≤ l → suc (suc (bit_trail h e b)) ≤ l
bit_within h e l true g = omega (arith, g)
bit_within h e l false g = omega (arith, g)

wrote_within : (h v e l : ℕ) (b : Bool) → 3 + h + v ≤ l → 4 + h + e ≤ l → suc (suc (wrote_trail h v e b)) ≤ l
wrote_within h v e l true f g = omega (arith, f)
wrote_within h v e l false f g = omega (arith, g)

joint_within : (h j v e l : ℕ) (b : Bool) → 3 + h + v ≤ l → 4 + h + e ≤ l → suc (suc (joint_trail h j v e b)) ≤ l
joint_within h j v e l true f g = omega (arith, f)
joint_within h j v e l false f g = omega (arith, g)

module _ (P : TypedProgram) (script : List OfferValue) (fitted : Fitted P script) {from : Configuration} {moves : ℕ} {x : Whole P.body}
    (r : Reached P script from moves x) where
  -- ---- what moves has a site
  offered : (k : Line) (i : ℕ) (one : Bool) → (guarded_shown r.place).offer k i one ≡ true → sends P.body k ≡ true
  offered k i one o = guarded_talks_sends r.place k (guarded_offers_talks r.place k i one o)

  talked : (v : ℕ) → line_ack P x.wires (of_var v) ≡ true → sends P.body (of_var v) ≡ true
  talked v a = guarded_talks_sends r.place (of_var v) (r.good.talk (of_var v) refl a)

  railed : (v i : ℕ) (one : Bool) → x.wires.rail (of_var v) i one ≡ true → sends P.body (of_var v) ≡ true
  railed v i one h = cases (line_ack P x.wires (of_var v)) (λ (a : line_ack P x.wires (of_var v) ≡ true). talked v a)
      (λ (a : line_ack P x.wires (of_var v) ≡ false). offered (of_var v) i one (r.good.rising (of_var v) i one refl a h))

  -- a rail that rises, and isn't the environment's, is that of a site
  rises : (k : Line) (i : ℕ) (one : Bool) → x.wires.rail k i one ≡ false → sent_turns P x.wires k i one ((guarded_shown r.place).offer k i one) ≡ true
      → sends P.body k ≡ true
  rises k i one low z = offered k i one
      (sym (ap (λ (b : Bool). turns b ((guarded_shown r.place).offer k i one) (not ((guarded_shown r.place).offer k i one))) low)
      ∙ snd_true (is_merged P k) (turns (x.wires.rail k i one) ((guarded_shown r.place).offer k i one) (not ((guarded_shown r.place).offer k i one))) z)

  rail_sited : (v i : ℕ) (one : Bool) → enabled P script x (rail_node (of_var v) i one) ≡ true → sends P.body (of_var v) ≡ true
  rail_sited v i one on = cases (x.wires.rail (of_var v) i one) (λ (h : x.wires.rail (of_var v) i one ≡ true). railed v i one h)
      (λ (h : x.wires.rail (of_var v) i one ≡ false). rises (of_var v) i one h
      (sym (or_false (sent_turns P x.wires (of_var v) i one ((guarded_shown r.place).offer (of_var v) i one)))
      ∙ may P script r (rail_node (of_var v) i one) on))

  bit_sited : (v i : ℕ) (one : Bool) → enabled P script x (bit_node v i one) ≡ true → sends P.body (of_var v) ≡ true
  bit_sited v i one on = by (x.wires.bit v i one) (may P script r (bit_node v i one) on)
    where
      by : (b : Bool)
          → (if b then x.wires.rail (of_var v) i (not one) else (x.wires.rail (of_var v) i one && not (x.wires.bit v i (not one)))) ≡ true
          → sends P.body (of_var v) ≡ true
      by true z = railed v i (not one) z
      by false z = railed v i one (fst_true (x.wires.rail (of_var v) i one) (not (x.wires.bit v i (not one))) z)

  block_of : (v : ℕ) → 1 ≤ var_width P.vars v
      → Block (var_width P.vars v) (x.wires.bit v) (x.wires.rail (of_var v)) (x.wires.wrote v) (x.wires.joint v)
  block_of v some = r.good.block v some

  wrote_high : (v i : ℕ) → x.wires.wrote v i ≡ true → sends P.body (of_var v) ≡ true
  wrote_high v i h = cases (line_ack P x.wires (of_var v)) (λ (a : line_ack P x.wires (of_var v) ≡ true). talked v a)
      (λ (a : line_ack P x.wires (of_var v) ≡ false).
      let less = r.good.no_wrote v i h in
      let b = block_of v (omega (arith, less)) in
      either (x.wires.rail (of_var v) i true) (x.wires.rail (of_var v) i false)
      (written_up (now_at (x.wires.bit v) (x.wires.rail (of_var v)) (x.wires.wrote v) (line_ack P x.wires (of_var v)) i) (b.bits i less) a h)
      (λ y. railed v i true y) (λ y. railed v i false y))

  wrote_sited : (v i : ℕ) → enabled P script x (wrote_node v i) ≡ true → sends P.body (of_var v) ≡ true
  wrote_sited v i on = cases (x.wires.wrote v i) (λ (h : x.wires.wrote v i ≡ true). wrote_high v i h)
      (λ (h : x.wires.wrote v i ≡ false).
      either (x.wires.rail (of_var v) i true && x.wires.bit v i true) (x.wires.rail (of_var v) i false && x.wires.bit v i false)
      (sym (ap (λ (b : Bool). if b then not (x.wires.rail (of_var v) i true) && not (x.wires.rail (of_var v) i false)
      else ((x.wires.rail (of_var v) i true && x.wires.bit v i true) || (x.wires.rail (of_var v) i false && x.wires.bit v i false))) h)
      ∙ may P script r (wrote_node v i) on)
      (λ y. railed v i true (fst_true (x.wires.rail (of_var v) i true) (x.wires.bit v i true) y))
      (λ y. railed v i false (fst_true (x.wires.rail (of_var v) i false) (x.wires.bit v i false) y)))

  joint_sited : (v k : ℕ) → enabled P script x (joint_node v k) ≡ true → sends P.body (of_var v) ≡ true
  joint_sited v k on = cases (line_ack P x.wires (of_var v)) (λ (a : line_ack P x.wires (of_var v) ≡ true). talked v a)
      (λ (a : line_ack P x.wires (of_var v) ≡ false). cases (sends P.body (of_var v)) (λ (s : sends P.body (of_var v) ≡ true). s)
      (λ (s : sends P.body (of_var v) ≡ false). absurd (not_both (stands a s) moved)))
    where
      moved : node_moves (var_width P.vars v) (x.wires.wrote v) (x.wires.joint v) k ≡ true
      moved = may P script r (joint_node v k) on

      low : sends P.body (of_var v) ≡ false → (i : ℕ) → x.wires.wrote v i ≡ false
      low s i = cases (x.wires.wrote v i) (λ (h : x.wires.wrote v i ≡ true). absurd (not_both s (wrote_high v i h)))
          (λ (h : x.wires.wrote v i ≡ false). h)

      stands : line_ack P x.wires (of_var v) ≡ false → sends P.body (of_var v) ≡ false
          → node_moves (var_width P.vars v) (x.wires.wrote v) (x.wires.joint v) k ≡ false
      stands a s =
          let n = var_width P.vars v in
          let b = block_of v (joint_some (var_width P.vars v) (x.wires.wrote v) (x.wires.joint v) k moved) in
          flat_stands n b.known (two_leaves n k (joint_below n (x.wires.wrote v) (x.wires.joint v) k moved)) (x.wires.wrote v) (x.wires.joint v) false b.tree a
          (λ i less. low s i) k

  -- ---- of variables
  late_room : (v : ℕ) → 4 + var_height P v ≤ longest P → 4 + var_height P v + late P x v ≤ longest P
  late_room v room = by (is_asked (assigns_to v) P.body x.root.child x.root.inner) (is_received v P.body) (received_room P r.good.meets v)
    where
      by : (a t : Bool) → (t ≡ true → 7 + var_height P v ≤ longest P) → 4 + var_height P v + late_of P a t ≤ longest P
      by true t f = omega (arith, room)
      by false true f = let w = f refl in omega (arith, w)
      by false false f = omega (arith, room)

  -- ---- of channels
  undriven : (c i : ℕ) (one : Bool) → kind_at P.channels c ≡ Chan → driven P script x.wires x.histories (of_channel c) i one ≡ true → ⊥
  undriven c i one kind d = by (offer_at script c) refl d
    where
      by : (o : OfferValue) → offer_at script c ≡ o → offers (channel_width P.channels c) x.wires c (completed x.histories c) o i one ≡ true → ⊥
      by (gives values) is e = not_both (fitted.brought c values is).0 (ap is_sent kind)
      by (takes count) is e = cc e
      by nothing is e = cc e

  channel_within : (c i : ℕ) (one : Bool) → enabled P script x (rail_node (of_channel c) i one) ≡ true
      → suc (suc (rank P x (rail_node (of_channel c) i one))) ≤ longest P
  channel_within c i one on = by (x.wires.rail (of_channel c) i one) refl (kind_at P.channels c) refl
      (is_asked (listens_on c) P.body x.root.child x.root.inner) refl
    where
      falls : (kind : Kind) → suc (suc (rail_falls P kind (acked_of P c) (taken_of P c))) ≤ longest P
      falls Out = let a = acked_less P r.good.meets c in let l = long_some P in omega (arith, a, l)
      falls In = let a = taken_less P r.good.meets c in let l = long_some P in omega (arith, a, l)
      falls Chan = let a = taken_less P r.good.meets c in let l = long_some P in omega (arith, a, l)

      not_out : kind_at P.channels c ≡ Chan → kind_at P.channels c ≢ Out
      not_out kind other = apart (sym kind ∙ other)
        where
          apart : Chan ≡ Out → ⊥
          apart e = cc e

      sent : x.wires.rail (of_channel c) i one ≡ false → kind_at P.channels c ≡ Chan → sends P.body (of_channel c) ≡ true
      sent low kind = either (sent_turns P x.wires (of_channel c) i one ((guarded_shown r.place).offer (of_channel c) i one))
          (driven P script x.wires x.histories (of_channel c) i one) (may P script r (rail_node (of_channel c) i one) on)
          (λ z. rises (of_channel c) i one low z) (λ z. absurd (undriven c i one kind z))

      by : (b : Bool) → x.wires.rail (of_channel c) i one ≡ b → (kind : Kind) → kind_at P.channels c ≡ kind
          → (a : Bool) → is_asked (listens_on c) P.body x.root.child x.root.inner ≡ a
          → suc (suc (if b then rail_falls P kind (acked_of P c) (taken_of P c)
          else rail_rises P kind (tree_height (channel_width P.channels c)) a)) ≤ longest P
      by true at kind is a asked = falls kind
      by false at Out is a asked = let l = long_some P in omega (arith, l)
      by false at In is false asked = let l = long_some P in omega (arith, l)
      by false at In is true asked =
          let w = heard_room P r.good.meets c (listened c P.body x.root.child x.root.inner asked) is in omega (arith, w)
      by false at Chan is a asked = let w = sent_room P r.good.meets c (sent at is) (not_out is) in omega (arith, w)

  ack_within : (c : ℕ) → suc (suc (rank P x (ack_node c))) ≤ longest P
  ack_within c = by (x.wires.ack c)
    where
      by : (b : Bool) → suc (suc (if b then acked_of P c else 0)) ≤ longest P
      by true = let a = acked_less P r.good.meets c in let l = long_some P in omega (arith, a, l)
      by false = let l = long_some P in omega (arith, l)

  pub far_bounded : (m : Node P.body) → is_far m ≡ true → Silent P script fitted (rank P) r m → suc (suc (rank P x m)) ≤ longest P
  far_bounded (own_node s) far z = absurd (cc far)
  far_bounded go_node far z = let l = long P in omega (arith, l)
  far_bounded (rail_node (of_channel c) i one) far z = channel_within c i one z.on
  far_bounded (rail_node (of_var v) i one) far z =
      let w = written_room P r.good.meets v (rail_sited v i one z.on) in
      rail_within (var_height P v) (written_of P v) (late P x v) (longest P) (x.wires.rail (of_var v) i one) w.0 (late_room v w.1)
  far_bounded (ack_node c) far z = ack_within c
  far_bounded (bit_node v i one) far z =
      let w = written_room P r.good.meets v (bit_sited v i one z.on) in
      bit_within (var_height P v) (late P x v) (longest P) (x.wires.bit v i one) (late_room v w.1)
  far_bounded (wrote_node v i) far z =
      let w = written_room P r.good.meets v (wrote_sited v i z.on) in
      wrote_within (var_height P v) (written_of P v) (late P x v) (longest P) (x.wires.wrote v i) w.0 (late_room v w.1)
  far_bounded (joint_node v k) far z =
      let w = written_room P r.good.meets v (joint_sited v k z.on) in
      joint_within (var_height P v) (joint_level (var_width P.vars v) k) (written_of P v) (late P x v) (longest P) (x.wires.joint v k) w.0 (late_room v w.1)
