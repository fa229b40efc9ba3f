-- An own node moves, and behind it a rail, an acknowledge, or a node of a variable's block, silently, that could move before: this has a rank below a number
-- then, or no higher one than before. The number is great enough for what begins where no assignment to a variable is asked any more, or where a receive on a
-- channel is.
--
-- P: the program; r: how the state x is reached; s: the spot that moves; on: that its move is enabled; R: how many moves follow; v: a variable; c: a
-- channel; m: a node; e: that it was enabled; n: that its move is no step.
use Rattle.std.proofs.Common.{◌≡◌, ◌≢◌, ℕ, suc, ◌+◌, ◌-◌, ◌<◌, ◌≤◌, Bool, true, false, List, refl, sym, ap, ◌∙◌, inl, inr, arith}
use Rattle.std.specs.Prelude.{◌⊎◌, not, ◌&&◌, if◌then◌else◌}
use Rattle.chp_base.specs.declared.channel.Kind.{Kind}
use Rattle.chp_base.specs.declared.channel.Kind.TheVariants.{In, Out, Chan}
use Rattle.prs_core.specs.Parts.{turned}
use Rattle.env_script.specs.Scripts.{OfferValue}
use Rattle.width_check.specs.Processes.{TypedProgram}
use Rattle.width_check.specs.Typing.{kind_at, channel_width, var_width}
use Rattle.chp_meaning.specs.Steps.{Configuration}
use Rattle.function_blocks.specs.Rails.{Rails}
use Rattle.circuit_places.specs.Lines.{of_channel, of_var}
use Rattle.circuit_places.specs.Circuit.{GuardedSpot, tree_answer}
use Rattle.circuit_places.specs.Whole.{Whole, wires_seen, line_ack, wrote_turned, joint_turned, Node, go_node, own_node, rail_node, ack_node, bit_node, wrote_node, joint_node, enabled, cells_moved}
use Rattle.circuit_places.proofs.RailLemmas.{each_bit}
use Rattle.circuit_places.proofs.LineNames.{self_number}
use Rattle.circuit_places.proofs.Flow.{cases, not_both}
use Rattle.circuit_places.proofs.Places.{guarded_cells, guarded_shown}
use Rattle.circuit_places.proofs.Blocks.{Acked, ack_stays, ack_turns, wrote_turns, joint_turns, joint_some, ready_valid}
use Rattle.circuit_places.proofs.System.{Fitted}
use Rattle.circuit_places.proofs.Quiet.{is_step}
use Rattle.circuit_places.proofs.Carry.{Reached, may, present, next_reached}
use Rattle.circuit_places.proofs.Phases.{below}
use Rattle.round_time.specs.Longest.{tree_height, var_height, receive_first}
use Rattle.circuit_time.proofs.Trails.{joint_level}
use Rattle.circuit_pace.proofs.Never.{never}
use Rattle.circuit_pace.proofs.BlockTrails.{rail_trail, bit_trail, wrote_trail, joint_trail}
use Rattle.circuit_pace.proofs.Counts.{counts}
use Rattle.circuit_ranks.proofs.Ranks.{assigns_to, listens_on, is_asked, is_received, late_of, late, rail_falls, rail_rises, rank}
use Rattle.circuit_ranks.proofs.Claims.{is_far, LowerThan}
use Rattle.circuit_ranks.proofs.StateReads.{asked_is}
use Rattle.circuit_ranks.proofs.AskedPlaces.{guarded_sure}
use Rattle.circuit_ranks.proofs.Underway.{assigned_says}

-- ---- ranks under another lateness

pub late_most : (P : TypedProgram) (a b : Bool) → late_of P a b ≤ 2
late_most P true b = omega arith
late_most P false true = omega arith
late_most P false false = omega arith

bit_less : (h e d : ℕ) (b : Bool) → d ≤ e → bit_trail h d b ≤ bit_trail h e b
bit_less h e d true less = omega (arith, less)
bit_less h e d false less = omega (arith, less)

bit_most : (h d t : ℕ) (b : Bool) → d ≤ 2 → 5 + h ≤ t → bit_trail h d b < t
bit_most h d t true most room = omega (arith, most, room)
bit_most h d t false most room = omega (arith, most, room)

rail_less : (h v e d : ℕ) (b : Bool) → d ≤ e → rail_trail h v d b ≤ rail_trail h v e b
rail_less h v e d true less = omega arith
rail_less h v e d false less = omega (arith, less)

rail_most : (h v d t : ℕ) (b : Bool) → d ≤ 2 → 5 + h ≤ t → 2 + h + v ≤ t → rail_trail h v d b < t
rail_most h v d t true most room more = omega (arith, more)
rail_most h v d t false most room more = omega (arith, most, room)

wrote_less : (h v e d : ℕ) (b : Bool) → d ≤ e → wrote_trail h v d b ≤ wrote_trail h v e b
wrote_less h v e d true less = omega arith
wrote_less h v e d false less = omega (arith, less)

pub wrote_most : (h v d t : ℕ) (b : Bool) → d ≤ 2 → 2 + h + v ≤ t → wrote_trail h v d b < t
wrote_most h v d t true most room = omega (arith, room)
wrote_most h v d t false most room = omega (arith, most, room)

joint_less : (h l v e d : ℕ) (b : Bool) → d ≤ e → joint_trail h l v d b ≤ joint_trail h l v e b
joint_less h l v e d true less = omega arith
joint_less h l v e d false less = omega (arith, less)

pub joint_most : (h l v d t : ℕ) (b : Bool) → d ≤ 2 → 2 + h + v ≤ t → joint_trail h l v d b < t
joint_most h l v d t true most room = omega (arith, room)
joint_most h l v d t false most room = omega (arith, most, room)

-- of a channel's rail, where a receive is asked or not
channel_ranks : (P : TypedProgram) (now : Bool) (k : Kind) (f q h : ℕ) (a b : Bool) (t : ℕ) → (a ≡ false → b ≡ true → receive_first k h - 1 ≤ t)
    → ((if now then rail_falls P k f q else rail_rises P k h b) < t)
    ⊎ ((if now then rail_falls P k f q else rail_rises P k h b) ≤ (if now then rail_falls P k f q else rail_rises P k h a))
channel_ranks P true k f q h a b t asks = inr (omega arith)
channel_ranks P false Out f q h a b t asks = inr (omega arith)
channel_ranks P false Chan f q h a b t asks = inr (omega arith)
channel_ranks P false In f q h true true t asks = inr (omega arith)
channel_ranks P false In f q h true false t asks = inr (omega arith)
channel_ranks P false In f q h false false t asks = inr (omega arith)
channel_ranks P false In f q h false true t asks = let z = asks refl refl in inl (omega (arith, z))

-- what would have been a step, and is none now
ceased : (a s b t : Bool) → (not a && (s && b)) ≡ true → (not a && (t && b)) ≡ false → (a ≡ false) × (s ≡ true) × (b ≡ true) × (t ≡ false)
ceased false true true false e f = (refl, refl, refl, refl)
ceased false true true true e f = absurd (cc f)
ceased false true false t e f = absurd (cc e)
ceased false false b t e f = absurd (cc e)
ceased true s b t e f = absurd (cc e)

-- before an acknowledge rises each bit is written
rails_up : (n : ℕ) (x w : Rails) (wrote : ℕ → Bool) (va now : Bool) → Acked n x w wrote va now → va ≡ false → now ≡ true → 1 ≤ n
    → (side : Bool) × (w 0 side ≡ true)
rails_up n x w wrote va now (ack_stays stay) low high some = absurd (cc (stay, low, high))
rails_up n x w wrote va now (ack_turns over ready) low high some =
    let z : 0 < n = omega (arith, some) in
    each_bit n w (ready_valid n x w wrote va low ready).0 0 z

module _ (P : TypedProgram) (script : List OfferValue) (fitted : Fitted P script) {from : Configuration} {moves : ℕ} {x : Whole P.body}
    (r : Reached P script from moves x) (s : GuardedSpot P.body) (on : enabled P script x (own_node s) ≡ true) where
  -- the state after the move
  abbrev after : Whole P.body
  after = cells_moved P x (own_node s)

  abbrev next : Reached P script from (suc moves) (cells_moved P x (own_node s))
  next = next_reached P script fitted r (own_node s) on

  -- the number is great enough for what begins where no assignment to a variable is asked any more, and where a receive on a channel is
  pub record Follows (R : ℕ) : Type 0 where
    pub clears : (v : ℕ) → is_asked (assigns_to v) P.body x.root.child x.root.inner ≡ true
        → is_asked (assigns_to v) P.body after.root.child after.root.inner ≡ false
        → (2 + var_height P v + (counts P).written v ≤ R) × (is_received v P.body ≡ true → 5 + var_height P v ≤ R)
    pub hears : (c : ℕ) → is_asked (listens_on c) P.body x.root.child x.root.inner ≡ false
        → is_asked (listens_on c) P.body after.root.child after.root.inner ≡ true
        → receive_first (kind_at P.channels c) (tree_height (channel_width P.channels c)) - 1 ≤ R

  module _ {R : ℕ} (f : Follows R) where
    abbrev Cleared : ℕ → Type 0
    Cleared v = 2 + var_height P v + (counts P).written v ≤ R

    -- no variable's block is later than before, or so many moves follow
    late_moves : (v : ℕ) → (late P after v ≤ late P x v) ⊎ ((late P after v ≤ 2) × (5 + var_height P v ≤ R) × Cleared v)
    late_moves v = by (is_asked (assigns_to v) P.body x.root.child x.root.inner) refl (is_asked (assigns_to v) P.body after.root.child after.root.inner) refl
        (is_received v P.body) refl
      where
        by : (a : Bool) → is_asked (assigns_to v) P.body x.root.child x.root.inner ≡ a
            → (b : Bool) → is_asked (assigns_to v) P.body after.root.child after.root.inner ≡ b → (c : Bool) → is_received v P.body ≡ c
            → (late P after v ≤ late P x v) ⊎ ((late P after v ≤ 2) × (5 + var_height P v ≤ R) × Cleared v)
        by a ea true eb c ec =
            let z : late P after v ≡ 0 = ap (λ (d : Bool). late_of P d (is_received v P.body)) eb in inl (omega (arith, z))
        by false ea false eb c ec =
            let z : late P after v ≡ late P x v = ap (λ (d : Bool). late_of P d (is_received v P.body)) (eb ∙ sym ea) in inl (omega (arith, z))
        by true ea false eb false ec =
            let z : late P after v ≡ 0 = ap (λ (d : Bool). late_of P d (is_received v P.body)) eb ∙ ap (λ (d : Bool). late_of P false d) ec in
            inl (omega (arith, z))
        by true ea false eb true ec =
            let c = f.clears v ea eb in
            inr (late_most P (is_asked (assigns_to v) P.body after.root.child after.root.inner) (is_received v P.body), c.1 ec, c.0)

    -- an assignment that was about to make its step under way lets go of its request
    let_off : (v : ℕ) → line_ack P x.wires (of_var v) ≡ false → (guarded_shown r.place).says (of_var v) ≡ true
        → (guarded_shown next.place).says (of_var v) ≡ false → (side : Bool) × (x.wires.rail (of_var v) 0 side ≡ true) → Cleared v
    let_off v low says quiet (side, up) = by (guarded_sure v P (wires_seen P x.wires) low r.good.meets r.place r.good.fits says)
      where
        held : (guarded_shown r.place).offer (of_var v) 0 side ≡ true
        held = r.good.rising (of_var v) 0 side refl low up

        by : (is_asked (assigns_to v) P.body (guarded_cells r.place).child (guarded_cells r.place).inner ≡ true)
            ⊎ ((i : ℕ) (one : Bool) → (guarded_shown r.place).offer (of_var v) i one ≡ false) → Cleared v
        by (inr none) = absurd (not_both (none 0 side) held)
        by (inl asked) = cases (is_asked (assigns_to v) P.body after.root.child after.root.inner)
            (λ (z : is_asked (assigns_to v) P.body after.root.child after.root.inner ≡ true).
            absurd (not_both quiet (assigned_says v (wires_seen P x.wires) next.place next.good.fits (sym (asked_is P script next (assigns_to v)) ∙ z))))
            (λ (z : is_asked (assigns_to v) P.body after.root.child after.root.inner ≡ false). (f.clears v (asked_is P script r (assigns_to v) ∙ asked) z).0)

    -- of a node that may have moved before
    kept : (m : Node P.body) → own_node s ≢ m → enabled P script x m ≡ true → is_step P r.place x.wires m ≡ false
        → (rank P after m < R) ⊎ (rank P after m ≤ rank P x m) → LowerThan P script fitted r R (own_node s) m
    kept m ne e n (inl less) = inl less
    kept m ne e n (inr upto) = inr (ne, record { on = e; still = n }, upto)

    -- ---- a variable's block

    bit_lower : (v i : ℕ) (one : Bool) → enabled P script x (bit_node v i one) ≡ true → LowerThan P script fitted r R (own_node s) (bit_node v i one)
    bit_lower v i one e = kept (bit_node v i one) (λ z. cc z) e refl (by (late_moves v))
      where
        by : (late P after v ≤ late P x v) ⊎ ((late P after v ≤ 2) × (5 + var_height P v ≤ R) × Cleared v)
            → (rank P after (bit_node v i one) < R) ⊎ (rank P after (bit_node v i one) ≤ rank P x (bit_node v i one))
        by (inl less) = inr (bit_less (var_height P v) (late P x v) (late P after v) (x.wires.bit v i one) less)
        by (inr (most, room, more)) = inl (bit_most (var_height P v) (late P after v) R (x.wires.bit v i one) most room)

    -- a node that says that a bit is written
    wrote_lower : (v i : ℕ) → enabled P script x (wrote_node v i) ≡ true → is_step P next.place x.wires (wrote_node v i) ≡ false
        → LowerThan P script fitted r R (own_node s) (wrote_node v i)
    wrote_lower v i e n = cases (is_step P r.place x.wires (wrote_node v i)) stepped
        (λ (z : is_step P r.place x.wires (wrote_node v i) ≡ false). kept (wrote_node v i) (λ z. cc z) e z (by (late_moves v)))
      where
        low_enough : Cleared v → rank P after (wrote_node v i) < R
        low_enough more = wrote_most (var_height P v) ((counts P).written v) (late P after v) R (x.wires.wrote v i)
            (late_most P (is_asked (assigns_to v) P.body after.root.child after.root.inner) (is_received v P.body)) more

        by : (late P after v ≤ late P x v) ⊎ ((late P after v ≤ 2) × (5 + var_height P v ≤ R) × Cleared v)
            → (rank P after (wrote_node v i) < R) ⊎ (rank P after (wrote_node v i) ≤ rank P x (wrote_node v i))
        by (inl less) = inr (wrote_less (var_height P v) ((counts P).written v) (late P x v) (late P after v) (x.wires.wrote v i) less)
        by (inr (most, room, more)) = inl (low_enough more)

        stepped : is_step P r.place x.wires (wrote_node v i) ≡ true → LowerThan P script fitted r R (own_node s) (wrote_node v i)
        stepped z =
            let w = x.wires in
            let (low, says, high, quiet) = ceased (line_ack P w (of_var v)) ((guarded_shown r.place).says (of_var v))
            (line_ack P (wrote_turned w v i) (of_var v)) ((guarded_shown next.place).says (of_var v)) z n in
            let less : i < var_width P.vars v = below i (var_width P.vars v) (present P script fitted r (wrote_node v i) e) in
            let some : 1 ≤ var_width P.vars v = omega (arith, less) in
            let same : (wrote_turned w v i).wrote v ≡ turned (w.wrote v) i = ap (λ b. if b then turned (w.wrote v) i else w.wrote v) (self_number v) in
            let acked = (wrote_turns (var_width P.vars v) (w.bit v) (w.rail (of_var v)) (w.wrote v) (w.joint v) (r.good.block v some) i less
            (may P script r (wrote_node v i) e)).acked in
            inl (low_enough (let_off v low says quiet (rails_up (var_width P.vars v) (w.bit v) (w.rail (of_var v)) (w.wrote v) (line_ack P w (of_var v))
            (tree_answer (var_width P.vars v) (turned (w.wrote v) i) (w.joint v)) acked low
            (sym (ap (λ (l : ℕ → Bool). tree_answer (var_width P.vars v) l (w.joint v)) same) ∙ high) some)))

    -- a node of the tree over these
    joint_lower : (v k : ℕ) → enabled P script x (joint_node v k) ≡ true → is_step P next.place x.wires (joint_node v k) ≡ false
        → LowerThan P script fitted r R (own_node s) (joint_node v k)
    joint_lower v k e n = cases (is_step P r.place x.wires (joint_node v k)) stepped
        (λ (z : is_step P r.place x.wires (joint_node v k) ≡ false). kept (joint_node v k) (λ z. cc z) e z (by (late_moves v)))
      where
        low_enough : Cleared v → rank P after (joint_node v k) < R
        low_enough more = joint_most (var_height P v) (joint_level (var_width P.vars v) k) ((counts P).written v) (late P after v) R (x.wires.joint v k)
            (late_most P (is_asked (assigns_to v) P.body after.root.child after.root.inner) (is_received v P.body)) more

        by : (late P after v ≤ late P x v) ⊎ ((late P after v ≤ 2) × (5 + var_height P v ≤ R) × Cleared v)
            → (rank P after (joint_node v k) < R) ⊎ (rank P after (joint_node v k) ≤ rank P x (joint_node v k))
        by (inl less) = inr (joint_less (var_height P v) (joint_level (var_width P.vars v) k) ((counts P).written v) (late P x v) (late P after v)
            (x.wires.joint v k) less)
        by (inr (most, room, more)) = inl (low_enough more)

        stepped : is_step P r.place x.wires (joint_node v k) ≡ true → LowerThan P script fitted r R (own_node s) (joint_node v k)
        stepped z =
            let w = x.wires in
            let (low, says, high, quiet) = ceased (line_ack P w (of_var v)) ((guarded_shown r.place).says (of_var v))
            (line_ack P (joint_turned w v k) (of_var v)) ((guarded_shown next.place).says (of_var v)) z n in
            let m = may P script r (joint_node v k) e in
            let some : 1 ≤ var_width P.vars v = joint_some (var_width P.vars v) (w.wrote v) (w.joint v) k m in
            let same : (joint_turned w v k).joint v ≡ turned (w.joint v) k = ap (λ b. if b then turned (w.joint v) k else w.joint v) (self_number v) in
            let acked = (joint_turns (var_width P.vars v) (w.bit v) (w.rail (of_var v)) (w.wrote v) (w.joint v) (r.good.block v some) k m).acked in
            inl (low_enough (let_off v low says quiet (rails_up (var_width P.vars v) (w.bit v) (w.rail (of_var v)) (w.wrote v) (line_ack P w (of_var v))
            (tree_answer (var_width P.vars v) (w.wrote v) (turned (w.joint v) k)) acked low
            (sym (ap (λ (l : ℕ → Bool). tree_answer (var_width P.vars v) (w.wrote v) l) same) ∙ high) some)))

    -- ---- a rail

    channel_lower : (c i : ℕ) (one : Bool) → enabled P script x (rail_node (of_channel c) i one) ≡ true
        → LowerThan P script fitted r R (own_node s) (rail_node (of_channel c) i one)
    channel_lower c i one e = kept (rail_node (of_channel c) i one) (λ z. cc z) e refl
        (channel_ranks P (x.wires.rail (of_channel c) i one) (kind_at P.channels c) ((counts P).acked c) ((counts P).taken c)
        (tree_height (channel_width P.channels c)) (is_asked (listens_on c) P.body x.root.child x.root.inner)
        (is_asked (listens_on c) P.body after.root.child after.root.inner) R (f.hears c))

    -- of a variable, by which it is written
    var_lower : (v i : ℕ) (one : Bool) → enabled P script x (rail_node (of_var v) i one) ≡ true
        → LowerThan P script fitted r R (own_node s) (rail_node (of_var v) i one)
    var_lower v i one e = kept (rail_node (of_var v) i one) (λ z. cc z) e refl (by (late_moves v))
      where
        by : (late P after v ≤ late P x v) ⊎ ((late P after v ≤ 2) × (5 + var_height P v ≤ R) × Cleared v)
            → (rank P after (rail_node (of_var v) i one) < R) ⊎ (rank P after (rail_node (of_var v) i one) ≤ rank P x (rail_node (of_var v) i one))
        by (inl less) = inr (rail_less (var_height P v) ((counts P).written v) (late P x v) (late P after v) (x.wires.rail (of_var v) i one) less)
        by (inr (most, room, more)) =
            inl (rail_most (var_height P v) ((counts P).written v) (late P after v) R (x.wires.rail (of_var v) i one) most room more)

    -- ---- all of these

    pub kept_far : (m : Node P.body) → is_far m ≡ true → enabled P script x m ≡ true → is_step P next.place after.wires m ≡ false
        → LowerThan P script fitted r R (own_node s) m
    kept_far go_node far e n = kept go_node (λ z. cc z) e refl (inr (omega arith))
    kept_far (own_node q) far e n = never far
    kept_far (rail_node (of_channel c) i one) far e n = channel_lower c i one e
    kept_far (rail_node (of_var v) i one) far e n = var_lower v i one e
    kept_far (ack_node c) far e n = kept (ack_node c) (λ z. cc z) e n (inr (omega arith))
    kept_far (bit_node v i one) far e n = bit_lower v i one e
    kept_far (wrote_node v i) far e n = wrote_lower v i e n
    kept_far (joint_node v k) far e n = joint_lower v k e n
