-- What a silent move outside of all statements lets own nodes do in a state that is reached: none begins but of a lower rank.
--
-- P: the program; r: how the state x is reached; n, m: nodes; q: an own spot; v: a variable; c: a channel; s, t: that a move is silent.
use Rattle.std.proofs.Common.{◌≡◌, ◌≢◌, ℕ, ◌+◌, ◌<◌, ◌≤◌, ◌==◌, Bool, true, false, List, refl, sym, ap, ◌∙◌, inl, inr, arith}
use Rattle.std.specs.Prelude.{◌⊎◌, not, ◌&&◌, ◌||◌, nat_lt, if◌then◌else◌, is_some}
use Rattle.std.proofs.lemmas.Bool.Decides.{nat_tests}
use Rattle.chp_base.specs.declared.channel.Kind.{Kind}
use Rattle.chp_base.specs.declared.channel.Kind.TheVariants.{In, Out, Chan}
use Rattle.env_script.specs.Scripts.{OfferValue}
use Rattle.prs_core.specs.Parts.{turned}
use Rattle.width_check.specs.Processes.{TypedProgram}
use Rattle.width_check.specs.Typing.{kind_at, channel_width, var_width}
use Rattle.chp_meaning.specs.Steps.{Configuration}
use Rattle.function_blocks.specs.Rails.{Rails, one_rule_fires}
use Rattle.function_blocks.proofs.Tables.{or_false}
use Rattle.circuit_places.specs.Lines.{Line, of_channel, of_var, same_line, Seen}
use Rattle.circuit_places.specs.Circuit.{QElementCells, Cells, GuardedSpot, rails_turned, tree_answer, guarded_rule}
use Rattle.circuit_places.specs.Whole.{Whole, Wires, wires_seen, line_ack, is_heard, bit_rule, wrote_rule, value_on, Node, own_node, rail_node, ack_node, bit_node, wrote_node, joint_node, enabled, ack_turned, rail_turned, bit_turned, wrote_turned, joint_turned, wires_after, cells_moved}
use Rattle.circuit_places.proofs.RailLemmas.{fst_true, snd_true, not_true, each_bit}
use Rattle.circuit_places.proofs.LineNames.{self_number, same_number}
use Rattle.circuit_places.proofs.Flow.{cases, not_both}
use Rattle.circuit_places.proofs.Talks.{either, guarded_offers_talks}
use Rattle.circuit_places.proofs.Trees.{node_moves, moves_from_top}
use Rattle.circuit_places.proofs.BitTable.{written_as_acknowledged}
use Rattle.circuit_places.proofs.Blocks.{now_at, bit_can, moves_written, Acked, ack_stays, ack_turns, wrote_turns, joint_turns, joint_some, ready_valid}
use Rattle.circuit_places.proofs.Places.{asks, guarded_cells, guarded_shown, guarded_writing, guarded_moves, guarded_can_is}
use Rattle.circuit_places.proofs.StillSteps.{guarded_value, guarded_is_step, guarded_was_low}
use Rattle.circuit_places.proofs.Stepping.{guarded_steps}
use Rattle.circuit_places.proofs.Change.{Any, any_down, GuardedChanged, guarded_changed, Unread, unread_down, bit_leaves}
use Rattle.circuit_places.proofs.Writing.{guarded_writing_there, guarded_writing_unread}
use Rattle.circuit_places.proofs.LineMoves.{Turned, this, that, turned_at, rail_acks, same_channel}
use Rattle.circuit_places.proofs.AckMoves.{acked_far}
use Rattle.circuit_places.proofs.BlockMoves.{some_of}
use Rattle.circuit_places.proofs.System.{Fitted}
use Rattle.circuit_places.proofs.Quiet.{is_step}
use Rattle.circuit_places.proofs.Carry.{Reached, enabled_is, may, next_reached, present}
use Rattle.round_time.specs.Longest.{tree_height, var_height}
use Rattle.circuit_time.proofs.Levels.{Silent}
use Rattle.circuit_time.proofs.Trails.{joint_level, guarded_trail}
use Rattle.circuit_time.proofs.OwnTrails.{Covers}
use Rattle.circuit_pace.proofs.BlockTrails.{wrote_trail, joint_trail}
use Rattle.circuit_pace.proofs.Counts.{counts}
use Rattle.circuit_ranks.proofs.Ranks.{assigns_to, listens_on, is_asked, is_received, late_of, late, rail_falls, rail_rises, rank}
use Rattle.circuit_ranks.proofs.Claims.{LowerThan}
use Rattle.circuit_ranks.proofs.StateReads.{asked_is}
use Rattle.circuit_ranks.proofs.Underway.{assigned_says, guarded_told, same_says}
use Rattle.circuit_ranks.proofs.FarTrails.{Could, Unsaid, unsaid_down, guarded_far, still_far, falls_far, rises_far, rail_falls_far, rail_rises_far}

-- of a step of an assignment
unsaid : (a b c : Bool) → (not a && (b && c)) ≡ false → a ≡ false → c ≡ true → b ≡ false
unsaid true b c z e f = absurd (cc e)
unsaid false true true z e f = absurd (cc z)
unsaid false true false z e f = absurd (cc f)
unsaid false false c z e f = refl

module _ (P : TypedProgram) (script : List OfferValue) (fitted : Fitted P script) {from : Configuration} {moves : ℕ} {x : Whole P.body}
    (r : Reached P script from moves x) where
  -- what is to be said of a node's move, and another one's behind it
  abbrev pub Lower : (n m : Node P.body) → Type 0
  Lower n m = LowerThan P script fitted r (rank P x n) n m

  pub kept : {R : ℕ} (n m : Node P.body) → n ≢ m → enabled P script x m ≡ true → is_step P r.place x.wires m ≡ false
      → rank P (cells_moved P x n) m ≡ rank P x m → LowerThan P script fitted r R n m
  kept n m ne on still same = inr (ne, record { on = on; still = still }, omega (arith, same))

  -- what assignments are under way is the same behind a move of no own node
  pub says_stays : (n : Node P.body) (on : enabled P script x n ≡ true) → (cells_moved P x n).root ≡ x.root → (v : ℕ)
      → (guarded_shown (next_reached P script fitted r n on).place).says (of_var v) ≡ (guarded_shown r.place).says (of_var v)
  says_stays n on root v =
      let next = next_reached P script fitted r n on in
      same_says v next.place r.place (sym next.same ∙ (root ∙ r.same))

  -- so no assignment makes a step that would make none then
  pub still_wrote : (n : Node P.body) (on : enabled P script x n ≡ true) → (cells_moved P x n).root ≡ x.root → (v i : ℕ)
      → is_step P (next_reached P script fitted r n on).place x.wires (wrote_node v i) ≡ false → is_step P r.place x.wires (wrote_node v i) ≡ false
  still_wrote n on root v i z = ap (λ (b : Bool). not (line_ack P x.wires (of_var v)) && (b && line_ack P (wrote_turned x.wires v i) (of_var v)))
      (sym (says_stays n on root v)) ∙ z

  pub still_joint : (n : Node P.body) (on : enabled P script x n ≡ true) → (cells_moved P x n).root ≡ x.root → (v k : ℕ)
      → is_step P (next_reached P script fitted r n on).place x.wires (joint_node v k) ≡ false → is_step P r.place x.wires (joint_node v k) ≡ false
  still_joint n on root v k z = ap (λ (b : Bool). not (line_ack P x.wires (of_var v)) && (b && line_ack P (joint_turned x.wires v k) (of_var v)))
      (sym (says_stays n on root v)) ∙ z

  -- ---- the acknowledge of a variable rises

  -- under no assignment that is a receive's
  rises_late : (v : ℕ) → 1 ≤ var_width P.vars v → (now : Bool)
      → Acked (var_width P.vars v) (x.wires.bit v) (x.wires.rail (of_var v)) (x.wires.wrote v) (line_ack P x.wires (of_var v)) now
      → line_ack P x.wires (of_var v) ≡ false → now ≡ true → (guarded_shown r.place).says (of_var v) ≡ false → late P x v ≡ 2
  rises_late v some now (ack_stays same) low high none = absurd (not_both (same ∙ low) high)
  rises_late v some now (ack_turns over ready) low high none =
      ap (λ (a : Bool). late_of P a (is_received v P.body)) unasked ∙ ap (λ (b : Bool). late_of P false b) received
    where
      valid : is_some (value_on (var_width P.vars v) (x.wires.rail (of_var v))) ≡ true
      valid = (ready_valid (var_width P.vars v) (x.wires.bit v) (x.wires.rail (of_var v)) (x.wires.wrote v) (line_ack P x.wires (of_var v)) low ready).0

      talks : (side : Bool) × (x.wires.rail (of_var v) 0 side ≡ true) → (guarded_shown r.place).talk (of_var v) ≡ true
      talks (side, up) = guarded_offers_talks r.place (of_var v) 0 side (r.good.rising (of_var v) 0 side refl low up)

      talk : (guarded_shown r.place).talk (of_var v) ≡ true
      talk = talks (each_bit (var_width P.vars v) (x.wires.rail (of_var v)) valid 0 (let z : 0 < var_width P.vars v = omega (arith, some) in z))

      unasked : is_asked (assigns_to v) P.body x.root.child x.root.inner ≡ false
      unasked = cases (is_asked (assigns_to v) P.body x.root.child x.root.inner)
          (λ (h : is_asked (assigns_to v) P.body x.root.child x.root.inner ≡ true).
          absurd (not_both none (assigned_says v (wires_seen P x.wires) r.place r.good.fits (sym (asked_is P script r (assigns_to v)) ∙ h))))
          (λ (h : is_asked (assigns_to v) P.body x.root.child x.root.inner ≡ false). h)

      received : is_received v P.body ≡ true
      received = cases (is_received v P.body) (λ (h : is_received v P.body ≡ true). h)
          (λ (h : is_received v P.body ≡ false). absurd (not_both none (guarded_told v r.place h talk)))

  pub wrote_ack : (w : Wires) (v i : ℕ) → line_ack P (wrote_turned w v i) (of_var v) ≡ tree_answer (var_width P.vars v) (turned (w.wrote v) i) (w.joint v)
  wrote_ack w v i = ap (λ (f : ℕ → Bool). tree_answer (var_width P.vars v) f (w.joint v))
      (ap (λ (b : Bool). if b then turned (w.wrote v) i else w.wrote v) (self_number v))

  pub joint_ack : (w : Wires) (v k : ℕ) → line_ack P (joint_turned w v k) (of_var v) ≡ tree_answer (var_width P.vars v) (w.wrote v) (turned (w.joint v) k)
  joint_ack w v k = ap (λ (f : ℕ → Bool). tree_answer (var_width P.vars v) (w.wrote v) f)
      (ap (λ (b : Bool). if b then turned (w.joint v) k else w.joint v) (self_number v))

  pub wrote_there : (v i : ℕ) → enabled P script x (wrote_node v i) ≡ true → i < var_width P.vars v
  wrote_there v i on = let a : nat_lt i (var_width P.vars v) ≡ true = present P script fitted r (wrote_node v i) on in grind (arith, nat_tests)

  pub wrote_fires : (v i : ℕ) → enabled P script x (wrote_node v i) ≡ true
      → one_rule_fires (wrote_rule (x.wires.rail (of_var v)) (x.wires.bit v) (x.wires.wrote v) i) ≡ true
  wrote_fires v i on = sym (or_false (one_rule_fires (wrote_rule (x.wires.rail (of_var v)) (x.wires.bit v) (x.wires.wrote v) i))) ∙ on

  pub joint_fires : (v k : ℕ) → enabled P script x (joint_node v k) ≡ true
      → node_moves (var_width P.vars v) (x.wires.wrote v) (x.wires.joint v) k ≡ true
  joint_fires v k on = sym (or_false (node_moves (var_width P.vars v) (x.wires.wrote v) (x.wires.joint v) k)) ∙ on

  pub joint_wide : (v k : ℕ) → enabled P script x (joint_node v k) ≡ true → 1 ≤ var_width P.vars v
  joint_wide v k on = joint_some (var_width P.vars v) (x.wires.wrote v) (x.wires.joint v) k (joint_fires v k on)

  pub wrote_late : (v i : ℕ) (t : Silent P script fitted (rank P) r (wrote_node v i)) → line_ack P x.wires (of_var v) ≡ false
      → line_ack P (wrote_turned x.wires v i) (of_var v) ≡ true → late P x v ≡ 2
  wrote_late v i t low high =
      let n = var_width P.vars v in
      let less = wrote_there v i t.on in
      let w = wrote_turns n (x.wires.bit v) (x.wires.rail (of_var v)) (x.wires.wrote v) (x.wires.joint v) (r.good.block v (some_of less)) i less
      (wrote_fires v i t.on) in
      rises_late v (some_of less) (tree_answer n (turned (x.wires.wrote v) i) (x.wires.joint v)) w.acked low (sym (wrote_ack x.wires v i) ∙ high)
      (unsaid (line_ack P x.wires (of_var v)) ((guarded_shown r.place).says (of_var v)) (line_ack P (wrote_turned x.wires v i) (of_var v)) t.still low high)

  pub joint_late : (v k : ℕ) (t : Silent P script fitted (rank P) r (joint_node v k)) → line_ack P x.wires (of_var v) ≡ false
      → line_ack P (joint_turned x.wires v k) (of_var v) ≡ true → late P x v ≡ 2
  joint_late v k t low high =
      let n = var_width P.vars v in
      let some = joint_wide v k t.on in
      let j = joint_turns n (x.wires.bit v) (x.wires.rail (of_var v)) (x.wires.wrote v) (x.wires.joint v) (r.good.block v some) k (joint_fires v k t.on) in
      rises_late v some (tree_answer n (x.wires.wrote v) (turned (x.wires.joint v) k)) j.acked low (sym (joint_ack x.wires v k) ∙ high)
      (unsaid (line_ack P x.wires (of_var v)) ((guarded_shown r.place).says (of_var v)) (line_ack P (joint_turned x.wires v k) (of_var v)) t.still low high)

  -- ---- own nodes behind it

  -- whether an own node moves, where all own nodes are as they were
  moved : (now : Seen) (q : GuardedSpot P.body) → (one_rule_fires (guarded_rule P.body now x.go x.root q) || false) ≡ true
      → guarded_moves now r.place q ≡ true
  moved now q z =
      sym (ap (λ (b : Bool). one_rule_fires (guarded_rule P.body now b x.root q)) r.go
      ∙ (ap (λ (g : QElementCells (Cells P.body)). one_rule_fires (guarded_rule P.body now (asks r.mode) g q)) r.same ∙ guarded_can_is now r.place q))
      ∙ (sym (or_false (one_rule_fires (guarded_rule P.body now x.go x.root q))) ∙ z)

  pub own_lower : {R : ℕ} (n : Node P.body) (on : enabled P script x n ≡ true) → (cells_moved P x n).root ≡ x.root → (cells_moved P x n).go ≡ x.go
      → ((q : GuardedSpot P.body) → n ≢ own_node q)
      → ((q : GuardedSpot P.body) → guarded_moves (wires_seen P (wires_after x.wires n)) r.place q ≡ true
      → Could (guarded_moves (wires_seen P x.wires) r.place q) (guarded_trail P (counts P) 0 0 P.body (guarded_cells r.place) q) R)
      → (q : GuardedSpot P.body) → Silent P script fitted (rank P) (next_reached P script fitted r n on) (own_node q)
      → LowerThan P script fitted r R n (own_node q)
  own_lower {R = R} n on root go ne led q t = by (led q z)
    where
      now : Seen
      now = wires_seen P (wires_after x.wires n)

      z : guarded_moves now r.place q ≡ true
      z = moved now q (ap (λ (b : Bool). one_rule_fires (guarded_rule P.body now b x.root q) || false) (sym go)
          ∙ (ap (λ (g : QElementCells (Cells P.body)). one_rule_fires (guarded_rule P.body now (cells_moved P x n).go g q) || false) (sym root) ∙ t.on))

      still : guarded_steps r.place q ≡ false
      still =
          let next = next_reached P script fitted r n on in
          cases (guarded_steps r.place q)
          (λ (h : guarded_steps r.place q ≡ true).
          let low = guarded_was_low r.place q h in
          absurd (not_both t.still (guarded_is_step now next.place q (may P script next (own_node q) t.on) low.0
          (ap (λ (y : QElementCells (Cells P.body)). guarded_value P.body y q) (sym next.same ∙ (root ∙ r.same)) ∙ low.1))))
          (λ (h : guarded_steps r.place q ≡ false). h)

      same : rank P (cells_moved P x n) (own_node q) ≡ rank P x (own_node q)
      same = ap (λ (y : QElementCells (Cells P.body)). guarded_trail P (counts P) 0 0 P.body y q) root

      at_place : rank P x (own_node q) ≡ guarded_trail P (counts P) 0 0 P.body (guarded_cells r.place) q
      at_place = ap (λ (y : QElementCells (Cells P.body)). guarded_trail P (counts P) 0 0 P.body y q) r.same

      by : Could (guarded_moves (wires_seen P x.wires) r.place q) (guarded_trail P (counts P) 0 0 P.body (guarded_cells r.place) q) R
          → LowerThan P script fitted r R n (own_node q)
      by (inl before) = kept n (own_node q) (ne q) (enabled_is P script r (own_node q) ∙ before) still same
      by (inr less) = inl (omega (arith, less, same, at_place))

  module _ (covers : Covers P (counts P) 2 1 P.body) where
    -- a rail of a variable's bits moves: no gate that is asked reads it
    bit_led : (v i : ℕ) (one : Bool) → enabled P script x (bit_node v i one) ≡ true → (q : GuardedSpot P.body)
        → guarded_moves (wires_seen P (bit_turned x.wires v i one)) r.place q ≡ true → guarded_moves (wires_seen P x.wires) r.place q ≡ true
    bit_led v i one on q z = back.keeps q z
      where
        now : Wires
        now = bit_turned x.wires v i one

        fires : one_rule_fires (bit_rule (x.wires.rail (of_var v)) (x.wires.bit v) i one) ≡ true
        fires = sym (or_false (one_rule_fires (bit_rule (x.wires.rail (of_var v)) (x.wires.bit v) i one))) ∙ on

        less : i < var_width P.vars v
        less = let a : nat_lt i (var_width P.vars v) ≡ true = present P script fitted r (bit_node v i one) on in grind (arith, nat_tests)

        writes : (not (line_ack P x.wires (of_var v)) && (x.wires.rail (of_var v) i true || x.wires.rail (of_var v) i false)) ≡ true
        writes = moves_written one (now_at (x.wires.bit v) (x.wires.rail (of_var v)) (x.wires.wrote v) (line_ack P x.wires (of_var v)) i)
            ((r.good.block v (some_of less)).bits i less)
            (sym (bit_can (x.wires.bit v) (x.wires.rail (of_var v)) (x.wires.wrote v) (line_ack P x.wires (of_var v)) i one) ∙ fires)

        low : line_ack P x.wires (of_var v) ≡ false
        low = not_true (line_ack P x.wires (of_var v)) (fst_true (not (line_ack P x.wires (of_var v))) _ writes)

        there : (side : Bool) → x.wires.rail (of_var v) i side ≡ true → guarded_writing (line_ack P x.wires) r.place v ≡ true
        there side h = guarded_writing_there (wires_seen P x.wires) r.place r.good.fits v i side low (r.good.rising (of_var v) i side refl low h)

        unread : (guarded_shown r.place).read v ≡ false
        unread = guarded_writing_unread P (line_ack P x.wires) r.place r.good.meets v
            (either (x.wires.rail (of_var v) i true) (x.wires.rail (of_var v) i false) (snd_true (not (line_ack P x.wires (of_var v))) _ writes) (there true)
            (there false))

        acks : (k : Line) → line_ack P now k ≡ line_ack P x.wires k
        acks (of_channel c) = refl
        acks (of_var y) = refl

        far : (y : ℕ) → (y == v) ≡ false → now.bit y ≡ x.wires.bit y
        far y h = ap (λ (b : Bool). if b then rails_turned (x.wires.bit v) i one else x.wires.bit y) h

        on_it : GuardedChanged P.body r.mode (wires_seen P x.wires) (wires_seen P now) r.place
        on_it = guarded_changed P (wires_seen P x.wires) (wires_seen P now) (Unread v) (unread_down v)
            (bit_leaves P (wires_seen P x.wires) (wires_seen P now) v refl acks (λ c h. refl) far) r.place r.good.meets (record { read = unread }) r.good.fits

        back : GuardedChanged P.body r.mode (wires_seen P now) (wires_seen P x.wires) r.place
        back = guarded_changed P (wires_seen P now) (wires_seen P x.wires) (Unread v) (unread_down v)
            (bit_leaves P (wires_seen P now) (wires_seen P x.wires) v refl (λ k. sym (acks k)) (λ c h. refl) (λ y h. sym (far y h))) r.place r.good.meets
            (record { read = unread }) on_it.fits

    pub bit_own : (v i : ℕ) (one : Bool) (s : Silent P script fitted (rank P) r (bit_node v i one)) (q : GuardedSpot P.body)
        → Silent P script fitted (rank P) (next_reached P script fitted r (bit_node v i one) s.on) (own_node q) → Lower (bit_node v i one) (own_node q)
    bit_own v i one s = own_lower (bit_node v i one) s.on refl refl (λ q e. cc e) (λ q z. inl (bit_led v i one s.on q z))

    -- the acknowledge of a channel falls
    pub ack_own : (c : ℕ) (s : Silent P script fitted (rank P) r (ack_node c)) (q : GuardedSpot P.body)
        → Silent P script fitted (rank P) (next_reached P script fitted r (ack_node c) s.on) (own_node q) → Lower (ack_node c) (own_node q)
    ack_own c s = own_lower (ack_node c) s.on refl refl (λ q e. cc e)
        (λ q z. guarded_far P (counts P) (wires_seen P x.wires) (wires_seen P now) (rank P x (ack_node c)) (listens_on c) (Unit {0}) Any any_down refl
        (falls_far P (counts P) (wires_seen P x.wires) (wires_seen P now) (rank P x (ack_node c)) (of_channel c) low far refl room (listens_on c)
        (Unit {0}) Any) 0 0 r.place r.good.meets covers tt (λ y. tt) q z)
      where
        now : Wires
        now = ack_turned x.wires c

        twice : (b : Bool) → not b ≡ false → b ≡ true
        twice true e = refl
        twice false e = absurd (cc e)

        high : x.wires.ack c ≡ true
        high = twice (x.wires.ack c) s.still

        low : line_ack P now (of_channel c) ≡ false
        low = ap (λ (b : Bool). if b then not (x.wires.ack c) else x.wires.ack c) (self_number c) ∙ ap not high

        far : (k : Line) → same_line k (of_channel c) ≡ false → line_ack P now k ≡ line_ack P x.wires k
        far (of_channel d) e = acked_far x.wires c d e
        far (of_var y) e = refl

        room : (counts P).acked c ≤ rank P x (ack_node c)
        room = let e : rank P x (ack_node c) ≡ (counts P).acked c = ap (λ (b : Bool). if b then (counts P).acked c else 0) high in omega (arith, e)

    -- a rail of a channel moves
    pub rail_own : (c i : ℕ) (one : Bool) (s : Silent P script fitted (rank P) r (rail_node (of_channel c) i one)) (q : GuardedSpot P.body)
        → Silent P script fitted (rank P) (next_reached P script fitted r (rail_node (of_channel c) i one) s.on) (own_node q)
        → Lower (rail_node (of_channel c) i one) (own_node q)
    rail_own c i one s = own_lower (rail_node (of_channel c) i one) s.on refl refl (λ q e. cc e)
        (λ q z. cases (x.wires.rail (of_channel c) i one)
        (λ (h : x.wires.rail (of_channel c) i one ≡ true).
        guarded_far P (counts P) (wires_seen P x.wires) (wires_seen P now) R (listens_on c) (Unit {0}) Any any_down refl
        (rail_falls_far P (counts P) (wires_seen P x.wires) (wires_seen P now) R c i one acks turns h (falls h) (listens_on c) (Unit {0}) Any)
        0 0 r.place r.good.meets covers tt (λ y. tt) q z)
        (λ (h : x.wires.rail (of_channel c) i one ≡ false).
        guarded_far P (counts P) (wires_seen P x.wires) (wires_seen P now) R (listens_on c)
        (is_heard (kind_at P.channels c) ≡ true → 6 + tree_height (channel_width P.channels c) ≤ R) Any any_down refl
        (rail_rises_far P (counts P) (wires_seen P x.wires) (wires_seen P now) R c i one acks turns h Any)
        0 0 r.place r.good.meets covers tt (λ y. rises h (asked_is P script r (listens_on c) ∙ y)) q z))
      where
        now : Wires
        now = rail_turned x.wires (of_channel c) i one

        R : ℕ
        R = rank P x (rail_node (of_channel c) i one)

        acks : (k : Line) → line_ack P now k ≡ line_ack P x.wires k
        acks k = rail_acks P x.wires (of_channel c) i one k

        turns : (d j : ℕ) (b : Bool) → (now.rail (of_channel d) j b ≡ x.wires.rail (of_channel d) j b)
            ⊎ ((d ≡ c) × (now.rail (of_channel d) j b ≡ not (x.wires.rail (of_channel c) i one)))
        turns d j b = by (turned_at x.wires (of_channel c) i one (of_channel d) j b)
          where
            by : Turned x.wires (of_channel c) i one (of_channel d) j b → (now.rail (of_channel d) j b ≡ x.wires.rail (of_channel d) j b)
                ⊎ ((d ≡ c) × (now.rail (of_channel d) j b ≡ not (x.wires.rail (of_channel c) i one)))
            by (this e f h t) = inr (same_channel d c e, t)
            by (that t) = inl t

        falls : x.wires.rail (of_channel c) i one ≡ true → is_heard (kind_at P.channels c) ≡ true → (counts P).taken c ≤ R
        falls h heard = by (kind_at P.channels c) refl heard
          where
            by : (k : Kind) → kind_at P.channels c ≡ k → is_heard k ≡ true → (counts P).taken c ≤ R
            by k e heard =
                let w : R ≡ rail_falls P k ((counts P).acked c) ((counts P).taken c) =
                ap (λ (b : Bool). if b then rail_falls P (kind_at P.channels c) ((counts P).acked c) ((counts P).taken c)
                else rail_rises P (kind_at P.channels c) (tree_height (channel_width P.channels c))
                (is_asked (listens_on c) P.body x.root.child x.root.inner)) h
                ∙ ap (λ (y : Kind). rail_falls P y ((counts P).acked c) ((counts P).taken c)) e in
                here k heard w
              where
                here : (k : Kind) → is_heard k ≡ true → R ≡ rail_falls P k ((counts P).acked c) ((counts P).taken c) → (counts P).taken c ≤ R
                here Out heard w = absurd (cc heard)
                here In heard w = omega (arith, w)
                here Chan heard w = omega (arith, w)

        rises : x.wires.rail (of_channel c) i one ≡ false → is_asked (listens_on c) P.body x.root.child x.root.inner ≡ true
            → is_heard (kind_at P.channels c) ≡ true → 6 + tree_height (channel_width P.channels c) ≤ R
        rises h asked heard = here (kind_at P.channels c) heard w
          where
            w : R ≡ rail_rises P (kind_at P.channels c) (tree_height (channel_width P.channels c)) true
            w = ap (λ (b : Bool). if b then rail_falls P (kind_at P.channels c) ((counts P).acked c) ((counts P).taken c)
                else rail_rises P (kind_at P.channels c) (tree_height (channel_width P.channels c))
                (is_asked (listens_on c) P.body x.root.child x.root.inner)) h
                ∙ ap (λ (b : Bool). rail_rises P (kind_at P.channels c) (tree_height (channel_width P.channels c)) b) asked

            here : (k : Kind) → is_heard k ≡ true → R ≡ rail_rises P k (tree_height (channel_width P.channels c)) true
                → 6 + tree_height (channel_width P.channels c) ≤ R
            here Out heard w = absurd (cc heard)
            here In heard w = omega (arith, w)
            here Chan heard w = omega (arith, w)

    -- a rail moves by which a variable is written, which no statement sees
    pub write_own : (v i : ℕ) (one : Bool) (s : Silent P script fitted (rank P) r (rail_node (of_var v) i one)) (q : GuardedSpot P.body)
        → Silent P script fitted (rank P) (next_reached P script fitted r (rail_node (of_var v) i one) s.on) (own_node q)
        → Lower (rail_node (of_var v) i one) (own_node q)
    write_own v i one s = own_lower (rail_node (of_var v) i one) s.on refl refl (λ q e. cc e)
        (λ q z. guarded_far P (counts P) (wires_seen P x.wires) (wires_seen P now) R (listens_on v) (Unit {0}) Any any_down refl
        (still_far P (counts P) (wires_seen P x.wires) (wires_seen P now) R (rail_acks P x.wires (of_var v) i one) (λ c j b. refl) (listens_on v)
        (Unit {0}) Any) 0 0 r.place r.good.meets covers tt (λ y. tt) q z)
      where
        now : Wires
        now = rail_turned x.wires (of_var v) i one

        R : ℕ
        R = rank P x (rail_node (of_var v) i one)

    -- a node of a variable's block moves, by which its acknowledge may turn over
    module _ (v : ℕ) (now : Wires) (R : ℕ) (rails : now.rail ≡ x.wires.rail) (bits : now.bit ≡ x.wires.bit)
        (acks : (c : ℕ) → now.ack c ≡ x.wires.ack c)
        (others : (y : ℕ) → (y == v) ≡ false → line_ack P now (of_var y) ≡ line_ack P x.wires (of_var y))
        (falls : line_ack P x.wires (of_var v) ≡ true → line_ack P now (of_var v) ≡ false → (counts P).written v ≤ R)
        (rises : line_ack P x.wires (of_var v) ≡ false → line_ack P now (of_var v) ≡ true → (0 < R) × ((guarded_shown r.place).says (of_var v) ≡ false)) where
      far : (k : Line) → same_line k (of_var v) ≡ false → line_ack P now k ≡ line_ack P x.wires k
      far (of_channel c) e = acks c
      far (of_var y) e = others y e

      all_same : line_ack P now (of_var v) ≡ line_ack P x.wires (of_var v) → (k : Line) → line_ack P now k ≡ line_ack P x.wires k
      all_same same (of_channel c) = acks c
      all_same same (of_var y) = cases (y == v) (λ (h : (y == v) ≡ true).
          ap (λ u. line_ack P now (of_var u)) (same_number y v h) ∙ (same ∙ ap (λ u. line_ack P x.wires (of_var u)) (sym (same_number y v h))))
          (λ (h : (y == v) ≡ false). others y h)

      block_led : (q : GuardedSpot P.body) → guarded_moves (wires_seen P now) r.place q ≡ true
          → Could (guarded_moves (wires_seen P x.wires) r.place q) (guarded_trail P (counts P) 0 0 P.body (guarded_cells r.place) q) R
      block_led q z = by (line_ack P x.wires (of_var v)) (line_ack P now (of_var v)) refl refl
        where
          stays : line_ack P now (of_var v) ≡ line_ack P x.wires (of_var v)
              → Could (guarded_moves (wires_seen P x.wires) r.place q) (guarded_trail P (counts P) 0 0 P.body (guarded_cells r.place) q) R
          stays same =
              guarded_far P (counts P) (wires_seen P x.wires) (wires_seen P now) R (listens_on v) (Unit {0}) Any any_down bits
              (still_far P (counts P) (wires_seen P x.wires) (wires_seen P now) R (all_same same)
              (λ c j b. ap (λ (r : Line → Rails). r (of_channel c) j b) rails) (listens_on v) (Unit {0}) Any)
              0 0 r.place r.good.meets covers tt (λ y. tt) q z

          by : (a b : Bool) → line_ack P x.wires (of_var v) ≡ a → line_ack P now (of_var v) ≡ b
              → Could (guarded_moves (wires_seen P x.wires) r.place q) (guarded_trail P (counts P) 0 0 P.body (guarded_cells r.place) q) R
          by true true e f = stays (f ∙ sym e)
          by false false e f = stays (f ∙ sym e)
          by true false e f =
              guarded_far P (counts P) (wires_seen P x.wires) (wires_seen P now) R (listens_on v) (Unit {0}) Any any_down bits
              (falls_far P (counts P) (wires_seen P x.wires) (wires_seen P now) R (of_var v) f far rails (falls e f) (listens_on v) (Unit {0}) Any)
              0 0 r.place r.good.meets covers tt (λ y. tt) q z
          by false true e f =
              let w = rises e f in
              guarded_far P (counts P) (wires_seen P x.wires) (wires_seen P now) R (listens_on v) (Unit {0}) (Unsaid v) (unsaid_down v) bits
              (rises_far P (counts P) (wires_seen P x.wires) (wires_seen P now) R v f far rails w.0 (listens_on v) (Unit {0}))
              0 0 r.place r.good.meets covers (record { says = w.1 }) (λ y. tt) q z

    pub wrote_own : (v i : ℕ) (s : Silent P script fitted (rank P) r (wrote_node v i)) (q : GuardedSpot P.body)
        → Silent P script fitted (rank P) (next_reached P script fitted r (wrote_node v i) s.on) (own_node q) → Lower (wrote_node v i) (own_node q)
    wrote_own v i s = own_lower (wrote_node v i) s.on refl refl (λ q e. cc e)
        (block_led v now (rank P x (wrote_node v i)) refl refl (λ c. refl) others falls rises)
      where
        now : Wires
        now = wrote_turned x.wires v i

        others : (y : ℕ) → (y == v) ≡ false → line_ack P now (of_var y) ≡ line_ack P x.wires (of_var y)
        others y h = ap (λ (f : ℕ → Bool). tree_answer (var_width P.vars y) f (x.wires.joint y))
            (ap (λ (b : Bool). if b then turned (x.wires.wrote v) i else x.wires.wrote y) h)

        less : i < var_width P.vars v
        less = wrote_there v i s.on

        as_top : x.wires.wrote v i ≡ line_ack P x.wires (of_var v)
        as_top = written_as_acknowledged (now_at (x.wires.bit v) (x.wires.rail (of_var v)) (x.wires.wrote v) (line_ack P x.wires (of_var v)) i)
            ((r.good.block v (some_of less)).bits i less) (wrote_fires v i s.on)

        rank_is : {b : Bool} → line_ack P x.wires (of_var v) ≡ b
            → rank P x (wrote_node v i) ≡ wrote_trail (var_height P v) ((counts P).written v) (late P x v) b
        rank_is e = ap (wrote_trail (var_height P v) ((counts P).written v) (late P x v)) (as_top ∙ e)

        falls : line_ack P x.wires (of_var v) ≡ true → line_ack P now (of_var v) ≡ false → (counts P).written v ≤ rank P x (wrote_node v i)
        falls e f = let w = rank_is e in omega (arith, w)

        rises : line_ack P x.wires (of_var v) ≡ false → line_ack P now (of_var v) ≡ true
            → (0 < rank P x (wrote_node v i)) × ((guarded_shown r.place).says (of_var v) ≡ false)
        rises e f = (
          (let w = rank_is e in let l = wrote_late v i s e f in omega (arith, w, l)),
          unsaid (line_ack P x.wires (of_var v)) ((guarded_shown r.place).says (of_var v)) (line_ack P now (of_var v)) s.still e f,
        )

    pub joint_own : (v k : ℕ) (s : Silent P script fitted (rank P) r (joint_node v k)) (q : GuardedSpot P.body)
        → Silent P script fitted (rank P) (next_reached P script fitted r (joint_node v k) s.on) (own_node q) → Lower (joint_node v k) (own_node q)
    joint_own v k s = own_lower (joint_node v k) s.on refl refl (λ q e. cc e)
        (block_led v now (rank P x (joint_node v k)) refl refl (λ c. refl) others falls rises)
      where
        now : Wires
        now = joint_turned x.wires v k

        others : (y : ℕ) → (y == v) ≡ false → line_ack P now (of_var y) ≡ line_ack P x.wires (of_var y)
        others y h = ap (λ (f : ℕ → Bool). tree_answer (var_width P.vars y) (x.wires.wrote y) f)
            (ap (λ (b : Bool). if b then turned (x.wires.joint v) k else x.wires.joint y) h)

        as_top : x.wires.joint v k ≡ line_ack P x.wires (of_var v)
        as_top =
            let b = r.good.block v (joint_wide v k s.on) in
            moves_from_top (var_width P.vars v) b.known (x.wires.wrote v) (x.wires.joint v) k b.tree (joint_fires v k s.on)

        rank_is : {b : Bool} → line_ack P x.wires (of_var v) ≡ b → rank P x (joint_node v k)
            ≡ joint_trail (var_height P v) (joint_level (var_width P.vars v) k) ((counts P).written v) (late P x v) b
        rank_is e = ap (joint_trail (var_height P v) (joint_level (var_width P.vars v) k) ((counts P).written v) (late P x v)) (as_top ∙ e)

        falls : line_ack P x.wires (of_var v) ≡ true → line_ack P now (of_var v) ≡ false → (counts P).written v ≤ rank P x (joint_node v k)
        falls e f = let w = rank_is e in omega (arith, w)

        rises : line_ack P x.wires (of_var v) ≡ false → line_ack P now (of_var v) ≡ true
            → (0 < rank P x (joint_node v k)) × ((guarded_shown r.place).says (of_var v) ≡ false)
        rises e f = (
          (let w = rank_is e in let l = joint_late v k s e f in omega (arith, w, l)),
          unsaid (line_ack P x.wires (of_var v)) ((guarded_shown r.place).says (of_var v)) (line_ack P now (of_var v)) s.still e f,
        )
