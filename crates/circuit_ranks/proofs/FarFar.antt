-- What a silent move outside of all statements lets other nodes outside do in a state that is reached: none begins but of a lower rank.
--
-- P: the program; r: how the state x is reached; n, m: nodes; v, u: variables; c, d: channels; i, j, k: bits, or nodes of a tree; s, t: that a move
-- is silent; h: that two numbers are the same, or not.
use Rattle.std.proofs.Common.{◌≡◌, ◌≢◌, ℕ, suc, ◌+◌, ◌-◌, ◌<◌, ◌≤◌, ◌==◌, Bool, true, false, List, refl, sym, ap, ◌∙◌, subst, inl, inr, arith}
use Rattle.std.specs.Prelude.{◌⊎◌, not, ◌&&◌, ◌||◌, if◌then◌else◌, slice_get, Option}
use Rattle.std.proofs.lemmas.Bool.{cases_eq}
use Rattle.chp_base.specs.declared.channel.Kind.{Kind}
use Rattle.chp_base.specs.declared.channel.Kind.TheVariants.{In, Out, Chan}
use Rattle.env_script.specs.Scripts.{OfferValue, gives, offer_at}
use Rattle.env_script.specs.Runs.{completed}
use Rattle.prs_core.specs.Moves.{guard_holds}
use Rattle.prs_core.specs.Parts.{turned}
use Rattle.prs_core.specs.Turning.{turned_here, turned_apart}
use Rattle.width_check.specs.Processes.{Process, skipping, assigning, sending, receiving, in_turn, side_by_side, choosing, repeating, Processes, no_members, and_member, member_count, Choices, no_choices, and_choice, TypedProgram}
use Rattle.width_check.specs.Typing.{kind_at, channel_width, var_width}
use Rattle.chp_meaning.specs.Steps.{Configuration}
use Rattle.function_blocks.specs.Rails.{Rails, one_rule_fires, same_bit, no_rule, turns}
use Rattle.function_blocks.proofs.Tables.{or_false}
use Rattle.circuit_places.specs.Lines.{Line, of_channel, of_var}
use Rattle.circuit_places.specs.Circuit.{GuardedSpot, rails_turned, tree_value, tree_node, tree_answer, tree_rule, site_rails}
use Rattle.circuit_places.specs.Whole.{Whole, Wires, wires_seen, line_ack, is_sent, is_heard, is_merged, merged, bit_rule, wrote_rule, brings, drives, offers, answers, Node, go_node, own_node, rail_node, ack_node, bit_node, wrote_node, joint_node, rule_in, enabled, ack_turned, rail_turned, bit_turned, wrote_turned, joint_turned, cells_moved}
use Rattle.circuit_places.proofs.RailLemmas.{fst_true, snd_true, both_true, not_true, same_value}
use Rattle.circuit_places.proofs.LineNames.{self_number, same_number, self_line}
use Rattle.circuit_places.proofs.Flow.{cases, not_both, or_left, or_right}
use Rattle.circuit_places.proofs.Talks.{either, guarded_listens_receives}
use Rattle.circuit_places.proofs.Meets.{receives, each_receives, choice_receives}
use Rattle.circuit_places.proofs.Sites.{merged_apart}
use Rattle.circuit_places.proofs.Trees.{node_moves}
use Rattle.circuit_places.proofs.PortLeaf.{turned_there, turned_else}
use Rattle.circuit_places.proofs.Places.{guarded_shown}
use Rattle.circuit_places.proofs.LineMoves.{Turned, this, that, turned_at, gives_of, drives_up}
use Rattle.circuit_places.proofs.AckMoves.{same_answers, same_offers, acked_near}
use Rattle.circuit_places.proofs.BlockMoves.{some_of}
use Rattle.circuit_places.proofs.System.{heard_turns, Fitted, takes_of}
use Rattle.circuit_places.proofs.Quiet.{is_step}
use Rattle.circuit_places.proofs.Carry.{Reached, may, next_reached, safe}
use Rattle.round_time.specs.Longest.{guards_depth, tree_height, var_height, turn_first}
use Rattle.circuit_time.proofs.Levels.{Silent}
use Rattle.circuit_time.proofs.Trails.{Clearing, joint_level}
use Rattle.circuit_time.proofs.Joints.{own_level, Above, joint_sees}
use Rattle.circuit_time.proofs.OwnTrails.{Covers, TurnCovers, EachCovers, ChoiceCovers}
use Rattle.circuit_pace.proofs.SideTrails.{node_other, same_fires, both_ways}
use Rattle.circuit_pace.proofs.BlockTrails.{rail_trail, bit_trail, wrote_trail, joint_trail, rail_bit, rail_wrote, bit_bit}
use Rattle.circuit_pace.proofs.Counts.{counts}
use Rattle.circuit_ranks.proofs.Ranks.{listens_on, is_asked, late, rail_falls, rail_rises, rank}
use Rattle.circuit_ranks.proofs.Underway.{listened_takes}
use Rattle.circuit_ranks.proofs.TopJoints.{top_node, top_answer, one_answer, bit_wrote_top, wrote_joint_top, joint_joint_top, leaf_over, node_over}
use Rattle.circuit_ranks.proofs.FarStates.{Lower, kept, still_wrote, still_joint, wrote_ack, joint_ack, wrote_there, wrote_fires, joint_fires, joint_wide, wrote_late, joint_late, bit_own, ack_own, rail_own, write_own, wrote_own, joint_own}
use Rattle.circuit_ranks.proofs.FarKept.{apart_number, ack_keeps, wrote_keeps, joint_keeps}

never_own : (b : Bool) → b ≡ not b → ⊥
never_own true e = cc e
never_own false e = cc e

in_kind : (k : Kind) → is_sent k ≡ false → k ≡ In
in_kind In e = refl
in_kind Out e = absurd (cc e)
in_kind Chan e = absurd (cc e)

out_kind : (k : Kind) → is_heard k ≡ false → k ≡ Out
out_kind Out e = refl
out_kind In e = absurd (cc e)
out_kind Chan e = absurd (cc e)

-- no step, where the acknowledge doesn't rise
no_step : (a b c : Bool) → (a ≡ false → c ≡ true → ⊥) → (not a && (b && c)) ≡ false
no_step true b c f = refl
no_step false true true f = absurd (f refl refl)
no_step false true false f = refl
no_step false false c f = refl

-- where a channel is received on something follows the fall of its acknowledge
mutual
  hears_counted : (P : TypedProgram) (K : Clearing) (c held down : ℕ) (p : Process) → receives p c ≡ true → Covers P K held down p → 1 ≤ K.acked c
  hears_counted P K c held down (receiving d at x to) e w =
      let a = w.0 in let z : K.acked d ≡ K.acked c = ap K.acked (same_number d c e) in omega (arith, a, z)
  hears_counted P K c held down (in_turn ms) e w = turn_counted P K c held down ms e w
  hears_counted P K c held down (side_by_side ms) e w =
      each_counted P K c (suc (tree_height (member_count ms) + (held + (2 + tree_height (member_count ms) + down)))) ms e w
  hears_counted P K c held down (repeating p) e w = hears_counted P K c 1 0 p e w
  hears_counted P K c held down (choosing false cs) e w = choice_counted P K c (held + 3) (1 + down) cs e w.1
  hears_counted P K c held down (choosing true cs) e w = choice_counted P K c 4 (3 + guards_depth cs) cs e w.1
  hears_counted P K c held down skipping e w = absurd (cc e)
  hears_counted P K c held down (assigning x at d) e w = absurd (cc e)
  hears_counted P K c held down (sending k at d) e w = absurd (cc e)

  turn_counted : (P : TypedProgram) (K : Clearing) (c held down : ℕ) (ms : Processes) → each_receives ms c ≡ true → TurnCovers P K held down ms → 1 ≤ K.acked c
  turn_counted P K c held down no_members e w = absurd (cc e)
  turn_counted P K c held down (and_member p no_members) e w =
      hears_counted P K c held down p (sym (or_false (receives p c)) ∙ e) w
  turn_counted P K c held down (and_member p (and_member q more)) e w =
      either (receives p c) (each_receives (and_member q more) c) e
      (λ y. hears_counted P K c 2 (suc (turn_first P (and_member q more) - 1)) p y w.0)
      (λ y. turn_counted P K c (held + 2) down (and_member q more) y w.1)

  each_counted : (P : TypedProgram) (K : Clearing) (c down : ℕ) (ms : Processes) → each_receives ms c ≡ true → EachCovers P K down ms → 1 ≤ K.acked c
  each_counted P K c down no_members e w = absurd (cc e)
  each_counted P K c down (and_member p more) e w = either (receives p c) (each_receives more c) e (λ y. hears_counted P K c 2 down p y w.0)
      (λ y. each_counted P K c down more y w.1)

  choice_counted : (P : TypedProgram) (K : Clearing) (c held down : ℕ) (cs : Choices) → choice_receives cs c ≡ true → ChoiceCovers P K held down cs
      → 1 ≤ K.acked c
  choice_counted P K c held down no_choices e w = absurd (cc e)
  choice_counted P K c held down (and_choice g p more) e w = either (receives p c) (choice_receives more c) e (λ y. hears_counted P K c held down p y w.0)
      (λ y. choice_counted P K c held down more y w.1)

module _ (P : TypedProgram) (script : List OfferValue) (fitted : Fitted P script) {from : Configuration} {moves : ℕ} {x : Whole P.body}
    (r : Reached P script from moves x) (covers : Covers P (counts P) 2 1 P.body) where
  abbrev w : Wires
  w = x.wires

  -- a silent move, and one behind it
  abbrev First : Node P.body → Type 0
  First n = Silent P script fitted (rank P) r n

  abbrev Then : (n : Node P.body) → First n → Node P.body → Type 0
  Then n s m = Silent P script fitted (rank P) (next_reached P script fitted r n s.on) m

  abbrev Less : (n m : Node P.body) → Type 0
  Less n m = Lower P script fitted r n m

  abbrev done : ℕ → ℕ
  done c = completed x.histories c

  -- ---- an acknowledge falls

  module _ (c : ℕ) (s : First (ack_node c)) where
    twice : (b : Bool) → not b ≡ false → b ≡ true
    twice true e = refl
    twice false e = absurd (cc e)

    ack_high : w.ack c ≡ true
    ack_high = twice (w.ack c) s.still

    -- the environment brings a value where no receive is asked that waits for it
    in_rail : (i : ℕ) (one : Bool) → offers (channel_width P.channels c) (ack_turned w c) c (completed (cells_moved P x (ack_node c)).histories c)
        (offer_at script c) i one ≡ true → rank P (cells_moved P x (ack_node c)) (rail_node (of_channel c) i one) < rank P x (ack_node c)
    in_rail i one z = omega (arith, after, before, some)
      where
        now : Wires
        now = ack_turned w c

        gives_all : (values : List ℕ) × (offer_at script c ≡ gives values)
        gives_all = gives_of (channel_width P.channels c) now c (completed (cells_moved P x (ack_node c)).histories c) (offer_at script c) i one z

        kinds : (is_merged P (of_channel c) ≡ false) × (is_heard (kind_at P.channels c) ≡ true)
        kinds = fitted.brought c gives_all.0 gives_all.1

        ups : (brings (channel_width P.channels c) (slice_get gives_all.0 (completed (cells_moved P x (ack_node c)).histories c)) i one ≡ true)
            × (w.rail (of_channel c) i true ≡ false) × (w.rail (of_channel c) i false ≡ false)
        ups = drives_up (channel_width P.channels c) now c (slice_get gives_all.0 (completed (cells_moved P x (ack_node c)).histories c)) i one
            (acked_near w c c (self_number c) ∙ ap not ack_high)
            (sym (ap (λ y. offers (channel_width P.channels c) now c (completed (cells_moved P x (ack_node c)).histories c) y i one) gives_all.1) ∙ z)

        low : (b : Bool) → w.rail (of_channel c) i true ≡ false → w.rail (of_channel c) i false ≡ false → w.rail (of_channel c) i b ≡ false
        low true t f = t
        low false t f = f

        untaken : (guarded_shown r.place).take c ≡ false
        untaken = either (heard_turns P w c ((guarded_shown r.place).take c))
            (answers (channel_width P.channels c) w c (done c) (offer_at script c)) (may P script r (ack_node c) s.on)
            (λ y. not_true ((guarded_shown r.place).take c)
            (sym (ap (λ b. turns b ((guarded_shown r.place).take c) (not ((guarded_shown r.place).take c))) ack_high)
            ∙ snd_true (is_heard (kind_at P.channels c)) (turns (w.ack c) ((guarded_shown r.place).take c) (not ((guarded_shown r.place).take c))) y))
            (λ y. let t = takes_of (channel_width P.channels c) w c (done c) (offer_at script c) y in
            absurd (not_both (fitted.out c t.count t.is).1 kinds.1))

        unasked : is_asked (listens_on c) P.body x.root.child x.root.inner ≡ false
        unasked = cases (is_asked (listens_on c) P.body x.root.child x.root.inner)
            (λ (h : is_asked (listens_on c) P.body x.root.child x.root.inner ≡ true).
            absurd (not_both untaken (listened_takes c (wires_seen P w) r.place r.good.fits ack_high
            (sym (ap (λ y. is_asked (listens_on c) P.body y.child y.inner) r.same) ∙ h))))
            (λ (h : is_asked (listens_on c) P.body x.root.child x.root.inner ≡ false). h)

        some : 1 ≤ (counts P).acked c
        some = hears_counted P (counts P) c 2 1 P.body (guarded_listens_receives r.place c (r.good.listen c kinds.1 ack_high)) covers

        before : rank P x (ack_node c) ≡ (counts P).acked c
        before = ap (λ (b : Bool). if b then (counts P).acked c else 0) ack_high

        after : rank P (cells_moved P x (ack_node c)) (rail_node (of_channel c) i one) ≡ 0
        after =
            ap (λ (b : Bool). if b then rail_falls P (kind_at P.channels c) ((counts P).acked c) ((counts P).taken c)
            else rail_rises P (kind_at P.channels c) (tree_height (channel_width P.channels c)) (is_asked (listens_on c) P.body x.root.child x.root.inner))
            (low one ups.1 ups.2)
            ∙ (ap (λ (k : Kind). rail_rises P k (tree_height (channel_width P.channels c)) (is_asked (listens_on c) P.body x.root.child x.root.inner))
            (in_kind (kind_at P.channels c) kinds.0)
            ∙ ap (λ (b : Bool). rail_rises P In (tree_height (channel_width P.channels c)) b) unasked)

    ack_lower : (m : Node P.body) → Then (ack_node c) s m → Less (ack_node c) m
    ack_lower (own_node q) t = ack_own P script fitted r covers c s q t
    ack_lower (rail_node (of_channel d) i one) t = cases (d == c)
        (λ (h : (d == c) ≡ true).
        either (one_rule_fires (rule_in P x (rail_node (of_channel d) i one)))
        (offers (channel_width P.channels d) (ack_turned w c) d (completed (cells_moved P x (ack_node c)).histories d) (offer_at script d) i one) t.on
        (λ z. kept P script fitted r (ack_node c) (rail_node (of_channel d) i one) (λ e. cc e) (or_left _ _ z) refl refl)
        (λ z. let same = same_number d c h in inl (subst (λ (k : ℕ).
        rank P (cells_moved P x (ack_node c)) (rail_node (of_channel k) i one) < rank P x (ack_node c)) (sym same)
        (in_rail i one (subst (λ (k : ℕ). offers (channel_width P.channels k) (ack_turned w c) k (completed (cells_moved P x (ack_node c)).histories k)
        (offer_at script k) i one ≡ true) same z)))))
        (λ (h : (d == c) ≡ false). ack_keeps P script fitted r c s.on (rail_node (of_channel d) i one) h t)
    ack_lower (ack_node d) t = cases (d == c)
        (λ (h : (d == c) ≡ true). absurd (not_both (acked_near w c d h ∙ ap not ack_high) (twice ((ack_turned w c).ack d) t.still)))
        (λ (h : (d == c) ≡ false). ack_keeps P script fitted r c s.on (ack_node d) h t)
    ack_lower go_node t = ack_keeps P script fitted r c s.on go_node refl t
    ack_lower (rail_node (of_var v) i one) t = ack_keeps P script fitted r c s.on (rail_node (of_var v) i one) refl t
    ack_lower (bit_node v i one) t = ack_keeps P script fitted r c s.on (bit_node v i one) refl t
    ack_lower (wrote_node v i) t = ack_keeps P script fitted r c s.on (wrote_node v i) refl t
    ack_lower (joint_node v k) t = ack_keeps P script fitted r c s.on (joint_node v k) refl t

  -- ---- a rail moves

  -- rails of nodes
  abbrev rail_value : Wires → Node P.body → Bool
  rail_value w (rail_node l j b) = w.rail l j b
  rail_value w _ = false

  rail_self : (l : Line) (i : ℕ) (one : Bool) → (rail_turned w l i one).rail l i one ≡ not (w.rail l i one)
  rail_self l i one =
      ap (λ (b : Bool). (if b then rails_turned (w.rail l) i one else w.rail l) i one) (self_line l)
      ∙ turned_there (w.rail l) i one i one (both_true (i == i) (same_bit one one) (self_number i) (itself one))
    where
      itself : (b : Bool) → same_bit b b ≡ true
      itself true = refl
      itself false = refl

  -- a rail that hasn't moved is another one
  other_rail : (l k : Line) (i j : ℕ) (one b : Bool) → (rail_turned w l i one).rail k j b ≡ w.rail k j b
      → rail_node {p = P.body} l i one ≡ rail_node k j b → ⊥
  other_rail l k i j one b same e = never_own (w.rail l i one)
      (ap (rail_value w) e ∙ (sym same ∙ (sym (ap (rail_value (rail_turned w l i one)) e) ∙ rail_self l i one)))

  -- one that has moved doesn't move again at once
  merged_once : (b : Bool) (sites : List Bool) → one_rule_fires (merged b sites) ≡ true → one_rule_fires (merged (not b) sites) ≡ true → ⊥
  merged_once b sites f z = both_ways b _ _ f z (merged_apart b sites)

  -- the environment moves no rail of which there are sites
  undriven : (c : ℕ) → is_merged P (of_channel c) ≡ true → (now : Wires) (i : ℕ) (one : Bool)
      → offers (channel_width P.channels c) now c (done c) (offer_at script c) i one ≡ true → ⊥
  undriven c sent now i one z =
      let o = gives_of (channel_width P.channels c) now c (done c) (offer_at script c) i one z in not_both (fitted.brought c o.0 o.1).0 sent

  no_fire : (b : Bool) → one_rule_fires (no_rule b) ≡ true → ⊥
  no_fire true e = cc e
  no_fire false e = cc e

  module _ (c i : ℕ) (one : Bool) (s : First (rail_node (of_channel c) i one)) where
    abbrev now : Wires
    now = rail_turned w (of_channel c) i one

    abbrev wide : ℕ → ℕ
    wide d = channel_width P.channels d

    far_rail : (d : ℕ) → (d == c) ≡ false → now.rail (of_channel d) ≡ w.rail (of_channel d)
    far_rail d e = ap (λ (b : Bool). if b then rails_turned (w.rail (of_channel c)) i one else w.rail (of_channel d)) e

    rail_again : enabled P script (cells_moved P x (rail_node (of_channel c) i one)) (rail_node (of_channel c) i one) ≡ true → ⊥
    rail_again z = by (is_merged P (of_channel c)) refl
      where
        sites : List Bool
        sites = site_rails P.body x.root.inner (of_channel c) i one

        self : now.rail (of_channel c) i one ≡ not (w.rail (of_channel c) i one)
        self = rail_self (of_channel c) i one

        sent : is_merged P (of_channel c) ≡ true → ⊥
        sent u = either _ _ s.on
            (λ f. either _ _ z
            (λ g. merged_once (w.rail (of_channel c) i one) sites
            (sym (ap (λ (b : Bool). one_rule_fires (if b then merged (w.rail (of_channel c) i one) sites else no_rule (w.rail (of_channel c) i one))) u) ∙ f)
            (sym (ap (λ (b : Bool). one_rule_fires (merged b sites)) self)
            ∙ (sym (ap (λ (b : Bool). one_rule_fires (if b then merged (now.rail (of_channel c) i one) sites else no_rule (now.rail (of_channel c) i one))) u)
            ∙ g)))
            (λ g. undriven c u now i one g)) (λ f. undriven c u w i one f)

        driven_twice : offers (wide c) w c (done c) (offer_at script c) i one ≡ true → offers (wide c) now c (done c) (offer_at script c) i one ≡ true → ⊥
        driven_twice f g =
            let o = gives_of (wide c) w c (done c) (offer_at script c) i one f in
            let a : drives (wide c) w c (slice_get o.0 (done c)) i one ≡ true = sym (ap (λ y. offers (wide c) w c (done c) y i one) o.1) ∙ f in
            let b : drives (wide c) now c (slice_get o.0 (done c)) i one ≡ true = sym (ap (λ y. offers (wide c) now c (done c) y i one) o.1) ∙ g in
            cases (w.ack c)
            (λ (h : w.ack c ≡ true).
            let up : w.rail (of_channel c) i one ≡ true = sym (ap (λ (y : Bool). if y then w.rail (of_channel c) i one else
            brings (wide c) (slice_get o.0 (done c)) i one && (not (w.rail (of_channel c) i true) && not (w.rail (of_channel c) i false))) h) ∙ a in
            let again : now.rail (of_channel c) i one ≡ true = sym (ap (λ (y : Bool). if y then now.rail (of_channel c) i one else
            brings (wide c) (slice_get o.0 (done c)) i one && (not (now.rail (of_channel c) i true) && not (now.rail (of_channel c) i false))) h) ∙ b in
            not_both (self ∙ ap not up) again)
            (λ (h : w.ack c ≡ false).
            let l = drives_up (wide c) w c (slice_get o.0 (done c)) i one h a in
            let k = drives_up (wide c) now c (slice_get o.0 (done c)) i one h b in
            not_both (side one k.1 k.2) (self ∙ ap not (side_before one l.1 l.2)))
          where
            side : (b : Bool) → now.rail (of_channel c) i true ≡ false → now.rail (of_channel c) i false ≡ false → now.rail (of_channel c) i b ≡ false
            side true t f = t
            side false t f = f

            side_before : (b : Bool) → w.rail (of_channel c) i true ≡ false → w.rail (of_channel c) i false ≡ false → w.rail (of_channel c) i b ≡ false
            side_before true t f = t
            side_before false t f = f

        alone : is_merged P (of_channel c) ≡ false → ⊥
        alone u = either _ _ s.on
            (λ f. no_fire (w.rail (of_channel c) i one)
            (sym (ap (λ (b : Bool). one_rule_fires (if b then merged (w.rail (of_channel c) i one) sites else no_rule (w.rail (of_channel c) i one))) u) ∙ f))
            (λ f. either _ _ z
            (λ g. no_fire (now.rail (of_channel c) i one)
            (sym (ap (λ (b : Bool). one_rule_fires (if b then merged (now.rail (of_channel c) i one) sites else no_rule (now.rail (of_channel c) i one))) u)
            ∙ g)) (λ g. driven_twice f g))

        by : (b : Bool) → is_merged P (of_channel c) ≡ b → ⊥
        by true u = sent u
        by false u = alone u

    -- what the environment may do to another rail it might before
    drove : (d j : ℕ) (b : Bool) → now.rail (of_channel d) j b ≡ w.rail (of_channel d) j b
        → offers (wide d) now d (done d) (offer_at script d) j b ≡ true → offers (wide d) w d (done d) (offer_at script d) j b ≡ true
    drove d j b same z =
        let o = gives_of (wide d) now d (done d) (offer_at script d) j b z in
        let a : drives (wide d) now d (slice_get o.0 (done d)) j b ≡ true = sym (ap (λ y. offers (wide d) now d (done d) y j b) o.1) ∙ z in
        ap (λ y. offers (wide d) w d (done d) y j b) o.1 ∙ cases (w.ack d) (high (slice_get o.0 (done d)) a) (low (slice_get o.0 (done d)) a)
      where
        high : (next : Option ℕ) → drives (wide d) now d next j b ≡ true → w.ack d ≡ true → drives (wide d) w d next j b ≡ true
        high next a h =
            ap (λ (y : Bool). if y then w.rail (of_channel d) j b else
            brings (wide d) next j b && (not (w.rail (of_channel d) j true) && not (w.rail (of_channel d) j false))) h
            ∙ (sym same ∙ (sym (ap (λ (y : Bool). if y then now.rail (of_channel d) j b else
            brings (wide d) next j b && (not (now.rail (of_channel d) j true) && not (now.rail (of_channel d) j false))) h) ∙ a))

        -- no rail falls under a low acknowledge
        was_low : w.ack d ≡ false → (side : Bool) → now.rail (of_channel d) j side ≡ false → w.rail (of_channel d) j side ≡ false
        was_low h side l = by (turned_at w (of_channel c) i one (of_channel d) j side)
          where
            fell : (b : Bool) → not b ≡ false → b ≡ true
            fell true e = refl
            fell false e = absurd (cc e)

            by : Turned w (of_channel c) i one (of_channel d) j side → w.rail (of_channel d) j side ≡ false
            by (that t) = sym t ∙ l
            by (this e f g t) =
                let up = fell (w.rail (of_channel c) i one) (sym t ∙ l) in
                let top = (safe P script fitted x r).rail_down c i one up s.on in
                let is : d ≡ c = cc e in
                absurd (not_both h (ap (λ k. w.ack k) is ∙ top))

        low : (next : Option ℕ) → drives (wide d) now d next j b ≡ true → w.ack d ≡ false → drives (wide d) w d next j b ≡ true
        low next a h =
            let up = drives_up (wide d) now d next j b h a in
            ap (λ (y : Bool). if y then w.rail (of_channel d) j b else
            brings (wide d) next j b && (not (w.rail (of_channel d) j true) && not (w.rail (of_channel d) j false))) h
            ∙ both_true (brings (wide d) next j b) (not (w.rail (of_channel d) j true) && not (w.rail (of_channel d) j false)) up.0
            (both_true (not (w.rail (of_channel d) j true)) (not (w.rail (of_channel d) j false)) (ap not (was_low h true up.1))
            (ap not (was_low h false up.2)))

    -- the environment takes its acknowledge back where a rail has fallen
    out_ack : answers (wide c) now c (done c) (offer_at script c) ≡ true → w.ack c ≡ true
        → rank P (cells_moved P x (rail_node (of_channel c) i one)) (ack_node c) < rank P x (rail_node (of_channel c) i one)
    out_ack z h = cases (w.rail (of_channel c) i one)
        (λ (up : w.rail (of_channel c) i one ≡ true).
        let t = takes_of (wide c) now c (done c) (offer_at script c) z in
        let kind = out_kind (kind_at P.channels c) (fitted.out c t.count t.is).1 in
        let a : rank P (cells_moved P x (rail_node (of_channel c) i one)) (ack_node c) ≡ (counts P).acked c =
        ap (λ (b : Bool). if b then (counts P).acked c else 0) h in
        let e : rank P x (rail_node (of_channel c) i one) ≡ 1 + (counts P).acked c =
        ap (λ (b : Bool). if b then rail_falls P (kind_at P.channels c) ((counts P).acked c) ((counts P).taken c)
        else rail_rises P (kind_at P.channels c) (tree_height (wide c)) (is_asked (listens_on c) P.body x.root.child x.root.inner)) up
        ∙ ap (λ (k : Kind). rail_falls P k ((counts P).acked c) ((counts P).taken c)) kind in
        omega (arith, a, e))
        (λ (low : w.rail (of_channel c) i one ≡ false). absurd (not_both ((safe P script fitted x r).rail_up c i one low s.on).0 h))

    rail_lower : (m : Node P.body) → Then (rail_node (of_channel c) i one) s m → Less (rail_node (of_channel c) i one) m
    rail_lower go_node t = kept P script fitted r (rail_node (of_channel c) i one) go_node (λ e. cc e) t.on refl refl
    rail_lower (own_node q) t = rail_own P script fitted r covers c i one s q t
    rail_lower (rail_node (of_var v) j b) t =
        kept P script fitted r (rail_node (of_channel c) i one) (rail_node (of_var v) j b) (λ e. cc e) t.on refl refl
    rail_lower (rail_node (of_channel d) j b) t = by (turned_at w (of_channel c) i one (of_channel d) j b)
      where
        by : Turned w (of_channel c) i one (of_channel d) j b → Less (rail_node (of_channel c) i one) (rail_node (of_channel d) j b)
        by (this e f g z) = absurd (rail_again (sym (ap (λ (n : Node P.body). enabled P script (cells_moved P x (rail_node (of_channel c) i one)) n)
            (ap (λ (l : Line). rail_node l j b) e ∙ (ap (λ n. rail_node (of_channel c) n b) f ∙ ap (λ n. rail_node (of_channel c) i n) g))) ∙ t.on))
        by (that same) = kept P script fitted r (rail_node (of_channel c) i one) (rail_node (of_channel d) j b)
            (other_rail (of_channel c) (of_channel d) i j one b same)
            (either (one_rule_fires (rule_in P (cells_moved P x (rail_node (of_channel c) i one)) (rail_node (of_channel d) j b)))
            (offers (wide d) now d (done d) (offer_at script d) j b) t.on
            (λ z. or_left _ _ (sym (ap (λ (y : Bool). one_rule_fires (if is_merged P (of_channel d) then merged y (site_rails P.body x.root.inner (of_channel d)
            j b) else no_rule y)) same) ∙ z))
            (λ z. or_right (one_rule_fires (rule_in P x (rail_node (of_channel d) j b))) _ (drove d j b same z))) refl
            (ap (λ (y : Bool). if y then rail_falls P (kind_at P.channels d) ((counts P).acked d) ((counts P).taken d)
            else rail_rises P (kind_at P.channels d) (tree_height (wide d)) (is_asked (listens_on d) P.body x.root.child x.root.inner)) same)
    rail_lower (ack_node d) t = cases (d == c)
        (λ (h : (d == c) ≡ true). either (one_rule_fires (rule_in P x (ack_node d))) (answers (wide d) now d (done d) (offer_at script d)) t.on
        (λ z. kept P script fitted r (rail_node (of_channel c) i one) (ack_node d) (λ e. cc e) (or_left _ _ z) t.still refl)
        (λ z. let same = same_number d c h in inl (subst (λ (k : ℕ).
        rank P (cells_moved P x (rail_node (of_channel c) i one)) (ack_node k) < rank P x (rail_node (of_channel c) i one)) (sym same)
        (out_ack (subst (λ (k : ℕ). answers (wide k) now k (done k) (offer_at script k) ≡ true) same z)
        (ap (λ k. w.ack k) (sym same) ∙ high (w.ack d) t.still)))))
        (λ (h : (d == c) ≡ false). kept P script fitted r (rail_node (of_channel c) i one) (ack_node d) (λ e. cc e)
        (sym (ap (λ b. one_rule_fires (rule_in P x (ack_node d)) || b)
        (same_answers w now d refl (far_rail d h) (offer_at script d) (wide d) (done d))) ∙ t.on) t.still refl)
      where
        high : (b : Bool) → not b ≡ false → b ≡ true
        high true e = refl
        high false e = absurd (cc e)
    rail_lower (bit_node v j b) t = kept P script fitted r (rail_node (of_channel c) i one) (bit_node v j b) (λ e. cc e) t.on refl refl
    rail_lower (wrote_node v j) t = kept P script fitted r (rail_node (of_channel c) i one) (wrote_node v j) (λ e. cc e) t.on
        (still_wrote P script fitted r (rail_node (of_channel c) i one) s.on refl v j t.still) refl
    rail_lower (joint_node v k) t = kept P script fitted r (rail_node (of_channel c) i one) (joint_node v k) (λ e. cc e) t.on
        (still_joint P script fitted r (rail_node (of_channel c) i one) s.on refl v k t.still) refl

  -- ---- a rail moves by which a variable is written

  module _ (v i : ℕ) (one : Bool) (s : First (rail_node (of_var v) i one)) where
    abbrev written : Wires
    written = rail_turned w (of_var v) i one

    write_here : written.rail (of_var v) ≡ rails_turned (w.rail (of_var v)) i one
    write_here = ap (λ (b : Bool). if b then rails_turned (w.rail (of_var v)) i one else w.rail (of_var v)) (self_number v)

    write_far : (u : ℕ) → (u == v) ≡ false → written.rail (of_var u) ≡ w.rail (of_var u)
    write_far u h = ap (λ (b : Bool). if b then rails_turned (w.rail (of_var v)) i one else w.rail (of_var u)) h

    write_again : enabled P script (cells_moved P x (rail_node (of_var v) i one)) (rail_node (of_var v) i one) ≡ true → ⊥
    write_again z =
        let sites = site_rails P.body x.root.inner (of_var v) i one in
        merged_once (w.rail (of_var v) i one) sites (sym (or_false (one_rule_fires (merged (w.rail (of_var v) i one) sites))) ∙ s.on)
        (sym (ap (λ (b : Bool). one_rule_fires (merged b sites)) (rail_self (of_var v) i one))
        ∙ (sym (or_false (one_rule_fires (merged (written.rail (of_var v) i one) sites))) ∙ z))

    write_bit : (j : ℕ) (b : Bool) → Then (rail_node (of_var v) i one) s (bit_node v j b) → Less (rail_node (of_var v) i one) (bit_node v j b)
    write_bit j b t = by (rail_bit (var_height P v) ((counts P).written v) (late P x v) (w.rail (of_var v)) (w.bit v) i one j b
        (ap (λ (y : Rails). one_rule_fires (bit_rule y (w.bit v) j b)) (sym write_here)
        ∙ (sym (or_false (one_rule_fires (bit_rule (written.rail (of_var v)) (w.bit v) j b))) ∙ t.on)))
      where
        by : (one_rule_fires (bit_rule (w.rail (of_var v)) (w.bit v) j b) ≡ true)
            ⊎ (bit_trail (var_height P v) (late P x v) (w.bit v j b)
            < rail_trail (var_height P v) ((counts P).written v) (late P x v) (w.rail (of_var v) i one))
            → Less (rail_node (of_var v) i one) (bit_node v j b)
        by (inl before) = kept P script fitted r (rail_node (of_var v) i one) (bit_node v j b) (λ e. cc e)
            (or_false (one_rule_fires (bit_rule (w.rail (of_var v)) (w.bit v) j b)) ∙ before) refl refl
        by (inr less) = inl less

    write_wrote : (j : ℕ) → Then (rail_node (of_var v) i one) s (wrote_node v j) → Less (rail_node (of_var v) i one) (wrote_node v j)
    write_wrote j t = by (rail_wrote (var_height P v) ((counts P).written v) (late P x v) (w.rail (of_var v)) (w.bit v) (w.wrote v) i one j
        (ap (λ (y : Rails). one_rule_fires (wrote_rule y (w.bit v) (w.wrote v) j)) (sym write_here)
        ∙ (sym (or_false (one_rule_fires (wrote_rule (written.rail (of_var v)) (w.bit v) (w.wrote v) j))) ∙ t.on)))
      where
        by : (one_rule_fires (wrote_rule (w.rail (of_var v)) (w.bit v) (w.wrote v) j) ≡ true)
            ⊎ (wrote_trail (var_height P v) ((counts P).written v) (late P x v) (w.wrote v j)
            < rail_trail (var_height P v) ((counts P).written v) (late P x v) (w.rail (of_var v) i one))
            → Less (rail_node (of_var v) i one) (wrote_node v j)
        by (inl before) = kept P script fitted r (rail_node (of_var v) i one) (wrote_node v j) (λ e. cc e)
            (or_false (one_rule_fires (wrote_rule (w.rail (of_var v)) (w.bit v) (w.wrote v) j)) ∙ before)
            (still_wrote P script fitted r (rail_node (of_var v) i one) s.on refl v j t.still) refl
        by (inr less) = inl less

    write_lower : (m : Node P.body) → Then (rail_node (of_var v) i one) s m → Less (rail_node (of_var v) i one) m
    write_lower go_node t = kept P script fitted r (rail_node (of_var v) i one) go_node (λ e. cc e) t.on refl refl
    write_lower (own_node q) t = write_own P script fitted r covers v i one s q t
    write_lower (rail_node (of_channel c) j b) t = kept P script fitted r (rail_node (of_var v) i one) (rail_node (of_channel c) j b) (λ e. cc e)
        (sym (ap (λ y. one_rule_fires (rule_in P x (rail_node (of_channel c) j b)) || y)
        (same_offers w written c refl refl (offer_at script c) (channel_width P.channels c) (done c) (done c) j b refl)) ∙ t.on) refl refl
    write_lower (rail_node (of_var u) j b) t = by (turned_at w (of_var v) i one (of_var u) j b)
      where
        by : Turned w (of_var v) i one (of_var u) j b → Less (rail_node (of_var v) i one) (rail_node (of_var u) j b)
        by (this e f g z) = absurd (write_again (sym (ap (λ (n : Node P.body). enabled P script (cells_moved P x (rail_node (of_var v) i one)) n)
            (ap (λ (l : Line). rail_node l j b) e ∙ (ap (λ n. rail_node (of_var v) n b) f ∙ ap (λ n. rail_node (of_var v) i n) g))) ∙ t.on))
        by (that same) = kept P script fitted r (rail_node (of_var v) i one) (rail_node (of_var u) j b)
            (other_rail (of_var v) (of_var u) i j one b same)
            (sym (ap (λ (y : Bool). one_rule_fires (merged y (site_rails P.body x.root.inner (of_var u) j b)) || false) same) ∙ t.on) refl
            (ap (rail_trail (var_height P u) ((counts P).written u) (late P x u)) same)
    write_lower (ack_node d) t = kept P script fitted r (rail_node (of_var v) i one) (ack_node d) (λ e. cc e)
        (sym (ap (λ b. one_rule_fires (rule_in P x (ack_node d)) || b)
        (same_answers w written d refl refl (offer_at script d) (channel_width P.channels d) (done d))) ∙ t.on) t.still refl
    write_lower (bit_node u j b) t = cases (u == v)
        (λ (h : (u == v) ≡ true). let same = same_number u v h in
        subst (λ (k : ℕ). Less (rail_node (of_var v) i one) (bit_node k j b)) (sym same)
        (write_bit j b (subst (λ (k : ℕ). Then (rail_node (of_var v) i one) s (bit_node k j b)) same t)))
        (λ (h : (u == v) ≡ false). kept P script fitted r (rail_node (of_var v) i one) (bit_node u j b) (λ e. cc e)
        (sym (ap (λ (y : Rails). one_rule_fires (bit_rule y (w.bit u) j b) || false) (write_far u h)) ∙ t.on) refl refl)
    write_lower (wrote_node u j) t = cases (u == v)
        (λ (h : (u == v) ≡ true). let same = same_number u v h in
        subst (λ (k : ℕ). Less (rail_node (of_var v) i one) (wrote_node k j)) (sym same)
        (write_wrote j (subst (λ (k : ℕ). Then (rail_node (of_var v) i one) s (wrote_node k j)) same t)))
        (λ (h : (u == v) ≡ false). kept P script fitted r (rail_node (of_var v) i one) (wrote_node u j) (λ e. cc e)
        (sym (ap (λ (y : Rails). one_rule_fires (wrote_rule y (w.bit u) (w.wrote u) j) || false) (write_far u h)) ∙ t.on)
        (still_wrote P script fitted r (rail_node (of_var v) i one) s.on refl u j t.still) refl)
    write_lower (joint_node u k) t = kept P script fitted r (rail_node (of_var v) i one) (joint_node u k) (λ e. cc e) t.on
        (still_joint P script fitted r (rail_node (of_var v) i one) s.on refl u k t.still) refl

  -- ---- a rail of a bit moves

  module _ (v i : ℕ) (one : Bool) (s : First (bit_node v i one)) where
    abbrev bitten : Wires
    bitten = bit_turned w v i one

    bit_here : bitten.bit v ≡ rails_turned (w.bit v) i one
    bit_here = ap (λ (b : Bool). if b then rails_turned (w.bit v) i one else w.bit v) (self_number v)

    bit_far : (u : ℕ) → (u == v) ≡ false → bitten.bit u ≡ w.bit u
    bit_far u h = ap (λ (b : Bool). if b then rails_turned (w.bit v) i one else w.bit u) h

    bit_fires : one_rule_fires (bit_rule (w.rail (of_var v)) (w.bit v) i one) ≡ true
    bit_fires = sym (or_false (one_rule_fires (bit_rule (w.rail (of_var v)) (w.bit v) i one))) ∙ s.on

    bit_again : one_rule_fires (bit_rule (w.rail (of_var v)) (rails_turned (w.bit v) i one) i one) ≡ true → ⊥
    bit_again z = both_ways (w.bit v i one) _ _ bit_fires
        (ap (λ (b : Bool). if not (w.bit v i one) then w.rail (of_var v) i (not one) else (w.rail (of_var v) i one && not b)) (sym other)
        ∙ (ap (λ (b : Bool). if b then w.rail (of_var v) i (not one)
        else (w.rail (of_var v) i one && not (rails_turned (w.bit v) i one i (not one)))) (sym self) ∙ z))
        ((safe P script fitted x r).apart (bit_node v i one))
      where
        itself : (b : Bool) → same_bit b b ≡ true
        itself true = refl
        itself false = refl

        differs : (a b : Bool) → (a && same_bit (not b) b) ≡ false
        differs true true = refl
        differs true false = refl
        differs false b = refl

        self : rails_turned (w.bit v) i one i one ≡ not (w.bit v i one)
        self = turned_there (w.bit v) i one i one (both_true (i == i) (same_bit one one) (self_number i) (itself one))

        other : rails_turned (w.bit v) i one i (not one) ≡ w.bit v i (not one)
        other = turned_else (w.bit v) i one i (not one) (differs (i == i) one)

    abbrev bit_value : Wires → Node P.body → Bool
    bit_value y (bit_node u j b) = y.bit u j b
    bit_value y _ = false

    bit_pair : (j : ℕ) (b : Bool) → Then (bit_node v i one) s (bit_node v j b) → Less (bit_node v i one) (bit_node v j b)
    bit_pair j b t = cases ((j == i) && same_bit b one)
        (λ (h : ((j == i) && same_bit b one) ≡ true).
        let e = same_number j i (fst_true (j == i) (same_bit b one) h) in
        let f = same_value b one (snd_true (j == i) (same_bit b one) h) in
        absurd (bit_again (sym (ap (λ k. one_rule_fires (bit_rule (w.rail (of_var v)) (rails_turned (w.bit v) i one) k b)) e
        ∙ ap (λ k. one_rule_fires (bit_rule (w.rail (of_var v)) (rails_turned (w.bit v) i one) i k)) f) ∙ z)))
        (λ (h : ((j == i) && same_bit b one) ≡ false). by (turned_else (w.bit v) i one j b h)
        (bit_bit (var_height P v) (late P x v) (w.rail (of_var v)) (w.bit v) i one j b
        (λ e f. not_both h (both_true (j == i) (same_bit b one) (ap (λ k. k == i) e ∙ self_number i) (ap (λ k. same_bit k one) f ∙ itself one))) z))
      where
        itself : (b : Bool) → same_bit b b ≡ true
        itself true = refl
        itself false = refl

        z : one_rule_fires (bit_rule (w.rail (of_var v)) (rails_turned (w.bit v) i one) j b) ≡ true
        z = ap (λ (y : Rails). one_rule_fires (bit_rule (w.rail (of_var v)) y j b)) (sym bit_here)
            ∙ (sym (or_false (one_rule_fires (bit_rule (w.rail (of_var v)) (bitten.bit v) j b))) ∙ t.on)

        after : rank P (cells_moved P x (bit_node v i one)) (bit_node v j b)
            ≡ bit_trail (var_height P v) (late P x v) (rails_turned (w.bit v) i one j b)
        after = ap (λ (y : Rails). bit_trail (var_height P v) (late P x v) (y j b)) bit_here

        by : rails_turned (w.bit v) i one j b ≡ w.bit v j b → (one_rule_fires (bit_rule (w.rail (of_var v)) (w.bit v) j b) ≡ true)
            ⊎ (bit_trail (var_height P v) (late P x v) (rails_turned (w.bit v) i one j b) < bit_trail (var_height P v) (late P x v) (w.bit v i one))
            → Less (bit_node v i one) (bit_node v j b)
        by same (inl before) = kept P script fitted r (bit_node v i one) (bit_node v j b) ne
            (or_false (one_rule_fires (bit_rule (w.rail (of_var v)) (w.bit v) j b)) ∙ before) refl
            (after ∙ ap (bit_trail (var_height P v) (late P x v)) same)
          where
            ne : bit_node {p = P.body} v i one ≡ bit_node v j b → ⊥
            ne e =
                let a = ap (bit_value w) e in
                let c = ap (bit_value bitten) e in
                never_own (w.bit v i one) (a ∙ (sym same ∙ (sym (ap (λ (y : Rails). y j b) bit_here) ∙ (sym c
                ∙ (ap (λ (y : Rails). y i one) bit_here
                ∙ turned_there (w.bit v) i one i one (both_true (i == i) (same_bit one one) (self_number i) (itself one)))))))
        by same (inr less) = inl (omega (arith, less, after))

    bit_wrote_pair : (j : ℕ) → Then (bit_node v i one) s (wrote_node v j) → Less (bit_node v i one) (wrote_node v j)
    bit_wrote_pair j t = by (bit_wrote_top (var_height P v) ((counts P).written v) (late P x v) (w.rail (of_var v)) (w.bit v) (w.wrote v) i one j
        (ap (λ (y : Rails). one_rule_fires (wrote_rule (w.rail (of_var v)) y (w.wrote v) j)) (sym bit_here)
        ∙ (sym (or_false (one_rule_fires (wrote_rule (w.rail (of_var v)) (bitten.bit v) (w.wrote v) j))) ∙ t.on)))
      where
        by : (one_rule_fires (wrote_rule (w.rail (of_var v)) (w.bit v) (w.wrote v) j) ≡ true)
            ⊎ ((wrote_trail (var_height P v) ((counts P).written v) (late P x v) (w.wrote v j)
            < bit_trail (var_height P v) (late P x v) (w.bit v i one))
            ⊎ ((var_height P v ≡ 0) × (late P x v ≡ 0) × (w.wrote v j ≡ false))) → Less (bit_node v i one) (wrote_node v j)
        by (inl before) = kept P script fitted r (bit_node v i one) (wrote_node v j) (λ e. cc e)
            (or_false (one_rule_fires (wrote_rule (w.rail (of_var v)) (w.bit v) (w.wrote v) j)) ∙ before)
            (still_wrote P script fitted r (bit_node v i one) s.on refl v j t.still) refl
        by (inr (inl less)) = inl less
        by (inr (inr (flat, none, low))) =
            let next = next_reached P script fitted r (bit_node v i one) s.on in
            let less = wrote_there P script fitted next v j t.on in
            let two = wrote_late P script fitted next v j t (one_answer (var_width P.vars v) (w.wrote v) (w.joint v) j flat less ∙ low)
            (wrote_ack P script fitted next bitten v j
            ∙ (one_answer (var_width P.vars v) (turned (w.wrote v) j) (w.joint v) j flat less ∙ (turned_here (w.wrote v) j ∙ ap not low))) in
            absurd (omega (arith, two, none))

    bit_lower : (m : Node P.body) → Then (bit_node v i one) s m → Less (bit_node v i one) m
    bit_lower go_node t = kept P script fitted r (bit_node v i one) go_node (λ e. cc e) t.on refl refl
    bit_lower (own_node q) t = bit_own P script fitted r covers v i one s q t
    bit_lower (rail_node (of_channel c) j b) t = kept P script fitted r (bit_node v i one) (rail_node (of_channel c) j b) (λ e. cc e)
        (sym (ap (λ y. one_rule_fires (rule_in P x (rail_node (of_channel c) j b)) || y)
        (same_offers w bitten c refl refl (offer_at script c) (channel_width P.channels c) (done c) (done c) j b refl)) ∙ t.on) refl refl
    bit_lower (rail_node (of_var u) j b) t = kept P script fitted r (bit_node v i one) (rail_node (of_var u) j b) (λ e. cc e) t.on refl refl
    bit_lower (ack_node d) t = kept P script fitted r (bit_node v i one) (ack_node d) (λ e. cc e)
        (sym (ap (λ b. one_rule_fires (rule_in P x (ack_node d)) || b)
        (same_answers w bitten d refl refl (offer_at script d) (channel_width P.channels d) (done d))) ∙ t.on) t.still refl
    bit_lower (bit_node u j b) t = cases (u == v)
        (λ (h : (u == v) ≡ true). let same = same_number u v h in
        subst (λ (k : ℕ). Less (bit_node v i one) (bit_node k j b)) (sym same)
        (bit_pair j b (subst (λ (k : ℕ). Then (bit_node v i one) s (bit_node k j b)) same t)))
        (λ (h : (u == v) ≡ false). kept P script fitted r (bit_node v i one) (bit_node u j b) (λ e. apart_number u v h (let a : v ≡ u = cc e in a))
        (sym (ap (λ (y : Rails). one_rule_fires (bit_rule (w.rail (of_var u)) y j b) || false) (bit_far u h)) ∙ t.on) refl
        (ap (λ (y : Rails). bit_trail (var_height P u) (late P x u) (y j b)) (bit_far u h)))
    bit_lower (wrote_node u j) t = cases (u == v)
        (λ (h : (u == v) ≡ true). let same = same_number u v h in
        subst (λ (k : ℕ). Less (bit_node v i one) (wrote_node k j)) (sym same)
        (bit_wrote_pair j (subst (λ (k : ℕ). Then (bit_node v i one) s (wrote_node k j)) same t)))
        (λ (h : (u == v) ≡ false). kept P script fitted r (bit_node v i one) (wrote_node u j) (λ e. cc e)
        (sym (ap (λ (y : Rails). one_rule_fires (wrote_rule (w.rail (of_var u)) y (w.wrote u) j) || false) (bit_far u h)) ∙ t.on)
        (still_wrote P script fitted r (bit_node v i one) s.on refl u j t.still) refl)
    bit_lower (joint_node u k) t = kept P script fitted r (bit_node v i one) (joint_node u k) (λ e. cc e) t.on
        (still_joint P script fitted r (bit_node v i one) s.on refl u k t.still) refl

  -- ---- a node moves that says that a bit is written

  -- a move that turns the acknowledge over doesn't go beside another of its block
  over : (low high : Bool) → low ≡ false → high ≡ true → high ≡ low → ⊥
  over low high e f g = not_both (g ∙ e) f

  module _ (v i : ℕ) (s : First (wrote_node v i)) where
    abbrev told : Wires
    told = wrote_turned w v i

    told_here : told.wrote v ≡ turned (w.wrote v) i
    told_here = ap (λ (b : Bool). if b then turned (w.wrote v) i else w.wrote v) (self_number v)

    told_less : i < var_width P.vars v
    told_less = wrote_there P script fitted r v i s.on

    wrote_pair : (j : ℕ) → Then (wrote_node v i) s (wrote_node v j) → Less (wrote_node v i) (wrote_node v j)
    wrote_pair j t = by (cases_eq j i)
      where
        z : one_rule_fires (wrote_rule (w.rail (of_var v)) (w.bit v) (turned (w.wrote v) i) j) ≡ true
        z = ap (λ (y : ℕ → Bool). one_rule_fires (wrote_rule (w.rail (of_var v)) (w.bit v) y j)) (sym told_here)
            ∙ (sym (or_false (one_rule_fires (wrote_rule (w.rail (of_var v)) (w.bit v) (told.wrote v) j))) ∙ t.on)

        by : (j ≡ i) ⊎ (j ≢ i) → Less (wrote_node v i) (wrote_node v j)
        by (inl same) = absurd (both_ways (w.wrote v i) _ _ (wrote_fires P script fitted r v i s.on)
            (sym (ap (λ (b : Bool). if b then not (w.rail (of_var v) i true) && not (w.rail (of_var v) i false)
            else ((w.rail (of_var v) i true && w.bit v i true) || (w.rail (of_var v) i false && w.bit v i false))) (turned_here (w.wrote v) i))
            ∙ (sym (ap (λ k. one_rule_fires (wrote_rule (w.rail (of_var v)) (w.bit v) (turned (w.wrote v) i) k)) same) ∙ z))
            ((safe P script fitted x r).apart (wrote_node v i)))
        by (inr ne) =
            let same = turned_apart (w.wrote v) i j ne in
            let before : one_rule_fires (wrote_rule (w.rail (of_var v)) (w.bit v) (w.wrote v) j) ≡ true =
            sym (ap (λ (b : Bool). if b then not (w.rail (of_var v) j true) && not (w.rail (of_var v) j false)
            else ((w.rail (of_var v) j true && w.bit v j true) || (w.rail (of_var v) j false && w.bit v j false))) same) ∙ z in
            let on : enabled P script x (wrote_node v j) ≡ true =
            or_false (one_rule_fires (wrote_rule (w.rail (of_var v)) (w.bit v) (w.wrote v) j)) ∙ before in
            let less = wrote_there P script fitted r v j on in
            kept P script fitted r (wrote_node v i) (wrote_node v j) (λ e. ne (let a : i ≡ j = cc e in sym a)) on
            (no_step (line_ack P w (of_var v)) ((guarded_shown r.place).says (of_var v)) (line_ack P (wrote_turned w v j) (of_var v))
            (λ low high. ne (sym ((leaf_over (var_width P.vars v) (w.bit v) (w.rail (of_var v)) (w.wrote v) (w.joint v) (r.good.block v (some_of less)) j less
            before
            (over (line_ack P w (of_var v)) (tree_answer (var_width P.vars v) (turned (w.wrote v) j) (w.joint v)) low
            (sym (wrote_ack P script fitted r w v j) ∙ high))).0 i told_less))))
            (ap (λ (y : ℕ → Bool). wrote_trail (var_height P v) ((counts P).written v) (late P x v) (y j)) told_here
            ∙ ap (wrote_trail (var_height P v) ((counts P).written v) (late P x v)) same)

    wrote_joint_pair : (k : ℕ) → Then (wrote_node v i) s (joint_node v k) → Less (wrote_node v i) (joint_node v k)
    wrote_joint_pair k t = by (wrote_joint_top (var_width P.vars v) ((counts P).written v) (late P x v) (w.wrote v) (w.joint v) i told_less k z)
      where
        z : one_rule_fires (tree_rule (var_width P.vars v) (turned (w.wrote v) i) (w.joint v) k) ≡ true
        z = ap (λ (y : ℕ → Bool). one_rule_fires (tree_rule (var_width P.vars v) y (w.joint v) k)) (sym told_here)
            ∙ (sym (or_false (one_rule_fires (tree_rule (var_width P.vars v) (told.wrote v) (w.joint v) k))) ∙ t.on)

        by : (one_rule_fires (tree_rule (var_width P.vars v) (w.wrote v) (w.joint v) k) ≡ true)
            ⊎ ((joint_trail (tree_height (var_width P.vars v)) (joint_level (var_width P.vars v) k) ((counts P).written v) (late P x v) (w.joint v k)
            < wrote_trail (tree_height (var_width P.vars v)) ((counts P).written v) (late P x v) (w.wrote v i))
            ⊎ ((tree_height (var_width P.vars v) ≤ joint_level (var_width P.vars v) k) × (late P x v ≡ 0) × (w.joint v k ≡ false)))
            → Less (wrote_node v i) (joint_node v k)
        by (inl before) = kept P script fitted r (wrote_node v i) (joint_node v k) (λ e. cc e)
            (or_false (one_rule_fires (tree_rule (var_width P.vars v) (w.wrote v) (w.joint v) k)) ∙ before)
            (no_step (line_ack P w (of_var v)) ((guarded_shown r.place).says (of_var v)) (line_ack P (joint_turned w v k) (of_var v))
            (λ low high. (node_over (var_width P.vars v) (w.bit v) (w.rail (of_var v)) (w.wrote v) (w.joint v) (r.good.block v (some_of told_less)) k before
            (over (line_ack P w (of_var v)) (tree_answer (var_width P.vars v) (w.wrote v) (turned (w.joint v) k)) low
            (sym (joint_ack P script fitted r w v k) ∙ high))).0 i told_less (wrote_fires P script fitted r v i s.on))) refl
        by (inr (inl less)) = inl less
        by (inr (inr (far, none, low))) =
            let next = next_reached P script fitted r (wrote_node v i) s.on in
            let top = top_node (var_width P.vars v) (turned (w.wrote v) i) (w.joint v) k z far in
            let two = joint_late P script fitted next v k t (top_answer (var_width P.vars v) (told.wrote v) (w.joint v) k top ∙ low)
            (joint_ack P script fitted next told v k
            ∙ (top_answer (var_width P.vars v) (told.wrote v) (turned (w.joint v) k) k top ∙ (turned_here (w.joint v) k ∙ ap not low))) in
            absurd (omega (arith, two, none))

    wrote_lower : (m : Node P.body) → Then (wrote_node v i) s m → Less (wrote_node v i) m
    wrote_lower (own_node q) t = wrote_own P script fitted r covers v i s q t
    wrote_lower (wrote_node u j) t = cases (u == v)
        (λ (h : (u == v) ≡ true). let same = same_number u v h in
        subst (λ (k : ℕ). Less (wrote_node v i) (wrote_node k j)) (sym same)
        (wrote_pair j (subst (λ (k : ℕ). Then (wrote_node v i) s (wrote_node k j)) same t)))
        (λ (h : (u == v) ≡ false). wrote_keeps P script fitted r v i s.on (wrote_node u j) h t)
    wrote_lower (joint_node u k) t = cases (u == v)
        (λ (h : (u == v) ≡ true). let same = same_number u v h in
        subst (λ (n : ℕ). Less (wrote_node v i) (joint_node n k)) (sym same)
        (wrote_joint_pair k (subst (λ (n : ℕ). Then (wrote_node v i) s (joint_node n k)) same t)))
        (λ (h : (u == v) ≡ false). wrote_keeps P script fitted r v i s.on (joint_node u k) h t)
    wrote_lower go_node t = wrote_keeps P script fitted r v i s.on go_node refl t
    wrote_lower (rail_node k j b) t = wrote_keeps P script fitted r v i s.on (rail_node k j b) refl t
    wrote_lower (ack_node d) t = wrote_keeps P script fitted r v i s.on (ack_node d) refl t
    wrote_lower (bit_node u j b) t = wrote_keeps P script fitted r v i s.on (bit_node u j b) refl t

  -- ---- a node of a variable's tree moves

  module _ (v i : ℕ) (s : First (joint_node v i)) where
    abbrev jointed : Wires
    jointed = joint_turned w v i

    jointed_here : jointed.joint v ≡ turned (w.joint v) i
    jointed_here = ap (λ (b : Bool). if b then turned (w.joint v) i else w.joint v) (self_number v)

    wide_enough : 1 ≤ var_width P.vars v
    wide_enough = joint_wide P script fitted r v i s.on

    joint_again : one_rule_fires (tree_rule (var_width P.vars v) (w.wrote v) (turned (w.joint v) i) i) ≡ true → ⊥
    joint_again z = by (joint_sees n (n + i) (tree_value n (w.wrote v) (w.joint v)) (tree_value n (w.wrote v) (turned (w.joint v) i))
        (node_other n i (w.wrote v) (w.joint v) (turned (w.joint v) i) (λ k ne. turned_apart (w.joint v) i k ne)) i)
      where
        n : ℕ
        n = var_width P.vars v

        y : (if not (w.joint v i) then guard_holds (tree_value n (w.wrote v) (turned (w.joint v) i)) (tree_node n i).down
            else guard_holds (tree_value n (w.wrote v) (turned (w.joint v) i)) (tree_node n i).up) ≡ true
        y = sym (ap (λ (b : Bool). if b then guard_holds (tree_value n (w.wrote v) (turned (w.joint v) i)) (tree_node n i).down
            else guard_holds (tree_value n (w.wrote v) (turned (w.joint v) i)) (tree_node n i).up) (turned_here (w.joint v) i)) ∙ z

        by : ((guard_holds (tree_value n (w.wrote v) (turned (w.joint v) i)) (tree_node n i).up
            ≡ guard_holds (tree_value n (w.wrote v) (w.joint v)) (tree_node n i).up)
            × (guard_holds (tree_value n (w.wrote v) (turned (w.joint v) i)) (tree_node n i).down
            ≡ guard_holds (tree_value n (w.wrote v) (w.joint v)) (tree_node n i).down))
            ⊎ Above n (n + i) (tree_value n (w.wrote v) (turned (w.joint v) i)) i → ⊥
        by (inl (u, d)) = both_ways (w.joint v i) _ _ (joint_fires P script fitted r v i s.on) (same_fires (not (w.joint v i)) _ _ _ _ u d y)
            ((safe P script fitted x r).apart (joint_node v i))
        by (inr a) = let l = own_level n i in let lower = a.lower in absurd (omega (arith, l, lower))

    joint_pair : (k : ℕ) → Then (joint_node v i) s (joint_node v k) → Less (joint_node v i) (joint_node v k)
    joint_pair k t = here (cases_eq k i)
      where
        z : one_rule_fires (tree_rule (var_width P.vars v) (w.wrote v) (turned (w.joint v) i) k) ≡ true
        z = ap (λ (y : ℕ → Bool). one_rule_fires (tree_rule (var_width P.vars v) (w.wrote v) y k)) (sym jointed_here)
            ∙ (sym (or_false (one_rule_fires (tree_rule (var_width P.vars v) (w.wrote v) (jointed.joint v) k))) ∙ t.on)

        by : k ≢ i → (one_rule_fires (tree_rule (var_width P.vars v) (w.wrote v) (w.joint v) k) ≡ true)
            ⊎ ((joint_trail (tree_height (var_width P.vars v)) (joint_level (var_width P.vars v) k) ((counts P).written v) (late P x v) (w.joint v k)
            < joint_trail (tree_height (var_width P.vars v)) (joint_level (var_width P.vars v) i) ((counts P).written v) (late P x v) (w.joint v i))
            ⊎ ((tree_height (var_width P.vars v) ≤ joint_level (var_width P.vars v) k) × (late P x v ≡ 0) × (w.joint v k ≡ false)))
            → Less (joint_node v i) (joint_node v k)
        by ne d = choose d
          where
            same : (jointed.joint v) k ≡ w.joint v k
            same = ap (λ (y : ℕ → Bool). y k) jointed_here ∙ turned_apart (w.joint v) i k ne

            after : rank P (cells_moved P x (joint_node v i)) (joint_node v k) ≡ rank P x (joint_node v k)
            after = ap (joint_trail (var_height P v) (joint_level (var_width P.vars v) k) ((counts P).written v) (late P x v)) same

            choose : (one_rule_fires (tree_rule (var_width P.vars v) (w.wrote v) (w.joint v) k) ≡ true)
                ⊎ ((joint_trail (tree_height (var_width P.vars v)) (joint_level (var_width P.vars v) k) ((counts P).written v) (late P x v) (w.joint v k)
                < joint_trail (tree_height (var_width P.vars v)) (joint_level (var_width P.vars v) i) ((counts P).written v) (late P x v) (w.joint v i))
                ⊎ ((tree_height (var_width P.vars v) ≤ joint_level (var_width P.vars v) k) × (late P x v ≡ 0) × (w.joint v k ≡ false)))
                → Less (joint_node v i) (joint_node v k)
            choose (inl before) = kept P script fitted r (joint_node v i) (joint_node v k) (λ e. ne (let a : i ≡ k = cc e in sym a))
                (or_false (one_rule_fires (tree_rule (var_width P.vars v) (w.wrote v) (w.joint v) k)) ∙ before)
                (no_step (line_ack P w (of_var v)) ((guarded_shown r.place).says (of_var v)) (line_ack P (joint_turned w v k) (of_var v))
                (λ low high. (node_over (var_width P.vars v) (w.bit v) (w.rail (of_var v)) (w.wrote v) (w.joint v) (r.good.block v wide_enough) k before
                (over (line_ack P w (of_var v)) (tree_answer (var_width P.vars v) (w.wrote v) (turned (w.joint v) k)) low
                (sym (joint_ack P script fitted r w v k) ∙ high))).1 i (λ e. ne (sym e)) (joint_fires P script fitted r v i s.on))) after
            choose (inr (inl less)) = inl (omega (arith, less, after))
            choose (inr (inr (far, none, low))) =
                let next = next_reached P script fitted r (joint_node v i) s.on in
                let top = top_node (var_width P.vars v) (w.wrote v) (turned (w.joint v) i) k z far in
                let two = joint_late P script fitted next v k t (top_answer (var_width P.vars v) (w.wrote v) (jointed.joint v) k top ∙ (same ∙ low))
                (joint_ack P script fitted next jointed v k
                ∙ (top_answer (var_width P.vars v) (w.wrote v) (turned (jointed.joint v) k) k top
                ∙ (turned_here (jointed.joint v) k ∙ ap not (same ∙ low)))) in
                absurd (omega (arith, two, none))

        here : (k ≡ i) ⊎ (k ≢ i) → Less (joint_node v i) (joint_node v k)
        here (inl same) = absurd (joint_again
            (sym (ap (λ j. one_rule_fires (tree_rule (var_width P.vars v) (w.wrote v) (turned (w.joint v) i) j)) same) ∙ z))
        here (inr ne) = by ne (joint_joint_top (var_width P.vars v) ((counts P).written v) (late P x v) (w.wrote v) (w.joint v) i k ne z)

    joint_lower : (m : Node P.body) → Then (joint_node v i) s m → Less (joint_node v i) m
    joint_lower (own_node q) t = joint_own P script fitted r covers v i s q t
    joint_lower (wrote_node u j) t = cases (u == v) (λ h. kept P script fitted r (joint_node v i) (wrote_node u j) (λ e. cc e) t.on (near h) refl)
        (λ (h : (u == v) ≡ false). joint_keeps P script fitted r v i s.on (wrote_node u j) h t)
      where
        near : (u == v) ≡ true → is_step P r.place w (wrote_node u j) ≡ false
        near h =
            let same = same_number u v h in
            let less = wrote_there P script fitted r u j t.on in
            no_step (line_ack P w (of_var u)) ((guarded_shown r.place).says (of_var u)) (line_ack P (wrote_turned w u j) (of_var u))
            (λ low high. (leaf_over (var_width P.vars u) (w.bit u) (w.rail (of_var u)) (w.wrote u) (w.joint u) (r.good.block u (some_of less)) j less
            (wrote_fires P script fitted r u j t.on)
            (over (line_ack P w (of_var u)) (tree_answer (var_width P.vars u) (turned (w.wrote u) j) (w.joint u)) low
            (sym (wrote_ack P script fitted r w u j) ∙ high))).1 i
            (subst (λ (n : ℕ). node_moves (var_width P.vars n) (w.wrote n) (w.joint n) i ≡ true) (sym same) (joint_fires P script fitted r v i s.on)))
    joint_lower (joint_node u k) t = cases (u == v)
        (λ (h : (u == v) ≡ true). let same = same_number u v h in
        subst (λ (n : ℕ). Less (joint_node v i) (joint_node n k)) (sym same)
        (joint_pair k (subst (λ (n : ℕ). Then (joint_node v i) s (joint_node n k)) same t)))
        (λ (h : (u == v) ≡ false). joint_keeps P script fitted r v i s.on (joint_node u k) h t)
    joint_lower go_node t = joint_keeps P script fitted r v i s.on go_node refl t
    joint_lower (rail_node k j b) t = joint_keeps P script fitted r v i s.on (rail_node k j b) refl t
    joint_lower (ack_node d) t = joint_keeps P script fitted r v i s.on (ack_node d) refl t
    joint_lower (bit_node u j b) t = joint_keeps P script fitted r v i s.on (bit_node u j b) refl t

  -- any of them
  pub wire_lower : (n : Node P.body) → n ≢ go_node → ((q : GuardedSpot P.body) → n ≢ own_node q) → (s : First n) (m : Node P.body) → Then n s m → Less n m
  wire_lower go_node ne own s m t = absurd (ne refl)
  wire_lower (own_node q) ne own s m t = absurd (own q refl)
  wire_lower (rail_node (of_channel c) i one) ne own s m t = rail_lower c i one s m t
  wire_lower (rail_node (of_var v) i one) ne own s m t = write_lower v i one s m t
  wire_lower (ack_node c) ne own s m t = ack_lower c s m t
  wire_lower (bit_node v i one) ne own s m t = bit_lower v i one s m t
  wire_lower (wrote_node v i) ne own s m t = wrote_lower v i s m t
  wire_lower (joint_node v k) ne own s m t = joint_lower v k s m t
