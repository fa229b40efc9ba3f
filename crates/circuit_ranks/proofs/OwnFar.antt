-- In each state that is reached, an own silent move lets no silent move of a rail, of an acknowledge, or of a variable's block begin but of a lower
-- rank than its own, and gives none of these a higher one.
--
-- P: the program; r: how the state x is reached; s: the spot that moves; on: that its move is enabled; still: that it is no step; v: a variable; c: a
-- channel; k: a line; i, one: a rail.
use Rattle.std.proofs.Common.{◌≡◌, ℕ, suc, ◌+◌, ◌<◌, ◌≤◌, Bool, true, false, List, refl, sym, ap, ◌∙◌, inl, inr, arith}
use Rattle.std.specs.Prelude.{◌⊎◌, not, ◌&&◌, ◌||◌, if◌then◌else◌}
use Rattle.chp_base.specs.declared.channel.Kind.{Kind}
use Rattle.chp_base.specs.declared.channel.Kind.TheVariants.{In, Out, Chan}
use Rattle.env_script.specs.Scripts.{OfferValue, offer_at}
use Rattle.env_script.specs.Runs.{completed}
use Rattle.width_check.specs.Processes.{TypedProgram}
use Rattle.width_check.specs.Typing.{kind_at, channel_width, IsProcess}
use Rattle.chp_meaning.specs.Steps.{Configuration}
use Rattle.function_blocks.specs.Rails.{turns}
use Rattle.circuit_places.specs.Lines.{Line, of_channel, of_var}
use Rattle.circuit_places.specs.Circuit.{QElementCells, Cells, GuardedSpot, site_rails}
use Rattle.circuit_places.specs.Whole.{Whole, wires_seen, line_ack, is_heard, is_merged, Node, go_node, own_node, rail_node, ack_node, bit_node, wrote_node, joint_node, answers, enabled, cells_moved}
use Rattle.circuit_places.proofs.Flow.{cases, not_both}
use Rattle.circuit_places.proofs.Places.{guarded_cells, guarded_shown}
use Rattle.circuit_places.proofs.Sites.{any}
use Rattle.circuit_places.proofs.Stepping.{guarded_steps}
use Rattle.circuit_places.proofs.StillSteps.{guarded_rises, guarded_value}
use Rattle.circuit_places.proofs.System.{Fitted, driven}
use Rattle.circuit_places.proofs.Quiet.{is_step}
use Rattle.circuit_places.proofs.Carry.{Reached, next_reached, enabled_is}
use Rattle.round_time.specs.Longest.{tree_height, var_height}
use Rattle.circuit_time.proofs.Trails.{rail_left, rail_ahead, guarded_trail}
use Rattle.circuit_pace.proofs.BlockTrails.{rail_trail}
use Rattle.circuit_pace.proofs.Counts.{counts, covered}
use Rattle.circuit_pace.proofs.OwnBounded.{all_ordered}
use Rattle.circuit_pace.proofs.OwnLowers.{silent_plain}
use Rattle.circuit_ranks.proofs.Ranks.{assigns_to, listens_on, is_asked, is_received, late_of, late, rail_falls, rail_rises, rank}
use Rattle.circuit_ranks.proofs.Claims.{is_far, LowerThan, Lowered}
use Rattle.circuit_ranks.proofs.StateReads.{asked_is, taken_is, offered_is}
use Rattle.circuit_ranks.proofs.AskedTrails.{assign_falls, listen_rises, received_written}
use Rattle.circuit_ranks.proofs.SiteMoves.{got_rail, got_held, site_left, site_ahead, rail_falls_by, rail_rises_by, got_by, stored_by}
use Rattle.circuit_ranks.proofs.AskedPlaces.{guarded_sure, guarded_got}
use Rattle.circuit_ranks.proofs.OwnKept.{late_most, Follows, kept_far}

-- ---- ranks

-- of a channel's rail
falls_less : (P : TypedProgram) (k : Kind) (f q : ℕ) → suc (rail_falls P k f q) ≤ rail_left k f q
falls_less P Out f q = omega arith
falls_less P In f q = omega arith
falls_less P Chan f q = omega arith

rises_less : (P : TypedProgram) (k : Kind) (h : ℕ) (asked : Bool) → suc (rail_rises P k h asked) ≤ rail_ahead k h
rises_less P Out h asked = omega arith
rises_less P In h true = omega arith
rises_less P In h false = omega arith
rises_less P Chan h asked = omega arith

-- a node that is merged from others may move where it couldn't: what it's merged from turns over
newly : (m now o u d : Bool) → ((m && turns now o (not o)) || d) ≡ false → ((m && turns now u (not u)) || d) ≡ true
    → (m ≡ true) × (o ≡ now) × (u ≡ not now)
newly true true true false d e f = (refl, refl, refl)
newly true false false true d e f = (refl, refl, refl)
newly true true true true d e f = absurd (not_both e f)
newly true false false false d e f = absurd (not_both e f)
newly true true false u d e f = absurd (cc e)
newly true false true u d e f = absurd (cc e)
newly false now o u d e f = absurd (not_both e f)

module _ (P : TypedProgram) (script : List OfferValue) (fitted : Fitted P script) (typed : IsProcess P.channels P.vars P.body)
    {from : Configuration} {moves : ℕ} {x : Whole P.body} (r : Reached P script from moves x) (s : GuardedSpot P.body)
    (on : enabled P script x (own_node s) ≡ true) (still : guarded_steps r.place s ≡ false) where
  -- how many moves follow, and the state after the move
  abbrev of_s : ℕ
  of_s = guarded_trail P (counts P) 0 0 P.body x.root s

  abbrev after : Whole P.body
  after = cells_moved P x (own_node s)

  abbrev next : Reached P script from (suc moves) (cells_moved P x (own_node s))
  next = next_reached P script fitted r (own_node s) on

  plain : guarded_rises s ≡ true → guarded_value P.body x.root s ≡ true
  plain k = ap (λ (q : QElementCells (Cells P.body)). guarded_value P.body q s) r.same ∙ silent_plain P script r s on still k

  follows : Follows P script fitted r s on of_s
  follows = record {
    clears = λ v e g.
        let f = assign_falls P (counts P) v 0 0 P.body r.good.meets x.root s e g plain in (
          f,
          λ received.
              let w = received_written P (counts P) v 2 1 P.body (covered P (all_ordered P.channels P.vars P.body typed)) received in omega (arith, w, f),
        );
    hears = λ c e g. listen_rises P (counts P) c 0 0 P.body r.good.meets x.root s e g plain;
  }

  abbrev Lower : Node P.body → Type 0
  Lower m = LowerThan P script fitted r of_s (own_node s) m

  -- of a node that could move before
  before : (m : Node P.body) → is_far m ≡ true → enabled P script x m ≡ true → is_step P next.place after.wires m ≡ false → Lower m
  before = kept_far P script fitted r s on follows

  -- ---- a channel's acknowledge

  ack_lower : (c : ℕ) → enabled P script after (ack_node c) ≡ true → not (x.wires.ack c) ≡ false → Lower (ack_node c)
  ack_lower c e n = cases (enabled P script x (ack_node c)) (λ (z : enabled P script x (ack_node c) ≡ true). before (ack_node c) refl z n) begins
    where
      not_false : (b : Bool) → not b ≡ false → b ≡ true
      not_false true z = refl
      not_false false z = absurd (cc z)

      high : x.wires.ack c ≡ true
      high = not_false (x.wires.ack c) n

      begins : enabled P script x (ack_node c) ≡ false → Lower (ack_node c)
      begins z =
          let t = newly (is_heard (kind_at P.channels c)) (x.wires.ack c) ((guarded_shown r.place).take c) ((guarded_shown next.place).take c)
          (answers (channel_width P.channels c) x.wires c (completed x.histories c) (offer_at script c))
          (sym (enabled_is P script r (ack_node c)) ∙ z) (sym (enabled_is P script next (ack_node c)) ∙ e) in
          let f = stored_by P (counts P) 0 0 P.body r.good.meets x.root s plain c (taken_is P script r c ∙ (t.1 ∙ high))
          (taken_is P script next c ∙ (t.2 ∙ ap not high)) in
          let g : rank P after (ack_node c) ≡ (counts P).acked c = ap (λ (b : Bool). if b then (counts P).acked c else 0) high in
          inl (omega (arith, f, g))

  -- ---- a rail

  -- it could move before, or all of the line's sites let go of it, or one has taken it up
  rail_begins : (k : Line) (i : ℕ) (one : Bool) → enabled P script after (rail_node k i one) ≡ true
      → (enabled P script x (rail_node k i one) ≡ true)
      ⊎ (((x.wires.rail k i one ≡ true) × (site_left P (counts P) k ≤ of_s))
      ⊎ ((x.wires.rail k i one ≡ false) × (site_ahead P (counts P) k ≤ of_s) × (any (site_rails P.body x.root.inner k i one) ≡ false)
      × ((guarded_shown next.place).offer k i one ≡ true)))
  rail_begins k i one e = cases (enabled P script x (rail_node k i one)) (λ (z : enabled P script x (rail_node k i one) ≡ true). inl z)
      (λ (z : enabled P script x (rail_node k i one) ≡ false). inr (by (turned_rail z) (x.wires.rail k i one) refl))
    where
      turned_rail : enabled P script x (rail_node k i one) ≡ false → (is_merged P k ≡ true) × ((guarded_shown r.place).offer k i one ≡ x.wires.rail k i one)
          × ((guarded_shown next.place).offer k i one ≡ not (x.wires.rail k i one))
      turned_rail z = newly (is_merged P k) (x.wires.rail k i one) ((guarded_shown r.place).offer k i one) ((guarded_shown next.place).offer k i one)
          (driven P script x.wires x.histories k i one) (sym (enabled_is P script r (rail_node k i one)) ∙ z)
          (sym (enabled_is P script next (rail_node k i one)) ∙ e)

      by : (is_merged P k ≡ true) × ((guarded_shown r.place).offer k i one ≡ x.wires.rail k i one)
          × ((guarded_shown next.place).offer k i one ≡ not (x.wires.rail k i one)) → (b : Bool) → x.wires.rail k i one ≡ b
          → ((x.wires.rail k i one ≡ true) × (site_left P (counts P) k ≤ of_s))
          ⊎ ((x.wires.rail k i one ≡ false) × (site_ahead P (counts P) k ≤ of_s) × (any (site_rails P.body x.root.inner k i one) ≡ false)
          × ((guarded_shown next.place).offer k i one ≡ true))
      by t true h = inl (
        h,
        rail_falls_by P (counts P) 0 0 P.body r.good.meets x.root s plain k i one (offered_is P script r k i one ∙ (t.1 ∙ h))
            (offered_is P script next k i one ∙ (t.2 ∙ ap not h)),
      )
      by t false h = inr (
        h,
        rail_rises_by P (counts P) 0 0 P.body r.good.meets x.root s plain k i one (offered_is P script r k i one ∙ (t.1 ∙ h))
            (offered_is P script next k i one ∙ (t.2 ∙ ap not h)),
        offered_is P script r k i one ∙ (t.1 ∙ h),
        t.2 ∙ ap not h,
      )

  -- of a channel
  channel_lower : (c i : ℕ) (one : Bool) → enabled P script after (rail_node (of_channel c) i one) ≡ true → Lower (rail_node (of_channel c) i one)
  channel_lower c i one e = by (rail_begins (of_channel c) i one e)
    where
      now : (b : Bool) → x.wires.rail (of_channel c) i one ≡ b
          → rank P after (rail_node (of_channel c) i one) ≡ (if b then rail_falls P (kind_at P.channels c) ((counts P).acked c) ((counts P).taken c)
          else rail_rises P (kind_at P.channels c) (tree_height (channel_width P.channels c))
          (is_asked (listens_on c) P.body after.root.child after.root.inner))
      now b h = ap (λ (d : Bool). if d then rail_falls P (kind_at P.channels c) ((counts P).acked c) ((counts P).taken c)
          else rail_rises P (kind_at P.channels c) (tree_height (channel_width P.channels c))
          (is_asked (listens_on c) P.body after.root.child after.root.inner)) h

      by : (enabled P script x (rail_node (of_channel c) i one) ≡ true)
          ⊎ (((x.wires.rail (of_channel c) i one ≡ true) × (site_left P (counts P) (of_channel c) ≤ of_s))
          ⊎ ((x.wires.rail (of_channel c) i one ≡ false) × (site_ahead P (counts P) (of_channel c) ≤ of_s)
          × (any (site_rails P.body x.root.inner (of_channel c) i one) ≡ false) × ((guarded_shown next.place).offer (of_channel c) i one ≡ true)))
          → Lower (rail_node (of_channel c) i one)
      by (inl z) = before (rail_node (of_channel c) i one) refl z refl
      by (inr (inl (h, left))) =
          let z = now true h in
          let f = falls_less P (kind_at P.channels c) ((counts P).acked c) ((counts P).taken c) in
          inl (omega (arith, z, f, left))
      by (inr (inr (h, ahead, o, u))) =
          let z = now false h in
          let f = rises_less P (kind_at P.channels c) (tree_height (channel_width P.channels c))
          (is_asked (listens_on c) P.body after.root.child after.root.inner) in
          inl (omega (arith, z, f, ahead))

  -- of a variable, by which it is written
  var_lower : (v i : ℕ) (one : Bool) → enabled P script after (rail_node (of_var v) i one) ≡ true → Lower (rail_node (of_var v) i one)
  var_lower v i one e = by (rail_begins (of_var v) i one e)
    where
      -- where no assignment is asked, a receive has taken it up
      received : any (site_rails P.body x.root.inner (of_var v) i one) ≡ false → (guarded_shown next.place).offer (of_var v) i one ≡ true
          → x.wires.rail (of_var v) i one ≡ false → is_asked (assigns_to v) P.body after.root.child after.root.inner ≡ false → 5 + var_height P v ≤ of_s
      received o u h unasked = got_by P (counts P) 0 0 P.body r.good.meets x.root s plain v i one was is_now
        where
          low : line_ack P x.wires (of_var v) ≡ false
          low = cases (line_ack P x.wires (of_var v))
              (λ (z : line_ack P x.wires (of_var v) ≡ true). absurd (not_both h (next.good.falling (of_var v) i one z u)))
              (λ (z : line_ack P x.wires (of_var v) ≡ false). z)

          unsure : (is_asked (assigns_to v) P.body (guarded_cells next.place).child (guarded_cells next.place).inner ≡ true)
              ⊎ ((j : ℕ) (side : Bool) → (guarded_shown next.place).offer (of_var v) j side ≡ false) → ⊥
          unsure (inl z) = not_both unasked (asked_is P script next (assigns_to v) ∙ z)
          unsure (inr none) = not_both (none i one) u

          quiet : (guarded_shown next.place).says (of_var v) ≡ false
          quiet = cases ((guarded_shown next.place).says (of_var v))
              (λ (z : (guarded_shown next.place).says (of_var v) ≡ true).
              absurd (unsure (guarded_sure v P (wires_seen P x.wires) low next.good.meets next.place next.good.fits z)))
              (λ (z : (guarded_shown next.place).says (of_var v) ≡ false). z)

          was : got_rail P.body x.root.inner v i one ≡ false
          was = cases (got_rail P.body x.root.inner v i one)
              (λ (z : got_rail P.body x.root.inner v i one ≡ true). absurd (not_both o (got_held v i one P.body x.root.inner z)))
              (λ (z : got_rail P.body x.root.inner v i one ≡ false). z)

          is_now : got_rail P.body after.root.inner v i one ≡ true
          is_now = ap (λ (g : QElementCells (Cells P.body)). got_rail P.body g.inner v i one) next.same ∙ guarded_got v i one next.place quiet u

      by : (enabled P script x (rail_node (of_var v) i one) ≡ true)
          ⊎ (((x.wires.rail (of_var v) i one ≡ true) × (site_left P (counts P) (of_var v) ≤ of_s))
          ⊎ ((x.wires.rail (of_var v) i one ≡ false) × (site_ahead P (counts P) (of_var v) ≤ of_s)
          × (any (site_rails P.body x.root.inner (of_var v) i one) ≡ false) × ((guarded_shown next.place).offer (of_var v) i one ≡ true)))
          → Lower (rail_node (of_var v) i one)
      by (inl z) = before (rail_node (of_var v) i one) refl z refl
      by (inr (inl (h, left))) =
          let z : rank P after (rail_node (of_var v) i one) ≡ 1 + var_height P v + (counts P).written v =
          ap (λ (b : Bool). rail_trail (var_height P v) ((counts P).written v) (late P after v) b) h in
          inl (omega (arith, z, left))
      by (inr (inr (h, ahead, o, u))) = inl (cases (is_asked (assigns_to v) P.body after.root.child after.root.inner) soon slow)
        where
          z : rank P after (rail_node (of_var v) i one) ≡ var_height P v + 2 + late P after v
          z = ap (λ (b : Bool). rail_trail (var_height P v) ((counts P).written v) (late P after v) b) h

          soon : is_asked (assigns_to v) P.body after.root.child after.root.inner ≡ true → rank P after (rail_node (of_var v) i one) < of_s
          soon a =
              let l : late P after v ≡ 0 = ap (λ (d : Bool). late_of P d (is_received v P.body)) a in
              let y = z in
              omega (arith, y, l, ahead)

          slow : is_asked (assigns_to v) P.body after.root.child after.root.inner ≡ false → rank P after (rail_node (of_var v) i one) < of_s
          slow n =
              let l = late_most P (is_asked (assigns_to v) P.body after.root.child after.root.inner) (is_received v P.body) in
              let y = z in
              let g = received o u h n in
              omega (arith, y, l, g)

  -- ---- all of these

  far_lower : (m : Node P.body) → is_far m ≡ true → enabled P script after m ≡ true → is_step P next.place after.wires m ≡ false → Lower m
  far_lower (rail_node (of_channel c) i one) far e n = channel_lower c i one e
  far_lower (rail_node (of_var v) i one) far e n = var_lower v i one e
  far_lower (ack_node c) far e n = ack_lower c e n
  far_lower go_node far e n = before go_node far e n
  far_lower (own_node q) far e n = absurd (cc far)
  far_lower (bit_node v i one) far e n = before (bit_node v i one) far e n
  far_lower (wrote_node v i) far e n = before (wrote_node v i) far e n
  far_lower (joint_node v k) far e n = before (joint_node v k) far e n

-- an own node moves, and then another
pub own_far : (P : TypedProgram) (script : List OfferValue) (fitted : Fitted P script) (typed : IsProcess P.channels P.vars P.body)
    {from : Configuration} {moves : ℕ} {x : Whole P.body} (r : Reached P script from moves x) (s : GuardedSpot P.body) (m : Node P.body)
    → is_far m ≡ true → Lowered P script fitted r (own_node s) m
own_far P script fitted typed r s m far n t = far_lower P script fitted typed r s n.on n.still m far t.on t.still
