-- Each own silent move of a statement lets no own move begin but of a shorter trail.
--
-- P: the program; K: how many moves follow the falls of lines; env: what the statement sees; a, g, b, t: where it is; s: a spot; f: that the
-- cells fit; behind: that a high acknowledge has its site under way; e: that the spot's rule fires; plain: that its move is no step.
use Rattle.std.proofs.Common.{◌≡◌, ℕ, suc, ◌+◌, ◌-◌, ◌≤◌, Bool, true, false, List, refl, sym, ap, ◌∙◌, subst, inl, inr, arith}
use Rattle.std.specs.Prelude.{not, ◌&&◌, if◌then◌else◌}
use Rattle.chp_base.specs.declared.span.Span.{Span}
use Rattle.width_check.specs.Processes.{Formula, Process, assigning, sending, receiving, in_turn, side_by_side, Processes, and_member, member_count, Choices, TypedProgram}
use Rattle.width_check.specs.Typing.{kind_at, channel_width}
use Rattle.function_blocks.specs.Rails.{Pairs, one_rule_fires}
use Rattle.function_blocks.specs.Parts.{gate_count}
use Rattle.circuit_places.specs.Lines.{Line, of_channel, of_var, Rails, Seen}
use Rattle.circuit_places.specs.Circuit.{SiteSpot, done, gate, PortSpot, heard, stored, taking, GuardedSpot, child, latch, next, inner, Spot, of_assign, of_send, of_receive, in_members, of_branch, joint, of_loop, ask, in_body, low_turn, of_core, of_guard, of_choice, of_round, ChoiceSpot, this_choice, other_choice, BranchSpot, in_this, in_others, TurnSpot, in_last, in_member, in_later, answer, rule, flipped}
use Rattle.circuit_places.proofs.RailLemmas.{fst_true, snd_true, same_value}
use Rattle.circuit_places.proofs.CoreMoves.{own, guard, branch}
use Rattle.circuit_places.proofs.Flow.{Clean, Backed, or_left, or_right, not_both}
use Rattle.circuit_places.proofs.Meets.{SiteMeets, Meets, TurnMeets, EachMeets, ChoiceMeets, choice_sends, choice_receives, sends, turn_sends, receives, each_receives}
use Rattle.circuit_places.proofs.Talks.{beside, or_false_left, or_false_right}
use Rattle.circuit_places.proofs.Places.{Mode, asks, acks, all_ask, SiteMay, port_may, GuardedAt, g_in, At, rests, at_skip, at_assign, at_send, at_receive, at_turn, at_side, at_body, at_choice, at_turning, at_closing, control_at, inside_at, ChosenAt, this_one, another, chosen_cells, chosen_shown, ChosenFits, chosen_moves, BranchesAt, no_more, and_at, TurnAt, turn_rests, at_last, at_member, at_later, guarded_cells, cells, branch_cells, turn_cells, guarded_shown, shown, branches_shown, turn_shown, site_of, port_of, SiteFits, GuardedFits, Fits, BranchesFit, TurnFits, guarded_moves, moves, branch_moves, turn_moves, can_is}
use Rattle.circuit_places.proofs.Control.{guarded_advance}
use Rattle.circuit_places.proofs.StillSteps.{choice_rises, choice_value, guarded_rises, guarded_value, branch_rises, branch_value, turn_rises, turn_value}
use Rattle.round_time.specs.Longest.{depth, guards_depth, tree_height, var_height, turn_first}
use Rattle.circuit_time.proofs.Trails.{Clearing, rail_left, rail_ahead, back, turn_back, trail}
use Rattle.circuit_time.proofs.Requests.{Plain}
use Rattle.circuit_time.proofs.LeafTrails.{site_site, port_port}
use Rattle.circuit_time.proofs.Spots.{assign_apart, send_apart, receive_apart}
use Rattle.circuit_time.proofs.OwnTrails.{Covers, TurnCovers, EachCovers, ChoiceCovers, Shorter, Led, TurnLed, GuardedLed}
use Rattle.circuit_time.proofs.GuardedTrails.{inner_moves, own_led}
use Rattle.circuit_time.proofs.TurnTrails.{wrapped, member_led, later_led, behind_led, last_led, turn_led}
use Rattle.circuit_pace.proofs.Never.{never}
use Rattle.circuit_pace.proofs.LoopTrails.{skip_led, ask_led, body_led}
use Rattle.circuit_pace.proofs.SideTrails.{BranchLed, this_led, others_led, branch_led}
use Rattle.circuit_pace.proofs.JointTrails.{joint_led}
use Rattle.circuit_pace.proofs.ChosenTrails.{ChosenLed, this_led as this_arm, other_led as other_arm}
use Rattle.circuit_pace.proofs.CoreTrails.{selecting, turning, room_selecting, room_turning}
use Rattle.circuit_pace.proofs.StatementTrails.{selection_led, turning_led}
use Rattle.circuit_pace.proofs.InsideTrails.{chosen_branch}
use Rattle.circuit_pace.proofs.WayTrails.{way_led}
use Rattle.circuit_pace.proofs.PlaceTrails.{selected_led}
use Rattle.circuit_pace.proofs.TurningTrails.{called_led, round_led}
use Rattle.circuit_pace.proofs.ClosingTrails.{closing_led}

-- that a move could be made is said by its rule, or by the place
could_be : {S : Type 0} (s q : S) (c d : Bool) (now before of_s : ℕ) → c ≡ d → Shorter s q c now before of_s → Shorter s q d now before of_s
could_be s q c d now before of_s e (inl less) = inl less
could_be s q c d now before of_s e (inr (ne, on, upto)) = inr (ne, sym e ∙ on, upto)

-- where the acknowledge of a channel is high, what follows the fall of its rail has been counted
abbrev pub Listened : TypedProgram → Clearing → Seen → Type 0
Listened P K env = (c : ℕ) → env.ack (of_channel c) ≡ true → suc (K.acked c) ≤ rail_left (kind_at P.channels c) (K.acked c) (K.taken c)

module _ (P : TypedProgram) (K : Clearing) (env : Seen) (clean : Clean P env) (listened : Listened P K env) where
  -- of a site
  assign_led : (held down x : ℕ) (at : Span) (d : Formula) → SiteMeets P (of_var x) d → Covers P K held down (assigning x at d) → (m : Mode)
      (u : Pairs (gate_count d)) (h : SiteMay d m u) (s : SiteSpot d) → SiteFits (of_var x) d m u env
      → moves env (at_assign {x = x} {at = at} m u h) (of_assign s) ≡ true
      → Led P K held down (assigning x at d) m env (at_assign m u h) (of_assign s)
  assign_led held down x at d meets covers m u h s f e = record { each = here; up = ups s e; falls = down_from s e; less = omega arith }
    where
      here : (q : Spot (assigning x at d))
          → one_rule_fires (rule (assigning x at d) env (asks m) (flipped (assigning x at d) (site_of d (acks m) u) (of_assign s)) q) ≡ true
          → Plain (assigning x at d) (flipped (assigning x at d) (site_of d (acks m) u) (of_assign s)) q
          → Shorter (of_assign s) q (moves env (at_assign {x = x} {at = at} m u h) q)
          (trail P K held down (assigning x at d) (flipped (assigning x at d) (site_of d (acks m) u) (of_assign s)) q)
          (trail P K held down (assigning x at d) (site_of d (acks m) u) q) (trail P K held down (assigning x at d) (site_of d (acks m) u) (of_assign s))
      here (of_assign q) z plain = could_be (of_assign s) (of_assign q) _ _ _ _ _ (can_is env (at_assign {x = x} {at = at} m u h) (of_assign q))
          (wrapped s q (of_assign s) (of_assign q) assign_apart _ _ _ _ (site_site d covers.0 h.known (asks m) (acks m) (env.ack
          (of_var x)) env.bit u clean.single f.1
          (held + (depth d + (2 + var_height P x + K.written x))) down (2 + var_height P x + K.written x) (3 + var_height P x) s (sited s e) q z))
        where
          sited : (s : SiteSpot d) → moves env (at_assign {x = x} {at = at} m u h) (of_assign s) ≡ true
              → one_rule_fires (rule (assigning x at d) env (asks m) (site_of d (acks m) u) (of_assign s)) ≡ true
          sited done e = e
          sited (gate k one) e = e

      ups : (s : SiteSpot d) → moves env (at_assign {x = x} {at = at} m u h) (of_assign s) ≡ true → acks m ≡ false
          → answer (assigning x at d) (flipped (assigning x at d) (site_of d (acks m) u) (of_assign s)) ≡ true
          → (held + back P K down (assigning x at d) (flipped (assigning x at d) (site_of d (acks m) u) (of_assign s))
          ≤ trail P K held down (assigning x at d) (site_of d (acks m) u) (of_assign s))
          × (suc down ≤ back P K down (assigning x at d) (flipped (assigning x at d) (site_of d (acks m) u) (of_assign s)))
      ups done e a z =
          let c = covers.1 in
          let w : (if acks m then down else held + (depth d + (2 + var_height P x + K.written x))) ≡ held + (depth d + (2 + var_height P x + K.written x)) =
          ap (λ (y : Bool). if y then down else held + (depth d + (2 + var_height P x + K.written x))) a in
          (omega (arith, w), omega (arith, c))
      ups (gate k one) e a z = absurd (not_both a z)

      down_from : (s : SiteSpot d) → moves env (at_assign {x = x} {at = at} m u h) (of_assign s) ≡ true → acks m ≡ true
          → answer (assigning x at d) (flipped (assigning x at d) (site_of d (acks m) u) (of_assign s)) ≡ false
          → down ≤ trail P K held down (assigning x at d) (site_of d (acks m) u) (of_assign s)
      down_from done e a z =
          let w : (if acks m then down else held + (depth d + (2 + var_height P x + K.written x))) ≡ down =
          ap (λ (y : Bool). if y then down else held + (depth d + (2 + var_height P x + K.written x))) a in omega (arith, w)
      down_from (gate k one) e a z = absurd (not_both z a)

  send_led : (held down c : ℕ) (at : Span) (d : Formula) → SiteMeets P (of_channel c) d → Covers P K held down (sending c at d) → (m : Mode)
      (u : Pairs (gate_count d)) (h : SiteMay d m u) (s : SiteSpot d) → SiteFits (of_channel c) d m u env
      → moves env (at_send {c = c} {at = at} m u h) (of_send s) ≡ true
      → Led P K held down (sending c at d) m env (at_send m u h) (of_send s)
  send_led held down c at d meets covers m u h s f e = record { each = here; up = ups s e; falls = down_from s e; less = omega arith }
    where
      here : (q : Spot (sending c at d))
          → one_rule_fires (rule (sending c at d) env (asks m) (flipped (sending c at d) (site_of d (acks m) u) (of_send s)) q) ≡ true
          → Plain (sending c at d) (flipped (sending c at d) (site_of d (acks m) u) (of_send s)) q
          → Shorter (of_send s) q (moves env (at_send {c = c} {at = at} m u h) q)
          (trail P K held down (sending c at d) (flipped (sending c at d) (site_of d (acks m) u) (of_send s)) q)
          (trail P K held down (sending c at d) (site_of d (acks m) u) q) (trail P K held down (sending c at d) (site_of d (acks m) u) (of_send s))
      here (of_send q) z plain = could_be (of_send s) (of_send q) _ _ _ _ _ (can_is env (at_send {c = c} {at = at} m u h) (of_send q))
          (wrapped s q (of_send s) (of_send q) send_apart _ _ _ _ (site_site d covers.0 h.known (asks m) (acks m) (env.ack
          (of_channel c)) env.bit u clean.single f.1
          (held + (depth d + rail_left (kind_at P.channels c) (K.acked c) (K.taken c))) down (rail_left (kind_at P.channels c) (K.acked c) (K.taken c))
          (rail_ahead (kind_at P.channels c) (tree_height (channel_width P.channels c))) s (sited s e) q z))
        where
          sited : (s : SiteSpot d) → moves env (at_send {c = c} {at = at} m u h) (of_send s) ≡ true
              → one_rule_fires (rule (sending c at d) env (asks m) (site_of d (acks m) u) (of_send s)) ≡ true
          sited done e = e
          sited (gate k one) e = e

      ups : (s : SiteSpot d) → moves env (at_send {c = c} {at = at} m u h) (of_send s) ≡ true → acks m ≡ false
          → answer (sending c at d) (flipped (sending c at d) (site_of d (acks m) u) (of_send s)) ≡ true
          → (held + back P K down (sending c at d) (flipped (sending c at d) (site_of d (acks m) u) (of_send s))
          ≤ trail P K held down (sending c at d) (site_of d (acks m) u) (of_send s))
          × (suc down ≤ back P K down (sending c at d) (flipped (sending c at d) (site_of d (acks m) u) (of_send s)))
      ups done e a z =
          let b = covers.1 in
          let l = listened c (snd_true (asks m) (env.ack (of_channel c)) (subst (λ (y : Bool). (if y then not (env.ack (of_channel c))
          else asks m && env.ack (of_channel c)) ≡ true) a e)) in
          let w : (if acks m then down else held + (depth d + rail_left (kind_at P.channels c) (K.acked c) (K.taken c)))
          ≡ held + (depth d + rail_left (kind_at P.channels c) (K.acked c) (K.taken c)) =
          ap (λ (y : Bool). if y then down else held + (depth d + rail_left (kind_at P.channels c) (K.acked c) (K.taken c))) a in
          (omega (arith, w), omega (arith, b, l))
      ups (gate k one) e a z = absurd (not_both a z)

      down_from : (s : SiteSpot d) → moves env (at_send {c = c} {at = at} m u h) (of_send s) ≡ true → acks m ≡ true
          → answer (sending c at d) (flipped (sending c at d) (site_of d (acks m) u) (of_send s)) ≡ false
          → down ≤ trail P K held down (sending c at d) (site_of d (acks m) u) (of_send s)
      down_from done e a z =
          let w : (if acks m then down else held + (depth d + rail_left (kind_at P.channels c) (K.acked c) (K.taken c))) ≡ down =
          ap (λ (y : Bool). if y then down else held + (depth d + rail_left (kind_at P.channels c) (K.acked c) (K.taken c))) a in omega (arith, w)
      down_from (gate k one) e a z = absurd (not_both z a)

  receive_led : (held down c x : ℕ) (at to : Span) → Covers P K held down (receiving c at x to) → (m : Mode) (k : Bool) (q : Rails) (h : port_may m k ≡ true)
      (s : PortSpot) → moves env (at_receive {c = c} {x = x} {at = at} {to = to} m k q h) (of_receive s) ≡ true
      → Led P K held down (receiving c at x to) m env (at_receive m k q h) (of_receive s)
  receive_led held down c x at to covers m k q h s e = record { each = here; up = ups s e; falls = down_from s e; less = omega arith }
    where
      here : (w : Spot (receiving c at x to))
          → one_rule_fires (rule (receiving c at x to) env (asks m) (flipped (receiving c at x to) (port_of (acks m) k q) (of_receive s)) w) ≡ true
          → Plain (receiving c at x to) (flipped (receiving c at x to) (port_of (acks m) k q) (of_receive s)) w
          → Shorter (of_receive s) w (moves env (at_receive {c = c} {x = x} {at = at} {to = to} m k q h) w)
          (trail P K held down (receiving c at x to) (flipped (receiving c at x to) (port_of (acks m) k q) (of_receive s)) w)
          (trail P K held down (receiving c at x to) (port_of (acks m) k q) w) (trail P K held down (receiving c at x to) (port_of (acks m) k q) (of_receive s))
      here (of_receive w) z plain = wrapped s w (of_receive s) (of_receive w) receive_apart _ _ _ _
          (port_port (asks m) (acks m) k (env.ack (of_var x)) (env.ack (of_channel c)) (env.rail (of_channel c)) q
          (held + (3 + var_height P x + K.written x)) down (var_height P x) (K.acked c) (K.written x) s e w z)

      ups : (s : PortSpot) → moves env (at_receive {c = c} {x = x} {at = at} {to = to} m k q h) (of_receive s) ≡ true → acks m ≡ false
          → answer (receiving c at x to) (flipped (receiving c at x to) (port_of (acks m) k q) (of_receive s)) ≡ true
          → (held + back P K down (receiving c at x to) (flipped (receiving c at x to) (port_of (acks m) k q) (of_receive s))
          ≤ trail P K held down (receiving c at x to) (port_of (acks m) k q) (of_receive s))
          × (suc down ≤ back P K down (receiving c at x to) (flipped (receiving c at x to) (port_of (acks m) k q) (of_receive s)))
      ups heard e a z =
          let b = covers.0 in
          let d = covers.1 in
          let w : (if acks m then down else held + (3 + var_height P x + K.written x)) ≡ held + (3 + var_height P x + K.written x) =
          ap (λ (y : Bool). if y then down else held + (3 + var_height P x + K.written x)) a in
          (omega (arith, w), omega (arith, b, d))
      ups stored e a z = absurd (not_both a z)
      ups (taking i one) e a z = absurd (not_both a z)

      down_from : (s : PortSpot) → moves env (at_receive {c = c} {x = x} {at = at} {to = to} m k q h) (of_receive s) ≡ true → acks m ≡ true
          → answer (receiving c at x to) (flipped (receiving c at x to) (port_of (acks m) k q) (of_receive s)) ≡ false
          → down ≤ trail P K held down (receiving c at x to) (port_of (acks m) k q) (of_receive s)
      down_from heard e a z =
          let w : (if acks m then down else held + (3 + var_height P x + K.written x)) ≡ down =
          ap (λ (y : Bool). if y then down else held + (3 + var_height P x + K.written x)) a in omega (arith, w)
      down_from stored e a z = absurd (not_both z a)
      down_from (taking i one) e a z = absurd (not_both z a)

  mutual
    pub guarded_led : (plus minus : ℕ) {p : Process} {m : Mode} → Meets P p → Covers P K 2 (suc plus) p → (g : GuardedAt p m) (s : GuardedSpot p)
        → GuardedFits g env → Backed p (guarded_shown g) env → guarded_moves env g s ≡ true
        → (guarded_rises s ≡ true → guarded_value p (guarded_cells g) s ≡ true) → GuardedLed P K plus minus p m env g s
    guarded_led plus minus {p = p} meets covers (g_in u a h) (inner s) f behind e plain = inner_moves P K plus minus env u a h s
        (led 2 (1 + plus) meets (let z : suc plus
        ≡ 1 + plus = omega arith in subst (λ (d : ℕ). Covers P K 2 d p) z covers) a s f record { send = behind.send; receive = behind.receive } e plain)
    guarded_led plus minus meets covers g child f behind e plain = own_led P K plus minus env g child clean meets (λ x z. cc z) f behind e
    guarded_led plus minus meets covers g latch f behind e plain = own_led P K plus minus env g latch clean meets (λ x z. cc z) f behind e
    guarded_led plus minus meets covers g next f behind e plain = own_led P K plus minus env g next clean meets (λ x z. cc z) f behind e
    guarded_led plus minus meets covers _ (inner s) f behind e plain = never e

    pub led : (held down : ℕ) {p : Process} {m : Mode} → Meets P p → Covers P K held down p → (a : At p m) (s : Spot p) → Fits a env
        → Backed p (shown a) env → moves env a s ≡ true → Plain p (cells a) s → Led P K held down p m env a s
    led held down meets covers rests s f behind e plain = never e
    led held down meets covers (at_skip m h) s f behind e plain = skip_led P K held down env m h s e plain
    led held down meets covers (at_assign {x = x} {at = at} {e = d} m u h) (of_assign s) f behind e plain =
        assign_led held down x at d meets covers m u h s f e
    led held down meets covers (at_send {c = c} {at = at} {e = d} m u h) (of_send s) f behind e plain =
        send_led held down c at d meets covers m u h s f e
    led held down meets covers (at_receive {c = c} {x = x} {at = at} {to = to} m k q h) (of_receive s) f behind e plain =
        receive_led held down c x at to covers m k q h s e
    led held down meets covers (at_turn t) (in_members s) f behind e plain =
        turn_led P K held down env t s (all_turn_led held down meets covers t s f record { send = behind.send; receive = behind.receive } e plain)
    led held down meets covers (at_side {members = members} m t b h) (of_branch s) f behind e plain = branch_led P K held down env m t b h s
        (each_led (tree_height (member_count members) + (held + (2 + tree_height (member_count members) + down)))
        (tree_height (member_count members) + down)
        (asks m) meets.2 covers b h.asked s f record { send = behind.send; receive = behind.receive } e plain)
    led held down meets covers (at_side m t b h) (joint k) f behind e plain = joint_led P K held down env m t b h k e
    led held down meets covers (at_body a) (in_body s) f behind e plain = body_led P K held down env a s
        (led 1 0 meets covers a s f record { send = behind.send; receive = behind.receive } e plain)
    led held down meets covers (at_body a) ask f behind e plain = ask_led P K held down env clean a f e plain
    led held down meets covers (at_body a) of_loop f behind e plain = never e
    led held down meets covers (at_choice (control_at c)) (of_core s) f behind e plain =
        selected_led P K held down env clean meets.1 meets.2 covers.0 c (own s) f behind e plain
    led held down meets covers (at_choice (control_at c)) (of_guard s) f behind e plain =
        selected_led P K held down env clean meets.1 meets.2 covers.0 c (guard s) f behind e plain
    led held down meets covers (at_choice (control_at c)) (of_choice s) f behind e plain = never e
    led held down meets covers (at_choice {choices = choices} (inside_at a w)) (of_core s) f behind e plain =
        selection_led P K held down env (inside_at a w) (own s)
        (way_led P K (selecting P held down choices) env clean (room_selecting P held down choices) a w f s e)
    led held down meets covers (at_choice (inside_at a w)) (of_guard s) f behind e plain = never e
    led held down meets covers (at_choice {choices = choices} (inside_at a w)) (of_choice s) f behind e plain =
        selection_led P K held down env (inside_at a w) (branch s) (chosen_branch P K (selecting P held down choices) env clean a w s
        (room_selecting P held down choices) f e (chosen_led (held + 3) (1 + down) meets.2 covers.1 a s f behind.send behind.receive e plain))
    led held down meets covers (at_turning (control_at c)) (of_core s) f behind e plain =
        called_led P K held down env clean meets.1 meets.2 covers.0 c (own s) f behind e plain
    led held down meets covers (at_turning (control_at c)) (of_guard s) f behind e plain =
        called_led P K held down env clean meets.1 meets.2 covers.0 c (guard s) f behind e plain
    led held down meets covers (at_turning (control_at c)) (of_choice s) f behind e plain = never e
    led held down meets covers (at_turning {choices = choices} (inside_at a w)) (of_core s) f behind e plain =
        turning_led P K held down env (inside_at a w) refl (own s)
        (way_led P K (turning P held down choices) env clean (room_turning P held down choices) a w f s e)
    led held down meets covers (at_turning (inside_at a w)) (of_guard s) f behind e plain = never e
    led held down meets covers (at_turning {choices = choices} (inside_at a w)) (of_choice s) f behind e plain =
        turning_led P K held down env (inside_at a w) refl (branch s) (chosen_branch P K (turning P held down choices) env clean a w s
        (room_turning P held down choices) f e (chosen_led 4 (3 + guards_depth choices) meets.2 covers.1 a s f behind.send behind.receive e plain))
    led held down meets covers (at_turning x) (of_round s) f behind e plain = round_led P K held down env clean meets.1 covers.0 x s f e plain
    led held down meets covers (at_closing c) s f behind e plain = closing_led P K held down env c s e

    pub chosen_led : (held down : ℕ) {choices : Choices} {k : Mode} → ChoiceMeets P choices → ChoiceCovers P K held down choices
        → (a : ChosenAt choices k) (s : ChoiceSpot choices) → ChosenFits a env
        → ((j : Line) → choice_sends choices j ≡ true → env.ack j ≡ true → (chosen_shown a).talk j ≡ true)
        → ((c : ℕ) → choice_receives choices c ≡ true → env.ack (of_channel c) ≡ true → (chosen_shown a).listen c ≡ true) → chosen_moves env a s ≡ true
        → (choice_rises s ≡ true → choice_value choices (chosen_cells a) s ≡ true) → ChosenLed P K held down choices k env a s
    chosen_led held down meets covers (this_one {p = p} {more = more} a) (this_choice s) f back hears e plain = this_arm P K held down env a s
        (led held down meets.0 covers.0 a s f record {
          send = λ j h. back j (or_left (sends p j) (choice_sends more j) h);
          receive = λ c h. hears c (or_left (receives p c) (choice_receives more c) h);
        } e plain)
    chosen_led held down meets covers (another {p = p} {more = more} a) (other_choice s) f back hears e plain = other_arm P K held down env a s
        (chosen_led held down meets.1 covers.1 a s f (λ j h. back j (or_right (sends p j) (choice_sends more j) h))
        (λ c h. hears c (or_right (receives p c) (choice_receives more c) h)) e plain)
    chosen_led held down meets covers (this_one a) (other_choice s) f back hears e plain = never e
    chosen_led held down meets covers (another a) (this_choice s) f back hears e plain = never e

    pub each_led : (plus minus : ℕ) (r : Bool) {ms : Processes} {ks : List Mode} → EachMeets P ms → EachCovers P K (suc plus) ms
        → (b : BranchesAt ms ks) → all_ask r ks ≡ true → (s : BranchSpot ms) → BranchesFit b env → Backed (side_by_side ms) (branches_shown b) env
        → branch_moves env b s ≡ true → (branch_rises s ≡ true → branch_value ms (branch_cells b) s ≡ true) → BranchLed P K plus minus ms ks r env b s
    each_led plus minus r meets covers no_more asked s f behind e plain = never e
    each_led plus minus r meets covers (and_at {p = p} {more = more} {k = k} g b) asked (in_this s) f behind e plain =
        this_led P K plus minus r env g b (snd_true _ _ asked) (same_value (asks k) r (fst_true _ _ asked)) s
        (guarded_led plus minus meets.0 covers.0 g s f.0 record {
          send = λ k h z. sym (or_false_right ((guarded_shown g).talk k) ((branches_shown b).talk k) ((beside meets.1 g b).not_theirs k h))
              ∙ behind.send k (or_left (sends p k) (turn_sends more k) h) z;
          receive = λ c h z. sym (or_false_right ((guarded_shown g).listen c) ((branches_shown b).listen c) ((beside meets.1 g b).deaf_theirs c h))
              ∙ behind.receive c (or_left (receives p c) (each_receives more c) h) z;
        } e plain)
    each_led plus minus r meets covers (and_at {p = p} {more = more} {k = k} g b) asked (in_others s) f behind e plain =
        others_led P K plus minus r env g b (same_value (asks k) r (fst_true _ _ asked)) s
        (each_led plus minus r meets.2 covers.1 b (snd_true _ _ asked) s f.1 record {
          send = λ k h z. sym (or_false_left ((guarded_shown g).talk k) ((branches_shown b).talk k) ((beside meets.1 g b).not_mine k h))
              ∙ behind.send k (or_right (sends p k) (turn_sends more k) h) z;
          receive = λ c h z. sym (or_false_left ((guarded_shown g).listen c) ((branches_shown b).listen c) ((beside meets.1 g b).deaf_mine c h))
              ∙ behind.receive c (or_right (receives p c) (each_receives more c) h) z;
        } e plain)

    pub all_turn_led : (held down : ℕ) {ms : Processes} {m : Mode} → TurnMeets P ms → TurnCovers P K held down ms → (t : TurnAt ms m)
        (s : TurnSpot ms) → TurnFits t env → Backed (in_turn ms) (turn_shown t) env → turn_moves env t s ≡ true
        → (turn_rises s ≡ true → turn_value ms (turn_cells t) s ≡ true) → TurnLed P K held down ms m env t s
    all_turn_led held down meets covers turn_rests s f behind e plain = never e
    all_turn_led held down meets covers (at_last {p = p} a) (in_last s) f behind e plain = last_led P K held down env a s
        (led held down meets covers a s f record {
          send = λ k h. behind.send k (or_left (sends p k) false h);
          receive = λ c h. behind.receive c (or_left (receives p c) false h);
        } e plain)
    all_turn_led held down meets covers (at_member {p = p} {q = q} {more = more} g) (in_member s) f behind e plain =
        let inside : Backed p (guarded_shown g) env = record {
          send = λ k h. behind.send k (or_left (sends p k) (turn_sends (and_member q more) k) h);
          receive = λ c h. behind.receive c (or_left (receives p c) (each_receives (and_member q more) c) h);
        } in
        member_led P K held down env meets.1 g s record { send = behind.send; receive = behind.receive } (guarded_advance P env clean meets.0 g s f inside e)
        (guarded_led (turn_first P (and_member q more) - 1) (turn_back P K down (and_member q more) (low_turn
        (and_member q more))) meets.0 covers.0 g s f
        inside e plain)
    all_turn_led held down meets covers (at_member g) (in_later s) f behind e plain = never e
    all_turn_led held down meets covers (at_later {p = p} {q = q} {more = more} g t h) (in_later s) f behind e plain =
        later_led P K held down env g t h s (all_turn_led (held + 2) down meets.1 covers.1 t s f record {
          send = λ k h. behind.send k (or_right (sends p k) (turn_sends (and_member q more) k) h);
          receive = λ c h. behind.receive c (or_right (receives p c) (each_receives (and_member q more) c) h);
        } e plain)
    all_turn_led held down meets covers (at_later g t h) (in_member s) f behind e plain = behind_led P K held down env clean g t h s f e
