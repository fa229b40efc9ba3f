-- What a move of a line's rail or acknowledge does to the whole circuit.
use Rattle.std.proofs.Common.{◌≡◌, ◌≢◌, ℕ, zero, suc, ◌/◌, ◌==◌, ◌<◌, ◌≤◌, Bool, true, false, List, refl, sym, ap, ◌∙◌, subst, inl, arith}
use Rattle.std.specs.Prelude.{not, ◌&&◌, if◌then◌else◌, Option, Some, None, slice_get, is_some}
use Rattle.std.proofs.Math.Path.{fun_ext}
use Rattle.env_script.specs.Environment.{is_odd}
use Rattle.env_script.specs.declared.script.Count.{Count}
use Rattle.env_script.specs.Scripts.{OfferValue, gives, takes, nothing, offer_at, is_over}
use Rattle.env_script.specs.Runs.{completed}
use Rattle.width_check.specs.Processes.{Process, TypedProgram}
use Rattle.chp_meaning.specs.Terms.{opened}
use Rattle.width_check.specs.Typing.{kind_at, channel_width, var_width}
use Rattle.circuit_places.specs.Lines.{Line, of_channel, of_var, same_line, line_width, Rails}
use Rattle.circuit_places.specs.Circuit.{low, GuardedSpot, turns, one_rule_fires, same_bit, rails_turned, site_rails}
use Rattle.circuit_places.specs.Whole.{Wires, wires_seen, line_ack, is_heard, is_merged, bit_rule, wrote_rule, value_on, neutral_on, number_rail, brings, drives, offers, Node, go_node, own_node, rail_node, ack_node, bit_node, wrote_node, joint_node, answers, rail_turned}
use Rattle.function_blocks.specs.RailFacts.{covers}
use Rattle.circuit_places.proofs.RailLemmas.{fst_true, snd_true, both_true, not_true, same_value, neutral_low, each_bit}
use Rattle.circuit_places.proofs.LineNames.{same_number, self_line, same_line_is}
use Rattle.circuit_places.proofs.Places.{Mode, idle, running, answered, returning, GuardedAt, guarded_cells, guarded_shown, GuardedFits, guarded_writing, guarded_moves}
use Rattle.circuit_places.proofs.Writing.{guarded_writing_unread}
use Rattle.circuit_places.proofs.Left.{guarded_left, guarded_left_done}
use Rattle.circuit_places.proofs.Exchange.{Fired, none_fired}
use Rattle.circuit_places.proofs.Hears.{heard_on, Hearing}
use Rattle.circuit_places.proofs.Flow.{or_map, cases}
use Rattle.circuit_places.proofs.Change.{GuardedChanged, guarded_changed, AckTurned, Ready, ready_down, Kept, kept_down, Free, free_down, Any, any_down, Received, still_leaves, raise_leaves, lower_leaves, RailMoved, rail_up_leaves, rail_down_leaves}
use Rattle.circuit_places.proofs.Sites.{is_nil, any_not_nil, same_sites, guarded_offered}
use Rattle.circuit_places.proofs.Fires.{Sent, guarded_fires, guarded_still, OneSite, guarded_site}
use Rattle.circuit_places.proofs.Talks.{either, guarded_offers_talks, guarded_talks_sends, guarded_takes_listens, guarded_listens_receives}
use Rattle.circuit_places.proofs.Meets.{receives, sends_merged, receives_heard}
use Rattle.circuit_places.proofs.BitTable.{may}
use Rattle.circuit_places.proofs.Blocks.{Block, now_at, write_role, WriteMoved, write_moved}
use Rattle.circuit_places.proofs.System.{Good, clean_of, can, driven, sent_turns, heard_turns, root_left, Next, Freed, Fitted, takes_of, may_low, may_high, up_low, down_high}

-- the value of a rail where one is turned over
pub data Turned (w : Wires) (k : Line) (i : ℕ) (one : Bool) (c : Line) (j : ℕ) (side : Bool) : Type 0 where
  this : c ≡ k → j ≡ i → side ≡ one → (rail_turned w k i one).rail c j side ≡ not (w.rail k i one) → Turned w k i one c j side
  that : (rail_turned w k i one).rail c j side ≡ w.rail c j side → Turned w k i one c j side

pub turned_at : (w : Wires) (k : Line) (i : ℕ) (one : Bool) (c : Line) (j : ℕ) (side : Bool) → Turned w k i one c j side
turned_at w k i one c j side = line (same_line c k) refl
  where
    bit : c ≡ k → (rail_turned w k i one).rail c j side ≡ rails_turned (w.rail k) i one j side → (b : Bool) → ((j == i) && same_bit side one) ≡ b
        → Turned w k i one c j side
    bit e h true z = this e (same_number j i (fst_true (j == i) (same_bit side one) z)) (same_value side one (snd_true (j == i) (same_bit side one) z))
        (h ∙ ap (λ b. if b then not (w.rail k i one) else w.rail k j side) z)
    bit e h false z = that (h ∙ (ap (λ b. if b then not (w.rail k i one) else w.rail k j side) z ∙ sym (ap (λ l. w.rail l j side) e)))

    line : (b : Bool) → same_line c k ≡ b → Turned w k i one c j side
    line true e = bit (same_line_is c k e) (ap (λ (b : Bool). (if b then rails_turned (w.rail k) i one else w.rail c) j side) e)
        ((j == i) && same_bit side one) refl
    line false e = that (ap (λ (b : Bool). (if b then rails_turned (w.rail k) i one else w.rail c) j side) e)

-- the acknowledges don't change with a rail
pub rail_acks : (P : TypedProgram) (w : Wires) (k : Line) (i : ℕ) (one : Bool) (c : Line) → line_ack P (rail_turned w k i one) c ≡ line_ack P w c
rail_acks P w k i one (of_channel c) = refl
rail_acks P w k i one (of_var x) = refl

-- a rail of a bit of a variable's line may move where its neighbour and the acknowledge let it
pub write_rises : (x w : Rails) (wrote : ℕ → Bool) (va : Bool) (i : ℕ) (one : Bool) → w i one ≡ false → w i (not one) ≡ false → va ≡ false
    → may (write_role one) (now_at x w wrote va i) ≡ true
write_rises x w wrote va i true a b c = ap (λ z. if z then va else not va && not (w i false)) a ∙ (ap (λ z. not z && not (w i false)) c ∙ ap not b)
write_rises x w wrote va i false a b c = ap (λ z. if z then va else not va && not (w i true)) a ∙ (ap (λ z. not z && not (w i true)) c ∙ ap not b)

pub write_falls : (x w : Rails) (wrote : ℕ → Bool) (va : Bool) (i : ℕ) (one : Bool) → w i one ≡ true → va ≡ true
    → may (write_role one) (now_at x w wrote va i) ≡ true
write_falls x w wrote va i true a c = ap (λ z. if z then va else not va && not (w i false)) a ∙ c
write_falls x w wrote va i false a c = ap (λ z. if z then va else not va && not (w i true)) a ∙ c

-- who drives rails gives values
pub gives_of : (n : ℕ) (w : Wires) (c done : ℕ) (offer : OfferValue) (i : ℕ) (one : Bool) → offers n w c done offer i one ≡ true
    → (values : List ℕ) × (offer ≡ gives values)
gives_of n w c done (gives values) i one e = (values, refl)
gives_of n w c done (takes count) i one e = absurd (cc e)
gives_of n w c done nothing i one e = absurd (cc e)

pub takes_gives : (count : Count) (values : List ℕ) → takes count ≡ gives values → ⊥
takes_gives count values e = cc e

pub same_channel : (c d : ℕ) → of_channel c ≡ of_channel d → c ≡ d
same_channel c d e = cc e

-- a rail that brings a value is one of a bit, and not both are
pub brings_below : (n : ℕ) (next : Option ℕ) (i : ℕ) (one : Bool) → brings n next i one ≡ true → i < n
brings_below n None i one e = absurd (cc e)
brings_below n (Some v) i one e = number_below n v i one e
  where
    number_below : (n v i : ℕ) (one : Bool) → number_rail n v i one ≡ true → i < n
    number_below zero v i one e = absurd (cc e)
    number_below (suc n) v zero one e = omega arith
    number_below (suc n) v (suc i) one e = let g : i < n = number_below n (v / 2) i one e in omega (arith, g)

brings_one : (n : ℕ) (next : Option ℕ) (i : ℕ) (a b : Bool) → (a ≡ b → ⊥) → brings n next i a ≡ true → brings n next i b ≡ true → ⊥
brings_one n None i a b ne p q = cc p
brings_one n (Some v) i a b ne p q = number_one n v i a b ne p q
  where
    number_one : (n v i : ℕ) (a b : Bool) → (a ≡ b → ⊥) → number_rail n v i a ≡ true → number_rail n v i b ≡ true → ⊥
    number_one zero v i a b ne p q = cc p
    number_one (suc n) v zero a b ne p q = ne (sym (same_value (is_odd v) a p) ∙ same_value (is_odd v) b q)
    number_one (suc n) v (suc i) a b ne p q = number_one n (v / 2) i a b ne p q

-- a rail that it raises
pub drives_up : (n : ℕ) (w : Wires) (c : ℕ) (next : Option ℕ) (i : ℕ) (one : Bool) → w.ack c ≡ false → drives n w c next i one ≡ true
    → (brings n next i one ≡ true) × (w.rail (of_channel c) i true ≡ false) × (w.rail (of_channel c) i false ≡ false)
drives_up n w c next i one low e =
    let z : (brings n next i one && (not (w.rail (of_channel c) i true) && not (w.rail (of_channel c) i false))) ≡ true =
    sym (ap (λ b. if b then w.rail (of_channel c) i one else brings n next i one &&
    (not (w.rail (of_channel c) i true) && not (w.rail (of_channel c) i false))) low) ∙ e in
    let y = snd_true (brings n next i one) (not (w.rail (of_channel c) i true) && not (w.rail (of_channel c) i false)) z in (
      fst_true (brings n next i one) (not (w.rail (of_channel c) i true) && not (w.rail (of_channel c) i false)) z,
      not_true (w.rail (of_channel c) i true) (fst_true (not (w.rail (of_channel c) i true)) (not (w.rail (of_channel c) i false)) y),
      not_true (w.rail (of_channel c) i false) (snd_true (not (w.rail (of_channel c) i true)) (not (w.rail (of_channel c) i false)) y),
    )

module _ (P : TypedProgram) (script : List OfferValue) {m : Mode} {g : GuardedAt P.body m} {w : Wires} (hs : List (List ℕ)) (good : Good P m g w) where
  -- what leaves the acknowledges, the variables' rails and those of channels on which the program receives leaves the
  -- statements
  pub still_changed : (now : Wires) → ((k : Line) → line_ack P now k ≡ line_ack P w k) → now.bit ≡ w.bit → Received P (wires_seen P w) (wires_seen P now)
      → GuardedChanged P.body m (wires_seen P w) (wires_seen P now) g
  still_changed now same bits rails = guarded_changed P (wires_seen P w) (wires_seen P now) Any any_down
      (still_leaves P (wires_seen P w) (wires_seen P now) refl same bits rails) g good.meets tt good.fits

  pub still_left : (now : Wires) → ((k : Line) → line_ack P now k ≡ line_ack P w k) → root_left (line_ack P now) g ≡ root_left (line_ack P w) g
  still_left now same = ap (λ (a : Line → Bool). root_left a g) (fun_ext same)

  -- what is read isn't being written
  pub calm : (v : ℕ) → (guarded_shown g).read v ≡ true → guarded_writing (line_ack P w) g v ≡ false
  calm v h = cases (guarded_writing (line_ack P w) g v)
      (λ (z : guarded_writing (line_ack P w) g v ≡ true). absurd (cc (guarded_writing_unread P (line_ack P w) g good.meets v z, h)))
      (λ (z : guarded_writing (line_ack P w) g v ≡ false). z)

  -- what is freed where no acknowledge turns over
  pub freed : (now : Wires) (x : ℕ) (A : Type 0) → now.bit x ≡ w.bit x → ((k : Line) → line_ack P now k ≡ line_ack P w k)
      → Freed P w now (guarded_writing (line_ack P w) g x) (guarded_writing (line_ack P now) g x) x A
  freed now x A bits same e = (bits, inl (sym (ap (λ (a : Line → Bool). guarded_writing a g x) (fun_ext same)) ∙ e))

  -- the site of a line of which one is under way
  site_of : (k : Line) → (guarded_shown g).talk k ≡ true → OneSite P k (guarded_shown g)
  site_of k e = guarded_site P (wires_seen P w) (clean_of good) g good.meets good.fits k e

  one : (k : Line) (i : ℕ) → (guarded_shown g).offer k i true ≡ true → (guarded_shown g).offer k i false ≡ true → ⊥
  one k i p q = (site_of k (guarded_offers_talks g k i true p)).single i p q

  pub other : (k : Line) (i : ℕ) (side : Bool) → (guarded_shown g).offer k i side ≡ true → (guarded_shown g).offer k i (not side) ≡ true → ⊥
  other k i true p q = one k i p q
  other k i false p q = one k i q p

  pub other_low : (k : Line) (i : ℕ) (side : Bool) → is_merged P k ≡ true → line_ack P w k ≡ false → (guarded_shown g).offer k i side ≡ true
      → w.rail k i (not side) ≡ false
  other_low k i side n l o = cases (w.rail k i (not side)) (λ (h : w.rail k i (not side) ≡ true). absurd (other k i side o (good.rising k i (not side) n l h)))
      (λ (h : w.rail k i (not side) ≡ false). h)

  pub offered_below : (k : Line) (i : ℕ) (side : Bool) → (guarded_shown g).offer k i side ≡ true → i < line_width P k
  offered_below k i side o = (site_of k (guarded_offers_talks g k i side o)).below i side o

  -- over valid rails each held rail is high
  all_high : (k : Line) → is_merged P k ≡ true → line_ack P w k ≡ false → is_some (value_on (line_width P k) (w.rail k)) ≡ true → (i : ℕ) (side : Bool)
      → (guarded_shown g).offer k i side ≡ true → w.rail k i side ≡ true
  all_high k n low some i side o =
      covers (line_width P k) (w.rail k) ((guarded_shown g).offer k) (λ j b h. good.rising k j b n low h) (λ j p q. one k j p q) some i side
      (offered_below k i side o) o

  rail_moved : (c i : ℕ) (side : Bool) → RailMoved P (wires_seen P w) (wires_seen P (rail_turned w (of_channel c) i side)) c i side
  rail_moved c i side = record {
    acks = rail_acks P w (of_channel c) i side;
    bits = refl;
    widths = refl;
    here = ap (λ (b : Bool). if b then rails_turned (w.rail (of_channel c)) i side else w.rail (of_channel c)) (self_line (of_channel c));
    far = λ d e. ap (λ (b : Bool). if b then rails_turned (w.rail (of_channel c)) i side else w.rail (of_channel d)) e;
  }

  -- what a rail's move does to the statements
  rail_up_changed : (k : Line) (i : ℕ) (side : Bool) → w.rail k i side ≡ false → ((c : ℕ) → of_channel c ≡ k → (guarded_shown g).take c ≡ false)
      → GuardedChanged P.body m (wires_seen P w) (wires_seen P (rail_turned w k i side)) g
  rail_up_changed (of_var v) i side r free = still_changed (rail_turned w (of_var v) i side) (rail_acks P w (of_var v) i side) refl (λ c h. refl)
  rail_up_changed (of_channel c) i side r free = guarded_changed P (wires_seen P w) (wires_seen P (rail_turned w (of_channel c) i side)) (Free c) (free_down c)
      (rail_up_leaves P (wires_seen P w) (wires_seen P (rail_turned w (of_channel c) i side)) c i side (rail_moved c i side) r) g good.meets
      (record { take = free c refl }) good.fits

  rail_down_changed : (k : Line) (i : ℕ) (side : Bool) → w.rail k i side ≡ true → line_ack P w k ≡ true
      → GuardedChanged P.body m (wires_seen P w) (wires_seen P (rail_turned w k i side)) g
  rail_down_changed (of_var v) i side r high = still_changed (rail_turned w (of_var v) i side) (rail_acks P w (of_var v) i side) refl (λ c h. refl)
  rail_down_changed (of_channel c) i side r high = guarded_changed P (wires_seen P w) (wires_seen P (rail_turned w (of_channel c) i side)) Any any_down
      (rail_down_leaves P (wires_seen P w) (wires_seen P (rail_turned w (of_channel c) i side)) c i side (rail_moved c i side) r high) g good.meets tt good.fits

  -- a rail moves
  module _ (k : Line) (i : ℕ) (side : Bool) where
    far_answers : (c : ℕ) → same_line (of_channel c) k ≡ false → (offer : OfferValue) (n done : ℕ)
        → answers n (rail_turned w k i side) c done offer ≡ answers n w c done offer
    far_answers c e offer n done = ap (λ (r : Rails). answers n (record w { rail = λ l. r }) c done offer)
        (ap (λ (b : Bool). if b then rails_turned (w.rail k) i side else w.rail (of_channel c)) e) ∙ here offer
      where
        here : (offer : OfferValue) → answers n (record w { rail = λ l. w.rail (of_channel c) }) c done offer ≡ answers n w c done offer
        here (gives values) = refl
        here nothing = refl
        here (takes count) = refl

    far_drives : (c : ℕ) → same_line (of_channel c) k ≡ false → (offer : OfferValue) (n done j : ℕ) (s : Bool)
        → offers n (rail_turned w k i side) c done offer j s ≡ offers n w c done offer j s
    far_drives c e offer n done j s = ap (λ (r : Rails). offers n (record w { rail = λ l. r }) c done offer j s)
        (ap (λ (b : Bool). if b then rails_turned (w.rail k) i side else w.rail (of_channel c)) e) ∙ here offer
      where
        here : (offer : OfferValue) → offers n (record w { rail = λ l. w.rail (of_channel c) }) c done offer j s ≡ offers n w c done offer j s
        here (gives values) = refl
        here nothing = refl
        here (takes count) = refl

    -- Other moves stay, where those of the statements do, the environment doesn't acknowledge on the line, and its other moves
    -- of the line's rails stay.
    pub rail_others : (n : Node P.body) → n ≢ rail_node k i side → ((s : GuardedSpot P.body) → guarded_moves (wires_seen P w) g s ≡ true
        → guarded_moves (wires_seen P (rail_turned w k i side)) g s ≡ true)
        → ((c : ℕ) → k ≡ of_channel c → answers (channel_width P.channels c) w c (completed hs c) (offer_at script c) ≡ true → ⊥)
        → ((c : ℕ) → k ≡ of_channel c → (j : ℕ) (s : Bool) → (j ≡ i → s ≡ side → ⊥) → driven P script w hs (of_channel c) j s ≡ true
        → driven P script (rail_turned w k i side) hs (of_channel c) j s ≡ true)
        → ((x : ℕ) → k ≡ of_var x → WriteMoved (var_width P.vars x) (w.bit x) (w.rail (of_var x)) (w.wrote x) (w.joint x) i side)
        → can P script g w hs n ≡ true → can P script g (rail_turned w k i side) hs n ≡ true
    rail_others go_node ne l a d b z = z
    rail_others (own_node s) ne l a d b z = l s z
    rail_others (ack_node c) ne l a d b z =
        or_map (heard_turns P w c ((guarded_shown g).take c)) (answers (channel_width P.channels c) w c (completed hs c) (offer_at script c))
        (heard_turns P w c ((guarded_shown g).take c)) (answers (channel_width P.channels c) (rail_turned w k i side) c (completed hs c)
        (offer_at script c))
        (λ y. y)
        (λ y. cases (same_line (of_channel c) k)
        (λ (e : same_line (of_channel c) k ≡ true). absurd (a c (sym (same_line_is (of_channel c) k e)) y))
        (λ (e : same_line (of_channel c) k ≡ false). far_answers c e (offer_at script c) (channel_width P.channels c) (completed hs c) ∙ y))
        z
    rail_others (rail_node c j s) ne l a d b z =
        or_map (sent_turns P w c j s ((guarded_shown g).offer c j s)) (driven P script w hs c j s)
        (sent_turns P (rail_turned w k i side) c j s ((guarded_shown g).offer c j s)) (driven P script (rail_turned w k i side) hs c j s)
        (sent (turned_at w k i side c j s)) (drive c ne) z
      where
        sent : Turned w k i side c j s → sent_turns P w c j s ((guarded_shown g).offer c j s) ≡ true
            → sent_turns P (rail_turned w k i side) c j s ((guarded_shown g).offer c j s) ≡ true
        sent (this e f h t) y = absurd (ne (ap (λ x. rail_node x j s) e ∙ (ap (λ x. rail_node k x s) f ∙ ap (λ x. rail_node k i x) h)))
        sent (that t) y = ap (λ x. is_merged P c && turns x ((guarded_shown g).offer c j s) (not ((guarded_shown g).offer c j s))) t ∙ y

        drive : (r : Line) → rail_node {p = P.body} r j s ≢ rail_node k i side → driven P script w hs r j s ≡ true
            → driven P script (rail_turned w k i side) hs r j s ≡ true
        drive (of_var x) ne y = absurd (cc y)
        drive (of_channel n) ne y = cases (same_line (of_channel n) k)
            (λ (e : same_line (of_channel n) k ≡ true).
            let same : of_channel n ≡ k = same_line_is (of_channel n) k e in
            d n (sym same) j s (λ f h. ne (ap (λ x. rail_node x j s) same ∙ (ap (λ x. rail_node k x s) f ∙ ap (λ x. rail_node k i x) h))) y)
            (λ (e : same_line (of_channel n) k ≡ false). far_drives n e (offer_at script n) (channel_width P.channels n) (completed hs n) j s ∙ y)
    rail_others (bit_node x j s) ne l a d b z = cases (same_line (of_var x) k)
        (λ (e : same_line (of_var x) k ≡ true).
        let same = same_line_is (of_var x) k e in
        ap (λ (r : Rails). one_rule_fires (bit_rule r (w.bit x) j s)) (ap (λ (b : Bool). if b then rails_turned (w.rail k) i side else w.rail (of_var x)) e
        ∙ ap (λ (l : Line). rails_turned (w.rail l) i side) (sym same)) ∙ (b x (sym same)).bits j s z)
        (λ (e : same_line (of_var x) k ≡ false). ap (λ (b : Bool). one_rule_fires (bit_rule (if b then rails_turned (w.rail k) i side else w.rail (of_var x))
        (w.bit x) j s)) e ∙ z)
    rail_others (wrote_node x j) ne l a d b z = cases (same_line (of_var x) k)
        (λ (e : same_line (of_var x) k ≡ true).
        let same = same_line_is (of_var x) k e in
        ap (λ (r : Rails). one_rule_fires (wrote_rule r (w.bit x) (w.wrote x) j))
        (ap (λ (b : Bool). if b then rails_turned (w.rail k) i side else w.rail (of_var x)) e
        ∙ ap (λ (l : Line). rails_turned (w.rail l) i side) (sym same)) ∙ (b x (sym same)).wrotes j z)
        (λ (e : same_line (of_var x) k ≡ false). ap
        (λ (b : Bool). one_rule_fires (wrote_rule (if b then rails_turned (w.rail k) i side else w.rail (of_var x)) (w.bit x)
        (w.wrote x) j)) e ∙ z)
    rail_others (joint_node x j) ne l a d b z = z

    -- the blocks afterwards
    rail_block : ((x : ℕ) → k ≡ of_var x → WriteMoved (var_width P.vars x) (w.bit x) (w.rail (of_var x)) (w.wrote x) (w.joint x) i side)
        → (x : ℕ) → 1 ≤ var_width P.vars x → Block (var_width P.vars x) (w.bit x) ((rail_turned w k i side).rail (of_var x)) (w.wrote x) (w.joint x)
    rail_block b x some = cases (same_line (of_var x) k)
        (λ (e : same_line (of_var x) k ≡ true).
        let same = same_line_is (of_var x) k e in
        subst (λ (r : Rails). Block (var_width P.vars x) (w.bit x) r (w.wrote x) (w.joint x))
        (sym (ap (λ (b : Bool). if b then rails_turned (w.rail k) i side else w.rail (of_var x)) e
        ∙ ap (λ (l : Line). rails_turned (w.rail l) i side) (sym same)))
        (b x (sym same)).block)
        (λ (e : same_line (of_var x) k ≡ false). subst (λ (r : Rails). Block (var_width P.vars x) (w.bit x) r (w.wrote x) (w.joint x))
        (sym (ap (λ (b : Bool). if b then rails_turned (w.rail k) i side else w.rail (of_var x)) e)) (good.block x some))

    write_block : i < line_width P k → ((x : ℕ) → k ≡ of_var x → may (write_role side)
        (now_at (w.bit x) (w.rail (of_var x)) (w.wrote x) (line_ack P w (of_var x)) i) ≡ true)
        → (x : ℕ) → k ≡ of_var x → WriteMoved (var_width P.vars x) (w.bit x) (w.rail (of_var x)) (w.wrote x) (w.joint x) i side
    write_block less f x e =
        let below : i < var_width P.vars x = subst (λ (l : Line). i < line_width P l) e less in
        write_moved (var_width P.vars x) (w.bit x) (w.rail (of_var x)) (w.wrote x) (w.joint x) (good.block x (some below)) i side below (f x e)
      where
        some : {n : ℕ} → i < n → 1 ≤ n
        some less = omega (arith, less)

    -- other channels' rails stay
    far_rails : (c : ℕ) → same_line (of_channel c) k ≡ false → (rail_turned w k i side).rail (of_channel c) ≡ w.rail (of_channel c)
    far_rails c e = ap (λ (b : Bool). if b then rails_turned (w.rail k) i side else w.rail (of_channel c)) e

    -- the environment drives no rail of a line that has sites
    no_drive : Fitted P script → is_merged P k ≡ true → (c : ℕ) → k ≡ of_channel c → (j : ℕ) (s : Bool) → driven P script w hs (of_channel c) j s ≡ true → ⊥
    no_drive fitted n c e j s z =
        let o = gives_of (channel_width P.channels c) w c (completed hs c) (offer_at script c) j s z in
        cc (ap (is_merged P) e, n, (fitted.brought c o.0 o.1).0)

    -- who receives on the line sees it: where a rail rises nobody has stored, and where it falls the acknowledge is high
    abbrev Unstored : Type 0
    Unstored = (c : ℕ) → of_channel c ≡ k → (guarded_shown g).take c ≡ false

    unstored : is_merged P k ≡ true → w.rail k i side ≡ false → (guarded_shown g).offer k i side ≡ true → Unstored
    unstored n r o c e = cases ((guarded_shown g).take c)
        (λ (t : (guarded_shown g).take c ≡ true).
        let heard = receives_heard P P.body good.meets c (guarded_listens_receives g c (guarded_takes_listens g c t)) in
        let low = up_low P script hs good k i side r o in
        let valid : is_some (value_on (line_width P k) (w.rail k)) ≡ true = subst (λ (l : Line). is_some (value_on (line_width P l) (w.rail l)) ≡ true) e
        (good.valid c heard (ap (λ l. line_ack P w l) e ∙ low) t) in
        absurd (by side r (other_low k i side n low o) (each_bit (line_width P k) (w.rail k) valid i (offered_below k i side o))))
        (λ (t : (guarded_shown g).take c ≡ false). t)
      where
        by : (side : Bool) → w.rail k i side ≡ false → w.rail k i (not side) ≡ false → (b : Bool) × (w.rail k i b ≡ true) → ⊥
        by true l h (true, z) = cc (l, z)
        by true l h (false, z) = cc (h, z)
        by false l h (true, z) = cc (h, z)
        by false l h (false, z) = cc (l, z)

    rail_rises : Fitted P script → is_merged P k ≡ true → w.rail k i side ≡ false → (guarded_shown g).offer k i side ≡ true
        → Next P script m g w hs (rail_node k i side)
    rail_rises fitted n r o =
        let low = up_low P script hs good k i side r o in
        let free = unstored n r o in
        let x = rail_up_changed k i side r free in
        let b = write_block (offered_below k i side o) (λ x e. write_rises (w.bit x) (w.rail (of_var x)) (w.wrote x) (line_ack P w (of_var x)) i side
        (subst (λ (l : Line). w.rail l i side ≡ false) e r)
        (subst (λ (l : Line). w.rail l i (not side) ≡ false) e (other_low k i side n low o))
        (subst (λ (l : Line). line_ack P w l ≡ false) e low)) in
        record {
          mode = m;
          to = g;
          same = refl;
          go = refl;
          way = λ ne. ne;
          good = record {
            meets = good.meets;
            fits = x.fits;
            talk = λ c u h. good.talk c u (sym (rail_acks P w k i side c) ∙ h);
            rising = λ c j b u h z. rises c j b u (sym (rail_acks P w k i side c) ∙ h) z (turned_at w k i side c j b);
            falling = λ c j b h z. more c j b (good.falling c j b (sym (rail_acks P w k i side c) ∙ h) z) (turned_at w k i side c j b);
            wide = λ c j b z. wide c j b z (turned_at w k i side c j b);
            sited = λ c j b u z. sited c j b u z (turned_at w k i side c j b);
            block = rail_block b;
            no_bit = good.no_bit;
            no_wrote = good.no_wrote;
            single = λ c j p q. single c j p q (turned_at w k i side (of_channel c) j true) (turned_at w k i side (of_channel c) j false);
            listen = good.listen;
            valid = λ c u h z. cases (same_line (of_channel c) k)
                (λ (e : same_line (of_channel c) k ≡ true). absurd (cc (free c (same_line_is (of_channel c) k e), z)))
                (λ (e : same_line (of_channel c) k ≡ false). subst (λ (r : Rails). is_some (value_on (channel_width P.channels c) r) ≡ true)
                (sym (far_rails c e)) (good.valid c u h z));
            neutral = λ c u h z. cases (same_line (of_channel c) k)
                (λ (e : same_line (of_channel c) k ≡ true). absurd (cc (ap (line_ack P w) (same_line_is (of_channel c) k e), low, h)))
                (λ (e : same_line (of_channel c) k ≡ false). subst (λ (r : Rails). neutral_on (channel_width P.channels c) r ≡ true)
                (sym (far_rails c e)) (good.neutral c u h z));
            heard_sited = good.heard_sited;
          };
          term = λ ne. inl (refl, still_left (rail_turned w k i side) (rail_acks P w k i side));
          frees = λ x. freed (rail_turned w k i side) x ⊥ refl (rail_acks P w k i side);
          keeps = λ q ne z. rail_others q ne x.keeps
              (λ c e z. no_ack c (subst (λ (l : Line). line_ack P w l ≡ false) e low) (subst (λ (l : Line). is_merged P l ≡ true) e n)
              (subst (λ (l : Line). (guarded_shown g).offer l i side ≡ true) e o) (subst (λ (l : Line). w.rail l i side ≡ false) e r) z)
              (λ c e j s apart z. absurd (no_drive fitted n c e j s z)) b z;
        }
      where
        rises : (c : Line) (j : ℕ) (b : Bool) → is_merged P c ≡ true → line_ack P w c ≡ false → (rail_turned w k i side).rail c j b ≡ true
            → Turned w k i side c j b → (guarded_shown g).offer c j b ≡ true
        rises c j b u h z (this e f s t) = ap (λ x. (guarded_shown g).offer x j b) e
            ∙ (ap (λ x. (guarded_shown g).offer k x b) f ∙ (ap ((guarded_shown g).offer k i) s ∙ o))
        rises c j b u h z (that t) = good.rising c j b u h (sym t ∙ z)

        single : (c j : ℕ) → (rail_turned w k i side).rail (of_channel c) j true ≡ true → (rail_turned w k i side).rail (of_channel c) j false ≡ true
            → Turned w k i side (of_channel c) j true → Turned w k i side (of_channel c) j false → ⊥
        single c j p q (that t) (that u) = good.single c j (sym t ∙ p) (sym u ∙ q)
        single c j p q (this e f s t) (this a b d u) = cc (s, d)
        single c j p q (this e f s t) (that u) = cc (
          other_low k i side n (up_low P script hs good k i side r o) o,
          ap (λ b. w.rail k i (not b)) s,
          ap (λ x. w.rail k x false) f,
          ap (λ x. w.rail x j false) e,
          u,
          q,
        )
        single c j p q (that t) (this e f s u) = cc (
          other_low k i side n (up_low P script hs good k i side r o) o,
          ap (λ b. w.rail k i (not b)) s,
          ap (λ x. w.rail k x true) f,
          ap (λ x. w.rail x j true) e,
          t,
          p,
        )

        more : (c : Line) (j : ℕ) (b : Bool) → w.rail c j b ≡ true → Turned w k i side c j b → (rail_turned w k i side).rail c j b ≡ true
        more c j b y (this e f s t) = t ∙ ap not r
        more c j b y (that t) = t ∙ y

        wide : (c : Line) (j : ℕ) (b : Bool) → (rail_turned w k i side).rail c j b ≡ true → Turned w k i side c j b → j < line_width P c
        wide c j b z (that t) = good.wide c j b (sym t ∙ z)
        wide c j b z (this e f s t) = subst (λ (y : Line). j < line_width P y) (sym e)
            (subst (λ (y : ℕ). y < line_width P k) (sym f) (offered_below k i side o))

        sited : (c : Line) (j : ℕ) (b : Bool) → is_merged P c ≡ true → (rail_turned w k i side).rail c j b ≡ true → Turned w k i side c j b
            → is_nil (site_rails P.body (low P.body) c j b) ≡ false
        sited c j b u z (that t) = good.sited c j b u (sym t ∙ z)
        sited c j b u z (this e f s t) =
            ap (λ x. is_nil (site_rails P.body (low P.body) x j b)) e ∙ (ap (λ x. is_nil (site_rails P.body (low P.body) k x b)) f
            ∙ (ap (λ x. is_nil (site_rails P.body (low P.body) k i x)) s
            ∙ (sym (same_sites g k i side)
            ∙ any_not_nil (site_rails P.body (guarded_cells g).inner k i side) (guarded_offered g k i side ∙ o))))

        no_ack : (c : ℕ) → w.ack c ≡ false → is_merged P (of_channel c) ≡ true → (guarded_shown g).offer (of_channel c) i side ≡ true
            → w.rail (of_channel c) i side ≡ false → answers (channel_width P.channels c) w c (completed hs c) (offer_at script c) ≡ true → ⊥
        no_ack c low n o r z =
            let t = takes_of (channel_width P.channels c) w c (completed hs c) (offer_at script c) z in
            cc (all_high (of_channel c) n low (may_low (channel_width P.channels c) w c (is_over t.count (completed hs c)) low t.may).0 i side o, r)

    rail_falls : Fitted P script → is_merged P k ≡ true → w.rail k i side ≡ true → (guarded_shown g).offer k i side ≡ false
        → Next P script m g w hs (rail_node k i side)
    rail_falls fitted n r o =
        let high = down_high P script hs good k i side n r o in
        let x = rail_down_changed k i side r high in
        let b = write_block (good.wide k i side r) (λ x e. write_falls (w.bit x) (w.rail (of_var x)) (w.wrote x) (line_ack P w (of_var x)) i side
        (subst (λ (l : Line). w.rail l i side ≡ true) e r)
        (subst (λ (l : Line). line_ack P w l ≡ true) e high)) in
        record {
          mode = m;
          to = g;
          same = refl;
          go = refl;
          way = λ ne. ne;
          good = record {
            meets = good.meets;
            fits = x.fits;
            talk = λ c u h. good.talk c u (sym (rail_acks P w k i side c) ∙ h);
            rising = λ c j b u h z. good.rising c j b u (sym (rail_acks P w k i side c) ∙ h) (fewer c j b z (turned_at w k i side c j b));
            falling = λ c j b h z. falls c j b z (good.falling c j b (sym (rail_acks P w k i side c) ∙ h) z) (turned_at w k i side c j b);
            wide = λ c j b z. good.wide c j b (fewer c j b z (turned_at w k i side c j b));
            sited = λ c j b u z. good.sited c j b u (fewer c j b z (turned_at w k i side c j b));
            block = rail_block b;
            no_bit = good.no_bit;
            no_wrote = good.no_wrote;
            single = λ c j p q. good.single c j (fewer (of_channel c) j true p (turned_at w k i side (of_channel c) j true))
                (fewer (of_channel c) j false q (turned_at w k i side (of_channel c) j false));
            listen = good.listen;
            valid = λ c u h z. cases (same_line (of_channel c) k)
                (λ (e : same_line (of_channel c) k ≡ true). absurd (cc (ap (line_ack P w) (same_line_is (of_channel c) k e), high, h)))
                (λ (e : same_line (of_channel c) k ≡ false). subst (λ (r : Rails). is_some (value_on (channel_width P.channels c) r) ≡ true)
                (sym (far_rails c e)) (good.valid c u h z));
            neutral = λ c u h z. cases (same_line (of_channel c) k)
                (λ (e : same_line (of_channel c) k ≡ true). absurd (full c u h z (same_line_is (of_channel c) k e)))
                (λ (e : same_line (of_channel c) k ≡ false). subst (λ (r : Rails). neutral_on (channel_width P.channels c) r ≡ true)
                (sym (far_rails c e)) (good.neutral c u h z));
            heard_sited = good.heard_sited;
          };
          term = λ ne. inl (refl, still_left (rail_turned w k i side) (rail_acks P w k i side));
          frees = λ x. freed (rail_turned w k i side) x ⊥ refl (rail_acks P w k i side);
          keeps = λ q ne z. rail_others q ne x.keeps
              (λ c e z. no_ack c (subst (λ (l : Line). line_ack P w l ≡ true) e high) (subst (λ (l : Line). w.rail l i side ≡ true) e r) z)
              (λ c e j s apart z. absurd (no_drive fitted n c e j s z)) b z;
        }
      where
        full : (c : ℕ) → is_heard (kind_at P.channels c) ≡ true → w.ack c ≡ true → (guarded_shown g).take c ≡ false → of_channel c ≡ k → ⊥
        full c u h z e =
            let up : w.rail (of_channel c) i side ≡ true = ap (λ l. w.rail l i side) e ∙ r in
            cc (neutral_low (channel_width P.channels c) (w.rail (of_channel c)) (good.neutral c u h z) i side (good.wide (of_channel c) i side up), up)

        fewer : (c : Line) (j : ℕ) (b : Bool) → (rail_turned w k i side).rail c j b ≡ true → Turned w k i side c j b → w.rail c j b ≡ true
        fewer c j b z (this e f s t) = absurd (cc (t, z, r))
        fewer c j b z (that t) = sym t ∙ z

        falls : (c : Line) (j : ℕ) (b : Bool) → (guarded_shown g).offer c j b ≡ true → w.rail c j b ≡ true → Turned w k i side c j b
            → (rail_turned w k i side).rail c j b ≡ true
        falls c j b z y (this e f s t) = absurd (cc (
          ap (λ x. (guarded_shown g).offer x j b) e,
          ap (λ x. (guarded_shown g).offer k x b) f,
          ap ((guarded_shown g).offer k i) s,
          o,
          z,
        ))
        falls c j b z y (that t) = t ∙ y

        no_ack : (c : ℕ) → w.ack c ≡ true → w.rail (of_channel c) i side ≡ true
            → answers (channel_width P.channels c) w c (completed hs c) (offer_at script c) ≡ true → ⊥
        no_ack c high r z =
            let t = takes_of (channel_width P.channels c) w c (completed hs c) (offer_at script c) z in
            let lows = may_high (channel_width P.channels c) w c (is_over t.count (completed hs c)) high t.may in
            cc (neutral_low (channel_width P.channels c) (w.rail (of_channel c)) lows i side (good.wide (of_channel c) i side r), r)

    pub sent_next : Fitted P script → sent_turns P w k i side ((guarded_shown g).offer k i side) ≡ true → Next P script m g w hs (rail_node k i side)
    sent_next fitted e = here (w.rail k i side) ((guarded_shown g).offer k i side) refl refl
        (snd_true (is_merged P k) (turns (w.rail k i side) ((guarded_shown g).offer k i side) (not ((guarded_shown g).offer k i side))) e)
      where
        merged : is_merged P k ≡ true
        merged = fst_true (is_merged P k) (turns (w.rail k i side) ((guarded_shown g).offer k i side) (not ((guarded_shown g).offer k i side))) e

        here : (v o : Bool) → w.rail k i side ≡ v → (guarded_shown g).offer k i side ≡ o → turns v o (not o) ≡ true
            → Next P script m g w hs (rail_node k i side)
        here true true hv ho z = absurd (cc z)
        here true false hv ho z = rail_falls fitted merged hv ho
        here false true hv ho z = rail_rises fitted merged hv ho
        here false false hv ho z = absurd (cc z)

  -- The environment moves a rail of an `in` channel.
  module _ (fitted : Fitted P script) (c i : ℕ) (side : Bool) where
    abbrev brought : Wires
    brought = rail_turned w (of_channel c) i side

    abbrev wide : ℕ
    wide = channel_width P.channels c

    abbrev acks_stay : (l : Line) → line_ack P brought l ≡ line_ack P w l
    acks_stay = rail_acks P w (of_channel c) i side

    far_rail : (l : Line) → same_line l (of_channel c) ≡ false → brought.rail l ≡ w.rail l
    far_rail l e = ap (λ (b : Bool). if b then rails_turned (w.rail (of_channel c)) i side else w.rail l) e

    far_bit : (j : ℕ) (b : Bool) → (j == i) ≡ false → brought.rail (of_channel c) j b ≡ w.rail (of_channel c) j b
    far_bit j b e = ap (λ (r : Rails). r j b) (rail_moved c i side).here ∙ ap (λ z. if z && same_bit b side then not (w.rail (of_channel c) i side) else w.rail
        (of_channel c) j b) e

    stays_at : (j : ℕ) (s : Bool) → (j ≡ i → s ≡ side → ⊥) → brought.rail (of_channel c) j s ≡ w.rail (of_channel c) j s
    stays_at j s ne = here (turned_at w (of_channel c) i side (of_channel c) j s)
      where
        here : Turned w (of_channel c) i side (of_channel c) j s → brought.rail (of_channel c) j s ≡ w.rail (of_channel c) j s
        here (this e f h t) = absurd (ne f h)
        here (that t) = t

    not_offered : is_merged P (of_channel c) ≡ false → (j : ℕ) (s : Bool) → (guarded_shown g).offer (of_channel c) j s ≡ true → ⊥
    not_offered u j s o = cc (u, (site_of (of_channel c) (guarded_offers_talks g (of_channel c) j s o)).merged)

    -- what the environment does to other rails of the channel it still does
    drives_on : (next : Option ℕ) → drives wide w c next i side ≡ true → (j : ℕ) (s : Bool) → (j ≡ i → s ≡ side → ⊥) → drives wide w c next j s ≡ true
        → drives wide brought c next j s ≡ true
    drives_on next e j s ne z = cases (w.ack c)
        (λ (h : w.ack c ≡ true).
        ap (λ b. if b then brought.rail (of_channel c) j s else brings wide next j s &&
        (not (brought.rail (of_channel c) j true) && not (brought.rail (of_channel c) j false))) h
        ∙ (stays_at j s ne ∙ (sym (ap (λ b. if b then w.rail (of_channel c) j s else brings wide next j s &&
        (not (w.rail (of_channel c) j true) && not (w.rail (of_channel c) j false))) h) ∙ z)))
        (λ (h : w.ack c ≡ false).
        let y = drives_up wide w c next j s h z in
        let x = drives_up wide w c next i side h e in
        let apart : (j == i) ≡ false = cases (j == i)
        (λ (same : (j == i) ≡ true). absurd (brings_one wide next i s side (λ q. ne (same_number j i same) q)
        (ap (λ n. brings wide next n s) (sym (same_number j i same)) ∙ y.0) x.0))
        (λ (same : (j == i) ≡ false). same) in
        ap (λ b. if b then brought.rail (of_channel c) j s else brings wide next j s &&
        (not (brought.rail (of_channel c) j true) && not (brought.rail (of_channel c) j false))) h
        ∙ both_true (brings wide next j s) (not (brought.rail (of_channel c) j true) && not (brought.rail (of_channel c) j false)) y.0
        (both_true (not (brought.rail (of_channel c) j true)) (not (brought.rail (of_channel c) j false)) (ap not (far_bit j true apart ∙ y.1))
        (ap not (far_bit j false apart ∙ y.2))))

    -- what holds afterwards
    record Brought : Type 0 where
      pub changed : GuardedChanged P.body m (wires_seen P w) (wires_seen P brought) g
      pub below : (j : ℕ) (b : Bool) → brought.rail (of_channel c) j b ≡ true → j < wide
      pub lone : (j : ℕ) → brought.rail (of_channel c) j true ≡ true → brought.rail (of_channel c) j false ≡ true → ⊥
      pub full : w.ack c ≡ false → (guarded_shown g).take c ≡ true → is_some (value_on wide (brought.rail (of_channel c))) ≡ true
      pub gone : w.ack c ≡ true → (guarded_shown g).take c ≡ false → neutral_on wide (brought.rail (of_channel c)) ≡ true

    brought_next : (values : List ℕ) → offer_at script c ≡ gives values → drives wide w c (slice_get values (completed hs c)) i side ≡ true → Brought
        → Next P script m g w hs (rail_node (of_channel c) i side)
    brought_next values is e x =
        let alone = (fitted.brought c values is).0 in
        record {
          mode = m;
          to = g;
          same = refl;
          go = refl;
          way = λ ne. ne;
          good = record {
            meets = good.meets;
            fits = x.changed.fits;
            talk = λ l u h. good.talk l u (sym (acks_stay l) ∙ h);
            rising = λ l j b u h z. cases (same_line l (of_channel c))
                (λ (q : same_line l (of_channel c) ≡ true). absurd (cc (ap (is_merged P) (same_line_is l (of_channel c) q), alone, u)))
                (λ (q : same_line l (of_channel c) ≡ false). good.rising l j b u (sym (acks_stay l) ∙ h) (sym (ap (λ (r : Rails). r j b) (far_rail l q)) ∙ z));
            falling = λ l j b h z. cases (same_line l (of_channel c))
                (λ (q : same_line l (of_channel c) ≡ true). absurd (not_offered alone j b
                (sym (ap (λ y. (guarded_shown g).offer y j b) (same_line_is l (of_channel c) q)) ∙ z)))
                (λ (q : same_line l (of_channel c) ≡ false). ap (λ (r : Rails). r j b) (far_rail l q) ∙ good.falling l j b (sym (acks_stay l) ∙ h) z);
            wide = λ l j b z. cases (same_line l (of_channel c))
                (λ (q : same_line l (of_channel c) ≡ true). let y = same_line_is l (of_channel c) q in subst (λ (k : Line). j < line_width P k) (sym y)
                (x.below j b (sym (ap (λ k. brought.rail k j b) y) ∙ z)))
                (λ (q : same_line l (of_channel c) ≡ false). good.wide l j b (sym (ap (λ (r : Rails). r j b) (far_rail l q)) ∙ z));
            sited = λ l j b u z. cases (same_line l (of_channel c))
                (λ (q : same_line l (of_channel c) ≡ true). absurd (cc (ap (is_merged P) (same_line_is l (of_channel c) q), alone, u)))
                (λ (q : same_line l (of_channel c) ≡ false). good.sited l j b u (sym (ap (λ (r : Rails). r j b) (far_rail l q)) ∙ z));
            block = rail_block (of_channel c) i side (λ x e. absurd (cc e));
            no_bit = good.no_bit;
            no_wrote = good.no_wrote;
            single = λ d j p q. cases (d == c)
                (λ (z : (d == c) ≡ true). let y = same_number d c z in x.lone j (sym (ap (λ k. brought.rail (of_channel k) j true) y) ∙ p)
                (sym (ap (λ k. brought.rail (of_channel k) j false) y) ∙ q))
                (λ (z : (d == c) ≡ false). good.single d j (sym (ap (λ (r : Rails). r j true) (far_rail (of_channel d) z)) ∙ p)
                (sym (ap (λ (r : Rails). r j false) (far_rail (of_channel d) z)) ∙ q));
            listen = good.listen;
            valid = λ d u h t. cases (d == c)
                (λ (z : (d == c) ≡ true). let y = same_number d c z in
                subst (λ (k : ℕ). is_some (value_on (channel_width P.channels k) (brought.rail (of_channel k))) ≡ true) (sym y)
                (x.full (ap (λ k. w.ack k) (sym y) ∙ h) (ap (λ k. (guarded_shown g).take k) (sym y) ∙ t)))
                (λ (z : (d == c) ≡ false). subst (λ (r : Rails). is_some (value_on (channel_width P.channels d) r) ≡ true) (sym (far_rail (of_channel d) z))
                (good.valid d u h t));
            neutral = λ d u h t. cases (d == c)
                (λ (z : (d == c) ≡ true). let y = same_number d c z in
                subst (λ (k : ℕ). neutral_on (channel_width P.channels k) (brought.rail (of_channel k)) ≡ true) (sym y)
                (x.gone (ap (λ k. w.ack k) (sym y) ∙ h) (ap (λ k. (guarded_shown g).take k) (sym y) ∙ t)))
                (λ (z : (d == c) ≡ false). subst (λ (r : Rails). neutral_on (channel_width P.channels d) r ≡ true) (sym (far_rail (of_channel d) z))
                (good.neutral d u h t));
            heard_sited = good.heard_sited;
          };
          term = λ ne. inl (refl, still_left brought acks_stay);
          frees = λ x. freed brought x ⊥ refl acks_stay;
          keeps = λ q ne z. rail_others (of_channel c) i side q ne x.changed.keeps
              (λ d y a. let t = takes_of (channel_width P.channels d) w d (completed hs d) (offer_at script d) a in
              takes_gives t.count values (sym t.is ∙ (ap (offer_at script) (sym (same_channel c d y)) ∙ is)))
              (λ d y j s apart a. subst (λ (k : ℕ). driven P script brought hs (of_channel k) j s ≡ true) (same_channel c d y)
              (ap (λ o. offers wide brought c (completed hs c) o j s) is ∙ drives_on (slice_get values (completed hs c)) e j s apart
              (sym (ap (λ o. offers wide w c (completed hs c) o j s) is)
              ∙ subst (λ (k : ℕ). driven P script w hs (of_channel k) j s ≡ true) (sym (same_channel c d y)) a)))
              (λ x e. absurd (cc e)) z;
        }

    pub drive_next : driven P script w hs (of_channel c) i side ≡ true → Next P script m g w hs (rail_node (of_channel c) i side)
    drive_next e =
        let o = gives_of wide w c (completed hs c) (offer_at script c) i side e in
        let d : drives wide w c (slice_get o.0 (completed hs c)) i side ≡ true = sym (ap (λ x. offers wide w c (completed hs c) x i side) o.1) ∙ e in
        let heard = (fitted.brought c o.0 o.1).1 in
        cases (w.ack c)
        (λ (h : w.ack c ≡ true). brought_next o.0 o.1 d (falls heard h (sym
        (ap (λ b. if b then w.rail (of_channel c) i side else brings wide (slice_get o.0 (completed hs c)) i side &&
        (not (w.rail (of_channel c) i true) && not (w.rail (of_channel c) i false))) h) ∙ d)))
        (λ (h : w.ack c ≡ false). let up = drives_up wide w c (slice_get o.0 (completed hs c)) i side h d in
        brought_next o.0 o.1 d (rises heard h up.1 up.2 (brings_below wide (slice_get o.0 (completed hs c)) i side up.0)))
      where
        falls : is_heard (kind_at P.channels c) ≡ true → w.ack c ≡ true → w.rail (of_channel c) i side ≡ true → Brought
        falls heard h top = record {
          changed = rail_down_changed (of_channel c) i side top h;
          below = λ j b z. good.wide (of_channel c) j b (fewer j b z);
          lone = λ j p q. good.single c j (fewer j true p) (fewer j false q);
          full = λ l t. absurd (cc (h, l));
          gone = λ l t. absurd (cc (neutral_low wide (w.rail (of_channel c)) (good.neutral c heard h t) i side (good.wide (of_channel c) i side top), top));
        }
          where
            fewer : (j : ℕ) (b : Bool) → brought.rail (of_channel c) j b ≡ true → w.rail (of_channel c) j b ≡ true
            fewer j b z = here (turned_at w (of_channel c) i side (of_channel c) j b)
              where
                here : Turned w (of_channel c) i side (of_channel c) j b → w.rail (of_channel c) j b ≡ true
                here (this e f s t) = absurd (cc (t, z, top))
                here (that t) = sym t ∙ z

        rises : is_heard (kind_at P.channels c) ≡ true → w.ack c ≡ false → w.rail (of_channel c) i true ≡ false → w.rail (of_channel c) i false ≡ false
            → i < wide → Brought
        rises heard h lt lf less = record {
          changed = rail_up_changed (of_channel c) i side (low side) (λ d e. ap (guarded_shown g).take (same_channel d c e) ∙ free);
          below = λ j b z. below j b z (turned_at w (of_channel c) i side (of_channel c) j b);
          lone = λ j p q. lone j p q (turned_at w (of_channel c) i side (of_channel c) j true) (turned_at w (of_channel c) i side (of_channel c) j false);
          full = λ l t. absurd (cc (t, free));
          gone = λ l t. absurd (cc (h, l));
        }
          where
            low : (b : Bool) → w.rail (of_channel c) i b ≡ false
            low true = lt
            low false = lf

            free : (guarded_shown g).take c ≡ false
            free = cases ((guarded_shown g).take c)
                (λ (t : (guarded_shown g).take c ≡ true). absurd (some (each_bit wide (w.rail (of_channel c)) (good.valid c heard h t) i less)))
                (λ (t : (guarded_shown g).take c ≡ false). t)
              where
                some : (b : Bool) × (w.rail (of_channel c) i b ≡ true) → ⊥
                some (b, e) = cc (low b, e)

            below : (j : ℕ) (b : Bool) → brought.rail (of_channel c) j b ≡ true → Turned w (of_channel c) i side (of_channel c) j b → j < wide
            below j b z (this e f s t) = subst (λ (n : ℕ). n < wide) (sym f) less
            below j b z (that t) = good.wide (of_channel c) j b (sym t ∙ z)

            lone : (j : ℕ) → brought.rail (of_channel c) j true ≡ true → brought.rail (of_channel c) j false ≡ true
                → Turned w (of_channel c) i side (of_channel c) j true → Turned w (of_channel c) i side (of_channel c) j false → ⊥
            lone j p q (that t) (that u) = good.single c j (sym t ∙ p) (sym u ∙ q)
            lone j p q (this e f s t) (this a b d u) = cc (s, d)
            lone j p q (this e f s t) (that u) = cc (lf, ap (λ n. w.rail (of_channel c) n false) f, u, q)
            lone j p q (that t) (this e f s u) = cc (lt, ap (λ n. w.rail (of_channel c) n true) f, t, p)

  pub rail_next : Fitted P script → (k : Line) (i : ℕ) (side : Bool) → can P script g w hs (rail_node k i side) ≡ true
      → Next P script m g w hs (rail_node k i side)
  rail_next fitted k i side e = either (sent_turns P w k i side ((guarded_shown g).offer k i side)) (driven P script w hs k i side) e
      (λ z. sent_next k i side fitted z) (λ z. drive k z)
    where
      drive : (l : Line) → driven P script w hs l i side ≡ true → Next P script m g w hs (rail_node l i side)
      drive (of_channel c) z = drive_next fitted c i side z
      drive (of_var x) z = absurd (cc z)

  root_still : (now : Wires) (m : Mode) (a : GuardedAt P.body m) → guarded_left (line_ack P now) a ≡ guarded_left (line_ack P w) a
      → root_left (line_ack P now) a ≡ root_left (line_ack P w) a
  root_still now idle a e = refl
  root_still now running a e = e
  root_still now answered a e = e
  root_still now returning a e = e

  -- what is seen changes, and the rails stay
  pub record SeenChanged (now : Wires) : Type 0 where
    pub fits : GuardedFits g (wires_seen P now)
    pub keeps : (s : GuardedSpot P.body) → guarded_moves (wires_seen P w) g s ≡ true → guarded_moves (wires_seen P now) g s ≡ true
    pub talk : (c : Line) → is_merged P c ≡ true → line_ack P now c ≡ true → (guarded_shown g).talk c ≡ true
    pub rising : (c : Line) (i : ℕ) (one : Bool) → is_merged P c ≡ true → line_ack P now c ≡ false → now.rail c i one ≡ true
        → (guarded_shown g).offer c i one ≡ true
    pub falling : (c : Line) (i : ℕ) (one : Bool) → line_ack P now c ≡ true → (guarded_shown g).offer c i one ≡ true → now.rail c i one ≡ true

  -- no acknowledge turns over
  pub seen_by : (now : Wires) → now.rail ≡ w.rail → ((k : Line) → line_ack P now k ≡ line_ack P w k) →
      GuardedChanged P.body m (wires_seen P w) (wires_seen P now) g
      → SeenChanged now
  seen_by now rails same x =
      let rail_is : (c : Line) (i : ℕ) (one : Bool) → now.rail c i one ≡ w.rail c i one = λ c i one. ap (λ (r : Line → Rails). r c i one) rails in
      record {
        fits = x.fits;
        keeps = x.keeps;
        talk = λ c u h. good.talk c u (sym (same c) ∙ h);
        rising = λ c i one u h z. good.rising c i one u (sym (same c) ∙ h) (sym (rail_is c i one) ∙ z);
        falling = λ c i one h z. rail_is c i one ∙ good.falling c i one (sym (same c) ∙ h) z;
      }

  pub seen_still : (now : Wires) → now.rail ≡ w.rail → now.bit ≡ w.bit → ((k : Line) → line_ack P now k ≡ line_ack P w k) → SeenChanged now
  seen_still now rails bits same = seen_by now rails same (still_changed now same bits (λ c h. ap (λ (r : Line → Rails). r (of_channel c)) rails))

  -- a line of which each bit has a rail high has a site under way
  pub talks : (k : Line) → is_merged P k ≡ true → line_ack P w k ≡ false → is_some (value_on (line_width P k) (w.rail k)) ≡ true → 1 ≤ line_width P k
      → (guarded_shown g).talk k ≡ true
  talks k merged low some wide = by_bit (each_bit (line_width P k) (w.rail k) some 0 (let z : 0 < line_width P k = omega (arith, wide) in z))
    where
      by_bit : (side : Bool) × (w.rail k 0 side ≡ true) → (guarded_shown g).talk k ≡ true
      by_bit b = guarded_offers_talks g k 0 b.0 (good.rising k 0 b.0 merged low b.1)

  -- The acknowledge of a line turns over.
  module _ (k : Line) (now : Wires) (t : AckTurned P (wires_seen P w) (wires_seen P now) k) (rails : now.rail ≡ w.rail) where
    rail_is : (c : Line) (i : ℕ) (one : Bool) → now.rail c i one ≡ w.rail c i one
    rail_is c i one = ap (λ (r : Line → Rails). r c i one) rails

    module _ (low : line_ack P w k ≡ false) (some : is_some (value_on (line_width P k) (w.rail k)) ≡ true) where
      pub line_rises : Ready k (w.rail k) (guarded_writing (line_ack P w) g) P.body (guarded_shown g) → (is_merged P k ≡ true → (guarded_shown g).talk k ≡ true)
          → ((j : ℕ) (b : Bool) → (guarded_shown g).offer k j b ≡ true → w.rail k j b ≡ true) → SeenChanged now
      line_rises ready talk high =
          let x = guarded_changed P (wires_seen P w) (wires_seen P now) (Ready k (w.rail k) (guarded_writing (line_ack P w) g))
          (ready_down k (w.rail k) (guarded_writing (line_ack P w) g))
          (raise_leaves P (wires_seen P w) (wires_seen P now) k (guarded_writing (line_ack P w) g) t low some (λ l. refl)) g good.meets ready good.fits in
          record {
            fits = x.fits;
            keeps = x.keeps;
            talk = λ c u h. cases (same_line c k)
                (λ (e : same_line c k ≡ true). ap (guarded_shown g).talk (same_line_is c k e) ∙ talk (ap (is_merged P) (sym (same_line_is c k e)) ∙ u))
                (λ (e : same_line c k ≡ false). good.talk c u (sym (t.far c e) ∙ h));
            rising = λ c j b u h z. cases (same_line c k) (λ (e : same_line c k ≡ true). absurd (cc (ap (line_ack P now) (same_line_is c k e), t.here, low, h)))
                (λ (e : same_line c k ≡ false). good.rising c j b u (sym (t.far c e) ∙ h) (sym (rail_is c j b) ∙ z));
            falling = λ c j b h z. rail_is c j b ∙ cases (same_line c k)
                (λ (e : same_line c k ≡ true). ap (λ y. w.rail y j b) (same_line_is c k e)
                ∙ high j b (ap (λ y. (guarded_shown g).offer y j b) (sym (same_line_is c k e)) ∙ z))
                (λ (e : same_line c k ≡ false). good.falling c j b (sym (t.far c e) ∙ h) z);
          }

      -- where each receive on the line has stored
      module _ (took : (d : ℕ) → same_line (of_channel d) k ≡ true → receives P.body d ≡ true → (guarded_shown g).take d ≡ true)
          (wide : 1 ≤ line_width P k) where
        ready : Ready k (w.rail k) (guarded_writing (line_ack P w) g) P.body (guarded_shown g)
        ready = record {
          send = λ e i b h. good.rising k i b (sends_merged P P.body good.meets k e) low h;
          receive = took;
          calm = calm;
        }

        pub sent_rises : SeenChanged now
        sent_rises = line_rises ready (λ u. talks k u low some wide)
            (λ j b o. all_high k (sends_merged P P.body good.meets k (guarded_talks_sends g k (guarded_offers_talks g k j b o))) low some j b o)

        -- the step of those ends of the line that are under way
        abbrev pub Heard : Process → Type 0
        Heard = Hearing P (wires_seen P w) k (guarded_shown g) (guarded_writing (line_ack P w) g) (guarded_writing (line_ack P now) g)

        pub line_fires : (s h : Bool) → (guarded_shown g).says k ≡ s → heard_on k (guarded_shown g) ≡ h
            → Fired (Sent P (wires_seen P w) (guarded_writing (line_ack P w) g) k) Heard s h (root_left (line_ack P w) g) (root_left (line_ack P now) g)
        line_fires s h e f =
            subst (λ (b : Bool). Fired Sender Heard b h (root_left (line_ack P w) g) (root_left (line_ack P now) g)) e
            (subst (λ (b : Bool). Fired Sender Heard ((guarded_shown g).says k) b (root_left (line_ack P w) g) (root_left (line_ack P now) g)) f
            (root m g ((guarded_shown g).says k) (heard_on k (guarded_shown g))
            (guarded_fires P (wires_seen P w) (wires_seen P now) (clean_of good) (guarded_writing (line_ack P w) g) k t low some g good.meets ready good.fits)))
          where
            Sender : Process → Type 0
            Sender = Sent P (wires_seen P w) (guarded_writing (line_ack P w) g) k

            root : (m : Mode) (a : GuardedAt P.body m) (s h : Bool) → Fired Sender Heard s h (guarded_left (line_ack P w) a) (guarded_left (line_ack P now) a)
                → Fired Sender Heard s h (root_left (line_ack P w) a) (root_left (line_ack P now) a)
            root idle a s h f = none_fired Sender Heard s h (guarded_left (line_ack P w) a) (guarded_left (line_ack P now) a) (opened P.body)
                (guarded_left_done (line_ack P w) a (λ e. cc e)) f
            root running a s h f = f
            root answered a s h f = f
            root returning a s h f = f

    module _ (high : line_ack P w k ≡ true) (lows : neutral_on (line_width P k) (w.rail k) ≡ true)
        (let_go : (d : ℕ) → same_line (of_channel d) k ≡ true → (guarded_shown g).take d ≡ false) where
      kept : Kept k (w.rail k) P.body (guarded_shown g)
      kept = record { offer = λ i b o. good.falling k i b high o; take = let_go }

      pub line_falls : SeenChanged now
      line_falls =
          let x = guarded_changed P (wires_seen P w) (wires_seen P now) (Kept k (w.rail k)) (kept_down k (w.rail k))
          (lower_leaves P (wires_seen P w) (wires_seen P now) k t high lows (λ l. refl)) g good.meets kept good.fits in
          record {
            fits = x.fits;
            keeps = x.keeps;
            talk = λ c u h. cases (same_line c k) (λ (e : same_line c k ≡ true). absurd (cc (ap (line_ack P now) (same_line_is c k e), t.here, high, h)))
                (λ (e : same_line c k ≡ false). good.talk c u (sym (t.far c e) ∙ h));
            rising = λ c j b u h z. cases (same_line c k)
                (λ (e : same_line c k ≡ true). absurd (cc (
                  ap (λ y. w.rail y j b) (same_line_is c k e),
                  neutral_low (line_width P k) (w.rail k) lows j b (subst (λ (y : Line). j < line_width P y) (same_line_is c k e)
                      (good.wide c j b (sym (rail_is c j b) ∙ z))),
                  rail_is c j b,
                  z,
                )))
                (λ (e : same_line c k ≡ false). good.rising c j b u (sym (t.far c e) ∙ h) (sym (rail_is c j b) ∙ z));
            falling = λ c j b h z. rail_is c j b ∙ cases (same_line c k) (λ (e : same_line c k ≡ true). absurd
                (cc (ap (line_ack P now) (same_line_is c k e), t.here, high, h))) (λ (e : same_line c k ≡ false). good.falling c j b (sym (t.far c e) ∙ h) z);
          }

      pub line_stays : root_left (line_ack P now) g ≡ root_left (line_ack P w) g
      line_stays = root_still now m g (guarded_still P (wires_seen P w) (wires_seen P now) k t high lows g good.meets kept good.fits)

  -- the phases of a channel's rails
  pub phase_up : (c i : ℕ) (side : Bool) → w.rail (of_channel c) i side ≡ false → can P script g w hs (rail_node (of_channel c) i side) ≡ true
      → (w.ack c ≡ false) × (w.rail (of_channel c) i (not side) ≡ false)
  phase_up c i side r z = either (sent_turns P w (of_channel c) i side ((guarded_shown g).offer (of_channel c) i side))
      (driven P script w hs (of_channel c) i side) z sent drive
    where
      sent : sent_turns P w (of_channel c) i side ((guarded_shown g).offer (of_channel c) i side) ≡ true
          → (w.ack c ≡ false) × (w.rail (of_channel c) i (not side) ≡ false)
      sent z =
          let rest = turns (w.rail (of_channel c) i side) ((guarded_shown g).offer (of_channel c) i side)
          (not ((guarded_shown g).offer (of_channel c) i side)) in
          let o : (guarded_shown g).offer (of_channel c) i side ≡ true =
          ap (λ v. turns v ((guarded_shown g).offer (of_channel c) i side) (not ((guarded_shown g).offer (of_channel c) i side))) (sym r)
          ∙ snd_true (is_merged P (of_channel c)) rest z in
          let l = up_low P script hs good (of_channel c) i side r o in
          (l, other_low (of_channel c) i side (fst_true (is_merged P (of_channel c)) rest z) l o)

      low : (b : Bool) → (w.rail (of_channel c) i true ≡ false) → (w.rail (of_channel c) i false ≡ false) → w.rail (of_channel c) i b ≡ false
      low true t f = t
      low false t f = f

      drive : driven P script w hs (of_channel c) i side ≡ true → (w.ack c ≡ false) × (w.rail (of_channel c) i (not side) ≡ false)
      drive z =
          let o = gives_of (channel_width P.channels c) w c (completed hs c) (offer_at script c) i side z in
          let d : drives (channel_width P.channels c) w c (slice_get o.0 (completed hs c)) i side ≡ true = sym
          (ap (λ x. offers (channel_width P.channels c) w c (completed hs c) x i side) o.1) ∙ z in
          cases (w.ack c)
          (λ (h : w.ack c ≡ true).
          absurd (cc (
            r,
            sym (ap (λ b. if b then w.rail (of_channel c) i side else brings (channel_width P.channels c)
                (slice_get o.0 (completed hs c)) i side && (not (w.rail (of_channel c) i true) && not (w.rail (of_channel c) i false))) h) ∙ d,
          )))
          (λ (h : w.ack c ≡ false). let up = drives_up (channel_width P.channels c) w c (slice_get o.0 (completed hs c)) i side h d in
          (h, low (not side) up.1 up.2))

  pub phase_down : (c i : ℕ) (side : Bool) → w.rail (of_channel c) i side ≡ true → can P script g w hs (rail_node (of_channel c) i side) ≡ true → w.ack c ≡ true
  phase_down c i side r z = either (sent_turns P w (of_channel c) i side ((guarded_shown g).offer (of_channel c) i side))
      (driven P script w hs (of_channel c) i side) z sent drive
    where
      sent : sent_turns P w (of_channel c) i side ((guarded_shown g).offer (of_channel c) i side) ≡ true → w.ack c ≡ true
      sent z =
          let rest = turns (w.rail (of_channel c) i side) ((guarded_shown g).offer (of_channel c) i side)
          (not ((guarded_shown g).offer (of_channel c) i side)) in
          down_high P script hs good (of_channel c) i side (fst_true (is_merged P (of_channel c)) rest z) r
          (not_true ((guarded_shown g).offer (of_channel c) i side) (ap (λ v. turns v ((guarded_shown g).offer (of_channel c) i side)
          (not ((guarded_shown g).offer (of_channel c) i side))) (sym r) ∙ snd_true (is_merged P (of_channel c)) rest z))

      high : (b : Bool) → (w.rail (of_channel c) i true ≡ false) → (w.rail (of_channel c) i false ≡ false) → w.rail (of_channel c) i b ≡ false
      high true t f = t
      high false t f = f

      drive : driven P script w hs (of_channel c) i side ≡ true → w.ack c ≡ true
      drive z =
          let o = gives_of (channel_width P.channels c) w c (completed hs c) (offer_at script c) i side z in
          let d : drives (channel_width P.channels c) w c (slice_get o.0 (completed hs c)) i side ≡ true = sym
          (ap (λ x. offers (channel_width P.channels c) w c (completed hs c) x i side) o.1) ∙ z in
          cases (w.ack c)
          (λ (h : w.ack c ≡ true). h)
          (λ (h : w.ack c ≡ false). let up = drives_up (channel_width P.channels c) w c (slice_get o.0 (completed hs c)) i side h d in absurd
          (cc (high side up.1 up.2, r)))
