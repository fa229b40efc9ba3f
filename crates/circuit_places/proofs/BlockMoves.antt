-- What a move in a variable's block does to the whole circuit; and so any move.
use Rattle.std.proofs.Common.{◌≡◌, ◌≢◌, ℕ, ◌==◌, ◌<◌, ◌≤◌, Bool, true, false, List, refl, sym, ap, ◌∙◌, subst, ◌⊎◌, inl, inr, arith}
use Rattle.std.proofs.Math.Path.{fun_ext}
use Rattle.std.specs.Prelude.{not, ◌&&◌, ◌||◌, if◌then◌else◌}
use Rattle.prs_core.specs.Parts.{turned}
use Rattle.env_script.specs.Scripts.{OfferValue, offer_at}
use Rattle.env_script.specs.Runs.{completed}
use Rattle.width_check.specs.Processes.{TypedProgram}
use Rattle.width_check.specs.Typing.{channel_width, var_width}
use Rattle.circuit_places.specs.Lines.{Line, of_channel, of_var, same_line, Rails}
use Rattle.circuit_places.specs.Circuit.{GuardedSpot, one_rule_fires, same_bit, rails_turned, tree_answer}
use Rattle.circuit_places.specs.Whole.{Wires, wires_seen, line_ack, bit_rule, wrote_rule, Node, go_node, own_node, rail_node, ack_node, bit_node, wrote_node, joint_node, answers, bit_turned, wrote_turned, joint_turned}
use Rattle.circuit_places.proofs.RailLemmas.{fst_true, snd_true, not_true, each_bit}
use Rattle.circuit_places.proofs.Writing.{OneTurned, guarded_writing_there, guarded_writing_falls, guarded_writing_other, guarded_writing_unread}
use Rattle.circuit_places.proofs.LineNames.{self_number, same_number}
use Rattle.circuit_places.proofs.Trees.{node_moves}
use Rattle.circuit_places.proofs.Places.{Mode, idle, running, answered, returning, GuardedAt, g_rests, g_in, rests, guarded_shown, guarded_writing, guarded_moves}
use Rattle.circuit_places.proofs.Flow.{or_map, cases}
use Rattle.circuit_places.proofs.Control.{guarded_advance}
use Rattle.circuit_places.proofs.Change.{GuardedChanged, guarded_changed, AckTurned, Unread, unread_down, bit_leaves}
use Rattle.circuit_places.proofs.Talks.{either}
use Rattle.circuit_places.proofs.Meets.{receives, sends_merged, receives_heard}
use Rattle.circuit_places.proofs.Blocks.{now_at, bit_can, moves_written, Block, Acked, ack_stays, ack_turns, bit_moved, wrote_turns, joint_turns, joint_some, ready_valid, ready_neutral}
use Rattle.circuit_places.proofs.System.{Good, clean_of, can, driven, sent_turns, heard_turns, root_left, Others, Rises, Stored, no_store, cleared, stores, takes_in, Next, Fitted, own_next}
use Rattle.circuit_places.proofs.AckMoves.{same_answers, same_driven, ack_next}
use Rattle.circuit_places.proofs.LineMoves.{freed, still_left, SeenChanged, seen_by, seen_still, rail_next, sent_rises, line_fires, line_falls, line_stays}
use Rattle.circuit_places.proofs.Fires.{passes_of}

pub some_of : {i n : ℕ} → i < n → 1 ≤ n
some_of less = omega (arith, less)

module _ (P : TypedProgram) (script : List OfferValue) {m : Mode} {g : GuardedAt P.body m} {w : Wires} (hs : List (List ℕ)) (good : Good P m g w) where
  -- a rail of a bit moves
  module _ (x i : ℕ) (one : Bool) where
    abbrev bitten : Wires
    bitten = bit_turned w x i one

    bit_acks : (c : Line) → line_ack P bitten c ≡ line_ack P w c
    bit_acks (of_channel c) = refl
    bit_acks (of_var y) = refl

    bit_below : one_rule_fires (bit_rule (w.rail (of_var x)) (w.bit x) i one) ≡ true → i < var_width P.vars x
    bit_below e = by (w.bit x i one) refl
      where
        by : (b : Bool) → w.bit x i one ≡ b → i < var_width P.vars x
        by true h = good.no_bit x i one h
        by false h = good.wide (of_var x) i one (fst_true (w.rail (of_var x) i one) _
            (ap (λ b. if b then w.rail (of_var x) i (not one) else w.rail (of_var x) i one && not (w.bit x i (not one))) (sym h) ∙ e))

    -- the variable is being written
    being_written : i < var_width P.vars x → one_rule_fires (bit_rule (w.rail (of_var x)) (w.bit x) i one) ≡ true → guarded_writing (line_ack P w) g x ≡ true
    being_written less e = here (moves_written one (now_at (w.bit x) (w.rail (of_var x)) (w.wrote x) (line_ack P w (of_var x)) i)
        ((good.block x (some_of less)).bits i less) (sym (bit_can (w.bit x) (w.rail (of_var x)) (w.wrote x) (line_ack P w (of_var x)) i one) ∙ e))
      where
        there : (side : Bool) → line_ack P w (of_var x) ≡ false → w.rail (of_var x) i side ≡ true → guarded_writing (line_ack P w) g x ≡ true
        there side low h = guarded_writing_there (wires_seen P w) g good.fits x i side low (good.rising (of_var x) i side refl low h)

        here : (not (line_ack P w (of_var x)) && (w.rail (of_var x) i true || w.rail (of_var x) i false)) ≡ true → guarded_writing (line_ack P w) g x ≡ true
        here h =
            let low = not_true (line_ack P w (of_var x)) (fst_true (not (line_ack P w (of_var x))) _ h) in
            either (w.rail (of_var x) i true) (w.rail (of_var x) i false) (snd_true (not (line_ack P w (of_var x))) _ h) (there true low) (there false low)

    -- and so it isn't read
    bit_changed : i < var_width P.vars x → one_rule_fires (bit_rule (w.rail (of_var x)) (w.bit x) i one) ≡ true →
        GuardedChanged P.body m (wires_seen P w) (wires_seen P bitten) g
    bit_changed less e = guarded_changed P (wires_seen P w) (wires_seen P bitten) (Unread x) (unread_down x)
        (bit_leaves P (wires_seen P w) (wires_seen P bitten) x refl bit_acks (λ c h. refl) bit_far) g good.meets
        (record { read = guarded_writing_unread P (line_ack P w) g good.meets x (being_written less e) }) good.fits
      where
        bit_far : (y : ℕ) → (y == x) ≡ false → bitten.bit y ≡ w.bit y
        bit_far y h = ap (λ (b : Bool). if b then rails_turned (w.bit x) i one else w.bit y) h

    pub bit_next : can P script g w hs (bit_node x i one) ≡ true → Next P script m g w hs (bit_node x i one)
    bit_next e =
        let n = var_width P.vars x in
        let less = bit_below e in
        let r = bit_moved n (w.bit x) (w.rail (of_var x)) (w.wrote x) (w.joint x) (good.block x (some_of less)) i one less e in
        let c = seen_by P script hs good bitten refl bit_acks (bit_changed less e) in
        record {
          mode = m;
          to = g;
          same = refl;
          go = refl;
          way = λ ne. ne;
          good = record {
            meets = good.meets;
            fits = c.fits;
            talk = c.talk;
            rising = c.rising;
            falling = c.falling;
            wide = good.wide;
            sited = good.sited;
            block = λ y some. cases (y == x)
                (λ (h : (y == x) ≡ true). let z = same_number y x h in
                subst (λ (b : Rails). Block (var_width P.vars y) b (w.rail (of_var y)) (w.wrote y) (w.joint y))
                (sym (ap (λ (b : Bool). if b then rails_turned (w.bit x) i one else w.bit y) h))
                (subst (λ (v : ℕ). Block (var_width P.vars v) (rails_turned (w.bit x) i one) (w.rail (of_var v)) (w.wrote v) (w.joint v)) (sym z) r.block))
                (λ (h : (y == x) ≡ false). subst (λ (b : Rails). Block (var_width P.vars y) b (w.rail (of_var y)) (w.wrote y) (w.joint y))
                (sym (ap (λ (b : Bool). if b then rails_turned (w.bit x) i one else w.bit y) h)) (good.block y some));
            no_bit = λ y j s z. below y j s less z;
            no_wrote = good.no_wrote;
            single = good.single;
            listen = good.listen;
            valid = good.valid;
            neutral = good.neutral;
            heard_sited = good.heard_sited;
          };
          term = λ ne. inl (refl, still_left P script hs good bitten bit_acks);
          frees = λ y. cases (y == x)
              (λ (h : (y == x) ≡ true). λ f. absurd (cc (
                sym (ap (λ (a : Line → Bool). guarded_writing a g y) (fun_ext bit_acks))
                    ∙ f,
                subst (λ (v : ℕ). guarded_writing (line_ack P w) g v ≡ true) (sym (same_number y x h)) (being_written less e),
              )))
              (λ (h : (y == x) ≡ false). freed P script hs good bitten y ⊥ (ap (λ (b : Bool). if b then rails_turned (w.bit x) i one else w.bit y) h) bit_acks);
          keeps = λ q ne z. others q ne c.keeps r.bits r.wrotes z;
        }
      where
        below : (y j : ℕ) (s : Bool) → i < var_width P.vars x → bitten.bit y j s ≡ true → j < var_width P.vars y
        below y j s less z = cases (y == x)
            (λ (h : (y == x) ≡ true). subst (λ (v : ℕ). j < var_width P.vars v) (sym (same_number y x h))
            (inside (ap (λ (b : Bool). (if b then rails_turned (w.bit x) i one else w.bit y) j s) (sym h) ∙ z)))
            (λ (h : (y == x) ≡ false). good.no_bit y j s (ap (λ (b : Bool). (if b then rails_turned (w.bit x) i one else w.bit y) j s) (sym h) ∙ z))
          where
            inside : rails_turned (w.bit x) i one j s ≡ true → j < var_width P.vars x
            inside z = cases ((j == i) && same_bit s one)
                (λ (h : ((j == i) && same_bit s one) ≡ true). subst (λ (v : ℕ). v < var_width P.vars x)
                (sym (same_number j i (fst_true (j == i) (same_bit s one) h))) less)
                (λ (h : ((j == i) && same_bit s one) ≡ false). good.no_bit x j s (ap (λ b. if b then not (w.bit x i one) else w.bit x j s) (sym h) ∙ z))

        others : (q : Node P.body) → q ≢ bit_node x i one → ((s : GuardedSpot P.body) → guarded_moves (wires_seen P w) g s ≡ true
            → guarded_moves (wires_seen P bitten) g s ≡ true) → ((j : ℕ) (s : Bool) → (j ≡ i → s ≡ one → ⊥)
            → one_rule_fires (bit_rule (w.rail (of_var x)) (w.bit x) j s) ≡ true →
            one_rule_fires (bit_rule (w.rail (of_var x)) (rails_turned (w.bit x) i one) j s) ≡ true)
            → ((j : ℕ) → one_rule_fires (wrote_rule (w.rail (of_var x)) (w.bit x) (w.wrote x) j) ≡ true
            → one_rule_fires (wrote_rule (w.rail (of_var x)) (rails_turned (w.bit x) i one) (w.wrote x) j) ≡ true)
            → can P script g w hs q ≡ true → can P script g bitten hs q ≡ true
        others go_node ne l b v z = z
        others (own_node s) ne l b v z = l s z
        others (rail_node c j s) ne l b v z =
            or_map (sent_turns P w c j s ((guarded_shown g).offer c j s)) (driven P script w hs c j s) (sent_turns P w c j s ((guarded_shown g).offer c j s))
            (driven P script bitten hs c j s) (λ y. y)
            (λ y. same_driven P script w bitten hs refl refl c j s ∙ y) z
        others (ack_node c) ne l b v z =
            or_map (heard_turns P w c ((guarded_shown g).take c)) (answers (channel_width P.channels c) w c (completed hs c) (offer_at script c))
            (heard_turns P w c ((guarded_shown g).take c)) (answers (channel_width P.channels c) bitten c (completed hs c) (offer_at script c)) (λ y. y)
            (λ y. same_answers w bitten c refl refl (offer_at script c) (channel_width P.channels c) (completed hs c) ∙ y) z
        others (bit_node y j s) ne l b v z = cases (y == x)
            (λ (h : (y == x) ≡ true). let same = same_number y x h in
            ap (λ (a : Bool). one_rule_fires (bit_rule (w.rail (of_var y)) (if a then rails_turned (w.bit x) i one else w.bit y) j s)) h
            ∙ (ap (λ v. one_rule_fires (bit_rule (w.rail (of_var v)) (rails_turned (w.bit x) i one) j s)) same
            ∙ b j s (λ k l. ne (ap (λ v. bit_node v j s) same ∙ (ap (λ v. bit_node x v s) k ∙ ap (λ v. bit_node x i v) l)))
            (ap (λ v. one_rule_fires (bit_rule (w.rail (of_var v)) (w.bit v) j s)) (sym same) ∙ z)))
            (λ (h : (y == x) ≡ false). ap (λ (a : Bool).
            one_rule_fires (bit_rule (w.rail (of_var y)) (if a then rails_turned (w.bit x) i one else w.bit y) j s)) h ∙ z)
        others (wrote_node y j) ne l b v z = cases (y == x)
            (λ (h : (y == x) ≡ true). let same = same_number y x h in
            ap (λ (a : Bool). one_rule_fires (wrote_rule (w.rail (of_var y)) (if a then rails_turned (w.bit x) i one else w.bit y) (w.wrote y) j)) h
            ∙ (ap (λ u. one_rule_fires (wrote_rule (w.rail (of_var u)) (rails_turned (w.bit x) i one) (w.wrote u) j)) same
            ∙ v j (ap (λ u. one_rule_fires (wrote_rule (w.rail (of_var u)) (w.bit u) (w.wrote u) j)) (sym same) ∙ z)))
            (λ (h : (y == x) ≡ false). ap (λ (a : Bool). one_rule_fires (wrote_rule (w.rail (of_var y)) (if a then rails_turned (w.bit x) i one else w.bit y)
            (w.wrote y) j)) h ∙ z)
        others (joint_node y j) ne l b v z = z

  -- A variable's acknowledge turns over, or it stays.
  record VaChanged (x : ℕ) (now : Wires) : Type 0 where
    pub changed : SeenChanged P script hs good now
    pub term : Stored P (guarded_writing (line_ack P w) g) (guarded_writing (line_ack P now) g) x w now (root_left (line_ack P w) g)
        (root_left (line_ack P now) g)
    pub frees : (y : ℕ) → guarded_writing (line_ack P now) g y ≡ false → (guarded_writing (line_ack P w) g y ≡ false) ⊎ (Rises P w now y ⊎ ⊥)

  va_changed : (x : ℕ) (now : Wires) → 1 ≤ var_width P.vars x → now.rail ≡ w.rail → now.bit ≡ w.bit → ((c : ℕ) → now.ack c ≡ w.ack c)
      → ((y : ℕ) → (y == x) ≡ false → line_ack P now (of_var y) ≡ line_ack P w (of_var y))
      → Acked (var_width P.vars x) (w.bit x) (w.rail (of_var x)) (w.wrote x) (line_ack P w (of_var x)) (line_ack P now (of_var x)) → VaChanged x now
  va_changed x now some rails bits acks far (ack_stays same) = record {
    changed = seen_still P script hs good now rails bits here;
    term = no_store same (still_left P script hs good now here);
    frees = λ y e. inl (sym (ap (λ (a : Line → Bool). guarded_writing a g y) (fun_ext here)) ∙ e);
  }
    where
      here : (c : Line) → line_ack P now c ≡ line_ack P w c
      here (of_channel c) = acks c
      here (of_var y) = cases (y == x) (λ (h : (y == x) ≡ true). ap (λ v. line_ack P now (of_var v)) (same_number y x h)
          ∙ (same ∙ ap (λ v. line_ack P w (of_var v)) (sym (same_number y x h)))) (λ (h : (y == x) ≡ false). far y h)
  va_changed x now some rails bits acks far (ack_turns over ready) = cases (line_ack P w (of_var x)) falls rises
    where
      far_of : (l : Line) → same_line l (of_var x) ≡ false → line_ack P now l ≡ line_ack P w l
      far_of (of_channel c) e = acks c
      far_of (of_var y) e = far y e

      here : AckTurned P (wires_seen P w) (wires_seen P now) (of_var x)
      here = record { here = over; far = far_of; bits = bits; rails = λ c h. ap (λ (r : Line → Rails). r (of_channel c)) rails; widths = refl }

      one_turned : OneTurned (line_ack P w) (line_ack P now) (of_var x)
      one_turned = record { far = far_of }

      no_channel : (d : ℕ) → same_line (of_channel d) (of_var x) ≡ true → (guarded_shown g).take d ≡ false
      no_channel d e = absurd (cc e)

      falls : line_ack P w (of_var x) ≡ true → VaChanged x now
      falls h =
          let lows = ready_neutral (var_width P.vars x) (w.bit x) (w.rail (of_var x)) (w.wrote x) (line_ack P w (of_var x)) h ready in
          record {
            changed = line_falls P script hs good (of_var x) now here rails h lows no_channel;
            term = cleared h (over ∙ ap not h) (line_stays P script hs good (of_var x) now here rails h lows no_channel);
            frees = λ y e. inl (guarded_writing_falls (line_ack P w) (line_ack P now) (of_var x) one_turned h g y e);
          }

      rises : line_ack P w (of_var x) ≡ false → VaChanged x now
      rises h =
          let valid = ready_valid (var_width P.vars x) (w.bit x) (w.rail (of_var x)) (w.wrote x) (line_ack P w (of_var x)) h ready in
          record {
            changed = sent_rises P script hs good (of_var x) now here rails h valid.0 unheard some;
            term = cases ((guarded_shown g).says (of_var x))
                (λ (s : (guarded_shown g).says (of_var x) ≡ true). stores h (over ∙ ap not h) valid.1
                (passes_of P (wires_seen P w) (guarded_writing (line_ack P w) g) (of_var x) (root_left (line_ack P w) g) (root_left (line_ack P now) g)
                (line_fires P script hs good (of_var x) now here rails h valid.0 unheard some true false s refl)))
                (λ (s : (guarded_shown g).says (of_var x) ≡ false). takes_in h (over ∙ ap not h)
                (still_writing s (each_bit (var_width P.vars x) (w.rail (of_var x)) valid.0 0 (let z : 0 < var_width P.vars x = omega (arith, some) in z)))
                (line_fires P script hs good (of_var x) now here rails h valid.0 unheard some false false s refl));
            frees = λ y e. cases (y == x)
                (λ (z : (y == x) ≡ true). let same = same_number y x z in inr
                (inl (record { low = ap (λ v. line_ack P w (of_var v)) same ∙ h; high = ap (λ v. line_ack P now (of_var v)) same ∙ (over ∙ ap not h) })))
                (λ (z : (y == x) ≡ false). inl (sym (guarded_writing_other (line_ack P w) (line_ack P now) x one_turned g y (inl z)) ∙ e));
          }
        where
          unheard : (d : ℕ) → same_line (of_channel d) (of_var x) ≡ true → receives P.body d ≡ true → (guarded_shown g).take d ≡ true
          unheard d e u = absurd (cc e)

          still_writing : (guarded_shown g).says (of_var x) ≡ false → (side : Bool) × (w.rail (of_var x) 0 side ≡ true)
              → guarded_writing (line_ack P now) g x ≡ true
          still_writing s (side, up) = guarded_writing_other (line_ack P w) (line_ack P now) x one_turned g x (inr s)
              ∙ guarded_writing_there (wires_seen P w) g good.fits x 0 side h (good.rising (of_var x) 0 side refl h up)

  -- the node moves that says that a bit is written
  module _ (x i : ℕ) where
    abbrev written : Wires
    written = wrote_turned w x i

    written_here : written.wrote x ≡ turned (w.wrote x) i
    written_here = ap (λ (b : Bool). if b then turned (w.wrote x) i else w.wrote x) (self_number x)

    written_far : (y : ℕ) → (y == x) ≡ false → written.wrote y ≡ w.wrote y
    written_far y h = ap (λ (b : Bool). if b then turned (w.wrote x) i else w.wrote y) h

    written_others : Others P x w written
    written_others y h = ap (λ (f : ℕ → Bool). tree_answer (var_width P.vars y) f (w.joint y)) (written_far y h)

    wrote_below : one_rule_fires (wrote_rule (w.rail (of_var x)) (w.bit x) (w.wrote x) i) ≡ true → i < var_width P.vars x
    wrote_below e = by (w.wrote x i) refl
      where
        by : (b : Bool) → w.wrote x i ≡ b → i < var_width P.vars x
        by true h = good.no_wrote x i h
        by false h = either (w.rail (of_var x) i true && w.bit x i true) (w.rail (of_var x) i false && w.bit x i false)
            (ap (λ b. if b then not (w.rail (of_var x) i true) && not (w.rail (of_var x) i false) else (w.rail (of_var x) i true && w.bit x i true) ||
            (w.rail (of_var x) i false && w.bit x i false)) (sym h) ∙ e)
            (λ z. good.wide (of_var x) i true (fst_true (w.rail (of_var x) i true) _ z))
            (λ z. good.wide (of_var x) i false (fst_true (w.rail (of_var x) i false) _ z))

    pub wrote_next : can P script g w hs (wrote_node x i) ≡ true → Next P script m g w hs (wrote_node x i)
    wrote_next e =
        let n = var_width P.vars x in
        let less = wrote_below e in
        let r = wrote_turns n (w.bit x) (w.rail (of_var x)) (w.wrote x) (w.joint x) (good.block x (some_of less)) i less e in
        let v = va_changed x written (some_of less) refl refl (λ c. refl) written_others
        (subst (λ (f : ℕ → Bool). Acked n (w.bit x) (w.rail (of_var x)) (w.wrote x) (line_ack P w (of_var x)) (tree_answer n f (w.joint x)))
        (sym written_here) r.acked) in
        record {
          mode = m;
          to = g;
          same = refl;
          go = refl;
          way = λ ne. ne;
          good = record {
            meets = good.meets;
            fits = v.changed.fits;
            talk = v.changed.talk;
            rising = v.changed.rising;
            falling = v.changed.falling;
            wide = good.wide;
            sited = good.sited;
            block = λ y some. cases (y == x)
                (λ (h : (y == x) ≡ true). let z = same_number y x h in
                subst (λ (v : ℕ). Block (var_width P.vars v) (w.bit v) (w.rail (of_var v)) (written.wrote v) (w.joint v)) (sym z)
                (subst (λ (f : ℕ → Bool). Block n (w.bit x) (w.rail (of_var x)) f (w.joint x)) (sym written_here) r.block))
                (λ (h : (y == x) ≡ false). subst (λ (f : ℕ → Bool). Block (var_width P.vars y) (w.bit y) (w.rail (of_var y)) f (w.joint y))
                (sym (written_far y h)) (good.block y some));
            no_bit = good.no_bit;
            no_wrote = λ y j z. below y j less z;
            single = good.single;
            listen = good.listen;
            valid = good.valid;
            neutral = good.neutral;
            heard_sited = good.heard_sited;
          };
          term = λ ne. (written_others, v.term);
          frees = λ y e. (refl, v.frees y e);
          keeps = λ q ne z. others q ne v.changed.keeps r.wrotes r.joints z;
        }
      where
        below : (y j : ℕ) → i < var_width P.vars x → written.wrote y j ≡ true → j < var_width P.vars y
        below y j less z = cases (y == x)
            (λ (h : (y == x) ≡ true). subst (λ (v : ℕ). j < var_width P.vars v) (sym (same_number y x h))
            (inside (ap (λ (b : Bool). (if b then turned (w.wrote x) i else w.wrote y) j) (sym h) ∙ z)))
            (λ (h : (y == x) ≡ false). good.no_wrote y j (ap (λ (f : ℕ → Bool). f j) (sym (written_far y h)) ∙ z))
          where
            inside : turned (w.wrote x) i j ≡ true → j < var_width P.vars x
            inside z = cases (j == i)
                (λ (h : (j == i) ≡ true). subst (λ (v : ℕ). v < var_width P.vars x) (sym (same_number j i h)) less)
                (λ (h : (j == i) ≡ false). good.no_wrote x j (ap (λ b. if b then not (w.wrote x j) else w.wrote x j) (sym h) ∙ z))

        others : (q : Node P.body) → q ≢ wrote_node x i → ((s : GuardedSpot P.body) → guarded_moves (wires_seen P w) g s ≡ true
            → guarded_moves (wires_seen P written) g s ≡ true)
            → ((j : ℕ) → j ≢ i → one_rule_fires (wrote_rule (w.rail (of_var x)) (w.bit x) (w.wrote x) j) ≡ true
            → one_rule_fires (wrote_rule (w.rail (of_var x)) (w.bit x) (turned (w.wrote x) i) j) ≡ true)
            → ((k : ℕ) → node_moves (var_width P.vars x) (w.wrote x) (w.joint x) k ≡ true
            → node_moves (var_width P.vars x) (turned (w.wrote x) i) (w.joint x) k ≡ true)
            → can P script g w hs q ≡ true → can P script g written hs q ≡ true
        others go_node ne l b v z = z
        others (own_node s) ne l b v z = l s z
        others (rail_node c j s) ne l b v z =
            or_map (sent_turns P w c j s ((guarded_shown g).offer c j s)) (driven P script w hs c j s) (sent_turns P w c j s ((guarded_shown g).offer c j s))
            (driven P script written hs c j s) (λ y. y)
            (λ y. same_driven P script w written hs refl refl c j s ∙ y) z
        others (ack_node c) ne l b v z =
            or_map (heard_turns P w c ((guarded_shown g).take c)) (answers (channel_width P.channels c) w c (completed hs c) (offer_at script c))
            (heard_turns P w c ((guarded_shown g).take c)) (answers (channel_width P.channels c) written c (completed hs c) (offer_at script c)) (λ y. y)
            (λ y. same_answers w written c refl refl (offer_at script c) (channel_width P.channels c) (completed hs c) ∙ y) z
        others (bit_node y j s) ne l b v z = z
        others (wrote_node y j) ne l b v z = cases (y == x)
            (λ (h : (y == x) ≡ true). let same = same_number y x h in
            subst (λ (u : ℕ). one_rule_fires (wrote_rule (w.rail (of_var u)) (w.bit u) (written.wrote u) j) ≡ true) (sym same)
            (ap (λ (f : ℕ → Bool). one_rule_fires (wrote_rule (w.rail (of_var x)) (w.bit x) f j)) written_here
            ∙ b j (λ k. ne (ap (λ u. wrote_node u j) same ∙ ap (λ u. wrote_node x u) k))
            (ap (λ u. one_rule_fires (wrote_rule (w.rail (of_var u)) (w.bit u) (w.wrote u) j)) (sym same) ∙ z)))
            (λ (h : (y == x) ≡ false). ap (λ (f : ℕ → Bool). one_rule_fires (wrote_rule (w.rail (of_var y)) (w.bit y) f j)) (written_far y h) ∙ z)
        others (joint_node y j) ne l b v z = cases (y == x)
            (λ (h : (y == x) ≡ true). let same = same_number y x h in
            subst (λ (u : ℕ). node_moves (var_width P.vars u) (written.wrote u) (w.joint u) j ≡ true) (sym same)
            (ap (λ (f : ℕ → Bool). node_moves (var_width P.vars x) f (w.joint x) j) written_here
            ∙ v j (ap (λ u. node_moves (var_width P.vars u) (w.wrote u) (w.joint u) j) (sym same) ∙ z)))
            (λ (h : (y == x) ≡ false). ap (λ (f : ℕ → Bool). node_moves (var_width P.vars y) f (w.joint y) j) (written_far y h) ∙ z)

  -- a node of the tree moves
  module _ (x k : ℕ) where
    abbrev jointed : Wires
    jointed = joint_turned w x k

    jointed_here : jointed.joint x ≡ turned (w.joint x) k
    jointed_here = ap (λ (b : Bool). if b then turned (w.joint x) k else w.joint x) (self_number x)

    jointed_far : (y : ℕ) → (y == x) ≡ false → jointed.joint y ≡ w.joint y
    jointed_far y h = ap (λ (b : Bool). if b then turned (w.joint x) k else w.joint y) h

    jointed_others : Others P x w jointed
    jointed_others y h = ap (λ (f : ℕ → Bool). tree_answer (var_width P.vars y) (w.wrote y) f) (jointed_far y h)

    pub joint_next : 1 ≤ var_width P.vars x → can P script g w hs (joint_node x k) ≡ true → Next P script m g w hs (joint_node x k)
    joint_next some e =
        let n = var_width P.vars x in
        let r = joint_turns n (w.bit x) (w.rail (of_var x)) (w.wrote x) (w.joint x) (good.block x some) k e in
        let v = va_changed x jointed some refl refl (λ c. refl) jointed_others
        (subst (λ (f : ℕ → Bool). Acked n (w.bit x) (w.rail (of_var x)) (w.wrote x) (line_ack P w (of_var x)) (tree_answer n (w.wrote x) f))
        (sym jointed_here) r.acked) in
        record {
          mode = m;
          to = g;
          same = refl;
          go = refl;
          way = λ ne. ne;
          good = record {
            meets = good.meets;
            fits = v.changed.fits;
            talk = v.changed.talk;
            rising = v.changed.rising;
            falling = v.changed.falling;
            wide = good.wide;
            sited = good.sited;
            block = λ y some. cases (y == x)
                (λ (h : (y == x) ≡ true). let z = same_number y x h in
                subst (λ (v : ℕ). Block (var_width P.vars v) (w.bit v) (w.rail (of_var v)) (w.wrote v) (jointed.joint v)) (sym z)
                (subst (λ (f : ℕ → Bool). Block n (w.bit x) (w.rail (of_var x)) (w.wrote x) f) (sym jointed_here) r.block))
                (λ (h : (y == x) ≡ false). subst (λ (f : ℕ → Bool). Block (var_width P.vars y) (w.bit y) (w.rail (of_var y)) (w.wrote y) f)
                (sym (jointed_far y h)) (good.block y some));
            no_bit = good.no_bit;
            no_wrote = good.no_wrote;
            single = good.single;
            listen = good.listen;
            valid = good.valid;
            neutral = good.neutral;
            heard_sited = good.heard_sited;
          };
          term = λ ne. (jointed_others, v.term);
          frees = λ y e. (refl, v.frees y e);
          keeps = λ q ne z. others q ne v.changed.keeps r.joints z;
        }
      where
        others : (q : Node P.body) → q ≢ joint_node x k → ((s : GuardedSpot P.body) → guarded_moves (wires_seen P w) g s ≡ true
            → guarded_moves (wires_seen P jointed) g s ≡ true)
            → ((j : ℕ) → j ≢ k → node_moves (var_width P.vars x) (w.wrote x) (w.joint x) j ≡ true
            → node_moves (var_width P.vars x) (w.wrote x) (turned (w.joint x) k) j ≡ true)
            → can P script g w hs q ≡ true → can P script g jointed hs q ≡ true
        others go_node ne l v z = z
        others (own_node s) ne l v z = l s z
        others (rail_node c j s) ne l v z =
            or_map (sent_turns P w c j s ((guarded_shown g).offer c j s)) (driven P script w hs c j s) (sent_turns P w c j s ((guarded_shown g).offer c j s))
            (driven P script jointed hs c j s) (λ y. y)
            (λ y. same_driven P script w jointed hs refl refl c j s ∙ y) z
        others (ack_node c) ne l v z =
            or_map (heard_turns P w c ((guarded_shown g).take c)) (answers (channel_width P.channels c) w c (completed hs c) (offer_at script c))
            (heard_turns P w c ((guarded_shown g).take c)) (answers (channel_width P.channels c) jointed c (completed hs c) (offer_at script c)) (λ y. y)
            (λ y. same_answers w jointed c refl refl (offer_at script c) (channel_width P.channels c) (completed hs c) ∙ y) z
        others (bit_node y j s) ne l v z = z
        others (wrote_node y j) ne l v z = z
        others (joint_node y j) ne l v z = cases (y == x)
            (λ (h : (y == x) ≡ true). let same = same_number y x h in
            subst (λ (u : ℕ). node_moves (var_width P.vars u) (w.wrote u) (jointed.joint u) j ≡ true) (sym same)
            (ap (λ (f : ℕ → Bool). node_moves (var_width P.vars x) (w.wrote x) f j) jointed_here
            ∙ v j (λ i. ne (ap (λ u. joint_node u j) same ∙ ap (λ u. joint_node x u) i))
            (ap (λ u. node_moves (var_width P.vars u) (w.wrote u) (w.joint u) j) (sym same) ∙ z)))
            (λ (h : (y == x) ≡ false). ap (λ (f : ℕ → Bool). node_moves (var_width P.vars y) (w.wrote y) f j) (jointed_far y h) ∙ z)

-- go rises
go_next : (P : TypedProgram) (script : List OfferValue) {w : Wires} (hs : List (List ℕ)) (g : GuardedAt P.body idle) → Good P idle g w
    → Next P script idle g w hs go_node
go_next P script {w = w} hs g_rests good = record {
  mode = running;
  to = g_in false rests refl;
  same = refl;
  go = refl;
  way = λ ne e. cc e;
  good = record {
    meets = good.meets;
    fits = tt;
    talk = good.talk;
    rising = good.rising;
    falling = good.falling;
    wide = good.wide;
    sited = good.sited;
    block = good.block;
    no_bit = good.no_bit;
    no_wrote = good.no_wrote;
    single = good.single;
    listen = good.listen;
    valid = good.valid;
    neutral = good.neutral;
    heard_sited = good.heard_sited;
  };
  term = λ ne. inl (refl, refl);
  frees = λ x e. (refl, inl refl);
  keeps = keeps;
}
  where
    keeps : (k : Node P.body) → k ≢ go_node → can P script (g_rests {p = P.body}) w hs k ≡ true
        → can P script (g_in {p = P.body} false rests refl) w hs k ≡ true
    keeps go_node ne z = absurd (ne refl)
    keeps (own_node s) ne z = absurd (cc z)
    keeps (rail_node k i side) ne z = z
    keeps (ack_node k) ne z = z
    keeps (bit_node x i s) ne z = z
    keeps (wrote_node x i) ne z = z
    keeps (joint_node x i) ne z = z

-- each move keeps what holds, and takes no other move away
pub next_of : (P : TypedProgram) (script : List OfferValue) → Fitted P script → {m : Mode} {g : GuardedAt P.body m} {w : Wires} (hs : List (List ℕ))
    → Good P m g w → (n : Node P.body) → can P script g w hs n ≡ true → Next P script m g w hs n
next_of P script fitted {m = idle} {g = g} hs good go_node e = go_next P script hs g good
next_of P script fitted {m = running} hs good go_node e = absurd (cc e)
next_of P script fitted {m = answered} hs good go_node e = absurd (cc e)
next_of P script fitted {m = returning} hs good go_node e = absurd (cc e)
next_of P script fitted {g = g} {w = w} hs good (own_node s) e = own_next P script hs good s e
    (guarded_advance P (wires_seen P w) (clean_of good) good.meets g s good.fits
    record {
      send = λ k i h. good.talk k (sends_merged P P.body good.meets k i) h;
      receive = λ c i h. good.listen c
          (receives_heard P P.body good.meets c i) h;
    } e)
next_of P script fitted hs good (rail_node k i side) e = rail_next P script hs good fitted k i side e
next_of P script fitted hs good (ack_node k) e = ack_next P script hs good k fitted e
next_of P script fitted hs good (bit_node x i side) e = bit_next P script hs good x i side e
next_of P script fitted hs good (wrote_node x i) e = wrote_next P script hs good x i e
next_of P script fitted {w = w} hs good (joint_node x k) e = joint_next P script hs good x k (joint_some (var_width P.vars x) (w.wrote x) (w.joint x) k e) e
