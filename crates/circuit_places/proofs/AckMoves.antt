-- What a move of a channel's acknowledge does to the whole circuit: the environment's on an `out` channel, and the program's on
-- an `in` channel.
use Rattle.std.proofs.Common.{◌≡◌, ◌≢◌, ℕ, ◌==◌, ◌≤◌, Bool, true, false, List, refl, sym, ap, ◌∙◌, subst, inl, inr, arith}
use Rattle.std.specs.Prelude.{not, ◌&&◌, if◌then◌else◌, slice_get, is_some}
use Rattle.env_script.specs.Scripts.{OfferValue, gives, takes, nothing, offer_at, is_over}
use Rattle.env_script.specs.Runs.{completed}
use Rattle.width_check.specs.Processes.{Process, sending, receiving, TypedProgram}
use Rattle.width_check.specs.Typing.{kind_at, channel_width, var_width}
use Rattle.chp_meaning.specs.Terms.{finished}
use Rattle.function_blocks.specs.RailFacts.{covered}
use Rattle.circuit_places.specs.Lines.{Line, of_channel, of_var, same_line, Rails}
use Rattle.circuit_places.specs.Circuit.{low as low_cells, GuardedSpot, turns, takers}
use Rattle.circuit_places.specs.Whole.{Wires, wires_seen, line_ack, is_heard, is_merged, value_on, neutral_on, brings, offers, Node, go_node, own_node, rail_node, ack_node, bit_node, wrote_node, joint_node, answers, ack_turned, cells_passed, passed_after}
use Rattle.circuit_places.proofs.RailLemmas.{fst_true, snd_true, neutral_low, each_bit}
use Rattle.circuit_places.proofs.LineNames.{self_number, same_number}
use Rattle.circuit_places.proofs.BitTable.{legal, held_t, held_f}
use Rattle.circuit_places.proofs.Blocks.{now_at}
use Rattle.circuit_places.proofs.Places.{Mode, GuardedAt, guarded_cells, guarded_shown, guarded_writing, guarded_moves}
use Rattle.circuit_places.proofs.Meets.{PortMeets, receives, sends_merged, receives_heard, receives_within}
use Rattle.circuit_places.proofs.Left.{Act}
use Rattle.circuit_places.proofs.Exchange.{Exchange, One, Two}
use Rattle.circuit_places.proofs.Flow.{low_of, or_map, cases}
use Rattle.circuit_places.proofs.Talks.{either, guarded_talks_sends, guarded_says_is, guarded_takes_listens, guarded_listens_receives}
use Rattle.circuit_places.proofs.Change.{AckTurned}
use Rattle.circuit_places.proofs.Hears.{Hearing}
use Rattle.circuit_places.proofs.Fires.{Sent, passes_of}
use Rattle.circuit_places.proofs.Writing.{OneTurned, guarded_writing_falls, guarded_writing_deaf}
use Rattle.circuit_places.proofs.Sites.{is_nil, any_not_nil, same_takers, guarded_taken}
use Rattle.circuit_places.proofs.System.{Good, clean_of, can, driven, heard_turns, sent_turns, root_left, Passing, Arrival, Lands, Arrives, Exchanges, Acks, taken_out, taken_in, taken_over, released, Freed, Next, Fitted, takes_of, may_low, may_high, passed_far}
use Rattle.circuit_places.proofs.LineMoves.{same_channel, talks, gives_of, drives_up, brings_below, SeenChanged, sent_rises, line_fires, line_falls, line_stays}

-- the environment reads the acknowledge and the rails of the channel alone
pub same_answers : (w now : Wires) (c : ℕ) → now.ack c ≡ w.ack c → now.rail (of_channel c) ≡ w.rail (of_channel c) → (offer : OfferValue) (n done : ℕ)
    → answers n now c done offer ≡ answers n w c done offer
same_answers w now c a r (gives values) n done = refl
same_answers w now c a r nothing n done = refl
same_answers w now c a r (takes count) n done =
    ap (λ b. if b then neutral_on n (now.rail (of_channel c)) else is_some (value_on n (now.rail (of_channel c))) && is_over count done) a
    ∙ ap (λ (x : Rails). if w.ack c then neutral_on n x else is_some (value_on n x) && is_over count done) r

pub same_offers : (w now : Wires) (c : ℕ) → now.ack c ≡ w.ack c → now.rail (of_channel c) ≡ w.rail (of_channel c)
    → (offer : OfferValue) (n before after i : ℕ) (one : Bool) → after ≡ before → offers n now c after offer i one ≡ offers n w c before offer i one
same_offers w now c a r (takes count) n before after i one e = refl
same_offers w now c a r nothing n before after i one e = refl
same_offers w now c a r (gives values) n before after i one e =
    ap (λ b. if b then now.rail (of_channel c) i one else brings n (slice_get values after) i one &&
    (not (now.rail (of_channel c) i true) && not (now.rail (of_channel c) i false))) a
    ∙ (ap (λ (x : Rails). if w.ack c then x i one else brings n (slice_get values after) i one && (not (x i true) && not (x i false))) r
    ∙ ap (λ d. if w.ack c then w.rail (of_channel c) i one else brings n (slice_get values d) i one &&
    (not (w.rail (of_channel c) i true) && not (w.rail (of_channel c) i false))) e)

pub same_driven : (P : TypedProgram) (script : List OfferValue) (w now : Wires) (hs : List (List ℕ)) → now.ack ≡ w.ack → now.rail ≡ w.rail
    → (l : Line) (i : ℕ) (one : Bool) → driven P script now hs l i one ≡ driven P script w hs l i one
same_driven P script w now hs a r (of_var x) i one = refl
same_driven P script w now hs a r (of_channel c) i one =
    same_offers w now c (ap (λ (f : ℕ → Bool). f c) a) (ap (λ (f : Line → Rails). f (of_channel c)) r) (offer_at script c) (channel_width P.channels c)
    (completed hs c) (completed hs c) i one refl

-- the acknowledge of a channel moves, and those of others stay, and what has passed on them
pub acked_far : (w : Wires) (k c : ℕ) → (c == k) ≡ false → (ack_turned w k).ack c ≡ w.ack c
acked_far w k c e = ap (λ b. if b then not (w.ack k) else w.ack c) e

pub acked_near : (w : Wires) (k c : ℕ) → (c == k) ≡ true → (ack_turned w k).ack c ≡ not (w.ack k)
acked_near w k c e = ap (λ b. if b then not (w.ack k) else w.ack c) e

pub done_far : (P : TypedProgram) (w : Wires) (hs : List (List ℕ)) (k c : ℕ) → (c == k) ≡ false
    → completed (passed_after {p = P.body} P.channels w hs (ack_node k)) c ≡ completed hs c
done_far P w hs k c e = here (w.ack k)
  where
    apart : c ≡ k → ⊥
    apart same = absurd (cc (e, ap (λ x. x == k) same, self_number k))

    here : (b : Bool) → completed (if b then hs else cells_passed hs k (value_on (channel_width P.channels k) (w.rail (of_channel k)))) c ≡ completed hs c
    here true = refl
    here false = passed_far hs k (value_on (channel_width P.channels k) (w.rail (of_channel k))) c apart

module _ (P : TypedProgram) (script : List OfferValue) {m : Mode} {g : GuardedAt P.body m} {w : Wires} (hs : List (List ℕ)) (good : Good P m g w) (k : ℕ) where
  abbrev acked : Wires
  acked = ack_turned w k

  abbrev after : List (List ℕ)
  after = passed_after {p = P.body} P.channels w hs (ack_node k)

  ack_is : AckTurned P (wires_seen P w) (wires_seen P acked) (of_channel k)
  ack_is = record { here = ap (λ b. if b then not (w.ack k) else w.ack k) (self_number k); far = far; bits = refl; rails = λ c h. refl; widths = refl }
    where
      far : (l : Line) → same_line l (of_channel k) ≡ false → line_ack P acked l ≡ line_ack P w l
      far (of_channel c) e = ap (λ b. if b then not (w.ack k) else w.ack c) e
      far (of_var x) e = refl

  one_turned : OneTurned (line_ack P w) (line_ack P acked) (of_channel k)
  one_turned = record { far = ack_is.far }

  far_ack : (c : ℕ) → (c == k) ≡ false → acked.ack c ≡ w.ack c
  far_ack c e = acked_far w k c e

  near_ack : (c : ℕ) → (c == k) ≡ true → acked.ack c ≡ not (w.ack k)
  near_ack c e = acked_near w k c e

  far_done : (c : ℕ) → (c == k) ≡ false → completed after c ≡ completed hs c
  far_done c e = done_far P w hs k c e

  -- Other moves stay, where those of the statements do, and the environment moves no rail of the channel.
  ack_others : (n : Node P.body) → n ≢ ack_node k →
      ((s : GuardedSpot P.body) → guarded_moves (wires_seen P w) g s ≡ true → guarded_moves (wires_seen P acked) g s ≡ true)
      → ((j : ℕ) (b : Bool) → driven P script w hs (of_channel k) j b ≡ true → ⊥) → can P script g w hs n ≡ true → can P script g acked after n ≡ true
  ack_others go_node ne l d z = z
  ack_others (own_node s) ne l d z = l s z
  ack_others (rail_node c j b) ne l d z =
      or_map (sent_turns P w c j b ((guarded_shown g).offer c j b)) (driven P script w hs c j b) (sent_turns P w c j b ((guarded_shown g).offer c j b))
      (driven P script acked after c j b) (λ y. y) (drive c) z
    where
      drive : (r : Line) → driven P script w hs r j b ≡ true → driven P script acked after r j b ≡ true
      drive (of_var x) y = absurd (cc y)
      drive (of_channel n) y = cases (n == k)
          (λ (e : (n == k) ≡ true). absurd (d j b (ap (λ r. driven P script w hs (of_channel r) j b) (sym (same_number n k e)) ∙ y)))
          (λ (e : (n == k) ≡ false). same_offers w acked n (far_ack n e) refl (offer_at script n) (channel_width P.channels n) (completed hs n)
          (completed after n) j b (far_done n e) ∙ y)
  ack_others (ack_node c) ne l d z = cases (c == k)
      (λ (e : (c == k) ≡ true). absurd (ne (ap (λ x. ack_node x) (same_number c k e))))
      (λ (e : (c == k) ≡ false).
      or_map (heard_turns P w c ((guarded_shown g).take c)) (answers (channel_width P.channels c) w c (completed hs c) (offer_at script c))
      (heard_turns P acked c ((guarded_shown g).take c)) (answers (channel_width P.channels c) acked c (completed after c) (offer_at script c))
      (λ y. ap (λ a. is_heard (kind_at P.channels c) && turns a ((guarded_shown g).take c) (not ((guarded_shown g).take c))) (far_ack c e) ∙ y)
      (λ y. ap (λ x. answers (channel_width P.channels c) acked c x (offer_at script c)) (far_done c e)
      ∙ (same_answers w acked c (far_ack c e) refl (offer_at script c) (channel_width P.channels c) (completed hs c) ∙ y))
      z)
  ack_others (bit_node x j b) ne l d z = z
  ack_others (wrote_node x j) ne l d z = z
  ack_others (joint_node x j) ne l d z = z

  -- what holds of receives afterwards
  record Heard : Type 0 where
    pub listens : (c : ℕ) → is_heard (kind_at P.channels c) ≡ true → acked.ack c ≡ true → (guarded_shown g).listen c ≡ true
    pub full : (c : ℕ) → is_heard (kind_at P.channels c) ≡ true → acked.ack c ≡ false → (guarded_shown g).take c ≡ true
        → is_some (value_on (channel_width P.channels c) (w.rail (of_channel c))) ≡ true
    pub gone : (c : ℕ) → is_heard (kind_at P.channels c) ≡ true → acked.ack c ≡ true → (guarded_shown g).take c ≡ false
        → neutral_on (channel_width P.channels c) (w.rail (of_channel c)) ≡ true
    pub sited : (c : ℕ) → acked.ack c ≡ true → is_heard (kind_at P.channels c) ≡ true → is_nil (takers P.body (low_cells P.body) c) ≡ false

  acked_by : SeenChanged P script hs good acked → Heard → Acks P (guarded_writing (line_ack P w) g) (guarded_writing (line_ack P acked) g) k w
      (root_left (line_ack P w) g) (root_left (line_ack P acked) g)
      → ((x : ℕ) → Freed P w acked (guarded_writing (line_ack P w) g x) (guarded_writing (line_ack P acked) g x) x (Arrival {p = P.body} P w (ack_node k)))
      → ((j : ℕ) (b : Bool) → driven P script w hs (of_channel k) j b ≡ true → ⊥) → Next P script m g w hs (ack_node k)
  acked_by x heard term frees quiet = record {
    mode = m;
    to = g;
    same = refl;
    go = refl;
    way = λ ne. ne;
    good = record {
      meets = good.meets;
      fits = x.fits;
      talk = x.talk;
      rising = x.rising;
      falling = x.falling;
      wide = good.wide;
      sited = good.sited;
      block = good.block;
      no_bit = good.no_bit;
      no_wrote = good.no_wrote;
      single = good.single;
      listen = heard.listens;
      valid = heard.full;
      neutral = heard.gone;
      heard_sited = heard.sited;
    };
    term = λ ne. term;
    frees = frees;
    keeps = λ n ne z. ack_others n ne x.keeps quiet z;
  }

  -- the environment's, on a channel on which the program doesn't receive
  module _ (fitted : Fitted P script) (e : answers (channel_width P.channels k) w k (completed hs k) (offer_at script k) ≡ true) where
    out_next : Next P script m g w hs (ack_node k)
    out_next =
        let t = takes_of (channel_width P.channels k) w k (completed hs k) (offer_at script k) e in
        let kinds = fitted.out k t.count t.is in
        let wide = fitted.wide k (fitted.within k (λ z. cc (t.is, z))) in
        let quiet = λ (j : ℕ) (b : Bool) (z : driven P script w hs (of_channel k) j b ≡ true).
        let o = gives_of (channel_width P.channels k) w k (completed hs k) (offer_at script k) j b z in
        (let x : ⊥ = cc (t.is, o.1) in x) in
        cases (w.ack k)
        (λ (h : w.ack k ≡ true).
        let lows = may_high (channel_width P.channels k) w k (is_over t.count (completed hs k)) h t.may in
        acked_by (line_falls P script hs good (of_channel k) acked ack_is refl h lows (deaf kinds.1)) (others kinds.1)
        (taken_out kinds.1 (subst (λ (b : Bool). Passing P (wires_seen P w) (guarded_writing (line_ack P w) g) (of_channel k) b (root_left (line_ack P w) g)
        (root_left (line_ack P acked) g)) (sym h) (line_stays P script hs good (of_channel k) acked ack_is refl h lows (deaf kinds.1)))
        (λ z y. free kinds.1 z y))
        (λ z y. (refl, inl (free kinds.1 z y))) quiet)
        (λ (h : w.ack k ≡ false).
        let some = (may_low (channel_width P.channels k) w k (is_over t.count (completed hs k)) h t.may).0 in
        acked_by (sent_rises P script hs good (of_channel k) acked ack_is refl h some (untaken kinds.1) wide) (others kinds.1)
        (taken_out kinds.1 (subst (λ (b : Bool). Passing P (wires_seen P w) (guarded_writing (line_ack P w) g) (of_channel k) b (root_left (line_ack P w) g)
        (root_left (line_ack P acked) g)) (sym h)
        (passes_of P (wires_seen P w) (guarded_writing (line_ack P w) g) (of_channel k) (root_left (line_ack P w) g) (root_left (line_ack P acked) g)
        (line_fires P script hs good (of_channel k) acked ack_is refl h some (untaken kinds.1) wide true false
        (guarded_says_is g k ∙ talks P script hs good (of_channel k) kinds.0 h some wide) (deaf kinds.1 k (self_number k))))) (λ z y. free kinds.1 z y))
        (λ z y. (refl, inl (free kinds.1 z y))) quiet)
      where
        unheard : is_heard (kind_at P.channels k) ≡ false → (d : ℕ) → is_heard (kind_at P.channels d) ≡ true → (d == k) ≡ false
        unheard out d h = cases (d == k)
            (λ (z : (d == k) ≡ true). absurd (cc (out, ap (λ n. is_heard (kind_at P.channels n)) (same_number d k z), h)))
            (λ (z : (d == k) ≡ false). z)

        untaken : is_heard (kind_at P.channels k) ≡ false → (d : ℕ) → same_line (of_channel d) (of_channel k) ≡ true → receives P.body d ≡ true
            → (guarded_shown g).take d ≡ true
        untaken out d e u = absurd (cc (unheard out d (receives_heard P P.body good.meets d u), e))

        no_listen : is_heard (kind_at P.channels k) ≡ false → (guarded_shown g).listen k ≡ false
        no_listen out = low_of ((guarded_shown g).listen k) (λ z. receives_heard P P.body good.meets k (guarded_listens_receives g k z)) out

        deaf : is_heard (kind_at P.channels k) ≡ false → (d : ℕ) → (d == k) ≡ true → (guarded_shown g).take d ≡ false
        deaf out d z = ap (guarded_shown g).take (same_number d k z) ∙ low_of ((guarded_shown g).take k) (guarded_takes_listens g k) (no_listen out)

        free : is_heard (kind_at P.channels k) ≡ false → (z : ℕ) → guarded_writing (line_ack P acked) g z ≡ false → guarded_writing (line_ack P w) g z ≡ false
        free out z y = sym (guarded_writing_deaf (line_ack P w) (line_ack P acked) k one_turned g (no_listen out) z) ∙ y

        others : is_heard (kind_at P.channels k) ≡ false → Heard
        others out = record {
          listens = λ c u h. good.listen c u (sym (far_ack c (unheard out c u)) ∙ h);
          full = λ c u h. good.valid c u (sym (far_ack c (unheard out c u)) ∙ h);
          gone = λ c u h. good.neutral c u (sym (far_ack c (unheard out c u)) ∙ h);
          sited = λ c h u. good.heard_sited c (sym (far_ack c (unheard out c u)) ∙ h) u;
        }

  -- the program's, on an `in` channel
  module _ (fitted : Fitted P script) (heard : is_heard (kind_at P.channels k) ≡ true) where
    quiet_low : w.ack k ≡ false → is_some (value_on (channel_width P.channels k) (w.rail (of_channel k))) ≡ true → (j : ℕ) (b : Bool)
        → driven P script w hs (of_channel k) j b ≡ true → ⊥
    quiet_low low some j b z =
        let o = gives_of (channel_width P.channels k) w k (completed hs k) (offer_at script k) j b z in
        let up = drives_up (channel_width P.channels k) w k (slice_get o.0 (completed hs k)) j b low
        (sym (ap (λ x. offers (channel_width P.channels k) w k (completed hs k) x j b) o.1) ∙ z) in
        one up.1 up.2 (each_bit (channel_width P.channels k) (w.rail (of_channel k)) some j
        (brings_below (channel_width P.channels k) (slice_get o.0 (completed hs k)) j b up.0))
      where
        one : w.rail (of_channel k) j true ≡ false → w.rail (of_channel k) j false ≡ false → (side : Bool) × (w.rail (of_channel k) j side ≡ true) → ⊥
        one t f (true, h) = cc (t, h)
        one t f (false, h) = cc (f, h)

    quiet_high : w.ack k ≡ true → neutral_on (channel_width P.channels k) (w.rail (of_channel k)) ≡ true → (j : ℕ) (b : Bool)
        → driven P script w hs (of_channel k) j b ≡ true → ⊥
    quiet_high high lows j b z =
        let o = gives_of (channel_width P.channels k) w k (completed hs k) (offer_at script k) j b z in
        let up : w.rail (of_channel k) j b ≡ true =
        sym (ap (λ x. if x then w.rail (of_channel k) j b else brings (channel_width P.channels k) (slice_get o.0 (completed hs k)) j b &&
        (not (w.rail (of_channel k) j true) && not (w.rail (of_channel k) j false))) high)
        ∙ (sym (ap (λ x. offers (channel_width P.channels k) w k (completed hs k) x j b) o.1) ∙ z) in
        cc (neutral_low (channel_width P.channels k) (w.rail (of_channel k)) lows j b (good.wide (of_channel k) j b up), up)

    in_falls : w.ack k ≡ true → (guarded_shown g).take k ≡ false → Next P script m g w hs (ack_node k)
    in_falls high gone =
        let lows = good.neutral k heard high gone in
        let x = line_falls P script hs good (of_channel k) acked ack_is refl high lows free in
        acked_by x there (released heard high (line_stays P script hs good (of_channel k) acked ack_is refl high lows free)
        (λ z y. guarded_writing_falls (line_ack P w) (line_ack P acked) (of_channel k) one_turned high g z y))
        (λ z y. (refl, inl (guarded_writing_falls (line_ack P w) (line_ack P acked) (of_channel k) one_turned high g z y))) (quiet_high high lows)
      where
        free : (d : ℕ) → (d == k) ≡ true → (guarded_shown g).take d ≡ false
        free d z = ap (guarded_shown g).take (same_number d k z) ∙ gone

        there : Heard
        there = record {
          listens = λ c u h. cases (c == k)
              (λ (e : (c == k) ≡ true). absurd (cc (near_ack c e, high, h)))
              (λ (e : (c == k) ≡ false). good.listen c u (sym (far_ack c e) ∙ h));
          full = λ c u h t. cases (c == k)
              (λ (e : (c == k) ≡ true). absurd (cc (free c e, t)))
              (λ (e : (c == k) ≡ false). good.valid c u (sym (far_ack c e) ∙ h) t);
          gone = λ c u h t. cases (c == k)
              (λ (e : (c == k) ≡ true). absurd (cc (near_ack c e, high, h)))
              (λ (e : (c == k) ≡ false). good.neutral c u (sym (far_ack c e) ∙ h) t);
          sited = λ c h u. cases (c == k)
              (λ (e : (c == k) ≡ true). absurd (cc (near_ack c e, high, h)))
              (λ (e : (c == k) ≡ false). good.heard_sited c (sym (far_ack c e) ∙ h) u);
        }

    in_rises : w.ack k ≡ false → (guarded_shown g).take k ≡ true → Next P script m g w hs (ack_node k)
    in_rises low take =
        let some = good.valid k heard low take in
        acked_by (sent_rises P script hs good (of_channel k) acked ack_is refl low some took_it wide) there
        (cases (is_merged P (of_channel k))
        (λ (u : is_merged P (of_channel k) ≡ true). taken_over heard u (exchanges some
        (line_fires P script hs good (of_channel k) acked ack_is refl low some took_it wide true true
        (guarded_says_is g k ∙ talks P script hs good (of_channel k) u low some wide) take)))
        (λ (u : is_merged P (of_channel k) ≡ false). taken_in heard u (arrives some
        (line_fires P script hs good (of_channel k) acked ack_is refl low some took_it wide false true
        (guarded_says_is g k ∙ low_of ((guarded_shown g).talk (of_channel k)) (λ z. sends_merged P P.body good.meets (of_channel k)
        (guarded_talks_sends g (of_channel k) z)) u) take))))
        (λ z y. (refl, inr (inr (heard, low)))) (quiet_low low some)
      where
        wide : 1 ≤ channel_width P.channels k
        wide = fitted.wide k (receives_within P P.body good.meets k (guarded_listens_receives g k (guarded_takes_listens g k take)))

        took : (d : ℕ) → (d == k) ≡ true → (guarded_shown g).take d ≡ true
        took d z = ap (guarded_shown g).take (same_number d k z) ∙ take

        took_it : (d : ℕ) → same_line (of_channel d) (of_channel k) ≡ true → receives P.body d ≡ true → (guarded_shown g).take d ≡ true
        took_it d z e = took d z

        there : Heard
        there = record {
          listens = λ c u h. cases (c == k)
              (λ (e : (c == k) ≡ true). guarded_takes_listens g c (took c e))
              (λ (e : (c == k) ≡ false). good.listen c u (sym (far_ack c e) ∙ h));
          full = λ c u h t. cases (c == k)
              (λ (e : (c == k) ≡ true). absurd (cc (near_ack c e, low, h)))
              (λ (e : (c == k) ≡ false). good.valid c u (sym (far_ack c e) ∙ h) t);
          gone = λ c u h t. cases (c == k)
              (λ (e : (c == k) ≡ true). absurd (cc (took c e, t)))
              (λ (e : (c == k) ≡ false). good.neutral c u (sym (far_ack c e) ∙ h) t);
          sited = λ c h u. cases (c == k)
              (λ (e : (c == k) ≡ true). sym (same_takers g c)
              ∙ any_not_nil (takers P.body (guarded_cells g).inner c) (guarded_taken g c ∙ took c e))
              (λ (e : (c == k) ≡ false). good.heard_sited c (sym (far_ack c e) ∙ h) u);
        }

        Receiver : Process → Type 0
        Receiver = Hearing P (wires_seen P w) (of_channel k) (guarded_shown g) (guarded_writing (line_ack P w) g) (guarded_writing (line_ack P acked) g)

        Sender : Process → Type 0
        Sender = Sent P (wires_seen P w) (guarded_writing (line_ack P w) g) (of_channel k)

        -- each rail that came is one that the variable's bits have
        has : (q : Process) (r : Receiver q) (i : ℕ) (one : Bool) → w.rail (of_channel k) i one ≡ true → w.bit r.var i one ≡ true
        has q r i one z =
            let v = r.var in
            let up = good.falling (of_var v) i one r.done (r.all i one z) in
            let less = good.wide (of_var v) i one up in
            by one up ((good.block v (let g : 1 ≤ var_width P.vars v = omega (arith, less) in g)).bits i less)
          where
            by : (one : Bool) → w.rail (of_var r.var) i one ≡ true → legal
                (now_at (w.bit r.var) (w.rail (of_var r.var)) (w.wrote r.var) (line_ack P w (of_var r.var)) i) ≡ true
                → w.bit r.var i one ≡ true
            by true up l = held_t (now_at (w.bit r.var) (w.rail (of_var r.var)) (w.wrote r.var) (line_ack P w (of_var r.var)) i) l r.done up
            by false up l = held_f (now_at (w.bit r.var) (w.rail (of_var r.var)) (w.wrote r.var) (line_ack P w (of_var r.var)) i) l r.done up

        lands : is_some (value_on (channel_width P.channels k) (w.rail (of_channel k))) ≡ true → (q : Process) (r : Receiver q)
            → Lands P (guarded_writing (line_ack P w) g) (guarded_writing (line_ack P acked) g) k r.var w
        lands some q r = record {
          within = meets.within;
          into = meets.into;
          widths = meets.widths;
          told = covered (channel_width P.channels k) (w.rail (of_channel k)) (w.bit r.var) (has q r) (λ i t f. one i t f) some;
          low = low;
          some = some;
          frees = r.frees;
        }
          where
            meets : PortMeets P k r.var
            meets = subst (λ (n : ℕ). PortMeets P n r.var) (same_channel r.channel k r.on) r.meets

            one : (i : ℕ) → w.bit r.var i true ≡ true → w.bit r.var i false ≡ true → ⊥
            one i t f = cc ((clean_of good).single r.var i, ap (λ b. not (b && w.bit r.var i false)) t, ap (λ b. not b) f)

        statement : (q : Process) (r : Receiver q) → q ≡ receiving k r.at r.var r.to
        statement q r = r.is ∙ ap (λ n. receiving n r.at r.var r.to) (same_channel r.channel k r.on)

        arrives : is_some (value_on (channel_width P.channels k) (w.rail (of_channel k))) ≡ true
            → One Receiver (root_left (line_ack P w) g) (root_left (line_ack P acked) g)
            → Arrives P (guarded_writing (line_ack P w) g) (guarded_writing (line_ack P acked) g) k w (root_left (line_ack P w) g)
            (root_left (line_ack P acked) g)
        arrives some r = record {
          at = r.is.at;
          var = r.is.var;
          to = r.is.to;
          act = subst (λ (q : Process). Act (root_left (line_ack P w) g) q finished (root_left (line_ack P acked) g)) (statement r.p r.is) r.act;
          lands = lands some r.p r.is;
        }

        exchanges : is_some (value_on (channel_width P.channels k) (w.rail (of_channel k))) ≡ true
            → Two Sender Receiver (root_left (line_ack P w) g) (root_left (line_ack P acked) g)
            → Exchanges P (guarded_writing (line_ack P w) g) (guarded_writing (line_ack P acked) g) k w (root_left (line_ack P w) g)
            (root_left (line_ack P acked) g)
        exchanges some r = record {
          from = r.is.span;
          expression = r.is.expression;
          at = r.other.at;
          var = r.other.var;
          to = r.other.to;
          act = subst (λ (q : Process). Exchange (root_left (line_ack P w) g) (sending k r.is.span r.is.expression) q (root_left (line_ack P acked) g))
              (statement r.q r.other)
              (subst (λ (p : Process). Exchange (root_left (line_ack P w) g) p r.q (root_left (line_ack P acked) g)) r.is.is r.act);
          read = r.is.read;
          lands = lands some r.q r.other;
        }

    in_next : heard_turns P w k ((guarded_shown g).take k) ≡ true → Next P script m g w hs (ack_node k)
    in_next e = here (w.ack k) ((guarded_shown g).take k) refl refl (snd_true (is_heard (kind_at P.channels k))
        (turns (w.ack k) ((guarded_shown g).take k) (not ((guarded_shown g).take k))) e)
      where
        here : (v o : Bool) → w.ack k ≡ v → (guarded_shown g).take k ≡ o → turns v o (not o) ≡ true → Next P script m g w hs (ack_node k)
        here true true hv ho z = absurd (cc z)
        here true false hv ho z = in_falls hv ho
        here false true hv ho z = in_rises hv ho
        here false false hv ho z = absurd (cc z)

  pub ack_next : Fitted P script → can P script g w hs (ack_node k) ≡ true → Next P script m g w hs (ack_node k)
  ack_next fitted e = either (heard_turns P w k ((guarded_shown g).take k)) (answers (channel_width P.channels k) w k (completed hs k) (offer_at script k)) e
      (λ z. in_next fitted (fst_true (is_heard (kind_at P.channels k)) (turns (w.ack k) ((guarded_shown g).take k) (not ((guarded_shown g).take k))) z) z)
      (λ z. out_next fitted z)
