-- The own moves of skip, and of the sites of a line.
use Rattle.std.proofs.Common.{◌≡◌, ◌≢◌, ℕ, ◌==◌, Bool, true, false, refl, sym, ap, ◌∙◌, inl}
use Rattle.std.specs.Prelude.{◌&&◌}
use Rattle.chp_base.specs.declared.span.Span.{Span}
use Rattle.width_check.specs.Processes.{Formula, skipping, assigning, sending, TypedProgram}
use Rattle.chp_meaning.specs.Terms.{Term, finished}
use Rattle.function_blocks.specs.Rails.{Pairs, turned_pairs}
use Rattle.function_blocks.specs.Waves.{good, out_rail, full, empty, Waves}
use Rattle.circuit_places.specs.Lines.{Line, of_channel, of_var, same_line, Seen}
use Rattle.circuit_places.specs.Circuit.{gate_count, gate_rule, one_rule_fires, SiteSpot, low_site, turned_site, Spot, of_skip, done, gate, of_assign, of_send}
use Rattle.circuit_places.proofs.RailLemmas.{fst_true, snd_true, not_true, never_and, empty_low}
use Rattle.circuit_places.proofs.Places.{Mode, idle, running, answered, returning, acks, is_idle, wave_may, SiteMay, site_of, site_shown, site_moves, under_way, rests, at_skip, at_assign, at_send, none_shown, send_fits, SiteFits, moves}
use Rattle.circuit_places.proofs.Left.{waits, skip_follows}
use Rattle.circuit_places.proofs.Flow.{goes, Flow, flow_same, flow_sends, Clean, After, cases}
use Rattle.circuit_places.proofs.LineNames.{same_line_is}
use Rattle.circuit_places.proofs.Begin.{site_answered_moves, fits_low, fits_high}

pub skip_after : (env : Seen) (m : Mode) (h : is_idle m ≡ false) (s : Spot skipping) → moves env (at_skip m h) s ≡ true → After skipping m env (at_skip m h) s
skip_after env running h of_skip e = record {
  mode = answered;
  to = at_skip answered refl;
  same = refl;
  way = refl;
  fits = tt;
  flow = flow_same env none_shown;
  frees = λ x i. refl;
  term = skip_follows _;
  keeps = λ q ne z. absurd (ne (only q));
}
  where
    only : (q : Spot skipping) → q ≡ of_skip
    only of_skip = refl
skip_after env returning h of_skip e = record {
  mode = idle;
  to = rests;
  same = refl;
  way = refl;
  fits = tt;
  flow = flow_same env none_shown;
  frees = λ x i. refl;
  term = inl (refl, refl);
  keeps = λ q ne z. absurd (ne (only q));
}
  where
    only : (q : Spot skipping) → q ≡ of_skip
    only of_skip = refl
skip_after env idle h s e = absurd (cc h)
skip_after env answered h of_skip e = absurd (cc e)

-- a site that runs answers only where its rails are all up, and one that returns leaves only where they are all low
answer_full : (f n a : Bool) → send_fits running f n a ≡ true → a ≡ true → f ≡ true
answer_full true n a h e = refl
answer_full false n true h e = absurd (cc h)
answer_full false n false h e = absurd (cc e)

leave_none : (f n a : Bool) → send_fits returning f n a ≡ true → a ≡ false → n ≡ true
leave_none f true a h e = refl
leave_none f false a h e = absurd (cc (h, e))

run_low : (f n a : Bool) → send_fits running f n a ≡ true → f ≡ false → a ≡ false
run_low true n a h e = absurd (cc e)
run_low false n a h e = not_true a h

back_high : (f n a : Bool) → send_fits returning f n a ≡ true → n ≡ false → a ≡ true
back_high f true a h e = absurd (cc e)
back_high f false a h e = h

-- what a move of a site comes to: it is a site still, or it rests
pub data SiteAfter (k : Line) (e : Formula) (env : Seen) (m : Mode) (u : Pairs (gate_count e)) (s : SiteSpot e) : Type 0 where
  site_goes : (n : Mode) (x : Pairs (gate_count e)) → SiteMay e n x → site_of e (acks n) x ≡ turned_site e (site_of e (acks m) u) s → goes m n ≡ true
      → SiteFits k e n x env → Flow env (site_shown k e u) (site_shown k e x)
      → ((t : Term) → waits n (env.ack k) t ≡ waits m (env.ack k) t) → under_way m (env.ack k) ≡ under_way n (env.ack k)
      → ((q : SiteSpot e) → q ≢ s → site_moves env k e m u q ≡ true → site_moves env k e n x q ≡ true) → SiteAfter k e env m u s
  site_rests : low_site e ≡ turned_site e (site_of e (acks m) u) s → goes m idle ≡ true → Flow env (site_shown k e u) none_shown
      → ((t : Term) → finished ≡ waits m (env.ack k) t) → under_way m (env.ack k) ≡ false
      → ((q : SiteSpot e) → q ≢ s → site_moves env k e m u q ≡ false) → SiteAfter k e env m u s

module _ (P : TypedProgram) (k : Line) (e : Formula) (env : Seen) (clean : Clean P env) (known : Waves e) where
  at_line : (j : Line) (x b : Bool) → env.ack k ≡ b → (same_line k j && x) ≡ true → env.ack j ≡ b
  at_line j x b l o = ap env.ack (sym (same_line_is k j (fst_true (same_line k j) x o))) ∙ l

  kept_held : (j : Line) (x y : Bool) → (x ≡ true → y ≡ true) → (same_line k j && x) ≡ true → (same_line k j && y) ≡ true
  kept_held j x y f h = here (same_line k j) h
    where
      here : (b : Bool) → (b && x) ≡ true → (b && y) ≡ true
      here true h = f h
      here false h = absurd (cc h)

  -- the rails of its value rise under a low acknowledge, and fall under a high one
  rail_up : (u x : Pairs (gate_count e)) → ((b : ℕ) (side : Bool) → out_rail e u b side ≡ true → out_rail e x b side ≡ true) → env.ack k ≡ false
      → Flow env (site_shown k e u) (site_shown k e x)
  rail_up u x up low = flow_sends env (site_shown k e u) (site_shown k e x) record {
    talk = λ j g h. h;
    rises = λ j b side g h. kept_held j (out_rail e u b side) (out_rail e x b side) (up b side) h;
    falls = λ j b side g h. absurd (cc (at_line j (out_rail e x b side) false low h, g));
    listen = refl;
    take = refl;
  }

  rail_down : (u x : Pairs (gate_count e)) → ((b : ℕ) (side : Bool) → out_rail e x b side ≡ true → out_rail e u b side ≡ true) → env.ack k ≡ true
      → Flow env (site_shown k e u) (site_shown k e x)
  rail_down u x down high = flow_sends env (site_shown k e u) (site_shown k e x) record {
    talk = λ j g h. h;
    rises = λ j b side g h. absurd (cc (at_line j (out_rail e u b side) true high h, g));
    falls = λ j b side g h. kept_held j (out_rail e x b side) (out_rail e u b side) (down b side) h;
    listen = refl;
    take = refl;
  }

  goes_quiet : (u : Pairs (gate_count e)) → empty e u ≡ true → env.ack k ≡ false → Flow env (site_shown k e u) none_shown
  goes_quiet u none low = flow_sends env (site_shown k e u) none_shown record {
    talk = λ j g h. absurd (cc (ap env.ack (same_line_is k j h), low, g));
    rises = λ j b side g h. absurd (cc (empty_low e known u none b side, snd_true (same_line k j) (out_rail e u b side) h));
    falls = λ j b side g h. absurd (cc h);
    listen = refl;
    take = refl;
  }

  -- a gate that rises has a value that isn't whole, and one that falls has one that isn't gone
  not_full : (u : Pairs (gate_count e)) (i : ℕ) (one : Bool) → good true env.bit e u ≡ true → one_rule_fires (gate_rule e env.bit true u i one) ≡ true →
      full e u ≡ false
  not_full u i one g f = cases (full e u) (λ (z : full e u ≡ true). absurd (cc (known.quiet_full env.bit u clean.single g z i one, f)))
      (λ (z : full e u ≡ false). z)

  gone_quiet : (u : Pairs (gate_count e)) → good false env.bit e u ≡ true → empty e u ≡ true → (i : ℕ) (one : Bool)
      → one_rule_fires (gate_rule e env.bit false u i one) ≡ false
  gone_quiet u g z i one = ap (λ (x : Pairs (gate_count e)). one_rule_fires (gate_rule e env.bit false x i one)) (known.inner_empty env.bit u g z)
      ∙ known.quiet_low env.bit i one

  not_gone : (u : Pairs (gate_count e)) (i : ℕ) (one : Bool) → good false env.bit e u ≡ true → one_rule_fires (gate_rule e env.bit false u i one) ≡ true
      → empty e u ≡ false
  not_gone u i one g f = cases (empty e u) (λ (z : empty e u ≡ true). absurd (cc (gone_quiet u g z i one, f))) (λ (z : empty e u ≡ false). z)

  -- which node isn't the gate that moved
  abbrev at_gate : ℕ → Bool → SiteSpot e
  at_gate i one = gate i one

  other_gate : (i : ℕ) (one : Bool) (j : ℕ) (side : Bool) → at_gate j side ≢ at_gate i one → j ≡ i → side ≡ one → ⊥
  other_gate i one j side ne p q = ne (ap (λ x. gate x side) p ∙ ap (λ x. gate i x) q)

  answers : (u : Pairs (gate_count e)) → SiteFits k e running u env → env.ack k ≡ true → SiteAfter k e env running u done
  answers u f h = site_goes answered u (record { known = known; may = ap (wave_may answered) (answer_full (full e u) (empty e u) (env.ack k) f.0 h) }) refl refl
      (h, f.1) (flow_same env (site_shown k e u))
      (λ t. sym (ap (λ x. waits running x t) h)) (ap (under_way running) h) keeps
    where
      keeps : (q : SiteSpot e) → q ≢ done → site_moves env k e running u q ≡ true → site_moves env k e answered u q ≡ true
      keeps done ne z = absurd (ne refl)
      keeps (gate j side) ne z = z

  leaves : (u : Pairs (gate_count e)) → SiteFits k e returning u env → env.ack k ≡ false → SiteAfter k e env returning u done
  leaves u f h =
      let none = leave_none (full e u) (empty e u) (env.ack k) f.0 h in
      site_rests (ap (λ (x : Pairs (gate_count e)). site_of e false x) (sym (known.inner_empty env.bit u f.1 none))) refl (goes_quiet u none h) (λ t. refl) refl
      (keeps none)
    where
      keeps : empty e u ≡ true → (q : SiteSpot e) → q ≢ done → site_moves env k e returning u q ≡ false
      keeps none done ne = absurd (ne refl)
      keeps none (gate j side) ne = gone_quiet u f.1 none j side

  rises : (u : Pairs (gate_count e)) (i : ℕ) (one : Bool) → SiteFits k e running u env → one_rule_fires (gate_rule e env.bit true u i one) ≡ true
      → SiteAfter k e env running u (gate i one)
  rises u i one f h =
      let low = run_low (full e u) (empty e u) (env.ack k) f.0 (not_full u i one f.1 h) in
      let to = turned_pairs (gate_count e) u i one in
      site_goes running to (record { known = known; may = refl }) refl refl
      (ap (send_fits running (full e to) (empty e to)) low ∙ fits_low (full e to) (empty e to), known.own true env.bit u i one clean.single f.1 h)
      (rail_up u to (λ b side z. known.rises env.bit u i one clean.single f.1 h b side z) low) (λ t. refl) refl keeps
    where
      keeps : (q : SiteSpot e) → q ≢ gate i one → site_moves env k e running u q ≡ true
          → site_moves env k e running (turned_pairs (gate_count e) u i one) q ≡ true
      keeps done ne z = z
      keeps (gate j side) ne z = known.firm true env.bit u i one j side clean.single (other_gate i one j side ne) f.1 h z

  falls : (u : Pairs (gate_count e)) (i : ℕ) (one : Bool) → SiteFits k e returning u env → one_rule_fires (gate_rule e env.bit false u i one) ≡ true
      → SiteAfter k e env returning u (gate i one)
  falls u i one f h =
      let high = back_high (full e u) (empty e u) (env.ack k) f.0 (not_gone u i one f.1 h) in
      let to = turned_pairs (gate_count e) u i one in
      site_goes returning to (record { known = known; may = refl }) refl refl
      (ap (send_fits returning (full e to) (empty e to)) high ∙ fits_high (full e to) (empty e to), known.own false env.bit u i one clean.single f.1 h)
      (rail_down u to (λ b side z. known.falls env.bit u i one clean.single f.1 h b side z) high) (λ t. refl) refl keeps
    where
      keeps : (q : SiteSpot e) → q ≢ gate i one → site_moves env k e returning u q ≡ true
          → site_moves env k e returning (turned_pairs (gate_count e) u i one) q ≡ true
      keeps done ne z = z
      keeps (gate j side) ne z = known.firm false env.bit u i one j side clean.single (other_gate i one j side ne) f.1 h z

  site_after : (m : Mode) (u : Pairs (gate_count e)) → SiteMay e m u → (s : SiteSpot e) → SiteFits k e m u env → site_moves env k e m u s ≡ true
      → SiteAfter k e env m u s
  site_after running u h done f z = answers u f z
  site_after running u h (gate i one) f z = rises u i one f z
  site_after returning u h done f z = leaves u f (not_true (env.ack k) z)
  site_after returning u h (gate i one) f z = falls u i one f z
  site_after answered u h s f z = absurd (cc (site_answered_moves P env clean k e u h f s, z))
  site_after idle u h s f z = absurd (cc h.may)

-- so of a send, and of an assignment
pub send_after : (P : TypedProgram) (c : ℕ) (at : Span) (e : Formula) (env : Seen) → Clean P env
    → (m : Mode) (u : Pairs (gate_count e)) (h : SiteMay e m u) (s : SiteSpot e) → SiteFits (of_channel c) e m u env
    → site_moves env (of_channel c) e m u s ≡ true
    → After (sending c at e) m env (at_send m u h) (of_send s)
send_after P c at e env clean m u h s f z = by (site_after P (of_channel c) e env clean h.known m u h s f z)
  where
    by : SiteAfter (of_channel c) e env m u s → After (sending c at e) m env (at_send m u h) (of_send s)
    by (site_goes n x may same way fits flow left writes keeps) =
        record {
          mode = n;
          to = at_send n x may;
          same = same;
          way = way;
          fits = fits;
          flow = flow;
          term = inl (refl, left _);
          frees = λ y i. refl;
          keeps =
              kept;
        }
      where
        kept : (q : Spot (sending c at e)) → q ≢ of_send s → moves env (at_send {c = c} {at = at} {e = e} m u h) q ≡ true
            → moves env (at_send {c = c} {at = at} {e = e} n x may) q ≡ true
        kept (of_send q) ne z = keeps q (λ (i : q ≡ s). ne (ap (λ y. of_send y) i)) z
    by (site_rests same way flow left writes keeps) = record {
      mode = idle;
      to = rests;
      same = same;
      way = way;
      fits = tt;
      flow = flow;
      term = inl
          (refl, left _);
      frees = λ y i. refl;
      keeps = kept;
    }
      where
        kept : (q : Spot (sending c at e)) → q ≢ of_send s → moves env (at_send {c = c} {at = at} {e = e} m u h) q ≡ true
            → moves env (rests {p = sending c at e}) q ≡ true
        kept (of_send q) ne z = absurd (cc (keeps q (λ (i : q ≡ s). ne (ap (λ y. of_send y) i)), z))

pub assign_after : (P : TypedProgram) (x : ℕ) (at : Span) (e : Formula) (env : Seen) → Clean P env
    → (m : Mode) (u : Pairs (gate_count e)) (h : SiteMay e m u) (s : SiteSpot e) → SiteFits (of_var x) e m u env → site_moves env (of_var x) e m u s ≡ true
    → After (assigning x at e) m env (at_assign m u h) (of_assign s)
assign_after P x at e env clean m u h s f z = by (site_after P (of_var x) e env clean h.known m u h s f z)
  where
    by : SiteAfter (of_var x) e env m u s → After (assigning x at e) m env (at_assign m u h) (of_assign s)
    by (site_goes n a may same way fits flow left writes keeps) =
        record {
          mode = n;
          to = at_assign n a may;
          same = same;
          way = way;
          fits = fits;
          flow = flow;
          term = inl (refl, left _);
          frees = λ y i. ap
              (λ b. (x == y) && b) writes ∙ i;
          keeps = kept;
        }
      where
        kept : (q : Spot (assigning x at e)) → q ≢ of_assign s → moves env (at_assign {x = x} {at = at} {e = e} m u h) q ≡ true
            → moves env (at_assign {x = x} {at = at} {e = e} n a may) q ≡ true
        kept (of_assign q) ne z = keeps q (λ (i : q ≡ s). ne (ap (λ y. of_assign y) i)) z
    by (site_rests same way flow left writes keeps) = record {
      mode = idle;
      to = rests;
      same = same;
      way = way;
      fits = tt;
      flow = flow;
      term = inl
          (refl, left _);
      frees = λ y i. ap (λ b. (x == y) && b) writes ∙ never_and (x == y);
      keeps = kept;
    }
      where
        kept : (q : Spot (assigning x at e)) → q ≢ of_assign s → moves env (at_assign {x = x} {at = at} {e = e} m u h) q ≡ true
            → moves env (rests {p = assigning x at e}) q ≡ true
        kept (of_assign q) ne z = absurd (cc (keeps q (λ (i : q ≡ s). ne (ap (λ y. of_assign y) i)), z))
