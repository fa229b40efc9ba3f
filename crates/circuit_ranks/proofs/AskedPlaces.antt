-- What a place says of the requests of its assignments: one that is under way under a low acknowledge has
-- its request high, or holds no rail; and a rail of a variable that no assignment holds is held by a receive.
--
-- P: the program; env: what the statement sees; v: a variable; i, one: a rail; a, g, b, t: where a statement, a guarded member, branches and a
-- sequence are; f: what is asked of a site; e, z: what is known of the place.
use Rattle.std.proofs.Common.{◌≡◌, ℕ, ◌==◌, Bool, true, false, List, refl, ap, ◌∙◌, inl, inr}
use Rattle.std.specs.Prelude.{◌⊎◌, ◌&&◌, ◌||◌}
use Rattle.width_check.specs.Processes.{Process, Processes, and_member, Choices, choice_count, TypedProgram}
use Rattle.function_blocks.specs.Waves.{out_rail, full, empty}
use Rattle.circuit_places.specs.Lines.{of_var, same_line, Seen}
use Rattle.circuit_places.specs.Heads.{low_bits, hot}
use Rattle.circuit_places.specs.Circuit.{low, low_turn, low_choices}
use Rattle.circuit_places.proofs.RailLemmas.{fst_true, both_true, never_and, empty_low}
use Rattle.circuit_places.proofs.LineNames.{same_number}
use Rattle.circuit_places.proofs.Flow.{or_left, or_right, neither_left, neither_right, not_both}
use Rattle.circuit_places.proofs.Talks.{guarded_says_talks, branches_say_talk, either, beside}
use Rattle.circuit_places.proofs.Meets.{Meets, TurnMeets, EachMeets, ChoiceMeets}
use Rattle.circuit_places.proofs.Places.{Mode, idle, running, answered, returning, asks, acks, link_next, next_is, GuardedAt, g_rests, g_in, g_past, g_back, At, rests, at_skip, at_assign, at_send, at_receive, at_turn, at_side, at_body, at_choice, at_turning, at_closing, control_at, inside_at, ChosenAt, this_one, another, chosen_index, chosen_cells, BranchesAt, no_more, and_at, TurnAt, turn_rests, at_last, at_member, at_later, guarded_cells, cells, branch_cells, turn_cells, guarded_shown, shown, chosen_shown, branches_shown, turn_shown, wave_may, send_fits, GuardedFits, Fits, ChosenFits, BranchesFit, TurnFits}
use Rattle.circuit_ranks.proofs.Ranks.{Asked, assigns_to, is_asked, turn_asked, branch_asked, choice_asked}
use Rattle.circuit_ranks.proofs.SiteMoves.{got_rail, turn_got, branch_got, choice_got}

-- what stands behind a member has its next request
later_asked : (f : Asked) (ms : Processes) {p : Process} {m n : Mode} (g : GuardedAt p m) → acks m ≡ asks n → (t : TurnAt ms n)
    → turn_asked f ms (guarded_cells g).next (turn_cells t) ≡ turn_asked f ms (asks n) (turn_cells t)
later_asked f ms g e t = ap (λ b. turn_asked f ms b (turn_cells t)) (next_is g ∙ e)

module _ (v : ℕ) where
  -- ---- one that is under way under a low acknowledge has its request high, or holds no rail
  module _ (P : TypedProgram) (env : Seen) (low_ack : env.ack (of_var v) ≡ false) where
    -- a place at which it's so
    abbrev Sure : (asked : Bool) → (offer : ℕ → Bool → Bool) → Type 0
    Sure asked offer = (asked ≡ true) ⊎ ((i : ℕ) (one : Bool) → offer i one ≡ false)

    mutual
      pub guarded_sure : {p : Process} {m : Mode} → Meets P p → (g : GuardedAt p m) → GuardedFits g env → (guarded_shown g).says (of_var v) ≡ true
          → Sure (is_asked (assigns_to v) p (guarded_cells g).child (guarded_cells g).inner) ((guarded_shown g).offer (of_var v))
      guarded_sure meets g_rests f e = absurd (cc e)
      guarded_sure meets (g_in u a h) f e = sure meets a f e
      guarded_sure meets g_past f e = absurd (cc e)
      guarded_sure meets (g_back u) f e = absurd (cc e)

      sure : {p : Process} {m : Mode} → Meets P p → (a : At p m) → Fits a env → (shown a).says (of_var v) ≡ true
          → Sure (is_asked (assigns_to v) p (asks m) (cells a)) ((shown a).offer (of_var v))
      sure meets rests f e = absurd (cc e)
      sure meets (at_skip m h) f e = absurd (cc e)
      sure meets (at_assign {x = y} {e = d} m u h) f e = by m h.may f.0
        where
          idle_ack : env.ack (of_var y) ≡ false
          idle_ack = ap (λ (j : ℕ). env.ack (of_var j)) (same_number y v e) ∙ low_ack

          let_go : (n : Bool) → empty d u ≡ n → send_fits returning (full d u) n (env.ack (of_var y)) ≡ true
              → (i : ℕ) (one : Bool) → (same_line (of_var y) (of_var v) && out_rail d u i one) ≡ false
          let_go true n s i one = ap (λ b. same_line (of_var y) (of_var v) && b) (empty_low d h.known u n i one) ∙ never_and (same_line (of_var y) (of_var v))
          let_go false n s i one = absurd (not_both idle_ack s)

          by : (k : Mode) → wave_may k (full d u) ≡ true → send_fits k (full d u) (empty d u) (env.ack (of_var y)) ≡ true
              → Sure ((y == v) && asks k) (λ i one. same_line (of_var y) (of_var v) && out_rail d u i one)
          by idle w s = absurd (cc w)
          by running w s = inl (both_true (y == v) true e refl)
          by answered w s = absurd (not_both idle_ack s)
          by returning w s = inr (let_go (empty d u) refl s)
      sure meets (at_send m u h) f e = absurd (cc e)
      sure meets (at_receive m l q h) f e = absurd (cc e)
      sure meets (at_turn t) f e = turn_sure meets t f e
      sure meets (at_side m t b h) f e = branches_sure meets.2 b f e
      sure meets (at_body a) f e = sure meets a f e
      sure meets (at_choice (control_at c)) f e = absurd (cc e)
      sure meets (at_choice (inside_at a w)) f e = chosen_sure meets.2 a f e
      sure meets (at_turning (control_at c)) f e = absurd (cc e)
      sure meets (at_turning (inside_at a w)) f e = chosen_sure meets.2 a f e
      sure meets (at_closing c) f e = absurd (cc e)

      chosen_sure : {cs : Choices} {m : Mode} → ChoiceMeets P cs → (a : ChosenAt cs m) → ChosenFits a env → (chosen_shown a).says (of_var v) ≡ true
          → Sure (choice_asked (assigns_to v) cs (hot (chosen_index a) (asks m)) (chosen_cells a)) ((chosen_shown a).offer (of_var v))
      chosen_sure meets (this_one {p = p} {more = more} {k = k} a) f e = by (sure meets.0 a f e)
        where
          by : Sure (is_asked (assigns_to v) p (asks k) (cells a)) ((shown a).offer (of_var v))
              → Sure (is_asked (assigns_to v) p (asks k) (cells a) || choice_asked (assigns_to v) more (low_bits (choice_count more)) (low_choices more))
              ((shown a).offer (of_var v))
          by (inl z) = inl (or_left (is_asked (assigns_to v) p (asks k) (cells a))
              (choice_asked (assigns_to v) more (low_bits (choice_count more)) (low_choices more)) z)
          by (inr none) = inr none
      chosen_sure meets (another {p = p} {more = more} {k = k} a) f e = by (chosen_sure meets.1 a f e)
        where
          by : Sure (choice_asked (assigns_to v) more (hot (chosen_index a) (asks k)) (chosen_cells a)) ((chosen_shown a).offer (of_var v))
              → Sure (is_asked (assigns_to v) p false (low p) || choice_asked (assigns_to v) more (hot (chosen_index a) (asks k)) (chosen_cells a))
              ((chosen_shown a).offer (of_var v))
          by (inl z) = inl (or_right (is_asked (assigns_to v) p false (low p))
              (choice_asked (assigns_to v) more (hot (chosen_index a) (asks k)) (chosen_cells a)) z)
          by (inr none) = inr none

      branches_sure : {ms : Processes} {ks : List Mode} → EachMeets P ms → (b : BranchesAt ms ks) → BranchesFit b env
          → (branches_shown b).says (of_var v) ≡ true
          → Sure (branch_asked (assigns_to v) ms (branch_cells b)) ((branches_shown b).offer (of_var v))
      branches_sure meets no_more f e = absurd (cc e)
      branches_sure meets (and_at {p = p} {more = more} g b) f e =
          either ((guarded_shown g).says (of_var v)) ((branches_shown b).says (of_var v)) e
          (λ z. mine z (guarded_sure meets.0 g f.0 z)) (λ z. theirs z (branches_sure meets.2 b f.1 z))
        where
          mine : (guarded_shown g).says (of_var v) ≡ true
              → Sure (is_asked (assigns_to v) p (guarded_cells g).child (guarded_cells g).inner) ((guarded_shown g).offer (of_var v))
              → Sure (is_asked (assigns_to v) p (guarded_cells g).child (guarded_cells g).inner || branch_asked (assigns_to v) more (branch_cells b))
              (λ i one. (guarded_shown g).offer (of_var v) i one || (branches_shown b).offer (of_var v) i one)
          mine z (inl y) = inl (or_left (is_asked (assigns_to v) p (guarded_cells g).child (guarded_cells g).inner)
              (branch_asked (assigns_to v) more (branch_cells b)) y)
          mine z (inr none) =
              let s = beside meets.1 g b in
              let h = s.mine (of_var v) (guarded_says_talks g (of_var v) z) in
              inr (λ i one. ap (λ y. y || (branches_shown b).offer (of_var v) i one) (none i one) ∙ s.none_theirs (of_var v) i one h)

          theirs : (branches_shown b).says (of_var v) ≡ true
              → Sure (branch_asked (assigns_to v) more (branch_cells b)) ((branches_shown b).offer (of_var v))
              → Sure (is_asked (assigns_to v) p (guarded_cells g).child (guarded_cells g).inner || branch_asked (assigns_to v) more (branch_cells b))
              (λ i one. (guarded_shown g).offer (of_var v) i one || (branches_shown b).offer (of_var v) i one)
          theirs z (inl y) = inl (or_right (is_asked (assigns_to v) p (guarded_cells g).child (guarded_cells g).inner)
              (branch_asked (assigns_to v) more (branch_cells b)) y)
          theirs z (inr none) =
              let s = beside meets.1 g b in
              let h = s.theirs (of_var v) (branches_say_talk b (of_var v) z) in
              inr (λ i one. ap (λ y. y || (branches_shown b).offer (of_var v) i one) (s.none_mine (of_var v) i one h) ∙ none i one)

      turn_sure : {ms : Processes} {m : Mode} → TurnMeets P ms → (t : TurnAt ms m) → TurnFits t env → (turn_shown t).says (of_var v) ≡ true
          → Sure (turn_asked (assigns_to v) ms (asks m) (turn_cells t)) ((turn_shown t).offer (of_var v))
      turn_sure meets turn_rests f e = absurd (cc e)
      turn_sure meets (at_last a) f e = sure meets a f e
      turn_sure meets (at_member {p = p} {q = q} {more = more} g) f e = by (guarded_sure meets.0 g f e)
        where
          by : Sure (is_asked (assigns_to v) p (guarded_cells g).child (guarded_cells g).inner) ((guarded_shown g).offer (of_var v))
              → Sure (is_asked (assigns_to v) p (guarded_cells g).child (guarded_cells g).inner
              || turn_asked (assigns_to v) (and_member q more) (guarded_cells g).next (low_turn (and_member q more))) ((guarded_shown g).offer (of_var v))
          by (inl z) = inl (or_left (is_asked (assigns_to v) p (guarded_cells g).child (guarded_cells g).inner)
              (turn_asked (assigns_to v) (and_member q more) (guarded_cells g).next (low_turn (and_member q more))) z)
          by (inr none) = inr none
      turn_sure meets (at_later {p = p} {q = q} {more = more} {k = k} {n = n} {m = m} g t h) f e = by (turn_sure meets.1 t f e)
        where
          by : Sure (turn_asked (assigns_to v) (and_member q more) (asks n) (turn_cells t)) ((turn_shown t).offer (of_var v))
              → Sure (is_asked (assigns_to v) p (guarded_cells g).child (guarded_cells g).inner
              || turn_asked (assigns_to v) (and_member q more) (guarded_cells g).next (turn_cells t)) ((turn_shown t).offer (of_var v))
          by (inl z) = inl (or_right (is_asked (assigns_to v) p (guarded_cells g).child (guarded_cells g).inner)
              (turn_asked (assigns_to v) (and_member q more) (guarded_cells g).next (turn_cells t))
              (later_asked (assigns_to v) (and_member q more) g (link_next m k n h) t ∙ z))
          by (inr none) = inr none

  -- ---- a rail that no assignment holds is held by a receive
  module _ (i : ℕ) (one : Bool) where
    mutual
      pub guarded_got : {p : Process} {m : Mode} (g : GuardedAt p m) → (guarded_shown g).says (of_var v) ≡ false
          → (guarded_shown g).offer (of_var v) i one ≡ true → got_rail p (guarded_cells g).inner v i one ≡ true
      guarded_got g_rests n e = absurd (cc e)
      guarded_got (g_in u a h) n e = got a n e
      guarded_got g_past n e = absurd (cc e)
      guarded_got (g_back u) n e = absurd (cc e)

      got : {p : Process} {m : Mode} (a : At p m) → (shown a).says (of_var v) ≡ false → (shown a).offer (of_var v) i one ≡ true
          → got_rail p (cells a) v i one ≡ true
      got rests n e = absurd (cc e)
      got (at_skip m h) n e = absurd (cc e)
      got (at_assign {x = y} {e = d} m u h) n e = absurd (not_both n (fst_true (same_line (of_var y) (of_var v)) (out_rail d u i one) e))
      got (at_send m u h) n e = absurd (cc e)
      got (at_receive m l q h) n e = e
      got (at_turn t) n e = got_turn t n e
      got (at_side m t b h) n e = branches_got b n e
      got (at_body a) n e = got a n e
      got (at_choice (control_at c)) n e = absurd (cc e)
      got (at_choice (inside_at a w)) n e = chosen_got a n e
      got (at_turning (control_at c)) n e = absurd (cc e)
      got (at_turning (inside_at a w)) n e = chosen_got a n e
      got (at_closing c) n e = absurd (cc e)

      chosen_got : {cs : Choices} {m : Mode} (a : ChosenAt cs m) → (chosen_shown a).says (of_var v) ≡ false
          → (chosen_shown a).offer (of_var v) i one ≡ true → choice_got cs (chosen_cells a) v i one ≡ true
      chosen_got (this_one {p = p} {more = more} a) n e = or_left (got_rail p (cells a) v i one) (choice_got more (low_choices more) v i one) (got a n e)
      chosen_got (another {p = p} {more = more} a) n e = or_right (got_rail p (low p) v i one) (choice_got more (chosen_cells a) v i one) (chosen_got a n e)

      branches_got : {ms : Processes} {ks : List Mode} (b : BranchesAt ms ks) → (branches_shown b).says (of_var v) ≡ false
          → (branches_shown b).offer (of_var v) i one ≡ true → branch_got ms (branch_cells b) v i one ≡ true
      branches_got no_more n e = absurd (cc e)
      branches_got (and_at {p = p} {more = more} g b) n e =
          either ((guarded_shown g).offer (of_var v) i one) ((branches_shown b).offer (of_var v) i one) e
          (λ z. or_left (got_rail p (guarded_cells g).inner v i one) (branch_got more (branch_cells b) v i one)
          (guarded_got g (neither_left ((guarded_shown g).says (of_var v)) ((branches_shown b).says (of_var v)) n) z))
          (λ z. or_right (got_rail p (guarded_cells g).inner v i one) (branch_got more (branch_cells b) v i one)
          (branches_got b (neither_right ((guarded_shown g).says (of_var v)) ((branches_shown b).says (of_var v)) n) z))

      got_turn : {ms : Processes} {m : Mode} (t : TurnAt ms m) → (turn_shown t).says (of_var v) ≡ false → (turn_shown t).offer (of_var v) i one ≡ true
          → turn_got ms (turn_cells t) v i one ≡ true
      got_turn turn_rests n e = absurd (cc e)
      got_turn (at_last a) n e = got a n e
      got_turn (at_member {p = p} {q = q} {more = more} g) n e =
          or_left (got_rail p (guarded_cells g).inner v i one) (turn_got (and_member q more) (low_turn (and_member q more)) v i one) (guarded_got g n e)
      got_turn (at_later {p = p} {q = q} {more = more} g t h) n e =
          or_right (got_rail p (guarded_cells g).inner v i one) (turn_got (and_member q more) (turn_cells t) v i one) (got_turn t n e)
