-- Where each own node that may move makes a step, what a statement holds of a channel whose acknowledge is high is as it is
-- at rest: no rail, and if it receives on the channel, what the receive is to let go.
use Rattle.std.proofs.Common.{◌≡◌, ℕ, ◌==◌, Bool, true, false, List, refl, sym, ap, ◌∙◌, subst}
use Rattle.std.specs.Prelude.{◌&&◌}
use Rattle.width_check.specs.Processes.{Formula, Process, Processes, TypedProgram, Choices}
use Rattle.circuit_places.specs.Lines.{of_channel, same_line, Rails, Seen}
use Rattle.circuit_places.specs.Circuit.{Pairs, gate_count, SiteSpot, PortSpot, heard, GuardedSpot, Spot, TurnSpot, BranchSpot, child, latch, next, inner, done, gate, of_send, of_receive, in_members, of_branch, in_this, in_others, ask, in_body, in_last, in_member, in_later, ChoiceSpot, this_choice, other_choice, of_core, of_choice, of_round}
use Rattle.function_blocks.specs.Waves.{out_rail}
use Rattle.circuit_places.proofs.RailLemmas.{never_and, empty_low}
use Rattle.circuit_places.proofs.Places.{Mode, idle, running, answered, returning, SiteMay, GuardedAt, At, TurnAt, BranchesAt, g_rests, g_in, g_past, g_back, rests, at_skip, at_assign, at_send, at_receive, at_turn, at_side, at_body, no_more, and_at, turn_rests, at_last, at_member, at_later, Shown, none_shown, both_shown, guarded_shown, shown, turn_shown, branches_shown, site_moves, SiteFits, port_may, port_shown, port_moves, GuardedFits, Fits, TurnFits, BranchesFit, guarded_moves, moves, turn_moves, branch_moves, at_choice, at_turning, at_closing, control_at, inside_at, ChosenAt, this_one, another, chosen_shown, ChosenFits, chosen_moves, chosen_index}
use Rattle.circuit_places.proofs.Links.{link_way, later_by, never_true}
use Rattle.circuit_places.proofs.Meets.{PortMeets, Meets, TurnMeets, EachMeets, ChoiceMeets}
use Rattle.circuit_places.proofs.Flow.{cases}
use Rattle.circuit_places.proofs.LineNames.{same_number}
use Rattle.circuit_places.proofs.Talks.{either, Beside, beside, or_false_left}
use Rattle.circuit_places.proofs.Begin.{idle_is}
use Rattle.circuit_places.proofs.Poised.{off}
use Rattle.circuit_places.proofs.Stepping.{steps, guarded_steps, chosen_steps, branch_steps, turn_steps}
use Rattle.circuit_places.proofs.Rest.{Releasing, port_holds, this_releasing, others_releasing}
use Rattle.circuit_places.specs.Cores.{OwnSpot, RoundSpot, of_joined, of_latch, of_turn, of_start}
use Rattle.circuit_places.specs.Heads.{Index}
use Rattle.circuit_places.proofs.HeadFacts.{bit_hot}
use Rattle.circuit_places.proofs.CoreControl.{Way, works, worked, reported, letting, backs, way_moves, way_turning}

pub record Held (P : TypedProgram) (c : ℕ) (env : Seen) (x : Shown) : Type 0 where
  pub gone : (i : ℕ) (one : Bool) → x.offer (of_channel c) i one ≡ false
  pub lets_go : x.listen c ≡ true → (v : ℕ) × Releasing P c v env x

module _ (P : TypedProgram) (env : Seen) (c : ℕ) (high : env.ack (of_channel c) ≡ true) where
  none_held : Held P c env none_shown
  none_held = record { gone = λ i one. refl; lets_go = λ h. absurd (cc h) }

  both_held : {p : Process} {more : Processes} (x y : Shown) → Beside p more x y → Held P c env x → Held P c env y → Held P c env (both_shown x y)
  both_held x y s f g = record {
    gone = λ i one. or_false_left (x.offer (of_channel c) i one) (y.offer (of_channel c) i one) (f.gone i one) ∙ g.gone i one;
    lets_go = λ h. either (x.listen c) (y.listen c) h
        (λ z. let r = f.lets_go z in (r.0, this_releasing P env x y s c r.0 r.1))
        (λ z. let r = g.lets_go z in (r.0, others_releasing P env x y s c r.0 r.1));
  }

  send_gone : (d : ℕ) (e : Formula) (m : Mode) (u : Pairs (gate_count e)) → SiteMay e m u → SiteFits (of_channel d) e m u env
      → ((s : SiteSpot e) → site_moves env (of_channel d) e m u s ≡ false) → (m ≡ answered → ⊥) → (i : ℕ) (one : Bool)
      → (same_line (of_channel d) (of_channel c) && out_rail e u i one) ≡ false
  send_gone d e m u h f n ne i one = cases (d == c)
      (λ (z : (d == c) ≡ true). by m h f n ne (ap (λ k. env.ack (of_channel k)) (same_number d c z) ∙ high))
      (λ (z : (d == c) ≡ false). ap (λ b. b && out_rail e u i one) z)
    where
      by : (m : Mode) → SiteMay e m u → SiteFits (of_channel d) e m u env → ((s : SiteSpot e) → site_moves env (of_channel d) e m u s ≡ false)
          → (m ≡ answered → ⊥) → env.ack (of_channel d) ≡ true → ((d == c) && out_rail e u i one) ≡ false
      by idle h f n ne a = absurd (cc h.may)
      by running h f n ne a = absurd (cc (n done, a))
      by answered h f n ne a = absurd (ne refl)
      by returning h f n ne a =
          let gone = h.known.rest_down env.bit u f.1 (λ j b. n (gate j b)) in
          ap (λ b. (d == c) && b) (empty_low e h.known u gone i one) ∙ never_and (d == c)

  port_lets_go : (d x : ℕ) (m : Mode) (l : Bool) (q : Rails) → port_may m l ≡ true → PortMeets P d x
      → ((s : PortSpot) → port_moves env d x m l q s ≡ false) → (m ≡ answered → ⊥) → (d == c) ≡ true
      → (v : ℕ) × Releasing P c v env (port_shown d x l q)
  port_lets_go d x m l q h meets n ne z =
      let same = same_number d c z in
      subst (λ (k : ℕ). (v : ℕ) × Releasing P k v env (port_shown d x l q)) same
      (by m h n ne (ap (λ k. env.ack (of_channel k)) same ∙ high))
    where
      by : (m : Mode) → port_may m l ≡ true → ((s : PortSpot) → port_moves env d x m l q s ≡ false) → (m ≡ answered → ⊥) → env.ack (of_channel d) ≡ true
          → (v : ℕ) × Releasing P d v env (port_shown d x l q)
      by idle h n ne a = absurd (cc h)
      by running h n ne a = absurd (cc (n heard, a))
      by answered h n ne a = absurd (ne refl)
      by returning h n ne a = (x, port_holds P env d x l q meets n)

  -- a branch that has answered goes on
  over : {m k : Mode} {n : ℕ} (w : Way m k) (i : Index n) → ((s : OwnSpot n) → way_moves w i s ≡ false) → (m ≡ answered → k ≡ answered → ⊥) → k ≡ answered
      → ⊥
  over works i n ne e = cc e
  over worked i n ne e = cc (n of_joined)
  over reported i n ne e = ne refl refl
  over letting i n ne e = cc (bit_hot i true, n (of_latch i))
  over {k = answered} (backs any h) i n ne e = cc (bit_hot i true, n (of_start i))
  over {k = idle} (backs any h) i n ne e = cc e
  over {k = running} (backs any h) i n ne e = cc e
  over {k = returning} (backs any h) i n ne e = cc e

  turns_on : {m k : Mode} (w : Way m k) → m ≡ answered → k ≡ answered → ((t : RoundSpot) → way_turning w t ≡ false) → ⊥
  turns_on reported e z n = cc (n of_turn)
  turns_on works e z n = cc e
  turns_on worked e z n = cc e
  turns_on letting e z n = cc e
  turns_on (backs any h) e z n = cc e

  mutual
    pub guarded_held : {p : Process} {m : Mode} (g : GuardedAt p m) → Meets P p → GuardedFits g env
        → ((s : GuardedSpot p) → guarded_moves env g s ≡ true → guarded_steps g s ≡ true) → Held P c env (guarded_shown g)
    guarded_held g_rests meets f n = none_held
    guarded_held g_past meets f n = none_held
    guarded_held (g_back u) meets f n = none_held
    guarded_held (g_in {m = idle} false a h) meets f n = absurd (never_true (n child refl))
    guarded_held (g_in {m = running} false a h) meets f n = held a (λ e. cc e) meets f (λ s. n (inner s))
    guarded_held (g_in {m = answered} false a h) meets f n = absurd (never_true (n latch refl))
    guarded_held (g_in {m = returning} false a h) meets f n = absurd (never_true h)
    guarded_held (g_in {m = idle} true a h) meets f n = absurd (never_true (n next refl))
    guarded_held (g_in {m = running} true a h) meets f n = absurd (never_true h)
    guarded_held (g_in {m = answered} true a h) meets f n = absurd (never_true (n child refl))
    guarded_held (g_in {m = returning} true a h) meets f n = held a (λ e. cc e) meets f (λ s. n (inner s))

    held : {p : Process} {m : Mode} (a : At p m) → (m ≡ answered → ⊥) → Meets P p → Fits a env → ((s : Spot p) → moves env a s ≡ true → steps a s ≡ true)
        → Held P c env (shown a)
    held rests ne meets f n = none_held
    held (at_skip m h) ne meets f n = none_held
    held (at_assign m u h) ne meets f n = record { gone = λ i one. refl; lets_go = λ z. absurd (never_true z) }
    held (at_send {c = d} {e = e} m u h) ne meets f n = record {
      gone = send_gone d e m u h f (λ s. off _ (n (of_send s))) ne;
      lets_go = λ z. absurd (never_true z);
    }
    held (at_receive {c = d} {x = x} m l q h) ne meets f n = record {
      gone = λ i one. refl;
      lets_go = port_lets_go d x m l q h meets (λ s. off _ (n (of_receive s))) ne;
    }
    held (at_turn t) ne meets f n = turn_held t ne meets f (λ s. n (in_members s))
    held (at_side m t b h) ne meets f n = branches_held b meets.2 f (λ s. n (of_branch s))
    held (at_body {m = idle} a) ne meets f n = subst (λ (x : Shown). Held P c env x) (sym (idle_is a).1) none_held
    held (at_body {m = running} a) ne meets f n = held a (λ e. cc e) meets f (λ s. n (in_body s))
    held (at_body {m = answered} a) ne meets f n = absurd (never_true (n ask refl))
    held (at_body {m = returning} a) ne meets f n = held a (λ e. cc e) meets f (λ s. n (in_body s))
    held (at_choice {choices = choices} (control_at z)) ne meets f n = record { gone = λ i one. refl; lets_go = λ h. absurd (never_true h) }
    held (at_choice (inside_at a w)) ne meets f n = chosen_held a (over w (chosen_index a) (λ s. off _ (n (of_core s))) (λ e z. ne e))
        meets.2 f (λ s. n (of_choice s))
    held (at_turning {choices = choices} (control_at z)) ne meets f n = record { gone = λ i one. refl; lets_go = λ h. absurd (never_true h) }
    held (at_turning (inside_at a w)) ne meets f n = chosen_held a (over w (chosen_index a) (λ s. off _ (n (of_core s)))
        (λ e z. turns_on w e z (λ t. off _ (n (of_round t)))))
        meets.2 f (λ s. n (of_choice s))
    held (at_closing z) ne meets f n = none_held

    chosen_held : {choices : Choices} {k : Mode} (a : ChosenAt choices k) → (k ≡ answered → ⊥) → ChoiceMeets P choices → ChosenFits a env
        → ((s : ChoiceSpot choices) → chosen_moves env a s ≡ true → chosen_steps a s ≡ true) → Held P c env (chosen_shown a)
    chosen_held (this_one a) ne meets f n = held a ne meets.0 f (λ s. n (this_choice s))
    chosen_held (another a) ne meets f n = chosen_held a ne meets.1 f (λ s. n (other_choice s))

    branches_held : {members : Processes} {ks : List Mode} (b : BranchesAt members ks) → EachMeets P members → BranchesFit b env
        → ((s : BranchSpot members) → branch_moves env b s ≡ true → branch_steps b s ≡ true) → Held P c env (branches_shown b)
    branches_held no_more meets f n = none_held
    branches_held (and_at g b) meets f n = both_held (guarded_shown g) (branches_shown b) (beside meets.1 g b)
        (guarded_held g meets.0 f.0 (λ s. n (in_this s))) (branches_held b meets.2 f.1 (λ s. n (in_others s)))

    turn_held : {members : Processes} {m : Mode} (t : TurnAt members m) → (m ≡ answered → ⊥) → TurnMeets P members → TurnFits t env
        → ((s : TurnSpot members) → turn_moves env t s ≡ true → turn_steps t s ≡ true) → Held P c env (turn_shown t)
    turn_held turn_rests ne meets f n = none_held
    turn_held (at_last a) ne meets f n = held a ne meets f (λ s. n (in_last s))
    turn_held (at_member g) ne meets f n = guarded_held g meets.0 f (λ s. n (in_member s))
    turn_held (at_later {k = k} {n = l} {m = m} g t h) ne meets f n = later_by env (link_way m k l h) g ne (λ s e. never_true (n (in_member s) e))
        (λ z. turn_held t z meets.1 f (λ s. n (in_later s)))
