-- In its first state only go may move, and rails of `in` channels, which nothing follows: so the rank of each silent move there is `first` of the program at
-- most.
--
-- P: the program; r: that its first state is reached; g: where its body is; n: a node; t: that it is silent.
use Rattle.std.proofs.Common.{◌≡◌, ℕ, suc, Bool, true, false, List, refl, sym, ap, ◌∙◌, arith}
use Rattle.std.specs.Prelude.{not, ◌&&◌, ◌||◌, if◌then◌else◌}
use Rattle.chp_base.specs.declared.channel.Kind.{Kind}
use Rattle.chp_base.specs.declared.channel.Kind.TheVariants.{In, Out, Chan}
use Rattle.env_script.specs.Scripts.{OfferValue, offer_at}
use Rattle.env_script.specs.Runs.{completed}
use Rattle.width_check.specs.Processes.{TypedProgram}
use Rattle.width_check.specs.Typing.{kind_at, channel_width, var_width}
use Rattle.chp_meaning.specs.Steps.{Configuration}
use Rattle.function_blocks.specs.Rails.{turns}
use Rattle.circuit_places.specs.Lines.{Line, of_channel, of_var}
use Rattle.circuit_places.specs.Circuit.{low}
use Rattle.circuit_places.specs.Whole.{wires_seen, is_sent, is_merged, go_node, own_node, rail_node, ack_node, bit_node, wrote_node, joint_node, first_cells}
use Rattle.circuit_places.proofs.RailLemmas.{never_and}
use Rattle.circuit_places.proofs.Flow.{not_both}
use Rattle.circuit_places.proofs.Trees.{joint_quiet}
use Rattle.circuit_places.proofs.LineMoves.{gives_of}
use Rattle.circuit_places.proofs.Places.{Mode, idle, running, answered, returning, asks, Shown, none_shown, GuardedAt, g_rests, g_back, guarded_shown, low_guarded_quiet}
use Rattle.circuit_places.proofs.System.{Fitted, driven}
use Rattle.circuit_places.proofs.Carry.{Reached, enabled_is}
use Rattle.round_time.specs.Longest.{tree_height, first}
use Rattle.circuit_time.proofs.Levels.{Silent, Below}
use Rattle.circuit_ranks.proofs.Ranks.{listens_on, is_asked, rail_rises, rank}
use Rattle.circuit_ranks.proofs.AskedTrails.{listens_low}
use Rattle.circuit_ranks.proofs.Underway.{low_asked}

in_kind : (k : Kind) → is_sent k ≡ false → k ≡ In
in_kind In e = refl
in_kind Out e = absurd (cc e)
in_kind Chan e = absurd (cc e)

bit_still : (b c : Bool) → ((if b then false else false && c) || false) ≡ true → ⊥
bit_still true c e = cc e
bit_still false c e = cc e

-- what isn't asked shows nothing
nothing_shown : (P : TypedProgram) (m : Mode) (g : GuardedAt P.body m) → asks m ≡ false → guarded_shown g ≡ none_shown
nothing_shown P idle g_rests e = refl
nothing_shown P returning (g_back u) e = refl
nothing_shown P running g e = absurd (cc e)
nothing_shown P answered g e = absurd (cc e)

module _ (P : TypedProgram) (script : List OfferValue) (fitted : Fitted P script) {from : Configuration} {moves : ℕ}
    (r : Reached P script from moves (first_cells P)) where
  -- a rail moves that the environment drives
  is_driven : (k : Line) (i : ℕ) (one : Bool) → Silent P script fitted (rank P) r (rail_node k i one)
      → driven P script (first_cells P).wires (first_cells P).histories k i one ≡ true
  is_driven k i one t =
      sym (ap (λ b. b || driven P script (first_cells P).wires (first_cells P).histories k i one)
      (ap (λ (s : Shown). is_merged P k && turns false (s.offer k i one) (not (s.offer k i one))) (nothing_shown P r.mode r.place (sym r.go))
      ∙ never_and (is_merged P k)))
      ∙ (sym (enabled_is P script r (rail_node k i one)) ∙ t.on)

  channel_first : (c i : ℕ) (one : Bool) → Silent P script fitted (rank P) r (rail_node (of_channel c) i one)
      → rank P (first_cells P) (rail_node (of_channel c) i one) ≡ 0
  channel_first c i one t =
      let h = tree_height (channel_width P.channels c) in
      let g = gives_of (channel_width P.channels c) (first_cells P).wires c (completed (first_cells P).histories c) (offer_at script c) i one
      (is_driven (of_channel c) i one t) in
      ap (λ (k : Kind). rail_rises P k h (is_asked (listens_on c) P.body false (low P.body))) (in_kind (kind_at P.channels c) (fitted.brought c g.0 g.1).0)
      ∙ ap (λ (b : Bool). rail_rises P In h b) (low_asked (listens_on c) (listens_low c) P.body)

  pub first_below : Below P script fitted (rank P) r (suc (first P P.body))
  first_below go_node t = omega arith
  first_below (own_node s) t = absurd (not_both (ap (λ b. b || false) (low_guarded_quiet P.body (wires_seen P (first_cells P).wires) s)) t.on)
  first_below (rail_node (of_channel c) i one) t = let z = channel_first c i one t in omega (arith, z)
  first_below (rail_node (of_var v) i one) t = absurd (cc (is_driven (of_var v) i one t))
  first_below (ack_node c) t = omega arith
  first_below (bit_node v i one) t = absurd (bit_still ((first_cells P).wires.bit v i one) (not ((first_cells P).wires.bit v i (not one))) t.on)
  first_below (wrote_node v i) t = absurd (cc t.on)
  first_below (joint_node v k) t =
      absurd (not_both (ap (λ b. b || false) (joint_quiet (var_width P.vars v) (λ i. false) (λ j. false) (λ i. refl) (λ j. refl) k)) t.on)
