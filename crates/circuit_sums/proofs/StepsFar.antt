-- In each state that is reached a silent step of an own node lets no silent move of a rail, of an acknowledge, or of a variable's block begin, and gives none a
-- higher rank, but that of a channel's rail which is below the step's phase.
--
-- P: the program; r: how the state x is reached; s: the spot that steps; on: that its move is enabled; does: that it is a step; v: a variable; c: a channel;
-- k: a line; i, one: a rail.
use Rattle.std.proofs.Common.{◌≡◌, ℕ, suc, Bool, true, false, List, sym, ap, ◌∙◌}
use Rattle.std.specs.Prelude.{not, ◌&&◌, ◌||◌}
use Rattle.env_script.specs.Scripts.{OfferValue, offer_at}
use Rattle.env_script.specs.Runs.{completed}
use Rattle.width_check.specs.Processes.{TypedProgram}
use Rattle.width_check.specs.Typing.{kind_at, channel_width}
use Rattle.chp_meaning.specs.Steps.{Configuration}
use Rattle.function_blocks.specs.Rails.{turns}
use Rattle.circuit_places.specs.Lines.{Line}
use Rattle.circuit_places.specs.Circuit.{QElementCells, Cells, GuardedSpot}
use Rattle.circuit_places.specs.Whole.{Whole, is_heard, is_merged, Node, go_node, own_node, rail_node, ack_node, bit_node, wrote_node, joint_node, answers, enabled, cells_moved}
use Rattle.circuit_places.proofs.Flow.{not_both}
use Rattle.circuit_places.proofs.Places.{guarded_shown}
use Rattle.circuit_places.proofs.Stepping.{guarded_steps}
use Rattle.circuit_places.proofs.StillSteps.{guarded_rises, guarded_value, guarded_was_low}
use Rattle.circuit_places.proofs.System.{Fitted, driven}
use Rattle.circuit_places.proofs.Quiet.{is_step}
use Rattle.circuit_places.proofs.Carry.{Reached, next_reached, enabled_is}
use Rattle.circuit_pace.proofs.Never.{never}
use Rattle.circuit_pace.proofs.Counts.{counts}
use Rattle.circuit_ranks.proofs.Ranks.{assigns_to}
use Rattle.circuit_ranks.proofs.Claims.{is_far, LowerThan}
use Rattle.circuit_ranks.proofs.StateReads.{taken_is, offered_is}
use Rattle.circuit_ranks.proofs.AskedTrails.{assigns_low}
use Rattle.circuit_ranks.proofs.OwnKept.{Follows, kept_far}
use Rattle.circuit_sums.proofs.Phases.{guarded_phase}
use Rattle.circuit_sums.proofs.StepReads.{rails_stay, takers_stay, asked_stays, listen_asked}

module _ (P : TypedProgram) (script : List OfferValue) (fitted : Fitted P script) {from : Configuration} {moves : ℕ} {x : Whole P.body}
    (r : Reached P script from moves x) (s : GuardedSpot P.body) (on : enabled P script x (own_node s) ≡ true) (does : guarded_steps r.place s ≡ true) where
  abbrev of_s : ℕ
  of_s = guarded_phase P 0 P.body s

  abbrev after : Whole P.body
  after = cells_moved P x (own_node s)

  abbrev next : Reached P script from (suc moves) (cells_moved P x (own_node s))
  next = next_reached P script fitted r (own_node s) on

  rises : guarded_rises s ≡ true
  rises = (guarded_was_low r.place s does).0

  is_low : guarded_value P.body x.root s ≡ false
  is_low = ap (λ (q : QElementCells (Cells P.body)). guarded_value P.body q s) r.same ∙ (guarded_was_low r.place s does).1

  -- it lets go of no request of an assignment; and where it asks a receive so many moves follow
  follows : Follows P script fitted r s on of_s
  follows = record {
    clears = λ v e g. absurd (not_both g (asked_stays P P.body r.good.meets x.root s rises is_low (assigns_to v) (assigns_low v) e));
    hears = λ c a b. listen_asked P P.body r.good.meets x.root s rises is_low (counts P) c a b;
  }

  -- nothing changes that these nodes read off the sites, so each could move before
  taken_stays : (c : ℕ) → (guarded_shown r.place).take c ≡ (guarded_shown next.place).take c
  taken_stays c = sym (taken_is P script r c) ∙ (sym (takers_stay P P.body r.good.meets x.root s rises is_low c) ∙ taken_is P script next c)

  offered_stays : (k : Line) (i : ℕ) (one : Bool) → (guarded_shown r.place).offer k i one ≡ (guarded_shown next.place).offer k i one
  offered_stays k i one =
      sym (offered_is P script r k i one) ∙ (sym (rails_stay P P.body r.good.meets x.root s rises is_low k i one) ∙ offered_is P script next k i one)

  could : (m : Node P.body) → is_far m ≡ true → enabled P script after m ≡ true → enabled P script x m ≡ true
  could (ack_node c) far e = enabled_is P script r (ack_node c)
      ∙ (ap (λ t. (is_heard (kind_at P.channels c) && turns (x.wires.ack c) t (not t))
      || answers (channel_width P.channels c) x.wires c (completed x.histories c) (offer_at script c)) (taken_stays c)
      ∙ (sym (enabled_is P script next (ack_node c)) ∙ e))
  could (rail_node k i one) far e = enabled_is P script r (rail_node k i one)
      ∙ (ap (λ t. (is_merged P k && turns (x.wires.rail k i one) t (not t)) || driven P script x.wires x.histories k i one) (offered_stays k i one)
      ∙ (sym (enabled_is P script next (rail_node k i one)) ∙ e))
  could (own_node q) far e = never far
  could go_node far e = e
  could (bit_node v i one) far e = e
  could (wrote_node v i) far e = e
  could (joint_node v k) far e = e

  pub far_behind : (m : Node P.body) → is_far m ≡ true → enabled P script after m ≡ true → is_step P next.place after.wires m ≡ false
      → LowerThan P script fitted r of_s (own_node s) m
  far_behind m far e n = kept_far P script fitted r s on follows m far (could m far e) n
