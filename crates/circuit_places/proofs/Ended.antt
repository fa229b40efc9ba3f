-- Where nothing moves in the whole circuit, the program has no step: where each move that is enabled is a step, each step of the program is
-- such a move.
use Rattle.std.proofs.Common.{◌≡◌, ◌≢◌, ℕ, true, false, List, refl, sym, ◌∙◌}
use Rattle.env_script.specs.Scripts.{OfferValue}
use Rattle.width_check.specs.Processes.{Process, TypedProgram}
use Rattle.chp_meaning.specs.Terms.{finished, Place}
use Rattle.chp_meaning.specs.Steps.{Configuration, Step}
use Rattle.circuit_places.specs.Whole.{Wires, line_ack, Node, go_node}
use Rattle.circuit_places.proofs.Places.{Mode, returning, GuardedAt, g_rests, g_in, g_past, g_back, guarded_cells, guarded_writing}
use Rattle.circuit_places.proofs.Quiet.{each_made, on_way}
use Rattle.circuit_places.proofs.System.{Good, can, root_left, Fitted}
use Rattle.circuit_places.proofs.Follow.{Followed}

pub record AtEnd {p : Process} {m : Mode} (g : GuardedAt p m) (c : Configuration) : Type 0 where
  pub still : (at : Place) (d : Configuration) → ¬ Step c at d
  pub ended : (guarded_cells g).next ≡ true → c.term ≡ finished
  pub going : (guarded_cells g).next ≡ false → c.term ≢ finished

pub at_end : (P : TypedProgram) {script : List OfferValue} (fitted : Fitted P script) (w : Wires) (hs : List (List ℕ)) {m : Mode} (g : GuardedAt P.body m)
    → m ≢ returning → Good P m g w → ((n : Node P.body) → can P script g w hs n ≡ false)
    → {from : Configuration} {most due : ℕ} (r : Followed P script from most hs (root_left (line_ack P w) g) w.bit (guarded_writing (line_ack P w) g) due)
    → AtEnd g r.to
at_end P fitted w hs g_rests ne good none r = absurd (cc (none go_node))
at_end P fitted w hs (g_in u a h) ne good none r = record {
  still = λ at d step. let n = each_made P fitted w hs (g_in u a h) good (λ k e. cc (none k, e)) ne r step in cc (n.1, none n.0);
  ended = λ e. absurd (cc e);
  going = λ e z. on_way P fitted w hs (g_in u a h) good (λ k e. cc (none k, e)) refl (sym r.term ∙ z);
}
at_end P fitted w hs g_past ne good none r = record {
  still = λ at d step. let n = each_made P fitted w hs g_past good (λ k e. cc (none k, e)) ne r step in cc (n.1, none n.0);
  ended = λ e. r.term;
  going = λ e. absurd (cc e);
}
at_end P fitted w hs (g_back u) ne good none r = absurd (ne refl)
