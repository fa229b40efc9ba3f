use Rattle.std.proofs.Common.{◌≡◌, ◌∙◌, sym, ap, ℕ, Bool}
use Rattle.std.specs.Prelude.{nat_lt, if◌then◌else◌, Option}
use Rattle.std.proofs.lemmas.Bool.{lt-ltb, le-ltb}
use Rattle.prs_core.specs.Moves.{high}
use Rattle.env_script.specs.Scripts.{OfferValue}
use Rattle.env_script.specs.Offers.{offered}
use Rattle.env_script.specs.Environment.{offer_moves}
use Rattle.event_sim.specs.Standings.{StandingValue, stands}
use Rattle.event_sim.proofs.Asked.{moves_over}
use Rattle.event_sim.proofs.standing.Standing.moves.Goals as goal
use Rattle.event_sim.proofs.standing.Standing.moves.Goals.{then-done-times, else-done-times}

pub returns-after-done-times : goal.returns-after-done-times
returns-after-done-times c =
    let v : ℕ → Bool = high c.args.state.now in
    let w = c.args.wires.now in
    let one : OfferValue = offered c.self.inside.one in
    let listed : OfferValue = offered c.args.listed.now in
    let done = c.args.done in
    let times = c.in-Some.times in
    let n = c.args.node in
    let place : c.if-done-times.place ≡ (if nat_lt done times then 0 else 1) = elim c.if-done-times.branch [
      | then-done-times w ↦ w.place-is ∙ sym (ap (λ (b : Bool). if b then 0 else 1) (lt-ltb done times w.if-done-times.true))
      | else-done-times w ↦ w.place-is ∙ sym (ap (λ (b : Bool). if b then 0 else 1) (le-ltb done times w.if-done-times.false))
    ] in
    c.offer_moves-in-Some.ensures ∙ ap (λ (p : ℕ). offer_moves v w one p n) place ∙ moves_over v w one times done n c.self.invariant
    ∙ ap (λ (t : Option ℕ). offer_moves v w (stands t one listed) done n) (sym c.in-Some.is)
    ∙ ap (λ (s : StandingValue). offer_moves v w (stands s.times s.one listed) done n) c.self.view_is
