use Rattle.std.proofs.Common.{◌≡◌, ◌<◌, ◌∙◌, sym, ap, subst, length, true, [], Bool, ℕ, List, arith}
use Rattle.std.specs.Prelude.{◌==◌, Option, Some}
use Rattle.std.proofs.lemmas.Bool.{eqb-true, eqb-false}
use Rattle.std.proofs.lemmas.List.{nil_from_length}
use Rattle.prs_core.specs.Nets.{NetValue}
use Rattle.prs_core.specs.Moves.{high}
use Rattle.env_script.specs.Environment.{in_reset}
use Rattle.event_sim.specs.Locality.{members, has_move, IsPassing}
use Rattle.event_sim.proofs.Behind.{reset_low, reset_waits, reset_falls, reset_within}
use Rattle.event_sim.proofs.listing.add_reset.Goals as goal
use Rattle.event_sim.proofs.listing.add_reset.Goals.{else-is_high-via-then-is_high+else-is_empty, else-is_high-via-else-is_high}

pub returns-then-is_empty : goal.returns-then-is_empty
returns-then-is_empty c = λ done passing.
    let x = c.args.indexed.now in
    let r = c.in-Some.node in
    let at : x.net.reset ≡ Some r = ap (λ (w : NetValue). w.reset) (sym c.net.ensures.net) ∙ sym c.in-Some.ensures.reset in
    let none : (length c.nodes.result.now == 0) ≡ true = sym c.is_empty.ensures ∙ c.if-is_empty.true in
    let empty : members c.args.moves.now ≡ [] = sym c.nodes.ensures ∙ nil_from_length c.nodes.result.now (eqb-true _ 0 none) in
    subst (λ (marks : List Bool). IsPassing (length x.net.first) (has_move x.net x.script done c.args.state.now) marks) (sym c.set.ensures)
    (reset_falls x done c.args.state.now c.args.moves.now r at (reset_within x.net r c.net.ensures.is_net at) (sym c.is_high.ensures ∙ c.if-is_high.true)
    empty passing)

pub returns-else-is_high : goal.returns-else-is_high
returns-else-is_high c = λ done passing.
    let x = c.args.indexed.now in
    let v = c.args.state.now in
    let r = c.in-Some.node in
    let at : x.net.reset ≡ Some r = ap (λ (w : NetValue). w.reset) (sym c.net.ensures.net) ∙ sym c.in-Some.ensures.reset in
    let there : in_reset x.net.reset (high v) ≡ high v r = ap (λ (o : Option ℕ). in_reset o (high v)) at in
    elim c.else-is_high.branch [
      | else-is_high-via-then-is_high+else-is_empty w ↦
          let some : 0 < length w.nodes.result.now = let apart = eqb-false _ 0 (sym w.is_empty.ensures ∙ w.if-is_empty.false) in omega arith in
          reset_waits x done v c.args.moves.now (there ∙ sym c.is_high.ensures ∙ w.if-is_high.true) (omega (arith, some, ap length w.nodes.ensures)) passing
      | else-is_high-via-else-is_high w ↦ reset_low x done v c.args.moves.now (there ∙ sym c.is_high.ensures ∙ w.if-is_high.false) passing
    ]
