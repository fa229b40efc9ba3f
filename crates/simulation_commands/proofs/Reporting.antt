-- The run to which an order led.
use Rattle.std.proofs.Common.{◌≡◌, ◌∙◌, ◌++◌, ℕ, Bool, List, Option, Some, length, sym, ap, subst}
use Rattle.event_sim.specs.declared.ran.End.{End}
use Rattle.event_sim.specs.Ends.{EndsSo}
use Rattle.event_sim.specs.Following.{ArePicks}
use Rattle.event_sim.specs.Simulating.{SimValue, RanValue, growth, picked_moves, start_at}
use Rattle.prs_core.specs.Nets.{NetValue}
use Rattle.command_steps.specs.Orders.{order_state}
use Rattle.simulation_commands.specs.Simulating.{IsPlayed, ran_value}

ran_is : (s : SimValue) (before now : List ℕ) (r : RanValue) → r.net ≡ s.net → r.moves ≡ (ran_value s before now r.end).moves →
    r.done_high ≡ (ran_value s before now r.end).done_high → r.passed ≡ (ran_value s before now r.end).passed → r ≡ ran_value s before now r.end
ran_is s before now r net moves done passed =
    let made : NetValue → ℕ → Bool → List (ℕ × ℕ) → RanValue = λ n m d p. record { net = n; end = r.end; moves = m; done_high = d; passed = p } in
    ap (λ n. made n r.moves r.done_high r.passed) net ∙ (ap (λ m. made s.net m r.done_high r.passed) moves
    ∙ (ap (λ d. made s.net (ran_value s before now r.end).moves d r.passed) done
    ∙ ap (λ p. made s.net (ran_value s before now r.end).moves (ran_value s before now r.end).done_high p) passed))

-- An order whose log was `was` was given the seed, with the log `seeded_log`, which is the same; and then it ran.

pub run_played : (s : SimValue) (seed : ℕ) (name other was seeded_log now : List ℕ) (old new : Option (ℕ × ℕ)) (end : End)
    → new ≡ Some (seed, length was) → seeded_log ≡ was → now ≡ seeded_log ++ growth seeded_log now
    → ArePicks s.net s.script (start_at s) (growth seeded_log now)
    → EndsSo s.net s.script s.steps (start_at s) (picked_moves s seeded_log now) end
    → IsPlayed s seed (order_state name was old) (order_state other now new) end
run_played s seed name other was seeded_log now old new end seeded same grown picks ends = subst
    (λ (log : List ℕ). (now ≡ log ++ growth log now) × ArePicks s.net s.script (start_at s) (growth log now)
    × EndsSo s.net s.script s.steps (start_at s) (picked_moves s log now) end
    → IsPlayed s seed (order_state name was old) (order_state other now new) end)
    (sym same) (λ f. record { seeded = seeded; grown = f.0; picks = f.1; ends = f.2 })
    (grown, picks, ends)

pub run_led : (s : SimValue) (was seeded_log now : List ℕ) (r : RanValue) → seeded_log ≡ was → r.net ≡ s.net
    → r.moves ≡ (ran_value s seeded_log now r.end).moves → r.done_high ≡ (ran_value s seeded_log now r.end).done_high
    → r.passed ≡ (ran_value s seeded_log now r.end).passed → r ≡ ran_value s was now r.end
run_led s was seeded_log now r same net moves done passed =
    subst (λ (log : List ℕ). r ≡ ran_value s log now r.end) same (ran_is s seeded_log now r net moves done passed)
