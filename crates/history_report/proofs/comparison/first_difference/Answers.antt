use Rattle.std.proofs.Common.{◌≡◌, ℕ, length, take, subst, arith}
use Rattle.history_report.proofs.Fronts.{front_found}
use Rattle.history_report.proofs.comparison.first_difference.Goals as goal

pub returns-clause-none : goal.returns-clause-none
returns-clause-none c =
    let values = c.args.values.now in
    let history = c.args.history.now in
    let whole : c.loop-place.place ≡ length values = omega arith in
    front_found values history (subst (λ (k : ℕ). take k values ≡ take k history) whole c.loop-place.invariant)
