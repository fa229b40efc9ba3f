use Rattle.std.proofs.Common.{◌≡◌, ◌∙◌, ◌<◌, ◌-◌, List, take, drop, length, ap, subst, sym}
use Rattle.std.specs.Prelude.{not, ◌&&◌}
use Rattle.prs_core.specs.declared.rule.Literal.{Literal}
use Rattle.prs_core.specs.Moves.{term_holds}
use Rattle.guard_rows.specs.Places.{overrides}
use Rattle.guard_rows.proofs.Counting.{first_and_end}
use Rattle.guard_rows.proofs.counts.is_high_alone.Goals as goal

pub returns-then-wants_high : goal.returns-then-wants_high
returns-then-wants_high c = λ is v.
    let literals = c.literals-literals.result.now in
    let node = c.args.node in
    let some : 0 < length literals =
    subst (λ (t : List Literal). 0 < length t) (sym c.literals-literals.ensures.value) c.literals-literals.ensures.some in
    subst (λ (t : List Literal). term_holds v t ≡ (v node && not (overrides v c.args.over))) c.literals-literals.ensures.value
    (first_and_end v literals _ some
    ∙ ap (λ b. b && term_holds v (take (length literals - 1) (drop 1 literals))) (c.wants_high.ensures c.if-wants_high.true v)
    ∙ ap (λ b. v node && b) (c.wants_no_override.ensures is v))
