use Rattle.std.proofs.Common.{◌-◌, ◌≡◌, ◌≤◌, ◌<◌, ◌∙◌, ℕ, List, length, take, drop, sym, ap, arith}
use Rattle.std.specs.Prelude.{nat_le, ◌&&◌}
use Rattle.std.proofs.lemmas.List.{take_all}
use Rattle.prs_core.specs.declared.rule.Literal.{Literal}
use Rattle.prs_core.specs.Moves.{term_holds}
use Rattle.guard_rows.specs.Places.{count_of}
use Rattle.guard_rows.proofs.Counting.{all_more, all_and_end}
use Rattle.guard_rows.proofs.counts.is_all_of.Goals as goal

pub loop-place-preserved : goal.loop-place-preserved
loop-place-preserved c = λ v.
    let literals = c.literals-literals.result.now in
    let nodes = c.args.nodes.now in
    let place = c.loop-place.place in
    let inside : place < length nodes = c.loop-place-test.true in
    let within : place < length literals = omega (arith, inside, c.if-literals-nodes.false) in
    all_more v literals nodes place _ within inside (c.wants_high.ensures c.if-not-wants_high.false v) (c.loop-place.invariant v)

pub returns : goal.returns
returns c = λ is v.
    let literals = c.literals-literals.result.now in
    let nodes = c.args.nodes.now in
    let place = c.loop-place.place in
    let past : length nodes ≤ place = c.loop-place-test.false in
    let all : place ≡ length nodes = omega (arith, past, c.loop-place.auto.place-end) in
    let taken : term_holds v (take place literals) ≡ nat_le (length nodes) (count_of v nodes) =
    c.loop-place.invariant v
    ∙ ap (λ (ns : List ℕ). nat_le place (count_of v ns)) (take_all place nodes past)
    ∙ ap (λ k. nat_le k (count_of v nodes)) all in
    sym (ap (λ (t : List Literal). term_holds v t) c.literals-literals.ensures.value)
    ∙ all_and_end v literals (length nodes)
    ∙ ap (λ k. term_holds v (take k literals) && term_holds v (take (length literals - length nodes) (drop (length nodes) literals))) (sym all)
    ∙ ap (λ b. b && term_holds v (take (length literals - length nodes) (drop (length nodes) literals))) taken
    ∙ ap (λ b. nat_le (length nodes) (count_of v nodes) && b) (c.wants_no_override.ensures c.if-not-wants_no_override.false v)
