use Rattle.std.proofs.Common.{◌≤◌, ◌<◌, ◌∙◌, ℕ, List, length, sym, ap, arith}
use Rattle.std.specs.Prelude.{not, ◌&&◌, nat_le}
use Rattle.std.proofs.lemmas.List.{take_all}
use Rattle.prs_core.specs.Nets.{GuardValue}
use Rattle.prs_core.specs.Moves.{guard_holds}
use Rattle.guard_rows.specs.Places.{count_of, overrides}
use Rattle.guard_rows.proofs.Counting.{any_more}
use Rattle.guard_rows.proofs.counts.is_any_of.Goals as goal

pub loop-place-preserved : goal.loop-place-preserved
loop-place-preserved c = λ v.
    let terms = c.terms-terms.result.now in
    let nodes = c.args.nodes.now in
    let place = c.loop-place.place in
    let inside : place < length nodes = c.loop-place-test.true in
    let within : place < length terms = omega (arith, inside, c.if-terms-nodes.false) in
    any_more v terms nodes place c.index-terms-place.result (not (overrides v c.args.over)) within inside c.index-terms-place.is
    (c.is_high_alone.ensures c.if-not-is_high_alone.false v)
    (c.loop-place.invariant v)

pub returns : goal.returns
returns c = λ is v.
    let terms = c.terms-terms.result.now in
    let nodes = c.args.nodes.now in
    let place = c.loop-place.place in
    let past : length nodes ≤ place = c.loop-place-test.false in
    let over : length terms ≤ place = omega (arith, past, c.if-terms-nodes.false) in
    sym (ap (λ (g : GuardValue). guard_holds v g) (take_all place terms over ∙ c.terms-terms.ensures))
    ∙ c.loop-place.invariant v
    ∙ ap (λ (ns : List ℕ). nat_le 1 (count_of v ns) && not (overrides v c.args.over)) (take_all place nodes past)
