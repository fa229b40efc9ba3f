use Rattle.std.proofs.Common.{◌≡◌, ◌⊎◌, ◌∙◌, ◌≤◌, ℕ, List, Option, length, sym, ap, subst}
use Rattle.std.specs.Prelude.{IfSome, IfNone}
use Rattle.env_script.specs.Runs.{history_at}
use Rattle.event_sim.specs.Passing.{values_through}
use Rattle.chp_meaning.specs.Rounds.{rounds_from}
use Rattle.chp_meaning.specs.Ends.{seen}
use Rattle.chp_meaning.specs.Prefixes.{IsPrefixOf}
use Rattle.history_report.specs.Comparing.{IsFirstDifference, run_history}
use Rattle.history_report.proofs.Ands.{on_both, if_both}
use Rattle.history_report.proofs.Onward.{some_after, none_after}
use Rattle.history_report.proofs.comparison.difference_on.Goals as goal

pub returns-clause-fewer : goal.returns-clause-fewer
returns-clause-fewer c = on_both _ c.reach.result c.first_difference.result c.and.ensures c.reach.ensures.fewer

pub returns-clause-made : goal.returns-clause-made
returns-clause-made c = on_both _ c.reach.result c.first_difference.result c.and.ensures c.reach.ensures.made

pub returns-clause-some : goal.returns-clause-some
returns-clause-some c =
    let t = c.args.program.now in
    let chan = c.args.chan in
    let run = run_history c.args.ran.now chan in
    let is = c.reach.new.config in
    let left = c.reach.new.left in
    let values_are : c.deref.result.now ≡ run = c.deref.ensures.value ∙ (c.in_ok-values.ensures ∙ ap (values_through chan) c.passed.ensures.passed) in
    let counted : c.len.result ≡ length run = c.len.ensures ∙ (sym c.deref.ensures.len ∙ ap length values_are) in
    if_both (λ (o : Option ℕ). IfSome o (λ place. IsFirstDifference c.deref.result.now c.history.result.now place))
    (λ (o : Option ℕ). IfSome o (λ place. IsFirstDifference run (history_at (rounds_from (seen t is) left).histories chan) place))
    c.reach.result c.first_difference.result c.and.ensures c.reach.ensures.enough c.first_difference.ensures.some
    (λ enough found some.
    some_after t is left chan run c.requires.sharing c.reach.ensures.of found
    (subst (λ (n : ℕ). (left ≡ 0) ⊎ (n ≤ length (history_at (seen t is).histories chan))) counted enough)
    (subst (λ (xs : List ℕ). IfSome found (λ place. IsFirstDifference xs (history_at (seen t is).histories chan) place)) values_are
    (subst (λ (ys : List ℕ). IfSome found (λ place. IsFirstDifference c.deref.result.now ys place)) c.history.ensures some)))

pub returns-clause-none : goal.returns-clause-none
returns-clause-none c =
    let t = c.args.program.now in
    let chan = c.args.chan in
    let run = run_history c.args.ran.now chan in
    let is = c.reach.new.config in
    let left = c.reach.new.left in
    let values_are : c.deref.result.now ≡ run = c.deref.ensures.value ∙ (c.in_ok-values.ensures ∙ ap (values_through chan) c.passed.ensures.passed) in
    if_both (λ (o : Option ℕ). IfNone o (IsPrefixOf c.deref.result.now c.history.result.now))
    (λ (o : Option ℕ). IfNone o (IsPrefixOf run (history_at (rounds_from (seen t is) left).histories chan)))
    c.reach.result c.first_difference.result c.and.ensures c.reach.ensures.enough c.first_difference.ensures.none
    (λ enough found none.
    none_after t is left chan run c.requires.sharing c.reach.ensures.of found
    (subst (λ (xs : List ℕ). IfNone found (IsPrefixOf xs (history_at (seen t is).histories chan))) values_are
    (subst (λ (ys : List ℕ). IfNone found (IsPrefixOf c.deref.result.now ys)) c.history.ensures none)))
