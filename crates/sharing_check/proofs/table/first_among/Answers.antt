use Rattle.std.proofs.Common.{◌≡◌, ℕ, Bor, ◌∷◌, [], List, map, nat_eq, rules, sym, subst, ◌∙◌}
use Rattle.std.specs.HashMap.{get, IsUnique}
use Rattle.std.specs.Map.Iter.{deref_pair}
use Rattle.std.proofs.lemmas.List.{map-append}
use Rattle.std.proofs.lemmas.Map.Iter.{iter_end}
use Rattle.chp_base.specs.declared.span.Span.{Span}
use Rattle.sharing_check.specs.Leasts.{IsLeast, IsNoLaterPair}
use Rattle.sharing_check.proofs.TableLemmas.{MeetingAmong, MeetsAt, met_none, met_more, met_all}
use Rattle.sharing_check.proofs.table.first_among.Goals as goal

pub loop-name-init : goal.loop-name-init
loop-name-init c = met_none _

pub loop-name-preserved : goal.loop-name-preserved
loop-name-preserved c =
    let item : Bor ℕ × Bor Span = (c.in-Some.name, c.in-Some.one) in
    let there : c.copied.result ≡ get nat_eq c.args.many.now c.in-Some.name.now = c.copied.ensures ∙ c.get.ensures.value in
    let one = subst (λ o. IsLeast IsNoLaterPair (MeetsAt c.in-Some.one.now o) c.meeting.result) there c.meeting.ensures in
    subst (λ (es : List (ℕ × Span)). IsLeast IsNoLaterPair (MeetingAmong es (get nat_eq c.args.many.now)) c.sooner-first.result)
    (sym (map-append deref_pair c.loop-name.yielded (item ∷ [])))
    (met_more _ _ _ _ _ c.in-Some.name.now c.in-Some.one.now c.loop-name.invariant one c.sooner-first.ensures)

pub returns : goal.returns
returns c =
    let all : map deref_pair c.loop-name.yielded ≡ c.args.few.now.entries = search (rules, iter_end) in
    let unique : IsUnique nat_eq c.args.few.now = search rules in
    met_all _ _ _ unique (subst (λ (es : List (ℕ × Span)). IsLeast IsNoLaterPair (MeetingAmong es (get nat_eq c.args.many.now)) c.loop-name.first) all
    c.loop-name.invariant)
