use Rattle.std.proofs.Common.{◌≡◌, ℕ, Bor, ◌∷◌, [], List, map, nat_eq, rules, sym, subst}
use Rattle.std.specs.HashMap.{get, IsUnique}
use Rattle.std.specs.Map.Iter.{deref_pair}
use Rattle.std.proofs.lemmas.List.{map-append}
use Rattle.std.proofs.lemmas.Map.Iter.{iter_end}
use Rattle.chp_base.specs.declared.span.Span.{Span}
use Rattle.width_check.specs.Order.{IsNoLater}
use Rattle.sharing_check.specs.Leasts.{IsLeast}
use Rattle.sharing_check.proofs.TableLemmas.{IsOneOf, noted_none, noted_more, noted_all}
use Rattle.sharing_check.proofs.table.with_noted.Goals as goal

pub loop-name-init : goal.loop-name-init
loop-name-init c = λ x. noted_none _ x

pub loop-name-preserved : goal.loop-name-preserved
loop-name-preserved c = λ x.
    let item : Bor ℕ × Bor Span = (c.in-Some.name, c.in-Some.at) in
    subst (λ (es : List (ℕ × Span)). IsLeast IsNoLater (IsOneOf (get nat_eq c.args.table x) es x) (get nat_eq c.note.new.table x))
    (sym (map-append deref_pair c.loop-name.yielded (item ∷ [])))
    (noted_more _ _ _ _ x c.in-Some.name.now c.in-Some.at.now (c.loop-name.invariant x) (c.in_ok-note.ensures x))

pub returns : goal.returns
returns c = λ x.
    let all : map deref_pair c.loop-name.yielded ≡ c.args.other.now.entries = search (rules, iter_end) in
    let unique : IsUnique nat_eq c.args.other.now = search rules in
    noted_all _ _ _ x unique (subst (λ (es : List (ℕ × Span)). IsLeast IsNoLater (IsOneOf (get nat_eq c.args.table x) es x) (get nat_eq c.loop-name.table x))
    all (c.loop-name.invariant x))
