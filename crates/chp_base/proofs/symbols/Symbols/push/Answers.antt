use Rattle.std.proofs.Common.{◌≡◌, ◌<◌, ◌-◌, ◌^◌, ◌++◌, ◌∷◌, ℕ, List, [], Some, Contains, length, map, ap, sym, subst, ◌∙◌, arith}
use Rattle.std.specs.Prelude.{nat_eq}
use Rattle.std.proofs.lemmas.List.{length-map}
use Rattle.std.specs.BTreeMap.{Updates}
use Rattle.indexmap.specs.IndexMap.{values, insert_entry}
use Rattle.indexmap.specs.IndexMap as changes
use Rattle.chp_base.specs.NameKeys.{key_cmp, name_key}
use Rattle.chp_base.proofs.NameKeyLemmas.{IsKept, same_entries, pushed, values_pushed}
use Rattle.chp_base.proofs.symbols.Symbols.push.Goals as goal

pub invariant_of-self-2 : goal.invariant_of-self-2
invariant_of-self-2 c =
    let names = c.reserve.new.self in
    let name = c.args.name in
    let kept : IsKept names c.self.inside.places =
    same_entries c.self.inside.names names c.self.inside.places c.in_ok-reserve.ensures.entries c.self.invariant in
    let vs : values names ≡ c.args.self.now = ap (map (λ (e : ℕ × List ℕ). e.1)) c.in_ok-reserve.ensures.entries ∙ c.self.view_is in
    let count : c.len-place.result ≡ length names.entries = c.len-place.ensures.len ∙ ap length (sym c.in_ok-reserve.ensures.entries) in
    let room : length names.entries < 2 ^ 32 - 1 =
    omega (arith, c.requires.room, sym (length-map names.entries (λ (e : ℕ × List ℕ). e.1)), ap length vs) in
    let fresh : Contains (values names) name → ⊥ = subst (λ ns. Contains ns name → ⊥) (sym vs) c.requires.fresh in
    let made : c.insert-2.new.self.entries ≡ insert_entry nat_eq names.entries (length names.entries) name =
    subst (λ n. c.insert-2.new.self.entries ≡ insert_entry nat_eq names.entries n name) count c.in_ok-insert-2.ensures.entries in
    let changed : changes.Updates nat_eq names c.insert-2.new.self (length names.entries) (Some name) =
    subst (λ n. changes.Updates nat_eq names c.insert-2.new.self n (Some name)) count c.in_ok-insert-2.ensures.updates in
    let placed : Updates key_cmp c.self.inside.places c.insert.new.self (name_key name) (Some (length names.entries)) =
    subst (λ n. Updates key_cmp c.self.inside.places c.insert.new.self (name_key name) (Some n)) count
    (subst (λ k. Updates key_cmp c.self.inside.places c.insert.new.self k (Some c.len-place.result)) c.name_key-key.ensures.key
    c.in_ok-insert.ensures.updates) in
    pushed names c.insert-2.new.self c.self.inside.places c.insert.new.self name kept c.name_key-key.ensures.name fresh room made changed placed

pub returns-clause-pushed : goal.returns-clause-pushed
returns-clause-pushed c =
    let names = c.reserve.new.self in
    let name = c.args.name in
    let kept : IsKept names c.self.inside.places =
    same_entries c.self.inside.names names c.self.inside.places c.in_ok-reserve.ensures.entries c.self.invariant in
    let vs : values names ≡ c.args.self.now = ap (map (λ (e : ℕ × List ℕ). e.1)) c.in_ok-reserve.ensures.entries ∙ c.self.view_is in
    let count : c.len-place.result ≡ length names.entries = c.len-place.ensures.len ∙ ap length (sym c.in_ok-reserve.ensures.entries) in
    let made : c.insert-2.new.self.entries ≡ insert_entry nat_eq names.entries (length names.entries) name =
    subst (λ n. c.insert-2.new.self.entries ≡ insert_entry nat_eq names.entries n name) count c.in_ok-insert-2.ensures.entries in
    values_pushed names c.insert-2.new.self name kept.0 made ∙ ap (λ ns. ns ++ name ∷ []) vs
