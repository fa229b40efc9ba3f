use Rattle.std.proofs.Common.{◌≡◌, ◌∙◌, ap, subst, sym}
use Rattle.std.specs.BTreeMap.{get}
use Rattle.chp_base.specs.NameKeys.{key_cmp, place_at, IsPlaceIn}
use Rattle.chp_base.proofs.NameKeyLemmas.{some_place, no_place}
use Rattle.chp_base.proofs.symbols.Symbols.find.Goals as goal
use Rattle.chp_base.proofs.symbols.Symbols.find.Goals.{After-copied}

told : (c : After-copied) → IsPlaceIn c.args.self.now c.args.name.now c.copied.result
told c =
    let at : c.copied.result ≡ place_at c.self.inside.places c.args.name.now =
    c.copied.ensures ∙ (c.get.ensures.value ∙ ap (get key_cmp c.self.inside.places) c.name_key.ensures.key) in
    subst (λ names. IsPlaceIn names c.args.name.now c.copied.result) c.self.view_is
    (subst (IsPlaceIn _ c.args.name.now) (sym at) (c.self.invariant.1 c.args.name.now c.name_key.ensures.name))

pub returns-clause-some : goal.returns-clause-some
returns-clause-some c = some_place c.args.self.now c.args.name.now c.copied.result (told c)

pub returns-clause-none : goal.returns-clause-none
returns-clause-none c = no_place c.args.self.now c.args.name.now c.copied.result (told c)
