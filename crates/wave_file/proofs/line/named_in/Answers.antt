use Rattle.std.proofs.Common.{◌++◌, sym, ◌∙◌, ap, subst}
use Rattle.wave_file.specs.Waves.{id_of, naming}
use Rattle.chp_base.specs.Names.{IsNodeName}
use Rattle.wave_file.proofs.Cutting.{free_name}
use Rattle.wave_file.proofs.Namings.{naming_once}
use Rattle.wave_file.proofs.line.named_in.Goals as goal

pub returns-in_default-clause-none : goal.returns-in_default-clause-none
returns-in_default-clause-none c =
    let id = c.deref.ensures.value ∙ c.in_ok-id_text.ensures ∙ ap (λ t. t ++ id_of c.args.node) c.new-id.ensures.items in
    λ name rest is whole. c.in_default.ensures.none name rest (free_name name is) (whole ∙ ap (λ i. naming i name ++ rest) (sym id))

pub returns-clause-none : goal.returns-clause-none
returns-clause-none c =
    let id = c.deref.ensures.value ∙ c.in_ok-id_text.ensures ∙ ap (λ t. t ++ id_of c.args.node) c.new-id.ensures.items in
    λ name rest is whole.
    let same = naming_once (id_of c.args.node) name c.in-Some.name.now rest c.in-Some.rest.now (free_name name is) c.in-Some.ensures.free
    (sym whole ∙ c.in-Some.ensures.some ∙ ap (λ i. naming i c.in-Some.name.now ++ c.in-Some.rest.now) id) in
    (rw c.in-None.is at c.in_ok-name.ensures.none) (subst IsNodeName same.0 is)
