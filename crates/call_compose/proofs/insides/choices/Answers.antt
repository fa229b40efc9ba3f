use Rattle.std.proofs.Common.{List, sym, ap, ◌∙◌, subst}
use Rattle.width_check.specs.declared.typed.TArm.{TArm}
use Rattle.width_check.specs.Processes.{Process}
use Rattle.width_check.specs.Typing.{IsProcess, AreChoices}
use Rattle.width_check.specs.View.{choices_in}
use Rattle.handshake_expand.proofs.Rows.{select_is}
use Rattle.call_compose.proofs.Noting.{choices_alike}
use Rattle.call_compose.proofs.insides.choices.Goals as goal

pub returns-in-Select-clause-chosen : goal.returns-in-Select-clause-chosen
returns-in-Select-clause-chosen c = λ again inside is.
    ap choices_in c.deref.ensures.value ∙ choices_alike _ _ _ _ (sym (select_is _ _ _ c.in-Select.is) ∙ is)

pub returns-in-Select-clause-typed : goal.returns-in-Select-clause-typed
returns-in-Select-clause-typed c = λ cs vs typed.
    let facts = subst (λ (s : Process). IsProcess cs vs s) (select_is _ _ _ c.in-Select.is) typed in
    subst (λ (xs : List TArm). AreChoices cs vs (choices_in xs)) (sym c.deref.ensures.value) facts.2
