use Rattle.std.proofs.Common.{List, sym, ap, ◌∙◌, subst}
use Rattle.width_check.specs.declared.typed.TStmt.{TStmt}
use Rattle.width_check.specs.Processes.{Process}
use Rattle.width_check.specs.Typing.{IsProcess, AreProcesses}
use Rattle.width_check.specs.View.{members_in}
use Rattle.handshake_expand.proofs.Rows.{then_is, beside_is}
use Rattle.call_compose.proofs.Noting.{turns_alike, besides_alike}
use Rattle.call_compose.proofs.insides.members.Goals as goal

pub returns-in-Then-clause-turned : goal.returns-in-Then-clause-turned
returns-in-Then-clause-turned c = λ inside is. ap members_in c.deref.ensures.value ∙ turns_alike _ _ (sym (then_is _ _ c.in-Then.is) ∙ is)

pub returns-in-Beside-clause-abreast : goal.returns-in-Beside-clause-abreast
returns-in-Beside-clause-abreast c = λ inside is.
    ap members_in c.deref-in-Beside.ensures.value ∙ besides_alike _ _ (sym (beside_is _ _ c.in-Beside.is) ∙ is)

pub returns-in-Then-clause-typed : goal.returns-in-Then-clause-typed
returns-in-Then-clause-typed c = λ cs vs typed.
    let facts = subst (λ (s : Process). IsProcess cs vs s) (then_is _ _ c.in-Then.is) typed in
    subst (λ (xs : List TStmt). AreProcesses cs vs (members_in xs)) (sym c.deref.ensures.value) facts.1

pub returns-in-Beside-clause-typed : goal.returns-in-Beside-clause-typed
returns-in-Beside-clause-typed c = λ cs vs typed.
    let facts = subst (λ (s : Process). IsProcess cs vs s) (beside_is _ _ c.in-Beside.is) typed in
    subst (λ (xs : List TStmt). AreProcesses cs vs (members_in xs)) (sym c.deref-in-Beside.ensures.value) facts.1
