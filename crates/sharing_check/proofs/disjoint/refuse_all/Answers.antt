use Rattle.std.proofs.Common.{[], ◌∷◌, rules}
use Rattle.std.proofs.lemmas.Result.{IfErr-weaker, on_ok_weaker}
use Rattle.chp_base.specs.declared.fault.FaultCode.TheVariants as code
use Rattle.chp_syntax.specs.Tokens.{IfRefused}
use Rattle.width_check.specs.Sharing.{MeetsSharing, IsFirstSharedFault, sharing_faults}
use Rattle.width_check.specs.View.{process_of}
use Rattle.sharing_check.proofs.Refusals.{refused_first, ends_first, refused_later, not_met}
use Rattle.sharing_check.proofs.disjoint.refuse_all.Goals as goal

pub returns-in_err-refuse_shared-clause-place : goal.returns-in_err-refuse_shared-clause-place
returns-in_err-refuse_shared-clause-place c =
    let refused : IfRefused (λ f. IsFirstSharedFault (process_of c.args.body.now) sharing_faults f.code f.at f.other) c.in_err-refuse_shared.field-0.0 =
    refused_first (process_of c.args.body.now) code.SharedVariable (code.SharedSend ∷ code.SharedReceive ∷ []) c.in_err-refuse_shared.field-0.0
    c.in_err-refuse_shared.ensures.cause c.in_err-refuse_shared.ensures.place in
    search rules

pub returns-in_err-refuse_shared-clause-refused : goal.returns-in_err-refuse_shared-clause-refused
returns-in_err-refuse_shared-clause-refused c =
    let refused : IfRefused (λ f. ¬ MeetsSharing (process_of c.args.body.now)) c.in_err-refuse_shared.field-0.0 =
    not_met (process_of c.args.body.now) code.SharedVariable c.in_err-refuse_shared.field-0.0 (λ meets. meets.variables)
    c.in_err-refuse_shared.ensures.place in
    search rules

pub returns-in_err-refuse_shared-2-clause-place : goal.returns-in_err-refuse_shared-2-clause-place
returns-in_err-refuse_shared-2-clause-place c =
    let refused : IfRefused (λ f. IsFirstSharedFault (process_of c.args.body.now) sharing_faults f.code f.at f.other) c.in_err-refuse_shared-2.field-0.0 =
    refused_later (process_of c.args.body.now) code.SharedVariable (code.SharedSend ∷ code.SharedReceive ∷ []) c.in_err-refuse_shared-2.field-0.0
    c.in_ok-refuse_shared.ensures.unshared (refused_first (process_of c.args.body.now) code.SharedSend (code.SharedReceive ∷ [])
    c.in_err-refuse_shared-2.field-0.0 c.in_err-refuse_shared-2.ensures.cause c.in_err-refuse_shared-2.ensures.place) in
    search rules

pub returns-in_err-refuse_shared-2-clause-refused : goal.returns-in_err-refuse_shared-2-clause-refused
returns-in_err-refuse_shared-2-clause-refused c =
    let refused : IfRefused (λ f. ¬ MeetsSharing (process_of c.args.body.now)) c.in_err-refuse_shared-2.field-0.0 =
    not_met (process_of c.args.body.now) code.SharedSend c.in_err-refuse_shared-2.field-0.0 (λ meets. meets.sends)
    c.in_err-refuse_shared-2.ensures.place in
    search rules

pub returns-clause-place : goal.returns-clause-place
returns-clause-place c =
    let body = process_of c.args.body.now in
    IfErr-weaker c.refuse_shared-3.result _ _ (λ e fault. refused_later body code.SharedVariable (code.SharedSend ∷ code.SharedReceive ∷ []) e
    c.in_ok-refuse_shared.ensures.unshared (refused_later body code.SharedSend (code.SharedReceive ∷ []) e c.in_ok-refuse_shared-2.ensures.unshared fault))
    (ends_first body code.SharedReceive [] c.refuse_shared-3.result c.refuse_shared-3.ensures.cause c.refuse_shared-3.ensures.place)

pub returns-clause-refused : goal.returns-clause-refused
returns-clause-refused c = IfErr-weaker c.refuse_shared-3.result _ _
    (λ e place. not_met (process_of c.args.body.now) code.SharedReceive e (λ meets. meets.receives) place) c.refuse_shared-3.ensures.place

pub returns-clause-meets : goal.returns-clause-meets
returns-clause-meets c = on_ok_weaker c.refuse_shared-3.result
    (λ unshared. record { variables = c.in_ok-refuse_shared.ensures.unshared; sends = c.in_ok-refuse_shared-2.ensures.unshared; receives = unshared })
    c.refuse_shared-3.ensures.unshared
