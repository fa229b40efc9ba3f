use Rattle.std.proofs.Common.{rules, ◌≡◌, sym, subst}
use Rattle.chp_base.specs.declared.fault.FaultCode.TheVariants as code
use Rattle.chp_syntax.specs.View.{program_tree}
use denote.Enum.Bare.{same_true}
use Rattle.chp_base.specs.contracts.fault.FaultCode.{the_type}
use Rattle.call_merge.specs.declared.error.CallError.{CallError}
use Rattle.call_merge.specs.CallEnds.{IfRefusedCall}
use Rattle.call_merge.proofs.CallEndings.{IsFirstOf, double_first, other_first, nested_first, unknown_first}
use Rattle.call_merge.proofs.causes.refuse_names.Goals as goal

pub returns-then-fault-eq6-clause-refused : goal.returns-then-fault-eq6-clause-refused
returns-then-fault-eq6-clause-refused c =
    let double : c.args.fault.code ≡ code.DoubleName = same_true the_type (search rules) _ _ c.if-fault-eq6.true in
    subst (λ (e : CallError). IfRefusedCall (IsFirstOf (program_tree c.args.program.now)) e) (sym c.refusal.ensures)
    (double_first (program_tree c.args.program.now) c.args.fault c.requires double)

pub returns-in_err-refuse_nested-clause-refused : goal.returns-in_err-refuse_nested-clause-refused
returns-in_err-refuse_nested-clause-refused c =
    let other : ¬ (c.args.fault.code ≡ code.DoubleName) = (λ e. let h = rw e at c.if-fault-eq6.false in absurd (cc h)) in
    let alone = other_first (program_tree c.args.program.now) c.args.fault c.requires other in
    let refused : IfRefusedCall (IsFirstOf (program_tree c.args.program.now)) c.in_err-refuse_nested.field-0.0 =
    nested_first (program_tree c.args.program.now) c.in_err-refuse_nested.field-0.0 alone.0 c.in_err-refuse_nested.ensures.first in
    search rules

pub returns-clause-refused : goal.returns-clause-refused
returns-clause-refused c =
    let other : ¬ (c.args.fault.code ≡ code.DoubleName) = (λ e. let h = rw e at c.if-fault-eq6.false in absurd (cc h)) in
    subst (λ (e : CallError). IfRefusedCall (IsFirstOf (program_tree c.args.program.now)) e) (sym c.refusal-2.ensures)
    (unknown_first (program_tree c.args.program.now) c.args.fault (other_first (program_tree c.args.program.now) c.args.fault c.requires other)
    c.in_ok-refuse_nested.ensures.none)
