use Rattle.std.proofs.Common.{rules}
use Rattle.std.proofs.lemmas.Result.{IfErr-weaker}
use Rattle.chp_syntax.specs.View.{program_tree}
use Rattle.call_merge.specs.CallEnds.{IfRefusedCall}
use Rattle.call_merge.proofs.CallEndings.{IsFirstOf, nested_first, unused_first}
use Rattle.call_merge.proofs.causes.refuse_uncalled.Goals as goal

pub returns-in_err-refuse_nested-clause-refused : goal.returns-in_err-refuse_nested-clause-refused
returns-in_err-refuse_nested-clause-refused c =
    let refused : IfRefusedCall (IsFirstOf (program_tree c.args.program.now)) c.in_err-refuse_nested.field-0.0 =
    nested_first (program_tree c.args.program.now) c.in_err-refuse_nested.field-0.0 c.requires.0 c.in_err-refuse_nested.ensures.first in
    search rules

pub returns-clause-refused : goal.returns-clause-refused
returns-clause-refused c = IfErr-weaker _ _ _ (λ e first. unused_first (program_tree c.args.program.now) e c.requires c.in_ok-refuse_nested.ensures.none first)
    c.refuse_unused.ensures.first
