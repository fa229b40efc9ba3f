use Rattle.std.proofs.Common.{[], None, rules, sym, ap, ◌∙◌}
use Rattle.chp_syntax.specs.Tokens.{IfRefused}
use Rattle.chp_syntax.specs.View.{program_tree}
use Rattle.width_check.specs.Faults.{naming_faults, IsFirstFault}
use Rattle.width_check.specs.Walk.{first_double}
use Rattle.width_check.proofs.Resolved.{double_refused}
use Rattle.width_check.proofs.resolving.resolve.Goals as goal

pub returns-in_err-refuse-clause-place : goal.returns-in_err-refuse-clause-place
returns-in_err-refuse-clause-place c =
    let refused : IfRefused (λ f. IsFirstFault (program_tree c.args.program.now) naming_faults f.code f.at) c.in_err-refuse.field-0.0
    = double_refused (program_tree c.args.program.now) c.as_slice-decls.result.now c.in_ok-naming.naming.double c.in_err-refuse.field-0.0
    c.as_slice-decls.ensures.value c.in_ok-naming.ensures.double c.in_err-refuse.ensures.first in
    search rules

pub resolve_over-requires-clause-distinct : goal.resolve_over-requires-clause-distinct
resolve_over-requires-clause-distinct c =
    ap (first_double [] None) (sym c.as_slice-decls.ensures.value) ∙ sym c.in_ok-naming.ensures.double ∙ c.in_ok-refuse.ensures.none.0
