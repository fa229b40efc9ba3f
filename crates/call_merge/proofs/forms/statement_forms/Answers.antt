use Rattle.std.proofs.Common.{ap, ◌∙◌}
use Rattle.chp_syntax.specs.View.{statement_of}
use Rattle.call_merge.specs.CallForms.{capped_forms, statement_forms}
use Rattle.call_merge.specs.Inlining.{inlined_statement}
use Rattle.call_merge.proofs.Whole.{inlined_none}
use Rattle.call_merge.proofs.forms.statement_forms.Goals as goal

pub returns : goal.returns
returns c = c.inlined_forms.ensures ∙ (ap (λ procs. capped_forms (statement_forms (inlined_statement procs (statement_of c.args.s.now)))) c.new.ensures
    ∙ ap (λ z. capped_forms (statement_forms z)) (inlined_none (statement_of c.args.s.now)))
