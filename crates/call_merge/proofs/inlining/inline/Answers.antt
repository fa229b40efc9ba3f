use Rattle.std.proofs.Common.{rules, ◌≡◌, ◌≤◌, List, map, sym, ap, ◌∙◌}
use Rattle.chp_syntax.specs.declared.tree.Proc.{Proc}
use Rattle.chp_syntax.specs.Trees.{ProgramTree}
use Rattle.chp_syntax.specs.View.{program_tree, procedure_of, statement_of}
use Rattle.call_merge.specs.Bodies.{procedures_in}
use Rattle.call_merge.specs.CallEnds.{IfTooManyForms}
use Rattle.call_merge.specs.CallFaults.{MeetsCalling}
use Rattle.call_merge.specs.CallForms.{capped_forms, statement_forms, most_forms}
use Rattle.call_merge.specs.Inlining.{inlined_with, HasTooManyForms, IsInlined}
use Rattle.call_merge.proofs.CallEndings.{no_count}
use Rattle.call_merge.proofs.Whole.{whole_tree, too_many, few_forms, same_program}
use Rattle.call_merge.proofs.Shapes.{program_shaped}
use Rattle.call_merge.proofs.CallsGone.{program_call_free}
use Rattle.call_merge.proofs.OwnCounts.{few_decls}
use Rattle.call_merge.proofs.inlining.inline.Goals as goal
use Rattle.call_merge.proofs.inlining.inline.Goals.{In_ok-made}

pub returns-in_err-refuse_calls-clause-too_many : goal.returns-in_err-refuse_calls-clause-too_many
returns-in_err-refuse_calls-clause-too_many c =
    let none : IfTooManyForms (HasTooManyForms (program_tree c.args.program.now)) c.in_err-refuse_calls.field-0.0 =
    no_count _ c.in_err-refuse_calls.field-0.0 c.in_err-refuse_calls.ensures.fault in
    search rules

pub returns-in_err-refuse_calls-clause-counted : goal.returns-in_err-refuse_calls-clause-counted
returns-in_err-refuse_calls-clause-counted c =
    let none : IfTooManyForms (λ _. MeetsCalling (program_tree c.args.program.now)) c.in_err-refuse_calls.field-0.0 =
    no_count _ c.in_err-refuse_calls.field-0.0 c.in_err-refuse_calls.ensures.fault in
    search rules

pub returns-in_err-refuse_forms-clause-too_many : goal.returns-in_err-refuse_forms-clause-too_many
returns-in_err-refuse_forms-clause-too_many c =
    let many = too_many (program_tree c.args.program.now) c.in_ok-split.split.vars.items (procedures_in c.in_ok-split.split.procs) c.inlined_forms.result
    c.in_ok-split.ensures.own c.in_ok-split.ensures.bodies c.inlined_forms.ensures c.in_err-refuse_forms.ensures.too_many.1 in
    search rules

-- what is made

abbrev made_tree : In_ok-made → ProgramTree
made_tree c = program_tree c.in_ok-made.made

is_whole : (c : In_ok-made) → made_tree c ≡ inlined_with (program_tree c.args.program.now) c.in_ok-split.split.vars.items
is_whole c =
    whole_tree (program_tree c.args.program.now) c.in_ok-split.split.vars.items c.in_ok-made.made.decls.items (map procedure_of c.in_ok-made.made.procs.items)
    (statement_of c.in_ok-made.made.body) (procedures_in c.in_ok-split.split.procs) c.in_ok-split.ensures.bodies
    c.in_ok-made.ensures.decls (ap (λ (qs : List Proc). map procedure_of qs) c.in_ok-made.ensures.procs) c.in_ok-made.ensures.body

is_made : (c : In_ok-made) → IsInlined (program_tree c.args.program.now) (made_tree c)
is_made c = record { vars = c.in_ok-split.split.vars.items; own = c.in_ok-split.ensures.own; tree = is_whole c }

is_small : (c : In_ok-made) → statement_forms (statement_of c.in_ok-made.made.body) ≤ most_forms
is_small c = few_forms c.inlined_forms.result (statement_forms (statement_of c.in_ok-made.made.body))
    (c.inlined_forms.ensures ∙ ap (λ s. capped_forms (statement_forms s)) (sym c.in_ok-made.ensures.body)) c.in_ok-refuse_forms.ensures.few

pub returns-clause-inlined : goal.returns-clause-inlined
returns-clause-inlined c = is_made c

pub returns-clause-meets : goal.returns-clause-meets
returns-clause-meets c = c.in_ok-refuse_calls.ensures.meets

pub returns-clause-few : goal.returns-clause-few
returns-clause-few c = is_small c

pub returns-clause-shaped : goal.returns-clause-shaped
returns-clause-shaped c = program_shaped (program_tree c.args.program.now) (made_tree c) c.in_ok-split.split.vars.items c.in_ok-split.ensures.own (is_whole c)
    c.requires.shaped c.in_ok-split.ensures.names

pub returns-clause-call_free : goal.returns-clause-call_free
returns-clause-call_free c = program_call_free (program_tree c.args.program.now) (made_tree c) (is_made c) c.in_ok-refuse_calls.ensures.meets

pub returns-clause-decls : goal.returns-clause-decls
returns-clause-decls c = few_decls (program_tree c.args.program.now) (made_tree c) (is_made c) c.in_ok-refuse_calls.ensures.meets (is_small c)

pub returns-clause-same : goal.returns-clause-same
returns-clause-same c free = same_program (program_tree c.args.program.now) (made_tree c) (is_made c) free
