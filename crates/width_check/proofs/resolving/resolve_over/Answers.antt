use Rattle.std.proofs.Common.{List, sym, ◌∙◌, subst}
use Rattle.chp_syntax.specs.declared.tree.Decl.{Decl}
use Rattle.chp_syntax.specs.View.{program_tree}
use Rattle.width_check.specs.Sound.{AreRanged, IsSound}
use Rattle.width_check.specs.Walk.{met_of}
use Rattle.width_check.proofs.Resolved.{typed_parts}
use Rattle.width_check.proofs.TypedForm.{program_ranged, program_sound, program_typed}
use Rattle.width_check.proofs.resolving.resolve_over.Goals as goal

pub channels_of-requires : goal.channels_of-requires
channels_of-requires c = subst (λ (ds : List Decl). AreRanged ds) (sym c.as_slice-decls.ensures.value)
    (program_ranged (program_tree c.args.program.now) c.in_ok-refuse_widths.ensures.accepted)

pub vars_of-requires : goal.vars_of-requires
vars_of-requires c = subst (λ (ds : List Decl). AreRanged ds) (sym c.as_slice-decls.ensures.value)
    (program_ranged (program_tree c.args.program.now) c.in_ok-refuse_widths.ensures.accepted)

pub make_statement-requires-clause-ranged : goal.make_statement-requires-clause-ranged
make_statement-requires-clause-ranged c = subst (λ (ds : List Decl). AreRanged ds) (sym c.requires.scope)
    (program_ranged (program_tree c.args.program.now) c.in_ok-refuse_widths.ensures.accepted)

pub make_statement-requires-clause-sound : goal.make_statement-requires-clause-sound
make_statement-requires-clause-sound c = subst (λ (ds : List Decl). IsSound ds (met_of ds (program_tree c.args.program.now).body)) (sym c.requires.scope)
    (program_sound (program_tree c.args.program.now) c.in_ok-refuse_widths.ensures.accepted)

pub made-requires : goal.made-requires
made-requires c =
    typed_parts (program_tree c.args.program.now) c.as_slice-decls.result.now c.args.scope.now.decls.now _ _ _ c.as_slice-decls.ensures.value
    (c.requires.scope ∙ sym c.as_slice-decls.ensures.value) c.in_ok-channels.ensures c.in_ok-vars.ensures c.in_ok-body.ensures
    (program_typed (program_tree c.args.program.now) c.requires.shaped c.in_ok-refuse_widths.ensures.accepted)

pub returns-clause-accepted : goal.returns-clause-accepted
returns-clause-accepted c = c.in_ok-refuse_widths.ensures.accepted
