use Rattle.std.proofs.Common.{◌≡◌, List, [], ◌∷◌, ◌++◌, map, ap, ◌∙◌, subst}
use Rattle.chp_syntax.specs.declared.tree.Decl.{Decl}
use Rattle.chp_syntax.specs.declared.tree.DeclKind.TheVariants as declares
use Rattle.chp_syntax.specs.declared.tree.Stmt.{Beside}
use Rattle.chp_syntax.specs.View.{program_tree, procedure_of, statement_of}
use Rattle.width_check.specs.Places.{declared_width}
use Rattle.slack_buffer.specs.BufferedTrees.{IsFreeNumber, made_decl, buffered_tree, HasBuffer}
use Rattle.slack_buffer.proofs.Making.{AreParts, are_parts, parts_made, tree_of_parts}
use Rattle.slack_buffer.proofs.Whole.{right_buffer, is_shaped}
use Rattle.slack_buffer.proofs.buffer.with_buffer.Goals as goal
use Rattle.slack_buffer.proofs.buffer.with_buffer.Goals.{After-drop-names-3}

parts : (c : After-drop-names-3) → AreParts (program_tree c.args.program.now) c.args.chan.now c.in_ok-_number._number c.in_ok-decls.decls.items
    c.in_ok-parts.parts
parts c = are_parts (program_tree c.args.program.now) c.args.chan.now c.in_ok-_number._number c.in_ok-decls.decls.items c.in_ok-_number.names.copy
    c.in_ok-_number.names.slot c.in_ok-parts.parts c.in_ok-_number.ensures.copy c.in_ok-_number.ensures.slot
    (c.in_ok-decls.ensures ∙ ap (λ (ds : List Decl). ds ++ made_decl declares.Chan c.in_ok-_number.names.copy (declared_width ds c.args.chan.now)
    ∷ made_decl declares.Var c.in_ok-_number.names.slot (declared_width ds c.args.chan.now) ∷ []) c.deref-2.ensures.value) c.in_ok-parts.ensures

tree_is : (c : After-drop-names-3) →
    tree_of_parts c.in_ok-decls.decls.items (map procedure_of c.new.result.items) (statement_of (Beside c.in_ok-parts.parts))
    ≡ buffered_tree (program_tree c.args.program.now) c.args.chan.now c.in_ok-_number._number
tree_is c = parts_made (program_tree c.args.program.now) c.args.chan.now c.in_ok-_number._number c.in_ok-decls.decls.items c.new.result.items
    c.in_ok-parts.parts (parts c) c.requires.accepted.call_free.procs c.new.ensures.items

free_is : (c : After-drop-names-3) → IsFreeNumber c.args.program.now.decls.items c.in_ok-_number._number
free_is c = subst (λ (ds : List Decl). IsFreeNumber ds c.in_ok-_number._number) c.deref.ensures.value c.in_ok-_number.ensures.free

pub returns-clause-buffer : goal.returns-clause-buffer
returns-clause-buffer c = record { number = c.in_ok-_number._number; free = free_is c; tree = tree_is c }

pub returns-clause-typed : goal.returns-clause-typed
returns-clause-typed c = λ has. (right_buffer (program_tree c.args.program.now) _ c.args.chan.now has c.requires.shaped c.requires.accepted
    c.requires.inner).typed

pub returns-clause-keeps : goal.returns-clause-keeps
returns-clause-keeps c = λ has. (right_buffer (program_tree c.args.program.now) _ c.args.chan.now has c.requires.shaped c.requires.accepted
    c.requires.inner).keeps

pub returns-clause-shaped : goal.returns-clause-shaped
returns-clause-shaped c = is_shaped (program_tree c.args.program.now) _ c.args.chan.now c.in_ok-_number._number c.in_ok-_number.ensures.small
    c.requires.shaped (tree_is c)

pub returns-clause-accepted : goal.returns-clause-accepted
returns-clause-accepted c =
    let has : HasBuffer (program_tree c.args.program.now) c.args.chan.now _ =
    record { number = c.in_ok-_number._number; free = free_is c; tree = tree_is c } in
    (right_buffer (program_tree c.args.program.now) _ c.args.chan.now has c.requires.shaped c.requires.accepted c.requires.inner).accepted
