-- How many nodes the net with shared bodies has.
use Rattle.std.specs.Prelude.{◌≡◌, ◌+◌, List, ◌++◌}
use Rattle.chp_syntax.specs.declared.tree.Decl.{Decl}
use Rattle.chp_syntax.specs.Trees.{ProgramTree}
use Rattle.width_check.specs.Form.{process_form}
use Rattle.handshake_expand.specs.Layout.{root_request, size_of}
use Rattle.call_map.specs.CallNet.{inlined_program, procs_size, call_count}
use Rattle.call_compose.specs.CalledForm.{call_program}

-- those of channels and variables, for each procedure its body's and one more, and those of the body in which each call
-- is skipped
abbrev pub CallsCounted : Type 0
CallsCounted = (p : ProgramTree) (vars : List Decl) → call_count (call_program p vars)
    ≡ root_request (inlined_program (call_program p vars))
    + procs_size (inlined_program (call_program p vars)) (call_program p vars).procs + 2
    + size_of (inlined_program (call_program p vars)) (process_form (p.decls ++ vars) p.body)
