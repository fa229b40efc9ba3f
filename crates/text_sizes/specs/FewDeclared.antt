-- How many declarations a text has.
use Rattle.std.specs.Prelude.{ℕ, ◌+◌, ◌*◌, ◌≤◌, List, length}
use Rattle.chp_syntax.specs.Trees.{ProgramTree}
use Rattle.chp_syntax.specs.Reading.{Reads}

-- five bytes or more for each channel, variable and procedure
abbrev pub FewDeclared : Type 0
FewDeclared = (text : List ℕ) (p : ProgramTree) → Reads text p → 5 * (length p.decls + length p.procs) ≤ length text
