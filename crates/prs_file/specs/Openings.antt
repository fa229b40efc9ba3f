-- How each rule file begins, and what a refusal says.
use Rattle.std.specs.Prelude.{ℕ, false, List, [], ◌∷◌, ◌++◌, codes}
use Rattle.std.specs.List.{flat_map}
use Rattle.prs_file.specs.declared.fault.NetFault.{NetFault}
use Rattle.prs_file.specs.declared.fault.NetReadError.{NetReadError}
use Rattle.prs_file.specs.declared.fault.NetReadError.TheVariants.{Refused, NoMemory}
use Rattle.prs_file.specs.Reading.{Form, form_spelling}
use Rattle.prs_file.specs.Reading.Form.{head, node}

-- the first three lines
abbrev pub opening : ℕ → List Form
opening version = head version ∷ node (codes "go") false ∷ node (codes "done") false ∷ []

-- the text of these lines, and what follows them
abbrev pub text_behind : List Form → List ℕ → List ℕ
text_behind before rest = flat_map form_spelling before ++ rest

-- a fact of the cause and the line for which a file is refused; out of memory is no refusal
abbrev pub OfRefusal : (NetFault → ℕ → Type 0) → NetReadError → Type 0
OfRefusal P (Refused fault line) = P fault line
OfRefusal P (NoMemory e) = Unit {0}
