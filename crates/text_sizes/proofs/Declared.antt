-- Five tokens or more for each declaration, and a byte or more for each token.
use Rattle.std.proofs.Common.{◌≡◌, ℕ, ◌+◌, ◌*◌, ◌≤◌, List, [], ◌∷◌, length, arith}
use Rattle.chp_syntax.specs.declared.token.Token.{Token}
use Rattle.chp_syntax.specs.Trees.{ProgramTree}
use Rattle.chp_syntax.specs.Tokens.{InOrder}
use Rattle.chp_syntax.specs.Grammar.{Declared, Item, valued, defined, and_item, Declaration, a_channel, a_variable, a_variable_with_first, a_procedure, Declarations, no_declaration, one_more_declaration, Derives, the_program}
use Rattle.chp_syntax.proofs.Cutting.{in_order}
use Rattle.text_sizes.specs.FewDeclared.{FewDeclared}
use Rattle.text_sizes.proofs.Shorter.{atom}

abbrev declared_count : Declared → ℕ
declared_count d = length d.decls + length d.procs

one_item : (i : Item) (more : Declared) → declared_count (and_item i more) ≡ 1 + declared_count more
one_item (valued d) more = omega arith
one_item (defined q) more = omega arith

declaration : {ts rest : List Token} {d : Item} → Declaration ts rest d → 5 + length rest ≤ length ts
declaration (a_channel e) = omega arith
declaration a_variable = omega arith
declaration a_variable_with_first = omega arith
declaration (a_procedure a) = omega (arith, atom a)

declarations : {ts rest : List Token} {d : Declared} → Declarations ts rest d → 5 * declared_count d + length rest ≤ length ts
declarations no_declaration = omega arith
declarations (one_more_declaration {d = i} {more = more} h hs) = omega (arith, declaration h, declarations hs, one_item i more)

program : (ts : List Token) (p : ProgramTree) → Derives ts p → 5 * (length p.decls + length p.procs) ≤ length ts
program ts p (the_program ds s) = omega (arith, declarations ds)

bytes : (from : ℕ) (ts : List Token) (to : ℕ) → InOrder from ts to → from + length ts ≤ to
bytes from [] to h = omega (arith, h)
bytes from (t ∷ ts) to h = omega (arith, h.0, h.1, bytes t.at.to ts to h.2)

pub few_declared : FewDeclared
few_declared text p r = omega (arith, program r.tokens p r.derives, bytes 0 r.tokens (length text) (in_order r.cut))
