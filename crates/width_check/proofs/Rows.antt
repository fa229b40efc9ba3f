-- The parts and the operations of an expression, as lists.
use Rattle.std.proofs.Common.{◌≡◌, ℕ, ◌+◌, ◌<◌, ◌≤◌, List, [], ◌∷◌, length, get_or, drop, refl, sym, ap, ◌∙◌}
use Rattle.std.proofs.lemmas.List.{drop_more, drop_all}
use Rattle.std.specs.declared.alloc.Global.{Global}
use Rattle.std.specs.declared.boxed.Box.{Box}
use Rattle.std.specs.declared.vec.Vec.{Vec}
use Rattle.width_check.specs.declared.typed.TExpr.{TExpr, Join, Chain, Row_of-TExpr, end_of-TExpr, more_of-TExpr, Row_of-TLink, end_of-TLink, more_of-TLink, items-the_row-TExpr, items-the_row-TLink, items_hidden-the_row-TExpr-0, items_hidden-the_row-TLink-1}
use Rattle.width_check.specs.declared.typed.TExpr.TheBlock.{hidden-the_row-TExpr-0, hidden-the_row-TLink-1}
use Rattle.width_check.specs.declared.typed.TLink.{TLink}
use Rattle.width_check.specs.Processes.{joined, chained, Formulas, no_parts, and_part, Operations, no_operations, and_operation}
use Rattle.width_check.specs.View.{formula_of, formulas_of, operations_of}

abbrev pub parts_of : List TExpr → Formulas
parts_of [] = no_parts
parts_of (e ∷ es) = and_part (formula_of e) (parts_of es)

abbrev pub links_of : List TLink → Operations
links_of [] = no_operations
links_of (l ∷ ls) = and_operation l.op (formula_of l.right) (links_of ls)

parts_row : {m : _} (row : Row_of-TExpr m) → formulas_of row ≡ parts_of (items-the_row-TExpr m row)
parts_row end_of-TExpr = refl
parts_row (more_of-TExpr e rest) = ap (and_part (formula_of e)) (parts_row rest)

links_row : {m : _} (row : Row_of-TLink m) → operations_of row ≡ links_of (items-the_row-TLink m row)
links_row end_of-TLink = refl
links_row (more_of-TLink op right rest) = ap (and_operation op (formula_of right)) (links_row rest)

pub join_is : (v : Vec TExpr Global) → formula_of (Join v) ≡ joined (parts_of v.items)
join_is v = ap joined (parts_row (hidden-the_row-TExpr-0 v) ∙ ap parts_of (items_hidden-the_row-TExpr-0 v))

pub chain_is : (first : Box TExpr Global) (v : Vec TLink Global) → formula_of (Chain first v) ≡ chained (formula_of first.value) (links_of v.items)
chain_is first v = ap (chained (formula_of first.value)) (links_row (hidden-the_row-TLink-1 v) ∙ ap links_of (items_hidden-the_row-TLink-1 v))

-- the parts from a place on are the one there and those behind it
pub part_at : (es : List TExpr) (i : ℕ) (e : TExpr) → i < length es → e ≡ get_or es i e →
    parts_of (drop i es) ≡ and_part (formula_of e) (parts_of (drop (i + 1) es))
part_at es i e within is = ap parts_of (drop_more es i e within) ∙ ap (λ x. and_part (formula_of x) (parts_of (drop (i + 1) es))) (sym is)

pub no_more_parts : (es : List TExpr) (i : ℕ) → length es ≤ i → parts_of (drop i es) ≡ no_parts
no_more_parts es i all = ap parts_of (drop_all i es all)

pub joined_parts : (e : TExpr) (v : Vec TExpr Global) → e ≡ Join v → formula_of e ≡ joined (parts_of v.items)
joined_parts e v is = ap formula_of is ∙ join_is v

-- the operations from a place on
pub link_at : (ls : List TLink) (i : ℕ) (l : TLink) → i < length ls → l ≡ get_or ls i l →
    links_of (drop i ls) ≡ and_operation l.op (formula_of l.right) (links_of (drop (i + 1) ls))
link_at ls i l within is = ap links_of (drop_more ls i l within) ∙ ap (λ (x : TLink). and_operation x.op (formula_of x.right) (links_of (drop (i + 1) ls)))
    (sym is)

pub no_more_links : (ls : List TLink) (i : ℕ) → length ls ≤ i → links_of (drop i ls) ≡ no_operations
no_more_links ls i all = ap links_of (drop_all i ls all)

pub chained_links : (e : TExpr) (first : Box TExpr Global) (v : Vec TLink Global) → e ≡ Chain first v →
    formula_of e ≡ chained (formula_of first.value) (links_of v.items)
chained_links e first v is = ap formula_of is ∙ chain_is first v
