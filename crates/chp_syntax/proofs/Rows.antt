-- Lists of members, as rows and as lists.
use Rattle.std.proofs.Common.{◌≡◌, refl, ap, ◌∙◌, map, Bool}
use Rattle.std.specs.declared.alloc.Global.{Global}
use Rattle.std.specs.declared.boxed.Box.{Box}
use Rattle.std.specs.declared.vec.Vec.{Vec}
use Rattle.chp_base.specs.declared.span.Span.{Span}
use Rattle.chp_syntax.specs.declared.tree.Expr.{Expr, Chain, Join, Row_of-Link, end_of-Link, more_of-Link, items-the_row-Link, items_hidden-the_row-Link-1, Row_of-Expr, end_of-Expr, more_of-Expr, items-the_row-Expr, items_hidden-the_row-Expr-0}
use Rattle.chp_syntax.specs.declared.tree.Expr.TheBlock.{hidden-the_row-Link-1, hidden-the_row-Expr-0}
use Rattle.chp_syntax.specs.declared.tree.Link.{Link}
use Rattle.chp_syntax.specs.declared.tree.Arm.{Arm}
use Rattle.chp_syntax.specs.declared.tree.Stmt.{Stmt, Then, Beside, Select, Row_of-Stmt, end_of-Stmt, more_of-Stmt, Row_of-Arm, end_of-Arm, more_of-Arm, items-the_row-Stmt, items-the_row-Arm, items_hidden-the_row-Stmt-0, items_hidden-the_row-Arm-1}
use Rattle.chp_syntax.specs.declared.tree.Stmt.TheBlock.{hidden-the_row-Stmt-0, hidden-the_row-Arm-1}
use Rattle.chp_syntax.specs.Trees.{join, chain, no_parts, and_part, no_links, and_link, follows, besides, selects, no_members, and_member, no_arms, and_arm}
use Rattle.chp_syntax.specs.View.{expression_of, expressions_of, links_of, statement_of, statements_of, arms_of, link_of, and_pair, guarded_of, and_guarded, onto}

exprs_row : {m : _} (row : Row_of-Expr m) → expressions_of row ≡ onto and_part (map expression_of (items-the_row-Expr m row)) no_parts
exprs_row end_of-Expr = refl
exprs_row (more_of-Expr e rest) = ap (λ us. and_part (expression_of e) us) (exprs_row rest)

links_row : {m : _} (row : Row_of-Link m) → links_of row ≡ onto and_pair (map link_of (items-the_row-Link m row)) no_links
links_row end_of-Link = refl
links_row (more_of-Link op right rest) = ap (λ us. and_link op (expression_of right) us) (links_row rest)

stmts_row : {m : _} (row : Row_of-Stmt m) → statements_of row ≡ onto and_member (map statement_of (items-the_row-Stmt m row)) no_members
stmts_row end_of-Stmt = refl
stmts_row (more_of-Stmt s rest) = ap (λ us. and_member (statement_of s) us) (stmts_row rest)

arms_row : {m : _} (row : Row_of-Arm m) → arms_of row ≡ onto and_guarded (map guarded_of (items-the_row-Arm m row)) no_arms
arms_row end_of-Arm = refl
arms_row (more_of-Arm guard body rest) = ap (λ us. and_arm (expression_of guard) (statement_of body) us) (arms_row rest)

pub join_tree : (v : Vec Expr Global) (at : Span) → expression_of (Join v at) ≡ join (onto and_part (map expression_of v.items) no_parts) at
join_tree v at = ap (λ us. join us at) (exprs_row (hidden-the_row-Expr-0 v)
    ∙ ap (λ xs. onto and_part (map expression_of xs) no_parts) (items_hidden-the_row-Expr-0 v))

pub chain_tree : (first : Box Expr Global) (v : Vec Link Global) (at : Span) →
    expression_of (Chain first v at) ≡ chain (expression_of first.value) (onto and_pair (map link_of v.items) no_links) at
chain_tree first v at = ap (λ us. chain (expression_of first.value) us at) (links_row (hidden-the_row-Link-1 v)
    ∙ ap (λ xs. onto and_pair (map link_of xs) no_links) (items_hidden-the_row-Link-1 v))

pub then_tree : (v : Vec Stmt Global) → statement_of (Then v) ≡ follows (onto and_member (map statement_of v.items) no_members)
then_tree v = ap follows (stmts_row (hidden-the_row-Stmt-0 v) ∙ ap (λ xs. onto and_member (map statement_of xs) no_members) (items_hidden-the_row-Stmt-0 v))

pub beside_tree : (v : Vec Stmt Global) → statement_of (Beside v) ≡ besides (onto and_member (map statement_of v.items) no_members)
beside_tree v = ap besides (stmts_row (hidden-the_row-Stmt-0 v) ∙ ap (λ xs. onto and_member (map statement_of xs) no_members) (items_hidden-the_row-Stmt-0 v))

pub select_tree : (again : Bool) (v : Vec Arm Global) → statement_of (Select again v) ≡ selects again (onto and_guarded (map guarded_of v.items) no_arms)
select_tree again v = ap (λ us. selects again us) (arms_row (hidden-the_row-Arm-1 v)
    ∙ ap (λ xs. onto and_guarded (map guarded_of xs) no_arms) (items_hidden-the_row-Arm-1 v))
