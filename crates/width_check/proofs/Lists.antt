-- Members of trees, as lists.
use Rattle.std.proofs.Common.{◌≡◌, ℕ, ◌+◌, ◌<◌, ◌≤◌, Bool, List, length, get_or, drop, sym, ap, ◌∙◌}
use Rattle.std.proofs.lemmas.List.{drop_more, drop_all}
use Rattle.std.specs.declared.alloc.Global.{Global}
use Rattle.std.specs.declared.boxed.Box.{Box}
use Rattle.std.specs.declared.vec.Vec.{Vec}
use Rattle.chp_base.specs.declared.span.Span.{Span}
use Rattle.chp_syntax.specs.declared.tree.Expr.{Expr, Join, Chain}
use Rattle.chp_syntax.specs.declared.tree.Link.{Link}
use Rattle.chp_syntax.specs.declared.tree.Arm.{Arm}
use Rattle.chp_syntax.specs.declared.tree.Stmt.{Stmt, Then, Beside, Select}
use Rattle.chp_syntax.specs.Trees.{join, chain, no_parts, and_part, no_links, and_link, follows, besides, selects, no_members, and_member, no_arms, and_arm}
use Rattle.chp_syntax.specs.View.{expression_of, statement_of}
use Rattle.chp_syntax.proofs.Rows.{join_tree, chain_tree, then_tree, beside_tree, select_tree}
use Rattle.width_check.specs.Walk.{join_parts, links_in, statements_in, arms_in}

pub join_is : (e : Expr) (v : Vec Expr Global) (at : Span) → e ≡ Join v at → expression_of e ≡ join (join_parts v.items) at
join_is e v at is = ap expression_of is ∙ join_tree v at

pub chain_is : (e : Expr) (first : Box Expr Global) (v : Vec Link Global) (at : Span) → e ≡ Chain first v at →
    expression_of e ≡ chain (expression_of first.value) (links_in v.items) at
chain_is e first v at is = ap expression_of is ∙ chain_tree first v at

pub then_is : (s : Stmt) (v : Vec Stmt Global) → s ≡ Then v → statement_of s ≡ follows (statements_in v.items)
then_is s v is = ap statement_of is ∙ then_tree v

pub beside_is : (s : Stmt) (v : Vec Stmt Global) → s ≡ Beside v → statement_of s ≡ besides (statements_in v.items)
beside_is s v is = ap statement_of is ∙ beside_tree v

pub select_is : (s : Stmt) (again : Bool) (v : Vec Arm Global) → s ≡ Select again v → statement_of s ≡ selects again (arms_in v.items)
select_is s again v is = ap statement_of is ∙ select_tree again v

-- the members from a place on are the one there and those behind it

pub parts_more : (es : List Expr) (i : ℕ) (e : Expr) → i < length es → e ≡ get_or es i e →
    join_parts (drop i es) ≡ and_part (expression_of e) (join_parts (drop (i + 1) es))
parts_more es i e within is = ap join_parts (drop_more es i e within) ∙ ap (λ (x : Expr). and_part (expression_of x) (join_parts (drop (i + 1) es))) (sym is)

pub parts_end : (es : List Expr) (i : ℕ) → length es ≤ i → join_parts (drop i es) ≡ no_parts
parts_end es i all = ap join_parts (drop_all i es all)

pub links_more : (ls : List Link) (i : ℕ) (l : Link) → i < length ls → l ≡ get_or ls i l →
    links_in (drop i ls) ≡ and_link l.op (expression_of l.right) (links_in (drop (i + 1) ls))
links_more ls i l within is = ap links_in (drop_more ls i l within) ∙ ap (λ (x : Link). and_link x.op (expression_of x.right) (links_in (drop (i + 1) ls)))
    (sym is)

pub links_end : (ls : List Link) (i : ℕ) → length ls ≤ i → links_in (drop i ls) ≡ no_links
links_end ls i all = ap links_in (drop_all i ls all)

pub members_more : (ss : List Stmt) (i : ℕ) (s : Stmt) → i < length ss → s ≡ get_or ss i s →
    statements_in (drop i ss) ≡ and_member (statement_of s) (statements_in (drop (i + 1) ss))
members_more ss i s within is = ap statements_in (drop_more ss i s within) ∙ ap (λ (x : Stmt). and_member (statement_of x) (statements_in (drop (i + 1) ss)))
    (sym is)

pub members_end : (ss : List Stmt) (i : ℕ) → length ss ≤ i → statements_in (drop i ss) ≡ no_members
members_end ss i all = ap statements_in (drop_all i ss all)

pub arms_more : (xs : List Arm) (i : ℕ) (a : Arm) → i < length xs → a ≡ get_or xs i a →
    arms_in (drop i xs) ≡ and_arm (expression_of a.guard) (statement_of a.body) (arms_in (drop (i + 1) xs))
arms_more xs i a within is = ap arms_in (drop_more xs i a within)
    ∙ ap (λ (x : Arm). and_arm (expression_of x.guard) (statement_of x.body) (arms_in (drop (i + 1) xs))) (sym is)

pub arms_end : (xs : List Arm) (i : ℕ) → length xs ≤ i → arms_in (drop i xs) ≡ no_arms
arms_end xs i all = ap arms_in (drop_all i xs all)
