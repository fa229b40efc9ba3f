-- The forms of members, when all of them were counted.
use Rattle.std.proofs.Common.{◌≡◌, ℕ, ◌+◌, ◌<◌, ◌≤◌, ◌^◌, Bool, List, length, drop, sym, ap, ◌∙◌, arith, ◌⊎◌, inl, inr}
use Rattle.std.specs.declared.alloc.Global.{Global}
use Rattle.std.specs.declared.boxed.Box.{Box}
use Rattle.std.specs.declared.vec.Vec.{Vec}
use Rattle.chp_base.specs.declared.span.Span.{Span}
use Rattle.chp_syntax.specs.declared.tree.Arm.{Arm}
use Rattle.chp_syntax.specs.declared.tree.Expr.{Expr, Join, Chain}
use Rattle.chp_syntax.specs.declared.tree.Link.{Link}
use Rattle.chp_syntax.specs.declared.tree.Stmt.{Stmt, Then, Beside, Select}
use Rattle.chp_syntax.specs.Trees.{Procedure, Expressions, Links, Statements, Arms}
use Rattle.chp_syntax.specs.View.{expression_of, statement_of}
use Rattle.width_check.specs.Walk.{join_parts, links_in, statements_in, arms_in}
use Rattle.width_check.proofs.Lists.{join_is, chain_is, then_is, beside_is, select_is, parts_end, links_end, members_end, arms_end}
use Rattle.call_merge.specs.CallForms.{capped_forms, expression_forms, forms_of_parts, forms_of_links, statement_forms, forms_of_members, forms_of_arms}
use Rattle.call_merge.specs.Inlining.{inlined_statement, inlined_members, inlined_arms}
use Rattle.call_merge.proofs.Counting.{counted_none}

pub join_counted : (e : Expr) (v : Vec Expr Global) (at : Span) (es : List Expr) (i : ℕ) (new : ℕ) → e ≡ Join v at → es ≡ v.items → length es ≤ i
    → new < 2 ^ 64 → capped_forms (new + forms_of_parts (join_parts (drop i es))) ≡ capped_forms (1 + forms_of_parts (join_parts es))
    → new ≡ capped_forms (expression_forms (expression_of e))
join_counted e v at es i new is items over small so_far =
    counted_none new (capped_forms (1 + forms_of_parts (join_parts es)))
    (ap (λ (us : Expressions). capped_forms (new + forms_of_parts us)) (sym (parts_end es i over)) ∙ so_far) small
    ∙ (ap (λ (xs : List Expr). capped_forms (1 + forms_of_parts (join_parts xs))) items ∙ sym (ap (λ x. capped_forms (expression_forms x)) (join_is e v at is)))

pub chain_counted : (e : Expr) (first : Box Expr Global) (v : Vec Link Global) (at : Span) (ls : List Link) (i : ℕ) (add old new : ℕ) → e ≡ Chain first v at
    → ls ≡ v.items → length ls ≤ i → new < 2 ^ 64 → add ≡ capped_forms (expression_forms (expression_of first.value)) → old ≡ capped_forms (add + 1)
    → capped_forms (new + forms_of_links (links_in (drop i ls))) ≡ capped_forms (old + forms_of_links (links_in ls))
    → new ≡ capped_forms (expression_forms (expression_of e))
chain_counted e first v at ls i add old new is items over small front begun so_far =
    let x = expression_forms (expression_of first.value) in
    let y = forms_of_links (links_in ls) in
    let here : capped_forms (old + y) ≡ capped_forms (1 + x + y) = omega (arith, front, begun) in
    counted_none new (capped_forms (old + forms_of_links (links_in ls)))
    (ap (λ (us : Links). capped_forms (new + forms_of_links us)) (sym (links_end ls i over)) ∙ so_far) small
    ∙ (here ∙ (ap (λ (xs : List Link). capped_forms (1 + expression_forms (expression_of first.value) + forms_of_links (links_in xs))) items
    ∙ sym (ap (λ z. capped_forms (expression_forms z)) (chain_is e first v at is))))

-- of statements in which each call is its procedure's body

abbrev pub inlined_forms : List Procedure → Statements → ℕ
inlined_forms procs us = forms_of_members (inlined_members procs us)

abbrev pub inlined_arm_forms : List Procedure → Arms → ℕ
inlined_arm_forms procs xs = forms_of_arms (inlined_arms procs xs)

then_counted : (procs : List Procedure) (s : Stmt) (v : Vec Stmt Global) (ss : List Stmt) (i : ℕ) (new : ℕ) → s ≡ Then v → ss ≡ v.items → length ss ≤ i
    → new < 2 ^ 64 → capped_forms (new + inlined_forms procs (statements_in (drop i ss))) ≡ capped_forms (1 + inlined_forms procs (statements_in ss))
    → new ≡ capped_forms (statement_forms (inlined_statement procs (statement_of s)))
then_counted procs s v ss i new is items over small so_far =
    counted_none new (capped_forms (1 + inlined_forms procs (statements_in ss)))
    (ap (λ (us : Statements). capped_forms (new + inlined_forms procs us)) (sym (members_end ss i over)) ∙ so_far) small
    ∙ (ap (λ (xs : List Stmt). capped_forms (1 + inlined_forms procs (statements_in xs))) items
    ∙ sym (ap (λ z. capped_forms (statement_forms (inlined_statement procs z))) (then_is s v is)))

beside_counted : (procs : List Procedure) (s : Stmt) (v : Vec Stmt Global) (ss : List Stmt) (i : ℕ) (new : ℕ) → s ≡ Beside v → ss ≡ v.items
    → length ss ≤ i
    → new < 2 ^ 64 → capped_forms (new + inlined_forms procs (statements_in (drop i ss))) ≡ capped_forms (1 + inlined_forms procs (statements_in ss))
    → new ≡ capped_forms (statement_forms (inlined_statement procs (statement_of s)))
beside_counted procs s v ss i new is items over small so_far =
    counted_none new (capped_forms (1 + inlined_forms procs (statements_in ss)))
    (ap (λ (us : Statements). capped_forms (new + inlined_forms procs us)) (sym (members_end ss i over)) ∙ so_far) small
    ∙ (ap (λ (xs : List Stmt). capped_forms (1 + inlined_forms procs (statements_in xs))) items
    ∙ sym (ap (λ z. capped_forms (statement_forms (inlined_statement procs z))) (beside_is s v is)))

pub group_counted : (procs : List Procedure) (s : Stmt) (v : Vec Stmt Global) (ss : List Stmt) (i : ℕ) (new : ℕ) → (s ≡ Then v) ⊎ (s ≡ Beside v) → ss ≡ v.items
    → length ss ≤ i
    → new < 2 ^ 64 → capped_forms (new + inlined_forms procs (statements_in (drop i ss))) ≡ capped_forms (1 + inlined_forms procs (statements_in ss))
    → new ≡ capped_forms (statement_forms (inlined_statement procs (statement_of s)))
group_counted procs s v ss i new (inl is) = then_counted procs s v ss i new is
group_counted procs s v ss i new (inr is) = beside_counted procs s v ss i new is

pub select_counted : (procs : List Procedure) (s : Stmt) (again : Bool) (v : Vec Arm Global) (xs : List Arm) (i : ℕ) (new : ℕ) → s ≡ Select again v
    → xs ≡ v.items → length xs ≤ i → new < 2 ^ 64
    → capped_forms (new + inlined_arm_forms procs (arms_in (drop i xs))) ≡ capped_forms (1 + inlined_arm_forms procs (arms_in xs))
    → new ≡ capped_forms (statement_forms (inlined_statement procs (statement_of s)))
select_counted procs s again v xs i new is items over small so_far =
    counted_none new (capped_forms (1 + inlined_arm_forms procs (arms_in xs)))
    (ap (λ (us : Arms). capped_forms (new + inlined_arm_forms procs us)) (sym (arms_end xs i over)) ∙ so_far) small
    ∙ (ap (λ (ys : List Arm). capped_forms (1 + inlined_arm_forms procs (arms_in ys))) items
    ∙ sym (ap (λ z. capped_forms (statement_forms (inlined_statement procs z))) (select_is s again v is)))
