-- Members that are copied one after the other.
use Rattle.std.proofs.Common.{◌≡◌, ℕ, ◌≤◌, Bool, List, [], ◌∷◌, map, length, take, refl, sym, ap, ◌∙◌, ◌⊎◌, inl, inr}
use Rattle.std.specs.Prelude.{Result, Ok, Err, IfOk}
use Rattle.std.specs.declared.alloc.Global.{Global}
use Rattle.std.specs.declared.boxed.Box.{Box}
use Rattle.std.specs.declared.vec.Vec.{Vec}
use Rattle.std.proofs.lemmas.List.{take_all}
use Rattle.chp_base.specs.declared.span.Span.{Span}
use Rattle.chp_syntax.specs.declared.tree.Expr.{Expr, Join, Chain}
use Rattle.chp_syntax.specs.declared.tree.Link.{Link}
use Rattle.chp_syntax.specs.declared.tree.Arm.{Arm}
use Rattle.chp_syntax.specs.declared.tree.Stmt.{Stmt, Then, Beside, Select}
use Rattle.chp_syntax.specs.Trees.{join, chain, no_parts, and_part, no_links, follows, besides, selects, no_members, and_member, no_arms}
use Rattle.chp_syntax.specs.Grammar.{Guarded, guarded}
use Rattle.chp_syntax.specs.View.{expression_of, statement_of, link_of, and_pair, guarded_of, and_guarded, onto}
use Rattle.chp_syntax.proofs.Rows.{join_tree, chain_tree, then_tree, beside_tree, select_tree}
use Rattle.slack_buffer.specs.BufferedTrees.{rerouted_statement, rerouted_statements, rerouted_arms}

all_copied : {X Y : Type 0} (f g : X → Y) (xs es vs : List X) (i : ℕ) → length es ≤ i → es ≡ vs → map f xs ≡ map g (take i es) → map f xs ≡ map g vs
all_copied f g xs es vs i all is so_far = so_far ∙ (ap (map g) (take_all i es all) ∙ ap (map g) is)

pub join_copied : (e : Expr) (v w : Vec Expr Global) (at : Span) (es : List Expr) (i : ℕ) → e ≡ Join v at → es ≡ v.items → length es ≤ i →
    map expression_of w.items ≡ map expression_of (take i es) → expression_of (Join w at) ≡ expression_of e
join_copied e v w at es i is items all so_far =
    join_tree w at ∙ (ap (λ xs. join (onto and_part xs no_parts) at) (all_copied expression_of expression_of w.items es v.items i all items so_far)
    ∙ sym (ap expression_of is ∙ join_tree v at))

pub chain_copied : (e : Expr) (first front : Box Expr Global) (v w : Vec Link Global) (at : Span) (ls : List Link) (i : ℕ) → e ≡ Chain first v at →
    ls ≡ v.items →
    length ls ≤ i → expression_of front.value ≡ expression_of first.value → map link_of w.items ≡ map link_of (take i ls) →
    expression_of (Chain front w at) ≡ expression_of e
chain_copied e first front v w at ls i is items all same so_far =
    chain_tree front w at ∙ (ap (λ xs. chain (expression_of front.value) (onto and_pair xs no_links) at)
    (all_copied link_of link_of w.items ls v.items i all items so_far)
    ∙ (ap (λ z. chain z (onto and_pair (map link_of v.items) no_links) at) same ∙ sym (ap expression_of is ∙ chain_tree first v at)))

-- statements

rerouted_list : (chan copy : List ℕ) (ss : List Stmt) →
    rerouted_statements chan copy (onto and_member (map statement_of ss) no_members) ≡
    onto and_member (map (λ s. rerouted_statement chan copy (statement_of s)) ss) no_members
rerouted_list chan copy [] = refl
rerouted_list chan copy (s ∷ ss) = ap (λ us. and_member (rerouted_statement chan copy (statement_of s)) us) (rerouted_list chan copy ss)

abbrev pub rerouted_guarded : (chan copy : List ℕ) → Arm → Guarded
rerouted_guarded chan copy a = guarded (expression_of a.guard) (rerouted_statement chan copy (statement_of a.body))

rerouted_arm_list : (chan copy : List ℕ) (xs : List Arm) →
    rerouted_arms chan copy (onto and_guarded (map guarded_of xs) no_arms) ≡ onto and_guarded (map (rerouted_guarded chan copy) xs) no_arms
rerouted_arm_list chan copy [] = refl
rerouted_arm_list chan copy (a ∷ xs) = ap (λ us. and_guarded (rerouted_guarded chan copy a) us) (rerouted_arm_list chan copy xs)

then_rerouted : (chan copy : List ℕ) (s : Stmt) (v w : Vec Stmt Global) (ss : List Stmt) (i : ℕ) → s ≡ Then v → ss ≡ v.items → length ss ≤ i →
    map statement_of w.items ≡ map (λ t. rerouted_statement chan copy (statement_of t)) (take i ss) →
    statement_of (Then w) ≡ rerouted_statement chan copy (statement_of s)
then_rerouted chan copy s v w ss i is items all so_far =
    then_tree w ∙ (ap (λ xs. follows (onto and_member xs no_members))
    (all_copied statement_of (λ t. rerouted_statement chan copy (statement_of t)) w.items ss v.items i all items so_far)
    ∙ (ap follows (sym (rerouted_list chan copy v.items)) ∙ sym (ap (rerouted_statement chan copy) (ap statement_of is ∙ then_tree v))))

beside_rerouted : (chan copy : List ℕ) (s : Stmt) (v w : Vec Stmt Global) (ss : List Stmt) (i : ℕ) → s ≡ Beside v → ss ≡ v.items → length ss ≤ i →
    map statement_of w.items ≡ map (λ t. rerouted_statement chan copy (statement_of t)) (take i ss) →
    statement_of (Beside w) ≡ rerouted_statement chan copy (statement_of s)
beside_rerouted chan copy s v w ss i is items all so_far =
    beside_tree w ∙ (ap (λ xs. besides (onto and_member xs no_members))
    (all_copied statement_of (λ t. rerouted_statement chan copy (statement_of t)) w.items ss v.items i all items so_far)
    ∙ (ap besides (sym (rerouted_list chan copy v.items)) ∙ sym (ap (rerouted_statement chan copy) (ap statement_of is ∙ beside_tree v))))

-- a group of one kind or the other, made like it
group_rerouted : (chan copy : List ℕ) (s made : Stmt) (v w : Vec Stmt Global) (ss : List Stmt) (i : ℕ) → (s ≡ Then v) ⊎ (s ≡ Beside v) → ss ≡ v.items →
    length ss ≤ i → map statement_of w.items ≡ map (λ t. rerouted_statement chan copy (statement_of t)) (take i ss) →
    ((u : Vec Stmt Global) → s ≡ Then u → made ≡ Then w) → ((u : Vec Stmt Global) → s ≡ Beside u → made ≡ Beside w) →
    statement_of made ≡ rerouted_statement chan copy (statement_of s)
group_rerouted chan copy s made v w ss i (inl is) items all so_far turns sides =
    ap statement_of (turns v is) ∙ then_rerouted chan copy s v w ss i is items all so_far
group_rerouted chan copy s made v w ss i (inr is) items all so_far turns sides =
    ap statement_of (sides v is) ∙ beside_rerouted chan copy s v w ss i is items all so_far

select_rerouted : (chan copy : List ℕ) (s : Stmt) (again : Bool) (v w : Vec Arm Global) (xs : List Arm) (i : ℕ) → s ≡ Select again v → xs ≡ v.items →
    length xs ≤ i → map guarded_of w.items ≡ map (rerouted_guarded chan copy) (take i xs) →
    statement_of (Select again w) ≡ rerouted_statement chan copy (statement_of s)
select_rerouted chan copy s again v w xs i is items all so_far =
    select_tree again w ∙ (ap (λ us. selects again (onto and_guarded us no_arms))
    (all_copied guarded_of (rerouted_guarded chan copy) w.items xs v.items i all items so_far)
    ∙ (ap (λ us. selects again us) (sym (rerouted_arm_list chan copy v.items))
    ∙ sym (ap (rerouted_statement chan copy) (ap statement_of is ∙ select_tree again v))))

-- the same of what a box has, if it was made
pub grouped_rerouted : {E : Type 0} (chan copy : List ℕ) (s : Stmt) (made : Result (Box Stmt Global) E) (v w : Vec Stmt Global) (ss : List Stmt) (i : ℕ) →
    (s ≡ Then v) ⊎ (s ≡ Beside v) → ss ≡ v.items → length ss ≤ i →
    map statement_of w.items ≡ map (λ t. rerouted_statement chan copy (statement_of t)) (take i ss) →
    ((u : Vec Stmt Global) → s ≡ Then u → IfOk made (λ (b : Box Stmt Global). b.value ≡ Then w)) →
    ((u : Vec Stmt Global) → s ≡ Beside u → IfOk made (λ (b : Box Stmt Global). b.value ≡ Beside w)) →
    IfOk made (λ (b : Box Stmt Global). statement_of b.value ≡ rerouted_statement chan copy (statement_of s))
grouped_rerouted chan copy s (Ok b) v w ss i is items all so_far turns sides =
    group_rerouted chan copy s b.value v w ss i is items all so_far turns sides
grouped_rerouted chan copy s (Err e) v w ss i is items all so_far turns sides = tt

pub selected_rerouted : {E : Type 0} (chan copy : List ℕ) (s : Stmt) (made : Result (Box Stmt Global) E) (again : Bool) (v w : Vec Arm Global)
    (xs : List Arm) (i : ℕ) → s ≡ Select again v → xs ≡ v.items → length xs ≤ i →
    map guarded_of w.items ≡ map (rerouted_guarded chan copy) (take i xs) → IfOk made (λ (b : Box Stmt Global). b.value ≡ Select again w) →
    IfOk made (λ (b : Box Stmt Global). statement_of b.value ≡ rerouted_statement chan copy (statement_of s))
selected_rerouted chan copy s (Ok b) again v w xs i is items all so_far same =
    ap statement_of same ∙ select_rerouted chan copy s again v w xs i is items all so_far
selected_rerouted chan copy s (Err e) again v w xs i is items all so_far same = tt
