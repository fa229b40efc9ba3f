-- Members that are copied one after the other, each by the same map of statements.
use Rattle.std.proofs.Common.{◌≡◌, ℕ, ◌+◌, ◌<◌, ◌≤◌, Bool, List, [], ◌∷◌, ◌++◌, map, length, get_or, take, refl, sym, ap, ◌∙◌, ◌⊎◌, inl, inr}
use Rattle.std.specs.Prelude.{Result, Ok, Err, IfOk, IsOk}
use Rattle.std.specs.declared.alloc.Global.{Global}
use Rattle.std.specs.declared.boxed.Box.{Box}
use Rattle.std.specs.declared.vec.Vec.{Vec}
use Rattle.std.proofs.lemmas.List.{take_all, map-append, map_more}
use Rattle.chp_base.specs.declared.span.Span.{Span}
use Rattle.chp_syntax.specs.declared.tree.Expr.{Expr, Join, Chain}
use Rattle.chp_syntax.specs.declared.tree.Link.{Link}
use Rattle.chp_syntax.specs.declared.tree.Arm.{Arm}
use Rattle.chp_syntax.specs.declared.tree.Stmt.{Stmt, Then, Beside, Select}
use Rattle.chp_syntax.specs.Trees.{Expression, join, chain, no_parts, and_part, no_links, Statement, follows, besides, selects, Statements, no_members, and_member, Arms, no_arms, and_arm}
use Rattle.chp_syntax.specs.Grammar.{Guarded, guarded}
use Rattle.chp_syntax.specs.View.{expression_of, statement_of, link_of, and_pair, guarded_of, and_guarded, onto}
use Rattle.chp_syntax.proofs.Rows.{join_tree, chain_tree, then_tree, beside_tree, select_tree}

all_copied : {X Y : Type 0} (f g : X → Y) (xs es vs : List X) (i : ℕ) → length es ≤ i → es ≡ vs → map f xs ≡ map g (take i es) → map f xs ≡ map g vs
all_copied f g xs es vs i all is so_far = so_far ∙ (ap (map g) (take_all i es all) ∙ ap (map g) is)

pub join_copied : (e : Expr) (v w : Vec Expr Global) (at : Span) (es : List Expr) (i : ℕ) → e ≡ Join v at → es ≡ v.items → length es ≤ i →
    map expression_of w.items ≡ map expression_of (take i es) → expression_of (Join w at) ≡ expression_of e
join_copied e v w at es i is items all so_far =
    join_tree w at ∙ (ap (λ xs. join (onto and_part xs no_parts) at) (all_copied expression_of expression_of w.items es v.items i all items so_far)
    ∙ sym (ap expression_of is ∙ join_tree v at))

pub chain_copied : (e : Expr) (first front : Box Expr Global) (v w : Vec Link Global) (at : Span) (ls : List Link) (i : ℕ) → e ≡ Chain first v at →
    ls ≡ v.items →
    length ls ≤ i → expression_of front.value ≡ expression_of first.value → map link_of w.items ≡ map link_of (take i ls) →
    expression_of (Chain front w at) ≡ expression_of e
chain_copied e first front v w at ls i is items all same so_far =
    chain_tree front w at ∙ (ap (λ xs. chain (expression_of front.value) (onto and_pair xs no_links) at)
    (all_copied link_of link_of w.items ls v.items i all items so_far)
    ∙ (ap (λ z. chain z (onto and_pair (map link_of v.items) no_links) at) same ∙ sym (ap expression_of is ∙ chain_tree first v at)))

-- a map of statements that goes into all their parts, and may change guards
pub record GoesInto (f : Statement → Statement) (each : Statements → Statements) (arms : Arms → Arms) (guards : Expression → Expression) : Type 0 where
  pub no_member : each no_members ≡ no_members
  pub one_member : (s : Statement) (more : Statements) → each (and_member s more) ≡ and_member (f s) (each more)
  pub no_arm : arms no_arms ≡ no_arms
  pub one_arm : (g : Expression) (s : Statement) (more : Arms) → arms (and_arm g s more) ≡ and_arm (guards g) (f s) (arms more)
  pub turns : (members : Statements) → f (follows members) ≡ follows (each members)
  pub sides : (members : Statements) → f (besides members) ≡ besides (each members)
  pub choices : (again : Bool) (xs : Arms) → f (selects again xs) ≡ selects again (arms xs)

abbrev pub mapped_arm : (Statement → Statement) → (Expression → Expression) → Arm → Guarded
mapped_arm f guards a = guarded (guards (expression_of a.guard)) (f (statement_of a.body))

mapped_list : {f : Statement → Statement} {each : Statements → Statements} {arms : Arms → Arms} {guards : Expression → Expression} → GoesInto f each arms guards
    → (ss : List Stmt) → each (onto and_member (map statement_of ss) no_members) ≡ onto and_member (map (λ s. f (statement_of s)) ss) no_members
mapped_list into [] = into.no_member
mapped_list {f} into (s ∷ ss) =
    into.one_member (statement_of s) (onto and_member (map statement_of ss) no_members) ∙ ap (λ us. and_member (f (statement_of s)) us) (mapped_list into ss)

mapped_arms : {f : Statement → Statement} {each : Statements → Statements} {arms : Arms → Arms} {guards : Expression → Expression} → GoesInto f each arms guards
    → (xs : List Arm) → arms (onto and_guarded (map guarded_of xs) no_arms) ≡ onto and_guarded (map (mapped_arm f guards) xs) no_arms
mapped_arms into [] = into.no_arm
mapped_arms {f} {each} {arms} {guards} into (a ∷ xs) =
    into.one_arm (expression_of a.guard) (statement_of a.body) (onto and_guarded (map guarded_of xs) no_arms)
    ∙ ap (λ us. and_guarded (mapped_arm f guards a) us) (mapped_arms into xs)

then_mapped : {f : Statement → Statement} {each : Statements → Statements} {arms : Arms → Arms} {guards : Expression → Expression}
    → GoesInto f each arms guards
    → (s : Stmt) (v w : Vec Stmt Global) (ss : List Stmt) (i : ℕ) → s ≡ Then v → ss ≡ v.items → length ss ≤ i →
    map statement_of w.items ≡ map (λ t. f (statement_of t)) (take i ss) → statement_of (Then w) ≡ f (statement_of s)
then_mapped {f} into s v w ss i is items all so_far =
    then_tree w ∙ (ap (λ xs. follows (onto and_member xs no_members)) (all_copied statement_of (λ t. f (statement_of t)) w.items ss v.items i all items so_far)
    ∙ (ap follows (sym (mapped_list into v.items)) ∙ (sym (into.turns (onto and_member (map statement_of v.items) no_members))
    ∙ sym (ap f (ap statement_of is ∙ then_tree v)))))

beside_mapped : {f : Statement → Statement} {each : Statements → Statements} {arms : Arms → Arms} {guards : Expression → Expression}
    → GoesInto f each arms guards
    → (s : Stmt) (v w : Vec Stmt Global) (ss : List Stmt) (i : ℕ) → s ≡ Beside v → ss ≡ v.items → length ss ≤ i →
    map statement_of w.items ≡ map (λ t. f (statement_of t)) (take i ss) → statement_of (Beside w) ≡ f (statement_of s)
beside_mapped {f} into s v w ss i is items all so_far =
    beside_tree w
    ∙ (ap (λ xs. besides (onto and_member xs no_members)) (all_copied statement_of (λ t. f (statement_of t)) w.items ss v.items i all items so_far)
    ∙ (ap besides (sym (mapped_list into v.items)) ∙ (sym (into.sides (onto and_member (map statement_of v.items) no_members))
    ∙ sym (ap f (ap statement_of is ∙ beside_tree v)))))

-- a group of one kind or the other, made like it
pub group_mapped : {f : Statement → Statement} {each : Statements → Statements} {arms : Arms → Arms} {guards : Expression → Expression}
    → GoesInto f each arms guards
    → (s made : Stmt) (v w : Vec Stmt Global) (ss : List Stmt) (i : ℕ) → (s ≡ Then v) ⊎ (s ≡ Beside v) → ss ≡ v.items → length ss ≤ i →
    map statement_of w.items ≡ map (λ t. f (statement_of t)) (take i ss) → ((u : Vec Stmt Global) → s ≡ Then u → made ≡ Then w) →
    ((u : Vec Stmt Global) → s ≡ Beside u → made ≡ Beside w) → statement_of made ≡ f (statement_of s)
group_mapped into s made v w ss i (inl is) items all so_far turns sides = ap statement_of (turns v is) ∙ then_mapped into s v w ss i is items all so_far
group_mapped into s made v w ss i (inr is) items all so_far turns sides = ap statement_of (sides v is) ∙ beside_mapped into s v w ss i is items all so_far

pub select_mapped : {f : Statement → Statement} {each : Statements → Statements} {arms : Arms → Arms} {guards : Expression → Expression}
    → GoesInto f each arms guards
    → (s : Stmt) (again : Bool) (v w : Vec Arm Global) (xs : List Arm) (i : ℕ) → s ≡ Select again v → xs ≡ v.items → length xs ≤ i →
    map guarded_of w.items ≡ map (mapped_arm f guards) (take i xs) → statement_of (Select again w) ≡ f (statement_of s)
select_mapped {f} {each} {arms} {guards} into s again v w xs i is items all so_far =
    select_tree again w
    ∙ (ap (λ us. selects again (onto and_guarded us no_arms)) (all_copied guarded_of (mapped_arm f guards) w.items xs v.items i all items so_far)
    ∙ (ap (λ us. selects again us) (sym (mapped_arms into v.items))
    ∙ (sym (into.choices again (onto and_guarded (map guarded_of v.items) no_arms)) ∙ sym (ap f (ap statement_of is ∙ select_tree again v)))))

-- the same of what a box has, if it was made
pub grouped_mapped : {E : Type 0} {f : Statement → Statement} {each : Statements → Statements} {arms : Arms → Arms} {guards : Expression → Expression}
    → GoesInto f each arms guards
    → (s : Stmt) (made : Result (Box Stmt Global) E) (v w : Vec Stmt Global) (ss : List Stmt) (i : ℕ) → (s ≡ Then v) ⊎ (s ≡ Beside v) → ss ≡ v.items →
    length ss ≤ i → map statement_of w.items ≡ map (λ t. f (statement_of t)) (take i ss) →
    ((u : Vec Stmt Global) → s ≡ Then u → IfOk made (λ (b : Box Stmt Global). b.value ≡ Then w)) →
    ((u : Vec Stmt Global) → s ≡ Beside u → IfOk made (λ (b : Box Stmt Global). b.value ≡ Beside w)) →
    IfOk made (λ (b : Box Stmt Global). statement_of b.value ≡ f (statement_of s))
grouped_mapped into s (Ok b) v w ss i is items all so_far turns sides = group_mapped into s b.value v w ss i is items all so_far turns sides
grouped_mapped into s (Err e) v w ss i is items all so_far turns sides = tt

pub selected_mapped : {E : Type 0} {f : Statement → Statement} {each : Statements → Statements} {arms : Arms → Arms} {guards : Expression → Expression}
    → GoesInto f each arms guards
    → (s : Stmt) (made : Result (Box Stmt Global) E) (again : Bool) (v w : Vec Arm Global) (xs : List Arm) (i : ℕ) → s ≡ Select again v → xs ≡ v.items →
    length xs ≤ i → map guarded_of w.items ≡ map (mapped_arm f guards) (take i xs) →
    IfOk made (λ (b : Box Stmt Global). b.value ≡ Select again w) → IfOk made (λ (b : Box Stmt Global). statement_of b.value ≡ f (statement_of s))
selected_mapped into s (Ok b) again v w xs i is items all so_far same = ap statement_of same ∙ select_mapped into s again v w xs i is items all so_far
selected_mapped into s (Err e) again v w xs i is items all so_far same = tt

-- one more member, or arm, where it was made
pub member_mapped : {E : Type 0} (f : Statement → Statement) (ss : List Stmt) (i : ℕ) (s : Stmt) (r : Result (Box Stmt Global) E) (old new : List Stmt)
    → i < length ss → s ≡ get_or ss i s → map statement_of old ≡ map (λ (t : Stmt). f (statement_of t)) (take i ss)
    → IfOk r (λ (b : Box Stmt Global). statement_of b.value ≡ f (statement_of s)) → IsOk r → IfOk r (λ (b : Box Stmt Global). new ≡ old ++ b.value ∷ [])
    → map statement_of new ≡ map (λ (t : Stmt). f (statement_of t)) (take (i + 1) ss)
member_mapped f ss i s (Ok b) old new within is so_far made ok next =
    let before = map (λ (t : Stmt). f (statement_of t)) (take i ss) in
    ap (map statement_of) next ∙ (map-append statement_of old (b.value ∷ []) ∙ (ap (λ (z : List Statement). z ++ statement_of b.value ∷ []) so_far
    ∙ (ap (λ (z : Statement). before ++ z ∷ []) (made ∙ ap (λ (t : Stmt). f (statement_of t)) is)
    ∙ sym (map_more (λ (t : Stmt). f (statement_of t)) ss i s within))))
member_mapped f ss i s (Err e) old new within is so_far made ok next = absurd (cc ok)

pub arm_mapped : {E : Type 0} (f : Statement → Statement) (guards : Expression → Expression) (xs : List Arm) (i : ℕ) (a : Arm)
    (r : Result (Box Stmt Global) E) (old new : List Arm) → i < length xs → a ≡ get_or xs i a
    → map guarded_of old ≡ map (mapped_arm f guards) (take i xs) → IfOk r (λ (b : Box Stmt Global). statement_of b.value ≡ f (statement_of a.body)) → IsOk r
    → IfOk r (λ (b : Box Stmt Global). map guarded_of new
    ≡ map guarded_of old ++ guarded (guards (expression_of a.guard)) (statement_of b.value) ∷ [])
    → map guarded_of new ≡ map (mapped_arm f guards) (take (i + 1) xs)
arm_mapped f guards xs i a (Ok b) old new within is so_far made ok next =
    let before = map (mapped_arm f guards) (take i xs) in
    next ∙ (ap (λ (z : List Guarded). z ++ guarded (guards (expression_of a.guard)) (statement_of b.value) ∷ []) so_far
    ∙ (ap (λ (z : Statement). before ++ guarded (guards (expression_of a.guard)) z ∷ []) made
    ∙ (ap (λ (x : Arm). before ++ mapped_arm f guards x ∷ []) is ∙ sym (map_more (mapped_arm f guards) xs i a within))))
arm_mapped f guards xs i a (Err e) old new within is so_far made ok next = absurd (cc ok)

-- the map that changes nothing
pub goes_nowhere : GoesInto (λ s. s) (λ us. us) (λ xs. xs) (λ e. e)
goes_nowhere = record {
  no_member = refl;
  one_member = λ s more. refl;
  no_arm = refl;
  one_arm = λ g s more. refl;
  turns = λ members. refl;
  sides = λ members. refl;
  choices = λ again xs. refl;
}
