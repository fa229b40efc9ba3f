-- Members that are split one after the other.
use Rattle.std.proofs.Common.{◌≡◌, ℕ, ◌+◌, ◌<◌, ◌≤◌, Bool, List, [], ◌∷◌, ◌++◌, map, length, get_or, drop, refl, sym, ap, ◌∙◌, subst, arith, ◌⊎◌, inl, inr, length-append, append-nil, append_assoc}
use Rattle.std.specs.Prelude.{Result, Ok, Err, IfOk, OnOk, IsOk}
use Rattle.std.specs.List.{flat_map}
use Rattle.std.proofs.lemmas.List.{map-append, drop_more, drop_all}
use Rattle.std.specs.declared.alloc.Global.{Global}
use Rattle.std.specs.declared.boxed.Box.{Box}
use Rattle.std.specs.declared.vec.Vec.{Vec}
use Rattle.chp_syntax.specs.declared.tree.Arm.{Arm}
use Rattle.chp_syntax.specs.declared.tree.Decl.{Decl}
use Rattle.chp_syntax.specs.declared.tree.Ident.{Ident}
use Rattle.chp_syntax.specs.declared.tree.Proc.{Proc}
use Rattle.chp_syntax.specs.declared.tree.Stmt.{Stmt, Then, Beside, Select}
use Rattle.chp_syntax.specs.Trees.{Statement, follows, besides, selects, Statements, and_member, Arms, and_arm, Procedure}
use Rattle.chp_syntax.specs.Grammar.{Guarded, guarded}
use Rattle.chp_syntax.specs.View.{expression_of, statement_of, procedure_of, guarded_of, and_guarded, onto}
use Rattle.chp_syntax.proofs.Rows.{then_tree, beside_tree, select_tree}
use Rattle.width_check.specs.Walk.{statements_in, arms_in}
use Rattle.width_check.proofs.Lists.{then_is, beside_is, select_is, members_more, members_end, arms_more, arms_end}
use Rattle.call_merge.specs.declared.bodies.Body.{Body}
use Rattle.call_merge.specs.Bodies.{procedures_of}
use Rattle.call_merge.specs.CallSplits.{own_readers, own_readers_each, own_readers_arms, split_statement, split_members, split_arms, split_procedures}

-- one member more before further ones
onto_push : {B U X : Type 0} (more : B → U → U) (f : X → B) (xs : List X) (x : X) (us : U) → onto more (map f (xs ++ x ∷ [])) us ≡ onto more (map f xs)
    (more (f x) us)
onto_push more f [] x us = refl
onto_push more f (y ∷ xs) x us = ap (λ z. more (f y) z) (onto_push more f xs x us)

pub member_split : (ds : List Decl) (ns : List (List ℕ)) (ss : List Stmt) (i : ℕ) (s r : Stmt) (old new : List Stmt) (n m : ℕ) (whole : Statements) →
    i < length ss → s ≡ get_or ss i s → onto and_member (map statement_of old) (split_members ds ns n (statements_in (drop i ss))) ≡ whole
    → statement_of r ≡ split_statement ds ns n (statement_of s) → m ≡ n + length (own_readers ds (statement_of s)) → new ≡ old ++ r ∷ []
    → onto and_member (map statement_of new) (split_members ds ns m (statements_in (drop (i + 1) ss))) ≡ whole
member_split ds ns ss i s r old new n m whole within is so_far made place next =
    let rest = statements_in (drop (i + 1) ss) in
    ap (λ (xs : List Stmt). onto and_member (map statement_of xs) (split_members ds ns m rest)) next
    ∙ (onto_push and_member statement_of old r (split_members ds ns m rest)
    ∙ (ap (λ z. onto and_member (map statement_of old) (and_member z (split_members ds ns m rest))) made
    ∙ (ap (λ k. onto and_member (map statement_of old) (and_member (split_statement ds ns n (statement_of s)) (split_members ds ns k rest))) place
    ∙ (ap (λ us. onto and_member (map statement_of old) (split_members ds ns n us)) (sym (members_more ss i s within is)) ∙ so_far))))

pub member_placed : (ds : List Decl) (ss : List Stmt) (i : ℕ) (s : Stmt) (n m whole : ℕ) → i < length ss → s ≡ get_or ss i s
    → n + length (own_readers_each ds (statements_in (drop i ss))) ≡ whole → m ≡ n + length (own_readers ds (statement_of s))
    → m + length (own_readers_each ds (statements_in (drop (i + 1) ss))) ≡ whole
member_placed ds ss i s n m whole within is so_far place =
    let xs = own_readers ds (statement_of s) in
    let ys = own_readers_each ds (statements_in (drop (i + 1) ss)) in
    let more : n + length (xs ++ ys) ≡ whole = ap (λ us. n + length (own_readers_each ds us)) (sym (members_more ss i s within is)) ∙ so_far in
    omega (arith, more, place, length-append xs ys)

pub member_fits : (ds : List Decl) (ss : List Stmt) (i : ℕ) (s : Stmt) (n whole most : ℕ) → i < length ss → s ≡ get_or ss i s
    → n + length (own_readers_each ds (statements_in (drop i ss))) ≡ whole → whole ≤ most → n + length (own_readers ds (statement_of s)) ≤ most
member_fits ds ss i s n whole most within is so_far fits =
    let xs = own_readers ds (statement_of s) in
    let ys = own_readers_each ds (statements_in (drop (i + 1) ss)) in
    let more : n + length (xs ++ ys) ≡ whole = ap (λ us. n + length (own_readers_each ds us)) (sym (members_more ss i s within is)) ∙ so_far in
    omega (arith, more, fits, length-append xs ys)

members_placed : (ds : List Decl) (ss : List Stmt) (i n whole : ℕ) → length ss ≤ i → n + length (own_readers_each ds (statements_in (drop i ss))) ≡ whole
    → n ≡ whole
members_placed ds ss i n whole over so_far =
    let none : n + 0 ≡ whole = ap (λ us. n + length (own_readers_each ds us)) (sym (members_end ss i over)) ∙ so_far in omega (arith, none)

then_placed : (ds : List Decl) (s : Stmt) (v : Vec Stmt Global) (ss : List Stmt) (i n m : ℕ) → s ≡ Then v → ss ≡ v.items → length ss ≤ i
    → m + length (own_readers_each ds (statements_in (drop i ss))) ≡ n + length (own_readers_each ds (statements_in ss))
    → m ≡ n + length (own_readers ds (statement_of s))
then_placed ds s v ss i n m is items over so_far =
    members_placed ds ss i m _ over so_far
    ∙ ap (λ k. n + length k) (ap (λ (xs : List Stmt). own_readers_each ds (statements_in xs)) items ∙ sym (ap (own_readers ds) (then_is s v is)))

beside_placed : (ds : List Decl) (s : Stmt) (v : Vec Stmt Global) (ss : List Stmt) (i n m : ℕ) → s ≡ Beside v → ss ≡ v.items → length ss ≤ i
    → m + length (own_readers_each ds (statements_in (drop i ss))) ≡ n + length (own_readers_each ds (statements_in ss))
    → m ≡ n + length (own_readers ds (statement_of s))
beside_placed ds s v ss i n m is items over so_far =
    members_placed ds ss i m _ over so_far
    ∙ ap (λ k. n + length k) (ap (λ (xs : List Stmt). own_readers_each ds (statements_in xs)) items ∙ sym (ap (own_readers ds) (beside_is s v is)))

then_split : (ds : List Decl) (ns : List (List ℕ)) (s : Stmt) (v w : Vec Stmt Global) (ss : List Stmt) (i n m : ℕ) → s ≡ Then v → ss ≡ v.items
    → length ss ≤ i
    → onto and_member (map statement_of w.items) (split_members ds ns m (statements_in (drop i ss))) ≡ split_members ds ns n (statements_in ss)
    → statement_of (Then w) ≡ split_statement ds ns n (statement_of s)
then_split ds ns s v w ss i n m is items over so_far =
    then_tree w
    ∙ (ap follows (ap (λ us. onto and_member (map statement_of w.items) (split_members ds ns m us)) (sym (members_end ss i over)) ∙ so_far)
    ∙ (ap (λ (xs : List Stmt). follows (split_members ds ns n (statements_in xs))) items ∙ sym (ap (split_statement ds ns n) (then_is s v is))))

beside_split : (ds : List Decl) (ns : List (List ℕ)) (s : Stmt) (v w : Vec Stmt Global) (ss : List Stmt) (i n m : ℕ) → s ≡ Beside v → ss ≡ v.items
    → length ss ≤ i
    → onto and_member (map statement_of w.items) (split_members ds ns m (statements_in (drop i ss))) ≡ split_members ds ns n (statements_in ss)
    → statement_of (Beside w) ≡ split_statement ds ns n (statement_of s)
beside_split ds ns s v w ss i n m is items over so_far =
    beside_tree w
    ∙ (ap besides (ap (λ us. onto and_member (map statement_of w.items) (split_members ds ns m us)) (sym (members_end ss i over)) ∙ so_far)
    ∙ (ap (λ (xs : List Stmt). besides (split_members ds ns n (statements_in xs))) items ∙ sym (ap (split_statement ds ns n) (beside_is s v is))))

-- a group of one kind or the other

pub group_placed : (ds : List Decl) (s : Stmt) (v : Vec Stmt Global) (ss : List Stmt) (i n m : ℕ) → (s ≡ Then v) ⊎ (s ≡ Beside v) → ss ≡ v.items
    → length ss ≤ i → m + length (own_readers_each ds (statements_in (drop i ss))) ≡ n + length (own_readers_each ds (statements_in ss))
    → m ≡ n + length (own_readers ds (statement_of s))
group_placed ds s v ss i n m (inl is) = then_placed ds s v ss i n m is
group_placed ds s v ss i n m (inr is) = beside_placed ds s v ss i n m is

pub group_split : (ds : List Decl) (ns : List (List ℕ)) (s made : Stmt) (v w : Vec Stmt Global) (ss : List Stmt) (i n m : ℕ) → (s ≡ Then v) ⊎ (s ≡ Beside v)
    → ss ≡ v.items → length ss ≤ i
    → onto and_member (map statement_of w.items) (split_members ds ns m (statements_in (drop i ss))) ≡ split_members ds ns n (statements_in ss)
    → ((u : Vec Stmt Global) → s ≡ Then u → made ≡ Then w) → ((u : Vec Stmt Global) → s ≡ Beside u → made ≡ Beside w)
    → statement_of made ≡ split_statement ds ns n (statement_of s)
group_split ds ns s made v w ss i n m (inl is) items over so_far turns sides =
    ap statement_of (turns v is) ∙ then_split ds ns s v w ss i n m is items over so_far
group_split ds ns s made v w ss i n m (inr is) items over so_far turns sides =
    ap statement_of (sides v is) ∙ beside_split ds ns s v w ss i n m is items over so_far

-- arms

pub arm_placed : (ds : List Decl) (xs : List Arm) (i : ℕ) (a : Arm) (n m whole : ℕ) → i < length xs → a ≡ get_or xs i a
    → n + length (own_readers_arms ds (arms_in (drop i xs))) ≡ whole → m ≡ n + length (own_readers ds (statement_of a.body))
    → m + length (own_readers_arms ds (arms_in (drop (i + 1) xs))) ≡ whole
arm_placed ds xs i a n m whole within is so_far place =
    let ys = own_readers ds (statement_of a.body) in
    let zs = own_readers_arms ds (arms_in (drop (i + 1) xs)) in
    let more : n + length (ys ++ zs) ≡ whole = ap (λ us. n + length (own_readers_arms ds us)) (sym (arms_more xs i a within is)) ∙ so_far in
    omega (arith, more, place, length-append ys zs)

pub arm_fits : (ds : List Decl) (xs : List Arm) (i : ℕ) (a : Arm) (n whole most : ℕ) → i < length xs → a ≡ get_or xs i a
    → n + length (own_readers_arms ds (arms_in (drop i xs))) ≡ whole → whole ≤ most → n + length (own_readers ds (statement_of a.body)) ≤ most
arm_fits ds xs i a n whole most within is so_far fits =
    let ys = own_readers ds (statement_of a.body) in
    let zs = own_readers_arms ds (arms_in (drop (i + 1) xs)) in
    let more : n + length (ys ++ zs) ≡ whole = ap (λ us. n + length (own_readers_arms ds us)) (sym (arms_more xs i a within is)) ∙ so_far in
    omega (arith, more, fits, length-append ys zs)

pub select_placed : (ds : List Decl) (s : Stmt) (again : Bool) (v : Vec Arm Global) (xs : List Arm) (i n m : ℕ) → s ≡ Select again v → xs ≡ v.items
    → length xs ≤ i → m + length (own_readers_arms ds (arms_in (drop i xs))) ≡ n + length (own_readers_arms ds (arms_in xs))
    → m ≡ n + length (own_readers ds (statement_of s))
select_placed ds s again v xs i n m is items over so_far =
    let none : m + 0 ≡ n + length (own_readers_arms ds (arms_in xs)) = ap (λ us. m + length (own_readers_arms ds us)) (sym (arms_end xs i over)) ∙ so_far in
    let here : m ≡ n + length (own_readers_arms ds (arms_in xs)) = omega (arith, none) in
    here ∙ ap (λ k. n + length k) (ap (λ (ys : List Arm). own_readers_arms ds (arms_in ys)) items ∙ sym (ap (own_readers ds) (select_is s again v is)))

pub select_split : (ds : List Decl) (ns : List (List ℕ)) (s : Stmt) (again : Bool) (v w : Vec Arm Global) (xs : List Arm) (i n m : ℕ) → s ≡ Select again v
    → xs ≡ v.items → length xs ≤ i
    → onto and_guarded (map guarded_of w.items) (split_arms ds ns m (arms_in (drop i xs))) ≡ split_arms ds ns n (arms_in xs)
    → statement_of (Select again w) ≡ split_statement ds ns n (statement_of s)
select_split ds ns s again v w xs i n m is items over so_far =
    select_tree again w
    ∙ (ap (λ us. selects again us)
    (ap (λ us. onto and_guarded (map guarded_of w.items) (split_arms ds ns m us)) (sym (arms_end xs i over)) ∙ so_far)
    ∙ (ap (λ (ys : List Arm). selects again (split_arms ds ns n (arms_in ys))) items ∙ sym (ap (split_statement ds ns n) (select_is s again v is))))

-- the same where a member, an arm or the whole comes in a box, if it was made

pub member_added : {E : Type 0} (ds : List Decl) (ns : List (List ℕ)) (ss : List Stmt) (i : ℕ) (s : Stmt) (r : Result (Box Stmt Global) E)
    (old new : List Stmt) (n m : ℕ) (whole : Statements) → i < length ss → s ≡ get_or ss i s
    → onto and_member (map statement_of old) (split_members ds ns n (statements_in (drop i ss))) ≡ whole
    → IfOk r (λ (b : Box Stmt Global). statement_of b.value ≡ split_statement ds ns n (statement_of s))
    → OnOk r (m ≡ n + length (own_readers ds (statement_of s))) → IsOk r → IfOk r (λ (b : Box Stmt Global). new ≡ old ++ b.value ∷ [])
    → onto and_member (map statement_of new) (split_members ds ns m (statements_in (drop (i + 1) ss))) ≡ whole
member_added ds ns ss i s (Ok b) old new n m whole within is so_far made place ok next =
    member_split ds ns ss i s b.value old new n m whole within is so_far made place next
member_added ds ns ss i s (Err e) old new n m whole within is so_far made place ok next = absurd (cc ok)

pub of_made : {T E : Type 0} (r : Result T E) (P : Type 0) → IsOk r → OnOk r P → P
of_made (Ok x) P ok p = p
of_made (Err e) P ok p = absurd (cc ok)

pub if_made : {T E : Type 0} (r : Result T E) (P : Type 0) → P → OnOk r P
if_made (Ok x) P p = p
if_made (Err e) P p = tt

onto_last : {B U : Type 0} (more : B → U → U) (bs : List B) (b : B) (us : U) → onto more (bs ++ b ∷ []) us ≡ onto more bs (more b us)
onto_last more [] b us = refl
onto_last more (c ∷ bs) b us = ap (more c) (onto_last more bs b us)

pub arm_added : {E : Type 0} (ds : List Decl) (ns : List (List ℕ)) (xs : List Arm) (i : ℕ) (a : Arm) (r : Result (Box Stmt Global) E) (old new : List Arm)
    (n m : ℕ) (whole : Arms) → i < length xs → a ≡ get_or xs i a
    → onto and_guarded (map guarded_of old) (split_arms ds ns n (arms_in (drop i xs))) ≡ whole
    → IfOk r (λ (b : Box Stmt Global). statement_of b.value ≡ split_statement ds ns n (statement_of a.body))
    → OnOk r (m ≡ n + length (own_readers ds (statement_of a.body))) → IsOk r
    → IfOk r (λ (b : Box Stmt Global). map guarded_of new ≡ map guarded_of old ++ guarded (expression_of a.guard) (statement_of b.value) ∷ [])
    → onto and_guarded (map guarded_of new) (split_arms ds ns m (arms_in (drop (i + 1) xs))) ≡ whole
arm_added ds ns xs i a (Ok b) old new n m whole within is so_far made place ok next =
    let rest = arms_in (drop (i + 1) xs) in
    ap (λ (gs : List Guarded). onto and_guarded gs (split_arms ds ns m rest)) next
    ∙ (onto_last and_guarded (map guarded_of old) (guarded (expression_of a.guard) (statement_of b.value)) (split_arms ds ns m rest)
    ∙ (ap (λ z. onto and_guarded (map guarded_of old) (and_arm (expression_of a.guard) z (split_arms ds ns m rest))) made
    ∙ (ap (λ k. onto and_guarded (map guarded_of old)
    (and_arm (expression_of a.guard) (split_statement ds ns n (statement_of a.body)) (split_arms ds ns k rest))) place
    ∙ (ap (λ us. onto and_guarded (map guarded_of old) (split_arms ds ns n us)) (sym (arms_more xs i a within is)) ∙ so_far))))
arm_added ds ns xs i a (Err e) old new n m whole within is so_far made place ok next = absurd (cc ok)

pub grouped_split : {E : Type 0} (ds : List Decl) (ns : List (List ℕ)) (s : Stmt) (made : Result (Box Stmt Global) E) (v w : Vec Stmt Global)
    (ss : List Stmt) (i n m : ℕ) → (s ≡ Then v) ⊎ (s ≡ Beside v) → ss ≡ v.items → length ss ≤ i
    → onto and_member (map statement_of w.items) (split_members ds ns m (statements_in (drop i ss))) ≡ split_members ds ns n (statements_in ss)
    → ((u : Vec Stmt Global) → s ≡ Then u → IfOk made (λ (b : Box Stmt Global). b.value ≡ Then w))
    → ((u : Vec Stmt Global) → s ≡ Beside u → IfOk made (λ (b : Box Stmt Global). b.value ≡ Beside w))
    → IfOk made (λ (b : Box Stmt Global). statement_of b.value ≡ split_statement ds ns n (statement_of s))
grouped_split ds ns s (Ok b) v w ss i n m is items over so_far turns sides = group_split ds ns s b.value v w ss i n m is items over so_far turns sides
grouped_split ds ns s (Err e) v w ss i n m is items over so_far turns sides = tt

pub selected_split : {E : Type 0} (ds : List Decl) (ns : List (List ℕ)) (s : Stmt) (made : Result (Box Stmt Global) E) (again : Bool) (v w : Vec Arm Global)
    (xs : List Arm) (i n m : ℕ) → s ≡ Select again v → xs ≡ v.items → length xs ≤ i
    → onto and_guarded (map guarded_of w.items) (split_arms ds ns m (arms_in (drop i xs))) ≡ split_arms ds ns n (arms_in xs)
    → IfOk made (λ (b : Box Stmt Global). b.value ≡ Select again w)
    → IfOk made (λ (b : Box Stmt Global). statement_of b.value ≡ split_statement ds ns n (statement_of s))
selected_split ds ns s (Ok b) again v w xs i n m is items over so_far same =
    ap statement_of same ∙ select_split ds ns s again v w xs i n m is items over so_far
selected_split ds ns s (Err e) again v w xs i n m is items over so_far same = tt

-- what is needed at the members of a statement is what is needed at it

then_room : (ds : List Decl) (s : Stmt) (v : Vec Stmt Global) (ss : List Stmt) (n most : ℕ) → s ≡ Then v → ss ≡ v.items
    → n + length (own_readers ds (statement_of s)) ≤ most → n + length (own_readers_each ds (statements_in ss)) ≤ most
then_room ds s v ss n most is items fits =
    subst (λ k. n + length k ≤ most)
    (ap (own_readers ds) (then_is s v is) ∙ sym (ap (λ (xs : List Stmt). own_readers_each ds (statements_in xs)) items)) fits

beside_room : (ds : List Decl) (s : Stmt) (v : Vec Stmt Global) (ss : List Stmt) (n most : ℕ) → s ≡ Beside v → ss ≡ v.items
    → n + length (own_readers ds (statement_of s)) ≤ most → n + length (own_readers_each ds (statements_in ss)) ≤ most
beside_room ds s v ss n most is items fits =
    subst (λ k. n + length k ≤ most)
    (ap (own_readers ds) (beside_is s v is) ∙ sym (ap (λ (xs : List Stmt). own_readers_each ds (statements_in xs)) items)) fits

pub group_room : (ds : List Decl) (s : Stmt) (v : Vec Stmt Global) (ss : List Stmt) (n most : ℕ) → (s ≡ Then v) ⊎ (s ≡ Beside v) → ss ≡ v.items
    → n + length (own_readers ds (statement_of s)) ≤ most → n + length (own_readers_each ds (statements_in ss)) ≤ most
group_room ds s v ss n most (inl is) = then_room ds s v ss n most is
group_room ds s v ss n most (inr is) = beside_room ds s v ss n most is

pub select_room : (ds : List Decl) (s : Stmt) (again : Bool) (v : Vec Arm Global) (xs : List Arm) (n most : ℕ) → s ≡ Select again v → xs ≡ v.items
    → n + length (own_readers ds (statement_of s)) ≤ most → n + length (own_readers_arms ds (arms_in xs)) ≤ most
select_room ds s again v xs n most is items fits =
    subst (λ k. n + length k ≤ most)
    (ap (own_readers ds) (select_is s again v is) ∙ sym (ap (λ (ys : List Arm). own_readers_arms ds (arms_in ys)) items)) fits

-- procedures

abbrev pub readers_of : List Decl → List Procedure → List Ident
readers_of ds qs = flat_map (λ (q : Procedure). own_readers ds q.body) qs

procs_more : (qs : List Proc) (i : ℕ) (q : Proc) → i < length qs → q ≡ get_or qs i q →
    map procedure_of (drop i qs) ≡ procedure_of q ∷ map procedure_of (drop (i + 1) qs)
procs_more qs i q within is = ap (map procedure_of) (drop_more qs i q within) ∙ ap (λ (x : Proc). procedure_of x ∷ map procedure_of (drop (i + 1) qs)) (sym is)

pub procedure_split : (ds : List Decl) (ns : List (List ℕ)) (qs : List Proc) (i : ℕ) (q : Proc) (r : Body) (s : Stmt) (old new : List Body) (n m : ℕ)
    (whole : List Procedure) → i < length qs → q ≡ get_or qs i q
    → procedures_of old ++ split_procedures ds ns n (map procedure_of (drop i qs)) ≡ whole → r.procedure.name ≡ q.name → r.procedure.body ≡ s
    → statement_of s ≡ split_statement ds ns n (statement_of q.body) → m ≡ n + length (own_readers ds (statement_of q.body)) → new ≡ old ++ r ∷ []
    → procedures_of new ++ split_procedures ds ns m (map procedure_of (drop (i + 1) qs)) ≡ whole
procedure_split ds ns qs i q r s old new n m whole within is so_far name body made place next =
    let rest = map procedure_of (drop (i + 1) qs) in
    let make : Ident → Statement → Procedure = λ x y. record { name = x; body = y } in
    ap (λ (xs : List Body). procedures_of xs ++ split_procedures ds ns m rest) next
    ∙ (ap (λ z. z ++ split_procedures ds ns m rest) (map-append (λ (b : Body). procedure_of b.procedure) old (r ∷ []))
    ∙ (append_assoc (procedures_of old) (procedure_of r.procedure ∷ []) (split_procedures ds ns m rest)
    ∙ (ap (λ x. procedures_of old ++ make x (statement_of r.procedure.body) ∷ split_procedures ds ns m rest) name
    ∙ (ap (λ x. procedures_of old ++ make q.name x ∷ split_procedures ds ns m rest) (ap statement_of body ∙ made)
    ∙ (ap (λ k. procedures_of old ++ make q.name (split_statement ds ns n (statement_of q.body)) ∷ split_procedures ds ns k rest) place
    ∙ (ap (λ us. procedures_of old ++ split_procedures ds ns n us) (sym (procs_more qs i q within is)) ∙ so_far))))))

pub procedure_placed : (ds : List Decl) (qs : List Proc) (i : ℕ) (q : Proc) (n m whole : ℕ) → i < length qs → q ≡ get_or qs i q
    → n + length (readers_of ds (map procedure_of (drop i qs))) ≡ whole → m ≡ n + length (own_readers ds (statement_of q.body))
    → m + length (readers_of ds (map procedure_of (drop (i + 1) qs))) ≡ whole
procedure_placed ds qs i q n m whole within is so_far place =
    let ys = own_readers ds (statement_of q.body) in
    let zs = readers_of ds (map procedure_of (drop (i + 1) qs)) in
    let more : n + length (ys ++ zs) ≡ whole = ap (λ us. n + length (readers_of ds us)) (sym (procs_more qs i q within is)) ∙ so_far in
    omega (arith, more, place, length-append ys zs)

pub procedure_fits : (ds : List Decl) (qs : List Proc) (i : ℕ) (q : Proc) (n whole most : ℕ) → i < length qs → q ≡ get_or qs i q
    → n + length (readers_of ds (map procedure_of (drop i qs))) ≡ whole → whole ≤ most → n + length (own_readers ds (statement_of q.body)) ≤ most
procedure_fits ds qs i q n whole most within is so_far fits =
    let ys = own_readers ds (statement_of q.body) in
    let zs = readers_of ds (map procedure_of (drop (i + 1) qs)) in
    let more : n + length (ys ++ zs) ≡ whole = ap (λ us. n + length (readers_of ds us)) (sym (procs_more qs i q within is)) ∙ so_far in
    omega (arith, more, fits, length-append ys zs)

pub procedures_split : (ds : List Decl) (ns : List (List ℕ)) (qs : List Proc) (i : ℕ) (made : List Body) (m : ℕ) (whole : List Procedure) → length qs ≤ i
    → procedures_of made ++ split_procedures ds ns m (map procedure_of (drop i qs)) ≡ whole → procedures_of made ≡ whole
procedures_split ds ns qs i made m whole over so_far =
    sym (append-nil (procedures_of made))
    ∙ (ap (λ (xs : List Proc). procedures_of made ++ split_procedures ds ns m (map procedure_of xs)) (sym (drop_all i qs over)) ∙ so_far)

-- splitting keeps the names of procedures
pub names_kept : (ds : List Decl) (ns : List (List ℕ)) (n : ℕ) (qs : List Procedure) →
    map (λ (q : Procedure). q.name.name) (split_procedures ds ns n qs) ≡ map (λ (q : Procedure). q.name.name) qs
names_kept ds ns n [] = refl
names_kept ds ns n (q ∷ qs) = ap (λ z. q.name.name ∷ z) (names_kept ds ns (n + length (own_readers ds q.body)) qs)
