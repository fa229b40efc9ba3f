-- What is collected of members one after the other.
use Rattle.std.proofs.Common.{◌≡◌, ℕ, ◌+◌, ◌<◌, ◌≤◌, Bool, List, [], ◌++◌, length, get_or, drop, refl, sym, ap, ◌∙◌, append-nil, append_assoc, ◌⊎◌, inl, inr}
use Rattle.std.specs.declared.alloc.Global.{Global}
use Rattle.std.specs.declared.boxed.Box.{Box}
use Rattle.std.specs.declared.vec.Vec.{Vec}
use Rattle.chp_base.specs.declared.span.Span.{Span}
use Rattle.chp_syntax.specs.declared.tree.Arm.{Arm}
use Rattle.chp_syntax.specs.declared.tree.Expr.{Expr, Join, Chain}
use Rattle.chp_syntax.specs.declared.tree.Link.{Link}
use Rattle.chp_syntax.specs.declared.tree.Stmt.{Stmt, Then, Beside, Select}
use Rattle.chp_syntax.specs.declared.tree.Op.{Op}
use Rattle.chp_syntax.specs.Trees.{Expression, join, chain, Expressions, no_parts, and_part, Links, no_links, and_link, Statement, follows, besides, selects, Statements, no_members, and_member, Arms, no_arms, and_arm}
use Rattle.chp_syntax.specs.View.{expression_of, statement_of}
use Rattle.width_check.specs.Walk.{join_parts, links_in, statements_in, arms_in}
use Rattle.width_check.proofs.Lists.{join_is, chain_is, then_is, beside_is, select_is, parts_more, parts_end, links_more, links_end, members_more, members_end, arms_more, arms_end}

-- lists that are collected of statements: those of the parts, in order
pub record Collects {A : Type 0} (f : Statement → List A) (each : Statements → List A) (arms : Arms → List A) (guards : Expression → List A) : Type 0 where
  pub no_member : each no_members ≡ []
  pub one_member : (s : Statement) (more : Statements) → each (and_member s more) ≡ f s ++ each more
  pub no_arm : arms no_arms ≡ []
  pub one_arm : (g : Expression) (s : Statement) (more : Arms) → arms (and_arm g s more) ≡ guards g ++ (f s ++ arms more)
  pub turns : (members : Statements) → f (follows members) ≡ each members
  pub sides : (members : Statements) → f (besides members) ≡ each members
  pub choices : (again : Bool) (xs : Arms) → f (selects again xs) ≡ arms xs

next_one : {A : Type 0} (old new here rest all whole : List A) → old ++ all ≡ whole → all ≡ here ++ rest → new ≡ old ++ here → new ++ rest ≡ whole
next_one old new here rest all whole so_far more next =
    ap (λ z. z ++ rest) next ∙ (append_assoc old here rest ∙ (ap (λ z. old ++ z) (sym more) ∙ so_far))

at_end : {A : Type 0} (old new all whole : List A) → new ++ all ≡ whole → all ≡ [] → new ≡ whole
at_end old new all whole so_far none = sym (append-nil new) ∙ (ap (λ z. new ++ z) (sym none) ∙ so_far)

pub member_collected : {A : Type 0} {f : Statement → List A} {each : Statements → List A} {arms : Arms → List A} {guards : Expression → List A}
    → Collects f each arms guards → (ss : List Stmt) (i : ℕ) (s : Stmt) (old new whole : List A) → i < length ss → s ≡ get_or ss i s
    → old ++ each (statements_in (drop i ss)) ≡ whole → new ≡ old ++ f (statement_of s) → new ++ each (statements_in (drop (i + 1) ss)) ≡ whole
member_collected {A} {f} {each} all ss i s old new whole within is so_far next =
    next_one old new (f (statement_of s)) (each (statements_in (drop (i + 1) ss))) (each (statements_in (drop i ss))) whole so_far
    (ap each (members_more ss i s within is) ∙ all.one_member (statement_of s) (statements_in (drop (i + 1) ss))) next

pub arm_collected : {A : Type 0} {f : Statement → List A} {each : Statements → List A} {arms : Arms → List A} {guards : Expression → List A}
    → Collects f each arms guards → (xs : List Arm) (i : ℕ) (a : Arm) (old mid new whole : List A) → i < length xs → a ≡ get_or xs i a
    → old ++ arms (arms_in (drop i xs)) ≡ whole → mid ≡ old ++ guards (expression_of a.guard) → new ≡ mid ++ f (statement_of a.body)
    → new ++ arms (arms_in (drop (i + 1) xs)) ≡ whole
arm_collected {A} {f} {each} {arms} {guards} all xs i a old mid new whole within is so_far guard next =
    let rest = arms (arms_in (drop (i + 1) xs)) in
    let more = ap arms (arms_more xs i a within is) ∙ all.one_arm (expression_of a.guard) (statement_of a.body) (arms_in (drop (i + 1) xs)) in
    next_one mid new (f (statement_of a.body)) rest (f (statement_of a.body) ++ rest) whole
    (next_one old mid (guards (expression_of a.guard)) (f (statement_of a.body) ++ rest) (arms (arms_in (drop i xs))) whole so_far more guard) refl next

then_collected : {A : Type 0} {f : Statement → List A} {each : Statements → List A} {arms : Arms → List A} {guards : Expression → List A}
    → Collects f each arms guards → (s : Stmt) (v : Vec Stmt Global) (ss : List Stmt) (i : ℕ) (old new : List A) → s ≡ Then v → ss ≡ v.items → length ss ≤ i
    → new ++ each (statements_in (drop i ss)) ≡ old ++ each (statements_in ss) → new ≡ old ++ f (statement_of s)
then_collected {A} {f} {each} all s v ss i old new is items over so_far =
    at_end old new (each (statements_in (drop i ss))) (old ++ each (statements_in ss)) so_far (ap each (members_end ss i over) ∙ all.no_member)
    ∙ ap (λ z. old ++ z) (ap (λ (xs : List Stmt). each (statements_in xs)) items ∙ sym (ap f (then_is s v is) ∙ all.turns (statements_in v.items)))

beside_collected : {A : Type 0} {f : Statement → List A} {each : Statements → List A} {arms : Arms → List A} {guards : Expression → List A}
    → Collects f each arms guards → (s : Stmt) (v : Vec Stmt Global) (ss : List Stmt) (i : ℕ) (old new : List A) → s ≡ Beside v → ss ≡ v.items → length ss ≤ i
    → new ++ each (statements_in (drop i ss)) ≡ old ++ each (statements_in ss) → new ≡ old ++ f (statement_of s)
beside_collected {A} {f} {each} all s v ss i old new is items over so_far =
    at_end old new (each (statements_in (drop i ss))) (old ++ each (statements_in ss)) so_far (ap each (members_end ss i over) ∙ all.no_member)
    ∙ ap (λ z. old ++ z) (ap (λ (xs : List Stmt). each (statements_in xs)) items ∙ sym (ap f (beside_is s v is) ∙ all.sides (statements_in v.items)))

pub group_collected : {A : Type 0} {f : Statement → List A} {each : Statements → List A} {arms : Arms → List A} {guards : Expression → List A}
    → Collects f each arms guards → (s : Stmt) (v : Vec Stmt Global) (ss : List Stmt) (i : ℕ) (old new : List A) → (s ≡ Then v) ⊎ (s ≡ Beside v)
    → ss ≡ v.items → length ss ≤ i → new ++ each (statements_in (drop i ss)) ≡ old ++ each (statements_in ss) → new ≡ old ++ f (statement_of s)
group_collected all s v ss i old new (inl is) = then_collected all s v ss i old new is
group_collected all s v ss i old new (inr is) = beside_collected all s v ss i old new is

pub select_collected : {A : Type 0} {f : Statement → List A} {each : Statements → List A} {arms : Arms → List A} {guards : Expression → List A}
    → Collects f each arms guards → (s : Stmt) (again : Bool) (v : Vec Arm Global) (xs : List Arm) (i : ℕ) (old new : List A) → s ≡ Select again v
    → xs ≡ v.items → length xs ≤ i → new ++ arms (arms_in (drop i xs)) ≡ old ++ arms (arms_in xs) → new ≡ old ++ f (statement_of s)
select_collected {A} {f} {each} {arms} all s again v xs i old new is items over so_far =
    at_end old new (arms (arms_in (drop i xs))) (old ++ arms (arms_in xs)) so_far (ap arms (arms_end xs i over) ∙ all.no_arm)
    ∙ ap (λ z. old ++ z) (ap (λ (ys : List Arm). arms (arms_in ys)) items ∙ sym (ap f (select_is s again v is) ∙ all.choices again (arms_in v.items)))

-- of expressions

pub record CollectsReads {A : Type 0} (f : Expression → List A) (each : Expressions → List A) (links : Links → List A) : Type 0 where
  pub no_part : each no_parts ≡ []
  pub one_part : (e : Expression) (more : Expressions) → each (and_part e more) ≡ f e ++ each more
  pub no_link : links no_links ≡ []
  pub one_link : (op : Op) (e : Expression) (more : Links) → links (and_link op e more) ≡ f e ++ links more
  pub joins : (parts : Expressions) (at : Span) → f (join parts at) ≡ each parts
  pub chains : (e : Expression) (more : Links) (at : Span) → f (chain e more at) ≡ f e ++ links more

pub part_collected : {A : Type 0} {f : Expression → List A} {each : Expressions → List A} {links : Links → List A} → CollectsReads f each links
    → (es : List Expr) (i : ℕ) (e : Expr) (old new whole : List A) → i < length es → e ≡ get_or es i e
    → old ++ each (join_parts (drop i es)) ≡ whole → new ≡ old ++ f (expression_of e) → new ++ each (join_parts (drop (i + 1) es)) ≡ whole
part_collected {A} {f} {each} all es i e old new whole within is so_far next =
    next_one old new (f (expression_of e)) (each (join_parts (drop (i + 1) es))) (each (join_parts (drop i es))) whole so_far
    (ap each (parts_more es i e within is) ∙ all.one_part (expression_of e) (join_parts (drop (i + 1) es))) next

pub link_collected : {A : Type 0} {f : Expression → List A} {each : Expressions → List A} {links : Links → List A} → CollectsReads f each links
    → (ls : List Link) (i : ℕ) (l : Link) (old new whole : List A) → i < length ls → l ≡ get_or ls i l
    → old ++ links (links_in (drop i ls)) ≡ whole → new ≡ old ++ f (expression_of l.right) → new ++ links (links_in (drop (i + 1) ls)) ≡ whole
link_collected {A} {f} {each} {links} all ls i l old new whole within is so_far next =
    next_one old new (f (expression_of l.right)) (links (links_in (drop (i + 1) ls))) (links (links_in (drop i ls))) whole so_far
    (ap links (links_more ls i l within is) ∙ all.one_link l.op (expression_of l.right) (links_in (drop (i + 1) ls))) next

pub join_collected : {A : Type 0} {f : Expression → List A} {each : Expressions → List A} {links : Links → List A} → CollectsReads f each links
    → (e : Expr) (v : Vec Expr Global) (at : Span) (es : List Expr) (i : ℕ) (old new : List A) → e ≡ Join v at → es ≡ v.items → length es ≤ i
    → new ++ each (join_parts (drop i es)) ≡ old ++ each (join_parts es) → new ≡ old ++ f (expression_of e)
join_collected {A} {f} {each} all e v at es i old new is items over so_far =
    at_end old new (each (join_parts (drop i es))) (old ++ each (join_parts es)) so_far (ap each (parts_end es i over) ∙ all.no_part)
    ∙ ap (λ z. old ++ z) (ap (λ (xs : List Expr). each (join_parts xs)) items ∙ sym (ap f (join_is e v at is) ∙ all.joins (join_parts v.items) at))

pub chain_collected : {A : Type 0} {f : Expression → List A} {each : Expressions → List A} {links : Links → List A} → CollectsReads f each links
    → (e : Expr) (first : Box Expr Global) (v : Vec Link Global) (at : Span) (ls : List Link) (i : ℕ) (old mid new : List A) → e ≡ Chain first v at
    → ls ≡ v.items → length ls ≤ i → mid ≡ old ++ f (expression_of first.value)
    → new ++ links (links_in (drop i ls)) ≡ mid ++ links (links_in ls) → new ≡ old ++ f (expression_of e)
chain_collected {A} {f} {each} {links} all e first v at ls i old mid new is items over front so_far =
    let x = f (expression_of first.value) in
    at_end mid new (links (links_in (drop i ls))) (mid ++ links (links_in ls)) so_far (ap links (links_end ls i over) ∙ all.no_link)
    ∙ (ap (λ z. z ++ links (links_in ls)) front ∙ (append_assoc old x (links (links_in ls))
    ∙ ap (λ z. old ++ z) (ap (λ (xs : List Link). x ++ links (links_in xs)) items
    ∙ sym (ap f (chain_is e first v at is) ∙ all.chains (expression_of first.value) (links_in v.items) at))))
