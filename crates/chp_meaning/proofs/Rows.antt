-- The members, arms and branches of a statement and of what is left of it, as lists.
use Rattle.std.proofs.Common.{◌≡◌, ℕ, zero, suc, ◌+◌, ◌<◌, ◌≤◌, Bool, List, [], ◌∷◌, ◌++◌, length, get_or, drop, refl, sym, ap, ◌∙◌, subst, arith}
use Rattle.std.specs.Prelude.{if◌then◌else◌}
use Rattle.std.proofs.lemmas.Bool.{lt-ltb, le-ltb}
use Rattle.std.proofs.lemmas.List.{drop_more, drop_all}
use Rattle.std.specs.declared.alloc.Global.{Global}
use Rattle.std.specs.declared.boxed.Box.{Box}
use Rattle.std.specs.declared.vec.Vec.{Vec}
use Rattle.width_check.specs.declared.typed.TStmt.{TStmt, Then, Beside, Select, Row_of-TStmt, end_of-TStmt, more_of-TStmt, Row_of-TArm, end_of-TArm, more_of-TArm, items-the_row-TStmt, items-the_row-TArm, items_hidden-the_row-TStmt-0, items_hidden-the_row-TArm-1}
use Rattle.width_check.specs.declared.typed.TStmt.TheBlock.{hidden-the_row-TStmt-0, hidden-the_row-TArm-1}
use Rattle.width_check.specs.declared.typed.TArm.{TArm}
use Rattle.width_check.specs.Processes.{Process, skipping, assigning, sending, receiving, in_turn, side_by_side, choosing, repeating, Processes, no_members, and_member, Choices, no_choices, and_choice, member_count, choice_count}
use Rattle.width_check.specs.View.{formula_of, process_of, processes_of, choices_of as row_choices, members_in, choices_in}
use Rattle.chp_meaning.specs.declared.left.Left.{Left, Branches, Inside, Row_of-Left, end_of-Left, more_of-Left, items-the_row-Left, items_hidden-the_row-Left-0}
use Rattle.chp_meaning.specs.declared.left.Left.TheBlock.{hidden-the_row-Left-0}
use Rattle.chp_meaning.specs.Remaining.{within, alongside, Several, no_more, and_left, remains_of, each_of, several_of, member_at, branch_of, part_of, part_count, how_many, begun, first_begun, each_begun, after_part, over, IsRunnable, AreRunnable, ChoicesRunnable, HasMembers}

members_row : {m : _} (row : Row_of-TStmt m) → processes_of row ≡ members_in (items-the_row-TStmt m row)
members_row end_of-TStmt = refl
members_row (more_of-TStmt s rest) = ap (and_member (process_of s)) (members_row rest)

arms_row : {m : _} (row : Row_of-TArm m) → row_choices row ≡ choices_in (items-the_row-TArm m row)
arms_row end_of-TArm = refl
arms_row (more_of-TArm g body rest) = ap (and_choice (formula_of g) (process_of body)) (arms_row rest)

several_row : {m : _} (row : Row_of-Left m) → each_of row ≡ several_of (items-the_row-Left m row)
several_row end_of-Left = refl
several_row (more_of-Left l rest) = ap (and_left (remains_of l)) (several_row rest)

pub then_is : (v : Vec TStmt Global) → process_of (Then v) ≡ in_turn (members_in v.items)
then_is v = ap in_turn (members_row (hidden-the_row-TStmt-0 v) ∙ ap members_in (items_hidden-the_row-TStmt-0 v))

pub beside_is : (v : Vec TStmt Global) → process_of (Beside v) ≡ side_by_side (members_in v.items)
beside_is v = ap side_by_side (members_row (hidden-the_row-TStmt-0 v) ∙ ap members_in (items_hidden-the_row-TStmt-0 v))

pub select_is : (again : Bool) (v : Vec TArm Global) → process_of (Select again v) ≡ choosing again (choices_in v.items)
select_is again v = ap (choosing again) (arms_row (hidden-the_row-TArm-1 v) ∙ ap choices_in (items_hidden-the_row-TArm-1 v))

pub branches_is : (v : Vec Left Global) → remains_of (Branches v) ≡ alongside (several_of v.items)
branches_is v = ap alongside (several_row (hidden-the_row-Left-0 v) ∙ ap several_of (items_hidden-the_row-Left-0 v))

-- the same of what a match says
pub then_said : (s : TStmt) (v : Vec TStmt Global) → s ≡ Then v → process_of s ≡ in_turn (members_in v.items)
then_said s v is = ap process_of is ∙ then_is v

pub beside_said : (s : TStmt) (v : Vec TStmt Global) → s ≡ Beside v → process_of s ≡ side_by_side (members_in v.items)
beside_said s v is = ap process_of is ∙ beside_is v

pub select_said : (s : TStmt) (again : Bool) (v : Vec TArm Global) → s ≡ Select again v → process_of s ≡ choosing again (choices_in v.items)
select_said s again v is = ap process_of is ∙ select_is again v

pub branches_said : (l : Left) (v : Vec Left Global) → l ≡ Branches v → remains_of l ≡ alongside (several_of v.items)
branches_said l v is = ap remains_of is ∙ branches_is v

pub inside_said : (l : Left) (k : ℕ) (b : Box Left Global) → l ≡ Inside k b → remains_of l ≡ within k (remains_of b.value)
inside_said l k b is = ap remains_of is

-- counts
pub count_members : (xs : List TStmt) → member_count (members_in xs) ≡ length xs
count_members [] = refl
count_members (x ∷ xs) = ap suc (count_members xs)

pub count_arms : (xs : List TArm) → choice_count (choices_in xs) ≡ length xs
count_arms [] = refl
count_arms (x ∷ xs) = ap suc (count_arms xs)

pub count_lefts : (xs : List Left) → how_many (several_of xs) ≡ length xs
count_lefts [] = refl
count_lefts (x ∷ xs) = ap suc (count_lefts xs)

-- elements
pub member_is : (xs : List TStmt) (i : ℕ) (d : TStmt) → i < length xs → member_at (members_in xs) i ≡ process_of (get_or xs i d)
member_is [] i d lt = absurd (omega (arith, lt))
member_is (x ∷ xs) zero d lt = refl
member_is (x ∷ xs) (suc i) d lt = member_is xs i d (omega (arith, lt))

pub branch_is : (xs : List TArm) (i : ℕ) (d : TArm) → i < length xs → branch_of (choices_in xs) i ≡ process_of (get_or xs i d).body
branch_is [] i d lt = absurd (omega (arith, lt))
branch_is (x ∷ xs) zero d lt = refl
branch_is (x ∷ xs) (suc i) d lt = branch_is xs i d (omega (arith, lt))

-- what indexing reads
pub then_count : (s : TStmt) (v : Vec TStmt Global) → s ≡ Then v → part_count (process_of s) ≡ length v.items
then_count s v is = ap part_count (then_said s v is) ∙ count_members v.items

pub beside_count : (s : TStmt) (v : Vec TStmt Global) → s ≡ Beside v → part_count (process_of s) ≡ length v.items
beside_count s v is = ap part_count (beside_said s v is) ∙ count_members v.items

pub select_count : (s : TStmt) (again : Bool) (v : Vec TArm Global) → s ≡ Select again v → part_count (process_of s) ≡ length v.items
select_count s again v is = ap part_count (select_said s again v is) ∙ count_arms v.items

pub then_part : (s : TStmt) (v : Vec TStmt Global) (i : ℕ) (x : TStmt) → s ≡ Then v → i < length v.items → x ≡ get_or v.items i x →
    process_of x ≡ part_of (process_of s) i
then_part s v i x is lt at = ap process_of at ∙ (sym (member_is v.items i x lt) ∙ ap (λ p. part_of p i) (sym (then_said s v is)))

pub beside_part : (s : TStmt) (v : Vec TStmt Global) (i : ℕ) (x : TStmt) → s ≡ Beside v → i < length v.items → x ≡ get_or v.items i x →
    process_of x ≡ part_of (process_of s) i
beside_part s v i x is lt at = ap process_of at ∙ (sym (member_is v.items i x lt) ∙ ap (λ p. part_of p i) (sym (beside_said s v is)))

pub select_part : (s : TStmt) (again : Bool) (v : Vec TArm Global) (i : ℕ) (x : TArm) → s ≡ Select again v → i < length v.items → x ≡ get_or v.items i x →
    process_of x.body ≡ part_of (process_of s) i
select_part s again v i x is lt at = ap (λ (a : TArm). process_of a.body) at
    ∙ (sym (branch_is v.items i x lt) ∙ ap (λ p. part_of p i) (sym (select_said s again v is)))

-- what is asked of a statement is asked of its parts
member_runnable : (n m : ℕ) (ms : Processes) (k : ℕ) → k < member_count ms → AreRunnable n m ms → IsRunnable n m (member_at ms k)
member_runnable n m no_members k lt r = absurd (omega (arith, lt))
member_runnable n m (and_member p more) zero lt r = r.0
member_runnable n m (and_member p more) (suc k) lt r = member_runnable n m more k (omega (arith, lt)) r.1

branch_runnable : (n m : ℕ) (cs : Choices) (k : ℕ) → k < choice_count cs → ChoicesRunnable n m cs → IsRunnable n m (branch_of cs k)
branch_runnable n m no_choices k lt r = absurd (omega (arith, lt))
branch_runnable n m (and_choice g p more) zero lt r = r.1
branch_runnable n m (and_choice g p more) (suc k) lt r = branch_runnable n m more k (omega (arith, lt)) r.2

pub part_runnable : (n m : ℕ) (p : Process) (k : ℕ) → k < part_count p → IsRunnable n m p → IsRunnable n m (part_of p k)
part_runnable n m skipping k lt r = absurd (omega (arith, lt))
part_runnable n m (assigning x s e) k lt r = absurd (omega (arith, lt))
part_runnable n m (sending c s e) k lt r = absurd (omega (arith, lt))
part_runnable n m (receiving c s x t) k lt r = absurd (omega (arith, lt))
part_runnable n m (in_turn ms) k lt r = member_runnable n m ms k lt r.1
part_runnable n m (side_by_side ms) k lt r = member_runnable n m ms k lt r.1
part_runnable n m (choosing again cs) k lt r = branch_runnable n m cs k lt r
part_runnable n m (repeating p) k lt r = r

pub part_members : (p : Process) (k : ℕ) → k < part_count p → HasMembers p → HasMembers (part_of p k)
part_members p k lt (n, m, r) = (n, m, part_runnable n m p k lt r)

pub then_some : (s : TStmt) (v : Vec TStmt Global) → s ≡ Then v → HasMembers (process_of s) → 0 < length v.items
then_some s v is h =
    let r = subst (λ p. IsRunnable h.0 h.1 p) (then_said s v is) h.2 in
    omega (arith, r.0, count_members v.items)

-- a statement, begun
first_is : (ms : Processes) → 0 < member_count ms → first_begun ms ≡ begun (member_at ms 0)
first_is no_members lt = absurd (omega (arith, lt))
first_is (and_member p more) lt = refl

pub then_begun : (s : TStmt) (v : Vec TStmt Global) (x : TStmt) → s ≡ Then v → 0 < length v.items → x ≡ get_or v.items 0 x →
    begun (process_of s) ≡ within 0 (begun (process_of x))
then_begun s v x is lt at =
    ap begun (then_said s v is)
    ∙ (ap (within 0) (first_is (members_in v.items) (omega (arith, lt, count_members v.items)))
    ∙ ap (λ p. within 0 (begun p)) (ap (λ p. part_of p 0) (sym (then_said s v is)) ∙ sym (then_part s v 0 x is lt at)))

-- these are done, and then comes the rest
abbrev pub front : List Left → Several → Several
front [] rest = rest
front (l ∷ ls) rest = and_left (remains_of l) (front ls rest)

pub front_push : (ls : List Left) (l : Left) (rest : Several) → front (ls ++ l ∷ []) rest ≡ front ls (and_left (remains_of l) rest)
front_push [] l rest = refl
front_push (k ∷ ls) l rest = ap (and_left (remains_of k)) (front_push ls l rest)

pub front_all : (ls : List Left) → front ls no_more ≡ several_of ls
front_all [] = refl
front_all (l ∷ ls) = ap (and_left (remains_of l)) (front_all ls)

pub member_more : (xs : List TStmt) (i : ℕ) (x : TStmt) → i < length xs → x ≡ get_or xs i x →
    members_in (drop i xs) ≡ and_member (process_of x) (members_in (drop (i + 1) xs))
member_more xs i x lt at = ap members_in (drop_more xs i x lt) ∙ ap (λ y. and_member (process_of y) (members_in (drop (i + 1) xs))) (sym at)

pub no_member_more : (xs : List TStmt) (i : ℕ) → length xs ≤ i → members_in (drop i xs) ≡ no_members
no_member_more xs i all = ap members_in (drop_all i xs all)

pub begun_more : (ls : List Left) (l : Left) (xs : List TStmt) (i : ℕ) (x : TStmt) (all : Several) → i < length xs → x ≡ get_or xs i x →
    remains_of l ≡ begun (process_of x)
    → front ls (each_begun (members_in (drop i xs))) ≡ all → front (ls ++ l ∷ []) (each_begun (members_in (drop (i + 1) xs))) ≡ all
begun_more ls l xs i x all lt at is so_far =
    front_push ls l (each_begun (members_in (drop (i + 1) xs)))
    ∙ (ap (λ r. front ls (and_left r (each_begun (members_in (drop (i + 1) xs))))) is
    ∙ (ap (λ ms. front ls (each_begun ms)) (sym (member_more xs i x lt at)) ∙ so_far))

pub begun_all : (s : TStmt) (v : Vec TStmt Global) (xs : List TStmt) (ls : Vec Left Global) (i : ℕ) → s ≡ Beside v → xs ≡ v.items → length xs ≤ i
    → front ls.items (each_begun (members_in (drop i xs))) ≡ each_begun (members_in xs) → remains_of (Branches ls) ≡ begun (process_of s)
begun_all s v xs ls i is same all whole_of =
    branches_is ls
    ∙ (ap alongside (sym (front_all ls.items)
    ∙ (ap (λ ms. front ls.items (each_begun ms)) (sym (no_member_more xs i all))
    ∙ (whole_of ∙ ap (λ (ys : List TStmt). each_begun (members_in ys)) same)))
    ∙ ap begun (sym (beside_said s v is)))

pub first_members : (s : TStmt) (v : Vec TStmt Global) (x : TStmt) → s ≡ Then v → x ≡ get_or v.items 0 x → HasMembers (process_of s) → HasMembers (process_of x)
first_members s v x is at h =
    let lt = then_some s v is h in
    subst HasMembers (sym (then_part s v 0 x is lt at)) (part_members (process_of s) 0 (omega (arith, lt, then_count s v is)) h)

pub branch_members : (s : TStmt) (v : Vec TStmt Global) (xs : List TStmt) (i : ℕ) (x : TStmt) → s ≡ Beside v → xs ≡ v.items → i < length xs →
    x ≡ get_or xs i x → HasMembers (process_of s) → HasMembers (process_of x)
branch_members s v xs i x is same lt at h =
    let lt' : i < length v.items = subst (λ (ys : List TStmt). i < length ys) same lt in
    let at' : x ≡ get_or v.items i x = subst (λ (ys : List TStmt). x ≡ get_or ys i x) same at in
    subst HasMembers (sym (beside_part s v i x is lt' at')) (part_members (process_of s) i (omega (arith, lt', beside_count s v is)) h)

-- behind a part that has ended
pub then_next : (s : TStmt) (v : Vec TStmt Global) (k : ℕ) → s ≡ Then v → k + 1 < length v.items →
    after_part (process_of s) k ≡ within (k + 1) (begun (part_of (process_of s) (k + 1)))
then_next s v k is lt =
    let count = count_members v.items in
    ap (λ p. after_part p k) (then_said s v is)
    ∙ (ap (λ b. if b then within (k + 1) (begun (member_at (members_in v.items) (k + 1))) else over)
    (lt-ltb (k + 1) (member_count (members_in v.items)) (omega (arith, lt, count)))
    ∙ ap (λ p. within (k + 1) (begun (part_of p (k + 1)))) (sym (then_said s v is)))

pub then_last : (s : TStmt) (v : Vec TStmt Global) (k : ℕ) → s ≡ Then v → length v.items ≤ k + 1 → after_part (process_of s) k ≡ over
then_last s v k is le =
    let count = count_members v.items in
    ap (λ p. after_part p k) (then_said s v is)
    ∙ ap (λ b. if b then within (k + 1) (begun (member_at (members_in v.items) (k + 1))) else over)
    (le-ltb (k + 1) (member_count (members_in v.items)) (omega (arith, le, count)))
