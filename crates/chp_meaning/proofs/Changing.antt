-- What changes make of what is left, branch by branch.
use Rattle.std.proofs.Common.{◌≡◌, ℕ, zero, suc, ◌+◌, ◌<◌, ◌≤◌, Bool, true, false, List, [], ◌∷◌, ◌++◌, length, get_or, set, drop, refl, sym, ap, ◌∙◌, arith}
use Rattle.std.specs.Prelude.{◌&&◌, if◌then◌else◌}
use Rattle.std.proofs.lemmas.List.{drop_more, drop_all, drop-set-lt}
use Rattle.std.specs.declared.alloc.Global.{Global}
use Rattle.std.specs.declared.vec.Vec.{Vec}
use Rattle.width_check.specs.Processes.{Process}
use Rattle.chp_meaning.specs.declared.left.Left.{Left, Branches as LeftBranches}
use Rattle.chp_meaning.specs.declared.change.Change.{Change, Branches, Row_of-BranchChange, end_of-BranchChange, more_of-BranchChange, items-the_row-BranchChange, items_hidden-the_row-BranchChange-0}
use Rattle.chp_meaning.specs.declared.change.Change.TheBlock.{hidden-the_row-BranchChange-0}
use Rattle.chp_meaning.specs.declared.change.BranchChange.{BranchChange}
use Rattle.chp_meaning.specs.Remaining.{Remains, over, whole, within, alongside, Several, no_more, and_left, remains_of, several_of, none_remains, all_over, part_of}
use Rattle.chp_meaning.specs.AtOnce.{Outset, advanced, each_advanced}
use Rattle.chp_meaning.specs.Changes.{altered, in_branches, changed, row_changed, each_changed}
use Rattle.chp_meaning.proofs.Rows.{branches_is, branches_said}

-- changes as lists

row_is : {m : _} (row : Row_of-BranchChange m) (rs : Several) → row_changed row rs ≡ each_changed (items-the_row-BranchChange m row) rs
row_is end_of-BranchChange rs = refl
row_is (more_of-BranchChange k c rest) rs = row_is rest (altered rs k (changed c))

in_same : (f g : Several → Several) → ((rs : Several) → f rs ≡ g rs) → (r : Remains) → in_branches f r ≡ in_branches g r
in_same f g e over = refl
in_same f g e whole = refl
in_same f g e (within k r) = refl
in_same f g e (alongside rs) = ap alongside (e rs)

pub branches_change : (v : Vec BranchChange Global) (r : Remains) → changed (Branches v) r ≡ in_branches (each_changed v.items) r
branches_change v r = in_same (row_changed (hidden-the_row-BranchChange-0 v)) (each_changed v.items)
    (λ rs. row_is (hidden-the_row-BranchChange-0 v) rs ∙ ap (λ cs. each_changed cs rs) (items_hidden-the_row-BranchChange-0 v)) r

pub each_push : (cs : List BranchChange) (c : BranchChange) (rs : Several) →
    each_changed (cs ++ c ∷ []) rs ≡ altered (each_changed cs rs) c.number (changed c.change)
each_push [] c rs = refl
each_push (d ∷ cs) c rs = each_push cs c (altered rs d.number (changed d.change))

pub altered_same : (rs : Several) (k : ℕ) → altered rs k (λ r. r) ≡ rs
altered_same no_more k = refl
altered_same (and_left r rest) zero = refl
altered_same (and_left r rest) (suc k) = ap (and_left r) (altered_same rest k)

-- the first so many branches have advanced, and whether nothing is left of them

abbrev pub first_advanced : Outset → Process → ℕ → ℕ → Several → Several
first_advanced o p k zero rs = rs
first_advanced o p k (suc n) no_more = no_more
first_advanced o p k (suc n) (and_left r rest) = and_left (advanced o (part_of p k) r) (first_advanced o p (suc k) n rest)

abbrev pub first_over : Outset → Process → ℕ → ℕ → Several → Bool
first_over o p k zero rs = true
first_over o p k (suc n) no_more = true
first_over o p k (suc n) (and_left r rest) = none_remains (advanced o (part_of p k) r) && first_over o p (suc k) n rest

advanced_more : (o : Outset) (p : Process) (k n m : ℕ) (xs : List Left) (x : Left) (f : Remains → Remains) → n < length xs → x ≡ get_or xs n x → m ≡ k + n →
    f (remains_of x) ≡ advanced o (part_of p m) (remains_of x) →
    altered (first_advanced o p k n (several_of xs)) n f ≡ first_advanced o p k (suc n) (several_of xs)
advanced_more o p k n m [] x f lt at e is = absurd (omega (arith, lt))
advanced_more o p k zero m (y ∷ xs) x f lt at e is =
    let same : m ≡ k = omega (arith, e) in
    ap (λ r. and_left r (several_of xs)) (ap (λ l. f (remains_of l)) (sym at)
    ∙ (is ∙ (ap (λ i. advanced o (part_of p i) (remains_of x)) same ∙ ap (λ l. advanced o (part_of p k) (remains_of l)) at)))
advanced_more o p k (suc n) m (y ∷ xs) x f lt at e is =
    ap (and_left (advanced o (part_of p k) (remains_of y))) (advanced_more o p (suc k) n m xs x f (omega (arith, lt)) at (omega (arith, e)) is)

and_true : (b : Bool) → (b && true) ≡ b
and_true true = refl
and_true false = refl

and_assoc : (a b c : Bool) → (a && (b && c)) ≡ ((a && b) && c)
and_assoc true b c = refl
and_assoc false b c = refl

over_more : (o : Outset) (p : Process) (k n m : ℕ) (xs : List Left) (x : Left) → n < length xs → x ≡ get_or xs n x → m ≡ k + n →
    first_over o p k (suc n) (several_of xs) ≡ (first_over o p k n (several_of xs) && none_remains (advanced o (part_of p m) (remains_of x)))
over_more o p k n m [] x lt at e = absurd (omega (arith, lt))
over_more o p k zero m (y ∷ xs) x lt at e =
    let same : k ≡ m = omega (arith, e) in
    and_true (none_remains (advanced o (part_of p k) (remains_of y)))
    ∙ (ap (λ i. none_remains (advanced o (part_of p i) (remains_of y))) same ∙ ap (λ l. none_remains (advanced o (part_of p m) (remains_of l))) (sym at))
over_more o p k (suc n) m (y ∷ xs) x lt at e =
    ap (λ b. none_remains (advanced o (part_of p k) (remains_of y)) && b) (over_more o p (suc k) n m xs x (omega (arith, lt)) at (omega (arith, e)))
    ∙ and_assoc (none_remains (advanced o (part_of p k) (remains_of y))) (first_over o p (suc k) n (several_of xs))
    (none_remains (advanced o (part_of p m) (remains_of x)))

advanced_all : (o : Outset) (p : Process) (k n : ℕ) (xs : List Left) → length xs ≤ n →
    first_advanced o p k n (several_of xs) ≡ each_advanced o p k (several_of xs)
advanced_all o p k zero [] le = refl
advanced_all o p k zero (x ∷ xs) le = absurd (omega (arith, le))
advanced_all o p k (suc n) [] le = refl
advanced_all o p k (suc n) (x ∷ xs) le = ap (and_left (advanced o (part_of p k) (remains_of x))) (advanced_all o p (suc k) n xs (omega (arith, le)))

over_all : (o : Outset) (p : Process) (k n : ℕ) (xs : List Left) → length xs ≤ n →
    first_over o p k n (several_of xs) ≡ all_over (each_advanced o p k (several_of xs))
over_all o p k zero [] le = refl
over_all o p k zero (x ∷ xs) le = absurd (omega (arith, le))
over_all o p k (suc n) [] le = refl
over_all o p k (suc n) (x ∷ xs) le = ap (λ b. none_remains (advanced o (part_of p k) (remains_of x)) && b) (over_all o p (suc k) n xs (omega (arith, le)))

-- one branch more

pub change_more : (o : Outset) (p : Process) (xs : List Left) (i : ℕ) (x : Left) (cs ds : List BranchChange) (c : Change) → i < length xs → x ≡ get_or xs i x →
    changed c (remains_of x) ≡ advanced o (part_of p i) (remains_of x)
    → ((rs : Several) → each_changed ds rs ≡ altered (each_changed cs rs) i (changed c))
    → each_changed cs (several_of xs) ≡ first_advanced o p 0 i (several_of xs) → each_changed ds (several_of xs) ≡ first_advanced o p 0 (i + 1) (several_of xs)
change_more o p xs i x cs ds c lt at is added so_far =
    let e : suc i ≡ i + 1 = omega arith in
    added (several_of xs)
    ∙ (ap (λ rs. altered rs i (changed c)) so_far
    ∙ (advanced_more o p 0 i i xs x (changed c) lt at (omega arith) is ∙ ap (λ n. first_advanced o p 0 n (several_of xs)) e))

pub done_more : (o : Outset) (p : Process) (xs : List Left) (i : ℕ) (x : Left) (c : Change) (before ends after : Bool) → i < length xs → x ≡ get_or xs i x →
    changed c (remains_of x) ≡ advanced o (part_of p i) (remains_of x) → ends ≡ none_remains (changed c (remains_of x)) → after ≡ (before && ends)
    → before ≡ first_over o p 0 i (several_of xs) → after ≡ first_over o p 0 (i + 1) (several_of xs)
done_more o p xs i x c before ends after lt at is none now so_far =
    let e : suc i ≡ i + 1 = omega arith in
    now
    ∙ (ap (λ b. b && ends) so_far
    ∙ (ap (λ b. first_over o p 0 i (several_of xs) && b) (none ∙ ap none_remains is)
    ∙ (sym (over_more o p 0 i i xs x lt at (omega arith)) ∙ ap (λ n. first_over o p 0 n (several_of xs)) e)))

-- all of them

pub change_end : (o : Outset) (p : Process) (l : Left) (v : Vec Left Global) (xs : List Left) (i : ℕ) (cs : List BranchChange) (done : Bool) (c : Change) →
    l ≡ LeftBranches v → xs ≡ v.items → length xs ≤ i
    → ((rs : Several) → changed c (alongside rs) ≡ (if done then over else alongside (each_changed cs rs)))
    → each_changed cs (several_of xs) ≡ first_advanced o p 0 i (several_of xs) → done ≡ first_over o p 0 i (several_of xs)
    → changed c (remains_of l) ≡ advanced o p (remains_of l)
change_end o p l v xs i cs done c is same le made so_far all =
    let there : remains_of l ≡ alongside (several_of xs) = branches_said l v is ∙ ap (λ (ys : List Left). alongside (several_of ys)) (sym same) in
    ap (changed c) there
    ∙ (made (several_of xs)
    ∙ (ap (λ b. if b then over else alongside (each_changed cs (several_of xs))) (all ∙ over_all o p 0 i xs le)
    ∙ (ap (λ rs. if all_over (each_advanced o p 0 (several_of xs)) then over else alongside rs) (so_far ∙ advanced_all o p 0 i xs le)
    ∙ ap (advanced o p) (sym there))))

-- the changes are made, one after the other

same_item : (xs ys : List BranchChange) (i : ℕ) (d : BranchChange) → i < length xs → i < length ys → drop i xs ≡ drop i ys → get_or xs i d ≡ get_or ys i d
same_item xs ys i d lt lt' e =
    sym (ap (λ zs. get_or zs 0 d) (drop_more xs i d lt)) ∙ (ap (λ zs. get_or zs 0 d) e ∙ ap (λ zs. get_or zs 0 d) (drop_more ys i d lt'))

same_rest : (xs ys : List BranchChange) (i : ℕ) (d : BranchChange) → i < length xs → i < length ys → drop i xs ≡ drop i ys → drop (i + 1) xs ≡ drop (i + 1) ys
same_rest xs ys i d lt lt' e =
    sym (ap (λ zs. drop 1 zs) (drop_more xs i d lt)) ∙ (ap (λ zs. drop 1 zs) e ∙ ap (λ zs. drop 1 zs) (drop_more ys i d lt'))

pub item_is : (xs ys : List BranchChange) (i : ℕ) (d : BranchChange) → i < length xs → length xs ≡ length ys → drop i xs ≡ drop i ys →
    get_or xs i d ≡ get_or ys i d
item_is xs ys i d lt len e = same_item xs ys i d lt (omega (arith, lt, len)) e

pub rest_set : (xs ys : List BranchChange) (i : ℕ) (d y : BranchChange) → i < length xs → length xs ≡ length ys → drop i xs ≡ drop i ys →
    drop (i + 1) (set xs i y) ≡ drop (i + 1) ys
rest_set xs ys i d y lt len e = drop-set-lt (i + 1) xs i y (omega arith) ∙ same_rest xs ys i d lt (omega (arith, lt, len)) e

pub rest_kept : (xs ys : List BranchChange) (i : ℕ) (d : BranchChange) → i < length xs → length xs ≡ length ys → drop i xs ≡ drop i ys →
    drop (i + 1) xs ≡ drop (i + 1) ys
rest_kept xs ys i d lt len e = same_rest xs ys i d lt (omega (arith, lt, len)) e

pub set_changed : (ls : List Left) (k : ℕ) (l d : Left) (f : Remains → Remains) → k < length ls → remains_of l ≡ f (remains_of (get_or ls k d)) →
    several_of (set ls k l) ≡ altered (several_of ls) k f
set_changed [] k l d f lt e = absurd (omega (arith, lt))
set_changed (x ∷ xs) zero l d f lt e = ap (λ r. and_left r (several_of xs)) e
set_changed (x ∷ xs) (suc k) l d f lt e = ap (and_left (remains_of x)) (set_changed xs k l d f (omega (arith, lt)) e)

pub altered_past : (ls : List Left) (k : ℕ) (f : Remains → Remains) → length ls ≤ k → several_of ls ≡ altered (several_of ls) k f
altered_past [] k f le = refl
altered_past (x ∷ xs) zero f le = absurd (omega (arith, le))
altered_past (x ∷ xs) (suc k) f le = ap (and_left (remains_of x)) (altered_past xs k f (omega (arith, le)))

pub branch_made : (cs : List BranchChange) (i : ℕ) (d x : BranchChange) (ls new : List Left) (all : Several) → i < length cs → x ≡ get_or cs i d →
    several_of new ≡ altered (several_of ls) x.number (changed x.change)
    → each_changed (drop i cs) (several_of ls) ≡ all → each_changed (drop (i + 1) cs) (several_of new) ≡ all
branch_made cs i d x ls new all lt at e so_far =
    ap (each_changed (drop (i + 1) cs)) e
    ∙ (ap (λ (y : BranchChange). each_changed (drop (i + 1) cs) (altered (several_of ls) y.number (changed y.change))) at
    ∙ (ap (λ (ys : List BranchChange). each_changed ys (several_of ls)) (sym (drop_more cs i d lt)) ∙ so_far))

pub all_made : (l : Left) (c : Change) (v now : Vec Left Global) (w : Vec BranchChange Global) (cs : List BranchChange) (i : ℕ) → l ≡ LeftBranches v →
    c ≡ Branches w → cs ≡ w.items → length cs ≤ i
    → each_changed (drop i cs) (several_of now.items) ≡ each_changed cs (several_of v.items) → remains_of (LeftBranches now) ≡ changed c (remains_of l)
all_made l c v now w cs i is changes same le so_far =
    branches_is now
    ∙ (ap alongside (ap (λ (ys : List BranchChange). each_changed ys (several_of now.items)) (sym (drop_all i cs le))
    ∙ (so_far ∙ ap (λ (ys : List BranchChange). each_changed ys (several_of v.items)) same))
    ∙ (ap (in_branches (each_changed w.items)) (sym (branches_said l v is))
    ∙ (sym (branches_change w (remains_of l)) ∙ ap (λ x. changed x (remains_of l)) (sym changes))))
