-- What is known of an expression is known of what stands in it.
use Rattle.std.proofs.Common.{◌≡◌, ◌≢◌, ℕ, ◌+◌, ◌-◌, ◌^◌, ◌<◌, ◌≤◌, Bool, true, false, List, length, get_or, drop, refl, sym, ap, ◌∙◌, subst, arith}
use Rattle.std.specs.Bool.{Decides}
use Rattle.std.specs.Prelude.{Option, Some, None, IfSome, IfNone, IsSomeAnd}
use Rattle.std.specs.declared.alloc.Global.{Global}
use Rattle.std.specs.declared.boxed.Box.{Box}
use Rattle.std.specs.declared.vec.Vec.{Vec}
use Rattle.chp_base.specs.declared.span.Span.{Span}
use Rattle.chp_syntax.specs.declared.tree.Op.{Op}
use Rattle.width_check.specs.declared.typed.Var.{Var}
use Rattle.width_check.specs.declared.typed.TExpr.{TExpr, Read, Not, Chain, Compare}
use Rattle.width_check.specs.declared.typed.TLink.{TLink}
use Rattle.width_check.specs.Processes.{Formula, constant, chained, Formulas, Operations}
use Rattle.width_check.specs.Typing.{var_width, IsOfWidth}
use Rattle.width_check.specs.Values.{width_of, value, operated, is_comparison, IsWellFormed, AreWellFormed, AreOperations}
use Rattle.width_check.specs.View.{formula_of}
use Rattle.width_check.proofs.Bounds.{value_fits, width_some, width_most}
use Rattle.width_check.proofs.Rows.{parts_of, part_at, links_of, link_at, chained_links}
use Rattle.width_check.proofs.Widths.{not_over, one_width, constant_over, reading_over, compared_over}

formed_here : (f g : TExpr) → f ≡ g → IsWellFormed (formula_of g) → IsWellFormed (formula_of f)
formed_here f g is = subst (λ (x : TExpr). IsWellFormed (formula_of x)) (sym is)

pub read_formed : (e : TExpr) (var high low : ℕ) (at : Span) → e ≡ Read var high low at → IsWellFormed (formula_of e) → (low ≤ high) × (high ≤ 63)
read_formed e var high low at is = subst (λ (x : TExpr). IsWellFormed (formula_of x)) is

pub not_formed : (e : TExpr) (inner : Box TExpr Global) (f : TExpr) → e ≡ Not inner → f ≡ inner.value → IsWellFormed (formula_of e) →
    IsWellFormed (formula_of f)
not_formed e inner f is here formed = formed_here f inner.value here (subst (λ (x : TExpr). IsWellFormed (formula_of x)) is formed)

pub first_formed : (e : TExpr) (first : Box TExpr Global) (v : Vec TLink Global) (f : TExpr) → e ≡ Chain first v → f ≡ first.value →
    IsWellFormed (formula_of e) → IsWellFormed (formula_of f)
first_formed e first v f is here formed =
    formed_here f first.value here (subst (λ (x : Formula). IsWellFormed x) (chained_links e first v is) formed).0

sides_formed : (e : TExpr) (op : Op) (left right : Box TExpr Global) → e ≡ Compare op left right → IsWellFormed (formula_of e) →
    (is_comparison op ≡ true) × (width_of (formula_of right.value) ≡ width_of (formula_of left.value)) × IsWellFormed (formula_of left.value)
    × IsWellFormed (formula_of right.value)
sides_formed e op left right is = subst (λ (x : TExpr). IsWellFormed (formula_of x)) is

pub left_formed : (e : TExpr) (op : Op) (left right : Box TExpr Global) (f : TExpr) → e ≡ Compare op left right → f ≡ left.value →
    IsWellFormed (formula_of e) → IsWellFormed (formula_of f)
left_formed e op left right f is here formed = formed_here f left.value here (sides_formed e op left right is formed).2

pub right_formed : (e : TExpr) (op : Op) (left right : Box TExpr Global) (f : TExpr) → e ≡ Compare op left right → f ≡ right.value →
    IsWellFormed (formula_of e) → IsWellFormed (formula_of f)
right_formed e op left right f is here formed = formed_here f right.value here (sides_formed e op left right is formed).3

pub part_formed : (es : List TExpr) (i : ℕ) (e : TExpr) → i < length es → e ≡ get_or es i e → AreWellFormed (parts_of (drop i es)) →
    IsWellFormed (formula_of e)
part_formed es i e within is formed = (subst (λ (ps : Formulas). AreWellFormed ps) (part_at es i e within is) formed).0

pub link_formed : (w : ℕ) (ls : List TLink) (i : ℕ) (l : TLink) → i < length ls → l ≡ get_or ls i l → AreOperations w (links_of (drop i ls)) →
    IsWellFormed (formula_of l.right)
link_formed w ls i l within is formed = (subst (λ (os : Operations). AreOperations w os) (link_at ls i l within is) formed).2

pub some_bits : (e : TExpr) (w : ℕ) → IsWellFormed (formula_of e) → w ≡ width_of (formula_of e) → 1 ≤ w
some_bits e w formed is = rw is (width_some (formula_of e) formed)

pub few_bits : (e : TExpr) (w : ℕ) → IsWellFormed (formula_of e) → w ≡ width_of (formula_of e) → w ≤ 64
few_bits e w formed is = rw is (width_most (formula_of e) formed)

-- the value of an inversion and of a comparison

pub inverted_value : (store : ℕ → ℕ) (e : TExpr) (inner : Box TExpr Global) (f g : TExpr) (w top v : ℕ) → e ≡ Not inner → f ≡ inner.value → g ≡ inner.value →
    w ≡ width_of (formula_of f) → top + 1 ≡ 2 ^ w → v ≡ value store (formula_of g) → top - v ≡ value store (formula_of e)
inverted_value store e inner f g w top v is one other wide most here =
    let whole : value store (formula_of e) ≡ 2 ^ width_of (formula_of inner.value) - 1 - value store (formula_of inner.value) =
    ap (λ (x : TExpr). value store (formula_of x)) is in
    let power : 2 ^ w ≡ 2 ^ width_of (formula_of inner.value) = ap (λ (n : ℕ). 2 ^ n) (wide ∙ ap (λ (x : TExpr). width_of (formula_of x)) one) in
    let inside : v ≡ value store (formula_of inner.value) = here ∙ ap (λ (x : TExpr). value store (formula_of x)) other in
    omega arith

pub record AreCompared (store : ℕ → ℕ) (e : TExpr) (op : Op) (w x y : ℕ) : Type 0 where
  pub some : 1 ≤ w
  pub most : w ≤ 64
  pub left : x < 2 ^ w
  pub right : y < 2 ^ w
  pub whole : operated op w x y ≡ value store (formula_of e)

pub compared_value : (store : ℕ → ℕ) (e : TExpr) (op : Op) (left right : Box TExpr Global) (a b d : TExpr) (w x y : ℕ) → e ≡ Compare op left right →
    a ≡ left.value → b ≡ left.value → d ≡ right.value → w ≡ width_of (formula_of a) → x ≡ value store (formula_of b) → y ≡ value store (formula_of d) →
    IsWellFormed (formula_of e) → AreCompared store e op w x y
compared_value store e op left right a b d w x y is one two three wide first second formed =
    let f = sides_formed e op left right is formed in
    let width : w ≡ width_of (formula_of left.value) = wide ∙ ap (λ (z : TExpr). width_of (formula_of z)) one in
    let l : x ≡ value store (formula_of left.value) = first ∙ ap (λ (z : TExpr). value store (formula_of z)) two in
    let r : y ≡ value store (formula_of right.value) = second ∙ ap (λ (z : TExpr). value store (formula_of z)) three in
    record {
      some = rw width (width_some (formula_of left.value) f.2);
      most = rw width (width_most (formula_of left.value) f.2);
      left = rw (width, l) (value_fits store (formula_of left.value) f.2);
      right = rw (width, r) (subst (λ (n : ℕ). value store (formula_of right.value) < 2 ^ n) f.1 (value_fits store (formula_of right.value) f.3));
      whole = rw (width, l, r) (sym (ap (λ (z : TExpr). value store (formula_of z)) is));
    }

-- expressions over some variables

over_here : (vars : List Var) (u : ℕ) (f g : TExpr) → f ≡ g → IsOfWidth vars u (formula_of g) → IsOfWidth vars u (formula_of f)
over_here vars u f g is = subst (λ (x : TExpr). IsOfWidth vars u (formula_of x)) (sym is)

pub number_over : (vars : List Var) (f : Formula) (w v n : ℕ) → f ≡ constant w v → n ≡ w → 1 ≤ w → w ≤ 64 → v < 2 ^ w → IsOfWidth vars n f
number_over vars f w v n is wide some most fits = rw (is, wide) (constant_over vars w v some most fits)

pub read_over : (vars : List Var) (e : TExpr) (var high low : ℕ) (at : Span) (r : Bool) → e ≡ Read var high low at →
    Decides r ((var < length vars) × (high < var_width vars var) × (low ≤ high) × (high ≤ 63)) → r ≡ true → IsOfWidth vars (high + 1 - low) (formula_of e)
read_over vars e var high low at r is decides so =
    let f = decides.0 so in
    over_here vars (high + 1 - low) e (Read var high low at) is (reading_over vars var high low at f.0 f.1 f.2 f.3)

pub read_not_over : (vars : List Var) (e : TExpr) (var high low : ℕ) (at : Span) (r : Bool) → e ≡ Read var high low at →
    Decides r ((var < length vars) × (high < var_width vars var) × (low ≤ high) × (high ≤ 63)) → r ≡ false → (u : ℕ) → ¬ IsOfWidth vars u (formula_of e)
read_not_over vars e var high low at r is decides so u h =
    let whole : IsOfWidth vars u (formula_of (Read var high low at)) = over_here vars u (Read var high low at) e (sym is) h in
    let true_then = decides.1 (whole.reads.0, whole.reads.1, whole.formed.0, whole.formed.1) in
    absurd (cc (true_then, so))

pub first_not_over : (vars : List Var) (e : TExpr) (first : Box TExpr Global) (v : Vec TLink Global) (f : TExpr) → e ≡ Chain first v → f ≡ first.value →
    ((u : ℕ) → ¬ IsOfWidth vars u (formula_of f)) → (u : ℕ) → ¬ IsOfWidth vars u (formula_of e)
first_not_over vars e first v f is here none =
    not_over vars (formula_of e) (chained (formula_of first.value) (links_of v.items)) (chained_links e first v is)
    (λ u h. none u (over_here vars u f first.value here (record { formed = h.formed.0; reads = h.reads.0; agrees = h.agrees })))

pub inner_over : (vars : List Var) (e : TExpr) (inner : Box TExpr Global) (f : TExpr) (r : Option ℕ) → e ≡ Not inner → f ≡ inner.value →
    IfSome r (λ (u : ℕ). IsOfWidth vars u (formula_of f)) → IfSome r (λ (u : ℕ). IsOfWidth vars u (formula_of e))
inner_over vars e inner f None is here some = tt
inner_over vars e inner f (Some u) is here some =
    let inside = over_here vars u inner.value f (sym here) some in
    over_here vars u e (Not inner) is (record { formed = inside.formed; reads = inside.reads; agrees = inside.agrees })

pub inner_not_over : (vars : List Var) (e : TExpr) (inner : Box TExpr Global) (f : TExpr) (r : Option ℕ) → e ≡ Not inner → f ≡ inner.value →
    IfNone r ((u : ℕ) → ¬ IsOfWidth vars u (formula_of f)) → IfNone r ((u : ℕ) → ¬ IsOfWidth vars u (formula_of e))
inner_not_over vars e inner f (Some u) is here none = tt
inner_not_over vars e inner f None is here none = λ u h.
    let whole : IsOfWidth vars u (formula_of (Not inner)) = over_here vars u (Not inner) e (sym is) h in
    none u (over_here vars u f inner.value here (record { formed = whole.formed; reads = whole.reads; agrees = whole.agrees }))

-- the two sides of a comparison
pub record IsComparing (vars : List Var) (op : Op) (a b : TExpr) : Type 0 where
  pub compares : is_comparison op ≡ true
  pub left : IsOfWidth vars (width_of (formula_of a)) (formula_of a)
  pub right : IsOfWidth vars (width_of (formula_of a)) (formula_of b)

comparing : (vars : List Var) (e : TExpr) (op : Op) (left right : Box TExpr Global) (a b : TExpr) (u : ℕ) → e ≡ Compare op left right → a ≡ left.value →
    b ≡ right.value → IsOfWidth vars u (formula_of e) → IsComparing vars op a b
comparing vars e op left right a b u is one other h =
    let whole : IsOfWidth vars u (formula_of (Compare op left right)) = over_here vars u (Compare op left right) e (sym is) h in
    let inside : IsComparing vars op left.value right.value = record {
      compares = whole.formed.0;
      left = record { formed = whole.formed.2; reads = whole.reads.0; agrees = refl };
      right = record { formed = whole.formed.3; reads = whole.reads.1; agrees = whole.formed.1 };
    } in
    subst (λ (x : TExpr). IsComparing vars op x b) (sym one) (subst (λ (x : TExpr). IsComparing vars op left.value x) (sym other) inside)

pub compared_over_sides : (vars : List Var) (e : TExpr) (op : Op) (left right : Box TExpr Global) (a b : TExpr) (one other r : Option ℕ) →
    e ≡ Compare op left right → a ≡ left.value → b ≡ right.value → IfSome one (λ (w : ℕ). IsOfWidth vars w (formula_of a)) →
    IfSome other (λ (w : ℕ). IsOfWidth vars w (formula_of b)) →
    IfSome r (λ (v : ℕ). (v ≡ 1) × (is_comparison op ≡ true) × IsSomeAnd one (λ (w : ℕ). other ≡ Some w))
    → IfSome r (λ (v : ℕ). IsOfWidth vars v (formula_of e))
compared_over_sides vars e op left right a b one other None is at_left at_right first second found = tt
compared_over_sides vars e op left right a b None other (Some v) is at_left at_right first second found = absurd found.2
compared_over_sides vars e op left right a b (Some w) other (Some v) is at_left at_right first second found =
    let l : IsOfWidth vars w (formula_of left.value) = over_here vars w left.value a (sym at_left) first in
    let same : IsOfWidth vars w (formula_of b) = subst (λ (o : Option ℕ). IfSome o (λ (n : ℕ). IsOfWidth vars n (formula_of b))) found.2 second in
    let r : IsOfWidth vars w (formula_of right.value) = over_here vars w right.value b (sym at_right) same in
    let whole : IsOfWidth vars 1 (formula_of (Compare op left right)) =
    compared_over vars w w op (formula_of left.value) (formula_of right.value) l r refl found.1 in
    over_here vars v e (Compare op left right) is (rw found.0 whole)

pub compared_not_over : (vars : List Var) (e : TExpr) (op : Op) (left right : Box TExpr Global) (a b : TExpr) (one other r : Option ℕ) →
    e ≡ Compare op left right → a ≡ left.value → b ≡ right.value → IfSome one (λ (w : ℕ). IsOfWidth vars w (formula_of a)) →
    IfNone one ((w : ℕ) → ¬ IsOfWidth vars w (formula_of a)) → IfSome other (λ (w : ℕ). IsOfWidth vars w (formula_of b)) →
    IfNone other ((w : ℕ) → ¬ IsOfWidth vars w (formula_of b)) →
    IfNone r (is_comparison op ≡ true → IfSome one (λ (w : ℕ). other ≢ Some w))
    → IfNone r ((u : ℕ) → ¬ IsOfWidth vars u (formula_of e))
compared_not_over vars e op left right a b one other (Some v) is at_left at_right first no_first second no_second none = tt
compared_not_over vars e op left right a b None other None is at_left at_right first no_first second no_second none = λ u h.
    no_first (width_of (formula_of a)) (comparing vars e op left right a b u is at_left at_right h).left
compared_not_over vars e op left right a b (Some w) None None is at_left at_right first no_first second no_second none = λ u h.
    no_second (width_of (formula_of a)) (comparing vars e op left right a b u is at_left at_right h).right
compared_not_over vars e op left right a b (Some w) (Some v) None is at_left at_right first no_first second no_second none = λ u h.
    let so = comparing vars e op left right a b u is at_left at_right h in
    let same : v ≡ w = one_width vars v (width_of (formula_of a)) (formula_of b) second so.right
    ∙ one_width vars (width_of (formula_of a)) w (formula_of a) so.left first in
    none so.compares (ap (λ (n : ℕ). let x : Option ℕ = Some n in x) same)
