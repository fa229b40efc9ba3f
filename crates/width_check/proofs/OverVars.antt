-- The width of an expression over some variables, if it has one, part by part and link by link.
use Rattle.std.proofs.Common.{◌≡◌, ◌≢◌, ℕ, ◌+◌, ◌<◌, ◌≤◌, Bool, true, false, List, length, get_or, drop, refl, sym, ap, ◌∙◌, subst, arith}
use Rattle.std.specs.Prelude.{Option, Some, None, IfSome, IfNone, IsSomeAnd}
use Rattle.std.specs.declared.alloc.Global.{Global}
use Rattle.std.specs.declared.boxed.Box.{Box}
use Rattle.std.specs.declared.vec.Vec.{Vec}
use Rattle.width_check.specs.declared.typed.Var.{Var}
use Rattle.width_check.specs.declared.typed.TExpr.{TExpr, Join, Chain}
use Rattle.width_check.specs.declared.typed.TLink.{TLink}
use Rattle.width_check.specs.Processes.{Formula, joined, chained, no_parts}
use Rattle.width_check.specs.Typing.{IsOfWidth}
use Rattle.width_check.specs.Values.{is_comparison}
use Rattle.width_check.specs.View.{formula_of}
use Rattle.width_check.proofs.Alike.{Alike}
use Rattle.width_check.proofs.Rows.{parts_of, joined_parts, links_of, chained_links}
use Rattle.width_check.proofs.Shapes.{first_not_over}
use Rattle.width_check.proofs.Widths.{IsJoining, AreLinks, join_at, join_end, join_wrong, join_wide, join_more, join_done, join_empty, links_at, links_more, links_end, links_counted, chain_none, chain_compares, chain_other, chain_done}

-- what is known of an expression once its width was looked for
pub record IsMeasured (vars : List Var) (f : Formula) (o : Option ℕ) : Type 0 where
  pub some : IfSome o (λ w. IsOfWidth vars w f)
  pub none : IfNone o ((u : ℕ) → ¬ IsOfWidth vars u f)

measured_as : (vars : List Var) (f g : Formula) (o : Option ℕ) → f ≡ g → IsMeasured vars g o → IsMeasured vars f o
measured_as vars f g o is = subst (λ (h : Formula). IsMeasured vars h o) (sym is)

-- joins

pub record IsJoinedTo (vars : List Var) (es : List TExpr) (i : ℕ) (o : Option ℕ) : Type 0 where
  pub some : IfSome o (λ w. IsJoining vars (parts_of es) (parts_of (drop i es)) w)
  pub none : IfNone o ((u : ℕ) → ¬ IsOfWidth vars u (joined (parts_of es)))

pub join_step : (vars : List Var) (es : List TExpr) (i : ℕ) (e : TExpr) (o p q : Option ℕ) → i < length es → e ≡ get_or es i e → IsJoinedTo vars es i o →
    IfSome p (λ w. IsOfWidth vars w (formula_of e)) → IfNone p ((u : ℕ) → ¬ IsOfWidth vars u (formula_of e))
    → IfSome q (λ w. (w ≤ 64) × IsSomeAnd o (λ a. IsSomeAnd p (λ b. w ≡ a + b))) → IfNone q (IfSome o (λ a. IfSome p (λ b. 64 < a + b))) →
    IsJoinedTo vars es (i + 1) q
join_step vars es i e (Some a) (Some b) (Some w) within is so_far here wrong sum wide = record {
  some = subst (λ n. IsJoining vars (parts_of es) (parts_of (drop (i + 1) es)) n) (sym sum.1)
      (join_more vars es i e a b within is so_far.some here (omega (arith, sum.0, sum.1)));
  none = tt;
}
join_step vars es i e (Some a) (Some b) None within is so_far here wrong sum wide = record {
  some = tt;
  none = join_wide vars (parts_of es) (formula_of e) _ a b (join_at vars es i e a within is so_far.some) here wide;
}
join_step vars es i e (Some a) None (Some w) within is so_far here wrong sum wide = absurd sum.1
join_step vars es i e (Some a) None None within is so_far here wrong sum wide = record {
  some = tt;
  none = join_wrong vars (parts_of es) (formula_of e) _ a (join_at vars es i e a within is so_far.some) wrong;
}
join_step vars es i e None p (Some w) within is so_far here wrong sum wide = absurd sum.1
join_step vars es i e None p None within is so_far here wrong sum wide = record { some = tt; none = so_far.none }

join_whole : (vars : List Var) (es : List TExpr) (i : ℕ) (o r : Option ℕ) → length es ≤ i → IsJoinedTo vars es i o →
    IfSome r (λ w. (o ≡ Some w) × (1 ≤ w)) → IfNone r (IfSome o (λ w. w ≡ 0)) → IsMeasured vars (joined (parts_of es)) r
join_whole vars es i (Some a) (Some w) all so_far some zero = record {
  some = let same : a ≡ w = cc some.0 in
      join_done vars (parts_of es) w (subst (λ n. IsJoining vars (parts_of es) no_parts n) same (join_end vars es i a all so_far.some)) some.1;
  none = tt;
}
join_whole vars es i (Some a) None all so_far some zero = record {
  some = tt;
  none = join_empty vars (parts_of es) a (join_end vars es i a all so_far.some) zero;
}
join_whole vars es i None (Some w) all so_far some zero = absurd (cc some.0)
join_whole vars es i None None all so_far some zero = record { some = tt; none = so_far.none }

pub join_measured : (vars : List Var) (e : TExpr) (v : Vec TExpr Global) (es : List TExpr) (i : ℕ) (o r : Option ℕ) → e ≡ Join v → es ≡ v.items →
    length es ≤ i → IsJoinedTo vars es i o → IfSome r (λ w. (o ≡ Some w) × (1 ≤ w)) → IfNone r (IfSome o (λ w. w ≡ 0)) →
    IsMeasured vars (formula_of e) r
join_measured vars e v es i o r is same all so_far some zero =
    measured_as vars (formula_of e) (joined (parts_of es)) r (joined_parts e v is ∙ ap (λ (xs : List TExpr). joined (parts_of xs)) (sym same))
    (join_whole vars es i o r all so_far some zero)

-- chains

pub record IsChainedTo (vars : List Var) (f : Formula) (ls : List TLink) (i : ℕ) (start o : Option ℕ) : Type 0 where
  pub some : IfSome o (λ w. (start ≡ Some w) × Alike (AreLinks vars w (links_of ls)) (AreLinks vars w (links_of (drop i ls))))
  pub none : IfNone o ((u : ℕ) → ¬ IsOfWidth vars u f)

pub chain_begun : (vars : List Var) (e : TExpr) (first : Box TExpr Global) (v : Vec TLink Global) (f : TExpr) (ls : List TLink) (o : Option ℕ) →
    e ≡ Chain first v → f ≡ first.value → IfNone o ((u : ℕ) → ¬ IsOfWidth vars u (formula_of f)) → IsChainedTo vars (formula_of e) ls 0 o o
chain_begun vars e first v f ls (Some w) is here wrong = record { some = (refl, record { whole = λ all. all; rest = λ all. all }); none = tt }
chain_begun vars e first v f ls None is here wrong = record { some = tt; none = first_not_over vars e first v f is here wrong }

the_first : (vars : List Var) (start : Option ℕ) (w : ℕ) (f : Formula) → IfSome start (λ n. IsOfWidth vars n f) → start ≡ Some w → IsOfWidth vars w f
the_first vars start w f some is = subst (λ (o : Option ℕ). IfSome o (λ n. IsOfWidth vars n f)) is some

differing : (vars : List Var) (a b u : ℕ) (f : Formula) (ls : List TLink) (i : ℕ) (l : TLink) (t : Bool) → is_comparison l.op ≡ t → i < length ls →
    l ≡ get_or ls i l → Alike (AreLinks vars a (links_of ls)) (AreLinks vars a (links_of (drop i ls))) → IsOfWidth vars a f →
    IsOfWidth vars b (formula_of l.right) → (is_comparison l.op ≡ false → b ≢ a) → ¬ IsOfWidth vars u (chained f (links_of ls))
differing vars a b u f ls i l true so within is left first right apart =
    chain_compares vars a u f (links_of ls) l.op (formula_of l.right) _ (links_at vars a ls i l within is left) first so
differing vars a b u f ls i l false so within is left first right apart =
    chain_other vars a b u f (links_of ls) l.op (formula_of l.right) _ (links_at vars a ls i l within is left) first right (apart so)

link_step : (vars : List Var) (f : Formula) (ls : List TLink) (i : ℕ) (l : TLink) (start o p q : Option ℕ) → i < length ls → l ≡ get_or ls i l →
    IfSome start (λ w. IsOfWidth vars w f) → IsChainedTo vars (chained f (links_of ls)) ls i start o →
    IfSome p (λ w. IsOfWidth vars w (formula_of l.right)) → IfNone p ((u : ℕ) → ¬ IsOfWidth vars u (formula_of l.right))
    → IfSome q (λ w. (is_comparison l.op ≡ false) × (o ≡ Some w) × (p ≡ Some w)) → IfNone q (is_comparison l.op ≡ false → IfSome o (λ own. p ≢ Some own)) →
    IsChainedTo vars (chained f (links_of ls)) ls (i + 1) start q
link_step vars f ls i l start (Some a) (Some b) (Some w) within is first so_far here wrong both apart =
    let one : a ≡ w = cc both.1 in
    let other : b ≡ w = cc both.2 in
    let left = subst (λ n. Alike (AreLinks vars n (links_of ls)) (AreLinks vars n (links_of (drop i ls)))) one so_far.some.1 in
    record {
      some = (so_far.some.0 ∙ both.1, links_more vars w ls i l b within is left both.0 here other);
      none = tt;
    }
link_step vars f ls i l start (Some a) (Some b) None within is first so_far here wrong both apart = record {
  some = tt;
  none = λ u. differing vars a b u f ls i l (is_comparison l.op) refl within is so_far.some.1 (the_first vars start a f first so_far.some.0) here
      (λ plain same. apart plain (ap (λ (n : ℕ). let x : Option ℕ = Some n in x) same));
}
link_step vars f ls i l start (Some a) None (Some w) within is first so_far here wrong both apart = absurd (cc both.2)
link_step vars f ls i l start (Some a) None None within is first so_far here wrong both apart = record {
  some = tt;
  none = λ u. chain_none vars a u f (links_of ls) l.op (formula_of l.right) _ (links_at vars a ls i l within is so_far.some.1)
      (the_first vars start a f first so_far.some.0) wrong;
}
link_step vars f ls i l start None p (Some w) within is first so_far here wrong both apart = absurd (cc both.1)
link_step vars f ls i l start None p None within is first so_far here wrong both apart = record { some = tt; none = so_far.none }

chain_tree : (e : TExpr) (first : Box TExpr Global) (v : Vec TLink Global) (f : TExpr) (ls : List TLink) → e ≡ Chain first v → f ≡ first.value → ls ≡ v.items →
    formula_of e ≡ chained (formula_of f) (links_of ls)
chain_tree e first v f ls is here same =
    chained_links e first v is ∙ ap (λ (x : TExpr). chained (formula_of x) (links_of v.items)) (sym here)
    ∙ ap (λ (xs : List TLink). chained (formula_of f) (links_of xs)) (sym same)

pub chain_step : (vars : List Var) (e : TExpr) (first : Box TExpr Global) (v : Vec TLink Global) (f : TExpr) (ls : List TLink) (i : ℕ) (l : TLink)
    (start o p q : Option ℕ) → e ≡ Chain first v → f ≡ first.value → ls ≡ v.items → i < length ls → l ≡ get_or ls i l →
    IfSome start (λ w. IsOfWidth vars w (formula_of f)) → IsChainedTo vars (formula_of e) ls i start o →
    IfSome p (λ w. IsOfWidth vars w (formula_of l.right)) → IfNone p ((u : ℕ) → ¬ IsOfWidth vars u (formula_of l.right))
    → IfSome q (λ w. (is_comparison l.op ≡ false) × (o ≡ Some w) × (p ≡ Some w)) → IfNone q (is_comparison l.op ≡ false → IfSome o (λ own. p ≢ Some own)) →
    IsChainedTo vars (formula_of e) ls (i + 1) start q
chain_step vars e first v f ls i l start o p q is here same within there began so_far right wrong both apart =
    let tree = chain_tree e first v f ls is here same in
    subst (λ (g : Formula). IsChainedTo vars g ls (i + 1) start q) (sym tree) (link_step vars (formula_of f) ls i l start o p q within there began
    (subst (λ (g : Formula). IsChainedTo vars g ls i start o) tree so_far) right wrong both apart)

pub chain_measured : (vars : List Var) (e : TExpr) (first : Box TExpr Global) (v : Vec TLink Global) (f : TExpr) (ls : List TLink) (i : ℕ)
    (start o : Option ℕ) → e ≡ Chain first v → f ≡ first.value → ls ≡ v.items → length ls ≤ i → IfSome start (λ w. IsOfWidth vars w (formula_of f)) →
    IsChainedTo vars (formula_of e) ls i start o → 1 ≤ length ls → IsMeasured vars (formula_of e) o
chain_measured vars e first v f ls i start (Some w) is here same all began so_far some = record {
  some = subst (λ (g : Formula). IsOfWidth vars w g) (sym (chain_tree e first v f ls is here same))
      (chain_done vars w (formula_of f) (links_of ls) (links_end vars w ls i all so_far.some.1) (the_first vars start w (formula_of f) began so_far.some.0)
      (omega (arith, some, links_counted ls)));
  none = tt;
}
chain_measured vars e first v f ls i start None is here same all began so_far some = record { some = tt; none = so_far.none }
