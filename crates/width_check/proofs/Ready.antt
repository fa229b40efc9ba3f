-- What is made of an expression, member by member.
use Rattle.std.proofs.Common.{◌≡◌, ℕ, ◌+◌, ◌<◌, ◌≤◌, true, false, List, [], ◌∷◌, ◌++◌, length, get_or, drop, Option, Some, refl, sym, ap, ◌∙◌, subst, arith}
use Rattle.std.specs.Prelude.{unwrap_or, option_map, Contains, Result, Ok, Err, IfOk, IsOkAnd}
use Rattle.std.specs.declared.alloc.Global.{Global}
use Rattle.std.specs.declared.boxed.Box.{Box}
use Rattle.std.specs.declared.vec.Vec.{Vec}
use Rattle.chp_base.specs.declared.span.Span.{Span}
use Rattle.chp_syntax.specs.declared.tree.Decl.{Decl}
use Rattle.chp_syntax.specs.declared.tree.Expr.{Expr, Join, Not, Chain}
use Rattle.chp_syntax.specs.declared.tree.Link.{Link}
use Rattle.chp_syntax.specs.declared.tree.Op.{Op}
use Rattle.chp_syntax.specs.Shape.{IsShapedExpression, AreShapedParts, AreShapedLinks}
use Rattle.chp_syntax.specs.Trees.{Expression, join, chain, Expressions, and_part, Links, and_link}
use Rattle.chp_syntax.specs.View.{expression_of}
use Rattle.width_check.specs.declared.typed.TExpr as made
use Rattle.width_check.specs.declared.typed.TExpr.{TExpr}
use Rattle.width_check.specs.declared.typed.TLink.{TLink}
use Rattle.width_check.specs.Places.{compares, own_width}
use Rattle.width_check.specs.Processes as typed
use Rattle.width_check.specs.Processes.{Formula, Formulas, joined, inverted, Operations, chained, compared}
use Rattle.width_check.specs.Form.{formula_form, parts_form, operations_form}
use Rattle.width_check.specs.Sound.{AreRanged, IsSound}
use Rattle.width_check.specs.View.{formula_of}
use Rattle.width_check.specs.Walk.{capped_width, side_width, lacking_parts, met_in, met_in_parts, met_in_links, join_parts, links_in}
use Rattle.width_check.proofs.Lists.{join_is, chain_is, parts_more, parts_end, links_more, links_end}
use Rattle.width_check.proofs.Makings.{before_parts, before_links, parts_all, links_all, one_part, one_link}
use Rattle.width_check.proofs.Rows as rows
use Rattle.width_check.proofs.Soundness.{part_width, parts_full, side_width_of, sound_part, sound_parts, sound_join, sound_first, sound_rest, sound_link, sound_links}
use Rattle.width_check.proofs.Walks.{wanted_of}

-- what is asked of an expression before its typed form is made
pub record IsReady (ds : List Decl) (w : ℕ) (e : Expression) : Type 0 where
  pub some : 1 ≤ w
  pub most : w ≤ 64
  pub shaped : IsShapedExpression e
  pub sound : IsSound ds (met_in ds w e)

pub not_made : {E : Type 0} (ds : List Decl) (w : ℕ) (e : Expr) (inner : Box Expr Global) (at : Span) (f : Expr) (made r : Result TExpr E) → e ≡ Not inner at →
    f ≡ inner.value → IfOk made (λ (m : TExpr). formula_of m ≡ formula_form ds w (expression_of f)) →
    IfOk r (λ (t : TExpr). IsOkAnd made (λ (m : TExpr). formula_of t ≡ inverted (formula_of m))) →
    IfOk r (λ (t : TExpr). formula_of t ≡ formula_form ds w (expression_of e))
not_made ds w e inner at f (Ok m) (Ok t) is here made whole =
    whole ∙ ap inverted (made ∙ ap (λ (x : Expr). formula_form ds w (expression_of x)) here)
    ∙ sym (ap (λ (x : Expr). formula_form ds w (expression_of x)) is)
not_made ds w e inner at f (Err a) (Ok t) is here made whole = absurd whole
not_made ds w e inner at f made (Err a) is here is_made whole = tt

-- some parts of a join
pub record ArePartsLeft (ds : List Decl) (parts : Expressions) : Type 0 where
  pub shaped : AreShapedParts parts
  pub full : (s : Span) → ¬ Contains (lacking_parts ds parts) s
  pub sound : IsSound ds (met_in_parts ds parts)

pub join_left : (ds : List Decl) (w : ℕ) (e : Expr) (v : Vec Expr Global) (at : Span) (es : List Expr) → e ≡ Join v at → es ≡ v.items →
    IsShapedExpression (expression_of e) → IsSound ds (met_in ds w (expression_of e)) → ArePartsLeft ds (join_parts es)
join_left ds w e v at es is same shaped sound =
    let tree : expression_of e ≡ join (join_parts es) at = join_is e v at is ∙ ap (λ (xs : List Expr). join (join_parts xs) at) (sym same) in
    let shape = subst (λ (x : Expression). IsShapedExpression x) tree shaped in
    let s = subst (λ (x : Expression). IsSound ds (met_in ds w x)) tree sound in
    record { shaped = shape.1; full = λ t. s.widths (join (join_parts es) at) t (0, omega arith, refl); sound = sound_join ds w (join_parts es) at s }

parts_here : (ds : List Decl) (es : List Expr) (i : ℕ) (e : Expr) → i < length es → e ≡ get_or es i e → ArePartsLeft ds (join_parts (drop i es)) →
    ArePartsLeft ds (and_part (expression_of e) (join_parts (drop (i + 1) es)))
parts_here ds es i e within is left = subst (λ (ps : Expressions). ArePartsLeft ds ps) (parts_more es i e within is) left

pub parts_next : (ds : List Decl) (es : List Expr) (i : ℕ) (e : Expr) → i < length es → e ≡ get_or es i e → ArePartsLeft ds (join_parts (drop i es)) →
    ArePartsLeft ds (join_parts (drop (i + 1) es))
parts_next ds es i e within is left =
    let here = parts_here ds es i e within is left in
    record {
      shaped = here.shaped.1;
      full = parts_full ds (expression_of e) (join_parts (drop (i + 1) es)) here.full;
      sound =
          sound_parts ds (expression_of e) (join_parts (drop (i + 1) es)) here.sound;
    }

own_of : (o own : Option ℕ) (v w : ℕ) → own ≡ Some v → v ≤ 64 → o ≡ option_map capped_width own → w ≡ unwrap_or o 0 → w ≡ v
own_of o own v w is most found wanted = let same : w ≡ capped_width v =
    wanted ∙ ap (λ (p : Option ℕ). unwrap_or p 0) (found ∙ ap (option_map capped_width) is) in
    grind arith

pub part_ready : (ds : List Decl) → AreRanged ds → (es : List Expr) (i : ℕ) (e : Expr) (o : Option ℕ) (w : ℕ) → i < length es → e ≡ get_or es i e →
    ArePartsLeft ds (join_parts (drop i es)) → o ≡ option_map capped_width (own_width ds (expression_of e)) → w ≡ unwrap_or o 0 → IsReady ds w (expression_of e)
part_ready ds ranged es i e o w within is left found wanted =
    let here = parts_here ds es i e within is left in
    let own = part_width ds ranged (expression_of e) (join_parts (drop (i + 1) es)) here.shaped.0 here.full here.sound in
    let same : w ≡ own.0 = own_of o (own_width ds (expression_of e)) own.0 w own.1.own own.1.most found wanted in
    let zero : unwrap_or (own_width ds (expression_of e)) 0 ≡ w = ap (λ (p : Option ℕ). unwrap_or p 0) own.1.own ∙ sym same in
    record {
      some = omega (arith, own.1.some, same);
      most = omega (arith, own.1.most, same);
      shaped = here.shaped.0;
      sound = subst (λ (u : ℕ). IsSound ds (met_in ds u (expression_of e))) zero (sound_part ds (expression_of e) (join_parts (drop (i + 1) es)) here.sound);
    }

part_made : (ds : List Decl) → AreRanged ds →
    (es : List Expr) (i : ℕ) (e : Expr) (o : Option ℕ) (w : ℕ) (made new : List TExpr) (t : TExpr) (total : Formulas) → i < length es → e ≡ get_or es i e →
    ArePartsLeft ds (join_parts (drop i es)) → o ≡ option_map capped_width (own_width ds (expression_of e)) → w ≡ unwrap_or o 0
    → formula_of t ≡ formula_form ds w (expression_of e) → new ≡ made ++ t ∷ [] → before_parts made (parts_form ds (join_parts (drop i es))) ≡ total →
    before_parts new (parts_form ds (join_parts (drop (i + 1) es))) ≡ total
part_made ds ranged es i e o w made new t total within is left found wanted is_made pushed so_far =
    let here = parts_here ds es i e within is left in
    let own = part_width ds ranged (expression_of e) (join_parts (drop (i + 1) es)) here.shaped.0 here.full here.sound in
    let same : w ≡ own.0 = own_of o (own_width ds (expression_of e)) own.0 w own.1.own own.1.most found wanted in
    let zero : unwrap_or (own_width ds (expression_of e)) 0 ≡ w = ap (λ (p : Option ℕ). unwrap_or p 0) own.1.own ∙ sym same in
    let rest = parts_form ds (join_parts (drop (i + 1) es)) in
    let begun = ap (λ (ps : Expressions). before_parts made (parts_form ds ps)) (sym (parts_more es i e within is)) ∙ so_far in
    ap (λ (ts : List TExpr). before_parts ts rest) pushed ∙ one_part made t rest
    ∙ ap (λ (f : Formula). before_parts made (typed.and_part f rest)) (is_made ∙ ap (λ (u : ℕ). formula_form ds u (expression_of e)) (sym zero)) ∙ begun

pub part_added : {E : Type 0} (ds : List Decl) → AreRanged ds → (es : List Expr) (i : ℕ) (e : Expr) (o : Option ℕ) (w : ℕ)
    (made new : Result (Vec TExpr Global) E) (r : Result TExpr E) (total : Formulas) → i < length es → e ≡ get_or es i e →
    ArePartsLeft ds (join_parts (drop i es)) → o ≡ option_map capped_width (own_width ds (expression_of e)) → w ≡ unwrap_or o 0
    → IfOk r (λ (t : TExpr). formula_of t ≡ formula_form ds w (expression_of e))
    → IfOk new (λ (n : Vec TExpr Global). IsOkAnd made (λ (m : Vec TExpr Global). IsOkAnd r (λ (t : TExpr). n.items ≡ m.items ++ t ∷ [])))
    → IfOk made (λ (m : Vec TExpr Global). before_parts m.items (parts_form ds (join_parts (drop i es))) ≡ total) →
    IfOk new (λ (n : Vec TExpr Global). before_parts n.items (parts_form ds (join_parts (drop (i + 1) es))) ≡ total)
part_added ds ranged es i e o w (Ok m) (Ok n) (Ok t) total within is left found wanted is_made pushed so_far =
    part_made ds ranged es i e o w m.items n.items t total within is left found wanted is_made pushed so_far
part_added ds ranged es i e o w (Ok m) (Ok n) (Err b) total within is left found wanted is_made pushed so_far = absurd pushed
part_added ds ranged es i e o w (Err a) (Ok n) r total within is left found wanted is_made pushed so_far = absurd pushed
part_added ds ranged es i e o w made (Err a) r total within is left found wanted is_made pushed so_far = tt

pub join_made : (ds : List Decl) (w : ℕ) (e : Expr) (v : Vec Expr Global) (at : Span) (es : List Expr) (i : ℕ) (t : Vec TExpr Global) → e ≡ Join v at →
    es ≡ v.items → length es ≤ i → before_parts t.items (parts_form ds (join_parts (drop i es))) ≡ parts_form ds (join_parts es) →
    formula_of (made.Join t) ≡ formula_form ds w (expression_of e)
join_made ds w e v at es i t is same over so_far =
    let done = ap (λ (ps : Expressions). before_parts t.items (parts_form ds ps)) (sym (parts_end es i over)) ∙ so_far in
    let tree : expression_of e ≡ join (join_parts es) at = join_is e v at is ∙ ap (λ (xs : List Expr). join (join_parts xs) at) (sym same) in
    rows.join_is t ∙ ap joined (sym (parts_all t.items) ∙ done) ∙ ap (formula_form ds w) (sym tree)

pub parts_joined : {E : Type 0} (ds : List Decl) (w : ℕ) (e : Expr) (v : Vec Expr Global) (at : Span) (es : List Expr) (i : ℕ)
    (list : Result (Vec TExpr Global) E) (r : Result TExpr E) → e ≡ Join v at → es ≡ v.items → length es ≤ i
    → IfOk list (λ (m : Vec TExpr Global). before_parts m.items (parts_form ds (join_parts (drop i es))) ≡ parts_form ds (join_parts es))
    → IfOk r (λ (t : TExpr). IsOkAnd list (λ (m : Vec TExpr Global). t ≡ made.Join m)) →
    IfOk r (λ (t : TExpr). formula_of t ≡ formula_form ds w (expression_of e))
parts_joined ds w e v at es i (Ok m) (Ok t) is same over so_far joins = ap formula_of joins ∙ join_made ds w e v at es i m is same over so_far
parts_joined ds w e v at es i (Err a) (Ok t) is same over so_far joins = absurd joins
parts_joined ds w e v at es i list (Err a) is same over so_far joins = tt

-- a chain

abbrev chain_tree : Box Expr Global → List Link → Span → Expression
chain_tree first ls at = chain (expression_of first.value) (links_in ls) at

the_chain : (e : Expr) (first : Box Expr Global) (v : Vec Link Global) (at : Span) (ls : List Link) → e ≡ Chain first v at → ls ≡ v.items →
    expression_of e ≡ chain_tree first ls at
the_chain e first v at ls is same = chain_is e first v at is ∙ ap (λ (xs : List Link). chain_tree first xs at) (sym same)

pub record AreLinksLeft (ds : List Decl) (w : ℕ) (more : Links) : Type 0 where
  pub shaped : AreShapedLinks more
  pub sound : IsSound ds (met_in_links ds w more)

plain_wanted : (ds : List Decl) (w : ℕ) (e : Expression) (more : Links) → compares more ≡ false → wanted_of ds w e more ≡ w
plain_wanted ds w e more is = rw is refl

pub first_ready : (ds : List Decl) (w : ℕ) (e : Expr) (first : Box Expr Global) (v : Vec Link Global) (at : Span) (ls : List Link) (f : Expr) →
    e ≡ Chain first v at → ls ≡ v.items → f ≡ first.value → compares (links_in ls) ≡ false → 1 ≤ w → w ≤ 64 → IsShapedExpression (expression_of e) →
    IsSound ds (met_in ds w (expression_of e)) → IsReady ds w (expression_of f)
first_ready ds w e first v at ls f is same here plain some most shaped sound =
    let tree = the_chain e first v at ls is same in
    let shape = subst (λ (x : Expression). IsShapedExpression x) tree shaped in
    let s = subst (λ (x : Expression). IsSound ds (met_in ds w x)) tree sound in
    let front = subst (λ (u : ℕ). IsSound ds (met_in ds u (expression_of first.value))) (plain_wanted ds w (expression_of first.value) (links_in ls) plain)
    (sound_first ds w (expression_of first.value) (links_in ls) at s) in
    subst (λ (x : Expr). IsReady ds w (expression_of x)) (sym here) (record { some = some; most = most; shaped = shape.2; sound = front })

pub links_left : (ds : List Decl) (w : ℕ) (e : Expr) (first : Box Expr Global) (v : Vec Link Global) (at : Span) (all ls : List Link) → e ≡ Chain first v at →
    all ≡ v.items → ls ≡ v.items → compares (links_in all) ≡ false → IsShapedExpression (expression_of e) → IsSound ds (met_in ds w (expression_of e)) →
    AreLinksLeft ds w (links_in ls)
links_left ds w e first v at all ls is whole same plain shaped sound =
    let tree = the_chain e first v at ls is same in
    let shape = subst (λ (x : Expression). IsShapedExpression x) tree shaped in
    let s = subst (λ (x : Expression). IsSound ds (met_in ds w x)) tree sound in
    let not_compared = subst (λ (xs : List Link). compares (links_in xs) ≡ false) (whole ∙ sym same) plain in
    record {
      shaped = shape.3;
      sound = subst (λ (u : ℕ). IsSound ds (met_in_links ds u (links_in ls))) (plain_wanted ds w (expression_of first.value) (links_in ls) not_compared)
          (sound_rest ds w (expression_of first.value) (links_in ls) at s);
    }

links_here : (ds : List Decl) (w : ℕ) (ls : List Link) (i : ℕ) (l : Link) → i < length ls → l ≡ get_or ls i l → AreLinksLeft ds w (links_in (drop i ls)) →
    AreLinksLeft ds w (and_link l.op (expression_of l.right) (links_in (drop (i + 1) ls)))
links_here ds w ls i l within is left = subst (λ (us : Links). AreLinksLeft ds w us) (links_more ls i l within is) left

pub links_next : (ds : List Decl) (w : ℕ) (ls : List Link) (i : ℕ) (l : Link) → i < length ls → l ≡ get_or ls i l → AreLinksLeft ds w (links_in (drop i ls)) →
    AreLinksLeft ds w (links_in (drop (i + 1) ls))
links_next ds w ls i l within is left =
    let here = links_here ds w ls i l within is left in
    record { shaped = here.shaped.1; sound = sound_links ds w l.op (expression_of l.right) (links_in (drop (i + 1) ls)) here.sound }

pub link_ready : (ds : List Decl) (w : ℕ) (ls : List Link) (i : ℕ) (l : Link) → i < length ls → l ≡ get_or ls i l → 1 ≤ w → w ≤ 64 →
    AreLinksLeft ds w (links_in (drop i ls)) → IsReady ds w (expression_of l.right)
link_ready ds w ls i l within is some most left =
    let here = links_here ds w ls i l within is left in
    record { some = some; most = most; shaped = here.shaped.0; sound = sound_link ds w l.op (expression_of l.right) (links_in (drop (i + 1) ls)) here.sound }

link_made : (ds : List Decl) (w : ℕ) (ls : List Link) (i : ℕ) (l : Link) (made new : List TLink) (t : TExpr) (total : Operations) → i < length ls →
    l ≡ get_or ls i l → formula_of t ≡ formula_form ds w (expression_of l.right) → new ≡ made ++ (record { op = l.op; right = t }) ∷ []
    → before_links made (operations_form ds w (links_in (drop i ls))) ≡ total → before_links new (operations_form ds w (links_in (drop (i + 1) ls))) ≡ total
link_made ds w ls i l made new t total within is is_made pushed so_far =
    let rest = operations_form ds w (links_in (drop (i + 1) ls)) in
    let begun = ap (λ (us : Links). before_links made (operations_form ds w us)) (sym (links_more ls i l within is)) ∙ so_far in
    ap (λ (ts : List TLink). before_links ts rest) pushed ∙ one_link made (record { op = l.op; right = t }) rest
    ∙ ap (λ (f : Formula). before_links made (typed.and_operation l.op f rest)) is_made ∙ begun

pub link_added : {E : Type 0} (ds : List Decl) (w : ℕ) (ls : List Link) (i : ℕ) (l : Link) (made new : Result (Vec TLink Global) E) (k : Result TLink E)
    (r : Result TExpr E) (total : Operations) → i < length ls → l ≡ get_or ls i l →
    IfOk r (λ (t : TExpr). formula_of t ≡ formula_form ds w (expression_of l.right))
    → IfOk k (λ (x : TLink). IsOkAnd r (λ (t : TExpr). x ≡ (record { op = l.op; right = t })))
    → IfOk new (λ (n : Vec TLink Global). IsOkAnd made (λ (m : Vec TLink Global). IsOkAnd k (λ (x : TLink). n.items ≡ m.items ++ x ∷ [])))
    → IfOk made (λ (m : Vec TLink Global). before_links m.items (operations_form ds w (links_in (drop i ls))) ≡ total) →
    IfOk new (λ (n : Vec TLink Global). before_links n.items (operations_form ds w (links_in (drop (i + 1) ls))) ≡ total)
link_added ds w ls i l (Ok m) (Ok n) (Ok x) (Ok t) total within is is_made linked pushed so_far =
    link_made ds w ls i l m.items n.items t total within is is_made (pushed ∙ ap (λ (y : TLink). m.items ++ y ∷ []) linked) so_far
link_added ds w ls i l (Ok m) (Ok n) (Ok x) (Err b) total within is is_made linked pushed so_far = absurd linked
link_added ds w ls i l (Ok m) (Ok n) (Err b) r total within is is_made linked pushed so_far = absurd pushed
link_added ds w ls i l (Err a) (Ok n) k r total within is is_made linked pushed so_far = absurd pushed
link_added ds w ls i l made (Err a) k r total within is is_made linked pushed so_far = tt

plain_form : (ds : List Decl) (w : ℕ) (e : Expression) (more : Links) (at : Span) → compares more ≡ false →
    formula_form ds w (chain e more at) ≡ chained (formula_form ds w e) (operations_form ds w more)
plain_form ds w e more at is = rw is refl

pub chain_made : (ds : List Decl) (w : ℕ) (e : Expr) (first : Box Expr Global) (v : Vec Link Global) (at : Span) (all ls : List Link) (i : ℕ) (f : Expr)
    (front : Box TExpr Global) (t : Vec TLink Global) → e ≡ Chain first v at → all ≡ v.items → ls ≡ v.items → compares (links_in all) ≡ false →
    f ≡ first.value → formula_of front.value ≡ formula_form ds w (expression_of f)
    → length ls ≤ i → before_links t.items (operations_form ds w (links_in (drop i ls))) ≡ operations_form ds w (links_in ls) →
    formula_of (made.Chain front t) ≡ formula_form ds w (expression_of e)
chain_made ds w e first v at all ls i f front t is whole same plain here is_front over so_far =
    let done = ap (λ (us : Links). before_links t.items (operations_form ds w us)) (sym (links_end ls i over)) ∙ so_far in
    let tree = the_chain e first v at ls is same in
    let not_compared = subst (λ (xs : List Link). compares (links_in xs) ≡ false) (whole ∙ sym same) plain in
    rows.chain_is front t ∙ ap (λ (os : Operations). chained (formula_of front.value) os) (sym (links_all t.items) ∙ done)
    ∙ ap (λ (g : Formula). chained g (operations_form ds w (links_in ls))) (is_front ∙ ap (λ (x : Expr). formula_form ds w (expression_of x)) here)
    ∙ sym (plain_form ds w (expression_of first.value) (links_in ls) at not_compared) ∙ ap (formula_form ds w) (sym tree)

pub links_chained : {E : Type 0} (ds : List Decl) (w : ℕ) (e : Expr) (first : Box Expr Global) (v : Vec Link Global) (at : Span) (all ls : List Link) (i : ℕ)
    (f : Expr) (x : Result TExpr E) (front : Result (Box TExpr Global) E) (list : Result (Vec TLink Global) E) (r : Result TExpr E) → e ≡ Chain first v at →
    all ≡ v.items → ls ≡ v.items → compares (links_in all) ≡ false → f ≡ first.value →
    IfOk x (λ (t : TExpr). formula_of t ≡ formula_form ds w (expression_of f)) →
    IfOk front (λ (b : Box TExpr Global). let same : Result TExpr E = Ok b.value in x ≡ same) → length ls ≤ i
    → IfOk list (λ (m : Vec TLink Global). before_links m.items (operations_form ds w (links_in (drop i ls))) ≡ operations_form ds w (links_in ls))
    → IfOk r (λ (t : TExpr). IsOkAnd front (λ (b : Box TExpr Global). IsOkAnd list (λ (m : Vec TLink Global). t ≡ made.Chain b m))) →
    IfOk r (λ (t : TExpr). formula_of t ≡ formula_form ds w (expression_of e))
links_chained {E} ds w e first v at all ls i f x (Ok b) (Ok m) (Ok t) is whole same plain here is_front boxed over so_far chains =
    ap formula_of chains ∙ chain_made ds w e first v at all ls i f b m is whole same plain here
    (subst (λ (o : Result TExpr E). IfOk o (λ (u : TExpr). formula_of u ≡ formula_form ds w (expression_of f))) boxed is_front) over so_far
links_chained ds w e first v at all ls i f x (Ok b) (Err a) (Ok t) is whole same plain here is_front boxed over so_far chains = absurd chains
links_chained ds w e first v at all ls i f x (Err a) list (Ok t) is whole same plain here is_front boxed over so_far chains = absurd chains
links_chained ds w e first v at all ls i f x front list (Err a) is whole same plain here is_front boxed over so_far chains = tt

-- a comparison

pub record AreSides (ds : List Decl) (u : ℕ) (f : Expr) (l : Link) : Type 0 where
  pub left : IsReady ds u (expression_of f)
  pub right : IsReady ds u (expression_of l.right)

one_more : (ls : List Link) (l : Link) → compares (links_in ls) ≡ true → l ≡ get_or ls 0 l →
    links_in ls ≡ and_link l.op (expression_of l.right) (links_in (drop 1 ls))
one_more [] l is here = absurd (cc is)
one_more (k ∷ ls) l is here = ap (λ (x : Link). and_link x.op (expression_of x.right) (links_in ls)) (sym here)

-- the facts of a comparison: its width, and its one link
pub record IsCompared (ds : List Decl) (first : Box Expr Global) (ls : List Link) (l : Link) (u : ℕ) : Type 0 where
  pub side : side_width ds (expression_of first.value) (links_in ls) ≡ Some u
  pub links : links_in ls ≡ and_link l.op (expression_of l.right) (links_in (drop 1 ls))
  pub left : IsReady ds u (expression_of first.value)
  pub right : IsReady ds u (expression_of l.right)

pub comparison_ready : (ds : List Decl) → AreRanged ds →
    (w : ℕ) (e : Expr) (first : Box Expr Global) (v : Vec Link Global) (at : Span) (l : Link) (o : Option ℕ) (u : ℕ) → e ≡ Chain first v at →
    compares (links_in v.items) ≡ true → l ≡ get_or v.items 0 l → IsShapedExpression (expression_of e) → IsSound ds (met_in ds w (expression_of e))
    → o ≡ option_map capped_width (side_width ds (expression_of first.value) (links_in v.items)) → u ≡ unwrap_or o 0 → IsCompared ds first v.items l u
comparison_ready ds ranged w e first v at l o u is so here shaped sound found wanted =
    let tree = chain_is e first v at is in
    let shape = subst (λ (x : Expression). IsShapedExpression x) tree shaped in
    let s = subst (λ (x : Expression). IsSound ds (met_in ds w x)) tree sound in
    let f = expression_of first.value in
    let more = links_in v.items in
    let side = side_width_of ds ranged w f more at so shape s in
    let same : u ≡ side.0 = own_of o (side_width ds f more) side.0 u side.1.side side.1.most found wanted in
    let is_side : side_width ds f more ≡ Some u = side.1.side ∙ ap (λ (n : ℕ). let x : Option ℕ = Some n in x) (sym same) in
    let wanted_is : wanted_of ds w f more ≡ u = rw (so, is_side) refl in
    let some : 1 ≤ u = omega (arith, side.1.some, same) in
    let most : u ≤ 64 = omega (arith, side.1.most, same) in
    let links = one_more v.items l so here in
    let rest : IsSound ds (met_in_links ds u (and_link l.op (expression_of l.right) (links_in (drop 1 v.items)))) =
    subst (λ (us : Links). IsSound ds (met_in_links ds u us)) links
    (subst (λ (n : ℕ). IsSound ds (met_in_links ds n more)) wanted_is (sound_rest ds w f more at s)) in
    let shapes : AreShapedLinks (and_link l.op (expression_of l.right) (links_in (drop 1 v.items))) = subst (λ (us : Links). AreShapedLinks us) links shape.3 in
    record {
      side = is_side;
      links = links;
      left = record {
        some = some;
        most = most;
        shaped = shape.2;
        sound =
            subst (λ (n : ℕ). IsSound ds (met_in ds n f)) wanted_is (sound_first ds w f more at s);
      };
      right = record { some = some; most = most; shaped = shapes.0; sound = sound_link ds u l.op (expression_of l.right) (links_in (drop 1 v.items)) rest };
    }

compared_form : (ds : List Decl) (w u : ℕ) (e : Expression) (op : Op) (f : Expression) (rest more : Links) (at : Span) → compares more ≡ true →
    side_width ds e more ≡ Some u → more ≡ and_link op f rest → formula_form ds w (chain e more at) ≡ compared op (formula_form ds u e) (formula_form ds u f)
compared_form ds w u e op f rest more at is side links = rw (is, side, links) refl

comparison_made : (ds : List Decl) (w u : ℕ) (e : Expr) (first : Box Expr Global) (v : Vec Link Global) (at : Span) (l : Link) (x y : Formula) →
    e ≡ Chain first v at → compares (links_in v.items) ≡ true → IsCompared ds first v.items l u → x ≡ formula_form ds u (expression_of first.value) →
    y ≡ formula_form ds u (expression_of l.right) → compared l.op x y ≡ formula_form ds w (expression_of e)
comparison_made ds w u e first v at l x y is so facts left right =
    ap (λ (g : Formula). compared l.op g y) left ∙ ap (λ (g : Formula). compared l.op (formula_form ds u (expression_of first.value)) g) right
    ∙ sym (compared_form ds w u (expression_of first.value) l.op (expression_of l.right) (links_in (drop 1 v.items)) (links_in v.items) at so facts.side
    facts.links)
    ∙ ap (formula_form ds w) (sym (chain_is e first v at is))

pub sides_made : {E : Type 0} (ds : List Decl) (w u : ℕ) (e : Expr) (first : Box Expr Global) (v : Vec Link Global) (at : Span) (l : Link) (f : Expr)
    (x y all : Result TExpr E) → e ≡ Chain first v at → compares (links_in v.items) ≡ true → IsCompared ds first v.items l u → f ≡ first.value →
    IfOk x (λ (t : TExpr). formula_of t ≡ formula_form ds u (expression_of f)) →
    IfOk y (λ (t : TExpr). formula_of t ≡ formula_form ds u (expression_of l.right)) →
    IfOk all (λ (t : TExpr). IsOkAnd x (λ (a : TExpr). IsOkAnd y (λ (b : TExpr). formula_of t ≡ compared l.op (formula_of a) (formula_of b))))
    → IfOk all (λ (t : TExpr). formula_of t ≡ formula_form ds w (expression_of e))
sides_made ds w u e first v at l f (Ok x) (Ok y) (Ok t) is so facts here left right made =
    made ∙ comparison_made ds w u e first v at l (formula_of x) (formula_of y) is so facts
    (left ∙ ap (λ (z : Expr). formula_form ds u (expression_of z)) here) right
sides_made ds w u e first v at l f (Ok x) (Err b) (Ok t) is so facts here left right made = absurd made
sides_made ds w u e first v at l f (Err a) y (Ok t) is so facts here left right made = absurd made
sides_made ds w u e first v at l f x y (Err t) is so facts here left right made = tt
