-- A walk over members as lists, step by step.
use Rattle.std.proofs.Common.{◌≡◌, ℕ, ◌+◌, ◌<◌, ◌≤◌, Bool, List, length, get_or, drop, subst, Option, Some, None, sym, ap, ◌∙◌, ◌⊎◌, inl, inr}
use Rattle.std.specs.Prelude.{if◌then◌else◌, is_none, option_map, unwrap_or}
use Rattle.std.specs.declared.alloc.Global.{Global}
use Rattle.std.specs.declared.boxed.Box.{Box}
use Rattle.std.specs.declared.vec.Vec.{Vec}
use Rattle.chp_base.specs.declared.span.Span.{Span}
use Rattle.chp_syntax.specs.declared.tree.Arm.{Arm}
use Rattle.chp_syntax.specs.declared.tree.Decl.{Decl}
use Rattle.chp_syntax.specs.declared.tree.Expr.{Expr, Join, Not, Chain}
use Rattle.chp_syntax.specs.declared.tree.Link.{Link}
use Rattle.chp_syntax.specs.declared.tree.Stmt.{Stmt, Then, Beside, Select}
use Rattle.chp_syntax.specs.Trees as plain
use Rattle.chp_syntax.specs.Trees.{Expression, join, chain, follows, besides}
use Rattle.chp_syntax.specs.View.{expression_of, statement_of}
use Rattle.width_check.specs.declared.findings.Findings.{Findings}
use Rattle.width_check.specs.declared.lead.Lead.{Lead}
use Rattle.width_check.specs.Leading.{IsLeadTo, lacks, known}
use Rattle.width_check.specs.Leading.{width as lead_width}
use Rattle.width_check.specs.Places.{compares, own_width, own_widths, span_of}
use Rattle.width_check.specs.Walk.{capped_width, own_or, with_part, with_leaf, met_in, met_chain, met_in_links, met_of, met_of_each, met_of_arms, noted, join_parts, links_in, statements_in, arms_in}
use Rattle.width_check.proofs.Lists.{join_is, chain_is, then_is, beside_is, select_is, parts_more, parts_end, links_more, links_end, members_more, members_end, arms_more, arms_end}
use Rattle.width_check.proofs.Leads.{none_capped, capped_twice, chain_node, lead_first, lead_rest, lead_own}
use Rattle.width_check.proofs.Swapping.{noted_parts, parts_step, join_whole}
use Rattle.width_check.proofs.Walks.{noted_wanted, noted_link, noted_chain, noted_member, noted_arm}

pub part_step : (ds : List Decl) (es : List Expr) (i : ℕ) (e : Expr) (f g h total : Findings) (own : Option ℕ) (place : Span) → i < length es →
    e ≡ get_or es i e → noted_parts ds f (join_parts (drop i es)) ≡ total → own ≡ option_map capped_width (own_width ds (expression_of e)) →
    place ≡ span_of (expression_of e) → g ≡ noted ds f (met_in ds (own_or ds None (expression_of e)) (expression_of e)) → h ≡ with_part g (is_none own) place →
    noted_parts ds h (join_parts (drop (i + 1) es)) ≡ total
part_step ds es i e f g h total own place within is so_far found here new noted_it =
    let more = join_parts (drop (i + 1) es) in
    let begun = ap (noted_parts ds f) (sym (parts_more es i e within is)) ∙ so_far in
    let lacks : is_none own ≡ is_none (own_width ds (expression_of e)) =
    ap (λ (o : Option ℕ). is_none o) found ∙ none_capped (own_width ds (expression_of e)) in
    ap (λ (x : Findings). noted_parts ds x more) (noted_it ∙ ap (λ (b : Bool). with_part g b place) lacks
    ∙ ap (λ (s : Span). with_part g (is_none (own_width ds (expression_of e))) s) here)
    ∙ parts_step ds f g total (expression_of e) more begun new

pub part_done : (ds : List Decl) (e : Expr) (v : Vec Expr Global) (at : Span) (es : List Expr) (i : ℕ) (f g h : Findings) (n w : ℕ) (wanted : Option ℕ) →
    e ≡ Join v at → es ≡ v.items → length es ≤ i → noted_parts ds g (join_parts (drop i es)) ≡ noted_parts ds f (join_parts es) →
    n ≡ capped_width (own_widths ds (join_parts es)) → w ≡ unwrap_or wanted n → h ≡ with_leaf g n w at →
    h ≡ noted ds f (met_in ds (own_or ds wanted (expression_of e)) (expression_of e))
part_done ds e v at es i f g h n w wanted is same over so_far own wants leaf =
    let tree : expression_of e ≡ join (join_parts es) at = join_is e v at is ∙ ap (λ (xs : List Expr). join (join_parts xs) at) (sym same) in
    let done : g ≡ noted_parts ds f (join_parts es) = ap (noted_parts ds g) (sym (parts_end es i over)) ∙ so_far in
    let whole = join_whole ds f g n w (join_parts es) at own done in
    leaf ∙ whole ∙ noted_wanted ds f w (own_or ds wanted (join (join_parts es) at)) (join (join_parts es) at) (by_wanted wanted wants)
    ∙ ap (λ (x : Expression). noted ds f (met_in ds (own_or ds wanted x) x)) (sym tree)
  where
    by_wanted : (o : Option ℕ) → w ≡ unwrap_or o n → capped_width w ≡ capped_width (own_or ds o (join (join_parts es) at))
    by_wanted None so = ap capped_width (so ∙ own) ∙ capped_twice (own_widths ds (join_parts es))
    by_wanted (Some u) so = ap capped_width so

-- an expression without parts
pub leaf_done : (ds : List Decl) (e : Expr) (x : Expression) (f g : Findings) (n w : ℕ) (wanted : Option ℕ) → expression_of e ≡ x →
    n ≡ capped_width (unwrap_or (own_width ds x) 0) → w ≡ unwrap_or wanted n → g ≡ noted ds f (met_in ds w x) →
    g ≡ noted ds f (met_in ds (own_or ds wanted (expression_of e)) (expression_of e))
leaf_done ds e x f g n w wanted is own wants done =
    done ∙ noted_wanted ds f w (own_or ds wanted x) x (by_wanted wanted wants)
    ∙ ap (λ (y : Expression). noted ds f (met_in ds (own_or ds wanted y) y)) (sym is)
  where
    by_wanted : (o : Option ℕ) → w ≡ unwrap_or o n → capped_width w ≡ capped_width (own_or ds o x)
    by_wanted None so = ap capped_width (so ∙ own) ∙ capped_twice (unwrap_or (own_width ds x) 0)
    by_wanted (Some u) so = ap capped_width so

pub not_done : (ds : List Decl) (e : Expr) (inner : Box Expr Global) (at : Span) (a : Expr) (f g : Findings) (wanted : Option ℕ) → e ≡ Not inner at →
    a ≡ inner.value → g ≡ noted ds f (met_in ds (own_or ds wanted (expression_of a)) (expression_of a)) →
    g ≡ noted ds f (met_in ds (own_or ds wanted (expression_of e)) (expression_of e))
not_done ds e inner at a f g None is here done =
    done ∙ ap (λ (x : Expr). noted ds f (met_in ds (own_or ds None (expression_of x)) (expression_of x))) here
    ∙ sym (ap (λ (x : Expr). noted ds f (met_in ds (own_or ds None (expression_of x)) (expression_of x))) is)
not_done ds e inner at a f g (Some w) is here done =
    done ∙ ap (λ (x : Expr). noted ds f (met_in ds w (expression_of x))) here
    ∙ sym (ap (λ (x : Expr). noted ds f (met_in ds w (expression_of x))) is)

pub link_step : (decls : List Decl) (w : ℕ) (ls : List Link) (i : ℕ) (l : Link) (f g whole : Findings) → i < length ls → l ≡ get_or ls i l →
    noted decls f (met_in_links decls w (links_in (drop i ls))) ≡ whole → g ≡ noted decls f (met_in decls w (expression_of l.right)) →
    noted decls g (met_in_links decls w (links_in (drop (i + 1) ls))) ≡ whole
link_step decls w ls i l f g whole within is so_far new =
    noted_link decls f g whole w l.op (expression_of l.right) (links_in (drop (i + 1) ls))
    (ap (λ us. noted decls f (met_in_links decls w us)) (sym (links_more ls i l within is)) ∙ so_far) new

pub link_done : (ds : List Decl) (e : Expr) (first : Box Expr Global) (v : Vec Link Global) (at : Span) (a b : Expr) (k l m : List Link) (i : ℕ)
    (f g h r : Findings) (width : ℕ) (wanted own members : Option ℕ) (lead : Lead) (comparing : Bool) → e ≡ Chain first v at
    → k ≡ v.items → comparing ≡ compares (links_in k)
    → a ≡ first.value → l ≡ v.items → IsLeadTo ds wanted (expression_of a) (links_in l) lead
    → g ≡ (if comparing then with_leaf (with_part f (lacks lead) at) 1 (unwrap_or wanted 1) at else f)
    → b ≡ first.value → h ≡ noted ds g (met_in ds (own_or ds (known lead) (expression_of b)) (expression_of b)) →
    (known lead ≡ None → own ≡ option_map capped_width (own_width ds (expression_of b)))
    → members ≡ lead_width lead own → width ≡ unwrap_or members 0
    → m ≡ v.items → length m ≤ i → noted ds r (met_in_links ds width (links_in (drop i m))) ≡ noted ds h (met_in_links ds width (links_in m)) →
    r ≡ noted ds f (met_in ds (own_or ds wanted (expression_of e)) (expression_of e))
link_done ds e first v at a b k l m i f g h r width wanted own members lead comparing is ek comp ea el leads node eb front owned member_width all em over so_far
    =
    let done : r ≡ noted ds h (met_in_links ds width (links_in m)) = ap (λ us. noted ds r (met_in_links ds width us)) (sym (links_end m i over)) ∙ so_far in
    let x = expression_of first.value in
    let more = links_in v.items in
    let w = own_or ds wanted (chain x more at) in
    let comp' : comparing ≡ compares more = comp ∙ ap (λ (xs : List Link). compares (links_in xs)) ek in
    let leads' : IsLeadTo ds wanted x more lead =
    subst (λ (xs : List Link). IsLeadTo ds wanted x (links_in xs) lead) el (subst (λ (y : Expr). IsLeadTo ds wanted (expression_of y) (links_in l) lead) ea
    leads) in
    let front' : h ≡ noted ds g (met_in ds (own_or ds (known lead) x) x) =
    front ∙ ap (λ (y : Expr). noted ds g (met_in ds (own_or ds (known lead) (expression_of y)) (expression_of y))) eb in
    let owned' : known lead ≡ None → own ≡ option_map capped_width (own_width ds x) =
    λ none. owned none ∙ ap (λ (y : Expr). option_map capped_width (own_width ds (expression_of y))) eb in
    let node' : g ≡ noted ds f (met_chain w x more at) = node ∙ chain_node ds f wanted x more at lead comparing comp' leads' in
    let same = lead_first ds wanted x more at lead leads' in
    let others = lead_rest ds wanted x more at lead own leads' owned' in
    done ∙ ap (λ (xs : List Link). noted ds h (met_in_links ds width (links_in xs))) em
    ∙ noted_chain ds f g h w (own_or ds (known lead) x) width x more at same (ap capped_width (all ∙ ap (λ (o : Option ℕ). unwrap_or o 0) member_width)
    ∙ others)
    node' front'
    ∙ ap (λ (y : Expression). noted ds f (met_in ds (own_or ds wanted y) y)) (sym (chain_is e first v at is))

-- the own width of a chain, where none is wanted
pub chain_own : (ds : List Decl) (e : Expr) (first : Box Expr Global) (v : Vec Link Global) (at : Span) (a b : Expr) (k l : List Link)
    (wanted own members : Option ℕ) (lead : Lead) (comparing : Bool) → e ≡ Chain first v at → k ≡ v.items → comparing ≡ compares (links_in k) →
    a ≡ first.value → l ≡ v.items → IsLeadTo ds wanted (expression_of a) (links_in l) lead → b ≡ first.value →
    (known lead ≡ None → own ≡ option_map capped_width (own_width ds (expression_of b))) → members ≡ lead_width lead own → wanted ≡ None →
    (if comparing then Some 1 else members) ≡ option_map capped_width (own_width ds (expression_of e))
chain_own ds e first v at a b k l wanted own members lead comparing is ek comp ea el leads eb owned member_width none =
    let x = expression_of first.value in
    let more = links_in v.items in
    let comp' : comparing ≡ compares more = comp ∙ ap (λ (xs : List Link). compares (links_in xs)) ek in
    let leads' : IsLeadTo ds wanted x more lead =
    subst (λ (xs : List Link). IsLeadTo ds wanted x (links_in xs) lead) el (subst (λ (y : Expr). IsLeadTo ds wanted (expression_of y) (links_in l) lead) ea
    leads) in
    let owned' : known lead ≡ None → own ≡ option_map capped_width (own_width ds x) =
    λ n. owned n ∙ ap (λ (y : Expr). option_map capped_width (own_width ds (expression_of y))) eb in
    ap (λ (o : Option ℕ). let y : Option ℕ = if comparing then Some 1 else o in y) member_width
    ∙ lead_own ds wanted x more at lead own comparing comp' leads' owned' none
    ∙ sym (ap (λ (y : Expression). option_map capped_width (own_width ds y)) (chain_is e first v at is))

pub member_step : (decls : List Decl) (ss : List Stmt) (i : ℕ) (s : Stmt) (f g whole : Findings) → i < length ss → s ≡ get_or ss i s →
    noted decls f (met_of_each decls (statements_in (drop i ss))) ≡ whole → g ≡ noted decls f (met_of decls (statement_of s)) →
    noted decls g (met_of_each decls (statements_in (drop (i + 1) ss))) ≡ whole
member_step decls ss i s f g whole within is so_far new =
    noted_member decls f g whole (statement_of s) (statements_in (drop (i + 1) ss))
    (ap (λ us. noted decls f (met_of_each decls us)) (sym (members_more ss i s within is)) ∙ so_far) new

members_done : (decls : List Decl) (ss : List Stmt) (i : ℕ) (f g : Findings) → length ss ≤ i →
    noted decls f (met_of_each decls (statements_in (drop i ss))) ≡ noted decls g (met_of_each decls (statements_in ss)) →
    f ≡ noted decls g (met_of_each decls (statements_in ss))
members_done decls ss i f g over so_far = ap (λ us. noted decls f (met_of_each decls us)) (sym (members_end ss i over)) ∙ so_far

then_done : (decls : List Decl) (s : Stmt) (v : Vec Stmt Global) (ss : List Stmt) (i : ℕ) (f g : Findings) → s ≡ Then v → ss ≡ v.items → length ss ≤ i →
    noted decls f (met_of_each decls (statements_in (drop i ss))) ≡ noted decls g (met_of_each decls (statements_in ss)) →
    f ≡ noted decls g (met_of decls (statement_of s))
then_done decls s v ss i f g is same over so_far =
    members_done decls ss i f g over so_far ∙ ap (λ x. noted decls g (met_of decls x)) (ap (λ (xs : List Stmt). follows (statements_in xs)) same
    ∙ sym (then_is s v is))

beside_done : (decls : List Decl) (s : Stmt) (v : Vec Stmt Global) (ss : List Stmt) (i : ℕ) (f g : Findings) → s ≡ Beside v → ss ≡ v.items → length ss ≤ i →
    noted decls f (met_of_each decls (statements_in (drop i ss))) ≡ noted decls g (met_of_each decls (statements_in ss)) →
    f ≡ noted decls g (met_of decls (statement_of s))
beside_done decls s v ss i f g is same over so_far =
    members_done decls ss i f g over so_far ∙ ap (λ x. noted decls g (met_of decls x)) (ap (λ (xs : List Stmt). besides (statements_in xs)) same
    ∙ sym (beside_is s v is))

pub group_done : (decls : List Decl) (s : Stmt) (v : Vec Stmt Global) (ss : List Stmt) (i : ℕ) (f g : Findings) → (s ≡ Then v) ⊎ (s ≡ Beside v) →
    ss ≡ v.items → length ss ≤ i → noted decls f (met_of_each decls (statements_in (drop i ss))) ≡ noted decls g (met_of_each decls (statements_in ss)) →
    f ≡ noted decls g (met_of decls (statement_of s))
group_done decls s v ss i f g (inl is) = then_done decls s v ss i f g is
group_done decls s v ss i f g (inr is) = beside_done decls s v ss i f g is

pub arm_step : (decls : List Decl) (xs : List Arm) (i : ℕ) (a : Arm) (f g h whole : Findings) → i < length xs → a ≡ get_or xs i a →
    noted decls f (met_of_arms decls (arms_in (drop i xs))) ≡ whole → g ≡ noted decls f (met_in decls 1 (expression_of a.guard)) →
    h ≡ noted decls g (met_of decls (statement_of a.body)) → noted decls h (met_of_arms decls (arms_in (drop (i + 1) xs))) ≡ whole
arm_step decls xs i a f g h whole within is so_far first second =
    noted_arm decls f g h whole (expression_of a.guard) (statement_of a.body) (arms_in (drop (i + 1) xs))
    (ap (λ us. noted decls f (met_of_arms decls us)) (sym (arms_more xs i a within is)) ∙ so_far) first second

pub arms_done : (decls : List Decl) (s : Stmt) (again : Bool) (v : Vec Arm Global) (xs : List Arm) (i : ℕ) (f g : Findings) → s ≡ Select again v →
    xs ≡ v.items → length xs ≤ i → noted decls f (met_of_arms decls (arms_in (drop i xs))) ≡ noted decls g (met_of_arms decls (arms_in xs)) →
    f ≡ noted decls g (met_of decls (statement_of s))
arms_done decls s again v xs i f g is same over so_far =
    ap (λ us. noted decls f (met_of_arms decls us)) (sym (arms_end xs i over)) ∙ so_far
    ∙ ap (λ x. noted decls g (met_of decls x)) (ap (λ (ys : List Arm). plain.selects again (arms_in ys)) same ∙ sym (select_is s again v is))
