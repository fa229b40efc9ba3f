-- What a walk over the members of an expression knows of the expression's own width.
use Rattle.std.proofs.Common.{◌≡◌, ℕ, ◌+◌, ◌<◌, ◌≤◌, true, false, List, length, get_or, drop, Option, Some, None, refl, sym, ap, ◌∙◌, arith}
use Rattle.std.specs.Prelude.{Bool, is_none, option_map, unwrap_or}
use Rattle.std.specs.declared.alloc.Global.{Global}
use Rattle.std.specs.declared.boxed.Box.{Box}
use Rattle.std.specs.declared.vec.Vec.{Vec}
use Rattle.chp_base.specs.declared.span.Span.{Span}
use Rattle.chp_syntax.specs.declared.tree.Decl.{Decl}
use Rattle.chp_syntax.specs.declared.tree.Expr.{Expr, Join, Chain}
use Rattle.chp_syntax.specs.declared.tree.Link.{Link}
use Rattle.chp_syntax.specs.Trees as plain
use Rattle.chp_syntax.specs.Trees.{no_parts}
use Rattle.chp_syntax.specs.View.{expression_of}
use Rattle.width_check.specs.Places.{compares, or_width, own_width, own_widths, first_width}
use Rattle.width_check.specs.Walk.{capped_width, side_width, join_parts, links_in}
use Rattle.width_check.proofs.Lists.{join_is, chain_is, parts_more, parts_end, links_more, links_end}
use Rattle.width_check.proofs.Scopes.{wide_already, part_sum, part_none, capped_most, link_first, left_first, left_none, own_of_chain, own_of_comparison}

own_of_join : (decls : List Decl) (e : Expr) (v : Vec Expr Global) (at : Span) (es : List Expr) → e ≡ Join v at → es ≡ v.items →
    own_width decls (expression_of e) ≡ Some (own_widths decls (join_parts es))
own_of_join decls e v at es is same = ap (own_width decls) (join_is e v at is) ∙ ap (λ (xs : List Expr). let w : Option ℕ =
    Some (own_widths decls (join_parts xs)) in w) (sym same)

pub join_over : (decls : List Decl) (e : Expr) (v : Vec Expr Global) (at : Span) (es : List Expr) (i : ℕ) (part : Expr) (n u r : ℕ) (o : Option ℕ) →
    e ≡ Join v at → es ≡ v.items → i < length es → part ≡ get_or es i part →
    capped_width (n + own_widths decls (join_parts (drop i es))) ≡ capped_width (own_widths decls (join_parts es)) →
    o ≡ option_map capped_width (own_width decls (expression_of part)) → u ≡ unwrap_or o 0 → r ≡ capped_width (n + u) → 64 < r →
    Some r ≡ option_map capped_width (own_width decls (expression_of e))
join_over decls e v at es i part n u r o is same within here so_far own unwrapped new wide =
    let begun = ap (λ ps. capped_width (n + own_widths decls ps)) (sym (parts_more es i part within here)) ∙ so_far in
    let more = part_sum decls (expression_of part) (join_parts (drop (i + 1) es)) n r _ o begun own (new ∙ ap (λ k. capped_width (n + k)) unwrapped) in
    let whole = wide_already r (own_widths decls (join_parts (drop (i + 1) es))) _ wide (capped_most r _ new) more in
    ap (λ (k : ℕ). let w : Option ℕ = Some k in w) (sym whole) ∙ sym (ap (option_map capped_width) (own_of_join decls e v at es is same))

pub join_whole : (decls : List Decl) (e : Expr) (v : Vec Expr Global) (at : Span) (es : List Expr) (i n : ℕ) → e ≡ Join v at → es ≡ v.items → length es ≤ i →
    capped_width (n + own_widths decls (join_parts (drop i es))) ≡ capped_width (own_widths decls (join_parts es)) → n ≤ 64 →
    Some n ≡ option_map capped_width (own_width decls (expression_of e))
join_whole decls e v at es i n is same all so_far most =
    let done = ap (λ ps. capped_width (n + own_widths decls ps)) (sym (parts_end es i all)) ∙ so_far in
    ap (λ (k : ℕ). let w : Option ℕ = Some k in w) (part_none decls n _ done most) ∙ sym (ap (option_map capped_width) (own_of_join decls e v at es is same))

-- one part more in a sum that is taken to the end
pub part_summed : (decls : List Decl) (es : List Expr) (i : ℕ) (part : Expr) (n u r whole : ℕ) (o : Option ℕ) → i < length es → part ≡ get_or es i part →
    capped_width (n + own_widths decls (join_parts (drop i es))) ≡ whole → o ≡ option_map capped_width (own_width decls (expression_of part)) →
    u ≡ unwrap_or o 0 →
    r ≡ capped_width (n + u) → capped_width (r + own_widths decls (join_parts (drop (i + 1) es))) ≡ whole
part_summed decls es i part n u r whole o within here so_far own unwrapped new =
    let begun = ap (λ ps. capped_width (n + own_widths decls ps)) (sym (parts_more es i part within here)) ∙ so_far in
    part_sum decls (expression_of part) (join_parts (drop (i + 1) es)) n r whole o begun own (new ∙ ap (λ k. capped_width (n + k)) unwrapped)

sum_all : (decls : List Decl) (n whole : ℕ) → capped_width (n + own_widths decls no_parts) ≡ whole → n ≤ 65 → n ≡ whole
sum_all decls n whole so_far most = grind arith

pub sum_done : (decls : List Decl) (es : List Expr) (i n whole : ℕ) → length es ≤ i → capped_width (n + own_widths decls (join_parts (drop i es))) ≡ whole →
    n ≤ 65 →
    n ≡ whole
sum_done decls es i n whole over so_far most =
    sum_all decls n whole (ap (λ ps. capped_width (n + own_widths decls ps)) (sym (parts_end es i over)) ∙ so_far) most

pub join_own : (decls : List Decl) (e : Expr) (v : Vec Expr Global) (at : Span) (es : List Expr) (n : ℕ) → e ≡ Join v at → es ≡ v.items →
    n ≡ capped_width (own_widths decls (join_parts es)) → Some n ≡ option_map capped_width (own_width decls (expression_of e))
join_own decls e v at es n is same own =
    ap (λ (k : ℕ). let w : Option ℕ = Some k in w) own ∙ sym (ap (option_map capped_width) (own_of_join decls e v at es is same))

-- the links of a chain as a list
chain_of : (e : Expr) (first : Box Expr Global) (v : Vec Link Global) (at : Span) (ls : List Link) → e ≡ Chain first v at → ls ≡ v.items →
    expression_of e ≡ plain.chain (expression_of first.value) (links_in ls) at
chain_of e first v at ls is same = chain_is e first v at is ∙ ap (λ (xs : List Link). plain.chain (expression_of first.value) (links_in xs) at) (sym same)

pub comparison_one : (decls : List Decl) (e : Expr) (first : Box Expr Global) (v : Vec Link Global) (at : Span) (ls : List Link) → e ≡ Chain first v at →
    ls ≡ v.items → compares (links_in ls) ≡ true → Some 1 ≡ option_map capped_width (own_width decls (expression_of e))
comparison_one decls e first v at ls is same compared =
    sym (ap (λ x. option_map capped_width (own_width decls x)) (chain_of e first v at ls is same)
    ∙ ap (option_map capped_width) (own_of_comparison decls (expression_of first.value) (links_in ls) at compared))

-- a chain that doesn't compare has the width of its sides
chain_side : (decls : List Decl) (e : Expr) (first : Box Expr Global) (v : Vec Link Global) (at : Span) (ls : List Link) → e ≡ Chain first v at → ls ≡ v.items →
    compares (links_in ls) ≡ false → option_map capped_width (own_width decls (expression_of e)) ≡
    option_map capped_width (side_width decls (expression_of first.value) (links_in ls))
chain_side decls e first v at ls is same not_compared =
    ap (λ x. option_map capped_width (own_width decls x)) (chain_of e first v at ls is same)
    ∙ ap (option_map capped_width) (own_of_chain decls (expression_of first.value) (links_in ls) at not_compared)

pub chain_left : (decls : List Decl) (e : Expr) (first : Box Expr Global) (v : Vec Link Global) (at : Span) (ls : List Link) (w : ℕ) → e ≡ Chain first v at →
    ls ≡ v.items → compares (links_in ls) ≡ false → Some w ≡ option_map capped_width (own_width decls (expression_of first.value)) →
    Some w ≡ option_map capped_width (own_width decls (expression_of e))
chain_left decls e first v at ls w is same not_compared here =
    left_first decls (expression_of first.value) (links_in ls) w here ∙ sym (chain_side decls e first v at ls is same not_compared)

pub chain_link : (decls : List Decl) (e : Expr) (first : Box Expr Global) (v : Vec Link Global) (at : Span) (all ls : List Link) (i : ℕ) (l : Link) (w : ℕ) →
    e ≡ Chain first v at → all ≡ v.items → ls ≡ v.items → compares (links_in all) ≡ false →
    None ≡ option_map capped_width (own_width decls (expression_of first.value)) → i < length ls → l ≡ get_or ls i l →
    option_map capped_width (first_width decls (links_in (drop i ls))) ≡ option_map capped_width (first_width decls (links_in ls)) →
    Some w ≡ option_map capped_width (own_width decls (expression_of l.right)) → Some w ≡ option_map capped_width (own_width decls (expression_of e))
chain_link decls e first v at all ls i l w is same here not_compared none within at_i so_far found =
    let same_links : ls ≡ all = here ∙ sym same in
    let begun = ap (λ us. option_map capped_width (first_width decls us)) (sym (links_more ls i l within at_i)) ∙ so_far in
    link_first decls l.op (expression_of l.right) (links_in (drop (i + 1) ls)) w _ begun found
    ∙ ap (λ us. option_map capped_width (first_width decls (links_in us))) same_links ∙ left_none decls (expression_of first.value) (links_in all) none
    ∙ sym (chain_side decls e first v at all is same not_compared)

pub chain_none : (decls : List Decl) (e : Expr) (first : Box Expr Global) (v : Vec Link Global) (at : Span) (all ls : List Link) (i : ℕ) →
    e ≡ Chain first v at → all ≡ v.items → ls ≡ v.items → compares (links_in all) ≡ false →
    None ≡ option_map capped_width (own_width decls (expression_of first.value)) → length ls ≤ i →
    option_map capped_width (first_width decls (links_in (drop i ls))) ≡ option_map capped_width (first_width decls (links_in ls)) →
    None ≡ option_map capped_width (own_width decls (expression_of e))
chain_none decls e first v at all ls i is same here not_compared none over so_far =
    let same_links : ls ≡ all = here ∙ sym same in
    let done : None ≡ option_map capped_width (first_width decls (links_in ls)) =
    ap (λ us. option_map capped_width (first_width decls us)) (sym (links_end ls i over))
    ∙ so_far in
    done ∙ ap (λ us. option_map capped_width (first_width decls (links_in us))) same_links ∙ left_none decls (expression_of first.value) (links_in all) none
    ∙ sym (chain_side decls e first v at all is same not_compared)

pub from_none : (n : ℕ) → capped_width (0 + n) ≡ capped_width n
from_none n =
    let same : 0 + n ≡ n = omega arith in
    ap capped_width same

none_of : (o : Option ℕ) → option_map capped_width o ≡ None → o ≡ None
none_of None is = refl
none_of (Some x) is = absurd (cc is)

-- a link that has no width is passed
pub link_passed : (decls : List Decl) (ls : List Link) (i : ℕ) (l : Link) (o whole : Option ℕ) → i < length ls → l ≡ get_or ls i l →
    o ≡ option_map capped_width (own_width decls (expression_of l.right)) → o ≡ None →
    option_map capped_width (first_width decls (links_in (drop i ls))) ≡ whole
    → option_map capped_width (first_width decls (links_in (drop (i + 1) ls))) ≡ whole
link_passed decls ls i l o whole within is found not so_far =
    let rest = first_width decls (links_in (drop (i + 1) ls)) in
    let none = none_of (own_width decls (expression_of l.right)) (sym found ∙ not) in
    let step : first_width decls (links_in (drop i ls)) ≡ rest = ap (first_width decls) (links_more ls i l within is)
    ∙ ap (λ (p : Option ℕ). or_width p rest) none in
    ap (option_map capped_width) (sym step) ∙ so_far

-- expressions that are made of numbers alone

pub widthless_comparison : (decls : List Decl) (e : Expr) (first : Box Expr Global) (v : Vec Link Global) (at : Span) (ls : List Link) → e ≡ Chain first v at →
    ls ≡ v.items → compares (links_in ls) ≡ true → false ≡ is_none (own_width decls (expression_of e))
widthless_comparison decls e first v at ls is same compared =
    sym (ap (λ x. is_none (own_width decls x)) (chain_of e first v at ls is same)
    ∙ ap (λ (o : Option ℕ). is_none o) (own_of_comparison decls (expression_of first.value) (links_in ls) at compared))

none_of_chain : (decls : List Decl) (e : Expr) (first : Box Expr Global) (v : Vec Link Global) (at : Span) (ls : List Link) → e ≡ Chain first v at →
    ls ≡ v.items → compares (links_in ls) ≡ false →
    is_none (own_width decls (expression_of e)) ≡ is_none (side_width decls (expression_of first.value) (links_in ls))
none_of_chain decls e first v at ls is same not_compared =
    ap (λ x. is_none (own_width decls x)) (chain_of e first v at ls is same)
    ∙ ap (λ (o : Option ℕ). is_none o) (own_of_chain decls (expression_of first.value) (links_in ls) at not_compared)

none_first : (o p : Option ℕ) → false ≡ is_none o → false ≡ is_none (or_width o p)
none_first None p h = absurd (cc h)
none_first (Some w) p h = refl

none_later : (o p : Option ℕ) (b : Bool) → true ≡ is_none o → b ≡ is_none p → b ≡ is_none (or_width o p)
none_later None p b none h = h
none_later (Some w) p b none h = absurd (cc none)

pub widthless_link : (decls : List Decl) (e : Expr) (first : Box Expr Global) (v : Vec Link Global) (at : Span) (all ls : List Link) (i : ℕ) (l : Link) →
    e ≡ Chain first v at → all ≡ v.items → ls ≡ v.items → compares (links_in all) ≡ false → true ≡ is_none (own_width decls (expression_of first.value)) →
    i < length ls → l ≡ get_or ls i l → is_none (first_width decls (links_in (drop i ls))) ≡ is_none (first_width decls (links_in ls)) →
    false ≡ is_none (own_width decls (expression_of l.right)) → false ≡ is_none (own_width decls (expression_of e))
widthless_link decls e first v at all ls i l is same here not_compared none within at_i so_far found =
    let same_links : ls ≡ all = here ∙ sym same in
    let begun = ap (λ us. is_none (first_width decls us)) (sym (links_more ls i l within at_i)) ∙ so_far in
    let later : false ≡ is_none (first_width decls (links_in ls)) =
    none_first (own_width decls (expression_of l.right)) (first_width decls (links_in (drop (i + 1) ls))) found ∙ begun in
    none_later (own_width decls (expression_of first.value)) (first_width decls (links_in all)) false none (later
    ∙ ap (λ us. is_none (first_width decls (links_in us))) same_links) ∙ sym (none_of_chain decls e first v at all is same not_compared)

pub widthless_all : (decls : List Decl) (e : Expr) (first : Box Expr Global) (v : Vec Link Global) (at : Span) (all ls : List Link) (i : ℕ) →
    e ≡ Chain first v at → all ≡ v.items → ls ≡ v.items → compares (links_in all) ≡ false → true ≡ is_none (own_width decls (expression_of first.value)) →
    length ls ≤ i → is_none (first_width decls (links_in (drop i ls))) ≡ is_none (first_width decls (links_in ls)) →
    true ≡ is_none (own_width decls (expression_of e))
widthless_all decls e first v at all ls i is same here not_compared none over so_far =
    let same_links : ls ≡ all = here ∙ sym same in
    let later : true ≡ is_none (first_width decls (links_in ls)) = ap (λ us. is_none (first_width decls us)) (sym (links_end ls i over)) ∙ so_far in
    none_later (own_width decls (expression_of first.value)) (first_width decls (links_in all)) true none (later
    ∙ ap (λ us. is_none (first_width decls (links_in us))) same_links) ∙ sym (none_of_chain decls e first v at all is same not_compared)
