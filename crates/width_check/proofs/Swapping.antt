-- The first place of several is the same in whatever order they are met.
use Rattle.std.proofs.Common.{◌≡◌, ℕ, Bool, true, false, List, [], ◌∷◌, Option, Some, None, ◌⊎◌, inl, inr, ⊎_elim, refl, sym, ap, ◌∙◌, subst}
use Rattle.std.specs.Prelude.{not, ◌||◌, ◌==◌, nat_lt, if◌then◌else◌, is_none, unwrap_or, flat_map}
use Rattle.chp_base.specs.declared.span.Span.{Span}
use Rattle.chp_syntax.specs.declared.tree.Decl.{Decl}
use Rattle.chp_syntax.specs.Trees.{Expression, join, Expressions, and_part}
use Rattle.width_check.specs.declared.findings.Findings.{Findings}
use Rattle.width_check.specs.Places.{own_width, own_widths, span_of}
use Rattle.width_check.specs.Order.{IsNoLater}
use Rattle.width_check.specs.Walk.{earlier, first_of, Met, met_in, met_join, met_in_parts, capped_width, lacking, lacking_parts, with_part, with_leaf, noted}
use Rattle.width_check.proofs.Least.{IsLeast, Passes, least_same, least_of, no_later_self}
use Rattle.width_check.proofs.OneCause.{one_place}
use Rattle.width_check.proofs.Walks.{noted_both, misfit_capped}
use Rattle.std.proofs.lemmas.List.{append-nil}

least_once : (P : Span → Type 0) (o q : Option Span) → IsLeast P o → IsLeast P q → o ≡ q
least_once P None None a b = refl
least_once P None (Some t) a b = absurd (a t b.there)
least_once P (Some s) None a b = absurd (b s a.there)
least_once P (Some s) (Some t) a b = ap (λ (u : Span). let x : Option Span = Some u in x) (one_place s t (a.first t b.there) (b.first s a.there))

itself : (o : Option Span) → IsLeast (λ s. o ≡ Some s) o
itself None = λ s is. cc is
itself (Some t) = record { there = refl; first = λ s is. let e : t ≡ s = cc is in subst (λ (u : Span). IsNoLater t u) e (no_later_self t) }

pub first_swap : {X Y : Type 0} (p : X → Bool) (at : X → Span) (q : Y → Bool) (bt : Y → Span) (o : Option Span) (xs : List X) (ys : List Y) →
    first_of p at (first_of q bt o ys) xs ≡ first_of q bt (first_of p at o xs) ys
first_swap p at q bt o xs ys =
    least_once (λ s. ((o ≡ Some s) ⊎ Passes q bt ys s) ⊎ Passes p at xs s) (first_of p at (first_of q bt o ys) xs) (first_of q bt (first_of p at o xs) ys)
    (least_of p at (λ s. (o ≡ Some s) ⊎ Passes q bt ys s) (first_of q bt o ys) xs (least_of q bt (λ s. o ≡ Some s) o ys (itself o)))
    (least_same (λ s. ((o ≡ Some s) ⊎ Passes p at xs s) ⊎ Passes q bt ys s) (λ s. ((o ≡ Some s) ⊎ Passes q bt ys s) ⊎ Passes p at xs s) _
    (λ s h. ⊎_elim (λ k. ⊎_elim (λ e. inl (inl e)) (λ x. inr x) k) (λ y. inl (inr y)) h)
    (λ s h. ⊎_elim (λ k. ⊎_elim (λ e. inl (inl e)) (λ y. inr y) k) (λ x. inl (inr x)) h)
    (least_of q bt (λ s. (o ≡ Some s) ⊎ Passes p at xs s) (first_of p at o xs) ys (least_of p at (λ s. o ≡ Some s) o xs (itself o))))

abbrev always : Span → Bool
always s = true

abbrev here : Span → Span
here s = s

-- parts that may lack a width
abbrev pub with_parts : List Decl → Findings → Expressions → Findings
with_parts ds f parts = record f { widthless = first_of always here f.widthless (lacking_parts ds parts) }

parts_later : (ds : List Decl) (f : Findings) (parts : Expressions) (m : Met) → noted ds (with_parts ds f parts) m ≡ with_parts ds (noted ds f m) parts
parts_later ds f parts m = ap (λ (o : Option Span). let g : Findings = record (noted ds f m) { widthless = o } in
    g) (first_swap always here always here f.widthless (flat_map (lacking ds) m.expressions) (lacking_parts ds parts))

part_later : (ds : List Decl) (f : Findings) (b : Bool) (s : Span) (m : Met) → noted ds (with_part f b s) m ≡ with_part (noted ds f m) b s
part_later ds f b s m = ap (λ (o : Option Span). let g : Findings = record (noted ds f m) { widthless = o } in
    g) (first_swap always here (λ (x : Span). b) here f.widthless (flat_map (lacking ds) m.expressions) (s ∷ []))

pub leaf_later : (ds : List Decl) (f : Findings) (n w : ℕ) (s : Span) (m : Met) → noted ds (with_leaf f n w s) m ≡ with_leaf (noted ds f m) n w s
leaf_later ds f n w s m = ap (λ (o : Option Span). let g : Findings = record (noted ds f m) { leaf = o } in
    g) (first_swap _ _ (λ (x : Span). nat_lt 64 n || not (n == w)) here f.leaf m.leaves (s ∷ []))

one_more : (ds : List Decl) (f : Findings) (e : Expression) (more : Expressions) (b : Bool) → is_none (own_width ds e) ≡ b →
    with_parts ds f (and_part e more) ≡ with_parts ds (with_part f (is_none (own_width ds e)) (span_of e)) more
one_more ds f e more true is = rw is refl
one_more ds f e more false is = rw is refl

-- parts with what they are made of
abbrev pub noted_parts : List Decl → Findings → Expressions → Findings
noted_parts ds f parts = noted ds (with_parts ds f parts) (met_in_parts ds parts)

pub parts_step : (ds : List Decl) (f g total : Findings) (e : Expression) (more : Expressions) → noted_parts ds f (and_part e more) ≡ total →
    g ≡ noted ds f (met_in ds (unwrap_or (own_width ds e) 0) e) → noted_parts ds (with_part g (is_none (own_width ds e)) (span_of e)) more ≡ total
parts_step ds f g total e more so_far new =
    let w = unwrap_or (own_width ds e) 0 in
    let b = is_none (own_width ds e) in
    ap (λ (x : Findings). noted_parts ds (with_part x b (span_of e)) more) new
    ∙ ap (λ (x : Findings). noted_parts ds x more) (sym (part_later ds f b (span_of e) (met_in ds w e)))
    ∙ ap (λ (x : Findings). noted ds x (met_in_parts ds more)) (sym (parts_later ds (with_part f b (span_of e)) more (met_in ds w e)))
    ∙ ap (λ (x : Findings). noted ds (noted ds x (met_in ds w e)) (met_in_parts ds more)) (sym (one_more ds f e more b refl))
    ∙ noted_both ds (with_parts ds f (and_part e more)) (met_in ds w e) (met_in_parts ds more)
    ∙ so_far

-- a join of these parts
join_alone : (ds : List Decl) (f : Findings) (w : ℕ) (parts : Expressions) (at : Span) →
    noted ds f (met_join w parts at) ≡ with_leaf (with_parts ds f parts) (own_widths ds parts) w at
join_alone ds f w parts at = rw (append-nil (lacking_parts ds parts)) refl

pub join_whole : (ds : List Decl) (f g : Findings) (n w : ℕ) (parts : Expressions) (at : Span) → n ≡ capped_width (own_widths ds parts) →
    g ≡ noted_parts ds f parts →
    with_leaf g n w at ≡ noted ds f (met_in ds w (join parts at))
join_whole ds f g n w parts at own is =
    ap (λ (x : Findings). with_leaf x n w at) is
    ∙ ap (λ (b : Bool). let x : Findings = noted_parts ds f parts in let y : Findings = record x { leaf = (if b then earlier x.leaf at else x.leaf) } in
    y) (ap (λ (k : ℕ). nat_lt 64 k || not (k == w)) own ∙ misfit_capped (own_widths ds parts) w)
    ∙ sym (leaf_later ds (with_parts ds f parts) (own_widths ds parts) w at (met_in_parts ds parts))
    ∙ ap (λ (x : Findings). noted ds x (met_in_parts ds parts)) (sym (join_alone ds f w parts at))
    ∙ noted_both ds f (met_join w parts at) (met_in_parts ds parts)
