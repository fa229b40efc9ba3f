-- Names that are found in a table, and the widths of expressions.
use Rattle.std.proofs.Common.{◌≡◌, ℕ, zero, suc, ◌+◌, ◌<◌, ◌≤◌, Bool, true, false, List, [], ◌∷◌, length, map, get_or, Option, Some, None, refl, ◌∙◌, subst, arith}
use Rattle.std.specs.Prelude.{Contains, slice_get, option_map, unwrap_or}
use Rattle.std.specs.List.{IsDistinct, AllByRecursion}
use Rattle.std.specs.Str.{bytes_eq}
use Rattle.std.proofs.lemmas.Map.Keys.{IsDistinct-head, IsDistinct-tail}
use Rattle.std.proofs.lemmas.Slice.Eq.{bytes_eq-Decides}
use Rattle.chp_base.specs.declared.span.Span.{Span}
use Rattle.chp_syntax.specs.declared.tree.Decl.{Decl}
use Rattle.chp_syntax.specs.declared.tree.Op.{Op}
use Rattle.chp_syntax.specs.Trees.{Expression, chain, Expressions, no_parts, and_part, Links, and_link}
use Rattle.width_check.specs.Places.{declaration, compares, or_width, own_width, own_widths, first_width}
use Rattle.width_check.specs.Walk.{capped_width, side_width}

abbrev pub names : List Decl → List (List ℕ)
names ds = map (λ (d : Decl). d.name.name) ds

pub found_within : (ds : List Decl) (name : List ℕ) (i : ℕ) → slice_get (names ds) i ≡ Some name → i < length ds
found_within [] name i is = absurd (cc is)
found_within (d ∷ ds) name zero is = omega arith
found_within (d ∷ ds) name (suc i) is = let less = found_within ds name i is in omega arith

pub none_among : (n name : List ℕ) (ds : List Decl) (i : ℕ) → AllByRecursion (λ y. bytes_eq n y ≡ false) (names ds) → slice_get (names ds) i ≡ Some name →
    bytes_eq n name ≡ false
none_among n name [] i none is = absurd (cc is)
none_among n name (d ∷ ds) zero none is = let same : d.name.name ≡ name = cc is in subst (λ (m : List ℕ). bytes_eq n m ≡ false) same none.0
none_among n name (d ∷ ds) (suc i) none is = none_among n name ds i none.1 is

pub found_is : (ds : List Decl) (name : List ℕ) (i : ℕ) (e : Decl) → IsDistinct bytes_eq (names ds) → slice_get (names ds) i ≡ Some name →
    declaration ds name ≡ Some (get_or ds i e)
found_is [] name i e distinct is = absurd (cc is)
found_is (d ∷ ds) name zero e distinct is =
    let same : d.name.name ≡ name = cc is in
    let test = (bytes_eq-Decides d.name.name name).1 same in
    rw test refl
found_is (d ∷ ds) name (suc i) e distinct is =
    let test = none_among d.name.name name ds i (IsDistinct-head bytes_eq d.name.name (names ds) distinct) is in
    rw test (found_is ds name i e (IsDistinct-tail bytes_eq d.name.name (names ds) distinct) is)

in_rest : (n name : List ℕ) (ns : List (List ℕ)) → Contains ns name → Contains (n ∷ ns) name
in_rest n name ns c = (suc c.0, omega (arith, c.1), c.2)

not_here : (d : Decl) (ds : List Decl) (name : List ℕ) (b : Bool) → bytes_eq d.name.name name ≡ b → ¬ Contains (names (d ∷ ds)) name →
    declaration ds name ≡ None → declaration (d ∷ ds) name ≡ None
not_here d ds name true is none rest = absurd (none (0, omega arith, (bytes_eq-Decides d.name.name name).0 is))
not_here d ds name false is none rest = rw is rest

pub not_found : (ds : List Decl) (name : List ℕ) → ¬ Contains (names ds) name → declaration ds name ≡ None
not_found [] name none = refl
not_found (d ∷ ds) name none = not_here d ds name (bytes_eq d.name.name name) refl none (not_found ds name (λ c. none (in_rest d.name.name name (names ds) c)))

-- widths of more than 64 bits count as 65

pub capped_most : (r n : ℕ) → r ≡ capped_width n → r ≤ 65
capped_most r n is = grind arith

pub wide_already : (n m whole : ℕ) → 64 < n → n ≤ 65 → capped_width (n + m) ≡ whole → whole ≡ n
wide_already n m whole wide most is = grind arith

-- one part more
pub part_sum : (decls : List Decl) (e : Expression) (more : Expressions) (n r whole : ℕ) (o : Option ℕ) →
    capped_width (n + own_widths decls (and_part e more)) ≡ whole → o ≡ option_map capped_width (own_width decls e) → r ≡ capped_width (n + unwrap_or o 0) →
    capped_width (r + own_widths decls more) ≡ whole
part_sum decls e more n r whole o so_far is new = step (own_width decls e) so_far is
  where
    step : (w : Option ℕ) → capped_width (n + (unwrap_or w 0 + own_widths decls more)) ≡ whole → o ≡ option_map capped_width w →
        capped_width (r + own_widths decls more) ≡ whole
    step None so is = rw (new, is) (grind arith)
    step (Some w) so is = rw (new, is) (grind arith)

-- no part left
pub part_none : (decls : List Decl) (n whole : ℕ) → capped_width (n + own_widths decls no_parts) ≡ whole → n ≤ 64 → n ≡ whole
part_none decls n whole so_far most = grind arith

-- the first width among a member and some links
pub link_first : (decls : List Decl) (op : Op) (e : Expression) (more : Links) (w : ℕ) (whole : Option ℕ) →
    option_map capped_width (first_width decls (and_link op e more)) ≡ whole → Some w ≡ option_map capped_width (own_width decls e) → Some w ≡ whole
link_first decls op e more w whole so_far is = step (own_width decls e) so_far is
  where
    step : (o : Option ℕ) → option_map capped_width (or_width o (first_width decls more)) ≡ whole → Some w ≡ option_map capped_width o → Some w ≡ whole
    step None so here = absurd (cc here)
    step (Some v) so here = here ∙ so

pub left_first : (decls : List Decl) (e : Expression) (more : Links) (w : ℕ) → Some w ≡ option_map capped_width (own_width decls e) →
    Some w ≡ option_map capped_width (side_width decls e more)
left_first decls e more w is = step (own_width decls e) is
  where
    step : (o : Option ℕ) → Some w ≡ option_map capped_width o → Some w ≡ option_map capped_width (or_width o (first_width decls more))
    step None here = absurd (cc here)
    step (Some v) here = here

pub left_none : (decls : List Decl) (e : Expression) (more : Links) → None ≡ option_map capped_width (own_width decls e) →
    option_map capped_width (first_width decls more) ≡ option_map capped_width (side_width decls e more)
left_none decls e more is = step (own_width decls e) is
  where
    step : (o : Option ℕ) → None ≡ option_map capped_width o →
        option_map capped_width (first_width decls more) ≡ option_map capped_width (or_width o (first_width decls more))
    step None here = refl
    step (Some v) here = absurd (cc here)

-- a chain that doesn't compare
pub own_of_chain : (decls : List Decl) (e : Expression) (more : Links) (at : Span) → compares more ≡ false →
    own_width decls (chain e more at) ≡ side_width decls e more
own_of_chain decls e more at plain = rw plain refl

pub own_of_comparison : (decls : List Decl) (e : Expression) (more : Links) (at : Span) → compares more ≡ true → own_width decls (chain e more at) ≡ Some 1
own_of_comparison decls e more at is = rw is refl
