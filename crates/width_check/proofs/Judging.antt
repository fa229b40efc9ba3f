-- The first fault of a program, from the first places that were found for each cause.
use Rattle.std.proofs.Common.{◌≡◌, ◌≢◌, ℕ, ◌^◌, ◌<◌, ◌≤◌, Bool, true, false, List, [], ◌∷◌, ◌++◌, Option, Some, None, ◌⊎◌, inl, inr, ⊎_elim, refl, sym, ap, ◌∙◌, subst, arith}
use Rattle.std.specs.Prelude.{not, ◌||◌, ◌==◌, nat_lt, nat_le, if◌then◌else◌, unwrap_or, Contains}
use Rattle.std.proofs.lemmas.Bool.Decides.{nat_tests}
use Rattle.std.proofs.lemmas.List.Elements.{Contains-append_left, Contains-append_right, Contains-append_cases}
use Rattle.chp_base.specs.declared.span.Span.{Span}
use Rattle.chp_base.specs.declared.fault.FaultCode.{FaultCode}
use Rattle.chp_base.specs.declared.fault.FaultCode.TheVariants as code
use Rattle.chp_syntax.specs.declared.tree.Decl.{Decl}
use Rattle.chp_syntax.specs.Trees.{Expression, number, whole, slice, bit, join, negation, chain, Expressions, no_parts, and_part, Links, no_links, and_link, Statement, skips, assigns, sends, receives, follows, besides, selects, repeats, calls, Statements, no_members, and_member, Arms, no_arms, and_arm, ProgramTree}
use Rattle.width_check.specs.declared.causes.Cause.{Cause}
use Rattle.width_check.specs.declared.findings.Findings.{Findings}
use Rattle.width_check.specs.Places.{declared_width, compares, or_width, own_width, own_widths, first_width, span_of, Expected, expect, leaves, leaves_of_parts, leaves_of_links, expressions_in, expressions_in_each, expressions_in_arms}
use Rattle.width_check.specs.Faults.{all_expressions, all_leaves, IsWideJoin, IsMisfit, IsMisfitLeaf, IsMisfitReceive, IsWideNumber, IsWideFirst, FaultAt, naming_faults, HasNone, IsFirstFault}
use Rattle.width_check.specs.Refusing.{AreNone, IsFirstCause}
use Rattle.width_check.specs.Sound.{AreRanged}
use Rattle.width_check.specs.Walk.{is_earlier, earlier, earlier_of, first_of, first_double, met_of, capped_width, side_width, is_bad_part, is_unfit, is_misfit, exceeds, is_wide_number, is_out_of_range, is_wide_first, no_findings, noted}
use Rattle.width_check.proofs.Least.{IsLeast, Passes, least_same, least_more, least_in, no_later_chain, in_rest, front_or_rest, no_item}
use Rattle.width_check.proofs.Reasons.{none_pass, undeclared_least, wrong_kind_least, direction_least, slice_least, widthless_least, target_least, range_least, in_flat_map, flat_map_in}
use Rattle.width_check.proofs.Doubles.{double_least}
use Rattle.width_check.proofs.Leaves.{leaf_of_program, ranged_most, declared_most, wide_leaf}

-- the earlier of two
pub least_either : (P Q : Span → Type 0) (a b : Option Span) → IsLeast P a → IsLeast Q b → IsLeast (λ s. P s ⊎ Q s) (earlier_of a b)
least_either P Q a None first nowhere = least_same P (λ s. P s ⊎ Q s) a (λ s p. inl p) (λ s h. ⊎_elim (λ p. p) (λ q. absurd (nowhere s q)) h) first
least_either P Q a (Some t) first second = by_least (earlier a t) (least_more P a t first)
  where
    by_least : (o : Option Span) → IsLeast (λ s. P s ⊎ (s ≡ t)) o → IsLeast (λ s. P s ⊎ Q s) o
    by_least None none = λ s h. none t (inr refl)
    by_least (Some r) least = record {
      there = ⊎_elim (λ p. inl p) (λ (e : r ≡ t). inr (subst Q (sym e) second.there)) least.there;
      first = λ s h. ⊎_elim (λ p. least.first s (inl p)) (λ q. no_later_chain r t s (least.first t (inr refl)) (second.first s q)) h;
    }

-- a leaf of another width

pub unfit_is : (o : Option ℕ) (w : ℕ) → is_unfit o w ≡ true → (v : ℕ) × (o ≡ Some v) × ((64 < v) ⊎ (v ≢ w))
unfit_is None w h = absurd (cc h)
unfit_is (Some v) w h = by_test (nat_lt 64 v) refl h
  where
    by_test : (b : Bool) → nat_lt 64 v ≡ b → (b || not (v == w)) ≡ true → (u : ℕ) × (Some v ≡ Some u) × ((64 < u) ⊎ (u ≢ w))
    by_test true wide is = (v, refl, inl (grind (arith, nat_tests)))
    by_test false wide is = (v, refl, inr (λ e. absurd (grind (arith, nat_tests))))

is_unfit_of : (v w : ℕ) → (64 < v) ⊎ (v ≢ w) → is_unfit (Some v) w ≡ true
is_unfit_of v w h = by_test (nat_lt 64 v) refl h
  where
    by_test : (b : Bool) → nat_lt 64 v ≡ b → (64 < v) ⊎ (v ≢ w) → (b || not (v == w)) ≡ true
    by_test true wide is = refl
    by_test false wide (inl more) = absurd (grind (arith, nat_tests))
    by_test false wide (inr other) = grind (arith, nat_tests)

wide_join_own : (ds : List Decl) (e : Expression) → IsWideJoin ds e → (v : ℕ) × (own_width ds e ≡ Some v) × (64 < v)
wide_join_own ds (number n at) h = absurd h
wide_join_own ds (whole of) h = absurd h
wide_join_own ds (slice of high low at) h = absurd h
wide_join_own ds (bit of place at) h = absurd h
wide_join_own ds (join parts at) h = (own_widths ds parts, refl, h)
wide_join_own ds (negation e at) h = absurd h
wide_join_own ds (chain e more at) h = absurd h

abbrev place_of : Expected → Span
place_of l = span_of l.expression

pub leaf_least : (p : ProgramTree) → AreRanged p.decls → ((x : Expression) → Contains (all_expressions p) x → is_bad_part p.decls x ≡ false) →
    IsLeast (λ s. IsMisfitLeaf p s) (first_of (is_misfit p.decls) place_of None (all_leaves p))
leaf_least p ranged good =
    least_same (λ s. Passes (is_misfit p.decls) place_of (all_leaves p) s) (λ s. IsMisfitLeaf p s) _
    (λ s h. record { leaf = h.item; among = h.among; misfit = to h.item h.among h.passed; at = h.place })
    (λ s h. record { item = h.leaf; among = h.among; passed = from h.leaf h.misfit; place = h.at })
    (least_in (is_misfit p.decls) place_of (all_leaves p))
  where
    to : (l : Expected) → Contains (all_leaves p) l → is_misfit p.decls l ≡ true → IsMisfit p.decls l
    to l among h =
        let u = unfit_is (own_width p.decls l.expression) l.width h in
        let leaf = leaf_of_program p l among in
        ⊎_elim (λ wide. inr (wide_leaf p.decls ranged l.expression u.0 leaf.leaf (good l.expression leaf.among) u.1 wide)) (λ other. inl (u.0, u.1, other)) u.2

    from : (l : Expected) → IsMisfit p.decls l → is_misfit p.decls l ≡ true
    from l (inl h) = rw h.1 (is_unfit_of h.0 l.width (inr h.2))
    from l (inr h) = let w = wide_join_own p.decls l.expression h in rw w.1 (is_unfit_of w.0 l.width (inl w.2))

-- where no leaf is of another width, none is of more than 64 bits, nor wanted to be

abbrev pub AreFit : List Decl → List Expected → Type 0
AreFit ds ls = (l : Expected) → Contains ls l → is_misfit ds l ≡ false

pub fit_left : (ds : List Decl) (xs ys : List Expected) → AreFit ds (xs ++ ys) → AreFit ds xs
fit_left ds xs ys fit l c = fit l (Contains-append_left xs ys l c)

pub fit_right : (ds : List Decl) (xs ys : List Expected) → AreFit ds (xs ++ ys) → AreFit ds ys
fit_right ds xs ys fit l c = fit l (Contains-append_right xs ys l c)

fit_rest : (ds : List Decl) (x : Expected) (xs : List Expected) → AreFit ds (x ∷ xs) → AreFit ds xs
fit_rest ds x xs fit l c = fit l (in_rest x l xs c)

fit_here : (ds : List Decl) (e : Expression) (w : ℕ) (xs : List Expected) (v : ℕ) → AreFit ds (expect e w ∷ xs) → own_width ds e ≡ Some v → v ≤ 64
fit_here ds e w xs v fit is = narrow v w (let h = fit (expect e w) (0, omega arith, refl) in rw is at h)
  where
    narrow : (v w : ℕ) → is_unfit (Some v) w ≡ false → v ≤ 64
    narrow v w h = by_test (nat_lt 64 v) refl h
      where
        by_test : (b : Bool) → nat_lt 64 v ≡ b → (b || not (v == w)) ≡ false → v ≤ 64
        by_test true wide is = absurd (cc is)
        by_test false wide is = grind (arith, nat_tests)

-- the leaves of a chain, as it compares or not
abbrev ChainLeaves : List Decl → ℕ → Expression → Links → List Expected
ChainLeaves ds w e more = leaves ds w e ++ leaves_of_links ds w more

chain_own : (ds : List Decl) (w : ℕ) (e : Expression) (more : Links) (at : Span) (v : ℕ) (b : Bool) → compares more ≡ b
    → ((u : ℕ) → AreFit ds (leaves ds w e) → own_width ds e ≡ Some u → u ≤ 64) →
    ((u : ℕ) → AreFit ds (leaves_of_links ds w more) → first_width ds more ≡ Some u → u ≤ 64)
    → AreFit ds (leaves ds w (chain e more at)) → own_width ds (chain e more at) ≡ Some v → v ≤ 64
chain_own ds w e more at v true is first rest fit own = let h = rw is at own in let e : 1 ≡ v = cc h in omega arith
chain_own ds w e more at v false is first rest fit own = by_own (own_width ds e) refl (rw is at own)
  where
    both : AreFit ds (ChainLeaves ds w e more)
    both = rw is at fit

    by_own : (o : Option ℕ) → own_width ds e ≡ o → or_width o (first_width ds more) ≡ Some v → v ≤ 64
    by_own None none so = rest v (fit_right ds (leaves ds w e) (leaves_of_links ds w more) both) so
    by_own (Some u) some so = let same : u ≡ v = cc so in let most = first u (fit_left ds (leaves ds w e) (leaves_of_links ds w more) both) some in omega arith

either_most : (a b : Option ℕ) (v : ℕ) → ((u : ℕ) → a ≡ Some u → u ≤ 64) → ((u : ℕ) → b ≡ Some u → u ≤ 64) → or_width a b ≡ Some v → v ≤ 64
either_most None b v first rest is = rest v is
either_most (Some u) b v first rest is = let same : u ≡ v = cc is in let most = first u refl in omega arith

mutual
  pub own_most : (ds : List Decl) (w : ℕ) (e : Expression) (v : ℕ) → AreFit ds (leaves ds w e) → own_width ds e ≡ Some v → v ≤ 64
  own_most ds w (number n at) v fit is = absurd (cc is)
  own_most ds w (whole of) v fit is = fit_here ds (whole of) w [] v fit is
  own_most ds w (slice of high low at) v fit is = fit_here ds (slice of high low at) w [] v fit is
  own_most ds w (bit of place at) v fit is = fit_here ds (bit of place at) w [] v fit is
  own_most ds w (join parts at) v fit is = fit_here ds (join parts at) w (leaves_of_parts ds parts) v fit is
  own_most ds w (negation e at) v fit is = own_most ds w e v fit is
  own_most ds w (chain e more at) v fit is =
      chain_own ds w e more at v (compares more) refl (λ u f h. own_most ds w e u f h) (λ u f h. first_most ds w more u f h) fit is

  pub first_most : (ds : List Decl) (w : ℕ) (more : Links) (v : ℕ) → AreFit ds (leaves_of_links ds w more) → first_width ds more ≡ Some v → v ≤ 64
  first_most ds w no_links v fit is = absurd (cc is)
  first_most ds w (and_link op e more) v fit is =
      either_most (own_width ds e) (first_width ds more) v (λ u h. own_most ds w e u (fit_left ds (leaves ds w e) (leaves_of_links ds w more) fit) h)
      (λ u h. first_most ds w more u (fit_right ds (leaves ds w e) (leaves_of_links ds w more) fit) h) is

pub or_zero_most : (o : Option ℕ) → ((u : ℕ) → o ≡ Some u → u ≤ 64) → unwrap_or o 0 ≤ 64
or_zero_most None h = omega arith
or_zero_most (Some u) h = h u refl

-- what is wanted of the sides of a comparison
pub side_most : (ds : List Decl) (w : ℕ) (e : Expression) (more : Links) → AreFit ds (ChainLeaves ds w e more) → unwrap_or (side_width ds e more) 0 ≤ 64
side_most ds w e more fit =
    or_zero_most (side_width ds e more)
    (λ u h. either_most (own_width ds e) (first_width ds more) u (λ v k. own_most ds w e v (fit_left ds (leaves ds w e) (leaves_of_links ds w more) fit) k)
    (λ v k. first_most ds w more v (fit_right ds (leaves ds w e) (leaves_of_links ds w more) fit) k) h)

abbrev AreNarrow : List Expected → Type 0
AreNarrow ls = (l : Expected) → Contains ls l → l.width ≤ 64

narrow_one : (e : Expression) (w : ℕ) (xs : List Expected) → w ≤ 64 → AreNarrow xs → AreNarrow (expect e w ∷ xs)
narrow_one e w xs most rest l c = ⊎_elim (λ (same : expect e w ≡ l). subst (λ (x : Expected). x.width ≤ 64) same most) (λ k. rest l k)
    (front_or_rest (expect e w) l xs c)

narrow_none : AreNarrow []
narrow_none l c = absurd (no_item l c)

narrow_both : (xs ys : List Expected) → AreNarrow xs → AreNarrow ys → AreNarrow (xs ++ ys)
narrow_both xs ys left right l c = ⊎_elim (λ k. left l k) (λ k. right l k) (Contains-append_cases xs ys l c)

chain_narrow : (ds : List Decl) (w : ℕ) (e : Expression) (more : Links) (at : Span) (b : Bool) → compares more ≡ b → w ≤ 64
    → ((v : ℕ) → v ≤ 64 → AreFit ds (leaves ds v e) → AreNarrow (leaves ds v e)) →
    ((v : ℕ) → v ≤ 64 → AreFit ds (leaves_of_links ds v more) → AreNarrow (leaves_of_links ds v more))
    → AreFit ds (leaves ds w (chain e more at)) → AreNarrow (leaves ds w (chain e more at))
chain_narrow ds w e more at true is most first rest fit =
    let v = unwrap_or (side_width ds e more) 0 in
    let inner : AreFit ds (ChainLeaves ds v e more) = fit_rest ds (expect (chain e more at) w) (ChainLeaves ds v e more) (rw is at fit) in
    let bits : v ≤ 64 = side_most ds v e more inner in
    rw is (narrow_one (chain e more at) w (ChainLeaves ds v e more) most
    (narrow_both (leaves ds v e) (leaves_of_links ds v more) (first v bits (fit_left ds (leaves ds v e) (leaves_of_links ds v more) inner))
    (rest v bits (fit_right ds (leaves ds v e) (leaves_of_links ds v more) inner))))
chain_narrow ds w e more at false is most first rest fit =
    let inner : AreFit ds (ChainLeaves ds w e more) = rw is at fit in
    rw is (narrow_both (leaves ds w e) (leaves_of_links ds w more) (first w most (fit_left ds (leaves ds w e) (leaves_of_links ds w more) inner))
    (rest w most (fit_right ds (leaves ds w e) (leaves_of_links ds w more) inner)))

mutual
  leaves_narrow : (ds : List Decl) (w : ℕ) (e : Expression) → w ≤ 64 → AreFit ds (leaves ds w e) → AreNarrow (leaves ds w e)
  leaves_narrow ds w (number n at) most fit = narrow_one (number n at) w [] most narrow_none
  leaves_narrow ds w (whole of) most fit = narrow_one (whole of) w [] most narrow_none
  leaves_narrow ds w (slice of high low at) most fit = narrow_one (slice of high low at) w [] most narrow_none
  leaves_narrow ds w (bit of place at) most fit = narrow_one (bit of place at) w [] most narrow_none
  leaves_narrow ds w (join parts at) most fit =
      narrow_one (join parts at) w (leaves_of_parts ds parts) most
      (parts_narrow ds parts (fit_rest ds (expect (join parts at) w) (leaves_of_parts ds parts) fit))
  leaves_narrow ds w (negation e at) most fit = leaves_narrow ds w e most fit
  leaves_narrow ds w (chain e more at) most fit =
      chain_narrow ds w e more at (compares more) refl most (λ v m f. leaves_narrow ds v e m f) (λ v m f. links_narrow ds v more m f) fit

  parts_narrow : (ds : List Decl) (parts : Expressions) → AreFit ds (leaves_of_parts ds parts) → AreNarrow (leaves_of_parts ds parts)
  parts_narrow ds no_parts fit = narrow_none
  parts_narrow ds (and_part e more) fit =
      let w = unwrap_or (own_width ds e) 0 in
      let here = fit_left ds (leaves ds w e) (leaves_of_parts ds more) fit in
      narrow_both (leaves ds w e) (leaves_of_parts ds more) (leaves_narrow ds w e (or_zero_most (own_width ds e) (λ u h. own_most ds w e u here h)) here)
      (parts_narrow ds more (fit_right ds (leaves ds w e) (leaves_of_parts ds more) fit))

  links_narrow : (ds : List Decl) (w : ℕ) (more : Links) → w ≤ 64 → AreFit ds (leaves_of_links ds w more) → AreNarrow (leaves_of_links ds w more)
  links_narrow ds w no_links most fit = narrow_none
  links_narrow ds w (and_link op e more) most fit =
      narrow_both (leaves ds w e) (leaves_of_links ds w more) (leaves_narrow ds w e most (fit_left ds (leaves ds w e) (leaves_of_links ds w more) fit))
      (links_narrow ds w more most (fit_right ds (leaves ds w e) (leaves_of_links ds w more) fit))

mutual
  wanted_narrow : (ds : List Decl) → AreRanged ds → (s : Statement) → AreNarrow (expressions_in ds s)
  wanted_narrow ds ranged (skips at) = narrow_none
  wanted_narrow ds ranged (assigns target e) = narrow_one e (declared_width ds target.name) [] (declared_most ds ranged target.name) narrow_none
  wanted_narrow ds ranged (sends chan e) = narrow_one e (declared_width ds chan.name) [] (declared_most ds ranged chan.name) narrow_none
  wanted_narrow ds ranged (receives chan target) = narrow_none
  wanted_narrow ds ranged (follows members) = wanted_narrow_each ds ranged members
  wanted_narrow ds ranged (besides members) = wanted_narrow_each ds ranged members
  wanted_narrow ds ranged (selects again arms) = wanted_narrow_arms ds ranged arms
  wanted_narrow ds ranged (repeats s) = wanted_narrow ds ranged s
  wanted_narrow ds ranged (calls of) = narrow_none

  wanted_narrow_each : (ds : List Decl) → AreRanged ds → (members : Statements) → AreNarrow (expressions_in_each ds members)
  wanted_narrow_each ds ranged no_members = narrow_none
  wanted_narrow_each ds ranged (and_member s more) =
      narrow_both (expressions_in ds s) (expressions_in_each ds more) (wanted_narrow ds ranged s) (wanted_narrow_each ds ranged more)

  wanted_narrow_arms : (ds : List Decl) → AreRanged ds → (arms : Arms) → AreNarrow (expressions_in_arms ds arms)
  wanted_narrow_arms ds ranged no_arms = narrow_none
  wanted_narrow_arms ds ranged (and_arm g s more) =
      narrow_one g 1 (expressions_in ds s ++ expressions_in_arms ds more) (omega arith)
      (narrow_both (expressions_in ds s) (expressions_in_arms ds more) (wanted_narrow ds ranged s) (wanted_narrow_arms ds ranged more))

all_narrow : (p : ProgramTree) → AreRanged p.decls → AreFit p.decls (all_leaves p) → AreNarrow (all_leaves p)
all_narrow p ranged fit l c =
    let f = λ (x : Expected). leaves p.decls x.width x.expression in
    let e = in_flat_map f (expressions_in p.decls p.body) l c in
    leaves_narrow p.decls e.0.width e.0.expression (wanted_narrow p.decls ranged p.body e.0 e.1)
    (λ k among. fit k (flat_map_in f (expressions_in p.decls p.body) e.0 k e.1 among)) l e.2

-- a number that is too great

capped_narrow : (w : ℕ) → w ≤ 64 → capped_width w ≡ w
capped_narrow w most = grind arith

abbrev WideOf : Expression → ℕ → Type 0
WideOf e w = (n : ℕ) × (at : Span) × (e ≡ number n at) × (2 ^ w ≤ n)

wide_of : (e : Expression) (w : ℕ) → w ≤ 64 → exceeds e w ≡ true → WideOf e w
wide_of (number n at) w most h = (n, at, refl, let same = capped_narrow w most in let k = rw same at h in grind (arith, nat_tests))
wide_of (whole of) w most h = absurd (cc h)
wide_of (slice of high low at) w most h = absurd (cc h)
wide_of (bit of place at) w most h = absurd (cc h)
wide_of (join parts at) w most h = absurd (cc h)
wide_of (negation e at) w most h = absurd (cc h)
wide_of (chain e more at) w most h = absurd (cc h)

le_test : (n m : ℕ) → n ≤ m → nat_le n m ≡ true
le_test n m h = grind (arith, nat_tests)

pub number_least : (p : ProgramTree) → AreRanged p.decls → AreFit p.decls (all_leaves p) →
    IsLeast (λ s. IsWideNumber p s) (first_of is_wide_number place_of None (all_leaves p))
number_least p ranged fit =
    least_same (λ s. Passes is_wide_number place_of (all_leaves p) s) (λ s. IsWideNumber p s) _
    (λ s h.
    let w = wide_of h.item.expression h.item.width (all_narrow p ranged fit h.item h.among) h.passed in
    let same : s ≡ w.1 = h.place ∙ ap span_of w.2 in
    record {
      width = h.item.width;
      value = w.0;
      among = subst (λ (t : Span). Contains (all_leaves p) (expect (number w.0 t) h.item.width)) (sym same)
          (subst (λ (x : Expression). Contains (all_leaves p) (expect x h.item.width)) w.2 h.among);
      wide = w.3;
    })
    (λ s h.
    let most = all_narrow p ranged fit (expect (number h.value s) h.width) h.among in
    record {
      item = expect (number h.value s) h.width;
      among = h.among;
      passed = let same = capped_narrow h.width most in
          rw same (le_test (2 ^ h.width) h.value h.wide);
      place = refl;
    })
    (least_in is_wide_number place_of (all_leaves p))

-- a first value that is too great

wide_first_is : (d : Decl) → is_out_of_range d ≡ false → is_wide_first d ≡ true → 2 ^ d.width ≤ d.first
wide_first_is d ranged h = let same = capped_narrow d.width (ranged_most d ranged) in let k = rw same at h in grind (arith, nat_tests)

is_wide_first_of : (d : Decl) → is_out_of_range d ≡ false → 2 ^ d.width ≤ d.first → is_wide_first d ≡ true
is_wide_first_of d ranged h = let same = capped_narrow d.width (ranged_most d ranged) in rw same (le_test (2 ^ d.width) d.first h)

pub first_least : (p : ProgramTree) → AreRanged p.decls → IsLeast (λ s. IsWideFirst p s) (first_of is_wide_first (λ (d : Decl). d.first_at) None p.decls)
first_least p ranged =
    least_same (λ s. Passes is_wide_first (λ (d : Decl). d.first_at) p.decls s) (λ s. IsWideFirst p s) _
    (λ s h. record { decl = h.item; among = h.among; wide = wide_first_is h.item (ranged h.item h.among) h.passed; at = h.place })
    (λ s h. record { item = h.decl; among = h.among; passed = is_wide_first_of h.decl (ranged h.decl h.among) h.wide; place = h.at })
    (least_in is_wide_first (λ (d : Decl). d.first_at) p.decls)

-- the causes in their order

abbrev a_cause : FaultCode → Option Span → Cause
a_cause c o = record { code = c; place = o }

abbrev pub causes_of : (double range : Option Span) → Findings → Option Span → List Cause
causes_of double range f wide = a_cause code.DoubleName double ∷ a_cause code.WidthRange range ∷ a_cause code.Undeclared f.undeclared
    ∷ a_cause code.WrongKind f.wrong_kind ∷ a_cause code.Direction f.direction ∷ a_cause code.BadSlice f.slice ∷ a_cause code.UnknownWidth f.widthless
    ∷ a_cause code.Width (earlier_of f.leaf f.target) ∷ a_cause code.ConstantTooWide (earlier_of f.number wide) ∷ []

-- what was found is what is first
pub record AreFound (p : ProgramTree) (double range : Option Span) (f : Findings) (wide : Option Span) : Type 0 where
  pub doubles : double ≡ first_double [] None p.decls
  pub ranges : range ≡ first_of is_out_of_range (λ (d : Decl). d.width_at) None p.decls
  pub findings : f ≡ noted p.decls no_findings (met_of p.decls p.body)
  pub firsts : wide ≡ first_of is_wide_first (λ (d : Decl). d.first_at) None p.decls

first_cause : (p : ProgramTree) (d : FaultCode) (ds : List FaultCode) (o : Option Span) (Rest : Type 0) (c : FaultCode) (s : Span) → IsLeast (FaultAt p d) o →
    (o ≡ None → Rest → IsFirstFault p ds c s) → ((c ≡ d) × (o ≡ Some s)) ⊎ ((o ≡ None) × Rest) → IsFirstFault p (d ∷ ds) c s
first_cause p d ds o Rest c s least rest (inl h) = inl (h.0, subst (λ (q : Option Span). IsLeast (FaultAt p d) q) h.1 least)
first_cause p d ds o Rest c s least rest (inr h) = inr (subst (λ (q : Option Span). IsLeast (FaultAt p d) q) h.0 least, rest h.0 h.1)

left_none : (a : Option Span) (b : Option Span) → earlier_of a b ≡ None → a ≡ None
left_none a None h = h
left_none None (Some t) h = refl
left_none (Some r) (Some t) h = absurd (some_earlier r t h)
  where
    some_earlier : (r t : Span) → earlier (Some r) t ≡ None → ⊥
    some_earlier r t h = by_order (is_earlier t r) h
      where
        by_order : (b : Bool) → (if b then Some t else Some r) ≡ None → ⊥
        by_order true so = cc so
        by_order false so = cc so

-- the facts about one program
pub record Facts (p : ProgramTree) (range : Option Span) (f : Findings) (wide : Option Span) : Type 0 where
  pub ranged : range ≡ None → AreRanged p.decls
  pub width : range ≡ None → f.slice ≡ None → IsLeast (FaultAt p code.Width) (earlier_of f.leaf f.target)
  pub constant : range ≡ None → f.leaf ≡ None → IsLeast (FaultAt p code.ConstantTooWide) (earlier_of f.number wide)

pub ranged_by : (p : ProgramTree) (range : Option Span) → range ≡ first_of is_out_of_range (λ (d : Decl). d.width_at) None p.decls → range ≡ None →
    AreRanged p.decls
ranged_by p range is none = λ d c. none_pass is_out_of_range (λ (x : Decl). x.width_at) p.decls (sym is ∙ none) d c

facts : (p : ProgramTree) (double range : Option Span) (f : Findings) (wide : Option Span) → AreFound p double range f wide → Facts p range f wide
facts p double range f wide found = record {
  ranged = ranged_by p range found.ranges;
  width = λ none good.
      let ranged = ranged_by p range found.ranges none in
      let slices = λ (x : Expression) (c : Contains (all_expressions p) x). none_pass (is_bad_part p.decls) span_of (all_expressions p)
      (sym (ap (λ (g : Findings). g.slice) found.findings) ∙ good) x c in
      subst (λ (g : Findings). IsLeast (FaultAt p code.Width) (earlier_of g.leaf g.target)) (sym found.findings)
      (least_either (λ s. IsMisfitLeaf p s) (λ s. IsMisfitReceive p s) _ _ (leaf_least p ranged slices) (target_least p));
  constant = λ none fit.
      let ranged = ranged_by p range found.ranges none in
      let fits = λ (l : Expected) (c : Contains (all_leaves p) l). none_pass (is_misfit p.decls) place_of (all_leaves p)
      (sym (ap (λ (g : Findings). g.leaf) found.findings) ∙ fit) l c in
      let first = subst (λ (o : Option Span). IsLeast (λ s. IsWideFirst p s) o) (sym found.firsts) (first_least p ranged) in
      subst (λ (g : Findings). IsLeast (FaultAt p code.ConstantTooWide) (earlier_of g.number wide)) (sym found.findings)
      (least_either (λ s. IsWideNumber p s) (λ s. IsWideFirst p s) _ _ (number_least p ranged fits) first);
}

-- the causes from one on

abbrev from_constants : List FaultCode
from_constants = code.ConstantTooWide ∷ []

abbrev from_widths : List FaultCode
from_widths = code.Width ∷ from_constants

abbrev from_widthless : List FaultCode
from_widthless = code.UnknownWidth ∷ from_widths

abbrev from_slices : List FaultCode
from_slices = code.BadSlice ∷ from_widthless

abbrev from_directions : List FaultCode
from_directions = code.Direction ∷ from_slices

abbrev from_kinds : List FaultCode
from_kinds = code.WrongKind ∷ from_directions

abbrev from_names : List FaultCode
from_names = code.Undeclared ∷ from_kinds

abbrev from_range : List FaultCode
from_range = code.WidthRange ∷ from_names

pub judged : (p : ProgramTree) (double range : Option Span) (f : Findings) (wide : Option Span) (c : FaultCode) (s : Span) → AreFound p double range f wide →
    IsFirstCause (causes_of double range f wide) c s → IsFirstFault p naming_faults c s
judged p double range f wide c s found first =
    let known = facts p double range f wide found in
    first_cause p code.DoubleName from_range double _ c s (subst (λ (o : Option Span). IsLeast (FaultAt p code.DoubleName) o) (sym found.doubles)
    (double_least p))
    (λ none1 rest1. first_cause p code.WidthRange from_names range _ c s (subst (λ (o : Option Span). IsLeast (FaultAt p code.WidthRange) o) (sym found.ranges)
    (range_least p))
    (λ none2 rest2. first_cause p code.Undeclared from_kinds f.undeclared _ c s
    (subst (λ (g : Findings). IsLeast (FaultAt p code.Undeclared) g.undeclared) (sym found.findings) (undeclared_least p))
    (λ none3 rest3. first_cause p code.WrongKind from_directions f.wrong_kind _ c s
    (subst (λ (g : Findings). IsLeast (FaultAt p code.WrongKind) g.wrong_kind) (sym found.findings) (wrong_kind_least p))
    (λ none4 rest4. first_cause p code.Direction from_slices f.direction _ c s
    (subst (λ (g : Findings). IsLeast (FaultAt p code.Direction) g.direction) (sym found.findings) (direction_least p))
    (λ none5 rest5. first_cause p code.BadSlice from_widthless f.slice _ c s
    (subst (λ (g : Findings). IsLeast (FaultAt p code.BadSlice) g.slice) (sym found.findings) (slice_least p))
    (λ none6 rest6. first_cause p code.UnknownWidth from_widths f.widthless _ c s
    (subst (λ (g : Findings). IsLeast (FaultAt p code.UnknownWidth) g.widthless) (sym found.findings) (widthless_least p))
    (λ none7 rest7. first_cause p code.Width from_constants (earlier_of f.leaf f.target) _ c s (known.width none2 none6)
    (λ none8 rest8. first_cause p code.ConstantTooWide [] (earlier_of f.number wide) _ c s (known.constant none2 (left_none f.leaf f.target none8))
    (λ none9 rest9. absurd rest9) rest8)
    rest7)
    rest6)
    rest5)
    rest4)
    rest3)
    rest2)
    rest1)
    first

nowhere : (p : ProgramTree) (d : FaultCode) (o : Option Span) → o ≡ None → IsLeast (FaultAt p d) o → (s : Span) → ¬ FaultAt p d s
nowhere p d o none least = subst (λ (q : Option Span). IsLeast (FaultAt p d) q) none least

pub unjudged : (p : ProgramTree) (double range : Option Span) (f : Findings) (wide : Option Span) → AreFound p double range f wide →
    AreNone (causes_of double range f wide) → HasNone p naming_faults
unjudged p double range f wide found none =
    let known = facts p double range f wide found in
    let ranges = none.1.0 in
    let slices = none.1.1.1.1.1.0 in
    let widths = none.1.1.1.1.1.1.1.0 in (
      nowhere p code.DoubleName double none.0 (subst (λ (o : Option Span). IsLeast (FaultAt p code.DoubleName) o) (sym found.doubles) (double_least p)),
      (
        nowhere p code.WidthRange range ranges (subst (λ (o : Option Span). IsLeast (FaultAt p code.WidthRange) o) (sym found.ranges) (range_least p)),
        (
          nowhere p code.Undeclared f.undeclared none.1.1.0 (subst (λ (g : Findings). IsLeast (FaultAt p code.Undeclared) g.undeclared) (sym found.findings)
              (undeclared_least p)),
          (
            nowhere p code.WrongKind f.wrong_kind none.1.1.1.0 (subst (λ (g : Findings). IsLeast (FaultAt p code.WrongKind) g.wrong_kind) (sym found.findings)
                (wrong_kind_least p)),
            (
              nowhere p code.Direction f.direction none.1.1.1.1.0 (subst (λ (g : Findings). IsLeast (FaultAt p code.Direction) g.direction) (sym found.findings)
                  (direction_least p)),
              (
                nowhere p code.BadSlice f.slice slices (subst (λ (g : Findings). IsLeast (FaultAt p code.BadSlice) g.slice) (sym found.findings)
                    (slice_least p)),
                (
                  nowhere p code.UnknownWidth f.widthless none.1.1.1.1.1.1.0
                      (subst (λ (g : Findings). IsLeast (FaultAt p code.UnknownWidth) g.widthless) (sym found.findings) (widthless_least p)),
                  (
                    nowhere p code.Width (earlier_of f.leaf f.target) widths (known.width ranges slices),
                    (
                      nowhere p code.ConstantTooWide (earlier_of f.number wide) none.1.1.1.1.1.1.1.1.0
                          (known.constant ranges (left_none f.leaf f.target widths)),
                      tt,
                    ),
                  ),
                ),
              ),
            ),
          ),
        ),
      ),
    )
