-- Of two programs that are the same but for places a fault is in one where it is in the other.
--
-- p, q: the two programs; ds: declarations; s, t: places of a fault in the two.
use Rattle.std.proofs.Common.{◌≡◌, ℕ, zero, suc, ◌<◌, ◌≤◌, ◌^◌, ◌⊎◌, List, [], ◌∷◌, map, refl, sym, ap, ◌∙◌, subst, inl, inr, ⊎_elim, arith}
use Rattle.std.specs.Prelude.{slice_get, option_map, Option, Some, None, Contains}
use Rattle.chp_base.specs.declared.span.Span.{Span}
use Rattle.chp_base.specs.declared.fault.FaultCode.{FaultCode}
use Rattle.chp_base.specs.declared.fault.FaultCode.TheVariants as code
use Rattle.chp_syntax.specs.declared.tree.Decl.{Decl}
use Rattle.chp_syntax.specs.Trees.{Expression, number, whole, slice, bit, join, negation, chain, Expressions, no_parts, and_part, ProgramTree}
use Rattle.chp_syntax.specs.declared.tree.DeclKind.TheVariants.{In, Out}
use Rattle.width_check.specs.Places.{declaration, declared_width, is_var, sent_on, received_on, Use, uses_in, span_of, Expected, expect, Reception, receptions_in}
use Rattle.width_check.specs.Faults.{IsDouble, IsOutOfRange, IsUndeclared, wants_var, IsOfWrongKind, IsMisdirected, all_expressions, IsBadPart, IsBadSlice, HasPart, LacksWidth, IsOfUnknownWidth, all_leaves, IsWideJoin, IsMisfit, IsMisfitLeaf, IsMisfitReceive, IsWideNumber, IsWideFirst, FaultAt, HasNone}
use Rattle.width_check.proofs.Least.{no_item, in_rest, front_or_rest}
use Rattle.chp_cli.specs.Unplaced.{unplaced_expression, unplaced_parts, unplaced_decl, AreLaidOutAlike}
use Rattle.chp_cli.proofs.SameForms.{declaration_same, declared_same, compares_same, own_same, owns_same, side_same}
use Rattle.chp_cli.proofs.SameLists.{unplaced_use, unplaced_expected, unplaced_reception, uses_same, receptions_same, all_expressions_same, all_leaves_same}

-- lists of things that are the same but for places have like members

abbrev pub Like : {X : Type 0} → (X → X) → List X → X → Type 0
Like {X} f xs y = (x : X) × Contains xs x × (f x ≡ f y)

pub like : {X : Type 0} (f : X → X) (xs ys : List X) → map f xs ≡ map f ys → (y : X) → Contains ys y → Like f xs y
like f [] [] same y c = absurd (no_item y c)
like f [] (z ∷ ys) same y c = absurd (cc same)
like f (x ∷ xs) [] same y c = absurd (cc same)
like f (x ∷ xs) (z ∷ ys) same y c =
    let first : f x ≡ f z = cc same in
    let rest : map f xs ≡ map f ys = cc same in
    ⊎_elim (λ (e : z ≡ y). (x, (0, omega arith, refl), first ∙ ap f e))
    (λ there. let r = like f xs ys rest y there in (r.0, in_rest x r.0 xs r.1, r.2)) (front_or_rest z y ys c)

pub like_at : {X : Type 0} (f : X → X) (xs ys : List X) → map f xs ≡ map f ys → (i : ℕ) (y : X) → slice_get ys i ≡ Some y
    → (x : X) × (slice_get xs i ≡ Some x) × (f x ≡ f y)
like_at f [] [] same i y is = absurd (cc is)
like_at f [] (z ∷ ys) same i y is = absurd (cc same)
like_at f (x ∷ xs) [] same i y is = absurd (cc same)
like_at f (x ∷ xs) (z ∷ ys) same zero y is =
    let first : f x ≡ f z = cc same in
    let there : z ≡ y = cc is in
    (x, refl, first ∙ ap f there)
like_at f (x ∷ xs) (z ∷ ys) same (suc i) y is =
    let rest : map f xs ≡ map f ys = cc same in
    like_at f xs ys rest i y is

-- an expression with bits that its name doesn't have

bad_to : (ds : List Decl) (e : Expression) → IsBadPart ds e → IsBadPart (map unplaced_decl ds) (unplaced_expression e)
bad_to ds (number n at) h = absurd h
bad_to ds (whole of) h = absurd h
bad_to ds (slice of high low at) h = let w = declared_same ds of.name in rw w h
bad_to ds (bit of place at) h = let w = declared_same ds of.name in rw w h
bad_to ds (join parts at) h = absurd h
bad_to ds (negation e at) h = absurd h
bad_to ds (chain e more at) h = absurd h

bad_from : (ds : List Decl) (e : Expression) → IsBadPart (map unplaced_decl ds) (unplaced_expression e) → IsBadPart ds e
bad_from ds (number n at) h = absurd h
bad_from ds (whole of) h = absurd h
bad_from ds (slice of high low at) h = let w = declared_same ds of.name in rw w at h
bad_from ds (bit of place at) h = let w = declared_same ds of.name in rw w at h
bad_from ds (join parts at) h = absurd h
bad_from ds (negation e at) h = absurd h
bad_from ds (chain e more at) h = absurd h

-- one that lacks a width, or has a part that does

part_to : (ds : List Decl) (parts : Expressions) (s : Span) → HasPart ds parts s → (t : Span) × HasPart (map unplaced_decl ds) (unplaced_parts parts) t
part_to ds no_parts s h = absurd h
part_to ds (and_part e more) s (inl h) = (span_of (unplaced_expression e), inl (own_same ds e ∙ h.0, refl))
part_to ds (and_part e more) s (inr h) = let r = part_to ds more s h in (r.0, inr r.1)

part_from : (ds : List Decl) (parts : Expressions) (s : Span) → HasPart (map unplaced_decl ds) (unplaced_parts parts) s → (t : Span) × HasPart ds parts t
part_from ds no_parts s h = absurd h
part_from ds (and_part e more) s (inl h) = (span_of e, inl (sym (own_same ds e) ∙ h.0, refl))
part_from ds (and_part e more) s (inr h) = let r = part_from ds more s h in (r.0, inr r.1)

lacks_to : (ds : List Decl) (e : Expression) (s : Span) → LacksWidth ds e s → (t : Span) × LacksWidth (map unplaced_decl ds) (unplaced_expression e) t
lacks_to ds (number n at) s h = absurd h
lacks_to ds (whole of) s h = absurd h
lacks_to ds (slice of high low at) s h = absurd h
lacks_to ds (bit of place at) s h = absurd h
lacks_to ds (join parts at) s h = part_to ds parts s h
lacks_to ds (negation e at) s h = absurd h
lacks_to ds (chain e more at) s h = (span_of (unplaced_expression (chain e more at)), (compares_same more ∙ h.0, side_same ds e more ∙ h.1, refl))

lacks_from : (ds : List Decl) (e : Expression) (s : Span) → LacksWidth (map unplaced_decl ds) (unplaced_expression e) s → (t : Span) × LacksWidth ds e t
lacks_from ds (number n at) s h = absurd h
lacks_from ds (whole of) s h = absurd h
lacks_from ds (slice of high low at) s h = absurd h
lacks_from ds (bit of place at) s h = absurd h
lacks_from ds (join parts at) s h = part_from ds parts s h
lacks_from ds (negation e at) s h = absurd h
lacks_from ds (chain e more at) s h = (at, (sym (compares_same more) ∙ h.0, sym (side_same ds e more) ∙ h.1, refl))

-- one that doesn't fit

wide_to : (ds : List Decl) (e : Expression) → IsWideJoin ds e → IsWideJoin (map unplaced_decl ds) (unplaced_expression e)
wide_to ds (number n at) h = absurd h
wide_to ds (whole of) h = absurd h
wide_to ds (slice of high low at) h = absurd h
wide_to ds (bit of place at) h = absurd h
wide_to ds (join parts at) h = let w = owns_same ds parts in rw w h
wide_to ds (negation e at) h = absurd h
wide_to ds (chain e more at) h = absurd h

wide_from : (ds : List Decl) (e : Expression) → IsWideJoin (map unplaced_decl ds) (unplaced_expression e) → IsWideJoin ds e
wide_from ds (number n at) h = absurd h
wide_from ds (whole of) h = absurd h
wide_from ds (slice of high low at) h = absurd h
wide_from ds (bit of place at) h = absurd h
wide_from ds (join parts at) h = let w = owns_same ds parts in rw w at h
wide_from ds (negation e at) h = absurd h
wide_from ds (chain e more at) h = absurd h

misfit_to : (ds : List Decl) (l : Expected) → IsMisfit ds l → IsMisfit (map unplaced_decl ds) (unplaced_expected l)
misfit_to ds l (inl h) = inl (h.0, own_same ds l.expression ∙ h.1, h.2)
misfit_to ds l (inr h) = inr (wide_to ds l.expression h)

misfit_from : (ds : List Decl) (l : Expected) → IsMisfit (map unplaced_decl ds) (unplaced_expected l) → IsMisfit ds l
misfit_from ds l (inl h) = inl (h.0, sym (own_same ds l.expression) ∙ h.1, h.2)
misfit_from ds l (inr h) = inr (wide_from ds l.expression h)

-- a number is one without its place
number_like : (e : Expression) (n : ℕ) (s : Span) → unplaced_expression e ≡ unplaced_expression (number n s) → (t : Span) × (e ≡ number n t)
number_like (number m at) n s same = let z : m ≡ n = cc same in (at, ap (λ k. number k at) z)
number_like (whole of) n s same = absurd (cc same)
number_like (slice of high low at) n s same = absurd (cc same)
number_like (bit of place at) n s same = absurd (cc same)
number_like (join parts at) n s same = absurd (cc same)
number_like (negation e at) n s same = absurd (cc same)
number_like (chain e more at) n s same = absurd (cc same)

none_placed : (o r : Option Decl) → option_map unplaced_decl o ≡ option_map unplaced_decl r → r ≡ None → o ≡ None
none_placed None r same is = refl
none_placed (Some d) None same is = absurd (cc same)
none_placed (Some d) (Some e) same is = absurd (cc is)

some_placed : (o r : Option Decl) → option_map unplaced_decl o ≡ option_map unplaced_decl r → (e : Decl) → r ≡ Some e
    → (d : Decl) × (o ≡ Some d) × (unplaced_decl d ≡ unplaced_decl e)
some_placed o None same e is = absurd (cc is)
some_placed None (Some f) same e is = absurd (cc same)
some_placed (Some d) (Some f) same e is =
    let first : unplaced_decl d ≡ unplaced_decl f = cc same in
    let there : f ≡ e = cc is in
    (d, refl, first ∙ ap unplaced_decl there)

module _ (p q : ProgramTree) (alike : AreLaidOutAlike p q) where
  decls_alike : map unplaced_decl p.decls ≡ map unplaced_decl q.decls
  decls_alike = ap (λ (r : ProgramTree). r.decls) alike

  uses_alike : map unplaced_use (uses_in p.body) ≡ map unplaced_use (uses_in q.body)
  uses_alike = sym (uses_same p.body) ∙ (ap (λ (r : ProgramTree). uses_in r.body) alike ∙ uses_same q.body)

  receptions_alike : map unplaced_reception (receptions_in p.body) ≡ map unplaced_reception (receptions_in q.body)
  receptions_alike = sym (receptions_same p.body) ∙ (ap (λ (r : ProgramTree). receptions_in r.body) alike ∙ receptions_same q.body)

  expressions_alike : map unplaced_expression (all_expressions p) ≡ map unplaced_expression (all_expressions q)
  expressions_alike = sym (all_expressions_same p) ∙ (ap all_expressions alike ∙ all_expressions_same q)

  leaves_alike : map unplaced_expected (all_leaves p) ≡ map unplaced_expected (all_leaves q)
  leaves_alike = sym (all_leaves_same p) ∙ (ap all_leaves alike ∙ all_leaves_same q)

  found_alike : (name : List ℕ) → option_map unplaced_decl (declaration p.decls name) ≡ option_map unplaced_decl (declaration q.decls name)
  found_alike name =
      sym (declaration_same p.decls name) ∙ (ap (λ ds. declaration ds name) decls_alike ∙ declaration_same q.decls name)

  width_alike : (name : List ℕ) → declared_width p.decls name ≡ declared_width q.decls name
  width_alike name = sym (declared_same p.decls name) ∙ (ap (λ ds. declared_width ds name) decls_alike ∙ declared_same q.decls name)

  double_alike : (s : Span) → IsDouble q s → (t : Span) × IsDouble p t
  double_alike s f =
      let a = like_at unplaced_decl p.decls q.decls decls_alike f.earlier f.first f.first_is in
      let b = like_at unplaced_decl p.decls q.decls decls_alike f.later f.second f.second_is in (
        b.0.name.at,
        record {
          earlier = f.earlier;
          later = f.later;
          order = f.order;
          first = a.0;
          second = b.0;
          first_is = a.1;
          second_is = b.1;
          same = ap (λ (d : Decl). d.name.name) a.2 ∙ (f.same ∙ sym (ap (λ (d : Decl). d.name.name) b.2));
          at = refl;
        },
      )

  range_alike : (s : Span) → IsOutOfRange q s → (t : Span) × IsOutOfRange p t
  range_alike s f =
      let d = like unplaced_decl p.decls q.decls decls_alike f.decl f.among in (
        d.0.width_at,
        record {
          decl = d.0;
          among = d.1;
          range = subst (λ (w : ℕ). (w < 1) ⊎ (64 < w)) (sym (ap (λ (d : Decl). d.width) d.2)) f.range;
          at = refl;
        },
      )

  undeclared_alike : (s : Span) → IsUndeclared q s → (t : Span) × IsUndeclared p t
  undeclared_alike s f =
      let u = like unplaced_use (uses_in p.body) (uses_in q.body) uses_alike f.usage f.among in (
        u.0.at,
        record {
          usage = u.0;
          among = u.1;
          missing = ap (declaration p.decls) (ap (λ (v : Use). v.name) u.2)
              ∙ none_placed (declaration p.decls f.usage.name) (declaration q.decls f.usage.name) (found_alike f.usage.name) f.missing;
          at = refl;
        },
      )

  kind_alike : (s : Span) → IsOfWrongKind q s → (t : Span) × IsOfWrongKind p t
  kind_alike s f =
      let u = like unplaced_use (uses_in p.body) (uses_in q.body) uses_alike f.usage f.among in
      let d = some_placed (declaration p.decls f.usage.name) (declaration q.decls f.usage.name) (found_alike f.usage.name) f.decl f.declared in (
        u.0.at,
        record {
          usage = u.0;
          among = u.1;
          decl = d.0;
          declared = ap (declaration p.decls) (ap (λ (v : Use). v.name) u.2) ∙ d.1;
          wrong = λ same. f.wrong (sym (ap (λ (e : Decl). is_var e.kind) d.2) ∙ (same ∙ ap (λ (v : Use). wants_var v.role) u.2));
          at = refl;
        },
      )

  direction_alike : (s : Span) → IsMisdirected q s → (t : Span) × IsMisdirected p t
  direction_alike s f =
      let u = like unplaced_use (uses_in p.body) (uses_in q.body) uses_alike f.usage f.among in
      let d = some_placed (declaration p.decls f.usage.name) (declaration q.decls f.usage.name) (found_alike f.usage.name) f.decl f.declared in
      let role = ap (λ (v : Use). v.role) u.2 in
      let kind = ap (λ (e : Decl). e.kind) d.2 in (
        u.0.at,
        record {
          usage = u.0;
          among = u.1;
          decl = d.0;
          declared = ap (declaration p.decls) (ap (λ (v : Use). v.name) u.2) ∙ d.1;
          wrong = ⊎_elim (λ (h : (f.usage.role ≡ sent_on) × (f.decl.kind ≡ In)). inl (role ∙ h.0, kind ∙ h.1))
              (λ (h : (f.usage.role ≡ received_on) × (f.decl.kind ≡ Out)). inr (role ∙ h.0, kind ∙ h.1)) f.wrong;
          at = refl;
        },
      )

  slice_alike : (s : Span) → IsBadSlice q s → (t : Span) × IsBadSlice p t
  slice_alike s f =
      let e = like unplaced_expression (all_expressions p) (all_expressions q) expressions_alike f.expression f.among in (
        span_of e.0,
        record {
          expression = e.0;
          among = e.1;
          bad = bad_from p.decls e.0 (subst (λ (x : Expression). IsBadPart (map unplaced_decl p.decls) x) (sym e.2)
              (subst (λ (ds : List Decl). IsBadPart ds (unplaced_expression f.expression)) (sym decls_alike) (bad_to q.decls f.expression f.bad)));
          at = refl;
        },
      )

  unknown_alike : (s : Span) → IsOfUnknownWidth q s → (t : Span) × IsOfUnknownWidth p t
  unknown_alike s f =
      let e = like unplaced_expression (all_expressions p) (all_expressions q) expressions_alike f.expression f.among in
      let there = lacks_to q.decls f.expression s f.lacks in
      let here = lacks_from p.decls e.0 there.0 (subst (λ (x : Expression). LacksWidth (map unplaced_decl p.decls) x there.0) (sym e.2)
      (subst (λ (ds : List Decl). LacksWidth ds (unplaced_expression f.expression) there.0) (sym decls_alike) there.1)) in
      (here.0, record { expression = e.0; among = e.1; lacks = here.1 })

  leaf_alike : (s : Span) → IsMisfitLeaf q s → (t : Span) × IsMisfitLeaf p t
  leaf_alike s f =
      let l = like unplaced_expected (all_leaves p) (all_leaves q) leaves_alike f.leaf f.among in (
        span_of l.0.expression,
        record {
          leaf = l.0;
          among = l.1;
          misfit = misfit_from p.decls l.0 (subst (λ (x : Expected). IsMisfit (map unplaced_decl p.decls) x) (sym l.2)
              (subst (λ (ds : List Decl). IsMisfit ds (unplaced_expected f.leaf)) (sym decls_alike) (misfit_to q.decls f.leaf f.misfit)));
          at = refl;
        },
      )

  receive_alike : (s : Span) → IsMisfitReceive q s → (t : Span) × IsMisfitReceive p t
  receive_alike s f =
      let r = like unplaced_reception (receptions_in p.body) (receptions_in q.body) receptions_alike f.receive f.among in (
        r.0.target.at,
        record {
          receive = r.0;
          among = r.1;
          misfit = λ same. f.misfit
              (sym (width_alike f.receive.target.name) ∙ (sym (ap (λ (x : Reception). declared_width p.decls x.target.name) r.2)
              ∙ (same ∙ (ap (λ (x : Reception). declared_width p.decls x.chan.name) r.2 ∙ width_alike f.receive.chan.name))));
          at = refl;
        },
      )

  number_alike : (s : Span) → IsWideNumber q s → (t : Span) × IsWideNumber p t
  number_alike s f =
      let l = like unplaced_expected (all_leaves p) (all_leaves q) leaves_alike (expect (number f.value s) f.width) f.among in
      let w : l.0.width ≡ f.width = ap (λ (x : Expected). x.width) l.2 in
      let e = number_like l.0.expression f.value s (ap (λ (x : Expected). x.expression) l.2) in (
        e.0,
        record {
          width = f.width;
          value = f.value;
          among = subst (λ (x : Expected). Contains (all_leaves p) x) (ap (expect l.0.expression) w ∙ ap (λ x. expect x f.width) e.1) l.1;
          wide = f.wide;
        },
      )

  first_alike : (s : Span) → IsWideFirst q s → (t : Span) × IsWideFirst p t
  first_alike s f =
      let d = like unplaced_decl p.decls q.decls decls_alike f.decl f.among in
      let w = ap (λ (d : Decl). d.width) d.2 in
      let v = ap (λ (d : Decl). d.first) d.2 in (
        d.0.first_at,
        record {
          decl = d.0;
          among = d.1;
          wide = subst (λ (n : ℕ). 2 ^ n ≤ d.0.first) (sym w) (subst (λ (n : ℕ). 2 ^ f.decl.width ≤ n) (sym v) f.wide);
          at = refl;
        },
      )

  fault_alike : (c : FaultCode) (s : Span) → FaultAt q c s → (t : Span) × FaultAt p c t
  fault_alike code.DoubleName s f = double_alike s f
  fault_alike code.WidthRange s f = range_alike s f
  fault_alike code.Undeclared s f = undeclared_alike s f
  fault_alike code.WrongKind s f = kind_alike s f
  fault_alike code.Direction s f = direction_alike s f
  fault_alike code.BadSlice s f = slice_alike s f
  fault_alike code.UnknownWidth s f = unknown_alike s f
  fault_alike code.Width s (inl f) = let r = leaf_alike s f in (r.0, inl r.1)
  fault_alike code.Width s (inr f) = let r = receive_alike s f in (r.0, inr r.1)
  fault_alike code.ConstantTooWide s (inl f) = let r = number_alike s f in (r.0, inl r.1)
  fault_alike code.ConstantTooWide s (inr f) = let r = first_alike s f in (r.0, inr r.1)
  fault_alike _ s f = absurd f

  pub none_alike : (cs : List FaultCode) → HasNone p cs → HasNone q cs
  none_alike [] none = tt
  none_alike (c ∷ cs) none = ((λ s f. let r = fault_alike c s f in none.0 r.0 r.1), none_alike cs none.1)
