-- Where nothing is wrong with an expression, its typed form is an expression of the wanted width.
use Rattle.std.proofs.Common.{◌≡◌, ℕ, suc, ◌+◌, ◌-◌, ◌^◌, ◌<◌, ◌≤◌, Bool, true, false, List, [], ◌∷◌, ◌++◌, length, Option, Some, None, refl, sym, ap, ◌∙◌, subst, arith}
use Rattle.std.specs.Prelude.{not, ◌||◌, ◌==◌, nat_lt, nat_le, if◌then◌else◌, is_none, unwrap_or, option_map, Contains, IsSome}
use Rattle.std.specs.Str.{bytes_eq}
use Rattle.std.proofs.lemmas.Bool.Decides.{nat_tests}
use Rattle.std.proofs.lemmas.List.Elements.{Contains-append_left, Contains-append_right}
use Rattle.chp_base.specs.declared.span.Span.{Span}
use Rattle.chp_syntax.specs.declared.tree.Decl.{Decl}
use Rattle.chp_syntax.specs.declared.tree.Ident.{Ident}
use Rattle.chp_syntax.specs.declared.tree.Op.{Op}
use Rattle.chp_syntax.specs.Shape.{is_comparison, some_compares, link_count, expression_count, IsShapedExpression, AreShapedParts, AreShapedLinks}
use Rattle.chp_syntax.specs.Trees.{Expression, number, whole, slice, bit, join, negation, chain, Expressions, no_parts, and_part, Links, no_links, and_link}
use Rattle.width_check.specs.Processes as typed
use Rattle.width_check.specs.Places.{declaration, declared_width, is_var, use_of, read, compares, or_width, own_width, own_widths, first_width, span_of, Expected, expect, leaves, leaves_of_links}
use Rattle.width_check.specs.Form.{vars_of, var_number, formula_form, parts_form, operations_form}
use Rattle.width_check.specs.Typing.{var_width, IsOfWidth}
use Rattle.width_check.specs.Values.{widths_of}
use Rattle.width_check.specs.Sound.{AreRanged, is_var_in, IsSound}
use Rattle.width_check.specs.Walk.{Met, met_both, met_chain, met_in, met_in_parts, met_in_links, capped_width, side_width, lacking_parts, is_unfit}
use Rattle.width_check.proofs.Least.{in_rest}
use Rattle.width_check.proofs.Leaves.{declared_most, good_slice}
use Rattle.width_check.proofs.Judging.{own_most, first_most}
use Rattle.width_check.proofs.Numbering.{declared_some, var_first, var_behind, var_apart, one_var, no_var}
use Rattle.width_check.proofs.Walks.{chain_pieces, wanted_of}
use Rattle.width_check.proofs.Widths.{constant_over, reading_over, inverted_over, compared_over, AreOver, AreLinks, chain_done}

-- a part of what was met

pub sound_left : (ds : List Decl) (m n : Met) → IsSound ds (met_both m n) → IsSound ds m
sound_left ds m n s = record {
  uses = λ u c. s.uses u (Contains-append_left m.uses n.uses u c);
  ends = λ u c. s.ends u (Contains-append_left m.uses n.uses u c);
  parts = λ e c. s.parts e (Contains-append_left m.expressions n.expressions e c);
  widths = λ e t c. s.widths e t (Contains-append_left m.expressions n.expressions e c);
  leaves = λ l c. s.leaves l (Contains-append_left m.leaves n.leaves l c);
  targets = λ r c. s.targets r (Contains-append_left m.receptions n.receptions r c);
  numbers = λ l c. s.numbers l (Contains-append_left m.leaves n.leaves l c);
}

pub sound_right : (ds : List Decl) (m n : Met) → IsSound ds (met_both m n) → IsSound ds n
sound_right ds m n s = record {
  uses = λ u c. s.uses u (Contains-append_right m.uses n.uses u c);
  ends = λ u c. s.ends u (Contains-append_right m.uses n.uses u c);
  parts = λ e c. s.parts e (Contains-append_right m.expressions n.expressions e c);
  widths = λ e t c. s.widths e t (Contains-append_right m.expressions n.expressions e c);
  leaves = λ l c. s.leaves l (Contains-append_right m.leaves n.leaves l c);
  targets = λ r c. s.targets r (Contains-append_right m.receptions n.receptions r c);
  numbers = λ l c. s.numbers l (Contains-append_right m.leaves n.leaves l c);
}

pub sound_part : (ds : List Decl) (e : Expression) (more : Expressions) → IsSound ds (met_in_parts ds (and_part e more)) →
    IsSound ds (met_in ds (unwrap_or (own_width ds e) 0) e)
sound_part ds e more s = sound_left ds (met_in ds (unwrap_or (own_width ds e) 0) e) (met_in_parts ds more) s

pub sound_parts : (ds : List Decl) (e : Expression) (more : Expressions) → IsSound ds (met_in_parts ds (and_part e more)) → IsSound ds (met_in_parts ds more)
sound_parts ds e more s = sound_right ds (met_in ds (unwrap_or (own_width ds e) 0) e) (met_in_parts ds more) s

pub sound_join : (ds : List Decl) (w : ℕ) (parts : Expressions) (at : Span) → IsSound ds (met_in ds w (join parts at)) → IsSound ds (met_in_parts ds parts)
sound_join ds w parts at s = record {
  uses = s.uses;
  ends = s.ends;
  parts = λ e c. s.parts e (in_rest (join parts at) e _ c);
  widths = λ e t c. s.widths e t (in_rest (join parts at) e _ c);
  leaves = λ l c. s.leaves l (in_rest (expect (join parts at) w) l _ c);
  targets = s.targets;
  numbers = λ l c. s.numbers l (in_rest (expect (join parts at) w) l _ c);
}

pub sound_inner : (ds : List Decl) (w : ℕ) (e : Expression) (at : Span) → IsSound ds (met_in ds w (negation e at)) → IsSound ds (met_in ds w e)
sound_inner ds w e at s = record {
  uses = s.uses;
  ends = s.ends;
  parts = λ f c. s.parts f (in_rest (negation e at) f _ c);
  widths = λ f t c. s.widths f t (in_rest (negation e at) f _ c);
  leaves = s.leaves;
  targets = s.targets;
  numbers = s.numbers;
}

sound_members : (ds : List Decl) (w : ℕ) (e : Expression) (more : Links) (at : Span) → IsSound ds (met_in ds w (chain e more at)) →
    IsSound ds (met_both (met_in ds (wanted_of ds w e more) e) (met_in_links ds (wanted_of ds w e more) more))
sound_members ds w e more at s =
    let v = wanted_of ds w e more in
    sound_right ds (met_chain w e more at) (met_both (met_in ds v e) (met_in_links ds v more))
    (subst (λ (m : Met). IsSound ds m) (sym (chain_pieces ds w e more at (compares more) refl)) s)

pub sound_first : (ds : List Decl) (w : ℕ) (e : Expression) (more : Links) (at : Span) → IsSound ds (met_in ds w (chain e more at)) →
    IsSound ds (met_in ds (wanted_of ds w e more) e)
sound_first ds w e more at s = sound_left ds (met_in ds (wanted_of ds w e more) e) (met_in_links ds (wanted_of ds w e more) more)
    (sound_members ds w e more at s)

pub sound_rest : (ds : List Decl) (w : ℕ) (e : Expression) (more : Links) (at : Span) → IsSound ds (met_in ds w (chain e more at)) →
    IsSound ds (met_in_links ds (wanted_of ds w e more) more)
sound_rest ds w e more at s = sound_right ds (met_in ds (wanted_of ds w e more) e) (met_in_links ds (wanted_of ds w e more) more)
    (sound_members ds w e more at s)

pub sound_link : (ds : List Decl) (w : ℕ) (op : Op) (e : Expression) (more : Links) → IsSound ds (met_in_links ds w (and_link op e more)) →
    IsSound ds (met_in ds w e)
sound_link ds w op e more s = sound_left ds (met_in ds w e) (met_in_links ds w more) s

pub sound_links : (ds : List Decl) (w : ℕ) (op : Op) (e : Expression) (more : Links) → IsSound ds (met_in_links ds w (and_link op e more)) →
    IsSound ds (met_in_links ds w more)
sound_links ds w op e more s = sound_right ds (met_in ds w e) (met_in_links ds w more) s

-- the width that a leaf has is the one that is wanted

pub fits_so : (v w : ℕ) → is_unfit (Some v) w ≡ false → v ≡ w
fits_so v w h = by_test (nat_lt 64 v) (v == w) refl refl h
  where
    by_test : (a b : Bool) → nat_lt 64 v ≡ a → (v == w) ≡ b → (a || not b) ≡ false → v ≡ w
    by_test true b wide same is = absurd (cc is)
    by_test false true wide same is = grind (arith, nat_tests)
    by_test false false wide same is = absurd (cc is)

pub leaf_fits : (ds : List Decl) (w v : ℕ) (e : Expression) (m : Met) (rest : List Expected) → IsSound ds m → m.leaves ≡ expect e w ∷ rest →
    own_width ds e ≡ Some v → v ≡ w
leaf_fits ds w v e m rest s is own =
    fits_so v w (let h = s.leaves (expect e w) (subst (λ (ls : List Expected). Contains ls (expect e w)) (sym is) (0, omega arith, refl)) in rw own at h)

-- names of variables

pub is_declared : (ds : List Decl) (name : List ℕ) (b : Bool) → is_var_in ds name ≡ Some b → IsSome (declaration ds name)
is_declared ds name b is = by_decl (declaration ds name) is
  where
    by_decl : (o : Option Decl) → option_map (λ (d : Decl). is_var d.kind) o ≡ Some b → IsSome o
    by_decl None so = absurd (cc so)
    by_decl (Some d) so = refl

pub record IsVarAt (ds : List Decl) (name : List ℕ) : Type 0 where
  pub within : var_number ds name < length (vars_of ds)
  pub width : var_width (vars_of ds) (var_number ds name) ≡ declared_width ds name

pub var_at : (ds : List Decl) (name : List ℕ) → is_var_in ds name ≡ Some true → IsVarAt ds name
var_at [] name is = absurd (cc is)
var_at (d ∷ ds) name is = by_test (bytes_eq d.name.name name) refl (is_var d.kind) refl is (λ rest. var_at ds name rest)
  where
    by_test : (a : Bool) → bytes_eq d.name.name name ≡ a → (b : Bool) → is_var d.kind ≡ b → is_var_in (d ∷ ds) name ≡ Some true →
        (is_var_in ds name ≡ Some true → IsVarAt ds name) → IsVarAt (d ∷ ds) name
    by_test true same true var so rest =
        let vs = one_var d d.kind (vars_of ds) var in
        let n = var_first d ds name same var in
        record { within = rw (n, vs) (omega arith); width = rw (n, vs, same) refl }
    by_test true same false chan so rest = absurd (let k = rw (same, chan) at so in cc k)
    by_test false other true var so rest =
        let vs = one_var d d.kind (vars_of ds) var in
        let n = var_behind d ds name other var in
        let at = rest (rw other at so) in
        record { within = rw (n, vs) (let w = at.within in omega arith); width = rw (n, vs, other) at.width }
    by_test false other false chan so rest =
        let vs = no_var d d.kind (vars_of ds) chan in
        let n = var_apart d ds name chan in
        let at = rest (rw other at so) in
        record { within = rw (n, vs) at.within; width = rw (n, vs, other) at.width }

-- an expression has one bit or more

or_some : (a b : Option ℕ) (v : ℕ) → ((u : ℕ) → a ≡ Some u → 1 ≤ u) → ((u : ℕ) → b ≡ Some u → 1 ≤ u) → or_width a b ≡ Some v → 1 ≤ v
or_some None b v first rest is = rest v is
or_some (Some u) b v first rest is = let same : u ≡ v = cc is in let some = first u refl in omega arith

chain_own_some : (ds : List Decl) (e : Expression) (more : Links) (at : Span) (v : ℕ) (b : Bool) → compares more ≡ b →
    ((u : ℕ) → own_width ds e ≡ Some u → 1 ≤ u) → ((u : ℕ) → first_width ds more ≡ Some u → 1 ≤ u) → own_width ds (chain e more at) ≡ Some v → 1 ≤ v
chain_own_some ds e more at v true is first rest own = let h = rw is at own in let e : 1 ≡ v = cc h in omega arith
chain_own_some ds e more at v false is first rest own = or_some (own_width ds e) (first_width ds more) v first rest (rw is at own)

part_own : (ds : List Decl) (e : Expression) (more : Expressions) → ((s : Span) → ¬ Contains (lacking_parts ds (and_part e more)) s) →
    (v : ℕ) × (own_width ds e ≡ Some v)
part_own ds e more full = by_own (own_width ds e) refl
  where
    by_own : (o : Option ℕ) → own_width ds e ≡ o → (v : ℕ) × (own_width ds e ≡ Some v)
    by_own None is = absurd (full (span_of e) (rw is (0, omega arith, refl)))
    by_own (Some v) is = (v, is)

pub parts_full : (ds : List Decl) (e : Expression) (more : Expressions) → ((s : Span) → ¬ Contains (lacking_parts ds (and_part e more)) s) → (s : Span) →
    ¬ Contains (lacking_parts ds more) s
parts_full ds e more full s c = by_test (is_none (own_width ds e)) (full s)
  where
    by_test : (b : Bool) → ¬ Contains (if b then span_of e ∷ lacking_parts ds more else lacking_parts ds more) s → ⊥
    by_test true not = not (in_rest (span_of e) s (lacking_parts ds more) c)
    by_test false not = not c

mutual
  pub own_some : (ds : List Decl) → AreRanged ds → (w : ℕ) (e : Expression) (v : ℕ) → IsShapedExpression e → IsSound ds (met_in ds w e) →
      own_width ds e ≡ Some v → 1 ≤ v
  own_some ds ranged w (number n at) v shaped s is = absurd (cc is)
  own_some ds ranged w (whole of) v shaped s is =
      let var = s.uses (use_of of read) (0, omega arith, refl) in
      let some = declared_some ds of.name ranged (is_declared ds of.name true var) in
      let e : declared_width ds of.name ≡ v = cc is in omega (arith, some)
  own_some ds ranged w (slice of high low at) v shaped s is =
      let bits = good_slice (declared_width ds of.name) high low (s.parts (slice of high low at) (0, omega arith, refl)) in
      let e : high + 1 - low ≡ v = cc is in omega (arith, bits.0)
  own_some ds ranged w (bit of place at) v shaped s is = let e : 1 ≡ v = cc is in omega arith
  own_some ds ranged w (join parts at) v shaped s is =
      let e : own_widths ds parts ≡ v = cc is in
      let some = parts_some ds ranged parts shaped.0 shaped.1 (λ t. s.widths (join parts at) t (0, omega arith, refl)) (sound_join ds w parts at s) in
      omega (arith, some)
  own_some ds ranged w (negation e at) v shaped s is = own_some ds ranged w e v shaped (sound_inner ds w e at s) is
  own_some ds ranged w (chain e more at) v shaped s is =
      chain_own_some ds e more at v (compares more) refl (λ u h. own_some ds ranged (wanted_of ds w e more) e u shaped.2 (sound_first ds w e more at s) h)
      (λ u h. first_some ds ranged (wanted_of ds w e more) more u shaped.3 (sound_rest ds w e more at s) h) is

  pub parts_some : (ds : List Decl) → AreRanged ds → (parts : Expressions) → 1 ≤ expression_count parts → AreShapedParts parts →
      ((s : Span) → ¬ Contains (lacking_parts ds parts) s) → IsSound ds (met_in_parts ds parts) → 1 ≤ own_widths ds parts
  parts_some ds ranged no_parts some shaped full s = absurd (omega (arith, some))
  parts_some ds ranged (and_part e more) some shaped full s =
      let own = part_own ds e more full in
      let here = own_some ds ranged (unwrap_or (own_width ds e) 0) e own.0 shaped.0 (sound_part ds e more s) own.1 in
      rw own.1 (omega (arith, here))

  pub first_some : (ds : List Decl) → AreRanged ds → (w : ℕ) (more : Links) (v : ℕ) → AreShapedLinks more → IsSound ds (met_in_links ds w more) →
      first_width ds more ≡ Some v → 1 ≤ v
  first_some ds ranged w no_links v shaped s is = absurd (cc is)
  first_some ds ranged w (and_link op e more) v shaped s is =
      or_some (own_width ds e) (first_width ds more) v (λ u h. own_some ds ranged w e u shaped.0 (sound_link ds w op e more s) h)
      (λ u h. first_some ds ranged w more u shaped.1 (sound_links ds w op e more s) h) is

-- the width of a part
pub record IsPartWidth (ds : List Decl) (e : Expression) (v : ℕ) : Type 0 where
  pub own : own_width ds e ≡ Some v
  pub some : 1 ≤ v
  pub most : v ≤ 64

pub part_width : (ds : List Decl) → AreRanged ds → (e : Expression) (more : Expressions) → IsShapedExpression e →
    ((s : Span) → ¬ Contains (lacking_parts ds (and_part e more)) s) → IsSound ds (met_in_parts ds (and_part e more)) → (v : ℕ) × IsPartWidth ds e v
part_width ds ranged e more shaped full s =
    let own = part_own ds e more full in
    let here = sound_part ds e more s in (
      own.0,
      record {
        own = own.1;
        some = own_some ds ranged (unwrap_or (own_width ds e) 0) e own.0 shaped here own.1;
        most =
            own_most ds (unwrap_or (own_width ds e) 0) e own.0 here.leaves own.1;
      },
    )

-- the width of both sides of a comparison
pub record IsSideWidth (ds : List Decl) (e : Expression) (more : Links) (v : ℕ) : Type 0 where
  pub side : side_width ds e more ≡ Some v
  pub some : 1 ≤ v
  pub most : v ≤ 64

either_most : (a b : Option ℕ) (v : ℕ) → ((u : ℕ) → a ≡ Some u → u ≤ 64) → ((u : ℕ) → b ≡ Some u → u ≤ 64) → or_width a b ≡ Some v → v ≤ 64
either_most None b v first rest is = rest v is
either_most (Some u) b v first rest is = let same : u ≡ v = cc is in let most = first u refl in omega arith

pub side_width_of : (ds : List Decl) → AreRanged ds → (w : ℕ) (e : Expression) (more : Links) (at : Span) → compares more ≡ true →
    IsShapedExpression (chain e more at) → IsSound ds (met_in ds w (chain e more at)) → (v : ℕ) × IsSideWidth ds e more v
side_width_of ds ranged w e more at is shaped s = by_side (side_width ds e more) refl
  where
    by_side : (o : Option ℕ) → side_width ds e more ≡ o → (v : ℕ) × IsSideWidth ds e more v
    by_side None none = absurd (s.widths (chain e more at) at (0, omega arith, refl) (rw (is, none) (0, omega arith, refl)))
    by_side (Some v) some = (
      v,
      record {
        side = some;
        some = or_some (own_width ds e) (first_width ds more) v (λ u h. own_some ds ranged (wanted_of ds w e more) e u shaped.2 (sound_first ds w e more at s)
            h) (λ u h. first_some ds ranged (wanted_of ds w e more) more u shaped.3 (sound_rest ds w e more at s) h) some;
        most = either_most (own_width ds e) (first_width ds more) v (λ u h. own_most ds (wanted_of ds w e more) e u (sound_first ds w e more at s).leaves h)
            (λ u h. first_most ds (wanted_of ds w e more) more u (sound_rest ds w e more at s).leaves h) some;
      },
    )

-- numbers

pub number_fits : (ds : List Decl) (w n : ℕ) (at : Span) → w ≤ 64 → IsSound ds (met_in ds w (number n at)) → n < 2 ^ w
number_fits ds w n at most s =
    let h = s.numbers (expect (number n at) w) (0, omega arith, refl) in
    let same : capped_width w ≡ w = grind arith in
    below (2 ^ w) n (rw same at h)
  where
    below : (k n : ℕ) → nat_le k n ≡ false → n < k
    below k n h = grind (arith, nat_tests)

-- links of which the first doesn't compare: none does

pub plain_links : (more : Links) → compares more ≡ false → (some_compares more ≡ true → link_count more ≡ 1) → some_compares more ≡ false
plain_links no_links is alone = refl
plain_links (and_link op e more) is alone = by_test (some_compares more) refl
  where
    by_test : (b : Bool) → some_compares more ≡ b → some_compares (and_link op e more) ≡ false
    by_test false none = rw (is, none) refl
    by_test true some = absurd (let one = alone (rw (is, some) refl) in no_more more some (omega (arith, one)))
      where
        no_more : (ls : Links) → some_compares ls ≡ true → link_count ls ≡ 0 → ⊥
        no_more no_links so none = cc so
        no_more (and_link o f ls) so none = omega (arith, none)

one_plain : (op : Op) (e : Expression) (more : Links) → some_compares (and_link op e more) ≡ false → (is_comparison op ≡ false) × (some_compares more ≡ false)
one_plain op e more h = by_test (is_comparison op) h
  where
    by_test : (b : Bool) → (b || some_compares more) ≡ false → (b ≡ false) × (some_compares more ≡ false)
    by_test true so = absurd (cc so)
    by_test false so = (refl, so)

-- the typed form of an expression

pub record AreJoined (ds : List Decl) (parts : Expressions) : Type 0 where
  pub over : AreOver (vars_of ds) (parts_form ds parts)
  pub sum : widths_of (parts_form ds parts) ≡ own_widths ds parts
  pub count : expression_count parts ≡ typed.formula_count (parts_form ds parts)

reading_of : (ds : List Decl) (of : Ident) (high low w : ℕ) → is_var_in ds of.name ≡ Some true → low ≤ high → high < declared_width ds of.name → AreRanged ds →
    high + 1 - low ≡ w → IsOfWidth (vars_of ds) w (typed.reading (var_number ds of.name) high low of.at)
reading_of ds of high low w var ordered within ranged same =
    let at = var_at ds of.name var in
    let most = declared_most ds ranged of.name in
    subst (λ (n : ℕ). IsOfWidth (vars_of ds) n (typed.reading (var_number ds of.name) high low of.at)) same
    (reading_over (vars_of ds) (var_number ds of.name) high low of.at at.within (let e = at.width in omega arith) ordered (omega arith))

one_typed : (ds : List Decl) (w v : ℕ) (e : Expression) (more : Links) (at : Span) → compares more ≡ true → w ≡ 1 → side_width ds e more ≡ Some v →
    IsOfWidth (vars_of ds) v (formula_form ds v e) → AreShapedLinks more →
    ((op : Op) (f : Expression) (rest : Links) → more ≡ and_link op f rest → IsOfWidth (vars_of ds) v (formula_form ds v f)) →
    IsOfWidth (vars_of ds) w (formula_form ds w (chain e more at))
one_typed ds w v e no_links at is one side left shaped right = absurd (cc is)
one_typed ds w v e (and_link op f rest) at is one side left shaped right =
    rw (is, side, one) (compared_over (vars_of ds) v v op (formula_form ds v e) (formula_form ds v f) left (right op f rest refl) refl is)

pub bit_within : (w place : ℕ) → nat_le w place ≡ false → place < w
bit_within w place h = grind (arith, nat_tests)

operations_counted : (ds : List Decl) (w : ℕ) (more : Links) → link_count more ≡ typed.operation_count (operations_form ds w more)
operations_counted ds w no_links = refl
operations_counted ds w (and_link op e more) = ap suc (operations_counted ds w more)

-- a chain, from its members
chain_typed : (ds : List Decl) → AreRanged ds → (w : ℕ) (e : Expression) (more : Links) (at : Span) → 1 ≤ w → w ≤ 64 → IsShapedExpression (chain e more at) →
    IsSound ds (met_in ds w (chain e more at)) → (b : Bool) → compares more ≡ b
    → ((v : ℕ) → 1 ≤ v → v ≤ 64 → IsSound ds (met_in ds v e) → IsOfWidth (vars_of ds) v (formula_form ds v e))
    → ((v : ℕ) → 1 ≤ v → v ≤ 64 → some_compares more ≡ false → IsSound ds (met_in_links ds v more) → AreLinks (vars_of ds) v (operations_form ds v more))
    → ((v : ℕ) → 1 ≤ v → v ≤ 64 → IsSound ds (met_in_links ds v more) → (op : Op) (f : Expression) (rest : Links) → more ≡ and_link op f rest →
    IsOfWidth (vars_of ds) v (formula_form ds v f))
    → IsOfWidth (vars_of ds) w (formula_form ds w (chain e more at))
chain_typed ds ranged w e more at some most shaped s true is first rest right =
    let side = side_width_of ds ranged w e more at is shaped s in
    let v = side.0 in
    let wanted : wanted_of ds w e more ≡ v = rw (is, side.1.side) refl in
    let one : 1 ≡ w = leaf_fits ds w 1 (chain e more at) (met_in ds w (chain e more at)) (leaves ds v e ++ leaves_of_links ds v more) s
    (rw (is, side.1.side) refl) (rw is refl) in
    let here = subst (λ (u : ℕ). IsSound ds (met_in ds u e)) wanted (sound_first ds w e more at s) in
    let there = subst (λ (u : ℕ). IsSound ds (met_in_links ds u more)) wanted (sound_rest ds w e more at s) in
    one_typed ds w v e more at is (sym one) side.1.side (first v side.1.some side.1.most here) shaped.3 (right v side.1.some side.1.most there)
chain_typed ds ranged w e more at some most shaped s false is first rest right =
    let wanted : wanted_of ds w e more ≡ w = rw is refl in
    let here = subst (λ (u : ℕ). IsSound ds (met_in ds u e)) wanted (sound_first ds w e more at s) in
    let there = subst (λ (u : ℕ). IsSound ds (met_in_links ds u more)) wanted (sound_rest ds w e more at s) in
    let links = rest w some most (plain_links more is shaped.1) there in
    let count = operations_counted ds w more in
    rw is (chain_done (vars_of ds) w (formula_form ds w e) (operations_form ds w more)
    (record { whole = λ done. links; rest = λ all. record { formed = tt; read = tt } }) (first w some most here) (omega (arith, shaped.0, count)))

mutual
  pub expression_typed : (ds : List Decl) → AreRanged ds → (w : ℕ) (e : Expression) → 1 ≤ w → w ≤ 64 → IsShapedExpression e → IsSound ds (met_in ds w e) →
      IsOfWidth (vars_of ds) w (formula_form ds w e)
  expression_typed ds ranged w (number n at) some most shaped s = constant_over (vars_of ds) w n some most (number_fits ds w n at most s)
  expression_typed ds ranged w (whole of) some most shaped s =
      let var = s.uses (use_of of read) (0, omega arith, refl) in
      let bits = declared_some ds of.name ranged (is_declared ds of.name true var) in
      let same : declared_width ds of.name ≡ w = leaf_fits ds w (declared_width ds of.name) (whole of) (met_in ds w (whole of)) [] s refl refl in
      reading_of ds of (declared_width ds of.name - 1) 0 w var (omega arith) (omega arith) ranged (omega arith)
  expression_typed ds ranged w (slice of high low at) some most shaped s =
      let var = s.uses (use_of of read) (0, omega arith, refl) in
      let bits = good_slice (declared_width ds of.name) high low (s.parts (slice of high low at) (0, omega arith, refl)) in
      reading_of ds of high low w var bits.0 bits.1 ranged (leaf_fits ds w (high + 1 - low) (slice of high low at) (met_in ds w (slice of high low at)) [] s
      refl refl)
  expression_typed ds ranged w (bit of place at) some most shaped s =
      let var = s.uses (use_of of read) (0, omega arith, refl) in
      let here = bit_within (declared_width ds of.name) place (s.parts (bit of place at) (0, omega arith, refl)) in
      let same : 1 ≡ w = leaf_fits ds w 1 (bit of place at) (met_in ds w (bit of place at)) [] s refl refl in
      reading_of ds of place place w var (omega arith) here ranged (omega arith)
  expression_typed ds ranged w (join parts at) some most shaped s =
      let all = parts_typed ds ranged parts shaped.1 (λ t. s.widths (join parts at) t (0, omega arith, refl)) (sound_join ds w parts at s) in
      let same : own_widths ds parts ≡ w = leaf_fits ds w (own_widths ds parts) (join parts at) (met_in ds w (join parts at)) _ s refl refl in
      record { formed = (omega (arith, shaped.0, all.count), omega (arith, all.sum), all.over.formed); reads = all.over.read; agrees = all.sum ∙ same }
  expression_typed ds ranged w (negation e at) some most shaped s =
      inverted_over (vars_of ds) w (formula_form ds w e) (expression_typed ds ranged w e some most shaped (sound_inner ds w e at s))
  expression_typed ds ranged w (chain e more at) some most shaped s =
      chain_typed ds ranged w e more at some most shaped s (compares more) refl (λ v a b t. expression_typed ds ranged v e a b shaped.2 t)
      (λ v a b plain t. links_typed ds ranged v more a b shaped.3 plain t) (λ v a b t. one_link_typed ds ranged v more a b shaped.3 t)

  pub parts_typed : (ds : List Decl) → AreRanged ds → (parts : Expressions) → AreShapedParts parts → ((s : Span) → ¬ Contains (lacking_parts ds parts) s) →
      IsSound ds (met_in_parts ds parts) → AreJoined ds parts
  parts_typed ds ranged no_parts shaped full s = record { over = record { formed = tt; read = tt }; sum = refl; count = refl }
  parts_typed ds ranged (and_part e more) shaped full s =
      let own = part_width ds ranged e more shaped.0 full s in
      let w = own.1 in
      let e_is : unwrap_or (own_width ds e) 0 ≡ own.0 = ap (λ (o : Option ℕ). unwrap_or o 0) w.own in
      let some : 1 ≤ unwrap_or (own_width ds e) 0 = omega (arith, e_is, w.some) in
      let most : unwrap_or (own_width ds e) 0 ≤ 64 = omega (arith, e_is, w.most) in
      let here = expression_typed ds ranged (unwrap_or (own_width ds e) 0) e some most shaped.0 (sound_part ds e more s) in
      let rest = parts_typed ds ranged more shaped.1 (parts_full ds e more full) (sound_parts ds e more s) in
      record {
        over = record { formed = (here.formed, rest.over.formed); read = (here.reads, rest.over.read) };
        sum = omega (arith, here.agrees, rest.sum);
        count = ap suc rest.count;
      }

  pub links_typed : (ds : List Decl) → AreRanged ds → (w : ℕ) (more : Links) → 1 ≤ w → w ≤ 64 → AreShapedLinks more → some_compares more ≡ false →
      IsSound ds (met_in_links ds w more) → AreLinks (vars_of ds) w (operations_form ds w more)
  links_typed ds ranged w no_links some most shaped plain s = record { formed = tt; read = tt }
  links_typed ds ranged w (and_link op e more) some most shaped plain s =
      let here = expression_typed ds ranged w e some most shaped.0 (sound_link ds w op e more s) in
      let one = one_plain op e more plain in
      let rest = links_typed ds ranged w more some most shaped.1 one.1 (sound_links ds w op e more s) in
      record { formed = (one.0, here.agrees, here.formed, rest.formed); read = (here.reads, rest.read) }

  pub one_link_typed : (ds : List Decl) → AreRanged ds → (w : ℕ) (more : Links) → 1 ≤ w → w ≤ 64 → AreShapedLinks more → IsSound ds (met_in_links ds w more) →
      (op : Op) (f : Expression) (rest : Links) → more ≡ and_link op f rest → IsOfWidth (vars_of ds) w (formula_form ds w f)
  one_link_typed ds ranged w no_links some most shaped s op f rest is = absurd (cc is)
  one_link_typed ds ranged w (and_link o g ls) some most shaped s op f rest is =
      let same : g ≡ f = cc is in
      subst (λ (x : Expression). IsOfWidth (vars_of ds) w (formula_form ds w x)) same
      (expression_typed ds ranged w g some most shaped.0 (sound_link ds w o g ls s))
