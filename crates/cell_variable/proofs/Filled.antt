-- A variable's nodes that are written bit by bit.
use Rattle.std.proofs.Common.{◌≡◌, ◌≢◌, ℕ, zero, suc, ◌+◌, ◌*◌, ◌≤◌, ◌<◌, List, [], ◌∷◌, ◌++◌, length, All, Contains, Result, Ok, Err, OnOk, OnErr, refl, sym, ap, subst, ◌∙◌, arith, append_assoc}
use Rattle.std.specs.List.{flat_map}
use Rattle.std.proofs.lemmas.List.{append-nil}
use Rattle.std.proofs.lemmas.List.Elements.{All-nil, All-cons, All-head, All-tail, Contains-append_left, Contains-append_right}
use Rattle.prs_core.specs.Nets.{RulesValue, IsAlone, with_rules}
use Rattle.prs_core.specs.Parts.{Owned, owned, with_owned}
use Rattle.prs_core.specs.Writing.{IsOther, alone_same, alone_on, with_append, other_left, other_right}
use Rattle.prs_core.specs.Partly.{IsPartly, partly_none, partly_all, partly_of, partly_on}
use Rattle.cell_parallel.specs.Trees.{tree_owned}
use Rattle.cell_variable.specs.Variables.{bit_at, bits_from, bit_owned, bit_written, kept_rail, written_leaves, variable_owned}

-- the three nodes of a bit
pub record AreOther (bit node : ℕ) : Type 0 where
  pub rail_t : node ≢ bit
  pub rail_f : node ≢ bit + 1
  pub written : node ≢ bit + 4

pub are_other : (bit node : ℕ) → IsOther node (bit_owned (bit_at bit)) → AreOther bit node
are_other bit node h =
    let b = bit_at bit in
    let P : Owned → Type 0 = λ o. o.node ≢ node in
    let t = owned bit (kept_rail b.w.t b.x.f b.w.f) in
    let f = owned (bit + 1) (kept_rail b.w.f b.x.t b.w.t) in
    let wa = owned (bit + 4) (bit_written b) in
    let rest = All-tail P t (f ∷ wa ∷ []) h in record {
      rail_t = λ e. All-head P t (f ∷ wa ∷ []) h (sym e);
      rail_f = λ e. All-head P f (wa ∷ []) rest (sym e);
      written = λ e. All-head P wa [] (All-tail P f (wa ∷ []) rest) (sym e);
    }

-- where memory runs out within a bit
pub half_bit : (bit : ℕ) (old now later : RulesValue) → now ≡ with_rules bit (kept_rail (bit + 2) (bit + 1) (bit + 3)) old → later ≡ now →
    IsPartly (bit_owned (bit_at bit)) old later
half_bit bit old now later first same =
    let b = bit_at bit in
    partly_of (owned bit (kept_rail b.w.t b.x.f b.w.f) ∷ []) (bit_owned b) old later
    (λ o k. Contains-append_left (owned bit (kept_rail b.w.t b.x.f b.w.f) ∷ []) (owned (bit + 1) (kept_rail b.w.f b.x.t b.w.t)
    ∷ owned (bit + 4) (bit_written b) ∷ []) o k) (partly_all (owned bit (kept_rail b.w.t b.x.f b.w.f) ∷ []) old later (same ∙ first))

pub whole_bit : {E : Type 0} (bit : ℕ) (old one two later : RulesValue) (r : Result (Unit {0}) E) →
    one ≡ with_rules bit (kept_rail (bit + 2) (bit + 1) (bit + 3)) old → two ≡ with_rules (bit + 1) (kept_rail (bit + 3) bit (bit + 2)) one →
    OnOk r (later ≡ with_rules (bit + 4) (bit_written (bit_at bit)) two) → OnErr r (later ≡ two) → IsPartly (bit_owned (bit_at bit)) old later
whole_bit bit old one two later (Ok u) first second made kept =
    let b = bit_at bit in
    partly_all (bit_owned b) old later (made ∙ ap (with_rules (bit + 4) (bit_written b)) (second
    ∙ ap (with_rules (bit + 1) (kept_rail b.w.f b.x.t b.w.t)) first))
whole_bit bit old one two later (Err e) first second made kept =
    let b = bit_at bit in
    let os : List Owned = owned bit (kept_rail b.w.t b.x.f b.w.f) ∷ owned (bit + 1) (kept_rail b.w.f b.x.t b.w.t) ∷ [] in
    partly_of os (bit_owned b) old later (λ o k. Contains-append_left os (owned (bit + 4) (bit_written b) ∷ []) o k)
    (partly_all os old later (kept ∙ (second ∙ ap (with_rules (bit + 1) (kept_rail b.w.f b.x.t b.w.t)) first)))

abbrev bits_owned : ℕ → ℕ → List Owned
bits_owned width from = flat_map bit_owned (bits_from width from)

leaves_within : (bound width from : ℕ) → from + 5 * width ≤ bound → All (λ n. n < bound) (written_leaves width from)
leaves_within bound zero from fits = All-nil (λ n. n < bound)
leaves_within bound (suc n) from fits = All-cons (λ n. n < bound) (from + 4) (written_leaves n (from + 5)) (omega arith)
    (leaves_within bound n (from + 5) (omega arith))

pub leaves_length : (width from : ℕ) → length (written_leaves width from) ≡ width
leaves_length zero from = refl
leaves_length (suc n) from = let e : length (written_leaves n (from + 5)) ≡ n = leaves_length n (from + 5) in omega (arith, e)

-- while the bits are written: how many are left, from which node on
pub record Filled (width from : ℕ) (old : RulesValue) (left bit : ℕ) (leaves : List ℕ) (now : RulesValue) : Type 0 where
  pub place : bit + 5 * left ≡ from + 5 * width
  pub leaves_are : leaves ++ written_leaves left bit ≡ written_leaves width from
  pub made : with_owned (bits_owned left bit) now ≡ with_owned (bits_owned width from) old
  pub count : length now.up ≡ length old.up
  pub others : (node : ℕ) → IsOther node (bits_owned width from) → IsAlone old now node
  pub rest : (node : ℕ) → IsOther node (bits_owned width from) → IsOther node (bits_owned left bit)
  pub partly : IsPartly (bits_owned width from) old now
  pub among : (o : Owned) → Contains (bits_owned left bit) o → Contains (bits_owned width from) o

begin : (width from : ℕ) (old : RulesValue) → Filled width from old width from [] old
begin width from old = record {
  place = refl;
  leaves_are = refl;
  made = refl;
  count = refl;
  others = λ node o. alone_same old node;
  rest = λ node o. o;
  partly = partly_none (bits_owned width from) old old refl;
  among = λ o k. k;
}

-- one bit more, or a part of it
bit_partly : (width from : ℕ) (old : RulesValue) (left bit : ℕ) (leaves : List ℕ) (now later : RulesValue) → Filled width from old (suc left) bit leaves now →
    IsPartly (bit_owned (bit_at bit)) now later → IsPartly (bits_owned width from) old later
bit_partly width from old left bit leaves now later so_far some =
    partly_on (bits_owned width from) old now later so_far.partly
    (partly_of (bit_owned (bit_at bit)) (bits_owned width from) now later
    (λ o k. so_far.among o (Contains-append_left (bit_owned (bit_at bit)) (bits_owned left (bit + 5)) o k)) some)

more : (width from : ℕ) (old : RulesValue) (left bit : ℕ) (leaves : List ℕ) (now : RulesValue) (later : RulesValue) →
    Filled width from old (suc left) bit leaves now → later ≡ with_owned (bit_owned (bit_at bit)) now → length later.up ≡ length now.up →
    ((k : ℕ) → IsOther k (bit_owned (bit_at bit)) → IsAlone now later k) → Filled width from old left (bit + 5) (leaves ++ (bit + 4) ∷ []) later
more width from old left bit leaves now later so_far is same far = record {
  place = omega (arith, so_far.place);
  leaves_are = append_assoc leaves ((bit + 4) ∷ []) (written_leaves left (bit + 5)) ∙ so_far.leaves_are;
  made = ap (with_owned (bits_owned left (bit + 5))) is ∙ (sym (with_append (bit_owned (bit_at bit)) (bits_owned left (bit + 5)) now) ∙ so_far.made);
  count = same ∙ so_far.count;
  others = λ node o. alone_on old now later node (so_far.others node o)
      (far node (other_left node (bit_owned (bit_at bit)) (bits_owned left (bit + 5)) (so_far.rest node o)));
  rest = λ node o. other_right node (bit_owned (bit_at bit)) (bits_owned left (bit + 5)) (so_far.rest node o);
  partly = bit_partly width from old left bit leaves now later so_far (partly_all (bit_owned (bit_at bit)) now later is);
  among = λ o k. so_far.among o (Contains-append_right (bit_owned (bit_at bit)) (bits_owned left (bit + 5)) o k);
}

-- also where memory runs out in a bit
alone : (width from : ℕ) (old : RulesValue) (left bit : ℕ) (leaves : List ℕ) (now later : RulesValue) → Filled width from old (suc left) bit leaves now →
    ((k : ℕ) → IsOther k (bit_owned (bit_at bit)) → IsAlone now later k) → (node : ℕ) → IsOther node (variable_owned width from) → IsAlone old later node
alone width from old left bit leaves now later so_far far node o =
    let mine : IsOther node (bits_owned width from) = other_left node (bits_owned width from) (tree_owned (written_leaves width from) (from + 5 * width)) o in
    alone_on old now later node (so_far.others node mine)
    (far node (other_left node (bit_owned (bit_at bit)) (bits_owned left (bit + 5)) (so_far.rest node mine)))

-- the same by the place of the next bit
pub record Filling (width from : ℕ) (old : RulesValue) (place bit : ℕ) (leaves : List ℕ) (now : RulesValue) : Type 0 where
  pub left : ℕ
  pub counted : place + left ≡ width
  pub so_far : Filled width from old left bit leaves now

pub filled_begin : (width from : ℕ) (old : RulesValue) (leaves : List ℕ) → leaves ≡ [] → Filling width from old 0 from leaves old
filled_begin width from old leaves none =
    record { left = width; counted = omega arith; so_far = subst (λ l. Filled width from old width from l old) (sym none) (begin width from old) }

pub filled_more : (width from : ℕ) (old : RulesValue) (place bit : ℕ) (leaves upper : List ℕ) (now : RulesValue) (later : RulesValue) →
    Filling width from old place bit leaves now → place < width → upper ≡ leaves ++ (bit + 4) ∷ [] → later ≡ with_owned (bit_owned (bit_at bit)) now →
    length later.up ≡ length now.up → ((k : ℕ) → IsOther k (bit_owned (bit_at bit)) → IsAlone now later k) →
    Filling width from old (place + 1) (bit + 5) upper later
filled_more width from old place bit leaves upper now later f less up is same far = by f.left f.counted f.so_far
  where
    by : (left : ℕ) → place + left ≡ width → Filled width from old left bit leaves now → Filling width from old (place + 1) (bit + 5) upper later
    by zero counted so_far = absurd (omega arith)
    by (suc left) counted so_far = record {
      left = left;
      counted = omega (arith, counted);
      so_far = subst (λ l. Filled width from old left (bit + 5) l later) (sym up) (more width from old left bit leaves now later so_far is same far);
    }

pub filled_alone : (width from : ℕ) (old : RulesValue) (place bit : ℕ) (leaves : List ℕ) (now later : RulesValue) → Filling width from old place bit leaves now
    → place < width → ((k : ℕ) → IsOther k (bit_owned (bit_at bit)) → IsAlone now later k) → (node : ℕ) → IsOther node (variable_owned width from) →
    IsAlone old later node
filled_alone width from old place bit leaves now later f less far = by f.left f.counted f.so_far
  where
    by : (left : ℕ) → place + left ≡ width → Filled width from old left bit leaves now → (node : ℕ) → IsOther node (variable_owned width from) →
        IsAlone old later node
    by zero counted so_far = absurd (omega arith)
    by (suc left) counted so_far = alone width from old left bit leaves now later so_far far

pub filled_partly : (width from : ℕ) (old : RulesValue) (place bit : ℕ) (leaves : List ℕ) (now later : RulesValue) → Filling width from old place bit leaves now
    → place < width → IsPartly (bit_owned (bit_at bit)) now later → IsPartly (variable_owned width from) old later
filled_partly width from old place bit leaves now later f less some = by f.left f.counted f.so_far
  where
    tree : List Owned
    tree = tree_owned (written_leaves width from) (from + 5 * width)

    by : (left : ℕ) → place + left ≡ width → Filled width from old left bit leaves now → IsPartly (variable_owned width from) old later
    by zero counted so_far = absurd (omega arith)
    by (suc left) counted so_far = partly_of (bits_owned width from) (variable_owned width from) old later
        (λ o k. Contains-append_left (bits_owned width from) tree o k) (bit_partly width from old left bit leaves now later so_far some)

-- there is room for the bit
pub filled_fits : (width from : ℕ) (old : RulesValue) (place bit : ℕ) (leaves : List ℕ) (now : RulesValue) → Filling width from old place bit leaves now →
    from + 6 * width ≤ length old.up + 1 → place < width → bit + 5 ≤ length now.up
filled_fits width from old place bit leaves now f fits less = omega (arith, f.counted, f.so_far.place, f.so_far.count, less, fits)

-- once no bit is left
pub record AllFilled (width from : ℕ) (old : RulesValue) (bit : ℕ) (leaves : List ℕ) (now : RulesValue) : Type 0 where
  pub place : bit ≡ from + 5 * width
  pub leaves_are : leaves ≡ written_leaves width from
  pub room : bit + length leaves ≤ length now.up + 1
  pub within : All (λ n. n < length now.up) leaves
  pub made : (later : RulesValue) → later ≡ with_owned (tree_owned leaves bit) now → later ≡ with_owned (variable_owned width from) old
  pub others : (later : RulesValue) → ((node : ℕ) → IsOther node (tree_owned leaves bit) → IsAlone now later node) → (node : ℕ) →
      IsOther node (variable_owned width from) → IsAlone old later node
  pub partly : (later : RulesValue) → IsPartly (tree_owned leaves bit) now later → IsPartly (variable_owned width from) old later

ended : (width from : ℕ) (old : RulesValue) (bit : ℕ) (leaves : List ℕ) (now : RulesValue) → Filled width from old 0 bit leaves now →
    from + 6 * width ≤ length old.up + 1 → 1 ≤ width → AllFilled width from old bit leaves now
ended width from old bit leaves now so_far fits some =
    let at : bit ≡ from + 5 * width = omega (arith, so_far.place) in
    let are : leaves ≡ written_leaves width from = sym (append-nil leaves) ∙ so_far.leaves_are in
    let tree : List Owned = tree_owned (written_leaves width from) (from + 5 * width) in
    let same : tree_owned leaves bit ≡ tree = ap (λ l. tree_owned l bit) are ∙ ap (tree_owned (written_leaves width from)) at in record {
      place = at;
      leaves_are = are;
      room = omega (arith, at, ap length are, leaves_length width from, so_far.count);
      within = subst (All (λ n. n < length now.up)) (sym are) (leaves_within (length now.up) width from (omega (arith, so_far.count)));
      made = λ later e. e ∙ (ap (λ os. with_owned os now) same ∙ (ap (with_owned tree) so_far.made ∙ sym (with_append (bits_owned width from) tree old)));
      others = λ later far node o.
          alone_on old now later node (so_far.others node (other_left node (bits_owned width from) tree o))
          (far node (subst (IsOther node) (sym same) (other_right node (bits_owned width from) tree o)));
      partly = λ later some.
          partly_on (variable_owned width from) old now later
          (partly_of (bits_owned width from) (variable_owned width from) old now (λ o k. Contains-append_left (bits_owned width from) tree o k) so_far.partly)
          (partly_of tree (variable_owned width from) now later (λ o k. Contains-append_right (bits_owned width from) tree o k)
          (subst (λ os. IsPartly os now later) same some));
    }

pub filled_end : (width from : ℕ) (old : RulesValue) (place bit : ℕ) (leaves slice : List ℕ) (now : RulesValue) → Filling width from old place bit leaves now →
    width ≤ place → from + 6 * width ≤ length old.up + 1 → 1 ≤ width → slice ≡ leaves → AllFilled width from old bit slice now
filled_end width from old place bit leaves slice now f last fits some is =
    let none : f.left ≡ 0 = omega (arith, f.counted) in
    subst (λ l. AllFilled width from old bit l now) (sym is)
    (ended width from old bit leaves now (subst (λ l. Filled width from old l bit leaves now) none f.so_far) fits some)
