-- Which nodes are high at first: of each variable one rail of each bit.
use Rattle.std.proofs.Common.{◌≡◌, ◌≢◌, ℕ, zero, suc, ◌+◌, ◌*◌, ◌/◌, ◌%◌, ◌==◌, ◌<◌, Bool, true, false, List, [], ◌∷◌, ◌++◌, length, get_or, set, refl, sym, ap, ◌∙◌, arith, length-set, get_or-set_same, get_or-set_other, ⊎_elim}
use Rattle.std.specs.Prelude.{◌||◌, if◌then◌else◌, fold, slice_set}
use Rattle.std.proofs.lemmas.Bool.{cases_eq, eqb-true, eq-eqb, ne_eqb}
use Rattle.width_check.specs.declared.typed.Var.{Var}
use Rattle.width_check.specs.Processes.{TypedProgram}
use Rattle.width_check.specs.Typing.{var_width}
use Rattle.handshake_expand.specs.Layout.{var_from}
use Rattle.cell_variable.specs.Variables.{high_first}
use Rattle.circuit_places.specs.Circuit.{same_bit}
use Rattle.circuit_places.specs.Whole.{number_rail, first_bits}
use Rattle.net_compose.specs.Translation.{vars_high}
use Rattle.net_compose.proofs.FlatBlocks.{side}

abbrev pub member : ℕ → List ℕ → Bool
member m [] = false
member m (n ∷ ns) = (n == m) || member m ns

or_false : (b : Bool) → (b || false) ≡ b
or_false true = refl
or_false false = refl

or_apart : (a b c : Bool) → ((a || b) || c) ≡ (a || (b || c))
or_apart true b c = refl
or_apart false b c = refl

or_true : (b : Bool) → (b || true) ≡ true
or_true true = refl
or_true false = refl

pub member_append : (m : ℕ) (xs ys : List ℕ) → member m (xs ++ ys) ≡ (member m xs || member m ys)
member_append m [] ys = refl
member_append m (x ∷ xs) ys = ap (λ b. (x == m) || b) (member_append m xs ys) ∙ sym (or_apart (x == m) (member m xs) (member m ys))

abbrev pub raised : List Bool → List ℕ → List Bool
raised values nodes = fold (λ values node. slice_set values node true) values nodes

pub length-raised : (nodes : List ℕ) (values : List Bool) → length (raised values nodes) ≡ length values
length-raised [] values = refl
length-raised (n ∷ ns) values = length-raised ns (set values n true) ∙ length-set values n true

one_raised : (values : List Bool) (n m : ℕ) → m < length values → get_or (set values n true) m false ≡ (get_or values m false || (n == m))
one_raised values n m h = ⊎_elim
    (λ (e : n ≡ m). ap (λ k. get_or (set values k true) m false) e ∙ (get_or-set_same values m true false h
    ∙ (sym (or_true (get_or values m false)) ∙ ap (λ b. get_or values m false || b) (sym (eq-eqb n m e)))))
    (λ (ne : n ≢ m). get_or-set_other values n m true false (λ e. ne (sym e))
    ∙ (sym (or_false (get_or values m false)) ∙ ap (λ b. get_or values m false || b) (sym (ne_eqb n m ne))))
    (cases_eq n m)

pub raised_is : (nodes : List ℕ) (values : List Bool) (m : ℕ) → m < length values
    → get_or (raised values nodes) m false ≡ (get_or values m false || member m nodes)
raised_is [] values m h = sym (or_false (get_or values m false))
raised_is (n ∷ ns) values m h =
    raised_is ns (set values n true) m (let e = length-set values n true in omega (arith, h, e))
    ∙ (ap (λ b. b || member m ns) (one_raised values n m h) ∙ or_apart (get_or values m false) (n == m) (member m ns))

either : {A : Type 0} (a b : Bool) → (a || b) ≡ true → (a ≡ true → A) → (b ≡ true → A) → A
either true b h f g = f refl
either false b h f g = g h

same_true : (b : Bool) → same_bit b true ≡ b
same_true true = refl
same_true false = refl

-- in one block
record HighBit (n v from m : ℕ) : Type 0 where
  pub bit : ℕ
  pub one : Bool
  pub below : bit < n
  pub is : from + (5 * bit + side one) ≡ m
  pub high : number_rail n v bit one ≡ true

bit_member : (n v from m : ℕ) → member m (high_first n v from) ≡ true → HighBit n v from m
bit_member zero v from m h = absurd (cc h)
bit_member (suc n) v from m h = either ((if v % 2 == 1 then from else from + 1) == m) (member m (high_first n (v / 2) (from + 5))) h
    (λ e. by (v % 2 == 1) refl (eqb-true (if v % 2 == 1 then from else from + 1) m e))
    (λ e. let r = bit_member n (v / 2) (from + 5) m e in
    record { bit = suc r.bit; one = r.one; below = (let z = r.below in omega (arith, z)); is = (let z = r.is in omega (arith, z)); high = r.high })
  where
    by : (o : Bool) → (v % 2 == 1) ≡ o → (if v % 2 == 1 then from else from + 1) ≡ m → HighBit (suc n) v from m
    by true e z = record {
      bit = zero;
      one = true;
      below = omega arith;
      is =
          (let g : from ≡ m = sym (ap (λ b. if b then from else from + 1) e) ∙ z in omega (arith, g));
      high = same_true (v % 2 == 1) ∙ e;
    }
    by false e z = record {
      bit = zero;
      one = false;
      below = omega arith;
      is =
          (let g : from + 1 ≡ m = sym (ap (λ b. if b then from else from + 1) e) ∙ z in omega (arith, g));
      high = flip (v % 2 == 1) e;
    }
      where
        flip : (b : Bool) → b ≡ false → same_bit b false ≡ true
        flip true e = absurd (cc e)
        flip false e = refl

or_left : (a b : Bool) → a ≡ true → (a || b) ≡ true
or_left a b h = ap (λ z. z || b) h

or_right : (a b : Bool) → b ≡ true → (a || b) ≡ true
or_right true b h = refl
or_right false b h = h

bit_there : (n v from i : ℕ) (one : Bool) → number_rail n v i one ≡ true → member (from + (5 * i + side one)) (high_first n v from) ≡ true
bit_there zero v from i one h = absurd (cc h)
bit_there (suc n) v from zero true h = or_left ((if v % 2 == 1 then from else from + 1) == (from + (5 * 0 + 0)))
    (member (from + (5 * 0 + 0)) (high_first n (v / 2) (from + 5)))
    (eq-eqb (if v % 2 == 1 then from else from + 1) (from + (5 * 0 + 0)) (ap (λ b. if b then from else from + 1) (sym (same_true (v % 2 == 1)) ∙ h)
    ∙ (let e : from ≡ from + (5 * 0 + 0) = omega arith in e)))
bit_there (suc n) v from zero false h = or_left ((if v % 2 == 1 then from else from + 1) == (from + (5 * 0 + 1)))
    (member (from + (5 * 0 + 1)) (high_first n (v / 2) (from + 5)))
    (eq-eqb (if v % 2 == 1 then from else from + 1) (from + (5 * 0 + 1)) (ap (λ b. if b then from else from + 1) (even (v % 2 == 1) h)
    ∙ (let e : from + 1 ≡ from + (5 * 0 + 1) = omega arith in e)))
  where
    even : (b : Bool) → same_bit b false ≡ true → b ≡ false
    even true e = absurd (cc e)
    even false e = refl
bit_there (suc n) v from (suc i) one h = or_right ((if v % 2 == 1 then from else from + 1) == (from + (5 * suc i + side one)))
    (member (from + (5 * suc i + side one)) (high_first n (v / 2) (from + 5)))
    (ap (λ k. member k (high_first n (v / 2) (from + 5))) (let e : from + (5 * suc i + side one) ≡ from + 5 + (5 * i + side one) = omega arith in e)
    ∙ bit_there n (v / 2) (from + 5) i one h)

-- in all blocks
pub record HighRail (P : TypedProgram) (x : ℕ) (vs : List Var) (m : ℕ) : Type 0 where
  pub var : ℕ
  pub bit : ℕ
  pub one : Bool
  pub some : var < length vs
  pub below : bit < var_width vs var
  pub is : var_from P (x + var) + (5 * bit + side one) ≡ m
  pub high : first_bits vs var bit one ≡ true

pub high_member : (P : TypedProgram) (x : ℕ) (vs : List Var) (m : ℕ) → member m (vars_high P x vs) ≡ true → HighRail P x vs m
high_member P x [] m h = absurd (cc h)
high_member P x (v ∷ vs) m h = either (member m (high_first v.width v.first (var_from P x))) (member m (vars_high P (suc x) vs))
    (sym (member_append m (high_first v.width v.first (var_from P x)) (vars_high P (suc x) vs)) ∙ h)
    (λ e. let r = bit_member v.width v.first (var_from P x) m e in
    record {
      var = zero;
      bit = r.bit;
      one = r.one;
      some = omega arith;
      below = r.below;
      is = ap (λ k. var_from P k + (5 * r.bit + side r.one))
          (let z : x + 0 ≡ x = omega arith in z) ∙ r.is;
      high = r.high;
    })
    (λ e. let r = high_member P (suc x) vs m e in
    record {
      var = suc r.var;
      bit = r.bit;
      one = r.one;
      some = (let z = r.some in omega (arith, z));
      below = r.below;
      is = ap
          (λ k. var_from P k + (5 * r.bit + side r.one)) (let z : x + suc r.var ≡ suc x + r.var = omega arith in z) ∙ r.is;
      high = r.high;
    })

pub high_there : (P : TypedProgram) (x : ℕ) (vs : List Var) (y i : ℕ) (one : Bool) → first_bits vs y i one ≡ true
    → member (var_from P (x + y) + (5 * i + side one)) (vars_high P x vs) ≡ true
high_there P x [] y i one h = absurd (cc h)
high_there P x (v ∷ vs) zero i one h =
    member_append (var_from P (x + 0) + (5 * i + side one)) (high_first v.width v.first (var_from P x)) (vars_high P (suc x) vs)
    ∙ or_left (member (var_from P (x + 0) + (5 * i + side one)) (high_first v.width v.first (var_from P x)))
    (member (var_from P (x + 0) + (5 * i + side one)) (vars_high P (suc x) vs))
    (ap (λ k. member (var_from P k + (5 * i + side one)) (high_first v.width v.first (var_from P x))) (let z : x + 0 ≡ x = omega arith in z)
    ∙ bit_there v.width v.first (var_from P x) i one h)
high_there P x (v ∷ vs) (suc y) i one h =
    member_append (var_from P (x + suc y) + (5 * i + side one)) (high_first v.width v.first (var_from P x)) (vars_high P (suc x) vs)
    ∙ or_right (member (var_from P (x + suc y) + (5 * i + side one)) (high_first v.width v.first (var_from P x)))
    (member (var_from P (x + suc y) + (5 * i + side one)) (vars_high P (suc x) vs))
    (ap (λ k. member (var_from P k + (5 * i + side one)) (vars_high P (suc x) vs)) (let z : x + suc y ≡ suc x + y = omega arith in z)
    ∙ high_there P (suc x) vs y i one h)

-- counted from the first
pub high_at : (P : TypedProgram) (m : ℕ) (r : HighRail P 0 P.vars m) → var_from P r.var + (5 * r.bit + side r.one) ≡ m
high_at P m r = ap (λ k. var_from P k + (5 * r.bit + side r.one)) (let z : r.var ≡ 0 + r.var = omega arith in z) ∙ r.is
