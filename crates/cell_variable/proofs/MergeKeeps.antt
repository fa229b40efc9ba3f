-- A merge keeps its contract: in every state.
use Rattle.std.proofs.Common.{◌≡◌, ◌≢◌, ℕ, ◌<◌, Bool, true, false, List, [], ◌∷◌, length, map, Contains, refl, sym, ap, subst, ◌∙◌, arith, ◌⊎◌, inl, inr}
use Rattle.std.specs.Prelude.{not, ◌&&◌, ◌||◌, if◌then◌else◌}
use Rattle.std.specs.List.{list_any}
use Rattle.std.proofs.lemmas.Bool.{true≢false}
use Rattle.prs_core.specs.Nets.{is_high}
use Rattle.prs_core.specs.Pairs.{lows, or_of}
use Rattle.prs_core.specs.Moves.{guard_holds, term_holds}
use Rattle.prs_core.specs.Parts.{Part, Owned, Wire, Moment, IsMove, Keeps, owned, wire, fires, turned, may_move, all_low}
use Rattle.prs_core.specs.Keeping.{kept_by}
use Rattle.prs_core.specs.Turning.{among_cases, none_among, among_mapped, mapped_among, some_high}
use Rattle.cell_variable.specs.VariableParts.{merge_part}

up_holds : (v : ℕ → Bool) (ns : List ℕ) → guard_holds v (map (λ k. is_high k ∷ []) ns) ≡ list_any v ns
up_holds v [] = refl
up_holds v (n ∷ ns) = one (v n) (guard_holds v (map (λ k. is_high k ∷ []) ns)) (list_any v ns) (up_holds v ns)
  where
    one : (b g l : Bool) → g ≡ l → (b && true || g) ≡ (b || l)
    one true g l e = refl
    one false g l e = e

term_is : (v : ℕ → Bool) (ns : List ℕ) → term_holds v (lows ns) ≡ all_low v ns
term_is v [] = refl
term_is v (n ∷ ns) = ap (λ b. not (v n) && b) (term_is v ns)

down_holds : (v : ℕ → Bool) (ns : List ℕ) → guard_holds v (lows ns ∷ []) ≡ all_low v ns
down_holds v ns = one (term_holds v (lows ns)) ∙ term_is v ns
  where
    one : (b : Bool) → (b || false) ≡ b
    one true = refl
    one false = refl

-- some are high exactly where not all are low
any_or_all : (v : ℕ → Bool) (ns : List ℕ) → all_low v ns ≡ not (list_any v ns)
any_or_all v [] = refl
any_or_all v (n ∷ ns) = one (v n) (all_low v ns) (list_any v ns) (any_or_all v ns)
  where
    one : (b a l : Bool) → a ≡ not l → (not b && a) ≡ not (b || l)
    one true a l e = refl
    one false a l e = e

module _ (n : ℕ) (ns : List ℕ) (output : ℕ) where
  abbrev inputs : List ℕ
  inputs = n ∷ ns

  abbrev part : Part
  part = merge_part inputs output

  abbrev output_owned : Owned
  output_owned = owned output (or_of inputs)

  abbrev input_wire : ℕ → Wire
  input_wire input = wire input (λ m. all_low m.value (output ∷ inputs)) (λ m. m.value output)

  abbrev output_wire : Wire
  output_wire = wire output (λ m. list_any m.value inputs) (λ m. all_low m.value inputs)

  -- where the output is enabled
  fires_is : (v : ℕ → Bool) → fires v output_owned ≡ (if v output then all_low v inputs else list_any v inputs)
  fires_is v = ap (λ g. if v output then g else guard_holds v (map (λ k. is_high k ∷ []) inputs)) (down_holds v inputs)
      ∙ ap (λ g. if v output then all_low v inputs else g) (up_holds v inputs)

  only : (o : Owned) → Contains part.own o → output_owned ≡ o
  only o among = by (among_cases output_owned [] o among)
    where
      by : (output_owned ≡ o) ⊎ Contains [] o → output_owned ≡ o
      by (inl e) = e
      by (inr none) = absurd (none_among o none)

  -- where the output is enabled no input may move
  still : (m : Moment) (input : ℕ) → Contains inputs input → fires m.value output_owned ≡ true → may_move m (input_wire input) ≡ true → ⊥
  still m input among f may =
      by (m.value output) (m.value input) (all_low m.value inputs) (list_any m.value inputs) (any_or_all m.value inputs)
      (low_with_all m.value inputs input among) (sym (fires_is m.value) ∙ f) may
    where
      low_with_all : (v : ℕ → Bool) (ks : List ℕ) (k : ℕ) → Contains ks k → all_low v ks ≡ true → v k ≡ false
      low_with_all v [] k among h = absurd (none_among k among)
      low_with_all v (j ∷ ks) k among h = one (v j) (all_low v ks) refl refl h (among_cases j ks k among) (low_with_all v ks k)
        where
          one : (b a : Bool) → v j ≡ b → all_low v ks ≡ a → (not b && a) ≡ true → (j ≡ k) ⊎ Contains ks k → (Contains ks k → all_low v ks ≡ true → v k ≡ false)
              → v k ≡ false
          one true a e f h among rest = absurd (cc h)
          one false a e f h (inl same) rest = ap v (sym same) ∙ e
          one false a e f h (inr there) rest = rest there (f ∙ h)

      by : (c i a s : Bool) → a ≡ not s → (a ≡ true → i ≡ false) → (if c then a else s) ≡ true → (if i then c else (not c && a)) ≡ true → ⊥
      by true true true s e l f g = cc (l refl)
      by true true false s e l f g = cc (f)
      by true false a s e l f g = cc (g)
      by false true a s e l f g = cc (g)
      by false false true true e l f g = cc (e)
      by false false true false e l f g = cc (f)
      by false false false s e l f g = cc (g)

  firm : (m : Moment) (o : Owned) → Contains part.own o → fires m.value o ≡ true → (node : ℕ) → IsMove part m node → node ≢ o.node →
      fires (turned m.value node) o ≡ true
  firm m o among f node (inl own) ne =
      absurd (ne (own.at ∙ ap (λ (x : Owned). x.node) (sym (only own.o own.among) ∙ only o among)))
  firm m o among f node (inr outside) ne =
      let (input, here, is) = among_mapped input_wire inputs outside.w outside.among in
      absurd (still m input here (subst (λ (x : Owned). fires m.value x ≡ true) (sym (only o among)) f)
      (subst (λ (x : Wire). may_move m x ≡ true) (sym is) outside.may))

  promised : (m : Moment) (o : Owned) → Contains part.own o → fires m.value o ≡ true → (w : Wire) → Contains part.promises w → may_move m w ≡ true
  promised m o among f w here = by (among_cases output_wire [] w here)
    where
      by : (output_wire ≡ w) ⊎ Contains [] w → may_move m w ≡ true
      by (inr none) = absurd (none_among w none)
      by (inl is) = subst (λ (x : Wire). may_move m x ≡ true) is (sym (fires_is m.value) ∙ subst (λ (x : Owned). fires m.value x ≡ true) (sym (only o among)) f)

  apart : (v : ℕ → Bool) (o : Owned) → Contains part.own o → (guard_holds v o.rules.up && guard_holds v o.rules.down) ≡ false
  apart v o among =
      subst (λ (x : Owned). (guard_holds v x.rules.up && guard_holds v x.rules.down) ≡ false) (only o among)
      (ap (λ g. guard_holds v (map (λ k. is_high k ∷ []) inputs) && g) (down_holds v inputs ∙ any_or_all v inputs)
      ∙ (ap (λ g. g && not (list_any v inputs)) (up_holds v inputs)
      ∙ one (list_any v inputs)))
    where
      one : (b : Bool) → (b && not b) ≡ false
      one true = refl
      one false = refl

  -- where the output stands still an input may move
  waits : (m : Moment) → fires m.value output_owned ≡ false → (w : Wire) × Contains part.allows w × (may_move m w ≡ true)
  waits m none = by (m.value output) (all_low m.value inputs) refl refl (sym (fires_is m.value) ∙ none)
    where
      first_low : (b a : Bool) → (not b && a) ≡ true → b ≡ false
      first_low false a h = refl
      first_low true a h = absurd (cc h)

      by : (c a : Bool) → m.value output ≡ c → all_low m.value inputs ≡ a → (if c then a else list_any m.value inputs) ≡ false →
          (w : Wire) × Contains part.allows w × (may_move m w ≡ true)
      by true true ec ea f = absurd (cc f)
      by true false ec ea f =
          let (k, among, high) = some_high m.value inputs ea in
          (input_wire k, mapped_among input_wire inputs k among, ap (λ b. if b then m.value output else all_low m.value (output ∷ inputs)) high ∙ ec)
      by false true ec ea f = (
        input_wire n,
        mapped_among input_wire inputs n (0, omega arith, refl),
        ap (λ b. if b then m.value output else all_low m.value (output ∷ inputs)) (first_low (m.value n) (all_low m.value ns) ea)
            ∙ (ap (λ b. not b && all_low m.value inputs) ec ∙ ea),
      )
      by false false ec ea f = absurd (true≢false (one (all_low m.value inputs) (list_any m.value inputs) (any_or_all m.value inputs) ea ∙ f))
        where
          one : (a s : Bool) → a ≡ not s → a ≡ false → true ≡ s
          one a true e h = refl
          one a false e h = absurd (true≢false (sym e ∙ h))

  pub keeps : Keeps part
  keeps = kept_by part (λ m. Unit {0}) (λ v is. tt) (λ m node h move. tt) (λ m h. record {
    promised = λ o among f w here at. promised m o among f w here;
    firm = firm m;
    apart = apart m.value;
    lows = λ low. lone (m.value output) (all_low m.value inputs) low;
    bits = λ low. refl;
    waits = λ none. inl (waits m (none output_owned (0, omega arith, refl)));
  })
    where
      lone : (b a : Bool) → (not b && a) ≡ true → (not b && true) ≡ true
      lone false a h = refl
      lone true a h = absurd (cc h)

pub merge_keeps : (inputs : List ℕ) (output : ℕ) → 0 < length inputs → Keeps (merge_part inputs output)
merge_keeps [] output some = absurd (omega arith)
merge_keeps (n ∷ ns) output some = keeps n ns output
