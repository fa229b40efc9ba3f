-- What is kept of the nodes of a list.
use Rattle.std.proofs.Common.{◌≡◌, ℕ, ◌<◌, Bool, true, false, List, [], ◌∷◌, ◌++◌, length, set, refl, sym, ap, subst, ◌∙◌, arith}
use Rattle.std.specs.Prelude.{◌&&◌, ◌||◌, ◌==◌, Option, None, Some, is_some}
use Rattle.std.proofs.lemmas.Bool.{eqb-true, eqb-false, and_parts}
use Rattle.std.proofs.lemmas.List.{get_or-set_same, get_or-set_other, length-set}
use Rattle.std.proofs.lemmas.List.Folds.{list_any-append}
use Rattle.prs_core.specs.Moves.{high}
use Rattle.env_script.specs.Runs.{move_enabled}
use Rattle.event_sim.specs.Locality.{is_among}
use Rattle.event_sim.specs.Stages.{StageValue, now_of}
use Rattle.delay_script.specs.declared.due.Due.{Due}
use Rattle.delay_script.specs.DelayTables.{DelayTable}
use Rattle.delay_script.specs.Dues.{due_at, fresh_due, filled_due, AreFilled}

pub filled_none : (s : StageValue) (d : DelayTable) (made : Due) (dues : List (Option Due)) → AreFilled s d made [] dues dues
filled_none s d made dues = record { count = refl; each = λ n within. refl }

twice : (a b e : Bool) (o : Option Due) (fresh : Due) → filled_due (b && e) (filled_due (a && e) o fresh) fresh ≡ filled_due ((a || b) && e) o fresh
twice true true true None fresh = refl
twice true true true (Some due) fresh = refl
twice true false true o fresh = refl
twice false b e o fresh = refl
twice true true false o fresh = refl
twice true false false o fresh = refl

pub filled_append : (s : StageValue) (d : DelayTable) (made : Due) (xs ys : List ℕ) (was mid now : List (Option Due)) → AreFilled s d made xs was mid →
    AreFilled s d made ys mid now → AreFilled s d made (xs ++ ys) was now
filled_append s d made xs ys was mid now one two = record {
  count = two.count ∙ one.count;
  each = λ n within.
      let on : Bool = move_enabled s.net s.script (now_of s) n in
      let fresh : Due = fresh_due d (high s.values) made n in
      two.each n (omega (arith, one.count)) ∙ ap (λ (o : Option Due). filled_due (is_among ys n && on) o fresh) (one.each n within)
      ∙ twice (is_among xs n) (is_among ys n) on (due_at was n) fresh
      ∙ ap (λ (b : Bool). filled_due (b && on) (due_at was n) fresh) (sym (list_any-append (λ m. m == n) xs ys));
}

unchanged : (b : Bool) (o : Option Due) (fresh : Due) → (b ≡ true → is_some o ≡ true) → o ≡ filled_due b o fresh
unchanged false o fresh some = refl
unchanged true (Some due) fresh some = refl
unchanged true None fresh some = absurd (cc (some refl))

or_nothing : (b : Bool) → (b || false) ≡ b
or_nothing true = refl
or_nothing false = refl

-- one node that isn't enabled, or is kept
pub filled_still : (s : StageValue) (d : DelayTable) (made : Due) (x : ℕ) (dues : List (Option Due)) →
    (move_enabled s.net s.script (now_of s) x ≡ true → is_some (due_at dues x) ≡ true) → AreFilled s d made (x ∷ []) dues dues
filled_still s d made x dues some = record {
  count = refl;
  each = λ n within. unchanged _ (due_at dues n) _ (λ on. here n on);
}
  where
    here : (n : ℕ) → (((x == n) || false) && move_enabled s.net s.script (now_of s) n) ≡ true → is_some (due_at dues n) ≡ true
    here n on =
        let both = and_parts ((x == n) || false) (move_enabled s.net s.script (now_of s) n) on in
        let same : x ≡ n = eqb-true x n (sym (or_nothing (x == n)) ∙ both.0) in
        ap (λ (k : ℕ). is_some (due_at dues k)) (sym same)
        ∙ some (ap (λ (k : ℕ). move_enabled s.net s.script (now_of s) k) same ∙ both.1)

-- one that is enabled and isn't
pub filled_one : (s : StageValue) (d : DelayTable) (made : Due) (x : ℕ) (was now : List (Option Due)) → x < length was →
    move_enabled s.net s.script (now_of s) x ≡ true → due_at was x ≡ None → now ≡ set was x (Some (fresh_due d (high s.values) made x)) →
    AreFilled s d made (x ∷ []) was now
filled_one s d made x was now within on none put = record {
  count = ap length put ∙ length-set was x _;
  each = λ n less. ap (λ (ds : List (Option Due)). due_at ds n) put ∙ by_same n (x == n) refl;
}
  where
    fresh : ℕ → Due
    fresh n = fresh_due d (high s.values) made n

    at_x : due_at (set was x (Some (fresh x))) x ≡ filled_due (true && move_enabled s.net s.script (now_of s) x) (due_at was x) (fresh x)
    at_x = get_or-set_same was x (Some (fresh x)) None within
        ∙ sym (ap (λ (b : Bool). filled_due b (due_at was x) (fresh x)) on ∙ ap (λ (o : Option Due). filled_due true o (fresh x)) none)

    by_same : (n : ℕ) (b : Bool) → (x == n) ≡ b →
        due_at (set was x (Some (fresh x))) n ≡ filled_due ((b || false) && move_enabled s.net s.script (now_of s) n) (due_at was n) (fresh n)
    by_same n true e =
        subst (λ (k : ℕ). due_at (set was x (Some (fresh x))) k ≡ filled_due (true && move_enabled s.net s.script (now_of s) k) (due_at was k) (fresh k))
        (eqb-true x n e) at_x
    by_same n false e = get_or-set_other was x n (Some (fresh x)) None (λ same. eqb-false x n e (sym same))

pub is_none : (o : Option Due) → is_some o ≡ false → o ≡ None
is_none None e = refl
is_none (Some due) e = absurd (cc e)
