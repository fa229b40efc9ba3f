-- What holds of a guard's literals, counted or tested without its terms.
use Rattle.std.proofs.Common.{◌≡◌, ℕ, ◌+◌, Bool, true, false, List, [], ◌∷◌, length, refl, ap, ◌∙◌, arith}
use Rattle.std.specs.Prelude.{◌||◌, sum_by}
use Rattle.std.specs.List.{list_any}
use Rattle.std.proofs.lemmas.List.Sums.{sum_by-cons}
use Rattle.prs_file.specs.declared.forms.Lead.{Lead}
use Rattle.prs_file.specs.declared.forms.Lead.TheVariants.{Rule, And, Or}
use Rattle.prs_file.specs.declared.rule.Led.{Led}
use Rattle.prs_file.specs.Reading.{Signed}
use Rattle.prs_file.specs.Terms.{signed_of, put_by, terms_of}

or_nothing : (a b : Bool) → ((a || false) || b) ≡ (a || b)
or_nothing true b = refl
or_nothing false b = refl

or_assoc : (a b d : Bool) → ((a || b) || d) ≡ (a || (b || d))
or_assoc true b d = refl
or_assoc false b d = refl

put_any : (p : Signed → Bool) (lead : Lead) (s : Signed) (g : List (List Signed)) → list_any (list_any p) (put_by lead s g) ≡ (p s || list_any (list_any p) g)
put_any p Or s g = or_nothing (p s) (list_any (list_any p) g)
put_any p Rule s [] = or_nothing (p s) false
put_any p And s [] = or_nothing (p s) false
put_any p Rule s (t ∷ ts) = or_assoc (p s) (list_any p t) (list_any (list_any p) ts)
put_any p And s (t ∷ ts) = or_assoc (p s) (list_any p t) (list_any (list_any p) ts)

pub any_terms : (p : Signed → Bool) (ls : List Led) → list_any (list_any p) (terms_of ls) ≡ list_any (λ (l : Led). p (signed_of l)) ls
any_terms p [] = refl
any_terms p (l ∷ []) = or_nothing (p (signed_of l)) false
any_terms p (l ∷ k ∷ ks) = put_any p k.lead (signed_of l) (terms_of (k ∷ ks)) ∙ ap (λ b. p (signed_of l) || b) (any_terms p (k ∷ ks))

abbrev literals : List (List Signed) → ℕ
literals g = sum_by (λ (t : List Signed). length t) g

literals_cons : (t : List Signed) (ts : List (List Signed)) → literals (t ∷ ts) ≡ length t + literals ts
literals_cons t ts = sum_by-cons (λ (t : List Signed). length t) t ts

put_count : (lead : Lead) (s : Signed) (g : List (List Signed)) → literals (put_by lead s g) ≡ literals g + 1
put_count Or s g = omega (arith, literals_cons (s ∷ []) g)
put_count Rule s [] = refl
put_count And s [] = refl
put_count Rule s (t ∷ ts) = omega (arith, literals_cons (s ∷ t) ts, literals_cons t ts)
put_count And s (t ∷ ts) = omega (arith, literals_cons (s ∷ t) ts, literals_cons t ts)

pub count_terms : (ls : List Led) → literals (terms_of ls) ≡ length ls
count_terms [] = refl
count_terms (l ∷ []) = refl
count_terms (l ∷ k ∷ ks) = omega (arith, put_count k.lead (signed_of l) (terms_of (k ∷ ks)), count_terms (k ∷ ks))
