-- The terms of literals with one more at the end.
use Rattle.std.proofs.Common.{◌≡◌, List, [], ◌∷◌, ◌++◌, refl, ap, sym, ◌∙◌, subst}
use Rattle.prs_file.specs.declared.forms.Lead.{Lead}
use Rattle.prs_file.specs.declared.forms.Lead.TheVariants.{Rule, And, Or}
use Rattle.prs_file.specs.declared.rule.Led.{Led}
use Rattle.prs_file.specs.Named.{add_by}
use Rattle.prs_file.specs.Reading.{Signed}
use Rattle.prs_file.specs.Terms.{signed_of, put_by, terms_of}

-- the first and the last literal don't meddle with each other
put_add : (lead further : Lead) (s r : Signed) (t : List Signed) (ts : List (List Signed)) →
    put_by lead s (add_by further r (t ∷ ts)) ≡ add_by further r (put_by lead s (t ∷ ts))
put_add Or Rule s r t ts = refl
put_add Or And s r t ts = refl
put_add Or Or s r t ts = refl
put_add Rule Or s r t ts = refl
put_add And Or s r t ts = refl
put_add Rule Rule s r t [] = refl
put_add Rule And s r t [] = refl
put_add And Rule s r t [] = refl
put_add And And s r t [] = refl
put_add Rule Rule s r t (u ∷ us) = refl
put_add Rule And s r t (u ∷ us) = refl
put_add And Rule s r t (u ∷ us) = refl
put_add And And s r t (u ∷ us) = refl

two_terms : (lead : Lead) (s r : Signed) → put_by lead s ((r ∷ []) ∷ []) ≡ add_by lead r ((s ∷ []) ∷ [])
two_terms Rule s r = refl
two_terms And s r = refl
two_terms Or s r = refl

record Some (g : List (List Signed)) : Type 0 where
  first : List Signed
  others : List (List Signed)
  is : g ≡ first ∷ others

put_some : (lead : Lead) (s : Signed) (g : List (List Signed)) → Some (put_by lead s g)
put_some Rule s [] = record { first = s ∷ []; others = []; is = refl }
put_some Rule s (t ∷ ts) = record { first = s ∷ t; others = ts; is = refl }
put_some And s [] = record { first = s ∷ []; others = []; is = refl }
put_some And s (t ∷ ts) = record { first = s ∷ t; others = ts; is = refl }
put_some Or s ts = record { first = s ∷ []; others = ts; is = refl }

some_terms : (l : Led) (ls : List Led) → Some (terms_of (l ∷ ls))
some_terms l [] = record { first = signed_of l ∷ []; others = []; is = refl }
some_terms l (k ∷ ks) = put_some k.lead (signed_of l) (terms_of (k ∷ ks))

pub terms_push : (l : Led) (ls : List Led) (k : Led) → terms_of (l ∷ (ls ++ k ∷ [])) ≡ add_by k.lead (signed_of k) (terms_of (l ∷ ls))
terms_push l [] k = two_terms k.lead (signed_of l) (signed_of k)
terms_push l (m ∷ ms) k =
    let some = some_terms m ms in
    ap (put_by m.lead (signed_of l)) (terms_push m ms k)
    ∙ subst (λ g. put_by m.lead (signed_of l) (add_by k.lead (signed_of k) g) ≡ add_by k.lead (signed_of k) (put_by m.lead (signed_of l) g)) (sym some.is)
    (put_add m.lead k.lead (signed_of l) (signed_of k) some.first some.others)
