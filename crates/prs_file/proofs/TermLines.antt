-- A rule's line by its terms.
use Rattle.std.proofs.Common.{◌≡◌, ◌≢◌, ℕ, ◌<◌, Bool, List, [], ◌∷◌, ◌++◌, length, refl, ap, sym, ◌∙◌, subst, arith}
use Rattle.std.specs.Prelude.{All, codes}
use Rattle.std.specs.List.{flat_map, join_by, concat}
use Rattle.std.proofs.lemmas.List.{append_assoc, append-nil}
use Rattle.std.proofs.lemmas.List.Elements.{All-head, All-tail, All-nil, All-cons, All-append}
use Rattle.std.proofs.lemmas.List.Concat.{flat_map-append}
use Rattle.chp_base.specs.Names.{IsNodeName}
use Rattle.prs_file.specs.declared.forms.Lead.{Lead}
use Rattle.prs_file.specs.declared.forms.Lead.TheVariants.{Rule, And, Or}
use Rattle.prs_file.specs.declared.rule.Led.{Led}
use Rattle.prs_file.specs.Spelling.{lead_spelling, end_spelling}
use Rattle.prs_file.specs.Reading.{Signed, IsForm, IsTermForm, form_spelling, signed_spelling}
use Rattle.prs_file.specs.Reading.Form.{rule}
use Rattle.prs_file.specs.RuleForms.{led_spelling, leds_spelling, rule_line_of, AllLed, IsRuleForm}
use Rattle.prs_file.specs.Terms.{signed_of, led_by, put_by, terms_of, term_leds, leds_by}
use Rattle.prs_file.proofs.RuleLines.{body, led_is}

abbrev term_text : List Signed → List ℕ
term_text t = join_by signed_spelling (codes " & ") t

abbrev guard_text : List (List Signed) → List ℕ
guard_text g = join_by term_text (codes " | ") g

abbrev and_texts : List Signed → List ℕ
and_texts ss = flat_map (λ y. codes " & " ++ signed_spelling y) ss

abbrev or_texts : List (List Signed) → List ℕ
or_texts ts = flat_map (λ y. codes " | " ++ term_text y) ts

-- the first term has a literal
record Shape (g : List (List Signed)) : Type 0 where
  first : Signed
  more : List Signed
  others : List (List Signed)
  is : g ≡ (first ∷ more) ∷ others

shape_put : (lead : Lead) (s : Signed) (g : List (List Signed)) → Shape (put_by lead s g)
shape_put Rule s [] = record { first = s; more = []; others = []; is = refl }
shape_put Rule s (t ∷ ts) = record { first = s; more = t; others = ts; is = refl }
shape_put And s [] = record { first = s; more = []; others = []; is = refl }
shape_put And s (t ∷ ts) = record { first = s; more = t; others = ts; is = refl }
shape_put Or s ts = record { first = s; more = []; others = ts; is = refl }

shape_of : (l : Led) (ls : List Led) → Shape (terms_of (l ∷ ls))
shape_of l [] = record { first = signed_of l; more = []; others = []; is = refl }
shape_of l (k ∷ ks) = shape_put k.lead (signed_of l) (terms_of (k ∷ ks))

-- one literal more at the front
and_front : (s x : Signed) (xs : List Signed) (ts : List (List Signed)) →
    signed_spelling s ++ (codes " & " ++ guard_text ((x ∷ xs) ∷ ts)) ≡ guard_text ((s ∷ x ∷ xs) ∷ ts)
and_front s x xs ts =
    sym (append_assoc (signed_spelling s) ((codes " & " ++ signed_spelling x) ++ and_texts xs) (or_texts ts)
    ∙ ap (λ t. signed_spelling s ++ t) (append_assoc (codes " & " ++ signed_spelling x) (and_texts xs) (or_texts ts)
    ∙ ap (λ t. codes " & " ++ t) (sym (append_assoc (signed_spelling x) (and_texts xs) (or_texts ts)))))

or_front : (s : Signed) (t : List Signed) (ts : List (List Signed)) → signed_spelling s ++ (codes " | " ++ guard_text (t ∷ ts)) ≡ guard_text ((s ∷ []) ∷ t ∷ ts)
or_front s t ts = ap (λ xs. xs ++ (codes " | " ++ guard_text (t ∷ ts))) (sym (append-nil (signed_spelling s)))

put_text : (lead : Lead) (s : Signed) (g : List (List Signed)) → lead ≢ Rule → Shape g →
    signed_spelling s ++ (lead_spelling lead ++ guard_text g) ≡ guard_text (put_by lead s g)
put_text Rule s g apart shape = absurd (apart refl)
put_text And s g apart shape = subst (λ g. signed_spelling s ++ (lead_spelling And ++ guard_text g) ≡ guard_text (put_by And s g)) (sym shape.is)
    (and_front s shape.first shape.more shape.others)
put_text Or s g apart shape = subst (λ g. signed_spelling s ++ (lead_spelling Or ++ guard_text g) ≡ guard_text (put_by Or s g)) (sym shape.is)
    (or_front s (shape.first ∷ shape.more) shape.others)

-- the literals without the first lead are the guard
guard_told : (l : Led) (ls : List Led) → All (λ (k : Led). k.lead ≢ Rule) ls → body l ++ leds_spelling ls ≡ guard_text (terms_of (l ∷ ls))
guard_told l [] further = ap (λ t. t ++ []) (sym (append-nil (body l)))
guard_told l (k ∷ ks) further =
    ap (λ t. body l ++ (t ++ leds_spelling ks)) (led_is k) ∙ ap (λ t. body l ++ t) (append_assoc (lead_spelling k.lead) (body k) (leds_spelling ks))
    ∙ ap (λ t. body l ++ (lead_spelling k.lead ++ t)) (guard_told k ks (All-tail (λ (k : Led). k.lead ≢ Rule) k ks further))
    ∙ put_text k.lead (signed_of l) (terms_of (k ∷ ks)) (All-head (λ (k : Led). k.lead ≢ Rule) k ks further) (shape_of k ks)

whole_line : (g name : List ℕ) (up : Bool) → (codes "rule " ++ g) ++ end_spelling name up ≡ concat (codes "rule " ∷ g ∷ end_spelling name up ∷ [])
whole_line g name up = append_assoc (codes "rule ") g (end_spelling name up) ∙ ap (λ t. codes "rule " ++ (g ++ t)) (sym (append-nil (end_spelling name up)))

pub line_is : (ls : List Led) (name : List ℕ) (up : Bool) → AllLed ls → rule_line_of ls name up ≡ form_spelling (rule (terms_of ls) name up)
line_is [] name up some = absurd some
line_is (l ∷ ls) name up leads =
    let front : leds_spelling (l ∷ ls) ≡ codes "rule " ++ guard_text (terms_of (l ∷ ls)) =
    ap (λ t. t ++ leds_spelling ls) (led_is l ∙ ap (λ k. lead_spelling k ++ body l) leads.0) ∙ append_assoc (codes "rule ") (body l) (leds_spelling ls)
    ∙ ap (λ t. codes "rule " ++ t) (guard_told l ls leads.1) in
    ap (λ t. t ++ end_spelling name up) front ∙ whole_line (guard_text (terms_of (l ∷ ls))) name up

abbrev Named : Signed → Type 0
Named s = IsNodeName s.name

one_term : (s : Signed) → Named s → IsTermForm (s ∷ [])
one_term s named = record { some = omega arith; names = All-cons Named s [] named (All-nil Named) }

put_form : (lead : Lead) (s : Signed) (g : List (List Signed)) → Named s → All IsTermForm g → All IsTermForm (put_by lead s g)
put_form Or s g named all = All-cons IsTermForm (s ∷ []) g (one_term s named) all
put_form Rule s [] named all = All-cons IsTermForm (s ∷ []) [] (one_term s named) (All-nil IsTermForm)
put_form And s [] named all = All-cons IsTermForm (s ∷ []) [] (one_term s named) (All-nil IsTermForm)
put_form Rule s (t ∷ ts) named all =
    All-cons IsTermForm (s ∷ t) ts (record { some = omega arith; names = All-cons Named s t named (All-head IsTermForm t ts all).names })
    (All-tail IsTermForm t ts all)
put_form And s (t ∷ ts) named all =
    All-cons IsTermForm (s ∷ t) ts (record { some = omega arith; names = All-cons Named s t named (All-head IsTermForm t ts all).names })
    (All-tail IsTermForm t ts all)

terms_form : (ls : List Led) → All (λ (l : Led). IsNodeName l.name) ls → All IsTermForm (terms_of ls)
terms_form [] all = All-nil IsTermForm
terms_form (l ∷ []) all = All-cons IsTermForm (signed_of l ∷ []) [] (one_term (signed_of l) (All-head (λ (l : Led). IsNodeName l.name) l [] all))
    (All-nil IsTermForm)
terms_form (l ∷ k ∷ ks) all =
    put_form k.lead (signed_of l) (terms_of (k ∷ ks)) (All-head (λ (l : Led). IsNodeName l.name) l (k ∷ ks) all)
    (terms_form (k ∷ ks) (All-tail (λ (l : Led). IsNodeName l.name) l (k ∷ ks) all))

some_terms : (ls : List Led) → AllLed ls → 0 < length (terms_of ls)
some_terms [] some = absurd some
some_terms (l ∷ ls) leads = rw (shape_of l ls).is (omega arith)

pub form_is : (ls : List Led) (name : List ℕ) (up : Bool) → IsRuleForm ls name → IsForm (rule (terms_of ls) name up)
form_is ls name up form = (some_terms ls form.leads, terms_form ls form.names, form.node)

-- and back: each rule's line is one of literals with their leads

abbrev Further : Led → Type 0
Further k = k.lead ≢ Rule

ands_told : (ss : List Signed) → leds_spelling (term_leds And ss) ≡ and_texts ss
ands_told [] = refl
ands_told (s ∷ ss) = ap (λ t. t ++ leds_spelling (term_leds And ss)) (led_is (led_by And s)) ∙ ap (λ t. (codes " & " ++ signed_spelling s) ++ t) (ands_told ss)

term_told : (lead : Lead) (t : List Signed) → 0 < length t → leds_spelling (term_leds lead t) ≡ lead_spelling lead ++ term_text t
term_told lead [] some = absurd (omega arith)
term_told lead (s ∷ ss) some =
    ap (λ t. t ++ leds_spelling (term_leds And ss)) (led_is (led_by lead s)) ∙ ap (λ t. (lead_spelling lead ++ signed_spelling s) ++ t) (ands_told ss)
    ∙ append_assoc (lead_spelling lead) (signed_spelling s) (and_texts ss)

ors_told : (ts : List (List Signed)) → All IsTermForm ts → leds_spelling (leds_by Or ts) ≡ or_texts ts
ors_told [] all = refl
ors_told (t ∷ ts) all =
    flat_map-append led_spelling (term_leds Or t) (leds_by Or ts)
    ∙ ap (λ x. x ++ leds_spelling (leds_by Or ts)) (term_told Or t (All-head IsTermForm t ts all).some)
    ∙ ap (λ x. (codes " | " ++ term_text t) ++ x) (ors_told ts (All-tail IsTermForm t ts all))

guard_spelled : (t : List Signed) (ts : List (List Signed)) → All IsTermForm (t ∷ ts) → leds_spelling (leds_by Rule (t ∷ ts)) ≡ codes "rule "
    ++ guard_text (t ∷ ts)
guard_spelled t ts all =
    flat_map-append led_spelling (term_leds Rule t) (leds_by Or ts)
    ∙ ap (λ x. x ++ leds_spelling (leds_by Or ts)) (term_told Rule t (All-head IsTermForm t ts all).some)
    ∙ ap (λ x. (codes "rule " ++ term_text t) ++ x) (ors_told ts (All-tail IsTermForm t ts all)) ∙ append_assoc (codes "rule ") (term_text t) (or_texts ts)

and_no_rule : And ≢ Rule
and_no_rule e = absurd (cc e)

or_no_rule : Or ≢ Rule
or_no_rule e = absurd (cc e)

term_further : (lead : Lead) (t : List Signed) → lead ≢ Rule → All Further (term_leds lead t)
term_further lead [] apart = All-nil Further
term_further lead (s ∷ ss) apart = All-cons Further (led_by lead s) (term_leds And ss) apart (term_further And ss and_no_rule)

terms_further : (ts : List (List Signed)) → All Further (leds_by Or ts)
terms_further [] = All-nil Further
terms_further (t ∷ ts) = All-append Further (term_leds Or t) (leds_by Or ts) (term_further Or t or_no_rule) (terms_further ts)

abbrev NamedLed : Led → Type 0
NamedLed l = IsNodeName l.name

term_named : (lead : Lead) (t : List Signed) → All Named t → All NamedLed (term_leds lead t)
term_named lead [] all = All-nil NamedLed
term_named lead (s ∷ ss) all = All-cons NamedLed (led_by lead s) (term_leds And ss) (All-head Named s ss all) (term_named And ss (All-tail Named s ss all))

terms_named : (lead : Lead) (ts : List (List Signed)) → All IsTermForm ts → All NamedLed (leds_by lead ts)
terms_named lead [] all = All-nil NamedLed
terms_named lead (t ∷ ts) all =
    All-append NamedLed (term_leds lead t) (leds_by Or ts) (term_named lead t (All-head IsTermForm t ts all).names)
    (terms_named Or ts (All-tail IsTermForm t ts all))

leads_of : (t : List Signed) (ts : List (List Signed)) → 0 < length t → AllLed (leds_by Rule (t ∷ ts))
leads_of [] ts some = absurd (omega arith)
leads_of (s ∷ ss) ts some = (refl, All-append Further (term_leds And ss) (leds_by Or ts) (term_further And ss and_no_rule) (terms_further ts))

pub line_told : (t : List Signed) (ts : List (List Signed)) (name : List ℕ) (up : Bool) → All IsTermForm (t ∷ ts) →
    form_spelling (rule (t ∷ ts) name up) ≡ rule_line_of (leds_by Rule (t ∷ ts)) name up
line_told t ts name up all = sym (whole_line (guard_text (t ∷ ts)) name up) ∙ ap (λ x. x ++ end_spelling name up) (sym (guard_spelled t ts all))

pub leds_form : (t : List Signed) (ts : List (List Signed)) (name : List ℕ) (up : Bool) → IsForm (rule (t ∷ ts) name up) →
    IsRuleForm (leds_by Rule (t ∷ ts)) name
leds_form t ts name up form = record {
  leads = leads_of t ts (All-head IsTermForm t ts form.1).some;
  names = terms_named Rule (t ∷ ts) form.1;
  node = form.2;
}

pub no_rule : (line : List ℕ) → ((leds : List Led) (name : List ℕ) (up : Bool) → IsRuleForm leds name → line ≡ rule_line_of leds name up → ⊥) →
    (g : List (List Signed)) (name : List ℕ) (up : Bool) → IsForm (rule g name up) → line ≡ form_spelling (rule g name up) → ⊥
no_rule line none [] name up form says = absurd (omega (arith, form.0))
no_rule line none (t ∷ ts) name up form says =
    none (leds_by Rule (t ∷ ts)) name up (leds_form t ts name up form) (says ∙ line_told t ts name up form.1)
