-- The terms of a guard, from its literals with their leads, and back.
use Rattle.std.specs.Prelude.{ℕ, Bool, true, false, ◌||◌, is_none, List, [], ◌∷◌, ◌++◌}
use Rattle.std.specs.List.{list_any}
use Rattle.prs_file.specs.Indexes.{place_in}
use Rattle.prs_file.specs.declared.forms.Lead.{Lead}
use Rattle.prs_file.specs.declared.forms.Lead.TheVariants.{Rule, And, Or}
use Rattle.prs_file.specs.declared.rule.Led.{Led}
use Rattle.prs_file.specs.Reading.{Signed}

abbrev pub signed_of : Led → Signed
signed_of l = record { high = l.high; name = l.name }

abbrev pub led_by : Lead → Signed → Led
led_by lead s = record { lead = lead; high = s.high; name = s.name }

-- a sign of disjunction leads to the first literal of a further term
abbrev pub begins_term : Lead → Bool
begins_term Rule = false
begins_term And = false
begins_term Or = true

-- a literal prepended to the first term, or as a term of its own, by what leads to the next literal
abbrev pub in_front : Signed → List (List Signed) → List (List Signed)
in_front s [] = (s ∷ []) ∷ []
in_front s (t ∷ ts) = (s ∷ t) ∷ ts

abbrev pub put_by : Lead → Signed → List (List Signed) → List (List Signed)
put_by Rule s ts = in_front s ts
put_by And s ts = in_front s ts
put_by Or s ts = (s ∷ []) ∷ ts

abbrev pub put_before : Signed → List Led → List (List Signed) → List (List Signed)
put_before s [] ts = (s ∷ []) ∷ []
put_before s (k ∷ ks) ts = put_by k.lead s ts

-- literals cut into terms where a sign of disjunction leads
abbrev pub terms_of : List Led → List (List Signed)
terms_of [] = []
terms_of (l ∷ ls) = put_before (signed_of l) ls (terms_of ls)

abbrev pub term_leds : Lead → List Signed → List Led
term_leds lead [] = []
term_leds lead (s ∷ ss) = led_by lead s ∷ term_leds And ss

abbrev pub leds_by : Lead → List (List Signed) → List Led
leds_by lead [] = []
leds_by lead (t ∷ ts) = term_leds lead t ++ leds_by Or ts

-- a rule names a node that there isn't
abbrev pub rule_unknown : List (List ℕ) → List (List Signed) → List ℕ → Bool
rule_unknown names g name =
    is_none (place_in names name) || list_any (list_any (λ (s : Signed). is_none (place_in names s.name))) g
