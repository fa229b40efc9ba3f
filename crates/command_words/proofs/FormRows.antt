-- The rows that `clap` holds of a form's arguments.
use Rattle.std.proofs.Common.{◌≡◌, ◌∙◌, ◌||◌, ◌++◌, ℕ, Bool, true, false, refl, sym, ap, List, [], ◌∷◌, map, Some, None, codes, option_map, append-nil}
use Rattle.std.specs.Prelude.{find}
use Rattle.std.specs.Str.{bytes_eq}
use Rattle.std.proofs.lemmas.List.{map-append}
use Rattle.clap.proofs.WalkLemmas.{find-map, list_any-map}
use Rattle.clap.specs.Walk.{Row, Text, at_row, has_row, more_values, reading_by, used, with_values, without}
use Rattle.clap.specs.Simple.{with_index}
use Rattle.clap.specs.declared.builder.value_parser.Reading.{Reading}
use Rattle.clap.specs.declared.parser.matches.ValueSource.{ValueSource}
use Rattle.clap.specs.declared.parser.matches.ValueSource.TheVariants.{CommandLine}
use Rattle.command_words.specs.PlainForms.{Argument, ArgumentKind, ArgumentsMet, a_word, a_flag, an_option, was_met}
use Rattle.command_words.proofs.FormRules.{filled_rule, of}

-- the row of an argument that was met
abbrev pub made : Argument × Text → Row
made m = record { id = m.0.name; values = m.1 ∷ []; count = None; source = Some CommandLine; reading = reading_by (filled_rule m.0) }

pub made_has : (name : Text) (met : ArgumentsMet) → has_row name (map made met) ≡ was_met name met
made_has name met = sym (list_any-map (λ (r : Row). bytes_eq r.id name) made met)

pub made_found : (name : Text) (met : ArgumentsMet) →
    find (λ (r : Row). bytes_eq r.id name) (map made met) ≡ option_map made (find (λ (m : Argument × Text). bytes_eq m.0.name name) met)
made_found name met = sym (find-map (λ (r : Row). bytes_eq r.id name) made met)

-- a row of another name stays where it is, and the new one comes last
pub unmet : (id : Text) (change : Row → List Row) (missing rows : List Row) → has_row id rows ≡ false → at_row id change missing rows ≡ rows ++ missing
unmet id change missing [] none = refl
unmet id change missing (r ∷ rs) none = go (bytes_eq r.id id) refl none (unmet id change missing rs)
  where
    go : (b : Bool) → bytes_eq r.id id ≡ b → (b || has_row id rs) ≡ false → (has_row id rs ≡ false → at_row id change missing rs ≡ rs ++ missing)
        → at_row id change missing (r ∷ rs) ≡ (r ∷ rs) ++ missing
    go true is none more = absurd (cc none)
    go false is none more = rw is (ap (λ xs. r ∷ xs) (more none))

new_row : (id : Text) (how : Reading) (s : ValueSource) (values : List Text) (rows : List Row) → has_row id rows ≡ false
    → with_values id how s values (without id rows) ≡ rows ++ record { id = id; values = values; count = None; source = Some s; reading = how } ∷ []
new_row id how s values rows none =
    ap (λ (rs : List Row). with_values id how s values rs) (unmet id (λ r. []) [] rows none ∙ append-nil rows) ∙ unmet id (more_values s values) _ rows none

-- what `clap` reads for a use of the argument with this text
abbrev pub uses : ArgumentKind → Text → List Text
uses a_flag text = []
uses _ text = text ∷ []

-- a flag has no other text
abbrev pub Fits : ArgumentKind → Text → Type 0
Fits a_flag text = text ≡ codes "true"
Fits _ text = Unit {0}

pub used_once : (j : ℕ) (name : Text) (k : ArgumentKind) (text : Text) (met : ArgumentsMet) → Fits k text → was_met name met ≡ false →
    used (with_index j (filled_rule (of name k))) (uses k text) (map made met) ≡ map made (met ++ (of name k, text) ∷ [])
used_once j name k text met fits none = go k fits (made_has name met ∙ none) ∙ sym (map-append made met ((of name k, text) ∷ []))
  where
    go : (k : ArgumentKind) → Fits k text → has_row name (map made met) ≡ false →
        used (with_index j (filled_rule (of name k))) (uses k text) (map made met) ≡ map made met ++ made (of name k, text) ∷ []
    go a_word fits none = new_row name _ CommandLine (text ∷ []) (map made met) none
    go a_flag fits none = rw fits (new_row name _ CommandLine (codes "true" ∷ []) (map made met) none)
    go (an_option needed) fits none = new_row name _ CommandLine (text ∷ []) (map made met) none
