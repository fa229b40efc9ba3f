-- What the rows at the end of a parse give each argument of a form.
use Rattle.std.proofs.Common.{◌≡◌, ◌∙◌, ◌&&◌, ◌||◌, ◌++◌, ℕ, Bool, cond, true, false, not, refl, sym, ap, List, [], ◌∷◌, map, Option, Some, None, is_some, codes, option_map}
use Rattle.std.specs.Prelude.{find, fold, option_and_then, slice_get}
use Rattle.std.specs.List.{list_all}
use Rattle.std.specs.Option.{option_map_or, option_or}
use Rattle.clap.specs.Facts.{explicit_source}
use Rattle.std.specs.Str.{bytes_eq}
use Rattle.std.proofs.lemmas.List.Folds.{find-append}
use Rattle.std.proofs.lemmas.Slice.Eq.{bytes_eq-Decides}
use Rattle.clap.specs.Walk.{Row, Rule, Text, first_of, has_row, more_values, reading_by, with_default}
use Rattle.clap.specs.Simple.{index_after, with_index}
use Rattle.clap.specs.Takes.{is_given}
use Rattle.clap.specs.declared.parser.matches.ValueSource.TheVariants.{DefaultValue}
use Rattle.command_words.specs.PlainForms.{Argument, ArgumentKind, ArgumentsMet, a_word, a_flag, an_option, told_text, text_met, told_texts}
use Rattle.command_words.specs.BuiltForms.{is_needed, rule_for}
use Rattle.command_words.proofs.FormRules.{both_true, filled_rule, of, rules_from}
use Rattle.command_words.proofs.FormRows.{made, made_found, unmet}

abbrev pub row_at : Text → List Row → Option Row
row_at name rows = find (λ (r : Row). bytes_eq r.id name) rows

has_is : (name : Text) (rows : List Row) → has_row name rows ≡ is_some (row_at name rows)
has_is name [] = refl
has_is name (r ∷ rs) = go (bytes_eq r.id name) (has_is name rs)
  where
    go : (b : Bool) → has_row name rs ≡ is_some (row_at name rs) → (b || has_row name rs) ≡ is_some (cond b (Some r) (row_at name rs))
    go true more = refl
    go false more = more

-- ---- a flag that wasn't met gets a row

abbrev pub is_a_flag : ArgumentKind → Bool
is_a_flag a_flag = true
is_a_flag _ = false

abbrev pub flag_called : List Argument → Text → Option Argument
flag_called arguments name = find (λ (a : Argument). is_a_flag a.kind && bytes_eq a.name name) arguments

abbrev default_row : Argument → Row
default_row a = record { id = a.name; values = codes "false" ∷ []; count = None; source = Some DefaultValue; reading = reading_by (filled_rule a) }

abbrev default_at : List Argument → Text → Option Row
default_at arguments name = option_map default_row (flag_called arguments name)

same_either : (b : Bool) (rows : List Row) → cond b rows rows ≡ rows
same_either true rows = refl
same_either false rows = refl

or_none : (o : Option Row) → o ≡ option_or o None
or_none None = refl
or_none (Some r) = refl

-- the row of a flag that was met stays the first
module _ (name own : Text) (rows : List Row) (more : Option Row) where
  stays : has_row own rows ≡ true → option_or (row_at name rows) more
      ≡ option_or (row_at name rows) (cond (bytes_eq own name) (Some (default_row (of own a_flag))) more)
  stays met = go (bytes_eq own name) refl (row_at name rows) refl
    where
      go : (b : Bool) → bytes_eq own name ≡ b → (o : Option Row) → row_at name rows ≡ o →
          option_or o more ≡ option_or o (cond b (Some (default_row (of own a_flag))) more)
      go true is (Some r) at = refl
      go true is None at =
          let same : own ≡ name = (bytes_eq-Decides own name).0 is in
          let bad : true ≡ false = sym met ∙ (has_is own rows ∙ (ap (λ t. is_some (row_at t rows)) same ∙ ap (λ (o : Option Row). is_some o) at)) in
          absurd (cc bad)
      go false is o at = refl

  comes_last : option_or (row_at name (rows ++ default_row (of own a_flag) ∷ [])) more
      ≡ option_or (row_at name rows) (cond (bytes_eq own name) (Some (default_row (of own a_flag))) more)
  comes_last = ap (λ (o : Option Row). option_or o more) (find-append (λ (q : Row). bytes_eq q.id name) rows (default_row (of own a_flag) ∷ []))
      ∙ go (row_at name rows) (bytes_eq own name)
    where
      go : (o : Option Row) (b : Bool) → option_or (option_or o (cond b (Some (default_row (of own a_flag))) None)) more
          ≡ option_or o (cond b (Some (default_row (of own a_flag))) more)
      go (Some r) b = refl
      go None true = refl
      go None false = refl

one_ends : (i : ℕ) (own name : Text) (k : ArgumentKind) (rows : List Row) (more : Option Argument) (ended : List Row → List Row)
    → ((now : List Row) → row_at name (ended now) ≡ option_or (row_at name now) (option_map default_row more))
    → row_at name (ended (with_default rows (with_index i (filled_rule (of own k)))))
    ≡ option_or (row_at name rows) (option_map default_row (cond (is_a_flag k && bytes_eq own name) (Some (of own k)) more))
one_ends i own name a_word rows more ended next = ap (λ (now : List Row). row_at name (ended now)) (same_either (has_row own rows) rows) ∙ next rows
one_ends i own name (an_option needed) rows more ended next = ap (λ (now : List Row). row_at name (ended now)) (same_either (has_row own rows) rows) ∙ next rows
one_ends i own name a_flag rows more ended next = go (has_row own rows) refl ∙ pushed_in (bytes_eq own name)
  where
    pushed_in : (b : Bool) → option_or (row_at name rows) (cond b (Some (default_row (of own a_flag))) (option_map default_row more))
        ≡ option_or (row_at name rows) (option_map default_row (cond b (Some (of own a_flag)) more))
    pushed_in true = refl
    pushed_in false = refl

    go : (b : Bool) → has_row own rows ≡ b → row_at name (ended (with_default rows (with_index i (filled_rule (of own a_flag)))))
        ≡ option_or (row_at name rows) (cond (bytes_eq own name) (Some (default_row (of own a_flag))) (option_map default_row more))
    go true met = rw met (next rows ∙ stays name own rows (option_map default_row more) met)
    go false none =
        let last : with_default rows (with_index i (filled_rule (of own a_flag))) ≡ rows ++ default_row (of own a_flag) ∷ [] =
        rw none (unmet own (more_values DefaultValue (codes "false" ∷ [])) (default_row (of own a_flag) ∷ []) rows none) in
        ap (λ (now : List Row). row_at name (ended now)) last
        ∙ (next (rows ++ default_row (of own a_flag) ∷ []) ∙ comes_last name own rows (option_map default_row more))

pub ends : (i : ℕ) (arguments : List Argument) (name : Text) (rows : List Row)
    → row_at name (fold with_default rows (rules_from i arguments)) ≡ option_or (row_at name rows) (default_at arguments name)
ends i [] name rows = or_none (row_at name rows)
ends i (a ∷ rest) name rows = one_ends i a.name name a.kind rows (flag_called rest name)
    (λ now. fold with_default now (rules_from (index_after i (rule_for a)) rest)) (λ now. ends (index_after i (rule_for a)) rest name now)

-- ---- the values

-- a flag of this name is there where the argument is one
abbrev pub tells_flags : List Argument → Argument → Bool
tells_flags arguments a = cond (is_a_flag a.kind) (is_some (flag_called arguments a.name)) (not (is_some (flag_called arguments a.name)))

one_value : (k : ArgumentKind) (met : Option (Argument × Text)) (flag : Option Argument) → cond (is_a_flag k) (is_some flag) (not (is_some flag)) ≡ true
    → (o : Option Row) → o ≡ option_or (option_map made met) (option_map default_row flag)
    → cond (not (is_needed k) || option_map_or (λ (r : Row). explicit_source r.source) o false)
    (Some (option_and_then (λ (r : Row). slice_get r.values 0) o)) None
    ≡ told_text k (option_map (λ (m : Argument × Text). m.1) met)
one_value a_word None None test o is = rw is refl
one_value a_word None (Some f) test o is = absurd (cc test)
one_value a_word (Some m) flag test o is = rw is refl
one_value a_flag None None test o is = absurd (cc test)
one_value a_flag None (Some f) test o is = rw is refl
one_value a_flag (Some m) flag test o is = rw is refl
one_value (an_option true) None None test o is = rw is refl
one_value (an_option false) None None test o is = rw is refl
one_value (an_option needed) None (Some f) test o is = absurd (cc test)
one_value (an_option true) (Some m) flag test o is = rw is refl
one_value (an_option false) (Some m) flag test o is = rw is refl

module _ (arguments : List Argument) (met : ArgumentsMet) where
  abbrev last_rows : List Row
  last_rows = fold with_default (map made met) (rules_from 1 arguments)

  value_told : (a : Argument) → tells_flags arguments a ≡ true
      → cond (not (is_needed a.kind) || is_given a.name last_rows) (Some (first_of a.name last_rows)) None ≡ told_text a.kind (text_met a.name met)
  value_told a test = one_value a.kind (find (λ (m : Argument × Text). bytes_eq m.0.name a.name) met) (flag_called arguments a.name) test
      (row_at a.name last_rows)
      (ends 1 arguments a.name (map made met) ∙ ap (λ (o : Option Row). option_or o (default_at arguments a.name)) (made_found a.name met))

  one_more : (b c : Bool) (v : Option Text) (vs : List (Option Text)) → cond (b && c) (Some (v ∷ vs)) None
      ≡ option_and_then (λ value. option_map (λ more. value ∷ more) (cond c (Some vs) None)) (cond b (Some v) None)
  one_more true true v vs = refl
  one_more true false v vs = refl
  one_more false c v vs = refl

  pub values_told : (i : ℕ) (some : List Argument) → list_all (tells_flags arguments) some ≡ true
      → cond (list_all (λ (r : Rule). not r.required || is_given r.id last_rows) (rules_from i some))
      (Some (map (λ (a : Argument). first_of a.name last_rows) some)) None
      ≡ told_texts some met
  values_told i [] test = refl
  values_told i (a ∷ rest) test =
      let tests = both_true (tells_flags arguments a) (list_all (tells_flags arguments) rest) test in
      let next = values_told (index_after i (rule_for a)) rest tests.1 in
      one_more (not (is_needed a.kind) || is_given a.name last_rows)
      (list_all (λ (r : Rule). not r.required || is_given r.id last_rows) (rules_from (index_after i (rule_for a)) rest)) (first_of a.name last_rows)
      (map (λ (b : Argument). first_of b.name last_rows) rest)
      ∙ (ap (λ o. option_and_then (λ value. option_map (λ more. value ∷ more) o)
      (cond (not (is_needed a.kind) || is_given a.name last_rows) (Some (first_of a.name last_rows)) None)) next
      ∙ ap (λ o. option_and_then (λ value. option_map (λ more. value ∷ more) (told_texts rest met)) o) (value_told a tests.0))
