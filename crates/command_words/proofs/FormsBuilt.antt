-- The form of given arguments is built one argument after the other.
use Rattle.std.proofs.Common.{◌≡◌, ◌∙◌, ◌+◌, ◌<◌, ◌++◌, ℕ, true, ap, ap₂, sym, refl, List, [], ◌∷◌, length, map, get_or, take}
use Rattle.std.proofs.lemmas.List.{map-append, take_more}
use Rattle.clap.specs.Simple.{on_top}
use Rattle.clap.specs.Walk.{Text}
use Rattle.clap.specs.Words.{App, Rule, with_rule}
use Rattle.command_words.specs.BuiltForms.{argument_of, form_of, rule_for}
use Rattle.command_words.specs.Forms.{is_form}
use Rattle.command_words.specs.PlainForms.{Argument}
use Rattle.command_words.specs.SimulateWords.{bare_form}
use Rattle.command_words.specs.declared.arguments.Argument.{Argument as Named}
use Rattle.command_words.proofs.FormRules.{all_simple, defaults_pass, filled_free, filled_simple, in_order}

pub form_more : (name : Text) (all : List Named) (i : ℕ) (past : Named) (form more : App) (rule : Rule) → i < length all
    → form ≡ form_of name (map argument_of (take i all)) → more ≡ with_rule form rule → rule ≡ rule_for (argument_of (get_or all i past))
    → more ≡ form_of name (map argument_of (take (i + 1) all))
form_more name all i past form more rule within so_far adds made =
    adds ∙ (ap₂ with_rule so_far made ∙ ap (λ (rules : List Rule). on_top (λ s. record s { rules = rules }) (bare_form name)) rules_are)
  where
    rules_are : map rule_for (map argument_of (take i all)) ++ rule_for (argument_of (get_or all i past)) ∷ []
        ≡ map rule_for (map argument_of (take (i + 1) all))
    rules_are = sym (map-append rule_for (map argument_of (take i all)) (argument_of (get_or all i past) ∷ []))
        ∙ ap (map rule_for) (sym (map-append argument_of (take i all) (get_or all i past ∷ [])) ∙ ap (map argument_of) (sym (take_more all i past within)))

-- `clap`'s account of forms is exact for each of these
pub is_served : (name : Text) (arguments : List Argument) → is_form (form_of name arguments) ≡ true
is_served name arguments =
    rw (all_simple arguments, filled_simple 1 arguments, in_order 1 arguments, filled_free 1 arguments, defaults_pass 1 arguments) refl
