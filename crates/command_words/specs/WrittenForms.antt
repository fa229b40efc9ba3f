-- Words that are written in the order of a form's arguments.
use Rattle.std.specs.Prelude.{◌≡◌, ◌++◌, ◌∷◌, ◌&&◌, ◌||◌, Bool, true, false, not, if◌then◌else◌, List, [], Option, Some, None, codes}
use Rattle.std.specs.List.{list_all}
use Rattle.std.specs.Option.{option_map_or}
use Rattle.std.specs.Str.{bytes_eq}
use Rattle.clap.specs.Lexer.{has_byte}
use Rattle.clap.specs.Walk.{Text, is_empty}
use Rattle.command_words.specs.PlainForms.{Argument, ArgumentKind, a_word, a_flag, an_option, argument_called, is_a_word}
use Rattle.command_words.specs.Words.{is_flag, is_set}

-- ---- forms of which each argument can be called

-- the word that calls a flag or an option
abbrev pub dashed_name : Text → Text
dashed_name name = 45 ∷ 45 ∷ name

abbrev pub same_argument_kind : ArgumentKind → ArgumentKind → Bool
same_argument_kind a_word a_word = true
same_argument_kind a_flag a_flag = true
same_argument_kind (an_option true) (an_option true) = true
same_argument_kind (an_option false) (an_option false) = true
same_argument_kind _ _ = false

-- its name is one that can be written, and no flag or option before it has this name
abbrev pub is_callable : List Argument → Argument → Bool
is_callable arguments a = is_a_word a.kind || (not (is_empty a.name) && (not (has_byte 61 a.name)
    && option_map_or (λ b. same_argument_kind b.kind a.kind) (argument_called arguments a.name) false))

-- none of these has this name
abbrev pub is_named_apart : Text → List Argument → Bool
is_named_apart name arguments = list_all (λ b. not (bytes_eq name b.name)) arguments

abbrev pub are_named_apart : List Argument → Bool
are_named_apart [] = true
are_named_apart (a ∷ rest) = is_named_apart a.name rest && are_named_apart rest

-- ---- the words

-- what an argument may be given, where a flag is given `true` or `false`
abbrev pub IsText : ArgumentKind → Option Text → Type 0
IsText a_flag text = (b : Bool) × (text ≡ Some (if b then codes "true" else codes "false"))
IsText (an_option false) None = Unit {0}
IsText _ None = ⊥
IsText _ (Some text) = is_flag text ≡ false

abbrev pub AreTexts : List Argument → List (Option Text) → Type 0
AreTexts [] [] = Unit {0}
AreTexts (a ∷ rest) (text ∷ more) = IsText a.kind text × AreTexts rest more
AreTexts _ _ = ⊥

abbrev pub words_for : ArgumentKind → Text → Option Text → List Text
words_for a_flag name text = if is_set text then dashed_name name ∷ [] else []
words_for a_word name (Some text) = text ∷ []
words_for (an_option needed) name (Some text) = dashed_name name ∷ text ∷ []
words_for _ name None = []

-- one argument after the other, each as it is called
abbrev pub written_words : List Argument → List (Option Text) → List Text
written_words (a ∷ rest) (text ∷ more) = words_for a.kind a.name text ++ written_words rest more
written_words _ _ = []
