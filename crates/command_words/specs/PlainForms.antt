-- What a form of words, flags and options takes, in plain words.
use Rattle.std.specs.Prelude.{◌++◌, ◌∷◌, ◌&&◌, Bool, true, false, not, List, [], Option, Some, None, codes, find, if◌then◌else◌, option_and_then, option_map}
use Rattle.std.specs.List.{list_any}
use Rattle.std.specs.Str.{bytes_eq}
use Rattle.clap.specs.Lexer.{long_of}
use Rattle.clap.specs.Walk.{Text}
use Rattle.command_words.specs.Words.{is_flag}

-- ---- arguments

-- a word, which has to be there; a flag, which may be; or an option with a value, which has to be there or may be
pub data ArgumentKind : Type 0 where
  a_word : ArgumentKind
  a_flag : ArgumentKind
  an_option : (needed : Bool) → ArgumentKind

pub record Argument : Type 0 where
  pub name : Text
  pub kind : ArgumentKind

abbrev pub word_named : Text → Argument
word_named name = record { name = name; kind = a_word }

abbrev pub flag_named : Text → Argument
flag_named name = record { name = name; kind = a_flag }

abbrev pub option_named : Text → Argument
option_named name = record { name = name; kind = an_option false }

abbrev pub needed_named : Text → Argument
needed_named name = record { name = name; kind = an_option true }

abbrev pub is_a_word : ArgumentKind → Bool
is_a_word a_word = true
is_a_word _ = false

-- the names of the words, in their order
abbrev pub word_names : List Argument → List Text
word_names [] = []
word_names (a ∷ rest) = if is_a_word a.kind then a.name ∷ word_names rest else word_names rest

-- the flag or the option of this name
abbrev pub argument_called : List Argument → Text → Option Argument
argument_called arguments name = find (λ a. not (is_a_word a.kind) && bytes_eq a.name name) arguments

-- ---- what was met

-- the arguments that were met, each with its text
abbrev pub ArgumentsMet : Type 0
ArgumentsMet = List (Argument × Text)

abbrev pub was_met : Text → ArgumentsMet → Bool
was_met name met = list_any (λ m. bytes_eq m.0.name name) met

-- an argument is met once at most
abbrev pub meets_argument : Argument → Text → ArgumentsMet → Option ArgumentsMet
meets_argument a text met = if was_met a.name met then None else Some (met ++ (a, text) ∷ [])

-- a word is the next one of the form
abbrev pub with_word : (left : List Text) → Text → ArgumentsMet → (List Text → ArgumentsMet → Option ArgumentsMet)
    → Option ArgumentsMet
with_word [] word met next = None
with_word (name ∷ left) word met next = option_and_then (next left) (meets_argument (word_named name) word met)

-- a flag has no value, and that of an option comes after `=` or is the next word
abbrev pub with_kind : ArgumentKind → Argument → (value : Option Text) → ArgumentsMet
    → (now : ArgumentsMet → Option ArgumentsMet) → (later : Option ArgumentsMet) → Option ArgumentsMet
with_kind a_flag a None met now later = option_and_then now (meets_argument a (codes "true") met)
with_kind (an_option needed) a (Some value) met now later = option_and_then now (meets_argument a value met)
with_kind (an_option needed) a None met now later = later
with_kind _ a value met now later = None

abbrev pub with_argument : Option Argument → (value : Option Text) → ArgumentsMet
    → (now : ArgumentsMet → Option ArgumentsMet) → (later : Argument → Option ArgumentsMet) → Option ArgumentsMet
with_argument None value met now later = None
with_argument (Some a) value met now later = with_kind a.kind a value met now (later a)

-- `--NAME` or `--NAME=VALUE`, and no other word that begins with a hyphen and has more
abbrev pub with_name : List Argument → Option (Text × Option Text) → ArgumentsMet
    → (now : ArgumentsMet → Option ArgumentsMet) → (later : Argument → Option ArgumentsMet) → Option ArgumentsMet
with_name arguments None met now later = None
with_name arguments (Some p) met now later = with_argument (argument_called arguments p.0) p.1 met now later

-- ---- the reading of words

-- any word may come, the value of an option has to, or `--` was met
pub data WordPlace : Type 0 where
  anywhere : WordPlace
  before_value : Argument → WordPlace
  after_dashes : WordPlace

-- the arguments that were met in the end, where `left` names the words of the form that are still to come
abbrev pub read_words : List Argument → WordPlace → (left : List Text) → ArgumentsMet → List Text → Option ArgumentsMet
read_words arguments anywhere left met [] = Some met
read_words arguments after_dashes left met [] = Some met
read_words arguments (before_value a) left met [] = None
read_words arguments (before_value a) left met (word ∷ rest) = if is_flag word then None
    else option_and_then (λ now. read_words arguments anywhere left now rest) (meets_argument a word met)
read_words arguments after_dashes left met (word ∷ rest) =
    with_word left word met (λ more now. read_words arguments after_dashes more now rest)
read_words arguments anywhere left met (word ∷ rest) =
    if bytes_eq word (codes "--") then read_words arguments after_dashes left met rest
    else if is_flag word then with_name arguments (long_of word) met
    (λ now. read_words arguments anywhere left now rest)
    (λ a. read_words arguments (before_value a) left met rest)
    else with_word left word met (λ more now. read_words arguments anywhere more now rest)

-- ---- what each argument is given

abbrev pub text_met : Text → ArgumentsMet → Option Text
text_met name met = option_map (λ m. m.1) (find (λ m. bytes_eq m.0.name name) met)

-- what is needed has to be there, and a flag that wasn't met is given the text `false`
abbrev pub told_text : ArgumentKind → Option Text → Option (Option Text)
told_text a_word None = None
told_text (an_option true) None = None
told_text a_flag None = Some (Some (codes "false"))
told_text _ text = Some text

abbrev pub told_texts : List Argument → ArgumentsMet → Option (List (Option Text))
told_texts [] met = Some []
told_texts (a ∷ rest) met = option_and_then
    (λ text. option_map (λ more. text ∷ more) (told_texts rest met)) (told_text a.kind (text_met a.name met))

-- the text that the words give each of the arguments, in the order of these. The words of the form come in their
-- order, and each flag and each option once at most, at any place before `--`. That may be given once, and after it any
-- word is one of the form
unfoldable pub plain_words : List Argument → List Text → Option (List (Option Text))
plain_words arguments words =
    option_and_then (told_texts arguments) (read_words arguments anywhere (word_names arguments) [] words)
