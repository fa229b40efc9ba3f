-- The walk over the words of a form, turn by turn.
use Rattle.std.proofs.Common.{◌≡◌, ◌∙◌, ◌&&◌, ◌||◌, ◌==◌, ◌++◌, ◌+◌, ℕ, Bool, true, false, not, refl, sym, ap, ap₂, List, [], ◌∷◌, map, min, Option, Some, None, option_map, eqb-true, lit<}
use Rattle.std.specs.Prelude.{find, slice_get}
use Rattle.std.specs.Option.{option_map_or}
use Rattle.std.specs.Str.{IsUtf8, bytes_eq, chars, encode_utf8_all}
use Rattle.std.proofs.lemmas.Str.{IsUtf8-past_char, encode_ascii, encodes-chars}
use Rattle.std.proofs.lemmas.Slice.Eq.{bytes_eq-Decides}
use Rattle.clap.specs.Lexer.{long_of, short_of, usize_max}
use Rattle.clap.specs.Walk.{Held, Rule, Text, Waiting, Walk, arg_by_id, arg_by_index, arg_by_long, arg_by_short, has_row, idle, is_pending, option, positional, reacted, settled, settled_rows, subcommand_met, used, walked}
use Rattle.clap.specs.Simple.{Shape, built, with_index}
use Rattle.clap.specs.Takes.{flags_pass, settle_passes, turn_passes}
use Rattle.command_words.specs.PlainForms.{Argument, ArgumentKind, ArgumentsMet, a_word, a_flag, an_option, argument_called, was_met}
use Rattle.command_words.specs.SimulateWords.{bare_form}
use Rattle.command_words.specs.Words.{is_flag}
use Rattle.command_words.specs.WrittenForms.{same_argument_kind}
use Rattle.command_words.proofs.FormRules.{by_id, by_long, filled_rule, found_passes, no_short, of, rules_from}
use Rattle.command_words.proofs.FormEnds.{is_a_flag}
use Rattle.command_words.proofs.FormRows.{Fits, made, made_has, used_once, uses}

-- ---- what a word is

abbrev pub dashes : Text
dashes = 45 ∷ 45 ∷ []

-- a word that is no flag, and so is a word of the form
pub record IsPlain (word : Text) : Type 0 where
  pub ends : bytes_eq word dashes ≡ false
  pub long : long_of word ≡ None
  pub short : short_of word ≡ None

pub plain_word : (word : Text) → is_flag word ≡ false → IsPlain word
plain_word [] e = record { ends = refl; long = refl; short = refl }
plain_word (x ∷ []) e = go (x == 45) refl
  where
    go : (b : Bool) → (x == 45) ≡ b → IsPlain (x ∷ [])
    go true h = record { ends = rw h refl; long = rw h refl; short = rw h refl }
    go false h = record { ends = rw h refl; long = rw h refl; short = rw h refl }
plain_word (x ∷ y ∷ rest) e = record { ends = rw e refl; long = rw e refl; short = rw e refl }

-- a text that isn't empty has a first character
first_char : (x : ℕ) (rest : List ℕ) → IsUtf8 (x ∷ rest) → (c : ℕ) × (slice_get (chars (x ∷ rest)) 0 ≡ Some c)
first_char x rest u = go (chars (x ∷ rest)) (encodes-chars (x ∷ rest) u)
  where
    go : (cs : List ℕ) → encode_utf8_all cs ≡ x ∷ rest → (c : ℕ) × (slice_get cs 0 ≡ Some c)
    go [] e = cc
    go (c ∷ cs) e = (c, refl)

-- flags of one letter: a hyphen and one character at least
pub record IsShort (word : Text) : Type 0 where
  pub first : ℕ
  pub rest : Text
  pub char : ℕ
  pub short : short_of word ≡ Some (first ∷ rest)
  pub begins : slice_get (chars (first ∷ rest)) 0 ≡ Some char

pub short_word : (word : Text) → IsUtf8 word → is_flag word ≡ true → bytes_eq word dashes ≡ false → long_of word ≡ None → IsShort word
short_word [] u is ends long = absurd (cc is)
short_word (x ∷ []) u is ends long = absurd (cc is)
short_word (x ∷ y ∷ rest) u is ends long = go rest (y == 45) refl u ends long
  where
    go : (rest : Text) (b : Bool) → (y == 45) ≡ b → IsUtf8 (x ∷ y ∷ rest) → bytes_eq (x ∷ y ∷ rest) dashes ≡ false → long_of (x ∷ y ∷ rest) ≡ None →
        IsShort (x ∷ y ∷ rest)
    go [] true e u ends long =
        let bad : true ≡ false = rw (is, e) at ends in
        absurd (cc bad)
    go (z ∷ zs) true e u ends long = absurd (cc (rw (is, e) at long))
    go rest false e u ends long =
        let after = IsUtf8-past_char (x ∷ y ∷ rest) (y ∷ rest) 45 u
        (ap (λ n. n ∷ y ∷ rest) (eqb-true x 45 is) ∙ sym (ap (λ l. l ++ y ∷ rest) (encode_ascii 45 (lit< tt)))) in
        let char = first_char y rest after in
        record { first = y; rest = rest; char = char.0; short = rw (is, e) refl; begins = char.1 }

-- ---- the form, by its rules

abbrev pub shape_with : Text → List Rule → Shape
shape_with name c = record (built (bare_form name)).top { rules = c }

-- the first argument of this name is of this kind
abbrev pub is_own : List Argument → Argument → Bool
is_own arguments a = option_map_or (λ (b : Argument). same_argument_kind b.kind a.kind) (find (λ (b : Argument). bytes_eq b.name a.name) arguments) false

pub same_kinds : (k l : ArgumentKind) → same_argument_kind k l ≡ true → k ≡ l
same_kinds a_word a_word e = refl
same_kinds a_flag a_flag e = refl
same_kinds (an_option true) (an_option true) e = refl
same_kinds (an_option false) (an_option false) e = refl
same_kinds a_word a_flag e = absurd (cc e)
same_kinds a_word (an_option needed) e = absurd (cc e)
same_kinds a_flag a_word e = absurd (cc e)
same_kinds a_flag (an_option needed) e = absurd (cc e)
same_kinds (an_option true) a_word e = absurd (cc e)
same_kinds (an_option false) a_word e = absurd (cc e)
same_kinds (an_option true) a_flag e = absurd (cc e)
same_kinds (an_option false) a_flag e = absurd (cc e)
same_kinds (an_option true) (an_option false) e = absurd (cc e)
same_kinds (an_option false) (an_option true) e = absurd (cc e)

own_found : (arguments : List Argument) (a : Argument) → is_own arguments a ≡ true → find (λ (b : Argument). bytes_eq b.name a.name) arguments ≡ Some a
own_found arguments a own = go (find (λ (b : Argument). bytes_eq b.name a.name) arguments) refl own
  where
    go : (o : Option Argument) → find (λ (b : Argument). bytes_eq b.name a.name) arguments ≡ o →
        option_map_or (λ (b : Argument). same_argument_kind b.kind a.kind) o false ≡ true → find (λ (b : Argument). bytes_eq b.name a.name) arguments ≡ Some a
    go None is own = absurd (cc own)
    go (Some b) is own =
        let name : b.name ≡ a.name = (bytes_eq-Decides b.name a.name).0 (found_passes (λ (b : Argument). bytes_eq b.name a.name) arguments b is) in
        is ∙ ap₂ (λ n k. Some (of n k)) name (same_kinds b.kind a.kind own)

-- the rules of a form, as a walk looks them up
pub record AreRules (c : List Rule) (arguments : List Argument) : Type 0 where
  pub long : (name : Text) → arg_by_long c name ≡ option_map filled_rule (argument_called arguments name)
  pub short : (x : ℕ) → arg_by_short c x ≡ None
  pub own : (a : Argument) → is_own arguments a ≡ true → (j : ℕ) × (arg_by_id c a.name ≡ Some (with_index j (filled_rule a)))

pub are_rules : (arguments : List Argument) → AreRules (rules_from 1 arguments) arguments
are_rules arguments = record {
  long = by_long 1 arguments;
  short = no_short 1 arguments;
  own = λ a own. by_id 1 arguments a.name a (own_found arguments a own);
}

-- ---- where the walk stands

abbrev pub at : Held → Waiting → ℕ → Bool → Walk
at h waiting position trailing = record { held = h; waiting = waiting; position = position; is_trailing = trailing; stopped = None }

-- what is held says which arguments were met, and nothing is amiss
pub record Stands (c : List Rule) (h : Held) (met : ArgumentsMet) : Type 0 where
  pub skip : h.skip ≡ 0
  pub passes : settle_passes c false h ≡ true
  pub rows : settled_rows c h.pending h.rows ≡ map made met

-- an option waits for its value, or has it; a word was met
abbrev pub awaits : List Rule → Text → Held → Held
awaits c name h = record (settled c h) { pending = Some (name, []) }

abbrev pub holds : List Rule → Text → Text → Held → Held
holds c name text h = record (settled c h) { pending = Some (name, text ∷ []) }

no_row : (c : List Rule) (h : Held) (met : ArgumentsMet) (name : Text) (b : Bool) → Stands c h met → was_met name met ≡ b
    → has_row name (settled_rows c h.pending h.rows) ≡ b
no_row c h met name b s is = ap (has_row name) s.rows ∙ (made_has name met ∙ is)

no_command : (waiting : Waiting) (word : Text) → subcommand_met [] waiting word ≡ None
no_command idle word = refl
no_command (option id) word = refl
no_command positional word = refl

-- ---- the turns

module _ (name : Text) (c : List Rule) (arguments : List Argument) (rules : AreRules c arguments) where
  abbrev passes : Walk → Text → Bool
  passes w word = turn_passes (shape_with name c) [] w word

  pub dashes_turn : (h : Held) (waiting : Waiting) (p : ℕ) → passes (at h waiting p false) dashes ≡ true
  dashes_turn h waiting p = rw (no_command waiting dashes) refl

  pub dashes_walked : (h : Held) (waiting : Waiting) (p : ℕ) → walked c [] (at h waiting p false) dashes ≡ at h waiting p true
  unfolding walked
  dashes_walked h waiting p = rw (no_command waiting dashes) refl

  -- flags of one letter are refused
  pub short_turn : (h : Held) (waiting : Waiting) (p : ℕ) (word : Text) → h.skip ≡ 0 → bytes_eq word dashes ≡ false → long_of word ≡ None → IsShort word →
      passes (at h waiting p false) word ≡ false
  unfolding flags_pass
  short_turn h waiting p word skip ends long is = rw (no_command waiting word, ends, long, is.short, skip, is.begins, rules.short is.char) refl

  -- so are names that the form doesn't have
  pub strange_turn : (h : Held) (waiting : Waiting) (p : ℕ) (word called : Text) (value : Option Text) → bytes_eq word dashes ≡ false →
      long_of word ≡ Some (called, value) → argument_called arguments called ≡ None → passes (at h waiting p false) word ≡ false
  strange_turn h waiting p word called value ends long none =
      let found : arg_by_long c called ≡ None = rules.long called ∙ ap (option_map filled_rule) none in
      rw (no_command waiting word, ends, long, found) refl

  -- a flag or an option of this name
  module _ (h : Held) (p : ℕ) (met : ArgumentsMet) (s : Stands c h met) (word called own : Text) (ends : bytes_eq word dashes ≡ false) where
    abbrev Calls : ArgumentKind → Option Text → Type 0
    Calls k value = (long_of word ≡ Some (called, value)) × (argument_called arguments called ≡ Some (of own k))

    by_name : (k : ArgumentKind) → argument_called arguments called ≡ Some (of own k) → arg_by_long c called ≡ Some (filled_rule (of own k))
    by_name k is = rules.long called ∙ ap (option_map filled_rule) is

    pub flag_turn : Calls a_flag None → was_met own met ≡ false → passes (at h idle p false) word ≡ true
    flag_turn is none = rw (ends, is.0, by_name a_flag is.1, s.passes, no_row c h met own false s none) refl

    pub flag_twice : Calls a_flag None → was_met own met ≡ true → passes (at h idle p false) word ≡ false
    flag_twice is twice = rw (ends, is.0, by_name a_flag is.1, s.passes, no_row c h met own true s twice) refl

    pub flag_walked : Calls a_flag None → walked c [] (at h idle p false) word ≡ at (reacted c (filled_rule (of own a_flag)) [] h) idle p false
    unfolding walked
    flag_walked is = rw (ends, is.0, by_name a_flag is.1) refl

    pub flag_valued : (value : Text) → Calls a_flag (Some value) → passes (at h idle p false) word ≡ false
    flag_valued value is = rw (ends, is.0, by_name a_flag is.1) refl

    pub attached_turn : (needed : Bool) (value : Text) → Calls (an_option needed) (Some value) → was_met own met ≡ false
        → passes (at h idle p false) word ≡ true
    attached_turn needed value is none = rw (ends, is.0, by_name (an_option needed) is.1, s.passes, no_row c h met own false s none) refl

    pub attached_twice : (needed : Bool) (value : Text) → Calls (an_option needed) (Some value) → was_met own met ≡ true
        → passes (at h idle p false) word ≡ false
    attached_twice needed value is twice = rw (ends, is.0, by_name (an_option needed) is.1, s.passes, no_row c h met own true s twice) refl

    pub attached_walked : (needed : Bool) (value : Text) → Calls (an_option needed) (Some value) →
        walked c [] (at h idle p false) word ≡ at (reacted c (filled_rule (of own (an_option needed))) (value ∷ []) h) idle p false
    unfolding walked
    attached_walked needed value is = rw (ends, is.0, by_name (an_option needed) is.1) refl

    pub option_turn : (needed : Bool) → Calls (an_option needed) None → passes (at h idle p false) word ≡ true
    option_turn needed is = rw (ends, is.0, by_name (an_option needed) is.1, s.passes) refl

    pub option_walked : (needed : Bool) → Calls (an_option needed) None → walked c [] (at h idle p false) word ≡ at (awaits c own h) (option own) p false
    unfolding walked
    option_walked needed is = rw (ends, is.0, by_name (an_option needed) is.1) refl

  -- where what is pending doesn't pass, no name does
  pub doomed_turn : (h : Held) (waiting : Waiting) (p : ℕ) (word called : Text) (value : Option Text) → bytes_eq word dashes ≡ false →
      long_of word ≡ Some (called, value) → settle_passes c false h ≡ false → passes (at h waiting p false) word ≡ false
  doomed_turn h waiting p word called value ends long lost = go (argument_called arguments called) refl
    where
      one : (own : Text) (k : ArgumentKind) (value : Option Text) → long_of word ≡ Some (called, value) → arg_by_long c called ≡ Some (filled_rule (of own k)) →
          passes (at h waiting p false) word ≡ false
      one own a_word None long found = rw (no_command waiting word, ends, long, found, lost) refl
      one own a_word (Some value) long found = rw (no_command waiting word, ends, long, found, lost) refl
      one own a_flag None long found = rw (no_command waiting word, ends, long, found, lost) refl
      one own a_flag (Some value) long found = rw (no_command waiting word, ends, long, found) refl
      one own (an_option needed) None long found = rw (no_command waiting word, ends, long, found, lost) refl
      one own (an_option needed) (Some value) long found = rw (no_command waiting word, ends, long, found, lost) refl

      go : (o : Option Argument) → argument_called arguments called ≡ o → passes (at h waiting p false) word ≡ false
      go None is = strange_turn h waiting p word called value ends long is
      go (Some a) is = one a.name a.kind value long (rules.long called ∙ ap (option_map filled_rule) is)

  -- ---- what is pending

  -- it passes where it wasn't met before
  module _ (h : Held) (met : ArgumentsMet) (s : Stands c h met) (own : Text) (k : ArgumentKind) (text : Text) (flag : is_a_flag k ≡ false)
      (is : is_own arguments (of own k) ≡ true) where
    pub holds_passes : (b : Bool) → was_met own met ≡ b → settle_passes c false (holds c own text h) ≡ not b
    holds_passes b was =
        let rule = rules.own (of own k) is in
        go k flag b rule.0 rule.1 (no_row c h met own b s was)
      where
        go : (k : ArgumentKind) → is_a_flag k ≡ false → (b : Bool) (j : ℕ) → arg_by_id c own ≡ Some (with_index j (filled_rule (of own k)))
            → has_row own (settled_rows c h.pending h.rows) ≡ b → settle_passes c false (holds c own text h) ≡ not b
        go a_word flag true j found has = rw (found, has) refl
        go a_word flag false j found has = rw (found, has) refl
        go a_flag flag b j found has = absurd (cc flag)
        go (an_option needed) flag true j found has = rw (found, has) refl
        go (an_option needed) flag false j found has = rw (found, has) refl

    pub holds_stands : was_met own met ≡ false → Stands c (holds c own text h) (met ++ (of own k, text) ∷ [])
    holds_stands none =
        let rule = rules.own (of own k) is in
        record { skip = s.skip; passes = holds_passes false none; rows = go k flag rule.0 rule.1 }
      where
        go : (k : ArgumentKind) → is_a_flag k ≡ false → (j : ℕ) → arg_by_id c own ≡ Some (with_index j (filled_rule (of own k)))
            → settled_rows c (Some (own, text ∷ [])) (settled_rows c h.pending h.rows) ≡ map made (met ++ (of own k, text) ∷ [])
        go a_word flag j found = rw (found, s.rows) (used_once j own a_word text met tt none)
        go a_flag flag j found = absurd (cc flag)
        go (an_option needed) flag j found = rw (found, s.rows) (used_once j own (an_option needed) text met tt none)

  -- an argument was met by its name
  pub reacts_stands : (h : Held) (met : ArgumentsMet) (s : Stands c h met) (own : Text) (k : ArgumentKind) (text : Text) → Fits k text
      → was_met own met ≡ false →
      Stands c (reacted c (filled_rule (of own k)) (uses k text) h) (met ++ (of own k, text) ∷ [])
  reacts_stands h met s own k text fits none = record { skip = s.skip; passes = refl; rows = go k fits }
    where
      go : (k : ArgumentKind) → Fits k text →
          used (filled_rule (of own k)) (uses k text) (settled_rows c h.pending h.rows) ≡ map made (met ++ (of own k, text) ∷ [])
      go a_word fits = rw s.rows (used_once 0 own a_word text met fits none)
      go a_flag fits = rw s.rows (used_once 0 own a_flag text met fits none)
      go (an_option needed) fits = rw s.rows (used_once 0 own (an_option needed) text met fits none)

  -- ---- the value of an option

  pub value_turn : (h : Held) (p : ℕ) (own word : Text) → IsPlain word → passes (at (awaits c own h) (option own) p false) word ≡ true
  value_turn h p own word plain = rw (plain.ends, plain.long, plain.short) refl

  pub value_walked : (h : Held) (p : ℕ) (own : Text) (needed : Bool) (word : Text) → is_own arguments (of own (an_option needed)) ≡ true → IsPlain word →
      walked c [] (at (awaits c own h) (option own) p false) word ≡ at (holds c own word h) idle p false
  unfolding walked
  value_walked h p own needed word is plain =
      let rule = rules.own (of own (an_option needed)) is in
      let same = (bytes_eq-Decides own own).1 refl in
      rw (plain.ends, plain.long, plain.short, rule.1, same) refl

  -- ---- a word of the form

  or_true : (b : Bool) → (b || true) ≡ true
  or_true true = refl
  or_true false = refl

  and_false : (b : Bool) → (b && false) ≡ false
  and_false true = refl
  and_false false = refl

  neither : (b : Bool) → ((b && false) || false) ≡ false
  neither true = refl
  neither false = refl

  pub word_turn : (h : Held) (p : ℕ) (own word : Text) → settle_passes c false h ≡ true → arg_by_index c p ≡ Some (with_index p (filled_rule (of own a_word)))
      → IsPlain word → passes (at h idle p false) word ≡ true
  word_turn h p own word fine found plain = rw (plain.ends, plain.long, plain.short, found, fine) (or_true _)

  pub word_walked : (h : Held) (p : ℕ) (own word : Text) → arg_by_index c p ≡ Some (with_index p (filled_rule (of own a_word)))
      → IsPlain word → walked c [] (at h idle p false) word ≡ at (holds c own word h) idle (min (p + 1) usize_max) false
  unfolding walked
  word_walked h p own word found plain = rw (plain.ends, plain.long, plain.short, found, and_false (is_pending (filled_rule (of own a_word)) h.pending)) refl

  pub any_turn : (h : Held) (waiting : Waiting) (p : ℕ) (own word : Text) → settle_passes c false h ≡ true
      → arg_by_index c p ≡ Some (with_index p (filled_rule (of own a_word))) → passes (at h waiting p true) word ≡ true
  any_turn h waiting p own word fine found = rw (found, fine) (or_true _)

  pub any_walked : (h : Held) (waiting : Waiting) (p : ℕ) (own word : Text) → arg_by_index c p ≡ Some (with_index p (filled_rule (of own a_word)))
      → walked c [] (at h waiting p true) word ≡ at (holds c own word h) idle (min (p + 1) usize_max) true
  unfolding walked
  any_walked h waiting p own word found = rw (found, and_false (is_pending (filled_rule (of own a_word)) h.pending)) refl

  -- there is no place for another one, or what is pending doesn't pass
  pub full_turn : (h : Held) (p : ℕ) (word : Text) → arg_by_index c p ≡ None → IsPlain word → passes (at h idle p false) word ≡ false
  full_turn h p word none plain = rw (plain.ends, plain.long, plain.short, none) refl

  pub full_any : (h : Held) (waiting : Waiting) (p : ℕ) (word : Text) → arg_by_index c p ≡ None → passes (at h waiting p true) word ≡ false
  full_any h waiting p word none = rw none refl

  pub lost_turn : (h : Held) (p : ℕ) (own word : Text) → settle_passes c false h ≡ false → arg_by_index c p ≡ Some (with_index p (filled_rule (of own a_word)))
      → IsPlain word → passes (at h idle p false) word ≡ false
  lost_turn h p own word lost found plain =
      rw (plain.ends, plain.long, plain.short, found, lost) (neither (is_pending (filled_rule (of own a_word)) h.pending))

  pub lost_any : (h : Held) (waiting : Waiting) (p : ℕ) (own word : Text) → settle_passes c false h ≡ false
      → arg_by_index c p ≡ Some (with_index p (filled_rule (of own a_word))) → passes (at h waiting p true) word ≡ false
  lost_any h waiting p own word lost found = rw (found, lost) (neither (is_pending (filled_rule (of own a_word)) h.pending))
