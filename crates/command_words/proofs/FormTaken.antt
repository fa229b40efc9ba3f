-- What `clap` takes by a form of words, flags and options is what the plain reading of the words says.
use Rattle.std.proofs.Common.{◌≡◌, ◌∙◌, ◌&&◌, ◌++◌, ◌+◌, ◌≤◌, ℕ, Bool, cond, true, false, not, refl, ap, arith, List, [], ◌∷◌, length, map, min, Option, Some, None, is_some, codes, nat_lt}
use Rattle.std.specs.Prelude.{fold, option_and_then}
use Rattle.std.specs.List.{list_all}
use Rattle.std.specs.Str.{IsUtf8, bytes_eq}
use Rattle.std.specs.String.{string_bytes}
use Rattle.std.specs.declared.alloc.Global.{Global}
use Rattle.std.specs.declared.string.String.{String}
use Rattle.std.proofs.lemmas.Bool.Decides.{nat_tests}
use Rattle.std.proofs.lemmas.Str.{IsUtf8-string_bytes}
use Rattle.std.proofs.lemmas.Slice.Eq.{bytes_eq-Decides}
use Rattle.clap.specs.Lexer.{long_of, usize_max}
use Rattle.clap.specs.Walk.{Held, Row, Rule, Text, Waiting, Walk, finished, first_of, idle, nothing_held, option, reacted, walk, walked, with_default}
use Rattle.clap.specs.Simple.{built, entered, is_simple, matches_of}
use Rattle.clap.specs.Takes.{default_passes, entered_passes, is_valid, level_passes, settle_passes, takes, turn_passes, walk_passes}
use Rattle.command_words.specs.Forms.{texts_of}
use Rattle.command_words.specs.PlainForms.{Argument, ArgumentKind, ArgumentsMet, WordPlace, a_word, a_flag, an_option, anywhere, argument_called, before_value, after_dashes, is_a_word, was_met, meets_argument, plain_words, read_words, told_texts, with_argument, with_name, with_kind, with_word, word_names}
use Rattle.command_words.specs.Words.{is_flag}
use Rattle.command_words.specs.BuiltForms.{form_of}
use Rattle.command_words.proofs.FormRules.{Comes, all_found, all_simple, both_true, comes_from, defaults_pass, filled_free, filled_rule, filled_simple, found_passes, in_order, of, rules_from}
use Rattle.command_words.proofs.FormRows.{made}
use Rattle.command_words.proofs.FormEnds.{tells_flags, values_told}
use Rattle.command_words.proofs.FormWalk.{AreRules, Stands, any_turn, any_walked, are_rules, at, attached_turn, attached_twice, attached_walked, awaits, dashes, dashes_turn, dashes_walked, doomed_turn, flag_turn, flag_twice, flag_valued, flag_walked, full_any, full_turn, holds, holds_passes, holds_stands, is_own, lost_any, lost_turn, option_turn, option_walked, plain_word, reacts_stands, shape_with, short_turn, short_word, strange_turn, value_turn, value_walked, word_turn, word_walked}

-- each name is that of one argument, and there are few enough to be counted
abbrev pub is_clear : List Argument → Bool
is_clear arguments = list_all (is_own arguments) arguments && (list_all (tells_flags arguments) arguments && nat_lt (length arguments) usize_max)

-- each of these names is that of a word
abbrev AreOwn : List Argument → List Text → Type 0
AreOwn arguments [] = Unit {0}
AreOwn arguments (name ∷ left) = (is_own arguments (of name a_word) ≡ true) × AreOwn arguments left

words_own : (arguments some : List Argument) → list_all (is_own arguments) some ≡ true → AreOwn arguments (word_names some)
words_own arguments [] all = tt
words_own arguments (a ∷ rest) all =
    let tests = both_true (is_own arguments a) (list_all (is_own arguments) rest) all in
    go a.name a.kind tests.0 (words_own arguments rest tests.1)
  where
    go : (name : Text) (k : ArgumentKind) → is_own arguments (of name k) ≡ true → AreOwn arguments (word_names rest)
        → AreOwn arguments (word_names (of name k ∷ rest))
    go name a_word own more = (own, more)
    go name a_flag own more = more
    go name (an_option needed) own more = more

module _ (name : Text) (arguments : List Argument) where
  abbrev c : List Rule
  c = rules_from 1 arguments

  abbrev rules : AreRules c arguments
  rules = are_rules arguments

  abbrev ends_well : Held → Bool
  ends_well end = settle_passes c false end && (list_all default_passes c && is_valid (shape_with name c) (finished c end) false)

  abbrev values : Held → List (Option Text)
  values end = map (λ (a : Argument). first_of a.name (finished c end)) arguments

  abbrev end_of : Walk → List Text → Held
  end_of w words = (fold (walked c []) w words).held

  outcome : Walk → List Text → Option (List (Option Text))
  outcome w words = cond (walk_passes (shape_with name c) [] w words && ends_well (end_of w words)) (Some (values (end_of w words))) None

  -- what is read from a place on
  abbrev told : Option ArgumentsMet → Option (List (Option Text))
  told met = option_and_then (told_texts arguments) met

  stops : (w : Walk) (word : Text) (rest : List Text) → turn_passes (shape_with name c) [] w word ≡ false → outcome w (word ∷ rest) ≡ None
  unfolding outcome walk_passes
  stops w word rest e = rw e refl

  goes_on : (w after : Walk) (word : Text) (rest : List Text) → turn_passes (shape_with name c) [] w word ≡ true
      → walked c [] w word ≡ after → outcome w (word ∷ rest) ≡ outcome after rest
  unfolding outcome walk_passes
  goes_on w after word rest e is = rw e (ap (λ (x : Walk). outcome x rest) is)

  ends_told : list_all (tells_flags arguments) arguments ≡ true → (rows : List Row) (met : ArgumentsMet) → rows ≡ fold with_default (map made met) c
      → cond (is_valid (shape_with name c) rows false) (Some (map (λ (a : Argument). first_of a.name rows) arguments)) None ≡ told_texts arguments met
  ends_told all rows met is = rw (filled_free 1 arguments, is) (values_told arguments met 1 arguments all)

  over : list_all (tells_flags arguments) arguments ≡ true → (h : Held) (p : ℕ) (met : ArgumentsMet) (trailing : Bool) → Stands c h met →
      outcome (at h idle p trailing) [] ≡ told_texts arguments met
  unfolding outcome walk_passes
  over all h p met trailing s = rw (s.passes, defaults_pass 1 arguments)
      (ends_told all (finished c h) met (ap (λ (rows : List Row). fold with_default rows c) s.rows))

  -- where what is pending doesn't pass, nothing is taken
  lost_over : (h : Held) (waiting : Waiting) (p : ℕ) (trailing : Bool) → settle_passes c false h ≡ false → outcome (at h waiting p trailing) [] ≡ None
  unfolding outcome walk_passes
  lost_over h waiting p trailing e = rw e refl

  lost_after : (h : Held) (waiting : Waiting) (p : ℕ) (left : List Text) → Comes c p left → settle_passes c false h ≡ false → (rest : List Text) →
      outcome (at h waiting p true) rest ≡ None
  lost_after h waiting p left comes e [] = lost_over h waiting p true e
  lost_after h waiting p [] comes e (word ∷ rest) =
      stops (at h waiting p true) word rest (full_any name c arguments rules h waiting p word comes)
  lost_after h waiting p (own ∷ left) comes e (word ∷ rest) =
      stops (at h waiting p true) word rest (lost_any name c arguments rules h waiting p own word e comes.0)

  -- the words with hyphens
  lost_flag : (h : Held) (waiting : Waiting) (p : ℕ) → h.skip ≡ 0 → settle_passes c false h ≡ false → (word : Text) (rest : List Text) → IsUtf8 word →
      is_flag word ≡ true → bytes_eq word dashes ≡ false → outcome (at h waiting p false) (word ∷ rest) ≡ None
  lost_flag h waiting p skip e word rest u is ends = go (long_of word) refl
    where
      go : (o : Option (Text × Option Text)) → long_of word ≡ o → outcome (at h waiting p false) (word ∷ rest) ≡ None
      go None long = stops (at h waiting p false) word rest (short_turn name c arguments rules h waiting p word skip ends long (short_word word u is ends long))
      go (Some l) long = stops (at h waiting p false) word rest (doomed_turn name c arguments rules h waiting p word l.0 l.1 ends long e)

  lost_dashes : (h : Held) (waiting : Waiting) (p : ℕ) (left : List Text) → Comes c p left → settle_passes c false h ≡ false
      → (word : Text) (rest : List Text) →
      bytes_eq word dashes ≡ true → outcome (at h waiting p false) (word ∷ rest) ≡ None
  lost_dashes h waiting p left comes e word rest is =
      ap (λ (w : Text). outcome (at h waiting p false) (w ∷ rest)) ((bytes_eq-Decides word dashes).0 is)
      ∙ (goes_on (at h waiting p false) (at h waiting p true) dashes rest (dashes_turn name c arguments rules h waiting p)
      (dashes_walked name c arguments rules h waiting p)
      ∙ lost_after h waiting p left comes e rest)

  lost : (h : Held) (p : ℕ) (left : List Text) → Comes c p left → h.skip ≡ 0 → settle_passes c false h ≡ false → (words : List (String Global)) →
      outcome (at h idle p false) (texts_of words) ≡ None
  lost h p left comes skip e [] = lost_over h idle p false e
  lost h p left comes skip e (w ∷ ws) =
      go left comes (bytes_eq (string_bytes w) dashes) (is_flag (string_bytes w)) refl refl
    where
      go : (left : List Text) → Comes c p left → (tail flag : Bool) → bytes_eq (string_bytes w) dashes ≡ tail → is_flag (string_bytes w) ≡ flag →
          outcome (at h idle p false) (string_bytes w ∷ texts_of ws) ≡ None
      go left comes true flag t f = lost_dashes h idle p left comes e (string_bytes w) (texts_of ws) t
      go left comes false true t f = lost_flag h idle p skip e (string_bytes w) (texts_of ws) (IsUtf8-string_bytes w) f t
      go [] comes false false t f = stops (at h idle p false) (string_bytes w) (texts_of ws)
          (full_turn name c arguments rules h p (string_bytes w) comes (plain_word (string_bytes w) f))
      go (own ∷ left) comes false false t f = stops (at h idle p false) (string_bytes w) (texts_of ws)
          (lost_turn name c arguments rules h p own (string_bytes w) e comes.0 (plain_word (string_bytes w) f))

  -- ---- the reading

  -- after `--` any word is one of the form
  after_tail : list_all (tells_flags arguments) arguments ≡ true → (h : Held) (p : ℕ) (left : List Text) (met : ArgumentsMet) → Stands c h met
      → Comes c p left →
      AreOwn arguments left → (rest : List Text) → outcome (at h idle p true) rest ≡ told (read_words arguments after_dashes left met rest)
  after_tail all h p left met s comes own [] = over all h p met true s
  after_tail all h p [] met s comes own (word ∷ rest) = stops (at h idle p true) word rest (full_any name c arguments rules h idle p word comes)
  after_tail all h p (n ∷ left) met s comes own (word ∷ rest) =
      goes_on (at h idle p true) (at (holds c n word h) idle (min (p + 1) usize_max) true) word rest
      (any_turn name c arguments rules h idle p n word s.passes comes.0) (any_walked name c arguments rules h idle p n word comes.0)
      ∙ go (was_met n met) refl (λ now. after_tail all (holds c n word h) (min (p + 1) usize_max) left (met ++ (of n a_word, word) ∷ []) now comes.1 own.1 rest)
    where
      go : (b : Bool) → was_met n met ≡ b
          → (Stands c (holds c n word h) (met ++ (of n a_word, word) ∷ []) → outcome (at (holds c n word h) idle (min (p + 1) usize_max) true) rest
          ≡ told (read_words arguments after_dashes left (met ++ (of n a_word, word) ∷ []) rest))
          → outcome (at (holds c n word h) idle (min (p + 1) usize_max) true) rest
          ≡ told (read_words arguments after_dashes (n ∷ left) met (word ∷ rest))
      go true was next = rw was (lost_after (holds c n word h) idle (min (p + 1) usize_max) left comes.1
          (holds_passes name c arguments rules h met s n a_word word refl own.0 true was) rest)
      go false was next = rw was (next (holds_stands name c arguments rules h met s n a_word word refl own.0 was))

  -- where the walk stands, and an option may wait for its value
  abbrev stage : Option (Text × Bool) → Held → ℕ → Walk
  stage None h p = at h idle p false
  stage (Some w) h p = at (awaits c w.0 h) (option w.0) p false

  abbrev place_of : Option (Text × Bool) → WordPlace
  place_of None = anywhere
  place_of (Some w) = before_value (of w.0 (an_option w.1))

  abbrev IsAwaited : Option (Text × Bool) → Type 0
  IsAwaited None = Unit {0}
  IsAwaited (Some w) = is_own arguments (of w.0 (an_option w.1)) ≡ true

  awaits_lost : (h : Held) (own : Text) (needed : Bool) → is_own arguments (of own (an_option needed)) ≡ true → settle_passes c false (awaits c own h) ≡ false
  awaits_lost h own needed is =
      let rule = rules.own (of own (an_option needed)) is in
      rw rule.1 refl

  -- what the words to come are read as
  Reads : List (String Global) → Type 0
  Reads words = (waits : Option (Text × Bool)) (h : Held) (p : ℕ) (left : List Text) (met : ArgumentsMet) → Stands c h met → Comes c p left
      → AreOwn arguments left →
      IsAwaited waits → outcome (stage waits h p) (texts_of words) ≡ told (read_words arguments (place_of waits) left met (texts_of words))

  module _ (clear : is_clear arguments ≡ true) where
    abbrev owned : list_all (is_own arguments) arguments ≡ true
    owned = (both_true _ _ clear).0

    abbrev flags : list_all (tells_flags arguments) arguments ≡ true
    flags = (both_true _ _ (both_true _ _ clear).1).0

    -- one more word
    module _ (h : Held) (p : ℕ) (left : List Text) (met : ArgumentsMet) (s : Stands c h met) (comes : Comes c p left) (own : AreOwn arguments left)
        (word : Text)
        (ws : List (String Global)) (u : IsUtf8 word) (next : Reads ws) where
      abbrev here : List Text → Option (List (Option Text))
      here words = told (read_words arguments anywhere left met words)

      -- it names a flag or an option
      module _ (called : Text) (t : bytes_eq word dashes ≡ false) where
        by_kind : (n : Text) (k : ArgumentKind) (value : Option Text) → long_of word ≡ Some (called, value) → argument_called arguments called ≡ Some (of n k)
            → not (is_a_word k) ≡ true → is_own arguments (of n k) ≡ true → (b : Bool) → was_met n met ≡ b
            → outcome (at h idle p false) (word ∷ texts_of ws)
            ≡ told (with_kind k (of n k) value met (λ now. read_words arguments anywhere left now (texts_of ws))
            (read_words arguments (before_value (of n k)) left met (texts_of ws)))
        unfolding Reads
        by_kind n a_word value long is named mine b was = absurd (cc named)
        by_kind n a_flag (Some value) long is named mine b was =
            stops (at h idle p false) word (texts_of ws) (flag_valued name c arguments rules h p met s word called n t value (long, is))
        by_kind n a_flag None long is named mine true was =
            stops (at h idle p false) word (texts_of ws) (flag_twice name c arguments rules h p met s word called n t (long, is) was) ∙ rw was refl
        by_kind n a_flag None long is named mine false was =
            goes_on (at h idle p false) (at (reacted c (filled_rule (of n a_flag)) [] h) idle p false) word (texts_of ws)
            (flag_turn name c arguments rules h p met s word called n t (long, is) was)
            (flag_walked name c arguments rules h p met s word called n t (long, is))
            ∙ rw was (next None (reacted c (filled_rule (of n a_flag)) [] h) p left (met ++ (of n a_flag, codes "true") ∷ [])
            (reacts_stands name c arguments rules h met s n a_flag (codes "true") refl was) comes own tt)
        by_kind n (an_option needed) (Some value) long is named mine true was =
            stops (at h idle p false) word (texts_of ws)
            (attached_twice name c arguments rules h p met s word called n t needed value (long, is) was) ∙ rw was refl
        by_kind n (an_option needed) (Some value) long is named mine false was =
            goes_on (at h idle p false) (at (reacted c (filled_rule (of n (an_option needed))) (value ∷ []) h) idle p false) word (texts_of ws)
            (attached_turn name c arguments rules h p met s word called n t needed value (long, is) was)
            (attached_walked name c arguments rules h p met s word called n t needed value (long, is))
            ∙ rw was (next None (reacted c (filled_rule (of n (an_option needed))) (value ∷ []) h) p left (met ++ (of n (an_option needed), value) ∷ [])
            (reacts_stands name c arguments rules h met s n (an_option needed) value tt was) comes own tt)
        by_kind n (an_option needed) None long is named mine b was =
            goes_on (at h idle p false) (at (awaits c n h) (option n) p false) word (texts_of ws)
            (option_turn name c arguments rules h p met s word called n t needed (long, is))
            (option_walked name c arguments rules h p met s word called n t needed (long, is))
            ∙ next (Some (n, needed)) h p left met s comes own mine

        by_argument : (value : Option Text) → long_of word ≡ Some (called, value) → (o : Option Argument) → argument_called arguments called ≡ o
            → outcome (at h idle p false) (word ∷ texts_of ws)
            ≡ told (with_argument o value met (λ now. read_words arguments anywhere left now (texts_of ws))
            (λ a. read_words arguments (before_value a) left met (texts_of ws)))
        by_argument value long None is = stops (at h idle p false) word (texts_of ws) (strange_turn name c arguments rules h idle p word called value t long is)
        by_argument value long (Some a) is =
            let named = found_passes (λ (b : Argument). not (is_a_word b.kind) && bytes_eq b.name called) arguments a is in
            let mine = all_found (is_own arguments) (λ (b : Argument). not (is_a_word b.kind) && bytes_eq b.name called) arguments a owned is in
            by_kind a.name a.kind value long is (both_true _ _ named).0 mine (was_met a.name met) refl

      by_long_word : bytes_eq word dashes ≡ false → is_flag word ≡ true → (o : Option (Text × Option Text)) → long_of word ≡ o
          → outcome (at h idle p false) (word ∷ texts_of ws)
          ≡ told (with_name arguments o met (λ now. read_words arguments anywhere left now (texts_of ws))
          (λ a. read_words arguments (before_value a) left met (texts_of ws)))
      by_long_word t f None long =
          stops (at h idle p false) word (texts_of ws) (short_turn name c arguments rules h idle p word s.skip t long (short_word word u f t long))
      by_long_word t f (Some l) long = by_argument l.0 t l.1 long (argument_called arguments l.0) refl

      -- it is a word of the form
      by_word : (left : List Text) → Comes c p left → AreOwn arguments left → is_flag word ≡ false
          → outcome (at h idle p false) (word ∷ texts_of ws)
          ≡ told (with_word left word met (λ more now. read_words arguments anywhere more now (texts_of ws)))
      unfolding Reads
      by_word [] comes own f = stops (at h idle p false) word (texts_of ws) (full_turn name c arguments rules h p word comes (plain_word word f))
      by_word (n ∷ left) comes own f =
          goes_on (at h idle p false) (at (holds c n word h) idle (min (p + 1) usize_max) false) word (texts_of ws)
          (word_turn name c arguments rules h p n word s.passes comes.0 (plain_word word f))
          (word_walked name c arguments rules h p n word comes.0 (plain_word word f))
          ∙ go (was_met n met) refl
        where
          go : (b : Bool) → was_met n met ≡ b → outcome (at (holds c n word h) idle (min (p + 1) usize_max) false) (texts_of ws)
              ≡ told (with_word (n ∷ left) word met (λ more now. read_words arguments anywhere more now (texts_of ws)))
          go true was = rw was (lost (holds c n word h) (min (p + 1) usize_max) left comes.1 s.skip
              (holds_passes name c arguments rules h met s n a_word word refl own.0 true was) ws)
          go false was = rw was (next None (holds c n word h) (min (p + 1) usize_max) left (met ++ (of n a_word, word) ∷ [])
              (holds_stands name c arguments rules h met s n a_word word refl own.0 was) comes.1 own.1 tt)

      turn : (b f : Bool) → bytes_eq word dashes ≡ b → is_flag word ≡ f → outcome (at h idle p false) (word ∷ texts_of ws) ≡ here (word ∷ texts_of ws)
      turn true f t is = rw t (ap (λ (w : Text). outcome (at h idle p false) (w ∷ texts_of ws)) ((bytes_eq-Decides word dashes).0 t)
          ∙ (goes_on (at h idle p false) (at h idle p true) dashes (texts_of ws) (dashes_turn name c arguments rules h idle p)
          (dashes_walked name c arguments rules h idle p)
          ∙ after_tail flags h p left met s comes own (texts_of ws)))
      turn false true t is = rw (t, is) (by_long_word t is (long_of word) refl)
      turn false false t is = rw (t, is) (by_word left comes own is)

      -- it is the value of an option
      module _ (n : Text) (needed : Bool) (mine : is_own arguments (of n (an_option needed)) ≡ true) where
        value_met : is_flag word ≡ false → (b : Bool) → was_met n met ≡ b → outcome (at (holds c n word h) idle p false) (texts_of ws)
            ≡ told (option_and_then (λ now. read_words arguments anywhere left now (texts_of ws)) (meets_argument (of n (an_option needed)) word met))
        unfolding Reads
        value_met f true was = rw was (lost (holds c n word h) p left comes s.skip
            (holds_passes name c arguments rules h met s n (an_option needed) word refl mine true was) ws)
        value_met f false was = rw was (next None (holds c n word h) p left (met ++ (of n (an_option needed), word) ∷ [])
            (holds_stands name c arguments rules h met s n (an_option needed) word refl mine was) comes own tt)

        value_turns : (b f : Bool) → bytes_eq word dashes ≡ b → is_flag word ≡ f → outcome (at (awaits c n h) (option n) p false) (word ∷ texts_of ws)
            ≡ told (read_words arguments (before_value (of n (an_option needed))) left met (word ∷ texts_of ws))
        value_turns b true t is = rw is (go b t)
          where
            go : (b : Bool) → bytes_eq word dashes ≡ b → outcome (at (awaits c n h) (option n) p false) (word ∷ texts_of ws) ≡ None
            go true t = lost_dashes (awaits c n h) (option n) p left comes (awaits_lost h n needed mine) word (texts_of ws) t
            go false t = lost_flag (awaits c n h) (option n) p s.skip (awaits_lost h n needed mine) word (texts_of ws) u is t
        value_turns b false t is = rw is (goes_on (at (awaits c n h) (option n) p false) (at (holds c n word h) idle p false) word (texts_of ws)
            (value_turn name c arguments rules h p n word (plain_word word is))
            (value_walked name c arguments rules h p n needed word mine (plain_word word is))
            ∙ value_met is (was_met n met) refl)

    reads : (words : List (String Global)) → Reads words
    unfolding Reads
    reads [] None h p left met s comes own is = over flags h p met false s
    reads [] (Some w) h p left met s comes own is = lost_over (awaits c w.0 h) (option w.0) p false (awaits_lost h w.0 w.1 is)
    reads (w ∷ ws) None h p left met s comes own is =
        turn h p left met s comes own (string_bytes w) ws (IsUtf8-string_bytes w) (λ waits g q more now. reads ws waits g q more now)
        (bytes_eq (string_bytes w) dashes) (is_flag (string_bytes w)) refl refl
    reads (w ∷ ws) (Some o) h p left met s comes own is =
        value_turns h p left met s comes own (string_bytes w) ws (IsUtf8-string_bytes w) (λ waits g q more now. reads ws waits g q more now) o.0 o.1 is
        (bytes_eq (string_bytes w) dashes) (is_flag (string_bytes w)) refl refl

  -- ---- the whole parse

  simple : is_simple (form_of name arguments) ≡ true
  simple = rw (all_simple arguments, filled_simple 1 arguments, in_order 1 arguments) refl

  takes_is : (words : List Text) → takes (form_of name arguments) words ≡ level_passes (shape_with name c) [] nothing_held words false
  takes_is words = rw simple (go (walk c [] nothing_held words).stopped)
    where
      go : (stop : Option (Text × List Text)) → (entered_passes (built (form_of name arguments)) stop
          && level_passes (shape_with name c) [] nothing_held words (is_some (entered (built (form_of name arguments)) stop)))
          ≡ level_passes (shape_with name c) [] nothing_held words false
      go None = refl
      go (Some p) = refl

  -- what `clap` gives each argument, where the form takes the words
  abbrev given : List Text → Option (List (Option Text))
  given words = cond (takes (form_of name arguments) words)
      (Some (map (λ (a : Argument). first_of a.name (matches_of (form_of name arguments) words)) arguments)) None

  from_start : (words : List Text) → given words ≡ outcome (at nothing_held idle 1 false) words
  unfolding outcome
  from_start words = rw (takes_is words) refl

  few : is_clear arguments ≡ true → 1 + length arguments ≤ usize_max
  few clear =
      let tests = both_true (list_all (is_own arguments) arguments) (list_all (tells_flags arguments) arguments && nat_lt (length arguments) usize_max) clear in
      let last = (both_true (list_all (tells_flags arguments) arguments) (nat_lt (length arguments) usize_max) tests.1).1 in
      grind (arith, nat_tests, last)

  -- a form with these arguments takes the words that the plain reading takes, and gives each argument the same
  pub form_is : is_clear arguments ≡ true → (words : List (String Global)) →
      given (texts_of words) ≡ plain_words arguments (texts_of words)
  unfolding Reads plain_words
  form_is clear words = from_start (texts_of words)
      ∙ reads clear words None nothing_held 1 (word_names arguments) [] (record { skip = refl; passes = refl; rows = refl })
      (comes_from c 1 arguments (λ p past. refl) (few clear)) (words_own arguments arguments (both_true _ _ clear).0) tt

either : {R : Type 0} (taken : Bool) (ask : List (Option Text) → Option R) (values : List (Option Text)) →
    cond taken (ask values) None ≡ option_and_then ask (cond taken (Some values) None)
either true ask values = refl
either false ask values = refl

-- what is asked for by the values that `clap` gives is what is asked for by those of the plain reading
pub asks_plainly : {R : Type 0} (arguments : List Argument) (ask : List (Option Text) → Option R) → is_clear arguments ≡ true →
    (name : Text) (words : List (String Global)) →
    cond (takes (form_of name arguments) (texts_of words))
    (ask (map (λ (a : Argument). first_of a.name (matches_of (form_of name arguments) (texts_of words))) arguments)) None
    ≡ option_and_then ask (plain_words arguments (texts_of words))
asks_plainly arguments ask clear name words =
    either (takes (form_of name arguments) (texts_of words)) ask
    (map (λ (a : Argument). first_of a.name (matches_of (form_of name arguments) (texts_of words))) arguments)
    ∙ ap (option_and_then ask) (form_is name arguments clear words)
