-- Words that are written in the order of a form's arguments are read as just these.
use Rattle.std.proofs.Common.{◌≡◌, ◌∙◌, ◌&&◌, ◌||◌, ◌==◌, ◌++◌, ℕ, suc, ◌+◌, arith, take, Bool, cond, true, false, not, refl, sym, ap, ap₂, subst, List, [], ◌∷◌, Option, Some, None, codes, option_map, append_assoc, append-nil}
use Rattle.std.specs.Prelude.{find, option_and_then}
use Rattle.std.specs.List.{before_first, list_all, list_any, position_or_len}
use Rattle.std.specs.Option.{option_map_or}
use Rattle.std.specs.Str.{bytes_eq}
use Rattle.std.proofs.lemmas.List.Folds.{find-append}
use Rattle.std.proofs.lemmas.Slice.Eq.{bytes_eq-Decides}
use Rattle.clap.specs.Lexer.{has_byte, long_of}
use Rattle.clap.specs.Walk.{Text, is_empty}
use Rattle.command_words.specs.PlainForms.{Argument, ArgumentKind, ArgumentsMet, a_word, a_flag, an_option, anywhere, argument_called, is_a_word, plain_words, read_words, told_text, told_texts, text_met, was_met, word_names}
use Rattle.command_words.specs.Words.{is_set}
use Rattle.command_words.specs.WrittenForms.{AreTexts, IsText, are_named_apart, dashed_name, is_named_apart, is_callable, same_argument_kind, words_for, written_words}
use Rattle.command_words.proofs.FormRules.{both_true, found_passes, of}
use Rattle.command_words.proofs.FormWalk.{plain_word, same_kinds}

-- ---- what is met by these words

abbrev met_by : ArgumentKind → Text → Option Text → ArgumentsMet
met_by a_flag name text = cond (is_set text) ((of name a_flag, codes "true") ∷ []) []
met_by k name (Some text) = (of name k, text) ∷ []
met_by k name None = []

abbrev all_met : List Argument → List (Option Text) → ArgumentsMet
all_met (a ∷ rest) (text ∷ more) = met_by a.kind a.name text ++ all_met rest more
all_met _ _ = []

-- ---- names

not_true : (b : Bool) → not b ≡ true → b ≡ false
not_true false e = refl
not_true true e = absurd (cc e)

differ : (a b : Text) → bytes_eq a b ≡ false → bytes_eq b a ≡ false
differ a b no_same = go (bytes_eq b a) refl
  where
    go : (t : Bool) → bytes_eq b a ≡ t → bytes_eq b a ≡ false
    go false e = e
    go true e =
        let same : b ≡ a = (bytes_eq-Decides b a).0 e in
        let bad : true ≡ false = sym ((bytes_eq-Decides a b).1 (sym same)) ∙ no_same in
        absurd (cc bad)

-- none of these names was met
abbrev IsFresh : List Argument → ArgumentsMet → Type 0
IsFresh [] met = Unit {0}
IsFresh (a ∷ rest) met = (was_met a.name met ≡ false) × IsFresh rest met

any_append : (p : (Argument × Text) → Bool) (xs : ArgumentsMet) (x : Argument × Text) → list_any p xs ≡ false → p x ≡ false → list_any p (xs ++ x ∷ []) ≡ false
any_append p [] x e f = rw f refl
any_append p (y ∷ ys) x e f = go (p y) e (any_append p ys x)
  where
    go : (b : Bool) → (b || list_any p ys) ≡ false → (list_any p ys ≡ false → p x ≡ false → list_any p (ys ++ x ∷ []) ≡ false)
        → (b || list_any p (ys ++ x ∷ [])) ≡ false
    go true e more = absurd (cc e)
    go false e more = more e f

still_fresh : (name : Text) (k : ArgumentKind) (text : Text) (rest : List Argument) (met : ArgumentsMet) → is_named_apart name rest ≡ true → IsFresh rest met →
    IsFresh rest (met ++ (of name k, text) ∷ [])
still_fresh name k text [] met apart fresh = tt
still_fresh name k text (b ∷ rest) met apart fresh =
    let parts = both_true (not (bytes_eq name b.name)) (is_named_apart name rest) apart in (
      any_append (λ (m : Argument × Text). bytes_eq m.0.name b.name) met (of name k, text) fresh.0 (not_true (bytes_eq name b.name) parts.0),
      still_fresh name k text rest met parts.1 fresh.1,
    )

fresh_by : (name : Text) (k : ArgumentKind) (text : Option Text) (rest : List Argument) (met : ArgumentsMet) → is_named_apart name rest ≡ true
    → IsFresh rest met →
    IsFresh rest (met ++ met_by k name text)
fresh_by name a_word (Some t) rest met own fresh = still_fresh name a_word t rest met own fresh
fresh_by name a_word None rest met own fresh = subst (IsFresh rest) (sym (append-nil met)) fresh
fresh_by name a_flag text rest met own fresh = go (is_set text)
  where
    go : (b : Bool) → IsFresh rest (met ++ cond b ((of name a_flag, codes "true") ∷ []) [])
    go true = still_fresh name a_flag (codes "true") rest met own fresh
    go false = subst (IsFresh rest) (sym (append-nil met)) fresh
fresh_by name (an_option needed) (Some t) rest met own fresh = still_fresh name (an_option needed) t rest met own fresh
fresh_by name (an_option needed) None rest met own fresh = subst (IsFresh rest) (sym (append-nil met)) fresh

all_fresh : (rest : List Argument) → IsFresh rest []
all_fresh [] = tt
all_fresh (a ∷ rest) = (refl, all_fresh rest)

-- ---- the word that calls an argument

one_more : (n : ℕ) → 1 + n ≡ suc n
one_more n = omega arith

-- a text without `=` comes before the first one
all_before : (text : Text) → has_byte 61 text ≡ false → before_first (λ x. x == 61) text ≡ text
all_before [] none = refl
all_before (x ∷ xs) none = go (x == 61) refl none (all_before xs)
  where
    go : (b : Bool) → (x == 61) ≡ b → (b || has_byte 61 xs) ≡ false → (has_byte 61 xs ≡ false → before_first (λ y. y == 61) xs ≡ xs)
        → before_first (λ y. y == 61) (x ∷ xs) ≡ x ∷ xs
    go true is none rest = absurd (cc none)
    go false is none rest = rw is (ap (λ n. take n (x ∷ xs)) (one_more (position_or_len (λ y. y == 61) xs)) ∙ ap (λ ys. x ∷ ys) (rest none))

-- what is known of a name that is called
record IsCalled (arguments : List Argument) (name : Text) (k : ArgumentKind) : Type 0 where
  some : bytes_eq (dashed_name name) (codes "--") ≡ false
  long : long_of (dashed_name name) ≡ Some (name, None)
  argument : argument_called arguments name ≡ Some (of name k)

called : (arguments : List Argument) (name : Text) (k : ArgumentKind) → is_a_word k ≡ false → is_callable arguments (of name k) ≡ true →
    IsCalled arguments name k
called arguments [] k named test = absurd (cc (rw named at test))
called arguments (x ∷ xs) k named test =
    let own = option_map_or (λ (b : Argument). same_argument_kind b.kind k) (argument_called arguments (x ∷ xs)) false in
    let all : (not (is_empty (x ∷ xs)) && (not (has_byte 61 (x ∷ xs)) && own)) ≡ true = rw named at test in
    let tests = both_true (not (has_byte 61 (x ∷ xs))) own (both_true (not (is_empty (x ∷ xs))) (not (has_byte 61 (x ∷ xs)) && own) all).1 in
    let none = not_true (has_byte 61 (x ∷ xs)) tests.0 in
    record {
      some = refl;
      long = rw none (ap (λ (n : Text). Some (n, None)) (all_before (x ∷ xs) none));
      argument = go (argument_called arguments (x ∷ xs)) refl tests.1;
    }
  where
    go : (o : Option Argument) → argument_called arguments (x ∷ xs) ≡ o → option_map_or (λ (b : Argument). same_argument_kind b.kind k) o false ≡ true
        → argument_called arguments (x ∷ xs) ≡ Some (of (x ∷ xs) k)
    go None is own = absurd (cc own)
    go (Some b) is own =
        let passes = found_passes (λ (c : Argument). not (is_a_word c.kind) && bytes_eq c.name (x ∷ xs)) arguments b is in
        let name : b.name ≡ x ∷ xs = (bytes_eq-Decides b.name (x ∷ xs)).0 (both_true _ _ passes).1 in
        is ∙ ap₂ (λ n l. Some (of n l)) name (same_kinds b.kind k own)

-- ---- the reading

module _ (arguments : List Argument) where
  abbrev reads : List Argument → ArgumentsMet → List Text → Option ArgumentsMet
  reads rest met words = read_words arguments anywhere (word_names rest) met words

  one_read : (name : Text) (k : ArgumentKind) (text : Option Text) (rest : List Argument) (words : List Text) (met : ArgumentsMet)
      → is_callable arguments (of name k) ≡ true → IsText k text → was_met name met ≡ false
      → reads (of name k ∷ rest) met (words_for k name text ++ words) ≡ reads rest (met ++ met_by k name text) words
  one_read name a_word (Some text) rest words met test is fresh = rw ((plain_word text is).ends, is, fresh) refl
  one_read name a_word None rest words met test is fresh = absurd is
  one_read name a_flag text rest words met test (true, is) fresh =
      let call = called arguments name a_flag refl test in
      rw (is, call.some, call.long, call.argument, fresh) refl
  one_read name a_flag text rest words met test (false, is) fresh = rw (is, append-nil met) refl
  one_read name (an_option needed) (Some text) rest words met test is fresh = by_option needed test is
    where
      by_option : (needed : Bool) → is_callable arguments (of name (an_option needed)) ≡ true → IsText (an_option needed) (Some text)
          → reads rest met (dashed_name name ∷ text ∷ words) ≡ reads rest (met ++ (of name (an_option needed), text) ∷ []) words
      by_option true test is =
          let call = called arguments name (an_option true) refl test in
          rw (call.some, call.long, call.argument, is, fresh) refl
      by_option false test is =
          let call = called arguments name (an_option false) refl test in
          rw (call.some, call.long, call.argument, is, fresh) refl
  one_read name (an_option true) None rest words met test is fresh = absurd is
  one_read name (an_option false) None rest words met test is fresh = rw (append-nil met) refl

  read_on : (rest : List Argument) (texts : List (Option Text)) (met : ArgumentsMet) → list_all (is_callable arguments) rest ≡ true
      → are_named_apart rest ≡ true
      → AreTexts rest texts → IsFresh rest met → reads rest met (written_words rest texts) ≡ Some (met ++ all_met rest texts)
  read_on [] [] met tests apart are fresh = ap (λ (m : ArgumentsMet). Some m) (sym (append-nil met))
  read_on [] (text ∷ more) met tests apart are fresh = absurd are
  read_on (a ∷ rest) [] met tests apart are fresh = absurd are
  read_on (a ∷ rest) (text ∷ more) met tests apart are fresh =
      let test = both_true (is_callable arguments a) (list_all (is_callable arguments) rest) tests in
      let own = both_true (is_named_apart a.name rest) (are_named_apart rest) apart in
      one_read a.name a.kind text rest (written_words rest more) met test.0 are.0 fresh.0
      ∙ (read_on rest more (met ++ met_by a.kind a.name text) test.1 own.1 are.1 (fresh_by a.name a.kind text rest met own.0 fresh.1)
      ∙ ap (λ (m : ArgumentsMet). Some m) (append_assoc met (met_by a.kind a.name text) (all_met rest more)))

-- ---- what each argument is told

abbrev found_in : Text → ArgumentsMet → Option (Argument × Text)
found_in name met = find (λ (m : Argument × Text). bytes_eq m.0.name name) met

not_found : (name : Text) (met : ArgumentsMet) → was_met name met ≡ false → found_in name met ≡ None
not_found name [] e = refl
not_found name (m ∷ ms) e = go (bytes_eq m.0.name name) e (not_found name ms)
  where
    go : (b : Bool) → (b || was_met name ms) ≡ false → (was_met name ms ≡ false → found_in name ms ≡ None) → cond b (Some m) (found_in name ms) ≡ None
    go true e more = absurd (cc e)
    go false e more = more e

append_none : (name : Text) (xs ys : ArgumentsMet) → found_in name xs ≡ None → found_in name (xs ++ ys) ≡ found_in name ys
append_none name xs ys e = find-append (λ (m : Argument × Text). bytes_eq m.0.name name) xs ys ∙ rw e refl

-- none of the others has the name
one_apart : (name own : Text) (k : ArgumentKind) (text : Option Text) → bytes_eq name own ≡ false → found_in name (met_by k own text) ≡ None
one_apart name own a_word (Some t) e = rw (differ name own e) refl
one_apart name own a_word None e = refl
one_apart name own a_flag text e = go (is_set text)
  where
    go : (b : Bool) → found_in name (cond b ((of own a_flag, codes "true") ∷ []) []) ≡ None
    go true = rw (differ name own e) refl
    go false = refl
one_apart name own (an_option needed) (Some t) e = rw (differ name own e) refl
one_apart name own (an_option needed) None e = refl

rest_apart : (name : Text) (rest : List Argument) (texts : List (Option Text)) → is_named_apart name rest ≡ true → found_in name (all_met rest texts) ≡ None
rest_apart name [] texts e = refl
rest_apart name (a ∷ rest) [] e = refl
rest_apart name (a ∷ rest) (text ∷ more) e =
    let parts = both_true (not (bytes_eq name a.name)) (is_named_apart name rest) e in
    append_none name (met_by a.kind a.name text) (all_met rest more) (one_apart name a.name a.kind text (not_true (bytes_eq name a.name) parts.0))
    ∙ rest_apart name rest more parts.1

-- the text of an argument
one_told : (name : Text) (k : ArgumentKind) (text : Option Text) (others : ArgumentsMet) → IsText k text → found_in name others ≡ None
    → told_text k (text_met name (met_by k name text ++ others)) ≡ Some text
one_told name a_word (Some t) others is none = rw ((bytes_eq-Decides name name).1 refl) refl
one_told name a_word None others is none = absurd is
one_told name a_flag text others (true, is) none = rw (is, (bytes_eq-Decides name name).1 refl) refl
one_told name a_flag text others (false, is) none = rw (is, none) refl
one_told name (an_option true) (Some t) others is none = rw ((bytes_eq-Decides name name).1 refl) refl
one_told name (an_option false) (Some t) others is none = rw ((bytes_eq-Decides name name).1 refl) refl
one_told name (an_option true) None others is none = absurd is
one_told name (an_option false) None others is none = rw none refl

told_on : (rest : List Argument) (texts : List (Option Text)) (before : ArgumentsMet) → are_named_apart rest ≡ true → AreTexts rest texts → IsFresh rest before
    → told_texts rest (before ++ all_met rest texts) ≡ Some texts
told_on [] [] before apart are fresh = refl
told_on [] (text ∷ more) before apart are fresh = absurd are
told_on (a ∷ rest) [] before apart are fresh = absurd are
told_on (a ∷ rest) (text ∷ more) before apart are fresh =
    let own = both_true (is_named_apart a.name rest) (are_named_apart rest) apart in
    let here : told_text a.kind (text_met a.name (before ++ (met_by a.kind a.name text ++ all_met rest more))) ≡ Some text =
    ap (λ (o : Option (Argument × Text)). told_text a.kind (option_map (λ (m : Argument × Text). m.1) o))
    (append_none a.name before (met_by a.kind a.name text ++ all_met rest more) (not_found a.name before fresh.0))
    ∙ one_told a.name a.kind text (all_met rest more) are.0 (rest_apart a.name rest more own.0) in
    let next : told_texts rest (before ++ (met_by a.kind a.name text ++ all_met rest more)) ≡ Some more =
    ap (told_texts rest) (sym (append_assoc before (met_by a.kind a.name text) (all_met rest more)))
    ∙ told_on rest more (before ++ met_by a.kind a.name text) own.1 are.1 (fresh_by a.name a.kind text rest before own.0 fresh.1) in
    joined _ _ text more here next
  where
    joined : (first : Option (Option Text)) (others : Option (List (Option Text))) (text : Option Text) (more : List (Option Text)) → first ≡ Some text
        → others ≡ Some more → option_and_then (λ t. option_map (λ ts. t ∷ ts) others) first ≡ Some (text ∷ more)
    joined first others text more one two = rw (one, two) refl

-- the words that are written for these texts give each argument its text
pub written_read : (arguments : List Argument) (texts : List (Option Text)) → list_all (is_callable arguments) arguments ≡ true
    → are_named_apart arguments ≡ true
    → AreTexts arguments texts → plain_words arguments (written_words arguments texts) ≡ Some texts
unfolding plain_words
written_read arguments texts callable apart are =
    ap (option_and_then (told_texts arguments)) (read_on arguments arguments texts [] callable apart are (all_fresh arguments))
    ∙ told_on arguments texts [] apart are (all_fresh arguments)
