-- The rules that `clap` makes of a form's arguments.
use Rattle.std.proofs.Common.{◌≡◌, ◌∙◌, ◌&&◌, ◌||◌, ◌==◌, ◌+◌, ◌≤◌, ℕ, Bool, cond, true, false, not, refl, sym, ap, arith, suc, List, [], ◌∷◌, length, map, min, Option, Some, None, option_map}
use Rattle.std.specs.Prelude.{find}
use Rattle.std.specs.List.{list_all, list_any}
use Rattle.std.specs.Str.{bytes_eq}
use Rattle.std.proofs.lemmas.Bool.Decides.{nat_tests}
use Rattle.clap.specs.Lexer.{usize_max}
use Rattle.clap.specs.Walk.{Rule, Text, arg_by_id, arg_by_index, arg_by_long, arg_by_short, is_early_multiple}
use Rattle.clap.specs.Simple.{filled, filled_from, index_after, is_in_order, with_index}
use Rattle.clap.specs.Takes.{default_passes}
use Rattle.command_words.specs.PlainForms.{Argument, ArgumentKind, a_word, a_flag, an_option, argument_called, is_a_word, word_names}
use Rattle.command_words.specs.BuiltForms.{rule_for}

-- ---- arguments

abbrev pub of : Text → ArgumentKind → Argument
of name kind = record { name = name; kind = kind }

abbrev pub filled_rule : Argument → Rule
filled_rule a = filled (rule_for a)

abbrev pub rules_from : ℕ → List Argument → List Rule
rules_from i arguments = filled_from i (map rule_for arguments)

-- ---- lists

or_false : (a b : Bool) → a ≡ false → b ≡ false → (a || b) ≡ false
or_false a b p q = rw (p, q) refl

pub and_true : (a b : Bool) → a ≡ true → b ≡ true → (a && b) ≡ true
and_true a b p q = rw (p, q) refl

pub both_true : (a b : Bool) → (a && b) ≡ true → (a ≡ true) × (b ≡ true)
both_true true true e = (refl, refl)
both_true true false e = absurd (cc e)
both_true false b e = absurd (cc e)

-- what was found passes
pub found_passes : {X : Type 0} (p : X → Bool) (xs : List X) (x : X) → find p xs ≡ Some x → p x ≡ true
found_passes p [] x e = absurd (cc e)
found_passes p (y ∷ ys) x e = go (p y) refl e (found_passes p ys x)
  where
    go : (b : Bool) → p y ≡ b → cond b (Some y) (find p ys) ≡ Some x → (find p ys ≡ Some x → p x ≡ true) → p x ≡ true
    go true is e more =
        let same : y ≡ x = cc e in
        ap p (sym same) ∙ is
    go false is e more = more e

pub all_found : {X : Type 0} (q p : X → Bool) (xs : List X) (x : X) → list_all q xs ≡ true → find p xs ≡ Some x → q x ≡ true
all_found q p [] x all e = absurd (cc e)
all_found q p (y ∷ ys) x all e =
    let parts = both_true (q y) (list_all q ys) all in
    go (p y) parts.0 e (all_found q p ys x parts.1)
  where
    go : (b : Bool) → q y ≡ true → cond b (Some y) (find p ys) ≡ Some x → (find p ys ≡ Some x → q x ≡ true) → q x ≡ true
    go true here e more =
        let same : y ≡ x = cc e in
        ap q (sym same) ∙ here
    go false here e more = more e

-- ---- each rule is a simple one

pub all_simple : (arguments : List Argument) → list_all (λ (r : Rule). r.is_simple) (map rule_for arguments) ≡ true
all_simple [] = refl
all_simple (a ∷ rest) = all_simple rest

pub filled_simple : (i : ℕ) (arguments : List Argument) → list_all (λ (r : Rule). r.is_simple) (rules_from i arguments) ≡ true
filled_simple i [] = refl
filled_simple i (a ∷ rest) = filled_simple (index_after i (rule_for a)) rest

pub filled_free : (i : ℕ) (arguments : List Argument) → list_all (λ (r : Rule). r.is_free) (rules_from i arguments) ≡ true
filled_free i [] = refl
filled_free i (a ∷ rest) = filled_free (index_after i (rule_for a)) rest

one_early : (n i : ℕ) (name : Text) (k : ArgumentKind) → is_early_multiple n (with_index i (filled_rule (of name k))) ≡ false
one_early n i name a_word = refl
one_early n i name a_flag = refl
one_early n i name (an_option needed) = refl

none_early : (n i : ℕ) (arguments : List Argument) → list_any (is_early_multiple n) (rules_from i arguments) ≡ false
none_early n i [] = refl
none_early n i (a ∷ rest) = or_false _ _ (one_early n i a.name a.kind) (none_early n (index_after i (rule_for a)) rest)

pub in_order : (i : ℕ) (arguments : List Argument) → is_in_order (rules_from i arguments) ≡ true
in_order i arguments = ap not (none_early _ i arguments)

one_default : (i : ℕ) (name : Text) (k : ArgumentKind) → default_passes (with_index i (filled_rule (of name k))) ≡ true
one_default i name a_word = refl
one_default i name a_flag = refl
one_default i name (an_option needed) = refl

pub defaults_pass : (i : ℕ) (arguments : List Argument) → list_all default_passes (rules_from i arguments) ≡ true
defaults_pass i [] = refl
defaults_pass i (a ∷ rest) = and_true _ _ (one_default i a.name a.kind) (defaults_pass (index_after i (rule_for a)) rest)

-- ---- rules by what they are called

pub no_short : (i : ℕ) (arguments : List Argument) (x : ℕ) → arg_by_short (rules_from i arguments) x ≡ None
no_short i [] x = refl
no_short i (a ∷ rest) x = one i a.name a.kind (rules_from (index_after i (rule_for a)) rest) ∙ no_short (index_after i (rule_for a)) rest x
  where
    one : (i : ℕ) (name : Text) (k : ArgumentKind) (rules : List Rule) → arg_by_short (with_index i (filled_rule (of name k)) ∷ rules) x ≡ arg_by_short rules x
    one i name a_word rules = refl
    one i name a_flag rules = refl
    one i name (an_option needed) rules = refl

pub by_long : (i : ℕ) (arguments : List Argument) (name : Text) →
    arg_by_long (rules_from i arguments) name ≡ option_map filled_rule (argument_called arguments name)
by_long i [] name = refl
by_long i (a ∷ rest) name = one a.name a.kind (bytes_eq a.name name) refl (rules_from (index_after i (rule_for a)) rest)
    (argument_called rest name) (by_long (index_after i (rule_for a)) rest name)
  where
    one : (own : Text) (k : ArgumentKind) (b : Bool) → bytes_eq own name ≡ b → (rules : List Rule) (o : Option Argument)
        → arg_by_long rules name ≡ option_map filled_rule o
        → arg_by_long (with_index i (filled_rule (of own k)) ∷ rules) name
        ≡ option_map filled_rule (cond (not (is_a_word k) && bytes_eq own name) (Some (of own k)) o)
    one own a_word b is rules o e = e
    one own a_flag true is rules o e = rw is refl
    one own a_flag false is rules o e = rw is e
    one own (an_option needed) true is rules o e = rw is refl
    one own (an_option needed) false is rules o e = rw is e

-- the first argument of this name is this one
pub by_id : (i : ℕ) (arguments : List Argument) (name : Text) (a : Argument) → find (λ (b : Argument). bytes_eq b.name name) arguments ≡ Some a
    → (j : ℕ) × (arg_by_id (rules_from i arguments) name ≡ Some (with_index j (filled_rule a)))
by_id i [] name a e = absurd (cc e)
by_id i (b ∷ rest) name a e = go (bytes_eq b.name name) refl e (by_id (index_after i (rule_for b)) rest name a)
  where
    go : (t : Bool) → bytes_eq b.name name ≡ t → cond t (Some b) (find (λ (c : Argument). bytes_eq c.name name) rest) ≡ Some a
        → (find (λ (c : Argument). bytes_eq c.name name) rest ≡ Some a
        → (j : ℕ) × (arg_by_id (rules_from (index_after i (rule_for b)) rest) name ≡ Some (with_index j (filled_rule a))))
        → (j : ℕ) × (arg_by_id (rules_from i (b ∷ rest)) name ≡ Some (with_index j (filled_rule a)))
    go true is e next =
        let same : b ≡ a = cc e in
        (i, rw is (ap (λ (x : Argument). Some (with_index i (filled_rule x))) same))
    go false is e next =
        let more = next e in
        (more.0, rw is more.1)

-- ---- words by their places

-- from this place on come words of these names
abbrev pub Comes : List Rule → ℕ → List Text → Type 0
Comes c i [] = arg_by_index c i ≡ None
Comes c i (name ∷ left) = (arg_by_index c i ≡ Some (with_index i (filled_rule (of name a_word)))) × Comes c (min (i + 1) usize_max) left

index_past : (i p : ℕ) → suc i ≤ p → (i == p) ≡ false
index_past i p past = grind (arith, nat_tests)

same_index : (i : ℕ) → (i == i) ≡ true
same_index i = grind (arith, nat_tests)

next_index : (i n : ℕ) → i + suc n ≤ usize_max → min (i + 1) usize_max ≡ i + 1
next_index i n within = omega arith

pub comes_from : (c : List Rule) (i : ℕ) (arguments : List Argument) → ((p : ℕ) → i ≤ p → arg_by_index c p ≡ arg_by_index (rules_from i arguments) p)
    → i + length arguments ≤ usize_max → Comes c i (word_names arguments)
comes_from c i [] agrees within = agrees i (omega arith)
comes_from c i (a ∷ rest) agrees within = go a.name a.kind agrees
    (λ more. comes_from c (i + 1) rest more (omega arith)) (λ more. comes_from c i rest more (omega arith))
  where
    go : (name : Text) (k : ArgumentKind) → ((p : ℕ) → i ≤ p → arg_by_index c p ≡ arg_by_index (rules_from i (of name k ∷ rest)) p)
        → (((p : ℕ) → i + 1 ≤ p → arg_by_index c p ≡ arg_by_index (rules_from (i + 1) rest) p) → Comes c (i + 1) (word_names rest))
        → (((p : ℕ) → i ≤ p → arg_by_index c p ≡ arg_by_index (rules_from i rest) p) → Comes c i (word_names rest))
        → Comes c i (word_names (of name k ∷ rest))
    go name a_word agrees word other =
        let next : min (i + 1) usize_max ≡ i + 1 = next_index i (length rest) within in (
          agrees i (omega arith) ∙ rw (same_index i) refl,
          rw next (word (λ p past. agrees p (omega arith) ∙ rw (index_past i p (omega arith), next) refl)),
        )
    go name a_flag agrees word other = other (λ p past. agrees p past)
    go name (an_option needed) agrees word other = other (λ p past. agrees p past)
