-- Where no step of a parse has a fault, the form takes the words.
use Rattle.std.proofs.Common.{◌≡◌, ◌∙◌, ◌&&◌, ◌||◌, ◌==◌, ℕ, Bool, cond, true, false, not, zero, suc, refl, sym, arith, List, [], ◌∷◌, length, drop, Option, Some, None, is_some, nat_lt, nat_le}
use Rattle.std.proofs.lemmas.Bool.Decides.{nat_tests}
use Rattle.std.specs.Prelude.{encode_utf8, slice_get, codes}
use Rattle.std.specs.List.{list_all, list_any}
use Rattle.std.specs.Option.{option_map_or}
use Rattle.std.specs.Str.{bytes_eq, chars}
use Rattle.clap.specs.Lexer.{long_of, short_of}
use Rattle.clap.specs.ValueTests.{accepts}
use Rattle.clap.specs.Facts.{explicit_source, parser_of_value, unwrap_or_range}
use Rattle.clap.specs.Walk.{Held, Names, Row, Rule, Step, Text, Waiting, Walk, next, trailing, subcommand, value, action_of, arg_by_id, arg_by_index, arg_by_long, arg_by_short, attached_value, finished, has_row, is_pending, most_values, nothing_held, reacted, settled, subcommand_met, takes_several, takes_values, values_or_missing, walk, walk_from, walked, word_met}
use Rattle.clap.specs.Simple.{App, Shape, argument_words, built, is_simple}
use Rattle.clap.specs.Kinds.{Kinds, or_else, range_kinds, value_kinds}
use Rattle.clap.specs.Faults.{is_simple_and_free, action_fault, bundle_fault, bundle_step_fault, check_fault, count_fault, fault_of, flag_word_fault, flags_fault, has_free_rules, is_free_app, level_fault, long_fault, option_fault, other_fault, positional_fault, react_fault, set_fault, settle_fault, short_fault, step_fault, stray_fault, turn_fault, use_fault, values_fault, walk_fault, word_fault}
use Rattle.clap.specs.Takes.{action_passes, bundle_passes, bundle_step_passes, count_passes, default_passes, flag_word_passes, flags_pass, is_given, is_valid, level_passes, long_passes, option_passes, other_passes, positional_passes, react_passes, set_passes, settle_passes, short_passes, step_passes, takes, turn_passes, use_passes, values_pass, walk_passes, word_passes}
use Rattle.clap.specs.declared.builder.action.ArgAction.{ArgAction}
use Rattle.clap.specs.declared.builder.action.ArgAction.TheVariants as action
use Rattle.clap.specs.declared.builder.value_parser.ValueParser.{ValueParser}
use Rattle.clap.specs.declared.error.kind.ErrorKind.{ErrorKind}
use Rattle.clap.specs.declared.error.kind.ErrorKind.TheVariants as kind
use Rattle.clap.proofs.WalkLemmas.{both}
use Rattle.clap.proofs.FaultLemmas.{leaf_fault}
use Rattle.clap.proofs.SimpleLemmas.{is_nil}
use Rattle.clap.proofs.TakesLemmas.{leaf_takes}
use Rattle.command_words.specs.Forms.{is_form}

-- ---- tests and lists of kinds

and_true : (a b : Bool) → a ≡ true → b ≡ true → (a && b) ≡ true
and_true a b p q = rw (p, q) refl

either_none : (a b : Kinds) → or_else a b ≡ [] → (a ≡ []) × (b ≡ [])
either_none [] b e = (refl, e)
either_none (k ∷ ks) b e = cc

-- a test that failed gives a kind
test_none : (b : Bool) (k : ErrorKind) (ks : Kinds) → cond b [] (k ∷ ks) ≡ [] → b ≡ true
test_none true k ks e = refl
test_none false k ks e = cc

-- the kinds of a first test, or of the tests after it
chosen_none : (b : Bool) (k : ErrorKind) (ks rest : Kinds) → cond b (k ∷ ks) rest ≡ [] → (b ≡ false) × (rest ≡ [])
chosen_none true k ks rest e = cc
chosen_none false k ks rest e = (refl, e)

mapped_none : {X : Type 0} (f : X → Kinds) (p : X → Bool) (o : Option X) → ((x : X) → f x ≡ [] → p x ≡ true)
    → option_map_or f o [] ≡ [] → option_map_or p o true ≡ true
mapped_none f p None each e = refl
mapped_none f p (Some x) each e = each x e

-- ---- one use of an argument

value_none : (i : Bool) (p : ValueParser) (t : Text) → value_kinds i p t ≡ [] → accepts i p t ≡ true
value_none i p t e = test_none (accepts i p t) _ _ e

values_none : (a : Rule) (vs : List Text) → values_fault a vs ≡ [] → values_pass a vs ≡ true
values_none a [] e = refl
values_none a (v ∷ vs) e =
    let parts = either_none (value_kinds a.ignore_case (parser_of_value a.parser) v) (values_fault a vs) e in
    and_true _ _ (value_none a.ignore_case (parser_of_value a.parser) v parts.0) (values_none a vs parts.1)

exact_fits : (least most n : ℕ) → (least == most) ≡ true → (least == n) ≡ true → (nat_le least n ≡ true) × (nat_le n most ≡ true)
exact_fits least most n same exact = (grind (arith, nat_tests), grind (arith, nat_tests))

between_fits : (least most n : ℕ) → nat_lt n least ≡ false → nat_lt most n ≡ false → (nat_le least n ≡ true) × (nat_le n most ≡ true)
between_fits least most n few many = (grind (arith, nat_tests), grind (arith, nat_tests))

range_none : (least most n : ℕ) → range_kinds least most n ≡ [] → (nat_le least n ≡ true) × (nat_le n most ≡ true)
range_none least most n e =
    go (least == most) (least == n) (nat_lt n least) (nat_lt most n) refl refl refl refl (chosen_none (nat_lt 0 least && n == 0) _ _ _ e).1
  where
    go : (same exact few many : Bool) → (least == most) ≡ same → (least == n) ≡ exact → nat_lt n least ≡ few → nat_lt most n ≡ many
        → cond same (cond exact [] (kind.WrongNumberOfValues ∷ [])) (cond few (kind.TooFewValues ∷ []) (cond many (kind.TooManyValues ∷ []) [])) ≡ []
        → (nat_le least n ≡ true) × (nat_le n most ≡ true)
    go true true few many a b c d e = exact_fits least most n a b
    go true false few many a b c d e = cc
    go false exact true many a b c d e = cc
    go false exact false true a b c d e = cc
    go false exact false false a b c d e = between_fits least most n c d

repeat_none : (has again : Bool) (k : ErrorKind) → cond (has && not again) (k ∷ []) [] ≡ [] → (not has || again) ≡ true
repeat_none true true k e = refl
repeat_none true false k e = cc
repeat_none false again k e = refl

set_none : (again : Bool) (a : Rule) (values : List Text) (rows : List Row) → set_fault again a values rows ≡ [] → set_passes again a values rows ≡ true
set_none again a values rows e =
    let parts = either_none _ (values_fault a values) e in
    and_true _ _ (repeat_none (has_row a.id rows) again _ parts.0) (values_none a values parts.1)

count_none : (a : Rule) (values : List Text) (rows : List Row) → count_fault a values rows ≡ [] → count_passes a values rows ≡ true
count_none a [] rows e = value_none a.ignore_case (parser_of_value a.parser) _ e
count_none a (v ∷ vs) rows e = values_none a (v ∷ vs) e

action_none : (x : ArgAction) (again : Bool) (a : Rule) (values : List Text) (rows : List Row) → action_fault x again a values rows ≡ []
    → action_passes x again a values rows ≡ true
action_none action.Set again a values rows e = set_none again a values rows e
action_none action.SetTrue again a values rows e = set_none again a values rows e
action_none action.SetFalse again a values rows e = set_none again a values rows e
action_none action.Append again a values rows e = values_none a values e
action_none action.Count again a values rows e = count_none a values rows e
action_none action.Help again a values rows e = cc
action_none action.HelpShort again a values rows e = cc
action_none action.HelpLong again a values rows e = cc
action_none action.Version again a values rows e = cc

use_none : (again : Bool) (a : Rule) (values : List Text) (rows : List Row) → use_fault again a values rows ≡ [] → use_passes again a values rows ≡ true
use_none again a values rows e =
    let least = (unwrap_or_range a.range).start_inclusive in
    let parts = either_none (range_kinds least (most_values a) (length values)) (action_fault (action_of a) again a (values_or_missing a values) rows) e in
    let fits = range_none least (most_values a) (length values) parts.0 in
    and_true _ _ fits.0 (and_true _ _ fits.1 (action_none (action_of a) again a (values_or_missing a values) rows parts.1))

-- ---- one word

module _ (c : List Rule) (again : Bool) where
  settle_none : (h : Held) → settle_fault c again h ≡ [] → settle_passes c again h ≡ true
  settle_none h e = mapped_none
      (λ (p : Text × List Text). option_map_or (λ a. use_fault again a p.1 h.rows) (arg_by_id c p.0) [])
      (λ (p : Text × List Text). option_map_or (λ a. use_passes again a p.1 h.rows) (arg_by_id c p.0) true)
      h.pending
      (λ p. mapped_none (λ a. use_fault again a p.1 h.rows) (λ a. use_passes again a p.1 h.rows) (arg_by_id c p.0) (λ a. use_none again a p.1 h.rows)) e

  react_none : (a : Rule) (values : List Text) (h : Held) → react_fault c again a values h ≡ [] → react_passes c again a values h ≡ true
  react_none a values h e =
      let parts = either_none (settle_fault c again h) (use_fault again a values (settled c h).rows) e in
      and_true _ _ (settle_none h parts.0) (use_none again a values (settled c h).rows parts.1)

  option_none : (a : Rule) (v : Option Text) (h : Held) → option_fault c again a v h ≡ [] → option_passes c again a v h ≡ true
  option_none a (Some v) h e = react_none a (v ∷ []) h e
  option_none a None h e = settle_none h e

  long_none : (found : Option Rule) (v : Option Text) (h : Held) → long_fault c again found v h ≡ [] → long_passes c again found v h ≡ true
  long_none None v h e = cc
  long_none (Some a) v h e = go (takes_values a) (is_some v) e
    where
      go : (t s : Bool) → cond t (option_fault c again a v h) (cond s (kind.TooManyValues ∷ []) (react_fault c again a [] h)) ≡ []
          → cond t (option_passes c again a v h) (not s && react_passes c again a [] h) ≡ true
      go true s e = option_none a v h e
      go false true e = cc
      go false false e = react_none a [] h e

  short_none : (found : Option Rule) (rest : Text) (h : Held) (after : Held → Kinds) (goes : Held → Bool) → ((x : Held) → after x ≡ [] → goes x ≡ true)
      → short_fault c again found rest h after ≡ [] → short_passes c again found rest h goes ≡ true
  short_none None rest h after goes each e = cc
  short_none (Some a) rest h after goes each e = go (takes_values a) e
    where
      go : (t : Bool) → cond t (option_fault c again a (attached_value rest) h) (or_else (react_fault c again a [] h) (after (reacted c a [] h))) ≡ []
          → cond t (option_passes c again a (attached_value rest) h) (react_passes c again a [] h && goes (reacted c a [] h)) ≡ true
      go true e = option_none a (attached_value rest) h e
      go false e =
          let parts = either_none (react_fault c again a [] h) _ e in
          and_true _ _ (react_none a [] h parts.0) (each (reacted c a [] h) parts.1)

  flags_none : (k : ℕ) (flags : Text) (skip : ℕ) (h : Held) → flags_fault c again k flags skip h ≡ [] → flags_pass c again k flags skip h ≡ true
  unfolding flags_fault flags_pass
  flags_none zero flags skip h e = refl
  flags_none (suc k) flags skip h e = go (slice_get (chars flags) 0) skip (λ rest less now. flags_none k rest less now) e
    where
      go : (o : Option ℕ) (skip : ℕ) → ((rest : Text) (less : ℕ) (now : Held) → flags_fault c again k rest less now ≡ [] →
          flags_pass c again k rest less now ≡ true)
          → bundle_step_fault c again o flags skip h (flags_fault c again k) ≡ [] → bundle_step_passes c again o flags skip h (flags_pass c again k) ≡ true
      go None skip each e = refl
      go (Some x) zero each e =
          let rest = drop (length (encode_utf8 x)) flags in
          short_none (arg_by_short c x) rest h (flags_fault c again k rest 0) (flags_pass c again k rest 0) (each rest 0) e
      go (Some x) (suc less) each e = each (drop (length (encode_utf8 x)) flags) less h e

  flag_word_none : (long : Option (Text × Option Text)) (word : Text) (h : Held) → flag_word_fault c again long word h ≡ [] →
      flag_word_passes c again long word h ≡ true
  flag_word_none (Some p) word h e = long_none (arg_by_long c p.0) p.1 h e
  flag_word_none None word h e = mapped_none (λ flags. bundle_fault c again flags h) (λ flags. bundle_passes c again flags h) (short_of word)
      (λ flags. flags_none (length flags) flags h.skip (record h { skip = 0 })) e

  positional_none : (a : Rule) (h : Held) → positional_fault c again a h ≡ [] → positional_passes c again a h ≡ true
  positional_none a h e = go (is_pending a h.pending && takes_several a) e
    where
      go : (b : Bool) → cond b [] (settle_fault c again h) ≡ [] → (b || settle_passes c again h) ≡ true
      go true e = refl
      go false e = settle_none h e

-- ---- the walk

module _ (s : Shape) (names : Names) where
  other_none : (met : Option Text) (word : Text) (h : Held) → other_fault s met word h ≡ [] → other_passes s met word h ≡ true
  other_none (Some name) word h e = go (bytes_eq name (codes "help")) s.disable_help_subcommand e
    where
      go : (b d : Bool) → cond (b && not d) (kind.DisplayHelp ∷ kind.InvalidSubcommand ∷ []) [] ≡ [] → (not b || d) ≡ true
      go true true e = refl
      go true false e = cc
      go false d e = refl
  other_none None word h e = go (bytes_eq word (45 ∷ 45 ∷ [])) e
    where
      go : (b : Bool) → cond b [] (flag_word_fault s.rules s.args_override_self (long_of word) word h) ≡ []
          → (b || flag_word_passes s.rules s.args_override_self (long_of word) word h) ≡ true
      go true e = refl
      go false e = flag_word_none s.rules s.args_override_self (long_of word) word h e

  word_none : (is_trailing : Bool) (waiting : Waiting) (word : Text) (h : Held) → word_fault s names is_trailing waiting word h ≡ []
      → word_passes s names is_trailing waiting word h ≡ true
  word_none true waiting word h e = refl
  word_none false waiting word h e = other_none (subcommand_met names waiting word) word h e

  step_none : (position : ℕ) (h : Held) (step : Step) → step_fault s position h step ≡ [] → step_passes s position h step ≡ true
  step_none position h value e = go (arg_by_index s.rules position) s.is_leaf e
    where
      go : (o : Option Rule) (leaf : Bool) → option_map_or (λ a. positional_fault s.rules s.args_override_self a h) o
          (stray_fault (record s { is_leaf = leaf })) ≡ []
          → option_map_or (λ a. positional_passes s.rules s.args_override_self a h) o false ≡ true
      go (Some a) leaf e = positional_none s.rules s.args_override_self a h e
      go None true e = cc
      go None false e = cc
  step_none position h (next w) e = refl
  step_none position h (trailing p) e = refl
  step_none position h (subcommand t) e = refl

  turn_none : (w : Walk) (word : Text) → turn_fault s names w word ≡ [] → turn_passes s names w word ≡ true
  turn_none w word e = go (is_some w.stopped) (word_met s.rules names w.is_trailing w.waiting w.position word w.held) e
    where
      go : (b : Bool) (met : Held × Step) → cond b [] (or_else (word_fault s names w.is_trailing w.waiting word w.held) (step_fault s w.position met.0 met.1)) ≡
          []
          → (b || (word_passes s names w.is_trailing w.waiting word w.held && step_passes s w.position met.0 met.1)) ≡ true
      go true met e = refl
      go false met e =
          let parts = either_none (word_fault s names w.is_trailing w.waiting word w.held) (step_fault s w.position met.0 met.1) e in
          and_true _ _ (word_none w.is_trailing w.waiting word w.held parts.0) (step_none w.position met.0 met.1 parts.1)

  walk_none : (w : Walk) (words : List Text) → walk_fault s names w words ≡ [] → walk_passes s names w words ≡ true
  unfolding walk_fault walk_passes
  walk_none w [] e = refl
  walk_none w (word ∷ rest) e =
      let parts = either_none (turn_fault s names w word) _ e in
      and_true _ _ (turn_none w word parts.0) (walk_none (walked s.rules names w word) rest parts.1)

-- ---- after the walk

none_missing : (rows : List Row) (rules : List Rule) → list_any (λ a. a.required && not (is_given a.id rows)) rules ≡ false
    → list_all (λ a. not a.required || is_given a.id rows) rules ≡ true
none_missing rows [] e = refl
none_missing rows (a ∷ rest) e = go a.required (is_given a.id rows) e (none_missing rows rest)
  where
    go : (r g : Bool) → ((r && not g) || list_any (λ a. a.required && not (is_given a.id rows)) rest) ≡ false
        → (list_any (λ a. a.required && not (is_given a.id rows)) rest ≡ false → list_all (λ a. not a.required || is_given a.id rows) rest ≡ true)
        → ((not r || g) && list_all (λ a. not a.required || is_given a.id rows) rest) ≡ true
    go true true e after = after e
    go true false e after = cc
    go false g e after = after e

no_help : (has help any : Bool) → (not has && (help && not any)) ≡ false → (not help || (has || any)) ≡ true
no_help true true any e = refl
no_help true false any e = refl
no_help false true true e = refl
no_help false true false e = cc
no_help false false any e = refl

no_command : (has wanted : Bool) → (not has && wanted) ≡ false → (not wanted || has) ≡ true
no_command true true e = refl
no_command true false e = refl
no_command false true e = cc
no_command false false e = refl

valid_none : (s : Shape) (rows : List Row) (has : Bool) → list_all (λ a. a.is_free) s.rules ≡ true → check_fault s rows has ≡ [] → is_valid s rows has ≡ true
valid_none s rows has free e =
    let first = chosen_none (not has && (s.arg_required_else_help && not (list_any (λ (r : Row). explicit_source r.source) rows))) _ _ _ e in
    let second = chosen_none (not has && s.subcommand_required) _ _ _ first.1 in
    let third = chosen_none (not (s.subcommand_negates_reqs && has) && list_any (λ (a : Rule). a.required && not (is_given a.id rows)) s.rules) _ _ _ second.1
    in
    and_true _ _ (no_help has s.arg_required_else_help _ first.0)
    (and_true _ _ (no_command has s.subcommand_required second.0)
    (and_true _ _ free (go (s.subcommand_negates_reqs && has) third.0)))
  where
    go : (b : Bool) → (not b && list_any (λ (a : Rule). a.required && not (is_given a.id rows)) s.rules) ≡ false
        → (b || list_all (λ (a : Rule). not a.required || is_given a.id rows) s.rules) ≡ true
    go true e = refl
    go false e = none_missing rows s.rules e

level_none : (s : Shape) (h : Held) (words : List Text) → list_all (λ a. a.is_free) s.rules ≡ true → list_all default_passes s.rules ≡ true
    → level_fault s [] h words false [] ≡ [] → level_passes s [] h words false ≡ true
level_none s h words free defaults e =
    let end = (walk s.rules [] h words).held in
    let walked_on = either_none (walk_fault s [] (walk_from h) words) _ e in
    let settled_last = either_none (settle_fault s.rules s.args_override_self end) _ walked_on.1 in
    let filled_in = either_none _ (check_fault s (finished s.rules end) false) settled_last.1 in
    and_true _ _ (walk_none s [] (walk_from h) words walked_on.0)
    (and_true _ _ (settle_none s.rules s.args_override_self end settled_last.0)
    (and_true _ _ defaults (valid_none s (finished s.rules end) false free filled_in.1)))

-- a form takes the words at which no step has a fault
pub no_fault_takes : (a : App) (words : List Text) → is_form a ≡ true → fault_of a words ≡ [] → takes a words ≡ true
no_fault_takes a words form e =
    let parts = both _ _ form in
    let simple = both (is_simple a) (is_free_app (built a)) parts.0 in
    let more = both _ _ parts.1 in
    let free = both (has_free_rules (built a).top) _ simple.1 in
    let alone = is_nil (built a).subs more.0 in
    let given = argument_words a words in
    and_true _ _ simple.0 (leaf_takes (built a) nothing_held given alone
    (level_none (built a).top nothing_held given free.0 more.1 (sym (leaf_fault (built a) nothing_held given alone) ∙ e)))

pub simple_of : (a : App) → is_form a ≡ true → is_simple_and_free a ≡ true
simple_of a form = (both _ _ form).0
