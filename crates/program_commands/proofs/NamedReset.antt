-- Where no node is named reset.
use Rattle.std.proofs.Common.{◌≡◌, ◌≢◌, ℕ, ◌<◌, ◌≤◌, Bool, true, false, cond, List, length, get_or, Option, None, Some, inl, inr, refl, ap, sym, subst, arith}
use Rattle.std.specs.Prelude.{◌⊎◌, All, bytes_eq, codes, is_some}
use Rattle.std.specs.List.{position_or_len}
use Rattle.std.specs.Cmp.Lexicographic.{bytes_decides}
use Rattle.std.proofs.lemmas.Bool.{cases_lt, lt-ltb}
use Rattle.std.proofs.lemmas.List.Sums.{fails_before_first}
use Rattle.prs_core.specs.Nets.{NetValue}
use Rattle.prs_file.specs.Spelling.{NetText}
use Rattle.reset_net.specs.Resets.{reset_of}
use Rattle.command_answers.specs.declared.answer.Ending.TheVariants.{Done}
use Rattle.command_answers.specs.Answers.{writes}
use Rattle.program_commands.specs.Migrating.{MigratesNet, migrated, named_reset, resettable}
use Rattle.command_steps.specs.Steps.{IsFileOf}

abbrev is_reset : List ℕ → Bool
is_reset name = bytes_eq name (codes "reset")

pub free_names : (names : List (List ℕ)) → named_reset names ≡ None → All (λ name. name ≢ codes "reset") names
free_names names none = λ k d within is. by_order k d within is (cases_lt (position_or_len is_reset names) (length names))
  where
    by_order : (k : ℕ) (d : List ℕ) → k < length names → get_or names k d ≡ codes "reset" →
        (position_or_len is_reset names < length names) ⊎ (length names ≤ position_or_len is_reset names) → ⊥
    by_order k d within is (inl less) = absurd (cc (none, ap (λ b. cond b (Some (position_or_len is_reset names)) None) (lt-ltb _ _ less)))
    by_order k d within is (inr past) = absurd (cc (fails_before_first is_reset names k d (omega arith), (bytes_decides _ (codes "reset")).1 is))

pub none_is : (o : Option ℕ) → is_some o ≡ false → o ≡ None
none_is None is = refl
none_is (Some k) is = absurd (cc is)

-- ---- what is written for a net

some_kept : (o : Option ℕ) (n : NetValue) (text : List ℕ) → is_some o ≡ true → NetText text n → NetText text (resettable o n)
some_kept None n text is spelled = absurd (cc is)
some_kept (Some node) n text is spelled = spelled

-- one with a reset node stays as it is
pub stays : (n : NetValue) (text : List ℕ) → IsFileOf text n → is_some n.reset ≡ true → MigratesNet n (writes Done text)
stays n text file is = migrated (λ none. absurd (cc (ap (λ (o : Option ℕ). is_some o) none, is))) (some_kept n.reset n text is file.spelled)

-- another one gets one
pub reset_writes : (n : NetValue) (text : List ℕ) → n.reset ≡ None → named_reset n.names ≡ None → NetText text (reset_of n) → MigratesNet n (writes Done text)
reset_writes n text none free spelled = migrated (λ _. free) (subst (λ (o : Option ℕ). NetText text (resettable o n)) (sym none) spelled)
