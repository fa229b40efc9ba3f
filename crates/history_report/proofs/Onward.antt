-- Further rounds.
use Rattle.std.proofs.Common.{◌≡◌, ◌⊎◌, ◌∙◌, ℕ, suc, ◌+◌, ◌-◌, ◌<◌, ◌≤◌, List, length, sym, ap, subst, inl, inr, arith}
use Rattle.std.specs.Prelude.{Option, Some, None, IfSome, IfNone}
use Rattle.env_script.specs.Runs.{history_at}
use Rattle.width_check.specs.Sharing.{MeetsSharing}
use Rattle.width_check.specs.Typed.{TypedValue}
use Rattle.width_check.specs.View.{process_of}
use Rattle.chp_meaning.specs.declared.config.Config.{Config}
use Rattle.chp_meaning.specs.Steps.{Configuration}
use Rattle.chp_meaning.specs.Rounds.{round, rounds_from}
use Rattle.chp_meaning.specs.Laws.{IsBehind}
use Rattle.chp_meaning.specs.Ends.{seen, IsOf, CanStep}
use Rattle.chp_meaning.proofs.RoundAnswers.{reached_fits, round_rests, rounds_rest, rounds_more}
use Rattle.chp_meaning.proofs.RoundRuns.{one_round_more, rounds_lead, run_behind}
use Rattle.chp_meaning.specs.Prefixes.{IsPrefixOf}
use Rattle.history_report.specs.Comparing.{IsFirstDifference}
use Rattle.history_report.proofs.Fronts.{front_longer, difference_longer}

-- `all` rounds were to be made from the first configuration, and `left` of them are left

pub one_fewer_left : (first c d : Configuration) (all left : ℕ) → 0 < left → left ≤ all → c ≡ rounds_from first (all - left) → d ≡ round c →
    d ≡ rounds_from first (all - (left - 1))
one_fewer_left first c d all left some most at is =
    let e : suc (all - left) ≡ all - (left - 1) = omega arith in
    is ∙ (ap round at ∙ (sym (one_round_more (all - left) first) ∙ ap (rounds_from first) e))

pub all_made : (first c : Configuration) (all left : ℕ) → left ≤ all → c ≡ rounds_from first (all - left) → rounds_from c left ≡ rounds_from first all
all_made first c all left most at =
    let e : (all - left) + left ≡ all = omega arith in
    ap (λ (x : Configuration). rounds_from x left) at ∙ (rounds_more (all - left) left first ∙ ap (rounds_from first) e)

pub none_left : (first c d : Configuration) (all left : ℕ) → left ≤ all → c ≡ rounds_from first (all - left) → d ≡ round c → ¬ CanStep c →
    d ≡ rounds_from first (all - 0)
none_left first c d all left most at is rest =
    let e : all ≡ all - 0 = omega arith in
    is ∙ (round_rests c rest ∙ (sym (rounds_rest left c rest) ∙ (all_made first c all left most at ∙ ap (rounds_from first) e)))

pub made_further : (first c d : Configuration) (all left fewer : ℕ) → left ≤ all → fewer ≤ left → c ≡ rounds_from first (all - left) →
    d ≡ rounds_from c (left - fewer) → d ≡ rounds_from first (all - fewer)
made_further first c d all left fewer most less at is =
    let e : (all - left) + (left - fewer) ≡ all - fewer = omega arith in
    is ∙ (ap (λ (x : Configuration). rounds_from x (left - fewer)) at ∙ (rounds_more (all - left) (left - fewer) first ∙ ap (rounds_from first) e))

-- however far they have come, all of them lead to one configuration
pub all_lead : (first c d : Configuration) (all left fewer : ℕ) → left ≤ all → fewer ≤ left →
    c ≡ rounds_from first (all - left) → d ≡ rounds_from c (left - fewer) → rounds_from d fewer ≡ rounds_from first all
all_lead first c d all left fewer most less at is =
    let within : fewer ≤ all = omega arith in
    all_made first d all fewer within (made_further first c d all left fewer most less at is)

pub from_start : (first start : Configuration) (all n : ℕ) → first ≡ start → all ≡ n → rounds_from first all ≡ rounds_from start n
from_start first start all n starts counted = ap (λ (x : Configuration). rounds_from x all) starts ∙ ap (rounds_from start) counted

-- further rounds only append

behind_later : (t : TypedValue) (c : Config) (n : ℕ) → MeetsSharing (process_of t.body) → IsOf t c → IsBehind (seen t c) (rounds_from (seen t c) n)
behind_later t c n meeting of = run_behind (rounds_lead n (seen t c) (reached_fits t (seen t c) meeting of.reached)).1

module _ (t : TypedValue) (c : Config) (left chan : ℕ) (xs : List ℕ) (meeting : MeetsSharing (process_of t.body)) (of : IsOf t c) where
  pub front_after : IsPrefixOf xs (history_at (seen t c).histories chan) → IsPrefixOf xs (history_at (rounds_from (seen t c) left).histories chan)
  front_after front =
      front_longer xs (history_at (seen t c).histories chan) (history_at (rounds_from (seen t c) left).histories chan) front
      (behind_later t c left meeting of chan)

  pub difference_after : (place : ℕ) → (left ≡ 0) ⊎ (length xs ≤ length (history_at (seen t c).histories chan))
      → IsFirstDifference xs (history_at (seen t c).histories chan) place
      → IsFirstDifference xs (history_at (rounds_from (seen t c) left).histories chan) place
  difference_after place (inl none) d =
      subst (λ (n : ℕ). IsFirstDifference xs (history_at (rounds_from (seen t c) n).histories chan) place) (sym none) d
  difference_after place (inr long) d =
      let later = behind_later t c left meeting of chan in
      subst (λ (ys : List ℕ). IsFirstDifference xs ys place) (sym later.1)
      (difference_longer xs (history_at (seen t c).histories chan) later.0 place long d)

  pub some_after : (found : Option ℕ) → (left ≡ 0) ⊎ (length xs ≤ length (history_at (seen t c).histories chan))
      → IfSome found (λ place. IsFirstDifference xs (history_at (seen t c).histories chan) place)
      → IfSome found (λ place. IsFirstDifference xs (history_at (rounds_from (seen t c) left).histories chan) place)
  some_after None enough is = tt
  some_after (Some place) enough is = difference_after place enough is

  pub none_after : (found : Option ℕ) → IfNone found (IsPrefixOf xs (history_at (seen t c).histories chan))
      → IfNone found (IsPrefixOf xs (history_at (rounds_from (seen t c) left).histories chan))
  none_after None is = front_after is
  none_after (Some place) is = tt
