-- A move that is enabled at the start of a run that rests can be brought to its front.
use Rattle.std.proofs.Common.{◌≡◌, ℕ, suc, ◌+◌, ◌≤◌, true, cond, List, [], ◌∷◌, length, refl, sym, ap, ◌∙◌, subst, inl, inr, arith}
use Rattle.std.specs.Prelude.{◌⊎◌, ◌==◌}
use Rattle.std.proofs.lemmas.Bool.{cases_eq, both_ways}
use Rattle.std.proofs.lemmas.List.Sums.{sum_by-cons}
use Rattle.prs_core.specs.Nets.{NetValue, IsNet}
use Rattle.env_script.specs.Scripts.{OfferValue}
use Rattle.env_script.specs.Runs.{RunState, move_enabled, moved, after, IsRun, IsAtRest, IsSafeMove}
use Rattle.env_script.specs.OneLength.{AllSafe, times_moved, IsAlike, EndsAll}
use Rattle.env_script.proofs.Commuting.{commute}

pub safe_move : (net : NetValue) (script : List OfferValue) (st : RunState) (n : ℕ) → AllSafe net script st → move_enabled net script st n ≡ true →
    IsSafeMove net script st n
safe_move net script st n all enabled = (all (n ∷ []) (enabled, tt)).1

pub safe_behind : (net : NetValue) (script : List OfferValue) (st : RunState) (n : ℕ) → AllSafe net script st → move_enabled net script st n ≡ true →
    AllSafe net script (moved net st n)
safe_behind net script st n all enabled ns run = (all (n ∷ ns) (enabled, run)).2

once_more : ℕ → ℕ → ℕ
once_more node n = cond (n == node) 1 0

times_more : (node n : ℕ) (ns : List ℕ) → times_moved node (n ∷ ns) ≡ once_more node n + times_moved node ns
unfolding once_more
times_more node n ns = sum_by-cons (λ m. cond (m == node) 1 0) n ns

pub times_behind : (node a b : ℕ) (ns rest : List ℕ) → times_moved node ns ≡ times_moved node (a ∷ rest) →
    times_moved node (b ∷ ns) ≡ times_moved node (a ∷ b ∷ rest)
times_behind node a b ns rest same =
    omega (arith, times_more node b ns, times_more node a (b ∷ rest), times_more node b rest, times_more node a rest)

times_same : (node m : ℕ) (ms ns rest : List ℕ) → times_moved node ns ≡ times_moved node (m ∷ rest) → times_moved node ms ≡ times_moved node rest →
    times_moved node (m ∷ ms) ≡ times_moved node ns
times_same node m ms ns rest one two = omega (arith, times_more node m rest, times_more node m ms)

-- the run with the move at its front, without it
pub record Fronted (net : NetValue) (script : List OfferValue) (st : RunState) (a : ℕ) (ns : List ℕ) : Type 0 where
  pub rest : List ℕ
  pub run : IsRun net script (moved net st a) rest
  pub ends : after net (moved net st a) rest ≡ after net st ns
  pub moves : length ns ≡ suc (length rest)
  pub each : (node : ℕ) → times_moved node ns ≡ times_moved node (a ∷ rest)

bring_front : (net : NetValue) (script : List OfferValue) → IsNet net → (a : ℕ) (ns : List ℕ) (st : RunState) → AllSafe net script st →
    move_enabled net script st a ≡ true → IsRun net script st ns → IsAtRest net script (after net st ns) → Fronted net script st a ns
bring_front net script is a [] st all enabled run rests = absurd (both_ways _ (rests a) enabled)
bring_front net script is a (b ∷ ns) st all enabled run rests =
    by_move (cases_eq b a) (λ apart. bring_front net script is a ns (moved net st b) (safe_behind net script st b all run.0)
    ((safe_move net script st b all run.0).stable a (λ e. apart (sym e)) enabled) run.1 rests)
  where
    by_move : (b ≡ a) ⊎ (b ≡ a → ⊥) → ((b ≡ a → ⊥) → Fronted net script (moved net st b) a ns) → Fronted net script st a (b ∷ ns)
    by_move (inl same) later =
        subst (λ c. Fronted net script st c (b ∷ ns)) same (record { rest = ns; run = run.1; ends = refl; moves = refl; each = λ node. refl })
    by_move (inr apart) later =
        let more = later apart in
        let one = safe_move net script st a all enabled in
        let two = safe_move net script st b all run.0 in
        let meet : moved net (moved net st a) b ≡ moved net (moved net st b) a =
        commute net script st a b is (λ e. apart (sym e)) enabled run.0 one.phases two.phases in
        record {
          rest = b ∷ more.rest;
          run = (one.stable b apart run.0, subst (λ (s : RunState). IsRun net script s more.rest) (sym meet) more.run);
          ends = ap (λ (s : RunState). after net s more.rest) meet ∙ more.ends;
          moves = omega (arith, more.moves);
          each = λ node. times_behind node a b ns more.rest (more.each node);
        }

bounded : (net : NetValue) (script : List OfferValue) → IsNet net → (ms ns : List ℕ) (st : RunState) → AllSafe net script st → IsRun net script st ns →
    IsAtRest net script (after net st ns) → IsRun net script st ms → length ms ≤ length ns
bounded net script is [] ns st all run rests other = omega arith
bounded net script is (m ∷ ms) ns st all run rests other =
    let front = bring_front net script is m ns st all other.0 run rests in
    let rests_too : IsAtRest net script (after net (moved net st m) front.rest) = subst (λ (s : RunState). IsAtRest net script s) (sym front.ends) rests in
    let less = bounded net script is ms front.rest (moved net st m) (safe_behind net script st m all other.0) front.run rests_too other.1 in
    omega (arith, front.moves)

nothing_left : (net : NetValue) (script : List OfferValue) (st : RunState) (ns : List ℕ) → IsAtRest net script st → IsRun net script st ns → ns ≡ []
nothing_left net script st [] rests run = refl
nothing_left net script st (n ∷ ns) rests run = absurd (both_ways _ (rests n) run.0)

all_alike : (net : NetValue) (script : List OfferValue) → IsNet net → (ms ns : List ℕ) (st : RunState) → AllSafe net script st → IsRun net script st ns →
    IsAtRest net script (after net st ns) → IsRun net script st ms → IsAtRest net script (after net st ms) → IsAlike net st ms ns
all_alike net script is [] ns st all run rests other ended =
    subst (λ (xs : List ℕ). IsAlike net st [] xs) (sym (nothing_left net script st ns ended run)) (record { moves = refl; each = λ node. refl; state = refl })
all_alike net script is (m ∷ ms) ns st all run rests other ended =
    let front = bring_front net script is m ns st all other.0 run rests in
    let rests_too : IsAtRest net script (after net (moved net st m) front.rest) = subst (λ (s : RunState). IsAtRest net script s) (sym front.ends) rests in
    let alike = all_alike net script is ms front.rest (moved net st m) (safe_behind net script st m all other.0) front.run rests_too other.1 ended in
    record {
      moves = omega (arith, front.moves, alike.moves);
      each = λ node. times_same node m ms ns front.rest (front.each node) (alike.each node);
      state = alike.state ∙ front.ends;
    }

pub ends_all : (net : NetValue) (script : List OfferValue) (st : RunState) → IsNet net → AllSafe net script st → (ns : List ℕ) → IsRun net script st ns →
    IsAtRest net script (after net st ns) → EndsAll net script st ns
ends_all net script st is all ns run rests = record {
  most = λ ms other. bounded net script is ms ns st all run rests other;
  alike = λ ms other ended. all_alike net script is ms ns st all run rests other ended;
}
