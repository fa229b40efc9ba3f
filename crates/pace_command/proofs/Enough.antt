-- How many sweeps are enough for the net with copies: no more than is printed, and few, so that it isn't more where that is cut at
-- 2^64 - 1 either. And where so many are enough more are.
--
-- p: the program without procedures; script, n: rounds of it.
use Rattle.std.proofs.Common.{◌≡◌, ◌⊎◌, inl, inr, ℕ, zero, suc, ◌+◌, ◌-◌, ◌*◌, ◌<◌, ◌≤◌, Bool, true, false, List, [], refl, ap, subst, arith}
use Rattle.std.proofs.lemmas.Bool.{cases_lt}
use Rattle.std.proofs.lemmas.Nat.{mul-le}
use Rattle.std.proofs.Math.Nat.{mul-le-mul_left}
use Rattle.std.specs.Prelude.{min, if◌then◌else◌}
use Rattle.prs_core.specs.Nets.{NetValue, IsNet}
use Rattle.env_script.specs.OneLength.{AllSafe}
use Rattle.env_script.specs.Runs.{RunState, begin_at}
use Rattle.env_script.specs.Scripts.{OfferValue}
use Rattle.env_script.specs.Sweeps.{Layers}
use Rattle.width_check.specs.Processes.{TypedProgram}
use Rattle.chp_meaning.specs.Halves.{halved_program}
use Rattle.handshake_expand.specs.Layout.{nodes_of}
use Rattle.round_time.specs.Longest.{longest}
use Rattle.round_time.specs.Sums.{rounds_sum}
use Rattle.net_compose.specs.Time.{PassesInSweeps, sweeps_for_round}
use Rattle.net_compose.proofs.TimeKept.{passes_by_safe}
use Rattle.net_pace.specs.Pace.{IsRoundTime, as_halves, as_whole}
use Rattle.net_pace.specs.Sums.{IsRoundsTime, as_summed, as_counted}
use Rattle.net_pace.proofs.SweepLayers.{layers_by_sweeps}
use Rattle.pace_command.specs.Pacing.{whole_bound, whole_sum}
use Rattle.pace_command.specs.Targets.{reads_target}
use Rattle.pace_command.proofs.Untargeted.{untargeted}

-- for a round
pub record Round (p : TypedProgram) : Type 0 where
  pub sweeps : ℕ
  pub enough : IsRoundTime p sweeps
  pub within : sweeps ≤ whole_bound p
  pub few : sweeps ≤ 262146

pub round_of : (p : TypedProgram) → nodes_of p ≤ 65536 → Round p
round_of p nodes = by (reads_target p.body) refl
  where
    bound_is : (b : Bool) → reads_target p.body ≡ b → whole_bound p ≡ (if b then 2 * longest (halved_program p) else longest p)
    bound_is b is = ap (λ c. if c then 2 * longest (halved_program p) else longest p) is

    by : (b : Bool) → reads_target p.body ≡ b → Round p
    by true is = let bound : whole_bound p ≡ 2 * longest (halved_program p) = bound_is true is in
        record {
          sweeps = 2 * min (longest (halved_program p)) (sweeps_for_round p);
          enough = as_halves;
          within = omega (arith, bound);
          few = omega (arith, nodes);
        }
    by false is = let bound : whole_bound p ≡ longest p = bound_is false is in
        record {
          sweeps = min (longest p) (sweeps_for_round p);
          enough = as_whole (untargeted p.body is);
          within = omega (arith, bound);
          few = omega (arith, nodes);
        }

-- for rounds under a script
pub record Rounds (p : TypedProgram) (script : List OfferValue) (n : ℕ) : Type 0 where
  pub sweeps : ℕ
  pub enough : IsRoundsTime p script n sweeps
  pub within : sweeps ≤ whole_sum p script n
  pub few : sweeps ≤ 262146000

pub rounds_of : (p : TypedProgram) → nodes_of p ≤ 65536 → (script : List OfferValue) (n : ℕ) → n ≤ 1000 → Rounds p script n
rounds_of p nodes script n most = by (reads_target p.body) refl
  where
    r : Round p
    r = round_of p nodes

    few_each : n * r.sweeps ≤ 262146000
    few_each = mul-le n r.sweeps 1000 262146 most r.few

    sum_is : (b : Bool) → reads_target p.body ≡ b → whole_sum p script n ≡ (if b then n * whole_bound p else rounds_sum p script n)
    sum_is b is = ap (λ c. if c then n * whole_bound p else rounds_sum p script n) is

    by_less : reads_target p.body ≡ false → (rounds_sum p script n < n * r.sweeps) ⊎ (n * r.sweeps ≤ rounds_sum p script n) → Rounds p script n
    by_less is (inl less) = let sum : whole_sum p script n ≡ rounds_sum p script n = sum_is false is in
        record {
          sweeps = rounds_sum p script n;
          enough = as_summed (untargeted p.body is);
          within = omega (arith, sum);
          few = omega (arith, less, few_each);
        }
    by_less is (inr more) = let sum : whole_sum p script n ≡ rounds_sum p script n = sum_is false is in
        record { sweeps = n * r.sweeps; enough = as_counted r.enough; within = omega (arith, sum, more); few = few_each }

    by : (b : Bool) → reads_target p.body ≡ b → Rounds p script n
    by true is = let sum : whole_sum p script n ≡ n * whole_bound p = sum_is true is in
        let each = mul-le-mul_left n r.within in
        record { sweeps = n * r.sweeps; enough = as_counted r.enough; within = omega (arith, sum, each); few = few_each }
    by false is = by_less is (cases_lt (rounds_sum p script n) (n * r.sweeps))

-- a layer may be without a move
more_layers : (net : NetValue) (script : List OfferValue) (more few : ℕ) (st : RunState) (moves : List ℕ) → Layers net script st few moves
    → Layers net script st (more + few) moves
more_layers net script zero few st moves layers =
    let same : few ≡ zero + few = omega arith in subst (λ (k : ℕ). Layers net script st k moves) same layers
more_layers net script (suc more) few st moves layers =
    let same : suc (more + few) ≡ suc more + few = omega arith in
    subst (λ (k : ℕ). Layers net script st k moves) same ([], moves, refl, tt, more_layers net script more few st moves layers)

-- what passes in so many sweeps passes in more
pub passes_more : (net : NetValue) (p : TypedProgram) (script : List OfferValue) (n : ℕ) → IsNet net → AllSafe net script (begin_at net net.first)
    → (few many : ℕ) → few ≤ many → PassesInSweeps net p script n few → PassesInSweeps net p script n many
passes_more net p script n is safe few many less passes =
    let first = begin_at net net.first in
    let (moves, layers, passed) = layers_by_sweeps net p script n few is safe passes in
    let enough : many - few + few ≡ many = omega (arith, less) in
    passes_by_safe net p script n many is safe
    (moves, subst (λ (k : ℕ). Layers net script first k moves) enough (more_layers net script (many - few) few first moves layers), passed)
