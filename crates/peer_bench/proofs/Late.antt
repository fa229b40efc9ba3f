-- A net with a reset node begins with reset high, so no device is asked at the start.
use Rattle.std.proofs.Common.{◌≡◌, ℕ, false, refl, ap, ◌∙◌}
use Rattle.std.specs.Prelude.{not, IsSome, Option, Some, None}
use Rattle.prs_core.specs.Nets.{NetValue, IsNet, IsReset}
use Rattle.prs_core.specs.Moves.{high}
use Rattle.env_script.specs.Environment.{in_reset}
use Rattle.event_sim.specs.Following.{power_of}
use Rattle.event_sim.proofs.Wholes.{powered}
use Rattle.peer_bench.specs.Along.{low_reset}
use Rattle.peer_bench.specs.Benches.{bench_start}

pub asks_late : (net : NetValue) → IsNet net → IsSome net.reset → low_reset net (bench_start net) ≡ false
asks_late net is some = by_reset net.reset is.reset refl some
  where
    by_reset : (o : Option ℕ) → IsReset net o → net.reset ≡ o → IsSome o → low_reset net (bench_start net) ≡ false
    by_reset None reset at none = absurd (cc none)
    by_reset (Some r) reset at there =
        ap (λ (o : Option ℕ). not (in_reset o (high (power_of net false)))) at
        ∙ ap not ((powered net false is some).others r reset.undriven ∙ reset.high)
