use Rattle.std.proofs.Common.{◌≡◌, ℕ, ◌^◌, ◌<◌, ◌≤◌, false, inl, inr, arith}
use Rattle.std.specs.Prelude.{nat_le}
use Rattle.std.proofs.lemmas.Bool.{cases_lt}
use Rattle.std.proofs.lemmas.Bool.Decides.{nat_tests}
use Rattle.width_check.specs.Walk.{capped_width}
use Rattle.width_check.proofs.findings.is_wide.Goals as goal

-- 2 ^ 64 and 2 ^ 65 are more than any such number
too_many : (w n k : ℕ) → capped_width w ≡ k → n < 2 ^ k → false ≡ nat_le (2 ^ capped_width w) n
too_many w n k is fits = rw is (grind (arith, nat_tests))

all_fit : (w n : ℕ) → 64 ≤ w → n < 2 ^ 64 → false ≡ nat_le (2 ^ capped_width w) n
all_fit w n wide fits =
    elim (cases_lt w 65) [
      | inl less ↦ too_many w n 64 (grind arith) fits
      | inr more ↦ too_many w n 65 (grind arith) (omega arith)
    ]

pub returns-else-wanted-lt64 : goal.returns-else-wanted-lt64
returns-else-wanted-lt64 c = all_fit c.args.wanted c.args.value c.if-wanted-lt64.false (omega (arith, c.ranges.value.fits))
