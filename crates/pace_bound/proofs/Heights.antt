-- A level of a completion tree.
use Rattle.std.proofs.Common.{◌≡◌, ℕ, suc, ◌+◌, ◌-◌, ◌/◌, ◌<◌, ◌≤◌, ap, ◌∙◌, arith}
use Rattle.std.specs.Prelude.{if◌then◌else◌}
use Rattle.function_blocks.proofs.Ordered.{lt_is}
use Rattle.round_time.specs.Longest.{levels_in}

pub levels_step : (l h n : ℕ) → 1 < n → n + h ≤ l → levels_in (l - h) n ≡ suc (levels_in (l - (h + 1)) (n - n / 2))
levels_step l h n big few =
    let m : l - h ≡ suc (l - (h + 1)) = omega arith in
    let half : (n + 1) / 2 ≡ n - n / 2 = omega arith in
    ap (λ k. levels_in k n) m
    ∙ (ap (λ b. if b then suc (levels_in (l - (h + 1)) ((n + 1) / 2)) else 0) (lt_is 1 n big) ∙ ap (λ k. suc (levels_in (l - (h + 1)) k)) half)
