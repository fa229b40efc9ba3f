-- What one statement says of one channel or variable.
use Rattle.std.proofs.Common.{◌≡◌, ℕ, ◌<◌, sym, ap, ◌∙◌}
use Rattle.std.specs.Prelude.{◌==◌, if◌then◌else◌}
use Rattle.handshake_expand.specs.Layout.{capped}
use Rattle.function_blocks.proofs.Ordered.{eq_self}
use Rattle.pace_bound.specs.Noting.{IsMark}
use Rattle.pace_bound.proofs.Ending.{eq_other}

pub marked : (count place moves whole : ℕ) (f : ℕ → ℕ) → place < count → moves ≡ capped whole → ((k : ℕ) → f k ≡ (if place == k then whole else 0)) →
    IsMark count f (record { place = place; moves = moves })
marked count place moves whole f inside is same = record {
  within = inside;
  said = is ∙ ap capped (sym (same place ∙ ap (λ b. if b then whole else 0) (eq_self place)));
  alone = λ k n. same k ∙ ap (λ b. if b then whole else 0) (eq_other place k n);
}
