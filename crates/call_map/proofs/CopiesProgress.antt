-- The net with copies makes progress with its program within each bound.
use Rattle.std.specs.Prelude.{ℕ}
use Rattle.width_check.specs.Processes.{TypedProgram}
use Rattle.net_compose.specs.Translation.{translation}
use Rattle.net_compose.specs.Points.{IsTranslated}
use Rattle.net_compose.specs.Progress.{ProgressesFrom, TranslationProgresses, PlainTranslationProgresses}
use Rattle.call_map.specs.CallPace.{IsMost, always, targets_unread}

pub copies_progress : TranslationProgresses → PlainTranslationProgresses → (p : TypedProgram) → IsTranslated p → (most : ℕ → ℕ) → IsMost p most
    → ProgressesFrom (translation p) p most (translation p).first
copies_progress ends plain_ends p is most always = ends p is
copies_progress ends plain_ends p is most (targets_unread plain) = plain_ends p is plain
