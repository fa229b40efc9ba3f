use Rattle.std.proofs.Common.{sym, ◌∙◌, subst}
use Rattle.wave_file.specs.WaveLines.{GoesOnWithChange}
use Rattle.wave_file.proofs.Followed.{time_once}
use Rattle.wave_file.proofs.line.mark_in.Goals as goal

pub returns-else-goes_on_with_change-clause-none : goal.returns-else-goes_on_with_change-clause-none
returns-else-goes_on_with_change-clause-none c = λ time rest small goes whole.
    let same = time_once c.in_ok-time.time time c.in_ok-time.rest.now rest c.in_ok-time.ensures.small small (sym c.in_ok-time.ensures.some ∙ whole) in
    absurd (cc (c.if-goes_on_with_change.false, c.goes_on_with_change.ensures.no (subst GoesOnWithChange (sym same.1) goes)))
