use Rattle.std.proofs.Common.{◌∷◌, [], drop, sym, ap, ◌∙◌}
use Rattle.std.specs.Prelude.{decimal}
use Rattle.std.proofs.lemmas.List.{append_assoc}
use Rattle.wave_file.proofs.Cutting.{cut_once, no_end_in_decimal}
use Rattle.wave_file.proofs.line.timed_in.Goals as goal

pub returns-in_err-time-clause-none : goal.returns-in_err-time-clause-none
returns-in_err-time-clause-none c = rw c.from_residual-in_err-time.ensures (λ time rest small whole.
    let inner = ap (drop 1) (sym c.in_ok-text.ensures.some ∙ whole) ∙ append_assoc (decimal time) (10 ∷ []) rest in
    let same = cut_once 10 c.in_ok-digits.digits.now (decimal time) c.in_ok-digits.rest.now rest c.in_ok-digits.ensures.free
    (no_end_in_decimal time small) (sym c.in_ok-digits.ensures.some ∙ inner) in
    c.in_err-time.ensures.none time small same.0)
