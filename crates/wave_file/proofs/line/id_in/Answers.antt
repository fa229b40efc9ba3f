use Rattle.std.proofs.Common.{◌∷◌, [], sym, ◌∙◌}
use Rattle.std.proofs.lemmas.List.{append_assoc}
use Rattle.wave_file.proofs.Cutting.{cut_once, no_end_in_id}
use Rattle.wave_file.proofs.line.id_in.Goals as goal

pub returns-in_err-id-clause-none : goal.returns-in_err-id-clause-none
returns-in_err-id-clause-none c =
    rw c.from_residual.ensures (λ id rest form whole. c.in_err-id.ensures.none id rest (whole ∙ append_assoc id (10 ∷ []) rest))

pub returns-else-is_id-clause-none : goal.returns-else-is_id-clause-none
returns-else-is_id-clause-none c = λ id rest form whole.
    let same = cut_once 10 c.in_ok-id.id.now id c.in_ok-id.rest.now rest c.in_ok-id.ensures.free (no_end_in_id id form)
    (sym c.in_ok-id.ensures.some ∙ whole ∙ append_assoc id (10 ∷ []) rest) in
    absurd (cc (c.if-is_id.false, c.is_id.ensures, same.0, form))
