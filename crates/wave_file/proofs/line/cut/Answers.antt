use Rattle.std.proofs.Common.{◌∷◌, ◌++◌, ◌+◌, length, take, sym, ap, ◌∙◌, arith}
use Rattle.std.proofs.lemmas.Slice.{between_to_end}
use Rattle.wave_file.proofs.Cutting.{cut_first, never_cut}
use Rattle.wave_file.proofs.line.cut.Goals as goal

pub returns-in_err-at-clause-none : goal.returns-in_err-at-clause-none
returns-in_err-at-clause-none c =
    rw c.from_residual.ensures (λ front rest. never_cut c.args.end c.args.text.now front rest (sym c.place_of.ensures ∙ c.in_err-at.was))

pub returns-clause-some : goal.returns-clause-some
returns-clause-some c =
    let text = c.args.text.now in
    let at = c.in_ok-at.at in
    let here = cut_first c.args.end text at (sym c.place_of.ensures ∙ c.in_ok-at.was) in
    here.0 ∙ ap (λ t. take at text ++ c.args.end ∷ t) (sym (between_to_end text (at + 1) (length text) (omega arith)))

pub returns-clause-free : goal.returns-clause-free
returns-clause-free c = (cut_first c.args.end c.args.text.now c.in_ok-at.at (sym c.place_of.ensures ∙ c.in_ok-at.was)).1
