use Rattle.std.proofs.Common.{◌∷◌, [], ◌∙◌, ap, sym}
use Rattle.std.specs.Cmp.Lexicographic.{bytes_decides}
use Rattle.env_script.proofs.Sayings.{one_word}
use Rattle.env_script.proofs.line.is_all.Goals as goal

pub returns-in-len1-clause-yes : goal.returns-in-len1-clause-yes
returns-in-len1-clause-yes c =
    λ yes. one_word c.args.words.now _ c.in-len1.len_at_least c.in-len1.len_below
    ∙ ap (λ w. w ∷ []) ((bytes_decides _ _).0 (sym c.eq.ensures ∙ yes) ∙ c.as_slice.ensures)
