-- The literals of a term.
use Rattle.std.specs.Prelude.{List, [], ◌∷◌}
use Rattle.prs_core.specs.declared.rule.Literal.{Literal}
use Rattle.prs_core.specs.declared.rule.Literals.{Literals}
use Rattle.prs_core.specs.declared.rule.Literals.TheVariants.{One, Two, Three, More}

abbrev pub term_literals : Literals → List Literal
term_literals (One l) = l ∷ []
term_literals (Two ls) = ls
term_literals (Three ls) = ls
term_literals (More ls) = ls.items
