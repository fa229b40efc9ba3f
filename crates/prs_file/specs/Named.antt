-- Guards by the numbers of nodes, and what they say by the names of nodes.
use Rattle.std.specs.Prelude.{ℕ, List, [], ◌∷◌, ◌++◌, map, slice_index_or}
use Rattle.prs_core.specs.declared.rule.Literal.{Literal}
use Rattle.prs_core.specs.Nets.{GuardValue}
use Rattle.prs_file.specs.declared.forms.Lead.{Lead}
use Rattle.prs_file.specs.declared.forms.Lead.TheVariants.{Rule, And, Or}
use Rattle.prs_file.specs.Reading.{Signed}

abbrev pub signed_by : List (List ℕ) → Literal → Signed
signed_by names l = record { high = l.high; name = slice_index_or names l.node [] }

abbrev pub guard_named : List (List ℕ) → GuardValue → List (List Signed)
guard_named names g = map (map (signed_by names)) g

-- a literal at the end of the last term
abbrev pub at_end : {X : Type 0} → X → List (List X) → List (List X)
at_end x [] = (x ∷ []) ∷ []
at_end x (t ∷ []) = (t ++ x ∷ []) ∷ []
at_end x (t ∷ u ∷ us) = t ∷ at_end x (u ∷ us)

-- or a term of its own, by its lead
abbrev pub add_by : {X : Type 0} → Lead → X → List (List X) → List (List X)
add_by Rule x g = at_end x g
add_by And x g = at_end x g
add_by Or x g = g ++ (x ∷ []) ∷ []
