-- Answers of a site that don't keep its contract: at the nodes 0 (request), 1 (acknowledge) and 2 (answer).
use Rattle.std.proofs.Common.{ℕ, Bool, false, [], ◌∷◌, refl, List}
use Rattle.prs_core.specs.Nets.{NodeRules, is_high, is_low, one_term}
use Rattle.prs_core.specs.Parts.{Part, owned, Keeps, at_first}
use Rattle.prs_core.specs.Sites.{site_part}
use Rattle.prs_core.specs.Breaking.{broken}

abbrev with_answer : (others : List ℕ) → NodeRules → Part
with_answer others rules = record (site_part others 0 1 2) { own = owned 2 rules ∷ [] }

abbrev all_low_first : ℕ → Bool
all_low_first n = false

-- a site that is a skip under its request, r -> k+ and ~r -> k-, answers before the acknowledge
abbrev skipping : NodeRules
skipping = record { up = one_term (is_high 0 ∷ []); down = one_term (is_low 0 ∷ []) }

answers_too_early : ¬ Keeps (with_answer [] skipping)
answers_too_early = broken (with_answer [] skipping) _ (0 ∷ []) (at_first all_low_first (record { outside = refl; own = refl; bits = refl })) refl

-- a site that lets go with its request, ~r -> k-, does so while the acknowledge is high
abbrev letting_go : NodeRules
letting_go = record { up = one_term (is_high 0 ∷ is_high 1 ∷ []); down = one_term (is_low 0 ∷ []) }

lets_go_too_early : ¬ Keeps (with_answer [] letting_go)
lets_go_too_early = broken (with_answer [] letting_go) _ (0 ∷ 1 ∷ 2 ∷ 0 ∷ []) (at_first all_low_first (record { outside = refl; own = refl; bits = refl })) refl

-- a site that answers without its request, A -> k+, does so under another site's
abbrev unasked : NodeRules
unasked = record { up = one_term (is_high 1 ∷ []); down = one_term (is_low 1 ∷ []) }

answers_for_another : ¬ Keeps (with_answer (3 ∷ []) unasked)
answers_for_another = broken (with_answer (3 ∷ []) unasked) _ (3 ∷ 1 ∷ []) (at_first all_low_first (record { outside = refl; own = refl; bits = refl })) refl
