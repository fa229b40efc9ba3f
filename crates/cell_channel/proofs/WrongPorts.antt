-- Receive ports that don't keep their contract: one bit at the nodes 0 (request), 1 (acknowledge), 2 and 3 (rails), 4 and 5.
use Rattle.std.proofs.Common.{ℕ, Bool, false, [], ◌∷◌, refl}
use Rattle.prs_core.specs.Nets.{NodeRules, is_high, is_low, one_term}
use Rattle.prs_core.specs.Pairs.{pair_at}
use Rattle.prs_core.specs.Parts.{Part, owned, Keeps, at_first}
use Rattle.prs_core.specs.Breaking.{broken}
use Rattle.cell_channel.specs.Handshakes.{port_bits, port_part}

abbrev with_takers : (taker : ℕ → NodeRules) → Part
with_takers taker = record (port_part 0 1 (port_bits (pair_at 2 ∷ []) 4)) { own = owned 4 (taker 2) ∷ owned 5 (taker 3) ∷ [] }

abbrev all_low_first : ℕ → Bool
all_low_first n = false

-- a port that lets go with its request, ~r -> q-, does so while the sender holds the rail
abbrev letting_go : ℕ → NodeRules
letting_go rail = record { up = one_term (is_high 0 ∷ is_high rail ∷ []); down = one_term (is_low 0 ∷ []) }

lets_go_too_early : ¬ Keeps (with_takers letting_go)
lets_go_too_early = broken (with_takers letting_go) _ (0 ∷ 2 ∷ 4 ∷ 1 ∷ 0 ∷ []) (at_first all_low_first (record { outside = refl; own = refl; bits = refl }))
    refl

-- a port that takes without its request, x -> q+
abbrev unasked : ℕ → NodeRules
unasked rail = record { up = one_term (is_high rail ∷ []); down = one_term (is_low 0 ∷ is_low rail ∷ []) }

takes_unasked : ¬ Keeps (with_takers unasked)
takes_unasked = broken (with_takers unasked) _ (3 ∷ []) (at_first all_low_first (record { outside = refl; own = refl; bits = refl })) refl
