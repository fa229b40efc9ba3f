-- Parts that don't keep their contracts, at the nodes 0, 1, ..
use Rattle.std.proofs.Common.{ℕ, Bool, false, [], ◌∷◌, refl}
use Rattle.prs_core.specs.Nets.{is_high, is_low, one_term}
use Rattle.prs_core.specs.Pairs.{no_rules}
use Rattle.prs_core.specs.Parts.{Part, owned, Keeps, at_first}
use Rattle.prs_core.specs.Breaking.{broken}
use Rattle.cell_sequence.specs.Sequence.{q_child, q_latch, q_next, loop_request}
use Rattle.cell_sequence.specs.Handshakes.{q_part, loop_part}
use Rattle.cell_sequence.proofs.Numbered.{first_ports}

abbrev all_low_first : ℕ → Bool
all_low_first n = false

-- A Q-element that runs its child for ever: its child's request follows the answer alone, r & ~d -> c+ and d -> c-.
abbrev restless : Part
restless = record (q_part first_ports) { own = owned 1 (loop_request 0 2) ∷ owned 3 (q_latch 0 2) ∷ owned 4 (q_next 3 2) ∷ [] }

asks_twice : ¬ Keeps restless
asks_twice = broken restless _ (0 ∷ 1 ∷ 2 ∷ 1 ∷ 2 ∷ []) (at_first all_low_first (record { outside = refl; own = refl; bits = refl })) refl

-- A Q-element whose latch rises with the request skips its child.
abbrev hasty : Part
hasty = record (q_part first_ports) {
  own =
      owned 1 (q_child 0 3)
      ∷ owned 3 (record { up = one_term (is_high 0 ∷ []); down = one_term (is_low 0 ∷ []) })
      ∷ owned 4 (q_next 3 2)
      ∷ [];
}

goes_on_too_early : ¬ Keeps hasty
goes_on_too_early = broken hasty _ (0 ∷ 3 ∷ []) (at_first all_low_first (record { outside = refl; own = refl; bits = refl })) refl

-- A loop whose request rises without its own, ~la -> lr+.
abbrev unasked : Part
unasked = record (loop_part 0 1 2 3) {
  own = owned 1 no_rules ∷ owned 2 (record { up = one_term (is_low 3 ∷ []); down = one_term (is_high 3 ∷ []) }) ∷ [];
}

runs_unasked : ¬ Keeps unasked
runs_unasked = broken unasked _ [] (at_first all_low_first (record { outside = refl; own = refl; bits = refl })) refl
