-- The ends of a channel at some nodes, written out by hand.
use Rattle.std.proofs.Common.{◌≡◌, true, false, ℕ, List, [], ◌∷◌, refl}
use Rattle.prs_core.specs.declared.rule.Literal.{Literal}
use Rattle.prs_core.specs.Nets.{NodeRules}
use Rattle.prs_core.specs.Pairs.{pairs_from}
use Rattle.cell_channel.specs.Ends.{end_answer, port_rules}

abbrev hi : ℕ → Literal
hi node = record { node = node; high = true }

abbrev lo : ℕ → Literal
lo node = record { node = node; high = false }

abbrev turns : (up down : List Literal) → NodeRules
turns up down = record { up = up ∷ []; down = down ∷ [] }

-- the answer under the request 5, where 9 is the acknowledge
answers : end_answer 5 9 ≡ turns (hi 5 ∷ hi 9 ∷ []) (lo 9 ∷ [])
answers = refl

-- two bits under the request 5, from the rails 1 to 4
ports : port_rules 5 (pairs_from 2 1) ≡ turns (hi 5 ∷ hi 1 ∷ []) (lo 5 ∷ lo 1 ∷ []) ∷ turns (hi 5 ∷ hi 2 ∷ []) (lo 5 ∷ lo 2 ∷ [])
    ∷ turns (hi 5 ∷ hi 3 ∷ []) (lo 5 ∷ lo 3 ∷ []) ∷ turns (hi 5 ∷ hi 4 ∷ []) (lo 5 ∷ lo 4 ∷ []) ∷ []
ports = refl
