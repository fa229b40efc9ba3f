-- A net that is right from every power-up state: while its reset node is high, each node is driven to its first value.
use Rattle.std.specs.Prelude.{ℕ, Bool, true, false, not, [], ◌∷◌, ◌++◌, length, map, Some, codes, if◌then◌else◌}
use Rattle.std.specs.List.{range_with_len}
use Rattle.prs_core.specs.declared.rule.Literal.{Literal}
use Rattle.prs_core.specs.Nets.{GuardValue, NetValue, first_at, up_of, down_of}

abbrev pub reset_literal : ℕ → Bool → Literal
reset_literal reset high = record { node = reset; high = high }

-- the guard of a rule that waits until the reset is over
abbrev pub held : ℕ → GuardValue → GuardValue
held reset g = map (λ t. t ++ reset_literal reset false ∷ []) g

-- the guard of a rule that the reset enables
abbrev pub forced : ℕ → GuardValue → GuardValue
forced reset g = g ++ (reset_literal reset true ∷ []) ∷ []

abbrev pub has_rules : GuardValue → GuardValue → Bool
has_rules [] [] = false
has_rules [] (t ∷ ts) = true
has_rules (t ∷ ts) down = true

-- the rule that leads away from the first value is held, the one that leads back to it is forced
abbrev pub reset_guard : ℕ → Bool → GuardValue → GuardValue
reset_guard reset leads_back g = if leads_back then forced reset g else held reset g

abbrev pub reset_up : NetValue → ℕ → GuardValue
reset_up n node =
    if has_rules (up_of n node) (down_of n node) then reset_guard (length n.first) (first_at n node) (up_of n node) else
    []

abbrev pub reset_down : NetValue → ℕ → GuardValue
reset_down n node =
    if has_rules (up_of n node) (down_of n node) then reset_guard (length n.first) (not (first_at n node))
    (down_of n node) else []

-- the net with one more node, the reset node
abbrev pub reset_of : NetValue → NetValue
reset_of n =
    let nodes = range_with_len 0 (length n.first) in
    record {
      names = n.names ++ codes "reset" ∷ [];
      first = n.first ++ true ∷ [];
      up = map (reset_up n) nodes ++ [] ∷ [];
      down = map (reset_down n) nodes ++ [] ∷ [];
      channels = n.channels;
      reset = Some (length n.first);
    }
