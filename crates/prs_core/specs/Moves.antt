-- What holds in a state, which moves are enabled, and what rails say.
use Rattle.std.specs.Prelude.{ℕ, ◌+◌, ◌*◌, Bool, true, false, not, ◌&&◌, List, [], ◌∷◌, slice_index_or, slice_set, if◌then◌else◌, Option, Some, None, option_map}
use Rattle.std.specs.List.{list_any, list_all}
use Rattle.prs_core.specs.declared.rule.Literal.{Literal}
use Rattle.prs_core.specs.Nets.{GuardValue, NetValue, up_of, down_of}

-- a node's value in a state
abbrev pub high : List Bool → ℕ → Bool
high state node = slice_index_or state node false

-- under the values of the nodes
abbrev pub literal_holds : (ℕ → Bool) → Literal → Bool
literal_holds v l = if l.high then v l.node else not (v l.node)

abbrev pub term_holds : (ℕ → Bool) → List Literal → Bool
term_holds v t = list_all (literal_holds v) t

abbrev pub guard_holds : (ℕ → Bool) → GuardValue → Bool
guard_holds v g = list_any (term_holds v) g

-- the rule that would turn the node's value over holds
abbrev pub rule_enabled : NetValue → (ℕ → Bool) → ℕ → Bool
rule_enabled net v n = if v n then guard_holds v (down_of net n) else guard_holds v (up_of net n)

abbrev pub both_ways : NetValue → (ℕ → Bool) → ℕ → Bool
both_ways net v n = guard_holds v (up_of net n) && guard_holds v (down_of net n)

-- the state with this node turned over
abbrev pub fired : List Bool → ℕ → List Bool
fired state n = slice_set state n (not (high state n))

-- the number on pairs of rails t and f, the lowest bit first; none where a pair hasn't exactly one rail high
abbrev pub bit_value : Bool → Bool → Option ℕ
bit_value true false = Some 1
bit_value false true = Some 0
bit_value true true = None
bit_value false false = None

abbrev pub with_bit : Option ℕ → Option ℕ → Option ℕ
with_bit None rest = None
with_bit (Some bit) rest = option_map (λ n. bit + 2 * n) rest

abbrev pub rail_value_of : (ℕ → Bool) → List ℕ → Option ℕ
rail_value_of v [] = Some 0
rail_value_of v (t ∷ []) = None
rail_value_of v (t ∷ f ∷ rest) = with_bit (bit_value (v t) (v f)) (rail_value_of v rest)

abbrev pub neutral : (ℕ → Bool) → List ℕ → Bool
neutral v rails = list_all (λ rail. not (v rail)) rails
