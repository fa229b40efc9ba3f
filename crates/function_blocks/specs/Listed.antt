-- The gates of an expression by the numbers of their nodes: gate i has the two nodes from + 2 i and from + 2 i + 1.
use Rattle.std.specs.Prelude.{◌≡◌, ℕ, zero, suc, ◌+◌, ◌*◌, ◌<◌, Bool, true, false, if◌then◌else◌, List, [], ◌∷◌, ◌++◌, map, length, get_or}
use Rattle.prs_core.specs.Nets.{NodeRules}
use Rattle.prs_core.specs.Pairs as nodes
use Rattle.prs_core.specs.Moves.{guard_holds}
use Rattle.width_check.specs.declared.typed.Var.{Var}
use Rattle.width_check.specs.Processes.{Formula}
use Rattle.width_check.specs.Values.{width_of}
use Rattle.width_check.specs.Typing.{var_width}
use Rattle.handshake_expand.specs.Layout.{formula_size}
use Rattle.width_check.specs.Reads.{reads}
use Rattle.function_blocks.specs.Gates.{gate}
use Rattle.function_blocks.specs.Expressions.{HasBits, constant_bit, read_rail, formula_result, formula_rules}
use Rattle.function_blocks.specs.Rails.{side_of, Pairs, pair_in, Rule, Rails}
use Rattle.function_blocks.specs.Parts.{Input, BlockPart, fixed, read_bit, made, gate_count, outs_of, block_parts}
use Rattle.function_blocks.specs.Waves.{gate_rule, out_rail}

-- an input's nodes
abbrev pub placed : (from : ℕ) → Input → nodes.Pair
placed from i = if i.crossed then nodes.exchanged (nodes.pair_at (from + 2 * i.at)) else nodes.pair_at (from + 2 * i.at)

-- the rules of the two nodes of a gate, where the variables have these bits
abbrev pub part_rules : (ℕ → List nodes.Pair) → (request from : ℕ) → BlockPart → List NodeRules
part_rules bits request from (fixed v) = constant_bit request v
part_rules bits request from (read_bit x i) =
    read_rail request (nodes.pair_of (bits x) i).t ∷ read_rail request (nodes.pair_of (bits x) i).f ∷ []
part_rules bits request from (made f i more) = gate (map (placed from) (i ∷ more)) f

abbrev pub rules_listed : (ℕ → List nodes.Pair) → (request from : ℕ) → List BlockPart → List NodeRules
rules_listed bits request from [] = []
rules_listed bits request from (g ∷ gs) = part_rules bits request from g ++ rules_listed bits request from gs

-- the index of a rail among the nodes of the gates
abbrev pub rail_place : (gate : ℕ) → Bool → ℕ
rail_place zero true = 0
rail_place zero false = 1
rail_place (suc k) one = suc (suc (rail_place k one))

abbrev pub node_of : nodes.Pair → Bool → ℕ
node_of p true = p.t
node_of p false = p.f

-- Nodes that have these values: the request, the gates' rails, and those of the variables as far as they are read.
pub record Valued (vars : List Var) (bits : ℕ → List nodes.Pair) (e : Formula) (request from : ℕ) (v : ℕ → Bool)
    (r : Bool) (now : ℕ → Rails) (u : Pairs (gate_count e)) : Type 0 where
  pub asked : v request ≡ r
  pub gates : (k : ℕ) (one : Bool) → k < gate_count e
      → v (from + rail_place k one) ≡ side_of (pair_in (gate_count e) u k) one
  pub read : (x i : ℕ) (one : Bool) → reads x e ≡ true → i < var_width vars x
      → v (node_of (nodes.pair_of (bits x) i) one) ≡ now x i one

-- A node's value and what these guards say of it agree with the rule.
pub record Told (v : ℕ → Bool) (node : ℕ) (rules : NodeRules) (r : Rule) : Type 0 where
  pub now : v node ≡ r.now
  pub up : guard_holds v rules.up ≡ r.up
  pub down : guard_holds v rules.down ≡ r.down

-- The rules that are listed for an expression are those of its gates, in order.
pub record Listed (vars : List Var) (e : Formula) : Type 0 where
  pub size : formula_size e ≡ 2 * gate_count e
  pub count : length (block_parts e 0) ≡ gate_count e
  pub wide : length (outs_of e 0) ≡ width_of e
  pub result : (from : ℕ) → formula_result e from ≡ map (placed from) (outs_of e 0)
  pub rules : (bits : ℕ → List nodes.Pair) → HasBits vars bits → (request from : ℕ)
      → formula_rules bits e request from ≡ rules_listed bits request from (block_parts e 0)
  pub outputs : (bits : ℕ → List nodes.Pair) (request from : ℕ) (v : ℕ → Bool) (r : Bool) (now : ℕ → Rails)
      (u : Pairs (gate_count e)) → Valued vars bits e request from v r now u → (i : ℕ) (one : Bool) → i < width_of e
      → v (node_of (nodes.pair_of (formula_result e from) i) one) ≡ out_rail e u i one
  pub told : (bits : ℕ → List nodes.Pair) → HasBits vars bits
      → (request from : ℕ) (v : ℕ → Bool) (r : Bool) (now : ℕ → Rails) (u : Pairs (gate_count e))
      → Valued vars bits e request from v r now u → (k : ℕ) (one : Bool) → k < gate_count e
      → Told v (from + rail_place k one) (get_or (formula_rules bits e request from) (rail_place k one) nodes.no_rules)
      (gate_rule e now r u k one)
