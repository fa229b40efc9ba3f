-- The nodes of a file while it is read.
use Rattle.std.specs.Prelude.{◌≡◌, ◌≢◌, ℕ, ◌+◌, ◌≤◌, ◌==◌, nat_lt, Bool, false, List, [], ◌∷◌, length, slice_index_or, AllPairs, All, Option, Some, None, is_some, codes, if◌then◌else◌}
use Rattle.chp_base.specs.Names.{IsNodeName}
use Rattle.prs_file.specs.declared.fault.NetFault.{NetFault}
use Rattle.prs_file.specs.declared.fault.NetFault.TheVariants.{DoubleName, TooMany}
use Rattle.prs_file.specs.Indexes.{place_in}
use Rattle.prs_file.specs.Reading.{Form, IsTaken, last_of, ends_nodes}
use Rattle.prs_file.specs.Reading.Form.{head, node}

abbrev pub node_forms : List (List ℕ) → List Bool → List Form
node_forms [] first = []
node_forms (n ∷ names) [] = []
node_forms (n ∷ names) (v ∷ first) = node n v ∷ node_forms names first

-- the lines up to the last node
abbrev pub nodes_told : ℕ → List (List ℕ) → List Bool → List Form
nodes_told version names first = head version ∷ node_forms names first

abbrev pub node_most : ℕ → ℕ
node_most version = if version == 2 then 65537 else 65536

pub record IsNodes (version : ℕ) (names : List (List ℕ)) (first : List Bool) : Type 0 where
  pub count : length first ≡ length names
  pub some : 2 ≤ length names
  pub most : length names ≤ node_most version
  pub named : All IsNodeName names
  pub distinct : AllPairs (λ (a b : List ℕ). a ≢ b) names
  pub go : slice_index_or names 0 [] ≡ codes "go"
  pub go_low : slice_index_or first 0 false ≡ false
  pub done : slice_index_or names 1 [] ≡ codes "done"
  pub done_low : slice_index_or first 1 false ≡ false

abbrev pub node_fault_of : ℕ → List (List ℕ) → List ℕ → Option NetFault
node_fault_of version names name =
    if is_some (place_in names name) then Some DoubleName else
    (if nat_lt (node_most version) (length names + 1) then Some TooMany else None)

-- the nodes of a text up to what is left of it, and whether the node lines may end there
pub record IsNodesRead (version : ℕ) (names : List (List ℕ)) (first : List Bool) (shut : Bool)
    (text rest : List ℕ) : Type 0 where
  pub taken : IsTaken text (nodes_told version names first) rest
  pub nodes : IsNodes version names first
  pub ends : ends_nodes (version == 2) (last_of (nodes_told version names first)) ≡ shut
  pub last : (n : List ℕ) × (v : Bool) × (last_of (nodes_told version names first) ≡ Some (node n v))
