-- The names of the nodes, in order of their numbers.
use Rattle.std.specs.Prelude.{ℕ, ◌+◌, ◌-◌, ◌*◌, List, [], ◌∷◌, ◌++◌, map, flat_map, slice_index_or, codes, decimal}
use Rattle.std.specs.List.{range_with_len}
use Rattle.chp_base.specs.declared.channel.Channel.{Channel}
use Rattle.prs_core.specs.Nets.{rail_names, ack_name}
use Rattle.width_check.specs.declared.typed.Var.{Var}
use Rattle.width_check.specs.Processes.{TypedProgram}
use Rattle.handshake_expand.specs.Layout.{block_size, vars_from, root_request, size_of}

-- every other node is named by an n and its number: those of statements and trees, of the root and of hidden
-- variables
abbrev pub numbered : ℕ → List ℕ
numbered node = codes "n" ++ decimal node

abbrev pub numbered_from : (from count : ℕ) → List (List ℕ)
numbered_from from count = map numbered (range_with_len from count)

abbrev pub wires_named : Channel → List (List ℕ)
wires_named c = rail_names c.name c.width ++ ack_name c.name ∷ []

abbrev pub wire_names : List Channel → List (List ℕ)
wire_names cs = flat_map wires_named cs

-- a bit of the variable x: x.i.t and x.i.f, and x.i.wt, x.i.wf and x.i.wa, by which it is written
abbrev pub bit_tails : List (List ℕ)
bit_tails = codes ".t" ∷ codes ".f" ∷ codes ".wt" ∷ codes ".wf" ∷ codes ".wa" ∷ []

abbrev pub bit_names : List ℕ → ℕ → List (List ℕ)
bit_names x bit = map (λ tail. x ++ codes "." ++ decimal bit ++ tail) bit_tails

abbrev pub bits_named : Var → List (List ℕ)
bits_named v = flat_map (bit_names v.name) (range_with_len 0 v.width)

-- the blocks of variables, numbered from a node on
abbrev pub block_names : List Var → (from : ℕ) → List (List ℕ)
block_names [] from = []
block_names (v ∷ vs) from =
    bits_named v ++ (numbered_from (from + 5 * v.width) (v.width - 1) ++ block_names vs (from + block_size v.width))

abbrev pub node_names : TypedProgram → List (List ℕ)
node_names p =
    codes "go" ∷ codes "done" ∷ (wire_names p.channels
    ++ (block_names p.vars (vars_from p) ++ numbered_from (root_request p) (2 + size_of p p.body)))

-- of one node
abbrev pub name_of_node : TypedProgram → (node : ℕ) → List ℕ
name_of_node p node = slice_index_or (node_names p) node []
