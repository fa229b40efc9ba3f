-- The names of the nodes of a net whose wires and variables are those of a program, where so many more come after.
use Rattle.std.specs.Prelude.{ℕ, List, ◌∷◌, ◌++◌, codes}
use Rattle.width_check.specs.Processes.{TypedProgram}
use Rattle.handshake_expand.specs.Layout.{vars_from, root_request}
use Rattle.handshake_expand.specs.Named.{numbered_from, wire_names, block_names}

abbrev pub names_to : TypedProgram → (count : ℕ) → List (List ℕ)
names_to p count =
    codes "go" ∷ codes "done"
    ∷ (wire_names p.channels ++ (block_names p.vars (vars_from p) ++ numbered_from (root_request p) count))
