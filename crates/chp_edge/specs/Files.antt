-- Files in memory.
use Rattle.std.specs.Prelude.{ℕ, Bool, List, [], Option, Some, None, drop, position, slice_get}
use Rattle.std.specs.Str.{bytes_eq}
use Rattle.std.specs.String.{string_bytes}
use Rattle.std.specs.declared.alloc.Global.{Global}
use Rattle.std.specs.declared.vec.Vec.{Vec}
use Rattle.std.specs.declared.string.String.{String}

-- a name and the bytes of its file
abbrev pub File : Type 0
File = String Global × Vec ℕ Global

abbrev pub is_named : List ℕ → File → Bool
is_named name file = bytes_eq (string_bytes file.0) name

abbrev pub bytes_of : Option File → List ℕ
bytes_of None = []
bytes_of (Some file) = file.1.items

abbrev pub held_at : List File → Option ℕ → Option (List ℕ)
held_at files None = None
held_at files (Some place) = Some (bytes_of (slice_get files place))

-- the bytes of the first file of this name
abbrev pub held_by : List File → List ℕ → Option (List ℕ)
held_by files name = held_at files (position (is_named name) files)

-- what is left of the begun file after its first bytes
abbrev pub left_at : List File → (begun : Option ℕ) → (done : ℕ) → List ℕ
left_at files None done = []
left_at files (Some place) done = drop done (bytes_of (slice_get files place))
