-- What words are to `clap`, in plain words.
use Rattle.std.specs.Prelude.{◌==◌, Bool, false, ◌∷◌, Option, Some, None, codes}
use Rattle.std.specs.Str.{bytes_eq}
use Rattle.clap.specs.Walk.{Text}

-- the text that `clap` keeps for a flag says that it was given
abbrev pub is_set : Option Text → Bool
is_set None = false
is_set (Some text) = bytes_eq text (codes "true")

-- a word that `clap` takes for a flag: a hyphen (45) with something after it
abbrev pub is_flag : Text → Bool
is_flag (first ∷ second ∷ rest) = first == 45
is_flag _ = false
