-- The forms of words that `clap` reads, and when the crate's reading of them is exact.
use Rattle.std.specs.Prelude.{Bool, ◌&&◌, List, map}
use Rattle.std.specs.List.{list_all}
use Rattle.std.specs.String.{string_bytes}
use Rattle.std.specs.declared.alloc.Global.{Global}
use Rattle.std.specs.declared.string.String.{String}
use Rattle.clap.specs.Faults.{is_simple_and_free}
use Rattle.clap.specs.Simple.{App, built}
use Rattle.clap.specs.Takes.{default_passes}
use Rattle.clap.specs.Walk.{Text, is_empty}

abbrev pub texts_of : List (String Global) → List Text
texts_of words = map (λ word. string_bytes word) words

-- a simple command in `clap`'s sense, with no command below it, in which no argument has a rule on
-- another, and each default is a value that its argument takes
abbrev pub is_form : App → Bool
is_form a = is_simple_and_free a
    && (is_empty (built a).subs && list_all default_passes (built a).top.rules)
