-- Where the first channel of each name stands, as a table in the order of the names has it.
use Rattle.std.specs.Prelude.{◌≡◌, ℕ, List, position, bytes_eq}
use Rattle.std.specs.Borrow.{Bor}
use Rattle.std.specs.BTreeMap.{BTreeMap, get_by}
use Rattle.std.specs.Cmp.Lexicographic.{slice_cmp}
use Rattle.std.specs.Ordering.{nat_cmp}
use Rattle.chp_base.specs.declared.channel.Channel.{Channel}

-- at each name the table has the place of the first channel of that name, and at no other name a place
abbrev pub IsPlaceTable : List Channel → BTreeMap (Bor (List ℕ)) ℕ → Type 0
IsPlaceTable channels table = (name : List ℕ) → get_by (λ k. slice_cmp nat_cmp name k.now) table ≡
    position (λ (c : Channel). bytes_eq c.name name) channels
