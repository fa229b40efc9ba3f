-- Where the wires of each channel and the block of each variable begin, in order of declaration.
use Rattle.std.specs.Prelude.{ℕ, List, length, map}
use Rattle.std.specs.List.{range_with_len}
use Rattle.width_check.specs.Processes.{TypedProgram}
use Rattle.handshake_expand.specs.Layout.{channel_from, var_from}

abbrev pub channel_firsts : TypedProgram → List ℕ
channel_firsts p = map (channel_from p) (range_with_len 0 (length p.channels))

abbrev pub var_firsts : TypedProgram → List ℕ
var_firsts p = map (var_from p) (range_with_len 0 (length p.vars))
