-- Texts of programs that every later stage serves.
use Rattle.std.specs.Prelude.{◌≡◌, ℕ, ◌-◌, ◌≤◌, List, [], ◌∷◌, ◌++◌, length, map, codes, decimal}
use Rattle.std.specs.List.{range_with_len}
use Rattle.chp_base.specs.declared.channel.Channel.{Channel}
use Rattle.chp_base.specs.declared.channel.Kind.{Kind}
use Rattle.chp_base.specs.declared.channel.Kind.TheVariants.{In, Out, Chan}
use Rattle.chp_syntax.specs.Reading.{Reads}
use Rattle.chp_syntax.specs.Trees.{ProgramTree}
use Rattle.handshake_expand.specs.Layout.{node_count}
use Rattle.width_check.specs.Accepted.{IsAccepted}
use Rattle.width_check.specs.Form.{typed_form}

-- a channel of eight bits, called c and its number
abbrev pub byte_channel : Kind → (number : ℕ) → Channel
byte_channel kind number = record { name = codes "c" ++ decimal number; kind = kind; width = 8 }

-- the channels of a program of so many stages: the first one comes from outside, the last one leads out, and those
-- between join two stages
abbrev pub pipeline_channels : (stages : ℕ) → List Channel
pipeline_channels stages =
    byte_channel In 0 ∷ map (byte_channel Chan) (range_with_len 1 (stages - 1)) ++ byte_channel Out stages ∷ []

-- the text is within the limit of program texts, and reads as an accepted program with these channels and with a
-- circuit of at most so many nodes
pub record IsServed (text : List ℕ) (channels : List Channel) (most : ℕ) : Type 0 where
  pub program : ProgramTree
  pub short : length text ≤ 262144
  pub reads : Reads text program
  pub accepted : IsAccepted program
  pub wired : (typed_form program).channels ≡ channels
  pub few : node_count (typed_form program) ≤ most
