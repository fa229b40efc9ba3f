-- The text of the tree of parts: a line for each channel, for each variable, and for each part, parents before
-- children.
use Rattle.std.specs.Prelude.{ℕ, zero, suc, ◌<◌, List, [], ◌∷◌, ◌++◌, codes, decimal}
use Rattle.std.specs.List.{concat}
use Rattle.chp_base.specs.declared.channel.Channel.{Channel}
use Rattle.width_check.specs.declared.typed.Var.{Var}
use Rattle.width_check.specs.Processes.{TypedProgram}
use Rattle.handshake_expand.specs.declared.parts.PartKind.{PartKind}
use Rattle.handshake_expand.specs.declared.parts.PartKind.TheVariants.{Root, Skip, Loop, Sequence, Parallel, Assign, Through, Send, Receive, Select, Again}
use Rattle.handshake_expand.specs.Expansions.{BlockValue, Expansion}
use Rattle.handshake_expand.specs.Named.{name_of_node}
use Rattle.handshake_expand.specs.PartTree.{PartTree, part, PartTrees, no_children, and_child}

abbrev pub kind_word : PartKind → List ℕ
kind_word Root = codes "root"
kind_word Skip = codes "skip"
kind_word Loop = codes "loop"
kind_word Sequence = codes "sequence"
kind_word Parallel = codes "parallel"
kind_word Assign = codes "assign"
kind_word Through = codes "through"
kind_word Send = codes "send"
kind_word Receive = codes "receive"
kind_word Select = codes "select"
kind_word Again = codes "again"

-- a channel or a variable, with its first node and how many it has
abbrev pub block_line : (word name : List ℕ) → BlockValue → List ℕ
block_line word name b = concat (word ∷ codes " " ∷ name ∷ codes " " ∷ decimal b.from ∷ codes " " ∷ decimal b.count
    ∷ codes "\n" ∷ [])

abbrev pub channel_lines : List Channel → List BlockValue → List ℕ
channel_lines (c ∷ cs) (b ∷ bs) = block_line (codes "channel") c.name b ++ channel_lines cs bs
channel_lines _ _ = []

abbrev pub var_lines : List Var → List BlockValue → List ℕ
var_lines (v ∷ vs) (b ∷ bs) = block_line (codes "variable") v.name b ++ var_lines vs bs
var_lines _ _ = []

-- two spaces for each level below the root
abbrev pub indent : (level : ℕ) → List ℕ
indent zero = []
indent (suc level) = codes "  " ++ indent level

-- a part: its kind, its request and its answer, its first node and how many it has
abbrev pub part_line : TypedProgram → (indent : List ℕ) → PartKind → (request answer from count : ℕ) → List ℕ
part_line p indent kind request answer from count =
    concat (indent ∷ kind_word kind ∷ codes " " ∷ name_of_node p request ∷ codes " " ∷ name_of_node p answer ∷ codes " "
    ∷ decimal from ∷ codes " " ∷ decimal count ∷ codes "\n" ∷ [])

abbrev mutual
  pub part_lines : TypedProgram → (level : ℕ) → PartTree → List ℕ
  part_lines p level (part kind request answer from count children) =
      part_line p (indent level) kind request answer from count ++ child_lines p (suc level) children

  pub child_lines : TypedProgram → (level : ℕ) → PartTrees → List ℕ
  child_lines p level no_children = []
  child_lines p level (and_child child more) = part_lines p level child ++ child_lines p level more

abbrev pub parts_text : TypedProgram → Expansion → List ℕ
parts_text p x = channel_lines p.channels x.channels ++ var_lines p.vars x.vars ++ part_lines p 0 x.root

-- the requests and the answers are nodes below a number
abbrev mutual
  pub HasNodesBelow : (count : ℕ) → PartTree → Type 0
  HasNodesBelow n (part kind request answer from count children) =
      (request < n) × (answer < n) × HaveNodesBelow n children

  pub HaveNodesBelow : (count : ℕ) → PartTrees → Type 0
  HaveNodesBelow n no_children = Unit {0}
  HaveNodesBelow n (and_child child more) = HasNodesBelow n child × HaveNodesBelow n more
