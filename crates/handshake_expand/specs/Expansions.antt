-- What a program's circuit is made of: a block of nodes for each channel and each variable, and the tree of parts.
use Rattle.std.specs.Prelude.{ℕ, suc, ◌==◌, Bool, false, if◌then◌else◌, List, [], ◌∷◌, map}
use Rattle.chp_base.specs.declared.channel.Channel.{Channel}
use Rattle.width_check.specs.declared.typed.Var.{Var}
use Rattle.width_check.specs.Processes.{TypedProgram}
use Rattle.handshake_expand.specs.declared.site.SiteNode.{SiteNode}
use Rattle.handshake_expand.specs.declared.site.SiteKind.{SiteKind}
use Rattle.handshake_expand.specs.declared.site.SiteKind.TheVariants.{Send, Receive, Write}
use Rattle.handshake_expand.specs.declared.parts.Block.{Block}
use Rattle.handshake_expand.specs.declared.parts.Parts.{Parts}
use Rattle.handshake_expand.specs.Layout.{wires_size, block_size, channel_from, var_from}
use Rattle.handshake_expand.specs.PartTree.{PartTree, root_part, tree_of}
use Rattle.handshake_expand.specs.Sites.{in_body, own_sites}

-- the first of some nodes and how many they are, and the first own nodes of the sites whose channel or variable it is
pub record BlockValue : Type 0 where
  pub from : ℕ
  pub count : ℕ
  pub sends : List ℕ
  pub receives : List ℕ
  pub writes : List ℕ

pub record Expansion : Type 0 where
  pub channels : List BlockValue
  pub vars : List BlockValue
  pub root : PartTree

abbrev pub same_kind : SiteKind → SiteKind → Bool
same_kind (Send j) (Send k) = j == k
same_kind (Receive j) (Receive k) = j == k
same_kind (Write x) (Write y) = x == y
same_kind a b = false

-- the nodes of the sites of one kind
abbrev pub nodes_at : SiteKind → List SiteNode → List ℕ
nodes_at kind [] = []
nodes_at kind (s ∷ more) = if same_kind kind s.kind then s.node ∷ nodes_at kind more else nodes_at kind more

abbrev pub channel_block : TypedProgram → List SiteNode → ℕ → Channel → BlockValue
channel_block p sites k c =
    record {
      from = channel_from p k;
      count = wires_size c.width;
      sends = nodes_at (Send k) sites;
      receives =
          nodes_at (Receive k) sites;
      writes = [];
    }

abbrev pub var_block : TypedProgram → List SiteNode → ℕ → Var → BlockValue
var_block p sites x v =
    record {
      from = var_from p x;
      count = block_size v.width;
      sends = [];
      receives = [];
      writes =
          nodes_at (Write x) sites;
    }

-- those of some channels or variables from a number on
abbrev pub blocks_from : {A : Type 0} → (block : ℕ → A → BlockValue) → (number : ℕ) → List A → List BlockValue
blocks_from block number [] = []
blocks_from block number (x ∷ xs) = block number x ∷ blocks_from block (suc number) xs

abbrev pub channel_blocks : TypedProgram → List SiteNode → List BlockValue
channel_blocks p sites = blocks_from (channel_block p sites) 0 p.channels

abbrev pub var_blocks : TypedProgram → List SiteNode → List BlockValue
var_blocks p sites = blocks_from (var_block p sites) 0 p.vars

abbrev pub expansion : TypedProgram → Expansion
expansion p =
    let sites = in_body p (own_sites p) in
    record { channels = channel_blocks p sites; vars = var_blocks p sites; root = root_part p }

-- what the parts of a program are
abbrev pub block_value : Block → BlockValue
block_value b = record {
  from = b.from;
  count = b.count;
  sends = b.sends.items;
  receives = b.receives.items;
  writes =
      b.writes.items;
}

abbrev pub expansion_of : Parts → Expansion
expansion_of parts =
    record {
      channels = map block_value parts.channels.items;
      vars = map block_value parts.vars.items;
      root =
          tree_of parts.root;
    }
