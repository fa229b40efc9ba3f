-- The sites of statements by channel and by variable.
use Rattle.std.specs.Prelude.{◌≡◌, ℕ, suc, ◌<◌, List, [], ◌∷◌, ◌++◌, map, length, slice_index_or}
use Rattle.std.specs.List.{flat_map}
use Rattle.std.specs.declared.alloc.Global.{Global}
use Rattle.std.specs.declared.vec.Vec.{Vec}
use Rattle.chp_base.specs.declared.channel.Channel.{Channel}
use Rattle.prs_core.specs.Nets.{NodeRules}
use Rattle.prs_core.specs.Pairs.{Pair}
use Rattle.width_check.specs.declared.typed.Var.{Var}
use Rattle.width_check.specs.Processes.{TypedProgram}
use Rattle.handshake_expand.specs.Layout.{var_from}
use Rattle.cell_variable.specs.Variables.{variable_rules}
use Rattle.net_compose.specs.Translation.{wire_rules}
use Rattle.net_compose.specs.declared.sorted.Sorted.{Sorted}
use Rattle.net_compose.specs.Contacts.{ContactValue, sends, takes, writes, sent_by, taken_by, written_by}

-- the channel or the variable of a site is one of so many
abbrev pub IsDeclaredContact : (channels vars : ℕ) → ContactValue → Type 0
IsDeclaredContact channels vars (sends chan bits) = chan < channels
IsDeclaredContact channels vars (takes chan node) = chan < channels
IsDeclaredContact channels vars (writes var bits) = var < vars

-- the list of a number
abbrev pub listed_at : {A : Type 0} → List (Vec A Global) → ℕ → List A
listed_at {A = A} lists k = slice_index_or (map (λ (list : Vec A Global). list.items) lists) k []

-- there is a list for each channel and each variable
pub record HasContactLists (channels vars : ℕ) (sorted : Sorted) : Type 0 where
  pub sent : length sorted.sent.items ≡ channels
  pub taken : length sorted.taken.items ≡ channels
  pub written : length sorted.written.items ≡ vars

-- and in it is what these sites contribute there, in their order
pub record AreSortedContacts (channels vars : ℕ) (contacts : List ContactValue) (sorted : Sorted) : Type 0 where
  pub lists : HasContactLists channels vars sorted
  pub sent : (k : ℕ) → listed_at sorted.sent.items k ≡ flat_map (sent_by k) contacts
  pub taken : (k : ℕ) → listed_at sorted.taken.items k ≡ flat_map (taken_by k) contacts
  pub written : (x : ℕ) → listed_at sorted.written.items x ≡ flat_map (written_by x) contacts

-- the wires of channels from a number on, where this is sent and taken on each
abbrev pub wires_by : (sent : ℕ → List (List Pair)) → (taken : ℕ → List ℕ) → (k : ℕ) → List Channel → List NodeRules
wires_by sent taken k [] = []
wires_by sent taken k (c ∷ cs) = wire_rules (sent k) (taken k) c.width c.kind ++ wires_by sent taken (suc k) cs

-- the blocks of a program's variables from a number on, where this is written to each
abbrev pub blocks_by : TypedProgram → (written : ℕ → List (List Pair)) → (x : ℕ) → List Var → List NodeRules
blocks_by p written x [] = []
blocks_by p written x (v ∷ vs) =
    variable_rules v.width (var_from p x) (written x) ++ blocks_by p written (suc x) vs

-- the same, where these are the sites on all of them
abbrev pub contact_wires : List ContactValue → (k : ℕ) → List Channel → List NodeRules
contact_wires contacts k cs = wires_by (λ i. flat_map (sent_by i) contacts) (λ i. flat_map (taken_by i) contacts) k cs

abbrev pub contact_blocks : TypedProgram → List ContactValue → (x : ℕ) → List Var → List NodeRules
contact_blocks p contacts x vs = blocks_by p (λ y. flat_map (written_by y) contacts) x vs
