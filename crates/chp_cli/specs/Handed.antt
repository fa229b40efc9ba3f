-- What a call does to what it is given: a shelf, sinks, orders and devices, each seen by the ghost members of its
-- trait.
use Rattle.std.specs.Prelude.{◌≡◌, ℕ, ◌≤◌, ◌++◌, true, List, Option, map}
use Rattle.std.specs.declared.alloc.Global.{Global}
use Rattle.std.specs.declared.dyn_box.DynBox.{DynBox}
use Rattle.chp_edge.specs.Faults.{IsReadFault, Rose}
use Rattle.chp_edge.specs.declared.shelf.Shelf.{Ghosts as ShelfMembers}
use Rattle.chp_edge.specs.declared.sink.Sink.{Ghosts as SinkMembers}
use Rattle.event_sim.specs.declared.picker.Picker.{Ghosts as PickerMembers}
use Rattle.peer_bench.specs.declared.peer.Peer.{Ghosts as PeerMembers}
use Rattle.command_answers.specs.Answers.{Given, given_by}
use Rattle.command_words.specs.CommandWords.{Asked}
use Rattle.bench_commands.specs.Boxes.{order_seen, peer_seen}
use Rattle.bench_commands.specs.HandedIn.{HandedIn, StayHandedIn, handed_over}
use Rattle.chp_cli.specs.Ends.{asked_order, asked_peer}
use Rattle.chp_cli.specs.Settings.{Counts}
use Rattle.chp_cli.specs.declared.players.Players.{Players}

-- ---- a shelf, before the call and after it, by the members of its trait

pub record ShelfUse (S : Type 0) : Type 1 where
  pub members : ShelfMembers S
  pub before : S
  pub after : S

abbrev pub shelf_use : {S : Type 0} → ShelfMembers S → (before after : S) → ShelfUse S
shelf_use members before after = record { members = members; before = before; after = after }

-- what a command depends on of it: whether its bytes are observable, and what it holds
abbrev pub given_of : {S : Type 0} → ShelfUse S → Given
given_of shelf = given_by (shelf.members.tells shelf.before) (shelf.members.holds shelf.before)

abbrev pub faults_read : {S : Type 0} → ShelfUse S → Counts
faults_read shelf = record { before = shelf.members.faults shelf.before; after = shelf.members.faults shelf.after }

-- it is as observable as it was, holds what it held, and the count of its faults hasn't fallen
pub record KeepsShelf {S : Type 0} (shelf : ShelfUse S) : Type 0 where
  pub same : shelf.members.tells shelf.after ≡ shelf.members.tells shelf.before
  pub kept : shelf.members.holds shelf.after ≡ shelf.members.holds shelf.before
  pub counted : shelf.members.faults shelf.before ≤ shelf.members.faults shelf.after

-- a read fault of the file of this name: the count rose, or the bytes are observable and it holds no such file
abbrev pub FailsToRead : {S : Type 0} → ShelfUse S → (name : List ℕ) → Type 0
FailsToRead shelf name = IsReadFault (shelf.members.faults shelf.before) (shelf.members.faults shelf.after)
    (shelf.members.tells shelf.before) (shelf.members.holds shelf.before name)

-- ---- and a sink

pub record SinkUse (K : Type 0) : Type 1 where
  pub members : SinkMembers K
  pub before : K
  pub after : K

abbrev pub sink_use : {K : Type 0} → SinkMembers K → (before after : K) → SinkUse K
sink_use members before after = record { members = members; before = before; after = after }

abbrev pub faults_put : {K : Type 0} → SinkUse K → Counts
faults_put sink = record { before = sink.members.faults sink.before; after = sink.members.faults sink.after }

-- the count of its faults rose
abbrev pub Fails : {K : Type 0} → SinkUse K → Type 0
Fails sink = Rose (sink.members.faults sink.before) (sink.members.faults sink.after)

-- where its bytes are observable, this text was appended to what it took
abbrev pub IsAppended : {K : Type 0} → SinkUse K → (text : List ℕ) → Type 0
IsAppended sink text = sink.members.tells sink.before ≡ true →
    sink.members.written sink.after ≡ sink.members.written sink.before ++ text

-- it is as observable as it was, and the count of its faults hasn't fallen
pub record KeepsSink {K : Type 0} (sink : SinkUse K) : Type 0 where
  pub same : sink.members.tells sink.after ≡ sink.members.tells sink.before
  pub counted : sink.members.faults sink.before ≤ sink.members.faults sink.after

-- the shelf's bytes are observable, and neither it nor the output fails
pub record NothingFails {S : Type 0} (shelf : ShelfUse S) {K : Type 0} (out : SinkUse K) : Type 0 where
  pub tells : shelf.members.tells shelf.before ≡ true
  pub read : ¬ Rose (shelf.members.faults shelf.before) (shelf.members.faults shelf.after)
  pub written : ¬ Fails out

-- ---- orders and devices, each in a box, whose ghost members its table of methods brings

pub record Objects {B : Type 0} (Order : B → Type 0) {D : Type 0} (Device : D → Type 0) : Type 1 where
  pub order : (box : DynBox B Global Order) → PickerMembers (Order box.vtable)
  pub peer : (box : DynBox D Global Device) → PeerMembers (Device box.vtable)
  pub before : Players B D Order Device
  pub after : Players B D Order Device

abbrev pub objects : {B : Type 0} {Order : B → Type 0} {D : Type 0} {Device : D → Type 0} →
    ((box : DynBox B Global Order) → PickerMembers (Order box.vtable)) →
    ((box : DynBox D Global Device) → PeerMembers (Device box.vtable)) →
    (before after : Players B D Order Device) → Objects Order Device
objects order peer before after = record { order = order; peer = peer; before = before; after = after }

-- what is known of all of them before the call and after it
abbrev pub handed_of : {B : Type 0} {Order : B → Type 0} {D : Type 0} {Device : D → Type 0} → Objects Order Device →
    HandedIn
handed_of objects = handed_over (order_seen objects.order) (peer_seen objects.peer)
    objects.before.orders.items objects.after.orders.items objects.before.peers.items objects.after.peers.items

-- All objects are still there, each in its place, with its name, and its log has at most grown; and each but the order
-- and the device that the command asks for, if it asks for such, is as it was.
abbrev pub StaysBut : {B : Type 0} {Order : B → Type 0} {D : Type 0} {Device : D → Type 0} → Option Asked →
    Objects Order Device → Type 0
StaysBut asked objects = StayHandedIn (order_seen objects.order) (peer_seen objects.peer)
    (asked_order asked (map (order_seen objects.order) objects.before.orders.items))
    (asked_peer asked (map (peer_seen objects.peer) objects.before.peers.items))
    objects.before.orders.items objects.after.orders.items objects.before.peers.items objects.after.peers.items
