-- How a device is asked: channel by channel, again and again, until nothing comes.
use Rattle.std.specs.Prelude.{◌≡◌, ℕ, ◌+◌, Bool, if◌then◌else◌, List, [], ◌∷◌, ◌++◌, length, slice_get, Option, Some, None}
use Rattle.std.specs.List.{range_with_len}
use Rattle.chp_base.specs.declared.channel.Kind.{Kind}
use Rattle.chp_base.specs.declared.channel.Kind.TheVariants.{In, Out, Chan}
use Rattle.prs_core.specs.declared.wires.Wires.{Wires}
use Rattle.prs_core.specs.Nets.{NetValue}
use Rattle.env_script.specs.Runs.{RunState}
use Rattle.event_sim.specs.Standings.{is_idle}
use Rattle.peer_bench.specs.declared.note.Note.{Note}
use Rattle.peer_bench.specs.declared.note.Note.TheVariants.{Offered, Ready}
use Rattle.peer_bench.specs.Growing.{script_by}

-- what is known of a device: its name, its notes, for how many more it has room, what is due on a channel of some
-- number and width, and whether it takes a value on a channel
pub record PeerValue : Type 0 where
  pub name : List ℕ
  pub log : List Note
  pub spare : ℕ
  pub due : ℕ → ℕ → Option ℕ
  pub willing : ℕ → Bool

abbrev pub peer_value : (name : List ℕ) (log : List Note) (spare : ℕ) → (ℕ → ℕ → Option ℕ) → (ℕ → Bool) → PeerValue
peer_value name log spare due willing =
    record { name = name; log = log; spare = spare; due = due; willing = willing }

-- it noted this. Where that is nothing it is unchanged; else what is due and what it takes may be anything then.
pub record HasNoted (more : List Note) (was is : PeerValue) : Type 0 where
  pub log : is.log ≡ was.log ++ more
  pub spare : is.spare + length more ≡ was.spare
  pub name : is.name ≡ was.name
  pub same : more ≡ [] → is ≡ was

abbrev pub offer_note : (at chan : ℕ) → Option ℕ → List Note
offer_note at chan None = []
offer_note at chan (Some value) = Offered at chan value ∷ []

abbrev pub ready_note : (at chan : ℕ) → Bool → List Note
ready_note at chan ready = if ready then Ready at chan ∷ [] else []

-- its answer now, as the note that this brings
abbrev pub answer : PeerValue → Kind → (width at chan : ℕ) → List Note
answer p In width at chan = offer_note at chan (p.due chan width)
answer p Out width at chan = ready_note at chan (p.willing chan)
answer p Chan width at chan = []

abbrev pub answer_on : PeerValue → Option Wires → (at chan : ℕ) → List Note
answer_on p None at chan = []
answer_on p (Some w) at chan = answer p w.channel.kind w.channel.width at chan

-- and what it answers on a channel after these notes: it is asked only where the channel is idle
abbrev pub asked_on : NetValue → List Note → RunState → PeerValue → (at chan : ℕ) → List Note
asked_on net notes st p at chan =
    if is_idle net (script_by net notes) st chan then answer_on p (slice_get net.channels chan) at chan else []

-- Some channels are asked one after the other, after so many moves: these notes are followed by more.
abbrev pub IsPassOver : {P : Type 0} (known : P → PeerValue) → NetValue → RunState → (at : ℕ) → (channels : List ℕ) →
    (notes more : List Note) → (was is : P) → Type 0
IsPassOver known net st at [] notes more was is = (more ≡ []) × (is ≡ was)
IsPassOver {P} known net st at (c ∷ cs) notes more was is = (mid : P) × ((rest : List Note)
    × (more ≡ asked_on net notes st (known was) at c ++ rest)
    × HasNoted (asked_on net notes st (known was) at c) (known was) (known mid)
    × IsPassOver known net st at cs (notes ++ asked_on net notes st (known was) at c) rest mid is)

-- all channels, in ascending order
abbrev pub IsPass : {P : Type 0} (known : P → PeerValue) → NetValue → RunState → (at : ℕ) → (notes more : List Note) →
    (was is : P) → Type 0
IsPass known net st at notes more was is =
    IsPassOver known net st at (range_with_len 0 (length net.channels)) notes more was is

-- some passes
pub data ArePasses {P : Type 0} (known : P → PeerValue) (net : NetValue) (st : RunState) (at : ℕ) (notes : List Note)
    (was : P) : List Note → P → Type 0 where
  no_pass : ArePasses known net st at notes was [] was
  and_pass : (more last : List Note) (mid is : P) → ArePasses known net st at notes was more mid →
      IsPass known net st at (notes ++ more) last mid is → ArePasses known net st at notes was (more ++ last) is

-- passes, until a whole one brings nothing
pub record IsAsked {P : Type 0} (known : P → PeerValue) (net : NetValue) (st : RunState) (at : ℕ)
    (notes more : List Note) (was is : P) : Type 0 where
  pub mid : P
  pub passes : ArePasses known net st at notes was more mid
  pub last : IsPass known net st at (notes ++ more) [] mid is
