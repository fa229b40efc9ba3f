-- How a device is asked, by the script that is kept while it is asked.
use Rattle.std.specs.Prelude.{◌≡◌, ℕ, ◌+◌, Bool, true, false, ◌==◌, if◌then◌else◌, ◌<◌, ◌≤◌, List, [], ◌∷◌, ◌++◌, length, slice_get, Some}
use Rattle.std.specs.List.{list_any, range_with_len}
use Rattle.chp_base.specs.declared.channel.Kind.TheVariants.{In}
use Rattle.prs_core.specs.declared.wires.Wires.{Wires}
use Rattle.prs_core.specs.Nets.{NetValue}
use Rattle.prs_core.specs.Moves.{high}
use Rattle.env_script.specs.Scripts.{OfferValue, offer_at}
use Rattle.env_script.specs.Environment.{in_reset}
use Rattle.env_script.specs.Runs.{RunState, completed}
use Rattle.event_sim.specs.Passing.{completion}
use Rattle.event_sim.specs.Standings.{offered_count, is_done, script_and, is_idle}
use Rattle.peer_bench.specs.declared.note.Note.{Note}
use Rattle.peer_bench.specs.declared.note.Note.TheVariants.{Offered, Ready, Took}
use Rattle.peer_bench.specs.Asking.{PeerValue, HasNoted, answer_on}
use Rattle.peer_bench.specs.Along.{told_passed, lets_ask}

-- with what these notes add
abbrev pub script_noting : List Note → List OfferValue → List OfferValue
script_noting [] script = script
script_noting (Offered at chan value ∷ notes) script = script_noting notes (script_and chan value script)
script_noting (Ready at chan ∷ notes) script = script_noting notes (script_and chan 0 script)
script_noting (Took at chan value ∷ notes) script = script_noting notes script

abbrev pub asked_under : NetValue → List OfferValue → RunState → PeerValue → (at chan : ℕ) → List Note
asked_under net script st p at chan =
    if is_idle net script st chan then answer_on p (slice_get net.channels chan) at chan else []

abbrev pub IsPassBy : {P : Type 0} (known : P → PeerValue) → NetValue → RunState → (at : ℕ) → (channels : List ℕ) →
    (script behind : List OfferValue) → List Note → (was is : P) → Type 0
IsPassBy known net st at [] script behind more was is = (more ≡ []) × (behind ≡ script) × (is ≡ was)
IsPassBy {P} known net st at (c ∷ cs) script behind more was is = (mid : P) × ((rest : List Note)
    × (more ≡ asked_under net script st (known was) at c ++ rest)
    × HasNoted (asked_under net script st (known was) at c) (known was) (known mid)
    × IsPassBy known net st at cs (script_noting (asked_under net script st (known was) at c) script) behind rest mid
    is)

abbrev pub IsWholePassBy : {P : Type 0} (known : P → PeerValue) → NetValue → RunState → (at : ℕ) →
    (script behind : List OfferValue) → List Note → (was is : P) → Type 0
IsWholePassBy known net st at script behind more was is =
    IsPassBy known net st at (range_with_len 0 (length net.channels)) script behind more was is

pub data ArePassesBy {P : Type 0} (known : P → PeerValue) (net : NetValue) (st : RunState) (at : ℕ)
    (script : List OfferValue) (was : P) : List OfferValue → List Note → P → Type 0 where
  no_pass_by : ArePassesBy known net st at script was script [] was
  and_pass_by : (mid behind : List OfferValue) (more last : List Note) (between is : P) →
      ArePassesBy known net st at script was mid more between →
      IsWholePassBy known net st at mid behind last between is →
      ArePassesBy known net st at script was behind (more ++ last) is

pub record IsAskedBy {P : Type 0} (known : P → PeerValue) (net : NetValue) (st : RunState) (at : ℕ)
    (script behind : List OfferValue) (more : List Note) (was is : P) : Type 0 where
  pub mid : P
  pub passes : ArePassesBy known net st at script was behind more mid
  pub last : IsWholePassBy known net st at behind behind [] mid is

abbrev pub IsAskedByIf : {P : Type 0} → Bool → (known : P → PeerValue) → NetValue → RunState → (at : ℕ) →
    (script behind : List OfferValue) → List Note → (was is : P) → Type 0
IsAskedByIf true known net st at script behind more was is = IsAskedBy known net st at script behind more was is
IsAskedByIf false known net st at script behind more was is = (more ≡ []) × (behind ≡ script) × (is ≡ was)

-- what a device notes of one move: what it took, and its answers, where it is asked then
pub record IsMoveNoted {P : Type 0} (known : P → PeerValue) (net : NetValue) (st behind : RunState) (node at : ℕ)
    (script later : List OfferValue) (was is : P) : Type 0 where
  pub mid : P
  pub more : List Note
  pub told_is : HasNoted (told_passed net at (completion net (high st.values) node)) (known was) (known mid)
  pub asked : IsAskedByIf (lets_ask net st behind node) known net behind at script later more mid is

-- on how many channels all that is offered has completed
abbrev pub free_from : (ℕ → OfferValue) → (done : ℕ → ℕ) → (c : ℕ) → List Wires → ℕ
free_from script done c [] = 0
free_from script done c (w ∷ ws) =
    (if is_done (offered_count (script c)) (done c) then 1 else 0) + free_from script done (c + 1) ws

abbrev pub free_on : NetValue → List OfferValue → RunState → ℕ
free_on net script st = free_from (offer_at script) (completed st.histories) 0 net.channels

-- no more has completed on a channel than was offered
abbrev pub AreOffered : List OfferValue → RunState → Type 0
AreOffered script st = (c n : ℕ) → offered_count (offer_at script c) ≡ Some n → completed st.histories c ≤ n

-- A high rail of an `in` channel whose acknowledge is low brings a value that was offered and hasn't completed. While
-- a reset node is high these rails are low.
pub record AreRailsHeld (net : NetValue) (script : List OfferValue) (st : RunState) : Type 0 where
  pub low : in_reset net.reset (high st.values) ≡ true → (c r : ℕ) (w : Wires) → slice_get net.channels c ≡ Some w →
      w.channel.kind ≡ In → list_any (λ rail. r == rail) w.rails ≡ true → high st.values r ≡ false
  pub brings : (c n r : ℕ) (w : Wires) → slice_get net.channels c ≡ Some w → w.channel.kind ≡ In →
      high st.values w.ack ≡ false → list_any (λ rail. r == rail) w.rails ≡ true → high st.values r ≡ true →
      offered_count (offer_at script c) ≡ Some n → completed st.histories c < n
