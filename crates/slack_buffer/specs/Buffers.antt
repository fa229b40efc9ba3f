-- One-place buffers on channels inside of a program, and what they keep.
use Rattle.std.specs.Prelude.{◌≡◌, ℕ, ◌-◌, ◌*◌, ◌⊎◌, ◌==◌, if◌then◌else◌, List, [], ◌∷◌, ◌++◌, length, codes, decimal}
use Rattle.chp_base.specs.declared.span.Span.{Span}
use Rattle.chp_base.specs.declared.channel.Kind.TheVariants.{Chan}
use Rattle.env_script.specs.Scripts.{OfferValue, nothing, IsScript}
use Rattle.env_script.specs.Runs.{history_at}
use Rattle.width_check.specs.Processes.{reading, Process, skipping, assigning, sending, receiving, in_turn, side_by_side, choosing, repeating, Processes, no_members, and_member, Choices, no_choices, and_choice, TypedProgram}
use Rattle.width_check.specs.Typing.{channel_width}
use Rattle.chp_meaning.specs.Steps.{Configuration, Leads, start_of}
use Rattle.chp_meaning.specs.Rounds.{rounds}
use Rattle.chp_meaning.specs.Laws.{IsBehind}
use Rattle.chp_meaning.specs.Prefixes.{IsPrefixOf}

-- what no text has
abbrev pub nowhere : Span
nowhere = record { from = 0; to = 0 }

-- the names of the new channel and the new variable
abbrev pub copy_name : ℕ → List ℕ
copy_name k = codes "B" ++ decimal k

abbrev pub slot_name : ℕ → List ℕ
slot_name k = codes "b" ++ decimal k

-- each receive on the channel becomes one on the copy
abbrev mutual
  pub rerouted : (chan copy : ℕ) → Process → Process
  rerouted chan copy skipping = skipping
  rerouted chan copy (assigning x at e) = assigning x at e
  rerouted chan copy (sending k at e) = sending k at e
  rerouted chan copy (receiving k at x x_at) = receiving (if k == chan then copy else k) at x x_at
  rerouted chan copy (in_turn members) = in_turn (rerouted_each chan copy members)
  rerouted chan copy (side_by_side members) = side_by_side (rerouted_each chan copy members)
  rerouted chan copy (choosing again choices) = choosing again (rerouted_choices chan copy choices)
  rerouted chan copy (repeating p) = repeating (rerouted chan copy p)

  pub rerouted_each : (chan copy : ℕ) → Processes → Processes
  rerouted_each chan copy no_members = no_members
  rerouted_each chan copy (and_member p more) = and_member (rerouted chan copy p) (rerouted_each chan copy more)

  pub rerouted_choices : (chan copy : ℕ) → Choices → Choices
  rerouted_choices chan copy no_choices = no_choices
  rerouted_choices chan copy (and_choice g p more) =
      and_choice g (rerouted chan copy p) (rerouted_choices chan copy more)

-- `*[X?b; B!b]`
abbrev pub passing_on : (chan width copy slot : ℕ) → Process
passing_on chan width copy slot = repeating (in_turn (and_member (receiving chan nowhere slot nowhere)
    (and_member (sending copy nowhere (reading slot (width - 1) 0 nowhere)) no_members)))

-- the program with a buffer on the channel, whose new names have the number k
abbrev pub buffered : TypedProgram → (chan k : ℕ) → TypedProgram
buffered p chan k = record {
  channels = p.channels ++ (record { name = copy_name k; kind = Chan; width = channel_width p.channels chan }) ∷ [];
  vars = p.vars ++ (record { name = slot_name k; width = channel_width p.channels chan; first = 0 }) ∷ [];
  body = side_by_side (and_member (rerouted chan (length p.channels) p.body)
      (and_member (passing_on chan (channel_width p.channels chan) (length p.channels) (length p.vars)) no_members));
}

-- the environment has no part in the new channel
abbrev pub with_nothing : List OfferValue → List OfferValue
with_nothing script = script ++ nothing ∷ []

-- what passes in a run of m steps is a prefix of what passes in 3m rounds with the buffer, and what passes on the
-- channel then is a prefix of what passes on its copy
abbrev pub KeepsPassing : TypedProgram → (chan k : ℕ) → Type 0
KeepsPassing p chan k = (script : List OfferValue) (m : ℕ) (c : Configuration) → IsScript p.channels script →
    Leads (start_of p script) m c →
    IsBehind c (rounds (buffered p chan k) (with_nothing script) (3 * m))
    × IsPrefixOf (history_at c.histories chan)
    (history_at (rounds (buffered p chan k) (with_nothing script) (3 * m)).histories (length p.channels))

-- the first list, or it without its last value
abbrev pub IsOrLacksLast : List ℕ → List ℕ → Type 0
IsOrLacksLast xs ys = (ys ≡ xs) ⊎ ((last : ℕ) × (xs ≡ ys ++ last ∷ []))

-- at any moment the copy has passed what the channel has, or all but its last value
abbrev pub LagsByOne : TypedProgram → (chan k : ℕ) → Type 0
LagsByOne p chan k = (script : List OfferValue) (m : ℕ) (c : Configuration) →
    IsScript (buffered p chan k).channels script →
    Leads (start_of (buffered p chan k) script) m c →
    IsOrLacksLast (history_at c.histories chan) (history_at c.histories (length p.channels))

-- what a buffer on a channel keeps
pub record BufferKeeps (p : TypedProgram) (chan k : ℕ) : Type 0 where
  pub passing : KeepsPassing p chan k
  pub lagging : LagsByOne p chan k
