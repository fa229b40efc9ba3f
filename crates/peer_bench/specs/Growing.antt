-- The script of what a device has offered and taken, by its notes.
use Rattle.std.specs.Prelude.{ℕ, List, length, map, slice_get, Option, Some, None}
use Rattle.std.specs.List.{range_with_len}
use Rattle.chp_base.specs.declared.channel.Kind.{Kind}
use Rattle.chp_base.specs.declared.channel.Kind.TheVariants.{In, Out, Chan}
use Rattle.prs_core.specs.declared.wires.Wires.{Wires}
use Rattle.prs_core.specs.Nets.{NetValue}
use Rattle.env_script.specs.declared.script.Count.TheVariants.{Times}
use Rattle.env_script.specs.Scripts.{OfferValue, gives, takes, nothing}
use Rattle.peer_bench.specs.declared.note.Note.{Note}
use Rattle.peer_bench.specs.Notes.{up_to, offered_on, times_ready}

-- the values that were offered, or as many acceptances as it was ready
abbrev pub offer_by : Kind → ℕ → List Note → OfferValue
offer_by In c notes = gives (offered_on c notes)
offer_by Out c notes = takes (Times (times_ready c notes))
offer_by Chan c notes = nothing

abbrev pub offer_on : Option Wires → ℕ → List Note → OfferValue
offer_on None c notes = nothing
offer_on (Some w) c notes = offer_by w.channel.kind c notes

abbrev pub script_by : NetValue → List Note → List OfferValue
script_by net notes = map (λ c. offer_on (slice_get net.channels c) c notes) (range_with_len 0 (length net.channels))

-- after so many moves
abbrev pub script_after : NetValue → List Note → ℕ → List OfferValue
script_after net notes moves = script_by net (up_to moves notes)
