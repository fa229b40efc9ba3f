-- Rounds of small programs, computed.
use Rattle.std.proofs.Common.{◌≡◌, ℕ, ◌-◌, Bool, true, false, [], ◌∷◌, refl}
use Rattle.chp_base.specs.declared.span.Span.{Span}
use Rattle.chp_base.specs.declared.channel.Channel.{Channel}
use Rattle.chp_base.specs.declared.channel.Kind.{Kind}
use Rattle.chp_base.specs.declared.channel.Kind.TheVariants.{In, Out, Chan}
use Rattle.chp_syntax.specs.declared.tree.Op.TheVariants as op
use Rattle.env_script.specs.declared.script.Count.TheVariants.{All, Times}
use Rattle.env_script.specs.Scripts.{gives, takes, nothing}
use Rattle.width_check.specs.declared.typed.Var.{Var}
use Rattle.width_check.specs.Processes.{Formula, constant, reading, chained, compared, no_operations, and_operation, Process, skipping, assigning, sending, receiving, in_turn, side_by_side, choosing, repeating, no_members, and_member, no_choices, and_choice, TypedProgram}
use Rattle.chp_meaning.specs.Terms.{finished, active, in_sequence, in_parallel, no_branches, and_branch}
use Rattle.chp_meaning.specs.Rounds.{rounds, enabled_places}
use Rattle.chp_meaning.specs.Halves.{halved_program}

abbrev at : Span
at = record { from = 0; to = 1 }

abbrev channel : Kind → ℕ → Channel
channel kind width = record { name = []; kind = kind; width = width }

abbrev var : ℕ → ℕ → Var
var width first = record { name = []; width = width; first = first }

abbrev both : Process → Process → Process
both p q = in_turn (and_member p (and_member q no_members))

abbrev beside : Process → Process → Process
beside p q = side_by_side (and_member p (and_member q no_members))

abbrev plus_one : ℕ → Formula
plus_one width = chained (reading 0 (width - 1) 0 at) (and_operation op.Add (constant width 1) no_operations)

-- x := x + 1; R!x with x = 255 at 8 bits
abbrev wraps : TypedProgram
wraps = record { channels = channel Out 8 ∷ []; vars = var 8 255 ∷ []; body = both (assigning 0 at (plus_one 8)) (sending 0 at (reading 0 7 0 at)) }

wraps_once : (rounds wraps (takes All ∷ []) 1).histories ≡ [] ∷ []
wraps_once = refl

wraps_twice : rounds wraps (takes All ∷ []) 2 ≡ record { term = finished; store = 0 ∷ []; rests = takes All ∷ []; histories = (0 ∷ []) ∷ [] }
wraps_twice = refl

wraps_at_rest : rounds wraps (takes All ∷ []) 9 ≡ rounds wraps (takes All ∷ []) 2
wraps_at_rest = refl

wraps_refused : (rounds wraps (takes (Times 0) ∷ []) 9).term ≡ active (sending 0 at (reading 0 7 0 at))
wraps_refused = refl

-- X!1; X?v on a channel inside: no step
abbrev stuck : TypedProgram
stuck = record { channels = channel Chan 1 ∷ []; vars = var 1 0 ∷ []; body = both (sending 0 at (constant 1 1)) (receiving 0 at 0 at) }

stuck_stays : (rounds stuck (nothing ∷ []) 20).histories ≡ [] ∷ []
stuck_stays = refl

stuck_has_no_step : enabled_places (rounds stuck (nothing ∷ []) 20) ≡ []
stuck_has_no_step = refl

-- X!1 || X?v: one step
abbrev meets : TypedProgram
meets = record { channels = channel Chan 1 ∷ []; vars = var 1 0 ∷ []; body = beside (sending 0 at (constant 1 1)) (receiving 0 at 0 at) }

meets_once : rounds meets (nothing ∷ []) 1 ≡ record { term = finished; store = 1 ∷ []; rests = nothing ∷ []; histories = (1 ∷ []) ∷ [] }
meets_once = refl

-- *[L?x; R!x] over three values
abbrev copies : TypedProgram
copies = record {
  channels = channel In 4 ∷ channel Out 4 ∷ [];
  vars = var 4 0 ∷ [];
  body =
      repeating (both (receiving 0 at 0 at) (sending 1 at (reading 0 3 0 at)));
}

copies_all : (rounds copies (gives (3 ∷ 15 ∷ 0 ∷ []) ∷ takes All ∷ []) 30).histories ≡ (3 ∷ 15 ∷ 0 ∷ []) ∷ (3 ∷ 15 ∷ 0 ∷ []) ∷ []
copies_all = refl

copies_first : (rounds copies (gives (3 ∷ 15 ∷ 0 ∷ []) ∷ takes All ∷ []) 3).histories ≡ (3 ∷ []) ∷ (3 ∷ []) ∷ []
copies_first = refl

-- [x = 0 -> A!1 [] x < 2 -> B!1] with both guards true
abbrev torn : Bool → TypedProgram
torn again = record {
  channels = channel Out 1 ∷ channel Out 1 ∷ [];
  vars = var 2 0 ∷ [];
  body =
      choosing again (and_choice (compared op.Eq (reading 0 1 0 at) (constant 2 0)) (sending 0 at (constant 1 1))
      (and_choice (compared op.Lt (reading 0 1 0 at) (constant 2 2)) (sending 1 at (constant 1 1)) no_choices));
}

torn_stays : (again : Bool) → enabled_places (rounds (torn again) (takes All ∷ takes All ∷ []) 5) ≡ []
torn_stays true = refl
torn_stays false = refl

-- *[x < 3 -> x := x + 1]; R!x
abbrev counts : TypedProgram
counts = record {
  channels = channel Out 4 ∷ [];
  vars = var 4 0 ∷ [];
  body =
      both (choosing true (and_choice (compared op.Lt (reading 0 3 0 at) (constant 4 3)) (assigning 0 at (plus_one 4)) no_choices))
      (sending 0 at (reading 0 3 0 at));
}

counts_to_three : rounds counts (takes All ∷ []) 8 ≡ record { term = finished; store = 3 ∷ []; rests = takes All ∷ []; histories = (3 ∷ []) ∷ [] }
counts_to_three = refl

-- skip || (skip; X!1): the send isn't enabled at the start of the first round
abbrev later : TypedProgram
later = record { channels = channel Out 1 ∷ []; vars = []; body = beside skipping (both skipping (sending 0 at (constant 1 1))) }

later_not_yet : rounds later (takes All ∷ []) 1 ≡ record {
  term =
      in_parallel (and_branch finished (and_branch (active (sending 0 at (constant 1 1))) no_branches));
  store = [];
  rests = takes All ∷ [];
  histories = [] ∷ [];
}
later_not_yet = refl

later_then : (rounds later (takes (Times 1) ∷ []) 2).rests ≡ takes (Times 0) ∷ []
later_then = refl

-- (skip; X?v) || X!1: the round takes the skip alone, although the send could follow it at once
abbrev awaited : TypedProgram
awaited = record { channels = channel Chan 1 ∷ []; vars = var 1 0 ∷ []; body = beside (both skipping (receiving 0 at 0 at)) (sending 0 at (constant 1 1)) }

awaited_not_yet : (rounds awaited (nothing ∷ []) 1).histories ≡ [] ∷ []
awaited_not_yet = refl

awaited_then : (rounds awaited (nothing ∷ []) 2).histories ≡ (1 ∷ []) ∷ []
awaited_then = refl

-- in halves: x := x + 1 beside y := y + 1 gets two hidden variables, and as many steps more; the rest stays
abbrev pair : TypedProgram
pair = record {
  channels = channel Out 8 ∷ [];
  vars = var 8 254 ∷ var 4 15 ∷ [];
  body =
      both (beside (assigning 0 at (plus_one 8))
      (in_turn (and_member (assigning 1 at (chained (reading 1 3 0 at) (and_operation op.Add (constant 4 1) no_operations)))
      (and_member (assigning 1 at (constant 4 7)) no_members)))) (sending 0 at (reading 0 7 0 at));
}

pair_in_halves : halved_program pair ≡ record {
  channels = pair.channels;
  vars = var 8 254 ∷ var 4 15 ∷ var 8 0 ∷ var 4 0 ∷ [];
  body = both (beside
      (both (assigning 2 at (plus_one 8)) (assigning 0 at (reading 2 7 0 at)))
      (both (both (assigning 3 at (chained (reading 1 3 0 at) (and_operation op.Add (constant 4 1) no_operations))) (assigning 1 at (reading 3 3 0 at)))
      (assigning 1 at (constant 4 7))))
      (sending 0 at (reading 0 7 0 at));
}
pair_in_halves = refl

pair_between : rounds (halved_program pair) (takes All ∷ []) 1 ≡ record {
  term = in_sequence (in_parallel (and_branch (active (assigning 0 at (reading 2 7 0 at)))
      (and_branch (in_sequence (active (assigning 1 at (reading 3 3 0 at))) (and_member (assigning 1 at (constant 4 7)) no_members)) no_branches)))
      (and_member (sending 0 at (reading 0 7 0 at)) no_members);
  store = 254 ∷ 15 ∷ 255 ∷ 0 ∷ [];
  rests = takes All ∷ [];
  histories = [] ∷ [];
}
pair_between = refl

pair_end : rounds (halved_program pair) (takes All ∷ []) 4 ≡ record {
  term = finished;
  store = 255 ∷ 7 ∷ 255 ∷ 0 ∷ [];
  rests = takes All ∷ [];
  histories =
      (255 ∷ []) ∷ [];
}
pair_end = refl

pair_end_as_before : (rounds pair (takes All ∷ []) 3).histories ≡ (255 ∷ []) ∷ []
pair_end_as_before = refl
