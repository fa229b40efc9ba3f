-- How many nodes the members of a group of called statements have together.
use Rattle.std.specs.Prelude.{ℕ, ◌+◌, ◌*◌, List}
use Rattle.width_check.specs.Processes.{Process, choice_count, TypedProgram}
use Rattle.handshake_expand.specs.Layout.{guards_size}
use Rattle.call_map.specs.Calling.{Calleds, no_calleds, and_called, CalledChoices, inlined_choices, called_size, called_bodies_size}

-- their Q-elements aside
abbrev pub called_members_size : List Process → TypedProgram → Calleds → ℕ
called_members_size bs p no_calleds = 0
called_members_size bs p (and_called s more) = called_size bs p s + called_members_size bs p more

-- of the branches of a selection with their guards, the latches and the starts of these
abbrev pub called_arms_size : List Process → TypedProgram → CalledChoices → ℕ
called_arms_size bs p choices =
    2 * choice_count (inlined_choices bs choices) + guards_size (inlined_choices bs choices)
    + called_bodies_size bs p choices
