-- The sites of a program's statements on its channels and variables.
use Rattle.std.specs.Prelude.{ℕ, ◌+◌, ◌==◌, Bool, if◌then◌else◌, List, [], ◌∷◌}
use Rattle.prs_core.specs.Pairs.{Pair, pairs_from}
use Rattle.width_check.specs.Processes.{assigning, sending, receiving, TypedProgram}
use Rattle.width_check.specs.Typing.{channel_width}
use Rattle.handshake_expand.specs.Sites.{Sites}
use Rattle.function_blocks.specs.Expressions.{formula_result}
use Rattle.net_compose.specs.Translation.{assigned_rails}
use Rattle.net_compose.specs.declared.contact.Meeting.{Meeting}
use Rattle.net_compose.specs.declared.contact.Meeting.TheVariants.{Sends, Takes, Writes}

pub data ContactValue : Type 0 where
  -- the bits that are sent on a channel
  sends : (chan : ℕ) → List Pair → ContactValue
  -- the node by which a receive on a channel has stored the value
  takes : (chan node : ℕ) → ContactValue
  -- the bits by which a variable is written
  writes : (var : ℕ) → List Pair → ContactValue

abbrev pub contact_of : Meeting → ContactValue
contact_of (Sends chan site) = sends chan site
contact_of (Takes chan node) = takes chan node
contact_of (Writes var site) = writes var site

abbrev pub every_contact : TypedProgram → Sites ContactValue
every_contact p (assigning x at e) from = writes x (assigned_rails p x e from) ∷ []
every_contact p (sending chan at e) from = sends chan (formula_result e (from + 1)) ∷ []
every_contact p (receiving chan chan_at x var_at) from =
    takes chan (from + 1) ∷ writes x (pairs_from (channel_width p.channels chan) (from + 2)) ∷ []
every_contact p s from = []

-- what a site contributes to a channel as a send and as a receive, and to a variable
abbrev pub sent_by : ℕ → ContactValue → List (List Pair)
sent_by k (sends chan bits) = if chan == k then bits ∷ [] else []
sent_by k v = []

abbrev pub taken_by : ℕ → ContactValue → List ℕ
taken_by k (takes chan node) = if chan == k then node ∷ [] else []
taken_by k v = []

abbrev pub written_by : ℕ → ContactValue → List (List Pair)
written_by x (writes var bits) = if var == x then bits ∷ [] else []
written_by x v = []

-- the rail of a bit that is high for this value
abbrev pub rail_in : (one : Bool) → Pair → ℕ
rail_in one p = if one then p.t else p.f
